-- Which of the types that reach themselves cross threads, sent or shared: trees of states, chains, types and columns. Each is shown of one
-- layer from its members.
use denote.RattleType.{RattleType}
use denote.Builtin.{bool, u8, usize}
use denote.Enum.Declared as enums
use denote.Struct.Declared as structs
use denote.Struct.Tuple.{Tuple}
use denote.Hole.{as_row}
use denote.Hole.Fix.{holes}
use denote.Hole.FixLaws.{layer_row}
use denote.Hole.FixSend.{fix_pulls}
use denote.Model.Cut.{split_one}
use denote.Model.Goals.{All, Has, Law, has_of, one_law, part_has, send, sync, tied_goals}
use denote.Model.Local.{Parts, rows}
use denote.Param.Send.{IsSend, IsSync, recorded_send, recorded_sync, sendable, view_send, view_sync}
use denote.Param.SendFields.{FieldsHave, VariantsHave, as_row_send, as_row_sync, declared_send, declared_sync, variants_send, variants_sync}
use denote.Struct.Field.{i128-field, i64-field, row_field, u64-field}
use mathlib.Core.List.{[], ◌∷◌}
use Rattle.std.proofs.Crossing.{crosses, Box-send, Box-sync, Vec-send, Vec-sync}
use Rattle.std.specs.contracts.alloc.Global as Global
use Rattle.std.specs.contracts.boxed.Box as Box
use Rattle.std.specs.contracts.impls.GlobalAllocator.TheImpl.{ghosts}
use Rattle.std.specs.contracts.vec.Vec as Vec
use Rattle.column_parts.specs.contracts.numbers.Numbers as Numbers
use Rattle.column_parts.specs.contracts.texts.Texts as Texts
use Rattle.typed_columns.specs.contracts.column.Column as Column
use Rattle.typed_columns.specs.contracts.column.Column.TheKnot as columns
use Rattle.typed_columns.specs.declared.column.Column.TheDeep as deep
use Rattle.typed_columns.specs.declared.column.Column.TheInside as inside
use Rattle.typed_columns.specs.declared.column.Kind.TheVariants as kinds
use Rattle.value_lists.specs.contracts.boxed.Boxed as Boxed
use Rattle.value_lists.specs.contracts.seq.Seq as Seq
use Rattle.value_types.specs.contracts.chain.Chain as Chain
use Rattle.value_types.specs.contracts.chain.Chain.TheKnot as chains
use Rattle.value_types.specs.contracts.leaf.Leaf as Leaf
use Rattle.value_types.specs.contracts.ty.Ty as Ty
use Rattle.value_types.specs.contracts.ty.Ty.TheKnot as types
use Rattle.value_types.specs.contracts.value.Event as Event
use Rattle.value_types.specs.contracts.value.Tree as Tree
use Rattle.value_types.specs.contracts.value.Tree.TheKnot as trees
use Rattle.value_types.specs.declared.chain.Chain.TheBlock as chain
use Rattle.value_types.specs.declared.ty.Ty.TheBlock as ty
use Rattle.value_types.specs.declared.value.Tree.TheBlock as tree

-- both laws alike
variants : (l : Law) (N : enums.Record) → VariantsHave (Has l) N.parts → Has l (enums.row (enums.declared N))
variants send N s = variants_send N s
variants sync N s = variants_sync N s

fields : (l : Law) (T : structs.Declared) → FieldsHave (Has l) T.parts → Has l (structs.row T)
fields send T s = declared_send T s
fields sync T s = declared_sync T s

-- as a field of a layer
field : (l : Law) (T : RattleType) → Has l T → Has l (as_row (row_field T))
field send T s = as_row_send (row_field T) s
field sync T s = as_row_sync (row_field T) s

-- lists, boxes and pairs
seq : (l : Law) (T : RattleType) → Has l T → Has l (Seq.the_row T)
seq send T s = search (sendable, crosses) depth 40 fits 4000
seq sync T s = search (sendable, crosses) depth 40 fits 4000

boxed : (l : Law) (T : RattleType) → Has l T → Has l (Boxed.the_row T)
boxed send T s = search (sendable, crosses) depth 40 fits 4000
boxed sync T s = search (sendable, crosses) depth 40 fits 4000

owned : (l : Law) (T : RattleType) → Has l T → Has l (Box.the_row T Global.the_row ghosts)
owned send T s = Box-send T s
owned sync T s = Box-sync T s

vec : (l : Law) (T : RattleType) → Has l T → Has l (Vec.the_row T Global.the_row ghosts)
vec send T s = Vec-send T s
vec sync T s = Vec-sync T s

pair : (l : Law) (T : RattleType) → Has l T → Has l (Tuple (T ∷ T ∷ []))
pair send T s = search (sendable, crosses) depth 40 fits 4000
pair sync T s = search (sendable, crosses) depth 40 fits 4000

list : (l : Law) (T : RattleType) → Has l T → Has l (as_row (row_field (Seq.the_row T)))
list l T s = field l (Seq.the_row T) (seq l T s)

box : (l : Law) (T : RattleType) → Has l T → Has l (as_row (row_field (Boxed.the_row T)))
box l T s = field l (Boxed.the_row T) (boxed l T s)

-- types with no reach
number : (l : Law) → Has l (as_row i128-field)
number send = search (sendable, crosses) depth 40 fits 4000
number sync = search (sendable, crosses) depth 40 fits 4000

signed : (l : Law) → Has l (as_row i64-field)
signed send = search sendable
signed sync = search sendable

whole : (l : Law) → Has l (as_row u64-field)
whole send = search sendable
whole sync = search sendable

byte : (l : Law) → Has l u8
byte send = search (sendable, crosses) depth 40 fits 4000
byte sync = search (sendable, crosses) depth 40 fits 4000

event : (l : Law) → Has l Event.the_row
event send = search (sendable, crosses) depth 40 fits 4000
event sync = search (sendable, crosses) depth 40 fits 4000

leaf : (l : Law) → Has l Leaf.the_row
leaf send = search (sendable, crosses) depth 40 fits 4000
leaf sync = search (sendable, crosses) depth 40 fits 4000

numbers : (l : Law) → Has l Numbers.the_row
numbers send = search (sendable, crosses) depth 40 fits 4000
numbers sync = search (sendable, crosses) depth 40 fits 4000

texts : (l : Law) → Has l Texts.the_row
texts send = search (sendable, crosses) depth 40 fits 4000
texts sync = search (sendable, crosses) depth 40 fits 4000

flags : (l : Law) → Has l (Vec.the_row bool Global.the_row ghosts)
flags send = search (sendable, crosses) depth 40 fits 4000
flags sync = search (sendable, crosses) depth 40 fits 4000

places : (l : Law) → Has l (Vec.the_row usize Global.the_row ghosts)
places send = search (sendable, crosses) depth 40 fits 4000
places sync = search (sendable, crosses) depth 40 fits 4000

-- trees of states, and the values in them
tree-layer : (l : Law) (h : trees.the_members → RattleType) → ((i : trees.the_members) → Has l (h i))
    → Has l (trees.layer-Tree (h tree.member-Value) (h tree.member-Value) (h tree.member-Value) (h tree.member-Tree) (h tree.member-KeyedTree))
tree-layer l h all =
    let V = h tree.member-Value in
    let v = list l V (all tree.member-Value) in
    let w = list l (Seq.the_row V) (seq l V (all tree.member-Value)) in
    let t = list l (h tree.member-Tree) (all tree.member-Tree) in
    let k = list l (h tree.member-KeyedTree) (all tree.member-KeyedTree) in
    let n = field l (as_row i128-field) (number l) in
    let e = field l (as_row (Seq.the_field Event.the_row)) (seq l Event.the_row (event l)) in
    variants l (trees.type-Tree V V V (h tree.member-Tree) (h tree.member-KeyedTree))
    (tt, ((n, tt), ((v, tt), ((v, tt), ((w, tt), ((e, tt), ((t, tt), ((k, tt), tt))))))))

value-layer : (l : Law) (h : trees.the_members → RattleType) → ((i : trees.the_members) → Has l (h i)) → Has l (trees.layer-Value (h tree.member-Value) (h tree.member-Value) (h tree.member-Tree))
value-layer l h all =
    let V = h tree.member-Value in
    let v = list l V (all tree.member-Value) in
    let p = list l (Tuple (V ∷ V ∷ [])) (pair l V (all tree.member-Value)) in
    let n = field l (as_row i128-field) (number l) in
    let b = field l (as_row (Seq.the_field u8)) (seq l u8 (byte l)) in
    let c = field l (h tree.member-Tree) (all tree.member-Tree) in
    variants l (trees.type-Value V V (h tree.member-Tree)) ((n, tt), ((b, tt), (tt, ((v, tt), ((p, tt), ((c, tt), tt))))))

keyed-layer : (l : Law) (h : trees.the_members → RattleType) → ((i : trees.the_members) → Has l (h i)) → Has l (trees.layer-KeyedTree (h tree.member-Value) (h tree.member-Tree))
keyed-layer l h all =
    fields l (trees.type-KeyedTree (h tree.member-Value) (h tree.member-Tree))
    (field l (h tree.member-Value) (all tree.member-Value), (field l (h tree.member-Tree) (all tree.member-Tree), tt))

tree-step : (l : Law) (h : trees.the_members → RattleType) → ((i : trees.the_members) → Has l (h i)) → (i : trees.the_members) → Has l (layer_row trees.ring i h)
tree-step send h all tree.member-Tree = let s = tree-layer send h all in record { owned = s.owned; leaving = s.leaving }
tree-step send h all tree.member-Value = let s = value-layer send h all in record { owned = s.owned; leaving = s.leaving }
tree-step send h all tree.member-KeyedTree = let s = keyed-layer send h all in record { owned = s.owned; leaving = s.leaving }
tree-step sync h all tree.member-Tree = record { shared = (tree-layer sync h all).shared }
tree-step sync h all tree.member-Value = record { shared = (value-layer sync h all).shared }
tree-step sync h all tree.member-KeyedTree = record { shared = (keyed-layer sync h all).shared }

tree-holes : (l : Law) (i : trees.the_members) → Has l (holes trees.ring i)
tree-holes l = fix_pulls trees.ring (one_law trees.the_members l) (λ h _ all i. tree-step l h all i)

tree-hole : (l : Law) → Has l trees.hole-Tree
tree-hole send = let s = tree-holes send tree.member-Tree in record { owned = s.owned; leaving = λ k x w. tt }
tree-hole sync = record { shared = (tree-holes sync tree.member-Tree).shared }

value-hole : (l : Law) → Has l trees.hole-Value
value-hole send = let s = tree-holes send tree.member-Value in record { owned = s.owned; leaving = λ k x w. tt }
value-hole sync = record { shared = (tree-holes sync tree.member-Value).shared }

keyed-hole : (l : Law) → Has l trees.hole-KeyedTree
keyed-hole send = let s = tree-holes send tree.member-KeyedTree in record { owned = s.owned; leaving = λ k x w. tt }
keyed-hole sync = record { shared = (tree-holes sync tree.member-KeyedTree).shared }

tree-crosses : (l : Law) → Has l Tree.the_row
tree-crosses l =
    let v = list l trees.hole-Value (value-hole l) in
    let w = list l (Seq.the_row trees.hole-Value) (seq l trees.hole-Value (value-hole l)) in
    variants l Tree.enum (
      tt,
      ((number l, tt), ((v, tt), ((v, tt), ((w, tt), ((seq l Event.the_row (event l), tt), ((list l trees.hole-Tree (tree-hole l), tt), ((list l trees.hole-KeyedTree (keyed-hole l), tt), tt))))))),
    )

-- chains
chain-layer : (l : Law) (C : RattleType) → Has l C → Has l (chains.layer-Chain C C C C C C C C C C)
chain-layer l C s =
    let c = box l C s in
    variants l (chains.type-Chain C C C C C C C C C C) (
      (field l Leaf.the_row (leaf l), tt),
      ((c, tt), ((c, tt), ((c, tt), ((c, tt), ((c, tt), ((c, tt), ((c, tt), ((signed l, (signed l, (whole l, (c, tt)))), ((c, tt), ((c, tt), tt)))))))))),
    )

chain-step : (l : Law) (h : chains.the_members → RattleType) → ((i : chains.the_members) → Has l (h i)) → (i : chains.the_members) → Has l (layer_row chains.ring i h)
chain-step send h all chain.member-Chain = let s = chain-layer send (h chain.member-Chain) (all chain.member-Chain) in record { owned = s.owned; leaving = s.leaving }
chain-step sync h all chain.member-Chain = record { shared = (chain-layer sync (h chain.member-Chain) (all chain.member-Chain)).shared }

chain-holes : (l : Law) (i : chains.the_members) → Has l (holes chains.ring i)
chain-holes l = fix_pulls chains.ring (one_law chains.the_members l) (λ h _ all i. chain-step l h all i)

chain-hole : (l : Law) → Has l chains.hole-Chain
chain-hole send = let s = chain-holes send chain.member-Chain in record { owned = s.owned; leaving = λ k x w. tt }
chain-hole sync = record { shared = (chain-holes sync chain.member-Chain).shared }

chain-crosses : (l : Law) → Has l Chain.the_row
chain-crosses l =
    let c = box l chains.hole-Chain (chain-hole l) in
    variants l Chain.enum
    ((leaf l, tt), ((c, tt), ((c, tt), ((c, tt), ((c, tt), ((c, tt), ((c, tt), ((c, tt), ((signed l, (signed l, (whole l, (c, tt)))), ((c, tt), ((c, tt), tt)))))))))))

-- types
ty-layer : (l : Law) (T : RattleType) → Has l T → Has l (types.layer-Ty T T T T T)
ty-layer l T s =
    let t = box l T s in
    let c = field l (as_row (Boxed.the_field Chain.the_row)) (boxed l Chain.the_row (chain-crosses l)) in
    variants l (types.type-Ty T T T T T) (tt, (tt, (tt, (tt, (tt, (tt, (tt, (tt, (tt, ((t, tt), ((t, (t, tt)), ((t, tt), ((c, (list l T s, tt)), tt)))))))))))))

ty-step : (l : Law) (h : types.the_members → RattleType) → ((i : types.the_members) → Has l (h i)) → (i : types.the_members) → Has l (layer_row types.ring i h)
ty-step send h all ty.member-Ty = let s = ty-layer send (h ty.member-Ty) (all ty.member-Ty) in record { owned = s.owned; leaving = s.leaving }
ty-step sync h all ty.member-Ty = record { shared = (ty-layer sync (h ty.member-Ty) (all ty.member-Ty)).shared }

ty-holes : (l : Law) (i : types.the_members) → Has l (holes types.ring i)
ty-holes l = fix_pulls types.ring (one_law types.the_members l) (λ h _ all i. ty-step l h all i)

ty-hole : (l : Law) → Has l types.hole-Ty
ty-hole send = let s = ty-holes send ty.member-Ty in record { owned = s.owned; leaving = λ k x w. tt }
ty-hole sync = record { shared = (ty-holes sync ty.member-Ty).shared }

ty-crosses : (l : Law) → Has l Ty.the_row
ty-crosses l =
    let t = box l types.hole-Ty (ty-hole l) in
    let c = boxed l Chain.the_row (chain-crosses l) in
    variants l Ty.enum (tt, (tt, (tt, (tt, (tt, (tt, (tt, (tt, (tt, ((t, tt), ((t, (t, tt)), ((t, tt), ((c, (list l types.hole-Ty (ty-hole l), tt)), tt)))))))))))))

-- columns
kind : (l : Law) (c : RattleType) → Has l c → Has l (columns.layer-Kind c c c c)
kind l c s =
    let b = field l (Box.the_row c Global.the_row ghosts) (owned l c s) in
    let at = field l (as_row (Vec.the_field usize Global.the_row ghosts)) (places l) in
    variants l (columns.type-Kind c c c c) (
      (field l (as_row Numbers.the_field) (numbers l), tt),
      (
        (field l (as_row Texts.the_field) (texts l), tt),
        (
          (field l (as_row (Vec.the_field bool Global.the_row ghosts)) (flags l), (b, tt)),
          (
            (at, (b, tt)),
            (
              (at, (b, (b, tt))),
              (
                (
                  field l (as_row (Boxed.the_field Chain.the_row)) (boxed l Chain.the_row (chain-crosses l)),
                  (
                    field l (as_row (Seq.the_field Ty.the_row)) (seq l Ty.the_row (ty-crosses l)),
                    (field l (as_row (Vec.the_field Tree.the_row Global.the_row ghosts)) (vec l Tree.the_row (tree-crosses l)), tt),
                  ),
                ),
                tt,
              ),
            ),
          ),
        ),
      ),
    )

kind-at : (l : Law) (p : Parts columns.frame) → Has l (rows columns.frame p deep.member-Column) → Has l (columns.at-Kind p)
kind-at send p s =
    let c = rows columns.frame p deep.member-Column in
    recorded_send _ _ _ (split_one (columns.layer-Kind c c c c) kinds.the_data deep.split-Kind deep.join-Kind deep.joins-Kind) (kind send c s)
kind-at sync p s =
    let c = rows columns.frame p deep.member-Column in
    recorded_sync _ _ _ (split_one (columns.layer-Kind c c c c) kinds.the_data deep.split-Kind deep.join-Kind deep.joins-Kind) (kind sync c s)

column-at : (l : Law) (p : Parts columns.frame) → Has l (columns.at-Kind p) → Has l (columns.view-Column p)
column-at send p s =
    view_send (columns.at-Column p) _ _ _ _
    (recorded_send _ _ _ (split_one (columns.layer-Column (columns.at-Kind p)) inside.Inside deep.split-Column deep.join-Column deep.joins-Column)
    (fields send (columns.type-Column (columns.at-Kind p)) (field send (columns.at-Kind p) s, tt)))
column-at sync p s =
    view_sync (columns.at-Column p) _ _ _ _
    (recorded_sync _ _ _ (split_one (columns.layer-Column (columns.at-Kind p)) inside.Inside deep.split-Column deep.join-Column deep.joins-Column)
    (fields sync (columns.type-Column (columns.at-Kind p)) (field sync (columns.at-Kind p) s, tt)))

column-step : (l : Law) (p : Parts columns.frame) → All (one_law deep.the_members l) (rows columns.frame p) → All (one_law deep.the_members l) (rows columns.frame (columns.step p))
column-step l p all deep.member-Column =
    has_of columns.frame l (columns.step p) deep.member-Column (λ d. part_has l (columns.view-Column p) (column-at l p (kind-at l p (all deep.member-Column))) d)

column-crosses : (l : Law) → Has l Column.the_row
column-crosses l = tied_goals columns.frame columns.step columns.sizes (one_law deep.the_members l) (column-step l) deep.member-Column

pub column-send : IsSend Column.the_row
column-send = column-crosses send

pub column-sync : IsSync Column.the_row
column-sync = column-crosses sync
