-- What a stack says of the tokens that are left.
use Rattle.std.proofs.Common.{◌≡◌, ℕ, List, [], ◌∷◌, ◌++◌, codes, Option, Some, Bool, true, false, Ok, refl, ap, subst, ◌∙◌}
use Rattle.first_fault.specs.Machine.{run}
use Rattle.first_fault.specs.Grammar.{Then, InOrder}
use Rattle.first_fault.proofs.Grammar.{push, lone, regroup}
use Rattle.first_fault.proofs.Machines.{letter_ok, end_ok}
use Rattle.line_tokens.specs.Tokens.{Token, word, open_bracket, close_bracket, comma}
use Rattle.type_names.specs.TypeTexts.{WrittenType, plain, array, map_of, nullable, state, WrittenTypes, none, and_one, is_plain_name, is_literal, literals_tokens, brackets, tokens_of, tokens_of_all, IsOneWord, AreLiterals, ShapeFits, ShapesFit}
use Rattle.type_names.specs.declared.goal.Kind.{Kind}
use Rattle.type_names.specs.declared.goal.Kind.TheVariants.{PlainName, ArrayName, MapName, NullableName, StateName, OtherName}
use Rattle.type_names.specs.declared.goal.Goal.{Goal}
use Rattle.type_names.specs.declared.goal.Goal.TheVariants.{AnyType, PlainType, Opening, Closing, Dividing, Name, BehindName, OneLiteral, MoreLiterals, MoreTypes}
use Rattle.type_names.specs.Judging.{kind_of, type_goals, some_if, step, done}
use Rattle.type_names.proofs.KindNames.{IsKind, is_kind}

abbrev pub Of : Goal → List Token → Type 0
Of AnyType t = (ty : WrittenType) × ShapeFits ty × (t ≡ tokens_of ty)
Of PlainType t = (ty : WrittenType) × IsOneWord ty × ShapeFits ty × (t ≡ tokens_of ty)
Of Opening t = t ≡ open_bracket ∷ []
Of Closing t = t ≡ close_bracket ∷ []
Of Dividing t = t ≡ comma ∷ []
Of Name t = (w : List ℕ) × (t ≡ word w ∷ [])
Of BehindName t = (ls : List Token) × (types : WrittenTypes) × AreLiterals ls × ShapesFit types × (t ≡ brackets ls ++ tokens_of_all types)
Of OneLiteral t = (l : Token) × (is_literal l ≡ true) × (t ≡ l ∷ [])
Of MoreLiterals t = (ls : List Token) × AreLiterals ls × (t ≡ literals_tokens ls)
Of MoreTypes t = (types : WrittenTypes) × ShapesFit types × (t ≡ tokens_of_all types)

abbrev pub IsEnd : List Token → Type 0
IsEnd t = t ≡ []

abbrev pub Left : List Goal → List Token → Type 0
Left s t = InOrder Of IsEnd s t

-- every stack of goals can be met
abbrev pub Sound : List Goal → Type 0
Sound s = Unit {0}

some_is : (x y : List Goal) → (let o : Option (List Goal) = Some x in o) ≡ Some y → x ≡ y
some_is x y e = cc

abbrev StepsTo : List Goal → Token → List Token → List Goal → Type 0
StepsTo s b rest u = Sound u × (Left u rest → Left s (b ∷ rest))

goes_is : (Q : List Goal → Type 0) (s u : List Goal) → Q s → (let o : Option (List Goal) = Some s in o) ≡ Some u → Q u
goes_is Q s u q e = subst Q (some_is s u e) q

goes_if_is : (Q : List Goal → Type 0) (test : Bool) (s u : List Goal) → (test ≡ true → Q s) → some_if test s ≡ Some u → Q u
goes_if_is Q true s u q e = goes_is Q s u (q refl) e
goes_if_is Q false s u q e = absurd cc

-- parts that are known
two : {L : List Token → Type 0} (x a : List Token) → Then (λ t. t ≡ x) L a → (r : List Token) × L r × (a ≡ x ++ r)
two x a q = (q.rest, q.second, q.whole ∙ ap (λ f. f ++ q.rest) q.first)

-- what the first token of a type is followed by
array_from : (w : List ℕ) → w ≡ codes "Array" → (a : List Token) → Then (Of Opening) (Then (Of AnyType) (Of Closing)) a → Of AnyType (word w ∷ a)
array_from w e a q =
    let p = two (open_bracket ∷ []) a q in
    let t = p.1 in
    (array t.first.0, t.first.1, ap (λ w. word w ∷ a) e ∙ ap (λ x. word (codes "Array") ∷ x) (p.2 ∙ ap (λ x. open_bracket ∷ x) (t.whole ∙ ap (λ f. f ++ t.rest) t.first.2 ∙ ap (λ r. tokens_of t.first.0 ++ r) t.second)))

nullable_from : (w : List ℕ) → w ≡ codes "Nullable" → (a : List Token) → Then (Of Opening) (Then (Of PlainType) (Of Closing)) a → Of AnyType (word w ∷ a)
nullable_from w e a q =
    let p = two (open_bracket ∷ []) a q in
    let t = p.1 in
    (nullable t.first.0, (t.first.1, t.first.2), ap (λ w. word w ∷ a) e ∙ ap (λ x. word (codes "Nullable") ∷ x) (p.2 ∙ ap (λ x. open_bracket ∷ x) (t.whole ∙ ap (λ f. f ++ t.rest) t.first.3 ∙ ap (λ r. tokens_of t.first.0 ++ r) t.second)))

map_from : (w : List ℕ) → w ≡ codes "Map" → (a : List Token) → Then (Of Opening) (Then (Of PlainType) (Then (Of Dividing) (Then (Of AnyType) (Of Closing)))) a → Of AnyType (word w ∷ a)
map_from w e a q =
    let p = two (open_bracket ∷ []) a q in
    let k = p.1 in
    let d = two (comma ∷ []) k.rest k.second in
    let t = d.1 in
    let value : k.rest ≡ comma ∷ (tokens_of t.first.0 ++ (close_bracket ∷ [])) = d.2 ∙ ap (λ x. comma ∷ x) (t.whole ∙ ap (λ f. f ++ t.rest) t.first.2 ∙ ap (λ r. tokens_of t.first.0 ++ r) t.second) in (
      map_of k.first.0 t.first.0,
      (k.first.1, k.first.2, t.first.1),
      ap (λ w. word w ∷ a) e ∙ ap (λ x. word (codes "Map") ∷ x) (p.2 ∙ ap (λ x. open_bracket ∷ x) (k.whole ∙ ap (λ f. f ++ k.rest) k.first.3 ∙ ap (λ r. tokens_of k.first.0 ++ r) value)),
    )

state_from : (w : List ℕ) → w ≡ codes "AggregateFunction" → (a : List Token) → Then (Of Opening) (Then (Of Name) (Of BehindName)) a → Of AnyType (word w ∷ a)
state_from w e a q =
    let p = two (open_bracket ∷ []) a q in
    let n = p.1 in
    let b = n.second in
    (state n.first.0 b.0 b.1, (b.2, b.3), ap (λ w. word w ∷ a) e ∙ ap (λ x. word (codes "AggregateFunction") ∷ x) (p.2 ∙ ap (λ x. open_bracket ∷ x) (n.whole ∙ ap (λ f. f ++ n.rest) n.first.1 ∙ ap (λ r. word n.first.0 ∷ r) b.4)))

moves_type : (k : Kind) (w : List ℕ) (s : List Goal) (rest : List Token) (u : List Goal) → IsKind k w → Sound s → type_goals k s ≡ Some u → StepsTo (AnyType ∷ s) (word w) rest u
moves_type PlainName w s rest u is h e = goes_is (StepsTo (AnyType ∷ s) (word w) rest) s u (h, λ r. lone {L = Of AnyType} {K = Left s} (word w) rest (plain w, is, refl) r) e
moves_type ArrayName w s rest u is h e =
    goes_is (StepsTo (AnyType ∷ s) (word w) rest) _ u (
      h,
      λ r.
          push {L = Then (Of Opening) (Then (Of AnyType) (Of Closing))} {M = Of AnyType} {K = Left s} (word w) rest (array_from w is)
          (regroup {L = Of Opening} {M = Then (Of AnyType) (Of Closing)} {K = Left s} rest
          (record { front = r.front; rest = r.rest; first = r.first; second = regroup {L = Of AnyType} {M = Of Closing} {K = Left s} r.rest r.second; whole = r.whole })),
    ) e
moves_type NullableName w s rest u is h e =
    goes_is (StepsTo (AnyType ∷ s) (word w) rest) _ u (
      h,
      λ r.
          push {L = Then (Of Opening) (Then (Of PlainType) (Of Closing))} {M = Of AnyType} {K = Left s} (word w) rest (nullable_from w is)
          (regroup {L = Of Opening} {M = Then (Of PlainType) (Of Closing)} {K = Left s} rest
          (record { front = r.front; rest = r.rest; first = r.first; second = regroup {L = Of PlainType} {M = Of Closing} {K = Left s} r.rest r.second; whole = r.whole })),
    ) e
moves_type MapName w s rest u is h e =
    goes_is (StepsTo (AnyType ∷ s) (word w) rest) _ u (h, λ r. push {L = Then (Of Opening) (Then (Of PlainType) (Then (Of Dividing) (Then (Of AnyType) (Of Closing))))} {M = Of AnyType} {K = Left s} (word w) rest (map_from w is) (five r)) e
  where
    five : Left (Opening ∷ PlainType ∷ Dividing ∷ AnyType ∷ Closing ∷ s) rest → Then (Then (Of Opening) (Then (Of PlainType) (Then (Of Dividing) (Then (Of AnyType) (Of Closing))))) (Left s) rest
    five r =
        let a = r.second in
        let b = a.second in
        let c : Then (Then (Of AnyType) (Of Closing)) (Left s) b.rest = regroup {L = Of AnyType} {M = Of Closing} {K = Left s} b.rest b.second in
        let d : Then (Then (Of Dividing) (Then (Of AnyType) (Of Closing))) (Left s) a.rest = regroup {L = Of Dividing} {M = Then (Of AnyType) (Of Closing)} {K = Left s} a.rest (record { front = b.front; rest = b.rest; first = b.first; second = c; whole = b.whole }) in
        let e : Then (Then (Of PlainType) (Then (Of Dividing) (Then (Of AnyType) (Of Closing)))) (Left s) r.rest = regroup {L = Of PlainType} {M = Then (Of Dividing) (Then (Of AnyType) (Of Closing))} {K = Left s} r.rest (record { front = a.front; rest = a.rest; first = a.first; second = d; whole = a.whole }) in
        regroup {L = Of Opening} {M = Then (Of PlainType) (Then (Of Dividing) (Then (Of AnyType) (Of Closing)))} {K = Left s} rest (record { front = r.front; rest = r.rest; first = r.first; second = e; whole = r.whole })
moves_type StateName w s rest u is h e =
    goes_is (StepsTo (AnyType ∷ s) (word w) rest) _ u (
      h,
      λ r.
          push {L = Then (Of Opening) (Then (Of Name) (Of BehindName))} {M = Of AnyType} {K = Left s} (word w) rest (state_from w is)
          (regroup {L = Of Opening} {M = Then (Of Name) (Of BehindName)} {K = Left s} rest
          (record { front = r.front; rest = r.rest; first = r.first; second = regroup {L = Of Name} {M = Of BehindName} {K = Left s} r.rest r.second; whole = r.whole })),
    ) e
moves_type OtherName w s rest u is h e = absurd cc

-- two parts that make one
joined : (L M N : List Token → Type 0) (s : List Goal) (x : Token) (rest : List Token) → ((a : List Token) → Then L M a → N (x ∷ a)) → Then L (Then M (Left s)) rest → Then N (Left s) (x ∷ rest)
joined L M N s x rest f r = push {L = Then L M} {M = N} {K = Left s} x rest f (regroup {L = L} {M = M} {K = Left s} rest r)

types_from : (a : List Token) → Then (Of AnyType) (Of MoreTypes) a → Of MoreTypes (comma ∷ a)
types_from a q = (and_one q.first.0 q.second.0, (q.first.1, q.second.1), ap (λ x. comma ∷ x) (q.whole ∙ ap (λ f. f ++ q.rest) q.first.2 ∙ ap (λ r. tokens_of q.first.0 ++ r) q.second.2))

behind_from : (a : List Token) → Then (Of AnyType) (Of MoreTypes) a → Of BehindName (comma ∷ a)
behind_from a q = let t = types_from a q in ([], t.0, tt, t.1, t.2)

literals_from : (a : List Token) → Then (Of OneLiteral) (Of MoreLiterals) a → Of MoreLiterals (comma ∷ a)
literals_from a q = (q.first.0 ∷ q.second.0, (q.first.1, q.second.1), ap (λ x. comma ∷ x) (q.whole ∙ ap (λ f. f ++ q.rest) q.first.2 ∙ ap (λ r. q.first.0 ∷ r) q.second.2))

bracket_from : (a : List Token) → Then (Of OneLiteral) (Then (Of MoreLiterals) (Of MoreTypes)) a → Of BehindName (open_bracket ∷ a)
bracket_from a q =
    let m = q.second in (
      q.first.0 ∷ m.first.0,
      m.second.0,
      (q.first.1, m.first.1),
      m.second.1,
      ap (λ x. open_bracket ∷ x) (q.whole ∙ ap (λ f. f ++ q.rest) q.first.2 ∙ ap (λ r. q.first.0 ∷ r) (m.whole ∙ ap (λ f. f ++ m.rest) m.first.2 ∙ ap (λ r. literals_tokens m.first.0 ++ r) m.second.2)),
    )

pub moves : (s : List Goal) (x : Token) (rest : List Token) (u : List Goal) → Sound s → step s x ≡ Some u → StepsTo s x rest u
moves (AnyType ∷ s) (word w) rest u h e = moves_type (kind_of w) w s rest u (is_kind w) h e
moves (PlainType ∷ s) (word w) rest u h e = goes_if_is (StepsTo (PlainType ∷ s) (word w) rest) (is_plain_name w) s u (λ t. (h, λ r. lone {L = Of PlainType} {K = Left s} (word w) rest (plain w, tt, t, refl) r)) e
moves (Opening ∷ s) open_bracket rest u h e = goes_is (StepsTo (Opening ∷ s) open_bracket rest) s u (h, λ r. lone {L = Of Opening} {K = Left s} open_bracket rest refl r) e
moves (Closing ∷ s) close_bracket rest u h e = goes_is (StepsTo (Closing ∷ s) close_bracket rest) s u (h, λ r. lone {L = Of Closing} {K = Left s} close_bracket rest refl r) e
moves (Dividing ∷ s) comma rest u h e = goes_is (StepsTo (Dividing ∷ s) comma rest) s u (h, λ r. lone {L = Of Dividing} {K = Left s} comma rest refl r) e
moves (Name ∷ s) (word w) rest u h e = goes_is (StepsTo (Name ∷ s) (word w) rest) s u (h, λ r. lone {L = Of Name} {K = Left s} (word w) rest (w, refl) r) e
moves (BehindName ∷ s) open_bracket rest u h e =
    goes_is (StepsTo (BehindName ∷ s) open_bracket rest) _ u (
      h,
      λ r.
          joined (Of OneLiteral) (Then (Of MoreLiterals) (Of MoreTypes)) (Of BehindName) s open_bracket rest bracket_from
          (record { front = r.front; rest = r.rest; first = r.first; second = regroup {L = Of MoreLiterals} {M = Of MoreTypes} {K = Left s} r.rest r.second; whole = r.whole }),
    ) e
moves (BehindName ∷ s) close_bracket rest u h e = goes_is (StepsTo (BehindName ∷ s) close_bracket rest) s u (h, λ r. lone {L = Of BehindName} {K = Left s} close_bracket rest ([], none, tt, tt, refl) r) e
moves (BehindName ∷ s) comma rest u h e = goes_is (StepsTo (BehindName ∷ s) comma rest) _ u (h, joined (Of AnyType) (Of MoreTypes) (Of BehindName) s comma rest behind_from) e
moves (OneLiteral ∷ s) x rest u h e = goes_if_is (StepsTo (OneLiteral ∷ s) x rest) (is_literal x) s u (λ t. (h, λ r. lone {L = Of OneLiteral} {K = Left s} x rest (x, t, refl) r)) e
moves (MoreLiterals ∷ s) comma rest u h e = goes_is (StepsTo (MoreLiterals ∷ s) comma rest) _ u (h, joined (Of OneLiteral) (Of MoreLiterals) (Of MoreLiterals) s comma rest literals_from) e
moves (MoreLiterals ∷ s) close_bracket rest u h e = goes_is (StepsTo (MoreLiterals ∷ s) close_bracket rest) s u (h, λ r. lone {L = Of MoreLiterals} {K = Left s} close_bracket rest ([], tt, refl) r) e
moves (MoreTypes ∷ s) comma rest u h e = goes_is (StepsTo (MoreTypes ∷ s) comma rest) _ u (h, joined (Of AnyType) (Of MoreTypes) (Of MoreTypes) s comma rest types_from) e
moves (MoreTypes ∷ s) close_bracket rest u h e = goes_is (StepsTo (MoreTypes ∷ s) close_bracket rest) s u (h, λ r. lone {L = Of MoreTypes} {K = Left s} close_bracket rest (none, tt, refl) r) e
moves s x rest u h e = absurd cc

ended : (s : List Goal) (v : Unit {0}) → done s ≡ Some v → Left s []
ended [] v e = refl
ended (g ∷ s) v e = absurd cc

pub found : (s : List Goal) (t : List Token) (v : Unit {0}) → Sound s → run step done s t ≡ Ok v → Left s t
found s [] v h e = ended s v (end_ok (done s) v e)
found s (x ∷ t) v h e =
    let p = letter_ok (λ s. run step done s t) (step s x) v e in
    let m = moves s x t p.0 h p.1 in
    m.1 (found p.0 t v m.0 p.2)

pub kept : (s u : List Goal) (x : Token) → Sound s → step s x ≡ Some u → Sound u
kept s u x h e = (moves s x [] u h e).0
