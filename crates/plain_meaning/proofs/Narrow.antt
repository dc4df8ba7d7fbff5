-- Values of the code's types hold no number of more than 64 bits.
use Rattle.std.proofs.Common.{ℕ, ◌<◌, ◌≤◌, ◌^◌, inl, inr, ℤ, pos, ◌<ℤ◌, FitsSigned, List, [], ◌∷◌, map, sym, subst, arith}
use Rattle.std.proofs.Math.Nat.{pow-le-pow_right}
use Rattle.std.proofs.lemmas.Int.{ints}
use mir.Syntax.{Width, w8, w16, w32, w64, w128}
use Rattle.agg_terms.specs.Chains as terms
use Rattle.agg_terms.specs.Lists.{Each}
use Rattle.agg_terms.specs.Trees.{IsPlain, IsValue}
use Rattle.agg_terms.specs.Values.{Value, entries, values}
use Rattle.agg_terms.specs.Widths.{IsNarrow, IsSignedWidth}
use Rattle.agg_meaning.specs.Feeds.{AreValues}
use Rattle.value_types.specs.declared.ty.Ty.{Ty}
use Rattle.value_types.specs.Folds.{ty_of}
use Rattle.value_types.proofs.Images.{narrow}
use Rattle.plain_meaning.proofs.Small.{AreSmall, HoldSmall, IsSmall, IsSmallRow}

signed_small : (w : Width) (z : ℤ) → IsSignedWidth w → FitsSigned w z → z <ℤ pos (2 ^ 64)
signed_small w8 z n h = omega (arith, ints)
signed_small w16 z n h = omega (arith, ints)
signed_small w32 z n h = omega (arith, ints)
signed_small w64 z n h = omega (arith, ints)
signed_small w128 z n h = absurd n

whole_small : (n k : ℕ) → n ≤ 64 → k < 2 ^ n → pos k <ℤ pos (2 ^ 64)
whole_small n k h l = let p : 2 ^ n ≤ 2 ^ 64 = pow-le-pow_right (omega arith) h in let m : k < 2 ^ 64 = omega arith in omega (arith, ints)

all_small : (P : Value → Type 0) → ((v : Value) → P v → IsSmall v) → (vs : List Value) → Each P vs → AreSmall (values vs)
all_small P f [] h = tt
all_small P f (v ∷ vs) h = (f v h.0, all_small P f vs h.1)

held_small : (K P : Value → Type 0) → ((v : Value) → P v → IsSmall v) → (es : List (Value × Value)) → Each (λ e. K e.0 × P e.1) es → HoldSmall (entries es)
held_small K P f [] h = tt
held_small K P f (e ∷ es) h = (f e.1 h.0.1, held_small K P f es h.1)

value_small : (t : terms.Ty) (v : Value) → IsNarrow t → IsValue t v → IsSmall v
value_small (terms.Whole n) v h k = subst IsSmall (sym k.1) (whole_small n k.0 h k.2)
value_small (terms.Signed w) v h k = subst IsSmall (sym k.1) (signed_small w k.0 h k.2)
value_small terms.Str v h k = subst IsSmall (sym k.1) tt
value_small (terms.Arr t) v h k = subst IsSmall (sym k.1) (all_small (IsValue t) (λ w l. value_small t w h l) k.0 k.2)
value_small (terms.MapTy key t) v h k = subst IsSmall (sym k.1) (held_small (IsPlain key) (IsValue t) (λ w l. value_small t w h.1 l) k.0 k.2)
value_small (terms.Nullable t) v h k = elim k [ inl e ↦ subst IsSmall (sym e) tt | inr l ↦ value_small t v h l ]
value_small (terms.StateOf c ts) v h k = subst IsSmall (sym k.1) tt

row_small : (ts : List Ty) (r : List Value) → AreValues (map ty_of ts) r → IsSmallRow r
row_small [] [] h = tt
row_small [] (v ∷ vs) h = absurd h
row_small (t ∷ ts) [] h = absurd h
row_small (t ∷ ts) (v ∷ vs) h = (value_small (ty_of t) v (narrow t) h.0, row_small ts vs h.1)

pub rows_small : (ts : List Ty) (R : List (List Value)) → Each (AreValues (map ty_of ts)) R → Each IsSmallRow R
rows_small ts [] h = tt
rows_small ts (r ∷ R) h = (row_small ts r h.0, rows_small ts R h.1)
