-- The values of an answer's line are values of the types of its fields.
use Rattle.std.proofs.Common.{◌≡◌, ℕ, zero, suc, ◌+◌, ◌<◌, cond, List, [], ◌∷◌, ◌++◌, length, map, get_or, refl, sym, ap₂, subst, arith}
use Rattle.std.specs.Prelude.{IsTrue}
use Rattle.std.specs.Ordering.{is_eq}
use Rattle.std.proofs.lemmas.Bool.{cond_both}
use Rattle.std.proofs.lemmas.List.{get_or-map, length-map}
use Rattle.agg_terms.specs.Chains.{Str, Ty}
use Rattle.agg_terms.specs.Fitting.{fits_value}
use Rattle.agg_terms.specs.Lists.{Each, places}
use Rattle.agg_terms.specs.Order.{compare_rows}
use Rattle.agg_terms.specs.Values.{Value}
use Rattle.agg_terms.specs.Widths.{HasWidths}
use Rattle.agg_terms.proofs.Fitting as fitting
use Rattle.agg_meaning.specs.Feeds.{AreValues, IsFeed}
use Rattle.agg_meaning.specs.Laws.{AreFeeds}
use Rattle.agg_meaning.specs.Results.{result}
use Rattle.agg_meaning.specs.Views.{AreContributions, Call, Contribution, View, call_at, feeds_of, meaning_at}
use Rattle.agg_meaning.proofs.Kept.{each_append}
use Rattle.agg_typing.specs.Views.{IsCallOver, IsKeyOver, IsViewOver}
use Rattle.result_laws.specs.ResultLaws.{MeaningsFit}
use Rattle.scalar_texts.specs.States.{AllStates}
use Rattle.value_types.specs.Folds.{ty_of, value_of}
use Rattle.value_types.specs.Images.{TypesHaveWidths}
use Rattle.value_types.specs.declared.ty.Ty as rust
use Rattle.value_types.specs.declared.ty.Ty.TheVariants as rust_types
use Rattle.value_types.specs.declared.value.Value as rust_values
use Rattle.answer_texts.specs.Lines.{AreWritten}

-- a value of each type
abbrev pub Fit : List Ty → List Value → Type 0
Fit [] [] = Unit {0}
Fit (t ∷ ts) (v ∷ vs) = IsTrue (fits_value t v) × Fit ts vs
Fit _ _ = ⊥

fit-values : (ts : List Ty) (vs : List Value) → AreValues ts vs → Fit ts vs
fit-values [] [] h = tt
fit-values [] (v ∷ vs) h = h
fit-values (t ∷ ts) [] h = h
fit-values (t ∷ ts) (v ∷ vs) h = ((fitting.value t v).1 h.0, fit-values ts vs h.1)

fit-append : (ts us : List Ty) (vs ws : List Value) → Fit ts vs → Fit us ws → Fit (ts ++ us) (vs ++ ws)
fit-append [] us [] ws a b = b
fit-append [] us (v ∷ vs) ws a b = absurd a
fit-append (t ∷ ts) us [] ws a b = absurd a
fit-append (t ∷ ts) us (v ∷ vs) ws a b = (a.0, fit-append ts us vs ws a.1 b)

pub fit-written : (takes : Ty → Type 0) (types : List rust.Ty) (values : List rust_values.Value)
    → Each (AllStates takes) (map ty_of types) → Fit (map ty_of types) (map value_of values) → AreWritten takes types values
fit-written takes [] [] s h = tt
fit-written takes [] (v ∷ vs) s h = h
fit-written takes (t ∷ ts) [] s h = h
fit-written takes (t ∷ ts) (v ∷ vs) s h = (s.0, h.0, fit-written takes ts vs s.1 h.1)

-- ---- the key
key-types-are : (types : List rust.Ty) (keys : List ℕ) → Each (IsKeyOver (map ty_of types)) keys
    → map ty_of (map (λ k. get_or types k rust_types.Str) keys) ≡ map (λ k. get_or (map ty_of types) k Str) keys
key-types-are types [] h = refl
key-types-are types (k ∷ keys) h =
    ap₂ ◌∷◌ (sym (get_or-map ty_of types k rust_types.Str Str (subst (λ n. k < n) (length-map types ty_of) h.0.0))) (key-types-are types keys h.1)

-- ---- what the calls mean
widths-at : TypesHaveWidths → (types : List rust.Ty) (i : ℕ) → HasWidths (get_or (map ty_of types) i Str)
widths-at law [] i = tt
widths-at law (t ∷ types) zero = law t
widths-at law (t ∷ types) (suc i) = widths-at law types i

arguments-wide : TypesHaveWidths → (types : List rust.Ty) (columns : List ℕ) → Each HasWidths (map (λ i. get_or (map ty_of types) i Str) columns)
arguments-wide law types [] = tt
arguments-wide law types (i ∷ columns) = (widths-at law types i, arguments-wide law types columns)

over-at : (types : List Ty) (calls : List Call) (i : ℕ) → i < length calls → Each (IsCallOver types) calls → IsCallOver types (call_at calls i)
over-at types [] i h all = absurd (omega (arith, h))
over-at types (c ∷ calls) zero h all = all.0
over-at types (c ∷ calls) (suc i) h all = over-at types calls i (omega (arith, h)) all.1

-- the feeds of a group are feeds of the call
feeds-here : (v : View) (C : List (Contribution v)) (key : List Value) (i : ℕ) → i < length v.calls → AreContributions v C
    → AreFeeds (call_at v.calls i).chain (call_at v.calls i).types (feeds_of v key i C)
feeds-here v [] key i h all = tt
feeds-here v (c ∷ C) key i h all =
    each_append (IsFeed (call_at v.calls i).chain (call_at v.calls i).types) (cond (is_eq (compare_rows key c.0)) (c.1 i) []) (feeds_of v key i C)
    (cond_both (is_eq (compare_rows key c.0)) (c.1 i) [] (λ l. AreFeeds (call_at v.calls i).chain (call_at v.calls i).types l) (λ _. all.0 i h) (λ _. tt))
    (feeds-here v C key i h all.1)

-- values of the results, from a number on
results-fit : (f : ℕ → Value) (i : ℕ) (calls : List Call)
    → ((j : ℕ) → j < length calls → IsTrue (fits_value (result (call_at calls j).chain (call_at calls j).types) (f (i + j))))
    → Fit (map (λ (c : Call). result c.chain c.types) calls) (map f (places i (length calls)))
results-fit f i [] h = tt
results-fit f i (c ∷ calls) h = (
  subst (λ k. IsTrue (fits_value (result c.chain c.types) (f k))) here (h 0 (omega arith)),
  results-fit f (suc i) calls (λ j hj.
      subst (λ k. IsTrue (fits_value (result (call_at calls j).chain (call_at calls j).types) (f k))) (next j) (h (suc j) (omega (arith, hj)))),
)
  where
    here : i + 0 ≡ i
    here = omega arith

    next : (j : ℕ) → i + suc j ≡ suc i + j
    next j = omega arith

module _ (fit : MeaningsFit) (widths : TypesHaveWidths) (types : List rust.Ty) (v : View) (over : IsViewOver (map ty_of types) v) (C : List (Contribution v))
    (feeds : AreContributions v C) (key : List Value) where
  meaning-fits : (i : ℕ) → i < length v.calls → IsTrue (fits_value (result (call_at v.calls i).chain (call_at v.calls i).types) (meaning_at v C key i))
  meaning-fits i h =
      let here = over-at (map ty_of types) v.calls i h over.calls in
      fit (call_at v.calls i).chain (call_at v.calls i).types (feeds_of v key i C) here.0
      (subst (Each HasWidths) (sym here.2) (arguments-wide widths types (call_at v.calls i).columns)) (feeds-here v C key i h feeds)

  -- the values of a group's line, where those of its key are values of the key columns
  pub line-fits : AreValues (map ty_of (map (λ k. get_or types k rust_types.Str) v.keys)) key
      → Fit (map (λ k. get_or (map ty_of types) k Str) v.keys ++ map (λ (c : Call). result c.chain c.types) v.calls) (key ++ map (meaning_at v C key) (places 0 (length v.calls)))
  line-fits fits =
      fit-append (map (λ k. get_or (map ty_of types) k Str) v.keys) (map (λ (c : Call). result c.chain c.types) v.calls) key (map (meaning_at v C key) (places 0 (length v.calls)))
      (fit-values _ key (subst (λ ts. AreValues ts key) (key-types-are types v.keys over.keys) fits))
      (results-fit (meaning_at v C key) 0 v.calls (λ i h.
      subst (λ k. IsTrue (fits_value (result (call_at v.calls i).chain (call_at v.calls i).types) (meaning_at v C key k))) (same i) (meaning-fits i h)))
    where
      same : (i : ℕ) → i ≡ 0 + i
      same i = omega arith
