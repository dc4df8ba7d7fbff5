-- The value of -Distinct: that of a state of the chain inside that took the first rows.
use Rattle.std.proofs.Common.{◌≡◌, ◌≤◌, Bool, true, List, [], ◌∷◌, map, length, sym, subst, Result}
use Rattle.std.specs.Result.{IfOk}
use Rattle.std.proofs.lemmas.List.{length-map}
use Rattle.agg_terms.specs.Chains.{Chain, Distinct, Ty}
use Rattle.agg_terms.specs.Lists.{Each}
use Rattle.agg_terms.specs.Values.{Tree, Value, rows_tree}
use Rattle.agg_terms.specs.Widths.{IsNarrow}
use Rattle.agg_meaning.specs.Feeds.{AreValues, opened}
use Rattle.agg_meaning.specs.Laws.{AreFeeds, IsLegal}
use Rattle.agg_meaning.specs.Results.{blank}
use Rattle.agg_meaning.specs.States.{IsFedChain, MeansChain, StandsFor, TakesFeeds}
use Rattle.agg_meaning.proofs.Blank.{of_none}
use Rattle.agg_meaning.proofs.Keys.{distinct_fed, distinct_means}
use Rattle.agg_meaning.specs.Lawful.{IsSound}
use Rattle.agg_typing.specs.Legal.{function_of}
use Rattle.agg_typing.specs.Promises.{IsLegalCall}
use Rattle.link_types.specs.Links.{inner_types}
use Rattle.row_laws.proofs.Rows.{row}
use Rattle.value_types.proofs.Images.{narrow}
use Rattle.value_types.specs.Folds.{ty_of, value_of}
use Rattle.value_types.specs.declared.ty.Ty.{Ty as Typed}
use Rattle.value_types.specs.declared.value.Value.{Value as Valued}
use Rattle.running_states.specs.declared.running.Running.{Running}
use Rattle.running_states.specs.Served.{is_served}
use Rattle.running_states.specs.Trees.{tree_in}
use Rattle.chain_values.specs.proving.Fitting.{IsRefed}
use Rattle.chain_values.proofs.Passing.{if_ok, legal_distinct}
use Rattle.chain_values.proofs.ReadyLaws.{few, ready_served, sound}

module _ (c : Chain) (ts us : List Ty) (rs : List (List Value)) (s : Tree) (l : IsLegalCall c ts) (n : Each IsNarrow ts) (g : inner_types c ts ≡ us)
    (took : Each (AreValues ts) rs → (ys : List Ty) → inner_types c ys ≡ us → TakesFeeds c ys (map (opened c) rs) (blank c) s) where
  opens : (qs : List (List Value)) → Each (AreValues ts) qs → AreFeeds c ts (map (opened c) qs)
  opens [] k = tt
  opens (q ∷ qs) k = (row c ts q l n k.0, opens qs k.1)

  stands : IsLegal c ts → Each (AreValues ts) rs → StandsFor c ts (map (opened c) rs) s
  stands i k = took k ts g [] i (opens rs k) (sym (of_none c ts))

  pub first_value : (t : Tree) (x : Value) → t ≡ rows_tree rs → MeansChain c ts s x → MeansChain (Distinct c) ts t x
  first_value t x e a = subst (λ z. MeansChain (Distinct c) ts z x) (sym e) (distinct_means c ts rs x (λ i k. a (map (opened c) rs) i (opens rs k) (stands i k)))

  pub first_told : (t : Tree) (b : Bool) → t ≡ rows_tree rs → IsFedChain c ts s b → IsFedChain (Distinct c) ts t b
  first_told t b e a = subst (λ z. IsFedChain (Distinct c) ts z b) (sym e) (distinct_fed c ts rs b (λ i k. a (map (opened c) rs) i (opens rs k) (stands i k)))

-- what the calls on that state ask for
module _ (c : Chain) (types : List Typed) (l : IsLegalCall (Distinct c) (map ty_of types)) where
  pub first_sound : IsSound c
  first_sound = sound c (map ty_of types) (legal_distinct c (map ty_of types) l)

  pub first_served : (us : List Ty) → us ≡ inner_types (Distinct c) (map ty_of types) → is_served (function_of c) us ≡ true
  first_served us e = ready_served c (map ty_of types) us (legal_distinct c (map ty_of types) l) e

  pub first_few : length types ≤ 64
  first_few = subst (λ n. n ≤ 64) (length-map types ty_of) (few c (map ty_of types) (legal_distinct c (map ty_of types) l))

  all_narrow : (ts : List Typed) → Each IsNarrow (map ty_of ts)
  all_narrow [] = tt
  all_narrow (t ∷ ts) = (narrow t, all_narrow ts)

  -- the value, and whether a row reached the function, as answers
  pub first_values : {E : Type 0} (us : List Ty) (rs : List (List Value)) (s : Running) (t : Tree) (r : Result Valued E) → us ≡ inner_types (Distinct c) (map ty_of types) → t ≡ rows_tree rs → IsRefed c us (map ty_of types) rs s →
      IfOk r (λ v. MeansChain c (map ty_of types) (tree_in s) (value_of v)) → IfOk r (λ v. MeansChain (Distinct c) (map ty_of types) t (value_of v))
  first_values us rs s t r e g a h =
      if_ok r (λ v k. first_value c (map ty_of types) us rs (tree_in s) (legal_distinct c (map ty_of types) l) (all_narrow types) (sym e) a.over t (value_of v) g k) h

  pub first_tolds : {E : Type 0} (us : List Ty) (rs : List (List Value)) (s : Running) (t : Tree) (r : Result Bool E) → us ≡ inner_types (Distinct c) (map ty_of types) → t ≡ rows_tree rs → IsRefed c us (map ty_of types) rs s →
      IfOk r (λ b. IsFedChain c (map ty_of types) (tree_in s) b) → IfOk r (λ b. IsFedChain (Distinct c) (map ty_of types) t b)
  first_tolds us rs s t r e g a h =
      if_ok r (λ b k. first_told c (map ty_of types) us rs (tree_in s) (legal_distinct c (map ty_of types) l) (all_narrow types) (sym e) a.over t b g k) h

pub ruleset first_laws = (legal_distinct, first_sound, first_served, first_few, first_values, first_tolds)
