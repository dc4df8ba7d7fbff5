-- The arms of -Distinct.
use Rattle.std.proofs.Common.{◌≡◌, true, false, List, [], ◌∷◌, ◌++◌, refl, sym, ap, ◌∙◌, subst, append-nil, Result, Box, Global}
use Rattle.std.specs.Prelude.{filter}
use Rattle.std.specs.Result.{OnOk}
use Rattle.agg_terms.specs.Chains.{Chain, Distinct, Ty}
use Rattle.agg_terms.specs.Order.{compare_rows, firsts}
use Rattle.agg_terms.specs.Values.{Value, rows_tree}
use Rattle.agg_meaning.specs.Feeds.{no_null}
use Rattle.agg_meaning.specs.States.{Joins, Takes}
use Rattle.agg_meaning.proofs.Keys.{distinct_joins, distinct_takes}
use Rattle.distinct_rows.specs.Rows.{AreFirsts, rows_in}
use Rattle.distinct_rows.specs.declared.rows.DistinctRows.{DistinctRows}
use Rattle.distinct_rows.proofs.Inserted.{are_firsts}
use Rattle.running_states.specs.declared.running.Running.{Running}
use Rattle.running_states.specs.declared.running.Running.TheVariants.{Rows}
use Rattle.running_states.specs.declared.running.Running.TheViews.{out-Running}
use Rattle.running_states.specs.Shapes.{AreRows, IsState}
use Rattle.running_states.specs.Trees.{tree_in}
use Rattle.running_states.specs.Words.{Feeds, JoinsAll}
use Rattle.running_states.proofs.Layers.{out_Rows, tree_Rows}
use Rattle.running_states.proofs.Outcomes.{on_ok}

live_row : (r : List Value) → no_null r ≡ true → filter no_null (r ∷ []) ≡ r ∷ []
live_row r n = rw n refl

dead_row : (r : List Value) → no_null r ≡ false → filter no_null (r ∷ []) ≡ []
dead_row r n = rw n refl

pub rows_are : (s : Running) (v : Box DistinctRows Global) → s ≡ Rows v → AreRows (out-Running s) → AreFirsts (rows_in v.value)
rows_are s v e k = subst AreRows (ap out-Running e ∙ out_Rows v) k

pub are_rows : (s : Running) (v : Box DistinctRows Global) → s ≡ Rows v → AreFirsts (rows_in v.value) → AreRows (out-Running s)
are_rows s v e k = subst AreRows (sym (ap out-Running e ∙ out_Rows v)) k

module _ (c : Chain) (us : List Ty) (s : Running) (p : Box DistinctRows Global) (e : s ≡ Rows p) (once : AreFirsts (rows_in p.value)) where
  stays : (r : List Value) → rows_in p.value ≡ firsts compare_rows (rows_in p.value ++ filter no_null (r ∷ [])) → Feeds (Distinct c) us r s s
  stays r m = record {
    over = λ ts n.
        subst (λ t. Takes (Distinct c) ts r t t) (sym (ap tree_in e ∙ tree_Rows p))
        (subst (λ z. Takes (Distinct c) ts r (rows_tree (rows_in p.value)) (rows_tree z)) (sym m) (distinct_takes c ts r (rows_in p.value)));
  }

  pub null_row : (r : List Value) → no_null r ≡ false → Feeds (Distinct c) us r s s
  null_row r n = stays r (sym (ap (λ z. firsts compare_rows (rows_in p.value ++ z)) (dead_row r n) ∙ ap (firsts compare_rows) (append-nil (rows_in p.value)) ∙ once))

  module _ {A E : Type 0} (x : Result A E) (v : Running) (w : Box DistinctRows Global) (g : v ≡ Rows w) (q : List (List Value)) (h : OnOk x (rows_in w.value ≡ firsts compare_rows (rows_in p.value ++ q))) where
    pub rows_kept : OnOk x (IsState (Distinct c) us v)
    rows_kept = on_ok x (λ k. are_rows v w g (subst AreFirsts (sym k) (are_firsts (rows_in p.value ++ q)))) h

    pub rows_fed : (r : List Value) → no_null r ≡ true → q ≡ r ∷ [] → OnOk x (Feeds (Distinct c) us r s v)
    rows_fed r n m = on_ok x (λ k. record {
      over = λ ts y.
          subst (λ t. Takes (Distinct c) ts r t (tree_in v)) (sym (ap tree_in e ∙ tree_Rows p))
          (subst (λ t. Takes (Distinct c) ts r (rows_tree (rows_in p.value)) t)
          (sym (ap tree_in g ∙ tree_Rows w ∙ ap rows_tree (k ∙ ap (λ z. firsts compare_rows (rows_in p.value ++ z)) (m ∙ sym (live_row r n)))))
          (distinct_takes c ts r (rows_in p.value)));
    }) h

    pub rows_joined : (u : Running) (m : Box DistinctRows Global) → u ≡ Rows m → q ≡ rows_in m.value → OnOk x (JoinsAll (Distinct c) us s u v)
    rows_joined u m i l = on_ok x (λ k. record {
      over = λ ts y.
          subst (λ t. Joins (Distinct c) ts t (tree_in u) (tree_in v)) (sym (ap tree_in e ∙ tree_Rows p))
          (subst (λ t. Joins (Distinct c) ts (rows_tree (rows_in p.value)) t (tree_in v)) (sym (ap tree_in i ∙ tree_Rows m))
          (subst (λ t. Joins (Distinct c) ts (rows_tree (rows_in p.value)) (rows_tree (rows_in m.value)) t)
          (sym (ap tree_in g ∙ tree_Rows w ∙ ap rows_tree (k ∙ ap (λ z. firsts compare_rows (rows_in p.value ++ z)) l)))
          (distinct_joins c ts (rows_in p.value) (rows_in m.value))));
    }) h
