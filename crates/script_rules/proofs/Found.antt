-- Views that are judged from top to bottom are found by their names.
use Rattle.std.proofs.Common.{◌≡◌, refl, sym, ap, subst, ◌∙◌, ◌⊎◌, inl, inr, ⊎_elim, ℕ, zero, suc, ◌≤◌, Bool, true, not, nat_le, List, [], ◌∷◌, ◌++◌, length, Some, is_none, slice_get, Result, Ok, Err, arith, length-append}
use Rattle.std.specs.List.{position}
use Rattle.std.specs.Str.{bytes_eq}
use Rattle.std.proofs.lemmas.Grind.{common_steps}
use Rattle.std.proofs.lemmas.List.Folds.{position_or_len_push}
use Rattle.std.proofs.lemmas.List.Sums.{prefix_len-le-length}
use Rattle.refusals.specs.declared.why.LimitName.{LimitName}
use Rattle.refusals.specs.declared.why.Why.{Why}
use Rattle.request_rules.specs.Selects.{Plan, judged_select, within_limits}
use Rattle.request_rules.specs.Tables.{Column}
use Rattle.request_rules.specs.Turns.{and_then, in_turn}
use Rattle.request_rules.proofs.AllJudged.{past, same_value}
use Rattle.script_rules.specs.Laws.{AreFound, ViewLine, ViewsAreFound}
use Rattle.script_rules.specs.Views.{View, has_few_views, has_name, is_new_view, judged_view, place_of}
use Rattle.script_rules.proofs.Rules.{passed_first}

-- what each part keeps holds of all
module _ {A X : Type 0} (judge : List X → A → Result X Why) (Kept : List X → Type 0)
    (keeps : (before : List X) (part : A) (x : X) → Kept before → judge before part ≡ Ok x → Kept (before ++ x ∷ [])) where
  next : (r : Result X Why) (before all : List X) (parts : List A) → ((x : X) → r ≡ Ok x → Kept (before ++ x ∷ [])) →
      ((x : X) → Kept (before ++ x ∷ []) → in_turn judge (before ++ x ∷ []) parts ≡ Ok all → Kept all) →
      and_then r (λ x. in_turn judge (before ++ x ∷ []) parts) ≡ Ok all → Kept all
  next (Ok x) before all parts h more e = more x (h x refl) e
  next (Err why) before all parts h more e = absurd cc

  all_keep : (parts : List A) (before all : List X) → Kept before → in_turn judge before parts ≡ Ok all → Kept all
  all_keep [] before all kept e = subst Kept (same_value before all e) kept
  all_keep (part ∷ parts) before all kept e =
      next (judge before part) before all parts (λ x. keeps before part x kept) (λ x. all_keep parts (before ++ x ∷ []) all) e

module _ {X : Type 0} (test : X → Bool) where
  found_push : (xs : List X) (y : X) (i : ℕ) → position test xs ≡ Some i → position test (xs ++ y ∷ []) ≡ Some i
  found_push xs y i h =
      let push = position_or_len_push test xs y in
      let many = length-append xs (y ∷ []) in
      grind (arith, common_steps)

  new_push : (xs : List X) (y : X) → is_none (position test xs) ≡ true → test y ≡ true → position test (xs ++ y ∷ []) ≡ Some (length xs)
  new_push xs y h is =
      let within = prefix_len-le-length (λ (x : X). not (test x)) xs in
      let push = position_or_len_push test xs y in
      let many = length-append xs (y ∷ []) in
      grind (arith, common_steps)

-- what stands in a list that got one more
at_push : {X : Type 0} (xs : List X) (y x : X) (i : ℕ) → slice_get (xs ++ y ∷ []) i ≡ Some x → (slice_get xs i ≡ Some x) ⊎ ((i ≡ length xs) × (y ≡ x))
at_push [] y x zero e = inr (refl, cc)
at_push [] y x (suc i) e = absurd cc
at_push (z ∷ xs) y x zero e = inl e
at_push (z ∷ xs) y x (suc i) e = ⊎_elim inl (λ h. inr (ap suc h.0, h.1)) (at_push xs y x i e)

own_name : (name : List ℕ) → bytes_eq name name ≡ true
own_name [] = refl
own_name (b ∷ bs) = grind (arith, own_name bs)

made : (r : Result Plan Why) (name : List ℕ) (view : View) → and_then r (λ (plan : Plan). Ok (record { name = name; plan = plan })) ≡ Ok view → view.name ≡ name
made (Ok plan) name view e =
    let here : View = record { name = name; plan = plan } in
    sym (ap (λ (v : View). v.name) (same_value here view e))
made (Err why) name view e = absurd cc

abbrev pub Kept : List View → Type 0
Kept views = (length views ≤ 16) × AreFound views

push_found : (before : List View) (view : View) → AreFound before → is_none (place_of before view.name) ≡ true → AreFound (before ++ view ∷ [])
push_found before view found new place other here =
    ⊎_elim (λ h. found_push (has_name other.name) before view place (found place other h))
    (λ h. subst (λ (v : View). place_of (before ++ view ∷ []) v.name ≡ Some place) h.1
    (new_push (has_name view.name) before view new (own_name view.name) ∙ ap Some (sym h.0)))
    (at_push before view other place here)

pub one_more : (columns : List Column) (before : List View) (line : ViewLine) (view : View) → Kept before → judged_view columns before line.0 line.1 ≡ Ok view → Kept (before ++ view ∷ [])
one_more columns before line view kept e =
    let counted = past (within_limits line.1) _ view e in
    let few = passed_first (nat_le (suc (length before)) 16) (Why.Limit LimitName.Views) _ view counted in
    let named = past (has_few_views before) _ view counted in
    let new = passed_first (is_none (place_of before line.0.name)) (Why.Repeated line.0.at) _ view named in
    let own : view.name ≡ line.0.name = made (judged_select columns line.1) line.0.name view (past (is_new_view before line.0) _ view named) in
    let many = length-append before (view ∷ []) in
    (grind arith, push_found before view kept.1 (ap (λ (name : List ℕ). is_none (place_of before name)) own ∙ new))

pub views_are_found : ViewsAreFound
views_are_found columns lines views e =
    all_keep (λ (before : List View) (line : ViewLine). judged_view columns before line.0 line.1) Kept (one_more columns) lines [] views
    (omega arith, λ place view h. absurd cc) e
