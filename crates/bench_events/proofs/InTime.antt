-- A list of events by time with one more that is not earlier.
use Rattle.std.proofs.Common.{◌≡◌, ℕ, ◌<◌, ◌≤◌, ◌^◌, true, List, [], ◌∷◌, ◌++◌, map, sym, ◌∙◌, ap, subst, arith}
use Rattle.std.specs.Ordering.{is_le, nat_cmp}
use Rattle.std.proofs.lemmas.Bool.Decides.{nat_tests}
use Rattle.std.proofs.lemmas.List.{map-append}
use Rattle.agg_terms.specs.Lists.{Each, NotFalling}
use Rattle.agg_terms.specs.Trees.{by_time}
use Rattle.agg_terms.specs.Values as family
use Rattle.value_types.specs.Folds.{event_of}
use Rattle.value_types.specs.declared.value.Event.{Event}

le_is : (a b : ℕ) → a ≤ b → is_le (nat_cmp a b) ≡ true
le_is a b l = grind (arith, nat_tests)

each_pushed : (P : family.Event → Type 0) (es : List family.Event) (e : family.Event) → Each P es → P e → Each P (es ++ e ∷ [])
each_pushed P [] e k h = (h, tt)
each_pushed P (f ∷ es) e k h = (k.0, each_pushed P es e k.1 h)

pushed : (es : List family.Event) (e : family.Event) → NotFalling by_time es → Each (λ f. f.time ≤ e.time) es → NotFalling by_time (es ++ e ∷ [])
pushed [] e k h = tt
pushed (f ∷ []) e k h = (le_is f.time e.time h.0, tt)
pushed (f ∷ g ∷ es) e k h = (k.0, pushed (g ∷ es) e k.1 h.1)

pub ordered_more : (es after : List Event) (e : Event) → NotFalling by_time (map event_of es) → Each (λ f. f.time ≤ e.time) (map event_of es) → after ≡ es ++ e ∷ [] → NotFalling by_time (map event_of after)
ordered_more es after e k h a = subst (NotFalling by_time) (sym (ap (map event_of) a ∙ map-append event_of es (e ∷ []))) (pushed (map event_of es) (event_of e) k h)

each_more : (P : family.Event → Type 0) (es after : List Event) (e : Event) → Each P (map event_of es) → P (event_of e) → after ≡ es ++ e ∷ [] → Each P (map event_of after)
each_more P es after e k h a = subst (Each P) (sym (ap (map event_of) a ∙ map-append event_of es (e ∷ []))) (each_pushed P (map event_of es) (event_of e) k h)

pub times_more : (es after : List Event) (e : Event) → Each (λ f. f.time ≤ e.time) (map event_of es) → after ≡ es ++ e ∷ [] → Each (λ f. f.time ≤ e.time) (map event_of after)
times_more es after e k a = each_more (λ f. f.time ≤ e.time) es after e k (omega arith) a

pub masks_more : (es after : List Event) (e : Event) → e.mask < 2 ^ 32 → Each (λ f. f.mask < 2 ^ 32) (map event_of es) → after ≡ es ++ e ∷ [] → Each (λ f. f.mask < 2 ^ 32) (map event_of after)
masks_more es after e m k a = each_more (λ f. f.mask < 2 ^ 32) es after e k m a

pub each_weaker : (t u : ℕ) (es : List family.Event) → t ≤ u → Each (λ f. f.time ≤ t) es → Each (λ f. f.time ≤ u) es
each_weaker t u [] l k = tt
each_weaker t u (f ∷ es) l k = (omega (arith, k.0, l), each_weaker t u es l k.1)
