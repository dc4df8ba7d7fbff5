-- Funnels and patterns in the words of places: what the choices among the events come to.
use Rattle.std.specs.Prelude.{◌≡◌, ℕ, suc, ◌<◌, ◌≤◌, Bool, true, List, [], ◌∷◌, get_or, length, map}
use Rattle.agg_terms.specs.Chains.{Pattern}
use Rattle.agg_terms.specs.Values.{Event}
use Rattle.agg_meaning.specs.Events.{funnel_level, is_funnel, is_match, is_matched}

-- strictly increasing places, from a first one on and below an end
abbrev pub ArePlaces : ℕ → ℕ → List ℕ → Type 0
ArePlaces first end [] = Unit {0}
ArePlaces first end (p ∷ ps) = (first ≤ p) × (p < end) × ArePlaces (suc p) end ps

abbrev pub event_at : List Event → ℕ → Event
event_at es p = get_or es p (record { time = 0; mask = 0 })

-- places whose events are a funnel chain, and places that match a pattern
abbrev pub IsFunnelAt : ℕ → Bool → List Event → List ℕ → Type 0
IsFunnelAt window strict es ps = ArePlaces 0 (length es) ps × (is_funnel window strict (map (event_at es) ps) ≡ true)

abbrev pub IsMatchAt : Pattern → List Event → List ℕ → Type 0
IsMatchAt pattern es ps = ArePlaces 0 (length es) ps × (is_match pattern (map (λ p. (p, event_at es p)) ps) ≡ true)

-- a funnel's level is reached by a funnel chain, and none is longer
abbrev pub LevelIsReached : Type 0
LevelIsReached = (window : ℕ) (strict : Bool) (es : List Event) →
    (ps : List ℕ) × IsFunnelAt window strict es ps × (length ps ≡ funnel_level window strict es)

abbrev pub LevelIsGreatest : Type 0
LevelIsGreatest = (window : ℕ) (strict : Bool) (es : List Event) (ps : List ℕ) →
    IsFunnelAt window strict es ps → length ps ≤ funnel_level window strict es

-- a pattern matches exactly where some places match it
abbrev pub MatchHasPlaces : Type 0
MatchHasPlaces = (pattern : Pattern) (es : List Event) → is_matched pattern es ≡ true → (ps : List ℕ) × IsMatchAt pattern es ps

abbrev pub PlacesAreMatch : Type 0
PlacesAreMatch = (pattern : Pattern) (es : List Event) (ps : List ℕ) → IsMatchAt pattern es ps → is_matched pattern es ≡ true
