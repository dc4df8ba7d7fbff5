-- The state of sequenceMatch that a state of the code is.
use Rattle.std.specs.Prelude.{◌≡◌, ℕ, ◌+◌, ◌≤◌, length}
use Rattle.agg_terms.specs.Chains as terms
use Rattle.agg_terms.specs.Chains.{SequenceMatch, Whole}
use Rattle.agg_meaning.specs.States.{Held}
use Rattle.value_types.specs.Folds.{pattern_of}
use Rattle.value_types.specs.declared.pattern.Pattern.{Pattern}
use Rattle.event_leaves.specs.Kept.{Kept, event_tree}
use Rattle.event_leaves.specs.declared.matching.MatchState.{MatchState}

-- a pattern, and what is kept of the rows
abbrev pub match_held : terms.Pattern → Kept → Held
match_held pattern k = record {
  made = record { leaf = SequenceMatch pattern; result = Whole 8; arguments = k.conditions + 1 };
  tree = event_tree k.is_fed k.events;
}

abbrev pub held : MatchState → Held
held s = match_held (pattern_of s.pattern) s.rows
