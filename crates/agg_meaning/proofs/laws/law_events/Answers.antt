use Rattle.agg_meaning.proofs.Choices.{level_greatest, level_reached, match_places, places_match}
use Rattle.agg_meaning.proofs.laws.law_events.Goals as goal

pub returns-clause-level_is_reached : goal.returns-clause-level_is_reached
returns-clause-level_is_reached c = level_reached

pub returns-clause-level_is_greatest : goal.returns-clause-level_is_greatest
returns-clause-level_is_greatest c = level_greatest

pub returns-clause-match_has_places : goal.returns-clause-match_has_places
returns-clause-match_has_places c = match_places

pub returns-clause-places_are_match : goal.returns-clause-places_are_match
returns-clause-places_are_match c = places_match
