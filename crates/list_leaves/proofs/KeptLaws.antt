-- Lists of numbers and of values: what a list keeps is a map over its numbers.
use Rattle.std.proofs.lemmas.List.{length-map, map-append, take-map}

pub ruleset kept_laws = (length-map, map-append, take-map)
