use Rattle.type_texts.proofs.param_texts.+write_places.Given as goal

abbrev pub decreases-write_places : goal.decreases-write_places
decreases-write_places l = l.places
