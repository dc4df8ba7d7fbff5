use Rattle.piece_claims.proofs.spread.split.Given as goal

abbrev pub ghosts-cut : goal.ghosts-cut
ghosts-cut g a = record { part = a.quota }
