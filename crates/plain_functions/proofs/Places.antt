-- Places in lists, and lists of rows.
use Rattle.std.proofs.Common.{◌≡◌, ℕ, zero, suc, ◌-◌, ◌*◌, ◌/◌, ◌^◌, ◌<◌, nat_eq, false, cond, List, [], ◌∷◌, length, map, refl, ap, arith}
use Rattle.std.proofs.lemmas.List.{take-map, length-map}
use Rattle.agg_terms.specs.Lists.{is_empty}
use Rattle.agg_meaning.specs.Functions.{quantile_place}
use Rattle.value_types.specs.declared.value.Value.{Value}
use Rattle.plain_rows.specs.Rows.{rows_of}

pub ruleset kept_laws = (take-map)

pub place_is : (level n : ℕ) → quantile_place level n ≡ cond (nat_eq level (10 ^ 9)) (n - 1) ((level * n) / 10 ^ 9)
place_is level zero = refl
place_is level (suc n) = ap (λ k. cond (nat_eq level (10 ^ 9)) k ((level * suc n) / 10 ^ 9)) (let e : n ≡ suc n - 1 = omega arith in e)

pub some_rows : (rows : List (List Value)) → 0 < length rows → is_empty (rows_of rows) ≡ false
some_rows [] h = absurd (omega arith)
some_rows (r ∷ rows) h = refl

pub rows-length : (rows : List (List Value)) → length (rows_of rows) ≡ length rows
rows-length rows = length-map rows (map _)

pub ruleset empty_rows = (some_rows, rows-length)
