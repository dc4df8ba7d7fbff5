-- Small views over few rows: their answers, and states that were merged and loaded again.
use Rattle.std.proofs.Common.{◌≡◌, List, [], ◌∷◌, map, None, refl}
use Rattle.agg_terms.specs.Values.{Value, Word, list_value}
use Rattle.agg_terms.specs.Chains.{Count, GroupArray, Of, Sum, Whole}
use Rattle.agg_terms.specs.Order.{compare}
use Rattle.agg_meaning.specs.Views.{View, answer, of_row, of_states}
use Rattle.agg_meaning.proofs.Examples.{n}
use Rattle.std.specs.Prelude.{pos}

-- SELECT count(), sum(ms) GROUP BY day, over the columns day and ms; and the same without GROUP BY
abbrev by_day : View
by_day = record {
  keys = 0 ∷ [];
  calls = record { chain = Of Count; types = []; columns = [] } ∷ record { chain = Of Sum; types = Whole 64 ∷ []; columns = 1 ∷ [] } ∷ [];
}

abbrev overall : View
overall = record { keys = []; calls = by_day.calls }

abbrev rows : List (List Value)
rows = (n 2 ∷ n 5 ∷ []) ∷ (n 1 ∷ n 10 ∷ []) ∷ (n 2 ∷ n 7 ∷ []) ∷ []

days : answer by_day (map (of_row by_day) rows) ≡ (n 1 ∷ [], n 1 ∷ n 10 ∷ []) ∷ (n 2 ∷ [], n 2 ∷ n 12 ∷ []) ∷ []
unfolding compare
days = refl

no_days : answer by_day [] ≡ []
no_days = refl

total : answer overall (map (of_row overall) rows) ≡ ([], n 3 ∷ n 22 ∷ []) ∷ []
unfolding compare
total = refl

-- without GROUP BY one line over no rows
no_total : answer overall [] ≡ ([], n 0 ∷ n 0 ∷ []) ∷ []
no_total = refl

-- states of a line, and later rows
loaded : answer by_day (of_states by_day (n 2 ∷ [], Word (pos 2) ∷ Word (pos 12) ∷ []) ∷ map (of_row by_day) ((n 2 ∷ n 1 ∷ []) ∷ []))
    ≡ (n 2 ∷ [], n 3 ∷ n 13 ∷ []) ∷ []
unfolding compare
loaded = refl

-- within a group the rows stay in their order
abbrev in_turn : View
in_turn = record { keys = 0 ∷ []; calls = record { chain = Of (GroupArray None); types = Whole 8 ∷ []; columns = 1 ∷ [] } ∷ [] }

kept_in_order : answer in_turn (map (of_row in_turn) rows) ≡ (n 1 ∷ [], list_value (n 10 ∷ []) ∷ []) ∷ (n 2 ∷ [], list_value (n 5 ∷ n 7 ∷ []) ∷ []) ∷ []
unfolding compare
kept_in_order = refl
