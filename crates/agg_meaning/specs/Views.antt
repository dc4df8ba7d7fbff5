-- The tables of a view and its answers, over whole lists of what rows and loaded states contribute.
use Rattle.std.specs.Prelude.{ℕ, ◌<◌, cond, List, [], ◌∷◌, ◌++◌, flat_map, get_or, length, map}
use Rattle.std.specs.Ordering.{is_eq}
use Rattle.agg_terms.specs.Chains.{Chain, Count, Of, Ty}
use Rattle.agg_terms.specs.Lists.{Each, is_empty, places}
use Rattle.agg_terms.specs.Order.{compare_rows, different}
use Rattle.agg_terms.specs.Values.{Empty, Tree, Value}
use Rattle.agg_meaning.specs.Feeds.{Feed, opened}
use Rattle.agg_meaning.specs.Functions.{arg}
use Rattle.agg_meaning.specs.Laws.{AreFeeds, IsLegal}
use Rattle.agg_meaning.specs.Suffixes.{meaning, normal, unfolded}

-- a call: its chain over the types of its arguments, and the columns of these arguments
pub record Call : Type 0 where
  pub chain : Chain
  pub types : List Ty
  pub columns : List ℕ

-- a view: the columns of GROUP BY, none without it, and the calls of SELECT
pub record View : Type 0 where
  pub keys : List ℕ
  pub calls : List Call

-- the call of a number, counted from 0; past the last one a count of rows, which nothing asks for
abbrev pub call_at : List Call → ℕ → Call
call_at calls i = get_or calls i (record { chain = Of Count; types = []; columns = [] })

-- what is contributed to a view: a key tuple, and a list of feeds for each call
abbrev pub Contribution : View → Type 0
Contribution v = List Value × ((i : ℕ) → List (Feed (call_at v.calls i).chain))

-- the fields of a row in these columns
abbrev pub items_at : List ℕ → List Value → List Value
items_at columns row = map (λ i. arg i row) columns

-- a row contributes its key fields and, to each call, the one feed that its arguments open to
abbrev pub of_row : (v : View) → List Value → Contribution v
of_row v row =
    (items_at v.keys row, λ i. opened (call_at v.calls i).chain (items_at (call_at v.calls i).columns row) ∷ [])

-- a line of states contributes its key and, to each call, what its state unfolds to
abbrev pub of_states : (v : View) → List Value × List Tree → Contribution v
of_states v line =
    (line.0, λ i. unfolded (call_at v.calls i).chain (call_at v.calls i).types (get_or line.1 i Empty))

-- the group that is there before any row: without GROUP BY that of the empty tuple
abbrev pub first_groups : View → List (List Value)
first_groups v = cond (is_empty v.keys) ([] ∷ []) []

-- the groups: the different keys, ascending
abbrev pub groups : (v : View) → List (Contribution v) → List (List Value)
groups v C = different compare_rows (first_groups v ++ map (λ c. c.0) C)

-- the feeds that the contributions of a group bring to a call, in their order
abbrev pub feeds_of : (v : View) → List Value → (i : ℕ) → List (Contribution v) → List (Feed (call_at v.calls i).chain)
feeds_of v g i C = flat_map (λ c. cond (is_eq (compare_rows g c.0)) (c.1 i) []) C

-- a group's state of a call, and what the call means in the group
abbrev pub state_at : (v : View) → List (Contribution v) → List Value → ℕ → Tree
state_at v C g i = normal (call_at v.calls i).chain (call_at v.calls i).types (feeds_of v g i C)

abbrev pub meaning_at : (v : View) → List (Contribution v) → List Value → ℕ → Value
meaning_at v C g i = meaning (call_at v.calls i).chain (call_at v.calls i).types (feeds_of v g i C)

-- the tables, which are also the answer of states: a line for each group, its key and its state of each call
abbrev pub tables : (v : View) → List (Contribution v) → List (List Value × List Tree)
tables v C = map (λ g. (g, map (state_at v C g) (places 0 (length v.calls)))) (groups v C)

-- the answer: a line for each group, its key and what each call means in it
abbrev pub answer : (v : View) → List (Contribution v) → List (List Value × List Value)
answer v C = map (λ g. (g, map (meaning_at v C g) (places 0 (length v.calls)))) (groups v C)

-- a view of legal calls
abbrev pub IsLegalView : View → Type 0
IsLegalView v = Each (λ c. IsLegal c.chain c.types) v.calls

-- contributions whose feeds are feeds of the calls
abbrev pub AreContributions : (v : View) → List (Contribution v) → Type 0
AreContributions v C =
    Each (λ c. (i : ℕ) → i < length v.calls → AreFeeds (call_at v.calls i).chain (call_at v.calls i).types (c.1 i)) C
