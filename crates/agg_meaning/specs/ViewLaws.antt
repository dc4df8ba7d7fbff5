-- The laws of tables: they merge group by group, and are stored and loaded again without loss.
use Rattle.std.specs.Prelude.{◌≡◌, ◌≢◌, ℕ, ◌<◌, List, ◌++◌, length, map}
use Rattle.agg_terms.specs.Lists.{Each, Rising}
use Rattle.agg_terms.specs.Order.{compare_rows, different}
use Rattle.agg_terms.specs.Values.{Value}
use Rattle.agg_meaning.specs.Results.{blank}
use Rattle.agg_meaning.specs.Suffixes.{normal, unfolded}
use Rattle.agg_meaning.specs.Views.{AreContributions, Contribution, IsLegalView, View, answer, call_at, groups, of_states, state_at, tables}

-- each group stands once, ascending
abbrev pub GroupsAscend : Type 0
GroupsAscend = (v : View) (C : List (Contribution v)) → Rising compare_rows (groups v C)

-- the groups of two lists joined are the groups of both
abbrev pub GroupsAreJoined : Type 0
GroupsAreJoined = (v : View) (A B : List (Contribution v)) →
    groups v (A ++ B) ≡ different compare_rows (groups v A ++ groups v B)

-- in each of them the states are merged
abbrev pub TablesAreMerged : Type 0
TablesAreMerged = (v : View) (A B : List (Contribution v)) (g : List Value) (i : ℕ) → IsLegalView v → i < length v.calls →
    AreContributions v A → AreContributions v B →
    normal (call_at v.calls i).chain (call_at v.calls i).types
    (unfolded (call_at v.calls i).chain (call_at v.calls i).types (state_at v A g i)
    ++ unfolded (call_at v.calls i).chain (call_at v.calls i).types (state_at v B g i))
    ≡ state_at v (A ++ B) g i

-- a group that isn't there has the state of no rows
abbrev pub AbsentIsBlank : Type 0
AbsentIsBlank = (v : View) (C : List (Contribution v)) (g : List Value) (i : ℕ) →
    Each (λ h. g ≢ h) (groups v C) → state_at v C g i ≡ blank (call_at v.calls i).chain

-- lists with equal tables may stand for one another wherever lists are joined
abbrev pub TablesJoin : Type 0
TablesJoin = (v : View) (A A' B B' : List (Contribution v)) →
    tables v A ≡ tables v A' → tables v B ≡ tables v B' → tables v (A ++ B) ≡ tables v (A' ++ B')

-- equal tables give the same answer
abbrev pub SameTablesAnswer : Type 0
SameTablesAnswer = (v : View) (A B : List (Contribution v)) → IsLegalView v → tables v A ≡ tables v B → answer v A ≡ answer v B

-- tables that were stored line by line and loaded again are the same tables
abbrev pub TablesReload : Type 0
TablesReload = (v : View) (C : List (Contribution v)) → IsLegalView v → AreContributions v C →
    tables v (map (of_states v) (tables v C)) ≡ tables v C
