-- The rules on a request over a table, and which of them is broken first.
use Rattle.std.specs.Prelude.{ℕ, suc, ◌<◌, ◌^◌, ◌==◌, not, nat_le, List, [], ◌∷◌, length, map, Option, Some, None, Result, Ok, Err, if◌then◌else◌}
use Rattle.std.specs.List.{list_any}
use Rattle.std.specs.Str.{bytes_eq}
use Rattle.agg_terms.specs.Chains.{Ty}
use Rattle.agg_typing.specs.Kinds.{is_number_or_text}
use Rattle.agg_typing.specs.Typing as typing
use Rattle.line_forms.specs.Letters.{Name}
use Rattle.line_forms.specs.Selects as written
use Rattle.pattern_texts.specs.Machine.{pattern_reader}
use Rattle.refusals.specs.declared.why.LimitName.{LimitName}
use Rattle.refusals.specs.declared.why.Why.{Why}
use Rattle.request_rules.specs.Tables.{Column}
use Rattle.request_rules.specs.Turns.{and_then, check, at_part, in_turn}

-- a column that a name stands for: its place in the table, from 0, and its type
pub record Named : Type 0 where
  pub place : ℕ
  pub ty : Ty

-- the places of columns, and their types
abbrev pub places_of : List Named → List ℕ
places_of columns = map (λ (n : Named). n.place) columns

abbrev pub named_types : List Named → List Ty
named_types columns = map (λ (n : Named). n.ty) columns

-- the column of a name among columns that begin at a place, if there is one
abbrev pub named_from : ℕ → List Column → List ℕ → Option Named
named_from place [] name = None
named_from place (c ∷ cs) name = if bytes_eq c.name name then Some (record { place = place; ty = c.ty }) else named_from (suc place) cs name

abbrev pub known_or : Option Named → Why → Result Named Why
known_or (Some named) why = Ok named
known_or None why = Err why

-- Unknown column: the name is a column's.
abbrev pub known : List Column → Name → Result Named Why
known columns name = known_or (named_from 0 columns name.name) (Why.UnknownColumn name.at)

-- Unknown column: each name is a column's.
abbrev pub all_known : List Column → List Name → Result (List Named) Why
all_known columns names = in_turn (λ (_ : List Named). known columns) [] names

-- a call: its chain with its types, and the places of the columns that it is called on
pub record PlacedCall : Type 0 where
  pub typed : typing.TypedCall
  pub columns : List ℕ

-- what is asked of the rows of a table: calls, and the places of the columns that are keys
pub record Plan : Type 0 where
  pub calls : List PlacedCall
  pub keys : List ℕ

-- Limit: a request has at most 64 calls.
abbrev pub has_few_calls : written.Select → Result (Unit {0}) Why
has_few_calls select = check (nat_le (length select.calls) 64) (Why.Limit LimitName.Calls)

-- Limit: a request has at most 8 keys.
abbrev pub has_few_keys : written.Select → Result (Unit {0}) Why
has_few_keys select = check (nat_le (length select.keys) 8) (Why.Limit LimitName.Keys)

-- both limits, in this order
abbrev pub within_limits : written.Select → Result (Unit {0}) Why
within_limits select = and_then (has_few_calls select) (λ (_ : Unit {0}). has_few_keys select)

-- Chain: the call of this number breaks no rule on chains over the types of its arguments.
abbrev pub resolved_call : ℕ → written.SelectCall → List Named → Result typing.TypedCall Why
resolved_call number call arguments =
    at_part number (typing.resolved pattern_reader call.name call.params (named_types arguments))

-- the rules on the call of this number, counted from 1
abbrev pub call_numbered : ℕ → List Column → written.SelectCall → Result PlacedCall Why
call_numbered number columns call =
    and_then (all_known columns call.arguments) (λ (arguments : List Named).
    and_then (resolved_call number call arguments) (λ (typed : typing.TypedCall).
    Ok (record { typed = typed; columns = places_of arguments })))

-- the rules on a call that stands to the right of these
abbrev pub judged_call : List Column → List PlacedCall → written.SelectCall → Result PlacedCall Why
judged_call columns before call = call_numbered (suc (length before)) columns call

abbrev pub judged_calls : List Column → List written.SelectCall → Result (List PlacedCall) Why
judged_calls columns calls = in_turn (judged_call columns) [] calls

-- Repeated: no key to the left is the same column.
abbrev pub is_new_key : List ℕ → ℕ → ℕ → Result (Unit {0}) Why
is_new_key before place at = check (not (list_any (λ (other : ℕ). other == place) before)) (Why.Repeated at)

-- Key type: a key is of a number type, String or Nullable of one.
abbrev pub is_of_key_type : Ty → ℕ → Result (Unit {0}) Why
is_of_key_type ty at = check (is_number_or_text ty) (Why.KeyType at)

-- the rules on a key that stands to the right of these
abbrev pub judged_key : List Column → List ℕ → Name → Result ℕ Why
judged_key columns before key =
    and_then (known columns key) (λ (column : Named).
    and_then (is_new_key before column.place key.at) (λ (_ : Unit {0}).
    and_then (is_of_key_type column.ty key.at) (λ (_ : Unit {0}).
    Ok column.place)))

abbrev pub judged_keys : List Column → List Name → Result (List ℕ) Why
judged_keys columns keys = in_turn (judged_key columns) [] keys

-- What a request over these columns asks for, or why it is refused: the limits, then the calls, and then the keys, each
-- from left to right.
abbrev pub judged_select : List Column → written.Select → Result Plan Why
judged_select columns select =
    and_then (within_limits select) (λ (_ : Unit {0}).
    and_then (judged_calls columns select.calls) (λ (calls : List PlacedCall).
    and_then (judged_keys columns select.keys) (λ (keys : List ℕ).
    Ok (record { calls = calls; keys = keys }))))

-- a call with fewer than 2^32 parameters and arguments
abbrev pub IsFewCall : written.SelectCall → Type 0
IsFewCall call = (length call.params < 2 ^ 32) × (length call.arguments < 2 ^ 32)

abbrev pub AreFewCalls : List written.SelectCall → Type 0
AreFewCalls [] = Unit {0}
AreFewCalls (c ∷ cs) = IsFewCall c × AreFewCalls cs
