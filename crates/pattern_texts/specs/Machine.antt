-- A pattern read from left to right: one step a byte, and a fault where no step is.
use Rattle.std.specs.Prelude.{ℕ, ◌+◌, ◌-◌, ◌*◌, ◌^◌, List, [], ◌∷◌, ◌++◌, length, map, Option, Some, None, Bool, true, false, nat_lt, nat_le, ◌==◌, ◌&&◌, if◌then◌else◌, Result, Err}
use Rattle.first_fault.specs.Machine.{run}
use Rattle.agg_terms.specs.Chains.{PatItem, Cond, Any, PatLink, Next, Gap, Time, Pattern}
use Rattle.agg_typing.specs.Parameters.{PatternReader, most_conditions}
use Rattle.value_types.specs.declared.pattern.Op.{Op}
use Rattle.value_types.specs.declared.pattern.Op.TheVariants as op
use Rattle.value_types.specs.declared.pattern.Pattern.{Pattern as Held}
use Rattle.value_types.specs.Folds.{op_of, item_of, link_of}
use Rattle.pattern_texts.specs.declared.phase.Before.{Before}
use Rattle.pattern_texts.specs.declared.phase.Before.TheVariants as before
use Rattle.pattern_texts.specs.declared.phase.Phase.{Phase}
use Rattle.pattern_texts.specs.declared.phase.Phase.TheVariants as phase
use Rattle.pattern_texts.specs.declared.phase.Mark.{Mark}
use Rattle.pattern_texts.specs.declared.phase.Mark.TheVariants as mark

-- what a byte means
abbrev pub mark_of : ℕ → Mark
mark_of b =
    if b == 40 then mark.Open else (
    if b == 41 then mark.Close else (
    if b == 63 then mark.Question else (
    if b == 116 then mark.LetterT else (
    if b == 46 then mark.Dot else (
    if b == 42 then mark.Star else (
    if b == 60 then mark.Less else (
    if b == 62 then mark.Greater else (
    if b == 61 then mark.Equal else (
    if nat_le 48 b && nat_le b 57 then mark.Digit (b - 48) else mark.Other)))))))))

-- how far the text was read, and the items and links that it spelled so far
pub record State : Type 0 where
  pub phase : Phase
  pub items : List PatItem
  pub links : List PatLink

-- the state of a reader that holds these items and links
abbrev pub state_of : Held → Phase → State
state_of held phase = record { phase = phase; items = map item_of held.items; links = map link_of held.links }

-- the link to the next item
abbrev pub link_before : Before → List PatLink
link_before before.Start = []
link_before (before.Item condition) = Next ∷ []
link_before before.Gap = Gap ∷ []
link_before (before.Time op n) = Time (op_of op) n ∷ []

-- a pattern has at most 64 items
abbrev pub has_room : List PatItem → Bool
has_room items = nat_lt (length items) 64

-- an item behind what stands before it
abbrev pub with_item : Before → PatItem → Bool → List PatItem → List PatLink → State
with_item b item condition items links = record { phase = phase.At (before.Item condition); items = items ++ item ∷ []; links = links ++ link_before b }

-- the text goes on with nothing more spelled
abbrev pub goes : Phase → List PatItem → List PatLink → Option State
goes phase items links = Some (record { phase = phase; items = items; links = links })

-- the same, where the test holds
abbrev pub goes_if : Bool → Phase → List PatItem → List PatLink → Option State
goes_if test phase items links = if test then goes phase items links else None

-- what stands before the next item, once `.*` came
abbrev pub behind_gap : Before → Before
behind_gap before.Start = before.Start
behind_gap (before.Item condition) = before.Gap
behind_gap before.Gap = before.Gap
behind_gap (before.Time op n) = before.Gap

-- Between two parts: a `.`, but for behind a time, or a bracket where there is room for an item.
abbrev pub step_at : Before → Mark → List PatItem → List PatLink → Option State
step_at (before.Time op n) mark.Dot items links = None
step_at b mark.Dot items links = goes (phase.Dot b) items links
step_at b mark.Open items links = goes_if (has_room items) (phase.Open b) items links
step_at b m items links = None

-- whether the byte is a star
abbrev pub is_star : Mark → Bool
is_star mark.Star = true
is_star m = false

-- Behind a `.`: a star makes it a gap, and else it was an item.
abbrev pub step_dot : Before → Mark → List PatItem → List PatLink → Option State
step_dot b m items links =
    if is_star m then goes (phase.At (behind_gap b)) items links
    else (if has_room items then step_at (before.Item false) m (items ++ Any ∷ []) (links ++ link_before b) else None)

-- the comparison of one sign, `>` or `<`
abbrev pub sign_op : Bool → Op
sign_op true = op.Greater
sign_op false = op.Less

-- the comparison of one sign with `=` behind it
abbrev pub sign_equal : Bool → Op
sign_equal true = op.GreaterEq
sign_equal false = op.LessEq

-- One byte, by how far the text was read and what the byte means.
abbrev pub step_by : ℕ → Phase → Mark → List PatItem → List PatLink → Option State
step_by conditions (phase.At b) m items links = step_at b m items links
step_by conditions (phase.Dot b) m items links = step_dot b m items links
step_by conditions (phase.Open b) mark.Question items links = goes (phase.Asked b) items links
step_by conditions (phase.Asked b) (mark.Digit d) items links = goes_if (nat_le 1 d && nat_le d conditions) (phase.Number b d) items links
step_by conditions (phase.Asked (before.Item true)) mark.LetterT items links = goes phase.Timed items links
step_by conditions (phase.Number b n) (mark.Digit d) items links = goes_if (nat_le (n * 10 + d) conditions) (phase.Number b (n * 10 + d)) items links
step_by conditions (phase.Number b n) mark.Close items links = Some (with_item b (Cond n) true items links)
step_by conditions phase.Timed mark.Less items links = goes (phase.Sign false) items links
step_by conditions phase.Timed mark.Greater items links = goes (phase.Sign true) items links
step_by conditions phase.Timed mark.Equal items links = goes phase.HalfEqual items links
step_by conditions phase.HalfEqual mark.Equal items links = goes (phase.Compared op.Equal) items links
step_by conditions (phase.Sign more) mark.Equal items links = goes (phase.Compared (sign_equal more)) items links
step_by conditions (phase.Sign more) (mark.Digit d) items links = goes (phase.Amount (sign_op more) d) items links
step_by conditions (phase.Compared o) (mark.Digit d) items links = goes (phase.Amount o d) items links
step_by conditions (phase.Amount o n) (mark.Digit d) items links = goes_if (nat_le 1 n && nat_lt (n * 10 + d) (2 ^ 64)) (phase.Amount o (n * 10 + d)) items links
step_by conditions (phase.Amount o n) mark.Close items links = goes (phase.At (before.Time o n)) items links
step_by conditions p m items links = None

-- within `(?t..)`
abbrev pub IsTimePhase : Phase → Type 0
IsTimePhase phase.Timed = Unit {0}
IsTimePhase (phase.Sign more) = Unit {0}
IsTimePhase phase.HalfEqual = Unit {0}
IsTimePhase (phase.Compared o) = Unit {0}
IsTimePhase (phase.Amount o n) = Unit {0}
IsTimePhase p = ⊥

-- one byte
abbrev pub step : ℕ → State → ℕ → Option State
step conditions s b = step_by conditions s.phase (mark_of b) s.items s.links

-- a pattern of these items and links
abbrev pub pattern : List PatItem → List PatLink → Pattern
pattern items links = record { items = items; links = links }

-- What the end of the text says: a pattern behind an item or a gap, and behind a `.` that was the last item.
abbrev pub done_by : Phase → List PatItem → List PatLink → Option Pattern
done_by (phase.At (before.Item condition)) items links = Some (pattern items links)
done_by (phase.At before.Gap) items links = Some (pattern items links)
done_by (phase.Dot b) items links = if has_room items then Some (pattern (items ++ Any ∷ []) (links ++ link_before b)) else None
done_by p items links = None

-- the same, of a state
abbrev pub done : State → Option Pattern
done s = done_by s.phase s.items s.links

-- nothing read
abbrev pub start : State
start = record { phase = phase.At before.Start; items = []; links = [] }

-- a text over so many conditions, from the start
abbrev pub reads : ℕ → List ℕ → Result Pattern ℕ
reads conditions text = run (step conditions) done start text

-- The reader of patterns that typing takes; over a number of conditions that no function has it reads none.
abbrev pub pattern_reader : PatternReader
pattern_reader text conditions = if nat_le 1 conditions && nat_le conditions most_conditions then reads conditions text else Err 0
