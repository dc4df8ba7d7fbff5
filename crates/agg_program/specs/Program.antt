-- What a run of the program comes to, by the words of its command line, and how it ends.
use Rattle.std.specs.Prelude.{◌≡◌, ℕ, List, Option, None, Some, Err}
use Rattle.query_run.specs.Outcome.{Judgement}
use Rattle.query_run.specs.Runs.{Ends, IsComplete, IsQueryRun, Moves, Tells}
use Rattle.query_words.specs.Words.{command_of}
use Rattle.query_words.specs.declared.command.Command.{Command}
use Rattle.query_words.specs.declared.command.Command.TheVariants.{Make, Query, Script}
use Rattle.refusals.specs.declared.status.Status.{Status}

-- What a command comes to. `query` comes to what its input does; `script` and `make` aren't there yet, and are refused as words that ask
-- for nothing.
abbrev pub IsCommandRun : {A : Type 0} → (A → Option (List ℕ)) → A → A → Command → Judgement → Type 0
IsCommandRun left old new (Query threads pieces) judged = IsQueryRun left old new judged
IsCommandRun left old new (Script threads) judged = judged ≡ Err Status.Usage
IsCommandRun left old new (Make number rows) judged = judged ≡ Err Status.Usage

-- words that ask for no command are refused
abbrev pub IsAskedRun : {A : Type 0} → (A → Option (List ℕ)) → A → A → Option Command → Judgement → Type 0
IsAskedRun left old new None judged = judged ≡ Err Status.Usage
IsAskedRun left old new (Some command) judged = IsCommandRun left old new command judged

-- what words come to
abbrev pub IsRun : {A : Type 0} → (A → Option (List ℕ)) → A → A → List (List ℕ) → Judgement → Type 0
IsRun left old new words judged = IsAskedRun left old new (command_of words) judged

-- how a run of these words ends, whose source was this and is now that
abbrev pub EndsProgram : {A : Type 0} → (A → Option (List ℕ)) → A → A → List (List ℕ) → Moves → Status → Type 0
EndsProgram left old new words m status = Ends (IsRun left old new words) (left new) m status

-- A query whose input is accepted, and neither of whose ends fails, is answered, but for want of memory.
abbrev pub IsCompleteAsked : {A : Type 0} → (A → Option (List ℕ)) → A → Option Command → Moves → Status → Type 0
IsCompleteAsked left old (Some (Query threads pieces)) m status = Tells left → IsComplete (left old) m status
IsCompleteAsked left old asked m status = Unit {0}

abbrev pub IsCompleteProgram : {A : Type 0} → (A → Option (List ℕ)) → A → List (List ℕ) → Moves → Status → Type 0
IsCompleteProgram left old words m status = IsCompleteAsked left old (command_of words) m status
