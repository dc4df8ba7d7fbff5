-- The two lines of a query, as the outcome of an input has them.
use Rattle.std.proofs.Common.{◌≡◌, ℕ, ◌≤◌, List, [], ◌∷◌, length, map, Option, Some, None, Result, Ok, Err, refl, ap, subst, inl, inr, arith, IfSome, IfOk, IfErr}
use Rattle.agg_defs.specs.declared.schema.Schema.{Schema}
use Rattle.line_reader.specs.Ahead.{Ahead, new_ahead}
use Rattle.refusals.specs.declared.status.Status.{Status}
use Rattle.refusals.specs.declared.why.RequestFault.{RequestFault}
use Rattle.refusals.specs.declared.why.Why.{Why}
use Rattle.request_rules.specs.Tables.{AreLegal, Column}
use Rattle.request_rules.specs.Views.{column_of, schema_of}
use Rattle.request_text.specs.Laws.{OneTable}
use Rattle.request_text.specs.Lines.{IsTableJudged}
use Rattle.request_text.specs.Queries.{IsQueryAnswer}
use Rattle.request_text.specs.declared.query.Query.{Query}
use Rattle.query_run.specs.Outcome.{AtLine, IsQueryOutcome, IsRequestThen, IsTableThen, Judgement, judged_rows, most_input, most_line}
use Rattle.query_run.specs.Runs.{IsQueryRun, Tells}
use Rattle.query_run.specs.proving.Heads.{HasHead, HeadsTo, HasLine, HasNoLine, IsTableLine, RefusesQuery, RefusesTable, refused}
use Rattle.query_run.proofs.Inputs.{first-input, one-input}
use Rattle.query_run.proofs.HeadLines.{IsToldStatus, line-on, no-line-on}

-- a refusal that is told, or want of memory, which says nothing
pub outcome-of : (now : Option (List ℕ)) (input : List ℕ) (status : Status) → (IsToldStatus status → AtLine now (Err status) most_input input (IsTableThen now (Err status))) → IsQueryOutcome now input (Err status)
outcome-of now input Status.OutOfMemory h = tt
outcome-of now input Status.Done h = h tt
outcome-of now input Status.Usage h = h tt
outcome-of now input (Status.BadRequest line why) h = h tt
outcome-of now input (Status.BadRow row why) h = h tt
outcome-of now input (Status.BadState row column why) h = h tt
outcome-of now input Status.ReadFault h = h tt
outcome-of now input Status.WriteFault h = h tt
outcome-of now input (Status.TooLarge size) h = h tt

pub some-then : (o : Option (List ℕ)) (P : List ℕ → Type 0) → ((bytes : List ℕ) → o ≡ Some bytes → P bytes) → IfSome o P
some-then None P f = tt
some-then (Some bytes) P f = f bytes refl

refuses-table : (end : Option (List ℕ)) (status : Status) (line : List ℕ) (room : ℕ) (rest : List ℕ) → IsToldStatus status → RefusesTable line status → IsTableThen end (Err status) line room rest
refuses-table end (Status.BadRequest number why) line room rest told h = inl (why, h.1, ap (λ n. Err (Status.BadRequest n why)) h.0)
refuses-table end Status.OutOfMemory line room rest told h = absurd told
refuses-table end Status.Done line room rest told h = absurd h
refuses-table end Status.Usage line room rest told h = absurd h
refuses-table end (Status.BadRow row why) line room rest told h = absurd h
refuses-table end (Status.BadState row column why) line room rest told h = absurd h
refuses-table end Status.ReadFault line room rest told h = absurd h
refuses-table end Status.WriteFault line room rest told h = absurd h
refuses-table end (Status.TooLarge size) line room rest told h = absurd h

module _ {A : Type 0} (left : A → Option (List ℕ)) (old : A) (before : Ahead) (is : before ≡ new_ahead most_line most_input) where
  starts : before.most_line ≡ most_line
  starts = ap (λ (a : Ahead). a.most_line) is

  module _ (mid : A) (after : Ahead) (table : List ℕ) (first : HasLine (left old) (left mid) before after table) where
    -- what the table and what follows it come to, all comes to
    first-on : (bytes : List ℕ) → left old ≡ Some bytes → (end : Option (List ℕ)) (judged : Judgement) → IsTableThen end judged table after.room first.rest → AtLine end judged most_input bytes (IsTableThen end judged)
    first-on bytes e end judged h =
        subst (λ i. AtLine end judged most_input i (IsTableThen end judged)) (first-input (left old) before most_line most_input first.input bytes e is first.from)
        (subst (λ r. AtLine end judged r first.input (IsTableThen end judged)) (ap (λ (a : Ahead). a.room) is)
        (line-on (left old) (left mid) end before after table judged (IsTableThen end judged) first starts h))

    told-on : (end : Option (List ℕ)) (status : Status) → (IsToldStatus status → IsTableThen end (Err status) table after.room first.rest) → IfSome (left old) (λ input. IsQueryOutcome end input (Err status))
    told-on end status h = some-then (left old) (λ input. IsQueryOutcome end input (Err status)) (λ bytes e. outcome-of end bytes status (λ told. first-on bytes e end (Err status) (h told)))

    -- the first line is no table
    pub none-table : (status : Status) → RefusesTable table status → IsQueryRun left old mid (Err status)
    none-table status h tells = told-on (left mid) status (λ told. refuses-table (left mid) status table after.room first.rest told h)

    module _ (judged : IsTableLine table) (most : after.most_line ≡ most_line) where
      -- the second line can't be read
      pub none-second : (new : A) (status : Status) → HasNoLine (left mid) (left new) after status → IsQueryRun left old new (Err status)
      none-second new status h tells =
          told-on (left new) status (λ told.
          inr (
            judged.columns,
            judged.table,
            subst (λ i. AtLine (left new) (Err status) after.room i (IsRequestThen (left new) (Err status) judged.columns))
                (one-input (left mid) after h.input first.rest (tells mid).0 (tells mid).1 h.from first.to)
                (no-line-on (left mid) (left new) after status (IsRequestThen (left new) (Err status) judged.columns) told h most),
          ))

      module _ (new : A) (last : Ahead) (request : List ℕ) (second : HasLine (left mid) (left new) after last request) where
        second-on : Tells left → (end : Option (List ℕ)) (answer : Judgement) (columns : List Column) → IsRequestThen end answer columns request last.room second.rest → AtLine end answer after.room first.rest (IsRequestThen end answer columns)
        second-on tells end answer columns h =
            subst (λ i. AtLine end answer after.room i (IsRequestThen end answer columns))
            (one-input (left mid) after second.input first.rest (tells mid).0 (tells mid).1 second.from first.to)
            (line-on (left mid) (left new) end after last request answer (IsRequestThen end answer columns) second most h)

        refuses : Tells left → (status : Status) → IsToldStatus status → RefusesQuery table request status → IsTableThen (left new) (Err status) table after.room first.rest
        refuses tells (Status.BadRequest number why) told (inl h) = inl (why, h.1, ap (λ n. Err (Status.BadRequest n why)) h.0)
        refuses tells (Status.BadRequest number why) told (inr h) =
            inr (h.1.0, h.1.1, second-on tells (left new) (Err (Status.BadRequest number why)) h.1.0 (inl (why, h.1.2, ap (λ n. Err (Status.BadRequest n why)) h.0)))
        refuses tells Status.OutOfMemory told h = absurd told
        refuses tells Status.Done told h = absurd h
        refuses tells Status.Usage told h = absurd h
        refuses tells (Status.BadRow row why) told h = absurd h
        refuses tells (Status.BadState row column why) told h = absurd h
        refuses tells Status.ReadFault told h = absurd h
        refuses tells Status.WriteFault told h = absurd h
        refuses tells (Status.TooLarge size) told h = absurd h

        -- the two lines are no query
        pub none-query : (status : Status) → RefusesQuery table request status → IsQueryRun left old new (Err status)
        none-query status h tells = told-on (left new) status (λ told. refuses tells status told h)

        -- the two lines are a query
        pub has-head : (query : Query) → IsQueryAnswer table request (Ok query) → Tells left → HasHead left old new last query
        has-head query h tells = record {
          rest = second.rest;
          to = second.to;
          comes = some-then (left old) _ (λ bytes e end rows answer.
              first-on bytes e end (judged_rows query rows)
              (inr (schema_of query.schema, h.0, second-on tells end (judged_rows query rows) (schema_of query.schema) (inr (query, refl, h.1, rows, answer, refl)))));
        }

        pub heads-to : (answer : Result Query Status) → IfOk answer (λ query. IsQueryAnswer table request (Ok query)) → IfErr answer (RefusesQuery table request) → HeadsTo left old new last answer
        heads-to (Ok query) h g = has-head query h
        heads-to (Err status) h g = none-query status g

-- Why two lines are no query.

pub query-refused : (line1 line2 : List ℕ) (fault : RequestFault) → IsQueryAnswer line1 line2 (Err fault) → RefusesQuery line1 line2 (refused fault)
query-refused line1 line2 (RequestFault.Bad line why) h = h
query-refused line1 line2 RequestFault.OutOfMemory h = tt

-- Two tables of a line are one.

same-columns : (a b : List Column) → (let r : Result (List Column) Why = Ok a in r) ≡ Ok b → a ≡ b
same-columns a b e = cc

pub same-table : OneTable → (line : List ℕ) (schema : Schema) (h : IsTableLine line) → IsTableJudged line (Ok (schema_of schema)) → h.columns ≡ schema_of schema
same-table law line schema h table = same-columns h.columns (schema_of schema) (law line (Ok h.columns) (Ok (schema_of schema)) h.table table)

pub few-columns : OneTable → (line : List ℕ) (schema : Schema) → IsTableLine line → IsTableJudged line (Ok (schema_of schema)) → length schema.columns ≤ 64
few-columns law line schema h table = omega (arith, h.few, ap length (same-table law line schema h table), long schema.columns)
  where
    long : (columns : List _) → length (map column_of columns) ≡ length columns
    long [] = refl
    long (c ∷ columns) = omega (arith, long columns)

pub legal-columns : OneTable → (line : List ℕ) (schema : Schema) → IsTableLine line → IsTableJudged line (Ok (schema_of schema)) → AreLegal (schema_of schema)
legal-columns law line schema h table = subst AreLegal (same-table law line schema h table) h.legal
