-- What lines add to a script.
use Rattle.std.proofs.Common.{◌≡◌, refl, sym, ap, subst, ◌∙◌, ℕ, ◌+◌, ◌≤◌, ◌<◌, List, [], ◌∷◌, ◌++◌, length, map, Result, Ok, Err, IfOk, arith}
use Rattle.std.proofs.lemmas.List.{length-append, map-append}
use Rattle.agg_defs.specs.Plans.{PlanFits}
use Rattle.agg_defs.specs.declared.schema.Schema.{Schema}
use Rattle.agg_defs.specs.declared.views.View as code_view
use Rattle.agg_defs.specs.declared.views.Views.{Views}
use Rattle.line_forms.specs.Letters.{Every, Name}
use Rattle.line_forms.specs.ScriptLines.{Line, Insert, Load}
use Rattle.line_forms.specs.Views.{line_of}
use Rattle.line_forms.specs.declared.script_line.WrittenLine.{WrittenLine}
use Rattle.refusals.specs.declared.why.Why.{Why}
use Rattle.request_rules.specs.Answers.{Says}
use Rattle.request_rules.specs.Tables.{AreLegal}
use Rattle.request_rules.specs.Turns.{and_then}
use Rattle.request_rules.specs.Views.{schema_of}
use Rattle.request_rules.specs.declared.refusal.Refusal.{Refusal}
use Rattle.script_rules.specs.Folds.{views_of}
use Rattle.script_rules.specs.Views.{known_view}
use Rattle.script_text.specs.Answers.{AreSessions, AreViews, IsStatement, rows_of, script_of, statement_of, statements_of}
use Rattle.script_text.specs.Lines.{Rows, TextLine, lines_at}
use Rattle.script_text.specs.Scripts as script
use Rattle.script_text.specs.Scripts.{Script, to_last, with_statement}
use Rattle.script_text.specs.Steps.{line_added, row_count, rows_taken}
use Rattle.script_text.specs.proving.Taking.{IsAdded, Steps, alone}
use Rattle.script_text.specs.declared.script.Lines as code_lines
use Rattle.script_text.specs.declared.script.Script as code
use Rattle.script_text.specs.declared.script.Session.{Session}
use Rattle.script_text.specs.declared.script.Statement as code_statement
use Rattle.script_text.specs.declared.script.Statement.TheVariants as variants
use Rattle.script_text.specs.declared.steps.Step.{Step}

-- ---- lines without rows

pub keeps_views : (s : code.Script) (r : Result code.Script Refusal) → AreViews s.views → IfOk r (λ after. after.views ≡ s.views) → IfOk r (λ after. AreViews after.views)
keeps_views s (Ok after) h e = subst AreViews (sym e) h
keeps_views s (Err refusal) h e = tt

alone_steps : (text : List ℕ) (s : code.Script) (at : ℕ) (form : Line) (r : Result code.Script Refusal) → row_count form ≡ 0 → at ≤ length text
    → Says (script_of text) r (line_added (script_of text s) at (lines_at text at) form) → IfOk r (λ after. AreViews after.views) → IfOk r (AreSessions text)
    → Steps text at (IsAdded text s at form) (alone at r)
alone_steps text s at form (Ok after) none le e views sessions = (
  ap (λ (r : Result Script Why). and_then r (λ (next : Script). Ok (next, row_count form))) e ∙ ap (λ k. Ok (script_of text after, k)) none,
  record { views = views; sessions = sessions; taken = record { rest = refl; further = omega arith; within = le } },
)
alone_steps text s at form (Err (Refusal.Broken why)) none le e views sessions = ap (λ (r : Result Script Why). and_then r (λ (next : Script). Ok (next, row_count form))) e
alone_steps text s at form (Err Refusal.OutOfMemory) none le e views sessions = tt

pub alone_line : (text : List ℕ) (s : code.Script) (at : ℕ) (written : WrittenLine) (form : Line) (r : Result code.Script Refusal) (answer : Result Step Refusal)
    → line_of written ≡ form → answer ≡ alone at r → row_count form ≡ 0 → at ≤ length text
    → Says (script_of text) r (line_added (script_of text s) at (lines_at text at) form) → IfOk r (λ after. AreViews after.views) → IfOk r (AreSessions text)
    → Steps text at (IsAdded text s at (line_of written)) answer
alone_line text s at written form r answer is same none le e views sessions =
    subst (λ (f : Line). Steps text at (IsAdded text s at f) answer) (sym is)
    (subst (Steps text at (IsAdded text s at form)) (sym same) (alone_steps text s at form r none le e views sessions))

-- ---- statements with rows

-- a script with a statement more
abbrev pub With : List ℕ → code.Script → code_statement.Statement → code.Script → Type 0
With text s statement after = script_of text after ≡ with_statement (script_of text s) (statement_of text statement)

abbrev counted : ℕ → Result Script Why → Result (Script × ℕ) Why
counted count r = and_then r (λ (next : Script). Ok (next, count))

pub insert_step : (text : List ℕ) (s after : code.Script) (at count : ℕ) (lines : code_lines.Lines) → rows_taken at count (lines_at text at) ≡ Ok (rows_of text lines) → lines.count ≡ count
    → With text s (variants.Insert lines) after → IsAdded text s at (Insert count) (Ok (script_of text after, lines.count))
insert_step text s after at count lines rows same e =
    ap (λ (r : Result Rows Why). counted count (and_then r (λ (rows : Rows). Ok (with_statement (script_of text s) (script.Insert rows))))) rows
    ∙ ap (λ (next : Script). Ok (next, count)) (sym e) ∙ ap (λ k. Ok (script_of text after, k)) (sym same)

abbrev loaded : Script → ℕ → ℕ → Result Rows Why → Result (Script × ℕ) Why
loaded s count view r = counted count (and_then r (λ (rows : Rows). Ok (with_statement s (script.Load view rows))))

abbrev known_loaded : Script → ℕ → ℕ → List TextLine → Result ℕ Why → Result (Script × ℕ) Why
known_loaded s at count lines r = counted count (and_then r (λ (view : ℕ). and_then (rows_taken at count lines) (λ (rows : Rows). Ok (with_statement s (script.Load view rows)))))

pub load_step : (text : List ℕ) (s after : code.Script) (at count view : ℕ) (name : Name) (lines : code_lines.Lines) → known_view (views_of s.views.list) name ≡ Ok view
    → rows_taken at count (lines_at text at) ≡ Ok (rows_of text lines) → lines.count ≡ count
    → With text s (variants.Load view lines) after → IsAdded text s at (Load name count) (Ok (script_of text after, lines.count))
load_step text s after at count view name lines known rows same e =
    ap (known_loaded (script_of text s) at count (lines_at text at)) known ∙ ap (loaded (script_of text s) count view) rows
    ∙ ap (λ (next : Script). Ok (next, count)) (sym e) ∙ ap (λ k. Ok (script_of text after, k)) (sym same)

-- ---- the parts of a script

to_last-append : {S : Type 0} (item : S) (before : List (List S)) (last : List S) → to_last item (before ++ last ∷ []) ≡ before ++ (last ++ item ∷ []) ∷ []
to_last-append item [] last = refl
to_last-append item (x ∷ []) last = refl
to_last-append item (x ∷ y ∷ before) last = ap (λ xs. x ∷ xs) (to_last-append item (y ∷ before) last)

every-append : {T : Type 0} (P : T → Type 0) (xs ys : List T) → Every P xs → Every P ys → Every P (xs ++ ys)
every-append P [] ys a b = b
every-append P (x ∷ xs) ys a b = (a.0, every-append P xs ys a.1 b)

every-front : {T : Type 0} (P : T → Type 0) (xs ys : List T) → Every P (xs ++ ys) → Every P xs × Every P ys
every-front P [] ys a = (tt, a)
every-front P (x ∷ xs) ys a = let h = every-front P xs ys a.1 in ((a.0, h.0), h.1)

every-map : {T : Type 0} (P Q : T → Type 0) → ((t : T) → P t → Q t) → (xs : List T) → Every P xs → Every Q xs
every-map P Q f [] a = tt
every-map P Q f (x ∷ xs) a = (f x a.0, every-map P Q f xs a.1)

-- sessions of which the last has a statement more
module _ (before after sessions : List Session) (last more : Session) (statement : code_statement.Statement)
    (old : sessions ≡ before ++ last ∷ []) (grown : more.statements ≡ last.statements ++ statement ∷ []) (new : after ≡ before ++ more ∷ []) where
  last_grown : (text : List ℕ) → map (statements_of text) after ≡ to_last (statement_of text statement) (map (statements_of text) sessions)
  last_grown text =
      ap (map (statements_of text)) new ∙ map-append (statements_of text) before (more ∷ [])
      ∙ ap (λ (xs : List script.Statement). map (statements_of text) before ++ xs ∷ []) (ap (map (statement_of text)) grown ∙ map-append (statement_of text) last.statements (statement ∷ []))
      ∙ sym (ap (to_last (statement_of text statement)) (ap (map (statements_of text)) old ∙ map-append (statements_of text) before (last ∷ []))
      ∙ to_last-append (statement_of text statement) (map (statements_of text) before) (statements_of text last))

  as_many : length after ≡ length sessions
  as_many =
      let one : length (before ++ more ∷ []) ≡ length before + 1 = length-append before (more ∷ []) in
      let other : length (before ++ last ∷ []) ≡ length before + 1 = length-append before (last ∷ []) in
      ap length new ∙ one ∙ sym other ∙ sym (ap length old)

  each_grown : (P : code_statement.Statement → Type 0) → Every (λ (session : Session). Every P session.statements) sessions → P statement → Every (λ (session : Session). Every P session.statements) after
  each_grown P all one =
      let parts = every-front (λ (session : Session). Every P session.statements) before (last ∷ []) (subst (Every (λ (session : Session). Every P session.statements)) old all) in
      let grew : Every P more.statements = subst (Every P) (sym grown) (every-append P last.statements (statement ∷ []) parts.1.0 (one, tt)) in
      subst (Every (λ (session : Session). Every P session.statements)) (sym new) (every-append (λ (session : Session). Every P session.statements) before (more ∷ []) parts.0 (grew, tt))

abbrev with_sessions : Script → List (List script.Statement) → Script
with_sessions s sessions = record { columns = s.columns; views = s.views; sessions = sessions }

pub statement_added : (text : List ℕ) (s : code.Script) (before after : List Session) (last more : Session) (statement : code_statement.Statement)
    → s.sessions ≡ before ++ last ∷ [] → more.statements ≡ last.statements ++ statement ∷ [] → after ≡ before ++ more ∷ []
    → With text s statement (record { views = s.views; sessions = after })
statement_added text s before after last more statement old grown new =
    ap (with_sessions (script_of text s)) (last_grown before after s.sessions last more statement old grown new text)

pub statement_lost : (text : List ℕ) (s : code.Script) (after : List Session) (statement : code_statement.Statement) → s.sessions ≡ [] → after ≡ []
    → With text s statement (record { views = s.views; sessions = after })
statement_lost text s after statement none still =
    ap (λ (xs : List Session). with_sessions (script_of text s) (map (statements_of text) xs)) still
    ∙ sym (ap (λ (xs : List Session). with_sessions (script_of text s) (to_last (statement_of text statement) (map (statements_of text) xs))) none)

pub statement_kept : (text : List ℕ) (s : code.Script) (before after : List Session) (last more : Session) (statement : code_statement.Statement)
    → s.sessions ≡ before ++ last ∷ [] → more.statements ≡ last.statements ++ statement ∷ [] → after ≡ before ++ more ∷ []
    → AreSessions text s → IsStatement text (length s.views.list) statement → AreSessions text (record { views = s.views; sessions = after })
statement_kept text s before after last more statement old grown new h one =
    let many = as_many before after s.sessions last more statement old grown new in
    let few = h.few in
    record {
      few = omega (arith, many, few);
      statements = each_grown before after s.sessions last more statement old grown new (IsStatement text (length s.views.list)) h.statements one;
    }

pub none_kept : (text : List ℕ) (s : code.Script) (after : List Session) → after ≡ [] → AreSessions text (record { views = s.views; sessions = after })
none_kept text s after still =
    subst (λ (xs : List Session). AreSessions text (record { views = s.views; sessions = xs })) (sym still) (record { few = omega arith; statements = tt })

-- ---- views

more_views : (text : List ℕ) (m n : ℕ) → m ≤ n → (st : code_statement.Statement) → IsStatement text m st → IsStatement text n st
more_views text m n le (variants.Insert lines) h = h
more_views text m n le (variants.Load view lines) h = (let l = h.0 in omega (arith, le, l), h.1)
more_views text m n le (variants.Read view) h = omega (arith, le, h)
more_views text m n le (variants.States view) h = omega (arith, le, h)

abbrev with_list : code.Script → List code_view.View → code.Script
with_list s list = record { views = record { schema = s.views.schema; list = list }; sessions = s.sessions }

pub view_kept : (text : List ℕ) (s : code.Script) (view : code_view.View) (list : List code_view.View) → list ≡ s.views.list ++ view ∷ [] → AreSessions text s → AreSessions text (with_list s list)
view_kept text s view list new h =
    let many : length list ≡ length s.views.list + 1 = ap length new ∙ length-append s.views.list (view ∷ []) in
    let le : length s.views.list ≤ length list = omega (arith, many) in
    record {
      few = h.few;
      statements = every-map (λ (session : Session). Every (IsStatement text (length s.views.list)) session.statements) (λ (session : Session). Every (IsStatement text (length list)) session.statements)
          (λ session. every-map (IsStatement text (length s.views.list)) (IsStatement text (length list)) (more_views text (length s.views.list) (length list) le) session.statements) s.sessions h.statements;
    }

abbrev with_views : Views → List code_view.View → Views
with_views views list = record { schema = views.schema; list = list }

pub views_more : (views : Views) (view : code_view.View) (list : List code_view.View) → list ≡ views.list ++ view ∷ [] → length views.list < 16 → AreViews views → PlanFits views.schema view.plan → AreViews (with_views views list)
views_more views view list new less h fits =
    let many : length list ≡ length views.list + 1 = ap length new ∙ length-append views.list (view ∷ []) in
    record {
      few_columns = h.few_columns;
      legal = h.legal;
      few_views = omega (arith, many, less);
      fit = subst (Every (λ (v : code_view.View). PlanFits views.schema v.plan)) (sym new)
          (every-append (λ (v : code_view.View). PlanFits views.schema v.plan) views.list (view ∷ []) h.fit (fits, tt));
    }

pub views_none : (views : Views) (schema : Schema) → views.schema ≡ schema → views.list ≡ [] → length schema.columns ≤ 64 → AreLegal (schema_of schema) → AreViews views
views_none views schema is none few legal =
    subst (λ (list : List code_view.View). AreViews (record { schema = views.schema; list = list })) (sym none)
    (subst (λ (s : Schema). AreViews (record { schema = s; list = [] })) (sym is)
    (record { few_columns = few; legal = legal; few_views = omega arith; fit = tt }))
