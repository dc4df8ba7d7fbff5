-- What the lines of a script come to is one thing alone.
use Rattle.std.proofs.Common.{◌≡◌, refl, sym, ap, subst, ◌∙◌, ◌⊎◌, inl, inr, ℕ, ◌+◌, Bool, true, false, List, [], ◌∷◌, length, drop, Result, Ok, Err}
use Rattle.first_fault.proofs.Unique.{one_place}
use Rattle.line_forms.specs.Laws as forms
use Rattle.line_forms.specs.Letters.{letters_of, place}
use Rattle.line_forms.specs.ScriptLines.{Line}
use Rattle.refusals.specs.declared.why.RequestFault.{RequestFault}
use Rattle.refusals.specs.declared.why.Why.{Why}
use Rattle.request_rules.specs.Tables.{Column}
use Rattle.request_text.specs.Laws.{OneTable}
use Rattle.request_text.specs.Lines.{IsJudged, IsTableJudged}
use Rattle.script_text.specs.Answers.{script_of}
use Rattle.script_text.specs.Forms.{IsFaultIn, IsLineIn, SpellsLineIn}
use Rattle.script_text.specs.Laws.{OneAnswer, OneScript}
use Rattle.script_text.specs.Lines.{TextLine, first_of, is_blank, lines_at}
use Rattle.script_text.specs.Scripts.{Script, has_items, of_table}
use Rattle.script_text.specs.Steps.{ComesTo, ended, refused, goes_on, IsLineJudged, judged_line}

abbrev Step : Type 0
Step = Script × ℕ

abbrev met : {X : Type 0} → X → Result X Why
met x = Ok x

abbrev broken : (X : Type 0) → Why → Result X Why
broken X why = Err why

pub same_value : {X : Type 0} (a b : X) → met a ≡ met b → a ≡ b
same_value a b e = cc

same_why : (X : Type 0) (v w : Why) → broken X v ≡ broken X w → v ≡ w
same_why X v w e = cc

pub not_both : (X : Type 0) (a : X) (w : Why) → met a ≡ broken X w → ⊥
not_both X a w e = cc

not_blank_and_full : (b : Bool) → b ≡ true → b ≡ false → ⊥
not_blank_and_full b e f = cc

-- ---- one line

one_fault : (started : Bool) (line : List ℕ) (m n : ℕ) → IsFaultIn started line m → IsFaultIn started line n → m ≡ n
one_fault started line m n h g =
    h.2 ∙ ap (λ k. place (length line) k (letters_of line)) (one_place (IsLineIn started) (letters_of line) h.0 g.0 h.1 g.1) ∙ sym g.2

one_form : forms.OneLine → (started : Bool) (line : List ℕ) (a b : Line) → SpellsLineIn started line a → SpellsLineIn started line b → a ≡ b
one_form law started line a b h g = law line a b (h.0, h.1.1, h.2) (g.0, g.1.1, g.2)

one_judged : forms.OneLine → (started : Bool) (line : List ℕ) (rules : Line → Result Step Why) (a b : Result Step Why) → IsJudged (IsFaultIn started line) (SpellsLineIn started line) rules a → IsJudged (IsFaultIn started line) (SpellsLineIn started line) rules b → a ≡ b
one_judged law started line rules a b (inl h) (inl g) = h.2 ∙ ap (λ n. Err (Why.Syntax n)) (one_fault started line h.0 g.0 h.1 g.1) ∙ sym g.2
one_judged law started line rules a b (inr h) (inr g) = h.2 ∙ ap rules (one_form law started line h.0 g.0 h.1 g.1) ∙ sym g.2
one_judged law started line rules a b (inl h) (inr g) = absurd (h.1.1.0 g.1.0 g.1.1)
one_judged law started line rules a b (inr h) (inl g) = absurd (g.1.1.0 h.1.0 h.1.1)

one_line : forms.OneLine → (s : Script) (line : TextLine) (lines : List TextLine) (a b : Result Step Why) → IsLineJudged s line lines a → IsLineJudged s line lines b → a ≡ b
one_line law s line lines a b (inl h) (inl g) = h.1 ∙ sym g.1
one_line law s line lines a b (inr h) (inr g) = one_judged law (has_items s.sessions) line.bytes (judged_line s line.behind lines) a b h.1 g.1
one_line law s line lines a b (inl h) (inr g) = absurd (not_blank_and_full (is_blank line.bytes) h.0 g.0)
one_line law s line lines a b (inr h) (inl g) = absurd (not_blank_and_full (is_blank line.bytes) g.0 h.0)

-- ---- all lines

one_end : forms.OneLine → (s : Script) (number : ℕ) (lines : List TextLine) (a b : Result Script RequestFault) → ComesTo s number lines a → ComesTo s number lines b → a ≡ b
one_end law s number [] a b ended ended = refl
one_end law s number (line ∷ lines) a b (refused {why = v} h) (refused {why = w} g) =
    ap (λ why. Err (RequestFault.Bad number why)) (same_why Step v w (one_line law s line lines (Err v) (Err w) h g))
one_end law s number (line ∷ lines) a b (refused {why = v} h) (goes_on {next = next} rows g rest) = absurd (not_both Step (next, rows) v (one_line law s line lines (Ok (next, rows)) (Err v) g h))
one_end law s number (line ∷ lines) a b (goes_on {next = next} rows h rest) (refused {why = w} g) = absurd (not_both Step (next, rows) w (one_line law s line lines (Ok (next, rows)) (Err w) h g))
one_end law s number (line ∷ lines) a b (goes_on {next = n} j h rest) (goes_on {next = m} k g more) =
    let same : (n, j) ≡ (m, k) = same_value (n, j) (m, k) (one_line law s line lines (Ok (n, j)) (Ok (m, k)) h g) in
    one_end law n (number + 1 + j) (drop j lines) a b rest
    (subst (λ (t : Step). ComesTo t.0 (number + 1 + t.1) (drop t.1 lines) b) (sym same) more)

-- ---- whole texts

abbrev OnTable : List TextLine → Result Script RequestFault → Type 0
OnTable lines r = (why : Why) × IsTableJudged (first_of lines) (Err why) × (r ≡ Err (RequestFault.Bad 1 why))

abbrev Behind : List TextLine → Result Script RequestFault → Type 0
Behind lines r = (columns : List Column) × IsTableJudged (first_of lines) (Ok columns) × ComesTo (of_table columns) 2 (drop 1 lines) r

one_of : OneTable → forms.OneLine → (lines : List TextLine) (a b : Result Script RequestFault) → OnTable lines a ⊎ Behind lines a → OnTable lines b ⊎ Behind lines b → a ≡ b
one_of table law lines a b (inl h) (inl g) = h.2 ∙ ap (λ why. Err (RequestFault.Bad 1 why)) (same_why (List Column) h.0 g.0 (table (first_of lines) (Err h.0) (Err g.0) h.1 g.1)) ∙ sym g.2
one_of table law lines a b (inl h) (inr g) = absurd (not_both (List Column) g.0 h.0 (table (first_of lines) (Ok g.0) (Err h.0) g.1 h.1))
one_of table law lines a b (inr h) (inl g) = absurd (not_both (List Column) h.0 g.0 (table (first_of lines) (Ok h.0) (Err g.0) h.1 g.1))
one_of table law lines a b (inr h) (inr g) =
    let same = same_value h.0 g.0 (table (first_of lines) (Ok h.0) (Ok g.0) h.1 g.1) in
    one_end law (of_table h.0) 2 (drop 1 lines) a b h.2 (subst (λ (columns : List Column). ComesTo (of_table columns) 2 (drop 1 lines) b) (sym same) g.2)

pub one_script : OneTable → forms.OneLine → OneScript
one_script table law lines a b h g = one_of table law lines a b h g

abbrev done : Script → Result Script RequestFault
done s = Ok s

abbrev failed : RequestFault → Result Script RequestFault
failed fault = Err fault

same_done : (a b : Script) → done a ≡ done b → a ≡ b
same_done a b e = cc

same_failed : (v w : RequestFault) → failed v ≡ failed w → v ≡ w
same_failed v w e = cc

pub not_done : (a : Script) (w : RequestFault) → done a ≡ failed w → ⊥
not_done a w e = cc

pub one_answer : OneScript → OneAnswer
one_answer one text (Ok a) (Ok b) h g = same_done (script_of text a) (script_of text b) (one (lines_at text 0) (Ok (script_of text a)) (Ok (script_of text b)) h g)
one_answer one text (Ok a) (Err (RequestFault.Bad m w)) h g = not_done (script_of text a) (RequestFault.Bad m w) (one (lines_at text 0) (Ok (script_of text a)) (Err (RequestFault.Bad m w)) h g)
one_answer one text (Err (RequestFault.Bad l v)) (Ok b) h g = not_done (script_of text b) (RequestFault.Bad l v) (one (lines_at text 0) (Ok (script_of text b)) (Err (RequestFault.Bad l v)) g h)
one_answer one text (Err (RequestFault.Bad l v)) (Err (RequestFault.Bad m w)) h g = same_failed (RequestFault.Bad l v) (RequestFault.Bad m w) (one (lines_at text 0) (Err (RequestFault.Bad l v)) (Err (RequestFault.Bad m w)) h g)
one_answer one text (Ok a) (Err RequestFault.OutOfMemory) h g = tt
one_answer one text (Err (RequestFault.Bad l v)) (Err RequestFault.OutOfMemory) h g = tt
one_answer one text (Err RequestFault.OutOfMemory) (Ok b) h g = tt
one_answer one text (Err RequestFault.OutOfMemory) (Err (RequestFault.Bad m w)) h g = tt
one_answer one text (Err RequestFault.OutOfMemory) (Err RequestFault.OutOfMemory) h g = tt
