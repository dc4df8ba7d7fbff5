-- What is kept of rows.
use Rattle.std.proofs.Common.{◌≡◌, add-one, ℕ, zero, suc, ◌+◌, ◌<◌, Bool, true, false, List, [], ◌∷◌, ◌++◌, Ok, Err, length, take, get_or, refl, sym, ap, ◌∙◌, arith, subst}
use Rattle.std.specs.List.{list_all}
use Rattle.std.proofs.lemmas.List.{map-append}
use Rattle.value_types.specs.declared.ty.Ty.{Ty}
use Rattle.value_types.specs.declared.value.Value.{Value}
use Rattle.tsv_text.specs.Lines.{lines_of}
use Rattle.columns.specs.Rows.{RowFits, Rows, no_rows, with_row}
use Rattle.scalar_texts.specs.States.{ReadsStates}
use Rattle.row_texts.specs.Rows.{IsRowAnswer}
use Rattle.row_texts.specs.declared.refusal.LineRefusal.{LineRefusal}
use Rattle.quick_rows.specs.Keeping.{AreSteps, IsStep, kept, kept_rows}
use Rattle.quick_rows.specs.declared.walk.Step.{Step}
use Rattle.quick_rows.proofs.KeptRows.{kept_fits}
use Rattle.batch_reader.specs.proving.Keeping.{KeepsLine, KeepsLines}
use Rattle.batch_reader.proofs.Pushed.{IsPushed, all-pushed, one-more, start, stopped}

pub kept-none : {A : Type 0} (keep : List Bool) → kept {A = A} keep [] ≡ []
kept-none [] = refl
kept-none (k ∷ keep) = refl

-- one value more
kept-next : {A : Type 0} (keep : List Bool) (row : List A) (i : ℕ) (m : Bool) (v : A) → length keep ≡ length row → i < length row → get_or keep i false ≡ m → v ≡ get_or row i v
    → kept keep (take (suc i) row) ≡ kept keep (take i row) ++ kept (m ∷ []) (v ∷ [])
kept-next keep [] i m v same h mark at = absurd (omega arith)
kept-next [] (w ∷ row) i m v same h mark at = absurd (omega arith)
kept-next (true ∷ keep) (w ∷ row) zero true v same h mark at = λ i. sym at i ∷ kept-none keep i
kept-next (true ∷ keep) (w ∷ row) zero false v same h mark at = cc
kept-next (false ∷ keep) (w ∷ row) zero false v same h mark at = kept-none keep
kept-next (false ∷ keep) (w ∷ row) zero true v same h mark at = cc
kept-next (true ∷ keep) (w ∷ row) (suc i) m v same h mark at = ap (λ more. w ∷ more) (kept-next keep row i m v (omega arith) (omega arith) mark at)
kept-next (false ∷ keep) (w ∷ row) (suc i) m v same h mark at = kept-next keep row i m v (omega arith) (omega arith) mark at

pub kept-take : {A : Type 0} (keep : List Bool) (row : List A) (i : ℕ) (v : A) → length keep ≡ length row → i < length row → v ≡ get_or row i v
    → kept keep (take (i + 1) row) ≡ kept keep (take i row) ++ kept (get_or keep i false ∷ []) (v ∷ [])
kept-take keep row i v same h at = ap (λ n. kept keep (take n row)) (add-one i) ∙ kept-next keep row i (get_or keep i false) v same h refl at

pub fit-count : (types : List Ty) (row : List Value) → RowFits types row → length row ≡ length types
fit-count [] [] h = refl
fit-count [] (v ∷ row) h = absurd h
fit-count (t ∷ types) [] h = absurd h
fit-count (t ∷ types) (v ∷ row) h = omega (arith, fit-count types row h.1)

-- where all are kept
pub kept-whole : {A : Type 0} (keep : List Bool) (row : List A) → list_all (λ mark. mark) keep ≡ true → length keep ≡ length row → kept keep row ≡ row
kept-whole [] [] all same = refl
kept-whole [] (w ∷ row) all same = absurd (omega (arith, same))
kept-whole (k ∷ keep) [] all same = absurd (omega (arith, same))
kept-whole (true ∷ keep) (w ∷ row) all same = ap (λ more. w ∷ more) (kept-whole keep row all (omega (arith, same)))
kept-whole (false ∷ keep) (w ∷ row) all same = absurd cc

pub whole-fits : (keep : List Bool) (types : List Ty) (row : List Value) → list_all (λ mark. mark) keep ≡ true → length keep ≡ length types → RowFits types row → RowFits (kept keep types) row
whole-fits keep types row all same h = subst (λ ts. RowFits ts row) (sym (kept-whole keep types all same)) h

pub whole-row : (keep : List Bool) (types : List Ty) (row : List Value) → list_all (λ mark. mark) keep ≡ true → length keep ≡ length types → RowFits types row → row ≡ kept keep row
whole-row keep types row all same h = sym (kept-whole keep row all (same ∙ sym (fit-count types row h)))

pub ruleset kept_laws = (kept_fits, fit-count)

-- the rows so far, of which the batch has what is kept
pub record IsKept (reads : ReadsStates) (types : List Ty) (keep : List Bool) (now : Rows) (text left : List ℕ) : Type 0 where
  pub all : Rows
  pub stands : now ≡ kept_rows keep all
  pub pushed : IsPushed reads (no_rows types) all text left

pub kept-start : (reads : ReadsStates) (types : List Ty) (keep : List Bool) (now : Rows) (text : List ℕ) → now ≡ no_rows (kept keep types) → IsKept reads types keep now text text
kept-start reads types keep now text none = record { all = no_rows types; stands = none; pushed = start reads (no_rows types) text }

types-so-far : (reads : ReadsStates) (types : List Ty) (all : Rows) (text left : List ℕ) → IsPushed reads (no_rows types) all text left → all.types ≡ types
types-so-far reads types all text left so_far = ap (λ (b : Rows). b.types) so_far.pushed

pub kept-types : (reads : ReadsStates) (types : List Ty) (keep : List Bool) (now : Rows) (text left : List ℕ) → IsKept reads types keep now text left → now.types ≡ kept keep types
kept-types reads types keep now text left so_far = ap (λ (b : Rows). b.types) so_far.stands ∙ ap (kept keep) (types-so-far reads types so_far.all text left so_far.pushed)

kept-with : (keep : List Bool) (all : Rows) (row : List Value) → with_row (kept_rows keep all) (kept keep row) ≡ kept_rows keep (with_row all row)
kept-with keep all row = λ i. record { types = kept keep all.types; rows = sym (map-append (kept keep) all.rows (row ∷ [])) i }

pub kept-more : (reads : ReadsStates) (types : List Ty) (keep : List Bool) (now next : Rows) (text left line rest : List ℕ) → IsKept reads types keep now text left
    → lines_of left ≡ line ∷ lines_of rest → KeepsLine reads types keep now line next (Ok tt) → IsKept reads types keep next text rest
kept-more reads types keep now next text left line rest so_far cut said =
    let all = so_far.all in
    let types_are = types-so-far reads types all text left so_far.pushed in
    record {
      all = with_row all said.0;
      stands = said.2 ∙ ap (λ (b : Rows). with_row b (kept keep said.0)) so_far.stands ∙ kept-with keep all said.0;
      pushed = one-more reads (no_rows types) all (with_row all said.0) text left line rest said.0 so_far.pushed cut
          (subst (λ (ts : List Ty). IsRowAnswer reads ts line (Ok said.0)) (sym types_are) said.1) refl;
    }

pub kept-all : (reads : ReadsStates) (types : List Ty) (keep : List Bool) (now : Rows) (text left : List ℕ) → IsKept reads types keep now text left → length left ≡ 0
    → KeepsLines reads types keep (lines_of text) now (Ok tt)
kept-all reads types keep now text left so_far empty =
    record { all = so_far.all; stands = so_far.stands; pushes = all-pushed reads (no_rows types) so_far.all text left so_far.pushed empty }

pub kept-stopped : (reads : ReadsStates) (types : List Ty) (keep : List Bool) (now after : Rows) (text left line rest : List ℕ) (refusal : LineRefusal) → IsKept reads types keep now text left
    → lines_of left ≡ line ∷ lines_of rest → KeepsLine reads types keep now line after (Err refusal) → KeepsLines reads types keep (lines_of text) after (Err refusal)
kept-stopped reads types keep now after text left line rest refusal so_far cut said =
    let types_are = types-so-far reads types so_far.all text left so_far.pushed in
    record {
      all = so_far.all;
      stands = said.0 ∙ so_far.stands;
      pushes = stopped reads (no_rows types) so_far.all so_far.all text left line rest refusal so_far.pushed cut
          (refl, subst (λ (ts : List Ty). IsRowAnswer reads ts line (Err refusal)) (sym types_are) said.1);
    }

-- a step more
steps-next : (types : List Ty) (keep : List Bool) (steps : List Step) (i : ℕ) (t : Ty) (k : Bool) (s : Step) → AreSteps (take i types) (take i keep) steps → length keep ≡ length types → i < length types
    → get_or types i t ≡ t → get_or keep i false ≡ k → IsStep t k s → AreSteps (take (suc i) types) (take (suc i) keep) (steps ++ s ∷ [])
steps-next [] keep steps i t k s h same within at mark is = absurd (omega arith)
steps-next (u ∷ types) [] steps i t k s h same within at mark is = absurd (omega arith)
steps-next (u ∷ types) (m ∷ keep) [] zero t k s h same within at mark is = (subst (λ v. IsStep v m s) (sym at) (subst (λ b. IsStep t b s) (sym mark) is), tt)
steps-next (u ∷ types) (m ∷ keep) (p ∷ steps) zero t k s h same within at mark is = absurd h
steps-next (u ∷ types) (m ∷ keep) [] (suc i) t k s h same within at mark is = absurd h
steps-next (u ∷ types) (m ∷ keep) (p ∷ steps) (suc i) t k s h same within at mark is = (h.0, steps-next types keep steps i t k s h.1 (omega arith) (omega arith) at mark is)

pub steps-more : (types : List Ty) (keep : List Bool) (steps : List Step) (i : ℕ) (t : Ty) (s : Step) → AreSteps (take i types) (take i keep) steps → length keep ≡ length types → i < length types
    → t ≡ get_or types i t → IsStep t (get_or keep i false) s → AreSteps (take (i + 1) types) (take (i + 1) keep) (steps ++ s ∷ [])
steps-more types keep steps i t s h same within at is =
    subst (λ n. AreSteps (take n types) (take n keep) (steps ++ s ∷ [])) (sym (add-one i)) (steps-next types keep steps i t (get_or keep i false) s h same within (sym at) refl is)
