-- The judge of type texts is right: it finds no fault in what spells a type, and else the first one.
use Rattle.std.proofs.Common.{◌≡◌, ℕ, ◌-◌, ◌<◌, ◌≤◌, List, [], ◌∷◌, ◌++◌, length, map, reverse, Option, Some, None, Result, Ok, Err, IfOk, refl, sym, ap, subst, ◌∙◌, append-nil, arith}
use Rattle.std.proofs.lemmas.List.{reverse-append, length-reverse}
use Rattle.first_fault.specs.FirstFault.{IsReading, IsSpelled}
use Rattle.first_fault.specs.Machine.{run, later, at_letter}
use Rattle.first_fault.proofs.Machines.{IsLive, machine_reads}
use Rattle.first_fault.proofs.Cold.{cold}
use Rattle.line_tokens.specs.Tokens.{Token, Placed, tokens_of}
use Rattle.type_names.specs.TypeTexts as texts
use Rattle.type_names.specs.TypeTexts.{WrittenType, IsType}
use Rattle.type_names.specs.declared.goal.Goal.{Goal}
use Rattle.type_names.specs.declared.goal.Goal.TheVariants.{AnyType}
use Rattle.type_names.specs.Judging.{step, done, at_step, first_fault}
use Rattle.type_names.specs.Syntax.{tokens_in, place, IsTypeFault}
use Rattle.type_names.proofs.Found.{Sound, kept, found}
use Rattle.type_names.proofs.Only.{Runs, type_run, goes_on}

live : IsLive {V = Unit {0}} step done Sound
live = record { kept = kept; goes_on = λ s h. let r = goes_on s h in (r.0, tt, r.1) }

law_found : (t : List Token) (v : Unit {0}) → run step done (AnyType ∷ []) t ≡ Ok v → IsSpelled IsType t v
law_found t v e =
    let a = found (AnyType ∷ []) t v tt e in
    (a.first.0, (a.first.1, a.whole ∙ ap (λ r. a.front ++ r) a.second ∙ append-nil a.front ∙ a.first.2))

law_only : (t : List Token) (v : Unit {0}) → IsSpelled IsType t v → run step done (AnyType ∷ []) t ≡ Ok v
law_only t v h =
    let whole : texts.tokens_of h.0 ++ [] ≡ t = append-nil (texts.tokens_of h.0) ∙ sym h.1.1 in
    subst (λ t. Runs (AnyType ∷ []) t) whole (type_run h.0 h.1.0 [] [] refl)

judge_exact : (t : List Token) → IsReading (IsSpelled IsType) t (run step done (AnyType ∷ []) t)
judge_exact t = machine_reads step done Sound (IsSpelled IsType) (AnyType ∷ []) law_found law_only live tt t (run step done (AnyType ∷ []) t) refl

abbrev letters : List Placed → List Token
letters tokens = map (λ (t : Placed). t.0) tokens

-- the place of the token in place of its number
abbrev faulted : ℕ → List Placed → Result (Unit {0}) ℕ → Option ℕ
faulted whole tokens (Ok v) = None
faulted whole tokens (Err n) = Some (place whole n tokens)

faulted_later : (whole : ℕ) (t : Placed) (tokens : List Placed) (r : Result (Unit {0}) ℕ) → faulted whole (t ∷ tokens) (later r) ≡ faulted whole tokens r
faulted_later whole t tokens (Ok v) = refl
faulted_later whole t tokens (Err n) = refl

by_step : (whole : ℕ) (t : Placed) (tokens : List Placed) (o : Option (List Goal)) → ((s : List Goal) → first_fault whole s tokens ≡ faulted whole tokens (run step done s (letters tokens)))
    → at_step (λ s. first_fault whole s tokens) (whole - t.1) o ≡ faulted whole (t ∷ tokens) (at_letter (λ s. run step done s (letters tokens)) o)
by_step whole t tokens None further = refl
by_step whole t tokens (Some s) further = further s ∙ sym (faulted_later whole t tokens (run step done s (letters tokens)))

first_fault-run : (whole : ℕ) (goals : List Goal) (tokens : List Placed) → first_fault whole goals tokens ≡ faulted whole tokens (run step done goals (letters tokens))
first_fault-run whole [] [] = refl
first_fault-run whole (g ∷ goals) [] = refl
first_fault-run whole [] (t ∷ tokens) = by_step whole t tokens (step [] t.0) (λ s. first_fault-run whole s tokens)
first_fault-run whole (g ∷ goals) (t ∷ tokens) = by_step whole t tokens (step (g ∷ goals) t.0) (λ s. first_fault-run whole s tokens)

told : (text : List ℕ) (r : Result (Unit {0}) ℕ) → IsReading (IsSpelled IsType) (tokens_in text) r → IsTypeFault text (faulted (length text) (tokens_of text) r)
told text (Ok v) h = h
told text (Err n) h = (n, cold IsType (tokens_in text) None (Err n) (λ v e. absurd cc) (λ v s. absurd (h.0 tt (v, s))) h, refl)

pub fault_told : (text : List ℕ) (fault : Option ℕ) → fault ≡ first_fault (length text) (AnyType ∷ []) (tokens_of text) → IsTypeFault text fault
fault_told text fault e =
    subst (IsTypeFault text) (sym (e ∙ first_fault-run (length text) (AnyType ∷ []) (tokens_of text))) (told text _ (judge_exact (tokens_in text)))

-- ---- the loop of the judge; its goals stand with the next one last

pub record IsJudging (text rest : List ℕ) (goals : List Goal) : Type 0 where
  pub within : length rest ≤ length text
  pub same : first_fault (length text) (AnyType ∷ []) (tokens_of text) ≡ first_fault (length text) (reverse goals) (tokens_of rest)

pub at_start : (text : List ℕ) (goals : List Goal) → goals ≡ AnyType ∷ [] → IsJudging text text goals
at_start text goals e = record { within = omega arith; same = rw e refl }

reverse-snoc : (goals : List Goal) (g : Goal) → reverse (goals ++ g ∷ []) ≡ g ∷ reverse goals
reverse-snoc goals g = reverse-append goals (g ∷ [])

at_token : (text rest behind : List ℕ) (goals left_goals : List Goal) (g : Goal) (t : Token) (left : ℕ) → IsJudging text rest goals → tokens_of rest ≡ (t, left) ∷ tokens_of behind → goals ≡ left_goals ++ g ∷ []
    → first_fault (length text) (AnyType ∷ []) (tokens_of text) ≡ at_step (λ s. first_fault (length text) s (tokens_of behind)) (length text - left) (step (g ∷ reverse left_goals) t)
at_token text rest behind goals left_goals g t left h tokens popped =
    h.same ∙ ap (first_fault (length text) (reverse goals)) tokens ∙ ap (λ s. first_fault (length text) s ((t, left) ∷ tokens_of behind)) (ap reverse popped ∙ reverse-snoc left_goals g)

pub goes_on_at : (text rest behind : List ℕ) (goals left_goals more new : List Goal) (g : Goal) (t : Token) (left : ℕ) → IsJudging text rest goals → tokens_of rest ≡ (t, left) ∷ tokens_of behind → goals ≡ left_goals ++ g ∷ []
    → step (g ∷ reverse left_goals) t ≡ Some (reverse more ++ reverse left_goals) → new ≡ left_goals ++ more → length behind < left → left ≤ length rest → IsJudging text behind new
goes_on_at text rest behind goals left_goals more new g t left h tokens popped stepped pushed shorter inside = record {
  within = omega (arith, h.within, shorter, inside);
  same = at_token text rest behind goals left_goals g t left h tokens popped
      ∙ ap (at_step (λ s. first_fault (length text) s (tokens_of behind)) (length text - left)) stepped
      ∙ ap (λ s. first_fault (length text) s (tokens_of behind)) (sym (ap reverse pushed ∙ reverse-append left_goals more));
}

pub stops_at : (text rest behind : List ℕ) (goals left_goals : List Goal) (g : Goal) (t : Token) (left : ℕ) → IsJudging text rest goals → tokens_of rest ≡ (t, left) ∷ tokens_of behind → goals ≡ left_goals ++ g ∷ []
    → step (g ∷ reverse left_goals) t ≡ None → Some (length text - left) ≡ first_fault (length text) (AnyType ∷ []) (tokens_of text)
stops_at text rest behind goals left_goals g t left h tokens popped stepped =
    sym (at_token text rest behind goals left_goals g t left h tokens popped ∙ ap (at_step (λ s. first_fault (length text) s (tokens_of behind)) (length text - left)) stepped)

pub none_is_left : (text rest behind : List ℕ) (goals : List Goal) (t : Token) (left : ℕ) → IsJudging text rest goals → tokens_of rest ≡ (t, left) ∷ tokens_of behind → goals ≡ []
    → Some (length text - left) ≡ first_fault (length text) (AnyType ∷ []) (tokens_of text)
none_is_left text rest behind goals t left h tokens none =
    sym (h.same ∙ ap (first_fault (length text) (reverse goals)) tokens ∙ ap (λ s. first_fault (length text) s ((t, left) ∷ tokens_of behind)) (ap reverse none))

pub all_is_read : (text rest : List ℕ) (goals : List Goal) → IsJudging text rest goals → tokens_of rest ≡ [] → goals ≡ [] → None ≡ first_fault (length text) (AnyType ∷ []) (tokens_of text)
all_is_read text rest goals h tokens none =
    sym (h.same ∙ ap (first_fault (length text) (reverse goals)) tokens ∙ ap (λ s. first_fault (length text) s []) (ap reverse none))

unmet : (whole : ℕ) (goals : List Goal) → 0 < length goals → first_fault whole goals [] ≡ Some whole
unmet whole [] some = absurd (omega arith)
unmet whole (g ∷ goals) some = refl

pub ends_early : (text rest : List ℕ) (goals : List Goal) → IsJudging text rest goals → tokens_of rest ≡ [] → 0 < length goals → Some (length text) ≡ first_fault (length text) (AnyType ∷ []) (tokens_of text)
ends_early text rest goals h tokens some =
    sym (h.same ∙ ap (first_fault (length text) (reverse goals)) tokens ∙ unmet (length text) (reverse goals) (subst (λ n. 0 < n) (sym (length-reverse goals)) some))

pub ok_told : {E : Type 0} (text : List ℕ) (r : Result (Option ℕ) E) → IfOk r (λ fault. fault ≡ first_fault (length text) (AnyType ∷ []) (tokens_of text)) → IfOk r (IsTypeFault text)
ok_told text (Ok fault) h = fault_told text fault h
ok_told text (Err e) h = tt
