-- The machine reads patterns, with the first fault.
use Rattle.std.proofs.Common.{◌≡◌, ℕ, ◌≤◌, Bool, true, false, List, ◌++◌, length, Result, Ok, Err, refl, sym, ap, subst, ◌∙◌, arith, nat_le, ◌&&◌, cond}
use Rattle.std.proofs.lemmas.Bool.{le-leb, leb-true, and_from, and_parts}
use Rattle.first_fault.specs.FirstFault.{IsReading}
use Rattle.first_fault.proofs.Machines.{IsLive, machine_reads}
use Rattle.agg_terms.specs.Chains.{PatItem, PatLink, Pattern}
use Rattle.agg_typing.specs.Legal.{is_pattern}
use Rattle.agg_typing.specs.Parameters.{most_conditions}
use Rattle.agg_typing.specs.Promises.{GivesPatterns}
use Rattle.value_types.specs.declared.pattern.Pattern.{Pattern as Held}
use Rattle.pattern_texts.specs.Texts.{gap_text, Written, written_pattern, Spells}
use Rattle.agg_typing.specs.PatternWords.{item_text}
use Rattle.pattern_texts.specs.declared.fault.PatternFault.{PatternFault}
use Rattle.pattern_texts.specs.declared.fault.PatternFault.TheVariants.{At, OutOfMemory}
use Rattle.pattern_texts.specs.Answer.{IsAnswer, Gives, ReadsPatterns}
use Rattle.pattern_texts.specs.Machine.{step, done, start, reads, pattern, pattern_reader}
use Rattle.pattern_texts.proofs.Fits.{Fits, fits_is_pattern, pattern_fits}
use Rattle.pattern_texts.proofs.Found.{Holds, kept, found}
use Rattle.pattern_texts.proofs.Only.{only, goes_on}

same_parts : (items : List PatItem) (links : List PatLink) (p : Pattern) → items ≡ p.items → links ≡ p.links → pattern items links ≡ p
same_parts items links p e f = λ i. record { items = e i; links = f i }

-- what is read is spelled
law_found : (conditions : ℕ) → conditions ≤ 32 → (text : List ℕ) (p : Pattern) → reads conditions text ≡ Ok p → Spells conditions text p
law_found conditions few text p e =
    let r = found conditions few start text p (omega arith) e in
    let c = r.3 in
    let w : Written = record { lead = r.0; first = c.item; more = c.behind.more; trail = c.behind.trail } in
    let said : written_pattern w ≡ p = same_parts _ _ p (sym c.behind.items_are) (sym c.behind.links_are) in
    let fits : Fits conditions w = record { first = c.fits; more = c.behind.fits; count = subst (λ (x : List PatItem). length x ≤ 64) c.behind.items_are c.behind.count } in (
      w,
      sym (r.2 ∙ ap (λ x. gap_text r.0 ++ x) (c.spelled ∙ ap (λ x. item_text c.item ++ x) c.behind.spelled)),
      said,
      subst (λ q. is_pattern conditions q ≡ true) said (fits_is_pattern conditions w fits),
    )

-- what is spelled is read
pub law_only : (conditions : ℕ) → conditions ≤ 32 → (text : List ℕ) (p : Pattern) → Spells conditions text p → reads conditions text ≡ Ok p
law_only conditions few text p s =
    let legal : is_pattern conditions (written_pattern s.0) ≡ true = subst (λ q. is_pattern conditions q ≡ true) (sym s.2) s.3 in
    subst (λ t. reads conditions t ≡ Ok p) s.1 (only conditions few s.0 (pattern_fits conditions s.0 legal) ∙ ap Ok s.2)

live : (conditions : ℕ) → conditions ≤ 32 → 1 ≤ conditions → IsLive (step conditions) done (Holds conditions)
live conditions few some = record { kept = kept conditions few; goes_on = λ s h. goes_on conditions few some s.phase s.items s.links h }

-- The machine gives the pattern that a text spells, or the place of its first fault.
pub reads_exact : (conditions : ℕ) → 1 ≤ conditions → conditions ≤ 32 → (text : List ℕ) → IsReading (Spells conditions) text (reads conditions text)
reads_exact conditions some few text =
    machine_reads (step conditions) done (Holds conditions) (Spells conditions) start (law_found conditions few) (law_only conditions few) (live conditions few some) (omega arith) text (reads conditions text) refl

-- what is given as the machine reads it is the answer
pub answered : (conditions : ℕ) → 1 ≤ conditions → conditions ≤ 32 → (text : List ℕ) (r : Result Held PatternFault) → Gives r (reads conditions text) → IsAnswer conditions text r
answered conditions some few text (Ok p) g = subst (IsReading (Spells conditions) text) g (reads_exact conditions some few text)
answered conditions some few text (Err (At at)) g = subst (IsReading (Spells conditions) text) g (reads_exact conditions some few text)
answered conditions some few text (Err OutOfMemory) g = tt

-- ---- the reader that typing takes

in_range : (conditions : ℕ) → 1 ≤ conditions → conditions ≤ most_conditions → (nat_le 1 conditions && nat_le conditions most_conditions) ≡ true
in_range conditions some few = and_from _ _ (le-leb 1 conditions some) (le-leb conditions most_conditions few)

-- over 1 to 32 conditions it is the machine
pub reader_is : (conditions : ℕ) → 1 ≤ conditions → conditions ≤ most_conditions → (text : List ℕ) → reads conditions text ≡ pattern_reader text conditions
reader_is conditions some few text = ap (λ test. cond test (reads conditions text) (Err 0)) (sym (in_range conditions some few))

pub reader_reads : ReadsPatterns pattern_reader
reader_reads conditions some few text = subst (IsReading (Spells conditions) text) (reader_is conditions some few text) (reads_exact conditions some few text)

gives_where : (text : List ℕ) (conditions : ℕ) (p : Pattern) (test : Bool) → (nat_le 1 conditions && nat_le conditions most_conditions) ≡ test → cond test (reads conditions text) (Err 0) ≡ Ok p → is_pattern conditions p ≡ true
gives_where text conditions p true t e = (law_found conditions (leb-true _ _ (and_parts (nat_le 1 conditions) (nat_le conditions most_conditions) t).1) text p e).3
gives_where text conditions p false t e = absurd cc

pub reader_gives : GivesPatterns pattern_reader
reader_gives text conditions p e = gives_where text conditions p (nat_le 1 conditions && nat_le conditions most_conditions) refl e
