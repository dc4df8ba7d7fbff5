-- Where a quoted text ends, byte by byte.
use Rattle.std.proofs.Common.{◌≡◌, ℕ, ◌+◌, ◌<◌, ◌≤◌, List, length, drop, get_or, Option, Some, None, refl, sym, ap, ◌∙◌, arith, drop-cons, add-one}
use Rattle.std.proofs.lemmas.List.{drop_all}
use Rattle.line_tokens.specs.Tokens.{next_in_quotes, quoted_length, as_next, one_more}
use Rattle.line_tokens.specs.declared.quote.Within.{Within}
use Rattle.line_tokens.specs.declared.quote.Within.TheVariants.{Plain}
use Rattle.line_tokens.specs.declared.quote.Next.{Next}
use Rattle.line_tokens.specs.declared.quote.Next.TheVariants.{Closed, Broken, Goes}

abbrev further : ℕ → Option ℕ → Option ℕ
further n (Some k) = Some (n + k)
further n None = None

further_one : (n : ℕ) (o : Option ℕ) → further n (one_more o) ≡ further (n + 1) o
further_one n (Some k) = ap Some (omega arith)
further_one n None = refl

further_none : (o : Option ℕ) → o ≡ further 0 o
further_none (Some k) = ap Some (omega arith)
further_none None = refl

-- what is known behind so many bytes
pub record IsWithin (text : List ℕ) (within : Within) (count at : ℕ) : Type 0 where
  pub same : count ≡ at
  pub goes : quoted_length Plain text ≡ further count (quoted_length within (drop at text))

pub at_start : (text : List ℕ) → IsWithin text Plain 0 0
at_start text = record { same = refl; goes = further_none (quoted_length Plain text) }

at_byte : (text : List ℕ) (within : Within) (count at d : ℕ) (next : Next) → IsWithin text within count at → at < length text → next ≡ next_in_quotes within (get_or text at d)
    → quoted_length Plain text ≡ further count (as_next (λ w. quoted_length w (drop (at + 1) text)) next)
at_byte text within count at d next h inside is =
    h.goes ∙ ap (λ (t : List ℕ). further count (quoted_length within t)) (drop-cons text at d inside)
    ∙ ap (λ i. further count (as_next (λ w. quoted_length w (drop i text)) (next_in_quotes within (get_or text at d)))) (sym (add-one at))
    ∙ ap (λ n. further count (as_next (λ w. quoted_length w (drop (at + 1) text)) n)) (sym is)

pub goes_on : (text : List ℕ) (within more : Within) (count at d : ℕ) → IsWithin text within count at → at < length text → Goes more ≡ next_in_quotes within (get_or text at d) → IsWithin text more (count + 1) (at + 1)
goes_on text within more count at d h inside is = record {
  same = ap (λ n. n + 1) h.same;
  goes = at_byte text within count at d (Goes more) h inside is ∙ further_one count (quoted_length more (drop (at + 1) text));
}

pub closes : (text : List ℕ) (within : Within) (count at d : ℕ) → IsWithin text within count at → at < length text → Closed ≡ next_in_quotes within (get_or text at d) → Some count ≡ quoted_length Plain text
closes text within count at d h inside is = sym (at_byte text within count at d Closed h inside is ∙ ap Some (omega arith))

pub breaks : (text : List ℕ) (within : Within) (count at d : ℕ) → IsWithin text within count at → at < length text → Broken ≡ next_in_quotes within (get_or text at d) → None ≡ quoted_length Plain text
breaks text within count at d h inside is = sym (at_byte text within count at d Broken h inside is)

pub runs_out : (text : List ℕ) (within : Within) (count at : ℕ) → IsWithin text within count at → length text ≤ at → None ≡ quoted_length Plain text
runs_out text within count at h out = sym (h.goes ∙ ap (λ (t : List ℕ). further count (quoted_length within t)) (drop_all at text out))
