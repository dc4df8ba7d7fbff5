-- The input that a reader of lines and its source have left, and the line at its front.
use Rattle.std.proofs.Common.{◌≡◌, ℕ, List, ◌++◌, Option, Some, None, refl, sym, ap, ◌∙◌}
use Rattle.line_reader.specs.Ahead.{Ahead, IsInput, new_ahead}
use Rattle.line_reader.proofs.Handed.{told-is, told_of}

-- where the source tells its bytes there is one input
pub one-input : (left : Option (List ℕ)) (ahead : Ahead) (a b bytes : List ℕ) → left ≡ Some bytes → IsInput left ahead a → IsInput left ahead b → a ≡ b
one-input None ahead a b bytes e h g = absurd cc
one-input (Some told) ahead a b bytes e h g = h.1 ∙ ap (λ r. ahead.held ++ r) (h.2 ∙ sym g.2) ∙ sym g.1

-- before the first line that is what the source tells
pub first-input : (left : Option (List ℕ)) (ahead : Ahead) (m n : ℕ) (a bytes : List ℕ) → left ≡ Some bytes → ahead ≡ new_ahead m n → IsInput left ahead a → a ≡ bytes
first-input None ahead m n a bytes e new h = absurd cc
first-input (Some told) ahead m n a bytes e new h = h.1 ∙ ap (λ (x : Ahead). x.held ++ h.0) new ∙ h.2 ∙ told-same told bytes e
  where
    told-same : (xs ys : List ℕ) → (let o : Option (List ℕ) = Some xs in o) ≡ Some ys → xs ≡ ys
    told-same xs ys e = cc

-- and there always is an input
pub some-input : (left : Option (List ℕ)) (ahead : Ahead) → (input : List ℕ) × IsInput left ahead input
some-input left ahead = (ahead.held ++ told_of left, (told_of left, refl, told-is left))
