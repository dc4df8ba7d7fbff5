-- What follows an opening byte, or an element.
use Rattle.std.specs.Prelude.{◌==◌, ℕ, List, [], ◌∷◌, if◌then◌else◌, Option, Some, None}
use Rattle.tsv_values.specs.declared.next.Next.{Next}
use Rattle.tsv_values.specs.declared.next.Next.TheVariants as next

-- One more element begins this text, or the list ends before this text, or neither.
pub data Step : Type 0 where
  one_more : List ℕ → Step
  ends : List ℕ → Step
  neither : Step

abbrev pub step_of : Next → Step
step_of (next.OneMore text) = one_more text.now
step_of (next.End text) = ends text.now
step_of next.Neither = neither

-- The text without the spaces at its front.
abbrev pub after_spaces : List ℕ → List ℕ
after_spaces [] = []
after_spaces (b ∷ text) = if b == 32 then after_spaces text else b ∷ text

-- Behind the opening byte and spaces.
abbrev pub first_step : ℕ → List ℕ → Step
first_step closing [] = one_more []
first_step closing (b ∷ text) = if b == closing then ends text else one_more (b ∷ text)

-- Behind an element and spaces.
abbrev pub more_step : ℕ → List ℕ → Step
more_step closing [] = neither
more_step closing (b ∷ text) = if b == 44 then one_more (after_spaces text) else (if b == closing then ends text else neither)

-- Behind a key and spaces: what stands behind the colon and spaces.
abbrev pub colon_step : List ℕ → Option (List ℕ)
colon_step [] = None
colon_step (b ∷ text) = if b == 58 then Some (after_spaces text) else None

-- What stands behind this byte.
abbrev pub behind_byte : ℕ → List ℕ → Option (List ℕ)
behind_byte b [] = None
behind_byte b (c ∷ text) = if c == b then Some text else None
