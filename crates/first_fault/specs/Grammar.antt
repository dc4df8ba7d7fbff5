-- Grammars as kinds of texts, over letters of any type.
use Rattle.std.specs.Prelude.{◌≡◌, List, [], ◌∷◌, ◌++◌}

-- A text of one kind and then a text of another.
pub record Then {A : Type 0} (L M : List A → Type 0) (text : List A) : Type 0 where
  pub front : List A
  pub rest : List A
  pub first : L front
  pub second : M rest
  pub whole : text ≡ front ++ rest

-- Texts of these goals, one behind the other, and then a text of the last kind.
abbrev pub InOrder : {A G : Type 0} → (G → List A → Type 0) → (List A → Type 0) → List G → List A → Type 0
InOrder of last [] text = last text
InOrder of last (g ∷ goals) text = Then (of g) (InOrder of last goals) text
