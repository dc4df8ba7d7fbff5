-- A mark that comes first.
use Rattle.std.proofs.Common.{◌≡◌, ℕ, List, ◌∷◌, true}
use Rattle.line_tokens.specs.Tokens.{Token, open_bracket, close_bracket, comma}
use Rattle.type_shapes.specs.declared.mark.Mark.{Mark}
use Rattle.type_shapes.specs.declared.mark.Mark.TheVariants.{Opening, Closing, Dividing}
use Rattle.type_shapes.specs.Reading.{is_mark, mark_token}
use Rattle.line_forms.specs.Letters.{Letter}

pub mark_first : (mark : Mark) (t : Token) (p : ℕ) (letters more : List Letter) → letters ≡ (t, p) ∷ more → true ≡ is_mark mark t → (at : ℕ) × (letters ≡ (mark_token mark, at) ∷ more)
mark_first Opening open_bracket p letters more e is = (p, e)
mark_first Closing close_bracket p letters more e is = (p, e)
mark_first Dividing comma p letters more e is = (p, e)
mark_first mark t p letters more e is = absurd cc
