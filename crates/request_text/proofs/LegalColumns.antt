-- The columns of a table that is read have legal types.
use Rattle.std.proofs.Common.{◌≡◌, refl, ◌∙◌, subst, ℕ, suc, true, List, [], ◌∷◌, length, Option, Some, None, Result, Ok, Err}
use Rattle.std.proofs.lemmas.List.Folds.{list_all-map}
use Rattle.agg_terms.specs.Chains.{Ty}
use Rattle.agg_typing.specs.Faults.{Fault}
use Rattle.agg_typing.specs.Legal.{is_legal_type}
use Rattle.agg_typing.specs.Promises.{AllowedStateIsLegal}
use Rattle.line_forms.specs.Answers.{SpellsTable}
use Rattle.line_forms.specs.Letters.{Every, Letter, letters_of}
use Rattle.line_forms.specs.Tables as written
use Rattle.line_forms.specs.Tables.{ColumnText, AreColumns, ColumnFits, IsShapeOf, IsTable}
use Rattle.refusals.specs.declared.why.Why.{Why}
use Rattle.request_rules.specs.Tables.{Column, AreLegal, column_type, has_few_columns, has_few_levels, is_new, judged_column, judged_table}
use Rattle.request_rules.specs.Turns.{and_then, at_part}
use Rattle.request_rules.proofs.AllJudged.{all_judged, past, same_value}
use Rattle.shape_types.proofs.LegalTypes.{IfType, legal}
use Rattle.shape_types.specs.Types.{type_of_shape}
use Rattle.type_names.specs.TypeTexts.{WrittenType as TypeText, ShapeFits}
use Rattle.type_shapes.specs.Shapes.{Shape}

-- a column whose type some text spells
abbrev IsSpelled : written.Column → Type 0
IsSpelled c = (w : TypeText) × ShapeFits w × IsShapeOf w c.shape

part_legal : (number : ℕ) (r : Result Ty Fault) (t : Ty) → IfType is_legal_type r → at_part number r ≡ Ok t → is_legal_type t ≡ true
part_legal number (Ok s) t h e = subst (λ x. is_legal_type x ≡ true) (same_value s t e) h
part_legal number (Err f) t h e = absurd cc

type_legal : AllowedStateIsLegal → (number : ℕ) (w : TypeText) (s : Option Shape) (t : Ty) → ShapeFits w → IsShapeOf w s → column_type number s ≡ Ok t → is_legal_type t ≡ true
type_legal law number w None t fits is e = absurd cc
type_legal law number w (Some s) t fits is e = part_legal number (type_of_shape s) t (legal law w s fits is.0) e

made_legal : (r : Result Ty Why) (name : List ℕ) (c : Column) → ((t : Ty) → r ≡ Ok t → is_legal_type t ≡ true) → and_then r (λ (ty : Ty). Ok (record { name = name; ty = ty })) ≡ Ok c → is_legal_type c.ty ≡ true
made_legal (Ok t) name c h e = let made : Column = record { name = name; ty = t } in subst (λ (x : Column). is_legal_type x.ty ≡ true) (same_value made c e) (h t refl)
made_legal (Err why) name c h e = absurd cc

column_legal : AllowedStateIsLegal → (before : List Column) (w : written.Column) (c : Column) → IsSpelled w → judged_column before w ≡ Ok c → is_legal_type c.ty ≡ true
column_legal law before w c is e =
    made_legal (column_type (suc (length before)) w.shape) w.name.name c (λ ty. type_legal law (suc (length before)) is.0 w.shape ty is.1 is.2)
    (past (is_new before w.name) _ c e)

each_spelled : (ts : List ColumnText) (ws : List written.Column) → Every ColumnFits ts → AreColumns ts ws → Every IsSpelled ws
each_spelled [] [] fit are = tt
each_spelled (t ∷ ts) (w ∷ ws) fit are = ((t.ty, fit.0, are.0.1), each_spelled ts ws fit.1 are.1)
each_spelled [] (w ∷ ws) fit are = absurd are
each_spelled (t ∷ ts) [] fit are = absurd are

texts_spelled : (letters : List Letter) (ts : List ColumnText) (ws : List written.Column) → IsTable letters ts → AreColumns ts ws → Every IsSpelled ws
texts_spelled letters [] ws is are = absurd is
texts_spelled letters (t ∷ ts) ws is are = each_spelled (t ∷ ts) ws is.0 are

pub table_legal : AllowedStateIsLegal → (line : List ℕ) (ws : List written.Column) (all : List Column) → SpellsTable line ws → judged_table ws ≡ Ok all → AreLegal all
table_legal law line ws all h e =
    list_all-map is_legal_type (λ (c : Column). c.ty) all
    ∙ all_judged judged_column (λ (c : Column). is_legal_type c.ty) IsSpelled (column_legal law) ws [] all (texts_spelled (letters_of line) h.0 ws h.1 h.2) refl
    (past (has_few_levels ws) _ all (past (has_few_columns ws) _ all e))
