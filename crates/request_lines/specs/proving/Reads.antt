-- What the parts of a reader answer.
use Rattle.std.specs.Prelude.{◌≡◌, ℕ, true, false, List, [], ◌∷◌, ◌++◌, map, Some, Result, Ok, Err}
use Rattle.std.specs.Str.Parse.{digits_value}
use Rattle.chain_params.specs.Literals.{literal_of}
use Rattle.line_tokens.specs.Tokens.{Token, integer, open_bracket, close_bracket}
use Rattle.type_names.specs.TypeTexts.{WrittenType as TypeText, tokens_of, ShapeFits, is_literal}
use Rattle.type_shapes.specs.Literals.{has_minus, IsLiteral}
use Rattle.value_types.specs.declared.literal.Literal.{Literal}
use Rattle.line_forms.specs.Letters.{Letter, Sign, sign, Name, name_part, Leads, divided, in_brackets, Every, EachPair}
use Rattle.line_forms.specs.Tables.{ColumnText, column_signs, ColumnFits, IsColumnOf, IsTable, AreColumns}
use Rattle.line_forms.specs.Selects.{Params, no_params, params, CallText, names_signs, literal_part, call_signs, group_signs, ParamsFit, CallFits, IsCallOf, AreParams, SelectText, IsSelectOf, HasCalls, select_signs}
use Rattle.line_forms.specs.ScriptLines.{LineText, keyword_of, behind_keyword, LineFits, IsScriptLine, IsLineOf}
use Rattle.line_forms.specs.Views.{name_of, column_of, columns_of, call_of, select_of, line_of}
use Rattle.line_forms.specs.declared.name.WrittenName.{WrittenName}
use Rattle.line_forms.specs.declared.table.WrittenColumn.{WrittenColumn}
use Rattle.line_forms.specs.declared.table.WrittenTable.{WrittenTable}
use Rattle.line_forms.specs.declared.select.WrittenCall.{WrittenCall}
use Rattle.line_forms.specs.declared.select.WrittenSelect.{WrittenSelect}
use Rattle.line_forms.specs.declared.script_line.WrittenLine.{WrittenLine}
use Rattle.line_forms.specs.declared.fault.LineFault.{LineFault}
use Rattle.request_lines.specs.declared.rest.Rest.{Rest}
use Rattle.request_lines.specs.declared.calls.Inside.{Inside}
use Rattle.request_lines.specs.proving.Letters.{letters_left, IsFurther}
use Rattle.request_lines.specs.proving.Judging.{Goal, stop}

-- With these goals first, the line stops where it stops with the others, from what is left on.
abbrev pub Passes : List Goal → Rest → Rest → Type 0
Passes goals rest left = (s : List Goal) → stop rest.whole (goals ++ s) (letters_left rest) ≡ stop rest.whole s (letters_left left)

-- With these goals first, the line stops at this place.
abbrev pub IsFault : List Goal → Rest → LineFault → Type 0
IsFault goals rest (LineFault.Syntax at) = (s : List Goal) → stop rest.whole (goals ++ s) (letters_left rest) ≡ Some at
IsFault goals rest LineFault.OutOfMemory = Unit {0}

-- What is behind the part that meets the goals, of this kind; or the place where the line stops in it.
abbrev pub Skips : List Goal → (List Letter → List Letter → Type 0) → Rest → Result Rest LineFault → Type 0
Skips goals kind rest (Ok left) = kind (letters_left rest) (letters_left left) × IsFurther rest left × Passes goals rest left
Skips goals kind rest (Err fault) = IsFault goals rest fault

-- The same, with what the part stands for.
abbrev pub Reads : {V : Type 0} → List Goal → (V → List Letter → List Letter → Type 0) → Rest → Result (V × Rest) LineFault → Type 0
Reads goals kind rest (Ok r) = kind r.0 (letters_left rest) (letters_left r.1) × IsFurther rest r.1 × Passes goals rest r.1
Reads goals kind rest (Err fault) = IsFault goals rest fault

-- With these goals alone, the line stops at this place.
abbrev pub EndsAt : List Goal → Rest → LineFault → Type 0
EndsAt goals rest (LineFault.Syntax at) = stop rest.whole goals (letters_left rest) ≡ Some at
EndsAt goals rest LineFault.OutOfMemory = Unit {0}

-- The line ends here, or stops at what comes first.
abbrev pub Ends : Rest → Result (Unit {0}) LineFault → Type 0
Ends rest (Ok u) = letters_left rest ≡ []
Ends rest (Err fault) = EndsAt [] rest fault

-- All that is left stands for a form, or the place where the line stops with these goals.
abbrev pub ReadsAll : {V : Type 0} → List Goal → (V → List Letter → Type 0) → Rest → Result V LineFault → Type 0
ReadsAll goals kind rest (Ok v) = kind v (letters_left rest)
ReadsAll goals kind rest (Err fault) = EndsAt goals rest fault

-- ---- kinds of parts

-- a token, wherever it stands
abbrev pub IsToken : Token → List Letter → List Letter → Type 0
IsToken t before behind = Leads (sign t ∷ []) before behind

-- what stands for something, as a text of its own
abbrev pub IsItem : {T V : Type 0} → (T → Type 0) → (T → V → Type 0) → (T → List Sign) → V → List Letter → List Letter → Type 0
IsItem {T} fits stands signs v before behind = (t : T) × fits t × stands t v × Leads (signs t) before behind

-- some of them, one or more, divided by commas
abbrev pub AreItems : {T V : Type 0} → (T → Type 0) → (T → V → Type 0) → (T → List Sign) → List V → List Letter → List Letter → Type 0
AreItems {T} fits stands signs vs before behind = (t : T) × (ts : List T) × Every fits (t ∷ ts) × EachPair stands (t ∷ ts) vs × Leads (divided (map signs (t ∷ ts))) before behind

abbrev pub NameFits : Name → Type 0
NameFits n = Unit {0}

abbrev pub IsNameOf : Name → WrittenName → Type 0
IsNameOf n name = name_of name ≡ n

abbrev pub IsName : WrittenName → List Letter → List Letter → Type 0
IsName = IsItem NameFits IsNameOf name_part

abbrev pub AreNames : List WrittenName → List Letter → List Letter → Type 0
AreNames = AreItems NameFits IsNameOf name_part

abbrev pub IsType : List Letter → List Letter → Type 0
IsType before behind = (ty : TypeText) × ShapeFits ty × Leads (map sign (tokens_of ty)) before behind

abbrev pub IsColumnRead : ColumnText → WrittenColumn → Type 0
IsColumnRead text column = IsColumnOf text (column_of column)

abbrev pub IsColumn : WrittenColumn → List Letter → List Letter → Type 0
IsColumn = IsItem ColumnFits IsColumnRead column_signs

abbrev pub AreColumnsRead : List WrittenColumn → List Letter → List Letter → Type 0
AreColumnsRead = AreItems ColumnFits IsColumnRead column_signs

abbrev pub IsTableOf : WrittenTable → List Letter → Type 0
IsTableOf table letters = (texts : List ColumnText) × IsTable letters texts × AreColumns texts (columns_of table)

abbrev pub LiteralFits : Token → Type 0
LiteralFits t = is_literal t ≡ true

abbrev pub IsLiteralOf : Token → Literal → Type 0
IsLiteralOf t literal = IsLiteral t (literal_of literal)

abbrev pub IsLiteralRead : Literal → List Letter → List Letter → Type 0
IsLiteralRead = IsItem LiteralFits IsLiteralOf literal_part

abbrev pub AreLiteralsRead : List Literal → List Letter → List Letter → Type 0
AreLiteralsRead = AreItems LiteralFits IsLiteralOf literal_part

-- names and the closing bracket
abbrev pub AreArguments : List WrittenName → List Letter → List Letter → Type 0
AreArguments names before behind = Leads (names_signs (map name_of names) ++ (sign close_bracket ∷ [])) before behind

-- literals, one or more, the bracket that closes them and the one that opens the arguments
abbrev pub AreParamsRead : List Literal → List Letter → List Letter → Type 0
AreParamsRead read before behind =
    (t : Token) × (ts : List Token) × Every LiteralFits (t ∷ ts) × EachPair IsLiteralOf (t ∷ ts) read × Leads (divided (map literal_part (t ∷ ts)) ++ (sign close_bracket ∷ sign open_bracket ∷ [])) before behind

-- Behind the first bracket of a call: its arguments, or its parameters and then its arguments.
abbrev pub inside_signs : Params → List Name → List Sign
inside_signs no_params ns = names_signs ns ++ (sign close_bracket ∷ [])
inside_signs (params ls) ns = (divided (map literal_part ls) ++ (sign close_bracket ∷ [])) ++ in_brackets (names_signs ns)

abbrev pub IsInside : Inside → List Letter → List Letter → Type 0
IsInside inside before behind = (ps : Params) × ParamsFit ps × AreParams ps (map literal_of inside.params) × Leads (inside_signs ps (map name_of inside.arguments)) before behind

-- the same behind a closing bracket
abbrev pub IsEmptyInside : Inside → List Letter → List Letter → Type 0
IsEmptyInside inside before behind = (at : ℕ) → IsInside inside ((close_bracket, at) ∷ before) behind

abbrev pub IsCallRead : CallText → WrittenCall → Type 0
IsCallRead text call = IsCallOf text (call_of call)

abbrev pub IsCall : WrittenCall → List Letter → List Letter → Type 0
IsCall = IsItem CallFits IsCallRead call_signs

abbrev pub AreCallsRead : List WrittenCall → List Letter → List Letter → Type 0
AreCallsRead = AreItems CallFits IsCallRead call_signs

abbrev pub AreKeys : List WrittenName → List Letter → List Letter → Type 0
AreKeys keys before behind = Leads (group_signs (map name_of keys)) before behind

abbrev pub IsRequest : WrittenSelect → List Letter → List Letter → Type 0
IsRequest q before behind = (text : SelectText) × HasCalls text.calls × IsSelectOf text (select_of q) × Leads (select_signs text) before behind

abbrev pub IsSelectRead : WrittenSelect → List Letter → Type 0
IsSelectRead q letters = IsRequest q letters []

-- ---- lines of scripts

abbrev pub IsCount : ℕ → List Letter → List Letter → Type 0
IsCount count before behind = (digits : List ℕ) × (has_minus digits ≡ false) × (count ≡ digits_value 10 digits) × Leads (sign (integer digits) ∷ []) before behind

-- The letters behind this keyword are those of a line.
abbrev pub IsBehindKeyword : List ℕ → WrittenLine → List Letter → Type 0
IsBehindKeyword k form letters = (text : LineText) × (keyword_of text ≡ k) × LineFits text × IsLineOf text (line_of form) × Leads (behind_keyword text) letters []

abbrev pub IsLineRead : WrittenLine → List Letter → Type 0
IsLineRead form letters = (text : LineText) × IsScriptLine letters text × IsLineOf text (line_of form)
