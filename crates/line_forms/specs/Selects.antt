-- The line of a request: `SELECT` and calls, divided by commas, and behind them `GROUP BY` and names, if it has keys.
use Rattle.std.specs.Prelude.{◌≡◌, ℕ, List, [], ◌∷◌, ◌++◌, codes, map}
use Rattle.agg_typing.specs.Literals.{Literal}
use Rattle.line_tokens.specs.Tokens.{Token, word}
use Rattle.type_names.specs.TypeTexts.{AreLiterals}
use Rattle.type_shapes.specs.Literals.{AreRead}
use Rattle.line_forms.specs.Letters.{Letter, Sign, sign, Name, name_part, Leads, divided, in_brackets, Every, EachPair}

-- literals in brackets behind the name of a call, or no brackets
pub data Params : Type 0 where
  no_params : Params
  params : List Token → Params

-- a call as its tokens spell it
pub record CallText : Type 0 where
  pub name : List ℕ
  pub parameters : Params
  pub arguments : List Name

abbrev pub names_signs : List Name → List Sign
names_signs ns = divided (map name_part ns)

abbrev pub literal_part : Token → List Sign
literal_part l = sign l ∷ []

abbrev pub params_signs : Params → List Sign
params_signs no_params = []
params_signs (params ls) = in_brackets (divided (map literal_part ls))

-- a name, its parameters, and its arguments in brackets
abbrev pub call_signs : CallText → List Sign
call_signs c = sign (word c.name) ∷ (params_signs c.parameters ++ in_brackets (names_signs c.arguments))

abbrev pub group_signs : List Name → List Sign
group_signs [] = []
group_signs (k ∷ ks) = sign (word (codes "GROUP")) ∷ sign (word (codes "BY")) ∷ names_signs (k ∷ ks)

pub record SelectText : Type 0 where
  pub calls : List CallText
  pub keys : List Name

abbrev pub select_signs : SelectText → List Sign
select_signs q = sign (word (codes "SELECT")) ∷ (divided (map call_signs q.calls) ++ group_signs q.keys)

-- the parameters are literals
abbrev pub ParamsFit : Params → Type 0
ParamsFit no_params = Unit {0}
ParamsFit (params ls) = AreLiterals ls

abbrev pub CallFits : CallText → Type 0
CallFits c = ParamsFit c.parameters

-- There is one call at least.
abbrev pub HasCalls : List CallText → Type 0
HasCalls [] = ⊥
HasCalls (c ∷ cs) = Every CallFits (c ∷ cs)

-- The letters are those of a request for these calls over these keys.
abbrev pub IsSelect : List Letter → SelectText → Type 0
IsSelect letters q = HasCalls q.calls × Leads (select_signs q) letters []

-- A call: its name, its parameters and the names that it is called on.
pub record SelectCall : Type 0 where
  pub name : List ℕ
  pub params : List Literal
  pub arguments : List Name

pub record Select : Type 0 where
  pub calls : List SelectCall
  pub keys : List Name

-- Empty brackets are as none.
abbrev pub AreParams : Params → List Literal → Type 0
AreParams no_params literals = literals ≡ []
AreParams (params tokens) literals = AreRead tokens literals

-- What a call stands for.
abbrev pub IsCallOf : CallText → SelectCall → Type 0
IsCallOf text call = (call.name ≡ text.name) × AreParams text.parameters call.params × (call.arguments ≡ text.arguments)

-- What the request stands for.
abbrev pub IsSelectOf : SelectText → Select → Type 0
IsSelectOf text q = EachPair IsCallOf text.calls q.calls × (q.keys ≡ text.keys)
