-- How a value is written in a field (manual: "TabSeparated").
use Rattle.std.specs.Prelude.{ℕ, zero, suc, List, [], ◌∷◌, ◌++◌, map, codes, if◌then◌else◌}
use Rattle.std.specs.List.{flat_map}
use Rattle.std.specs.Fmt.{signed_decimal}
use Rattle.agg_terms.specs.Chains.{Ty, Whole, Signed, Str, Arr, MapTy, Nullable, StateOf}
use Rattle.agg_terms.specs.Fitting.{is_nil}
use Rattle.agg_terms.specs.Values.{Value, Num, Bytes, Items, Pairs, Cell, Tree, values_list, entries_list}
use Rattle.hex.specs.Hex.{encode_lower}
use Rattle.tsv_text.specs.Escapes.{escaped}

-- The bytes of each tree of a state type.
abbrev pub WritesStates : Type 0
WritesStates = Ty → Tree → List ℕ

-- What a value is made of; nothing at a value of another kind, which the type doesn't have.
abbrev pub number_text : Value → List ℕ
number_text (Num z) = signed_decimal z
number_text _ = []

abbrev pub string_text : Value → List ℕ
string_text (Bytes bytes) = escaped bytes
string_text _ = []

abbrev pub cell_text : (Tree → List ℕ) → Value → List ℕ
cell_text bytes (Cell tree) = encode_lower (bytes tree)
cell_text bytes _ = []

abbrev pub items_of : Value → List Value
items_of (Items vs) = values_list vs
items_of _ = []

abbrev pub entries_of : Value → List (Value × Value)
entries_of (Pairs es) = entries_list es
entries_of _ = []

abbrev pub in_quotes : List ℕ → List ℕ
in_quotes text = 39 ∷ (text ++ 39 ∷ [])

-- With commas between.
abbrev pub commas : List (List ℕ) → List ℕ
commas [] = []
commas (x ∷ xs) = x ++ flat_map (λ y. 44 ∷ y) xs

-- The comma before part i.
abbrev pub comma_before : ℕ → List ℕ
comma_before zero = []
comma_before (suc i) = 44 ∷ []

abbrev pub array_text : (Value → List ℕ) → Value → List ℕ
array_text item v = 91 ∷ (commas (map item (items_of v)) ++ 93 ∷ [])

abbrev pub entry_text : (Value → List ℕ) → (Value → List ℕ) → Value × Value → List ℕ
entry_text key item e = key e.0 ++ (58 ∷ item e.1)

abbrev pub map_text : (Value → List ℕ) → (Value → List ℕ) → Value → List ℕ
map_text key item v = 123 ∷ (commas (map (entry_text key item) (entries_of v)) ++ 125 ∷ [])

-- A value inside an array or a map: numbers in decimal, strings and states in quotes, NULL as `NULL`, no spaces.
abbrev pub element_text : WritesStates → Ty → Value → List ℕ
element_text writes (Whole n) v = number_text v
element_text writes (Signed w) v = number_text v
element_text writes Str v = in_quotes (string_text v)
element_text writes (StateOf c ts) v = in_quotes (cell_text (writes (StateOf c ts)) v)
element_text writes (Nullable t) v = if is_nil v then codes "NULL" else element_text writes t v
element_text writes (Arr t) v = array_text (element_text writes t) v
element_text writes (MapTy k t) v = map_text (element_text writes k) (element_text writes t) v

-- A value as a whole field: strings and states without quotes, NULL as `\N`.
abbrev pub field_text : WritesStates → Ty → Value → List ℕ
field_text writes Str v = string_text v
field_text writes (StateOf c ts) v = cell_text (writes (StateOf c ts)) v
field_text writes (Nullable t) v = if is_nil v then codes "\\N" else field_text writes t v
field_text writes ty v = element_text writes ty v
