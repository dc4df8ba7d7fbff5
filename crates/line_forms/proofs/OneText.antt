-- Letters are those of one form at most.
use Rattle.std.proofs.Common.{◌≡◌, ℕ, List, [], ◌∷◌, ◌++◌, codes, map, true, cond, refl, sym, ap, subst, ◌∙◌, arith}
use Rattle.std.specs.Str.{bytes_eq}
use Rattle.line_tokens.specs.Tokens.{Token, word, integer, open_bracket, close_bracket, comma}
use Rattle.type_names.specs.TypeTexts.{tokens_of, is_literal, AreLiterals}
use Rattle.type_names.proofs.OneType.{same_type}
use Rattle.line_forms.specs.Letters.{Letter, Sign, sign, Name, name_part, Leads, more_parts, divided, in_brackets, Every}
use Rattle.line_forms.specs.Tables.{ColumnText, column_signs, ColumnFits, IsTable}
use Rattle.line_forms.specs.Selects.{Params, no_params, params, CallText, names_signs, literal_part, params_signs, call_signs, group_signs, SelectText, select_signs, ParamsFit, CallFits, HasCalls, IsSelect}
use Rattle.line_forms.specs.ScriptLines.{LineText, view, session, insert, load, read, states, keyword_of, behind_keyword, LineFits, IsScriptLine}

-- ---- letters that begin with signs

abbrev tokens_in : List Letter → List Token
tokens_in letters = map (λ (l : Letter). l.0) letters

one_rest : (x : List Sign) (a b c : List Letter) → Leads x a b → Leads x a c → b ≡ c
one_rest [] a b c h k = sym h ∙ k
one_rest (s ∷ x) [] b c h k = absurd h
one_rest (s ∷ x) (l ∷ a) b c h k = one_rest x a b c h.2 k.2

record IsSplit (x y : List Sign) (a c : List Letter) : Type 0 where
  mid : List Letter
  first : Leads x a mid
  second : Leads y mid c

split : (x y : List Sign) (a c : List Letter) → Leads (x ++ y) a c → IsSplit x y a c
split [] y a c h = record { mid = a; first = refl; second = h }
split (s ∷ x) y [] c h = absurd h
split (s ∷ x) y (l ∷ a) c h = let r = split x y a c h.2 in record { mid = r.mid; first = (h.0, h.1, r.first); second = r.second }

-- the letters don't begin with this token
abbrev NotFirst : Token → List Letter → Type 0
NotFirst t letters = (l : Letter) (more : List Letter) → letters ≡ l ∷ more → l.0 ≡ t → ⊥

none_first : (t : Token) (letters : List Letter) → letters ≡ [] → NotFirst t letters
none_first t letters e = λ l more first is. let both : [] ≡ l ∷ more = sym e ∙ first in absurd cc

other_first : (t u : Token) (l : Letter) (m : List Letter) → l.0 ≡ u → (u ≡ t → ⊥) → NotFirst t (l ∷ m)
other_first t u l m is other = λ k more first here. other (sym is ∙ (let same : l.0 ≡ k.0 = cc in same) ∙ here)

-- ---- lists divided by commas

-- what follows a text of a kind tells one text of that kind
abbrev TellsOne : {T : Type 0} → (T → Type 0) → (T → List Sign) → (List Letter → Type 0) → Type 0
TellsOne {T} fits signs ends = (a b : T) (L r q : List Letter) → fits a → fits b → ends r → ends q → Leads (signs a) L r → Leads (signs b) L q → a ≡ b

ends_more : {T : Type 0} (signs : T → List Sign) (ends : List Letter → Type 0) → ((l : Letter) (m : List Letter) → l.0 ≡ comma → ends (l ∷ m)) → (ts : List T) (m r : List Letter) → ends r → Leads (more_parts (map signs ts)) m r → ends m
ends_more signs ends at_comma [] m r e h = subst ends (sym h) e
ends_more signs ends at_comma (t ∷ ts) [] r e h = absurd h
ends_more signs ends at_comma (t ∷ ts) (l ∷ m) r e h = at_comma l m h.0

one_more : {T : Type 0} (fits : T → Type 0) (signs : T → List Sign) (ends : List Letter → Type 0) → TellsOne fits signs ends → ((l : Letter) (m : List Letter) → l.0 ≡ comma → ends (l ∷ m))
    → (ts us : List T) (L r q : List Letter) → Every fits ts → Every fits us → ends r → ends q → NotFirst comma r → NotFirst comma q → Leads (more_parts (map signs ts)) L r → Leads (more_parts (map signs us)) L q → ts ≡ us
one_more fits signs ends one at_comma [] [] L r q f g er eq nr nq h k = refl
one_more fits signs ends one at_comma [] (u ∷ us) [] r q f g er eq nr nq h k = absurd k
one_more fits signs ends one at_comma [] (u ∷ us) (l ∷ L) r q f g er eq nr nq h k = absurd (nr l L (sym h) k.0)
one_more fits signs ends one at_comma (t ∷ ts) us [] r q f g er eq nr nq h k = absurd h
one_more fits signs ends one at_comma (t ∷ ts) [] (l ∷ L) r q f g er eq nr nq h k = absurd (nq l L (sym k) h.0)
one_more fits signs ends one at_comma (t ∷ ts) (u ∷ us) (l ∷ L) r q f g er eq nr nq h k =
    let a = split (signs t) (more_parts (map signs ts)) L r h.2 in
    let b = split (signs u) (more_parts (map signs us)) L q k.2 in
    let same = one t u L a.mid b.mid f.0 g.0 (ends_more signs ends at_comma ts a.mid r er a.second) (ends_more signs ends at_comma us b.mid q eq b.second) a.first b.first in
    let mids : b.mid ≡ a.mid = one_rest (signs u) L b.mid a.mid b.first (subst (λ x. Leads (signs x) L a.mid) same a.first) in
    ap (λ x. x ∷ ts) same ∙ ap (λ x. u ∷ x) (one_more fits signs ends one at_comma ts us a.mid r q f.1 g.1 er eq nr nq a.second (subst (λ x. Leads (more_parts (map signs us)) x q) mids b.second))

-- one text or more
one_list : {T : Type 0} (fits : T → Type 0) (signs : T → List Sign) (ends : List Letter → Type 0) → TellsOne fits signs ends → ((l : Letter) (m : List Letter) → l.0 ≡ comma → ends (l ∷ m))
    → (t u : T) (ts us : List T) (L r q : List Letter) → Every fits (t ∷ ts) → Every fits (u ∷ us) → ends r → ends q → NotFirst comma r → NotFirst comma q → Leads (divided (map signs (t ∷ ts))) L r → Leads (divided (map signs (u ∷ us))) L q → t ∷ ts ≡ u ∷ us
one_list fits signs ends one at_comma t u ts us L r q f g er eq nr nq h k =
    let a = split (signs t) (more_parts (map signs ts)) L r h in
    let b = split (signs u) (more_parts (map signs us)) L q k in
    let same = one t u L a.mid b.mid f.0 g.0 (ends_more signs ends at_comma ts a.mid r er a.second) (ends_more signs ends at_comma us b.mid q eq b.second) a.first b.first in
    let mids : b.mid ≡ a.mid = one_rest (signs u) L b.mid a.mid b.first (subst (λ x. Leads (signs x) L a.mid) same a.first) in
    ap (λ x. x ∷ ts) same ∙ ap (λ x. u ∷ x) (one_more fits signs ends one at_comma ts us a.mid r q f.1 g.1 er eq nr nq a.second (subst (λ x. Leads (more_parts (map signs us)) x q) mids b.second))

abbrev Always : List Letter → Type 0
Always letters = Unit {0}

-- ---- names and literals

word_name : (w v : List ℕ) → word w ≡ word v → w ≡ v
word_name w v e = cc

one_name : (n m : Name) (l : Letter) → l.0 ≡ word n.name → l.1 ≡ n.at → l.0 ≡ word m.name → l.1 ≡ m.at → n ≡ m
one_name n m l a p b q =
    let at : n.at ≡ m.at = sym p ∙ q in
    let name : n.name ≡ m.name = word_name n.name m.name (sym a ∙ b) in
    ap (λ x. (let y : Name = record { at = x; name = n.name } in y)) at ∙ ap (λ x. (let y : Name = record { at = m.at; name = x } in y)) name

abbrev NameFits : Name → Type 0
NameFits n = Unit {0}

every_name : (ns : List Name) → Every NameFits ns
every_name [] = tt
every_name (n ∷ ns) = (tt, every_name ns)

tells_name : TellsOne NameFits name_part Always
tells_name a b [] r q f g er eq h k = absurd h
tells_name a b (l ∷ L) r q f g er eq h k = one_name a b l h.0 h.1 k.0 k.1

-- names up to what is no comma
names_before : (n m : Name) (ns ms : List Name) (L r q : List Letter) → NotFirst comma r → NotFirst comma q → Leads (names_signs (n ∷ ns)) L r → Leads (names_signs (m ∷ ms)) L q → n ∷ ns ≡ m ∷ ms
names_before n m ns ms L r q nr nq h k = one_list NameFits name_part Always tells_name (λ l m e. tt) n m ns ms L r q (every_name (n ∷ ns)) (every_name (m ∷ ms)) tt tt nr nq h k

closed_not : (t : Token) (m r : List Letter) → (close_bracket ≡ t → ⊥) → Leads (sign close_bracket ∷ []) m r → NotFirst t m
closed_not t [] r other h = absurd h
closed_not t (l ∷ m) r other h = other_first t close_bracket l m h.0 other

one_names : (ns ms : List Name) (L r q : List Letter) → Leads (names_signs ns ++ (sign close_bracket ∷ [])) L r → Leads (names_signs ms ++ (sign close_bracket ∷ [])) L q → ns ≡ ms
one_names [] [] L r q h k = refl
one_names [] (m ∷ ms) [] r q h k = absurd h
one_names [] (m ∷ ms) (l ∷ L) r q h k = let e : close_bracket ≡ word m.name = sym h.0 ∙ k.0 in absurd cc
one_names (n ∷ ns) [] [] r q h k = absurd h
one_names (n ∷ ns) [] (l ∷ L) r q h k = let e : close_bracket ≡ word n.name = sym k.0 ∙ h.0 in absurd cc
one_names (n ∷ ns) (m ∷ ms) L r q h k =
    let a = split (names_signs (n ∷ ns)) (sign close_bracket ∷ []) L r h in
    let b = split (names_signs (m ∷ ms)) (sign close_bracket ∷ []) L q k in
    names_before n m ns ms L a.mid b.mid (closed_not comma a.mid r (λ e. absurd cc) a.second) (closed_not comma b.mid q (λ e. absurd cc) b.second) a.first b.first

abbrev TokenFits : Token → Type 0
TokenFits t = Unit {0}

every_token : (ts : List Token) → Every TokenFits ts
every_token [] = tt
every_token (t ∷ ts) = (tt, every_token ts)

tells_literal : TellsOne TokenFits literal_part Always
tells_literal a b [] r q f g er eq h k = absurd h
tells_literal a b (l ∷ L) r q f g er eq h k = sym h.0 ∙ k.0

no_literal : (t : Token) → close_bracket ≡ t → is_literal t ≡ true → ⊥
no_literal t e is = let no : is_literal close_bracket ≡ true = ap is_literal e ∙ is in absurd cc

no_word : (w : List ℕ) (t : Token) → word w ≡ t → is_literal t ≡ true → ⊥
no_word w t e is = let no : is_literal (word w) ≡ true = ap is_literal e ∙ is in absurd cc

one_literals : (ts us : List Token) (L r q : List Letter) → AreLiterals ts → AreLiterals us → Leads (divided (map literal_part ts) ++ (sign close_bracket ∷ [])) L r → Leads (divided (map literal_part us) ++ (sign close_bracket ∷ [])) L q → ts ≡ us
one_literals [] [] L r q f g h k = refl
one_literals [] (u ∷ us) [] r q f g h k = absurd h
one_literals [] (u ∷ us) (l ∷ L) r q f g h k = absurd (no_literal u (sym h.0 ∙ k.0) g.0)
one_literals (t ∷ ts) [] [] r q f g h k = absurd h
one_literals (t ∷ ts) [] (l ∷ L) r q f g h k = absurd (no_literal t (sym k.0 ∙ h.0) f.0)
one_literals (t ∷ ts) (u ∷ us) L r q f g h k =
    let a = split (divided (map literal_part (t ∷ ts))) (sign close_bracket ∷ []) L r h in
    let b = split (divided (map literal_part (u ∷ us))) (sign close_bracket ∷ []) L q k in
    one_list TokenFits literal_part Always tells_literal (λ l m e. tt) t u ts us L a.mid b.mid (every_token (t ∷ ts)) (every_token (u ∷ us)) tt tt (closed_not comma a.mid r (λ e. absurd cc) a.second) (closed_not comma b.mid q (λ e. absurd cc) b.second) a.first b.first

-- ---- calls

-- arguments aren't parameters
mixed : (ns : List Name) (ts : List Token) (ms : List Name) (L r q : List Letter) → AreLiterals ts → NotFirst open_bracket r → Leads (names_signs ns ++ (sign close_bracket ∷ [])) L r
    → Leads ((divided (map literal_part ts) ++ (sign close_bracket ∷ [])) ++ in_brackets (names_signs ms)) L q → ⊥
mixed ns ts ms [] r q f nr h k = absurd (empty ns h)
  where
    empty : (ns : List Name) → Leads (names_signs ns ++ (sign close_bracket ∷ [])) [] r → ⊥
    empty [] h = h
    empty (n ∷ ns) h = h
mixed [] [] ms (l ∷ []) r q f nr h k = absurd k.2
mixed [] [] ms (l ∷ m ∷ L) r q f nr h k = nr m L (sym h.2) k.2.0
mixed [] (t ∷ ts) ms (l ∷ L) r q f nr h k = no_literal t (sym h.0 ∙ k.0) f.0
mixed (n ∷ ns) [] ms (l ∷ L) r q f nr h k = let e : close_bracket ≡ word n.name = sym k.0 ∙ h.0 in absurd cc
mixed (n ∷ ns) (t ∷ ts) ms (l ∷ L) r q f nr h k = no_word n.name t (sym h.0 ∙ k.0) f.0

one_behind : (ps qs : Params) (ns ms : List Name) (L r q : List Letter) → ParamsFit ps → ParamsFit qs → NotFirst open_bracket r → NotFirst open_bracket q
    → Leads (params_signs ps ++ in_brackets (names_signs ns)) L r → Leads (params_signs qs ++ in_brackets (names_signs ms)) L q → (ps ≡ qs) × (ns ≡ ms)
one_behind no_params no_params ns ms [] r q f g nr nq h k = absurd h
one_behind no_params no_params ns ms (l ∷ L) r q f g nr nq h k = (refl, one_names ns ms L r q h.2 k.2)
one_behind no_params (params us) ns ms [] r q f g nr nq h k = absurd h
one_behind no_params (params us) ns ms (l ∷ L) r q f g nr nq h k = absurd (mixed ns us ms L r q g nr h.2 k.2)
one_behind (params ts) no_params ns ms [] r q f g nr nq h k = absurd h
one_behind (params ts) no_params ns ms (l ∷ L) r q f g nr nq h k = absurd (mixed ms ts ns L q r f nq k.2 h.2)
one_behind (params ts) (params us) ns ms [] r q f g nr nq h k = absurd h
one_behind (params ts) (params us) ns ms (l ∷ L) r q f g nr nq h k =
    let a = split (divided (map literal_part ts) ++ (sign close_bracket ∷ [])) (in_brackets (names_signs ns)) L r h.2 in
    let b = split (divided (map literal_part us) ++ (sign close_bracket ∷ [])) (in_brackets (names_signs ms)) L q k.2 in
    let same = one_literals ts us L a.mid b.mid f g a.first b.first in
    let mids : b.mid ≡ a.mid = one_rest (divided (map literal_part us) ++ (sign close_bracket ∷ [])) L b.mid a.mid b.first (subst (λ x. Leads (divided (map literal_part x) ++ (sign close_bracket ∷ [])) L a.mid) same a.first) in
    (ap params same, in_both a.mid a.second (subst (λ x. Leads (in_brackets (names_signs ms)) x q) mids b.second))
  where
    in_both : (m : List Letter) → Leads (in_brackets (names_signs ns)) m r → Leads (in_brackets (names_signs ms)) m q → ns ≡ ms
    in_both [] h k = absurd h
    in_both (l ∷ m) h k = one_names ns ms m r q h.2 k.2

tells_call : TellsOne CallFits call_signs (NotFirst open_bracket)
tells_call a b [] r q f g er eq h k = absurd h
tells_call a b (l ∷ L) r q f g er eq h k =
    let name : a.name ≡ b.name = word_name a.name b.name (sym h.0 ∙ k.0) in
    let both = one_behind a.parameters b.parameters a.arguments b.arguments L r q f g er eq h.2 k.2 in
    ap (λ x. (let c : CallText = record { name = x; parameters = a.parameters; arguments = a.arguments } in c)) name
    ∙ ap (λ x. (let c : CallText = record { name = b.name; parameters = x; arguments = a.arguments } in c)) both.0
    ∙ ap (λ x. (let c : CallText = record { name = b.name; parameters = b.parameters; arguments = x } in c)) both.1

-- what stands behind the calls
group_not : (t : Token) (ks : List Name) (m : List Letter) → (word (codes "GROUP") ≡ t → ⊥) → Leads (group_signs ks) m [] → NotFirst t m
group_not t [] m other h = none_first t m h
group_not t (k ∷ ks) [] other h = absurd h
group_not t (k ∷ ks) (l ∷ m) other h = other_first t (word (codes "GROUP")) l m h.0 other

one_group : (ks js : List Name) (m : List Letter) → Leads (group_signs ks) m [] → Leads (group_signs js) m [] → ks ≡ js
one_group [] [] m h k = refl
one_group [] (j ∷ js) [] h k = absurd k
one_group [] (j ∷ js) (l ∷ m) h k = absurd cc
one_group (i ∷ ks) [] [] h k = absurd h
one_group (i ∷ ks) [] (l ∷ m) h k = absurd cc
one_group (i ∷ ks) (j ∷ js) [] h k = absurd h
one_group (i ∷ ks) (j ∷ js) (l ∷ []) h k = absurd h.2
one_group (i ∷ ks) (j ∷ js) (l ∷ by ∷ m) h k = names_before i j ks js m [] [] (none_first comma [] refl) (none_first comma [] refl) h.2.2 k.2.2

one_calls : (cs ds : List CallText) (ks js : List Name) (L : List Letter) → HasCalls cs → HasCalls ds → Leads (divided (map call_signs cs) ++ group_signs ks) L [] → Leads (divided (map call_signs ds) ++ group_signs js) L [] → (cs ≡ ds) × (ks ≡ js)
one_calls [] ds ks js L f g h k = absurd f
one_calls (c ∷ cs) [] ks js L f g h k = absurd g
one_calls (c ∷ cs) (d ∷ ds) ks js L f g h k =
    let a = split (divided (map call_signs (c ∷ cs))) (group_signs ks) L [] h in
    let b = split (divided (map call_signs (d ∷ ds))) (group_signs js) L [] k in
    let same =
    one_list CallFits call_signs (NotFirst open_bracket) tells_call (λ l m e. other_first open_bracket comma l m e (λ x. absurd cc)) c d cs ds L a.mid b.mid f g
    (group_not open_bracket ks a.mid (λ x. absurd cc) a.second) (group_not open_bracket js b.mid (λ x. absurd cc) b.second) (group_not comma ks a.mid (λ x. absurd cc) a.second) (group_not comma js b.mid (λ x. absurd cc) b.second) a.first b.first in
    let mids : b.mid ≡ a.mid = one_rest (divided (map call_signs (d ∷ ds))) L b.mid a.mid b.first (subst (λ x. Leads (divided (map call_signs x)) L a.mid) same a.first) in
    (same, one_group ks js a.mid a.second (subst (λ x. Leads (group_signs js) x []) mids b.second))

one_select_text : (a b : SelectText) (L : List Letter) → HasCalls a.calls → HasCalls b.calls → Leads (select_signs a) L [] → Leads (select_signs b) L [] → a ≡ b
one_select_text a b [] f g h k = absurd h
one_select_text a b (l ∷ L) f g h k =
    let both = one_calls a.calls b.calls a.keys b.keys L f g h.2 k.2 in
    ap (λ x. (let q : SelectText = record { calls = x; keys = a.keys } in q)) both.0 ∙ ap (λ x. (let q : SelectText = record { calls = b.calls; keys = x } in q)) both.1

pub one_select : (letters : List Letter) (a b : SelectText) → IsSelect letters a → IsSelect letters b → a ≡ b
one_select letters a b h k = one_select_text a b letters h.0 k.0 h.1 k.1

-- ---- tables

leads_tokens : (ts : List Token) (a b : List Letter) → Leads (map sign ts) a b → tokens_in a ≡ ts ++ tokens_in b
leads_tokens [] a b h = ap tokens_in h
leads_tokens (t ∷ ts) [] b h = absurd h
leads_tokens (t ∷ ts) (l ∷ a) b h = ap (λ x. x ∷ tokens_in a) h.0 ∙ ap (λ x. t ∷ x) (leads_tokens ts a b h.2)

tells_column : TellsOne ColumnFits column_signs Always
tells_column a b [] r q f g er eq h k = absurd h
tells_column a b (l ∷ L) r q f g er eq h k =
    let name = one_name a.name b.name l h.0 h.1 k.0 k.1 in
    let ty = (same_type a.ty b.ty (tokens_in r) (tokens_in q) f g (sym (leads_tokens (tokens_of a.ty) L r h.2) ∙ leads_tokens (tokens_of b.ty) L q k.2)).0 in
    ap (λ x. (let c : ColumnText = record { name = x; ty = a.ty } in c)) name ∙ ap (λ x. (let c : ColumnText = record { name = b.name; ty = x } in c)) ty

pub one_table : (letters : List Letter) (a b : List ColumnText) → IsTable letters a → IsTable letters b → a ≡ b
one_table letters [] b h k = absurd h
one_table letters (c ∷ cs) [] h k = absurd k
one_table [] (c ∷ cs) (d ∷ ds) h k = absurd h.1
one_table (l ∷ L) (c ∷ cs) (d ∷ ds) h k = one_list ColumnFits column_signs Always tells_column (λ l m e. tt) c d cs ds L [] [] h.0 k.0 tt tt (none_first comma [] refl) (none_first comma [] refl) h.1.2 k.1.2

-- ---- lines of scripts

-- a number for each keyword
abbrev which : List ℕ → ℕ
which w = cond (bytes_eq w (codes "VIEW")) 0 (cond (bytes_eq w (codes "SESSION")) 1 (cond (bytes_eq w (codes "INSERT")) 2 (cond (bytes_eq w (codes "LOAD")) 3 (cond (bytes_eq w (codes "READ")) 4 5))))

one_integer : (a b : List ℕ) → integer a ≡ integer b → a ≡ b
one_integer a b e = cc

-- lines of one keyword
one_behind_keyword : (a b : LineText) (L : List Letter) → keyword_of a ≡ keyword_of b → LineFits a → LineFits b → Leads (behind_keyword a) L [] → Leads (behind_keyword b) L [] → a ≡ b
one_behind_keyword (view n p) (view m q) [] e f g h k = absurd h
one_behind_keyword (view n p) (view m q) (l ∷ L) e f g h k = ap (λ x. view x p) (one_name n m l h.0 h.1 k.0 k.1) ∙ ap (λ x. view m x) (one_select_text p q L f g h.2 k.2)
one_behind_keyword (session at ds) (session place es) [] e f g h k = absurd h
one_behind_keyword (session at ds) (session place es) (l ∷ L) e f g h k = ap (λ x. session x ds) (sym h.1 ∙ k.1) ∙ ap (λ x. session place x) (one_integer ds es (sym h.0 ∙ k.0))
one_behind_keyword (insert ds) (insert es) [] e f g h k = absurd h
one_behind_keyword (insert ds) (insert es) (l ∷ L) e f g h k = ap insert (one_integer ds es (sym h.0 ∙ k.0))
one_behind_keyword (load n ds) (load m es) [] e f g h k = absurd h
one_behind_keyword (load n ds) (load m es) (l ∷ []) e f g h k = absurd h.2
one_behind_keyword (load n ds) (load m es) (l ∷ i ∷ L) e f g h k = ap (λ x. load x ds) (one_name n m l h.0 h.1 k.0 k.1) ∙ ap (λ x. load m x) (one_integer ds es (sym h.2.0 ∙ k.2.0))
one_behind_keyword (read n) (read m) [] e f g h k = absurd h
one_behind_keyword (read n) (read m) (l ∷ L) e f g h k = ap read (one_name n m l h.0 h.1 k.0 k.1)
one_behind_keyword (states n) (states m) [] e f g h k = absurd h
one_behind_keyword (states n) (states m) (l ∷ L) e f g h k = ap states (one_name n m l h.0 h.1 k.0 k.1)
one_behind_keyword a b L e f g h k = let d : which (keyword_of a) ≡ which (keyword_of b) = ap which e in absurd (omega (arith, d))

pub one_line : (letters : List Letter) (a b : LineText) → IsScriptLine letters a → IsScriptLine letters b → a ≡ b
one_line [] a b h k = absurd h.1
one_line (l ∷ L) a b h k = one_behind_keyword a b L (word_name (keyword_of a) (keyword_of b) (sym h.1.0 ∙ k.1.0)) h.0 k.0 h.1.2 k.1.2
