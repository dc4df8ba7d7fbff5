-- The parts of a request, read.
use Rattle.std.proofs.Common.{◌≡◌, ℕ, List, [], ◌∷◌, ◌++◌, codes, map, Some, true, false, cond, Result, Ok, Err, refl, sym, ap, subst, ◌∙◌, append_assoc, arith}
use Rattle.std.specs.Str.{bytes_eq}
use Rattle.std.proofs.lemmas.Slice.Eq.{bytes_eq-Decides}
use Rattle.chain_params.specs.Literals.{literal_of}
use Rattle.line_tokens.specs.Tokens.{Token, word, open_bracket, close_bracket}
use Rattle.type_names.specs.TypeTexts.{AreLiterals}
use Rattle.type_shapes.specs.Literals.{AreRead}
use Rattle.type_shapes.specs.declared.mark.Mark.TheVariants.{Opening, Closing}
use Rattle.value_types.specs.declared.literal.Literal.{Literal}
use Rattle.line_forms.specs.Letters.{Letter, sign, Name, Leads, divided, in_brackets, Every, EachPair}
use Rattle.line_forms.specs.Selects.{no_params, params, names_signs, literal_part, call_signs, group_signs, IsCallOf}
use Rattle.line_forms.specs.Views.{name_of, call_of}
use Rattle.line_forms.specs.declared.name.WrittenName.{WrittenName}
use Rattle.line_forms.specs.declared.select.WrittenCall.{WrittenCall}
use Rattle.line_forms.specs.declared.fault.LineFault.{LineFault}
use Rattle.line_forms.specs.declared.fault.LineFault.TheVariants.{Syntax, OutOfMemory}
use Rattle.request_lines.specs.proving.Judging.{Goal, a_name, names, opening, closing, a_literal, literals, call, in_call, maybe_arguments, in_names, calls, group, keyword, step, stop}
use Rattle.request_lines.specs.declared.rest.Rest.{Rest}
use Rattle.request_lines.specs.declared.calls.Inside.{Inside}
use Rattle.request_lines.specs.proving.Letters.{letters_left, IsFurther}
use Rattle.request_lines.specs.proving.Reads.{Passes, Reads, IsToken, IsNameOf, AreNames, LiteralFits, IsLiteralOf, AreLiteralsRead, AreArguments, AreParamsRead, inside_signs, IsInside, IsEmptyInside, IsCall, AreCallsRead, AreKeys, IsRequest}
use Rattle.request_lines.proofs.Found.{opened}
use Rattle.request_lines.proofs.Leading.{leads_on}
use Rattle.request_lines.proofs.ListsRead.{further_on, passes_on, each-map}
use Rattle.request_lines.proofs.Steps.{HasNoWord, HasNoMark, alike, left_out}

-- ---- a part told by another

-- parts with goals that take the first letter alike
abbrev Alike : List Goal → List Goal → Rest → Type 0
Alike goals inner rest = (s : List Goal) → stop rest.whole (goals ++ s) (letters_left rest) ≡ stop rest.whole (inner ++ s) (letters_left rest)

pub retold : {V : Type 0} (goals inner : List Goal) (kind : V → List Letter → List Letter → Type 0) (rest : Rest) (r : Result (V × Rest) LineFault) → Alike goals inner rest → Reads inner kind rest r → Reads goals kind rest r
retold goals inner kind rest (Ok r) same h = (h.0, h.1, λ s. same s ∙ h.2 s)
retold goals inner kind rest (Err (Syntax at)) same h = λ s. same s ∙ h s
retold goals inner kind rest (Err OutOfMemory) same h = tt

-- a part behind what goes on
pub told_behind : {V : Type 0} (goals inner : List Goal) (kind other : V → List Letter → List Letter → Type 0) (rest mid : Rest) (r : Result (V × Rest) LineFault) → IsFurther rest mid
    → ((s : List Goal) → stop rest.whole (goals ++ s) (letters_left rest) ≡ stop rest.whole (inner ++ s) (letters_left mid)) → ((v : V) (letters : List Letter) → kind v (letters_left mid) letters → other v (letters_left rest) letters)
    → Reads inner kind mid r → Reads goals other rest r
told_behind goals inner kind other rest mid (Ok r) on same seen h = (
  seen r.0 (letters_left r.1) h.0,
  further_on rest mid r.1 on h.1,
  λ s. same s ∙ ap (λ n. stop n (inner ++ s) (letters_left mid)) (sym on.whole) ∙ h.2 s ∙ ap (λ n. stop n s (letters_left r.1)) on.whole,
)
told_behind goals inner kind other rest mid (Err (Syntax at)) on same seen h = λ s. same s ∙ ap (λ n. stop n (inner ++ s) (letters_left mid)) (sym on.whole) ∙ h s
told_behind goals inner kind other rest mid (Err OutOfMemory) on same seen h = tt

-- ---- names and literals

names_of : (t : Name) (ts : List Name) (vs : List WrittenName) → EachPair IsNameOf (t ∷ ts) vs → map name_of vs ≡ t ∷ ts
names_of t ts [] h = absurd h
names_of t [] (v ∷ []) h = ap (λ x. x ∷ []) h.0
names_of t [] (v ∷ w ∷ vs) h = absurd h.1
names_of t (u ∷ ts) (v ∷ vs) h = ap (λ x. x ∷ map name_of vs) h.0 ∙ ap (λ x. t ∷ x) (names_of u ts vs h.1)

pub names_lead : (vs : List WrittenName) (a b : List Letter) → AreNames vs a b → Leads (names_signs (map name_of vs)) a b
names_lead vs a b h = subst (λ ns. Leads (names_signs ns) a b) (sym (names_of h.0 h.1 vs h.3)) h.4

pub closed_names : (rest left closed : Rest) (vs : List WrittenName) → AreNames vs (letters_left rest) (letters_left left) → IsToken close_bracket (letters_left left) (letters_left closed) → AreArguments vs (letters_left rest) (letters_left closed)
closed_names rest left closed vs h k = leads_on (names_signs (map name_of vs)) (sign close_bracket ∷ []) (letters_left rest) (letters_left left) (letters_left closed) (names_lead vs (letters_left rest) (letters_left left) h) k

arguments_token : (s : List Goal) (t : Token) → (t ≡ close_bracket → ⊥) → step (in_names ∷ s) t ≡ step (a_name ∷ names ∷ closing ∷ s) t
arguments_token s close_bracket h = absurd (h refl)
arguments_token s (word w) h = refl
arguments_token s t h = refl

pub arguments_told : (rest : Rest) (r : Result (List WrittenName × Rest) LineFault) → HasNoMark Closing (letters_left rest) → Reads (a_name ∷ names ∷ closing ∷ []) AreArguments rest r → Reads (in_names ∷ []) AreArguments rest r
arguments_told rest r none h =
    retold (in_names ∷ []) (a_name ∷ names ∷ closing ∷ []) AreArguments rest r
    (λ s. alike rest.whole (in_names ∷ s) (a_name ∷ names ∷ closing ∷ s) (letters_left rest) refl (λ t at more e. arguments_token s t (λ is. none at more (e ∙ ap (λ t. (let x : Letter = (t, at) in x) ∷ more) is)))) h

pub params_read : (rest left closed behind : Rest) (ls : List Literal) → AreLiteralsRead ls (letters_left rest) (letters_left left) → IsToken close_bracket (letters_left left) (letters_left closed) → IsToken open_bracket (letters_left closed) (letters_left behind)
    → AreParamsRead ls (letters_left rest) (letters_left behind)
params_read rest left closed behind ls h k l = (
  h.0,
  h.1,
  h.2,
  h.3,
  leads_on (divided (map literal_part (h.0 ∷ h.1))) (sign close_bracket ∷ sign open_bracket ∷ []) (letters_left rest) (letters_left left) (letters_left behind) h.4
      (leads_on (sign close_bracket ∷ []) (sign open_bracket ∷ []) (letters_left left) (letters_left closed) (letters_left behind) k l),
)

are_literals : (ts : List Token) → Every LiteralFits ts → AreLiterals ts
are_literals [] h = tt
are_literals (t ∷ ts) h = (h.0, are_literals ts h.1)

are_read : (ts : List Token) (ls : List Literal) → EachPair IsLiteralOf ts ls → AreRead ts (map literal_of ls)
are_read [] [] h = tt
are_read [] (l ∷ ls) h = absurd h
are_read (t ∷ ts) [] h = absurd h
are_read (t ∷ ts) (l ∷ ls) h = (h.0, are_read ts ls h.1)

-- ---- what stands in the brackets of a call

pub with_params : (rest mid left : Rest) (ls : List Literal) (vs : List WrittenName) → AreParamsRead ls (letters_left rest) (letters_left mid) → AreArguments vs (letters_left mid) (letters_left left)
    → IsInside (record { params = ls; arguments = vs }) (letters_left rest) (letters_left left)
with_params rest mid left ls vs h k =
    let ts = h.0 ∷ h.1 in
    let literals_lead = divided (map literal_part ts) in
    let arguments = names_signs (map name_of vs) ++ (sign close_bracket ∷ []) in
    let joined = leads_on (literals_lead ++ (sign close_bracket ∷ sign open_bracket ∷ [])) arguments (letters_left rest) (letters_left mid) (letters_left left) h.4 k in
    let same : (literals_lead ++ (sign close_bracket ∷ sign open_bracket ∷ [])) ++ arguments ≡ (literals_lead ++ (sign close_bracket ∷ [])) ++ (sign open_bracket ∷ arguments) =
    append_assoc literals_lead (sign close_bracket ∷ sign open_bracket ∷ []) arguments ∙ sym (append_assoc literals_lead (sign close_bracket ∷ []) (sign open_bracket ∷ arguments)) in
    (params ts, are_literals ts h.2, are_read ts ls h.3, subst (λ x. Leads x (letters_left rest) (letters_left left)) same joined)

pub without_params : (a b : List Letter) (ls : List Literal) (vs : List WrittenName) → ls ≡ [] → AreArguments vs a b → IsInside (record { params = ls; arguments = vs }) a b
without_params a b ls vs e h = (no_params, tt, ap (map literal_of) e, h)

pub empty_alone : (a : List Letter) (ls : List Literal) (vs : List WrittenName) → ls ≡ [] → vs ≡ [] → IsEmptyInside (record { params = ls; arguments = vs }) a a
empty_alone a ls vs e f = λ at. (no_params, tt, ap (map literal_of) e, subst (λ ns. Leads (names_signs (map name_of ns) ++ (sign close_bracket ∷ [])) ((close_bracket, at) ∷ a) a) (sym f) (refl, tt, refl))

pub empty_then : (a b c : List Letter) (at : ℕ) (ls : List Literal) (vs : List WrittenName) → ls ≡ [] → a ≡ (open_bracket, at) ∷ b → AreArguments vs b c → IsEmptyInside (record { params = ls; arguments = vs }) a c
empty_then a b c at ls vs e first h = λ closed. (
  params [],
  tt,
  subst (λ x. AreRead [] (map literal_of x)) (sym e) tt,
  (refl, tt, subst (λ x. Leads (in_brackets (names_signs (map name_of vs))) x c) (sym first) (refl, tt, h)),
)

no_arguments : (s : List Goal) (t : Token) → (t ≡ open_bracket → ⊥) → step (maybe_arguments ∷ s) t ≡ step s t
no_arguments s open_bracket h = absurd (h refl)
no_arguments s t h = refl

pub no_arguments_pass : (rest : Rest) → HasNoMark Opening (letters_left rest) → Passes (maybe_arguments ∷ []) rest rest
no_arguments_pass rest none = λ s. left_out rest.whole maybe_arguments Opening s (letters_left rest) refl (no_arguments s) none

pub optional_passes : (rest mid left : Rest) (at : ℕ) → letters_left rest ≡ (open_bracket, at) ∷ letters_left mid → IsFurther rest mid → Passes (in_names ∷ []) mid left → Passes (maybe_arguments ∷ []) rest left
optional_passes rest mid left at first on h = λ s. ap (stop rest.whole (maybe_arguments ∷ s)) first ∙ ap (λ n. stop n (in_names ∷ s) (letters_left mid)) (sym on.whole) ∙ h s ∙ ap (λ n. stop n s (letters_left left)) on.whole

pub stays : (rest : Rest) → IsFurther rest rest
stays rest = record { whole = refl; within = omega arith }

-- behind empty brackets
pub empty_told : (rest closed : Rest) (at : ℕ) (r : Result (Inside × Rest) LineFault) → letters_left rest ≡ (close_bracket, at) ∷ letters_left closed → IsFurther rest closed → Reads (maybe_arguments ∷ []) IsEmptyInside closed r → Reads (in_call ∷ []) IsInside rest r
empty_told rest closed at r first on h =
    told_behind (in_call ∷ []) (maybe_arguments ∷ []) IsEmptyInside IsInside rest closed r on (λ s. ap (stop rest.whole (in_call ∷ s)) first) (λ inside letters k. subst (λ x. IsInside inside x letters) (sym first) (k at)) h

pub word_told : (rest : Rest) (w : List ℕ) (at : ℕ) (more : List Letter) (r : Result (Inside × Rest) LineFault) → letters_left rest ≡ (word w, at) ∷ more → Reads (in_names ∷ []) IsInside rest r → Reads (in_call ∷ []) IsInside rest r
word_told rest w at more r first h = retold (in_call ∷ []) (in_names ∷ []) IsInside rest r (λ s. ap (stop rest.whole (in_call ∷ s)) first ∙ sym (ap (stop rest.whole (in_names ∷ s)) first)) h

inside_token : (s : List Goal) (t : Token) → (t ≡ close_bracket → ⊥) → ((w : List ℕ) → t ≡ word w → ⊥) → step (in_call ∷ s) t ≡ step (a_literal ∷ literals ∷ closing ∷ opening ∷ in_names ∷ s) t
inside_token s close_bracket h k = absurd (h refl)
inside_token s (word w) h k = absurd (k w refl)
inside_token s t h k = refl

pub literal_told : (rest : Rest) (r : Result (Inside × Rest) LineFault) → HasNoMark Closing (letters_left rest) → HasNoWord (letters_left rest) → Reads (a_literal ∷ literals ∷ closing ∷ opening ∷ in_names ∷ []) IsInside rest r → Reads (in_call ∷ []) IsInside rest r
literal_told rest r none no_word h =
    retold (in_call ∷ []) (a_literal ∷ literals ∷ closing ∷ opening ∷ in_names ∷ []) IsInside rest r
    (λ s.
    alike rest.whole (in_call ∷ s) (a_literal ∷ literals ∷ closing ∷ opening ∷ in_names ∷ s) (letters_left rest) refl
    (λ t at more e. inside_token s t (λ is. none at more (e ∙ ap (λ t. (let x : Letter = (t, at) in x) ∷ more) is)) (λ w is. no_word w at more (e ∙ ap (λ t. (let x : Letter = (t, at) in x) ∷ more) is)))) h

-- ---- a call

pub call_read : (rest behind mid left : Rest) (w : List ℕ) (at : ℕ) (name : List ℕ) (inside : Inside) → letters_left rest ≡ (word w, at) ∷ letters_left behind → IsFurther rest behind → IsToken open_bracket (letters_left behind) (letters_left mid) → IsFurther behind mid → Passes (opening ∷ []) behind mid
    → IsInside inside (letters_left mid) (letters_left left) → IsFurther mid left → Passes (in_call ∷ []) mid left → name ≡ w
    → IsCall (record { name = name; params = inside.params; arguments = inside.arguments }) (letters_left rest) (letters_left left) × IsFurther rest left × Passes (call ∷ []) rest left
call_read rest behind mid left w at name inside first on open_first on_mid passes_open h on_left passes_inside e =
    let ps = h.0 in
    let ns = map name_of inside.arguments in
    let on_behind = further_on behind mid left on_mid on_left in
    let joined = leads_on (sign open_bracket ∷ []) (inside_signs ps ns) (letters_left behind) (letters_left mid) (letters_left left) open_first h.3 in (
      (record { name = w; parameters = ps; arguments = ns }, h.1, (e, h.2, refl), subst (λ x. Leads (call_signs (record { name = w; parameters = ps; arguments = ns })) x (letters_left left)) (sym first) (refl, tt, subst (λ x. Leads x (letters_left behind) (letters_left left)) (opened ps ns) joined)),
      further_on rest behind left on on_behind,
      λ s. ap (stop rest.whole (call ∷ s)) first ∙ ap (λ n. stop n (opening ∷ in_call ∷ s) (letters_left behind)) (sym on.whole) ∙ passes_on (opening ∷ []) (in_call ∷ []) behind mid left on_mid passes_open passes_inside s ∙ ap (λ n. stop n s (letters_left left)) on.whole,
    )

-- ---- keys

pub keys_told : (rest behind mid : Rest) (w : List ℕ) (at : ℕ) (r : Result (List WrittenName × Rest) LineFault) → letters_left rest ≡ (word w, at) ∷ letters_left behind → bytes_eq w (codes "GROUP") ≡ true → IsFurther rest behind
    → IsToken (word (codes "BY")) (letters_left behind) (letters_left mid) → IsFurther behind mid → Passes (keyword (codes "BY") ∷ []) behind mid → Reads (a_name ∷ names ∷ []) AreNames mid r → Reads (group ∷ []) AreKeys rest r
keys_told rest behind mid w at r first is on by on_mid passes h =
    let is_word : w ≡ codes "GROUP" = (bytes_eq-Decides w (codes "GROUP")).0 is in
    told_behind (group ∷ []) (a_name ∷ names ∷ []) AreNames AreKeys rest mid r (further_on rest behind mid on on_mid)
    (λ s.
    ap (stop rest.whole (group ∷ s)) (first ∙ ap (λ x. (let l : Letter = (word x, at) in l) ∷ letters_left behind) is_word)
    ∙ ap (λ n. stop n (keyword (codes "BY") ∷ a_name ∷ names ∷ s) (letters_left behind)) (sym on.whole) ∙ passes (a_name ∷ names ∷ s) ∙ ap (λ n. stop n (a_name ∷ names ∷ s) (letters_left mid)) on.whole)
    (λ vs letters k. keys_lead vs letters k) h
  where
    group_leads : (a b : List Letter) → Leads (sign (word (codes "BY")) ∷ []) (letters_left behind) a → (t : Name) (ts : List Name) → Leads (names_signs (t ∷ ts)) a b → w ≡ codes "GROUP" → Leads (group_signs (t ∷ ts)) (letters_left rest) b
    group_leads a b by t ts k is_word = subst (λ x. Leads (group_signs (t ∷ ts)) x b) (sym first) (ap word is_word, tt, leads_on (sign (word (codes "BY")) ∷ []) (names_signs (t ∷ ts)) (letters_left behind) a b by k)

    keys_lead : (vs : List WrittenName) (letters : List Letter) → AreNames vs (letters_left mid) letters → AreKeys vs (letters_left rest) letters
    keys_lead vs letters k = subst (λ ns. Leads (group_signs ns) (letters_left rest) letters) (sym (names_of k.0 k.1 vs k.3)) (group_leads (letters_left mid) letters by k.0 k.1 k.4 ((bytes_eq-Decides w (codes "GROUP")).0 is))

group_token : (s : List Goal) (t : Token) → ((w : List ℕ) → t ≡ word w → bytes_eq w (codes "GROUP") ≡ false) → step (group ∷ s) t ≡ step s t
group_token s (word w) h = ap (λ b. cond b (Some (keyword (codes "BY") ∷ a_name ∷ names ∷ s)) (step s (word w))) (h w refl)
group_token s t h = refl

pub no_keys : (rest : Rest) (vs : List WrittenName) → vs ≡ [] → ((w : List ℕ) (at : ℕ) (more : List Letter) → letters_left rest ≡ (word w, at) ∷ more → bytes_eq w (codes "GROUP") ≡ false)
    → AreKeys vs (letters_left rest) (letters_left rest) × IsFurther rest rest × Passes (group ∷ []) rest rest
no_keys rest vs none other = (
  subst (λ ns. AreKeys ns (letters_left rest) (letters_left rest)) (sym none) refl,
  stays rest,
  λ s. alike rest.whole (group ∷ s) s (letters_left rest) refl (λ t at more e. group_token s t (λ w is. other w at more (e ∙ ap (λ t. (let x : Letter = (t, at) in x) ∷ more) is))),
)

word_name : (w v : List ℕ) → word w ≡ word v → w ≡ v
word_name w v e = cc

pub same_word : (letters more other : List Letter) (w v : List ℕ) (at place : ℕ) → letters ≡ (word w, at) ∷ more → letters ≡ (word v, place) ∷ other → w ≡ v
same_word letters more other w v at place e f = let both : (let x : Letter = (word w, at) in x) ∷ more ≡ (word v, place) ∷ other = sym e ∙ f in let first : (let x : Letter = (word w, at) in x) ≡ (word v, place) = cc in word_name w v (ap (λ (l : Letter). l.0) first)

-- ---- a request

pub request_read : (rest mid behind left : Rest) (read : List WrittenCall) (keys_read : List WrittenName) → IsToken (word (codes "SELECT")) (letters_left rest) (letters_left mid) → IsFurther rest mid → Passes (keyword (codes "SELECT") ∷ []) rest mid
    → AreCallsRead read (letters_left mid) (letters_left behind) → IsFurther mid behind → Passes (call ∷ calls ∷ []) mid behind → AreKeys keys_read (letters_left behind) (letters_left left) → IsFurther behind left → Passes (group ∷ []) behind left
    → IsRequest (record { calls = read; keys = keys_read }) (letters_left rest) (letters_left left) × IsFurther rest left × Passes (keyword (codes "SELECT") ∷ call ∷ calls ∷ group ∷ []) rest left
request_read rest mid behind left read keys_read first on passes h on_calls passes_calls k on_keys passes_keys =
    let texts = h.0 ∷ h.1 in
    let parts = divided (map call_signs texts) in
    let ks = map name_of keys_read in
    let joined = leads_on parts (group_signs ks) (letters_left mid) (letters_left behind) (letters_left left) h.4 k in (
      (record { calls = texts; keys = ks }, h.2, (each-map IsCallOf call_of texts read h.3, refl), leads_on (sign (word (codes "SELECT")) ∷ []) (parts ++ group_signs ks) (letters_left rest) (letters_left mid) (letters_left left) first joined),
      further_on rest mid left on (further_on mid behind left on_calls on_keys),
      passes_on (keyword (codes "SELECT") ∷ []) (call ∷ calls ∷ group ∷ []) rest mid left on passes (passes_on (call ∷ calls ∷ []) (group ∷ []) mid behind left on_calls passes_calls passes_keys),
    )
