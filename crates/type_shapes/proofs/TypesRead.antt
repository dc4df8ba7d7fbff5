-- What each reader finds, from what the readers inside it find.
use Rattle.std.proofs.Common.{◌≡◌, ℕ, suc, ◌-◌, ◌<◌, ◌≤◌, max, List, ◌∷◌, ◌++◌, codes, true, false, Option, Some, None, refl, sym, ap, subst, ◌∙◌, arith}
use Rattle.std.specs.Str.{bytes_eq}
use Rattle.std.proofs.Math.Nat.{le-max_left, le-max_right, max-le}
use Rattle.agg_typing.specs.Literals.{Literal}
use Rattle.line_tokens.specs.Tokens.{Token, word, open_bracket, close_bracket, comma}
use Rattle.type_names.specs.Syntax.{tokens_in}
use Rattle.type_names.specs.TypeTexts.{WrittenType as Written, WrittenTypes as WrittenTypes, map_of, state, tokens_of, tokens_of_all, brackets, ShapeFits}
use Rattle.type_shapes.specs.Shapes.{Shape, Arr, MapOf, Nullable, State, plain_shape, shapes, Spells, nesting, deepest}
use Rattle.type_shapes.specs.Reading.{IsFound, ReadsType, ReadsInside, ReadsBehind, ReadsTypes, ReadsLiterals}
use Rattle.type_shapes.proofs.Fronts.{behind_first, same_bytes, nesting_is_some, begins_with_name, after_plain, after_array, after_nullable, after_map, after_state, no_other}

-- no text begins with this token
abbrev pub Lacks : List ℕ → Token → Type 0
Lacks text t = (more : List Token) → tokens_in text ≡ t ∷ more → ⊥

-- the token that begins a text, and what stands behind it
behind_token : (t : Token) (text rest : List ℕ) (more : List Token) → tokens_in text ≡ t ∷ tokens_in rest → tokens_in text ≡ t ∷ more → tokens_in rest ≡ more
behind_token t text rest more first e = behind_first t _ _ (sym first ∙ e)

-- ---- a type

pub no_levels : (most : ℕ) (text : List ℕ) → most ≡ 0 → ReadsType most text None
no_levels most text e ty more f t = let h = nesting_is_some ty in omega (arith, h)

pub no_name : (most : ℕ) (text : List ℕ) → ((name : List ℕ) → Lacks text (word name)) → ReadsType most text None
no_name most text h ty more f t = let b = begins_with_name ty more in absurd (h b.0 b.1 (t ∙ b.2))

pub a_plain : (most : ℕ) (text name rest : List ℕ) (s : Shape) → 0 < most → tokens_in text ≡ word name ∷ tokens_in rest → plain_shape name ≡ Some s → ReadsType most text (Some (s, rest))
a_plain most text name rest s some first is ty more f t =
    let b = after_plain name s ty (tokens_in rest) more is (sym first ∙ t) in
    let size : nesting ty ≡ 1 = ap nesting b.0 in
    record { within = omega (arith, size, some); spelled = subst (λ ty. Spells ty s) (sym b.0) is; behind = b.1 }

pub behind_name : (most : ℕ) (text name kind rest : List ℕ) (found : Option (Shape × List ℕ)) → 0 < most → tokens_in text ≡ word name ∷ tokens_in rest → bytes_eq name kind ≡ true
    → ReadsBehind kind (most - 1) rest found → ReadsType most text found
behind_name most text name kind rest found some first is reads ty more f t =
    let levels : suc (most - 1) ≡ most = omega (arith, some) in
    let named : word kind ∷ tokens_in rest ≡ tokens_of ty ++ more = ap (λ w. word w ∷ tokens_in rest) (sym (same_bytes name kind is)) ∙ sym first ∙ t in
    subst (λ n. IsFound n (nesting ty) (Spells ty) more found) levels (reads ty more f named)

pub another_name : (most : ℕ) (text name rest : List ℕ) → tokens_in text ≡ word name ∷ tokens_in rest → plain_shape name ≡ None → bytes_eq name (codes "Array") ≡ false → bytes_eq name (codes "Map") ≡ false → bytes_eq name (codes "Nullable") ≡ false → bytes_eq name (codes "AggregateFunction") ≡ false
    → ReadsType most text None
another_name most text name rest first p a m n s ty more f t = absurd (no_other name ty (tokens_in rest) more f p a m n s (sym first ∙ t))

-- ---- a type in brackets

pub unopened : (most : ℕ) (text : List ℕ) → Lacks text open_bracket → ReadsInside most text None
unopened most text h ty more f t = absurd (h _ t)

pub deep_inside : (most : ℕ) (text inside : List ℕ) → tokens_in text ≡ open_bracket ∷ tokens_in inside → ReadsType most inside None → ReadsInside most text None
deep_inside most text inside first reads ty more f t = reads ty (close_bracket ∷ more) f (behind_token open_bracket text inside _ first t)

pub unclosed : (most : ℕ) (text inside after : List ℕ) (s : Shape) → tokens_in text ≡ open_bracket ∷ tokens_in inside → ReadsType most inside (Some (s, after)) → Lacks after close_bracket → ReadsInside most text None
unclosed most text inside after s first reads lacks ty more f t = absurd (lacks more (reads ty (close_bracket ∷ more) f (behind_token open_bracket text inside _ first t)).behind)

pub a_type_inside : (most : ℕ) (text inside after rest : List ℕ) (s : Shape) → tokens_in text ≡ open_bracket ∷ tokens_in inside → ReadsType most inside (Some (s, after)) → tokens_in after ≡ close_bracket ∷ tokens_in rest → ReadsInside most text (Some (s, rest))
a_type_inside most text inside after rest s first reads last ty more f t =
    let r = reads ty (close_bracket ∷ more) f (behind_token open_bracket text inside _ first t) in
    record { within = r.within; spelled = r.spelled; behind = behind_token close_bracket after rest more last r.behind }

-- ---- Array, Nullable

pub deep_array : (most : ℕ) (text : List ℕ) → ReadsInside most text None → ReadsBehind (codes "Array") most text None
deep_array most text reads ty more f t =
    let a = after_array ty (tokens_in text) more f t in
    let h : most < nesting a.item = reads a.item more a.fits a.tokens in
    let size : nesting ty ≡ suc (nesting a.item) = ap nesting a.is in
    omega (arith, h, size)

pub an_array : (most : ℕ) (text rest : List ℕ) (s : Shape) → ReadsInside most text (Some (s, rest)) → ReadsBehind (codes "Array") most text (Some (Arr s, rest))
an_array most text rest s reads ty more f t =
    let a = after_array ty (tokens_in text) more f t in
    let r = reads a.item more a.fits a.tokens in
    let size : nesting ty ≡ suc (nesting a.item) = ap nesting a.is in
    let w : nesting a.item ≤ most = r.within in
    record { within = omega (arith, w, size); spelled = subst (λ ty. Spells ty (Arr s)) (sym a.is) r.spelled; behind = r.behind }

pub deep_nullable : (most : ℕ) (text : List ℕ) → ReadsInside most text None → ReadsBehind (codes "Nullable") most text None
deep_nullable most text reads ty more f t =
    let a = after_nullable ty (tokens_in text) more f t in
    let h : most < nesting a.of = reads a.of more a.fits a.tokens in
    let size : nesting ty ≡ suc (nesting a.of) = ap nesting a.is in
    omega (arith, h, size)

pub a_nullable : (most : ℕ) (text rest : List ℕ) (s : Shape) → ReadsInside most text (Some (s, rest)) → ReadsBehind (codes "Nullable") most text (Some (Nullable s, rest))
a_nullable most text rest s reads ty more f t =
    let a = after_nullable ty (tokens_in text) more f t in
    let r = reads a.of more a.fits a.tokens in
    let size : nesting ty ≡ suc (nesting a.of) = ap nesting a.is in
    let w : nesting a.of ≤ most = r.within in
    record { within = omega (arith, w, size); spelled = subst (λ ty. Spells ty (Nullable s)) (sym a.is) r.spelled; behind = r.behind }

-- ---- Map

-- what is known of a map's key and its comma
pub unopened_map : (most : ℕ) (text : List ℕ) → Lacks text open_bracket → ReadsBehind (codes "Map") most text None
unopened_map most text h ty more f t = let a = after_map ty (tokens_in text) more f t in absurd (h _ a.tokens)

pub deep_key : (most : ℕ) (text first : List ℕ) → tokens_in text ≡ open_bracket ∷ tokens_in first → ReadsType most first None → ReadsBehind (codes "Map") most text None
deep_key most text first opened reads ty more f t =
    let a = after_map ty (tokens_in text) more f t in
    let h : most < nesting a.key = reads a.key _ a.key_fits (behind_token open_bracket text first _ opened a.tokens) in
    let size : nesting ty ≡ suc (max (nesting a.key) (nesting a.item)) = ap nesting a.is in
    let left = le-max_left (nesting a.key) (nesting a.item) in
    omega (arith, h, size, left)

pub undivided : (most : ℕ) (text first after : List ℕ) (k : Shape) → tokens_in text ≡ open_bracket ∷ tokens_in first → ReadsType most first (Some (k, after)) → Lacks after comma → ReadsBehind (codes "Map") most text None
undivided most text first after k opened reads lacks ty more f t =
    let a = after_map ty (tokens_in text) more f t in
    absurd (lacks _ (reads a.key _ a.key_fits (behind_token open_bracket text first _ opened a.tokens)).behind)

-- the key was read, and the comma behind it
pub record HasKey (most : ℕ) (text second : List ℕ) (k : Shape) : Type 0 where
  pub first : List ℕ
  pub after : List ℕ
  pub opened : tokens_in text ≡ open_bracket ∷ tokens_in first
  pub reads : ReadsType most first (Some (k, after))
  pub divided : tokens_in after ≡ comma ∷ tokens_in second

-- what stands behind the comma then
pub record AtItem (most : ℕ) (ty : Written) (second : List ℕ) (more : List Token) (k : Shape) : Type 0 where
  pub key : Written
  pub item : Written
  pub is : ty ≡ map_of key item
  pub fits : ShapeFits item
  pub key_within : nesting key ≤ most
  pub key_spelled : Spells key k
  pub tokens : tokens_in second ≡ tokens_of item ++ (close_bracket ∷ more)

at_item : (most : ℕ) (text second : List ℕ) (k : Shape) (ty : Written) (more : List Token) → HasKey most text second k → ShapeFits ty → word (codes "Map") ∷ tokens_in text ≡ tokens_of ty ++ more → AtItem most ty second more k
at_item most text second k ty more h f t =
    let a = after_map ty (tokens_in text) more f t in
    let r = h.reads a.key _ a.key_fits (behind_token open_bracket text h.first _ h.opened a.tokens) in
    record { key = a.key; item = a.item; is = a.is; fits = a.fits; key_within = r.within; key_spelled = r.spelled; tokens = behind_token comma h.after second _ h.divided r.behind }

pub deep_item : (most : ℕ) (text second : List ℕ) (k : Shape) → HasKey most text second k → ReadsType most second None → ReadsBehind (codes "Map") most text None
deep_item most text second k h reads ty more f t =
    let a = at_item most text second k ty more h f t in
    let deep : most < nesting a.item = reads a.item _ a.fits a.tokens in
    let size : nesting ty ≡ suc (max (nesting a.key) (nesting a.item)) = ap nesting a.is in
    let right = le-max_right (nesting a.key) (nesting a.item) in
    omega (arith, deep, size, right)

pub unclosed_map : (most : ℕ) (text second after : List ℕ) (k s : Shape) → HasKey most text second k → ReadsType most second (Some (s, after)) → Lacks after close_bracket → ReadsBehind (codes "Map") most text None
unclosed_map most text second after k s h reads lacks ty more f t =
    let a = at_item most text second k ty more h f t in
    absurd (lacks more (reads a.item _ a.fits a.tokens).behind)

pub a_map : (most : ℕ) (text second after rest : List ℕ) (k s : Shape) → HasKey most text second k → ReadsType most second (Some (s, after)) → tokens_in after ≡ close_bracket ∷ tokens_in rest → ReadsBehind (codes "Map") most text (Some (MapOf k s, rest))
a_map most text second after rest k s h reads closed ty more f t =
    let a = at_item most text second k ty more h f t in
    let r = reads a.item _ a.fits a.tokens in
    let size : nesting ty ≡ suc (max (nesting a.key) (nesting a.item)) = ap nesting a.is in
    let both : max (nesting a.key) (nesting a.item) ≤ most = max-le a.key_within r.within in
    record { within = omega (arith, both, size); spelled = subst (λ ty. Spells ty (MapOf k s)) (sym a.is) (a.key_spelled, r.spelled); behind = behind_token close_bracket after rest more closed r.behind }

-- ---- AggregateFunction

pub unopened_state : (most : ℕ) (text : List ℕ) → Lacks text open_bracket → ReadsBehind (codes "AggregateFunction") most text None
unopened_state most text h ty more f t = let a = after_state ty (tokens_in text) more f t in absurd (h _ a.tokens)

pub unnamed : (most : ℕ) (text inside : List ℕ) → tokens_in text ≡ open_bracket ∷ tokens_in inside → ((name : List ℕ) → Lacks inside (word name)) → ReadsBehind (codes "AggregateFunction") most text None
unnamed most text inside opened lacks ty more f t =
    let a = after_state ty (tokens_in text) more f t in
    absurd (lacks a.name _ (behind_token open_bracket text inside _ opened a.tokens))

-- the name was read
pub record HasName (text after name : List ℕ) : Type 0 where
  pub inside : List ℕ
  pub opened : tokens_in text ≡ open_bracket ∷ tokens_in inside
  pub named : tokens_in inside ≡ word name ∷ tokens_in after

pub record AtLiterals (ty : Written) (after name : List ℕ) (more : List Token) : Type 0 where
  pub literals : List Token
  pub types : WrittenTypes
  pub is : ty ≡ state name literals types
  pub fits : ShapeFits (state name literals types)
  pub tokens : tokens_in after ≡ brackets literals ++ (tokens_of_all types ++ more)

at_literals : (text after name : List ℕ) (ty : Written) (more : List Token) → HasName text after name → ShapeFits ty → word (codes "AggregateFunction") ∷ tokens_in text ≡ tokens_of ty ++ more → AtLiterals ty after name more
at_literals text after name ty more h f t =
    let a = after_state ty (tokens_in text) more f t in
    let inside = behind_token open_bracket text h.inside _ h.opened a.tokens in
    let both : word name ∷ tokens_in after ≡ word a.name ∷ (brackets a.literals ++ (tokens_of_all a.types ++ more)) = sym h.named ∙ inside in
    let same : a.name ≡ name = cc in
    record { literals = a.literals; types = a.types; is = a.is ∙ ap (λ n. state n a.literals a.types) same; fits = a.fits; tokens = cc }

pub no_literals : (most : ℕ) (text after name : List ℕ) → HasName text after name → ReadsLiterals after None → ReadsBehind (codes "AggregateFunction") most text None
no_literals most text after name h reads ty more f t =
    let a = at_literals text after name ty more h f t in
    absurd (reads a.literals a.types more a.fits.0 a.tokens)

pub deep_types : (most : ℕ) (text after name behind : List ℕ) (ls : List Literal) → HasName text after name → ReadsLiterals after (Some (ls, behind)) → ReadsTypes most behind None → ReadsBehind (codes "AggregateFunction") most text None
deep_types most text after name behind ls h reads inner ty more f t =
    let a = at_literals text after name ty more h f t in
    let l = reads a.literals a.types more a.fits.0 a.tokens in
    let deep : most < deepest a.types = inner a.types more a.fits.1 l.1 in
    let size : nesting ty ≡ suc (deepest a.types) = ap nesting a.is in
    omega (arith, deep, size)

pub a_state : (most : ℕ) (text after name behind rest : List ℕ) (ls : List Literal) (ss : List Shape) → HasName text after name → ReadsLiterals after (Some (ls, behind)) → ReadsTypes most behind (Some (ss, rest))
    → ReadsBehind (codes "AggregateFunction") most text (Some (State name ls (shapes ss), rest))
a_state most text after name behind rest ls ss h reads inner ty more f t =
    let a = at_literals text after name ty more h f t in
    let l = reads a.literals a.types more a.fits.0 a.tokens in
    let r = inner a.types more a.fits.1 l.1 in
    let size : nesting ty ≡ suc (deepest a.types) = ap nesting a.is in
    let w : deepest a.types ≤ most = r.within in
    record { within = omega (arith, w, size); spelled = subst (λ ty. Spells ty (State name ls (shapes ss))) (sym a.is) (refl, l.0, r.spelled); behind = r.behind }
