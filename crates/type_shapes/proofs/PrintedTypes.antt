-- Printed types are written types, with their shapes.
use Rattle.std.proofs.Common.{◌≡◌, ℕ, suc, max, Bool, true, false, ◌&&◌, List, [], ◌∷◌, ◌++◌, codes, Some, inl, inr, refl, sym, ap, subst, ◌∙◌, append_assoc}
use Rattle.std.specs.Prelude.{◌⊎◌}
use Rattle.std.specs.Char.{is_ascii_alphabetic}
use mir.Syntax.{Width, w8, w16, w32, w64}
use Rattle.agg_terms.specs.declared.words.LeafName.{LeafName}
use Rattle.agg_terms.specs.declared.words.LeafName.TheVariants as leaf
use Rattle.agg_terms.specs.declared.words.Suffix.{Suffix}
use Rattle.agg_terms.specs.declared.words.Suffix.TheVariants as suffix
use Rattle.agg_terms.specs.Chains.{Chain, Ty, Tys, no_tys, a_ty}
use Rattle.agg_terms.specs.Chains as terms
use Rattle.agg_terms.specs.Widths.{IsSignedWidth}
use Rattle.agg_typing.specs.Legal.{is_basic, function_of}
use Rattle.agg_typing.specs.Names.{function_text, suffix_text, suffixes_text}
use Rattle.line_tokens.specs.Tokens.{Token, word, open_bracket, close_bracket, comma, continues_name}
use Rattle.type_names.specs.Syntax.{tokens_in}
use Rattle.type_names.specs.TypeTexts.{WrittenType as Written, WrittenTypes as WrittenTypes, plain, array, map_of, nullable, state, none, and_one, is_plain_name, tokens_of, tokens_of_all, ShapeFits, ShapesFit, IsOneWord}
use Rattle.type_names.specs.TypeTexts as texts
use Rattle.type_texts.specs.ChainNames.{leaf_name, written_suffixes, chain_name}
use Rattle.type_texts.specs.ParamTexts.{params_of}
use Rattle.type_texts.specs.TypeNames.{brackets, chain_text, ty_text, tys_text}
use Rattle.type_shapes.specs.Shapes.{plain_shape, Spells, AllSpell, nesting, deepest}
use Rattle.type_shapes.specs.ReadsBack.{literals_of, shape_in, shapes_in, levels, most_levels, HasParts, HaveParts}
use Rattle.type_shapes.proofs.TokensBack.{Ends, AllContinue, AllContinue-append, name_first}
use Rattle.type_shapes.proofs.Printed.{RoundTrip, params_written, written_literals, brackets_written}

-- ---- names

abbrev all_go : List ℕ → Bool
all_go [] = true
all_go (b ∷ bs) = continues_name b && all_go bs

abbrev is_name : List ℕ → Bool
is_name [] = false
is_name (b ∷ bs) = is_ascii_alphabetic b && all_go bs

both : (a b : Bool) → (a && b) ≡ true → (a ≡ true) × (b ≡ true)
both true true e = (refl, refl)
both true false e = absurd cc
both false b e = absurd cc

all_go-sound : (bs : List ℕ) → all_go bs ≡ true → AllContinue bs
all_go-sound [] e = tt
all_go-sound (b ∷ bs) e = let h = both (continues_name b) (all_go bs) e in (h.0, all_go-sound bs h.1)

pub record IsName (text : List ℕ) : Type 0 where
  pub head : ℕ
  pub tail : List ℕ
  pub is : text ≡ head ∷ tail
  pub letter : is_ascii_alphabetic head ≡ true
  pub more : AllContinue tail

name_of : (text : List ℕ) → is_name text ≡ true → IsName text
name_of [] e = absurd cc
name_of (b ∷ bs) e = let h = both (is_ascii_alphabetic b) (all_go bs) e in record { head = b; tail = bs; is = refl; letter = h.0; more = all_go-sound bs h.1 }

function_is_name : (f : LeafName) → is_name (function_text f) ≡ true
function_is_name leaf.Count = refl
function_is_name leaf.Sum = refl
function_is_name leaf.Min = refl
function_is_name leaf.Max = refl
function_is_name leaf.ArgMin = refl
function_is_name leaf.ArgMax = refl
function_is_name leaf.BitAnd = refl
function_is_name leaf.BitOr = refl
function_is_name leaf.BitXor = refl
function_is_name leaf.GroupArray = refl
function_is_name leaf.UniqExact = refl
function_is_name leaf.QuantileExact = refl
function_is_name leaf.WindowFunnel = refl
function_is_name leaf.SequenceMatch = refl
function_is_name leaf.Retention = refl

suffix_goes : (s : Suffix) → all_go (suffix_text s) ≡ true
suffix_goes suffix.If = refl
suffix_goes suffix.Array = refl
suffix_goes suffix.MapOf = refl
suffix_goes suffix.ForEach = refl
suffix_goes suffix.OrNull = refl
suffix_goes suffix.OrDefault = refl
suffix_goes suffix.Distinct = refl
suffix_goes suffix.Resample = refl
suffix_goes suffix.State = refl
suffix_goes suffix.Merge = refl

suffixes_go : (ss : List Suffix) → AllContinue (suffixes_text ss)
suffixes_go [] = tt
suffixes_go (s ∷ ss) = AllContinue-append (suffix_text s) (suffixes_text ss) (all_go-sound (suffix_text s) (suffix_goes s)) (suffixes_go ss)

chain_has_name : (c : Chain) → IsName (chain_name c)
chain_has_name c =
    let f = name_of (function_text (leaf_name (function_of c))) (function_is_name (leaf_name (function_of c))) in
    let ss = suffixes_text (written_suffixes c) in
    record { head = f.head; tail = f.tail ++ ss; is = ap (λ t. t ++ ss) f.is; letter = f.letter; more = AllContinue-append f.tail ss f.more (suffixes_go (written_suffixes c)) }

name_read : (text rest : List ℕ) → IsName text → Ends rest → tokens_in (text ++ rest) ≡ word text ∷ tokens_in rest
name_read text rest n e = ap (λ t. tokens_in (t ++ rest)) n.is ∙ name_first n.head n.tail rest n.letter n.more e ∙ ap (λ t. word t ∷ tokens_in rest) (sym n.is)

-- ---- types

-- a printed type is this written one, which has the shape of the type
pub record IsPrinted (t : Ty) : Type 0 where
  pub written : Written
  pub fits : ShapeFits written
  pub spelled : Spells written (shape_in t)
  pub depth : nesting written ≡ levels t
  pub first : (rest : List ℕ) → Ends rest → tokens_in (ty_text t ++ rest) ≡ tokens_of written ++ tokens_in rest

pub record ArePrinted (ts : Tys) : Type 0 where
  pub written : WrittenTypes
  pub fit : ShapesFit written
  pub spelled : AllSpell written (shapes_in ts)
  pub depth : deepest written ≡ most_levels ts
  pub first : (rest : List ℕ) → tokens_in (tys_text ts ++ rest) ≡ tokens_of_all written ++ tokens_in rest

plain_printed : (t : Ty) (name : List ℕ) → ty_text t ≡ name → is_name name ≡ true → is_plain_name name ≡ true → plain_shape name ≡ Some (shape_in t) → levels t ≡ 1 → IsPrinted t
plain_printed t name text n p s l = record {
  written = plain name;
  fits = p;
  spelled = s;
  depth = sym l;
  first = λ rest e. ap (λ x. tokens_in (x ++ rest)) text ∙ name_read name rest (name_of name n) e;
}

whole_printed : (n : ℕ) → (n ≡ 8) ⊎ ((n ≡ 16) ⊎ ((n ≡ 32) ⊎ (n ≡ 64))) → IsPrinted (terms.Whole n)
whole_printed n (inl e) = subst (λ n. IsPrinted (terms.Whole n)) (sym e) (plain_printed (terms.Whole 8) (codes "UInt8") refl refl refl refl refl)
whole_printed n (inr (inl e)) = subst (λ n. IsPrinted (terms.Whole n)) (sym e) (plain_printed (terms.Whole 16) (codes "UInt16") refl refl refl refl refl)
whole_printed n (inr (inr (inl e))) = subst (λ n. IsPrinted (terms.Whole n)) (sym e) (plain_printed (terms.Whole 32) (codes "UInt32") refl refl refl refl refl)
whole_printed n (inr (inr (inr e))) = subst (λ n. IsPrinted (terms.Whole n)) (sym e) (plain_printed (terms.Whole 64) (codes "UInt64") refl refl refl refl refl)

signed_printed : (w : Width) → IsSignedWidth w → IsPrinted (terms.Signed w)
signed_printed w8 h = plain_printed (terms.Signed w8) (codes "Int8") refl refl refl refl refl
signed_printed w16 h = plain_printed (terms.Signed w16) (codes "Int16") refl refl refl refl refl
signed_printed w32 h = plain_printed (terms.Signed w32) (codes "Int32") refl refl refl refl refl
signed_printed w64 h = plain_printed (terms.Signed w64) (codes "Int64") refl refl refl refl refl
signed_printed w h = absurd h

-- what spells a type without parts has no parts
basic_is_plain : (k : Ty) (w : Written) → is_basic k ≡ true → Spells w (shape_in k) → IsOneWord w
basic_is_plain k (plain name) b s = tt
basic_is_plain (terms.Whole n) w b s = absurd s
basic_is_plain (terms.Signed v) w b s = absurd s
basic_is_plain terms.Str w b s = absurd s
basic_is_plain k w b s = absurd cc

-- a name and one part in brackets
bracketed : (name text rest : List ℕ) (tokens : List Token) → IsName name → ((rest : List ℕ) → Ends rest → tokens_in (text ++ rest) ≡ tokens ++ tokens_in rest)
    → tokens_in ((name ++ (40 ∷ (text ++ (41 ∷ [])))) ++ rest) ≡ word name ∷ open_bracket ∷ ((tokens ++ (close_bracket ∷ [])) ++ tokens_in rest)
bracketed name text rest tokens n reads =
    ap tokens_in (append_assoc name (40 ∷ (text ++ (41 ∷ []))) rest)
    ∙ name_read name (40 ∷ ((text ++ (41 ∷ [])) ++ rest)) n (refl, refl)
    ∙ ap (λ x. word name ∷ open_bracket ∷ tokens_in x) (append_assoc text (41 ∷ []) rest)
    ∙ ap (λ x. word name ∷ open_bracket ∷ x) (reads (41 ∷ rest) (refl, refl) ∙ sym (append_assoc tokens (close_bracket ∷ []) (tokens_in rest)))

map_read : (key text rest : List ℕ) (keys tokens : List Token) → ((rest : List ℕ) → Ends rest → tokens_in (key ++ rest) ≡ keys ++ tokens_in rest) → ((rest : List ℕ) → Ends rest → tokens_in (text ++ rest) ≡ tokens ++ tokens_in rest)
    → tokens_in ((codes "Map(" ++ (key ++ (codes ", " ++ (text ++ codes ")")))) ++ rest) ≡ word (codes "Map") ∷ open_bracket ∷ ((keys ++ (comma ∷ (tokens ++ (close_bracket ∷ [])))) ++ tokens_in rest)
map_read key text rest keys tokens reads_key reads =
    let tail = codes ", " ++ (text ++ codes ")") in
    name_read (codes "Map") (40 ∷ ((key ++ tail) ++ rest)) (name_of (codes "Map") refl) (refl, refl)
    ∙ ap (λ x. word (codes "Map") ∷ open_bracket ∷ x)
    (ap tokens_in (append_assoc key tail rest) ∙ reads_key (tail ++ rest) (refl, refl)
    ∙ ap (λ x. keys ++ (comma ∷ x)) (ap tokens_in (append_assoc text (codes ")") rest) ∙ reads (41 ∷ rest) (refl, refl) ∙ sym (append_assoc tokens (close_bracket ∷ []) (tokens_in rest)))
    ∙ sym (append_assoc keys (comma ∷ (tokens ++ (close_bracket ∷ []))) (tokens_in rest)))

tys_end : (ts : Tys) (rest : List ℕ) → Ends (tys_text ts ++ rest)
tys_end no_tys rest = (refl, refl)
tys_end (a_ty t ts) rest = (refl, refl)

call_end : (ps : List (List ℕ)) (rest : List ℕ) → Ends rest → Ends (brackets ps ++ rest)
call_end [] rest e = e
call_end (p ∷ ps) rest e = (refl, refl)

state_read : RoundTrip → (c : Chain) (ts : Tys) (toks : List Token) (rest : List ℕ) (more : List Token) → ((rest : List ℕ) → tokens_in (brackets (params_of c) ++ rest) ≡ texts.brackets toks ++ tokens_in rest) → ((rest : List ℕ) → tokens_in (tys_text ts ++ rest) ≡ more ++ tokens_in rest)
    → tokens_in ((codes "AggregateFunction(" ++ (chain_text c ++ tys_text ts)) ++ rest) ≡ word (codes "AggregateFunction") ∷ open_bracket ∷ word (chain_name c) ∷ ((texts.brackets toks ++ more) ++ tokens_in rest)
state_read law c ts toks rest more reads_call reads_types =
    let call = brackets (params_of c) in
    name_read (codes "AggregateFunction") (40 ∷ ((chain_text c ++ tys_text ts) ++ rest)) (name_of (codes "AggregateFunction") refl) (refl, refl)
    ∙ ap (λ x. word (codes "AggregateFunction") ∷ open_bracket ∷ x)
    (ap tokens_in (append_assoc (chain_text c) (tys_text ts) rest ∙ append_assoc (chain_name c) call (tys_text ts ++ rest))
    ∙ name_read (chain_name c) (call ++ (tys_text ts ++ rest)) (chain_has_name c) (call_end (params_of c) (tys_text ts ++ rest) (tys_end ts rest))
    ∙ ap (λ x. word (chain_name c) ∷ x) (reads_call (tys_text ts ++ rest) ∙ ap (λ x. texts.brackets toks ++ x) (reads_types rest) ∙ sym (append_assoc (texts.brackets toks) more (tokens_in rest))))

mutual
  pub type_printed : RoundTrip → (t : Ty) → HasParts t → IsPrinted t
  type_printed law (terms.Whole n) h = whole_printed n h
  type_printed law (terms.Signed w) h = signed_printed w h
  type_printed law terms.Str h = plain_printed terms.Str (codes "String") refl refl refl refl refl
  type_printed law (terms.Arr t) h = let p = type_printed law t h in record {
    written = array p.written;
    fits = p.fits;
    spelled = p.spelled;
    depth = ap suc p.depth;
    first = λ rest e. bracketed (codes "Array") (ty_text t) rest (tokens_of p.written) (name_of (codes "Array") refl) p.first;
  }
  type_printed law (terms.Nullable t) h = let p = type_printed law t h.1 in record {
    written = nullable p.written;
    fits = (basic_is_plain t p.written h.0 p.spelled, p.fits);
    spelled = p.spelled;
    depth = ap suc p.depth;
    first = λ rest e. bracketed (codes "Nullable") (ty_text t) rest (tokens_of p.written) (name_of (codes "Nullable") refl) p.first;
  }
  type_printed law (terms.MapTy k t) h = let q = type_printed law k h.1 in let p = type_printed law t h.2 in record {
    written = map_of q.written p.written;
    fits = (basic_is_plain k q.written h.0 q.spelled, q.fits, p.fits);
    spelled = (q.spelled, p.spelled);
    depth = ap (λ n. suc (max n (nesting p.written))) q.depth ∙ ap (λ n. suc (max (levels k) n)) p.depth;
    first = λ rest e. map_read (ty_text k) (ty_text t) rest (tokens_of q.written) (tokens_of p.written) q.first p.first;
  }
  type_printed law (terms.StateOf c ts) h =
      let ps = params_written law c h.0 in
      let ls = written_literals (params_of c) ps.0 (literals_of c) ps.1 in
      let p = types_printed law ts h.1 in record {
        written = state (chain_name c) ps.0 p.written;
        fits = (ls.0, p.fit);
        spelled = (refl, ls.1, p.spelled);
        depth = ap suc p.depth;
        first = λ rest e. state_read law c ts ps.0 rest (tokens_of_all p.written) (λ rest. brackets_written (params_of c) ps.0 (literals_of c) rest ps.1) p.first;
      }

  types_printed : RoundTrip → (ts : Tys) → HaveParts ts → ArePrinted ts
  types_printed law no_tys h = record { written = none; fit = tt; spelled = tt; depth = refl; first = λ rest. refl }
  types_printed law (a_ty t ts) h = let p = type_printed law t h.0 in let q = types_printed law ts h.1 in record {
    written = and_one p.written q.written;
    fit = (p.fits, q.fit);
    spelled = (p.spelled, q.spelled);
    depth = ap (λ n. max n (deepest q.written)) p.depth ∙ ap (λ n. max (levels t) n) q.depth;
    first = λ rest.
        ap (λ x. comma ∷ tokens_in x) (append_assoc (ty_text t) (tys_text ts) rest)
        ∙ ap (λ x. comma ∷ x) (p.first (tys_text ts ++ rest) (tys_end ts rest) ∙ ap (λ x. tokens_of p.written ++ x) (q.first rest) ∙ sym (append_assoc (tokens_of p.written) (tokens_of_all q.written) (tokens_in rest)));
  }
