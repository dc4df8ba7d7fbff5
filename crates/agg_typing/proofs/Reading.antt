-- What is spelled is read back, so no name spells two chains; what is read was spelled.
use Rattle.std.proofs.Common.{◌≡◌, refl, ap, sym, ◌∙◌, subst, ℕ, zero, suc, ◌≤◌, Bool, true, false, cond, nat_eq, List, [], ◌∷◌, ◌++◌, length, drop, Option, Some, None, Result, Ok, append_assoc, arith, length-append, append-nil}
use Rattle.std.proofs.lemmas.Slice.Eq.{starts_is}
use Rattle.std.proofs.lemmas.Bool.Decides.{Decides-eqb}
use Rattle.std.specs.List.{starts_with}
use Rattle.agg_terms.specs.declared.words.LeafName.{LeafName}
use Rattle.agg_terms.specs.declared.words.Suffix.{Suffix}
use Rattle.agg_typing.specs.Names.{function_text, suffix_text, suffixes_text, spelled, all_functions, all_suffixes, word_of, and_more, read_suffixes, Shape, ended, read_after, read_name}

pub function-read : (f : LeafName) (rest : List ℕ) → word_of function_text all_functions (function_text f ++ rest) ≡ Some (f, rest)
function-read LeafName.Count rest = refl
function-read LeafName.Sum rest = refl
function-read LeafName.Min rest = refl
function-read LeafName.Max rest = refl
function-read LeafName.ArgMin rest = refl
function-read LeafName.ArgMax rest = refl
function-read LeafName.BitAnd rest = refl
function-read LeafName.BitOr rest = refl
function-read LeafName.BitXor rest = refl
function-read LeafName.GroupArray rest = refl
function-read LeafName.UniqExact rest = refl
function-read LeafName.QuantileExact rest = refl
function-read LeafName.WindowFunnel rest = refl
function-read LeafName.SequenceMatch rest = refl
function-read LeafName.Retention rest = refl

pub suffix-read : (s : Suffix) (rest : List ℕ) → word_of suffix_text all_suffixes (suffix_text s ++ rest) ≡ Some (s, rest)
suffix-read Suffix.If rest = refl
suffix-read Suffix.Array rest = refl
suffix-read Suffix.MapOf rest = refl
suffix-read Suffix.ForEach rest = refl
suffix-read Suffix.OrNull rest = refl
suffix-read Suffix.OrDefault rest = refl
suffix-read Suffix.Distinct rest = refl
suffix-read Suffix.Resample rest = refl
suffix-read Suffix.State rest = refl
suffix-read Suffix.Merge rest = refl

-- no more suffix can be read
abbrev pub IsStuck : List ℕ → Type 0
IsStuck rest = word_of suffix_text all_suffixes rest ≡ None

pub suffixes-read : (n : ℕ) (ss : List Suffix) (rest : List ℕ) → length ss ≤ n → IsStuck rest →
    read_suffixes n (suffixes_text ss ++ rest) ≡ (ss, rest)
suffixes-read zero [] rest h stuck = refl
suffixes-read (suc n) [] rest h stuck = rw stuck
suffixes-read zero (s ∷ ss) rest h stuck = absurd (omega arith)
suffixes-read (suc n) (s ∷ ss) rest h stuck =
    let e : word_of suffix_text all_suffixes ((suffix_text s ++ suffixes_text ss) ++ rest) ≡ Some (s, suffixes_text ss ++ rest) =
    rw append_assoc (suffix-read s (suffixes_text ss ++ rest)) in
    let less : length ss ≤ n = omega arith in
    let more : read_suffixes n (suffixes_text ss ++ rest) ≡ (ss, rest) = suffixes-read n ss rest less stuck in
    rw (e, more)

suffix-long : (s : Suffix) → 1 ≤ length (suffix_text s)
suffix-long Suffix.If = omega arith
suffix-long Suffix.Array = omega arith
suffix-long Suffix.MapOf = omega arith
suffix-long Suffix.ForEach = omega arith
suffix-long Suffix.OrNull = omega arith
suffix-long Suffix.OrDefault = omega arith
suffix-long Suffix.Distinct = omega arith
suffix-long Suffix.Resample = omega arith
suffix-long Suffix.State = omega arith
suffix-long Suffix.Merge = omega arith

suffixes-long : (ss : List Suffix) → length ss ≤ length (suffixes_text ss)
suffixes-long [] = omega arith
suffixes-long (s ∷ ss) =
    rw length-append (omega (arith, suffix-long s, suffixes-long ss))

-- the function and the suffixes of a text that goes on with what no suffix begins
pub read-on : (f : LeafName) (ss : List Suffix) (rest : List ℕ) → IsStuck rest → read_name (spelled f ss ++ rest) ≡ ended f (ss, rest)
read-on f ss rest stuck =
    let e : word_of function_text all_functions ((function_text f ++ suffixes_text ss) ++ rest) ≡ Some (f, suffixes_text ss ++ rest) =
    rw append_assoc (function-read f (suffixes_text ss ++ rest)) in
    let long : length ss ≤ length ((function_text f ++ suffixes_text ss) ++ rest) =
    rw (length-append, length-append) (omega (arith, suffixes-long ss)) in
    let more : read_suffixes (length ((function_text f ++ suffixes_text ss) ++ rest)) (suffixes_text ss ++ rest) ≡ (ss, rest) =
    suffixes-read (length ((function_text f ++ suffixes_text ss) ++ rest)) ss rest long stuck in
    rw (e, more)

pub read-spelled : (f : LeafName) (ss : List Suffix) → read_name (spelled f ss) ≡ Ok (record { leaf = f; suffixes = ss })
read-spelled f ss =
    let whole : spelled f ss ++ [] ≡ spelled f ss = append-nil (spelled f ss) in
    subst (λ (name : List ℕ). read_name name ≡ Ok (record { leaf = f; suffixes = ss })) whole (read-on f ss [] refl)

-- no name spells two chains
pub spelled-once : (f g : LeafName) (ss ts : List Suffix) → spelled f ss ≡ spelled g ts → (f ≡ g) × (ss ≡ ts)
spelled-once f g ss ts e =
    let R : Type 0 = Result Shape ℕ in
    let a : R = Ok (record { leaf = f; suffixes = ss }) in
    let b : R = Ok (record { leaf = g; suffixes = ts }) in
    let one : a ≡ b = sym (read-spelled f ss) ∙ ap read_name e ∙ read-spelled g ts in
    let same : record { leaf = f; suffixes = ss } ≡ record { leaf = g; suffixes = ts } = cc one in
    (ap (λ (s : Shape). s.leaf) same, ap (λ (s : Shape). s.suffixes) same)

-- a word that is read begins the text
pub word-begins : {X : Type 0} (text_of : X → List ℕ) (xs : List X) (text : List ℕ) (x : X) (rest : List ℕ) →
    word_of text_of xs text ≡ Some (x, rest) → text ≡ text_of x ++ rest
word-begins text_of [] text x rest e = cc e
word-begins {X = X} text_of (y ∷ ys) text x rest e =
    let begins = (starts_is Decides-eqb text (text_of y) (starts_with nat_eq text (text_of y)) refl).0 in
    cases (word-begins text_of ys text x rest) (starts_with nat_eq text (text_of y)) begins e
  where
    cases : (word_of text_of ys text ≡ Some (x, rest) → text ≡ text_of x ++ rest) → (b : Bool) → (b ≡ true → text ≡ text_of y ++ drop (length (text_of y)) text) →
        cond b (Some (y, drop (length (text_of y)) text)) (word_of text_of ys text) ≡ Some (x, rest) → text ≡ text_of x ++ rest
    cases next true h k =
        let here : X × List ℕ = (y, drop (length (text_of y)) text) in
        let there : X × List ℕ = (x, rest) in
        let both : here ≡ there = cc k in
        let first : y ≡ x = ap (λ p. p.0) both in
        let second : drop (length (text_of y)) text ≡ rest = ap (λ p. p.1) both in
        h refl ∙ ap (λ t. text_of y ++ t) second ∙ ap (λ z. text_of z ++ rest) first
    cases next false h k = next k

pub suffixes-begin : (n : ℕ) (text : List ℕ) → text ≡ suffixes_text (read_suffixes n text).0 ++ (read_suffixes n text).1
suffixes-begin zero text = refl
suffixes-begin (suc n) text = cases (suffixes-begin n) (word_of suffix_text all_suffixes text) refl
  where
    cases : ((t : List ℕ) → t ≡ suffixes_text (read_suffixes n t).0 ++ (read_suffixes n t).1) → (o : Option (Suffix × List ℕ)) → word_of suffix_text all_suffixes text ≡ o →
        text ≡ suffixes_text (and_more text (read_suffixes n) o).0 ++ (and_more text (read_suffixes n) o).1
    cases next None e = refl
    cases next (Some p) e =
        word-begins suffix_text all_suffixes text p.0 p.1 e
        ∙ ap (λ t. suffix_text p.0 ++ t) (next p.1)
        ∙ sym (append_assoc (suffix_text p.0) (suffixes_text (read_suffixes n p.1).0) (read_suffixes n p.1).1)

pub read-is-spelled : (name : List ℕ) (shape : Shape) → read_name name ≡ Ok shape → name ≡ spelled shape.leaf shape.suffixes
read-is-spelled name shape e = cases (word_of function_text all_functions name) refl e
  where
    ends : (f : LeafName) (text : List ℕ) (p : List Suffix × List ℕ) → text ≡ suffixes_text p.0 ++ p.1 → ended f p ≡ Ok shape →
        function_text f ++ text ≡ spelled shape.leaf shape.suffixes
    ends f text (ss, []) h k =
        let there : Shape = record { leaf = f; suffixes = ss } in
        let same : there ≡ shape = cc k in
        ap (λ t. function_text f ++ t) (h ∙ append-nil (suffixes_text ss)) ∙ ap (λ (s : Shape). spelled s.leaf s.suffixes) same
    ends f text (ss, b ∷ bs) h k = cc k

    cases : (o : Option (LeafName × List ℕ)) → word_of function_text all_functions name ≡ o → read_after (length name) o ≡ Ok shape →
        name ≡ spelled shape.leaf shape.suffixes
    cases None w k = cc k
    cases (Some p) w k =
        word-begins function_text all_functions name p.0 p.1 w
        ∙ ends p.0 p.1 (read_suffixes (length name) p.1) (suffixes-begin (length name) p.1) k
