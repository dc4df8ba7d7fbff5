-- Words that begin a text, looked for in a list.
use Rattle.std.proofs.Common.{◌≡◌, sym, ◌∙◌, ap, ℕ, ◌+◌, ◌<◌, Bool, true, false, nat_eq, List, [], ◌∷◌, ◌++◌, length, get_or, drop, None, Result, Ok, Err, arith, add-one, append_assoc, append-nil, length-append, ◌-◌, eqb}
use Rattle.std.specs.List.{starts_with}
use Rattle.std.proofs.lemmas.Slice.Eq.{starts_is}
use Rattle.std.proofs.lemmas.Bool.Decides.{Decides-eqb}
use Rattle.std.proofs.lemmas.Bool.{eqb-true}
use Rattle.std.proofs.Math.Seq.{drop-cons}
use Rattle.agg_terms.specs.declared.words.LeafName.{LeafName}
use Rattle.agg_terms.specs.declared.words.Suffix.{Suffix}
use Rattle.agg_typing.specs.Names.{word_of, spelled, function_text, suffix_text, suffixes_text, all_suffixes, Shape, read_name}
use Rattle.agg_typing.proofs.Reading.{read-on, read-spelled}

pub begins : (s p : List ℕ) (r : Bool) → r ≡ starts_with nat_eq s p → r ≡ true → s ≡ p ++ drop (length p) s
begins s p r e h = (starts_is Decides-eqb s p r e).0 h

pub word-skip : {X : Type 0} (text_of : X → List ℕ) (xs : List X) (text : List ℕ) (i : ℕ) (d : X) (r : Bool) → i < length xs →
    r ≡ starts_with nat_eq text (text_of (get_or xs i d)) → r ≡ false →
    word_of text_of (drop i xs) text ≡ word_of text_of (drop (i + 1) xs) text
word-skip text_of xs text i d r h e f =
    let no : starts_with nat_eq text (text_of (get_or xs i d)) ≡ false = sym e ∙ f in
    rw (drop-cons xs i d, no, add-one)

suffixes_text-snoc : (ss : List Suffix) (s : Suffix) → suffixes_text (ss ++ s ∷ []) ≡ suffixes_text ss ++ suffix_text s
suffixes_text-snoc [] s = append-nil (suffix_text s)
suffixes_text-snoc (z ∷ zs) s =
    ap (λ t. suffix_text z ++ t) (suffixes_text-snoc zs s) ∙ sym (append_assoc (suffix_text z) (suffixes_text zs) (suffix_text s))

-- one more suffix is read
pub one_more : (name : List ℕ) (f : LeafName) (ss more : List Suffix) (rest : List ℕ) (s : Suffix) (after : List ℕ) → name ≡ spelled f ss ++ rest →
    rest ≡ suffix_text s ++ after → more ≡ ss ++ s ∷ [] → name ≡ spelled f more ++ after
one_more name f ss more rest s after h k m =
    let a : spelled f (ss ++ s ∷ []) ≡ spelled f ss ++ suffix_text s =
    ap (λ t. function_text f ++ t) (suffixes_text-snoc ss s) ∙ sym (append_assoc (function_text f) (suffixes_text ss) (suffix_text s)) in
    h ∙ ap (λ t. spelled f ss ++ t) k ∙ sym (append_assoc (spelled f ss) (suffix_text s) after) ∙ ap (λ t. t ++ after) (sym a)
    ∙ ap (λ z. spelled f z ++ after) (sym m)

-- no more can be read
pub stopped : (name : List ℕ) (f : LeafName) (ss : List Suffix) (rest : List ℕ) (r : Bool) → name ≡ spelled f ss ++ rest →
    word_of suffix_text all_suffixes rest ≡ None → r ≡ eqb (length rest) 0 → r ≡ false → read_name name ≡ Err (length name - length rest)
stopped name f ss [] r h k e n = cc (e, n)
stopped name f ss (b ∷ bs) r h k e n =
    let long : length name ≡ length (spelled f ss) + length (b ∷ bs) = ap length h ∙ length-append (spelled f ss) (b ∷ bs) in
    let at : length (spelled f ss) ≡ length name - length (b ∷ bs) = omega arith in
    ap read_name h ∙ read-on f ss (b ∷ bs) k ∙ ap (λ (i : ℕ). let r : Result Shape ℕ = Err i in r) at

pub ended_whole : (name : List ℕ) (f : LeafName) (ss : List Suffix) (rest : List ℕ) (r : Bool) → name ≡ spelled f ss ++ rest →
    r ≡ eqb (length rest) 0 → r ≡ true → read_name name ≡ Ok (record { leaf = f; suffixes = ss })
ended_whole name f ss [] r h e n = ap read_name (h ∙ append-nil (spelled f ss)) ∙ read-spelled f ss
ended_whole name f ss (b ∷ bs) r h e n =
    let z : length (b ∷ bs) ≡ 0 = eqb-true (length (b ∷ bs)) 0 (sym e ∙ n) in absurd (omega arith)
