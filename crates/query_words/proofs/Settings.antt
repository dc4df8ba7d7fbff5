-- Options that are read one by one come to what all of them do.
use Rattle.std.proofs.Common.{◌≡◌, ℕ, zero, suc, ◌+◌, ◌≤◌, ◌<◌, Bool, true, false, not, ◌&&◌, ◌||◌, cond, List, [], ◌∷◌, length, map, take, drop, ◌-◌, get_or, Option, None, Some, eqb, ap, sym, subst, ◌∙◌, refl, arith, Bor}
use Rattle.std.specs.Prelude.{codes, String, string_bytes, option_map, if◌then◌else◌}
use Rattle.std.specs.Global.{Global}
use Rattle.std.specs.List.{after_first, before_first, filter, list_all, list_any, position_or_len}
use Rattle.std.specs.Str.{bytes_eq}
use Rattle.std.proofs.lemmas.Slice.Eq.{bytes_eq-Decides}
use Rattle.query_words.specs.Words.{Setting, at_most_once, both, is_equals, is_known, number_between, options_of, settings_of, texts_of, values_of}
use Rattle.query_words.specs.proving.Steps.{given_behind, once_behind, once_more, options_behind, with_setting}
use Rattle.query_words.specs.declared.options.Options.{Options}

-- Where a word is split.

there_by : (t : Bool) (bs : List ℕ) → (position_or_len is_equals bs < length bs → list_any is_equals bs ≡ true) → cond (not t) (1 + position_or_len is_equals bs) 0 < suc (length bs) → (t || list_any is_equals bs) ≡ true
there_by true bs more h = refl
there_by false bs more h = more (omega (arith, h))

pub there : (bs : List ℕ) → position_or_len is_equals bs < length bs → list_any is_equals bs ≡ true
there [] h = absurd (omega arith)
there (b ∷ bs) h = there_by (eqb b 61) bs (there bs) (omega (arith, h))

absent_by : (t : Bool) (bs : List ℕ) → (position_or_len is_equals bs ≡ length bs → list_any is_equals bs ≡ false) → cond (not t) (1 + position_or_len is_equals bs) 0 ≡ suc (length bs) → (t || list_any is_equals bs) ≡ false
absent_by true bs more h = absurd (omega (arith, h))
absent_by false bs more h = more (omega (arith, h))

pub absent : (bs : List ℕ) → position_or_len is_equals bs ≡ length bs → list_any is_equals bs ≡ false
absent [] h = refl
absent (b ∷ bs) h = absent_by (eqb b 61) bs (absent bs) (omega (arith, h))

-- what a slice pattern leaves behind the first word
take_rest : (xs : List (String Global)) → take (length xs - 1) (drop 1 xs) ≡ drop 1 xs
take_rest [] = refl
take_rest (x ∷ xs) = let long : length (x ∷ xs) - 1 ≡ length xs = omega arith in ap (λ n. take n xs) long ∙ take_all xs
  where
    take_all : (xs : List (String Global)) → take (length xs) xs ≡ xs
    take_all [] = refl
    take_all (x ∷ xs) = ap (◌∷◌ x) (take_all xs)

-- The first option of words.

one_word : (word : List ℕ) (after : List (List ℕ)) → list_any is_equals word ≡ true
    → settings_of (word ∷ after) ≡ option_map (λ more. (before_first is_equals word, after_first is_equals word) ∷ more) (settings_of after)
one_word word [] h = rw h refl
one_word word (next ∷ words) h = rw h refl

pub setting_in_one : (word text name value : List ℕ) (after : List (List ℕ)) → text ≡ word → list_any is_equals text ≡ true → name ≡ before_first is_equals text → value ≡ after_first is_equals text
    → settings_of (word ∷ after) ≡ option_map (λ more. (name, value) ∷ more) (settings_of after)
setting_in_one word text name value after same h first second =
    ap (λ (w : List ℕ). settings_of (w ∷ after)) (sym same) ∙ one_word text after h
    ∙ ap (λ (n : List ℕ). option_map (λ (more : List Setting). (n, after_first is_equals text) ∷ more) (settings_of after)) (sym first)
    ∙ ap (λ (v : List ℕ). option_map (λ (more : List Setting). (name, v) ∷ more) (settings_of after)) (sym second)

pub setting_without : (word : List ℕ) (after : List (String Global)) → list_any is_equals word ≡ false → length after ≡ 0 → settings_of (word ∷ texts_of after) ≡ None
setting_without word [] h none = rw h refl
setting_without word (s ∷ after) h none = absurd (omega (arith, none))

pub setting_in_two : (word text name value : List ℕ) (after : List (String Global)) (s : String Global) → text ≡ word → list_any is_equals text ≡ false → 1 ≤ length after → s ≡ get_or after 0 s
    → name ≡ word → value ≡ string_bytes s → settings_of (word ∷ texts_of after) ≡ option_map (λ more. (name, value) ∷ more) (settings_of (texts_of (take (length after - 1) (drop 1 after))))
setting_in_two word text name value [] s same h some is first second = absurd (omega (arith, some))
setting_in_two word text name value (u ∷ after) s same h some is first second =
    let none : list_any is_equals word ≡ false = ap (list_any is_equals) (sym same) ∙ h in
    let two : settings_of (word ∷ string_bytes u ∷ texts_of after) ≡ option_map (λ more. (word, string_bytes u) ∷ more) (settings_of (texts_of after)) = rw none refl in
    two ∙ ap (λ (n : List ℕ). option_map (λ (more : List Setting). (n, string_bytes u) ∷ more) (settings_of (texts_of after))) (sym first)
    ∙ ap (λ (v : List ℕ). option_map (λ (more : List Setting). (name, v) ∷ more) (settings_of (texts_of after))) (sym (second ∙ ap string_bytes is))
    ∙ ap (λ (rest : List (String Global)). option_map (λ (more : List Setting). (name, value) ∷ more) (settings_of (texts_of rest))) (sym (take_rest (u ∷ after)))

pub ruleset setting_laws = (setting_in_one, setting_without, setting_in_two)

-- One option more.

abbrev on_some : {X Y : Type 0} → (X → Option Y) → Option X → Option Y
on_some f None = None
on_some f (Some x) = f x

one_left : (F : Option (Option ℕ) → Option Options) → F None ≡ None → (r : Option ℕ) → F (option_map (λ n. Some n) r) ≡ on_some (λ n. F (Some (Some n))) r
one_left F none None = none
one_left F none (Some n) = refl

more_left : (F : Option (Option ℕ) → Option Options) → F None ≡ None → (r : Option ℕ) → F None ≡ on_some (λ n. F None) r
more_left F none None = none
more_left F none (Some n) = refl

once : (most : ℕ) (F : Option (Option ℕ) → Option Options) → F None ≡ None → (before : Option ℕ) (value : List ℕ) (values : List (List ℕ))
    → F (once_behind most before (value ∷ values)) ≡ on_some (λ n. F (once_behind most (Some n) values)) (once_more most before value)
once most F none (Some m) value values = none
once most F none None value [] = one_left F none (number_between 1 most value)
once most F none None value (other ∷ more) = more_left F none (number_between 1 most value)

both_none : (one : Option (Option ℕ)) → both one None ≡ None
both_none None = refl
both_none (Some one) = refl

if_none : (t : Bool) (x : Option Options) → x ≡ None → (if t then x else None) ≡ None
if_none true x h = h
if_none false x h = refl

on_map : {X : Type 0} (f : X → Options) (settings : List Setting) (r : Option X) → on_some (λ o. given_behind o settings) (option_map f r) ≡ on_some (λ x. given_behind (f x) settings) r
on_map f settings None = refl
on_map f settings (Some x) = refl

apart : (name : List ℕ) → bytes_eq name (codes "--threads") ≡ true → bytes_eq name (codes "--pieces") ≡ false
apart name h = ap (λ n. bytes_eq n (codes "--pieces")) ((bytes_eq-Decides name (codes "--threads")).0 h)

step_by : (o : Options) (name value : List ℕ) (more : List Setting) (t p : Bool) → bytes_eq name (codes "--threads") ≡ t → bytes_eq name (codes "--pieces") ≡ p
    → given_behind o ((name, value) ∷ more) ≡ on_some (λ q. given_behind q more) (with_setting o name value)
step_by o name value more true p is other =
    let pieces = once_behind 64 o.pieces (values_of (codes "--pieces") more) in
    let f : ℕ → Options = λ n. record { threads = Some n; pieces = o.pieces } in
    rw (is, apart name is)
    (once 32 (λ x. if list_all is_known more then both x pieces else None) (if_none (list_all is_known more) (both None pieces) refl) o.threads value (values_of (codes "--threads") more)
    ∙ sym (on_map f more (once_more 32 o.threads value)))
step_by o name value more false true is other =
    let threads = once_behind 32 o.threads (values_of (codes "--threads") more) in
    let f : ℕ → Options = λ n. record { threads = o.threads; pieces = Some n } in
    rw (is, other)
    (once 64 (λ x. if list_all is_known more then both threads x else None) (if_none (list_all is_known more) (both threads None) (both_none threads)) o.pieces value (values_of (codes "--pieces") more)
    ∙ sym (on_map f more (once_more 64 o.pieces value)))
step_by o name value more false false is other = rw (is, other) refl

step : (o : Options) (name value : List ℕ) (more : List Setting) → given_behind o ((name, value) ∷ more) ≡ on_some (λ q. given_behind q more) (with_setting o name value)
step o name value more = step_by o name value more (bytes_eq name (codes "--threads")) (bytes_eq name (codes "--pieces")) refl refl

-- What a loop over options keeps.

abbrev behind : Options → Option (List Setting) → Option Options
behind o r = elim r [
  | None ↦ None
  | Some settings ↦ given_behind o settings
]

none_of : (o : Options) (name value : List ℕ) (r : Option (List Setting)) → with_setting o name value ≡ None
    → behind o (option_map (λ more. (name, value) ∷ more) r) ≡ None
none_of o name value None h = refl
none_of o name value (Some more) h = step o name value more ∙ ap (on_some (λ q. given_behind q more)) h

next_of : (o p : Options) (name value : List ℕ) (r : Option (List Setting)) → with_setting o name value ≡ Some p
    → behind o (option_map (λ more. (name, value) ∷ more) r) ≡ behind p r
next_of o p name value None h = refl
next_of o p name value (Some more) h = step o name value more ∙ ap (on_some (λ q. given_behind q more)) h

first_of_left : (left : List (String Global)) (s : String Global) → 1 ≤ length left → s ≡ get_or left 0 s → texts_of left ≡ string_bytes s ∷ texts_of (drop 1 left)
first_of_left [] s some is = absurd (omega (arith, some))
first_of_left (u ∷ left) s some is = ap (λ v. string_bytes v ∷ texts_of left) (sym is)

-- the next option can't stand there
pub stops : (o : Options) (name value : List ℕ) (left all : List (String Global)) (s : String Global) (rest : List (List ℕ)) (w : Option Options) → 1 ≤ length left → s ≡ get_or left 0 s
    → settings_of (string_bytes s ∷ texts_of (take (length left - 1) (drop 1 left))) ≡ option_map (λ more. (name, value) ∷ more) (settings_of rest) → w ≡ with_setting o name value → w ≡ None
    → options_behind o (texts_of left) ≡ options_of (texts_of all) → None ≡ options_of (texts_of all)
stops o name value left all s rest w some is split with bad kept =
    sym (none_of o name value (settings_of rest) (sym with ∙ bad)) ∙ ap (behind o) (sym split)
    ∙ ap (λ (words : List (String Global)). options_behind o (string_bytes s ∷ texts_of words)) (take_rest left) ∙ ap (options_behind o) (sym (first_of_left left s some is)) ∙ kept

-- or is one of those that were given
pub goes_on : (o p : Options) (name value : List ℕ) (left all : List (String Global)) (s : String Global) (rest : List (List ℕ)) (w : Option Options) → 1 ≤ length left → s ≡ get_or left 0 s
    → settings_of (string_bytes s ∷ texts_of (take (length left - 1) (drop 1 left))) ≡ option_map (λ more. (name, value) ∷ more) (settings_of rest) → w ≡ with_setting o name value → w ≡ Some p
    → options_behind o (texts_of left) ≡ options_of (texts_of all) → options_behind p rest ≡ options_of (texts_of all)
goes_on o p name value left all s rest w some is split with good kept =
    sym (next_of o p name value (settings_of rest) (sym with ∙ good)) ∙ ap (behind o) (sym split)
    ∙ ap (λ (words : List (String Global)). options_behind o (string_bytes s ∷ texts_of words)) (take_rest left) ∙ ap (options_behind o) (sym (first_of_left left s some is)) ∙ kept

differs_by : {P : Type 0} (b : Bool) → (b ≡ true → P) → (P → ⊥) → b ≡ false
differs_by true h n = absurd (n (h refl))
differs_by false h n = refl

pub differs : (xs ys : List ℕ) → (xs ≡ ys → ⊥) → bytes_eq xs ys ≡ false
differs xs ys n = differs_by (bytes_eq xs ys) (bytes_eq-Decides xs ys).0 n
