-- Lines of a text by their places.
use Rattle.std.proofs.Common.{◌≡◌, refl, sym, ap, subst, ◌∙◌, ◌⊎◌, inl, inr, ℕ, zero, suc, ◌+◌, ◌-◌, ◌≤◌, ◌<◌, min, List, [], ◌∷◌, ◌++◌, length, map, take, drop, slice_range, Some, arith, length-drop, length-take-le}
use Rattle.std.proofs.lemmas.List.{drop-drop, length-map, take_min}
use Rattle.std.proofs.lemmas.List.Folds.{drop_split}
use Rattle.std.proofs.Math.Nat.{eq-or-lt_of_le}
use Rattle.std.proofs.Math.Seq.{take-append-add}
use Rattle.std.proofs.lemmas.Grind.{common_steps}
use Rattle.tsv_text.specs.Lines.{lines_of}
use Rattle.script_text.specs.Lines.{TextLine, end_of, first_of, lines_at, place_behind, placed, Rows, rows_behind, rows_in}
use Rattle.script_text.specs.proving.Placing.{IsBehindRows}
use Rattle.line_reader.proofs.Lines.{lines_of-nil}
use Rattle.script_text.proofs.Cuts.{IsCut, cut}

drop_min : (n : ℕ) (xs : List ℕ) → drop (min n (length xs)) xs ≡ drop n xs
drop_min n xs = grind (arith, common_steps)

rest_at : (text : List ℕ) (at n : ℕ) → drop (min (at + n + 1) (length text)) text ≡ drop (suc n) (drop at text)
rest_at text at n = let e : at + n + 1 ≡ at + suc n = omega arith in drop_min (at + n + 1) text ∙ ap (λ k. drop k text) e ∙ sym (drop-drop (suc n) at text)

range_split : (text : List ℕ) (a b c : ℕ) → a ≤ b → b ≤ c → c ≤ length text → slice_range text a c ≡ slice_range text a b ++ slice_range text b c
range_split text a b c ab bc within =
    let len = length-drop a text in
    let whole : length (slice_range text a b) ≡ b - a = length-take-le (b - a) (drop a text) (omega (arith, within, bc, len)) in
    let e : c - a ≡ length (slice_range text a b) + (c - b) = omega (arith, ab, bc, whole) in
    ap (λ (xs : List ℕ). take (c - a) xs) (drop_split text a b ab) ∙ ap (λ k. take k (slice_range text a b ++ drop b text)) e
    ∙ take-append-add (slice_range text a b) (drop b text) (c - b)

range_min : (text : List ℕ) (at n : ℕ) → at < length text → slice_range text at (min (at + n + 1) (length text)) ≡ take (suc n) (drop at text)
range_min text at n lt =
    let len = length-drop at text in
    let e : min (at + n + 1) (length text) - at ≡ min (suc n) (length (drop at text)) = omega (arith, lt, len) in
    ap (λ k. take k (drop at text)) e ∙ take_min (suc n) (drop at text)

none_behind : (text : List ℕ) (at n end : ℕ) → at < length text → end ≤ length text → n < length (drop at text) ⊎ (slice_range text (min (at + n + 1) (length text)) end ≡ [])
none_behind text at n end lt within = grind (arith, common_steps)

-- The first line behind a place, and the place behind it.
pub record IsLineAt (text : List ℕ) (at : ℕ) (line : List ℕ) (behind : ℕ) : Type 0 where
  pub lines : lines_at text at ≡ record { bytes = line; behind = behind } ∷ lines_at text behind
  pub short : length line ≤ length text
  pub further : at < behind
  pub within : behind ≤ length text
  pub front : (end : ℕ) → behind ≤ end → end ≤ length text → lines_of (slice_range text at end) ≡ line ∷ lines_of (slice_range text behind end)

module _ (text : List ℕ) (at : ℕ) (lt : at < length text) where
  front_at : (h : IsCut (drop at text)) (end : ℕ) → place_behind (length text) at h.line ≤ end → end ≤ length text
      → lines_of (slice_range text at end) ≡ h.line ∷ lines_of (slice_range text (place_behind (length text) at h.line) end)
  front_at h end le within =
      ap lines_of (range_split text at (place_behind (length text) at h.line) end (omega (arith, lt)) le within ∙ ap (λ (xs : List ℕ). xs ++ slice_range text (place_behind (length text) at h.line) end) (range_min text at (length h.line) lt))
      ∙ h.front (slice_range text (place_behind (length text) at h.line) end) (none_behind text at (length h.line) end lt within)

  cut_at : (h : IsCut (drop at text)) → IsLineAt text at h.line (place_behind (length text) at h.line)
  cut_at h =
      let len = length-drop at text in
      let b = place_behind (length text) at h.line in
      let first : TextLine = record { bytes = h.line; behind = b } in
      record {
        lines = ap (λ (xs : List (List ℕ)). placed (length text) at xs) h.whole ∙ ap (λ (xs : List (List ℕ)). first ∷ placed (length text) b xs) (sym h.rest ∙ ap lines_of (sym (rest_at text at (length h.line))));
        short = (let s = h.short in omega (arith, s, len));
        further = omega (arith, lt);
        within = omega arith;
        front = front_at h;
      }

  head_same : (x y : List ℕ) (xs ys : List (List ℕ)) → x ∷ xs ≡ y ∷ ys → x ≡ y
  head_same x y xs ys e = cc

  pub line_at : (line : List ℕ) (more : List (List ℕ)) → lines_of (drop at text) ≡ line ∷ more → IsLineAt text at line (place_behind (length text) at line)
  line_at line more e =
      let len = length-drop at text in
      let h = cut (drop at text) (omega (arith, len, lt)) in
      subst (λ (l : List ℕ). IsLineAt text at l (place_behind (length text) at l)) (head_same h.line line h.more more (sym h.whole ∙ e)) (cut_at h)

-- ---- several lines

-- The place behind so many of these lines, which stand from a place on.
pub record IsBehind (text : List ℕ) (at count : ℕ) (lines : List TextLine) : Type 0 where
  pub rest : lines_at text (end_of at (take count lines)) ≡ drop count lines
  pub seen : lines_of (slice_range text at (end_of at (take count lines))) ≡ map (λ (line : TextLine). line.bytes) (take count lines)
  pub far : at + count ≤ end_of at (take count lines)
  pub within : end_of at (take count lines) ≤ length text

none_taken : (text : List ℕ) (at : ℕ) → at ≤ length text → IsBehind text at 0 (lines_at text at)
none_taken text at le = record {
  rest = refl;
  seen = (let e : at - at ≡ 0 = omega arith in ap (λ k. lines_of (take k (drop at text))) e ∙ lines_of-nil);
  far = omega arith;
  within = le;
}

one_taken : (text : List ℕ) (at b count : ℕ) (line : List ℕ) (more : List TextLine) → IsLineAt text at line b → IsBehind text b count more → IsBehind text at (suc count) (record { bytes = line; behind = b } ∷ more)
one_taken text at b count line more h k =
    let further = h.further in
    let far = k.far in
    record {
      rest = k.rest;
      seen = h.front (end_of b (take count more)) (omega (arith, far)) k.within ∙ ap (λ (xs : List (List ℕ)). line ∷ xs) k.seen;
      far = omega (arith, further, far);
      within = k.within;
    }

pub no_lines : (text : List ℕ) (at : ℕ) → length text ≤ at → lines_at text at ≡ []
no_lines text at past =
    let e : drop at text ≡ [] = grind (arith, common_steps) in
    ap (λ (xs : List ℕ). placed (length text) at (lines_of xs)) e ∙ ap (placed (length text) at) lines_of-nil

count_none : (count at : ℕ) (text : List ℕ) → length text ≤ at → suc count ≤ length (lines_at text at) → ⊥
count_none count at text past some = let e : length (lines_at text at) ≡ 0 = ap length (no_lines text at past) in omega (arith, e, some)

one_behind : (text : List ℕ) (count at : ℕ) → (at ≡ length text) ⊎ (at < length text) → suc count ≤ length (lines_at text at)
    → ((b : ℕ) → b ≤ length text → count ≤ length (lines_at text b) → IsBehind text b count (lines_at text b)) → IsBehind text at (suc count) (lines_at text at)
one_behind text count at (inl e) some further = absurd (count_none count at text (omega (arith, e)) some)
one_behind text count at (inr lt) some further =
    let len = length-drop at text in
    let h = cut (drop at text) (omega (arith, len, lt)) in
    let b = place_behind (length text) at h.line in
    let l : IsLineAt text at h.line b = cut_at text at lt h in
    let more : length (lines_at text at) ≡ suc (length (lines_at text b)) = ap length l.lines in
    subst (IsBehind text at (suc count)) (sym l.lines) (one_taken text at b count h.line (lines_at text b) l (further b l.within (omega (arith, more, some))))

pub all_behind : (text : List ℕ) (count at : ℕ) → at ≤ length text → count ≤ length (lines_at text at) → IsBehind text at count (lines_at text at)
all_behind text zero at le some = none_taken text at le
all_behind text (suc count) at le some = one_behind text count at (eq-or-lt_of_le le) some (λ b. all_behind text count b)

-- One line more behind so many.
pub record IsNext (at count : ℕ) (lines : List TextLine) (line : TextLine) (more : List TextLine) : Type 0 where
  pub some : suc count ≤ length lines
  pub end : end_of at (take (suc count) lines) ≡ line.behind
  pub rest : drop (suc count) lines ≡ more

pub next_line : (at count : ℕ) (lines : List TextLine) (line : TextLine) (more : List TextLine) → drop count lines ≡ line ∷ more → IsNext at count lines line more
next_line at zero [] line more e = absurd cc
next_line at (suc count) [] line more e = absurd cc
next_line at zero (l ∷ lines) line more e =
    let one : l ≡ line = cc in
    let rest : lines ≡ more = cc in
    record { some = omega arith; end = ap (λ (x : TextLine). x.behind) one; rest = rest }
next_line at (suc count) (l ∷ lines) line more e =
    let h = next_line l.behind count lines line more e in
    record { some = (let s = h.some in omega (arith, s)); end = h.end; rest = h.rest }

nil_of : (xs : List ℕ) → length xs ≡ 0 → xs ≡ []
nil_of [] e = refl
nil_of (x ∷ xs) e = absurd (omega (arith, e))

pub empty_first : (text : List ℕ) → length text ≡ 0 → text ≡ first_of (lines_at text 0)
empty_first text e = nil_of text e ∙ sym (ap first_of (no_lines text 0 (omega (arith, e))))

pub empty_rest : (text : List ℕ) → length text ≡ 0 → lines_at text 0 ≡ drop 1 (lines_at text 0)
empty_rest text e = let none = no_lines text 0 (omega (arith, e)) in none ∙ sym (ap (drop 1) none)

-- ---- lines that are passed one by one

-- What was passed of so many lines from a place on, where so many are left.
pub record IsPassed (text : List ℕ) (at count left to : ℕ) : Type 0 where
  pub few : left ≤ count
  pub some : count - left ≤ length (lines_at text at)
  pub end : to ≡ end_of at (take (count - left) (lines_at text at))
  pub rest : lines_at text to ≡ drop (count - left) (lines_at text at)
  pub within : to ≤ length text

pub pass_none : (text : List ℕ) (at count : ℕ) → at ≤ length text → IsPassed text at count count at
pass_none text at count le =
    let e : 0 ≡ count - count = omega arith in
    record {
      few = omega arith;
      some = omega arith;
      end = ap (λ k. end_of at (take k (lines_at text at))) e;
      rest = ap (λ k. drop k (lines_at text at)) e;
      within = le;
    }

pub pass_one : (text : List ℕ) (at count left to behind : ℕ) (line : List ℕ) → IsPassed text at count left to → 0 < left
    → lines_at text to ≡ record { bytes = line; behind = behind } ∷ lines_at text behind → behind ≤ length text → IsPassed text at count (left - 1) behind
pass_one text at count left to behind line h some first within =
    let few = h.few in
    let next = next_line at (count - left) (lines_at text at) (record { bytes = line; behind = behind }) (lines_at text behind) (sym h.rest ∙ first) in
    let e : suc (count - left) ≡ count - (left - 1) = omega (arith, few, some) in
    record {
      few = omega (arith, few);
      some = (let s = next.some in omega (arith, e, s));
      end = sym next.end ∙ ap (λ k. end_of at (take k (lines_at text at))) e;
      rest = sym next.rest ∙ ap (λ k. drop k (lines_at text at)) e;
      within = within;
    }

pub pass_ends : (text : List ℕ) (at count left to : ℕ) → IsPassed text at count left to → 0 < left → to ≡ length text → length (lines_at text at) < count
pass_ends text at count left to h some e =
    let few = h.few in
    let none : drop (count - left) (lines_at text at) ≡ [] = sym h.rest ∙ no_lines text to (omega (arith, e)) in
    let zero_left : length (drop (count - left) (lines_at text at)) ≡ 0 = ap length none in
    let len = length-drop (count - left) (lines_at text at) in
    omega (arith, few, some, zero_left, len)

pub all_passed : (text : List ℕ) (at count left to : ℕ) → at ≤ length text → IsPassed text at count left to → left ≡ 0 → IsBehindRows text at count (Some to)
all_passed text at count left to le h e =
    let k : count - left ≡ count = omega (arith, e) in
    let s = h.some in
    let some : count ≤ length (lines_at text at) = omega (arith, k, s) in
    let b = all_behind text count at le some in
    let end : to ≡ end_of at (take count (lines_at text at)) = h.end ∙ ap (λ n. end_of at (take n (lines_at text at))) k in
    let far = b.far in (
      some,
      h.rest ∙ ap (λ n. drop n (lines_at text at)) k,
      ap (λ n. rows_in text at n count) end ∙ ap (λ (lines : List (List ℕ)). (let rows : Rows = record { from = at; to = end_of at (take count (lines_at text at)); count = count; lines = lines } in rows)) b.seen,
      omega (arith, end, far),
      h.within,
    )

-- ---- as many lines as are wanted

pub as_many : (text : List ℕ) (at to count : ℕ) → count ≤ length (lines_at text at) → rows_in text at to count ≡ rows_behind at count (lines_at text at)
    → length (lines_of (slice_range text at to)) ≡ count
as_many text at to count some same =
    ap (λ (rows : Rows). length rows.lines) same ∙ length-map (take count (lines_at text at)) (λ (line : TextLine). line.bytes) ∙ length-take-le count (lines_at text at) some
