-- Masks, sets of conditions met, and events: there and back.
use Rattle.std.proofs.Common.{◌≡◌, ℕ, zero, suc, ◌+◌, ◌*◌, ◌/◌, ◌%◌, ◌^◌, ◌<◌, Bool, true, false, ◌||◌, List, [], ◌∷◌, ◌++◌, map, length, refl, sym, ap, ap₂, ◌∙◌, arith, pow-suc, pow_pos}
use Rattle.agg_terms.specs.Values.{Event, Value}
use Rattle.agg_meaning.specs.Events.{is_met, mets, bit, mask_of, bools, flag, event, event_row, either, falses, met_set}
use Rattle.agg_terms.specs.Trees.{is_one}
use Rattle.agg_terms.specs.Trees.{IsEvent}

bit_one : (k : ℕ) → k < 2 → bit (is_one k) ≡ k
bit_one zero l = refl
bit_one (suc zero) l = refl
bit_one (suc (suc k)) l = absurd (omega arith)

pub mask-bools : (n m : ℕ) → m < 2 ^ n → mask_of (bools n m) ≡ m
mask-bools zero m l = omega arith
mask-bools (suc n) m l =
    let p : 2 ^ suc n ≡ 2 ^ n * 2 = pow-suc 2 n in
    let h : m / 2 < 2 ^ n = omega arith in
    ap₂ (λ a b. a + 2 * b) (bit_one (m % 2) (omega arith)) (mask-bools n (m / 2) h) ∙ omega arith

pub bools-mask : (bs : List Bool) → bools (length bs) (mask_of bs) ≡ bs
bools-mask [] = refl
bools-mask (b ∷ bs) = ap₂ ◌∷◌ (low b) (ap (bools (length bs)) (high b) ∙ bools-mask bs)
  where
    low : (b : Bool) → is_one ((bit b + 2 * mask_of bs) % 2) ≡ b
    low true = let h : (1 + 2 * mask_of bs) % 2 ≡ 1 = omega arith in rw h
    low false = let h : (0 + 2 * mask_of bs) % 2 ≡ 0 = omega arith in rw h

    high : (b : Bool) → (bit b + 2 * mask_of bs) / 2 ≡ mask_of bs
    high true = omega arith
    high false = omega arith

pub mask_lt : (bs : List Bool) → mask_of bs < 2 ^ length bs
mask_lt [] = omega arith
mask_lt (b ∷ bs) = go b (mask_lt bs)
  where
    go : (b : Bool) → mask_of bs < 2 ^ length bs → bit b + 2 * mask_of bs < 2 ^ suc (length bs)
    go true h = omega (arith, pow-suc 2 (length bs), h)
    go false h = omega (arith, pow-suc 2 (length bs), h)

pub length-bools : (n m : ℕ) → length (bools n m) ≡ n
length-bools zero m = refl
length-bools (suc n) m = ap suc (length-bools n (m / 2))

pub length-mets : (n : ℕ) (r : List Value) → length (mets n r) ≡ n
length-mets zero r = refl
length-mets (suc n) [] = ap suc (length-mets n [])
length-mets (suc n) (v ∷ r) = ap suc (length-mets n r)

met_flag : (b : Bool) → is_met (flag b) ≡ b
met_flag true = refl
met_flag false = refl

pub mets-flag : (bs : List Bool) → mets (length bs) (map flag bs) ≡ bs
mets-flag [] = refl
mets-flag (b ∷ bs) = ap₂ ◌∷◌ (met_flag b) (mets-flag bs)

-- sets
or_assoc : (a b c : Bool) → (a || b) || c ≡ a || (b || c)
or_assoc true b c = refl
or_assoc false b c = refl

either_assoc : (zs bs cs : List Bool) → either (either zs bs) cs ≡ either zs (either bs cs)
either_assoc [] bs cs = refl
either_assoc (a ∷ zs) [] cs = refl
either_assoc (a ∷ zs) (b ∷ bs) [] = refl
either_assoc (a ∷ zs) (b ∷ bs) (c ∷ cs) = ap₂ ◌∷◌ (or_assoc a b c) (either_assoc zs bs cs)

either_falses : (bs : List Bool) → either (falses (length bs)) bs ≡ bs
either_falses [] = refl
either_falses (b ∷ bs) = ap (◌∷◌ b) (either_falses bs)

falses_either : (bs : List Bool) → either bs (falses (length bs)) ≡ bs
falses_either [] = refl
falses_either (b ∷ bs) = ap₂ ◌∷◌ (or_false b) (falses_either bs)
  where
    or_false : (b : Bool) → b || false ≡ b
    or_false true = refl
    or_false false = refl

length-falses : (n : ℕ) → length (falses n) ≡ n
length-falses zero = refl
length-falses (suc n) = ap suc (length-falses n)

length-either : (n : ℕ) (zs bs : List Bool) → length zs ≡ n → length bs ≡ n → length (either zs bs) ≡ n
length-either n [] bs e f = f
length-either n (a ∷ zs) [] e f = e
length-either zero (a ∷ zs) (b ∷ bs) e f = absurd (omega arith)
length-either (suc n) (a ∷ zs) (b ∷ bs) e f = ap suc (length-either n zs bs (omega arith) (omega arith))

pub length-met_set : (n : ℕ) (L : List (List Value)) → length (met_set n L) ≡ n
length-met_set n [] = length-falses n
length-met_set n (r ∷ L) = length-either n (mets n r) (met_set n L) (length-mets n r) (length-met_set n L)

pub met_set-append : (n : ℕ) (A B : List (List Value)) → met_set n (A ++ B) ≡ either (met_set n A) (met_set n B)
met_set-append n [] B = sym (ap (λ k. either (falses k) (met_set n B)) (sym (length-met_set n B)) ∙ either_falses (met_set n B))
met_set-append n (r ∷ A) B = ap (either (mets n r)) (met_set-append n A B) ∙ sym (either_assoc (mets n r) (met_set n A) (met_set n B))

pub mask_falses : (n : ℕ) → mask_of (falses n) ≡ 0
mask_falses zero = refl
mask_falses (suc n) = omega (arith, mask_falses n)

-- a set is read back from its mask
pub set_back : (n : ℕ) (L : List (List Value)) → bools n (mask_of (met_set n L)) ≡ met_set n L
set_back n L = ap (λ k. bools k (mask_of (met_set n L))) (sym (length-met_set n L)) ∙ bools-mask (met_set n L)

-- the set of the one row of a mask
pub row_set : (n m : ℕ) → m < 2 ^ n → mask_of (met_set n (map flag (bools n m) ∷ [])) ≡ m
row_set n m l = ap mask_of (ap (λ s. either s (falses n)) whole ∙ ap (λ k. either (bools n m) (falses k)) (sym (length-bools n m)) ∙ falses_either (bools n m)) ∙ mask-bools n m l
  where
    whole : mets n (map flag (bools n m)) ≡ bools n m
    whole = ap (λ k. mets k (map flag (bools n m))) (sym (length-bools n m)) ∙ mets-flag (bools n m)

pub event_back : (n : ℕ) (e : Event) → IsEvent n e → event n (event_row n e) ≡ e
event_back n e k = ap (λ m. record { time = e.time; mask = m }) (ap mask_of whole ∙ mask-bools n e.mask k.2)
  where
    whole : mets n (map flag (bools n e.mask)) ≡ bools n e.mask
    whole = ap (λ j. mets j (map flag (bools n e.mask))) (sym (length-bools n e.mask)) ∙ mets-flag (bools n e.mask)

pub event_back_blank : (n : ℕ) → (event n (event_row n (record { time = 0; mask = 0 }))).mask ≡ 0
event_back_blank n = ap mask_of whole ∙ mask-bools n 0 (pow_pos n)
  where
    whole : mets n (map flag (bools n 0)) ≡ bools n 0
    whole = ap (λ j. mets j (map flag (bools n 0))) (sym (length-bools n 0)) ∙ mets-flag (bools n 0)
