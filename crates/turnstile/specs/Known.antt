-- What a pass knows, and how it changes where passes are split off and taken in.
use Rattle.std.specs.Prelude.{◌≡◌, ◌≢◌, ◌⊎◌, ℕ, ◌+◌, ◌-◌, ◌^◌, ◌≤◌, List, [], ◌∷◌, ◌++◌, map, length, Option, Some, Bool, true, false, nat_lt}
use mathlib.Core.List.{IsPrefix}
use Rattle.agg_terms.specs.Lists.{Among, Apart}
use Rattle.history_core.specs.declared.entry.Entry.{Entry}
use Rattle.history_core.specs.History.{entries_of}

-- A pass knows its number, how many turns it may still take, its own entries, a beginning of the history, and the basis of the value.
-- The root, whose number is 0, also knows how many passes were made, how many of them haven't joined, and the number and the entries of each that has
pub record Known (G : Type 0) : Type 0 where
  pub number : ℕ
  pub quota : ℕ
  pub mine : List Entry
  pub seen : List Entry
  pub basis : Option G
  pub made : ℕ
  pub unjoined : ℕ
  pub kept : List (ℕ × List Entry)

-- the root at the start
abbrev pub first_known : {G : Type 0} → G → Known G
first_known basis = record { number = 0; quota = 2 ^ 62 - 1; mine = []; seen = []; basis = Some basis; made = 0; unjoined = 0; kept = [] }

-- the root once it has given a part of its quota to a new pass, and that pass
abbrev pub after_split : {G : Type 0} → ℕ → Known G → Known G
after_split quota root = record root { quota = root.quota - quota; made = root.made + 1; unjoined = root.unjoined + 1 }

abbrev pub new_pass : {G : Type 0} → ℕ → Known G → Known G
new_pass quota root = record { number = root.made + 1; quota = quota; mine = []; seen = root.seen; basis = root.basis; made = 0; unjoined = 0; kept = [] }

abbrev pub choose : {A : Type 0} → Bool → A → A → A
choose true a b = a
choose false a b = b

-- of two lists the longer one, and the other
abbrev pub longer : List Entry → List Entry → List Entry
longer xs ys = choose (nat_lt (length xs) (length ys)) ys xs

abbrev pub shorter : List Entry → List Entry → List Entry
shorter xs ys = choose (nat_lt (length xs) (length ys)) xs ys

-- the root once it has taken a pass in
abbrev pub after_join : {G : Type 0} → Known G → Known G → Known G
after_join root pass = record root { seen = longer root.seen pass.seen; unjoined = root.unjoined - 1; kept = root.kept ++ (pass.number, pass.mine) ∷ [] }

-- one of two lists begins the other, which is zs
abbrev pub IsLonger : List Entry → List Entry → List Entry → Type 0
IsLonger xs ys zs = (IsPrefix ys xs × (zs ≡ xs)) ⊎ (IsPrefix xs ys × (zs ≡ ys))

-- the numbers that the root keeps
abbrev pub numbers : List (ℕ × List Entry) → List ℕ
numbers kept = map (λ (p : ℕ × List Entry). p.0) kept

-- What the root knows once each pass has joined
pub record Settled {G : Type 0} (root : Known G) : Type 0 where
  -- its own entries, and those of each number that it keeps, are the entries of that number in what it has seen
  pub own : root.mine ≡ entries_of root.number root.seen
  pub joined : (p : ℕ × List Entry) → Among p root.kept → p.1 ≡ entries_of p.0 root.seen
  -- there are no others
  pub others : (n : ℕ) → n ≢ root.number → ¬ Among n (numbers root.kept) → entries_of n root.seen ≡ []
  -- it keeps each number that was made, and none twice
  pub once : Apart (numbers root.kept)
  pub all : (n : ℕ) → 1 ≤ n → n ≤ root.made → Among n (numbers root.kept)
