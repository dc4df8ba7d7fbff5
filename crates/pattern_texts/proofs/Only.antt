-- What is spelled so is read, and what was read so far can be gone on with.
use Rattle.std.proofs.Common.{◌≡◌, ℕ, zero, suc, ◌+◌, ◌*◌, ◌/◌, ◌%◌, ◌^◌, ◌<◌, ◌≤◌, Bool, true, false, List, [], ◌∷◌, ◌++◌, length, map, Result, Ok, refl, ap, subst, ◌∙◌, append_assoc, arith}
use Rattle.std.specs.Fmt.{decimal}
use Rattle.std.proofs.lemmas.Bool.{le-leb, lt-ltb}
use Rattle.std.proofs.lemmas.List.{append-nil, length-map}
use Rattle.std.proofs.lemmas.Fmt.{decimal_by_steps}
use Rattle.first_fault.specs.Machine.{run, at_letter, later}
use Rattle.agg_terms.specs.Chains as terms
use Rattle.agg_terms.specs.Chains.{PatItem, Cond, Any, PatLink, Next, Gap, Time, Pattern}
use Rattle.agg_typing.specs.Legal.{is_cond}
use Rattle.value_types.specs.declared.pattern.Op.{Op}
use Rattle.value_types.specs.declared.pattern.Op.TheVariants as op
use Rattle.value_types.specs.Folds.{op_of}
use Rattle.pattern_texts.specs.declared.phase.Before.{Before}
use Rattle.pattern_texts.specs.declared.phase.Before.TheVariants as before
use Rattle.pattern_texts.specs.declared.phase.Phase.{Phase}
use Rattle.pattern_texts.specs.declared.phase.Phase.TheVariants as phase
use Rattle.pattern_texts.specs.declared.phase.Mark.{Mark}
use Rattle.pattern_texts.specs.declared.phase.Mark.TheVariants as mark
use Rattle.pattern_texts.specs.Texts.{gap_text, Join, next, gap, time, join_text, link_of, more_text, Written, written_text, written_pattern}
use Rattle.agg_typing.specs.PatternWords.{op_text, item_text}
use Rattle.pattern_texts.proofs.Fits.{ItemFits, MoreFits, Fits}
use Rattle.pattern_texts.specs.Machine.{mark_of, State, link_before, has_room, behind_gap, step_at, step_by, step, done, pattern, sign_op}
use Rattle.pattern_texts.proofs.Digits.{mark_digit}
use Rattle.pattern_texts.proofs.Found.{HoldsIn, Allowed, length_more}

abbrev pub from : Phase → List PatItem → List PatLink → State
from p items links = record { phase = p; items = items; links = links }

abbrev pub Reads : ℕ → Phase → List PatItem → List PatLink → List ℕ → Pattern → Type 0
Reads conditions p items links text v = run (step conditions) done (from p items links) text ≡ Ok v

-- what follows a time isn't a gap
abbrev IsFree : Before → Type 0
IsFree (before.Time o w) = ⊥
IsFree before.Start = Unit {0}
IsFree before.Gap = Unit {0}
IsFree (before.Item c) = Unit {0}

abbrev gapped : ℕ → Before → Before
gapped zero b = b
gapped (suc k) b = gapped k (behind_gap b)

gap_runs : (conditions k : ℕ) (b : Before) (items : List PatItem) (links : List PatLink) (text : List ℕ) (v : Pattern) → IsFree b → Reads conditions (phase.At (gapped k b)) items links text v → Reads conditions (phase.At b) items links (gap_text k ++ text) v
gap_runs conditions zero b items links text v f h = h
gap_runs conditions (suc k) before.Start items links text v f h = ap (λ r. later (later r)) (gap_runs conditions k before.Start items links text v tt h)
gap_runs conditions (suc k) before.Gap items links text v f h = ap (λ r. later (later r)) (gap_runs conditions k before.Gap items links text v tt h)
gap_runs conditions (suc k) (before.Item c) items links text v f h = ap (λ r. later (later r)) (gap_runs conditions k before.Gap items links text v tt h)
gap_runs conditions (suc k) (before.Time o w) items links text v f h = absurd f

-- a dot that is an item
dot_mark : (conditions : ℕ) (b : Before) (m : Mark) (items : List PatItem) (links : List PatLink) (read : State → Result Pattern ℕ) (v : Pattern) → has_room items ≡ true
    → at_letter read (step_at (before.Item false) m (items ++ Any ∷ []) (links ++ link_before b)) ≡ Ok v → at_letter read (step_by conditions (phase.Dot b) m items links) ≡ Ok v
dot_mark conditions b mark.Star items links read v room h = absurd cc
dot_mark conditions b m items links read v room h = rw room h

pub dot_runs : (conditions : ℕ) (b : Before) (items : List PatItem) (links : List PatLink) (text : List ℕ) (v : Pattern) → length items < 64 → Reads conditions (phase.At (before.Item false)) (items ++ Any ∷ []) (links ++ link_before b) text v → Reads conditions (phase.Dot b) items links text v
dot_runs conditions b items links [] v small h = rw (lt-ltb _ _ small) h
dot_runs conditions b items links (x ∷ text) v small h = dot_mark conditions b (mark_of x) items links (λ t. run (step conditions) done t text) v (lt-ltb _ _ small) h

-- a number of a condition
pub number_runs : (conditions : ℕ) → conditions ≤ 32 → (b : Before) (n : ℕ) (items : List PatItem) (links : List PatLink) (text : List ℕ) (v : Pattern) → 1 ≤ n → n ≤ conditions → Reads conditions (phase.Number b n) items links text v → Reads conditions (phase.Asked b) items links (decimal n ++ text) v
number_runs conditions few b n items links text v pos le h =
    decimal_by_steps (λ n ds. 1 ≤ n → n ≤ conditions → (text : List ℕ) → Reads conditions (phase.Number b n) items links text v → Reads conditions (phase.Asked b) items links (ds ++ text) v)
    (λ n lt pos le text h. rw (mark_digit n lt, le-leb 1 n pos, le-leb n conditions le, h) refl)
    (λ n ds ten more pos le text h.
    let q : n / 10 ≤ conditions = omega (arith, le) in
    let one : 1 ≤ n / 10 = omega (arith, ten) in
    let whole : n / 10 * 10 + n % 10 ≡ n = omega arith in
    let step : Reads conditions (phase.Number b (n / 10)) items links ((48 + n % 10) ∷ text) v = rw (mark_digit (n % 10) (omega arith), whole, le-leb n conditions le, h) refl in
    rw (append_assoc ds ((48 + n % 10) ∷ []) text) (more one q ((48 + n % 10) ∷ text) step))
    n (omega (arith, le, few)) pos le text h

-- a number of a time, behind a phase in which a digit begins it
pub amount_runs : (conditions : ℕ) (o : Op) (u : ℕ) (p : Phase) (items : List PatItem) (links : List PatLink) (text : List ℕ) (v : Pattern) → u < 2 ^ 64
    → ((d : ℕ) (text : List ℕ) → d < 10 → Reads conditions (phase.Amount o d) items links text v → Reads conditions p items links ((48 + d) ∷ text) v)
    → Reads conditions (phase.Amount o u) items links text v → Reads conditions p items links (decimal u ++ text) v
amount_runs conditions o u p items links text v small first h =
    decimal_by_steps (λ u ds. u < 2 ^ 64 → (text : List ℕ) → Reads conditions (phase.Amount o u) items links text v → Reads conditions p items links (ds ++ text) v)
    (λ u lt small text h. first u text lt h)
    (λ n ds ten more small text h.
    let q : n / 10 < 2 ^ 64 = omega (arith, small) in
    let one : 1 ≤ n / 10 = omega (arith, ten) in
    let whole : n / 10 * 10 + n % 10 ≡ n = omega arith in
    let step : Reads conditions (phase.Amount o (n / 10)) items links ((48 + n % 10) ∷ text) v = rw (mark_digit (n % 10) (omega arith), le-leb 1 (n / 10) one, whole, lt-ltb n (2 ^ 64) small, h) refl in
    rw (append_assoc ds ((48 + n % 10) ∷ []) text) (more q ((48 + n % 10) ∷ text) step))
    u small small text h

open_runs : (conditions : ℕ) (b : Before) (items : List PatItem) (links : List PatLink) (text : List ℕ) (v : Pattern) → length items < 64 → Reads conditions (phase.Open b) items links text v → Reads conditions (phase.At b) items links (40 ∷ text) v
open_runs conditions before.Start items links text v small h = rw (lt-ltb _ _ small, h) refl
open_runs conditions before.Gap items links text v small h = rw (lt-ltb _ _ small, h) refl
open_runs conditions (before.Item c) items links text v small h = rw (lt-ltb _ _ small, h) refl
open_runs conditions (before.Time o w) items links text v small h = rw (lt-ltb _ _ small, h) refl

dot_at : (conditions : ℕ) (b : Before) (items : List PatItem) (links : List PatLink) (text : List ℕ) (v : Pattern) → Allowed b Any → Reads conditions (phase.Dot b) items links text v → Reads conditions (phase.At b) items links (46 ∷ text) v
dot_at conditions before.Start items links text v a h = ap later h
dot_at conditions before.Gap items links text v a h = ap later h
dot_at conditions (before.Item c) items links text v a h = ap later h
dot_at conditions (before.Time o w) items links text v a h = absurd cc

pub item_runs : (conditions : ℕ) → conditions ≤ 32 → (b : Before) (item : PatItem) (items : List PatItem) (links : List PatLink) (text : List ℕ) (v : Pattern) → Allowed b item → ItemFits conditions item → length items < 64
    → Reads conditions (phase.At (before.Item (is_cond item))) (items ++ item ∷ []) (links ++ link_before b) text v → Reads conditions (phase.At b) items links (item_text item ++ text) v
item_runs conditions few b Any items links text v a f small h = dot_at conditions b items links text v a (dot_runs conditions b items links text v small h)
item_runs conditions few b (Cond n) items links text v a f small h =
    let asked : Reads conditions (phase.Asked b) items links ((decimal n ++ 41 ∷ []) ++ text) v = rw (append_assoc (decimal n) (41 ∷ []) text) (number_runs conditions few b n items links (41 ∷ text) v f.0 f.1 (ap later h)) in
    open_runs conditions b items links (63 ∷ ((decimal n ++ 41 ∷ []) ++ text)) v small (ap later asked)

op_runs : (conditions : ℕ) (o : Op) (items : List PatItem) (links : List PatLink) (text : List ℕ) (v : Pattern) → Reads conditions (phase.Compared o) items links text v
    → ((more : Bool) → o ≡ sign_op more → Reads conditions (phase.Sign more) items links text v) → Reads conditions phase.Timed items links (op_text (op_of o) ++ text) v
op_runs conditions op.Less items links text v h s = ap later (s false refl)
op_runs conditions op.Greater items links text v h s = ap later (s true refl)
op_runs conditions op.LessEq items links text v h s = ap (λ r. later (later r)) h
op_runs conditions op.GreaterEq items links text v h s = ap (λ r. later (later r)) h
op_runs conditions op.Equal items links text v h s = ap (λ r. later (later r)) h

sign_first : (conditions : ℕ) (o : Op) (more : Bool) → o ≡ sign_op more → (items : List PatItem) (links : List PatLink) (v : Pattern) (d : ℕ) (text : List ℕ) → d < 10 → Reads conditions (phase.Amount o d) items links text v → Reads conditions (phase.Sign more) items links ((48 + d) ∷ text) v
sign_first conditions o more e items links v d text lt h = rw (mark_digit d lt, ← e, h) refl

compared_first : (conditions : ℕ) (o : Op) (items : List PatItem) (links : List PatLink) (v : Pattern) (d : ℕ) (text : List ℕ) → d < 10 → Reads conditions (phase.Amount o d) items links text v → Reads conditions (phase.Compared o) items links ((48 + d) ∷ text) v
compared_first conditions o items links v d text lt h = rw (mark_digit d lt, h) refl

time_runs : (conditions : ℕ) (o : Op) (u : ℕ) (items : List PatItem) (links : List PatLink) (text : List ℕ) (v : Pattern) → u < 2 ^ 64 → length items < 64
    → Reads conditions (phase.At (before.Time o u)) items links text v → Reads conditions (phase.At (before.Item true)) items links (join_text (time (op_of o) u) ++ text) v
time_runs conditions o u items links text v small room h =
    let amount : Reads conditions (phase.Amount o u) items links (41 ∷ text) v = ap later h in
    let tee : Reads conditions phase.Timed items links (op_text (op_of o) ++ (decimal u ++ 41 ∷ text)) v =
    op_runs conditions o items links (decimal u ++ 41 ∷ text) v (amount_runs conditions o u (phase.Compared o) items links (41 ∷ text) v small (compared_first conditions o items links v) amount)
    (λ more e. amount_runs conditions o u (phase.Sign more) items links (41 ∷ text) v small (sign_first conditions o more e items links v) amount) in
    let whole : Reads conditions phase.Timed items links ((op_text (op_of o) ++ (decimal u ++ 41 ∷ [])) ++ text) v = rw (append_assoc (op_text (op_of o)) (decimal u ++ 41 ∷ []) text, append_assoc (decimal u) (41 ∷ []) text) tee in
    open_runs conditions (before.Item true) items links (63 ∷ 116 ∷ ((op_text (op_of o) ++ (decimal u ++ 41 ∷ [])) ++ text)) v room (ap (λ r. later (later r)) whole)

-- a trailing gap
trail_runs : (conditions : ℕ) (trail : ℕ) (c : Bool) (items : List PatItem) (links : List PatLink) → Reads conditions (phase.At (before.Item c)) items links (gap_text trail) (pattern items links)
trail_runs conditions trail c items links =
    rw (← append-nil (gap_text trail)) (gap_runs conditions trail (before.Item c) items links [] (pattern items links) tt (ends trail (before.Item c) tt (behind_end c)))
  where
    behind_end : (c : Bool) → Reads conditions (phase.At (before.Item c)) items links [] (pattern items links)
    behind_end c = refl

    gap_end : (trail : ℕ) → Reads conditions (phase.At (gapped trail before.Gap)) items links [] (pattern items links)
    gap_end zero = refl
    gap_end (suc trail) = gap_end trail

    ends : (trail : ℕ) (b : Before) → Unit {0} → Reads conditions (phase.At (before.Item c)) items links [] (pattern items links) → Reads conditions (phase.At (gapped trail (before.Item c))) items links [] (pattern items links)
    ends zero b u h = h
    ends (suc trail) b u h = gap_end trail

both : (x y : List PatItem) (z w : List PatLink) → x ≡ y → z ≡ w → pattern x z ≡ pattern y w
both x y z w e f = rw (e, f) refl

-- an item and what is behind it
part_runs : (conditions : ℕ) → conditions ≤ 32 → (b : Before) (l : PatLink) → link_before b ≡ l ∷ [] → (item : PatItem) (items ys : List PatItem) (links zs : List PatLink) (text : List ℕ) → Allowed b item → ItemFits conditions item → length items < 64
    → Reads conditions (phase.At (before.Item (is_cond item))) (items ++ item ∷ []) (links ++ l ∷ []) text (pattern ((items ++ item ∷ []) ++ ys) ((links ++ l ∷ []) ++ zs))
    → Reads conditions (phase.At b) items links (item_text item ++ text) (pattern (items ++ item ∷ ys) (links ++ l ∷ zs))
part_runs conditions few b l link item items ys links zs text a f small h =
    item_runs conditions few b item items links text (pattern (items ++ item ∷ ys) (links ++ l ∷ zs)) a f small
    (rw link (h ∙ ap Ok (both _ _ _ _ (append_assoc items (item ∷ []) ys) (append_assoc links (l ∷ []) zs))))

-- each comparison of the definitions is one of the code
op_named : (t : terms.Op) → (o : Op) × (op_of o ≡ t)
op_named terms.Below = (op.Less, refl)
op_named terms.BelowOrAt = (op.LessEq, refl)
op_named terms.At = (op.Equal, refl)
op_named terms.AtOrAbove = (op.GreaterEq, refl)
op_named terms.Above = (op.Greater, refl)

-- items, each behind its join
more_runs : (conditions : ℕ) → conditions ≤ 32 → (more : List (Join × PatItem)) (trail : ℕ) (c : Bool) (items : List PatItem) (links : List PatLink) → MoreFits conditions c more → length items + length more ≤ 64
    → Reads conditions (phase.At (before.Item c)) items links (more_text more trail) (pattern (items ++ map (λ p. p.1) more) (links ++ map (λ p. link_of p.0) more))
more_runs conditions few [] trail c items links fits count = rw (append-nil items, append-nil links) (trail_runs conditions trail c items links)
more_runs conditions few ((next, item) ∷ more) trail c items links fits count =
    part_runs conditions few (before.Item c) Next refl item items (map (λ p. p.1) more) links (map (λ p. link_of p.0) more) (more_text more trail) tt fits.1 (omega (arith, count))
    (more_runs conditions few more trail (is_cond item) (items ++ item ∷ []) (links ++ Next ∷ []) fits.2 (omega (arith, count, length_more items item)))
more_runs conditions few ((gap k, item) ∷ more) trail c items links fits count =
    let rest : Reads conditions (phase.At before.Gap) items links (item_text item ++ more_text more trail) (pattern (items ++ item ∷ map (λ p. p.1) more) (links ++ Gap ∷ map (λ p. link_of p.0) more)) =
    part_runs conditions few before.Gap Gap refl item items (map (λ p. p.1) more) links (map (λ p. link_of p.0) more) (more_text more trail) tt fits.1 (omega (arith, count))
    (more_runs conditions few more trail (is_cond item) (items ++ item ∷ []) (links ++ Gap ∷ []) fits.2 (omega (arith, count, length_more items item))) in
    gap_runs conditions (suc k) (before.Item c) items links (item_text item ++ more_text more trail) _ tt (still k rest)
  where
    still : (k : ℕ) → Reads conditions (phase.At before.Gap) items links (item_text item ++ more_text more trail) (pattern (items ++ item ∷ map (λ p. p.1) more) (links ++ Gap ∷ map (λ p. link_of p.0) more))
        → Reads conditions (phase.At (gapped k before.Gap)) items links (item_text item ++ more_text more trail) (pattern (items ++ item ∷ map (λ p. p.1) more) (links ++ Gap ∷ map (λ p. link_of p.0) more))
    still zero h = h
    still (suc k) h = still k h
more_runs conditions few ((time t u, item) ∷ more) trail true items links fits count =
    let named = op_named t in
    let later_items : List PatItem = map (λ p. p.1) more in
    let later_links : List PatLink = map (λ p. link_of p.0) more in
    subst (λ o. Reads conditions (phase.At (before.Item true)) items links (join_text (time o u) ++ (item_text item ++ more_text more trail)) (pattern (items ++ item ∷ later_items) (links ++ Time o u ∷ later_links))) named.1
    (time_runs conditions named.0 u items links (item_text item ++ more_text more trail) _ fits.0.0 (omega (arith, count))
    (part_runs conditions few (before.Time named.0 u) (Time (op_of named.0) u) refl item items later_items links later_links (more_text more trail) fits.0.2 fits.1 (omega (arith, count))
    (more_runs conditions few more trail (is_cond item) (items ++ item ∷ []) (links ++ Time (op_of named.0) u ∷ []) fits.2 (omega (arith, count, length_more items item)))))
more_runs conditions few ((time t u, item) ∷ more) trail false items links fits count = let e = fits.0.1 in absurd cc

-- what is spelled so is read
pub only : (conditions : ℕ) → conditions ≤ 32 → (w : Written) → Fits conditions w → Reads conditions (phase.At before.Start) [] [] (written_text w) (written_pattern w)
only conditions few w fits =
    gap_runs conditions w.lead before.Start [] [] (item_text w.first ++ more_text w.more w.trail) _ tt
    (still w.lead (item_runs conditions few before.Start w.first [] [] (more_text w.more w.trail) _ tt fits.first (omega arith)
    (more_runs conditions few w.more w.trail (is_cond w.first) (w.first ∷ []) [] fits.more (omega (arith, fits.count, length-map w.more (λ (p : Join × PatItem). p.1))))))
  where
    still : (k : ℕ) → Reads conditions (phase.At before.Start) [] [] (item_text w.first ++ more_text w.more w.trail) (written_pattern w) → Reads conditions (phase.At (gapped k before.Start)) [] [] (item_text w.first ++ more_text w.more w.trail) (written_pattern w)
    still zero h = h
    still (suc k) h = still k h

-- ---- every state can still succeed

abbrev Goes : ℕ → Phase → List PatItem → List PatLink → Type 0
Goes conditions p items links = (rest : List ℕ) × (v : Pattern) × Reads conditions p items links rest v

cond_goes : (conditions : ℕ) → conditions ≤ 32 → 1 ≤ conditions → (b : Before) (items : List PatItem) (links : List PatLink) → length items < 64 → Goes conditions (phase.Number b 1) items links × Goes conditions (phase.Asked b) items links × Goes conditions (phase.Open b) items links × Goes conditions (phase.At b) items links
cond_goes conditions few some b items links small =
    let v : Pattern = pattern (items ++ Cond 1 ∷ []) (links ++ link_before b) in
    let n : Reads conditions (phase.Number b 1) items links (41 ∷ []) v = refl in
    let a : Reads conditions (phase.Asked b) items links (decimal 1 ++ 41 ∷ []) v = number_runs conditions few b 1 items links (41 ∷ []) v (omega arith) some n in
    let o : Reads conditions (phase.Open b) items links (63 ∷ (decimal 1 ++ 41 ∷ [])) v = ap later a in
    ((41 ∷ [], v, n), (decimal 1 ++ 41 ∷ [], v, a), (63 ∷ (decimal 1 ++ 41 ∷ []), v, o), (40 ∷ 63 ∷ (decimal 1 ++ 41 ∷ []), v, open_runs conditions b items links (63 ∷ (decimal 1 ++ 41 ∷ [])) v small o))

time_goes : (conditions : ℕ) → conditions ≤ 32 → 1 ≤ conditions → (o : Op) (w : ℕ) (items : List PatItem) (links : List PatLink) → length items < 64 → Goes conditions (phase.Amount o w) items links
time_goes conditions few some o w items links small =
    let r = (cond_goes conditions few some (before.Time o w) items links small).3 in
    (41 ∷ r.0, r.1, ap later r.2)

pub goes_on : (conditions : ℕ) → conditions ≤ 32 → 1 ≤ conditions → (p : Phase) (items : List PatItem) (links : List PatLink) → HoldsIn conditions p (length items) → Goes conditions p items links
goes_on conditions few some (phase.At before.Start) items links h = (cond_goes conditions few some before.Start items links h).3
goes_on conditions few some (phase.At before.Gap) items links h = ([], pattern items links, refl)
goes_on conditions few some (phase.At (before.Item c)) items links h = ([], pattern items links, refl)
goes_on conditions few some (phase.At (before.Time o w)) items links h = (cond_goes conditions few some (before.Time o w) items links h.0).3
goes_on conditions few some (phase.Dot before.Start) items links h = ([], (pattern (items ++ Any ∷ []) (links ++ [])), dot_runs conditions before.Start items links [] (pattern (items ++ Any ∷ []) (links ++ [])) h refl)
goes_on conditions few some (phase.Dot before.Gap) items links h = (42 ∷ [], pattern items links, refl)
goes_on conditions few some (phase.Dot (before.Item c)) items links h = (42 ∷ [], pattern items links, refl)
goes_on conditions few some (phase.Dot (before.Time o w)) items links h = absurd h
goes_on conditions few some (phase.Open b) items links h = (cond_goes conditions few some b items links h.0).2
goes_on conditions few some (phase.Asked b) items links h = (cond_goes conditions few some b items links h.0).1
goes_on conditions few some (phase.Number b n) items links h = (41 ∷ [], pattern (items ++ Cond n ∷ []) (links ++ link_before b), refl)
goes_on conditions few some phase.Timed items links h = let r = time_goes conditions few some op.Less 0 items links h in (60 ∷ 48 ∷ r.0, r.1, ap (λ r. later (later r)) r.2)
goes_on conditions few some (phase.Sign more) items links h = let r = time_goes conditions few some (sign_op more) 0 items links h in (48 ∷ r.0, r.1, ap later r.2)
goes_on conditions few some phase.HalfEqual items links h = let r = time_goes conditions few some op.Equal 0 items links h in (61 ∷ 48 ∷ r.0, r.1, ap (λ r. later (later r)) r.2)
goes_on conditions few some (phase.Compared o) items links h = let r = time_goes conditions few some o 0 items links h in (48 ∷ r.0, r.1, ap later r.2)
goes_on conditions few some (phase.Amount o w) items links h = time_goes conditions few some o w items links h.0
