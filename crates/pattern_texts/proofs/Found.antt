-- What a state that was reached says of the rest: so what is read is spelled so.
use Rattle.std.proofs.Common.{◌≡◌, ℕ, suc, ◌+◌, ◌*◌, ◌^◌, ◌<◌, ◌≤◌, Bool, true, false, cond, List, [], ◌∷◌, ◌++◌, length, map, Option, Some, None, Ok, refl, sym, ap, subst, ◌∙◌, append_assoc, arith, inl, inr, ◌⊎◌, nat_lt, nat_le, ◌&&◌}
use Rattle.std.specs.Fmt.{decimal}
use Rattle.std.proofs.lemmas.Bool.{leb-true, ltb-true, and_parts}
use Rattle.std.proofs.lemmas.List.{append-nil, length-append}
use Rattle.std.proofs.lemmas.Fmt.{decimal_digit}
use Rattle.first_fault.specs.Machine.{run}
use Rattle.first_fault.proofs.Machines.{letter_ok, end_ok}
use Rattle.agg_terms.specs.Chains.{PatItem, Cond, Any, PatLink, Next, Gap, Time, Pattern}
use Rattle.agg_typing.specs.Legal.{is_cond}
use Rattle.value_types.specs.declared.pattern.Op.{Op}
use Rattle.value_types.specs.declared.pattern.Op.TheVariants as op
use Rattle.value_types.specs.Folds.{op_of}
use Rattle.pattern_texts.specs.declared.phase.Before.{Before}
use Rattle.pattern_texts.specs.declared.phase.Before.TheVariants as before
use Rattle.pattern_texts.specs.declared.phase.Phase.{Phase}
use Rattle.pattern_texts.specs.declared.phase.Phase.TheVariants as phase
use Rattle.pattern_texts.specs.declared.phase.Mark.{Mark}
use Rattle.pattern_texts.specs.declared.phase.Mark.TheVariants as mark
use Rattle.pattern_texts.specs.Texts.{gap_text, Join, next, gap, time, link_of, more_text}
use Rattle.agg_typing.specs.PatternWords.{op_text, item_text}
use Rattle.pattern_texts.proofs.Fits.{ItemFits, MoreFits}
use Rattle.pattern_texts.specs.Machine.{mark_of, State, link_before, has_room, behind_gap, step_at, step_by, step, done_by, done, goes_if, pattern}
use Rattle.pattern_texts.proofs.Digits.{IsMark, is_mark, decimal_more}

-- behind an item
pub record Behind (conditions : ℕ) (condition : Bool) (items : List PatItem) (links : List PatLink) (text : List ℕ) (v : Pattern) : Type 0 where
  pub more : List (Join × PatItem)
  pub trail : ℕ
  pub fits : MoreFits conditions condition more
  pub spelled : text ≡ more_text more trail
  pub items_are : v.items ≡ items ++ map (λ p. p.1) more
  pub links_are : v.links ≡ links ++ map (λ p. link_of p.0) more
  pub count : length v.items ≤ 64

-- an item comes, and then what may stand behind it
pub record Comes (conditions : ℕ) (b : Before) (items : List PatItem) (links : List PatLink) (text : List ℕ) (v : Pattern) : Type 0 where
  pub item : PatItem
  pub rest : List ℕ
  pub fits : ItemFits conditions item
  pub spelled : text ≡ item_text item ++ rest
  pub behind : Behind conditions (is_cond item) (items ++ item ∷ []) (links ++ link_before b) rest v

pub record Ends (items : List PatItem) (links : List PatLink) (text : List ℕ) (v : Pattern) : Type 0 where
  pub nothing : text ≡ []
  pub all : v ≡ pattern items links
  pub count : length items ≤ 64

abbrev pub RestAt : ℕ → Before → List PatItem → List PatLink → List ℕ → Pattern → Type 0
RestAt conditions before.Start items links text v = (k : ℕ) × (rest : List ℕ) × (text ≡ gap_text k ++ rest) × Comes conditions before.Start items links rest v
RestAt conditions (before.Item c) items links text v = Behind conditions c items links text v
RestAt conditions before.Gap items links text v = (k : ℕ) × (rest : List ℕ) × (text ≡ gap_text k ++ rest) × (Comes conditions before.Gap items links rest v ⊎ Ends items links rest v)
RestAt conditions (before.Time o w) items links text v = (c : Comes conditions (before.Time o w) items links text v) × (is_cond c.item ≡ true)

-- a number that is begun goes on to one in the range
pub record Numbers (begun : ℕ) (text : List ℕ) (P : ℕ → List ℕ → Type 0) : Type 0 where
  pub number : ℕ
  pub rest : List ℕ
  pub spelled : decimal begun ++ text ≡ decimal number ++ 41 ∷ rest
  pub fits : P number rest

abbrev pub sign_byte : Bool → ℕ
sign_byte true = 62
sign_byte false = 60

abbrev pub Rest : ℕ → Phase → List PatItem → List PatLink → List ℕ → Pattern → Type 0
Rest conditions (phase.At b) items links text v = RestAt conditions b items links text v
Rest conditions (phase.Dot b) items links text v = RestAt conditions b items links (46 ∷ text) v
Rest conditions (phase.Open b) items links text v = RestAt conditions b items links (40 ∷ text) v
Rest conditions (phase.Asked b) items links text v = RestAt conditions b items links (40 ∷ 63 ∷ text) v
Rest conditions (phase.Number b n) items links text v = Numbers n text (λ m rest. (1 ≤ m) × (m ≤ conditions) × Behind conditions true (items ++ Cond m ∷ []) (links ++ link_before b) rest v)
Rest conditions phase.Timed items links text v = RestAt conditions (before.Item true) items links (40 ∷ 63 ∷ 116 ∷ text) v
Rest conditions (phase.Sign more) items links text v = RestAt conditions (before.Item true) items links (40 ∷ 63 ∷ 116 ∷ sign_byte more ∷ text) v
Rest conditions phase.HalfEqual items links text v = RestAt conditions (before.Item true) items links (40 ∷ 63 ∷ 116 ∷ 61 ∷ text) v
Rest conditions (phase.Compared o) items links text v = RestAt conditions (before.Item true) items links (40 ∷ 63 ∷ 116 ∷ (op_text (op_of o) ++ text)) v
Rest conditions (phase.Amount o w) items links text v = Numbers w text (λ u rest. (u < 2 ^ 64) × RestAt conditions (before.Time o u) items links rest v)

-- what holds of each state that is reached
abbrev pub HoldsAt : Before → ℕ → Type 0
HoldsAt before.Start n = n < 64
HoldsAt (before.Item c) n = n ≤ 64
HoldsAt before.Gap n = n ≤ 64
HoldsAt (before.Time o w) n = (n < 64) × (w < 2 ^ 64)

abbrev pub HoldsIn : ℕ → Phase → ℕ → Type 0
HoldsIn conditions (phase.At b) n = HoldsAt b n
HoldsIn conditions (phase.Dot (before.Time o w)) n = ⊥
HoldsIn conditions (phase.Dot before.Start) n = n < 64
HoldsIn conditions (phase.Dot (before.Item c)) n = n ≤ 64
HoldsIn conditions (phase.Dot before.Gap) n = n ≤ 64
HoldsIn conditions (phase.Open b) n = (n < 64) × HoldsAt b n
HoldsIn conditions (phase.Asked b) n = (n < 64) × HoldsAt b n
HoldsIn conditions (phase.Number b k) n = (n < 64) × HoldsAt b n × (1 ≤ k) × (k ≤ conditions)
HoldsIn conditions phase.Timed n = n < 64
HoldsIn conditions (phase.Sign more) n = n < 64
HoldsIn conditions phase.HalfEqual n = n < 64
HoldsIn conditions (phase.Compared o) n = n < 64
HoldsIn conditions (phase.Amount o w) n = (n < 64) × (w < 2 ^ 64)

abbrev pub Holds : ℕ → State → Type 0
Holds conditions s = HoldsIn conditions s.phase (length s.items)

-- ---- what may come, put together

-- behind a time only a condition comes
abbrev pub Allowed : Before → PatItem → Type 0
Allowed (before.Time o w) item = is_cond item ≡ true
Allowed before.Start item = Unit {0}
Allowed before.Gap item = Unit {0}
Allowed (before.Item c) item = Unit {0}

-- an item
item_comes : (conditions : ℕ) (b : Before) (items : List PatItem) (links : List PatLink) (text : List ℕ) (v : Pattern) → (c : Comes conditions b items links text v) → Allowed b c.item → RestAt conditions b items links text v
item_comes conditions before.Start items links text v c e = (0, text, refl, c)
item_comes conditions before.Gap items links text v c e = (0, text, refl, inl c)
item_comes conditions (before.Time o w) items links text v c e = (c, e)
item_comes conditions (before.Item q) items links text v c e = record {
  more = (next, c.item) ∷ c.behind.more;
  trail = c.behind.trail;
  fits = (tt, c.fits, c.behind.fits);
  spelled = c.spelled ∙ ap (λ r. item_text c.item ++ r) c.behind.spelled;
  items_are = c.behind.items_are ∙ append_assoc items (c.item ∷ []) _;
  links_are = c.behind.links_are ∙ append_assoc links (Next ∷ []) _;
  count = c.behind.count;
}

-- a gap
gap_comes : (conditions : ℕ) (b : Before) (items : List PatItem) (links : List PatLink) (text : List ℕ) (v : Pattern) → HoldsIn conditions (phase.Dot b) (length items) → RestAt conditions (behind_gap b) items links text v → RestAt conditions b items links (46 ∷ 42 ∷ text) v
gap_comes conditions before.Start items links text v h r = (suc r.0, r.1, ap (λ x. 46 ∷ 42 ∷ x) r.2, r.3)
gap_comes conditions before.Gap items links text v h r = (suc r.0, r.1, ap (λ x. 46 ∷ 42 ∷ x) r.2, r.3)
gap_comes conditions (before.Item q) items links text v h r =
    elim (r.3) [
      | inl c ↦ record {
        more = (gap r.0, c.item) ∷ c.behind.more;
        trail = c.behind.trail;
        fits = (tt, c.fits, c.behind.fits);
        spelled = ap (λ x. 46 ∷ 42 ∷ x) (r.2 ∙ ap (λ x. gap_text r.0 ++ x) (c.spelled ∙ ap (λ x. item_text c.item ++ x) c.behind.spelled));
        items_are = c.behind.items_are ∙ append_assoc items (c.item ∷ []) _;
        links_are = c.behind.links_are ∙ append_assoc links (Gap ∷ []) _;
        count = c.behind.count;
      }
      | inr z ↦ record {
        more = [];
        trail = suc r.0;
        fits = tt;
        spelled = ap (λ x. 46 ∷ 42 ∷ x) (r.2 ∙ ap (λ x. gap_text r.0 ++ x) z.nothing ∙ append-nil (gap_text r.0));
        items_are = ap (λ (p : Pattern). p.items) z.all ∙ sym (append-nil items);
        links_are = ap (λ (p : Pattern). p.links) z.all ∙ sym (append-nil links);
        count = rw z.all z.count;
      }
    ]
gap_comes conditions (before.Time o w) items links text v h r = absurd h

-- a time
time_comes : (conditions : ℕ) (o : Op) (u : ℕ) (items : List PatItem) (links : List PatLink) (rest : List ℕ) (v : Pattern) → u < 2 ^ 64 → RestAt conditions (before.Time o u) items links rest v
    → RestAt conditions (before.Item true) items links (40 ∷ 63 ∷ 116 ∷ (op_text (op_of o) ++ (decimal u ++ 41 ∷ rest))) v
time_comes conditions o u items links rest v small r =
    let c = r.0 in
    record {
      more = (time (op_of o) u, c.item) ∷ c.behind.more;
      trail = c.behind.trail;
      fits = ((small, refl, r.1), c.fits, c.behind.fits);
      spelled = ap (λ x. 40 ∷ 63 ∷ 116 ∷ x) (
          ap (λ x. op_text (op_of o) ++ (decimal u ++ 41 ∷ x)) (c.spelled ∙ ap (λ x. item_text c.item ++ x) c.behind.spelled)
          ∙ ap (λ x. op_text (op_of o) ++ x) (sym (append_assoc (decimal u) (41 ∷ []) (item_text c.item ++ more_text c.behind.more c.behind.trail)))
          ∙ sym (append_assoc (op_text (op_of o)) (decimal u ++ 41 ∷ []) (item_text c.item ++ more_text c.behind.more c.behind.trail)));
      items_are = c.behind.items_are ∙ append_assoc items (c.item ∷ []) _;
      links_are = c.behind.links_are ∙ append_assoc links (Time (op_of o) u ∷ []) _;
      count = c.behind.count;
    }

-- ---- one step

abbrev StepsTo : ℕ → Phase → List PatItem → List PatLink → ℕ → List ℕ → Pattern → State → Type 0
StepsTo conditions p items links b text v t = Holds conditions t × (Rest conditions t.phase t.items t.links text v → Rest conditions p items links (b ∷ text) v)

goes_is : (Q : State → Type 0) (s t : State) → Q s → (let o : Option State = Some s in o) ≡ Some t → Q t
goes_is Q s t q e = subst Q (let f : s ≡ t = cc in f) q

goes_if_is : (Q : State → Type 0) (test : Bool) (p : Phase) (items : List PatItem) (links : List PatLink) (t : State) → (test ≡ true → Q (record { phase = p; items = items; links = links })) → goes_if test p items links ≡ Some t → Q t
goes_if_is Q true p items links t q e = goes_is Q _ t (q refl) e
goes_if_is Q false p items links t q e = absurd cc

-- a byte between two parts
moves_at : (conditions : ℕ) (b : Before) (m : Mark) (items : List PatItem) (links : List PatLink) (x : ℕ) (text : List ℕ) (v : Pattern) (t : State) → IsMark m x → HoldsAt b (length items) → step_at b m items links ≡ Some t
    → StepsTo conditions (phase.At b) items links x text v t
moves_at conditions (before.Time o w) mark.Dot items links x text v t is h e = absurd cc
moves_at conditions before.Start mark.Dot items links x text v t is h e = goes_is (StepsTo conditions (phase.At before.Start) items links x text v) _ t (h, rw is (λ r. r)) e
moves_at conditions (before.Item c) mark.Dot items links x text v t is h e = goes_is (StepsTo conditions (phase.At (before.Item c)) items links x text v) _ t (h, rw is (λ r. r)) e
moves_at conditions before.Gap mark.Dot items links x text v t is h e = goes_is (StepsTo conditions (phase.At before.Gap) items links x text v) _ t (h, rw is (λ r. r)) e
moves_at conditions b mark.Open items links x text v t is h e =
    goes_if_is (StepsTo conditions (phase.At b) items links x text v) (has_room items) _ items links t
    (λ room. ((ltb-true _ _ room, h), rw is (λ r. r))) e
moves_at conditions b m items links x text v t is h e = absurd cc

pub length_more : {A : Type 0} (xs : List A) (x : A) → length (xs ++ x ∷ []) ≡ length xs + 1
length_more xs x = length-append xs (x ∷ [])

-- a byte behind a dot that isn't a star: the dot was an item
any_then : (conditions : ℕ) (b : Before) (m : Mark) (items : List PatItem) (links : List PatLink) (x : ℕ) (text : List ℕ) (v : Pattern) (t : State) → IsMark m x → HoldsIn conditions (phase.Dot b) (length items)
    → (room : Bool) → (room ≡ true → length items < 64) → cond room (step_at (before.Item false) m (items ++ Any ∷ []) (links ++ link_before b)) None ≡ Some t
    → StepsTo conditions (phase.Dot b) items links x text v t
any_then conditions b m items links x text v t is h false room e = absurd cc
any_then conditions b m items links x text v t is h true room e =
    let small = room refl in
    let s = moves_at conditions (before.Item false) m (items ++ Any ∷ []) (links ++ link_before b) x text v t is (omega (arith, length_more items Any, small)) e in
    (s.0, λ r. item_comes conditions b items links (46 ∷ x ∷ text) v (record { item = Any; rest = x ∷ text; fits = tt; spelled = refl; behind = s.1 r }) (allowed b h))
  where
    allowed : (b : Before) → HoldsIn conditions (phase.Dot b) (length items) → Allowed b Any
    allowed before.Start h = tt
    allowed (before.Item c) h = tt
    allowed before.Gap h = tt
    allowed (before.Time o w) h = absurd h

holds_behind_gap : (conditions : ℕ) (b : Before) (n : ℕ) → HoldsIn conditions (phase.Dot b) n → HoldsAt (behind_gap b) n
holds_behind_gap conditions before.Start n h = h
holds_behind_gap conditions (before.Item c) n h = h
holds_behind_gap conditions before.Gap n h = h
holds_behind_gap conditions (before.Time o w) n h = absurd h

moves_dot : (conditions : ℕ) (b : Before) (m : Mark) (items : List PatItem) (links : List PatLink) (x : ℕ) (text : List ℕ) (v : Pattern) (t : State) → IsMark m x → HoldsIn conditions (phase.Dot b) (length items)
    → step_by conditions (phase.Dot b) m items links ≡ Some t → StepsTo conditions (phase.Dot b) items links x text v t
moves_dot conditions b mark.Star items links x text v t is h e =
    goes_is (StepsTo conditions (phase.Dot b) items links x text v) _ t (holds_behind_gap conditions b (length items) h, λ r. rw is (gap_comes conditions b items links text v h r)) e
moves_dot conditions b m items links x text v t is h e = any_then conditions b m items links x text v t is h (has_room items) (ltb-true _ _) e

-- a condition is read whole
number_comes : (conditions : ℕ) (b : Before) (d : ℕ) (items : List PatItem) (links : List PatLink) (text : List ℕ) (v : Pattern) → d < 10
    → Numbers d text (λ m rest. (1 ≤ m) × (m ≤ conditions) × Behind conditions true (items ++ Cond m ∷ []) (links ++ link_before b) rest v)
    → RestAt conditions b items links (40 ∷ 63 ∷ (48 + d) ∷ text) v
number_comes conditions b d items links text v lt n =
    let spelled : (48 + d) ∷ text ≡ decimal n.number ++ 41 ∷ n.rest = ap (λ x. x ++ text) (sym (decimal_digit d lt)) ∙ n.spelled in
    item_comes conditions b items links (40 ∷ 63 ∷ (48 + d) ∷ text) v (record {
      item = Cond n.number;
      rest = n.rest;
      fits = (n.fits.0, n.fits.1);
      spelled = ap (λ x. 40 ∷ 63 ∷ x) (spelled ∙ sym (append_assoc (decimal n.number) (41 ∷ []) n.rest));
      behind = n.fits.2;
    }) (allowed b (Cond n.number) refl)
  where
    allowed : (b : Before) (item : PatItem) → is_cond item ≡ true → Allowed b item
    allowed before.Start item e = tt
    allowed (before.Item c) item e = tt
    allowed before.Gap item e = tt
    allowed (before.Time o w) item e = e

-- a number with one digit more
digit_more : (n d : ℕ) (text : List ℕ) (P : ℕ → List ℕ → Type 0) → 1 ≤ n → d < 10 → n * 10 + d < 2 ^ 64 → Numbers (n * 10 + d) text P → Numbers n ((48 + d) ∷ text) P
digit_more n d text P pos lt small r = record {
  number = r.number;
  rest = r.rest;
  spelled = sym (append_assoc (decimal n) ((48 + d) ∷ []) text) ∙ ap (λ x. x ++ text) (sym (decimal_more n d pos lt small)) ∙ r.spelled;
  fits = r.fits;
}

-- a time is read whole
amount_comes : (conditions : ℕ) (o : Op) (d : ℕ) (items : List PatItem) (links : List PatLink) (text : List ℕ) (v : Pattern) → d < 10
    → Numbers d text (λ u rest. (u < 2 ^ 64) × RestAt conditions (before.Time o u) items links rest v)
    → RestAt conditions (before.Item true) items links (40 ∷ 63 ∷ 116 ∷ (op_text (op_of o) ++ ((48 + d) ∷ text))) v
amount_comes conditions o d items links text v lt n =
    let spelled : (48 + d) ∷ text ≡ decimal n.number ++ 41 ∷ n.rest = ap (λ x. x ++ text) (sym (decimal_digit d lt)) ∙ n.spelled in
    subst (λ x. RestAt conditions (before.Item true) items links (40 ∷ 63 ∷ 116 ∷ (op_text (op_of o) ++ x)) v) (sym spelled) (time_comes conditions o n.number items links n.rest v n.fits.0 n.fits.1)

moves_open : (conditions : ℕ) (b : Before) (m : Mark) (items : List PatItem) (links : List PatLink) (x : ℕ) (text : List ℕ) (v : Pattern) (t : State) → IsMark m x → HoldsIn conditions (phase.Open b) (length items)
    → step_by conditions (phase.Open b) m items links ≡ Some t → StepsTo conditions (phase.Open b) items links x text v t
moves_open conditions b mark.Question items links x text v t is h e = goes_is (StepsTo conditions (phase.Open b) items links x text v) _ t (h, rw is (λ r. r)) e
moves_open conditions b m items links x text v t is h e = absurd cc

moves_asked : (conditions : ℕ) → (conditions ≤ 32) → (b : Before) (m : Mark) (items : List PatItem) (links : List PatLink) (x : ℕ) (text : List ℕ) (v : Pattern) (t : State) → IsMark m x → HoldsIn conditions (phase.Asked b) (length items)
    → step_by conditions (phase.Asked b) m items links ≡ Some t → StepsTo conditions (phase.Asked b) items links x text v t
moves_asked conditions few b (mark.Digit d) items links x text v t is h e =
    goes_if_is (StepsTo conditions (phase.Asked b) items links x text v) (nat_le 1 d && nat_le d conditions) _ items links t
    (λ test. let p = and_parts (nat_le 1 d) (nat_le d conditions) test in
    ((h.0, h.1, leb-true _ _ p.0, leb-true _ _ p.1), λ r. rw (is.1) (number_comes conditions b d items links text v is.0 r))) e
moves_asked conditions few (before.Item true) mark.LetterT items links x text v t is h e = goes_is (StepsTo conditions (phase.Asked (before.Item true)) items links x text v) _ t (h.0, rw is (λ r. r)) e
moves_asked conditions few b m items links x text v t is h e = absurd cc

moves_number : (conditions : ℕ) → (conditions ≤ 32) → (b : Before) (n : ℕ) (m : Mark) (items : List PatItem) (links : List PatLink) (x : ℕ) (text : List ℕ) (v : Pattern) (t : State) → IsMark m x → HoldsIn conditions (phase.Number b n) (length items)
    → step_by conditions (phase.Number b n) m items links ≡ Some t → StepsTo conditions (phase.Number b n) items links x text v t
moves_number conditions few b n (mark.Digit d) items links x text v t is h e =
    goes_if_is (StepsTo conditions (phase.Number b n) items links x text v) (nat_le (n * 10 + d) conditions) _ items links t
    (λ test. let le : n * 10 + d ≤ conditions = leb-true _ _ test in
    let small : n * 10 + d < 2 ^ 64 = omega (arith, le, few) in
    ((h.0, h.1, omega (arith, h.2), le), λ r. rw (is.1) (digit_more n d text _ h.2 is.0 small r))) e
moves_number conditions few b n mark.Close items links x text v t is h e =
    goes_is (StepsTo conditions (phase.Number b n) items links x text v) _ t
    (omega (arith, length_more items (Cond n), h.0), λ r. record { number = n; rest = text; spelled = rw is refl; fits = (h.2, h.3, r) }) e
moves_number conditions few b n m items links x text v t is h e = absurd cc

moves : (conditions : ℕ) → conditions ≤ 32 → (p : Phase) (m : Mark) (items : List PatItem) (links : List PatLink) (x : ℕ) (text : List ℕ) (v : Pattern) (t : State) → IsMark m x → HoldsIn conditions p (length items)
    → step_by conditions p m items links ≡ Some t → StepsTo conditions p items links x text v t
moves conditions few phase.Timed mark.Less items links x text v t is h e = goes_is (StepsTo conditions phase.Timed items links x text v) _ t (h, rw is (λ r. r)) e
moves conditions few phase.Timed mark.Greater items links x text v t is h e = goes_is (StepsTo conditions phase.Timed items links x text v) _ t (h, rw is (λ r. r)) e
moves conditions few phase.Timed mark.Equal items links x text v t is h e = goes_is (StepsTo conditions phase.Timed items links x text v) _ t (h, rw is (λ r. r)) e
moves conditions few phase.HalfEqual mark.Equal items links x text v t is h e = goes_is (StepsTo conditions phase.HalfEqual items links x text v) _ t (h, rw is (λ r. r)) e
moves conditions few (phase.Sign true) mark.Equal items links x text v t is h e = goes_is (StepsTo conditions (phase.Sign true) items links x text v) _ t (h, rw is (λ r. r)) e
moves conditions few (phase.Sign false) mark.Equal items links x text v t is h e = goes_is (StepsTo conditions (phase.Sign false) items links x text v) _ t (h, rw is (λ r. r)) e
moves conditions few (phase.Sign true) (mark.Digit d) items links x text v t is h e =
    goes_is (StepsTo conditions (phase.Sign true) items links x text v) _ t ((h, omega (arith, is.0)), λ r. rw (is.1) (amount_comes conditions op.Greater d items links text v is.0 r)) e
moves conditions few (phase.Sign false) (mark.Digit d) items links x text v t is h e =
    goes_is (StepsTo conditions (phase.Sign false) items links x text v) _ t ((h, omega (arith, is.0)), λ r. rw (is.1) (amount_comes conditions op.Less d items links text v is.0 r)) e
moves conditions few (phase.Compared o) (mark.Digit d) items links x text v t is h e =
    goes_is (StepsTo conditions (phase.Compared o) items links x text v) _ t ((h, omega (arith, is.0)), λ r. rw (is.1) (amount_comes conditions o d items links text v is.0 r)) e
moves conditions few (phase.Amount o w) (mark.Digit d) items links x text v t is h e =
    goes_if_is (StepsTo conditions (phase.Amount o w) items links x text v) (nat_le 1 w && nat_lt (w * 10 + d) (2 ^ 64)) _ items links t
    (λ test. let p = and_parts (nat_le 1 w) (nat_lt (w * 10 + d) (2 ^ 64)) test in
    let small : w * 10 + d < 2 ^ 64 = ltb-true _ _ p.1 in
    ((h.0, small), λ r. rw (is.1) (digit_more w d text _ (leb-true _ _ p.0) is.0 small r))) e
moves conditions few (phase.Amount o w) mark.Close items links x text v t is h e =
    goes_is (StepsTo conditions (phase.Amount o w) items links x text v) _ t (h, λ r. record { number = w; rest = text; spelled = rw is refl; fits = (h.1, r) }) e
moves conditions few (phase.At b) m items links x text v t is h e = moves_at conditions b m items links x text v t is h e
moves conditions few (phase.Dot b) m items links x text v t is h e = moves_dot conditions b m items links x text v t is h e
moves conditions few (phase.Open b) m items links x text v t is h e = moves_open conditions b m items links x text v t is h e
moves conditions few (phase.Asked b) m items links x text v t is h e = moves_asked conditions few b m items links x text v t is h e
moves conditions few (phase.Number b n) m items links x text v t is h e = moves_number conditions few b n m items links x text v t is h e
moves conditions few p m items links x text v t is h e = absurd cc

-- what the end says
ended : (conditions : ℕ) (p : Phase) (items : List PatItem) (links : List PatLink) (v : Pattern) → HoldsIn conditions p (length items) → done_by p items links ≡ Some v → Rest conditions p items links [] v
ended conditions (phase.At (before.Item c)) items links v h e =
    let w : Pattern = pattern items links in let f : w ≡ v = cc in
    subst (λ (u : Pattern). Behind conditions c items links [] u) f (record { more = []; trail = 0; fits = tt; spelled = refl; items_are = sym (append-nil items); links_are = sym (append-nil links); count = h })
ended conditions (phase.At before.Gap) items links v h e =
    let w : Pattern = pattern items links in let f : v ≡ w = cc in
    (0, [], refl, inr (record { nothing = refl; all = f; count = h }))
ended conditions (phase.Dot b) items links v h e = ended_dot (has_room items) (ltb-true _ _) e
  where
    allowed : (b : Before) → HoldsIn conditions (phase.Dot b) (length items) → Allowed b Any
    allowed before.Start h = tt
    allowed (before.Item c) h = tt
    allowed before.Gap h = tt
    allowed (before.Time o w) h = absurd h

    ended_dot : (room : Bool) → (room ≡ true → length items < 64) → (let o : Option Pattern = cond room (Some (pattern (items ++ Any ∷ []) (links ++ link_before b))) None in o) ≡ Some v → RestAt conditions b items links (46 ∷ []) v
    ended_dot false room e = absurd cc
    ended_dot true room e =
        let w : Pattern = pattern (items ++ Any ∷ []) (links ++ link_before b) in let f : w ≡ v = cc in
        subst (λ (u : Pattern). RestAt conditions b items links (46 ∷ []) u) f
        (item_comes conditions b items links (46 ∷ []) w (record {
          item = Any;
          rest = [];
          fits = tt;
          spelled = refl;
          behind = record { more = []; trail = 0; fits = tt; spelled = refl; items_are = sym (append-nil _); links_are = sym (append-nil _); count = omega (arith, length_more items Any, room refl) };
        }) (allowed b h))
ended conditions p items links v h e = absurd cc

pub kept : (conditions : ℕ) → conditions ≤ 32 → (s t : State) (x : ℕ) → Holds conditions s → step conditions s x ≡ Some t → Holds conditions t
kept conditions few s t x h e = (moves conditions few s.phase (mark_of x) s.items s.links x [] (pattern [] []) t (is_mark x) h e).0

pub found : (conditions : ℕ) → conditions ≤ 32 → (s : State) (text : List ℕ) (v : Pattern) → Holds conditions s → run (step conditions) done s text ≡ Ok v → Rest conditions s.phase s.items s.links text v
found conditions few s [] v h e = ended conditions s.phase s.items s.links v h (end_ok (done s) v e)
found conditions few s (x ∷ text) v h e =
    let p = letter_ok (λ t. run (step conditions) done t text) (step conditions s x) v e in
    let m = moves conditions few s.phase (mark_of x) s.items s.links x text v p.0 (is_mark x) h p.1 in
    m.1 (found conditions few p.0 text v m.0 p.2)
