-- What is read is spelled so, and what is spelled so is read: for each way to put readers together.
use Rattle.std.proofs.Common.{◌≡◌, ℕ, zero, suc, ◌^◌, ◌<◌, ◌≤◌, Bool, true, false, cond, ltb, List, [], ◌∷◌, ◌++◌, length, take, drop, Option, Some, None, Result, Ok, Err, refl, sym, ap, ap₂, subst, ◌∙◌, append_assoc, arith}
use Rattle.std.specs.Prelude.{flat_map}
use Rattle.std.proofs.lemmas.Bool.{ltb-false, le-ltb}
use Rattle.std.proofs.lemmas.List.{take_at, drop_at, take-append-drop, length-append, length-take-le}
use Rattle.agg_meaning.specs.Feeds.{IfHere}
use Rattle.agg_terms.specs.Lists.{Each}
use Rattle.scalar_texts.specs.declared.fault.StateFault.{StateFault}
use Rattle.scalar_texts.specs.declared.fault.StateFault.TheVariants.{Short, NotCanonical}
use Rattle.state_texts.proofs.Figures.{AreBytes, length_high, high_bytes, high_worth, worth_below, worth_high}
use Rattle.state_texts.specs.Figures.{high, worth}
use Rattle.state_texts.specs.Texts.{list_text, bytes_text, flag_text}
use Rattle.state_codec.specs.Reading.{Read, ◌>>=◌, made, place, bytes_at, number_at, string_at, kept_at, both_at, flag_at, tag_at, items_at, list_at}

-- ---- steps

pub bind_ok : {A B : Type 0} (r : Result A StateFault) (f : A → Result B StateFault) (y : B) → (r >>= f) ≡ Ok y → (x : A) × (r ≡ Ok x) × (f x ≡ Ok y)
bind_ok (Ok x) f y e = (x, refl, e)
bind_ok (Err d) f y e = absurd cc

guard_ok : {A : Type 0} (b : Bool) (d : StateFault) (x y : A) → cond b (Err d) (Ok x) ≡ Ok y → (b ≡ false) × (x ≡ y)
guard_ok true d x y e = absurd cc
guard_ok false d x y e = (refl, cc)

test_ok : {A : Type 0} (b : Bool) (d : StateFault) (x y : A) → cond b (Ok x) (Err d) ≡ Ok y → (b ≡ true) × (x ≡ y)
test_ok true d x y e = (refl, cc)
test_ok false d x y e = absurd cc

abbrev pub done : {A : Type 0} → A → Result A StateFault
done x = Ok x

pub ok_is : {A : Type 0} (x y : A) → done x ≡ done y → x ≡ y
ok_is x y e = cc

-- ---- what a reader took from the front

pub record Takes (bytes text rest : List ℕ) : Type 0 where
  pub parts : bytes ≡ text ++ rest
  pub fits : AreBytes rest

pub takes_then : (a x b y c : List ℕ) → Takes a x b → Takes b y c → Takes a (x ++ y) c
takes_then a x b y c p q = record { parts = p.parts ∙ ap (λ (t : List ℕ). x ++ t) q.parts ∙ sym (append_assoc x y c); fits = q.fits }

pub takes_none : (a : List ℕ) → AreBytes a → Takes a [] a
takes_none a k = record { parts = refl; fits = k }

pub record IsExact {X : Type 0} (read : List ℕ → Read X) (text : X → List ℕ) (P : X → Type 0) : Type 0 where
  pub takes : (bytes : List ℕ) (y : X × List ℕ) → AreBytes bytes → read bytes ≡ Ok y → Takes bytes (text y.0) y.1 × P y.0
  pub again : (x : X) (rest : List ℕ) → P x → read (text x ++ rest) ≡ Ok (x, rest)

-- the same of what is told in other words
pub exact_as : {X : Type 0} (read : List ℕ → Read X) (text : X → List ℕ) (P Q : X → Type 0) → ((x : X) → P x → Q x) → ((x : X) → Q x → P x) → IsExact read text P → IsExact read text Q
exact_as read text P Q to from r = record {
  takes = λ bytes y k e. let t = r.takes bytes y k e in (t.0, to y.0 t.1);
  again = λ x rest q. r.again x rest (from x q);
}

-- the same of what is spelled in other words
pub exact_text : {X : Type 0} (read : List ℕ → Read X) (text other : X → List ℕ) (P : X → Type 0) → ((x : X) → P x → text x ≡ other x) → IsExact read text P → IsExact read other P
exact_text read text other P same r = record {
  takes = λ bytes y k e. let t = r.takes bytes y k e in (subst (λ l. Takes bytes l y.1) (same y.0 t.1) t.0, t.1);
  again = λ x rest p. ap (λ l. read (l ++ rest)) (sym (same x p)) ∙ r.again x rest p;
}

-- seen as something else, and spelled by what it was
pub exact_made : {X Y : Type 0} (f : X → Y) (g : Y → X) (read : List ℕ → Read X) (text : X → List ℕ) (P : X → Type 0) → ((x : X) → P x → g (f x) ≡ x) → IsExact read text P
    → IsExact (λ bytes. made f (read bytes)) (λ y. text (g y)) (λ y. (x : X) × (y ≡ f x) × P x)
exact_made {X = X} {Y = Y} f g read text P back r = record {
  takes = λ bytes y k e.
      let b = bind_ok (read bytes) (λ x. Ok (f x.0, x.1)) y e in
      let t = r.takes bytes b.0 k b.1 in
      subst (λ (z : Y × List ℕ). Takes bytes (text (g z.0)) z.1 × ((x : X) × (z.0 ≡ f x) × P x)) (ok_is (f b.0.0, b.0.1) y b.2)
      (subst (λ x. Takes bytes (text x) b.0.1) (sym (back b.0.0 t.1)) t.0, (b.0.0, refl, t.1));
  again = λ y rest p.
      ap (λ z. made f (read (text (g z) ++ rest))) p.1
      ∙ ap (λ x. made f (read (text x ++ rest))) (back p.0 p.2)
      ∙ ap (made f) (r.again p.0 rest p.2)
      ∙ ap (λ z. done (z, rest)) (sym p.1);
}

-- ---- bytes and numbers

each_split : {X : Type 0} (P : X → Type 0) (xs ys : List X) → Each P (xs ++ ys) → Each P xs × Each P ys
each_split P [] ys k = (tt, k)
each_split P (x ∷ xs) ys k = let r = each_split P xs ys k.1 in ((k.0, r.0), r.1)

abbrev pub HasLength : ℕ → List ℕ → Type 0
HasLength k bytes = (length bytes ≡ k) × AreBytes bytes

pub exact_bytes : (k : ℕ) → IsExact (bytes_at k) (λ bytes. bytes) (HasLength k)
unfolding bytes_at
exact_bytes k = record {
  takes = λ bytes y fits e.
      let g = guard_ok (ltb (length bytes) k) Short (take k bytes, drop k bytes) y e in
      let long : k ≤ length bytes = ltb-false _ _ g.0 in
      let halves = each_split (λ b. b < 256) (take k bytes) (drop k bytes) (subst AreBytes (sym (take-append-drop k bytes)) fits) in
      subst (λ (z : List ℕ × List ℕ). Takes bytes z.0 z.1 × HasLength k z.0) g.1
      (record { parts = sym (take-append-drop k bytes); fits = halves.1 }, (length-take-le k bytes long, halves.0));
  again = λ x rest p.
      let long : ltb (length (x ++ rest)) k ≡ false = le-ltb _ _ (omega (arith, length-append x rest, p.0)) in
      ap (λ b. cond b (Err Short) (Ok (take k (x ++ rest), drop k (x ++ rest)))) long
      ∙ ap₂ (λ a b. done (a, b)) (take_at x rest k p.0) (drop_at x rest k p.0);
}

pub exact_number : (k : ℕ) → IsExact (number_at k) (high k) (λ n. n < 256 ^ k)
exact_number k = record {
  takes = λ bytes y fits e.
      let b = bind_ok (bytes_at k bytes) (λ x. Ok (worth x.0, x.1)) y e in
      let t = (exact_bytes k).takes bytes b.0 fits b.1 in
      let spelled : high k (worth b.0.0) ≡ b.0.0 = ap (λ m. high m (worth b.0.0)) (sym t.1.0) ∙ high_worth b.0.0 t.1.1 in
      subst (λ (z : ℕ × List ℕ). Takes bytes (high k z.0) z.1 × (z.0 < 256 ^ k)) (ok_is (worth b.0.0, b.0.1) y b.2)
      (subst (λ x. Takes bytes x b.0.1) (sym spelled) t.0, subst (λ m. worth b.0.0 < 256 ^ m) t.1.0 (worth_below b.0.0 t.1.1));
  again = λ n rest l.
      ap (made worth) ((exact_bytes k).again (high k n) rest (length_high k n, high_bytes k n l))
      ∙ ap (λ m. done (m, rest)) (worth_high k n l);
}

-- ---- tests, pairs, flags

pub exact_kept : {X : Type 0} (whole : ℕ) (test : X → Bool) (read : List ℕ → Read X) (text : X → List ℕ) (P : X → Type 0) → IsExact read text P
    → IsExact (kept_at whole test read) text (λ x. P x × (test x ≡ true))
unfolding kept_at
exact_kept whole test read text P r = record {
  takes = λ bytes y fits e.
      let b = bind_ok (read bytes) (λ x. cond (test x.0) (Ok x) (Err (NotCanonical (place whole bytes)))) y e in
      let t = r.takes bytes b.0 fits b.1 in
      let g = test_ok (test b.0.0) (NotCanonical (place whole bytes)) b.0 y b.2 in
      subst (λ z. Takes bytes (text z.0) z.1 × (P z.0 × (test z.0 ≡ true))) g.1 (t.0, (t.1, g.0));
  again = λ x rest p.
      ap (λ (s : Read _). s >>= λ z. cond (test z.0) (Ok z) (Err (NotCanonical (place whole (text x ++ rest))))) (r.again x rest p.0)
      ∙ ap (λ b. cond b (Ok (x, rest)) (Err (NotCanonical (place whole (text x ++ rest))))) p.1;
}

pub exact_both : {X Y : Type 0} (first : List ℕ → Read X) (f : X → List ℕ) (P : X → Type 0) (second : List ℕ → Read Y) (g : Y → List ℕ) (Q : Y → Type 0)
    → IsExact first f P → IsExact second g Q → IsExact (both_at first second) (λ p. f p.0 ++ g p.1) (λ p. P p.0 × Q p.1)
unfolding both_at
exact_both {X = X} {Y = Y} first f P second g Q r s = record {
  takes = λ bytes y fits e.
      let a = bind_ok (first bytes) (λ x. second x.1 >>= λ z. Ok ((x.0, z.0), z.1)) y e in
      let b = bind_ok (second a.0.1) (λ z. Ok ((a.0.0, z.0), z.1)) y a.2 in
      let t = r.takes bytes a.0 fits a.1 in
      let u = s.takes a.0.1 b.0 t.0.fits b.1 in
      subst (λ (z : (X × Y) × List ℕ). Takes bytes (f z.0.0 ++ g z.0.1) z.1 × (P z.0.0 × Q z.0.1)) (ok_is ((a.0.0, b.0.0), b.0.1) y b.2)
      (takes_then bytes (f a.0.0) a.0.1 (g b.0.0) b.0.1 t.0 u.0, (t.1, u.1));
  again = λ p rest k.
      ap (λ l. first l >>= λ x. second x.1 >>= λ z. Ok ((x.0, z.0), z.1)) (append_assoc (f p.0) (g p.1) rest)
      ∙ ap (λ (v : Read X). v >>= λ x. second x.1 >>= λ z. Ok ((x.0, z.0), z.1)) (r.again p.0 (g p.1 ++ rest) k.0)
      ∙ ap (λ (v : Read Y). v >>= λ z. Ok ((p.0, z.0), z.1)) (s.again p.1 rest k.1);
}

flag_takes : {X : Type 0} (whole : ℕ) (read : List ℕ → Read X) (text : X → List ℕ) (P : X → Type 0) → IsExact read text P
    → (bytes : List ℕ) (y : Option X × List ℕ) → AreBytes bytes → flag_at whole read bytes ≡ Ok y → Takes bytes (flag_text text y.0) y.1 × IfHere P y.0
unfolding flag_at tag_at
flag_takes whole read text P r [] y fits e = absurd cc
flag_takes {X = X} whole read text P r (zero ∷ rest) y fits e =
    subst (λ (z : Option X × List ℕ). Takes (0 ∷ rest) (flag_text text z.0) z.1 × IfHere P z.0) (ok_is (None, rest) y e) (record { parts = refl; fits = fits.1 }, tt)
flag_takes {X = X} whole read text P r (suc zero ∷ rest) y fits e =
    let b = bind_ok (read rest) (λ x. Ok (Some x.0, x.1)) y e in
    let t = r.takes rest b.0 fits.1 b.1 in
    subst (λ (z : Option X × List ℕ). Takes (1 ∷ rest) (flag_text text z.0) z.1 × IfHere P z.0) (ok_is (Some b.0.0, b.0.1) y b.2)
    (record { parts = ap (λ l. 1 ∷ l) t.0.parts; fits = t.0.fits }, t.1)
flag_takes whole read text P r (suc (suc n) ∷ rest) y fits e = absurd cc

flag_again : {X : Type 0} (whole : ℕ) (read : List ℕ → Read X) (text : X → List ℕ) (P : X → Type 0) → IsExact read text P
    → (o : Option X) (rest : List ℕ) → IfHere P o → flag_at whole read (flag_text text o ++ rest) ≡ Ok (o, rest)
unfolding flag_at tag_at
flag_again whole read text P r None rest k = refl
flag_again whole read text P r (Some x) rest k = ap (made (λ z. Some z)) (r.again x rest k)

pub exact_flag : {X : Type 0} (whole : ℕ) (read : List ℕ → Read X) (text : X → List ℕ) (P : X → Type 0) → IsExact read text P
    → IsExact (flag_at whole read) (flag_text text) (IfHere P)
exact_flag whole read text P r = record { takes = flag_takes whole read text P r; again = flag_again whole read text P r }

-- ---- lists

-- each holds in view of those before it, the last first
abbrev pub AllAfter : {X : Type 0} → (List X → X → Type 0) → List X → List X → Type 0
AllAfter P earlier [] = Unit {0}
AllAfter P earlier (x ∷ xs) = P earlier x × AllAfter P (x ∷ earlier) xs

module _ {X : Type 0} (read : List X → List ℕ → Read X) (text : X → List ℕ) (P : List X → X → Type 0) (r : (earlier : List X) → IsExact (read earlier) text (P earlier)) where
  abbrev Are : ℕ → List X → List X → Type 0
  Are n earlier xs = (length xs ≡ n) × AllAfter P earlier xs

  items_takes : (n : ℕ) (earlier : List X) (bytes : List ℕ) (y : List X × List ℕ) → AreBytes bytes → items_at read n earlier bytes ≡ Ok y
      → Takes bytes (flat_map text y.0) y.1 × Are n earlier y.0
  unfolding items_at
  items_takes zero earlier bytes y fits e =
      subst (λ (z : List X × List ℕ). Takes bytes (flat_map text z.0) z.1 × Are 0 earlier z.0) (ok_is ([], bytes) y e) (takes_none bytes fits, (refl, tt))
  items_takes (suc n) earlier bytes y fits e =
      let a = bind_ok (read earlier bytes) (λ x. items_at read n (x.0 ∷ earlier) x.1 >>= λ xs. Ok (x.0 ∷ xs.0, xs.1)) y e in
      let b = bind_ok (items_at read n (a.0.0 ∷ earlier) a.0.1) (λ xs. Ok (a.0.0 ∷ xs.0, xs.1)) y a.2 in
      let t = (r earlier).takes bytes a.0 fits a.1 in
      let u = items_takes n (a.0.0 ∷ earlier) a.0.1 b.0 t.0.fits b.1 in
      subst (λ (z : List X × List ℕ). Takes bytes (flat_map text z.0) z.1 × Are (suc n) earlier z.0) (ok_is (a.0.0 ∷ b.0.0, b.0.1) y b.2)
      (takes_then bytes (text a.0.0) a.0.1 (flat_map text b.0.0) b.0.1 t.0 u.0, (ap suc u.1.0, (t.1, u.1.1)))

  items_again : (n : ℕ) (earlier : List X) (xs : List X) (rest : List ℕ) → Are n earlier xs → items_at read n earlier (flat_map text xs ++ rest) ≡ Ok (xs, rest)
  unfolding items_at
  items_again zero earlier [] rest k = refl
  items_again zero earlier (x ∷ xs) rest k = absurd (omega (arith, k.0))
  items_again (suc n) earlier [] rest k = absurd (omega (arith, k.0))
  items_again (suc n) earlier (x ∷ xs) rest k =
      ap (λ l. read earlier l >>= λ z. items_at read n (z.0 ∷ earlier) z.1 >>= λ zs. Ok (z.0 ∷ zs.0, zs.1)) (append_assoc (text x) (flat_map text xs) rest)
      ∙ ap (λ (v : Read X). v >>= λ z. items_at read n (z.0 ∷ earlier) z.1 >>= λ zs. Ok (z.0 ∷ zs.0, zs.1)) ((r earlier).again x (flat_map text xs ++ rest) k.1.0)
      ∙ ap (λ (v : Read (List X)). v >>= λ zs. Ok (x ∷ zs.0, zs.1)) (items_again n (x ∷ earlier) xs rest (omega (arith, k.0), k.1.1))

  pub exact_items : (n : ℕ) → IsExact (items_at read n []) (flat_map text) (λ xs. (length xs ≡ n) × AllAfter P [] xs)
  exact_items n = record { takes = items_takes n []; again = items_again n [] }

  pub exact_list : (whole : ℕ) (test : ℕ → Bool)
      → IsExact (list_at whole test read) (list_text text) (λ xs. (length xs < 256 ^ 8) × (test (length xs) ≡ true) × AllAfter P [] xs)
  unfolding list_at
  exact_list whole test = record {
    takes = λ bytes y fits e.
        let a = bind_ok (kept_at whole test (number_at 8) bytes) (λ n. items_at read n.0 [] n.1) y e in
        let t = (exact_kept whole test (number_at 8) (high 8) (λ n. n < 256 ^ 8) (exact_number 8)).takes bytes a.0 fits a.1 in
        let u = items_takes a.0.0 [] a.0.1 y t.0.fits a.2 in (
          takes_then bytes (high 8 (length y.0)) a.0.1 (flat_map text y.0) y.1 (subst (λ n. Takes bytes (high 8 n) a.0.1) (sym u.1.0) t.0) u.0,
          (subst (λ n. n < 256 ^ 8) (sym u.1.0) t.1.0, subst (λ n. test n ≡ true) (sym u.1.0) t.1.1, u.1.1),
        );
    again = λ xs rest k.
        ap (λ l. kept_at whole test (number_at 8) l >>= λ n. items_at read n.0 [] n.1) (append_assoc (high 8 (length xs)) (flat_map text xs) rest)
        ∙ ap (λ (v : Read ℕ). v >>= λ n. items_at read n.0 [] n.1) ((exact_kept whole test (number_at 8) (high 8) (λ n. n < 256 ^ 8) (exact_number 8)).again (length xs) (flat_map text xs ++ rest) (k.0, k.1))
        ∙ items_again (length xs) [] xs rest (refl, k.2);
  }

pub exact_string : IsExact string_at bytes_text (λ bytes. AreBytes bytes × (length bytes < 256 ^ 8))
unfolding string_at
exact_string = record {
  takes = λ bytes y fits e.
      let a = bind_ok (number_at 8 bytes) (λ n. bytes_at n.0 n.1) y e in
      let t = (exact_number 8).takes bytes a.0 fits a.1 in
      let u = (exact_bytes a.0.0).takes a.0.1 y t.0.fits a.2 in (
        takes_then bytes (high 8 (length y.0)) a.0.1 y.0 y.1 (subst (λ n. Takes bytes (high 8 n) a.0.1) (sym u.1.0) t.0) u.0,
        (u.1.1, subst (λ n. n < 256 ^ 8) (sym u.1.0) t.1),
      );
  again = λ x rest k.
      ap (λ l. number_at 8 l >>= λ n. bytes_at n.0 n.1) (append_assoc (high 8 (length x)) x rest)
      ∙ ap (λ (v : Read ℕ). v >>= λ n. bytes_at n.0 n.1) ((exact_number 8).again (length x) (x ++ rest) k.1)
      ∙ (exact_bytes (length x)).again x rest (refl, k.0);
}
