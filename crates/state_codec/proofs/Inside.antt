-- A fault of a body is one of three, at or after the place where reading stands.
use Rattle.state_texts.specs.declared.version.Version.{Version}
use Rattle.std.proofs.Common.{ℕ, zero, suc, ◌<◌, ◌≤◌, max, ltb, Bool, true, false, cond, List, [], ◌∷◌, length, take, drop, Some, Ok, Err, arith}
use Rattle.std.proofs.lemmas.List.{length-drop}
use Rattle.agg_terms.specs.Chains.{Chain, Ty}
use Rattle.agg_terms.specs.Values.{Value}
use Rattle.scalar_texts.specs.declared.fault.StateFault.{StateFault}
use Rattle.scalar_texts.specs.declared.fault.StateFault.TheVariants.{Short, Version as OtherVersion, BadTag, NotCanonical, Long}
use Rattle.state_texts.specs.Figures.{worth}
use Rattle.state_codec.specs.Reading.{Read, ◌>>=◌, made, place, bytes_at, number_at, string_at, kept_at, both_at, flag_at, tag_at, items_at, list_at, body_at}
use Rattle.state_codec.proofs.Closed.{no_value, none_of, closed_body}

abbrev pub IsInside : ℕ → ℕ → StateFault → Type 0
IsInside from whole Short = Unit {0}
IsInside from whole (BadTag at) = (from ≤ at) × (at < max 1 whole)
IsInside from whole (NotCanonical at) = (from ≤ at) × (at ≤ whole)
IsInside from whole (OtherVersion b) = ⊥
IsInside from whole (Long at) = ⊥

abbrev pub Inside : {X : Type 0} → ℕ → List ℕ → Read X → Type 0
Inside whole bytes (Ok x) = length x.1 ≤ length bytes
Inside whole bytes (Err f) = IsInside (place whole bytes) whole f

later_inside : (whole i j : ℕ) (f : StateFault) → i ≤ j → IsInside j whole f → IsInside i whole f
later_inside whole i j Short l k = tt
later_inside whole i j (BadTag at) l k = (omega (arith, l, k.0), k.1)
later_inside whole i j (NotCanonical at) l k = (omega (arith, l, k.0), k.1)
later_inside whole i j (OtherVersion b) l k = absurd k
later_inside whole i j (Long at) l k = absurd k

further : {X : Type 0} (whole : ℕ) (bytes rest : List ℕ) (r : Read X) → length rest ≤ length bytes → Inside whole rest r → Inside whole bytes r
further whole bytes rest (Ok x) l k = omega (arith, l, k)
further whole bytes rest (Err f) l k = later_inside whole (place whole bytes) (place whole rest) f (omega (arith, l)) k

inside_bind : {X Y : Type 0} (whole : ℕ) (bytes : List ℕ) (r : Read X) (k : X × List ℕ → Read Y) → Inside whole bytes r → ((x : X) (rest : List ℕ) → Inside whole rest (k (x, rest))) → Inside whole bytes (r >>= k)
inside_bind whole bytes (Ok x) k s h = further whole bytes x.1 (k x) s (h x.0 x.1)
inside_bind whole bytes (Err f) k s h = s

unfoldable pub StaysInside : {X : Type 0} → (ℕ → List ℕ → Read X) → Type 0
StaysInside read = (whole : ℕ) (bytes : List ℕ) → Inside whole bytes (read whole bytes)

inside_made : {X Y : Type 0} (f : X → Y) (read : ℕ → List ℕ → Read X) → StaysInside read → StaysInside (λ whole bytes. made f (read whole bytes))
unfolding StaysInside
inside_made f read s whole bytes = inside_bind whole bytes (read whole bytes) (λ x. Ok (f x.0, x.1)) (s whole bytes) (λ x rest. omega arith)

inside_bytes : (k : ℕ) → StaysInside (λ whole. bytes_at k)
unfolding StaysInside bytes_at
inside_bytes k whole bytes = go (ltb (length bytes) k)
  where
    go : (b : Bool) → Inside whole bytes (cond b (Err Short) (Ok (take k bytes, drop k bytes)))
    go true = tt
    go false = omega (arith, length-drop k bytes)

inside_number : (k : ℕ) → StaysInside (λ whole. number_at k)
unfolding StaysInside
inside_number k whole bytes = inside_bind whole bytes (bytes_at k bytes) (λ x. Ok (worth x.0, x.1)) (inside_bytes k whole bytes) (λ x rest. omega arith)

inside_string : StaysInside (λ whole. string_at)
unfolding StaysInside string_at
inside_string whole bytes = inside_bind whole bytes (number_at 8 bytes) (λ n. bytes_at n.0 n.1) (inside_number 8 whole bytes) (λ n rest. inside_bytes n whole rest)

inside_kept : {X : Type 0} (test : X → Bool) (read : ℕ → List ℕ → Read X) → StaysInside read → StaysInside (λ whole. kept_at whole test (read whole))
unfolding StaysInside kept_at
inside_kept {X = X} test read s whole bytes = go (read whole bytes) (s whole bytes)
  where
    tested : (x : X × List ℕ) (b : Bool) → length x.1 ≤ length bytes → Inside whole bytes (cond b (Ok x) (Err (NotCanonical (place whole bytes))))
    tested x true l = l
    tested x false l = (omega arith, omega arith)

    go : (r : Read X) → Inside whole bytes r → Inside whole bytes (r >>= λ x. cond (test x.0) (Ok x) (Err (NotCanonical (place whole bytes))))
    go (Ok x) l = tested x (test x.0) l
    go (Err f) l = l

inside_both : {X Y : Type 0} (first : ℕ → List ℕ → Read X) (second : ℕ → List ℕ → Read Y) → StaysInside first → StaysInside second → StaysInside (λ whole. both_at (first whole) (second whole))
unfolding StaysInside both_at
inside_both first second s t whole bytes =
    inside_bind whole bytes (first whole bytes) (λ x. second whole x.1 >>= λ y. Ok ((x.0, y.0), y.1)) (s whole bytes)
    (λ x rest. inside_bind whole rest (second whole rest) (λ y. Ok ((x, y.0), y.1)) (t whole rest) (λ y left. omega arith))

inside_flag : {X : Type 0} (read : ℕ → List ℕ → Read X) → StaysInside read → StaysInside (λ whole. flag_at whole (read whole))
unfolding StaysInside flag_at tag_at
inside_flag read s whole [] = tt
inside_flag read s whole (zero ∷ rest) = omega arith
inside_flag read s whole (suc zero ∷ rest) = further whole (1 ∷ rest) rest (made (λ x. Some x) (read whole rest)) (omega arith) (inside_made (λ x. Some x) read s whole rest)
inside_flag read s whole (suc (suc b) ∷ rest) = (omega arith, omega arith)

inside_items : {X : Type 0} (read : ℕ → List X → List ℕ → Read X) → ((earlier : List X) → StaysInside (λ whole. read whole earlier)) → (n : ℕ) (earlier : List X) → StaysInside (λ whole. items_at (read whole) n earlier)
unfolding StaysInside items_at
inside_items read s zero earlier whole bytes = omega arith
inside_items read s (suc n) earlier whole bytes =
    inside_bind whole bytes (read whole earlier bytes) (λ x. items_at (read whole) n (x.0 ∷ earlier) x.1 >>= λ xs. Ok (x.0 ∷ xs.0, xs.1)) (s earlier whole bytes)
    (λ x rest. inside_bind whole rest (items_at (read whole) n (x ∷ earlier) rest) (λ xs. Ok (x ∷ xs.0, xs.1)) (inside_items read s n (x ∷ earlier) whole rest) (λ xs left. omega arith))

inside_list : {X : Type 0} (test : ℕ → Bool) (read : ℕ → List X → List ℕ → Read X) → ((earlier : List X) → StaysInside (λ whole. read whole earlier)) → StaysInside (λ whole. list_at whole test (read whole))
unfolding StaysInside list_at
inside_list test read s whole bytes =
    inside_bind whole bytes (kept_at whole test (number_at 8) bytes) (λ n. items_at (read whole) n.0 [] n.1) (inside_kept test (λ w. number_at 8) (inside_number 8) whole bytes)
    (λ n rest. inside_items read s n [] whole rest)

inside_short : StaysInside no_value
unfolding StaysInside
inside_short whole bytes = tt

inside_none : (x : List Value) → StaysInside (none_of x)
unfolding StaysInside
inside_none x whole bytes = omega arith

pub inside_body : (v : Version) (c : Chain) (ts : List Ty) → StaysInside (λ whole. body_at v whole c ts)
inside_body v c ts = closed_body (λ X read. StaysInside read) (record {
  of_made = λ f read s. inside_made f read s;
  of_bytes = inside_bytes;
  of_string = inside_string;
  of_short = inside_short;
  of_none = inside_none;
  of_kept = λ test read s. inside_kept test read s;
  of_both = λ first second s t. inside_both first second s t;
  of_flag = λ read s. inside_flag read s;
  of_items = λ read s n. inside_items read s n [];
  of_list = λ test read s. inside_list test read s;
}) v c ts
