-- What has been read stays so whatever follows, and so does a fault other than that the bytes end.
use Rattle.state_texts.specs.declared.version.Version.{Version}
use Rattle.std.proofs.Common.{◌≡◌, ℕ, zero, suc, ◌+◌, ◌≤◌, ltb, Bool, true, false, cond, List, [], ◌∷◌, ◌++◌, length, take, drop, Some, Ok, Err, refl, sym, ap, subst, arith}
use Rattle.std.proofs.lemmas.Bool.{ltb-false, le-ltb}
use Rattle.std.proofs.lemmas.List.{length-append}
use Rattle.agg_terms.specs.Chains.{Chain, Ty}
use Rattle.agg_terms.specs.Values.{Value}
use Rattle.scalar_texts.specs.declared.fault.StateFault.{StateFault}
use Rattle.scalar_texts.specs.declared.fault.StateFault.TheVariants.{Short, Version as OtherVersion, BadTag, NotCanonical, Long}
use Rattle.state_texts.specs.Figures.{worth}
use Rattle.state_codec.specs.Reading.{Read, ◌>>=◌, made, place, bytes_at, number_at, string_at, kept_at, both_at, flag_at, tag_at, items_at, list_at, body_at}
use Rattle.state_codec.proofs.Closed.{no_value, none_of, closed_body}

-- a fault that no further byte changes
abbrev pub Stays : {X : Type 0} → StateFault → Read X → Type 0
Stays Short later = Unit {0}
Stays f later = later ≡ Err f

abbrev pub Steady : {X : Type 0} → List ℕ → Read X → Read X → Type 0
Steady more (Ok x) later = later ≡ Ok (x.0, x.1 ++ more)
Steady more (Err f) later = Stays f later

stays_bind : {X Y : Type 0} (f : StateFault) (later : Read X) (k : X × List ℕ → Read Y) → Stays f later → Stays f (later >>= k)
stays_bind Short later k s = tt
stays_bind (OtherVersion v) later k s = ap (λ r. r >>= k) s
stays_bind (BadTag at) later k s = ap (λ r. r >>= k) s
stays_bind (NotCanonical at) later k s = ap (λ r. r >>= k) s
stays_bind (Long at) later k s = ap (λ r. r >>= k) s

pub steady_bind : {X Y : Type 0} (more : List ℕ) (r later : Read X) (k l : X × List ℕ → Read Y) → Steady more r later → ((x : X) (rest : List ℕ) → Steady more (k (x, rest)) (l (x, rest ++ more))) → Steady more (r >>= k) (later >>= l)
steady_bind more (Ok x) later k l s h = subst (λ (r : Read _). Steady more (k x) (r >>= l)) (sym s) (h x.0 x.1)
steady_bind more (Err f) later k l s h = stays_bind f later l s

-- of a text that goes on
unfoldable pub IsSteady : {X : Type 0} → (ℕ → List ℕ → Read X) → Type 0
IsSteady read = (whole : ℕ) (bytes more : List ℕ) → Steady more (read whole bytes) (read (whole + length more) (bytes ++ more))

pub steady_made : {X Y : Type 0} (f : X → Y) (read : ℕ → List ℕ → Read X) → IsSteady read → IsSteady (λ whole bytes. made f (read whole bytes))
unfolding IsSteady
steady_made f read s whole bytes more = steady_bind more (read whole bytes) (read (whole + length more) (bytes ++ more)) (λ x. Ok (f x.0, x.1)) (λ x. Ok (f x.0, x.1)) (s whole bytes more) (λ x rest. refl)

take_more : (k : ℕ) (bytes more : List ℕ) → k ≤ length bytes → take k (bytes ++ more) ≡ take k bytes
take_more zero bytes more l = refl
take_more (suc k) [] more l = absurd (omega (arith, l))
take_more (suc k) (b ∷ bytes) more l = ap (◌∷◌ b) (take_more k bytes more (omega (arith, l)))

drop_more : (k : ℕ) (bytes more : List ℕ) → k ≤ length bytes → drop k (bytes ++ more) ≡ drop k bytes ++ more
drop_more zero bytes more l = refl
drop_more (suc k) [] more l = absurd (omega (arith, l))
drop_more (suc k) (b ∷ bytes) more l = drop_more k bytes more (omega (arith, l))

pub steady_bytes : (k : ℕ) → IsSteady (λ whole. bytes_at k)
unfolding IsSteady bytes_at
steady_bytes k whole bytes more = go (ltb (length bytes) k) refl
  where
    go : (b : Bool) → ltb (length bytes) k ≡ b → Steady more (cond b (Err Short) (Ok (take k bytes, drop k bytes))) (cond (ltb (length (bytes ++ more)) k) (Err Short) (Ok (take k (bytes ++ more), drop k (bytes ++ more))))
    go true e = tt
    go false e =
        let long : k ≤ length bytes = ltb-false (length bytes) k e in
        let longer : ltb (length (bytes ++ more)) k ≡ false = le-ltb (length (bytes ++ more)) k (omega (arith, length-append bytes more, long)) in
        rw (longer, take_more k bytes more long, drop_more k bytes more long) refl

pub steady_number : (k : ℕ) → IsSteady (λ whole. number_at k)
steady_number k = steady_made worth (λ whole. bytes_at k) (steady_bytes k)

pub steady_string : IsSteady (λ whole. string_at)
unfolding IsSteady string_at
steady_string whole bytes more =
    steady_bind more (number_at 8 bytes) (number_at 8 (bytes ++ more)) (λ n. bytes_at n.0 n.1) (λ n. bytes_at n.0 n.1) (steady_number 8 whole bytes more) (λ n rest. steady_bytes n whole rest more)

pub same_place : (whole : ℕ) (bytes more : List ℕ) → place (whole + length more) (bytes ++ more) ≡ place whole bytes
same_place whole bytes more = omega (arith, length-append bytes more)

pub steady_kept : {X : Type 0} (test : X → Bool) (read : ℕ → List ℕ → Read X) → IsSteady read → IsSteady (λ whole. kept_at whole test (read whole))
unfolding IsSteady kept_at
steady_kept {X = X} test read s whole bytes more =
    steady_bind more (read whole bytes) (read (whole + length more) (bytes ++ more)) (λ x. cond (test x.0) (Ok x) (Err (NotCanonical (place whole bytes)))) (λ x. cond (test x.0) (Ok x) (Err (NotCanonical (place (whole + length more) (bytes ++ more))))) (s whole bytes more) (λ x rest. go x rest (test x))
  where
    go : (x : X) (rest : List ℕ) (b : Bool) → Steady more (cond b (Ok (x, rest)) (Err (NotCanonical (place whole bytes)))) (cond b (Ok (x, rest ++ more)) (Err (NotCanonical (place (whole + length more) (bytes ++ more)))))
    go x rest true = refl
    go x rest false = rw (same_place whole bytes more) refl

pub steady_both : {X Y : Type 0} (first : ℕ → List ℕ → Read X) (second : ℕ → List ℕ → Read Y) → IsSteady first → IsSteady second → IsSteady (λ whole. both_at (first whole) (second whole))
unfolding IsSteady both_at
steady_both first second s t whole bytes more =
    let later = whole + length more in
    steady_bind more (first whole bytes) (first later (bytes ++ more)) (λ x. second whole x.1 >>= λ y. Ok ((x.0, y.0), y.1)) (λ x. second later x.1 >>= λ y. Ok ((x.0, y.0), y.1)) (s whole bytes more)
    (λ x rest. steady_bind more (second whole rest) (second later (rest ++ more)) (λ y. Ok ((x, y.0), y.1)) (λ y. Ok ((x, y.0), y.1)) (t whole rest more) (λ y left. refl))

pub steady_flag : {X : Type 0} (read : ℕ → List ℕ → Read X) → IsSteady read → IsSteady (λ whole. flag_at whole (read whole))
unfolding IsSteady flag_at tag_at
steady_flag read s whole [] more = tt
steady_flag read s whole (zero ∷ rest) more = refl
steady_flag read s whole (suc zero ∷ rest) more = steady_made (λ x. Some x) read s whole rest more
steady_flag read s whole (suc (suc b) ∷ rest) more = ap (λ at. Err (BadTag at)) (same_place whole (suc (suc b) ∷ rest) more)

pub steady_items : {X : Type 0} (read : ℕ → List X → List ℕ → Read X) → ((earlier : List X) → IsSteady (λ whole. read whole earlier)) → (n : ℕ) (earlier : List X) → IsSteady (λ whole. items_at (read whole) n earlier)
unfolding IsSteady items_at
steady_items read s zero earlier whole bytes more = refl
steady_items read s (suc n) earlier whole bytes more =
    let later = whole + length more in
    steady_bind more (read whole earlier bytes) (read later earlier (bytes ++ more)) (λ x. items_at (read whole) n (x.0 ∷ earlier) x.1 >>= λ xs. Ok (x.0 ∷ xs.0, xs.1)) (λ x. items_at (read later) n (x.0 ∷ earlier) x.1 >>= λ xs. Ok (x.0 ∷ xs.0, xs.1)) (s earlier whole bytes more)
    (λ x rest. steady_bind more (items_at (read whole) n (x ∷ earlier) rest) (items_at (read later) n (x ∷ earlier) (rest ++ more)) (λ xs. Ok (x ∷ xs.0, xs.1)) (λ xs. Ok (x ∷ xs.0, xs.1)) (steady_items read s n (x ∷ earlier) whole rest more) (λ xs left. refl))

pub steady_list : {X : Type 0} (test : ℕ → Bool) (read : ℕ → List X → List ℕ → Read X) → ((earlier : List X) → IsSteady (λ whole. read whole earlier)) → IsSteady (λ whole. list_at whole test (read whole))
unfolding IsSteady list_at
steady_list test read s whole bytes more =
    let later = whole + length more in
    steady_bind more (kept_at whole test (number_at 8) bytes) (kept_at later test (number_at 8) (bytes ++ more)) (λ n. items_at (read whole) n.0 [] n.1) (λ n. items_at (read later) n.0 [] n.1) (steady_kept test (λ w. number_at 8) (steady_number 8) whole bytes more)
    (λ n rest. steady_items read s n [] whole rest more)

steady_short : IsSteady no_value
unfolding IsSteady
steady_short whole bytes more = tt

steady_none : (x : List Value) → IsSteady (none_of x)
unfolding IsSteady
steady_none x whole bytes more = refl

pub steady_body : (v : Version) (c : Chain) (ts : List Ty) → IsSteady (λ whole. body_at v whole c ts)
steady_body v c ts = closed_body (λ X read. IsSteady read) (record {
  of_made = λ f read s. steady_made f read s;
  of_bytes = steady_bytes;
  of_string = steady_string;
  of_short = steady_short;
  of_none = steady_none;
  of_kept = λ test read s. steady_kept test read s;
  of_both = λ first second s t. steady_both first second s t;
  of_flag = λ read s. steady_flag read s;
  of_items = λ read s n. steady_items read s n [];
  of_list = λ test read s. steady_list test read s;
}) v c ts
