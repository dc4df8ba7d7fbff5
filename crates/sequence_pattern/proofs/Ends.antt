-- A match exists if the last item has a hit.
use Rattle.std.proofs.Common.{◌≡◌, ℕ, zero, suc, ◌+◌, ◌<◌, ◌≤◌, Bool, true, false, cond, ◌&&◌, ◌||◌, List, [], ◌∷◌, ◌++◌, map, length, get_or, drop, refl, sym, ap, ap₂, ◌∙◌, arith, drop-cons}
use Rattle.std.proofs.Math.Seq.{drop-length}
use Rattle.std.proofs.lemmas.List.{drop_all}
use Rattle.agg_terms.specs.Chains.{Any, Next, PatItem, PatLink, Pattern}
use Rattle.agg_terms.specs.Values.{Event}
use Rattle.agg_terms.specs.Lists.{numbered, some}
use Rattle.agg_meaning.specs.Events.{sublists, meets, linked, meet_items, meet_links, is_match, is_matched}
use Rattle.sequence_pattern.specs.proving.Hits.{any_below, spot, next_hits, hit}
use Rattle.sequence_pattern.proofs.Below.{any_below-same, any_below-or, any_below-and, any_below-none}

-- some list passes a test
any_of : (List (ℕ × Event) → Bool) → List (List (ℕ × Event)) → Bool
any_of test [] = false
any_of test (s ∷ ss) = test s || any_of test ss

or_assoc : (a b c : Bool) → (a || b) || c ≡ a || (b || c)
or_assoc true b c = refl
or_assoc false b c = refl

and_assoc : (a b c : Bool) → (a && b) && c ≡ a && (b && c)
and_assoc true b c = refl
and_assoc false b c = refl

or_false : (a : Bool) → a || false ≡ a
or_false true = refl
or_false false = refl

and_true : (b : Bool) → b && true ≡ b
and_true true = refl
and_true false = refl

and_false : (b : Bool) → b && false ≡ false
and_false true = refl
and_false false = refl

any_of-append : (test : List (ℕ × Event) → Bool) (A B : List (List (ℕ × Event))) → any_of test (A ++ B) ≡ any_of test A || any_of test B
unfolding any_of
any_of-append test [] B = refl
any_of-append test (s ∷ A) B =
    ap (λ b. test s || b) (any_of-append test A B) ∙ sym (or_assoc (test s) (any_of test A) (any_of test B))

any_of-cons : (test : List (ℕ × Event) → Bool) (e : ℕ × Event) (ss : List (List (ℕ × Event))) → any_of test (map (λ s. e ∷ s) ss) ≡ any_of (λ s. test (e ∷ s)) ss
unfolding any_of
any_of-cons test e [] = refl
any_of-cons test e (s ∷ ss) = ap (λ b. test (e ∷ s) || b) (any_of-cons test e ss)

any_of-same : (f g : List (ℕ × Event) → Bool) (ss : List (List (ℕ × Event))) → ((s : List (ℕ × Event)) → f s ≡ g s) → any_of f ss ≡ any_of g ss
unfolding any_of
any_of-same f g [] h = refl
any_of-same f g (s ∷ ss) h = ap₂ ◌||◌ (h s) (any_of-same f g ss h)

any_of-none : (ss : List (List (ℕ × Event))) → any_of (λ s. false) ss ≡ false
unfolding any_of
any_of-none [] = refl
any_of-none (s ∷ ss) = any_of-none ss

any_of-guarded : (b : Bool) (f : List (ℕ × Event) → Bool) (ss : List (List (ℕ × Event))) → any_of (λ s. b && f s) ss ≡ b && any_of f ss
any_of-guarded true f ss = refl
any_of-guarded false f ss = any_of-none ss

any_of-one : (f : List (ℕ × Event) → Bool) → any_of f ([] ∷ []) ≡ f []
unfolding any_of
any_of-one f = or_false (f [])

-- whether a match that has come to a place ends in these events
cont : List PatLink → List PatItem → ℕ × Event → List (ℕ × Event) → Bool
cont [] is a es = true
cont (l ∷ ls) [] a es = true
cont (l ∷ ls) (i ∷ is) a [] = false
cont (l ∷ ls) (i ∷ is) a (e ∷ es) = ((linked l a e && meets i e.1) && cont ls is e es) || cont (l ∷ ls) (i ∷ is) a es

regroup : (m k I L : Bool) → (m && I) && (k && L) ≡ (k && m) && (I && L)
regroup true true I L = refl
regroup true false true L = refl
regroup true false false L = refl
regroup false true I L = refl
regroup false false I L = refl

cont-any : (ls : List PatLink) (is : List PatItem) (a : ℕ × Event) (es : List (ℕ × Event)) → length ls ≡ length is → any_of (λ s. meet_items is s && meet_links ls (a ∷ s)) (sublists es) ≡ cont ls is a es
unfolding cont
cont-any [] [] a [] h = any_of-one (λ s. meet_items [] s && true)
cont-any [] [] a (e ∷ es) h =
    any_of-append (λ s. meet_items [] s && true) (map (λ s. e ∷ s) (sublists es)) (sublists es)
    ∙ ap₂ ◌||◌ (any_of-cons (λ s. meet_items [] s && true) e (sublists es) ∙ any_of-none (sublists es)) (cont-any [] [] a es h)
cont-any [] (i ∷ is) a es h = absurd (omega arith)
cont-any (l ∷ ls) [] a es h = absurd (omega arith)
cont-any (l ∷ ls) (i ∷ is) a [] h = any_of-one (λ s. meet_items (i ∷ is) s && meet_links (l ∷ ls) (a ∷ s))
cont-any (l ∷ ls) (i ∷ is) a (e ∷ es) h =
    any_of-append (λ s. meet_items (i ∷ is) s && meet_links (l ∷ ls) (a ∷ s)) (map (λ s. e ∷ s) (sublists es)) (sublists es)
    ∙ ap₂ ◌||◌
    (any_of-cons (λ s. meet_items (i ∷ is) s && meet_links (l ∷ ls) (a ∷ s)) e (sublists es)
    ∙ any_of-same (λ s. (meets i e.1 && meet_items is s) && (linked l a e && meet_links ls (e ∷ s))) (λ s. (linked l a e && meets i e.1) && (meet_items is s && meet_links ls (e ∷ s))) (sublists es) (λ s. regroup (meets i e.1) (linked l a e) (meet_items is s) (meet_links ls (e ∷ s)))
    ∙ any_of-guarded (linked l a e && meets i e.1) (λ s. meet_items is s && meet_links ls (e ∷ s)) (sublists es)
    ∙ ap (λ b. (linked l a e && meets i e.1) && b) (cont-any ls is e es (omega arith)))
    (cont-any (l ∷ ls) (i ∷ is) a es h)

-- whether a match begins and ends in these events
begin : PatItem → List PatLink → List PatItem → List (ℕ × Event) → Bool
begin i ls is [] = false
begin i ls is (e ∷ es) = (meets i e.1 && cont ls is e es) || begin i ls is es

begin-any : (i : PatItem) (ls : List PatLink) (is : List PatItem) (es : List (ℕ × Event)) → length ls ≡ length is → any_of (λ s. meet_items (i ∷ is) s && meet_links ls s) (sublists es) ≡ begin i ls is es
unfolding begin
begin-any i ls is [] h = any_of-one (λ s. meet_items (i ∷ is) s && meet_links ls s)
begin-any i ls is (e ∷ es) h =
    any_of-append (λ s. meet_items (i ∷ is) s && meet_links ls s) (map (λ s. e ∷ s) (sublists es)) (sublists es)
    ∙ ap₂ ◌||◌
    (any_of-cons (λ s. meet_items (i ∷ is) s && meet_links ls s) e (sublists es)
    ∙ any_of-same (λ s. (meets i e.1 && meet_items is s) && meet_links ls (e ∷ s)) (λ s. meets i e.1 && (meet_items is s && meet_links ls (e ∷ s))) (sublists es) (λ s. and_assoc (meets i e.1) (meet_items is s) (meet_links ls (e ∷ s)))
    ∙ any_of-guarded (meets i e.1) (λ s. meet_items is s && meet_links ls (e ∷ s)) (sublists es)
    ∙ ap (λ b. meets i e.1 && b) (cont-any ls is e es h))
    (begin-any i ls is es h)

some-any_of : (p : Pattern) (ss : List (List (ℕ × Event))) → some (is_match p) ss ≡ any_of (λ s. meet_items p.items s && meet_links p.links s) ss
unfolding any_of
some-any_of p [] = refl
some-any_of p (s ∷ ss) = cond-or (meet_items p.items s && meet_links p.links s) ∙ ap (λ b. (meet_items p.items s && meet_links p.links s) || b) (some-any_of p ss)
  where
    cond-or : (b : Bool) → cond b true (some (is_match p) ss) ≡ b || some (is_match p) ss
    cond-or true = refl
    cond-or false = refl

-- the events from a place on
rest : List Event → ℕ → List (ℕ × Event)
rest es n = numbered n (drop n es)

rest-at : (es : List Event) (n : ℕ) → n < length es → rest es n ≡ spot es n ∷ rest es (suc n)
unfolding rest
rest-at es n l = ap (numbered n) (drop-cons es n (record { time = 0; mask = 0 }) l)

rest-end : (es : List Event) → rest es (length es) ≡ []
unfolding rest
rest-end es = ap (numbered (length es)) (drop-length es)

-- a match goes on from an item to the next
spread : (h k m d c : Bool) → h && (((k && m) && d) || c) ≡ ((h && k) && (m && d)) || (h && c)
spread false k m d c = refl
spread true false m d c = refl
spread true true true d c = refl
spread true true false d c = refl

turn_back : (n m d : Bool) → n && (m && d) ≡ (m && n) && d
turn_back true true d = refl
turn_back true false d = refl
turn_back false true d = refl
turn_back false false d = refl

sort : (x y a b : Bool) → x || ((y || a) || b) ≡ (x || a) || (y || b)
sort true y a b = refl
sort false true true b = refl
sort false true false b = refl
sort false false a b = refl

turn : (es : List Event) (l : PatLink) (ls : List PatLink) (i : PatItem) (is : List PatItem) (h : ℕ → Bool) (n : ℕ) → n < length es → any_below n (λ q. h q && cont (l ∷ ls) (i ∷ is) (spot es q) (rest es n)) ≡ (next_hits es l i h n && cont ls is (spot es n) (rest es (suc n))) || any_below n (λ q. h q && cont (l ∷ ls) (i ∷ is) (spot es q) (rest es (suc n)))
unfolding cont
turn es l ls i is h n lt =
    let later = rest es (suc n) in
    let m = meets i (spot es n).1 in
    let d = cont ls is (spot es n) later in
    any_below-same n (λ q. h q && cont (l ∷ ls) (i ∷ is) (spot es q) (rest es n)) (λ q. ((h q && linked l (spot es q) (spot es n)) && (m && d)) || (h q && cont (l ∷ ls) (i ∷ is) (spot es q) later)) (λ q k. ap (λ r. h q && cont (l ∷ ls) (i ∷ is) (spot es q) r) (rest-at es n lt) ∙ spread (h q) (linked l (spot es q) (spot es n)) m d (cont (l ∷ ls) (i ∷ is) (spot es q) later))
    ∙ any_below-or n (λ q. (h q && linked l (spot es q) (spot es n)) && (m && d)) (λ q. h q && cont (l ∷ ls) (i ∷ is) (spot es q) later)
    ∙ ap (λ b. b || any_below n (λ q. h q && cont (l ∷ ls) (i ∷ is) (spot es q) later)) (any_below-and n (λ q. h q && linked l (spot es q) (spot es n)) (m && d) ∙ turn_back (any_below n (λ q. h q && linked l (spot es q) (spot es n))) m d)

exchange : (es : List Event) (l : PatLink) (ls : List PatLink) (i : PatItem) (is : List PatItem) (h : ℕ → Bool) (n : ℕ) → n ≤ length es → any_below n (λ q. h q && cont (l ∷ ls) (i ∷ is) (spot es q) (rest es (suc q))) ≡ any_below n (λ q. h q && cont (l ∷ ls) (i ∷ is) (spot es q) (rest es n)) || any_below n (λ p. next_hits es l i h p && cont ls is (spot es p) (rest es (suc p)))
exchange es l ls i is h zero lt = refl
exchange es l ls i is h (suc n) lt =
    let x = h n && cont (l ∷ ls) (i ∷ is) (spot es n) (rest es (suc n)) in
    let y = next_hits es l i h n && cont ls is (spot es n) (rest es (suc n)) in
    let a = any_below n (λ q. h q && cont (l ∷ ls) (i ∷ is) (spot es q) (rest es (suc n))) in
    let b = any_below n (λ p. next_hits es l i h p && cont ls is (spot es p) (rest es (suc p))) in
    ap (λ k. x || k) (exchange es l ls i is h n (omega arith))
    ∙ ap (λ k. x || (k || b)) (turn es l ls i is h n (omega arith))
    ∙ sort x y a b

exchanged : (es : List Event) (l : PatLink) (ls : List PatLink) (i : PatItem) (is : List PatItem) (h : ℕ → Bool) → any_below (length es) (λ q. h q && cont (l ∷ ls) (i ∷ is) (spot es q) (rest es (suc q))) ≡ any_below (length es) (λ p. next_hits es l i h p && cont ls is (spot es p) (rest es (suc p)))
unfolding cont
exchanged es l ls i is h =
    exchange es l ls i is h (length es) (omega arith)
    ∙ ap (λ k. k || any_below (length es) (λ p. next_hits es l i h p && cont ls is (spot es p) (rest es (suc p)))) (any_below-none (length es) (λ q. h q && cont (l ∷ ls) (i ∷ is) (spot es q) (rest es (length es))) (λ q k. ap (λ r. h q && cont (l ∷ ls) (i ∷ is) (spot es q) r) (rest-end es) ∙ and_false (h q)))

-- the first item
started : (es : List Event) (i : PatItem) (ls : List PatLink) (is : List PatItem) (n : ℕ) → n ≤ length es → any_below n (λ q. meets i (spot es q).1 && cont ls is (spot es q) (rest es (suc q))) || begin i ls is (rest es n) ≡ begin i ls is (rest es 0)
unfolding begin
started es i ls is zero lt = refl
started es i ls is (suc n) lt =
    let x = meets i (spot es n).1 && cont ls is (spot es n) (rest es (suc n)) in
    let a = any_below n (λ q. meets i (spot es q).1 && cont ls is (spot es q) (rest es (suc q))) in
    later x a (begin i ls is (rest es (suc n)))
    ∙ ap (λ r. a || begin i ls is r) (sym (rest-at es n (omega arith)))
    ∙ started es i ls is n (omega arith)
  where
    later : (x a b : Bool) → (x || a) || b ≡ a || (x || b)
    later true true b = refl
    later true false b = refl
    later false a b = refl

begun : (es : List Event) (i : PatItem) (ls : List PatLink) (is : List PatItem) → begin i ls is (rest es 0) ≡ any_below (length es) (λ q. meets i (spot es q).1 && cont ls is (spot es q) (rest es (suc q)))
unfolding begin
begun es i ls is =
    let a = any_below (length es) (λ q. meets i (spot es q).1 && cont ls is (spot es q) (rest es (suc q))) in
    sym (started es i ls is (length es) (omega arith)) ∙ ap (λ r. a || begin i ls is r) (rest-end es) ∙ or_false a

-- all further items
ended : (es : List Event) (items : List PatItem) (links : List PatLink) (j m : ℕ) → length items ≡ suc (j + m) → length links ≡ j + m → any_below (length es) (λ q. hit items links es j q && cont (drop j links) (drop (suc j) items) (spot es q) (rest es (suc q))) ≡ any_below (length es) (hit items links es (j + m))
unfolding cont
ended es items links j zero h k =
    let none : drop j links ≡ [] = drop_all j links (omega arith) in
    let whole : j ≡ j + 0 = omega arith in
    any_below-same (length es) (λ q. hit items links es j q && cont (drop j links) (drop (suc j) items) (spot es q) (rest es (suc q))) (hit items links es j) (λ q l. ap (λ ls. hit items links es j q && cont ls (drop (suc j) items) (spot es q) (rest es (suc q))) none ∙ and_true (hit items links es j q))
    ∙ ap (λ n. any_below (length es) (hit items links es n)) whole
ended es items links j (suc m) h k =
    let l = get_or links j Next in
    let i = get_or items (suc j) Any in
    let whole : suc j + m ≡ j + suc m = omega arith in
    ap₂ (λ ls is. any_below (length es) (λ q. hit items links es j q && cont ls is (spot es q) (rest es (suc q)))) (drop-cons links j Next (omega arith)) (drop-cons items (suc j) Any (omega arith))
    ∙ exchanged es l (drop (suc j) links) i (drop (suc (suc j)) items) (hit items links es j)
    ∙ ended es items links (suc j) m (omega arith) (omega arith)
    ∙ ap (λ n. any_below (length es) (hit items links es n)) whole

matched_lists : (items : List PatItem) (links : List PatLink) (es : List Event) (k : ℕ) → length items ≡ suc k → length links ≡ k → any_of (λ s. meet_items items s && meet_links links s) (sublists (numbered 0 es)) ≡ any_below (length es) (hit items links es k)
unfolding rest
matched_lists [] links es k h g = absurd (omega arith)
matched_lists (i ∷ is) links es k h g =
    let whole : 0 + k ≡ k = omega arith in
    begin-any i links is (numbered 0 es) (omega arith)
    ∙ begun es i links is
    ∙ ended es (i ∷ is) links 0 k (omega arith) (omega arith)
    ∙ ap (λ n. any_below (length es) (hit (i ∷ is) links es n)) whole

pub matched : (p : Pattern) (es : List Event) (k : ℕ) → length p.items ≡ suc k → length p.links ≡ k → is_matched p es ≡ any_below (length es) (hit p.items p.links es k)
matched p es k h g = some-any_of p (sublists (numbered 0 es)) ∙ matched_lists p.items p.links es k h g
