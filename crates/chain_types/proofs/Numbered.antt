-- A list is numbered from the left.
use Rattle.std.proofs.Common.{◌≡◌, ap, sym, ◌∙◌, ℕ, suc, ◌+◌, ◌<◌, ◌≤◌, List, [], ◌∷◌, ◌++◌, length, get_or, take, map, arith}
use Rattle.std.proofs.lemmas.List.{map-append, length-map, length-take-le, take_more}
use Rattle.agg_terms.specs.Lists.{numbered}

numbered-snoc : {Y : Type 0} (k : ℕ) (ys : List Y) (y : Y) → numbered k (ys ++ y ∷ []) ≡ numbered k ys ++ (k + length ys, y) ∷ []
numbered-snoc k [] y = let e : k ≡ k + 0 = omega arith in ap (λ n. (n, y) ∷ []) e
numbered-snoc k (z ∷ zs) y =
    let e : suc k + length zs ≡ k + length (z ∷ zs) = omega arith in
    ap (λ t. (k, z) ∷ t) (numbered-snoc (suc k) zs y ∙ ap (λ n. numbered (suc k) zs ++ (n, y) ∷ []) e)

-- one more is numbered
pub number_more : {X Y Z : Type 0} (image : X → ℕ × Y) (f : Z → Y) (items news : List X) (zs : List Z) (i : ℕ) (x : X) (d : Z) →
    news ≡ items ++ x ∷ [] → i < length zs → map image items ≡ numbered 1 (map f (take i zs)) → image x ≡ (i + 1, f (get_or zs i d)) →
    map image news ≡ numbered 1 (map f (take (i + 1) zs))
number_more image f items news zs i x d new h e g =
    let inside : i ≤ length zs = omega arith in
    let long : length (map f (take i zs)) ≡ i = rw length-map (length-take-le i zs inside) in
    let at : 1 + length (map f (take i zs)) ≡ i + 1 = omega arith in
    ap (map image) new
    ∙ map-append image items (x ∷ [])
    ∙ ap (λ t. t ++ image x ∷ []) e
    ∙ ap (λ p. numbered 1 (map f (take i zs)) ++ p ∷ []) (g ∙ ap (λ n. (n, f (get_or zs i d))) (sym at))
    ∙ sym (numbered-snoc 1 (map f (take i zs)) (f (get_or zs i d)))
    ∙ ap (numbered 1) (sym (map-append f (take i zs) (get_or zs i d ∷ [])) ∙ ap (map f) (sym (take_more zs i d h)))
