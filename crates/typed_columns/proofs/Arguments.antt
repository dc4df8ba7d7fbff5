-- Laws of a list kept in the front of a longer one.
use Rattle.std.proofs.Common.{◌≡◌, ℕ, ◌+◌, ◌≤◌, ◌<◌, List, [], ◌∷◌, ◌++◌, length, map, get_or, set, take, ap, sym, ◌∙◌, arith}
use Rattle.std.specs.Prelude.{Some}
use Rattle.std.specs.List.{slice_get}
use Rattle.std.specs.Option.{option_map}
use Rattle.std.proofs.lemmas.Option.{slice_get-map, slice_get-get_or}
use Rattle.std.proofs.lemmas.List.{length-map, length-take-le, map-append, take_more_set}

pub length-front : {A B : Type 0} (f : A → B) (xs : List A) (n : ℕ) → n ≤ length xs → length (map f (take n xs)) ≡ n
length-front f xs n h = length-map (take n xs) f ∙ length-take-le n xs h

pub front-push : {A B : Type 0} (f : A → B) (xs : List A) (n : ℕ) (x : A) → n < length xs →
    map f (take (n + 1) (set xs n x)) ≡ map f (take n xs) ++ f x ∷ []
front-push f xs n x h = ap (map f) (take_more_set xs n x h) ∙ map-append f (take n xs) (x ∷ [])

pub length-mapped : {A B : Type 0} (f : A → B) (xs : List A) (ys : List B) (n : ℕ) → map f xs ≡ ys → n ≡ length xs → n ≡ length ys
length-mapped f xs ys n is same = same ∙ sym (length-map xs f) ∙ ap length is

pub within-mapped : {A B : Type 0} (f : A → B) (xs : List A) (ys : List B) (i : ℕ) → map f xs ≡ ys → i < length ys → i < length xs
within-mapped f xs ys i is h = omega (arith, h, length-map xs f, ap length is)

pub mapped-get : {A B : Type 0} (f : A → B) (xs : List A) (ys : List B) (i : ℕ) (x : A) → map f xs ≡ ys → i < length xs → x ≡ get_or xs i x →
    slice_get ys i ≡ Some (f x)
mapped-get f xs ys i x all h is =
    ap (λ zs. slice_get zs i) (sym all) ∙ slice_get-map f xs i ∙ ap (option_map f) (slice_get-get_or xs i x h ∙ ap Some (sym is))

pub ruleset argument_laws = (length-front, front-push, length-mapped, within-mapped, mapped-get)
