-- Names by what they mean.
use Rattle.std.proofs.Common.{◌≡◌, ℕ, List, codes, Bool, true, false, cond, refl}
use Rattle.std.specs.Str.{bytes_eq}
use Rattle.std.proofs.lemmas.Slice.Eq.{bytes_eq-Decides}
use Rattle.type_names.specs.TypeTexts.{is_plain_name}
use Rattle.type_names.specs.declared.goal.Kind.{Kind}
use Rattle.type_names.specs.declared.goal.Kind.TheVariants.{PlainName, ArrayName, MapName, NullableName, StateName, OtherName}
use Rattle.type_names.specs.Judging.{kind_of}

abbrev pub IsKind : Kind → List ℕ → Type 0
IsKind PlainName w = is_plain_name w ≡ true
IsKind ArrayName w = w ≡ codes "Array"
IsKind MapName w = w ≡ codes "Map"
IsKind NullableName w = w ≡ codes "Nullable"
IsKind StateName w = w ≡ codes "AggregateFunction"
IsKind OtherName w = Unit {0}

by_test : (t : Bool) (m n : Kind) (w : List ℕ) → (t ≡ true → IsKind m w) → (t ≡ false → IsKind n w) → IsKind (cond t m n) w
by_test true m n w f g = f refl
by_test false m n w f g = g refl

pub same_bytes : (x y : List ℕ) → bytes_eq x y ≡ true → x ≡ y
same_bytes x y e = (bytes_eq-Decides x y).0 e

pub is_kind : (w : List ℕ) → IsKind (kind_of w) w
is_kind w =
    by_test (is_plain_name w) _ _ w (λ e. e) (λ _.
    by_test (bytes_eq w (codes "Array")) _ _ w (same_bytes w _) (λ _.
    by_test (bytes_eq w (codes "Map")) _ _ w (same_bytes w _) (λ _.
    by_test (bytes_eq w (codes "Nullable")) _ _ w (same_bytes w _) (λ _.
    by_test (bytes_eq w (codes "AggregateFunction")) _ _ w (same_bytes w _) (λ _. tt)))))
