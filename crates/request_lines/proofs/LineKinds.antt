-- The first words of lines of scripts by what they mean.
use Rattle.std.proofs.Common.{◌≡◌, ℕ, List, codes, Bool, true, false, cond, refl}
use Rattle.std.specs.Str.{bytes_eq}
use Rattle.std.proofs.lemmas.Slice.Eq.{bytes_eq-Decides}
use Rattle.request_lines.specs.declared.script.LineKind.{LineKind}
use Rattle.request_lines.specs.declared.script.LineKind.TheVariants.{View, Session, Insert, Load, Read, States, Other}
use Rattle.request_lines.specs.proving.Judging.{line_kind}

abbrev pub IsKind : LineKind → List ℕ → Type 0
IsKind View w = w ≡ codes "VIEW"
IsKind Session w = w ≡ codes "SESSION"
IsKind Insert w = w ≡ codes "INSERT"
IsKind Load w = w ≡ codes "LOAD"
IsKind Read w = w ≡ codes "READ"
IsKind States w = w ≡ codes "STATES"
IsKind Other w = Unit {0}

by_test : (t : Bool) (m n : LineKind) (w : List ℕ) → (t ≡ true → IsKind m w) → (t ≡ false → IsKind n w) → IsKind (cond t m n) w
by_test true m n w f g = f refl
by_test false m n w f g = g refl

pub is_kind : (w : List ℕ) → IsKind (line_kind w) w
is_kind w =
    by_test (bytes_eq w (codes "VIEW")) _ _ w (same w _) (λ _. by_test (bytes_eq w (codes "SESSION")) _ _ w (same w _) (λ _. by_test (bytes_eq w (codes "INSERT")) _ _ w (same w _) (λ _.
    by_test (bytes_eq w (codes "LOAD")) _ _ w (same w _) (λ _. by_test (bytes_eq w (codes "READ")) _ _ w (same w _) (λ _. by_test (bytes_eq w (codes "STATES")) _ _ w (same w _) (λ _. tt))))))
  where
    same : (x y : List ℕ) → bytes_eq x y ≡ true → x ≡ y
    same x y e = (bytes_eq-Decides x y).0 e
