-- A version is known by its byte.
use Rattle.std.proofs.Common.{◌≡◌, ℕ, Bool, true, false, eqb, cond, Option, Some, None, refl, sym, ap, ◌∙◌}
use Rattle.std.proofs.lemmas.Bool.{eqb-true}
use Rattle.state_texts.specs.declared.version.Version.{Version}
use Rattle.state_texts.specs.declared.version.Version.TheVariants.{One}
use Rattle.state_texts.specs.Versions.{version_byte, version_of}

pub version_back : (v : Version) → version_of (version_byte v) ≡ Some v
version_back One = refl

some_is : {X : Type 0} (x y : X) → (let a : Option X = Some x in let b : Option X = Some y in a ≡ b) → x ≡ y
some_is x y e = cc

pub byte_is : (b : ℕ) (v : Version) → version_of b ≡ Some v → b ≡ version_byte v
byte_is b v e = go (eqb b 1) refl e
  where
    go : (t : Bool) → eqb b 1 ≡ t → cond t (Some One) None ≡ Some v → b ≡ version_byte v
    go true h k = eqb-true b 1 h ∙ ap version_byte (some_is One v k)
    go false h k = absurd cc

pub same_version : (v w : Version) → version_byte v ≡ version_byte w → v ≡ w
same_version v w e = some_is v w (sym (version_back v) ∙ ap version_of e ∙ version_back w)
