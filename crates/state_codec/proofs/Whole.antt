-- The laws of whole state texts.
use Rattle.std.proofs.Common.{◌≡◌, ℕ, List, [], ◌∷◌, ◌++◌, length, Option, Some, None, Ok, Err, refl, sym, ap, ap₂, subst, ◌∙◌, append-nil, arith}
use Rattle.agg_terms.specs.Chains.{Chain, Ty}
use Rattle.agg_terms.specs.Values.{Tree}
use Rattle.scalar_texts.specs.declared.fault.StateFault.TheVariants.{Long}
use Rattle.state_texts.proofs.Figures.{AreBytes}
use Rattle.state_texts.specs.Spelled.{HasText, IsSpelledChain}
use Rattle.state_texts.specs.Texts.{body, text}
use Rattle.state_texts.specs.declared.version.Version.{Version}
use Rattle.state_texts.specs.Versions.{version_byte, version_of, written}
use Rattle.state_texts.proofs.Versions.{byte_is, same_version, version_back}
use Rattle.state_codec.specs.Reading.{Read, ◌>>=◌, place, body_at, whole_of, read_in, reading}
use Rattle.state_codec.proofs.Exact.{bind_ok, ok_is, done}
use Rattle.state_codec.proofs.ExactChains.{exact_body}

whole_ok : {X : Type 0} (whole : ℕ) (p : X × List ℕ) (x : X) → whole_of whole p ≡ Ok x → (p.0 ≡ x) × (p.1 ≡ [])
whole_ok whole (y, []) x e = (cc, refl)
whole_ok whole (y, b ∷ rest) x e = absurd cc

version_ok : (o : Option Version) (b : ℕ) (c : Chain) (ts : List Ty) (bytes : List ℕ) (t : Tree) → read_in o b c ts bytes ≡ Ok t →
    (v : Version) × (o ≡ Some v) × ((body_at v (length (b ∷ bytes)) c ts bytes >>= whole_of (length (b ∷ bytes))) ≡ Ok t)
version_ok None b c ts bytes t e = absurd cc
version_ok (Some v) b c ts bytes t e = (v, refl, e)

-- what is read is spelled so, and is a tree of the chain
pub whole_takes : (c : Chain) (ts : List Ty) → IsSpelledChain c ts → (bytes : List ℕ) (t : Tree) → AreBytes bytes → reading c ts bytes ≡ Ok t → (v : Version) × (bytes ≡ text v c ts t) × HasText v c ts t
unfolding reading
whole_takes c ts s [] t fits e = absurd cc
whole_takes c ts s (b ∷ bytes) t fits e =
    let n = length (b ∷ bytes) in
    let r = version_ok (version_of b) b c ts bytes t e in
    let v = r.0 in
    let a = bind_ok (body_at v n c ts bytes) (whole_of n) t r.2 in
    let w = whole_ok n a.0 t a.2 in
    let k = (exact_body v n c ts s).takes bytes a.0 fits.1 a.1 in
    let parts : bytes ≡ body v c ts a.0.0 = k.0.parts ∙ ap (λ r. body v c ts a.0.0 ++ r) w.1 ∙ append-nil (body v c ts a.0.0) in
    (v, ap₂ ◌∷◌ (byte_is b v r.1) (parts ∙ ap (body v c ts) w.0), subst (HasText v c ts) w.0 k.1)

in_version : (v : Version) (c : Chain) (ts : List Ty) (bytes : List ℕ) → reading c ts (version_byte v ∷ bytes) ≡ (body_at v (length (version_byte v ∷ bytes)) c ts bytes >>= whole_of (length (version_byte v ∷ bytes)))
unfolding reading
in_version v c ts bytes = ap (λ o. read_in o (version_byte v) c ts bytes) (version_back v)

-- what is spelled is read
pub whole_again : (v : Version) (c : Chain) (ts : List Ty) → IsSpelledChain c ts → (t : Tree) → HasText v c ts t → reading c ts (text v c ts t) ≡ Ok t
whole_again v c ts s t k =
    let whole = length (text v c ts t) in
    in_version v c ts (body v c ts t)
    ∙ ap (λ l. body_at v whole c ts l >>= whole_of whole) (sym (append-nil (body v c ts t)))
    ∙ ap (λ (r : Read Tree). r >>= whole_of whole) ((exact_body v whole c ts s).again t [] k)

-- and where bytes follow, the text is too long
pub whole_long : (v : Version) (c : Chain) (ts : List Ty) → IsSpelledChain c ts → (t : Tree) (b : ℕ) (more : List ℕ) → HasText v c ts t → reading c ts (text v c ts t ++ b ∷ more) ≡ Err (Long (place (length (text v c ts t ++ b ∷ more)) (b ∷ more)))
whole_long v c ts s t b more k =
    let whole = length (text v c ts t ++ b ∷ more) in
    in_version v c ts (body v c ts t ++ b ∷ more)
    ∙ ap (λ (r : Read Tree). r >>= whole_of whole) ((exact_body v whole c ts s).again t (b ∷ more) k)

-- no state text begins another
pub whole_apart : (v w : Version) (c : Chain) (ts : List Ty) → IsSpelledChain c ts → (t u : Tree) (x y : List ℕ) → HasText v c ts t → HasText w c ts u → text v c ts t ++ x ≡ text w c ts u ++ y → (v ≡ w) × (t ≡ u) × (x ≡ y)
whole_apart v w c ts s t u x y j k e =
    let first : version_byte v ≡ version_byte w = cc in
    let same : v ≡ w = same_version v w first in
    let r : body v c ts t ++ x ≡ body w c ts u ++ y = cc in
    let l : HasText v c ts u = subst (λ z. HasText z c ts u) (sym same) k in
    let q : body v c ts t ++ x ≡ body v c ts u ++ y = r ∙ ap (λ z. body z c ts u ++ y) (sym same) in
    let read : done (t, x) ≡ Ok (u, y) = sym ((exact_body v 0 c ts s).again t x j) ∙ ap (body_at v 0 c ts) q ∙ (exact_body v 0 c ts s).again u y l in
    let p = ok_is (t, x) (u, y) read in
    (same, ap (λ (z : Tree × List ℕ). z.0) p, ap (λ (z : Tree × List ℕ). z.1) p)

-- what was read from the version that is written is written back
pub whole_back : (c : Chain) (ts : List Ty) → IsSpelledChain c ts → (bytes : List ℕ) (t : Tree) → AreBytes bytes → reading c ts (version_byte written ∷ bytes) ≡ Ok t → text written c ts t ≡ version_byte written ∷ bytes
whole_back c ts s bytes t fits e =
    let k = whole_takes c ts s (version_byte written ∷ bytes) t (omega arith, fits) e in
    let first : version_byte written ≡ version_byte k.0 = cc in
    ap (λ v. text v c ts t) (same_version written k.0 first) ∙ sym k.1
