-- Fronts of texts, bytes behind them, and faults.
use Rattle.std.proofs.Common.{◌≡◌, ℕ, zero, suc, ◌+◌, ◌<◌, ◌≤◌, max, List, [], ◌∷◌, ◌++◌, length, take, drop, append_assoc, Option, Some, None, Result, Ok, Err, refl, sym, ap, ap₂, subst, ◌∙◌, append-nil, arith}
use Rattle.std.proofs.lemmas.List.{length-append, length-drop, length-take-le, take-append-drop}
use Rattle.agg_terms.specs.Chains.{Chain, Ty}
use Rattle.agg_terms.specs.Values.{Tree}
use Rattle.scalar_texts.specs.declared.fault.StateFault.{StateFault}
use Rattle.scalar_texts.specs.declared.fault.StateFault.TheVariants.{Short, Version as OtherVersion, BadTag, NotCanonical, Long}
use Rattle.state_texts.proofs.Figures.{AreBytes}
use Rattle.state_texts.specs.Spelled.{HasText, IsSpelledChain}
use Rattle.state_texts.specs.Texts.{body, text}
use Rattle.state_texts.specs.declared.version.Version.{Version}
use Rattle.state_texts.specs.Versions.{version_byte, version_of}
use Rattle.state_texts.proofs.Versions.{byte_is, version_back}
use Rattle.state_codec.specs.Reading.{Read, ◌>>=◌, place, body_at, whole_of, read_in, reading}
use Rattle.state_codec.specs.Laws.{IsFinal, Points}
use Rattle.state_codec.proofs.ExactChains.{exact_body}
use Rattle.state_codec.proofs.Whole.{whole_long, whole_takes}
use Rattle.state_codec.proofs.Steady.{Steady, IsSteady, steady_body}
use Rattle.state_codec.proofs.Inside.{IsInside, Inside, StaysInside, inside_body}

no_cell : (b : ℕ) (x more : List ℕ) → [] ≡ x ++ b ∷ more → ⊥
no_cell b [] more e = absurd cc
no_cell b (y ∷ x) more e = absurd cc

still_open : {X Y : Type 0} (b : ℕ) (more : List ℕ) (x : X) (r later : Read X) (k : X × List ℕ → Result Y StateFault) → Steady (b ∷ more) r later → later ≡ Ok (x, []) → (r >>= k) ≡ Err Short
still_open {X = X} b more x (Ok y) later k s e = absurd (no_cell b y.1 more (ap rest_of (sym e ∙ s)))
  where
    rest_of : Read X → List ℕ
    rest_of (Ok z) = z.1
    rest_of (Err f) = []
still_open b more x (Err Short) later k s e = refl
still_open b more x (Err (OtherVersion v)) later k s e = absurd cc
still_open b more x (Err (BadTag at)) later k s e = absurd cc
still_open b more x (Err (NotCanonical at)) later k s e = absurd cc
still_open b more x (Err (Long at)) later k s e = absurd cc

pub front_short : (v : Version) (c : Chain) (ts : List Ty) (t : Tree) (front more : List ℕ) (b : ℕ) → IsSpelledChain c ts → HasText v c ts t → text v c ts t ≡ front ++ b ∷ more → reading c ts front ≡ Err Short
unfolding reading IsSteady
front_short v c ts t [] more b s k e = refl
front_short v c ts t (d ∷ front) more b s k e =
    let one : version_byte v ≡ d = cc in
    let rest : body v c ts t ≡ front ++ b ∷ more = cc in
    let whole = length (d ∷ front) in
    let w = whole + length (b ∷ more) in
    let later : body_at v w c ts (front ++ b ∷ more) ≡ Ok (t, []) = ap (body_at v w c ts) (sym rest ∙ sym (append-nil (body v c ts t))) ∙ (exact_body v w c ts s).again t [] k in
    ap (λ n. read_in (version_of n) n c ts front) (sym one)
    ∙ ap (λ o. read_in o (version_byte v) c ts front) (version_back v)
    ∙ still_open b more t (body_at v whole c ts front) (body_at v w c ts (front ++ b ∷ more)) (whole_of whole) (steady_body v c ts whole front (b ∷ more)) later

-- ---- faults that stay

abbrev failed : {Y : Type 0} → StateFault → Result Y StateFault
failed f = Err f

fault_is : {Y : Type 0} (f g : StateFault) → failed {Y = Y} f ≡ failed g → f ≡ g
fault_is f g e = cc

final_whole : {X : Type 0} (whole : ℕ) (p : X × List ℕ) (f : StateFault) → IsFinal f → whole_of whole p ≡ Err f → ⊥
final_whole whole (x, []) f k e = absurd cc
final_whole {X = X} whole (x, b ∷ rest) f k e = subst IsFinal (sym (fault_is {Y = X} (Long (place whole (b ∷ rest))) f e)) k

stays_whole : {X : Type 0} (whole longer : ℕ) (more : List ℕ) (f : StateFault) (r later : Read X) → IsFinal f → Steady more r later → (r >>= whole_of whole) ≡ Err f → (later >>= whole_of longer) ≡ Err f
stays_whole whole longer more f (Ok p) later k s e = absurd (final_whole whole p f k e)
stays_whole {X = X} whole longer more f (Err Short) later k s e = absurd (subst IsFinal (sym (fault_is {Y = X} Short f e)) k)
stays_whole whole longer more f (Err (OtherVersion v)) later k s e = ap (λ r. r >>= whole_of longer) s ∙ e
stays_whole whole longer more f (Err (BadTag at)) later k s e = ap (λ r. r >>= whole_of longer) s ∙ e
stays_whole whole longer more f (Err (NotCanonical at)) later k s e = ap (λ r. r >>= whole_of longer) s ∙ e
stays_whole whole longer more f (Err (Long at)) later k s e = ap (λ r. r >>= whole_of longer) s ∙ e

pub fault_stays : (c : Chain) (ts : List Ty) (bytes more : List ℕ) (f : StateFault) → IsFinal f → reading c ts bytes ≡ Err f → reading c ts (bytes ++ more) ≡ Err f
unfolding reading IsSteady
fault_stays c ts [] more f k e = absurd (subst IsFinal (sym (fault_is {Y = Tree} Short f e)) k)
fault_stays c ts (b ∷ bytes) more f k e = go (version_of b) e
  where
    whole : ℕ
    whole = length (b ∷ bytes)

    longer : ℕ
    longer = length (b ∷ bytes ++ more)

    further : whole + length more ≡ longer
    further = omega (arith, length-append bytes more)

    go : (o : Option Version) → read_in o b c ts bytes ≡ Err f → read_in o b c ts (bytes ++ more) ≡ Err f
    go (Some v) e = stays_whole whole longer more f (body_at v whole c ts bytes) (body_at v longer c ts (bytes ++ more)) k (subst (λ w. Steady more (body_at v whole c ts bytes) (body_at v w c ts (bytes ++ more))) further (steady_body v c ts whole bytes more)) e
    go None e = e

-- ---- Long

behind : {X : Type 0} (whole from at : ℕ) (r : Read X) → (bytes : List ℕ) → Inside whole bytes r → (r >>= whole_of whole) ≡ Err (Long at) → (p : X × List ℕ) × (b : ℕ) × (rest : List ℕ) × (r ≡ Ok p) × (p.1 ≡ b ∷ rest) × (at ≡ place whole (b ∷ rest))
behind whole from at (Ok (x, [])) bytes l e = absurd cc
behind whole from at (Ok (x, b ∷ rest)) bytes l e = ((x, b ∷ rest), b, rest, refl, refl, cc)
behind whole from at (Err Short) bytes l e = absurd cc
behind whole from at (Err (OtherVersion v)) bytes l e = absurd l
behind whole from at (Err (BadTag n)) bytes l e = absurd cc
behind whole from at (Err (NotCanonical n)) bytes l e = absurd cc
behind whole from at (Err (Long n)) bytes l e = absurd l

version_long : (o : Option Version) (b at : ℕ) (c : Chain) (ts : List Ty) (bytes : List ℕ) → read_in o b c ts bytes ≡ Err (Long at) →
    (v : Version) × (o ≡ Some v) × ((body_at v (length (b ∷ bytes)) c ts bytes >>= whole_of (length (b ∷ bytes))) ≡ Err (Long at))
version_long None b at c ts bytes e = absurd cc
version_long (Some v) b at c ts bytes e = (v, refl, e)

pub long_is : (c : Chain) (ts : List Ty) (bytes : List ℕ) (at : ℕ) → IsSpelledChain c ts → AreBytes bytes → reading c ts bytes ≡ Err (Long at)
    → (v : Version) × (t : Tree) × (b : ℕ) × (more : List ℕ) × HasText v c ts t × (bytes ≡ text v c ts t ++ b ∷ more) × (at ≡ length (text v c ts t))
unfolding reading StaysInside
long_is c ts [] at s fits e = absurd cc
long_is c ts (d ∷ bytes) at s fits e =
    let whole = length (d ∷ bytes) in
    let one = version_long (version_of d) d at c ts bytes e in
    let v = one.0 in
    let p = behind whole 1 at (body_at v whole c ts bytes) bytes (inside_body v c ts whole bytes) one.2 in
    let k = (exact_body v whole c ts s).takes bytes p.0 fits.1 p.3 in
    let parts : bytes ≡ body v c ts p.0.0 ++ p.1 ∷ p.2 = k.0.parts ∙ ap (λ r. body v c ts p.0.0 ++ r) p.4 in
    (v, p.0.0, p.1, p.2, k.1, ap₂ ◌∷◌ (byte_is d v one.1) parts, p.5 ∙ omega (arith, ap length parts, length-append (body v c ts p.0.0) (p.1 ∷ p.2)))

pub long_of : (v : Version) (c : Chain) (ts : List Ty) (t : Tree) (b : ℕ) (more : List ℕ) → IsSpelledChain c ts → HasText v c ts t → reading c ts (text v c ts t ++ b ∷ more) ≡ Err (Long (length (text v c ts t)))
long_of v c ts t b more s k = whole_long v c ts s t b more k ∙ ap (λ at. Err (Long at)) (omega (arith, length-append (body v c ts t) (b ∷ more)))

-- ---- places

below : (at whole : ℕ) → 1 ≤ at → at < max 1 whole → at < whole
below at whole l k = omega (arith, l, k)

points_of : (whole : ℕ) (f : StateFault) → IsInside 1 whole f → Points whole f
points_of whole Short k = tt
points_of whole (BadTag at) k = (k.0, below at whole k.0 k.1)
points_of whole (NotCanonical at) k = k
points_of whole (OtherVersion v) k = tt
points_of whole (Long at) k = absurd k

points_whole : {X : Type 0} (bytes : List ℕ) (f : StateFault) (r : Read X) → Inside (suc (length bytes)) bytes r → (r >>= whole_of (suc (length bytes))) ≡ Err f → Points (suc (length bytes)) f
points_whole bytes f (Ok (x, [])) l e = absurd cc
points_whole {X = X} bytes f (Ok (x, b ∷ rest)) l e = subst (Points (suc (length bytes))) (fault_is {Y = X} (Long (place (suc (length bytes)) (b ∷ rest))) f e) (omega (arith, l), omega arith)
points_whole {X = X} bytes f (Err g) l e = subst (Points (suc (length bytes))) (fault_is {Y = X} g f e) (points_of (suc (length bytes)) g (subst (λ i. IsInside i (suc (length bytes)) g) (omega arith) l))

pub fault_points : (c : Chain) (ts : List Ty) (bytes : List ℕ) (f : StateFault) → reading c ts bytes ≡ Err f → Points (length bytes) f
unfolding reading StaysInside
fault_points c ts [] f e = subst (Points 0) (fault_is {Y = Tree} Short f e) tt
fault_points c ts (d ∷ bytes) f e = go (version_of d) e
  where
    go : (o : Option Version) → read_in o d c ts bytes ≡ Err f → Points (suc (length bytes)) f
    go (Some v) e = points_whole bytes f (body_at v (suc (length bytes)) c ts bytes) (inside_body v c ts (suc (length bytes)) bytes) e
    go None e = subst (Points (suc (length bytes))) (fault_is {Y = Tree} (OtherVersion d) f e) tt

-- ---- the first fault

fits_take : (n : ℕ) (bytes : List ℕ) → AreBytes bytes → AreBytes (take n bytes)
fits_take zero bytes k = tt
fits_take (suc n) [] k = tt
fits_take (suc n) (b ∷ bytes) k = (k.0, fits_take n bytes k.1)

tag_long : (m n : ℕ) → failed {Y = Tree} (BadTag m) ≡ failed (Long n) → ⊥
tag_long m n e = absurd cc

tag_version : (m n : ℕ) → failed {Y = Tree} (BadTag m) ≡ failed (OtherVersion n) → ⊥
tag_version m n e = absurd cc

tag_other : (m n : ℕ) → failed {Y = Tree} (BadTag m) ≡ failed (NotCanonical n) → ⊥
tag_other m n e = absurd cc

tag_is : (m n : ℕ) → failed {Y = Tree} (BadTag m) ≡ failed (BadTag n) → m ≡ n
tag_is m n e = cc

pub tag_first : (c : Chain) (ts : List Ty) (bytes : List ℕ) (at : ℕ) → IsSpelledChain c ts → AreBytes bytes → reading c ts bytes ≡ Err (BadTag at) → reading c ts (take at bytes) ≡ Err Short
tag_first c ts bytes at s fits e = go (drop at bytes) refl (reading c ts (take at bytes)) refl
  where
    inside : at < length bytes
    inside = (fault_points c ts bytes (BadTag at) e).1

    parts : take at bytes ++ drop at bytes ≡ bytes
    parts = take-append-drop at bytes

    halves : AreBytes (take at bytes)
    halves = fits_take at bytes fits

    go : (rest : List ℕ) → drop at bytes ≡ rest → (r : Result Tree StateFault) → reading c ts (take at bytes) ≡ r → reading c ts (take at bytes) ≡ Err Short
    go [] d r q = absurd (omega (arith, inside, length-drop at bytes, ap length d))
    go (b ∷ more) d (Err Short) q = q
    go (b ∷ more) d (Ok t) q =
        let k = whole_takes c ts s (take at bytes) t halves q in
        let v = k.0 in
        let f : reading c ts bytes ≡ Err (Long (length (text v c ts t))) = ap (reading c ts) (sym parts ∙ ap₂ ◌++◌ k.1 d) ∙ long_of v c ts t b more s k.2 in
        absurd (tag_long at (length (text v c ts t)) (sym e ∙ f))
    go (b ∷ more) d (Err (Long n)) q =
        let k = long_is c ts (take at bytes) n s halves q in
        let v = k.0 in
        let f : reading c ts bytes ≡ Err (Long (length (text v c ts k.1))) = ap (reading c ts) (sym parts ∙ ap (λ l. l ++ drop at bytes) k.5 ∙ append_assoc (text v c ts k.1) (k.2 ∷ k.3) (drop at bytes)) ∙ long_of v c ts k.1 k.2 (k.3 ++ drop at bytes) s k.4 in
        absurd (tag_long at (length (text v c ts k.1)) (sym e ∙ f))
    go (b ∷ more) d (Err (OtherVersion v)) q = absurd (tag_version at v (sym e ∙ ap (reading c ts) (sym parts) ∙ fault_stays c ts (take at bytes) (drop at bytes) (OtherVersion v) tt q))
    go (b ∷ more) d (Err (NotCanonical n)) q = absurd (tag_other at n (sym e ∙ ap (reading c ts) (sym parts) ∙ fault_stays c ts (take at bytes) (drop at bytes) (NotCanonical n) tt q))
    go (b ∷ more) d (Err (BadTag n)) q =
        let same = tag_is at n (sym e ∙ ap (reading c ts) (sym parts) ∙ fault_stays c ts (take at bytes) (drop at bytes) (BadTag n) tt q) in
        let p = fault_points c ts (take at bytes) (BadTag n) q in
        absurd (omega (arith, same, p.1, length-take-le at bytes (omega (arith, inside))))
