-- Reading items one after the other, as a loop does.
use Rattle.std.proofs.Common.{◌≡◌, ℕ, suc, ◌-◌, ◌+◌, ◌≤◌, ◌<◌, List, [], ◌∷◌, ◌++◌, Result, Ok, Err, refl, sym, ap, subst, ◌∙◌, append_assoc, append-nil, arith}
use Rattle.scalar_texts.specs.declared.fault.StateFault.{StateFault}
use Rattle.state_codec.specs.declared.decode_fault.DecodeFault.{DecodeFault}
use Rattle.state_codec.specs.declared.decode_fault.DecodeFault.TheVariants as faults
use Rattle.state_codec.specs.Reading.{Read, ◌>>=◌, items_at}
use Rattle.state_codec.specs.Gives.{Fails, Gives}
use Rattle.state_codec.specs.proving.Views.{behind, with_front}

pub behind-push : {X : Type 0} (xs : List X) (x : X) → behind (xs ++ x ∷ []) ≡ x ∷ behind xs
behind-push [] x = refl
behind-push {X = X} (y ∷ xs) x = ap (λ (l : List X). l ++ y ∷ []) (behind-push xs x)

module _ {X : Type 0} (read : List X → List ℕ → Read X) where
  regroup : (front : List X) (x : X) (r : Read (List X)) → with_front front (r >>= λ y. Ok (x ∷ y.0, y.1)) ≡ with_front (front ++ x ∷ []) r
  regroup front x (Ok y) = ap (λ (xs : List X). Ok (xs, y.1)) (sym (append_assoc front (x ∷ []) y.0))
  regroup front x (Err f) = refl

  pub goes_on : (front : List X) (count i : ℕ) (bytes : List ℕ) (x : X) (after : List ℕ) (total : Read (List X)) → i < count → read (behind front) bytes ≡ Ok (x, after)
      → with_front front (items_at read (count - i) (behind front) bytes) ≡ total → with_front (front ++ x ∷ []) (items_at read (count - (i + 1)) (behind (front ++ x ∷ [])) after) ≡ total
  unfolding items_at
  goes_on front count i bytes x after total lt h so_far =
      let k : count - i ≡ suc (count - (i + 1)) = omega arith in
      let one : with_front front (items_at read (count - i) (behind front) bytes) ≡ with_front (front ++ x ∷ []) (items_at read (count - (i + 1)) (x ∷ behind front) after) = rw (k, h) (regroup front x (items_at read (count - (i + 1)) (x ∷ behind front) after)) in
      ap (λ l. with_front (front ++ x ∷ []) (items_at read (count - (i + 1)) l after)) (behind-push front x) ∙ sym one ∙ so_far

  pub ends : (e : DecodeFault) (front : List X) (count i : ℕ) (bytes : List ℕ) (total : Read (List X)) → i < count → Fails e (read (behind front) bytes)
      → with_front front (items_at read (count - i) (behind front) bytes) ≡ total → Fails e total
  unfolding items_at
  ends faults.OutOfMemory front count i bytes total lt h so_far = tt
  ends (faults.Bad f) front count i bytes total lt h so_far =
      let k : count - i ≡ suc (count - (i + 1)) = omega arith in
      let one : with_front front (items_at read (count - i) (behind front) bytes) ≡ Err f = rw (k, h) refl in
      sym so_far ∙ one

  pub is_done : (front : List X) (count i : ℕ) (bytes : List ℕ) (total : Read (List X)) → count ≤ i → with_front front (items_at read (count - i) (behind front) bytes) ≡ total → total ≡ Ok (front, bytes)
  unfolding items_at
  is_done front count i bytes total le so_far =
      let k : count - i ≡ 0 = omega arith in
      let one : with_front front (items_at read (count - i) (behind front) bytes) ≡ Ok (front, bytes) = rw k (ap (λ (xs : List X). Ok (xs, bytes)) (append-nil front)) in
      sym so_far ∙ one

-- what a reader gives is told in other words
pub gives_as : {X Y : Type 0} (view : X → Y) (result : Result X DecodeFault) (said told : Result Y StateFault) → said ≡ told → Gives view result told → Gives view result said
gives_as view result said told e h = subst (λ r. Gives view result r) (sym e) h
