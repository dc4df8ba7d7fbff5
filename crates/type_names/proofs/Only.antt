-- What is a type is accepted, and every stack can be emptied.
use Rattle.std.proofs.Common.{◌≡◌, List, [], ◌∷◌, ◌++◌, codes, Ok, refl, sym, ap, subst, append_assoc}
use Rattle.first_fault.specs.Machine.{run, later}
use Rattle.line_tokens.specs.Tokens.{Token, word, integer, open_bracket, close_bracket, comma}
use Rattle.type_names.specs.TypeTexts.{WrittenType, plain, array, map_of, nullable, state, WrittenTypes, none, and_one, literals_tokens, brackets, tokens_of, tokens_of_all, IsOneWord, AreLiterals, ShapeFits, ShapesFit}
use Rattle.type_names.specs.declared.goal.Goal.{Goal}
use Rattle.type_names.specs.declared.goal.Goal.TheVariants.{AnyType, PlainType, Opening, Closing, Dividing, Name, BehindName, OneLiteral, MoreLiterals, MoreTypes}
use Rattle.type_names.specs.Judging.{step, done}
use Rattle.type_names.proofs.Found.{Sound}

abbrev pub Runs : List Goal → List Token → Type 0
Runs s t = run step done s t ≡ Ok tt

-- the same tokens, grouped to the right
regrouped : (s : List Goal) (x y z : List Token) → Runs s (x ++ (y ++ z)) → Runs s ((x ++ y) ++ z)
regrouped s x y z h = subst (λ t. Runs s t) (sym (append_assoc x y z)) h

literals_run : (ls : List Token) → AreLiterals ls → (s : List Goal) (t : List Token) → Runs s t → Runs (MoreLiterals ∷ s) (literals_tokens ls ++ t)
literals_run [] f s t h = ap later h
literals_run (l ∷ ls) f s t h =
    let one : Runs (OneLiteral ∷ MoreLiterals ∷ s) (l ∷ (literals_tokens ls ++ t)) = rw f.0 (ap later (literals_run ls f.1 s t h)) in
    ap later one

plain_run : (ty : WrittenType) → IsOneWord ty → ShapeFits ty → (s : List Goal) (t : List Token) → Runs s t → Runs (PlainType ∷ s) (tokens_of ty ++ t)
plain_run (plain w) p f s t h = rw f (ap later h)
plain_run (array ty) p f s t h = absurd p
plain_run (map_of key ty) p f s t h = absurd p
plain_run (nullable ty) p f s t h = absurd p
plain_run (state name ls types) p f s t h = absurd p

brackets_run : (ls : List Token) (types : WrittenTypes) → AreLiterals ls → (s : List Goal) (t : List Token) → Runs (MoreTypes ∷ s) (tokens_of_all types ++ t) → Runs (BehindName ∷ s) (brackets ls ++ (tokens_of_all types ++ t))
brackets_run [] none f s t h = h
brackets_run [] (and_one ty types) f s t h = h
brackets_run (l ∷ ls) types f s t h =
    let one : Runs (OneLiteral ∷ MoreLiterals ∷ MoreTypes ∷ s) (l ∷ (literals_tokens ls ++ (tokens_of_all types ++ t))) = rw f.0 (ap later (literals_run ls f.1 (MoreTypes ∷ s) (tokens_of_all types ++ t) h)) in
    ap later one

mutual
  pub type_run : (ty : WrittenType) → ShapeFits ty → (s : List Goal) (t : List Token) → Runs s t → Runs (AnyType ∷ s) (tokens_of ty ++ t)
  type_run (plain w) f s t h = rw f (ap later h)
  type_run (array ty) f s t h =
      let inner : Runs (AnyType ∷ Closing ∷ s) ((tokens_of ty ++ (close_bracket ∷ [])) ++ t) = regrouped (AnyType ∷ Closing ∷ s) (tokens_of ty) (close_bracket ∷ []) t (type_run ty f (Closing ∷ s) (close_bracket ∷ t) (ap later h)) in
      ap (λ r. later (later r)) inner
  type_run (nullable ty) f s t h =
      let inner : Runs (PlainType ∷ Closing ∷ s) ((tokens_of ty ++ (close_bracket ∷ [])) ++ t) = regrouped (PlainType ∷ Closing ∷ s) (tokens_of ty) (close_bracket ∷ []) t (plain_run ty f.0 f.1 (Closing ∷ s) (close_bracket ∷ t) (ap later h)) in
      ap (λ r. later (later r)) inner
  type_run (map_of key ty) f s t h =
      let value : Runs (AnyType ∷ Closing ∷ s) ((tokens_of ty ++ (close_bracket ∷ [])) ++ t) = regrouped (AnyType ∷ Closing ∷ s) (tokens_of ty) (close_bracket ∷ []) t (type_run ty f.2 (Closing ∷ s) (close_bracket ∷ t) (ap later h)) in
      let inner : Runs (PlainType ∷ Dividing ∷ AnyType ∷ Closing ∷ s) ((tokens_of key ++ (comma ∷ (tokens_of ty ++ (close_bracket ∷ [])))) ++ t) =
      regrouped (PlainType ∷ Dividing ∷ AnyType ∷ Closing ∷ s) (tokens_of key) (comma ∷ (tokens_of ty ++ (close_bracket ∷ []))) t
      (plain_run key f.0 f.1 (Dividing ∷ AnyType ∷ Closing ∷ s) (comma ∷ ((tokens_of ty ++ (close_bracket ∷ [])) ++ t)) (ap later value)) in
      ap (λ r. later (later r)) inner
  type_run (state name ls types) f s t h =
      let inner : Runs (BehindName ∷ s) ((brackets ls ++ tokens_of_all types) ++ t) = regrouped (BehindName ∷ s) (brackets ls) (tokens_of_all types) t (brackets_run ls types f.0 s t (types_run types f.1 s t h)) in
      ap (λ r. later (later (later r))) inner

  pub types_run : (types : WrittenTypes) → ShapesFit types → (s : List Goal) (t : List Token) → Runs s t → Runs (MoreTypes ∷ s) (tokens_of_all types ++ t)
  types_run none f s t h = ap later h
  types_run (and_one ty types) f s t h =
      let inner : Runs (AnyType ∷ MoreTypes ∷ s) ((tokens_of ty ++ tokens_of_all types) ++ t) = regrouped (AnyType ∷ MoreTypes ∷ s) (tokens_of ty) (tokens_of_all types) t (type_run ty f.0 (MoreTypes ∷ s) (tokens_of_all types ++ t) (types_run types f.1 s t h)) in
      ap later inner

abbrev Goes : List Goal → Type 0
Goes s = (t : List Token) × Runs s t

pub goes_on : (s : List Goal) → Sound s → Goes s
goes_on [] h = ([], refl)
goes_on (AnyType ∷ s) h = let r = goes_on s h in (word (codes "String") ∷ r.0, ap later r.1)
goes_on (PlainType ∷ s) h = let r = goes_on s h in (word (codes "String") ∷ r.0, ap later r.1)
goes_on (Opening ∷ s) h = let r = goes_on s h in (open_bracket ∷ r.0, ap later r.1)
goes_on (Closing ∷ s) h = let r = goes_on s h in (close_bracket ∷ r.0, ap later r.1)
goes_on (Dividing ∷ s) h = let r = goes_on s h in (comma ∷ r.0, ap later r.1)
goes_on (Name ∷ s) h = let r = goes_on s h in (word [] ∷ r.0, ap later r.1)
goes_on (BehindName ∷ s) h = let r = goes_on s h in (close_bracket ∷ r.0, ap later r.1)
goes_on (OneLiteral ∷ s) h = let r = goes_on s h in (integer [] ∷ r.0, ap later r.1)
goes_on (MoreLiterals ∷ s) h = let r = goes_on s h in (close_bracket ∷ r.0, ap later r.1)
goes_on (MoreTypes ∷ s) h = let r = goes_on s h in (close_bracket ∷ r.0, ap later r.1)
