-- Parts of a text put together.
use Rattle.std.proofs.Common.{◌≡◌, List, [], ◌∷◌, ◌++◌, refl, sym, ap, ◌∙◌, append_assoc}
use Rattle.first_fault.specs.Grammar.{Then}

-- a letter in front of the first part
pub push : {A : Type 0} {L M K : List A → Type 0} (b : A) (t : List A) → ((a : List A) → L a → M (b ∷ a)) → Then L K t → Then M K (b ∷ t)
push b t f r = record { front = b ∷ r.front; rest = r.rest; first = f r.front r.first; second = r.second; whole = ap (λ x. b ∷ x) r.whole }

-- a first part that is one letter
pub lone : {A : Type 0} {L K : List A → Type 0} (b : A) (t : List A) → L (b ∷ []) → K t → Then L K (b ∷ t)
lone b t l k = record { front = b ∷ []; rest = t; first = l; second = k; whole = refl }

pub regroup : {A : Type 0} {L M K : List A → Type 0} (t : List A) → Then L (Then M K) t → Then (Then L M) K t
regroup t r = record {
  front = r.front ++ r.second.front;
  rest = r.second.rest;
  first = record { front = r.front; rest = r.second.front; first = r.first; second = r.second.first; whole = refl };
  second = r.second.second;
  whole = r.whole ∙ ap (λ x. r.front ++ x) r.second.whole ∙ sym (append_assoc r.front r.second.front r.second.rest);
}

-- the first part seen as another kind
pub seen_as : {A : Type 0} {L M K : List A → Type 0} (t : List A) → ((a : List A) → L a → M a) → Then L K t → Then M K t
seen_as t f r = record { front = r.front; rest = r.rest; first = f r.front r.first; second = r.second; whole = r.whole }
