-- The columns that names stand for have the types of columns.
use Rattle.std.proofs.Common.{◌≡◌, refl, ◌∙◌, subst, ℕ, suc, Bool, true, false, List, [], ◌∷◌, map, Option, Some, None, Ok, if◌then◌else◌}
use Rattle.std.specs.Str.{bytes_eq}
use Rattle.std.proofs.lemmas.List.Folds.{list_all-map}
use Rattle.agg_terms.specs.Chains.{Ty}
use Rattle.agg_typing.specs.Legal.{is_legal_type, are_legal_types}
use Rattle.line_forms.specs.Letters.{Every, Name}
use Rattle.refusals.specs.declared.why.Why.{Why}
use Rattle.request_rules.specs.Selects.{Named, all_known, known, known_or, named_from, named_types}
use Rattle.request_rules.specs.Tables.{AreLegal, Column}
use Rattle.request_rules.proofs.AllJudged.{all_judged, first, second, same_value}

same_named : (a b : Named) → Some a ≡ Some b → a ≡ b
same_named a b e = cc

found_legal : (is : Bool) (place : ℕ) (ty : Ty) (later : Option Named) (n : Named) → is_legal_type ty ≡ true → (later ≡ Some n → is_legal_type n.ty ≡ true) →
    (if is then Some (record { place = place; ty = ty }) else later) ≡ Some n → is_legal_type n.ty ≡ true
found_legal true place ty later n h more e =
    let here : Named = record { place = place; ty = ty } in subst (λ (m : Named). is_legal_type m.ty ≡ true) (same_named here n e) h
found_legal false place ty later n h more e = more e

named_legal : (place : ℕ) (columns : List Column) (name : List ℕ) (n : Named) → AreLegal columns → named_from place columns name ≡ Some n → is_legal_type n.ty ≡ true
named_legal place [] name n h e = absurd cc
named_legal place (c ∷ cs) name n h e =
    let types = map (λ (x : Column). x.ty) cs in
    found_legal (bytes_eq c.name name) place c.ty (named_from (suc place) cs name) n (first (is_legal_type c.ty) (are_legal_types types) h)
    (named_legal (suc place) cs name n (second (is_legal_type c.ty) (are_legal_types types) h)) e

or_legal : (found : Option Named) (why : Why) (n : Named) → ((m : Named) → found ≡ Some m → is_legal_type m.ty ≡ true) → known_or found why ≡ Ok n → is_legal_type n.ty ≡ true
or_legal (Some m) why n h e = subst (λ (x : Named). is_legal_type x.ty ≡ true) (same_value m n e) (h m refl)
or_legal None why n h e = absurd cc

each_name : (names : List Name) → Every (λ (_ : Name). Unit {0}) names
each_name [] = tt
each_name (n ∷ ns) = (tt, each_name ns)

pub known_legal : (columns : List Column) (names : List Name) (all : List Named) → AreLegal columns → all_known columns names ≡ Ok all → are_legal_types (named_types all) ≡ true
known_legal columns names all h e =
    list_all-map is_legal_type (λ (n : Named). n.ty) all
    ∙ all_judged (λ (_ : List Named). known columns) (λ (n : Named). is_legal_type n.ty) (λ (_ : Name). Unit {0})
    (λ before name n _ is. or_legal (named_from 0 columns name.name) (Why.UnknownColumn name.at) n (λ m. named_legal 0 columns name.name m h) is)
    names [] all (each_name names) refl e
