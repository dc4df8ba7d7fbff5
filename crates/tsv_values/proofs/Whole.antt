-- A whole field, from what is found at its front.
use Rattle.std.proofs.Common.{◌≡◌, ℕ, List, [], ◌∷◌, Err, refl, sym, ap, subst, ◌∙◌}
use Rattle.first_fault.specs.Grammar.{Then}
use Rattle.agg_terms.specs.Chains.{Ty}
use Rattle.field_texts.specs.Syntax.{IsSpaces, SyntaxOf, form_of}
use Rattle.scalar_texts.specs.States.{ReadsStates}
use Rattle.scalar_texts.specs.declared.fault.FieldFault.{FieldFault}
use Rattle.scalar_texts.specs.declared.fault.FieldFault.TheVariants.{NotNumber, OutOfRange, Text, BadArray, BadMap, NotNullable, NotHex, BadState, OutOfMemory}
use Rattle.tsv_values.specs.declared.found.Missing.{Missing}
use Rattle.tsv_values.specs.declared.found.Missing.TheVariants.{Nothing, Refused}
use Rattle.tsv_values.specs.Answer.{IsTold}
use Rattle.tsv_values.specs.Elements.{ElementSays, FieldSays, Said}
use Rattle.tsv_values.specs.proving.Reading.{Ends, IsAhead, IsFound, IsMissing, IsWholeRead}
use Rattle.tsv_values.specs.proving.Steps.{after_spaces}
use Rattle.tsv_values.proofs.Beginnings.{element_begins}
use Rattle.tsv_values.proofs.Lists.{begins_starts}
use Rattle.tsv_values.proofs.Spaces.{ahead_spaced, all_spaces, only_spaces, spaced_ahead}
use Rattle.tsv_values.proofs.Spelled.{field_says}

spaces_end : (text : List ℕ) → IsSpaces text → Ends text
spaces_end [] h = tt
spaces_end (b ∷ text) h = rw h.0 refl

module _ (reads : ReadsStates) (t : Ty) (field : List ℕ) where
  abbrev pub Told : Said → Type 0
  Told said = FieldSays reads t said field

  pub whole_ahead : (said : Said) → Told said → (behind : List ℕ) × IsSpaces behind × IsAhead (ElementSays reads t) (after_spaces field) said behind
  whole_ahead said h =
      let s = spaced_ahead (ElementSays reads t said) field h.front h.rest h.first (λ m is. begins_starts m h.rest (element_begins reads t said m is)) h.whole in
      (h.rest, h.second, record { front = s.0; stands = s.1; whole = s.2; ends = spaces_end h.rest h.second })

  pub whole_found : (said : Said) (rest : List ℕ) → IsFound (ElementSays reads t) (after_spaces field) said rest → after_spaces rest ≡ [] → Told said
  whole_found said rest f e =
      let s = ahead_spaced (ElementSays reads t said) field f.front rest f.stands f.whole in
      record { front = s.0; rest = rest; first = s.1; second = only_spaces rest e; whole = s.2 }

  pub more_behind : (said : Said) (rest : List ℕ) → IsFound (ElementSays reads t) (after_spaces field) said rest → (after_spaces rest ≡ [] → ⊥) → (other : Said) → Told other → ⊥
  more_behind said rest f n other h =
      let a = whole_ahead other h in
      let same = f.only other a.0 a.2 in
      n (ap after_spaces (sym same.1) ∙ all_spaces a.0 a.1)

  pub whole_missing : (missing : Missing) → IsMissing (ElementSays reads t) (after_spaces field) missing → IsWholeRead Told (Err missing)
  whole_missing Nothing h = λ said told. let a = whole_ahead said told in h said a.0 a.2
  whole_missing (Refused OutOfMemory) h = tt
  whole_missing (Refused NotNumber) h = λ said told. let a = whole_ahead said told in h said a.0 a.2
  whole_missing (Refused OutOfRange) h = λ said told. let a = whole_ahead said told in h said a.0 a.2
  whole_missing (Refused (Text f)) h = λ said told. let a = whole_ahead said told in h said a.0 a.2
  whole_missing (Refused (BadArray at)) h = λ said told. let a = whole_ahead said told in h said a.0 a.2
  whole_missing (Refused (BadMap at)) h = λ said told. let a = whole_ahead said told in h said a.0 a.2
  whole_missing (Refused NotNullable) h = λ said told. let a = whole_ahead said told in h said a.0 a.2
  whole_missing (Refused (NotHex at)) h = λ said told. let a = whole_ahead said told in h said a.0 a.2
  whole_missing (Refused (BadState f)) h = λ said told. let a = whole_ahead said told in h said a.0 a.2

  told_as : (fault : FieldFault) → ((said : Said) → Told said → said ≡ Err fault) → Then (SyntaxOf (form_of t)) IsSpaces field → Told (Err fault)
  told_as fault f syntax = let s = field_says reads t field syntax in subst Told (f s.0 s.1) s.1

  pub refused_told : (fault : FieldFault) → IsWholeRead Told (Err (Refused fault)) → Then (SyntaxOf (form_of t)) IsSpaces field → IsTold Told (Err fault)
  refused_told OutOfMemory f syntax = tt
  refused_told NotNumber f syntax = told_as NotNumber f syntax
  refused_told OutOfRange f syntax = told_as OutOfRange f syntax
  refused_told (Text x) f syntax = told_as (Text x) f syntax
  refused_told (BadArray at) f syntax = told_as (BadArray at) f syntax
  refused_told (BadMap at) f syntax = told_as (BadMap at) f syntax
  refused_told NotNullable f syntax = told_as NotNullable f syntax
  refused_told (NotHex at) f syntax = told_as (NotHex at) f syntax
  refused_told (BadState x) f syntax = told_as (BadState x) f syntax

  pub nothing_told : ((said : Said) → Told said → ⊥) → Then (SyntaxOf (form_of t)) IsSpaces field → ⊥
  nothing_told f syntax = let s = field_says reads t field syntax in f s.0 s.1
