-- A first field that is taken into a store is taken into the column that has it.
use Rattle.std.proofs.Common.{◌≡◌, ◌≢◌, ℕ, Bool, true, false, not, List, [], ◌∷◌, ◌++◌, length, get_or, eqb, refl, arith, inl, inr}
use Rattle.std.specs.Prelude.{Result, Ok, Err}
use Rattle.std.proofs.lemmas.Bool.{and_parts}
use Rattle.std.proofs.lemmas.Bool.Decides.{nat_tests}
use Rattle.value_lists.specs.declared.out_of_memory.OutOfMemory.{OutOfMemory}
use Rattle.field_texts.specs.Syntax.{IsNumber}
use Rattle.scalar_texts.specs.Answer.{is_null_text}
use Rattle.column_parts.specs.NumberLists.{NumberList}
use Rattle.typed_columns.specs.TypedValues.{TypedValues}
use Rattle.quick_rows.specs.declared.field.Front.{Front}
use Rattle.quick_rows.specs.declared.field.Front.TheVariants as front
use Rattle.quick_rows.specs.Taking.{TakesField, TakesFilled, TakesFirst, TakesFront, TakesNumber, TakesText, is_plain, numbers_seen, texts_seen}
use Rattle.quick_rows.proofs.FieldLaws.{filled_field, nullable, numbers_filled, some_taken, texts_filled}
use Rattle.quick_rows.proofs.Fronts.{some_front}

-- what is taken into one is taken into the other, for a field that was taken and for what is left as it is
first_by : {One Other : Type 0} (P : One → List ℕ → One → Result Bool OutOfMemory → Type 0) (Q : Other → List ℕ → Other → Result Bool OutOfMemory → Type 0) (seen : One → Other) (old new : One) →
    ((field : List ℕ) (r : Result Bool OutOfMemory) → P old field new r → Q (seen old) field (seen new) r) → (text : List ℕ) (r : Result Front OutOfMemory) → TakesFirst P old text new r →
    TakesFirst Q (seen old) text (seen new) r
first_by P Q seen old new f text (Ok (front.Taken left)) h = (h.0, h.1, f h.0 (Ok true) h.2)
first_by P Q seen old new f text (Ok front.Irregular) h = f text (Ok false) h
first_by P Q seen old new f text (Err fault) h = f text (Err fault) h

pub numbers_first : (old new : NumberList) (text : List ℕ) (r : Result Front OutOfMemory) → TakesFirst TakesNumber old text new r → TakesFirst TakesFilled (numbers_seen old) text (numbers_seen new) r
numbers_first old new text r h = first_by TakesNumber TakesFilled numbers_seen old new (λ field s. numbers_filled old new field s) text r h

pub texts_first : (old new : List (List ℕ)) (text : List ℕ) (r : Result Front OutOfMemory) → TakesFirst TakesText old text new r → TakesFirst TakesFilled (texts_seen old) text (texts_seen new) r
texts_first old new text r h = first_by TakesText TakesFilled texts_seen old new (λ field s. texts_filled old new field s) text r h

-- neither a number nor a text without a backslash is `\N`
not_slash : (b c : ℕ) → eqb b 92 ≡ false → is_null_text (b ∷ c ∷ []) ≡ false
not_slash b c h = rw h refl

pub number_some : (field : List ℕ) → IsNumber field → is_null_text field ≡ false
number_some [] h = refl
number_some (b ∷ []) h = refl
number_some (b ∷ c ∷ []) (inl h) = not_slash b c (grind (arith, nat_tests))
number_some (b ∷ c ∷ []) (inr (inl h, digits)) = not_slash b c (grind (arith, nat_tests))
number_some (b ∷ c ∷ []) (inr (inr h, digits)) = not_slash b c (grind (arith, nat_tests))
number_some (b ∷ c ∷ d ∷ field) h = refl

not_so : (b : Bool) → not b ≡ true → b ≡ false
not_so true h = cc
not_so false h = refl

pub plain_some : (field : List ℕ) → is_plain field ≡ true → is_null_text field ≡ false
plain_some [] h = refl
plain_some (b ∷ []) h = refl
plain_some (b ∷ c ∷ []) h = not_slash b c (not_so (eqb b 92) (and_parts (not (eqb b 92)) (is_plain (c ∷ [])) h).0)
plain_some (b ∷ c ∷ d ∷ field) h = refl

pub numbers_field : (old new : NumberList) (text : List ℕ) (r : Result Front OutOfMemory) → TakesFirst TakesNumber old text new r → TakesFirst TakesField (numbers_seen old) text (numbers_seen new) r
numbers_field old new text (Ok (front.Taken left)) h =
    (h.0, h.1, filled_field (numbers_seen old) (numbers_seen new) h.0 (Ok true) (number_some h.0 h.2.0) (numbers_filled old new h.0 (Ok true) h.2))
numbers_field old new text (Ok front.Irregular) h = numbers_filled old new text (Ok false) h
numbers_field old new text (Err fault) h = numbers_filled old new text (Err fault) h

pub texts_field : (old new : List (List ℕ)) (text : List ℕ) (r : Result Front OutOfMemory) → TakesFirst TakesText old text new r → TakesFirst TakesField (texts_seen old) text (texts_seen new) r
texts_field old new text (Ok (front.Taken left)) h =
    (h.0, h.1, filled_field (texts_seen old) (texts_seen new) h.0 (Ok true) (plain_some h.0 h.2.0) (texts_filled old new h.0 (Ok true) h.2))
texts_field old new text (Ok front.Irregular) h = texts_filled old new text (Ok false) h
texts_field old new text (Err fault) h = texts_filled old new text (Err fault) h

-- a field that begins with no backslash isn't `\N`
pub filled_first : (old new : TypedValues) (text : List ℕ) (r : Result Front OutOfMemory) → get_or text 0 0 ≢ 92 → TakesFirst TakesFilled old text new r → TakesFirst TakesField old text new r
filled_first old new text (Ok (front.Taken left)) other h = (h.0, h.1, filled_field old new h.0 (Ok true) (some_front text h.0 left.now other h.1) h.2)
filled_first old new text (Ok front.Irregular) other h = h
filled_first old new text (Err fault) other h = h

-- a value in a column that may hold NULL
pub some_first : (mask after : List Bool) (old new : TypedValues) (text left : List ℕ) → length mask ≡ length old.values → after ≡ mask ++ false ∷ [] →
    TakesFront TakesFilled old text new left → TakesFront TakesFilled (nullable mask old) text (nullable after new) left
some_first mask after old new text left alike marked h = (h.0, h.1, some_taken mask after old new h.0 alike marked h.2)
