use Rattle.std.proofs.Common.{◌≡◌, ◌<◌, List, ℕ, length, true, false, Option, None, Some, Bor, arith}
use Rattle.std.specs.Prelude.{IfNone, IfSome, MatchOption}
use Rattle.std.specs.List.{after_first, before_first, list_any, position_or_len}
use Rattle.query_words.specs.Words.{is_equals}
use Rattle.query_words.proofs.Settings.{absent, there}
use Rattle.query_words.proofs.options.split_at_equals.Goals as goal

abbrev Parts : List ℕ → Option (Bor (List ℕ) × Bor (List ℕ)) → Type 0
Parts word r = MatchOption r (position_or_len is_equals word ≡ length word)
    (λ x. (x.0.now ≡ before_first is_equals word) × (x.1.now ≡ after_first is_equals word) × (position_or_len is_equals word < length word))

no_parts : (word : List ℕ) (r : Option (Bor (List ℕ) × Bor (List ℕ))) → Parts word r → IfNone r (list_any is_equals word ≡ false)
no_parts word None h = absent word h
no_parts word (Some x) h = tt

with_equals : (word : List ℕ) (r : Option (Bor (List ℕ) × Bor (List ℕ))) → Parts word r → IfSome r (λ x. list_any is_equals word ≡ true)
with_equals word None h = tt
with_equals word (Some x) h = there word h.2

front : (word : List ℕ) (r : Option (Bor (List ℕ) × Bor (List ℕ))) → Parts word r → IfSome r (λ x. x.0.now ≡ before_first is_equals word)
front word None h = tt
front word (Some x) h = h.0

behind : (word : List ℕ) (r : Option (Bor (List ℕ) × Bor (List ℕ))) → Parts word r → IfSome r (λ x. x.1.now ≡ after_first is_equals word)
behind word None h = tt
behind word (Some x) h = h.1

pub returns : goal.returns
returns c =
    let word = c.args.word.now in
    let parts : Parts word c.split_once.result = c.split_once.ensures.byte (omega arith) (λ w o h. h) in
    record {
      none = no_parts word c.split_once.result parts;
      some = with_equals word c.split_once.result parts;
      name = front word c.split_once.result parts;
      value = behind word c.split_once.result parts;
    }
