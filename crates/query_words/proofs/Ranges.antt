-- The numbers of a command are in their ranges.
use Rattle.std.proofs.Common.{◌≡◌, ℕ, ◌≤◌, Bool, true, false, ◌&&◌, leb, List, [], ◌∷◌, length, Option, None, Some, ap, sym, subst, ◌∙◌, refl, arith}
use Rattle.std.specs.Prelude.{codes, IfOk, IfSome, option_map, if◌then◌else◌, unwrap_or, Result, Ok, Err}
use Rattle.std.specs.List.{list_all}
use Rattle.std.specs.Result.{result_ok}
use Rattle.std.specs.Str.{bytes_eq}
use Rattle.std.specs.Str.Parse.{digits_value}
use Rattle.std.proofs.lemmas.Bool.{and_parts, leb-true}
use Rattle.query_words.specs.Words.{Setting, IsInRange, at_most_once, both, command_of, given, is_known, is_number, make_of, make_with, number_between, options_of, query_of, query_with, script_of, script_with, settings_of, values_of}
use Rattle.query_words.specs.declared.command.Command.{Command}
use Rattle.query_words.specs.declared.command.Usage.{Usage}
use Rattle.query_words.specs.declared.options.Options.{Options}

abbrev Within : ℕ → ℕ → ℕ → Type 0
Within least most n = (least ≤ n) × (n ≤ most)

between : (least most n : ℕ) (first t : Bool) → t ≡ (first && (leb least n && leb n most)) → IfSome (if t then Some n else None) (Within least most)
between least most n first true h =
    let parts = and_parts first (leb least n && leb n most) (sym h) in
    let bounds = and_parts (leb least n) (leb n most) parts.1 in
    (leb-true least n bounds.0, leb-true n most bounds.1)
between least most n first false h = tt

number_within : (least most : ℕ) (word : List ℕ) → IfSome (number_between least most word) (Within least most)
number_within least most word = between least most (digits_value 10 word) (is_number word) (is_number word && (leb least (digits_value 10 word) && leb (digits_value 10 word) most)) refl

-- an option that may stand once
abbrev MayBe : ℕ → Option ℕ → Type 0
MayBe most o = IfSome o (Within 1 most)

if_some : {X Y : Type 0} (P : X → Type 0) (Q : Y → Type 0) (f : X → Y) → ((x : X) → P x → Q (f x)) → (o : Option X) → IfSome o P → IfSome (option_map f o) Q
if_some P Q f g None h = tt
if_some P Q f g (Some x) h = g x h

once_within : (most : ℕ) (values : List (List ℕ)) → IfSome (at_most_once most values) (MayBe most)
once_within most [] = tt
once_within most (value ∷ []) = if_some (Within 1 most) (MayBe most) (λ n. Some n) (λ n h. h) (number_between 1 most value) (number_within 1 most value)
once_within most (value ∷ other ∷ more) = tt

abbrev AreWithin : Options → Type 0
AreWithin o = MayBe 32 o.threads × MayBe 64 o.pieces

both_within : (threads pieces : Option (Option ℕ)) → IfSome threads (MayBe 32) → IfSome pieces (MayBe 64) → IfSome (both threads pieces) AreWithin
both_within None pieces h g = tt
both_within (Some threads) None h g = tt
both_within (Some threads) (Some pieces) h g = (h, g)

either_so : {X : Type 0} (P : X → Type 0) (t : Bool) (one other : Option X) → IfSome one P → IfSome other P → IfSome (if t then one else other) P
either_so P true one other h g = h
either_so P false one other h g = g

given_within : (settings : List Setting) → IfSome (given settings) AreWithin
given_within settings =
    let threads = values_of (codes "--threads") settings in
    let pieces = values_of (codes "--pieces") settings in
    either_so AreWithin (list_all is_known settings) (both (at_most_once 32 threads) (at_most_once 64 pieces)) None
    (both_within (at_most_once 32 threads) (at_most_once 64 pieces) (once_within 32 threads) (once_within 64 pieces)) tt

options_by : (r : Option (List Setting)) → IfSome (elim r [ None ↦ None | Some settings ↦ given settings ]) AreWithin
options_by None = tt
options_by (Some settings) = given_within settings

options_within : (words : List (List ℕ)) → IfSome (options_of words) AreWithin
options_within words = options_by (settings_of words)

or_default : (most default : ℕ) (o : Option ℕ) → 1 ≤ default → default ≤ most → MayBe most o → Within 1 most (unwrap_or o default)
or_default most default None low high h = (low, high)
or_default most default (Some n) low high h = h

query_within : (words : List (List ℕ)) → IfSome (query_of words) IsInRange
query_within words =
    if_some AreWithin IsInRange query_with
    (λ o h. let threads = or_default 32 1 o.threads (omega arith) (omega arith) h.0 in let pieces = or_default 64 1 o.pieces (omega arith) (omega arith) h.1 in (threads.0, threads.1, pieces.0, pieces.1))
    (options_of words) (options_within words)

script_by : (threads pieces : Option ℕ) → MayBe 32 threads → IfSome (script_with threads pieces) IsInRange
script_by threads None h = or_default 32 32 threads (omega arith) (omega arith) h
script_by threads (Some n) h = tt

script_of_options : (r : Option Options) → IfSome r AreWithin → IfSome (elim r [ None ↦ None | Some options ↦ script_with options.threads options.pieces ]) IsInRange
script_of_options None h = tt
script_of_options (Some o) h = script_by o.threads o.pieces h.0

script_within : (words : List (List ℕ)) → IfSome (script_of words) IsInRange
script_within words = script_of_options (options_of words) (options_within words)

make_by : (number rows : Option ℕ) → IfSome rows (Within 0 1000000) → IfSome (make_with number rows) IsInRange
make_by None rows h = tt
make_by (Some n) None h = tt
make_by (Some n) (Some rows) h = h.1

make_within : (words : List (List ℕ)) → IfSome (make_of words) IsInRange
make_within [] = tt
make_within (one ∷ []) = tt
make_within (number ∷ rows ∷ []) = make_by (number_between 0 18446744073709551615 number) (number_between 0 1000000 rows) (number_within 0 1000000 rows)
make_within (one ∷ two ∷ three ∷ more) = tt

command_within : (words : List (List ℕ)) → IfSome (command_of words) IsInRange
command_within [] = tt
command_within (name ∷ words) =
    let make = either_so IsInRange (bytes_eq name (codes "make")) (make_of words) None (make_within words) tt in
    let script = either_so IsInRange (bytes_eq name (codes "script")) (script_of words) (if bytes_eq name (codes "make") then make_of words else None) (script_within words) make in
    either_so IsInRange (bytes_eq name (codes "query")) (query_of words) (if bytes_eq name (codes "script") then script_of words else if bytes_eq name (codes "make") then make_of words else None) (query_within words) script

if_ok : (r : Result Command Usage) → IfSome (result_ok r) IsInRange → IfOk r IsInRange
if_ok (Ok c) h = h
if_ok (Err e) h = tt

-- what words ask for is in its ranges
pub in_range : (r : Result Command Usage) (words : List (List ℕ)) → result_ok r ≡ command_of words → IfOk r IsInRange
in_range r words is = if_ok r (subst (λ o. IfSome o IsInRange) (sym is) (command_within words))
