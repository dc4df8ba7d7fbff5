-- Room for a place, and an entry for a key: there, or made.
use Rattle.std.proofs.Common.{◌≡◌, ℕ, ◌≤◌, ◌<◌, List, [], ◌∷◌, ◌++◌, length, sym, subst, Result, Ok}
use Rattle.std.specs.List.{insert}
use Rattle.agg_terms.specs.Chains.{Chain, Ty}
use Rattle.agg_terms.specs.Values.{Value}
use Rattle.agg_meaning.specs.Results.{blank}
use Rattle.value_types.specs.declared.value.Value.{Value as Valued}
use Rattle.value_types.specs.Folds.{value_of}
use Rattle.running_states.specs.declared.running.Running.{Running}
use Rattle.running_states.specs.Entries.{IsFoundAt, IsMissingAt, IsPlaceOf, keys_in}
use Rattle.running_states.specs.Shapes.{AreEntries, IsState}
use Rattle.running_states.specs.Trees.{tree_in}
use Rattle.chain_links.specs.proving.Words.{HasEntry, HasRoom}
use Rattle.chain_links.proofs.Entries.{entry_made, entry_there}
use Rattle.chain_links.proofs.SlotLists.{room_made, room_there}

pub room_pushed : (c : Chain) (us : List Ty) (ss rr : List Running) (i : ℕ) (s : Running) → rr ≡ ss ++ s ∷ [] → i ≤ length ss → length ss ≤ i → IsState c us s → tree_in s ≡ blank c → HasRoom c us ss i rr
room_pushed c us ss rr i s e l k h b = subst (HasRoom c us ss i) (sym e) (room_made c us ss i s l k h b)

pub entry_put : (c : Chain) (us : List Ty) (k : Value) (es rr : List (Valued × Running)) (p : ℕ) (key : Valued) (s : Running) → rr ≡ insert es p (key, s) → value_of key ≡ k → IsMissingAt k (keys_in es) p → IsState c us s → tree_in s ≡ blank c → HasEntry c us k es p rr
entry_put c us k es rr p key s e v m h b = subst (HasEntry c us k es p) (sym e) (entry_made c us k es p key s v m h b)

pub entry_found : (c : Chain) (us : List Ty) (k : Value) (es : List (Valued × Running)) (p : ℕ) → AreEntries (IsState c us) es → IsFoundAt k (keys_in es) p → HasEntry c us k es p es
entry_found c us k es p a f = entry_there c us k es p a.1 f

pub ruleset room_laws = (room_there, room_pushed)

pub ruleset entry_laws = (entry_found, entry_put)
