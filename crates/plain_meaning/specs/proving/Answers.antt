-- What is found out of a chain over rows: its meaning, whether it was fed, and its state.
use Rattle.std.specs.Prelude.{◌≡◌, List, map}
use Rattle.agg_terms.specs.Chains.{Chain, Ty}
use Rattle.agg_terms.specs.Lists.{some}
use Rattle.agg_terms.specs.Values.{Value}
use Rattle.value_types.specs.Folds.{entry_of, tree_of, value_of}
use Rattle.plain_meaning.specs.declared.answer.Answer.{Answer}
use Rattle.plain_meaning.specs.declared.answer.Gathered.{Gathered}
use Rattle.plain_meaning.specs.declared.answer.Keyed.{Keyed}
use Rattle.plain_meaning.specs.proving.Images.{image_of}
use Rattle.plain_meaning.specs.Inward.{fed_of, meaning_of, normal_of, rows_at_key}

pub record Answers (c : Chain) (ts : List Ty) (rows : List (List Value)) (a : Answer) : Type 0 where
  pub value : value_of a.value ≡ meaning_of c ts rows
  pub is_fed : a.is_fed ≡ fed_of c ts rows
  pub state : tree_of a.state ≡ normal_of c ts rows

-- the answers over several lists of rows
pub record Gathers (c : Chain) (ts : List Ty) (parts : List (List (List Value))) (g : Gathered) : Type 0 where
  pub values : map value_of g.values ≡ map (meaning_of c ts) parts
  pub is_fed : g.is_fed ≡ some (fed_of c ts) parts
  pub states : map tree_of g.states ≡ map (normal_of c ts) parts

-- the answers over the rows at several keys
pub record AtKeys (c : Chain) (ts : List Ty) (rows : List (List Value)) (keys : List Value) (k : Keyed) : Type 0 where
  pub pairs : map image_of k.pairs ≡ map (λ key. (key, meaning_of c ts (rows_at_key key rows))) keys
  pub is_fed : k.is_fed ≡ some (fed_of c ts) (map (λ key. rows_at_key key rows) keys)
  pub entries : map entry_of k.entries ≡ map (λ key. (key, normal_of c ts (rows_at_key key rows))) keys
