use Rattle.std.proofs.Common.{refl}
use Rattle.value_types.specs.Folds.{chain_of, event_of, item_of, leaf_of, link_of, op_of, pattern_of, tree_of, ty_of, value_of}
use Rattle.value_types.proofs.ChainsBack.{chain_back, chain_read, item_back, item_read, leaf_back, leaf_read, link_back, link_read, one_to_one, op_back, op_read, pattern_back, pattern_read}
use Rattle.value_types.proofs.TypesBack.{ty_back, ty_read}
use Rattle.value_types.proofs.ValuesBack.{event_back, tree_back, tree_read, value_back, value_read}
use Rattle.value_types.proofs.laws.law_folds.Goals as goal

pub returns : goal.returns
returns c = record {
  ops = one_to_one op_of op_back op_read;
  items = one_to_one item_of item_back item_read;
  links = one_to_one link_of link_back link_read;
  patterns = one_to_one pattern_of pattern_back pattern_read;
  leaves = one_to_one leaf_of leaf_back leaf_read;
  chains = one_to_one chain_of chain_back chain_read;
  types = one_to_one ty_of ty_back ty_read;
  events = one_to_one event_of event_back (λ e. refl);
  values = one_to_one value_of value_back value_read;
  trees = one_to_one tree_of tree_back tree_read;
}
