use Rattle.key_methods.proofs.Undone.{keys_are_one_to_one, keys_have_the_bytes}
use Rattle.key_methods.proofs.laws.law_keys.Goals as goal

pub returns-clause-one_to_one : goal.returns-clause-one_to_one
returns-clause-one_to_one c = keys_are_one_to_one

pub returns-clause-bytes : goal.returns-clause-bytes
returns-clause-bytes c = keys_have_the_bytes
