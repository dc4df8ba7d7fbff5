use Rattle.agg_typing.proofs.Reading.{read-spelled, read-is-spelled, spelled-once}
use Rattle.agg_typing.proofs.Allowed.{call_is_legal, state_is_legal}
use Rattle.agg_typing.proofs.Same.{chain_exact, chain_same}
use Rattle.agg_typing.proofs.Soundness as soundness
use Rattle.agg_typing.proofs.Inward as inward
use Rattle.agg_typing.proofs.Results.{result_legal, state_type_legal}
use Rattle.agg_typing.proofs.Results as results
use Rattle.agg_typing.proofs.Patterns as patterns
use Rattle.agg_typing.proofs.law_typing.Goals as goal

pub returns-clause-spelled_is_read : goal.returns-clause-spelled_is_read
returns-clause-spelled_is_read c = λ f ss. read-spelled f ss

pub returns-clause-read_is_spelled : goal.returns-clause-read_is_spelled
returns-clause-read_is_spelled c = λ name shape h. read-is-spelled name shape h

pub returns-clause-spelled_once : goal.returns-clause-spelled_once
returns-clause-spelled_once c = λ f g ss ts h. spelled-once f g ss ts h

pub returns-clause-chain_test_is_exact : goal.returns-clause-chain_test_is_exact
returns-clause-chain_test_is_exact c = λ d e. (λ h. chain_exact d e h, λ h. chain_same d e h)

pub returns-clause-allowed_is_legal : goal.returns-clause-allowed_is_legal
returns-clause-allowed_is_legal c = λ reads owes name params args d h. call_is_legal reads owes name params args d h

pub returns-clause-allowed_state_is_legal : goal.returns-clause-allowed_state_is_legal
returns-clause-allowed_state_is_legal c = λ reads owes name params args t l h. state_is_legal reads owes name params args t l h

pub returns-clause-legal_is_lawful : goal.returns-clause-legal_is_lawful
returns-clause-legal_is_lawful c = λ d ts l. soundness.legal_is_lawful d ts l

pub returns-clause-inner_is_legal : goal.returns-clause-inner_is_legal
returns-clause-inner_is_legal c = λ d inner ts e l. inward.inner_is_legal d inner ts e l

pub returns-clause-result_is_legal : goal.returns-clause-result_is_legal
returns-clause-result_is_legal c = λ d ts l. result_legal d ts l

pub returns-clause-state_type_is_legal : goal.returns-clause-state_type_is_legal
returns-clause-state_type_is_legal c = λ d ts l. state_type_legal d ts l

pub returns-clause-state_type_is_of_legal : goal.returns-clause-state_type_is_of_legal
returns-clause-state_type_is_of_legal c = λ d ts h. results.state_type_is_of_legal d ts h

pub returns-clause-patterns_are_patterns : goal.returns-clause-patterns_are_patterns
returns-clause-patterns_are_patterns c = λ d ts p h e. patterns.patterns_are_patterns d ts p h e

pub returns-clause-pattern_meets_conditions : goal.returns-clause-pattern_meets_conditions
returns-clause-pattern_meets_conditions c = λ p ts h. patterns.pattern_meets_conditions p ts h
