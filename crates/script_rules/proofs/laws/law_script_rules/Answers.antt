use Rattle.script_rules.proofs.Found.{views_are_found}
use Rattle.script_rules.proofs.Numbered.{sessions_are_numbered}
use Rattle.script_rules.proofs.laws.law_script_rules.Goals as goal

pub returns-clause-views : goal.returns-clause-views
returns-clause-views c = views_are_found

pub returns-clause-sessions : goal.returns-clause-sessions
returns-clause-sessions c = sessions_are_numbered
