use Rattle.script_text.proofs.ViewsFound.{views_found}
use Rattle.script_text.proofs.laws.law_script_views.Goals as goal

pub returns : goal.returns
returns c = views_found
