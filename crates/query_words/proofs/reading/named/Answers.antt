use Rattle.std.proofs.Common.{refl}
use Rattle.std.specs.Prelude.{codes}
use Rattle.query_words.proofs.Settings.{differs}
use Rattle.query_words.proofs.reading.named.Goals as goal

pub returns-in_default : goal.returns-in_default
returns-in_default c =
    let name = c.args.name.now in
    rw (differs name (codes "query") c.in_default.not-query, differs name (codes "script") c.in_default.not-script, differs name (codes "make") c.in_default.not-make) refl
