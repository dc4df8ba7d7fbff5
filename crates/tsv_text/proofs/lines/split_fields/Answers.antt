use Rattle.std.proofs.Common.{ℕ, List, refl, subst}
use Rattle.tsv_text.proofs.Places.{IsCut, next_cut}
use Rattle.tsv_text.proofs.lines.split_fields.Goals as goal

pub loop-rest-preserved : goal.loop-rest-preserved
loop-rest-preserved c =
    let here = subst (IsCut c.args.line.now c.loop-rest.places.items) c.in-Some.is c.loop-rest.invariant in
    next_cut c.args.line.now c.in-Some.text.now c.first_field.result.0.now c.loop-rest.places.items c.push.new.self.items _ c.first_field.result.1 here c.first_field.ensures.fields refl c.in_ok-push.ensures.items
