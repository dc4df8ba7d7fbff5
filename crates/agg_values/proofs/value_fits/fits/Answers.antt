use Rattle.std.proofs.Common.{◌≡◌, true, subst, sym, Bool}
use Rattle.std.specs.Prelude.{◌↔◌}
use Rattle.agg_terms.proofs.Fitting as fitting
use Rattle.agg_terms.specs.Trees.{IsValue}
use Rattle.value_types.specs.Folds.{ty_of, value_of}
use Rattle.agg_values.proofs.value_fits.fits.Goals as goal

pub returns-clause-exact : goal.returns-clause-exact
returns-clause-exact c =
    let t = ty_of c.args.ty.now in
    let v = value_of c.args.value.now in
    subst (λ (b : Bool). (b ≡ true) ↔ IsValue t v) (sym c.type_fits.ensures) (fitting.value t v)
