use Rattle.std.proofs.Common.{sym, ap, subst, map, arith, rules}
use Rattle.type_shapes.proofs.shape.TypeShape.TheLaws.{the_size}
use Rattle.std.proofs.lemmas.List.{length-map}
use Rattle.chain_params.specs.Faults.{IsFault}
use Rattle.chain_params.specs.Literals.{literal_of}
use Rattle.shape_types.specs.Countable.{IsCountable, shape_count}
use Rattle.shape_types.specs.Types.{types_of_shapes}
use Rattle.type_shapes.specs.Folds.{shape_of}
use Rattle.type_shapes.specs.Shapes.{State, shapes}
use Rattle.value_types.specs.Folds.{ty_of}
use Rattle.shape_types.proofs.Arms.{shape_State}
use Rattle.shape_types.proofs.AtPlaces.{countable_here, no_larger, refused_here, one_more}
use Rattle.shape_types.proofs.InOrder.{types_count}
use Rattle.shape_types.proofs.types.+type_of.Goals as goal

pub type_of-resolve_state-requires-clause-args : goal.type_of-resolve_state-requires-clause-args
type_of-resolve_state-requires-clause-args t c =
    let whole : IsCountable (State c.in-State.name (map literal_of c.in-State.literals) (shapes (map shape_of c.in-State.types))) =
    subst IsCountable (shape_State c.args.shape.now c.in-State.name c.in-State.literals c.in-State.types c.in-State.is) c.requires in
    let few = whole.1 in
    let given = types_count (shapes (map shape_of c.as_slice.result.now)) (map ty_of c.in_ok-types-in-State.types) c.in_ok-types-in-State.ensures in
    let lent = ap (λ ss. shape_count (shapes (map shape_of ss))) c.as_slice.ensures in
    let same = length-map c.in_ok-types-in-State.types ty_of in
    omega (arith, few, given, lent, same)

pub types_of-type_of-requires : goal.types_of-type_of-requires
types_of-type_of-requires t c =
    let smaller = no_larger c.args.written.now c.loop-shape.shape-index _ c.loop-shape-test.true the_size c.shape-item.result c.shape-item.is in (
      omega (arith, c.decreases, smaller),
      subst (λ s. IsCountable (shape_of s)) (sym c.shape-item.is) (countable_here c.args.written.now c.loop-shape.shape-index _ c.loop-shape-test.true c.requires),
    )

pub types_of-returns-in_err-type_of : goal.types_of-returns-in_err-type_of
types_of-returns-in_err-type_of t c =
    let refused : IsFault c.in_err-type_of.field-0.0 (types_of_shapes (shapes (map shape_of c.args.written.now))) =
    refused_here c.args.written.now c.loop-shape.shape-index _ c.loop-shape-test.true c.shape-item.result (map ty_of c.loop-shape.types) c.in_err-type_of.field-0.0
    c.loop-shape.invariant c.shape-item.is c.in_err-type_of.ensures in
    search (rules, refused)

pub types_of-loop-shape-preserved : goal.types_of-loop-shape-preserved
types_of-loop-shape-preserved t c =
    one_more c.args.written.now c.loop-shape.shape-index _ c.loop-shape-test.true c.shape-item.result c.loop-shape.types c.push.new.self c.in_ok-type_of.field-0
    c.in_ok-push.ensures.ok c.loop-shape.invariant c.shape-item.is c.in_ok-type_of.ensures
