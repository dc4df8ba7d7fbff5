use Rattle.std.proofs.Common.{[], ◌++◌, ◌∙◌, List, ℕ, ap, arith, refl, sym, subst, append_assoc}
use Rattle.std.proofs.lemmas.List.{append-nil}
use Rattle.agg_ports.specs.Ports.{TakeCause}
use Rattle.line_reader.specs.Taking.{TakesBehind}
use Rattle.line_reader.specs.Filling.{HasCut, IsOpen}
use Rattle.line_reader.proofs.Filled.{no-cut, consumes-none, consumes-more, cut-kept}
use Rattle.line_reader.proofs.filling.fill.Goals as goal

pub loop-init : goal.loop-init
loop-init g c = record {
  taken = [];
  behind = sym (append-nil c.args.block.now);
  consumed = consumes-none (g.S.Source.left c.args.source.now);
  quiet = refl;
  has_cut = no-cut c.args.most_line c.args.room c.args.block.now c.requires.line c.requires.input;
}

pub loop-preserved : goal.loop-preserved
loop-preserved g c =
    let left = g.S.Source.left in
    let faults = g.S.Source.faults in
    let so_far = c.loop.invariant in
    let most = c.piece_len-most.result in
    let came = subst (TakesBehind (left c.loop.source) (left c.take_from.new.source) most c.loop.block c.take_from.new.self) c.in-Bytes.is c.in_ok-take_from.ensures.bytes in
    let cause = subst (TakeCause (faults c.loop.source) (faults c.take_from.new.source)) c.in-Bytes.is c.in_ok-take_from.ensures.cause in
    let known = subst (λ (bytes : List ℕ). HasCut c.args.most_line c.args.room bytes c.next_cut-next.result) c.as_slice.ensures c.next_cut-next.ensures.cut in
    let open_is = subst (λ (bytes : List ℕ). IsOpen c.args.most_line c.args.room bytes c.next_cut-next.result) c.as_slice-in-loop-2.ensures c.in_default.ensures.more in
    record {
      taken = so_far.taken ++ came.0;
      behind = came.4 ∙ ap (λ (bytes : List ℕ). bytes ++ came.0) so_far.behind ∙ append_assoc c.args.block.now so_far.taken came.0;
      consumed = consumes-more (left c.args.source.now) (left c.loop.source) (left c.take_from.new.source) so_far.taken came.0 so_far.consumed came.5;
      quiet = cause ∙ so_far.quiet;
      has_cut = cut-kept c.args.most_line c.args.room c.loop.block came.0 c.take_from.new.self c.next_cut-next.result most known came.4 (omega (arith, came.1, came.3))
          (omega (arith, c.piece_len-most.ensures.line, open_is.line, known.within)) (omega (arith, c.piece_len-most.ensures.input, open_is.input));
    }
