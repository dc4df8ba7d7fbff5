use Rattle.std.proofs.Common.{◌≡◌, ◌-◌, ◌++◌, ◌∙◌, ℕ, ap, drop, subst, take}
use Rattle.line_reader.specs.Ahead.{Ahead}
use Rattle.line_reader.specs.Answers.{ReadsBlock}
use Rattle.line_reader.specs.Filling.{block_end}
use Rattle.line_reader.proofs.Handed.{ahead_of, reads-block}
use Rattle.line_reader.proofs.lookahead.Lookahead.read_block_of.Goals as goal

pub returns-clause-block : goal.returns-clause-block
returns-clause-block g c =
    let left = g.S.Source.left c.args.source.now in
    let now = g.S.Source.left c.fill.new.source in
    let m = c.self.inside.most_line in
    let r = c.self.inside.room in
    let after = c.fill.new.block in
    let stops = c.in_ok-stop.stop in
    let held_is : c.append.new.self ≡ c.self.inside.held = c.in_ok-append.ensures.ok ∙ (λ i. c.clear.ensures i ++ c.as_slice.ensures i) in
    let end_is = c.block_end-end.ensures ∙ ap (block_end stops c.in_ok-stop.cut) c.len.ensures in
    let read = reads-block left now m r c.append.new.self after c.in_ok-stop.cut stops c.in_ok-stop.ensures.block
    c.hand_out.new.block (c.in_ok-hand_out.ensures.block ∙ ap (λ (k : ℕ). take k after) end_is)
    c.hand_out.new.self (c.in_ok-hand_out.ensures.ahead ∙ ap (λ (k : ℕ). ahead_of m (r - k) (drop k after)) end_is) in
    subst (λ (before : Ahead). ReadsBlock left now before c.hand_out.new.self c.hand_out.new.block stops) (ap (ahead_of m r) held_is ∙ c.self.view_is) read
