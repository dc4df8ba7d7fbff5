use Rattle.std.proofs.Common.{ℕ, Option, Ok, Err, subst}
use Rattle.line_reader.specs.Ahead.{Ahead}
use Rattle.line_reader.specs.Answers.{ReadsNext}
use Rattle.line_reader.specs.proving.Awaiting.{AwaitsLine, TakesLine}
use Rattle.line_reader.proofs.Handed.{ahead_of}
use Rattle.line_reader.proofs.Lined.{fault-next, last-next, line-next, some-of}
use Rattle.line_reader.proofs.lookahead.Lookahead.next_line.Goals as goal

pub returns-in-Ok-Some-clause-next : goal.returns-in-Ok-Some-clause-next
returns-in-Ok-Some-clause-next g c =
    let left = g.S.Source.left c.args.source.now in
    let now = g.S.Source.left c.await_line.new.source in
    let m = c.self.inside.most_line in
    let r = c.self.inside.room in
    let held = c.await_line.new.held in
    let awaited = subst (λ (found : Option ℕ). AwaitsLine left now m r c.self.inside.held held (Ok found)) c.in-Ok-Some.field-0-is c.in-Ok-Some.ensures.line in
    subst (λ (before : Ahead). ReadsNext left now before c.take_line.new.self c.take_line.result) c.self.view_is
    (line-next left now m r c.self.inside.held held c.in-Ok-Some.at awaited c.take_line.new.self c.take_line.result c.take_line.ensures)

pub returns-in-Ok-None-2-clause-next : goal.returns-in-Ok-None-2-clause-next
returns-in-Ok-None-2-clause-next g c =
    let left = g.S.Source.left c.args.source.now in
    let now = g.S.Source.left c.await_line.new.source in
    let m = c.self.inside.most_line in
    let r = c.self.inside.room in
    let held = c.await_line.new.held in
    let answer = c.take_line-in-Ok-None-2.result in
    let ahead = c.take_line-in-Ok-None-2.new.self in
    let awaited = subst (λ (found : Option ℕ). AwaitsLine left now m r c.self.inside.held held (Ok found)) c.in-Ok-None-2.field-0-is c.in-Ok-None.ensures.line in
    let takes = subst (λ (len : ℕ). TakesLine len len (ahead_of m r held) ahead answer) c.len-len.ensures c.take_line-in-Ok-None-2.ensures in
    subst (λ (before : Ahead). ReadsNext left now before ahead answer) c.self.view_is
    (last-next left now m r c.self.inside.held held awaited (some-of held c.if-is_empty.ensures.1) ahead answer takes)

pub returns-in-Err-clause-next : goal.returns-in-Err-clause-next
returns-in-Err-clause-next g c =
    let left = g.S.Source.left c.args.source.now in
    let now = g.S.Source.left c.await_line.new.source in
    let m = c.self.inside.most_line in
    let r = c.self.inside.room in
    subst (λ (before : Ahead). ReadsNext left now before (ahead_of m r c.await_line.new.held) (Err c.in-Err.fault)) c.self.view_is
    (fault-next left now m r c.self.inside.held c.await_line.new.held c.in-Err.fault c.in-Err.ensures.line)
