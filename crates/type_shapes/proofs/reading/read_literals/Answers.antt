use Rattle.std.proofs.Common.{sym, subst, map, arith}
use Rattle.line_tokens.specs.Views.{token_seen}
use Rattle.chain_params.specs.Literals.{literal_of}
use Rattle.type_shapes.specs.Reading.{ReadsLiterals}
use Rattle.std.proofs.Common.{Some}
use Rattle.type_shapes.proofs.Lists.{map_push, some_literal}
use Rattle.type_shapes.proofs.ListsRead.{AtLiterals, HasLiteral, literals_begin, literal_more, literals_end, literals_break}
use Rattle.type_shapes.proofs.reading.read_literals.Goals as goal

pub loop-first-init : goal.loop-first-init
loop-first-init c =
    (subst (λ ls. AtLiterals c.args.text.now c.in-Some.rest.now (map literal_of ls)) (sym c.new-literals.ensures) (literals_begin c.args.text.now c.in-Some.rest.now c.in-Some.ensures.tokens), omega (arith, c.in-Some.ensures.shorter))

pub loop-first-preserved : goal.loop-first-preserved
loop-first-preserved c =
    let one : HasLiteral c.args.text.now c.in-Some-first_token.first.rest.now (map literal_of c.loop-first.literals) (literal_of c.in-Some-2.literal) = record {
      rest = c.loop-first.rest.now;
      token = token_seen c.in-Some-first_token.first.token;
      at = c.loop-first.invariant.0;
      first = c.in-Some-first_token.ensures.tokens;
      is = some_literal _ _ _ _ c.in-Some-2.is c.in_ok-literal.ensures;
    } in (
      subst (AtLiterals c.args.text.now c.in-Some-behind.after.now) (sym (map_push literal_of _ _ _ c.in_ok-push.ensures.ok)) (literal_more _ _ c.in-Some-behind.after.now _ _ one c.in-Some-behind.ensures.tokens),
      omega (arith, c.in-Some-behind.ensures.shorter, c.in-Some-first_token.ensures.shorter, c.loop-first.invariant.1),
    )

pub returns-in-Some-behind-2-clause-read : goal.returns-in-Some-behind-2-clause-read
returns-in-Some-behind-2-clause-read c =
    let one : HasLiteral c.args.text.now c.in-Some-first_token.first.rest.now (map literal_of c.loop-first.literals) (literal_of c.in-Some-2.literal) = record {
      rest = c.loop-first.rest.now;
      token = token_seen c.in-Some-first_token.first.token;
      at = c.loop-first.invariant.0;
      first = c.in-Some-first_token.ensures.tokens;
      is = some_literal _ _ _ _ c.in-Some-2.is c.in_ok-literal.ensures;
    } in
    subst (λ ls. ReadsLiterals c.args.text.now (Some (ls, c.in-Some-behind-2.after.now))) (sym (map_push literal_of _ _ _ c.in_ok-push.ensures.ok)) (literals_end _ _ c.in-Some-behind-2.after.now _ _ one c.in-Some-behind-2.ensures.tokens)

pub returns-in-None-behind-clause-read : goal.returns-in-None-behind-clause-read
returns-in-None-behind-clause-read c =
    let one : HasLiteral c.args.text.now c.in-Some-first_token.first.rest.now (map literal_of c.loop-first.literals) (literal_of c.in-Some-2.literal) = record {
      rest = c.loop-first.rest.now;
      token = token_seen c.in-Some-first_token.first.token;
      at = c.loop-first.invariant.0;
      first = c.in-Some-first_token.ensures.tokens;
      is = some_literal _ _ _ _ c.in-Some-2.is c.in_ok-literal.ensures;
    } in
    literals_break _ _ _ _ one c.in-None.ensures.tokens c.in-None-behind.ensures.tokens
