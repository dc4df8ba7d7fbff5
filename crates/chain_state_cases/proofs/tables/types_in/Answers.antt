use Rattle.std.proofs.Common.{◌∙◌, ap}
use Rattle.chain_state_cases.proofs.Readable.{readable, types_in}
use Rattle.chain_state_cases.proofs.tables.types_in.Goals as goal

pub returns-in_ok-types_of-in-Ok-clause-readable : goal.returns-in_ok-types_of-in-Ok-clause-readable
returns-in_ok-types_of-in-Ok-clause-readable c =
    readable (c.law_legal_fields.ensures.rows _) c.in-Ok.schema c.in_ok-types_of-in-Ok.field-0 (c.in_ok-types_of-in-Ok.ensures ∙ ap types_in c.as_slice.ensures) c.in-Ok.ensures.legal
