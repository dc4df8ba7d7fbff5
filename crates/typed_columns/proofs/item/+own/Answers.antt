use Rattle.typed_columns.proofs.Entries.{next-copied, next-entry-copied}
use Rattle.typed_columns.proofs.item.+own.Goals as goal

pub Span::to_values-loop-place-preserved : goal.Span::to_values-loop-place-preserved
Span::to_values-loop-place-preserved t c =
    next-copied _ _ _ c.loop-place.place _ _ c.loop-place.invariant c.in_ok-push.ensures.ok c.in_ok-to_value.ensures c.at-element.ensures

pub PairSpan::to_pairs-loop-place-preserved : goal.PairSpan::to_pairs-loop-place-preserved
PairSpan::to_pairs-loop-place-preserved t c =
    next-entry-copied _ _ _ c.loop-place.place _ _ _ _ c.loop-place.invariant c.in_ok-push.ensures.ok c.in_ok-owned_key.ensures c.in_ok-to_value.ensures
    c.key-key.ensures c.value-value.ensures
