use Rattle.group_keys.specs.proving.Texts.{same_bytes}
use Rattle.group_keys.proofs.KeyLists.{placed-next-mapped}
use Rattle.group_keys.proofs.places.place_copies.Goals as goal

pub loop-text-preserved : goal.loop-text-preserved
loop-text-preserved c =
    placed-next-mapped (λ k. k.items) same_bytes _ c.args.texts.now _ _ c.loop-text.text-index c.text-item.result _ _ _ _ c.loop-text.invariant c.loop-text-test.true c.text-item.is
    c.as_slice.ensures.value c.in_ok-place_text.ensures.keys c.in_ok-place_text.ensures.place c.in_ok-push.ensures.items
