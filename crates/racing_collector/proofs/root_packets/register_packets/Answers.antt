use Rattle.std.proofs.Common.{◌∙◌, ◌++◌, ◌∷◌, [], ap, sym, arith}
use Rattle.std.proofs.lemmas.List.FromFn.{map-range_with_len_more}
use Rattle.racing_collector.specs.declared.item.RaceItem.TheVariants as item
use Rattle.racing_collector.proofs.root_packets.register_packets.Goals as goal

pub loop-place-preserved : goal.loop-place-preserved
loop-place-preserved c = (
  c.in_ok-add.ensures.items ∙ ap (λ l. l ++ item.Register c.loop-place.place ∷ []) c.loop-place.invariant.0
      ∙ sym (map-range_with_len_more (λ i. item.Register i) 0 c.loop-place.place c.loop-place.place (omega arith)),
  c.in_ok-add.ensures.packets,
)
