use Rattle.std.proofs.Common.{◌≡◌, ◌∷◌, [], ◌++◌, map, sym, ap, ◌∙◌, subst, arith}
use Rattle.std.specs.List.{range_with_len}
use Rattle.std.proofs.lemmas.List.FromFn.{map-range_with_len_more}
use Rattle.object_model.specs.Heaps.{heap_state}
use Rattle.sessions.specs.Collecting.{is_copied_out}
use Rattle.plan_api.proofs.Tallies.{kind-of-word}
use Rattle.object_model.proofs.OneKind.{kind-from}
use Rattle.plan_api.proofs.blocks_to_copy.copied_blocks.Goals as goal

pub push_reserved-requires : goal.push_reserved-requires
push_reserved-requires c = (let held = c.loop-block.invariant in omega (arith, held.len, held.room))

pub loop-block-preserved : goal.loop-block-preserved
loop-block-preserved c = record {
  len = omega (arith, c.push_reserved.ensures.len, c.loop-block.invariant.len);
  room = omega (arith, c.push_reserved.ensures.capacity, c.loop-block.invariant.room);
  copied = λ r has.
      let b = c.loop-block.block in
      let s = heap_state c.args.heap.now in
      let kind = kind-from s b c.block.result.kind (omega arith) (kind-of-word s b c.block.result (omega arith) c.block.ensures.valid c.block.ensures.code) in
      c.push_reserved.ensures.items
      ∙ ap (λ l. l ++ c.is_copied.result ∷ []) (c.loop-block.invariant.copied r has)
      ∙ ap (λ x. map (is_copied_out r c.args.collect s) (range_with_len 0 b) ++ x ∷ []) (sym (c.is_copied.ensures r s b has kind))
      ∙ sym (map-range_with_len_more (is_copied_out r c.args.collect s) 0 b b (omega arith));
}

pub returns : goal.returns
returns c = (let end : c.loop-block.block ≡ c.args.heap.now.row.layout.blocks = omega arith in
    λ r has. subst (λ n. c.loop-block.from.items ≡ map (is_copied_out r c.args.collect (heap_state c.args.heap.now)) (range_with_len 0 n)) end (c.loop-block.invariant.copied r has))
