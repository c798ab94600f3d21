use Rattle.std.proofs.Common.{◌≡◌, sym, ap, ◌∙◌, refl, false, replicate, arith}
use Rattle.object_model.proofs.Updates.{map-range-all}
use Rattle.plan_api.proofs.blocks_to_copy.no_blocks.Goals as goal

pub returns : goal.returns
returns c = (let all : c.blocks-blocks.result ≡ c.args.heap.now.row.layout.blocks = omega arith in
    c.in_ok-from.ensures.items_if_clones_equal (λ y e. e) ∙ ap (λ n. replicate n false) all
    ∙ sym (map-range-all false (λ k. false) _ (λ i below. refl)))
