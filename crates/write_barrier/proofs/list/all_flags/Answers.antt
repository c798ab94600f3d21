use Rattle.std.proofs.Common.{◌≡◌, ◌∙◌, ap, sym, subst, arith, true, replicate}
use Rattle.object_model.specs.Heaps.{heap_state}
use Rattle.write_barrier.specs.Listed.{CoverLogged}
use Rattle.write_barrier.proofs.LoggedWords.{all-cover}
use Rattle.write_barrier.proofs.list.all_flags.Goals as goal

pub returns : goal.returns
returns c =
    let s = heap_state c.args.heap.now in
    let end = c.loop.auto.counter-end in
    let blocks : c.blocks-blocks.result ≡ s.blocks = omega (arith, c.blocks-blocks.ensures, c.layout.ensures) in
    let all : c.loop.counter ≡ s.blocks = omega (arith, end, c.loop-test.false, blocks) in
    subst (CoverLogged s) (sym (c.loop.invariant ∙ ap (λ n. replicate n true) all)) (all-cover s)
