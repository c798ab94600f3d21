use Rattle.std.proofs.Common.{ℕ, sym, subst₂}
use Rattle.heap_layout.specs.Blocks.{IsValidWord}
use Rattle.heap_layout.specs.declared.block.Kind.{Kind}
use Rattle.sessions.specs.Sessions.{block_of_kind}
use Rattle.sessions.proofs.HoleRooms.{valid-word}
use Rattle.managed_heap.proofs.Rooms.{holed}
use Rattle.managed_heap.proofs.spot.take_block.Goals as goal

pub set_block-requires-clause-valid : goal.set_block-requires-clause-valid
set_block-requires-clause-valid g c =
    subst₂ (λ (f : Kind) (class : ℕ). IsValidWord (block_of_kind f class)) (sym c.alloc_kind.ensures) (sym c.class_for.ensures)
    (valid-word g.P.Plan.rules.fill c.args.size (holed g.P.Plan.rules.fill c.requires.plan.fill) c.requires.most)
