use Rattle.std.proofs.Common.{◌≡◌, sym, ◌∙◌, subst}
use Rattle.std.specs.Prelude.{Some}
use Rattle.sessions.specs.Fitting.{free_of}
use Rattle.managed_heap.specs.Worlds.{PlainWorld, heap_of_world}
use Rattle.managed_value.proofs.Places as places
use Rattle.managed_value.proofs.managed.ManagedHeap.free_blocks.Goals as goal

pub free_blocks-requires : goal.free_blocks-requires
free_blocks-requires g c = places.open-here g.P.Plan.rules c.args.self.now c.in-Some.world c.in-Some.is c.requires

pub returns-in-Some : goal.returns-in-Some
returns-in-Some g c = λ w here.
    let both : Some c.in-Some.world ≡ Some w = sym c.in-Some.is ∙ here in
    let same : c.in-Some.world ≡ w = cc in
    subst (λ (x : PlainWorld g.row.P.Denot). c.free_blocks.result ≡ free_of (heap_of_world x)) same c.free_blocks.ensures

pub returns-in-None : goal.returns-in-None
returns-in-None g c = absurd (places.not-lost g.P.Plan.rules c.args.self.now c.requires c.in-None.is)
