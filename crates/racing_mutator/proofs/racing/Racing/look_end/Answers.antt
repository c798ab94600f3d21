use Rattle.std.proofs.Common.{◌≡◌, ◌∙◌, ◌+◌, ◌/◌, ◌%◌, ◌<◌, inr, sym, subst, ℕ, arith, rules}
use Rattle.heap_layout.specs.Zones.{block_start}
use Rattle.mutator_core.specs.declared.state.Local.{Local}
use Rattle.mutator_core.specs.Guards.{HasSeenStart}
use Rattle.mutator_core.proofs.Lists.{contains-here, contains-there}
use Rattle.racing_mutator.specs.RacingSeats.{epoch_of_racing, local}
use Rattle.racing_mutator.specs.Looks.{HasLoaded}
use Rattle.racing_mutator.proofs.Pinned.{blocks-same}
use Rattle.racing_mutator.proofs.Looked.{seen-start}
use Rattle.racing_mutator.proofs.racing.Racing.look_end.Goals as goal

pub look_shape_at-word-requires-clause-start : goal.look_shape_at-word-requires-clause-start
look_shape_at-word-requires-clause-start g c =
    let p = epoch_of_racing g.P.Plan.rules c.args.self.now in
    let at : c.address-address.result ≡ block_start p.before.blocks c.args.block + c.in-Some.offset = c.address-address.ensures ∙ (λ k. block_start (c.layout.ensures k).blocks c.args.block + c.in-Some.offset)
    ∙ (λ k. block_start (blocks-same g.P.Plan.rules c.args.self.now c.requires.ready k) c.args.block + c.in-Some.offset) in
    let below : c.in-Some.offset < 4096 = (let inside = c.in-Some.ensures.inside in let len = c.requires.len in omega arith) in
    subst (λ (a : ℕ). HasSeenStart p (local c.args.self.now) a) (sym at)
    (seen-start p (local c.args.self.now) c.args.block c.in-Some.offset c.args.starts.now c.requires.block c.requires.loaded below c.in-Some.ensures.set)

pub returns-clause-grows : goal.returns-clause-grows
returns-clause-grows g c at word has = subst (λ (l : Local). HasLoaded l at word) (sym c.look_shape_at-word.ensures.loaded) (contains-there _ (local c.args.self.now).loaded _ has)

pub returns-clause-end : goal.returns-clause-end
returns-clause-end g c =
    let p = epoch_of_racing g.P.Plan.rules c.args.self.now in
    let at : c.address-address.result ≡ block_start p.before.blocks c.args.block + c.in-Some.offset = c.address-address.ensures ∙ (λ k. block_start (c.layout.ensures k).blocks c.args.block + c.in-Some.offset)
    ∙ (λ k. block_start (blocks-same g.P.Plan.rules c.args.self.now c.requires.ready k) c.args.block + c.in-Some.offset) in
    inr (
      c.in-Some.offset,
      c.look_shape_at-word.result,
      c.in-Some.ensures,
      subst (λ (a : ℕ). HasLoaded (local c.look_shape_at-word.new.self) (a + 1) c.look_shape_at-word.result) at
          (subst (λ (l : Local). HasLoaded l (c.address-address.result + 1) c.look_shape_at-word.result) (sym c.look_shape_at-word.ensures.loaded) (contains-here _ (local c.args.self.now).loaded)),
      (let e : c.in-Some.offset + 3 + c.look_shape_at-word.result % 65536 + c.look_shape_at-word.result / 65536 ≡ c.in-Some.offset + (3 + c.look_shape_at-word.result % 65536 + c.look_shape_at-word.result / 65536) = omega arith in e),
    )
