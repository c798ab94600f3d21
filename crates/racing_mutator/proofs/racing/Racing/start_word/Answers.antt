use Rattle.std.proofs.Common.{◌≡◌, ◌∙◌, ◌+◌, ◌*◌, ◌/◌, ◌∷◌, inr, sym, subst, ℕ, arith}
use Rattle.std.specs.List.{Contains}
use Rattle.heap_layout.specs.Zones.{StartBits, first}
use Rattle.mutator_core.specs.declared.state.Local.{Local}
use Rattle.mutator_core.specs.Guards.{HasSeenStart}
use Rattle.mutator_core.proofs.Lists.{contains-here, contains-there}
use Rattle.racing_mutator.specs.RacingSeats.{local, epoch_of_racing}
use Rattle.racing_mutator.proofs.Looked.{start-zone}
use Rattle.racing_mutator.proofs.Pinned.{blocks-same}
use Rattle.racing_mutator.proofs.racing.Racing.start_word.Goals as goal

pub look_side-word-requires-clause-zone : goal.look_side-word-requires-clause-zone
look_side-word-requires-clause-zone g c =
    let base : c.start_base-base.result ≡ first (epoch_of_racing g.P.Plan.rules c.args.self.now).before.blocks StartBits = c.start_base-base.ensures ∙ (λ k. first (c.layout.ensures k).blocks StartBits) ∙ (λ k. first (blocks-same g.P.Plan.rules c.args.self.now c.requires.ready k) StartBits) in
    inr (start-zone (epoch_of_racing g.P.Plan.rules c.args.self.now).before.blocks c.args.block (c.start_base-base.result + 64 * c.args.block) (c.args.offset / 64) c.requires.block (omega arith) (omega arith))

pub returns-clause-held : goal.returns-clause-held
returns-clause-held g c few =
    let base : c.start_base-base.result ≡ first (epoch_of_racing g.P.Plan.rules c.args.self.now).before.blocks StartBits = c.start_base-base.ensures ∙ (λ k. first (c.layout.ensures k).blocks StartBits) ∙ (λ k. first (blocks-same g.P.Plan.rules c.args.self.now c.requires.ready k) StartBits) in
    subst (λ (l : Local). Contains l.loaded (record { at = first (epoch_of_racing g.P.Plan.rules c.args.self.now).before.blocks StartBits + 64 * c.args.block + c.args.offset / 64; word = c.look_side-word.result })) (sym c.look_side-word.ensures.loaded)
    (subst (λ (i : ℕ). Contains ((record { at = c.start_base-base.result + 64 * c.args.block + c.args.offset / 64; word = c.look_side-word.result }) ∷ (local c.args.self.now).loaded) (record { at = i; word = c.look_side-word.result })) (omega arith) (contains-here _ (local c.args.self.now).loaded))

pub returns-clause-still : goal.returns-clause-still
returns-clause-still g c a saw =
    subst (λ (l : Local). HasSeenStart (epoch_of_racing g.P.Plan.rules c.args.self.now) l a) (sym c.look_side-word.ensures.loaded) (saw.0, contains-there _ (local c.args.self.now).loaded saw.0 saw.1, saw.2, saw.3)
