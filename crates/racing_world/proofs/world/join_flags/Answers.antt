use Rattle.std.proofs.Common.{◌≡◌, ◌≢◌, ⊎_elim, true, ap, ◌∙◌, subst, arith, rules}
use Rattle.std.specs.Prelude.{Some, slice_get}
use Rattle.std.proofs.lemmas.Bool.{cases_eq}
use Rattle.mutator_rule.specs.declared.seat.MutatorSeat.{MutatorSeat}
use Rattle.racing_world.specs.Closing.{IsSeatAt}
use Rattle.racing_world.proofs.Begun.{same-place, place-within}
use Rattle.mutator_rule.specs.declared.seat_notes.SeatNotes.{SeatNotes}
use Rattle.racing_world.proofs.world.join_flags.Goals as goal

pub loop-j-preserved : goal.loop-j-preserved
loop-j-preserved c = record {
  len = c.add_flags.ensures.len ∙ c.loop-j.invariant.len;
  kept = λ k set. c.add_flags.ensures.kept k (c.loop-j.invariant.kept k set);
  joined = λ i k seat below at set. ⊎_elim
      (λ (here : i ≡ c.loop-j.j). c.add_flags.ensures.added k (ap (λ (n : SeatNotes). slice_get n.flags.items k) c.notes.ensures ∙ subst (λ (s : MutatorSeat). slice_get s.notes.flags.items k ≡ Some true)
      (same-place c.args.seats.now.items c.loop-j.j seat c.index.result.now (search rules) c.index.ensures (subst (λ n. IsSeatAt c.args.seats.now.items n seat) here at)) set))
      (λ (other : i ≢ c.loop-j.j). c.add_flags.ensures.kept k (c.loop-j.invariant.joined i k seat (let n = below in let o = other in omega arith) at set))
      (cases_eq i c.loop-j.j);
}

pub returns-clause-joined : goal.returns-clause-joined
returns-clause-joined c j k seat at set = c.loop-j.invariant.joined j k seat (let n = place-within c.args.seats.now.items j seat at in search rules) at set
