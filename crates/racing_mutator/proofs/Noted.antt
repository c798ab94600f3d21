-- What a change of a mutator's notes leaves, and the parts of an allocation.
use Rattle.std.proofs.Common.{◌≡◌, sym, ◌∙◌, ap, subst, ℕ, ◌⊎◌, inl, inr, ⊎_elim, List, [], ◌∷◌}
use Rattle.std.specs.List.{Contains}
use Rattle.std.proofs.lemmas.Bool.{cases_eq}
use Rattle.std.proofs.lemmas.List.{append-nil}
use Rattle.heap_layout.specs.Zones.{block_at}
use Rattle.heap_layout.specs.declared.block.Kind.TheVariants as kinds
use Rattle.ideal_heap.specs.Runs.{Entry}
use Rattle.sessions.specs.Plans.{Rules}
use Rattle.mutator_core.specs.declared.state.Extent.{Extent}
use Rattle.mutator_core.specs.declared.state.OwnedBlock.{OwnedBlock}
use Rattle.mutator_core.specs.Machine.{Epoch}
use Rattle.mutator_core.proofs.Lists.{contains-here, contains-there, contains-cases}
use Rattle.mutator_rule.specs.declared.views.MutatorView.{MutatorView}
use Rattle.mutator_rule.specs.Views.{epoch_with}
use Rattle.mutator_rule.specs.Logs.{MakesEntries, KnowsLog}
use Rattle.mutator_rule.specs.Seats.{KeepsKnown, start_of}
use Rattle.racing_mutator.specs.declared.racing.Racing.{Racing}
use Rattle.racing_mutator.specs.Logged.{logged_seen}
use Rattle.racing_mutator.specs.RacingSeats.{view, local, IsReady, Makes}
use Rattle.racing_mutator.specs.SeatLaws.{makes-nothing, makes-both}
use Rattle.racing_rooms.specs.Rooms.{Holdings, UsesItsBlocks, UsesOthers, with_object}
use Rattle.racing_mutator.proofs.Logged.{flags-kept}

module _ {P : Type 0} (rules : Rules) (a b : Racing P) (seat : b.seat.ghost_name ≡ a.seat.ghost_name) (row : b.row ≡ a.row) (keeps : KeepsKnown a.seat.now b.seat.now) where
  pub noted-makes : b.seat.now.notes.flags ≡ a.seat.now.notes.flags → Makes rules a [] b
  noted-makes flags = record {
    seat = seat;
    row = row;
    goes = subst (λ (v : MutatorView). MakesEntries rules (view a) [] v) (sym keeps.known_stays) (makes-nothing rules a).goes;
    stop = λ some. ap (λ (v : MutatorView). v.local.stop) keeps.known_stays;
    flags = λ has. flags-kept rules a.seat.now b.seat.now (ap (λ (v : MutatorView). v.start) keeps.known_stays) flags (ap (λ (v : MutatorView). logged_seen rules v) keeps.known_stays) has;
    told = λ is. subst (λ (v : MutatorView). KnowsLog (epoch_with rules v.start) v) (sym keeps.known_stays) is;
  }

  pub noted-ready : IsReady rules a → IsReady rules b
  noted-ready ready = record {
    own = (
      keeps.table ∙ ready.own.0 ∙ ap (λ r. r.now.row.words.table_id) (sym row),
      ap (λ (v : MutatorView). v.start) keeps.known_stays ∙ ready.own.1 ∙ ap (λ r. start_of r.now) (sym row),
      subst (λ (v : MutatorView). KnowsLog (epoch_with rules v.start) v) (sym keeps.known_stays) ready.own.2,
    );
    none = ap (λ (v : MutatorView). v.local.unpublished) keeps.known_stays ∙ ready.none;
    stored = ap (λ (v : MutatorView). v.local.pending) keeps.known_stays ∙ ready.stored;
  }

pub makes-then : {P : Type 0} (rules : Rules) (a m b : Racing P) (es : List Entry) → Makes rules a es m → Makes rules m [] b → Makes rules a es b
makes-then rules a m b es one two = subst (λ (fs : List Entry). Makes rules a fs b) (append-nil es) (makes-both rules a m b es [] one two)

-- a mutator that makes an object in a block uses the block
pub uses-filled : (p : Epoch) (h g : Holdings) (x : Extent) (k : ℕ) → g ≡ with_object h x → block_at p.before.blocks x.address ≡ k → UsesOthers p h k → UsesItsBlocks p g
uses-filled p h g x k is here uses = subst (λ (f : Holdings). UsesItsBlocks p f) (sym is) (record {
  each = λ o among free. elim (cases_eq o.block k) as (λ _. (y : Extent) × Contains (x ∷ h.made) y × (block_at p.before.blocks y.address ≡ o.block)) [
    | inl same ↦ (x, contains-here x h.made, here ∙ sym same)
    | inr other ↦ (let was = uses.each o among free other in (was.0, contains-there x h.made was.0 was.1, was.2))
  ];
})

pub uses-others : (p : Epoch) (h : Holdings) (k : ℕ) → UsesItsBlocks p h → UsesOthers p h k
uses-others p h k uses = record { each = λ o among free other. uses.each o among free }

-- a mutator that took a block uses its others
pub others-taken : (p : Epoch) (h g : Holdings) (o : OwnedBlock) → g.owned ≡ o ∷ h.owned → g.made ≡ h.made → UsesItsBlocks p h → UsesOthers p g o.block
others-taken p h g o owned made uses = record {
  each = λ q among free other. ⊎_elim
      (λ (same : q ≡ o). absurd (other (ap (λ (z : OwnedBlock). z.block) same)))
      (λ (rest : Contains h.owned q). let was = uses.each q rest free in (was.0, subst (λ (xs : List Extent). Contains xs was.0) (sym made) was.1, was.2))
      (contains-cases o h.owned q (subst (λ (os : List OwnedBlock). Contains os q) owned among));
}
