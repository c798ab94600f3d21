-- What an epoch hands to its world as it ends.
use Rattle.std.proofs.Common.{◌≡◌, refl, sym, ◌∙◌, ap, subst, ℕ, suc, ◌+◌, arith, List, [], ◌∷◌, map, length}
use Rattle.std.specs.Prelude.{Some, All, slice_get}
use Rattle.std.specs.List.{range_with_len}
use Rattle.std.proofs.lemmas.List.{length-map}
use Rattle.object_model.specs.Heaps.{heap_state}
use Rattle.object_model.specs.Graphs.{numbers_of}
use Rattle.sessions.specs.Plans.{Rules}
use Rattle.sessions.specs.Sessions.{Setting, Moment}
use Rattle.mutator_core.specs.Machine.{Epoch as Began}
use Rattle.heap_users.specs.Beginnings.{without_stop}
use Rattle.heap_users.proofs.Cleared as cleared
use Rattle.racing_mutator.specs.RacingSeats.{MayCall}
use Rattle.racing_world.specs.Calls.{epoch_of_world, number_of}
use Rattle.block_regions.specs.Notes.{AreNotes, FillsHoles, FlagsCover}
use Rattle.block_regions.proofs.NoteLemmas.{notes-after}
use Rattle.block_regions.specs.declared.block_notes.BlockNotes.{BlockNotes}
use Rattle.mm_runtime.specs.declared.progress.Progress.{Progress}
use Rattle.mm_runtime.specs.declared.seat_part.Part.{Part}
use Rattle.mm_runtime.specs.declared.epochs.Epoch.{Epoch}
use Rattle.mm_runtime.specs.declared.manager.Manager.{Manager}
use Rattle.mm_runtime.specs.Managers.{IsInOrder, StandsAt}
use Rattle.mm_runtime.specs.OpenEpochs.{IsEpochOf, seat_of}
use Rattle.mm_runtime.proofs.ManagersStand as standing
use Rattle.mm_runtime.proofs.PartLists.{all-from, map-get}

-- the numbers of the seats of parts
numbers : (ps : List Part) (a : ℕ) → ((k : ℕ) (p : Part) → slice_get ps k ≡ Some p → number_of p.seat ≡ k + a) → map number_of (map seat_of ps) ≡ range_with_len a (length ps)
numbers [] a each = refl
numbers (p ∷ ps) a each =
    let here : number_of p.seat ≡ 0 + a = each 0 p refl in
    let first : number_of p.seat ≡ a = omega arith in
    ap (λ (n : ℕ). n ∷ map number_of (map seat_of ps)) first ∙ ap (λ (ns : List ℕ). a ∷ ns) (numbers ps (a + 1) next)
  where
    next : (k : ℕ) (q : Part) → slice_get ps k ≡ Some q → number_of q.seat ≡ k + (a + 1)
    next k q is = let n : number_of q.seat ≡ suc k + a = each (suc k) q is in omega arith

module _ {P : Type 0} (rules : Rules) (old : Manager P) (e : Epoch P) (parts : List Part) (is : IsEpochOf rules old e parts) where
  pub seats-call : All (MayCall rules e.world.row) (map seat_of parts)
  seats-call = all-from (MayCall rules e.world.row) (map seat_of parts)
      (λ k seat there. let p = map-get seat_of parts k seat there in subst (MayCall rules e.world.row) p.2 (is.each k p.0 p.1).0.call)

  pub seats-all : (t : Setting) (now : Moment) → StandsAt rules old t now → map number_of (map seat_of parts) ≡ numbers_of (epoch_of_world rules e.world).mutators
  seats-all t now stands =
      let many : length parts ≡ length t.traces = is.count ∙ sym (length-map old.progress.items (λ (p : Progress). p.trace)) ∙ ap length (sym stands.traces) in
      numbers parts 1 (λ k p there. let own = is.each k p there in own.0.number ∙ own.1)
      ∙ ap (range_with_len 1) many ∙ sym (standing.stands-listed rules old t now stands) ∙ ap (λ (q : Began). numbers_of q.mutators) (sym is.began.epoch)

  module _ (order : IsInOrder rules 0 old) where
    pub flags-cover : FlagsCover rules (epoch_of_world rules e.world).before e.notes.flags.items
    flags-cover =
        subst (λ (q : Began). FlagsCover rules q.before e.notes.flags.items) (sym is.began.epoch)
        (subst (λ (n : BlockNotes). FlagsCover rules (without_stop (heap_state old.heap.heap)) n.flags.items) (sym is.began.notes)
        (cleared.covers-cleared (heap_state old.heap.heap) old.heap.heap.lawful rules old.heap.notes.flags.items order.heap.flags))

    pub are-notes : FillsHoles rules.fill → AreNotes rules.fill (epoch_of_world rules e.world).before e.notes
    are-notes fills =
        let s = heap_state old.heap.heap in
        let lawful = old.heap.heap.lawful in
        subst (λ (q : Began). AreNotes rules.fill q.before e.notes) (sym is.began.epoch)
        (subst (λ (n : BlockNotes). AreNotes rules.fill (without_stop s) n) (sym is.began.notes) (record {
          counts = order.heap.notes.counts ∙ sym (cleared.counts-cleared s lawful);
          notes = notes-after s (without_stop s).words (cleared.keeps-blocks s lawful) rules.fill fills old.heap.notes.notes.items order.heap.notes.notes;
          unowned = order.heap.notes.unowned;
          owned = order.heap.notes.owned;
          room = order.heap.notes.room;
        }))
