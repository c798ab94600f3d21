-- Searches, one after another.
use Rattle.std.proofs.Common.{◌≡◌, refl, sym, ◌∙◌, ap, subst, ℕ, ◌+◌, ◌<◌, ◌≤◌, [], ◌∷◌}
use Rattle.std.specs.List.{Contains}
use Rattle.ideal_heap.specs.declared.command.Command.TheVariants as command
use Rattle.ideal_heap.specs.declared.reply.Reply.TheVariants as reply
use Rattle.ideal_heap.specs.declared.name.Name.{Name}
use Rattle.ideal_heap.specs.Names.{name}
use Rattle.ideal_heap.specs.Runs.{entry}
use Rattle.heap_layout.specs.declared.block.Kind.TheVariants as kinds
use Rattle.object_model.specs.Objects.{HasKind, size_of}
use Rattle.sessions.specs.Plans.{Rules}
use Rattle.mutator_core.specs.declared.state.Local.{Local}
use Rattle.mutator_core.specs.Machine.{Epoch, next_name}
use Rattle.mutator_core.specs.Guards.{HasTicket}
use Rattle.mutator_core.specs.Logs.{heap_after, local_after_log}
use Rattle.mutator_core.specs.Seen.{HasSeenUsed}
use Rattle.mutator_core.proofs.EpochEnds.{log-seen}
use Rattle.mutator_core.proofs.Left.{not-all-seen}
use Rattle.mutator_rule.specs.declared.views.MutatorView.{MutatorView}
use Rattle.mutator_rule.specs.Logs.{KnowsLog}
use Rattle.mutator_rule.specs.declared.views.EpochStart.{EpochStart}
use Rattle.mutator_rule.specs.Views.{epoch_with}
use Rattle.racing_mutator.specs.declared.racing.Racing.{Racing}
use Rattle.racing_mutator.specs.RacingSeats.{view, local, Holdings, holdings, epoch_of_racing, IsReady, Makes}
use Rattle.racing_mutator.specs.SeatLaws.{makes-nothing, makes-both}
use Rattle.racing_rooms.specs.Rooms.{UsesItsBlocks, UsesOthers}
use Rattle.racing_mutator.specs.Searches.{Searches, TakesNothing, Allocates, PlacesObject, TakesRoom, block_in, KeepsHoleRegion}
use Rattle.racing_mutator.specs.Regions.{FillsRegion}
use Rattle.racing_mutator.proofs.Allocated.{then-enters}

-- a block that was seen used is not Free
pub seen-not-free : (p : Epoch) (v : MutatorView) → KnowsLog p v → (k : ℕ) → HasSeenUsed v.local k → HasKind (heap_after p v.seen) k kinds.Free → ⊥
seen-not-free p v told k seen free =
    let look : HasSeenUsed (local_after_log p v.seen v.local.number) k = subst (λ (l : Local). HasSeenUsed l k) told.now seen in
    ((log-seen p told.ideal v.seen told.epoch).blocks v.local.number look.loaded look.among).1.used look.used (subst (λ j. HasKind (heap_after p v.seen) j kinds.Free) (sym look.here) free)

module _ {P : Type 0} (rules : Rules) where
  pub searches-nothing : (a : Racing P) → Searches rules a a
  searches-nothing a = record { makes = makes-nothing rules a; raised = refl; births = refl; made = refl }

  pub searches-both : (a b c : Racing P) → Searches rules a b → Searches rules b c → Searches rules a c
  searches-both a b c x y = record {
    makes = makes-both rules a b c [] [] x.makes y.makes;
    raised = y.raised ∙ x.raised;
    births = y.births ∙ x.births;
    made = y.made ∙ x.made;
  }

  -- a ticket is there while what the mutator has stays
  pub ticket-later : (a b : Racing P) → Searches rules a b → holdings (local b) ≡ holdings (local a) → HasTicket (epoch_of_racing rules a) (local a) → HasTicket (epoch_of_racing rules b) (local b)
  ticket-later a b x same has = subst (λ (e : EpochStart). HasTicket (epoch_with rules e) (local b)) (sym x.makes.goes.start) (has.0, ap (λ (h : Holdings). h.ticket) same ∙ has.1, has.2)

  -- a mutator that holds a ticket below the allowance has not seen all blocks used
  pub some-left : (a : Racing P) → IsReady rules a → HasTicket (epoch_of_racing rules a) (local a) → ((k : ℕ) → k < (epoch_of_racing rules a).before.blocks → HasSeenUsed (local a) k) → ⊥
  some-left a ready has seen =
      let p : Epoch = epoch_of_racing rules a in
      let told = ready.own.2 in
      not-all-seen p told.ideal (view a).seen told.epoch (local a).number (local a).number (subst (λ (l : Local). HasTicket p l) told.now has) (λ k below. subst (λ (l : Local). HasSeenUsed l k) told.now (seen k below))

  -- a search that took no block leaves no block empty
  pub uses-same : (a b : Racing P) → TakesNothing rules a b → UsesItsBlocks (epoch_of_racing rules a) (holdings (local a)) → UsesItsBlocks (epoch_of_racing rules a) (holdings (local b))
  uses-same a b takes uses = record {
    each = λ o among free.
        let was = uses.each o (subst (λ os. Contains os o) takes.owned among) free in
        (was.0, subst (λ xs. Contains xs was.0) (sym takes.searches.made) was.1, was.2);
  }

  -- the same after a search that took no block
  pub uses-after : (a b c : Racing P) (k : ℕ) → TakesNothing rules a b → (UsesItsBlocks (epoch_of_racing rules b) (holdings (local b)) → UsesOthers (epoch_of_racing rules b) (holdings (local c)) k)
      → UsesItsBlocks (epoch_of_racing rules a) (holdings (local a)) → UsesOthers (epoch_of_racing rules a) (holdings (local c)) k
  uses-after a b c k takes then uses =
      subst (λ (e : EpochStart). UsesOthers (epoch_with rules e) (holdings (local c)) k) takes.searches.makes.goes.start
      (then (subst (λ (e : EpochStart). UsesItsBlocks (epoch_with rules e) (holdings (local b))) (sym takes.searches.makes.goes.start) (uses-same a b takes uses)))

  -- an object that is allocated after a search
  pub allocates-after : (a m b : Racing P) (d refs nums : ℕ) (n : Name) → Searches rules a m → Makes rules m (entry (local m).number (command.New d refs nums) (reply.New n) ∷ []) b → n ≡ next_name (local m)
      → (local b).births ≡ (local m).births + 1 → (local b).raised ≡ (local m).raised → size_of refs nums ≤ 2048
      → PlacesObject rules a.seat.now d (size_of refs nums) b.seat.now → TakesRoom rules a.seat.now (size_of refs nums) (block_in rules b.seat.now d) b.seat.now → FillsRegion rules a.seat.now (block_in rules b.seat.now d) d (size_of refs nums) b.seat.now → KeepsHoleRegion rules a.seat.now (size_of refs nums) b.seat.now → Allocates rules a d refs nums n b
  allocates-after a m b d refs nums n x makes is births raised small place takes region overflow = record {
    makes = then-enters rules a m b (command.New d refs nums) (local m).number (local a).number (reply.New n) (reply.New n) x.makes.goes.number refl x.makes makes;
    name = is ∙ (λ k. name (x.makes.goes.number k) (x.births k + 1));
    births = births ∙ ap (λ q. q + 1) x.births;
    raised = raised ∙ x.raised;
    small = small;
    place = place;
    takes = takes;
    region = region;
    overflow = overflow;
  }
