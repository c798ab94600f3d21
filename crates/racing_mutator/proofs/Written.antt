-- What a mutator has while an object's words are stored and its start bit is not set: what it had.
use Rattle.std.proofs.Common.{◌≡◌, sym, ◌∙◌, ap, subst, ℕ, ◌+◌, []}
use Rattle.std.specs.Prelude.{slice_get, Some}
use Rattle.heap_layout.specs.Zones.{block_start}
use Rattle.heap_layout.specs.declared.region.Region.{Region}
use Rattle.object_model.specs.Objects.{size_of}
use Rattle.sessions.specs.Fitting.{class_for}
use Rattle.sessions.specs.Plans.{Rules}
use Rattle.block_regions.specs.declared.block_notes.BlockNote.TheVariants.{Owned}
use Rattle.mutator_core.specs.declared.state.Local.{Local}
use Rattle.mutator_rule.specs.declared.views.EpochStart.{EpochStart}
use Rattle.mutator_rule.specs.declared.seat_notes.SeatNotes.{SeatNotes}
use Rattle.mutator_rule.specs.Seats.{IsSeatOf}
use Rattle.mutator_rule.specs.Views.{epoch_with}
use Rattle.racing_mutator.specs.declared.racing.Racing.{Racing}
use Rattle.racing_mutator.specs.RacingSeats.{local, epoch_of_racing, Makes}
use Rattle.racing_mutator.specs.Births.{writing}
use Rattle.racing_mutator.specs.Searches.{HasFound, HasWritten, IsWrittenAt, Searches}
use Rattle.racing_rooms.specs.Rooms.{Holdings, holdings, HasRooms, IsOwnRegion}
use Rattle.racing_rooms.proofs.RoomsKept.{rooms-kept}
use Rattle.racing_mutator.proofs.Entered.{rooms-same}

module _ {P : Type 0} (rules : Rules) (a b : Racing P) (address refs nums : ℕ) (makes : Makes rules a [] b) (wrote : local b ≡ writing (local a) address refs nums (size_of refs nums)) (notes : b.seat.now.notes ≡ a.seat.now.notes) where
  pub holds-written : holdings (local b) ≡ holdings (local a)
  holds-written = ap holdings wrote

  pub searches-written : Searches rules a b
  searches-written = record {
    makes = makes;
    raised = ap (λ (l : Local). l.raised) wrote;
    births = ap (λ (l : Local). l.births) wrote;
    made = ap (λ (l : Local). l.made) wrote;
  }

  pub rooms-written : IsSeatOf rules b.row.now b.seat.now → HasRooms rules a.seat.now → HasRooms rules b.seat.now
  rooms-written own has = rooms-kept rules a.seat.now b.seat.now [] makes.goes own.2 holds-written (rooms-same a.seat.now.notes b.seat.now.notes notes) has

  pub region-written : (k class : ℕ) (region : Region) → IsOwnRegion (epoch_of_racing rules a) (holdings (local a)) k class region → IsOwnRegion (epoch_of_racing rules b) (holdings (local b)) k class region
  region-written k class region own =
      subst (λ (g : EpochStart). IsOwnRegion (epoch_with rules g) (holdings (local b)) k class region) (sym makes.goes.start)
      (subst (λ (h : Holdings). IsOwnRegion (epoch_of_racing rules a) h k class region) (sym holds-written) own)

  pub at-written : (k : ℕ) (region : Region) → address ≡ block_start (epoch_of_racing rules a).before.blocks k + region.next → IsWrittenAt rules b k region refs nums
  at-written k region at = ap (λ (l : Local). l.unpublished) wrote ∙ (λ i. record {
    address = (at ∙ ap (λ (g : EpochStart). block_start g.blocks k + region.next) (sym makes.goes.start)) i;
    refs = refs;
    nums = nums;
    written = size_of refs nums;
  })

  pub found-written : (class k size : ℕ) → HasFound rules a class k size → HasFound rules b class k size
  found-written class k size found = record {
    owner = found.owner;
    region = found.region;
    note = subst (λ (n : SeatNotes). slice_get n.blocks.items k ≡ Some (Owned found.owner found.region)) (sym notes) found.note;
    own = region-written k class found.region found.own;
    room = found.room;
  }

  -- the words stand where room was found
  pub has-written : (k : ℕ) → IsSeatOf rules b.row.now b.seat.now → (local a).pending ≡ 0 → HasRooms rules a.seat.now → (found : HasFound rules a (class_for rules.fill (size_of refs nums)) k (size_of refs nums))
      → address ≡ block_start (epoch_of_racing rules a).before.blocks k + found.region.next → HasWritten rules b k refs nums
  unfolding found-written
  has-written k own stored rooms found at = record {
    own = own;
    stored = ap (λ (l : Local). l.pending) wrote ∙ stored;
    rooms = rooms-written own rooms;
    found = found-written (class_for rules.fill (size_of refs nums)) k (size_of refs nums) found;
    written = at-written k found.region at;
  }
