-- What is known of the blocks of a stopped heap, and a stopped heap whose notes changed: nothing else of it does.
use Rattle.std.proofs.Common.{◌≡◌, sym, ap, subst, ℕ, ◌+◌}
use Rattle.object_model.specs.Heaps.{heap_state}
use Rattle.object_model.specs.Objects.{HeapState}
use Rattle.sessions.specs.Plans.{Rules}
use Rattle.sessions.specs.Fitting.{Fits}
use Rattle.sessions.specs.Sessions.{Setting, Moment}
use Rattle.mutator_calls.specs.declared.need.Need.{Need}
use Rattle.object_model.specs.declared.heap.Heap.{Heap}
use Rattle.block_regions.specs.Notes.{AreNotes, FlagsCover}
use Rattle.block_regions.specs.declared.block_notes.BlockNotes.{BlockNotes}
use Rattle.managed_heap.specs.declared.stopped_heap.StoppedHeap.{StoppedHeap}
use Rattle.managed_heap.specs.declared.spot.Spot.{Spot}
use Rattle.managed_heap.specs.Stopped.{collections_of, IsHeapInOrder, IsStopped, HeapStandsAt}
use Rattle.managed_heap.specs.Spots.{IsSpot}
use Rattle.managed_heap.specs.Needs.{MayAllocate}

-- what is known of the blocks: the notes are right, and the flags cover the logged objects
pub record AreKnown (rules : Rules) (s : HeapState) (n : BlockNotes) : Type 0 where
  pub notes : AreNotes rules.fill s n
  pub flags : FlagsCover rules s n.flags.items

abbrev pub with_notes : {P : Type 0} → StoppedHeap P → BlockNotes → StoppedHeap P
with_notes h notes = record h { notes = notes }

-- the heap after its notes were read
abbrev pub IsFound : {P : Type 0} → StoppedHeap P → StoppedHeap P → Type 0
IsFound old new = new ≡ record old { notes = new.notes }

module _ {P : Type 0} (rules : Rules) (h : StoppedHeap P) (notes : BlockNotes) where
  same-noted : IsHeapInOrder rules h → AreKnown rules (heap_state h.heap) notes → IsHeapInOrder rules (with_notes h notes)
  same-noted order are = record { few = order.few; notes = are.notes; flags = are.flags; number = order.number; some_worker = order.some_worker; few_workers = order.few_workers }

  stands-noted : (t : Setting) (now : Moment) → HeapStandsAt rules h t now → HeapStandsAt rules (with_notes h notes) t now
  stands-noted t now stands = record {
    rules_are = stands.rules_are;
    workers = stands.workers;
    blocks = stands.blocks;
    heap = stands.heap;
    mutators = stands.mutators;
    nursery = stands.nursery;
    full = stands.full;
    sound = stands.sound;
    run = stands.run;
  }

  may-noted : (m : ℕ) (need : Need) → MayAllocate h m need → MayAllocate (with_notes h notes) m need
  may-noted m need may = record { least = may.least; most = may.most; valid = may.valid; births = may.births }

module _ {P : Type 0} (rules : Rules) (old new : StoppedHeap P) (rest : IsFound old new) (are : AreKnown rules (heap_state new.heap) new.notes) where
  are-own : AreKnown rules (heap_state old.heap) new.notes
  are-own = subst (λ (x : StoppedHeap P). AreKnown rules (heap_state x.heap) new.notes) rest are

  pub order-found : IsHeapInOrder rules old → IsHeapInOrder rules new
  order-found order = subst (IsHeapInOrder rules) (sym rest) (same-noted rules old new.notes order are-own)

  pub stands-found : (t : Setting) (now : Moment) → HeapStandsAt rules old t now → HeapStandsAt rules new t now
  stands-found t now stands = subst (λ (x : StoppedHeap P). HeapStandsAt rules x t now) (sym rest) (stands-noted rules old new.notes t now stands)

  pub spot-found : (size words : ℕ) (spot : Spot) → size ≡ words → IsSpot rules (heap_state old.heap) size spot → IsSpot rules (heap_state new.heap) words spot
  spot-found size words spot same is = subst (λ (n : ℕ). IsSpot rules (heap_state new.heap) n spot) same
      (subst (λ (x : StoppedHeap P). IsSpot rules (heap_state x.heap) size spot) (sym rest) is)

  pub may-found : (m : ℕ) (need : Need) → MayAllocate old m need → MayAllocate new m need
  may-found m need may = subst (λ (x : StoppedHeap P). MayAllocate x m need) (sym rest) (may-noted rules old new.notes m need may)

  pub stopped-found : IsStopped rules old → IsStopped rules new
  stopped-found stopped = record {
    order = order-found stopped.order;
    setting = stopped.setting;
    now = stopped.now;
    stands = stands-found stopped.setting stopped.now stopped.stands;
  }

-- a search of its notes leaves the flags
pub known-found : {P : Type 0} (rules : Rules) (old new : StoppedHeap P) → IsFound old new → AreNotes rules.fill (heap_state new.heap) new.notes
    → new.notes.flags ≡ old.notes.flags → FlagsCover rules (heap_state old.heap) old.notes.flags.items → AreKnown rules (heap_state new.heap) new.notes
known-found {P = P} rules old new rest notes same cover = record {
  notes = notes;
  flags = subst (λ v. FlagsCover rules (heap_state new.heap) v.items) (sym same)
      (subst (λ (h : Heap). FlagsCover rules (heap_state h) old.notes.flags.items) (sym (ap (λ (x : StoppedHeap P). x.heap) rest)) cover);
}

-- what fits it fits then, and before
pub fits-found : {P : Type 0} (rules : Rules) (old new : StoppedHeap P) (size : ℕ) → IsFound old new → Fits rules (heap_state old.heap) size → Fits rules (heap_state new.heap) size
fits-found {P = P} rules old new size rest = subst (λ (h : Heap). Fits rules (heap_state h) size) (sym (ap (λ (x : StoppedHeap P). x.heap) rest))

pub fitted-found : {P : Type 0} (rules : Rules) (old new : StoppedHeap P) (size : ℕ) → IsFound old new → Fits rules (heap_state new.heap) size → Fits rules (heap_state old.heap) size
fitted-found {P = P} rules old new size rest = subst (λ (h : Heap). Fits rules (heap_state h) size) (ap (λ (x : StoppedHeap P). x.heap) rest)

-- its mutators and collections are the same
module _ {P : Type 0} (old new : StoppedHeap P) (rest : IsFound old new) where
  pub users-found : new.mutators.items ≡ old.mutators.items
  users-found = ap (λ (x : StoppedHeap P). x.mutators.items) rest

  pub counts-found : collections_of new ≡ collections_of old
  counts-found = ap (λ (x : StoppedHeap P). x.nursery + x.full) rest

  pub full-found : new.full ≡ old.full
  full-found = ap (λ (x : StoppedHeap P). x.full) rest
