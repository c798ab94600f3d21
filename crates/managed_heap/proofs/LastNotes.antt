-- The note of the last collection that was made for a need.
use Rattle.std.proofs.Common.{◌≡◌, sym, ◌∙◌, subst, ◌<◌, arith, Option, None, Some}
use Rattle.std.specs.Prelude.{IfSome}
use Rattle.object_model.specs.Heaps.{heap_state}
use Rattle.sessions.specs.Plans.{Rules}
use Rattle.collector.specs.declared.outcome.Note.{Note}
use Rattle.managed_heap.specs.declared.stopped_heap.StoppedHeap.{StoppedHeap}
use Rattle.managed_heap.specs.Stopped.{collections_of}
use Rattle.managed_heap.specs.Needs.{IsNoteOfLast}
use Rattle.managed_heap.proofs.Noted.{AreKnown, IsFound, counts-found, stands-found}

-- it is still that of the last one after a search before the collections, and a placement after them
pub last-of-need : {P : Type 0} (rules : Rules) (old found made new : StoppedHeap P) (note : Note) → IsFound old found → AreKnown rules (heap_state found.heap) found.notes
    → IsNoteOfLast rules found made note → collections_of new ≡ collections_of made → IsNoteOfLast rules old new note
last-of-need rules old found made new note rest known last same = record {
  kind = last.kind;
  before = last.before;
  after = last.after;
  stands = λ t now stands. last.stands t now (stands-found rules old found rest known t now stands);
  collected = last.collected;
  count = same ∙ last.count;
  more = (
      let more : collections_of found < collections_of made = last.more in
      let as-before : collections_of found ≡ collections_of old = counts-found old found rest in
      let settled : collections_of new ≡ collections_of made = same in
      omega arith);
}

pub if-known : (Q : Note → Type 0) (o : Option Note) (note : Note) → IfSome o (λ known. known ≡ note) → Q note → IfSome o Q
if-known Q None note is q = tt
if-known Q (Some known) note is q = subst Q (sym is) q
