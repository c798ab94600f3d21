-- Allocation, as the laws state it.
use Rattle.std.proofs.Common.{◌≡◌, sym, subst, ℕ, ◌+◌, ◌<◌, List}
use Rattle.std.specs.List.{Contains}
use Rattle.heap_layout.specs.Zones.{block_at, block_start}
use Rattle.heap_layout.specs.declared.block.Kind.TheVariants as kinds
use Rattle.ideal_heap.specs.declared.name.Name.{Name}
use Rattle.ideal_heap.specs.Names.{name}
use Rattle.ideal_heap.specs.Ideal.{IdealHeap, with_new}
use Rattle.object_model.specs.Objects.{HeapState, with_words, HasKind, size_of, blocks_for}
use Rattle.object_model.specs.Lawful.{IsLawful, IsLawfulButLines, IsWellFormed}
use Rattle.object_model.specs.Graphs.{MutatorState, Represents, IsReachable, roots_of, numbers_of, add_birth, set_register_of}
use Rattle.object_model.specs.Changes.{WritesObject}
use Rattle.object_model.specs.Births.{IsVacant, IsRoom, IsLargeRoom, MarksLinesOfBirth, MakesRun}
use Rattle.object_model.proofs.BirthRepresentation.{joined, birth-models}
use Rattle.object_model.proofs.Births as births
use Rattle.object_model.proofs.Births.{Adds}
use Rattle.object_model.proofs.LargeBirths as large
use Rattle.object_model.proofs.LineBirths.{lawful-then, lawful-first}
use Rattle.object_model.proofs.Frames.{same-layout}
use Rattle.object_model.proofs.Representation as standing

-- with the words of the new heap in the layout of the old one
pub in-layout : (P : HeapState → Type 0) (s new : HeapState) → new.blocks ≡ s.blocks → new.number ≡ s.number → new.base ≡ s.base → P (with_words s new.words) → P new
in-layout P s new blocks number base there = subst P (sym (same-layout s new blocks number base)) there

pub written-in : (s new : HeapState) (a refs nums : ℕ) (n : Name) → WritesObject s new a n refs nums → WritesObject s (with_words s new.words) a n refs nums
written-in s new a refs nums n writes = subst (λ (x : HeapState). WritesObject s x a n refs nums) (same-layout s new writes.blocks writes.number writes.base) writes

-- the heap with one more object represents the ideal heap with one more
pub born-represents : (s : HeapState) (w : List ℕ) (ms : List MutatorState) (h : IdealHeap) (m d a refs nums : ℕ) → IsWellFormed s → Represents s ms h → Contains (numbers_of ms) m → d < 16
    → Adds s w a (name m (h.births m + 1)) refs nums → IsVacant s a (name m (h.births m + 1)) refs nums → IsWellFormed (with_words s w)
    → Represents (with_words s w) (set_register_of (add_birth ms m) m d a) (with_new h m d refs nums)
born-represents s w ms h m d a refs nums order represents known few adds vacant order-after =
    standing.represents (with_words s w) (set_register_of (add_birth ms m) m d a) (with_new h m d refs nums)
    (joined s w ms h (IsReachable s (roots_of ms)) (standing.models s ms h order represents) m d a refs nums adds vacant order-after few known)
    (birth-models s w ms h (IsReachable s (roots_of ms)) (standing.models s ms h order represents) m d a refs nums adds vacant order-after few known)

-- a small or medium object
module _ (s new : HeapState) (a refs nums : ℕ) (n : Name) (order : IsWellFormed s) (room : IsRoom s a n refs nums) (writes : WritesObject s new a n refs nums) where
  own : WritesObject s (with_words s new.words) a n refs nums
  own = written-in s new a refs nums n writes

  pub order-small : IsWellFormed new
  order-small = in-layout IsWellFormed s new writes.blocks writes.number writes.base (births.order-written s new.words a n refs nums own order room)

  pub but_lines-small : IsLawfulButLines s → IsLawfulButLines new
  but_lines-small old = in-layout IsLawfulButLines s new writes.blocks writes.number writes.base (births.but_lines-written s new.words a n refs nums own order room old)

  pub lawful-small : (HasKind s (block_at s.blocks a) kinds.Immix → ⊥) → IsLawful s → IsLawful new
  lawful-small no_lines old = in-layout IsLawful s new writes.blocks writes.number writes.base
      (births.lawful-written s new.words a n refs nums own order room (λ line immix. absurd (no_lines immix)) old)

pub represents-small : (s new : HeapState) (ms : List MutatorState) (h : IdealHeap) (m d a refs nums : ℕ) → IsWellFormed s → Represents s ms h → Contains (numbers_of ms) m → d < 16
    → IsRoom s a (name m (h.births m + 1)) refs nums → WritesObject s new a (name m (h.births m + 1)) refs nums
    → Represents new (set_register_of (add_birth ms m) m d a) (with_new h m d refs nums)
represents-small s new ms h m d a refs nums order represents known few room writes =
    let n : Name = name m (h.births m + 1) in
    let own : WritesObject s (with_words s new.words) a n refs nums = written-in s new a refs nums n writes in
    in-layout (λ (x : HeapState). Represents x (set_register_of (add_birth ms m) m d a) (with_new h m d refs nums)) s new writes.blocks writes.number writes.base
    (born-represents s new.words ms h m d a refs nums order represents known few (births.adds s new.words a n refs nums own room.vacant.address) room.vacant
    (births.order-written s new.words a n refs nums own order room))

-- with its lines marked, after or before
pub lawful-marked : (s between new : HeapState) (a refs nums : ℕ) (n : Name) → IsLawful s → IsRoom s a n refs nums
    → WritesObject s between a n refs nums → MarksLinesOfBirth between new a (size_of refs nums) → IsLawful new
lawful-marked s between new a refs nums n lawful room writes marks =
    let same : between ≡ with_words s between.words = same-layout s between writes.blocks writes.number writes.base in
    let from : MarksLinesOfBirth (with_words s between.words) new a (size_of refs nums) = subst (λ (x : HeapState). MarksLinesOfBirth x new a (size_of refs nums)) same marks in
    let made : new ≡ with_words s new.words = same-layout (with_words s between.words) new from.blocks from.number from.base in
    in-layout IsLawful s new from.blocks from.number from.base
    (lawful-then s between.words new.words a n refs nums lawful.but_lines.order room (written-in s between a refs nums n writes)
    (subst (λ (x : HeapState). MarksLinesOfBirth (with_words s between.words) x a (size_of refs nums)) made from) lawful)

pub lawful-marked_before : (s between new : HeapState) (a refs nums : ℕ) (n : Name) → IsLawful s → IsRoom s a n refs nums
    → MarksLinesOfBirth s between a (size_of refs nums) → WritesObject between new a n refs nums → IsLawful new
lawful-marked_before s between new a refs nums n lawful room marks writes =
    let same : between ≡ with_words s between.words = same-layout s between marks.blocks marks.number marks.base in
    let from : WritesObject (with_words s between.words) new a n refs nums = subst (λ (x : HeapState). WritesObject x new a n refs nums) same writes in
    in-layout IsLawful s new from.blocks from.number from.base
    (lawful-first s between.words new.words a n refs nums lawful.but_lines.order room (subst (λ (x : HeapState). MarksLinesOfBirth s x a (size_of refs nums)) same marks)
    (written-in (with_words s between.words) new a refs nums n from) lawful)

-- a large object
module _ (s between new : HeapState) (k refs nums : ℕ) (n : Name) (order : IsWellFormed s) (room : IsLargeRoom s k n refs nums)
    (makes : MakesRun s between k (blocks_for (size_of refs nums))) (writes : WritesObject between new (block_start s.blocks k) n refs nums) where
  same : between ≡ with_words s between.words
  same = same-layout s between makes.blocks makes.number makes.base

  pub makes-in : MakesRun s (with_words s between.words) k (blocks_for (size_of refs nums))
  makes-in = subst (λ (x : HeapState). MakesRun s x k (blocks_for (size_of refs nums))) same makes

  pub from : WritesObject (with_words s between.words) new (block_start s.blocks k) n refs nums
  from = subst (λ (x : HeapState). WritesObject x new (block_start s.blocks k) n refs nums) same writes

  pub writes-in : WritesObject (with_words s between.words) (with_words s new.words) (block_start s.blocks k) n refs nums
  writes-in = written-in (with_words s between.words) new (block_start s.blocks k) refs nums n from

  pub order-large : IsWellFormed new
  order-large = in-layout IsWellFormed s new from.blocks from.number from.base (large.order-run s between.words new.words k n refs nums order room makes-in writes-in)

  pub but_lines-large : IsLawfulButLines s → IsLawfulButLines new
  but_lines-large old = in-layout IsLawfulButLines s new from.blocks from.number from.base (large.but_lines-run s between.words new.words k n refs nums order room makes-in writes-in old)

  pub lawful-large : IsLawful s → IsLawful new
  lawful-large old = in-layout IsLawful s new from.blocks from.number from.base (large.lawful-run s between.words new.words k n refs nums order room makes-in writes-in old)

pub represents-large : (s between new : HeapState) (ms : List MutatorState) (h : IdealHeap) (m d k refs nums : ℕ) → IsWellFormed s → Represents s ms h → Contains (numbers_of ms) m → d < 16
    → IsLargeRoom s k (name m (h.births m + 1)) refs nums → MakesRun s between k (blocks_for (size_of refs nums))
    → WritesObject between new (block_start s.blocks k) (name m (h.births m + 1)) refs nums
    → Represents new (set_register_of (add_birth ms m) m d (block_start s.blocks k)) (with_new h m d refs nums)
represents-large s between new ms h m d k refs nums order represents known few room makes writes =
    let n : Name = name m (h.births m + 1) in
    let makes' = makes-in s between new k refs nums n order room makes writes in
    let from' = from s between new k refs nums n order room makes writes in
    let writes' = writes-in s between new k refs nums n order room makes writes in
    in-layout (λ (x : HeapState). Represents x (set_register_of (add_birth ms m) m d (block_start s.blocks k)) (with_new h m d refs nums)) s new from'.blocks from'.number from'.base
    (born-represents s new.words ms h m d (block_start s.blocks k) refs nums order represents known few
    (large.one_more s between.words new.words k n refs nums order room makes' writes') (large.vacant s between.words new.words k n refs nums order room makes' writes')
    (large.order-run s between.words new.words k n refs nums order room makes' writes'))
