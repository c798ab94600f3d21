-- What an allocation's effect gives for the world's call.
use Rattle.std.proofs.Common.{◌≡◌, refl, sym, ◌∙◌, ap, subst, ℕ, ◌+◌, ◌⊎◌, inl, inr, arith, List}
use Rattle.std.specs.Prelude.{Option, Some, None, slice_get, slice_index}
use Rattle.ideal_heap.specs.declared.name.Name.{Name}
use Rattle.heap_layout.specs.declared.block.Kind.{Kind}
use Rattle.heap_layout.specs.declared.region.Region.{Region}
use Rattle.object_model.specs.Objects.{state_of, word_at}
use Rattle.sessions.specs.Fitting.{class_for}
use Rattle.mutator_calls.specs.declared.need.Need.{Need}
use Rattle.mutator_calls.specs.declared.need.NeedCause.{NeedCause}
use Rattle.mutator_calls.specs.declared.need.NeedCause.TheVariants.{Large, Budget}
use Rattle.mutator_calls.specs.declared.need.Allocated.{Allocated}
use Rattle.mutator_calls.specs.declared.need.Allocated.TheVariants.{Made, Stop}
use Rattle.mutator_calls.specs.Allocating.{Books, IsNextTicket, IsCause, MatchAllocated}
use Rattle.plain_row.specs.declared.plain_row.PlainRow.{PlainRow}
use Rattle.local_allocators.specs.declared.local_seat.LocalSeat.{LocalSeat}
use Rattle.block_regions.specs.declared.block_notes.BlockNote.{BlockNote}
use Rattle.block_regions.specs.declared.block_notes.BlockNote.TheVariants.{Unowned, Owned}
use Rattle.plan_api.specs.declared.cursors.Cursors.{Cursors}
use Rattle.plan_api.specs.Cursors.{TriesOverflow, PlacesInRegion}
use Rattle.plain_row.specs.Rows.{mutator_number, births_of, registers_of, seat_at_turn, regions_at_turn, view_of}
use Rattle.local_allocators.specs.Seats.{ticket_of, block_of}
use Rattle.local_allocators.specs.MutatorRegions.{FillsLines, cursors_of, GoesOver, KeepsOthers, TriesBlock, LacksBlock, MayLeaveClass}
use Rattle.local_allocators.specs.NotedRegions.{regions_of}
use Rattle.local_allocators.specs.Placing.{IsPlacedIn}
use Rattle.plain_row.proofs.Turns.{block-one}
use Rattle.plain_row.specs.Worlds.{Goes}
use Rattle.plain_row.specs.Steps.{Lacks, HasBudget, books_of, IsOffer, Offers, LeavesClass, PlacesAtRegion}

pub allocated-weaker : {P P' : Name → Type 0} {Q Q' : Need → Type 0} (r : Allocated) → ((n : Name) → P n → P' n) → ((need : Need) → Q need → Q' need)
    → MatchAllocated r P Q → MatchAllocated r P' Q'
allocated-weaker (Made n) made stop is = made n is
allocated-weaker (Stop need) made stop is = stop need is

-- one fact for both answers
pub allocated-both : {X : Type 0} (r : Allocated) → MatchAllocated r (λ n. X) (λ need. X) → X
allocated-both (Made n) is = is
allocated-both (Stop need) is = is

-- the same, by the place of the mutator
abbrev pub LacksAt : PlainRow → ℕ → ℕ → ℕ → Type 0
LacksAt b m size k = LacksBlock b.fill (regions_of b.notes.items (slice_get b.seats.items m)) (state_of b.row) (mutator_number (slice_get b.mutators.items m)) size k

abbrev pub books_for : PlainRow → ℕ → Books
books_for b m = record {
  blocks = b.row.layout.blocks;
  allowance = b.allowance;
  births = births_of (slice_get b.mutators.items m);
  ticket = ticket_of (slice_get b.seats.items m);
}

pub lacks-at : (b : PlainRow) (m size : ℕ) → b.turn ≡ m → (k : ℕ) → Lacks b size k → LacksAt b m size k
lacks-at b m size turn k lacks = subst (λ t. LacksAt b t size k) turn lacks

pub books-at : (b : PlainRow) (m : ℕ) → b.turn ≡ m → books_of b ≡ books_for b m
books-at b m turn =
    let accounts : ℕ → Books = λ t. record {
      blocks = b.row.layout.blocks;
      allowance = b.allowance;
      births = births_of (slice_get b.mutators.items t);
      ticket = ticket_of (slice_get b.seats.items t);
    } in ap accounts turn

-- the budget word is as before after steps of no effect
pub next-ticket : (a : PlainRow) (t : ℕ) → IsNextTicket Goes HasBudget a t → t ≡ word_at (state_of a.row) 1
next-ticket a t seen = let same : word_at (state_of seen.later.row) 1 ≡ word_at (state_of a.row) 1 + 0 = seen.steps.budget in
    let is : word_at (state_of seen.later.row) 1 ≡ t = seen.budget in
    omega arith

pub cause-weaker : (books : Books) (P Q : ℕ → Type 0) (size : ℕ) (cause : NeedCause) → ((k : ℕ) → P k → Q k) → IsCause books P size cause → IsCause books Q size cause
cause-weaker books P Q size Large weaker is = is
cause-weaker books P Q size (Budget t) weaker is = (is.0, (λ k below. weaker k (is.1 k below)), is.2, is.3)

region-read : (old new : ℕ) (r q : Region) → Some (Owned old r) ≡ Some (Owned new q) → r ≡ q
region-read old new r q is = ap of is
  where
    of : Option BlockNote → Region
    of None = r
    of (Some (Unowned least)) = r
    of (Some (Owned owner region)) = region

-- from two steps of an allocation, in `mid` by the regions as the object was placed, the other regions stay
rest-kept : (fill then : Kind) (size : ℕ) (before : Cursors) (n0 : List BlockNote) (s0 : Option LocalSeat) (n1 : List BlockNote) (s1 : Option LocalSeat)
    (n2 : List BlockNote) (s2 : Option LocalSeat) → then ≡ fill → before ≡ cursors_of (regions_of n1 s1)
    → KeepsOthers then size (GoesOver then (regions_of n1 s1) size) (regions_of n0 s0) (regions_of n1 s1) → KeepsOthers then size (GoesOver then (regions_of n1 s1) size) (regions_of n1 s1) (regions_of n2 s2)
    → KeepsOthers fill size (FillsLines fill × TriesOverflow before size) (regions_of n0 s0) (regions_of n2 s2)
rest-kept fill then size before n0 s0 n1 s1 n2 s2 same are first next = record {
  classes = λ class free.
      let yet : class ≡ class_for then size → GoesOver then (regions_of n1 s1) size = λ is. into (free (is ∙ ap (λ f. class_for f size) same)) in
      let x = first.classes class yet in let y = next.classes class yet in
      record { block = y.block ∙ x.block; region = y.region ∙ x.region };
  over_stays = λ none.
      let still : GoesOver then (regions_of n1 s1) size → ⊥ = λ is. none (outof is) in
      let x = first.over_stays still in let y = next.over_stays still in
      record { block = y.block ∙ x.block; region = y.region ∙ x.region };
}
  where
    into : FillsLines fill × TriesOverflow before size → GoesOver then (regions_of n1 s1) size
    into is = record { lines = same ∙ is.0; tried = subst (λ c. TriesOverflow c size) are is.1 }

    outof : GoesOver then (regions_of n1 s1) size → FillsLines fill × TriesOverflow before size
    outof is = (sym same ∙ is.lines, subst (λ c. TriesOverflow c size) (sym are) is.tried)

-- where the new object lies
pub placed-at : (a mid b : PlainRow) (m d size : ℕ) → b.turn ≡ m → b.fill ≡ a.fill → Offers (record a { turn = m }) mid size → PlacesAtRegion mid b d size
    → IsPlacedIn (view_of a m) (view_of b m) (slice_index (registers_of (slice_get b.mutators.items m)) d) size
placed-at a mid b m d size turn fill offers places =
    let block : offers.block ≡ places.block
    = block-one mid.fill mid.notes.items (seat_at_turn mid) size offers.block places.block offers.now.current places.now.current in
    let region : offers.region ≡ places.region = region-read _ _ offers.region places.region
    (sym (ap (λ k. slice_get mid.notes.items k) (sym block) ∙ offers.now.note) ∙ places.now.note) in
    record {
      block = places.block;
      offset = places.region.next;
      place = ap (λ t. slice_index (registers_of (slice_get b.mutators.items t)) d) (sym turn) ∙ places.address;
      owner = places.owner ∙ ap (λ t. mutator_number (slice_get b.mutators.items t)) turn;
      current = subst (λ t. TriesBlock b.fill (regions_of b.notes.items (slice_get b.seats.items t)) size places.block) turn places.current;
      cell = places.cell;
      spot = subst (λ k. IsOffer (record a { turn = m }) k places.region.next size) block
          (subst (λ r. IsOffer (record a { turn = m }) offers.block r.next size) region offers.offer);
      class = elim offers.class as (λ _. MayLeaveClass a.fill (regions_of a.notes.items (slice_get a.seats.items m)) (state_of a.row) (mutator_number (slice_get a.mutators.items m))
          size places.block ⊎ (block_of (slice_get b.seats.items m) (class_for b.fill size) ≡ Some places.block)) [
            | inl leaves ↦ inl (subst (λ k. LeavesClass (record a { turn = m }) size k) block leaves)
            | inr is ↦ inr (ap (λ t. block_of (slice_get b.seats.items t) (class_for b.fill size)) (sym turn) ∙ places.blocks (class_for b.fill size)
                ∙ ap (λ (f : Kind). block_of (seat_at_turn mid) (class_for f size)) places.fill ∙ is ∙ ap (λ (k : ℕ). Some k) block)
          ];
      before = cursors_of (regions_at_turn mid);
      region = λ lines. subst (λ t. PlacesInRegion (cursors_of (regions_at_turn mid)) (cursors_of (regions_of b.notes.items (slice_get b.seats.items t))) size places.block places.region.next)
          turn (places.region_after lines);
      others = rest-kept a.fill mid.fill size (cursors_of (regions_at_turn mid)) a.notes.items (slice_get a.seats.items m) mid.notes.items (seat_at_turn mid)
          b.notes.items (slice_get b.seats.items m) (sym places.fill ∙ fill) refl offers.others
          (subst (λ t. KeepsOthers mid.fill size (GoesOver mid.fill (regions_at_turn mid) size) (regions_at_turn mid) (regions_of b.notes.items (slice_get b.seats.items t)))
          turn places.others);
    }
