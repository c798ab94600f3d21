-- A block with a hole that a mutator took, after it looked at the block.
use Rattle.std.proofs.Common.{◌≡◌, ◌≢◌, sym, ◌∙◌, ap, subst, ℕ, ◌+◌, ◌*◌, ◌%◌, ◌<◌, ◌≤◌, arith, true, false, List, [], ◌∷◌}
use Rattle.std.specs.Prelude.{Option}
use Rattle.std.specs.List.{Contains}
use Rattle.heap_layout.specs.Zones.{block_at}
use Rattle.heap_layout.specs.Blocks.{code_of, kind_code}
use Rattle.heap_layout.specs.declared.region.Region.{Region}
use Rattle.heap_layout.specs.declared.block.Kind.{Kind}
use Rattle.heap_layout.specs.declared.block.Kind.TheVariants as kinds
use Rattle.heap_layout.proofs.BlockLemmas.{kind_code_most}
use Rattle.object_model.specs.Objects.{block_word, class_at}
use Rattle.object_model.proofs.OneKind.{kind-code}
use Rattle.sessions.specs.Fitting.{class_for}
use Rattle.sessions.specs.Plans.{Rules}
use Rattle.sessions.specs.Sessions.{block_of_kind}
use Rattle.block_regions.specs.Notes.{FillsHoles}
use Rattle.block_regions.specs.declared.block_notes.BlockNote.TheVariants.{Owned}
use Rattle.block_regions.proofs.FilledKinds.{class-few}
use Rattle.local_allocators.specs.MutatorRegions.{FillsLines}
use Rattle.plan_api.specs.Holes.{IsFirstPart}
use Rattle.mutator_core.specs.declared.state.Extent.{Extent}
use Rattle.mutator_core.specs.declared.state.Local.{Local}
use Rattle.mutator_core.specs.declared.state.OwnedBlock.{OwnedBlock}
use Rattle.mutator_core.specs.Machine.{Epoch, taken}
use Rattle.mutator_core.proofs.Lists.{contains-here}
use Rattle.mutator_rule.specs.declared.views.MutatorView.{MutatorView}
use Rattle.mutator_rule.specs.declared.seat_notes.SeatNotes.{SeatNotes}
use Rattle.mutator_rule.specs.Seats.{KeepsKnown}
use Rattle.racing_mutator.specs.declared.racing.Racing.{Racing}
use Rattle.racing_mutator.specs.RacingSeats.{local, holdings, epoch_of_racing, IsReady, Makes}
use Rattle.racing_mutator.specs.SeatLaws.{makes-both}
use Rattle.racing_rooms.specs.Rooms.{Holdings, HasRooms, IsOwnRegion, UsesItsBlocks, UsesOthers}
use Rattle.racing_mutator.specs.Searches.{HasFound, NotesOwn, Searches, TakesHole}
use Rattle.racing_mutator.proofs.HolesPassed.{class-in}
use Rattle.racing_rooms.proofs.OwnRegions.{own-hole}
use Rattle.racing_mutator.proofs.RoomsMade.{rooms-own, found-own}
use Rattle.racing_mutator.proofs.Noted.{noted-makes, noted-ready, others-taken}

-- the kind that mutators fill is not that of a Free block
filled-code : (fill : Kind) → FillsHoles fill → 0 < kind_code fill
filled-code kinds.Bump fills = omega arith
filled-code kinds.Young fills = omega arith
filled-code kinds.Mature fills = omega arith
filled-code kinds.Immix fills = omega arith
filled-code kinds.Cells fills = omega arith
filled-code kinds.LargeHead fills = omega arith
filled-code kinds.LargeTail fills = omega arith
filled-code kinds.Kept fills = omega arith
filled-code kinds.Free fills = absurd (let wrong : false ≡ true = fills in cc)

not-free : (fill : Kind) (class w : ℕ) → FillsHoles fill → class ≤ 18 → w ≡ kind_code fill + 256 * class + 65536 * 0 → w % 256 ≡ 0 → ⊥
not-free fill class w fills few is free =
    let some : 0 < kind_code fill = filled-code fill fills in
    let small : kind_code fill ≤ 8 = kind_code_most fill in
    omega arith

-- from a state in which the mutator had seen the hole
module _ {P : Type 0} (rules : Rules) (l t b : Racing P) (k size number : ℕ) (region : Region) (ticket : Option ℕ) (fills : FillsHoles rules.fill) (has : HasRooms rules l.seat.now) (there : k < (epoch_of_racing rules l).before.blocks) (some : 0 < size)
    (made : Makes rules l [] t) (took : local t ≡ taken (epoch_of_racing rules l) (local l) k (class_for rules.fill size) false)
    (word : block_word (epoch_of_racing rules l).before k ≡ code_of (block_of_kind rules.fill (class_for rules.fill size))) (first : IsFirstPart rules.fill (epoch_of_racing rules l).before k 0 size region)
    (fresh : (x : Extent) → Contains (local l).made x → block_at (epoch_of_racing rules l).before.blocks x.address ≢ k) (nobody : (o : OwnedBlock) → Contains (local l).owned o → o.block ≢ k) (notes_t : t.seat.now.notes ≡ l.seat.now.notes) (ready : IsReady rules t)
    (keeps : KeepsKnown t.seat.now b.seat.now) (row : b.row ≡ t.row) (seat : b.seat.ghost_name ≡ t.seat.ghost_name) (drawn : ticket ≡ l.seat.now.notes.local.ticket)
    (noted : NotesOwn t.seat.now.notes b.seat.now.notes false k (class_for rules.fill size) (Owned number region) ticket) where
  abbrev p : Epoch
  p = epoch_of_racing rules l

  abbrev class : ℕ
  class = class_for rules.fill size

  abbrev g : Holdings
  g = holdings (local t)

  noted-l : NotesOwn l.seat.now.notes b.seat.now.notes false k class (Owned number region) ticket
  noted-l = subst (λ (n : SeatNotes). NotesOwn n b.seat.now.notes false k class (Owned number region) ticket) notes_t noted

  made-is : g.made ≡ (local l).made
  made-is = ap (λ (x : Local). x.made) took

  owns : g.owned ≡ (record { block = k; class = class }) ∷ (local l).owned
  owns = ap (λ (x : Local). x.owned) took

  few : class ≤ 18
  few = class-few rules.fill size

  class-is : class_at p.before k ≡ class
  class-is = class-in (kind_code rules.fill) class (block_word p.before k) (kind_code_most rules.fill) few word

  holds-b : holdings (local b) ≡ g
  holds-b = ap (λ (v : MutatorView). holdings v.local) keeps.known_stays

  own : IsOwnRegion p g k class region
  own = own-hole p g k class size region some there (subst (λ (os : List OwnedBlock). Contains os (record { block = k; class = class })) (sym owns) (contains-here (record { block = k; class = class }) (local l).owned))
      (λ x by. fresh x (subst (λ (xs : List Extent). Contains xs x) made-is by)) first (λ cells. class-is)

  pub makes-b : Makes rules l [] b
  makes-b = makes-both rules l t b [] [] made (noted-makes rules t b seat row keeps noted.flags)

  pub ready-b : IsReady rules b
  ready-b = noted-ready rules t b seat row keeps ready

  held-ticket : ticket ≡ g.ticket
  held-ticket = drawn ∙ has.ticket ∙ sym (ap (λ (x : Local). x.ticket) took)

  no-lines : false ≡ true → FillsLines rules.fill × (class ≡ 0)
  no-lines wrong = absurd (let e : false ≡ true = wrong in cc)

  pub rooms-b : HasRooms rules b.seat.now
  rooms-b = rooms-own rules l b g k class number false region ticket has there (let e = few in omega arith) owns made-is held-ticket own nobody no-lines noted-l makes-b ready-b holds-b

  pub found-b : HasFound rules b class k size
  found-b = found-own rules l b g k class number false region ticket has there (let e = few in omega arith) owns made-is held-ticket own nobody no-lines noted-l makes-b ready-b holds-b size first.hole.room

  pub uses-b : UsesItsBlocks p (holdings (local l)) → UsesOthers p (holdings (local b)) k
  uses-b uses = subst (λ (h : Holdings). UsesOthers p h k) (sym holds-b) (others-taken p (holdings (local l)) g (record { block = k; class = class }) owns made-is uses)

  pub searches-b : (local t).raised ≡ (local l).raised → (local t).births ≡ (local l).births → Searches rules l b
  searches-b raised births = record {
    makes = makes-b;
    raised = ap (λ (v : MutatorView). v.local.raised) keeps.known_stays ∙ raised;
    births = ap (λ (v : MutatorView). v.local.births) keeps.known_stays ∙ births;
    made = ap (λ (v : MutatorView). v.local.made) keeps.known_stays ∙ made-is;
  }

  pub takes-b : TakesHole rules l b k class
  takes-b = record {
    owned = ap (λ (h : Holdings). h.owned) holds-b ∙ owns;
    granted = ap (λ (h : Holdings). h.granted) holds-b ∙ ap (λ (x : Local). x.granted) took;
    ticket = ap (λ (h : Holdings). h.ticket) holds-b ∙ ap (λ (x : Local). x.ticket) took;
    used = λ free. not-free rules.fill class (block_word p.before k) fills few word (kind-code p.before k kinds.Free free);
  }
