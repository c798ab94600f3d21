use Rattle.std.proofs.Common.{◌≡◌, sym, ◌∙◌, ap, subst, ℕ, List, length, map, slice_set}
use Rattle.std.proofs.lemmas.List.{length-replicate}
use Rattle.block_regions.specs.declared.block_notes.BlockNote.{BlockNote}
use Rattle.block_regions.specs.declared.block_notes.BlockNote.TheVariants.{Unowned}
use Rattle.block_regions.specs.Notes.{FlagsCover, HasNotes}
use Rattle.block_regions.proofs.NoteLemmas.{notes-after}
use Rattle.sessions.specs.Grants.{BlockCounts, allowance_in}
use Rattle.plan_api.specs.Counting.{session_counts}
use Rattle.mutator_rule.specs.declared.seat.MutatorSeat.{MutatorSeat}
use Rattle.heap_users.proofs.Cleared as cleared
use Rattle.heap_users.specs.Users.{mutator_state}
use Rattle.heap_users.specs.Beginnings.{epoch_of, without_stop}
use Rattle.ideal_heap.specs.Ideal.{IdealHeap}
use Rattle.object_model.specs.Heaps.{heap_state}
use Rattle.object_model.specs.Objects.{HeapState}
use Rattle.object_model.specs.Graphs.{Represents}
use Rattle.mutator_core.specs.Machine.{Epoch}
use Rattle.mutator_core.specs.Epochs.{EpochMayBegin}
use Rattle.mutator_core.specs.Guards.{allowance}
use Rattle.mutator_rule.specs.declared.views.EpochStart.{EpochStart}
use Rattle.std.specs.List.{All}
use Rattle.std.proofs.lemmas.List.Elements.{All-weaker}
use Rattle.mutator_rule.specs.Seats.{HasFirstNotes}
use Rattle.mutator_rule.specs.Views.{epoch_with, start_with}
use Rattle.racing_world.proofs.Begun as begun
use Rattle.racing_world.proofs.world.World.begin_with.Goals as goal

pub begin-requires-clause-ready : goal.begin-requires-clause-ready
begin-requires-clause-ready g c =
    let same = ap (λ (w : List ℕ). epoch_with g.P.Plan.rules (start_with w c.into_row-row.result.layout.blocks c.into_row-row.result.number c.into_row-row.result.base c.args.mutators.items)) (c.set-2.ensures.words ∙ ap (λ (w : List ℕ). slice_set w 1 0) c.set.ensures.words)
    ∙ ap (λ (s : HeapState). epoch_of g.P.Plan.rules s (map mutator_state c.args.mutators.items)) c.into_row-row.ensures.state in
    subst EpochMayBegin (sym same) (begun.ready g.P.Plan.rules (heap_state c.args.heap) c.args.mutators.items c.args.heap.lawful g.met.P.Plan.fill_has_holes c.requires.remembers c.requires.few)

pub begin-requires-clause-represents : goal.begin-requires-clause-represents
begin-requires-clause-represents g c =
    let same = ap (λ (w : List ℕ). epoch_with g.P.Plan.rules (start_with w c.into_row-row.result.layout.blocks c.into_row-row.result.number c.into_row-row.result.base c.args.mutators.items)) (c.set-2.ensures.words ∙ ap (λ (w : List ℕ). slice_set w 1 0) c.set.ensures.words)
    ∙ ap (λ (s : HeapState). epoch_of g.P.Plan.rules s (map mutator_state c.args.mutators.items)) c.into_row-row.ensures.state in
    subst (λ (p : Epoch). (i : IdealHeap) × Represents p.before p.mutators i) (sym same) (begun.represents (heap_state c.args.heap) (map mutator_state c.args.mutators.items) c.args.heap.lawful c.requires.users)

pub begin-requires-clause-differ : goal.begin-requires-clause-differ
begin-requires-clause-differ g c = c.requires.users.mutators.differ

pub returns-clause-epoch : goal.returns-clause-epoch
returns-clause-epoch g c =
    ap (λ (h : EpochStart). epoch_with g.P.Plan.rules h) c.in_ok-row.ensures.start
    ∙ ap (λ (w : List ℕ). epoch_with g.P.Plan.rules (start_with w c.into_row-row.result.layout.blocks c.into_row-row.result.number c.into_row-row.result.base c.args.mutators.items)) (c.set-2.ensures.words ∙ ap (λ (w : List ℕ). slice_set w 1 0) c.set.ensures.words)
    ∙ ap (λ (s : HeapState). epoch_of g.P.Plan.rules s (map mutator_state c.args.mutators.items)) c.into_row-row.ensures.state

pub returns-clause-allowance : goal.returns-clause-allowance
returns-clause-allowance g c =
    let same =
    ap (λ (h : EpochStart). epoch_with g.P.Plan.rules h) c.in_ok-row.ensures.start
    ∙ ap (λ (w : List ℕ). epoch_with g.P.Plan.rules (start_with w c.into_row-row.result.layout.blocks c.into_row-row.result.number c.into_row-row.result.base c.args.mutators.items)) (c.set-2.ensures.words ∙ ap (λ (w : List ℕ). slice_set w 1 0) c.set.ensures.words)
    ∙ ap (λ (s : HeapState). epoch_of g.P.Plan.rules s (map mutator_state c.args.mutators.items)) c.into_row-row.ensures.state in
    ap allowance same ∙ cleared.allowance-cleared (heap_state c.args.heap) c.args.heap.lawful g.P.Plan.rules.reserve

pub note_each-requires-clause-notes : goal.note_each-requires-clause-notes
note_each-requires-clause-notes g c = c.requires.notes.notes.len ∙ ap (λ (b : BlockCounts). b.blocks) (sym c.requires.notes.counts)

pub note_each-requires-clause-seats : goal.note_each-requires-clause-seats
note_each-requires-clause-seats g c =
    let laid : c.in_ok-row.row.layout.blocks ≡ c.args.notes.now.counts.blocks = ap (λ l. l.blocks) c.in_ok-row.row.laid ∙ ap (λ (h : EpochStart). h.blocks) c.in_ok-row.ensures.start
    ∙ ap (λ (s : HeapState). s.blocks) c.into_row-row.ensures.state ∙ ap (λ (b : BlockCounts). b.blocks) (sym c.requires.notes.counts) in
    All-weaker (HasFirstNotes c.in_ok-row.row c.allowance-allowance.result) (λ (seat : MutatorSeat). length seat.notes.blocks.items ≡ c.args.notes.now.counts.blocks)
    (λ (seat : MutatorSeat) first. ap (λ (xs : List BlockNote). length xs) first.blocks_noted ∙ length-replicate c.in_ok-row.row.layout.blocks (Unowned 4097) ∙ laid) c.in_ok-row.seats.items c.in_ok-row.ensures.notes

pub returns-clause-seats : goal.returns-clause-seats
returns-clause-seats g c =
    let heap = heap_state c.args.heap in
    let same =
    ap (λ (w : List ℕ). epoch_with g.P.Plan.rules (start_with w c.into_row-row.result.layout.blocks c.into_row-row.result.number c.into_row-row.result.base c.args.mutators.items)) (c.set-2.ensures.words ∙ ap (λ (w : List ℕ). slice_set w 1 0) c.set.ensures.words)
    ∙ ap (λ (s : HeapState). epoch_of g.P.Plan.rules s (map mutator_state c.args.mutators.items)) c.into_row-row.ensures.state in
    let allows = ap allowance same ∙ cleared.allowance-cleared heap c.args.heap.lawful g.P.Plan.rules.reserve
    ∙ sym (c.allowance-allowance.ensures ∙ ap (λ r. allowance_in r (session_counts c.args.notes.now.counts)) c.reserve.ensures ∙ ap (allowance_in g.P.Plan.rules.reserve) c.requires.notes.counts) in
    let has = notes-after heap (without_stop heap).words (cleared.keeps-blocks heap c.args.heap.lawful) g.P.Plan.rules.fill g.met.P.Plan.fill_has_holes c.args.notes.now.notes.items c.requires.notes.notes in
    begun.first-calls g.P.Plan.rules _ _ c.args.notes.now.notes.items (subst (λ (p : Epoch). HasNotes g.P.Plan.rules.fill p.before c.args.notes.now.notes.items) (sym same) has) c.requires.notes.unowned
    c.note_each.new.seats.items c.args.mutators.items
    (begun.seats-each g.P.Plan.rules c.in_ok-row.row c.args.notes.now.notes.items c.in_ok-row.seats.items c.note_each.new.seats.items c.in_ok-row.ensures.seats c.note_each.ensures)
    (begun.known-each c.args.notes.now.notes.items c.in_ok-row.seats.items c.note_each.new.seats.items c.note_each.ensures ∙ c.in_ok-row.ensures.views) c.in_ok-row.ensures.start
    (begun.notes-each c.in_ok-row.row _ c.args.notes.now.notes.items c.in_ok-row.seats.items c.note_each.new.seats.items
    (subst (λ (n : ℕ). All (HasFirstNotes c.in_ok-row.row n) c.in_ok-row.seats.items) (sym allows) c.in_ok-row.ensures.notes) c.note_each.ensures)

pub returns-clause-numbers : goal.returns-clause-numbers
returns-clause-numbers g c = begun.first-numbers _ _ c.args.mutators.items
    (begun.known-each c.args.notes.now.notes.items c.in_ok-row.seats.items c.note_each.new.seats.items c.note_each.ensures ∙ c.in_ok-row.ensures.views)

pub returns-clause-mutators : goal.returns-clause-mutators
returns-clause-mutators g c = begun.first-states _ _ c.args.mutators.items
    (begun.known-each c.args.notes.now.notes.items c.in_ok-row.seats.items c.note_each.new.seats.items c.note_each.ensures ∙ c.in_ok-row.ensures.views)

pub returns-clause-fresh : goal.returns-clause-fresh
returns-clause-fresh g c = begun.first-fresh g.P.Plan.rules _ _ _ c.args.mutators.items
    (begun.known-each c.args.notes.now.notes.items c.in_ok-row.seats.items c.note_each.new.seats.items c.note_each.ensures ∙ c.in_ok-row.ensures.views)
    (All-weaker (begun.HasBegunNotes c.in_ok-row.row c.allowance-allowance.result c.args.notes.now.notes.items) (begun.NoneOf c.in_ok-row.row.layout.blocks) (λ seat first. first.flags) _
    (begun.notes-each c.in_ok-row.row c.allowance-allowance.result c.args.notes.now.notes.items c.in_ok-row.seats.items c.note_each.new.seats.items c.in_ok-row.ensures.notes c.note_each.ensures))

pub returns-clause-noted : goal.returns-clause-noted
returns-clause-noted g c = All-weaker (begun.HasBegunNotes c.in_ok-row.row c.allowance-allowance.result c.args.notes.now.notes.items) (λ (seat : MutatorSeat). seat.notes.blocks.items ≡ c.args.notes.now.notes.items) (λ seat first. first.blocks_noted) _
    (begun.notes-each c.in_ok-row.row c.allowance-allowance.result c.args.notes.now.notes.items c.in_ok-row.seats.items c.note_each.new.seats.items c.in_ok-row.ensures.notes c.note_each.ensures)

pub returns-clause-represents : goal.returns-clause-represents
returns-clause-represents g c i stands =
    let same = ap (λ (h : EpochStart). epoch_with g.P.Plan.rules h) c.in_ok-row.ensures.start
    ∙ ap (λ (w : List ℕ). epoch_with g.P.Plan.rules (start_with w c.into_row-row.result.layout.blocks c.into_row-row.result.number c.into_row-row.result.base c.args.mutators.items)) (c.set-2.ensures.words ∙ ap (λ (w : List ℕ). slice_set w 1 0) c.set.ensures.words)
    ∙ ap (λ (s : HeapState). epoch_of g.P.Plan.rules s (map mutator_state c.args.mutators.items)) c.into_row-row.ensures.state in
    subst (λ (p : Epoch). Represents p.before p.mutators i) (sym same) (begun.represents-cleared (heap_state c.args.heap) (map mutator_state c.args.mutators.items) c.args.heap.lawful i stands)

pub returns-clause-covers : goal.returns-clause-covers
returns-clause-covers g c flags covers =
    let same = ap (λ (h : EpochStart). epoch_with g.P.Plan.rules h) c.in_ok-row.ensures.start
    ∙ ap (λ (w : List ℕ). epoch_with g.P.Plan.rules (start_with w c.into_row-row.result.layout.blocks c.into_row-row.result.number c.into_row-row.result.base c.args.mutators.items)) (c.set-2.ensures.words ∙ ap (λ (w : List ℕ). slice_set w 1 0) c.set.ensures.words)
    ∙ ap (λ (s : HeapState). epoch_of g.P.Plan.rules s (map mutator_state c.args.mutators.items)) c.into_row-row.ensures.state in
    subst (λ (p : Epoch). FlagsCover g.P.Plan.rules p.before flags) (sym same) (cleared.covers-cleared (heap_state c.args.heap) c.args.heap.lawful g.P.Plan.rules flags covers)
