-- Steps of the mutator whose turn it is, as effects.
use Rattle.std.proofs.Common.{◌≡◌, ◌≢◌, refl, sym, ◌∙◌, ap, subst, ℕ, ◌+◌, ◌<◌, inl, inr, arith, Bool, true, false, ◌&&◌, not, List, [], ◌∷◌, ◌++◌, map, length, add-zero}
use Rattle.std.specs.Prelude.{None, unwrap_or, slice_get, slice_index, slice_set, if◌then◌else◌}
use Rattle.heap_layout.specs.declared.block.Kind.TheVariants as kinds
use Rattle.ideal_heap.specs.Ideal.{IdealHeap}
use Rattle.ideal_heap.specs.Runs.{entry}
use Rattle.ideal_heap.specs.declared.command.Command.{Command}
use Rattle.ideal_heap.specs.declared.command.Command.TheVariants as c
use Rattle.ideal_heap.specs.declared.reply.Reply.{Reply}
use Rattle.ideal_heap.specs.Commands.{is_new}
use Rattle.object_model.specs.Objects.{state_of, with_words, word_at, block_word, has_kind, is_unlogged}
use Rattle.object_model.proofs.Frames as frames
use Rattle.mutator_core.specs.declared.state.Local.{Local}
use Rattle.mutator_core.specs.declared.state.LogEntry.{LogEntry}
use Rattle.mutator_core.specs.declared.state.Event.{Event}
use Rattle.mutator_core.specs.declared.state.Event.TheVariants as e
use Rattle.mutator_core.specs.Machine.{Epoch, next, found, stored, local_after, address_in}
use Rattle.mutator_core.specs.Guards.{MayStep, IsMiss}
use Rattle.mutator_core.specs.Histories.{entries_of, entries_with, entry_of}
use Rattle.mutator_core.specs.Logs.{machine_after, heap_after, local_after_log}
use Rattle.mutator_core.proofs.Law.{is_publication}
use Rattle.mutator_core.proofs.Spots as spots
use Rattle.mutator_core.proofs.Spots.{takes_block, clears_unlog, draws_ticket, raises_stop}
use Rattle.mutator_core.proofs.Moments.{same-words}
use Rattle.mutator_calls.specs.Effects.{Effect, Answered}
use Rattle.plain_row.specs.declared.plain_row.PlainRow.{PlainRow}
use Rattle.plain_row.specs.Rows.{IsTurn, SetsRegister, mutator_number, births_of, registers_of, mutator_at_turn, seat_at_turn, number_at_turn, address_at}
use Rattle.local_allocators.specs.Seats.{ticket_of, blocks_of, block_of, over_of}
use Rattle.plain_row.specs.Changes.{StoresWord}
use Rattle.plain_row.specs.Worlds.{IsAt, MayCall, HasState, Continues, Goes, births_in, stop_after}
use Rattle.plain_row.specs.SeatLaws.{continues-after}
use Rattle.local_allocators.proofs.SeatRegions.{same-keeps}
use Rattle.std.proofs.lemmas.List.{append-nil}
use Rattle.plain_row.proofs.ForeignBlocks.{foreign-same}
use Rattle.plain_row.proofs.LogStep as stepping
use Rattle.plain_row.proofs.LogStep.{Updates}
use Rattle.block_regions.specs.Notes.{AreFilled}
use Rattle.block_regions.proofs.Lists.{one-element}
use Rattle.std.proofs.lemmas.List.{length-map}
use Rattle.std.proofs.lemmas.Bool.{cases_lt}

-- the effect of these entries, with so many tickets drawn, and a stop raised or not
abbrev pub with : List Answered → ℕ → Bool → Effect
with es drawn raised = record { entries = es; logged = []; taken = []; granted = []; drawn = drawn; raised = raised; moved = false }

abbrev pub only : List Answered → Effect
only es = with es 0 false

-- steps that make these entries, draw these tickets, and raise a stop or not; they log no object, take no block and change no
-- region
pub record SteppedWith (p : Epoch) (i : IdealHeap) (log : List LogEntry) (m : ℕ) (es : List Answered) (drawn : ℕ) (raised : Bool) (a b : PlainRow) : Type 0 where
  pub continues : Continues p i log m (with es drawn raised) b
  pub unlogs : (x : ℕ) → is_unlogged (state_of b.row) x ≡ is_unlogged (state_of a.row) x
  pub kinds : (k : ℕ) → has_kind (state_of b.row) k kinds.Free ≡ has_kind (state_of a.row) k kinds.Free
  pub size : b.row.layout.blocks ≡ a.row.layout.blocks
  pub blocks : (k : ℕ) → k < a.row.layout.blocks → block_word (state_of b.row) k ≡ block_word (state_of a.row) k
  pub budget : word_at (state_of b.row) 1 ≡ word_at (state_of a.row) 1 + drawn
  pub stop : word_at (state_of b.row) 0 ≡ stop_after raised m (word_at (state_of a.row) 0)
  pub births : births_of (slice_get b.mutators.items a.turn) ≡ births_of (mutator_at_turn a) + births_in es
  pub ticket : drawn ≡ 0 → ticket_of (slice_get b.seats.items a.turn) ≡ ticket_of (seat_at_turn a)
  pub fill : b.fill ≡ a.fill
  pub notes : b.notes ≡ a.notes
  pub cursors : (class : ℕ) → block_of (slice_get b.seats.items a.turn) class ≡ block_of (seat_at_turn a) class
  pub over : over_of (slice_get b.seats.items a.turn) ≡ over_of (seat_at_turn a)
  pub others : (k : ℕ) → k ≢ a.turn → (slice_get b.mutators.items k ≡ slice_get a.mutators.items k) × (slice_get b.seats.items k ≡ slice_get a.seats.items k)

-- these entries alone
abbrev pub Stepped : (p : Epoch) (i : IdealHeap) (log : List LogEntry) (m : ℕ) (es : List Answered) (a b : PlainRow) → Type 0
Stepped p i log m es a b = SteppedWith p i log m es 0 false a b

-- a load of a word first
pub loaded-first : (p : Epoch) (i : IdealHeap) (log : List LogEntry) (m : ℕ) (es : List Answered) (a c : PlainRow) → (one : Stepped p i log m [] a a)
    → Stepped p i (log ++ one.continues.more) m es a c → Stepped p i log m es a c
loaded-first p i log m es a c one two = record {
  continues = continues-after p i log m m a c (only []) (only es) refl one.continues two.continues;
  unlogs = two.unlogs;
  kinds = two.kinds;
  size = two.size;
  blocks = two.blocks;
  budget = two.budget;
  stop = two.stop;
  births = two.births;
  ticket = two.ticket;
  fill = two.fill;
  notes = two.notes;
  cursors = two.cursors;
  over = two.over;
  others = two.others;
}

-- a world that goes on without a step
pub unmoved : (p : Epoch) (i : IdealHeap) (log : List LogEntry) (m : ℕ) (a : PlainRow) → IsAt p i log a → Stepped p i log m [] a a
unmoved p i log m a at = record {
  continues = record { more = []; own = tt; at = subst (λ l. IsAt p i l a) (sym (append-nil log)) at; entries = refl };
  unlogs = λ x. refl;
  kinds = λ k. refl;
  size = refl;
  blocks = λ k below. refl;
  budget = sym (add-zero (word_at (state_of a.row) 1));
  stop = refl;
  births = sym (add-zero (births_of (mutator_at_turn a)));
  ticket = λ none. refl;
  fill = refl;
  notes = refl;
  cursors = λ class. refl;
  over = refl;
  others = λ k other. (refl, refl);
}

-- what one event does to the world: it may come, and leaves these words, states and entries
pub record Does (p : Epoch) (i : IdealHeap) (log : List LogEntry) (a b : PlainRow) (at : IsAt p i log a) (turn : IsTurn a) (x : Event) (es : List Answered) : Type 0 where
  pub may : MayStep p (local_after_log p log (number_at_turn a)) x
  pub words : state_of b.row ≡ with_words (heap_after p log) (next p (machine_after p log) (number_at_turn a) x).words
  pub updates : Updates a b (local_after p (local_after_log p log (number_at_turn a)) x (found p (machine_after p log) (number_at_turn a) x))
  pub entries : entries_of (heap_after p log) (stepping.entry-for p i log a at turn x) ++ [] ≡ map (λ y. entry (number_at_turn a) y.command y.reply) es

-- the event neither publishes an object, nor takes a block, nor clears an unlog bit
pub record IsStill (x : Event) : Type 0 where
  pub quiet : is_publication x ≡ false
  pub untaken : takes_block x ≡ false
  pub unlogged : clears_unlog x ≡ false

-- nor draws it a ticket or raises a stop
pub record IsPlain (x : Event) : Type 0 where
  pub quiet : is_publication x ≡ false
  pub untaken : takes_block x ≡ false
  pub unlogged : clears_unlog x ≡ false
  pub undrawn : draws_ticket x ≡ false
  pub unraised : raises_stop x ≡ false

no-way : {A : Type 0} → true ≡ false → A
no-way wrong = absurd (let no : true ≡ false = wrong in cc)

-- such an event leaves the mutator's births, and its ticket if it draws none
pub born-same : (p : Epoch) (l : Local) (x : Event) (n : ℕ) → is_publication x ≡ false → takes_block x ≡ false → (local_after p l x n).births ≡ l.births
born-same p l (e.Perform (c.New d refs nums)) n quiet untaken = no-way quiet
born-same p l (e.Perform (c.Get d s k)) n quiet untaken = refl
born-same p l (e.Perform (c.Put s k v)) n quiet untaken = refl
born-same p l (e.Perform (c.Read s j)) n quiet untaken = refl
born-same p l (e.Perform (c.Write s j v)) n quiet untaken = refl
born-same p l (e.Perform (c.Add s j v)) n quiet untaken = refl
born-same p l (e.Perform (c.Swap s j was v)) n quiet untaken = refl
born-same p l (e.Perform (c.Move d s)) n quiet untaken = refl
born-same p l (e.Perform (c.DropReg s)) n quiet untaken = refl
born-same p l (e.Perform (c.Load d g)) n quiet untaken = refl
born-same p l (e.Perform (c.Share g s)) n quiet untaken = refl
born-same p l (e.Perform (c.Pin s)) n quiet untaken = refl
born-same p l (e.Perform (c.Unpin s)) n quiet untaken = refl
born-same p l (e.Perform c.Gc) n quiet untaken = refl
born-same p l (e.Perform c.Meet) n quiet untaken = refl
born-same p l (e.Miss command) n quiet untaken = refl
born-same p l e.Poll n quiet untaken = refl
born-same p l (e.LoadName s) n quiet untaken = refl
born-same p l (e.LoadShape s) n quiet untaken = refl
born-same p l (e.LoadCollector s) n quiet untaken = refl
born-same p l (e.LoadShapeAt at) n quiet untaken = refl
born-same p l (e.LoadBlock k) n quiet untaken = refl
born-same p l (e.LoadSide k) n quiet untaken = refl
born-same p l (e.LoadUnlog s) n quiet untaken = refl
born-same p l e.Raise n quiet untaken = refl
born-same p l (e.ClearUnlog s) n quiet untaken = refl
born-same p l (e.Initialize at refs nums offset) n quiet untaken = refl
born-same p l e.DrawTicket n quiet untaken = refl
born-same p l (e.TakeBlock k class free) n quiet untaken = no-way untaken

pub ticket-same : (p : Epoch) (l : Local) (x : Event) (n : ℕ) → draws_ticket x ≡ false → takes_block x ≡ false → (local_after p l x n).ticket ≡ l.ticket
ticket-same p l (e.Perform (c.New d refs nums)) n undrawn untaken = refl
ticket-same p l (e.Perform (c.Get d s k)) n undrawn untaken = refl
ticket-same p l (e.Perform (c.Put s k v)) n undrawn untaken = refl
ticket-same p l (e.Perform (c.Read s j)) n undrawn untaken = refl
ticket-same p l (e.Perform (c.Write s j v)) n undrawn untaken = refl
ticket-same p l (e.Perform (c.Add s j v)) n undrawn untaken = refl
ticket-same p l (e.Perform (c.Swap s j was v)) n undrawn untaken = refl
ticket-same p l (e.Perform (c.Move d s)) n undrawn untaken = refl
ticket-same p l (e.Perform (c.DropReg s)) n undrawn untaken = refl
ticket-same p l (e.Perform (c.Load d g)) n undrawn untaken = refl
ticket-same p l (e.Perform (c.Share g s)) n undrawn untaken = refl
ticket-same p l (e.Perform (c.Pin s)) n undrawn untaken = refl
ticket-same p l (e.Perform (c.Unpin s)) n undrawn untaken = refl
ticket-same p l (e.Perform c.Gc) n undrawn untaken = refl
ticket-same p l (e.Perform c.Meet) n undrawn untaken = refl
ticket-same p l (e.Miss command) n undrawn untaken = refl
ticket-same p l e.Poll n undrawn untaken = refl
ticket-same p l (e.LoadName s) n undrawn untaken = refl
ticket-same p l (e.LoadShape s) n undrawn untaken = refl
ticket-same p l (e.LoadCollector s) n undrawn untaken = refl
ticket-same p l (e.LoadShapeAt at) n undrawn untaken = refl
ticket-same p l (e.LoadBlock k) n undrawn untaken = refl
ticket-same p l (e.LoadSide k) n undrawn untaken = refl
ticket-same p l (e.LoadUnlog s) n undrawn untaken = refl
ticket-same p l e.Raise n undrawn untaken = refl
ticket-same p l (e.ClearUnlog s) n undrawn untaken = refl
ticket-same p l (e.Initialize at refs nums offset) n undrawn untaken = refl
ticket-same p l e.DrawTicket n undrawn untaken = no-way undrawn
ticket-same p l (e.TakeBlock k class free) n undrawn untaken = no-way untaken

-- and makes the entry of no allocation
missed-old : (l : Local) (command : Command) → IsMiss l command → is_new command ≡ false
missed-old l (c.Get d s k) miss = refl
missed-old l (c.Put s k v) miss = refl
missed-old l (c.Read s j) miss = refl
missed-old l (c.Write s j v) miss = refl
missed-old l (c.Add s j v) miss = refl
missed-old l (c.Swap s j was v) miss = refl
missed-old l (c.Pin s) miss = refl
missed-old l (c.Unpin s) miss = refl
missed-old l (c.New d refs nums) miss = absurd miss
missed-old l (c.Move d s) miss = refl
missed-old l (c.DropReg s) miss = refl
missed-old l (c.Load d g) miss = refl
missed-old l (c.Share g s) miss = refl
missed-old l c.Gc miss = refl
missed-old l c.Meet miss = refl

one-old : (m : ℕ) (command : Command) (reply : Reply) (es : List Answered) → is_new command ≡ false
    → entry m command reply ∷ [] ≡ map (λ y. entry m y.command y.reply) es → births_in es ≡ 0
one-old m command reply [] old is = absurd (let wrong : entry m command reply ∷ [] ≡ [] = is in cc)
one-old m command reply (x ∷ []) old is =
    let whole : entry m command reply ∷ [] ≡ entry m x.command x.reply ∷ [] = is in
    let same : entry m command reply ≡ entry m x.command x.reply = cc in
    ap (λ t. 0 + (if t then 1 else 0)) (ap is_new (sym (ap (λ y. y.command) same)) ∙ old)
one-old m command reply (x ∷ y ∷ ys) old is = absurd (
    let wrong : entry m command reply ∷ [] ≡ entry m x.command x.reply ∷ entry m y.command y.reply ∷ map (λ z. entry m z.command z.reply) ys = is in cc)

none-old : (m : ℕ) (es : List Answered) → [] ≡ map (λ y. entry m y.command y.reply) es → births_in es ≡ 0
none-old m [] is = refl
none-old m (x ∷ xs) is = absurd (let wrong : [] ≡ entry m x.command x.reply ∷ map (λ z. entry m z.command z.reply) xs = is in cc)

pub old-entries : (p : Epoch) (l : Local) (x : Event) (m : ℕ) (reply : Reply) (es : List Answered) → MayStep p l x → is_publication x ≡ false
    → entries_with m (entry_of x) reply ++ [] ≡ map (λ y. entry m y.command y.reply) es → births_in es ≡ 0
old-entries p l (e.Perform command) m reply es may quiet is = one-old m command reply es quiet is
old-entries p l (e.Miss command) m reply es may quiet is = one-old m command reply es (missed-old l command may) is
old-entries p l e.Poll m reply es may quiet is = none-old m es is
old-entries p l (e.LoadName s) m reply es may quiet is = none-old m es is
old-entries p l (e.LoadShape s) m reply es may quiet is = none-old m es is
old-entries p l (e.LoadCollector s) m reply es may quiet is = none-old m es is
old-entries p l (e.LoadShapeAt at) m reply es may quiet is = none-old m es is
old-entries p l (e.LoadBlock k) m reply es may quiet is = none-old m es is
old-entries p l (e.LoadSide k) m reply es may quiet is = none-old m es is
old-entries p l (e.LoadUnlog s) m reply es may quiet is = none-old m es is
old-entries p l e.Raise m reply es may quiet is = none-old m es is
old-entries p l (e.ClearUnlog s) m reply es may quiet is = none-old m es is
old-entries p l (e.Initialize at refs nums offset) m reply es may quiet is = none-old m es is
old-entries p l e.DrawTicket m reply es may quiet is = none-old m es is
old-entries p l (e.TakeBlock k class free) m reply es may quiet is = none-old m es is

-- one step, of which the budget word, the stop word and the ticket are known
unfoldable pub stepped-with : (p : Epoch) (i : IdealHeap) (log : List LogEntry) (a b : PlainRow) (at : IsAt p i log a) (turn : IsTurn a) (x : Event) (es : List Answered) (drawn : ℕ) (raised : Bool)
    → IsStill x → Does p i log a b at turn x es
    → word_at (state_of b.row) 1 ≡ word_at (state_of a.row) 1 + drawn
    → word_at (state_of b.row) 0 ≡ stop_after raised (number_at_turn a) (word_at (state_of a.row) 0)
    → (drawn ≡ 0 → ticket_of (slice_get b.seats.items a.turn) ≡ ticket_of (seat_at_turn a))
    → SteppedWith p i log (number_at_turn a) es drawn raised a b
stepped-with p i log a b at turn x es drawn raised still does budget stop ticket = record {
  continues = record {
    more = stepping.entry-for p i log a at turn x ∷ [];
    own = (refl, tt);
    at = stepping.at-next p i log a at turn x does.may still.quiet still.untaken still.unlogged b does.words does.updates;
    entries = does.entries;
  };
  unlogs = λ q. ap (λ t. is_unlogged t q) does.words ∙ spot.unlogs still.unlogged q ∙ ap (λ t. is_unlogged t q) (sym at.heap);
  kinds = λ k. ap (λ t. has_kind t k kinds.Free) does.words
      ∙ frames.has_kind-same (heap_after p log) (next p (machine_after p log) (number_at_turn a) x).words (spot.blocks still.untaken) k kinds.Free
      ∙ ap (λ t. has_kind t k kinds.Free) (sym at.heap);
  size = ap (λ t. t.blocks) does.words ∙ ap (λ t. t.blocks) (sym at.heap);
  blocks = λ k below. ap (λ t. block_word t k) does.words ∙ spot.blocks still.untaken k (subst (λ n. k < n) (ap (λ t. t.blocks) at.heap) below) ∙ ap (λ t. block_word t k) (sym at.heap);
  budget = budget;
  stop = stop;
  births = ap births_of does.updates.mutators.here ∙ sym does.updates.state.births
      ∙ born-same p (local_after_log p log (number_at_turn a)) x (found p (machine_after p log) (number_at_turn a) x) still.quiet still.untaken
      ∙ (stepping.state p i log a at turn).births ∙ ap births_of (sym (stepping.mutator p i log a at turn).1)
      ∙ sym (add-zero (births_of (mutator_at_turn a))) ∙ ap (λ n. births_of (mutator_at_turn a) + n) (sym old);
  ticket = ticket;
  fill = does.updates.fill;
  notes = does.updates.notes;
  cursors = λ class. ap (λ o. block_of o class) does.updates.seats.here ∙ ap (λ bs. unwrap_or (slice_get bs class) None) does.updates.blocks;
  over = ap over_of does.updates.seats.here ∙ does.updates.over;
  others = λ k other. (does.updates.mutators.others k other, does.updates.seats.others k other);
}
  where
    spot : spots.Spot (heap_after p log) (next p (machine_after p log) (number_at_turn a) x).words x
    spot = stepping.spot p i log a at turn x does.may

    old : births_in es ≡ 0
    old = old-entries p (local_after_log p log (number_at_turn a)) x (number_at_turn a) _ es does.may still.quiet does.entries

unfoldable pub stepped : (p : Epoch) (i : IdealHeap) (log : List LogEntry) (a b : PlainRow) (at : IsAt p i log a) (turn : IsTurn a) (x : Event) (es : List Answered) → IsPlain x
    → Does p i log a b at turn x es → Stepped p i log (number_at_turn a) es a b
unfolding stepped-with
stepped p i log a b at turn x es plain does = stepped-with p i log a b at turn x es 0 false (record { quiet = plain.quiet; untaken = plain.untaken; unlogged = plain.unlogged }) does
    (ap (λ t. word_at t 1) does.words ∙ spot.tickets plain.undrawn ∙ ap (λ t. word_at t 1) (sym at.heap) ∙ sym (add-zero (word_at (state_of a.row) 1)))
    (ap (λ t. word_at t 0) does.words ∙ spot.stop plain.unraised ∙ ap (λ t. word_at t 0) (sym at.heap))
    (λ none. ap ticket_of does.updates.seats.here ∙ sym does.updates.state.ticket
    ∙ ticket-same p (local_after_log p log (number_at_turn a)) x (found p (machine_after p log) (number_at_turn a) x) plain.undrawn plain.untaken
    ∙ (stepping.state p i log a at turn).ticket ∙ ap ticket_of (sym (stepping.seat p i log a at turn).1))
  where
    spot : spots.Spot (heap_after p log) (next p (machine_after p log) (number_at_turn a) x).words x
    spot = stepping.spot p i log a at turn x does.may

module _ (a : PlainRow) (ready : MayCall a) where
  -- every epoch that the world may be in goes on so
  abbrev pub ReachesWith : List Answered → ℕ → Bool → PlainRow → Type 0
  ReachesWith es drawn raised b = (p : Epoch) (i : IdealHeap) (log : List LogEntry) → IsAt p i log a → SteppedWith p i log (number_at_turn a) es drawn raised a b

  abbrev pub Reaches : List Answered → PlainRow → Type 0
  Reaches es b = ReachesWith es 0 false b

  and-true : (b : Bool) → b ≡ (b && not false)
  and-true true = refl
  and-true false = refl

  pub goes-with : (es : List Answered) (drawn : ℕ) (raised : Bool) (b : PlainRow) → b.turn ≡ a.turn → number_at_turn b ≡ number_at_turn a → ReachesWith es drawn raised b
      → Goes a (with es drawn raised) b
  goes-with es drawn raised b turn number reach =
      let some = reach ready.between_calls.some.epoch ready.between_calls.some.ideal ready.between_calls.some.log ready.between_calls.some.at in record {
        turn = turn;
        number = number;
        steps = λ p i log at. (reach p i log at).continues;
        logged = λ x. some.unlogs x ∙ and-true (is_unlogged (state_of a.row) x);
        granted = λ k. some.kinds k ∙ and-true (has_kind (state_of a.row) k kinds.Free);
        free = λ k there. absurd (let below : there.0 < 0 = there.1 in omega arith);
        size = some.size;
        blocks = λ k below none. some.blocks k below;
        budget = some.budget;
        stop = some.stop;
        births = ap (λ n. births_of (slice_get b.mutators.items n)) turn ∙ some.births;
        ticket = λ none kept. ap (λ n. ticket_of (slice_get b.seats.items n)) turn ∙ some.ticket none;
        fill = some.fill;
        regions = λ still. same-keeps a.notes.items b.notes.items (seat_at_turn a) (seat_at_turn b) (ap (λ xs. xs.items) some.notes)
            (λ class. ap (λ n. block_of (slice_get b.seats.items n) class) turn ∙ some.cursors class)
            (ap (λ n. over_of (slice_get b.seats.items n)) turn ∙ some.over);
        others = some.others;
        foreign = foreign-same a b some.notes;
      }

  pub goes : (es : List Answered) (b : PlainRow) → b.turn ≡ a.turn → number_at_turn b ≡ number_at_turn a → Reaches es b → Goes a (only es) b
  goes es b turn number reach = goes-with es 0 false b turn number reach

  pub still-ready-with : (es : List Answered) (drawn : ℕ) (raised : Bool) (b : PlainRow) → b.turn ≡ a.turn → b.notes ≡ a.notes → ReachesWith es drawn raised b → MayCall b
  still-ready-with es drawn raised b turn notes reach = record {
    turn = record {
      turn = subst (λ n. b.turn < n) (sym (length-map a.mutators.items (λ x. x.number)) ∙ ap length was.numbers ∙ ap length (sym now.numbers) ∙ length-map b.mutators.items (λ x. x.number))
          (subst (λ n. n < length a.mutators.items) (sym turn) ready.turn.turn);
      seats = now.seats;
    };
    between_calls = record {
      some = record { epoch = ready.between_calls.some.epoch; ideal = ready.between_calls.some.ideal; log = ready.between_calls.some.log ++ some.continues.more; at = now };
      filled = subst (λ v. AreFilled v.items) (sym notes) ready.between_calls.filled;
    };
  }
    where
      some : SteppedWith ready.between_calls.some.epoch ready.between_calls.some.ideal ready.between_calls.some.log (number_at_turn a) es drawn raised a b
      some = reach ready.between_calls.some.epoch ready.between_calls.some.ideal ready.between_calls.some.log ready.between_calls.some.at

      was : IsAt ready.between_calls.some.epoch ready.between_calls.some.ideal ready.between_calls.some.log a
      was = ready.between_calls.some.at

      now : IsAt ready.between_calls.some.epoch ready.between_calls.some.ideal (ready.between_calls.some.log ++ some.continues.more) b
      now = some.continues.at

  pub still-ready : (es : List Answered) (b : PlainRow) → b.turn ≡ a.turn → b.notes ≡ a.notes → Reaches es b → MayCall b
  still-ready es b turn notes reach = still-ready-with es 0 false b turn notes reach

-- an epoch that the world may be in
module _ (p : Epoch) (i : IdealHeap) (log : List LogEntry) (a : PlainRow) (at : IsAt p i log a) (turn : IsTurn a) where
  abbrev m : ℕ
  m = number_at_turn a

  abbrev l : Local
  l = local_after_log p log m

  state : HasState (stepping.mutator p i log a at turn).0 (stepping.seat p i log a at turn).0 l
  state = stepping.state p i log a at turn

  -- the registers of the machine are those of the world
  pub address-is : (s : ℕ) → address_in l s ≡ address_at a s
  address-is s = ap (λ rs. slice_index rs s) (state.registers ∙ ap registers_of (sym (stepping.mutator p i log a at turn).1))

  pub word-is : (k : ℕ) → slice_index (machine_after p log).words k ≡ word_at (state_of a.row) k
  word-is k = ap (λ t. word_at t k) (sym at.heap)

  -- a step that stores the word that it finds
  pub still : (k : ℕ) → state_of a.row ≡ with_words (heap_after p log) (slice_set (machine_after p log).words k (slice_index (machine_after p log).words k))
  still k = at.heap ∙ ap (λ ws. with_words (heap_after p log) ws) (sym (same-words (machine_after p log).words k))

  -- a store
  pub store : (b : PlainRow) (k n v : ℕ) → StoresWord a b n v → k ≡ n → (x : ℕ) → x ≡ v → state_of b.row ≡ with_words (heap_after p log) (slice_set (machine_after p log).words k x)
  store b k n v stores same x value = stores.words ∙ ap (λ t. with_words t (slice_set t.words n v)) at.heap
      ∙ ap (λ q. with_words (heap_after p log) (slice_set (machine_after p log).words q v)) (sym same)
      ∙ ap (λ q. with_words (heap_after p log) (slice_set (machine_after p log).words k q)) (sym value)

  -- a step that leaves the mutator and its seat as they are
  pub unchanged : (b : PlainRow) → b ≡ record a { row = b.row } → (l' : Local) → l'.births ≡ l.births → l'.registers ≡ l.registers → l'.ticket ≡ l.ticket
      → l'.unpublished ≡ l.unpublished → l'.pending ≡ l.pending → Updates a b l'
  unchanged b rest l' births registers ticket none stored = record {
    notes = ap (λ w. w.notes) rest;
    fill = ap (λ w. w.fill) rest;
    young = ap (λ w. w.young) rest;
    allowed = ap (λ w. w.allowance) rest;
    owned = ap (λ w. w.owned) rest;
    counts = ap (λ w. w.counts) rest;
    flags = ap (λ w. w.flags) rest;
    mutator = (stepping.mutator p i log a at turn).0;
    seat = (stepping.seat p i log a at turn).0;
    mutators = record { len = ap (λ w. length w.mutators.items) rest; here = ap (λ w. slice_get w.mutators.items a.turn) rest ∙ (stepping.mutator p i log a at turn).1; others = λ k other. ap (λ w. slice_get w.mutators.items k) rest };
    seats = record { len = ap (λ w. length w.seats.items) rest; here = ap (λ w. slice_get w.seats.items a.turn) rest ∙ (stepping.seat p i log a at turn).1; others = λ k other. ap (λ w. slice_get w.seats.items k) rest };
    number = sym (stepping.number-is p i log a at turn);
    blocks = ap blocks_of (sym (stepping.seat p i log a at turn).1);
    over = ap over_of (sym (stepping.seat p i log a at turn).1);
    state = record {
      births = births ∙ state.births;
      registers = registers ∙ state.registers;
      ticket = ticket ∙ state.ticket;
      none = none ∙ state.none;
      stored = stored ∙ state.stored;
    };
  }

  -- a step that changes a register alone
  pub register-set : (b : PlainRow) (d v : ℕ) → SetsRegister a b d v → (l' : Local) → l'.births ≡ l.births → l'.registers ≡ slice_set l.registers d v → l'.ticket ≡ l.ticket
      → l'.unpublished ≡ l.unpublished → l'.pending ≡ l.pending → Updates a b l'
  register-set b d v sets l' births registers ticket none stored = record {
    notes = sets.notes;
    fill = sets.fill;
    young = sets.young;
    allowed = sets.allowance;
    owned = sets.owned;
    counts = sets.counts;
    flags = sets.flags;
    mutator = record sets.mutator { registers = slice_set sets.mutator.registers d v };
    seat = (stepping.seat p i log a at turn).0;
    mutators = sets.mutators;
    seats = record { len = ap (λ w. length w.items) sets.seats; here = ap (λ w. slice_get w.items a.turn) sets.seats ∙ (stepping.seat p i log a at turn).1; others = λ k other. ap (λ w. slice_get w.items k) sets.seats };
    number = ap mutator_number (sym sets.was);
    blocks = ap blocks_of (sym (stepping.seat p i log a at turn).1);
    over = ap over_of (sym (stepping.seat p i log a at turn).1);
    state = record {
      births = births ∙ state.births ∙ ap (λ x. x.births) same;
      registers = registers ∙ ap (λ rs. slice_set rs d v) (state.registers ∙ ap (λ x. x.registers) same);
      ticket = ticket ∙ state.ticket;
      none = none ∙ state.none;
      stored = stored ∙ state.stored;
    };
  }
    where
      same : (stepping.mutator p i log a at turn).0 ≡ sets.mutator
      same = one-element _ (stepping.mutator p i log a at turn).0 sets.mutator (stepping.mutator p i log a at turn).1 sets.was

some-address : (n : ℕ) → n ≢ 0 → 0 < n
some-address n some = elim (cases_lt 0 n) as (λ _. 0 < n) [ inl is ↦ is | inr none ↦ absurd (some (omega arith)) ]

module _ (a : PlainRow) (turn : IsTurn a) where
  -- a load of the shape word of a register's object, and then the steps of a command on it
  pub after-shape : (s : ℕ) → s < 16 → address_at a s ≢ 0 → (es : List Answered) (b : PlainRow)
      → ((p : Epoch) (i : IdealHeap) (log : List LogEntry) → IsAt p i log a
      → (local_after_log p log (number_at_turn a)).shape ≡ record { at = address_at a s; word = word_at (state_of a.row) (address_at a s + 1) }
      → Stepped p i log (number_at_turn a) es a b)
      → (p : Epoch) (i : IdealHeap) (log : List LogEntry) → IsAt p i log a → Stepped p i log (number_at_turn a) es a b
  unfolding stepped stepped-with
  after-shape s register some es b continue p i log at =
      loaded-first p i log (number_at_turn a) es a b first (continue p i (log ++ first.continues.more) first.continues.at loaded)
    where
      first : Stepped p i log (number_at_turn a) [] a a
      first = stepped p i log a a at turn (e.LoadShape s) [] (record { quiet = refl; untaken = refl; unlogged = refl; undrawn = refl; unraised = refl }) (record {
        may = (register, subst (λ n. 0 < n) (sym (address-is p i log a at turn s)) (some-address (address_at a s) some));
        words = still p i log a at turn _;
        updates = unchanged p i log a at turn a refl _ refl refl refl refl refl;
        entries = refl;
      })

      loaded : (local_after_log p (log ++ first.continues.more) (number_at_turn a)).shape ≡ record { at = address_at a s; word = word_at (state_of a.row) (address_at a s + 1) }
      loaded = ap (λ l. l.shape) (stepping.own-pushed p i log a at turn (e.LoadShape s))
          ∙ ap (λ n. record { at = n; word = slice_index (machine_after p log).words (n + 1) }) (address-is p i log a at turn s)
          ∙ ap (λ n. record { at = address_at a s; word = n }) (word-is p i log a at turn (address_at a s + 1))
