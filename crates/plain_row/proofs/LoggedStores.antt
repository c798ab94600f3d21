-- A store of a reference that logs the object first.
use Rattle.std.proofs.Common.{◌≡◌, refl, sym, ◌∙◌, ap, subst, ℕ, ◌+◌, ◌-◌, ◌/◌, ◌%◌, ◌<◌, ◌≤◌, ◌⊎◌, inl, inr, arith, Bool, true, false, ◌&&◌, ◌||◌, not, nat_eq, List, [], ◌∷◌, ◌++◌, length, add-zero}
use Rattle.std.specs.Prelude.{Some, slice_index, slice_get, slice_set}
use Rattle.std.specs.Int.{bit_at}
use Rattle.std.proofs.lemmas.Bool.{cases_eq, cond-false, cond-true, ne_eqb, eq-eqb}
use Rattle.std.proofs.lemmas.List.{get_or-set_other, length-set}
use Rattle.forward_word.specs.CollectorWords.{is_old_word}
use Rattle.heap_layout.specs.Zones.{StartBits, BlockWords, UnlogBits, first, row_words, heap_of, block_at, IsAddress}
use Rattle.heap_layout.specs.declared.block.Kind.TheVariants as kinds
use Rattle.ideal_heap.specs.declared.command.Command.TheVariants as c
use Rattle.ideal_heap.specs.declared.reply.Reply.TheVariants as r
use Rattle.ideal_heap.specs.Ideal.{IdealHeap}
use Rattle.ideal_heap.specs.Runs as runs
use Rattle.object_model.specs.declared.shape.Shape.{Shape}
use Rattle.object_model.specs.Objects.{HeapState, state_of, with_words, word_at, block_word, has_kind, is_start, is_unlogged, IsHeld, size_of, class_at}
use Rattle.object_model.specs.Changes.{ClearsUnlog}
use Rattle.object_model.proofs.Marks as marks
use Rattle.object_model.proofs.Frames as frames
use Rattle.mutator_core.specs.declared.state.Local.{Local}
use Rattle.mutator_core.specs.declared.state.LogEntry.{LogEntry}
use Rattle.mutator_core.specs.declared.state.Event.{Event}
use Rattle.mutator_core.specs.declared.state.Event.TheVariants as e
use Rattle.mutator_core.specs.Machine.{Epoch, Machine, heap_in, next, found, word_of_event, stored, answer_at, local_after, address_in}
use Rattle.side_meta.specs.BitWords.{without_bit}
use Rattle.object_model.specs.BitWords.{bit_word, bit_place}
use Rattle.mutator_core.specs.Guards.{MayStep}
use Rattle.mutator_core.specs.Guards as guards
use Rattle.mutator_core.specs.Logs.{machine_after, heap_after, local_after_log, history_of}
use Rattle.mutator_core.proofs.Kept.{Leaves}
use Rattle.object_model.proofs.BitWords as bits
use Rattle.mutator_core.proofs.Law as law
use Rattle.mutator_core.proofs.Law.{is_publication}
use Rattle.mutator_core.proofs.Spots as spots
use Rattle.mutator_core.proofs.Spots.{Spot, takes_block}
use Rattle.mutator_calls.specs.Effects.{Effect, nothing, logs}
use Rattle.plain_row.specs.declared.plain_row.PlainRow.{PlainRow}
use Rattle.plain_row.specs.Rows.{IsTurn, births_of, mutator_at_turn, seat_at_turn, number_at_turn, address_at}
use Rattle.local_allocators.specs.Seats.{ticket_of, block_of, over_of}
use Rattle.block_regions.specs.Notes.{AreFilled, FlagsCover, HasNotes, IsRegionOf}
use Rattle.plain_row.specs.Changes.{StoresWord}
use Rattle.plain_row.specs.Worlds.{IsAt, MayCall, HasState, Continues, Goes, is_in_list}
use Rattle.plain_row.specs.SeatLaws.{continues-after}
use Rattle.local_allocators.proofs.SeatRegions.{same-keeps}
use Rattle.plain_row.proofs.ForeignBlocks.{foreign-same}
use Rattle.plain_row.specs.Steps.{HasShape}
use Rattle.block_regions.proofs.BlockFlags.{WasLogged, covers-after}
use Rattle.block_regions.proofs.NoteLemmas as notes
use Rattle.block_regions.proofs.NoteLemmas.{KeepsBlocks}
use Rattle.plain_row.proofs.EpochFacts as facts
use Rattle.plain_row.proofs.LogStep as stepping
use Rattle.plain_row.proofs.LogStep.{Updates}
use Rattle.plain_row.proofs.LogSteps.{at-follows}
use Rattle.plain_row.proofs.OwnedLists.{lists-kept}
use Rattle.plain_row.proofs.EntriesMade as entering
use Rattle.plain_row.proofs.StoreSteps as storing

-- a step that neither publishes an object nor takes a block keeps the blocks
keeps-of : (s : HeapState) (w : List ℕ) (x : Event) → Spot s w x → Leaves s w → is_publication x ≡ false → takes_block x ≡ false → KeepsBlocks s w
keeps-of s w x spot leaves quiet untaken = record {
  words = spot.blocks untaken;
  after = leaves.held;
  before = λ q holds. record { address = holds.address; start = sym (start-same q) ∙ holds.start };
  sizes = λ q holds. ap (λ v. size_of (v % 65536) (v / 65536)) (leaves.headers q 1 holds (omega arith));
  lines = λ j line there few. leaves.lines j line there few;
}
  where
    start-same : (q : ℕ) → is_start (with_words s w) q ≡ is_start s q
    start-same q = marks.mark-same s.blocks StartBits s.words w q (λ there.
        let from : heap_of s.blocks ≤ q = there.from in let below : q < row_words s.blocks = there.below in
        ap (λ word. nat_eq (bit_at word ((q - heap_of s.blocks) % 64)) 1) (spot.sides (first s.blocks StartBits + (q - heap_of s.blocks) / 64) (omega arith) (omega arith) (inl quiet)))

-- two steps that neither publish nor take
module _ (p : Epoch) (i : IdealHeap) (log : List LogEntry) (a b : PlainRow) (at : IsAt p i log a) (turn : IsTurn a) (x y : Event) where
  abbrev m : ℕ
  m = number_at_turn a

  abbrev h : Machine
  h = machine_after p log

  abbrev g : Machine
  g = next p h m x

  -- the mutator's state in between
  abbrev pub between : Local
  between = local_after p (h.locals m) x (found p h m x)

  abbrev pub both : List LogEntry
  both = stepping.entry-for p i log a at turn x ∷ (record { mutator = m; event = y; answer = answer_at p g m y }) ∷ []

  own-next : g.locals m ≡ between
  own-next = cond-true (nat_eq m m) _ _ (eq-eqb m m refl)

  module _ (may : MayStep p (h.locals m) x) (next-may : MayStep p between y) (quiet : is_publication x ≡ false) (untaken : takes_block x ≡ false)
      (next-quiet : is_publication y ≡ false) (next-untaken : takes_block y ≡ false) where
    may-then : MayStep p (g.locals m) y
    may-then = subst (λ z. MayStep p z y) (sym own-next) next-may

    abbrev one : law.Goes p h (runs.heap_after_run i (history_of p log)) m x
    one = law.goes p at.epoch.ready h _ (facts.end p i log a at).set (facts.moment p i log a at) m (stepping.known p i log a at turn) x may

    keeps-one : KeepsBlocks (heap_in p h) g.words
    keeps-one = keeps-of (heap_in p h) g.words x (stepping.spot p i log a at turn x may) one.leaves quiet untaken

    leaves-two : Leaves (heap_in p g) (next p g m y).words
    leaves-two = (law.goes p at.epoch.ready g _ one.set one.moment m (stepping.known p i log a at turn) y may-then).leaves

    keeps-two : KeepsBlocks (heap_in p g) (next p g m y).words
    keeps-two = keeps-of (heap_in p g) (next p g m y).words y
        (spots.spot p at.epoch.ready g _ one.set one.moment m (stepping.known p i log a at turn) y may-then)
        leaves-two next-quiet next-untaken

    notes-two : HasNotes a.fill (with_words (heap_in p g) (next p g m y).words) a.notes.items
    notes-two = notes.notes-after (heap_in p g) (next p g m y).words keeps-two a.fill at.fills a.notes.items
        (notes.notes-after (heap_in p h) g.words keeps-one a.fill at.fills a.notes.items (subst (λ t. HasNotes a.fill t a.notes.items) at.heap at.notes))

    -- what is logged after both was logged before, or is in a flagged block
    covers-two : (flags : List Bool) → ((q : ℕ) → is_unlogged (with_words (heap_in p h) (next p g m y).words) q ≡ false
        → (is_unlogged (heap_in p h) q ≡ false) ⊎ (slice_get flags (block_at p.before.blocks q) ≡ Some true))
        → FlagsCover p.rules (heap_in p h) flags → FlagsCover p.rules (with_words (heap_in p h) (next p g m y).words) flags
    covers-two flags logged = covers-after p.rules (heap_in p h) (with_words (heap_in p h) (next p g m y).words) flags refl (λ q is.
        let then : IsHeld (heap_in p g) q = keeps-two.before q is.held in
        let was : IsHeld (heap_in p h) q = keeps-one.before q then in
        elim (logged q is.clear) as (λ _. WasLogged (heap_in p h) q ⊎ (slice_get flags (block_at p.before.blocks q) ≡ Some true)) [
          | inl clear ↦ inl (record {
            held = was;
            old = ap (is_old_word p.before.base) (sym (leaves-two.headers q 2 then (omega arith) ∙ one.leaves.headers q 2 was (omega arith))) ∙ is.old;
            clear = clear;
          })
          | inr flagged ↦ inr flagged
        ])

    module _ (words : state_of b.row ≡ with_words (heap_after p log) (slice_set g.words (word_of_event p between y) (stored p between y (slice_index g.words (word_of_event p between y)))))
        (up : Updates a b (local_after p between y (slice_index g.words (word_of_event p between y)))) where
      words-two : state_of b.row ≡ with_words (heap_after p log) (next p g m y).words
      words-two = words ∙ ap (λ z. with_words (heap_after p log) (slice_set g.words (word_of_event p z y) (stored p z y (slice_index g.words (word_of_event p z y))))) (sym own-next)

      local-two : (next p g m y).locals m ≡ local_after p between y (slice_index g.words (word_of_event p between y))
      local-two = cond-true (nat_eq m m) _ _ (eq-eqb m m refl) ∙ ap (λ z. local_after p z y (slice_index g.words (word_of_event p z y))) own-next

      pub at-two : ((q : ℕ) → is_unlogged (state_of b.row) q ≡ false
          → (is_unlogged (state_of a.row) q ≡ false) ⊎ (slice_get a.flags.items (block_at a.row.layout.blocks q) ≡ Some true)) → IsAt p i (log ++ both) b
      at-two logged = at-follows p i log a at turn both (stepping.known p i log a at turn, may, refl, (stepping.known p i log a at turn, may-then, refl, tt)) b (record {
        words = words-two;
        notes = subst (λ f. HasNotes f (state_of b.row) b.notes.items) (sym up.fill)
            (subst (λ t. HasNotes a.fill t b.notes.items) (sym words-two)
            (subst (λ v. HasNotes a.fill (with_words (heap_after p log) (next p g m y).words) v.items) (sym up.notes) notes-two));
        regions = λ n q. subst (λ v. IsRegionOf v.items n q) (sym up.notes);
        classes = λ q there. ap (λ (t : HeapState). class_at t q) words-two ∙ ap (λ v. v / 256 % 256) (keeps-two.words q there ∙ keeps-one.words q there);
        fill = up.fill;
        young = up.young;
        allowed = up.allowed;
        flags = subst (λ v. FlagsCover p.rules (state_of b.row) v.items) (sym up.flags) (subst (λ t. FlagsCover p.rules t a.flags.items) (sym words-two)
            (covers-two a.flags.items (λ q clear. elim (logged q (ap (λ t. is_unlogged t q) words-two ∙ clear)) as
            (λ _. (is_unlogged (heap_in p h) q ≡ false) ⊎ (slice_get a.flags.items (block_at p.before.blocks q) ≡ Some true)) [
              | inl was ↦ inl (ap (λ t. is_unlogged t q) (sym at.heap) ∙ was)
              | inr flagged ↦ inr (ap (λ n. slice_get a.flags.items (block_at n q)) (facts.blocks p i log a at) ∙ flagged)
            ]) (subst (λ t. FlagsCover p.rules t a.flags.items) at.heap at.flags)));
        lists = λ lists. lists-kept p a b lists up.notes up.owned up.counts (ap (λ (t : HeapState). t.blocks) words ∙ ap (λ (t : HeapState). t.blocks) (sym at.heap));
        mutator = up.mutator;
        seat = up.seat;
        mutators = up.mutators;
        seats = up.seats;
        number = up.number;
        blocks = up.blocks;
        over = up.over;
        state = subst (HasState up.mutator up.seat) (sym local-two) up.state;
        others = λ n other. cond-false (nat_eq n m) _ _ (ne_eqb n m other) ∙ cond-false (nat_eq n m) _ _ (ne_eqb n m other);
      })

-- a load of the shape word of a register's object, and then steps of any effect
module _ (a : PlainRow) (turn : IsTurn a) (s : ℕ) (register : s < 16) (some : 0 < address_at a s) (effect : Effect) (b : PlainRow)
    (more : (p : Epoch) (i : IdealHeap) (log : List LogEntry) → IsAt p i log a
    → (local_after_log p log (number_at_turn a)).shape ≡ record { at = address_at a s; word = word_at (state_of a.row) (address_at a s + 1) }
    → Continues p i log (number_at_turn a) effect b) where
  shape-before : (p : Epoch) (i : IdealHeap) (log : List LogEntry) → IsAt p i log a → Continues p i log (number_at_turn a) effect b
  unfolding entering.stepped entering.stepped-with
  shape-before p i log at =
      let whole = continues-after p i log (number_at_turn a) (number_at_turn a) a b nothing effect refl first.continues (more p i (log ++ first.continues.more) first.continues.at loaded) in
      record { more = whole.more; own = whole.own; at = whole.at; entries = whole.entries }
    where
      first : entering.Stepped p i log (number_at_turn a) [] a a
      first = entering.stepped p i log a a at turn (e.LoadShape s) [] (record { quiet = refl; untaken = refl; unlogged = refl; undrawn = refl; unraised = refl }) (record {
        may = (register, subst (λ n. 0 < n) (sym (entering.address-is p i log a at turn s)) some);
        words = entering.still p i log a at turn _;
        updates = entering.unchanged p i log a at turn a refl _ refl refl refl refl refl;
        entries = refl;
      })

      loaded : (local_after_log p (log ++ first.continues.more) (number_at_turn a)).shape ≡ record { at = address_at a s; word = word_at (state_of a.row) (address_at a s + 1) }
      loaded = ap (λ l. l.shape) (stepping.own-pushed p i log a at turn (e.LoadShape s))
          ∙ ap (λ n. record { at = n; word = slice_index (machine_after p log).words (n + 1) }) (entering.address-is p i log a at turn s)
          ∙ ap (λ n. record { at = address_at a s; word = n }) (entering.word-is p i log a at turn (address_at a s + 1))

never : (x : Bool) → (x && false) ≡ false
never true = refl
never false = refl

and-true : (x : Bool) → x ≡ (x && true)
and-true true = refl
and-true false = refl

-- The unlog bit of the object in register s becomes clear, and then its field k becomes the address in register v. The
-- flag of its block is set.
module _ (a cleared b : PlainRow) (ready : MayCall a) (s k v : ℕ) (shape : Shape) (register : s < 16) (value : v < 16) (has-shape : HasShape a s shape) (there : k < shape.refs)
    (clears : StoresWord a cleared (first a.row.layout.blocks UnlogBits + (address_at a s - heap_of a.row.layout.blocks) / 64)
    (without_bit (word_at (state_of a.row) (first a.row.layout.blocks UnlogBits + (address_at a s - heap_of a.row.layout.blocks) / 64)) ((address_at a s - heap_of a.row.layout.blocks) % 64)))
    (stores : StoresWord cleared b (address_at a s + 3 + k) (address_at a v))
    (flagged : slice_get a.flags.items (block_at a.row.layout.blocks (address_at a s)) ≡ Some true) where
  abbrev t : HeapState
  t = state_of a.row

  abbrev object : ℕ
  object = address_at a s

  abbrev log-word : ℕ
  log-word = first a.row.layout.blocks UnlogBits + (object - heap_of a.row.layout.blocks) / 64

  abbrev log-value : ℕ
  log-value = without_bit (word_at t log-word) ((object - heap_of a.row.layout.blocks) % 64)

  abbrev first-words : List ℕ
  first-words = slice_set t.words log-word log-value

  address : IsAddress a.row.layout.blocks object
  address = (storing.held-in a ready s register has-shape.some).address

  rest : b ≡ record a { row = b.row }
  rest = subst (λ (w : PlainRow). b ≡ record w { row = b.row }) clears.rest stores.rest

  words-are : state_of b.row ≡ with_words t (slice_set first-words (object + 3 + k) (address_at a v))
  words-are = stores.words ∙ ap (λ q. with_words q (slice_set q.words (object + 3 + k) (address_at a v))) clears.words

  logged : (x : ℕ) → is_unlogged (state_of b.row) x ≡ (is_unlogged t x && not (is_in_list (object ∷ []) x))
  logged x = ap (λ q. is_unlogged q x) words-are ∙ after-store ∙ after-clear
    where
      after-store : is_unlogged (with_words t (slice_set first-words (object + 3 + k) (address_at a v))) x ≡ is_unlogged (with_words t first-words) x
      after-store = marks.mark-same a.row.layout.blocks UnlogBits first-words (slice_set first-words (object + 3 + k) (address_at a v)) x (λ inside.
          let from : heap_of a.row.layout.blocks ≤ x = inside.from in let below : x < row_words a.row.layout.blocks = inside.below in
          let start : heap_of a.row.layout.blocks ≤ object = address.from in
          ap (λ word. nat_eq (bit_at word ((x - heap_of a.row.layout.blocks) % 64)) 1)
          (get_or-set_other first-words (object + 3 + k) (first a.row.layout.blocks UnlogBits + (x - heap_of a.row.layout.blocks) / 64) (address_at a v) 0 (λ same. omega arith)))

      cleared-bit : ClearsUnlog t (with_words t first-words) object
      cleared-bit = bits.clears-unlog t (facts.order ready.between_calls.some.epoch ready.between_calls.some.ideal ready.between_calls.some.log a ready.between_calls.some.at) object address

      after-clear : is_unlogged (with_words t first-words) x ≡ (is_unlogged t x && not (nat_eq x object || false))
      after-clear = elim (cases_eq x object) as (λ _. is_unlogged (with_words t first-words) x ≡ (is_unlogged t x && not (nat_eq x object || false))) [
        | inl here ↦ ap (is_unlogged (with_words t first-words)) here ∙ cleared-bit.clear ∙ sym (ap (λ y. is_unlogged t x && not (y || false)) (eq-eqb x object here) ∙ never (is_unlogged t x))
        | inr other ↦ cleared-bit.others x other ∙ and-true (is_unlogged t x) ∙ sym (ap (λ y. is_unlogged t x && not (y || false)) (ne_eqb x object other))
      ]

  cleared-or-flagged : (x : ℕ) → is_unlogged (state_of b.row) x ≡ false
      → (is_unlogged t x ≡ false) ⊎ (slice_get a.flags.items (block_at a.row.layout.blocks x) ≡ Some true)
  cleared-or-flagged x clear = elim (cases_eq x object) as (λ _. (is_unlogged t x ≡ false) ⊎ (slice_get a.flags.items (block_at a.row.layout.blocks x) ≡ Some true)) [
    | inl here ↦ inr (ap (λ n. slice_get a.flags.items (block_at a.row.layout.blocks n)) here ∙ flagged)
    | inr other ↦ inl (and-true (is_unlogged t x) ∙ sym (ap (λ y. is_unlogged t x && not (y || false)) (ne_eqb x object other)) ∙ sym (logged x) ∙ clear)
  ]

  -- a word that is neither the field nor that of the unlog bit
  elsewhere : (n : ℕ) → n < first a.row.layout.blocks UnlogBits → word_at (state_of b.row) n ≡ word_at t n
  elsewhere n below =
      let start : heap_of a.row.layout.blocks ≤ object = address.from in
      ap (λ z. word_at z n) words-are
      ∙ get_or-set_other first-words (object + 3 + k) n (address_at a v) 0 (λ same. omega arith) ∙ get_or-set_other t.words log-word n log-value 0 (λ same. omega arith)

  block-stays : (n : ℕ) → n < a.row.layout.blocks → block_word (state_of b.row) n ≡ block_word t n
  block-stays n below = ap (λ z. word_at (state_of b.row) (first z BlockWords + n)) (ap (λ q. q.blocks) words-are) ∙ elsewhere (18 + n) (omega arith)

  kinds-stay : (q : ℕ) → has_kind (state_of b.row) q kinds.Free ≡ (has_kind t q kinds.Free && not false)
  kinds-stay q = ap (λ z. has_kind z q kinds.Free) words-are
      ∙ frames.has_kind-same t (slice_set first-words (object + 3 + k) (address_at a v)) (λ n below.
      let start : heap_of a.row.layout.blocks ≤ object = address.from in
      let few : n < a.row.layout.blocks = below in
      get_or-set_other first-words (object + 3 + k) (18 + n) (address_at a v) 0 (λ same. omega arith) ∙ get_or-set_other t.words log-word (18 + n) log-value 0 (λ same. omega arith)) q kinds.Free
      ∙ and-true (has_kind t q kinds.Free)

  module _ (p : Epoch) (i : IdealHeap) (log : List LogEntry) (at : IsAt p i log a)
      (knows : (local_after_log p log (number_at_turn a)).shape ≡ record { at = address_at a s; word = word_at (state_of a.row) (address_at a s + 1) }) where
    abbrev own : Local
    own = local_after_log p log (number_at_turn a)

    same-address : address_in own s ≡ object
    same-address = entering.address-is p i log a at ready.turn s

    blocks-are : p.before.blocks ≡ a.row.layout.blocks
    blocks-are = facts.blocks p i log a at

    word-place : bit_word p.before.blocks UnlogBits (address_in own s) ≡ log-word
    word-place = ap (λ n. bit_word p.before.blocks UnlogBits n) same-address ∙ ap (λ n. bit_word n UnlogBits object) blocks-are

    found-is : found p (machine_after p log) (number_at_turn a) (e.ClearUnlog s) ≡ word_at t log-word
    found-is = entering.word-is p i log a at ready.turn (bit_word p.before.blocks UnlogBits (address_in own s)) ∙ ap (word_at t) word-place

    stored-is : without_bit (found p (machine_after p log) (number_at_turn a) (e.ClearUnlog s)) (bit_place p.before.blocks (address_in own s)) ≡ log-value
    stored-is = ap (λ n. without_bit n (bit_place p.before.blocks (address_in own s))) found-is
        ∙ ap (λ n. without_bit (word_at t log-word) (bit_place p.before.blocks n)) same-address ∙ ap (λ n. without_bit (word_at t log-word) (bit_place n object)) blocks-are

    first-is : state_of cleared.row ≡ with_words (heap_after p log) (next p (machine_after p log) (number_at_turn a) (e.ClearUnlog s)).words
    first-is = entering.store p i log a at ready.turn cleared (bit_word p.before.blocks UnlogBits (address_in own s)) log-word log-value clears word-place _ stored-is

    both-are : state_of b.row ≡ with_words (heap_after p log) (slice_set (next p (machine_after p log) (number_at_turn a) (e.ClearUnlog s)).words (address_in own s + 3 + k) (address_in own v))
    both-are = stores.words ∙ ap (λ q. with_words q (slice_set q.words (object + 3 + k) (address_at a v))) first-is
        ∙ ap (λ n. with_words (heap_after p log) (slice_set (next p (machine_after p log) (number_at_turn a) (e.ClearUnlog s)).words (n + 3 + k) (address_at a v))) (sym same-address)
        ∙ ap (λ n. with_words (heap_after p log) (slice_set (next p (machine_after p log) (number_at_turn a) (e.ClearUnlog s)).words (address_in own s + 3 + k) n))
        (sym (entering.address-is p i log a at ready.turn v))

    stored-none : own.pending ≡ 0
    stored-none = (stepping.state p i log a at ready.turn).stored

    field : guards.HasField own s k
    field = storing.has-field a ready s shape register has-shape p i log at knows k there

    continues : Continues p i log (number_at_turn a) (logs (object ∷ []) (c.Put s k v) r.Done) b
    continues = record {
      more = both p i log a b at ready.turn (e.ClearUnlog s) (e.Perform (c.Put s k v));
      own = (refl, (refl, tt));
      at = at-two p i log a b at ready.turn (e.ClearUnlog s) (e.Perform (c.Put s k v)) ((field.0.0, field.0.1), stored-none) (value, field, inr (inr refl), inr refl) refl refl refl refl both-are
          (entering.unchanged p i log a at ready.turn b rest _ refl refl refl refl (sym stored-none)) cleared-or-flagged;
      entries = refl;
    }

  some-object : 0 < object
  some-object = let start : heap_of a.row.layout.blocks ≤ object = address.from in omega arith

  steps : (p : Epoch) (i : IdealHeap) (log : List LogEntry) → IsAt p i log a → Continues p i log (number_at_turn a) (logs (object ∷ []) (c.Put s k v) r.Done) b
  steps = shape-before a ready.turn s register some-object (logs (object ∷ []) (c.Put s k v) r.Done) b continues

  pub goes-logged : Goes a (logs (object ∷ []) (c.Put s k v) r.Done) b
  goes-logged = record {
    turn = ap (λ w. w.turn) rest;
    number = ap number_at_turn rest;
    steps = steps;
    logged = logged;
    granted = kinds-stay;
    free = λ q none. absurd (let below : none.0 < 0 = none.1 in omega arith);
    size = ap (λ q. q.blocks) words-are;
    blocks = λ q below none. block-stays q below;
    budget = elsewhere 1 (omega arith) ∙ sym (add-zero (word_at t 1));
    stop = elsewhere 0 (omega arith);
    births = ap (λ w. births_of (mutator_at_turn w)) rest ∙ sym (add-zero (births_of (mutator_at_turn a)));
    ticket = λ none kept. ap (λ w. ticket_of (seat_at_turn w)) rest;
    fill = ap (λ w. w.fill) rest;
    regions = λ still. same-keeps a.notes.items b.notes.items (seat_at_turn a) (seat_at_turn b) (ap (λ w. w.notes.items) rest)
        (λ class. ap (λ w. block_of (seat_at_turn w) class) rest) (ap (λ w. over_of (seat_at_turn w)) rest);
    others = λ q other. (ap (λ w. slice_get w.mutators.items q) rest, ap (λ w. slice_get w.seats.items q) rest);
    foreign = foreign-same a b (ap (λ w. w.notes) rest);
  }

  pub ready-logged : MayCall b
  ready-logged = record {
    turn = subst IsTurn (sym rest) (record { turn = ready.turn.turn; seats = ready.turn.seats });
    between_calls = record {
      some = record {
        epoch = ready.between_calls.some.epoch;
        ideal = ready.between_calls.some.ideal;
        log = ready.between_calls.some.log ++ now.more;
        at = now.at;
      };
      filled = subst (λ w. AreFilled w.notes.items) (sym rest) ready.between_calls.filled;
    };
  }
    where
      now : Continues ready.between_calls.some.epoch ready.between_calls.some.ideal ready.between_calls.some.log (number_at_turn a) (logs (object ∷ []) (c.Put s k v) r.Done) b
      now = steps ready.between_calls.some.epoch ready.between_calls.some.ideal ready.between_calls.some.log ready.between_calls.some.at

-- the words where the code finds them
pub address-stays : (a cleared : PlainRow) (s n x : ℕ) → StoresWord a cleared n x → address_at cleared s ≡ address_at a s
address-stays a cleared s n x clears = ap (λ w. address_at w s) clears.rest

pub stores-there : (a cleared b : PlainRow) (s k v n x at value : ℕ) → StoresWord a cleared n x → at ≡ address_at cleared s + 3 + k → value ≡ address_at cleared v
    → StoresWord cleared b at value → StoresWord cleared b (address_at a s + 3 + k) (address_at a v)
stores-there a cleared b s k v n x at value clears here is stores =
    subst (λ q. StoresWord cleared b q (address_at a v)) (here ∙ ap (λ q. q + 3 + k) (address-stays a cleared s n x clears))
    (subst (λ q. StoresWord cleared b at q) (is ∙ address-stays a cleared v n x clears) stores)

pub field-inside-then : (a cleared : PlainRow) → MayCall a → (s k : ℕ) (shape : Shape) → s < 16 → HasShape a s shape → k < shape.refs → (n x at : ℕ) → StoresWord a cleared n x
    → at ≡ address_at cleared s + 3 + k → at < length cleared.row.words
field-inside-then a cleared ready s k shape register is there n x at clears here =
    subst (λ q. at < q) (sym (ap (λ q. length q.words) clears.words ∙ length-set (state_of a.row).words n x))
    (subst (λ q. q < length a.row.words) (sym (here ∙ ap (λ q. q + 3 + k) (address-stays a cleared s n x clears)))
    (storing.field-inside a ready s k shape register is there))
