-- Commands that read or change a word.
use Rattle.std.proofs.Common.{◌≡◌, ◌≢◌, refl, sym, ◌∙◌, ap, subst, ℕ, ◌+◌, ◌-◌, ◌/◌, ◌%◌, ◌^◌, ◌<◌, ◌≤◌, inl, inr, arith, Bool, true, false, ◌&&◌, not, nat_eq, List, [], ◌∷◌, ◌++◌, length, get_or}
use Rattle.std.specs.Prelude.{slice_index, if◌then◌else◌}
use Rattle.std.proofs.lemmas.Bool.{cases_lt, cond-false, cond-true, ne_eqb, eq-eqb}
use Rattle.std.specs.Int.{bit_at}
use Rattle.forward_word.specs.CollectorWords.{is_old_word}
use Rattle.heap_layout.specs.Zones.{PinBits, UnlogBits, first, row_words, heap_of, IsAddress}
use Rattle.heap_layout.proofs.MarkLemmas.{address_bit-at_address}
use Rattle.ideal_heap.specs.declared.command.Command.{Command}
use Rattle.ideal_heap.specs.declared.command.Command.TheVariants as c
use Rattle.ideal_heap.specs.declared.reply.Reply.{Reply}
use Rattle.ideal_heap.specs.declared.reply.Reply.TheVariants as r
use Rattle.ideal_heap.specs.Ideal.{IdealHeap}
use Rattle.ideal_heap.specs.Runs.{entry}
use Rattle.object_model.specs.declared.shape.Shape.{Shape}
use Rattle.object_model.specs.Objects.{state_of, with_words, word_at, IsHeld, is_unlogged, refs_at, nums_at}
use Rattle.object_model.specs.Lawful.{IsReadable}
use Rattle.mutator_core.specs.declared.state.Local.{Local}
use Rattle.mutator_core.specs.declared.state.LogEntry.{LogEntry}
use Rattle.mutator_core.specs.declared.state.Event.{Event}
use Rattle.mutator_core.specs.declared.state.Event.TheVariants as e
use Rattle.mutator_core.specs.declared.state.Answer.TheVariants.{Plain}
use Rattle.mutator_core.specs.Machine.{Epoch, next, found, local_after, address_in, place_of_command, store_of_command, answer_of_command, local_after_command, number_word, refs_in, nums_in}
use Rattle.mutator_core.specs.Guards.{MayPerform, is_old_word_under}
use Rattle.side_meta.specs.BitWords.{with_bit, without_bit}
use Rattle.object_model.specs.BitWords.{bit_word, bit_place}
use Rattle.mutator_core.specs.Guards as guards
use Rattle.mutator_core.specs.Histories.{reply_in}
use Rattle.mutator_core.specs.Logs.{machine_after, heap_after, local_after_log}
use Rattle.mutator_core.proofs.Moments.{same-words}
use Rattle.mutator_core.proofs.Quiet as quiet
use Rattle.mutator_calls.specs.Effects.{Answered, enters}
use Rattle.plain_row.specs.declared.plain_row.PlainRow.{PlainRow}
use Rattle.plain_row.specs.Rows.{IsTurn, number_at_turn, address_at}
use Rattle.plain_row.specs.Changes.{StoresWord}
use Rattle.plain_row.specs.Worlds.{IsAt, MayCall, Goes}
use Rattle.plain_row.specs.Steps.{HasShape, MayStoreUnlogged}
use Rattle.plain_row.proofs.EpochFacts as facts
use Rattle.plain_row.proofs.Turns as turns
use Rattle.plain_row.proofs.LogStep as stepping
use Rattle.plain_row.proofs.LogStep.{Updates}
use Rattle.plain_row.proofs.EntriesMade as entering
use Rattle.plain_row.proofs.EntriesMade.{Stepped, Does, IsPlain}

some-address : (n : ℕ) → n ≢ 0 → 0 < n
some-address n some = elim (cases_lt 0 n) as (λ _. 0 < n) [ inl is ↦ is | inr none ↦ absurd (some (omega arith)) ]

-- the object in a register
pub held-in : (a : PlainRow) → MayCall a → (s : ℕ) → s < 16 → address_at a s ≢ 0 → IsHeld (state_of a.row) (address_at a s)
held-in a ready s register some =
    let now = ready.between_calls.some in
    let same : address_in (local_after_log now.epoch now.log (number_at_turn a)) s ≡ address_at a s = entering.address-is now.epoch now.ideal now.log a now.at ready.turn s in
    subst (IsHeld (state_of a.row)) same
    (subst (λ t. IsHeld t (address_in (local_after_log now.epoch now.log (number_at_turn a)) s)) (sym now.at.heap)
    (quiet.in-register now.epoch now.at.epoch.ready (machine_after now.epoch now.log) _ (facts.end now.epoch now.ideal now.log a now.at).set (facts.moment now.epoch now.ideal now.log a now.at)
    (number_at_turn a) (stepping.known now.epoch now.ideal now.log a now.at ready.turn) s
    (register, subst (λ n. 0 < n) (sym same) (some-address (address_at a s) some))))

-- the row has all words of the layout
pub extent : (a : PlainRow) → MayCall a → length a.row.words ≡ row_words a.row.layout.blocks
extent a ready = let now = ready.between_calls.some in turns.extent now.epoch now.ideal now.log a now.at

pub readable : (a : PlainRow) → MayCall a → (s : ℕ) → s < 16 → address_at a s ≢ 0 → IsReadable (state_of a.row) (address_at a s)
readable a ready s register some = let now = ready.between_calls.some in facts.readable-object now.epoch now.ideal now.log a now.at (address_at a s) (held-in a ready s register some)

-- a global, a field and a number of an object lie in the row
pub global-inside : (a : PlainRow) → MayCall a → (g : ℕ) → g < 16 → 2 + g < length a.row.words
global-inside a ready g there = let len = extent a ready in let few = (let now = ready.between_calls.some in turns.least-blocks now.epoch now.ideal now.log a now.at) in omega arith

pub field-inside : (a : PlainRow) → MayCall a → (s i : ℕ) (shape : Shape) → s < 16 → HasShape a s shape → i < shape.refs → address_at a s + 3 + i < length a.row.words
field-inside a ready s i shape register is there =
    let inside : address_at a s + (3 + refs_at (state_of a.row) (address_at a s) + nums_at (state_of a.row) (address_at a s)) ≤ row_words a.row.layout.blocks = (readable a ready s register is.some).inside in
    let refs : shape.refs ≡ refs_at (state_of a.row) (address_at a s) = is.refs in
    let len : length a.row.words ≡ row_words a.row.layout.blocks = extent a ready in
    omega arith

pub number-inside : (a : PlainRow) → MayCall a → (s j : ℕ) (shape : Shape) → s < 16 → HasShape a s shape → j < shape.nums → address_at a s + 3 + shape.refs + j < length a.row.words
number-inside a ready s j shape register is there =
    let inside : address_at a s + (3 + refs_at (state_of a.row) (address_at a s) + nums_at (state_of a.row) (address_at a s)) ≤ row_words a.row.layout.blocks = (readable a ready s register is.some).inside in
    let refs : shape.refs ≡ refs_at (state_of a.row) (address_at a s) = is.refs in
    let nums : shape.nums ≡ nums_at (state_of a.row) (address_at a s) = is.nums in
    let len : length a.row.words ≡ row_words a.row.layout.blocks = extent a ready in
    omega arith

-- the word that is read
pub read-word : (a : PlainRow) (k n x : ℕ) → k ≡ n → x ≡ get_or a.row.words k 0 → x ≡ word_at (state_of a.row) n
read-word a k n x same read = read ∙ ap (word_at (state_of a.row)) same

-- a word that is only read
pub reads : (a : PlainRow) (n : ℕ) → StoresWord a a n (word_at (state_of a.row) n)
reads a n = record { rest = refl; words = ap (with_words (state_of a.row)) (sym (same-words (state_of a.row).words n)) }

-- what the machine does for a command that stores v at n
pub record Performs (p : Epoch) (log : List LogEntry) (a : PlainRow) (command : Command) (reply : Reply) (n v : ℕ) : Type 0 where
  pub may : MayPerform p (local_after_log p log (number_at_turn a)) command
  pub place : place_of_command p (local_after_log p log (number_at_turn a)) command ≡ n
  pub stored : store_of_command p (local_after_log p log (number_at_turn a)) command (word_at (state_of a.row) n) ≡ v
  pub answer : answer_of_command p (local_after_log p log (number_at_turn a)) command (word_at (state_of a.row) n) ≡ Plain reply
  pub own : local_after_command (local_after_log p log (number_at_turn a)) command (word_at (state_of a.row) n) ≡ local_after_log p log (number_at_turn a)

abbrev pub exchange : Command → Reply → List Answered
exchange command reply = (record { command = command; reply = reply }) ∷ []

module _ (a b : PlainRow) (turn : IsTurn a) (command : Command) (reply : Reply) (n v : ℕ) (plain : IsPlain (e.Perform command)) (stores : StoresWord a b n v) where
  module _ (p : Epoch) (i : IdealHeap) (log : List LogEntry) (at : IsAt p i log a) where
    abbrev l : Local
    l = local_after_log p log (number_at_turn a)

    word : place_of_command p l command ≡ n → found p (machine_after p log) (number_at_turn a) (e.Perform command) ≡ word_at (state_of a.row) n
    word same = entering.word-is p i log a at turn (place_of_command p l command) ∙ ap (word_at (state_of a.row)) same

    pub performed : Performs p log a command reply n v → Stepped p i log (number_at_turn a) (exchange command reply) a b
    performed does = entering.stepped p i log a b at turn (e.Perform command) (exchange command reply) plain (record {
      may = does.may;
      words = entering.store p i log a at turn b (place_of_command p l command) n v stores does.place _ (ap (store_of_command p l command) (word does.place) ∙ does.stored);
      updates = subst (Updates a b) (sym (ap (local_after_command l command) (word does.place) ∙ does.own)) (entering.unchanged p i log a at turn b stores.rest l refl refl refl refl refl);
      entries = ap (λ x. entry (number_at_turn a) command (reply_in (heap_after p log) x) ∷ []) (ap (answer_of_command p l command) (word does.place) ∙ does.answer);
    })

-- a method that makes the entry of a command
pub record Entered (a b : PlainRow) (command : Command) (reply : Reply) : Type 0 where
  pub ready : MayCall b
  pub goes : Goes a (enters command reply) b

pub entered : (a b : PlainRow) (ready : MayCall a) (command : Command) (reply : Reply) (n v : ℕ) → StoresWord a b n v → entering.Reaches a ready (exchange command reply) b → Entered a b command reply
entered a b ready command reply n v stores reach = record {
  ready = entering.still-ready a ready (exchange command reply) b (ap (λ w. w.turn) stores.rest) (ap (λ w. w.notes) stores.rest) reach;
  goes = entering.goes a ready (exchange command reply) b (ap (λ w. w.turn) stores.rest) (ap number_at_turn stores.rest) reach;
}

-- a register stored into a global
pub shares : (a b : PlainRow) → MayCall a → (g s : ℕ) → g < 16 → s < 16 → StoresWord a b (2 + g) (address_at a s) → Entered a b (c.Share g s) r.Done
shares a b ready g s global register stores = entered a b ready (c.Share g s) r.Done (2 + g) (address_at a s) stores
    (λ p i log at. performed a b ready.turn (c.Share g s) r.Done (2 + g) (address_at a s) (record { quiet = refl; untaken = refl; unlogged = refl; undrawn = refl; unraised = refl }) stores p i log at (record {
      may = (global, register);
      place = refl;
      stored = entering.address-is p i log a at ready.turn s;
      answer = refl;
      own = refl;
    }))

-- a load of a word by the mutator, and then other steps
module _ (a : PlainRow) (turn : IsTurn a) (es : List Answered) (b : PlainRow) (p : Epoch) (i : IdealHeap) where
  abbrev m : ℕ
  m = number_at_turn a

  pub after-load : (log : List LogEntry) (at : IsAt p i log a) (x : Event) → IsPlain x → Does p i log a a at turn x []
      → ((next : List LogEntry) → IsAt p i next a → local_after_log p next m ≡ local_after p (local_after_log p log m) x (found p (machine_after p log) m x) → Stepped p i next m es a b)
      → Stepped p i log m es a b
  unfolding entering.stepped entering.stepped-with
  after-load log at x plain does more =
      entering.loaded-first p i log m es a b first (more (log ++ first.continues.more) first.continues.at (stepping.own-pushed p i log a at turn x))
    where
      first : Stepped p i log m [] a a
      first = entering.stepped p i log a a at turn x [] plain does

  module _ (s : ℕ) (register : s < 16) (some : address_at a s ≢ 0) where
    -- the shape last loaded is that of the object in register s
    abbrev pub KnowsShape : List LogEntry → Type 0
    KnowsShape log = (local_after_log p log m).shape ≡ record { at = address_at a s; word = word_at (state_of a.row) (address_at a s + 1) }

    may-load : (log : List LogEntry) → IsAt p i log a → (s < 16) × (0 < address_in (local_after_log p log m) s)
    may-load log at = (register, subst (λ n. 0 < n) (sym (entering.address-is p i log a at turn s)) (some-address (address_at a s) some))

    pub after-collector : (log : List LogEntry) (at : IsAt p i log a) → KnowsShape log
        → ((next : List LogEntry) → IsAt p i next a → KnowsShape next
        → (local_after_log p next m).collector ≡ record { at = address_at a s; word = word_at (state_of a.row) (address_at a s + 2) } → Stepped p i next m es a b)
        → Stepped p i log m es a b
    after-collector log at shape more = after-load log at (e.LoadCollector s) (record { quiet = refl; untaken = refl; unlogged = refl; undrawn = refl; unraised = refl }) (record {
      may = may-load log at;
      words = entering.still p i log a at turn _;
      updates = entering.unchanged p i log a at turn a refl _ refl refl refl refl refl;
      entries = refl;
    }) (λ next now same. more next now (ap (λ l. l.shape) same ∙ shape)
        (ap (λ l. l.collector) same ∙ ap (λ n. record { at = n; word = slice_index (machine_after p log).words (n + 2) }) (entering.address-is p i log a at turn s)
        ∙ ap (λ n. record { at = address_at a s; word = n }) (entering.word-is p i log a at turn (address_at a s + 2))))

    pub after-unlog : (log : List LogEntry) (at : IsAt p i log a) → KnowsShape log → is_unlogged (state_of a.row) (address_at a s) ≡ false → IsAddress a.row.layout.blocks (address_at a s)
        → ((next : List LogEntry) → IsAt p i next a → KnowsShape next → (local_after_log p next m).logged ≡ address_at a s → Stepped p i next m es a b)
        → Stepped p i log m es a b
    after-unlog log at shape clear address more = after-load log at (e.LoadUnlog s) (record { quiet = refl; untaken = refl; unlogged = refl; undrawn = refl; unraised = refl }) (record {
      may = may-load log at;
      words = entering.still p i log a at turn _;
      updates = entering.unchanged p i log a at turn a refl _ refl refl refl refl refl;
      entries = refl;
    }) (λ next now same. more next now (ap (λ l. l.shape) same ∙ shape) (ap (λ l. l.logged) same ∙ cond-false _ (local_after_log p log m).logged (address_in (local_after_log p log m) s) bit ∙ own))
      where
        own : address_in (local_after_log p log m) s ≡ address_at a s
        own = entering.address-is p i log a at turn s

        blocks : p.before.blocks ≡ a.row.layout.blocks
        blocks = facts.blocks p i log a at

        bit : nat_eq (bit_at (slice_index (machine_after p log).words (bit_word p.before.blocks UnlogBits (address_in (local_after_log p log m) s))) (bit_place p.before.blocks (address_in (local_after_log p log m) s))) 1 ≡ false
        bit = ap (λ n. nat_eq (bit_at n (bit_place p.before.blocks (address_in (local_after_log p log m) s))) 1) (entering.word-is p i log a at turn (bit_word p.before.blocks UnlogBits (address_in (local_after_log p log m) s)))
            ∙ ap (λ k. nat_eq (bit_at (word_at (state_of a.row) (bit_word p.before.blocks UnlogBits k)) (bit_place p.before.blocks k)) 1) own
            ∙ ap (λ n. nat_eq (bit_at (word_at (state_of a.row) (bit_word n UnlogBits (address_at a s))) (bit_place n (address_at a s))) 1) blocks
            ∙ sym (address_bit-at_address a.row.layout.blocks UnlogBits (state_of a.row).words (address_at a s) address) ∙ clear

-- the object in register s has this shape, and its shape was loaded
module _ (a : PlainRow) (ready : MayCall a) (s : ℕ) (shape : Shape) (register : s < 16) (has : HasShape a s shape) (p : Epoch) (i : IdealHeap) (log : List LogEntry) (at : IsAt p i log a)
    (knows : (local_after_log p log (number_at_turn a)).shape ≡ record { at = address_at a s; word = word_at (state_of a.row) (address_at a s + 1) }) where
  abbrev own-local : Local
  own-local = local_after_log p log (number_at_turn a)

  own : address_in own-local s ≡ address_at a s
  own = entering.address-is p i log a at ready.turn s

  has-shape : guards.HasLoadedShape own-local s
  has-shape = (register, subst (λ n. 0 < n) (sym own) (some-address (address_at a s) has.some), ap (λ x. x.at) knows ∙ sym own)

  refs-are : refs_in own-local.shape.word ≡ shape.refs
  refs-are = ap (λ x. x.word % 65536) knows ∙ sym has.refs

  nums-are : nums_in own-local.shape.word ≡ shape.nums
  nums-are = ap (λ x. x.word / 65536) knows ∙ sym has.nums

  pub has-field : (k : ℕ) → k < shape.refs → guards.HasField own-local s k
  has-field k there = (has-shape, subst (λ n. k < n) (sym refs-are) there)

  pub has-number : (j : ℕ) → j < shape.nums → guards.HasNumber own-local s j
  has-number j there = (has-shape, subst (λ n. j < n) (sym nums-are) there)

  pub number-place : (j : ℕ) → number_word own-local s j ≡ address_at a s + 3 + shape.refs + j
  number-place j = ap (λ n. n + 3 + refs_in own-local.shape.word + j) own ∙ ap (λ n. address_at a s + 3 + n + j) refs-are

  pub field-place : (k : ℕ) → address_in own-local s + 3 + k ≡ address_at a s + 3 + k
  field-place k = ap (λ n. n + 3 + k) own

-- a number of the object in register s is read or changed
module _ (a b : PlainRow) (ready : MayCall a) (s j : ℕ) (shape : Shape) (register : s < 16) (has : HasShape a s shape) (there : j < shape.nums) (v : ℕ) (stores : StoresWord a b (address_at a s + 3 + shape.refs + j) v) where
  abbrev here : ℕ
  here = address_at a s + 3 + shape.refs + j

  on-number : (command : Command) (reply : Reply) → IsPlain (e.Perform command)
      → ((p : Epoch) (log : List LogEntry) → guards.HasNumber (local_after_log p log (number_at_turn a)) s j → number_word (local_after_log p log (number_at_turn a)) s j ≡ here → Performs p log a command reply here v)
      → Entered a b command reply
  on-number command reply plain does = entered a b ready command reply here v stores (λ p i log at.
      entering.after-shape a ready.turn s register has.some (exchange command reply) b
      (λ p i log at knows. performed a b ready.turn command reply here v plain stores p i log at
      (does p log (has-number a ready s shape register has p i log at knows j there) (number-place a ready s shape register has p i log at knows j))) p i log at)

  pub reads-number : (n : ℕ) → n ≡ word_at (state_of a.row) here → v ≡ word_at (state_of a.row) here → Entered a b (c.Read s j) (r.Num n)
  reads-number n is same = on-number (c.Read s j) (r.Num n) (record { quiet = refl; untaken = refl; unlogged = refl; undrawn = refl; unraised = refl })
      (λ p log number place. record { may = number; place = place; stored = sym same; answer = ap (λ x. Plain (r.Num x)) (sym is); own = refl })

  pub writes-number : v < 2 ^ 64 → Entered a b (c.Write s j v) r.Done
  writes-number fits = on-number (c.Write s j v) r.Done (record { quiet = refl; untaken = refl; unlogged = refl; undrawn = refl; unraised = refl })
      (λ p log number place. record { may = (number, fits); place = place; stored = refl; answer = refl; own = refl })

  pub adds-number : (n k : ℕ) → k < 2 ^ 64 → n ≡ word_at (state_of a.row) here → v ≡ (n + k) % 2 ^ 64 → Entered a b (c.Add s j k) (r.Num n)
  adds-number n k fits is sum = on-number (c.Add s j k) (r.Num n) (record { quiet = refl; untaken = refl; unlogged = refl; undrawn = refl; unraised = refl })
      (λ p log number place. record { may = (number, fits); place = place; stored = ap (λ x. (x + k) % 2 ^ 64) (sym is) ∙ sym sum; answer = ap (λ x. Plain (r.Num x)) (sym is); own = refl })

  pub swaps-number : (was : ℕ) → v < 2 ^ 64 → word_at (state_of a.row) here ≡ was → Entered a b (c.Swap s j was v) r.Yes
  swaps-number was fits is = on-number (c.Swap s j was v) r.Yes (record { quiet = refl; untaken = refl; unlogged = refl; undrawn = refl; unraised = refl })
      (λ p log number place. record {
        may = (number, fits);
        place = place;
        stored = cond-true (nat_eq (word_at (state_of a.row) here) was) v (word_at (state_of a.row) here) (eq-eqb (word_at (state_of a.row) here) was is);
        answer = ap (λ x. Plain x) (cond-true (nat_eq (word_at (state_of a.row) here) was) r.Yes r.No (eq-eqb (word_at (state_of a.row) here) was is));
        own = refl;
      })

  pub keeps-number : (was next : ℕ) → next < 2 ^ 64 → word_at (state_of a.row) here ≢ was → v ≡ word_at (state_of a.row) here → Entered a b (c.Swap s j was next) r.No
  keeps-number was next fits other same = on-number (c.Swap s j was next) r.No (record { quiet = refl; untaken = refl; unlogged = refl; undrawn = refl; unraised = refl })
      (λ p log number place. record {
        may = (number, fits);
        place = place;
        stored = cond-false (nat_eq (word_at (state_of a.row) here) was) next (word_at (state_of a.row) here) (ne_eqb (word_at (state_of a.row) here) was other) ∙ sym same;
        answer = ap (λ x. Plain x) (cond-false (nat_eq (word_at (state_of a.row) here) was) r.Yes r.No (ne_eqb (word_at (state_of a.row) here) was other));
        own = refl;
      })

-- the word with a bit of an object lies in the row
pub bit-inside : (a : PlainRow) → MayCall a → (s n : ℕ) → s < 16 → address_at a s ≢ 0 → n ≤ first a.row.layout.blocks UnlogBits
    → n + (address_at a s - heap_of a.row.layout.blocks) / 64 < length a.row.words
bit-inside a ready s n register some low =
    let is = (held-in a ready s register some).address in
    let from : heap_of a.row.layout.blocks ≤ address_at a s = is.from in
    let below : address_at a s < row_words a.row.layout.blocks = is.below in
    let len : length a.row.words ≡ row_words a.row.layout.blocks = extent a ready in
    omega arith

-- the pin bit of the object in register s is set or cleared
module _ (a b : PlainRow) (ready : MayCall a) (s : ℕ) (register : s < 16) (some : address_at a s ≢ 0) (pinned : Bool) where
  abbrev pin-word : ℕ
  pin-word = first a.row.layout.blocks PinBits + (address_at a s - heap_of a.row.layout.blocks) / 64

  abbrev pin-place : ℕ
  pin-place = (address_at a s - heap_of a.row.layout.blocks) % 64

  module _ (is : pinned ≡ nat_eq (bit_at (word_at (state_of a.row) pin-word) pin-place) 1) where
    module _ (p : Epoch) (i : IdealHeap) (log : List LogEntry) (at : IsAt p i log a) where
      same-address : address_in (local_after_log p log (number_at_turn a)) s ≡ address_at a s
      same-address = entering.address-is p i log a at ready.turn s

      some-object : 0 < address_in (local_after_log p log (number_at_turn a)) s
      some-object = subst (λ n. 0 < n) (sym same-address) (some-address (address_at a s) some)

      word-place : bit_word p.before.blocks PinBits (address_in (local_after_log p log (number_at_turn a)) s) ≡ pin-word
      word-place = ap (λ n. bit_word p.before.blocks PinBits n) same-address ∙ ap (λ n. bit_word n PinBits (address_at a s)) (facts.blocks p i log a at)

      bit-is : bit_place p.before.blocks (address_in (local_after_log p log (number_at_turn a)) s) ≡ pin-place
      bit-is = ap (λ n. bit_place p.before.blocks n) same-address ∙ ap (λ n. bit_place n (address_at a s)) (facts.blocks p i log a at)

      test-is : nat_eq (bit_at (word_at (state_of a.row) pin-word) (bit_place p.before.blocks (address_in (local_after_log p log (number_at_turn a)) s))) 1 ≡ pinned
      test-is = ap (λ n. nat_eq (bit_at (word_at (state_of a.row) pin-word) n) 1) bit-is ∙ sym is

    no-or-yes : (x : Bool) → (if x then r.No else r.Yes) ≡ (if not x then r.Yes else r.No)
    no-or-yes true = refl
    no-or-yes false = refl

    pub pins : StoresWord a b pin-word (with_bit (word_at (state_of a.row) pin-word) pin-place) → Entered a b (c.Pin s) (if not pinned then r.Yes else r.No)
    pins stores = entered a b ready (c.Pin s) (if not pinned then r.Yes else r.No) pin-word (with_bit (word_at (state_of a.row) pin-word) pin-place) stores
        (λ p i log at. performed a b ready.turn (c.Pin s) (if not pinned then r.Yes else r.No) pin-word (with_bit (word_at (state_of a.row) pin-word) pin-place)
        (record { quiet = refl; untaken = refl; unlogged = refl; undrawn = refl; unraised = refl }) stores p i log at (record {
          may = (register, some-object p i log at);
          place = word-place p i log at;
          stored = ap (with_bit (word_at (state_of a.row) pin-word)) (bit-is p i log at);
          answer = ap (λ x. Plain (if x then r.No else r.Yes)) (test-is p i log at) ∙ ap (λ x. Plain x) (no-or-yes pinned);
          own = refl;
        }))

    pub unpins : StoresWord a b pin-word (without_bit (word_at (state_of a.row) pin-word) pin-place) → Entered a b (c.Unpin s) (if pinned then r.Yes else r.No)
    unpins stores = entered a b ready (c.Unpin s) (if pinned then r.Yes else r.No) pin-word (without_bit (word_at (state_of a.row) pin-word) pin-place) stores
        (λ p i log at. performed a b ready.turn (c.Unpin s) (if pinned then r.Yes else r.No) pin-word (without_bit (word_at (state_of a.row) pin-word) pin-place)
        (record { quiet = refl; untaken = refl; unlogged = refl; undrawn = refl; unraised = refl }) stores p i log at (record {
          may = (register, some-object p i log at);
          place = word-place p i log at;
          stored = ap (without_bit (word_at (state_of a.row) pin-word)) (bit-is p i log at);
          answer = ap (λ x. Plain (if x then r.Yes else r.No)) (test-is p i log at);
          own = refl;
        }))

-- register v stored into field k of the object in register s, whose shape is known
module _ (a b : PlainRow) (ready : MayCall a) (s k v : ℕ) (shape : Shape) (register : s < 16) (value : v < 16) (has : HasShape a s shape) (there : k < shape.refs)
    (stores : StoresWord a b (address_at a s + 3 + k) (address_at a v)) where
  module _ (p : Epoch) (i : IdealHeap) where
    puts-next : (log : List LogEntry) (at : IsAt p i log a)
        → (local_after_log p log (number_at_turn a)).shape ≡ record { at = address_at a s; word = word_at (state_of a.row) (address_at a s + 1) }
        → guards.MayStoreReference p (local_after_log p log (number_at_turn a)) s → Stepped p i log (number_at_turn a) (exchange (c.Put s k v) r.Done) a b
    puts-next log at knows barred = performed a b ready.turn (c.Put s k v) r.Done (address_at a s + 3 + k) (address_at a v) (record { quiet = refl; untaken = refl; unlogged = refl; undrawn = refl; unraised = refl }) stores p i log at (record {
      may = (value, has-field a ready s shape register has p i log at knows k there, barred, inl (stepping.state p i log a at ready.turn).stored);
      place = field-place a ready s shape register has p i log at knows k;
      stored = entering.address-is p i log a at ready.turn v;
      answer = refl;
      own = ap (λ n. record (local_after_log p log (number_at_turn a)) { pending = n }) (sym (stepping.state p i log a at ready.turn).stored);
    })

    never : (x : Bool) → (x && false) ≡ false
    never true = refl
    never false = refl

    puts-barred : (log : List LogEntry) (at : IsAt p i log a)
        → (local_after_log p log (number_at_turn a)).shape ≡ record { at = address_at a s; word = word_at (state_of a.row) (address_at a s + 1) }
        → MayStoreUnlogged a s → Stepped p i log (number_at_turn a) (exchange (c.Put s k v) r.Done) a b
    puts-barred log at knows barred = elim barred as (λ _. Stepped p i log (number_at_turn a) (exchange (c.Put s k v) r.Done) a b) [
      | inl old ↦ puts-next log at knows (inl (sym at.young ∙ old))
      | inr (inl young) ↦ after-collector a ready.turn (exchange (c.Put s k v) r.Done) b p i s register has.some log at knows (λ next now shape collector.
          puts-next next now shape (inr (inl (
            ap (λ x. x.at) collector ∙ sym (entering.address-is p i next a now ready.turn s),
            ap (λ x. is_old_word_under p x.word) collector
                ∙ ap (λ n. p.rules.young && is_old_word n (word_at (state_of a.row) (address_at a s + 2))) (ap (λ t. t.base) (sym at.heap))
                ∙ ap (λ x. p.rules.young && x) young ∙ never p.rules.young,
          ))))
      | inr (inr logged) ↦ after-unlog a ready.turn (exchange (c.Put s k v) r.Done) b p i s register has.some log at knows logged (held-in a ready s register has.some).address (λ next now shape own.
          puts-next next now shape (inr (inr (own ∙ sym (entering.address-is p i next a now ready.turn s)))))
    ]

  pub puts : MayStoreUnlogged a s → Entered a b (c.Put s k v) r.Done
  puts barred = entered a b ready (c.Put s k v) r.Done (address_at a s + 3 + k) (address_at a v) stores (λ p i log at.
      entering.after-shape a ready.turn s register has.some (exchange (c.Put s k v) r.Done) b (λ p i log at knows. puts-barred p i log at knows barred) p i log at)

-- and so where the code finds the word and the bit
module _ (a b : PlainRow) (ready : MayCall a) (s : ℕ) (register : s < 16) (some : address_at a s ≢ 0) (pinned : Bool) (k bit : ℕ)
    (word : k ≡ first a.row.layout.blocks PinBits + (address_at a s - heap_of a.row.layout.blocks) / 64) (place : bit ≡ (address_at a s - heap_of a.row.layout.blocks) % 64)
    (is : pinned ≡ nat_eq (bit_at (word_at (state_of a.row) k) bit) 1) where
  tested : pinned ≡ nat_eq (bit_at (word_at (state_of a.row) (first a.row.layout.blocks PinBits + (address_at a s - heap_of a.row.layout.blocks) / 64)) ((address_at a s - heap_of a.row.layout.blocks) % 64)) 1
  tested = is ∙ ap (λ n. nat_eq (bit_at (word_at (state_of a.row) n) bit) 1) word
      ∙ ap (λ n. nat_eq (bit_at (word_at (state_of a.row) (first a.row.layout.blocks PinBits + (address_at a s - heap_of a.row.layout.blocks) / 64)) n) 1) place

  pub pins-there : StoresWord a b k (with_bit (word_at (state_of a.row) k) bit) → Entered a b (c.Pin s) (if not pinned then r.Yes else r.No)
  pins-there stores = pins a b ready s register some pinned tested
      (subst (λ n. StoresWord a b n (with_bit (word_at (state_of a.row) n) ((address_at a s - heap_of a.row.layout.blocks) % 64))) word
      (subst (λ n. StoresWord a b k (with_bit (word_at (state_of a.row) k) n)) place stores))

  pub unpins-there : StoresWord a b k (without_bit (word_at (state_of a.row) k) bit) → Entered a b (c.Unpin s) (if pinned then r.Yes else r.No)
  unpins-there stores = unpins a b ready s register some pinned tested
      (subst (λ n. StoresWord a b n (without_bit (word_at (state_of a.row) n) ((address_at a s - heap_of a.row.layout.blocks) % 64))) word
      (subst (λ n. StoresWord a b k (without_bit (word_at (state_of a.row) k) n)) place stores))
