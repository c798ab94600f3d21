-- The steps that load a word: what they may read, and the entries that they make.
use Rattle.std.proofs.Common.{◌≡◌, ◌≢◌, refl, sym, ◌∙◌, ap, subst, ℕ, ◌+◌, ◌%◌, ◌/◌, ◌<◌, ◌≤◌, inl, inr, arith, true, false, nat_eq, List, [], ◌∷◌, length}
use Rattle.std.specs.Prelude.{if◌then◌else◌, MatchBool, slice_get, slice_index, slice_set}
use Rattle.std.proofs.lemmas.Bool.{cases_lt, cond-true, cond-false, ne_eqb, eq-eqb}
use Rattle.std.proofs.lemmas.List.{get_or-set_same}
use Rattle.heap_layout.specs.Zones.{IsAddress, row_words}
use Rattle.ideal_heap.specs.declared.command.Command.{Command}
use Rattle.ideal_heap.specs.declared.command.Command.TheVariants as c
use Rattle.ideal_heap.specs.declared.name.Name.{Name}
use Rattle.ideal_heap.specs.declared.reply.Reply.{Reply}
use Rattle.ideal_heap.specs.declared.reply.Reply.TheVariants as r
use Rattle.ideal_heap.specs.Ideal.{IdealHeap}
use Rattle.ideal_heap.specs.Runs as runs
use Rattle.ideal_heap.specs.Runs.{entry}
use Rattle.object_model.specs.declared.shape.Shape.{Shape}
use Rattle.object_model.specs.Objects.{HeapState, state_of, word_at, global_at, ref_at, name_at, IsHeld, size_at}
use Rattle.object_model.specs.Lawful.{IsWellFormed, IsReadable}
use Rattle.mutator_core.specs.declared.state.LogEntry.{LogEntry}
use Rattle.mutator_core.specs.declared.state.Event.TheVariants as e
use Rattle.mutator_core.specs.Machine.{Epoch, source, address_in}
use Rattle.mutator_core.specs.Guards.{IsMiss}
use Rattle.mutator_core.specs.Logs.{machine_after, heap_after, local_after_log, history_of}
use Rattle.mutator_core.proofs.Quiet as quiet
use Rattle.mutator_calls.specs.Accesses.{IsAccess, LacksIndex}
use Rattle.mutator_calls.specs.Effects.{Answered, IsFound}
use Rattle.plain_row.specs.declared.plain_row.PlainRow.{PlainRow}
use Rattle.plain_row.specs.Rows.{IsTurn, SetsRegister, mutator_number, registers_of, number_at_turn, mutator_at_turn, address_at}
use Rattle.plain_row.specs.Steps.{HasShape, HasName}
use Rattle.plain_row.specs.Worlds.{IsAt, MayCall, Goes}
use Rattle.plain_row.proofs.EpochFacts as facts
use Rattle.plain_row.proofs.Turns as turns
use Rattle.plain_row.proofs.LogStep as stepping
use Rattle.plain_row.proofs.EntriesMade as entering
use Rattle.plain_row.proofs.EntriesMade.{Stepped, stepped, unchanged, register-set, after-shape}

some-address : (n : ℕ) → n ≢ 0 → 0 < n
some-address n some = elim (cases_lt 0 n) as (λ _. 0 < n) [ inl is ↦ is | inr none ↦ absurd (some (omega arith)) ]

module _ (p : Epoch) (i : IdealHeap) (log : List LogEntry) (a : PlainRow) (at : IsAt p i log a) (turn : IsTurn a) where
  held-in : (s : ℕ) → s < 16 → address_at a s ≢ 0 → IsHeld (state_of a.row) (address_at a s)
  held-in s small some = subst (λ n. IsHeld (state_of a.row) n) (entering.address-is p i log a at turn s)
      (subst (λ (t : HeapState). IsHeld t (address_in (local_after_log p log (number_at_turn a)) s)) (sym at.heap)
      (quiet.in-register p at.epoch.ready (machine_after p log) (runs.heap_after_run i (history_of p log)) (facts.end p i log a at).set (facts.moment p i log a at)
      (number_at_turn a) (stepping.known p i log a at turn) s
      (small, subst (λ n. 0 < n) (sym (entering.address-is p i log a at turn s)) (some-address (address_at a s) some))))

module _ (a : PlainRow) (ready : MayCall a) where
  pub order : IsWellFormed (state_of a.row)
  order = facts.order ready.between_calls.some.epoch ready.between_calls.some.ideal ready.between_calls.some.log a ready.between_calls.some.at

  -- the object in a register
  module _ (s : ℕ) (small : s < 16) (some : address_at a s ≢ 0) where
    pub held : IsHeld (state_of a.row) (address_at a s)
    held = held-in ready.between_calls.some.epoch ready.between_calls.some.ideal ready.between_calls.some.log a ready.between_calls.some.at ready.turn s small some

    pub readable : IsReadable (state_of a.row) (address_at a s)
    readable = facts.readable-object ready.between_calls.some.epoch ready.between_calls.some.ideal ready.between_calls.some.log a ready.between_calls.some.at (address_at a s) held

    pub address : IsAddress a.row.layout.blocks (address_at a s)
    address = held.address

    -- its header is in the row
    pub collector-word : address_at a s + 2 < length a.row.words
    collector-word =
        let extent : length a.row.words ≡ row_words a.row.layout.blocks = readable.extent in
        let inside : address_at a s + size_at (state_of a.row) (address_at a s) ≤ row_words a.row.layout.blocks = readable.inside in
        omega arith

-- register d of the mutator becomes v: it keeps its number
pub sets-number : (a b : PlainRow) (d v : ℕ) → SetsRegister a b d v → number_at_turn b ≡ number_at_turn a
sets-number a b d v sets = ap (λ k. mutator_number (slice_get b.mutators.items k)) sets.turn ∙ ap mutator_number sets.mutators.here ∙ ap mutator_number (sym sets.was)

-- and it has v in the register
pub sets-address : (a b : PlainRow) (d v : ℕ) → SetsRegister a b d v → d < length (registers_of (mutator_at_turn a)) → address_at b d ≡ v
sets-address a b d v sets small =
    let there : d < length sets.mutator.registers = subst (λ o. d < length (registers_of o)) sets.was small in
    ap (λ k. slice_index (registers_of (slice_get b.mutators.items k)) d) sets.turn ∙ ap (λ o. slice_index (registers_of o) d) sets.mutators.here
    ∙ get_or-set_same sets.mutator.registers d v 0 there

-- a command on nothing: its entry says so
module _ (p : Epoch) (i : IdealHeap) (log : List LogEntry) (a : PlainRow) (at : IsAt p i log a) (turn : IsTurn a) where
  pub missed : (command : Command) (reply : Reply) → IsMiss (local_after_log p log (number_at_turn a)) command
      → (if nat_eq (address_in (local_after_log p log (number_at_turn a)) (source command)) 0 then r.Null else r.Range) ≡ reply
      → Stepped p i log (number_at_turn a) ((record { command = command; reply = reply }) ∷ []) a a
  missed command reply may same = stepped p i log a a at turn (e.Miss command) ((record { command = command; reply = reply }) ∷ []) (record { quiet = refl; untaken = refl; unlogged = refl; undrawn = refl; unraised = refl }) (record {
    may = may;
    words = entering.still p i log a at turn _;
    updates = unchanged p i log a at turn a refl _ refl refl refl refl refl;
    entries = ap (λ q. entry (number_at_turn a) command q ∷ []) same;
  })

  null-miss : (command : Command) → IsAccess command → address_in (local_after_log p log (number_at_turn a)) (source command) ≡ 0
      → IsMiss (local_after_log p log (number_at_turn a)) command
  null-miss (c.Get d s i) small none = (small, inl none)
  null-miss (c.Put s i v) small none = (small, inl none)
  null-miss (c.Read s j) small none = (small, inl none)
  null-miss (c.Write s j n) small none = (small, inl none)
  null-miss (c.Add s j n) small none = (small, inl none)
  null-miss (c.Swap s j was n) small none = (small, inl none)
  null-miss (c.Pin s) small none = (small, none)
  null-miss (c.Unpin s) small none = (small, none)
  null-miss (c.New d refs nums) small none = absurd small
  null-miss (c.Move d s) small none = absurd small
  null-miss (c.DropReg s) small none = absurd small
  null-miss (c.Load d g) small none = absurd small
  null-miss (c.Share g s) small none = absurd small
  null-miss c.Gc small none = absurd small
  null-miss c.Meet small none = absurd small

  -- the shape word that was loaded is that of an object of this shape
  pub record Loaded (s : ℕ) (shape : Shape) : Type 0 where
    pub some : 0 < address_in (local_after_log p log (number_at_turn a)) s
    pub here : (local_after_log p log (number_at_turn a)).shape.at ≡ address_in (local_after_log p log (number_at_turn a)) s
    pub refs : shape.refs ≡ (local_after_log p log (number_at_turn a)).shape.word % 65536
    pub nums : shape.nums ≡ (local_after_log p log (number_at_turn a)).shape.word / 65536

  pub loaded-shape : (s : ℕ) (shape : Shape) → HasShape a s shape
      → (local_after_log p log (number_at_turn a)).shape ≡ record { at = address_at a s; word = word_at (state_of a.row) (address_at a s + 1) } → Loaded s shape
  loaded-shape s shape has is = record {
    some = subst (λ n. 0 < n) (sym (entering.address-is p i log a at turn s)) (some-address (address_at a s) has.some);
    here = ap (λ x. x.at) is ∙ sym (entering.address-is p i log a at turn s);
    refs = has.refs ∙ sym (ap (λ x. x.word % 65536) is);
    nums = has.nums ∙ sym (ap (λ x. x.word / 65536) is);
  }

  range-miss : (command : Command) (shape : Shape) → LacksIndex shape command → Loaded (source command) shape → IsMiss (local_after_log p log (number_at_turn a)) command
  range-miss (c.Get d s i) shape lacks is = (lacks.0, inr ((lacks.0, is.some, is.here), subst (λ n. n ≤ i) is.refs lacks.1))
  range-miss (c.Put s i v) shape lacks is = (lacks.0, inr ((lacks.0, is.some, is.here), subst (λ n. n ≤ i) is.refs lacks.1))
  range-miss (c.Read s j) shape lacks is = (lacks.0, inr ((lacks.0, is.some, is.here), subst (λ n. n ≤ j) is.nums lacks.1))
  range-miss (c.Write s j n) shape lacks is = (lacks.0, inr ((lacks.0, is.some, is.here), subst (λ n. n ≤ j) is.nums lacks.1))
  range-miss (c.Add s j n) shape lacks is = (lacks.0, inr ((lacks.0, is.some, is.here), subst (λ n. n ≤ j) is.nums lacks.1))
  range-miss (c.Swap s j was n) shape lacks is = (lacks.0, inr ((lacks.0, is.some, is.here), subst (λ n. n ≤ j) is.nums lacks.1))
  range-miss (c.Pin s) shape lacks is = absurd lacks
  range-miss (c.Unpin s) shape lacks is = absurd lacks
  range-miss (c.New d refs nums) shape lacks is = absurd lacks
  range-miss (c.Move d s) shape lacks is = absurd lacks
  range-miss (c.DropReg s) shape lacks is = absurd lacks
  range-miss (c.Load d g) shape lacks is = absurd lacks
  range-miss (c.Share g s) shape lacks is = absurd lacks
  range-miss c.Gc shape lacks is = absurd lacks
  range-miss c.Meet shape lacks is = absurd lacks

  pub null : (command : Command) → IsAccess command → address_at a (source command) ≡ 0
      → Stepped p i log (number_at_turn a) ((record { command = command; reply = r.Null }) ∷ []) a a
  null command small none =
      let nil : address_in (local_after_log p log (number_at_turn a)) (source command) ≡ 0 = entering.address-is p i log a at turn (source command) ∙ none in
      missed command r.Null (null-miss command small nil)
      (cond-true (nat_eq (address_in (local_after_log p log (number_at_turn a)) (source command)) 0) r.Null r.Range (eq-eqb _ 0 nil))

  pub range : (command : Command) (shape : Shape) → LacksIndex shape command → Loaded (source command) shape
      → Stepped p i log (number_at_turn a) ((record { command = command; reply = r.Range }) ∷ []) a a
  range command shape lacks is =
      let some : 0 < address_in (local_after_log p log (number_at_turn a)) (source command) = is.some in
      missed command r.Range (range-miss command shape lacks is)
      (cond-false (nat_eq (address_in (local_after_log p log (number_at_turn a)) (source command)) 0) r.Null r.Range (ne_eqb _ 0 (λ nil. omega arith)))

-- the register that such a command names
range-source : (command : Command) (shape : Shape) → LacksIndex shape command → source command < 16
range-source (c.Get d s i) shape lacks = lacks.0
range-source (c.Put s i v) shape lacks = lacks.0
range-source (c.Read s j) shape lacks = lacks.0
range-source (c.Write s j n) shape lacks = lacks.0
range-source (c.Add s j n) shape lacks = lacks.0
range-source (c.Swap s j was n) shape lacks = lacks.0
range-source (c.Pin s) shape lacks = absurd lacks
range-source (c.Unpin s) shape lacks = absurd lacks
range-source (c.New d refs nums) shape lacks = absurd lacks
range-source (c.Move d s) shape lacks = absurd lacks
range-source (c.DropReg s) shape lacks = absurd lacks
range-source (c.Load d g) shape lacks = absurd lacks
range-source (c.Share g s) shape lacks = absurd lacks
range-source c.Gc shape lacks = absurd lacks
range-source c.Meet shape lacks = absurd lacks

module _ (a : PlainRow) (ready : MayCall a) where
  pub enters-null : (command : Command) → IsAccess command → address_at a (source command) ≡ 0
      → Goes a (entering.only ((record { command = command; reply = r.Null }) ∷ [])) a
  enters-null command small none = entering.goes a ready ((record { command = command; reply = r.Null }) ∷ []) a refl refl (λ p i log at. null p i log a at ready.turn command small none)

  pub enters-range : (command : Command) (shape : Shape) → HasShape a (source command) shape → LacksIndex shape command
      → Goes a (entering.only ((record { command = command; reply = r.Range }) ∷ [])) a
  enters-range command shape has lacks = entering.goes a ready ((record { command = command; reply = r.Range }) ∷ []) a refl refl
      (after-shape a ready.turn (source command) (range-source command shape lacks) has.some ((record { command = command; reply = r.Range }) ∷ []) a
      (λ p i log at is. range p i log a at ready.turn command shape lacks (loaded-shape p i log a at ready.turn (source command) shape has is)))

-- the entry of a load: the reply names the object at the address that it found
abbrev pub reply_to : HeapState → ℕ → Reply
reply_to s v = if nat_eq v 0 then r.Nil else r.Ref (name_at s v)

-- the steps of a command that puts an address into register d and stores nothing
module _ (a : PlainRow) (ready : MayCall a) (b : PlainRow) (d v : ℕ) (sets : SetsRegister a b d v) where
  module _ (p : Epoch) (i : IdealHeap) (log : List LogEntry) (at : IsAt p i log a) where
    pub copied : (s : ℕ) → d < 16 → s < 16 → v ≡ address_at a s
        → Stepped p i log (number_at_turn a) ((record { command = c.Move d s; reply = r.Done }) ∷ []) a b
    copied s target from value = stepped p i log a b at ready.turn (e.Perform (c.Move d s)) ((record { command = c.Move d s; reply = r.Done }) ∷ []) (record { quiet = refl; untaken = refl; unlogged = refl; undrawn = refl; unraised = refl }) (record {
      may = (target, from);
      words = ap state_of sets.row ∙ entering.still p i log a at ready.turn _;
      updates = register-set p i log a at ready.turn b d v sets _ refl
          (ap (λ x. slice_set (local_after_log p log (number_at_turn a)).registers d x) (entering.address-is p i log a at ready.turn s ∙ sym value)) refl refl refl;
      entries = refl;
    })

    pub cleared : d < 16 → v ≡ 0 → Stepped p i log (number_at_turn a) ((record { command = c.DropReg d; reply = r.Done }) ∷ []) a b
    cleared target value = stepped p i log a b at ready.turn (e.Perform (c.DropReg d)) ((record { command = c.DropReg d; reply = r.Done }) ∷ []) (record { quiet = refl; untaken = refl; unlogged = refl; undrawn = refl; unraised = refl }) (record {
      may = target;
      words = ap state_of sets.row ∙ entering.still p i log a at ready.turn _;
      updates = register-set p i log a at ready.turn b d v sets _ refl
          (ap (λ x. slice_set (local_after_log p log (number_at_turn a)).registers d x) (sym value)) refl refl refl;
      entries = refl;
    })

    -- the reply of the machine, which has the words of the world
    reply-is : (k : ℕ) → v ≡ word_at (state_of a.row) k → reply_to (heap_after p log) (slice_index (machine_after p log).words k) ≡ reply_to (state_of a.row) v
    reply-is k value = ap (λ n. reply_to (heap_after p log) n) (entering.word-is p i log a at ready.turn k ∙ sym value)
        ∙ ap (λ (t : HeapState). reply_to t v) (sym at.heap)

    pub global-loaded : (g : ℕ) → d < 16 → g < 16 → v ≡ global_at (state_of a.row) g
        → Stepped p i log (number_at_turn a) ((record { command = c.Load d g; reply = reply_to (state_of a.row) v }) ∷ []) a b
    global-loaded g target few value = stepped p i log a b at ready.turn (e.Perform (c.Load d g)) ((record { command = c.Load d g; reply = reply_to (state_of a.row) v }) ∷ []) (record { quiet = refl; untaken = refl; unlogged = refl; undrawn = refl; unraised = refl }) (record {
      may = (target, few);
      words = ap state_of sets.row ∙ entering.still p i log a at ready.turn _;
      updates = register-set p i log a at ready.turn b d v sets _ refl
          (ap (λ x. slice_set (local_after_log p log (number_at_turn a)).registers d x) (entering.word-is p i log a at ready.turn (2 + g) ∙ sym value)) refl refl refl;
      entries = ap (λ q. entry (number_at_turn a) (c.Load d g) q ∷ []) (reply-is (2 + g) value);
    })

    pub field-loaded : (s i' : ℕ) (shape : Shape) → d < 16 → s < 16 → i' < shape.refs → Loaded p i log a at ready.turn s shape → v ≡ ref_at (state_of a.row) (address_at a s) i'
        → Stepped p i log (number_at_turn a) ((record { command = c.Get d s i'; reply = reply_to (state_of a.row) v }) ∷ []) a b
    field-loaded s i' shape target from field is value =
        let place : address_in (local_after_log p log (number_at_turn a)) s + 3 + i' ≡ address_at a s + 3 + i' = ap (λ n. n + 3 + i') (entering.address-is p i log a at ready.turn s) in
        let word : v ≡ word_at (state_of a.row) (address_in (local_after_log p log (number_at_turn a)) s + 3 + i') = value ∙ ap (λ n. word_at (state_of a.row) n) (sym place) in
        stepped p i log a b at ready.turn (e.Perform (c.Get d s i')) ((record { command = c.Get d s i'; reply = reply_to (state_of a.row) v }) ∷ []) (record { quiet = refl; untaken = refl; unlogged = refl; undrawn = refl; unraised = refl }) (record {
          may = (target, ((from, is.some, is.here), subst (λ n. i' < n) is.refs field));
          words = ap state_of sets.row ∙ entering.still p i log a at ready.turn _;
          updates = register-set p i log a at ready.turn b d v sets _ refl
              (ap (λ x. slice_set (local_after_log p log (number_at_turn a)).registers d x)
              (entering.word-is p i log a at ready.turn (address_in (local_after_log p log (number_at_turn a)) s + 3 + i') ∙ sym word)) refl refl refl;
          entries = ap (λ q. entry (number_at_turn a) (c.Get d s i') q ∷ []) (reply-is (address_in (local_after_log p log (number_at_turn a)) s + 3 + i') word);
        })

  -- what such a step promises
  pub record Sets (x : Answered) : Type 0 where
    pub after : MayCall b
    pub goes : Goes a (entering.only (x ∷ [])) b

  pub set-by : (x : Answered) → ((p : Epoch) (i : IdealHeap) (log : List LogEntry) → IsAt p i log a → Stepped p i log (number_at_turn a) (x ∷ []) a b) → Sets x
  set-by x reach = record {
    after = entering.still-ready a ready (x ∷ []) b sets.turn sets.notes reach;
    goes = entering.goes a ready (x ∷ []) b sets.turn (sets-number a b d v sets) reach;
  }

  pub copies : (s : ℕ) → d < 16 → s < 16 → v ≡ address_at a s → Sets (record { command = c.Move d s; reply = r.Done })
  copies s target from value = set-by (record { command = c.Move d s; reply = r.Done }) (λ p i log at. copied p i log at s target from value)

  pub clears : d < 16 → v ≡ 0 → Sets (record { command = c.DropReg d; reply = r.Done })
  clears target value = set-by (record { command = c.DropReg d; reply = r.Done }) (λ p i log at. cleared p i log at target value)

  pub loads-global : (g : ℕ) → d < 16 → g < 16 → v ≡ global_at (state_of a.row) g → Sets (record { command = c.Load d g; reply = reply_to (state_of a.row) v })
  loads-global g target few value = set-by (record { command = c.Load d g; reply = reply_to (state_of a.row) v }) (λ p i log at. global-loaded p i log at g target few value)

  pub loads-field : (s i' : ℕ) (shape : Shape) → d < 16 → s < 16 → HasShape a s shape → i' < shape.refs → v ≡ ref_at (state_of a.row) (address_at a s) i'
      → Sets (record { command = c.Get d s i'; reply = reply_to (state_of a.row) v })
  loads-field s i' shape target from has field value = set-by (record { command = c.Get d s i'; reply = reply_to (state_of a.row) v })
      (after-shape a ready.turn s from has.some ((record { command = c.Get d s i'; reply = reply_to (state_of a.row) v }) ∷ []) b
      (λ p i log at is. field-loaded p i log at s i' shape target from field (loaded-shape p i log a at ready.turn s shape has is) value))

  -- the reply to a load names the object in the register
  pub finds : d < 16 → IsFound (HasName b) (address_at b d) (reply_to (state_of a.row) v)
  finds target = subst (λ n. IsFound (HasName b) n (reply_to (state_of a.row) v)) (sym here) found-at
    where
      here : address_at b d ≡ v
      here = sets-address a b d v sets (subst (λ n. d < n) (sym (turns.own-register-count ready.between_calls.some.epoch ready.between_calls.some.ideal ready.between_calls.some.log a ready.between_calls.some.at ready.turn)) target)

      found-at : IsFound (HasName b) v (reply_to (state_of a.row) v)
      found-at = elim (nat_eq v 0) as (λ t. MatchBool t ((if t then r.Nil else r.Ref (name_at (state_of a.row) v)) ≡ r.Nil) ((n : Name) → HasName b v n → (if t then r.Nil else r.Ref (name_at (state_of a.row) v)) ≡ r.Ref n)) [
        | true ↦ refl
        | false ↦ λ n is. ap (λ x. r.Ref x) (sym (is ∙ ap (λ x. name_at (state_of x) v) sets.row))
      ]
