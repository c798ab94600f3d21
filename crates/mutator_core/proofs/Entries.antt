-- Objects and unlog bits, against the entries of the history.
use Rattle.std.proofs.Common.{◌≡◌, ◌≢◌, refl, sym, ◌∙◌, ap, subst, ℕ, ◌+◌, ◌%◌, ◌/◌, ◌<◌, ◌≤◌, ◌⊎◌, inl, inr, arith, Bool, true, false, IsTrue, List, [], ◌∷◌, ◌++◌, nat_eq, add-zero}
use Rattle.std.specs.Prelude.{if◌then◌else◌, Some}
use Rattle.std.specs.List.{Contains, Any, AllByRecursion}
use Rattle.std.proofs.lemmas.Bool.{cases_eq, or_right}
use Rattle.std.proofs.lemmas.List.{append-nil, append_assoc}
use Rattle.heap_layout.specs.Zones.{heap_of}
use Rattle.ideal_heap.specs.declared.name.Name.{Name}
use Rattle.ideal_heap.specs.declared.command.Command.{Command}
use Rattle.ideal_heap.specs.declared.command.Command.TheVariants as c
use Rattle.ideal_heap.specs.declared.reply.Reply.{Reply}
use Rattle.ideal_heap.specs.declared.reply.Reply.TheVariants as r
use Rattle.ideal_heap.specs.Commands.{is_gc, is_meet, size_wanted}
use Rattle.ideal_heap.specs.Names.{name_of}
use Rattle.ideal_heap.specs.Ideal.{IdealHeap}
use Rattle.ideal_heap.specs.Runs as runs
use Rattle.ideal_heap.specs.Runs.{Entry, entry, is_full}
use Rattle.ideal_heap.proofs.RunLemmas as run_lemmas
use Rattle.object_model.specs.Objects.{HeapState, word_at, is_pinned, is_unlogged, IsHeld, name_at, refs_at, nums_at, size_of}
use Rattle.object_model.specs.Graphs.{numbers_of}
use Rattle.object_model.proofs.StepCases as cases
use Rattle.sessions.specs.Sessions.{IsOfPart, HasBirth, IsBirthOf, StoresInto}
use Rattle.mutator_core.specs.declared.state.Local.{Local}
use Rattle.mutator_core.specs.declared.state.Extent.{Extent}
use Rattle.mutator_core.specs.declared.state.Event.{Event}
use Rattle.mutator_core.specs.declared.state.Event.TheVariants as e
use Rattle.mutator_core.specs.declared.state.Answer.{Answer}
use Rattle.mutator_core.specs.declared.state.LogEntry.{LogEntry}
use Rattle.mutator_core.specs.Machine.{Epoch, Machine, heap_in, mutators_in, mutator_of, address_in, next, next_name, found, found_code, local_after, taken, answer_at}
use Rattle.mutator_core.specs.Guards.{MayStep, MayPerform, IsMiss}
use Rattle.mutator_core.specs.Histories.{after, IsLog, history, reply_in, entry_of, entries_of, entries_with}
use Rattle.mutator_core.specs.Epochs.{EpochMayBegin}
use Rattle.mutator_core.proofs.Lists.{contains-cases, local-cases, any-cases, any-here, any-left, any-right, any-split, all-append}
use Rattle.mutator_core.proofs.Kept.{Leaves}
use Rattle.object_model.proofs.BitWords as bits
use Rattle.mutator_core.proofs.Published as published
use Rattle.mutator_core.proofs.Quiet.{in-register}
use Rattle.mutator_core.proofs.Spots.{Spot, spot, clears_unlog}
use Rattle.mutator_core.proofs.Law.{Goes, goes, is_publication}
use Rattle.mutator_core.proofs.Moments.{Holds, one-of}

pub record Recorded (p : Epoch) (first : IdealHeap) (past : List Entry) (s : HeapState) (locals : ℕ → Local) : Type 0 where
  pub allocated : (m : ℕ) (x : Extent) → Contains (locals m).made x → Any (IsBirthOf (name_at s x.address) (refs_at s x.address) (nums_at s x.address)) past
  pub all_held : (n : Name) → HasBirth past n → (a : ℕ) × IsHeld s a × (name_at s a ≡ n)
  pub each : AllByRecursion IsOfPart past
  pub logs : (a : ℕ) → IsTrue (is_unlogged p.before a) → is_unlogged s a ≡ false → ((m : ℕ) × ((locals m).pending ≡ a)) ⊎ StoresInto first past (name_at s a)

abbrev is_put : Event → Bool
is_put (e.Perform (c.Put s i v)) = true
is_put _ = false

-- the parts of the mutator's state that an event leaves unchanged
taken-made : (p : Epoch) (l : Local) (k class n : ℕ) (free b : Bool) → ((if b then taken p l k class free else record l { blocks = (record { at = k; word = n }) ∷ l.blocks }).made ≡ l.made)
    × ((if b then taken p l k class free else record l { blocks = (record { at = k; word = n }) ∷ l.blocks }).pending ≡ l.pending)
taken-made p l k class n true true = (refl, refl)
taken-made p l k class n false true = (refl, refl)
taken-made p l k class n free false = (refl, refl)

made-same : (p : Epoch) (l : Local) (x : Event) (n : ℕ) → is_publication x ≡ false → (local_after p l x n).made ≡ l.made
made-same p l (e.Perform (c.New d refs nums)) n other = absurd (let wrong : true ≡ false = other in cc)
made-same p l (e.Perform (c.Get d s i)) n other = refl
made-same p l (e.Perform (c.Put s i v)) n other = refl
made-same p l (e.Perform (c.Read s j)) n other = refl
made-same p l (e.Perform (c.Write s j v)) n other = refl
made-same p l (e.Perform (c.Add s j v)) n other = refl
made-same p l (e.Perform (c.Swap s j was v)) n other = refl
made-same p l (e.Perform (c.Move d s)) n other = refl
made-same p l (e.Perform (c.DropReg s)) n other = refl
made-same p l (e.Perform (c.Load d g)) n other = refl
made-same p l (e.Perform (c.Share g s)) n other = refl
made-same p l (e.Perform (c.Pin s)) n other = refl
made-same p l (e.Perform (c.Unpin s)) n other = refl
made-same p l (e.Perform c.Gc) n other = refl
made-same p l (e.Perform c.Meet) n other = refl
made-same p l (e.Miss command) n other = refl
made-same p l e.Poll n other = refl
made-same p l (e.LoadName s) n other = refl
made-same p l (e.LoadShape s) n other = refl
made-same p l (e.LoadCollector s) n other = refl
made-same p l (e.LoadShapeAt a) n other = refl
made-same p l (e.LoadBlock k) n other = refl
made-same p l (e.LoadSide k) n other = refl
made-same p l (e.LoadUnlog s) n other = refl
made-same p l e.Raise n other = refl
made-same p l (e.ClearUnlog s) n other = refl
made-same p l (e.Initialize a refs nums k) n other = refl
made-same p l e.DrawTicket n other = refl
made-same p l (e.TakeBlock k class free) n other = (taken-made p l k class n free (nat_eq n (found_code p class free))).0

pending-same : (p : Epoch) (l : Local) (x : Event) (n : ℕ) → clears_unlog x ≡ false → is_put x ≡ false → (local_after p l x n).pending ≡ l.pending
pending-same p l (e.Perform (c.New d refs nums)) n clear put = refl
pending-same p l (e.Perform (c.Get d s i)) n clear put = refl
pending-same p l (e.Perform (c.Put s i v)) n clear put = absurd (let wrong : true ≡ false = put in cc)
pending-same p l (e.Perform (c.Read s j)) n clear put = refl
pending-same p l (e.Perform (c.Write s j v)) n clear put = refl
pending-same p l (e.Perform (c.Add s j v)) n clear put = refl
pending-same p l (e.Perform (c.Swap s j was v)) n clear put = refl
pending-same p l (e.Perform (c.Move d s)) n clear put = refl
pending-same p l (e.Perform (c.DropReg s)) n clear put = refl
pending-same p l (e.Perform (c.Load d g)) n clear put = refl
pending-same p l (e.Perform (c.Share g s)) n clear put = refl
pending-same p l (e.Perform (c.Pin s)) n clear put = refl
pending-same p l (e.Perform (c.Unpin s)) n clear put = refl
pending-same p l (e.Perform c.Gc) n clear put = refl
pending-same p l (e.Perform c.Meet) n clear put = refl
pending-same p l (e.Miss command) n clear put = refl
pending-same p l e.Poll n clear put = refl
pending-same p l (e.LoadName s) n clear put = refl
pending-same p l (e.LoadShape s) n clear put = refl
pending-same p l (e.LoadCollector s) n clear put = refl
pending-same p l (e.LoadShapeAt a) n clear put = refl
pending-same p l (e.LoadBlock k) n clear put = refl
pending-same p l (e.LoadSide k) n clear put = refl
pending-same p l (e.LoadUnlog s) n clear put = refl
pending-same p l e.Raise n clear put = refl
pending-same p l (e.ClearUnlog s) n clear put = absurd (let wrong : true ≡ false = clear in cc)
pending-same p l (e.Initialize a refs nums k) n clear put = refl
pending-same p l e.DrawTicket n clear put = refl
pending-same p l (e.TakeBlock k class free) n clear put = (taken-made p l k class n free (nat_eq n (found_code p class free))).1

-- a store of a history is a store of each longer history
stores-longer : (first : IdealHeap) (past more : List Entry) (n : Name) → StoresInto first past n → StoresInto first (past ++ more) n
stores-longer first past more n into = record {
  prefix = into.prefix;
  entry = into.entry;
  rest = into.rest ++ more;
  s = into.s;
  i = into.i;
  v = into.v;
  whole = ap (λ es. es ++ more) into.whole ∙ append_assoc into.prefix (into.entry ∷ into.rest) more;
  command = into.command;
  stored = into.stored;
  into = into.into;
}

-- a command that an epoch may have
IsPartCommand : Command → Type 0
IsPartCommand command = (is_gc command ≡ false) × (is_meet command ≡ false) × (size_wanted command ≤ 2048)

module _ (p : Epoch) (ready : EpochMayBegin p) (h : Machine) (first : IdealHeap) (past : List Entry) (set : ℕ → Type 0) (now : Holds p h (runs.heap_after_run first past) set) (m : ℕ) (known : Contains (numbers_of p.mutators) m)
    (recorded : Recorded p first past (heap_in p h) h.locals) where
  abbrev s : HeapState
  s = heap_in p h

  abbrev l : Local
  l = h.locals m

  abbrev ideal : IdealHeap
  ideal = runs.heap_after_run first past

  abbrev entries : Event → List Entry
  entries x = entries_with m (entry_of x) (reply_in (heap_in p h) (answer_at p h m x))

  -- an object whose unlog bit was set is held
  unlogged-held : (a : ℕ) → IsTrue (is_unlogged p.before a) → IsHeld s a
  unlogged-held a was = (now.epoch.stays a (ready.lawful.but_lines.order.objects.marks a (or_right (is_pinned p.before a) (is_unlogged p.before a) was))).0

  name-left : (w : List ℕ) → Leaves s w → (a : ℕ) → IsHeld s a → name_at (record s { words = w }) a ≡ name_at s a
  name-left w leaves a holds = ap name_of (ap (word_at (record s { words = w })) (sym (add-zero a)) ∙ leaves.headers a 0 holds (omega arith) ∙ ap (word_at s) (add-zero a))

  -- the entry of an object's allocation is still the one of a held object
  birth-left : (w : List ℕ) → Leaves s w → (a : ℕ) → IsHeld s a → (es : List Entry) → Any (IsBirthOf (name_at s a) (refs_at s a) (nums_at s a)) es
      → Any (IsBirthOf (name_at (record s { words = w }) a) (refs_at (record s { words = w }) a) (nums_at (record s { words = w }) a)) es
  birth-left w leaves a holds es any =
      let shape : word_at (record s { words = w }) (a + 1) ≡ word_at s (a + 1) = leaves.headers a 1 holds (omega arith) in
      subst (λ (n : Name). Any (IsBirthOf n (refs_at (record s { words = w }) a) (nums_at (record s { words = w }) a)) es) (sym (name-left w leaves a holds))
      (subst (λ (v : ℕ). Any (IsBirthOf (name_at s a) (v % 65536) (v / 65536)) es) (sym shape) any)

  -- the consequences of an event that neither allocates nor clears an unlog bit
  pub general : (x : Event) (step : Goes p h (runs.heap_after_run first past) m x) → AllByRecursion IsOfPart (entries x)
      → ((k : ℕ) (y : Extent) → Contains ((next p h m x).locals k).made y
      → Any (IsBirthOf (name_at (heap_in p (next p h m x)) y.address) (refs_at (heap_in p (next p h m x)) y.address) (nums_at (heap_in p (next p h m x)) y.address)) (past ++ entries x))
      → ((n : Name) → HasBirth (entries x) n → (a : ℕ) × IsHeld (heap_in p (next p h m x)) a × (name_at (heap_in p (next p h m x)) a ≡ n))
      → ((a : ℕ) → IsTrue (is_unlogged p.before a) → is_unlogged (heap_in p (next p h m x)) a ≡ false
      → ((k : ℕ) × (((next p h m x).locals k).pending ≡ a)) ⊎ StoresInto first (past ++ entries x) (name_at (heap_in p (next p h m x)) a))
      → Recorded p first (past ++ entries x) (heap_in p (next p h m x)) (next p h m x).locals
  general x step part allocated all logs = record {
    allocated = allocated;
    all_held = λ n any. elim (any-split (λ y. y.reply ≡ r.New n) past (entries x) any) as (λ _. (a : ℕ) × IsHeld (heap_in p (next p h m x)) a × (name_at (heap_in p (next p h m x)) a ≡ n)) [
      | inl before ↦ (let is = recorded.all_held n before in (is.0, step.leaves.held is.0 is.1, name-left (next p h m x).words step.leaves is.0 is.1 ∙ is.2))
      | inr new ↦ all n new
    ];
    each = all-append IsOfPart past (entries x) recorded.each part;
    logs = logs;
  }

  allocated-before : (x : Event) (step : Goes p h (runs.heap_after_run first past) m x) → is_publication x ≡ false → (k : ℕ) (y : Extent) → Contains ((next p h m x).locals k).made y
      → Any (IsBirthOf (name_at (heap_in p (next p h m x)) y.address) (refs_at (heap_in p (next p h m x)) y.address) (nums_at (heap_in p (next p h m x)) y.address)) (past ++ entries x)
  allocated-before x step other k y there =
      let before : Contains (h.locals k).made y = local-cases (λ q z. Contains z.made y → Contains (h.locals q).made y) h.locals m (local_after p l x (found p h m x)) k
      (λ e. subst (λ (ys : List Extent). Contains ys y → Contains l.made y) (sym (made-same p l x (found p h m x) other)) (λ z. z)) (λ differ z. z) there in
      any-left _ past (entries x) (birth-left (next p h m x).words step.leaves y.address ((now.epoch.knows k).objects y before).held past (recorded.allocated k y before))

  stored-before : (x : Event) (step : Goes p h (runs.heap_after_run first past) m x) (a : ℕ) → IsTrue (is_unlogged p.before a) → StoresInto first past (name_at s a) → StoresInto first (past ++ entries x) (name_at (heap_in p (next p h m x)) a)
  stored-before x step a was into = subst (StoresInto first (past ++ entries x)) (sym (name-left (next p h m x).words step.leaves a (unlogged-held a was))) (stores-longer first past (entries x) (name_at s a) into)

  logs-before : (x : Event) (step : Goes p h (runs.heap_after_run first past) m x) → Spot s (next p h m x).words x → clears_unlog x ≡ false → is_put x ≡ false
      → (a : ℕ) → IsTrue (is_unlogged p.before a) → is_unlogged (heap_in p (next p h m x)) a ≡ false
      → ((k : ℕ) × (((next p h m x).locals k).pending ≡ a)) ⊎ StoresInto first (past ++ entries x) (name_at (heap_in p (next p h m x)) a)
  logs-before x step at clear put a was clear_now = elim (recorded.logs a was (sym (at.unlogs clear a) ∙ clear_now)) as
      (λ _. ((k : ℕ) × (((next p h m x).locals k).pending ≡ a)) ⊎ StoresInto first (past ++ entries x) (name_at (heap_in p (next p h m x)) a)) [
        | inl pending ↦ inl (
          pending.0,
          local-cases (λ q z. (h.locals q).pending ≡ a → z.pending ≡ a) h.locals m (local_after p l x (found p h m x)) pending.0
              (λ e is. pending-same p l x (found p h m x) clear put ∙ is) (λ differ is. is) pending.1,
        )
        | inr into ↦ inr (stored-before x step a was into)
      ]

  -- an event that neither publishes an object, nor clears an unlog bit, nor stores a field
  plain : (x : Event) (step : Goes p h (runs.heap_after_run first past) m x) → Spot s (next p h m x).words x → is_publication x ≡ false → clears_unlog x ≡ false → is_put x ≡ false → AllByRecursion IsOfPart (entries x)
      → Recorded p first (past ++ entries x) (heap_in p (next p h m x)) (next p h m x).locals
  plain x step at other clear put part = general x step part (allocated-before x step other) (λ n any. absurd (step.no_birth other n any)) (logs-before x step at clear put)

  part-of : (x : Event) (command : Command) → IsPartCommand command → (reply : Reply) → is_full reply ≡ false → AllByRecursion IsOfPart (entry m command reply ∷ [])
  unfolding IsPartCommand
  part-of x command ok reply full = (record { gc = ok.0; meet = ok.1; full = full; small = ok.2 }, tt)

  may-stand : (command : Command) → MayPerform p l command → IsPartCommand command
  unfolding IsPartCommand
  may-stand (c.New d refs nums) may = (refl, refl, (let small : size_of refs nums ≤ 2048 = published.size-small p ready h ideal set now m known d refs nums may.0 may.1 may.2 in omega arith))
  may-stand (c.Get d s i) may = (refl, refl, omega arith)
  may-stand (c.Put s i v) may = (refl, refl, omega arith)
  may-stand (c.Read s j) may = (refl, refl, omega arith)
  may-stand (c.Write s j v) may = (refl, refl, omega arith)
  may-stand (c.Add s j v) may = (refl, refl, omega arith)
  may-stand (c.Swap s j was v) may = (refl, refl, omega arith)
  may-stand (c.Move d s) may = (refl, refl, omega arith)
  may-stand (c.DropReg s) may = (refl, refl, omega arith)
  may-stand (c.Load d g) may = (refl, refl, omega arith)
  may-stand (c.Share g s) may = (refl, refl, omega arith)
  may-stand (c.Pin s) may = (refl, refl, omega arith)
  may-stand (c.Unpin s) may = (refl, refl, omega arith)
  may-stand c.Gc may = absurd may
  may-stand c.Meet may = absurd may

  may-miss : (command : Command) → IsMiss l command → IsPartCommand command
  unfolding IsPartCommand
  may-miss (c.Get d s i) may = (refl, refl, omega arith)
  may-miss (c.Put s i v) may = (refl, refl, omega arith)
  may-miss (c.Read s j) may = (refl, refl, omega arith)
  may-miss (c.Write s j v) may = (refl, refl, omega arith)
  may-miss (c.Add s j v) may = (refl, refl, omega arith)
  may-miss (c.Swap s j was v) may = (refl, refl, omega arith)
  may-miss (c.Pin s) may = (refl, refl, omega arith)
  may-miss (c.Unpin s) may = (refl, refl, omega arith)
  may-miss (c.New d refs nums) may = absurd may
  may-miss (c.Move d s) may = absurd may
  may-miss (c.DropReg s) may = absurd may
  may-miss (c.Load d g) may = absurd may
  may-miss (c.Share g s) may = absurd may
  may-miss c.Gc may = absurd may
  may-miss c.Meet may = absurd may

  -- an entry of a command that neither allocates nor stores a field
  commanded : (command : Command) → is_publication (e.Perform command) ≡ false → is_put (e.Perform command) ≡ false → (may : MayPerform p l command)
      → Recorded p first (past ++ entries (e.Perform command)) (heap_in p (next p h m (e.Perform command))) (next p h m (e.Perform command)).locals
  commanded command other put may =
      let step = goes p ready h ideal set now m known (e.Perform command) may in
      plain (e.Perform command) step (spot p ready h ideal set now m known (e.Perform command) may) other refl put
      (part-of (e.Perform command) command (may-stand command may) (reply_in s (answer_at p h m (e.Perform command))) step.no_full.0)

  -- the store of a field
  put-recorded : (q k v : ℕ) → (may : MayPerform p l (c.Put q k v)) → Recorded p first (past ++ entries (e.Perform (c.Put q k v))) (heap_in p (next p h m (e.Perform (c.Put q k v)))) (next p h m (e.Perform (c.Put q k v))).locals
  put-recorded q k v may = general x step (part-of x (c.Put q k v) (may-stand (c.Put q k v) may) r.Done refl) (allocated-before x step refl) (λ n any. absurd (step.no_birth refl n any)) logs
    where
      x : Event
      x = e.Perform (c.Put q k v)

      step : Goes p h (runs.heap_after_run first past) m (e.Perform (c.Put q k v))
      step = goes p ready h ideal set now m known (e.Perform (c.Put q k v)) may

      into : (a : ℕ) → IsTrue (is_unlogged p.before a) → a ≡ address_in l q → StoresInto first (past ++ entries (e.Perform (c.Put q k v))) (name_at (heap_in p (next p h m (e.Perform (c.Put q k v)))) a)
      into a was here = record {
        prefix = past;
        entry = entry m (c.Put q k v) r.Done;
        rest = [];
        s = q;
        i = k;
        v = v;
        whole = refl;
        command = refl;
        stored = refl;
        into =
            let some : 0 < address_in l q = may.1.0.1 in
            ap (λ j. ideal.registers j q) (sym (now.epoch.numbers m))
            ∙ cases.register-named s (mutators_in p h) ideal set now.models (mutator_of l) (one-of p h ideal set now m known) q may.1.0.0 (λ e. omega arith)
            ∙ ap (λ b. Some (name_at s b)) (sym here)
            ∙ ap (λ n. Some n) (sym (name-left (next p h m (e.Perform (c.Put q k v))).words step.leaves a (unlogged-held a was)));
      }

      logs : (a : ℕ) → IsTrue (is_unlogged p.before a) → is_unlogged (heap_in p (next p h m (e.Perform (c.Put q k v)))) a ≡ false
          → ((j : ℕ) × (((next p h m (e.Perform (c.Put q k v))).locals j).pending ≡ a)) ⊎ StoresInto first (past ++ entries (e.Perform (c.Put q k v))) (name_at (heap_in p (next p h m (e.Perform (c.Put q k v)))) a)
      logs a was clear_now = elim (recorded.logs a was (sym ((spot p ready h ideal set now m known (e.Perform (c.Put q k v)) may).unlogs refl a) ∙ clear_now)) as
          (λ _. ((j : ℕ) × (((next p h m (e.Perform (c.Put q k v))).locals j).pending ≡ a)) ⊎ StoresInto first (past ++ entries (e.Perform (c.Put q k v))) (name_at (heap_in p (next p h m (e.Perform (c.Put q k v)))) a)) [
            | inr stored ↦ inr (stored-before (e.Perform (c.Put q k v)) step a was stored)
            | inl pending ↦ elim (cases_eq pending.0 m) as
                (λ _. ((j : ℕ) × (((next p h m (e.Perform (c.Put q k v))).locals j).pending ≡ a)) ⊎ StoresInto first (past ++ entries (e.Perform (c.Put q k v))) (name_at (heap_in p (next p h m (e.Perform (c.Put q k v)))) a)) [
                  | inl same ↦ (let mine : l.pending ≡ a = subst (λ (j : ℕ). (h.locals j).pending ≡ a) same pending.1 in
                      elim may.3 as (λ _. ((j : ℕ) × (((next p h m (e.Perform (c.Put q k v))).locals j).pending ≡ a)) ⊎ StoresInto first (past ++ entries (e.Perform (c.Put q k v))) (name_at (heap_in p (next p h m (e.Perform (c.Put q k v)))) a)) [
                        | inl none ↦ absurd (let from : heap_of p.before.blocks ≤ a = (unlogged-held a was).address.from in let zero : a ≡ 0 = sym mine ∙ none in omega arith)
                        | inr here ↦ inr (into a was (sym mine ∙ here))
                      ])
                  | inr differ ↦ inl (pending.0, local-cases (λ j z. (h.locals j).pending ≡ a → j ≢ m → z.pending ≡ a) h.locals m (record l { pending = 0 }) pending.0 (λ e is other. absurd (other refl)) (λ other is wrong. is) pending.1 differ)
                ]
          ]

  -- an unlog bit is cleared
  clear-recorded : (q : ℕ) → (may : MayStep p l (e.ClearUnlog q)) → Recorded p first (past ++ entries (e.ClearUnlog q)) (heap_in p (next p h m (e.ClearUnlog q))) (next p h m (e.ClearUnlog q)).locals
  clear-recorded q may = general (e.ClearUnlog q) step tt (allocated-before (e.ClearUnlog q) step refl) (λ n any. absurd (step.no_birth refl n any)) logs
    where
      step : Goes p h (runs.heap_after_run first past) m (e.ClearUnlog q)
      step = goes p ready h ideal set now m known (e.ClearUnlog q) may

      logs : (a : ℕ) → IsTrue (is_unlogged p.before a) → is_unlogged (heap_in p (next p h m (e.ClearUnlog q))) a ≡ false
          → ((j : ℕ) × (((next p h m (e.ClearUnlog q)).locals j).pending ≡ a)) ⊎ StoresInto first (past ++ entries (e.ClearUnlog q)) (name_at (heap_in p (next p h m (e.ClearUnlog q))) a)
      logs a was clear_now = elim (cases_eq a (address_in l q)) as
          (λ _. ((j : ℕ) × (((next p h m (e.ClearUnlog q)).locals j).pending ≡ a)) ⊎ StoresInto first (past ++ entries (e.ClearUnlog q)) (name_at (heap_in p (next p h m (e.ClearUnlog q))) a)) [
            | inl here ↦ inl (m, local-cases (λ j z. j ≡ m → z.pending ≡ a) h.locals m (record l { logged = address_in l q; pending = address_in l q }) m (λ e own. sym here) (λ differ own. absurd (differ own)) refl)
            | inr other ↦ elim (recorded.logs a was (sym ((bits.clears-unlog s now.models.order (address_in l q) (in-register p ready h ideal set now m known q may.0).address).others a other) ∙ clear_now)) as
                (λ _. ((j : ℕ) × (((next p h m (e.ClearUnlog q)).locals j).pending ≡ a)) ⊎ StoresInto first (past ++ entries (e.ClearUnlog q)) (name_at (heap_in p (next p h m (e.ClearUnlog q))) a)) [
                  | inr stored ↦ inr (stored-before (e.ClearUnlog q) step a was stored)
                  | inl pending ↦ inl (
                    pending.0,
                    local-cases (λ j z. (h.locals j).pending ≡ a → z.pending ≡ a) h.locals m (record l { logged = address_in l q; pending = address_in l q }) pending.0
                        (λ e mine. absurd (let from : heap_of p.before.blocks ≤ a = (unlogged-held a was).address.from in let none : l.pending ≡ 0 = may.1 in let is : l.pending ≡ a = mine in omega arith))
                        (λ differ is. is) pending.1,
                  )
                ]
          ]

  -- an allocation
  new-recorded : (d refs nums : ℕ) → (may : MayPerform p l (c.New d refs nums)) → Recorded p first (past ++ entries (e.Perform (c.New d refs nums))) (heap_in p (next p h m (e.Perform (c.New d refs nums)))) (next p h m (e.Perform (c.New d refs nums))).locals
  new-recorded d refs nums may = general (e.Perform (c.New d refs nums)) step (part-of (e.Perform (c.New d refs nums)) (c.New d refs nums) (may-stand (c.New d refs nums) may) (r.New (next_name l)) refl) allocated all
      (logs-before (e.Perform (c.New d refs nums)) step (spot p ready h ideal set now m known (e.Perform (c.New d refs nums)) may) refl refl)
    where
      step : Goes p h (runs.heap_after_run first past) m (e.Perform (c.New d refs nums))
      step = goes p ready h ideal set now m known (e.Perform (c.New d refs nums)) may

      facts : IsHeld (heap_in p (next p h m (e.Perform (c.New d refs nums)))) l.unpublished.address × (name_at (heap_in p (next p h m (e.Perform (c.New d refs nums)))) l.unpublished.address ≡ next_name l)
          × (refs_at (heap_in p (next p h m (e.Perform (c.New d refs nums)))) l.unpublished.address ≡ refs) × (nums_at (heap_in p (next p h m (e.Perform (c.New d refs nums)))) l.unpublished.address ≡ nums)
      facts = published.newborn p ready h ideal set now m known d refs nums may.0 may.1 may.2

      this : Any (IsBirthOf (name_at (heap_in p (next p h m (e.Perform (c.New d refs nums)))) l.unpublished.address) (refs_at (heap_in p (next p h m (e.Perform (c.New d refs nums)))) l.unpublished.address)
          (nums_at (heap_in p (next p h m (e.Perform (c.New d refs nums)))) l.unpublished.address)) (past ++ entries (e.Perform (c.New d refs nums)))
      this = any-right (IsBirthOf (name_at (heap_in p (next p h m (e.Perform (c.New d refs nums)))) l.unpublished.address) (refs_at (heap_in p (next p h m (e.Perform (c.New d refs nums)))) l.unpublished.address) (nums_at (heap_in p (next p h m (e.Perform (c.New d refs nums)))) l.unpublished.address)) past (entries (e.Perform (c.New d refs nums)))
          (any-here (IsBirthOf (name_at (heap_in p (next p h m (e.Perform (c.New d refs nums)))) l.unpublished.address) (refs_at (heap_in p (next p h m (e.Perform (c.New d refs nums)))) l.unpublished.address) (nums_at (heap_in p (next p h m (e.Perform (c.New d refs nums)))) l.unpublished.address)) (entry m (c.New d refs nums) (r.New (next_name l))) [] (record {
            register = d;
            command = ap (λ x. c.New d x nums) (sym facts.2) ∙ ap (λ x. c.New d (refs_at (heap_in p (next p h m (e.Perform (c.New d refs nums)))) l.unpublished.address) x) (sym facts.3);
            reply = ap (λ n. r.New n) (sym facts.1);
          }))

      allocated : (k : ℕ) (y : Extent) → Contains ((next p h m (e.Perform (c.New d refs nums))).locals k).made y
          → Any (IsBirthOf (name_at (heap_in p (next p h m (e.Perform (c.New d refs nums)))) y.address) (refs_at (heap_in p (next p h m (e.Perform (c.New d refs nums)))) y.address)
          (nums_at (heap_in p (next p h m (e.Perform (c.New d refs nums)))) y.address)) (past ++ entries (e.Perform (c.New d refs nums)))
      allocated k y there = elim (before-or-this k y there) as (λ _. Any (IsBirthOf (name_at (heap_in p (next p h m (e.Perform (c.New d refs nums)))) y.address) (refs_at (heap_in p (next p h m (e.Perform (c.New d refs nums)))) y.address)
          (nums_at (heap_in p (next p h m (e.Perform (c.New d refs nums)))) y.address)) (past ++ entries (e.Perform (c.New d refs nums)))) [
            | inl own ↦ subst (λ (a : ℕ). Any (IsBirthOf (name_at (heap_in p (next p h m (e.Perform (c.New d refs nums)))) a) (refs_at (heap_in p (next p h m (e.Perform (c.New d refs nums)))) a)
                (nums_at (heap_in p (next p h m (e.Perform (c.New d refs nums)))) a)) (past ++ entries (e.Perform (c.New d refs nums)))) (sym own) this
            | inr old ↦ any-left (IsBirthOf (name_at (heap_in p (next p h m (e.Perform (c.New d refs nums)))) y.address) (refs_at (heap_in p (next p h m (e.Perform (c.New d refs nums)))) y.address)
                (nums_at (heap_in p (next p h m (e.Perform (c.New d refs nums)))) y.address)) past (entries (e.Perform (c.New d refs nums))) (birth-left (next p h m (e.Perform (c.New d refs nums))).words step.leaves y.address ((now.epoch.knows k).objects y old).held past (recorded.allocated k y old))
          ]
        where
          before-or-this : (k : ℕ) (y : Extent) → Contains ((next p h m (e.Perform (c.New d refs nums))).locals k).made y → (y.address ≡ l.unpublished.address) ⊎ Contains (h.locals k).made y
          before-or-this k y known = local-cases (λ q z. Contains z.made y → (y.address ≡ l.unpublished.address) ⊎ Contains (h.locals q).made y) h.locals m (local_after p l (e.Perform (c.New d refs nums)) 0) k
              (λ e is. elim (contains-cases (record { address = l.unpublished.address; size = size_of refs nums }) l.made y is) as (λ _. (y.address ≡ l.unpublished.address) ⊎ Contains l.made y) [
                | inl own ↦ inl (ap (λ x. x.address) own)
                | inr old ↦ inr old
              ]) (λ differ is. inr is) known

      name-of : Reply → Name
      name-of (r.New n) = n
      name-of _ = next_name l

      all : (n : Name) → HasBirth (entries (e.Perform (c.New d refs nums))) n → (a : ℕ) × IsHeld (heap_in p (next p h m (e.Perform (c.New d refs nums)))) a × (name_at (heap_in p (next p h m (e.Perform (c.New d refs nums)))) a ≡ n)
      all n any = elim (any-cases (entry m (c.New d refs nums) (r.New (next_name l))) [] any) as (λ _. (a : ℕ) × IsHeld (heap_in p (next p h m (e.Perform (c.New d refs nums)))) a × (name_at (heap_in p (next p h m (e.Perform (c.New d refs nums)))) a ≡ n)) [
        | inl here ↦ (l.unpublished.address, facts.0, facts.1 ∙ ap name-of here)
        | inr more ↦ absurd (let within : more.0 < 0 = more.2 in omega arith)
      ]

  performed : (command : Command) → (may : MayPerform p l command) → Recorded p first (past ++ entries (e.Perform command)) (heap_in p (next p h m (e.Perform command))) (next p h m (e.Perform command)).locals
  performed (c.New d refs nums) may = new-recorded d refs nums may
  performed (c.Put q k v) may = put-recorded q k v may
  performed (c.Get d q k) may = commanded (c.Get d q k) refl refl may
  performed (c.Read q j) may = commanded (c.Read q j) refl refl may
  performed (c.Write q j v) may = commanded (c.Write q j v) refl refl may
  performed (c.Add q j v) may = commanded (c.Add q j v) refl refl may
  performed (c.Swap q j was v) may = commanded (c.Swap q j was v) refl refl may
  performed (c.Move d q) may = commanded (c.Move d q) refl refl may
  performed (c.DropReg q) may = commanded (c.DropReg q) refl refl may
  performed (c.Load d g) may = commanded (c.Load d g) refl refl may
  performed (c.Share g q) may = commanded (c.Share g q) refl refl may
  performed (c.Pin q) may = commanded (c.Pin q) refl refl may
  performed (c.Unpin q) may = commanded (c.Unpin q) refl refl may
  performed c.Gc may = absurd may
  performed c.Meet may = absurd may

  silent : (x : Event) → is_publication x ≡ false → clears_unlog x ≡ false → is_put x ≡ false → AllByRecursion IsOfPart (entries x) → (may : MayStep p l x)
      → Recorded p first (past ++ entries x) (heap_in p (next p h m x)) (next p h m x).locals
  silent x other clear put none may = plain x (goes p ready h ideal set now m known x may) (spot p ready h ideal set now m known x may) other clear put none

  pub recorded-next : (x : Event) → (may : MayStep p l x) → Recorded p first (past ++ entries_with m (entry_of x) (reply_in (heap_in p h) (answer_at p h m x))) (heap_in p (next p h m x)) (next p h m x).locals
  recorded-next (e.Perform command) may = performed command may
  recorded-next (e.ClearUnlog q) may = clear-recorded q may
  recorded-next (e.Miss command) may = silent (e.Miss command) refl refl refl
      (part-of (e.Miss command) command (may-miss command may) (reply_in s (answer_at p h m (e.Miss command))) (goes p ready h ideal set now m known (e.Miss command) may).no_full.0) may
  recorded-next e.Poll may = silent e.Poll refl refl refl tt may
  recorded-next (e.LoadName q) may = silent (e.LoadName q) refl refl refl tt may
  recorded-next (e.LoadShape q) may = silent (e.LoadShape q) refl refl refl tt may
  recorded-next (e.LoadCollector q) may = silent (e.LoadCollector q) refl refl refl tt may
  recorded-next (e.LoadShapeAt a) may = silent (e.LoadShapeAt a) refl refl refl tt may
  recorded-next (e.LoadBlock k) may = silent (e.LoadBlock k) refl refl refl tt may
  recorded-next (e.LoadSide k) may = silent (e.LoadSide k) refl refl refl tt may
  recorded-next (e.LoadUnlog q) may = silent (e.LoadUnlog q) refl refl refl tt may
  recorded-next e.Raise may = silent e.Raise refl refl refl tt may
  recorded-next (e.Initialize a refs nums k) may = silent (e.Initialize a refs nums k) refl refl refl tt may
  recorded-next e.DrawTicket may = silent e.DrawTicket refl refl refl tt may
  recorded-next (e.TakeBlock k class free) may = silent (e.TakeBlock k class free) refl refl refl tt may

-- the same after each step of a log
pub recorded-ends : (p : Epoch) → EpochMayBegin p → (log : List LogEntry) (h : Machine) (first : IdealHeap) (past : List Entry) (set : ℕ → Type 0) → Holds p h (runs.heap_after_run first past) set
    → Recorded p first past (heap_in p h) h.locals → IsLog p h log → Recorded p first (past ++ history p h log) (heap_in p (after p h log)) (after p h log).locals
recorded-ends p ready [] h first past set now recorded is = subst (λ (es : List Entry). Recorded p first es (heap_in p h) h.locals) (sym (append-nil past)) recorded
recorded-ends p ready (x ∷ xs) h first past set now recorded is =
    let step : Goes p h (runs.heap_after_run first past) x.mutator x.event = goes p ready h (runs.heap_after_run first past) set now x.mutator is.0 x.event is.1 in
    let es : List Entry = entries_with x.mutator (entry_of x.event) (reply_in (heap_in p h) (answer_at p h x.mutator x.event)) in
    let same : es ≡ entries_of (heap_in p h) x = ap (λ (y : Answer). entries_with x.mutator (entry_of x.event) (reply_in (heap_in p h) y)) (sym is.2) in
    let moment : Holds p (next p h x.mutator x.event) (runs.heap_after_run first (past ++ es)) step.set =
    subst (λ (k : IdealHeap). Holds p (next p h x.mutator x.event) k step.set) (sym (run_lemmas.after-append first past es)) step.moment in
    let rest : Recorded p first ((past ++ es) ++ history p (next p h x.mutator x.event) xs) (heap_in p (after p h (x ∷ xs))) (after p h (x ∷ xs)).locals =
    recorded-ends p ready xs (next p h x.mutator x.event) first (past ++ es) step.set moment (recorded-next p ready h first past set now x.mutator is.0 recorded x.event is.1) is.3 in
    subst (λ (ys : List Entry). Recorded p first ys (heap_in p (after p h (x ∷ xs))) (after p h (x ∷ xs)).locals)
    (append_assoc past es (history p (next p h x.mutator x.event) xs) ∙ ap (λ ys. past ++ (ys ++ history p (next p h x.mutator x.event) xs)) same) rest
