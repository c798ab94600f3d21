-- What loads of header words, of unlog bits and of the stop word tell, and the store after the barrier.
use Rattle.std.proofs.Common.{◌≡◌, ◌≢◌, ◌⊎◌, IsTrue, inl, inr, ⊎_elim, refl, sym, ◌∙◌, ap, subst, ℕ, ◌+◌, ◌/◌, ◌^◌, ◌<◌, arith, Bool, true, false, ◌&&◌, List, [], ◌∷◌, ◌++◌, length, nat_eq, slice_index}
use Rattle.std.specs.Prelude.{slice_set}
use Rattle.std.proofs.lemmas.List.{append-nil}
use Rattle.std.specs.Int.{bit_at}
use Rattle.std.proofs.lemmas.Bool.{cond-false}
use Rattle.forward_word.specs.CollectorWords.{is_old_word}
use Rattle.heap_layout.specs.Zones.{UnlogBits, IsAddress, block_at}
use Rattle.heap_layout.proofs.MarkLemmas.{address_bit-at_address}
use Rattle.ideal_heap.specs.declared.command.Command.TheVariants as c
use Rattle.ideal_heap.specs.declared.reply.Reply.TheVariants as r
use Rattle.ideal_heap.specs.Names.{name_of}
use Rattle.ideal_heap.specs.Runs.{entry}
use Rattle.object_model.specs.BitWords.{bit_word, bit_place}
use Rattle.object_model.specs.Objects.{word_at, name_at, IsHeld}
use Rattle.object_model.proofs.ObjectReads.{readable}
use Rattle.sessions.specs.Plans.{Rules}
use Rattle.mutator_calls.specs.Effects.{logs}
use Rattle.mutator_core.specs.declared.state.Event.TheVariants as e
use Rattle.mutator_core.specs.declared.state.LogEntry.{LogEntry}
use Rattle.mutator_core.specs.declared.state.Local.{Local}
use Rattle.mutator_core.specs.Machine.{Epoch, address_in, bit_of_object}
use Rattle.mutator_core.specs.Guards.{MayStoreReference, IsNotOld}
use Rattle.mutator_core.specs.Logs.{IsEpochLog, machine_after, heap_after, local_after_log}
use Rattle.mutator_core.proofs.EpochEnds.{log-seen}
use Rattle.mutator_core.proofs.Beginnings.{log-ends}
use Rattle.mutator_core.specs.Epochs.{KnowsItsState}
use Rattle.sessions.specs.Collecting.{is_old_under}
use Rattle.ideal_heap.specs.declared.command.Command.{Command}
use Rattle.ideal_heap.specs.declared.reply.Reply.{Reply}
use Rattle.object_model.specs.Ages.{is_old}
use Rattle.object_model.specs.Objects.{HeapState, is_unlogged}
use Rattle.mutator_rule.specs.declared.views.EpochStart.{EpochStart}
use Rattle.mutator_rule.specs.declared.views.MutatorView.{MutatorView}
use Rattle.mutator_rule.specs.Views.{epoch_with}
use Rattle.mutator_rule.specs.Logs.{MakesStep, MakesEntries, KnowsLog}
use Rattle.mutator_rule.proofs.Moments as moments
use Rattle.mutator_rule.proofs.Moments.{register-held}
use Rattle.racing_mutator.proofs.Pinned.{blocks-same}
use Rattle.mutator_rule.proofs.StepsSeen.{step-entries}
use Rattle.racing_mutator.specs.declared.racing.Racing.{Racing}
use Rattle.racing_mutator.specs.Logged.{logged_seen}
use Rattle.racing_rooms.specs.Rooms.{KeepsRooms}
use Rattle.racing_mutator.specs.RacingSeats.{view, local, holdings, logged_at, address, epoch_of_racing, heap_seen, HasFlags, IsAged, IsMarked, MayStoreUnlogged, OnlyLoads, DoesEffect, IsReady}
use Rattle.racing_mutator.specs.Barriers.{LogsWhereNeeded, NeedsNoLog}
use Rattle.racing_mutator.proofs.Logged.{step-logged, flags-grown}
use Rattle.racing_mutator.specs.SeatLaws.{entries-both, or-false}
use Rattle.racing_mutator.proofs.Looking.{held-before, header-found, unlog-found, just-before}

and-false : (b : Bool) → (b && false) ≡ false
and-false true = refl
and-false false = refl

-- the base of the row is that of the epoch's beginning
pub base-same : {P : Type 0} (rules : Rules) (a : Racing P) → IsReady rules a → a.row.now.base ≡ (epoch_of_racing rules a).before.base
base-same rules a ready = a.row.now.based ∙ ap (λ (g : EpochStart). g.base) (sym ready.own.1)

module _ {P : Type 0} (rules : Rules) (a : Racing P) (v : MutatorView) (told : KnowsLog (epoch_of_racing rules a) (view a)) (s n : ℕ) (few : s < 16) (some : address a s ≢ 0) where
  abbrev p : Epoch
  p = epoch_of_racing rules a

  held : address_in (local a) s ≡ address a s
  held = ap (λ (rs : List ℕ). slice_index rs s) a.seat.now.held

  -- the collector word
  module _ (st : MakesStep rules (view a) (e.LoadCollector s) n v) where
    collector-found : n ≡ word_at (heap_after p (view a).seen) (address a s + 2)
    collector-found = st.word
        ∙ ap (λ (l : Local). slice_index (machine_after p ((view a).seen ++ st.between)).words (address_in l s + 2)) st.before
        ∙ ap (λ x. slice_index (machine_after p ((view a).seen ++ st.between)).words (x + 2)) held
        ∙ header-found rules a v (e.LoadCollector s) n st told s 2 few some (omega arith)

    pub old-before : is_old_word p.before.base n ≡ true → IsAged rules a s
    old-before is = (few, some, ap (is_old_word p.before.base) (sym collector-found) ∙ is)

    pub young-after : is_old_word p.before.base n ≡ false → MayStoreReference (epoch_with rules v.start) v.local s
    young-after is = subst (λ (g : EpochStart). MayStoreReference (epoch_with rules g) v.local s) (sym st.start)
        (inr (inl (subst (λ (l : Local). IsNotOld p l s) (sym st.local) (refl, ap (λ w. p.rules.young && w) is ∙ and-false p.rules.young))))

  -- the word with the unlog bit
  module _ (st : MakesStep rules (view a) (e.LoadUnlog s) n v) where
    unlog-word : n ≡ word_at (heap_after p ((view a).seen ++ st.between)) (bit_word p.before.blocks UnlogBits (address a s))
    unlog-word = st.word
        ∙ ap (λ (l : Local). slice_index (machine_after p ((view a).seen ++ st.between)).words (bit_word p.before.blocks UnlogBits (address_in l s))) st.before
        ∙ ap (λ x. slice_index (machine_after p ((view a).seen ++ st.between)).words (bit_word p.before.blocks UnlogBits x)) held

    pub marked-before : bit_of_object p (local a) s n ≡ 1 → IsMarked rules a s
    marked-before is = unlog-found rules a v (e.LoadUnlog s) n st told (address a s)
        (address_bit-at_address p.before.blocks UnlogBits (heap_after p ((view a).seen ++ st.between)).words (address a s) (held-before rules a v (e.LoadUnlog s) n st told s few some).address
        ∙ ap (λ w. nat_eq (bit_at w (bit_place p.before.blocks (address a s))) 1) (sym unlog-word)
        ∙ ap (λ x. nat_eq (bit_at n (bit_place p.before.blocks x)) 1) (sym held)
        ∙ ap (λ w. nat_eq w 1) is)

    pub logged-after : nat_eq (bit_of_object p (local a) s n) 1 ≡ false → MayStoreReference (epoch_with rules v.start) v.local s
    logged-after is = subst (λ (g : EpochStart). MayStoreReference (epoch_with rules g) v.local s) (sym st.start)
        (inr (inr (subst (λ (l : Local). l.logged ≡ address_in l s) (sym st.local) (cond-false (nat_eq (bit_of_object p (local a) s n) 1) (local a).logged (address_in (local a) s) is))))

  -- the name word
  module _ (st : MakesStep rules (view a) (e.LoadName s) n v) where
    name-found : n ≡ word_at (heap_after p (view a).seen) (address a s)
    name-found = st.word
        ∙ ap (λ (l : Local). slice_index (machine_after p ((view a).seen ++ st.between)).words (address_in l s)) st.before
        ∙ ap (λ x. slice_index (machine_after p ((view a).seen ++ st.between)).words x) (held ∙ sym (add-zero' (address a s)))
        ∙ header-found rules a v (e.LoadName s) n st told s 0 few some (omega arith)
        ∙ ap (λ x. word_at (heap_after p (view a).seen) x) (add-zero' (address a s))
      where
        add-zero' : (x : ℕ) → x + 0 ≡ x
        add-zero' x = omega arith

    pub name-read : name_of n ≡ name_at (heap_seen rules a) (address a s)
    name-read = ap name_of name-found

    pub birth-fits : n / 32 < 2 ^ 32
    birth-fits = subst (λ w. w / 32 < 2 ^ 32) (sym name-found)
        (readable (heap_after p (view a).seen) (moments.order p told.ideal (view a).seen told.epoch) (address a s) (held-before rules a v (e.LoadName s) n st told s few some)).object.name.fits

-- the stop word is a mutator's number, or 0
pub stop-small : {P : Type 0} (rules : Rules) (a : Racing P) (v : MutatorView) (n : ℕ) → KnowsLog (epoch_of_racing rules a) (view a) → MakesStep rules (view a) e.Poll n v → n < 2 ^ 32
stop-small rules a v n told st =
    let p : Epoch = epoch_of_racing rules a in
    let log : List LogEntry = (view a).seen ++ st.between in
    let is : IsEpochLog p st.told.ideal log = just-before rules a v e.Poll n st told in
    subst (λ w. w < 2 ^ 32) (sym st.word)
    (⊎_elim
    (λ (none : word_at (heap_after p log) 0 ≡ 0). omega (arith, none))
    (λ r. let most = (moments.state p st.told.ideal log is (word_at (heap_after p log) 0) r.0).most in
    let number = moments.number p st.told.ideal log is (word_at (heap_after p log) 0) in
    omega (arith, most, number))
    (log-seen p st.told.ideal log is).stop)

-- the object of a register lies in a block of the heap
pub register-address : {P : Type 0} (rules : Rules) (a : Racing P) (ready : IsReady rules a) (s at : ℕ) → s < 16 → address a s ≢ 0 → at ≡ address a s → IsAddress a.row.now.layout.blocks at
register-address rules a ready s at few some is =
    let told : KnowsLog (epoch_of_racing rules a) (view a) = ready.own.2 in
    let reg : address_in (local a) s ≡ address a s = ap (λ (rs : List ℕ). slice_index rs s) a.seat.now.held in
    let loc : address_in (local_after_log (epoch_of_racing rules a) (view a).seen (local a).number) s ≡ address a s = ap (λ (l : Local). address_in l s) (sym told.now) ∙ reg in
    let held : IsHeld (heap_seen rules a) (address_in (local_after_log (epoch_of_racing rules a) (view a).seen (local a).number) s) =
    register-held (epoch_of_racing rules a) told.ideal (view a).seen told.epoch (local a).number s told.known few (λ nil. some (sym loc ∙ nil)) in
    subst (λ b. IsAddress b at) (sym (blocks-same rules a ready)) (subst (IsAddress (epoch_of_racing rules a).before.blocks) (loc ∙ sym is) held.address)

-- there is a flag for each block
pub has-block : {P : Type 0} (rules : Rules) (a : Racing P) (ready : IsReady rules a) (block : ℕ) → block < a.row.now.layout.blocks → HasFlags rules a.seat.now → block < length a.seat.now.notes.flags.items
has-block rules a ready block within has = subst (λ n. block < n) (blocks-same rules a ready ∙ sym has.len) within

-- the barrier and the store after it
pub log-store-does : {P : Type 0} (rules : Rules) (a b : Racing P) (mid last : MutatorView) (s i v n k block : ℕ) → b.seat.ghost_name ≡ a.seat.ghost_name → b.row ≡ a.row → KeepsRooms a.seat.now.notes b.seat.now.notes
    → b.seat.now.notes.flags.items ≡ slice_set a.seat.now.notes.flags.items block true → block ≡ block_at (epoch_of_racing rules a).before.blocks (address a s) → (HasFlags rules a.seat.now → block < length a.seat.now.notes.flags.items)
    → MakesStep rules (view a) (e.ClearUnlog s) n mid → MakesStep rules mid (e.Perform (c.Put s i v)) k last → view b ≡ last → DoesEffect rules a (logs (address a s ∷ []) (c.Put s i v) r.Done) b
log-store-does rules a b mid last s i v n k block seat row rooms flags here few one stored same = record {
  makes = record {
    seat = seat;
    row = row;
    goes = subst (λ m. MakesEntries rules (view a) (entry m (c.Put s i v) r.Done ∷ []) (view b)) one.number (entries-both rules (view a) mid (view b) [] _ (step-entries rules (view a) mid (e.ClearUnlog s) n one) (step-entries rules mid (view b) (e.Perform (c.Put s i v)) k two));
    stop = λ some. ap (λ (l : Local). l.stop) two.local ∙ ap (λ (l : Local). l.stop) one.local;
    flags = λ has. flags-grown rules a.seat.now b.seat.now (address a s) block (two.start ∙ one.start) flags grown here (few has) has;
    told = λ is. subst (λ (h : EpochStart). KnowsLog (epoch_with rules h) (view b)) (sym two.start) two.told;
  };
  logged = grown;
  raised = ap (λ (l : Local). l.raised) two.local ∙ ap (λ (l : Local). l.raised) one.local ∙ sym (or-false (local a).raised);
  kept = ap holdings two.local ∙ ap holdings one.local;
  rooms = rooms;
}
  where
    two : MakesStep rules mid (e.Perform (c.Put s i v)) k (view b)
    two = subst (MakesStep rules mid (e.Perform (c.Put s i v)) k) (sym same) stored

    grown : logged_at rules b.seat.now ≡ logged_at rules a.seat.now ++ address a s ∷ []
    grown = step-logged rules mid (view b) (e.Perform (c.Put s i v)) k two ∙ append-nil (logged_seen rules mid) ∙ step-logged rules (view a) mid (e.ClearUnlog s) n one
        ∙ ap (λ (rs : List ℕ). logged_at rules a.seat.now ++ slice_index rs s ∷ []) a.seat.now.held

-- where a reference may be stored without a log, the object is not old, or its unlog bit is clear
pub not-old-or-clear : {P : Type 0} (rules : Rules) (a : Racing P) (s : ℕ) → KnowsLog (epoch_of_racing rules a) (view a) → address a s ≢ 0 → MayStoreUnlogged rules a s
    → (is_old_under rules (heap_seen rules a) (address a s) ≡ false) ⊎ (is_unlogged (heap_seen rules a) (address a s) ≡ false)
not-old-or-clear rules a s told some may =
    let p : Epoch = epoch_of_racing rules a in
    let l : Local = local a in
    let h : HeapState = heap_seen rules a in
    let reg : address_in l s ≡ address a s = ap (λ (rs : List ℕ). slice_index rs s) a.seat.now.held in
    let positive : 0 < address_in l s = (let same = reg in let ne = some in omega arith) in
    let knows : KnowsItsState p h l = subst (KnowsItsState p h) (sym told.now) ((log-ends p told.ideal (view a).seen told.epoch.ready told.epoch.represents told.epoch.steps).moment.epoch.knows l.number) in
    subst (λ x. (is_old_under rules h x ≡ false) ⊎ (is_unlogged h x ≡ false)) reg
    (⊎_elim
    (λ (none : rules.young ≡ false). inl (ap (λ b. b && is_old h (address_in l s)) none))
    (λ (rest : IsNotOld p l s ⊎ (l.logged ≡ address_in l s)). ⊎_elim
    (λ (young : IsNotOld p l s).
    let word : word_at h (l.collector.at + 2) ≡ l.collector.word = (knows.age (subst (λ k. 0 < k) (sym young.0) positive)).1 in
    inl (ap (λ w. rules.young && is_old_word p.before.base w) (ap (λ k. word_at h (k + 2)) (sym young.0) ∙ word) ∙ young.1))
    (λ (same : l.logged ≡ address_in l s). inr (clear (is_unlogged h (address_in l s)) (λ set. knows.cleared (subst (λ k. 0 < k) (sym same) positive) (subst (λ k. IsTrue (is_unlogged h k)) (sym same) set))))
    rest)
    may)
  where
    clear : (b : Bool) → (IsTrue b → ⊥) → b ≡ false
    clear true refuted = absurd (refuted refl)
    clear false refuted = refl

-- what a store logs: nothing where the object was not old or its bit clear, else the object
pub put-logs : {P : Type 0} (rules : Rules) (a b : Racing P) (s : ℕ) (reply : Reply) (logged : List ℕ) (command : Command) → DoesEffect rules a (logs logged command reply) b → KnowsLog (epoch_of_racing rules a) (view a)
    → (((logged ≡ []) × (reply ≡ r.Done → (mid : Racing P) × OnlyLoads rules a mid × MayStoreUnlogged rules mid s))
    ⊎ ((logged ≡ address a s ∷ []) × (reply ≡ r.Done) × (rules.young ≡ true) × IsAged rules a s × IsMarked rules a s))
    → LogsWhereNeeded rules a.seat.now s reply b.seat.now
put-logs {P = P} rules a b s reply logged command does told cases = ⊎_elim
    (λ (none : (logged ≡ []) × (reply ≡ r.Done → (mid : Racing P) × OnlyLoads rules a mid × MayStoreUnlogged rules mid s)).
    inl (
      does.logged ∙ ap (λ ls. logged_at rules a.seat.now ++ ls) none.0 ∙ append-nil (logged_at rules a.seat.now),
      λ done some.
          let t = none.1 done in
          let loads : OnlyLoads rules a t.0 = t.1 in
          let same : address t.0 s ≡ address a s = ap (λ (rs : List ℕ). slice_index rs s) loads.registers in
          let start : (view t.0).start ≡ (view a).start = loads.makes.goes.start in (
            (view t.0).seen,
            loads.makes.goes.prefix,
            subst (λ (g : EpochStart). NeedsNoLog rules (heap_after (epoch_with rules g) (view t.0).seen) (address a s)) start
                (subst (NeedsNoLog rules (heap_seen rules t.0)) same (not-old-or-clear rules t.0 s (loads.makes.told told) (λ nil. some (sym same ∙ nil)) t.2)),
          ),
    ))
    (λ one. inr (does.logged ∙ ap (λ ls. logged_at rules a.seat.now ++ ls) one.0, one.2, one.3.2, one.4))
    cases
