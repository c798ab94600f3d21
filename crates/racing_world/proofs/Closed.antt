-- What the seats of a world say of its end.
use Rattle.std.proofs.Common.{◌≡◌, ◌⊎◌, IsTrue, inl, inr, ⊎_elim, refl, sym, ◌∙◌, ap, subst, ℕ, zero, suc, ◌+◌, ◌<◌, ◌≤◌, ◌==◌, arith, cond, List, [], ◌∷◌, ◌++◌, length, map}
use Rattle.std.specs.Prelude.{sum_by, count_by}
use Rattle.std.specs.List.{Contains, range_with_len}
use Rattle.std.proofs.Math.Path.{fun_ext}
use Rattle.std.proofs.lemmas.List.{append-nil}
use Rattle.std.proofs.lemmas.List.Sums.{sum_by-cons}
use Rattle.std.proofs.lemmas.List.Elements.{filter-append}
use mathlib.Core.Option.{some, some-injective, some-ne-none}
use lib.ListN.{get_elem?}
use Rattle.heap_layout.specs.Blocks.{is_block_code}
use Rattle.heap_layout.specs.Zones.{BlockWords, first}
use Rattle.heap_layout.specs.declared.block.Kind.{Kind}
use Rattle.heap_layout.specs.declared.block.Kind.TheVariants as kinds
use Rattle.heap_layout.proofs.BlockLemmas.{is_block_code-code_of}
use Rattle.ideal_heap.specs.Ideal.{IdealHeap}
use Rattle.ideal_heap.specs.Runs.{Entry}
use Rattle.object_model.specs.Objects.{HeapState, with_words, has_kind, HasKind, owner_at, block_word, word_at, is_unlogged}
use Rattle.object_model.specs.Lawful.{IsWellFormed}
use Rattle.object_model.specs.Graphs.{Represents, numbers_of}
use Rattle.object_model.proofs.Frames.{same-layout}
use Rattle.sessions.specs.Fitting.{free_of}
use Rattle.sessions.specs.Plans.{Rules}
use Rattle.sessions.specs.Collecting.{is_logged_under}
use Rattle.sessions.specs.Sessions.{Stopped}
use Rattle.mutator_core.specs.declared.state.Local.{Local}
use Rattle.mutator_core.specs.declared.state.LogEntry.{LogEntry}
use Rattle.mutator_core.specs.Machine.{Epoch, first_machine, mutator_of, nothing_unpublished}
use Rattle.mutator_core.specs.Epochs.{IsOwned}
use Rattle.mutator_core.specs.Guards.{allowance}
use Rattle.mutator_core.specs.Closing.{IsBetweenCalls, GivesBack}
use Rattle.mutator_core.specs.Histories.{history}
use Rattle.mutator_core.specs.Logs.{AreBetweenCalls, IsListed, IsTaken, IsUntaken, machine_after, heap_after, local_after_log, mutators_after, history_of}
use Rattle.mutator_core.specs.Tickets.{taken_by, tickets_below, smaller}
use Rattle.mutator_core.proofs.Beginnings.{Ends, log-ends}
use Rattle.racing_mutator.proofs.Budgets.{budget-few}
use Rattle.mutator_core.proofs.EpochEnds.{log-counted, log-seen, log-stopped}
use Rattle.mutator_core.proofs.GivenBack as back
use Rattle.mutator_core.proofs.Regions.{history-append, block-owner, owner-lists}
use Rattle.mutator_rule.specs.declared.seat.MutatorSeat.{MutatorSeat}
use Rattle.mutator_rule.specs.declared.views.EpochStart.{EpochStart}
use Rattle.mutator_rule.specs.declared.views.MutatorView.{MutatorView}
use Rattle.mutator_rule.specs.Views.{epoch_with, views_of, times_in, entries_by, steps_by}
use Rattle.mutator_rule.specs.Logs.{Agrees, EndsWith}
use Rattle.mutator_rule.specs.Seats.{known, local_of}
use Rattle.mutator_rule.proofs.Pushes.{entries-of-others, nothing-more, steps-append}
use Rattle.racing_world.specs.Calls.{history_at, calls_of, number_of}
use Rattle.racing_mutator.specs.Logged.{logged_in}
use Rattle.racing_mutator.specs.RacingSeats.{logged_at, holdings, UsesItsBlocks}
use Rattle.racing_mutator.proofs.Logged.{logged-append, none-logged}
use Rattle.racing_world.proofs.Cleared.{log-logged}
use Rattle.racing_world.proofs.TicketsDrawn.{drawn-below}
use Rattle.racing_world.specs.Closing.{IsSeatAt, EndsEpoch}

-- a seat is between two calls in the epoch
pub record IsIdle (p : Epoch) (seat : MutatorSeat) : Type 0 where
  pub none : (local_of seat).unpublished ≡ nothing_unpublished
  pub stored : (local_of seat).pending ≡ 0
  pub used : UsesItsBlocks p (holdings (local_of seat))

pub known-at : (seats : List MutatorSeat) (k : ℕ) (seat : MutatorSeat) → IsSeatAt seats k seat → get_elem? (map known seats) k ≡ some (known seat)
known-at [] k seat e = absurd (some-ne-none seat (sym e))
known-at (x ∷ xs) zero seat e = ap (λ (s : MutatorSeat). some (known s)) (some-injective x seat e)
known-at (x ∷ xs) (suc k) seat e = known-at xs k seat e

seat-of : (seats : List MutatorSeat) (k : ℕ) (v : MutatorView) → get_elem? (map known seats) k ≡ some v → (seat : MutatorSeat) × IsSeatAt seats k seat × (known seat ≡ v)
seat-of [] k v e = absurd (some-ne-none v (sym e))
seat-of (x ∷ xs) zero v e = (x, refl, some-injective (known x) v e)
seat-of (x ∷ xs) (suc k) v e = seat-of xs k v e

pub seat-with : (seats : List MutatorSeat) (m : ℕ) → Contains (map number_of seats) m → (k : ℕ) × (seat : MutatorSeat) × IsSeatAt seats k seat × (number_of seat ≡ m)
seat-with [] m known = absurd (let none : known.0 < 0 = known.1 in omega arith)
seat-with (x ∷ xs) m (zero, within, is) = (0, x, refl, is)
seat-with (x ∷ xs) m (suc k, within, is) = let rest = seat-with xs m (k, (let n : suc k < suc (length (map number_of xs)) = within in omega arith), is) in (suc rest.0, rest.1, rest.2, rest.3)

pub first-seat : (seats : List MutatorSeat) → 0 < length seats → (seat : MutatorSeat) × IsSeatAt seats 0 seat
first-seat [] few = absurd (omega arith)
first-seat (x ∷ xs) few = (x, refl)

seats-counted : (seats : List MutatorSeat) (m : ℕ) → views_of m (map known seats) ≡ times_in m (map number_of seats)
seats-counted [] m = refl
seats-counted (x ∷ xs) m = omega (
  arith,
  seats-counted xs m,
  sum_by-cons (λ (v : MutatorView). cond {A = ℕ} (v.local.number == m) 1 0) (known x) (map known xs),
  sum_by-cons (λ (y : ℕ). cond {A = ℕ} (y == m) 1 0) (number_of x) (map number_of xs),
)

sum-seats : (f : Local → ℕ) (at : ℕ → Local) (seats : List MutatorSeat) → ((k : ℕ) (seat : MutatorSeat) → IsSeatAt seats k seat → local_of seat ≡ at (number_of seat))
    → sum_by (λ (seat : MutatorSeat). f (local_of seat)) seats ≡ sum_by (λ m. f (at m)) (map number_of seats)
sum-seats f at [] each = refl
sum-seats f at (x ∷ xs) each =
    let here : f (local_of x) ≡ f (at (number_of x)) = ap f (each 0 x refl) in
    let rest = sum-seats f at xs (λ k seat e. each (suc k) seat e) in
    omega (arith, here, rest, sum_by-cons (λ (seat : MutatorSeat). f (local_of seat)) x xs, sum_by-cons (λ m. f (at m)) (number_of x) (map number_of xs))

sum-both : (f g : ℕ → ℕ) (ks : List ℕ) → sum_by (λ k. f k + g k) ks ≡ sum_by f ks + sum_by g ks
sum-both f g [] = refl
sum-both f g (k ∷ ks) = omega (arith, sum-both f g ks, sum_by-cons (λ j. f j + g j) k ks, sum_by-cons f k ks, sum_by-cons g k ks)

states-mapped : (at : ℕ → Local) (seats : List MutatorSeat) → ((k : ℕ) (seat : MutatorSeat) → IsSeatAt seats k seat → local_of seat ≡ at (number_of seat))
    → map (λ m. mutator_of (at m)) (map number_of seats) ≡ map (λ (seat : MutatorSeat). mutator_of (local_of seat)) seats
states-mapped at [] each = refl
states-mapped at (x ∷ xs) each = (λ k. mutator_of (sym (each 0 x refl) k) ∷ states-mapped at xs (λ j seat e. each (suc j) seat e) k)

empty-front : {A : Type 0} (xs ys : List A) → xs ++ ys ≡ [] → xs ≡ []
empty-front [] ys e = refl
empty-front (x ∷ xs) ys e = let wrong : x ∷ (xs ++ ys) ≡ [] = e in cc

module _ (rules : Rules) (g : EpochStart) (seats : List MutatorSeat) (row : List ℕ) (ends : EndsWith rules g (map known seats) row) (idle : (k : ℕ) (seat : MutatorSeat) → IsSeatAt seats k seat → IsIdle (epoch_with rules g) seat)
    (listed : map number_of seats ≡ numbers_of (epoch_with rules g).mutators) (many : 0 < length seats) where
  abbrev p : Epoch
  p = epoch_with rules g

  abbrev log : List LogEntry
  log = ends.log

  abbrev s : HeapState
  s = heap_after p log

  agrees : (k : ℕ) (seat : MutatorSeat) → IsSeatAt seats k seat → Agrees rules g log (known seat)
  agrees k seat at = ends.agree k (known seat) (known-at seats k seat at)

  local-same : (k : ℕ) (seat : MutatorSeat) → IsSeatAt seats k seat → local_of seat ≡ local_after_log p log (number_of seat)
  local-same k seat at = (agrees k seat at).1.local

  found : (m : ℕ) → Contains (numbers_of p.mutators) m → (k : ℕ) × (seat : MutatorSeat) × IsSeatAt seats k seat × (number_of seat ≡ m)
  found m known = seat-with seats m (subst (λ ns. Contains ns m) (sym listed) known)

  state-found : (m : ℕ) (known : Contains (numbers_of p.mutators) m) → local_of (found m known).1 ≡ local_after_log p log m
  state-found m known = let f = found m known in local-same f.0 f.1 f.2 ∙ ap (local_after_log p log) f.3

  between : AreBetweenCalls p log
  between m known =
      let f = found m known in
      let rest = idle f.0 f.1 f.2 in
      subst (IsBetweenCalls p) (state-found m known) (record {
        none = rest.none;
        stored = rest.stored;
        used = rest.used.each;
      })

  abbrev ended : Ends p (first_machine p) ends.ideal log
  ended = log-ends p ends.ideal log ends.epoch.ready ends.epoch.represents ends.epoch.steps

  -- each block word is one, and a block with an owner is of the kind that mutators fill
  pub code-at : (k : ℕ) → k < p.before.blocks → IsTrue (is_block_code (block_word s k))
  code-at k inside = ⊎_elim
      (λ (no : IsUntaken p s k). no.unowned.code)
      (λ (yes : IsTaken p s k).
      let block : IsListed (local_after_log p log (owner_at s k)) k = owner-lists p ends.epoch.ready (machine_after p log) ended.moment.epoch k inside yes.some in
      let is : IsOwned p s (local_after_log p log (owner_at s k)).number block.block = (ended.moment.epoch.knows (owner_at s k)).owned block.block block.listed in
      subst (λ q. IsTrue (is_block_code (block_word s q))) block.same (is_block_code-code_of (record { kind = p.rules.fill; class = block.block.class; owner = (local_after_log p log (owner_at s k)).number }) (block_word s block.block.block) is.valid (sym is.word)))
      (block-owner p ends.epoch.ready (machine_after p log) ended.moment.epoch k inside)

  pub kind-at : (k : ℕ) → k < p.before.blocks → 0 < owner_at s k → HasKind s k p.rules.fill
  kind-at k inside owned = ⊎_elim
      (λ (no : IsUntaken p s k). absurd (let none : owner_at s k ≡ 0 = no.unowned.owner in omega arith))
      (λ (yes : IsTaken p s k). yes.kind)
      (block-owner p ends.epoch.ready (machine_after p log) ended.moment.epoch k inside)

  pub order-at : IsWellFormed s
  order-at = ended.moment.models.order

  abbrev part : List Entry
  part = history_of p log

  mutators-same : mutators_after p log ≡ map (λ (seat : MutatorSeat). mutator_of (local_of seat)) seats
  mutators-same = ap (λ (ns : List ℕ). map (λ m. mutator_of (local_after_log p log m)) ns) (sym listed) ∙ states-mapped (local_after_log p log) seats local-same

  -- the history that a seat has seen, and the rest of the closing history
  seen-same : (k : ℕ) (seat : MutatorSeat) → IsSeatAt seats k seat → history_at rules seat ≡ history_of p (known seat).seen
  seen-same k seat at = ap (λ (h : EpochStart). history_of (epoch_with rules h) (known seat).seen) (agrees k seat at).0

  module _ (k : ℕ) (seat : MutatorSeat) (at : IsSeatAt seats k seat) where
    abbrev rest : List LogEntry
    rest = (agrees k seat at).1.prefix.0

    abbrev later : List Entry
    later = history p (machine_after p (known seat).seen) rest

    grown : history_at rules seat ++ later ≡ part
    grown = ap (λ es. es ++ later) (seen-same k seat at) ∙ sym (history-append p (first_machine p) (known seat).seen rest) ∙ ap (history_of p) (agrees k seat at).1.prefix.1

    others : entries_by (number_of seat) later ≡ []
    others =
        let m : ℕ = number_of seat in
        entries-of-others m p (machine_after p (known seat).seen) rest (nothing-more (steps_by m (known seat).seen) (steps_by m rest)
        (sym (steps-append m (known seat).seen rest) ∙ ap (steps_by m) (agrees k seat at).1.prefix.1 ∙ (agrees k seat at).1.own))

    calls-same : entries_by (number_of seat) part ≡ calls_of rules seat
    calls-same =
        let m : ℕ = number_of seat in
        ap (entries_by m) (sym grown) ∙ filter-append (λ (x : Entry). x.mutator == m) (history_at rules seat) later ∙ ap (λ es. calls_of rules seat ++ es) others ∙ append-nil (calls_of rules seat)

  longest-seen : (k : ℕ) × (seat : MutatorSeat) × IsSeatAt seats k seat × (history_at rules seat ≡ part)
  longest-seen = ⊎_elim
      (λ (none : log ≡ []).
      let f = first-seat seats many in
      let seen : (known f.0).seen ≡ [] = empty-front (known f.0).seen (rest 0 f.0 f.1) ((agrees 0 f.0 f.1).1.prefix.1 ∙ none) in
      (0, f.0, f.1, seen-same 0 f.0 f.1 ∙ ap (history_of p) (seen ∙ sym none)))
      (λ (t : (k : ℕ) × (v : MutatorView) × (get_elem? (map known seats) k ≡ some v) × (v.seen ≡ log)).
      let f = seat-of seats t.0 t.1 t.2 in
      (t.0, f.0, f.1, seen-same t.0 f.0 f.1 ∙ ap (history_of p) (ap (λ (v : MutatorView). v.seen) f.2 ∙ t.3)))
      (ends.longest (λ m. seats-counted seats m ∙ ap (times_in m) listed))

  -- a seat has the steps of its mutator, so it logged what the mutator logged
  logged-same : (k : ℕ) (seat : MutatorSeat) (at : IsSeatAt seats k seat) → logged_in p (first_machine p) (number_of seat) log ≡ logged_at rules seat
  logged-same k seat at =
      let m : ℕ = number_of seat in
      let more : List LogEntry = rest k seat at in
      let whole : (known seat).seen ++ more ≡ log = (agrees k seat at).1.prefix.1 in
      ap (logged_in p (first_machine p) m) (sym whole) ∙ logged-append p (first_machine p) m (known seat).seen more
      ∙ ap (λ ls. logged_in p (first_machine p) m (known seat).seen ++ ls) (none-logged p (machine_after p (known seat).seen) m more (nothing-more (steps_by m (known seat).seen) (steps_by m more)
      (sym (steps-append m (known seat).seen more) ∙ ap (steps_by m) whole ∙ (agrees k seat at).1.own)))
      ∙ append-nil (logged_in p (first_machine p) m (known seat).seen)
      ∙ ap (λ (h : EpochStart). logged_in (epoch_with rules h) (first_machine (epoch_with rules h)) m (known seat).seen) (sym (agrees k seat at).0)

  abbrev budget : ℕ
  budget = word_at s 1

  abbrev counts : Local → ℕ
  counts l = tickets_below (allowance p) l.ticket

  budget-most : budget ≤ allowance p + length (numbers_of p.mutators)
  budget-most = budget-few p ends.ideal log ends.epoch

  tickets-counted : free_of p.before + sum_by (λ (seat : MutatorSeat). counts (local_of seat)) seats ≡ free_of s + smaller budget (allowance p)
  tickets-counted =
      let counted = log-counted p ends.ideal log ends.epoch in
      let good = counted.allowed in
      let free = counted.free in
      let own : sum_by (λ (seat : MutatorSeat). counts (local_of seat)) seats ≡ sum_by (λ m. counts (local_after_log p log m)) (numbers_of p.mutators) =
      sum-seats counts (local_after_log p log) seats local-same ∙ ap (λ (ns : List ℕ). sum_by (λ m. counts (local_after_log p log m)) ns) listed in
      let both = sum-both (λ m. taken_by (local_after_log p log m)) (λ m. counts (local_after_log p log m)) (numbers_of p.mutators) in
      omega (arith, good, free, own, both)

  -- blocks are given back, and no word before the block words changes
  module _ (new : HeapState) (gives : GivesBack s new) (front : (k : ℕ) → k < first p.before.blocks BlockWords → word_at new k ≡ word_at s k) where
    same : new ≡ with_words p.before new.words
    same = same-layout p.before new gives.blocks gives.number gives.base

    given : GivesBack s (with_words p.before new.words)
    given = subst (GivesBack s) same gives

    kind-same : (k : ℕ) (kind : Kind) → has_kind new k kind ≡ has_kind s k kind
    kind-same k kind = ap (λ (t : HeapState). has_kind t k kind) same ∙ back.kind-same p ends.epoch.ready (machine_after p log) _ ended.set ended.moment new.words given k kind

    unlog-same : (a : ℕ) → is_unlogged new a ≡ is_unlogged s a
    unlog-same a = ap (λ (t : HeapState). is_unlogged t a) same ∙ back.unlog-back p ends.epoch.ready (machine_after p log) _ ended.set ended.moment new.words given a

    free-same : free_of new ≡ free_of s
    free-same = ap (λ n. count_by (λ k. has_kind new k kinds.Free) (range_with_len 0 n)) gives.blocks ∙ ap (λ f. count_by f (range_with_len 0 p.before.blocks)) (fun_ext (λ k. kind-same k kinds.Free))

    stops-so : (i : IdealHeap) → Represents p.before p.mutators i → Stopped rules (numbers_of p.mutators) p.before i part new (mutators_after p log)
    stops-so i represents = log-stopped p i log new (record { ready = ends.epoch.ready; represents = represents; steps = ends.epoch.steps }) between gives

    seats-logged : (a : ℕ) → IsTrue (is_logged_under rules new a) → IsTrue (is_logged_under rules p.before a) ⊎ ((k : ℕ) × (seat : MutatorSeat) × IsSeatAt seats k seat × Contains (logged_at rules seat) a)
    seats-logged a is = ⊎_elim
        (λ (before : IsTrue (is_logged_under rules p.before a)). inl before)
        (λ (by : (m : ℕ) × Contains (numbers_of p.mutators) m × Contains (logged_in p (first_machine p) m log) a).
        let f = found by.0 by.1 in
        inr (f.0, f.1, f.2, subst (λ ls. Contains ls a) (logged-same f.0 f.1 f.2) (subst (λ m. Contains (logged_in p (first_machine p) m log) a) (sym f.3) by.2)))
        (log-logged p ends.ideal log part (mutators_after p log) ends.epoch new gives.base unlog-same (stops-so ends.ideal ends.epoch.represents) a is)

    pub ends-epoch : EndsEpoch rules p seats new (map (λ (seat : MutatorSeat). mutator_of (local_of seat)) seats)
    ends-epoch =
        let counted = log-counted p ends.ideal log ends.epoch in
        let saw = log-seen p ends.ideal log ends.epoch in
        record {
          history = part;
          mutators = refl;
          longest = longest-seen;
          prefixes = λ k seat at. (later k seat at, grown k seat at);
          calls = calls-same;
          stopped = λ i represents. subst (Stopped rules (numbers_of p.mutators) p.before i part new) mutators-same (stops-so i represents);
          size = gives.blocks;
          logged = seats-logged;
          budget = budget;
          budget_word = front 1 (omega arith);
          most = budget-most;
          drawn = λ k t seat at has. counted.drawn (number_of seat) t (ap (λ (l : Local). l.ticket) (sym (local-same k seat at)) ∙ has);
          tickets = λ k t seat at has. subst (λ (n : ℕ). n < budget) has.word
              (drawn-below p ends.ideal log (known seat).seen has.before has.step ends.epoch (agrees k seat at).1.prefix has.seen has.draws);
          counted = tickets-counted ∙ ap (λ n. n + smaller budget (allowance p)) (sym free-same);
          seen = λ k block seat at has free.
              let among : Contains (local_after_log p log (number_of seat)).blocks has.loaded = subst (λ (l : Local). Contains l.blocks has.loaded) (local-same k seat at) has.among in
              (saw.blocks (number_of seat) has.loaded among).1.used has.used (subst (λ b. HasKind s b kinds.Free) (sym has.here) (sym (kind-same block kinds.Free) ∙ free));
          stop = word_at s 0;
          stop_word = front 0 (omega arith);
          stops = λ k seat at some. sym (saw.polled (number_of seat) (subst (λ (l : Local). 0 < l.stop) (local-same k seat at) some) ∙ ap (λ (l : Local). l.stop) (sym (local-same k seat at)));
          raised = λ some. ⊎_elim
              (λ none. absurd (let e : word_at s 0 ≡ 0 = none in omega arith))
              (λ r. let f = found (word_at s 0) r.0 in (f.0, f.1, f.2, f.3, ap (λ (l : Local). l.raised) (state-found (word_at s 0) r.0) ∙ r.1))
              saw.stop;
        }
