-- A manager before an epoch and after it, with the world in between.
use Rattle.std.proofs.Common.{◌≡◌, refl, sym, ◌∙◌, ap, subst, ℕ, suc, ◌+◌, ◌<◌, ◌≤◌, arith, List, [], ◌∷◌, ◌++◌, map, length, length-append}
use Rattle.std.specs.Prelude.{Option, Some, None, slice_get, slice_index}
use Rattle.std.specs.List.{range_with_len, AllByRecursion}
use Rattle.std.proofs.lemmas.List.{map-append, length-map}
use Rattle.std.proofs.lemmas.List.FromFn.{get_or-range_with_len, length-range_with_len}
use Rattle.ideal_heap.specs.declared.command.Command.{Command}
use Rattle.ideal_heap.specs.Ideal.{IdealHeap}
use Rattle.ideal_heap.specs.Runs.{Entry, IsMutator, of_mutator, commands_of, replies_of}
use Rattle.ideal_heap.proofs.OrderLemmas.{of_mutator-append}
use Rattle.object_model.specs.Objects.{HeapState}
use Rattle.object_model.specs.Heaps.{heap_state}
use Rattle.object_model.specs.Graphs.{MutatorState, Represents, numbers_of}
use Rattle.sessions.specs.Plans.{Rules}
use Rattle.sessions.specs.Sessions.{Setting, Moment, Stopped, ideal_at, traced_mutators as numbers_in}
use Rattle.mutator_core.specs.Machine.{Epoch}
use Rattle.mutator_core.specs.Closing.{GivesBack}
use Rattle.mutator_core.proofs.Lists.{all-append}
use Rattle.mutator_calls.specs.declared.need.Mutator.{Mutator}
use Rattle.managed_heap.specs.Worlds.{PlainWorld, GrantsWithTickets, births_of, heap_of_world, mutators_of_world, mutator_number_at, ticket_at, places_of, budget_word, is_generational, HasHistory}
use Rattle.heap_users.specs.Beginnings.{epoch_of}
use Rattle.heap_users.specs.Users.{mutator_state}
use Rattle.managed_heap.proofs.Worlds.{numbers-mapped}
use Rattle.block_regions.proofs.Lists.{get-some, get-below}
use Rattle.mm_runtime.specs.declared.progress.Progress.{Progress}
use Rattle.mm_runtime.specs.declared.progress.PartEnd.{PartEnd}
use Rattle.mm_runtime.specs.declared.manager.Manager.{Manager}
use Rattle.block_regions.specs.Notes.{AreNotes, FlagsCover}
use Rattle.mm_runtime.specs.Managers.{traces_of, replied, HasReplies, StandsAt}
use Rattle.mm_runtime.specs.Parts.{RepliesGrow, RunsParts}
use Rattle.mm_runtime.proofs.AnswersInTurn.{number-mapped, births-same}
use Rattle.mm_runtime.proofs.ListFacts.{sum-grows, all-weaker}

pub record RunsEpoch {P : Type 0} (rules : Rules) (old new : Manager P) (ends : List PartEnd) : Type 0 where
  pub first : PlainWorld P
  pub last : PlainWorld P
  pub count : places_of last ≡ length old.progress.items
  pub begins : (i : IdealHeap) → Represents (heap_state old.heap.heap) (map mutator_state old.heap.mutators.items) i
      → HasHistory first (epoch_of rules (heap_state old.heap.heap) (map mutator_state old.heap.mutators.items)) i []
  pub runs : RunsParts rules first old.progress.items (length old.progress.items) ends last new.progress.items
  pub stopped : (p : Epoch) (i : IdealHeap) (part : List Entry) → HasHistory last p i part
      → Stopped p.rules (numbers_of p.mutators) p.before i part (heap_state new.heap.heap) (map mutator_state new.heap.mutators.items)
  pub mutators : map mutator_state new.heap.mutators.items ≡ mutators_of_world last
  pub gives : GivesBack (heap_of_world last) (heap_state new.heap.heap)
  pub drawn : (k t : ℕ) → ticket_at last k ≡ Some t → t < budget_word last
  pub tickets : (p : Epoch) (i : IdealHeap) (part : List Entry) → HasHistory last p i part → GrantsWithTickets p last (heap_state new.heap.heap)
  pub notes : (p : Epoch) (i : IdealHeap) (part : List Entry) → HasHistory last p i part → AreNotes p.rules.fill (heap_state new.heap.heap) new.heap.notes
  pub flags : (x : Rules) → x.young ≡ is_generational last → FlagsCover x (heap_state new.heap.heap) new.heap.notes.flags.items
  pub nursery : new.heap.nursery ≡ old.heap.nursery
  pub full : new.heap.full ≡ old.heap.full
  pub workers : new.heap.workers ≡ old.heap.workers

pub stands-represents : {P : Type 0} (rules : Rules) (m : Manager P) (t : Setting) (now : Moment) → StandsAt rules m t now
    → Represents (heap_state m.heap.heap) (map mutator_state m.heap.mutators.items) (ideal_at now)
stands-represents rules m t now stands =
    subst (λ (s : HeapState). Represents s (map mutator_state m.heap.mutators.items) (ideal_at now)) (sym stands.heap.heap)
    (subst (λ (ms : List MutatorState). Represents now.heap ms (ideal_at now)) (sym stands.heap.mutators) stands.heap.sound.represents)

pub stands-listed : {P : Type 0} (rules : Rules) (m : Manager P) (t : Setting) (now : Moment) → StandsAt rules m t now
    → numbers_of (map mutator_state m.heap.mutators.items) ≡ numbers_in t
stands-listed rules m t now stands = ap numbers_of stands.heap.mutators ∙ stands.heap.sound.listed

-- the numbers of the mutators are their places, counted from 1
pub numbers-listed : {P : Type 0} (w : PlainWorld P) (n : ℕ) → numbers_of (mutators_of_world w) ≡ range_with_len 1 n → (k : ℕ) → k < places_of w → mutator_number_at w k ≡ k + 1
numbers-listed w n listed k below =
    let same : map (λ (m : Mutator). m.number) w.row.mutators.items ≡ range_with_len 1 n = sym (numbers-mapped w.row.mutators.items) ∙ listed in
    let many : length w.row.mutators.items ≡ n = sym (length-map w.row.mutators.items (λ (m : Mutator). m.number)) ∙ ap length same ∙ length-range_with_len 1 n in
    number-mapped w.row.mutators.items k ∙ ap (λ ns. slice_index ns k) same ∙ get_or-range_with_len 1 n k 0 (omega arith) ∙ omega arith

-- the births of a mutator that may be there
births-most : (o : Option Mutator) (n : ℕ) → ((u : Mutator) → o ≡ Some u → u.births ≤ n) → births_of o ≤ n
births-most None n each = omega arith
births-most (Some u) n each = each u refl

pub births-within : (xs ms : List Mutator) (k n : ℕ) → map mutator_state xs ≡ map mutator_state ms → ((u : Mutator) → slice_get ms k ≡ Some u → u.births ≤ n)
    → births_of (slice_get xs k) ≤ n
births-within xs ms k n same each =
    let e : births_of (slice_get xs k) ≡ births_of (slice_get ms k) = births-same ms xs same k in
    let most : births_of (slice_get ms k) ≤ n = births-most (slice_get ms k) n each in
    omega arith

-- lists that agree at each place
traces-agree : (ps qs : List Progress) → length qs ≡ length ps → ((k : ℕ) (p q : Progress) → slice_get ps k ≡ Some p → slice_get qs k ≡ Some q → q.trace ≡ p.trace)
    → traces_of qs ≡ traces_of ps
traces-agree [] [] same each = refl
traces-agree [] (q ∷ qs) same each = absurd (let n = length qs in omega arith)
traces-agree (p ∷ ps) [] same each = absurd (let n = length ps in omega arith)
traces-agree (p ∷ ps) (q ∷ qs) same each =
    ap (λ (t : List Command). t ∷ traces_of qs) (each 0 p q refl refl)
    ∙ ap (λ (ts : List (List Command)). p.trace ∷ ts) (traces-agree ps qs (let e : suc (length qs) ≡ suc (length ps) = same in omega arith) (λ k. each (suc k)))

-- the traces before an epoch and after it, in which the entries of this part came
module _ (ps qs : List Progress) (part : List Entry) (count : length qs ≡ length ps) (grows : (k : ℕ) (p q : Progress) → slice_get ps k ≡ Some p → slice_get qs k ≡ Some q → RepliesGrow (k + 1) part p q) where
  pub traces-grown : traces_of qs ≡ traces_of ps
  traces-grown = traces-agree ps qs count (λ k p q was is. (grows k p q was is).trace)

  -- no reply is lost
  pub replied-grown : replied ps ≤ replied qs
  replied-grown = sum-grows (λ (p : Progress). length p.replies.items) ps qs count
      (λ k p q was is. let more : q.replies.items ≡ p.replies.items ++ replies_of (k + 1) part = (grows k p q was is).replies in
      omega (arith, ap length more ∙ length-append p.replies.items (replies_of (k + 1) part)))

  -- the entries of the epoch have the replies that came
  module _ (done : List Entry) (replies : HasReplies ps done) (mutators : AllByRecursion (λ e. (1 ≤ e.mutator) × (e.mutator ≤ length ps)) part) where
    before : (k : ℕ) (q : Progress) → slice_get qs k ≡ Some q → (p : Progress) × (slice_get ps k ≡ Some p)
    before k q is = get-some ps k (let below : k < length qs = get-below qs k q is in omega arith)

    pub replies-grown : HasReplies qs (done ++ part)
    replies-grown = record {
      mutators = all-append (λ e. IsMutator (traces_of qs) e.mutator) done part
          (subst (λ (ts : List (List Command)). AllByRecursion (λ e. IsMutator ts e.mutator) done) (sym traces-grown) replies.mutators)
          (all-weaker (λ e. (1 ≤ e.mutator) × (e.mutator ≤ length ps)) (λ e. IsMutator (traces_of qs) e.mutator)
          (λ e is. (is.0, let many : length (traces_of qs) ≡ length qs = length-map qs (λ (p : Progress). p.trace) in omega (arith, is.1))) part mutators);
      commands = λ k q is. let p = before k q is in
          ap (map (λ (e : Entry). e.command)) (of_mutator-append (k + 1) done part)
          ∙ map-append (λ (e : Entry). e.command) (of_mutator (k + 1) done) (of_mutator (k + 1) part)
          ∙ ap (λ l. l ++ commands_of (k + 1) part) (replies.commands k p.0 p.1)
          ∙ sym (grows k p.0 q p.1 is).commands;
      replies = λ k q is. let p = before k q is in
          ap (map (λ (e : Entry). e.reply)) (of_mutator-append (k + 1) done part)
          ∙ map-append (λ (e : Entry). e.reply) (of_mutator (k + 1) done) (of_mutator (k + 1) part)
          ∙ ap (λ l. l ++ replies_of (k + 1) part) (replies.replies k p.0 p.1)
          ∙ sym (grows k p.0 q p.1 is).replies;
    }

module _ {P : Type 0} (rules : Rules) (old new : Manager P) (ends : List PartEnd) (r : RunsEpoch rules old new ends) where
  pub traces-same : traces_of new.progress.items ≡ traces_of old.progress.items
  traces-same = traces-grown old.progress.items new.progress.items r.runs.part r.runs.count r.runs.grows

  pub replied-more : replied old.progress.items ≤ replied new.progress.items
  replied-more = replied-grown old.progress.items new.progress.items r.runs.part r.runs.count r.runs.grows

  pub history : (i : IdealHeap) → Represents (heap_state old.heap.heap) (map mutator_state old.heap.mutators.items) i
      → HasHistory r.last (epoch_of rules (heap_state old.heap.heap) (map mutator_state old.heap.mutators.items)) i r.runs.part
  history i is = r.runs.history (epoch_of rules (heap_state old.heap.heap) (map mutator_state old.heap.mutators.items)) i [] (r.begins i is)

  pub has-replies : (done : List Entry) → HasReplies old.progress.items done → HasReplies new.progress.items (done ++ r.runs.part)
  has-replies done replies = replies-grown old.progress.items new.progress.items r.runs.part r.runs.count r.runs.grows done replies r.runs.mutators
