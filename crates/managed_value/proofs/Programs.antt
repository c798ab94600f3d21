-- What a program knows of its registers, from call to call.
use Rattle.std.proofs.Common.{◌≡◌, ◌∙◌, ℕ, ◌+◌, ap, sym, subst, refl, inl, inr, true, false, IsTrue, List, [], ◌∷◌, ◌++◌, if◌then◌else◌, Some}
use Rattle.ideal_heap.specs.declared.command.Command.{Command}
use Rattle.ideal_heap.specs.declared.reply.Reply.{Reply}
use Rattle.ideal_heap.specs.declared.reply.Reply.TheVariants as reply
use Rattle.ideal_heap.specs.Commands.{is_new}
use Rattle.ideal_heap.specs.Ideal.{IdealHeap, empty, step}
use Rattle.ideal_heap.specs.Runs.{Entry, heap_after_run, entry, is_full}
use Rattle.ideal_heap.proofs.RunLemmas.{after-append, rest}
use Rattle.ideal_heap.proofs.StepLemmas.{never_full}
use Rattle.object_model.specs.Graphs.{Represents}
use Rattle.programs.specs.Growth.{IsGrown}
use Rattle.programs.specs.Lists.{heap_after}
use Rattle.programs.proofs.GrowthLemmas.{after-grown}
use Rattle.sessions.specs.Plans.{Rules}
use Rattle.managed_heap.specs.Worlds.{PlainWorld, heap_of_world, mutators_of_world}
use Rattle.managed_value.specs.declared.managed.ManagedHeap.{ManagedHeap}
use Rattle.managed_value.specs.Histories.{AddsHeapEntry, HasEntries, KeepsEntries, StandsFor}
use Rattle.managed_value.proofs.Runs.{entries-run, entries-represent}

-- the ideal heap after these entries
pub stands-after : {P : Type 0} (rules : Rules) (h : ManagedHeap P) (es : List Entry) → HasEntries rules h es → StandsFor rules h (heap_after_run empty es)
stands-after rules h es has = record { entries = es; has = has; ideal = refl }

module _ {P : Type 0} (rules : Rules) (old new : ManagedHeap P) (m : ℕ) (command : Command) (r : Reply) (i : IdealHeap) (adds : AddsHeapEntry rules old m command r new)
    (stands : StandsFor rules old i) where
  abbrev es : List Entry
  es = stands.entries

  abbrev e : Entry
  e = entry (m + 1) command r

  has : HasEntries rules new (es ++ e ∷ [])
  has = adds es stands.has

  -- Only `new` can be refused. So a call is answered unless it is a `new` with the reply `full`.
  answers : (IsTrue (is_new command) → is_full r ≡ false) → is_full r ≡ false
  answers made = elim (rest empty es (e ∷ []) (entries-run rules new (es ++ e ∷ []) has)).0 [
    | inl own ↦ ap (λ q. is_full q) own ∙ never_full (heap_after_run empty es) (m + 1) command
    | inr full ↦ made full.1
  ]

  -- after a call that was answered the ideal heap is that of its step, whose reply is the call's
  module _ (made : IsTrue (is_new command) → is_full r ≡ false) where
    answered : is_full r ≡ false
    answered = answers made

    pub reply-next : r ≡ (step i (m + 1) command).0
    reply-next =
        let own : r ≡ (step (heap_after_run empty es) (m + 1) command).0 = elim (rest empty es (e ∷ []) (entries-run rules new (es ++ e ∷ []) has)).0 [
          | inl own ↦ own
          | inr full ↦ let wrong : true ≡ false = sym (ap (λ q. is_full q) full.0) ∙ answered in absurd cc
        ] in
        subst (λ (k : IdealHeap). r ≡ (step k (m + 1) command).0) (sym stands.ideal) own

    pub stands-next : StandsFor rules new (step i (m + 1) command).1
    stands-next = record {
      entries = es ++ e ∷ [];
      has = has;
      ideal = ap (λ (k : IdealHeap). (step k (m + 1) command).1) stands.ideal
          ∙ sym (after-append empty es (e ∷ []) ∙ ap (λ b. if b then heap_after_run empty es else (step (heap_after_run empty es) (m + 1) command).1) answered);
    }

  pub stands-refused : r ≡ reply.Full → StandsFor rules new i
  stands-refused refused = record {
    entries = es ++ e ∷ [];
    has = has;
    ideal = stands.ideal
        ∙ sym (after-append empty es (e ∷ []) ∙ ap (λ b. if b then heap_after_run empty es else (step (heap_after_run empty es) (m + 1) command).1) (ap (λ q. is_full q) refused));
  }

pub stands-still : {P : Type 0} (rules : Rules) (old new : ManagedHeap P) (i : IdealHeap) → KeepsEntries rules old new → StandsFor rules old i → StandsFor rules new i
stands-still rules old new i keeps stands = record { entries = stands.entries; has = keeps stands.entries stands.has; ideal = stands.ideal }

pub stands-grown : {P : Type 0} (rules : Rules) (h : ManagedHeap P) (i : IdealHeap) → StandsFor rules h i → IsGrown i
stands-grown rules h i stands = subst IsGrown (sym stands.ideal) (after-grown stands.entries)

pub stands-represented : {P : Type 0} (rules : Rules) (h : ManagedHeap P) (i : IdealHeap) (w : PlainWorld P) → StandsFor rules h i → h.world ≡ Some w → Represents (heap_of_world w) (mutators_of_world w) i
stands-represented rules h i w stands here =
    subst (λ (k : IdealHeap). Represents (heap_of_world w) (mutators_of_world w) k) (sym stands.ideal) (entries-represent rules h stands.entries w stands.has here)

after-one-more : (i : IdealHeap) (m : ℕ) (commands : List Command) (command : Command) → heap_after i m (commands ++ command ∷ []) ≡ (step (heap_after i m commands) m command).1
after-one-more i m [] command = refl
after-one-more i m (first ∷ rest) command = after-one-more (step i m first).1 m rest command

-- one call more: so the calls of a function become the list of its commands, of which a law speaks
pub stands-commands : {P : Type 0} (rules : Rules) (old new : ManagedHeap P) (m : ℕ) (command : Command) (r : Reply) (i : IdealHeap) (commands : List Command)
    → AddsHeapEntry rules old m command r new → (IsTrue (is_new command) → is_full r ≡ false) → StandsFor rules old (heap_after i (m + 1) commands)
    → StandsFor rules new (heap_after i (m + 1) (commands ++ command ∷ []))
stands-commands rules old new m command r i commands adds answered stands =
    subst (λ (k : IdealHeap). StandsFor rules new k) (sym (after-one-more i (m + 1) commands command))
    (stands-next rules old new m command r (heap_after i (m + 1) commands) adds stands answered)
