-- What a program knows, from call to call.
use Rattle.std.proofs.Common.{◌≡◌, ℕ, ◌+◌, ◌<◌, refl, sym, ◌∙◌, subst, List, [], ◌∷◌, IsTrue, true, false}
use Rattle.ideal_heap.specs.declared.command.Command.{Command}
use Rattle.ideal_heap.specs.declared.command.Command.TheVariants as c
use Rattle.ideal_heap.specs.declared.name.Name.{Name}
use Rattle.ideal_heap.specs.declared.reply.Reply.{Reply}
use Rattle.ideal_heap.specs.declared.reply.Reply.TheVariants as r
use Rattle.ideal_heap.specs.Commands.{is_new}
use Rattle.ideal_heap.specs.Ideal.{IdealHeap, step}
use Rattle.ideal_heap.specs.Runs.{is_full}
use Rattle.sessions.specs.Plans.{Rules}
use Rattle.programs.specs.Growth.{IsGrown}
use Rattle.programs.specs.Lists.{heap_after}
use Rattle.managed_value.specs.declared.managed.ManagedHeap.{ManagedHeap}
use Rattle.managed_value.specs.Histories.{IsUsable, StandsFor, HoldsOfIdeal, AddsHeapEntry, EntersCall, KeepsEntries, HeapHasPlace, mutators_of_heap}
use Rattle.managed_value.specs.Allocations.{Makes}
use Rattle.managed_value.proofs.Programs as programs
use Rattle.embedding_example.specs.Language.{IsReady, Does}

pub has-place : {P : Type 0} (rules : Rules) (h : ManagedHeap P) (m : ℕ) → IsReady rules h → m < 2 → HeapHasPlace h m
has-place rules h m ready below = subst (λ (n : ℕ). m < n) (sym ready.two) below

-- a call that is answered is its command
pub call : {P : Type 0} (rules : Rules) (old new : ManagedHeap P) (m : ℕ) (command : Command) (reply : Reply) → IsReady rules old → IsUsable rules new
    → mutators_of_heap new ≡ mutators_of_heap old → AddsHeapEntry rules old m command reply new → (IsTrue (is_new command) → is_full reply ≡ false)
    → Does rules old m (command ∷ []) new
call rules old new m command reply ready usable places adds answered = record {
  ready = record { usable = usable; two = places ∙ ready.two };
  goes = λ i stands. programs.stands-next rules old new m command reply i adds stands answered;
}

pub made : {P : Type 0} (rules : Rules) (old new : ManagedHeap P) (m d refs nums : ℕ) (n : Name) → IsReady rules old → Makes rules old m d refs nums n new
    → Does rules old m (c.New d refs nums ∷ []) new
made rules old new m d refs nums n ready makes =
    call rules old new m (c.New d refs nums) (r.New n) ready makes.usable makes.places makes.history (λ _. refl)

-- a call that is no allocation
module _ {P : Type 0} (rules : Rules) (old new : ManagedHeap P) (m : ℕ) (command : Command) (reply : Reply) (enters : EntersCall rules old m command reply new)
    (not : is_new command ≡ false) where
  answered : IsTrue (is_new command) → is_full reply ≡ false
  answered is = let wrong : true ≡ false = sym is ∙ not in absurd cc

  pub access : IsReady rules old → Does rules old m (command ∷ []) new
  access ready = call rules old new m command reply ready enters.usable enters.rest.places enters.history answered

  pub replies : (i : IdealHeap) → StandsFor rules old i → reply ≡ (step i (m + 1) command).0
  replies i stands = programs.reply-next rules old new m command reply i enters.history stands answered

-- a fact that the commands lead to
pub after : {P : Type 0} (rules : Rules) (old new : ManagedHeap P) (m : ℕ) (commands : List Command) (Q R : IdealHeap → Type 0)
    → Does rules old m commands new → ((i : IdealHeap) → IsGrown i → Q i → R (heap_after i (m + 1) commands)) → HoldsOfIdeal rules old Q → HoldsOfIdeal rules new R
after rules old new m commands Q R does leads holds = record {
  ideal = heap_after holds.ideal (m + 1) commands;
  stands = does.goes holds.ideal holds.stands;
  fact = leads holds.ideal (programs.stands-grown rules old holds.ideal holds.stands) holds.fact;
}

pub kept : {P : Type 0} (rules : Rules) (old new : ManagedHeap P) (Q : IdealHeap → Type 0) → KeepsEntries rules old new → HoldsOfIdeal rules old Q → HoldsOfIdeal rules new Q
kept rules old new Q keeps holds = record {
  ideal = holds.ideal;
  stands = programs.stands-still rules old new holds.ideal keeps holds.stands;
  fact = holds.fact;
}
