-- A step that sets words of the heap and no register.
use Rattle.std.proofs.Common.{◌≡◌, ◌≢◌, refl, sym, ap, subst, ℕ, List}
use Rattle.std.specs.List.{Contains}
use Rattle.ideal_heap.specs.declared.name.Name.{Name}
use Rattle.ideal_heap.specs.declared.command.Command.{Command}
use Rattle.ideal_heap.specs.declared.reply.Reply.{Reply}
use Rattle.ideal_heap.specs.declared.reply.Reply.TheVariants as r
use Rattle.ideal_heap.specs.Ideal.{IdealHeap, step}
use Rattle.object_model.specs.Objects.{HeapState, with_words}
use Rattle.object_model.specs.Graphs.{MutatorState, with_mutator}
use Rattle.object_model.specs.Agreement.{RepresentsOn}
use Rattle.object_model.specs.Changes.{ObjectsStay}
use Rattle.object_model.specs.Steps.{IsStep}
use Rattle.object_model.proofs.StepCases.{outcome}
use Rattle.object_model.proofs.Among.{with-itself}

pub word-step : (s : HeapState) (w : List ℕ) (m : MutatorState) (command : Command) (reply : Reply) (ideal : IdealHeap → IdealHeap) → ObjectsStay s (with_words s w)
    → ((ms : List MutatorState) (h : IdealHeap) (set : ℕ → Type 0) → RepresentsOn s ms h set → Contains ms m → step h m.number command ≡ outcome reply (ideal h))
    → ((ms : List MutatorState) (h : IdealHeap) (set : ℕ → Type 0) → RepresentsOn s ms h set → Contains ms m → RepresentsOn (with_words s w) ms (ideal h) set)
    → ((n : Name) → reply ≢ r.New n) → IsStep s m command reply (with_words s w) m
word-step s w m command reply ideal keeps steps models no_birth = record {
  keeps = keeps;
  number = refl;
  births = refl;
  answers = λ ms h set model among. sym (ap (λ o. o.0) (steps ms h set model among));
  models = λ ms h set model among. subst (λ (x : IdealHeap). RepresentsOn (with_words s w) (with_mutator ms m) x set) (sym (ap (λ o. o.1) (steps ms h set model among)))
      (subst (λ (ns : List MutatorState). RepresentsOn (with_words s w) ns (ideal h) set) (sym (with-itself ms m among model.mutators.differ)) (models ms h set model among));
  no_birth = no_birth;
}
