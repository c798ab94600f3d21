-- The steps that pin and unpin an object.
use Rattle.std.proofs.Common.{◌≡◌, ◌≢◌, refl, sym, ◌∙◌, ap, subst, ℕ, ◌<◌, Bool, true, false, IsTrue, List, ◌↔◌}
use Rattle.std.specs.Prelude.{if◌then◌else◌}
use Rattle.std.specs.List.{Contains}
use Rattle.ideal_heap.specs.declared.name.Name.{Name}
use Rattle.ideal_heap.specs.declared.command.Command.{Command}
use Rattle.ideal_heap.specs.declared.command.Command.TheVariants as c
use Rattle.ideal_heap.specs.declared.reply.Reply.{Reply}
use Rattle.ideal_heap.specs.declared.reply.Reply.TheVariants as r
use Rattle.ideal_heap.specs.Ideal.{IdealHeap, step, set_pinned}
use Rattle.ideal_heap.proofs.StepLemmas.{object-some, pinning, unpinning}
use Rattle.object_model.specs.Objects.{HeapState, with_words, is_pinned, name_at}
use Rattle.object_model.specs.Graphs.{MutatorState, register_at}
use Rattle.object_model.specs.Agreement.{RepresentsOn}
use Rattle.object_model.specs.Changes.{SetsPin}
use Rattle.object_model.specs.Steps.{IsStep}
use Rattle.object_model.proofs.Frames.{same-layout}
use Rattle.object_model.proofs.PinChanges.{keeps, pin-models}
use Rattle.object_model.proofs.StepCases.{outcome, register-in, register-named}
use Rattle.object_model.proofs.WordSteps.{word-step}

-- equivalent Booleans are equal
pub same-truth : (p q : Bool) → IsTrue p ↔ IsTrue q → p ≡ q
same-truth true true both = refl
same-truth true false both = sym (both.0 refl)
same-truth false true both = both.1 refl
same-truth false false both = refl

-- a step that sets the pin of an object to b, with any reply
pin-step : (s s' : HeapState) (m : MutatorState) (command : Command) (reply : Reply) (e : ℕ) (b : Bool) → e < 16 → register_at m e ≢ 0 → SetsPin s s' (register_at m e) b
    → ((ms : List MutatorState) (h : IdealHeap) (set : ℕ → Type 0) → RepresentsOn s ms h set → Contains ms m → step h m.number command ≡ outcome reply (set_pinned h (name_at s (register_at m e)) b))
    → ((n : Name) → reply ≢ r.New n) → IsStep s m command reply s' m
pin-step s s' m command reply e b small some sets steps no_birth =
    let a : ℕ = register_at m e in
    let same : s' ≡ with_words s s'.words = same-layout s s' sets.blocks sets.number sets.base in
    let made : SetsPin s (with_words s s'.words) a b = subst (λ (x : HeapState). SetsPin s x a b) same sets in
    subst (λ (x : HeapState). IsStep s m command reply x m) (sym same)
    (word-step s s'.words m command reply (λ h. set_pinned h (name_at s a) b) (keeps s s'.words a b made) steps
    (λ ms h set model among. pin-models s s'.words a b made ms h set model (register-in s ms h set model m among e small some))
    no_birth)

-- the ideal heap has the pin of the object that a register holds
pin-read : (s : HeapState) (m : MutatorState) (e : ℕ) → e < 16 → register_at m e ≢ 0 → (ms : List MutatorState) (h : IdealHeap) (set : ℕ → Type 0) → RepresentsOn s ms h set → Contains ms m
    → h.pinned (name_at s (register_at m e)) ≡ is_pinned s (register_at m e)
pin-read s m e small some ms h set model among =
    sym (same-truth (is_pinned s (register_at m e)) (h.pinned (name_at s (register_at m e))) (model.mirrors.pins (register_at m e) (register-in s ms h set model m among e small some)))

no-new : (b : Bool) (x y : Reply) → ((n : Name) → x ≢ r.New n) → ((n : Name) → y ≢ r.New n) → (n : Name) → (if b then x else y) ≢ r.New n
no-new true x y left right n same = left n same
no-new false x y left right n same = right n same

-- an object is pinned
pub pin-object : (s s' : HeapState) (m : MutatorState) (e : ℕ) → e < 16 → register_at m e ≢ 0 → SetsPin s s' (register_at m e) true
    → IsStep s m (c.Pin e) (if is_pinned s (register_at m e) then r.No else r.Yes) s' m
unfolding step
pin-object s s' m e small some sets =
    let a : ℕ = register_at m e in
    pin-step s s' m (c.Pin e) (if is_pinned s a then r.No else r.Yes) e true small some sets
    (λ ms h set model among. object-some h (h.registers m.number e) (pinning h) (name_at s a) (register-named s ms h set model m among e small some)
    ∙ ap (λ p. outcome (if p then r.No else r.Yes) (set_pinned h (name_at s a) true)) (pin-read s m e small some ms h set model among))
    (no-new (is_pinned s a) r.No r.Yes (λ n same. cc) (λ n same. cc))

-- an object is unpinned
pub unpin-object : (s s' : HeapState) (m : MutatorState) (e : ℕ) → e < 16 → register_at m e ≢ 0 → SetsPin s s' (register_at m e) false
    → IsStep s m (c.Unpin e) (if is_pinned s (register_at m e) then r.Yes else r.No) s' m
unfolding step
unpin-object s s' m e small some sets =
    let a : ℕ = register_at m e in
    pin-step s s' m (c.Unpin e) (if is_pinned s a then r.Yes else r.No) e false small some sets
    (λ ms h set model among. object-some h (h.registers m.number e) (unpinning h) (name_at s a) (register-named s ms h set model m among e small some)
    ∙ ap (λ p. outcome (if p then r.Yes else r.No) (set_pinned h (name_at s a) false)) (pin-read s m e small some ms h set model among))
    (no-new (is_pinned s a) r.Yes r.No (λ n same. cc) (λ n same. cc))
