-- The steps of the commands between registers and globals.
use Rattle.std.proofs.Common.{◌≡◌, ◌≢◌, refl, ap, ℕ, ◌<◌, arith, Some, None, Option, slice_set, ◌+◌}
use Rattle.heap_layout.specs.Zones.{Globals, first}
use Rattle.ideal_heap.specs.declared.name.Name.{Name}
use Rattle.ideal_heap.specs.declared.command.Command.TheVariants as c
use Rattle.ideal_heap.specs.declared.reply.Reply.TheVariants as r
use Rattle.ideal_heap.specs.Ideal.{step, set_register, set_global, global_reply}
use Rattle.object_model.specs.Objects.{HeapState, with_words, name_at, global_at}
use Rattle.object_model.specs.Graphs.{MutatorState, PointsTo, register_at, with_register}
use Rattle.object_model.specs.Steps.{IsStep}
use Rattle.object_model.proofs.GlobalStores as globals
use Rattle.object_model.proofs.Representation.{pointed}
use Rattle.object_model.proofs.StepCases.{outcome, register-step, register-points, register-in}
use Rattle.object_model.proofs.WordSteps.{word-step}

-- nil represents nil alone
pub points-nil : (s : HeapState) (v : ℕ) (o : Option Name) → PointsTo s v o → v ≡ 0 → o ≡ None
points-nil s v None p nil = refl
points-nil s v (Some n) p nil = absurd (let some : 0 < v = p.0 in omega arith)

-- one register gets the value of another
pub move-register : (s : HeapState) (m : MutatorState) (d e : ℕ) → d < 16 → e < 16 → IsStep s m (c.Move d e) r.Done s (with_register m d (register_at m e))
unfolding step
move-register s m d e low small = register-step s m (c.Move d e) r.Done d (register_at m e) (λ h. h.registers m.number e) low
    (λ ms h set model among. refl) (λ ms h set model among. register-points s ms h set model m among e small) (λ ms h set model among some. register-in s ms h set model m among e small some) (λ n same. cc)

-- a register becomes nil
pub drop-register : (s : HeapState) (m : MutatorState) (e : ℕ) → e < 16 → IsStep s m (c.DropReg e) r.Done s (with_register m e 0)
unfolding step
drop-register s m e small = register-step s m (c.DropReg e) r.Done e 0 (λ h. None) small
    (λ ms h set model among. refl) (λ ms h set model among. refl) (λ ms h set model among some. absurd (some refl)) (λ n same. cc)

-- a global that is nil
pub load-nil : (s : HeapState) (m : MutatorState) (d g : ℕ) → d < 16 → g < 16 → global_at s g ≡ 0 → IsStep s m (c.Load d g) r.Nil s (with_register m d 0)
unfolding step
load-nil s m d g low few nil = register-step s m (c.Load d g) r.Nil d 0 (λ h. None) low
    (λ ms h set model among. ap (λ o. outcome (global_reply o) (set_register h m.number d o)) (points-nil s (global_at s g) (h.globals g) (model.pointers.globals g few) nil))
    (λ ms h set model among. refl) (λ ms h set model among some. absurd (some refl)) (λ n same. cc)

-- and one that names an object
pub load-ref : (s : HeapState) (m : MutatorState) (d g : ℕ) → d < 16 → g < 16 → global_at s g ≢ 0
    → IsStep s m (c.Load d g) (r.Ref (name_at s (global_at s g))) s (with_register m d (global_at s g))
unfolding step
load-ref s m d g low few some =
    let v : ℕ = global_at s g in
    register-step s m (c.Load d g) (r.Ref (name_at s v)) d v (λ h. Some (name_at s v)) low
    (λ ms h set model among. ap (λ o. outcome (global_reply o) (set_register h m.number d o)) (pointed s v (h.globals g) (model.pointers.globals g few) some))
    (λ ms h set model among. (omega arith, model.mirrors.held v (model.mirrors.globals g few some), refl))
    (λ ms h set model among other. model.mirrors.globals g few some) (λ n same. cc)

-- a global gets the value of a register
pub share-global : (s : HeapState) (m : MutatorState) (g e : ℕ) → g < 16 → e < 16
    → IsStep s m (c.Share g e) r.Done (with_words s (slice_set s.words (first s.blocks Globals + g) (register_at m e))) m
unfolding step
share-global s m g e few small =
    word-step s (slice_set s.words (first s.blocks Globals + g) (register_at m e)) m (c.Share g e) r.Done (λ h. set_global h g (h.registers m.number e))
    (globals.keeps s g (register_at m e) few)
    (λ ms h set model among. refl)
    (λ ms h set model among. globals.global-set s ms h set model g (register_at m e) (h.registers m.number e) few (register-points s ms h set model m among e small) (register-in s ms h set model m among e small))
    (λ n same. cc)
