-- The steps that reply `null` and `range`, and change nothing.
use Rattle.std.proofs.Common.{◌≡◌, ◌≢◌, ℕ, ◌<◌, ◌≤◌, arith, length}
use Rattle.ideal_heap.specs.declared.command.Command.TheVariants as c
use Rattle.ideal_heap.specs.declared.reply.Reply.TheVariants as r
use Rattle.ideal_heap.specs.Ideal.{step, record_of}
use Rattle.ideal_heap.proofs.StepLemmas.{object-null, ref-past, num-past, putting, adding, swapping}
use Rattle.object_model.specs.Objects.{HeapState, name_at, refs_at, nums_at}
use Rattle.object_model.specs.Graphs.{MutatorState, register_at}
use Rattle.object_model.specs.Steps.{IsStep}
use Rattle.object_model.proofs.StepCases.{still-step, register-nil, register-named, count-numbers, count-fields}

-- `null`
pub put-null : (s : HeapState) (m : MutatorState) (e i q : ℕ) → e < 16 → register_at m e ≡ 0 → IsStep s m (c.Put e i q) r.Null s m
unfolding step
put-null s m e i q small nil = still-step s m (c.Put e i q) r.Null (λ ms h set model among. object-null h (h.registers m.number e) _ (register-nil s ms h set model m among e small nil)) (λ n same. cc)

pub add-null : (s : HeapState) (m : MutatorState) (e j n : ℕ) → e < 16 → register_at m e ≡ 0 → IsStep s m (c.Add e j n) r.Null s m
unfolding step
add-null s m e j n small nil = still-step s m (c.Add e j n) r.Null (λ ms h set model among. object-null h (h.registers m.number e) _ (register-nil s ms h set model m among e small nil)) (λ k same. cc)

pub swap-null : (s : HeapState) (m : MutatorState) (e j was next : ℕ) → e < 16 → register_at m e ≡ 0 → IsStep s m (c.Swap e j was next) r.Null s m
unfolding step
swap-null s m e j was next small nil = still-step s m (c.Swap e j was next) r.Null (λ ms h set model among. object-null h (h.registers m.number e) _ (register-nil s ms h set model m among e small nil)) (λ n same. cc)

pub pin-null : (s : HeapState) (m : MutatorState) (e : ℕ) → e < 16 → register_at m e ≡ 0 → IsStep s m (c.Pin e) r.Null s m
unfolding step
pin-null s m e small nil = still-step s m (c.Pin e) r.Null (λ ms h set model among. object-null h (h.registers m.number e) _ (register-nil s ms h set model m among e small nil)) (λ n same. cc)

pub unpin-null : (s : HeapState) (m : MutatorState) (e : ℕ) → e < 16 → register_at m e ≡ 0 → IsStep s m (c.Unpin e) r.Null s m
unfolding step
unpin-null s m e small nil = still-step s m (c.Unpin e) r.Null (λ ms h set model among. object-null h (h.registers m.number e) _ (register-nil s ms h set model m among e small nil)) (λ n same. cc)

-- `range`
pub put-range : (s : HeapState) (m : MutatorState) (e i q : ℕ) → e < 16 → register_at m e ≢ 0 → refs_at s (register_at m e) ≤ i → IsStep s m (c.Put e i q) r.Range s m
unfolding step
put-range s m e i q small some past = still-step s m (c.Put e i q) r.Range (λ ms h set model among. ref-past h (h.registers m.number e) i (putting h m.number i q) (name_at s (register_at m e)) (register-named s ms h set model m among e small some)
    (let many : length (record_of h (name_at s (register_at m e))).refs ≡ refs_at s (register_at m e) = count-fields s ms h set model m among e small some in omega arith)) (λ n same. cc)

pub add-range : (s : HeapState) (m : MutatorState) (e j n : ℕ) → e < 16 → register_at m e ≢ 0 → nums_at s (register_at m e) ≤ j → IsStep s m (c.Add e j n) r.Range s m
unfolding step
add-range s m e j n small some past = still-step s m (c.Add e j n) r.Range (λ ms h set model among. num-past h (h.registers m.number e) j (adding h j n) (name_at s (register_at m e)) (register-named s ms h set model m among e small some)
    (let many : length (record_of h (name_at s (register_at m e))).nums ≡ nums_at s (register_at m e) = count-numbers s ms h set model m among e small some in omega arith)) (λ k same. cc)

pub swap-range : (s : HeapState) (m : MutatorState) (e j was next : ℕ) → e < 16 → register_at m e ≢ 0 → nums_at s (register_at m e) ≤ j → IsStep s m (c.Swap e j was next) r.Range s m
unfolding step
swap-range s m e j was next small some past = still-step s m (c.Swap e j was next) r.Range (λ ms h set model among. num-past h (h.registers m.number e) j (swapping h j was next) (name_at s (register_at m e)) (register-named s ms h set model m among e small some)
    (let many : length (record_of h (name_at s (register_at m e))).nums ≡ nums_at s (register_at m e) = count-numbers s ms h set model m among e small some in omega arith)) (λ n same. cc)
