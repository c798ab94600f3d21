-- The steps of commands that change a number depending on its old value.
use Rattle.std.proofs.Common.{◌≡◌, ◌≢◌, sym, ◌∙◌, ap, subst, ℕ, ◌+◌, ◌%◌, ◌^◌, ◌<◌, arith, List, length, nat_eq, slice_set, eq-eqb}
use Rattle.std.specs.Prelude.{if◌then◌else◌}
use Rattle.std.proofs.lemmas.Bool.{cond-true, cond-false, ne_eqb}
use Rattle.std.specs.List.{Contains}
use Rattle.ideal_heap.specs.declared.name.Name.{Name}
use Rattle.ideal_heap.specs.declared.command.Command.{Command}
use Rattle.ideal_heap.specs.declared.command.Command.TheVariants as c
use Rattle.ideal_heap.specs.declared.reply.Reply.{Reply}
use Rattle.ideal_heap.specs.declared.reply.Reply.TheVariants as r
use Rattle.ideal_heap.specs.Ideal.{IdealHeap, step, record_of, set_record, put_number}
use Rattle.ideal_heap.proofs.StepLemmas.{num-within, writing, adding, swapping}
use Rattle.object_model.specs.Objects.{HeapState, with_words, IsHeld, name_at, refs_at, nums_at, num_at}
use Rattle.object_model.specs.Lawful.{IsWellFormed}
use Rattle.object_model.specs.Graphs.{MutatorState, register_at}
use Rattle.object_model.specs.Agreement.{RepresentsOn}
use Rattle.object_model.specs.Steps.{IsStep}
use Rattle.object_model.proofs.Numbers.{number-set}
use Rattle.object_model.proofs.StepCases.{outcome, still-step, register-in, register-named, count-numbers, number-read}
use Rattle.object_model.proofs.Stores as stores
use Rattle.object_model.proofs.WordSteps.{word-step}

-- a step that sets a number, with any reply
pub number-step : (s : HeapState) (m : MutatorState) (command : Command) (reply : Reply) (e j v : ℕ) → IsWellFormed s → IsHeld s (register_at m e) → e < 16 → register_at m e ≢ 0 → j < nums_at s (register_at m e) → v < 2 ^ 64
    → ((ms : List MutatorState) (h : IdealHeap) (set : ℕ → Type 0) → RepresentsOn s ms h set → Contains ms m → step h m.number command ≡ outcome reply (set_record h (name_at s (register_at m e)) (put_number (record_of h (name_at s (register_at m e))) j v)))
    → ((n : Name) → reply ≢ r.New n)
    → IsStep s m command reply (with_words s (slice_set s.words (register_at m e + 3 + refs_at s (register_at m e) + j) v)) m
number-step s m command reply e j v order held small some less fits steps no_birth =
    let a : ℕ = register_at m e in
    let at : a + 3 + refs_at s a + j ≡ a + (3 + refs_at s a + j) = omega arith in
    subst (λ (i : ℕ). IsStep s m command reply (with_words s (slice_set s.words i v)) m) (sym at)
    (word-step s (slice_set s.words (a + (3 + refs_at s a + j)) v) m command reply (λ h. set_record h (name_at s a) (put_number (record_of h (name_at s a)) j v))
    (stores.keeps s order a (3 + refs_at s a + j) v held (omega arith) (omega arith))
    steps
    (λ ms h set model among. number-set s ms h set model a j v (register-in s ms h set model m among e small some) less fits)
    no_birth)

-- a number is set
pub write-number : (s : HeapState) (m : MutatorState) (e j v : ℕ) → IsWellFormed s → IsHeld s (register_at m e) → e < 16 → register_at m e ≢ 0 → j < nums_at s (register_at m e) → v < 2 ^ 64
    → IsStep s m (c.Write e j v) r.Done (with_words s (slice_set s.words (register_at m e + 3 + refs_at s (register_at m e) + j) v)) m
unfolding step
write-number s m e j v order held small some less fits =
    let a : ℕ = register_at m e in
    number-step s m (c.Write e j v) r.Done e j v order held small some less fits
    (λ ms h set model among. num-within h (h.registers m.number e) j (writing h j v) (name_at s a) (register-named s ms h set model m among e small some)
    (let many : length (record_of h (name_at s a)).nums ≡ nums_at s a = count-numbers s ms h set model m among e small some in omega arith))
    (λ n same. cc)

-- a number is added to, and the reply is its old value
pub add-number : (s : HeapState) (m : MutatorState) (e j n : ℕ) → IsWellFormed s → IsHeld s (register_at m e) → e < 16 → register_at m e ≢ 0 → j < nums_at s (register_at m e)
    → IsStep s m (c.Add e j n) (r.Num (num_at s (register_at m e) j))
    (with_words s (slice_set s.words (register_at m e + 3 + refs_at s (register_at m e) + j) ((num_at s (register_at m e) j + n) % 2 ^ 64))) m
unfolding step
add-number s m e j n order held small some less =
    let a : ℕ = register_at m e in
    number-step s m (c.Add e j n) (r.Num (num_at s a j)) e j ((num_at s a j + n) % 2 ^ 64) order held small some less (omega arith)
    (λ ms h set model among. num-within h (h.registers m.number e) j (adding h j n) (name_at s a) (register-named s ms h set model m among e small some)
    (let many : length (record_of h (name_at s a)).nums ≡ nums_at s a = count-numbers s ms h set model m among e small some in omega arith)
    ∙ ap (λ x. outcome (r.Num x) (set_record h (name_at s a) (put_number (record_of h (name_at s a)) j ((x + n) % 2 ^ 64)))) (number-read s ms h set model m among e small j some less))
    (λ k same. cc)

-- the new number after a swap, by the old one
swaps : (s : HeapState) (m : MutatorState) (e j was next : ℕ) → e < 16 → register_at m e ≢ 0 → j < nums_at s (register_at m e)
    → (ms : List MutatorState) (h : IdealHeap) (set : ℕ → Type 0) → RepresentsOn s ms h set → Contains ms m
    → step h m.number (c.Swap e j was next) ≡ (if nat_eq (num_at s (register_at m e) j) was
    then outcome r.Yes (set_record h (name_at s (register_at m e)) (put_number (record_of h (name_at s (register_at m e))) j next)) else outcome r.No h)
unfolding step
swaps s m e j was next small some less ms h set model among =
    let a : ℕ = register_at m e in
    num-within h (h.registers m.number e) j (swapping h j was next) (name_at s a) (register-named s ms h set model m among e small some)
    (let many : length (record_of h (name_at s a)).nums ≡ nums_at s a = count-numbers s ms h set model m among e small some in omega arith)
    ∙ ap (λ x. if nat_eq x was then outcome r.Yes (set_record h (name_at s a) (put_number (record_of h (name_at s a)) j next)) else outcome r.No h) (number-read s ms h set model m among e small j some less)

-- the number is the expected one, and becomes the next
pub swap-yes : (s : HeapState) (m : MutatorState) (e j was next : ℕ) → IsWellFormed s → IsHeld s (register_at m e) → e < 16 → register_at m e ≢ 0 → j < nums_at s (register_at m e)
    → num_at s (register_at m e) j ≡ was → next < 2 ^ 64
    → IsStep s m (c.Swap e j was next) r.Yes (with_words s (slice_set s.words (register_at m e + 3 + refs_at s (register_at m e) + j) next)) m
swap-yes s m e j was next order held small some less same fits =
    number-step s m (c.Swap e j was next) r.Yes e j next order held small some less fits
    (λ ms h set model among. swaps s m e j was next small some less ms h set model among ∙ cond-true (nat_eq (num_at s (register_at m e) j) was) _ _ (eq-eqb (num_at s (register_at m e) j) was same))
    (λ k new. cc)

-- the number is not the expected one
pub swap-no : (s : HeapState) (m : MutatorState) (e j was next : ℕ) → e < 16 → register_at m e ≢ 0 → j < nums_at s (register_at m e)
    → num_at s (register_at m e) j ≢ was → IsStep s m (c.Swap e j was next) r.No s m
swap-no s m e j was next small some less other = still-step s m (c.Swap e j was next) r.No
    (λ ms h set model among. swaps s m e j was next small some less ms h set model among ∙ cond-false (nat_eq (num_at s (register_at m e) j) was) _ _ (ne_eqb (num_at s (register_at m e) j) was other))
    (λ k new. cc)
