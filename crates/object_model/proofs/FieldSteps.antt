-- The step that sets a reference field.
use Rattle.std.proofs.Common.{◌≡◌, ◌≢◌, sym, ◌∙◌, ap, subst, ℕ, ◌+◌, ◌<◌, arith, length, Some, None, Option, slice_set}
use Rattle.ideal_heap.specs.declared.name.Name.{Name}
use Rattle.ideal_heap.specs.declared.command.Command.TheVariants as c
use Rattle.ideal_heap.specs.declared.reply.Reply.TheVariants as r
use Rattle.ideal_heap.specs.Ideal.{At, step, record_of, set_record, put_field, field_of}
use Rattle.ideal_heap.proofs.StepLemmas.{ref-within, putting}
use Rattle.object_model.specs.Objects.{HeapState, with_words, IsHeld, name_at, refs_at, field_of_word}
use Rattle.object_model.specs.Lawful.{IsWellFormed}
use Rattle.object_model.specs.Graphs.{MutatorState, PointsTo, register_at}
use Rattle.object_model.specs.Steps.{IsStep}
use Rattle.object_model.proofs.FieldStores.{field-set}
use Rattle.object_model.proofs.References.{held-refers, nil-refers}
use Rattle.object_model.proofs.Representation.{word-named, nil-word}
use Rattle.object_model.proofs.StepCases.{outcome, register-points, register-in, register-named, count-fields}
use Rattle.object_model.proofs.Stores as stores
use Rattle.object_model.proofs.WordSteps.{word-step}

-- the ideal field that a word represents has the name that the word represents
pub points-field : (s : HeapState) (v : ℕ) (o : Option Name) → PointsTo s v o → field_of o ≡ field_of_word s v
points-field s v None nil = sym (nil-word s v (nil-refers v nil))
points-field s v (Some n) there = ap (λ k. At k) (sym there.2) ∙ sym (word-named s v (held-refers s v there.1))

-- a field gets the value of register q
pub put-field : (s : HeapState) (m : MutatorState) (e i q : ℕ) → IsWellFormed s → IsHeld s (register_at m e) → e < 16 → q < 16 → register_at m e ≢ 0 → i < refs_at s (register_at m e)
    → IsStep s m (c.Put e i q) r.Done (with_words s (slice_set s.words (register_at m e + 3 + i) (register_at m q))) m
unfolding step
put-field s m e i q order held small low some less =
    let a : ℕ = register_at m e in
    let v : ℕ = register_at m q in
    let at : a + 3 + i ≡ a + (3 + i) = omega arith in
    subst (λ (k : ℕ). IsStep s m (c.Put e i q) r.Done (with_words s (slice_set s.words k v)) m) (sym at)
    (word-step s (slice_set s.words (a + (3 + i)) v) m (c.Put e i q) r.Done (λ h. set_record h (name_at s a) (put_field (record_of h (name_at s a)) i (field_of_word s v)))
    (stores.keeps s order a (3 + i) v held (omega arith) (omega arith))
    (λ ms h set model among. ref-within h (h.registers m.number e) i (putting h m.number i q) (name_at s a) (register-named s ms h set model m among e small some)
    (let many : length (record_of h (name_at s a)).refs ≡ refs_at s a = count-fields s ms h set model m among e small some in omega arith)
    ∙ ap (λ f. outcome r.Done (set_record h (name_at s a) (put_field (record_of h (name_at s a)) i f))) (points-field s v (h.registers m.number q) (register-points s ms h set model m among q low)))
    (λ ms h set model among. field-set s ms h set model a i v (register-in s ms h set model m among e small some) less (register-in s ms h set model m among q low))
    (λ n same. cc))
