-- The steps of commands, case by case.
use Rattle.std.proofs.Common.{◌≡◌, ◌≢◌, refl, sym, ◌∙◌, ap, subst, ℕ, ◌<◌, ◌≤◌, arith, List, length, Some, None, Option, slice_index, zero-add}
use Rattle.std.specs.Prelude.{unwrap_or}
use Rattle.std.specs.List.{Contains}
use Rattle.std.proofs.lemmas.Option.{unwrap_or-slice_get}
use Rattle.std.proofs.lemmas.List.FromFn.{length-map-range_with_len, get_or-map-range_with_len}
use Rattle.ideal_heap.specs.declared.name.Name.{Name}
use Rattle.ideal_heap.specs.declared.command.Command.{Command}
use Rattle.ideal_heap.specs.declared.command.Command.TheVariants as c
use Rattle.ideal_heap.specs.declared.reply.Reply.{Reply}
use Rattle.ideal_heap.specs.declared.reply.Reply.TheVariants as r
use Rattle.ideal_heap.specs.Ideal.{IdealHeap, Outcome, Nil, step, record_of, field_at, field_reply, name_of_field, set_register, no_fields}
use Rattle.ideal_heap.proofs.StepLemmas.{object-null, ref-past, ref-within, num-past, num-within, getting, reading, writing}
use Rattle.object_model.specs.Objects.{HeapState, IsHeld, name_at, refs_at, nums_at, ref_at, num_at, record_at, field_of_word}
use Rattle.object_model.specs.Graphs.{MutatorState, PointsTo, register_at, with_register, with_mutator}
use Rattle.object_model.specs.Agreement.{RepresentsOn}
use Rattle.object_model.specs.Changes.{ObjectsStay}
use Rattle.object_model.specs.Steps.{IsStep}
use Rattle.object_model.proofs.Representation.{pointed, word-named, nil-word}
use Rattle.object_model.proofs.References.{refers, nil-refers}
use Rattle.object_model.proofs.Registers.{register-models}
use Rattle.object_model.proofs.Among.{all-at, number-among, with-itself, with-register-set}

-- nothing changes
pub keeps-self : (s : HeapState) → ObjectsStay s s
keeps-self s = record {
  blocks = refl;
  number = refl;
  base = refl;
  extent = refl;
  starts = λ a. refl;
  unlogs = λ a set. set;
  lines = λ k line there small. refl;
  block_words = λ k there. refl;
  headers = λ a i holds small. refl;
}

abbrev pub outcome : Reply → IdealHeap → Outcome
outcome reply h = (reply, h)

-- a step that changes neither heap nor registers
pub still-step : (s : HeapState) (m : MutatorState) (command : Command) (reply : Reply)
    → ((ms : List MutatorState) (h : IdealHeap) (set : ℕ → Type 0) → RepresentsOn s ms h set → Contains ms m → step h m.number command ≡ outcome reply h) → ((n : Name) → reply ≢ r.New n) → IsStep s m command reply s m
still-step s m command reply same no_birth = record {
  keeps = keeps-self s;
  number = refl;
  births = refl;
  answers = λ ms h set model among. sym (ap (λ o. o.0) (same ms h set model among));
  models = λ ms h set model among. subst (λ (x : IdealHeap). RepresentsOn s (with_mutator ms m) x set) (sym (ap (λ o. o.1) (same ms h set model among)))
      (subst (λ (ns : List MutatorState). RepresentsOn s ns h set) (sym (with-itself ms m among model.mutators.differ)) model);
  no_birth = no_birth;
}

module _ (s : HeapState) (ms : List MutatorState) (h : IdealHeap) (set : ℕ → Type 0) (model : RepresentsOn s ms h set) (m : MutatorState) (among : Contains ms m) (e : ℕ) (small : e < 16) where
  abbrev a : ℕ
  a = register_at m e

  pub register-points : PointsTo s a (h.registers m.number e)
  register-points = all-at (λ x. (d : ℕ) → d < 16 → PointsTo s (register_at x d) (h.registers x.number d)) ms m model.pointers.registers among e small

  pub register-in : a ≢ 0 → set a
  register-in = all-at (λ x. (d : ℕ) → d < 16 → register_at x d ≢ 0 → set (register_at x d)) ms m model.mirrors.registers among e small

  pub register-nil : a ≡ 0 → h.registers m.number e ≡ None
  register-nil nil = named-nil (h.registers m.number e) register-points
    where
      named-nil : (o : Option Name) → PointsTo s a o → o ≡ None
      named-nil None p = refl
      named-nil (Some n) p = absurd (let some : 0 < a = p.0 in omega arith)

  pub register-held : a ≢ 0 → IsHeld s a
  register-held some = model.mirrors.held a (register-in some)

  pub register-named : a ≢ 0 → h.registers m.number e ≡ Some (name_at s a)
  register-named some = pointed s a (h.registers m.number e) register-points some

  pub register-record : a ≢ 0 → record_of h (name_at s a) ≡ record_at s a
  register-record some = ap (λ x. unwrap_or x no_fields) (model.mirrors.records a (register-in some))

  pub count-numbers : a ≢ 0 → length (record_of h (name_at s a)).nums ≡ nums_at s a
  count-numbers some = ap (λ x. length x.nums) (register-record some) ∙ length-map-range_with_len (λ j. num_at s a j) 0 (nums_at s a)

  pub count-fields : a ≢ 0 → length (record_of h (name_at s a)).refs ≡ refs_at s a
  count-fields some = ap (λ x. length x.refs) (register-record some) ∙ length-map-range_with_len (λ i. field_of_word s (ref_at s a i)) 0 (refs_at s a)

  pub number-read : (j : ℕ) → a ≢ 0 → j < nums_at s a → slice_index (record_of h (name_at s a)).nums j ≡ num_at s a j
  number-read j some less = ap (λ x. slice_index x.nums j) (register-record some) ∙ get_or-map-range_with_len (λ k. num_at s a k) 0 (nums_at s a) j j 0 less (zero-add j)

  pub field-read : (i : ℕ) → a ≢ 0 → i < refs_at s a → field_at (record_of h (name_at s a)) i ≡ field_of_word s (ref_at s a i)
  field-read i some less = ap (λ x. field_at x i) (register-record some)
      ∙ unwrap_or-slice_get (record_at s a).refs i Nil ∙ get_or-map-range_with_len (λ k. field_of_word s (ref_at s a k)) 0 (refs_at s a) i i Nil less (zero-add i)

-- `null`
pub read-null : (s : HeapState) (m : MutatorState) (e j : ℕ) → e < 16 → register_at m e ≡ 0 → IsStep s m (c.Read e j) r.Null s m
unfolding step
read-null s m e j small nil = still-step s m (c.Read e j) r.Null (λ ms h set model among. object-null h (h.registers m.number e) _ (register-nil s ms h set model m among e small nil)) (λ n same. cc)

pub write-null : (s : HeapState) (m : MutatorState) (e j v : ℕ) → e < 16 → register_at m e ≡ 0 → IsStep s m (c.Write e j v) r.Null s m
unfolding step
write-null s m e j v small nil = still-step s m (c.Write e j v) r.Null (λ ms h set model among. object-null h (h.registers m.number e) _ (register-nil s ms h set model m among e small nil)) (λ n same. cc)

pub get-null : (s : HeapState) (m : MutatorState) (d e i : ℕ) → e < 16 → register_at m e ≡ 0 → IsStep s m (c.Get d e i) r.Null s m
unfolding step
get-null s m d e i small nil = still-step s m (c.Get d e i) r.Null (λ ms h set model among. object-null h (h.registers m.number e) _ (register-nil s ms h set model m among e small nil)) (λ n same. cc)

-- `range`
pub read-range : (s : HeapState) (m : MutatorState) (e j : ℕ) → e < 16 → register_at m e ≢ 0 → nums_at s (register_at m e) ≤ j → IsStep s m (c.Read e j) r.Range s m
unfolding step
read-range s m e j small some past = still-step s m (c.Read e j) r.Range (λ ms h set model among. num-past h (h.registers m.number e) j (reading h j) (name_at s (register_at m e)) (register-named s ms h set model m among e small some)
    (let many : length (record_of h (name_at s (register_at m e))).nums ≡ nums_at s (register_at m e) = count-numbers s ms h set model m among e small some in omega arith)) (λ n same. cc)

pub write-range : (s : HeapState) (m : MutatorState) (e j v : ℕ) → e < 16 → register_at m e ≢ 0 → nums_at s (register_at m e) ≤ j → IsStep s m (c.Write e j v) r.Range s m
unfolding step
write-range s m e j v small some past = still-step s m (c.Write e j v) r.Range (λ ms h set model among. num-past h (h.registers m.number e) j (writing h j v) (name_at s (register_at m e)) (register-named s ms h set model m among e small some)
    (let many : length (record_of h (name_at s (register_at m e))).nums ≡ nums_at s (register_at m e) = count-numbers s ms h set model m among e small some in omega arith)) (λ n same. cc)

pub get-range : (s : HeapState) (m : MutatorState) (d e i : ℕ) → e < 16 → register_at m e ≢ 0 → refs_at s (register_at m e) ≤ i → IsStep s m (c.Get d e i) r.Range s m
unfolding step
get-range s m d e i small some past = still-step s m (c.Get d e i) r.Range (λ ms h set model among. ref-past h (h.registers m.number e) i (getting h m.number d i) (name_at s (register_at m e)) (register-named s ms h set model m among e small some)
    (let many : length (record_of h (name_at s (register_at m e))).refs ≡ refs_at s (register_at m e) = count-fields s ms h set model m among e small some in omega arith)) (λ n same. cc)

-- the reply is a number
pub read-number : (s : HeapState) (m : MutatorState) (e j : ℕ) → e < 16 → register_at m e ≢ 0 → j < nums_at s (register_at m e)
    → IsStep s m (c.Read e j) (r.Num (num_at s (register_at m e) j)) s m
unfolding step
read-number s m e j small some less = still-step s m (c.Read e j) (r.Num (num_at s (register_at m e) j)) (λ ms h set model among.
    num-within h (h.registers m.number e) j (reading h j) (name_at s (register_at m e)) (register-named s ms h set model m among e small some)
    (let many : length (record_of h (name_at s (register_at m e))).nums ≡ nums_at s (register_at m e) = count-numbers s ms h set model m among e small some in omega arith)
    ∙ ap (λ x. outcome (r.Num x) h) (number-read s ms h set model m among e small j some less)) (λ n same. cc)

-- a step that sets a register of the mutator, with any reply
pub register-step : (s : HeapState) (m : MutatorState) (command : Command) (reply : Reply) (d v : ℕ) (o : IdealHeap → Option Name) → d < 16
    → ((ms : List MutatorState) (h : IdealHeap) (set : ℕ → Type 0) → RepresentsOn s ms h set → Contains ms m → step h m.number command ≡ outcome reply (set_register h m.number d (o h)))
    → ((ms : List MutatorState) (h : IdealHeap) (set : ℕ → Type 0) → RepresentsOn s ms h set → Contains ms m → PointsTo s v (o h))
    → ((ms : List MutatorState) (h : IdealHeap) (set : ℕ → Type 0) → RepresentsOn s ms h set → Contains ms m → v ≢ 0 → set v)
    → ((n : Name) → reply ≢ r.New n) → IsStep s m command reply s (with_register m d v)
register-step s m command reply d v o small steps points inset no_birth = record {
  keeps = keeps-self s;
  number = refl;
  births = refl;
  answers = λ ms h set model among. sym (ap (λ x. x.0) (steps ms h set model among));
  models = λ ms h set model among. subst (λ (x : IdealHeap). RepresentsOn s (with_mutator ms (with_register m d v)) x set) (sym (ap (λ x. x.1) (steps ms h set model among)))
      (subst (λ (ns : List MutatorState). RepresentsOn s ns (set_register h m.number d (o h)) set) (with-register-set ms m among model.mutators.differ d v)
      (register-models s ms h set model m.number d v (o h) small (number-among ms m among) (points ms h set model among) (inset ms h set model among)));
  no_birth = no_birth;
}

-- a field that is nil
pub get-nil : (s : HeapState) (m : MutatorState) (d e i : ℕ) → d < 16 → e < 16 → register_at m e ≢ 0 → i < refs_at s (register_at m e) → ref_at s (register_at m e) i ≡ 0
    → IsStep s m (c.Get d e i) r.Nil s (with_register m d 0)
unfolding step
get-nil s m d e i low small some less nil = register-step s m (c.Get d e i) r.Nil d 0 (λ h. None) low
    (λ ms h set model among. ref-within h (h.registers m.number e) i (getting h m.number d i) (name_at s (register_at m e)) (register-named s ms h set model m among e small some)
    (let many : length (record_of h (name_at s (register_at m e))).refs ≡ refs_at s (register_at m e) = count-fields s ms h set model m among e small some in omega arith)
    ∙ ap (λ f. outcome (field_reply f) (set_register h m.number d (name_of_field f))) (field-read s ms h set model m among e small i some less ∙ nil-word s (ref_at s (register_at m e) i) (nil-refers (ref_at s (register_at m e) i) nil)))
    (λ ms h set model among. refl) (λ ms h set model among other. absurd (other refl)) (λ n same. cc)

-- and one that names an object
pub get-ref : (s : HeapState) (m : MutatorState) (d e i : ℕ) → d < 16 → e < 16 → register_at m e ≢ 0 → i < refs_at s (register_at m e) → ref_at s (register_at m e) i ≢ 0
    → IsStep s m (c.Get d e i) (r.Ref (name_at s (ref_at s (register_at m e) i))) s (with_register m d (ref_at s (register_at m e) i))
unfolding step
get-ref s m d e i low small some less there =
    let v : ℕ = ref_at s (register_at m e) i in
    register-step s m (c.Get d e i) (r.Ref (name_at s v)) d v (λ h. Some (name_at s v)) low
    (λ ms h set model among. ref-within h (h.registers m.number e) i (getting h m.number d i) (name_at s (register_at m e)) (register-named s ms h set model m among e small some)
    (let many : length (record_of h (name_at s (register_at m e))).refs ≡ refs_at s (register_at m e) = count-fields s ms h set model m among e small some in omega arith)
    ∙ ap (λ f. outcome (field_reply f) (set_register h m.number d (name_of_field f))) (field-read s ms h set model m among e small i some less ∙ word-named s v (refers v there)))
    (λ ms h set model among. (omega arith, model.mirrors.held v (model.mirrors.fields (register_at m e) i (register-in s ms h set model m among e small some) less (refers v there)), refl))
    (λ ms h set model among other. model.mirrors.fields (register_at m e) i (register-in s ms h set model m among e small some) less (refers v there)) (λ n same. cc)
