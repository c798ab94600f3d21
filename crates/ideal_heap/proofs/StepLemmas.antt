-- What a step preserves, from what each of its changes preserves.
use Rattle.std.proofs.Common.{ap, arith, ◌≡◌, ℕ, ◌+◌, ◌%◌, ◌^◌, ◌<◌, ◌≤◌, Bool, true, false, nat_eq, refl, sym, ◌∙◌, subst, inl, inr, Option, Some, None, length, slice_index, if◌then◌else◌, length-set}
use Rattle.ideal_heap.specs.declared.name.Name.{Name}
use Rattle.ideal_heap.specs.declared.command.Command.{Command}
use Rattle.ideal_heap.specs.declared.command.Command.TheVariants as c
use Rattle.ideal_heap.specs.declared.reply.Reply.TheVariants as r
use Rattle.ideal_heap.specs.Commands.{IsValid}
use Rattle.ideal_heap.specs.Ideal.{IdealHeap, Record, Field, Nil, At, Outcome, set_register, set_global, set_record, set_pinned, record_of, field_at, field_of, put_field, put_number, name_of_field, global_reply, field_reply, on_object, in_range, on_ref, on_num, with_new, step, HasRecord, IsClosed, HasShapeOf}
use Rattle.ideal_heap.specs.Runs.{is_full}
use Rattle.ideal_heap.proofs.UpdateLemmas.{nat_lt-cases, field-cases, name_in-at, field_of-at, field-born, number-born}

-- a fact of an outcome, from the outcomes that a command can have

pub by_range : (P : Outcome → Type 0) (h : IdealHeap) (i len : ℕ) (o : Outcome) → P (r.Range, h) → (i < len → P o) → P (in_range h i len o)
by_range P h i len o range some = elim (nat_lt-cases i len) [
  | inl is ↦ subst (λ b. P (if b then o else (r.Range, h))) (sym is.0) (some is.1)
  | inr not ↦ subst (λ b. P (if b then o else (r.Range, h))) (sym not.0) range
]

pub by_object : (P : Outcome → Type 0) (h : IdealHeap) (o : Option Name) (f : Name → Outcome) → P (r.Null, h) → ((n : Name) → o ≡ Some n → P (f n)) → P (on_object h o f)
by_object P h None f null some = null
by_object P h (Some n) f null some = some n refl

pub by_ref : (P : Outcome → Type 0) (h : IdealHeap) (o : Option Name) (i : ℕ) (f : Name → Record → Outcome) → P (r.Null, h) → P (r.Range, h)
    → ((n : Name) → o ≡ Some n → i < length (record_of h n).refs → P (f n (record_of h n))) → P (on_ref h o i f)
by_ref P h o i f null range some = by_object P h o (λ n. in_range h i (length (record_of h n).refs) (f n (record_of h n))) null
    (λ n is. by_range P h i (length (record_of h n).refs) (f n (record_of h n)) range (some n is))

pub by_num : (P : Outcome → Type 0) (h : IdealHeap) (o : Option Name) (j : ℕ) (f : Name → Record → Outcome) → P (r.Null, h) → P (r.Range, h)
    → ((n : Name) → o ≡ Some n → j < length (record_of h n).nums → P (f n (record_of h n))) → P (on_num h o j f)
by_num P h o j f null range some = by_object P h o (λ n. in_range h j (length (record_of h n).nums) (f n (record_of h n))) null
    (λ n is. by_range P h j (length (record_of h n).nums) (f n (record_of h n)) range (some n is))

by_test : (P : Outcome → Type 0) (b : Bool) (x y : Outcome) → P x → P y → P (if b then x else y)
by_test P true x y px py = px
by_test P false x y px py = py

-- the outcome of a command on an object, as in the step

abbrev pub getting : IdealHeap → ℕ → ℕ → ℕ → Name → Record → Outcome
getting h m d i n x = (field_reply (field_at x i), set_register h m d (name_of_field (field_at x i)))

abbrev pub putting : IdealHeap → ℕ → ℕ → ℕ → Name → Record → Outcome
putting h m i v n x = (r.Done, set_record h n (put_field x i (field_of (h.registers m v))))

abbrev pub reading : IdealHeap → ℕ → Name → Record → Outcome
reading h j n x = (r.Num (slice_index x.nums j), h)

abbrev pub writing : IdealHeap → ℕ → ℕ → Name → Record → Outcome
writing h j v n x = (r.Done, set_record h n (put_number x j v))

abbrev pub adding : IdealHeap → ℕ → ℕ → Name → Record → Outcome
adding h j v n x = (r.Num (slice_index x.nums j), set_record h n (put_number x j ((slice_index x.nums j + v) % 2 ^ 64)))

abbrev pub swapping : IdealHeap → ℕ → ℕ → ℕ → Name → Record → Outcome
swapping h j u v n x = if nat_eq (slice_index x.nums j) u then (r.Yes, set_record h n (put_number x j v)) else (r.No, h)

abbrev pub pinning : IdealHeap → Name → Outcome
pinning h n = ((if h.pinned n then r.No else r.Yes), set_pinned h n true)

abbrev pub unpinning : IdealHeap → Name → Outcome
unpinning h n = ((if h.pinned n then r.Yes else r.No), set_pinned h n false)

-- a step never refuses

global_reply-answers : (o : Option Name) → is_full (global_reply o) ≡ false
global_reply-answers None = refl
global_reply-answers (Some n) = refl

field_reply-answers : (f : Field) → is_full (field_reply f) ≡ false
field_reply-answers Nil = refl
field_reply-answers (At n) = refl

pin-answers : (b : Bool) → is_full (if b then r.No else r.Yes) ≡ false
pin-answers true = refl
pin-answers false = refl

unpin-answers : (b : Bool) → is_full (if b then r.Yes else r.No) ≡ false
unpin-answers true = refl
unpin-answers false = refl

abbrev Answered : Outcome → Type 0
Answered o = is_full o.0 ≡ false

pub never_full : (h : IdealHeap) (m : ℕ) (c : Command) → is_full (step h m c).0 ≡ false
unfolding step
never_full h m (c.New d refs nums) = refl
never_full h m (c.Get d s i) = by_ref Answered h (h.registers m s) i (getting h m d i) refl refl (λ n is l. field_reply-answers (field_at (record_of h n) i))
never_full h m (c.Put s i v) = by_ref Answered h (h.registers m s) i (putting h m i v) refl refl (λ n is l. refl)
never_full h m (c.Read s j) = by_num Answered h (h.registers m s) j (reading h j) refl refl (λ n is l. refl)
never_full h m (c.Write s j v) = by_num Answered h (h.registers m s) j (writing h j v) refl refl (λ n is l. refl)
never_full h m (c.Add s j v) = by_num Answered h (h.registers m s) j (adding h j v) refl refl (λ n is l. refl)
never_full h m (c.Swap s j u v) = by_num Answered h (h.registers m s) j (swapping h j u v) refl refl
    (λ n is l. by_test Answered (nat_eq (slice_index (record_of h n).nums j) u) (r.Yes, set_record h n (put_number (record_of h n) j v)) (r.No, h) refl refl)
never_full h m (c.Move d s) = refl
never_full h m (c.DropReg s) = refl
never_full h m (c.Load d g) = global_reply-answers (h.globals g)
never_full h m (c.Share g s) = refl
never_full h m (c.Pin s) = by_object Answered h (h.registers m s) (pinning h) refl (λ n is. pin-answers (h.pinned n))
never_full h m (c.Unpin s) = by_object Answered h (h.registers m s) (unpinning h) refl (λ n is. unpin-answers (h.pinned n))
never_full h m c.Gc = refl
never_full h m c.Meet = refl

-- A fact of the heap after a step, from facts of each change that a step makes.
-- IsValid is a premise of the cases, so that a fact that holds for every command needs no valid one.
pub record Changes (P : IdealHeap → Type 0) (h : IdealHeap) (m : ℕ) (c : Command) : Type 0 where
  pub same : P h
  pub created : (d refs nums : ℕ) → (IsValid c → d ≤ 15) → P (with_new h m d refs nums)
  pub register : (d : ℕ) (v : Option Name) → (IsValid c → d ≤ 15) → ((n : Name) → v ≡ Some n → HasRecord h n) → P (set_register h m d v)
  pub global : (g : ℕ) (v : Option Name) → (IsValid c → g ≤ 15) → ((n : Name) → v ≡ Some n → HasRecord h n) → P (set_global h g v)
  pub replaced : (n : Name) (x : Record) → HasRecord h n → HasShapeOf (record_of h n) x → ((i : ℕ) (to : Name) → field_at x i ≡ At to → HasRecord h to) → P (set_record h n x)
  pub pin : (n : Name) (b : Bool) → HasRecord h n → P (set_pinned h n b)

put-fields : (h : IdealHeap) → IsClosed h → (m : ℕ) (n : Name) (i v : ℕ) (j : ℕ) (to : Name)
    → field_at (put_field (record_of h n) i (field_of (h.registers m v))) j ≡ At to → HasRecord h to
put-fields h closed m n i v j to is = elim (field-cases (record_of h n) i (field_of (h.registers m v)) j) [
  | inl stored ↦ closed.registers m v to (field_of-at (h.registers m v) to (sym stored ∙ is))
  | inr kept ↦ closed.fields n to j (sym kept ∙ is)
]

put-shape : (x : Record) (i : ℕ) (f : Field) → HasShapeOf x (put_field x i f)
put-shape x i f = record { refs = length-set x.refs i f; nums = refl }

number-shape : (x : Record) (j v : ℕ) → HasShapeOf x (put_number x j v)
number-shape x j v = record { refs = refl; nums = length-set x.nums j v }

number-put : (P : IdealHeap → Type 0) (h : IdealHeap) (m : ℕ) (c : Command) → IsClosed h → Changes P h m c
    → (n : Name) (j v : ℕ) → j < length (record_of h n).nums → P (set_record h n (put_number (record_of h n) j v))
number-put P h m c closed all n j v l =
    all.replaced n (put_number (record_of h n) j v) (number-born h n j l) (number-shape (record_of h n) j v) (λ i to is. closed.fields n to i is)

pub by_step : (P : IdealHeap → Type 0) (h : IdealHeap) (m : ℕ) (c : Command) → IsClosed h → Changes P h m c → P (step h m c).1
unfolding step
by_step P h m (c.New d refs nums) closed all = all.created d refs nums (λ v. v.0)
by_step P h m (c.Get d s i) closed all = by_ref (λ o. P o.1) h (h.registers m s) i (getting h m d i) all.same all.same
    (λ n is l. all.register d (name_of_field (field_at (record_of h n) i)) (λ v. v.0) (λ to e. closed.fields n to i (name_in-at (field_at (record_of h n) i) to e)))
by_step P h m (c.Put s i v) closed all = by_ref (λ o. P o.1) h (h.registers m s) i (putting h m i v) all.same all.same
    (λ n is l. all.replaced n (put_field (record_of h n) i (field_of (h.registers m v))) (field-born h n i l) (put-shape (record_of h n) i (field_of (h.registers m v))) (put-fields h closed m n i v))
by_step P h m (c.Read s j) closed all = by_num (λ o. P o.1) h (h.registers m s) j (reading h j) all.same all.same (λ n is l. all.same)
by_step P h m (c.Write s j v) closed all = by_num (λ o. P o.1) h (h.registers m s) j (writing h j v) all.same all.same
    (λ n is l. number-put P h m (c.Write s j v) closed all n j v l)
by_step P h m (c.Add s j v) closed all = by_num (λ o. P o.1) h (h.registers m s) j (adding h j v) all.same all.same
    (λ n is l. number-put P h m (c.Add s j v) closed all n j ((slice_index (record_of h n).nums j + v) % 2 ^ 64) l)
by_step P h m (c.Swap s j u v) closed all = by_num (λ o. P o.1) h (h.registers m s) j (swapping h j u v) all.same all.same
    (λ n is l. by_test (λ o. P o.1) (nat_eq (slice_index (record_of h n).nums j) u) (r.Yes, set_record h n (put_number (record_of h n) j v)) (r.No, h)
    (number-put P h m (c.Swap s j u v) closed all n j v l) all.same)
by_step P h m (c.Move d s) closed all = all.register d (h.registers m s) (λ v. v.0) (λ n is. closed.registers m s n is)
by_step P h m (c.DropReg s) closed all = all.register s None (λ v. v) (λ n is. absurd cc)
by_step P h m (c.Load d g) closed all = all.register d (h.globals g) (λ v. v.0) (λ n is. closed.globals g n is)
by_step P h m (c.Share g s) closed all = all.global g (h.registers m s) (λ v. v.0) (λ n is. closed.registers m s n is)
by_step P h m (c.Pin s) closed all = by_object (λ o. P o.1) h (h.registers m s) (pinning h) all.same (λ n is. all.pin n true (closed.registers m s n is))
by_step P h m (c.Unpin s) closed all = by_object (λ o. P o.1) h (h.registers m s) (unpinning h) all.same (λ n is. all.pin n false (closed.registers m s n is))
by_step P h m c.Gc closed all = all.same
by_step P h m c.Meet closed all = all.same

-- which outcome a command on an object has

pub object-null : (h : IdealHeap) (o : Option Name) (f : Name → Outcome) → o ≡ None → on_object h o f ≡ (r.Null, h)
object-null h o f is = ap (λ q. on_object h q f) is

pub object-some : (h : IdealHeap) (o : Option Name) (f : Name → Outcome) (n : Name) → o ≡ Some n → on_object h o f ≡ f n
object-some h o f n is = ap (λ q. on_object h q f) is

range-past : (h : IdealHeap) (i len : ℕ) (o : Outcome) → len ≤ i → in_range h i len o ≡ (r.Range, h)
range-past h i len o past = elim (nat_lt-cases i len) [ inl is ↦ absurd (omega (arith, is.1, past)) | inr not ↦ ap (λ b. if b then o else (r.Range, h)) not.0 ]

range-within : (h : IdealHeap) (i len : ℕ) (o : Outcome) → i < len → in_range h i len o ≡ o
range-within h i len o within = elim (nat_lt-cases i len) [ inl is ↦ ap (λ b. if b then o else (r.Range, h)) is.0 | inr not ↦ absurd (omega (arith, not.1, within)) ]

pub ref-past : (h : IdealHeap) (o : Option Name) (i : ℕ) (f : Name → Record → Outcome) (n : Name) → o ≡ Some n → length (record_of h n).refs ≤ i → on_ref h o i f ≡ (r.Range, h)
ref-past h o i f n is past = ap (λ q. on_ref h q i f) is ∙ range-past h i (length (record_of h n).refs) (f n (record_of h n)) past

pub ref-within : (h : IdealHeap) (o : Option Name) (i : ℕ) (f : Name → Record → Outcome) (n : Name) → o ≡ Some n → i < length (record_of h n).refs → on_ref h o i f ≡ f n (record_of h n)
ref-within h o i f n is within = ap (λ q. on_ref h q i f) is ∙ range-within h i (length (record_of h n).refs) (f n (record_of h n)) within

pub num-past : (h : IdealHeap) (o : Option Name) (j : ℕ) (f : Name → Record → Outcome) (n : Name) → o ≡ Some n → length (record_of h n).nums ≤ j → on_num h o j f ≡ (r.Range, h)
num-past h o j f n is past = ap (λ q. on_num h q j f) is ∙ range-past h j (length (record_of h n).nums) (f n (record_of h n)) past

pub num-within : (h : IdealHeap) (o : Option Name) (j : ℕ) (f : Name → Record → Outcome) (n : Name) → o ≡ Some n → j < length (record_of h n).nums → on_num h o j f ≡ f n (record_of h n)
num-within h o j f n is within = ap (λ q. on_num h q j f) is ∙ range-within h j (length (record_of h n).nums) (f n (record_of h n)) within
