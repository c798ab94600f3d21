-- Accesses of what is not there, and what replies show.
use Rattle.std.proofs.Common.{ap, arith, ◌≡◌, ℕ, ◌<◌, ◌≤◌, refl, sym, ◌∙◌, inl, inr, Option, Some, None, List, [], ◌∷◌, length, slice_get, slice_index, if◌then◌else◌, unwrap_or, suc, zero}
use Rattle.std.proofs.lemmas.Bool.Decides.{eqb_tells}
use Rattle.std.proofs.lemmas.Option.{slice_get-get_or}
use Rattle.ideal_heap.specs.declared.name.Name.{Name}
use Rattle.ideal_heap.specs.declared.command.Command.TheVariants as c
use Rattle.ideal_heap.specs.declared.reply.Reply.TheVariants as r
use Rattle.ideal_heap.specs.Ideal.{IdealHeap, Record, Field, Nil, At, Outcome, set_record, record_of, put_number, field_reply, on_ref, on_num, step}
use Rattle.ideal_heap.proofs.StepLemmas.{by_num, by_ref, num-past, ref-past, object-null, getting, putting, reading, writing, adding, swapping, pinning, unpinning}
use Rattle.programs.specs.Contents.{missing_reply, number_of_object, field_in, number_of, field_in_heap}

none-past : {X : Type 0} (xs : List X) (i : ℕ) → slice_get xs i ≡ None → length xs ≤ i
none-past [] i is = omega arith
none-past (x ∷ xs) zero is = absurd cc
none-past (x ∷ xs) (suc i) is = (
    let past : length xs ≤ i = none-past xs i is in
    let many : length (x ∷ xs) ≡ suc (length xs) = refl in
    omega arith)

abbrev failing : IdealHeap → Option Name → Outcome
failing h o = (missing_reply o, h)

num-fails : (h : IdealHeap) (o : Option Name) (j : ℕ) (f : Name → Record → Outcome) → number_of_object h o j ≡ None → on_num h o j f ≡ failing h o
num-fails h None j f is = refl
num-fails h (Some n) j f is = num-past h (Some n) j f n refl (none-past (record_of h n).nums j is)

ref-fails : (h : IdealHeap) (o : Option Name) (i : ℕ) (f : Name → Record → Outcome) → field_in h o i ≡ None → on_ref h o i f ≡ failing h o
ref-fails h None i f is = refl
ref-fails h (Some n) i f is = ref-past h (Some n) i f n refl (none-past (record_of h n).refs i is)

pub read-fails : (h : IdealHeap) (m s j : ℕ) → number_of h m s j ≡ None → step h m (c.Read s j) ≡ failing h (h.registers m s)
unfolding step
read-fails h m s j is = num-fails h (h.registers m s) j (reading h j) is

pub write-fails : (h : IdealHeap) (m s j v : ℕ) → number_of h m s j ≡ None → step h m (c.Write s j v) ≡ failing h (h.registers m s)
unfolding step
write-fails h m s j v is = num-fails h (h.registers m s) j (writing h j v) is

pub add-fails : (h : IdealHeap) (m s j v : ℕ) → number_of h m s j ≡ None → step h m (c.Add s j v) ≡ failing h (h.registers m s)
unfolding step
add-fails h m s j v is = num-fails h (h.registers m s) j (adding h j v) is

pub swap-fails : (h : IdealHeap) (m s j was next : ℕ) → number_of h m s j ≡ None → step h m (c.Swap s j was next) ≡ failing h (h.registers m s)
unfolding step
swap-fails h m s j was next is = num-fails h (h.registers m s) j (swapping h j was next) is

pub get-fails : (h : IdealHeap) (m d s i : ℕ) → field_in_heap h m s i ≡ None → step h m (c.Get d s i) ≡ failing h (h.registers m s)
unfolding step
get-fails h m d s i is = ref-fails h (h.registers m s) i (getting h m d i) is

pub put-fails : (h : IdealHeap) (m s i v : ℕ) → field_in_heap h m s i ≡ None → step h m (c.Put s i v) ≡ failing h (h.registers m s)
unfolding step
put-fails h m s i v is = ref-fails h (h.registers m s) i (putting h m i v) is

abbrev nothing : IdealHeap → Outcome
nothing h = (r.Null, h)

pub pin-nil : (h : IdealHeap) (m s : ℕ) → h.registers m s ≡ None → step h m (c.Pin s) ≡ nothing h
unfolding step
pin-nil h m s is = object-null h (h.registers m s) (pinning h) is

pub unpin-nil : (h : IdealHeap) (m s : ℕ) → h.registers m s ≡ None → step h m (c.Unpin s) ≡ nothing h
unfolding step
unpin-nil h m s is = object-null h (h.registers m s) (unpinning h) is

-- from replies back

has-field : (xs : List Field) (i : ℕ) → i < length xs → slice_get xs i ≡ Some (unwrap_or (slice_get xs i) Nil)
has-field [] i within = absurd (omega (arith, within))
has-field (x ∷ xs) zero within = refl
has-field (x ∷ xs) (suc i) within = has-field xs i (let many : length (x ∷ xs) ≡ suc (length xs) = refl in omega arith)

number-there : (h : IdealHeap) (o : Option Name) (n : Name) (j : ℕ) → o ≡ Some n → j < length (record_of h n).nums → number_of_object h o j ≡ Some (slice_index (record_of h n).nums j)
number-there h o n j is within = ap (λ q. number_of_object h q j) is ∙ slice_get-get_or (record_of h n).nums j 0 within

field-there : (h : IdealHeap) (o : Option Name) (n : Name) (i : ℕ) → o ≡ Some n → i < length (record_of h n).refs → field_in h o i ≡ Some (unwrap_or (slice_get (record_of h n).refs i) Nil)
field-there h o n i is within = ap (λ q. field_in h q i) is ∙ has-field (record_of h n).refs i within

abbrev SomeNumber : IdealHeap → Option Name → ℕ → Type 0
SomeNumber h o j = (x : ℕ) × (number_of_object h o j ≡ Some x)

abbrev OtherNumber : IdealHeap → Option Name → ℕ → ℕ → Type 0
OtherNumber h o j was = (x : ℕ) × (number_of_object h o j ≡ Some x) × (x ≡ was → ⊥)

abbrev SomeField : IdealHeap → Option Name → ℕ → Type 0
SomeField h o i = (f : Field) × (field_in h o i ≡ Some f)

pub write-done : (h : IdealHeap) (m s j v : ℕ) → (step h m (c.Write s j v)).0 ≡ r.Done → SomeNumber h (h.registers m s) j
unfolding step
write-done h m s j v = by_num (λ o. o.0 ≡ r.Done → SomeNumber h (h.registers m s) j) h (h.registers m s) j (writing h j v)
    (λ e. absurd cc) (λ e. absurd cc) (λ n is l e. (slice_index (record_of h n).nums j, number-there h (h.registers m s) n j is l))

pub put-done : (h : IdealHeap) (m s i v : ℕ) → (step h m (c.Put s i v)).0 ≡ r.Done → SomeField h (h.registers m s) i
unfolding step
put-done h m s i v = by_ref (λ o. o.0 ≡ r.Done → SomeField h (h.registers m s) i) h (h.registers m s) i (putting h m i v)
    (λ e. absurd cc) (λ e. absurd cc) (λ n is l e. (unwrap_or (slice_get (record_of h n).refs i) Nil, field-there h (h.registers m s) n i is l))

pub add-num : (h : IdealHeap) (m s j v x : ℕ) → (step h m (c.Add s j v)).0 ≡ r.Num x → number_of h m s j ≡ Some x
unfolding step
add-num h m s j v x = by_num (λ o. o.0 ≡ r.Num x → number_of_object h (h.registers m s) j ≡ Some x) h (h.registers m s) j (adding h j v)
    (λ e. absurd cc) (λ e. absurd cc)
    (λ n is l e. let value : slice_index (record_of h n).nums j ≡ x = cc in number-there h (h.registers m s) n j is l ∙ ap (λ y. Some y) value)

abbrev swaps : IdealHeap → Name → ℕ → ℕ → Outcome
swaps h n j v = (r.Yes, set_record h n (put_number (record_of h n) j v))

abbrev refuses : IdealHeap → Outcome
refuses h = (r.No, h)

pub swap-yes : (h : IdealHeap) (m s j was next : ℕ) → (step h m (c.Swap s j was next)).0 ≡ r.Yes → number_of h m s j ≡ Some was
unfolding step
swap-yes h m s j was next = by_num (λ o. o.0 ≡ r.Yes → number_of_object h (h.registers m s) j ≡ Some was) h (h.registers m s) j (swapping h j was next)
    (λ e. absurd cc) (λ e. absurd cc)
    (λ n is l e. elim (eqb_tells (slice_index (record_of h n).nums j) was) as (λ _. number_of_object h (h.registers m s) j ≡ Some was) [
      | inl same ↦ number-there h (h.registers m s) n j is l ∙ ap (λ y. Some y) same.1
      | inr not ↦ (
          let no : (swapping h j was next n (record_of h n)).0 ≡ r.No = ap (λ b. (if b then swaps h n j next else refuses h).0) not.0 in
          let wrong : r.Yes ≡ r.No = sym e ∙ no in
          absurd cc)
    ])

pub swap-not : (h : IdealHeap) (m s j was next : ℕ) → (step h m (c.Swap s j was next)).0 ≡ r.No → OtherNumber h (h.registers m s) j was
unfolding step
swap-not h m s j was next = by_num (λ o. o.0 ≡ r.No → OtherNumber h (h.registers m s) j was) h (h.registers m s) j (swapping h j was next)
    (λ e. absurd cc) (λ e. absurd cc)
    (λ n is l e. elim (eqb_tells (slice_index (record_of h n).nums j) was) as (λ _. OtherNumber h (h.registers m s) j was) [
      | inl same ↦ (
          let yes : (swapping h j was next n (record_of h n)).0 ≡ r.Yes = ap (λ b. (if b then swaps h n j next else refuses h).0) same.0 in
          let wrong : r.No ≡ r.Yes = sym e ∙ yes in
          absurd cc)
      | inr not ↦ (slice_index (record_of h n).nums j, number-there h (h.registers m s) n j is l, not.1)
    ])

reply-nil : (f : Field) → field_reply f ≡ r.Nil → f ≡ Nil
reply-nil Nil e = refl
reply-nil (At n) e = absurd cc

reply-ref : (f : Field) (n : Name) → field_reply f ≡ r.Ref n → f ≡ At n
reply-ref Nil n e = absurd cc
reply-ref (At k) n e = cc

pub get-nil : (h : IdealHeap) (m d s i : ℕ) → (step h m (c.Get d s i)).0 ≡ r.Nil → field_in_heap h m s i ≡ Some Nil
unfolding step
get-nil h m d s i = by_ref (λ o. o.0 ≡ r.Nil → field_in h (h.registers m s) i ≡ Some Nil) h (h.registers m s) i (getting h m d i)
    (λ e. absurd cc) (λ e. absurd cc)
    (λ n is l e. field-there h (h.registers m s) n i is l ∙ ap (λ f. Some f) (reply-nil (unwrap_or (slice_get (record_of h n).refs i) Nil) e))

pub get-ref : (h : IdealHeap) (m d s i : ℕ) (to : Name) → (step h m (c.Get d s i)).0 ≡ r.Ref to → field_in_heap h m s i ≡ Some (At to)
unfolding step
get-ref h m d s i to = by_ref (λ o. o.0 ≡ r.Ref to → field_in h (h.registers m s) i ≡ Some (At to)) h (h.registers m s) i (getting h m d i)
    (λ e. absurd cc) (λ e. absurd cc)
    (λ n is l e. field-there h (h.registers m s) n i is l ∙ ap (λ f. Some f) (reply-ref (unwrap_or (slice_get (record_of h n).refs i) Nil) to e))
