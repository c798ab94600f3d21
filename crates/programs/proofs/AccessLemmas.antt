-- Accesses of an object that has the number or the reference.
use Rattle.std.proofs.Common.{ap, arith, ◌≡◌, ℕ, ◌+◌, ◌%◌, ◌^◌, ◌<◌, ◌≤◌, nat_eq, eq-eqb, refl, ◌∙◌, inl, inr, Option, Some, None, List, [], ◌∷◌, length, slice_get, slice_index, slice_set, if◌then◌else◌, replicate, unwrap_or, suc, zero}
use Rattle.std.proofs.lemmas.Bool.Decides.{eqb_tells}
use Rattle.std.proofs.lemmas.Option.{slice_get_within, slice_get_past, slice_get-get_or, get_or_from_slice_get}
use Rattle.std.proofs.lemmas.List.{get_or-replicate, length-replicate}
use Rattle.ideal_heap.specs.declared.name.Name.{Name}
use Rattle.ideal_heap.specs.declared.command.Command.TheVariants as c
use Rattle.ideal_heap.specs.declared.reply.Reply.TheVariants as r
use Rattle.ideal_heap.specs.Names.{name}
use Rattle.ideal_heap.specs.Ideal.{IdealHeap, Record, Field, Nil, Outcome, set_register, set_record, record_of, no_fields, field_of as field_to, put_field, put_number, name_of_field, field_reply, on_ref, on_num, born, with_object, at_number, step}
use Rattle.ideal_heap.proofs.UpdateLemmas.{at_name-same, at_number-same}
use Rattle.ideal_heap.proofs.StepLemmas.{by_num, num-within, ref-within, getting, putting, reading, writing, adding, swapping}
use Rattle.programs.specs.Contents.{number_of_object, field_in, number_of, field_in_heap}

-- lists after one element is set

set-same : {X : Type 0} (xs : List X) (i : ℕ) (x v : X) → slice_get xs i ≡ Some x → slice_get (slice_set xs i v) i ≡ Some v
set-same [] i x v is = absurd (omega (arith, slice_get_within [] i x is))
set-same (y ∷ ys) zero x v is = refl
set-same (y ∷ ys) (suc i) x v is = set-same ys i x v is

pub set-other : {X : Type 0} (xs : List X) (i : ℕ) (v : X) (j : ℕ) → (j ≡ i → ⊥) → slice_get (slice_set xs i v) j ≡ slice_get xs j
set-other [] i v j other = refl
set-other (y ∷ ys) zero v zero other = absurd (other refl)
set-other (y ∷ ys) zero v (suc j) other = refl
set-other (y ∷ ys) (suc i) v zero other = refl
set-other (y ∷ ys) (suc i) v (suc j) other = set-other ys i v j (λ same. other (ap (λ k. suc k) same))

all-alike : {X : Type 0} (n i : ℕ) (x : X) → i < n → slice_get (replicate n x) i ≡ Some x
all-alike n i x within =
    let long : length (replicate n x) ≡ n = length-replicate n x in
    slice_get-get_or (replicate n x) i x (omega (arith, long, within)) ∙ ap (λ y. Some y) (get_or-replicate n i x x within)

none-past : {X : Type 0} (n i : ℕ) (x : X) → n ≤ i → slice_get (replicate n x) i ≡ None
none-past n i x past =
    let long : length (replicate n x) ≡ n = length-replicate n x in
    slice_get_past (replicate n x) i (omega (arith, long, past))

-- who has a number or a reference is an object

pub with-number : (h : IdealHeap) (o : Option Name) (j x : ℕ) → number_of_object h o j ≡ Some x → (n : Name) × (o ≡ Some n) × (slice_get (record_of h n).nums j ≡ Some x)
with-number h None j x is = absurd cc
with-number h (Some n) j x is = (n, refl, is)

pub with-field : (h : IdealHeap) (o : Option Name) (i : ℕ) (f : Field) → field_in h o i ≡ Some f → (n : Name) × (o ≡ Some n) × (slice_get (record_of h n).refs i ≡ Some f)
with-field h None i f is = absurd cc
with-field h (Some n) i f is = (n, refl, is)

pub register-same : (h : IdealHeap) (m d : ℕ) (v : Option Name) → (set_register h m d v).registers m d ≡ v
register-same h m d v = ap (λ f. f d) (at_number-same h.registers m (at_number (h.registers m) d v)) ∙ at_number-same (h.registers m) d v

pub record-same : (h : IdealHeap) (n : Name) (x : Record) → record_of (set_record h n x) n ≡ x
record-same h n x = ap (λ o. unwrap_or o no_fields) (at_name-same h.records n (Some x))

number-set : (h : IdealHeap) (o : Option Name) (n : Name) (x : Record) (j v : ℕ) → o ≡ Some n → slice_get x.nums j ≡ Some v → number_of_object (set_record h n x) o j ≡ Some v
number-set h o n x j v is has = ap (λ q. number_of_object (set_record h n x) q j) is ∙ ap (λ y. slice_get y.nums j) (record-same h n x) ∙ has

field-set : (h : IdealHeap) (o : Option Name) (n : Name) (x : Record) (i : ℕ) (f : Field) → o ≡ Some n → slice_get x.refs i ≡ Some f → field_in (set_record h n x) o i ≡ Some f
field-set h o n x i f is has = ap (λ q. field_in (set_record h n x) q i) is ∙ ap (λ y. slice_get y.refs i) (record-same h n x) ∙ has

-- what f gives for the object is the outcome

num-step : (h : IdealHeap) (o : Option Name) (j x : ℕ) (f : Name → Record → Outcome) (n : Name) → o ≡ Some n → slice_get (record_of h n).nums j ≡ Some x → on_num h o j f ≡ f n (record_of h n)
num-step h o j x f n is has = num-within h o j f n is (slice_get_within (record_of h n).nums j x has)

ref-step : (h : IdealHeap) (o : Option Name) (i : ℕ) (x : Field) (f : Name → Record → Outcome) (n : Name) → o ≡ Some n → slice_get (record_of h n).refs i ≡ Some x → on_ref h o i f ≡ f n (record_of h n)
ref-step h o i x f n is has = ref-within h o i f n is (slice_get_within (record_of h n).refs i x has)

abbrev replying : IdealHeap → ℕ → Outcome
replying h x = (r.Num x, h)

number-is : (h : IdealHeap) (n : Name) (j x : ℕ) → slice_get (record_of h n).nums j ≡ Some x → slice_index (record_of h n).nums j ≡ x
number-is h n j x has = get_or_from_slice_get (record_of h n).nums j x 0 has

-- read

pub read : (h : IdealHeap) (m s j x : ℕ) → number_of h m s j ≡ Some x → step h m (c.Read s j) ≡ replying h x
unfolding step
read h m s j x is =
    let found : (n : Name) × (h.registers m s ≡ Some n) × (slice_get (record_of h n).nums j ≡ Some x) = with-number h (h.registers m s) j x is in
    num-step h (h.registers m s) j x (reading h j) found.0 found.1 found.2 ∙ ap (λ y. replying h y) (number-is h found.0 j x found.2)

pub replied : (h : IdealHeap) (m s j x : ℕ) → (step h m (c.Read s j)).0 ≡ r.Num x → number_of h m s j ≡ Some x
unfolding step
replied h m s j x = by_num (λ o. o.0 ≡ r.Num x → number_of_object h (h.registers m s) j ≡ Some x) h (h.registers m s) j (reading h j)
    (λ e. absurd cc) (λ e. absurd cc)
    (λ n is l e. let value : slice_index (record_of h n).nums j ≡ x = cc in
    ap (λ q. number_of_object h q j) is ∙ slice_get-get_or (record_of h n).nums j 0 l ∙ ap (λ y. Some y) value)

pub read-same : (h : IdealHeap) (m s j : ℕ) → (step h m (c.Read s j)).1 ≡ h
unfolding step
read-same h m s j = by_num (λ o. o.1 ≡ h) h (h.registers m s) j (reading h j) refl refl (λ n is l. refl)

abbrev nothing : IdealHeap → Outcome
nothing h = (r.Null, h)

pub read-nil : (h : IdealHeap) (m s j : ℕ) → h.registers m s ≡ None → step h m (c.Read s j) ≡ nothing h
unfolding step
read-nil h m s j is = ap (λ q. on_num h q j (reading h j)) is

-- write

abbrev stored : IdealHeap → Name → ℕ → ℕ → IdealHeap
stored h n j v = set_record h n (put_number (record_of h n) j v)

number-stored : (h k : IdealHeap) (m s j x v : ℕ) (n : Name) → h.registers m s ≡ Some n → slice_get (record_of h n).nums j ≡ Some x → k ≡ stored h n j v → number_of k m s j ≡ Some v
number-stored h k m s j x v n is has made = ap (λ q. number_of q m s j) made
    ∙ number-set h (h.registers m s) n (put_number (record_of h n) j v) j v is (set-same (record_of h n).nums j x v has)

pub write : (h : IdealHeap) (m s j x v : ℕ) → number_of h m s j ≡ Some x → (step h m (c.Write s j v)).0 ≡ r.Done
unfolding step
write h m s j x v is =
    let found : (n : Name) × (h.registers m s ≡ Some n) × (slice_get (record_of h n).nums j ≡ Some x) = with-number h (h.registers m s) j x is in
    ap (λ o. o.0) (num-step h (h.registers m s) j x (writing h j v) found.0 found.1 found.2)

pub written : (h : IdealHeap) (m s j x v : ℕ) → number_of h m s j ≡ Some x → number_of (step h m (c.Write s j v)).1 m s j ≡ Some v
unfolding step
written h m s j x v is =
    let found : (n : Name) × (h.registers m s ≡ Some n) × (slice_get (record_of h n).nums j ≡ Some x) = with-number h (h.registers m s) j x is in
    number-stored h (on_num h (h.registers m s) j (writing h j v)).1 m s j x v found.0 found.1 found.2
    (ap (λ o. o.1) (num-step h (h.registers m s) j x (writing h j v) found.0 found.1 found.2))

pub read-after-write : (h : IdealHeap) (m s j x v : ℕ) → number_of h m s j ≡ Some x → (step (step h m (c.Write s j v)).1 m (c.Read s j)).0 ≡ r.Num v
read-after-write h m s j x v is = ap (λ o. o.0) (read (step h m (c.Write s j v)).1 m s j v (written h m s j x v is))

-- add

pub add : (h : IdealHeap) (m s j x v : ℕ) → number_of h m s j ≡ Some x → (step h m (c.Add s j v)).0 ≡ r.Num x
unfolding step
add h m s j x v is =
    let found : (n : Name) × (h.registers m s ≡ Some n) × (slice_get (record_of h n).nums j ≡ Some x) = with-number h (h.registers m s) j x is in
    ap (λ o. o.0) (num-step h (h.registers m s) j x (adding h j v) found.0 found.1 found.2) ∙ ap (λ y. r.Num y) (number-is h found.0 j x found.2)

pub added : (h : IdealHeap) (m s j x v : ℕ) → number_of h m s j ≡ Some x → number_of (step h m (c.Add s j v)).1 m s j ≡ Some ((x + v) % 2 ^ 64)
unfolding step
added h m s j x v is =
    let found : (n : Name) × (h.registers m s ≡ Some n) × (slice_get (record_of h n).nums j ≡ Some x) = with-number h (h.registers m s) j x is in
    number-stored h (on_num h (h.registers m s) j (adding h j v)).1 m s j x ((x + v) % 2 ^ 64) found.0 found.1 found.2
    (ap (λ o. o.1) (num-step h (h.registers m s) j x (adding h j v) found.0 found.1 found.2)
    ∙ ap (λ y. stored h found.0 j ((y + v) % 2 ^ 64)) (number-is h found.0 j x found.2))

-- swap

abbrev swaps : IdealHeap → Name → ℕ → ℕ → Outcome
swaps h n j v = (r.Yes, stored h n j v)

abbrev refuses : IdealHeap → Outcome
refuses h = (r.No, h)

swap-step : (h : IdealHeap) (m s j was next : ℕ) (n : Name) → h.registers m s ≡ Some n → slice_get (record_of h n).nums j ≡ Some was → step h m (c.Swap s j was next) ≡ swaps h n j next
unfolding step
swap-step h m s j was next n is has = num-step h (h.registers m s) j was (swapping h j was next) n is has
    ∙ ap (λ b. if b then swaps h n j next else refuses h) (eq-eqb (slice_index (record_of h n).nums j) was (number-is h n j was has))

pub swap : (h : IdealHeap) (m s j was next : ℕ) → number_of h m s j ≡ Some was → (step h m (c.Swap s j was next)).0 ≡ r.Yes
swap h m s j was next is =
    let found : (n : Name) × (h.registers m s ≡ Some n) × (slice_get (record_of h n).nums j ≡ Some was) = with-number h (h.registers m s) j was is in
    ap (λ o. o.0) (swap-step h m s j was next found.0 found.1 found.2)

pub swapped : (h : IdealHeap) (m s j was next : ℕ) → number_of h m s j ≡ Some was → number_of (step h m (c.Swap s j was next)).1 m s j ≡ Some next
swapped h m s j was next is =
    let found : (n : Name) × (h.registers m s ≡ Some n) × (slice_get (record_of h n).nums j ≡ Some was) = with-number h (h.registers m s) j was is in
    number-stored h (step h m (c.Swap s j was next)).1 m s j was next found.0 found.1 found.2
    (ap (λ o. o.1) (swap-step h m s j was next found.0 found.1 found.2))

pub kept : (h : IdealHeap) (m s j x was next : ℕ) → number_of h m s j ≡ Some x → (x ≡ was → ⊥) → step h m (c.Swap s j was next) ≡ refuses h
unfolding step
kept h m s j x was next is other =
    let found : (n : Name) × (h.registers m s ≡ Some n) × (slice_get (record_of h n).nums j ≡ Some x) = with-number h (h.registers m s) j x is in
    num-step h (h.registers m s) j x (swapping h j was next) found.0 found.1 found.2
    ∙ ap (λ y. if nat_eq y was then swaps h found.0 j next else refuses h) (number-is h found.0 j x found.2)
    ∙ (elim (eqb_tells x was) [
      | inl same ↦ absurd (other same.1)
      | inr not ↦ ap (λ b. if b then swaps h found.0 j next else refuses h) not.0
    ])

-- get and put

abbrev getting-field : IdealHeap → ℕ → ℕ → Field → Outcome
getting-field h m d f = (field_reply f, set_register h m d (name_of_field f))

get-step : (h : IdealHeap) (m d s i : ℕ) (f : Field) → field_in_heap h m s i ≡ Some f → step h m (c.Get d s i) ≡ getting-field h m d f
unfolding step
get-step h m d s i f is =
    let found : (n : Name) × (h.registers m s ≡ Some n) × (slice_get (record_of h n).refs i ≡ Some f) = with-field h (h.registers m s) i f is in
    ref-step h (h.registers m s) i f (getting h m d i) found.0 found.1 found.2 ∙ ap (λ o. getting-field h m d (unwrap_or o Nil)) found.2

pub get : (h : IdealHeap) (m d s i : ℕ) (f : Field) → field_in_heap h m s i ≡ Some f → (step h m (c.Get d s i)).0 ≡ field_reply f
get h m d s i f is = ap (λ o. o.0) (get-step h m d s i f is)

pub got : (h : IdealHeap) (m d s i : ℕ) (f : Field) → field_in_heap h m s i ≡ Some f → (step h m (c.Get d s i)).1.registers m d ≡ name_of_field f
got h m d s i f is = ap (λ o. o.1.registers m d) (get-step h m d s i f is) ∙ register-same h m d (name_of_field f)

pub put : (h : IdealHeap) (m s i v : ℕ) (f : Field) → field_in_heap h m s i ≡ Some f → (step h m (c.Put s i v)).0 ≡ r.Done
unfolding step
put h m s i v f is =
    let found : (n : Name) × (h.registers m s ≡ Some n) × (slice_get (record_of h n).refs i ≡ Some f) = with-field h (h.registers m s) i f is in
    ap (λ o. o.0) (ref-step h (h.registers m s) i f (putting h m i v) found.0 found.1 found.2)

pub field-stored : (h : IdealHeap) (m s i v : ℕ) (f : Field) → field_in_heap h m s i ≡ Some f → field_in_heap (step h m (c.Put s i v)).1 m s i ≡ Some (field_to (h.registers m v))
unfolding step
field-stored h m s i v f is =
    let found : (n : Name) × (h.registers m s ≡ Some n) × (slice_get (record_of h n).refs i ≡ Some f) = with-field h (h.registers m s) i f is in
    let to : Field = field_to (h.registers m v) in
    ap (λ o. field_in_heap o.1 m s i) (ref-step h (h.registers m s) i f (putting h m i v) found.0 found.1 found.2)
    ∙ field-set h (h.registers m s) found.0 (put_field (record_of h found.0) i to) i to found.1 (set-same (record_of h found.0).refs i f to found.2)

pub name-back : (o : Option Name) → name_of_field (field_to o) ≡ o
name-back None = refl
name-back (Some n) = refl

pub get-after-put : (h : IdealHeap) (m d s i v : ℕ) (f : Field) → field_in_heap h m s i ≡ Some f
    → (step (step h m (c.Put s i v)).1 m (c.Get d s i)).1.registers m d ≡ h.registers m v
get-after-put h m d s i v f is =
    got (step h m (c.Put s i v)).1 m d s i (field_to (h.registers m v)) (field-stored h m s i v f is) ∙ name-back (h.registers m v)

-- new

pub made-register : (h : IdealHeap) (m d refs nums : ℕ) → (step h m (c.New d refs nums)).1.registers m d ≡ Some (name m (h.births m + 1))
unfolding step
made-register h m d refs nums = register-same (with_object h m (born refs nums)) m d (Some (name m (h.births m + 1)))

pub made-reply : (h : IdealHeap) (m d refs nums : ℕ) → (step h m (c.New d refs nums)).0 ≡ r.New (name m (h.births m + 1))
unfolding step
made-reply h m d refs nums = refl

made-record : (h : IdealHeap) (m d refs nums : ℕ) → (step h m (c.New d refs nums)).1.records (name m (h.births m + 1)) ≡ Some (born refs nums)
unfolding step
made-record h m d refs nums = at_name-same h.records (name m (h.births m + 1)) (Some (born refs nums))

made-number : (h : IdealHeap) (m d refs nums j : ℕ) → number_of (step h m (c.New d refs nums)).1 m d j ≡ slice_get (replicate nums 0) j
made-number h m d refs nums j =
    ap (λ q. number_of_object (step h m (c.New d refs nums)).1 q j) (made-register h m d refs nums)
    ∙ ap (λ o. slice_get (unwrap_or o no_fields).nums j) (made-record h m d refs nums)

made-field : (h : IdealHeap) (m d refs nums i : ℕ) → field_in_heap (step h m (c.New d refs nums)).1 m d i ≡ slice_get (replicate refs Nil) i
made-field h m d refs nums i =
    ap (λ q. field_in (step h m (c.New d refs nums)).1 q i) (made-register h m d refs nums)
    ∙ ap (λ o. slice_get (unwrap_or o no_fields).refs i) (made-record h m d refs nums)

pub made-zero : (h : IdealHeap) (m d refs nums j : ℕ) → j < nums → number_of (step h m (c.New d refs nums)).1 m d j ≡ Some 0
made-zero h m d refs nums j within = made-number h m d refs nums j ∙ all-alike nums j 0 within

pub made-no-number : (h : IdealHeap) (m d refs nums j : ℕ) → nums ≤ j → number_of (step h m (c.New d refs nums)).1 m d j ≡ None
made-no-number h m d refs nums j past = made-number h m d refs nums j ∙ none-past nums j 0 past

pub made-nil : (h : IdealHeap) (m d refs nums i : ℕ) → i < refs → field_in_heap (step h m (c.New d refs nums)).1 m d i ≡ Some Nil
made-nil h m d refs nums i within = made-field h m d refs nums i ∙ all-alike refs i Nil within

pub made-no-field : (h : IdealHeap) (m d refs nums i : ℕ) → refs ≤ i → field_in_heap (step h m (c.New d refs nums)).1 m d i ≡ None
made-no-field h m d refs nums i past = made-field h m d refs nums i ∙ none-past refs i Nil past
