-- The step of each command, from what a program that executes it reads: the reply and the heap after it.
use Rattle.std.proofs.Common.{◌≡◌, ℕ, ◌+◌, ◌%◌, ◌^◌, ◌<◌, ◌≤◌, true, false, nat_eq, nat_lt, eq-eqb, refl, ap, sym, ◌∙◌, inl, inr, Option, Some, None, List, length, get_or, slice_get, slice_index, map, unwrap_or, if◌then◌else◌, arith}
use Rattle.std.proofs.lemmas.Bool.Decides.{eqb_tells}
use Rattle.std.proofs.lemmas.List.{length-map, get_or_read}
use Rattle.std.proofs.lemmas.Option.{slice_get-map, slice_get-get_or}
use Rattle.std.specs.Option.{option_map}
use Rattle.ideal_heap.specs.declared.name.Name.{Name}
use Rattle.ideal_heap.specs.declared.command.Command.TheVariants as c
use Rattle.ideal_heap.specs.declared.reply.Reply.{Reply}
use Rattle.ideal_heap.specs.declared.reply.Reply.TheVariants as r
use Rattle.ideal_heap.specs.Names.{name}
use Rattle.ideal_heap.specs.Ideal.{IdealHeap, Record, Nil, Outcome, set_register, set_global, set_record, set_pinned, record_of, field_at, field_of, put_field, put_number, name_of_field, global_reply, field_reply, born, with_object, with_new, step}
use Rattle.ideal_heap.proofs.UpdateLemmas.{nat_lt-cases, at_number-same}
use Rattle.ideal_heap.proofs.StepLemmas.{object-null, object-some, ref-past, ref-within, num-past, num-within, getting, putting, reading, writing, adding, swapping, pinning, unpinning}

pub below-from : (a b : ℕ) → true ≡ nat_lt a b → a < b
below-from a b is = elim (nat_lt-cases a b) [ inl yes' ↦ yes'.1 | inr not ↦ let wrong : true ≡ false = is ∙ not.0 in absurd cc ]

pub past-from : (a b : ℕ) → false ≡ nat_lt a b → b ≤ a
past-from a b is = elim (nat_lt-cases a b) [ inl yes' ↦ let wrong : false ≡ true = is ∙ yes'.0 in absurd cc | inr not ↦ not.1 ]

-- a reply and the heap after it, if an equation gives the heap
pub with_heap : (x : Reply) (a b : IdealHeap) → a ≡ b → (let o : Outcome = (x, a) in o) ≡ (x, b)
with_heap x a b is = ap (λ k. let o : Outcome = (x, k) in o) is

-- numbers: `xs` are those of the object that the register names

number-at : (xs : List ℕ) (j x : ℕ) → j < length xs → x ≡ get_or xs j x → x ≡ slice_index xs j
number-at xs j x within is = get_or_read xs j x within is 0

pub read-null : (h : IdealHeap) (m s j : ℕ) → h.registers m s ≡ None → (let o : Outcome = (r.Null, h) in o) ≡ step h m (c.Read s j)
unfolding step
read-null h m s j is = sym (object-null h (h.registers m s) _ is)

pub read-past : (h : IdealHeap) (m s j : ℕ) (n : Name) (xs : List ℕ) → h.registers m s ≡ Some n → xs ≡ (record_of h n).nums → length xs ≤ j → (let o : Outcome = (r.Range, h) in o) ≡ step h m (c.Read s j)
unfolding step
read-past h m s j n xs is nums past = sym (num-past h (h.registers m s) j (reading h j) n is (omega (arith, past, ap length nums)))

pub read-done : (h : IdealHeap) (m s j : ℕ) (n : Name) (xs : List ℕ) (x : ℕ) → h.registers m s ≡ Some n → xs ≡ (record_of h n).nums → j < length xs → x ≡ get_or xs j x
    → (let o : Outcome = (r.Num x, h) in o) ≡ step h m (c.Read s j)
unfolding step
read-done h m s j n xs x is nums within x_is =
    ap (λ y. let o : Outcome = (r.Num y, h) in o) (number-at xs j x within x_is ∙ ap (λ l. slice_index l j) nums)
    ∙ sym (num-within h (h.registers m s) j (reading h j) n is (omega (arith, within, ap length nums)))

pub write-null : (h : IdealHeap) (m s j v : ℕ) → h.registers m s ≡ None → (let o : Outcome = (r.Null, h) in o) ≡ step h m (c.Write s j v)
unfolding step
write-null h m s j v is = sym (object-null h (h.registers m s) _ is)

pub write-past : (h : IdealHeap) (m s j v : ℕ) (n : Name) (xs : List ℕ) → h.registers m s ≡ Some n → xs ≡ (record_of h n).nums → length xs ≤ j → (let o : Outcome = (r.Range, h) in o) ≡ step h m (c.Write s j v)
unfolding step
write-past h m s j v n xs is nums past = sym (num-past h (h.registers m s) j (writing h j v) n is (omega (arith, past, ap length nums)))

pub add-null : (h : IdealHeap) (m s j v : ℕ) → h.registers m s ≡ None → (let o : Outcome = (r.Null, h) in o) ≡ step h m (c.Add s j v)
unfolding step
add-null h m s j v is = sym (object-null h (h.registers m s) _ is)

pub add-past : (h : IdealHeap) (m s j v : ℕ) (n : Name) (xs : List ℕ) → h.registers m s ≡ Some n → xs ≡ (record_of h n).nums → length xs ≤ j → (let o : Outcome = (r.Range, h) in o) ≡ step h m (c.Add s j v)
unfolding step
add-past h m s j v n xs is nums past = sym (num-past h (h.registers m s) j (adding h j v) n is (omega (arith, past, ap length nums)))

pub swap-null : (h : IdealHeap) (m s j u v : ℕ) → h.registers m s ≡ None → (let o : Outcome = (r.Null, h) in o) ≡ step h m (c.Swap s j u v)
unfolding step
swap-null h m s j u v is = sym (object-null h (h.registers m s) _ is)

pub swap-past : (h : IdealHeap) (m s j u v : ℕ) (n : Name) (xs : List ℕ) → h.registers m s ≡ Some n → xs ≡ (record_of h n).nums → length xs ≤ j → (let o : Outcome = (r.Range, h) in o) ≡ step h m (c.Swap s j u v)
unfolding step
swap-past h m s j u v n xs is nums past = sym (num-past h (h.registers m s) j (swapping h j u v) n is (omega (arith, past, ap length nums)))

pub write-done : (h k : IdealHeap) (m s j v : ℕ) (n : Name) (xs : List ℕ) → h.registers m s ≡ Some n → xs ≡ (record_of h n).nums → j < length xs
    → k ≡ set_record h n (put_number (record_of h n) j v) → (let o : Outcome = (r.Done, k) in o) ≡ step h m (c.Write s j v)
unfolding step
write-done h k m s j v n xs is nums within heap =
    with_heap r.Done k (set_record h n (put_number (record_of h n) j v)) heap
    ∙ sym (num-within h (h.registers m s) j (writing h j v) n is (omega (arith, within, ap length nums)))

pub add-done : (h k : IdealHeap) (m s j v : ℕ) (n : Name) (xs : List ℕ) (x w : ℕ) → h.registers m s ≡ Some n → xs ≡ (record_of h n).nums → j < length xs → x ≡ get_or xs j x
    → w ≡ (x + v) % 2 ^ 64 → k ≡ set_record h n (put_number (record_of h n) j w) → (let o : Outcome = (r.Num x, k) in o) ≡ step h m (c.Add s j v)
unfolding step
add-done h k m s j v n xs x w is nums within x_is sum heap =
    let number : x ≡ slice_index (record_of h n).nums j = number-at xs j x within x_is ∙ ap (λ l. slice_index l j) nums in
    with_heap (r.Num x) k (set_record h n (put_number (record_of h n) j w)) heap
    ∙ ap (λ y. let o : Outcome = (r.Num x, set_record h n (put_number (record_of h n) j y)) in o) sum
    ∙ ap (λ y. let o : Outcome = (r.Num y, set_record h n (put_number (record_of h n) j ((y + v) % 2 ^ 64))) in o) number
    ∙ sym (num-within h (h.registers m s) j (adding h j v) n is (omega (arith, within, ap length nums)))

differs : (x u : ℕ) → (x ≡ u → ⊥) → nat_eq x u ≡ false
differs x u other = elim (eqb_tells x u) [ inl same ↦ absurd (other same.1) | inr not ↦ not.0 ]

pub swap-no : (h : IdealHeap) (m s j u v : ℕ) (n : Name) (xs : List ℕ) (x : ℕ) → h.registers m s ≡ Some n → xs ≡ (record_of h n).nums → j < length xs → x ≡ get_or xs j x
    → (x ≡ u → ⊥) → (let o : Outcome = (r.No, h) in o) ≡ step h m (c.Swap s j u v)
unfolding step
swap-no h m s j u v n xs x is nums within x_is other =
    let number : x ≡ slice_index (record_of h n).nums j = number-at xs j x within x_is ∙ ap (λ l. slice_index l j) nums in
    let test : nat_eq (slice_index (record_of h n).nums j) u ≡ false = ap (λ y. nat_eq y u) (sym number) ∙ differs x u other in
    sym (num-within h (h.registers m s) j (swapping h j u v) n is (omega (arith, within, ap length nums))
    ∙ ap (λ b. let o : Outcome = (if b then (r.Yes, set_record h n (put_number (record_of h n) j v)) else (r.No, h)) in o) test)

pub swap-yes : (h k : IdealHeap) (m s j u v : ℕ) (n : Name) (xs : List ℕ) (x : ℕ) → h.registers m s ≡ Some n → xs ≡ (record_of h n).nums → j < length xs → x ≡ get_or xs j x
    → x ≡ u → k ≡ set_record h n (put_number (record_of h n) j v) → (let o : Outcome = (r.Yes, k) in o) ≡ step h m (c.Swap s j u v)
unfolding step
swap-yes h k m s j u v n xs x is nums within x_is same heap =
    let number : x ≡ slice_index (record_of h n).nums j = number-at xs j x within x_is ∙ ap (λ l. slice_index l j) nums in
    let test : nat_eq (slice_index (record_of h n).nums j) u ≡ true = ap (λ y. nat_eq y u) (sym number) ∙ eq-eqb x u same in
    with_heap r.Yes k (set_record h n (put_number (record_of h n) j v)) heap
    ∙ sym (num-within h (h.registers m s) j (swapping h j u v) n is (omega (arith, within, ap length nums))
    ∙ ap (λ b. let o : Outcome = (if b then (r.Yes, set_record h n (put_number (record_of h n) j v)) else (r.No, h)) in o) test)

-- fields: `xs` are what the references hold

global_reply-field : (v : Option Name) → global_reply v ≡ field_reply (field_of v)
global_reply-field None = refl
global_reply-field (Some n) = refl

name_in-field : (v : Option Name) → name_of_field (field_of v) ≡ v
name_in-field None = refl
name_in-field (Some n) = refl

field-read : (x : Record) (xs : List (Option Name)) (i : ℕ) (v : Option Name) → map field_of xs ≡ x.refs → i < length xs → v ≡ get_or xs i v → field_at x i ≡ field_of v
field-read x xs i v refs within v_is =
    ap (λ l. unwrap_or (slice_get l i) Nil) (sym refs)
    ∙ ap (λ o. unwrap_or o Nil) (slice_get-map field_of xs i ∙ ap (λ o. option_map field_of o) (slice_get-get_or xs i v within))
    ∙ ap field_of (sym v_is)

pub get-null : (h : IdealHeap) (m d s i : ℕ) → h.registers m s ≡ None → (let o : Outcome = (r.Null, h) in o) ≡ step h m (c.Get d s i)
unfolding step
get-null h m d s i is = sym (object-null h (h.registers m s) _ is)

pub get-past : (h : IdealHeap) (m d s i : ℕ) (n : Name) (xs : List (Option Name)) → h.registers m s ≡ Some n → map field_of xs ≡ (record_of h n).refs → length xs ≤ i
    → (let o : Outcome = (r.Range, h) in o) ≡ step h m (c.Get d s i)
unfolding step
get-past h m d s i n xs is refs past = sym (ref-past h (h.registers m s) i (getting h m d i) n is (omega (arith, past, ap length refs, length-map xs field_of)))

pub get-done : (h k : IdealHeap) (m d s i : ℕ) (n : Name) (xs : List (Option Name)) (v : Option Name) (x : Reply) → h.registers m s ≡ Some n → map field_of xs ≡ (record_of h n).refs → i < length xs
    → v ≡ get_or xs i v → x ≡ global_reply v → k ≡ set_register h m d v → (let o : Outcome = (x, k) in o) ≡ step h m (c.Get d s i)
unfolding step
get-done h k m d s i n xs v x is refs within v_is reply heap =
    let field : field_at (record_of h n) i ≡ field_of v = field-read (record_of h n) xs i v refs within v_is in
    with_heap x k (set_register h m d v) heap
    ∙ ap (λ y. let o : Outcome = (y, set_register h m d v) in o) (reply ∙ global_reply-field v)
    ∙ ap (λ w. let o : Outcome = (field_reply (field_of v), set_register h m d w) in o) (sym (name_in-field v))
    ∙ ap (λ f. let o : Outcome = (field_reply f, set_register h m d (name_of_field f)) in o) (sym field)
    ∙ sym (ref-within h (h.registers m s) i (getting h m d i) n is (omega (arith, within, ap length refs, length-map xs field_of)))

pub put-null : (h : IdealHeap) (m s i v : ℕ) → h.registers m s ≡ None → (let o : Outcome = (r.Null, h) in o) ≡ step h m (c.Put s i v)
unfolding step
put-null h m s i v is = sym (object-null h (h.registers m s) _ is)

pub put-past : (h : IdealHeap) (m s i v : ℕ) (n : Name) (xs : List (Option Name)) → h.registers m s ≡ Some n → map field_of xs ≡ (record_of h n).refs → length xs ≤ i
    → (let o : Outcome = (r.Range, h) in o) ≡ step h m (c.Put s i v)
unfolding step
put-past h m s i v n xs is refs past = sym (ref-past h (h.registers m s) i (putting h m i v) n is (omega (arith, past, ap length refs, length-map xs field_of)))

pub put-done : (h k : IdealHeap) (m s i v : ℕ) (n : Name) (xs : List (Option Name)) (w : Option Name) → h.registers m s ≡ Some n → map field_of xs ≡ (record_of h n).refs → i < length xs
    → w ≡ h.registers m v → k ≡ set_record h n (put_field (record_of h n) i (field_of w)) → (let o : Outcome = (r.Done, k) in o) ≡ step h m (c.Put s i v)
unfolding step
put-done h k m s i v n xs w is refs within w_is heap =
    with_heap r.Done k (set_record h n (put_field (record_of h n) i (field_of w))) heap
    ∙ ap (λ y. let o : Outcome = (r.Done, set_record h n (put_field (record_of h n) i (field_of y))) in o) w_is
    ∙ sym (ref-within h (h.registers m s) i (putting h m i v) n is (omega (arith, within, ap length refs, length-map xs field_of)))

-- registers and globals

pub move-done : (h k : IdealHeap) (m d s : ℕ) (v : Option Name) → v ≡ h.registers m s → k ≡ set_register h m d v → (let o : Outcome = (r.Done, k) in o) ≡ step h m (c.Move d s)
unfolding step
move-done h k m d s v v_is heap = with_heap r.Done k (set_register h m d (h.registers m s)) (heap ∙ ap (λ y. set_register h m d y) v_is)

pub drop-done : (h k : IdealHeap) (m s : ℕ) → k ≡ set_register h m s None → (let o : Outcome = (r.Done, k) in o) ≡ step h m (c.DropReg s)
unfolding step
drop-done h k m s heap = with_heap r.Done k (set_register h m s None) heap

pub load-done : (h k : IdealHeap) (m d g : ℕ) (v : Option Name) (x : Reply) → v ≡ h.globals g → x ≡ global_reply v → k ≡ set_register h m d v → (let o : Outcome = (x, k) in o) ≡ step h m (c.Load d g)
unfolding step
load-done h k m d g v x v_is reply heap =
    with_heap x k (set_register h m d (h.globals g)) (heap ∙ ap (λ y. set_register h m d y) v_is)
    ∙ ap (λ y. let o : Outcome = (y, set_register h m d (h.globals g)) in o) (reply ∙ ap global_reply v_is)

pub share-done : (h k : IdealHeap) (m g s : ℕ) (v : Option Name) → v ≡ h.registers m s → k ≡ set_global h g v → (let o : Outcome = (r.Done, k) in o) ≡ step h m (c.Share g s)
unfolding step
share-done h k m g s v v_is heap = with_heap r.Done k (set_global h g (h.registers m s)) (heap ∙ ap (λ y. set_global h g y) v_is)

-- pins

pub pin-null : (h : IdealHeap) (m s : ℕ) → h.registers m s ≡ None → (let o : Outcome = (r.Null, h) in o) ≡ step h m (c.Pin s)
unfolding step
pin-null h m s is = sym (object-null h (h.registers m s) (pinning h) is)

pub pin-was : (h k : IdealHeap) (m s : ℕ) (n : Name) → h.registers m s ≡ Some n → h.pinned n ≡ true → k ≡ set_pinned h n true → (let o : Outcome = (r.No, k) in o) ≡ step h m (c.Pin s)
unfolding step
pin-was h k m s n is was heap =
    with_heap r.No k (set_pinned h n true) heap
    ∙ sym (object-some h (h.registers m s) (pinning h) n is ∙ ap (λ b. let o : Outcome = ((if b then r.No else r.Yes), set_pinned h n true) in o) was)

pub pin-was_not : (h k : IdealHeap) (m s : ℕ) (n : Name) → h.registers m s ≡ Some n → h.pinned n ≡ false → k ≡ set_pinned h n true → (let o : Outcome = (r.Yes, k) in o) ≡ step h m (c.Pin s)
unfolding step
pin-was_not h k m s n is was heap =
    with_heap r.Yes k (set_pinned h n true) heap
    ∙ sym (object-some h (h.registers m s) (pinning h) n is ∙ ap (λ b. let o : Outcome = ((if b then r.No else r.Yes), set_pinned h n true) in o) was)

pub unpin-null : (h : IdealHeap) (m s : ℕ) → h.registers m s ≡ None → (let o : Outcome = (r.Null, h) in o) ≡ step h m (c.Unpin s)
unfolding step
unpin-null h m s is = sym (object-null h (h.registers m s) (unpinning h) is)

pub unpin-was : (h k : IdealHeap) (m s : ℕ) (n : Name) → h.registers m s ≡ Some n → h.pinned n ≡ true → k ≡ set_pinned h n false → (let o : Outcome = (r.Yes, k) in o) ≡ step h m (c.Unpin s)
unfolding step
unpin-was h k m s n is was heap =
    with_heap r.Yes k (set_pinned h n false) heap
    ∙ sym (object-some h (h.registers m s) (unpinning h) n is ∙ ap (λ b. let o : Outcome = ((if b then r.Yes else r.No), set_pinned h n false) in o) was)

pub unpin-was_not : (h k : IdealHeap) (m s : ℕ) (n : Name) → h.registers m s ≡ Some n → h.pinned n ≡ false → k ≡ set_pinned h n false → (let o : Outcome = (r.No, k) in o) ≡ step h m (c.Unpin s)
unfolding step
unpin-was_not h k m s n is was heap =
    with_heap r.No k (set_pinned h n false) heap
    ∙ sym (object-some h (h.registers m s) (unpinning h) n is ∙ ap (λ b. let o : Outcome = ((if b then r.Yes else r.No), set_pinned h n false) in o) was)

-- a new object: its name, and the heap after its allocation and the change of the register

pub new-birth : (h k : IdealHeap) (m birth : ℕ) (x : Record) → k ≡ with_object h m x → birth ≡ k.births m → birth ≡ h.births m + 1
new-birth h k m birth x stored is = is ∙ ap (λ q. q.births m) stored ∙ at_number-same h.births m (h.births m + 1)

pub new-heap : (h k l : IdealHeap) (m d refs nums birth : ℕ) (x : Record) → x ≡ born refs nums → k ≡ with_object h m x → birth ≡ k.births m
    → l ≡ set_register k m d (Some (name m birth)) → l ≡ with_new h m d refs nums
new-heap h k l m d refs nums birth x blank stored is held =
    held ∙ ap (λ q. set_register q m d (Some (name m birth))) (stored ∙ ap (λ y. with_object h m y) blank)
    ∙ ap (λ j. set_register (with_object h m (born refs nums)) m d (Some (name m j))) (new-birth h k m birth x stored is)

pub new-done : (h k : IdealHeap) (m d refs nums : ℕ) (n : Name) → n ≡ name m (h.births m + 1) → k ≡ with_new h m d refs nums → (let o : Outcome = (r.New n, k) in o) ≡ step h m (c.New d refs nums)
unfolding step
new-done h k m d refs nums n is heap = with_heap (r.New n) k (with_new h m d refs nums) heap ∙ ap (λ j. let o : Outcome = (r.New j, with_new h m d refs nums) in o) is

pub gc-done : (h : IdealHeap) (m : ℕ) → (let o : Outcome = (r.Done, h) in o) ≡ step h m c.Gc
unfolding step
gc-done h m = refl

pub meet-done : (h : IdealHeap) (m : ℕ) → (let o : Outcome = (r.Done, h) in o) ≡ step h m c.Meet
unfolding step
meet-done h m = refl
