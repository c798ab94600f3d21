-- What a command leaves, by its form.
use Rattle.std.proofs.Common.{ap, arith, ◌≡◌, ℕ, ◌+◌, ◌%◌, ◌^◌, ◌≤◌, Bool, true, false, nat_eq, refl, sym, ◌∙◌, inl, inr, Option, Some, None, slice_get, slice_index, if◌then◌else◌, unwrap_or}
use Rattle.ideal_heap.specs.declared.name.Name.{Name}
use Rattle.ideal_heap.specs.declared.command.Command.{Command}
use Rattle.ideal_heap.specs.declared.command.Command.TheVariants as c
use Rattle.ideal_heap.specs.declared.reply.Reply.TheVariants as r
use Rattle.ideal_heap.specs.Names.{name}
use Rattle.ideal_heap.specs.Ideal.{IdealHeap, Record, Field, Nil, At, Outcome, set_register, set_record, record_of, no_fields, field_of as field_to, put_field, put_number, name_of_field, field_at, born, with_object, step, HasRecord}
use Rattle.ideal_heap.proofs.UpdateLemmas.{at_name-cases, at_name-other, at_number-other, register-cases}
use Rattle.ideal_heap.proofs.StepLemmas.{by_num, by_ref, by_object, getting, putting, reading, writing, adding, swapping, pinning, unpinning}
use Rattle.programs.specs.Contents.{number_of_object, field_in, number_of, field_in_heap}
use Rattle.programs.specs.Growth.{IsGrown}
use Rattle.programs.specs.Footprints.{changed_by, shared_by, SetsField, Changes, HitsNumber, HitsField}
use Rattle.programs.proofs.AccessLemmas.{set-other, with-field}

by_test : (P : Outcome → Type 0) (b : Bool) (x y : Outcome) → P x → P y → P (if b then x else y)
by_test P true x y px py = px
by_test P false x y px py = py

-- either way of a swap
pub by_swap : (P : Outcome → Type 0) (h : IdealHeap) (j u v : ℕ) (n : Name) → P (r.Yes, set_record h n (put_number (record_of h n) j v)) → P (r.No, h) → P (swapping h j u v n (record_of h n))
by_swap P h j u v n set same =
    by_test P (nat_eq (slice_index (record_of h n).nums j) u) (r.Yes, set_record h n (put_number (record_of h n) j v)) (r.No, h) set same

-- registers

register-other : (h : IdealHeap) (m d : ℕ) (v : Option Name) (k s : ℕ) → (k ≡ m → s ≡ d → ⊥) → (set_register h m d v).registers k s ≡ h.registers k s
register-other h m d v k s other = elim (register-cases h m d v k s) [ inl set ↦ absurd (other set.0 set.1) | inr kept ↦ kept ]

-- a command that sets register d, if any, does not set this one
apart : (m d k s : ℕ) → ((k ≡ m) × (Some d ≡ Some s) → ⊥) → k ≡ m → s ≡ d → ⊥
apart m d k s not same place = not (same, ap (λ q. Some q) (sym place))

pub registers-stay : (h : IdealHeap) (m : ℕ) (command : Command) (k s : ℕ) → (SetsField m command k s → ⊥) → (step h m command).1.registers k s ≡ h.registers k s
unfolding step
registers-stay h m (c.New d refs nums) k s not = register-other (with_object h m (born refs nums)) m d (Some (name m (h.births m + 1))) k s (apart m d k s not)
registers-stay h m (c.Get d t i) k s not = by_ref (λ o. o.1.registers k s ≡ h.registers k s) h (h.registers m t) i (getting h m d i) refl refl
    (λ n is l. register-other h m d (name_of_field (field_at (record_of h n) i)) k s (apart m d k s not))
registers-stay h m (c.Put t i v) k s not = by_ref (λ o. o.1.registers k s ≡ h.registers k s) h (h.registers m t) i (putting h m i v) refl refl (λ n is l. refl)
registers-stay h m (c.Read t j) k s not = by_num (λ o. o.1.registers k s ≡ h.registers k s) h (h.registers m t) j (reading h j) refl refl (λ n is l. refl)
registers-stay h m (c.Write t j v) k s not = by_num (λ o. o.1.registers k s ≡ h.registers k s) h (h.registers m t) j (writing h j v) refl refl (λ n is l. refl)
registers-stay h m (c.Add t j v) k s not = by_num (λ o. o.1.registers k s ≡ h.registers k s) h (h.registers m t) j (adding h j v) refl refl (λ n is l. refl)
registers-stay h m (c.Swap t j u v) k s not = by_num (λ o. o.1.registers k s ≡ h.registers k s) h (h.registers m t) j (swapping h j u v) refl refl
    (λ n is l. by_swap (λ o. o.1.registers k s ≡ h.registers k s) h j u v n refl refl)
registers-stay h m (c.Move d t) k s not = register-other h m d (h.registers m t) k s (apart m d k s not)
registers-stay h m (c.DropReg d) k s not = register-other h m d None k s (apart m d k s not)
registers-stay h m (c.Load d g) k s not = register-other h m d (h.globals g) k s (apart m d k s not)
registers-stay h m (c.Share g t) k s not = refl
registers-stay h m (c.Pin t) k s not = by_object (λ o. o.1.registers k s ≡ h.registers k s) h (h.registers m t) (pinning h) refl (λ n is. refl)
registers-stay h m (c.Unpin t) k s not = by_object (λ o. o.1.registers k s ≡ h.registers k s) h (h.registers m t) (unpinning h) refl (λ n is. refl)
registers-stay h m c.Gc k s not = refl
registers-stay h m c.Meet k s not = refl

pub globals-stay : (h : IdealHeap) (m : ℕ) (command : Command) (g : ℕ) → (shared_by command ≡ Some g → ⊥) → (step h m command).1.globals g ≡ h.globals g
unfolding step
globals-stay h m (c.New d refs nums) g not = refl
globals-stay h m (c.Get d t i) g not = by_ref (λ o. o.1.globals g ≡ h.globals g) h (h.registers m t) i (getting h m d i) refl refl (λ n is l. refl)
globals-stay h m (c.Put t i v) g not = by_ref (λ o. o.1.globals g ≡ h.globals g) h (h.registers m t) i (putting h m i v) refl refl (λ n is l. refl)
globals-stay h m (c.Read t j) g not = by_num (λ o. o.1.globals g ≡ h.globals g) h (h.registers m t) j (reading h j) refl refl (λ n is l. refl)
globals-stay h m (c.Write t j v) g not = by_num (λ o. o.1.globals g ≡ h.globals g) h (h.registers m t) j (writing h j v) refl refl (λ n is l. refl)
globals-stay h m (c.Add t j v) g not = by_num (λ o. o.1.globals g ≡ h.globals g) h (h.registers m t) j (adding h j v) refl refl (λ n is l. refl)
globals-stay h m (c.Swap t j u v) g not = by_num (λ o. o.1.globals g ≡ h.globals g) h (h.registers m t) j (swapping h j u v) refl refl
    (λ n is l. by_swap (λ o. o.1.globals g ≡ h.globals g) h j u v n refl refl)
globals-stay h m (c.Move d t) g not = refl
globals-stay h m (c.DropReg d) g not = refl
globals-stay h m (c.Load d k) g not = refl
globals-stay h m (c.Share k t) g not = at_number-other h.globals k (h.registers m t) g (λ same. not (ap (λ q. Some q) (sym same)))
globals-stay h m (c.Pin t) g not = by_object (λ o. o.1.globals g ≡ h.globals g) h (h.registers m t) (pinning h) refl (λ n is. refl)
globals-stay h m (c.Unpin t) g not = by_object (λ o. o.1.globals g ≡ h.globals g) h (h.registers m t) (unpinning h) refl (λ n is. refl)
globals-stay h m c.Gc g not = refl
globals-stay h m c.Meet g not = refl

-- objects

-- a command on an object that o names leaves the records of others
record-other : (h : IdealHeap) (o : Option Name) (k : Name) (x : Record) (n : Name) → o ≡ Some k → (o ≡ Some n → ⊥) → (set_record h k x).records n ≡ h.records n
record-other h o k x n is not = at_name-other h.records k (Some x) n (λ same. not (is ∙ ap (λ q. Some q) (sym same)))

pub objects-stay : (h : IdealHeap) (m : ℕ) (command : Command) (n : Name) → (changed_by h m command ≡ Some n → ⊥) → (step h m command).1.records n ≡ h.records n
unfolding step
objects-stay h m (c.New d refs nums) n not = at_name-other h.records (name m (h.births m + 1)) (Some (born refs nums)) n (λ same. not (ap (λ q. Some q) (sym same)))
objects-stay h m (c.Get d t i) n not = by_ref (λ o. o.1.records n ≡ h.records n) h (h.registers m t) i (getting h m d i) refl refl (λ k is l. refl)
objects-stay h m (c.Put t i v) n not = by_ref (λ o. o.1.records n ≡ h.records n) h (h.registers m t) i (putting h m i v) refl refl
    (λ k is l. record-other h (h.registers m t) k (put_field (record_of h k) i (field_to (h.registers m v))) n is not)
objects-stay h m (c.Read t j) n not = by_num (λ o. o.1.records n ≡ h.records n) h (h.registers m t) j (reading h j) refl refl (λ k is l. refl)
objects-stay h m (c.Write t j v) n not = by_num (λ o. o.1.records n ≡ h.records n) h (h.registers m t) j (writing h j v) refl refl
    (λ k is l. record-other h (h.registers m t) k (put_number (record_of h k) j v) n is not)
objects-stay h m (c.Add t j v) n not = by_num (λ o. o.1.records n ≡ h.records n) h (h.registers m t) j (adding h j v) refl refl
    (λ k is l. record-other h (h.registers m t) k (put_number (record_of h k) j ((slice_index (record_of h k).nums j + v) % 2 ^ 64)) n is not)
objects-stay h m (c.Swap t j u v) n not = by_num (λ o. o.1.records n ≡ h.records n) h (h.registers m t) j (swapping h j u v) refl refl
    (λ k is l. by_swap (λ o. o.1.records n ≡ h.records n) h j u v k (record-other h (h.registers m t) k (put_number (record_of h k) j v) n is not) refl)
objects-stay h m (c.Move d t) n not = refl
objects-stay h m (c.DropReg d) n not = refl
objects-stay h m (c.Load d g) n not = refl
objects-stay h m (c.Share g t) n not = refl
objects-stay h m (c.Pin t) n not = by_object (λ o. o.1.records n ≡ h.records n) h (h.registers m t) (pinning h) refl (λ k is. refl)
objects-stay h m (c.Unpin t) n not = by_object (λ o. o.1.records n ≡ h.records n) h (h.registers m t) (unpinning h) refl (λ k is. refl)
objects-stay h m c.Gc n not = refl
objects-stay h m c.Meet n not = refl

-- numbers and references

-- what f reads of the record n stays, where it reads the same of a record that replaces it
read-kept : {X : Type 0} (f : Record → X) (h : IdealHeap) (k : Name) (y : Record) (n : Name) → (n ≡ k → f y ≡ f (record_of h k)) → f (record_of (set_record h k y) n) ≡ f (record_of h n)
read-kept f h k y n alike = elim (at_name-cases h.records k (Some y) n) [
  | inl set ↦ ap (λ o. f (unwrap_or o no_fields)) set.1 ∙ alike set.0 ∙ ap (λ q. f (record_of h q)) (sym set.0)
  | inr kept ↦ ap (λ o. f (unwrap_or o no_fields)) kept.1
]

-- a command on the object that o names changes the object n, if it is that one
this-one : (o : Option Name) (n k : Name) → o ≡ Some k → n ≡ k → o ≡ Some n
this-one o n k is same = is ∙ ap (λ q. Some q) (sym same)

abbrev nums-at : ℕ → Record → Option ℕ
nums-at j x = slice_get x.nums j

abbrev refs-at : ℕ → Record → Option Field
refs-at i x = slice_get x.refs i

named-numbers-stay : (h : IdealHeap) (m : ℕ) (command : Command) (n : Name) (j : ℕ) → (changed_by h m command ≡ Some n → HitsNumber command j → ⊥)
    → nums-at j (record_of (step h m command).1 n) ≡ nums-at j (record_of h n)
unfolding step
named-numbers-stay h m (c.New d refs nums) n j not = ap (λ o. nums-at j (unwrap_or o no_fields)) (objects-stay h m (c.New d refs nums) n (λ is. not is tt))
named-numbers-stay h m (c.Get d t i) n j not = by_ref (λ o. nums-at j (record_of o.1 n) ≡ nums-at j (record_of h n)) h (h.registers m t) i (getting h m d i) refl refl (λ k is l. refl)
named-numbers-stay h m (c.Put t i v) n j not = by_ref (λ o. nums-at j (record_of o.1 n) ≡ nums-at j (record_of h n)) h (h.registers m t) i (putting h m i v) refl refl
    (λ k is l. read-kept (nums-at j) h k (put_field (record_of h k) i (field_to (h.registers m v))) n (λ same. refl))
named-numbers-stay h m (c.Read t i) n j not = by_num (λ o. nums-at j (record_of o.1 n) ≡ nums-at j (record_of h n)) h (h.registers m t) i (reading h i) refl refl (λ k is l. refl)
named-numbers-stay h m (c.Write t i v) n j not = by_num (λ o. nums-at j (record_of o.1 n) ≡ nums-at j (record_of h n)) h (h.registers m t) i (writing h i v) refl refl
    (λ k is l. read-kept (nums-at j) h k (put_number (record_of h k) i v) n
    (λ same. set-other (record_of h k).nums i v j (λ hit. not (this-one (h.registers m t) n k is same) hit)))
named-numbers-stay h m (c.Add t i v) n j not = by_num (λ o. nums-at j (record_of o.1 n) ≡ nums-at j (record_of h n)) h (h.registers m t) i (adding h i v) refl refl
    (λ k is l. read-kept (nums-at j) h k (put_number (record_of h k) i ((slice_index (record_of h k).nums i + v) % 2 ^ 64)) n
    (λ same. set-other (record_of h k).nums i ((slice_index (record_of h k).nums i + v) % 2 ^ 64) j (λ hit. not (this-one (h.registers m t) n k is same) hit)))
named-numbers-stay h m (c.Swap t i u v) n j not = by_num (λ o. nums-at j (record_of o.1 n) ≡ nums-at j (record_of h n)) h (h.registers m t) i (swapping h i u v) refl refl
    (λ k is l. by_swap (λ o. nums-at j (record_of o.1 n) ≡ nums-at j (record_of h n)) h i u v k
    (read-kept (nums-at j) h k (put_number (record_of h k) i v) n (λ same. set-other (record_of h k).nums i v j (λ hit. not (this-one (h.registers m t) n k is same) hit))) refl)
named-numbers-stay h m (c.Move d t) n j not = refl
named-numbers-stay h m (c.DropReg d) n j not = refl
named-numbers-stay h m (c.Load d g) n j not = refl
named-numbers-stay h m (c.Share g t) n j not = refl
named-numbers-stay h m (c.Pin t) n j not = by_object (λ o. nums-at j (record_of o.1 n) ≡ nums-at j (record_of h n)) h (h.registers m t) (pinning h) refl (λ k is. refl)
named-numbers-stay h m (c.Unpin t) n j not = by_object (λ o. nums-at j (record_of o.1 n) ≡ nums-at j (record_of h n)) h (h.registers m t) (unpinning h) refl (λ k is. refl)
named-numbers-stay h m c.Gc n j not = refl
named-numbers-stay h m c.Meet n j not = refl

named-fields-stay : (h : IdealHeap) (m : ℕ) (command : Command) (n : Name) (i : ℕ) → (changed_by h m command ≡ Some n → HitsField command i → ⊥)
    → refs-at i (record_of (step h m command).1 n) ≡ refs-at i (record_of h n)
unfolding step
named-fields-stay h m (c.New d refs nums) n i not = ap (λ o. refs-at i (unwrap_or o no_fields)) (objects-stay h m (c.New d refs nums) n (λ is. not is tt))
named-fields-stay h m (c.Get d t j) n i not = by_ref (λ o. refs-at i (record_of o.1 n) ≡ refs-at i (record_of h n)) h (h.registers m t) j (getting h m d j) refl refl (λ k is l. refl)
named-fields-stay h m (c.Put t j v) n i not = by_ref (λ o. refs-at i (record_of o.1 n) ≡ refs-at i (record_of h n)) h (h.registers m t) j (putting h m j v) refl refl
    (λ k is l. read-kept (refs-at i) h k (put_field (record_of h k) j (field_to (h.registers m v))) n
    (λ same. set-other (record_of h k).refs j (field_to (h.registers m v)) i (λ hit. not (this-one (h.registers m t) n k is same) hit)))
named-fields-stay h m (c.Read t j) n i not = by_num (λ o. refs-at i (record_of o.1 n) ≡ refs-at i (record_of h n)) h (h.registers m t) j (reading h j) refl refl (λ k is l. refl)
named-fields-stay h m (c.Write t j v) n i not = by_num (λ o. refs-at i (record_of o.1 n) ≡ refs-at i (record_of h n)) h (h.registers m t) j (writing h j v) refl refl
    (λ k is l. read-kept (refs-at i) h k (put_number (record_of h k) j v) n (λ same. refl))
named-fields-stay h m (c.Add t j v) n i not = by_num (λ o. refs-at i (record_of o.1 n) ≡ refs-at i (record_of h n)) h (h.registers m t) j (adding h j v) refl refl
    (λ k is l. read-kept (refs-at i) h k (put_number (record_of h k) j ((slice_index (record_of h k).nums j + v) % 2 ^ 64)) n (λ same. refl))
named-fields-stay h m (c.Swap t j u v) n i not = by_num (λ o. refs-at i (record_of o.1 n) ≡ refs-at i (record_of h n)) h (h.registers m t) j (swapping h j u v) refl refl
    (λ k is l. by_swap (λ o. refs-at i (record_of o.1 n) ≡ refs-at i (record_of h n)) h j u v k
    (read-kept (refs-at i) h k (put_number (record_of h k) j v) n (λ same. refl)) refl)
named-fields-stay h m (c.Move d t) n i not = refl
named-fields-stay h m (c.DropReg d) n i not = refl
named-fields-stay h m (c.Load d g) n i not = refl
named-fields-stay h m (c.Share g t) n i not = refl
named-fields-stay h m (c.Pin t) n i not = by_object (λ o. refs-at i (record_of o.1 n) ≡ refs-at i (record_of h n)) h (h.registers m t) (pinning h) refl (λ k is. refl)
named-fields-stay h m (c.Unpin t) n i not = by_object (λ o. refs-at i (record_of o.1 n) ≡ refs-at i (record_of h n)) h (h.registers m t) (unpinning h) refl (λ k is. refl)
named-fields-stay h m c.Gc n i not = refl
named-fields-stay h m c.Meet n i not = refl

pub numbers-stay : (h : IdealHeap) (m : ℕ) (command : Command) (o : Option Name) (j : ℕ) → (Changes h m command o → HitsNumber command j → ⊥)
    → number_of_object (step h m command).1 o j ≡ number_of_object h o j
numbers-stay h m command None j not = refl
numbers-stay h m command (Some n) j not = named-numbers-stay h m command n j (λ is hit. not (n, refl, is) hit)

pub fields-stay : (h : IdealHeap) (m : ℕ) (command : Command) (o : Option Name) (i : ℕ) → (Changes h m command o → HitsField command i → ⊥)
    → field_in (step h m command).1 o i ≡ field_in h o i
fields-stay h m command None i not = refl
fields-stay h m command (Some n) i not = named-fields-stay h m command n i (λ is hit. not (n, refl, is) hit)

pub number-stays : (h : IdealHeap) (m : ℕ) (command : Command) (k s j : ℕ) → (SetsField m command k s → ⊥) → (Changes h m command (h.registers k s) → HitsNumber command j → ⊥)
    → number_of (step h m command).1 k s j ≡ number_of h k s j
number-stays h m command k s j unset not = ap (λ o. number_of_object (step h m command).1 o j) (registers-stay h m command k s unset) ∙ numbers-stay h m command (h.registers k s) j not

pub field-stays : (h : IdealHeap) (m : ℕ) (command : Command) (k s i : ℕ) → (SetsField m command k s → ⊥) → (Changes h m command (h.registers k s) → HitsField command i → ⊥)
    → field_in_heap (step h m command).1 k s i ≡ field_in_heap h k s i
field-stays h m command k s i unset not = ap (λ o. field_in (step h m command).1 o i) (registers-stay h m command k s unset) ∙ fields-stay h m command (h.registers k s) i not

-- new names

pub fresh : (h : IdealHeap) (m : ℕ) → IsGrown h → HasRecord h (name m (h.births m + 1)) → ⊥
fresh h m grown has =
    let counted : h.births m + 1 ≤ h.births m = grown.births (name m (h.births m + 1)) has in
    omega (arith, counted)

pub register-fresh : (h : IdealHeap) (m k s : ℕ) → IsGrown h → h.registers k s ≡ Some (name m (h.births m + 1)) → ⊥
register-fresh h m k s grown is = fresh h m grown (grown.closed.registers k s (name m (h.births m + 1)) is)

pub global-fresh : (h : IdealHeap) (m g : ℕ) → IsGrown h → h.globals g ≡ Some (name m (h.births m + 1)) → ⊥
global-fresh h m g grown is = fresh h m grown (grown.closed.globals g (name m (h.births m + 1)) is)

pub field-fresh : (h : IdealHeap) (m i : ℕ) (o : Option Name) → IsGrown h → field_in h o i ≡ Some (At (name m (h.births m + 1))) → ⊥
field-fresh h m i o grown is =
    let n : Name = name m (h.births m + 1) in
    let found : (k : Name) × (o ≡ Some k) × (slice_get (record_of h k).refs i ≡ Some (At n)) = with-field h o i (At n) is in
    fresh h m grown (grown.closed.fields found.0 n i (ap (λ q. unwrap_or q Nil) found.2))

pub new-leaves-number : (h : IdealHeap) (m d refs nums k s j : ℕ) → IsGrown h → (SetsField m (c.New d refs nums) k s → ⊥)
    → number_of (step h m (c.New d refs nums)).1 k s j ≡ number_of h k s j
new-leaves-number h m d refs nums k s j grown unset =
    number-stays h m (c.New d refs nums) k s j unset (λ changes hit. register-fresh h m k s grown (changes.1 ∙ sym changes.2))

pub new-leaves-field : (h : IdealHeap) (m d refs nums k s i : ℕ) → IsGrown h → (SetsField m (c.New d refs nums) k s → ⊥)
    → field_in_heap (step h m (c.New d refs nums)).1 k s i ≡ field_in_heap h k s i
new-leaves-field h m d refs nums k s i grown unset =
    field-stays h m (c.New d refs nums) k s i unset (λ changes hit. register-fresh h m k s grown (changes.1 ∙ sym changes.2))
