-- The `new` replies of a run name the objects of each mutator in the order of their births, and its `ref` replies name objects.
use Rattle.std.proofs.Common.{◌≡◌, refl, sym, ◌∙◌, ap, subst, ℕ, zero, suc, ◌+◌, ◌≤◌, arith, inl, inr, Bool, true, false, cond, nat_eq, zero-add, add-zero, List, [], ◌∷◌, map, Option, Some, None}
use Rattle.std.specs.Prelude.{if◌then◌else◌, is_some, slice_index, slice_index_or}
use Rattle.std.specs.List.{AllByRecursion}
use Rattle.std.proofs.lemmas.Bool.{cases_Bool, eqb-true, eqb-false}
use Rattle.ideal_heap.specs.declared.command.Command.{Command}
use Rattle.ideal_heap.specs.declared.command.Command.TheVariants as c
use Rattle.ideal_heap.specs.declared.reply.Reply.{Reply}
use Rattle.ideal_heap.specs.declared.reply.Reply.TheVariants as r
use Rattle.ideal_heap.specs.Ideal.{At, Field, HasRecord, IdealHeap, IsClosed, Nil, Outcome, Record, at_number, born, empty, field_reply, global_reply, put_number, record_of, set_record, step, with_new}
use Rattle.ideal_heap.specs.Names.{name}
use Rattle.ideal_heap.specs.Runs.{Answers, Entry, IsMutator, IsRun, after_entry, heap_after_run, is_full, of_mutator, replies_of}
use Rattle.ideal_heap.specs.declared.name.Name.{Name}
use Rattle.ideal_heap.proofs.StepLemmas.{adding, by_num, by_object, by_ref, by_step, getting, pinning, putting, reading, swapping, unpinning, writing}
use Rattle.ideal_heap.proofs.KeptLemmas.{step-closed}
use Rattle.ideal_heap.proofs.UpdateLemmas.{at_name-cases, at_number-cases, at_number-other, at_number-same}
use Rattle.made_trace.specs.Counts.{is_new_reply}
use Rattle.heap_picture.specs.Texts.{AllNamesInOrder, IsKnown, NamesInOrder}
use Rattle.heap_picture.proofs.Mutators.{news, one_if}
use Rattle.heap_picture.proofs.SessionCounts.{dealt}

-- the births of the heap after mutator m got the reply, and the object that it names
abbrev Bears : IdealHeap → ℕ → Reply → IdealHeap → Type 0
Bears h m (r.New n) k = (n ≡ name m (h.births m + 1)) × (k.births ≡ at_number h.births m (h.births m + 1))
Bears h m (r.Ref n) k = HasRecord h n × (k.births ≡ h.births)
Bears h m _ k = k.births ≡ h.births

abbrev BearsOut : IdealHeap → ℕ → Outcome → Type 0
BearsOut h m o = Bears h m o.0 o.1

field-bears : (h k : IdealHeap) (m : ℕ) (f : Field) → ((n : Name) → f ≡ At n → HasRecord h n) → k.births ≡ h.births → Bears h m (field_reply f) k
field-bears h k m Nil has same = same
field-bears h k m (At n) has same = (has n refl, same)

global-bears : (h k : IdealHeap) (m : ℕ) (o : Option Name) → ((n : Name) → o ≡ Some n → HasRecord h n) → k.births ≡ h.births → Bears h m (global_reply o) k
global-bears h k m None has same = same
global-bears h k m (Some n) has same = (has n refl, same)

either-bears : (h k : IdealHeap) (m : ℕ) (b : Bool) → k.births ≡ h.births → Bears h m (if b then r.No else r.Yes) k
either-bears h k m true same = same
either-bears h k m false same = same

other-bears : (h k : IdealHeap) (m : ℕ) (b : Bool) → k.births ≡ h.births → Bears h m (if b then r.Yes else r.No) k
other-bears h k m true same = same
other-bears h k m false same = same

chosen-bears : (h : IdealHeap) (m : ℕ) (b : Bool) (x y : Outcome) → BearsOut h m x → BearsOut h m y → BearsOut h m (if b then x else y)
chosen-bears h m true x y one two = one
chosen-bears h m false x y one two = two

step-bears : (h : IdealHeap) (m : ℕ) (command : Command) → IsClosed h → BearsOut h m (step h m command)
unfolding step
step-bears h m (c.New d refs nums) closed = (refl, refl)
step-bears h m (c.Get d s i) closed = by_ref (BearsOut h m) h (h.registers m s) i (getting h m d i) refl refl (λ n is low. field-bears h _ m _ (λ to at. closed.fields n to i at) refl)
step-bears h m (c.Put s i v) closed = by_ref (BearsOut h m) h (h.registers m s) i (putting h m i v) refl refl (λ n is low. refl)
step-bears h m (c.Read s j) closed = by_num (BearsOut h m) h (h.registers m s) j (reading h j) refl refl (λ n is low. refl)
step-bears h m (c.Write s j v) closed = by_num (BearsOut h m) h (h.registers m s) j (writing h j v) refl refl (λ n is low. refl)
step-bears h m (c.Add s j v) closed = by_num (BearsOut h m) h (h.registers m s) j (adding h j v) refl refl (λ n is low. refl)
step-bears h m (c.Swap s j u v) closed = by_num (BearsOut h m) h (h.registers m s) j (swapping h j u v) refl refl (λ n is low. chosen-bears h m (nat_eq (slice_index (record_of h n).nums j) u) (r.Yes, set_record h n (put_number (record_of h n) j v)) (r.No, h) refl refl)
step-bears h m (c.Move d s) closed = refl
step-bears h m (c.DropReg s) closed = refl
step-bears h m (c.Load d g) closed = global-bears h _ m (h.globals g) (λ n is. closed.globals g n is) refl
step-bears h m (c.Share g s) closed = refl
step-bears h m (c.Pin s) closed = by_object (BearsOut h m) h (h.registers m s) (pinning h) refl (λ n is. either-bears h _ m (h.pinned n) refl)
step-bears h m (c.Unpin s) closed = by_object (BearsOut h m) h (h.registers m s) (unpinning h) refl (λ n is. other-bears h _ m (h.pinned n) refl)
step-bears h m c.Gc closed = refl
step-bears h m c.Meet closed = refl

full-bears : (h : IdealHeap) (m : ℕ) (x : Reply) → is_full x ≡ true → Bears h m x h
full-bears h m (r.New n) e = absurd (let wrong : false ≡ true = e in cc)
full-bears h m r.Full e = refl
full-bears h m (r.Ref n) e = absurd (let wrong : false ≡ true = e in cc)
full-bears h m r.Nil e = refl
full-bears h m (r.Num n) e = refl
full-bears h m r.Done e = refl
full-bears h m r.Yes e = refl
full-bears h m r.No e = refl
full-bears h m r.Null e = refl
full-bears h m r.Range e = refl

answer-bears : (b : Bool) (h : IdealHeap) (m : ℕ) (command : Command) (x : Reply) → IsClosed h → is_full x ≡ b → x ≡ (step h m command).0 → Bears h m x (if b then h else (step h m command).1)
answer-bears true h m command x closed full is = full-bears h m x full
answer-bears false h m command x closed full is = subst (λ y. Bears h m y (step h m command).1) (sym is) (step-bears h m command closed)

entry-bears : (h : IdealHeap) (e : Entry) → IsClosed h → Answers h e → Bears h e.mutator e.reply (after_entry h e)
entry-bears h e closed (inl is) = answer-bears (is_full e.reply) h e.mutator e.command e.reply closed refl is
entry-bears h e closed (inr refused) =
    let full : is_full e.reply ≡ true = ap is_full refused.0 in
    subst (λ b. Bears h e.mutator e.reply (if b then h else (step h e.mutator e.command).1)) (sym full) (full-bears h e.mutator e.reply full)

-- the births of each object are counted
abbrev AreCounted : IdealHeap → Type 0
AreCounted h = (n : Name) → HasRecord h n → (1 ≤ n.birth) × (n.birth ≤ h.births n.mutator)

had-before : (h : IdealHeap) (n : Name) (x : Record) → HasRecord h n → (k : Name) → HasRecord (set_record h n x) k → HasRecord h k
had-before h n x here k is = elim (at_name-cases h.records n (Some x) k) as (λ _. HasRecord h k) [
  | inl set ↦ subst (λ q. HasRecord h q) (sym set.0) here
  | inr kept ↦ sym (ap is_some kept.1) ∙ is
]

new-counted : (h : IdealHeap) (m d refs nums : ℕ) → AreCounted h → AreCounted (with_new h m d refs nums)
new-counted h m d refs nums counted k is = elim (at_name-cases h.records (name m (h.births m + 1)) (Some (born refs nums)) k) as (λ _. (1 ≤ k.birth) × (k.birth ≤ at_number h.births m (h.births m + 1) k.mutator)) [
  | inl set ↦ (
      let birth : k.birth ≡ h.births m + 1 = ap (λ (q : Name). q.birth) set.0 in
      let count : at_number h.births m (h.births m + 1) k.mutator ≡ h.births m + 1 = ap (λ (q : Name). at_number h.births m (h.births m + 1) q.mutator) set.0 ∙ at_number-same h.births m (h.births m + 1) in
      (omega (arith, birth), omega (arith, birth, count)))
  | inr kept ↦ (
      let was = counted k (sym (ap is_some kept.1) ∙ is) in
      let some : 1 ≤ k.birth = was.0 in
      let most : k.birth ≤ h.births k.mutator = was.1 in
      elim (at_number-cases h.births m (h.births m + 1) k.mutator) as (λ _. (1 ≤ k.birth) × (k.birth ≤ at_number h.births m (h.births m + 1) k.mutator)) [
        | inl risen ↦ (some, let count : h.births k.mutator ≡ h.births m = ap h.births risen.0 in let now : at_number h.births m (h.births m + 1) k.mutator ≡ h.births m + 1 = risen.1 in omega (arith, now, most, count))
        | inr same ↦ (some, let now : at_number h.births m (h.births m + 1) k.mutator ≡ h.births k.mutator = same.1 in omega (arith, now, most))
      ])
]

step-counted : (h : IdealHeap) (m : ℕ) (command : Command) → IsClosed h → AreCounted h → AreCounted (step h m command).1
step-counted h m command closed counted = by_step AreCounted h m command closed (record {
  same = counted;
  created = λ d refs nums _. new-counted h m d refs nums counted;
  register = λ d v _ has. counted;
  global = λ g v _ has. counted;
  replaced = λ n x here shape has k is. counted k (had-before h n x here k is);
  pin = λ n b here. counted;
})

-- a heap of objects that are counted, with names of objects alone
record AreBorn (h : IdealHeap) : Type 0 where
  counted : AreCounted h
  closed : IsClosed h

entry-born : (h : IdealHeap) (e : Entry) → AreBorn h → AreBorn (after_entry h e)
entry-born h e all = elim (is_full e.reply) as (λ b. AreBorn (if b then h else (step h e.mutator e.command).1)) [
  | true ↦ all
  | false ↦ record { counted = step-counted h e.mutator e.command all.closed all.counted; closed = step-closed h e.mutator e.command all.closed }
]

none-born : AreBorn empty
none-born = record {
  counted = λ n is. absurd cc;
  closed = record { registers = λ m d n is. absurd cc; globals = λ g n is. absurd cc; fields = λ n to i is. absurd cc; pins = λ n is. absurd cc };
}

-- the births of a mutator after its reply
kept-births : (h k : IdealHeap) (m : ℕ) (x : Reply) → k.births ≡ h.births → is_new_reply x ≡ false → k.births m ≡ h.births m + one_if (is_new_reply x)
kept-births h k m x same none = ap (λ (f : ℕ → ℕ). f m) same ∙ sym (ap (λ b. h.births m + one_if b) none ∙ add-zero (h.births m))

own-births : (h k : IdealHeap) (m : ℕ) (x : Reply) → Bears h m x k → k.births m ≡ h.births m + one_if (is_new_reply x)
own-births h k m (r.New n) bears = ap (λ (f : ℕ → ℕ). f m) bears.1 ∙ at_number-same h.births m (h.births m + 1)
own-births h k m r.Full bears = kept-births h k m r.Full bears refl
own-births h k m (r.Ref n) bears = kept-births h k m (r.Ref n) bears.1 refl
own-births h k m r.Nil bears = kept-births h k m r.Nil bears refl
own-births h k m (r.Num n) bears = kept-births h k m (r.Num n) bears refl
own-births h k m r.Done bears = kept-births h k m r.Done bears refl
own-births h k m r.Yes bears = kept-births h k m r.Yes bears refl
own-births h k m r.No bears = kept-births h k m r.No bears refl
own-births h k m r.Null bears = kept-births h k m r.Null bears refl
own-births h k m r.Range bears = kept-births h k m r.Range bears refl

-- and of others
other-births : (h k : IdealHeap) (a m : ℕ) (x : Reply) → Bears h a x k → (a ≡ m → ⊥) → k.births m ≡ h.births m
other-births h k a m (r.New n) bears differ = ap (λ (f : ℕ → ℕ). f m) bears.1 ∙ at_number-other h.births a (h.births a + 1) m (λ same. differ (sym same))
other-births h k a m r.Full bears differ = ap (λ (f : ℕ → ℕ). f m) bears
other-births h k a m (r.Ref n) bears differ = ap (λ (f : ℕ → ℕ). f m) bears.1
other-births h k a m r.Nil bears differ = ap (λ (f : ℕ → ℕ). f m) bears
other-births h k a m (r.Num n) bears differ = ap (λ (f : ℕ → ℕ). f m) bears
other-births h k a m r.Done bears differ = ap (λ (f : ℕ → ℕ). f m) bears
other-births h k a m r.Yes bears differ = ap (λ (f : ℕ → ℕ). f m) bears
other-births h k a m r.No bears differ = ap (λ (f : ℕ → ℕ). f m) bears
other-births h k a m r.Null bears differ = ap (λ (f : ℕ → ℕ). f m) bears
other-births h k a m r.Range bears differ = ap (λ (f : ℕ → ℕ). f m) bears

abbrev picked : Bool → ℕ → Entry → List Entry → List Reply
picked b m e es = map (λ (x : Entry). x.reply) (cond b (e ∷ of_mutator m es) (of_mutator m es))

-- how many births a run adds
counted-by : (b : Bool) (m : ℕ) (h : IdealHeap) (e : Entry) (es : List Entry) → nat_eq e.mutator m ≡ b → AreBorn h → Answers h e
    → (heap_after_run (after_entry h e) es).births m ≡ (after_entry h e).births m + news (replies_of m es) → (heap_after_run (after_entry h e) es).births m ≡ h.births m + news (picked b m e es)
counted-by true m h e es is all answers rest =
    let same : e.mutator ≡ m = eqb-true e.mutator m is in
    let one : (after_entry h e).births m ≡ h.births m + one_if (is_new_reply e.reply) = own-births h (after_entry h e) m e.reply (subst (λ a. Bears h a e.reply (after_entry h e)) same (entry-bears h e all.closed answers)) in
    let i : ℕ = one_if (is_new_reply e.reply) in
    let j : ℕ = news (replies_of m es) in
    rest ∙ ap (λ k. k + j) one ∙ (let sum : h.births m + i + j ≡ h.births m + (i + j) = omega arith in sum)
counted-by false m h e es is all answers rest =
    let kept : (after_entry h e).births m ≡ h.births m = other-births h (after_entry h e) e.mutator m e.reply (entry-bears h e all.closed answers) (eqb-false e.mutator m is) in
    rest ∙ ap (λ i. i + news (replies_of m es)) kept

run-counted : (m : ℕ) (h : IdealHeap) (es : List Entry) → AreBorn h → IsRun h es → (heap_after_run h es).births m ≡ h.births m + news (replies_of m es)
run-counted m h [] all run = sym (add-zero (h.births m))
run-counted m h (e ∷ es) all run = counted-by (nat_eq e.mutator m) m h e es refl all run.0 (run-counted m (after_entry h e) es (entry-born h e all) run.1)

pub births-counted : (m : ℕ) (es : List Entry) → IsRun empty es → (heap_after_run empty es).births m ≡ news (replies_of m es)
births-counted m es run = run-counted m empty es none-born run ∙ zero-add (news (replies_of m es))

-- the names in the replies of a run that ends with these births
module _ (births : List ℕ) where
  abbrev EndsIn : IdealHeap → List Entry → Type 0
  EndsIn h es = (m : ℕ) → (heap_after_run h es).births m ≤ slice_index_or births m 0

  -- no births are lost
  so-far : (h : IdealHeap) (es : List Entry) → AreBorn h → IsRun h es → EndsIn h es → (m : ℕ) → h.births m ≤ slice_index_or births m 0
  so-far h es all run ends m =
      let sum : (heap_after_run h es).births m ≡ h.births m + news (replies_of m es) = run-counted m h es all run in
      let most : (heap_after_run h es).births m ≤ slice_index_or births m 0 = ends m in
      omega (arith, sum, most)

  is-known : (h : IdealHeap) (m : ℕ) (n : Name) → (1 ≤ n.birth) × (n.birth ≤ h.births n.mutator) → ((j : ℕ) → h.births j ≤ slice_index_or births j 0) → IsKnown births m (h.births m) n
  is-known h m n born most = record {
    least = born.0;
    most = elim (cases_Bool (nat_eq n.mutator m)) as (λ _. n.birth ≤ (if nat_eq n.mutator m then h.births m else slice_index_or births n.mutator 0)) [
      | inl is ↦ (
          let own : (if nat_eq n.mutator m then h.births m else slice_index_or births n.mutator 0) ≡ h.births m = ap (λ t. if t then h.births m else slice_index_or births n.mutator 0) is in
          let same : h.births n.mutator ≡ h.births m = ap h.births (eqb-true n.mutator m is) in
          let low : n.birth ≤ h.births n.mutator = born.1 in
          omega (arith, own, same, low))
      | inr differ ↦ (
          let other : (if nat_eq n.mutator m then h.births m else slice_index_or births n.mutator 0) ≡ slice_index_or births n.mutator 0 = ap (λ t. if t then h.births m else slice_index_or births n.mutator 0) differ in
          let low : n.birth ≤ h.births n.mutator = born.1 in
          let all : h.births n.mutator ≤ slice_index_or births n.mutator 0 = most n.mutator in
          omega (arith, other, low, all))
    ];
  }

  kept-names : (h k : IdealHeap) (m : ℕ) (rs : List Reply) → k.births ≡ h.births → NamesInOrder births m (k.births m) rs → NamesInOrder births m (h.births m) rs
  kept-names h k m rs same names = subst (λ (f : ℕ → ℕ). NamesInOrder births m (f m) rs) same names

  -- the names with one more reply
  one-more : (h k : IdealHeap) (m : ℕ) (x : Reply) (rs : List Reply) → AreCounted h → ((j : ℕ) → h.births j ≤ slice_index_or births j 0) → Bears h m x k
      → NamesInOrder births m (k.births m) rs → NamesInOrder births m (h.births m) (x ∷ rs)
  one-more h k m (r.New n) rs counted most bears names = (bears.0, subst (λ i. NamesInOrder births m i rs) (own-births h k m (r.New n) bears) names)
  one-more h k m (r.Ref n) rs counted most bears names = (is-known h m n (counted n bears.0) most, kept-names h k m rs bears.1 names)
  one-more h k m r.Full rs counted most bears names = kept-names h k m rs bears names
  one-more h k m r.Nil rs counted most bears names = kept-names h k m rs bears names
  one-more h k m (r.Num n) rs counted most bears names = kept-names h k m rs bears names
  one-more h k m r.Done rs counted most bears names = kept-names h k m rs bears names
  one-more h k m r.Yes rs counted most bears names = kept-names h k m rs bears names
  one-more h k m r.No rs counted most bears names = kept-names h k m rs bears names
  one-more h k m r.Null rs counted most bears names = kept-names h k m rs bears names
  one-more h k m r.Range rs counted most bears names = kept-names h k m rs bears names

  named-by : (b : Bool) (m : ℕ) (h : IdealHeap) (e : Entry) (es : List Entry) → nat_eq e.mutator m ≡ b → AreBorn h → Answers h e → ((j : ℕ) → h.births j ≤ slice_index_or births j 0)
      → NamesInOrder births m ((after_entry h e).births m) (replies_of m es) → NamesInOrder births m (h.births m) (picked b m e es)
  named-by true m h e es is all answers most rest =
      one-more h (after_entry h e) m e.reply (replies_of m es) all.counted most (subst (λ a. Bears h a e.reply (after_entry h e)) (eqb-true e.mutator m is) (entry-bears h e all.closed answers)) rest
  named-by false m h e es is all answers most rest =
      subst (λ i. NamesInOrder births m i (replies_of m es)) (other-births h (after_entry h e) e.mutator m e.reply (entry-bears h e all.closed answers) (eqb-false e.mutator m is)) rest

  run-named : (m : ℕ) (h : IdealHeap) (es : List Entry) → AreBorn h → IsRun h es → EndsIn h es → NamesInOrder births m (h.births m) (replies_of m es)
  run-named m h [] all run ends = tt
  run-named m h (e ∷ es) all run ends =
      named-by (nat_eq e.mutator m) m h e es refl all run.0 (so-far h (e ∷ es) all run ends) (run-named m (after_entry h e) es (entry-born h e all) run.1 ends)

  pub all-named : (n a : ℕ) (es : List Entry) → IsRun empty es → EndsIn empty es → AllNamesInOrder births a (dealt a n es)
  all-named zero a es run ends = tt
  all-named (suc n) a es run ends = (run-named a empty es none-born run ends, all-named n (a + 1) es run ends)

-- a mutator without a trace has no replies
none-picked : (b : Bool) (traces : List (List Command)) (m : ℕ) (e : Entry) (es : List Entry) → nat_eq e.mutator m ≡ b → (IsMutator traces m → ⊥) → IsMutator traces e.mutator → news (replies_of m es) ≡ 0 → news (picked b m e es) ≡ 0
none-picked true traces m e es is none one rest = absurd (none (subst (IsMutator traces) (eqb-true e.mutator m is) one))
none-picked false traces m e es is none one rest = rest

pub none-said : (traces : List (List Command)) (m : ℕ) (es : List Entry) → (IsMutator traces m → ⊥) → AllByRecursion (λ (e : Entry). IsMutator traces e.mutator) es → news (replies_of m es) ≡ 0
none-said traces m [] none each = refl
none-said traces m (e ∷ es) none each = none-picked (nat_eq e.mutator m) traces m e es refl none each.0 (none-said traces m es none each.1)
