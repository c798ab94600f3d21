-- The lines of replies lead from nothing to the first line of a report, and no others do.
use Rattle.std.proofs.Common.{◌≡◌, refl, sym, ◌∙◌, ap, subst, ℕ, ◌+◌, ◌-◌, ◌<◌, ◌≤◌, arith, Bool, true, false, ◌&&◌, nat_eq, nat_lt, nat_le, List, [], ◌∷◌, ◌++◌, length, map, append_assoc, zero-add, add-zero, inl, inr, ◌||◌, Option, Some, None}
use Rattle.std.specs.Prelude.{if◌then◌else◌, codes, slice_index_or}
use Rattle.std.specs.Fmt.{decimal}
use Rattle.std.specs.Str.{bytes_eq}
use Rattle.std.specs.List.{AllByRecursion}
use Rattle.std.proofs.lemmas.Bool.{and_parts, and_from, cases_Bool, cases_lt, eq-eqb, eqb-false, eqb-true, le-leb, leb-true, lt-ltb, ltb-true, or_cases, or_left, or_right}
use Rattle.std.proofs.lemmas.List.{get_or_append_left, get_or_past, length-append, length-map}
use Rattle.std.proofs.Math.Seq.{get_or-append_seam}
use Rattle.std.proofs.lemmas.Slice.Eq.{bytes_eq-Decides}
use Rattle.ideal_heap.specs.declared.name.Name.{Name}
use Rattle.ideal_heap.specs.Names.{name}
use Rattle.ideal_heap.specs.Runs.{is_full}
use Rattle.ideal_heap.specs.declared.reply.Reply.{Reply}
use Rattle.ideal_heap.specs.declared.reply.Reply.TheVariants as r
use Rattle.made_trace.specs.Counts.{is_new_reply}
use Rattle.trace_text.specs.Text.{IsPrintable, reply_text}
use Rattle.command_line.specs.declared.order.PlanName.{PlanName}
use Rattle.command_line.specs.declared.order.PlanName.TheVariants as plans
use Rattle.heap_picture.specs.declared.reader.Stage.TheVariants as stages
use Rattle.heap_picture.specs.declared.forms.Pair.{Pair}
use Rattle.heap_picture.specs.Forms.{LARGE, name_in, one_number, ref_in, reply_in}
use Rattle.heap_picture.specs.Reading.{Begun, after_line, are_met, births_of, born_with, early_line, may_be_born, may_be_known, no_report, no_wants, plan_in_line, wanted_with, with_reply}
use Rattle.heap_picture.specs.Texts.{AllNamesInOrder, NamesInOrder, plan_line}
use Rattle.heap_picture.proofs.Choices.{chosen}
use Rattle.heap_picture.proofs.Lines.{Leads}
use Rattle.heap_picture.proofs.Numbers.{one_again}
use Rattle.heap_picture.proofs.NumbersRead.{one_read}
use Rattle.heap_picture.proofs.RepliesRead.{name_again, name_of, other_again, other_of, reply_again, reply_read}
use Rattle.heap_picture.proofs.Wanted.{Meets, all-met, as-long, met-all, met-with, name-met}

-- so many mutators, replies and refusals are read, with so many replies and births of the last one
abbrev pub early : ℕ → ℕ → ℕ → ℕ → ℕ → List ℕ → List ℕ → Begun
early k c f q b bs ws = record {
  stage = stages.Replies;
  report = record no_report { mutators = k; commands = c; full = f };
  replied = q;
  born = b;
  births = bs;
  wanted = ws;
  places = [];
  left = 0;
  large = 0;
  small = 0;
}

-- and then the report's first line
abbrev pub planned : PlanName → ℕ → ℕ → ℕ → List ℕ → Begun
planned plan k c f bs = record {
  stage = stages.Blocks;
  report = record no_report { plan = plan; mutators = k; commands = c; full = f };
  replied = 0;
  born = 0;
  births = bs;
  wanted = no_wants;
  places = [];
  left = 0;
  large = 0;
  small = 0;
}

-- the lines of the replies of mutators m, m + 1, and so on
abbrev pub first_line : ℕ → List ℕ
first_line m = codes "mutator " ++ decimal m

abbrev pub reply_lines : ℕ → List (List Reply) → List (List ℕ)
reply_lines m [] = []
reply_lines m (rs ∷ more) = first_line m ∷ (map reply_text rs ++ reply_lines (m + 1) more)

abbrev pub one_if : Bool → ℕ
one_if b = if b then 1 else 0

-- how many replies say that the heap is full
abbrev pub refusals : List Reply → ℕ
refusals [] = 0
refusals (x ∷ xs) = one_if (is_full x) + refusals xs

one_at_most : (b : Bool) → one_if b ≤ 1
one_at_most true = omega arith
one_at_most false = omega arith

-- how many replies name a new object
abbrev pub news : List Reply → ℕ
news [] = 0
news (x ∷ xs) = one_if (is_new_reply x) + news xs

refusals_most : (rs : List Reply) → refusals rs ≤ length rs
refusals_most [] = omega arith
refusals_most (x ∷ rs) = let here = one_at_most (is_full x) in let later = refusals_most rs in omega (arith, here, later)

-- the sums over lists of replies
abbrev pub all_replies : List (List Reply) → ℕ
all_replies [] = 0
all_replies (rs ∷ more) = length rs + all_replies more

abbrev pub all_refusals : List (List Reply) → ℕ
all_refusals [] = 0
all_refusals (rs ∷ more) = refusals rs + all_refusals more

-- no more replies than a trace has commands
abbrev pub IsShort : List Reply → Type 0
IsShort rs = length rs ≤ 1000000

-- the lines are the other replies of mutator k, those of the mutators after it, and a report's
pub record Replied (lines : List (List ℕ)) (k c f q b : ℕ) (bs ws : List ℕ) (end : Begun) : Type 0 where
  pub first : List Reply
  pub others : List (List Reply)
  pub births : List ℕ
  pub plan : PlanName
  pub rest : List (List ℕ)
  pub lines_are : lines ≡ map reply_text first ++ (reply_lines (k + 1) others ++ (plan_line plan ∷ rest))
  pub printable : AllByRecursion IsPrintable first
  pub also : AllByRecursion (AllByRecursion IsPrintable) others
  pub short : q ≤ 1000000 → q + length first ≤ 1000000
  pub also_short : AllByRecursion IsShort others
  pub named : NamesInOrder births k b first
  pub also_named : AllNamesInOrder births (k + 1) others
  pub meets : Meets ws births
  pub alone : k ≡ 0 → first ≡ []
  pub mutators : ℕ
  pub commands : ℕ
  pub full : ℕ
  pub births_are : births ≡ bs ++ (b + news first) ∷ map news others
  pub mutators_are : mutators ≡ k + length others
  pub commands_are : commands ≡ c + length first + all_replies others
  pub full_are : full ≡ f + refusals first + all_refusals others
  pub some : 0 < mutators
  pub few : k ≤ 16 → mutators ≤ 16
  pub leads : Leads rest (planned plan mutators commands full births) end

added : (b : Bool) (f : ℕ) → (if b then f + 1 else f) ≡ f + one_if b
added true f = refl
added false f = omega arith

-- a reply that may come next, and the births after it
record Named (k b : ℕ) (ws : List ℕ) (x : Reply) : Type 0 where
  next : born_with b (name_of x) ≡ b + one_if (is_new_reply x)
  meets : (births : List ℕ) → Meets (wanted_with ws (other_of x)) births → Meets ws births
  goes : (births : List ℕ) (rs : List Reply) → Meets (wanted_with ws (other_of x)) births → NamesInOrder births k (b + one_if (is_new_reply x)) rs → NamesInOrder births k b (x ∷ rs)

unnamed : (k b : ℕ) (ws : List ℕ) (x : Reply) → born_with b (name_of x) ≡ b → is_new_reply x ≡ false → wanted_with ws (other_of x) ≡ ws
    → ((births : List ℕ) (rs : List Reply) → NamesInOrder births k b rs → NamesInOrder births k b (x ∷ rs)) → Named k b ws x
unnamed k b ws x next none same goes =
    let same-count : b + one_if (is_new_reply x) ≡ b = ap (λ t. b + one_if t) none ∙ add-zero b in
    record {
      next = next ∙ sym same-count;
      meets = λ births meets. subst (λ vs. Meets vs births) same meets;
      goes = λ births rs _ h. goes births rs (subst (λ i. NamesInOrder births k i rs) same-count h);
    }

-- an object that a `ref` reply names
known : (k b : ℕ) (bs births : List ℕ) (n : Name) → (nat_lt k n.mutator || nat_le n.birth (if nat_eq n.mutator k then b else slice_index_or bs n.mutator 0)) ≡ true
    → n.birth ≤ slice_index_or births n.mutator 0 → n.birth ≤ (if nat_eq n.mutator k then b else slice_index_or births n.mutator 0)
known k b bs births n e most = elim (cases_Bool (nat_eq n.mutator k)) as (λ _. n.birth ≤ (if nat_eq n.mutator k then b else slice_index_or births n.mutator 0)) [
  | inr differ ↦ (let all : (if nat_eq n.mutator k then b else slice_index_or births n.mutator 0) ≡ slice_index_or births n.mutator 0 = ap (λ t. if t then b else slice_index_or births n.mutator 0) differ in omega (arith, all, most))
  | inl is ↦ (
      let own : (if nat_eq n.mutator k then b else slice_index_or births n.mutator 0) ≡ b = ap (λ t. if t then b else slice_index_or births n.mutator 0) is in
      let seen : (if nat_eq n.mutator k then b else slice_index_or bs n.mutator 0) ≡ b = ap (λ t. if t then b else slice_index_or bs n.mutator 0) is in
      let same : n.mutator ≡ k = eqb-true n.mutator k is in
      elim (or_cases (nat_lt k n.mutator) _ e) as (λ _. n.birth ≤ (if nat_eq n.mutator k then b else slice_index_or births n.mutator 0)) [
        | inl later ↦ absurd (let less : k < n.mutator = ltb-true k n.mutator later in omega (arith, less, same))
        | inr low ↦ (let few : n.birth ≤ (if nat_eq n.mutator k then b else slice_index_or bs n.mutator 0) = leb-true n.birth _ low in omega (arith, own, seen, few))
      ])
]

named : (x : Reply) (k c f q b : ℕ) (bs ws : List ℕ) → length ws ≡ 17 → may_be_born (early k c f q b bs ws) (name_of x) ≡ true → may_be_known (early k c f q b bs ws) (other_of x) ≡ true → Named k b ws x
named (r.New n) k c f q b bs ws long e _ =
    let both = and_parts (nat_eq n.mutator k && nat_lt 0 n.birth) (nat_eq (n.birth - 1) b) e in
    let front = and_parts (nat_eq n.mutator k) (nat_lt 0 n.birth) both.0 in
    let mutator : n.mutator ≡ k = eqb-true n.mutator k front.0 in
    let some : 0 < n.birth = ltb-true 0 n.birth front.1 in
    let before : n.birth - 1 ≡ b = eqb-true (n.birth - 1) b both.1 in
    let birth : n.birth ≡ b + 1 = omega (arith, some, before) in
    record { next = birth; meets = λ births meets. meets; goes = λ births rs _ h. (ap (λ i. name i n.birth) mutator ∙ ap (name k) birth, h) }
named (r.Ref n) k c f q b bs ws long _ e =
    let parts = and_parts (nat_lt 0 n.birth && nat_le n.mutator 16) (nat_lt k n.mutator || nat_le n.birth (births_of (early k c f q b bs ws) n.mutator)) e in
    let front = and_parts (nat_lt 0 n.birth) (nat_le n.mutator 16) parts.0 in
    let some : 0 < n.birth = ltb-true 0 n.birth front.0 in
    let few : n.mutator ≤ 16 = leb-true n.mutator 16 front.1 in
    let low : n.mutator < length ws = omega (arith, few, long) in
    let pair : Pair = record { first = n.mutator; second = n.birth } in
    record {
      next = sym (add-zero b);
      meets = λ births meets. (name-met ws births pair low meets).1;
      goes = λ births rs meets h. (
        record { least = omega (arith, some); most = known k b bs births n parts.1 (name-met ws births pair low meets).0 },
        subst (λ i. NamesInOrder births k i rs) (add-zero b) h,
      );
    }
named r.Full k c f q b bs ws long e _ = unnamed k b ws r.Full refl refl refl (λ births rs h. h)
named r.Nil k c f q b bs ws long e _ = unnamed k b ws r.Nil refl refl refl (λ births rs h. h)
named (r.Num n) k c f q b bs ws long e _ = unnamed k b ws (r.Num n) refl refl refl (λ births rs h. h)
named r.Done k c f q b bs ws long e _ = unnamed k b ws r.Done refl refl refl (λ births rs h. h)
named r.Yes k c f q b bs ws long e _ = unnamed k b ws r.Yes refl refl refl (λ births rs h. h)
named r.No k c f q b bs ws long e _ = unnamed k b ws r.No refl refl refl (λ births rs h. h)
named r.Null k c f q b bs ws long e _ = unnamed k b ws r.Null refl refl refl (λ births rs h. h)
named r.Range k c f q b bs ws long e _ = unnamed k b ws r.Range refl refl refl (λ births rs h. h)

-- the births of the mutators before the last one are known
record Agrees (k : ℕ) (bs births : List ℕ) : Type 0 where
  last : k ≤ 16
  few : length births ≤ 17
  earlier : (m : ℕ) → m < k → slice_index_or births m 0 ≡ slice_index_or bs m 0

-- the converse
record NamedAgain (k c f q b : ℕ) (bs ws births : List ℕ) (x : Reply) (rs : List Reply) : Type 0 where
  may : may_be_born (early k c f q b bs ws) (name_of x) ≡ true
  known : may_be_known (early k c f q b bs ws) (other_of x) ≡ true
  next : born_with b (name_of x) ≡ b + one_if (is_new_reply x)
  rest : NamesInOrder births k (b + one_if (is_new_reply x)) rs
  long : length (wanted_with ws (other_of x)) ≡ 17
  meets : Meets (wanted_with ws (other_of x)) births

unnamed_again : (k c f q b : ℕ) (bs ws births : List ℕ) (x : Reply) (rs : List Reply) → may_be_born (early k c f q b bs ws) (name_of x) ≡ true → may_be_known (early k c f q b bs ws) (other_of x) ≡ true
    → born_with b (name_of x) ≡ b → is_new_reply x ≡ false → wanted_with ws (other_of x) ≡ ws → length ws ≡ 17 → Meets ws births → NamesInOrder births k b rs → NamedAgain k c f q b bs ws births x rs
unnamed_again k c f q b bs ws births x rs may seen next none same long meets h =
    let same-count : b + one_if (is_new_reply x) ≡ b = ap (λ t. b + one_if t) none ∙ add-zero b in
    record {
      may = may;
      known = seen;
      next = next ∙ sym same-count;
      rest = subst (λ i. NamesInOrder births k i rs) (sym same-count) h;
      long = ap length same ∙ long;
      meets = subst (λ vs. Meets vs births) (sym same) meets;
    }

-- the birth that a `ref` reply names is counted, among the births so far or in all
counted-so-far : (k b : ℕ) (bs births : List ℕ) (n : Name) → Agrees k bs births → n.birth ≤ (if nat_eq n.mutator k then b else slice_index_or births n.mutator 0)
    → (nat_lt k n.mutator || nat_le n.birth (if nat_eq n.mutator k then b else slice_index_or bs n.mutator 0)) ≡ true
counted-so-far k b bs births n agrees most = elim (cases_lt k n.mutator) as (λ _. (nat_lt k n.mutator || nat_le n.birth (if nat_eq n.mutator k then b else slice_index_or bs n.mutator 0)) ≡ true) [
  | inl later ↦ or_left (nat_lt k n.mutator) _ (lt-ltb k n.mutator later)
  | inr not ↦ or_right (nat_lt k n.mutator) _ (le-leb n.birth _ (elim (cases_Bool (nat_eq n.mutator k)) as (λ _. n.birth ≤ (if nat_eq n.mutator k then b else slice_index_or bs n.mutator 0)) [
    | inl is ↦ (
        let own : (if nat_eq n.mutator k then b else slice_index_or births n.mutator 0) ≡ b = ap (λ t. if t then b else slice_index_or births n.mutator 0) is in
        let seen : (if nat_eq n.mutator k then b else slice_index_or bs n.mutator 0) ≡ b = ap (λ t. if t then b else slice_index_or bs n.mutator 0) is in
        omega (arith, own, seen, most))
    | inr differ ↦ (
        let all : (if nat_eq n.mutator k then b else slice_index_or births n.mutator 0) ≡ slice_index_or births n.mutator 0 = ap (λ t. if t then b else slice_index_or births n.mutator 0) differ in
        let seen : (if nat_eq n.mutator k then b else slice_index_or bs n.mutator 0) ≡ slice_index_or bs n.mutator 0 = ap (λ t. if t then b else slice_index_or bs n.mutator 0) differ in
        let other : n.mutator ≡ k → ⊥ = eqb-false n.mutator k differ in
        let same : slice_index_or births n.mutator 0 ≡ slice_index_or bs n.mutator 0 = agrees.earlier n.mutator (omega (arith, not, other)) in
        omega (arith, all, seen, same, most))
  ]))
]

counted-in-all : (k b : ℕ) (births : List ℕ) (n : Name) → b ≤ slice_index_or births k 0 → n.birth ≤ (if nat_eq n.mutator k then b else slice_index_or births n.mutator 0) → n.birth ≤ slice_index_or births n.mutator 0
counted-in-all k b births n own most = elim (cases_Bool (nat_eq n.mutator k)) as (λ _. n.birth ≤ slice_index_or births n.mutator 0) [
  | inl is ↦ (
      let here : (if nat_eq n.mutator k then b else slice_index_or births n.mutator 0) ≡ b = ap (λ t. if t then b else slice_index_or births n.mutator 0) is in
      let same : n.mutator ≡ k = eqb-true n.mutator k is in
      let at : slice_index_or births n.mutator 0 ≡ slice_index_or births k 0 = ap (λ j. slice_index_or births j 0) same in
      omega (arith, here, at, own, most))
  | inr differ ↦ (let there : (if nat_eq n.mutator k then b else slice_index_or births n.mutator 0) ≡ slice_index_or births n.mutator 0 = ap (λ t. if t then b else slice_index_or births n.mutator 0) differ in omega (arith, there, most))
]

-- a mutator with births has a number
numbered : (births : List ℕ) (m n : ℕ) → length births ≤ 17 → 1 ≤ n → n ≤ slice_index_or births m 0 → m ≤ 16
numbered births m n few some most = elim (cases_lt m (length births)) as (λ _. m ≤ 16) [
  | inl low ↦ omega (arith, low, few)
  | inr past ↦ absurd (let none : slice_index_or births m 0 ≡ 0 = get_or_past births m 0 past in omega (arith, none, some, most))
]

named_again : (x : Reply) (k c f q b : ℕ) (bs ws births : List ℕ) (rs : List Reply) → Agrees k bs births → b ≤ slice_index_or births k 0 → length ws ≡ 17 → Meets ws births → NamesInOrder births k b (x ∷ rs)
    → NamedAgain k c f q b bs ws births x rs
named_again (r.New n) k c f q b bs ws births rs agrees own long meets h =
    let mutator : n.mutator ≡ k = ap (λ m. m.mutator) h.0 in
    let birth : n.birth ≡ b + 1 = ap (λ m. m.birth) h.0 in
    record {
      may = and_from _ _ (and_from _ _ (eq-eqb n.mutator k mutator) (lt-ltb 0 n.birth (omega (arith, birth)))) (eq-eqb (n.birth - 1) b (omega (arith, birth)));
      known = refl;
      next = birth;
      rest = h.1;
      long = long;
      meets = meets;
    }
named_again (r.Ref n) k c f q b bs ws births rs agrees own long meets h =
    let pair : Pair = record { first = n.mutator; second = n.birth } in
    let some : 1 ≤ n.birth = h.0.least in
    let most : n.birth ≤ slice_index_or births n.mutator 0 = counted-in-all k b births n own h.0.most in
    let few : n.mutator ≤ 16 = numbered births n.mutator n.birth agrees.few some most in
    let low : n.mutator < length ws = omega (arith, few, long) in
    record {
      may = refl;
      known = and_from _ _ (and_from _ _ (lt-ltb 0 n.birth (omega (arith, some))) (le-leb n.mutator 16 few)) (counted-so-far k b bs births n agrees h.0.most);
      next = sym (add-zero b);
      rest = subst (λ i. NamesInOrder births k i rs) (sym (add-zero b)) h.1;
      long = as-long ws (Some pair) ∙ long;
      meets = met-with ws births pair low most meets;
    }
named_again r.Full k c f q b bs ws births rs agrees own long meets h = unnamed_again k c f q b bs ws births r.Full rs refl refl refl refl refl long meets h
named_again r.Nil k c f q b bs ws births rs agrees own long meets h = unnamed_again k c f q b bs ws births r.Nil rs refl refl refl refl refl long meets h
named_again (r.Num n) k c f q b bs ws births rs agrees own long meets h = unnamed_again k c f q b bs ws births (r.Num n) rs refl refl refl refl refl long meets h
named_again r.Done k c f q b bs ws births rs agrees own long meets h = unnamed_again k c f q b bs ws births r.Done rs refl refl refl refl refl long meets h
named_again r.Yes k c f q b bs ws births rs agrees own long meets h = unnamed_again k c f q b bs ws births r.Yes rs refl refl refl refl refl long meets h
named_again r.No k c f q b bs ws births rs agrees own long meets h = unnamed_again k c f q b bs ws births r.No rs refl refl refl refl refl long meets h
named_again r.Null k c f q b bs ws births rs agrees own long meets h = unnamed_again k c f q b bs ws births r.Null rs refl refl refl refl refl long meets h
named_again r.Range k c f q b bs ws births rs agrees own long meets h = unnamed_again k c f q b bs ws births r.Range rs refl refl refl refl refl long meets h

with_first : (line : List ℕ) (lines : List (List ℕ)) (k c f q b : ℕ) (bs ws : List ℕ) (end : Begun) (x : Reply) → IsPrintable x → line ≡ reply_text x → 0 < k → q < 1000000 → Named k b ws x
    → Replied lines k (c + 1) (if is_full x then f + 1 else f) (q + 1) (b + one_if (is_new_reply x)) bs (wanted_with ws (other_of x)) end → Replied (line ∷ lines) k c f q b bs ws end
with_first line lines k c f q b bs ws end x prints is some less born e = record {
  first = x ∷ e.first;
  others = e.others;
  plan = e.plan;
  rest = e.rest;
  lines_are = ap (λ l. l ∷ lines) is ∙ ap (λ ls. reply_text x ∷ ls) e.lines_are;
  printable = (prints, e.printable);
  also = e.also;
  short = λ low. let more : q + 1 + length e.first ≤ 1000000 = e.short (omega (arith, less)) in omega (arith, more);
  also_short = e.also_short;
  named = born.goes e.births e.first e.meets e.named;
  also_named = e.also_named;
  meets = born.meets e.births e.meets;
  alone = λ none. absurd (omega (arith, none, some));
  mutators = e.mutators;
  commands = e.commands;
  full = e.full;
  births = e.births;
  births_are = e.births_are ∙ ap (λ n. bs ++ n ∷ map news e.others) (let i : ℕ = one_if (is_new_reply x) in let j : ℕ = news e.first in let sum : b + i + j ≡ b + (i + j) = omega arith in sum);
  mutators_are = e.mutators_are;
  commands_are = e.commands_are ∙ omega arith;
  full_are = e.full_are ∙ ap (λ n. n + refusals e.first + all_refusals e.others) (added (is_full x) f) ∙ omega arith;
  some = e.some;
  few = e.few;
  leads = e.leads;
}

with_mutator : (line : List ℕ) (lines : List (List ℕ)) (k c f q b : ℕ) (bs ws : List ℕ) (end : Begun) → line ≡ first_line (k + 1) → k + 1 ≤ 16
    → Replied lines (k + 1) c f 0 0 (bs ++ b ∷ []) ws end → Replied (line ∷ lines) k c f q b bs ws end
with_mutator line lines k c f q b bs ws end is few e = record {
  first = [];
  others = e.first ∷ e.others;
  plan = e.plan;
  rest = e.rest;
  lines_are = ap (λ l. l ∷ lines) is ∙ ap (λ ls. first_line (k + 1) ∷ ls) (e.lines_are ∙ sym (append_assoc (map reply_text e.first) (reply_lines (k + 1 + 1) e.others) (plan_line e.plan ∷ e.rest)));
  printable = tt;
  also = (e.printable, e.also);
  short = λ low. omega (arith, low);
  also_short = (let few : 0 + length e.first ≤ 1000000 = e.short (omega arith) in omega (arith, few), e.also_short);
  named = tt;
  also_named = (e.named, e.also_named);
  meets = e.meets;
  alone = λ _. refl;
  mutators = e.mutators;
  commands = e.commands;
  full = e.full;
  births = e.births;
  births_are = e.births_are ∙ append_assoc bs (b ∷ []) ((0 + news e.first) ∷ map news e.others) ∙ ap (λ n. bs ++ b ∷ n ∷ map news e.others) (zero-add (news e.first)) ∙ ap (λ n. bs ++ n ∷ news e.first ∷ map news e.others) (sym (add-zero b));
  mutators_are = e.mutators_are ∙ omega arith;
  commands_are = e.commands_are ∙ omega arith;
  full_are = e.full_are ∙ omega arith;
  some = e.some;
  few = λ _. e.few few;
  leads = e.leads;
}

same : (xs ys : List ℕ) → bytes_eq xs ys ≡ true → xs ≡ ys
same xs ys e = (bytes_eq-Decides xs ys).0 e

-- a chain of tests
plan_by : (b : Bool) (line word : List ℕ) (plan : PlanName) (other : Option PlanName) (found : PlanName) → bytes_eq line word ≡ b → plan_line plan ≡ word
    → (other ≡ Some found → line ≡ plan_line found) → (if b then Some plan else other) ≡ Some found → line ≡ plan_line found
plan_by true line word plan other found is spelled later e =
    let this : Some plan ≡ Some found = e in
    let plans_same : plan ≡ found = cc in
    same line word is ∙ sym spelled ∙ ap plan_line plans_same
plan_by false line word plan other found is spelled later e = later e

pub plan_read : (line : List ℕ) (plan : PlanName) → plan_in_line line ≡ Some plan → line ≡ plan_line plan
plan_read line plan e =
    plan_by _ line _ plans.NoGc _ plan refl refl
    (plan_by _ line _ plans.MarkSweep _ plan refl refl
    (plan_by _ line _ plans.SemiSpace _ plan refl refl
    (plan_by _ line _ plans.GenCopy _ plan refl refl
    (plan_by _ line _ plans.Immix _ plan refl refl
    (plan_by _ line _ plans.StickyImmix _ plan refl refl
    (λ none. absurd (let wrong : None ≡ Some plan = none in cc))))))) e

-- what an early line is, by what it may be
early_by : (o : Option Bool) (w v : Option Pair) (n : Option ℕ) (p : Option PlanName) (line : List ℕ) (lines : List (List ℕ)) (k c f q b : ℕ) (bs ws : List ℕ) (m end : Begun)
    → length ws ≡ 17 → reply_in line ≡ o → name_in line ≡ w → ref_in line ≡ v → one_number (codes "mutator ") LARGE line ≡ n → plan_in_line line ≡ p → early_line (early k c f q b bs ws) o w v n p ≡ Some m
    → ((k c f q b : ℕ) (bs ws : List ℕ) → length ws ≡ 17 → m ≡ early k c f q b bs ws → Replied lines k c f q b bs ws end) → Leads lines m end → Replied (line ∷ lines) k c f q b bs ws end
early_by (Some full) w v n p line lines k c f q b bs ws m end long is word other number named-plan e later leads =
    let s : Begun = early k c f q b bs ws in
    let read = reply_read line full is in
    let x : Reply = read.0 in
    let name-is : w ≡ name_of x = sym word ∙ ap name_in read.2 ∙ name_again x read.1 in
    let other-is : v ≡ other_of x = sym other ∙ ap ref_in read.2 ∙ other_again x read.1 in
    let taken = chosen (nat_lt 0 k && nat_lt c LARGE && nat_lt f LARGE && nat_lt q 1000000 && may_be_born s w && may_be_known s v) (with_reply s w v full) m e in
    let every = and_parts (nat_lt 0 k && nat_lt c LARGE && nat_lt f LARGE && nat_lt q 1000000 && may_be_born s w) (may_be_known s v) taken.0 in
    let all = and_parts (nat_lt 0 k && nat_lt c LARGE && nat_lt f LARGE && nat_lt q 1000000) (may_be_born s w) every.0 in
    let short = and_parts (nat_lt 0 k && nat_lt c LARGE && nat_lt f LARGE) (nat_lt q 1000000) all.0 in
    let both = and_parts (nat_lt 0 k && nat_lt c LARGE) (nat_lt f LARGE) short.0 in
    let front = and_parts (nat_lt 0 k) (nat_lt c LARGE) both.0 in
    let born = named x k c f q b bs ws long (sym (ap (may_be_born s) name-is) ∙ all.1) (sym (ap (may_be_known s) other-is) ∙ every.1) in
    with_first line lines k c f q b bs ws end x read.1 read.2 (ltb-true 0 k front.0) (ltb-true q 1000000 short.1) born
    (later k (c + 1) (if is_full x then f + 1 else f) (q + 1) (b + one_if (is_new_reply x)) bs (wanted_with ws (other_of x)) (as-long ws (other_of x) ∙ long)
    (sym taken.1 ∙ ap (λ o. with_reply s o v full) name-is ∙ ap (λ o. with_reply s (name_of x) o full) other-is ∙ ap (with_reply s (name_of x) (other_of x)) read.3
    ∙ ap (λ i. early k (c + 1) (if is_full x then f + 1 else f) (q + 1) i bs (wanted_with ws (other_of x))) born.next))
early_by None w v (Some n) p line lines k c f q b bs ws m end long is word other number named-plan e later leads =
    let taken = chosen (nat_lt 0 n && nat_eq (n - 1) k && nat_le n 16 && nat_le (slice_index_or ws k 0) b) (early n c f 0 0 (bs ++ b ∷ []) ws) m e in
    let whole = and_parts (nat_lt 0 n && nat_eq (n - 1) k && nat_le n 16) (nat_le (slice_index_or ws k 0) b) taken.0 in
    let both = and_parts (nat_lt 0 n && nat_eq (n - 1) k) (nat_le n 16) whole.0 in
    let front = and_parts (nat_lt 0 n) (nat_eq (n - 1) k) both.0 in
    let some : 0 < n = ltb-true 0 n front.0 in
    let before : n - 1 ≡ k = eqb-true (n - 1) k front.1 in
    let few : n ≤ 16 = leb-true n 16 both.1 in
    let next : n ≡ k + 1 = omega (arith, some, before) in
    with_mutator line lines k c f q b bs ws end ((one_read (codes "mutator ") LARGE line n (omega arith) number).0 ∙ ap first_line next) (omega (arith, few, next))
    (later (k + 1) c f 0 0 (bs ++ b ∷ []) ws long (sym taken.1 ∙ ap (λ i. early i c f 0 0 (bs ++ b ∷ []) ws) next))
early_by None w v None (Some plan) line lines k c f q b bs ws m end long is word other number named-plan e later leads =
    let taken = chosen (nat_lt 0 k && are_met ws (bs ++ b ∷ [])) (planned plan k c f (bs ++ b ∷ [])) m e in
    let both = and_parts (nat_lt 0 k) (are_met ws (bs ++ b ∷ [])) taken.0 in
    record {
      first = [];
      others = [];
      plan = plan;
      rest = lines;
      lines_are = ap (λ l. l ∷ lines) (plan_read line plan named-plan);
      printable = tt;
      also = tt;
      short = λ low. omega (arith, low);
      also_short = tt;
      named = tt;
      also_named = tt;
      meets = met-all ws (bs ++ b ∷ []) long both.1;
      alone = λ _. refl;
      mutators = k;
      commands = c;
      full = f;
      births = bs ++ b ∷ [];
      births_are = ap (λ n. bs ++ n ∷ []) (sym (add-zero b));
      mutators_are = omega arith;
      commands_are = omega arith;
      full_are = omega arith;
      some = ltb-true 0 k both.0;
      few = λ h. h;
      leads = subst (λ s. Leads lines s end) (sym taken.1) leads;
    }
early_by None w v None None line lines k c f q b bs ws m end long is word other number named-plan e later leads = absurd (let wrong : None ≡ Some m = e in cc)

pub replies_lead : (lines : List (List ℕ)) (k c f q b : ℕ) (bs ws : List ℕ) (end : Begun) → length ws ≡ 17 → Leads lines (early k c f q b bs ws) end → Replied lines k c f q b bs ws end
replies_lead [] k c f q b bs ws end long leads = absurd (let wrong : false ≡ true = leads.1 in cc)
replies_lead (line ∷ lines) k c f q b bs ws end long leads =
    early_by (reply_in line) (name_in line) (ref_in line) (one_number (codes "mutator ") LARGE line) (plan_in_line line) line lines k c f q b bs ws leads.0 end long refl refl refl refl refl leads.1
    (λ i j g h d ds vs still is. replies_lead lines i j g h d ds vs end still (subst (λ s. Leads lines s end) is leads.2)) leads.2

-- the converse: such lines lead on
replies_go : (rs : List Reply) (k c f q b : ℕ) (bs ws births : List ℕ) (lines : List (List ℕ)) (end : Begun) → AllByRecursion IsPrintable rs → NamesInOrder births k b rs → 0 < k
    → f ≤ c → c + length rs ≤ LARGE → q + length rs ≤ 1000000 → Agrees k bs births → b + news rs ≤ slice_index_or births k 0 → length ws ≡ 17 → Meets ws births
    → ((vs : List ℕ) → length vs ≡ 17 → Meets vs births → Leads lines (early k (c + length rs) (f + refusals rs) (q + length rs) (b + news rs) bs vs) end) → Leads (map reply_text rs ++ lines) (early k c f q b bs ws) end
replies_go [] k c f q b bs ws births lines end prints names some less low short agrees own long meets leads =
    subst (λ s. Leads lines s end) (ap (λ i. early k i (f + 0) (q + 0) (b + 0) bs ws) (add-zero c) ∙ ap (λ i. early k c i (q + 0) (b + 0) bs ws) (add-zero f) ∙ ap (λ i. early k c f i (b + 0) bs ws) (add-zero q) ∙ ap (λ i. early k c f q i bs ws) (add-zero b)) (leads ws long meets)
replies_go (x ∷ rs) k c f q b bs ws births lines end prints names some less low short agrees own long meets leads =
    let s : Begun = early k c f q b bs ws in
    let g : ℕ = if is_full x then f + 1 else f in
    let d : ℕ = b + one_if (is_new_reply x) in
    let vs : List ℕ = wanted_with ws (other_of x) in
    let born = named_again x k c f q b bs ws births rs agrees (omega (arith, own)) long meets names in
    let more : g ≡ f + one_if (is_full x) = added (is_full x) f in
    let name-is : name_in (reply_text x) ≡ name_of x = name_again x prints.0 in
    let other-is : ref_in (reply_text x) ≡ other_of x = other_again x prints.0 in
    let tests : (nat_lt 0 k && nat_lt c LARGE && nat_lt f LARGE && nat_lt q 1000000 && may_be_born s (name_in (reply_text x)) && may_be_known s (ref_in (reply_text x))) ≡ true =
    and_from _ _ (and_from _ _ (and_from _ _ (and_from _ _ (and_from _ _ (lt-ltb 0 k some) (lt-ltb c LARGE (omega (arith, low)))) (lt-ltb f LARGE (omega (arith, less, low)))) (lt-ltb q 1000000 (omega (arith, short))))
    (ap (may_be_born s) name-is ∙ born.may)) (ap (may_be_known s) other-is ∙ born.known) in (
      early k (c + 1) g (q + 1) d bs vs,
      ap (λ o. early_line s o (name_in (reply_text x)) (ref_in (reply_text x)) (one_number (codes "mutator ") LARGE (reply_text x)) (plan_in_line (reply_text x))) (reply_again x prints.0)
          ∙ ap (λ t. if t then Some (with_reply s (name_in (reply_text x)) (ref_in (reply_text x)) (is_full x)) else None) tests
          ∙ ap (λ o. Some (with_reply s o (ref_in (reply_text x)) (is_full x))) name-is ∙ ap (λ o. Some (with_reply s (name_of x) o (is_full x))) other-is ∙ ap (λ i. Some (early k (c + 1) g (q + 1) i bs vs)) born.next,
      replies_go rs k (c + 1) g (q + 1) d bs vs births lines end prints.1 born.rest some (let one = one_at_most (is_full x) in omega (arith, more, less, one)) (omega (arith, low)) (omega (arith, short))
          agrees (omega (arith, own)) born.long born.meets
          (λ us still met. subst (λ t. Leads lines t end) (ap (λ i. early k i (f + refusals (x ∷ rs)) (q + length (x ∷ rs)) (b + news (x ∷ rs)) bs us) (omega arith)
          ∙ ap (λ i. early k (c + 1 + length rs) i (q + length (x ∷ rs)) (b + news (x ∷ rs)) bs us) (omega (arith, more)) ∙ ap (λ i. early k (c + 1 + length rs) (g + refusals rs) i (b + news (x ∷ rs)) bs us) (omega arith)
          ∙ ap (λ i. early k (c + 1 + length rs) (g + refusals rs) (q + 1 + length rs) i bs us) (omega arith)) (leads us still met)),
    )

mutator_after : (k c f q b : ℕ) (bs ws : List ℕ) → k < 16 → slice_index_or ws k 0 ≤ b → after_line (early k c f q b bs ws) (first_line (k + 1)) ≡ Some (early (k + 1) c f 0 0 (bs ++ b ∷ []) ws)
mutator_after k c f q b bs ws few met =
    let tests : (nat_lt 0 (k + 1) && nat_eq (k + 1 - 1) k && nat_le (k + 1) 16 && nat_le (slice_index_or ws k 0) b) ≡ true =
    and_from _ _ (and_from _ _ (and_from _ _ (lt-ltb 0 (k + 1) (omega arith)) (eq-eqb (k + 1 - 1) k (omega arith))) (le-leb (k + 1) 16 (omega (arith, few)))) (le-leb (slice_index_or ws k 0) b met) in
    ap (λ o. early_line (early k c f q b bs ws) None None None o (plan_in_line (first_line (k + 1)))) (one_again (codes "mutator ") LARGE (k + 1) (omega (arith, few)) (omega arith))
    ∙ ap (λ t. if t then Some (early (k + 1) c f 0 0 (bs ++ b ∷ []) ws) else None) tests

plan_after : (plan : PlanName) (k c f q b : ℕ) (bs ws : List ℕ) → (nat_lt 0 k && are_met ws (bs ++ b ∷ [])) ≡ true → after_line (early k c f q b bs ws) (plan_line plan) ≡ Some (planned plan k c f (bs ++ b ∷ []))
plan_after plans.NoGc k c f q b bs ws tests = ap (λ t. if t then Some (planned plans.NoGc k c f (bs ++ b ∷ [])) else None) tests
plan_after plans.MarkSweep k c f q b bs ws tests = ap (λ t. if t then Some (planned plans.MarkSweep k c f (bs ++ b ∷ [])) else None) tests
plan_after plans.SemiSpace k c f q b bs ws tests = ap (λ t. if t then Some (planned plans.SemiSpace k c f (bs ++ b ∷ [])) else None) tests
plan_after plans.GenCopy k c f q b bs ws tests = ap (λ t. if t then Some (planned plans.GenCopy k c f (bs ++ b ∷ [])) else None) tests
plan_after plans.Immix k c f q b bs ws tests = ap (λ t. if t then Some (planned plans.Immix k c f (bs ++ b ∷ [])) else None) tests
plan_after plans.StickyImmix k c f q b bs ws tests = ap (λ t. if t then Some (planned plans.StickyImmix k c f (bs ++ b ∷ [])) else None) tests

-- the births of the mutator whose replies end
own-births : (k b : ℕ) (bs more births : List ℕ) → length bs ≡ k → births ≡ bs ++ b ∷ more → slice_index_or births k 0 ≡ b
own-births k b bs more births long is = ap (λ xs. slice_index_or xs k 0) is ∙ ap (λ j. slice_index_or (bs ++ b ∷ more) j 0) (sym long) ∙ get_or-append_seam bs b more 0

earlier-births : (bs more births : List ℕ) (m : ℕ) → births ≡ bs ++ more → m < length bs → slice_index_or births m 0 ≡ slice_index_or bs m 0
earlier-births bs more births m is low = ap (λ xs. slice_index_or xs m 0) is ∙ get_or_append_left bs more 0 m low

pub mutators_go : (all : List (List Reply)) (plan : PlanName) (k c f q b : ℕ) (bs ws births : List ℕ) (rest : List (List ℕ)) (end : Begun) → AllByRecursion (AllByRecursion IsPrintable) all → AllByRecursion IsShort all
    → AllNamesInOrder births (k + 1) all → births ≡ bs ++ b ∷ map news all → length bs ≡ k → length ws ≡ 17 → Meets ws births → 0 < k + length all → k + length all ≤ 16 → f ≤ c → c + all_replies all ≤ LARGE
    → Leads rest (planned plan (k + length all) (c + all_replies all) (f + all_refusals all) births) end → Leads (reply_lines (k + 1) all ++ (plan_line plan ∷ rest)) (early k c f q b bs ws) end
mutators_go [] plan k c f q b bs ws births rest end prints short names is at long meets some few less low leads =
    let ds : List ℕ = bs ++ b ∷ [] in
    let met : are_met ws ds ≡ true = all-met ws ds (λ m _. subst (λ xs. slice_index_or ws m 0 ≤ slice_index_or xs m 0) is (meets m)) in (
      planned plan k c f ds,
      plan_after plan k c f q b bs ws (and_from _ _ (lt-ltb 0 k (omega (arith, some))) met),
      subst (λ s. Leads rest s end) (ap (λ i. planned plan i (c + 0) (f + 0) births) (add-zero k) ∙ ap (λ i. planned plan k i (f + 0) births) (add-zero c) ∙ ap (λ i. planned plan k c i births) (add-zero f) ∙ ap (planned plan k c f) is) leads,
    )
mutators_go (rs ∷ all) plan k c f q b bs ws births rest end prints short names is at long meets some few less low leads =
    let tail = reply_lines (k + 1 + 1) all ++ (plan_line plan ∷ rest) in
    let d : ℕ = 0 + news rs in
    let k-is : k + length (rs ∷ all) ≡ k + 1 + length all = omega arith in
    let c-is : c + all_replies (rs ∷ all) ≡ c + length rs + all_replies all = omega arith in
    let f-is : f + all_refusals (rs ∷ all) ≡ f + refusals rs + all_refusals all = omega arith in
    let next : births ≡ (bs ++ b ∷ []) ++ d ∷ map news all = is ∙ ap (λ n. bs ++ b ∷ n ∷ map news all) (sym (zero-add (news rs))) ∙ sym (append_assoc bs (b ∷ []) (d ∷ map news all)) in
    let at-next : length (bs ++ b ∷ []) ≡ k + 1 = length-append bs (b ∷ []) ∙ omega (arith, at) in
    let here : slice_index_or births k 0 ≡ b = own-births k b bs (news rs ∷ map news all) births at is in
    let there : slice_index_or births (k + 1) 0 ≡ d = own-births (k + 1) d (bs ++ b ∷ []) (map news all) births at-next next in
    let count : length births ≡ length (bs ++ b ∷ []) + length (d ∷ map news all) = ap length next ∙ length-append (bs ++ b ∷ []) (d ∷ map news all) in
    let counts : length (map news all) ≡ length all = length-map all news in
    let agrees : Agrees (k + 1) (bs ++ b ∷ []) births = record {
      last = omega (arith, few);
      few = omega (arith, count, counts, at-next, few);
      earlier = λ m below. earlier-births (bs ++ b ∷ []) (d ∷ map news all) births m next (omega (arith, below, at-next));
    } in
    let after : (vs : List ℕ) → length vs ≡ 17 → Meets vs births → Leads tail (early (k + 1) (c + length rs) (f + refusals rs) (0 + length rs) d (bs ++ b ∷ []) vs) end = λ vs still met.
    mutators_go all plan (k + 1) (c + length rs) (f + refusals rs) (0 + length rs) d (bs ++ b ∷ []) vs births rest end prints.1 short.1 names.1 next at-next still met (omega arith) (omega (arith, few)) (let most = refusals_most rs in omega (arith, less, most)) (omega (arith, low))
    (subst (λ s. Leads rest s end) (ap (λ i. planned plan i (c + all_replies (rs ∷ all)) (f + all_refusals (rs ∷ all)) births) k-is ∙ ap (λ i. planned plan (k + 1 + length all) i (f + all_refusals (rs ∷ all)) births) c-is
    ∙ ap (λ i. planned plan (k + 1 + length all) (c + length rs + all_replies all) i births) f-is) leads) in (
      early (k + 1) c f 0 0 (bs ++ b ∷ []) ws,
      mutator_after k c f q b bs ws (omega (arith, few)) (let most : slice_index_or ws k 0 ≤ slice_index_or births k 0 = meets k in omega (arith, most, here)),
      subst (λ ls. Leads ls (early (k + 1) c f 0 0 (bs ++ b ∷ []) ws) end) (sym (append_assoc (map reply_text rs) (reply_lines (k + 1 + 1) all) (plan_line plan ∷ rest)))
          (replies_go rs (k + 1) c f 0 0 (bs ++ b ∷ []) ws births tail end prints.0 names.0 (omega arith) less (omega (arith, low)) (let said : length rs ≤ 1000000 = short.0 in omega (arith, said)) agrees (omega (arith, there)) long meets after),
    )
