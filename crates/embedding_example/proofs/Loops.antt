-- What the loops keep.
use Rattle.std.proofs.Common.{ap, arith, ◌≡◌, ℕ, ◌+◌, ◌%◌, ◌^◌, ◌≤◌, refl, sym, ◌∙◌, subst, List, [], ◌∷◌, Option, Some, length, sum}
use Rattle.std.proofs.lemmas.List.Sums.{sum_by-cons}
use mathlib.Core.List.{reverse, reverse_aux}
use Rattle.ideal_heap.specs.declared.command.Command.TheVariants as c
use Rattle.ideal_heap.specs.declared.reply.Reply.{Reply}
use Rattle.ideal_heap.specs.declared.reply.Reply.TheVariants as r
use Rattle.ideal_heap.specs.Ideal.{IdealHeap}
use Rattle.sessions.specs.Plans.{Rules}
use Rattle.programs.specs.Lists.{IsList, pops, pushes}
use Rattle.managed_value.specs.declared.managed.ManagedHeap.{ManagedHeap}
use Rattle.managed_value.specs.Histories.{StandsFor, HoldsOfIdeal, HasEntries, EntersCall}
use Rattle.managed_value.proofs.Programs as programs
use Rattle.embedding_example.specs.declared.TheConstants.{BUILDER, ADDER, LIST, NEW, REVERSED, ARRAY, ARRAY_NUMBERS, LAST_INDEX, LAST_NUMBER, GARBAGE_NUMBERS}
use Rattle.embedding_example.specs.Lists.{first_of, numbers_down_from, HoldsLists}
use Rattle.embedding_example.specs.Language.{Does, KnowsLists, HoldsList}
use Rattle.embedding_example.proofs.Numbers as numbers
use Rattle.embedding_example.proofs.Lists as lists
use Rattle.embedding_example.proofs.Steps as steps

-- The list xs is partly reversed: so many numbers were moved, of at most `count`.
pub record TurnsRound {P : Type 0} (rules : Rules) (h : ManagedHeap P) (xs : List ℕ) (moved count : ℕ) : Type 0 where
  pub front : List ℕ
  pub back : List ℕ
  pub knows : KnowsLists rules h front back
  pub turned : reverse_aux front back ≡ reverse xs
  pub few : length front + moved ≤ count

-- The total is the sum of the numbers that were taken off the list xs: so many, of at most `count`.
pub record AddsUp {P : Type 0} (rules : Rules) (h : ManagedHeap P) (k s : ℕ) (xs : List ℕ) (total taken count : ℕ) : Type 0 where
  pub rest : List ℕ
  pub holds : HoldsList rules h k s rest
  pub done : ℕ
  pub all : done + sum rest ≡ sum xs
  pub total_is : total ≡ done % 2 ^ 64
  pub few : length rest + taken ≤ count

none-left : (xs : List ℕ) (n count : ℕ) → length xs + n ≤ count → count ≤ n → xs ≡ []
none-left [] n count few all = refl
none-left (x ∷ xs) n count few all = absurd (omega arith)

none-first : (first : Option ℕ) (xs : List ℕ) → ((x : ℕ) → first ≡ Some x → ⊥) → first ≡ first_of xs → xs ≡ []
none-first first [] none is = refl
none-first first (x ∷ xs) none is = absurd (none x is)

pub build-more : {P : Type 0} (rules : Rules) (old mid new : ManagedHeap P) (n : ℕ) → KnowsLists rules old (numbers_down_from n) []
    → Does rules old BUILDER (pushes NEW LIST (n + 1)) mid → Does rules mid BUILDER (c.New NEW 0 GARBAGE_NUMBERS ∷ []) new → KnowsLists rules new (numbers_down_from (n + 1)) []
build-more rules old mid new n knows pushes-one makes =
    let xs : List ℕ = numbers_down_from n in
    let more : List ℕ = (n + 1) ∷ xs in
    subst (λ (ys : List ℕ). KnowsLists rules new ys []) (sym (numbers.down-more n)) (record {
      ready = makes.ready;
      holds = steps.after rules mid new BUILDER (c.New NEW 0 GARBAGE_NUMBERS ∷ []) (HoldsLists more []) (HoldsLists more []) makes (λ i grown has. lists.new-garbage i more [] grown has)
          (steps.after rules old mid BUILDER (pushes NEW LIST (n + 1)) (HoldsLists xs []) (HoldsLists more []) pushes-one (λ i grown has. lists.push-list i xs [] (n + 1) grown has) knows.holds);
    })

-- the array in a new heap
pub begins : {P : Type 0} (rules : Rules) (h mid new : ManagedHeap P) → HasEntries rules h [] → Does rules h BUILDER (c.New ARRAY 0 ARRAY_NUMBERS ∷ []) mid
    → Does rules mid BUILDER (c.Write ARRAY LAST_INDEX LAST_NUMBER ∷ []) new → KnowsLists rules new [] []
begins rules h mid new entries makes writes = record {
  ready = writes.ready;
  holds = record { ideal = _; stands = writes.goes _ (makes.goes _ (programs.stands-after rules h [] entries)); fact = lists.begin };
}

-- the last number of the array is read

pub last-is : {P : Type 0} (rules : Rules) (old new : ManagedHeap P) (xs ys : List ℕ) (reply : Reply) → KnowsLists rules old xs ys
    → EntersCall rules old BUILDER (c.Read ARRAY LAST_INDEX) reply new → reply ≡ r.Num LAST_NUMBER
last-is rules old new xs ys reply knows enters =
    steps.replies rules old new BUILDER (c.Read ARRAY LAST_INDEX) reply enters refl knows.holds.ideal knows.holds.stands ∙ lists.last-read knows.holds.ideal xs ys knows.holds.fact

pub after-read : {P : Type 0} (rules : Rules) (old new : ManagedHeap P) (xs ys : List ℕ) → KnowsLists rules old xs ys → Does rules old BUILDER (c.Read ARRAY LAST_INDEX ∷ []) new → KnowsLists rules new xs ys
after-read rules old new xs ys knows reads = record {
  ready = reads.ready;
  holds = steps.after rules old new BUILDER (c.Read ARRAY LAST_INDEX ∷ []) (HoldsLists xs ys) (HoldsLists xs ys) reads (λ i grown has. lists.read-stays i xs ys has) knows.holds;
}

-- the list is handed over

pub handed : {P : Type 0} (rules : Rules) (old mid new : ManagedHeap P) (xs ys : List ℕ) → Does rules old BUILDER (c.Share 0 REVERSED ∷ []) mid
    → Does rules mid ADDER (c.Load LIST 0 ∷ []) new → KnowsLists rules old xs ys → HoldsList rules new (ADDER + 1) LIST ys
handed rules old mid new xs ys shares loads knows = record {
  ideal = _;
  stands = loads.goes _ (shares.goes knows.holds.ideal knows.holds.stands);
  fact = lists.hand-over knows.holds.ideal xs ys knows.holds.fact;
}

-- reversing

pub turn-begins : {P : Type 0} (rules : Rules) (h : ManagedHeap P) (xs : List ℕ) (count : ℕ) → length xs ≤ count → KnowsLists rules h xs [] → TurnsRound rules h xs 0 count
turn-begins rules h xs count few knows = record { front = xs; back = []; knows = knows; turned = refl; few = omega arith }

moved-one : {P : Type 0} (rules : Rules) (old mid new : ManagedHeap P) (xs front back : List ℕ) (x moved count : ℕ) → KnowsLists rules old front back
    → reverse_aux front back ≡ reverse xs → length front + moved ≤ count → Some x ≡ first_of front
    → Does rules old BUILDER (pops LIST) mid → Does rules mid BUILDER (pushes NEW REVERSED x) new → TurnsRound rules new xs (moved + 1) count
moved-one rules old mid new xs [] back x moved count knows turned few first takes puts = absurd cc
moved-one rules old mid new xs (y ∷ rest) back x moved count knows turned few first takes puts =
    let same : x ≡ y = cc in
    record {
      front = rest;
      back = x ∷ back;
      knows = record {
        ready = puts.ready;
        holds = steps.after rules mid new BUILDER (pushes NEW REVERSED x) (HoldsLists rest back) (HoldsLists rest (x ∷ back)) puts (λ i grown has. lists.push-reversed i rest back x grown has)
            (steps.after rules old mid BUILDER (pops LIST) (HoldsLists (y ∷ rest) back) (HoldsLists rest back) takes (λ i grown has. lists.pop-list i y rest back has) knows.holds);
      };
      turned = ap (λ z. reverse_aux rest (z ∷ back)) same ∙ turned;
      few = omega arith;
    }

pub turn-more : {P : Type 0} (rules : Rules) (old mid new : ManagedHeap P) (xs : List ℕ) (x moved count : ℕ) → TurnsRound rules old xs moved count
    → ((i : IdealHeap) (zs : List ℕ) → StandsFor rules old i → IsList i (BUILDER + 1) LIST zs → Some x ≡ first_of zs)
    → Does rules old BUILDER (pops LIST) mid → Does rules mid BUILDER (pushes NEW REVERSED x) new → TurnsRound rules new xs (moved + 1) count
turn-more rules old mid new xs x moved count turns first takes puts =
    let holds : HoldsOfIdeal rules old (HoldsLists turns.front turns.back) = turns.knows.holds in
    moved-one rules old mid new xs turns.front turns.back x moved count turns.knows turns.turned turns.few (first holds.ideal turns.front holds.stands holds.fact.list) takes puts

pub turn-ends : {P : Type 0} (rules : Rules) (h : ManagedHeap P) (xs : List ℕ) (moved count : ℕ) → TurnsRound rules h xs moved count → count ≤ moved → KnowsLists rules h [] (reverse xs)
turn-ends rules h xs moved count turns all =
    let none : turns.front ≡ [] = none-left turns.front moved count turns.few all in
    let whole : turns.back ≡ reverse xs = ap (λ zs. reverse_aux zs turns.back) (sym none) ∙ turns.turned in
    subst (λ (ys : List ℕ). KnowsLists rules h [] ys) whole (subst (λ (zs : List ℕ). KnowsLists rules h zs turns.back) none turns.knows)

pub turn-stops : {P : Type 0} (rules : Rules) (old new : ManagedHeap P) (xs : List ℕ) (first : Option ℕ) (moved count : ℕ) → TurnsRound rules old xs moved count
    → ((x : ℕ) → first ≡ Some x → ⊥) → ((i : IdealHeap) (zs : List ℕ) → StandsFor rules old i → IsList i (BUILDER + 1) LIST zs → first ≡ first_of zs)
    → Does rules old BUILDER (pops LIST) new → KnowsLists rules new [] (reverse xs)
turn-stops rules old new xs first moved count turns nothing is-first takes =
    let holds : HoldsOfIdeal rules old (HoldsLists turns.front turns.back) = turns.knows.holds in
    let none : turns.front ≡ [] = none-first first turns.front nothing (is-first holds.ideal turns.front holds.stands holds.fact.list) in
    let whole : turns.back ≡ reverse xs = ap (λ zs. reverse_aux zs turns.back) (sym none) ∙ turns.turned in
    let there : KnowsLists rules old [] (reverse xs) = subst (λ (ys : List ℕ). KnowsLists rules old [] ys) whole (subst (λ (zs : List ℕ). KnowsLists rules old zs turns.back) none turns.knows) in
    record {
      ready = takes.ready;
      holds = steps.after rules old new BUILDER (pops LIST) (HoldsLists [] (reverse xs)) (HoldsLists [] (reverse xs)) takes (λ i grown has. lists.pop-none i (reverse xs) has) there.holds;
    }

-- adding up

pub sum-begins : {P : Type 0} (rules : Rules) (h : ManagedHeap P) (k s : ℕ) (xs : List ℕ) (count : ℕ) → length xs ≤ count → HoldsList rules h k s xs → AddsUp rules h k s xs 0 0 count
sum-begins rules h k s xs count few holds = record { rest = xs; holds = holds; done = 0; all = omega arith; total_is = refl; few = omega arith }

taken-one : {P : Type 0} (rules : Rules) (old new : ManagedHeap P) (m s : ℕ) (xs rest : List ℕ) (x done total taken count : ℕ) → HoldsList rules old (m + 1) s rest → done + sum rest ≡ sum xs
    → total ≡ done % 2 ^ 64 → length rest + taken ≤ count → Some x ≡ first_of rest → Does rules old m (pops s) new → AddsUp rules new (m + 1) s xs ((total + x) % 2 ^ 64) (taken + 1) count
taken-one rules old new m s xs [] x done total taken count holds all is few first takes = absurd cc
taken-one rules old new m s xs (y ∷ rest) x done total taken count holds all is few first takes =
    let same : x ≡ y = cc in
    let added : sum (y ∷ rest) ≡ y + sum rest = sum_by-cons (λ (n : ℕ). n) y rest in
    record {
      rest = rest;
      holds = steps.after rules old new m (pops s) (λ i. IsList i (m + 1) s (y ∷ rest)) (λ i. IsList i (m + 1) s rest) takes (λ i grown list. lists.taken-off i (m + 1) s y rest list) holds;
      done = done + x;
      all = omega arith;
      total_is = numbers.sum-more total done x is;
      few = omega arith;
    }

pub sum-more : {P : Type 0} (rules : Rules) (old new : ManagedHeap P) (m s : ℕ) (xs : List ℕ) (x total taken count : ℕ) → AddsUp rules old (m + 1) s xs total taken count
    → ((i : IdealHeap) (zs : List ℕ) → StandsFor rules old i → IsList i (m + 1) s zs → Some x ≡ first_of zs)
    → Does rules old m (pops s) new → AddsUp rules new (m + 1) s xs ((total + x) % 2 ^ 64) (taken + 1) count
sum-more rules old new m s xs x total taken count adds first takes =
    taken-one rules old new m s xs adds.rest x adds.done total taken count adds.holds adds.all adds.total_is adds.few (first adds.holds.ideal adds.rest adds.holds.stands adds.holds.fact) takes

all-taken : (xs rest : List ℕ) (done total : ℕ) → rest ≡ [] → done + sum rest ≡ sum xs → total ≡ done % 2 ^ 64 → total ≡ sum xs % 2 ^ 64
all-taken xs rest done total none all is =
    let nothing : sum rest ≡ 0 = ap (λ zs. sum zs) none in
    let whole : done ≡ sum xs = omega arith in
    is ∙ ap (λ n. n % 2 ^ 64) whole

pub sum-ends : {P : Type 0} (rules : Rules) (h : ManagedHeap P) (k s : ℕ) (xs : List ℕ) (total taken count : ℕ) → AddsUp rules h k s xs total taken count → count ≤ taken → total ≡ sum xs % 2 ^ 64
sum-ends rules h k s xs total taken count adds all = all-taken xs adds.rest adds.done total (none-left adds.rest taken count adds.few all) adds.all adds.total_is

pub sum-stops : {P : Type 0} (rules : Rules) (h : ManagedHeap P) (k s : ℕ) (xs : List ℕ) (first : Option ℕ) (total taken count : ℕ) → AddsUp rules h k s xs total taken count
    → ((x : ℕ) → first ≡ Some x → ⊥) → ((i : IdealHeap) (zs : List ℕ) → StandsFor rules h i → IsList i k s zs → first ≡ first_of zs) → total ≡ sum xs % 2 ^ 64
sum-stops rules h k s xs first total taken count adds nothing is-first =
    all-taken xs adds.rest adds.done total (none-first first adds.rest nothing (is-first adds.holds.ideal adds.rest adds.holds.stands adds.holds.fact)) adds.all adds.total_is
