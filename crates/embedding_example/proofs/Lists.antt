-- What commands of the language leave of the lists and the array.
use Rattle.std.proofs.Common.{ap, arith, ◌≡◌, ℕ, ◌+◌, ◌<◌, refl, sym, ◌∙◌, subst, List, [], ◌∷◌, Some, None, eqb, false}
use Rattle.std.proofs.lemmas.Bool.{eqb-false}
use Rattle.ideal_heap.specs.declared.command.Command.TheVariants as c
use Rattle.ideal_heap.specs.declared.reply.Reply.{Reply}
use Rattle.ideal_heap.specs.declared.reply.Reply.TheVariants as r
use Rattle.ideal_heap.specs.Ideal.{IdealHeap, empty, step}
use Rattle.programs.specs.Growth.{IsGrown}
use Rattle.programs.specs.Lists.{IsListFrom, IsList, heap_after, pushes, pops}
use Rattle.programs.proofs.AccessLemmas as accesses
use Rattle.programs.proofs.FootprintLemmas as footprints
use Rattle.programs.proofs.ListLemmas as lists
use Rattle.embedding_example.specs.Lists.{first_of, HoldsLists}
use Rattle.embedding_example.specs.declared.TheConstants.{BUILDER, ADDER, LIST, NEW, REVERSED, ARRAY, LAST_INDEX, LAST_NUMBER, GARBAGE_NUMBERS, ARRAY_NUMBERS}

-- the number of the builder
abbrev builder : ℕ
builder = BUILDER + 1

abbrev IsOther : ℕ → ℕ → Type 0
IsOther t s = builder ≡ builder → t ≡ s → ⊥

other : (t s : ℕ) → eqb t s ≡ false → IsOther t s
other t s unlike _ is = eqb-false t s unlike is

-- a list in another register stays over a push and a pop

held-push : (i : IdealHeap) (d s x t : ℕ) (zs : List ℕ) → IsGrown i → IsOther t d → IsOther t s → IsList i 1 t zs → IsList (heap_after i 1 (pushes d s x)) 1 t zs
held-push i d s x t zs grown not-new not-list list =
    subst (λ o. IsListFrom (heap_after i 1 (pushes d s x)) o zs) (sym (lists.push-leaves i 1 d s x 1 t not-new not-list)) (lists.push-keeps i 1 d s x grown (i.registers 1 t) zs list)

held-pop : (i : IdealHeap) (s t : ℕ) (zs : List ℕ) → IsOther t s → IsList i 1 t zs → IsList (heap_after i 1 (pops s)) 1 t zs
held-pop i s t zs other list =
    subst (λ o. IsListFrom (heap_after i 1 (pops s)) o zs) (sym (lists.pop-leaves i 1 s 1 t other)) (lists.pop-keeps i 1 s (i.registers 1 t) zs list)

pub push-list : (i : IdealHeap) (xs ys : List ℕ) (x : ℕ) → IsGrown i → HoldsLists xs ys i → HoldsLists (x ∷ xs) ys (heap_after i 1 (pushes NEW LIST x))
push-list i xs ys x grown has = record {
  list = lists.push i 1 1 0 x xs grown (eqb-false 0 1 refl) has.list;
  reversed = held-push i 1 0 x 2 ys grown (other 2 1 refl) (other 2 0 refl) has.reversed;
  array = lists.push-numbers i 1 1 0 x 1 3 4999 grown (other 3 1 refl) (other 3 0 refl) ∙ has.array;
}

pub push-reversed : (i : IdealHeap) (xs ys : List ℕ) (y : ℕ) → IsGrown i → HoldsLists xs ys i → HoldsLists xs (y ∷ ys) (heap_after i 1 (pushes NEW REVERSED y))
push-reversed i xs ys y grown has = record {
  list = held-push i 1 2 y 0 xs grown (other 0 1 refl) (other 0 2 refl) has.list;
  reversed = lists.push i 1 1 2 y ys grown (eqb-false 2 1 refl) has.reversed;
  array = lists.push-numbers i 1 1 2 y 1 3 4999 grown (other 3 1 refl) (other 3 2 refl) ∙ has.array;
}

pub pop-list : (i : IdealHeap) (x : ℕ) (xs ys : List ℕ) → HoldsLists (x ∷ xs) ys i → HoldsLists xs ys (heap_after i 1 (pops LIST))
pop-list i x xs ys has = record {
  list = lists.popped i 1 0 x xs has.list;
  reversed = held-pop i 0 2 ys (other 2 0 refl) has.reversed;
  array = lists.pop-numbers i 1 0 1 3 4999 (other 3 0 refl) ∙ has.array;
}

pub pop-none : (i : IdealHeap) (ys : List ℕ) → HoldsLists [] ys i → HoldsLists [] ys (heap_after i 1 (pops LIST))
pop-none i ys has = subst (λ k. HoldsLists [] ys k) (sym (lists.pop-empty i 1 0 has.list)) has

-- a new object in register NEW leaves all

sets-other : (t d : ℕ) → eqb t d ≡ false → (builder ≡ builder) × (Some d ≡ Some t) → ⊥
sets-other t d unlike sets = let same : t ≡ d = (let is : Some d ≡ Some t = sets.1 in cc) in eqb-false t d unlike same

pub new-garbage : (i : IdealHeap) (xs ys : List ℕ) → IsGrown i → HoldsLists xs ys i → HoldsLists xs ys (heap_after i 1 (c.New NEW 0 GARBAGE_NUMBERS ∷ []))
new-garbage i xs ys grown has =
    record {
      list = lists.held i 1 (c.New NEW 0 GARBAGE_NUMBERS) 1 0 xs (sets-other 0 1 refl) (lists.new-keeps i 1 NEW 0 GARBAGE_NUMBERS grown) has.list;
      reversed = lists.held i 1 (c.New NEW 0 GARBAGE_NUMBERS) 1 2 ys (sets-other 2 1 refl) (lists.new-keeps i 1 NEW 0 GARBAGE_NUMBERS grown) has.reversed;
      array = footprints.new-leaves-number i 1 NEW 0 GARBAGE_NUMBERS 1 3 4999 grown (sets-other 3 1 refl) ∙ has.array;
    }

-- the array in a heap that was empty

stays-nil : (s : ℕ) → eqb s ARRAY ≡ false → (heap_after empty builder (c.New ARRAY 0 ARRAY_NUMBERS ∷ c.Write ARRAY LAST_INDEX LAST_NUMBER ∷ [])).registers builder s ≡ None
stays-nil s unlike =
    footprints.registers-stay (step empty builder (c.New ARRAY 0 ARRAY_NUMBERS)).1 builder (c.Write ARRAY LAST_INDEX LAST_NUMBER) builder s
    (λ sets. let wrong : None ≡ Some s = sets.1 in cc)
    ∙ footprints.registers-stay empty builder (c.New ARRAY 0 ARRAY_NUMBERS) builder s (sets-other s ARRAY unlike)

pub begin : HoldsLists [] [] (heap_after empty builder (c.New ARRAY 0 ARRAY_NUMBERS ∷ c.Write ARRAY LAST_INDEX LAST_NUMBER ∷ []))
begin = record {
  list = stays-nil 0 refl;
  reversed = stays-nil 2 refl;
  array =
      let within : LAST_INDEX < ARRAY_NUMBERS = omega arith in
      accesses.written (step empty builder (c.New ARRAY 0 ARRAY_NUMBERS)).1 builder ARRAY LAST_INDEX 0 LAST_NUMBER (accesses.made-zero empty builder ARRAY 0 ARRAY_NUMBERS LAST_INDEX within);
}

pub last-read : (i : IdealHeap) (xs ys : List ℕ) → HoldsLists xs ys i → (step i builder (c.Read ARRAY LAST_INDEX)).0 ≡ r.Num LAST_NUMBER
last-read i xs ys has = ap (λ o. o.0) (accesses.read i builder ARRAY LAST_INDEX LAST_NUMBER has.array)

pub read-stays : (i : IdealHeap) (xs ys : List ℕ) → HoldsLists xs ys i → HoldsLists xs ys (heap_after i builder (c.Read ARRAY LAST_INDEX ∷ []))
read-stays i xs ys has = subst (λ (k : IdealHeap). HoldsLists xs ys k) (sym (accesses.read-same i builder ARRAY LAST_INDEX)) has

-- the adder gets the reversed list
pub hand-over : (i : IdealHeap) (xs ys : List ℕ) → HoldsLists xs ys i
    → IsList (heap_after (heap_after i builder (c.Share 0 REVERSED ∷ [])) (ADDER + 1) (c.Load LIST 0 ∷ [])) (ADDER + 1) LIST ys
hand-over i xs ys has = lists.load (step i builder (c.Share 0 REVERSED)).1 (ADDER + 1) LIST 0 ys (lists.share i builder 0 REVERSED ys has.reversed)

-- what the read of a list's first number replies

pub first-some : (i : IdealHeap) (k s x : ℕ) (xs : List ℕ) (reply : Reply) → IsList i k s xs → reply ≡ (step i k (c.Read s 0)).0 → reply ≡ r.Num x → Some x ≡ first_of xs
first-some i k s x [] reply list next is = let wrong : r.Null ≡ r.Num x = sym (ap (λ o. o.0) (accesses.read-nil i k s 0 list)) ∙ sym next ∙ is in absurd cc
first-some i k s x (y ∷ ys) reply list next is = let same : r.Num x ≡ r.Num y = sym is ∙ next ∙ lists.pop i k s y ys list in cc

pub first-none : (i : IdealHeap) (k s : ℕ) (xs : List ℕ) (reply : Reply) → IsList i k s xs → reply ≡ (step i k (c.Read s 0)).0 → ((x : ℕ) → reply ≡ r.Num x → ⊥) → None ≡ first_of xs
first-none i k s [] reply list next not = refl
first-none i k s (y ∷ ys) reply list next not = absurd (not y (next ∙ lists.pop i k s y ys list))

pub taken-off : (i : IdealHeap) (k s x : ℕ) (xs : List ℕ) → IsList i k s (x ∷ xs) → IsList (heap_after i k (pops s)) k s xs
taken-off i k s x xs list = lists.popped i k s x xs list
