-- Lists, by induction on their numbers.
use Rattle.std.proofs.Common.{ap, arith, ◌≡◌, ◌≢◌, ℕ, ◌+◌, refl, sym, ◌∙◌, subst, inl, inr, Option, Some, None, List, [], ◌∷◌, slice_get, unwrap_or, IsSome}
use Rattle.std.proofs.lemmas.Option.{slice_get_within}
use Rattle.ideal_heap.specs.declared.name.Name.{Name}
use Rattle.ideal_heap.specs.declared.command.Command.{Command}
use Rattle.ideal_heap.specs.declared.command.Command.TheVariants as c
use Rattle.ideal_heap.specs.declared.reply.Reply.TheVariants as r
use Rattle.ideal_heap.specs.Names.{name}
use Rattle.ideal_heap.specs.Ideal.{IdealHeap, Field, Nil, record_of, no_fields, field_of as field_to, name_of_field, step, HasRecord}
use Rattle.ideal_heap.proofs.UpdateLemmas.{number-born, at_number-same}
use Rattle.programs.specs.Contents.{number_of_object, field_in, number_of, field_in_heap}
use Rattle.programs.specs.Growth.{IsGrown}
use Rattle.programs.specs.Footprints.{changed_by, SetsField}
use Rattle.programs.specs.Lists.{next_of_list, IsListFrom, IsList, IsGlobalList, HasElement, KeepsLists, heap_after, pushes, pops}
use Rattle.programs.proofs.AccessLemmas.{with-number, register-same, read, read-same, written, field-stored, got, name-back, made-register, made-zero, made-nil}
use Rattle.programs.proofs.FailureLemmas.{get-fails}
use Rattle.programs.proofs.FootprintLemmas.{registers-stay, objects-stay, number-stays, field-stays, fresh, register-fresh}

pub determined : (h : IdealHeap) (o : Option Name) (xs ys : List ℕ) → IsListFrom h o xs → IsListFrom h o ys → xs ≡ ys
determined h o [] [] one other = refl
determined h o [] (y ∷ ys) one other = let wrong : None ≡ Some y = sym (ap (λ q. number_of_object h q 0) one) ∙ other.0 in absurd cc
determined h o (x ∷ xs) [] one other = let wrong : None ≡ Some x = sym (ap (λ q. number_of_object h q 0) other) ∙ one.0 in absurd cc
determined h o (x ∷ xs) (y ∷ ys) one other =
    let heads : Some x ≡ Some y = sym one.0 ∙ other.0 in
    let head : x ≡ y = cc in
    ap (λ z. z ∷ xs) head ∙ ap (λ zs. y ∷ zs) (determined h (next_of_list h o) xs ys one.2 other.2)

-- a list stays where the records of its elements stay
lists-same : (h k : IdealHeap) (o : Option Name) (xs : List ℕ) → ((n : Name) → HasElement h o xs n → k.records n ≡ h.records n) → IsListFrom h o xs → IsListFrom k o xs
lists-same h k o [] same list = list
lists-same h k o (x ∷ xs) same list =
    let found : (n : Name) × (o ≡ Some n) × (slice_get (record_of h n).nums 0 ≡ Some x) = with-number h o 0 x list.0 in
    let alike : k.records found.0 ≡ h.records found.0 = same found.0 (inl found.1) in
    let number : number_of_object k o 0 ≡ number_of_object h o 0 = ap (λ q. number_of_object k q 0) found.1 ∙ ap (λ q. slice_get (unwrap_or q no_fields).nums 0) alike ∙ sym (ap (λ q. number_of_object h q 0) found.1) in
    let field : field_in k o 0 ≡ field_in h o 0 = ap (λ q. field_in k q 0) found.1 ∙ ap (λ q. slice_get (unwrap_or q no_fields).refs 0) alike ∙ sym (ap (λ q. field_in h q 0) found.1) in
    let next : next_of_list k o ≡ next_of_list h o = ap (λ f. name_of_field (unwrap_or f Nil)) field in (
      number ∙ list.0,
      subst (λ f. IsSome f) (sym field) list.1,
      subst (λ q. IsListFrom k q xs) (sym next) (lists-same h k (next_of_list h o) xs (λ n element. same n (inr element)) list.2),
    )

pub elsewhere : (h : IdealHeap) (m : ℕ) (command : Command) (o : Option Name) (xs : List ℕ) → ((n : Name) → HasElement h o xs n → changed_by h m command ≡ Some n → ⊥)
    → IsListFrom h o xs → IsListFrom (step h m command).1 o xs
elsewhere h m command o xs not list = lists-same h (step h m command).1 o xs (λ n element. objects-stay h m command n (not n element)) list

pub unchanged : (h : IdealHeap) (m : ℕ) (command : Command) → changed_by h m command ≡ None → KeepsLists h (step h m command).1
unchanged h m command none o xs list = elsewhere h m command o xs (λ n element is. let wrong : None ≡ Some n = sym none ∙ is in absurd cc) list

-- the elements of a list are objects
element-born : (h : IdealHeap) (o : Option Name) (xs : List ℕ) (n : Name) → IsListFrom h o xs → HasElement h o xs n → HasRecord h n
element-born h o [] n list element = absurd element
element-born h o (x ∷ xs) n list (inl is) = number-born h n 0 (slice_get_within (record_of h n).nums 0 x (sym (ap (λ q. number_of_object h q 0) is) ∙ list.0))
element-born h o (x ∷ xs) n list (inr element) = element-born h (next_of_list h o) xs n list.2 element

element-old : (h : IdealHeap) (m : ℕ) (o : Option Name) (xs : List ℕ) (n : Name) → IsGrown h → IsListFrom h o xs → HasElement h o xs n → Some (name m (h.births m + 1)) ≡ Some n → ⊥
element-old h m o xs n grown list element is =
    let same : n ≡ name m (h.births m + 1) = cc in
    fresh h m grown (subst (λ q. HasRecord h q) same (element-born h o xs n list element))

pub new-keeps : (h : IdealHeap) (m d refs nums : ℕ) → IsGrown h → KeepsLists h (step h m (c.New d refs nums)).1
new-keeps h m d refs nums grown o xs list = elsewhere h m (c.New d refs nums) o xs (λ n element is. element-old h m o xs n grown list element is) list

pub held : (h : IdealHeap) (m : ℕ) (command : Command) (k s : ℕ) (xs : List ℕ) → (SetsField m command k s → ⊥) → KeepsLists h (step h m command).1 → IsList h k s xs
    → IsList (step h m command).1 k s xs
held h m command k s xs unset keeps list = subst (λ q. IsListFrom (step h m command).1 q xs) (sym (registers-stay h m command k s unset)) (keeps (h.registers k s) xs list)

-- push

abbrev made : IdealHeap → ℕ → ℕ → IdealHeap
made h m d = (step h m (c.New d 1 1)).1

abbrev linked : IdealHeap → ℕ → ℕ → ℕ → IdealHeap
linked h m d s = (step (made h m d) m (c.Put d 0 s)).1

abbrev filled : IdealHeap → ℕ → ℕ → ℕ → ℕ → IdealHeap
filled h m d s x = (step (linked h m d s) m (c.Write d 0 x)).1

abbrev pushed : IdealHeap → ℕ → ℕ → ℕ → ℕ → IdealHeap
pushed h m d s x = (step (filled h m d s x) m (c.Move s d)).1

-- a command that sets no register
unset : (k m s : ℕ) → (k ≡ m) × (None ≡ Some s) → ⊥
unset k m s sets = let wrong : None ≡ Some s = sets.1 in cc

sets-other : (k m d s : ℕ) → (k ≡ m → s ≡ d → ⊥) → (k ≡ m) × (Some d ≡ Some s) → ⊥
sets-other k m d s other sets = other sets.0 (let same : Some d ≡ Some s = sets.1 in cc)

filled-register : (h : IdealHeap) (m d s : ℕ) → (linked h m d s).registers m d ≡ Some (name m (h.births m + 1))
filled-register h m d s = registers-stay (made h m d) m (c.Put d 0 s) m d (unset m m d) ∙ made-register h m d 1 1

-- push changes no object but the new one
pushed-objects : (h : IdealHeap) (m d s x : ℕ) (n : Name) → (Some (name m (h.births m + 1)) ≡ Some n → ⊥) → (pushed h m d s x).records n ≡ h.records n
pushed-objects h m d s x n other =
    objects-stay (filled h m d s x) m (c.Move s d) n (λ is. let wrong : None ≡ Some n = is in cc)
    ∙ objects-stay (linked h m d s) m (c.Write d 0 x) n (λ is. other (sym (filled-register h m d s) ∙ is))
    ∙ objects-stay (made h m d) m (c.Put d 0 s) n (λ is. other (sym (made-register h m d 1 1) ∙ is))
    ∙ objects-stay h m (c.New d 1 1) n other

old-numbers : (h : IdealHeap) (m d s x j : ℕ) (o : Option Name) → (o ≡ Some (name m (h.births m + 1)) → ⊥) → number_of_object (pushed h m d s x) o j ≡ number_of_object h o j
old-numbers h m d s x j None old = refl
old-numbers h m d s x j (Some n) old = ap (λ q. slice_get (unwrap_or q no_fields).nums j) (pushed-objects h m d s x n (λ is. old (sym is)))

pub push-keeps : (h : IdealHeap) (m d s x : ℕ) → IsGrown h → KeepsLists h (heap_after h m (pushes d s x))
push-keeps h m d s x grown o xs list = lists-same h (pushed h m d s x) o xs (λ n element. pushed-objects h m d s x n (λ is. element-old h m o xs n grown list element is)) list

pub push-leaves : (h : IdealHeap) (m d s x k t : ℕ) → (k ≡ m → t ≡ d → ⊥) → (k ≡ m → t ≡ s → ⊥) → (heap_after h m (pushes d s x)).registers k t ≡ h.registers k t
push-leaves h m d s x k t not-new not-list =
    registers-stay (filled h m d s x) m (c.Move s d) k t (sets-other k m s t not-list)
    ∙ registers-stay (linked h m d s) m (c.Write d 0 x) k t (unset k m t)
    ∙ registers-stay (made h m d) m (c.Put d 0 s) k t (unset k m t)
    ∙ registers-stay h m (c.New d 1 1) k t (sets-other k m d t not-new)

-- what another register holds keeps its numbers
pub push-numbers : (h : IdealHeap) (m d s x k t j : ℕ) → IsGrown h → (k ≡ m → t ≡ d → ⊥) → (k ≡ m → t ≡ s → ⊥)
    → number_of (heap_after h m (pushes d s x)) k t j ≡ number_of h k t j
push-numbers h m d s x k t j grown not-new not-list =
    ap (λ o. number_of_object (pushed h m d s x) o j) (push-leaves h m d s x k t not-new not-list)
    ∙ old-numbers h m d s x j (h.registers k t) (λ is. register-fresh h m k t grown is)

copied : (h : IdealHeap) (m d s : ℕ) → (step h m (c.Move d s)).1.registers m d ≡ h.registers m s
unfolding step
copied h m d s = register-same h m d (h.registers m s)

-- the new element in register d: its number, and what it leads to

new-number : (h : IdealHeap) (m d s x : ℕ) → s ≢ d → number_of (pushed h m d s x) m d 0 ≡ Some x
new-number h m d s x other =
    let zero : number_of (linked h m d s) m d 0 ≡ Some 0 =
    number-stays (made h m d) m (c.Put d 0 s) m d 0 (unset m m d) (λ changes hit. hit) ∙ made-zero h m d 1 1 0 (omega arith) in
    number-stays (filled h m d s x) m (c.Move s d) m d 0 (sets-other m m s d (λ _ is. other (sym is))) (λ changes hit. hit)
    ∙ written (linked h m d s) m d 0 0 x zero

new-field : (h : IdealHeap) (m d s x : ℕ) → s ≢ d → field_in_heap (pushed h m d s x) m d 0 ≡ Some (field_to (h.registers m s))
new-field h m d s x other =
    field-stays (filled h m d s x) m (c.Move s d) m d 0 (sets-other m m s d (λ _ is. other (sym is))) (λ changes hit. hit)
    ∙ field-stays (linked h m d s) m (c.Write d 0 x) m d 0 (unset m m d) (λ changes hit. hit)
    ∙ field-stored (made h m d) m d 0 s Nil (made-nil h m d 1 1 0 (omega arith))
    ∙ ap (λ o. Some (field_to o)) (registers-stay h m (c.New d 1 1) m s (sets-other m m d s (λ _ is. other is)))

pub push : (h : IdealHeap) (m d s x : ℕ) (xs : List ℕ) → IsGrown h → s ≢ d → IsList h m s xs → IsList (heap_after h m (pushes d s x)) m s (x ∷ xs)
push h m d s x xs grown other list =
    let k : IdealHeap = pushed h m d s x in
    let field : field_in_heap k m d 0 ≡ Some (field_to (h.registers m s)) = new-field h m d s x other in
    let next : next_of_list k (k.registers m d) ≡ h.registers m s = ap (λ f. name_of_field (unwrap_or f Nil)) field ∙ name-back (h.registers m s) in
    let element : IsListFrom k (k.registers m d) (x ∷ xs) = (
      new-number h m d s x other,
      subst (λ f. IsSome f) (sym field) refl,
      subst (λ q. IsListFrom k q xs) (sym next) (push-keeps h m d s x grown (h.registers m s) xs list),
    ) in
    let here : k.registers m s ≡ k.registers m d = copied (filled h m d s x) m s d
    ∙ sym (registers-stay (filled h m d s x) m (c.Move s d) m d (sets-other m m s d (λ _ is. other (sym is)))) in
    subst (λ q. IsListFrom k q (x ∷ xs)) (sym here) element

-- pop

pub pop-keeps : (h : IdealHeap) (m s : ℕ) → KeepsLists h (heap_after h m (pops s))
pop-keeps h m s o xs list = unchanged (step h m (c.Read s 0)).1 m (c.Get s s 0) refl o xs (unchanged h m (c.Read s 0) refl o xs list)

pub pop-leaves : (h : IdealHeap) (m s k t : ℕ) → (k ≡ m → t ≡ s → ⊥) → (heap_after h m (pops s)).registers k t ≡ h.registers k t
pop-leaves h m s k t other = registers-stay (step h m (c.Read s 0)).1 m (c.Get s s 0) k t (sets-other k m s t other)
    ∙ registers-stay h m (c.Read s 0) k t (unset k m t)

pub pop-numbers : (h : IdealHeap) (m s k t j : ℕ) → (k ≡ m → t ≡ s → ⊥) → number_of (heap_after h m (pops s)) k t j ≡ number_of h k t j
pop-numbers h m s k t j other =
    number-stays (step h m (c.Read s 0)).1 m (c.Get s s 0) k t j (sets-other k m s t other) (λ changes hit. hit)
    ∙ number-stays h m (c.Read s 0) k t j (unset k m t) (λ changes hit. hit)

some-field : (o : Option Field) → IsSome o → (f : Field) × (o ≡ Some f)
some-field None none = absurd cc
some-field (Some f) is = (f, refl)

taken-off : (h : IdealHeap) (m s x : ℕ) (xs : List ℕ) → IsList h m s (x ∷ xs) → IsList (step h m (c.Get s s 0)).1 m s xs
taken-off h m s x xs list =
    let k : IdealHeap = (step h m (c.Get s s 0)).1 in
    let field : (f : Field) × (field_in_heap h m s 0 ≡ Some f) = some-field (field_in_heap h m s 0) list.1 in
    let next : next_of_list h (h.registers m s) ≡ k.registers m s = ap (λ f. name_of_field (unwrap_or f Nil)) field.1 ∙ sym (got h m s s 0 field.0 field.1) in
    subst (λ q. IsListFrom k q xs) next (unchanged h m (c.Get s s 0) refl (next_of_list h (h.registers m s)) xs list.2)

pub pop : (h : IdealHeap) (m s x : ℕ) (xs : List ℕ) → IsList h m s (x ∷ xs) → (step h m (c.Read s 0)).0 ≡ r.Num x
pop h m s x xs list = ap (λ o. o.0) (read h m s 0 x list.0)

pub popped : (h : IdealHeap) (m s x : ℕ) (xs : List ℕ) → IsList h m s (x ∷ xs) → IsList (heap_after h m (pops s)) m s xs
popped h m s x xs list = subst (λ k. IsList (step k m (c.Get s s 0)).1 m s xs) (sym (read-same h m s 0)) (taken-off h m s x xs list)

-- an empty list stays empty, and nothing changes
pub pop-empty : (h : IdealHeap) (m s : ℕ) → IsList h m s [] → heap_after h m (pops s) ≡ h
pop-empty h m s list =
    ap (λ k. (step k m (c.Get s s 0)).1) (read-same h m s 0)
    ∙ ap (λ o. o.1) (get-fails h m s s 0 (ap (λ q. field_in h q 0) list))

-- passing on

shared : (h : IdealHeap) (m g s : ℕ) → (step h m (c.Share g s)).1.globals g ≡ h.registers m s
unfolding step
shared h m g s = at_number-same h.globals g (h.registers m s)

loaded : (h : IdealHeap) (m d g : ℕ) → (step h m (c.Load d g)).1.registers m d ≡ h.globals g
unfolding step
loaded h m d g = register-same h m d (h.globals g)

pub share : (h : IdealHeap) (m g s : ℕ) (xs : List ℕ) → IsList h m s xs → IsGlobalList (step h m (c.Share g s)).1 g xs
share h m g s xs list = subst (λ q. IsListFrom (step h m (c.Share g s)).1 q xs) (sym (shared h m g s)) (unchanged h m (c.Share g s) refl (h.registers m s) xs list)

pub load : (h : IdealHeap) (m d g : ℕ) (xs : List ℕ) → IsGlobalList h g xs → IsList (step h m (c.Load d g)).1 m d xs
load h m d g xs list = subst (λ q. IsListFrom (step h m (c.Load d g)).1 q xs) (sym (loaded h m d g)) (unchanged h m (c.Load d g) refl (h.globals g) xs list)

pub copy : (h : IdealHeap) (m d s : ℕ) (xs : List ℕ) → IsList h m s xs → IsList (step h m (c.Move d s)).1 m d xs
copy h m d s xs list = subst (λ q. IsListFrom (step h m (c.Move d s)).1 q xs) (sym (copied h m d s)) (unchanged h m (c.Move d s) refl (h.registers m s) xs list)

-- a list that does not lead to the object in register s stays when that object is linked
pub link-rest : (h : IdealHeap) (m s i v : ℕ) (o : Option Name) (zs : List ℕ) → IsListFrom h o zs → ((n : Name) → h.registers m s ≡ Some n → HasElement h o zs n → ⊥)
    → IsListFrom (step h m (c.Put s i v)).1 o zs
link-rest h m s i v o zs is apart = elsewhere h m (c.Put s i v) o zs (λ n element changed. apart n changed element) is

pub link : (h : IdealHeap) (m s v x : ℕ) (xs ys : List ℕ) → IsList h m s (x ∷ xs) → IsList h m v ys
    → ((n : Name) → h.registers m s ≡ Some n → HasElement h (h.registers m v) ys n → ⊥) → IsList (step h m (c.Put s 0 v)).1 m s (x ∷ ys)
link h m s v x xs ys is behind apart =
    let k : IdealHeap = (step h m (c.Put s 0 v)).1 in
    let unset : SetsField m (c.Put s 0 v) m s → ⊥ = λ sets. (let wrong : None ≡ Some s = sets.1 in cc) in
    let found : (f : Field) × (field_in_heap h m s 0 ≡ Some f) = some-field (field_in_heap h m s 0) is.1 in
    let number : number_of k m s 0 ≡ Some x = number-stays h m (c.Put s 0 v) m s 0 unset (λ changes hit. hit) ∙ is.0 in
    let field : field_in_heap k m s 0 ≡ Some (field_to (h.registers m v)) = field-stored h m s 0 v found.0 found.1 in
    let next : next_of_list k (k.registers m s) ≡ h.registers m v = ap (λ o. name_of_field (unwrap_or o Nil)) field ∙ name-back (h.registers m v) in (
      number,
      subst (λ f. IsSome f) (sym field) refl,
      subst (λ (o : Option Name). IsListFrom k o ys) (sym next) (link-rest h m s 0 v (h.registers m v) ys behind apart),
    )
