-- Two registers hold one object if they hold one address.
use Rattle.std.proofs.Common.{◌≡◌, refl, sym, ◌∙◌, ap, subst, ℕ, zero, suc, ◌+◌, ◌*◌, ◌<◌, ◌≤◌, arith, List, [], ◌∷◌, Some, None, Option, length, map}
use Rattle.std.specs.Prelude.{IfNone, IfSome, slice_get, slice_index, unwrap_or}
use Rattle.std.specs.List.{AllByRecursion, range_with_len}
use Rattle.std.proofs.Math.ListN.{get_or-append}
use Rattle.std.proofs.lemmas.List.{get_or-append-add, length-map}
use Rattle.std.proofs.lemmas.List.FromFn.{length-range_with_len}
use Rattle.ideal_heap.specs.declared.name.Name.{Name}
use Rattle.ideal_heap.specs.Ideal.{IdealHeap, Record, empty, no_fields, record_of}
use Rattle.ideal_heap.specs.Runs.{Entry, heap_after_run}
use Rattle.object_model.specs.declared.shape.Shape.{Shape}
use Rattle.object_model.specs.Objects.{HeapState, IsHeld, field_of_word, name_at, num_at, nums_at, record_at, ref_at, refs_at}
use Rattle.object_model.specs.Lawful.{HasLawfulObjects}
use Rattle.object_model.specs.Graphs.{IsMutatorState, IsReachable, MutatorState, PointsTo, Represents, from_root, numbers_of, register_at, roots_of}
use Rattle.mutator_calls.specs.declared.need.Mutator.{Mutator}
use Rattle.heap_users.specs.Users.{mutator_state}
use Rattle.heap_users.specs.Beginnings.{epoch_of}
use Rattle.heap_users.proofs.UserLists.{all-each}
use Rattle.block_regions.proofs.Lists.{get-map, get-some}
use Rattle.managed_heap.specs.Worlds.{registers_of, PlainWorld, heap_of_world, mutators_of_world, places_of, register_in}
use Rattle.managed_heap.proofs.Worlds.facts
use Rattle.managed_heap.proofs.Worlds.{numbers-mapped}
use Rattle.managed_heap.proofs.Users.{number-of}
use Rattle.sessions.specs.Plans.{Rules}
use Rattle.sessions.specs.Sessions.{ideal_at}
use Rattle.managed_value.specs.declared.managed.ManagedHeap.{ManagedHeap}
use Rattle.managed_value.specs.Histories.{HasEntries, shape_of_object}
use Rattle.managed_value.proofs.Places.{since-here}
use Rattle.managed_value.proofs.Runs.{entries-represent}

-- words that represent ideal values are equal if the values are
module _ (s : HeapState) (objects : HasLawfulObjects s) where
  pub one-value : (a : ℕ) (x y : Option Name) → PointsTo s a x → PointsTo s a y → x ≡ y
  one-value a None None p q = refl
  one-value a None (Some n) p q = absurd (let some : 0 < a = q.0 in omega (arith, p, some))
  one-value a (Some n) None p q = absurd (let some : 0 < a = p.0 in omega (arith, q, some))
  one-value a (Some n) (Some k) p q = ap (λ (z : Name). Some z) (sym p.2 ∙ q.2)

  pub one-word : (a b : ℕ) (x y : Option Name) → PointsTo s a x → PointsTo s b y → x ≡ y → a ≡ b
  one-word a b None None p q same = p ∙ sym q
  one-word a b None (Some n) p q same = let wrong : None ≡ Some n = same in cc
  one-word a b (Some n) None p q same = let wrong : Some n ≡ None = same in cc
  one-word a b (Some n) (Some k) p q same = let e : n ≡ k = cc in objects.names a b p.1 q.1 (p.2 ∙ e ∙ sym q.2)

-- the registers of the mutator at place m, in the world and in the ideal heap
module _ {P : Type 0} (rules : Rules) (h : ManagedHeap P) (w : PlainWorld P) (es : List Entry) (has : HasEntries rules h es) (here : h.world ≡ Some w)
    (m : ℕ) (u : Mutator) (us : List Mutator) (states : map mutator_state us ≡ mutators_of_world w) (there : slice_get us m ≡ Some u) where
  objects : HasLawfulObjects (heap_of_world w)
  objects = (let since = since-here rules h w es has here in (facts.order (epoch_of rules has.now.heap has.now.mutators) (ideal_at has.now) since.history.log w.row since.history.at).objects)

  points : (d : ℕ) → d < 16 → PointsTo (heap_of_world w) (register_at (mutator_state u) d) ((heap_after_run empty es).registers u.number d)
  points = all-each (λ (x : MutatorState). (d : ℕ) → d < 16 → PointsTo (heap_of_world w) (register_at x d) ((heap_after_run empty es).registers x.number d)) us m u
      (subst (AllByRecursion (λ (x : MutatorState). (d : ℕ) → d < 16 → PointsTo (heap_of_world w) (register_at x d) ((heap_after_run empty es).registers x.number d))) (sym states)
      (entries-represent rules h es w has here).pointers.registers) there

  number : u.number ≡ m + 1
  number =
      let since = since-here rules h w es has here in
      number-of us (length since.setting.traces) (ap numbers_of states ∙ numbers-mapped w.row.mutators.items ∙ since.history.at.numbers ∙ since.sound.listed) m u there

  abbrev name-in : ℕ → Option Name
  name-in d = (heap_after_run empty es).registers (m + 1) d

  points-here : (d : ℕ) → d < 16 → PointsTo (heap_of_world w) (slice_index u.registers d) (name-in d)
  points-here d small = subst (λ (n : ℕ). PointsTo (heap_of_world w) (slice_index u.registers d) ((heap_after_run empty es).registers n d)) number (points d small)

  -- the registers of one address hold one object, and the other way round
  pub same-names : (s v : ℕ) → s < 16 → v < 16 → slice_index u.registers s ≡ slice_index u.registers v → name-in s ≡ name-in v
  same-names s v first second same = one-value (heap_of_world w) objects (slice_index u.registers v) (name-in s) (name-in v)
      (subst (λ (a : ℕ). PointsTo (heap_of_world w) a (name-in s)) same (points-here s first)) (points-here v second)

  pub same-addresses : (s v : ℕ) → s < 16 → v < 16 → name-in s ≡ name-in v → slice_index u.registers s ≡ slice_index u.registers v
  same-addresses s v first second same = one-word (heap_of_world w) objects (slice_index u.registers s) (slice_index u.registers v) (name-in s) (name-in v) (points-here s first) (points-here v second) same

-- an address in a register is a root
root-of : (ms : List MutatorState) → AllByRecursion IsMutatorState ms → (k : ℕ) (m : MutatorState) → slice_get ms k ≡ Some m → (d : ℕ) → d < 16
    → (j : ℕ) × (slice_index (roots_of ms) j ≡ register_at m d)
root-of [] all k m is d small = let wrong : None ≡ Some m = is in cc
root-of (x ∷ ms) all zero m is d small =
    let same : x ≡ m = (let e : Some x ≡ Some m = is in cc) in
    let many : length x.registers ≡ 16 = all.0.registers in
    (d, get_or-append x.registers (roots_of ms) 0 d (omega (arith, many, small)) ∙ ap (λ (y : MutatorState). register_at y d) same)
root-of (x ∷ ms) all (suc k) m is d small =
    let rest = root-of ms all.1 k m is d small in
    (length x.registers + rest.0, get_or-append-add x.registers (roots_of ms) rest.0 0 ∙ rest.1)

-- the shape that was read of the object in a register
module _ {P : Type 0} (rules : Rules) (h : ManagedHeap P) (w : PlainWorld P) (es : List Entry) (has : HasEntries rules h es) (here : h.world ≡ Some w)
    (m : ℕ) (place : m < places_of w) (s : ℕ) (register : s < 16) where
  abbrev heap : HeapState
  heap = heap_of_world w

  abbrev ideal : IdealHeap
  ideal = heap_after_run empty es

  represents : Represents heap (mutators_of_world w) ideal
  represents = entries-represent rules h es w has here

  user : (u : Mutator) × (slice_get w.row.mutators.items m ≡ Some u)
  user = get-some w.row.mutators.items m place

  address-is : register_in w m s ≡ slice_index user.0.registers s
  address-is = ap (λ (o : Option Mutator). slice_index (registers_of o) s) user.1

  reached : 0 < register_in w m s → IsReachable heap (roots_of (mutators_of_world w)) (register_in w m s)
  reached some =
      let root = root-of (mutators_of_world w) represents.mutators.each m (mutator_state user.0) (get-map mutator_state w.row.mutators.items m user.0 user.1) s register in
      from_root root.0 (root.1 ∙ sym address-is) some

  record-there : 0 < register_in w m s → record_of ideal (name_at heap (register_in w m s)) ≡ record_at heap (register_in w m s)
  record-there some = ap (λ (o : Option Record). unwrap_or o no_fields) (represents.there (register_in w m s) (reached some)).1

  refs-there : length (record_at heap (register_in w m s)).refs ≡ refs_at heap (register_in w m s)
  refs-there = length-map (range_with_len 0 (refs_at heap (register_in w m s))) (λ j. field_of_word heap (ref_at heap (register_in w m s) j)) ∙ length-range_with_len 0 (refs_at heap (register_in w m s))

  nums-there : length (record_at heap (register_in w m s)).nums ≡ nums_at heap (register_in w m s)
  nums-there = length-map (range_with_len 0 (nums_at heap (register_in w m s))) (λ j. num_at heap (register_in w m s) j) ∙ length-range_with_len 0 (nums_at heap (register_in w m s))

  shape-named : (o : Option Name) → PointsTo heap (register_in w m s) o → (result : Option Shape) → IfNone result (register_in w m s ≡ 0)
      → IfSome result (λ x. IsHeld heap (register_in w m s)) → IfSome result (λ x. x.refs ≡ refs_at heap (register_in w m s))
      → IfSome result (λ x. x.nums ≡ nums_at heap (register_in w m s)) → result ≡ shape_of_object ideal o
  shape-named None nil None none held refs nums = refl
  shape-named None nil (Some x) none held refs nums = absurd (
      let from : 18 + 197 * heap.blocks ≤ register_in w m s = held.address.from in
      let is : register_in w m s ≡ 0 = nil in
      omega arith)
  shape-named (Some n) at None none held refs nums = absurd (
      let some : 0 < register_in w m s = at.0 in
      let is : register_in w m s ≡ 0 = none in
      omega arith)
  shape-named (Some n) at (Some x) none held refs nums =
      let there : record_of ideal n ≡ record_at heap (register_in w m s) = ap (record_of ideal) (sym at.2) ∙ record-there at.0 in
      let r : x.refs ≡ length (record_of ideal n).refs = refs ∙ sym refs-there ∙ ap (λ (y : Record). length y.refs) (sym there) in
      let q : x.nums ≡ length (record_of ideal n).nums = nums ∙ sym nums-there ∙ ap (λ (y : Record). length y.nums) (sym there) in
      ap (λ (k : ℕ). let o : Shape = record { refs = k; nums = x.nums } in Some o) r
      ∙ ap (λ (k : ℕ). let o : Shape = record { refs = length (record_of ideal n).refs; nums = k } in Some o) q

  pub shape-read : (result : Option Shape) → IfNone result (register_in w m s ≡ 0)
      → IfSome result (λ x. IsHeld heap (register_in w m s)) → IfSome result (λ x. x.refs ≡ refs_at heap (register_in w m s))
      → IfSome result (λ x. x.nums ≡ nums_at heap (register_in w m s)) → result ≡ shape_of_object ideal (ideal.registers (m + 1) s)
  shape-read result none held refs nums =
      shape-named (ideal.registers (m + 1) s)
      (subst (λ (a : ℕ). PointsTo heap a (ideal.registers (m + 1) s)) (sym address-is) (points-here rules h w es has here m user.0 w.row.mutators.items refl user.1 s register))
      result none held refs nums
