-- Steps preserve ideal heaps, closed heaps and records.
use Rattle.std.proofs.Common.{IsTrue, Result, Ok, Err, MatchResult, ◌≡◌, ℕ, ◌+◌, ◌≤◌, Bool, true, false, refl, ap, sym, ◌∙◌, subst, inl, inr, Option, Some, None, List, [], ◌∷◌, is_some, IsSome, Contains, IsSomeAnd, unwrap_or, if◌then◌else◌, arith}
use Rattle.std.specs.List.{AllByRecursion}
use Rattle.ideal_heap.specs.declared.name.Name.{Name}
use Rattle.ideal_heap.specs.declared.command.Command.{Command}
use Rattle.ideal_heap.specs.declared.reply.Reply.{Reply}
use Rattle.ideal_heap.specs.Names.{name, same_name}
use Rattle.ideal_heap.specs.Commands.{IsValid}
use Rattle.ideal_heap.specs.Ideal.{Outcome, IdealHeap, Record, Nil, At, empty, at_number, set_register, set_global, set_record, set_pinned, record_of, no_fields, field_at, born, with_new, step, HasRecord, IsClosed, IsIdeal, HasShapeOf}
use Rattle.ideal_heap.specs.Reach.{PathReaches, from_register, from_global, from_field}
use Rattle.ideal_heap.specs.Runs.{Entry, heap_after_run, after_entry, is_full}
use Rattle.ideal_heap.proofs.UpdateLemmas.{at_number-cases, at_number-same, at_name-cases, at_name-same, register-cases, at-nils}
use Rattle.ideal_heap.proofs.StepLemmas.{by_step}

-- no update of a record removes a record
pub born-kept : (h : IdealHeap) (n : Name) (x : Record) (k : Name) → HasRecord h k → HasRecord (set_record h n x) k
born-kept h n x k is = elim (same_name k n) as (λ b. IsSome (if b then Some x else h.records k)) [ true ↦ refl | false ↦ is ]

pub born-here : (h : IdealHeap) (n : Name) (x : Record) → HasRecord (set_record h n x) n
born-here h n x = rw (at_name-same h.records n (Some x)) refl

closed-register : (h : IdealHeap) → IsClosed h → (m d : ℕ) (v : Option Name) → ((n : Name) → v ≡ Some n → HasRecord h n) → IsClosed (set_register h m d v)
closed-register h closed m d v new = record {
  registers = λ m' d' n is. elim (register-cases h m d v m' d') [
    | inl set ↦ new n (sym set.2 ∙ is)
    | inr kept ↦ closed.registers m' d' n (sym kept ∙ is)
  ];
  globals = closed.globals;
  fields = closed.fields;
  pins = closed.pins;
}

closed-global : (h : IdealHeap) → IsClosed h → (g : ℕ) (v : Option Name) → ((n : Name) → v ≡ Some n → HasRecord h n) → IsClosed (set_global h g v)
closed-global h closed g v new = record {
  registers = closed.registers;
  globals = λ g' n is. elim (at_number-cases h.globals g v g') [
    | inl set ↦ new n (sym set.1 ∙ is)
    | inr kept ↦ closed.globals g' n (sym kept.1 ∙ is)
  ];
  fields = closed.fields;
  pins = closed.pins;
}

closed-record : (h : IdealHeap) → IsClosed h → (n : Name) (x : Record) → ((i : ℕ) (to : Name) → field_at x i ≡ At to → HasRecord (set_record h n x) to) → IsClosed (set_record h n x)
closed-record h closed n x new = record {
  registers = λ m d k is. born-kept h n x k (closed.registers m d k is);
  globals = λ g k is. born-kept h n x k (closed.globals g k is);
  fields = λ k to i is. elim (at_name-cases h.records n (Some x) k) [
    | inl set ↦ new i to (sym (ap (λ o. field_at (unwrap_or o no_fields) i) set.1) ∙ is)
    | inr kept ↦ born-kept h n x to (closed.fields k to i (sym (ap (λ o. field_at (unwrap_or o no_fields) i) kept.1) ∙ is))
  ];
  pins = λ k is. born-kept h n x k (closed.pins k is);
}

closed-pinned : (h : IdealHeap) → IsClosed h → (n : Name) (b : Bool) → HasRecord h n → IsClosed (set_pinned h n b)
closed-pinned h closed n b is_born = record {
  registers = closed.registers;
  globals = closed.globals;
  fields = closed.fields;
  pins = λ k is. elim (at_name-cases h.pinned n b k) [
    | inl set ↦ subst (λ q. HasRecord h q) (sym set.0) is_born
    | inr kept ↦ closed.pins k (sym kept.1 ∙ is)
  ];
}

closed-births : (h : IdealHeap) → IsClosed h → (f : ℕ → ℕ) → IsClosed (record h { births = f })
closed-births h closed f = record { registers = closed.registers; globals = closed.globals; fields = closed.fields; pins = closed.pins }

nil-field : (refs nums i : ℕ) (to : Name) → field_at (born refs nums) i ≡ At to → ⊥
nil-field refs nums i to is = let wrong : Nil ≡ At to = sym (at-nils refs i) ∙ is in cc

closed-new : (h : IdealHeap) → IsClosed h → (m d refs nums : ℕ) → IsClosed (with_new h m d refs nums)
closed-new h closed m d refs nums =
    let n : Name = name m (h.births m + 1) in
    let made : IdealHeap = set_record h n (born refs nums) in
    let nth_from_one : IdealHeap = record made { births = at_number h.births m (h.births m + 1) } in
    closed-register nth_from_one
    (closed-births made (closed-record h closed n (born refs nums) (λ i to is. absurd (nil-field refs nums i to is))) (at_number h.births m (h.births m + 1)))
    m d (Some n) (λ k is. let same : n ≡ k = cc in subst (λ q. HasRecord nth_from_one q) same (born-here h n (born refs nums)))

pub step-closed : (h : IdealHeap) (m : ℕ) (c : Command) → IsClosed h → IsClosed (step h m c).1
step-closed h m c closed = by_step IsClosed h m c closed (record {
  same = closed;
  created = λ d refs nums _. closed-new h closed m d refs nums;
  register = λ d v _ new. closed-register h closed m d v new;
  global = λ g v _ new. closed-global h closed g v new;
  replaced = λ n x _ _ new. closed-record h closed n x (λ i to is. born-kept h n x to (new i to is));
  pin = λ n b is. closed-pinned h closed n b is;
})

-- An update of an existing record or of a pin adds no name and changes no other part of an ideal heap.
born-back : (h : IdealHeap) (n : Name) (x : Record) → HasRecord h n → (k : Name) → HasRecord (set_record h n x) k → HasRecord h k
born-back h n x is_born k is = elim (at_name-cases h.records n (Some x) k) [
  | inl set ↦ subst (λ q. HasRecord h q) (sym set.0) is_born
  | inr kept ↦ sym (ap is_some kept.1) ∙ is
]

ideal-register : (ms : List ℕ) (h : IdealHeap) → IsIdeal ms h → (m d : ℕ) → Contains ms m → d ≤ 15 → (v : Option Name) → ((n : Name) → v ≡ Some n → HasRecord h n) → IsIdeal ms (set_register h m d v)
ideal-register ms h ideal m d one low v new = record {
  places = record {
    registers = λ m' d' n is. elim (register-cases h m d v m' d') [
      | inl set ↦ (omega (arith, low, set.1), subst (λ q. Contains ms q) (sym set.0) one)
      | inr kept ↦ ideal.places.registers m' d' n (sym kept ∙ is)
    ];
    globals = ideal.places.globals;
  };
  births = ideal.births;
  closed = closed-register h ideal.closed m d v new;
}

ideal-global : (ms : List ℕ) (h : IdealHeap) → IsIdeal ms h → (g : ℕ) → g ≤ 15 → (v : Option Name) → ((n : Name) → v ≡ Some n → HasRecord h n) → IsIdeal ms (set_global h g v)
ideal-global ms h ideal g low v new = record {
  places = record {
    registers = ideal.places.registers;
    globals = λ g' n is. elim (at_number-cases h.globals g v g') [
      | inl set ↦ omega (arith, low, set.0)
      | inr kept ↦ ideal.places.globals g' n (sym kept.1 ∙ is)
    ];
  };
  births = ideal.births;
  closed = closed-global h ideal.closed g v new;
}

-- the new name and the older ones are within the incremented count
born-count : (h : IdealHeap) (m : ℕ) (k : Name) → k ≡ name m (h.births m + 1) → (1 ≤ k.birth) × (k.birth ≤ at_number h.births m (h.births m + 1) k.mutator)
born-count h m k is =
    let birth : k.birth ≡ h.births m + 1 = ap (λ q. q.birth) is in
    let count : at_number h.births m (h.births m + 1) k.mutator ≡ h.births m + 1 =
    ap (λ q. at_number h.births m (h.births m + 1) q.mutator) is ∙ at_number-same h.births m (h.births m + 1) in
    (omega arith, omega arith)

nth_from_one-above : (h : IdealHeap) (m : ℕ) (k : Name) → (1 ≤ k.birth) × (k.birth ≤ h.births k.mutator) → (1 ≤ k.birth) × (k.birth ≤ at_number h.births m (h.births m + 1) k.mutator)
nth_from_one-above h m k was = elim (at_number-cases h.births m (h.births m + 1) k.mutator) [
  | inl risen ↦ (was.0, let count : h.births k.mutator ≡ h.births m = ap h.births risen.0 in omega (arith, risen.1, was.1, count))
  | inr kept ↦ (was.0, omega (arith, kept.1, was.1))
]

ideal-new : (ms : List ℕ) (h : IdealHeap) → IsIdeal ms h → (m d refs nums : ℕ) → Contains ms m → d ≤ 15 → IsIdeal ms (with_new h m d refs nums)
ideal-new ms h ideal m d refs nums one low =
    let n : Name = name m (h.births m + 1) in
    let made : IdealHeap = set_record h n (born refs nums) in
    let nth_from_one : IdealHeap = record made { births = at_number h.births m (h.births m + 1) } in
    record {
      places = record {
        registers = λ m' d' k is. elim (register-cases nth_from_one m d (Some n) m' d') [
          | inl set ↦ (omega (arith, low, set.1), subst (λ q. Contains ms q) (sym set.0) one)
          | inr kept ↦ ideal.places.registers m' d' k (sym kept ∙ is)
        ];
        globals = ideal.places.globals;
      };
      births = λ k is. elim (at_name-cases h.records n (Some (born refs nums)) k) [
        | inl set ↦ born-count h m k set.0
        | inr kept ↦ nth_from_one-above h m k (ideal.births k (sym (ap is_some kept.1) ∙ is))
      ];
      closed = closed-new h ideal.closed m d refs nums;
    }

pub step-ideal : (ms : List ℕ) (h : IdealHeap) (m : ℕ) (c : Command) → IsIdeal ms h → Contains ms m → IsValid c → IsIdeal ms (step h m c).1
step-ideal ms h m c ideal one valid = by_step (IsIdeal ms) h m c ideal.closed (record {
  same = ideal;
  created = λ d refs nums low. ideal-new ms h ideal m d refs nums one (low valid);
  register = λ d v low new. ideal-register ms h ideal m d one (low valid) v new;
  global = λ g v low new. ideal-global ms h ideal g (low valid) v new;
  replaced = λ n x is shape new. record {
    places = record {
      registers = ideal.places.registers;
      globals = ideal.places.globals;
    };
    births = λ k k_is. ideal.births k (born-back h n x is k k_is);
    closed = closed-record h ideal.closed n x (λ i to to_is. born-kept h n x to (new i to to_is));
  };
  pin = λ n b is. record {
    places = record {
      registers = ideal.places.registers;
      globals = ideal.places.globals;
    };
    births = ideal.births;
    closed = closed-pinned h ideal.closed n b is;
  };
})

pub empty-ideal : (ms : List ℕ) → IsIdeal ms empty
empty-ideal ms = record {
  places = record {
    registers = λ m d n is. absurd cc;
    globals = λ g n is. absurd cc;
  };
  births = λ n is. absurd cc;
  closed = record { registers = λ m d n is. absurd cc; globals = λ g n is. absurd cc; fields = λ n to i is. absurd cc; pins = λ n is. absurd cc };
}

after-entry-ideal : (ms : List ℕ) (h : IdealHeap) (e : Entry) → IsIdeal ms h → Contains ms e.mutator → IsValid e.command → IsIdeal ms (after_entry h e)
after-entry-ideal ms h e ideal one valid = elim (is_full e.reply) as (λ b. IsIdeal ms (if b then h else (step h e.mutator e.command).1)) [
  | true ↦ ideal
  | false ↦ step-ideal ms h e.mutator e.command ideal one valid
]

pub after-ideal : (ms : List ℕ) (h : IdealHeap) (es : List Entry) → IsIdeal ms h → AllByRecursion (λ e. Contains ms e.mutator × IsValid e.command) es → IsIdeal ms (heap_after_run h es)
after-ideal ms h [] ideal all = ideal
after-ideal ms h (e ∷ es) ideal all = after-ideal ms (after_entry h e) es (after-entry-ideal ms h e ideal all.0.0 all.0.1) all.1

-- records stay

abbrev Stays : Name → Record → IdealHeap → Type 0
Stays n x h = IsSomeAnd (h.records n) (HasShapeOf x)

same-stays : (o : Option Record) (x : Record) → o ≡ Some x → IsSomeAnd o (HasShapeOf x)
same-stays o x is = subst (λ q. IsSomeAnd q (HasShapeOf x)) (sym is) (record { refs = refl; nums = refl })

replaced-stays : (h : IdealHeap) (n : Name) (x : Record) → h.records n ≡ Some x → (k : Name) (y : Record) → HasShapeOf (record_of h k) y → Stays n x (set_record h k y)
replaced-stays h n x is k y shape = elim (at_name-cases h.records k (Some y) n) [
  | inl set ↦ subst (λ o. IsSomeAnd o (HasShapeOf x)) (sym set.1)
      (subst (λ q. HasShapeOf q y) (ap (λ q. record_of h q) (sym set.0) ∙ ap (λ o. unwrap_or o no_fields) is) shape)
  | inr kept ↦ same-stays ((set_record h k y).records n) x (kept.1 ∙ is)
]

new-stays : (ms : List ℕ) (h : IdealHeap) → IsIdeal ms h → (m : ℕ) (n : Name) (x : Record) → h.records n ≡ Some x → (refs nums : ℕ) → Stays n x (set_record h (name m (h.births m + 1)) (born refs nums))
new-stays ms h ideal m n x is refs nums = elim (at_name-cases h.records (name m (h.births m + 1)) (Some (born refs nums)) n) [
  | inl set ↦ absurd (let low : n.birth ≤ h.births n.mutator = (ideal.births n (ap is_some is)).1 in
      let birth : n.birth ≡ h.births m + 1 = ap (λ q. q.birth) set.0 in
      let count : h.births n.mutator ≡ h.births m = ap (λ q. h.births q.mutator) set.0 in omega arith)
  | inr kept ↦ same-stays ((set_record h (name m (h.births m + 1)) (born refs nums)).records n) x (kept.1 ∙ is)
]

pub record-stays : (ms : List ℕ) (h : IdealHeap) (m : ℕ) (c : Command) (n : Name) (x : Record) → IsIdeal ms h → h.records n ≡ Some x → IsSomeAnd ((step h m c).1.records n) (HasShapeOf x)
record-stays ms h m c n x ideal is = by_step (Stays n x) h m c ideal.closed (record {
  same = same-stays (h.records n) x is;
  created = λ d refs nums _. new-stays ms h ideal m n x is refs nums;
  register = λ d v _ _. same-stays (h.records n) x is;
  global = λ g v _ _. same-stays (h.records n) x is;
  replaced = λ k y _ shape _. replaced-stays h n x is k y shape;
  pin = λ k b _. same-stays (h.records n) x is;
})

some_of : {X : Type 0} (o : Option X) (P : X → Type 0) → IsSomeAnd o P → (y : X) × (o ≡ Some y) × P y
some_of None P none = absurd none
some_of (Some y) P fact = (y, refl, fact)

shape-trans : (x y z : Record) → HasShapeOf x y → HasShapeOf y z → HasShapeOf x z
shape-trans x y z first second = record { refs = second.refs ∙ first.refs; nums = second.nums ∙ first.nums }

and-then : (o : Option Record) (x y : Record) → HasShapeOf x y → IsSomeAnd o (HasShapeOf y) → IsSomeAnd o (HasShapeOf x)
and-then None x y shape none = none
and-then (Some z) x y shape next = shape-trans x y z shape next

entry-stays : (ms : List ℕ) (h : IdealHeap) (e : Entry) (n : Name) (x : Record) → IsIdeal ms h → h.records n ≡ Some x → IsSomeAnd ((after_entry h e).records n) (HasShapeOf x)
entry-stays ms h e n x ideal is = elim (is_full e.reply) as (λ b. IsSomeAnd ((if b then h else (step h e.mutator e.command).1).records n) (HasShapeOf x)) [
  | true ↦ same-stays (h.records n) x is
  | false ↦ record-stays ms h e.mutator e.command n x ideal is
]

pub after-stays : (ms : List ℕ) (h : IdealHeap) (es : List Entry) (n : Name) (x : Record) → IsIdeal ms h → AllByRecursion (λ e. Contains ms e.mutator × IsValid e.command) es
    → h.records n ≡ Some x → IsSomeAnd ((heap_after_run h es).records n) (HasShapeOf x)
after-stays ms h [] n x ideal all is = same-stays (h.records n) x is
after-stays ms h (e ∷ es) n x ideal all is =
    let next : (y : Record) × ((after_entry h e).records n ≡ Some y) × HasShapeOf x y = some_of ((after_entry h e).records n) (HasShapeOf x) (entry-stays ms h e n x ideal is) in
    and-then ((heap_after_run h (e ∷ es)).records n) x next.0 next.2
    (after-stays ms (after_entry h e) es n next.0 (after-entry-ideal ms h e ideal all.0.0 all.0.1) all.1 next.1)

-- a fact of the heap after a step that may fail for lack of memory
pub outcome-closed : {E : Type 0} (h k : IdealHeap) (m : ℕ) (c : Command) (r : Result Reply E) → IsClosed h → MatchResult r (λ x. (let o : Outcome = (x, k) in o) ≡ step h m c) (λ _. k ≡ h) → IsClosed k
outcome-closed h k m c (Ok x) closed made = subst IsClosed (sym (ap (λ o. o.1) made)) (step-closed h m c closed)
outcome-closed h k m c (Err e) closed same = subst IsClosed (sym same) closed

pub empty-closed : (h : IdealHeap) → h ≡ empty → IsClosed h
empty-closed h is = subst IsClosed (sym is) ((empty-ideal []).closed)

-- a name that a path reaches is an object's
pub reached-born : (h : IdealHeap) → IsClosed h → (n : Name) → PathReaches h n → HasRecord h n
reached-born h closed n (from_register m d is) = closed.registers m d n is
reached-born h closed n (from_global g is) = closed.globals g n is
reached-born h closed n (from_field k i reached is) = closed.fields k n i (ap (λ o. unwrap_or o Nil) is)

-- a pinned object was allocated
pub pinned-birth : (ms : List ℕ) (h : IdealHeap) → IsIdeal ms h → (n : Name) → IsTrue (h.pinned n) → n.birth ≤ h.births n.mutator
pinned-birth ms h ideal n pinned = (ideal.births n (ideal.closed.pins n pinned)).1
