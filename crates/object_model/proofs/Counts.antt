-- A collection that reclaims nothing raises the heap's number alone.
use Rattle.std.proofs.Common.{ℕ, ◌+◌, ◌<◌, ◌≤◌, arith, List, [], ◌∷◌, Some, None, Option}
use Rattle.std.specs.List.{AllByRecursion}
use Rattle.std.proofs.Math.Logic.{∥∥₁_map}
use Rattle.ideal_heap.specs.declared.name.Name.{Name}
use Rattle.ideal_heap.specs.Ideal.{IdealHeap}
use Rattle.object_model.specs.Objects.{HeapState, number_at, IsHeld, IsInExtent}
use Rattle.object_model.specs.Lawful.{IsLawful, IsWellFormed, Lies}
use Rattle.object_model.specs.Graphs.{MutatorState, PointsTo, register_at}
use Rattle.object_model.specs.Agreement.{RepresentsOn}

module _ (s : HeapState) where
  abbrev pub counted : HeapState
  counted = record s { number = s.number + 1 }

  pub held-counted : (a : ℕ) → IsHeld s a → IsHeld counted a
  held-counted a h = record { address = h.address; start = h.start }

  pub held-back : (a : ℕ) → IsHeld counted a → IsHeld s a
  held-back a h = record { address = h.address; start = h.start }

  inside-back : (a i : ℕ) → IsInExtent counted a i → IsInExtent s a i
  inside-back a i x = record { from = x.from; below = x.below }

  lies-counted : (a size : ℕ) → Lies s a size → Lies counted a size
  lies-counted a size lies = record {
    small = λ small. let old = lies.small small in record {
      address = old.address;
      within = old.within;
      kind = old.kind;
      cell = λ is. let cell = old.cell is in record { start = cell.start; room = cell.room; within = cell.within };
    };
    large = λ large. let old = lies.large large in record {
      address = old.address;
      start = old.start;
      run = record { head = old.run.head; class = old.run.class; inside = old.run.inside; tails = old.run.tails };
    };
  }

  order-counted : IsWellFormed s → IsWellFormed counted
  order-counted order = let old = order.objects in record {
    row = record { least = order.row.least; most = order.row.most; extent = order.row.extent; words = order.row.words; base = (let below : s.base ≤ s.number = order.row.base in omega arith) };
    objects = record {
      headers = λ a h. let header = old.headers a (held-back a h) in record {
        object = record { name = header.object.name; refs = header.object.refs; nums = header.object.nums };
        number = (let below : number_at s a ≤ s.number = header.number in omega arith);
        target = header.target;
      };
      marks = λ a h. held-counted a (old.marks a h);
      lies = λ a h. lies-counted a _ (old.lies a (held-back a h));
      apart = λ a x i ha hx ia ix. old.apart a x i (held-back a ha) (held-back x hx) (inside-back a i ia) (inside-back x i ix);
      heads = λ k is. let head = old.heads k is in (held-counted _ head.0, head.1);
      tails = old.tails;
      references = λ a i h less some. held-counted _ (old.references a i (held-back a h) less some);
      globals = λ g small some. held-counted _ (old.globals g small some);
      names = λ a x ha hx e. old.names a x (held-back a ha) (held-back x hx) e;
    };
  }

  pub lawful-counted : IsLawful s → IsLawful counted
  lawful-counted lawful = record {
    but_lines = record {
      order = order-counted lawful.but_lines.order;
      blocks = λ k there. let old = lawful.but_lines.blocks k there in record { code = old.code; owner = old.owner };
      free = λ k is. let clear = lawful.but_lines.free k is in record {
        empty = λ a i h inside. clear.empty a i (held-back a h) (inside-back a i inside);
        lines = clear.lines;
        marks = clear.marks;
      };
    };
    lines = λ k. record {
      marked = λ line is small marked. ∥∥₁_map ((lawful.lines k).marked line is small marked) (λ t.
          record { object = t.object; held = held-counted t.object t.held; touches = t.touches });
      touched = λ line is small t. (lawful.lines k).touched line is small
          (record { object = t.object; held = held-back t.object t.held; touches = t.touches });
    };
  }

  points-counted : (v : ℕ) (o : Option Name) → PointsTo s v o → PointsTo counted v o
  points-counted v None p = p
  points-counted v (Some n) p = (p.0, held-counted v p.1, p.2)

  registers-counted : (h : IdealHeap) (ms : List MutatorState) → AllByRecursion (λ m. (d : ℕ) → d < 16 → PointsTo s (register_at m d) (h.registers m.number d)) ms
      → AllByRecursion (λ m. (d : ℕ) → d < 16 → PointsTo counted (register_at m d) (h.registers m.number d)) ms
  registers-counted h [] all = tt
  registers-counted h (m ∷ ms) all = (λ d small. points-counted (register_at m d) (h.registers m.number d) (all.0 d small), registers-counted h ms all.1)

  pub models-counted : (ms : List MutatorState) (h : IdealHeap) (set : ℕ → Type 0) → RepresentsOn s ms h set → RepresentsOn counted ms h set
  models-counted ms h set model = record {
    order = order-counted model.order;
    mutators = model.mutators;
    pointers = record {
      registers = registers-counted h ms model.pointers.registers;
      globals = λ g small. points-counted _ (h.globals g) (model.pointers.globals g small);
      confined = model.pointers.confined;
    };
    births = record { births = model.births.births; held = λ a h'. model.births.held a (held-back a h'); pinned = model.births.pinned };
    mirrors = record {
      held = λ a there. held-counted a (model.mirrors.held a there);
      fields = model.mirrors.fields;
      registers = model.mirrors.registers;
      globals = model.mirrors.globals;
      records = model.mirrors.records;
      pins = model.mirrors.pins;
    };
  }
