-- Name and shape of an object that was held as the trace began stay as they were.
use Rattle.std.proofs.Common.{◌≡◌, ℕ, ◌+◌, ◌/◌, ◌%◌, ◌<◌, ◌≤◌, inl, inr, List, slice_index, ap, ◌∙◌, sym, subst, arith}
use Rattle.heap_layout.specs.Zones.{row_words}
use Rattle.ideal_heap.specs.Names.{IsName, name_of}
use Rattle.object_model.specs.Objects.{IsHeld, word_at, refs_at, nums_at, size_at}
use Rattle.object_model.specs.Lawful.{IsReadable, HasObject}
use Rattle.object_model.proofs.ObjectReads as reads
use Rattle.trace_core.specs.Setups.{Setup, blocks, size, refs}
use Rattle.trace_core.specs.Machine.{Event}
use Rattle.trace_core.specs.Traces.{IsTracing, machine_after, heap_after}
use Rattle.trace_core.proofs.Law.{sound}
use Rattle.trace_core.proofs.Clauses.{waits, starts-kept}

module _ (p : Setup) (es : List Event) (trace : IsTracing p es) (x : ℕ) (held : IsHeld p.before x) where
  -- name and shape are as they were
  pub header-same : (o : ℕ) → o < 2 → word_at (heap_after p es) (x + o) ≡ word_at p.before (x + o)
  header-same o l = elim (waits p es trace x o held (omega arith) (λ e. omega arith)) as (λ _. word_at (heap_after p es) (x + o) ≡ word_at p.before (x + o)) [
    | inl same ↦ same
    | inr scanned ↦ absurd (let late : 3 ≤ o = scanned.2 in omega arith)
  ]

  pub name-word : word_at (heap_after p es) x ≡ word_at p.before x
  name-word = ap (slice_index (machine_after p es).words) (let same : x ≡ x + 0 = omega arith in same) ∙ header-same 0 (omega arith) ∙ ap (word_at p.before) (let same : x + 0 ≡ x = omega arith in same)

  pub shape-word : word_at (heap_after p es) (x + 1) ≡ word_at p.before (x + 1)
  shape-word = header-same 1 (omega arith)

  pub refs-same : refs_at (heap_after p es) x ≡ refs p x
  refs-same = ap (λ w. w % 65536) shape-word

  pub nums-same : nums_at (heap_after p es) x ≡ nums_at p.before x
  nums-same = ap (λ w. w / 65536) shape-word

  pub size-same : size_at (heap_after p es) x ≡ size p x
  size-same = ap (λ n. 3 + n + nums_at (heap_after p es) x) refs-same ∙ ap (λ n. 3 + refs p x + n) nums-same

  object-same : HasObject (heap_after p es) x
  object-same = let object = (trace.ready.lawful.order.objects.headers x held).object in record {
    name = subst (λ w. IsName (name_of w)) (sym name-word) object.name;
    refs = subst (λ n. n ≤ 1024) (sym refs-same) object.refs;
    nums = subst (λ n. n ≤ 60000) (sym nums-same) object.nums;
  }

  pub readable-after : IsReadable (heap_after p es) x
  readable-after = record {
    extent = (sound p es trace).objects.long;
    held = starts-kept p es trace x held;
    object = object-same;
    inside = (let ends : x + size p x ≤ row_words (blocks p) = reads.ends_in_row p.before trace.ready.lawful.order x held in
        let same : size_at (heap_after p es) x ≡ size p x = size-same in omega arith);
  }
