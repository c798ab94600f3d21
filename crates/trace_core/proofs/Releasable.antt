-- Each block of the row after a finished trace may be released.
use Rattle.std.proofs.Common.{◌≡◌, ◌≢◌, ℕ, ◌+◌, ◌/◌, ◌%◌, ◌<◌, ◌≤◌, inl, inr, true, true≢false, ◌&&◌, not, IsTrue, nat_le, refl, sym, ap, ◌∙◌, subst, arith, List, Some}
use Rattle.std.proofs.lemmas.Bool.{cases_eq, and_parts, or_cases, or_left, leb-true, le-leb}
use Rattle.heap_layout.specs.Zones.{block_at, block_start}
use Rattle.heap_layout.specs.declared.block.Kind.{Kind}
use Rattle.heap_layout.specs.declared.block.Kind.TheVariants as kinds
use Rattle.heap_layout.specs.Blocks.{kind_code, IsValidWord, is_block_code}
use Rattle.heap_layout.proofs.BlockLemmas.{is_block_code-code_of, kind_code_most}
use Rattle.ideal_heap.specs.Names.{IsName}
use Rattle.object_model.specs.Objects.{HeapState, block_word, HasKind, IsHeld, size_at, is_pinned, is_unlogged}
use Rattle.object_model.specs.Lawful.{HasObject, Lies, is_in_run}
use Rattle.object_model.specs.Releasing.{IsReleasable}
use Rattle.object_model.specs.Preserving.{SameObject}
use Rattle.trace_core.specs.Setups.{Setup, blocks, size, is_copy_kind}
use Rattle.trace_core.specs.Machine.{Event, taken_word}
use Rattle.trace_core.specs.Traces.{IsTracing, IsFinished, HasCopyRoom, machine_after, heap_after, target_of}
use Rattle.trace_core.proofs.Law.{sound}
use Rattle.trace_core.proofs.Clauses.{has-room, held-of}
use Rattle.trace_core.proofs.Finished.{same-object}
use Rattle.trace_core.proofs.Rows.{row, holds, same-size, target-size, name, shape, unlog-held, clear}
use Rattle.object_model.proofs.OneKind.{kind-from, kind-within, kind-code, one-kind, has_small-code, is_small_code}
use Rattle.object_model.proofs.UsedBlocks.{lies-kept, in_run-kept}
use Rattle.trace_core.proofs.Clauses.{untaken-word, taken-block-word, starts-kept, pins}
use Rattle.object_model.proofs.Marks as marks

-- the word of a taken block is a code, of a kind that holds small objects
taken-valid : (kind : Kind) (w : ℕ) → w ≤ 16 → (kind ≡ kinds.Free → ⊥) → IsTrue (is_copy_kind kind) → IsValidWord (record { kind = kind; class = 0; owner = 16 + w })
taken-valid kinds.Free w few some copies = absurd (some refl)
taken-valid kinds.Bump w few some copies = le-leb (16 + w) 32 (omega arith)
taken-valid kinds.Young w few some copies = le-leb (16 + w) 32 (omega arith)
taken-valid kinds.Mature w few some copies = le-leb (16 + w) 32 (omega arith)
taken-valid kinds.Immix w few some copies = le-leb (16 + w) 32 (omega arith)
taken-valid kinds.Cells w few some copies = absurd (true≢false (sym copies))
taken-valid kinds.LargeHead w few some copies = absurd (true≢false (sym copies))
taken-valid kinds.LargeTail w few some copies = absurd (true≢false (sym copies))
taken-valid kinds.Kept w few some copies = absurd (true≢false (sym copies))

copy-small : (kind : Kind) → (kind ≡ kinds.Free → ⊥) → IsTrue (is_copy_kind kind) → IsTrue (is_small_code true (kind_code kind))
copy-small kinds.Free some copies = absurd (some refl)
copy-small kinds.Bump some copies = refl
copy-small kinds.Young some copies = refl
copy-small kinds.Mature some copies = refl
copy-small kinds.Immix some copies = refl
copy-small kinds.Cells some copies = absurd (true≢false (sym copies))
copy-small kinds.LargeHead some copies = absurd (true≢false (sym copies))
copy-small kinds.LargeTail some copies = absurd (true≢false (sym copies))
copy-small kinds.Kept some copies = absurd (true≢false (sym copies))

pub copy-low : (kind : Kind) → IsTrue (is_copy_kind kind) → kind_code kind ≤ 4
copy-low kinds.Free copies = omega arith
copy-low kinds.Bump copies = omega arith
copy-low kinds.Young copies = omega arith
copy-low kinds.Mature copies = omega arith
copy-low kinds.Immix copies = omega arith
copy-low kinds.Cells copies = absurd (true≢false (sym copies))
copy-low kinds.LargeHead copies = absurd (true≢false (sym copies))
copy-low kinds.LargeTail copies = absurd (true≢false (sym copies))
copy-low kinds.Kept copies = absurd (true≢false (sym copies))

module _ (p : Setup) (es : List Event) (trace : IsTracing p es) (finished : IsFinished p (machine_after p es)) where
  abbrev after : HeapState
  after = heap_after p es

  abbrev taken : ℕ → ℕ
  taken = (machine_after p es).taken

  -- a block that was not Free keeps its word
  kept-word : (k : ℕ) → k < blocks p → (HasKind p.before k kinds.Free → ⊥) → block_word after k ≡ block_word p.before k
  kept-word k there used = elim (cases_eq (taken k) 0) as (λ _. block_word after k ≡ block_word p.before k) [
    | inl none ↦ untaken-word p es trace k there none
    | inr some ↦ (let at : taken k ≢ 0 = some in absurd (used ((sound p es trace).objects.free k (omega arith))))
  ]

  taken-copies : (k : ℕ) → 0 < taken k → p.copy ≡ kinds.Free → ⊥
  taken-copies k some = (sound p es trace).sides.blocks.copies k some

  taken-kind : (k : ℕ) → 0 < taken k → HasKind after k p.copy
  taken-kind k some =
      let there : k < blocks p = kind-within p.before k kinds.Free ((sound p es trace).objects.free k some) in
      let word : block_word after k ≡ taken_word p (taken k) = taken-block-word p es trace k there some in
      let most : kind_code p.copy ≤ 8 = kind_code_most p.copy in
      kind-from after k p.copy there (omega arith)

  old-lies : (x : ℕ) → IsHeld p.before x → Lies after x (size_at after x)
  old-lies x there = subst (Lies after x) (sym (same-size p es trace finished x there)) (lies-kept p.before (machine_after p es).words kept-word x (size p x) (trace.ready.lawful.order.objects.lies x there))

  new-lies : (a t : ℕ) → HasCopyRoom p taken a t → Lies after t (size p a)
  new-lies a t room =
      let k : ℕ = block_at (blocks p) t in
      let kind : HasKind after (block_at (blocks p) t) p.copy = taken-kind k room.block in
      let few : size p a ≤ 2048 = leb-true (size p a) 2048 (and_parts (p.from (block_at (blocks p) a) && not (is_pinned p.before a)) (nat_le (size p a) 2048) room.moves).1 in
      record {
        small = λ small. record {
          address = room.address;
          within = room.within;
          kind = has_small-code after k p.copy kind ∙ copy-small p.copy (taken-copies k room.block) trace.ready.kind;
          cell = λ cells. absurd (let same = one-kind after k p.copy kinds.Cells kind cells in let low = copy-low p.copy trace.ready.kind in omega arith);
        };
        large = λ large. absurd (omega arith);
      }

  old-object : (x : ℕ) → IsHeld p.before x → HasObject after x
  old-object x there = let was = (trace.ready.lawful.order.objects.headers x there).object in record {
    name = subst IsName (sym (name p es trace finished x there)) was.name;
    refs = subst (λ n. n ≤ 1024) (sym (ap (λ w. w % 65536) (shape p es trace finished x there))) was.refs;
    nums = subst (λ n. n ≤ 60000) (sym (ap (λ w. w / 65536) (shape p es trace finished x there))) was.nums;
  }

  new-object : (a t : ℕ) → target_of p es a ≡ Some t → HasObject after t
  new-object a t is = let was = (trace.ready.lawful.order.objects.headers a (marks.held p.before a (held-of p es trace a t is))).object in
      let same : SameObject p.before a after t = same-object p es trace finished a t is in record {
        name = subst IsName (sym same.name) was.name;
        refs = subst (λ n. n ≤ 1024) (sym same.refs) was.refs;
        nums = subst (λ n. n ≤ 60000) (sym same.nums) was.nums;
      }

  each-object : (x : ℕ) → IsHeld after x → HasObject after x × Lies after x (size_at after x)
  each-object x there = elim (holds p es trace finished x there) as (λ _. HasObject after x × Lies after x (size_at after x)) [
    | inl old ↦ (old-object x old, old-lies x old)
    | inr new ↦ elim (cases_eq x new.0) as (λ _. HasObject after x × Lies after x (size_at after x)) [
      | inl e ↦ (let old : IsHeld p.before x = subst (IsHeld p.before) (sym e) (marks.held p.before new.0 (held-of p es trace new.0 x new.1)) in (old-object x old, old-lies x old))
      | inr away ↦ (new-object new.0 x new.1, subst (Lies after x) (sym (target-size p es trace finished new.0 x new.1)) (new-lies new.0 x (has-room p es trace new.0 x new.1 away)))
    ]
  ]

  block-code : (k : ℕ) → k < blocks p → IsTrue (is_block_code (block_word after k))
  block-code k there = elim (cases_eq (taken k) 0) as (λ _. IsTrue (is_block_code (block_word after k))) [
    | inl none ↦ subst (λ w. IsTrue (is_block_code w)) (sym (untaken-word p es trace k there none)) (trace.ready.lawful.blocks k there).code
    | inr some ↦ (let at : taken k ≢ 0 = some in
        let few : taken k ≤ p.workers = (sound p es trace).sides.blocks.worker k in let most : p.workers ≤ 16 = trace.ready.few in
        is_block_code-code_of (record { kind = p.copy; class = 0; owner = 16 + taken k }) (block_word after k)
        (taken-valid p.copy (taken k) (omega arith) (taken-copies k (omega arith)) trace.ready.kind)
        (sym (taken-block-word p es trace k there (omega arith))))
  ]

  -- a block of a kind that no objects are copied into had that kind
  was-kind : (k : ℕ) (kind : Kind) → 4 < kind_code kind → HasKind after k kind → HasKind p.before k kind
  was-kind k kind high is =
      let there : k < blocks p = kind-within after k kind is in
      elim (cases_eq (taken k) 0) as (λ _. HasKind p.before k kind) [
        | inl none ↦ kind-from p.before k kind there (ap (λ w. w % 256) (sym (untaken-word p es trace k there none)) ∙ kind-code after k kind is)
        | inr some ↦ absurd (let at : taken k ≢ 0 = some in let same = one-kind after k p.copy kind (taken-kind k (omega arith)) is in let low = copy-low p.copy trace.ready.kind in omega arith)
      ]

  large-head : (k : ℕ) → HasKind after k kinds.LargeHead → IsHeld after (block_start (blocks p) k) × (2048 < size_at after (block_start (blocks p) k))
  large-head k head =
      let old = trace.ready.lawful.order.objects.heads k (was-kind k kinds.LargeHead (omega arith) head) in
      (starts-kept p es trace (block_start (blocks p) k) old.0, subst (λ n. 2048 < n) (sym (same-size p es trace finished (block_start (blocks p) k) old.0)) old.1)

  pub tail-in-run : (k : ℕ) → HasKind (heap_after p es) k kinds.LargeTail → IsTrue (is_in_run (heap_after p es) k)
  tail-in-run k tail = in_run-kept p.before (machine_after p es).words kept-word k (trace.ready.lawful.order.objects.tails k (was-kind k kinds.LargeTail (omega arith) tail))

  pub releasable : (k : ℕ) → k < blocks p → IsReleasable (heap_after p es) k
  releasable k there = record {
    code = block-code k there;
    objects = λ a span held. each-object a held;
    apart = λ a x i span within held here inside under. (row p es trace finished).apart a x i held here inside under;
    marks = λ a span set. elim (or_cases (is_pinned after a) (is_unlogged after a) set) as (λ _. IsHeld after a) [
      | inl pin ↦ starts-kept p es trace a (trace.ready.lawful.order.objects.marks a (or_left (is_pinned p.before a) (is_unlogged p.before a) (sym (pins p es trace a) ∙ pin)))
      | inr unlog ↦ unlog-held p es trace finished a unlog
    ];
    bits = λ free. (clear p es trace finished k free).marks;
    lines = λ free. (clear p es trace finished k free).lines;
    head = large-head k;
  }
