-- The row after a finished trace.
use Rattle.std.proofs.Common.{◌≡◌, ◌≢◌, ℕ, ◌+◌, ◌*◌, ◌/◌, ◌%◌, ◌<◌, ◌≤◌, ◌⊎◌, inl, inr, ◌&&◌, ◌||◌, IsTrue, nat_eq, nat_lt, List, refl, sym, ap, ◌∙◌, subst, arith, Option, Some, None}
use Rattle.std.proofs.lemmas.Bool.{cases_eq, cases_lt, cases_Bool, and_parts, or_cases, or_left, or_right, eqb-true, ltb-true}
use Rattle.heap_layout.specs.Zones.{heap_of, block_at, offset_at}
use Rattle.heap_layout.specs.declared.block.Kind.{Kind}
use Rattle.heap_layout.specs.declared.block.Kind.TheVariants as kinds
use Rattle.heap_layout.specs.Blocks.{kind_code, kind_of_code}
use Rattle.heap_layout.proofs.BlockLemmas.{kind_of_code-kind_code, kind_code_most}
use Rattle.ideal_heap.specs.Names.{name_of}
use Rattle.object_model.specs.Objects.{HeapState, word_at, block_word, HasKind, IsHeld, IsInExtent, IsInExtentOf, number_at, name_at, size_at, is_start, is_pinned, is_unlogged, line_marked}
use Rattle.object_model.specs.Lawful.{FreeBlockIsClear}
use Rattle.object_model.specs.Ages.{Lives}
use Rattle.object_model.proofs.Marks as marks
use Rattle.object_model.specs.Lines.{TouchesLine}
use Rattle.trace_core.specs.Setups.{collection, Setup, blocks, size, refs, stays_old}
use Rattle.trace_core.specs.Machine.{target, Event, taken_word}
use Rattle.trace_core.specs.Traces.{IsTracing, IsFinished, HasCopyRoom, machine_after, heap_after, stage_of, target_of}
use Rattle.trace_core.specs.Outcomes.{base_after_trace, image, FinishedRow}
use Rattle.trace_core.proofs.Objects.{Some-injective}
use Rattle.trace_core.proofs.Law.{sound}
use Rattle.trace_core.proofs.Clauses.{held-of, targets-apart, extents-apart, has-room, waits, starts-from, starts-kept, starts-done, unlogs-from, unlogs-kept, unlogs-done, pins, none-is-free, old-target, untaken-word, taken-block-word}
use Rattle.trace_core.proofs.Finished.{low-number, has-target, image-is, image-some, lives, onto, same-shape}

module _ (p : Setup) (es : List Event) (trace : IsTracing p es) (finished : IsFinished p (machine_after p es)) where
  abbrev after : HeapState
  after = heap_after p es

  abbrev F : ℕ → ℕ
  F = image (stage_of p es)

  abbrev taken : ℕ → ℕ
  taken = (machine_after p es).taken

  -- name and shape of an object that was held
  header : (x o : ℕ) → IsHeld p.before x → o < 2 → word_at after (x + o) ≡ word_at p.before (x + o)
  header x o there l = elim (waits p es trace x o there (omega arith) (λ e. omega arith)) as (λ _. word_at after (x + o) ≡ word_at p.before (x + o)) [
    | inl same ↦ same
    | inr d ↦ absurd (let late : 3 ≤ o = d.2 in omega arith)
  ]

  pub shape : (x : ℕ) → IsHeld p.before x → word_at after (x + 1) ≡ word_at p.before (x + 1)
  shape x there = header x 1 there (omega arith)

  pub name : (x : ℕ) → IsHeld p.before x → name_at after x ≡ name_at p.before x
  name x there = let at : x ≡ x + 0 = omega arith in ap name_of (ap (word_at after) at ∙ header x 0 there (omega arith) ∙ ap (word_at p.before) (sym at))

  pub same-size : (x : ℕ) → IsHeld p.before x → size_at after x ≡ size p x
  same-size x there = ap (λ w. 3 + w % 65536 + w / 65536) (shape x there)

  pub target-size : (a t : ℕ) → target_of p es a ≡ Some t → size_at after t ≡ size p a
  target-size a t is = ap (λ w. 3 + w % 65536 + w / 65536) (same-shape p es trace finished a t is)

  -- what is held is the object of a: at its old place or at its target
  abbrev Holds : ℕ → Type 0
  Holds x = IsHeld p.before x ⊎ ((a : ℕ) × (target_of p es a ≡ Some x))

  pub holds : (x : ℕ) → IsHeld after x → Holds x
  holds x there = elim (starts-from p es trace x there) as (λ _. Holds x) [ inl was ↦ inl was | inr by ↦ inr (by.0, ap target by.2) ]

  within-old : (x i : ℕ) → IsHeld p.before x → IsInExtent after x i → IsInExtent p.before x i
  within-old x i there inside = record { from = inside.from; below = subst (λ n. i < x + n) (same-size x there) inside.below }

  within-target : (a t i : ℕ) → target_of p es a ≡ Some t → IsInExtent after t i → IsInExtentOf t (size p a) i
  within-target a t i is inside = record { from = inside.from; below = subst (λ n. i < t + n) (target-size a t is) inside.below }

  apart : (x y i : ℕ) → IsHeld after x → IsHeld after y → IsInExtent after x i → IsInExtent after y i → x ≡ y
  apart x y i here there inside within = elim (holds x here) as (λ _. x ≡ y) [
    | inl old ↦ elim (holds y there) as (λ _. x ≡ y) [
      | inl old' ↦ trace.ready.lawful.order.objects.apart x y i old old' (within-old x i old inside) (within-old y i old' within)
      | inr new ↦ (let d = extents-apart p es trace new.0 x y i new.1 old (within-target new.0 y i new.1 within) (within-old x i old inside) in sym d.0 ∙ sym d.1)
    ]
    | inr new ↦ elim (holds y there) as (λ _. x ≡ y) [
      | inl old' ↦ (let d = extents-apart p es trace new.0 y x i new.1 old' (within-target new.0 x i new.1 inside) (within-old y i old' within) in d.1 ∙ d.0)
      | inr new' ↦ elim (cases_eq new.0 new'.0) as (λ _. x ≡ y) [
        | inl e ↦ Some-injective x y (sym new.1 ∙ ap (target_of p es) e ∙ new'.1)
        | inr differ ↦ absurd (targets-apart p es trace new.0 new'.0 x y i differ new.1 new'.1 (within-target new.0 x i new.1 inside) (within-target new'.0 y i new'.1 within))
      ]
    ]
  ]

  -- a word that an object was copied to belongs to what lives there
  pub owner-lives : (i a : ℕ) → (machine_after p es).owner i ≡ Some a → (x : ℕ) × Lives (base_after_trace p) after x × IsInExtent after x i
  owner-lives i a own = let d = (sound p es trace).objects.owned i a own in
      (d.at, lives p es trace finished a d.at d.same, record { from = d.from; below = subst (λ n. i < d.at + n) (sym (target-size a d.at d.same)) d.below })

  -- a Free block was Free, and no worker took it
  kept-free : (b : ℕ) → HasKind after b kinds.Free → (b < blocks p) × (taken b ≡ 0) × HasKind p.before b kinds.Free
  kept-free b free =
      let both = and_parts (nat_lt b (blocks p)) _ free in
      let there : b < blocks p = ltb-true b (blocks p) both.0 in
      let code : block_word after b % 256 ≡ 0 = eqb-true (block_word after b % 256) 0 both.1 in
      elim (cases_eq (taken b) 0) as (λ _. (b < blocks p) × (taken b ≡ 0) × HasKind p.before b kinds.Free) [
        | inl none ↦ (there, none, subst (λ w. IsTrue (nat_lt b (blocks p) && nat_eq (w % 256) 0)) (untaken-word p es trace b there none) free)
        | inr some ↦ absurd (let at : taken b ≢ 0 = some in
            let word : block_word after b ≡ taken_word p (taken b) = taken-block-word p es trace b there (omega arith) in
            let most : kind_code p.copy ≤ 8 = kind_code_most p.copy in
            let zero : kind_code p.copy ≡ 0 = omega arith in
            (sound p es trace).sides.blocks.copies b (omega arith) (copy-free (sym (kind_of_code-kind_code p.copy) ∙ ap kind_of_code zero)))
      ]
    where
      copy-free : Some p.copy ≡ Some kinds.Free → p.copy ≡ kinds.Free
      copy-free e = ap (λ (o : Option Kind). (elim o as (λ _. Kind) [ None ↦ kinds.Free | Some k ↦ k ])) e

  -- no word of a target lies in a block that is Free
  target-elsewhere : (a t i b : ℕ) → target_of p es a ≡ Some t → IsInExtentOf t (size p a) i → HasKind after b kinds.Free → block_at (blocks p) i ≢ b
  target-elsewhere a t i b is inside free at =
      let d = kept-free b free in
      let from : t ≤ i = inside.from in let below : i < t + size p a = inside.below in
      elim (cases_eq t a) as (λ _. ⊥) [
        | inl same ↦ (trace.ready.lawful.free b d.2).empty a i (marks.held p.before a (held-of p es trace a t is)) (record { from = subst (λ z. z ≤ i) same from; below = subst (λ z. i < z + size p a) same below }) at
        | inr away ↦ (let room = has-room p es trace a t is away in
            let start : heap_of (blocks p) ≤ t = room.address.from in let fits : offset_at (blocks p) t + size p a ≤ 4096 = room.within in
            let block : block_at (blocks p) i ≡ block_at (blocks p) t = omega arith in
            let some : 0 < taken (block_at (blocks p) t) = room.block in
            let none : taken b ≡ 0 = d.1 in
            let same : taken (block_at (blocks p) t) ≡ taken b = ap taken (sym block ∙ at) in omega arith)
      ]

  held-elsewhere : (x i b : ℕ) → IsHeld after x → IsInExtent after x i → HasKind after b kinds.Free → block_at (blocks p) i ≢ b
  held-elsewhere x i b there inside free = elim (holds x there) as (λ _. block_at (blocks p) i ≢ b) [
    | inl old ↦ (trace.ready.lawful.free b (kept-free b free).2).empty x i old (within-old x i old inside)
    | inr new ↦ target-elsewhere new.0 x i b new.1 (within-target new.0 x i new.1 inside) free
  ]

  line-clear : (b line : ℕ) → HasKind after b kinds.Free → line < 256 → IsTrue (line_marked after b line) → ⊥
  line-clear b line free l set =
      let d = kept-free b free in
      let there : b < blocks p = d.0 in
      elim ((sound p es trace).sides.lines.from (256 * b + line) (omega arith) set) as (λ _. ⊥) [
        | inl was ↦ (trace.ready.lawful.free b d.2).lines line l was
        | inr by ↦ (let touch : TouchesLine (blocks p) by.1 (size p by.0) (256 * b + line) = by.3 in
            let from : heap_of (blocks p) + 16 * (256 * b + line) < by.1 + size p by.0 = touch.from in
            let below : by.1 < heap_of (blocks p) + 16 * (256 * b + line + 1) = touch.below in
            touched b line by.0 by.1 by.2 free l from below)
      ]
    where
      touched : (b line a t : ℕ) → target_of p es a ≡ Some t → HasKind after b kinds.Free → line < 256 → heap_of (blocks p) + 16 * (256 * b + line) < t + size p a
          → t < heap_of (blocks p) + 16 * (256 * b + line + 1) → ⊥
      touched b line a t is free l from below =
          let start : ℕ = heap_of (blocks p) + 16 * (256 * b + line) in
          elim (cases_lt t start) as (λ _. ⊥) [
            | inl before ↦ target-elsewhere a t start b is (record { from = omega arith; below = from }) free (omega arith)
            | inr after-start ↦ target-elsewhere a t t b is (record { from = omega arith; below = omega arith }) free (omega arith)
          ]

  own-word : (x : ℕ) → IsInExtent after x x
  own-word x = record { from = omega arith; below = omega arith }

  -- the unlog bits are those of what lives
  marked-lives : (x : ℕ) → IsTrue (is_unlogged after x) → Lives (base_after_trace p) after x
  marked-lives x set = elim (unlogs-from p es trace x set) as (λ _. Lives (base_after_trace p) after x) [
    | inl was ↦ lives p es trace finished x x (old-target p es trace x (sym (trace.ready.unlogs x) ∙ was))
    | inr by ↦ lives p es trace finished by.0 x (elim by.3 as (λ _. target_of p es by.0 ≡ Some x) [ inl scans ↦ ap target scans | inr copies ↦ ap target copies.0 ])
  ]

  target-marked : (a : ℕ) → 0 < F a → IsTrue (is_unlogged after (F a))
  target-marked a some =
      let is : target_of p es a ≡ Some (F a) = has-target p es trace finished a some in
      elim (cases_Bool (stays_old p a)) as (λ _. IsTrue (is_unlogged after (F a))) [
        | inl aged ↦ (let same : F a ≡ a = Some-injective (F a) a (sym is ∙ old-target p es trace a aged) in
            subst (λ z. IsTrue (is_unlogged after z)) (sym same) (unlogs-kept p es trace a (trace.ready.unlogs a ∙ aged)))
        | inr young ↦ unlogs-done p es trace a (F a) (refs p a) young (finished.objects a (F a) is)
      ]

  pub unlog-held : (x : ℕ) → IsTrue (is_unlogged after x) → IsHeld after x
  unlog-held x set = (marked-lives x set).held

  pub clear : (b : ℕ) → FreeBlockIsClear after b
  clear b free = record {
    empty = λ x i there inside. held-elsewhere x i b there inside free;
    lines = λ line l set. line-clear b line free l set;
    marks = λ a at set. elim (or_cases (is_start after a || is_pinned after a) (is_unlogged after a) set) as (λ _. ⊥) [
      | inl either ↦ elim (or_cases (is_start after a) (is_pinned after a) either) as (λ _. ⊥) [
        | inl start ↦ held-elsewhere a a b (marks.held after a start) (own-word a) free at
        | inr pin ↦ (trace.ready.lawful.free b (kept-free b free).2).marks a at (or_left (is_start p.before a || is_pinned p.before a) (is_unlogged p.before a) (or_right (is_start p.before a) (is_pinned p.before a) (sym (pins p es trace a) ∙ pin)))
      ]
      | inr unlog ↦ held-elsewhere a a b (unlog-held a unlog) (own-word a) free at
    ];
  }

  pub row : FinishedRow p (heap_after p es) (image (stage_of p es)) (machine_after p es).taken
  row = record {
    extent = (sound p es trace).objects.long;
    layout = refl;
    stop = (sound p es trace).sides.rest.stop 0 (record { from = omega arith; below = omega arith });
    budget = (sound p es trace).sides.rest.budget 1 (record { from = omega arith; below = omega arith });
    number = λ x live. (let new = onto p es trace finished x live in subst (λ z. number_at after z ≤ collection p) new.2 (low-number p es trace finished new.0 (F new.0) (has-target p es trace finished new.0 new.1)));
    held = λ x. (
      (λ there. elim (holds x there) as (λ _. IsHeld p.before x ⊎ ((a : ℕ) × (0 < F a) × (F a ≡ x))) [
        | inl was ↦ inl was
        | inr new ↦ inr (new.0, image-some p es trace finished new.0 x new.1, image-is p es trace finished new.0 x new.1)
      ]),
      (λ either. elim either as (λ _. IsHeld after x) [
        | inl was ↦ starts-kept p es trace x was
        | inr new ↦ subst (IsHeld after) new.2 (starts-done p es trace new.0 (F new.0) (refs p new.0) (finished.objects new.0 (F new.0) (has-target p es trace finished new.0 new.1)))
      ]),
    );
    lives = λ x. (onto p es trace finished x, λ new. subst (Lives (base_after_trace p) after) new.2 (lives p es trace finished new.0 (F new.0) (has-target p es trace finished new.0 new.1)));
    names = name;
    shapes = λ x there. (ap (λ w. w % 65536) (shape x there), ap (λ w. w / 65536) (shape x there));
    apart = apart;
    places = λ a some. elim (cases_eq (F a) a) as (λ _. (F a ≡ a) ⊎ HasCopyRoom p taken a (F a)) [
      | inl same ↦ inl same
      | inr away ↦ inr (has-room p es trace a (F a) (has-target p es trace finished a some) away)
    ];
    of_worker = λ b there some. taken-block-word p es trace b there some;
    as_before = λ b there none. untaken-word p es trace b there none;
    was_free = (sound p es trace).objects.free;
    worker = (sound p es trace).sides.blocks.worker;
    clear = clear;
    pins = pins p es trace;
    unlogs = λ x. (marked-lives x, (λ live. let new = onto p es trace finished x live in subst (λ z. IsTrue (is_unlogged after z)) new.2 (target-marked new.0 new.1)));
    moved = λ a b same some young moves free. none-is-free p es trace a (has-target p es trace finished a (subst (λ z. 0 < z) (sym same) some) ∙ ap Some same) young moves b free;
  }
