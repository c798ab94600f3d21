-- How the worker of a trace filled blocks, by the heap that was given and by where its objects went.
use Rattle.std.proofs.Common.{◌≡◌, ◌≢◌, refl, sym, ◌∙◌, ap, subst, ℕ, ◌+◌, ◌<◌, ◌≤◌, inl, inr, arith, IsTrue, nat_lt, List, [], ◌∷◌, Option, Some, None}
use Rattle.std.specs.Prelude.{is_some}
use Rattle.std.proofs.lemmas.Bool.{false≢true, cases_eq, lt-ltb}
use Rattle.heap_layout.specs.Zones.{heap_of, block_at, block_start, offset_at}
use Rattle.heap_layout.specs.declared.block.Kind.TheVariants as kinds
use Rattle.object_model.specs.Objects.{HeapState, with_words, HasKind, IsInExtentOf, size_at}
use Rattle.object_model.proofs.Marks as marks
use Rattle.trace_core.specs.Setups.{Setup, blocks, size}
use Rattle.trace_core.specs.Machine.{Event, Machine, address_or_nil}
use Rattle.trace_core.specs.Traces.{IsTracing, IsFinished, machine_after, stage_of, target_of}
use Rattle.trace_core.specs.Outcomes.{image}
use Rattle.trace_core.specs.Views.{View, Holds}
use Rattle.object_model.specs.Times.{one_if, times}
use Rattle.trace_core.specs.Rooms.{IsLeftFor, AreLeft}
use Rattle.trace_core.proofs.Rows.{row}
use Rattle.trace_core.proofs.Clauses.{held-of, has-room, owned-word}
use Rattle.trace_core.proofs.Finished.{has-target, image-some}
use Rattle.collector.specs.Collected.{IsCopiedAt, IsLeftForNext, AreFilledInTurn, FillsInTurn}
use Rattle.trace_core.proofs.SameObjects as given
use Rattle.collector.proofs.Given.{SameButBits, kind-given}

module _ (p : Setup) (u : List ℕ) (like : SameButBits p.before u) (es : List Event) (trace : IsTracing p es) (finished : IsFinished p (machine_after p es)) where
  abbrev old : HeapState
  old = with_words p.before u

  abbrev m : Machine
  m = machine_after p es

  abbrev F : ℕ → ℕ
  F = image (stage_of p es)

  image-at : (x t : ℕ) → target_of p es x ≡ Some t → F x ≡ t
  image-at x t is = ap address_or_nil is

  same-size : (x t : ℕ) → target_of p es x ≡ Some t → size_at old x ≡ size p x
  same-size x t is = given.size-same p.before u like.heap x (marks.held p.before x (held-of p es trace x t is))

  -- a word with an owner is one of a copy
  copied-by : (a x : ℕ) → m.owner a ≡ Some x → IsCopiedAt old F a
  copied-by a x own =
      let word = owned-word p es trace a x own in
      let at : F x ≡ word.0 = image-at x word.0 word.1 in (
        x,
        image-some p es trace finished x word.0 word.1,
        (λ e. word.2 (sym at ∙ e)),
        subst (λ n. IsInExtentOf (F x) n a) (sym (same-size x word.0 word.1)) (subst (λ t. IsInExtentOf t (size p x) a) (sym at) word.3),
      )

  copied-at : (a : ℕ) → IsTrue (is_some (m.owner a)) → IsCopiedAt old F a
  copied-at a is = by (m.owner a) refl is
    where
      by : (o : Option ℕ) → m.owner a ≡ o → IsTrue (is_some o) → IsCopiedAt old F a
      by None e none = absurd (false≢true none)
      by (Some x) e some = copied-by a x e

  -- what owns the first word of a block goes there
  first-goes : (x next : ℕ) → m.owner (block_start (blocks p) next) ≡ Some x → F x ≡ block_start (blocks p) next
  first-goes x next own =
      let word = owned-word p es trace (block_start (blocks p) next) x own in
      let at : F x ≡ word.0 = image-at x word.0 word.1 in
      let room = has-room p es trace x word.0 word.1 word.2 in
      let base : heap_of (blocks p) ≤ word.0 = room.address.from in
      let within : offset_at (blocks p) word.0 + size p x ≤ 4096 = room.within in
      let from : word.0 ≤ block_start (blocks p) next = word.3.from in
      let below : block_start (blocks p) next < word.0 + size p x = word.3.below in
      let same : word.0 ≡ block_start (blocks p) next = omega (arith, base, within, from, below) in at ∙ same

  turn : (b next : ℕ) → IsLeftFor p m b next → IsLeftForNext old F b next
  turn b next left =
      let word = owned-word p es trace (block_start (blocks p) next) left.object left.first in record {
        words = left.words;
        copied = λ o l. copied-at (block_start (blocks p) b + o) (left.filled o l);
        object = left.object;
        first = first-goes left.object next left.first;
        no_room = subst (λ n. 4096 < left.words + n) (sym (same-size left.object word.0 word.1)) left.no_room;
      }

  turns : (bs : List ℕ) → AreLeft p m [] bs → AreFilledInTurn old F bs
  turns [] is = tt
  turns (b ∷ []) is = tt
  turns (next ∷ b ∷ earlier) is = (
    is.0,
    elim is.1 as (λ _. IsLeftForNext old F b next) [
      | inl few ↦ absurd (omega (arith, few))
      | inr left ↦ turn b next left
    ],
    turns (b ∷ earlier) is.2,
  )

  module _ (v : View) (holds : Holds p m v) (left : AreLeft p m [] v.blocks)
      (lowest : (b c : ℕ) → 0 < m.taken b → c < b → HasKind p.before c kinds.Free → 0 < m.taken c) where
    listed : (b : ℕ) → 0 < m.taken b → 0 < times b v.blocks
    listed b taken = subst (λ n. 0 < n) (sym (holds.blocks b ∙ ap one_if (lt-ltb 0 (m.taken b) taken))) (omega arith)

    took : (b : ℕ) → 0 < times b v.blocks → 0 < m.taken b
    took b some = elim (cases_eq (m.taken b) 0) as (λ _. 0 < m.taken b) [
      | inl none ↦ absurd (let count : times b v.blocks ≡ one_if (nat_lt 0 (m.taken b)) = holds.blocks b in
          let zero : one_if (nat_lt 0 (m.taken b)) ≡ 0 = ap (λ n. one_if (nat_lt 0 n)) none in omega (arith, some, count, zero))
      | inr other ↦ (let some-worker : m.taken b ≢ 0 = other in omega (arith, some-worker))
    ]

    pub fills-in-turn : FillsInTurn old F
    fills-in-turn = record {
      taken = v.blocks;
      copies = λ a some moved. listed (block_at (blocks p) (F a)) (has-room p es trace a (F a) (has-target p es trace finished a some) moved).block;
      free = λ b some. kind-given like b kinds.Free ∙ (row p es trace finished).was_free b (took b some);
      lowest = λ b c some low free. listed c (lowest b c (took b some) low (sym (kind-given like c kinds.Free) ∙ free));
      turns = turns v.blocks left;
    }
