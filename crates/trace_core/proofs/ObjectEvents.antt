-- Each event keeps the invariant for objects.
use Rattle.std.proofs.Common.{◌≡◌, ◌≢◌, ℕ, ◌+◌, ◌<◌, ◌≤◌, ◌⊎◌, inl, inr, false, true≢false, IsTrue, List, slice_index, slice_set, refl, sym, ap, ◌∙◌, subst, arith, length-set, get_or-set_other, get_or-set_same, Some}
use Rattle.std.proofs.lemmas.Bool.{cases_eq, cases_lt, cond-false, false_from_ne_true}
use Rattle.forward_word.specs.CollectorWords.{collector_word}
use Rattle.heap_layout.specs.Zones.{row_words, heap_of}
use Rattle.heap_layout.specs.declared.block.Kind.TheVariants as kinds
use Rattle.object_model.specs.Objects.{word_at, HasKind, ref_at}
use Rattle.trace_core.specs.Setups.{Setup, TraceMayBegin, blocks, collection, held, size, refs, stays_old}
use Rattle.trace_core.specs.Machine.{Stage, Unclaimed, Copying, Scanning, target, Machine, put, put_all, claimed_word, copied_word, step_of_offset, offset_of_step, forward, IsSettled}
use Rattle.trace_core.specs.Traces.{HasCopyRoom, MovesObject}
use Rattle.trace_core.proofs.Puts.{put_here, all_here, all_else}
use Rattle.trace_core.proofs.Steps.{step-inside, offset-inside, offset-of-step, offset-step, copied-plain, copied-collector}
use Rattle.trace_core.proofs.Objects.{Intact, ObjectIs, OwnedWord, KeepsObjects, Some-injective, None-not-Some, Grows, settled_grows, forward_grows, grows_put, moved, beside}
use Rattle.trace_core.proofs.Places.{object-from, object-below, objects-apart, room-of, room-clear, owned-clear, owned-from, target-apart, target-unowned, target-from, target-below}

abbrev fields-of : Stage → ℕ
fields-of (Scanning t k) = k
fields-of _ = 0

abbrev pub Keeps : Setup → Machine → Type 0
Keeps p m = KeepsObjects p m.words m.stage m.owner m.taken

module _ (p : Setup) (ready : TraceMayBegin p) (m : Machine) (h : Keeps p m) (x : ℕ) (here : IsTrue (held p x)) where
  abbrev Now : Stage → Type 0
  Now st = ObjectIs p (slice_index m.words) m.stage m.owner m.taken x st

  stage-not-old : (f : ℕ) → (st : Stage) → st ≡ Scanning x f → st ≡ Unclaimed → ⊥
  stage-not-old f st a b = None-not-Some x (sym (ap target b) ∙ ap target a)

  -- the object at x is claimed
  module _ (fresh : m.stage x ≡ Unclaimed) (t : ℕ) where
    abbrev mark : ℕ
    mark = collector_word (collection p) t

    abbrev words : List ℕ
    words = slice_set m.words (x + 2) mark

    was : Now Unclaimed
    was = subst Now fresh (h.objects x here)

    not-old : stays_old p x ≡ false
    not-old = false_from_ne_true (stays_old p x) (λ aged. let d = h.old x aged in stage-not-old d.fields (m.stage x) d.same fresh)

    no-target : (u : ℕ) → target (m.stage x) ≡ Some u → ⊥
    no-target u e = None-not-Some u (sym (ap target fresh) ∙ e)

    mark-is : claimed_word p x t ≡ mark
    mark-is = cond-false (stays_old p x) (word_at p.before (x + 2)) mark not-old

    word-here : slice_index words (x + 2) ≡ claimed_word p x t
    word-here = get_or-set_same m.words (x + 2) mark 0
        (let below = object-below p ready x 2 here (omega arith) in let long = h.long in omega arith) ∙ sym mark-is

    word-other : (j : ℕ) → j ≢ x + 2 → slice_index words j ≡ slice_index m.words j
    word-other j ne = get_or-set_other m.words (x + 2) j mark 0 ne

    still : (o : ℕ) → o < size p x → o ≢ 2 → slice_index words (x + o) ≡ word_at p.before (x + o)
    still o l ne = word-other (x + o) (λ e. ne (omega arith)) ∙ was.intact o l ne

    pub claimed-in-place : t ≡ x → KeepsObjects p words (put m.stage x (Copying t (size p x))) m.owner m.taken
    claimed-in-place same = moved p m.words m.stage m.owner m.taken h x (x + 2) mark (Copying t (size p x)) m.owner here
        (λ u e. absurd (no-target u e))
        (λ y o there ne l. objects-apart p ready y x o 2 there here ne l (omega arith))
        (λ y a ne own e. owned-clear p ready m.words m.stage m.owner m.taken h a y x 2 own here (omega arith) (sym e))
        (λ y a ne own. own)
        (λ y a own. inl own)
        (λ aged. absurd (true≢false (sym aged ∙ not-old)))
        (record {
          collector = word-here;
          placed = inl same;
          young = not-old;
          steps = omega arith;
          in_place = λ e. refl;
          intact = still;
          copied = λ o l before. elim (cases_eq o 2) as (λ _. slice_index words (t + o) ≡ copied_word p x t o) [
            | inl e ↦ ap (λ z. slice_index words (z + o)) same ∙ ap (λ z. slice_index words (x + z)) e ∙ word-here ∙ sym (copied-collector p x t o e)
            | inr ne ↦ ap (λ z. slice_index words (z + o)) same ∙ still o l ne ∙ sym (copied-plain p x t o ne)
          ];
        })

    pub claimed-to-move : MovesObject p m x t → (t ≢ x) × KeepsObjects p words (put m.stage x (Copying t 0)) (put_all m.owner t (size p x) (Some x)) m.taken
    claimed-to-move may =
        let n : ℕ = size p x in
        let away : t ≢ x = λ e. room-clear p ready m.words m.stage m.owner m.taken h x t 0 x 0 may.room (omega arith) here (omega arith) (omega arith) in (
          away,
          moved p m.words m.stage m.owner m.taken h x (x + 2) mark (Copying t 0) (put_all m.owner t (size p x) (Some x)) here
              (λ u e. absurd (no-target u e))
              (λ y o there ne l. objects-apart p ready y x o 2 there here ne l (omega arith))
              (λ y a ne own e. owned-clear p ready m.words m.stage m.owner m.taken h a y x 2 own here (omega arith) (sym e))
              (λ y a ne own. all_else m.owner t (Some x) n a (elim (cases_lt a t) as (λ _. (a < t) ⊎ (t + n ≤ a)) [
                | inl before ↦ inl before
                | inr from ↦ elim (cases_lt a (t + n)) as (λ _. (a < t) ⊎ (t + n ≤ a)) [
                  | inl below ↦ absurd (None-not-Some y (sym (may.unowned a (record { from = omega arith; below = below })) ∙ own))
                  | inr beyond ↦ inr (omega arith)
                ]
              ]) ∙ own)
              (λ y a own. elim (cases_lt a t) as (λ _. (m.owner a ≡ Some y) ⊎ ((y ≡ x) × OwnedWord p (put m.stage x (Copying t 0)) x a)) [
                | inl before ↦ inl (sym (all_else m.owner t (Some x) n a (inl before)) ∙ own)
                | inr from ↦ elim (cases_lt a (t + n)) as (λ _. (m.owner a ≡ Some y) ⊎ ((y ≡ x) × OwnedWord p (put m.stage x (Copying t 0)) x a)) [
                  | inl below ↦ inr (
                    Some-injective y x (sym own ∙ all_here m.owner t (Some x) n a (omega arith) below),
                    record { at = t; same = ap target (put_here m.stage x (Copying t 0)); moved = away; from = omega arith; below = below },
                  )
                  | inr beyond ↦ inl (sym (all_else m.owner t (Some x) n a (inr (omega arith))) ∙ own)
                ]
              ])
              (λ aged. absurd (true≢false (sym aged ∙ not-old)))
              (record {
                collector = word-here;
                placed = inr (may.room, λ o l. all_here m.owner t (Some x) n (t + o) (omega arith) (omega arith));
                young = not-old;
                steps = omega arith;
                in_place = λ e. absurd (away e);
                intact = still;
                copied = λ o l before. absurd (omega arith);
              }),
        )

  -- one step of copying the object at x
  module _ (t k : ℕ) (now : m.stage x ≡ Copying t k) where
    copying : Now (Copying t k)
    copying = subst Now now (h.objects x here)

    has-target : target (m.stage x) ≡ Some t
    has-target = ap target now

    keeps-target : (st : Stage) → target st ≡ Some t → (u : ℕ) → target (m.stage x) ≡ Some u → target st ≡ Some u
    keeps-target st is u e = is ∙ sym has-target ∙ e

    never-old : IsTrue (stays_old p x) → ⊥
    never-old aged = true≢false (sym aged ∙ copying.young)

    pub copied-word : k < size p x → KeepsObjects p (slice_set m.words (t + offset_of_step (size p x) k) (copied_word p x t (offset_of_step (size p x) k)))
        (put m.stage x (Copying t (k + 1))) m.owner m.taken
    copied-word more =
        let n : ℕ = size p x in
        let j : ℕ = offset_of_step n k in
        let within : j < n = step-inside n (omega arith) k more in
        let v : ℕ = copied_word p x t j in
        let away : t ≢ x = λ e. (let full : k ≡ size p x = copying.in_place e in omega arith) in
        let room : HasCopyRoom p m.taken x t = room-of p ready m.words m.stage m.owner m.taken h x t copying.placed away in
        let own : (o : ℕ) → o < n → x + o ≢ t + j = λ o l. room-clear p ready m.words m.stage m.owner m.taken h x t j x o room within here l in
        let other : (a : ℕ) → a ≢ t + j → slice_index (slice_set m.words (t + j) v) a ≡ slice_index m.words a = λ a ne. get_or-set_other m.words (t + j) a v 0 ne in
        let most : t + j < row_words (blocks p) = target-below p ready m.words m.stage m.owner m.taken h x t j here copying.placed within in
        let long = h.long in
        let few : k ≤ size p x + 1 = copying.steps in
        moved p m.words m.stage m.owner m.taken h x (t + j) v (Copying t (k + 1)) m.owner here
        (keeps-target (Copying t (k + 1)) refl)
        (λ y o there ne l. target-apart p ready m.words m.stage m.owner m.taken h x t j here copying.placed within y o there ne l)
        (λ y a ne owns. target-unowned p ready m.words m.stage m.owner m.taken h x t j here copying.placed within y a ne owns)
        (λ y a ne owns. owns)
        (λ y a owns. inl owns)
        (λ aged. absurd (never-old aged))
        (record {
          collector = other (x + 2) (own 2 (omega arith)) ∙ copying.collector;
          placed = copying.placed;
          young = copying.young;
          steps = omega arith;
          in_place = λ e. absurd (away e);
          intact = λ o l ne. other (x + o) (own o l) ∙ copying.intact o l ne;
          copied = λ o l before. elim (cases_eq (step_of_offset n o) k) as (λ _. slice_index (slice_set m.words (t + j) v) (t + o) ≡ copied_word p x t o) [
            | inl e ↦ (let is : o ≡ j = offset-of-step n (omega arith) o k l e in
                ap (λ z. slice_index (slice_set m.words (t + j) v) (t + z)) is ∙ get_or-set_same m.words (t + j) v 0 (omega arith) ∙ ap (copied_word p x t) (sym is))
            | inr ne ↦ (let differ : step_of_offset n o ≢ k = ne in
                other (t + o) (λ e. differ (let is : o ≡ j = omega arith in ap (step_of_offset n) is ∙ offset-step n (omega arith) k more)) ∙ copying.copied o l (omega arith))
          ];
        })

    -- the copying sets a bit of the side metadata
    module _ (i v : ℕ) (side : i < heap_of (blocks p)) where
      side-other : (a : ℕ) → heap_of (blocks p) ≤ a → slice_index (slice_set m.words i v) a ≡ slice_index m.words a
      side-other a from = get_or-set_other m.words i a v 0 (λ e. omega arith)

      from-x : (o : ℕ) → heap_of (blocks p) ≤ x + o
      from-x o = let from = object-from p ready x here in omega arith

      from-t : (o : ℕ) → heap_of (blocks p) ≤ t + o
      from-t o = let from = target-from p ready m.words m.stage m.owner m.taken h x t here copying.placed in omega arith

      bit-set : (new : Stage) → target new ≡ Some t → ObjectIs p (slice_index (slice_set m.words i v)) (put m.stage x new) m.owner m.taken x new
          → KeepsObjects p (slice_set m.words i v) (put m.stage x new) m.owner m.taken
      bit-set new is mine = moved p m.words m.stage m.owner m.taken h x i v new m.owner here
          (keeps-target new is)
          (λ y o there ne l e. (let from = object-from p ready y there in omega arith))
          (λ y a ne owns e. (let from = owned-from p ready m.words m.stage m.owner m.taken h a y owns in omega arith))
          (λ y a ne owns. owns)
          (λ y a owns. inl owns)
          (λ aged. absurd (never-old aged))
          mine

      pub unlogged : k ≡ size p x → t ≢ x → KeepsObjects p (slice_set m.words i v) (put m.stage x (Copying t (k + 1))) m.owner m.taken
      unlogged full away = bit-set (Copying t (k + 1)) refl (record {
        collector = side-other (x + 2) (from-x 2) ∙ copying.collector;
        placed = copying.placed;
        young = copying.young;
        steps = omega arith;
        in_place = λ e. absurd (away e);
        intact = λ o l ne. side-other (x + o) (from-x o) ∙ copying.intact o l ne;
        copied = λ o l before. side-other (t + o) (from-t o) ∙ copying.copied o l (let within = offset-inside (size p x) (omega arith) o l in omega arith);
      })

      pub started : size p x ≤ k → KeepsObjects p (slice_set m.words i v) (put m.stage x (Scanning t 0)) m.owner m.taken
      started full = bit-set (Scanning t 0) refl (record {
        collector = side-other (x + 2) (from-x 2) ∙ copying.collector;
        placed = copying.placed;
        old = λ aged. absurd (never-old aged);
        header = λ o l. side-other (x + o) (from-x o) ∙ copying.intact o (omega arith) (λ e. omega arith);
        source = inr (λ o l ne. side-other (x + o) (from-x o) ∙ copying.intact o l ne);
        fields = omega arith;
        rest = λ o l any. side-other (t + o) (from-t o) ∙ copying.copied o l (let within = offset-inside (size p x) (omega arith) o l in omega arith);
        settled = λ o l. absurd (omega arith);
        scanned = λ o l. absurd (omega arith);
      })

  -- one field of the object at x is scanned
  pub scanned-field : (t k : ℕ) → m.stage x ≡ Scanning t k → k < refs p x → IsSettled m.stage (ref_at p.before x k)
      → KeepsObjects p (slice_set m.words (t + 3 + k) (forward m.stage (ref_at p.before x k))) (put m.stage x (Scanning t (k + 1))) m.owner m.taken
  scanned-field t k now more settled =
      let was : Now (Scanning t k) = subst Now now (h.objects x here) in
      let i : ℕ = t + 3 + k in
      let f : ℕ = ref_at p.before x k in
      let v : ℕ = forward m.stage f in
      let new : Stage = Scanning t (k + 1) in
      let has : target (m.stage x) ≡ Some t = ap target now in
      let keep : (u : ℕ) → target (m.stage x) ≡ Some u → target (Scanning t (k + 1)) ≡ Some u = λ u e. sym has ∙ e in
      let grows : Grows m.stage (put m.stage x (Scanning t (k + 1))) = grows_put m.stage x (Scanning t (k + 1)) keep in
      let within : 3 + k < size p x = omega arith in
      let other : (a : ℕ) → a ≢ t + 3 + k → slice_index (slice_set m.words (t + 3 + k) (forward m.stage (ref_at p.before x k))) a ≡ slice_index m.words a = λ a ne. get_or-set_other m.words i a v 0 ne in
      let most : t + (3 + k) < row_words (blocks p) = target-below p ready m.words m.stage m.owner m.taken h x t (3 + k) here was.placed within in
      let long = h.long in
      let apart : (o : ℕ) → o < 3 → x + o ≢ t + 3 + k = λ o l. elim was.placed as (λ _. x + o ≢ t + 3 + k) [
        | inl same ↦ (λ e. omega arith)
        | inr room ↦ (λ e. room-clear p ready m.words m.stage m.owner m.taken h x t (3 + k) x o room.0 within here (omega arith) (omega arith))
      ] in
      moved p m.words m.stage m.owner m.taken h x i v (Scanning t (k + 1)) m.owner here keep
      (λ y o there ne l e. target-apart p ready m.words m.stage m.owner m.taken h x t (3 + k) here was.placed within y o there ne l (omega arith))
      (λ y a ne owns e. target-unowned p ready m.words m.stage m.owner m.taken h x t (3 + k) here was.placed within y a ne owns (omega arith))
      (λ y a ne owns. owns)
      (λ y a owns. inl owns)
      (λ aged. record {
        fields = k + 1;
        same = put_here m.stage x (Scanning t (k + 1)) ∙ ap (λ z. Scanning z (k + 1)) (was.old aged);
        not_logged = λ none. (let d = h.old x aged in let all : d.fields ≡ refs p x = d.not_logged none in let same : k ≡ d.fields = ap fields-of (sym now ∙ d.same) in absurd (omega arith));
      })
      (record {
        collector = other (x + 2) (apart 2 (omega arith)) ∙ was.collector;
        placed = was.placed;
        old = was.old;
        header = λ o l. other (x + o) (apart o (omega arith)) ∙ was.header o l;
        source = elim was.placed as (λ _. (t ≡ x) ⊎ Intact p (slice_index (slice_set m.words (t + 3 + k) (forward m.stage (ref_at p.before x k)))) (put m.stage x (Scanning t (k + 1))) m.owner m.taken x) [
          | inl same ↦ inl same
          | inr room ↦ elim was.source as (λ _. (t ≡ x) ⊎ Intact p (slice_index (slice_set m.words (t + 3 + k) (forward m.stage (ref_at p.before x k)))) (put m.stage x (Scanning t (k + 1))) m.owner m.taken x) [
            | inl same ↦ inl same
            | inr intact ↦ inr (λ o l ne. other (x + o) (λ e. room-clear p ready m.words m.stage m.owner m.taken h x t (3 + k) x o room.0 within here l (omega arith)) ∙ intact o l ne)
          ]
        ];
        fields = omega arith;
        rest = λ o l w. elim w as (λ _. slice_index (slice_set m.words (t + 3 + k) (forward m.stage (ref_at p.before x k))) (t + o) ≡ copied_word p x t o) [
          | inl early ↦ other (t + o) (λ e. omega arith) ∙ was.rest o l (inl early)
          | inr late ↦ other (t + o) (λ e. omega arith) ∙ was.rest o l (inr (omega arith))
        ];
        settled = λ o l. settled_grows m.stage (put m.stage x (Scanning t (k + 1))) grows (ref_at p.before x o) (elim (cases_eq o k) as (λ _. IsSettled m.stage (ref_at p.before x o)) [
          | inl e ↦ subst (λ z. IsSettled m.stage (ref_at p.before x z)) (sym e) settled
          | inr ne ↦ was.settled o (let differ : o ≢ k = ne in omega arith)
        ]);
        scanned = λ o l. elim (cases_eq o k) as (λ _. slice_index (slice_set m.words (t + 3 + k) (forward m.stage (ref_at p.before x k))) (t + 3 + o) ≡ forward (put m.stage x (Scanning t (k + 1))) (ref_at p.before x o)) [
          | inl e ↦ ap (λ z. slice_index (slice_set m.words i v) (t + 3 + z)) e ∙ get_or-set_same m.words i v 0 (omega arith)
              ∙ sym (forward_grows m.stage (put m.stage x (Scanning t (k + 1))) grows f settled) ∙ ap (λ z. forward (put m.stage x (Scanning t (k + 1))) (ref_at p.before x z)) (sym e)
          | inr ne ↦ (let differ : o ≢ k = ne in let early : o < k = omega arith in
              other (t + 3 + o) (λ e. omega arith) ∙ was.scanned o early ∙ sym (forward_grows m.stage (put m.stage x (Scanning t (k + 1))) grows (ref_at p.before x o) (was.settled o early)))
        ];
      })

-- an event that changes a word of the side metadata alone
pub aside : (p : Setup) (ready : TraceMayBegin p) (m : Machine) → Keeps p m → (i v : ℕ) (taken' : ℕ → ℕ) → i < heap_of (blocks p)
    → ((b : ℕ) → 0 < m.taken b → 0 < taken' b) → ((b : ℕ) → 0 < taken' b → HasKind p.before b kinds.Free)
    → KeepsObjects p (slice_set m.words i v) m.stage m.owner taken'
aside p ready m h i v taken' side more free = beside p m.words (slice_set m.words i v) m.stage m.owner m.taken taken' h (length-set m.words i v)
    (λ y o there l. get_or-set_other m.words i (y + o) v 0 (λ e. (let from = object-from p ready y there in omega arith)))
    (λ y a own. get_or-set_other m.words i a v 0 (λ e. (let from = owned-from p ready m.words m.stage m.owner m.taken h a y own in omega arith)))
    more free
