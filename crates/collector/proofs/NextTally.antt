-- The counts of a trace after tokens were handed on: none reaches the largest number.
use Rattle.std.proofs.Common.{◌≡◌, refl, sym, ◌∙◌, ap, subst, ℕ, ◌+◌, ◌*◌, ◌-◌, ◌^◌, ◌<◌, ◌≤◌, inl, inr, arith, not, nat_eq, List, ◌++◌, length}
use Rattle.std.specs.Prelude.{All, sum_by, count_by}
use Rattle.std.proofs.lemmas.Bool.{cases_lt}
use Rattle.std.proofs.lemmas.List.Elements.{All-weaker}
use Rattle.heap_layout.specs.Zones.{row_words, IsAddress}
use Rattle.object_model.specs.Objects.{HeapState, IsHeld, refs_at, nums_at, size_at}
use Rattle.object_model.specs.Lawful.{IsLawfulButLines}
use Rattle.object_model.proofs.Blocks as given
use Rattle.trace_core.specs.Setups.{Setup, blocks, size}
use Rattle.trace_core.specs.Machine.{Event, address_or_nil}
use Rattle.trace_core.specs.Traces.{IsTracing, machine_after, stage_of}
use Rattle.trace_core.specs.Outcomes.{image}
use Rattle.trace_core.specs.Views.{View, Holds}
use Rattle.object_model.specs.Times.{one_if, times}
use Rattle.plain_tracer.specs.TokenRights.{IsGrey, copied_in}
use Rattle.trace_core.specs.Runs.{setup_of, without_lines}
use Rattle.trace_core.specs.declared.run.TraceRun.{TraceRun}
use Rattle.plain_tracer.specs.declared.tokens.Grey.{Grey}
use Rattle.object_model.proofs.Frames as frames
use Rattle.trace_core.proofs.WithoutLines as lines
use Rattle.trace_core.proofs.SameObjects as objects
use Rattle.trace_core.proofs.SetUnlogs.{same-objects}
use Rattle.trace_core.proofs.Begun.{by-begun, keeps-objects}
use Rattle.racing_collector.specs.declared.tally.Tally.{Tally}
use Rattle.racing_collector.specs.Together.{total}
use Rattle.collector.specs.Tallies.{has_moved, Counts, IsTally}
use Rattle.collector.proofs.TallySums.{total-same, total-most, total-more, total-copied, sum-equal, count-next}
use Rattle.plain_tracer.proofs.TracedObjects.{one-if-few, target-grows, copied-target, copied-held, copied-once, token-held}

-- one thing at most, of at most so much
product-most : (n k most : ℕ) → n ≤ 1 → (0 < n → k ≤ most) → n * k ≤ most
product-most n k most once few = elim (cases_lt 0 n) as (λ _. n * k ≤ most) [
  | inl some ↦ (let one : n ≡ 1 = omega arith in let is : n * k ≡ 1 * k = ap (λ m. m * k) one in let below : k ≤ most = few some in omega arith)
  | inr none ↦ (let zero : n ≡ 0 = omega arith in let is : n * k ≡ 0 * k = ap (λ m. m * k) zero in omega arith)
]

product-same : (n k l : ℕ) → (0 < n → k ≡ l) → n * k ≡ n * l
product-same n k l same = elim (cases_lt 0 n) as (λ _. n * k ≡ n * l) [
  | inl some ↦ ap (λ m. n * m) (same some)
  | inr none ↦ (let zero : n ≡ 0 = omega arith in let left : n * k ≡ 0 * k = ap (λ m. m * k) zero in let right : n * l ≡ 0 * l = ap (λ m. m * l) zero in omega arith)
]

module _ (s : HeapState) (run : TraceRun) (lawful : IsLawfulButLines s) (listed : (x : ℕ) → 0 < times x run.logged.items → IsAddress s.blocks x) where
  abbrev p : Setup
  p = setup_of s run 1

  blocks-same : blocks p ≡ s.blocks
  blocks-same = by-begun s run (λ h. h.blocks ≡ s.blocks) refl refl (λ young. refl)

  lawful-lines : IsLawfulButLines (without_lines s)
  lawful-lines = lines.without_lines-lawful s lawful

  pub size-same : (a : ℕ) → IsHeld p.before a → size p a ≡ size_at s a
  size-same = by-begun s run (λ h. (a : ℕ) → IsHeld h a → size_at h a ≡ size_at s a)
      (λ a there. let before = frames.held-before (without_lines s) _ (keeps-objects (without_lines s) lawful-lines) a there in
      frames.size-after (without_lines s) _ (keeps-objects (without_lines s) lawful-lines) a before
      ∙ given.size-same s ((without_lines s).words) (lines.same s lawful) a (given.held-before s ((without_lines s).words) (lines.same s lawful) a before))
      (λ a there. frames.size-after s _ (keeps-objects s lawful) a (frames.held-before s _ (keeps-objects s lawful) a there))
      (λ young. let same = same-objects s lawful.order.row.extent run.logged.items listed in
      λ a there. objects.size-same s _ same a (objects.held-before s _ same a there))

  module _ (es ds : List Event) (v v' : View) (trace : IsTracing p es) (holds : Holds p (machine_after p es) v)
      (trace' : IsTracing p (es ++ ds)) (holds' : Holds p (machine_after p (es ++ ds)) v') (pushed : List Grey)
      (more : (x : ℕ) → times x v'.copied ≡ times x (copied_in pushed) + times x v.copied) (tokens : All (IsGrey p v') pushed)
      (tally tally' : Tally) (counts : Counts tally tally' pushed) (was : IsTally s (image (stage_of p es)) v.copied tally) where
    few-blocks : s.blocks ≤ 1024
    few-blocks = subst (λ b. b ≤ 1024) blocks-same trace.ready.lawful.order.row.most

    below : All (λ grey. grey.object < row_words s.blocks) pushed
    below = All-weaker (IsGrey p v') (λ grey. grey.object < row_words s.blocks)
        (λ grey is. subst (λ b. grey.object < row_words b) blocks-same (token-held p (es ++ ds) trace' v' holds' grey is).address.below) pushed tokens

    once : (a : ℕ) → times a v'.copied ≤ 1
    once a = copied-once p (es ++ ds) trace' v' holds' a

    -- objects
    kept-few : total s.blocks (λ a. times a v'.copied) ≤ 2 ^ 32 - 1
    kept-few = let most : total s.blocks (λ a. times a v'.copied) ≤ row_words s.blocks * 1 = total-most s.blocks (λ a. times a v'.copied) 1 once in
        let few : s.blocks ≤ 1024 = few-blocks in omega arith

    kept : tally'.kept ≡ total s.blocks (λ a. times a v'.copied)
    kept = count-next (2 ^ 32 - 1) tally'.kept tally.kept (length pushed) (total s.blocks (λ a. times a v.copied)) (total s.blocks (λ a. times a v'.copied))
        counts.kept was.kept (total-copied s.blocks v.copied v'.copied pushed more below) kept-few

    -- those that moved
    abbrev moves : ℕ → ℕ
    moves a = one_if (not (nat_eq (image (stage_of p es) a) a))

    abbrev moves' : ℕ → ℕ
    moves' a = one_if (not (nat_eq (image (stage_of p (es ++ ds)) a) a))

    moves-same : (a : ℕ) → 0 < times a v.copied → moves' a ≡ moves a
    moves-same a some =
        let has = copied-target p es trace v holds a some in
        let is : image (stage_of p es) a ≡ has.0 = ap address_or_nil has.1 in
        let now : image (stage_of p (es ++ ds)) a ≡ has.0 = ap address_or_nil (target-grows p es ds trace' a has.0 has.1) in
        ap (λ t. one_if (not (nat_eq t a))) (now ∙ sym is)

    token-moves : (grey : Grey) → IsGrey p v' grey → moves' grey.object ≡ one_if (has_moved grey)
    token-moves grey is = ap (λ t. one_if (not (nat_eq t grey.object))) (ap address_or_nil (holds'.known grey.object grey.target is.target))

    moved-all : total s.blocks (λ a. times a v'.copied * moves' a) ≡ count_by has_moved pushed + total s.blocks (λ a. times a v.copied * moves a)
    moved-all =
        let all : total s.blocks (λ a. times a v'.copied * moves' a) ≡ sum_by (λ (grey : Grey). moves' grey.object) pushed + total s.blocks (λ a. times a v.copied * moves' a)
        = total-more s.blocks moves' v.copied v'.copied pushed more below in
        let new : sum_by (λ (grey : Grey). moves' grey.object) pushed ≡ count_by has_moved pushed = sum-equal (λ (grey : Grey). moves' grey.object) (λ grey. one_if (has_moved grey)) pushed
        (All-weaker (IsGrey p v') (λ grey. moves' grey.object ≡ one_if (has_moved grey)) token-moves pushed tokens) in
        let old : total s.blocks (λ a. times a v.copied * moves' a) ≡ total s.blocks (λ a. times a v.copied * moves a)
        = total-same s.blocks (λ a. times a v.copied * moves' a) (λ a. times a v.copied * moves a) (λ a _. product-same (times a v.copied) (moves' a) (moves a) (moves-same a)) in
        omega arith

    moved-few : total s.blocks (λ a. times a v'.copied * moves' a) ≤ 2 ^ 32 - 1
    moved-few = let most : total s.blocks (λ a. times a v'.copied * moves' a) ≤ row_words s.blocks * 1 = total-most s.blocks (λ a. times a v'.copied * moves' a) 1
        (λ a. product-most (times a v'.copied) (moves' a) 1 (once a) (λ _. one-if-few (not (nat_eq (image (stage_of p (es ++ ds)) a) a)))) in
        let few : s.blocks ≤ 1024 = few-blocks in omega arith

    moved : tally'.moved ≡ total s.blocks (λ a. times a v'.copied * moves' a)
    moved = count-next (2 ^ 32 - 1) tally'.moved tally.moved (count_by has_moved pushed) (total s.blocks (λ a. times a v.copied * moves a)) (total s.blocks (λ a. times a v'.copied * moves' a))
        counts.moved was.moved moved-all moved-few

    -- words
    size-few : (a : ℕ) → 0 < times a v'.copied → size_at s a ≤ 61027
    size-few a some =
        let there : IsHeld p.before a = copied-held p (es ++ ds) trace' v' holds' a some in
        let object = (trace.ready.lawful.order.objects.headers a there).object in
        let same : size p a ≡ size_at s a = size-same a there in
        let fields : size p a ≤ 61027 = size-most a object.refs object.nums in
        omega arith
      where
        size-most : (a : ℕ) → refs_at p.before a ≤ 1024 → nums_at p.before a ≤ 60000 → size p a ≤ 61027
        size-most a refs nums = omega arith

    words-all : total s.blocks (λ a. times a v'.copied * size_at s a) ≡ sum_by (λ (grey : Grey). grey.size) pushed + total s.blocks (λ a. times a v.copied * size_at s a)
    words-all =
        let all : total s.blocks (λ a. times a v'.copied * size_at s a) ≡ sum_by (λ (grey : Grey). size_at s grey.object) pushed + total s.blocks (λ a. times a v.copied * size_at s a)
        = total-more s.blocks (size_at s) v.copied v'.copied pushed more below in
        let new : sum_by (λ (grey : Grey). size_at s grey.object) pushed ≡ sum_by (λ (grey : Grey). grey.size) pushed = sum-equal (λ (grey : Grey). size_at s grey.object) (λ grey. grey.size) pushed
        (All-weaker (IsGrey p v') (λ grey. size_at s grey.object ≡ grey.size) (λ grey is. sym (is.size ∙ size-same grey.object (token-held p (es ++ ds) trace' v' holds' grey is))) pushed tokens) in
        omega arith

    words-few : total s.blocks (λ a. times a v'.copied * size_at s a) ≤ 2 ^ 64 - 1
    words-few = let most : total s.blocks (λ a. times a v'.copied * size_at s a) ≤ row_words s.blocks * 61027 = total-most s.blocks (λ a. times a v'.copied * size_at s a) 61027
        (λ a. product-most (times a v'.copied) (size_at s a) 61027 (once a) (size-few a)) in
        let few : s.blocks ≤ 1024 = few-blocks in omega arith

    words : tally'.words ≡ total s.blocks (λ a. times a v'.copied * size_at s a)
    words = count-next (2 ^ 64 - 1) tally'.words tally.words (sum_by (λ (grey : Grey). grey.size) pushed) (total s.blocks (λ a. times a v.copied * size_at s a)) (total s.blocks (λ a. times a v'.copied * size_at s a))
        counts.words was.words words-all words-few

    pub next-tally : IsTally s (image (stage_of p (es ++ ds))) v'.copied tally'
    next-tally = record { kept = kept; moved = moved; words = words }
