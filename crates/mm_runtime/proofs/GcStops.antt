-- A stop's collection for the mutators at `gc`, and the replies to them.
use Rattle.std.proofs.Common.{◌≡◌, ◌≢◌, refl, sym, ◌∙◌, ap, subst, ℕ, ◌+◌, ◌*◌, ◌<◌, ◌≤◌, arith, true, List, length, filter, Vec}
use Rattle.std.specs.Prelude.{slice_get, Some}
use Rattle.std.specs.List.{range_with_len}
use Rattle.std.specs.declared.alloc.Global.{Global}
use Rattle.std.proofs.lemmas.List.{length-map}
use Rattle.ideal_heap.specs.declared.command.Command.TheVariants as c
use Rattle.object_model.specs.declared.collect.Collect.TheVariants.{Full}
use Rattle.sessions.specs.Plans.{Rules}
use Rattle.sessions.specs.Sessions.{Setting, Moment, CollectsFor, is_at_gc, traced_mutators, ideal_at}
use Rattle.sessions.proofs.Soundness as soundness
use Rattle.block_regions.proofs.Lists.{get-below}
use Rattle.collector.specs.declared.outcome.Note.{Note}
use Rattle.managed_heap.specs.declared.stopped_heap.StoppedHeap.{StoppedHeap}
use Rattle.managed_heap.specs.Stopped.{HasCollected}
use Rattle.mm_runtime.specs.declared.progress.Progress.{Progress}
use Rattle.mm_runtime.specs.declared.progress.PartEnd.{PartEnd}
use Rattle.mm_runtime.specs.declared.progress.PartEnd.TheVariants as end
use Rattle.mm_runtime.specs.declared.manager.Manager.{Manager}
use Rattle.mm_runtime.specs.Managers.{next_in_trace, replied, IsInOrder, IsAtStop, StandsAt}
use Rattle.mm_runtime.specs.Parts.{causes, AreGcs}
use Rattle.mm_runtime.specs.Replying.{is_gc_at, HasGc, RepliesBelow}
use Rattle.mm_runtime.proofs.OkSteps as replies
use Rattle.mm_runtime.proofs.Oks as oks
use Rattle.mm_runtime.proofs.Collected as collected
use Rattle.mm_runtime.proofs.Gcs as gcs

module _ {P : Type 0} (rules : Rules) (ends : List PartEnd) where
  -- no mutator is at `gc`
  pub nothing : (m : Manager P) → (HasGc ends → ⊥) → (t : Setting) (now : Moment) → StandsAt rules m t now
      → (mid : Moment) × CollectsFor t (filter (λ m. is_at_gc (causes ends m)) (traced_mutators t)) now mid × StandsAt rules m t mid
  nothing m none t now at = (now, subst (λ ms. CollectsFor t ms now now) (sym (gcs.none-at-gc ends (length t.traces) none)) refl, at)

  module _ (old : Manager P) (h : StoppedHeap P) (note : Note) (v : Vec Progress Global) (made : HasCollected rules Full old.heap h note) (at_gc : AreGcs old.progress.items ends)
      (so : RepliesBelow (is_gc_at ends) (length old.progress.items) old.progress.items v.items) (some : HasGc ends)
      (as_many : length ends ≡ length old.progress.items) where
    asks : (k : ℕ) (p : Progress) → slice_get old.progress.items k ≡ Some p → is_gc_at ends k ≡ true → next_in_trace p ≡ Some c.Gc
    asks k p is chosen = at_gc k p is (gcs.at-gc ends k chosen)

    abbrev mid : Manager P
    mid = collected.after rules old h note made

    inside : some.0 < length old.progress.items
    inside = let below : some.0 < length ends = get-below ends some.0 end.Gc some.1 in omega arith

    is-chosen : is_gc_at ends some.0 ≡ true
    is-chosen = ap (λ o. replies.is-gc o) some.1

    pub in-order : IsAtStop rules 0 old → IsInOrder rules 0 (record mid { progress = v })
    in-order stop =
        let order : IsInOrder rules 1 mid = collected.in-order rules old h note made stop.order in
        let at = collected.stands rules old h note made stop.setting stop.now stop.stands in
        let more : replied old.progress.items < replied v.items =
        oks.replied-more rules mid v (is_gc_at ends) so c.Gc (λ m. is_at_gc (causes ends m)) (λ k below. gcs.at-place ends k) asks _ at.replies some.0 inside is-chosen in
        let few : h.nursery + h.full ≤ 2 * replied old.progress.items + 1 = order.collections in
        oks.in-order rules mid v (is_gc_at ends) so 1 0 order (omega arith)

    pub replied-kept : IsAtStop rules 0 old → replied old.progress.items ≤ replied v.items
    replied-kept stop =
        let at = collected.stands rules old h note made stop.setting stop.now stop.stands in
        oks.replied-kept rules mid v (is_gc_at ends) so c.Gc (λ m. is_at_gc (causes ends m)) (λ k below. gcs.at-place ends k) asks _ at.replies

    pub others : (k : ℕ) → slice_get ends k ≢ Some end.Gc → slice_get v.items k ≡ slice_get old.progress.items k
    others k other = replies.unchosen (is_gc_at ends) old.progress.items v.items so k (replies.not-gc (slice_get ends k) other)

    pub for-gcs : (t : Setting) (now : Moment) → StandsAt rules old t now
        → (next : Moment) × CollectsFor t (filter (λ m. is_at_gc (causes ends m)) (traced_mutators t)) now next × StandsAt rules (record mid { progress = v }) t next
    for-gcs t now before =
        let at = collected.stands rules old h note made t now before in
        let ms : List ℕ = filter (λ m. is_at_gc (causes ends m)) (traced_mutators t) in
        let then = oks.stands rules mid v (is_gc_at ends) so c.Gc (λ m. is_at_gc (causes ends m)) (λ k below. gcs.at-place ends k) asks t (collected.late rules old h note made now) at
        (soundness.gcs-run (ideal_at (collected.late rules old h note made now)) ms) (soundness.all-gc (ideal_at (collected.late rules old h note made now)) ms) in
        let many : length t.traces ≡ length old.progress.items = ap length at.traces ∙ length-map old.progress.items (λ p. p.trace) in
        let one = oks.picks-one rules mid v (is_gc_at ends) so c.Gc (λ m. is_at_gc (causes ends m)) (λ k below. gcs.at-place ends k) asks some.0 inside is-chosen in
        (_, collected.for-some rules old h note made t ms one.0 one.1 now _ (ap (λ n. filter (λ m. is_at_gc (causes ends m)) (range_with_len 1 n)) many ∙ one.2) before then.0, then.1)
