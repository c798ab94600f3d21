-- One epoch: its part, and the steps of its stop.
use Rattle.std.proofs.Common.{◌≡◌, ◌≢◌, sym, ◌∙◌, ap, subst, ℕ, zero, suc, ◌+◌, ◌<◌, ◌≤◌, ◌⊎◌, inl, inr, arith, List, length, filter, take}
use Rattle.std.specs.Prelude.{slice_get, Some, None}
use Rattle.std.specs.List.{AllByRecursion}
use Rattle.ideal_heap.specs.Runs.{of_mutator, commands_of, trace_of, IsMutator}
use Rattle.sessions.specs.Plans.{Rules}
use Rattle.sessions.specs.Sessions as sessions
use Rattle.sessions.specs.Sessions.{Setting, Moment, CollectsFor, ServesAll, Meets, IsEpoch, is_at_gc, is_at_need, next_in, traced_mutators}
use Rattle.sessions.proofs.Orders as orders
use Rattle.sessions.proofs.GrowingHistories as growing
use Rattle.block_regions.proofs.Lists.{get-some, get-below}
use Rattle.mm_runtime.specs.declared.progress.Progress.{Progress}
use Rattle.mm_runtime.specs.declared.progress.PartEnd.{PartEnd}
use Rattle.mm_runtime.specs.declared.progress.PartEnd.TheVariants as end
use Rattle.mm_runtime.specs.declared.manager.Manager.{Manager}
use Rattle.mm_runtime.specs.Managers.{replied, StandsAt, Closes, HasEnded}
use Rattle.mm_runtime.specs.Parts.{causes, AreNeeds}
use Rattle.mm_runtime.specs.OpenEpochs.{EndsParts, MakesEpoch}
use Rattle.mm_runtime.specs.declared.manager.Turn.{Turn}
use Rattle.mm_runtime.specs.declared.manager.Turn.TheVariants as turns
use Rattle.mm_runtime.proofs.Tally.{own-entries, entries-are-replies}
use Rattle.mm_runtime.proofs.MeetStops.{trace-is, next-is, as-many}

-- the needs are still those of the manager before the collection
pub needs-kept : (old new : List Progress) (ends : List PartEnd) → ((k : ℕ) → slice_get ends k ≢ Some end.Gc → slice_get new k ≡ slice_get old k)
    → AreNeeds old ends → AreNeeds new ends
needs-kept old new ends others needs k p need is at =
    let other : slice_get ends k ≢ Some end.Gc = λ gc. (let wrong : Some end.Gc ≡ Some (end.Need need) = sym gc ∙ at in cc) in
    needs k p need (sym (others k other) ∙ is) at

module _ {P : Type 0} (rules : Rules) where
  module _ (m : Manager P) (t : Setting) (now : Moment) (at : StandsAt rules m t now) where
    -- each entry is of a mutator, and the entries are the first commands of each trace
    entries-of : AllByRecursion (λ e. IsMutator t.traces e.mutator) now.done
    entries-of = subst (λ ts. AllByRecursion (λ e. IsMutator ts e.mutator) now.done) (sym at.traces) at.replies.mutators

    commands-at : (k : ℕ) (p : Progress) → slice_get m.progress.items k ≡ Some p → commands_of (k + 1) now.done ≡ take (length (of_mutator (k + 1) now.done)) (trace_of t.traces (k + 1))
    commands-at k p is =
        at.replies.commands k p is ∙ ap (λ n. take n p.trace) (sym (own-entries m.progress.items now.done at.replies k p is))
        ∙ ap (λ cs. take (length (of_mutator (k + 1) now.done)) cs) (sym (trace-is rules m t now at k p is))

    commands-are : (j : ℕ) → IsMutator t.traces j → commands_of j now.done ≡ take (length (of_mutator j now.done)) (trace_of t.traces j)
    commands-are zero is = let low : 1 ≤ 0 = is.0 in absurd (omega arith)
    commands-are (suc k) is =
        let many : length t.traces ≡ length m.progress.items = as-many rules m t now at in
        let high : suc k ≤ length t.traces = is.1 in
        let p = get-some m.progress.items k (omega arith) in
        let same : k + 1 ≡ suc k = omega arith in
        subst (λ j. commands_of j now.done ≡ take (length (of_mutator j now.done)) (trace_of t.traces j)) same (commands-at k p.0 p.1)

    -- all traces have ended
    all-ended : ((j : ℕ) → IsMutator t.traces j → next_in t now j ≡ None) → HasEnded m
    all-ended none k p is =
        let many : length t.traces ≡ length m.progress.items = as-many rules m t now at in
        let inside : k < length m.progress.items = get-below m.progress.items k p is in
        sym (next-is rules m t now at k p is) ∙ none (k + 1) (omega arith, omega arith)

  module _ (before stop collected served now : Manager P) (ends gc_ends need_ends : List PartEnd) (gc_same : gc_ends ≡ ends) (need_same : need_ends ≡ ends)
      (run : EndsParts rules before ends stop)
      (gc : (t : Setting) (at : Moment) → StandsAt rules stop t at → (next : Moment) × CollectsFor t (filter (λ m. is_at_gc (causes gc_ends m)) (traced_mutators t)) at next
      × StandsAt rules collected t next)
      (needs : (t : Setting) (at : Moment) → StandsAt rules collected t at → (next : Moment) × ServesAll t (filter (λ m. is_at_need (causes need_ends m)) (traced_mutators t)) at next
      × StandsAt rules served t next)
      (meets : (t : Setting) (at : Moment) → StandsAt rules served t at → (next : Moment) × Meets t at next × StandsAt rules now t next) where
    pub epoch : MakesEpoch rules before now
    epoch t at closes =
        let part = run t at closes in
        let first = gc t part.0 part.2 in
        let second = needs t first.0 first.2 in
        let third = meets t second.0 second.2 in
        let gcs = subst (λ es. CollectsFor t (filter (λ m. is_at_gc (causes es m)) (traced_mutators t)) part.0 first.0) gc_same first.1 in
        let placed = subst (λ es. ServesAll t (filter (λ m. is_at_need (causes es m)) (traced_mutators t)) first.0 second.0) need_same second.1 in
        let whole : IsEpoch t at third.0 = record {
          ends = causes ends;
          stop = part.0;
          part = part.1;
          collected = first.0;
          gc = gcs;
          served = second.0;
          needs = placed;
          meet = third.1;
          prefix = orders.epoch-order t at part.0 first.0 second.0 third.0 (causes ends) closes.session part.1 gcs placed third.1
              (entries-of now t third.0 third.2) (commands-are now t third.0 third.2);
        } in
        (third.0, whole, record { session = sessions.longer at closes.session whole; stands = third.2 })

  -- an epoch makes a reply, unless every command has its reply
  pub goes-on : (before now : Manager P) → MakesEpoch rules before now → (t : Setting) (at : Moment) → Closes rules before t at
      → (replied before.progress.items < replied now.progress.items) ⊎ HasEnded now
  goes-on before now epoch t at closes =
      let next = epoch t at closes in
      let old : length at.done ≡ replied before.progress.items = entries-are-replies before.progress.items at.done closes.stands.replies in
      let new : length next.0.done ≡ replied now.progress.items = entries-are-replies now.progress.items next.0.done next.2.stands.replies in
      elim (growing.epoch-grows t at next.0 next.1) as (λ _. (replied before.progress.items < replied now.progress.items) ⊎ HasEnded now) [
        | inl more ↦ inl (omega arith)
        | inr none ↦ inr (all-ended now t next.0 next.2.stands none)
      ]

  pub goes-on-more : (before now : Manager P) (turn : Turn) → MakesEpoch rules before now → (t : Setting) (at : Moment) → Closes rules before t at
      → (HasEnded now → turn ≡ turns.Ended) → turn ≡ turns.More → replied before.progress.items < replied now.progress.items
  goes-on-more before now turn epoch t at closes ended more = elim (goes-on before now epoch t at closes) as (λ _. replied before.progress.items < replied now.progress.items) [
    | inl less ↦ less
    | inr all ↦ (let wrong : turns.More ≡ turns.Ended = sym more ∙ ended all in cc)
  ]
