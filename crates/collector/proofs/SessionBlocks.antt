-- The blocks of a heap in a session, under a plan that holds back copies: each is Free, of a large object, or of a kind that a full collection evacuates.
use Rattle.std.proofs.Common.{◌≡◌, ◌≢◌, sym, ◌∙◌, ap, ap₂, subst, ℕ, ◌+◌, ◌-◌, ◌%◌, ◌<◌, ◌≤◌, ◌⊎◌, inl, inr, arith, Bool, true, false, ◌&&◌, ◌||◌, IsTrue, nat_lt, nat_eq, List, [], ◌∷◌, true≢false}
use Rattle.std.proofs.lemmas.Bool.{cases_eq, cases_lt, cases_Bool, or_left, or_right}
use Rattle.heap_layout.specs.Blocks.{kind_code, code_of}
use Rattle.heap_layout.specs.Zones.{block_at}
use Rattle.heap_layout.specs.declared.block.Kind.{Kind}
use Rattle.heap_layout.specs.declared.block.Kind.TheVariants as kinds
use Rattle.heap_layout.proofs.BlockLemmas.{kind_code_most}
use Rattle.object_model.specs.declared.collect.Collect.{Collect}
use Rattle.object_model.specs.declared.collect.Collect.TheVariants.{Nursery, Full}
use Rattle.object_model.specs.Objects.{HeapState, has_kind, HasKind, block_word, size_of, blocks_for}
use Rattle.object_model.specs.Graphs.{roots_of}
use Rattle.object_model.proofs.OneKind.{kind-from}
use Rattle.sessions.specs.Plans.{Rules, Plan, rules_of, Copies}
use Rattle.sessions.specs.Fitting.{class_for}
use Rattle.sessions.specs.Collecting.{Collects, CollectsIf, IsEmptied, is_evacuated, is_evacuated_by}
use Rattle.sessions.specs.Sessions.{Setting, Moment, MakesCollection, RunsPart, Places, UsesBlock, UsesRun, FirstTry, ServesNeed, ServesAll, CollectsFor, MeetsIf, InSession, begun, longer, at_once, after_nursery, after_full, refused, block_of_kind, Cause}
use Rattle.sessions.proofs.EmptyHeapFits.{is-free}
use Rattle.plan_api.proofs.EvacuationLaws.{immix-kept}
use Rattle.collector.specs.Collected.{EvacuatesAll}
use Rattle.collector.proofs.EvacuatedKinds.{copied-kind}

-- a block with this code has this kind
coded : (s : HeapState) (k class : ℕ) (kind : Kind) → k < s.blocks → block_word s k ≡ code_of (block_of_kind kind class) → HasKind s k kind
coded s k class kind there word =
    let few : kind_code kind ≤ 8 = kind_code_most kind in
    let code : code_of (block_of_kind kind class) % 256 ≡ kind_code kind = omega arith in
    kind-from s k kind there (ap (λ w. w % 256) word ∙ code)

module _ (q : Plan) (copies : (rules_of q).reserve ≡ Copies) where
  abbrev r : Rules
  r = rules_of q

  abbrev All : HeapState → Type 0
  All s = EvacuatesAll r Full s

  abbrev One : HeapState → ℕ → Type 0
  One s k = HasKind s k kinds.Free ⊎ (IsTrue (has_kind s k kinds.LargeHead || has_kind s k kinds.LargeTail) ⊎ IsTrue (is_evacuated r Full s k))

  copied : (s : HeapState) (k : ℕ) → IsTrue (has_kind s k r.fill || has_kind s k r.copy || has_kind s k kinds.Kept) → One s k
  copied s k is = inr (inr (subst (λ reserve. IsTrue (is_evacuated_by reserve r Full s k)) (sym copies) is))

  filled : (s : HeapState) (k : ℕ) → HasKind s k r.fill → One s k
  filled s k is = copied s k (or_left _ _ (or_left _ _ is))

  traced : (s : HeapState) (k : ℕ) → HasKind s k r.copy → One s k
  traced s k is = copied s k (or_left _ _ (or_right (has_kind s k r.fill) (has_kind s k r.copy) is))

  kept : (s : HeapState) (k : ℕ) → HasKind s k kinds.Kept → One s k
  kept s k is = copied s k (or_right (has_kind s k r.fill || has_kind s k r.copy) (has_kind s k kinds.Kept) is)

  -- it goes by the block's word
  module _ (old new : HeapState) (k : ℕ) (blocks : new.blocks ≡ old.blocks) (word : block_word new k ≡ block_word old k) where
    same-kind : (kind : Kind) → has_kind new k kind ≡ has_kind old k kind
    same-kind kind = ap₂ (λ b w. nat_lt k b && nat_eq (w % 256) (kind_code kind)) blocks word

    by-reserve : (is_evacuated r Full old k) ≡ (is_evacuated r Full new k)
    by-reserve = subst (λ reserve. is_evacuated_by reserve r Full old k ≡ is_evacuated_by reserve r Full new k) (sym copies)
        (ap₂ (λ a b. a || b) (ap₂ (λ a b. a || b) (sym (same-kind r.fill)) (sym (same-kind r.copy))) (sym (same-kind kinds.Kept)))

    same : One old k → One new k
    same (inl free) = inl (same-kind kinds.Free ∙ free)
    same (inr (inl large)) = inr (inl (ap₂ (λ a b. a || b) (same-kind kinds.LargeHead) (same-kind kinds.LargeTail) ∙ large))
    same (inr (inr from)) = inr (inr (sym by-reserve ∙ from))

  -- a collection
  module _ (w : ℕ) (c : Collect) (s new : HeapState) (roots roots' : List ℕ) (made : Collects r w c s roots new roots') (was : All s) (k : ℕ) (there : k < s.blocks) where
    used : (IsEmptied new k → ⊥) → One new k
    used full = elim (cases_Bool (has_kind s k kinds.Free)) as (λ _. One new k) [
      | inl free ↦ traced new k ((made.block k there).taken full free)
      | inr used-before ↦ (let some : HasKind s k kinds.Free → ⊥ = λ free. true≢false (sym free ∙ used-before) in
          elim (cases_Bool (is_evacuated r c s k)) as (λ _. One new k) [
            | inl from ↦ kept new k ((made.block k there).kept full from (λ immix. immix-kept s k immix (copied-kind s k q c copies from)) some)
            | inr not ↦ same s new k made.layout ((made.block k there).others full some (λ from. absurd (true≢false (sym from ∙ not)))) (was k there)
          ])
    ]

    collected-one : One new k
    collected-one = elim (cases_Bool (has_kind new k kinds.Free)) as (λ _. One new k) [
      | inl free ↦ inl free
      | inr none ↦ used (λ empty. true≢false (sym ((made.block k there).emptied empty) ∙ none))
    ]

  collected-if : (b : Bool) (w : ℕ) (c : Collect) (s new : HeapState) (roots roots' : List ℕ) → CollectsIf b r w c s roots new roots' → All s → All new
  collected-if true w c s new roots roots' made was = λ k below. collected-one w c s new roots roots' made was k (subst (λ b. k < b) made.layout below)
  collected-if false w c s new roots roots' made was = λ k below.
      let blocks : new.blocks ≡ s.blocks = ap (λ (x : HeapState). x.blocks) made.heap in
      let word : block_word new k ≡ block_word s k = ap (λ (x : HeapState). block_word x k) made.heap in
      same s new k blocks word (was k (subst (λ b. k < b) blocks below))

  -- a placement
  placed-small : (old new : HeapState) (at size : ℕ) → new.blocks ≡ old.blocks → UsesBlock r old new at size → All old → All new
  placed-small old new at size blocks uses was k below =
      let there : k < old.blocks = subst (λ b. k < b) blocks below in
      elim (cases_eq k at) as (λ _. One new k) [
        | inl here ↦ subst (One new) (sym here) (here-one (subst (λ n. n < old.blocks) here there))
        | inr other ↦ same old new k blocks (uses.others k there other) (was k there)
      ]
    where
      here-one : at < old.blocks → One new at
      here-one there = elim (cases_Bool (has_kind old at kinds.Free)) as (λ _. One new at) [
        | inl free ↦ filled new at (coded new at (class_for r.fill size) r.fill (subst (λ b. at < b) (sym blocks) there) (uses.free free))
        | inr used-before ↦ same old new at blocks (uses.hole (λ free. true≢false (sym free ∙ used-before))) (was at there)
      ]

  placed-large : (old new : HeapState) (at n : ℕ) → new.blocks ≡ old.blocks → UsesRun old new at n → All old → All new
  placed-large old new at n blocks uses was k below =
      let there : k < old.blocks = subst (λ b. k < b) blocks below in
      elim (cases_lt k at) as (λ _. One new k) [
        | inl before ↦ same old new k blocks (uses.others k there (inl before)) (was k there)
        | inr from ↦ elim (cases_eq k at) as (λ _. One new k) [
          | inl here ↦ inr (inl (or_left (has_kind new k kinds.LargeHead) (has_kind new k kinds.LargeTail) (coded new k n kinds.LargeHead below (ap (block_word new) here ∙ uses.head))))
          | inr other ↦ elim (cases_lt k (at + n)) as (λ _. One new k) [
            | inl inside ↦ (let j : ℕ = k - at in
                let past : k ≢ at = other in
                let e : at + j ≡ k = omega arith in
                inr (inl (or_right (has_kind new k kinds.LargeHead) (has_kind new k kinds.LargeTail)
                (coded new k 0 kinds.LargeTail below (ap (block_word new) (sym e) ∙ uses.tails j (omega arith) (omega arith))))))
            | inr behind ↦ same old new k blocks (uses.others k there (inr behind)) (was k there)
          ]
        ]
      ]

  -- steps of a session
  module _ (t : Setting) (rules : t.rules ≡ r) where
    pub part : (before now : Moment) (ends : ℕ → Cause) → RunsPart t before ends now → All before.heap → All now.heap
    part before now ends runs was k below =
        let there : k < before.heap.blocks = subst (λ b. k < b) runs.stopped.blocks below in
        elim (runs.stopped.in_block k there) as (λ _. One now.heap k) [
          | inl taken ↦ filled now.heap k (subst (λ (x : Rules). HasKind now.heap k x.fill) rules taken.1)
          | inr word ↦ same before.heap now.heap k runs.stopped.blocks word (was k there)
        ]

    pub collection : (c : Collect) (before now : Moment) → MakesCollection t c before now → All before.heap → All now.heap
    collection c before now made = collected-if r.collects t.workers c before.heap now.heap (roots_of before.mutators) (roots_of now.mutators)
        (subst (λ (x : Rules). CollectsIf x.collects x t.workers c before.heap (roots_of before.mutators) now.heap (roots_of now.mutators)) rules made.collection)

    pub placement : (m d refs nums : ℕ) (before now : Moment) → Places t m d refs nums before now → All before.heap → All now.heap
    placement m d refs nums before now places was = elim (cases_lt 2048 (size_of refs nums)) as (λ _. All now.heap) [
      | inl large ↦ placed-large before.heap now.heap (block_at before.heap.blocks places.place) (blocks_for (size_of refs nums)) places.layout.0 (places.large large).1 was
      | inr small ↦ placed-small before.heap now.heap (block_at before.heap.blocks places.place) (size_of refs nums) places.layout.0
          (subst (λ (x : Rules). UsesBlock x before.heap now.heap (block_at before.heap.blocks places.place) (size_of refs nums)) rules (places.small small).1) was
    ]

    replies : (before now : Moment) → now.heap ≡ before.heap → All before.heap → All now.heap
    replies before now same was = subst All (sym same) was

    collects-for : (ms : List ℕ) (before now : Moment) → CollectsFor t ms before now → All before.heap → All now.heap
    collects-for [] before now is was = replies before now (ap (λ (x : Moment). x.heap) is) was
    collects-for (m ∷ ms) before now is was = replies is.0 now (ap (λ (x : Moment). x.heap) is.2.rest) (collection Full before is.0 is.1 was)

    first-try : (size : ℕ) (c : Collect) (before now : Moment) → FirstTry t size c before now → All before.heap → All now.heap
    first-try size Full before now is was = replies before now (ap (λ (x : Moment). x.heap) is) was
    first-try size Nursery before now is was = collection Nursery before now is.0 was

    serves : (m d refs nums : ℕ) (before now : Moment) → ServesNeed t m d refs nums before now → All before.heap → All now.heap
    serves m d refs nums before now (at_once places) was = placement m d refs nums before now places was
    serves m d refs nums before now (after_nursery mid tight young made places) was = placement m d refs nums mid now places (collection Nursery before mid made was)
    serves m d refs nums before now (after_full mid late tight first made places) was = placement m d refs nums late now places (collection Full mid late made (first-try _ _ before mid first was))
    serves m d refs nums before now (refused mid late tight first made still replied) was =
        replies late now (ap (λ (x : Moment). x.heap) replied.rest) (collection Full mid late made (first-try _ _ before mid first was))

    serves-all : (ms : List ℕ) (before now : Moment) → ServesAll t ms before now → All before.heap → All now.heap
    serves-all [] before now is was = replies before now (ap (λ (x : Moment). x.heap) is) was
    serves-all (m ∷ ms) before now (d, refs, nums, mid, need, served, rest) was = serves-all ms mid now rest (serves m d refs nums before mid served was)

    meets : (b : Bool) (ms : List ℕ) (before now : Moment) → MeetsIf b ms before now → All before.heap → All now.heap
    meets true ms before now is was = replies before now (ap (λ (x : Moment). x.heap) is.rest) was
    meets false ms before now is was = replies before now (ap (λ (x : Moment). x.heap) is) was

    pub session : (now : Moment) → InSession t now → All now.heap
    session now begun = λ k below. inl (is-free t.blocks k below)
    session now (longer before reached epoch) =
        let at-stop : All epoch.stop.heap = part before epoch.stop epoch.ends epoch.part (session before reached) in
        let at-gc : All epoch.collected.heap = collects-for _ epoch.stop epoch.collected epoch.gc at-stop in
        meets _ _ epoch.served now epoch.meet (serves-all _ epoch.collected epoch.served epoch.needs at-gc)
