-- Where an object is to be placed.
use Rattle.std.proofs.Common.{◌≡◌, refl, sym, subst, subst₂, ℕ, ◌+◌, ◌<◌, ◌≤◌, inl, inr, arith, Bool, true, false, List}
use Rattle.std.specs.Prelude.{MatchBool}
use Rattle.std.proofs.lemmas.Bool.{ne_eqb}
use Rattle.heap_layout.specs.declared.layout.Layout.{Layout}
use Rattle.heap_layout.specs.declared.block.Kind.{Kind}
use Rattle.heap_layout.specs.declared.block.Kind.TheVariants as kinds
use Rattle.object_model.specs.Objects.{HeapState, HasKind, state_over, blocks_for}
use Rattle.object_model.proofs.OneKind.{kind-within}
use Rattle.sessions.specs.Plans.{Rules, Reserve}
use Rattle.sessions.specs.Grants.{BlockCounts, IsGrantable, IsRunGrantable, reserve_in, reserve_per_block}
use Rattle.sessions.specs.Fitting.{Fits, HasSomeHole, MayGrant, MayGrantRun, IsFreeRun, counts_of, free_of}
use Rattle.sessions.proofs.PlacedSmallObjects.{free-none}
use Rattle.sessions.proofs.WorkedFits.{from-small, to-small, from-large, to-large}
use Rattle.large_space.specs.FreeRuns.{IsFirstRun, HasNoRun}
use Rattle.plan_api.proofs.BlockViews.{state-same}
use Rattle.block_regions.specs.Notes.{IsLowestHole}
use Rattle.managed_heap.specs.Spots.{IsPlaceIn, IsRunAt, IsSpot}
use Rattle.sessions.proofs.HoleRooms.{hole-kind, hole-not-free}

-- the lowest hole with room
pub hole-spot : (rules : Rules) (fill : Kind) (s : HeapState) (k at size : ℕ) → fill ≡ rules.fill → size ≤ 2048 → IsLowestHole fill s k at size
    → IsSpot rules s size (record { block = k; offset = at; free = false; run = 0 })
hole-spot rules fill s k at size is small found =
    let lowest : IsLowestHole rules.fill s k at size = subst (λ (q : Kind). IsLowestHole q s k at size) is found in record {
      fits = from-small rules s size small (inl (record { block = k; offset = at; hole = lowest.hole }));
      place = record {
        small = small;
        inside = kind-within s k rules.fill (hole-kind rules.fill s k at size lowest.hole);
        spot_is = lowest.hole;
        lowest = lowest.lowest;
        lowest_free = λ free. absurd (hole-not-free rules.fill s k at size lowest.hole free);
      };
    }

-- the lowest Free block, if there is no hole with room and one may be granted
pub free-spot : (rules : Rules) (fill : Kind) (s : HeapState) (k size : ℕ) → fill ≡ rules.fill → size ≤ 2048 → (HasSomeHole fill s size → ⊥)
    → MayGrant rules.reserve s → HasKind s k kinds.Free → ((j : ℕ) → HasKind s j kinds.Free → k ≤ j) → IsSpot rules s size (record { block = k; offset = 0; free = true; run = 0 })
free-spot rules fill s k size is small none grant free least =
    let no_hole : HasSomeHole rules.fill s size → ⊥ = subst (λ (q : Kind). HasSomeHole q s size → ⊥) is none in record {
      fits = from-small rules s size small (inr grant);
      place = record {
        small = small;
        inside = kind-within s k kinds.Free free;
        spot_is = (free, refl, no_hole);
        lowest = λ j from hole. absurd (no_hole (record { block = j; offset = from; hole = hole }));
        lowest_free = λ _. least;
      };
    }

-- no hole with room, and no block may be granted
pub no-grant : (rules : Rules) (fill : Kind) (s : HeapState) (size : ℕ) → fill ≡ rules.fill → size ≤ 2048 → (HasSomeHole fill s size → ⊥)
    → (MayGrant rules.reserve s → ⊥) → Fits rules s size → ⊥
no-grant rules fill s size is small none refused fits =
    elim (to-small rules s size small fits) as (λ _. ⊥) [
      | inl hole ↦ none (subst (λ (q : Kind). HasSomeHole q s size) (sym is) hole)
      | inr grant ↦ refused grant
    ]

-- where no block is Free, none may be granted
pub no-free : (rules : Rules) (s : HeapState) → ((k : ℕ) → HasKind s k kinds.Free → ⊥) → MayGrant rules.reserve s → ⊥
no-free rules s no_free grant =
    let zero : free_of s ≡ 0 = free-none s (λ k there. no_free k) in
    let some : reserve_in rules.reserve (counts_of s) + reserve_per_block rules.reserve < free_of s = grant in
    omega arith

-- what the counts of the notes say of a grant
pub granted : (rules : Rules) (reserve : Reserve) (counts : BlockCounts) (s : HeapState) → reserve ≡ rules.reserve → counts ≡ counts_of s → MayGrant rules.reserve s → IsGrantable reserve counts
granted rules reserve counts s same are grant = subst₂ IsGrantable (sym same) (sym are) grant

pub granted-back : (rules : Rules) (reserve : Reserve) (counts : BlockCounts) (s : HeapState) → reserve ≡ rules.reserve → counts ≡ counts_of s → IsGrantable reserve counts → MayGrant rules.reserve s
granted-back rules reserve counts s same are grant = subst₂ IsGrantable same are grant

-- the lowest run of as many Free blocks as a large object needs, if it may be granted
pub run-spot : (rules : Rules) (s : HeapState) (k n size : ℕ) → 2048 < size → n ≡ blocks_for size → MayGrantRun rules.reserve s (blocks_for size) → IsFirstRun s k n
    → IsSpot rules s size (record { block = k; offset = 0; free = true; run = n })
run-spot rules s k n size large count grant first = record {
  fits = from-large rules s size large (record { granted = grant; block = k; run = subst (λ (m : ℕ). IsFreeRun s k m) count first.run });
  place = subst (λ (b : Bool). MatchBool b (IsPlaceIn rules.fill s size (record { block = k; offset = 0; free = true; run = n })) (IsRunAt s size (record { block = k; offset = 0; free = true; run = n })))
      (sym (ne_eqb n 0 (λ none. omega arith))) (record { large = large; count = count; start = refl; run = first });
}

-- there is no run
pub no-run : (rules : Rules) (s : HeapState) (n size : ℕ) → 2048 < size → n ≡ blocks_for size → HasNoRun s n → Fits rules s size → ⊥
no-run rules s n size large count none fits =
    let run = to-large rules s size large fits in
    none run.block (subst (λ (m : ℕ). IsFreeRun s run.block m) (sym count) run.run)

-- what the counts of the notes say of a grant of a run
pub run-granted-back : (rules : Rules) (reserve : Reserve) (counts : BlockCounts) (s : HeapState) (n m : ℕ) → reserve ≡ rules.reserve → counts ≡ counts_of s → n ≡ m
    → IsRunGrantable reserve counts n → MayGrantRun rules.reserve s m
run-granted-back rules reserve counts s n m same are count grant =
    subst (λ (x : ℕ). IsRunGrantable rules.reserve (counts_of s) x) count (subst₂ (λ (r : Reserve) (c : BlockCounts). IsRunGrantable r c n) same are grant)

-- whether there is a run does not depend on the collection numbers
first-anyway : (words : List ℕ) (l : Layout) (number base k n : ℕ) → IsFirstRun (state_over words l 0 0) k n → IsFirstRun (state_over words l number base) k n
first-anyway words l number base k n is = record {
  run = record { inside = is.run.inside; free = is.run.free };
  first = λ j other. is.first j (record { inside = other.inside; free = other.free });
}

pub first-in : (s : HeapState) (words : List ℕ) (l : Layout) (k n : ℕ) → words ≡ s.words → l.blocks ≡ s.blocks → IsFirstRun (state_over words l 0 0) k n → IsFirstRun s k n
first-in s words l k n same layout is =
    subst (λ (x : HeapState). IsFirstRun x k n) (sym (state-same s words l same layout)) (first-anyway words l s.number s.base k n is)

pub none-in : (s : HeapState) (words : List ℕ) (l : Layout) (n : ℕ) → words ≡ s.words → l.blocks ≡ s.blocks → HasNoRun (state_over words l 0 0) n → HasNoRun s n
none-in s words l n same layout none =
    subst (λ (x : HeapState). HasNoRun x n) (sym (state-same s words l same layout)) (λ k run. none k (record { inside = run.inside; free = run.free }))
