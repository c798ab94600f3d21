-- The heap after a large object was written in a run of Free blocks, and after an object of any size was written at its spot.
use Rattle.std.proofs.Common.{◌≡◌, ◌≢◌, sym, ◌∙◌, ap, subst, ℕ, ◌+◌, ◌*◌, ◌/◌, ◌%◌, ◌<◌, ◌≤◌, inl, inr, arith, Bool, true, false, IsTrue, nat_eq}
use Rattle.std.specs.Prelude.{MatchBool}
use Rattle.std.specs.Int.{bit_at}
use Rattle.std.proofs.lemmas.Bool.{eq-eqb}
use Rattle.std.proofs.lemmas.Bool.Decides.{eqb_tells}
use Rattle.heap_layout.specs.Zones.{LineWords, first as first_of, block_at, block_start}
use Rattle.heap_layout.specs.declared.block.Kind.{Kind}
use Rattle.ideal_heap.specs.declared.name.Name.{Name}
use Rattle.ideal_heap.specs.Names.{IsName, name_of}
use Rattle.ideal_heap.proofs.NameLemmas.{name-code}
use Rattle.ideal_heap.specs.Ideal.{with_new}
use Rattle.object_model.specs.Objects.{HeapState, with_words, line_marked, IsHeld, name_at, size_of, blocks_for}
use Rattle.object_model.specs.Lawful.{IsLawful, IsReadableBlock}
use Rattle.object_model.specs.Births.{IsLargeRoom, MakesRun}
use Rattle.object_model.specs.Graphs.{Represents, add_birth, set_register_of}
use Rattle.object_model.specs.Changes.{WritesObject}
use Rattle.object_model.proofs.Births as births
use Rattle.object_model.proofs.BornHeaps as born
use Rattle.object_model.proofs.LargeBirths as large
use Rattle.block_sweeps.specs.Sweeping.{AreApart}
use Rattle.sessions.specs.Plans.{Rules}
use Rattle.sessions.specs.Fitting.{IsFreeRun}
use Rattle.sessions.specs.Sessions.{PlacesLarge, AddsObject}
use Rattle.sessions.proofs.PlacedLargeObjects as placing
use Rattle.large_space.specs.FreeRuns.{IsFirstRun}
use Rattle.managed_heap.specs.declared.spot.Spot.{Spot}
use Rattle.plan_api.specs.Relisting.{Relists}
use Rattle.block_regions.specs.Notes.{FillsHoles}
use Rattle.managed_heap.specs.Spots.{IsPlaceIn, IsRunAt, IsPlaceForSize, TakesSpotBlock, TakesSpot, RelistsSpot}
use Rattle.managed_heap.proofs.Rooms.{FillsByLines}
use Rattle.managed_heap.proofs.Written.{address_of, IsBorn, born-small, readable-small}

-- the lowest run of as many Free blocks as the size needs
pub run-of : (s : HeapState) (size : ℕ) (spot : Spot) → IsRunAt s size spot → IsFirstRun s spot.block (blocks_for size)
run-of s size spot is = subst (λ (c : ℕ). IsFirstRun s spot.block c) is.count is.run

-- a spot, by whether it has a run
pub by-run : (fill : Kind) (s : HeapState) (size : ℕ) (spot : Spot) (M : Type 0) → IsPlaceForSize fill s size spot
    → (spot.run ≡ 0 → IsPlaceIn fill s size spot → M) → (spot.run ≢ 0 → IsRunAt s size spot → M) → M
by-run fill s size spot M is small large = elim (eqb_tells spot.run 0) as (λ _. M) [
  | inl e ↦ small e.1 (subst (λ (b : Bool). MatchBool b (IsPlaceIn fill s size spot) (IsRunAt s size spot)) e.0 is)
  | inr e ↦ large e.1 (subst (λ (b : Bool). MatchBool b (IsPlaceIn fill s size spot) (IsRunAt s size spot)) e.0 is)
]

module _ (rules : Rules) (s between new : HeapState) (spot : Spot) (n : Name) (refs nums : ℕ) (lawful : IsLawful s) (is : IsRunAt s (size_of refs nums) spot)
    (makes : MakesRun s between spot.block spot.run) (writes : WritesObject between new (address_of s spot) n refs nums) (few_refs : refs ≤ 1024) (few_nums : nums ≤ 60000) (named : IsName n)
    (fresh : (x : ℕ) → IsHeld s x → name_at s x ≢ n) where
  abbrev k : ℕ
  k = spot.block

  first : IsFirstRun s k (blocks_for (size_of refs nums))
  first = run-of s (size_of refs nums) spot is

  start : address_of s spot ≡ block_start s.blocks k
  start = (let zero : spot.offset ≡ 0 = is.start in omega arith)

  block : block_at s.blocks (address_of s spot) ≡ k
  block = (let zero : spot.offset ≡ 0 = is.start in omega arith)

  room : IsLargeRoom s k n refs nums
  room = record {
    named = named;
    few_refs = few_refs;
    few_nums = few_nums;
    large = is.large;
    inside = first.run.inside;
    free = first.run.free;
    clear = λ j less. lawful.but_lines.free (k + j) (first.run.free j less);
    fresh = fresh;
  }

  makes-run : MakesRun s between k (blocks_for (size_of refs nums))
  makes-run = subst (λ (c : ℕ). MakesRun s between k c) is.count makes

  writes-start : WritesObject between new (block_start s.blocks k) n refs nums
  writes-start = subst (λ (a : ℕ). WritesObject between new a n refs nums) start writes

  -- what holds at the start of the run holds at the address of the spot
  at-start : (P : ℕ → Type 0) → P (block_start s.blocks k) → P (address_of s spot)
  at-start P = subst P (sym start)

  places : PlacesLarge s (block_start s.blocks k) (size_of refs nums)
  places =
      let here : block_at s.blocks (block_start s.blocks k) ≡ k = omega arith in
      record {
        start = omega arith;
        run = subst (λ (q : ℕ). IsFreeRun s q (blocks_for (size_of refs nums))) (sym here) first.run;
        lowest = λ j run. let least : k ≤ j = first.first j run in omega arith;
      }

  -- no line bit changes
  lines : (j line : ℕ) → j < s.blocks → line < 256 → IsTrue (line_marked s j line) → IsTrue (line_marked new j line)
  lines j line there small set =
      let order = lawful.but_lines.order in
      let makes' = born.makes-in s between new k refs nums n order room makes-run writes-start in
      let writes' = born.writes-in s between new k refs nums n order room makes-run writes-start in
      let from = born.from s between new k refs nums n order room makes-run writes-start in
      born.in-layout (λ (x : HeapState). IsTrue (line_marked x j line)) s new from.blocks from.number from.base
      (births.lines-same (with_words s between.words) new.words (block_start s.blocks k) n refs nums writes' (large.address s between.words new.words k n refs nums order room makes' writes') j line there small
      ∙ ap (λ word. nat_eq (bit_at word ((256 * j + line) % 64)) 1) (makes'.others (first_of s.blocks LineWords + (256 * j + line) / 64) (inr (let inside = first.run.inside in omega arith))) ∙ set)

  lawful-new : IsLawful new
  lawful-new = born.lawful-large s between new k refs nums n lawful.but_lines.order room makes-run writes-start lawful

  pub born-large : IsBorn rules s spot n refs nums new
  born-large = record {
    block = block;
    object = at-start (λ (a : ℕ). AddsObject s new a refs nums) (placing.placed-adds s between new k refs nums n lawful.but_lines.order room makes-run writes-start);
    small = λ small. absurd (let large : 2048 < size_of refs nums = is.large in omega arith);
    large = λ _. (
      at-start (λ (a : ℕ). PlacesLarge s a (size_of refs nums)) places,
      placing.placed-uses s between new k refs nums n lawful.but_lines.order room makes-run writes-start,
      placing.placed-changes s between new k refs nums n lawful.but_lines.order room makes-run writes-start,
    );
    lines = lines;
    lawful = lawful-new;
    name = ap name_of writes.name ∙ name-code n named;
    layout = (let from = born.from s between new k refs nums n lawful.but_lines.order room makes-run writes-start in (from.blocks, from.number, from.base));
    represents = λ ms h m d represents e known few. at-start (λ (a : ℕ). Represents new (set_register_of (add_birth ms m) m d a) (with_new h m d refs nums))
        (born.represents-large s between new ms h m d k refs nums lawful.but_lines.order represents known few
        (subst (λ (q : Name). IsLargeRoom s k q refs nums) e room) makes-run (subst (λ (q : Name). WritesObject between new (block_start s.blocks k) q refs nums) e writes-start));
  }

-- an object of any size
module _ (rules : Rules) (fills : FillsHoles rules.fill) (s between written : HeapState) (spot : Spot) (n : Name) (refs nums : ℕ) (lawful : IsLawful s)
    (writes : WritesObject between written (address_of s spot) n refs nums) (few_refs : refs ≤ 1024) (few_nums : nums ≤ 60000) (named : IsName n)
    (fresh : (x : ℕ) → IsHeld s x → name_at s x ≢ n) where
  born-either : (new : HeapState) → FillsByLines rules → (b : Bool) → MatchBool b (IsPlaceIn rules.fill s (size_of refs nums) spot) (IsRunAt s (size_of refs nums) spot)
      → MatchBool b (TakesSpotBlock rules.fill s spot (size_of refs nums) between) (MakesRun s between spot.block spot.run)
      → MatchBool b (Relists rules written new spot.block × (new.number ≡ written.number) × (new.base ≡ written.base)) (new ≡ written) → IsBorn rules s spot n refs nums new
  born-either new filled true is takes relists = born-small rules fills s between written spot n refs nums lawful is takes writes few_refs few_nums named fresh new filled relists
  born-either new filled false is makes same = subst (IsBorn rules s spot n refs nums) (sym same)
      (born-large rules s between written spot n refs nums lawful is makes writes few_refs few_nums named fresh)

  pub born-at : (new : HeapState) → FillsByLines rules → IsPlaceForSize rules.fill s (size_of refs nums) spot → TakesSpot rules.fill s spot (size_of refs nums) between
      → RelistsSpot rules written spot new → IsBorn rules s spot n refs nums new
  born-at new filled = born-either new filled (nat_eq spot.run 0)

  -- a block without a run can be read, to be relisted
  readable-either : (b : Bool) → IsTrue b → MatchBool b (IsPlaceIn rules.fill s (size_of refs nums) spot) (IsRunAt s (size_of refs nums) spot)
      → MatchBool b (TakesSpotBlock rules.fill s spot (size_of refs nums) between) (MakesRun s between spot.block spot.run) → IsReadableBlock written spot.block × AreApart written spot.block
  readable-either true none is takes = readable-small rules fills s between written spot n refs nums lawful is takes writes few_refs few_nums named fresh
  readable-either false none is makes = absurd (let wrong : false ≡ true = none in cc)

  pub readable-at : spot.run ≡ 0 → IsPlaceForSize rules.fill s (size_of refs nums) spot → TakesSpot rules.fill s spot (size_of refs nums) between → IsReadableBlock written spot.block × AreApart written spot.block
  readable-at none = readable-either (nat_eq spot.run 0) (eq-eqb spot.run 0 none)
