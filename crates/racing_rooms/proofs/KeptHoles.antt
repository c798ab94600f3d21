-- That no hole of a block is lost before the region of its mutator.
use Rattle.std.proofs.Common.{◌≡◌, ◌≢◌, refl, sym, ◌∙◌, ap, subst, ℕ, ◌+◌, ◌*◌, ◌<◌, ◌≤◌, ◌⊎◌, inl, inr, arith, mul-le-mul_right, true, false, List, ◌∷◌}
use Rattle.std.specs.Prelude.{Some, max}
use Rattle.std.proofs.lemmas.Bool.{cases_Bool, cases_lt, cases_eq, true≢false}
use Rattle.heap_layout.specs.Zones.{block_at, block_start}
use Rattle.heap_layout.specs.declared.block.Kind.{Kind}
use Rattle.heap_layout.specs.declared.block.Kind.TheVariants as kinds
use Rattle.heap_layout.specs.declared.region.Region.{Region}
use Rattle.object_model.specs.Objects.{HeapState, HasKind, cell_words, class_at, is_start}
use Rattle.sessions.specs.Fitting.{IsLineHole}
use Rattle.sessions.proofs.Holes.{class-room}
use Rattle.plan_api.specs.Holes.{IsTailPart, IsLinePart, IsCellPart, IsHolePart, HasRoomFrom, IsFirstPart}
use Rattle.block_regions.specs.Notes.{FillsTails}
use Rattle.block_regions.specs.Regions.{first_region}
use Rattle.block_regions.proofs.Regions.{no-cells, no-lines}
use Rattle.mutator_core.specs.declared.state.Extent.{Extent}
use Rattle.mutator_core.specs.Machine.{Epoch}
use Rattle.mutator_core.proofs.Lists.{contains-here, contains-there}
use Rattle.racing_rooms.specs.Rooms.{HasObjectAt, HasEndAt, BeginsMarkedLine, LosesNoHole, IsCellRegion}

-- objects stay as the mutator makes one more
object-more : (p : Epoch) (x : Extent) (xs : List Extent) (a : ℕ) → HasObjectAt p xs a → HasObjectAt p (x ∷ xs) a
object-more p x xs a (inl before) = inl before
object-more p x xs a (inr own) = inr (own.0, contains-there x xs own.0 own.1, own.2)

end-more : (p : Epoch) (x : Extent) (xs : List Extent) (k at : ℕ) → (at ≡ 0) ⊎ HasEndAt p xs k at → (at ≡ 0) ⊎ HasEndAt p (x ∷ xs) k at
end-more p x xs k at (inl none) = inl none
end-more p x xs k at (inr (inl before)) = inr (inl before)
end-more p x xs k at (inr (inr own)) = inr (inr (own.0, contains-there x xs own.0 own.1, own.2, own.3))

pub kept-more : (p : Epoch) (x : Extent) (xs : List Extent) (k class : ℕ) (region : Region) → LosesNoHole p xs k class region → LosesNoHole p (x ∷ xs) k class region
kept-more p x xs k class region kept = record {
  tail = λ tails. ((kept.tail tails).0, end-more p x xs k region.next (kept.tail tails).1);
  taken = λ cells index before inside. object-more p x xs (block_start p.before.blocks k + index * cell_words class) (kept.taken cells index before inside);
  whole = kept.whole;
  lines = kept.lines;
}

-- an object at the start of a region that is no cell
pub kept-rest : (p : Epoch) (x : Extent) (xs : List Extent) (k class size : ℕ) (region : Region) → p.rules.fill ≢ kinds.Cells → block_at p.before.blocks x.address ≡ k → x.address + x.size ≡ block_start p.before.blocks k + (region.next + size)
    → LosesNoHole p xs k class region → LosesNoHole p (x ∷ xs) k class (record { next = region.next + size; end = region.end })
kept-rest p x xs k class size region plain here ends kept = record {
  tail = λ tails. ((kept.tail tails).0, inr (inr (x, contains-here x xs, here, ends)));
  taken = λ cells. absurd (plain cells);
  whole = λ cells. absurd (plain cells);
  lines = kept.lines;
}

-- an object in the region's cell: each cell from there up to the start of the rest has an object
pub kept-cell : (p : Epoch) (x : Extent) (xs : List Extent) (k class : ℕ) (region rest : Region) → p.rules.fill ≡ kinds.Cells → IsCellRegion class region → region.next < region.end → x.address ≡ block_start p.before.blocks k + region.next
    → ((index : ℕ) → region.end ≤ index * cell_words class → index * cell_words class < rest.next → index * cell_words class + cell_words class ≤ 4096 → HasObjectAt p (x ∷ xs) (block_start p.before.blocks k + index * cell_words class))
    → (rest.next < 4096 → rest.next + cell_words class ≤ rest.end) → LosesNoHole p xs k class region → LosesNoHole p (x ∷ xs) k class rest
kept-cell p x xs k class region rest cells is some at between whole kept = record {
  tail = λ tails. absurd (no-cells p.rules.fill tails cells);
  taken = λ f index before inside. elim (cases_lt index is.index) as (λ _. HasObjectAt p (x ∷ xs) (block_start p.before.blocks k + index * cell_words class)) [
    | inl less ↦ (
        let few : (index + 1) * cell_words class ≤ is.index * cell_words class = mul-le-mul_right {m = index + 1} {n = is.index} (cell_words class) (omega arith) in
        let more : (index + 1) * cell_words class ≡ index * cell_words class + cell_words class = omega arith in
        let start : region.next ≡ is.index * cell_words class = is.start in
        let end : region.end ≡ region.next + cell_words class = is.end in
        object-more p x xs (block_start p.before.blocks k + index * cell_words class) (kept.taken f index (omega arith) inside))
    | inr more ↦ elim (cases_eq index is.index) as (λ _. HasObjectAt p (x ∷ xs) (block_start p.before.blocks k + index * cell_words class)) [
      | inl same ↦ inr (x, contains-here x xs, at ∙ ap (λ (n : ℕ). block_start p.before.blocks k + n) (is.start ∙ ap (λ (n : ℕ). n * cell_words class) (sym same)))
      | inr other ↦ (
          let many : (is.index + 1) * cell_words class ≤ index * cell_words class = mul-le-mul_right {m = is.index + 1} {n = index} (cell_words class) (omega arith) in
          let more : (is.index + 1) * cell_words class ≡ is.index * cell_words class + cell_words class = omega arith in
          let start : region.next ≡ is.index * cell_words class = is.start in
          let end : region.end ≡ region.next + cell_words class = is.end in
          between index (omega arith) before inside)
    ]
  ];
  whole = λ f. whole;
  lines = λ lines. absurd (no-lines (inr (sym lines ∙ cells)));
}

-- a block that was Free
whole-end : (f : Kind) (c : ℕ) → f ≢ kinds.Cells → (first_region f c).end ≡ 4096
whole-end kinds.Bump c other = refl
whole-end kinds.Young c other = refl
whole-end kinds.Cells c other = absurd (other refl)
whole-end kinds.Immix c other = refl
whole-end kinds.Free c other = refl
whole-end kinds.Mature c other = refl
whole-end kinds.LargeHead c other = refl
whole-end kinds.LargeTail c other = refl
whole-end kinds.Kept c other = refl

pub kept-whole : (p : Epoch) (xs : List Extent) (k class : ℕ) → LosesNoHole p xs k class (first_region p.rules.fill class)
kept-whole p xs k class = record {
  tail = λ tails. (whole-end p.rules.fill class (no-cells p.rules.fill tails), inl refl);
  taken = λ cells index before. absurd (omega arith);
  whole = λ cells some. subst (λ (f : Kind). 0 + cell_words class ≤ (first_region f class).end) (sym cells) (omega arith);
  lines = λ lines. inl (whole-end p.rules.fill class (λ cells. no-lines (inr (sym lines ∙ cells))));
}

-- a hole of clear lines
lines-end : (b : HeapState) (k line len : ℕ) (region : Region) → HasKind b k kinds.Immix → IsLineHole b k line len → region.end ≡ 16 * (line + len) → (region.end ≡ 4096) ⊎ BeginsMarkedLine b k region.end
lines-end b k line len region kind hole ends =
    let inside : line + len ≤ 256 = hole.inside in
    elim (cases_lt (line + len) 256) as (λ _. (region.end ≡ 4096) ⊎ BeginsMarkedLine b k region.end) [
      | inl low ↦ inr (record { kind = kind; line = line + len; low = low; start = ends; marked = hole.after low })
      | inr all ↦ inl (omega arith)
    ]

pub kept-lines : (p : Epoch) (xs : List Extent) (k class line len : ℕ) (region : Region) → p.rules.fill ≡ kinds.Immix → HasKind p.before k kinds.Immix → IsLineHole p.before k line len → region.end ≡ 16 * (line + len) → LosesNoHole p xs k class region
kept-lines p xs k class line len region lines kind hole ends = record {
  tail = λ tails. absurd (no-lines (inl (subst FillsTails lines tails)));
  taken = λ cells. absurd (no-lines (inr (sym lines ∙ cells)));
  whole = λ cells. absurd (no-lines (inr (sym lines ∙ cells)));
  lines = λ is. lines-end p.before k line len region kind hole ends;
}

-- the first hole of a block that the mutator took
module _ (p : Epoch) (xs : List Extent) (k class size : ℕ) (region : Region) (there : k < p.before.blocks) (first : IsFirstPart p.rules.fill p.before k 0 size region) (same : p.rules.fill ≡ kinds.Cells → class_at p.before k ≡ class) where
  abbrev b : HeapState
  b = p.before

  tail-ends : IsTailPart b k 0 region.next region.end → (region.end ≡ 4096) × ((region.next ≡ 0) ⊎ HasEndAt p xs k region.next)
  tail-ends part =
      let starts : region.next ≡ max part.begin 0 = part.starts in
      let begins : region.next ≡ part.begin = omega arith in (
        part.ends,
        elim part.tail.least as (λ _. (region.next ≡ 0) ⊎ HasEndAt p xs k region.next) [
          | inl none ↦ inl (begins ∙ none)
          | inr some ↦ inr (inl (some.0, some.1, some.2, some.3 ∙ sym begins))
        ],
      )

  first-tail : FillsTails p.rules.fill → (region.end ≡ 4096) × ((region.next ≡ 0) ⊎ HasEndAt p xs k region.next)
  first-tail (inl bump) = tail-ends (subst (λ (f : Kind). IsHolePart f b k 0 size region.next region.end) bump first.hole.part).1
  first-tail (inr young) = tail-ends (subst (λ (f : Kind). IsHolePart f b k 0 size region.next region.end) young first.hole.part).1

  module _ (cells : p.rules.fill ≡ kinds.Cells) where
    part : HasKind b k kinds.Cells × IsCellPart b k 0 size region.next region.end
    part = subst (λ (f : Kind). IsHolePart f b k 0 size region.next region.end) cells first.hole.part

    is : class_at b k ≡ class
    is = same cells

    -- a cell before the region is not free, as the region is the first
    first-taken : (index : ℕ) → index * cell_words class < region.next → index * cell_words class + cell_words class ≤ 4096 → HasObjectAt p xs (block_start b.blocks k + index * cell_words class)
    first-taken index before inside =
        let a : ℕ = block_start b.blocks k + index * cell_words class in
        let before-end : region.next + cell_words class ≤ 4096 = subst (λ (c : ℕ). region.next + cell_words c ≤ 4096) is part.1.cell.inside in
        let room : size ≤ cell_words class = class-room size class (part.1.class ∙ ap (λ (c : ℕ). Some c) is) in
        elim (cases_Bool (is_start b a)) as (λ _. HasObjectAt p xs a) [
          | inl starts ↦ inl (record {
            address = record { from = omega arith; below = omega arith };
            start = starts;
          })
          | inr free ↦ absurd (
              let hole : HasRoomFrom kinds.Cells b k 0 size (index * cell_words class) (index * cell_words class + cell_words class) = record {
                part = (
                  part.0,
                  record {
                    class = part.1.class;
                    cell = record {
                      index = index;
                      start = ap (λ (c : ℕ). index * cell_words c) (sym is);
                      inside = subst (λ (c : ℕ). index * cell_words class + cell_words c ≤ 4096) (sym is) inside;
                      free = λ set. true≢false (sym set ∙ free);
                    };
                    after = omega arith;
                    ends = ap (λ (c : ℕ). index * cell_words class + cell_words c) (sym is);
                  },
                );
                room = omega arith;
              } in
              let later : region.next ≤ index * cell_words class = first.first (index * cell_words class) (index * cell_words class + cell_words class)
              (subst (λ (f : Kind). HasRoomFrom f b k 0 size (index * cell_words class) (index * cell_words class + cell_words class)) (sym cells) hole) in
              omega arith)
        ]

    first-whole : region.next + cell_words class ≤ region.end
    first-whole = let ends : region.end ≡ region.next + cell_words class = part.1.ends ∙ ap (λ (c : ℕ). region.next + cell_words c) is in omega arith

  first-lines : p.rules.fill ≡ kinds.Immix → (region.end ≡ 4096) ⊎ BeginsMarkedLine b k region.end
  first-lines lines =
      let part : HasKind b k kinds.Immix × IsLinePart b k 0 region.next region.end = subst (λ (f : Kind). IsHolePart f b k 0 size region.next region.end) lines first.hole.part in
      lines-end b k part.1.line part.1.len region part.0 part.1.hole part.1.ends

  pub kept-first : LosesNoHole p xs k class region
  kept-first = record {
    tail = first-tail;
    taken = first-taken;
    whole = λ cells some. first-whole cells;
    lines = first-lines;
  }
