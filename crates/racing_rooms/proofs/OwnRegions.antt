-- What a mutator may fill of its blocks.
use Rattle.std.proofs.Common.{◌≡◌, ◌≢◌, refl, sym, ◌∙◌, ap, subst, ℕ, ◌+◌, ◌-◌, ◌*◌, ◌/◌, ◌^◌, ◌<◌, ◌≤◌, ◌⊎◌, inl, inr, ⊎_elim, arith, List, ◌∷◌}
use Rattle.std.specs.Prelude.{Some, max}
use Rattle.std.specs.List.{Contains}
use Rattle.std.proofs.lemmas.Bool.{cases_eq, cases_lt}
use Rattle.heap_layout.specs.Zones.{block_at, block_start, offset_at, IsAddress}
use Rattle.heap_layout.specs.declared.block.Kind.{Kind}
use Rattle.heap_layout.specs.declared.block.Kind.TheVariants as kinds
use Rattle.heap_layout.specs.declared.region.Region.{Region}
use Rattle.object_model.specs.Objects.{HeapState, HasKind, size_of, cell_words, class_at, lines_for}
use Rattle.sessions.specs.Fitting.{HasHole, LiesInHole, HasLineHole, IsLineHole, IsTail, class_of}
use Rattle.plan_api.specs.Holes.{IsTailPart, IsLinePart, IsCellPart, IsHolePart, IsFirstPart}
use Rattle.sessions.proofs.HoleKinds.{part-lies}
use Rattle.block_regions.specs.Regions.{first_region}
use Rattle.block_regions.proofs.Regions.{most-cell, no-lines}
use Rattle.mutator_core.specs.declared.state.Extent.{Extent}
use Rattle.mutator_core.specs.declared.state.OwnedBlock.{OwnedBlock}
use Rattle.mutator_core.specs.Machine.{Epoch, nothing_unpublished}
use Rattle.mutator_core.specs.Guards.{MayBegin, BeginsRegion, IsAvailable, IsCell}
use Rattle.mutator_core.specs.Epochs.{IsMade}
use Rattle.mutator_core.specs.Logs.{heap_after}
use Rattle.mutator_core.proofs.Lists.{contains-cases, contains-here, contains-there}
use Rattle.mutator_rule.specs.declared.views.MutatorView.{MutatorView}
use Rattle.mutator_rule.specs.Logs.{KnowsLog}
use Rattle.racing_rooms.specs.Rooms.{Holdings, holdings, Suits, IsOwnRegion, IsCellRegion, LosesNoHole, HasObjectAt, BeginsMarkedLine, with_object}
use Rattle.racing_rooms.proofs.Known.{knows, beside-others, cells-or}
use Rattle.racing_rooms.proofs.KeptHoles.{kept-more, kept-rest, kept-cell, kept-whole, kept-first, kept-lines}

-- a hole that is no cell has room for less, too
pub hole-smaller : (fill : Kind) (s : HeapState) (k at size n : ℕ) → fill ≢ kinds.Cells → HasHole fill s k at size → n ≤ size → HasHole fill s k at n
hole-smaller kinds.Bump s k at size n other hole few = (let room : at + size ≤ 4096 = hole.2 in (hole.0, hole.1, omega arith))
hole-smaller kinds.Young s k at size n other hole few = (let room : at + size ≤ 4096 = hole.2 in (hole.0, hole.1, omega arith))
hole-smaller kinds.Cells s k at size n other hole few = absurd (other refl)
hole-smaller kinds.Immix s k at size n other hole few =
    let lines : HasLineHole s k at size = hole.1 in
    let room : (size + 15) / 16 ≤ lines.len = lines.room in
    (hole.0, record { line = lines.line; len = lines.len; start = lines.start; hole = lines.hole; room = omega arith })
hole-smaller kinds.Free s k at size n other hole few = absurd hole
hole-smaller kinds.Mature s k at size n other hole few = absurd hole
hole-smaller kinds.LargeHead s k at size n other hole few = absurd hole
hole-smaller kinds.LargeTail s k at size n other hole few = absurd hole
hole-smaller kinds.Kept s k at size n other hole few = absurd hole

-- where a region begins
module _ (b k next size a : ℕ) (there : k < b) (some : 0 < size) (inside : next + size ≤ 4096) (starts : a ≡ block_start b k + next) where
  pub block-is : block_at b a ≡ k
  block-is = omega arith

  pub offset-is : offset_at b a ≡ next
  offset-is = omega arith

  pub address-is : IsAddress b a
  address-is = record { from = omega arith; below = omega arith }

-- An object may begin at the start of a region of the mutator's that has room for it.
module _ (p : Epoch) (v : MutatorView) (told : KnowsLog p v) (k class : ℕ) (region : Region) (own : IsOwnRegion p (holdings v.local) k class region) where
  pub may-place : (refs nums a : ℕ) → size_of refs nums ≤ 2048 → Suits p.rules.fill class (size_of refs nums) → region.next + size_of refs nums ≤ region.end → a ≡ block_start p.before.blocks k + region.next
      → IsAvailable p v.local.owned v.local.made a (size_of refs nums)
  may-place refs nums a small suits room starts = record {
    place = record {
      address = address-is p.before.blocks k region.next (size_of refs nums) a own.there some inside starts;
      inside = subst (λ (o : ℕ). o + (size_of refs nums) ≤ 4096) (sym offset) inside;
      owned = record { block = k; class = class };
      among = own.mine;
      here = sym block;
      hole = subst (λ (q : ℕ). HasKind p.before q kinds.Free ⊎ LiesInHole p.rules.fill p.before q (offset_at p.before.blocks a) (size_of refs nums)) (sym block)
          (subst (λ (o : ℕ). HasKind p.before k kinds.Free ⊎ LiesInHole p.rules.fill p.before k o (size_of refs nums)) (sym offset) (own.free (size_of refs nums) some room suits));
      cell = λ cells. cell-at cells;
    };
    beside = λ x by.
        let is : IsMade p (heap_after p v.seen) v.local.owned x = (knows p v told).objects x by in
        elim (cases_eq (block_at p.before.blocks x.address) k) as (λ _. (x.address + x.size ≤ a) ⊎ (a + (size_of refs nums) ≤ x.address)) [
          | inl here ↦ inl (let e = own.behind x by here in omega arith)
          | inr other ↦ beside-others p.before.blocks a (size_of refs nums) x.address x.size k is.place.address.from is.place.inside other (address-is p.before.blocks k region.next (size_of refs nums) a own.there some inside starts).from block (subst (λ (o : ℕ). o + (size_of refs nums) ≤ 4096) (sym offset) inside)
        ];
  }
    where
      some : 0 < (size_of refs nums)
      some = omega arith

      inside : region.next + (size_of refs nums) ≤ 4096
      inside = let e = own.inside in omega arith

      block : block_at p.before.blocks a ≡ k
      block = block-is p.before.blocks k region.next (size_of refs nums) a own.there some inside starts

      offset : offset_at p.before.blocks a ≡ region.next
      offset = offset-is p.before.blocks k region.next (size_of refs nums) a own.there some inside starts

      cell-at : p.rules.fill ≡ kinds.Cells → IsCell a (size_of refs nums) p.before.blocks class
      cell-at cells =
          let is = own.cell cells (omega arith) in
          let e = own.inside in
          let ends = is.end in
          record { fits = suits cells; index = is.index; start = offset ∙ is.start; inside = subst (λ (o : ℕ). o + cell_words class ≤ 4096) (sym offset) (omega arith) }

  pub begins-here : (refs nums a : ℕ) → region.next + size_of refs nums ≤ region.end → a ≡ block_start p.before.blocks k + region.next → BeginsRegion p v.local.made a (size_of refs nums)
  begins-here refs nums a room starts = subst (λ (q : ℕ). BeginsRegion p v.local.made q (size_of refs nums)) (sym starts) (own.begins (size_of refs nums) (omega arith) room)

  pub may-begin : (refs nums a : ℕ) → size_of refs nums ≤ 2048 → refs ≤ 1024 → nums ≤ 60000 → Suits p.rules.fill class (size_of refs nums) → region.next + size_of refs nums ≤ region.end
      → a ≡ block_start p.before.blocks k + region.next → v.local.unpublished ≡ nothing_unpublished → v.local.births + 1 < 2 ^ 32 → MayBegin p v.local a refs nums
  may-begin refs nums a small few_refs few_nums suits room starts none few = record {
    none = none;
    few_births = few;
    few_refs = few_refs;
    few_nums = few_nums;
    small = small;
    available = may-place refs nums a small suits room starts;
    region = begins-here refs nums a room starts;
  }

-- what a mutator may fill depends on its blocks and objects alone
pub own-as : (p : Epoch) (h g : Holdings) (k class : ℕ) (region : Region) → g.owned ≡ h.owned → g.made ≡ h.made → IsOwnRegion p h k class region → IsOwnRegion p g k class region
own-as p h g k class region owned made own = record {
  there = own.there;
  mine = subst (λ (os : List OwnedBlock). Contains os (record { block = k; class = class })) (sym owned) own.mine;
  order = own.order;
  inside = own.inside;
  behind = λ x by here. own.behind x (subst (λ (xs : List Extent). Contains xs x) made by) here;
  free = own.free;
  begins = λ size some room. subst (λ (xs : List Extent). BeginsRegion p xs (block_start p.before.blocks k + region.next) size) (sym made) (own.begins size some room);
  cell = own.cell;
  kept = subst (λ (xs : List Extent). LosesNoHole p xs k class region) (sym made) own.kept;
}

-- a mutator that has more blocks may fill what it could
pub own-more : (p : Epoch) (h g : Holdings) (o : OwnedBlock) (k class : ℕ) (region : Region) → g.owned ≡ o ∷ h.owned → g.made ≡ h.made → IsOwnRegion p h k class region → IsOwnRegion p g k class region
own-more p h g o k class region owned made own = record {
  there = own.there;
  mine = subst (λ (os : List OwnedBlock). Contains os (record { block = k; class = class })) (sym owned) (contains-there o h.owned (record { block = k; class = class }) own.mine);
  order = own.order;
  inside = own.inside;
  behind = λ x by here. own.behind x (subst (λ (xs : List Extent). Contains xs x) made by) here;
  free = own.free;
  begins = λ size some room. subst (λ (xs : List Extent). BeginsRegion p xs (block_start p.before.blocks k + region.next) size) (sym made) (own.begins size some room);
  cell = own.cell;
  kept = subst (λ (xs : List Extent). LosesNoHole p xs k class region) (sym made) own.kept;
}

-- a region begins where it did after the mutator made an object more
begins-more : (p : Epoch) (x : Extent) (xs : List Extent) (a size : ℕ) → BeginsRegion p xs a size → BeginsRegion p (x ∷ xs) a size
begins-more p x xs a size (inl cells) = inl cells
begins-more p x xs a size (inr (inl hole)) = inr (inl hole)
begins-more p x xs a size (inr (inr (inl free))) = inr (inr (inl free))
begins-more p x xs a size (inr (inr (inr last))) = inr (inr (inr (last.0, contains-there x xs last.0 last.1, last.2, last.3)))

-- an object in another block leaves the region
pub own-beside : (p : Epoch) (h : Holdings) (x : Extent) (k class : ℕ) (region : Region) → block_at p.before.blocks x.address ≢ k → IsOwnRegion p h k class region → IsOwnRegion p (with_object h x) k class region
own-beside p h x k class region other own = record {
  there = own.there;
  mine = own.mine;
  order = own.order;
  inside = own.inside;
  behind = λ y by here. ⊎_elim
      (λ (same : y ≡ x). absurd (other (ap (λ (z : Extent). block_at p.before.blocks z.address) (sym same) ∙ here)))
      (λ (rest : Contains h.made y). own.behind y rest here)
      (contains-cases x h.made y by);
  free = own.free;
  begins = λ size some room. begins-more p x h.made (block_start p.before.blocks k + region.next) size (own.begins size some room);
  cell = own.cell;
  kept = kept-more p x h.made k class region own.kept;
}

-- an object at the start of a region that is no cell leaves the words after it
module _ (p : Epoch) (h : Holdings) (k class size : ℕ) (region : Region) (own : IsOwnRegion p h k class region) (some : 0 < size) (room : region.next + size ≤ region.end) where
  abbrev x : Extent
  x = record { address = block_start p.before.blocks k + region.next; size = size }

  abbrev rest : Region
  rest = record { next = region.next + size; end = region.end }

  block-of : block_at p.before.blocks x.address ≡ k
  block-of = block-is p.before.blocks k region.next size x.address own.there some (let e = own.inside in omega arith) refl

  behind-rest : (next : ℕ) → region.next + size ≤ next → (y : Extent) → Contains (x ∷ h.made) y → block_at p.before.blocks y.address ≡ k → y.address + y.size ≤ block_start p.before.blocks k + next
  behind-rest next past y by here = ⊎_elim
      (λ (same : y ≡ x). subst (λ (z : Extent). z.address + z.size ≤ block_start p.before.blocks k + next) (sym same) (omega arith))
      (λ (earlier : Contains h.made y). let e = own.behind y earlier here in omega arith)
      (contains-cases x h.made y by)

  less-free : (n : ℕ) → p.rules.fill ≢ kinds.Cells → (fill : Kind) → fill ≢ kinds.Cells → LiesInHole fill p.before k region.next (size + n) → LiesInHole fill p.before k (region.next + size) n
  less-free n plain kinds.Bump other lies = (let inside = lies.1.inside in let after = lies.1.after in (lies.0, record { at = lies.1.at; tail = lies.1.tail; after = omega arith; inside = omega arith }))
  less-free n plain kinds.Young other lies = (let inside = lies.1.inside in let after = lies.1.after in (lies.0, record { at = lies.1.at; tail = lies.1.tail; after = omega arith; inside = omega arith }))
  less-free n plain kinds.Cells other lies = absurd (other refl)
  less-free n plain kinds.Immix other lies = (let inside = lies.1.inside in let after = lies.1.after in (lies.0, record { line = lies.1.line; len = lies.1.len; hole = lies.1.hole; after = omega arith; inside = omega arith }))
  less-free n plain kinds.Free other lies = absurd lies
  less-free n plain kinds.Mature other lies = absurd lies
  less-free n plain kinds.LargeHead other lies = absurd lies
  less-free n plain kinds.LargeTail other lies = absurd lies
  less-free n plain kinds.Kept other lies = absurd lies

  pub own-rest : p.rules.fill ≢ kinds.Cells → IsOwnRegion p (with_object h x) k class rest
  own-rest plain = record {
    there = own.there;
    mine = own.mine;
    order = room;
    inside = own.inside;
    behind = behind-rest (region.next + size) (omega arith);
    free = λ n more there suits. elim (own.free (size + n) (omega arith) (omega arith) (λ cells. absurd (plain cells))) as (λ _. HasKind p.before k kinds.Free ⊎ LiesInHole p.rules.fill p.before k (region.next + size) n) [
      | inl none ↦ inl none
      | inr lies ↦ inr (less-free n plain p.rules.fill plain lies)
    ];
    begins = λ n more there. inr (inr (inr (x, contains-here x h.made, block-of ∙ sym (block-is p.before.blocks k (region.next + size) n _ own.there more (let e = own.inside in omega arith) refl), omega arith)));
    cell = λ cells. absurd (plain cells);
    kept = kept-rest p x h.made k class size region plain block-of (omega arith) own.kept;
  }

  -- and of a cell none, if each later cell has an object
  pub own-none : p.rules.fill ≡ kinds.Cells → ((index : ℕ) → region.end ≤ index * cell_words class → index * cell_words class + cell_words class ≤ 4096 → HasObjectAt p (x ∷ h.made) (block_start p.before.blocks k + index * cell_words class))
      → IsOwnRegion p (with_object h x) k class (record { next = 4096; end = 4096 })
  own-none cells between = record {
    there = own.there;
    mine = own.mine;
    order = omega arith;
    inside = omega arith;
    behind = behind-rest 4096 (let e = own.inside in omega arith);
    free = λ n more there. absurd (omega arith);
    begins = λ n more there. absurd (omega arith);
    cell = λ f some. absurd (omega arith);
    kept = kept-cell p x h.made k class region (record { next = 4096; end = 4096 }) cells (own.cell cells (omega arith)) (omega arith) refl (λ index after before inside. between index after inside) (λ low. absurd (omega arith)) own.kept;
  }

  -- or the next cell, which was free as the epoch began
  pub own-next : (next : ℕ) → p.rules.fill ≡ kinds.Cells → IsCellRegion class (record { next = next; end = next + cell_words class }) → region.next + size ≤ next → next + cell_words class ≤ 4096
      → ((n : ℕ) → class_of n ≡ Some class → HasKind p.before k kinds.Free ⊎ LiesInHole p.rules.fill p.before k next n)
      → ((index : ℕ) → region.end ≤ index * cell_words class → index * cell_words class < next → index * cell_words class + cell_words class ≤ 4096 → HasObjectAt p (x ∷ h.made) (block_start p.before.blocks k + index * cell_words class))
      → IsOwnRegion p (with_object h x) k class (record { next = next; end = next + cell_words class })
  own-next next cells is past inside free between = record {
    there = own.there;
    mine = own.mine;
    order = omega arith;
    inside = inside;
    behind = behind-rest next past;
    free = λ n more there suits. free n (suits cells);
    begins = λ n more there. inl cells;
    cell = λ f some. is;
    kept = kept-cell p x h.made k class region (record { next = next; end = next + cell_words class }) cells (own.cell cells (omega arith)) (omega arith) refl between (λ low. omega arith) own.kept;
  }

-- the words of a Free block that the mutator took are a region
pub own-whole : (p : Epoch) (g : Holdings) (k class : ℕ) → k < p.before.blocks → HasKind p.before k kinds.Free → Contains g.owned (record { block = k; class = class })
    → ((x : Extent) → Contains g.made x → block_at p.before.blocks x.address ≢ k) → IsOwnRegion p g k class (first_region p.rules.fill class)
own-whole p g k class there free mine fresh = record {
  there = there;
  mine = mine;
  order = whole-order p.rules.fill class;
  inside = whole-inside p.rules.fill class;
  behind = λ x by here. absurd (fresh x by here);
  free = λ n some room suits. inl free;
  begins = λ n some room. inr (inr (inl (
    subst (λ (q : ℕ). HasKind p.before q kinds.Free) (sym (block-is p.before.blocks k 0 n _ there some (let e = whole-inside p.rules.fill class in omega arith) refl)) free,
    offset-is p.before.blocks k 0 n _ there some (let e = whole-inside p.rules.fill class in omega arith) refl,
  )));
  cell = λ cells some. subst (λ (f : Kind). IsCellRegion class (first_region f class)) (sym cells) (record { index = 0; start = (let e : 0 ≡ 0 * cell_words class = omega arith in e); end = (let e : cell_words class ≡ 0 + cell_words class = omega arith in e) });
  kept = kept-whole p g.made k class;
}
  where
    whole-inside : (fill : Kind) (c : ℕ) → (first_region fill c).end ≤ 4096
    whole-inside kinds.Cells c = (let e : cell_words c ≤ 2048 = most-cell c in omega arith)
    whole-inside kinds.Bump c = omega arith
    whole-inside kinds.Young c = omega arith
    whole-inside kinds.Immix c = omega arith
    whole-inside kinds.Free c = omega arith
    whole-inside kinds.Mature c = omega arith
    whole-inside kinds.LargeHead c = omega arith
    whole-inside kinds.LargeTail c = omega arith
    whole-inside kinds.Kept c = omega arith

    whole-order : (fill : Kind) (c : ℕ) → 0 ≤ (first_region fill c).end
    whole-order fill c = omega arith

max-zero : (n : ℕ) → max n 0 ≡ n
max-zero n = omega arith

-- a hole ends in its block
end-inside : (fill : Kind) (s : HeapState) (k size : ℕ) (r : Region) → IsFirstPart fill s k 0 size r → r.end ≤ 4096
end-inside kinds.Bump s k size r first = (let ends : r.end ≡ 4096 = first.hole.part.1.ends in omega arith)
end-inside kinds.Young s k size r first = (let ends : r.end ≡ 4096 = first.hole.part.1.ends in omega arith)
end-inside kinds.Cells s k size r first =
    let ends : r.end ≡ r.next + cell_words (class_at s k) = first.hole.part.1.ends in
    let inside : r.next + cell_words (class_at s k) ≤ 4096 = first.hole.part.1.cell.inside in
    omega arith
end-inside kinds.Immix s k size r first =
    let ends : r.end ≡ 16 * (first.hole.part.1.line + first.hole.part.1.len) = first.hole.part.1.ends in
    let inside : first.hole.part.1.line + first.hole.part.1.len ≤ 256 = first.hole.part.1.hole.inside in
    omega arith
end-inside kinds.Free s k size r first = absurd first.hole.part
end-inside kinds.Mature s k size r first = absurd first.hole.part
end-inside kinds.LargeHead s k size r first = absurd first.hole.part
end-inside kinds.LargeTail s k size r first = absurd first.hole.part
end-inside kinds.Kept s k size r first = absurd first.hole.part

-- the first hole of a block, but a cell, from its start to its end
part-hole : (fill : Kind) (s : HeapState) (k size : ℕ) (r : Region) → fill ≢ kinds.Cells → IsFirstPart fill s k 0 size r → HasHole fill s k r.next (r.end - r.next)
part-hole kinds.Bump s k size r other first =
    let part : HasKind s k kinds.Bump × IsTailPart s k 0 r.next r.end = first.hole.part in
    let room : r.next + size ≤ r.end = first.hole.room in
    let ends : r.end ≡ 4096 = part.1.ends in
    let starts : r.next ≡ max part.1.begin 0 = part.1.starts in
    (part.0, subst (IsTail s k) (sym (starts ∙ max-zero part.1.begin)) part.1.tail, omega arith)
part-hole kinds.Young s k size r other first =
    let part : HasKind s k kinds.Young × IsTailPart s k 0 r.next r.end = first.hole.part in
    let room : r.next + size ≤ r.end = first.hole.room in
    let ends : r.end ≡ 4096 = part.1.ends in
    let starts : r.next ≡ max part.1.begin 0 = part.1.starts in
    (part.0, subst (IsTail s k) (sym (starts ∙ max-zero part.1.begin)) part.1.tail, omega arith)
part-hole kinds.Cells s k size r other first = absurd (other refl)
part-hole kinds.Immix s k size r other first =
    let part : HasKind s k kinds.Immix × IsLinePart s k 0 r.next r.end = first.hole.part in
    let line : ℕ = part.1.line in
    let starts : r.next ≡ 16 * max line 0 = part.1.starts in
    let whole : max line 0 ≡ line = max-zero line in
    let begins : r.next ≡ 16 * line = starts ∙ ap (λ (n : ℕ). 16 * n) whole in
    let ends : r.end ≡ 16 * (line + part.1.len) = part.1.ends in
    (part.0, record { line = line; len = part.1.len; start = begins; hole = part.1.hole; room = omega arith })
part-hole kinds.Free s k size r other first = absurd first.hole.part
part-hole kinds.Mature s k size r other first = absurd first.hole.part
part-hole kinds.LargeHead s k size r other first = absurd first.hole.part
part-hole kinds.LargeTail s k size r other first = absurd first.hole.part
part-hole kinds.Kept s k size r other first = absurd first.hole.part

-- the first hole with room of a block that the mutator took, as the epoch began, is a region
module _ (p : Epoch) (g : Holdings) (k class size : ℕ) (region : Region) (some : 0 < size) (there : k < p.before.blocks) (mine : Contains g.owned (record { block = k; class = class }))
    (fresh : (x : Extent) → Contains g.made x → block_at p.before.blocks x.address ≢ k) (first : IsFirstPart p.rules.fill p.before k 0 size region) (same : p.rules.fill ≡ kinds.Cells → class_at p.before k ≡ class) where
  plain : p.rules.fill ≢ kinds.Cells → IsOwnRegion p g k class region
  plain other =
      let hole : HasHole p.rules.fill p.before k region.next (region.end - region.next) = part-hole p.rules.fill p.before k size region other first in
      let room : region.next + size ≤ region.end = first.hole.room in
      let inside : region.end ≤ 4096 = end-inside p.rules.fill p.before k size region first in
      record {
        there = there;
        mine = mine;
        order = omega arith;
        inside = inside;
        behind = λ x by here. absurd (fresh x by here);
        free = λ n more upto suits. inr (part-lies p.rules.fill p.before k region.next (region.end - region.next) region.next n other hole (omega arith) (omega arith));
        begins = λ n more upto. inr (inl (subst (λ (q : ℕ). HasHole p.rules.fill p.before q (offset_at p.before.blocks (block_start p.before.blocks k + region.next)) n)
            (sym (block-is p.before.blocks k region.next n _ there more (omega arith) refl))
            (subst (λ (o : ℕ). HasHole p.rules.fill p.before k o n) (sym (offset-is p.before.blocks k region.next n _ there more (omega arith) refl))
            (hole-smaller p.rules.fill p.before k region.next (region.end - region.next) n other hole (omega arith)))));
        cell = λ cells. absurd (other cells);
        kept = kept-first p g.made k class size region there first same;
      }

  cells-own : p.rules.fill ≡ kinds.Cells → IsOwnRegion p g k class region
  cells-own cells =
      let part : HasKind p.before k kinds.Cells × IsCellPart p.before k 0 size region.next region.end = subst (λ (f : Kind). IsHolePart f p.before k 0 size region.next region.end) cells first.hole.part in
      let cell = part.1.cell in
      let is : class_at p.before k ≡ class = same cells in
      let start : region.next ≡ cell.index * cell_words class = subst (λ (c : ℕ). region.next ≡ cell.index * cell_words c) is cell.start in
      let end : region.end ≡ region.next + cell_words class = subst (λ (c : ℕ). region.end ≡ region.next + cell_words c) is part.1.ends in
      let inside : region.next + cell_words class ≤ 4096 = subst (λ (c : ℕ). region.next + cell_words c ≤ 4096) is cell.inside in
      record {
        there = there;
        mine = mine;
        order = omega arith;
        inside = omega arith;
        behind = λ x by here. absurd (fresh x by here);
        free = λ n more upto suits. inr (subst (λ (f : Kind). LiesInHole f p.before k region.next n) (sym cells) (part.0, cell, suits cells ∙ ap (λ (c : ℕ). Some c) (sym is)));
        begins = λ n more upto. inl cells;
        cell = λ f upto. record { index = cell.index; start = start; end = end };
        kept = kept-first p g.made k class size region there first same;
      }

  pub own-hole : IsOwnRegion p g k class region
  own-hole = elim (cells-or p.rules.fill) as (λ _. IsOwnRegion p g k class region) [
    | inl cells ↦ cells-own cells
    | inr other ↦ plain other
  ]

-- a later hole of the block of a region that ends before a marked line
pub own-later : (p : Epoch) (h : Holdings) (k class size : ℕ) (region hole : Region) → p.rules.fill ≡ kinds.Immix → 0 < size → IsOwnRegion p h k class region → BeginsMarkedLine p.before k region.end → IsFirstPart kinds.Immix p.before k region.end size hole → IsOwnRegion p h k class hole
own-later p h k class size region hole lines some own mark first =
    let part : HasKind p.before k kinds.Immix × IsLinePart p.before k region.end hole.next hole.end = first.hole.part in
    let line : ℕ = part.1.line in
    let len : ℕ = part.1.len in
    let run : IsLineHole p.before k line len = part.1.hole in
    let from : region.end ≡ 16 * mark.line = mark.start in
    let upto : lines_for region.end ≡ mark.line = omega arith in
    let starts : hole.next ≡ 16 * max line mark.line = part.1.starts ∙ ap (λ (n : ℕ). 16 * max line n) upto in
    let ends : hole.end ≡ 16 * (line + len) = part.1.ends in
    let room : hole.next + size ≤ hole.end = first.hole.room in
    let inside : line + len ≤ 256 = run.inside in
    let past : mark.line < line = (elim (cases_lt mark.line line) as (λ _. mark.line < line) [ inl less ↦ less | inr before ↦ absurd (run.clear mark.line before (omega arith) mark.marked) ]) in
    let begins : hole.next ≡ 16 * line = omega arith in
    let order : region.next ≤ region.end = own.order in
    record {
      there = own.there;
      mine = own.mine;
      order = omega arith;
      inside = omega arith;
      behind = λ x by here. let e = own.behind x by here in omega arith;
      free = λ n more upto suits. inr (subst (λ (f : Kind). LiesInHole f p.before k hole.next n) (sym lines) (part.0, record { line = line; len = len; hole = run; after = omega arith; inside = omega arith }));
      begins = λ n more upto. inr (inl (subst (λ (q : ℕ). HasHole p.rules.fill p.before q (offset_at p.before.blocks (block_start p.before.blocks k + hole.next)) n)
          (sym (block-is p.before.blocks k hole.next n _ own.there more (omega arith) refl))
          (subst (λ (o : ℕ). HasHole p.rules.fill p.before k o n) (sym (offset-is p.before.blocks k hole.next n _ own.there more (omega arith) refl))
          (subst (λ (f : Kind). HasHole f p.before k hole.next n) (sym lines) (part.0, record { line = line; len = len; start = begins; hole = run; room = omega arith })))));
      cell = λ cells. absurd (no-lines (inr (sym lines ∙ cells)));
      kept = kept-lines p h.made k class line len hole lines part.0 run ends;
    }
