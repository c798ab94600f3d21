-- What has room in built heaps.
use Rattle.std.proofs.Common.{◌≡◌, refl, sym, subst, ℕ, ◌+◌, ◌*◌, ◌-◌, ◌<◌, ◌≤◌, ◌↔◌, inl, inr, arith, Bool, true, false, ◌||◌, not, IsTrue, nat_eq, lit<}
use Rattle.std.specs.Prelude.{nat_le, MatchBool}
use Rattle.std.specs.List.{range_with_len, list_all}
use Rattle.std.proofs.lemmas.Bool.{cases_lt, leb-true, le-leb, lt-leb, eqb-true}
use Rattle.heap_layout.specs.Zones.{block_at, offset_at, block_start, IsAddress}
use Rattle.heap_layout.specs.declared.block.Kind.{Kind}
use Rattle.heap_layout.specs.declared.block.Kind.TheVariants as kinds
use Rattle.heap_layout.specs.Blocks.{kind_code}
use Rattle.object_model.specs.Objects.{HeapState, has_kind, HasKind, is_start, line_marked, IsHeld, size_at, blocks_for}
use Rattle.object_model.proofs.ObjectReads.{place_of_address}
use Rattle.object_model.proofs.OneKind.{one-kind, kind-within}
use Rattle.sessions.specs.Plans.{Plan, Rules, NoGc, MarkSweep, SemiSpace, GenCopy, Immix, StickyImmix, Reserve, Nothing, Copies, Headroom, rules_of}
use Rattle.sessions.specs.Fitting.{IsTail, IsLineHole, HasLineHole, IsFreeCell, IsFreeRun, HasHole, Fits, FitsSmall, FitsLarge, MayGrant}
use Rattle.sessions.specs.Grants.{BlockCounts, HoldsReserve, IsGrantable, IsRunGrantable, after_taking}
use Rattle.sessions.specs.WorkedFits.{mixed_heap, full_heap, used_heap, split_heap}
use Rattle.sessions.proofs.HoleKinds.{all-below, one-line_hole}

-- a size up to 2,048, and a size above
abbrev FitsIf : Rules → HeapState → ℕ → Bool → Type 0
FitsIf r s size small = MatchBool small (FitsSmall r s size) (FitsLarge r s (blocks_for size))

pub from-small : (r : Rules) (s : HeapState) (size : ℕ) → size ≤ 2048 → FitsSmall r s size → Fits r s size
from-small r s size small fits = subst (FitsIf r s size) (sym (le-leb size 2048 small)) fits

pub to-small : (r : Rules) (s : HeapState) (size : ℕ) → size ≤ 2048 → Fits r s size → FitsSmall r s size
to-small r s size small fits = subst (FitsIf r s size) (le-leb size 2048 small) fits

pub from-large : (r : Rules) (s : HeapState) (size : ℕ) → 2048 < size → FitsLarge r s (blocks_for size) → Fits r s size
from-large r s size large fits = subst (FitsIf r s size) (sym (lt-leb size 2048 large)) fits

pub to-large : (r : Rules) (s : HeapState) (size : ℕ) → 2048 < size → Fits r s size → FitsLarge r s (blocks_for size)
to-large r s size large fits = subst (FitsIf r s size) (lt-leb size 2048 large) fits

-- the object that may begin at this offset of block k ends by `at`
abbrev pub ends_by : HeapState → ℕ → ℕ → ℕ → Bool
ends_by s k at offset = not (is_start s (block_start s.blocks k + offset)) || nat_le (offset + size_at s (block_start s.blocks k + offset)) at

implied : (a b : Bool) → IsTrue (not a || b) → IsTrue a → IsTrue b
implied true b h is = h
implied false b h is = absurd (let wrong : false ≡ true = is in cc)

tail-after : (s : HeapState) (k at : ℕ) → list_all (ends_by s k at) (range_with_len 0 4096) ≡ true → (a : ℕ) → IsHeld s a → block_at s.blocks a ≡ k → offset_at s.blocks a + size_at s a ≤ at
tail-after s k at all a holds block =
    let place = place_of_address s.blocks a holds.address in
    let e : block_start s.blocks k + offset_at s.blocks a ≡ a = omega arith in
    let test : IsTrue (ends_by s k at (offset_at s.blocks a)) = all-below (ends_by s k at) 4096 all (offset_at s.blocks a) (omega arith) in
    leb-true _ at (implied (is_start s a) (nat_le (offset_at s.blocks a + size_at s a) at)
    (subst (λ (x : ℕ). IsTrue (not (is_start s x) || nat_le (offset_at s.blocks a + size_at s x) at)) e test) holds.start)

-- the tail of block k, after the object at a
pub tail-from : (s : HeapState) (k at a : ℕ) → list_all (ends_by s k at) (range_with_len 0 4096) ≡ true → IsHeld s a → block_at s.blocks a ≡ k → offset_at s.blocks a + size_at s a ≡ at → IsTail s k at
tail-from s k at a all holds block end = record { after = tail-after s k at all; least = inr (a, holds, block, end) }

not-set : (b : Bool) → not b ≡ true → IsTrue b → ⊥
not-set true h is = (let wrong : false ≡ true = h in cc)
not-set false h is = (let wrong : false ≡ true = is in cc)

-- lines without a mark
pub clear-lines : (s : HeapState) (k from len : ℕ) → list_all (λ i. not (line_marked s k (from + i))) (range_with_len 0 len) ≡ true
    → (line : ℕ) → from ≤ line → line < from + len → IsTrue (line_marked s k line) → ⊥
clear-lines s k from len all line above below is =
    let e : from + (line - from) ≡ line = omega arith in
    let test : not (line_marked s k (from + (line - from))) ≡ true = all-below (λ i. not (line_marked s k (from + i))) len all (line - from) (omega arith) in
    not-set (line_marked s k line) (subst (λ (x : ℕ). not (line_marked s k x) ≡ true) e test) is

-- a run of Free blocks
pub free-run : (s : HeapState) (k n : ℕ) → k + n ≤ s.blocks → list_all (λ j. has_kind s (k + j) kinds.Free) (range_with_len 0 n) ≡ true → IsFreeRun s k n
free-run s k n inside all = record { inside = inside; free = all-below (λ j. has_kind s (k + j) kinds.Free) n all }

-- no hole in a full heap
full-bump : (k : ℕ) → k < 4 → HasKind full_heap k kinds.Bump
full-bump = all-below (λ k. has_kind full_heap k kinds.Bump) 4 refl

full-other : (kind : Kind) (k : ℕ) → HasKind full_heap k kind → kind_code kind ≡ 1
full-other kind k is = one-kind full_heap k kind kinds.Bump is (full-bump k (kind-within full_heap k kind is))

-- word 2,048 of each of four blocks
abbrev middle : ℕ → ℕ
middle k = 806 + 4096 * k + 2048

middle-place : (k : ℕ) → k < 4 → IsAddress 4 (middle k) × (block_at 4 (middle k) ≡ k) × (offset_at 4 (middle k) ≡ 2048)
middle-place k there = (record { from = omega arith; below = omega arith }, omega arith, omega arith)

no-room : (at size offset n : ℕ) → 1 ≤ size → offset ≡ 2048 → n ≡ 2048 → offset + n ≤ at → at + size ≤ 4096 → ⊥
no-room at size offset n some first rest end room = omega arith

full-tail : (k at size : ℕ) → k < 4 → 1 ≤ size → IsTail full_heap k at → at + size ≤ 4096 → ⊥
full-tail k at size there some tail room =
    let place = middle-place k there in
    let large : size_at full_heap (middle k) ≡ 2048 = eqb-true _ 2048 (all-below (λ j. nat_eq (size_at full_heap (middle j)) 2048) 4 refl k there) in
    let holds : IsHeld full_heap (middle k) = record { address = place.0; start = all-below (λ j. is_start full_heap (middle j)) 4 refl k there } in
    no-room at size (offset_at 4 (middle k)) (size_at full_heap (middle k)) some place.2 large (tail.after (middle k) holds place.1) room

full-hole : (fill : Kind) (k at size : ℕ) → 1 ≤ size → HasHole fill full_heap k at size → ⊥
full-hole kinds.Bump k at size some hole = full-tail k at size (kind-within full_heap k kinds.Bump hole.0) some hole.1 hole.2
full-hole kinds.Young k at size some hole = (let wrong : kind_code kinds.Young ≡ 1 = full-other kinds.Young k hole.0 in omega arith)
full-hole kinds.Cells k at size some hole = (let wrong : kind_code kinds.Cells ≡ 1 = full-other kinds.Cells k hole.0 in omega arith)
full-hole kinds.Immix k at size some hole = (let wrong : kind_code kinds.Immix ≡ 1 = full-other kinds.Immix k hole.0 in omega arith)
full-hole kinds.Free k at size some hole = hole
full-hole kinds.Mature k at size some hole = hole
full-hole kinds.LargeHead k at size some hole = hole
full-hole kinds.LargeTail k at size some hole = hole
full-hole kinds.Kept k at size some hole = hole

full-grant : (p : Plan) → MayGrant (rules_of p).reserve full_heap → ⊥
full-grant NoGc grant = (let wrong : 0 < 0 = grant in omega arith)
full-grant MarkSweep grant = (let wrong : 0 < 0 = grant in omega arith)
full-grant SemiSpace grant = (let wrong : 5 < 0 = grant in omega arith)
full-grant GenCopy grant = (let wrong : 5 < 0 = grant in omega arith)
full-grant Immix grant = (let wrong : 1 < 0 = grant in omega arith)
full-grant StickyImmix grant = (let wrong : 1 < 0 = grant in omega arith)

full-run : (k n : ℕ) → 1 ≤ n → IsFreeRun full_heap k n → ⊥
full-run k n some run = (let wrong : kind_code kinds.Free ≡ 1 = full-other kinds.Free (k + 0) (run.free 0 (omega arith)) in omega arith)

pub full-none : (p : Plan) (size : ℕ) → 1 ≤ size → Fits (rules_of p) full_heap size → ⊥
full-none p size some fits = elim (cases_lt 2048 size) as (λ _. ⊥) [
  | inl large ↦ (let found = to-large (rules_of p) full_heap size large fits in full-run found.block (blocks_for size) (omega arith) found.run)
  | inr small ↦ elim (to-small (rules_of p) full_heap size small fits) as (λ _. ⊥) [
    | inl hole ↦ full-hole (rules_of p).fill hole.block hole.offset size some hole.hole
    | inr grant ↦ full-grant p grant
  ]
]

-- a reserve that holds is left by a run of no blocks, and a grant leaves it
pub holds-none : (r : Reserve) (c : BlockCounts) → HoldsReserve r c ↔ IsRunGrantable r c 0
holds-none Nothing c = ((λ holds. omega arith), (λ grant. omega arith))
holds-none Copies c = ((λ holds. omega arith), (λ grant. omega arith))
holds-none Headroom c = ((λ holds. omega arith), (λ grant. omega arith))

pub grant-after : (r : Reserve) (c : BlockCounts) → c.free + c.large ≤ c.blocks → 1 ≤ c.free → IsGrantable r c ↔ HoldsReserve r (after_taking c 1)
grant-after Nothing c within some = ((λ grant. omega arith), (λ holds. omega arith))
grant-after Copies c within some = ((λ grant. omega arith), (λ holds. omega arith))
grant-after Headroom c within some = ((λ grant. omega arith), (λ holds. omega arith))

pub wrong : IsTrue false → ⊥
wrong is = (let e : false ≡ true = is in cc)

-- no two neighbouring blocks are Free
pub split-apart : (k : ℕ) → IsFreeRun split_heap k 2 → ⊥
split-apart k run =
    let inside : k + 2 ≤ 4 = run.inside in
    let both : not (has_kind split_heap (k + 0) kinds.Free) || not (has_kind split_heap (k + 1) kinds.Free) ≡ true =
    all-below (λ j. not (has_kind split_heap (j + 0) kinds.Free) || not (has_kind split_heap (j + 1) kinds.Free)) 3 refl k (omega arith) in
    not-both (has_kind split_heap (k + 0) kinds.Free) (has_kind split_heap (k + 1) kinds.Free) both (run.free 0 (omega arith)) (run.free 1 (omega arith))
  where
    not-both : (a b : Bool) → not a || not b ≡ true → IsTrue a → IsTrue b → ⊥
    not-both true true h a b = (let e : false ≡ true = h in cc)
    not-both true false h a b = wrong b
    not-both false b h a is = wrong a

-- the tail of a block in use, and no block of another kind
pub used-hole : HasHole kinds.Bump (used_heap 4) 0 4 2048
used-hole = (refl, tail-from (used_heap 4) 0 4 806 refl (record { address = record { from = lit< tt; below = lit< tt }; start = refl }) refl refl, lit< tt)

pub no-kind : (s : HeapState) (kind : Kind) → list_all (λ k. not (has_kind s k kind)) (range_with_len 0 s.blocks) ≡ true → (k : ℕ) → HasKind s k kind → ⊥
no-kind s kind none k is = not-set (has_kind s k kind) (all-below (λ j. not (has_kind s j kind)) s.blocks none k (kind-within s k kind is)) is

-- holes of the mixed heap
pub differ : (a b : ℕ) → a < b → a ≡ b → ⊥
differ a b less e = omega arith

pub mixed-tail : IsTail mixed_heap 0 15
mixed-tail = tail-from mixed_heap 0 15 1599 refl (record { address = record { from = lit< tt; below = lit< tt }; start = refl }) refl refl

pub mixed-young : IsTail mixed_heap 7 10
mixed-young = tail-from mixed_heap 7 10 30266 refl (record { address = record { from = lit< tt; below = lit< tt }; start = refl }) refl refl

pub mixed-lines : IsLineHole mixed_heap 1 2 8
mixed-lines = record { some = lit< tt; inside = lit< tt; clear = clear-lines mixed_heap 1 2 8 refl; before = λ some. refl; after = λ less. refl }

pub mixed-one : IsLineHole mixed_heap 1 11 1
mixed-one = record { some = lit< tt; inside = lit< tt; clear = clear-lines mixed_heap 1 11 1 refl; before = λ some. refl; after = λ less. refl }

pub mixed-last : IsLineHole mixed_heap 1 13 243
mixed-last = record {
  some = lit< tt;
  inside = lit< tt;
  clear = clear-lines mixed_heap 1 13 243 refl;
  before = λ some. refl;
  after = λ less. absurd (let over : 256 < 256 = less in omega arith);
}

pub mixed-cell : IsFreeCell mixed_heap 2 2048
mixed-cell = record { index = 1; start = refl; inside = lit< tt; free = wrong }

pub too-long : HasLineHole mixed_heap 1 32 129 → ⊥
too-long hole =
    let start : 32 ≡ 16 * hole.line = hole.start in
    let room : 9 ≤ hole.len = hole.room in
    let same = one-line_hole mixed_heap 1 2 2 8 hole.line hole.len mixed-lines hole.hole (omega arith) (omega arith) (omega arith) (omega arith) in
    let len : 8 ≡ hole.len = same.1 in
    omega arith

pub not-marked : HasLineHole mixed_heap 1 160 1 → ⊥
not-marked hole =
    let start : 160 ≡ 16 * hole.line = hole.start in
    let some : 1 ≤ hole.len = hole.hole.some in
    hole.hole.clear 10 (omega arith) (omega arith) refl

pub not-later : HasLineHole mixed_heap 1 48 1 → ⊥
not-later hole =
    let start : 48 ≡ 16 * hole.line = hole.start in
    let some : 1 ≤ hole.len = hole.hole.some in
    let same = one-line_hole mixed_heap 1 3 2 8 hole.line hole.len mixed-lines hole.hole (omega arith) (omega arith) (omega arith) (omega arith) in
    let line : 2 ≡ hole.line = same.0 in
    omega arith
