-- What is left of a hole of clear lines for the owner of its block: where it comes from, how it stays, and what may lie in it.
use Rattle.std.proofs.Common.{◌≡◌, refl, sym, ◌∙◌, ap, subst, ℕ, ◌+◌, ◌*◌, ◌-◌, ◌/◌, ◌<◌, ◌≤◌, ◌⊎◌, inl, inr, arith, IsTrue}
use Rattle.std.specs.Prelude.{max}
use Rattle.std.proofs.lemmas.Bool.{cases_lt}
use Rattle.heap_layout.specs.Zones.{heap_of, block_at, offset_at, block_start}
use Rattle.heap_layout.specs.declared.block.Kind.TheVariants as kinds
use Rattle.heap_layout.specs.declared.region.Region.{Region}
use Rattle.object_model.specs.Objects.{HeapState, HasKind, IsHeld, IsInExtent, size_at, line_marked}
use Rattle.object_model.specs.Lawful.{IsClear, LineBitsAreExact}
use Rattle.object_model.proofs.Lines.{word-touched}
use Rattle.sessions.specs.Fitting.{IsLineHole, HasLineHole, HasHole}
use Rattle.plan_api.specs.Holes.{IsLinePart, IsFirstPart}
use Rattle.block_regions.specs.Regions.{HasObjectEndingAt, IsLinesLeft}
use Rattle.block_regions.proofs.BlockFrames.{SameBlock, AddsInBlock, SameLines}

-- a hole of a block without marked lines begins at line 0
pub hole-first : (s : HeapState) (k line len : ℕ) → ((x : ℕ) → x < 256 → IsTrue (line_marked s k x) → ⊥) → IsLineHole s k line len → line ≡ 0
hole-first s k line len none hole =
    let within : line + len ≤ 256 = hole.inside in
    let some : 1 ≤ len = hole.some in
    elim (cases_lt 0 line) as (λ _. line ≡ 0) [
      | inl later ↦ absurd (none (line - 1) (omega arith) (hole.before later))
      | inr not ↦ omega arith
    ]

-- a word of an object of an Immix block whose line bits are exact lies in a marked line
pub word-marked : (s : HeapState) (k a i : ℕ) → HasKind s k kinds.Immix → LineBitsAreExact s k → IsHeld s a → IsInExtent s a i → block_at s.blocks i ≡ k
    → IsTrue (line_marked s k (offset_at s.blocks i / 16))
word-marked s k a i kind exact holds inside here =
    let base : heap_of s.blocks ≤ a = holds.address.from in
    let from : a ≤ i = inside.from in
    let line : ℕ = offset_at s.blocks i / 16 in
    exact.touched line kind (omega arith)
    (record { object = a; held = holds; touches = word-touched s.blocks a (size_at s a) (256 * k + line) i base inside (omega arith) })

-- the first part of a hole with room is a region
first-left : (s : HeapState) (k size : ℕ) (r : Region) → HasKind s k kinds.Immix → LineBitsAreExact s k → IsLinePart s k 0 r.next r.end → r.next + size ≤ r.end → IsLinesLeft s k r
first-left s k size r kind exact part room =
    let within : part.line + part.len ≤ 256 = part.hole.inside in
    let starts : r.next ≡ 16 * max part.line ((0 + 15) / 16) = part.starts in
    let ends : r.end ≡ 16 * (part.line + part.len) = part.ends in
    record {
      line = part.line;
      len = part.len;
      hole = part.hole;
      begins = inl (omega arith);
      inside = omega arith;
      end = part.ends;
      clear = λ a i holds own inside here from below.
          part.hole.clear (offset_at s.blocks i / 16) (omega arith) (omega arith) (word-marked s k a i kind exact holds inside here);
      rest = λ a i holds own inside here past. word-marked s k a i kind exact holds inside here;
    }

-- the first hole with room of a block whose line bits are exact is a region
pub here-first : (s : HeapState) (k size : ℕ) (r : Region) → LineBitsAreExact s k → IsFirstPart kinds.Immix s k 0 size r → IsLinesLeft s k r
here-first s k size r exact is = first-left s k size r is.hole.part.0 exact is.hole.part.1 is.hole.room

-- the hole of a part with room that begins where a hole ends, or later, is another one
next-line : (s : HeapState) (k size line len end : ℕ) (q : Region) → IsLineHole s k line len → end ≡ 16 * (line + len) → 0 < size → (part : IsLinePart s k end q.next q.end) → q.next + size ≤ q.end
    → (line + len ≤ part.line) × (q.next ≡ 16 * part.line)
next-line s k size line len end q hole e some part room =
    let within : part.line + part.len ≤ 256 = part.hole.inside in
    let starts : q.next ≡ 16 * max part.line ((end + 15) / 16) = part.starts in
    let ends : q.end ≡ 16 * (part.line + part.len) = part.ends in
    elim (cases_lt part.line (line + len)) as (λ _. (line + len ≤ part.line) × (q.next ≡ 16 * part.line)) [
      | inl before ↦ absurd (part.hole.clear (line + len) (omega arith) (omega arith) (hole.after (omega arith)))
      | inr past ↦ (omega arith, omega arith)
    ]

-- all of a clear block is a region
pub here-clear : (s : HeapState) (k : ℕ) → IsClear s k → IsLinesLeft s k (record { next = 0; end = 4096 })
here-clear s k clear = record {
  line = 0;
  len = 256;
  hole = record {
    some = omega arith;
    inside = omega arith;
    clear = λ line from below set. clear.lines line below set;
    before = λ later. absurd (omega arith);
    after = λ less. absurd (omega arith);
  };
  begins = inl refl;
  inside = omega arith;
  end = refl;
  clear = λ a i holds own inside here from below. clear.empty a i holds inside here;
  rest = λ a i holds own inside here past. absurd (clear.empty a i holds inside here);
}

-- a hole of lines stays while the line bits of its block do
pub line-hole-as : (s t : HeapState) (k from len : ℕ) → SameLines s t k → IsLineHole s k from len → IsLineHole t k from len
line-hole-as s t k from len same hole =
    let within : from + len ≤ 256 = hole.inside in
    let some : 1 ≤ len = hole.some in
    record {
      some = hole.some;
      inside = hole.inside;
      clear = λ line above below set. hole.clear line above below (sym (same line (omega arith)) ∙ set);
      before = λ later. same (from - 1) (omega arith) ∙ hole.before later;
      after = λ less. same (from + len) less ∙ hole.after less;
    }

-- the region stays while the objects and the line bits of its block do
module _ (s t : HeapState) (k : ℕ) (same : SameBlock s t k) (lines : SameLines s t k) where
  -- an object ends where it did
  ends-as : (at : ℕ) → HasObjectEndingAt s k at → HasObjectEndingAt t k at
  ends-as at last =
      let now = same.held last.0 last.1 last.2 in (
        last.0,
        now.0,
        subst (λ (b : ℕ). block_at b last.0 ≡ k) (sym same.blocks) last.2,
        subst (λ (b : ℕ). offset_at b last.0 + size_at t last.0 ≡ at) (sym same.blocks) (ap (λ (n : ℕ). offset_at s.blocks last.0 + n) now.1 ∙ last.3),
      )

  -- a word of an object of the block was one
  word-then : (a i : ℕ) → IsHeld t a → block_at t.blocks a ≡ k → IsInExtent t a i → IsHeld s a × (block_at s.blocks a ≡ k) × IsInExtent s a i
  word-then a i holds own inside =
      let mine : block_at s.blocks a ≡ k = subst (λ (b : ℕ). block_at b a ≡ k) same.blocks own in
      let was = same.back a holds mine in
      (was, mine, record { from = inside.from; below = subst (λ (n : ℕ). i < a + n) (same.held a was mine).1 inside.below })

  pub here-as : (r : Region) → IsLinesLeft s k r → IsLinesLeft t k r
  here-as r is = record {
    line = is.line;
    len = is.len;
    hole = line-hole-as s t k is.line is.len lines is.hole;
    begins = elim is.begins as (λ _. (r.next ≡ 16 * is.line) ⊎ ((16 * is.line ≤ r.next) × HasObjectEndingAt t k r.next)) [
      | inl at ↦ inl at
      | inr past ↦ inr (past.0, ends-as r.next past.1)
    ];
    inside = is.inside;
    end = is.end;
    clear = λ a i holds own inside here from below.
        let was = word-then a i holds own inside in
        is.clear a i was.0 was.1 was.2 (subst (λ (b : ℕ). block_at b i ≡ k) same.blocks here) (subst (λ (b : ℕ). r.next ≤ offset_at b i) same.blocks from)
        (subst (λ (b : ℕ). offset_at b i < r.end) same.blocks below);
    rest = λ a i holds own inside here past.
        let was = word-then a i holds own inside in
        let set = is.rest a i was.0 was.1 was.2 (subst (λ (b : ℕ). block_at b i ≡ k) same.blocks here) (subst (λ (b : ℕ). r.end ≤ offset_at b i) same.blocks past) in
        subst (λ (b : ℕ). IsTrue (line_marked t k (offset_at b i / 16))) (sym same.blocks) (lines (offset_at s.blocks i / 16) (omega arith) ∙ set);
  }

-- and after one object more, at the start of the region, what is left of it is the region
module _ (s t : HeapState) (k at size : ℕ) (adds : AddsInBlock s t k at size) (lines : SameLines s t k) where
  abbrev a : ℕ
  a = block_start s.blocks k + at

  -- the block and the offset of the new object
  place : (block_at s.blocks a ≡ k) × (offset_at s.blocks a ≡ at)
  place = let there : k < s.blocks = adds.there in let below : at < 4096 = adds.below in (omega arith, omega arith)

  -- a word of an object of the block is one of the new object, or was one
  word-cases : (x i : ℕ) → IsHeld t x → block_at t.blocks x ≡ k → IsInExtent t x i
      → ((x ≡ a) × (a ≤ i) × (i < a + size)) ⊎ (IsHeld s x × (block_at s.blocks x ≡ k) × IsInExtent s x i)
  word-cases x i holds own inside =
      let mine : block_at s.blocks x ≡ k = subst (λ (b : ℕ). block_at b x ≡ k) adds.blocks own in
      elim (adds.back x holds mine) as (λ _. ((x ≡ a) × (a ≤ i) × (i < a + size)) ⊎ (IsHeld s x × (block_at s.blocks x ≡ k) × IsInExtent s x i)) [
        | inl e ↦ inl (
          e,
          subst (λ (q : ℕ). q ≤ i) e inside.from,
          subst (λ (n : ℕ). i < a + n) adds.words (subst (λ (q : ℕ). i < q + size_at t q) e inside.below),
        )
        | inr was ↦ inr (was, mine, record { from = inside.from; below = subst (λ (n : ℕ). i < x + n) (adds.held x was mine).1 inside.below })
      ]

  -- no word of the new object lies after its end
  new-below : (i : ℕ) → at + size ≤ 4096 → a ≤ i → i < a + size → at + size ≤ offset_at s.blocks i → ⊥
  new-below i room from below past = omega arith

  pub here-after : (r : Region) → r.next ≡ at → r.next + size ≤ r.end → IsLinesLeft s k r → IsLinesLeft t k (record { next = r.next + size; end = r.end })
  here-after r begins room is =
      let within : is.line + is.len ≤ 256 = is.hole.inside in
      let ends : r.end ≡ 16 * (is.line + is.len) = is.end in
      let few : at + size ≤ 4096 = omega arith in
      record {
        line = is.line;
        len = is.len;
        hole = line-hole-as s t k is.line is.len lines is.hole;
        begins = inr (
          elim is.begins as (λ _. 16 * is.line ≤ r.next + size) [ inl front ↦ (let e : r.next ≡ 16 * is.line = front in omega arith) | inr past ↦ (let e : 16 * is.line ≤ r.next = past.0 in omega arith) ],
          (
            a,
            adds.born,
            subst (λ (b : ℕ). block_at b a ≡ k) (sym adds.blocks) place.0,
            (let words : size_at t a ≡ size = adds.words in let offset : offset_at t.blocks a ≡ at = subst (λ (b : ℕ). offset_at b a ≡ at) (sym adds.blocks) place.1 in omega arith),
          ),
        );
        inside = room;
        end = is.end;
        clear = λ x i holds own inside here from below.
            let from_then : r.next + size ≤ offset_at s.blocks i = subst (λ (b : ℕ). r.next + size ≤ offset_at b i) adds.blocks from in
            elim (word-cases x i holds own inside) as (λ _. ⊥) [
              | inl new ↦ new-below i few new.1 new.2 (omega arith)
              | inr was ↦ is.clear x i was.0 was.1 was.2 (subst (λ (b : ℕ). block_at b i ≡ k) adds.blocks here) (omega arith) (subst (λ (b : ℕ). offset_at b i < r.end) adds.blocks below)
            ];
        rest = λ x i holds own inside here past.
            let past_then : r.end ≤ offset_at s.blocks i = subst (λ (b : ℕ). r.end ≤ offset_at b i) adds.blocks past in
            let set : IsTrue (line_marked s k (offset_at s.blocks i / 16)) = elim (word-cases x i holds own inside) as (λ _. IsTrue (line_marked s k (offset_at s.blocks i / 16))) [
              | inl new ↦ absurd (new-below i few new.1 new.2 (omega arith))
              | inr was ↦ is.rest x i was.0 was.1 was.2 (subst (λ (b : ℕ). block_at b i ≡ k) adds.blocks here) past_then
            ] in
            subst (λ (b : ℕ). IsTrue (line_marked t k (offset_at b i / 16))) (sym adds.blocks) (lines (offset_at s.blocks i / 16) (omega arith) ∙ set);
      }

-- a hole of an Immix block depends on its kind and its line bits alone
pub lines-hole-as : (s t : HeapState) (k at size : ℕ) → HasKind t k kinds.Immix → SameLines s t k → HasHole kinds.Immix s k at size → HasHole kinds.Immix t k at size
lines-hole-as s t k at size kind same hole =
    let lines : HasLineHole s k at size = hole.1 in
    (kind, record { line = lines.line; len = lines.len; start = lines.start; hole = line-hole-as s t k lines.line lines.len same lines.hole; room = lines.room })

-- a region lies in its block
pub here-inside : (s : HeapState) (k : ℕ) (r : Region) → IsLinesLeft s k r → (r.next ≤ r.end) × (r.end ≤ 4096)
here-inside s k r is =
    let within : is.line + is.len ≤ 256 = is.hole.inside in
    let ends : r.end ≡ 16 * (is.line + is.len) = is.end in
    (is.inside, omega arith)

-- a block without marked lines, whose region begins later, has an object
pub here-some : (s : HeapState) (k : ℕ) (r : Region) → IsLinesLeft s k r → ((x : ℕ) → x < 256 → IsTrue (line_marked s k x) → ⊥) → 0 < r.next
    → (a : ℕ) × IsHeld s a × (block_at s.blocks a ≡ k)
here-some s k r is none later = elim is.begins as (λ _. (a : ℕ) × IsHeld s a × (block_at s.blocks a ≡ k)) [
  | inl at ↦ absurd (let starts : r.next ≡ 16 * is.line = at in let first = hole-first s k is.line is.len none is.hole in omega arith)
  | inr past ↦ (let last = past.1 in (last.0, last.1, last.2))
]

-- and the first hole with room after a region is a region and a hole
pub here-next : (s : HeapState) (k size : ℕ) (r q : Region) → 0 < size → IsLinesLeft s k r → IsFirstPart kinds.Immix s k r.end size q
    → IsLinesLeft s k q × HasHole kinds.Immix s k q.next size × (r.end ≤ q.next)
here-next s k size r q some is first =
    let kind : HasKind s k kinds.Immix = first.hole.part.0 in
    let part : IsLinePart s k r.end q.next q.end = first.hole.part.1 in
    let room : q.next + size ≤ q.end = first.hole.room in
    let within : part.line + part.len ≤ 256 = part.hole.inside in
    let e : r.end ≡ 16 * (is.line + is.len) = is.end in
    let ends : q.end ≡ 16 * (part.line + part.len) = part.ends in
    let next = next-line s k size is.line is.len r.end q is.hole is.end some part room in
    let after : is.line + is.len ≤ part.line = next.0 in
    let starts : q.next ≡ 16 * part.line = next.1 in (
      record {
        line = part.line;
        len = part.len;
        hole = part.hole;
        begins = inl starts;
        inside = omega arith;
        end = part.ends;
        clear = λ a i holds own inside here from below.
            part.hole.clear (offset_at s.blocks i / 16) (omega arith) (omega arith) (is.rest a i holds own inside here (omega arith));
        rest = λ a i holds own inside here past. is.rest a i holds own inside here (omega arith);
      },
      (kind, record { line = part.line; len = part.len; start = starts; hole = part.hole; room = omega arith }),
      omega arith,
    )
