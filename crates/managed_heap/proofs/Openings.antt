-- An object is written at the start of a hole, or of a Free block that gets its word first. Then its block is relisted.
use Rattle.std.proofs.Common.{◌≡◌, ◌≢◌, refl, sym, ◌∙◌, ap, subst, inl, inr, ℕ, ◌+◌, ◌*◌, ◌<◌, ◌≤◌, arith, IsTrue, List}
use Rattle.std.specs.List.{Contains}
use Rattle.std.proofs.Math.Logic.{∥∥₁_elim}
use Rattle.std.proofs.lemmas.Bool.{cases_Bool, cases_eq, true≢false}
use Rattle.heap_layout.specs.Zones.{BlockWords, LineWords, bit_of, first, block_at, offset_at, block_start}
use Rattle.heap_layout.specs.Blocks.{code_of}
use Rattle.heap_layout.specs.declared.block.Kind.{Kind}
use Rattle.heap_layout.specs.declared.block.Kind.TheVariants as kinds
use Rattle.ideal_heap.specs.declared.name.Name.{Name}
use Rattle.ideal_heap.specs.Names.{IsName, name}
use Rattle.ideal_heap.specs.Ideal.{IdealHeap, with_new}
use Rattle.object_model.specs.Objects.{HeapState, with_words, word_at, block_word, has_kind, HasKind, line_marked, IsHeld, name_at, size_of}
use Rattle.object_model.specs.Lawful.{IsLawful, IsLawfulButLines, IsWellFormed, IsTouched, LineBitsAreExact}
use Rattle.object_model.specs.Graphs.{MutatorState, Represents, IsReachable, roots_of, numbers_of, add_birth, set_register_of}
use Rattle.object_model.specs.Changes.{WritesObject}
use Rattle.object_model.specs.Births.{IsRoom}
use Rattle.object_model.proofs.Births as births
use Rattle.object_model.proofs.Births.{Adds}
use Rattle.object_model.proofs.Blocks as blocks
use Rattle.object_model.proofs.Blocks.{SameHeap, set_block}
use Rattle.object_model.proofs.BornHeaps as born
use Rattle.object_model.proofs.Frames as frames
use Rattle.object_model.proofs.Lines.{touched-as}
use Rattle.object_model.proofs.OneKind.{kind-within}
use Rattle.object_model.proofs.Representation as standing
use Rattle.object_model.proofs.TakenBlocks as taken
use Rattle.sessions.specs.Plans.{Rules}
use Rattle.sessions.specs.Fitting.{HasHole, class_for}
use Rattle.sessions.specs.Sessions.{UsesBlock, ChangesBlocks, AddsObject, block_of_kind}
use Rattle.sessions.proofs.PlacedSmallObjects as placing
use Rattle.sessions.proofs.HoleRooms.{hole-kind, hole-not-free, hole-within, hole-small, hole-room, taken-hole, valid-word}
use Rattle.plan_api.specs.Relisting.{Relists}
use Rattle.block_regions.specs.Notes.{FillsHoles}
use Rattle.block_regions.proofs.Relisted.{IsRelisted, relisted as is-relisted}
use Rattle.managed_heap.proofs.Relisted as relisted
use Rattle.managed_heap.proofs.Rooms.{FillsByLines, holed, lines-filled}

-- In the heap with the words w a hole of block k begins at this offset and has room. From s on, at most the block's word
-- changed, if the block was Free.
pub record Opens (fill : Kind) (s : HeapState) (w : List ℕ) (k at size : ℕ) : Type 0 where
  pub same : SameHeap s w
  pub front : (i : ℕ) → i < first s.blocks BlockWords → word_at (with_words s w) i ≡ word_at s i
  pub others : (j : ℕ) → j < s.blocks → j ≢ k → block_word (with_words s w) j ≡ block_word s j
  pub lines : (j line : ℕ) → line_marked (with_words s w) j line ≡ line_marked s j line
  pub lawful : IsLawful (with_words s w)
  pub hole : HasHole fill (with_words s w) k at size
  pub free : HasKind s k kinds.Free → block_word (with_words s w) k ≡ code_of (block_of_kind fill (class_for fill size))
  pub used : (HasKind s k kinds.Free → ⊥) → block_word (with_words s w) k ≡ block_word s k

pub opens-hole : (fill : Kind) (s : HeapState) (k at size : ℕ) → IsLawful s → HasHole fill s k at size → Opens fill s s.words k at size
opens-hole fill s k at size lawful hole = record {
  same = record { words = λ i above. refl; globals = λ g small. refl; starts = λ x. refl; pins = λ x. refl; unlogs = λ x. refl };
  front = λ i before. refl;
  others = λ j there other. refl;
  lines = λ j line. refl;
  lawful = lawful;
  hole = hole;
  free = λ free. absurd (hole-not-free fill s k at size hole free);
  used = λ other. refl;
}

pub opens-free : (fill : Kind) (s : HeapState) (k size : ℕ) → FillsHoles fill → IsLawful s → HasKind s k kinds.Free → size ≤ 2048
    → Opens fill s (set_block s k (code_of (block_of_kind fill (class_for fill size)))) k 0 size
opens-free fill s k size fills lawful free small =
    let code : ℕ = code_of (block_of_kind fill (class_for fill size)) in
    let there : k < s.blocks = kind-within s k kinds.Free free in
    let hole : HasHole fill (with_words s (set_block s k code)) k 0 size = taken-hole fill s k size (holed fill fills) lawful free small in
    record {
      same = blocks.same_heap s k code there;
      front = λ i before. blocks.word-other s k code there i (λ e. omega arith);
      others = λ j here other. blocks.block-other s k code there j other;
      lines = blocks.lines-same s k code there;
      lawful = taken.lawful s k (block_of_kind fill (class_for fill size)) lawful free (valid-word fill size (holed fill fills) small) refl
          (hole-small fill (with_words s (set_block s k code)) k 0 size hole);
      hole = hole;
      free = λ is. blocks.block-set s k code there lawful.but_lines.order.row.extent;
      used = λ other. absurd (other free);
    }

module _ (rules : Rules) (s : HeapState) (w1 w2 : List ℕ) (k at refs nums : ℕ) (n : Name) (opens : Opens rules.fill s w1 k at (size_of refs nums)) (small : size_of refs nums ≤ 2048)
    (few_refs : refs ≤ 1024) (few_nums : nums ≤ 60000) (named : IsName n) (fresh : (x : ℕ) → IsHeld s x → name_at s x ≢ n)
    (writes : WritesObject (with_words s w1) (with_words s w2) (block_start s.blocks k + at) n refs nums) where
  abbrev between : HeapState
  between = with_words s w1

  abbrev after : HeapState
  after = with_words s w2

  abbrev a : ℕ
  a = block_start s.blocks k + at

  order : IsWellFormed between
  order = opens.lawful.but_lines.order

  there : k < s.blocks
  there = kind-within between k rules.fill (hole-kind rules.fill between k at (size_of refs nums) opens.hole)

  within : at + size_of refs nums ≤ 4096
  within = hole-within rules.fill between k at (size_of refs nums) opens.hole

  pub block-is : block_at s.blocks a ≡ k
  block-is = (let fits : at + size_of refs nums ≤ 4096 = within in let below : at < 4096 = omega arith in omega arith)

  pub offset-is : offset_at s.blocks a ≡ at
  offset-is = (let fits : at + size_of refs nums ≤ 4096 = within in let below : at < 4096 = omega arith in omega arith)

  fresh-between : (x : ℕ) → IsHeld between x → name_at between x ≢ n
  fresh-between x holds e = (let before : IsHeld s x = blocks.held-before s w1 opens.same x holds in fresh x before (sym (blocks.name-same s w1 opens.same x before) ∙ e))

  room : IsRoom between a n refs nums
  room = hole-room rules.fill between k at refs nums n order (opens.lawful.lines k) opens.hole small few_refs few_nums named fresh-between

  object : AddsObject s after a refs nums
  object = placing.adds s w1 w2 opens.same k opens.front opens.others a n refs nums writes order room block-is

  changes : ChangesBlocks s after k 1
  changes = placing.changes s w1 w2 opens.same k opens.front opens.others a n refs nums writes order room block-is

  words-same : (j : ℕ) → j < s.blocks → block_word after j ≡ block_word between j
  words-same = births.block_words between w2 a n refs nums writes room.vacant.address

  uses : UsesBlock rules s after k (size_of refs nums)
  uses = record {
    free = λ is. words-same k there ∙ opens.free is;
    hole = λ other. words-same k there ∙ opens.used other;
    others = placing.block-other s w1 w2 opens.same k opens.front opens.others a n refs nums writes order room block-is;
  }

  lines-same : (j line : ℕ) → j < s.blocks → line < 256 → line_marked after j line ≡ line_marked between j line
  lines-same = births.lines-same between w2 a n refs nums writes room.vacant.address

  one_more : Adds between w2 a n refs nums
  one_more = births.adds between w2 a n refs nums writes room.vacant.address

  new-name : name_at after a ≡ n
  new-name = births.new-name between w2 a n refs nums one_more room.vacant

  -- the heap is lawful but for the line bits of the object's block
  pub but_lines : IsLawfulButLines after
  but_lines = born.but_lines-small between after a refs nums n order room writes opens.lawful.but_lines

  lines-other : (j : ℕ) → j ≢ k → LineBitsAreExact after j
  lines-other j other = births.lines-born between w2 a n refs nums one_more words-same order room j
      (λ line is small was. lines-same j line (kind-within between j kinds.Immix is) small ∙ was)
      (λ line is small set. inl (sym (lines-same j line (kind-within between j kinds.Immix is) small) ∙ set))
      (λ line is small here. absurd (other (births.covered-block between w2 a n refs nums one_more words-same order room j line small here ∙ block-is)))
      (opens.lawful.lines j)

  represents-written : (ms : List MutatorState) (h : IdealHeap) (m d : ℕ) → IsWellFormed s → Represents s ms h → n ≡ name m (h.births m + 1) → Contains (numbers_of ms) m → d < 16
      → Represents after (set_register_of (add_birth ms m) m d a) (with_new h m d refs nums)
  represents-written ms h m d well represents e known few =
      let before : Represents between ms h =
      standing.represents between ms h (IsReachable s (roots_of ms))
      (blocks.models-after s w1 opens.same ms h (IsReachable s (roots_of ms)) (standing.models s ms h well represents) order) in
      born.represents-small between after ms h m d a refs nums order before known few
      (subst (λ (q : Name). IsRoom between a q refs nums) e room) (subst (λ (q : Name). WritesObject between after a q refs nums) e writes)

  -- the block has the kind that mutators fill still
  kind-before : (kind : Kind) → HasKind after k kind → HasKind between k kind
  kind-before = frames.HasKind-back between w2 words-same k

  not-free : HasKind after k kinds.Free → ⊥
  not-free free = hole-not-free rules.fill between k at (size_of refs nums) opens.hole (kind-before kinds.Free free)

  -- then the block is relisted
  module _ (w3 : List ℕ) (filled : FillsByLines rules) (relists : Relists rules after (with_words s w3) k) where
    abbrev new : HeapState
    new = with_words s w3

    listed : IsRelisted after new k
    listed = is-relisted rules after new k
        (λ immix. lines-filled rules between k filled (hole-kind rules.fill between k at (size_of refs nums) opens.hole) (kind-before kinds.Immix immix)) relists

    pub object-new : AddsObject s new a refs nums
    object-new = relisted.adds s w2 w3 k there listed a refs nums object

    pub changes-new : ChangesBlocks s new k 1
    changes-new = relisted.changes s w2 w3 k there listed k 1 changes

    pub uses-new : UsesBlock rules s new k (size_of refs nums)
    uses-new = relisted.uses s w2 w3 k there listed rules (size_of refs nums) uses

    pub lawful-new : IsLawful new
    lawful-new = relisted.lawful after w3 k there listed not-free but_lines lines-other

    pub name-new : name_at new a ≡ n
    name-new = blocks.name-same after w3 (relisted.same after w3 k there listed) a object.held ∙ new-name

    pub represents-new : (ms : List MutatorState) (h : IdealHeap) (m d : ℕ) → IsWellFormed s → Represents s ms h → n ≡ name m (h.births m + 1) → Contains (numbers_of ms) m → d < 16
        → Represents new (set_register_of (add_birth ms m) m d a) (with_new h m d refs nums)
    represents-new ms h m d well represents e known few =
        relisted.represents after w3 k there listed (set_register_of (add_birth ms m) m d a) (with_new h m d refs nums) but_lines.order
        (represents-written ms h m d well represents e known few)

    -- no line bit is cleared
    pub lines-new : (j line : ℕ) → j < s.blocks → line < 256 → IsTrue (line_marked s j line) → IsTrue (line_marked new j line)
    lines-new j line inside small set = elim (cases_eq j k) as (λ _. IsTrue (line_marked new j line)) [
      | inr other ↦ relisted.line-other after w3 k there listed j line small other ∙ was
      | inl own ↦ elim (cases_Bool (has_kind after k kinds.Immix)) as (λ _. IsTrue (line_marked new j line)) [
        | inl immix ↦ subst (λ (q : ℕ). IsTrue (line_marked new q line)) (sym own) (lines-own own immix)
        | inr none ↦ ap (λ words. bit_of s.blocks LineWords words (256 * j + line)) (relisted.words-kept rules after new k (λ immix. true≢false (sym immix ∙ none)) relists) ∙ was
      ]
    ]
      where
        was : IsTrue (line_marked after j line)
        was = lines-same j line inside small ∙ opens.lines j line ∙ set

        lines-own : j ≡ k → HasKind after k kinds.Immix → IsTrue (line_marked new k line)
        lines-own own immix = elim (cases_Bool (line_marked new k line)) as (λ _. IsTrue (line_marked new k line)) [
          | inl marked ↦ marked
          | inr clear ↦ absurd (∥∥₁_elim ((opens.lawful.lines k).marked line (kind-before kinds.Immix immix) small
              (subst (λ (q : ℕ). IsTrue (line_marked between q line)) own (opens.lines j line ∙ set))) (λ x. absurd x) (λ t.
              true≢false (sym ((lawful-new.lines k).touched line (frames.HasKind-from after w3 (relisted.block-same after w3 k there listed) k kinds.Immix immix) small
              (blocks.touched-after after w3 (relisted.same after w3 k there listed) k line (touched-born t))) ∙ clear)))
        ]
          where
            touched-born : IsTouched between k line → IsTouched after k line
            touched-born t = touched-as between after k line t refl (births.held-after between w2 a n refs nums one_more room.vacant t.object t.held)
                (births.size-same between w2 a n refs nums one_more room.vacant t.object t.held)
