-- The heap while its blocks are given back, one after another.
use Rattle.std.proofs.Common.{◌≡◌, ◌≢◌, refl, sym, ◌∙◌, ap, subst, ℕ, ◌+◌, ◌*◌, ◌/◌, ◌%◌, ◌^◌, ◌<◌, ◌≤◌, ◌⊎◌, inl, inr, arith, IsTrue, nat_eq, get_or-set_other, length-set}
use Rattle.std.specs.Int.{bit_at}
use Rattle.std.proofs.lemmas.Bool.{cases_eq, cases_lt}
use Rattle.heap_layout.specs.Zones.{first, BlockWords, LineWords, StartBits, bit_of}
use Rattle.heap_layout.specs.Blocks.{kind_code, is_block_code}
use Rattle.heap_layout.specs.declared.block.Kind.{Kind}
use Rattle.heap_layout.specs.declared.block.Kind.TheVariants as kinds
use Rattle.object_model.specs.Objects.{HeapState, word_at, block_word, HasKind, owner_at}
use Rattle.object_model.specs.Lawful.{IsWellFormed, LineBitsAreExact}
use Rattle.object_model.proofs.Blocks as blocks
use Rattle.object_model.proofs.OwnedBlocks as owners
use Rattle.object_model.proofs.OneKind.{kind-code, kind-from, kind-within}
use Rattle.sessions.specs.Plans.{Rules}
use Rattle.block_sweeps.specs.Sweeping.{IsLineWord}
use Rattle.plan_api.specs.Relisting.{Relists}
use Rattle.mutator_core.specs.Closing.{GivesBack}
use Rattle.block_regions.specs.Notes.{FillsTailsOrCells, FillsHoles, without_owner}
use Rattle.block_regions.proofs.Regions.{fills-cases}
use Rattle.block_regions.proofs.BlockFrames.{SameLines}
use Rattle.block_regions.proofs.BlockSides.{ChangesSides, order-kept, exact-kept}
use Rattle.block_regions.proofs.Relisted.{IsRelisted, relisted}
use Rattle.racing_world.specs.GivingBack.{GivesBackOne, nobody, given}

-- a block as it was
pub record IsStill (old s : HeapState) (k : ℕ) : Type 0 where
  pub word : block_word s k ≡ block_word old k
  pub lines : SameLines old s k

-- a block without its owner: its line bits are exact if it had one, else as they were
pub record IsReleased (old s : HeapState) (k : ℕ) : Type 0 where
  pub word : block_word s k ≡ block_word old k % 65536
  pub exact : 0 < owner_at old k → LineBitsAreExact s k
  pub lines : owner_at old k ≡ 0 → SameLines old s k

-- the blocks below n are given back
pub record IsGivenBelow (old s : HeapState) (n : ℕ) : Type 0 where
  pub sides : ChangesSides old s
  pub done : (k : ℕ) → k < old.blocks → k < n → IsReleased old s k
  pub left : (k : ℕ) → k < old.blocks → n ≤ k → IsStill old s k

pub gives-none : (old : HeapState) → IsWellFormed old → IsGivenBelow old old 0
gives-none old order = record {
  sides = record {
    blocks = refl;
    number = refl;
    base = refl;
    extent = refl;
    words = order.row.words;
    rest = λ i other. refl;
    low = λ k there. refl;
  };
  done = λ k there below. absurd (omega arith);
  left = λ k there from. record { word = refl; lines = λ line few. refl };
}

-- One block of s loses its owner, and is relisted.
module _ (rules : Rules) (fills : FillsHoles rules.fill) (lines : rules.fill ≡ kinds.Immix → IsTrue rules.lines) (s new : HeapState) (order : IsWellFormed s) (block : ℕ) (there : block < s.blocks)
    (kind : HasKind s block rules.fill) (number : new.number ≡ s.number) (base : new.base ≡ s.base) (relists : Relists rules (without_owner s block) new block) where
  abbrev v : ℕ
  v = block_word s block % 65536

  abbrev t : HeapState
  t = without_owner s block

  low : (v < 2 ^ 64) × (v % 256 ≡ block_word s block % 256) × (v / 256 % 256 ≡ block_word s block / 256 % 256)
  low = (omega arith, omega arith, omega arith)

  order-then : IsWellFormed t
  order-then = owners.order-owned s order block v there low.0 low.1 low.2

  -- an Immix block is one that mutators fill
  lines-filled : HasKind t block kinds.Immix → IsTrue rules.lines
  lines-filled is = elim (fills-cases rules.fill fills) as (λ _. IsTrue rules.lines) [
    | inr immix ↦ lines immix
    | inl plain ↦ absurd (
        let now : block_word t block % 256 ≡ 4 = kind-code t block kinds.Immix is in
        let word : block_word t block ≡ v = blocks.block-set s block v there order.row.extent in
        let code : block_word s block % 256 ≡ kind_code rules.fill = kind-code s block rules.fill kind in
        no-lines-code rules.fill plain (omega arith))
  ]
    where
      no-lines-code : (fill : Kind) → FillsTailsOrCells fill → kind_code fill ≢ 4
      no-lines-code fill (inl (inl bump)) same = let e : kind_code fill ≡ 1 = ap kind_code bump in omega arith
      no-lines-code fill (inl (inr young)) same = let e : kind_code fill ≡ 2 = ap kind_code young in omega arith
      no-lines-code fill (inr cells) same = let e : kind_code fill ≡ 5 = ap kind_code cells in omega arith

  after : IsRelisted t new block
  after = relisted rules t new block lines-filled relists

  away : (i : ℕ) → i ≢ 18 + block → (IsLineWord s.blocks block i → ⊥) → word_at new i ≡ word_at s i
  away i other free = after.others i free ∙ get_or-set_other s.words (18 + block) i v 0 other

  own-word : block_word new block ≡ v
  own-word = after.others (18 + block) (λ among. let from : 18 + s.blocks + 4 * block ≤ 18 + block = among.after in omega arith) ∙ blocks.block-set s block v there order.row.extent

  other-word : (k : ℕ) → k < s.blocks → k ≢ block → block_word new k ≡ block_word s k
  other-word k inside other = away (18 + k) (λ same. other (omega arith)) (λ among. let from : 18 + s.blocks + 4 * block ≤ 18 + k = among.after in omega arith)

  other-lines : (k : ℕ) → k ≢ block → SameLines s new k
  other-lines k other line few =
      ap (λ b. bit_of b LineWords new.words (256 * k + line)) after.blocks
      ∙ ap (λ word. nat_eq (bit_at word ((256 * k + line) % 64)) 1)
      (away (18 + s.blocks + (256 * k + line) / 64) (λ same. omega arith) (λ among.
      let from : 18 + s.blocks + 4 * block ≤ 18 + s.blocks + (256 * k + line) / 64 = among.after in
      let below : 18 + s.blocks + (256 * k + line) / 64 < 18 + s.blocks + 4 * block + 4 = among.below in
      other (omega arith)))

  sides-one : ChangesSides s new
  sides-one = record {
    blocks = after.blocks;
    number = number;
    base = base;
    extent = after.extent ∙ length-set s.words (18 + block) v;
    words = after.fit order-then.row.words;
    rest = λ i other. away i (λ same. elim other as (λ _. ⊥) [ inl before ↦ omega arith | inr past ↦ omega arith ])
        (λ among.
        let from : 18 + s.blocks + 4 * block ≤ i = among.after in
        let below : i < 18 + s.blocks + 4 * block + 4 = among.below in
        elim other as (λ _. ⊥) [ inl before ↦ omega arith | inr past ↦ omega arith ]);
    low = λ k inside. elim (cases_eq k block) as (λ _. block_word new k % 65536 ≡ block_word s k % 65536) [
      | inl own ↦ subst (λ (q : ℕ). block_word new q % 65536 ≡ block_word s q % 65536) (sym own) (let e = own-word in omega arith)
      | inr other ↦ ap (λ n. n % 65536) (other-word k inside other)
    ];
  }

  exact-one : LineBitsAreExact new block
  exact-one = after.exact order-then.objects.lies

sides-both : (old s new : HeapState) → ChangesSides old s → ChangesSides s new → ChangesSides old new
sides-both old s new x y = record {
  blocks = y.blocks ∙ x.blocks;
  number = y.number ∙ x.number;
  base = y.base ∙ x.base;
  extent = y.extent ∙ x.extent;
  words = y.words;
  rest = λ i other. y.rest i (elim other as (λ _. (i < first s.blocks BlockWords) ⊎ (first s.blocks StartBits ≤ i)) [
    | inl before ↦ inl before
    | inr past ↦ inr (subst (λ (b : ℕ). first b StartBits ≤ i) (sym x.blocks) past)
  ]) ∙ x.rest i other;
  low = λ k below. y.low k (subst (λ (b : ℕ). k < b) (sym x.blocks) below) ∙ x.low k below;
}

-- the next block
module _ (rules : Rules) (fills : FillsHoles rules.fill) (lines : rules.fill ≡ kinds.Immix → IsTrue rules.lines) (old s : HeapState) (n : ℕ) (order : IsWellFormed old) (is : IsGivenBelow old s n) (there : n < old.blocks) where
  pub order-now : IsWellFormed s
  order-now = order-kept old s is.sides order

  still : IsStill old s n
  still = is.left n there (omega arith)

  pub code-now : IsTrue (is_block_code (block_word old n)) → IsTrue (is_block_code (block_word s n))
  code-now code = subst (λ (x : ℕ). IsTrue (is_block_code x)) (sym still.word) code

  inside : n < s.blocks
  inside = subst (λ (b : ℕ). n < b) (sym is.sides.blocks) there

  -- the block had no owner
  gives-unowned : owner_at s n ≡ 0 → IsGivenBelow old s (n + 1)
  gives-unowned none = record {
    sides = is.sides;
    done = λ k here below. elim (cases_lt k n) as (λ _. IsReleased old s k) [
      | inl before ↦ is.done k here before
      | inr from ↦ subst (IsReleased old s) (let e : n ≡ k = omega arith in e) (record {
        word = (let w = still.word in let o : block_word s n / 65536 ≡ 0 = none in omega arith);
        exact = λ some. absurd (let w = still.word in let o : block_word s n / 65536 ≡ 0 = none in let p : 0 < block_word old n / 65536 = some in omega arith);
        lines = λ nobody. still.lines;
      })
    ];
    left = λ k here from. is.left k here (omega arith);
  }

  module _ (kind : HasKind old n rules.fill) (some : 0 < owner_at s n) (new : HeapState) (relists : Relists rules (without_owner s n) new n) (number : new.number ≡ s.number) (base : new.base ≡ s.base) where
    kind-now : HasKind s n rules.fill
    kind-now = kind-from s n rules.fill inside (ap (λ w. w % 256) still.word ∙ kind-code old n rules.fill kind)

    sides : ChangesSides s new
    sides = sides-one rules fills lines s new order-now n inside kind-now number base relists

    gives-owned : IsGivenBelow old new (n + 1)
    gives-owned = record {
      sides = sides-both old s new is.sides sides;
      done = λ k here below. elim (cases_eq k n) as (λ _. IsReleased old new k) [
        | inl own ↦ subst (IsReleased old new) (sym own) (record {
          word = own-word rules fills lines s new order-now n inside kind-now number base relists ∙ ap (λ w. w % 65536) still.word;
          exact = λ owned. exact-one rules fills lines s new order-now n inside kind-now number base relists;
          lines = λ none. absurd (let w = still.word in let o : 0 < block_word s n / 65536 = some in let e : block_word old n / 65536 ≡ 0 = none in omega arith);
        })
        | inr other ↦ (let was : IsReleased old s k = is.done k here (omega arith) in
            let among : k < s.blocks = subst (λ (b : ℕ). k < b) (sym is.sides.blocks) here in
            let same : SameLines s new k = other-lines rules fills lines s new order-now n inside kind-now number base relists k other in record {
              word = other-word rules fills lines s new order-now n inside kind-now number base relists k among other ∙ was.word;
              exact = λ owned. exact-kept s new sides k same (was.exact owned);
              lines = λ none line few. same line few ∙ was.lines none line few;
            })
      ];
      left = λ k here from.
          let other : k ≢ n = λ e. omega arith in
          let was : IsStill old s k = is.left k here (omega arith) in
          let among : k < s.blocks = subst (λ (b : ℕ). k < b) (sym is.sides.blocks) here in record {
            word = other-word rules fills lines s new order-now n inside kind-now number base relists k among other ∙ was.word;
            lines = λ line few. other-lines rules fills lines s new order-now n inside kind-now number base relists k other line few ∙ was.lines line few;
          };
    }

  pub gives-next : (0 < owner_at old n → HasKind old n rules.fill) → (new : HeapState) → GivesBackOne rules s new n → IsGivenBelow old new (n + 1)
  gives-next kind new (nobody none same) = subst (λ (u : HeapState). IsGivenBelow old u (n + 1)) (sym same) (gives-unowned none)
  gives-next kind new (given some relists number base) =
      gives-owned (kind (let w = still.word in let o : 0 < block_word s n / 65536 = some in omega arith)) some new relists number base

-- all blocks are given back
pub gives-all : (old s : HeapState) (n : ℕ) → old.blocks ≤ n → IsGivenBelow old s n → GivesBack old s
gives-all old s n all is = record {
  blocks = is.sides.blocks;
  number = is.sides.number;
  base = is.sides.base;
  extent = is.sides.extent;
  words = is.sides.words;
  owners = λ k there. (is.done k there (omega arith)).word;
  listed = λ k some. elim (cases_lt k old.blocks) as (λ _. LineBitsAreExact s k) [
    | inl there ↦ (is.done k there (omega arith)).exact some
    | inr past ↦ record {
      marked = λ line immix few marked. absurd (beyond k past immix);
      touched = λ line immix few touched. absurd (beyond k past immix);
    }
  ];
  lines = λ k line there few none. (is.done k there (omega arith)).lines none line few;
  rest = λ i other. is.sides.rest i (elim other as (λ _. (i < first old.blocks BlockWords) ⊎ (first old.blocks StartBits ≤ i)) [ inl globals ↦ inl globals.1 | inr past ↦ inr past ]);
}
  where
    beyond : (k : ℕ) → old.blocks ≤ k → HasKind s k kinds.Immix → ⊥
    beyond k past immix =
        let there : k < s.blocks = kind-within s k kinds.Immix immix in
        let same : s.blocks ≡ old.blocks = is.sides.blocks in
        omega arith
