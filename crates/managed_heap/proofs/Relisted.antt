-- An object was written, and then its block is relisted: what stays, and what is lawful.
use Rattle.std.proofs.Common.{◌≡◌, ◌≢◌, refl, sym, ◌∙◌, ap, subst, ℕ, ◌+◌, ◌*◌, ◌-◌, ◌/◌, ◌%◌, ◌<◌, ◌≤◌, inl, inr, arith, Bool, true, false, ◌&&◌, IsTrue, List, nat_eq}
use Rattle.std.specs.Int.{bit_at}
use Rattle.std.proofs.lemmas.Bool.{cases_Bool, cases_eq, and_parts}
use Rattle.heap_layout.specs.Zones.{Zone, Globals, BlockWords, LineWords, StartBits, PinBits, UnlogBits, first, heap_of, address_bit}
use Rattle.heap_layout.specs.declared.block.Kind.TheVariants as kinds
use Rattle.heap_layout.specs.Blocks.{is_block_code}
use Rattle.ideal_heap.specs.Ideal.{IdealHeap}
use Rattle.object_model.specs.Objects.{HeapState, with_words, word_at, block_word, has_kind, HasKind, line_marked}
use Rattle.object_model.specs.Lawful.{IsLawful, IsLawfulButLines, IsWellFormed, IsReadableBlock, LineBitsAreExact}
use Rattle.object_model.specs.Graphs.{MutatorState, Represents, IsReachable, roots_of}
use Rattle.object_model.proofs.Blocks as blocks
use Rattle.object_model.proofs.Blocks.{SameHeap}
use Rattle.object_model.proofs.Frames as frames
use Rattle.object_model.proofs.Marks.{mark-same}
use Rattle.object_model.proofs.Representation as standing
use Rattle.sessions.specs.Plans.{Rules}
use Rattle.sessions.specs.Sessions.{AddsObject, UsesBlock, ChangesBlocks}
use Rattle.block_sweeps.specs.Sweeping.{AreApart}
use Rattle.plan_api.specs.Relisting.{RelistsIf, Relists}
use Rattle.plan_api.proofs.BlockViews.{orderly-apart}
use Rattle.block_regions.proofs.BlockSides.{ChangesSides, order-kept, exact-kept}
use Rattle.block_regions.proofs.Relisted.{IsRelisted}

-- a block can be read, and its objects share no word, if the heap is lawful but for its line bits
pub readable : (s : HeapState) (k : ℕ) → IsLawfulButLines s → k < s.blocks → IsReadableBlock s k × AreApart s k
readable s k lawful there = (
  record {
    extent = lawful.order.row.extent;
    block = there;
    code = (lawful.blocks k there).code;
    objects = λ a holds here. ((lawful.order.objects.headers a holds).object, lawful.order.objects.lies a holds);
  },
  orderly-apart s k lawful.order,
)

pub relists-blocks : (r : Rules) (s t : HeapState) (k : ℕ) → Relists r s t k → t.blocks ≡ s.blocks
relists-blocks r s t k relists = same-blocks (r.lines && has_kind s k kinds.Immix) relists
  where
    same-blocks : (b : Bool) → RelistsIf b s t k → t.blocks ≡ s.blocks
    same-blocks true is = is.marked.rest.blocks
    same-blocks false is = is.0

-- in a block of another kind nothing changes
pub words-kept : (r : Rules) (s t : HeapState) (k : ℕ) → (HasKind s k kinds.Immix → ⊥) → Relists r s t k → t.words ≡ s.words
words-kept r s t k other relists = elim (cases_Bool (r.lines && has_kind s k kinds.Immix)) as (λ _. t.words ≡ s.words) [
  | inl is ↦ absurd (other (and_parts r.lines (has_kind s k kinds.Immix) is).1)
  | inr none ↦ (subst (λ (b : Bool). RelistsIf b s t k) none relists).1
]

module _ (s : HeapState) (w : List ℕ) (k : ℕ) (there : k < s.blocks) (is : IsRelisted s (with_words s w) k) where
  abbrev after : HeapState
  after = with_words s w

  pub before : (i : ℕ) → i < first s.blocks LineWords → word_at after i ≡ word_at s i
  before i below = is.others i (λ line. let from = line.after in omega arith)

  beyond : (i : ℕ) → first s.blocks StartBits ≤ i → word_at after i ≡ word_at s i
  beyond i past = is.others i (λ line. let below = line.below in omega arith)

  pub block-same : (j : ℕ) → j < s.blocks → block_word after j ≡ block_word s j
  block-same j inside = before (first s.blocks BlockWords + j) (omega arith)

  bits : (z : Zone) (x : ℕ) → first s.blocks StartBits ≤ first s.blocks z → address_bit s.blocks z w x ≡ address_bit s.blocks z s.words x
  bits z x above = mark-same s.blocks z s.words w x (λ address. ap (λ v. nat_eq (bit_at v ((x - heap_of s.blocks) % 64)) 1)
      (beyond (first s.blocks z + (x - heap_of s.blocks) / 64) (omega arith)))

  pub same : SameHeap s w
  same = record {
    words = λ i above. beyond i (omega arith);
    globals = λ g small. before (first s.blocks Globals + g) (omega arith);
    starts = λ x. bits StartBits x (omega arith);
    pins = λ x. bits PinBits x (omega arith);
    unlogs = λ x. bits UnlogBits x (omega arith);
  }

  pub line-other : (j line : ℕ) → line < 256 → j ≢ k → line_marked after j line ≡ line_marked s j line
  line-other j line small other = ap (λ v. nat_eq (bit_at v ((256 * j + line) % 64)) 1)
      (is.others (first s.blocks LineWords + (256 * j + line) / 64) (λ here. let from = here.after in let below = here.below in other (omega arith)))

  sides : IsWellFormed s → ChangesSides s after
  sides old = record {
    blocks = refl;
    number = refl;
    base = refl;
    extent = is.extent;
    words = is.fit old.row.words;
    rest = λ i outside. elim outside as (λ _. word_at after i ≡ word_at s i) [ inl front ↦ before i (omega arith) | inr past ↦ beyond i past ];
    low = λ j inside. ap (λ v. v % 65536) (block-same j inside);
  }

  order : IsWellFormed s → IsWellFormed after
  order old = order-kept s after (sides old) old

  but_lines : (HasKind s k kinds.Free → ⊥) → IsLawfulButLines s → IsLawfulButLines after
  but_lines used old = record {
    order = order old.order;
    blocks = λ j inside. record {
      code = subst (λ (v : ℕ). IsTrue (is_block_code v)) (sym (block-same j inside)) (old.blocks j inside).code;
      owner = ap (λ v. v / 65536) (block-same j inside) ∙ (old.blocks j inside).owner;
    };
    free = λ j now. let free : HasKind s j kinds.Free = frames.HasKind-back s w block-same j kinds.Free now in
        blocks.clear-after s w same j (λ line small. line-other j line small (λ e. used (subst (λ (q : ℕ). HasKind s q kinds.Free) e free))) (old.free j free);
  }

  -- if no other block had wrong line bits
  pub lawful : (HasKind s k kinds.Free → ⊥) → IsLawfulButLines s → ((j : ℕ) → j ≢ k → LineBitsAreExact s j) → IsLawful after
  lawful used old others = record {
    but_lines = but_lines used old;
    lines = λ j. elim (cases_eq j k) as (λ _. LineBitsAreExact after j) [
      | inl own ↦ subst (LineBitsAreExact after) (sym own) (is.exact old.order.objects.lies)
      | inr other ↦ exact-kept s after (sides old.order) j (λ line small. line-other j line small other) (others j other)
    ];
  }

  pub represents : (ms : List MutatorState) (h : IdealHeap) → IsWellFormed s → Represents s ms h → Represents after ms h
  represents ms h old was = standing.represents after ms h (IsReachable s (roots_of ms))
      (blocks.models-after s w same ms h (IsReachable s (roots_of ms)) (standing.models s ms h old was) (order old))

-- what a birth in block k did before it was relisted, it did in all
module _ (s : HeapState) (w1 w2 : List ℕ) (k : ℕ) (there : k < s.blocks) (is : IsRelisted (with_words s w1) (with_words s w2) k) where
  abbrev mid : HeapState
  mid = with_words s w1

  abbrev end : HeapState
  end = with_words s w2

  stays : SameHeap mid w2
  stays = same mid w2 k there is

  pub adds : (a refs nums : ℕ) → AddsObject s mid a refs nums → AddsObject s end a refs nums
  adds a refs nums was = record {
    held = blocks.held-after mid w2 stays a was.held;
    fresh = was.fresh;
    others = λ x other. (
      (λ holds. blocks.held-after mid w2 stays x ((was.others x other).0 holds)),
      (λ holds. (was.others x other).1 (blocks.held-before mid w2 stays x holds)),
    );
    shape = blocks.at mid w2 stays a 1 was.held ∙ was.shape;
    blank = λ i least less. blocks.at mid w2 stays a i was.held ∙ was.blank i least less;
    unmarked = ((λ is. was.unmarked.0 (sym (stays.pins a) ∙ is)), (λ is. was.unmarked.1 (sym (stays.unlogs a) ∙ is)));
    words = λ x i holds less. stays.words (x + i) (let from : heap_of s.blocks ≤ x = holds.address.from in omega arith) ∙ was.words x i holds less;
    bits = λ x holds. (stays.pins x ∙ (was.bits x holds).0, stays.unlogs x ∙ (was.bits x holds).1);
  }

  pub uses : (rules : Rules) (size : ℕ) → UsesBlock rules s mid k size → UsesBlock rules s end k size
  uses rules size was = record {
    free = λ free. block-same mid w2 k there is k there ∙ was.free free;
    hole = λ other. block-same mid w2 k there is k there ∙ was.hole other;
    others = λ j inside other. block-same mid w2 k there is j inside ∙ was.others j inside other;
  }

  pub changes : (used n : ℕ) → ChangesBlocks s mid used n → ChangesBlocks s end used n
  changes used n was = record {
    front = λ i below. before mid w2 k there is i (omega arith) ∙ was.front i below;
    elsewhere = λ i address away. stays.words i address.from ∙ was.elsewhere i address away;
  }
