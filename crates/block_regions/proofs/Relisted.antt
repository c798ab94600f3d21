-- What a relisted block becomes. Nothing of it depends on the collection numbers of the heap.
use Rattle.std.proofs.Common.{◌≡◌, refl, sym, ◌∙◌, ap, subst, ℕ, ◌+◌, ◌%◌, ◌^◌, ◌<◌, inl, inr, Bool, true, false, ◌&&◌, IsTrue, arith, List, length, nat_eq, nat_lt, slice_index}
use Rattle.std.proofs.Math.Logic.{∥∥₁_map}
use Rattle.std.proofs.lemmas.Bool.{cases_Bool, and_from, true≢false}
use Rattle.heap_layout.specs.declared.layout.Layout.{Layout}
use Rattle.heap_layout.specs.Blocks.{kind_code}
use Rattle.heap_layout.specs.declared.block.Kind.TheVariants as kinds
use Rattle.object_model.specs.Objects.{HeapState, state_over, word_at, has_kind, HasKind, size_at}
use Rattle.object_model.specs.Lawful.{Lies, IsTouched, LineBitsAreExact, AllLie}
use Rattle.block_sweeps.specs.Sweeping.{IsLineWord, IsTouchedHere}
use Rattle.sessions.specs.Plans.{Plan, NoGc, MarkSweep, SemiSpace, GenCopy, Immix, StickyImmix, Rules, rules_of}
use Rattle.plan_api.specs.Relisting.{RelistsLines, RelistsIf, Relists}
use Rattle.plan_api.proofs.BlockViews.{held-anyway}

module _ (words : List ℕ) (l : Layout) (n b n' b' : ℕ) where
  abbrev s : HeapState
  s = state_over words l n b

  abbrev t : HeapState
  t = state_over words l n' b'

  lies-anyway : (a size : ℕ) → Lies s a size → Lies t a size
  lies-anyway a size lies = record {
    small = λ small. let there = lies.small small in record {
      address = there.address;
      within = there.within;
      kind = there.kind;
      cell = λ cells. let cell = there.cell cells in record { start = cell.start; room = cell.room; within = cell.within };
    };
    large = λ large. let there = lies.large large in record {
      address = there.address;
      start = there.start;
      run = record { head = there.run.head; class = there.run.class; inside = there.run.inside; tails = there.run.tails };
    };
  }

  abbrev touched-anyway : (k line : ℕ) → IsTouched s k line → IsTouched t k line
  touched-anyway k line is = record { object = is.object; held = held-anyway words l n b n' b' is.object is.held; touches = is.touches }

  touched-here : (k line : ℕ) → IsTouchedHere s k line → IsTouchedHere t k line
  touched-here k line is = record { touched = touched-anyway k line is.touched; here = is.here }

all-lie : (words : List ℕ) (l : Layout) (n b n' b' : ℕ) → AllLie (state_over words l n b) → AllLie (state_over words l n' b')
all-lie words l n b n' b' lie a holds =
    lies-anyway words l n b n' b' a (size_at (state_over words l n b) a) (lie a (held-anyway words l n' b' n b a holds))

exact-anyway : (words : List ℕ) (l : Layout) (n b n' b' k : ℕ) → LineBitsAreExact (state_over words l n b) k → LineBitsAreExact (state_over words l n' b') k
exact-anyway words l n b n' b' k exact = record {
  marked = λ line is few marked. ∥∥₁_map (exact.marked line is few marked) (touched-anyway words l n b n' b' k line);
  touched = λ line is few touched. exact.touched line is few (touched-anyway words l n' b' n b k line touched);
}

lines-anyway : (old new : List ℕ) (l : Layout) (n b n' b' k : ℕ) → RelistsLines (state_over old l n b) (state_over new l n b) k
    → RelistsLines (state_over old l n' b') (state_over new l n' b') k
lines-anyway old new l n b n' b' k relists = record {
  marked = record {
    lines = λ line few. let both = relists.marked.lines line few in (
      λ set. ∥∥₁_map (both.0 set) (touched-here old l n b n' b' k line),
      λ touched. both.1 (∥∥₁_map touched (touched-here old l n' b' n b k line)),
    );
    rest = record { blocks = refl; extent = relists.marked.rest.extent; others = relists.marked.rest.others; fit = relists.marked.rest.fit };
  };
  exact = λ lie. exact-anyway new l n b n' b' k (relists.exact (all-lie old l n' b' n b lie));
}

if-anyway : (is : Bool) (old new : List ℕ) (l : Layout) (n b n' b' k : ℕ) → RelistsIf is (state_over old l n b) (state_over new l n b) k
    → RelistsIf is (state_over old l n' b') (state_over new l n' b') k
if-anyway true old new l n b n' b' k relists = lines-anyway old new l n b n' b' k relists
if-anyway false old new l n b n' b' k relists = relists

-- a block is relisted whatever the numbers of collections are
pub relists-anyway : (r : Rules) (old new : List ℕ) (l : Layout) (n b n' b' k : ℕ) → Relists r (state_over old l n b) (state_over new l n b) k
    → Relists r (state_over old l n' b') (state_over new l n' b') k
relists-anyway r old new l n b n' b' k relists = if-anyway (r.lines && has_kind (state_over old l n b) k kinds.Immix) old new l n b n' b' k relists

-- Of a relisted block only line bits change. Where objects lie as they may, they are exact under rules with lines.
pub record IsRelisted (s t : HeapState) (k : ℕ) : Type 0 where
  pub blocks : t.blocks ≡ s.blocks
  pub extent : length t.words ≡ length s.words
  pub others : (i : ℕ) → (IsLineWord s.blocks k i → ⊥) → word_at t i ≡ word_at s i
  pub fit : ((i : ℕ) → word_at s i < 2 ^ 64) → (i : ℕ) → word_at t i < 2 ^ 64
  pub exact : AllLie s → LineBitsAreExact t k

of-words : (s t : HeapState) (k : ℕ) → (HasKind s k kinds.Immix → ⊥) → t.blocks ≡ s.blocks → t.words ≡ s.words → IsRelisted s t k
of-words s t k none blocks words = record {
  blocks = blocks;
  extent = ap length words;
  others = λ i other. same i;
  fit = λ fit i. rw (same i) (fit i);
  exact = λ lie. record {
    marked = λ line is few marked. absurd (none (before is));
    touched = λ line is few touched. absurd (none (before is));
  };
}
  where
    same : (i : ℕ) → word_at t i ≡ word_at s i
    same i = ap (λ w. slice_index w i) words

    before : HasKind t k kinds.Immix → HasKind s k kinds.Immix
    before is = sym (ap (λ (n : ℕ). nat_lt k n && nat_eq (slice_index t.words (18 + k) % 256) (kind_code kinds.Immix)) blocks
        ∙ ap (λ w. nat_lt k s.blocks && nat_eq (slice_index w (18 + k) % 256) (kind_code kinds.Immix)) words) ∙ is

pub relisted : (r : Rules) (s t : HeapState) (k : ℕ) → (HasKind s k kinds.Immix → IsTrue r.lines) → Relists r s t k → IsRelisted s t k
relisted r s t k lines relists = elim (cases_Bool (has_kind s k kinds.Immix)) as (λ _. IsRelisted s t k) [
  | inl immix ↦ (
      let is : RelistsLines s t k = subst (λ b. RelistsIf b s t k) (and_from r.lines (has_kind s k kinds.Immix) (lines immix) immix) relists in record {
        blocks = is.marked.rest.blocks;
        extent = is.marked.rest.extent;
        others = is.marked.rest.others;
        fit = is.marked.rest.fit;
        exact = is.exact;
      })
  | inr other ↦ (
      let same = subst (λ b. RelistsIf b s t k) (and_none r.lines (has_kind s k kinds.Immix) other) relists in
      of-words s t k (λ is. true≢false (sym is ∙ other)) same.0 same.1)
]
  where
    and_none : (a b : Bool) → b ≡ false → (a && b) ≡ false
    and_none true b none = none
    and_none false b none = refl

-- the rules of a plan whose mutators fill Immix blocks are rules with lines
lines-of : (q : Plan) → (rules_of q).fill ≡ kinds.Immix → IsTrue (rules_of q).lines
lines-of NoGc is = absurd (let wrong : 1 ≡ 4 = ap kind_code is in omega arith)
lines-of MarkSweep is = absurd (let wrong : 5 ≡ 4 = ap kind_code is in omega arith)
lines-of SemiSpace is = absurd (let wrong : 1 ≡ 4 = ap kind_code is in omega arith)
lines-of GenCopy is = absurd (let wrong : 2 ≡ 4 = ap kind_code is in omega arith)
lines-of Immix is = refl
lines-of StickyImmix is = refl

pub lines-of-plan : (q : Plan) (r : Rules) → r ≡ rules_of q → r.fill ≡ kinds.Immix → IsTrue r.lines
lines-of-plan q r same = subst (λ (x : Rules). x.fill ≡ kinds.Immix → IsTrue x.lines) (sym same) (lines-of q)
