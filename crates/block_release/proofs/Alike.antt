-- States with the same words but for metadata of some blocks.
use Rattle.std.proofs.Common.{◌≡◌, sym, ◌∙◌, ap, ap₂, subst, ℕ, ◌+◌, ◌*◌, ◌/◌, ◌%◌, ◌<◌, ◌≤◌, inl, inr, arith, ◌&&◌, nat_eq, nat_lt, nat_le}
use Rattle.forward_word.specs.CollectorWords.{number_in, target_in}
use Rattle.heap_layout.specs.Zones.{heap_of, block_at, IsAddress}
use Rattle.heap_layout.specs.declared.block.Kind.{Kind}
use Rattle.heap_layout.specs.declared.block.Kind.TheVariants as kinds
use Rattle.heap_layout.specs.Blocks.{kind_code}
use Rattle.ideal_heap.specs.Names.{name_of, IsName}
use Rattle.object_model.specs.Objects.{HeapState, word_at, has_kind, class_at, IsHeld, size_at, IsInExtent}
use Rattle.object_model.specs.Lawful.{HasObject}
use Rattle.object_model.specs.Ages.{is_survivor, Lives}
use Rattle.object_model.specs.Releasing.{InSpan}
use Rattle.object_model.specs.Lines.{TouchesLine}
use Rattle.block_sweeps.specs.Sweeping.{IsOfSpan, IsMetadata, IsFreed, IsTouchedHere}
use Rattle.block_release.proofs.Metadata.{heap-word, SameReads}

-- The words that are no metadata are the same.
pub record SameRest (s t : HeapState) : Type 0 where
  pub blocks : t.blocks ≡ s.blocks
  pub others : (i : ℕ) → ((k : ℕ) → k < s.blocks → IsMetadata s.blocks k i → ⊥) → word_at t i ≡ word_at s i

pub rest-through : (s t u : HeapState) → SameRest s t → SameRest t u → SameRest s u
rest-through s t u one two = record {
  blocks = two.blocks ∙ one.blocks;
  others = λ i none. two.others i (subst (λ b. (k : ℕ) → k < b → IsMetadata b k i → ⊥) (sym one.blocks) none) ∙ one.others i none;
}

pub rest-back : (s t : HeapState) → SameRest s t → SameRest t s
rest-back s t same = record {
  blocks = sym same.blocks;
  others = λ i none. sym (same.others i (subst (λ b. (k : ℕ) → k < b → IsMetadata b k i → ⊥) same.blocks none));
}

pub reads-through : (s t u : HeapState) (j : ℕ) → t.blocks ≡ s.blocks → SameReads s t j → SameReads t u j → SameReads s u j
reads-through s t u j blocks one two = record {
  word = two.word ∙ one.word;
  lines = λ line few. two.lines line few ∙ one.lines line few;
  starts = λ a at. two.starts a (ap (λ b. block_at b a) blocks ∙ at) ∙ one.starts a at;
  pins = λ a at. two.pins a (ap (λ b. block_at b a) blocks ∙ at) ∙ one.pins a at;
  unlogs = λ a at. two.unlogs a (ap (λ b. block_at b a) blocks ∙ at) ∙ one.unlogs a at;
}

pub reads-back : (s t : HeapState) (j : ℕ) → t.blocks ≡ s.blocks → SameReads s t j → SameReads t s j
reads-back s t j blocks same = record {
  word = sym same.word;
  lines = λ line few. sym (same.lines line few);
  starts = λ a at. sym (same.starts a (ap (λ b. block_at b a) (sym blocks) ∙ at));
  pins = λ a at. sym (same.pins a (ap (λ b. block_at b a) (sym blocks) ∙ at));
  unlogs = λ a at. sym (same.unlogs a (ap (λ b. block_at b a) (sym blocks) ∙ at));
}

-- what the words of objects say is the same
module _ (s t : HeapState) (rest : SameRest s t) where
  pub word-same : (i : ℕ) → heap_of s.blocks ≤ i → word_at t i ≡ word_at s i
  word-same i from = rest.others i (λ k there meta. heap-word s.blocks k i there from meta)

  shape-same : (a : ℕ) → IsAddress s.blocks a → word_at t (a + 1) ≡ word_at s (a + 1)
  shape-same a there = let from : heap_of s.blocks ≤ a = there.from in word-same (a + 1) (omega arith)

  pub size-same : (a : ℕ) → IsAddress s.blocks a → size_at t a ≡ size_at s a
  size-same a there = ap (λ w. 3 + w % 65536 + w / 65536) (shape-same a there)

  survivor-same : (base a : ℕ) → IsAddress s.blocks a → is_survivor t base a ≡ is_survivor s base a
  survivor-same base a there = let from : heap_of s.blocks ≤ a = there.from in ap (λ w. nat_le base (number_in w) && nat_eq (target_in w) a) (word-same (a + 2) (omega arith))

  pub object-after : (a : ℕ) → IsAddress s.blocks a → HasObject s a → HasObject t a
  object-after a there object = record {
    name = subst IsName (sym (ap name_of (word-same a there.from))) object.name;
    refs = subst (λ n. n ≤ 1024) (sym (ap (λ w. w % 65536) (shape-same a there))) object.refs;
    nums = subst (λ n. n ≤ 60000) (sym (ap (λ w. w / 65536) (shape-same a there))) object.nums;
  }

  pub extent-after : (a i : ℕ) → IsAddress s.blocks a → IsInExtent s a i → IsInExtent t a i
  extent-after a i there inside = record { from = inside.from; below = subst (λ n. i < a + n) (sym (size-same a there)) inside.below }

-- what is known of block j, where its metadata reads the same
module _ (s t : HeapState) (rest : SameRest s t) (j : ℕ) (same : SameReads s t j) where
  pub kind-same : (kind : Kind) → has_kind t j kind ≡ has_kind s j kind
  kind-same kind = ap₂ (λ b w. nat_lt j b && nat_eq (w % 256) (kind_code kind)) rest.blocks same.word

  pub class-same : class_at t j ≡ class_at s j
  class-same = ap (λ w. w / 256 % 256) same.word

  pub held-after : (a : ℕ) → block_at s.blocks a ≡ j → IsHeld s a → IsHeld t a
  held-after a at held = record { address = subst (λ b. IsAddress b a) (sym rest.blocks) held.address; start = same.starts a at ∙ held.start }

  pub lives-after : (base a : ℕ) → block_at s.blocks a ≡ j → Lives base s a → Lives base t a
  lives-after base a at lives = record { held = held-after a at lives.held; survives = survivor-same s t rest base a lives.held.address ∙ lives.survives }

  pub span-after : (i : ℕ) → IsOfSpan s j i → IsOfSpan t j i
  span-after i span = elim span as (λ _. IsOfSpan t j i) [
    | inl own ↦ inl own
    | inr run ↦ inr (kind-same kinds.LargeHead ∙ run.0, run.1, subst (λ n. i < j + n) (sym class-same) run.2)
  ]

  pub in-span-after : (a : ℕ) → InSpan s j a → InSpan t j a
  in-span-after a span = record {
    address = subst (λ b. IsAddress b a) (sym rest.blocks) span.address;
    block = subst (λ b. IsOfSpan t j (block_at b a)) (sym rest.blocks) (span-after (block_at s.blocks a) span.block);
  }

  pub freed-after : IsFreed s j → IsFreed t j
  freed-after freed = record { word = same.word ∙ freed.word; lines = λ line few. same.lines line few ∙ freed.lines line few }

  pub touched-after : (line : ℕ) → IsTouchedHere s j line → IsTouchedHere t j line
  touched-after line is = (let touch = is.touched in record {
    touched = record {
      object = touch.object;
      held = held-after touch.object is.here touch.held;
      touches = subst (λ b. TouchesLine b touch.object (size_at t touch.object) (256 * j + line)) (sym rest.blocks)
          (subst (λ n. TouchesLine s.blocks touch.object n (256 * j + line)) (sym (size-same s t rest touch.object touch.held.address)) touch.touches);
    };
    here = ap (λ b. block_at b touch.object) rest.blocks ∙ is.here;
  })
