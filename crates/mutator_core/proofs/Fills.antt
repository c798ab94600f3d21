-- The kinds of the blocks that mutators fill.
use Rattle.std.proofs.Common.{◌≡◌, ◌≢◌, refl, sym, ◌∙◌, ℕ, ◌/◌, ◌%◌, arith, true, false, IsTrue}
use Rattle.heap_layout.specs.declared.block.Kind.{Kind}
use Rattle.heap_layout.specs.declared.block.Kind.TheVariants as kinds
use Rattle.heap_layout.specs.Blocks.{kind_code}
use Rattle.heap_layout.proofs.BlockLemmas.{code_parts, valid_most, kind_code_most}
use Rattle.object_model.specs.Objects.{HeapState, HasKind, block_word, owner_at, class_at}
use Rattle.object_model.specs.Lawful.{has_small}
use Rattle.object_model.proofs.OneKind.{is_small_code, has_small-code, one-kind, kind-from}
use Rattle.mutator_core.specs.declared.state.OwnedBlock.{OwnedBlock}
use Rattle.mutator_core.specs.Machine.{Epoch}
use Rattle.mutator_core.specs.Epochs.{IsOwned}
use Rattle.sessions.specs.Plans.{has_holes}

-- such blocks have small objects, and are not Free
pub fills-small : (kind : Kind) → IsTrue (has_holes kind) → IsTrue (is_small_code true (kind_code kind))
fills-small kinds.Bump is = refl
fills-small kinds.Young is = refl
fills-small kinds.Immix is = refl
fills-small kinds.Cells is = refl
fills-small kinds.Free is = absurd (let wrong : false ≡ true = is in cc)
fills-small kinds.Mature is = absurd (let wrong : false ≡ true = is in cc)
fills-small kinds.LargeHead is = absurd (let wrong : false ≡ true = is in cc)
fills-small kinds.LargeTail is = absurd (let wrong : false ≡ true = is in cc)
fills-small kinds.Kept is = absurd (let wrong : false ≡ true = is in cc)

pub fills-some : (kind : Kind) → IsTrue (has_holes kind) → kind_code kind ≢ 0
fills-some kinds.Bump is e = omega arith
fills-some kinds.Young is e = omega arith
fills-some kinds.Immix is e = omega arith
fills-some kinds.Cells is e = omega arith
fills-some kinds.Free is e = let wrong : false ≡ true = is in cc
fills-some kinds.Mature is e = omega arith
fills-some kinds.LargeHead is e = omega arith
fills-some kinds.LargeTail is e = omega arith
fills-some kinds.Kept is e = omega arith

-- the kind with the code of cells is the kind of cells
pub fills-cells : (kind : Kind) → kind_code kind ≡ 5 → kind ≡ kinds.Cells
fills-cells kinds.Cells e = refl
fills-cells kinds.Bump e = absurd (omega arith)
fills-cells kinds.Young e = absurd (omega arith)
fills-cells kinds.Immix e = absurd (omega arith)
fills-cells kinds.Free e = absurd (omega arith)
fills-cells kinds.Mature e = absurd (omega arith)
fills-cells kinds.LargeHead e = absurd (omega arith)
fills-cells kinds.LargeTail e = absurd (omega arith)
fills-cells kinds.Kept e = absurd (omega arith)

pub fill-small : (s : HeapState) (k : ℕ) (kind : Kind) → IsTrue (has_holes kind) → HasKind s k kind → IsTrue (has_small s k)
fill-small s k kind fills is = has_small-code s k kind is ∙ fills-small kind fills

pub fill-not-free : (s : HeapState) (k : ℕ) (kind : Kind) → IsTrue (has_holes kind) → HasKind s k kind → HasKind s k kinds.Free → ⊥
fill-not-free s k kind fills is free = fills-some kind fills (one-kind s k kind kinds.Free is free)

-- the fields of an owned block's word
module _ (p : Epoch) (s : HeapState) (number : ℕ) (o : OwnedBlock) (is : IsOwned p s number o) where
  parts : (block_word s o.block % 256 ≡ kind_code p.rules.fill) × (block_word s o.block / 256 % 256 ≡ o.class) × (block_word s o.block / 65536 ≡ number)
  parts = code_parts (kind_code p.rules.fill) o.class number (block_word s o.block) (kind_code_most p.rules.fill) (valid_most p.rules.fill o.class number is.valid).0 (sym is.word)

  pub owned-owner : owner_at s o.block ≡ number
  owned-owner = parts.2

  pub owned-class : class_at s o.block ≡ o.class
  owned-class = parts.1

  pub owned-kind : HasKind s o.block p.rules.fill
  owned-kind = kind-from s o.block p.rules.fill is.inside parts.0
