-- Kinds that are compared, and the blocks that a plan copies.
use Rattle.std.proofs.Common.{◌≡◌, refl, sym, ap, ◌∙◌, ℕ, ◌%◌, Bool, false, ◌&&◌, ◌||◌, nat_eq, nat_lt}
use Rattle.std.proofs.lemmas.Bool.{and_parts}
use denote.Enum.Bare.{sameb}
use denote.Enum.Declared.{tag_of}
use Rattle.heap_layout.specs.contracts.block.Kind.{the_type}
use Rattle.heap_layout.specs.declared.block.Kind.{Kind}
use Rattle.heap_layout.specs.declared.block.Kind.TheVariants as kinds
use Rattle.heap_layout.specs.Blocks.{kind_code}
use Rattle.object_model.specs.declared.collect.Collect.TheVariants.{Full}
use Rattle.object_model.specs.Objects.{HeapState, has_kind, HasKind, block_word}
use Rattle.object_model.proofs.OneKind.{kind-code}
use Rattle.sessions.specs.Plans.{Rules}
use Rattle.sessions.specs.Collecting.{is_copied_out}
use Rattle.plan_api.specs.declared.blocks_to_copy.Fills.{Fills}
use Rattle.plan_api.specs.Evacuation.{HasFills}

-- two kinds are the same if their numbers are
tag-code : (a : Kind) → tag_of the_type a ≡ kind_code a
tag-code kinds.Free = refl
tag-code kinds.Bump = refl
tag-code kinds.Young = refl
tag-code kinds.Mature = refl
tag-code kinds.Immix = refl
tag-code kinds.Cells = refl
tag-code kinds.LargeHead = refl
tag-code kinds.LargeTail = refl
tag-code kinds.Kept = refl

pub same-kind : (a b : Kind) → sameb the_type a b ≡ nat_eq (kind_code a) (kind_code b)
same-kind a b = ap (λ n. nat_eq n (tag_of the_type b)) (tag-code a) ∙ ap (nat_eq (kind_code a)) (tag-code b)

-- whether a block of one kind is of another
pub kind-is : (s : HeapState) (k : ℕ) (kind other : Kind) → HasKind s k kind → has_kind s k other ≡ sameb the_type kind other
kind-is s k kind other is =
    ap (λ t. t && nat_eq (block_word s k % 256) (kind_code other)) (and_parts (nat_lt k s.blocks) _ is).0
    ∙ ap (λ n. nat_eq n (kind_code other)) (kind-code s k kind is) ∙ sym (same-kind kind other)

pub copied-full : (r : Rules) (f : Fills) (s : HeapState) (k : ℕ) (kind : Kind) → HasFills r f → HasKind s k kind
    → is_copied_out r Full s k ≡ (sameb the_type kind f.fill || sameb the_type kind f.copy || sameb the_type kind kinds.Kept)
copied-full r f s k kind has is =
    ap (λ x. has_kind s k x || has_kind s k r.copy || has_kind s k kinds.Kept) has.fill
    ∙ ap (λ x. has_kind s k f.fill || has_kind s k x || has_kind s k kinds.Kept) has.copy
    ∙ ap (λ t. t || has_kind s k f.copy || has_kind s k kinds.Kept) (kind-is s k kind f.fill is)
    ∙ ap (λ t. sameb the_type kind f.fill || t || has_kind s k kinds.Kept) (kind-is s k kind f.copy is)
    ∙ ap (λ t. sameb the_type kind f.fill || sameb the_type kind f.copy || t) (kind-is s k kind kinds.Kept is)

-- the tests of the code, one after another
pub or-third : (a b t : Bool) → a ≡ false → b ≡ false → (a || b || t) ≡ t
or-third a b t none none' = ap (λ x. x || b || t) none ∙ ap (λ x. x || t) none'
