-- The heap that was given to a collection, and the heap as its trace begins. They differ in line bits and unlog bits alone.
use Rattle.std.proofs.Common.{◌≡◌, refl, sym, ◌∙◌, ap, ap₂, subst, ℕ, ◌<◌, Bool, true, false, ◌&&◌, not, IsTrue, nat_le, List}
use Rattle.heap_layout.specs.Zones.{block_at}
use Rattle.heap_layout.specs.declared.block.Kind.{Kind}
use Rattle.object_model.specs.declared.collect.Collect.{Collect}
use Rattle.object_model.specs.declared.collect.Collect.TheVariants.{Nursery}
use Rattle.object_model.specs.Objects.{HeapState, with_words, block_word, has_kind, is_pinned, IsHeld, size_at}
use Rattle.object_model.specs.Ages.{is_old}
use Rattle.object_model.specs.Graphs.{IsReachable, from_root, from_global, from_field}
use Rattle.object_model.specs.Preserving.{may_leave}
use Rattle.trace_core.proofs.SameObjects.{SameObjects, at, refs-same, size-same, ref-same}
use Rattle.object_model.proofs.Frames.{has_kind-same}
use Rattle.forward_word.specs.CollectorWords.{is_old_word}
use Rattle.sessions.specs.Plans.{Rules, Plan, rules_of}
use Rattle.sessions.specs.Collecting as collecting
use Rattle.sessions.specs.Collecting.{is_evacuated}
use Rattle.trace_core.specs.Setups.{Setup, blocks, size, may_be_moved}
use Rattle.trace_core.specs.Runs.{is_nursery}
use Rattle.block_release.proofs.Spans.{address-block}
use Rattle.collector.proofs.EvacuatedKinds.{moves-evacuated}

-- these words make the same heap but for line bits and unlog bits
pub record SameButBits (s : HeapState) (w : List ℕ) : Type 0 where
  pub heap : SameObjects s w
  pub blocks : (k : ℕ) → k < s.blocks → block_word (with_words s w) k ≡ block_word s k

module _ {s : HeapState} {w : List ℕ} (like : SameButBits s w) where
  abbrev given : HeapState
  given = with_words s w

  pub kind-given : (k : ℕ) (kind : Kind) → has_kind given k kind ≡ has_kind s k kind
  kind-given k kind = has_kind-same s w like.blocks k kind

  pub old-given : (a : ℕ) → IsHeld s a → is_old given a ≡ is_old s a
  old-given a there = ap (is_old_word s.base) (at s w like.heap a 2 there)

  leave-given : (from : ℕ → Bool) (a : ℕ) → IsHeld s a → may_leave from given a ≡ may_leave from s a
  leave-given from a there = ap₂ (λ pin size. from (block_at s.blocks a) && not pin && nat_le size 2048) (like.heap.pins a) (size-same s w like.heap a there)

  -- the same is reachable, if what is reachable is held
  module _ (roots : List ℕ) (held : (a : ℕ) → IsReachable s roots a → IsHeld s a) where
    pub reachable-before : (a : ℕ) → IsReachable given roots a → IsReachable s roots a
    reachable-before a (from_root i is some) = from_root i is some
    reachable-before a (from_global g few is some) = from_global g few (sym (like.heap.globals g few) ∙ is) some
    reachable-before a (from_field x i before less is reference) =
        let from : IsReachable s roots x = reachable-before x before in
        let there : IsHeld s x = held x from in
        from_field x i from (subst (λ n. i < n) (refs-same s w like.heap x there) less) (sym (ref-same s w like.heap x i there) ∙ is) reference

    pub reachable-given : (a : ℕ) → IsReachable s roots a → IsReachable given roots a
    reachable-given a (from_root i is some) = from_root i is some
    reachable-given a (from_global g few is some) = from_global g few (like.heap.globals g few ∙ is) some
    reachable-given a (from_field x i before less is reference) =
        let there : IsHeld s x = held x before in
        from_field x i (reachable-given x before) (subst (λ n. i < n) (sym (refs-same s w like.heap x there)) less) (ref-same s w like.heap x i there ∙ is) reference

-- The collection of this setup is of this kind, under this plan, of the heap with these words.
pub record IsSetupUnder (q : Plan) (c : Collect) (p : Setup) (u : List ℕ) : Type 0 where
  pub like : SameButBits p.before u
  pub nursery : p.nursery ≡ is_nursery c
  pub young : c ≡ Nursery → IsTrue (rules_of q).young
  pub from : (k : ℕ) → k < blocks p → p.from k ≡ is_evacuated (rules_of q) c (with_words p.before u) k
  pub copy : p.copy ≡ (rules_of q).copy

-- the flag of the rules counts only where the block's does
by-flag : (moves from x y : Bool) → (moves && from) ≡ from → (moves && (from && x && y)) ≡ (from && x && y)
by-flag false from x y is = ap (λ z. z && x && y) is
by-flag true from x y is = refl

pub moves-given : {q : Plan} {c : Collect} {p : Setup} {u : List ℕ} → (under : IsSetupUnder q c p u) → (a : ℕ) → IsHeld p.before a
    → may_be_moved p a ≡ collecting.may_move (rules_of q) c (with_words p.before u) a
moves-given {q} {c} {p} {u} under a there =
    let r : Rules = rules_of q in
    let old : HeapState = with_words p.before u in
    let k : ℕ = block_at (blocks p) a in
    ap (λ t. t && not (is_pinned p.before a) && nat_le (size p a) 2048) (under.from k (address-block (blocks p) a there.address))
    ∙ sym (leave-given under.like (is_evacuated r c old) a there)
    ∙ sym (by-flag r.moves (is_evacuated r c old k) (not (is_pinned old a)) (nat_le (size_at old a) 2048) (moves-evacuated q c old k))
