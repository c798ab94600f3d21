-- The objects that a nursery collection preserves, and the reachable ones.
use Rattle.std.proofs.Common.{◌≡◌, sym, ◌∙◌, ap, ℕ, true, false, ◌&&◌, List}
use Rattle.std.proofs.lemmas.Bool.{false≢true, and_parts}
use Rattle.object_model.specs.Objects.{HeapState, IsHeld}
use Rattle.object_model.specs.Graphs as graphs
use Rattle.object_model.specs.Graphs.{IsReachable}
use Rattle.object_model.specs.Ages.{is_old}
use Rattle.sessions.specs.Plans.{Rules}
use Rattle.sessions.specs.Collecting as collecting
use Rattle.sessions.specs.Collecting.{IsNurseryReachable}

module _ (r : Rules) (s : HeapState) (roots : List ℕ) where
  pub arrives-kept : (a : ℕ) → IsReachable s roots a → IsNurseryReachable r s roots a
  arrives-kept a (graphs.from_root i e some) = collecting.is_root i e some
  arrives-kept a (graphs.from_global g small e some) = collecting.is_global g small e some
  arrives-kept a (graphs.from_field x i before within e some) = collecting.is_field x i (arrives-kept x before) within e some

  pub old-kept : (a : ℕ) → IsHeld s a → r.young ≡ true → is_old s a ≡ true → IsNurseryReachable r s roots a
  old-kept a held young old = collecting.was_old held (ap (λ b. b && is_old s a) young ∙ old)

  pub kept-arrives : (a : ℕ) → r.young ≡ false → IsNurseryReachable r s roots a → IsReachable s roots a
  kept-arrives a none (collecting.is_root i e some) = graphs.from_root i e some
  kept-arrives a none (collecting.is_global g small e some) = graphs.from_global g small e some
  kept-arrives a none (collecting.was_old held old) = absurd (false≢true (sym none ∙ (and_parts r.young (is_old s a) old).0))
  kept-arrives a none (collecting.is_field x i before within e some) = graphs.from_field x i (kept-arrives x none before) within e some
