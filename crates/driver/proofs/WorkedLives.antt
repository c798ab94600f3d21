-- The live objects of the worked end of a session.
use Rattle.std.proofs.Common.{◌≡◌, refl, ℕ, zero, suc, ◌<◌, inl, inr, arith, true, List, [], ◌∷◌, slice_index}
use Rattle.ideal_heap.specs.Names.{IsBefore}
use Rattle.object_model.specs.Objects.{name_at}
use Rattle.object_model.specs.Graphs as graphs
use Rattle.object_model.specs.Graphs.{IsReachable, roots_of}
use Rattle.driver.specs.Texts.{AreLive}
use Rattle.driver.specs.WorkedEnds.{worked_end}
use Rattle.driver.proofs.LiveLists.{is_in, in-any, reached-in, all-any}

abbrev pub worked_live : List ℕ
worked_live = 9195 ∷ 13307 ∷ 1008 ∷ []

abbrev Reached : ℕ → Type 0
Reached a = IsReachable worked_end.heap (roots_of worked_end.mutators) a

pub reached-live : (a : ℕ) → Reached a → is_in worked_live a ≡ true
reached-live a there = reached-in worked_end.heap (roots_of worked_end.mutators) worked_live refl refl refl a there

reached-second : Reached 1008
reached-second = graphs.from_root 19 refl (omega arith)

reached-large : Reached 9195
reached-large = graphs.from_field 1008 0 reached-second (omega arith) refl refl

reached-shared : Reached 13307
reached-shared = graphs.from_global 5 (omega arith) refl (omega arith)

abbrev Rises : ℕ → ℕ → Type 0
Rises i j = IsBefore (name_at worked_end.heap (slice_index worked_live i)) (name_at worked_end.heap (slice_index worked_live j))

rise-at : (i j : ℕ) → i < j → j < 3 → Rises i j
rise-at zero zero low within = absurd (omega (arith, low))
rise-at zero (suc zero) low within = inr (refl, omega arith)
rise-at zero (suc (suc zero)) low within = inl (omega arith)
rise-at zero (suc (suc (suc j))) low within = absurd (omega (arith, within))
rise-at (suc i) zero low within = absurd (omega (arith, low))
rise-at (suc i) (suc zero) low within = absurd (omega (arith, low))
rise-at (suc zero) (suc (suc zero)) low within = inl (omega arith)
rise-at (suc (suc i)) (suc (suc zero)) low within = absurd (omega (arith, low))
rise-at (suc i) (suc (suc (suc j))) low within = absurd (omega (arith, within))

pub live : AreLive worked_end worked_live
live = record {
  all = λ a. ((λ there. in-any worked_live a (reached-live a there)), (λ there. all-any Reached worked_live a (reached-large, (reached-shared, (reached-second, tt))) there));
  rise = rise-at;
}
