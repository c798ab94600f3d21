-- Regions of a mutator that stay: twice, and then all but one; the two regions under lines; what the mutator tries.
use Rattle.std.proofs.Common.{◌≡◌, ◌∙◌, ap, ℕ, inl, inr}
use Rattle.std.specs.Prelude.{Option, unwrap_or}
use Rattle.heap_layout.specs.declared.block.Kind.{Kind}
use Rattle.heap_layout.specs.declared.region.Region.{Region}
use Rattle.sessions.specs.Fitting.{class_for}
use Rattle.plan_api.specs.declared.cursors.Cursors.{Cursors}
use Rattle.local_allocators.specs.MutatorRegions.{MutatorRegions, cursors_of, TriesBlock, KeepsRegions, KeepsOthers}

-- regions that stay twice
pub keeps-more : (old mid new : MutatorRegions) → KeepsRegions old mid → KeepsRegions mid new → KeepsRegions old new
keeps-more old mid new one two = record {
  classes = λ class. record {
    block = (two.classes class).block ∙ (one.classes class).block;
    region = (two.classes class).region ∙ (one.classes class).region;
  };
  over = record { block = two.over.block ∙ one.over.block; region = two.over.region ∙ one.over.region };
}

-- and then all but one
pub others-after : (fill : Kind) (size : ℕ) (over : Type 0) (old mid new : MutatorRegions) → KeepsRegions old mid
    → KeepsOthers fill size over mid new → KeepsOthers fill size over old new
others-after fill size over old mid new one two = record {
  classes = λ class other. record {
    block = (two.classes class other).block ∙ (one.classes class).block;
    region = (two.classes class other).region ∙ (one.classes class).region;
  };
  over_stays = λ other. record {
    block = (two.over_stays other).block ∙ one.over.block;
    region = (two.over_stays other).region ∙ one.over.region;
  };
}

-- the two regions under lines
pub cursors-same : (old new : MutatorRegions) → KeepsRegions old new → cursors_of new ≡ cursors_of old
cursors-same old new keeps =
    ap (λ (o : Option ℕ). let c : Cursors = record { hole = new.left (new.blocks 0); hole_block = unwrap_or o 0; over = new.left new.over; over_block = unwrap_or new.over 0 } in c)
    (keeps.classes 0).block
    ∙ ap (λ (o : Option ℕ). let c : Cursors = record { hole = new.left (new.blocks 0); hole_block = unwrap_or (old.blocks 0) 0; over = new.left new.over; over_block = unwrap_or o 0 } in c)
    keeps.over.block
    ∙ ap (λ (r : Region). let c : Cursors = record { hole = r; hole_block = unwrap_or (old.blocks 0) 0; over = new.left new.over; over_block = unwrap_or old.over 0 } in c)
    (keeps.classes 0).region
    ∙ ap (λ (r : Region). let c : Cursors = record { hole = old.left (old.blocks 0); hole_block = unwrap_or (old.blocks 0) 0; over = r; over_block = unwrap_or old.over 0 } in c)
    keeps.over.region

-- what a mutator tries stays with its blocks
pub tries-still : (f g : Kind) (x y : MutatorRegions) (n k : ℕ) → g ≡ f → ((class : ℕ) → y.blocks class ≡ x.blocks class) → y.over ≡ x.over
    → TriesBlock f x n k → TriesBlock g y n k
tries-still f g x y n k fill blocks over (inl is) = inl (blocks (class_for g n) ∙ ap (λ h. x.blocks (class_for h n)) fill ∙ is)
tries-still f g x y n k fill blocks over (inr is) = inr (fill ∙ is.0, is.1, over ∙ is.2)
