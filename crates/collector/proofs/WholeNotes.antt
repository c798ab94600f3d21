-- The collection and its note, by whether the plan reclaims.
use Rattle.std.proofs.Common.{◌≡◌, sym, ap, ◌∙◌, ℕ, inl, Bool, true, false, List, true≢false}
use Rattle.std.specs.Prelude.{All}
use Rattle.work_packets.specs.declared.packet.Packet.{Packet}
use Rattle.work_packets.specs.declared.packet.Bucket.TheVariants as buckets
use Rattle.collector.specs.RootPackets.{AreRootPackets}
use Rattle.collector.specs.Working.{IsOfTrace}
use Rattle.collector.specs.declared.item.Item.{Item}
use Rattle.collector.proofs.ItemCounts.{all-both}
use Rattle.object_model.specs.declared.collect.Collect.{Collect}
use Rattle.object_model.specs.Objects.{HeapState}
use Rattle.sessions.specs.Plans.{Rules, Plan, rules_of, Copies, NoGc, MarkSweep, SemiSpace, GenCopy, Immix, StickyImmix}
use Rattle.sessions.specs.Collecting.{Collects, CollectsIf}
use Rattle.collector.specs.Collected.{FillsInTurn, FillsIf, LeavesFewBlocks}
use Rattle.collector.specs.Tallies.{IsNote, NotesIf}
use Rattle.collector.specs.declared.outcome.Note.{Note}

module _ (r : Rules) (w : ℕ) (c : Collect) (s : HeapState) (roots : List ℕ) (new : HeapState) (roots' : List ℕ) (note : Note) where
  abbrev Answers : Bool → Type 0
  Answers b = (made : CollectsIf b r w c s roots new roots') × NotesIf b r w c s roots new roots' made note × FillsIf b r w c s roots new roots' made

  pub collects-all : (b : Bool) → b ≡ true → (made : Collects r w c s roots new roots') × IsNote c s made.target new note × (w ≡ 1 → FillsInTurn s made.target) → Answers b
  collects-all true is made = made
  collects-all false is made = absurd (true≢false (sym is))

-- a plan that reclaims nothing holds back no copies
pub none-held-back : (q : Plan) (r : Rules) → r ≡ rules_of q → r.collects ≡ false → (w : ℕ) (c : Collect) (s new : HeapState) (note : Note) → LeavesFewBlocks r w c s new note
none-held-back q r of none w c s new note copies = absurd (no-copies q (ap (λ (x : Rules). x.collects) (sym of) ∙ none) (ap (λ (x : Rules). x.reserve) (sym of) ∙ copies))
  where
    no-copies : (q : Plan) → (rules_of q).collects ≡ false → (rules_of q).reserve ≡ Copies → ⊥
    no-copies NoGc none copies = cc
    no-copies MarkSweep none copies = cc
    no-copies SemiSpace none copies = cc
    no-copies GenCopy none copies = cc
    no-copies Immix none copies = cc
    no-copies StickyImmix none copies = cc

pub root-buckets : (ps : List (Packet Item)) → AreRootPackets ps → All IsOfTrace ps
root-buckets ps are = all-both (λ p. p.bucket ≡ buckets.Roots) (λ p. p.bucket ≡ buckets.Roots) IsOfTrace (λ p is again. inl is) ps are.bucket are.bucket
