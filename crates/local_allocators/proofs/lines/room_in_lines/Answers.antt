use Rattle.std.proofs.Common.{◌≡◌, refl, sym, ◌∙◌, ap, subst, ℕ, true, false, nat_eq, eq-eqb, eqb-true, get_or}
use Rattle.std.specs.Prelude.{Option, Some, None, Bool, not}
use Rattle.std.specs.Option.{option_eq}
use Rattle.plan_api.proofs.CellParts.{apart-anyway}
use Rattle.plan_api.proofs.BlockViews.{block-anyway, orderly-apart}
use Rattle.object_model.specs.Objects.{state_of}
use Rattle.local_allocators.proofs.BlockReads.{option-read}
use Rattle.local_allocators.proofs.lines.room_in_lines.Goals as goal

-- what a test of an option against a block says
same-option : (o : Option ℕ) (k : ℕ) → option_eq nat_eq o (Some k) ≡ true → o ≡ Some k
same-option None k is = absurd (let wrong : false ≡ true = is in cc)
same-option (Some j) k is = ap (λ (n : ℕ). Some n) (eqb-true j k is)

differ-option : (o : Option ℕ) (k : ℕ) → option_eq nat_eq o (Some k) ≡ false → o ≡ Some k → ⊥
differ-option o k is same =
    let wrong : true ≡ false = sym (eq-eqb k k refl) ∙ subst (λ (q : Option ℕ). option_eq nat_eq q (Some k) ≡ false) same is in cc

negated : (b : Bool) → not b ≡ true → b ≡ false
negated true is = absurd (let wrong : false ≡ true = is in cc)
negated false is = refl

affirmed : (b : Bool) → not b ≡ false → b ≡ true
affirmed true is = refl
affirmed false is = absurd (let wrong : true ≡ false = is in cc)

pub hole_in_block-requires-clause-block : goal.hole_in_block-requires-clause-block
hole_in_block-requires-clause-block c = let row = c.args.row.now in block-anyway row.words row.layout row.number row.base 0 0 c.args.block c.requires.block

pub hole_in_block-requires-clause-apart : goal.hole_in_block-requires-clause-apart
hole_in_block-requires-clause-apart c =
    let row = c.args.row.now in
    apart-anyway row.words row.layout row.number row.base 0 0 c.args.block (orderly-apart (state_of row) c.args.block c.requires.order)

pub returns-then-ne : goal.returns-then-ne
returns-then-ne c = (
  (λ lines here. absurd (differ-option (get_or c.args.seat.now.blocks 0 None) c.args.block (negated _ (sym c.if-ne.ensures)) (sym (option-read c.args.seat.now.blocks 0) ∙ here))),
  (λ other. absurd (other refl)),
)

pub returns-in-Some : goal.returns-in-Some
returns-in-Some c = let row = c.args.row.now in (
  refl,
  option-read c.args.seat.now.blocks 0 ∙ same-option (get_or c.args.seat.now.blocks 0 None) c.args.block (affirmed _ (sym c.if-ne.ensures)),
  c.in-Some.ensures row.number row.base,
)

pub returns-in-None : goal.returns-in-None
returns-in-None c = let row = c.args.row.now in (
  (λ lines here. c.in-None.ensures row.number row.base),
  (λ other. absurd (other refl)),
)
