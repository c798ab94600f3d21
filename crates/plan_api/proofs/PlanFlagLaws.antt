-- What a plan's flags say of its rules.
use Rattle.std.proofs.Common.{◌≡◌, ℕ, refl, sym, ap, ◌∙◌, nat_eq, bit_and}
use Rattle.sessions.specs.Plans.{Plan, Rules, NoGc, MarkSweep, SemiSpace, GenCopy, Immix, StickyImmix, rules_of}
use Rattle.plan_api.specs.Flags.{flags_of}

moves-flag : (q : Plan) → nat_eq (bit_and (flags_of (rules_of q)) 1) 1 ≡ (rules_of q).moves
moves-flag NoGc = refl
moves-flag MarkSweep = refl
moves-flag SemiSpace = refl
moves-flag GenCopy = refl
moves-flag Immix = refl
moves-flag StickyImmix = refl

pub moves-shown : (q : Plan) (r : Rules) → r ≡ rules_of q → (flags : ℕ) → flags ≡ flags_of r → nat_eq (bit_and flags 1) 1 ≡ r.moves
moves-shown q r of flags are = ap (λ f. nat_eq (bit_and f 1) 1) (are ∙ ap flags_of of) ∙ moves-flag q ∙ sym (ap (λ (r : Rules). r.moves) of)

young-flag : (q : Plan) → nat_eq (bit_and (flags_of (rules_of q)) 2) 2 ≡ (rules_of q).young
young-flag NoGc = refl
young-flag MarkSweep = refl
young-flag SemiSpace = refl
young-flag GenCopy = refl
young-flag Immix = refl
young-flag StickyImmix = refl

pub young-shown : (q : Plan) (r : Rules) → r ≡ rules_of q → (flags : ℕ) → flags ≡ flags_of r → nat_eq (bit_and flags 2) 2 ≡ r.young
young-shown q r of flags are = ap (λ f. nat_eq (bit_and f 2) 2) (are ∙ ap flags_of of) ∙ young-flag q ∙ sym (ap (λ (r : Rules). r.young) of)
