-- The rights after a root asks for an object that has its target, and what is known of a target.
use Rattle.std.proofs.Common.{◌≡◌, ℕ, ◌+◌, ◌<◌, inl, inr, nat_eq, ◌∷◌, sym, ap, ◌∙◌, arith, Some}
use Rattle.std.proofs.lemmas.Bool.{cases_eq, eq-eqb, ne_eqb}
use Rattle.object_model.specs.Times.{one_if, times}
use Rattle.trace_core.specs.Setups.{Setup}
use Rattle.trace_core.specs.Machine.{Machine, Ask, target, next, put}
use Rattle.trace_core.specs.Views.{View, Holds, asked_view, hits}
use Rattle.trace_core.proofs.Puts.{put_here, put_else}
use Rattle.trace_core.proofs.CountedRights.{hits-from, pair-parts, times-cons}
use Rattle.trace_core.proofs.Idle.{one-if-true}

module _ (p : Setup) (m : Machine) (v : View) (holds : Holds p m v) (x t : ℕ) (is : target (m.stage x) ≡ Some t) where
  known-now : (y u : ℕ) → 0 < hits y u ((x, t) ∷ v.known) → target (m.stage y) ≡ Some u
  known-now y u some = elim (hits-from x t v.known y u some) as (λ _. target (m.stage y) ≡ Some u) [
    | inl pair ↦ (let both = pair-parts x t y u pair in ap (λ z. target (m.stage z)) (sym both.0) ∙ is ∙ ap Some both.1)
    | inr before ↦ holds.known y u before
  ]

  -- one more target is known
  pub holds-known : Holds p m (record v { known = (x, t) ∷ v.known })
  holds-known = record {
    won = holds.won;
    grey = holds.grey;
    copied = holds.copied;
    unset = holds.unset;
    set = holds.set;
    asked = holds.asked;
    known = known-now;
    blocks = holds.blocks;
  }

  asked-now : (y : ℕ) → times y (x ∷ v.asked) ≡ put m.asked x (m.asked x + 1) y
  asked-now y =
      let count : times y (x ∷ v.asked) ≡ one_if (nat_eq y x) + times y v.asked = times-cons x v.asked y in
      elim (cases_eq y x) as (λ _. times y (x ∷ v.asked) ≡ put m.asked x (m.asked x + 1) y) [
        | inl e ↦ (let one : one_if (nat_eq y x) ≡ 1 = one-if-true (nat_eq y x) (eq-eqb y x e) in
            let before : times y v.asked ≡ m.asked x = holds.asked y ∙ ap m.asked e in
            let more : put m.asked x (m.asked x + 1) y ≡ m.asked x + 1 = ap (put m.asked x (m.asked x + 1)) e ∙ put_here m.asked x (m.asked x + 1) in omega arith)
        | inr ne ↦ (let zero : one_if (nat_eq y x) ≡ 0 = ap one_if (ne_eqb y x ne) in
            let before : times y v.asked ≡ m.asked y = holds.asked y in
            let still : put m.asked x (m.asked x + 1) y ≡ m.asked y = put_else m.asked x (m.asked x + 1) y ne in omega arith)
      ]

  pub holds-asked : Holds p (next p m (Ask x)) (asked_view x t v)
  holds-asked = record {
    won = holds.won;
    grey = holds.grey;
    copied = holds.copied;
    unset = holds.unset;
    set = holds.set;
    asked = asked-now;
    known = known-now;
    blocks = holds.blocks;
  }
