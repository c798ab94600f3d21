use Rattle.std.proofs.Common.{◌≡◌, ap, ◌∙◌, refl, rules, map, replicate, None, ◌∷◌, ℕ, zero, suc}
use Rattle.ideal_heap.specs.Ideal.{Record, Nil, field_of}
use Rattle.ideal_heap.proofs.tables.Object.new.Goals as goal

nils : (n : ℕ) → map field_of (replicate n None) ≡ replicate n Nil
nils zero = refl
nils (suc n) = ap (λ l. Nil ∷ l) (nils n)

pub returns : goal.returns
returns c =
    let refs : c.in_ok-refs.refs.items ≡ replicate c.args.refs None = c.in_ok-refs.ensures.items_if_clones_equal (search rules) in
    let nums : c.in_ok-nums.nums.items ≡ replicate c.args.nums 0 = c.in_ok-nums.ensures.items_if_clones_equal (search rules) in (
      ap (λ l. let r : Record = record { refs = map field_of l; nums = c.in_ok-nums.nums.items } in r) refs
          ∙ ap (λ l. let r : Record = record { refs = l; nums = c.in_ok-nums.nums.items } in r) (nils c.args.refs)
          ∙ ap (λ l. let r : Record = record { refs = replicate c.args.refs Nil; nums = l } in r) nums,
      refl,
    )
