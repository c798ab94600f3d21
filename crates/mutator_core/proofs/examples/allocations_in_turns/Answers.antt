use Rattle.std.proofs.Common.{refl, sym, ◌∙◌, ap, subst, ℕ, zero, suc, ◌<◌, ◌≡◌, inl, inr, arith, List, [], ◌∷◌}
use Rattle.std.specs.List.{Contains}
use Rattle.heap_layout.specs.Zones.{block_at}
use Rattle.heap_layout.specs.Blocks.{kind_code}
use Rattle.object_model.specs.Graphs.{AreDifferent}
use Rattle.object_model.proofs.Zeros as zeros
use Rattle.sessions.specs.Plans.{NoGc}
use Rattle.mutator_core.specs.declared.state.Local.{Local}
use Rattle.mutator_core.specs.declared.state.Extent.{Extent}
use Rattle.mutator_core.specs.declared.state.OwnedBlock.{OwnedBlock}
use Rattle.mutator_core.specs.Machine.{first_machine}
use Rattle.mutator_core.specs.Histories.{IsLog}
use Rattle.mutator_core.specs.Logs.{local_after_log}
use Rattle.mutator_core.specs.Closing.{IsBetweenCalls}
use Rattle.mutator_core.specs.Examples.{empty_epoch, mixed_log}
use Rattle.mutator_core.proofs.Lists.{contains-cases, contains-none}
use Rattle.mutator_core.proofs.EmptyHeaps.{empty-ready}
use Rattle.mutator_core.proofs.examples.allocations_in_turns.Goals as goal

steps : IsLog empty_epoch (first_machine empty_epoch) mixed_log
steps = (
  (0, omega arith, refl),
  refl,
  refl,
  (
    (1, omega arith, refl),
    refl,
    refl,
    (
      (0, omega arith, refl),
      (omega arith, refl, λ is. (0, refl, omega arith)),
      refl,
      (
        (1, omega arith, refl),
        (omega arith, refl, λ is. (1, refl, omega arith)),
        refl,
        (
          (0, omega arith, refl),
          (
            omega arith,
            inl (
              refl,
              record {
                none = refl;
                few_births = omega arith;
                few_refs = omega arith;
                few_nums = omega arith;
                small = omega arith;
                region = inr (inr (inl (refl, refl)));
                available = record {
                  place = record { address = record { from = omega arith; below = omega arith }; inside = omega arith; owned = record { block = 0; class = 0 }; among = (0, omega arith, refl); here = refl; hole = inl refl; cell = λ e. absurd (let wrong : 1 ≡ 5 = ap kind_code e in omega arith) };
                  beside = λ x there. absurd (contains-none x there);
                };
              },
            ),
          ),
          refl,
          (
            (1, omega arith, refl),
            (omega arith, refl, λ is. (1, refl, omega arith)),
            refl,
            (
              (1, omega arith, refl),
              (
                omega arith,
                inl (
                  refl,
                  record {
                    none = refl;
                    few_births = omega arith;
                    few_refs = omega arith;
                    few_nums = omega arith;
                    small = omega arith;
                    region = inr (inr (inl (refl, refl)));
                    available = record {
                      place = record { address = record { from = omega arith; below = omega arith }; inside = omega arith; owned = record { block = 1; class = 0 }; among = (0, omega arith, refl); here = refl; hole = inl refl; cell = λ e. absurd (let wrong : 1 ≡ 5 = ap kind_code e in omega arith) };
                      beside = λ x there. absurd (contains-none x there);
                    };
                  },
                ),
              ),
              refl,
              (
                (0, omega arith, refl),
                (omega arith, inr (omega arith, omega arith, refl)),
                refl,
                (
                  (1, omega arith, refl),
                  (omega arith, inr (omega arith, omega arith, refl)),
                  refl,
                  (
                    (1, omega arith, refl),
                    tt,
                    refl,
                    (
                      (1, omega arith, refl),
                      (omega arith, inr (omega arith, omega arith, refl)),
                      refl,
                      (
                        (0, omega arith, refl),
                        (omega arith, inr (omega arith, omega arith, refl)),
                        refl,
                        (
                          (0, omega arith, refl),
                          (omega arith, inr (omega arith, omega arith, refl)),
                          refl,
                          (
                            (1, omega arith, refl),
                            (omega arith, inr (omega arith, omega arith, refl)),
                            refl,
                            (
                              (1, omega arith, refl),
                              (omega arith, omega arith, refl),
                              refl,
                              (
                                (0, omega arith, refl),
                                tt,
                                refl,
                                (
                                  (0, omega arith, refl),
                                  (omega arith, omega arith, refl),
                                  refl,
                                  (
                                    (1, omega arith, refl),
                                    (omega arith, omega arith),
                                    refl,
                                    (
                                      (0, omega arith, refl),
                                      (omega arith, omega arith),
                                      refl,
                                      (
                                        (0, omega arith, refl),
                                        (omega arith, omega arith),
                                        refl,
                                        (
                                          (0, omega arith, refl),
                                          (omega arith, ((omega arith, omega arith, refl), omega arith), inl refl, inl refl),
                                          refl,
                                          (
                                            (1, omega arith, refl),
                                            tt,
                                            refl,
                                            (
                                              (0, omega arith, refl),
                                              (omega arith, ((omega arith, omega arith, refl), omega arith)),
                                              refl,
                                              tt,
                                            ),
                                          ),
                                        ),
                                      ),
                                    ),
                                  ),
                                ),
                              ),
                            ),
                          ),
                        ),
                      ),
                    ),
                  ),
                ),
              ),
            ),
          ),
        ),
      ),
    ),
  ),
)

-- the number of a mutator of the epoch
known-cases : (P : ℕ → Type 0) → P 1 → P 2 → (m : ℕ) → Contains (1 ∷ 2 ∷ []) m → P m
known-cases P one two m known = elim (contains-cases 1 (2 ∷ []) m known) as (λ _. P m) [
  | inl e ↦ subst P (sym e) one
  | inr more ↦ elim (contains-cases 2 [] m more) as (λ _. P m) [
    | inl e ↦ subst P (sym e) two
    | inr none ↦ absurd (contains-none m none)
  ]
]

different : AreDifferent (1 ∷ 2 ∷ [])
different zero zero a b e = refl
different zero (suc zero) a b e = absurd (omega arith)
different (suc zero) zero a b e = absurd (omega arith)
different (suc zero) (suc zero) a b e = refl
different (suc (suc i)) j a b e = absurd (let few : suc (suc i) < 2 = a in omega arith)
different zero (suc (suc j)) a b e = absurd (let few : suc (suc j) < 2 = b in omega arith)
different (suc zero) (suc (suc j)) a b e = absurd (let few : suc (suc j) < 2 = b in omega arith)

-- a mutator that owns one block and allocated an object there
used : (l : Local) (k a size : ℕ) → l.owned ≡ (record { block = k; class = 0 }) ∷ [] → Contains l.made (record { address = a; size = size }) → block_at 4 a ≡ k
    → (o : OwnedBlock) → Contains l.owned o → (x : Extent) × Contains l.made x × (block_at 4 x.address ≡ o.block)
used l k a size owned made here o there = elim (contains-cases (record { block = k; class = 0 }) [] o (subst (λ (xs : List OwnedBlock). Contains xs o) owned there)) as (λ _. (x : Extent) × Contains l.made x × (block_at 4 x.address ≡ o.block)) [
  | inl e ↦ (record { address = a; size = size }, made, here ∙ sym (ap (λ (q : OwnedBlock). q.block) e))
  | inr none ↦ absurd (contains-none o none)
]

pub returns-clause-log : goal.returns-clause-log
returns-clause-log c = record {
  ready = empty-ready NoGc 4 (1 ∷ 2 ∷ []) (omega arith) (omega arith) (omega arith);
  represents = zeros.represents 4 (1 ∷ 2 ∷ []) ((omega arith, omega arith), ((omega arith, omega arith), tt)) different;
  steps = steps;
}

pub returns-clause-between : goal.returns-clause-between
returns-clause-between c = known-cases (λ m. IsBetweenCalls empty_epoch (local_after_log empty_epoch mixed_log m))
    (record { none = refl; stored = refl; used = λ o there free. used (local_after_log empty_epoch mixed_log 1) 0 806 4 refl (0, omega arith, refl) refl o there })
    (record { none = refl; stored = refl; used = λ o there free. used (local_after_log empty_epoch mixed_log 2) 1 4902 4 refl (0, omega arith, refl) refl o there })
