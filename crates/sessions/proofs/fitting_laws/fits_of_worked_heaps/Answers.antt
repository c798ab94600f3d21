use Rattle.std.proofs.Common.{refl, ◌<◌, ◌≤◌, inl, inr, lit<, arith}
use Rattle.heap_layout.specs.declared.block.Kind.TheVariants as kinds
use Rattle.sessions.specs.Plans.{NoGc, SemiSpace, GenCopy, Immix, rules_of}
use Rattle.sessions.specs.WorkedFits.{used_heap, split_heap}
use Rattle.sessions.proofs.WorkedFits as worked
use Rattle.sessions.proofs.fitting_laws.fits_of_worked_heaps.Goals as goal

pub returns-clause-tail : goal.returns-clause-tail
returns-clause-tail c = worked.from-small (rules_of NoGc) (used_heap 4) 2048 (lit< tt) (inl (record { block = 0; offset = 4; hole = worked.used-hole }))

pub returns-clause-other_kind : goal.returns-clause-other_kind
returns-clause-other_kind c fits = elim (worked.to-small (rules_of GenCopy) (used_heap 4) 3 (lit< tt) fits) as (λ _. ⊥) [
  | inl hole ↦ worked.no-kind (used_heap 4) kinds.Young refl hole.block hole.hole.0
  | inr grant ↦ (let wrong : 5 < 0 = grant in omega arith)
]

pub returns-clause-granted : goal.returns-clause-granted
returns-clause-granted c = worked.from-small (rules_of GenCopy) (used_heap 1) 2048 (lit< tt) (inr (lit< tt))

pub returns-clause-held_back : goal.returns-clause-held_back
returns-clause-held_back c fits = elim (worked.to-small (rules_of GenCopy) (used_heap 2) 3 (lit< tt) fits) as (λ _. ⊥) [
  | inl hole ↦ worked.no-kind (used_heap 2) kinds.Young refl hole.block hole.hole.0
  | inr grant ↦ (let wrong : 3 < 2 = grant in omega arith)
]

pub returns-clause-large : goal.returns-clause-large
returns-clause-large c = (
  worked.from-small (rules_of NoGc) (used_heap 4) 2048 (lit< tt) (inl (record { block = 0; offset = 4; hole = worked.used-hole })),
  (λ fits. let grant : 1 ≤ 0 = (worked.to-large (rules_of NoGc) (used_heap 4) 2049 (lit< tt) fits).granted in omega arith),
)

pub returns-clause-blocks : goal.returns-clause-blocks
returns-clause-blocks c = (
  worked.from-large (rules_of NoGc) (used_heap 2) 8192 (lit< tt) (record { granted = lit< tt; block = 2; run = worked.free-run (used_heap 2) 2 2 (lit< tt) refl }),
  (λ fits. let grant : 3 ≤ 2 = (worked.to-large (rules_of NoGc) (used_heap 2) 8193 (lit< tt) fits).granted in omega arith),
)

pub returns-clause-copied : goal.returns-clause-copied
returns-clause-copied c = (
  worked.from-large (rules_of SemiSpace) (used_heap 1) 8192 (lit< tt) (record { granted = lit< tt; block = 1; run = worked.free-run (used_heap 1) 1 2 (lit< tt) refl }),
  (λ fits. let grant : 4 ≤ 3 = (worked.to-large (rules_of SemiSpace) (used_heap 1) 8193 (lit< tt) fits).granted in omega arith),
)

pub returns-clause-headed : goal.returns-clause-headed
returns-clause-headed c = (
  worked.from-large (rules_of Immix) (used_heap 1) 8192 (lit< tt) (record { granted = lit< tt; block = 1; run = worked.free-run (used_heap 1) 1 2 (lit< tt) refl }),
  (λ fits. let grant : 4 ≤ 3 = (worked.to-large (rules_of Immix) (used_heap 1) 8193 (lit< tt) fits).granted in omega arith),
)

pub returns-clause-split : goal.returns-clause-split
returns-clause-split c = (
  worked.from-large (rules_of NoGc) split_heap 4096 (lit< tt) (record { granted = lit< tt; block = 0; run = worked.free-run split_heap 0 1 (lit< tt) refl }),
  (λ fits. let large = worked.to-large (rules_of NoGc) split_heap 4097 (lit< tt) fits in worked.split-apart large.block large.run),
)
