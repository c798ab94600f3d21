-- The invariant for reasons: a root or a path leads to each object that has a target, and an object that could have moved
-- is in place only where no block is Free.
use Rattle.std.proofs.Common.{◌≡◌, ℕ, ◌+◌, ◌<◌, ◌≤◌, inl, inr, false, if◌then◌else◌, ◌&&◌, not, IsTrue, nat_eq, nat_lt, sym, ap, ◌∙◌, subst, arith, Some}
use Rattle.std.proofs.lemmas.Bool.{cases_eq, cases_Bool, cond-true, cond-false, ne_eqb, not_from_false}
use Rattle.heap_layout.specs.Zones.{heap_of}
use Rattle.object_model.specs.Objects.{is_reference}
use Rattle.trace_core.specs.Setups.{Setup, TraceMayBegin, blocks, held, size, stays_old, may_be_moved}
use Rattle.trace_core.specs.Machine.{Stage, Copying, Scanning, target, Machine, Event, ClaimCause, ByRoot, ByGlobal, ByField, Claim, Ask, Copy, Scan, SetGlobal, MarkLines, TakeBlock, put, copy_stage, scan_stage, asks_after, next, first_machine}
use Rattle.trace_core.specs.Traces.{NoneIsFree, IsAskedBy, May, TraceKeeps, FromRoot, FromGlobal, FromOld, ByReference}
use Rattle.trace_core.proofs.Puts.{put_here, put_else}
use Rattle.trace_core.proofs.Objects.{Some-injective, None-not-Some, Grows, grows_put}
use Rattle.trace_core.proofs.Places.{object-from}
use Rattle.trace_core.proofs.ObjectEvents.{Keeps, claimed-to-move}
use Rattle.trace_core.proofs.FirstInvariant.{first-young}

pub record KeepsReasons (p : Setup) (stage : ℕ → Stage) (taken asked : ℕ → ℕ) : Type 0 where
  pub roots : (x : ℕ) → 0 < asked x → (t : ℕ) × (target (stage x) ≡ Some t)
  pub reached : (x t : ℕ) → target (stage x) ≡ Some t → TraceKeeps p asked x
  pub stays : (x : ℕ) → target (stage x) ≡ Some x → stays_old p x ≡ false → IsTrue (may_be_moved p x) → NoneIsFree p taken

abbrev pub Reasons : Setup → Machine → Type 0
Reasons p m = KeepsReasons p m.stage m.taken m.asked

module _ (p : Setup) (asked asked' : ℕ → ℕ) (more : (x : ℕ) → 0 < asked x → 0 < asked' x) where
  pub reaches-more : (x : ℕ) → TraceKeeps p asked x → TraceKeeps p asked' x
  reaches-more _ (FromRoot x some) = FromRoot x (more x some)
  reaches-more _ (FromGlobal g few reference) = FromGlobal g few reference
  reaches-more _ (FromOld x aged) = FromOld x aged
  reaches-more _ (ByReference y i from few reference) = ByReference y i (reaches-more y from) few reference

-- each root that was asked for still was
put-more : (asked : ℕ → ℕ) (x y : ℕ) → 0 < asked y → 0 < put asked x (asked x + 1) y
put-more asked x y some = elim (cases_eq y x) as (λ _. 0 < put asked x (asked x + 1) y) [
  | inl e ↦ subst (λ n. 0 < n) (sym (ap (put asked x (asked x + 1)) e ∙ put_here asked x (asked x + 1))) (omega arith)
  | inr ne ↦ subst (λ n. 0 < n) (sym (put_else asked x (asked x + 1) y ne)) some
]

claim-more : (m : Machine) (x t : ℕ) (cause : ClaimCause) (y : ℕ) → 0 < m.asked y → 0 < asks_after m (Claim x t cause) y
claim-more m x t ByRoot y some = put-more m.asked x y some
claim-more m x t (ByGlobal g) y some = some
claim-more m x t (ByField z i) y some = some

module _ (p : Setup) (ready : TraceMayBegin p) (m : Machine) (h : Keeps p m) (r : Reasons p m) where
  -- an address is a reference
  reference-of : (x : ℕ) → IsTrue (held p x) → IsTrue (is_reference x)
  reference-of x here = not_from_false (nat_eq x 0) (ne_eqb x 0 (λ z. let from : heap_of (blocks p) ≤ x = object-from p ready x here in omega arith))

  asked-reaches : (x t : ℕ) (cause : ClaimCause) → IsTrue (held p x) → IsAskedBy p m x cause → TraceKeeps p (asks_after m (Claim x t cause)) x
  asked-reaches x t ByRoot here by = FromRoot x (subst (λ n. 0 < n) (sym (put_here m.asked x (m.asked x + 1))) (omega arith))
  asked-reaches x t (ByGlobal g) here by = subst (TraceKeeps p m.asked) by.1 (FromGlobal g by.0 (subst (λ v. IsTrue (is_reference v)) (sym by.1) (reference-of x here)))
  asked-reaches x t (ByField y i) here by = subst (TraceKeeps p m.asked) by.1 (ByReference y i (r.reached y by.2.0 by.2.1) by.0 (subst (λ v. IsTrue (is_reference v)) (sym by.1) (reference-of x here)))

  claim-roots : (x t k : ℕ) (cause : ClaimCause) → (y : ℕ) → 0 < asks_after m (Claim x t cause) y → Grows m.stage (put m.stage x (Copying t k))
      → (u : ℕ) × (target (put m.stage x (Copying t k) y) ≡ Some u)
  claim-roots x t k ByRoot y some grows = elim (cases_eq y x) as (λ _. (u : ℕ) × (target (put m.stage x (Copying t k) y) ≡ Some u)) [
    | inl e ↦ (t, ap target (ap (put m.stage x (Copying t k)) e ∙ put_here m.stage x (Copying t k)))
    | inr ne ↦ (let d = r.roots y (subst (λ n. 0 < n) (put_else m.asked x (m.asked x + 1) y ne) some) in (d.0, grows y d.0 d.1))
  ]
  claim-roots x t k (ByGlobal g) y some grows = let d = r.roots y some in (d.0, grows y d.0 d.1)
  claim-roots x t k (ByField z i) y some grows = let d = r.roots y some in (d.0, grows y d.0 d.1)

  after-claim : (x t : ℕ) (cause : ClaimCause) → May p m (Claim x t cause) → Reasons p (next p m (Claim x t cause))
  after-claim x t cause may =
      let k : ℕ = if nat_eq t x then size p x else 0 in
      let grows : Grows m.stage (put m.stage x (Copying t (if nat_eq t x then size p x else 0))) = grows_put m.stage x (Copying t k) (λ u e. absurd (None-not-Some u (sym (ap target may.1) ∙ e))) in
      record {
        roots = λ y some. claim-roots x t (if nat_eq t x then size p x else 0) cause y some grows;
        reached = λ y u is. elim (cases_eq y x) as (λ _. TraceKeeps p (asks_after m (Claim x t cause)) y) [
          | inl e ↦ subst (TraceKeeps p (asks_after m (Claim x t cause))) (sym e) (asked-reaches x t cause may.0 may.2)
          | inr ne ↦ reaches-more p m.asked (asks_after m (Claim x t cause)) (claim-more m x t cause) y (r.reached y u (sym (ap target (put_else m.stage x (Copying t k) y ne)) ∙ is))
        ];
        stays = λ y is young moves. elim (cases_eq y x) as (λ _. NoneIsFree p m.taken) [
          | inl e ↦ elim may.3 as (λ _. NoneIsFree p m.taken) [
            | inl stays ↦ stays.reason (subst (λ z. IsTrue (may_be_moved p z)) e moves)
            | inr room ↦ absurd ((claimed-to-move p ready m h x may.0 may.1 t room).0
                (Some-injective t x (sym (ap target (put_here m.stage x (Copying t k))) ∙ ap (λ z. target (put m.stage x (Copying t k) z)) (sym e) ∙ is ∙ ap Some e)))
          ]
          | inr ne ↦ r.stays y (sym (ap target (put_else m.stage x (Copying t k) y ne)) ∙ is) young moves
        ];
      }

  -- a step that leaves each target as it is
  same-targets : (stage' : ℕ → Stage) → ((y : ℕ) → target (stage' y) ≡ target (m.stage y)) → KeepsReasons p stage' m.taken m.asked
  same-targets stage' same = record {
    roots = λ y some. let d = r.roots y some in (d.0, same y ∙ d.1);
    reached = λ y u is. r.reached y u (sym (same y) ∙ is);
    stays = λ y is. r.stays y (sym (same y) ∙ is);
  }

  put-same : (x : ℕ) (new : Stage) → target new ≡ target (m.stage x) → (y : ℕ) → target (put m.stage x new y) ≡ target (m.stage y)
  put-same x new same y = elim (cases_eq y x) as (λ _. target (put m.stage x new y) ≡ target (m.stage y)) [
    | inl e ↦ ap target (ap (put m.stage x new) e ∙ put_here m.stage x new) ∙ same ∙ ap (λ z. target (m.stage z)) (sym e)
    | inr ne ↦ ap target (put_else m.stage x new y ne)
  ]

  copied-target : (x t k : ℕ) → target (copy_stage p x (Copying t k)) ≡ Some t
  copied-target x t k = elim (cases_Bool (nat_lt k (size p x))) as (λ _. target (copy_stage p x (Copying t k)) ≡ Some t) [
    | inl e ↦ ap target (cond-true (nat_lt k (size p x)) (Copying t (k + 1)) _ e)
    | inr e ↦ ap target (cond-false (nat_lt k (size p x)) (Copying t (k + 1)) _ e) ∙ (elim (cases_Bool (nat_eq k (size p x) && not (nat_eq t x))) as (λ _. target (if nat_eq k (size p x) && not (nat_eq t x) then Copying t (k + 1) else Scanning t 0) ≡ Some t) [
      | inl d ↦ ap target (cond-true (nat_eq k (size p x) && not (nat_eq t x)) (Copying t (k + 1)) (Scanning t 0) d)
      | inr d ↦ ap target (cond-false (nat_eq k (size p x) && not (nat_eq t x)) (Copying t (k + 1)) (Scanning t 0) d)
    ])
  ]

  pub reason-event : (e : Event) → May p m e → Reasons p (next p m e)
  reason-event (Claim x t cause) may = after-claim x t cause may
  reason-event (Ask x) may = record {
    roots = λ y some. elim (cases_eq y x) as (λ _. (t : ℕ) × (target (m.stage y) ≡ Some t)) [
      | inl e ↦ (may.0, ap (λ z. target (m.stage z)) e ∙ may.1)
      | inr ne ↦ r.roots y (subst (λ n. 0 < n) (put_else m.asked x (m.asked x + 1) y ne) some)
    ];
    reached = λ y t is. reaches-more p m.asked (put m.asked x (m.asked x + 1)) (put-more m.asked x) y (r.reached y t is);
    stays = r.stays;
  }
  reason-event (Copy x) may = same-targets (put m.stage x (copy_stage p x (m.stage x))) (put-same x (copy_stage p x (m.stage x))
      (ap (λ st. target (copy_stage p x st)) may.2 ∙ copied-target x may.0 may.1 ∙ sym (ap target may.2)))
  reason-event (Scan x) may = same-targets (put m.stage x (scan_stage (m.stage x))) (put-same x (scan_stage (m.stage x))
      (ap (λ st. target (scan_stage st)) may.2 ∙ sym (ap target may.2)))
  reason-event (SetGlobal g) may = r
  reason-event (MarkLines x word mask) may = r
  reason-event (TakeBlock b w) may = record {
    roots = r.roots;
    reached = r.reached;
    stays = λ y is young moves c free. elim (cases_eq c b) as (λ _. 0 < put m.taken b w c) [
      | inl e ↦ subst (λ n. 0 < n) (sym (ap (put m.taken b w) e ∙ put_here m.taken b w)) may.2
      | inr ne ↦ subst (λ n. 0 < n) (sym (put_else m.taken b w c ne)) (r.stays y is young moves c free)
    ];
  }

pub first-reasons : (p : Setup) → TraceMayBegin p → Reasons p (first_machine p)
first-reasons p ready = record {
  roots = λ x some. absurd (omega arith);
  reached = λ x t is. elim (cases_Bool (stays_old p x)) as (λ _. TraceKeeps p (λ x. 0) x) [
    | inl aged ↦ FromOld x aged
    | inr young ↦ absurd (None-not-Some t (sym (ap target (first-young p ready x young)) ∙ is))
  ];
  stays = λ x is young. absurd (None-not-Some x (sym (ap target (first-young p ready x young)) ∙ is));
}
