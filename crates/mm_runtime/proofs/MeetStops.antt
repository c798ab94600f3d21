-- The last step of a stop: the replies to mutators that meet.
use Rattle.std.proofs.Common.{◌≡◌, refl, sym, ◌∙◌, ap, subst, ℕ, zero, suc, ◌+◌, ◌*◌, ◌<◌, ◌≤◌, inl, inr, arith, Bool, true, false, List, [], length, filter, Vec}
use Rattle.std.specs.Prelude.{slice_get, Some, unwrap_or, IsTrue}
use Rattle.std.specs.List.{range_with_len, list_all}
use Rattle.std.specs.declared.alloc.Global.{Global}
use Rattle.std.proofs.lemmas.Bool.{cases_eq, and_parts}
use Rattle.std.proofs.lemmas.List.{length-map}
use Rattle.ideal_heap.specs.declared.command.Command.TheVariants as c
use Rattle.ideal_heap.specs.Runs.{trace_of}
use Rattle.sessions.specs.Plans.{Rules}
use Rattle.sessions.specs.Sessions.{Setting, Moment, MeetsIf, Meets, is_at_meet, is_waiting, next_in, traced_mutators, ideal_at}
use Rattle.sessions.proofs.Soundness as soundness
use Rattle.block_regions.proofs.Lists.{get-some, get-below, get-map}
use Rattle.mm_runtime.specs.declared.progress.Progress.{Progress}
use Rattle.mm_runtime.specs.declared.manager.Manager.{Manager}
use Rattle.mm_runtime.specs.Managers.{next_in_trace, replied, IsInOrder, IsAtStop, StandsAt}
use Rattle.mm_runtime.specs.Replying.{next_if, is_meet_at, RepliesBelow}
use Rattle.mm_runtime.proofs.Tally.{own-entries}
use Rattle.mm_runtime.proofs.Waits.{meets-next}
use Rattle.mm_runtime.proofs.Oks as oks

-- tests of the numbers of a range
all-pass : (p : ℕ → Bool) (a n : ℕ) → ((m : ℕ) → a ≤ m → m < a + n → p m ≡ true) → list_all p (range_with_len a n) ≡ true
all-pass p a zero each = refl
all-pass p a (suc n) each = rw (each a (omega arith) (omega arith)) (all-pass p (a + 1) n (λ m low high. each m (omega arith) (omega arith)))

each-passes : (p : ℕ → Bool) (a n : ℕ) → list_all p (range_with_len a n) ≡ true → (m : ℕ) → a ≤ m → m < a + n → p m ≡ true
each-passes p a zero all m low high = absurd (omega arith)
each-passes p a (suc n) all m low high =
    let both = and_parts (p a) (list_all p (range_with_len (a + 1) n)) all in
    elim (cases_eq a m) as (λ _. p m ≡ true) [
      | inl same ↦ ap p (sym same) ∙ both.0
      | inr differ ↦ each-passes p (a + 1) n both.1 m (omega arith) (omega arith)
    ]

module _ {P : Type 0} (rules : Rules) (m : Manager P) where
  -- each mutator waits
  abbrev pub AllWait : Type 0
  AllWait = (k : ℕ) (p : Progress) → slice_get m.progress.items k ≡ Some p → IsTrue (is_waiting (next_in_trace p))

  module _ (t : Setting) (now : Moment) (at : StandsAt rules m t now) where
    pub trace-is : (k : ℕ) (p : Progress) → slice_get m.progress.items k ≡ Some p → trace_of t.traces (k + 1) ≡ p.trace
    trace-is k p is =
        let same : k + 1 ≡ suc k = omega arith in
        ap (trace_of t.traces) same ∙ ap (λ ts. unwrap_or (slice_get ts k) []) at.traces
        ∙ ap (λ o. unwrap_or o []) (get-map (λ (x : Progress). x.trace) m.progress.items k p is)

    -- a mutator's next command is that of its progress
    pub next-is : (k : ℕ) (p : Progress) → slice_get m.progress.items k ≡ Some p → next_in t now (k + 1) ≡ next_in_trace p
    next-is k p is = ap (λ n. slice_get (trace_of t.traces (k + 1)) n) (own-entries m.progress.items now.done at.replies k p is)
        ∙ ap (λ cs. slice_get cs (length p.replies.items)) (trace-is k p is)

    pub as-many : length t.traces ≡ length m.progress.items
    as-many = ap length at.traces ∙ length-map m.progress.items (λ p. p.trace)

    pub test-is : (k : ℕ) → k < length m.progress.items → is_at_meet (next_in t now (k + 1)) ≡ is_meet_at m.progress.items k
    test-is k inside =
        let p = get-some m.progress.items k inside in
        ap is_at_meet (next-is k p.0 p.1) ∙ sym (ap (λ o. is_at_meet (next_if o)) p.1)

    at-number : AllWait → (n : ℕ) → 1 ≤ n → n < 1 + length t.traces → is_waiting (next_in t now n) ≡ true
    at-number all zero low high = absurd (omega arith)
    at-number all (suc k) low high =
        let many : length t.traces ≡ length m.progress.items = as-many in
        let p = get-some m.progress.items k (omega arith) in
        let same : suc k ≡ k + 1 = omega arith in
        ap (λ n. is_waiting (next_in t now n)) same ∙ ap is_waiting (next-is k p.0 p.1) ∙ all k p.0 p.1

    pub all-wait : AllWait → list_all (λ n. is_waiting (next_in t now n)) (traced_mutators t) ≡ true
    all-wait all = all-pass (λ n. is_waiting (next_in t now n)) 1 (length t.traces) (at-number all)

    each-waits : list_all (λ n. is_waiting (next_in t now n)) (traced_mutators t) ≡ true → AllWait
    each-waits all k p is =
        let many : length t.traces ≡ length m.progress.items = as-many in
        let inside : k < length m.progress.items = get-below m.progress.items k p is in
        sym (ap is_waiting (next-is k p is)) ∙ each-passes (λ n. is_waiting (next_in t now n)) 1 (length t.traces) all (k + 1) (omega arith) (omega arith)

    not-if : (b : Bool) → list_all (λ n. is_waiting (next_in t now n)) (traced_mutators t) ≡ b → (AllWait → ⊥) → b ≡ false
    not-if true is none = absurd (none (each-waits is))
    not-if false is none = refl

    -- some mutator does not wait
    pub no-meet : (AllWait → ⊥) → (next : Moment) × Meets t now next × StandsAt rules m t next
    no-meet none = (
      now,
      subst (λ b. MeetsIf b (filter (λ n. is_at_meet (next_in t now n)) (traced_mutators t)) now now)
          (sym (not-if _ refl none)) refl,
      at,
    )

  module _ (v : Vec Progress Global) (so : RepliesBelow (is_meet_at m.progress.items) (length m.progress.items) m.progress.items v.items) where
    asks : (k : ℕ) (p : Progress) → slice_get m.progress.items k ≡ Some p → is_meet_at m.progress.items k ≡ true → next_in_trace p ≡ Some c.Meet
    asks k p is chosen = meets-next (next_in_trace p) (sym (ap (λ o. is_at_meet (next_if o)) is) ∙ chosen)

    pub replied-kept : IsAtStop rules 0 m → replied m.progress.items ≤ replied v.items
    replied-kept stop = oks.replied-kept rules m v (is_meet_at m.progress.items) so c.Meet (λ n. is_at_meet (next_in stop.setting stop.now n))
        (test-is stop.setting stop.now stop.stands) asks _ stop.stands.replies

    pub in-order : IsAtStop rules 0 m → IsInOrder rules 0 (record m { progress = v })
    in-order stop =
        let more : replied m.progress.items ≤ replied v.items = replied-kept stop in
        let few : m.heap.nursery + m.heap.full ≤ 2 * replied m.progress.items + 0 = stop.order.collections in
        oks.in-order rules m v (is_meet_at m.progress.items) so 0 0 stop.order (omega arith)

    pub meets : AllWait → (t : Setting) (now : Moment) → StandsAt rules m t now → (next : Moment) × Meets t now next × StandsAt rules (record m { progress = v }) t next
    meets all t now at =
        let ms : List ℕ = filter (λ n. is_at_meet (next_in t now n)) (traced_mutators t) in
        let then = oks.stands rules m v (is_meet_at m.progress.items) so c.Meet (λ n. is_at_meet (next_in t now n)) (test-is t now at) asks t now at
        (soundness.meets-run (ideal_at now) ms) (soundness.all-meet (ideal_at now) ms) in
        let next : Moment = oks.then rules m v (is_meet_at m.progress.items) so c.Meet (λ n. is_at_meet (next_in t now n)) (test-is t now at) asks t now in
        (next, subst (λ b. MeetsIf b ms now next) (sym (all-wait t now at all)) then.0, then.1)
