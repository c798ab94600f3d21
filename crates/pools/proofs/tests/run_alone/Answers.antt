use Rattle.std.proofs.Common.{◌≡◌, ℕ, ◌+◌, ◌^◌, ◌<◌, ◌≤◌, List, [], ◌∷◌, All, length, inl, sym, subst, ap, ◌∙◌, arith}
use Rattle.std.proofs.lemmas.List.Elements.{All-cons, All-nil}
use Rattle.std.proofs.lemmas.List.Sorted.{IsPermutation-refl, length_permutation}
use Rattle.std.specs.List.Sorted.{IsPermutation}
use Rattle.work_packets.specs.declared.packet.Packet.{Packet}
use Rattle.work_packets.specs.Steps.{pushed_by_all}
use Rattle.pools.specs.declared.tests.TheConstants.{HIGHEST}
use Rattle.pools.specs.declared.tests.TallyWorker.{TallyWorker}
use Rattle.pools.proofs.Trees.{for-release, none-left}
use Rattle.pools.proofs.tests.run_alone.Goals as goal

one-worker : (P : TallyWorker → Type 0) (ws : List TallyWorker) (w : TallyWorker) → ws ≡ w ∷ [] → P w → All P ws
one-worker P ws w e h = subst (All P) (sym e) (All-cons P w [] h (All-nil _))

-- what the work begins from
abbrev most : TallyWorker → ℕ
most w = w.waiting + w.trees.left

first-awaited : (w : TallyWorker) (first : List (Packet ℕ)) → w.waiting ≡ length first → w.trees.left ≡ 1000000 → w.waiting < 2 ^ 63 → (qs : List (Packet ℕ)) → IsPermutation first qs
    → (length qs ≡ w.waiting) × (w.waiting + w.trees.left ≤ most w) × (most w < 2 ^ 64)
first-awaited w first count more few qs e = (length_permutation _ _ e ∙ sym count, omega arith, omega arith)

pub run_bucket-requires-clause-takes : goal.run_bucket-requires-clause-takes
run_bucket-requires-clause-takes g c κs within = let t = c.in_ok-workers.ensures in (HIGHEST, one-worker (λ w. w.trees.highest ≡ HIGHEST) _ t.0 t.1 t.2, c.in_ok-first.ensures.takes)

pub run_bucket-requires-clause-awaits : goal.run_bucket-requires-clause-awaits
run_bucket-requires-clause-awaits g c κs within = let t = c.in_ok-workers.ensures in inl (most t.0, t.0, t.1, first-awaited t.0 c.in_ok-first.first.items t.3 t.4 t.5)

pub run_bucket-requires-2-clause-bucket : goal.run_bucket-requires-2-clause-bucket
run_bucket-requires-2-clause-bucket g c κs within = for-release (pushed_by_all c.in_ok-workers-2.ensures.once.0) _ c.in_ok-workers-2.ensures.once.1.left

pub run_bucket-requires-2-clause-takes : goal.run_bucket-requires-2-clause-takes
run_bucket-requires-2-clause-takes g c κs within =
    let t = c.in_ok-workers.ensures in let own = one-worker (λ w. w.trees.highest ≡ HIGHEST) _ t.0 t.1 t.2 in
    (HIGHEST, c.in_ok-workers-2.ensures.home HIGHEST own, c.in_ok-workers-2.ensures.takes HIGHEST own)

pub run_bucket-requires-2-clause-awaits : goal.run_bucket-requires-2-clause-awaits
run_bucket-requires-2-clause-awaits g c κs within =
    let t = c.in_ok-workers.ensures in let o = c.in_ok-workers-2.ensures.awaits (most t.0) t.0 t.1 (first-awaited t.0 c.in_ok-first.first.items t.3 t.4 t.5) in
    inl (most t.0, o.0, o.1, o.2)

pub returns-clause-none : goal.returns-clause-none
returns-clause-none g c = none-left (pushed_by_all c.in_ok-ran.ensures.once.0) _ c.in_ok-ran.ensures.once.1.left

pub returns-clause-waiting : goal.returns-clause-waiting
returns-clause-waiting g c =
    let t = c.in_ok-workers.ensures in let o = c.in_ok-workers-2.ensures.awaits (most t.0) t.0 t.1 (first-awaited t.0 c.in_ok-first.first.items t.3 t.4 t.5) in
    let u = c.in_ok-ran.ensures.awaits (most t.0) o.0 o.1 o.2 in
    let none : c.in_ok-ran.ran.1.items ≡ [] = none-left (pushed_by_all c.in_ok-ran.ensures.once.0) _ c.in_ok-ran.ensures.once.1.left in
    one-worker (λ w. w.waiting ≡ 0) _ u.0 u.1 (sym (u.2 _ (IsPermutation-refl _)).0 ∙ ap length none)
