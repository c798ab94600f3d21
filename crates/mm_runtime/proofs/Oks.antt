-- A manager after replies `ok` to some of the mutators.
use Rattle.std.proofs.Common.{◌≡◌, refl, sym, ◌∙◌, ap, subst, ℕ, suc, ◌+◌, ◌*◌, ◌<◌, ◌≤◌, arith, Bool, true, false, cond, List, [], ◌∷◌, ◌++◌, length, map, filter, Vec}
use Rattle.std.specs.Prelude.{slice_get, Some}
use Rattle.std.specs.List.{range_with_len}
use Rattle.std.specs.declared.alloc.Global.{Global}
use Rattle.std.proofs.lemmas.List.{length-map, length-append}
use Rattle.ideal_heap.specs.declared.command.Command.{Command}
use Rattle.ideal_heap.specs.declared.reply.Reply.TheVariants as r
use Rattle.ideal_heap.specs.Ideal.{empty}
use Rattle.ideal_heap.specs.Runs.{Entry, IsRun, heap_after_run}
use Rattle.ideal_heap.proofs.RunLemmas.{longer}
use Rattle.block_regions.proofs.Lists.{one-element}
use Rattle.sessions.specs.Plans.{Rules}
use Rattle.sessions.specs.Sessions.{Setting, Moment, OnlyReplies, all_done, ideal_at, traced_mutators}
use Rattle.sessions.proofs.Soundness as soundness
use Rattle.mm_runtime.specs.declared.progress.Progress.{Progress}
use Rattle.mm_runtime.specs.declared.manager.Manager.{Manager}
use Rattle.mm_runtime.specs.Managers.{next_in_trace, traces_of, replied, IsProgress, HasReplies, IsInOrder, StandsAt}
use Rattle.mm_runtime.specs.Replying.{GetsOkIf, RepliesBelow}
use Rattle.mm_runtime.proofs.OkSteps.{back}
use Rattle.mm_runtime.proofs.Picked as picked
use Rattle.mm_runtime.proofs.Tally.{entries-are-replies}

-- lists of as many elements that a function maps to the same
same-map : {A B : Type 0} (f : A → B) (xs ys : List A) → length ys ≡ length xs → ((k : ℕ) (x y : A) → slice_get xs k ≡ Some x → slice_get ys k ≡ Some y → f y ≡ f x)
    → map f ys ≡ map f xs
same-map f [] [] many each = refl
same-map f [] (y ∷ ys) many each = let wrong : length (y ∷ ys) ≡ 0 = many in absurd (omega arith)
same-map f (x ∷ xs) [] many each = let wrong : 0 ≡ length (x ∷ xs) = many in absurd (omega arith)
same-map f (x ∷ xs) (y ∷ ys) many each =
    let fewer : length ys ≡ length xs = (let more : suc (length ys) ≡ suc (length xs) = many in omega arith) in
    let rest : map f ys ≡ map f xs = same-map f xs ys fewer (λ k a b is at. each (suc k) a b is at) in
    ap (λ b. b ∷ map f ys) (each 0 x y refl refl) ∙ ap (λ bs. f x ∷ bs) rest

trace-kept : (b : Bool) (p now : Progress) → GetsOkIf b p now → now.trace ≡ p.trace
trace-kept true p now gets = gets.trace
trace-kept false p now same = ap (λ (x : Progress). x.trace) same

order-kept : (b : Bool) (p now : Progress) → GetsOkIf b p now → IsProgress p → IsProgress now
order-kept true p now gets order = gets.order
order-kept false p now same order = subst IsProgress (sym same) order

replies-kept : (b : Bool) (p now : Progress) → GetsOkIf b p now → length p.replies.items ≤ length now.replies.items
replies-kept true p now gets =
    let more : length now.replies.items ≡ length p.replies.items + 1 = ap length gets.replies ∙ length-append p.replies.items (r.Done ∷ []) in
    omega arith
replies-kept false p now same = let e : length now.replies.items ≡ length p.replies.items = ap (λ (x : Progress). length x.replies.items) same in omega arith

module _ {P : Type 0} (rules : Rules) (m : Manager P) (v : Vec Progress Global) (chosen : ℕ → Bool)
    (so : RepliesBelow chosen (length m.progress.items) m.progress.items v.items) where
  abbrev old : List Progress
  old = m.progress.items

  abbrev new : List Progress
  new = v.items

  same-traces : traces_of new ≡ traces_of old
  same-traces = same-map (λ p. p.trace) old new so.count (λ k p now is at.
      let was = back chosen old new so k now at in
      let same : was.0 ≡ p = one-element (slice_get old k) was.0 p was.2 is in
      trace-kept (chosen k) was.0 now was.3 ∙ ap (λ (x : Progress). x.trace) same)

  pub in-order : (more less : ℕ) → IsInOrder rules more m → m.heap.nursery + m.heap.full ≤ 2 * replied new + less → IsInOrder rules less (record m { progress = v })
  in-order more less order few =
      let many : length new ≡ length old = so.count in
      record {
        some = (let least : 1 ≤ length old = order.some in omega arith);
        few = (let most : length old ≤ 16 = order.few in omega arith);
        count = order.count ∙ sym many;
        each = λ k now is. let was = back chosen old new so k now is in order-kept (chosen k) was.0 now was.3 (order.each k was.0 was.2);
        births = λ k u now at is. let was = back chosen old new so k now is in
            let few : u.births ≤ length was.0.replies.items = order.births k u was.0 at was.2 in
            let kept = replies-kept (chosen k) was.0 now was.3 in
            omega arith;
        heap = order.heap;
        collections = few;
      }

  module _ (asked : Command) (pick : ℕ → Bool) (agree : (k : ℕ) → k < length old → pick (k + 1) ≡ chosen k)
      (next : (k : ℕ) (p : Progress) → slice_get old k ≡ Some p → chosen k ≡ true → next_in_trace p ≡ Some asked) where
    abbrev entries : List Entry
    entries = picked.picked asked chosen old new so pick agree next

    -- no reply is lost
    pub replied-kept : (done : List Entry) → HasReplies old done → replied old ≤ replied new
    replied-kept done has =
        let before : length done ≡ replied old = entries-are-replies old done has in
        let now : length (done ++ entries) ≡ replied new = entries-are-replies new (done ++ entries) (picked.now-replies asked chosen old new so pick agree next done has) in
        let sum : length (done ++ entries) ≡ length done + length entries = length-append done entries in
        omega arith

    -- one mutator's reply makes one more
    pub picks-one : (k : ℕ) → k < length old → chosen k ≡ true → (x : ℕ) × (xs : List ℕ) × (filter pick (range_with_len 1 (length old)) ≡ x ∷ xs)
    picks-one k inside is = picked.some-of asked _ (k + 1) (picked.of-picked asked chosen old new so pick agree next k inside
        ∙ ap (λ b. cond b (record { mutator = k + 1; command = asked; reply = r.Done } ∷ []) []) is)

    pub replied-more : (done : List Entry) → HasReplies old done → (k : ℕ) → k < length old → chosen k ≡ true → replied old < replied new
    replied-more done has k inside is =
        let before : length done ≡ replied old = entries-are-replies old done has in
        let now : length (done ++ entries) ≡ replied new = entries-are-replies new (done ++ entries) (picked.now-replies asked chosen old new so pick agree next done has) in
        let sum : length (done ++ entries) ≡ length done + length entries = length-append done entries in
        let one = picks-one k inside is in
        let some : length entries ≡ suc (length (all_done asked one.1)) = ap (λ ms. length (all_done asked ms)) one.2 in
        omega arith

    -- the moment with these entries
    pub then : Setting → Moment → Moment
    then t now = record now { done = now.done ++ all_done asked (filter pick (traced_mutators t)) }

    pub stands : (t : Setting) (now : Moment) → StandsAt rules m t now → IsRun (ideal_at now) (all_done asked (filter pick (traced_mutators t)))
        → heap_after_run (ideal_at now) (all_done asked (filter pick (traced_mutators t))) ≡ ideal_at now
        → OnlyReplies (all_done asked (filter pick (traced_mutators t))) now (then t now) × StandsAt rules (record m { progress = v }) t (then t now)
    unfolding then
    stands t now at runs same =
        let many : length t.traces ≡ length old = ap length at.traces ∙ length-map old (λ p. p.trace) in
        let replies : OnlyReplies (all_done asked (filter pick (traced_mutators t))) now (then t now) = record { rest = refl; runs = runs } in (
          replies,
          record {
            heap = record {
              rules_are = at.heap.rules_are;
              workers = at.heap.workers;
              blocks = at.heap.blocks;
              heap = at.heap.heap;
              mutators = at.heap.mutators;
              nursery = at.heap.nursery;
              full = at.heap.full;
              sound = soundness.replied t _ now (then t now) same replies at.heap.sound;
              run = longer empty now.done _ at.heap.run runs;
            };
            traces = at.traces ∙ sym same-traces;
            replies = subst (λ n. HasReplies new (now.done ++ all_done asked (filter pick (range_with_len 1 n)))) (sym many)
                (picked.now-replies asked chosen old new so pick agree next now.done at.replies);
          },
        )
