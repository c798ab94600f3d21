-- Each step gives one reply, or ends the part.
use Rattle.std.proofs.Common.{◌≡◌, refl, sym, ◌∙◌, subst, ℕ, ◌+◌, ◌<◌, ◌≤◌, length, Option, Some, arith, ap, length-append, ◌∷◌, []}
use Rattle.managed_heap.specs.Worlds.{births_at, stop_word}
use Rattle.ideal_heap.specs.declared.command.Command.{Command}
use Rattle.ideal_heap.specs.declared.command.TheConstants.{MAX_MUTATORS}
use Rattle.mm_runtime.specs.declared.progress.Progress.{Progress}
use Rattle.mm_runtime.specs.Managers.{next_in_trace}
use Rattle.mm_runtime.specs.Parts.{EndsFor}
use Rattle.mm_runtime.proofs.AnswersInTurn.{births-most}
use Rattle.mm_runtime.proofs.Replying as replying
use Rattle.mm_runtime.proofs.part.run_part.Goals as goal

pub loop-stored-init : goal.loop-stored-init
loop-stored-init g c = rw c.prepare_next.ensures (record {
  is_open = c.requires.open;
  place = c.requires.place;
  few = c.requires.few;
  runs = replying.runs-none c.args.world.now c.args.place c.args.progress.now c.requires.open;
  in_order = c.requires.progress;
  births = c.requires.births;
  stop = refl;
})

pub step-requires-clause-valid : goal.step-requires-clause-valid
step-requires-clause-valid g c κs within =
    let is : next_in_trace c.loop-stored.progress ≡ Some c.in-Some.stored = replying.next-read c.loop-stored.progress c.len.result _ c.len.ensures c.in-Some.ensures in
    replying.next-valid c.loop-stored.progress c.in-Some.stored c.loop-stored.invariant.in_order is

pub step-requires-clause-room : goal.step-requires-clause-room
step-requires-clause-room g c κs within =
    let is : next_in_trace c.loop-stored.progress ≡ Some c.in-Some.stored = replying.next-read c.loop-stored.progress c.len.result _ c.len.ensures c.in-Some.ensures in
    let room = c.loop-stored.invariant.in_order.room in
    let more = replying.next-within c.loop-stored.progress c.in-Some.stored is in
    omega arith

pub loop-stored-smaller : goal.loop-stored-smaller
loop-stored-smaller g c =
    let is : next_in_trace c.loop-stored.progress ≡ Some c.in-Some.stored = replying.next-read c.loop-stored.progress c.len.result _ c.len.ensures c.in-Some.ensures in
    let more = replying.next-within c.loop-stored.progress c.in-Some.stored is in
    let gets = c.in_default-step.ensures in
    let count : length c.step.new.replies.items ≡ length c.loop-stored.progress.replies.items + 1 =
    ap length gets.items ∙ length-append c.loop-stored.progress.replies.items (gets.reply ∷ []) in
    rw c.prepare_next-in-Some.ensures (omega arith)

pub loop-stored-preserved : goal.loop-stored-preserved
loop-stored-preserved g c =
    let old : Progress = c.loop-stored.progress in
    let new : Progress = record { trace = c.loop-stored.progress.trace; replies = c.step.new.replies } in
    let is : next_in_trace old ≡ Some c.in-Some.stored = replying.next-read old c.len.result _ c.len.ensures c.in-Some.ensures in
    let now = c.loop-stored.invariant in
    let gets = c.in_default-step.ensures in
    let answers = gets.answers in
    let count : length c.step.new.replies.items ≡ length c.loop-stored.progress.replies.items + 1 =
    ap length gets.items ∙ length-append c.loop-stored.progress.replies.items (gets.reply ∷ []) in
    let births : births_at c.step.new.world c.args.place ≤ births_at c.loop-stored.world c.args.place + 1 =
    births-most c.loop-stored.world c.step.new.world c.args.place c.in-Some.stored gets.reply answers in
    rw c.prepare_next-in-Some.ensures (record {
      is_open = answers.is_open;
      place = subst (λ (n : ℕ). c.args.place < n) (sym answers.places.count) now.place;
      few = subst (λ (n : ℕ). n ≤ MAX_MUTATORS) (sym answers.places.count) now.few;
      runs = replying.runs-more c.args.world.now c.loop-stored.world c.step.new.world c.args.place c.args.progress.now old new c.in-Some.stored gets.reply
          now.runs answers is refl gets.items;
      in_order = replying.order-more old new c.in-Some.stored gets.reply now.in_order is refl gets.items gets.capacity;
      births = let few = now.births in omega arith;
      stop = gets.stop ∙ now.stop;
    })

pub returns-in-Some-step-clause-runs : goal.returns-in-Some-step-clause-runs
returns-in-Some-step-clause-runs g c =
    replying.runs-ended c.args.world.now c.loop-stored.world c.step.new.world c.args.place c.in-Some.stored c.args.progress.now c.loop-stored.progress
    (record { trace = c.loop-stored.progress.trace; replies = c.step.new.replies }) c.in-Some-step.end c.loop-stored.invariant.runs refl c.in-Some-step.ensures

pub returns-in-Some-step-clause-end : goal.returns-in-Some-step-clause-end
returns-in-Some-step-clause-end g c =
    let old : Progress = c.loop-stored.progress in
    let ended = c.in-Some-step.ensures in
    let is : next_in_trace old ≡ Some c.in-Some.stored = replying.next-read old c.len.result _ c.len.ensures c.in-Some.ensures in
    let next : next_in_trace (record { trace = old.trace; replies = c.step.new.replies }) ≡ Some c.in-Some.stored =
    ap (λ r. next_in_trace (record { trace = old.trace; replies = r })) ended.replies ∙ is in
    subst (λ (x : Option Command). EndsFor (stop_word c.args.world.now) c.step.new.world c.args.place x c.in-Some-step.end) (sym next)
    (subst (λ (n : ℕ). EndsFor n c.step.new.world c.args.place (Some c.in-Some.stored) c.in-Some-step.end) c.loop-stored.invariant.stop ended.cause)
