-- What is left of the traces, and the end of a session.
use Rattle.std.proofs.Common.{◌≡◌, refl, sym, ◌∙◌, ap, ℕ, zero, suc, ◌+◌, ◌-◌, ◌<◌, ◌≤◌, arith, List, [], ◌∷◌, length}
use Rattle.std.specs.Prelude.{Some, None, slice_get, sum_by}
use Rattle.std.proofs.lemmas.List.{length-map}
use Rattle.std.proofs.lemmas.List.Sums.{sum_by-cons}
use Rattle.ideal_heap.specs.declared.command.Command.{Command}
use Rattle.ideal_heap.specs.Runs.{IsMutator}
use Rattle.sessions.specs.Plans.{Rules}
use Rattle.sessions.specs.Sessions.{Setting, Moment, IsWhole, next_in}
use Rattle.sessions.proofs.Orders.{session-whole}
use Rattle.mm_runtime.specs.declared.progress.Progress.{Progress}
use Rattle.mm_runtime.specs.declared.manager.Manager.{Manager}
use Rattle.mm_runtime.specs.Managers.{traces_of, left, replied, IsProgress, StandsAt, Closes, HasEnded}
use Rattle.mm_runtime.proofs.Causes.{next-at}
use Rattle.block_regions.proofs.Lists.{get-some}

abbrev total : List (List Command) → ℕ
total traces = sum_by (λ trace. length trace) traces

-- each command has a reply or is left
left-and-replied : (ps : List Progress) → ((k : ℕ) (p : Progress) → slice_get ps k ≡ Some p → IsProgress p) → left ps + replied ps ≡ total (traces_of ps)
left-and-replied [] each = refl
left-and-replied (p ∷ ps) each =
    let rest : left ps + replied ps ≡ total (traces_of ps) = left-and-replied ps (λ k q is. each (suc k) q is) in
    let few : length p.replies.items ≤ length p.trace = (each 0 p refl).within in
    let one : left (p ∷ ps) ≡ (length p.trace - length p.replies.items) + left ps = sum_by-cons (λ (q : Progress). length q.trace - length q.replies.items) p ps in
    let two : replied (p ∷ ps) ≡ length p.replies.items + replied ps = sum_by-cons (λ (q : Progress). length q.replies.items) p ps in
    let three : total (traces_of (p ∷ ps)) ≡ length p.trace + total (traces_of ps) = sum_by-cons (λ (trace : List Command). length trace) p.trace (traces_of ps) in
    omega (arith, rest, few, one, two, three)

module _ {P : Type 0} (rules : Rules) where
  -- where replies are added, fewer commands are left
  pub fewer : (old new : Manager P) (t : Setting) (then now : Moment) → StandsAt rules old t then → StandsAt rules new t now
      → ((k : ℕ) (p : Progress) → slice_get old.progress.items k ≡ Some p → IsProgress p) → ((k : ℕ) (p : Progress) → slice_get new.progress.items k ≡ Some p → IsProgress p)
      → replied old.progress.items < replied new.progress.items → left new.progress.items < left old.progress.items
  fewer old new t then now before after each each' more =
      let same : traces_of old.progress.items ≡ traces_of new.progress.items = sym before.traces ∙ after.traces in
      let one : left old.progress.items + replied old.progress.items ≡ total (traces_of old.progress.items) = left-and-replied old.progress.items each in
      let two : left new.progress.items + replied new.progress.items ≡ total (traces_of new.progress.items) = left-and-replied new.progress.items each' in
      let three : total (traces_of old.progress.items) ≡ total (traces_of new.progress.items) = ap total same in
      omega (arith, one, two, three, more)

  -- a session is whole where every command has its reply
  pub whole : (m : Manager P) (t : Setting) (now : Moment) → Closes rules m t now → HasEnded m → IsWhole t now
  whole m t now closes ended = session-whole t now closes.session none
    where
      many : length t.traces ≡ length m.progress.items
      many = ap length closes.stands.traces ∙ length-map m.progress.items (λ (p : Progress). p.trace)

      none : (j : ℕ) → IsMutator t.traces j → next_in t now j ≡ None
      none zero is = let low : 1 ≤ 0 = is.0 in absurd (omega arith)
      none (suc k) is =
          let all = many in
          let high : suc k ≤ length t.traces = is.1 in
          let p = get-some m.progress.items k (omega arith) in
          next-at t now m.progress.items closes.stands.traces closes.stands.replies k p.0 p.1 ∙ ended k p.0 p.1
