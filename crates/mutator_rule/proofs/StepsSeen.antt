-- What the mutator of a seat saw of its step.
use Rattle.std.proofs.Common.{◌≡◌, ℕ, ◌+◌, cond, eq-eqb, [], ◌∷◌, ◌++◌, refl, ap, sym, ◌∙◌, append_assoc}
use Rattle.std.specs.Prelude.{Option, Some, None}
use Rattle.ideal_heap.specs.declared.command.Command.{Command}
use Rattle.ideal_heap.specs.declared.reply.Reply.{Reply}
use Rattle.sessions.specs.Plans.{Rules}
use Rattle.mutator_core.specs.declared.state.Event.{Event}
use Rattle.mutator_core.specs.declared.state.LogEntry.{LogEntry}
use Rattle.mutator_core.specs.Machine.{Epoch, answer}
use Rattle.mutator_core.specs.Histories.{entry_of, entries_with, reply_in}
use Rattle.mutator_core.specs.Logs.{heap_after, history_of}
use Rattle.mutator_rule.specs.declared.views.MutatorView.{MutatorView}
use Rattle.mutator_rule.specs.Views.{epoch_with, entries_by}
use Rattle.mutator_rule.specs.Logs.{MakesStep, MakesEntries, entry_for, own_entries}
use Rattle.mutator_rule.proofs.Pushes.{entries-push}

-- an entry of the mutator is one of its own
own-entry : (m : ℕ) (o : Option Command) (r : Reply) → entries_by m (entries_with m o r) ≡ entries_with m o r
own-entry m None r = refl
own-entry m (Some c) r = ap (λ b. cond b ((record { mutator = m; command = c; reply = r }) ∷ []) []) (eq-eqb m m refl)

module _ (rules : Rules) (a b : MutatorView) (x : Event) (n : ℕ) (st : MakesStep rules a x n b) where
  abbrev p : Epoch
  p = epoch_with rules a.start

  -- the reply of the step's entry, if it makes one
  abbrev pub step-reply : Reply
  step-reply = reply_in (heap_after p (a.seen ++ st.between)) (answer p a.local x n)

  pub step-entries : MakesEntries rules a (entries_with a.local.number (entry_of x) step-reply) b
  step-entries =
      let m : ℕ = a.local.number in
      let e : LogEntry = entry_for p a x n in
      record {
        start = st.start;
        number = st.number;
        prefix = (st.between ++ e ∷ [], sym (append_assoc a.seen st.between (e ∷ [])) ∙ sym st.seen);
        own = (λ k. entries_by (st.number k) (history_of (epoch_with rules (st.start k)) (st.seen k)))
            ∙ entries-push m p a.seen st.between e st.others
            ∙ ap (λ ys. own_entries rules a ++ ys) (own-entry m (entry_of x) step-reply);
      }
