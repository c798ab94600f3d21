-- Stores after the barrier, and histories of two seats.
use Rattle.std.proofs.Common.{◌≡◌, ◌⊎◌, inl, inr, ⊎_elim, refl, sym, ◌∙◌, ap, subst, ℕ, ◌+◌, ◌<◌, Bool, true, false, ◌&&◌, IsTrue, List, [], ◌∷◌, ◌++◌}
use mathlib.Core.List.{IsPrefix}
use Rattle.forward_word.specs.CollectorWords.{is_old_word}
use Rattle.ideal_heap.specs.Ideal.{IdealHeap}
use Rattle.ideal_heap.specs.declared.command.Command.TheVariants as c
use Rattle.object_model.specs.Objects.{HeapState, word_at, is_unlogged}
use Rattle.object_model.specs.Ages.{is_old}
use Rattle.sessions.specs.Plans.{Rules}
use Rattle.mutator_core.specs.declared.state.Event.TheVariants as e
use Rattle.mutator_core.specs.declared.state.LogEntry.{LogEntry}
use Rattle.mutator_core.specs.declared.state.Local.{Local}
use Rattle.mutator_core.specs.Machine.{Epoch, address_in, first_machine}
use Rattle.mutator_core.specs.Guards.{MayStep, MayPerform, IsNotOld}
use Rattle.mutator_core.specs.Epochs.{KnowsItsState}
use Rattle.mutator_core.specs.Histories.{history}
use Rattle.mutator_core.specs.Logs.{IsEpochLog, heap_after, local_after_log, machine_after, history_of}
use Rattle.mutator_core.proofs.Beginnings.{log-ends}
use Rattle.mutator_core.proofs.Regions.{log-front, log-rest, history-append}
use Rattle.mutator_rule.specs.declared.views.EpochStart.{EpochStart}
use Rattle.mutator_rule.specs.declared.views.MutatorView.{MutatorView}
use Rattle.mutator_rule.specs.Views.{epoch_with}
use Rattle.mutator_rule.specs.Logs.{Agrees, history_seen}

pub store-follows : (p : Epoch) (i : IdealHeap) (log : List LogEntry) (x : LogEntry) (s j v : ℕ) → IsEpochLog p i (log ++ x ∷ []) → x.event ≡ e.Perform (c.Put s j v)
    → ((p.rules.young && is_old (heap_after p log) (address_in (local_after_log p log x.mutator) s)) ≡ false) ⊎ (is_unlogged (heap_after p log) (address_in (local_after_log p log x.mutator) s) ≡ false)
store-follows p i log x s j v is event =
    let l : Local = local_after_log p log x.mutator in
    let h : HeapState = heap_after p log in
    let a : ℕ = address_in l s in
    let may : MayPerform p l (c.Put s j v) = subst (MayStep p l) event (log-rest p (first_machine p) log (x ∷ []) is.steps).1 in
    let some : 0 < a = may.1.0.1 in
    let knows : KnowsItsState p h l = (log-ends p i log is.ready is.represents (log-front p (first_machine p) log (x ∷ []) is.steps)).moment.epoch.knows x.mutator in
    ⊎_elim
    (λ (none : p.rules.young ≡ false). inl (ap (λ b. b && is_old h a) none))
    (λ (rest : IsNotOld p l s ⊎ (l.logged ≡ a)). ⊎_elim
    (λ (young : IsNotOld p l s).
    let word : word_at h (l.collector.at + 2) ≡ l.collector.word = (knows.age (subst (λ k. 0 < k) (sym young.0) some)).1 in
    inl (ap (λ w. p.rules.young && is_old_word p.before.base w) (ap (λ k. word_at h (k + 2)) (sym young.0) ∙ word) ∙ young.1))
    (λ (same : l.logged ≡ a). inr (clear (is_unlogged h a) (λ set. knows.cleared (subst (λ k. 0 < k) (sym same) some) (subst (λ k. IsTrue (is_unlogged h k)) (sym same) set))))
    rest)
    may.2
  where
    clear : (b : Bool) → (IsTrue b → ⊥) → b ≡ false
    clear true refuted = absurd (refuted refl)
    clear false refuted = refl

prefixes-meet : {A : Type 0} (xs ys zs : List A) → IsPrefix xs zs → IsPrefix ys zs → IsPrefix xs ys ⊎ IsPrefix ys xs
prefixes-meet [] ys zs one two = inl (ys, refl)
prefixes-meet (x ∷ xs) [] zs one two = inr (x ∷ xs, refl)
prefixes-meet (x ∷ xs) (y ∷ ys) [] one two = let wrong : x ∷ (xs ++ one.0) ≡ [] = one.1 in cc
prefixes-meet (x ∷ xs) (y ∷ ys) (z ∷ zs) one two =
    let first : x ∷ (xs ++ one.0) ≡ z ∷ zs = one.1 in
    let second : y ∷ (ys ++ two.0) ≡ z ∷ zs = two.1 in
    let same : x ≡ y = cc in
    let left : xs ++ one.0 ≡ zs = cc in
    let right : ys ++ two.0 ≡ zs = cc in
    ⊎_elim
    (λ (t : IsPrefix xs ys). inl (t.0, (λ k. same k ∷ t.1 k)))
    (λ (t : IsPrefix ys xs). inr (t.0, (λ k. sym same k ∷ t.1 k)))
    (prefixes-meet xs ys zs (one.0, left) (two.0, right))

history-prefix : (p : Epoch) (xs ys : List LogEntry) → IsPrefix xs ys → IsPrefix (history_of p xs) (history_of p ys)
history-prefix p xs ys t = (history p (machine_after p xs) t.0, sym (history-append p (first_machine p) xs t.0) ∙ ap (history_of p) t.1)

pub one-history : (rules : Rules) (g : EpochStart) (log : List LogEntry) (v w : MutatorView) → Agrees rules g log v → Agrees rules g log w
    → IsPrefix (history_seen rules v) (history_seen rules w) ⊎ IsPrefix (history_seen rules w) (history_seen rules v)
one-history rules g log v w one two =
    let p : Epoch = epoch_with rules g in
    let left : history_of p v.seen ≡ history_seen rules v = ap (λ (h : EpochStart). history_of (epoch_with rules h) v.seen) (sym one.0) in
    let right : history_of p w.seen ≡ history_seen rules w = ap (λ (h : EpochStart). history_of (epoch_with rules h) w.seen) (sym two.0) in
    ⊎_elim
    (λ (t : IsPrefix v.seen w.seen). inl (subst (λ xs. IsPrefix xs (history_seen rules w)) left (subst (IsPrefix (history_of p v.seen)) right (history-prefix p v.seen w.seen t))))
    (λ (t : IsPrefix w.seen v.seen). inr (subst (λ xs. IsPrefix xs (history_seen rules v)) right (subst (IsPrefix (history_of p w.seen)) left (history-prefix p w.seen v.seen t))))
    (prefixes-meet v.seen w.seen log one.1.prefix two.1.prefix)
