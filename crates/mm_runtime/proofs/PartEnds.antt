-- Why a part ended holds after later parts too.
use Rattle.std.proofs.Common.{◌≡◌, ◌≢◌, refl, sym, ◌∙◌, ap, subst, ℕ, ◌+◌, ◌<◌, ◌≤◌, ◌⊎◌, inl, inr, arith, true, List, [], ◌∷◌, ◌++◌, length}
use Rattle.std.specs.Prelude.{Option}
use Rattle.ideal_heap.specs.declared.command.Command.{Command}
use Rattle.mutator_calls.specs.Effects.{Answered}
use Rattle.sessions.specs.Plans.{Rules}
use Rattle.managed_heap.specs.Worlds.{PlainWorld, stop_word, mutator_number_at}
use Rattle.mm_runtime.specs.declared.progress.PartEnd.{PartEnd}
use Rattle.mm_runtime.specs.declared.progress.PartEnd.TheVariants as end
use Rattle.mm_runtime.specs.Parts.{AnswersMutator, IsExhausted, EndsFor, EndedFor, EndRaisesStop, raises_stop}
use Rattle.mm_runtime.proofs.ListFacts.{push-old, push-new}

-- the other mutators' calls give no ticket
pub exhausted-after : {P : Type 0} {rules : Rules} (old new : PlainWorld P) (m k : ℕ) (es : List Answered) → AnswersMutator rules old m es new → k ≢ m → IsExhausted old k → IsExhausted new k
exhausted-after old new m k es answers other (t, ticket, past) =
    (t, (answers.others k other).0 ∙ ticket, subst (λ (n : ℕ). n ≤ t) (sym answers.allowance) past)

pub raised-before : (ends : List PartEnd) (e : PartEnd) (number : ℕ) → EndRaisesStop ends number → EndRaisesStop (ends ++ e ∷ []) number
raised-before ends e number raised = record {
  place = raised.place;
  end = raised.end;
  is = push-old ends e raised.place raised.end raised.is;
  raises = raised.raises;
  number_is = raised.number_is;
}

pub raised-last : (ends : List PartEnd) (e : PartEnd) (number m : ℕ) → length ends ≡ m → raises_stop e ≡ true → number ≡ m + 1 → EndRaisesStop (ends ++ e ∷ []) number
raised-last ends e number m many raises is = record {
  place = length ends;
  end = e;
  is = push-new ends e;
  raises = raises;
  number_is = is ∙ ap (λ n. n + 1) (sym many);
}

pub ended-before : {P : Type 0} {rules : Rules} (old new : PlainWorld P) (m k : ℕ) (es : List Answered) (ends : List PartEnd) (last : PartEnd) (next : Option Command) (e : PartEnd)
    → AnswersMutator rules old m es new → k ≢ m → EndedFor (IsExhausted old) ends k next e → EndedFor (IsExhausted new) (ends ++ last ∷ []) k next e
ended-before old new m k es ends last next end.Gc answers other is = is
ended-before old new m k es ends last next end.Meet answers other is = is
ended-before old new m k es ends last next end.Trace answers other is = is
ended-before old new m k es ends last next (end.Need need) answers other is = (is.0, λ small. exhausted-after old new m k es answers other (is.1 small))
ended-before old new m k es ends last next (end.Raised by) answers other is = (is.0, raised-before ends last by is.1)

by-earlier : (ends : List PartEnd) (last : PartEnd) (before by : ℕ) → (before ≡ 0) ⊎ EndRaisesStop ends before → 0 < by → before ≡ by → EndRaisesStop (ends ++ last ∷ []) by
by-earlier ends last before by (inl none) some is = absurd (omega arith)
by-earlier ends last before by (inr raised) some is = raised-before ends last by (subst (EndRaisesStop ends) is raised)

pub ended-last : {P : Type 0} (w : PlainWorld P) (m before : ℕ) (ends : List PartEnd) (next : Option Command) (e : PartEnd)
    → (before ≡ 0) ⊎ EndRaisesStop ends before → EndsFor before w m next e → EndedFor (IsExhausted w) (ends ++ e ∷ []) m next e
ended-last w m before ends next end.Gc stop is = is.0
ended-last w m before ends next end.Meet stop is = is.0
ended-last w m before ends next end.Trace stop is = is.0
ended-last w m before ends next (end.Need need) stop is = (is.0, is.2)
ended-last w m before ends next (end.Raised by) stop is = (is.0, by-earlier ends (end.Raised by) before by stop is.1 is.2)

word-before : (ends : List PartEnd) (last : PartEnd) (before word : ℕ) → (before ≡ 0) ⊎ EndRaisesStop ends before → word ≡ before → (word ≡ 0) ⊎ EndRaisesStop (ends ++ last ∷ []) word
word-before ends last before word (inl none) is = inl (is ∙ none)
word-before ends last before word (inr raised) is = inr (raised-before ends last word (subst (EndRaisesStop ends) (sym is) raised))

-- the stop word after the part
pub word-after : {P : Type 0} (w : PlainWorld P) (m before : ℕ) (ends : List PartEnd) (next : Option Command) (e : PartEnd) → length ends ≡ m → mutator_number_at w m ≡ m + 1
    → (before ≡ 0) ⊎ EndRaisesStop ends before → EndsFor before w m next e → (stop_word w ≡ 0) ⊎ EndRaisesStop (ends ++ e ∷ []) (stop_word w)
word-after w m before ends next end.Gc many number stop is = inr (raised-last ends end.Gc (stop_word w) m many refl (is.1 ∙ number))
word-after w m before ends next end.Meet many number stop is = word-before ends end.Meet before (stop_word w) stop is.1
word-after w m before ends next end.Trace many number stop is = word-before ends end.Trace before (stop_word w) stop is.1
word-after w m before ends next (end.Need need) many number stop is = inr (raised-last ends (end.Need need) (stop_word w) m many refl (is.1 ∙ number))
word-after w m before ends next (end.Raised by) many number stop is = word-before ends (end.Raised by) before (stop_word w) stop (is.3 ∙ sym is.2)
