-- The entries of a session keep an order that `meet` allows.
use Rattle.std.proofs.Common.{◌≡◌, inl, inr, refl, sym, ◌∙◌, ap, subst, ℕ, zero, suc, ◌+◌, ◌<◌, ◌≤◌, arith, Bool, true, false, List, [], ◌∷◌, ◌++◌, length, filter, take, append-nil, append_assoc, None}
use Rattle.std.specs.List.{AllByRecursion, range_with_len, list_all}
use Rattle.std.proofs.lemmas.Bool.{cases_eq, and_parts}
use Rattle.ideal_heap.specs.declared.command.Command.TheVariants as c
use Rattle.ideal_heap.specs.Commands.{is_meet}
use Rattle.ideal_heap.specs.Runs.{Entry, of_mutator, commands_of, trace_of, IsMutator, IsOrderPrefix}
use Rattle.object_model.specs.declared.collect.Collect.{Collect}
use Rattle.object_model.specs.declared.collect.Collect.TheVariants.{Nursery, Full}
use Rattle.object_model.proofs.Among.{all-to}
use Rattle.sessions.specs.Sessions as sessions
use Rattle.sessions.specs.Sessions.{Setting, Moment, Cause, traced_mutators, next_in, is_at_gc, is_at_need, is_at_meet, is_waiting, all_done, IsOfPart, RunsPart, CollectsFor, FirstTry, ServesNeed, ServesAll, MeetsIf, Meets, InSession, IsWhole}
use Rattle.sessions.proofs.Levels as levels
use Rattle.sessions.proofs.Levels.{IsInRound, AreWithin, all-left, all-right, all-append}
use Rattle.sessions.proofs.MeetRounds.{next-round}

-- the step adds entries that are no `meet`s
pub record AddsNoMeet (before now : Moment) : Type 0 where
  pub entries : List Entry
  pub done : now.done ≡ before.done ++ entries
  pub each : AllByRecursion (λ e. is_meet e.command ≡ false) entries

none-added : (before now : Moment) → now.done ≡ before.done → AddsNoMeet before now
none-added before now same = record { entries = []; done = same ∙ sym (append-nil before.done); each = tt }

one-added : (before late now : Moment) (e : Entry) → late.done ≡ before.done → now.done ≡ late.done ++ e ∷ [] → is_meet e.command ≡ false → AddsNoMeet before now
one-added before late now e same done not = record { entries = e ∷ []; done = done ∙ ap (λ es. es ++ e ∷ []) same; each = (not, tt) }

both-added : (before mid now : Moment) → AddsNoMeet before mid → AddsNoMeet mid now → AddsNoMeet before now
both-added before mid now first then = record {
  entries = first.entries ++ then.entries;
  done = then.done ∙ ap (λ es. es ++ then.entries) first.done ∙ append_assoc before.done first.entries then.entries;
  each = all-append (λ e. is_meet e.command ≡ false) first.entries then.entries first.each then.each;
}

-- a part, the collection for the mutators at `gc` and the needs

pub ran : (t : Setting) (before now : Moment) (ends : ℕ → Cause) → RunsPart t before ends now → AddsNoMeet before now
ran t before now ends part = record {
  entries = part.part;
  done = part.done;
  each = all-to IsOfPart (λ e. is_meet e.command ≡ false) (λ e of_part. of_part.meet) part.part part.each;
}

gc-entries : (ms : List ℕ) → AllByRecursion (λ e. is_meet e.command ≡ false) (all_done c.Gc ms)
gc-entries [] = tt
gc-entries (m ∷ ms) = (refl, gc-entries ms)

collected : (t : Setting) (ms : List ℕ) (before now : Moment) → CollectsFor t ms before now → AddsNoMeet before now
collected t [] before now nothing = none-added before now (ap (λ (x : Moment). x.done) nothing)
collected t (m ∷ ms) before now (mid, makes, replies) = record {
  entries = all_done c.Gc (m ∷ ms);
  done = ap (λ (x : Moment). x.done) replies.rest ∙ ap (λ es. es ++ all_done c.Gc (m ∷ ms)) makes.done;
  each = gc-entries (m ∷ ms);
}

pub tried : (t : Setting) (size : ℕ) (collect : Collect) (before now : Moment) → FirstTry t size collect before now → now.done ≡ before.done
tried t size Full before now nothing = ap (λ (x : Moment). x.done) nothing
tried t size Nursery before now makes = makes.0.done

pub served : (t : Setting) (m d refs nums : ℕ) (before now : Moment) → ServesNeed t m d refs nums before now → AddsNoMeet before now
served t m d refs nums before now (sessions.at_once places) = one-added before before now _ refl places.done refl
served t m d refs nums before now (sessions.after_nursery mid no_fit first makes places) = one-added before mid now _ makes.done places.done refl
served t m d refs nums before now (sessions.after_full mid late no_fit first makes places) =
    one-added before late now _ (makes.done ∙ tried t _ _ before mid first) places.done refl
served t m d refs nums before now (sessions.refused mid late no_fit first makes no_fit_after replies) =
    one-added before late now (sessions.refused_entry m d refs nums) (makes.done ∙ tried t _ _ before mid first) (ap (λ (x : Moment). x.done) replies.rest) refl

pub served-all : (t : Setting) (ms : List ℕ) (before now : Moment) → ServesAll t ms before now → AddsNoMeet before now
served-all t [] before now nothing = none-added before now (ap (λ (x : Moment). x.done) nothing)
served-all t (m ∷ ms) before now (d, refs, nums, mid, need, serves, rest) =
    both-added before mid now (served t m d refs nums before mid serves) (served-all t ms mid now rest)

-- an epoch but for its `meet`s
until-meets : (t : Setting) (before stop collects serves : Moment) (ends : ℕ → Cause) → RunsPart t before ends stop
    → CollectsFor t (filter (λ m. is_at_gc (ends m)) (traced_mutators t)) stop collects → ServesAll t (filter (λ m. is_at_need (ends m)) (traced_mutators t)) collects serves
    → AddsNoMeet before serves
until-meets t before stop collects serves ends part gc needs =
    both-added before stop serves (ran t before stop ends part)
    (both-added stop collects serves (collected t _ stop collects gc) (served-all t _ collects serves needs))

-- what holds of each mutator in a range
in-range : (p : ℕ → Bool) (k n : ℕ) → list_all p (range_with_len k n) ≡ true → (m : ℕ) → k ≤ m → m < k + n → p m ≡ true
in-range p k zero all m low high = absurd (omega arith)
in-range p k (suc n) all m low high =
    let both = and_parts (p k) (list_all p (range_with_len (k + 1) n)) all in
    elim (cases_eq k m) as (λ _. p m ≡ true) [
      | inl same ↦ ap p (sym same) ∙ both.0
      | inr differ ↦ in-range p (k + 1) n both.1 m (omega arith) (omega arith)
    ]

-- the entries are in some round
record IsInSome (t : Setting) (now : Moment) : Type 0 where
  number : ℕ
  round : IsInRound t.traces now.done number

-- the `meet`s of a stop, if all mutators wait, lead to the next round
met : (t : Setting) (before now : Moment) (all : Bool) → list_all (λ m. is_waiting (next_in t before m)) (traced_mutators t) ≡ all
    → MeetsIf all (filter (λ m. is_at_meet (next_in t before m)) (traced_mutators t)) before now
    → (entries : List Entry) × (now.done ≡ before.done ++ entries) × ((j : ℕ) → IsInRound t.traces before.done j → IsInSome t now)
met t before now true waits replies = (
  all_done c.Meet (filter (λ m. is_at_meet (next_in t before m)) (traced_mutators t)),
  ap (λ (x : Moment). x.done) replies.rest,
  λ j round. record {
    number = j + 1;
    round = subst (λ es. IsInRound t.traces es (j + 1)) (sym (ap (λ (x : Moment). x.done) replies.rest))
        (next-round t.traces before.done j round (λ m is. in-range _ 1 (length t.traces) waits m is.0 (let most : m ≤ length t.traces = is.1 in omega arith)));
  },
)
met t before now false waits nothing = (
  [],
  ap (λ (x : Moment). x.done) nothing ∙ sym (append-nil before.done),
  λ j round. record { number = j; round = subst (λ es. IsInRound t.traces es j) (sym (ap (λ (x : Moment). x.done) nothing)) round },
)

-- an epoch leads from a round to a round
epoch-round : (t : Setting) (before serves now : Moment) → AddsNoMeet before serves → Meets t serves now → AllByRecursion (λ e. IsMutator t.traces e.mutator) now.done
    → AreWithin t.traces now.done → IsInSome t before → IsInSome t now
epoch-round t before serves now adds meets mutators within start =
    let last = met t serves now _ refl meets in
    let mutators_then : AllByRecursion (λ e. IsMutator t.traces e.mutator) serves.done =
    all-left (λ e. IsMutator t.traces e.mutator) serves.done last.0 (subst (AllByRecursion (λ e. IsMutator t.traces e.mutator)) last.1 mutators) in
    let within_then : AreWithin t.traces serves.done = levels.within-left t.traces serves.done last.0 (subst (AreWithin t.traces) last.1 within) in
    last.2 start.number (subst (λ es. IsInRound t.traces es start.number) (sym adds.done)
    (levels.same-round t.traces before.done adds.entries start.number start.round adds.each
    (all-right (λ e. IsMutator t.traces e.mutator) before.done adds.entries (subst (AllByRecursion (λ e. IsMutator t.traces e.mutator)) adds.done mutators_then))
    (subst (AreWithin t.traces) adds.done within_then)))

-- so a session is always in a round
session-round : (t : Setting) (now : Moment) → InSession t now → IsInSome t now
session-round t now sessions.begun = record { number = 0; round = levels.in_first t.traces }
session-round t now (sessions.longer before session epoch) =
    epoch-round t before epoch.served now (until-meets t before epoch.stop epoch.collected epoch.served epoch.ends epoch.part epoch.gc epoch.needs) epoch.meet
    epoch.prefix.mutators (levels.within-from t.traces now.done epoch.prefix.commands) (session-round t before session)

-- an epoch keeps the order
pub epoch-order : (t : Setting) (before stop collects serves now : Moment) (ends : ℕ → Cause) → InSession t before → RunsPart t before ends stop
    → CollectsFor t (filter (λ m. is_at_gc (ends m)) (traced_mutators t)) stop collects → ServesAll t (filter (λ m. is_at_need (ends m)) (traced_mutators t)) collects serves
    → Meets t serves now → AllByRecursion (λ e. IsMutator t.traces e.mutator) now.done
    → ((m : ℕ) → IsMutator t.traces m → commands_of m now.done ≡ take (length (of_mutator m now.done)) (trace_of t.traces m)) → IsOrderPrefix t.traces now.done
epoch-order t before stop collects serves now ends session part gc needs meets mutators commands =
    let end : IsInSome t now = epoch-round t before serves now (until-meets t before stop collects serves ends part gc needs) meets mutators
    (levels.within-from t.traces now.done commands) (session-round t before session) in
    levels.in_order t.traces now.done end.number end.round mutators commands

-- the entries of a session are the first commands of the traces
session-order : (t : Setting) (now : Moment) → InSession t now → IsOrderPrefix t.traces now.done
session-order t now sessions.begun = levels.in_order t.traces [] 0 (levels.in_first t.traces) tt (λ m is. refl)
session-order t now (sessions.longer before session epoch) = epoch.prefix

-- a session that has ended is whole
pub session-whole : (t : Setting) (now : Moment) → InSession t now → ((m : ℕ) → IsMutator t.traces m → next_in t now m ≡ None) → IsWhole t now
session-whole t now session none = record { session = session; order = levels.whole_order t.traces now.done (session-order t now session) none }
