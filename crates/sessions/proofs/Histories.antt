-- A session is a run of the ideal heap.
use Rattle.std.proofs.Common.{◌≡◌, sym, ◌∙◌, ap, subst, ℕ, ◌≤◌, arith, Bool, true, false, List, [], ◌∷◌}
use Rattle.std.specs.List.{AllByRecursion}
use Rattle.ideal_heap.specs.declared.command.Command.{Command}
use Rattle.ideal_heap.specs.Ideal.{empty}
use Rattle.ideal_heap.specs.Runs.{Entry, IsRun, is_full, replies_of, IsMutator, IsOrder, alone}
use Rattle.ideal_heap.proofs.RunLemmas.{longer}
use Rattle.ideal_heap.proofs.OrderLemmas.{alone-of}
use Rattle.object_model.specs.declared.collect.Collect.{Collect}
use Rattle.object_model.specs.declared.collect.Collect.TheVariants.{Nursery, Full}
use Rattle.sessions.specs.Sessions as sessions
use Rattle.sessions.specs.Sessions.{Setting, Moment, OnlyReplies, RunsPart, MakesCollection, CollectsFor, FirstTry, ServesNeed, ServesAll, MeetsIf, InSession, IsEpoch, IsWhole}

-- a run so far
abbrev Run : Moment → Type 0
Run now = IsRun empty now.done

-- replies continue the run
replied : (es : List Entry) (before now : Moment) → OnlyReplies es before now → Run before → Run now
replied es before now replies run =
    subst (λ (x : Moment). Run x) (sym replies.rest) (longer empty before.done es run replies.runs)

-- so does a part
ran : (t : Setting) (before now : Moment) (ends : ℕ → sessions.Cause) → RunsPart t before ends now → Run before → Run now
ran t before now ends part run = subst (IsRun empty) (sym part.done) (longer empty before.done part.part run part.runs)

-- a collection has no entry
collected : (t : Setting) (collect : Collect) (before now : Moment) → MakesCollection t collect before now → Run before → Run now
collected t collect before now makes run = subst (IsRun empty) (sym makes.done) run

same : (before now : Moment) → now ≡ before → Run before → Run now
same before now e run = subst (λ (x : Moment). Run x) (sym e) run

collects : (t : Setting) (ms : List ℕ) (before now : Moment) → CollectsFor t ms before now → Run before → Run now
collects t [] before now nothing run = same before now nothing run
collects t (m ∷ ms) before now (mid, makes, replies) run = replied _ mid now replies (collected t _ before mid makes run)

tried : (t : Setting) (size : ℕ) (collect : Collect) (before now : Moment) → FirstTry t size collect before now → Run before → Run now
tried t size Full before now nothing run = same before now nothing run
tried t size Nursery before now makes run = collected t _ before now makes.0 run

served : (t : Setting) (m d refs nums : ℕ) (before now : Moment) → ServesNeed t m d refs nums before now → Run before → Run now
served t m d refs nums before now (sessions.at_once places) run = places.runs
served t m d refs nums before now (sessions.after_nursery mid no_fit first makes places) run = places.runs
served t m d refs nums before now (sessions.after_full mid late no_fit first makes places) run = places.runs
served t m d refs nums before now (sessions.refused mid late no_fit first makes no_fit_after replies) run =
    replied _ late now replies (collected t _ mid late makes (tried t _ _ before mid first run))

served-all : (t : Setting) (ms : List ℕ) (before now : Moment) → ServesAll t ms before now → Run before → Run now
served-all t [] before now nothing run = same before now nothing run
served-all t (m ∷ ms) before now (d, refs, nums, mid, need, serves, rest) run = served-all t ms mid now rest (served t m d refs nums before mid serves run)

met : (all : Bool) (ms : List ℕ) (before now : Moment) → MeetsIf all ms before now → Run before → Run now
met true ms before now replies run = replied _ before now replies run
met false ms before now nothing run = same before now nothing run

epoch-run : (t : Setting) (before now : Moment) → IsEpoch t before now → Run before → Run now
epoch-run t before now epoch run =
    met _ _ epoch.served now epoch.meet
    (served-all t _ epoch.collected epoch.served epoch.needs
    (collects t _ epoch.stop epoch.collected epoch.gc
    (ran t before epoch.stop epoch.ends epoch.part run)))

-- the entries of a session are a run from the empty ideal heap
pub session-run : (t : Setting) (now : Moment) → InSession t now → IsRun empty now.done
session-run t now sessions.begun = tt
session-run t now (sessions.longer before session epoch) = epoch-run t before now epoch (session-run t before session)

-- if there is one trace, each entry is of mutator 1
entries-of_one : (trace : List Command) (es : List Entry) → AllByRecursion (λ e. IsMutator (trace ∷ []) e.mutator) es → AllByRecursion (λ e. e.mutator ≡ 1) es
entries-of_one trace [] all = tt
entries-of_one trace (e ∷ es) all = ((let least : 1 ≤ e.mutator = all.0.0 in let most : e.mutator ≤ 1 = all.0.1 in omega arith), entries-of_one trace es all.1)

-- the replies of a session of one trace without a refusal
pub replies-alone : (t : Setting) (trace : List Command) (last : Moment) → t.traces ≡ trace ∷ [] → IsWhole t last → AllByRecursion (λ e. is_full e.reply ≡ false) last.done
    → replies_of 1 last.done ≡ alone empty 1 trace
replies-alone t trace last one whole none =
    let order : IsOrder (trace ∷ []) last.done = subst (λ ts. IsOrder ts last.done) one whole.order in
    alone-of empty 1 last.done (session-run t last whole.session) (entries-of_one trace last.done order.mutators) none
    ∙ ap (alone empty 1) (order.commands 1 (omega arith, omega arith))

-- the replies of two such sessions are the same
pub replies-same : (t u : Setting) (trace : List Command) (last end : Moment) → t.traces ≡ trace ∷ [] → u.traces ≡ trace ∷ [] → IsWhole t last → IsWhole u end
    → AllByRecursion (λ e. is_full e.reply ≡ false) last.done → AllByRecursion (λ e. is_full e.reply ≡ false) end.done → replies_of 1 last.done ≡ replies_of 1 end.done
replies-same t u trace last end one one' whole whole' none none' = replies-alone t trace last one whole none ∙ sym (replies-alone u trace end one' whole' none')
