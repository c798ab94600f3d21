-- Each moment that ends a session is sound.
use Rattle.std.specs.List.{range_with_len, AllByRecursion}
use Rattle.std.proofs.lemmas.List.FromFn.{get_or-range_with_len, length-range_with_len}
use Rattle.object_model.proofs.Zeros as zeros
use Rattle.std.proofs.Common.{inl, ◌≤◌, ◌+◌, suc, zero, map, length, slice_index, arith, ◌≡◌, refl, sym, ◌∙◌, ap, subst, ℕ, Bool, true, false, List, [], ◌∷◌, ◌++◌}
use Rattle.ideal_heap.specs.declared.command.Command.TheVariants as c
use Rattle.ideal_heap.specs.declared.reply.Reply.TheVariants as r
use Rattle.ideal_heap.specs.Ideal as ideal
use Rattle.ideal_heap.specs.Ideal.{IdealHeap, step}
use Rattle.ideal_heap.specs.Runs.{Entry, entry, Answers, IsRun, heap_after_run, after_entry}
use Rattle.ideal_heap.proofs.RunLemmas.{after-append}
use Rattle.object_model.specs.Graphs.{Represents, AreDifferent, numbers_of, new_mutator}
use Rattle.sessions.specs.Sessions as sessions
use Rattle.sessions.specs.Sessions.{Setting, Moment, IsSound, ideal_at, all_done, OnlyReplies, RunsPart, CollectsFor, ServesNeed, ServesAll, MeetsIf, InSession, IsEpoch, first_moment, traced_mutators}

-- `gc` and `meet` leave the ideal heap unchanged
gc-heap : (h : IdealHeap) (m : ℕ) → after_entry h (entry m c.Gc r.Done) ≡ h
unfolding step
gc-heap h m = refl

meet-heap : (h : IdealHeap) (m : ℕ) → after_entry h (entry m c.Meet r.Done) ≡ h
unfolding step
meet-heap h m = refl

pub all-gc : (h : IdealHeap) (ms : List ℕ) → heap_after_run h (all_done c.Gc ms) ≡ h
all-gc h [] = refl
all-gc h (m ∷ ms) = ap (λ (x : IdealHeap). heap_after_run x (all_done c.Gc ms)) (gc-heap h m) ∙ all-gc h ms

pub all-meet : (h : IdealHeap) (ms : List ℕ) → heap_after_run h (all_done c.Meet ms) ≡ h
all-meet h [] = refl
all-meet h (m ∷ ms) = ap (λ (x : IdealHeap). heap_after_run x (all_done c.Meet ms)) (meet-heap h m) ∙ all-meet h ms

-- and `ok` is their reply

gc-answers : (h : IdealHeap) (m : ℕ) → Answers h (entry m c.Gc r.Done)
unfolding step
gc-answers h m = inl refl

meet-answers : (h : IdealHeap) (m : ℕ) → Answers h (entry m c.Meet r.Done)
unfolding step
meet-answers h m = inl refl

pub gcs-run : (h : IdealHeap) (ms : List ℕ) → IsRun h (all_done c.Gc ms)
gcs-run h [] = tt
gcs-run h (m ∷ ms) = (gc-answers h m, subst (λ (x : IdealHeap). IsRun x (all_done c.Gc ms)) (sym (gc-heap h m)) (gcs-run h ms))

pub meets-run : (h : IdealHeap) (ms : List ℕ) → IsRun h (all_done c.Meet ms)
meets-run h [] = tt
meets-run h (m ∷ ms) = (meet-answers h m, subst (λ (x : IdealHeap). IsRun x (all_done c.Meet ms)) (sym (meet-heap h m)) (meets-run h ms))

-- the moment with more entries
abbrev more : Moment → List Entry → Moment
more before es = record before { done = before.done ++ es }

still : (t : Setting) (es : List Entry) (before : Moment) → heap_after_run (ideal_at before) es ≡ ideal_at before → IsSound t before → IsSound t (more before es)
still t es before e sound = record {
  lawful = sound.lawful;
  remembers = sound.remembers;
  represents = subst (λ (h : IdealHeap). Represents before.heap before.mutators h) (sym (after-append ideal.empty before.done es ∙ e)) sound.represents;
  listed = sound.listed;
}

pub replied : (t : Setting) (es : List Entry) (before now : Moment) → heap_after_run (ideal_at before) es ≡ ideal_at before → OnlyReplies es before now → IsSound t before → IsSound t now
replied t es before now e replies sound = subst (λ (x : Moment). IsSound t x) (sym replies.rest) (still t es before e sound)

ran : (t : Setting) (before now : Moment) (ends : ℕ → sessions.Cause) → RunsPart t before ends now → IsSound t now
ran t before now ends part =
    let e : ideal_at now ≡ heap_after_run (ideal_at before) part.part = ap (heap_after_run ideal.empty) part.done ∙ after-append ideal.empty before.done part.part in
    record {
      lawful = part.stopped.lawful;
      remembers = part.stopped.remembers;
      represents = subst (λ (h : IdealHeap). Represents now.heap now.mutators h) (sym e) part.stopped.represents;
      listed = part.stopped.listed;
    }

same : (t : Setting) (before now : Moment) → now ≡ before → IsSound t before → IsSound t now
same t before now e sound = subst (λ (x : Moment). IsSound t x) (sym e) sound

collects : (t : Setting) (ms : List ℕ) (before now : Moment) → CollectsFor t ms before now → IsSound t before → IsSound t now
collects t [] before now nothing sound = same t before now nothing sound
collects t (m ∷ ms) before now (mid, makes, replies) sound = replied t _ mid now (all-gc (ideal_at mid) (m ∷ ms)) replies makes.sound

served : (t : Setting) (m d refs nums : ℕ) (before now : Moment) → ServesNeed t m d refs nums before now → IsSound t now
served t m d refs nums before now (sessions.at_once places) = places.sound
served t m d refs nums before now (sessions.after_nursery mid no_fit first makes places) = places.sound
served t m d refs nums before now (sessions.after_full mid late no_fit first makes places) = places.sound
served t m d refs nums before now (sessions.refused mid late no_fit first makes no_fit_after replies) = replied t _ late now refl replies makes.sound

served-all : (t : Setting) (ms : List ℕ) (before now : Moment) → ServesAll t ms before now → IsSound t before → IsSound t now
served-all t [] before now nothing sound = same t before now nothing sound
served-all t (m ∷ ms) before now (d, refs, nums, mid, need, serves, rest) sound = served-all t ms mid now rest (served t m d refs nums before mid serves)

met : (t : Setting) (all : Bool) (ms : List ℕ) (before now : Moment) → MeetsIf all ms before now → IsSound t before → IsSound t now
met t true ms before now replies sound = replied t _ before now (all-meet (ideal_at before) ms) replies sound
met t false ms before now nothing sound = same t before now nothing sound

-- for every moment before it
pub epoch-sound : (t : Setting) (before now : Moment) → IsEpoch t before now → IsSound t now
epoch-sound t before now epoch =
    met t _ _ epoch.served now epoch.meet
    (served-all t _ epoch.collected epoch.served epoch.needs
    (collects t _ epoch.stop epoch.collected epoch.gc
    (ran t before epoch.stop epoch.ends epoch.part)))

-- the mutators of the first moment, by their numbers
numbers-new : (xs : List ℕ) → numbers_of (map new_mutator xs) ≡ xs
numbers-new [] = refl
numbers-new (x ∷ xs) = ap (λ ys. x ∷ ys) (numbers-new xs)

numbers-within : (a n : ℕ) → 1 ≤ a → a + n ≤ 17 → AllByRecursion (λ m. (1 ≤ m) × (m ≤ 16)) (range_with_len a n)
numbers-within a zero least most = tt
numbers-within a (suc n) least most = ((least, omega arith), numbers-within (a + 1) n (omega arith) (omega arith))

numbers-differ : (a n : ℕ) → AreDifferent (range_with_len a n)
numbers-differ a n i j below_i below_j e =
    let many : length (range_with_len a n) ≡ n = length-range_with_len a n in
    let at_i : slice_index (range_with_len a n) i ≡ a + i = get_or-range_with_len a n i 0 (omega arith) in
    let at_j : slice_index (range_with_len a n) j ≡ a + j = get_or-range_with_len a n j 0 (omega arith) in
    omega arith

first-sound : (t : Setting) → 4 ≤ t.blocks → t.blocks ≤ 1024 → length t.traces ≤ 16 → IsSound t (first_moment t)
first-sound t least most few = record {
  lawful = zeros.lawful t.blocks least most;
  remembers = λ young. zeros.remembers t.blocks;
  represents = zeros.represents t.blocks (traced_mutators t) (numbers-within 1 (length t.traces) (omega arith) (omega arith)) (numbers-differ 1 (length t.traces));
  listed = numbers-new (traced_mutators t);
}

pub session-sound : (t : Setting) (now : Moment) → 4 ≤ t.blocks → t.blocks ≤ 1024 → length t.traces ≤ 16 → InSession t now → IsSound t now
session-sound t now least most few sessions.begun = first-sound t least most few
session-sound t now least most few (sessions.longer before session epoch) = epoch-sound t before now epoch
