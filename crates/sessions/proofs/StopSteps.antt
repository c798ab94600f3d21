-- The steps of a stop: collections, needs and `meet`s, and the entries that each of them adds.
use Rattle.std.proofs.Common.{◌≡◌, refl, sym, ◌∙◌, ap, subst, ℕ, zero, suc, ◌+◌, ◌<◌, ◌≤◌, ◌⊎◌, inl, inr, arith, Bool, true, false, cond, List, [], ◌∷◌, ◌++◌, map, filter, length, take, None, Some, append-nil, append_assoc}
use Rattle.std.specs.List.{AllByRecursion, range_with_len, list_all}
use Rattle.std.proofs.lemmas.Bool.{cases_eq, and_parts, false≢true}
use Rattle.std.proofs.lemmas.Option.{slice_get_past}
use Rattle.std.proofs.lemmas.List.{length-map}
use Rattle.std.proofs.lemmas.List.FromFn.{length-range_with_len}
use Rattle.ideal_heap.specs.declared.command.Command.TheVariants as c
use Rattle.ideal_heap.specs.Commands.{is_meet}
use Rattle.ideal_heap.specs.Runs.{Entry, IsMutator, next_of, commands_of, of_mutator, trace_of}
use Rattle.object_model.specs.Graphs.{MutatorState, numbers_of, roots_of}
use Rattle.object_model.specs.Objects.{HeapState, size_of}
use Rattle.object_model.specs.declared.collect.Collect.{Collect}
use Rattle.object_model.specs.declared.collect.Collect.TheVariants.{Nursery, Full}
use Rattle.sessions.specs.Plans.{Rules}
use Rattle.sessions.specs.Fitting.{Fits}
use Rattle.sessions.specs.Collecting.{Collects, CollectsIf, first_collection}
use Rattle.sessions.specs.Sessions as sessions
use Rattle.sessions.specs.Sessions.{Setting, Moment, Cause, traced_mutators, next_in, is_at_gc, is_at_need, is_at_meet, is_waiting, all_done, birth_count, refused_entry, IsOfPart, MakesCollection, OnlyReplies, CollectsFor, Places, FirstTry, ServesNeed, ServesAll, MeetsIf, Meets, IsEpoch, InSession, IsWhole}
use Rattle.sessions.proofs.CountedCollections.{counts-one}

-- collections

pub full-counts : (t : Setting) (before now : Moment) → MakesCollection t Full before now → (now.nursery ≡ before.nursery) × (now.full ≡ before.full + 1)
full-counts t before now makes = (ap (λ p. p.0) makes.counts, ap (λ p. p.1) makes.counts)

pub nursery-counts : (t : Setting) (before now : Moment) → MakesCollection t Nursery before now → (now.nursery ≡ before.nursery + 1) × (now.full ≡ before.full)
nursery-counts t before now makes = (ap (λ p. p.0) makes.counts, ap (λ p. p.1) makes.counts)

pub collection-next : (t : Setting) (kind : Collect) (before now : Moment) → MakesCollection t kind before now → (m : ℕ) → next_in t now m ≡ next_in t before m
collection-next t kind before now makes m = ap (λ es. next_of t.traces es m) makes.done

firsts : (ms : List MutatorState) → map (λ p. p.0) (map birth_count ms) ≡ map (λ m. m.number) ms
firsts [] = refl
firsts (m ∷ ms) = ap (λ ns. m.number ∷ ns) (firsts ms)

seconds : (ms : List MutatorState) → map (λ p. p.1) (map birth_count ms) ≡ map (λ m. m.births) ms
seconds [] = refl
seconds (m ∷ ms) = ap (λ ns. m.births ∷ ns) (seconds ms)

pub collection-births : (t : Setting) (kind : Collect) (before now : Moment) → MakesCollection t kind before now
    → (numbers_of now.mutators ≡ numbers_of before.mutators) × (map (λ m. m.births) now.mutators ≡ map (λ m. m.births) before.mutators)
collection-births t kind before now makes = (
  sym (firsts now.mutators) ∙ ap (map (λ p. p.0)) makes.mutators ∙ firsts before.mutators,
  sym (seconds now.mutators) ∙ ap (map (λ p. p.1)) makes.mutators ∙ seconds before.mutators,
)

reclaims : (collects : Bool) (rules : Rules) (workers : ℕ) (kind : Collect) (old new : HeapState) (roots roots' : List ℕ) → collects ≡ true → CollectsIf collects rules workers kind old roots new roots'
    → Collects rules workers kind old roots new roots'
reclaims true rules workers kind old new roots roots' is made = made
reclaims false rules workers kind old new roots roots' is made = absurd (false≢true is)

pub collection-job : (t : Setting) (kind : Collect) (before now : Moment) → t.rules.collects ≡ true → MakesCollection t kind before now
    → Collects t.rules t.workers kind before.heap (roots_of before.mutators) now.heap (roots_of now.mutators)
collection-job t kind before now is makes = reclaims t.rules.collects t.rules t.workers kind before.heap now.heap (roots_of before.mutators) (roots_of now.mutators) is makes.collection

-- the collection for the mutators at `gc`

pub gc-nobody : (t : Setting) (before now : Moment) → CollectsFor t [] before now → (now.heap ≡ before.heap) × (now.done ≡ before.done) × (now.full ≡ before.full)
gc-nobody t before now nothing = (ap (λ (x : Moment). x.heap) nothing, ap (λ (x : Moment). x.done) nothing, ap (λ (x : Moment). x.full) nothing)

pub gc-for_all : (t : Setting) (m : ℕ) (ms : List ℕ) (before now : Moment) → CollectsFor t (m ∷ ms) before now
    → (now.done ≡ before.done ++ all_done c.Gc (m ∷ ms)) × (now.full ≡ before.full + 1) × (now.nursery ≡ before.nursery) × (now.heap.number ≡ before.heap.number + 1)
gc-for_all t m ms before now (mid, makes, replies) =
    let counts = full-counts t before mid makes in (
      ap (λ (x : Moment). x.done) replies.rest ∙ ap (λ es. es ++ all_done c.Gc (m ∷ ms)) makes.done,
      ap (λ (x : Moment). x.full) replies.rest ∙ counts.1,
      ap (λ (x : Moment). x.nursery) replies.rest ∙ counts.0,
      ap (λ (x : Moment). x.heap.number) replies.rest ∙ (counts-one _ _ _ _ _ _ _ makes.collection).0,
    )

gc-done : (t : Setting) (ms : List ℕ) (before now : Moment) → CollectsFor t ms before now → now.done ≡ before.done ++ all_done c.Gc ms
gc-done t [] before now nothing = (gc-nobody t before now nothing).1 ∙ sym (append-nil before.done)
gc-done t (m ∷ ms) before now collects = (gc-for_all t m ms before now collects).0

pub replies-keep : (es : List Entry) (before now : Moment) → OnlyReplies es before now
    → (now.heap ≡ before.heap) × (now.mutators ≡ before.mutators) × (now.nursery ≡ before.nursery) × (now.full ≡ before.full)
replies-keep es before now replies = (
  ap (λ (x : Moment). x.heap) replies.rest,
  ap (λ (x : Moment). x.mutators) replies.rest,
  ap (λ (x : Moment). x.nursery) replies.rest,
  ap (λ (x : Moment). x.full) replies.rest,
)

-- needs

module _ (t : Setting) (m d refs nums : ℕ) (before now : Moment) where
  abbrev size : ℕ
  size = size_of refs nums

  abbrev MisfitsBefore : Type 0
  MisfitsBefore = Fits t.rules before.heap size → ⊥

  pub serves-fitting : Fits t.rules before.heap size → ServesNeed t m d refs nums before now → Places t m d refs nums before now
  serves-fitting fits (sessions.at_once places) = places
  serves-fitting fits (sessions.after_nursery mid no_fit first makes places) = absurd (no_fit fits)
  serves-fitting fits (sessions.after_full mid late no_fit first makes places) = absurd (no_fit fits)
  serves-fitting fits (sessions.refused mid late no_fit first makes no_fit_after replies) = absurd (no_fit fits)

  -- the full collection that comes first, and then the object or the refusal
  abbrev pub AfterFull : Type 0
  AfterFull = (now.nursery ≡ before.nursery) × (now.full ≡ before.full + 1)

  clash : {P : Type 0} → Nursery ≡ Full → P
  clash e = cc

  full-tried : (kind : Collect) (mid late : Moment) → kind ≡ Full → FirstTry t size kind before mid → MakesCollection t Full mid late → (late.nursery ≡ before.nursery) × (late.full ≡ before.full + 1)
  full-tried Full mid late is same makes = (
    (full-counts t mid late makes).0 ∙ ap (λ (x : Moment). x.nursery) same,
    (full-counts t mid late makes).1 ∙ ap (λ (x : Moment). x.full + 1) same,
  )
  full-tried Nursery mid late is try makes = clash is

  pub serves-full_first : MisfitsBefore → first_collection t.rules before.heap ≡ Full → ServesNeed t m d refs nums before now → AfterFull
  serves-full_first misfits is (sessions.at_once places) = absurd (misfits places.fits)
  serves-full_first misfits is (sessions.after_nursery mid no_fit first makes places) = clash (sym first ∙ is)
  serves-full_first misfits is (sessions.after_full mid late no_fit first makes places) =
      let both = full-tried (first_collection t.rules before.heap) mid late is first makes in (places.counts.0 ∙ both.0, places.counts.1 ∙ both.1)
  serves-full_first misfits is (sessions.refused mid late no_fit first makes no_fit_after replies) =
      let both = full-tried (first_collection t.rules before.heap) mid late is first makes in
      (ap (λ (x : Moment). x.nursery) replies.rest ∙ both.0, ap (λ (x : Moment). x.full) replies.rest ∙ both.1)

  -- the nursery collection that comes first, and what follows it
  abbrev pub AfterNursery : Type 0
  AfterNursery = (mid : Moment) × MakesCollection t Nursery before mid
      × (Places t m d refs nums mid now ⊎ ((Fits t.rules mid.heap size → ⊥) × (now.nursery ≡ mid.nursery) × (now.full ≡ mid.full + 1)))

  nursery-tried : (kind : Collect) (mid : Moment) → kind ≡ Nursery → FirstTry t size kind before mid → MakesCollection t Nursery before mid × (Fits t.rules mid.heap size → ⊥)
  nursery-tried Nursery mid is try = try
  nursery-tried Full mid is try = clash (sym is)

  pub serves-nursery_first : MisfitsBefore → first_collection t.rules before.heap ≡ Nursery → ServesNeed t m d refs nums before now → AfterNursery
  serves-nursery_first misfits is (sessions.at_once places) = absurd (misfits places.fits)
  serves-nursery_first misfits is (sessions.after_nursery mid no_fit first makes places) = (mid, makes, inl places)
  serves-nursery_first misfits is (sessions.after_full mid late no_fit first makes places) =
      let try = nursery-tried (first_collection t.rules before.heap) mid is first in
      let counts = full-counts t mid late makes in
      (mid, try.0, inr (try.1, places.counts.0 ∙ counts.0, places.counts.1 ∙ counts.1))
  serves-nursery_first misfits is (sessions.refused mid late no_fit first makes no_fit_after replies) =
      let try = nursery-tried (first_collection t.rules before.heap) mid is first in
      let counts = full-counts t mid late makes in
      (mid, try.0, inr (try.1, ap (λ (x : Moment). x.nursery) replies.rest ∙ counts.0, ap (λ (x : Moment). x.full) replies.rest ∙ counts.1))

  -- one entry, for the mutator's `new`
  abbrev pub AddsOne : Type 0
  AddsOne = (e : Entry) × (now.done ≡ before.done ++ e ∷ []) × (e.mutator ≡ m) × (e.command ≡ c.New d refs nums)

  one-after : (late : Moment) (e : Entry) → late.done ≡ before.done → now.done ≡ late.done ++ e ∷ [] → e.mutator ≡ m → e.command ≡ c.New d refs nums → AddsOne
  one-after late e same done mutator command = (e, done ∙ ap (λ es. es ++ e ∷ []) same, mutator, command)

  tried-done : (kind : Collect) (mid : Moment) → FirstTry t size kind before mid → mid.done ≡ before.done
  tried-done Full mid same = ap (λ (x : Moment). x.done) same
  tried-done Nursery mid try = try.0.done

  pub serves-one : ServesNeed t m d refs nums before now → AddsOne
  serves-one (sessions.at_once places) = one-after before _ refl places.done refl refl
  serves-one (sessions.after_nursery mid no_fit first makes places) = one-after mid _ makes.done places.done refl refl
  serves-one (sessions.after_full mid late no_fit first makes places) = one-after late _ (makes.done ∙ tried-done _ mid first) places.done refl refl
  serves-one (sessions.refused mid late no_fit first makes no_fit_after replies) =
      one-after late (refused_entry m d refs nums) (makes.done ∙ tried-done _ mid first) (ap (λ (x : Moment). x.done) replies.rest) refl refl

  -- each way to serve a need
  full-try : (mid : Moment) → first_collection t.rules before.heap ≡ Full → mid ≡ before → FirstTry t size (first_collection t.rules before.heap) before mid
  full-try mid is same = subst (λ kind. FirstTry t size kind before mid) (sym is) same

  nursery-try : (mid : Moment) → first_collection t.rules before.heap ≡ Nursery → MakesCollection t Nursery before mid → (Fits t.rules mid.heap size → ⊥)
      → FirstTry t size (first_collection t.rules before.heap) before mid
  nursery-try mid is makes misfits = subst (λ kind. FirstTry t size kind before mid) (sym is) (makes, misfits)

  pub way-full : (late : Moment) → MisfitsBefore → first_collection t.rules before.heap ≡ Full → MakesCollection t Full before late
      → Places t m d refs nums late now ⊎ ((Fits t.rules late.heap size → ⊥) × OnlyReplies (refused_entry m d refs nums ∷ []) late now) → ServesNeed t m d refs nums before now
  way-full late misfits is makes (inl places) = sessions.after_full before late misfits (full-try before is refl) makes places
  way-full late misfits is makes (inr refused) = sessions.refused before late misfits (full-try before is refl) makes refused.0 refused.1

  pub way-nursery : (mid : Moment) → MisfitsBefore → first_collection t.rules before.heap ≡ Nursery → MakesCollection t Nursery before mid → Places t m d refs nums mid now → ServesNeed t m d refs nums before now
  way-nursery mid misfits is makes places = sessions.after_nursery mid misfits is makes places

  pub way-both : (mid late : Moment) → MisfitsBefore → first_collection t.rules before.heap ≡ Nursery → MakesCollection t Nursery before mid → (Fits t.rules mid.heap size → ⊥) → MakesCollection t Full mid late
      → Places t m d refs nums late now ⊎ ((Fits t.rules late.heap size → ⊥) × OnlyReplies (refused_entry m d refs nums ∷ []) late now) → ServesNeed t m d refs nums before now
  way-both mid late misfits is nursery misfits_after makes (inl places) = sessions.after_full mid late misfits (nursery-try mid is nursery misfits_after) makes places
  way-both mid late misfits is nursery misfits_after makes (inr refused) = sessions.refused mid late misfits (nursery-try mid is nursery misfits_after) makes refused.0 refused.1

-- all needs

pub needs-first : (t : Setting) (m : ℕ) (ms : List ℕ) (before now : Moment) → ServesAll t (m ∷ ms) before now
    → (d : ℕ) × (refs : ℕ) × (nums : ℕ) × (mid : Moment) × (next_in t before m ≡ Some (c.New d refs nums)) × ServesNeed t m d refs nums before mid × ServesAll t ms mid now
needs-first t m ms before now serves = serves

pub needs-order : (t : Setting) (ms : List ℕ) (before now : Moment) → ServesAll t ms before now
    → (es : List Entry) × (now.done ≡ before.done ++ es) × (map (λ e. e.mutator) es ≡ ms)
needs-order t [] before now nothing = ([], ap (λ (x : Moment). x.done) nothing ∙ sym (append-nil before.done), refl)
needs-order t (m ∷ ms) before now (d, refs, nums, mid, need, serves, rest) =
    let one = serves-one t m d refs nums before mid serves in
    let more = needs-order t ms mid now rest in (
      one.0 ∷ more.0,
      more.1 ∙ ap (λ es. es ++ more.0) one.1 ∙ append_assoc before.done (one.0 ∷ []) more.0,
      ap (λ k. k ∷ map (λ e. e.mutator) more.0) one.2 ∙ ap (λ ks. m ∷ ks) more.2,
    )

-- `meet`s

one-of-all : (p : ℕ → Bool) (k n : ℕ) → list_all p (range_with_len k n) ≡ true → (m : ℕ) → k ≤ m → m < k + n → p m ≡ true
one-of-all p k zero all m low high = absurd (omega arith)
one-of-all p k (suc n) all m low high =
    let both = and_parts (p k) (list_all p (range_with_len (k + 1) n)) all in
    elim (cases_eq k m) as (λ _. p m ≡ true) [
      | inl same ↦ ap p (sym same) ∙ both.0
      | inr differ ↦ one-of-all p (k + 1) n both.1 m (omega arith) (omega arith)
    ]

meets-if_not : (t : Setting) (m : ℕ) (before now : Moment) (all : Bool) → list_all (λ k. is_waiting (next_in t before k)) (traced_mutators t) ≡ all → IsMutator t.traces m → is_waiting (next_in t before m) ≡ false
    → MeetsIf all (filter (λ k. is_at_meet (next_in t before k)) (traced_mutators t)) before now → now ≡ before
meets-if_not t m before now true waits is not meets =
    absurd (false≢true (sym not ∙ one-of-all (λ k. is_waiting (next_in t before k)) 1 (length t.traces) waits m is.0 (let most : m ≤ length t.traces = is.1 in omega arith)))
meets-if_not t m before now false waits is not meets = meets

-- one mutator that does not wait holds up all
pub meets-held_up : (t : Setting) (m : ℕ) (before now : Moment) → IsMutator t.traces m → is_waiting (next_in t before m) ≡ false → Meets t before now → now ≡ before
meets-held_up t m before now is not meets = meets-if_not t m before now _ refl is not meets

meets-entries : (t : Setting) (all : Bool) (ms : List ℕ) (before now : Moment) → MeetsIf all ms before now → (es : List Entry) × (now.done ≡ before.done ++ es) × AllByRecursion (λ e. is_meet e.command ≡ true) es
meets-entries t true ms before now replies = (all_done c.Meet ms, ap (λ (x : Moment). x.done) replies.rest, each ms)
  where
    each : (ks : List ℕ) → AllByRecursion (λ e. is_meet e.command ≡ true) (all_done c.Meet ks)
    each [] = tt
    each (k ∷ ks) = (refl, each ks)
meets-entries t false ms before now nothing = ([], ap (λ (x : Moment). x.done) nothing ∙ sym (append-nil before.done), tt)

-- an epoch

-- the entries that an epoch adds, in their order
pub record AddsEntries (t : Setting) (before now : Moment) : Type 0 where
  pub ends : ℕ → Cause
  pub part : List Entry
  pub needs : List Entry
  pub meets : List Entry
  pub done : now.done ≡ before.done ++ (part ++ all_done c.Gc (filter (λ m. is_at_gc (ends m)) (traced_mutators t)) ++ needs ++ meets)
  pub each : AllByRecursion IsOfPart part
  pub served : map (λ e. e.mutator) needs ≡ filter (λ m. is_at_need (ends m)) (traced_mutators t)
  pub met : AllByRecursion (λ e. is_meet e.command ≡ true) meets

pub epoch-adds : (t : Setting) (before now : Moment) → IsEpoch t before now → AddsEntries t before now
epoch-adds t before now epoch =
    let gcs : List Entry = all_done c.Gc (filter (λ m. is_at_gc (epoch.ends m)) (traced_mutators t)) in
    let needs = needs-order t _ epoch.collected epoch.served epoch.needs in
    let meets = meets-entries t _ _ epoch.served now epoch.meet in
    record {
      ends = epoch.ends;
      part = epoch.part.part;
      needs = needs.0;
      meets = meets.0;
      done = meets.1
          ∙ ap (λ es. es ++ meets.0) (needs.1 ∙ ap (λ es. es ++ needs.0) (gc-done t _ epoch.stop epoch.collected epoch.gc ∙ ap (λ es. es ++ gcs) epoch.part.done))
          ∙ four before.done epoch.part.part gcs needs.0 meets.0;
      each = epoch.part.each;
      served = needs.2;
      met = meets.2;
    }
  where
    four : (a b x y z : List Entry) → a ++ b ++ x ++ y ++ z ≡ a ++ (b ++ x ++ y ++ z)
    four a b x y z = ap (λ es. es ++ y ++ z) (append_assoc a b x) ∙ ap (λ es. es ++ z) (append_assoc a (b ++ x) y) ∙ append_assoc a (b ++ x ++ y) z

-- the layout

-- without a full collection there is no base
abbrev HasNoBase : Moment → Type 0
HasNoBase now = now.full ≡ 0 → now.heap.base ≡ 0

-- both, as they go from step to step
record Keeps (before now : Moment) : Type 0 where
  blocks : now.heap.blocks ≡ before.heap.blocks
  base : HasNoBase before → HasNoBase now

keeps-same : (before now : Moment) → now ≡ before → Keeps before now
keeps-same before now same = record { blocks = ap (λ (x : Moment). x.heap.blocks) same; base = λ none. subst HasNoBase (sym same) none }

keeps-both : (before mid now : Moment) → Keeps before mid → Keeps mid now → Keeps before now
keeps-both before mid now first then = record { blocks = then.blocks ∙ first.blocks; base = λ none. then.base (first.base none) }

keeps-replied : (es : List Entry) (before now : Moment) → OnlyReplies es before now → Keeps before now
keeps-replied es before now replies = record { blocks = ap (λ (x : Moment). x.heap.blocks) replies.rest; base = λ none. subst HasNoBase (sym replies.rest) none }

nursery-base : (collects : Bool) (rules : Rules) (workers : ℕ) (old new : HeapState) (roots roots' : List ℕ) → CollectsIf collects rules workers Nursery old roots new roots' → new.base ≡ old.base
nursery-base true rules workers old new roots roots' made = made.base
nursery-base false rules workers old new roots roots' counts = (let e : Nursery ≡ Full = counts.full in cc)

keeps-collected : (t : Setting) (kind : Collect) (before now : Moment) → MakesCollection t kind before now → Keeps before now
keeps-collected t Full before now makes = record {
  blocks = (counts-one _ _ _ _ _ _ _ makes.collection).1;
  base = λ none full. (let e : now.full ≡ before.full + 1 = (full-counts t before now makes).1 in absurd (omega arith));
}
keeps-collected t Nursery before now makes = record {
  blocks = (counts-one _ _ _ _ _ _ _ makes.collection).1;
  base = λ none full. nursery-base t.rules.collects t.rules t.workers before.heap now.heap (roots_of before.mutators) (roots_of now.mutators) makes.collection
      ∙ none (sym (nursery-counts t before now makes).1 ∙ full);
}

keeps-gcs : (t : Setting) (ms : List ℕ) (before now : Moment) → CollectsFor t ms before now → Keeps before now
keeps-gcs t [] before now nothing = keeps-same before now nothing
keeps-gcs t (m ∷ ms) before now (mid, makes, replies) = keeps-both before mid now (keeps-collected t Full before mid makes) (keeps-replied _ mid now replies)

keeps-placed : (t : Setting) (m d refs nums : ℕ) (before now : Moment) → Places t m d refs nums before now → Keeps before now
keeps-placed t m d refs nums before now places = record {
  blocks = places.layout.0;
  base = λ none full. places.layout.2 ∙ none (sym places.counts.1 ∙ full);
}

keeps-tried : (t : Setting) (words : ℕ) (kind : Collect) (before mid : Moment) → FirstTry t words kind before mid → Keeps before mid
keeps-tried t words Full before mid same = keeps-same before mid same
keeps-tried t words Nursery before mid try = keeps-collected t Nursery before mid try.0

keeps-served : (t : Setting) (m d refs nums : ℕ) (before now : Moment) → ServesNeed t m d refs nums before now → Keeps before now
keeps-served t m d refs nums before now (sessions.at_once places) = keeps-placed t m d refs nums before now places
keeps-served t m d refs nums before now (sessions.after_nursery mid no_fit first makes places) =
    keeps-both before mid now (keeps-collected t Nursery before mid makes) (keeps-placed t m d refs nums mid now places)
keeps-served t m d refs nums before now (sessions.after_full mid late no_fit first makes places) =
    keeps-both before mid now (keeps-tried t _ _ before mid first) (keeps-both mid late now (keeps-collected t Full mid late makes) (keeps-placed t m d refs nums late now places))
keeps-served t m d refs nums before now (sessions.refused mid late no_fit first makes no_fit_after replies) =
    keeps-both before mid now (keeps-tried t _ _ before mid first) (keeps-both mid late now (keeps-collected t Full mid late makes) (keeps-replied _ late now replies))

keeps-needs : (t : Setting) (ms : List ℕ) (before now : Moment) → ServesAll t ms before now → Keeps before now
keeps-needs t [] before now nothing = keeps-same before now nothing
keeps-needs t (m ∷ ms) before now (d, refs, nums, mid, need, serves, rest) = keeps-both before mid now (keeps-served t m d refs nums before mid serves) (keeps-needs t ms mid now rest)

keeps-met : (t : Setting) (all : Bool) (ms : List ℕ) (before now : Moment) → MeetsIf all ms before now → Keeps before now
keeps-met t true ms before now replies = keeps-replied _ before now replies
keeps-met t false ms before now nothing = keeps-same before now nothing

keeps-epoch : (t : Setting) (before now : Moment) → IsEpoch t before now → Keeps before now
keeps-epoch t before now epoch =
    keeps-both before epoch.stop now
    (record { blocks = epoch.part.stopped.blocks; base = λ none full. epoch.part.stopped.base ∙ none (sym epoch.part.counts.1 ∙ full) })
    (keeps-both epoch.stop epoch.collected now (keeps-gcs t _ epoch.stop epoch.collected epoch.gc)
    (keeps-both epoch.collected epoch.served now (keeps-needs t _ epoch.collected epoch.served epoch.needs) (keeps-met t _ _ epoch.served now epoch.meet)))

pub session-blocks : (t : Setting) (now : Moment) → InSession t now → now.heap.blocks ≡ t.blocks
session-blocks t now sessions.begun = refl
session-blocks t now (sessions.longer before session epoch) = (keeps-epoch t before now epoch).blocks ∙ session-blocks t before session

pub session-base : (t : Setting) (now : Moment) → InSession t now → now.full ≡ 0 → now.heap.base ≡ 0
session-base t now sessions.begun = λ none. refl
session-base t now (sessions.longer before session epoch) = (keeps-epoch t before now epoch).base (session-base t before session)

-- in a whole session no mutator has a next command
pub whole-next : (t : Setting) (last : Moment) (m : ℕ) → IsWhole t last → IsMutator t.traces m → next_in t last m ≡ None
whole-next t last m whole is =
    let many : length (commands_of m last.done) ≡ length (trace_of t.traces m) = ap length (whole.order.commands m is) in
    let same : length (commands_of m last.done) ≡ length (of_mutator m last.done) = length-map (of_mutator m last.done) (λ e. e.command) in
    slice_get_past (trace_of t.traces m) (length (of_mutator m last.done)) (omega arith)

-- each mutator's entries answer the first commands of its trace
pub epoch-commands : (t : Setting) (before now : Moment) (m : ℕ) → IsEpoch t before now → IsMutator t.traces m → commands_of m now.done ≡ take (length (of_mutator m now.done)) (trace_of t.traces m)
epoch-commands t before now m epoch is = epoch.prefix.commands m is

-- how many collections an epoch makes

-- at most so many nursery and so many full collections
record Makes (nursery full : ℕ) (before now : Moment) : Type 0 where
  nursery_least : before.nursery ≤ now.nursery
  nursery_most : now.nursery ≤ before.nursery + nursery
  full_least : before.full ≤ now.full
  full_most : now.full ≤ before.full + full

makes-none : (before now : Moment) → now.nursery ≡ before.nursery → now.full ≡ before.full → Makes 0 0 before now
makes-none before now nursery full = record { nursery_least = omega arith; nursery_most = omega arith; full_least = omega arith; full_most = omega arith }

makes-both : (a b x y : ℕ) (before mid now : Moment) → Makes a b before mid → Makes x y mid now → Makes (a + x) (b + y) before now
makes-both a b x y before mid now first then =
    let n0 : before.nursery ≤ mid.nursery = first.nursery_least in
    let n1 : mid.nursery ≤ before.nursery + a = first.nursery_most in
    let f0 : before.full ≤ mid.full = first.full_least in
    let f1 : mid.full ≤ before.full + b = first.full_most in
    let n2 : mid.nursery ≤ now.nursery = then.nursery_least in
    let n3 : now.nursery ≤ mid.nursery + x = then.nursery_most in
    let f2 : mid.full ≤ now.full = then.full_least in
    let f3 : now.full ≤ mid.full + y = then.full_most in
    record { nursery_least = omega arith; nursery_most = omega arith; full_least = omega arith; full_most = omega arith }

makes-more : (a b x y : ℕ) (before now : Moment) → a ≤ x → b ≤ y → Makes a b before now → Makes x y before now
makes-more a b x y before now most_a most_b makes =
    let n1 : now.nursery ≤ before.nursery + a = makes.nursery_most in
    let f1 : now.full ≤ before.full + b = makes.full_most in
    record { nursery_least = makes.nursery_least; nursery_most = omega arith; full_least = makes.full_least; full_most = omega arith }

makes-same : (before now : Moment) → now ≡ before → Makes 0 0 before now
makes-same before now same = makes-none before now (ap (λ (x : Moment). x.nursery) same) (ap (λ (x : Moment). x.full) same)

makes-replied : (es : List Entry) (before now : Moment) → OnlyReplies es before now → Makes 0 0 before now
makes-replied es before now replies = makes-none before now (ap (λ (x : Moment). x.nursery) replies.rest) (ap (λ (x : Moment). x.full) replies.rest)

makes-full : (t : Setting) (before now : Moment) → MakesCollection t Full before now → Makes 0 1 before now
makes-full t before now made =
    let nursery : now.nursery ≡ before.nursery = (full-counts t before now made).0 in
    let full : now.full ≡ before.full + 1 = (full-counts t before now made).1 in
    record { nursery_least = omega arith; nursery_most = omega arith; full_least = omega arith; full_most = omega arith }

makes-nursery : (t : Setting) (before now : Moment) → MakesCollection t Nursery before now → Makes 1 0 before now
makes-nursery t before now made =
    let nursery : now.nursery ≡ before.nursery + 1 = (nursery-counts t before now made).0 in
    let full : now.full ≡ before.full = (nursery-counts t before now made).1 in
    record { nursery_least = omega arith; nursery_most = omega arith; full_least = omega arith; full_most = omega arith }

makes-tried : (t : Setting) (words : ℕ) (kind : Collect) (before mid : Moment) → FirstTry t words kind before mid → Makes 1 0 before mid
makes-tried t words Full before mid same = makes-more 0 0 1 0 before mid (omega arith) (omega arith) (makes-same before mid same)
makes-tried t words Nursery before mid try = makes-nursery t before mid try.0

makes-served : (t : Setting) (m d refs nums : ℕ) (before now : Moment) → ServesNeed t m d refs nums before now → Makes 1 1 before now
makes-served t m d refs nums before now (sessions.at_once places) = makes-more 0 0 1 1 before now (omega arith) (omega arith) (makes-none before now places.counts.0 places.counts.1)
makes-served t m d refs nums before now (sessions.after_nursery mid no_fit first makes places) =
    makes-both 1 0 0 1 before mid now (makes-nursery t before mid makes) (makes-more 0 0 0 1 mid now (omega arith) (omega arith) (makes-none mid now places.counts.0 places.counts.1))
makes-served t m d refs nums before now (sessions.after_full mid late no_fit first makes places) =
    makes-both 1 0 0 1 before mid now (makes-tried t _ _ before mid first) (makes-both 0 1 0 0 mid late now (makes-full t mid late makes) (makes-none late now places.counts.0 places.counts.1))
makes-served t m d refs nums before now (sessions.refused mid late no_fit first makes no_fit_after replies) =
    makes-both 1 0 0 1 before mid now (makes-tried t _ _ before mid first) (makes-both 0 1 0 0 mid late now (makes-full t mid late makes) (makes-replied _ late now replies))

makes-needs : (t : Setting) (ms : List ℕ) (before now : Moment) → ServesAll t ms before now → Makes (length ms) (length ms) before now
makes-needs t [] before now nothing = makes-same before now nothing
makes-needs t (m ∷ ms) before now (d, refs, nums, mid, need, serves, rest) =
    makes-more (1 + length ms) (1 + length ms) (length (m ∷ ms)) (length (m ∷ ms)) before now (omega arith) (omega arith)
    (makes-both 1 1 (length ms) (length ms) before mid now (makes-served t m d refs nums before mid serves) (makes-needs t ms mid now rest))

makes-gcs : (t : Setting) (ms : List ℕ) (before now : Moment) → CollectsFor t ms before now → Makes 0 1 before now
makes-gcs t [] before now nothing = makes-more 0 0 0 1 before now (omega arith) (omega arith) (makes-same before now nothing)
makes-gcs t (m ∷ ms) before now (mid, makes, replies) = makes-both 0 1 0 0 before mid now (makes-full t before mid makes) (makes-replied _ mid now replies)

makes-met : (t : Setting) (all : Bool) (ms : List ℕ) (before now : Moment) → MeetsIf all ms before now → Makes 0 0 before now
makes-met t true ms before now replies = makes-replied _ before now replies
makes-met t false ms before now nothing = makes-same before now nothing

few-filtered : (p : ℕ → Bool) (ms : List ℕ) → length (filter p ms) ≤ length ms
few-filtered p [] = omega arith
few-filtered p (m ∷ ms) = kept (p m) (few-filtered p ms)
  where
    kept : (b : Bool) → length (filter p ms) ≤ length ms → length (cond b (m ∷ filter p ms) (filter p ms)) ≤ length (m ∷ ms)
    kept true few = omega arith
    kept false few = omega arith

pub epoch-makes : (t : Setting) (before now : Moment) → IsEpoch t before now
    → (before.nursery ≤ now.nursery) × (now.nursery ≤ before.nursery + length t.traces) × (before.full ≤ now.full) × (now.full ≤ before.full + 1 + length t.traces)
epoch-makes t before now epoch =
    let needy : List ℕ = filter (λ m. is_at_need (epoch.ends m)) (traced_mutators t) in
    let few : length needy ≤ length (traced_mutators t) = few-filtered (λ m. is_at_need (epoch.ends m)) (traced_mutators t) in
    let many : length (traced_mutators t) ≡ length t.traces = length-range_with_len 1 (length t.traces) in
    let made = makes-both 0 0 (0 + (length needy + 0)) (1 + (length needy + 0)) before epoch.stop now (makes-none before epoch.stop epoch.part.counts.0 epoch.part.counts.1)
    (makes-both 0 1 (length needy + 0) (length needy + 0) epoch.stop epoch.collected now (makes-gcs t _ epoch.stop epoch.collected epoch.gc)
    (makes-both (length needy) (length needy) 0 0 epoch.collected epoch.served now (makes-needs t needy epoch.collected epoch.served epoch.needs) (makes-met t _ _ epoch.served now epoch.meet))) in
    let most_nursery : now.nursery ≤ before.nursery + (0 + (0 + (length needy + 0))) = made.nursery_most in
    let most_full : now.full ≤ before.full + (0 + (1 + (length needy + 0))) = made.full_most in
    (made.nursery_least, omega arith, made.full_least, omega arith)
