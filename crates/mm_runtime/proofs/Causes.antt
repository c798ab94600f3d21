-- The causes of the ends of an epoch's parts.
use Rattle.std.proofs.Common.{◌≡◌, refl, sym, ◌∙◌, ap, subst, ℕ, zero, suc, ◌<◌, ◌≤◌, ◌⊎◌, inl, inr, arith, true, false, List, [], length, map, add-one}
use Rattle.std.specs.Prelude.{Option, Some, slice_get, unwrap_or}
use Rattle.std.proofs.lemmas.List.{length-map}
use Rattle.ideal_heap.specs.declared.command.Command.{Command}
use Rattle.ideal_heap.specs.declared.command.Command.TheVariants as c
use Rattle.ideal_heap.specs.Runs.{Entry, IsMutator, of_mutator}
use Rattle.object_model.specs.Objects.{size_of}
use Rattle.object_model.specs.declared.shape.TheConstants.{MAX_MEDIUM_WORDS}
use Rattle.sessions.specs.Sessions.{Setting, Moment, AtGc, AtMeet, AtEnd, AtNeed, Raised, EndsBy, next_in, is_at_gc, is_at_need}
use Rattle.block_regions.proofs.Lists.{get-some, get-below, get-map}
use Rattle.mm_runtime.specs.declared.progress.Progress.{Progress}
use Rattle.mm_runtime.specs.declared.progress.PartEnd.{PartEnd}
use Rattle.mm_runtime.specs.declared.progress.PartEnd.TheVariants as end
use Rattle.mm_runtime.specs.Managers.{next_in_trace, traces_of, HasReplies}
use Rattle.mm_runtime.specs.Parts.{EndedFor, EndRaisesStop, raises_stop, cause_of, causes}

-- the next command of a mutator, by its trace and replies
pub next-at : (t : Setting) (stop : Moment) (qs : List Progress) → t.traces ≡ traces_of qs → HasReplies qs stop.done → (k : ℕ) (q : Progress) → slice_get qs k ≡ Some q
    → next_in t stop (suc k) ≡ next_in_trace q
next-at t stop qs traces replies k q is =
    let n : ℕ = length (of_mutator (suc k) stop.done) in
    let count : n ≡ length q.replies.items = sym (length-map (of_mutator (suc k) stop.done) (λ (e : Entry). e.reply))
    ∙ ap (λ j. length (map (λ (e : Entry). e.reply) (of_mutator j stop.done))) (sym (add-one k)) ∙ ap length (replies.replies k q is) in
    ap (λ (ts : List (List Command)). slice_get (unwrap_or (slice_get ts k) []) n) traces
    ∙ ap (λ (o : Option (List Command)). slice_get (unwrap_or o []) n) (get-map (λ (p : Progress). p.trace) qs k q is)
    ∙ ap (slice_get q.trace) count

-- a mutator whose end raises a stop is at `gc` or at a need
gc-or-need : (e : PartEnd) → raises_stop e ≡ true → (is_at_gc (cause_of (Some e)) ≡ true) ⊎ (is_at_need (cause_of (Some e)) ≡ true)
gc-or-need end.Gc raises = inl refl
gc-or-need end.Meet raises = let wrong : false ≡ true = raises in cc
gc-or-need end.Trace raises = let wrong : false ≡ true = raises in cc
gc-or-need (end.Need need) raises = inr refl
gc-or-need (end.Raised by) raises = let wrong : false ≡ true = raises in cc

raised-cause : (ends : List PartEnd) (by : ℕ) → EndRaisesStop ends by → (is_at_gc (causes ends by) ≡ true) ⊎ (is_at_need (causes ends by) ≡ true)
raised-cause ends by raised =
    subst (λ (n : ℕ). (is_at_gc (causes ends n) ≡ true) ⊎ (is_at_need (causes ends n) ≡ true)) (sym (raised.number_is ∙ add-one raised.place))
    (subst (λ (o : Option PartEnd). (is_at_gc (cause_of o) ≡ true) ⊎ (is_at_need (cause_of o) ≡ true)) (sym raised.is) (gc-or-need raised.end raised.raises))

-- the ends of the parts, by the next commands
module _ (spent : ℕ → Type 0) (t : Setting) (stop : Moment) (qs : List Progress) (ends : List PartEnd) (traces : t.traces ≡ traces_of qs)
    (replies : HasReplies qs stop.done) (many : length ends ≡ length qs)
    (each : (k : ℕ) (q : Progress) (e : PartEnd) → slice_get qs k ≡ Some q → slice_get ends k ≡ Some e → EndedFor spent ends k (next_in_trace q) e) where
  count : length t.traces ≡ length qs
  count = ap length traces ∙ length-map qs (λ (p : Progress). p.trace)

  ends-by : (k : ℕ) (q : Progress) (e : PartEnd) → slice_get qs k ≡ Some q → EndedFor spent ends k (next_in_trace q) e → EndsBy t stop (causes ends) (suc k) (cause_of (Some e))
  ends-by k q end.Gc here is = next-at t stop qs traces replies k q here ∙ is
  ends-by k q end.Meet here is = next-at t stop qs traces replies k q here ∙ is
  ends-by k q end.Trace here is = next-at t stop qs traces replies k q here ∙ is
  ends-by k q (end.Need need) here is = (need.register, need.refs, need.nums, next-at t stop qs traces replies k q here ∙ is.0)
  ends-by k q (end.Raised by) here is =
      let raised = is.1 in
      let below : raised.place < length ends = get-below ends raised.place raised.end raised.is in
      let all = count in
      let number = raised.number_is in (
        (λ none. is.0 (sym (next-at t stop qs traces replies k q here) ∙ none)),
        (omega arith, omega arith),
        raised-cause ends by raised,
      )

  -- the mutator at a place
  mutator-at : (k : ℕ) → IsMutator t.traces (suc k) → (q : Progress) × (e : PartEnd) × (slice_get qs k ≡ Some q) × (slice_get ends k ≡ Some e)
  mutator-at k is =
      let all = count in
      let q = get-some qs k (omega (arith, is.1)) in
      let e = get-some ends k (omega (arith, is.1)) in
      (q.0, e.0, q.1, e.1)

  pub all-causes : (m : ℕ) → IsMutator t.traces m → EndsBy t stop (causes ends) m (causes ends m)
  all-causes zero is = absurd (omega (arith, is.0))
  all-causes (suc k) is =
      let at = mutator-at k is in
      subst (λ (o : Option PartEnd). EndsBy t stop (causes ends) (suc k) (cause_of o)) (sym at.3) (ends-by k at.0 at.1 at.2 (each k at.0 at.1 at.2 at.3))

  need-exhausted : (k d refs nums : ℕ) (q : Progress) (e : PartEnd) → EndedFor spent ends k (next_in_trace q) e → cause_of (Some e) ≡ AtNeed → next_in_trace q ≡ Some (c.New d refs nums)
      → size_of refs nums ≤ MAX_MEDIUM_WORDS → spent k
  need-exhausted k d refs nums q end.Gc is at next small = let wrong : AtGc ≡ AtNeed = at in cc
  need-exhausted k d refs nums q end.Meet is at next small = let wrong : AtMeet ≡ AtNeed = at in cc
  need-exhausted k d refs nums q end.Trace is at next small = let wrong : AtEnd ≡ AtNeed = at in cc
  need-exhausted k d refs nums q (end.Raised by) is at next small = let wrong : Raised by ≡ AtNeed = at in cc
  need-exhausted k d refs nums q (end.Need need) is at next small =
      let same : Some (c.New need.register need.refs need.nums) ≡ Some (c.New d refs nums) = sym is.0 ∙ next in
      let r : need.refs ≡ refs = cc in
      let n : need.nums ≡ nums = cc in
      is.1 (omega arith)

  pub needs-exhausted : (m d refs nums : ℕ) → IsMutator t.traces m → causes ends m ≡ AtNeed → next_in t stop m ≡ Some (c.New d refs nums)
      → size_of refs nums ≤ MAX_MEDIUM_WORDS → (k : ℕ) × spent k
  needs-exhausted zero d refs nums is at next small = absurd (omega (arith, is.0))
  needs-exhausted (suc k) d refs nums is at next small =
      let here = mutator-at k is in (
        k,
        need-exhausted k d refs nums here.0 here.1 (each k here.0 here.1 here.2 here.3) (ap cause_of (sym here.3) ∙ at)
            (sym (next-at t stop qs traces replies k here.0 here.2) ∙ next) small,
      )
