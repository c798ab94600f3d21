-- The needs of a stop, served one after another.
use Rattle.std.proofs.Common.{◌≡◌, refl, sym, ◌∙◌, ap, subst, ℕ, suc, ◌+◌, ◌-◌, ◌<◌, ◌≤◌, arith, Bool, true, false, List, [], ◌∷◌, ◌++◌, length, map, Some, append-nil, cond}
use Rattle.std.specs.Prelude.{slice_get, filter, unwrap_or, option_map}
use Rattle.std.specs.List.{range_with_len}
use Rattle.std.proofs.lemmas.Option.{slice_get-map}
use Rattle.std.proofs.lemmas.List.{length-map}
use Rattle.std.proofs.lemmas.List.Elements.{filter-append}
use Rattle.std.proofs.lemmas.List.FromFn.{map-range_with_len_more}
use Rattle.ideal_heap.specs.declared.reply.Reply.{Reply}
use Rattle.ideal_heap.specs.declared.reply.Reply.TheVariants as r
use Rattle.ideal_heap.specs.Runs.{Entry, of_mutator, replies_of, trace_of}
use Rattle.object_model.specs.Heaps.{heap_state}
use Rattle.object_model.specs.Objects.{size_of}
use Rattle.sessions.specs.Plans.{Rules}
use Rattle.sessions.specs.Fitting.{Fits}
use Rattle.sessions.specs.Sessions.{Setting, Moment, Needs, ServesNeed, ServesAll, is_at_need, traced_mutators, next_in}
use Rattle.mutator_calls.specs.declared.need.Need.{Need}
use Rattle.block_regions.proofs.Lists.{get-some, get-below}
use Rattle.mm_runtime.specs.declared.progress.Progress.{Progress}
use Rattle.mm_runtime.specs.declared.progress.PartEnd.{PartEnd}
use Rattle.mm_runtime.specs.declared.progress.PartEnd.TheVariants as end
use Rattle.mm_runtime.specs.declared.manager.Manager.{Manager}
use Rattle.managed_heap.specs.declared.place.Placed.{Placed}
use Rattle.managed_heap.specs.declared.place.Placed.TheVariants as placed
use Rattle.mm_runtime.specs.Managers.{next_in_trace, replied, IsInOrder, IsAtStop, StandsAt}
use Rattle.mm_runtime.specs.Parts.{cause_of, causes, AreNeeds}
use Rattle.mm_runtime.specs.Stops.{NeedsNext, RepliesTo, MatchPlaced, ServesEnd, AddsReply}
use Rattle.mm_runtime.proofs.OneReplied as replies

adds-one : {P : Type 0} (old new : Manager P) (m : ℕ) (reply : Reply) → 1 ≤ m → RepliesTo old m reply new → AddsReply old m new
adds-one old new m reply least to =
    let at : (m - 1) + 1 ≡ m = omega arith in
    let one = to (m - 1) at in
    record {
      count = one.count;
      others = λ j other. one.others j (λ e. other (omega arith));
      replied = (let more : replied new.progress.items ≡ replied old.progress.items + 1 = replies.replied-more old.progress.items new.progress.items (m - 1) reply one in omega arith);
    }

pub adds-reply : {P : Type 0} (rules : Rules) (old new : Manager P) (m refs nums : ℕ) (what : Placed) → 1 ≤ m
    → MatchPlaced what (λ n. RepliesTo old m (r.New n) new) (λ size. RepliesTo old m r.Full new × (size ≡ size_of refs nums) × (new.heap.full ≡ old.heap.full + 1) × (Fits rules (heap_state new.heap.heap) size → ⊥))
    → AddsReply old m new
adds-reply rules old new m refs nums (placed.Placed n) least is = adds-one old new m (r.New n) least is
adds-reply rules old new m refs nums (placed.HeapFull size) least is = adds-one old new m r.Full least is.0

-- the command that is next in the definitions
next-is : {P : Type 0} (rules : Rules) (manager : Manager P) (t : Setting) (now : Moment) (k : ℕ) (p : Progress) → StandsAt rules manager t now → slice_get manager.progress.items k ≡ Some p
    → next_in t now (suc k) ≡ next_in_trace p
next-is rules manager t now k p stands here =
    let trace : trace_of t.traces (suc k) ≡ p.trace =
    ap (λ ts. unwrap_or (slice_get ts k) []) stands.traces ∙ ap (λ o. unwrap_or o []) (slice_get-map (λ (q : Progress). q.trace) manager.progress.items k)
    ∙ ap (λ o. unwrap_or (option_map (λ (q : Progress). q.trace) o) []) here in
    let next : k + 1 ≡ suc k = omega arith in
    let many : length (of_mutator (suc k) now.done) ≡ length p.replies.items =
    sym (length-map (of_mutator (suc k) now.done) (λ (e : Entry). e.reply)) ∙ ap (λ m. length (replies_of m now.done)) (sym next) ∙ ap length (stands.replies.replies k p here) in
    ap (λ n. slice_get (trace_of t.traces (suc k)) n) many ∙ ap (λ ts. slice_get ts (length p.replies.items)) trace

map-same : (xs : List ℕ) → map (λ x. x) xs ≡ xs
map-same [] = refl
map-same (x ∷ xs) = ap (λ ys. x ∷ ys) (map-same xs)

range-more : (n : ℕ) → range_with_len 1 (n + 1) ≡ range_with_len 1 n ++ suc n ∷ []
range-more n = sym (map-same (range_with_len 1 (n + 1))) ∙ map-range_with_len_more (λ x. x) 1 n (suc n) (omega arith) ∙ ap (λ xs. xs ++ suc n ∷ []) (map-same (range_with_len 1 n))

-- one more need
serves-more : (t : Setting) (xs : List ℕ) (m d refs nums : ℕ) (before mid now : Moment) → ServesAll t xs before mid → Needs t mid m d refs nums → ServesNeed t m d refs nums mid now → ServesAll t (xs ++ m ∷ []) before now
serves-more t [] m d refs nums before mid now all needs serves =
    (d, refs, nums, now, subst (λ (x : Moment). Needs t x m d refs nums) all needs, subst (λ (x : Moment). ServesNeed t m d refs nums x now) all serves, refl)
serves-more t (x ∷ xs) m d refs nums before mid now all needs serves =
    (all.0, all.1, all.2, all.3, all.4, all.5, serves-more t xs m d refs nums all.3 mid now all.6 needs serves)

-- the needs of the first i mutators
abbrev pub needs_below : List PartEnd → ℕ → List ℕ
needs_below ends i = filter (λ m. is_at_need (causes ends m)) (range_with_len 1 i)

needs-more : (ends : List PartEnd) (i : ℕ) (b : Bool) → is_at_need (cause_of (slice_get ends i)) ≡ b → needs_below ends (i + 1) ≡ needs_below ends i ++ cond b (suc i ∷ []) []
needs-more ends i b is = ap (filter (λ m. is_at_need (causes ends m))) (range-more i) ∙ filter-append (λ m. is_at_need (causes ends m)) (range_with_len 1 i) (suc i ∷ [])
    ∙ ap (λ x. needs_below ends i ++ cond x (suc i ∷ []) []) is

-- the end of the next part, served or no need
serves-next : {P : Type 0} (rules : Rules) (ends : List PartEnd) (i : ℕ) (e : PartEnd) (manager : Manager P) (t : Setting) (before mid now : Moment) → slice_get ends i ≡ Some e → StandsAt rules manager t mid
    → ((need : Need) → e ≡ end.Need need → NeedsNext manager (i + 1) need) → ServesAll t (needs_below ends i) before mid → ServesEnd t (i + 1) e mid now → ServesAll t (needs_below ends (i + 1)) before now
serves-next rules ends i (end.Need need) manager t before mid now here stands next all serves =
    let at : i + 1 ≡ suc i = omega arith in
    let p = (next need refl).1 i refl in
    let needs : Needs t mid (suc i) need.register need.refs need.nums = next-is rules manager t mid i p.0 stands p.1 ∙ p.2 in
    subst (λ (xs : List ℕ). ServesAll t xs before now) (sym (needs-more ends i true (ap (λ o. is_at_need (cause_of o)) here)))
    (serves-more t (needs_below ends i) (suc i) need.register need.refs need.nums before mid now all needs
    (subst (λ (m : ℕ). ServesNeed t m need.register need.refs need.nums mid now) at serves))
serves-next rules ends i end.Gc manager t before mid now here stands next all serves =
    subst (λ (xs : List ℕ). ServesAll t xs before now) (sym (needs-more ends i false (ap (λ o. is_at_need (cause_of o)) here) ∙ append-nil (needs_below ends i))) (subst (ServesAll t (needs_below ends i) before) (sym serves) all)
serves-next rules ends i end.Meet manager t before mid now here stands next all serves =
    subst (λ (xs : List ℕ). ServesAll t xs before now) (sym (needs-more ends i false (ap (λ o. is_at_need (cause_of o)) here) ∙ append-nil (needs_below ends i))) (subst (ServesAll t (needs_below ends i) before) (sym serves) all)
serves-next rules ends i end.Trace manager t before mid now here stands next all serves =
    subst (λ (xs : List ℕ). ServesAll t xs before now) (sym (needs-more ends i false (ap (λ o. is_at_need (cause_of o)) here) ∙ append-nil (needs_below ends i))) (subst (ServesAll t (needs_below ends i) before) (sym serves) all)
serves-next rules ends i (end.Raised by) manager t before mid now here stands next all serves =
    subst (λ (xs : List ℕ). ServesAll t xs before now) (sym (needs-more ends i false (ap (λ o. is_at_need (cause_of o)) here) ∙ append-nil (needs_below ends i))) (subst (ServesAll t (needs_below ends i) before) (sym serves) all)

-- what the loop keeps: the ends of the first i mutators are served, and the others have no reply more
pub record ServesBelow {P : Type 0} (rules : Rules) (first : Manager P) (ends : List PartEnd) (i : ℕ) (manager : Manager P) : Type 0 where
  pub order : IsInOrder rules 0 manager
  pub count : length manager.progress.items ≡ length first.progress.items
  pub later : (k : ℕ) → i ≤ k → slice_get manager.progress.items k ≡ slice_get first.progress.items k
  pub replies : replied first.progress.items ≤ replied manager.progress.items
  pub serves : (t : Setting) (now : Moment) → StandsAt rules first t now → (mid : Moment) × ServesAll t (needs_below ends i) now mid × StandsAt rules manager t mid

module _ {P : Type 0} (rules : Rules) (first : Manager P) (ends : List PartEnd) (i : ℕ) (manager : Manager P) (below : ServesBelow rules first ends i manager) (stop : IsAtStop rules 0 first) where
  pub stop-below : IsAtStop rules 0 manager
  stop-below = let served = below.serves stop.setting stop.now stop.stands in
      record { order = below.order; setting = stop.setting; now = served.0; stands = served.2 }

  module _ (e : PartEnd) (here : slice_get ends i ≡ Some e) (count : length ends ≡ length first.progress.items) (needs : AreNeeds first.progress.items ends) where
    pub next-below : (m : ℕ) → m ≡ i + 1 → (need : Need) → e ≡ end.Need need → NeedsNext manager m need
    next-below m at need is = (
      (omega arith),
      λ k at'.
          let place : k ≡ i = omega arith in
          let inside : i < length first.progress.items = (let within : i < length ends = get-below ends i e here in omega arith) in
          let p = get-some first.progress.items i inside in
          (p.0, subst (λ (j : ℕ). slice_get manager.progress.items j ≡ Some p.0) (sym place) (below.later i (omega arith) ∙ p.1), needs i p.0 need p.1 (here ∙ ap (λ x. Some x) is)),
    )

    pub below-more : (next : Manager P) → IsInOrder rules 0 next → ((t : Setting) (now : Moment) → StandsAt rules manager t now → (late : Moment) × ServesEnd t (i + 1) e now late × StandsAt rules next t late)
        → AddsReply manager (i + 1) next → ServesBelow rules first ends (i + 1) next
    below-more next order serves adds = record {
      order = order;
      count = adds.count ∙ below.count;
      later = λ k above. adds.others k (λ e'. omega arith) ∙ below.later k (omega arith);
      replies = (let before : replied first.progress.items ≤ replied manager.progress.items = below.replies in let after : replied manager.progress.items ≤ replied next.progress.items = adds.replied in omega arith);
      serves = λ t now stands.
          let mid = below.serves t now stands in
          let late = serves t mid.0 mid.2 in
          (late.0, serves-next rules ends i e manager t now mid.0 late.0 here mid.2 (next-below (i + 1) refl) mid.1 late.1, late.2);
    }

pub serves-all : {P : Type 0} (rules : Rules) (first last : Manager P) (ends : List PartEnd) (n : ℕ) → n ≡ length ends → length ends ≡ length first.progress.items → ServesBelow rules first ends n last
    → (t : Setting) (now : Moment) → StandsAt rules first t now → (mid : Moment) × ServesAll t (filter (λ m. is_at_need (causes ends m)) (traced_mutators t)) now mid × StandsAt rules last t mid
serves-all rules first last ends n is count below t now stands =
    let many : length t.traces ≡ length first.progress.items = ap length stands.traces ∙ length-map first.progress.items (λ (p : Progress). p.trace) in
    let same : n ≡ length t.traces = omega arith in
    let served = below.serves t now stands in
    (served.0, subst (λ (k : ℕ). ServesAll t (needs_below ends k) now served.0) same served.1, served.2)
