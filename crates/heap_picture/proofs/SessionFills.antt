-- The kinds of a session's blocks are those that its plan has.
use Rattle.std.proofs.Common.{◌≡◌, refl, sym, ◌∙◌, ap, subst, ℕ, ◌+◌, ◌-◌, ◌*◌, ◌%◌, ◌<◌, ◌≤◌, arith, inl, inr, Bool, true, false, ◌&&◌, ◌||◌, nat_eq, nat_lt, List, [], ◌∷◌}
use Rattle.std.specs.Prelude.{◌⊎◌}
use Rattle.std.proofs.lemmas.Bool.{and_parts, and_right, cases_Bool, cases_eq, cases_lt, ne_eqb, true≢false}
use Rattle.heap_layout.specs.Blocks.{code_of, kind_code}
use Rattle.heap_layout.specs.Zones.{block_at}
use Rattle.heap_layout.specs.declared.block.Kind.{Kind}
use Rattle.heap_layout.specs.declared.block.Kind.TheVariants as kinds
use Rattle.heap_layout.proofs.BlockLemmas.{kind_code_most}
use Rattle.object_model.specs.Graphs.{roots_of}
use Rattle.object_model.specs.Objects.{HeapState, HasKind, block_word, blocks_for, has_kind, size_of}
use Rattle.object_model.specs.Times.{one_if}
use Rattle.object_model.specs.declared.collect.Collect.{Collect}
use Rattle.object_model.specs.declared.collect.Collect.TheVariants.{Nursery, Full}
use Rattle.object_model.proofs.HeldCounts.{below, below-none}
use Rattle.object_model.proofs.OneKind.{kind-code}
use Rattle.object_model.proofs.Zeros as zeros
use Rattle.ideal_heap.specs.Runs.{Entry}
use Rattle.sessions.specs.Plans.{Rules, rules_of}
use Rattle.sessions.specs.Collecting.{BlockAfter, CollectsIf, IsEmptied, is_defragmented, is_evacuated, is_recyclable, marked_in}
use Rattle.sessions.specs.Fitting.{class_for}
use Rattle.sessions.specs.Sessions as sessions
use Rattle.sessions.specs.Sessions.{CollectsFor, FirstTry, InSession, IsEpoch, MakesCollection, MeetsIf, Moment, OnlyReplies, Places, ServesAll, ServesNeed, Setting, UsesBlock, UsesRun, block_of_kind}
use Rattle.command_line.specs.Orders.{plan_in}
use Rattle.command_line.specs.declared.order.PlanName.{PlanName}
use Rattle.command_line.specs.declared.order.PlanName.TheVariants as plans
use Rattle.heap_picture.specs.Reading.{strange_in}
use Rattle.heap_picture.specs.Sessions.{kinds_of}

low-byte : (k class v : ℕ) → k ≤ 8 → v ≡ k + 256 * class + 65536 * 0 → v % 256 ≡ k
low-byte k class v small is = omega arith

-- the codes of the kinds that a plan's blocks may have
module _ (t : Setting) (may : ℕ → Bool) (free : may 0 ≡ true) (head : may 6 ≡ true) (tail : may 7 ≡ true) (fill : may (kind_code t.rules.fill) ≡ true)
    (copy : may (kind_code t.rules.copy) ≡ true)
    (keep : (kind : Collect) (s : HeapState) (k : ℕ) → is_evacuated t.rules kind s k ≡ true → (HasKind s k kinds.Immix → ⊥) → may 8 ≡ true) where
  abbrev Known : HeapState → Type 0
  Known s = (k : ℕ) → k < s.blocks → may (block_word s k % 256) ≡ true

  of-kind : (s : HeapState) (k : ℕ) (kind : Kind) → may (kind_code kind) ≡ true → HasKind s k kind → may (block_word s k % 256) ≡ true
  of-kind s k kind is has = ap may (kind-code s k kind has) ∙ is

  of-word : (s : HeapState) (k class : ℕ) (kind : Kind) → may (kind_code kind) ≡ true → block_word s k ≡ code_of (block_of_kind kind class) → may (block_word s k % 256) ≡ true
  of-word s k class kind is word = ap may (low-byte (kind_code kind) class (block_word s k) (kind_code_most kind) word) ∙ is

  as-before : (old new : HeapState) (k : ℕ) → block_word new k ≡ block_word old k → may (block_word old k % 256) ≡ true → may (block_word new k % 256) ≡ true
  as-before old new k same was = ap (λ v. may (v % 256)) same ∙ was

  of-block : (kind : Collect) (old new : HeapState) (k : ℕ) → may (block_word old k % 256) ≡ true → BlockAfter t.rules kind old new k → may (block_word new k % 256) ≡ true
  of-block kind old new k was block = elim (cases_Bool (may (block_word new k % 256))) as (λ _. may (block_word new k % 256) ≡ true) [
    | inl is ↦ is
    | inr not ↦ (
        let used : IsEmptied new k → ⊥ = λ empty. true≢false (sym (of-kind new k kinds.Free free (block.emptied empty)) ∙ not) in
        elim (cases_Bool (has_kind old k kinds.Free)) as (λ _. may (block_word new k % 256) ≡ true) [
          | inl was_free ↦ of-kind new k t.rules.copy copy (block.taken used was_free)
          | inr not_free ↦ elim (cases_Bool (is_evacuated t.rules kind old k)) as (λ _. may (block_word new k % 256) ≡ true) [
            | inl leaves ↦ elim (cases_Bool (has_kind old k kinds.Immix)) as (λ _. may (block_word new k % 256) ≡ true) [
              | inl lined ↦ as-before old new k (block.others used (λ has. true≢false (sym has ∙ not_free)) (λ _. lined)) was
              | inr unlined ↦ (
                  let other : HasKind old k kinds.Immix → ⊥ = λ has. true≢false (sym has ∙ unlined) in
                  of-kind new k kinds.Kept (keep kind old k leaves other) (block.kept used leaves other (λ has. true≢false (sym has ∙ not_free))))
            ]
            | inr stays ↦ as-before old new k (block.others used (λ has. true≢false (sym has ∙ not_free)) (λ leaves. absurd (true≢false (sym leaves ∙ stays)))) was
          ]
        ])
  ]

  of-collection : (collects : Bool) (kind : Collect) (old new : HeapState) (roots after : List ℕ) → CollectsIf collects t.rules t.workers kind old roots new after → Known old → Known new
  of-collection true kind old new roots after made known k low =
      let in_old : k < old.blocks = subst (λ (n : ℕ). k < n) made.layout low in
      of-block kind old new k (known k in_old) (made.block k in_old)
  of-collection false kind old new roots after counts known k low = subst Known (sym counts.heap) known k low

  of-part : (old new : HeapState) → new.blocks ≡ old.blocks → ((k : ℕ) → k < old.blocks → (HasKind old k kinds.Free × HasKind new k t.rules.fill) ⊎ (block_word new k ≡ block_word old k)) → Known old → Known new
  of-part old new blocks each known k low =
      let in_old : k < old.blocks = subst (λ (n : ℕ). k < n) blocks low in
      elim (each k in_old) as (λ _. may (block_word new k % 256) ≡ true) [
        | inl filled ↦ of-kind new k t.rules.fill fill filled.1
        | inr same ↦ as-before old new k same (known k in_old)
      ]

  of-used : (old new : HeapState) (used words : ℕ) → new.blocks ≡ old.blocks → UsesBlock t.rules old new used words → Known old → Known new
  of-used old new used words blocks uses known k low =
      let in_old : k < old.blocks = subst (λ (n : ℕ). k < n) blocks low in
      elim (cases_eq k used) as (λ _. may (block_word new k % 256) ≡ true) [
        | inl same ↦ subst (λ (j : ℕ). may (block_word new j % 256) ≡ true) (sym same) (elim (cases_Bool (has_kind old used kinds.Free)) as (λ _. may (block_word new used % 256) ≡ true) [
          | inl was_free ↦ of-word new used (class_for t.rules.fill words) t.rules.fill fill (uses.free was_free)
          | inr not_free ↦ as-before old new used (uses.hole (λ has. true≢false (sym has ∙ not_free))) (known used (subst (λ (j : ℕ). j < old.blocks) same in_old))
        ])
        | inr differ ↦ as-before old new k (uses.others k in_old differ) (known k in_old)
      ]

  of-run : (old new : HeapState) (used n : ℕ) → new.blocks ≡ old.blocks → UsesRun old new used n → Known old → Known new
  of-run old new used n blocks uses known k low =
      let in_old : k < old.blocks = subst (λ (m : ℕ). k < m) blocks low in
      elim (cases_lt k used) as (λ _. may (block_word new k % 256) ≡ true) [
        | inl before ↦ as-before old new k (uses.others k in_old (inl before)) (known k in_old)
        | inr from ↦ elim (cases_lt k (used + n)) as (λ _. may (block_word new k % 256) ≡ true) [
          | inr after ↦ as-before old new k (uses.others k in_old (inr after)) (known k in_old)
          | inl within ↦ elim (cases_eq k used) as (λ _. may (block_word new k % 256) ≡ true) [
            | inl same ↦ subst (λ (j : ℕ). may (block_word new j % 256) ≡ true) (sym same) (of-word new used n kinds.LargeHead head uses.head)
            | inr differ ↦ (
                let at : used + (k - used) ≡ k = omega (arith, from) in
                subst (λ (j : ℕ). may (block_word new j % 256) ≡ true) at
                (of-word new (used + (k - used)) 0 kinds.LargeTail tail (uses.tails (k - used) (omega (arith, from, differ)) (omega (arith, from, within)))))
          ]
        ]
      ]

  same : (before now : Moment) → now ≡ before → Known before.heap → Known now.heap
  same before now is known = subst (λ (x : Moment). Known x.heap) (sym is) known

  replied : (es : List Entry) (before now : Moment) → OnlyReplies es before now → Known before.heap → Known now.heap
  replied es before now replies known = subst (λ (x : Moment). Known x.heap) (sym replies.rest) known

  made : (kind : Collect) (before now : Moment) → MakesCollection t kind before now → Known before.heap → Known now.heap
  made kind before now makes known = of-collection t.rules.collects kind before.heap now.heap (roots_of before.mutators) (roots_of now.mutators) makes.collection known

  tried : (words : ℕ) (kind : Collect) (before mid : Moment) → FirstTry t words kind before mid → Known before.heap → Known mid.heap
  tried words Full before mid nothing known = same before mid nothing known
  tried words Nursery before mid try known = made Nursery before mid try.0 known

  placed : (m d refs nums : ℕ) (before now : Moment) → Places t m d refs nums before now → Known before.heap → Known now.heap
  placed m d refs nums before now places known = elim (cases_lt 2048 (size_of refs nums)) as (λ _. Known now.heap) [
    | inl large ↦ of-run before.heap now.heap (block_at before.heap.blocks places.place) (blocks_for (size_of refs nums)) places.layout.0 (places.large large).1 known
    | inr small ↦ of-used before.heap now.heap (block_at before.heap.blocks places.place) (size_of refs nums) places.layout.0 (places.small small).1 known
  ]

  served : (m d refs nums : ℕ) (before now : Moment) → ServesNeed t m d refs nums before now → Known before.heap → Known now.heap
  served m d refs nums before now (sessions.at_once places) known = placed m d refs nums before now places known
  served m d refs nums before now (sessions.after_nursery mid no_fit first makes places) known = placed m d refs nums mid now places (made Nursery before mid makes known)
  served m d refs nums before now (sessions.after_full mid late no_fit first makes places) known = placed m d refs nums late now places (made Full mid late makes (tried _ _ before mid first known))
  served m d refs nums before now (sessions.refused mid late no_fit first makes no_fit_after replies) known = replied _ late now replies (made Full mid late makes (tried _ _ before mid first known))

  served-all : (ms : List ℕ) (before now : Moment) → ServesAll t ms before now → Known before.heap → Known now.heap
  served-all [] before now nothing known = same before now nothing known
  served-all (m ∷ ms) before now (d, refs, nums, mid, need, serves, rest) known = served-all ms mid now rest (served m d refs nums before mid serves known)

  collected : (ms : List ℕ) (before now : Moment) → CollectsFor t ms before now → Known before.heap → Known now.heap
  collected [] before now nothing known = same before now nothing known
  collected (m ∷ ms) before now (mid, makes, replies) known = replied _ mid now replies (made Full before mid makes known)

  met : (all : Bool) (ms : List ℕ) (before now : Moment) → MeetsIf all ms before now → Known before.heap → Known now.heap
  met true ms before now replies known = replied _ before now replies known
  met false ms before now nothing known = same before now nothing known

  epoch-known : (before now : Moment) → IsEpoch t before now → Known before.heap → Known now.heap
  epoch-known before now epoch known =
      met _ _ epoch.served now epoch.meet
      (served-all _ epoch.collected epoch.served epoch.needs
      (collected _ epoch.stop epoch.collected epoch.gc
      (of-part before.heap epoch.stop.heap epoch.part.stopped.blocks epoch.part.stopped.in_block known)))

  session-known : (now : Moment) → InSession t now → Known now.heap
  session-known now sessions.begun = λ k low. ap (λ v. may (v % 256)) (zeros.zero_word t.blocks _) ∙ free
  session-known now (sessions.longer before session epoch) = epoch-known before now epoch (session-known before session)

  -- there is no block of another kind
  pub no-blocks : (now : Moment) → InSession t now → (code : ℕ) → may code ≡ false → below (λ k. one_if (nat_lt k now.heap.blocks && nat_eq (block_word now.heap k % 256) code)) now.heap.blocks ≡ 0
  no-blocks now session code not =
      let none : (k : ℕ) → k < now.heap.blocks → one_if (nat_lt k now.heap.blocks && nat_eq (block_word now.heap k % 256) code) ≡ 0 = λ k low.
      ap one_if (and_right (nat_lt k now.heap.blocks) (nat_eq (block_word now.heap k % 256) code)
      (ne_eqb (block_word now.heap k % 256) code (λ is. true≢false (sym (session-known now session k low) ∙ ap may is ∙ not)))) in
      below-none (λ k. one_if (nat_lt k now.heap.blocks && nat_eq (block_word now.heap k % 256) code)) now.heap.blocks none

-- the codes of the kinds that a plan fills or leaves
abbrev own : PlanName → ℕ → Bool
own plans.NoGc v = nat_eq v 1
own plans.MarkSweep v = nat_eq v 5
own plans.SemiSpace v = nat_eq v 1 || nat_eq v 8
own plans.GenCopy v = nat_eq v 2 || nat_eq v 3 || nat_eq v 8
own plans.Immix v = nat_eq v 4
own plans.StickyImmix v = nat_eq v 4

abbrev codes-of : PlanName → ℕ → Bool
codes-of plan v = nat_eq v 0 || nat_eq v 6 || nat_eq v 7 || own plan v

-- a plan with lines leaves Immix blocks alone
lined-alone : (kind : Collect) (s : HeapState) (k : ℕ) → is_defragmented kind s k ≡ true → HasKind s k kinds.Immix
lined-alone Full s k is =
    let first = and_parts (is_recyclable s k) _ is in
    let both = and_parts (has_kind s k kinds.Immix && nat_lt 0 (marked_in s k)) _ first.0 in
    (and_parts (has_kind s k kinds.Immix) (nat_lt 0 (marked_in s k)) both.0).0
lined-alone Nursery s k is = absurd (true≢false (sym is))

-- the blocks of one kind that the plan has none of
none-of : (t : Setting) (plan : PlanName) (last : Moment) → t.rules ≡ rules_of (plan_in plan) → InSession t last → codes-of plan (kind_code t.rules.fill) ≡ true → codes-of plan (kind_code t.rules.copy) ≡ true
    → ((kind : Collect) (s : HeapState) (k : ℕ) → is_evacuated t.rules kind s k ≡ true → (HasKind s k kinds.Immix → ⊥) → codes-of plan 8 ≡ true)
    → (code : ℕ) → codes-of plan code ≡ false → below (λ k. one_if (nat_lt k last.heap.blocks && nat_eq (block_word last.heap k % 256) code)) last.heap.blocks ≡ 0
none-of t plan last same session fill copy keep code not = no-blocks t (codes-of plan) refl refl refl fill copy keep last session code not

pub known-kinds : (t : Setting) (plan : PlanName) (last : Moment) → t.rules ≡ rules_of (plan_in plan) → InSession t last → strange_in plan (kinds_of last.heap) ≡ 0
known-kinds t plans.NoGc last same session =
    let none = none-of t plans.NoGc last same session (ap (λ (r : Rules). codes-of plans.NoGc (kind_code r.fill)) same) (ap (λ (r : Rules). codes-of plans.NoGc (kind_code r.copy)) same)
    (λ kind s k leaves other. absurd (true≢false (sym leaves ∙ ap (λ (r : Rules). is_evacuated r kind s k) same))) in
    let a = none 2 refl in
    let b = none 3 refl in
    let c = none 4 refl in
    let d = none 5 refl in
    let e = none 8 refl in
    omega (arith, a, b, c, d, e)
known-kinds t plans.MarkSweep last same session =
    let none = none-of t plans.MarkSweep last same session (ap (λ (r : Rules). codes-of plans.MarkSweep (kind_code r.fill)) same) (ap (λ (r : Rules). codes-of plans.MarkSweep (kind_code r.copy)) same)
    (λ kind s k leaves other. absurd (true≢false (sym leaves ∙ ap (λ (r : Rules). is_evacuated r kind s k) same))) in
    let a = none 1 refl in
    let b = none 2 refl in
    let c = none 3 refl in
    let d = none 4 refl in
    let e = none 8 refl in
    omega (arith, a, b, c, d, e)
known-kinds t plans.SemiSpace last same session =
    let none = none-of t plans.SemiSpace last same session (ap (λ (r : Rules). codes-of plans.SemiSpace (kind_code r.fill)) same) (ap (λ (r : Rules). codes-of plans.SemiSpace (kind_code r.copy)) same) (λ kind s k leaves other. refl) in
    let a = none 2 refl in
    let b = none 3 refl in
    let c = none 4 refl in
    let d = none 5 refl in
    omega (arith, a, b, c, d)
known-kinds t plans.GenCopy last same session =
    let none = none-of t plans.GenCopy last same session (ap (λ (r : Rules). codes-of plans.GenCopy (kind_code r.fill)) same) (ap (λ (r : Rules). codes-of plans.GenCopy (kind_code r.copy)) same) (λ kind s k leaves other. refl) in
    let a = none 1 refl in
    let b = none 4 refl in
    let c = none 5 refl in
    omega (arith, a, b, c)
known-kinds t plans.Immix last same session =
    let none = none-of t plans.Immix last same session (ap (λ (r : Rules). codes-of plans.Immix (kind_code r.fill)) same) (ap (λ (r : Rules). codes-of plans.Immix (kind_code r.copy)) same)
    (λ kind s k leaves other. absurd (other (lined-alone kind s k (sym (ap (λ (r : Rules). is_evacuated r kind s k) same) ∙ leaves)))) in
    let a = none 1 refl in
    let b = none 2 refl in
    let c = none 3 refl in
    let d = none 5 refl in
    let e = none 8 refl in
    omega (arith, a, b, c, d, e)
known-kinds t plans.StickyImmix last same session =
    let none = none-of t plans.StickyImmix last same session (ap (λ (r : Rules). codes-of plans.StickyImmix (kind_code r.fill)) same) (ap (λ (r : Rules). codes-of plans.StickyImmix (kind_code r.copy)) same)
    (λ kind s k leaves other. absurd (other (lined-alone kind s k (sym (ap (λ (r : Rules). is_evacuated r kind s k) same) ∙ leaves)))) in
    let a = none 1 refl in
    let b = none 2 refl in
    let c = none 3 refl in
    let d = none 5 refl in
    let e = none 8 refl in
    omega (arith, a, b, c, d, e)
