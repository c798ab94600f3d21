-- Laws of what collections preserve, of counts and of grants.
use Rattle.std.proofs.Common.{◌≡◌, ◌↔◌, ◌*◌, ◌-◌, ◌/◌, ◌≤◌, refl, sym, ◌∙◌, ap, subst, ℕ, ◌+◌, ◌<◌, arith, nat_le, ◌⊎◌, inl, inr, Bool, true, false, ◌&&◌, not, List, [], ◌∷◌, ◌++◌}
use Rattle.std.proofs.lemmas.Bool.{true≢false, lt-leb}
use Rattle.std.proofs.lemmas.List.{append_cancel_left}
use Rattle.ideal_heap.specs.declared.command.Command.TheVariants as c
use Rattle.ideal_heap.specs.declared.reply.Reply.TheVariants as r
use Rattle.ideal_heap.specs.Runs.{Entry, is_full}
use Rattle.object_model.specs.Objects.{HeapState, is_pinned, size_of, size_at, name_at}
use Rattle.object_model.specs.declared.collect.Collect.{Collect}
use Rattle.object_model.specs.declared.collect.Collect.TheVariants.{Nursery, Full}
use Rattle.sessions.specs.Plans.{Rules, Reserve}
use Rattle.sessions.specs.Grants.{reserve_in, reserve_per_block}
use Rattle.std.proofs.Math.Nat.{le-div_iff_mul-le}
use Rattle.sessions.specs.Fitting.{Fits, MayGrant, allowance_of, free_of, counts_of, headroom_of}
use Rattle.sessions.specs.Collecting.{Collects, CollectsIf, IsCollection, base_after, is_evacuated}
use Rattle.heap_layout.specs.Zones.{block_at}
use Rattle.sessions.proofs.CountedCollections.{counts-one}
use Rattle.sessions.specs.Sessions as sessions
use Rattle.sessions.specs.Sessions.{Setting, Moment, OnlyReplies, MakesCollection, CollectsFor, FirstTry, ServesNeed, ServesAll, MeetsIf, InSession, IsEpoch, refused_entry}

-- objects that stay

-- a test fails if one of its parts fails
none-moves : (x y z w : Bool) → (x ≡ false) ⊎ (y ≡ false) ⊎ (z ≡ true) ⊎ (w ≡ false) → x && (y && not z && w) ≡ false
none-moves false y z w part = refl
none-moves true false z w part = refl
none-moves true true true w part = refl
none-moves true true false false part = refl
none-moves true true false true (inl e) = absurd (true≢false e)
none-moves true true false true (inr (inl e)) = absurd (true≢false e)
none-moves true true false true (inr (inr (inl e))) = absurd (true≢false (sym e))
none-moves true true false true (inr (inr (inr e))) = absurd (true≢false e)

pub stays : (rules : Rules) (workers : ℕ) (kind : Collect) (old new : HeapState) (roots after : List ℕ) → (k : Collects rules workers kind old roots new after) → (a : ℕ)
    → 0 < k.target a → (rules.moves ≡ false) ⊎ (is_evacuated rules kind old (block_at old.blocks a) ≡ false) ⊎ (is_pinned old a ≡ true) ⊎ (2048 < size_at old a) → k.target a ≡ a
stays rules workers kind old new roots after k a held part =
    k.kept.stays a held (none-moves rules.moves (is_evacuated rules kind old (block_at old.blocks a)) (is_pinned old a) (nat_le (size_at old a) 2048)
    (elim part as (λ _. (rules.moves ≡ false) ⊎ (is_evacuated rules kind old (block_at old.blocks a) ≡ false) ⊎ (is_pinned old a ≡ true) ⊎ (nat_le (size_at old a) 2048 ≡ false)) [
      | inl still ↦ inl still
      | inr rest ↦ elim rest as (λ _. (rules.moves ≡ false) ⊎ (is_evacuated rules kind old (block_at old.blocks a) ≡ false) ⊎ (is_pinned old a ≡ true) ⊎ (nat_le (size_at old a) 2048 ≡ false)) [
        | inl elsewhere ↦ inr (inl elsewhere)
        | inr last ↦ elim last as (λ _. (rules.moves ≡ false) ⊎ (is_evacuated rules kind old (block_at old.blocks a) ≡ false) ⊎ (is_pinned old a ≡ true) ⊎ (nat_le (size_at old a) 2048 ≡ false)) [
          | inl pinned ↦ inr (inr (inl pinned))
          | inr large ↦ inr (inr (inr (lt-leb (size_at old a) 2048 large)))
        ]
      ]
    ]))

-- a refused need

abbrev first_full : List Entry → Bool
first_full [] = false
first_full (e ∷ es) = is_full e.reply

not-full : (prefix : List Entry) (x y : Entry) (P : Type 0) → is_full x.reply ≡ false → is_full y.reply ≡ true → prefix ++ x ∷ [] ≡ prefix ++ y ∷ [] → P
not-full prefix x y P other whole e = let wrong : is_full x.reply ≡ is_full y.reply = ap first_full (append_cancel_left prefix (x ∷ []) (y ∷ []) e) in let clash : false ≡ true = sym other ∙ wrong ∙ whole in cc

tried-done : (t : Setting) (size : ℕ) (kind : Collect) (before mid : Moment) → FirstTry t size kind before mid → (mid.done ≡ before.done) × (mid.full ≡ before.full)
tried-done t size Full before mid same = (ap (λ (x : Moment). x.done) same, ap (λ (x : Moment). x.full) same)
tried-done t size Nursery before mid makes = (makes.0.done, ap (λ p. p.1) makes.0.counts)

abbrev allocation : ℕ → ℕ → ℕ → ℕ → Moment → ℕ → Entry
allocation m d refs nums now place = record { mutator = m; command = c.New d refs nums; reply = r.New (name_at now.heap place) }

pub refused-late : (t : Setting) (m d refs nums : ℕ) (before now : Moment) → ServesNeed t m d refs nums before now → now.done ≡ before.done ++ refused_entry m d refs nums ∷ []
    → (Fits t.rules now.heap (size_of refs nums) → ⊥) × (now.full ≡ before.full + 1)
refused-late t m d refs nums before now (sessions.at_once places) e = not-full before.done (allocation m d refs nums now places.place) (refused_entry m d refs nums) _ refl refl (sym places.done ∙ e)
refused-late t m d refs nums before now (sessions.after_nursery mid no_fit first makes places) e =
    not-full before.done (allocation m d refs nums now places.place) (refused_entry m d refs nums) _ refl refl (subst (λ (l : List Entry). l ++ allocation m d refs nums now places.place ∷ [] ≡ before.done ++ refused_entry m d refs nums ∷ []) makes.done (sym places.done ∙ e))
refused-late t m d refs nums before now (sessions.after_full mid late no_fit first makes places) e =
    not-full before.done (allocation m d refs nums now places.place) (refused_entry m d refs nums) _ refl refl (subst (λ (l : List Entry). l ++ allocation m d refs nums now places.place ∷ [] ≡ before.done ++ refused_entry m d refs nums ∷ []) (makes.done ∙ (tried-done t _ _ before mid first).0) (sym places.done ∙ e))
refused-late t m d refs nums before now (sessions.refused mid late no_fit first makes no_fit_after replies) e = (
  subst (λ (x : Moment). Fits t.rules x.heap (size_of refs nums) → ⊥) (sym replies.rest) no_fit_after,
  ap (λ (x : Moment). x.full) replies.rest ∙ ap (λ p. p.1) makes.counts ∙ ap (λ n. n + 1) (tried-done t _ _ before mid first).1,
)

-- collections that are counted

abbrev Count : Moment → Type 0
Count now = now.heap.number ≡ now.nursery + now.full

replied : (es : List Entry) (before now : Moment) → OnlyReplies es before now → Count before → Count now
replied es before now replies count = subst (λ (x : Moment). Count x) (sym replies.rest) count

kept : (before now : Moment) → now.heap.number ≡ before.heap.number → now.nursery ≡ before.nursery → now.full ≡ before.full → Count before → Count now
kept before now number nursery full count = omega (arith, number, nursery, full, count)

collected : (t : Setting) (kind : Collect) (before now : Moment) → MakesCollection t kind before now → Count before → Count now
collected t Nursery before now makes count =
    let number : now.heap.number ≡ before.heap.number + 1 = (counts-one _ _ _ _ _ _ _ makes.collection).0 in
    let nursery : now.nursery ≡ before.nursery + 1 = ap (λ p. p.0) makes.counts in
    let full : now.full ≡ before.full = ap (λ p. p.1) makes.counts in
    omega (arith, number, nursery, full, count)
collected t Full before now makes count =
    let number : now.heap.number ≡ before.heap.number + 1 = (counts-one _ _ _ _ _ _ _ makes.collection).0 in
    let nursery : now.nursery ≡ before.nursery = ap (λ p. p.0) makes.counts in
    let full : now.full ≡ before.full + 1 = ap (λ p. p.1) makes.counts in
    omega (arith, number, nursery, full, count)

same : (before now : Moment) → now ≡ before → Count before → Count now
same before now e count = subst (λ (x : Moment). Count x) (sym e) count

collects : (t : Setting) (ms : List ℕ) (before now : Moment) → CollectsFor t ms before now → Count before → Count now
collects t [] before now nothing count = same before now nothing count
collects t (m ∷ ms) before now (mid, makes, replies) count = replied _ mid now replies (collected t _ before mid makes count)

tried : (t : Setting) (size : ℕ) (kind : Collect) (before now : Moment) → FirstTry t size kind before now → Count before → Count now
tried t size Full before now nothing count = same before now nothing count
tried t size Nursery before now makes count = collected t _ before now makes.0 count

served : (t : Setting) (m d refs nums : ℕ) (before now : Moment) → ServesNeed t m d refs nums before now → Count before → Count now
served t m d refs nums before now (sessions.at_once places) count = kept before now places.layout.1 places.counts.0 places.counts.1 count
served t m d refs nums before now (sessions.after_nursery mid no_fit first makes places) count = kept mid now places.layout.1 places.counts.0 places.counts.1 (collected t _ before mid makes count)
served t m d refs nums before now (sessions.after_full mid late no_fit first makes places) count =
    kept late now places.layout.1 places.counts.0 places.counts.1 (collected t _ mid late makes (tried t _ _ before mid first count))
served t m d refs nums before now (sessions.refused mid late no_fit first makes no_fit_after replies) count =
    replied _ late now replies (collected t _ mid late makes (tried t _ _ before mid first count))

served-all : (t : Setting) (ms : List ℕ) (before now : Moment) → ServesAll t ms before now → Count before → Count now
served-all t [] before now nothing count = same before now nothing count
served-all t (m ∷ ms) before now (d, refs, nums, mid, need, serves, rest) count = served-all t ms mid now rest (served t m d refs nums before mid serves count)

met : (all : Bool) (ms : List ℕ) (before now : Moment) → MeetsIf all ms before now → Count before → Count now
met true ms before now replies count = replied _ before now replies count
met false ms before now nothing count = same before now nothing count

epoch-count : (t : Setting) (before now : Moment) → IsEpoch t before now → Count before → Count now
epoch-count t before now epoch count =
    met _ _ epoch.served now epoch.meet
    (served-all t _ epoch.collected epoch.served epoch.needs
    (collects t _ epoch.stop epoch.collected epoch.gc
    (kept before epoch.stop epoch.part.stopped.number epoch.part.counts.0 epoch.part.counts.1 count)))

pub session-count : (t : Setting) (now : Moment) → InSession t now → now.heap.number ≡ now.nursery + now.full
session-count t now sessions.begun = refl
session-count t now (sessions.longer before session epoch) = epoch-count t before now epoch (session-count t before session)

-- grants and bases

pub grant-allowed : (reserve : Reserve) (s : HeapState) → MayGrant reserve s ↔ (1 ≤ allowance_of reserve s)
grant-allowed reserve s =
    let each : ℕ = 1 + reserve_per_block reserve in
    let held : ℕ = reserve_in reserve (counts_of s) in
    let one : (1 ≤ (free_of s - held) / each) ↔ (1 * each ≤ free_of s - held) = le-div_iff_mul-le {k = each} {x = 1} {y = free_of s - held} (omega arith) in
    ((λ h. one.1 (let more : held + reserve_per_block reserve < free_of s = h in omega arith)), (λ h. let less : 1 * each ≤ free_of s - held = one.0 h in omega arith))

pub headroom-least : (s : HeapState) → s.blocks ≤ 32 * headroom_of s
headroom-least s = omega arith

base-if : (collects : Bool) (r : Rules) (workers : ℕ) (kind : Collect) (old new : HeapState) (roots after : List ℕ) → collects ≡ true → CollectsIf collects r workers kind old roots new after → new.base ≡ base_after kind new.number old.base
base-if true r workers kind old new roots after is collects = collects.base
base-if false r workers kind old new roots after is counts = let wrong : false ≡ true = is in cc

pub base-full : (r : Rules) (workers : ℕ) (old new : HeapState) (roots after : List ℕ) → r.collects ≡ true → IsCollection r workers Full old roots new after → new.base ≡ new.number
base-full r workers old new roots after is made = base-if r.collects r workers Full old new roots after is made

pub base-nursery : (r : Rules) (workers : ℕ) (old new : HeapState) (roots after : List ℕ) → r.collects ≡ true → IsCollection r workers Nursery old roots new after → new.base ≡ old.base
base-nursery r workers old new roots after is made = base-if r.collects r workers Nursery old new roots after is made
