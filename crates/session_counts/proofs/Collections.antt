-- The collections of a session: of the nursery only with young objects and after a full one, a full one for each `full` reply, and of each kind no more than commands.
use Rattle.std.proofs.Common.{◌≡◌, refl, sym, ◌∙◌, ap, subst, ℕ, suc, ◌+◌, ◌*◌, ◌<◌, ◌≤◌, arith, Bool, true, false, ◌&&◌, nat_le, nat_lt, add-zero, List, [], ◌∷◌, ◌++◌, length}
use Rattle.std.specs.Prelude.{if◌then◌else◌}
use Rattle.std.specs.List.{AllByRecursion, count_by, list_any, range_with_len}
use Rattle.std.proofs.lemmas.Bool.{and_parts, ltb-true, true≢false}
use Rattle.std.proofs.lemmas.List.{length-append}
use Rattle.std.proofs.lemmas.List.Sums.{sum_by-append, sum_by-cons}
use Rattle.ideal_heap.specs.declared.command.Command.{Command}
use Rattle.ideal_heap.specs.declared.command.Command.TheVariants as c
use Rattle.ideal_heap.specs.declared.reply.Reply.TheVariants as r
use Rattle.ideal_heap.specs.Runs.{Entry, is_full}
use Rattle.object_model.specs.declared.collect.Collect.{Collect}
use Rattle.object_model.specs.declared.collect.Collect.TheVariants.{Nursery, Full}
use Rattle.object_model.specs.Objects.{HeapState, name_at, size_of}
use Rattle.sessions.specs.Plans.{Rules}
use Rattle.sessions.specs.Collecting.{first_collection, has_young, young_blocks}
use Rattle.sessions.specs.Fitting.{used_of}
use Rattle.sessions.specs.Sessions as sessions
use Rattle.sessions.specs.Sessions.{CollectsFor, FirstTry, InSession, IsEpoch, IsOfPart, MakesCollection, MeetsIf, Moment, OnlyReplies, Places, ServesAll, ServesNeed, Setting, all_done, refused_entry}
use Rattle.sessions.proofs.StopSteps.{full-counts, nursery-counts}
use Rattle.object_model.specs.Times.{one_if}

abbrev pub refused-in : List Entry → ℕ
refused-in es = count_by (λ (e : Entry). is_full e.reply) es

refused-one : (e : Entry) → refused-in (e ∷ []) ≡ one_if (is_full e.reply)
refused-one e = sum_by-cons (λ (x : Entry). one_if (is_full x.reply)) e [] ∙ add-zero (one_if (is_full e.reply))

none-done : (command : Command) (ms : List ℕ) → refused-in (all_done command ms) ≡ 0
none-done command [] = refl
none-done command (m ∷ ms) =
    let e : Entry = record { mutator = m; command = command; reply = r.Done } in
    let here : refused-in (all_done command (m ∷ ms)) ≡ 0 + refused-in (all_done command ms) = sum_by-cons (λ (x : Entry). one_if (is_full x.reply)) e (all_done command ms) in
    let rest : refused-in (all_done command ms) ≡ 0 = none-done command ms in
    omega (arith, here, rest)

none-of-part : (es : List Entry) → AllByRecursion IsOfPart es → refused-in es ≡ 0
none-of-part [] each = refl
none-of-part (e ∷ es) each =
    let here : refused-in (e ∷ es) ≡ one_if (is_full e.reply) + refused-in es = sum_by-cons (λ (x : Entry). one_if (is_full x.reply)) e es in
    let own : one_if (is_full e.reply) ≡ 0 = ap one_if each.0.full in
    let rest : refused-in es ≡ 0 = none-of-part es each.1 in
    omega (arith, here, own, rest)

-- so many nursery and full collections were made for replies that are to come
pub record Fair (young : Bool) (a b : ℕ) (now : Moment) : Type 0 where
  pub none : young ≡ false → now.nursery ≡ 0
  pub first : 0 < now.nursery → 0 < now.full
  pub base : 0 < now.heap.base → 0 < now.full
  pub nursery : now.nursery ≤ length now.done + a
  pub full : now.full ≤ length now.done + b
  pub refused : refused-in now.done + b ≤ now.full

-- replies come
answered : (young : Bool) (a b : ℕ) (es : List Entry) (before now : Moment) → now.done ≡ before.done ++ es → now.nursery ≡ before.nursery → now.full ≡ before.full → now.heap.base ≡ before.heap.base
    → refused-in es ≤ b → a ≤ length es → b ≤ length es → Fair young a b before → Fair young 0 0 now
answered young a b es before now done nursery full base few many more fair =
    let long : length now.done ≡ length before.done + length es = ap length done ∙ length-append before.done es in
    let sum : refused-in now.done ≡ refused-in before.done + refused-in es = ap refused-in done ∙ sum_by-append (λ (x : Entry). one_if (is_full x.reply)) before.done es in
    let n : before.nursery ≤ length before.done + a = fair.nursery in
    let f : before.full ≤ length before.done + b = fair.full in
    let x : refused-in before.done + b ≤ before.full = fair.refused in
    record {
      none = λ is. nursery ∙ fair.none is;
      first = λ some. let made : 0 < before.full = fair.first (omega (arith, some, nursery)) in omega (arith, made, full);
      base = λ some. let made : 0 < before.full = fair.base (omega (arith, some, base)) in omega (arith, made, full);
      nursery = omega (arith, n, nursery, long, many);
      full = omega (arith, f, full, long, more);
      refused = omega (arith, x, full, sum, few);
    }

replied : (young : Bool) (a b : ℕ) (es : List Entry) (before now : Moment) → OnlyReplies es before now → refused-in es ≤ b → a ≤ length es → b ≤ length es → Fair young a b before → Fair young 0 0 now
replied young a b es before now replies few many more fair =
    answered young a b es before now (ap (λ (x : Moment). x.done) replies.rest) (ap (λ (x : Moment). x.nursery) replies.rest) (ap (λ (x : Moment). x.full) replies.rest)
    (ap (λ (x : Moment). x.heap.base) replies.rest) few many more fair

full-made : (young : Bool) (a b : ℕ) (t : Setting) (before now : Moment) → MakesCollection t Full before now → Fair young a b before → Fair young a (b + 1) now
full-made young a b t before now makes fair =
    let counts = full-counts t before now makes in
    let nursery : now.nursery ≡ before.nursery = counts.0 in
    let full : now.full ≡ before.full + 1 = counts.1 in
    let done : length now.done ≡ length before.done = ap length makes.done in
    let refused : refused-in now.done ≡ refused-in before.done = ap refused-in makes.done in
    let n : before.nursery ≤ length before.done + a = fair.nursery in
    let f : before.full ≤ length before.done + b = fair.full in
    let x : refused-in before.done + b ≤ before.full = fair.refused in
    record {
      none = λ is. nursery ∙ fair.none is;
      first = λ some. omega (arith, full);
      base = λ some. omega (arith, full);
      nursery = omega (arith, n, nursery, done);
      full = omega (arith, f, full, done);
      refused = omega (arith, x, full, refused);
    }

nursery-made : (young : Bool) (a b : ℕ) (t : Setting) (before now : Moment) → young ≡ true → 0 < before.heap.base → MakesCollection t Nursery before now → Fair young a b before → Fair young (a + 1) b now
nursery-made young a b t before now is based makes fair =
    let counts = nursery-counts t before now makes in
    let nursery : now.nursery ≡ before.nursery + 1 = counts.0 in
    let full : now.full ≡ before.full = counts.1 in
    let done : length now.done ≡ length before.done = ap length makes.done in
    let refused : refused-in now.done ≡ refused-in before.done = ap refused-in makes.done in
    let n : before.nursery ≤ length before.done + a = fair.nursery in
    let f : before.full ≤ length before.done + b = fair.full in
    let x : refused-in before.done + b ≤ before.full = fair.refused in
    let made : 0 < before.full = fair.base based in
    record {
      none = λ not. absurd (true≢false (sym is ∙ not));
      first = λ some. omega (arith, made, full);
      base = λ some. omega (arith, made, full);
      nursery = omega (arith, n, nursery, done);
      full = omega (arith, f, full, done);
      refused = omega (arith, x, full, refused);
    }

-- a nursery collection is tried first only with young objects and a base
picks : (b : Bool) → (if b then Nursery else Full) ≡ Nursery → b ≡ true
picks true e = refl
picks false e = (let wrong : Full ≡ Nursery = e in cc)

first-is : (rules : Rules) (s : HeapState) → first_collection rules s ≡ Nursery → (rules.young ≡ true) × (0 < s.base)
first-is rules s e =
    let all = and_parts (rules.young && nat_lt 0 s.base && list_any (has_young rules s) (range_with_len 0 s.blocks)) (nat_le (used_of s) (4 * young_blocks rules s)) (picks _ e) in
    let some = and_parts (rules.young && nat_lt 0 s.base) (list_any (has_young rules s) (range_with_len 0 s.blocks)) all.0 in
    let both = and_parts rules.young (nat_lt 0 s.base) some.0 in
    (both.0, ltb-true 0 s.base both.1)

one-more : (young : Bool) (now : Moment) → Fair young 0 0 now → Fair young 1 0 now
one-more young now fair =
    let n : now.nursery ≤ length now.done + 0 = fair.nursery in
    record { none = fair.none; first = fair.first; base = fair.base; nursery = omega (arith, n); full = fair.full; refused = fair.refused }

module _ (t : Setting) where
  abbrev FairAt : Moment → Type 0
  FairAt now = Fair t.rules.young 0 0 now

  same : (before now : Moment) → now ≡ before → FairAt before → FairAt now
  same before now is fair = subst FairAt (sym is) fair

  tried : (words : ℕ) (kind : Collect) (before mid : Moment) → first_collection t.rules before.heap ≡ kind → FirstTry t words kind before mid → FairAt before → Fair t.rules.young 1 0 mid
  tried words Full before mid is nothing fair = one-more t.rules.young mid (same before mid nothing fair)
  tried words Nursery before mid is try fair =
      let first = first-is t.rules before.heap is in
      nursery-made t.rules.young 0 0 t before mid first.0 first.1 try.0 fair

  placed : (m d refs nums a b : ℕ) (before now : Moment) → a ≤ 1 → b ≤ 1 → Places t m d refs nums before now → Fair t.rules.young a b before → FairAt now
  placed m d refs nums a b before now few low places fair =
      let e : Entry = record { mutator = m; command = c.New d refs nums; reply = r.New (name_at now.heap places.place) } in
      let none : refused-in (e ∷ []) ≡ 0 = refused-one e in
      answered t.rules.young a b (e ∷ []) before now places.done places.counts.0 places.counts.1 places.layout.2 (omega (arith, none)) (omega (arith, few)) (omega (arith, low)) fair

  served : (m d refs nums : ℕ) (before now : Moment) → ServesNeed t m d refs nums before now → FairAt before → FairAt now
  served m d refs nums before now (sessions.at_once places) fair = placed m d refs nums 0 0 before now (omega arith) (omega arith) places fair
  served m d refs nums before now (sessions.after_nursery mid no_fit first makes places) fair =
      let is = first-is t.rules before.heap first in
      placed m d refs nums 1 0 mid now (omega arith) (omega arith) places (nursery-made t.rules.young 0 0 t before mid is.0 is.1 makes fair)
  served m d refs nums before now (sessions.after_full mid late no_fit first makes places) fair =
      placed m d refs nums 1 1 late now (omega arith) (omega arith) places (full-made t.rules.young 1 0 t mid late makes (tried (size_of refs nums) (first_collection t.rules before.heap) before mid refl first fair))
  served m d refs nums before now (sessions.refused mid late no_fit first makes no_fit_after replies) fair =
      let e : Entry = refused_entry m d refs nums in
      let is : refused-in (e ∷ []) ≡ 1 = refused-one e in
      replied t.rules.young 1 1 (e ∷ []) late now replies (omega (arith, is)) (omega arith) (omega arith)
      (full-made t.rules.young 1 0 t mid late makes (tried (size_of refs nums) (first_collection t.rules before.heap) before mid refl first fair))

  served-all : (ms : List ℕ) (before now : Moment) → ServesAll t ms before now → FairAt before → FairAt now
  served-all [] before now nothing fair = same before now nothing fair
  served-all (m ∷ ms) before now (d, refs, nums, mid, need, serves, rest) fair = served-all ms mid now rest (served m d refs nums before mid serves fair)

  collected : (ms : List ℕ) (before now : Moment) → CollectsFor t ms before now → FairAt before → FairAt now
  collected [] before now nothing fair = same before now nothing fair
  collected (m ∷ ms) before now (mid, makes, replies) fair =
      let none : refused-in (all_done c.Gc (m ∷ ms)) ≡ 0 = none-done c.Gc (m ∷ ms) in
      let more : length (all_done c.Gc (m ∷ ms)) ≡ suc (length (all_done c.Gc ms)) = refl in
      replied t.rules.young 0 1 (all_done c.Gc (m ∷ ms)) mid now replies (omega (arith, none)) (omega arith) (omega (arith, more)) (full-made t.rules.young 0 0 t before mid makes fair)

  met : (all : Bool) (ms : List ℕ) (before now : Moment) → MeetsIf all ms before now → FairAt before → FairAt now
  met true ms before now replies fair =
      let none : refused-in (all_done c.Meet ms) ≡ 0 = none-done c.Meet ms in
      replied t.rules.young 0 0 (all_done c.Meet ms) before now replies (omega (arith, none)) (omega arith) (omega arith) fair
  met false ms before now nothing fair = same before now nothing fair

  epoch-fair : (before now : Moment) → IsEpoch t before now → FairAt before → FairAt now
  epoch-fair before now epoch fair =
      let none : refused-in epoch.part.part ≡ 0 = none-of-part epoch.part.part epoch.part.each in
      met _ _ epoch.served now epoch.meet
      (served-all _ epoch.collected epoch.served epoch.needs
      (collected _ epoch.stop epoch.collected epoch.gc
      (answered t.rules.young 0 0 epoch.part.part before epoch.stop epoch.part.done epoch.part.counts.0 epoch.part.counts.1 epoch.part.stopped.base (omega (arith, none)) (omega arith) (omega arith) fair)))

  pub session-fair : (now : Moment) → InSession t now → Fair t.rules.young 0 0 now
  session-fair now sessions.begun = record {
    none = λ is. refl;
    first = λ some. absurd (omega (arith, some));
    base = λ some. absurd (omega (arith, some));
    nursery = omega arith;
    full = omega arith;
    refused = omega arith;
  }
  session-fair now (sessions.longer before session epoch) = epoch-fair before now epoch (session-fair before session)
