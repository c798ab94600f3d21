-- What a step of a worker does to its accounts.
use Rattle.std.proofs.Common.{◌≡◌, ℕ, ◌+◌, ◌<◌, ◌≤◌, ◌⊎◌, inl, inr, nat_eq, IsTrue, List, [], ◌∷◌, ◌++◌, All, map, slice_index, length-append, append-nil, append_assoc, length, refl, sym, ap, ◌∙◌, subst, subst₂, arith}
use Rattle.std.proofs.lemmas.Bool.{cases_eq, eq-eqb, ne_eqb}
use Rattle.std.proofs.lemmas.List.Elements.{All-nil, All-cons, All-head, All-tail, All-append, All-push, All-weaker}
use Rattle.heap_layout.specs.Zones.{heap_of}
use Rattle.object_model.specs.Lines.{TouchesLine}
use Rattle.object_model.specs.Objects.{IsHeld}
use Rattle.object_model.specs.Times.{times, one_if}
use Rattle.trace_core.specs.Machine.{ByRoot}
use Rattle.trace_core.specs.Setups.{Setup, blocks}
use Rattle.trace_core.specs.Views.{hits}
use Rattle.trace_core.proofs.CountedRights.{times-cons, count-append}
use Rattle.trace_words.specs.Rule.{HasLined}
use Rattle.trace_words.specs.Steps.{IsDone}
use Rattle.trace_words.specs.declared.share.Share.{Share}
use Rattle.trace_table.specs.Seats.{IsSeat, IsGrey, setup_at, Keeps, Asks, Wins, Copies, Pushes, ScansNoOther}
use Rattle.trace_table.specs.declared.table.TraceTable.{TraceTable}
use Rattle.trace_table.specs.declared.table.WorkerSeat.{WorkerSeat}
use Rattle.trace_table.specs.declared.tokens.Grey.{Grey}
use Rattle.trace_table.specs.declared.tokens.Won.{Won}
use Rattle.trace_table.proofs.SeatShares.{keeps-trans}
use Rattle.racing_collector.specs.declared.racing.Racing.{Racing}
use Rattle.racing_collector.specs.declared.served.Served.{Served}
use Rattle.racing_collector.specs.Accounts.{Accounts, HasItsLines, IsGiven, IsRacer, IsServed, IsTargetOf}

abbrev objects : List Grey → List ℕ
objects l = map (λ (g : Grey). g.object) l

pub objects-append : (a b : List Grey) → objects (a ++ b) ≡ objects a ++ objects b
objects-append [] b = refl
objects-append (g ∷ a) b = ap (λ l. g.object ∷ l) (objects-append a b)

module _ {A : Type 0} where
  pub all-both : (P Q R : A → Type 0) → ((x : A) → P x → Q x → R x) → (xs : List A) → All P xs → All Q xs → All R xs
  all-both P Q R both [] ps qs = All-nil R
  all-both P Q R both (x ∷ xs) ps qs = All-cons R x xs (both x (All-head P x xs ps) (All-head Q x xs qs)) (all-both P Q R both xs (All-tail P x xs ps) (All-tail Q x xs qs))

  pub all-left : (P : A → Type 0) (xs ys : List A) → All P (xs ++ ys) → All P xs
  all-left P [] ys all = All-nil P
  all-left P (x ∷ xs) ys all = All-cons P x xs (All-head P x (xs ++ ys) all) (all-left P xs ys (All-tail P x (xs ++ ys) all))

  pub all-right : (P : A → Type 0) (xs ys : List A) → All P (xs ++ ys) → All P ys
  all-right P [] ys all = all
  all-right P (x ∷ xs) ys all = all-right P xs ys (All-tail P x (xs ++ ys) all)

module _ (r : Racing) where
  abbrev t : TraceTable
  t = r.table

  abbrev p : Setup
  p = setup_at r.table

  -- what is known stays
  pub racer-on : (s s' : WorkerSeat) → IsRacer r s → IsSeat t s' → IsDone p s'.seat.me.0 → Keeps s.seat.me.0 s'.seat.me.0 → IsRacer r s'
  racer-on s s' is seat done keeps = record { table = is.table; seat = seat; done = done; one = (keeps.parts ∙ is.one.0, keeps.token ∙ is.one.1); roots = is.roots }

  pub lines-on : (v w : Share) → Keeps v w → (x : ℕ) → HasItsLines p v x → HasItsLines p w x
  lines-on v w keeps x has = record {
    target = has.target;
    known = keeps.known x has.target has.known;
    marked = λ line touches. (let m = has.marked line touches in (m.0, m.1, keeps.lined _ m.0 m.2));
  }

  pub target-on : (v w : Share) → Keeps v w → (a b : ℕ) → IsTargetOf v a b → IsTargetOf w a b
  target-on v w keeps a b (inl none) = inl none
  target-on v w keeps a b (inr known) = inr (known.0, keeps.known a b known.1)

  served-on : (v w : Share) → Keeps v w → ((x : ℕ) → 0 < times x v.asked → 0 < times x w.asked) → (s : Served) → IsServed r v s → IsServed r w s
  served-on v w keeps asks s is = record {
    place = is.place;
    target = target-on v w keeps (slice_index r.roots.items s.place) s.target is.target;
    asked = λ some. asks (slice_index r.roots.items s.place) (is.asked some);
  }

  given-on : (v w : Share) → Keeps v w → (g : Grey) → IsGiven t v g → IsGiven t w g
  given-on v w keeps g is = record { grey = is.grey; known = keeps.known g.object g.target is.known }

  -- a step of any kind
  pub accounts-on : (v w : Share) (served : List Served) (greys pushed : List Grey) → Keeps v w
      → ((x : ℕ) → times x w.copied ≡ times x (objects pushed) + times x v.copied) → All (IsGiven t w) pushed
      → (IsTrue t.run.lines → (x k : ℕ) → 0 < hits x k w.grey → (0 < hits x k v.grey) ⊎ HasItsLines p w x)
      → ((x : ℕ) → 0 < times x v.asked → 0 < times x w.asked)
      → ((x : ℕ) → 0 < times x w.asked → (0 < times x v.asked) ⊎ ((i : ℕ) × (slice_index r.roots.items i ≡ x)))
      → Accounts r v served greys → Accounts r w served (greys ++ pushed)
  accounts-on v w served greys pushed keeps copied given lines asks by-roots was = record {
    copied = λ x. (let a = copied x in let b = was.copied x in let c : times x (objects (greys ++ pushed)) ≡ times x (objects greys ++ objects pushed) = ap (times x) (objects-append greys pushed) in
        let d = count-append (nat_eq x) (objects greys) (objects pushed) in omega arith);
    tokens = All-append (IsGiven t w) greys pushed (All-weaker (IsGiven t v) (IsGiven t w) (given-on v w keeps) greys was.tokens) given;
    lines = λ on x k has. elim (lines on x k has) as (λ _. HasItsLines p w x) [
      | inl before ↦ lines-on v w keeps x (was.lines on x k before)
      | inr now ↦ now
    ];
    roots = All-weaker (IsServed r v) (IsServed r w) (served-on v w keeps asks) served was.roots;
    by_roots = λ x some. elim (by-roots x some) as (λ _. (i : ℕ) × (slice_index r.roots.items i ≡ x)) [
      | inl before ↦ was.by_roots x before
      | inr root ↦ root
    ];
    sparse = keeps.sparse ∙ was.sparse;
  }

  -- tokens were pushed, and no root asked
  pub accounts-pushed : (v w : Share) (served : List Served) (greys a b : List Grey) → Pushes v w a b → All (IsGrey t) b
      → (IsTrue t.run.lines → (x k : ℕ) → 0 < hits x k w.grey → (0 < hits x k v.grey) ⊎ HasItsLines p w x)
      → Accounts r v served (greys ++ a) → Accounts r w served (greys ++ b)
  accounts-pushed v w served greys a b by all lines was = subst (Accounts r w served) (append_assoc greys a by.pushed ∙ ap (λ l. greys ++ l) (sym by.out))
      (accounts-on v w served (greys ++ a) by.pushed by.keeps by.copied
      (all-both (IsGrey t) (λ g. 0 < hits g.object g.target w.known) (IsGiven t w) (λ g is known. record { grey = is; known = known }) by.pushed
      (all-right (IsGrey t) a by.pushed (subst (All (IsGrey t)) by.out all)) by.targets)
      lines (λ x some. subst (λ l. 0 < times x l) (sym by.asked) some) (λ x some. inl (subst (λ l. 0 < times x l) by.asked some)) was)

  pub gave-pushed : (v w : Share) (a b : List Grey) → Pushes v w a b → w.gave + length a ≡ v.gave + length b
  gave-pushed v w a b by = let gave = by.gave in let out : length b ≡ length (a ++ by.pushed) = ap length by.out in let sum = length-append a by.pushed in omega arith

  pub gave-one : (v u w : Share) (a b : List Grey) (g : Grey) → u.gave ≡ v.gave → w.gave ≡ u.gave + 1 → b ≡ a ++ g ∷ [] → w.gave + length a ≡ v.gave + length b
  gave-one v u w a b g first last out = let more : length b ≡ length (a ++ g ∷ []) = ap length out in let sum = length-append a (g ∷ []) in omega arith

  -- a token more is that of an object that was copied
  pub copied-pushed : (v w : Share) (a b : List Grey) → Pushes v w a b → length w.copied + length a ≡ length v.copied + length b
  copied-pushed v w a b by = let many = by.many in let out : length b ≡ length (a ++ by.pushed) = ap length by.out in let sum = length-append a by.pushed in omega arith

  pub copied-one : (v u w : Share) (x : ℕ) (a b : List Grey) (g : Grey) → u.copied ≡ v.copied → w.copied ≡ x ∷ u.copied → b ≡ a ++ g ∷ [] → length w.copied + length a ≡ length v.copied + length b
  copied-one v u w x a b g first last out = let more : length b ≡ length (a ++ g ∷ []) = ap length out in let sum = length-append a (g ∷ []) in
      let before : length u.copied ≡ length v.copied = ap length first in let after : length w.copied ≡ length (x ∷ u.copied) = ap length last in omega arith

  -- an object was scanned
  pub lines-scanned : (g : Grey) (v w : Share) → IsGrey t g → 0 < hits g.object g.target w.known → ScansNoOther g.object v w
      → ((line : ℕ) → TouchesLine (blocks p) g.target g.size line → HasLined p w line)
      → (x k : ℕ) → 0 < hits x k w.grey → (0 < hits x k v.grey) ⊎ HasItsLines p w x
  lines-scanned g v w is known others marked x k has = elim (others x k has) as (λ _. (0 < hits x k v.grey) ⊎ HasItsLines p w x) [
    | inl here ↦ inr (subst (HasItsLines p w) (sym here) (record {
      target = g.target;
      known = known;
      marked = λ line touches. marked line (subst (λ n. TouchesLine (blocks p) g.target n line) (sym is.size) touches);
    }))
    | inr before ↦ inl before
  ]

  -- a root asked for an object that has its target
  asked-more : (x : ℕ) (l k : List ℕ) → k ≡ x ∷ l → ((y : ℕ) → 0 < times y l → 0 < times y k) × ((y : ℕ) → 0 < times y k → (0 < times y l) ⊎ (x ≡ y))
  asked-more x l k is = (
    (λ y some. let a = times-cons x l y in let b : times y k ≡ times y (x ∷ l) = ap (times y) is in omega arith),
    (λ y some. elim (cases_eq y x) as (λ _. (0 < times y l) ⊎ (x ≡ y)) [
      | inl e ↦ inr (sym e)
      | inr ne ↦ inl (let a = times-cons x l y in let b : times y k ≡ times y (x ∷ l) = ap (times y) is in let c = not-equal y x ne in omega arith)
    ]),
  )
    where
      not-equal : (y x : ℕ) → (y ≡ x → ⊥) → one_if (nat_eq y x) ≡ 0
      not-equal y x ne = ap one_if (ne_eqb y x ne)

  here-asked : (x : ℕ) (l k : List ℕ) → k ≡ x ∷ l → 0 < times x k
  here-asked x l k is = let a = times-cons x l x in let b : times x k ≡ times x (x ∷ l) = ap (times x) is in let c : one_if (nat_eq x x) ≡ 1 = ap one_if (eq-eqb x x refl) in omega arith

  none-copied : (x : ℕ) (v w : Share) → w.copied ≡ v.copied → times x w.copied ≡ 0 + times x v.copied
  none-copied x v w same = let e : times x w.copied ≡ times x v.copied = ap (times x) same in omega (arith, e)

  module _ (x : ℕ) (root : (i : ℕ) × (slice_index r.roots.items i ≡ x)) where
    pub accounts-asked : (v w : Share) (served : List Served) (greys : List Grey) → Asks x v w → Accounts r v served greys → Accounts r w served greys
    accounts-asked v w served greys asks was =
        let more = asked-more x v.asked w.asked asks.asked in
        subst (Accounts r w served) (append-nil greys) (accounts-on v w served greys [] asks.keeps
        (λ y. none-copied y v w asks.copied) (All-nil (IsGiven t w)) (λ on y k has. inl (subst (λ l. 0 < hits y k l) asks.grey has))
        more.0 (λ y some. elim (more.1 y some) as (λ _. (0 < times y v.asked) ⊎ ((i : ℕ) × (slice_index r.roots.items i ≡ y))) [
          | inl before ↦ inl before
          | inr here ↦ inr (root.0, root.1 ∙ here)
        ]) was)

    pub asked-now : (v w : Share) → Asks x v w → 0 < times x w.asked
    asked-now v w asks = here-asked x v.asked w.asked asks.asked

    -- it claimed and copied its object
    module _ (v u w : Share) (token : Won) (wins : Wins p x ByRoot v u token) (copies : Copies token.object u w) where
      pub keeps-won : Keeps v w
      keeps-won = keeps-trans v u w wins.keeps copies.keeps

      pub asked-won : 0 < times x w.asked
      asked-won = here-asked x v.asked w.asked (copies.asked ∙ wins.asked)

      pub accounts-won : (served : List Served) (greys a b : List Grey) (g : Grey) → g.object ≡ token.object → g.target ≡ token.target → IsGrey t g → b ≡ a ++ g ∷ []
          → Accounts r v served (greys ++ a) → Accounts r w served (greys ++ b)
      accounts-won served greys a b g object target is out was =
          let more = asked-more x v.asked w.asked (copies.asked ∙ wins.asked) in
          let same : w.grey ≡ v.grey = copies.grey ∙ wins.grey in
          let known : 0 < hits token.object token.target w.known = copies.keeps.known token.object token.target (subst (λ y. 0 < hits y token.target u.known) (sym wins.object) wins.target) in
          subst (Accounts r w served) (append_assoc greys a (g ∷ []) ∙ ap (λ l. greys ++ l) (sym out)) (accounts-on v w served (greys ++ a) (g ∷ []) keeps-won
          (λ y. (let c : times y w.copied ≡ times y (token.object ∷ u.copied) = ap (times y) copies.copied in let d = times-cons token.object u.copied y in let e = times-cons g.object [] y in
          let f : times y u.copied ≡ times y v.copied = ap (times y) wins.copied in let h : one_if (nat_eq y g.object) ≡ one_if (nat_eq y token.object) = ap (λ n. one_if (nat_eq y n)) object in omega arith))
          (All-cons (IsGiven t w) g [] (record { grey = is; known = subst₂ (λ y z. 0 < hits y z w.known) (sym object) (sym target) known }) (All-nil (IsGiven t w)))
          (λ on y k has. inl (subst (λ l. 0 < hits y k l) same has))
          more.0 (λ y some. elim (more.1 y some) as (λ _. (0 < times y v.asked) ⊎ ((i : ℕ) × (slice_index r.roots.items i ≡ y))) [
            | inl before ↦ inl before
            | inr here ↦ inr (root.0, root.1 ∙ here)
          ]) was)

      pub known-won : 0 < hits x token.target w.known
      known-won = copies.keeps.known x token.target wins.target

  pub held-some : (x : ℕ) → IsHeld p.before x → 0 < x
  held-some x there = let from : heap_of (blocks p) ≤ x = there.address.from in omega (arith, from)

  -- a root more was served
  pub accounts-served : (v : Share) (served served' : List Served) (s : Served) (greys : List Grey) → served' ≡ served ++ s ∷ [] → IsServed r v s → Accounts r v served greys → Accounts r v served' greys
  accounts-served v served served' s greys is now was = record {
    copied = was.copied;
    tokens = was.tokens;
    lines = was.lines;
    roots = subst (All (IsServed r v)) (sym is) (All-push (IsServed r v) served s was.roots now);
    by_roots = was.by_roots;
    sparse = was.sparse;
  }

  -- a root was served: nil, or one that asked
  pub served-nil : (v : Share) (place : ℕ) → place < length r.roots.items → slice_index r.roots.items place ≡ 0 → IsServed r v (record { place = place; target = 0 })
  served-nil v place inside nil = record { place = inside; target = inl (nil, refl); asked = λ some. absurd (omega arith) }

  pub served-root : (v : Share) (place target root : ℕ) → place < length r.roots.items → slice_index r.roots.items place ≡ root → IsTargetOf v root target → 0 < times root v.asked
      → IsServed r v (record { place = place; target = target })
  served-root v place target root inside is has asks = record {
    place = inside;
    target = subst (λ a. IsTargetOf v a target) (sym is) has;
    asked = λ some. subst (λ a. 0 < times a v.asked) (sym is) asks;
  }
