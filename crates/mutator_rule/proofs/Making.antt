-- Each step keeps the rule: one proof for every event of the mutator machine.
use Rattle.std.proofs.Common.{◌≡◌, ◌≢◌, ℕ, zero, suc, ◌+◌, ◌<◌, ◌≤◌, true, false, nat_eq, List, [], ◌∷◌, ◌++◌, inl, inr, refl, ap, sym, ◌∙◌, subst, ⊎_elim, arith}
use Rattle.std.specs.Prelude.{slice_index, slice_set}
use Rattle.std.proofs.lemmas.List.{set-get_or}
use Rattle.std.proofs.lemmas.Bool.{cases_eq, eqb-true, eqb-false}
use Rattle.std.specs.List.{Contains}
use mathlib.Core.Option.{some, some-injective, some-ne-none}
use lib.ListN.{get_elem?}
use Rattle.atomic_table.specs.Table.{State, Me, Act, Valid, keeps, Allows, stepped, carried_after}
use Rattle.atomic_table.proofs.Lists.{at_set}
use Rattle.object_model.specs.Graphs.{numbers_of}
use Rattle.sessions.specs.Plans.{Rules}
use Rattle.mutator_core.specs.declared.state.Local.{Local}
use Rattle.mutator_core.specs.declared.state.LogEntry.{LogEntry}
use Rattle.mutator_core.specs.declared.state.Event.{Event}
use Rattle.mutator_core.specs.Machine.{Epoch, Machine, first_machine, word_of_event, stored, answer, local_after, found, next, answer_at}
use Rattle.mutator_core.specs.Guards.{MayStep}
use Rattle.mutator_core.specs.Histories.{IsLog}
use Rattle.mutator_core.specs.Logs.{IsEpochLog, machine_after, local_after_log}
use Rattle.mutator_rule.specs.declared.views.EpochStart.{EpochStart}
use Rattle.mutator_rule.specs.declared.views.MutatorView.{MutatorView}
use Rattle.mutator_rule.specs.Views.{epoch_with, first_of, views_of, times_in, steps_by}
use Rattle.mutator_rule.specs.Logs.{times_dealt, AgreesWithLog, Agrees, HasOneLog, MakesStepIn, MakesStep, MakesStepAlone, LeavesWord, StaysInRow, entry_for}
use Rattle.mutator_rule.proofs.Pushes.{after-push, log-push, other-push, steps-append, prefix-push, prefix-self, nothing-more, own-state, other-state, counted}
use Rattle.mutator_rule.proofs.Totals.{total_set, total_one, total_two, parts_one, parts_has}
use Rattle.mutator_rule.proofs.Moments.{number, inside-row}

-- where one seat has the part of m, no other has
alone : (rules : Rules) (g : EpochStart) (s : State (Unit {0}) (List MutatorView)) (id j m n : ℕ) (v u : List MutatorView) → HasOneLog rules g s → get_elem? s.views id ≡ some v → get_elem? s.views j ≡ some u → j ≢ id
    → 0 < views_of m v → 0 < views_of n u → m ≢ n
alone rules g s id j m n v u kept at there ne mine theirs same =
    let two : views_of n v + views_of n u ≤ times_dealt n s.views = total_two (λ (x : List MutatorView). views_of n x) s.views id j v u ne at there in
    let own : 0 < views_of n v = subst (λ k. 0 < views_of k v) same mine in
    let all = kept.views n in
    let most = kept.apart n in
    omega (arith, all, most)

-- what a view says stays true when another mutator's step is added
grown : (rules : Rules) (g : EpochStart) (log : List LogEntry) (e : LogEntry) (q : MutatorView) → e.mutator ≢ q.local.number → Agrees rules g log q → Agrees rules g (log ++ e ∷ []) q
grown rules g log e q ne fits = (
  fits.0,
  record {
    prefix = prefix-push q.seen log e fits.1.prefix;
    own = other-push q.local.number log e ne ∙ fits.1.own;
    local = fits.1.local ∙ sym (other-state (epoch_with rules g) log e q.local.number ne);
  },
)

only : {A : Type 0} (B : A → Type 0) (a : A) → B a → (k : ℕ) (p : A) → get_elem? (a ∷ []) k ≡ some p → B p
only B a b zero p e = subst B (some-injective a p e) b
only B a b (suc k) p e = absurd (some-ne-none p (sym e))

abbrev moved : Epoch → List ℕ → Local → Event → List ℕ
moved p row l x = slice_set row (word_of_event p l x) (stored p l x (slice_index row (word_of_event p l x)))

pub moves : (rules : Rules) (g : EpochStart) (slots id : ℕ) (me : Me (Unit {0}) (List MutatorView)) (x : Event) → (first_of me.0).start ≡ g → MayStep (epoch_with rules g) (first_of me.0).local x → me.0 ≡ first_of me.0 ∷ []
    → Allows (HasOneLog rules g) slots id me (word_of_event (epoch_with rules g) (first_of me.0).local x) (stored (epoch_with rules g) (first_of me.0).local x)
    (λ n now. MakesStepIn (epoch_with rules g) (first_of me.0) x n (first_of now.0) × (now.0 ≡ first_of now.0 ∷ []) × (now.1 ≡ me.1))
moves rules g slots id me x start may one s rule homes at small =
    let p : Epoch = epoch_with rules g in
    let a : MutatorView = first_of me.0 in
    let l : Local = a.local in
    let m : ℕ = l.number in
    let n : ℕ = slice_index s.words (word_of_event p l x) in
    let e : LogEntry = entry_for p a x n in
    let log : List LogEntry = rule.log ++ e ∷ [] in
    let here : get_elem? me.0 0 ≡ some a = subst (λ (v : List MutatorView). get_elem? v 0 ≡ some a) (sym one) refl in
    let fit : AgreesWithLog p rule.log a = (rule.agree id me.0 at 0 a here).1 in
    let h : Machine = machine_after p rule.log in
    let loc : h.locals m ≡ l = sym fit.local in
    let words : h.words ≡ s.words = rule.words in
    let has : views_of m me.0 ≡ 1 = ap (views_of m) one ∙ parts_one m a refl in
    let counts : times_in m (numbers_of p.mutators) ≡ 1 = (let all = rule.views m in let most = rule.apart m in omega (arith, has, all, most, total_one (λ (v : List MutatorView). views_of m v) s.views id me.0 at)) in
    let known : Contains (numbers_of p.mutators) m = counted m (numbers_of p.mutators) (omega (arith, counts)) in
    let may' : MayStep p (h.locals m) x = subst (λ (k : Local). MayStep p k x) (sym loc) may in
    let find : found p h m x ≡ n = λ k. slice_index (words k) (word_of_event p (loc k) x) in
    let right : e.answer ≡ answer_at p h m x = λ k. answer p (sym loc k) x (sym find k) in
    let steps : IsLog p (first_machine p) log = log-push p (first_machine p) rule.log e rule.epoch.steps known may' right in
    let epoch : IsEpochLog p rule.ideal log = record { ready = rule.epoch.ready; represents = rule.epoch.represents; steps = steps } in
    let after : machine_after p log ≡ next p h m x = after-push p (first_machine p) rule.log e in
    let row : (machine_after p log).words ≡ moved p s.words l x = ap (λ (k : Machine). k.words) after ∙ (λ k. moved p (words k) (loc k) x) in
    let now : local_after_log p log m ≡ local_after p l x n = own-state p rule.log e ∙ (λ k. local_after p (loc k) x (find k)) in
    let q : MutatorView = record { start = a.start; seen = log; local = local_after p l x n } in
    let same : q.local.number ≡ m = sym (ap (λ (k : Local). k.number) now) ∙ number p rule.ideal log epoch m in
    let still : (j : ℕ) → views_of j (q ∷ []) ≡ views_of j me.0 = λ j. (λ k. count_of j (same k)) ∙ sym (ap (views_of j) one) in
    let fits : Agrees rules g log q = (start, record { prefix = prefix-self log; own = refl; local = sym now ∙ ap (local_after_log p log) (sym same) }) in (
      q ∷ [],
      keeps,
      tt,
      record {
        log = log;
        ideal = rule.ideal;
        epoch = epoch;
        words = row;
        differ = rule.differ;
        apart = rule.apart;
        views = λ j. (let all = rule.views j in omega (arith, all, still j, total_set (λ (v : List MutatorView). views_of j v) s.views id me.0 (q ∷ []) at));
        agree = λ j u e'. ⊎_elim
            (λ (t : (j ≡ id) × (q ∷ [] ≡ u)). subst (λ (v : List MutatorView). (k : ℕ) (q' : MutatorView) → get_elem? v k ≡ some q' → Agrees rules g log q') t.1 (only (Agrees rules g log) q fits))
            (λ (t : (j ≢ id) × (get_elem? s.views j ≡ some u)) k q' at'. grown rules g rule.log e q'
            (alone rules g s id j m q'.local.number me.0 u rule at t.1 t.0 (omega (arith, has)) (parts_has q'.local.number u k q' at' refl))
            (rule.agree j u t.1 k q' at'))
            (at_set s.views id j (q ∷ []) u e');
      },
      (
        (record {
          start = refl;
          between = fit.prefix.0;
          others = nothing-more (steps_by m a.seen) (steps_by m fit.prefix.0) (sym (steps-append m a.seen fit.prefix.0) ∙ ap (steps_by m) fit.prefix.1 ∙ fit.own);
          seen = ap (λ v. v ++ e ∷ []) (sym fit.prefix.1);
          before = ap (λ v. local_after_log p v m) fit.prefix.1 ∙ loc;
          word = sym find ∙ ap (λ v. found p (machine_after p v) m x) (sym fit.prefix.1);
          local = refl;
          number = same;
          told = record {
            ideal = rule.ideal;
            epoch = epoch;
            now = sym now ∙ ap (local_after_log p log) (sym same);
            known = subst (Contains (numbers_of p.mutators)) (sym same) known;
            inside = subst (λ (k : Local). StaysInRow p k) now (inside-row p rule.ideal log epoch m known);
          };
        }),
        refl,
        refl,
      ),
    )
  where
    count_of : ℕ → ℕ → ℕ
    count_of j k = views_of j (record { start = (first_of me.0).start; seen = []; local = record (first_of me.0).local { number = k } } ∷ [])

-- the same where the step is written in other words
abbrev pub ToldOf : Rules → MutatorView → Event → ℕ → Me (Unit {0}) (List MutatorView) → Me (Unit {0}) (List MutatorView) → Type 0
ToldOf rules a x n me now = MakesStep rules a x n (first_of now.0) × (now.0 ≡ first_of now.0 ∷ []) × (now.1 ≡ me.1)

pub makes : (rules : Rules) (g : EpochStart) (slots id : ℕ) (me : Me (Unit {0}) (List MutatorView)) (x : Event) (i : ℕ) (f : ℕ → ℕ)
    → (first_of me.0).start ≡ g → MayStep (epoch_with rules (first_of me.0).start) (first_of me.0).local x
    → word_of_event (epoch_with rules (first_of me.0).start) (first_of me.0).local x ≡ i → stored (epoch_with rules (first_of me.0).start) (first_of me.0).local x ≡ f → me.0 ≡ first_of me.0 ∷ []
    → Allows (HasOneLog rules g) slots id me i f (λ n now. ToldOf rules (first_of me.0) x n me now)
makes rules g slots id me x i f start may here turns one =
    subst (λ (h : EpochStart). Allows (HasOneLog rules h) slots id me i f (λ n now. ToldOf rules (first_of me.0) x n me now)) start
    (subst (λ (z : ℕ × (ℕ → ℕ)). Allows (HasOneLog rules (first_of me.0).start) slots id me z.0 z.1 (λ n now. ToldOf rules (first_of me.0) x n me now))
    (λ k. (here k, turns k)) (moves rules (first_of me.0).start slots id me x refl may one))

-- a store, which does not find the word before
pub stores : (rules : Rules) (g : EpochStart) (slots id : ℕ) (me : Me (Unit {0}) (List MutatorView)) (x : Event) (i v : ℕ)
    → (first_of me.0).start ≡ g → MayStep (epoch_with rules (first_of me.0).start) (first_of me.0).local x
    → word_of_event (epoch_with rules (first_of me.0).start) (first_of me.0).local x ≡ i → stored (epoch_with rules (first_of me.0).start) (first_of me.0).local x ≡ (λ (n : ℕ). v) → me.0 ≡ first_of me.0 ∷ []
    → Allows (HasOneLog rules g) slots id me i (λ n. v) (λ n now. ((n : ℕ) × MakesStep rules (first_of me.0) x n (first_of now.0)) × (now.0 ≡ first_of now.0 ∷ []) × (now.1 ≡ me.1))
stores rules g slots id me x i v start may here turns one s rule homes at small =
    let t = makes rules g slots id me x i (λ n. v) start may here turns one s rule homes at small in
    (t.0, t.1, t.2, t.3, ((slice_index s.words i, t.4.0), t.4.1, t.4.2))

-- where nothing is stored, and the seat keeps its views, the rule stays
stays : (rules : Rules) (g : EpochStart) (id i : ℕ) (me : Me (Unit {0}) (List MutatorView)) (s : State (Unit {0}) (List MutatorView)) → HasOneLog rules g s → get_elem? s.views id ≡ some me.0
    → HasOneLog rules g (stepped s i (slice_index s.words i) id me.1 me.0 keeps)
stays rules g id i me s rule at = record {
  log = rule.log;
  ideal = rule.ideal;
  epoch = rule.epoch;
  words = rule.words ∙ sym (set-get_or s.words i 0);
  differ = rule.differ;
  apart = rule.apart;
  views = λ j. (let all = rule.views j in omega (arith, all, total_set (λ (v : List MutatorView). views_of j v) s.views id me.0 me.0 at));
  agree = λ j u e'. ⊎_elim
      (λ (t : (j ≡ id) × (me.0 ≡ u)). rule.agree id u (at ∙ ap some t.1))
      (λ (t : (j ≢ id) × (get_elem? s.views j ≡ some u)). rule.agree j u t.1)
      (at_set s.views id j me.0 u e');
}

-- the step if it leaves the word, and else nothing
abbrev pub IfLeft : Rules → Me (Unit {0}) (List MutatorView) → Event → ℕ → Me (Unit {0}) (List MutatorView) → Type 0
IfLeft rules me x n now = (LeavesWord rules (first_of me.0) x n → MakesStepAlone rules me x n now) × ((LeavesWord rules (first_of me.0) x n → ⊥) → now ≡ me)

-- a load, which is the step if it finds the word that the step stores, and else nothing
pub finds : (rules : Rules) (g : EpochStart) (slots id : ℕ) (me : Me (Unit {0}) (List MutatorView)) (x : Event) (i v : ℕ)
    → (first_of me.0).start ≡ g → MayStep (epoch_with rules (first_of me.0).start) (first_of me.0).local x
    → word_of_event (epoch_with rules (first_of me.0).start) (first_of me.0).local x ≡ i → stored (epoch_with rules (first_of me.0).start) (first_of me.0).local x ≡ (λ (n : ℕ). v) → me.0 ≡ first_of me.0 ∷ []
    → Allows (HasOneLog rules g) slots id me i (λ n. n) (λ n now. IfLeft rules me x n now)
finds rules g slots id me x i v start may here turns one s rule homes at small =
    let n : ℕ = slice_index s.words i in
    let t = makes rules g slots id me x i (λ n. v) start may here turns one s rule homes at small in
    let is : stored (epoch_with rules (first_of me.0).start) (first_of me.0).local x n ≡ v = λ k. turns k n in
    elim (cases_eq n v) as (λ _. (w : List MutatorView) × (a : Act (Unit {0})) × Valid s.homes me.1 a × HasOneLog rules g (stepped s i n id me.1 w a)
    × IfLeft rules me x n (w, carried_after me.1 a)) [
      | inl same ↦ (t.0, t.1, t.2, subst (λ (k : ℕ). HasOneLog rules g (stepped s i k id me.1 t.0 t.1)) (sym same) t.3, ((λ _. t.4), λ other. absurd (other (is ∙ sym same))))
      | inr other ↦ (me.0, keeps, tt, stays rules g id i me s rule at, ((λ same. absurd (other (sym same ∙ is))), λ _. refl))
    ]

-- what holds after the step, and held before, holds after such a load
pub kept-by-finding : (rules : Rules) (me now : Me (Unit {0}) (List MutatorView)) (x : Event) (n v : ℕ) (Q : Me (Unit {0}) (List MutatorView) → Type 0)
    → stored (epoch_with rules (first_of me.0).start) (first_of me.0).local x ≡ (λ (k : ℕ). v) → IfLeft rules me x n now → (MakesStepAlone rules me x n now → Q now) → Q me → Q now
kept-by-finding rules me now x n v Q turns told made before = elim (cases_eq n v) as (λ _. Q now) [
  | inl same ↦ made (told.0 ((λ k. turns k n) ∙ sym same))
  | inr other ↦ subst Q (sym (told.1 (λ left. other (sym left ∙ (λ k. turns k n))))) before
]

pub found-stored : (rules : Rules) (me now : Me (Unit {0}) (List MutatorView)) (x : Event) (n v : ℕ) → stored (epoch_with rules (first_of me.0).start) (first_of me.0).local x ≡ (λ (k : ℕ). v) → IfLeft rules me x n now
    → nat_eq n v ≡ true → MakesStep rules (first_of me.0) x v (first_of now.0)
found-stored rules me now x n v turns told is =
    let same : n ≡ v = eqb-true n v is in
    subst (λ k. MakesStep rules (first_of me.0) x k (first_of now.0)) same (told.0 ((λ k. turns k n) ∙ sym same)).0

pub found-other : (rules : Rules) (me now : Me (Unit {0}) (List MutatorView)) (x : Event) (n v : ℕ) → stored (epoch_with rules (first_of me.0).start) (first_of me.0).local x ≡ (λ (k : ℕ). v) → IfLeft rules me x n now
    → nat_eq n v ≡ false → now ≡ me
found-other rules me now x n v turns told isnt =
    told.1 (λ left. eqb-false n v isnt (sym left ∙ (λ k. turns k n)))
