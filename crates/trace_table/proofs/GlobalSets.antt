-- The share of a seat that sets a global.
use Rattle.std.proofs.Common.{◌≡◌, ◌≢◌, ℕ, ◌+◌, ◌<◌, nat_eq, List, [], ◌∷◌, ◌++◌, length-append, append-nil, refl, sym, ap, ◌∙◌, subst, arith}
use Rattle.std.proofs.lemmas.Bool.{cond-true, eq-eqb}
use Rattle.object_model.specs.Objects.{IsHeld, global_at}
use Rattle.object_model.specs.Times.{times, one_if}
use Rattle.trace_core.specs.Setups.{Setup, TraceMayBegin}
use Rattle.trace_core.specs.Views.{hits, is_pair, without}
use Rattle.trace_core.proofs.CountedRights.{times-cons, count-append}
use Rattle.trace_core.proofs.Idle.{one-if-true}
use Rattle.std.specs.Prelude.{count_by}
use Rattle.trace_words.specs.declared.event.TraceEvent.TheVariants as events
use Rattle.trace_words.specs.declared.share.Share.{Share}
use Rattle.trace_words.specs.Shares.{both_shares, global_token, sets_global}
use Rattle.trace_words.specs.Steps.{IsDone}
use Rattle.trace_table.specs.declared.tokens.Grey.{Grey}
use Rattle.trace_table.specs.Seats.{MarksNoLine, is_line_mark, SameRoom, Follows, IsSetting, Scans, Sets}
use Rattle.trace_table.proofs.SeatShares.{unmarked-event}
use Rattle.trace_table.proofs.FieldScans.{scans-none, scans-followed}

-- a list has its first element
pub times-here : (g : ℕ) (l : List ℕ) → 0 < times g (g ∷ l)
times-here g l = let a = times-cons g l g in let one : one_if (nat_eq g g) ≡ 1 = one-if-true (nat_eq g g) (eq-eqb g g refl) in omega arith

module _ (p : Setup) (g : ℕ) where
  -- after a reference was followed the same global is to be set
  pub still-setting : (r u : ℕ) (v w : Share) (a b : List Grey) → IsSetting p g v → Follows r u v w a b → IsSetting p g w
  still-setting r u v w a b is by = record {
    unset = by.pushes.keeps.unset ∙ is.unset;
    won = by.won;
    rest = λ x k has. is.rest x k (subst (λ l. 0 < hits x k l) by.grey has);
  }

  -- it is set
  pub done-set : (v w : Share) → IsSetting p g v → w ≡ sets_global g v → IsDone p w
  done-set v w is set = subst (IsDone p) (sym set) (record {
    won = is.won;
    unset = ap (without (nat_eq g)) is.unset ∙ cond-true (nat_eq g g) [] (g ∷ []) (eq-eqb g g refl);
    grey = is.rest;
  })

  -- a token is taken in
  pub begins-setting : (v w : Share) → IsDone p v → w ≡ both_shares v (global_token g) → IsSetting p g w
  begins-setting v w is taken = subst (IsSetting p g) (sym taken) (record {
    unset = ap (λ l. l ++ g ∷ []) is.unset;
    won = ap (λ l. l ++ []) is.won;
    rest = λ x k has. is.grey x k (let a = count-append (is_pair x k) v.grey [] in omega arith);
  })

  -- from the token to the global that is set
  pub scans-set : (v u w : Share) (a b : List Grey) → u ≡ both_shares v (global_token g) → Sets g u w a b → IsDone p v → IsDone p w → Scans 1 v w a b
  scans-set v u w a b taken sets before after = let n : Share = sets.now in let q = sets.scans.pushes in
      let from = subst (λ (z : Share). Scans 0 z n a b) taken sets.scans in
      subst (λ (z : Share). z.unset ≡ [] → Scans 1 v z a b) (sym sets.set) (λ none. record {
        pushes = record {
          keeps = record {
            parts = from.pushes.keeps.parts ∙ (let same : v.parts + 0 ≡ v.parts = omega arith in same);
            token = from.pushes.keeps.token;
            worker = from.pushes.keeps.worker;
            numbers = from.pushes.keeps.numbers ∙ append-nil v.numbers;
            unset = none ∙ sym before.unset;
            last = from.pushes.keeps.last ∙ append-nil v.last;
            known = λ x t has. from.pushes.keeps.known x t (let c = count-append (is_pair x t) v.known [] in omega arith);
            lined = λ i m has. from.pushes.keeps.lined i m (let c = count-append (is_pair i m) v.lined [] in omega arith);
            busy = λ c has. from.pushes.keeps.busy c (let d = count-append (nat_eq c) v.busy [] in omega arith);
            sparse = from.pushes.keeps.sparse ∙ append-nil v.sparse;
          };
          pushed = from.pushes.pushed;
          targets = from.pushes.targets;
          out = from.pushes.out;
          gave = (let c = from.pushes.gave in omega arith);
          many = (let c = from.pushes.many in let d = length-append v.copied [] in omega arith);
          copied = λ x. (let c = from.pushes.copied x in let d = count-append (nat_eq x) v.copied [] in omega arith);
          asked = from.pushes.asked ∙ append-nil v.asked;
        };
        took = (let c = from.took in omega arith);
      }) after.unset

pub room-set : (g : ℕ) (v w : Share) → w ≡ sets_global g v → SameRoom v w
room-set g v w is = subst (SameRoom v) (sym is) (record { parts = refl; worker = refl; front = refl; limit = refl; filling = refl })

pub unmarked-set : (g : ℕ) (u v w : Share) → w ≡ sets_global g v → MarksNoLine u v → MarksNoLine u w
unmarked-set g u v w is before = subst (MarksNoLine u) (sym is) (unmarked-event (events.SetGlobal g) v.made refl ∙ before)

pub busy-set : (g : ℕ) (v w : Share) → w ≡ sets_global g v → w.busy ≡ v.busy
busy-set g v w is = ap (λ (u : Share). u.busy) is

pub room-taken : (g : ℕ) (v w : Share) → w ≡ both_shares v (global_token g) → SameRoom v w
room-taken g v w is = subst (SameRoom v) (sym is) (record { parts = omega arith; worker = refl; front = refl; limit = refl; filling = refl })

pub unmarked-global : (g : ℕ) (v w : Share) → w ≡ both_shares v (global_token g) → MarksNoLine v w
unmarked-global g v w is = subst (MarksNoLine v) (sym is) (ap (count_by is_line_mark) (append-nil v.made))

pub busy-taken : (g : ℕ) (v w : Share) → w ≡ both_shares v (global_token g) → w.busy ≡ v.busy
busy-taken g v w is = ap (λ (u : Share). u.busy) is ∙ append-nil v.busy

-- nil is kept, or a reference was followed, and the global set
pub sets-none : (g : ℕ) (v u w : Share) (out : List Grey) → u ≡ v → w ≡ sets_global g u → Sets g v w out out
sets-none g v u w out same is = record { now = v; scans = scans-none v out; set = is ∙ ap (sets_global g) same }

pub sets-followed : (g r t : ℕ) (u v n w : Share) (a b : List Grey) → v ≡ u → Follows r t v n a b → w ≡ sets_global g n → Sets g u w a b
sets-followed g r t u v n w a b same by is = record { now = n; scans = scans-followed r t u v n a b same by; set = is }

-- what a global refers to
module _ (p : Setup) (ready : TraceMayBegin p) (g : ℕ) (few : g < 16) (r : ℕ) (is : r ≡ global_at p.before g) where
  pub held-global : r ≢ 0 → IsHeld p.before r
  held-global some-object = subst (IsHeld p.before) (sym is) (ready.lawful.order.objects.globals g few (λ none. some-object (is ∙ none)))
