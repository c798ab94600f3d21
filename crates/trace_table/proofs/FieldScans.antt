-- The share of a seat that scans an object.
use Rattle.std.proofs.Common.{◌≡◌, ◌≢◌, ℕ, ◌+◌, ◌<◌, ◌≤◌, ◌^◌, ◌⊎◌, inl, inr, nat_eq, List, [], ◌∷◌, ◌++◌, length, length-append, append-nil, append_assoc, map, refl, sym, ap, ◌∙◌, subst, subst₂, arith}
use Rattle.std.proofs.lemmas.List.Elements.{All-nil, All-cons, All-append, All-weaker}
use Rattle.std.proofs.lemmas.Bool.{cases_Bool, cases_eq}
use Rattle.object_model.specs.Objects.{IsHeld, ref_at}
use Rattle.object_model.specs.Lawful.{IsRefField}
use Rattle.object_model.specs.Times.{times, one_if}
use Rattle.trace_core.specs.Setups.{Setup, TraceMayBegin, blocks, refs}
use Rattle.trace_core.specs.Machine.{ClaimCause, ByRoot}
use Rattle.trace_core.specs.CallEvents.{IsNoRoot}
use Rattle.trace_core.specs.Views.{hits, is_pair, without, steps_at_claim}
use Rattle.trace_core.proofs.CountedRights.{hits-here, hits-cons, hits-from, hits-without, pair-parts, times-cons, count-append}
use Rattle.trace_core.proofs.LastValues.{reference-of}
use Rattle.std.specs.Prelude.{count_by}
use Rattle.trace_words.specs.declared.event.TraceEvent.TheVariants as events
use Rattle.trace_words.specs.declared.share.Share.{Share}
use Rattle.trace_words.specs.Shares.{scans_field, both_shares, scan_token}
use Rattle.trace_words.specs.Steps.{IsDone, IsLast, MayScan}
use Rattle.trace_table.specs.declared.tokens.Grey.{Grey}
use Rattle.trace_table.specs.declared.tokens.Won.{Won}
use Rattle.trace_table.specs.Seats.{Keeps, Looks, MarksNoLine, MarksOnly, is_line_mark, SameRoom, Wins, IsWon, Copies, Pushes, Follows, IsScanning, ScansNoOther, Scans}
use Rattle.trace_table.proofs.SeatShares.{keeps-trans, looks-not, unmarked-event}
use Rattle.trace_table.proofs.Copyings.{first-gone}

-- the right to copy that a claim gives
pub won-of : (p : Setup) (x : ℕ) (cause : ClaimCause) (v w : Share) (token : Won) → Wins p x cause v w token → 0 < w.parts → IsWon p w token
won-of p x cause v w token wins live = record {
  live = live;
  won = wins.won ∙ ap (λ y. (y, steps_at_claim p y token.target) ∷ []) (sym wins.object);
  target = subst (λ y. 0 < hits y token.target w.known) (sym wins.object) wins.target;
  shape = wins.shape;
}

abbrev objects : List Grey → List ℕ
objects l = map (λ (g : Grey). g.object) l

objects-append : (a b : List Grey) → objects (a ++ b) ≡ objects a ++ objects b
objects-append [] b = refl
objects-append (g ∷ a) b = ap (λ l. g.object ∷ l) (objects-append a b)

-- nothing else is left to do once an object that a root claimed was copied
pub done-copied : (p : Setup) (x y : ℕ) (v w u : Share) (token : Won) → IsDone p v → Wins p x ByRoot v w token → Copies y w u → IsDone p u
done-copied p x y v w u token done wins copies = record {
  won = copies.won;
  unset = copies.keeps.unset ∙ wins.keeps.unset ∙ done.unset;
  grey = λ z k some. done.grey z k (subst (λ g. 0 < hits z k g) (copies.grey ∙ wins.grey) some);
}

-- nothing is pushed
pub pushes-marked : (v w : Share) (out : List Grey) → MarksOnly v w → Pushes v w out out
pushes-marked v w out looks = record {
  keeps = looks.keeps;
  pushed = [];
  targets = All-nil (λ g. 0 < hits g.object g.target w.known);
  out = sym (append-nil out);
  gave = (let a = looks.gave in omega arith);
  many = (let a : length w.copied ≡ length v.copied = ap length looks.copied in omega arith);
  copied = λ x. (let a : times x w.copied ≡ times x v.copied = ap (times x) looks.copied in omega arith);
  asked = looks.asked;
}

pub pushes-none : (v w : Share) (out : List Grey) → Looks v w → Pushes v w out out
pushes-none v w out looks = pushes-marked v w out (record { keeps = looks.keeps; gave = looks.gave; took = looks.took; won = looks.won; grey = looks.grey; copied = looks.copied; asked = looks.asked })

pub follows-known : (r t : ℕ) (v w : Share) (out : List Grey) → v.won ≡ [] → Looks v w → 0 < hits r t w.known → Follows r t v w out out
follows-known r t v w out spent looks known = record {
  pushes = pushes-none v w out looks;
  took = looks.took;
  won = looks.won ∙ spent;
  grey = looks.grey;
  unmarked = looks.unmarked;
  target = known;
}

-- an object was claimed and copied, and its token pushed
pub follows-won : (p : Setup) (r : ℕ) (cause : ClaimCause) → IsNoRoot r cause → (v w u : Share) (token : Won) (out out' : List Grey) (grey : Grey) → Wins p r cause v w token → Copies token.object w u → grey.object ≡ token.object
    → grey.target ≡ token.target → out' ≡ out ++ grey ∷ [] → Follows r token.target v u out out'
follows-won p r cause none v w u token out out' grey wins copies object target pushed = record {
  pushes = record {
    keeps = keeps-trans v w u wins.keeps copies.keeps;
    pushed = grey ∷ [];
    targets = All-cons (λ g. 0 < hits g.object g.target u.known) grey []
        (subst₂ (λ x t. 0 < hits x t u.known) (sym (object ∙ wins.object)) (sym target) (copies.keeps.known r token.target wins.target)) (All-nil (λ g. 0 < hits g.object g.target u.known));
    out = pushed;
    gave = (let a = wins.gave in let b = copies.gave in omega arith);
    many = (let a : length w.copied ≡ length v.copied = ap length wins.copied in let b : length u.copied ≡ length (token.object ∷ w.copied) = ap length copies.copied in omega arith);
    copied = λ x. (let a = times-cons token.object w.copied x in let b = times-cons grey.object [] x in let c : times x u.copied ≡ times x (token.object ∷ w.copied) = ap (times x) copies.copied in
        let d : times x w.copied ≡ times x v.copied = ap (times x) wins.copied in let e : one_if (nat_eq x grey.object) ≡ one_if (nat_eq x token.object) = ap (λ n. one_if (nat_eq x n)) object in omega arith);
    asked = copies.asked ∙ wins.asked ∙ none v.asked;
  };
  took = copies.took ∙ wins.took;
  won = copies.won;
  grey = copies.grey ∙ wins.grey;
  unmarked = copies.unmarked ∙ wins.unmarked;
  target = copies.keeps.known r token.target wins.target;
}

-- tokens pushed one after the other
pub pushes-trans : (u v w : Share) (a b c : List Grey) → Pushes u v a b → Pushes v w b c → Pushes u w a c
pushes-trans u v w a b c p q = record {
  keeps = keeps-trans u v w p.keeps q.keeps;
  pushed = p.pushed ++ q.pushed;
  targets = All-append (λ g. 0 < hits g.object g.target w.known) p.pushed q.pushed
      (All-weaker (λ g. 0 < hits g.object g.target v.known) (λ g. 0 < hits g.object g.target w.known) (λ g has. q.keeps.known g.object g.target has) p.pushed p.targets) q.targets;
  out = q.out ∙ ap (λ l. l ++ q.pushed) p.out ∙ append_assoc a p.pushed q.pushed;
  gave = (let d = p.gave in let e = q.gave in let f = length-append p.pushed q.pushed in omega arith);
  many = (let d = p.many in let e = q.many in let f = length-append p.pushed q.pushed in omega arith);
  copied = λ x. (let d = p.copied x in let e = q.copied x in let f : times x (objects (p.pushed ++ q.pushed)) ≡ times x (objects p.pushed ++ objects q.pushed) = ap (times x) (objects-append p.pushed q.pushed) in
      let g = count-append (nat_eq x) (objects p.pushed) (objects q.pushed) in omega arith);
  asked = q.asked ∙ p.asked;
}

-- a field was scanned after that
pub pushes-scanned : (x k : ℕ) (v w u : Share) (a b : List Grey) → Pushes v w a b → u ≡ scans_field x k w → Pushes v u a b
pushes-scanned x k v w u a b p is = subst (λ (z : Share). Pushes v z a b) (sym is) (record {
  keeps = record { parts = p.keeps.parts; token = p.keeps.token; worker = p.keeps.worker; numbers = p.keeps.numbers; unset = p.keeps.unset; last = p.keeps.last; known = p.keeps.known; lined = p.keeps.lined; busy = p.keeps.busy; sparse = p.keeps.sparse };
  pushed = p.pushed;
  targets = p.targets;
  out = p.out;
  gave = p.gave;
  many = p.many;
  copied = p.copied;
  asked = p.asked;
})

pub room-scanned : (x k : ℕ) (v w : Share) → w ≡ scans_field x k v → SameRoom v w
room-scanned x k v w is = subst (SameRoom v) (sym is) (record { parts = refl; worker = refl; front = refl; limit = refl; filling = refl })

pub keeps-scanned : (x k : ℕ) (v w : Share) → w ≡ scans_field x k v → Keeps v w
keeps-scanned x k v w is = subst (Keeps v) (sym is) (record { parts = refl; token = refl; worker = refl; numbers = refl; unset = refl; last = refl; known = λ y t has. has; lined = λ i m has. has; busy = λ b has. has; sparse = refl })

module _ (p : Setup) (x t k : ℕ) where
  pub may-scan : (v : Share) → 0 < v.parts → k < refs p x → IsScanning p x t k v → MayScan p v x t k
  may-scan v live field is = record { live = live; right = is.right; target = is.target; field = field }

  -- after a reference was followed the same field is to be scanned
  pub still-scanning : (r u : ℕ) (v w : Share) (a b : List Grey) → IsScanning p x t k v → Follows r u v w a b → IsScanning p x t k w
  still-scanning r u v w a b is by = record {
    right = subst (λ l. 0 < hits x k l) (sym by.grey) is.right;
    target = by.pushes.keeps.known x t is.target;
    won = by.won;
    unset = by.pushes.keeps.unset ∙ is.unset;
    rest = subst (λ l. (y j : ℕ) → 0 < hits y j (without (is_pair x k) l) → j ≡ refs p y) (sym by.grey) is.rest;
  }

  pub next-scanning : (v w : Share) → IsScanning p x t k v → w ≡ scans_field x k v → IsScanning p x t (k + 1) w
  next-scanning v w is end = subst (IsScanning p x t (k + 1)) (sym end) (record {
    right = hits-here x (k + 1) (without (is_pair x k) v.grey);
    target = is.target;
    won = is.won;
    unset = is.unset;
    rest = λ y j has. is.rest y j (subst (λ l. 0 < hits y j l) (first-gone x (k + 1) (without (is_pair x k) v.grey)) has);
  })

pub unmarked-scanned : (x k : ℕ) (u v w : Share) → w ≡ scans_field x k v → MarksNoLine u v → MarksNoLine u w
unmarked-scanned x k u v w is before = subst (MarksNoLine u) (sym is) (unmarked-event (events.Scan x) v.made refl ∙ before)

-- a token is taken in: the room is the same, and nothing is forgotten
pub taken-room : (x t : ℕ) (v w : Share) → w ≡ both_shares v (scan_token x t) → SameRoom v w
taken-room x t v w is = subst (SameRoom v) (sym is) (record { parts = omega arith; worker = refl; front = refl; limit = refl; filling = refl })

pub taken-keeps : (x t : ℕ) (v w : Share) → w ≡ both_shares v (scan_token x t) → Keeps v w
taken-keeps x t v w is = subst (Keeps v) (sym is) (record {
  parts = omega arith;
  token = refl;
  worker = refl;
  numbers = append-nil v.numbers;
  unset = append-nil v.unset;
  last = append-nil v.last;
  known = λ y u has. (let a = count-append (is_pair y u) v.known ((x, t) ∷ []) in omega arith);
  lined = λ i m has. (let a = count-append (is_pair i m) v.lined [] in omega arith);
  busy = λ b has. (let a = count-append (nat_eq b) v.busy [] in omega arith);
  sparse = append-nil v.sparse;
})

pub unmarked-taken : (x t : ℕ) (v w : Share) → w ≡ both_shares v (scan_token x t) → MarksNoLine v w
unmarked-taken x t v w is = subst (MarksNoLine v) (sym is) (ap (count_by is_line_mark) (append-nil v.made))

module _ (p : Setup) (x t : ℕ) (v : Share) where
  abbrev both : Share
  both = both_shares v (scan_token x t)

  pub begins-scanning : IsDone p v → IsScanning p x t 0 both
  begins-scanning is = record {
    right = (let a = count-append (is_pair x 0) v.grey ((x, 0) ∷ []) in let b = hits-here x 0 [] in omega arith);
    target = (let a = count-append (is_pair x t) v.known ((x, t) ∷ []) in let b = hits-here x t [] in omega arith);
    won = ap (λ l. l ++ []) is.won;
    unset = ap (λ l. l ++ []) is.unset;
    rest = λ y j has. is.grey y j (let l : List (ℕ × ℕ) = v.grey ++ (x, 0) ∷ [] in
        let some-right : 0 < hits x 0 l = (let a = count-append (is_pair x 0) v.grey ((x, 0) ∷ []) in let b = hits-here x 0 [] in omega arith) in
        let a = hits-without x 0 l some-right y j in let b = count-append (is_pair y j) v.grey ((x, 0) ∷ []) in let d = hits-cons x 0 [] y j in omega arith);
  }

  pub scans-taken : (out : List Grey) → Scans 1 v both out out
  scans-taken out = record {
    pushes = record {
      keeps = taken-keeps x t v both refl;
      pushed = [];
      targets = All-nil (λ g. 0 < hits g.object g.target both.known);
      out = sym (append-nil out);
      gave = omega arith;
      many = length-append v.copied [];
      copied = λ y. (let a = count-append (nat_eq y) v.copied [] in omega arith);
      asked = append-nil v.asked;
    };
    took = omega arith;
  }

-- all fields are scanned
pub ends-scanning : (p : Setup) (x t : ℕ) (v : Share) → IsScanning p x t (refs p x) v → IsDone p v
ends-scanning p x t v is = record {
  won = is.won;
  unset = is.unset;
  grey = λ y j has. elim (cases_Bool (is_pair y j (x, refs p x))) as (λ _. j ≡ refs p y) [
    | inl here ↦ (let both = pair-parts x (refs p x) y j here in sym both.1 ∙ ap (refs p) both.0)
    | inr other ↦ is.rest y j (let a = hits-without x (refs p x) v.grey is.right y j in let b = ap one_if other in omega arith)
  ];
}

-- what a field refers to
module _ (p : Setup) (ready : TraceMayBegin p) (x k : ℕ) (held : IsHeld p.before x) (field : k < refs p x) (r : ℕ) (is : r ≡ ref_at p.before x k) where
  pub held-field : r ≢ 0 → IsHeld p.before r
  held-field some-object = subst (IsRefField p.before) (sym is) (ready.lawful.order.objects.references x k held field) (reference-of r some-object)

  pub low-field : blocks p ≤ 1024 → r < 2 ^ 32
  low-field few = elim (cases_eq r 0) as (λ _. r < 2 ^ 32) [
    | inl nil ↦ omega arith
    | inr some-object ↦ (let below = (held-field some-object).address.below in omega arith)
  ]

-- the last value of a field whose reference was followed
pub last-field : (v w : Share) (f r t : ℕ) (a b : List Grey) → r ≡ f → r ≢ 0 → Follows r t v w a b → IsLast w f t
last-field v w f r t a b same some-object by = inr ((λ e. some-object (same ∙ e)), subst (λ z. 0 < hits z t w.known) same by.target)

-- what a scan of fields did so far
pub scans-none : (v : Share) (out : List Grey) → Scans 0 v v out out
scans-none v out = record { pushes = pushes-none v v out (looks-not v v refl); took = omega arith }

pub scans-followed : (r t : ℕ) (u v w : Share) (a b : List Grey) → v ≡ u → Follows r t v w a b → Scans 0 u w a b
scans-followed r t u v w a b same by = subst (λ (z : Share). Scans 0 z w a b) same (record { pushes = by.pushes; took = (let c = by.took in omega arith) })

pub scans-on : (x k n : ℕ) (v w u : Share) (a b : List Grey) → Scans n v w a b → u ≡ scans_field x k w → Scans n v u a b
scans-on x k n v w u a b scans is = record { pushes = pushes-scanned x k v w u a b scans.pushes is; took = ap (λ (z : Share). z.took) is ∙ scans.took }

pub scans-trans : (n : ℕ) (u v w : Share) (a b c : List Grey) → Scans n u v a b → Scans 0 v w b c → Scans n u w a c
scans-trans n u v w a b c p q = record { pushes = pushes-trans u v w a b c p.pushes q.pushes; took = (let d = p.took in let e = q.took in omega arith) }

-- no object but one comes to those that are scanned
pub others-none : (x : ℕ) (v w : Share) → w.grey ≡ v.grey → ScansNoOther x v w
others-none x v w is y k has = inr (subst (λ l. 0 < hits y k l) is has)

pub others-trans : (x : ℕ) (u v w : Share) → ScansNoOther x u v → ScansNoOther x v w → ScansNoOther x u w
others-trans x u v w a b y k has = elim (b y k has) as (λ _. (y ≡ x) ⊎ (0 < hits y k u.grey)) [
  | inl here ↦ inl here
  | inr there ↦ a y k there
]

pub others-scanned : (x k : ℕ) (u v w : Share) → 0 < hits x k v.grey → w ≡ scans_field x k v → v.grey ≡ u.grey → ScansNoOther x u w
others-scanned x k u v w right is same y j has =
    let now : 0 < hits y j ((x, k + 1) ∷ without (is_pair x k) v.grey) = subst (λ (z : Share). 0 < hits y j z.grey) is has in
    elim (hits-from x (k + 1) (without (is_pair x k) v.grey) y j now) as (λ _. (y ≡ x) ⊎ (0 < hits y j u.grey)) [
      | inl here ↦ inl (sym (pair-parts x (k + 1) y j here).0)
      | inr there ↦ inr (subst (λ l. 0 < hits y j l) same (let a = hits-without x k v.grey right y j in omega arith))
    ]

pub others-taken : (x t : ℕ) (v : Share) → ScansNoOther x v (both_shares v (scan_token x t))
others-taken x t v y j has =
    let both = count-append (is_pair y j) v.grey ((x, 0) ∷ []) in
    elim (cases_Bool (is_pair y j (x, 0))) as (λ _. (y ≡ x) ⊎ (0 < hits y j v.grey)) [
      | inl here ↦ inl (sym (pair-parts x 0 y j here).0)
      | inr other ↦ inr (let one = hits-cons x 0 [] y j in let none = ap one_if other in omega arith)
    ]
