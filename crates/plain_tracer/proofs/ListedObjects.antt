-- The objects of a run's list of logged objects: their unlog bits, and their tokens.
use Rattle.std.proofs.Common.{◌≡◌, ℕ, zero, suc, ◌+◌, ◌<◌, false, ◌&&◌, IsTrue, nat_eq, List, [], ◌∷◌, ◌++◌, map, get_or, length, refl, sym, ap, ◌∙◌, subst, arith, All}
use Rattle.std.proofs.lemmas.Bool.{and_left, and_parts, eq-eqb}
use Rattle.std.proofs.lemmas.List.{length-set}
use Rattle.std.proofs.lemmas.List.Elements.{All-nil, All-cons}
use Rattle.object_model.specs.Objects.{HeapState, with_words, IsHeld}
use Rattle.object_model.specs.Ages as ages
use Rattle.object_model.specs.Times.{one_if, times}
use Rattle.object_model.proofs.Marks as marks
use Rattle.trace_core.specs.Setups.{Setup, held, stays_old, was_logged}
use Rattle.trace_core.specs.Machine.{Event}
use Rattle.trace_core.specs.Views.{View}
use Rattle.trace_core.specs.Rights.{HoldsLogged}
use Rattle.trace_core.specs.Runs.{is_nursery, set_unlogs, with_unlogs}
use Rattle.trace_core.proofs.CountedRights.{times-cons}
use Rattle.trace_core.proofs.FirstInvariant.{held-of-old}
use Rattle.trace_core.proofs.Idle.{one-if-from}
use Rattle.plain_tracer.specs.declared.tokens.Grey.{Grey}
use Rattle.plain_tracer.specs.declared.plain_trace.PlainTrace.{PlainTrace}
use Rattle.plain_tracer.specs.TokenRights.{IsGrey, logged_token}
use Rattle.plain_tracer.specs.Tracers.{Tracks}

-- an element of a list is in it
pub times-at : (l : List ℕ) (i d : ℕ) → i < length l → 0 < times (get_or l i d) l
times-at [] i d less = absurd (omega (arith, less))
times-at (x ∷ l) zero d less = let c = times-cons x l x in let one : one_if (nat_eq x x) ≡ 1 = ap one_if (eq-eqb x x refl) in omega (arith, c, one)
times-at (x ∷ l) (suc i) d less =
    let y : ℕ = get_or l i d in
    let c : times y (x ∷ l) ≡ one_if (nat_eq y x) + times y l = times-cons x l y in
    let rest : 0 < times y l = times-at l i d (omega arith) in
    omega (arith, c, rest)

-- a list in which nothing is is empty
pub none-listed : (l : List ℕ) → ((x : ℕ) → times x l ≡ 0) → l ≡ []
none-listed [] none = refl
none-listed (x ∷ l) none = absurd (
    let some : 0 < times x (x ∷ l) = times-at (x ∷ l) 0 0 (omega arith) in
    let zero : times x (x ∷ l) ≡ 0 = none x in omega arith)

-- the unlog bit of one more object is set
pub set-more : (b : ℕ) (l : List ℕ) (a : ℕ) (ws : List ℕ) → set_unlogs b (l ++ a ∷ []) ws ≡ set_unlogs b (a ∷ []) (set_unlogs b l ws)
set-more b [] a ws = refl
set-more b (x ∷ l) a ws = set-more b l a _

pub set-length : (b : ℕ) (l ws : List ℕ) → length (set_unlogs b l ws) ≡ length ws
set-length b [] ws = refl
set-length b (x ∷ l) ws = set-length b l _ ∙ length-set ws _ _

pub marks-more : (s new old : HeapState) (l l' : List ℕ) (a : ℕ) → new ≡ with_unlogs old (a ∷ []) → old ≡ with_unlogs s l → l' ≡ l ++ a ∷ [] → new ≡ with_unlogs s l'
marks-more s new old l l' a now was more = now ∙ ap (λ h. with_unlogs h (a ∷ [])) was
    ∙ ap (with_words s) (sym (set-more s.blocks l a s.words)) ∙ ap (with_unlogs s) (sym more)

-- an object of the list was held as the trace began
module _ (p : Setup) (es : List Event) (t : PlainTrace) (v : View) (tracks : Tracks p es t v) where
  pub listed-logged : (x : ℕ) → 0 < times x t.run.logged.items → IsTrue (was_logged p x)
  listed-logged x some = one-if-from (was_logged p x) (subst (λ n. 0 < n) (tracks.run.logged x) some)

  pub listed-held : (x : ℕ) → 0 < times x t.run.logged.items → IsHeld p.before x
  listed-held x some = marks.held p.before x (held-of-old p tracks.trace.ready x (and_parts (stays_old p x) (p.logged x) (listed-logged x some)).0)

  -- each token is a right of the view
  tokens-of : HoldsLogged p v → (l : List ℕ) → ((x : ℕ) → 0 < times x l → 0 < times x t.run.logged.items) → All (IsGrey p v) (map (logged_token p) l)
  tokens-of has [] among = All-nil (IsGrey p v)
  tokens-of has (x ∷ l) among =
      let is : IsTrue (was_logged p x) = listed-logged x (among x (times-at (x ∷ l) 0 0 (omega arith))) in
      All-cons (IsGrey p v) (logged_token p x) (map (logged_token p) l)
      (record { right = has.right x is; target = has.target x is; size = refl; refs = refl })
      (tokens-of has l (λ y some. among y (let c = times-cons x l y in omega (arith, c, some))))

  pub tokens-grey : HoldsLogged p v → All (IsGrey p v) (map (logged_token p) t.run.logged.items)
  tokens-grey has = tokens-of has t.run.logged.items (λ x some. some)

  -- none is listed in a full collection
  pub none-in-full : is_nursery t.run.collect ≡ false → t.run.logged.items ≡ []
  none-in-full full = none-listed t.run.logged.items (λ x. tracks.run.logged x
      ∙ ap one_if (and_left (stays_old p x) (p.logged x) (and_left p.nursery (held p x && ages.is_old p.before x) (tracks.run.nursery ∙ full))))

pub token-objects : (p : Setup) (l : List ℕ) → map (λ (g : Grey). g.object) (map (logged_token p) l) ≡ l
token-objects p [] = refl
token-objects p (x ∷ l) = ap (λ r. x ∷ r) (token-objects p l)
