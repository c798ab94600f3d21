-- A field is scanned, or a global is set: the word that is read, and the event that comes after its reference is followed.
use Rattle.std.proofs.Common.{◌≡◌, ◌≢◌, ℕ, ◌+◌, ◌<◌, ◌≤◌, ◌^◌, inl, inr, not, false, true≢false, nat_eq, List, [], ◌∷◌, ◌++◌, length, slice_index, slice_set, refl, sym, ap, ◌∙◌, subst, arith}
use Rattle.std.proofs.lemmas.Bool.{cases_eq, cond-false}
use Rattle.std.proofs.lemmas.List.{append_assoc, set-get_or}
use Rattle.std.proofs.lemmas.List.Elements.{All-nil, All-cons, All-append, All-weaker}
use Rattle.heap_layout.specs.Zones.{row_words, IsAddress}
use Rattle.object_model.specs.Objects.{word_at, global_at, ref_at, IsHeld, state_of, with_words}
use Rattle.object_model.specs.Lawful.{IsRefField}
use Rattle.object_model.proofs.Marks as marks
use Rattle.trace_core.specs.Setups.{Setup, TraceMayBegin, blocks, refs}
use Rattle.trace_core.specs.Machine.{Scanning, target, Machine, put, scan_stage, Event, ByField, ByGlobal, Claim, Ask, Copy, Scan, SetGlobal, MarkLines, TakeBlock, IsSettled, forward, scan_place, scan_value}
use Rattle.trace_core.specs.Traces.{IsAskedBy, machine_after, heap_after, stage_of}
use Rattle.trace_core.specs.Views.{View, hits, scanned_view, set_view}
use Rattle.object_model.specs.Times.{times}
use Rattle.plain_tracer.specs.Tracers.{Tracks, Forwards, ScansField, SetsGlobal, ChangesWords}
use Rattle.trace_core.specs.Rights.{IsReferred}
use Rattle.plain_tracer.specs.TokenRights.{IsNextField}
use Rattle.trace_core.specs.CallEvents.{Follows, Scans, Sets}
use Rattle.plain_tracer.specs.declared.plain_trace.PlainTrace.{PlainTrace}
use Rattle.plain_tracer.specs.declared.tokens.Grey.{Grey}
use Rattle.trace_core.proofs.Puts.{put_here, put_else}
use Rattle.trace_core.proofs.Steps.{copied-plain}
use Rattle.trace_core.proofs.Law.{sound}
use Rattle.trace_core.proofs.Clauses.{held-of, targets-inside, whole}
use Rattle.plain_tracer.proofs.StoredWords.{tracks-next}
use Rattle.trace_core.proofs.ScanRights.{scanning-at, unset-at, holds-scanned, holds-set}
use Rattle.trace_core.proofs.LastValues.{reference-of}

-- a reference fits 32 bits
pub low-reference : (p : Setup) → TraceMayBegin p → (n : ℕ) → IsRefField p.before n → n < 2 ^ 32
low-reference p ready n lawful = elim (cases_eq n 0) as (λ _. n < 2 ^ 32) [
  | inl e ↦ omega arith
  | inr ne ↦ (let some : n ≢ 0 = ne in
      let there : IsHeld p.before n = lawful (reference-of n ne) in
      let below : n < row_words (blocks p) = there.address.below in
      let most : p.before.blocks ≤ 1024 = ready.lawful.order.row.most in
      omega arith)
]

module _ (p : Setup) (es : List Event) (v : View) (t : PlainTrace) (tracks : Tracks p es t v) where
  abbrev m : Machine
  m = machine_after p es

  long : length t.row.words ≡ row_words (blocks p)
  long = ap (λ s. length s.words) tracks.row ∙ (sound p es tracks.trace).objects.long

  -- the row stays as long as it is
  pub inside-again : (ds : List Event) (w : View) (t' : PlainTrace) → Tracks p ds t' w → (i : ℕ) → i < length t.row.words → i < length t'.row.words
  inside-again ds w t' tracks' i inside = subst (λ n. i < n)
      (long ∙ sym (ap (λ s. length s.words) tracks'.row ∙ (sound p ds tracks'.trace).objects.long)) inside

  -- the next field of an object
  module _ (grey : Grey) (k : ℕ) (next : IsNextField p v grey k) where
    abbrev at : ℕ
    at = grey.target + 3 + k

    stage-now : stage_of p es grey.object ≡ Scanning grey.target k
    stage-now = scanning-at p m v tracks.holds grey.object grey.target k next.right next.target

    field-held : IsHeld p.before grey.object
    field-held = marks.held p.before grey.object (held-of p es tracks.trace grey.object grey.target (ap target stage-now))

    pub field-inside : grey.target + 3 + k < length t.row.words
    field-inside =
        let few : k < refs p grey.object = next.field in
        let there : IsAddress (blocks p) (grey.target + 3 + k) =
        targets-inside p es tracks.trace grey.object grey.target (grey.target + 3 + k) (ap target stage-now)
        (record { from = omega arith; below = omega arith }) in
        let below : grey.target + 3 + k < row_words (blocks p) = there.below in
        let all = long in omega arith

    field-word : slice_index t.row.words (grey.target + 3 + k) ≡ ref_at p.before grey.object k
    field-word =
        let few : k < refs p grey.object = next.field in
        let x : ℕ = grey.object in
        let there : grey.target + 3 + k ≡ grey.target + (3 + k) = omega arith in
        let here : grey.object + (3 + k) ≡ grey.object + 3 + k = omega arith in
        ap (λ s. slice_index s.words at) tracks.row ∙ ap (word_at (heap_after p es)) there
        ∙ whole p es tracks.trace x grey.target k (3 + k) stage-now (omega arith) (inr (omega arith))
        ∙ copied-plain p x grey.target (3 + k) (λ e. omega arith) ∙ ap (word_at p.before) here

    -- the word n that is read there
    module _ (n : ℕ) (is : n ≡ slice_index t.row.words (grey.target + 3 + k)) where
      pub field-read : n ≡ ref_at p.before grey.object k
      field-read = is ∙ field-word

      pub field-refers : IsReferred n p es v
      field-refers = subst (IsRefField p.before) (sym field-read)
          (tracks.trace.ready.lawful.order.objects.references grey.object k field-held next.field)

      pub field-asks : IsAskedBy p m n (ByField grey.object k)
      field-asks = (next.field, sym field-read, (grey.target, ap target stage-now))

  -- a global that is not set, at index i
  module _ (g i : ℕ) (unset : 0 < times g v.unset) (here : i ≡ 2 + g) where
    pub global-inside : i < length t.row.words
    global-inside = let few = (unset-at p m v tracks.holds g unset).0 in let all = long in omega arith

    global-word : slice_index t.row.words i ≡ global_at p.before g
    global-word = let rights = unset-at p m v tracks.holds g unset in
        ap (λ s. slice_index s.words i) tracks.row ∙ ap (slice_index m.words) here ∙ (sound p es tracks.trace).sides.globals.value g rights.0
        ∙ cond-false (m.set g) (forward m.stage (global_at p.before g)) (global_at p.before g) rights.1

    -- the word n that is read there
    module _ (n : ℕ) (is : n ≡ slice_index t.row.words i) where
      pub global-read : n ≡ global_at p.before g
      global-read = is ∙ global-word

      pub global-refers : IsReferred n p es v
      global-refers = subst (IsRefField p.before) (sym global-read)
          (λ reference. tracks.trace.ready.lawful.order.objects.globals g (unset-at p m v tracks.holds g unset).0
          (λ none. true≢false (sym reference ∙ ap (λ k. not (nat_eq k 0)) none)))

      pub global-asks : IsAskedBy p m n (ByGlobal g)
      global-asks = ((unset-at p m v tracks.holds g unset).0, sym global-read)

-- a word that has the value is not written
changes-nothing : (t : PlainTrace) (i value : ℕ) → slice_index t.row.words i ≡ value → ChangesWords t t (slice_set t.row.words i value)
changes-nothing t i value is = let ws = t.row.words in record {
  row = ap (with_words (state_of t.row)) (sym (ap (slice_set ws i) (sym is) ∙ set-get_or ws i 0));
  run = refl;
  block = refl;
  room = refl;
  next_block = refl;
  globals = refl;
  logged = refl;
}

-- a scan changes no target
scan-targets : (m : Machine) (x t k : ℕ) → m.stage x ≡ Scanning t k → (y : ℕ) → target (put m.stage x (scan_stage (m.stage x)) y) ≡ target (m.stage y)
scan-targets m x t k is y = elim (cases_eq y x) as (λ _. target (put m.stage x (scan_stage (m.stage x)) y) ≡ target (m.stage y)) [
  | inl e ↦ ap target (ap (put m.stage x (scan_stage (m.stage x))) e ∙ put_here m.stage x (scan_stage (m.stage x))) ∙ ap (λ st. target (scan_stage st)) is
      ∙ sym (ap target (ap m.stage e ∙ is))
  | inr ne ↦ ap target (put_else m.stage x (scan_stage (m.stage x)) y ne)
]

follows-field : (x k : ℕ) (e : Event) → Follows (ByField x k) e → Scans false x e
follows-field x k (Claim y t by) is = (k, is)
follows-field x k (Copy y) is = tt
follows-field x k (TakeBlock b w) is = is
follows-field x k (Ask y) is = is
follows-field x k (Scan y) is = absurd is
follows-field x k (SetGlobal g) is = is
follows-field x k (MarkLines y word mask) is = absurd is

follows-global : (g : ℕ) (e : Event) → Follows (ByGlobal g) e → Sets g e
follows-global g (Claim y t by) is = is
follows-global g (Copy y) is = is
follows-global g (TakeBlock b w) is = is
follows-global g (Ask y) is = is
follows-global g (Scan y) is = is
follows-global g (SetGlobal h) is = absurd is
follows-global g (MarkLines y word mask) is = is

module _ (p : Setup) (es : List Event) (v : View) (mid new : PlainTrace) (reference last : ℕ) (out out' : List Grey) where
  -- a field whose reference stays has its last value
  pub field-stays : (grey : Grey) (k : ℕ) → IsNextField p v grey k → reference ≡ ref_at p.before grey.object k
      → Forwards p es v mid reference last (ByField grey.object k) out out' → last ≡ reference
      → ChangesWords mid mid (slice_set mid.row.words (grey.target + 3 + k) last)
  field-stays grey k next reads by stays =
      let more : hits grey.object k by.view.grey ≡ _ = by.pushes.grey grey.object k in
      let some : 0 < hits grey.object k v.grey = next.right in
      let right : 0 < hits grey.object k by.view.grey = omega arith in
      changes-nothing mid (grey.target + 3 + k) last
      (field-word p (es ++ by.grows.events) by.view mid by.grows.tracks grey k
      (record { right = right; target = by.pushes.known grey.object grey.target next.target; field = next.field }) ∙ sym reads ∙ sym stays)

  -- a global whose reference stays has its last value
  pub global-stays : (g i : ℕ) → 0 < times g v.unset → i ≡ 2 + g → reference ≡ global_at p.before g
      → Forwards p es v mid reference last (ByGlobal g) out out' → last ≡ reference
      → ChangesWords mid mid (slice_set mid.row.words i last)
  global-stays g i unset here reads by stays = changes-nothing mid i last
      (global-word p (es ++ by.grows.events) by.view mid by.grows.tracks g i (subst (λ gs. 0 < times g gs) (sym by.pushes.unset) unset) here
      ∙ sym reads ∙ sym stays)

  -- the reference of a field is followed, and its last value stored
  pub scans-field : (grey : Grey) (k : ℕ) → IsNextField p v grey k → reference ≡ ref_at p.before grey.object k
      → Forwards p es v mid reference last (ByField grey.object k) out out'
      → ChangesWords mid new (slice_set mid.row.words (grey.target + 3 + k) last) → ScansField p es v new grey k out out'
  scans-field grey k next reads by changes =
      let x : ℕ = grey.object in
      let w : View = by.view in
      let fs : List Event = by.grows.events in
      let m' : Machine = machine_after p (es ++ by.grows.events) in
      let more : hits grey.object k by.view.grey ≡ _ = by.pushes.grey grey.object k in
      let some : 0 < hits grey.object k v.grey = next.right in
      let right : 0 < hits grey.object k by.view.grey = omega arith in
      let now : stage_of p (es ++ by.grows.events) grey.object ≡ Scanning grey.target k =
      scanning-at p m' w by.grows.tracks.holds x grey.target k right (by.pushes.known x grey.target next.target) in
      let settled : IsSettled (stage_of p (es ++ by.grows.events)) (ref_at p.before grey.object k) =
      subst (IsSettled (stage_of p (es ++ by.grows.events))) reads by.settled in
      let stores : last ≡ scan_value p m'.stage x (m'.stage x) (slice_index m'.words (scan_place (m'.stage x))) =
      by.last ∙ ap (forward m'.stage) reads ∙ sym (ap (λ st. scan_value p m'.stage x st (slice_index m'.words (scan_place (m'.stage x)))) now) in
      record {
        view = w;
        grows = record {
          events = fs ++ Scan x ∷ [];
          all = All-append (Scans false x) fs (Scan x ∷ []) (All-weaker (Follows (ByField x k)) (Scans false x) (follows-field x k) fs by.grows.all)
              (All-cons (Scans false x) (Scan x) [] refl (All-nil (Scans false x)));
          tracks = subst (λ ds. Tracks p ds new (scanned_view grey.object k by.view)) (append_assoc es fs (Scan x ∷ []))
              (tracks-next p (es ++ by.grows.events) w (scanned_view x k w) mid new (Scan x) (grey.target + 3 + k) last by.grows.tracks
              (grey.target, k, now, next.field, settled) refl refl (scan-targets m' x grey.target k now) (sym (ap scan_place now)) stores changes refl refl
              (holds-scanned p m' w by.grows.tracks.holds x grey.target k right now));
        };
        tokens = by.tokens;
        pushes = by.pushes;
      }

  -- the reference of a global is followed, and its last value stored
  pub sets-global : (g i : ℕ) → 0 < times g v.unset → i ≡ 2 + g → reference ≡ global_at p.before g
      → Forwards p es v mid reference last (ByGlobal g) out out'
      → ChangesWords mid new (slice_set mid.row.words i last) → SetsGlobal p es v new g out out'
  sets-global g i unset here reads by changes =
      let w : View = by.view in
      let fs : List Event = by.grows.events in
      let m' : Machine = machine_after p (es ++ by.grows.events) in
      let right : 0 < times g by.view.unset = subst (λ gs. 0 < times g gs) (sym by.pushes.unset) unset in
      let both = unset-at p m' w by.grows.tracks.holds g right in
      record {
        view = w;
        grows = record {
          events = fs ++ SetGlobal g ∷ [];
          all = All-append (Sets g) fs (SetGlobal g ∷ []) (All-weaker (Follows (ByGlobal g)) (Sets g) (follows-global g) fs by.grows.all)
              (All-cons (Sets g) (SetGlobal g) [] refl (All-nil (Sets g)));
          tracks = subst (λ ds. Tracks p ds new (set_view g by.view)) (append_assoc es fs (SetGlobal g ∷ []))
              (tracks-next p (es ++ by.grows.events) w (set_view g w) mid new (SetGlobal g) i last by.grows.tracks
              (both.0, both.1, subst (IsSettled (stage_of p (es ++ by.grows.events))) reads by.settled) refl refl (λ y. refl) here
              (by.last ∙ ap (forward m'.stage) reads) changes refl refl
              (holds-set p m' w by.grows.tracks.holds g right));
        };
        tokens = by.tokens;
        pushes = by.pushes;
      }
