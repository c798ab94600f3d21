-- Every event keeps the invariant for side metadata and globals.
use Rattle.std.proofs.Common.{◌≡◌, ◌≢◌, ℕ, ◌+◌, ◌*◌, ◌/◌, ◌%◌, ◌<◌, ◌≤◌, ◌⊎◌, inl, inr, true, false, if◌then◌else◌, ◌&&◌, not, IsTrue, nat_eq, nat_lt, List, slice_index, slice_set, bit_or, refl, sym, ap, ◌∙◌, subst, arith, get_or-set_other, get_or-set_same, Some}
use Rattle.std.specs.Int.{bit_at}
use Rattle.std.proofs.lemmas.Bool.{cases_eq, cases_lt, cond-true, cond-false, lt-ltb, le-ltb, eq-eqb, ne_eqb, eqb-true, and_parts, ltb-true}
use Rattle.std.proofs.lemmas.List.{set-get_or}
use Rattle.std.proofs.lemmas.Nat.Bits.{bit_at_or, bit_at-lt}
use Rattle.heap_layout.specs.Zones.{Zone, StopWord, BudgetWord, Globals, BlockWords, LineWords, StartBits, PinBits, UnlogBits, first, InZone, bit_of}
use Rattle.object_model.specs.Objects.{global_at, block_word, ref_at}
use Rattle.side_meta.specs.BitWords.{with_bit}
use Rattle.object_model.specs.BitWords.{bit_word, bit_place}
use Rattle.object_model.specs.Lines.{TouchesLine}
use Rattle.trace_core.specs.Setups.{Setup, TraceMayBegin, blocks, held, size}
use Rattle.trace_core.specs.Machine.{Stage, Copying, Scanning, target, Machine, Event, Claim, Ask, Copy, Scan, SetGlobal, MarkLines, TakeBlock, put, copied_word, offset_of_step, copy_place, copy_value, copy_stage, scan_place, scan_value, scan_stage, forward, IsSettled, taken_word, next}
use Rattle.trace_core.specs.Traces.{May}
use Rattle.trace_core.proofs.Puts.{put_here, put_else}
use Rattle.trace_core.proofs.ObjectEvents.{Keeps}
use Rattle.trace_core.proofs.Sides.{SameZone, other-zone, StartsAt, UnlogsAt, Somewhere, BitsAre, LinesAre, GlobalsAre, KeepsSides, bits-stay, lines-stay, blocks-stay, globals-stay, rest-stays}
use Rattle.trace_core.proofs.SideEvents.{Sides, claim-side, scan-side, copy-word-side, unlog-side, start-side, was, here}

abbrev S : Setup → Machine → List ℕ → (ℕ → Stage) → Type 0
S p m words stage = KeepsSides p words stage m.taken m.set

module _ (p : Setup) (ready : TraceMayBegin p) (m : Machine) (h : Keeps p m) (s : Sides p m) where
  copied-side : (x t k : ℕ) → m.stage x ≡ Copying t k → S p m
      (slice_set m.words (copy_place p x (Copying t k)) (copy_value p x (Copying t k) (slice_index m.words (copy_place p x (Copying t k)))))
      (put m.stage x (copy_stage p x (Copying t k)))
  copied-side x t k now =
      elim (cases_lt k (size p x)) as (λ _. S p m (slice_set m.words (copy_place p x (Copying t k)) (copy_value p x (Copying t k) (slice_index m.words (copy_place p x (Copying t k))))) (put m.stage x (copy_stage p x (Copying t k)))) [
        | inl more ↦ (let less : nat_lt k (size p x) ≡ true = lt-ltb k (size p x) more in
            let v : ℕ = copy_value p x (Copying t k) (slice_index m.words (copy_place p x (Copying t k))) in
            subst (λ i. S p m (slice_set m.words i v) (put m.stage x (copy_stage p x (Copying t k)))) (sym (cond-true (nat_lt k (size p x)) (t + offset_of_step (size p x) k) _ less))
            (subst (λ st. S p m (slice_set m.words (t + offset_of_step (size p x) k) v) (put m.stage x st)) (sym (cond-true (nat_lt k (size p x)) (Copying t (k + 1)) _ less))
            (copy-word-side p ready m h s x t k now more v)))
        | inr full ↦ bit-step x t k now (le-ltb k (size p x) full) full
      ]
    where
      -- the two steps that set a bit, by the place of the bit
      stored-at : ℕ → ℕ → List ℕ
      stored-at t i = slice_set m.words i (with_bit (slice_index m.words i) (bit_place (blocks p) t))

      bit-step : (x t k : ℕ) → m.stage x ≡ Copying t k → nat_lt k (size p x) ≡ false → size p x ≤ k → S p m
          (slice_set m.words (copy_place p x (Copying t k)) (copy_value p x (Copying t k) (slice_index m.words (copy_place p x (Copying t k)))))
          (put m.stage x (copy_stage p x (Copying t k)))
      bit-step x t k now past full =
          let e1 : copy_place p x (Copying t k) ≡ (if nat_eq k (size p x) then bit_word (blocks p) UnlogBits t else bit_word (blocks p) StartBits t) = cond-false (nat_lt k (size p x)) (t + offset_of_step (size p x) k) _ past in
          let e2 : (n : ℕ) → copy_value p x (Copying t k) n ≡ with_bit n (bit_place (blocks p) t) = λ n. cond-false (nat_lt k (size p x)) (copied_word p x t (offset_of_step (size p x) k)) _ past in
          let e3 : copy_stage p x (Copying t k) ≡ (if nat_eq k (size p x) && not (nat_eq t x) then Copying t (k + 1) else Scanning t 0) = cond-false (nat_lt k (size p x)) (Copying t (k + 1)) _ past in
          subst (λ v. S p m (slice_set m.words (copy_place p x (Copying t k)) v) (put m.stage x (copy_stage p x (Copying t k)))) (sym (e2 (slice_index m.words (copy_place p x (Copying t k)))))
          (subst (λ st. S p m (stored-at t (copy_place p x (Copying t k))) (put m.stage x st)) (sym e3)
          (subst (λ i. S p m (stored-at t i) (put m.stage x (if nat_eq k (size p x) && not (nat_eq t x) then Copying t (k + 1) else Scanning t 0))) (sym e1)
          (elim (cases_eq k (size p x)) as (λ _. S p m (stored-at t (if nat_eq k (size p x) then bit_word (blocks p) UnlogBits t else bit_word (blocks p) StartBits t)) (put m.stage x (if nat_eq k (size p x) && not (nat_eq t x) then Copying t (k + 1) else Scanning t 0))) [
            | inl e ↦ (let same : nat_eq k (size p x) ≡ true = eq-eqb k (size p x) e in
                subst (λ b. S p m (stored-at t (if b then bit_word (blocks p) UnlogBits t else bit_word (blocks p) StartBits t)) (put m.stage x (if b && not (nat_eq t x) then Copying t (k + 1) else Scanning t 0))) (sym same)
                (unlog-step x t k now e))
            | inr ne ↦ (let other : k ≢ size p x = ne in let differ : nat_eq k (size p x) ≡ false = ne_eqb k (size p x) ne in
                subst (λ b. S p m (stored-at t (if b then bit_word (blocks p) UnlogBits t else bit_word (blocks p) StartBits t)) (put m.stage x (if b && not (nat_eq t x) then Copying t (k + 1) else Scanning t 0))) (sym differ)
                (start-side p ready m h s x t k now (omega arith)))
          ])))
        where
          unlog-step : (x t k : ℕ) → m.stage x ≡ Copying t k → k ≡ size p x → S p m (stored-at t (bit_word (blocks p) UnlogBits t)) (put m.stage x (if not (nat_eq t x) then Copying t (k + 1) else Scanning t 0))
          unlog-step x t k now full = elim (cases_eq t x) as (λ _. S p m (stored-at t (bit_word (blocks p) UnlogBits t)) (put m.stage x (if not (nat_eq t x) then Copying t (k + 1) else Scanning t 0))) [
            | inl same ↦ subst (λ b. S p m (stored-at t (bit_word (blocks p) UnlogBits t)) (put m.stage x (if not b then Copying t (k + 1) else Scanning t 0))) (sym (eq-eqb t x same))
                (unlog-side p ready m h s x t k now full (Scanning t 0) refl (λ a none. absurd none)
                (λ a is. (is, subst (λ y. IsTrue (held p y)) (sym same ∙ is) (here p ready m h s x t k now)))
                (refl, (was p ready m h s x t k now).young) (λ a some. some.0))
            | inr away ↦ subst (λ b. S p m (stored-at t (bit_word (blocks p) UnlogBits t)) (put m.stage x (if not b then Copying t (k + 1) else Scanning t 0))) (sym (ne_eqb t x away))
                (unlog-side p ready m h s x t k now full (Copying t (k + 1)) refl (λ a none. none) (λ a none. absurd none)
                (refl, omega arith) (λ a some. some.0))
          ]

  after-copy : (x : ℕ) → May p m (Copy x) → Sides p (next p m (Copy x))
  after-copy x may = let t : ℕ = may.0 in let k : ℕ = may.1 in
      subst (λ st. S p m (slice_set m.words (copy_place p x st) (copy_value p x st (slice_index m.words (copy_place p x st)))) (put m.stage x (copy_stage p x st))) (sym may.2)
      (copied-side x t k may.2)

  after-scan : (x : ℕ) → May p m (Scan x) → Sides p (next p m (Scan x))
  after-scan x may = let t : ℕ = may.0 in let k : ℕ = may.1 in
      subst (λ st. S p m (slice_set m.words (scan_place st) (scan_value p m.stage x st (slice_index m.words (scan_place st)))) (put m.stage x (scan_stage st))) (sym may.2)
      (scan-side p ready m h s x t k may.2 may.3 (forward m.stage (ref_at p.before x k)))

  -- a store in zone y, which holds no bits of addresses, and no step of an object
  module _ (i v : ℕ) (y : Zone) (there : InZone (blocks p) y i) where
    abbrev words : List ℕ
    words = slice_set m.words i v

    starts-same : SameZone p StartBits m.words words → BitsAre p StartBits words (Somewhere (StartsAt p) m.stage)
    starts-same same = bits-stay p m.words words StartBits (Somewhere (StartsAt p) m.stage) (Somewhere (StartsAt p) m.stage) refl same (λ a is. is) (λ a is. is) s.starts

    unlogs-same : SameZone p UnlogBits m.words words → BitsAre p UnlogBits words (Somewhere (UnlogsAt p) m.stage)
    unlogs-same same = bits-stay p m.words words UnlogBits (Somewhere (UnlogsAt p) m.stage) (Somewhere (UnlogsAt p) m.stage) refl same (λ a is. is) (λ a is. is) s.unlogs

    lines-same : SameZone p LineWords m.words words → LinesAre p words m.stage
    lines-same same = lines-stay p m.words words m.stage m.stage same (λ z t e. e) s.lines

    globals-same : SameZone p Globals m.words words → GlobalsAre p words m.stage m.set
    globals-same same = globals-stay p m.words words m.stage m.stage m.set same (λ z t e. e) s.globals

  after-set : (g : ℕ) → May p m (SetGlobal g) → Sides p (next p m (SetGlobal g))
  after-set g may =
      let i : ℕ = first (blocks p) Globals + g in
      let v : ℕ = forward m.stage (global_at p.before g) in
      let few : g < 16 = may.0 in
      let long = h.long in
      let there : InZone (blocks p) Globals (first (blocks p) Globals + g) = record { from = omega arith; below = omega arith } in
      let words' : List ℕ = slice_set m.words i v in
      record {
        starts = starts-same i v Globals there (other-zone p m.words i v Globals StartBits there (omega arith));
        unlogs = unlogs-same i v Globals there (other-zone p m.words i v Globals UnlogBits there (omega arith));
        lines = lines-same i v Globals there (other-zone p m.words i v Globals LineWords there (omega arith));
        blocks = blocks-stay p m.words (slice_set m.words i v) m.taken (other-zone p m.words i v Globals BlockWords there (omega arith)) s.blocks;
        globals = record {
          value = λ k l. elim (cases_eq k g) as (λ _. slice_index (slice_set m.words i v) (first (blocks p) Globals + k) ≡ (if put m.set g true k then forward m.stage (global_at p.before k) else global_at p.before k)) [
            | inl e ↦ ap (λ z. slice_index (slice_set m.words i v) (first (blocks p) Globals + z)) e ∙ get_or-set_same m.words i v 0 (omega arith) ∙ ap (λ z. forward m.stage (global_at p.before z)) (sym e)
                ∙ sym (cond-true (put m.set g true k) (forward m.stage (global_at p.before k)) (global_at p.before k) (ap (put m.set g true) e ∙ put_here m.set g true))
            | inr ne ↦ get_or-set_other m.words i (first (blocks p) Globals + k) v 0 (let differ : k ≢ g = ne in λ same. differ (omega arith)) ∙ s.globals.value k l
                ∙ ap (λ b. if b then forward m.stage (global_at p.before k) else global_at p.before k) (sym (put_else m.set g true k ne))
          ];
          settled = λ k l is. elim (cases_eq k g) as (λ _. IsSettled m.stage (global_at p.before k)) [
            | inl e ↦ subst (λ z. IsSettled m.stage (global_at p.before z)) (sym e) may.2
            | inr ne ↦ s.globals.settled k l (sym (put_else m.set g true k ne) ∙ is)
          ];
        };
        rest = rest-stays p m.words (slice_set m.words i v) (other-zone p m.words i v Globals StopWord there (omega arith))
            (other-zone p m.words i v Globals BudgetWord there (omega arith)) (other-zone p m.words i v Globals PinBits there (omega arith)) s.rest;
      }

  after-take : (b w : ℕ) → May p m (TakeBlock b w) → Sides p (next p m (TakeBlock b w))
  after-take b w may =
      let i : ℕ = first (blocks p) BlockWords + b in
      let v : ℕ = taken_word p w in
      let few : b < blocks p = ltb-true b (blocks p) (and_parts (nat_lt b (blocks p)) _ may.0).0 in
      let long = h.long in
      let some : 0 < w = may.2 in
      let there : InZone (blocks p) BlockWords (first (blocks p) BlockWords + b) = record { from = omega arith; below = omega arith } in
      record {
        starts = starts-same i v BlockWords there (other-zone p m.words i v BlockWords StartBits there (omega arith));
        unlogs = unlogs-same i v BlockWords there (other-zone p m.words i v BlockWords UnlogBits there (omega arith));
        lines = lines-same i v BlockWords there (other-zone p m.words i v BlockWords LineWords there (omega arith));
        globals = globals-same i v BlockWords there (other-zone p m.words i v BlockWords Globals there (omega arith));
        blocks = record {
          word = λ c l. elim (cases_eq c b) as (λ _. slice_index (slice_set m.words i v) (first (blocks p) BlockWords + c) ≡ (if nat_eq (put m.taken b w c) 0 then block_word p.before c else taken_word p (put m.taken b w c))) [
            | inl e ↦ ap (λ z. slice_index (slice_set m.words i v) (first (blocks p) BlockWords + z)) e ∙ get_or-set_same m.words i v 0 (omega arith)
                ∙ sym (ap (λ n. if nat_eq n 0 then block_word p.before c else taken_word p n) (ap (put m.taken b w) e ∙ put_here m.taken b w)
                ∙ cond-false (nat_eq w 0) (block_word p.before c) (taken_word p w) (ne_eqb w 0 (λ z. omega arith)))
            | inr ne ↦ get_or-set_other m.words i (first (blocks p) BlockWords + c) v 0 (let differ : c ≢ b = ne in λ same. differ (omega arith)) ∙ s.blocks.word c l
                ∙ ap (λ n. if nat_eq n 0 then block_word p.before c else taken_word p n) (sym (put_else m.taken b w c ne))
          ];
          worker = λ c. elim (cases_eq c b) as (λ _. put m.taken b w c ≤ p.workers) [
            | inl e ↦ subst (λ n. n ≤ p.workers) (sym (ap (put m.taken b w) e ∙ put_here m.taken b w)) may.3
            | inr ne ↦ subst (λ n. n ≤ p.workers) (sym (put_else m.taken b w c ne)) (s.blocks.worker c)
          ];
          copies = λ c any. may.4;
        };
        rest = rest-stays p m.words (slice_set m.words i v) (other-zone p m.words i v BlockWords StopWord there (omega arith))
            (other-zone p m.words i v BlockWords BudgetWord there (omega arith)) (other-zone p m.words i v BlockWords PinBits there (omega arith)) s.rest;
      }

  after-mark : (x word mask : ℕ) → May p m (MarkLines x word mask) → Sides p (next p m (MarkLines x word mask))
  after-mark x word mask may =
      let v : ℕ = bit_or (slice_index m.words word) mask in
      let there : InZone (blocks p) LineWords word = may.0 in
      let from : first (blocks p) LineWords ≤ word = there.from in
      let below : word < first (blocks p) LineWords + 4 * blocks p = there.below in
      let long = h.long in
      let now : slice_index (slice_set m.words word v) word ≡ v = get_or-set_same m.words word v 0 (omega arith) in
      record {
        starts = starts-same word v LineWords there (other-zone p m.words word v LineWords StartBits there (omega arith));
        unlogs = unlogs-same word v LineWords there (other-zone p m.words word v LineWords UnlogBits there (omega arith));
        globals = globals-same word v LineWords there (other-zone p m.words word v LineWords Globals there (omega arith));
        blocks = blocks-stay p m.words (slice_set m.words word v) m.taken (other-zone p m.words word v LineWords BlockWords there (omega arith)) s.blocks;
        lines = record {
          from = λ n l set. elim (cases_eq (first (blocks p) LineWords + n / 64) word) as (λ _. IsTrue (bit_of (blocks p) LineWords p.before.words n) ⊎ ((x t : ℕ) × (target (m.stage x) ≡ Some t) × TouchesLine (blocks p) t (size p x) n)) [
            | inl e ↦ (let bit : bit_at v (n % 64) ≡ 1 = eqb-true (bit_at v (n % 64)) 1 (sym (ap (λ w. nat_eq (bit_at w (n % 64)) 1) (ap (slice_index (slice_set m.words word v)) e ∙ now)) ∙ set) in
                elim (cases_eq (bit_at mask (n % 64)) 1) as (λ _. IsTrue (bit_of (blocks p) LineWords p.before.words n) ⊎ ((x t : ℕ) × (target (m.stage x) ≡ Some t) × TouchesLine (blocks p) t (size p x) n)) [
                  | inl by ↦ inr (x, may.1.0, may.1.1, subst (TouchesLine (blocks p) may.1.0 (size p x)) (let at : first (blocks p) LineWords + n / 64 ≡ word = e in omega arith) (may.1.2 (n % 64) by).1)
                  | inr not-by ↦ (let off : bit_at mask (n % 64) ≢ 1 = not-by in
                      let was : bit_at (slice_index m.words word) (n % 64) ≡ 1 = omega (arith, bit_at_or (slice_index m.words word) mask (n % 64), bit_at-lt mask (n % 64), bit_at-lt (slice_index m.words word) (n % 64)) in
                      s.lines.from n l (ap (λ i. nat_eq (bit_at (slice_index m.words i) (n % 64)) 1) e ∙ eq-eqb (bit_at (slice_index m.words word) (n % 64)) 1 was))
                ])
            | inr ne ↦ s.lines.from n l (sym (ap (λ w. nat_eq (bit_at w (n % 64)) 1) (get_or-set_other m.words word (first (blocks p) LineWords + n / 64) v 0 ne)) ∙ set)
          ];
          kept = λ n l before. elim (cases_eq (first (blocks p) LineWords + n / 64) word) as (λ _. IsTrue (bit_of (blocks p) LineWords (slice_set m.words word v) n)) [
            | inl e ↦ (let set = s.lines.kept n l before in
                let was : bit_at (slice_index m.words word) (n % 64) ≡ 1 = eqb-true (bit_at (slice_index m.words word) (n % 64)) 1 (sym (ap (λ i. nat_eq (bit_at (slice_index m.words i) (n % 64)) 1) e) ∙ set) in
                let bit : bit_at v (n % 64) ≡ 1 = omega (arith, bit_at_or (slice_index m.words word) mask (n % 64), bit_at-lt mask (n % 64), bit_at-lt (slice_index m.words word) (n % 64)) in
                ap (λ w. nat_eq (bit_at w (n % 64)) 1) (ap (slice_index (slice_set m.words word v)) e ∙ now) ∙ eq-eqb (bit_at v (n % 64)) 1 bit)
            | inr ne ↦ ap (λ w. nat_eq (bit_at w (n % 64)) 1) (get_or-set_other m.words word (first (blocks p) LineWords + n / 64) v 0 ne) ∙ s.lines.kept n l before
          ];
        };
        rest = rest-stays p m.words (slice_set m.words word v) (other-zone p m.words word v LineWords StopWord there (omega arith))
            (other-zone p m.words word v LineWords BudgetWord there (omega arith)) (other-zone p m.words word v LineWords PinBits there (omega arith)) s.rest;
      }

  pub side-event : (e : Event) → May p m e → Sides p (next p m e)
  side-event (Claim x t cause) may = claim-side p ready m h s x t cause may
  side-event (Ask x) may = subst (λ ws. S p m ws m.stage) (sym (set-get_or m.words (x + 2) 0)) s
  side-event (Copy x) may = after-copy x may
  side-event (Scan x) may = after-scan x may
  side-event (SetGlobal g) may = after-set g may
  side-event (MarkLines x word mask) may = after-mark x word mask may
  side-event (TakeBlock b w) may = after-take b w may
