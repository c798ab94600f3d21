-- A tracer copies an object that it claimed.
use Rattle.std.proofs.Common.{◌≡◌, ◌≢◌, ℕ, ◌+◌, ◌-◌, ◌<◌, ◌≤◌, inl, inr, false, nat_eq, List, [], ◌∷◌, ◌++◌, length, slice_index, slice_set, replicate, refl, sym, ap, ◌∙◌, subst, arith}
use Rattle.shared_row.specs.Words.{IsCopied}
use Rattle.std.proofs.lemmas.Bool.{cases_eq, cases_lt, cond-true, cond-false, eq-eqb, ne_eqb}
use Rattle.std.proofs.lemmas.Grind.{same_number_lists}
use Rattle.std.proofs.lemmas.List.{replicate-append-replicate}
use Rattle.heap_layout.specs.Zones.{row_words, StartBits, UnlogBits, IsAddress}
use Rattle.object_model.specs.Objects.{state_of, with_words}
use Rattle.side_meta.specs.BitWords.{with_bit}
use Rattle.object_model.specs.BitWords.{bit_word, bit_place}
use Rattle.trace_core.specs.Setups.{Setup, blocks, size, stays_old}
use Rattle.trace_core.specs.Machine.{Copying, Scanning, target, Machine, Event, Copy, next, put, copied_word, step_of_offset, heap_in}
use Rattle.trace_core.specs.Traces.{AreNext, after, machine_after, stage_of}
use Rattle.trace_core.specs.Views.{View, Holds, hits, steps_at_claim, copied_view}
use Rattle.plain_tracer.specs.TokenRights.{IsWon}
use Rattle.plain_tracer.specs.Tracers.{Tracks}
use Rattle.trace_core.specs.Runs.{IsRunOf}
use Rattle.trace_core.specs.Rooms.{IsCopyRoom, AreLeft, StayWithoutRoom}
use Rattle.trace_core.specs.Rights.{IsMoving, IsCopiedHere}
use Rattle.trace_core.specs.CallEvents.{copying as copying-events}
use Rattle.plain_tracer.specs.declared.plain_trace.PlainTrace.{PlainTrace}
use Rattle.plain_tracer.specs.declared.tokens.Won.{Won}
use Rattle.trace_core.proofs.Puts.{put_here, put_else}
use Rattle.trace_core.proofs.Steps.{offset-inside, copied-plain, copied-collector}
use Rattle.trace_core.proofs.Law.{sound}
use Rattle.plain_tracer.proofs.TracedRows.{words-are, blocks-are, row-extent}
use Rattle.trace_core.proofs.Places.{object-below}
use Rattle.trace_core.proofs.Clauses.{copying, targets-inside, held-of}
use Rattle.trace_core.proofs.AppendedEvents.{machine-more, trace-more, after-append, next-append}
use Rattle.plain_tracer.proofs.StoredWords.{room-stays}
use Rattle.trace_core.proofs.BlocksLeft.{left-stays}
use Rattle.trace_core.proofs.CopyEvents.{Reaches, Copies, copies, unlogged-moved, unlogged-in-place, started, reaches-on}
use Rattle.trace_core.proofs.CopyRights.{won-stage, holds-copied}

-- The tracer made these copy events, after which its row is the machine's.
module _ (p : Setup) (es : List Event) (old new : PlainTrace) (v : View) (tracks : Tracks p es old v) (x t : ℕ)
    (stage : stage_of p es x ≡ Copying t (steps_at_claim p x t)) where
  abbrev was : Machine
  was = machine_after p es

  pub young : stays_old p x ≡ false
  young = (copying p es tracks.trace x t (steps_at_claim p x t) stage).young

  pub tracks-copied : (ds : List Event) → AreNext p was ds → Reaches was (after p was ds) x (Scanning t 0) → state_of new.row ≡ heap_in p (after p was ds)
      → new.run ≡ old.run → new.block ≡ old.block → new.room ≡ old.room → new.next_block ≡ old.next_block → Tracks p (es ++ ds) new (copied_view p x t v)
  tracks-copied ds are reaches row run block room next_block =
      let same : machine_after p (es ++ ds) ≡ after p was ds = machine-more p es tracks.trace ds in
      let owner : (after p was ds).owner ≡ was.owner = reaches.owner in
      let same-target : (y : ℕ) → target (was.stage y) ≡ target ((after p was ds).stage y) = (λ y. elim (cases_eq y x) as (λ _. target (was.stage y) ≡ target ((after p was ds).stage y)) [
        | inl e ↦ ap target (ap was.stage e ∙ stage) ∙ sym (ap target (ap (after p was ds).stage e ∙ reaches.stage))
        | inr ne ↦ sym (ap target (reaches.others y ne))
      ]) in
      record {
        trace = trace-more p es tracks.trace ds are;
        run = subst (λ r. IsRunOf p r) (sym run) tracks.run;
        row = row ∙ ap (heap_in p) (sym same);
        holds = subst (λ n. Holds p n (copied_view p x t v)) (sym same) (holds-copied p was (after p was ds) v tracks.holds x t (steps_at_claim p x t) young stage reaches);
        room = subst (λ n. IsCopyRoom p n v.blocks new.block new.room) (sym same) (subst (λ r. IsCopyRoom p (after p was ds) v.blocks new.block r) (sym room)
            (subst (λ b. IsCopyRoom p (after p was ds) v.blocks b old.room) (sym block) (room-stays p was (after p was ds) owner v.blocks old.block old.room tracks.room)));
        left = subst (λ n. AreLeft p n v.sparse v.blocks) (sym same) (left-stays p was (after p was ds) owner v.sparse v.sparse refl v.blocks tracks.left);
        stayed = subst (λ n. StayWithoutRoom p n new.room) (sym same) (subst (StayWithoutRoom p (after p was ds)) (sym room)
            (λ y is aged moves. tracks.stayed y (same-target y ∙ is) aged moves));
        passed = λ c l free. subst (λ n. 0 < n.taken c) (sym same) (subst (λ (f : ℕ → ℕ). 0 < f c) (sym reaches.taken) (tracks.passed c (subst (λ n. c < n) next_block l) free));
        ahead = λ c some. subst (λ n. c < n) (sym next_block) (tracks.ahead c (subst (λ (f : ℕ → ℕ). 0 < f c) reaches.taken (subst (λ n. 0 < n.taken c) same some)));
      }

  -- the object and its target lie in the row
  pub least : 3 ≤ size p x
  least = omega arith

  pub target-fits : (o : ℕ) → o < size p x → IsAddress (blocks p) (t + o)
  target-fits o l = targets-inside p es tracks.trace x t (t + o) (ap target stage) (record { from = omega arith; below = omega arith })

  pub object-fits : (o : ℕ) → o < size p x → x + o < row_words (blocks p)
  object-fits o l = object-below p tracks.trace.ready x o (held-of p es tracks.trace x t (ap target stage)) l

  machine-end : t + size p x ≤ length was.words
  machine-end = let last = target-fits (size p x - 1) (omega arith) in let below : t + (size p x - 1) < row_words (blocks p) = last.below in
      let long : length was.words ≡ row_words (blocks p) = (sound p es tracks.trace).objects.long in omega arith

  -- a word of the object is the word of its copy
  source-word : (o : ℕ) → o < size p x → slice_index was.words (x + o) ≡ copied_word p x t o
  source-word o l = let object = copying p es tracks.trace x t (steps_at_claim p x t) stage in
      elim (cases_eq o 2) as (λ _. slice_index was.words (x + o) ≡ copied_word p x t o) [
        | inl e ↦ ap (λ z. slice_index was.words (x + z)) e ∙ object.collector ∙ sym (copied-collector p x t o e)
        | inr ne ↦ object.intact o l ne ∙ sym (copied-plain p x t o ne)
      ]

  -- The words of the object were copied, and nothing else changed.
  module _ (moved : t ≢ x) where
    from-start : stage_of p es x ≡ Copying t 0
    from-start = stage ∙ ap (Copying t) (cond-false (nat_eq t x) (size p x) 0 (ne_eqb t x moved))

    all-words : AreNext p was (replicate (size p x) (Copy x)) × Copies p x t least was (after p was (replicate (size p x) (Copy x))) 0 (0 + size p x)
    all-words = copies p x t least (size p x) was 0 from-start (omega arith) machine-end

    abbrev copied : Machine
    copied = after p was (replicate (size p x) (Copy x))

    words-copied : (ws : List ℕ) → length ws ≡ length was.words → IsCopied was.words ws x t (size p x) → ws ≡ copied.words
    words-copied ws long is = same_number_lists ws copied.words (long ∙ sym all-words.1.long) (λ i l.
        elim (cases_lt i t) as (λ _. slice_index ws i ≡ slice_index copied.words i) [
          | inl low ↦ is.others i (inl low) ∙ sym (all-words.1.rest i (λ o inner from to e. omega arith))
          | inr from ↦ elim (cases_lt i (t + size p x)) as (λ _. slice_index ws i ≡ slice_index copied.words i) [
            | inl within ↦ (let at : i ≡ t + (i - t) = omega arith in
                ap (slice_index ws) at ∙ is.copied (i - t) (omega arith) ∙ source-word (i - t) (omega arith)
                ∙ sym (ap (slice_index copied.words) at ∙ all-words.1.copied (i - t) (omega arith) (omega arith) (let step : step_of_offset (size p x) (i - t) < size p x = offset-inside (size p x) least (i - t) (omega arith) in omega arith)))
            | inr after ↦ is.others i (inr after) ∙ sym (all-words.1.rest i (λ o inner start to e. omega arith))
          ]
        ])

    abbrev unlog : ℕ
    unlog = bit_word (blocks p) UnlogBits t

    abbrev start : ℕ
    start = bit_word (blocks p) StartBits t

    -- both bits are set
    abbrev pub with-bits : List ℕ → List ℕ
    with-bits ws = slice_set (slice_set ws unlog (with_bit (slice_index ws unlog) (bit_place (blocks p) t))) start
        (with_bit (slice_index (slice_set ws unlog (with_bit (slice_index ws unlog) (bit_place (blocks p) t))) start) (bit_place (blocks p) t))

    abbrev moved-events : List Event
    moved-events = replicate (size p x) (Copy x) ++ (Copy x ∷ Copy x ∷ [])

    last-two : (m : Machine) → m.stage x ≡ Copying t (size p x) → (AreNext p m (Copy x ∷ Copy x ∷ [])) × Reaches m (after p m (Copy x ∷ Copy x ∷ [])) x (Scanning t 0)
        × ((after p m (Copy x ∷ Copy x ∷ [])).words ≡ with-bits m.words)
    last-two m is =
        let one : next p m (Copy x) ≡ record m { words = slice_set m.words unlog (with_bit (slice_index m.words unlog) (bit_place (blocks p) t)); stage = put m.stage x (Copying t (size p x + 1)) }
        = unlogged-moved p x t least m (size p x) is refl moved in
        let stage-one : (next p m (Copy x)).stage x ≡ Copying t (size p x + 1) = ap (λ n. n.stage x) one ∙ put_here m.stage x (Copying t (size p x + 1)) in
        let two = started p x t least (next p m (Copy x)) (size p x + 1) stage-one refl in (
          ((t, size p x, is), ((t, size p x + 1, stage-one), tt)),
          record {
            stage = ap (λ n. n.stage x) two ∙ put_here (next p m (Copy x)).stage x (Scanning t 0);
            others = λ y ne. ap (λ n. n.stage y) two ∙ put_else (next p m (Copy x)).stage x (Scanning t 0) y ne ∙ ap (λ n. n.stage y) one ∙ put_else m.stage x (Copying t (size p x + 1)) y ne;
            owner = refl;
            taken = refl;
            set = refl;
            asked = refl;
          },
          ap (λ n. n.words) two ∙ ap (λ ws. slice_set ws start (with_bit (slice_index ws start) (bit_place (blocks p) t))) (ap (λ n. n.words) one),
        )

    pub tracks-to-target : (ws : List ℕ) → length ws ≡ length was.words → IsCopied was.words ws x t (size p x)
        → state_of new.row ≡ with_words p.before (with-bits ws) → new.run ≡ old.run → new.block ≡ old.block → new.room ≡ old.room → new.next_block ≡ old.next_block
        → Tracks p (es ++ replicate (size p x + 2) (Copy x)) new (copied_view p x t v)
    tracks-to-target ws long is row run block room next_block =
        let two = last-two copied (all-words.1.reaches.stage ∙ ap (Copying t) (let e : 0 + size p x ≡ size p x = omega arith in e)) in
        let same : after p was moved-events ≡ after p copied (Copy x ∷ Copy x ∷ []) = after-append p was (replicate (size p x) (Copy x)) (Copy x ∷ Copy x ∷ []) in
        subst (λ ds. Tracks p (es ++ ds) new (copied_view p x t v)) (replicate-append-replicate (size p x) 2 (Copy x))
        (tracks-copied moved-events (next-append p was (replicate (size p x) (Copy x)) (Copy x ∷ Copy x ∷ []) all-words.0 two.0)
        (subst (λ n. Reaches was n x (Scanning t 0)) (sym same) (reaches-on p x t least was copied (after p copied (Copy x ∷ Copy x ∷ [])) (Copying t (0 + size p x)) (Scanning t 0) all-words.1.reaches two.1))
        (row ∙ ap (λ l. with_words p.before (with-bits l)) (words-copied ws long is) ∙ ap (with_words p.before) (sym two.2) ∙ ap (heap_in p) (sym same))
        run block room next_block)

  -- in place the unlog bit is set
  pub tracks-unlogged : t ≡ x → state_of new.row ≡ with_words p.before (slice_set was.words (bit_word (blocks p) UnlogBits t) (with_bit (slice_index was.words (bit_word (blocks p) UnlogBits t)) (bit_place (blocks p) t)))
      → new.run ≡ old.run → new.block ≡ old.block → new.room ≡ old.room → new.next_block ≡ old.next_block → Tracks p (es ++ Copy x ∷ []) new (copied_view p x t v)
  tracks-unlogged same row run block room next_block =
      let at-size : stage_of p es x ≡ Copying t (size p x) = stage ∙ ap (Copying t) (cond-true (nat_eq t x) (size p x) 0 (eq-eqb t x same)) in
      let one = unlogged-in-place p x t least was (size p x) at-size refl same in
      tracks-copied (Copy x ∷ []) ((t, size p x, at-size), tt)
      (record {
        stage = ap (λ n. n.stage x) one ∙ put_here was.stage x (Scanning t 0);
        others = λ y ne. ap (λ n. n.stage y) one ∙ put_else was.stage x (Scanning t 0) y ne;
        owner = refl;
        taken = refl;
        set = refl;
        asked = refl;
      }) (row ∙ ap (heap_in p) (sym one)) run block room next_block

-- what a tracer has for a copy
module _ (p : Setup) (es : List Event) (t : PlainTrace) (v : View) (tracks : Tracks p es t v) (x u : ℕ) where
  pub moving-stage : (n : ℕ) → IsMoving x u n p es v → stage_of p es x ≡ Copying u (steps_at_claim p x u)
  moving-stage n is = won-stage p (machine_after p es) v tracks.holds x 0 u is.right is.target ∙ ap (Copying u) (sym (cond-false (nat_eq u x) (size p x) 0 (ne_eqb u x is.moves)))

  pub wins-stage : (right : 0 < hits x (steps_at_claim p x u) v.won) → 0 < hits x u v.known → stage_of p es x ≡ Copying u (steps_at_claim p x u)
  wins-stage right known = won-stage p (machine_after p es) v tracks.holds x (steps_at_claim p x u) u right known

  module _ (stage : stage_of p es x ≡ Copying u (steps_at_claim p x u)) where
    pub target-address : IsAddress t.row.layout.blocks u
    target-address = subst (λ n. IsAddress n u) (sym (blocks-are p es t v tracks)) (subst (IsAddress (blocks p)) (let same : u + 0 ≡ u = omega arith in same) (target-fits p es t t v tracks x u stage 0 (omega arith)))

    pub object-end : x + size p x ≤ length t.row.words
    object-end = let below : x + (size p x - 1) < row_words (blocks p) = object-fits p es t t v tracks x u stage (size p x - 1) (omega arith) in
        let extent : length t.row.words ≡ row_words t.row.layout.blocks = row-extent p es t v tracks in
        let same : t.row.layout.blocks ≡ blocks p = blocks-are p es t v tracks in omega arith

    pub target-end : u + size p x ≤ length t.row.words
    target-end = let there = target-fits p es t t v tracks x u stage (size p x - 1) (omega arith) in
        let below : u + (size p x - 1) < row_words (blocks p) = there.below in
        let extent : length t.row.words ≡ row_words t.row.layout.blocks = row-extent p es t v tracks in
        let same : t.row.layout.blocks ≡ blocks p = blocks-are p es t v tracks in omega arith

-- the words were moved, and both bits set
pub tracks-moved : (p : Setup) (es : List Event) (old new : PlainTrace) (v : View) (tracks : Tracks p es old v) (x t n : ℕ) (stage : stage_of p es x ≡ Copying t (steps_at_claim p x t)) (moved : t ≢ x)
    → n ≡ size p x → (ws : List ℕ) → length ws ≡ length old.row.words
    → IsCopied old.row.words ws x t n
    → state_of new.row ≡ with_words p.before (with-bits p es old new v tracks x t stage moved ws) → new.run ≡ old.run → new.block ≡ old.block → new.room ≡ old.room → new.next_block ≡ old.next_block
    → Tracks p (es ++ copying-events p x t) new (copied_view p x t v)
tracks-moved p es old new v tracks x t n stage moved same ws long by row run block room next_block =
    let words : old.row.words ≡ (machine_after p es).words = words-are p es old v tracks in
    let there = subst (λ l. IsCopied l ws x t (size p x)) words (subst (λ k. IsCopied old.row.words ws x t k) same by) in
    subst (λ k. Tracks p (es ++ replicate k (Copy x)) new (copied_view p x t v)) (sym (cond-false (nat_eq t x) 1 (size p x + 2) (ne_eqb t x moved)))
    (tracks-to-target p es old new v tracks x t stage moved ws (long ∙ ap length words) there row run block room next_block)

pub tracks-in-place : (p : Setup) (es : List Event) (old new : PlainTrace) (v : View) (tracks : Tracks p es old v) (x t : ℕ) (stage : stage_of p es x ≡ Copying t (steps_at_claim p x t)) → t ≡ x
    → state_of new.row ≡ with_words p.before (slice_set (machine_after p es).words (bit_word (blocks p) UnlogBits t) (with_bit (slice_index (machine_after p es).words (bit_word (blocks p) UnlogBits t)) (bit_place (blocks p) t)))
    → new.run ≡ old.run → new.block ≡ old.block → new.room ≡ old.room → new.next_block ≡ old.next_block → Tracks p (es ++ copying-events p x t) new (copied_view p x t v)
tracks-in-place p es old new v tracks x t stage same row run block room next_block =
    subst (λ k. Tracks p (es ++ replicate k (Copy x)) new (copied_view p x t v)) (sym (cond-true (nat_eq t x) 1 (size p x + 2) (eq-eqb t x same)))
    (tracks-unlogged p es old new v tracks x t stage same row run block room next_block)

pub moving-of : (p : Setup) (es : List Event) (v : View) (won : Won) → IsWon p v won → won.target ≢ won.object → IsMoving won.object won.target won.size p es v
moving-of p es v won is differ = record {
  right = subst (λ k. 0 < hits won.object k v.won) (cond-false (nat_eq won.target won.object) (size p won.object) 0 (ne_eqb won.target won.object differ)) is.right;
  target = is.target;
  size = is.size;
  moves = differ;
}

pub copied-here : (p : Setup) (es : List Event) (v : View) (won : Won) → IsWon p v won → won.target ≡ won.object → IsCopiedHere won.object p es v
copied-here p es v won is same = record {
  right = subst (λ t. 0 < hits won.object (steps_at_claim p won.object t) v.won) same is.right;
  target = subst (λ t. 0 < hits won.object t v.known) same is.target;
}
