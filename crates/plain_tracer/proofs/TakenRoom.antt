-- A tracer takes a block to copy into.
use Rattle.std.proofs.Common.{◌≡◌, ◌≢◌, ℕ, ◌+◌, ◌%◌, ◌<◌, ◌≤◌, inl, inr, nat_eq, nat_lt, List, [], ◌∷◌, ◌++◌, slice_set, refl, sym, ap, ◌∙◌, subst, arith}
use Rattle.std.specs.Prelude.{take}
use Rattle.std.proofs.lemmas.Bool.{cases_eq, cases_lt, and_parts, eq-eqb, ltb-true}
use Rattle.heap_layout.specs.Zones.{BlockWords, first}
use Rattle.heap_layout.specs.declared.block.Kind.TheVariants as kinds
use Rattle.heap_layout.specs.Blocks.{code_of}
use Rattle.object_model.specs.Objects.{HasKind, block_word, state_of, with_words}
use Rattle.trace_core.specs.Setups.{Setup, blocks}
use Rattle.trace_core.specs.Machine.{Machine, target, Event, TakeBlock, next, heap_in}
use Rattle.trace_core.specs.Traces.{May, NoneIsFree, machine_after, heap_after}
use Rattle.trace_core.specs.Views.{View, Holds, left_view}
use Rattle.object_model.specs.Times.{one_if, times}
use Rattle.plain_tracer.specs.Tracers.{Tracks, TracerHolds, TakesCopyBlock, FindsNone}
use Rattle.trace_core.specs.Runs.{IsRunOf}
use Rattle.trace_core.specs.Rooms.{StayWithoutRoom, IsCopyRoom, AreLeft}
use Rattle.plain_tracer.specs.declared.plain_trace.PlainTrace.{PlainTrace}
use Rattle.trace_core.proofs.Puts.{put_here, put_else}
use Rattle.trace_core.proofs.Law.{sound}
use Rattle.trace_core.proofs.BlocksLeft.{left-more}
use Rattle.trace_core.proofs.AppendedEvents.{machine-next, trace-next}
use Rattle.trace_core.proofs.CountedRights.{times-cons}
use Rattle.trace_core.proofs.Idle.{one-if-from, one-if-true}
use Rattle.plain_tracer.proofs.TracedRows.{words-are, blocks-are}
use Rattle.trace_core.proofs.TakenBlocks.{free-was, free-still, unowned-block, holds-taken}

module _ (p : Setup) (es : List Event) (old new : PlainTrace) (b : ℕ) (v : View) (tracks : Tracks p es old v) (takes : TakesCopyBlock old new b) (copies : old.run.copy_kind ≢ kinds.Free) where
  abbrev was : Machine
  was = machine_after p es

  abbrev now : Machine
  now = next p (machine_after p es) (TakeBlock b 1)

  free-here : HasKind p.before b kinds.Free × (was.taken b ≡ 0)
  free-here = free-was p es tracks.trace b (subst (λ s. HasKind s b kinds.Free) tracks.row takes.free)

  copy-kind : old.run.copy_kind ≡ p.copy
  copy-kind = tracks.run.kind

  pub may-take : May p was (TakeBlock b 1)
  may-take = (free-here.0, free-here.1, omega arith, tracks.trace.ready.some, λ e. copies (copy-kind ∙ e))

  words-now : slice_set old.row.words (first old.row.layout.blocks BlockWords + b) (code_of (record { kind = old.run.copy_kind; class = 0; owner = 17 })) ≡ now.words
  words-now = ap (λ ws. slice_set ws (first old.row.layout.blocks BlockWords + b) (code_of (record { kind = old.run.copy_kind; class = 0; owner = 17 }))) (words-are p es old v tracks)
      ∙ ap (λ n. slice_set was.words (first n BlockWords + b) (code_of (record { kind = old.run.copy_kind; class = 0; owner = 17 }))) (blocks-are p es old v tracks)
      ∙ ap (λ k. slice_set was.words (first (blocks p) BlockWords + b) (code_of (record { kind = k; class = 0; owner = 17 }))) copy-kind

  row-now : state_of new.row ≡ heap_in p now
  row-now = takes.row ∙ ap (λ s. with_words s (slice_set old.row.words (first old.row.layout.blocks BlockWords + b) (code_of (record { kind = old.run.copy_kind; class = 0; owner = 17 })))) tracks.row
      ∙ ap (with_words p.before) words-now

  taken-now : (c : ℕ) → c ≢ b → now.taken c ≡ was.taken c
  taken-now c ne = put_else was.taken b 1 c ne

  taken-here : now.taken b ≡ 1
  taken-here = put_here was.taken b 1

  more-taken : (c : ℕ) → 0 < was.taken c → 0 < now.taken c
  more-taken c some = subst (λ n. 0 < n) (sym (taken-now c (λ e. let none : was.taken c ≡ 0 = ap was.taken e ∙ free-here.1 in omega arith))) some

  holds-now : Holds p now (left_view b v)
  holds-now = let holds = holds-taken p was v tracks.holds b 1 free-here.1 (omega arith) in record {
    won = holds.won;
    grey = holds.grey;
    copied = holds.copied;
    unset = holds.unset;
    set = holds.set;
    asked = holds.asked;
    known = holds.known;
    blocks = holds.blocks;
  }

  passed-now : (c : ℕ) → c < new.next_block → HasKind p.before c kinds.Free → 0 < now.taken c
  passed-now c l free = elim (cases_eq c b) as (λ _. 0 < now.taken c) [
    | inl e ↦ subst (λ n. 0 < n) (sym (ap now.taken e ∙ taken-here)) (omega arith)
    | inr ne ↦ (let limit : new.next_block ≡ b + 1 = takes.next_block in
        let differ : c ≢ b = ne in
        more-taken c (elim (cases_lt c old.next_block) as (λ _. 0 < was.taken c) [
          | inl low ↦ tracks.passed c low free
          | inr high ↦ elim (cases_eq (was.taken c) 0) as (λ _. 0 < was.taken c) [
            | inl none ↦ absurd (takes.lower c (omega arith) (omega arith) (subst (λ s. HasKind s c kinds.Free) (sym tracks.row) (free-still p es tracks.trace c free none)))
            | inr some ↦ (let taken : was.taken c ≢ 0 = some in omega arith)
          ]
        ]))
  ]

  room-now : IsCopyRoom p now (b ∷ v.blocks) new.block new.room
  room-now = (
    takes.block,
    ap (λ r. r.end) takes.room,
    subst (λ r. r.next ≤ 4096) (sym takes.room) (omega arith),
    (λ o l. let zero : new.room.next ≡ 0 = ap (λ r. r.next) takes.room in absurd (omega arith)),
    (λ o from l. unowned-block p es tracks.trace b o free-here.1 l),
  )

  -- The last block may have any room. It is sparse now.
  left-now : AreLeft p now (take 1 v.blocks ++ v.sparse) (b ∷ v.blocks)
  left-now = by-blocks v.blocks refl
    where
      by-blocks : (bs : List ℕ) → v.blocks ≡ bs → AreLeft p now (take 1 bs ++ v.sparse) (b ∷ bs)
      by-blocks [] is = tt
      by-blocks (d ∷ rest) is =
          let listed : times d v.blocks ≡ one_if (nat_eq d d) + times d rest = ap (times d) is ∙ times-cons d rest d in
          let one : one_if (nat_eq d d) ≡ 1 = one-if-true (nat_eq d d) (eq-eqb d d refl) in
          let count : times d v.blocks ≡ one_if (nat_lt 0 (was.taken d)) = tracks.holds.blocks d in
          let behind : d < old.next_block = tracks.ahead d (ltb-true 0 (was.taken d) (one-if-from (nat_lt 0 (was.taken d)) (omega arith))) in
          let from : old.next_block ≤ b = takes.from in
          let sparse : times d (d ∷ v.sparse) ≡ one_if (nat_eq d d) + times d v.sparse = times-cons d v.sparse d in (
            omega arith,
            inl (omega arith),
            left-more p was now (λ a y own. own) v.sparse (d ∷ v.sparse) (λ c few. let more : times c (d ∷ v.sparse) ≡ one_if (nat_eq c d) + times c v.sparse = times-cons d v.sparse c in omega arith)
                (d ∷ rest) (subst (AreLeft p was v.sparse) is tracks.left),
          )

  ahead-now : (c : ℕ) → 0 < now.taken c → c < new.next_block
  ahead-now c some =
      let limit : new.next_block ≡ b + 1 = takes.next_block in
      let from : old.next_block ≤ b = takes.from in
      elim (cases_eq c b) as (λ _. c < new.next_block) [
        | inl e ↦ (let same : c ≡ b = e in omega arith)
        | inr ne ↦ (let behind : c < old.next_block = tracks.ahead c (subst (λ n. 0 < n) (taken-now c ne) some) in omega arith)
      ]

  pub tracks-left : Tracks p (es ++ TakeBlock b 1 ∷ []) new (left_view b v)
  tracks-left =
      let same : machine_after p (es ++ TakeBlock b 1 ∷ []) ≡ now = machine-next p es tracks.trace (TakeBlock b 1) in
      record {
        trace = trace-next p es tracks.trace (TakeBlock b 1) may-take;
        run = subst (λ r. IsRunOf p r) (sym takes.run) tracks.run;
        row = row-now ∙ ap (heap_in p) (sym same);
        holds = subst (λ n. Holds p n (left_view b v)) (sym same) holds-now;
        room = subst (λ n. IsCopyRoom p n (b ∷ v.blocks) new.block new.room) (sym same) room-now;
        left = subst (λ n. AreLeft p n (take 1 v.blocks ++ v.sparse) (b ∷ v.blocks)) (sym same) left-now;
        stayed = λ x is young moves. absurd (let taken : 0 < was.taken b =
            (sound p es tracks.trace).reasons.stays x (ap (λ (n : Machine). target (n.stage x)) (sym same) ∙ is) young moves b free-here.0 in
            let none : was.taken b ≡ 0 = free-here.1 in omega arith);
        passed = λ c l free. subst (λ n. 0 < n.taken c) (sym same) (passed-now c l free);
        ahead = λ c some. ahead-now c (subst (λ n. 0 < n.taken c) same some);
      }

-- no Free block is found
module _ (p : Setup) (es : List Event) (old new : PlainTrace) (v : View) (tracks : Tracks p es old v) (finds : FindsNone old new) where
  pub none-free : NoneIsFree p (machine_after p es).taken
  none-free c free = elim (cases_lt c old.next_block) as (λ _. 0 < (machine_after p es).taken c) [
    | inl low ↦ tracks.passed c low free
    | inr high ↦ elim (cases_eq ((machine_after p es).taken c) 0) as (λ _. 0 < (machine_after p es).taken c) [
      | inl none ↦ absurd (finds.none c (omega arith) (subst (λ s. HasKind s c kinds.Free) (sym tracks.row) (free-still p es tracks.trace c free none)))
      | inr some ↦ (let taken : (machine_after p es).taken c ≢ 0 = some in omega arith)
    ]
  ]

  pub tracks-same : Tracks p es new v
  tracks-same = record {
    trace = tracks.trace;
    run = subst (λ r. IsRunOf p r) (sym finds.run) tracks.run;
    row = ap state_of finds.row ∙ tracks.row;
    holds = tracks.holds;
    room = subst (λ r. IsCopyRoom p (machine_after p es) v.blocks new.block r) (sym finds.room) (subst (λ n. IsCopyRoom p (machine_after p es) v.blocks n old.room) (sym finds.block) tracks.room);
    left = tracks.left;
    stayed = subst (StayWithoutRoom p (machine_after p es)) (sym finds.room) tracks.stayed;
    passed = λ c l free. none-free c free;
    ahead = λ c some.
        let free = (sound p es tracks.trace).objects.free c some in
        let there : c < blocks p = ltb-true c (blocks p) (and_parts (nat_lt c (blocks p)) (nat_eq (block_word p.before c % 256) 0) free).0 in
        let same : old.row.layout.blocks ≡ blocks p = blocks-are p es old v tracks in
        let limit : new.next_block ≡ old.row.layout.blocks = finds.next_block in omega arith;
  }

-- no block before the next one to try is Free
pub passed-free : (t : PlainTrace) (Right : Setup → List Event → View → Type 0) → TracerHolds t Right → (c : ℕ) → c < t.next_block → HasKind (state_of t.row) c kinds.Free → ⊥
passed-free t Right is c low free =
    let was = free-was is.setup is.events is.tracks.trace c (subst (λ s. HasKind s c kinds.Free) is.tracks.row free) in
    let none : (machine_after is.setup is.events).taken c ≡ 0 = was.1 in
    let some : 0 < (machine_after is.setup is.events).taken c = is.tracks.passed c low was.0 in omega arith

-- each lower block that is Free was passed over, so there is none
pub lowest-taken : (p : Setup) (es : List Event) (old new : PlainTrace) (b : ℕ) (v : View) → Tracks p es old v → TakesCopyBlock old new b → (c : ℕ) → c < b → HasKind (heap_after p es) c kinds.Free → ⊥
lowest-taken p es old new b v tracks takes c low free = elim (cases_lt c old.next_block) as (λ _. ⊥) [
  | inl before ↦ (let was = free-was p es tracks.trace c free in
      let none : (machine_after p es).taken c ≡ 0 = was.1 in
      let some : 0 < (machine_after p es).taken c = tracks.passed c before was.0 in omega arith)
  | inr from ↦ takes.lower c from low (subst (λ s. HasKind s c kinds.Free) (sym tracks.row) free)
]

-- room with free words is in a block that the tracer took
module _ (p : Setup) (es : List Event) (t : PlainTrace) (v : View) (tracks : Tracks p es t v) (some : t.room.next < t.room.end) where
  by-blocks : (bs : List ℕ) → v.blocks ≡ bs → IsCopyRoom p (machine_after p es) bs t.block t.room → (b : ℕ) × (rest : List ℕ) × (v.blocks ≡ b ∷ rest)
  by-blocks [] is room = absurd (let same : t.room.next ≡ t.room.end = room in omega arith)
  by-blocks (b ∷ rest) is room = (b, rest, is)

  pub last : (b : ℕ) × (rest : List ℕ) × (v.blocks ≡ b ∷ rest)
  last = by-blocks v.blocks refl tracks.room

  pub room-there : IsCopyRoom p (machine_after p es) (last.0 ∷ last.1) t.block t.room
  room-there = subst (λ bs. IsCopyRoom p (machine_after p es) bs t.block t.room) last.2 tracks.room

  pub room-end : t.room.end ≡ 4096
  room-end = room-there.1

  pub room-taken : 0 < (machine_after p es).taken t.block
  room-taken = let count : times last.0 v.blocks ≡ one_if (nat_lt 0 ((machine_after p es).taken last.0)) = tracks.holds.blocks last.0 in
      let listed : times last.0 v.blocks ≡ one_if (nat_eq last.0 last.0) + times last.0 last.1 = ap (times last.0) last.2 ∙ times-cons last.0 last.1 last.0 in
      let one : one_if (nat_eq last.0 last.0) ≡ 1 = one-if-true (nat_eq last.0 last.0) (eq-eqb last.0 last.0 refl) in
      subst (λ b. 0 < (machine_after p es).taken b) (sym room-there.0) (ltb-true 0 ((machine_after p es).taken last.0) (one-if-from (nat_lt 0 ((machine_after p es).taken last.0)) (omega arith)))

  pub room-block : t.block < t.row.layout.blocks
  room-block =
      let free = (sound p es tracks.trace).objects.free t.block room-taken in
      let there : t.block < blocks p = ltb-true t.block (blocks p) (and_parts (nat_lt t.block (blocks p)) (nat_eq (block_word p.before t.block % 256) 0) free).0 in
      let same : t.row.layout.blocks ≡ blocks p = blocks-are p es t v tracks in omega arith

pub blocks-now : (p : Setup) (es : List Event) (old new : PlainTrace) (b : ℕ) (v : View) → Tracks p es old v → TakesCopyBlock old new b → new.row.layout.blocks ≡ blocks p
blocks-now p es old new b v tracks takes = ap (λ s. s.blocks) takes.row ∙ blocks-are p es old v tracks

pub room-order : (p : Setup) (es : List Event) (t : PlainTrace) (v : View) → Tracks p es t v → t.room.next ≤ t.room.end
room-order p es t v tracks = by-blocks v.blocks tracks.room
  where
    by-blocks : (bs : List ℕ) → IsCopyRoom p (machine_after p es) bs t.block t.room → t.room.next ≤ t.room.end
    by-blocks [] is = let same : t.room.next ≡ t.room.end = is in omega arith
    by-blocks (b ∷ earlier) is = let end : t.room.end ≡ 4096 = is.1 in let next : t.room.next ≤ 4096 = is.2 in omega arith
