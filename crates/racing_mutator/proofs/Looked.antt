-- What loads of words of a block tell.
use Rattle.std.proofs.Common.{◌≡◌, sym, ◌∙◌, ap, subst, ℕ, ◌+◌, ◌*◌, ◌-◌, ◌/◌, ◌%◌, ◌<◌, ◌≤◌, inl, inr, arith, IsTrue, List, ◌++◌, length, slice_index, eq-eqb, eqb-true, true}
use Rattle.std.specs.List.{Contains}
use Rattle.std.specs.Int.{bit_at}
use Rattle.heap_layout.specs.Blocks.{is_block_code}
use Rattle.racing_rooms.proofs.BlockCodes.{block-code}
use Rattle.heap_layout.specs.Zones.{LineWords, StartBits, InZone, IsAddress, block_start, first}
use Rattle.heap_layout.proofs.MarkLemmas.{address_bit-at_address}
use Rattle.line_marks.specs.Bits.{bit_in}
use Rattle.object_model.specs.BitWords.{bit_word, bit_place}
use Rattle.object_model.specs.Objects.{HeapState, word_at, block_word, owner_at, IsHeld}
use Rattle.object_model.proofs.Marks as marks
use Rattle.object_model.proofs.ObjectReads.{readable}
use Rattle.sessions.specs.Plans.{Rules}
use Rattle.mutator_core.specs.declared.state.Event.TheVariants as e
use Rattle.mutator_core.specs.declared.state.Loaded.{Loaded}
use Rattle.mutator_core.specs.declared.state.Local.{Local}
use Rattle.mutator_core.specs.declared.state.LogEntry.{LogEntry}
use Rattle.mutator_core.specs.Machine.{Epoch}
use Rattle.mutator_core.specs.Epochs.{IsInEpoch, IsOwned}
use Rattle.mutator_core.specs.Guards.{HasSeenStart}
use Rattle.mutator_core.specs.Logs.{machine_after, heap_after, local_after_log}
use Rattle.mutator_core.specs.Seen.{IsLoaded}
use Rattle.mutator_core.proofs.EpochEnds.{log-loaded, log-seen}
use Rattle.mutator_core.proofs.Fills.{owned-owner}
use Rattle.mutator_core.proofs.Lists.{contains-here}
use Rattle.mutator_core.proofs.Regions.{stays-later}
use Rattle.mutator_rule.specs.declared.views.MutatorView.{MutatorView}
use Rattle.mutator_rule.specs.Logs.{MakesStep, KnowsLog}
use Rattle.mutator_rule.specs.Views.{epoch_with}
use Rattle.mutator_rule.proofs.Moments as moments
use Rattle.racing_mutator.specs.declared.racing.Racing.{Racing}
use Rattle.racing_mutator.specs.RacingSeats.{view, local, epoch_of_racing}
use Rattle.racing_mutator.specs.Looks.{HasLoaded}
use Rattle.racing_mutator.proofs.Looking.{just-before}

-- a line word is as the epoch began
pub line-found : {P : Type 0} (rules : Rules) (a : Racing P) (v : MutatorView) (at n : ℕ) → KnowsLog (epoch_of_racing rules a) (view a) → MakesStep rules (view a) (e.LoadSide at) n v
    → InZone (epoch_of_racing rules a).before.blocks LineWords at → n ≡ slice_index (epoch_of_racing rules a).before.words at
line-found rules a v at n told st zone =
    let p : Epoch = epoch_of_racing rules a in
    let log : List LogEntry = (view a).seen ++ st.between in
    st.word ∙ (log-loaded p st.told.ideal log (just-before rules a v (e.LoadSide at) n st told)).lines at zone

-- a block word without an owner is as the epoch began, and an owner stays
module _ {P : Type 0} (rules : Rules) (a : Racing P) (v : MutatorView) (k n : ℕ) (told : KnowsLog (epoch_of_racing rules a) (view a)) (st : MakesStep rules (view a) (e.LoadBlock k) n v) (there : k < (epoch_of_racing rules a).before.blocks) where
  abbrev p : Epoch
  p = epoch_of_racing rules a

  abbrev log : List LogEntry
  log = (view a).seen ++ st.between

  now : IsInEpoch p (heap_after p log) (machine_after p log).locals
  now = moments.epoch p st.told.ideal log (just-before rules a v (e.LoadBlock k) n st told)

  pub unowned-found : n / 65536 ≡ 0 → n ≡ block_word p.before k
  unowned-found none = elim (now.blocks k there) as (λ _. n ≡ block_word p.before k) [
    | inl same ↦ st.word ∙ same
    | inr own ↦ absurd (
        let is : IsOwned p (heap_after p log) ((machine_after p log).locals own.0).number own.1 = (now.knows own.0).owned own.1 own.2 in
        let some : 0 < ((machine_after p log).locals own.0).number = is.somebody in
        let owner : owner_at (heap_after p log) own.1.block ≡ ((machine_after p log).locals own.0).number = owned-owner p (heap_after p log) ((machine_after p log).locals own.0).number own.1 is in
        let word : n ≡ block_word (heap_after p log) k = st.word in
        let here : block_word (heap_after p log) own.1.block ≡ n = ap (block_word (heap_after p log)) own.3 ∙ sym word in
        omega arith)
  ]

  pub code-found : IsTrue (is_block_code n)
  code-found =
      let is-log = just-before rules a v (e.LoadBlock k) n st told in
      let word : n ≡ block_word (heap_after p log) k = st.word in
      subst (λ (w : ℕ). IsTrue (is_block_code w)) (sym word) (block-code p is-log.ready (machine_after p log) now k there)

  pub owner-stays : 0 < n / 65536 → 0 < owner_at (heap_after (epoch_with rules v.start) v.seen) k
  owner-stays some =
      let q : Epoch = epoch_with rules v.start in
      let x : Loaded = record { at = k; word = n } in
      let among : Contains (local_after_log q v.seen v.local.number).blocks x =
      subst (λ (l : Local). Contains l.blocks x) told-b.now (subst (λ (l : Local). Contains l.blocks x) (sym st.local) (contains-here x (local a).blocks)) in
      ((log-seen q told-b.ideal v.seen told-b.epoch).blocks v.local.number x among).1.owned some
    where
      told-b : KnowsLog (epoch_with rules v.start) v
      told-b = subst (λ g. KnowsLog (epoch_with rules g) v) (sym st.start) st.told

-- an object of which the mutator saw the start bit is held
module _ {P : Type 0} (rules : Rules) (a : Racing P) (told : KnowsLog (epoch_of_racing rules a) (view a)) (o : ℕ) (address : IsAddress (epoch_of_racing rules a).before.blocks o) (saw : HasSeenStart (epoch_of_racing rules a) (local a) o) where
  abbrev r : Epoch
  r = epoch_of_racing rules a

  abbrev h : HeapState
  h = heap_after r (view a).seen

  pub start-held : IsHeld h o
  start-held =
      let x : Loaded = saw.0 in
      let is : IsLoaded r h x = (log-loaded r told.ideal (view a).seen told.epoch).words (local a).number x (subst (λ (l : Local). Contains l.loaded x) told.now saw.1) in
      let set : bit_at (word_at h x.at) (bit_place r.before.blocks o) ≡ 1 = is.still (subst (InZone r.before.blocks StartBits) (sym saw.2) in-starts) (bit_place r.before.blocks o) saw.3 in
      marks.held h o (address_bit-at_address r.before.blocks StartBits h.words o address
      ∙ eq-eqb (bit_at (word_at h (bit_word r.before.blocks StartBits o)) (bit_place r.before.blocks o)) 1 (subst (λ (i : ℕ). bit_at (word_at h i) (bit_place r.before.blocks o) ≡ 1) saw.2 set))
    where
      in-starts : InZone r.before.blocks StartBits (bit_word r.before.blocks StartBits o)
      in-starts = let from = address.from in let below = address.below in record { from = omega arith; below = omega arith }

  pub shape-inside : o + 1 < length r.before.words
  shape-inside = let e = moments.held-ends r told.ideal (view a).seen told.epoch o start-held in omega arith

  -- its shape word is within the limits
  pub shape-small : (v : MutatorView) (n : ℕ) → MakesStep rules (view a) (e.LoadShapeAt o) n v → (n % 65536 ≤ 1024) × (n / 65536 ≤ 60000)
  shape-small v n st =
      let same : n ≡ word_at h (o + 1) = st.word ∙ (stays-later r st.told.ideal (view a).seen st.between (just-before rules a v (e.LoadShapeAt o) n st told) o start-held).1 1 (omega arith) in
      let is = (readable h (moments.order r told.ideal (view a).seen told.epoch) o start-held).object in
      (subst (λ (w : ℕ). w % 65536 ≤ 1024) (sym same) is.refs, subst (λ (w : ℕ). w / 65536 ≤ 60000) (sym same) is.nums)

-- the words of a block's lines, and of its start bits
pub line-zone : (b k at i : ℕ) → k < b → at ≡ first b LineWords + 4 * k → i < 4 → InZone b LineWords (at + i)
line-zone b k at i there is few = record { from = omega arith; below = omega arith }

pub start-zone : (b k at i : ℕ) → k < b → at ≡ first b StartBits + 64 * k → i < 64 → InZone b StartBits (at + i)
start-zone b k at i there is few = record { from = omega arith; below = omega arith }

-- a start bit that is set in the words loaded was seen
pub seen-start : (p : Epoch) (l : Local) (k offset : ℕ) (starts : List ℕ) → k < p.before.blocks → ((n : ℕ) → n < 64 → HasLoaded l (first p.before.blocks StartBits + 64 * k + n) (slice_index starts n))
    → offset < 4096 → bit_in starts offset ≡ true → HasSeenStart p l (block_start p.before.blocks k + offset)
seen-start p l k offset starts there loaded below set =
    let b : ℕ = p.before.blocks in
    let place : offset % 64 ≡ bit_place p.before.blocks (block_start p.before.blocks k + offset) = omega arith in (
      record { at = first p.before.blocks StartBits + 64 * k + offset / 64; word = slice_index starts (offset / 64) },
      loaded (offset / 64) (omega arith),
      omega arith,
      subst (λ (j : ℕ). bit_at (slice_index starts (offset / 64)) j ≡ 1) place (eqb-true (bit_at (slice_index starts (offset / 64)) (offset % 64)) 1 set),
    )
