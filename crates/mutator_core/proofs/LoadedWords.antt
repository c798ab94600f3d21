-- The line words, start words and header words that mutators loaded.
use Rattle.std.proofs.Common.{◌≡◌, refl, sym, ◌∙◌, ap, subst, ℕ, ◌+◌, ◌*◌, ◌<◌, ◌≤◌, ◌⊎◌, inl, inr, arith, Bool, true, false, List, [], ◌∷◌, slice_index, slice_set, nat_eq, eq-eqb, add-zero, length}
use Rattle.std.specs.Prelude.{if◌then◌else◌}
use Rattle.std.specs.List.{Contains}
use Rattle.std.specs.Int.{bit_at}
use Rattle.std.proofs.lemmas.Bool.{cases_eq}
use Rattle.std.proofs.lemmas.Nat.Bits.{same_from_bits, bit_at-lt}
use Rattle.std.proofs.lemmas.List.{get_or-set_same, get_or-set_other}
use Rattle.heap_layout.specs.Zones.{LineWords, StartBits, InZone, heap_of, row_words, IsAddress}
use Rattle.ideal_heap.specs.declared.command.Command.TheVariants as c
use Rattle.ideal_heap.specs.Ideal.{IdealHeap}
use Rattle.object_model.specs.Objects.{HeapState, with_words, word_at, IsHeld}
use Rattle.object_model.specs.Graphs.{numbers_of}
use Rattle.object_model.proofs.Marks.{mark-from}
use Rattle.mutator_core.specs.declared.state.Local.{Local}
use Rattle.mutator_core.specs.declared.state.Loaded.{Loaded}
use Rattle.mutator_core.specs.declared.state.Event.{Event}
use Rattle.mutator_core.specs.declared.state.Event.TheVariants as e
use Rattle.mutator_core.specs.declared.state.LogEntry.{LogEntry}
use Rattle.mutator_core.specs.Machine.{Epoch, Machine, heap_in, address_in, next, found, found_code, local_after, taken, first_local_of}
use Rattle.side_meta.specs.BitWords.{with_bit}
use Rattle.object_model.specs.BitWords.{bit_word, bit_place}
use Rattle.mutator_core.specs.Guards.{MayStep, MayPerform}
use Rattle.mutator_core.specs.Histories.{after, IsLog}
use Rattle.mutator_core.specs.Epochs.{EpochMayBegin}
use Rattle.mutator_core.specs.Seen.{IsLoaded, AreLoaded}
use Rattle.mutator_core.proofs.Lists.{contains-cases, contains-none, with_local, local-cases}
use Rattle.mutator_core.proofs.Spots.{spot}
use Rattle.mutator_core.proofs.Kept.{Leaves}
use Rattle.side_meta.proofs.BitWords as single
use Rattle.mutator_core.proofs.Quiet.{in-register}
use Rattle.mutator_core.proofs.Published as published
use Rattle.mutator_core.proofs.Beginnings.{first-states}
use Rattle.mutator_core.proofs.Law.{Goes, goes, is_publication}
use Rattle.mutator_core.proofs.Moments.{Holds, same-words}

abbrev loads_side : Event → Bool
loads_side (e.LoadName s) = true
loads_side (e.LoadShapeAt a) = true
loads_side (e.LoadSide k) = true
loads_side _ = false

taken-loaded : (p : Epoch) (l : Local) (k class n : ℕ) (free b : Bool) → (if b then taken p l k class free else record l { blocks = (record { at = k; word = n }) ∷ l.blocks }).loaded ≡ l.loaded
taken-loaded p l k class n true true = refl
taken-loaded p l k class n false true = refl
taken-loaded p l k class n free false = refl

loaded-same : (p : Epoch) (l : Local) (x : Event) (n : ℕ) → loads_side x ≡ false → (local_after p l x n).loaded ≡ l.loaded
loaded-same p l (e.Perform (c.New d refs nums)) n other = refl
loaded-same p l (e.Perform (c.Get d s i)) n other = refl
loaded-same p l (e.Perform (c.Put s i v)) n other = refl
loaded-same p l (e.Perform (c.Read s j)) n other = refl
loaded-same p l (e.Perform (c.Write s j v)) n other = refl
loaded-same p l (e.Perform (c.Add s j v)) n other = refl
loaded-same p l (e.Perform (c.Swap s j was v)) n other = refl
loaded-same p l (e.Perform (c.Move d s)) n other = refl
loaded-same p l (e.Perform (c.DropReg s)) n other = refl
loaded-same p l (e.Perform (c.Load d g)) n other = refl
loaded-same p l (e.Perform (c.Share g s)) n other = refl
loaded-same p l (e.Perform (c.Pin s)) n other = refl
loaded-same p l (e.Perform (c.Unpin s)) n other = refl
loaded-same p l (e.Perform c.Gc) n other = refl
loaded-same p l (e.Perform c.Meet) n other = refl
loaded-same p l (e.Miss command) n other = refl
loaded-same p l e.Poll n other = refl
loaded-same p l (e.LoadShape s) n other = refl
loaded-same p l (e.LoadCollector s) n other = refl
loaded-same p l (e.LoadBlock k) n other = refl
loaded-same p l (e.LoadUnlog s) n other = refl
loaded-same p l e.Raise n other = refl
loaded-same p l (e.ClearUnlog s) n other = refl
loaded-same p l (e.Initialize a refs nums k) n other = refl
loaded-same p l e.DrawTicket n other = refl
loaded-same p l (e.TakeBlock k class free) n other = taken-loaded p l k class n free (nat_eq n (found_code p class free))
loaded-same p l (e.LoadName s) n other = absurd (let wrong : true ≡ false = other in cc)
loaded-same p l (e.LoadShapeAt a) n other = absurd (let wrong : true ≡ false = other in cc)
loaded-same p l (e.LoadSide k) n other = absurd (let wrong : true ≡ false = other in cc)

module _ (p : Epoch) (ready : EpochMayBegin p) (h : Machine) (i : IdealHeap) (set : ℕ → Type 0) (now : Holds p h i set) (m : ℕ) (known : Contains (numbers_of p.mutators) m) (loaded : AreLoaded p (heap_in p h) h.locals) where
  abbrev s : HeapState
  s = heap_in p h

  abbrev l : Local
  l = h.locals m

  -- a row in which line words stay, and start words gain bits
  kept : (w : List ℕ) (l' : Local) → Leaves s w → ((k : ℕ) → InZone s.blocks LineWords k → slice_index w k ≡ word_at s k)
      → ((k : ℕ) → InZone s.blocks StartBits k → (b : ℕ) → bit_at (word_at s k) b ≡ 1 → bit_at (slice_index w k) b ≡ 1)
      → ((x : Loaded) → Contains l'.loaded x → Contains l.loaded x ⊎ IsLoaded p (with_words s w) x) → AreLoaded p (with_words s w) (with_local h.locals m l')
  kept w l' leaves lines starts more = record {
    lines = λ k zone. lines k zone ∙ loaded.lines k zone;
    starts = λ k zone b bit. starts k zone b (loaded.starts k zone b bit);
    words = λ q x there. local-cases (λ j z. Contains z.loaded x → IsLoaded p (with_words s w) x) h.locals m l' q
        (λ e is. elim (more x is) as (λ _. IsLoaded p (with_words s w) x) [ inl old ↦ left x (loaded.words m x old) | inr new ↦ new ])
        (λ other is. left x (loaded.words q x is)) there;
  }
    where
      left : (x : Loaded) → IsLoaded p s x → IsLoaded p (with_words s w) x
      left x is = record {
        line = is.line;
        since = is.since;
        still = λ zone b bit. starts x.at zone b (is.still zone b bit);
        header = λ zone. let old = is.header zone in
            (old.0, old.1, leaves.held old.0 old.2, old.3, old.4, old.5 ∙ ap (word_at s) old.4 ∙ sym (ap (slice_index w) old.4 ∙ leaves.headers old.0 old.1 old.2 old.3));
      }

  line-same : (x : Event) (may : MayStep p l x) (k : ℕ) → InZone s.blocks LineWords k → slice_index (next p h m x).words k ≡ word_at s k
  line-same x may k zone = let from : 18 + s.blocks ≤ k = zone.from in let below : k < 18 + s.blocks + 4 * s.blocks = zone.below in
      (spot p ready h i set now m known x may).sides k from (omega arith) (inr (omega arith))

  steady : (x : Event) (may : MayStep p l x) → is_publication x ≡ false → loads_side x ≡ false → AreLoaded p (heap_in p (next p h m x)) (next p h m x).locals
  steady x may quiet other = kept (next p h m x).words (local_after p l x (found p h m x)) (goes p ready h i set now m known x may).leaves (line-same x may)
      (λ k zone b bit. let from : 18 + 5 * s.blocks ≤ k = zone.from in let below : k < 18 + 5 * s.blocks + 64 * s.blocks = zone.below in
      let same : slice_index (next p h m x).words k ≡ word_at s k = (spot p ready h i set now m known x may).sides k (omega arith) (omega arith) (inl quiet) in
      ap (λ v. bit_at v b) same ∙ bit)
      (λ y there. inl (subst (λ (ys : List Loaded). Contains ys y) (loaded-same p l x (found p h m x) other) there))

  -- a start bit is set
  publish-loaded : (d refs nums : ℕ) (may : MayPerform p l (c.New d refs nums)) → AreLoaded p (heap_in p (next p h m (e.Perform (c.New d refs nums)))) (next p h m (e.Perform (c.New d refs nums))).locals
  publish-loaded d refs nums may = kept (next p h m (e.Perform (c.New d refs nums))).words (local_after p l (e.Perform (c.New d refs nums)) 0) (goes p ready h i set now m known (e.Perform (c.New d refs nums)) may).leaves
      (line-same (e.Perform (c.New d refs nums)) may) grows (λ y there. inl there)
    where
      grows : (k : ℕ) → InZone s.blocks StartBits k → (b : ℕ) → bit_at (word_at s k) b ≡ 1 → bit_at (slice_index (next p h m (e.Perform (c.New d refs nums))).words k) b ≡ 1
      grows k zone b bit = elim (cases_eq k (bit_word p.before.blocks StartBits l.unpublished.address)) as (λ _. bit_at (slice_index (next p h m (e.Perform (c.New d refs nums))).words k) b ≡ 1) [
        | inr other ↦ ap (λ v. bit_at v b) (get_or-set_other h.words (bit_word p.before.blocks StartBits l.unpublished.address) k _ 0 other) ∙ bit
        | inl same ↦
            (let at : ℕ = bit_word p.before.blocks StartBits l.unpublished.address in
            let n : ℕ = slice_index h.words at in
            let place : ℕ = bit_place p.before.blocks l.unpublished.address in
            let zones = published.starts-in-zone p ready h i set now m known d refs nums may.0 may.1 may.2 in
            let below : at < 18 + 69 * p.before.blocks = zones.1 in
            let many : length h.words ≡ row_words p.before.blocks = now.models.order.row.extent in
            let word : slice_index (next p h m (e.Perform (c.New d refs nums))).words k ≡ with_bit n place =
            ap (slice_index (next p h m (e.Perform (c.New d refs nums))).words) same ∙ get_or-set_same h.words at (with_bit n place) 0 (omega arith) in
            let was : bit_at n b ≡ 1 = subst (λ (q : ℕ). bit_at (word_at s q) b ≡ 1) same bit in
            ap (λ v. bit_at v b) word ∙ elim (cases_eq b place) as (λ _. bit_at (with_bit n place) b ≡ 1) [
              | inl own ↦ subst (λ (q : ℕ). bit_at (with_bit n place) q ≡ 1) (sym own) (single.with-same n place)
              | inr differ ↦ single.with-other n place b differ ∙ was
            ])
      ]

  -- a word that this step loads
  looked : (k at : ℕ) (l' : Local) → (IsLoaded p s (record { at = at; word = slice_index h.words k })) → l'.loaded ≡ (record { at = at; word = slice_index h.words k }) ∷ l.loaded
      → AreLoaded p (with_words s (slice_set h.words k (slice_index h.words k))) (with_local h.locals m l')
  looked k at l' is list = subst (λ (w : List ℕ). AreLoaded p (with_words s w) (with_local h.locals m l')) (sym (same-words h.words k))
      (kept h.words l' (record { held = λ a is. is; headers = λ a j is few. refl; owners = λ j there some. refl; unlogs = λ a is. is; lines = λ j line there few. refl }) (λ j zone. refl) (λ j zone b bit. bit)
      (λ y there. elim (contains-cases (record { at = at; word = slice_index h.words k }) l.loaded y (subst (λ (ys : List Loaded). Contains ys y) list there)) as (λ _. Contains l.loaded y ⊎ IsLoaded p s y) [
        | inl same ↦ inr (subst (IsLoaded p s) (sym same) is)
        | inr old ↦ inl old
      ]))

  -- a word of an object's header
  of-header : (a j : ℕ) → IsHeld s a → j < 3 → IsLoaded p s (record { at = a + j; word = word_at s (a + j) })
  of-header a j holds few = let from : heap_of s.blocks ≤ a = holds.address.from in record {
    line = λ zone. absurd (let below : a + j < 18 + s.blocks + 4 * s.blocks = zone.below in omega arith);
    since = λ zone. absurd (let below : a + j < 18 + 5 * s.blocks + 64 * s.blocks = zone.below in omega arith);
    still = λ zone. absurd (let below : a + j < 18 + 5 * s.blocks + 64 * s.blocks = zone.below in omega arith);
    header = λ zone. (a, j, holds, few, refl, refl);
  }

  of-side : (k : ℕ) → InZone s.blocks LineWords k ⊎ InZone s.blocks StartBits k → IsLoaded p s (record { at = k; word = word_at s k })
  of-side k zones = record {
    line = λ zone. loaded.lines k zone;
    since = λ zone. loaded.starts k zone;
    still = λ zone b bit. bit;
    header = λ zone. absurd (let from : 18 + 197 * s.blocks ≤ k = zone.from in elim zones as (λ _. ⊥) [
      | inl line ↦ (let below : k < 18 + s.blocks + 4 * s.blocks = line.below in omega arith)
      | inr start ↦ (let below : k < 18 + 5 * s.blocks + 64 * s.blocks = start.below in omega arith)
    ]);
  }

  -- an object whose start bit was seen is held
  seen-held : (a : ℕ) → MayStep p l (e.LoadShapeAt a) → IsHeld s a
  seen-held a may =
      let x : Loaded = may.1.0 in
      let at : x.at ≡ bit_word p.before.blocks StartBits a = may.1.2 in
      let from : heap_of p.before.blocks ≤ a = may.0.from in let below : a < row_words p.before.blocks = may.0.below in
      let zone : InZone s.blocks StartBits (bit_word p.before.blocks StartBits a) = record { from = omega arith; below = omega arith } in
      let bit : bit_at (word_at s (bit_word p.before.blocks StartBits a)) (bit_place p.before.blocks a) ≡ 1 =
      subst (λ (k : ℕ). bit_at (word_at s k) (bit_place p.before.blocks a) ≡ 1) at
      ((loaded.words m x may.1.1).still (subst (InZone s.blocks StartBits) (sym at) zone) (bit_place p.before.blocks a) may.1.3) in
      record { address = may.0; start = mark-from s.blocks StartBits h.words a may.0 (eq-eqb (bit_at (word_at s (bit_word p.before.blocks StartBits a)) (bit_place p.before.blocks a)) 1 bit) }

  pub loaded-next : (x : Event) → (may : MayStep p l x) → AreLoaded p (heap_in p (next p h m x)) (next p h m x).locals
  loaded-next (e.Perform (c.New d refs nums)) may = publish-loaded d refs nums may
  loaded-next (e.Perform c.Gc) may = absurd may
  loaded-next (e.Perform c.Meet) may = absurd may
  loaded-next (e.Perform (c.Get d s i)) may = steady (e.Perform (c.Get d s i)) may refl refl
  loaded-next (e.Perform (c.Put s i v)) may = steady (e.Perform (c.Put s i v)) may refl refl
  loaded-next (e.Perform (c.Read s j)) may = steady (e.Perform (c.Read s j)) may refl refl
  loaded-next (e.Perform (c.Write s j v)) may = steady (e.Perform (c.Write s j v)) may refl refl
  loaded-next (e.Perform (c.Add s j v)) may = steady (e.Perform (c.Add s j v)) may refl refl
  loaded-next (e.Perform (c.Swap s j was v)) may = steady (e.Perform (c.Swap s j was v)) may refl refl
  loaded-next (e.Perform (c.Move d s)) may = steady (e.Perform (c.Move d s)) may refl refl
  loaded-next (e.Perform (c.DropReg s)) may = steady (e.Perform (c.DropReg s)) may refl refl
  loaded-next (e.Perform (c.Load d g)) may = steady (e.Perform (c.Load d g)) may refl refl
  loaded-next (e.Perform (c.Share g s)) may = steady (e.Perform (c.Share g s)) may refl refl
  loaded-next (e.Perform (c.Pin s)) may = steady (e.Perform (c.Pin s)) may refl refl
  loaded-next (e.Perform (c.Unpin s)) may = steady (e.Perform (c.Unpin s)) may refl refl
  loaded-next (e.Miss command) may = steady (e.Miss command) may refl refl
  loaded-next e.Poll may = steady e.Poll may refl refl
  loaded-next (e.LoadShape s) may = steady (e.LoadShape s) may refl refl
  loaded-next (e.LoadCollector s) may = steady (e.LoadCollector s) may refl refl
  loaded-next (e.LoadBlock k) may = steady (e.LoadBlock k) may refl refl
  loaded-next (e.LoadUnlog s) may = steady (e.LoadUnlog s) may refl refl
  loaded-next e.Raise may = steady e.Raise may refl refl
  loaded-next (e.ClearUnlog s) may = steady (e.ClearUnlog s) may refl refl
  loaded-next (e.Initialize a refs nums k) may = steady (e.Initialize a refs nums k) may refl refl
  loaded-next e.DrawTicket may = steady e.DrawTicket may refl refl
  loaded-next (e.TakeBlock k class free) may = steady (e.TakeBlock k class free) may refl refl
  loaded-next (e.LoadName q) may = looked (address_in l q) (address_in l q) (local_after p l (e.LoadName q) (found p h m (e.LoadName q)))
      (subst (λ (k : ℕ). IsLoaded p s (record { at = k; word = word_at s k })) (add-zero (address_in l q)) (of-header (address_in l q) 0 (in-register p ready h i set now m known q may) (omega arith))) refl
  loaded-next (e.LoadShapeAt a) may = looked (a + 1) (a + 1) (local_after p l (e.LoadShapeAt a) (found p h m (e.LoadShapeAt a))) (of-header a 1 (seen-held a may) (omega arith)) refl
  loaded-next (e.LoadSide k) may = looked k k (local_after p l (e.LoadSide k) (found p h m (e.LoadSide k))) (of-side k may) refl

-- after each step of a log
pub loaded-ends : (p : Epoch) → EpochMayBegin p → (log : List LogEntry) (h : Machine) (i : IdealHeap) (set : ℕ → Type 0) → Holds p h i set → AreLoaded p (heap_in p h) h.locals → IsLog p h log → AreLoaded p (heap_in p (after p h log)) (after p h log).locals
loaded-ends p ready [] h i set now loaded is = loaded
loaded-ends p ready (x ∷ xs) h i set now loaded is =
    let step : Goes p h i x.mutator x.event = goes p ready h i set now x.mutator is.0 x.event is.1 in
    loaded-ends p ready xs (next p h x.mutator x.event) _ step.set step.moment (loaded-next p ready h i set now x.mutator is.0 loaded x.event is.1) is.3

-- from the beginning of an epoch
pub first-loaded : (p : Epoch) → AreLoaded p p.before (first_local_of p.mutators)
first-loaded p = record {
  lines = λ i zone. refl;
  starts = λ i zone k set. set;
  words = λ m x there. absurd (first-states (λ l. Contains l.loaded x → ⊥) (λ k. contains-none x) p.mutators m there);
}

-- a start word loaded of a block without an owner is that of the beginning
pub unowned-word : (p : Epoch) (s : HeapState) (x : Loaded) (a : ℕ) → IsLoaded p s x → IsAddress s.blocks a → x.at ≡ bit_word s.blocks StartBits a
    → ((k : ℕ) → bit_at (word_at s (bit_word s.blocks StartBits a)) k ≡ 1 → bit_at (word_at p.before (bit_word s.blocks StartBits a)) k ≡ 1) → x.word ≡ word_at p.before x.at
unowned-word p s x a is there at same = same_from_bits x.word (word_at p.before x.at) (λ k. each k (bit_at-lt x.word k) (bit_at-lt (word_at p.before x.at) k))
  where
    zone : InZone s.blocks StartBits x.at
    zone = subst (InZone s.blocks StartBits) (sym at) (let from : heap_of s.blocks ≤ a = there.from in let below : a < row_words s.blocks = there.below in record { from = omega arith; below = omega arith })

    each : (k : ℕ) → bit_at x.word k < 2 → bit_at (word_at p.before x.at) k < 2 → bit_at x.word k ≡ bit_at (word_at p.before x.at) k
    each k two two' = elim (cases_eq (bit_at x.word k) 1) as (λ _. bit_at x.word k ≡ bit_at (word_at p.before x.at) k) [
      | inl one ↦ one ∙ sym (subst (λ (w : ℕ). bit_at (word_at p.before w) k ≡ 1) (sym at) (same k (subst (λ (w : ℕ). bit_at (word_at s w) k ≡ 1) at (is.still zone k one))))
      | inr other ↦ elim (cases_eq (bit_at (word_at p.before x.at) k) 1) as (λ _. bit_at x.word k ≡ bit_at (word_at p.before x.at) k) [
        | inl one ↦ absurd (other (is.since zone k one))
        | inr none ↦ omega arith
      ]
    ]
