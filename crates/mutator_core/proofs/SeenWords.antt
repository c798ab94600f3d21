-- The stop word and the block words that mutators saw.
use Rattle.std.proofs.Common.{◌≡◌, refl, sym, ◌∙◌, ap, subst, ℕ, ◌+◌, ◌/◌, ◌%◌, ◌<◌, ◌⊎◌, inl, inr, arith, Bool, true, false, List, [], ◌∷◌, length, slice_index, slice_set, nat_eq, eq-eqb}
use Rattle.std.specs.Prelude.{if◌then◌else◌}
use Rattle.std.specs.List.{Contains}
use Rattle.std.proofs.lemmas.Bool.{cases_eq, ne_eqb}
use Rattle.std.proofs.lemmas.List.{get_or-set_same, get_or-set_other}
use Rattle.heap_layout.specs.Zones.{BlockWords, first, row_words}
use Rattle.heap_layout.specs.declared.block.Kind.TheVariants as kinds
use Rattle.ideal_heap.specs.declared.command.Command.TheVariants as c
use Rattle.ideal_heap.specs.Ideal.{IdealHeap}
use Rattle.object_model.specs.Objects.{HeapState, with_words, word_at, block_word, HasKind, owner_at}
use Rattle.object_model.specs.Graphs.{numbers_of}
use Rattle.object_model.proofs.Blocks as blocks
use Rattle.object_model.proofs.Frames.{has_kind-same}
use Rattle.object_model.proofs.OneKind.{kind-code, kind-from, kind-within}
use Rattle.mutator_core.specs.declared.state.Local.{Local}
use Rattle.mutator_core.specs.declared.state.Loaded.{Loaded}
use Rattle.mutator_core.specs.declared.state.Event.{Event}
use Rattle.mutator_core.specs.declared.state.Event.TheVariants as e
use Rattle.mutator_core.specs.declared.state.LogEntry.{LogEntry}
use Rattle.mutator_core.specs.Machine.{Epoch, Machine, heap_in, next, found, found_code, owned_code, local_after, taken, first_local_of}
use Rattle.mutator_core.specs.Guards.{MayStep, MayTake}
use Rattle.mutator_core.specs.Histories.{after, IsLog}
use Rattle.mutator_core.specs.Epochs.{EpochMayBegin}
use Rattle.mutator_core.specs.Seen.{IsSeen, AreSeen}
use Rattle.mutator_core.proofs.Lists.{contains-cases, contains-none, with_local, local-cases}
use Rattle.mutator_core.proofs.Spots.{Spot, spot, takes_block, raises_stop}
use Rattle.mutator_core.proofs.Kept.{Leaves}
use Rattle.mutator_core.proofs.Taken.{taken-not-free}
use Rattle.mutator_core.proofs.Beginnings.{first-states}
use Rattle.mutator_core.proofs.Law.{Goes, goes}
use Rattle.mutator_core.proofs.Moments.{Holds, same-words}

abbrev sees : Event → Bool
sees e.Poll = true
sees (e.LoadBlock k) = true
sees e.Raise = true
sees (e.TakeBlock k class free) = true
sees _ = false

seen-same : (p : Epoch) (l : Local) (x : Event) (n : ℕ) → sees x ≡ false → ((local_after p l x n).stop ≡ l.stop) × ((local_after p l x n).raised ≡ l.raised) × ((local_after p l x n).blocks ≡ l.blocks)
seen-same p l (e.Perform (c.New d refs nums)) n other = (refl, refl, refl)
seen-same p l (e.Perform (c.Get d s i)) n other = (refl, refl, refl)
seen-same p l (e.Perform (c.Put s i v)) n other = (refl, refl, refl)
seen-same p l (e.Perform (c.Read s j)) n other = (refl, refl, refl)
seen-same p l (e.Perform (c.Write s j v)) n other = (refl, refl, refl)
seen-same p l (e.Perform (c.Add s j v)) n other = (refl, refl, refl)
seen-same p l (e.Perform (c.Swap s j was v)) n other = (refl, refl, refl)
seen-same p l (e.Perform (c.Move d s)) n other = (refl, refl, refl)
seen-same p l (e.Perform (c.DropReg s)) n other = (refl, refl, refl)
seen-same p l (e.Perform (c.Load d g)) n other = (refl, refl, refl)
seen-same p l (e.Perform (c.Share g s)) n other = (refl, refl, refl)
seen-same p l (e.Perform (c.Pin s)) n other = (refl, refl, refl)
seen-same p l (e.Perform (c.Unpin s)) n other = (refl, refl, refl)
seen-same p l (e.Perform c.Gc) n other = (refl, refl, refl)
seen-same p l (e.Perform c.Meet) n other = (refl, refl, refl)
seen-same p l (e.Miss command) n other = (refl, refl, refl)
seen-same p l (e.LoadName s) n other = (refl, refl, refl)
seen-same p l (e.LoadShape s) n other = (refl, refl, refl)
seen-same p l (e.LoadCollector s) n other = (refl, refl, refl)
seen-same p l (e.LoadShapeAt a) n other = (refl, refl, refl)
seen-same p l (e.LoadSide k) n other = (refl, refl, refl)
seen-same p l (e.LoadUnlog s) n other = (refl, refl, refl)
seen-same p l (e.ClearUnlog s) n other = (refl, refl, refl)
seen-same p l (e.Initialize a refs nums k) n other = (refl, refl, refl)
seen-same p l e.DrawTicket n other = (refl, refl, refl)
seen-same p l e.Poll n other = absurd (let wrong : true ≡ false = other in cc)
seen-same p l (e.LoadBlock k) n other = absurd (let wrong : true ≡ false = other in cc)
seen-same p l e.Raise n other = absurd (let wrong : true ≡ false = other in cc)
seen-same p l (e.TakeBlock k class free) n other = absurd (let wrong : true ≡ false = other in cc)

-- what a mutator saw stays true
pub seen-left : (s : HeapState) (w : List ℕ) (x : Loaded) → Leaves s w → (HasKind (with_words s w) x.at kinds.Free → HasKind s x.at kinds.Free) → (x.at < s.blocks) × IsSeen s x → (x.at < s.blocks) × IsSeen (with_words s w) x
seen-left s w x leaves back is = (
  is.0,
  record {
    used = λ some free. is.1.used some (back free);
    owned = λ some. let before : 0 < owner_at s x.at = is.1.owned some in subst (λ (v : ℕ). 0 < v / 65536) (sym (leaves.owners x.at is.0 before)) before;
  },
)

module _ (p : Epoch) (ready : EpochMayBegin p) (h : Machine) (i : IdealHeap) (set : ℕ → Type 0) (now : Holds p h i set) (m : ℕ) (known : Contains (numbers_of p.mutators) m) (seen : AreSeen p (heap_in p h) h.locals) where
  abbrev s : HeapState
  s = heap_in p h

  abbrev l : Local
  l = h.locals m

  -- with another state of m, in which nothing was seen anew
  kept : (w : List ℕ) (l' : Local) → Leaves s w → slice_index w 0 ≡ word_at s 0 → ((k : ℕ) → HasKind (with_words s w) k kinds.Free → HasKind s k kinds.Free)
      → (0 < l'.stop → word_at s 0 ≡ l'.stop) → (l.raised ≡ true → l'.raised ≡ true) → ((x : Loaded) → Contains l'.blocks x → Contains l.blocks x ⊎ ((x.at < s.blocks) × IsSeen (with_words s w) x))
      → AreSeen p (with_words s w) (with_local h.locals m l')
  kept w l' leaves word free polled raised blocks = record {
    stop = elim seen.stop as (λ _. (slice_index w 0 ≡ 0) ⊎ (Contains (numbers_of p.mutators) (slice_index w 0) × ((with_local h.locals m l' (slice_index w 0)).raised ≡ true))) [
      | inl none ↦ inl (word ∙ none)
      | inr some ↦ inr (subst (λ (v : ℕ). Contains (numbers_of p.mutators) v × ((with_local h.locals m l' v).raised ≡ true)) (sym word)
          (some.0, local-cases (λ q z. (h.locals q).raised ≡ true → z.raised ≡ true) h.locals m l' (word_at s 0) (λ e. raised) (λ other is. is) some.1))
    ];
    polled = λ q. local-cases (λ j z. 0 < z.stop → slice_index w 0 ≡ z.stop) h.locals m l' q (λ e some. word ∙ polled some) (λ other some. word ∙ seen.polled q some);
    blocks = λ q x there. local-cases (λ j z. Contains z.blocks x → (x.at < s.blocks) × IsSeen (with_words s w) x) h.locals m l' q
        (λ e is. elim (blocks x is) as (λ _. (x.at < s.blocks) × IsSeen (with_words s w) x) [
          | inl old ↦ seen-left s w x leaves (free x.at) (seen.blocks m x old)
          | inr new ↦ new
        ]) (λ other is. seen-left s w x leaves (free x.at) (seen.blocks q x is)) there;
  }

  leaves-of : (x : Event) (may : MayStep p l x) → Leaves s (next p h m x).words
  leaves-of x may = (goes p ready h i set now m known x may).leaves

  spot-of : (x : Event) (may : MayStep p l x) → Spot s (next p h m x).words x
  spot-of x may = spot p ready h i set now m known x may

  free-then : (x : Event) (may : MayStep p l x) → takes_block x ≡ false → (k : ℕ) → HasKind (with_words s (next p h m x).words) k kinds.Free → HasKind s k kinds.Free
  free-then x may other k is = sym (has_kind-same s (next p h m x).words ((spot-of x may).blocks other) k kinds.Free) ∙ is

  steady : (x : Event) (may : MayStep p l x) → sees x ≡ false → takes_block x ≡ false → raises_stop x ≡ false → AreSeen p (heap_in p (next p h m x)) (next p h m x).locals
  steady x may other takes raises =
      let same = seen-same p l x (found p h m x) other in
      kept (next p h m x).words (local_after p l x (found p h m x)) (leaves-of x may) ((spot-of x may).stop raises) (free-then x may takes)
      (λ some. seen.polled m (subst (λ (v : ℕ). 0 < v) same.0 some) ∙ sym same.0) (λ is. same.1 ∙ is) (λ y there. inl (subst (λ (ys : List Loaded). Contains ys y) same.2 there))

  poll-seen : (may : MayStep p l e.Poll) → AreSeen p (heap_in p (next p h m e.Poll)) (next p h m e.Poll).locals
  poll-seen may = kept (next p h m e.Poll).words (record l { stop = word_at s 0 }) (leaves-of e.Poll may) ((spot-of e.Poll may).stop refl) (free-then e.Poll may refl) (λ some. refl) (λ is. is) (λ y there. inl there)

  -- a block word that was loaded
  loaded : (k : ℕ) → k < s.blocks → (x : Loaded) → x ≡ record { at = k; word = block_word s k } → (x.at < s.blocks) × IsSeen s x
  loaded k there x e = subst (λ (y : Loaded). (y.at < s.blocks) × IsSeen s y) (sym e) (there, record { used = λ some free. some (kind-code s k kinds.Free free); owned = λ some. some })

  load-seen : (k : ℕ) (may : MayStep p l (e.LoadBlock k)) → AreSeen p (heap_in p (next p h m (e.LoadBlock k))) (next p h m (e.LoadBlock k)).locals
  load-seen k may = subst (λ (w : List ℕ). AreSeen p (with_words s w) (with_local h.locals m view)) (sym (same-words h.words (first s.blocks BlockWords + k)))
      (kept h.words view (record { held = λ a is. is; headers = λ a j is few. refl; owners = λ j there some. refl; unlogs = λ a is. is; lines = λ j line there few. refl }) refl (λ j is. is)
      (seen.polled m) (λ is. is) (λ y there. elim (contains-cases (record { at = k; word = block_word s k }) l.blocks y there) as (λ _. Contains l.blocks y ⊎ ((y.at < s.blocks) × IsSeen s y)) [
        | inl e ↦ inr (loaded k may y e)
        | inr old ↦ inl old
      ]))
    where
      view : Local
      view = record l { blocks = (record { at = k; word = block_word s k }) ∷ l.blocks }

  abbrev raised : Local
  raised = record l { raised = true }

  abbrev raised_words : Bool → List ℕ
  raised_words none = slice_set h.words 0 (if none then l.number else word_at s 0)

  first-raise : word_at s 0 ≡ 0 → Leaves s (raised_words true) → AreSeen p (with_words s (raised_words true)) (with_local h.locals m raised)
  first-raise none leaves = record {
    stop = inr (subst (λ (v : ℕ). Contains (numbers_of p.mutators) v × ((with_local h.locals m raised v).raised ≡ true)) (sym (word ∙ now.epoch.numbers m))
        (known, local-cases (λ q z. q ≡ m → z.raised ≡ true) h.locals m raised m (λ e same. refl) (λ other same. absurd (other same)) refl));
    polled = λ q. local-cases (λ j z. 0 < z.stop → slice_index (raised_words true) 0 ≡ z.stop) h.locals m raised q (λ e some. never m some) (λ other some. never q some);
    blocks = λ q x there. seen-left s (raised_words true) x leaves (λ free. sym (has_kind-same s (raised_words true) (λ k inside. get_or-set_other h.words 0 (first s.blocks BlockWords + k) l.number 0 (λ e. omega arith)) x.at kinds.Free) ∙ free)
        (local-cases (λ j z. Contains z.blocks x → (x.at < s.blocks) × IsSeen s x) h.locals m raised q (λ e is. seen.blocks m x is) (λ other is. seen.blocks q x is) there);
  }
    where
      word : slice_index (raised_words true) 0 ≡ l.number
      word = get_or-set_same h.words 0 l.number 0 (let many : length h.words ≡ row_words p.before.blocks = now.models.order.row.extent in omega arith)

      never : (q : ℕ) → 0 < (h.locals q).stop → slice_index (raised_words true) 0 ≡ (h.locals q).stop
      never q some = absurd (let e : word_at s 0 ≡ (h.locals q).stop = seen.polled q some in omega arith)

  raise-seen : (may : MayStep p l e.Raise) → AreSeen p (heap_in p (next p h m e.Raise)) (next p h m e.Raise).locals
  raise-seen may = elim (cases_eq (word_at s 0) 0) as (λ _. AreSeen p (with_words s (raised_words (nat_eq (word_at s 0) 0))) (with_local h.locals m raised)) [
    | inl none ↦ subst (λ (b : Bool). Leaves s (raised_words b) → AreSeen p (with_words s (raised_words b)) (with_local h.locals m raised)) (sym (eq-eqb (word_at s 0) 0 none)) (first-raise none) (leaves-of e.Raise may)
    | inr some ↦ subst (λ (b : Bool). Leaves s (raised_words b) → AreSeen p (with_words s (raised_words b)) (with_local h.locals m raised)) (sym (ne_eqb (word_at s 0) 0 some))
        (λ leaves. kept (raised_words false) raised leaves (ap (λ ws. slice_index ws 0) (same-words h.words 0))
        (λ k is. subst (λ (w : List ℕ). HasKind (with_words s w) k kinds.Free) (same-words h.words 0) is) (seen.polled m) (λ is. refl) (λ x there. inl there)) (leaves-of e.Raise may)
  ]

  module _ (k class : ℕ) (free : Bool) (may : MayTake p l k class free) where
    abbrev v : ℕ
    v = owned_code p l class

    abbrev view : Local
    view = record l { blocks = (record { at = k; word = block_word s k }) ∷ l.blocks }

    abbrev taken_words : Bool → List ℕ
    taken_words found = slice_set h.words (first s.blocks BlockWords + k) (if found then v else block_word s k)

    new : HeapState
    new = with_words s (taken_words true)

    -- the block that is taken is not Free, and has an owner
    own : (x : Loaded) → x ≡ record { at = k; word = v } → (x.at < s.blocks) × IsSeen (with_words s (taken_words true)) x
    own x e = subst (λ (y : Loaded). (y.at < s.blocks) × IsSeen (with_words s (taken_words true)) y) (sym e) (
      may.0,
      record {
        used = λ some is. taken-not-free p ready s k class l.number may.0 now.models.order.row.extent may.1 is;
        owned = λ some. subst (λ (q : ℕ). 0 < q / 65536) (sym (blocks.block-set s k v may.0 now.models.order.row.extent)) some;
      },
    )

    free-before : (j : ℕ) → HasKind (with_words s (taken_words true)) j kinds.Free → HasKind s j kinds.Free
    free-before j is = elim (cases_eq j k) as (λ _. HasKind s j kinds.Free) [
      | inl e ↦ absurd (taken-not-free p ready s k class l.number may.0 now.models.order.row.extent may.1 (subst (λ (q : ℕ). HasKind (with_words s (taken_words true)) q kinds.Free) e is))
      | inr other ↦ kind-from s j kinds.Free (kind-within (with_words s (taken_words true)) j kinds.Free is)
          (ap (λ q. q % 256) (sym (blocks.block-other s k v may.0 j other)) ∙ kind-code (with_words s (taken_words true)) j kinds.Free is)
    ]

    took-seen : (l' : Local) → l'.stop ≡ l.stop → l'.raised ≡ l.raised → l'.blocks ≡ (record { at = k; word = v }) ∷ l.blocks → Leaves s (taken_words true) → AreSeen p (with_words s (taken_words true)) (with_local h.locals m l')
    took-seen l' stop raised list leaves = kept (taken_words true) l' leaves (blocks.word-other s k v may.0 0 (λ e. omega arith)) free-before
        (λ some. seen.polled m (subst (λ (q : ℕ). 0 < q) stop some) ∙ sym stop) (λ is. raised ∙ is)
        (λ x there. elim (contains-cases (record { at = k; word = v }) l.blocks x (subst (λ (ys : List Loaded). Contains ys x) list there)) as (λ _. Contains l.blocks x ⊎ ((x.at < s.blocks) × IsSeen (with_words s (taken_words true)) x)) [
          | inl e ↦ inr (own x e)
          | inr old ↦ inl old
        ])

    lost-seen : AreSeen p (with_words s (taken_words false)) (with_local h.locals m view)
    lost-seen = load-seen k may.0

  take-seen : (k class : ℕ) (free : Bool) (may : MayTake p l k class free) → AreSeen p (heap_in p (next p h m (e.TakeBlock k class free))) (next p h m (e.TakeBlock k class free)).locals
  take-seen k class free may = elim (cases_eq (block_word s k) (found_code p class free)) as
      (λ _. AreSeen p (with_words s (taken_words k class free may (nat_eq (block_word s k) (found_code p class free)))) (with_local h.locals m (if nat_eq (block_word s k) (found_code p class free) then taken p l k class free else view k class free may))) [
        | inl same ↦ subst (λ (b : Bool). Leaves s (taken_words k class free may b) → AreSeen p (with_words s (taken_words k class free may b)) (with_local h.locals m (if b then taken p l k class free else view k class free may)))
            (sym (eq-eqb (block_word s k) (found_code p class free) same)) (λ leaves. took free may leaves) (leaves-of (e.TakeBlock k class free) may)
        | inr other ↦ subst (λ (b : Bool). AreSeen p (with_words s (taken_words k class free may b)) (with_local h.locals m (if b then taken p l k class free else view k class free may)))
            (sym (ne_eqb (block_word s k) (found_code p class free) other)) (lost-seen k class free may)
      ]
    where
      took : (b : Bool) (may : MayTake p l k class b) → Leaves s (taken_words k class b may true) → AreSeen p (with_words s (taken_words k class b may true)) (with_local h.locals m (taken p l k class b))
      took true may leaves = took-seen k class true may (taken p l k class true) refl refl refl leaves
      took false may leaves = took-seen k class false may (taken p l k class false) refl refl refl leaves

  pub seen-next : (x : Event) → (may : MayStep p l x) → AreSeen p (heap_in p (next p h m x)) (next p h m x).locals
  seen-next (e.Perform command) may = steady (e.Perform command) may refl refl refl
  seen-next (e.Miss command) may = steady (e.Miss command) may refl refl refl
  seen-next (e.LoadName q) may = steady (e.LoadName q) may refl refl refl
  seen-next (e.LoadShape q) may = steady (e.LoadShape q) may refl refl refl
  seen-next (e.LoadCollector q) may = steady (e.LoadCollector q) may refl refl refl
  seen-next (e.LoadShapeAt a) may = steady (e.LoadShapeAt a) may refl refl refl
  seen-next (e.LoadSide k) may = steady (e.LoadSide k) may refl refl refl
  seen-next (e.LoadUnlog q) may = steady (e.LoadUnlog q) may refl refl refl
  seen-next (e.ClearUnlog q) may = steady (e.ClearUnlog q) may refl refl refl
  seen-next (e.Initialize a refs nums k) may = steady (e.Initialize a refs nums k) may refl refl refl
  seen-next e.DrawTicket may = steady e.DrawTicket may refl refl refl
  seen-next e.Poll may = poll-seen may
  seen-next (e.LoadBlock k) may = load-seen k may
  seen-next e.Raise may = raise-seen may
  seen-next (e.TakeBlock k class free) may = take-seen k class free may

-- after each step of a log
pub seen-ends : (p : Epoch) → EpochMayBegin p → (log : List LogEntry) (h : Machine) (i : IdealHeap) (set : ℕ → Type 0) → Holds p h i set → AreSeen p (heap_in p h) h.locals → IsLog p h log → AreSeen p (heap_in p (after p h log)) (after p h log).locals
seen-ends p ready [] h i set now seen is = seen
seen-ends p ready (x ∷ xs) h i set now seen is =
    let step : Goes p h i x.mutator x.event = goes p ready h i set now x.mutator is.0 x.event is.1 in
    seen-ends p ready xs (next p h x.mutator x.event) _ step.set step.moment (seen-next p ready h i set now x.mutator is.0 seen x.event is.1) is.3

-- from the beginning of an epoch
pub first-seen : (p : Epoch) → EpochMayBegin p → AreSeen p p.before (first_local_of p.mutators)
first-seen p ready = record {
  stop = inl ready.stop;
  polled = first-states (λ l. 0 < l.stop → word_at p.before 0 ≡ l.stop) (λ m some. absurd (omega arith)) p.mutators;
  blocks = λ m x there. absurd (first-states (λ l. Contains l.blocks x → ⊥) (λ k. contains-none x) p.mutators m there);
}
