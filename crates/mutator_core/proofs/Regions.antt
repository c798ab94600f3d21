-- Blocks with and without owners, and unpublished objects, at any moment of an epoch.
use Rattle.std.proofs.Common.{◌≡◌, ◌≢◌, refl, sym, ◌∙◌, ap, subst, ℕ, ◌+◌, ◌/◌, ◌%◌, ◌<◌, ◌≤◌, ◌⊎◌, inl, inr, arith, IsTrue, List, [], ◌∷◌, ◌++◌, ◌^◌, ◌-◌, eq-eqb, ◌*◌}
use Rattle.std.specs.List.{Contains}
use Rattle.std.specs.Int.{bit_at}
use Rattle.std.proofs.lemmas.List.{append_assoc}
use Rattle.std.proofs.lemmas.Bool.{cases_lt, eqb-true}
use Rattle.std.proofs.lemmas.Nat.Bits.{bit_at_above}
use Rattle.heap_layout.proofs.MarkLemmas.{bit_from_mark}
use Rattle.object_model.proofs.Marks.{mark-from}
use Rattle.std.proofs.Math.Logic.{∥∥₁_map}
use Rattle.heap_layout.specs.Zones.{StartBits, first, heap_of, row_words, block_at, offset_at, IsAddress}
use Rattle.heap_layout.specs.Blocks.{is_block_code, IsValidWord}
use Rattle.heap_layout.specs.declared.block.Kind.TheVariants as kinds
use Rattle.ideal_heap.specs.Ideal.{IdealHeap}
use Rattle.object_model.specs.Objects.{HeapState, word_at, owner_at, class_at, HasKind, line_marked, IsHeld, IsInExtent, size_at, size_of}
use Rattle.object_model.specs.Lawful.{IsTouched, LineBitsAreExact}
use Rattle.object_model.specs.Graphs.{numbers_of}
use Rattle.object_model.proofs.Lines.{touched-as, held-block}
use Rattle.object_model.proofs.OneKind.{kind-from, kind-code, kind-within}
use Rattle.mutator_core.specs.declared.state.OwnedBlock.{OwnedBlock}
use Rattle.mutator_core.specs.declared.state.LogEntry.{LogEntry}
use Rattle.mutator_core.specs.Machine.{Epoch, Machine, heap_in, next, first_machine}
use Rattle.object_model.specs.BitWords.{bit_word, bit_place}
use Rattle.mutator_core.specs.Histories.{after, IsLog, history, entries_of}
use Rattle.mutator_core.specs.Guards.{IsAvailable}
use Rattle.mutator_core.specs.Epochs.{EpochMayBegin, IsInEpoch, IsOwned, IsMade}
use Rattle.mutator_core.proofs.Fills.{owned-owner, owned-class, owned-kind}
use Rattle.mutator_core.proofs.Places.{unowned-word, place-owner, place-clear}
use Rattle.mutator_core.specs.Logs.{IsEpochLog, machine_after, heap_after, IsUntaken, IsTaken, IsOwnedBy, IsListed}
use Rattle.mutator_core.proofs.Beginnings.{log-ends}
use Rattle.mutator_core.proofs.Law.{Goes, goes}
use Rattle.mutator_core.proofs.Moments.{Holds}

module _ (p : Epoch) (ready : EpochMayBegin p) (h : Machine) (now : IsInEpoch p (heap_in p h) h.locals) where
  abbrev s : HeapState
  s = heap_in p h

  -- a block that a mutator took
  pub listed-owned : (m : ℕ) (o : OwnedBlock) → Contains (h.locals m).owned o → IsOwnedBy p s m o
  listed-owned m o there =
      let is : IsOwned p s (h.locals m).number o = (now.knows m).owned o there in
      record {
        member = now.members m o there;
        inside = is.inside;
        owner = owned-owner p s (h.locals m).number o is ∙ now.numbers m;
        kind = owned-kind p s (h.locals m).number o is;
        class = owned-class p s (h.locals m).number o is;
      }

  -- a block has no owner and is unchanged, or a mutator owns it
  pub block-owner : (k : ℕ) → k < p.before.blocks → IsUntaken p s k ⊎ IsTaken p s k
  block-owner k there = elim (now.blocks k there) as (λ _. IsUntaken p s k ⊎ IsTaken p s k) [
    | inl same ↦ (let old = ready.lawful.but_lines.blocks k there in
        inl (record { unowned = record { code = subst (λ (v : ℕ). IsTrue (is_block_code v)) (sym same) old.code; owner = ap (λ v. v / 65536) same ∙ old.owner }; same = same }))
    | inr owned ↦ inr (subst (IsTaken p s) owned.3 (
        let is : IsOwned p s (h.locals owned.0).number owned.1 = (now.knows owned.0).owned owned.1 owned.2 in
        let by : IsOwnedBy p s owned.0 owned.1 = listed-owned owned.0 owned.1 owned.2 in
        let who : (h.locals owned.0).number ≡ owner_at s owned.1.block = sym (owned-owner p s (h.locals owned.0).number owned.1 is) in
        record {
          owner = subst (Contains (numbers_of p.mutators)) (sym by.owner) by.member;
          some = subst (λ (q : ℕ). 0 < q) who is.somebody;
          kind = by.kind;
          valid = subst (λ (q : ℕ). IsValidWord (record { kind = p.rules.fill; class = class_at s owned.1.block; owner = q })) who
              (subst (λ (c : ℕ). IsValidWord (record { kind = p.rules.fill; class = c; owner = (h.locals owned.0).number })) (sym by.class) is.valid);
        }))
  ]

  -- a block with an owner is one that the owner took
  pub owner-lists : (k : ℕ) → k < p.before.blocks → 0 < owner_at s k → IsListed (h.locals (owner_at s k)) k
  owner-lists k there some = elim (now.blocks k there) as (λ _. IsListed (h.locals (owner_at s k)) k) [
    | inl same ↦ absurd (
        let old = ready.lawful.but_lines.blocks k there in
        let none : owner_at s k ≡ 0 = ap (λ v. v / 65536) same ∙ old.owner in
        omega arith)
    | inr owned ↦
        (let by : IsOwnedBy p s owned.0 owned.1 = listed-owned owned.0 owned.1 owned.2 in
        let who : owned.0 ≡ owner_at s k = sym by.owner ∙ ap (owner_at s) owned.3 in
        record { block = owned.1; listed = subst (λ (q : ℕ). Contains (h.locals q).owned owned.1) who owned.2; same = owned.3 })
  ]

  -- no object was allocated in a block without an owner
  allocated-elsewhere : (k a : ℕ) → owner_at s k ≡ 0 → (m : ℕ) → Contains (h.locals m).made (record { address = a; size = size_at s a }) → block_at s.blocks a ≢ k
  allocated-elsewhere k a nobody m made here =
      let is : IsMade p s (h.locals m).owned (record { address = a; size = size_at s a }) = (now.knows m).objects (record { address = a; size = size_at s a }) made in
      let owner = place-owner p h now m a (size_at s a) is.place in
      let some : 0 < m = owner.1 in
      let none : m ≡ 0 = sym owner.0 ∙ ap (owner_at s) here ∙ nobody in
      omega arith

  -- the line bits of such a block are those of the lines that objects touch
  pub unowned-lines : (k : ℕ) → owner_at s k ≡ 0 → LineBitsAreExact s k
  unowned-lines k nobody = record {
    marked = λ line is small marked. let there : k < p.before.blocks = kind-within s k kinds.Immix is in
        ∥∥₁_map ((ready.lawful.lines k).marked line (kind-then is there) small (sym (now.lines k line there small) ∙ marked))
        (λ t. touched-as p.before s k line t refl (now.stays t.object t.held).0 (size-then t.object t.held));
    touched = λ line is small t. let there : k < p.before.blocks = kind-within s k kinds.Immix is in
        now.lines k line there small ∙ elim (now.births t.object t.held) as (λ _. IsTrue (line_marked p.before k line)) [
          | inl before ↦ (ready.lawful.lines k).touched line (kind-then is there) small (touched-as s p.before k line t refl before (sym (size-then t.object before)))
          | inr allocated ↦ absurd (allocated-elsewhere k t.object nobody allocated.0 allocated.1 (same-block line small t allocated.0 allocated.1))
        ];
  }
    where
      kind-then : HasKind s k kinds.Immix → k < p.before.blocks → HasKind p.before k kinds.Immix
      kind-then is there = kind-from p.before k kinds.Immix there (ap (λ v. v % 256) (sym (unowned-word p h now k there nobody)) ∙ kind-code s k kinds.Immix is)

      size-then : (x : ℕ) → IsHeld p.before x → size_at s x ≡ size_at p.before x
      size-then x before = ap (λ v. size_of (v % 65536) (v / 65536)) ((now.stays x before).1 1 (omega arith))

      same-block : (line : ℕ) → line < 256 → (t : IsTouched s k line) → (m : ℕ) → Contains (h.locals m).made (record { address = t.object; size = size_at s t.object }) → block_at s.blocks t.object ≡ k
      same-block line small t m made =
          let is : IsMade p s (h.locals m).owned (record { address = t.object; size = size_at s t.object }) = (now.knows m).objects (record { address = t.object; size = size_at s t.object }) made in
          held-block s k line small t is.place.inside

  -- the address for another bit in the word of an address's start bit, and the position of that bit
  beside : (b a k : ℕ) → IsAddress b a → k < 64
      → IsAddress b (heap_of b + 64 * ((a - heap_of b) / 64) + k) × (block_at b (heap_of b + 64 * ((a - heap_of b) / 64) + k) ≡ block_at b a)
      × (bit_word b StartBits (heap_of b + 64 * ((a - heap_of b) / 64) + k) ≡ bit_word b StartBits a) × (bit_place b (heap_of b + 64 * ((a - heap_of b) / 64) + k) ≡ k)
  beside b a k there low =
      let from : heap_of b ≤ a = there.from in let below : a < row_words b = there.below in
      let d : ℕ = a - heap_of b in
      let q : ℕ = d / 64 in
      let word : (heap_of b + 64 * q + k - heap_of b) / 64 ≡ q = omega arith in
      (record { from = omega arith; below = omega arith }, omega arith, ap (λ x. first b StartBits + x) word, omega arith)

  -- the start words of a block without an owner are those of the beginning
  pub unowned-starts : (a k : ℕ) → IsAddress s.blocks a → owner_at s (block_at s.blocks a) ≡ 0 → ((j : ℕ) → word_at s j < 2 ^ 64)
      → bit_at (word_at s (bit_word s.blocks StartBits a)) k ≡ 1 → bit_at (word_at p.before (bit_word s.blocks StartBits a)) k ≡ 1
  unowned-starts a k there nobody fits bit = elim (cases_lt k 64) as (λ _. bit_at (word_at p.before (bit_word s.blocks StartBits a)) k ≡ 1) [
    | inr past ↦ absurd (let none : bit_at (word_at s (bit_word s.blocks StartBits a)) k ≡ 0 = bit_at_above (word_at s (bit_word s.blocks StartBits a)) 64 k (fits (bit_word s.blocks StartBits a)) past in omega arith)
    | inl low ↦
        (let x : ℕ = heap_of s.blocks + 64 * ((a - heap_of s.blocks) / 64) + k in
        let is = beside s.blocks a k there low in
        let here : bit_at (word_at s (bit_word s.blocks StartBits x)) (bit_place s.blocks x) ≡ 1 = ap (λ w. bit_at (word_at s w) (bit_place s.blocks x)) is.2 ∙ ap (bit_at (word_at s (bit_word s.blocks StartBits a))) is.3 ∙ bit in
        let held : IsHeld s x = record { address = is.0; start = mark-from s.blocks StartBits s.words x is.0 (eq-eqb (bit_at (word_at s (bit_word s.blocks StartBits x)) (bit_place s.blocks x)) 1 here) } in
        elim (now.births x held) as (λ _. bit_at (word_at p.before (bit_word s.blocks StartBits a)) k ≡ 1) [
          | inl before ↦ ap (λ w. bit_at (word_at p.before w) k) (sym is.2) ∙ ap (bit_at (word_at p.before (bit_word s.blocks StartBits x))) (sym is.3)
              ∙ eqb-true (bit_at (word_at p.before (bit_word s.blocks StartBits x)) (bit_place s.blocks x)) 1 (bit_from_mark s.blocks StartBits p.before.words x before.start)
          | inr allocated ↦ absurd (allocated-elsewhere (block_at s.blocks a) x nobody allocated.0 allocated.1 is.1)
        ])
  ]

  -- one owner of a block
  pub one-owner : (m n : ℕ) (o q : OwnedBlock) → Contains (h.locals m).owned o → Contains (h.locals n).owned q → o.block ≡ q.block → m ≡ n
  one-owner m n o q mine theirs same =
      let a : IsOwned p s (h.locals m).number o = (now.knows m).owned o mine in
      let b : IsOwned p s (h.locals n).number q = (now.knows n).owned q theirs in
      sym (now.numbers m) ∙ sym (owned-owner p s (h.locals m).number o a) ∙ ap (owner_at s) same ∙ owned-owner p s (h.locals n).number q b ∙ now.numbers n

  -- the words of the object that m writes
  unpublished-place : (m : ℕ) → 0 < (h.locals m).unpublished.address
      → IsAvailable p (h.locals m).owned (h.locals m).made (h.locals m).unpublished.address (size_of (h.locals m).unpublished.refs (h.locals m).unpublished.nums)
  unpublished-place m some = ((now.knows m).unpublished some).available

  pub unpublished-clear : (m x i : ℕ) → 0 < (h.locals m).unpublished.address → IsHeld s x → IsInExtent s x i
      → (i < (h.locals m).unpublished.address) ⊎ ((h.locals m).unpublished.address + size_of (h.locals m).unpublished.refs (h.locals m).unpublished.nums ≤ i)
  unpublished-clear m x i some holds inside =
      place-clear p ready h now m (h.locals m).unpublished.address (size_of (h.locals m).unpublished.refs (h.locals m).unpublished.nums) (unpublished-place m some) x i holds inside

  -- an address that follows another within the same block's words is in the block
  same-block-of : (b a i size : ℕ) → heap_of b ≤ a → offset_at b a + size ≤ 4096 → a ≤ i → i < a + size → block_at b i ≡ block_at b a
  same-block-of b a i size base inside from below = omega arith

  -- they lie in a block of m
  pub unpublished-owner : (m i : ℕ) → 0 < (h.locals m).unpublished.address
      → (h.locals m).unpublished.address ≤ i → i < (h.locals m).unpublished.address + size_of (h.locals m).unpublished.refs (h.locals m).unpublished.nums
      → owner_at s (block_at p.before.blocks i) ≡ m
  unpublished-owner m i some from below =
      let a = unpublished-place m some in
      ap (owner_at s) (same-block-of p.before.blocks (h.locals m).unpublished.address i _ a.place.address.from a.place.inside from below) ∙ (place-owner p h now m _ _ a.place).0

  pub unpublished-apart : (m n i : ℕ) → 0 < (h.locals m).unpublished.address → 0 < (h.locals n).unpublished.address
      → (h.locals m).unpublished.address ≤ i → i < (h.locals m).unpublished.address + size_of (h.locals m).unpublished.refs (h.locals m).unpublished.nums
      → (h.locals n).unpublished.address ≤ i → i < (h.locals n).unpublished.address + size_of (h.locals n).unpublished.refs (h.locals n).unpublished.nums → m ≡ n
  unpublished-apart m n i mine theirs from below from' below' = sym (unpublished-owner m i mine from below) ∙ unpublished-owner n i theirs from' below'

-- a log in two parts
pub after-append : (p : Epoch) (h : Machine) (log more : List LogEntry) → after p h (log ++ more) ≡ after p (after p h log) more
after-append p h [] more = refl
after-append p h (x ∷ xs) more = after-append p (next p h x.mutator x.event) xs more

pub log-front : (p : Epoch) (h : Machine) (log more : List LogEntry) → IsLog p h (log ++ more) → IsLog p h log
log-front p h [] more is = tt
log-front p h (x ∷ xs) more is = (is.0, is.1, is.2, log-front p (next p h x.mutator x.event) xs more is.3)

pub log-rest : (p : Epoch) (h : Machine) (log more : List LogEntry) → IsLog p h (log ++ more) → IsLog p (after p h log) more
log-rest p h [] more is = is
log-rest p h (x ∷ xs) more is = log-rest p (next p h x.mutator x.event) xs more is.3

-- an object stays with its header
pub log-stays : (p : Epoch) → EpochMayBegin p → (log : List LogEntry) (h : Machine) (i : IdealHeap) (set : ℕ → Type 0) → Holds p h i set → IsLog p h log
    → (a : ℕ) → IsHeld (heap_in p h) a → IsHeld (heap_in p (after p h log)) a × ((j : ℕ) → j < 3 → word_at (heap_in p (after p h log)) (a + j) ≡ word_at (heap_in p h) (a + j))
log-stays p ready [] h i set now is a holds = (holds, λ j few. refl)
log-stays p ready (x ∷ xs) h i set now is a holds =
    let step : Goes p h i x.mutator x.event = goes p ready h i set now x.mutator is.0 x.event is.1 in
    let later = log-stays p ready xs (next p h x.mutator x.event) _ step.set step.moment is.3 a (step.leaves.held a holds) in
    (later.0, λ j few. later.1 j few ∙ step.leaves.headers a j holds few)

pub stays-later : (p : Epoch) (i : IdealHeap) (log more : List LogEntry) → IsEpochLog p i (log ++ more) → (a : ℕ) → IsHeld (heap_after p log) a
    → IsHeld (heap_after p (log ++ more)) a × ((j : ℕ) → j < 3 → word_at (heap_after p (log ++ more)) (a + j) ≡ word_at (heap_after p log) (a + j))
stays-later p i log more is a holds =
    let end = log-ends p i log is.ready is.represents (log-front p (first_machine p) log more is.steps) in
    subst (λ (h : Machine). IsHeld (heap_in p h) a × ((j : ℕ) → j < 3 → word_at (heap_in p h) (a + j) ≡ word_at (heap_after p log) (a + j))) (sym (after-append p (first_machine p) log more))
    (log-stays p is.ready more (machine_after p log) _ end.set end.moment (log-rest p (first_machine p) log more is.steps) a holds)

-- a history in two parts
pub history-append : (p : Epoch) (h : Machine) (log more : List LogEntry) → history p h (log ++ more) ≡ history p h log ++ history p (after p h log) more
history-append p h [] more = refl
history-append p h (x ∷ xs) more = ap (λ es. entries_of (heap_in p h) x ++ es) (history-append p (next p h x.mutator x.event) xs more)
    ∙ sym (append_assoc (entries_of (heap_in p h) x) (history p (next p h x.mutator x.event) xs) (history p (after p (next p h x.mutator x.event) xs) more))
