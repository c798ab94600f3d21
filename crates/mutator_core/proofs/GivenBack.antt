-- The heap of an epoch after mutators gave back their blocks.
use Rattle.std.proofs.Common.{◌≡◌, refl, sym, ◌∙◌, ap, subst, ℕ, ◌+◌, ◌-◌, ◌/◌, ◌%◌, ◌^◌, ◌<◌, ◌≤◌, ◌⊎◌, inl, inr, arith, ◌&&◌, IsTrue, List, nat_eq, nat_lt, nat_le}
use Rattle.std.specs.List.{Contains}
use Rattle.std.specs.Int.{bit_at}
use Rattle.std.proofs.Math.Logic.{∥∥₁_map}
use Rattle.std.proofs.lemmas.Bool.{cases_eq, cases_lt, and_left, le-ltb}
use Rattle.heap_layout.specs.Zones.{Zone, Globals, StartBits, PinBits, UnlogBits, first, heap_of, address_bit}
use Rattle.heap_layout.specs.Blocks.{kind_code, code_of, is_valid_for, is_block_code}
use Rattle.heap_layout.specs.declared.block.Kind.{Kind}
use Rattle.heap_layout.specs.declared.block.Kind.TheVariants as kinds
use Rattle.heap_layout.specs.declared.block.BlockWord.{BlockWord}
use Rattle.heap_layout.proofs.BlockLemmas.{code_parts, valid_most, kind_code_most, is_block_code-code_of}
use Rattle.ideal_heap.specs.Ideal.{IdealHeap}
use Rattle.object_model.specs.Objects.{HeapState, with_words, word_at, block_word, has_kind, HasKind, class_at, owner_at, is_unlogged, IsHeld, refs_at, ref_at, is_reference}
use Rattle.object_model.specs.Ages.{is_old}
use Rattle.object_model.specs.Lawful.{IsLawful, IsWellFormed, IsUnowned, FreeBlockIsClear, LineBitsAreExact}
use Rattle.object_model.specs.Agreement.{RepresentsOn}
use Rattle.object_model.proofs.Marks.{mark-same}
use Rattle.object_model.proofs.Blocks as blocks
use Rattle.object_model.proofs.Blocks.{SameHeap}
use Rattle.object_model.proofs.OwnedBlocks as owners
use Rattle.object_model.proofs.OneKind.{kind-within, kind-from}
use Rattle.sessions.specs.Collecting.{Remembers}
use Rattle.sessions.specs.Sessions.{block_of_kind}
use Rattle.mutator_core.specs.declared.state.OwnedBlock.{OwnedBlock}
use Rattle.mutator_core.specs.Machine.{Epoch, Machine, heap_in, mutators_in}
use Rattle.mutator_core.specs.Epochs.{EpochMayBegin, IsOwned}
use Rattle.mutator_core.specs.Closing.{GivesBack}
use Rattle.mutator_core.proofs.Fills.{owned-kind, fill-not-free}
use Rattle.mutator_core.proofs.Regions.{unowned-lines}
use Rattle.mutator_core.proofs.Moments.{Holds}

-- a valid word without its owner is valid
ownerless : (kind : Kind) (class owner : ℕ) → IsTrue (is_valid_for kind class owner) → IsTrue (is_valid_for kind class 0)
ownerless kind class owner valid = grind arith

module _ (p : Epoch) (ready : EpochMayBegin p) (h : Machine) (i : IdealHeap) (set : ℕ → Type 0) (now : Holds p h i set) (w : List ℕ) (gives : GivesBack (heap_in p h) (with_words p.before w)) where
  abbrev s : HeapState
  s = heap_in p h

  abbrev new : HeapState
  new = with_words p.before w

  zone-word : (z : Zone) (k : ℕ) → first s.blocks StartBits ≤ first s.blocks z → word_at new (first s.blocks z + k) ≡ word_at s (first s.blocks z + k)
  zone-word z k beyond = gives.rest (first s.blocks z + k) (inr (omega arith))

  marks : (z : Zone) (x : ℕ) → first s.blocks StartBits ≤ first s.blocks z → address_bit s.blocks z w x ≡ address_bit s.blocks z s.words x
  marks z x beyond = mark-same s.blocks z s.words w x (λ there. ap (λ word. nat_eq (bit_at word ((x - heap_of s.blocks) % 64)) 1) (zone-word z ((x - heap_of s.blocks) / 64) beyond))

  same : SameHeap s w
  same = record {
    words = λ k from. gives.rest k (inr (omega arith));
    globals = λ g few. gives.rest (first s.blocks Globals + g) (inl (omega arith, omega arith));
    starts = λ x. marks StartBits x (omega arith);
    pins = λ x. marks PinBits x (omega arith);
    unlogs = λ x. marks UnlogBits x (omega arith);
  }

  -- kind and class of the word without the owner
  low : (v : ℕ) → (v % 65536 % 256 ≡ v % 256) × (v % 65536 / 256 % 256 ≡ v / 256 % 256) × (v % 65536 / 65536 ≡ 0)
  low v = (omega arith, omega arith, omega arith)

  pub kind-same : (j : ℕ) (kind : Kind) → has_kind new j kind ≡ has_kind s j kind
  kind-same j kind = elim (cases_lt j s.blocks) as (λ _. has_kind new j kind ≡ has_kind s j kind) [
    | inl there ↦ ap (λ v. nat_lt j s.blocks && nat_eq (v % 256) (kind_code kind)) (gives.owners j there) ∙ ap (λ v. nat_lt j s.blocks && nat_eq v (kind_code kind)) (low (block_word s j)).0
    | inr past ↦ and_left (nat_lt j s.blocks) _ (le-ltb j s.blocks past) ∙ sym (and_left (nat_lt j s.blocks) _ (le-ltb j s.blocks past))
  ]

  pub class-same : (j : ℕ) → j < s.blocks → class_at new j ≡ class_at s j
  class-same j there = ap (λ v. v / 256 % 256) (gives.owners j there) ∙ (low (block_word s j)).1

  pub order-back : IsWellFormed new
  order-back = owners.order-same s w same kind-same class-same now.models.order gives.extent gives.words

  pub models-back : RepresentsOn new (mutators_in p h) i set
  models-back = blocks.models-after s w same (mutators_in p h) i set now.models order-back

  -- a block never taken has the word that it had; a taken block has the word of its kind and class
  pub word-back : (k : ℕ) → k < p.before.blocks → (block_word new k ≡ block_word p.before k)
      ⊎ (HasKind p.before k kinds.Free × HasKind new k p.rules.fill × IsTrue (is_block_code (block_word new k)))
  word-back k there = elim (now.epoch.blocks k there) as (λ _. (block_word new k ≡ block_word p.before k)
      ⊎ (HasKind p.before k kinds.Free × HasKind new k p.rules.fill × IsTrue (is_block_code (block_word new k)))) [
        | inl word ↦ inl (
            let nobody : block_word p.before k / 65536 ≡ 0 = (ready.lawful.but_lines.blocks k there).owner in
            let v : ℕ = block_word p.before k in
            let small : v % 65536 ≡ v = omega arith in
            gives.owners k there ∙ ap (λ x. x % 65536) word ∙ small)
        | inr own ↦ of-owned own.0 own.1 own.2 own.3
      ]
    where
      of-owned : (m : ℕ) (o : OwnedBlock) → Contains (h.locals m).owned o → o.block ≡ k → (block_word new k ≡ block_word p.before k)
          ⊎ (HasKind p.before k kinds.Free × HasKind new k p.rules.fill × IsTrue (is_block_code (block_word new k)))
      of-owned m o among here =
          let is : IsOwned p s (h.locals m).number o = (now.epoch.knows m).owned o among in
          let most = valid_most p.rules.fill o.class (h.locals m).number is.valid in
          let few : o.class ≤ 18 = most.0 in
          let code : kind_code p.rules.fill ≤ 8 = kind_code_most p.rules.fill in
          let plain : BlockWord = block_of_kind p.rules.fill o.class in
          let cut : code_of (record { kind = p.rules.fill; class = o.class; owner = (h.locals m).number }) % 65536 ≡ code_of (block_of_kind p.rules.fill o.class) = omega arith in
          let word : block_word new k ≡ code_of (block_of_kind p.rules.fill o.class) = gives.owners k there ∙ ap (λ q. block_word s q % 65536) (sym here) ∙ ap (λ x. x % 65536) is.word ∙ cut in
          elim is.before as (λ _. (block_word new k ≡ block_word p.before k) ⊎ (HasKind p.before k kinds.Free × HasKind new k p.rules.fill × IsTrue (is_block_code (block_word new k)))) [
            | inr used ↦ inl (word ∙ sym used ∙ ap (block_word p.before) here)
            | inl free ↦ inr (
              kind-from p.before k kinds.Free there (ap (λ x. x % 256) (ap (block_word p.before) (sym here) ∙ free)),
              kind-from new k p.rules.fill there (ap (λ x. x % 256) word ∙ (code_parts (kind_code p.rules.fill) o.class 0 _ code few refl).0),
              is_block_code-code_of (block_of_kind p.rules.fill o.class) (block_word new k) (ownerless p.rules.fill o.class (h.locals m).number is.valid) (sym word),
            )
          ]

  unowned-back : (k : ℕ) → k < p.before.blocks → IsUnowned new k
  unowned-back k there = record {
    code = elim (word-back k there) as (λ _. IsTrue (is_block_code (block_word new k))) [
      | inl word ↦ subst (λ (v : ℕ). IsTrue (is_block_code v)) (sym word) (ready.lawful.but_lines.blocks k there).code
      | inr taken ↦ taken.2
    ];
    owner = ap (λ v. v / 65536) (gives.owners k there) ∙ (low (block_word s k)).2;
  }

  -- a Free block has no owner
  free-nobody : (k : ℕ) → HasKind s k kinds.Free → owner_at s k ≡ 0
  free-nobody k is = let there : k < s.blocks = kind-within s k kinds.Free is in elim (now.epoch.blocks k there) as (λ _. owner_at s k ≡ 0) [
    | inl word ↦ ap (λ v. v / 65536) word ∙ (ready.lawful.but_lines.blocks k there).owner
    | inr own ↦ absurd (
        let owned : IsOwned p s (h.locals own.0).number own.1 = (now.epoch.knows own.0).owned own.1 own.2 in
        fill-not-free s k p.rules.fill ready.fills (subst (λ (q : ℕ). HasKind s q p.rules.fill) own.3 (owned-kind p s (h.locals own.0).number own.1 owned)) is)
  ]

  free-back : (k : ℕ) → FreeBlockIsClear new k
  free-back k is =
      let before : HasKind s k kinds.Free = owners.kind-before s w same kind-same class-same k kinds.Free is in
      let there : k < s.blocks = kind-within s k kinds.Free before in
      blocks.clear-after s w same k (λ line few. gives.lines k line there few (free-nobody k before)) (now.epoch.free k before)

  lines-back : (k : ℕ) → LineBitsAreExact new k
  lines-back k = elim (cases_eq (owner_at s k) 0) as (λ _. LineBitsAreExact new k) [
    | inr some ↦ gives.listed k (omega arith)
    | inl nobody ↦ (let old : LineBitsAreExact s k = unowned-lines p ready h now.epoch k nobody in record {
      marked = λ line is few marked. let before : HasKind s k kinds.Immix = owners.kind-before s w same kind-same class-same k kinds.Immix is in
          ∥∥₁_map (old.marked line before few (sym (gives.lines k line (kind-within s k kinds.Immix before) few nobody) ∙ marked)) (blocks.touched-after s w same k line);
      touched = λ line is few t. let before : HasKind s k kinds.Immix = owners.kind-before s w same kind-same class-same k kinds.Immix is in
          gives.lines k line (kind-within s k kinds.Immix before) few nobody ∙ old.touched line before few (blocks.touched-before s w same k line t);
    })
  ]

  pub lawful-back : IsLawful new
  lawful-back = record { but_lines = record { order = order-back; blocks = unowned-back; free = free-back }; lines = lines-back }

  pub held-back : (a : ℕ) → IsHeld s a → IsHeld new a
  held-back = blocks.held-after s w same

  pub held-before : (a : ℕ) → IsHeld new a → IsHeld s a
  held-before = blocks.held-before s w same

  pub heap-word : (k : ℕ) → heap_of s.blocks ≤ k → word_at new k ≡ word_at s k
  heap-word = same.words

  pub unlog-back : (a : ℕ) → is_unlogged new a ≡ is_unlogged s a
  unlog-back = same.unlogs

  pub old-back : (a : ℕ) → IsHeld s a → is_old new a ≡ is_old s a
  old-back a holds = ap (λ v. nat_lt 0 s.base && nat_le s.base (v / 2 ^ 24)) (same.words (a + 2) (let from : heap_of s.blocks ≤ a = holds.address.from in omega arith))

  fields-back : IsTrue p.rules.young → (a j : ℕ) → IsHeld new a → IsTrue (is_old new a) → IsTrue (is_unlogged new a) → j < refs_at new a
      → IsTrue (is_reference (ref_at new a j)) → IsHeld new (ref_at new a j) × IsTrue (is_old new (ref_at new a j))
  fields-back young a j holds aged unlogged less some =
      let before : IsHeld s a = held-before a holds in
      let ref : ref_at new a j ≡ ref_at s a j = blocks.ref-same s w same a j before in
      let target = (now.epoch.remembers young).fields a j before (sym (old-back a before) ∙ aged) (sym (same.unlogs a) ∙ unlogged)
      (subst (λ (n : ℕ). j < n) (blocks.refs-same s w same a before) less) (subst (λ (v : ℕ). IsTrue (is_reference v)) ref some) in
      subst (λ (v : ℕ). IsHeld new v × IsTrue (is_old new v)) (sym ref) (held-back (ref_at s a j) target.0, old-back (ref_at s a j) target.0 ∙ target.1)

  marks-back : IsTrue p.rules.young → (a : ℕ) → IsHeld new a → IsTrue (is_unlogged new a) → IsTrue (is_old new a)
  marks-back young a holds unlogged =
      let before : IsHeld s a = held-before a holds in
      old-back a before ∙ (now.epoch.remembers young).marked a before (sym (same.unlogs a) ∙ unlogged)

  pub remembers-back : Remembers p.rules new
  remembers-back young = record { fields = fields-back young; marked = marks-back young }
