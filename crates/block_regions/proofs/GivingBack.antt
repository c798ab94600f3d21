-- The heap while its blocks are given back, one after another.
use Rattle.std.proofs.Common.{◌≡◌, ◌≢◌, refl, sym, ◌∙◌, ap, subst, ℕ, ◌+◌, ◌-◌, ◌*◌, ◌/◌, ◌%◌, ◌^◌, ◌<◌, ◌≤◌, ◌⊎◌, inl, inr, arith, IsTrue, length, List, nat_eq, get_or-set_other, length-set, get_or}
use Rattle.std.specs.Prelude.{Some, slice_get}
use Rattle.std.specs.Int.{bit_at}
use Rattle.std.proofs.lemmas.Bool.{cases_eq}
use Rattle.std.proofs.lemmas.List.{get_or_default}
use Rattle.heap_layout.specs.Zones.{first, BlockWords, LineWords, StartBits, bit_of}
use Rattle.heap_layout.specs.Blocks.{kind_code, is_block_code}
use Rattle.heap_layout.specs.declared.block.Kind.{Kind}
use Rattle.heap_layout.specs.declared.block.Kind.TheVariants as kinds
use Rattle.heap_layout.specs.declared.region.Region.{Region}
use Rattle.object_model.specs.Objects.{HeapState, word_at, block_word, HasKind, owner_at}
use Rattle.object_model.specs.Lawful.{IsWellFormed, IsReadableBlock, LineBitsAreExact}
use Rattle.object_model.proofs.Blocks as blocks
use Rattle.object_model.proofs.OwnedBlocks as owners
use Rattle.object_model.proofs.OneKind.{kind-code}
use Rattle.sessions.specs.Plans.{Rules}
use Rattle.block_sweeps.specs.Sweeping.{AreApart, IsLineWord}
use Rattle.plan_api.specs.Relisting.{Relists}
use Rattle.plan_api.proofs.BlockViews.{orderly-apart}
use Rattle.block_regions.specs.declared.block_notes.BlockNote.{BlockNote}
use Rattle.block_regions.specs.declared.block_notes.BlockNote.TheVariants.{Unowned, Owned}
use Rattle.block_regions.specs.Elements.{ChangesAt}
use Rattle.block_regions.specs.Notes.{FillsTailsOrCells, FillsHoles, IsBlockNote, IsOwnedNote, IsUnownedNote, HasNotes, ListsOwned, AreUnowned, IsLeastLeft, without_owner, GivesBackBlock, given, nobody}
use Rattle.block_regions.proofs.Lists.{get-some, get-below, one-element}
use Rattle.block_regions.proofs.Elements.{changes-cases}
use Rattle.block_regions.proofs.Regions.{no-lines, fills-cases, region-inside, region-lacks}
use Rattle.block_regions.proofs.BlockFrames.{SameLines}
use Rattle.block_regions.proofs.RegionFrames.{region-as}
use Rattle.block_regions.proofs.NoteLemmas.{note-kept, small-hole}
use Rattle.block_regions.proofs.BlockSides.{ChangesSides, order-kept, block-kept, exact-kept, low-code}
use Rattle.block_regions.proofs.Relisted.{IsRelisted, relisted}

-- a block with its note, word and line bits as they were
pub record IsKept (old s : HeapState) (notes now : List BlockNote) (k : ℕ) : Type 0 where
  pub note : slice_get now k ≡ slice_get notes k
  pub word : block_word s k ≡ block_word old k
  pub lines : SameLines old s k

-- or given back: it had an owner, and its line bits are exact
pub record IsGiven (old s : HeapState) (now : List BlockNote) (k : ℕ) : Type 0 where
  pub owned : 0 < owner_at old k
  pub unowned : (owner : ℕ) (region : Region) → slice_get now k ≡ Some (Owned owner region) → ⊥
  pub word : block_word s k ≡ block_word old k % 65536
  pub exact : LineBitsAreExact s k

-- the first n blocks of the list are given back
pub record IsGivingBack (fill : Kind) (old s : HeapState) (notes now : List BlockNote) (owned : List ℕ) (n : ℕ) : Type 0 where
  pub sides : ChangesSides old s
  pub noted : HasNotes fill s now
  pub each : (k : ℕ) → k < old.blocks → IsKept old s notes now k ⊎ IsGiven old s now k
  pub visited : (j owner : ℕ) (region : Region) → j < n → slice_get now (get_or owned j 0) ≡ Some (Owned owner region) → ⊥

pub gives-nothing : (fill : Kind) (old : HeapState) (notes : List BlockNote) (owned : List ℕ) → IsWellFormed old → HasNotes fill old notes
    → IsGivingBack fill old old notes notes owned 0
gives-nothing fill old notes owned order noted = record {
  sides = record {
    blocks = refl;
    number = refl;
    base = refl;
    extent = refl;
    words = order.row.words;
    rest = λ i other. refl;
    low = λ k there. refl;
  };
  noted = noted;
  each = λ k there. inl (record { note = refl; word = refl; lines = λ line few. refl });
  visited = λ j owner region below is. absurd (omega arith);
}

-- all blocks are given back
module _ (fill : Kind) (old s : HeapState) (notes now : List BlockNote) (owned : List ℕ) (noted : HasNotes fill old notes) (lists : ListsOwned notes owned)
    (is : IsGivingBack fill old s notes now owned (length owned)) where
  -- a block that is kept has no owner
  unlisted : (k owner : ℕ) (region : Region) → slice_get notes k ≡ Some (Owned owner region) → slice_get now k ≡ Some (Owned owner region) → ⊥
  unlisted k owner region before read = let among = lists.listed k owner region before in
      is.visited among.0 owner region among.1 (ap (slice_get now) (get_or_default owned among.0 0 k among.1 ∙ among.2) ∙ read)

  pub kept-nobody : (k : ℕ) → k < old.blocks → IsKept old s notes now k → owner_at old k ≡ 0
  kept-nobody k there kept = of-note (get-some notes k (subst (λ b. k < b) (sym noted.len) there))
    where
      of-note : (note : BlockNote) × (slice_get notes k ≡ Some note) → owner_at old k ≡ 0
      of-note (Unowned least, read) = let right : IsUnownedNote fill old k least = noted.each k (Unowned least) read in right.owner
      of-note (Owned owner region, read) = absurd (unlisted k owner region read (kept.note ∙ read))

  pub none-owned : AreUnowned now
  none-owned k owner region read =
      let there : k < old.blocks = subst (λ b. k < b) (is.noted.len ∙ is.sides.blocks) (get-below now k (Owned owner region) read) in
      elim (is.each k there) as (λ _. ⊥) [
        | inl kept ↦ unlisted k owner region (sym kept.note ∙ read) read
        | inr gone ↦ gone.unowned owner region read
      ]

-- each listed block is one of the heap
pub owned-below : (fill : Kind) (old : HeapState) (notes : List BlockNote) (owned : List ℕ) → HasNotes fill old notes → ListsOwned notes owned
    → (j : ℕ) → j < length owned → get_or owned j 0 < old.blocks
owned-below fill old notes owned noted lists j less =
    let is = lists.right (get_or owned j 0) (j, less, get_or_default owned j (get_or owned j 0) 0 less) in
    subst (λ b. get_or owned j 0 < b) noted.len (get-below notes (get_or owned j 0) (Owned is.0 is.1) is.2)

-- One block of s loses its owner.
module _ (s : HeapState) (order : IsWellFormed s) (block : ℕ) (there : block < s.blocks) where
  abbrev bare : ℕ
  bare = block_word s block % 65536

  low : (bare < 2 ^ 64) × (bare % 256 ≡ block_word s block % 256) × (bare / 256 % 256 ≡ block_word s block / 256 % 256)
  low = (omega arith, omega arith, omega arith)

  order-without : IsWellFormed (without_owner s block)
  order-without = owners.order-owned s order block bare there low.0 low.1 low.2

  -- it can be read then
  pub readable-without : IsTrue (is_block_code (block_word s block)) → IsReadableBlock (without_owner s block) block
  readable-without code = record {
    extent = order-without.row.extent;
    block = there;
    code = subst (λ (x : ℕ). IsTrue (is_block_code x)) (sym (blocks.block-set s block bare there order.row.extent)) (low-code (block_word s block) code);
    objects = λ a holds here. ((order-without.objects.headers a holds).object, order-without.objects.lies a holds);
  }

  -- and its objects share no word
  pub apart-without : AreApart (without_owner s block) block
  apart-without = orderly-apart (without_owner s block) block order-without

-- and is relisted
module _ (rules : Rules) (fills : FillsHoles rules.fill) (lines : rules.fill ≡ kinds.Immix → IsTrue rules.lines) (s new : HeapState) (order : IsWellFormed s) (block : ℕ) (there : block < s.blocks)
    (kind : HasKind s block rules.fill) (number : new.number ≡ s.number) (base : new.base ≡ s.base) (relists : Relists rules (without_owner s block) new block) where
  abbrev v : ℕ
  v = block_word s block % 65536

  abbrev t : HeapState
  t = without_owner s block

  order-then : IsWellFormed t
  order-then = order-without s order block there

  -- an Immix block is one that mutators fill
  lines-filled : HasKind t block kinds.Immix → IsTrue rules.lines
  lines-filled is = elim (fills-cases rules.fill fills) as (λ _. IsTrue rules.lines) [
    | inr immix ↦ lines immix
    | inl plain ↦ absurd (
        let now : block_word t block % 256 ≡ 4 = kind-code t block kinds.Immix is in
        let word : block_word t block ≡ v = blocks.block-set s block v there order.row.extent in
        let code : block_word s block % 256 ≡ kind_code rules.fill = kind-code s block rules.fill kind in
        no-lines-code rules.fill plain (omega arith))
  ]
    where
      no-lines-code : (fill : Kind) → FillsTailsOrCells fill → kind_code fill ≢ 4
      no-lines-code fill (inl (inl bump)) same = let e : kind_code fill ≡ 1 = ap kind_code bump in omega arith
      no-lines-code fill (inl (inr young)) same = let e : kind_code fill ≡ 2 = ap kind_code young in omega arith
      no-lines-code fill (inr cells) same = let e : kind_code fill ≡ 5 = ap kind_code cells in omega arith

  after : IsRelisted t new block
  after = relisted rules t new block lines-filled relists

  away : (i : ℕ) → i ≢ 18 + block → (IsLineWord s.blocks block i → ⊥) → word_at new i ≡ word_at s i
  away i other free = after.others i free ∙ get_or-set_other s.words (18 + block) i v 0 other

  own-word : block_word new block ≡ v
  own-word = after.others (18 + block) (λ among. let from : 18 + s.blocks + 4 * block ≤ 18 + block = among.after in omega arith) ∙ blocks.block-set s block v there order.row.extent

  other-word : (k : ℕ) → k < s.blocks → k ≢ block → block_word new k ≡ block_word s k
  other-word k inside other = away (18 + k) (λ same. other (omega arith)) (λ among. let from : 18 + s.blocks + 4 * block ≤ 18 + k = among.after in omega arith)

  other-lines : (k : ℕ) → k ≢ block → SameLines s new k
  other-lines k other line few =
      ap (λ b. bit_of b LineWords new.words (256 * k + line)) after.blocks
      ∙ ap (λ word. nat_eq (bit_at word ((256 * k + line) % 64)) 1)
      (away (18 + s.blocks + (256 * k + line) / 64) (λ same. omega arith) (λ among.
      let from : 18 + s.blocks + 4 * block ≤ 18 + s.blocks + (256 * k + line) / 64 = among.after in
      let below : 18 + s.blocks + (256 * k + line) / 64 < 18 + s.blocks + 4 * block + 4 = among.below in
      other (omega arith)))

  sides-one : ChangesSides s new
  sides-one = record {
    blocks = after.blocks;
    number = number;
    base = base;
    extent = after.extent ∙ length-set s.words (18 + block) v;
    words = after.fit order-then.row.words;
    rest = λ i other. away i (λ same. elim other as (λ _. ⊥) [ inl before ↦ omega arith | inr past ↦ omega arith ])
        (λ among.
        let from : 18 + s.blocks + 4 * block ≤ i = among.after in
        let below : i < 18 + s.blocks + 4 * block + 4 = among.below in
        elim other as (λ _. ⊥) [ inl before ↦ omega arith | inr past ↦ omega arith ]);
    low = λ k inside. elim (cases_eq k block) as (λ _. block_word new k % 65536 ≡ block_word s k % 65536) [
      | inl own ↦ subst (λ (q : ℕ). block_word new q % 65536 ≡ block_word s q % 65536) (sym own) (let e = own-word in omega arith)
      | inr other ↦ ap (λ n. n % 65536) (other-word k inside other)
    ];
  }

  exact-one : LineBitsAreExact new block
  exact-one = after.exact order-then.objects.lies

  -- what is known of it then
  own-note : (region : Region) (least : ℕ) → IsOwnedNote rules.fill s block (owner_at s block) region → IsLeastLeft rules.fill region least → IsUnownedNote rules.fill new block least
  own-note region least right left = record {
    owner = (let e : block_word new block ≡ v = own-word in omega arith);
    none = λ at size most hole. elim (fills-cases rules.fill fills) as (λ _. ⊥) [
      | inr immix ↦ small-hole rules.fill new block at size (let e : least ≡ 4097 = left.lines immix in omega arith) hole
      | inl plain ↦ (
          let none : rules.fill ≡ kinds.Immix → ⊥ = λ immix. no-lines (subst FillsTailsOrCells immix plain) in
          let e : least ≡ region.end - region.next + 1 = left.left none in
          let within = region-inside rules.fill s block region right.left in
          let order : region.next ≤ region.end = within.0 in
          region-lacks rules.fill plain new block at size region
          (region-as rules.fill s new block region (block-kept s new sides-one block there) (λ immix. absurd (none immix)) right.left) (omega arith) hole)
    ];
  }

-- the next block of the list
module _ (rules : Rules) (fills : FillsHoles rules.fill) (lines : rules.fill ≡ kinds.Immix → IsTrue rules.lines) (old s : HeapState) (notes now : List BlockNote) (owned : List ℕ) (n block : ℕ)
    (order : IsWellFormed old) (is : IsGivingBack rules.fill old s notes now owned n) (reads : get_or owned n 0 ≡ block) (there : block < old.blocks) where
  pub order-now : IsWellFormed s
  order-now = order-kept old s is.sides order

  pub codes-now : ((k : ℕ) → k < old.blocks → IsTrue (is_block_code (block_word old k))) → IsTrue (is_block_code (block_word s block))
  codes-now codes = elim (is.each block there) as (λ _. IsTrue (is_block_code (block_word s block))) [
    | inl kept ↦ subst (λ (x : ℕ). IsTrue (is_block_code x)) (sym kept.word) (codes block there)
    | inr gone ↦ subst (λ (x : ℕ). IsTrue (is_block_code x)) (sym gone.word) (low-code (block_word old block) (codes block there))
  ]

  visits : (later : List BlockNote) → ((j owner : ℕ) (region : Region) → slice_get later j ≡ Some (Owned owner region) → slice_get now j ≡ Some (Owned owner region))
      → ((owner : ℕ) (region : Region) → slice_get later block ≡ Some (Owned owner region) → ⊥)
      → (j owner : ℕ) (region : Region) → j < n + 1 → slice_get later (get_or owned j 0) ≡ Some (Owned owner region) → ⊥
  visits later back none j owner region below read = elim (cases_eq j n) as (λ _. ⊥) [
    | inl here ↦ none owner region (subst (λ q. slice_get later q ≡ Some (Owned owner region)) (ap (λ q. get_or owned q 0) here ∙ reads) read)
    | inr other ↦ is.visited j owner region (omega arith) (back (get_or owned j 0) owner region read)
  ]

  module _ (owner least : ℕ) (region : Region) (note : slice_get now block ≡ Some (Owned owner region)) (later : List BlockNote) (changes : ChangesAt now later block (Unowned least))
      (new : HeapState) (relists : Relists rules (without_owner s block) new block) (number : new.number ≡ s.number) (base : new.base ≡ s.base) (left : IsLeastLeft rules.fill region least) where
    inside : block < s.blocks
    inside = subst (λ (b : ℕ). block < b) (sym is.sides.blocks) there

    right : IsOwnedNote rules.fill s block owner region
    right = is.noted.each block (Owned owner region) note

    -- it was as the epoch left it
    kept : IsKept old s notes now block
    kept = elim (is.each block there) as (λ _. IsKept old s notes now block) [
      | inl before ↦ before
      | inr gone ↦ absurd (gone.unowned owner region note)
    ]

    sides : ChangesSides s new
    sides = sides-one rules fills lines s new order-now block inside right.kind number base relists

    own-right : IsUnownedNote rules.fill new block least
    own-right = own-note rules fills lines s new order-now block inside right.kind number base relists region least (subst (λ (o : ℕ). IsOwnedNote rules.fill s block o region) (sym right.owner) right) left

    word-other : (k : ℕ) → k < s.blocks → k ≢ block → block_word new k ≡ block_word s k
    word-other = other-word rules fills lines s new order-now block inside right.kind number base relists

    lines-other : (k : ℕ) → k ≢ block → SameLines s new k
    lines-other = other-lines rules fills lines s new order-now block inside right.kind number base relists

    cleared : (owner' : ℕ) (region' : Region) → slice_get later block ≡ Some (Owned owner' region') → ⊥
    cleared owner' region' read = let wrong : Unowned least ≡ Owned owner' region' = one-element (slice_get later block) _ _ changes.here read in cc

    earlier : (j owner' : ℕ) (region' : Region) → slice_get later j ≡ Some (Owned owner' region') → slice_get now j ≡ Some (Owned owner' region')
    earlier j owner' region' read = elim (changes-cases now later block (Unowned least) changes j (Owned owner' region') read) as (λ _. slice_get now j ≡ Some (Owned owner' region')) [
      | inl here ↦ absurd (let wrong : Owned owner' region' ≡ Unowned least = here.1 in cc)
      | inr other ↦ other.1
    ]

    each-note : (k : ℕ) (x : BlockNote) → slice_get later k ≡ Some x → IsBlockNote rules.fill new k x
    each-note k x read = elim (changes-cases now later block (Unowned least) changes k x read) as (λ _. IsBlockNote rules.fill new k x) [
      | inl here ↦ subst (λ (q : ℕ). IsBlockNote rules.fill new q x) (sym here.0) (subst (IsBlockNote rules.fill new block) (sym here.1) own-right)
      | inr other ↦ (let below : k < s.blocks = subst (λ (b : ℕ). k < b) is.noted.len (get-below now k x other.1) in
          note-kept rules.fill s new k x (block-kept s new sides k below) (word-other k below other.0) (λ immix. lines-other k other.0) (is.noted.each k x other.1))
    ]

    given-here : IsGiven old new later block
    given-here = record {
      owned = (let some : 0 < owner = right.some in let who : block_word s block / 65536 ≡ owner = right.owner in let same : block_word s block ≡ block_word old block = kept.word in omega arith);
      unowned = cleared;
      word = own-word rules fills lines s new order-now block inside right.kind number base relists ∙ ap (λ w. w % 65536) kept.word;
      exact = exact-one rules fills lines s new order-now block inside right.kind number base relists;
    }

    each-block : (k : ℕ) → k < old.blocks → IsKept old new notes later k ⊎ IsGiven old new later k
    each-block k below = elim (cases_eq k block) as (λ _. IsKept old new notes later k ⊎ IsGiven old new later k) [
      | inl here ↦ inr (subst (IsGiven old new later) (sym here) given-here)
      | inr other ↦ (
          let among : k < s.blocks = subst (λ (b : ℕ). k < b) (sym is.sides.blocks) below in
          elim (is.each k below) as (λ _. IsKept old new notes later k ⊎ IsGiven old new later k) [
            | inl before ↦ inl (record {
              note = changes.others k other ∙ before.note;
              word = word-other k among other ∙ before.word;
              lines = λ line few. lines-other k other line few ∙ before.lines line few;
            })
            | inr gone ↦ inr (record {
              owned = gone.owned;
              unowned = λ owner' region' read. gone.unowned owner' region' (earlier k owner' region' read);
              word = word-other k among other ∙ gone.word;
              exact = exact-kept s new sides k (lines-other k other) gone.exact;
            })
          ])
    ]

    gives-one : IsGivingBack rules.fill old new notes later owned (n + 1)
    gives-one = record {
      sides = record {
        blocks = sides.blocks ∙ is.sides.blocks;
        number = number ∙ is.sides.number;
        base = base ∙ is.sides.base;
        extent = sides.extent ∙ is.sides.extent;
        words = sides.words;
        rest = λ i other. sides.rest i (elim other as (λ _. (i < first s.blocks BlockWords) ⊎ (first s.blocks StartBits ≤ i)) [
          | inl before ↦ inl before
          | inr past ↦ inr (subst (λ (b : ℕ). first b StartBits ≤ i) (sym is.sides.blocks) past)
        ]) ∙ is.sides.rest i other;
        low = λ k below. sides.low k (subst (λ (b : ℕ). k < b) (sym is.sides.blocks) below) ∙ is.sides.low k below;
      };
      noted = record { len = changes.len ∙ is.noted.len ∙ sym sides.blocks; each = each-note };
      each = each-block;
      visited = visits later earlier cleared;
    }

  pub gives-next : (new : HeapState) (later : List BlockNote) → GivesBackBlock rules s new now later block → IsGivingBack rules.fill old new notes later owned (n + 1)
  gives-next new later (given owner least region note relists numbers left changes) = gives-one owner least region note later changes new relists numbers.0 numbers.1 left
  gives-next new later (nobody least note heap same) =
      subst (λ (u : HeapState). IsGivingBack rules.fill old u notes later owned (n + 1)) (sym heap) (subst (λ (xs : List BlockNote). IsGivingBack rules.fill old s notes xs owned (n + 1)) (sym same) (record {
        sides = is.sides;
        noted = is.noted;
        each = is.each;
        visited = visits now (λ j owner region read. read)
            (λ owner region read. let wrong : Unowned least ≡ Owned owner region = one-element (slice_get now block) (Unowned least) (Owned owner region) note read in cc);
      }))
