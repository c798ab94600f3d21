-- What is known of blocks between two epochs: at first, after a search, and after an object was placed.
use Rattle.std.proofs.Common.{◌≡◌, ◌≢◌, sym, ◌∙◌, subst, ℕ, ◌<◌, ◌≤◌, ◌⊎◌, inl, inr, arith, List, replicate}
use Rattle.std.specs.Prelude.{None}
use Rattle.std.proofs.lemmas.Bool.{cases_eq, cases_lt}
use Rattle.std.proofs.lemmas.List.{length-replicate}
use Rattle.heap_layout.specs.declared.block.Kind.{Kind}
use Rattle.heap_layout.specs.declared.block.Kind.TheVariants as kinds
use Rattle.heap_layout.specs.declared.region.Region.{Region}
use Rattle.object_model.specs.Objects.{HeapState, HasKind, class_at}
use Rattle.object_model.specs.Lawful.{IsLawful}
use Rattle.sessions.specs.Fitting.{HasHole, class_for, free_of}
use Rattle.sessions.proofs.PlacedSmallObjects.{free-some}
use Rattle.plan_api.specs.Holes.{IsFirstPart, IsFirstHole}
use Rattle.block_regions.specs.declared.block_notes.BlockNotes.{BlockNotes}
use Rattle.block_regions.specs.declared.block_notes.BlockNote.{BlockNote}
use Rattle.block_regions.specs.declared.block_notes.BlockNote.TheVariants.{Unowned, Owned}
use Rattle.block_regions.specs.Elements.{ChangesAt}
use Rattle.block_regions.specs.Notes.{FillsHoles, IsBlockNote, HasNotes, AreUnowned, AreNotes, LacksHoles, IsLowestHole}
use Rattle.block_regions.proofs.Lists.{get-copy}
use Rattle.block_regions.proofs.Elements.{changes-cases}
use Rattle.block_regions.proofs.Lists.{get-below}
use Rattle.block_regions.proofs.NoteLemmas.{note-unknown, no-hole}
use Rattle.block_regions.proofs.Regions.{first-hole, first-before}

-- right for the kind that mutators fill
pub notes-for : (f g : Kind) → f ≡ g → (s : HeapState) (n : BlockNotes) → AreNotes f s n → AreNotes g s n
notes-for f g same s n = subst (λ k. AreNotes k s n) same

pub notes-unknown : (fill : Kind) (s : HeapState) → IsLawful s → HasNotes fill s (replicate s.blocks (Unowned 4097))
notes-unknown fill s lawful = record {
  len = length-replicate s.blocks (Unowned 4097);
  each = λ k note is.
      let there : k < s.blocks = subst (λ n. k < n) (length-replicate s.blocks (Unowned 4097)) (get-below (replicate s.blocks (Unowned 4097)) k note is) in
      subst (IsBlockNote fill s k) (sym (get-copy s.blocks (Unowned 4097) note k is)) (note-unknown fill s k (lawful.but_lines.blocks k there).owner);
}

pub none-unknown : (n least : ℕ) → AreUnowned (replicate n (Unowned least))
none-unknown n least k owner region is = let wrong : Owned owner region ≡ Unowned least = get-copy n (Unowned least) (Owned owner region) k is in cc

-- the note of one block changes
pub none-changed : (notes later : List BlockNote) (block least : ℕ) → AreUnowned notes → ChangesAt notes later block (Unowned least) → AreUnowned later
none-changed notes later block least none changes k owner region is =
    elim (changes-cases notes later block (Unowned least) changes k (Owned owner region) is) as (λ _. ⊥) [
      | inl here ↦ (let wrong : Owned owner region ≡ Unowned least = here.1 in cc)
      | inr other ↦ none k owner region other.1
    ]

pub notes-lacking : (fill : Kind) → FillsHoles fill → (s : HeapState) → IsLawful s → (notes later : List BlockNote) (block size : ℕ) → HasNotes fill s notes
    → block < s.blocks → 1 ≤ size → size ≤ 2048 → (HasKind s block fill → class_at s block ≡ class_for fill size) → IsFirstHole fill s block 0 size None
    → ChangesAt notes later block (Unowned size) → HasNotes fill s later
notes-lacking fill fills s lawful notes later block size noted there some small suits none changes = record {
  len = changes.len ∙ noted.len;
  each = λ k note is. elim (changes-cases notes later block (Unowned size) changes k note is) as (λ _. IsBlockNote fill s k note) [
    | inl here ↦ subst (λ q. IsBlockNote fill s q note) (sym here.0) (subst (IsBlockNote fill s block) (sym here.1) (record {
      owner = (lawful.but_lines.blocks block there).owner;
      none = no-hole fill fills s block size some small suits none;
    }))
    | inr other ↦ noted.each k note other.1
  ];
}

-- the lowest hole is the first of the lowest block that has one
pub lowest : (fill : Kind) (s : HeapState) (block size : ℕ) (r : Region) → IsFirstPart fill s block 0 size r
    → ((k : ℕ) → k < block → LacksHoles fill s k size) → IsLowestHole fill s block r.next size
lowest fill s block size r part none = record {
  hole = first-hole fill s block size r part;
  lowest = λ j from other. elim (cases_lt j block) as (λ _. (block < j) ⊎ ((block ≡ j) × (r.next ≤ from))) [
    | inl below ↦ absurd (none j below from other)
    | inr past ↦ elim (cases_eq block j) as (λ _. (block < j) ⊎ ((block ≡ j) × (r.next ≤ from))) [
      | inl here ↦ inr (here, first-before fill s block size r part from (subst (λ q. HasHole fill s q from size) (sym here) other))
      | inr away ↦ inl (let far : block ≢ j = away in omega arith)
    ]
  ];
}

pub no-free : (s : HeapState) → free_of s ≡ 0 → (k : ℕ) → HasKind s k kinds.Free → ⊥
no-free s nothing k free = let one : 1 ≤ free_of s = free-some s k free in omega arith
