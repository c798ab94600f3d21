-- Counts of the objects that a collection preserves.
use Rattle.std.specs.Prelude.{◌≡◌, ℕ, true, false, ◌+◌, ◌*◌, ◌-◌, ◌^◌, Bool, ◌&&◌, not, nat_eq, nat_lt, nat_le, List}
use Rattle.std.specs.Prelude.{length, count_by, sum_by, if◌then◌else◌}
use Rattle.heap_layout.specs.declared.block.Kind.TheVariants as kinds
use Rattle.object_model.specs.Objects.{HeapState, has_kind, is_start, number_at, size_at, block_count}
use Rattle.object_model.specs.Ages.{is_old}
use Rattle.object_model.specs.declared.collect.Collect.{Collect}
use Rattle.object_model.specs.declared.collect.Collect.TheVariants.{Nursery, Full}
use Rattle.object_model.specs.Times.{one_if, times}
use Rattle.plain_tracer.specs.declared.tokens.Grey.{Grey}
use Rattle.racing_collector.specs.Together.{total}
use Rattle.racing_collector.specs.declared.tally.Tally.{Tally}
use Rattle.collector.specs.declared.outcome.Note.{Note}
use Rattle.sessions.specs.Plans.{Rules}
use Rattle.sessions.specs.Collecting.{CollectsIf}

-- the largest number, if the sum is larger
abbrev pub capped : ℕ → ℕ → ℕ
capped most n = if nat_le n most then n else most

-- the object of the token moves
abbrev pub has_moved : Grey → Bool
has_moved grey = not (nat_eq grey.target grey.object)

-- The objects of the tokens are counted.
pub record Counts (tally tally' : Tally) (pushed : List Grey) : Type 0 where
  pub kept : tally'.kept ≡ capped (2 ^ 32 - 1) (tally.kept + length pushed)
  pub moved : tally'.moved ≡ capped (2 ^ 32 - 1) (tally.moved + count_by has_moved pushed)
  pub words : tally'.words ≡ capped (2 ^ 64 - 1) (tally.words + sum_by (λ grey. grey.size) pushed)

-- The counts of objects that are copied, of which each has a target in F.
pub record IsTally (s : HeapState) (F : ℕ → ℕ) (copied : List ℕ) (tally : Tally) : Type 0 where
  pub kept : tally.kept ≡ total s.blocks (λ a. times a copied)
  pub moved : tally.moved ≡ total s.blocks (λ a. times a copied * one_if (not (nat_eq (F a) a)))
  pub words : tally.words ≡ total s.blocks (λ a. times a copied * size_at s a)

-- the number of objects that are held and were not claimed by the collection of this number
abbrev pub unclaimed : HeapState → ℕ → ℕ
unclaimed s number =
    total s.blocks (λ a. one_if (is_start s a && not (nat_eq (number_at s a) number)))

-- The note counts the object: the collection preserves it and claimed it. A full collection claims
-- each object that it preserves, a nursery one none that was old.
abbrev pub is_counted : Collect → HeapState → (ℕ → ℕ) → ℕ → Bool
is_counted Full s target a = nat_lt 0 (target a)
is_counted Nursery s target a = nat_lt 0 (target a) && not (is_old s a)

-- The note of a collection which preserves the objects that have a target, and where each target
-- is. It counts the claimed ones.
pub record IsNote (c : Collect) (s : HeapState) (target : ℕ → ℕ) (new : HeapState) (note : Note)
    : Type 0 where
  pub collect : note.collect ≡ c
  pub kept : note.kept ≡ total s.blocks (λ a. one_if (is_counted c s target a))
  pub moved : note.moved ≡ total s.blocks
      (λ a. one_if (is_counted c s target a && not (nat_eq (target a) a)))
  pub in_place : note.in_place ≡ total s.blocks
      (λ a. one_if (is_counted c s target a && nat_eq (target a) a))
  pub words : note.kept_words ≡ total s.blocks
      (λ a. one_if (is_counted c s target a) * size_at s a)
  pub free : note.free_blocks ≡ block_count new (λ k. has_kind new k kinds.Free)

-- the target of each object where it is: a collection that reclaims nothing preserves all that is
-- held
abbrev pub stays_in_place : HeapState → ℕ → ℕ
stays_in_place s a = if is_start s a then a else 0

-- the note of a collection, whose counts are those of its map
abbrev pub NotesIf : (collects : Bool) (r : Rules) (w : ℕ) (c : Collect) (s : HeapState)
    (roots : List ℕ) (new : HeapState)
    (roots' : List ℕ) → CollectsIf collects r w c s roots new roots' → Note → Type 0
NotesIf true r w c s roots new roots' made note = IsNote c s made.target new note
NotesIf false r w c s roots new roots' made note = IsNote c s (stays_in_place s) new note
