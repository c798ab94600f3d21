-- The plans as data: what each fills, whether it moves objects, and what it holds back.
use Rattle.std.specs.Prelude.{ℕ, Bool, true, false, List, codes}
use Rattle.heap_layout.specs.declared.block.Kind.{Kind}
use Rattle.heap_layout.specs.declared.block.Kind.TheVariants as kinds

pub data Plan : Type 0 where
  NoGc : Plan
  MarkSweep : Plan
  SemiSpace : Plan
  GenCopy : Plan
  Immix : Plan
  StickyImmix : Plan

-- the word that names a plan, on the command line and in a report
abbrev pub plan_word : Plan → List ℕ
plan_word NoGc = codes "nogc"
plan_word MarkSweep = codes "marksweep"
plan_word SemiSpace = codes "semispace"
plan_word GenCopy = codes "gencopy"
plan_word Immix = codes "immix"
plan_word StickyImmix = codes "stickyimmix"

-- mutators fill blocks of this kind under some plan, so these blocks have holes
abbrev pub has_holes : Kind → Bool
has_holes kinds.Bump = true
has_holes kinds.Young = true
has_holes kinds.Cells = true
has_holes kinds.Immix = true
has_holes kinds.Free = false
has_holes kinds.Mature = false
has_holes kinds.LargeHead = false
has_holes kinds.LargeTail = false
has_holes kinds.Kept = false

-- What is held back of the blocks when one is granted: nothing, room for a copy of all that is
-- used, or a headroom.
pub data Reserve : Type 0 where
  Nothing : Reserve
  Copies : Reserve
  Headroom : Reserve

pub record Rules : Type 0 where
  -- whether a collection reclaims anything
  pub collects : Bool
  -- whether a collection may move objects
  pub moves : Bool
  -- whether there are young and old objects
  pub young : Bool
  -- whether blocks are filled through the clear lines between objects
  pub lines : Bool
  -- the kinds of the blocks that mutators and tracing workers fill; copy is Free if workers fill
  -- none
  pub fill : Kind
  pub copy : Kind
  pub reserve : Reserve

abbrev pub rules_of : Plan → Rules
rules_of NoGc = record {
  collects = false;
  moves = false;
  young = false;
  lines = false;
  fill = kinds.Bump;
  copy = kinds.Free;
  reserve = Nothing;
}
rules_of MarkSweep = record {
  collects = true;
  moves = false;
  young = false;
  lines = false;
  fill = kinds.Cells;
  copy = kinds.Free;
  reserve = Nothing;
}
rules_of SemiSpace = record {
  collects = true;
  moves = true;
  young = false;
  lines = false;
  fill = kinds.Bump;
  copy = kinds.Bump;
  reserve = Copies;
}
rules_of GenCopy = record {
  collects = true;
  moves = true;
  young = true;
  lines = false;
  fill = kinds.Young;
  copy = kinds.Mature;
  reserve = Copies;
}
rules_of Immix = record {
  collects = true;
  moves = true;
  young = false;
  lines = true;
  fill = kinds.Immix;
  copy = kinds.Immix;
  reserve = Headroom;
}
rules_of StickyImmix = record {
  collects = true;
  moves = true;
  young = true;
  lines = true;
  fill = kinds.Immix;
  copy = kinds.Immix;
  reserve = Headroom;
}
