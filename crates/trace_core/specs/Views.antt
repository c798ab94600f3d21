-- What a tracer has done and may do. Each right is held once, by the tracer or by a token that it
-- gave.
use Rattle.std.specs.Prelude.{◌≡◌, ℕ, ◌+◌, ◌<◌, Bool, true, false, nat_eq, List, [], ◌∷◌, ◌++◌, take, Some}
use Rattle.std.specs.Prelude.{if◌then◌else◌, ◌&&◌, not, nat_lt, map, count_by}
use Rattle.heap_layout.specs.declared.layout.TheConstants.{GLOBALS}
use Rattle.object_model.specs.Times.{times, one_if}
use Rattle.trace_core.specs.Setups.{Setup, size, refs, stays_old, keeps_its_words, was_logged}
use Rattle.trace_core.specs.Machine.{Machine, target, ClaimCause, ByRoot, Stage, Copying, Scanning}
use Rattle.trace_core.specs.declared.run.TraceRun.{TraceRun}
use Rattle.std.specs.List.{range_with_len}

pub record View : Type 0 where
  -- objects that it claimed and has to copy, with the steps of the copying that are made
  pub won : List (ℕ × ℕ)
  -- objects that it copied, and logged ones, with the number of fields that are scanned
  pub grey : List (ℕ × ℕ)
  pub copied : List ℕ
  -- globals that it has to set, and those that it set
  pub unset : List ℕ
  pub set : List ℕ
  -- roots for which it asked
  pub asked : List ℕ
  -- objects with their targets
  pub known : List (ℕ × ℕ)
  -- the blocks that it took to copy into, the last one first
  pub blocks : List ℕ
  -- of these, blocks that it left although much of them is free
  pub sparse : List ℕ

-- the list without its first element that passes the test
abbrev pub without : {A : Type 0} → (A → Bool) → List A → List A
without test [] = []
without test (e ∷ l) = if test e then l else e ∷ without test l

-- how often a pair is in a list
abbrev pub is_pair : ℕ → ℕ → ℕ × ℕ → Bool
is_pair x k e = nat_eq e.0 x && nat_eq e.1 k

abbrev pub hits : ℕ → ℕ → List (ℕ × ℕ) → ℕ
hits x k l = count_by (is_pair x k) l

abbrev pub is_copying : ℕ → Stage → Bool
is_copying k (Copying t n) = nat_eq n k
is_copying k _ = false

abbrev pub is_scanning : ℕ → Stage → Bool
is_scanning k (Scanning t n) = nat_eq n k
is_scanning k _ = false

abbrev pub is_stage_copied : Stage → Bool
is_stage_copied (Scanning t n) = true
is_stage_copied _ = false

-- The view has all rights of the machine, each once, and is true of it.
pub record Holds (p : Setup) (m : Machine) (v : View) : Type 0 where
  pub won : (x k : ℕ) → hits x k v.won ≡ one_if (is_copying k (m.stage x))
  pub grey : (x k : ℕ)
      → hits x k v.grey ≡ one_if (not (keeps_its_words p x) && is_scanning k (m.stage x))
  pub copied : (x : ℕ)
      → times x v.copied ≡ one_if (not (stays_old p x) && is_stage_copied (m.stage x))
  pub unset : (g : ℕ) → times g v.unset ≡ one_if (nat_lt g GLOBALS && not (m.set g))
  pub set : (g : ℕ) → times g v.set ≡ one_if (m.set g)
  pub asked : (x : ℕ) → times x v.asked ≡ m.asked x
  pub known : (x t : ℕ) → 0 < hits x t v.known → target (m.stage x) ≡ Some t
  pub blocks : (b : ℕ) → times b v.blocks ≡ one_if (nat_lt 0 (m.taken b))

-- the steps of the copying of the object at x to t that its claim leaves: all but for an object in
-- place, whose words are there
abbrev pub steps_at_claim : Setup → ℕ → ℕ → ℕ
steps_at_claim p x t = if nat_eq t x then size p x else 0

-- Nothing is left to do: nothing claimed waits to be copied, each copied or logged object is
-- scanned, each global is set.
pub record NothingIsLeft (p : Setup) (v : View) : Type 0 where
  pub won : v.won ≡ []
  pub copied : (x : ℕ) → 0 < times x v.copied → 0 < hits x (refs p x) v.grey
  pub logged : (x : ℕ) → was_logged p x ≡ true → 0 < hits x (refs p x) v.grey
  pub globals : (g : ℕ) → g < GLOBALS → 0 < times g v.set

-- the view as a tracing begins
abbrev pub first_view : TraceRun → View
first_view run = record {
  won = [];
  grey = map (λ x. (x, 0)) run.logged.items;
  copied = [];
  unset = range_with_len 0 GLOBALS;
  set = [];
  asked = [];
  known = map (λ x. (x, x)) run.logged.items;
  blocks = [];
  sparse = [];
}

-- How the view changes: a root asks for an object, which has its target;
abbrev pub asked_view : ℕ → ℕ → View → View
asked_view x t v = record v { asked = x ∷ v.asked; known = (x, t) ∷ v.known }

-- the object at x is claimed, and goes to t;
abbrev pub asked_roots : ℕ → ClaimCause → List ℕ → List ℕ
asked_roots x ByRoot asked = x ∷ asked
asked_roots x _ asked = asked

abbrev pub claimed_view : Setup → ℕ → ℕ → ClaimCause → View → View
claimed_view p x t cause v = record v {
  won = (x, steps_at_claim p x t) ∷ v.won;
  asked = asked_roots x cause v.asked;
  known = (x, t) ∷ v.known;
}

-- it is copied;
abbrev pub copied_view : Setup → ℕ → ℕ → View → View
copied_view p x t v = record v {
  won = without (is_pair x (steps_at_claim p x t)) v.won;
  grey = (x, 0) ∷ v.grey;
  copied = x ∷ v.copied;
}

-- its next field is scanned;
abbrev pub scanned_view : ℕ → ℕ → View → View
scanned_view x k v = record v { grey = (x, k + 1) ∷ without (is_pair x k) v.grey }

-- a global is set;
abbrev pub set_view : ℕ → View → View
set_view g v = record v { unset = without (nat_eq g) v.unset; set = g ∷ v.set }

-- a block is taken to copy into, when the last one has no room for an object, or at any time.
abbrev pub taken_view : ℕ → View → View
taken_view b v = record v { blocks = b ∷ v.blocks }

abbrev pub left_view : ℕ → View → View
left_view b v = record v { blocks = b ∷ v.blocks; sparse = take 1 v.blocks ++ v.sparse }
