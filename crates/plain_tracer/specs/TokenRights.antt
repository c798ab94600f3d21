-- Tokens as rights: what a view holds for each token, and views after tokens were pushed.
use Rattle.std.specs.Prelude.{◌≡◌, ℕ, ◌+◌, ◌<◌, List, All, map}
use Rattle.trace_core.specs.Setups.{Setup, size, refs}
use Rattle.trace_core.specs.Views.{View, hits, steps_at_claim, is_pair}
use Rattle.object_model.specs.Times.{one_if, times}
use Rattle.plain_tracer.specs.declared.tokens.Won.{Won}
use Rattle.plain_tracer.specs.declared.tokens.Grey.{Grey}
use Rattle.plain_tracer.specs.declared.tokens.Reached.{Reached}

-- the token is the right to copy an object
pub record IsWon (p : Setup) (v : View) (won : Won) : Type 0 where
  pub right : 0 < hits won.object (steps_at_claim p won.object won.target) v.won
  pub target : 0 < hits won.object won.target v.known
  pub size : won.size ≡ size p won.object
  pub refs : won.refs ≡ refs p won.object

-- the token is the right to scan an object
pub record IsGrey (p : Setup) (v : View) (grey : Grey) : Type 0 where
  pub right : 0 < hits grey.object 0 v.grey
  pub target : 0 < hits grey.object grey.target v.known
  pub size : grey.size ≡ size p grey.object
  pub refs : grey.refs ≡ refs p grey.object

-- the token with the shape that its object had as the tracing began
abbrev pub grey_of : Setup → Reached → Grey
grey_of p r = record {
  object = r.object;
  target = r.target;
  size = size p r.object;
  refs = refs p r.object;
}

-- the token of a logged object, which stays where it is
abbrev pub logged_token : Setup → ℕ → Grey
logged_token p x = record { object = x; target = x; size = size p x; refs = refs p x }

-- the token is the right to scan an object, whose shape is not read yet
abbrev pub IsReached : Setup → View → Reached → Type 0
IsReached p v r = IsGrey p v (grey_of p r)

-- Tokens were pushed: the objects of the list were copied, and wait to be scanned. All else is as
-- it was, but that more may be known and more blocks may be taken.
abbrev pub copied_in : List Grey → List ℕ
copied_in pushed = map (λ g. g.object) pushed

abbrev pub to_scan_in : List Grey → List (ℕ × ℕ)
to_scan_in pushed = map (λ g. (g.object, 0)) pushed

pub record Pushes (p : Setup) (v v' : View) (pushed : List Grey) : Type 0 where
  pub won : v'.won ≡ v.won
  pub grey : (x k : ℕ) → hits x k v'.grey ≡ hits x k (to_scan_in pushed) + hits x k v.grey
  pub copied : (x : ℕ) → times x v'.copied ≡ times x (copied_in pushed) + times x v.copied
  pub unset : v'.unset ≡ v.unset
  pub set : v'.set ≡ v.set
  pub asked : v'.asked ≡ v.asked
  pub known : (x t : ℕ) → 0 < hits x t v.known → 0 < hits x t v'.known
  pub sparse : v'.sparse ≡ v.sparse
  pub tokens : All (IsGrey p v') pushed

-- The right to scan an object from a field on moved to another field of it: with the one that it
-- had, the rights after are those before with the one that it has, and those of the tokens pushed.
abbrev pub MovesRight : ℕ → ℕ → ℕ → List Grey → View → View → Type 0
MovesRight x from to pushed v v' = (y j : ℕ) → hits y j v'.grey + one_if (is_pair y j (x, from))
    ≡ hits y j (to_scan_in pushed) + hits y j v.grey + one_if (is_pair y j (x, to))

-- The object at x was scanned from its first field up to field k, and tokens were pushed.
pub record Scanned (p : Setup) (x k : ℕ) (v v' : View) (pushed : List Grey) : Type 0 where
  pub won : v'.won ≡ v.won
  pub grey : MovesRight x 0 k pushed v v'
  pub copied : (y : ℕ) → times y v'.copied ≡ times y (copied_in pushed) + times y v.copied
  pub unset : v'.unset ≡ v.unset
  pub set : v'.set ≡ v.set
  pub asked : v'.asked ≡ v.asked
  pub known : (y t : ℕ) → 0 < hits y t v.known → 0 < hits y t v'.known
  pub sparse : v'.sparse ≡ v.sparse
  pub tokens : All (IsGrey p v') pushed

-- the object of the token has its target, whose lines may be marked
pub record IsMarking (p : Setup) (v : View) (grey : Grey) : Type 0 where
  pub target : 0 < hits grey.object grey.target v.known
  pub size : grey.size ≡ size p grey.object

-- field k of the object of the token is to be scanned next
pub record IsNextField (p : Setup) (v : View) (grey : Grey) (k : ℕ) : Type 0 where
  pub right : 0 < hits grey.object k v.grey
  pub target : 0 < hits grey.object grey.target v.known
  pub field : k < refs p grey.object
