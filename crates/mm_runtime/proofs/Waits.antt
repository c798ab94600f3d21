-- Mutators that wait at `meet`, or whose traces have ended.
use Rattle.std.proofs.Common.{◌≡◌, ◌≢◌, refl, sym, ◌∙◌, ap, subst, ℕ, ◌+◌, ◌<◌, ◌≤◌, inl, inr, arith, true, false, List, length, get_or}
use Rattle.std.specs.Prelude.{slice_get, Some, None, Option}
use Rattle.std.proofs.lemmas.Option.{slice_get_past}
use Rattle.ideal_heap.specs.declared.command.Command.{Command}
use Rattle.ideal_heap.specs.declared.command.Command.TheVariants as c
use Rattle.sessions.specs.Sessions.{is_at_meet}
use Rattle.block_regions.proofs.Lists.{get-some, get-below, one-element}
use Rattle.block_regions.proofs.Elements.{read-some}
use Rattle.mm_runtime.specs.declared.progress.Progress.{Progress}
use Rattle.mm_runtime.specs.Managers.{next_in_trace}
use Rattle.mm_runtime.proofs.OkSteps.{at-most}

-- a trace with a command left
pub goes-on : (p : Progress) → length p.replies.items < length p.trace → next_in_trace p ≢ None
goes-on p less none =
    let next = get-some p.trace (length p.replies.items) (omega arith) in
    let wrong : None ≡ Some next.0 = sym none ∙ next.1 in cc

-- and with none left
pub has-ended : (p : Progress) → length p.trace ≤ length p.replies.items → next_in_trace p ≡ None
has-ended p most =
    slice_get_past p.trace (length p.replies.items) most

-- the element that a loop reads
pub item : {A : Type 0} (xs ys : List A) (i : ℕ) (x : A) → ys ≡ xs → i < length ys → x ≡ get_or ys i x → slice_get xs i ≡ Some x
item xs ys i x same below is = subst (λ zs. slice_get zs i ≡ Some x) same (read-some ys i x below is)

-- what holds of each element before a place, and of the one there, holds of each before the next place
pub next-too : {A : Type 0} (Q : A → Type 0) (xs : List A) (i : ℕ) (x : A) → slice_get xs i ≡ Some x → Q x → ((k : ℕ) (y : A) → k < i → slice_get xs k ≡ Some y → Q y)
    → (k : ℕ) (y : A) → k < i + 1 → slice_get xs k ≡ Some y → Q y
next-too Q xs i x at here each k y less is = elim (at-most k i less) as (λ _. Q y) [
  | inl under ↦ each k y under is
  | inr same ↦ subst Q (one-element (slice_get xs i) x y at (ap (slice_get xs) (sym same) ∙ is)) here
]

-- only `meet` is at `meet`
pub meets-next : (o : Option Command) → is_at_meet o ≡ true → o ≡ Some c.Meet
meets-next None is = let wrong : false ≡ true = is in cc
meets-next (Some c.Meet) is = refl
meets-next (Some _) is = let wrong : false ≡ true = is in cc

-- an element is before the end of a loop
pub below : {A : Type 0} (xs ys : List A) (i k : ℕ) (x : A) → ys ≡ xs → length ys ≤ i → slice_get xs k ≡ Some x → k < i
below xs ys i k x same end is =
    let many : length ys ≡ length xs = ap length same in
    let inside : k < length xs = get-below xs k x is in
    omega arith
