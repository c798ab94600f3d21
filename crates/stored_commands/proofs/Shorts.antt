-- Commands in 4 bytes beside those that do not fit.
use Rattle.std.proofs.Common.{◌≡◌, ◌∙◌, ◌≤◌, ℕ, ◌+◌, ◌*◌, ◌++◌, ◌∷◌, [], List, All, refl, ap, map, length, get_or, arith}
use Rattle.std.specs.List.{AllByRecursion}
use Rattle.std.proofs.lemmas.List.{map-append, get_or_append_left}
use Rattle.std.proofs.Math.Seq.{get_or-append_seam}
use Rattle.std.proofs.lemmas.List.Elements.{recursion_from_All, All-weaker}
use Rattle.ideal_heap.specs.declared.command.Command.{Command}
use Rattle.ideal_heap.specs.declared.command.Command.TheVariants as commands
use Rattle.stored_commands.specs.declared.form.Short.{Short}
use Rattle.stored_commands.specs.declared.form.Op.{Op}
use Rattle.stored_commands.specs.declared.form.Op.TheVariants.{New, Get, Put, Read, Write, Add, Swap, Move, DropReg, Load, Share, Pin, Unpin, Gc, Meet, Other}
use Rattle.stored_commands.specs.Forms.{command_beside, IsAmong}

-- 4 bytes stand for the same command beside one more
same-with : (xs : List Command) (c : Command) (o : Op) (i j : ℕ) → let s : Short = record { op = o; pair = i; third = j } in IsAmong (length xs) s → command_beside (xs ++ c ∷ []) s ≡ command_beside xs s
same-with xs c Other i j within = get_or_append_left xs (c ∷ []) commands.Gc (i + 256 * j) within
same-with xs c New i j within = refl
same-with xs c Get i j within = refl
same-with xs c Put i j within = refl
same-with xs c Read i j within = refl
same-with xs c Write i j within = refl
same-with xs c Add i j within = refl
same-with xs c Swap i j within = refl
same-with xs c Move i j within = refl
same-with xs c DropReg i j within = refl
same-with xs c Load i j within = refl
same-with xs c Share i j within = refl
same-with xs c Pin i j within = refl
same-with xs c Unpin i j within = refl
same-with xs c Gc i j within = refl
same-with xs c Meet i j within = refl

same-beside : (xs : List Command) (c : Command) (s : Short) → IsAmong (length xs) s → command_beside (xs ++ c ∷ []) s ≡ command_beside xs s
same-beside xs c s within = same-with xs c s.op s.pair s.third within

-- so do all 4 bytes of a trace
all-beside : (xs : List Command) (c : Command) (ss : List Short) → AllByRecursion (IsAmong (length xs)) ss → map (command_beside (xs ++ c ∷ [])) ss ≡ map (command_beside xs) ss
all-beside xs c [] within = refl
all-beside xs c (s ∷ ss) within = ap (λ g. g ∷ map (command_beside (xs ++ c ∷ [])) ss) (same-beside xs c s within.0) ∙ ap (λ l. command_beside xs s ∷ l) (all-beside xs c ss within.1)

-- what stands for a command that does not fit
abbrev pub at-index : ℕ → ℕ → Short
at-index i j = record { op = Other; pair = i; third = j }

-- the last of those that do not fit is found by its index
last-beside : (xs : List Command) (c : Command) (i j : ℕ) → i + 256 * j ≡ length xs → command_beside (xs ++ c ∷ []) (at-index i j) ≡ c
last-beside xs c i j at = ap (λ k. get_or (xs ++ c ∷ []) k commands.Gc) at ∙ get_or-append_seam xs c [] commands.Gc

-- the commands of a trace with one more that does not fit
pub wide-pushed : (xs : List Command) (c : Command) (i j : ℕ) (ss : List Short) → All (IsAmong (length xs)) ss → i + 256 * j ≡ length xs → map (command_beside (xs ++ c ∷ [])) (ss ++ at-index i j ∷ []) ≡ map (command_beside xs) ss ++ c ∷ []
wide-pushed xs c i j ss within at =
    map-append (command_beside (xs ++ c ∷ [])) ss (at-index i j ∷ []) ∙ ap (λ g. map (command_beside (xs ++ c ∷ [])) ss ++ g ∷ []) (last-beside xs c i j at)
    ∙ ap (λ l. l ++ c ∷ []) (all-beside xs c ss (recursion_from_All (IsAmong (length xs)) ss within))

-- 4 bytes that stand for a command stay among more commands
among-with : (n m : ℕ) (o : Op) (i j : ℕ) → let s : Short = record { op = o; pair = i; third = j } in n ≤ m → IsAmong n s → IsAmong m s
among-with n m Other i j more within = omega (arith, more, within)
among-with n m New i j more within = within
among-with n m Get i j more within = within
among-with n m Put i j more within = within
among-with n m Read i j more within = within
among-with n m Write i j more within = within
among-with n m Add i j more within = within
among-with n m Swap i j more within = within
among-with n m Move i j more within = within
among-with n m DropReg i j more within = within
among-with n m Load i j more within = within
among-with n m Share i j more within = within
among-with n m Pin i j more within = within
among-with n m Unpin i j more within = within
among-with n m Gc i j more within = within
among-with n m Meet i j more within = within

pub still-all : (n m : ℕ) → n ≤ m → (ss : List Short) → All (IsAmong n) ss → All (IsAmong m) ss
still-all n m more ss all = All-weaker (IsAmong n) (IsAmong m) (λ s within. among-with n m s.op s.pair s.third more within) ss all
