-- Forms beside the commands that are not short.
use Rattle.std.proofs.Common.{◌≡◌, ◌∙◌, ℕ, ◌++◌, ◌∷◌, [], List, All, refl, ap, map, length}
use Rattle.std.specs.List.{AllByRecursion}
use Rattle.std.proofs.lemmas.List.{map-append, get_or_append_left}
use Rattle.std.proofs.Math.Seq.{get_or-append_seam}
use Rattle.std.proofs.lemmas.List.Elements.{recursion_from_All}
use Rattle.ideal_heap.specs.declared.command.Command.{Command}
use Rattle.ideal_heap.specs.declared.command.Command.TheVariants as commands
use Rattle.stored_commands.specs.declared.form.Form.{Form}
use Rattle.stored_commands.specs.declared.form.Op.{Op}
use Rattle.stored_commands.specs.declared.form.Op.TheVariants.{New, Get, Put, Read, Write, Add, Swap, Move, DropReg, Load, Share, Pin, Unpin, Gc, Meet, Other}
use Rattle.stored_commands.specs.Forms.{command_in, IsWithin}

-- a form stands for the same command beside one more
same-with : (xs : List Command) (c : Command) (o : Op) (i j k : ℕ) → let f : Form = record { op = o; a = i; b = j; c = k } in IsWithin (length xs) f → command_in (xs ++ c ∷ []) f ≡ command_in xs f
same-with xs c Other i j k within = get_or_append_left xs (c ∷ []) commands.Gc k within
same-with xs c New i j k within = refl
same-with xs c Get i j k within = refl
same-with xs c Put i j k within = refl
same-with xs c Read i j k within = refl
same-with xs c Write i j k within = refl
same-with xs c Add i j k within = refl
same-with xs c Swap i j k within = refl
same-with xs c Move i j k within = refl
same-with xs c DropReg i j k within = refl
same-with xs c Load i j k within = refl
same-with xs c Share i j k within = refl
same-with xs c Pin i j k within = refl
same-with xs c Unpin i j k within = refl
same-with xs c Gc i j k within = refl
same-with xs c Meet i j k within = refl

pub within-same : (xs : List Command) (c : Command) (f : Form) → IsWithin (length xs) f → command_in (xs ++ c ∷ []) f ≡ command_in xs f
within-same xs c f within = same-with xs c f.op f.a f.b f.c within

-- so do all forms of a trace
pub all-same : (xs : List Command) (c : Command) (fs : List Form) → AllByRecursion (IsWithin (length xs)) fs → map (command_in (xs ++ c ∷ [])) fs ≡ map (command_in xs) fs
all-same xs c [] within = refl
all-same xs c (f ∷ fs) within = ap (λ g. g ∷ map (command_in (xs ++ c ∷ [])) fs) (within-same xs c f within.0) ∙ ap (λ l. command_in xs f ∷ l) (all-same xs c fs within.1)

-- the form of a long command
abbrev pub other : ℕ → Form
other k = record { op = Other; a = 0; b = 0; c = k }

-- the commands of a trace with one long command more
pub long-pushed : (xs : List Command) (c : Command) (fs : List Form) → All (IsWithin (length xs)) fs → map (command_in (xs ++ c ∷ [])) (fs ++ other (length xs) ∷ []) ≡ map (command_in xs) fs ++ c ∷ []
long-pushed xs c fs within =
    map-append (command_in (xs ++ c ∷ [])) fs (other (length xs) ∷ []) ∙ ap (λ g. map (command_in (xs ++ c ∷ [])) fs ++ g ∷ []) (get_or-append_seam xs c [] commands.Gc)
    ∙ ap (λ l. l ++ c ∷ []) (all-same xs c fs (recursion_from_All (IsWithin (length xs)) fs within))
