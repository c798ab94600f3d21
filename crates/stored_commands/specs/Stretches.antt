-- The made trace, of which a stretch is drawn.
use Rattle.std.specs.Prelude.{◌≡◌, ℕ, zero, suc, ◌+◌, ◌<◌, ◌≤◌, List, length, get_or}
use Rattle.ideal_heap.specs.declared.command.Command.{Command}
use Rattle.stored_commands.specs.declared.form.Form.{Form}
use Rattle.stored_commands.specs.declared.form.Op.TheVariants.{Gc}
use Rattle.stored_commands.specs.declared.made_commands.Stretch.{Stretch}
use Rattle.stored_commands.specs.Forms.{command_of}
use Rattle.stored_commands.specs.Made.{command_at}

-- the generator's state before command k of n
abbrev pub state_at : ℕ → ℕ → ℕ
state_at n zero = n
state_at n (suc k) = (command_at k (state_at n k)).1

-- command k of n
abbrev pub drawn_at : ℕ → ℕ → Command
drawn_at n k = (command_at k (state_at n k)).0

-- the form with this index
abbrev pub form_at : List Form → ℕ → Form
form_at forms i = get_or forms i (record { op = Gc; a = 0; b = 0; c = 0 })

-- the command of narrow numbers
abbrev pub narrow : Form → Command
narrow f = command_of f.op f.a f.b f.c

-- the first forms stand for the commands of n from number `start` on, before `end`
abbrev pub AreDrawn : ℕ → ℕ → ℕ → List Form → Type 0
AreDrawn n start end forms = (i : ℕ) → start + i < end → narrow (form_at forms i) ≡ drawn_at n (start + i)

-- a stretch of the trace is drawn, and the generator draws the command after it next
pub record IsStretch (s : Stretch) : Type 0 where
  pub order : s.start ≤ s.end
  pub within : s.end ≤ s.count
  pub few : s.end ≤ s.start + length s.drawn.items
  pub room : 0 < s.count → 0 < length s.drawn.items
  pub state : s.draws.state ≡ state_at s.count s.end
  pub drawn : AreDrawn s.count s.start s.end s.drawn.items
