-- What the steps of a call do: the entries that they make in the history, the objects that they
-- log, the blocks that they take, the tickets that they draw, the stop that they raise, and whether
-- they change the mutator's regions.
use Rattle.std.specs.Prelude.{◌≡◌, ℕ, ◌+◌, Bool, true, false, ◌||◌, List, [], ◌∷◌, ◌++◌, MatchBool, nat_eq}
use Rattle.ideal_heap.specs.declared.command.Command.{Command}
use Rattle.ideal_heap.specs.declared.reply.Reply.{Reply}
use Rattle.ideal_heap.specs.declared.reply.Reply.TheVariants as r
use Rattle.ideal_heap.specs.declared.name.Name.{Name}

-- a command with its reply
pub record Answered : Type 0 where
  pub command : Command
  pub reply : Reply

pub record Effect : Type 0 where
  -- the entries in the history, first to last
  pub entries : List Answered
  -- the addresses of objects whose unlog bits are cleared
  pub logged : List ℕ
  -- the numbers of blocks whose owner the mutator becomes, and of those that were Free
  pub taken : List ℕ
  pub granted : List ℕ
  -- the number of tickets drawn
  pub drawn : ℕ
  -- whether the mutator tried to raise a stop
  pub raised : Bool
  -- whether a region of the mutator may have changed: it lies in another block, or begins elsewhere
  pub moved : Bool

-- no entry, no object logged, no block taken, no ticket drawn, no stop raised, no region changed
abbrev pub nothing : Effect
nothing = record {
  entries = [];
  logged = [];
  taken = [];
  granted = [];
  drawn = 0;
  raised = false;
  moved = false;
}

-- one entry
abbrev pub enters : Command → Reply → Effect
enters command reply =
    record nothing { entries = (record { command = command; reply = reply }) ∷ [] }

-- these objects are logged, and then there is one entry
abbrev pub logs : List ℕ → Command → Reply → Effect
logs addresses command reply = record (enters command reply) { logged = addresses }

-- a region changes, for which these blocks without an owner are taken
abbrev pub takes : List ℕ → Effect
takes blocks = record nothing { taken = blocks; moved = true }

-- the Free block is taken
abbrev pub grants : ℕ → Effect
grants block = record (takes (block ∷ [])) { granted = block ∷ [] }

-- so many tickets are drawn
abbrev pub draws : ℕ → Effect
draws count = record nothing { drawn = count }

-- the mutator tries to raise a stop
abbrev pub raises : Effect
raises = record nothing { raised = true }

-- the one effect and then the other
abbrev pub and_then : Effect → Effect → Effect
and_then e f = record {
  entries = e.entries ++ f.entries;
  logged = e.logged ++ f.logged;
  taken = e.taken ++ f.taken;
  granted = e.granted ++ f.granted;
  drawn = e.drawn + f.drawn;
  raised = e.raised || f.raised;
  moved = e.moved || f.moved;
}

-- The reply is that to a load that found v: nil, or the name of the object at v.
abbrev pub IsFound : (ℕ → Name → Type 0) → ℕ → Reply → Type 0
IsFound named v reply =
    MatchBool (nat_eq v 0) (reply ≡ r.Nil) ((n : Name) → named v n → reply ≡ r.Ref n)
