-- What a command may change: one object, one register and one global at most.
use Rattle.std.specs.Prelude.{◌≡◌, ℕ, ◌+◌, ⊤, Option, None, Some}
use Rattle.ideal_heap.specs.declared.name.Name.{Name}
use Rattle.ideal_heap.specs.declared.command.Command.{Command}
use Rattle.ideal_heap.specs.declared.command.Command.TheVariants as c
use Rattle.ideal_heap.specs.Names.{name}
use Rattle.ideal_heap.specs.Ideal.{IdealHeap}

-- the object whose references or numbers mutator m's command may change, or which it makes
abbrev pub changed_by : IdealHeap → ℕ → Command → Option Name
changed_by h m (c.New d refs nums) = Some (name m (h.births m + 1))
changed_by h m (c.Put s i v) = h.registers m s
changed_by h m (c.Write s j v) = h.registers m s
changed_by h m (c.Add s j v) = h.registers m s
changed_by h m (c.Swap s j u v) = h.registers m s
changed_by h m _ = None

-- the register, of the mutator that gives the command, which the command may set
abbrev pub set_by : Command → Option ℕ
set_by (c.New d refs nums) = Some d
set_by (c.Get d s i) = Some d
set_by (c.Move d s) = Some d
set_by (c.DropReg s) = Some s
set_by (c.Load d g) = Some d
set_by _ = None

-- the global that the command may set
abbrev pub shared_by : Command → Option ℕ
shared_by (c.Share g s) = Some g
shared_by _ = None

-- the object that mutator m's command pins or unpins
abbrev pub pinned_by : IdealHeap → ℕ → Command → Option Name
pinned_by h m (c.Pin s) = h.registers m s
pinned_by h m (c.Unpin s) = h.registers m s
pinned_by h m _ = None

-- the command sets register s of mutator k
abbrev pub SetsField : ℕ → Command → ℕ → ℕ → Type 0
SetsField m command k s = (k ≡ m) × (set_by command ≡ Some s)

-- the command changes the object that o names
abbrev pub Changes : IdealHeap → ℕ → Command → Option Name → Type 0
Changes h m command o = (n : Name) × (o ≡ Some n) × (changed_by h m command ≡ Some n)

-- if the command changes an object, it may change number j of it: a new object gets all its numbers
abbrev pub HitsNumber : Command → ℕ → Type 0
HitsNumber (c.New d refs nums) j = ⊤
HitsNumber (c.Write s k v) j = j ≡ k
HitsNumber (c.Add s k v) j = j ≡ k
HitsNumber (c.Swap s k u v) j = j ≡ k
HitsNumber _ j = ⊥

-- if the command changes an object, it may change reference i of it
abbrev pub HitsField : Command → ℕ → Type 0
HitsField (c.New d refs nums) i = ⊤
HitsField (c.Put s k v) i = i ≡ k
HitsField _ i = ⊥
