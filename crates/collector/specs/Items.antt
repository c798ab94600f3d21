-- Items of packets, and which object, global or root each is for.
use Rattle.std.specs.Prelude.{ℕ, Bool, false, nat_eq, List, [], ◌∷◌, count_by}
use Rattle.std.specs.List.{flat_map}
use Rattle.work_packets.specs.declared.packet.Packet.{Packet}
use Rattle.plain_tracer.specs.declared.tokens.Grey.{Grey}
use Rattle.collector.specs.declared.item.Item.{Item}
use Rattle.collector.specs.declared.item.Item.TheVariants.{Register, Global, Object}

abbrev pub is_register : ℕ → Item → Bool
is_register i (Register j) = nat_eq j i
is_register i (Global root) = false
is_register i (Object grey) = false

abbrev pub is_global : ℕ → Item → Bool
is_global g (Register j) = false
is_global g (Global root) = nat_eq root.global g
is_global g (Object grey) = false

abbrev pub is_object : ℕ → Item → Bool
is_object x (Register j) = false
is_object x (Global root) = false
is_object x (Object grey) = nat_eq grey.object x

-- how many items are for this root, global or object
abbrev pub registers : ℕ → List Item → ℕ
registers i items = count_by (is_register i) items

abbrev pub globals : ℕ → List Item → ℕ
globals g items = count_by (is_global g) items

abbrev pub objects : ℕ → List Item → ℕ
objects x items = count_by (is_object x) items

-- the items of packets, and the tokens of items
abbrev pub items_of : List (Packet Item) → List Item
items_of ps = flat_map (λ p. p.items.items) ps

abbrev pub tokens_of : List Item → List Grey
tokens_of [] = []
tokens_of (Register i ∷ items) = tokens_of items
tokens_of (Global root ∷ items) = tokens_of items
tokens_of (Object grey ∷ items) = grey ∷ tokens_of items

-- the item is an object to scan
abbrev pub IsObject : Item → Type 0
IsObject (Register j) = ⊥
IsObject (Global root) = ⊥
IsObject (Object grey) = Unit {0}
