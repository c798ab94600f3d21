-- Lists of packets of roots.
use Rattle.std.proofs.Common.{◌≡◌, ℕ, zero, suc, ◌+◌, ◌<◌, ◌≤◌, List, [], ◌∷◌, ◌++◌, refl, sym, ap, ◌∙◌, subst, append_assoc, length, set, get_or, arith, true, false, true≢false}
use Rattle.std.proofs.lemmas.List.{append-nil, length-append}
use Rattle.std.proofs.lemmas.List.Elements.{All-cons, All-nil, All-set, All-append, All-get_or}
use Rattle.work_packets.specs.declared.packet.Packet.{Packet}
use Rattle.work_packets.specs.declared.packet.Bucket.TheVariants as buckets
use Rattle.work_packets.specs.Packets.{HasItems}
use Rattle.racing_collector.specs.declared.item.RaceItem.{RaceItem}
use Rattle.racing_collector.specs.Items.{items_of}
use Rattle.racing_collector.specs.Items.{AllButLastAreFull, AreRootPackets}

-- the last packet gets an item more
pub items-last : (ps : List (Packet RaceItem)) (n : ℕ) (p q : Packet RaceItem) (item : RaceItem) → n + 1 ≡ length ps → p ≡ get_or ps n p
    → q.items.items ≡ p.items.items ++ item ∷ [] → items_of (set ps n q) ≡ items_of ps ++ item ∷ []
items-last [] n p q item last is more = absurd (omega (arith, last))
items-last (a ∷ []) zero p q item last is more =
    append-nil q.items.items ∙ more ∙ ap (λ u. u.items.items ++ item ∷ []) is ∙ ap (λ l. l ++ item ∷ []) (sym (append-nil a.items.items))
items-last (a ∷ []) (suc n) p q item last is more = absurd (omega (arith, last))
items-last (a ∷ b ∷ ps) zero p q item last is more = absurd (omega (arith, last))
items-last (a ∷ b ∷ ps) (suc n) p q item last is more =
    ap (λ l. a.items.items ++ l) (items-last (b ∷ ps) n p q item (omega (arith, last)) is more)
    ∙ sym (append_assoc a.items.items (items_of (b ∷ ps)) (item ∷ []))

full-last : (ps : List (Packet RaceItem)) (n : ℕ) (q : Packet RaceItem) → n + 1 ≡ length ps → AllButLastAreFull ps → AllButLastAreFull (set ps n q)
full-last [] n q last full = tt
full-last (a ∷ []) zero q last full = tt
full-last (a ∷ []) (suc n) q last full = tt
full-last (a ∷ b ∷ ps) zero q last full = absurd (omega (arith, last))
full-last (a ∷ b ∷ []) (suc zero) q last full = (full.0, tt)
full-last (a ∷ b ∷ c ∷ ps) (suc zero) q last full = absurd (omega (arith, last))
full-last (a ∷ b ∷ ps) (suc (suc n)) q last full = (full.0, full-last (b ∷ ps) (suc n) q (omega (arith, last)) full.1)

pub packets-last : (ps : List (Packet RaceItem)) (n : ℕ) (p q : Packet RaceItem) (item : RaceItem) → n + 1 ≡ length ps → p ≡ get_or ps n p
    → q.items.items ≡ p.items.items ++ item ∷ [] → q.bucket ≡ p.bucket → length p.items.items < 64
    → AreRootPackets ps → AreRootPackets (set ps n q)
packets-last ps n p q item last is more same room are = record {
  bucket = All-set (λ (u : Packet RaceItem). u.bucket ≡ buckets.Roots) ps n q (same ∙ ap (λ u. u.bucket) is ∙ All-get_or (λ (u : Packet RaceItem). u.bucket ≡ buckets.Roots) ps n p (omega (arith, last)) are.bucket) are.bucket;
  sizes = All-set HasItems ps n q (let many : length q.items.items ≡ length p.items.items + 1 = ap length more ∙ length-append p.items.items (item ∷ []) in
      record { some = omega (arith, many); few = omega (arith, many, room) }) are.sizes;
  full = full-last ps n q last are.full;
}

-- the packets are none, or the last one has so many items
abbrev pub EndsWith : List (Packet RaceItem) → ℕ → Type 0
EndsWith [] n = Unit {0}
EndsWith (p ∷ []) n = length p.items.items ≡ n
EndsWith (p ∷ q ∷ ps) n = EndsWith (q ∷ ps) n

full-more : (ps : List (Packet RaceItem)) (q : Packet RaceItem) → EndsWith ps 64 → AllButLastAreFull ps → AllButLastAreFull (ps ++ q ∷ [])
full-more [] q ends full = tt
full-more (p ∷ []) q ends full = (ends, tt)
full-more (a ∷ b ∷ ps) q ends full = (full.0, full-more (b ∷ ps) q ends full.1)

pub ends-full : (ps : List (Packet RaceItem)) (n : ℕ) (p : Packet RaceItem) → n + 1 ≡ length ps → p ≡ get_or ps n p → 64 ≤ length p.items.items
    → AreRootPackets ps → EndsWith ps 64
ends-full ps n p last is many are = ends ps n p last is (let few : length p.items.items ≤ 64 = subst (λ (u : Packet RaceItem). length u.items.items ≤ 64) (sym is) (All-get_or HasItems ps n p (omega (arith, last)) are.sizes).few in omega (arith, few, many))
  where
    ends : (ps : List (Packet RaceItem)) (n : ℕ) (p : Packet RaceItem) → n + 1 ≡ length ps → p ≡ get_or ps n p → length p.items.items ≡ 64 → EndsWith ps 64
    ends [] n p last is many = tt
    ends (a ∷ []) zero p last is many = subst (λ (u : Packet RaceItem). length u.items.items ≡ 64) is many
    ends (a ∷ []) (suc n) p last is many = absurd (omega (arith, last))
    ends (a ∷ b ∷ ps) zero p last is many = absurd (omega (arith, last))
    ends (a ∷ b ∷ ps) (suc n) p last is many = ends (b ∷ ps) n p (omega (arith, last)) is many

pub ends-none : (ps : List (Packet RaceItem)) (n : ℕ) → n ≡ length ps → (0 < n → false ≡ true) → EndsWith ps 64
ends-none [] n is none = tt
ends-none (p ∷ ps) n is none = absurd (true≢false (sym (none (omega (arith, is)))))

-- a packet is put where it is
pub set-own : (ps : List (Packet RaceItem)) (n : ℕ) (p : Packet RaceItem) → p ≡ get_or ps n p → set ps n p ≡ ps
set-own [] n p is = refl
set-own (a ∷ ps) zero p is = ap (λ u. u ∷ ps) is
set-own (a ∷ ps) (suc n) p is = ap (λ l. a ∷ l) (set-own ps n p is)

-- a packet of one item is added
pub packets-more : (ps : List (Packet RaceItem)) (q : Packet RaceItem) → EndsWith ps 64 → q.bucket ≡ buckets.Roots → length q.items.items ≡ 1
    → AreRootPackets ps → AreRootPackets (ps ++ q ∷ [])
packets-more ps q ends roots one are = record {
  bucket = All-append (λ (u : Packet RaceItem). u.bucket ≡ buckets.Roots) ps (q ∷ []) are.bucket (All-cons (λ (u : Packet RaceItem). u.bucket ≡ buckets.Roots) q [] roots (All-nil (λ (u : Packet RaceItem). u.bucket ≡ buckets.Roots)));
  sizes = All-append HasItems ps (q ∷ []) are.sizes (All-cons HasItems q [] (record { some = omega (arith, one); few = omega (arith, one) }) (All-nil HasItems));
  full = full-more ps q ends are.full;
}
