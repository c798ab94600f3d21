-- Bits of objects in registers, in the words that steps find.
use Rattle.std.proofs.Common.{◌≡◌, ◌≢◌, ⊎_elim, refl, sym, ◌∙◌, ap, subst, ℕ, ◌+◌, ◌-◌, ◌/◌, ◌%◌, ◌<◌, ◌≤◌, arith, Bool, true, false, List, length, slice_index, nat_eq}
use Rattle.std.specs.Prelude.{if◌then◌else◌, not}
use Rattle.std.specs.Int.{bit_at}
use Rattle.heap_layout.specs.Zones.{Zone, first, heap_of}
use Rattle.ideal_heap.specs.declared.reply.Reply.TheVariants as r
use Rattle.object_model.specs.BitWords.{bit_word, bit_place}
use Rattle.sessions.specs.Plans.{Rules}
use Rattle.mutator_core.specs.Machine.{address_in}
use Rattle.mutator_rule.specs.declared.views.EpochStart.{EpochStart}
use Rattle.mutator_rule.specs.Seats.{IsSeatOf}
use Rattle.racing_mutator.specs.declared.racing.Racing.{Racing}
use Rattle.racing_mutator.specs.RacingSeats.{local, address, epoch_of_racing, IsReady, IsBitOf}

-- the heap of the row is that of the epoch's beginning
pub blocks-of : {P : Type 0} (rules : Rules) (a : Racing P) → IsSeatOf rules a.row.now a.seat.now → a.row.now.layout.blocks ≡ (epoch_of_racing rules a).before.blocks
blocks-of rules a own = ap (λ l. l.blocks) a.row.now.laid ∙ ap (λ (g : EpochStart). g.blocks) (sym own.1)

module _ {P : Type 0} (rules : Rules) (a : Racing P) (ready : IsReady rules a) where
  abbrev words : List ℕ
  words = (epoch_of_racing rules a).before.words

  pub blocks-same : a.row.now.layout.blocks ≡ (epoch_of_racing rules a).before.blocks
  blocks-same = blocks-of rules a ready.own

  pub words-same : a.row.now.row.words.table_id.words ≡ length words
  words-same = a.row.now.counted ∙ ap (λ (g : EpochStart). length g.words) (sym ready.own.1)

  pub register-same : (s : ℕ) → address_in (local a) s ≡ address a s
  register-same s = ap (λ (rs : List ℕ). slice_index rs s) a.seat.now.held

  -- the object of a register lies in the heap
  pub from-heap : (s : ℕ) → s < 16 → address a s ≢ 0 → heap_of a.row.now.layout.blocks ≤ address a s
  from-heap s few some = ⊎_elim
      (λ (nil : address_in (local a) s ≡ 0). absurd (some (sym (register-same s) ∙ nil)))
      (λ (there : (heap_of (epoch_of_racing rules a).before.blocks ≤ address_in (local a) s) × (address_in (local a) s + 3 ≤ length words)).
      subst (λ b. heap_of b ≤ address a s) (sym blocks-same) (subst (λ x. heap_of (epoch_of_racing rules a).before.blocks ≤ x) (register-same s) there.0))
      (ready.own.2.inside.registers s few)

  ends-in-row : (s : ℕ) → s < 16 → address a s ≢ 0 → address a s + 3 ≤ length words
  ends-in-row s few some = ⊎_elim
      (λ (nil : address_in (local a) s ≡ 0). absurd (some (sym (register-same s) ∙ nil)))
      (λ (there : (heap_of (epoch_of_racing rules a).before.blocks ≤ address_in (local a) s) × (address_in (local a) s + 3 ≤ length words)).
      subst (λ x. x + 3 ≤ length words) (register-same s) there.1)
      (ready.own.2.inside.registers s few)

  pub bit-of : (zone : Zone) (base s at bit : ℕ) → s < 16 → address a s ≢ 0 → first a.row.now.layout.blocks zone ≤ heap_of a.row.now.layout.blocks → base ≡ first a.row.now.layout.blocks zone
      → at ≡ base + (address a s - heap_of a.row.now.layout.blocks) / 64 → bit ≡ (address a s - heap_of a.row.now.layout.blocks) % 64 → IsBitOf rules a zone s at bit
  bit-of zone base s at bit few some before is word place =
      let from = from-heap s few some in
      let ends = ends-in-row s few some in
      record {
        word = word ∙ (λ k. is k + (address a s - heap_of a.row.now.layout.blocks) / 64) ∙ (λ k. bit_word (blocks-same k) zone (sym (register-same s) k));
        place = place ∙ (λ k. bit_place (blocks-same k) (sym (register-same s) k));
        low = (let e = place in omega arith);
        inside = subst (λ n. at < n) (sym words-same) (let w = word in let b = is in let f = before in omega arith);
      }

-- the reply of a pin, and of an unpin
pub pin-reply : (n j k : ℕ) (result : Bool) → j ≡ k → result ≡ not (nat_eq (bit_at n j) 1) → (if nat_eq (bit_at n k) 1 then r.No else r.Yes) ≡ (if result then r.Yes else r.No)
pin-reply n j k result same is = ap (λ i. if nat_eq (bit_at n i) 1 then r.No else r.Yes) (sym same) ∙ turned (nat_eq (bit_at n j) 1) ∙ ap (λ (b : Bool). if b then r.Yes else r.No) (sym is)
  where
    turned : (b : Bool) → (if b then r.No else r.Yes) ≡ (if not b then r.Yes else r.No)
    turned true = refl
    turned false = refl

pub unpin-reply : (n j k : ℕ) (result : Bool) → j ≡ k → result ≡ nat_eq (bit_at n j) 1 → (if nat_eq (bit_at n k) 1 then r.Yes else r.No) ≡ (if result then r.Yes else r.No)
unpin-reply n j k result same is = ap (λ i. if nat_eq (bit_at n i) 1 then r.Yes else r.No) (sym same) ∙ ap (λ (b : Bool). if b then r.Yes else r.No) (sym is)
