-- What a search found stays so while what it read comes to say more, as after the object is placed.
use Rattle.std.proofs.Common.{◌≡◌, ◌<◌, ◌≤◌, ◌⊎◌, ◌≢◌, ℕ, ◌∙◌, sym, subst, inl, inr, List}
use Rattle.std.specs.Prelude.{Option, Some}
use Rattle.mutator_calls.specs.Allocating.{Draws, Search, ComesToHoles, RoomInRegion, RoomInHole, RoomInFreeBlock, FindsRoom}

pub draws-from : (P Q : ℕ → Type 0) (old new : Option ℕ) (drawn : ℕ) → ((t : ℕ) → P t → Q t) → Draws P old new drawn → Draws Q old new drawn
draws-from P Q old new drawn f (inl kept) = inl kept
draws-from P Q old new drawn f (inr drew) = inr (drew.0, drew.1, (drew.2.0, drew.2.1, f drew.2.0 drew.2.2))

-- The one search found what the other reads.
pub record IsLater (s t : Search) : Type 0 where
  pub lacks : (k : ℕ) → s.lacks k → t.lacks k
  pub used : (k : ℕ) → s.used k → t.used k
  pub before : (k : ℕ) → s.before k → t.before k
  pub now : (k : ℕ) → s.now k → t.now k
  pub next : (n : ℕ) → s.next n → t.next n
  pub full : s.full → t.full
  pub was_full : t.full → s.full
  pub spent : s.spent → t.spent
  pub overflow : s.overflow → t.overflow
  pub was_overflow : t.overflow → s.overflow
  pub kept : s.kept → t.kept
  pub blocks : t.blocks ≡ s.blocks
  pub allowance : t.allowance ≡ s.allowance
  pub old : t.old ≡ s.old
  pub new : t.new ≡ s.new

module _ (s t : Search) (is : IsLater s t) (drawn : ℕ) where
  draws-later : (o : Option ℕ) → Draws s.next s.old o drawn → Draws t.next t.old o drawn
  draws-later o drew = subst (λ b. Draws t.next b o drawn) (sym is.old) (draws-from s.next t.next s.old o drawn is.next drew)

  comes-later : ComesToHoles s drawn → ComesToHoles t drawn
  comes-later (ComesToHoles.at_once not none same) = ComesToHoles.at_once (λ o. not (is.was_overflow o)) none (is.new ∙ same ∙ sym is.old)
  comes-later (ComesToHoles.in_vain n over drew has few) =
      ComesToHoles.in_vain n (is.overflow over) (draws-later (Some n) drew) (is.new ∙ has) (subst (λ a. a ≤ n) (sym is.allowance) few)

module _ (s t : Search) (is : IsLater s t) (taken granted : List ℕ) (drawn : ℕ) where
  region-later : RoomInRegion s taken granted drawn → RoomInRegion t taken granted drawn
  region-later r = record {
    block = r.block;
    before = is.before r.block r.before;
    now = is.now r.block r.now;
    room = λ full. r.room (is.was_full full);
    kept = λ over. is.kept (r.kept (is.was_overflow over));
    none_taken = r.none_taken;
    none_granted = r.none_granted;
    none_drawn = r.none_drawn;
    ticket = is.new ∙ r.ticket ∙ sym is.old;
  }

  hole-later : RoomInHole s taken granted drawn → RoomInHole t taken granted drawn
  hole-later r = record {
    block = r.block;
    now = is.now r.block r.now;
    takes = r.takes;
    none_granted = r.none_granted;
    full = is.full r.full;
    comes = comes-later s t is drawn r.comes;
    first = elim r.first as (λ _. t.before r.block ⊎ (t.spent × ((j : ℕ) → j < r.block → t.lacks j))) [
      | inl own ↦ inl (is.before r.block own)
      | inr first ↦ inr (is.spent first.0, λ j below. is.lacks j (first.1 j below))
    ];
  }

  free-later : RoomInFreeBlock s taken granted drawn → RoomInFreeBlock t taken granted drawn
  free-later r = record {
    block = r.block;
    now = is.now r.block r.now;
    takes = r.takes;
    grants = r.grants;
    full = is.full r.full;
    ticket = r.ticket;
    draws = draws-later s t is drawn (Some r.ticket) r.draws;
    good = subst (λ a. r.ticket < a) (sym is.allowance) r.good;
    used_up = is.new ∙ r.used_up;
    lowest = λ j below. is.used j (r.lowest j below);
    last_resort = elim r.last_resort as (λ _. (t.overflow × t.kept)
        ⊎ ((t.overflow → ⊥) × t.spent × ((j : ℕ) → j < t.blocks → j ≢ r.block → t.lacks j))) [
          | inl over ↦ inl (is.overflow over.0, is.kept over.1)
          | inr others ↦ inr (
            (λ over. others.0 (is.was_overflow over)),
            is.spent others.1,
            λ j below other. is.lacks j (others.2 j (subst (λ n. j < n) is.blocks below) other),
          )
        ];
  }

  pub finds-later : FindsRoom s taken granted drawn → FindsRoom t taken granted drawn
  finds-later (FindsRoom.in_region r) = FindsRoom.in_region (region-later r)
  finds-later (FindsRoom.in_hole r) = FindsRoom.in_hole (hole-later r)
  finds-later (FindsRoom.in_free_block r) = FindsRoom.in_free_block (free-later r)
