-- The laws of a racing seat: loads follow one another, and so do effects.
use Rattle.std.proofs.Common.{◌≡◌, ◌≢◌, ℕ, ◌<◌, List, [], ◌++◌, Bool, true, false, refl, ap, sym, ◌∙◌, subst}
use Rattle.std.proofs.Common.{append_assoc}
use Rattle.std.specs.Prelude.{slice_index, ◌||◌}
use Rattle.std.proofs.lemmas.List.{append-nil, map-append}
use Rattle.ideal_heap.specs.Runs.{Entry, entry}
use Rattle.object_model.specs.declared.shape.Shape.{Shape}
use Rattle.sessions.specs.Plans.{Rules}
use Rattle.mutator_calls.specs.Effects.{Effect, Answered, nothing, and_then}
use Rattle.mutator_rule.specs.declared.views.MutatorView.{MutatorView}
use Rattle.mutator_rule.specs.Logs.{MakesEntries, own_entries}
use Rattle.racing_mutator.specs.declared.racing.Racing.{Racing}
use Rattle.mutator_rule.specs.declared.seat_notes.SeatNotes.{SeatNotes}
use Rattle.racing_rooms.specs.Rooms.{KeepsRooms}
use Rattle.racing_mutator.specs.RacingSeats.{entries_in, view, local, logged_at, address, HasShape, Makes, DoesEffect}
use Rattle.racing_mutator.specs.RacingSeats.{OnlyLoads, IsAged, IsMarked}

pub or-false : (b : Bool) → (b || false) ≡ b
or-false true = refl
or-false false = refl

or-or : (a b c : Bool) → ((a || b) || c) ≡ (a || (b || c))
or-or true b c = refl
or-or false b c = refl

pub rooms-both : (x y z : SeatNotes) → KeepsRooms x y → KeepsRooms y z → KeepsRooms x z
rooms-both x y z one two = two ∙ (λ k. record (one k) { flags = z.flags })

pub entries-both : (rules : Rules) (a b c : MutatorView) (es fs : List Entry)
    → MakesEntries rules a es b → MakesEntries rules b fs c → MakesEntries rules a (es ++ fs) c
entries-both rules a b c es fs x y = record {
  start = y.start ∙ x.start;
  number = y.number ∙ x.number;
  prefix = (
    x.prefix.0 ++ y.prefix.0,
    sym (append_assoc a.seen x.prefix.0 y.prefix.0) ∙ ap
        (λ v. v ++ y.prefix.0) x.prefix.1 ∙ y.prefix.1,
  );
  own = y.own ∙ ap (λ v. v ++ fs) x.own ∙ append_assoc (own_entries rules a) es fs;
}

module _ {P : Type 0} (rules : Rules) where
  pub makes-nothing : (a : Racing P) → Makes rules a [] a
  makes-nothing a = record {
    seat = refl;
    row = refl;
    goes = record {
      start = refl;
      number = refl;
      prefix = (
        [],
        append-nil
            (view a).seen,
      );
      own = sym (append-nil (own_entries rules (view a)));
    };
    stop = λ some. refl;
    flags = λ has. has;
    told = λ is. is;
  }

  pub makes-both : (a b c : Racing P) (es fs : List Entry) → Makes rules a es b
      → Makes rules b fs c → Makes rules a (es ++ fs) c
  makes-both a b c es fs x y = record {
    seat = y.seat ∙ x.seat;
    row = y.row ∙ x.row;
    goes = entries-both rules (view a) (view b) (view c) es fs x.goes y.goes;
    stop = λ some. y.stop (subst (λ k. 0 < k) (sym (x.stop some)) some) ∙ x.stop some;
    flags = λ has. y.flags (x.flags has);
    told = λ is. y.told (x.told is);
  }

  pub loads-nothing : (a : Racing P) → OnlyLoads rules a a
  loads-nothing a = record {
    makes = makes-nothing a;
    logged = refl;
    raised = refl;
    kept = refl;
    rooms = refl;
    registers = refl;
    ages = λ s is. is;
    marks = λ s is. is;
  }

  pub loads-twice : (a b c : Racing P) → OnlyLoads rules a b → OnlyLoads rules b c
      → OnlyLoads rules a c
  loads-twice a b c x y = record {
    makes = makes-both a b c [] [] x.makes y.makes;
    logged = y.logged ∙ x.logged;
    raised = y.raised ∙ x.raised;
    kept = y.kept ∙ x.kept;
    rooms = rooms-both a.seat.now.notes b.seat.now.notes c.seat.now.notes x.rooms y.rooms;
    registers = y.registers ∙ x.registers;
    ages = λ s is. x.ages s (y.ages s is);
    marks = λ s is. x.marks s (y.marks s is);
  }

  pub does-both : (a b c : Racing P) (e f : Effect) → DoesEffect rules a e b
      → DoesEffect rules b f c → DoesEffect rules a (and_then e f) c
  does-both a b c e f x y =
      let m : ℕ = (local a).number in
      record {
        makes = subst (λ es. Makes rules a es c) (sym (map-append (λ
            (z : Answered). entry m z.command z.reply) e.entries f.entries))
            (makes-both a b c (entries_in m e) (entries_in m f) x.makes (subst
            (λ k. Makes rules b (entries_in k f) c) x.makes.goes.number y.makes));
        logged = y.logged ∙ ap (λ v. v ++ f.logged) x.logged ∙ append_assoc
            (logged_at rules a.seat.now) e.logged f.logged;
        raised = y.raised ∙ ap (λ v. v || f.raised) x.raised ∙ or-or
            (local a).raised e.raised f.raised;
        kept = y.kept ∙ x.kept;
        rooms = rooms-both a.seat.now.notes b.seat.now.notes c.seat.now.notes x.rooms y.rooms;
      }

  pub loads-do-nothing : (a b : Racing P) → OnlyLoads rules a b → DoesEffect rules a nothing b
  loads-do-nothing a b x = record {
    makes = x.makes;
    logged = x.logged ∙ sym (append-nil
        (logged_at rules a.seat.now));
    raised = x.raised ∙ sym (or-false (local a).raised);
    kept = x.kept;
    rooms = x.rooms;
  }

  pub loads-registers : (a b : Racing P) (s : ℕ) → OnlyLoads rules a b → address b s ≡ address a s
  loads-registers a b s x = ap (λ (rs : List ℕ). slice_index rs s) x.registers

  pub loads-ages : (a b : Racing P) (s : ℕ) → OnlyLoads rules a b → IsAged rules b s
      → IsAged rules a s
  loads-ages a b s x is = x.ages s is

  pub loads-marks : (a b : Racing P) (s : ℕ) → OnlyLoads rules a b → IsMarked rules b s
      → IsMarked rules a s
  loads-marks a b s x is = x.marks s is

pub shape-some : {P : Type 0} (a : Racing P) (s : ℕ) (shape : Shape) → HasShape a s shape
    → address a s ≢ 0
shape-some a s shape has = has.some
