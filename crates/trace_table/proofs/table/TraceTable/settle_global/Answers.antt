use Rattle.std.proofs.Common.{ℕ, ◌<◌, ◌∙◌, refl, sym, ap, subst}
use Rattle.object_model.specs.Objects.{IsHeld, global_at}
use Rattle.object_model.specs.Times.{times}
use Rattle.trace_core.specs.Setups.{Setup, TraceMayBegin}
use Rattle.trace_core.specs.Machine.{ByGlobal}
use Rattle.trace_words.specs.declared.share.Share.{Share}
use Rattle.trace_words.specs.Shares.{sets_global}
use Rattle.trace_words.specs.Steps.{AsksFor, IsLast}
use Rattle.trace_table.specs.Seats.{IsSetting, MarksNoLine}
use Rattle.trace_table.proofs.SeatShares.{share-is, seat-on, seat-same}
use Rattle.trace_table.proofs.FieldScans.{last-field}
use Rattle.trace_table.proofs.GlobalSets.{still-setting, done-set, room-set, busy-set, sets-none, sets-followed, held-global, unmarked-set}
use Rattle.trace_table.proofs.table.TraceTable.settle_global.Goals as goal

pub returns-then-reference-eq0-clause-seat : goal.returns-then-reference-eq0-clause-seat
returns-then-reference-eq0-clause-seat g c = let i : ℕ = g.C.About.index in let v : Share = c.args.seat.now.seat.me.0 in
    let is = share-is _ _ c.keep_global.ensures.share ∙ ap (sets_global i) (share-is _ _ c.read_global-reference.ensures.global.1) in
    seat-on c.args.self.now c.args.seat.now _ c.requires.seat (c.keep_global.ensures.own ∙ c.read_global-reference.ensures.own) refl refl refl (room-set i v _ is)
    (λ b below. subst (λ l. 0 < times b l) (sym (busy-set i v _ is)) (c.requires.seat.seen b below)) c.requires.seat.next

pub returns-then-reference-eq0-clause-done : goal.returns-then-reference-eq0-clause-done
returns-then-reference-eq0-clause-done g c = let i : ℕ = g.C.About.index in let v : Share = c.args.seat.now.seat.me.0 in
    done-set g.C.About.setup i v _ c.requires.setting (share-is _ _ c.keep_global.ensures.share ∙ ap (sets_global i) (share-is _ _ c.read_global-reference.ensures.global.1))

pub returns-then-reference-eq0-clause-sets : goal.returns-then-reference-eq0-clause-sets
returns-then-reference-eq0-clause-sets g c = sets-none g.C.About.index c.args.seat.now.seat.me.0 _ _ c.args.out.now.items
    (share-is _ _ c.read_global-reference.ensures.global.1) (share-is _ _ c.keep_global.ensures.share)

pub follow_global-last-requires-clause-seat : goal.follow_global-last-requires-clause-seat
follow_global-last-requires-clause-seat g c = seat-same c.args.self.now c.args.seat.now _ c.requires.seat c.read_global-reference.ensures.own refl refl refl refl c.read_global-reference.ensures.global.1

pub follow_global-last-requires-clause-held : goal.follow_global-last-requires-clause-held
follow_global-last-requires-clause-held g c = let p : Setup = g.C.About.setup in let ready : TraceMayBegin p = subst TraceMayBegin c.requires.about.0 c.requires.table.ready in
    subst (λ (q : Setup). IsHeld q.before c.read_global-reference.result) (sym c.requires.about.0)
    (held-global p ready g.C.About.index c.requires.below c.read_global-reference.result c.read_global-reference.ensures.global.0 c.if-reference-eq0.false)

pub follow_global-last-requires-clause-asks : goal.follow_global-last-requires-clause-asks
follow_global-last-requires-clause-asks g c = let p : Setup = g.C.About.setup in let i : ℕ = g.C.About.index in
    let v : Share = c.read_global-reference.new.seat.me.0 in let n : ℕ = c.read_global-reference.result in
    let asks : AsksFor p v n (ByGlobal i) = (c.requires.below, sym c.read_global-reference.ensures.global.0) in
    subst (λ q. AsksFor q v n (ByGlobal c.args.global)) (sym c.requires.about.0) (subst (λ j. AsksFor p v n (ByGlobal j)) (sym c.requires.about.1) asks)

pub keep_global-requires-then-last-reference-clause-last : goal.keep_global-requires-then-last-reference-clause-last
keep_global-requires-then-last-reference-clause-last g c = let f : ℕ = global_at g.C.About.setup.before g.C.About.index in
    subst (λ n. IsLast c.follow_global-last.new.seat.seat.me.0 f n) (c.if-last-reference.true ∙ c.read_global-reference.ensures.global.0)
    (last-field _ c.follow_global-last.new.seat.seat.me.0 f c.read_global-reference.result c.follow_global-last.result _ _ c.read_global-reference.ensures.global.0 c.if-reference-eq0.false c.follow_global-last.ensures.follows)

pub set_global-requires-clause-last : goal.set_global-requires-clause-last
set_global-requires-clause-last g c = let f : ℕ = global_at g.C.About.setup.before g.C.About.index in
    last-field _ c.follow_global-last.new.seat.seat.me.0 f c.read_global-reference.result c.follow_global-last.result _ _ c.read_global-reference.ensures.global.0 c.if-reference-eq0.false c.follow_global-last.ensures.follows

pub returns-then-last-reference-clause-seat : goal.returns-then-last-reference-clause-seat
returns-then-last-reference-clause-seat g c = let i : ℕ = g.C.About.index in let v : Share = c.follow_global-last.new.seat.seat.me.0 in
    let is = share-is _ _ c.keep_global-then-last-reference.ensures.share in let s = c.follow_global-last.ensures.seat in
    seat-on c.args.self.now c.follow_global-last.new.seat _ s c.keep_global-then-last-reference.ensures.own refl refl refl (room-set i v _ is)
    (λ b below. subst (λ l. 0 < times b l) (sym (busy-set i v _ is)) (s.seen b below)) s.next

pub returns-then-last-reference-clause-done : goal.returns-then-last-reference-clause-done
returns-then-last-reference-clause-done g c = let p : Setup = g.C.About.setup in let i : ℕ = g.C.About.index in
    let at = subst (λ (u : Share). IsSetting p i u) (sym (share-is _ _ c.read_global-reference.ensures.global.1)) c.requires.setting in
    done-set p i _ _ (still-setting p i _ _ _ _ _ _ at c.follow_global-last.ensures.follows) (share-is _ _ c.keep_global-then-last-reference.ensures.share)

pub returns-then-last-reference-clause-sets : goal.returns-then-last-reference-clause-sets
returns-then-last-reference-clause-sets g c = sets-followed g.C.About.index _ _ c.args.seat.now.seat.me.0 _ c.follow_global-last.new.seat.seat.me.0 _ _ _
    (share-is _ _ c.read_global-reference.ensures.global.1) c.follow_global-last.ensures.follows (share-is _ _ c.keep_global-then-last-reference.ensures.share)

pub returns-else-last-reference-clause-seat : goal.returns-else-last-reference-clause-seat
returns-else-last-reference-clause-seat g c = let i : ℕ = g.C.About.index in let v : Share = c.follow_global-last.new.seat.seat.me.0 in
    let is = share-is _ _ c.set_global.ensures.share in let s = c.follow_global-last.ensures.seat in
    seat-on c.args.self.now c.follow_global-last.new.seat _ s c.set_global.ensures.own refl refl refl (room-set i v _ is)
    (λ b below. subst (λ l. 0 < times b l) (sym (busy-set i v _ is)) (s.seen b below)) s.next

pub returns-else-last-reference-clause-done : goal.returns-else-last-reference-clause-done
returns-else-last-reference-clause-done g c = let p : Setup = g.C.About.setup in let i : ℕ = g.C.About.index in
    let at = subst (λ (u : Share). IsSetting p i u) (sym (share-is _ _ c.read_global-reference.ensures.global.1)) c.requires.setting in
    done-set p i _ _ (still-setting p i _ _ _ _ _ _ at c.follow_global-last.ensures.follows) (share-is _ _ c.set_global.ensures.share)

pub returns-else-last-reference-clause-sets : goal.returns-else-last-reference-clause-sets
returns-else-last-reference-clause-sets g c = sets-followed g.C.About.index _ _ c.args.seat.now.seat.me.0 _ c.follow_global-last.new.seat.seat.me.0 _ _ _
    (share-is _ _ c.read_global-reference.ensures.global.1) c.follow_global-last.ensures.follows (share-is _ _ c.set_global.ensures.share)

pub returns-then-reference-eq0-clause-grey : goal.returns-then-reference-eq0-clause-grey
returns-then-reference-eq0-clause-grey g c = ap (λ (u : Share). u.grey) (share-is _ _ c.keep_global.ensures.share) ∙ ap (λ (u : Share). u.grey) (share-is _ _ c.read_global-reference.ensures.global.1)

pub returns-then-last-reference-clause-grey : goal.returns-then-last-reference-clause-grey
returns-then-last-reference-clause-grey g c = ap (λ (u : Share). u.grey) (share-is _ _ c.keep_global-then-last-reference.ensures.share)
    ∙ c.follow_global-last.ensures.follows.grey ∙ ap (λ (u : Share). u.grey) (share-is _ _ c.read_global-reference.ensures.global.1)

pub returns-else-last-reference-clause-grey : goal.returns-else-last-reference-clause-grey
returns-else-last-reference-clause-grey g c = ap (λ (u : Share). u.grey) (share-is _ _ c.set_global.ensures.share)
    ∙ c.follow_global-last.ensures.follows.grey ∙ ap (λ (u : Share). u.grey) (share-is _ _ c.read_global-reference.ensures.global.1)

pub returns-then-reference-eq0-clause-unmarked : goal.returns-then-reference-eq0-clause-unmarked
returns-then-reference-eq0-clause-unmarked g c = let v : Share = c.args.seat.now.seat.me.0 in
    unmarked-set g.C.About.index v v _ (share-is _ _ c.keep_global.ensures.share ∙ ap (sets_global g.C.About.index) (share-is _ _ c.read_global-reference.ensures.global.1)) refl

pub returns-then-last-reference-clause-unmarked : goal.returns-then-last-reference-clause-unmarked
returns-then-last-reference-clause-unmarked g c = let v : Share = c.args.seat.now.seat.me.0 in
    unmarked-set g.C.About.index v c.follow_global-last.new.seat.seat.me.0 _ (share-is _ _ c.keep_global-then-last-reference.ensures.share)
    (subst (λ (u : Share). MarksNoLine u c.follow_global-last.new.seat.seat.me.0) (share-is _ _ c.read_global-reference.ensures.global.1) c.follow_global-last.ensures.follows.unmarked)

pub returns-else-last-reference-clause-unmarked : goal.returns-else-last-reference-clause-unmarked
returns-else-last-reference-clause-unmarked g c = let v : Share = c.args.seat.now.seat.me.0 in
    unmarked-set g.C.About.index v c.follow_global-last.new.seat.seat.me.0 _ (share-is _ _ c.set_global.ensures.share)
    (subst (λ (u : Share). MarksNoLine u c.follow_global-last.new.seat.seat.me.0) (share-is _ _ c.read_global-reference.ensures.global.1) c.follow_global-last.ensures.follows.unmarked)
