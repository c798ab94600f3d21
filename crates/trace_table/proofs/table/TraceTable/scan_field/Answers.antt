use Rattle.std.proofs.Common.{◌≡◌, ℕ, ◌<◌, ◌^◌, ◌∙◌, refl, sym, ap, subst, arith}
use Rattle.object_model.specs.Objects.{IsHeld, ref_at}
use Rattle.trace_core.specs.Setups.{Setup, TraceMayBegin, blocks}
use Rattle.trace_core.specs.Machine.{ByField}
use Rattle.trace_core.specs.Views.{hits}
use Rattle.trace_words.specs.declared.share.Share.{Share}
use Rattle.trace_words.specs.Shares.{scans_field}
use Rattle.trace_words.specs.Steps.{AsksFor, IsLast}
use Rattle.trace_table.specs.Seats.{setup_at, IsScanning, MarksNoLine}
use Rattle.trace_table.proofs.SeatShares.{share-is, seat-same}
use Rattle.trace_table.proofs.Copyings.{seat-kept}
use Rattle.trace_table.proofs.FieldScans.{may-scan, still-scanning, next-scanning, held-field, low-field, last-field, room-scanned, keeps-scanned, scans-none, scans-followed, scans-on, others-scanned, unmarked-scanned}
use Rattle.trace_table.proofs.table.TraceTable.scan_field.Goals as goal

pub read_field-reference-requires-clause-may : goal.read_field-reference-requires-clause-may
read_field-reference-requires-clause-may g c = may-scan g.C.About.setup g.C.About.object g.C.About.target g.C.About.index c.args.seat.now.seat.me.0 c.requires.seat.live c.requires.field c.requires.scanning

pub overflow_cast-reference : goal.overflow_cast-reference
overflow_cast-reference g c = let p : Setup = g.C.About.setup in let ready : TraceMayBegin p = subst TraceMayBegin c.requires.about.0 c.requires.table.ready in
    let same : blocks (setup_at c.args.self.now) ≡ blocks p = ap (λ (q : Setup). blocks q) c.requires.about.0 in let layout = c.requires.table.layout in let most = c.args.self.now.layout.most in
    let low : c.read_field-reference.result < 2 ^ 32 = low-field p ready g.C.About.object g.C.About.index c.requires.held c.requires.field c.read_field-reference.result c.read_field-reference.ensures.field.0 (omega arith) in omega arith

pub returns-then-reference-eq0-clause-seat : goal.returns-then-reference-eq0-clause-seat
returns-then-reference-eq0-clause-seat g c = let x : ℕ = g.C.About.object in let k : ℕ = g.C.About.index in let v : Share = c.args.seat.now.seat.me.0 in
    let is = share-is _ _ c.keep_field.ensures.share ∙ ap (scans_field x k) (share-is _ _ c.read_field-reference.ensures.field.1) in
    seat-kept c.args.self.now c.args.seat.now _ c.requires.seat (c.keep_field.ensures.own ∙ c.read_field-reference.ensures.own) refl refl refl refl (room-scanned x k v _ is) (keeps-scanned x k v _ is)

pub returns-then-reference-eq0-clause-scanning : goal.returns-then-reference-eq0-clause-scanning
returns-then-reference-eq0-clause-scanning g c = let x : ℕ = g.C.About.object in let k : ℕ = g.C.About.index in let v : Share = c.args.seat.now.seat.me.0 in
    next-scanning g.C.About.setup x g.C.About.target k v _ c.requires.scanning (share-is _ _ c.keep_field.ensures.share ∙ ap (scans_field x k) (share-is _ _ c.read_field-reference.ensures.field.1))

pub returns-then-reference-eq0-clause-scans : goal.returns-then-reference-eq0-clause-scans
returns-then-reference-eq0-clause-scans g c = let x : ℕ = g.C.About.object in let k : ℕ = g.C.About.index in let v : Share = c.args.seat.now.seat.me.0 in
    scans-on x k 0 v v _ _ _ (scans-none v c.args.out.now.items) (share-is _ _ c.keep_field.ensures.share ∙ ap (scans_field x k) (share-is _ _ c.read_field-reference.ensures.field.1))

pub follow_field-last-requires-clause-seat : goal.follow_field-last-requires-clause-seat
follow_field-last-requires-clause-seat g c = seat-same c.args.self.now c.args.seat.now _ c.requires.seat c.read_field-reference.ensures.own refl refl refl refl c.read_field-reference.ensures.field.1

pub follow_field-last-requires-clause-spent : goal.follow_field-last-requires-clause-spent
follow_field-last-requires-clause-spent g c = ap (λ (u : Share). u.won) (share-is _ _ c.read_field-reference.ensures.field.1) ∙ c.requires.scanning.won

pub follow_field-last-requires-clause-held : goal.follow_field-last-requires-clause-held
follow_field-last-requires-clause-held g c = let p : Setup = g.C.About.setup in let ready : TraceMayBegin p = subst TraceMayBegin c.requires.about.0 c.requires.table.ready in
    subst (λ (q : Setup). IsHeld q.before c.read_field-reference.result) (sym c.requires.about.0)
    (held-field p ready g.C.About.object g.C.About.index c.requires.held c.requires.field c.read_field-reference.result c.read_field-reference.ensures.field.0 c.if-reference-eq0.false)

pub follow_field-last-requires-clause-asks : goal.follow_field-last-requires-clause-asks
follow_field-last-requires-clause-asks g c = let p : Setup = g.C.About.setup in let x : ℕ = g.C.About.object in let k : ℕ = g.C.About.index in
    let v : Share = c.read_field-reference.new.seat.me.0 in let n : ℕ = c.read_field-reference.result in
    let knows : 0 < hits x g.C.About.target v.known = subst (λ (u : Share). 0 < hits x g.C.About.target u.known) (sym (share-is _ _ c.read_field-reference.ensures.field.1)) c.requires.scanning.target in
    let asks : AsksFor p v n (ByField x k) = (c.requires.field, sym c.read_field-reference.ensures.field.0, (g.C.About.target, knows)) in
    subst (λ q. AsksFor q v n (ByField c.args.x c.args.k)) (sym c.requires.about.0) (subst (λ y. AsksFor p v n (ByField y c.args.k)) (sym c.requires.about.1)
    (subst (λ j. AsksFor p v n (ByField x j)) (sym c.requires.about.3) asks))

pub keep_field-requires-then-last-reference-clause-may : goal.keep_field-requires-then-last-reference-clause-may
keep_field-requires-then-last-reference-clause-may g c = let p : Setup = g.C.About.setup in let x : ℕ = g.C.About.object in let k : ℕ = g.C.About.index in let t : ℕ = g.C.About.target in
    let at = subst (λ (u : Share). IsScanning p x t k u) (sym (share-is _ _ c.read_field-reference.ensures.field.1)) c.requires.scanning in
    may-scan p x t k _ c.follow_field-last.ensures.seat.live c.requires.field (still-scanning p x t k _ _ _ _ _ _ at c.follow_field-last.ensures.follows)

pub keep_field-requires-then-last-reference-clause-last : goal.keep_field-requires-then-last-reference-clause-last
keep_field-requires-then-last-reference-clause-last g c = let p : Setup = g.C.About.setup in let f : ℕ = ref_at p.before g.C.About.object g.C.About.index in
    subst (λ n. IsLast c.follow_field-last.new.seat.seat.me.0 f n) (c.if-last-reference.true ∙ c.read_field-reference.ensures.field.0)
    (last-field _ c.follow_field-last.new.seat.seat.me.0 f c.read_field-reference.result c.follow_field-last.result _ _ c.read_field-reference.ensures.field.0 c.if-reference-eq0.false c.follow_field-last.ensures.follows)

pub scan_field-requires-clause-may : goal.scan_field-requires-clause-may
scan_field-requires-clause-may g c = let p : Setup = g.C.About.setup in let x : ℕ = g.C.About.object in let k : ℕ = g.C.About.index in let t : ℕ = g.C.About.target in
    let at = subst (λ (u : Share). IsScanning p x t k u) (sym (share-is _ _ c.read_field-reference.ensures.field.1)) c.requires.scanning in
    may-scan p x t k _ c.follow_field-last.ensures.seat.live c.requires.field (still-scanning p x t k _ _ _ _ _ _ at c.follow_field-last.ensures.follows)

pub scan_field-requires-clause-last : goal.scan_field-requires-clause-last
scan_field-requires-clause-last g c = let p : Setup = g.C.About.setup in let f : ℕ = ref_at p.before g.C.About.object g.C.About.index in
    last-field _ c.follow_field-last.new.seat.seat.me.0 f c.read_field-reference.result c.follow_field-last.result _ _ c.read_field-reference.ensures.field.0 c.if-reference-eq0.false c.follow_field-last.ensures.follows

pub returns-then-last-reference-clause-seat : goal.returns-then-last-reference-clause-seat
returns-then-last-reference-clause-seat g c = let x : ℕ = g.C.About.object in let k : ℕ = g.C.About.index in let v : Share = c.follow_field-last.new.seat.seat.me.0 in
    let is = share-is _ _ c.keep_field-then-last-reference.ensures.share in
    seat-kept c.args.self.now c.follow_field-last.new.seat _ c.follow_field-last.ensures.seat c.keep_field-then-last-reference.ensures.own refl refl refl refl (room-scanned x k v _ is) (keeps-scanned x k v _ is)

pub returns-then-last-reference-clause-scanning : goal.returns-then-last-reference-clause-scanning
returns-then-last-reference-clause-scanning g c = let p : Setup = g.C.About.setup in let x : ℕ = g.C.About.object in let k : ℕ = g.C.About.index in let t : ℕ = g.C.About.target in
    let at = subst (λ (u : Share). IsScanning p x t k u) (sym (share-is _ _ c.read_field-reference.ensures.field.1)) c.requires.scanning in
    next-scanning p x t k _ _ (still-scanning p x t k _ _ _ _ _ _ at c.follow_field-last.ensures.follows) (share-is _ _ c.keep_field-then-last-reference.ensures.share)

pub returns-then-last-reference-clause-scans : goal.returns-then-last-reference-clause-scans
returns-then-last-reference-clause-scans g c = let x : ℕ = g.C.About.object in let k : ℕ = g.C.About.index in let v : Share = c.args.seat.now.seat.me.0 in
    scans-on x k 0 v c.follow_field-last.new.seat.seat.me.0 _ _ _ (scans-followed _ _ v _ _ _ _ (share-is _ _ c.read_field-reference.ensures.field.1) c.follow_field-last.ensures.follows) (share-is _ _ c.keep_field-then-last-reference.ensures.share)

pub returns-else-last-reference-clause-seat : goal.returns-else-last-reference-clause-seat
returns-else-last-reference-clause-seat g c = let x : ℕ = g.C.About.object in let k : ℕ = g.C.About.index in let v : Share = c.follow_field-last.new.seat.seat.me.0 in
    let is = share-is _ _ c.scan_field.ensures.share in
    seat-kept c.args.self.now c.follow_field-last.new.seat _ c.follow_field-last.ensures.seat c.scan_field.ensures.own refl refl refl refl (room-scanned x k v _ is) (keeps-scanned x k v _ is)

pub returns-else-last-reference-clause-scanning : goal.returns-else-last-reference-clause-scanning
returns-else-last-reference-clause-scanning g c = let p : Setup = g.C.About.setup in let x : ℕ = g.C.About.object in let k : ℕ = g.C.About.index in let t : ℕ = g.C.About.target in
    let at = subst (λ (u : Share). IsScanning p x t k u) (sym (share-is _ _ c.read_field-reference.ensures.field.1)) c.requires.scanning in
    next-scanning p x t k _ _ (still-scanning p x t k _ _ _ _ _ _ at c.follow_field-last.ensures.follows) (share-is _ _ c.scan_field.ensures.share)

pub returns-else-last-reference-clause-scans : goal.returns-else-last-reference-clause-scans
returns-else-last-reference-clause-scans g c = let x : ℕ = g.C.About.object in let k : ℕ = g.C.About.index in let v : Share = c.args.seat.now.seat.me.0 in
    scans-on x k 0 v c.follow_field-last.new.seat.seat.me.0 _ _ _ (scans-followed _ _ v _ _ _ _ (share-is _ _ c.read_field-reference.ensures.field.1) c.follow_field-last.ensures.follows) (share-is _ _ c.scan_field.ensures.share)

pub returns-then-reference-eq0-clause-others : goal.returns-then-reference-eq0-clause-others
returns-then-reference-eq0-clause-others g c = let x : ℕ = g.C.About.object in let k : ℕ = g.C.About.index in let v : Share = c.args.seat.now.seat.me.0 in
    others-scanned x k v v _ c.requires.scanning.right (share-is _ _ c.keep_field.ensures.share ∙ ap (scans_field x k) (share-is _ _ c.read_field-reference.ensures.field.1)) refl

pub returns-then-last-reference-clause-others : goal.returns-then-last-reference-clause-others
returns-then-last-reference-clause-others g c = let x : ℕ = g.C.About.object in let k : ℕ = g.C.About.index in let v : Share = c.args.seat.now.seat.me.0 in
    let same = c.follow_field-last.ensures.follows.grey ∙ ap (λ (u : Share). u.grey) (share-is _ _ c.read_field-reference.ensures.field.1) in
    others-scanned x k v c.follow_field-last.new.seat.seat.me.0 _ (subst (λ l. 0 < hits x k l) (sym same) c.requires.scanning.right) (share-is _ _ c.keep_field-then-last-reference.ensures.share) same

pub returns-else-last-reference-clause-others : goal.returns-else-last-reference-clause-others
returns-else-last-reference-clause-others g c = let x : ℕ = g.C.About.object in let k : ℕ = g.C.About.index in let v : Share = c.args.seat.now.seat.me.0 in
    let same = c.follow_field-last.ensures.follows.grey ∙ ap (λ (u : Share). u.grey) (share-is _ _ c.read_field-reference.ensures.field.1) in
    others-scanned x k v c.follow_field-last.new.seat.seat.me.0 _ (subst (λ l. 0 < hits x k l) (sym same) c.requires.scanning.right) (share-is _ _ c.scan_field.ensures.share) same

pub returns-then-reference-eq0-clause-unmarked : goal.returns-then-reference-eq0-clause-unmarked
returns-then-reference-eq0-clause-unmarked g c = let v : Share = c.args.seat.now.seat.me.0 in
    unmarked-scanned g.C.About.object g.C.About.index v v _ (share-is _ _ c.keep_field.ensures.share ∙ ap (scans_field g.C.About.object g.C.About.index) (share-is _ _ c.read_field-reference.ensures.field.1)) refl

pub returns-then-last-reference-clause-unmarked : goal.returns-then-last-reference-clause-unmarked
returns-then-last-reference-clause-unmarked g c = let v : Share = c.args.seat.now.seat.me.0 in
    unmarked-scanned g.C.About.object g.C.About.index v c.follow_field-last.new.seat.seat.me.0 _ (share-is _ _ c.keep_field-then-last-reference.ensures.share)
    (subst (λ (u : Share). MarksNoLine u c.follow_field-last.new.seat.seat.me.0) (share-is _ _ c.read_field-reference.ensures.field.1) c.follow_field-last.ensures.follows.unmarked)

pub returns-else-last-reference-clause-unmarked : goal.returns-else-last-reference-clause-unmarked
returns-else-last-reference-clause-unmarked g c = let v : Share = c.args.seat.now.seat.me.0 in
    unmarked-scanned g.C.About.object g.C.About.index v c.follow_field-last.new.seat.seat.me.0 _ (share-is _ _ c.scan_field.ensures.share)
    (subst (λ (u : Share). MarksNoLine u c.follow_field-last.new.seat.seat.me.0) (share-is _ _ c.read_field-reference.ensures.field.1) c.follow_field-last.ensures.follows.unmarked)
