use Rattle.std.proofs.Common.{◌≡◌, rules, refl, ◌+◌, ◌∙◌, ap, sym, arith, true, false, ◌++◌, ◌∷◌, [], append-nil}
use Rattle.ideal_heap.specs.Names.{name}
use Rattle.stored_replies.specs.Kinds.{is_next_kind}
use Rattle.stored_replies.proofs.PackedReplies.{length-unpacked, parts-most, stands-at, next-made, new-made, ref-made, number-made, plain-made, full-made}
use Rattle.stored_replies.proofs.stored_replies.StoredReplies.push_reserved.Goals as goal

pub push_reserved-requires : goal.push_reserved-requires
push_reserved-requires c =
    let many = length-unpacked (name 0 0) c.self.inside.kinds.items c.self.inside.names.items c.self.inside.numbers.items in
    grind (arith, many, c.requires, c.self.view_is, c.self.inside.kinds.ok)

pub push_reserved-requires-in-Num : goal.push_reserved-requires-in-Num
push_reserved-requires-in-Num c =
    let many = length-unpacked (name 0 0) c.self.inside.kinds.items c.self.inside.names.items c.self.inside.numbers.items in
    let most = parts-most c.self.inside.kinds.items c.self.inside.names.items c.self.inside.numbers.items c.self.invariant.0 in
    grind (arith, many, most.1, c.requires, c.self.view_is, c.self.invariant.2, c.self.inside.numbers.ok)

pub push_reserved-requires-in-Ref : goal.push_reserved-requires-in-Ref
push_reserved-requires-in-Ref c =
    let many = length-unpacked (name 0 0) c.self.inside.kinds.items c.self.inside.names.items c.self.inside.numbers.items in
    let most = parts-most c.self.inside.kinds.items c.self.inside.names.items c.self.inside.numbers.items c.self.invariant.0 in
    grind (arith, many, most.0, c.requires, c.self.view_is, c.self.invariant.1, c.self.inside.names.ok)

pub push_reserved-requires-then-not-is_next : goal.push_reserved-requires-then-not-is_next
push_reserved-requires-then-not-is_next c =
    let many = length-unpacked (name 0 0) c.self.inside.kinds.items c.self.inside.names.items c.self.inside.numbers.items in
    let most = parts-most c.self.inside.kinds.items c.self.inside.names.items c.self.inside.numbers.items c.self.invariant.0 in
    grind (arith, many, most.0, c.requires, c.self.view_is, c.self.invariant.1, c.self.inside.names.ok)

pub invariant_of-self : goal.invariant_of-self
invariant_of-self c =
    let inside = c.self.inside in
    let off : c.is_next.result ≡ false = search rules in
    let is : is_next_kind c.after-kind.result ≡ false = sym c.is_next.ensures ∙ off in
    let all = stands-at inside.kinds.items c.push_reserved.new.self.items inside.names.items c.push_reserved-then-not-is_next.new.self.items (c.in-New.name ∷ []) inside.numbers.items inside.numbers.items [] inside.last c.in-New.name c.after-kind.result c.args.reply inside.fulls inside.fulls 0
    (c.self.invariant.0, c.self.invariant.3, c.self.invariant.4) c.push_reserved.ensures.items c.push_reserved-then-not-is_next.ensures.items (sym (append-nil inside.numbers.items)) c.after-kind.ensures (new-made inside.last c.in-New.name c.args.reply c.in-New.is (sym (ap is_next_kind c.after-kind.ensures) ∙ is)) (omega arith) in
    (all.0.0, c.push_reserved-then-not-is_next.ensures.capacity ∙ c.self.invariant.1 ∙ sym c.push_reserved.ensures.capacity, c.self.invariant.2 ∙ sym c.push_reserved.ensures.capacity, all.0.1, all.0.2)

pub invariant_of-self-else-not-is_next : goal.invariant_of-self-else-not-is_next
invariant_of-self-else-not-is_next c =
    let inside = c.self.inside in
    let on : c.is_next.result ≡ true = search rules in
    let is : is_next_kind c.after-kind.result ≡ true = sym c.is_next.ensures ∙ on in
    let all = stands-at inside.kinds.items c.push_reserved.new.self.items inside.names.items inside.names.items [] inside.numbers.items inside.numbers.items [] inside.last c.in-New.name c.after-kind.result c.args.reply inside.fulls inside.fulls 0
    (c.self.invariant.0, c.self.invariant.3, c.self.invariant.4) c.push_reserved.ensures.items (sym (append-nil inside.names.items)) (sym (append-nil inside.numbers.items)) c.after-kind.ensures (next-made inside.last c.in-New.name c.args.reply c.in-New.is (sym (ap is_next_kind c.after-kind.ensures) ∙ is)) (omega arith) in
    (all.0.0, c.self.invariant.1 ∙ sym c.push_reserved.ensures.capacity, c.self.invariant.2 ∙ sym c.push_reserved.ensures.capacity, all.0.1, all.0.2)

pub invariant_of-self-in-Ref : goal.invariant_of-self-in-Ref
invariant_of-self-in-Ref c =
    let inside = c.self.inside in
    let all = stands-at inside.kinds.items c.push_reserved.new.self.items inside.names.items c.push_reserved-in-Ref.new.self.items (c.in-Ref.name ∷ []) inside.numbers.items inside.numbers.items [] inside.last inside.last c.after-kind.result c.args.reply inside.fulls inside.fulls 0
    (c.self.invariant.0, c.self.invariant.3, c.self.invariant.4) c.push_reserved.ensures.items c.push_reserved-in-Ref.ensures.items (sym (append-nil inside.numbers.items)) c.after-kind.ensures (ref-made inside.last c.in-Ref.name c.args.reply c.in-Ref.is) (omega arith) in
    (all.0.0, c.push_reserved-in-Ref.ensures.capacity ∙ c.self.invariant.1 ∙ sym c.push_reserved.ensures.capacity, c.self.invariant.2 ∙ sym c.push_reserved.ensures.capacity, all.0.1, all.0.2)

pub invariant_of-self-in-Num : goal.invariant_of-self-in-Num
invariant_of-self-in-Num c =
    let inside = c.self.inside in
    let all = stands-at inside.kinds.items c.push_reserved.new.self.items inside.names.items inside.names.items [] inside.numbers.items c.push_reserved-in-Num.new.self.items (c.in-Num.number ∷ []) inside.last inside.last c.after-kind.result c.args.reply inside.fulls inside.fulls 0
    (c.self.invariant.0, c.self.invariant.3, c.self.invariant.4) c.push_reserved.ensures.items (sym (append-nil inside.names.items)) c.push_reserved-in-Num.ensures.items c.after-kind.ensures (number-made inside.last c.in-Num.number c.args.reply c.in-Num.is) (omega arith) in
    (all.0.0, c.self.invariant.1 ∙ sym c.push_reserved.ensures.capacity, c.push_reserved-in-Num.ensures.capacity ∙ c.self.invariant.2 ∙ sym c.push_reserved.ensures.capacity, all.0.1, all.0.2)

pub invariant_of-self-in_default : goal.invariant_of-self-in_default
invariant_of-self-in_default c =
    let inside = c.self.inside in
    let all = stands-at inside.kinds.items c.push_reserved.new.self.items inside.names.items inside.names.items [] inside.numbers.items inside.numbers.items [] inside.last inside.last c.after-kind.result c.args.reply inside.fulls inside.fulls 0
    (c.self.invariant.0, c.self.invariant.3, c.self.invariant.4) c.push_reserved.ensures.items (sym (append-nil inside.names.items)) (sym (append-nil inside.numbers.items)) c.after-kind.ensures (plain-made inside.last c.args.reply c.in_default.not-New c.in_default.not-Ref c.in_default.not-Num c.in_default.not-Full) (omega arith) in
    (all.0.0, c.self.invariant.1 ∙ sym c.push_reserved.ensures.capacity, c.self.invariant.2 ∙ sym c.push_reserved.ensures.capacity, all.0.1, all.0.2)

pub returns-then-not-is_next-clause-items : goal.returns-then-not-is_next-clause-items
returns-then-not-is_next-clause-items c =
    let inside = c.self.inside in
    let off : c.is_next.result ≡ false = search rules in
    let is : is_next_kind c.after-kind.result ≡ false = sym c.is_next.ensures ∙ off in
    let all = stands-at inside.kinds.items c.push_reserved.new.self.items inside.names.items c.push_reserved-then-not-is_next.new.self.items (c.in-New.name ∷ []) inside.numbers.items inside.numbers.items [] inside.last c.in-New.name c.after-kind.result c.args.reply inside.fulls inside.fulls 0
    (c.self.invariant.0, c.self.invariant.3, c.self.invariant.4) c.push_reserved.ensures.items c.push_reserved-then-not-is_next.ensures.items (sym (append-nil inside.numbers.items)) c.after-kind.ensures (new-made inside.last c.in-New.name c.args.reply c.in-New.is (sym (ap is_next_kind c.after-kind.ensures) ∙ is)) (omega arith) in
    all.1 ∙ ap (λ s. s.items ++ c.args.reply ∷ []) c.self.view_is

pub returns-else-not-is_next-clause-items : goal.returns-else-not-is_next-clause-items
returns-else-not-is_next-clause-items c =
    let inside = c.self.inside in
    let on : c.is_next.result ≡ true = search rules in
    let is : is_next_kind c.after-kind.result ≡ true = sym c.is_next.ensures ∙ on in
    let all = stands-at inside.kinds.items c.push_reserved.new.self.items inside.names.items inside.names.items [] inside.numbers.items inside.numbers.items [] inside.last c.in-New.name c.after-kind.result c.args.reply inside.fulls inside.fulls 0
    (c.self.invariant.0, c.self.invariant.3, c.self.invariant.4) c.push_reserved.ensures.items (sym (append-nil inside.names.items)) (sym (append-nil inside.numbers.items)) c.after-kind.ensures (next-made inside.last c.in-New.name c.args.reply c.in-New.is (sym (ap is_next_kind c.after-kind.ensures) ∙ is)) (omega arith) in
    all.1 ∙ ap (λ s. s.items ++ c.args.reply ∷ []) c.self.view_is

pub returns-in-Ref-clause-items : goal.returns-in-Ref-clause-items
returns-in-Ref-clause-items c =
    let inside = c.self.inside in
    let all = stands-at inside.kinds.items c.push_reserved.new.self.items inside.names.items c.push_reserved-in-Ref.new.self.items (c.in-Ref.name ∷ []) inside.numbers.items inside.numbers.items [] inside.last inside.last c.after-kind.result c.args.reply inside.fulls inside.fulls 0
    (c.self.invariant.0, c.self.invariant.3, c.self.invariant.4) c.push_reserved.ensures.items c.push_reserved-in-Ref.ensures.items (sym (append-nil inside.numbers.items)) c.after-kind.ensures (ref-made inside.last c.in-Ref.name c.args.reply c.in-Ref.is) (omega arith) in
    all.1 ∙ ap (λ s. s.items ++ c.args.reply ∷ []) c.self.view_is

pub returns-in-Num-clause-items : goal.returns-in-Num-clause-items
returns-in-Num-clause-items c =
    let inside = c.self.inside in
    let all = stands-at inside.kinds.items c.push_reserved.new.self.items inside.names.items inside.names.items [] inside.numbers.items c.push_reserved-in-Num.new.self.items (c.in-Num.number ∷ []) inside.last inside.last c.after-kind.result c.args.reply inside.fulls inside.fulls 0
    (c.self.invariant.0, c.self.invariant.3, c.self.invariant.4) c.push_reserved.ensures.items (sym (append-nil inside.names.items)) c.push_reserved-in-Num.ensures.items c.after-kind.ensures (number-made inside.last c.in-Num.number c.args.reply c.in-Num.is) (omega arith) in
    all.1 ∙ ap (λ s. s.items ++ c.args.reply ∷ []) c.self.view_is

pub returns-in_default : goal.returns-in_default
returns-in_default c =
    let inside = c.self.inside in
    let all = stands-at inside.kinds.items c.push_reserved.new.self.items inside.names.items inside.names.items [] inside.numbers.items inside.numbers.items [] inside.last inside.last c.after-kind.result c.args.reply inside.fulls inside.fulls 0
    (c.self.invariant.0, c.self.invariant.3, c.self.invariant.4) c.push_reserved.ensures.items (sym (append-nil inside.names.items)) (sym (append-nil inside.numbers.items)) c.after-kind.ensures (plain-made inside.last c.args.reply c.in_default.not-New c.in_default.not-Ref c.in_default.not-Num c.in_default.not-Full) (omega arith) in
    record {
      items = all.1 ∙ ap (λ s. s.items ++ c.args.reply ∷ []) c.self.view_is;
      capacity = c.push_reserved.ensures.capacity ∙ ap (λ s. s.capacity) c.self.view_is;
    }

pub invariant_of-self-in-Full : goal.invariant_of-self-in-Full
invariant_of-self-in-Full c =
    let inside = c.self.inside in
    let all = stands-at inside.kinds.items c.push_reserved.new.self.items inside.names.items inside.names.items [] inside.numbers.items inside.numbers.items [] inside.last inside.last c.after-kind.result c.args.reply inside.fulls (inside.fulls + 1) 1
    (c.self.invariant.0, c.self.invariant.3, c.self.invariant.4) c.push_reserved.ensures.items (sym (append-nil inside.names.items)) (sym (append-nil inside.numbers.items)) c.after-kind.ensures (full-made inside.last c.args.reply c.in-Full.is) refl in
    (all.0.0, c.self.invariant.1 ∙ sym c.push_reserved.ensures.capacity, c.self.invariant.2 ∙ sym c.push_reserved.ensures.capacity, all.0.1, all.0.2)

pub returns-in-Full : goal.returns-in-Full
returns-in-Full c =
    let inside = c.self.inside in
    let all = stands-at inside.kinds.items c.push_reserved.new.self.items inside.names.items inside.names.items [] inside.numbers.items inside.numbers.items [] inside.last inside.last c.after-kind.result c.args.reply inside.fulls (inside.fulls + 1) 1
    (c.self.invariant.0, c.self.invariant.3, c.self.invariant.4) c.push_reserved.ensures.items (sym (append-nil inside.names.items)) (sym (append-nil inside.numbers.items)) c.after-kind.ensures (full-made inside.last c.args.reply c.in-Full.is) refl in
    record {
      items = all.1 ∙ ap (λ s. s.items ++ c.args.reply ∷ []) c.self.view_is;
      capacity = c.push_reserved.ensures.capacity ∙ ap (λ s. s.capacity) c.self.view_is;
    }
