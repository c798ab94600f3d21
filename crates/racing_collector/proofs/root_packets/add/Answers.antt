use Rattle.std.proofs.Common.{◌≡◌, ◌-◌, ◌∙◌, refl, sym, ap, arith, subst, length, [], ◌∷◌, ◌++◌}
use Rattle.std.specs.Vec.{vec_len}
use Rattle.racing_collector.specs.Items.{AreRootPackets}
use Rattle.racing_collector.proofs.RootLists.{items-last, packets-last, packets-more, ends-full, ends-none, set-own, EndsWith}
use Rattle.racing_collector.proofs.root_packets.add.Goals as goal
use Rattle.racing_collector.proofs.root_packets.add.Goals.{in-Some+else-len-lt-MAX_ITEMS, in_default}

pub returns-then-len-lt-MAX_ITEMS-clause-items : goal.returns-then-len-lt-MAX_ITEMS-clause-items
returns-then-len-lt-MAX_ITEMS-clause-items c =
    let ok = c.args.packets.now.ok.0 in let some = c.in-Some.ensures.variant.0 refl in
    items-last c.args.packets.now.items (vec_len c.args.packets.now - 1) c.in-Some.last.now _ c.args.item (omega (arith, ok, some)) c.in-Some.ensures.value c.in_ok-push.ensures.items

pub returns-then-len-lt-MAX_ITEMS-clause-packets :
    goal.returns-then-len-lt-MAX_ITEMS-clause-packets
returns-then-len-lt-MAX_ITEMS-clause-packets c =
    let ok = c.args.packets.now.ok.0 in let some = c.in-Some.ensures.variant.0 refl in let own = c.in-Some.last.now.items.ok.0 in
    packets-last c.args.packets.now.items (vec_len c.args.packets.now - 1) c.in-Some.last.now _ c.args.item (omega (arith, ok, some)) c.in-Some.ensures.value c.in_ok-push.ensures.items refl
    (omega (arith, own, c.len.ensures, c.if-len-lt-MAX_ITEMS.true)) c.requires

pub returns-clause-packets : goal.returns-clause-packets
returns-clause-packets c =
    let ends : EndsWith c.match-last_mut.packets.items 64 × AreRootPackets c.match-last_mut.packets.items = elim c.match-last_mut.branch as (λ _. EndsWith c.match-last_mut.packets.items 64 × AreRootPackets c.match-last_mut.packets.items) [
      | in-Some+else-len-lt-MAX_ITEMS w ↦ (let ok = c.args.packets.now.ok.0 in let some = w.in-Some.ensures.variant.0 refl in let own = w.in-Some.last.now.items.ok.0 in
          let e : c.match-last_mut.packets.items ≡ c.args.packets.now.items = ap (λ v. v.items) w.packets-is ∙ set-own c.args.packets.now.items (vec_len c.args.packets.now - 1) w.in-Some.last.now w.in-Some.ensures.value in
          (subst (λ l. EndsWith l 64) (sym e) (ends-full c.args.packets.now.items (vec_len c.args.packets.now - 1) w.in-Some.last.now (omega (arith, ok, some)) w.in-Some.ensures.value (omega (arith, own, w.len.ensures, w.if-len-lt-MAX_ITEMS.false)) c.requires), subst AreRootPackets (sym e) c.requires))
      | in_default w ↦ (
          let e : c.match-last_mut.packets.items ≡ c.args.packets.now.items = ap (λ v. v.items) w.packets-is in
          (subst (λ l. EndsWith l 64) (sym e) (ends-none c.args.packets.now.items (vec_len c.args.packets.now) c.args.packets.now.ok.0 w.in_default.ensures.variant.1), subst AreRootPackets (sym e) c.requires))
    ] in subst AreRootPackets (sym c.in_ok-push-3.ensures.items)
    (packets-more c.match-last_mut.packets.items _ ends.0 refl (ap length (c.in_ok-push-2.ensures.items ∙ ap (λ l. l ++ c.args.item ∷ []) c.in_ok-items.ensures.items)) ends.1)
