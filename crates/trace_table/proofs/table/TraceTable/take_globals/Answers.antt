use Rattle.std.proofs.Common.{ℕ, ◌<◌, ◌++◌, ◌∷◌, [], All, map, refl, sym, ap, ◌∙◌, subst, arith}
use Rattle.std.proofs.lemmas.List.{map-append}
use Rattle.object_model.specs.Times.{times}
use Rattle.trace_core.proofs.FirstView.{range-more}
use Rattle.trace_words.specs.declared.share.Share.{Share}
use Rattle.trace_words.specs.Rule.{SeatShare}
use Rattle.trace_words.specs.Shares.{gives_global}
use Rattle.trace_table.specs.Seats.{IsGlobalRoot}
use Rattle.trace_table.specs.Ends.{left_share}
use Rattle.trace_table.proofs.SeatShares.{share-is}
use Rattle.trace_table.proofs.TokensTaken.{global-right, globals-next, same-trans, same-trace, more-roots, all-roots}
use Rattle.trace_table.proofs.table.TraceTable.take_globals.Goals as goal

pub global_root-root-requires-clause-right : goal.global_root-root-requires-clause-right
global_root-root-requires-clause-right c = subst (λ (v : Share). 0 < times c.loop-global.global v.unset) (sym (share-is _ _ c.loop-global.invariant.keeper))
    (global-right c.loop-global.global (left_share c.args.self.now) c.loop-global-test.true)

pub loop-global-preserved : goal.loop-global-preserved
loop-global-preserved c = let i = c.loop-global.invariant in let k : ℕ = c.loop-global.global in let made = c.global_root-root.ensures in record {
  table = made.table;
  same = same-trans _ _ _ i.same made.same;
  keeper = made.keeper ∙ ap (λ (m : SeatShare). (gives_global k m.0, m.1)) i.keeper
      ∙ ap (λ (v : Share). (v, [])) (globals-next k (left_share c.args.self.now) c.loop-global-test.true);
  numbers = ap (map (λ root. root.global)) c.push_reserved.ensures.items ∙ map-append (λ root. root.global) c.loop-global.roots.items _
      ∙ ap (λ n. map (λ root. root.global) c.loop-global.roots.items ++ n ∷ []) made.number
      ∙ ap (λ l. l ++ k ∷ []) i.numbers ∙ sym (range-more 0 k k (omega arith));
  rights = subst (λ l. All (IsGlobalRoot c.global_root-root.new.self) l) (sym c.push_reserved.ensures.items)
      (more-roots c.loop-global.self c.global_root-root.new.self c.loop-global.roots.items c.global_root-root.result made.same.words i.rights made.root);
  room = (let room = i.room in omega (arith, c.push_reserved.ensures.len));
  capacity = (let most = i.capacity in omega (arith, c.push_reserved.ensures.capacity));
}

pub returns-clause-same : goal.returns-clause-same
returns-clause-same c = let same = c.loop-global.invariant.same in same-trace c.args.self.now _ same.words same.run

pub returns-clause-rights : goal.returns-clause-rights
returns-clause-rights c = let i = c.loop-global.invariant in all-roots c.loop-global.self _ c.loop-global.roots.items refl i.rights
