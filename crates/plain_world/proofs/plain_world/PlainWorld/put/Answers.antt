use Rattle.std.proofs.Common.{inl, inr, subst}
use Rattle.ideal_heap.specs.declared.command.Command.TheVariants as command
use Rattle.mutator_calls.specs.Effects.{logs}
use Rattle.plain_row.specs.declared.plain_row.PlainRow.{PlainRow}
use Rattle.plain_world.specs.Calls.{LogsStore, register_in}
use Rattle.plain_row.specs.Steps.{MayStoreUnlogged}
use Rattle.plain_world.proofs.CallLemmas.{has-effect, unbarred}
use Rattle.plain_world.proofs.plain_world.PlainWorld.put.Goals as goal

pub returns : goal.returns
returns g c =
    let did = c.put.ensures.goes in
    let old = c.args.self.now in
    let a : PlainRow = record old.row { turn = c.args.place } in record {
      logged = did.0;
      call = has-effect g.P.Plan.rules old _ c.args.place (logs did.0 (command.Put c.args.s c.args.i c.args.v) c.put.result)
          c.requires.open c.requires.place c.put.ensures.ready did.1;
      barrier = elim did.2 as (λ _. LogsStore old (register_in old c.args.place c.args.s) c.put.result did.0) [
        | inl none ↦ LogsStore.nothing_logged none.0 (λ done is. let seen = none.1 done in
            unbarred a c.args.s (subst (λ (w : PlainRow). MayStoreUnlogged w c.args.s) seen.1 seen.2) is.plan is.old is.unlogged)
        | inr one ↦ LogsStore.object_logged one.0 one.1 (record { plan = one.2; old = one.3.old; unlogged = one.4 })
      ];
    }
