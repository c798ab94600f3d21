use Rattle.std.proofs.Common.{◌≡◌, refl, subst, sym, ap, ◌∙◌, [], length}
use Rattle.object_model.specs.Heaps.{heap_state}
use Rattle.trace_core.specs.Setups.{Setup}
use Rattle.trace_core.specs.Runs.{setup_of}
use Rattle.trace_core.specs.Views.{first_view}
use Rattle.trace_core.proofs.Begun.{begun-logged}
use Rattle.trace_core.proofs.FirstView.{first-logged}
use Rattle.collector.specs.Awaited.{IsAwaited}
use Rattle.collector.proofs.FirstItems.{first-awaited, starting_items}
use Rattle.collector.proofs.collecting.begin.Goals as goal

pub take_logged-requires : goal.take_logged-requires
take_logged-requires c = record {
  setup = setup_of (heap_state c.args.heap) c.args.run 1;
  events = [];
  view = first_view c.args.run;
  tracks = c.in_ok-globals.ensures.same _ _ _ c.in_ok-tracer.ensures.tracks;
  right = tt;
}

pub returns-clause-awaits : goal.returns-clause-awaits
returns-clause-awaits c =
    let s = heap_state c.args.heap in
    let run = c.args.run in
    let p : Setup = setup_of s run 1 in
    let lawful = c.args.heap.lawful.but_lines in
    let many : c.len.result ≡ length c.args.roots.items = c.len.ensures ∙ c.args.roots.ok.0 in
    let begins = c.in_ok-globals.ensures.same _ _ _ c.in_ok-tracer.ensures.tracks in
    let listed = begun-logged s run 1 lawful c.requires.may.nursery c.requires.may.remembers c.requires.may.none in
    let rights = c.in_ok-logged.ensures.rights _ _ _ begins (first-logged p begins.trace.ready run listed) in
    let runs = c.in_ok-globals.ensures.run ∙ c.in_ok-tracer.ensures.run in
    let all = c.in_ok-logged.ensures.first (c.in_ok-globals.ensures.logged ∙ c.in_ok-tracer.ensures.logged) ∙ ap (λ r. r.logged.items) runs in
    subst (IsAwaited s run c.args.roots.items _) (sym (c.in_ok-first.ensures.items ∙ ap (λ n. starting_items n c.in_ok-globals.globals.items c.in_ok-logged.logged.items) many))
    (first-awaited s run c.args.roots.items lawful c.requires.may.nursery c.requires.held c.in_ok-globals.globals.items
    (c.in_ok-globals.ensures.first c.in_ok-tracer.ensures.globals) c.in_ok-logged.logged.items all rights listed _ (c.in_ok-logged.ensures.same _ _ _ begins)
    (c.in_ok-logged.ensures.run ∙ runs) refl c.new.ensures.items refl refl refl)

pub returns-clause-items : goal.returns-clause-items
returns-clause-items c =
    let many : c.len.result ≡ length c.args.roots.items = c.len.ensures ∙ c.args.roots.ok.0 in record {
      globals = c.in_ok-globals.globals.items;
      greys = c.in_ok-logged.logged.items;
      all = c.in_ok-globals.ensures.first c.in_ok-tracer.ensures.globals;
      every = c.in_ok-logged.ensures.first (c.in_ok-globals.ensures.logged ∙ c.in_ok-tracer.ensures.logged) ∙ ap (λ r. r.logged.items) (c.in_ok-globals.ensures.run ∙ c.in_ok-tracer.ensures.run);
      order = c.in_ok-first.ensures.items ∙ ap (λ n. starting_items n c.in_ok-globals.globals.items c.in_ok-logged.logged.items) many;
    }
