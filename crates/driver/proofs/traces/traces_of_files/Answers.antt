use Rattle.std.proofs.Common.{◌≡◌, ◌∙◌, sym, ap, rules, ℕ, add-one, Some, Err, List, [], ◌∷◌, ◌++◌, take}
use Rattle.std.specs.Prelude.{slice_get, option_map, string_bytes, String}
use Rattle.std.specs.declared.alloc.Global.{Global}
use Rattle.std.proofs.lemmas.List.Elements.{All-push}
use Rattle.std.proofs.lemmas.Option.{slice_get-map, slice_get-get_or}
use Rattle.ideal_heap.specs.declared.command.Command.{Command}
use Rattle.command_line.specs.Orders.{texts}
use Rattle.mm_runtime.specs.Managers.{IsRunnableTrace}
use Rattle.driver.proofs.JoinedFiles.{halts, more-traces, one-more, asks-more, asks-prefix}
use Rattle.driver.proofs.traces.traces_of_files.Goals as goal

-- the name at an index, as text
name-at : (files : List (String Global)) (k : ℕ) (own : String Global) (name : List ℕ) → slice_get files k ≡ Some own → name ≡ string_bytes own → slice_get (texts files) k ≡ Some name
name-at files k own name is same = slice_get-map string_bytes files k ∙ ap (option_map string_bytes) is ∙ ap Some (sym same)

pub returns-in-Err-clause-fault : goal.returns-in-Err-clause-fault
returns-in-Err-clause-fault g c =
    let s = g.S.Sources in
    let files = c.args.files.now in
    let k = c.loop-place.place in
    let name : List ℕ = c.deref.result.now in
    let is : slice_get (texts files) k ≡ Some name = name-at files k _ name (slice_get-get_or files k c.index-files-place.result c.loop-place-test.true ∙ ap Some (sym c.index-files-place.is)) c.deref.ensures in
    halts (texts files) k name c.loop-place.traces.items (s.state c.args.sources.now) (s.state c.loop-place.sources) (s.state c.trace_of_file.new.sources) is
    c.loop-place.invariant.read c.loop-place.invariant.same c.loop-place.invariant.later c.loop-place.invariant.asked (List Command) c.in-Err.fault c.in-Err.ensures.asked (λ e. c.in-Err.ensures.unread (ap Err e))
    (λ e. c.in-Err.ensures.too_long (ap Err e)) (λ f e. c.in-Err.ensures.bad f (ap Err e))

pub returns-in-Err-clause-prefix : goal.returns-in-Err-clause-prefix
returns-in-Err-clause-prefix g c =
    let s = g.S.Sources in
    let files = c.args.files.now in
    let k = c.loop-place.place in
    let name : List ℕ = c.deref.result.now in
    let is : slice_get (texts files) k ≡ Some name = name-at files k _ name (slice_get-get_or files k c.index-files-place.result c.loop-place-test.true ∙ ap Some (sym c.index-files-place.is)) c.deref.ensures in
    asks-prefix c.trace_of_file.result (texts files) k name (s.state c.args.sources.now).asked (s.state c.loop-place.sources) (s.state c.trace_of_file.new.sources) is c.loop-place.invariant.asked c.trace_of_file.ensures.asked

pub loop-place-preserved : goal.loop-place-preserved
loop-place-preserved g c =
    let s = g.S.Sources in
    let files = c.args.files.now in
    let k = c.loop-place.place in
    let name : List ℕ = c.deref.result.now in
    let is : slice_get (texts files) k ≡ Some name = name-at files k _ name (slice_get-get_or files k c.index-files-place.result c.loop-place-test.true ∙ ap Some (sym c.index-files-place.is)) c.deref.ensures in
    let more : c.push_reserved.new.self.items ≡ c.loop-place.traces.items ++ c.in-Ok.commands ∷ [] = search rules in record {
      read = rw (add-one k, one-more (texts files) k name is, more)
          (more-traces (s.state c.args.sources.now).content (take k (texts files)) c.loop-place.traces.items name c.in-Ok.commands c.loop-place.invariant.read (rw c.loop-place.invariant.same at c.in-Ok.ensures.ok));
      asked = rw (add-one k) (asks-more (texts files) k name _ (s.state c.args.sources.now).asked (s.state c.loop-place.sources).asked (s.state c.trace_of_file.new.sources).asked is c.loop-place.invariant.asked c.in-Ok.ensures.asked);
      fit = rw more (All-push IsRunnableTrace c.loop-place.traces.items c.in-Ok.commands c.loop-place.invariant.fit c.in-Ok.ensures.fit);
      count = search rules;
      room = search rules;
      later = search rules;
      same = search rules;
    }
