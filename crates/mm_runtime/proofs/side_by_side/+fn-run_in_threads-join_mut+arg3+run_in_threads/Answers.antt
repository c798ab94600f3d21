-- Each side was run, in one thread or in two.
use Rattle.std.proofs.Common.{rules, ◌≡◌, subst, List, ◌++◌}
use Rattle.mm_runtime.specs.declared.seat_part.Part.{Part}
use Rattle.mm_runtime.specs.OpenEpochs.{RunsAll}
use Rattle.mm_runtime.proofs.PartsLater as later
use Rattle.mm_runtime.proofs.side_by_side.+fn-run_in_threads-join_mut+arg3+run_in_threads.Goals as goal

pub returns : goal.returns
returns g t c =
    let before : List Part = c.split_at_mut-front.result.0.now in
    let behind : List Part = c.split_at_mut-front.result.1.now in
    let front : RunsAll g.P.Plan.rules c.args.world.now before c.front-1.given.0 = search rules in
    let back : RunsAll g.P.Plan.rules c.args.world.now behind c.back-1.given.0 = search rules in
    let whole : before ++ behind ≡ c.args.parts.now = search rules in
    subst (λ (ps : List Part). RunsAll g.P.Plan.rules c.args.world.now ps (c.front-1.given.0 ++ c.back-1.given.0)) whole
    (later.ran-both g.P.Plan.rules c.args.world.now before behind c.front-1.given.0 c.back-1.given.0 front back)
