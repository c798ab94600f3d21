use Rattle.std.specs.Prelude.{slice_get}
use Rattle.std.proofs.Common.{◌≡◌, refl, sym, ◌∙◌, ap, ◌+◌, ◌-◌, ◌≤◌, arith, length}
use Rattle.ideal_heap.specs.Runs.{replies_of}
use Rattle.mm_runtime.specs.declared.progress.Progress.{Progress}
use Rattle.block_regions.proofs.Lists.{one-element}
use Rattle.mm_runtime.proofs.Waits.{item}
use Rattle.mm_runtime.proofs.manager.Manager.replies.Goals as goal

pub returns-clause-few : goal.returns-clause-few
returns-clause-few g c =
    let least : 1 ≤ c.args.number = c.requires.mutator.least in
    let most : c.args.number ≤ length c.args.self.now.progress.items = c.requires.mutator.most in
    let p = c.requires.order.each (c.args.number - 1) c.index.result.now (item _ _ (c.args.number - 1) c.index.result.now refl (omega arith) c.index.ensures) in
    let within = p.within in
    let few = p.few in
    omega (arith, within, few)

pub returns-clause-session : goal.returns-clause-session
returns-clause-session g c t now closes =
    let least : 1 ≤ c.args.number = c.requires.mutator.least in
    let most : c.args.number ≤ length c.args.self.now.progress.items = c.requires.mutator.most in
    let same : (c.args.number - 1) + 1 ≡ c.args.number = omega arith in
    sym (closes.stands.replies.replies (c.args.number - 1) c.index.result.now (item _ _ (c.args.number - 1) c.index.result.now refl (omega arith) c.index.ensures))
    ∙ ap (λ n. replies_of n now.done) same

pub returns-clause-same : goal.returns-clause-same
returns-clause-same g c p here =
    let least : 1 ≤ c.args.number = c.requires.mutator.least in
    let most : c.args.number ≤ length c.args.self.now.progress.items = c.requires.mutator.most in
    ap (λ (q : Progress). q.replies) (one-element (slice_get c.args.self.now.progress.items (c.args.number - 1)) c.index.result.now p
    (item _ _ (c.args.number - 1) c.index.result.now refl (omega arith) c.index.ensures) here)
