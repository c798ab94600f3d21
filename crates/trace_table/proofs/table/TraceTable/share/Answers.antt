use Rattle.std.proofs.Common.{◌≡◌, sym, ap, ◌∙◌}
use Rattle.object_model.specs.Times.{times, one_if}
use Rattle.object_model.specs.Objects.{state_of}
use Rattle.trace_core.specs.Setups.{Setup, was_logged}
use Rattle.trace_core.specs.declared.run.TraceRun.{TraceRun}
use Rattle.trace_words.specs.Rule.{setup_in, tracing_of}
use Rattle.trace_table.proofs.table.TraceTable.share.Goals as goal

pub share_row-row-requires-clause-logged : goal.share_row-row-requires-clause-logged
share_row-row-requires-clause-logged c = λ x. (let row = c.args.traced.row in
    let same : setup_in c.key_of-key.result ≡ tracing_of (state_of row) c.args.traced.run c.args.workers = c.key_of-key.ensures.setup
    ∙ ap (λ n. tracing_of (record { words = row.words; blocks = n; number = row.number; base = row.base }) c.args.traced.run c.args.workers) c.blocks-blocks.ensures in
    ap (λ (r : TraceRun). times x r.logged.items) c.key_of-key.ensures.run ∙ c.requires.run.logged x ∙ ap (λ (p : Setup). one_if (was_logged p x)) (sym same))
