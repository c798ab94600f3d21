use Rattle.std.proofs.Common.{rules}
use Rattle.heap_picture.proofs.ReadTexts.{all_read, read_more}
use Rattle.heap_picture.proofs.text_files.read_rest.Goals as goal

pub returns-then-count-eq0-clause-read : goal.returns-then-count-eq0-clause-read
returns-then-count-eq0-clause-read g c =
    let s = g.S.Sources in
    let l = c.loop-total in
    all_read l.total c.in_ok-count.count c.args.text.now.items l.text.items c.read.new.buf (s.state c.args.sources.now).left (s.state l.sources).left (s.state c.read.new.self).left
    l.invariant.read c.in_ok-count.ensures.moved c.if-count-eq0.true (search rules)

pub loop-total-preserved : goal.loop-total-preserved
loop-total-preserved g c =
    let s = g.S.Sources in
    let l = c.loop-total in record {
      within = search rules;
      read = read_more l.total c.in_ok-count.count c.args.text.now.items l.text.items c.extend_from_slice.new.self.items c.read.new.buf (s.state c.args.sources.now).left (s.state l.sources).left (s.state c.read.new.self).left
          l.invariant.read c.in_ok-count.ensures.moved (search rules);
      longer = search rules;
      buffer = search rules;
      later = search rules;
    }
