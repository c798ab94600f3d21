use Rattle.std.proofs.Common.{refl, sym, ◌∙◌, ◌-◌}
use Rattle.heap_layout.specs.Zones.{heap_of}
use Rattle.object_model.specs.Objects.{state_of, HeapState}
use Rattle.object_model.proofs.BitLemmas.{HasBits, changes_bit, bit_is}
use Rattle.object_model.proofs.WriteLemmas.{writes}
use Rattle.object_model.proofs.row.Row.write_object.Goals as goal

pub returns : goal.returns
returns c =
    let w = c.write_words.ensures in
    let zone = c.start_base.result in
    let spec = c.bit_spec-starts.result in
    let marks = c.bit_spec-starts.ensures in
    let s : HeapState = state_of c.args.self.now in
    let has : HasBits spec zone (heap_of s.blocks) = record { zone_is = marks.zone; heap_is = marks.heap; region = marks.region; bits = marks.bits } in
    record {
      written = writes s c.write_words.new.words c.set.new.words
          c.args.address c.args.name.now c.args.shape.now.refs c.args.shape.now.nums zone (c.args.address - heap_of s.blocks)
          c.requires.address c.start_base.ensures refl
          (record { len = w.len; name = w.name; shape = w.shape; blank = w.blank; others = w.others })
          (changes_bit spec zone (heap_of s.blocks) c.args.address has c.write_words.new.words c.set.new.words c.set.ensures.alone)
          (sym (bit_is spec zone (heap_of s.blocks) c.args.address has c.set.new.words) ∙ c.set.ensures.set)
          c.set.ensures.fit;
    }
