use Rattle.std.proofs.Common.{◌≡◌, refl, sym, ◌∙◌, ap, subst, ℕ, ◌+◌, ◌<◌, ◌≤◌, arith, length}
use Rattle.heap_layout.specs.Zones.{block_start, row_words, IsAddress}
use Rattle.object_model.specs.declared.row.Row.{Row}
use Rattle.object_model.specs.Objects.{state_of, size_of}
use Rattle.object_model.specs.Changes.{WritesObject}
use Rattle.plain_row.specs.Changes.{Advances, CountsObject}
use Rattle.plain_row.proofs.Turns.{extent, IsPlaced, advanced-place, counted-name}
use Rattle.plain_row.proofs.plain_row.PlainRow.allocate_in.Goals as goal

pub address-address-requires-clause-word : goal.address-address-requires-clause-word
address-address-requires-clause-word c =
    let some : 0 < c.size_words.result = omega (arith, c.size_words.ensures) in
    let is : IsPlaced c.args.self.now.row.layout.blocks c.size_words.result c.args.block c.args.region.now.next =
    advanced-place c.args.self.now c.advance.new.self c.size_words.result c.args.block c.args.region.now.next c.requires.room.some some c.advance.ensures in
    let within : c.args.region.now.next + c.size_words.result ≤ 4096 = is.within in
    omega arith

pub write_object-requires-clause-extent : goal.write_object-requires-clause-extent
write_object-requires-clause-extent c =
    let now = c.requires.room.some in
    let same : c.count-name.new.self.row ≡ c.args.self.now.row = c.count-name.ensures.row ∙ c.advance.ensures.row in
    subst (λ (r : Row). length r.words ≡ row_words r.layout.blocks) (sym same) (extent now.epoch now.ideal now.log c.args.self.now now.at)

pub write_object-requires-clause-address : goal.write_object-requires-clause-address
write_object-requires-clause-address c =
    let some : 0 < c.size_words.result = omega (arith, c.size_words.ensures) in
    let is : IsPlaced c.args.self.now.row.layout.blocks c.size_words.result c.args.block c.args.region.now.next =
    advanced-place c.args.self.now c.advance.new.self c.size_words.result c.args.block c.args.region.now.next c.requires.room.some some c.advance.ensures in
    let same : c.count-name.new.self.row ≡ c.args.self.now.row = c.count-name.ensures.row ∙ c.advance.ensures.row in
    let advanced : c.advance.new.self.row ≡ c.args.self.now.row = c.advance.ensures.row in
    let address : c.address-address.result ≡ block_start c.args.self.now.row.layout.blocks c.args.block + c.args.region.now.next =
    c.address-address.ensures ∙ ap (λ (r : Row). block_start r.layout.blocks c.args.block + c.args.region.now.next) advanced in
    subst (λ (r : Row). IsAddress r.layout.blocks c.address-address.result) (sym same) (subst (IsAddress c.args.self.now.row.layout.blocks) (sym address) is.address)

pub write_object-requires-clause-room : goal.write_object-requires-clause-room
write_object-requires-clause-room c =
    let some : 0 < c.size_words.result = omega (arith, c.size_words.ensures) in
    let size : c.size_words.result ≡ size_of c.args.shape.now.refs c.args.shape.now.nums = c.size_words.ensures in
    let is : IsPlaced c.args.self.now.row.layout.blocks c.size_words.result c.args.block c.args.region.now.next =
    advanced-place c.args.self.now c.advance.new.self c.size_words.result c.args.block c.args.region.now.next c.requires.room.some some c.advance.ensures in
    let same : c.count-name.new.self.row ≡ c.args.self.now.row = c.count-name.ensures.row ∙ c.advance.ensures.row in
    let advanced : c.advance.new.self.row ≡ c.args.self.now.row = c.advance.ensures.row in
    let address : c.address-address.result ≡ block_start c.args.self.now.row.layout.blocks c.args.block + c.args.region.now.next =
    c.address-address.ensures ∙ ap (λ (r : Row). block_start r.layout.blocks c.args.block + c.args.region.now.next) advanced in
    subst (λ (r : Row). c.address-address.result + size_of c.args.shape.now.refs c.args.shape.now.nums ≤ row_words r.layout.blocks) (sym same)
    (subst (λ (n : ℕ). c.address-address.result + n ≤ row_words c.args.self.now.row.layout.blocks) size
    (subst (λ (a : ℕ). a + c.size_words.result ≤ row_words c.args.self.now.row.layout.blocks) (sym address) is.inside))

pub write_object-requires-clause-name : goal.write_object-requires-clause-name
write_object-requires-clause-name c =
    counted-name c.args.self.now c.advance.new.self c.count-name.new.self c.args.d c.address-address.result c.count-name.result c.requires.room.some c.requires.room.turn c.requires.births
    c.advance.ensures.mutators c.advance.ensures.plan.turn c.count-name.ensures

pub returns : goal.returns
returns c =
    let w = c.args.self.now in
    let block : ℕ = c.args.block in
    let offset : ℕ = c.args.region.now.next in
    let refs : ℕ = c.args.shape.now.refs in
    let nums : ℕ = c.args.shape.now.nums in
    let advanced : c.advance.new.self.row ≡ w.row = c.advance.ensures.row in
    let address : c.address-address.result ≡ block_start w.row.layout.blocks block + offset =
    c.address-address.ensures ∙ ap (λ (r : Row). block_start r.layout.blocks block + offset) advanced in
    record {
      block = block;
      offset = offset;
      advanced = c.advance.new.self;
      counted = c.count-name.new.self;
      region = subst (λ (n : ℕ). Advances w c.advance.new.self n block offset) c.size_words.ensures c.advance.ensures;
      count = subst (λ (a : ℕ). CountsObject c.advance.new.self c.count-name.new.self c.args.d a c.count-name.result) address c.count-name.ensures;
      rest = refl;
      object = subst (λ (a : ℕ). WritesObject (state_of c.count-name.new.self.row) (state_of c.write_object.new.self) a c.count-name.result refs nums) address c.write_object.ensures.written;
    }
