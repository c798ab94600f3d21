use Rattle.std.proofs.Common.{◌≡◌, ◌∙◌, ap, arith, false, slice_index_or}
use Rattle.heap_picture.specs.Marks.{first_word, room_words}
use Rattle.heap_picture.proofs.Taken.{free_by}
use Rattle.heap_picture.proofs.places.Places.is_free.Goals as goal

pub returns : goal.returns
returns c =
    let p = c.args.place.now in
    let at : c.first_word-from.result ≡ first_word p = c.first_word-from.ensures in
    let wide : c.room_words-room.result ≡ room_words p.size = c.room_words-room.ensures.room in
    free_by c.are_free.result c.args.self.now.items.items c.deref.result.now p (λ i. ap (λ ws. slice_index_or ws i false) c.deref.ensures.value ∙ c.args.self.now.marks i)
    (λ is i from below. c.are_free.ensures.free is i (omega (arith, at, from)) (omega (arith, at, wide, below)))
    (λ is. let found = c.are_free.ensures.taken is in
    let from = found.1 in
    let below = found.2 in
    (found.0, omega (arith, at, from), omega (arith, at, wide, below), found.3))
