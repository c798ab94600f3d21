use Rattle.trace_words.proofs.Rooms.{room-empty}
use Rattle.trace_words.proofs.laws.rooms_hold_no_frozen_object.Goals as goal

pub returns : goal.returns
returns c = λ p s keeps j v at a x w from below held inside. room-empty p s keeps j v at a from below x w held inside
