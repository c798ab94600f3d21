use Rattle.racing_rooms.proofs.RoomLaws.{no-room-later}
use Rattle.racing_rooms.proofs.laws.lack_of_room_stays.Goals as goal

pub returns : goal.returns
returns g = no-room-later
