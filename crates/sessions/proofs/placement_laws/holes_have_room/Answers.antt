use Rattle.sessions.proofs.HoleRooms.{hole-room}
use Rattle.sessions.proofs.placement_laws.holes_have_room.Goals as goal

pub returns : goal.returns
returns c fill s k at refs nums n order right hole small few_refs few_nums named fresh = hole-room fill s k at refs nums n order right hole small few_refs few_nums named fresh
