use Rattle.jc_machine_laws.proofs.RoomLaws.{room_fits}
use Rattle.jc_machine_laws.proofs.laws.each_stack_has_room.Goals as goal

pub returns : goal.returns
returns c = room_fits
