-- The name of no seat.
use Rattle.std.specs.Prelude.{[], false}
use Rattle.jc_dump_board.specs.Seen.{DumpSeatSeen}

abbrev pub no_seat : DumpSeatSeen
no_seat = record {
  table = record { words = 0; slots = 0; views_name = 0; atom = 0; block = 0; offset = 0; slot_names = [] };
  hits = [];
  taken = [];
  pending = [];
  settled = [];
  part = 0;
  alone = false;
}
