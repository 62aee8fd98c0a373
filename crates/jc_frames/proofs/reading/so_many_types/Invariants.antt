use Rattle.std.proofs.Common.{◌≡◌, length}
use Rattle.jc_bytes.proofs.ListReadingLaws.{Listing}
use Rattle.jc_frames.specs.TableReading.{type_at}
use Rattle.jc_frames.proofs.reading.so_many_types.Given as goal

abbrev pub invariant-reading : goal.invariant-reading
invariant-reading l = record { listing : Listing l.count type_at l.fn.reader l.list l.reader l._place; count : length l.list ≡ l._place }
