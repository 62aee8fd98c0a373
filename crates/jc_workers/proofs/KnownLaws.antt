-- What a sink remembers of the hits of its seat.
use Rattle.jc_board.proofs.KnownLaws.{remembers_hit}

pub ruleset known_hits = (remembers_hit)
