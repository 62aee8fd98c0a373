-- What a sink remembers of the pending hits of its seat.
use Rattle.jc_board.proofs.KnownLaws.{remembers_empty, remembers_hit}

pub ruleset known_hits = (remembers_empty, remembers_hit)
