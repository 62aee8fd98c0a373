-- The views of seats, and what the steps of a seat make of them.
use Rattle.std.specs.Prelude.{ℕ, ◌+◌, ◌-◌, List, [], ◌∷◌, ◌++◌, true, false}
use Rattle.jc_board.specs.Views.{whole}
use Rattle.jc_dump_board.specs.declared.seat.View.{View}

-- no hit of any kind, and a part of a board that has other seats
abbrev pub new_view : ℕ → View
new_view part = record { hits = []; taken = []; pending = []; settled = []; part = part; alone = false }

-- the first seat of a board
abbrev pub only_view : View
only_view = record { hits = []; taken = []; pending = []; settled = []; part = whole; alone = true }

-- one hit more
abbrev pub with_hit : View → (class id : ℕ) → View
with_hit v class id = record {
  hits = v.hits ++ (class, id) ∷ [];
  taken = v.taken;
  pending = v.pending ++ (class, id) ∷ [];
  settled = v.settled;
  part = v.part;
  alone = v.alone;
}

-- what is left where a part is given away
abbrev pub without_part : ℕ → View → View
without_part part v = record { hits = v.hits; taken = v.taken; pending = v.pending; settled = v.settled; part = v.part - part; alone = false }

-- what both have
abbrev pub joined : View → View → View
joined v w = record {
  hits = v.hits ++ w.hits;
  taken = v.taken ++ w.taken;
  pending = v.pending ++ w.pending;
  settled = v.settled ++ w.settled;
  part = v.part + w.part;
  alone = false;
}
