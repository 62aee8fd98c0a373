-- What callers see of where a thread stands, as the definitions say it.
use Rattle.std.specs.Prelude.{Option, Some, None}
use Rattle.jc_programs.specs.declared.run_end.Entry.{Entry}
use Rattle.jc_machine_model.specs.Standings.{Standing, TopValue, no_value, a_null, an_object, another}
use Rattle.jc_machine.specs.declared.standing.Standing.{Standing as Seen}
use Rattle.jc_machine.specs.declared.standing.Top.{Top}
use Rattle.jc_machine.specs.declared.standing.Top.TheVariants as tops
use Rattle.jc_machine.specs.declared.standing.Callee.{Callee}

abbrev pub standing_in : Seen → Standing
standing_in s = record { method = record { class = s.class; method = s.body }; place = s.at; depth = s.depth }

abbrev pub standing_seen : Option Seen → Option Standing
standing_seen None = None
standing_seen (Some s) = Some (standing_in s)

abbrev pub top_seen : Top → TopValue
top_seen tops.Empty = no_value
top_seen tops.Null = a_null
top_seen (tops.Object number) = an_object number
top_seen tops.Other = another

abbrev pub callee_in : Callee → Entry
callee_in c = record { class = c.class; method = c.body }

abbrev pub callee_seen : Option Callee → Option Entry
callee_seen None = None
callee_seen (Some c) = Some (callee_in c)
