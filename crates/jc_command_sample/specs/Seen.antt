-- What functions give that decide without a step.
use Rattle.std.specs.Prelude.{⊤, ℕ, List, [], Option, None, Some, Result, Ok, Err}
use Rattle.jc_outside.specs.Outside.{FileMap, LastFailed}
use Rattle.jc_command_work.specs.declared.stop.Stop.{Stop}
use Rattle.jc_command_work.specs.Step.{Landed, outside, counts}
use Rattle.jc_command_work.specs.Part.{End, gives, stops, Part, Command}
use Rattle.jc_command_work.specs.Ending.{Ran}
use Rattle.jc_command_work.specs.Seen.{stop_seen}

-- the part ends the command so, without a step, or memory was refused
abbrev pub EndsAtOnce : {X : Type 0} → Part X → Option End → Type 0
EndsAtOnce part None = ⊤
EndsAtOnce part (Some end) = part [] (stops end)

-- what a function gives that decides as a part does, by what its value stands for
abbrev pub Decides : {X A : Type 0} → Part X → (A → X) → Result A Stop → Type 0
Decides part value (Ok a) = part [] (gives (value a))
Decides part value (Err stop) = EndsAtOnce part (stop_seen stop)

-- what a function did that takes `out` alone and does a command but for its last message
abbrev pub RanOut : {A : Type 0} → Command → (old new : Option (List ℕ)) → (outs outs' : ℕ) → Result A Stop → Type 0
RanOut command old new outs outs' result =
    (landed : Landed) (contents : Option FileMap) (failed : LastFailed) (err : Option (List ℕ)) (reads writes errs : ℕ)
    → Ran landed command stop_seen (outside contents failed old err) (outside contents failed new err)
    (counts reads writes outs errs) (counts reads writes outs' errs) result
