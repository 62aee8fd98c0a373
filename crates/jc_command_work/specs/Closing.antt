-- A command that makes the writes that it has decided on, and ends by whether rules hold.
use Rattle.std.specs.Prelude.{Bool, true, false, List}
use Rattle.jc_command_work.specs.Step.{Write}
use Rattle.jc_command_work.specs.Part.{End, done, unmet, Command, ending, writing_all, ◌>>=◌, ◌>>◌}

-- how a command ends that has written all
abbrev pub end_of : Bool → End
end_of true = done
end_of false = unmet

-- makes the writes, and ends so
abbrev pub closing : List Write → (holds : Bool) → Command
closing writes holds = do
  writing_all writes
  ending (end_of holds)
