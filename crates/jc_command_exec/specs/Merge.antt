-- What the command `merge` makes of what it reads.
use Rattle.std.specs.Prelude.{ℕ, List, [], ◌∷◌}
use Rattle.jc_exec.specs.declared.refusal.ExecRefusal.{ExecRefusal}
use Rattle.jc_exec.specs.Store.{Store}
use Rattle.jc_exec.specs.Writing.{exec_text}
use Rattle.jc_command_work.specs.declared.status.Fault.TheVariants as fault
use Rattle.jc_command_work.specs.Step.{Word, to_file}
use Rattle.jc_command_work.specs.Part.{gives}
use Rattle.jc_command_work.specs.Answered.{Answer, refusing}
use Rattle.jc_command_exec.specs.ExecData.{IsUnionOf, IsFirstRefused}

-- the union of the inputs is written, or the first of them that is refused is named
pub data MergeAnswers (out : Word) (inputs : List Word) (texts : List (List ℕ)) : Answer → Type 0 where
  merged : (store : Store) → IsUnionOf texts store → MergeAnswers out inputs texts (gives (to_file out (exec_text store) ∷ []))
  merge_refused : (index : ℕ) (path : Word) (refusal : ExecRefusal) → IsFirstRefused inputs texts index path refusal
      → MergeAnswers out inputs texts (refusing path (fault.Exec index refusal))
