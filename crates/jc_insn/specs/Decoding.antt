-- What a decoder of code answers.
use Rattle.std.specs.Prelude.{◌≡◌, ℕ, List, Option, Some, None, Result, Ok, Err, ⊤, ◌≤◌, All}
use Rattle.jc_bytes.specs.Reader.{most_read}
use Rattle.jc_bytes.specs.Reader.{Reading}
use Rattle.jc_bytes.specs.declared.fail.Fail.{Fail}
use Rattle.jc_bytes.specs.declared.fail.Fail.TheVariants as fails
use Rattle.jc_bytes.specs.declared.refusal.Refusal.{Refusal}
use Rattle.jc_bytes.specs.declared.refusal.RefusalKind.{RefusalKind}
use Rattle.jc_bytes.specs.declared.refusal.RefusalKind.TheVariants as kinds
use Rattle.jc_methods.specs.declared.insn.Insn.{Insn}
use Rattle.jc_methods.specs.Insn.{IsWellFormed, arm_count}
use Rattle.jc_methods.specs.Flow.{targets_of}
use Rattle.jc_insn.specs.declared.item.CodeItem.{CodeItem}
use Rattle.jc_insn.specs.declared.item.CodeItem.TheVariants as items
use Rattle.jc_insn.specs.Reading.{item_at}
use Rattle.jc_insn.specs.Spells.{IsRefused}

-- memory may run out at any time; else the code is at fault
abbrev pub Refuses : Fail Refusal → List ℕ → Type 0
Refuses fails.Memory bytes = ⊤
Refuses (fails.Said refusal) bytes = IsRefused bytes refusal

-- what a decoder gives is well formed, among so many instructions. A place is one of them or their number
pub record IsInsnAmong (count : ℕ) (insn : Insn) : Type 0 where
  pub well_formed : IsWellFormed insn
  pub few : arm_count insn ≤ most_read
  pub places : All (λ to. to ≤ count) (targets_of insn)

-- the item that stands at an offset stops a decoder: jsr and its like, or no item at all
abbrev pub Stops : RefusalKind → Option (CodeItem × List ℕ) → Type 0
Stops kinds.Subroutine read = (rest : List ℕ) × (read ≡ Some (items.Subroutine, rest))
Stops kinds.BadCode read = read ≡ None
Stops kind read = ⊥

-- what a function returned and left is the next instruction, or what stops there
abbrev pub GivesNext : Result Insn (Fail Refusal) → Reading → Reading → Type 0
GivesNext (Ok insn) old new = item_at old.place old.left ≡ Some (items.Insn insn, new.left)
GivesNext (Err fails.Memory) old new = ⊤
GivesNext (Err (fails.Said refusal)) old new =
    (refusal.method ≡ None) × (refusal.place ≡ old.place) × Stops refusal.kind (item_at old.place old.left)
