-- The block in front of what is left of a text.
use Rattle.std.specs.Prelude.{◌≡◌, ⊤, ℕ, ◌+◌, List, ◌++◌, Result, Ok, Err}
use Rattle.jc_bytes.specs.declared.fail.Fail.{Fail}
use Rattle.jc_bytes.specs.declared.fail.Fail.TheVariants as fails
use Rattle.jc_bytes.specs.Decoder.{SameEnd}
use Rattle.jc_bytes.specs.Modified.{IsModified}
use Rattle.jc_bytes.specs.Reader.{Reading}
use Rattle.jc_bytes.specs.declared.fail.Unfit.{Unfit}
use Rattle.jc_exec.specs.declared.block.Front.{Front}
use Rattle.jc_exec.specs.declared.block.Front.TheVariants.{Header, Session, Class}
use Rattle.jc_exec.specs.declared.refusal.ExecRefusal.{ExecRefusal}
use Rattle.jc_exec.specs.declared.refusal.ExecRefusal.TheVariants.{BadExec}
use Rattle.jc_exec.specs.Answers.{why_of}
use Rattle.jc_exec.specs.Format.{Block, header, session, class, IsBlock}
use Rattle.jc_exec.specs.Refusing.{Refused, bad_exec, other_version, conflict, HasOtherHeader}
use Rattle.jc_exec.specs.Store.{IsSmall, IsWritable}

-- a reading of bytes that begin at the offset of a file, as one of the file
abbrev pub moved : ℕ → Reading → Reading
moved offset r = record { left = r.left; place = offset + r.place }

-- these bytes are left, and the first of them stands at the offset
abbrev pub reading_at : ℕ → List ℕ → Reading
reading_at offset bytes = record { left = bytes; place = offset }

abbrev pub block_of : Front → Block
block_of Header = header
block_of (Session s) = session s
block_of (Class c) = class c

-- its numbers and texts fit the format
abbrev pub Fits : Front → Type 0
Fits Header = ⊤
Fits (Session s) = IsWritable s
Fits (Class c) = IsSmall c × IsModified c.name

-- the first block of all is a header
abbrev pub MayStandAt : ℕ → Block → Type 0
MayStandAt offset b = offset ≡ 0 → b ≡ header

-- the block was read from the front
pub record Took (old new : Reading) (b : Block) : Type 0 where
  pub front : List ℕ
  pub parts : old.left ≡ front ++ new.left
  pub block : IsBlock front b
  pub follows : MayStandAt old.place b
  pub end : SameEnd old new

-- what is left is refused for this reason, whatever was read before
abbrev pub IsUnfit : Reading → Refused → Type 0
IsUnfit at (bad_exec offset) =
    (offset ≡ at.place)
    × ((b : Block) (front more : List ℕ) → at.left ≡ front ++ more → IsBlock front b → MayStandAt at.place b → ⊥)
    × ((found : ℕ) → HasOtherHeader at.left found → ⊥)
IsUnfit at (other_version found) = HasOtherHeader at.left found
IsUnfit at (conflict id first second m n) = ⊥

-- the block that was read, or why there is none; want of memory may come at any time
abbrev pub ReadsFront : Result Front (Fail ExecRefusal) → Reading → Reading → Type 0
ReadsFront (Ok b) old new = Took old new (block_of b) × Fits b
ReadsFront (Err fails.Memory) old new = ⊤
ReadsFront (Err (fails.Said refusal)) old new = IsUnfit old (why_of refusal)

-- ---- items that were not read

abbrev pub IsUnread : Fail Unfit → ℕ → Fail ExecRefusal → Type 0
IsUnread fails.Memory offset e = e ≡ fails.Memory
IsUnread (fails.Said why) offset e = e ≡ fails.Said (BadExec offset)
