-- A method of which each part is as it should be has no fault.
use Rattle.std.proofs.Common.{◌≡◌, inl, inr, ℕ, ◌+◌, ◌<◌, ◌≤◌, List, length, Some, arith}
use Rattle.std.specs.Prelude.{slice_get}
use Rattle.jc_methods.specs.Flow.{FallsThrough}
use Rattle.jc_methods.specs.InsnUse.{LeadsWithin, LocalsWithin}
use Rattle.jc_methods.specs.VerificationTypes.{TypeStateAt}
use Rattle.jc_bytes.specs.Least.{IsNowhere}
use Rattle.jc_methods.specs.Starts.{insn_number}
use Rattle.jc_methods.specs.WellMade.{TakeSlots}
use Rattle.jc_methods.specs.declared.insn.Insn.{Insn}
use Rattle.jc_bytes.specs.declared.refusal.RefusalKind.TheVariants as kinds
use Rattle.jc_pool.specs.Lookup.{utf8_of}
use Rattle.jc_pool.specs.Pool.{PoolValue}
use Rattle.jc_class.specs.declared.class_file.Member.{Member}
use Rattle.jc_body.specs.Attributes.{AreTables}
use Rattle.jc_body.specs.Coded.{IsCoded}
use Rattle.jc_body.specs.Faults.{HasSubroutine, IsAstray, IsRow, WrongPoolEntry, JumpNowhere, LocalOutside, ArgumentsOutside, BadRow, MalformedTable, faults_of_any_size}
use Rattle.jc_body.specs.First.{AreNowhere}
use Rattle.jc_body.specs.StackMap.{HasFrames, BadStackMap}
use Rattle.jc_body.specs.Standing.{HasRightEntry}
use Rattle.jc_body.specs.declared.coded.Coded.{Coded}
use Rattle.jc_body.specs.declared.items.Row.{Row}
use Rattle.jc_body.specs.declared.items.Tables.{Tables}
use Rattle.jc_body.proofs.ArgumentLaws.{outside_nowhere}
use Rattle.jc_body.proofs.CodedLaws.{is_single, is_of_form, goes_on, nowhere_of_code}
use Rattle.jc_body.proofs.StackMapLaws.{apart}

-- ---- what a method without a fault has

-- each instruction names an entry of its kind, leads to instructions, goes on to one and uses local variables that there are
pub record AreSound (major : ℕ) (pool : PoolValue) (coded : Coded) : Type 0 where
  pub right : (i : ℕ) (insn : Insn) → slice_get coded.insns i ≡ Some insn → HasRightEntry major pool insn
  pub leads : (i : ℕ) (insn : Insn) → slice_get coded.insns i ≡ Some insn → LeadsWithin (length coded.insns) insn
  pub falls : (i : ℕ) (insn : Insn) → slice_get coded.insns i ≡ Some insn → FallsThrough insn → i + 1 < length coded.insns
  pub locals : (i : ℕ) (insn : Insn) → slice_get coded.insns i ≡ Some insn → LocalsWithin coded.items.max_locals insn

-- the arguments fit, the rows and the tables are of their forms, and the stack map table stands for frames
pub record HasSoundParts (pool : PoolValue) (owner : List ℕ) (method : Member) (coded : Coded) : Type 0 where
  pub desc : List ℕ
  pub desc_is : utf8_of pool method.desc ≡ Some desc
  pub slots : ℕ
  pub takes : TakeSlots method.flags desc slots
  pub room : slots ≤ coded.items.max_locals
  pub rows : (i : ℕ) (row : Row) → slice_get coded.items.rows i ≡ Some row
      → IsRow pool (insn_number coded.starts) (length coded.insns) (length coded.items.code) row
  pub tables : Tables
  pub are_tables : AreTables pool coded.items.attributes tables
  pub frames : List TypeStateAt
  pub has_frames : HasFrames pool owner method coded frames

-- ---- that it has none

module _ (major : ℕ) (pool : PoolValue) (owner : List ℕ) (method : Member) (coded : Coded) (is : IsCoded pool method coded)
    (sound : AreSound major pool coded) (parts : HasSoundParts pool owner method coded) where
  pub no_subroutine : IsNowhere (HasSubroutine pool method)
  no_subroutine = goes_on pool method coded is kinds.Subroutine

  entries_right : IsNowhere (WrongPoolEntry major pool coded)
  entries_right place f = f.fault (sound.right f.number f.insn f.stands)

  never_astray : (number : ℕ) (insn : Insn) → slice_get coded.insns number ≡ Some insn → IsAstray (length coded.insns) number insn → ⊥
  never_astray number insn at (inl leads) = leads (sound.leads number insn at)
  never_astray number insn at (inr last) =
      let more = sound.falls number insn at last.1 in let e = last.0 in omega (arith, more, e)

  jumps_right : IsNowhere (JumpNowhere coded)
  jumps_right place f = never_astray f.number f.insn f.stands f.fault

  locals_right : IsNowhere (LocalOutside coded)
  locals_right place f = f.fault (sound.locals f.number f.insn f.stands)

  arguments_right : IsNowhere (ArgumentsOutside pool method coded)
  arguments_right = outside_nowhere pool method coded parts.desc parts.desc_is parts.slots parts.takes parts.room

  rows_right : IsNowhere (BadRow pool coded)
  rows_right place f = f.fault (parts.rows place f.row f.stands)

  tables_right : IsNowhere (MalformedTable pool coded)
  tables_right place f = f.fault parts.tables parts.are_tables

  frames_right : IsNowhere (BadStackMap pool owner method coded)
  frames_right place f = apart pool owner method coded parts.frames place parts.has_frames f

  pub no_faults : AreNowhere (faults_of_any_size major pool owner method)
  no_faults = (
    is_single pool method is.items.bytes is.items.code,
    (
      is_of_form pool method coded.items is.items,
      (
        goes_on pool method coded is kinds.BadCode,
        (
          nowhere_of_code pool method coded is (WrongPoolEntry major pool) entries_right,
          (
            nowhere_of_code pool method coded is JumpNowhere jumps_right,
            (
              nowhere_of_code pool method coded is LocalOutside locals_right,
              (
                nowhere_of_code pool method coded is (ArgumentsOutside pool method) arguments_right,
                (
                  nowhere_of_code pool method coded is (BadRow pool) rows_right,
                  (
                    nowhere_of_code pool method coded is (MalformedTable pool) tables_right,
                    (
                      nowhere_of_code pool method coded is (BadStackMap pool owner method) frames_right,
                      tt,
                    ),
                  ),
                ),
              ),
            ),
          ),
        ),
      ),
    ),
  )
