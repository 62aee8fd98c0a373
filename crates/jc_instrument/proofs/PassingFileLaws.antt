-- The methods of an instrumented class file pass the kind check.
use Rattle.std.proofs.Common.{◌≡◌, ℕ, ◌≤◌, Bool, true, false, List, [], ◌∷◌, ◌++◌, length, map, refl, sym, ◌∙◌, subst, true≢false}
use Rattle.jc_bytes.specs.ByteLists.{AreBytes}
use Rattle.jc_bytes.specs.Reader.{most_read}
use Rattle.jc_class.specs.ClassId.{class_id}
use Rattle.jc_class.specs.ClassText.{ClassText}
use Rattle.jc_class.specs.Writable.{IsClassFile}
use Rattle.jc_class.specs.declared.class_file.ClassFile.{ClassFile}
use Rattle.jc_class.proofs.FirstBadLaws.{one_class_of}
use Rattle.jc_class.proofs.WritableLaws.{class_holds}
use Rattle.jc_instrument_reread.specs.Again.{EachPassesAgain}
use Rattle.jc_instrument.specs.Bodies.{AreBodiesOf, AreBodiesUnless}
use Rattle.jc_instrument.specs.Causes.{NoCause}
use Rattle.jc_instrument.specs.InstrumentedFile.{Becomes, HasProbes, IsInstrumentedFile}
use Rattle.jc_instrument.specs.LeftAlone.{is_left_alone}
use Rattle.jc_instrument.specs.ReadyClass.{making_causes}
use Rattle.jc_instrument.specs.Reasons.{code_causes}
use Rattle.jc_instrument.specs.RoomCauses.{early_room_causes, HasTooLargeCode, room_causes}
use Rattle.jc_instrument.specs.TwinText.{constants_of, twin_class}
use Rattle.jc_instrument.specs.BodiesWithStates.{bodies_of}
use Rattle.jc_instrument.specs.declared.whole.Instrumented.{Instrumented}
use Rattle.jc_instrument.proofs.CauseLaws.{none_in_both}
use Rattle.jc_instrument.proofs.FramedStatesLaws.{framed_work}
use Rattle.jc_instrument.proofs.HasRoomLaws.{all_free, has_room}
use Rattle.jc_instrument.proofs.PassingLaws.{all_checked, class_loads, class_passes, no_code_cause, no_room_cause, twins, works_written}
use Rattle.jc_instrument.proofs.WrittenAgainLaws.{AreWrittenWorks}
use Rattle.jc_instrument.proofs.WrittenCodeLaws.{HasRoom}

module _ (bytes : List ℕ) (a : Instrumented) (are : AreBytes bytes) (size : length bytes ≤ most_read) (is : IsInstrumentedFile bytes a)
    (changes : is_left_alone is.file ≡ false) (has : HasProbes (class_id bytes) is.file a) where
  abbrev c : ClassFile
  c = is.file

  holds : IsClassFile is.file
  holds = class_holds bytes c are is.text

  no_code : NoCause (code_causes is.file)
  no_code = no_code_cause (class_id bytes) c is.no_cause changes

  no_room : NoCause (room_causes (class_id bytes) is.file)
  no_room = no_room_cause (class_id bytes) c is.no_cause changes

  none_making : NoCause (making_causes is.file)
  none_making =
      none_in_both (code_causes c) (early_room_causes c ++ (HasTooLargeCode c ∷ [])) no_code
      (no_room.0, (no_room.1.0, (no_room.1.1.0, (no_room.1.1.1.0, (no_room.1.1.1.1.0, (no_room.1.1.1.1.1.0, (no_room.1.1.1.1.1.1.0, tt)))))))

  of_class : AreBodiesOf is.file (bodies_of has.works)
  of_class = record {
    names = has.names;
    are = subst (λ (t : Bool). AreBodiesUnless t has.names c (bodies_of has.works)) (sym changes) has.written.ready.are.bodies;
    checked = all_checked bytes c is.text are size (class_id bytes) no_code has.names has.array has.works has.twin has.written;
  }

  room : HasRoom (constants_of has.written.with) (bodies_of has.works)
  room =
      has_room c (bodies_of has.works) holds changes of_class none_making has.written.with.bootstrap (constants_of has.written.with)
      (class_loads bytes c is.text are size (class_id bytes) no_code has.names has.array has.works has.twin has.written)

  -- its works are written, and make the class
  pub file_works : AreWrittenWorks (class_id bytes) has.names has.array (map framed_work has.works) is.file has.written.with
  file_works =
      works_written bytes c is.text are size (class_id bytes) no_code has.names has.array has.works has.twin has.written a.bytes has.are_bytes has.text room
      (all_free c (bodies_of has.works) holds changes of_class none_making)

  pub file_class : has.twin ≡ twin_class has.names has.array is.file (map framed_work has.works) has.written.with
  file_class = twins bytes c is.text are size (class_id bytes) no_code has.names has.array has.works has.twin has.written

  twin_passes : EachPassesAgain has.twin
  twin_passes =
      class_passes bytes c is.text are size (class_id bytes) no_code has.names has.array has.works has.twin has.written a.bytes has.are_bytes has.text room
      (all_free c (bodies_of has.works) holds changes of_class none_making)

-- each method of the class that the bytes are has no code, or passes the kind check
pub file_passes : (bytes : List ℕ) (a : Instrumented) (twin : ClassFile) → AreBytes bytes → length bytes ≤ most_read → IsInstrumentedFile bytes a
    → a.changed ≡ true → ClassText a.bytes twin → EachPassesAgain twin
file_passes bytes a twin are size is changed text = by (is_left_alone is.file) refl is.becomes
  where
    by : (t : Bool) → is_left_alone is.file ≡ t → Becomes t bytes is.file a → EachPassesAgain twin
    by true stays given = absurd (true≢false (sym changed ∙ given.changed))
    by false changes has = subst EachPassesAgain (one_class_of a.bytes has.twin twin has.text text) (twin_passes bytes a are size is changes has)
