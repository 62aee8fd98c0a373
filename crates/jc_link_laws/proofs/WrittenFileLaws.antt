-- What is written of an accepted file is the text of a twin, or the file.
use Rattle.std.proofs.Common.{◌≡◌, inl, inr, ℕ, ◌≤◌, Bool, true, false, List, length, refl}
use Rattle.jc_bytes.specs.ByteLists.{AreBytes}
use Rattle.jc_bytes.specs.Reader.{most_read}
use Rattle.jc_instrument.specs.InstrumentedFile.{Becomes, IsInstrumentedFile}
use Rattle.jc_instrument.specs.LeftAlone.{is_left_alone}
use Rattle.jc_instrument.specs.Refused.{IsAccepted}
use Rattle.jc_instrument.specs.declared.whole.Instrumented.{Instrumented}
use Rattle.jc_instrument_laws.proofs.TwinClassLaws.{changed_file}
use Rattle.jc_link_laws.specs.TwinFiles.{IsWrittenOf}

pub written_of : (bytes : List ℕ) (a : Instrumented) → AreBytes bytes → length bytes ≤ most_read → IsInstrumentedFile bytes a → IsWrittenOf bytes a.bytes
written_of bytes a are short is = by (is_left_alone is.file) refl is.becomes
  where
    accepted : IsAccepted bytes
    accepted = (is.file, is.text, is.no_cause)

    by : (t : Bool) → is_left_alone is.file ≡ t → Becomes t bytes is.file a → IsWrittenOf bytes a.bytes
    by true stays given = inr ((accepted, (is.file, is.text, stays)), given.same)
    by false changes has = inl (record {
      changed = (accepted, (is.file, is.text, changes));
      twin = changed_file bytes a are short is has.changed;
    })
