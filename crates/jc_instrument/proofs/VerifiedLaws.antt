-- What an instrumented class file has: its methods pass the kind check where they are read again.
use Rattle.std.proofs.Common.{◌≡◌, ℕ, ◌≤◌, Bool, true, false, List, length, Result, Ok, Err, refl, sym, ◌∙◌, true≢false}
use Rattle.std.specs.Prelude.{IfOk}
use Rattle.jc_bytes.specs.ByteLists.{AreBytes}
use Rattle.jc_bytes.specs.Reader.{most_read}
use Rattle.jc_bytes.specs.declared.fail.Fail.{Fail}
use Rattle.jc_bytes.specs.declared.refusal.Refusal.{Refusal}
use Rattle.jc_instrument.specs.InstrumentedFile.{Becomes, IsInstrumentedFile}
use Rattle.jc_instrument.specs.LeftAlone.{is_left_alone}
use Rattle.jc_instrument.specs.Verified.{IsVerified}
use Rattle.jc_instrument.specs.declared.whole.Instrumented.{Instrumented}
use Rattle.jc_instrument.proofs.PassingFileLaws.{file_passes}

module _ (bytes : List ℕ) (are : AreBytes bytes) (few : length bytes ≤ most_read) where
  file_verified : (a : Instrumented) → IsInstrumentedFile bytes a → a.changed ≡ true → IsVerified a.bytes
  file_verified a made changed = by (is_left_alone made.file) refl made.becomes
    where
      by : (t : Bool) → is_left_alone made.file ≡ t → Becomes t bytes made.file a → IsVerified a.bytes
      by true stays given = absurd (true≢false (sym changed ∙ given.changed))
      by false changes has = record {
        file = has.twin;
        text = has.text;
        each = file_passes bytes a has.twin are few made changed has.text;
      }

  pub answer_verified : (answer : Result Instrumented (Fail Refusal)) → IfOk answer (IsInstrumentedFile bytes)
      → IfOk answer (λ a. a.changed ≡ true → IsVerified a.bytes)
  answer_verified (Ok a) made = file_verified a made
  answer_verified (Err e) made = tt
