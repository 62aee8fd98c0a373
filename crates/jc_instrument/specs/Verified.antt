-- Class files whose methods pass the kind check where they are read again.
use Rattle.std.specs.Prelude.{ℕ, List}
use Rattle.jc_class.specs.ClassText.{ClassText}
use Rattle.jc_class.specs.declared.class_file.ClassFile.{ClassFile}
use Rattle.jc_instrument_reread.specs.Again.{EachPassesAgain}

-- The bytes are a class file. Each of its methods has no code, or its code is read, whatever the number of its instructions times
-- its slots is, and passes the kind check (JVM Specification 4.10.1).
pub record IsVerified (bytes : List ℕ) : Type 0 where
  pub file : ClassFile
  pub text : ClassText bytes file
  pub each : EachPassesAgain file
