-- What the command `instrument` makes of class files.
use Rattle.std.specs.Prelude.{◌≡◌, List, ℕ, [], ◌∷◌, ◌++◌, Some}
use Rattle.jc_bytes.specs.declared.refusal.Refusal.{Refusal}
use Rattle.jc_instrument.specs.InstrumentedFile.{IsInstrumentedFile}
use Rattle.jc_instrument.specs.Refused.{Reason}
use Rattle.jc_instrument.specs.declared.whole.Instrumented.{Instrumented}
use Rattle.jc_command_work.specs.Part.{gives}
use Rattle.jc_command_work.specs.Answered.{Answer}
use Rattle.jc_command_classes.specs.Lines.{refused_line, accepted_line}
use Rattle.jc_command_classes.specs.declared.instrument.Decided.{Decided}
use Rattle.jc_command_classes.specs.declared.instrument.Decided.TheVariants as decided
use Rattle.jc_command_work.specs.Step.{Word}
use Rattle.jc_command_work.specs.Step.{Write, to_file, to_out, to_err}

-- ---- one class file

-- what comes of a class file: it is refused, or it has probes or stays as it is
pub data Decision : Type 0 where
  refused_file : (why : Refusal) → Decision
  accepted_file : (a : Instrumented) → Decision

abbrev pub IsDecision : List ℕ → Decision → Type 0
IsDecision bytes (refused_file why) = Reason bytes (Some why)
IsDecision bytes (accepted_file a) = IsInstrumentedFile bytes a

-- Its two writes: what comes of it, or the bytes as they were read where it is refused, go to the path, and behind that its line
-- goes to `out`, or to `err` where it is refused.
abbrev pub file_writes : (target file : Word) (bytes : List ℕ) → Decision → List Write
file_writes target file bytes (refused_file why) = to_file target bytes ∷ to_err (refused_line file why) ∷ []
file_writes target file bytes (accepted_file a) = to_file target a.bytes ∷ to_out (accepted_line file a.changed a.probes) ∷ []

-- the line of a file
abbrev pub decided_line : (file : Word) → Decision → List ℕ
decided_line file (refused_file why) = refused_line file why
decided_line file (accepted_file a) = accepted_line file a.changed a.probes

-- ---- class files

-- the writes of the class files, in order, by the paths to which they are written, their own paths and their bytes
abbrev pub AreFileWrites : (targets files : List Word) → List (List ℕ) → List Write → Type 0
AreFileWrites [] [] [] writes = writes ≡ []
AreFileWrites [] [] (t ∷ ts) writes = ⊥
AreFileWrites [] (f ∷ fs) ts writes = ⊥
AreFileWrites (p ∷ ps) [] ts writes = ⊥
AreFileWrites (p ∷ ps) (f ∷ fs) [] writes = ⊥
AreFileWrites (p ∷ ps) (f ∷ fs) (t ∷ ts) writes =
    (d : Decision) × (rest : List Write) × IsDecision t d × (writes ≡ file_writes p f t d ++ rest) × AreFileWrites ps fs ts rest

-- a class file that is refused stops nothing
pub data InstrumentAnswers (targets paths : List Word) (texts : List (List ℕ)) : Answer → Type 0 where
  instrumented : (writes : List Write) → AreFileWrites targets paths texts writes → InstrumentAnswers targets paths texts (gives writes)

-- ---- what the code decides

abbrev pub decision_seen : Decided → Decision
decision_seen (decided.Accepted class) = accepted_file class
decision_seen (decided.Refused why) = refused_file why
