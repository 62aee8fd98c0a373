-- Full frames that were written are read back (JVM Specification 4.7.4).
use Rattle.std.specs.Prelude.{◌≡◌, ℕ, ◌≤◌, List, [], ◌∷◌, ◌++◌, length, map}
use Rattle.std.specs.List.{AllByRecursion}
use Rattle.jc_methods.specs.declared.body.FrameAt.{FrameAt}
use Rattle.jc_methods.specs.declared.insn.Insn.{Insn}
use Rattle.jc_methods.specs.VerificationTypes.{AreNumberedFrames, Names, TypeState, type_state_at}
use Rattle.jc_methods.specs.WellMade.{AreFramesFrom, IsState}
use Rattle.jc_pool.specs.Pool.{PoolValue}
use Rattle.jc_frames.specs.Frames.{Ground}
use Rattle.jc_frames.specs.FullFrames.{Places, table_text}
use Rattle.jc_frames.specs.FullTable.{ArePlacesIn, AreRisingOffsets, AreShort, CanBeWritten, TakesClasses, named_by_all}
use Rattle.jc_frames.specs.Table.{StandsFor}

-- the method has its instructions at these offsets, and the frames have states of it that are well made
pub record AreFramesOver (g : Ground) (starts : List ℕ) (frames : List FrameAt) : Type 0 where
  pub count : length starts ≡ length g.code
  pub end : ℕ
  pub begins : g.starts ≡ starts ++ end ∷ []
  pub states : AllByRecursion (λ f. IsState g.code g.max_locals g.max_stack f.state) frames

-- What is written of frames into a pool that takes their classes stands for these frames, whatever the state is in
-- which the method begins.
abbrev pub WrittenFramesReadBack : Type 0
WrittenFramesReadBack = (g : Ground) (starts : List ℕ) (names : Names) (old : PoolValue) (p : Places) (entry : TypeState) (frames : List FrameAt)
    → CanBeWritten starts (length names) frames → AreFramesOver g starts frames
    → TakesClasses old (named_by_all (map (type_state_at names) frames)) g.pool → ArePlacesIn g.pool starts p
    → StandsFor g entry (table_text p (map (type_state_at names) frames)) (map (type_state_at names) frames)

-- the frames of a well made body can be written over instructions whose offsets are numbers of two bytes
abbrev pub FramesCanBeWritten : Type 0
FramesCanBeWritten = (code : List Insn) (max_locals max_stack names : ℕ) (starts : List ℕ) (frames : List FrameAt)
    → AreFramesFrom 0 code max_locals max_stack frames → AreNumberedFrames names frames
    → max_locals ≤ 65535 → max_stack ≤ 65535 → length frames ≤ 65535
    → length code ≤ length starts → AreRisingOffsets starts → AreShort starts → CanBeWritten starts names frames
