-- Classes that stand in a constant pool (JVM Specification 4.4.1).
use Rattle.std.specs.Prelude.{All}
use Rattle.std.specs.List.{AllByRecursion}
use Rattle.jc_methods.specs.VerificationTypes.{Names, class_name, verification_type}
use Rattle.jc_methods.specs.declared.body.FrameAt.{FrameAt}
use Rattle.jc_methods.specs.declared.kind.Kind.{Kind}
use Rattle.jc_frames.specs.FullTable.{HasPlace}
use Rattle.jc_pool.specs.Pool.{PoolValue}

-- the class of a value stands in the pool, if it has one
abbrev pub KindStands : PoolValue → Names → Kind → Type 0
KindStands pool names kind = AllByRecursion (HasPlace pool) (class_name (verification_type names kind))

-- the classes that a frame names stand in the pool
pub record FrameStands (pool : PoolValue) (names : Names) (f : FrameAt) : Type 0 where
  pub locals : All (KindStands pool names) f.state.locals
  pub stack : All (KindStands pool names) f.state.stack
