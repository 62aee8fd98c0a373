use Rattle.std.proofs.Common.{None}
use Rattle.jc_pool.specs.Lookup.{class_name_of}
use Rattle.jc_pool.specs.Index.{IsFirstBelow}
use Rattle.jc_pool.proofs.pool.Pool.look_for_class.Given as goal

abbrev pub invariant-finding : goal.invariant-finding
invariant-finding l = IsFirstBelow l.place (class_name_of l.self) l.name None
