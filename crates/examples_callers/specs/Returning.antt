-- Instructions that return (JVM Specification 6.5).
use Rattle.std.specs.Prelude.{Bool, true, false}
use Rattle.jc_methods.specs.declared.insn.Insn.{Insn}
use Rattle.jc_methods.specs.declared.insn.Flow.{Flow}
use Rattle.jc_methods.specs.declared.insn.Flow.TheVariants as flows
use Rattle.jc_methods.specs.Flow.{flow_of}

abbrev pub is_returning : Flow → Bool
is_returning flows.Returns = true
is_returning _ = false

-- the instruction returns from its method
abbrev pub returns : Insn → Bool
returns insn = is_returning (flow_of insn)
