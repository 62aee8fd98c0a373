-- What the reference check answers.
use Rattle.std.specs.Prelude.{◌≡◌, ℕ}
use Rattle.jc_methods.specs.declared.body.Body.{Body}
use Rattle.jc_programs.specs.declared.program.Program.{Program}
use Rattle.jc_programs.specs.declared.run_end.Entry.{Entry}
use Rattle.jc_refs_check.specs.declared.ref_refusal.RefRefusal.{RefRefusal}
use Rattle.jc_refs_check.specs.RefsOk.{FirstRefFault}

abbrev pub ref_refusal_of : Entry → Body → ℕ → RefRefusal
ref_refusal_of method b i = record { class = method.class; method = b.method; at = i }

pub record IsRefRefusal (program : Program) (refusal : RefRefusal) : Type 0 where
  pub method : Entry
  pub body : Body
  pub place : ℕ
  pub first : FirstRefFault program method body place
  pub refusal_is : refusal ≡ ref_refusal_of method body place
