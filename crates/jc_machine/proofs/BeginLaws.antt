-- The world in which a case begins.
use Rattle.std.proofs.Common.{◌≡◌, false, List, [], ◌∷◌, length, map, refl, sym, ap, ◌∙◌, subst}
use Rattle.std.proofs.lemmas.List.{length-map}
use Rattle.jc_programs.specs.declared.program.Program.{Program}
use Rattle.jc_programs.specs.declared.program.Linked.{Linked}
use Rattle.jc_programs.specs.declared.run_plan.Case.{Case}
use Rattle.jc_programs.specs.declared.run_end.Entry.{Entry}
use Rattle.jc_programs.specs.Entries.{AreEntries}
use Rattle.jc_machine_code.specs.declared.prepared.PreparedClass.{PreparedClass}
use Rattle.jc_machine_code.specs.declared.prepared.PreparedProgram.{PreparedProgram}
use Rattle.jc_machine_code.specs.Prepared.{IsPrepared, value_of}
use Rattle.jc_machine_code.proofs.PrepareLaws.{statics_are}
use Rattle.jc_machine_turn.specs.Contents as contents
use Rattle.jc_machine_model.specs.Programs.{IsProgram}
use Rattle.jc_machine_model.specs.Values.{Value}
use Rattle.jc_machine_model.specs.Begin.{begin, first_threads, first_shared, first_value}
use Rattle.jc_machine_model.specs.Fits.{AreStatics, FitsWorld}
use Rattle.jc_machine_model.proofs.BeginLaws.{begin_fits}
use Rattle.jc_machine.specs.Machines.{Machine, world_of, Fits}
use Rattle.jc_machine.specs.IntegralFields.{integral_fields}

-- what is shared at first
pub shared_is : (program : Program) (prepared : PreparedProgram) → IsPrepared program prepared → contents.first_shared prepared.classes ≡ first_shared program
shared_is program prepared is =
    ap (λ (statics : List (List Value)). record { statics = statics; heap = []; output = []; raised = false }) (statics_are program prepared is)

-- a machine with the first threads and with what is shared at first
pub world_begins : (program : Program) (case : Case) (entries : List Entry) (m : Machine) → IsPrepared program m.prepared
    → m.threads ≡ first_threads program case.threads entries → m.shared ≡ contents.first_shared m.prepared.classes
    → world_of m ≡ begin program case.threads entries
unfolding begin
world_begins program case entries m is threads shared = λ i. record { threads = threads i; shared = (shared ∙ shared_is program m.prepared is) i; hits = [] }

pub machine_begins : (program : Program) (case : Case) (entries : List Entry) (m : Machine) → IsProgram program → AreEntries program case.threads entries
    → IsPrepared program m.prepared → m.fields ≡ integral_fields program
    → world_of m ≡ begin program case.threads entries → Fits program m
machine_begins program case entries m p are is fields world =
    record { prepared = is; fields = fields; world = subst (FitsWorld program) (sym world) (begin_fits program case entries p are) }

-- ---- as many static fields as at first

many_statics : (classes : List Linked) (statics : List (List Value)) → AreStatics classes statics
    → map (λ (values : List Value). length values) statics ≡ map (λ (c : Linked). length c.statics) classes
many_statics [] [] are = refl
many_statics [] (values ∷ statics) are = absurd are
many_statics (c ∷ classes) [] are = absurd are
many_statics (c ∷ classes) (values ∷ statics) are = let one = (are.0).count in let more = many_statics classes statics are.1 in cc

first_many : (classes : List Linked)
    → map (λ (values : List Value). length values) (map (λ (c : Linked). map first_value c.statics) classes) ≡ map (λ (c : Linked). length c.statics) classes
first_many [] = refl
first_many (c ∷ classes) = let one = length-map c.statics first_value in let more = first_many classes in cc

prepared_many : (classes : List PreparedClass)
    → map (λ (values : List Value). length values) (map (λ (c : PreparedClass). map value_of c.statics) classes)
    ≡ map (λ (c : PreparedClass). length c.statics) classes
prepared_many [] = refl
prepared_many (c ∷ classes) = let one = length-map c.statics value_of in let more = prepared_many classes in cc

pub as_many_statics : (program : Program) (m : Machine) → Fits program m
    → map (λ (values : List Value). length values) m.shared.statics ≡ map (λ (c : PreparedClass). length c.statics) m.prepared.classes
as_many_statics program m fits =
    many_statics program.classes m.shared.statics fits.world.statics
    ∙ (sym (first_many program.classes)
    ∙ (sym (ap (map (λ (values : List Value). length values)) (statics_are program m.prepared fits.prepared)) ∙ prepared_many m.prepared.classes))
