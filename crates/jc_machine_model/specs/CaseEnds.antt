-- What a case leaves.
use Rattle.std.specs.Prelude.{ℕ, ℤ, pos, ◌+◌, List, [], ◌∷◌, ◌++◌, map, Option, Some, None}
use Rattle.jc_bytes.specs.Descriptor.{FieldType, Double, Float, Object, Array}
use Rattle.jc_methods.specs.DescriptorTypes.{field_type_in}
use Rattle.jc_programs.specs.declared.run_end.End.TheVariants as ends
use Rattle.jc_programs.specs.declared.program.Program.{Program}
use Rattle.jc_programs.specs.declared.program.Linked.{Linked}
use Rattle.jc_programs.specs.declared.program.StaticField.{StaticField}
use Rattle.jc_programs.specs.declared.run_plan.Case.{Case}
use Rattle.jc_programs.specs.declared.run_end.End.{End}
use Rattle.jc_programs.specs.declared.run_end.StaticEnd.{StaticEnd}
use Rattle.jc_programs.specs.declared.run_end.CaseEnd.{CaseEnd}
use Rattle.jc_machine_model.specs.Values.{Value, int, long}
use Rattle.jc_machine_model.specs.World.{Thread, running, returned, threw, stuck, World}
use Rattle.jc_machine_model.specs.Run.{run}

abbrev pub end_of : Thread → End
end_of (running f waiting) = ends.Running
end_of (returned v) = ends.Returned v
end_of (threw c) = ends.Threw c
end_of (stuck method place) = ends.Stuck

abbrev pub ends_in : World → List End
ends_in w = map end_of w.threads

-- the number that a value is
abbrev pub number_of : Value → ℤ
number_of (int n) = n
number_of (long n) = n
number_of v = pos 0

-- what a field holds, where it is of an integral type
abbrev pub field_end : ℕ → ℕ → Option FieldType → Value → List StaticEnd
field_end class field None v = []
field_end class field (Some Float) v = []
field_end class field (Some Double) v = []
field_end class field (Some (Object name)) v = []
field_end class field (Some (Array component)) v = []
field_end class field (Some type) v = record { class = class; field = field; value = number_of v } ∷ []

abbrev pub field_ends : ℕ → ℕ → List StaticField → List Value → List StaticEnd
field_ends class field [] values = []
field_ends class field (f ∷ fields) [] = []
field_ends class field (f ∷ fields) (v ∷ values) = field_end class field (field_type_in f.desc) v ++ field_ends class (field + 1) fields values

abbrev pub class_ends : ℕ → List Linked → List (List Value) → List StaticEnd
class_ends class [] statics = []
class_ends class (c ∷ classes) [] = []
class_ends class (c ∷ classes) (values ∷ statics) = field_ends class 0 c.statics values ++ class_ends (class + 1) classes statics

-- the fields of integral types in the order of classes and fields
abbrev pub static_ends : Program → World → List StaticEnd
static_ends program w = class_ends 0 program.classes w.shared.statics

abbrev pub case_end_in : Program → World → CaseEnd
case_end_in program w = record { output = w.shared.output; ends = ends_in w; statics = static_ends program w; raised = w.shared.raised }

abbrev pub case_end : Program → Case → List ℕ → CaseEnd
case_end program case turns = case_end_in program (run program case turns)
