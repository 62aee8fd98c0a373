-- What is known of the method whose instructions are looked at.
use Rattle.std.specs.Prelude.{◌≡◌, ℕ, ◌<◌, ◌^◌, length, Some, All}
use Rattle.jc_methods.specs.declared.insn.Insn.{Insn}
use Rattle.jc_methods.specs.declared.body.What.{What}
use Rattle.jc_methods.specs.DescriptorTypes.{method_type_in}
use Rattle.jc_methods.specs.InsnUse.{pool_place, Suits}
use Rattle.jc_methods.specs.WellMade.{IsWellMade}
use Rattle.jc_programs.specs.declared.program.Program.{Program}
use Rattle.jc_programs.specs.declared.program.Linked.{Linked}
use Rattle.jc_programs.specs.Members.{class_at}
use Rattle.jc_machine_model.specs.Methods.{most_frame_slots}
use Rattle.jc_machine_model.specs.Profile.{Location, in_init, init_of, has_constant, given_of, begins_with_array}
use Rattle.jc_machine_model.specs.Programs.{IsStatic}
use Rattle.jc_machine_code.specs.declared.prepared.PreparedClass.{PreparedClass}
use Rattle.jc_machine_code.specs.declared.index.ClassIndex.{ClassIndex}
use Rattle.jc_machine_code.specs.declared.index.ProgramIndex.{ProgramIndex}
use Rattle.jc_machine_code.specs.declared.site.Site.{Site}
use Rattle.jc_machine_code.specs.Types.{return_narrowing}
use Rattle.jc_machine_code.specs.Places.{same_member, same_name, class_has, is_method, is_static_field, ArePlaces, what_in, AreWhats}
use Rattle.jc_machine_code.specs.Prepared.{Correspond, IsPreparedClass}

-- a method's number and a field's number are numbers of four bytes
pub record HasFewMembers (c : Linked) : Type 0 where
  pub bodies : length c.bodies < 2 ^ 32
  pub statics : length c.statics < 2 ^ 32

-- the members of the class by their names
pub record IsClassIndex (i : ℕ) (c : Linked) (index : ClassIndex) : Type 0 where
  pub linked : index.linked.now ≡ c
  pub most : most_frame_slots c ≡ index.most
  pub given : given_of c ≡ index.given
  pub methods : ArePlaces same_member is_method c.bodies index.methods.entries
  pub statics : ArePlaces same_member is_static_field c.statics index.statics.entries

-- the classes of the program by their names, and the members of each
pub record IsIndex (program : Program) (index : ProgramIndex) : Type 0 where
  pub names : ArePlaces same_name class_has program.classes index.names.entries
  pub classes : Correspond IsClassIndex program.classes index.classes

-- it is of the class with the number
pub record IsClassAt (program : Program) (class : ℕ) (index : ClassIndex) : Type 0 where
  pub linked : Linked
  pub class_is : class_at program class ≡ Some linked
  pub indexed : IsClassIndex class linked index

-- the bodies of the class are well made, and its static fields have values of their types
pub record IsMade (index : ClassIndex) : Type 0 where
  pub bodies : All IsWellMade index.linked.now.bodies
  pub statics : All IsStatic index.linked.now.statics

-- it is what becomes of the class
abbrev pub IsPreparedFrom : Program → ℕ → ClassIndex → PreparedClass → Type 0
IsPreparedFrom program class index prepared = (linked : Linked) → IsClassIndex class linked index → IsPreparedClass program class linked prepared

-- it is of the method in which the instruction stands
pub record IsSite (program : Program) (at : Location) (site : Site) : Type 0 where
  pub index : IsIndex program site.index.now
  pub class : at.class ≡ site.class
  pub is_init : in_init at ≡ site.is_init
  pub init : init_of at ≡ site.init
  pub has_constant_is : has_constant at.linked ≡ site.has_constant
  pub given : given_of at.linked ≡ site.given
  pub begins : begins_with_array at at.body.code ≡ site.begins_with_array
  pub narrowing : return_narrowing (method_type_in at.body.desc).returns ≡ site.narrowing
  pub whats : AreWhats at.body.uses site.whats.entries

-- what the instruction uses is of the kind that it needs
abbrev pub UsesFit : Site → Insn → Type 0
UsesFit site insn = (place : ℕ) (what : What) → pool_place insn ≡ Some place → what_in site.whats.entries place ≡ Some what → Suits insn what
