-- Methods and classes that are checked one after the other.
use Rattle.std.proofs.Common.{◌≡◌, ⊎_elim, ℕ, ◌+◌, ◌^◌, ◌<◌, ◌≤◌, true, length, Some, sym, ◌∙◌, ap, subst, arith}
use Rattle.std.specs.List.{slice_get, All}
use Rattle.std.proofs.lemmas.List.Elements.{All-contains, All-weaker}
use Rattle.std.proofs.lemmas.Option.{same_Some}
use Rattle.jc_bytes.proofs.BooleanLaws.{stands_in}
use Rattle.jc_bytes.proofs.ListLaws.{below_or_last}
use Rattle.jc_bytes.specs.Failing.{Said}
use Rattle.jc_bytes.specs.declared.fail.Fail.{Fail}
use Rattle.jc_bytes.specs.declared.fail.Fail.TheVariants as fails
use Rattle.jc_methods.specs.declared.body.Body.{Body}
use Rattle.jc_methods.specs.VerificationTypes.{Names, Grows}
use Rattle.jc_methods.specs.WellMade.{IsWellMade}
use Rattle.jc_methods.proofs.MetNamesLaws.{grows_both}
use Rattle.jc_programs.specs.declared.program.Program.{Program}
use Rattle.jc_programs.specs.declared.program.Linked.{Linked}
use Rattle.jc_programs.specs.Members.{class_at}
use Rattle.jc_machine_model.specs.Programs.{IsProgram, IsLinked, IsProgramBody}
use Rattle.jc_machine_model.specs.Methods.{is_enterable}
use Rattle.jc_refs_check.specs.declared.check.Checking.{Checking}
use Rattle.jc_refs_check.specs.declared.ref_refusal.RefRefusal.{RefRefusal}
use Rattle.jc_refs_check.specs.Checking.{IsChecking}
use Rattle.jc_refs_check.specs.MethodAnswers.{IsMethodOk, IsEnteredRefusal, method_entry, AreMethodsOk, IsClassRefusal, AreClassesOk}
use Rattle.jc_refs_check.proofs.MemberTypeLaws.{types_grown}

pub checking_grown : (old new : Names) (c : Checking) → Grows old new → IsChecking old c → IsChecking new c
checking_grown old new c g is = record {
  program = is.program;
  operations = is.operations;
  types = types_grown old new c.program.now c.types.now g is.types;
  grown = grows_both c.program.now.names old new is.grown g;
}

module _ (program : Program) (is_program : IsProgram program) where
  pub linked_there : (class : ℕ) (linked : Linked) → class_at program class ≡ Some linked → IsLinked program.names linked
  linked_there class linked is = All-contains (IsLinked program.names) program.classes linked is_program.classes (stands_in program.classes class linked is)

  -- a method's number is one of four bytes
  pub few_methods : (class : ℕ) (linked : Linked) → class_at program class ≡ Some linked → length linked.bodies < 2 ^ 32
  few_methods class linked is = (linked_there class linked is).few_bodies

  pub bodies_made : All (λ (c : Linked). All IsWellMade c.bodies) program.classes
  bodies_made = All-weaker (IsLinked program.names) (λ (c : Linked). All IsWellMade c.bodies)
      (λ c linked. All-weaker (IsProgramBody program.names) IsWellMade (λ b is. is.well_made) c.bodies linked.bodies) program.classes is_program.classes

-- a refusal that says the one says the other
pub said_more : (P Q : RefRefusal → Type 0) (e : Fail RefRefusal) → ((r : RefRefusal) → P r → Q r) → Said e P → Said e Q
said_more P Q fails.Memory more said = tt
said_more P Q (fails.Said refusal) more said = more refusal said

-- ---- one method more

module _ (program : Program) (class : ℕ) (linked : Linked) (number : ℕ) (b : Body) (so_far : AreMethodsOk program class linked number) (is : slice_get linked.bodies number ≡ Some b) where
  pub methods_on : (is_enterable linked b ≡ true → IsMethodOk program (method_entry class number) b) → AreMethodsOk program class linked (number + 1)
  methods_on ok method c lt there enterable = ⊎_elim
      (λ low. so_far method c low there enterable)
      (λ last.
      let same : c ≡ b = same_Some c b (sym there ∙ ap (slice_get linked.bodies) last ∙ is) in
      subst (λ (k : ℕ). IsMethodOk program (method_entry class k) c) (sym last)
      (subst (IsMethodOk program (method_entry class number)) (sym same) (ok (subst (λ (d : Body). is_enterable linked d ≡ true) same enterable))))
      (below_or_last number method lt)

  pub class_refused : (refusal : RefRefusal) → IsEnteredRefusal program (method_entry class number) linked b refusal → IsClassRefusal program class linked refusal
  class_refused refusal r = record { method = number; body = b; body_is = is; enterable = r.enterable; refused = r.refused; before = so_far }

pub methods_done : (program : Program) (class : ℕ) (linked : Linked) (number : ℕ) → length linked.bodies ≤ number → AreMethodsOk program class linked number
    → AreMethodsOk program class linked (length linked.bodies)
methods_done program class linked number le ok method b lt = ok method b (omega (arith, lt, le))

-- ---- one class more

pub classes_on : (program : Program) (number : ℕ) (linked : Linked) → AreClassesOk program number → slice_get program.classes number ≡ Some linked
    → AreMethodsOk program number linked (length linked.bodies) → AreClassesOk program (number + 1)
classes_on program number linked so_far is ok class c lt there = ⊎_elim
    (λ low. so_far class c low there)
    (λ last.
    let same : c ≡ linked = same_Some c linked (sym there ∙ ap (slice_get program.classes) last ∙ is) in
    subst (λ (k : ℕ). AreMethodsOk program k c (length c.bodies)) (sym last)
    (subst (λ (d : Linked). AreMethodsOk program number d (length d.bodies)) (sym same) ok))
    (below_or_last number class lt)

pub classes_done : (program : Program) (number : ℕ) → length program.classes ≤ number → AreClassesOk program number → AreClassesOk program (length program.classes)
classes_done program number le ok class c lt = ok class c (omega (arith, lt, le))
