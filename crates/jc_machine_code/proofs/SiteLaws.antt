-- Members that an instruction names, as the index of a program finds them.
use Rattle.std.proofs.Common.{◌≡◌, ◌⊎◌, inl, inr, ℕ, Bool, true, false, ◌&&◌, List, [], ◌∷◌, length, Option, Some, None, is_some, MatchOption, IfSome, refl, sym, ap, ap₂, ◌∙◌, subst}
use Rattle.std.specs.Borrow.{Bor}
use Rattle.std.specs.List.{slice_get}
use Rattle.std.specs.Option.{option_map, option_and_then}
use Rattle.std.specs.Slice.{IsItemAt}
use Rattle.std.proofs.lemmas.Option.{slice_get_past, slice_get_read}
use Rattle.jc_methods.specs.declared.insn.Insn.{Insn}
use Rattle.jc_methods.specs.declared.insn.Insn.TheVariants as insns
use Rattle.jc_methods.specs.declared.body.Body.{Body}
use Rattle.jc_methods.specs.declared.body.What.{What}
use Rattle.jc_methods.specs.declared.body.What.TheVariants as whats
use Rattle.jc_methods.specs.InsnUse.{pool_place, Suits, IsMemberFor}
use Rattle.jc_programs.specs.declared.program.Program.{Program}
use Rattle.jc_programs.specs.declared.program.Linked.{Linked}
use Rattle.jc_programs.specs.declared.program.ProbeInit.{ProbeInit}
use Rattle.jc_programs.specs.declared.run_end.Entry.{Entry}
use Rattle.jc_programs.specs.Members.{class_named, class_at, method_named}
use Rattle.jc_machine_model.specs.Methods.{is_enterable}
use Rattle.jc_machine_model.specs.Operations.{outside}
use Rattle.jc_machine_model.specs.Profile.{Location, what_at, given_in, begins_with_array, may_name_method, method_in, callee_named, enters, entered_if, body_entered}
use Rattle.jc_machine_code.specs.declared.index.ClassIndex.{ClassIndex}
use Rattle.jc_machine_code.specs.declared.index.ProgramIndex.{ProgramIndex}
use Rattle.jc_machine_code.specs.declared.site.Site.{Site}
use Rattle.jc_machine_code.specs.Places.{what_in}
use Rattle.jc_machine_code.specs.Sites.{IsClassIndex, IsClassAt, IsIndex, IsSite, UsesFit}
use Rattle.jc_machine_code.proofs.CorrespondLaws.{made_of, made_none}

-- ---- an item of a list

pub got : {X : Type 0} (xs : List X) (i : ℕ) (r : Option (Bor X)) → IsItemAt xs i r → option_map (λ (x : Bor X). x.now) r ≡ slice_get xs i
got xs i None g = sym (slice_get_past xs i g.3)
got xs i (Some x) g = sym (slice_get_read xs (length xs) i x.now refl g.3.0 g.1)

pub class_found : (program : Program) (index : ProgramIndex) (k : ℕ) (r : Option (Bor ClassIndex)) → option_map (λ (x : Bor ClassIndex). x.now) r ≡ slice_get index.classes k
    → IsIndex program index → MatchOption r (class_at program k ≡ None) (λ i. IsClassAt program k i.now)
class_found program index k None e is = made_none IsClassIndex program.classes index.classes is.classes k (sym e)
class_found program index k (Some i) e is =
    let x = made_of IsClassIndex program.classes index.classes is.classes k i.now (sym e) in
    record { linked = x.0; class_is = x.1; indexed = x.2 }

-- ---- calls

pub entered : (at : Location) (callee : Entry) (linked : Linked) (o : Option Body) (b : Body) → o ≡ Some b → is_enterable linked b ≡ true → may_name_method at callee.class b.name ≡ true
    → body_entered at callee linked o ≡ enters callee b
entered at callee linked o b e p q = ap (body_entered at callee linked) e ∙ ap₂ (λ x y. entered_if (x && y) callee b) p q

never_entered : (x : Bool) (callee : Entry) (b : Body) → entered_if (x && false) callee b ≡ outside
never_entered true callee b = refl
never_entered false callee b = refl

pub not_entered : (at : Location) (callee : Entry) (linked : Linked) (o : Option Body) (b : Body) → o ≡ Some b → (is_enterable linked b ≡ false) ⊎ (may_name_method at callee.class b.name ≡ false)
    → body_entered at callee linked o ≡ outside
not_entered at callee linked o b e (inl p) = ap (body_entered at callee linked) e ∙ ap (λ x. entered_if (x && may_name_method at callee.class b.name) callee b) p
not_entered at callee linked o b e (inr q) =
    ap (body_entered at callee linked) e ∙ ap (λ y. entered_if (is_enterable linked b && y) callee b) q ∙ never_entered (is_enterable linked b) callee b

pub callee_found : (program : Program) (class name desc : List ℕ) (k : ℕ) (linked : Linked) (o : Option ℕ) → Some k ≡ class_named program class → class_at program k ≡ Some linked
    → o ≡ method_named linked.bodies name desc → option_map (λ (m : ℕ). let e : Entry = record { class = k; method = m } in e) o ≡ callee_named program class name desc
callee_found program class name desc k linked o named at found = sym (
    ap (λ (x : Option ℕ). option_and_then (λ (j : ℕ). option_and_then (method_in name desc j) (class_at program j)) x) (sym named)
    ∙ ap (λ (x : Option Linked). option_and_then (method_in name desc k) x) at
    ∙ ap (λ (x : Option ℕ). option_map (λ (m : ℕ). let e : Entry = record { class = k; method = m } in e) x) (sym found))

-- ---- what an instruction uses

pub member_fits : (site : Site) (insn : Insn) (op place : ℕ) (r : Option (Bor What)) → insn ≡ insns.Member op place → option_map (λ (w : Bor What). w.now) r ≡ what_in site.whats.entries place
    → UsesFit site insn → IfSome r (λ w. IsMemberFor op w.now)
member_fits site insn op place None is e fit = tt
member_fits site insn op place (Some w) is e fit =
    subst (λ (i : Insn). Suits i w.now) is (fit place w.now (ap pool_place is) (sym e))

-- ---- other places of the method

abbrev pub at_place : Location → ℕ → Location
at_place at place = record at { place = place }

given_same : (at : Location) (place : ℕ) (o : Option What) → given_in (at_place at place) o ≡ given_in at o
given_same at place (Some (whats.Computed name desc bootstrap)) = refl
given_same at place o = refl

begins_same : (at : Location) (place : ℕ) (code : List Insn) → begins_with_array (at_place at place) code ≡ begins_with_array at code
begins_same at place (insns.Constant index ∷ code) = ap (λ (o : Option ProbeInit). is_some o) (given_same at place (what_at at index))
begins_same at place code = refl

-- what is known of the method doesn't depend on the place
pub site_at : (program : Program) (at : Location) (site : Site) (place : ℕ) → IsSite program at site → IsSite program (at_place at place) site
site_at program at site place is = record {
  index = is.index;
  class = is.class;
  is_init = is.is_init;
  init = is.init;
  has_constant_is = is.has_constant_is;
  given = is.given;
  begins = begins_same at place at.body.code ∙ is.begins;
  narrowing = is.narrowing;
  whats = is.whats;
}
