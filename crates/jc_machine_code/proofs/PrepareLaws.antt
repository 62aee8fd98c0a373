-- What a prepared program says of the program, and what the preparing of a program relies on.
use Rattle.std.proofs.Common.{◌≡◌, ℕ, ◌<◌, Bool, true, false, ◌&&◌, cond, zero, suc, List, [], ◌∷◌, length, map, get_or, Option, Some, None, MatchOption, find, nat_le, nat_lt, refl, sym, ap, ap₂, ◌∙◌, subst, arith}
use Rattle.std.specs.Prelude.{All, slice_index_or}
use Rattle.std.specs.Borrow.{Bor}
use Rattle.std.specs.List.{slice_get}
use Rattle.std.specs.Option.{option_map, option_and_then}
use Rattle.std.proofs.lemmas.Option.{slice_get-get_or, get_or_from_slice_get}
use Rattle.jc_methods.specs.WellMade.{IsWellMade}
use Rattle.jc_methods.specs.declared.insn.Insn.{Insn}
use Rattle.jc_methods.specs.declared.body.Body.{Body}
use Rattle.jc_methods.specs.declared.body.Handler.{Handler}
use Rattle.jc_programs.specs.declared.program.Program.{Program}
use Rattle.jc_programs.specs.declared.program.Linked.{Linked}
use Rattle.jc_programs.specs.declared.run_end.Entry.{Entry}
use Rattle.jc_programs.specs.declared.run_end.Thrown.{Thrown}
use Rattle.jc_programs.specs.Members.{body_of}
use Rattle.jc_machine_model.specs.Programs.{IsStatic, IsProgram, IsLinked}
use Rattle.jc_machine_model.specs.Begin.{first_value, first_statics}
use Rattle.jc_machine_model.specs.World.{Frame}
use Rattle.jc_machine_model.specs.Step.{located_in_body, located_in_class, located, handles, handler_in, handler_of}
use Rattle.jc_machine_model.proofs.BeginLaws.{all_at}
use Rattle.jc_machine_code.specs.declared.index.ProgramIndex.{ProgramIndex}
use Rattle.jc_machine_code.specs.declared.operation.Operation.TheVariants as shown
use Rattle.jc_machine_code.specs.declared.prepared.PreparedOperation.{PreparedOperation}
use Rattle.jc_machine_code.specs.declared.prepared.PreparedOperation.TheVariants as table
use Rattle.jc_machine_code.specs.declared.prepared.PreparedRow.{PreparedRow}
use Rattle.jc_machine_code.specs.declared.prepared.PreparedMethod.{PreparedMethod}
use Rattle.jc_machine_code.specs.declared.prepared.PreparedClass.{PreparedClass}
use Rattle.jc_machine_code.specs.declared.prepared.PreparedProgram.{PreparedProgram}
use Rattle.jc_machine_code.specs.Sites.{IsClassIndex, IsIndex, IsMade}
use Rattle.jc_machine_code.specs.Prepared.{Correspond, IsRow, row_handles, handling, prepared_at, Tells, TellsInsn, IsPreparedMethod, IsMethodOf, value_of, IsPreparedClass, IsPrepared}
use Rattle.jc_machine_code.proofs.CorrespondLaws.{made_of, made_none, same_map}

-- ---- the preparing

pub item_of : {X : Type 0} (P : X → Type 0) (xs ys : List X) (i : ℕ) (x : X) → xs ≡ ys → i < length xs → x ≡ get_or xs i x → All P ys → P x
item_of P xs ys i x same h is each = subst P (sym is) (subst (λ l. All P l) (sym same) each i x h)

pub all_made : (program : Program) (index : ProgramIndex) → IsProgram program → IsIndex program index → All IsMade index.classes
all_made program index good is k d h =
    let at : slice_get index.classes k ≡ Some (get_or index.classes k d) = slice_get-get_or index.classes k d h in
    let made = made_of IsClassIndex program.classes index.classes is.classes k (get_or index.classes k d) at in
    let linked : IsLinked program.names made.0 = all_at (IsLinked program.names) program.classes k made.0 good.classes made.1 in
    record {
      bodies = subst (λ (l : Linked). All IsWellMade l.bodies) (sym made.2.linked) (λ i b g. (linked.bodies i b g).well_made);
      statics = subst (λ (l : Linked). All IsStatic l.statics) (sym made.2.linked) linked.statics;
    }

-- ---- the methods

-- what a look at a prepared method sees
abbrev pub seen_method : Option (Bor PreparedMethod) → Option PreparedMethod
seen_method r = option_map (λ (m : Bor PreparedMethod). m.now) r

module _ (program : Program) (prepared : PreparedProgram) (method : Entry) (c : PreparedClass) (at : slice_get prepared.classes method.class ≡ Some c)
    (is : IsPrepared program prepared) where
  pub method_found : (r : Option (Bor PreparedMethod)) → seen_method r ≡ slice_get c.methods method.method
      → MatchOption r (body_of program method ≡ None) (λ m. IsMethodOf program method m.now)
  method_found None e =
      let k = made_of (IsPreparedClass program) program.classes prepared.classes is.classes method.class c at in
      ap (λ (o : Option Linked). option_and_then (λ (l : Linked). slice_get l.bodies method.method) o) k.1
      ∙ made_none (IsPreparedMethod program method.class k.0) k.0.bodies c.methods k.2.methods method.method (sym e)
  method_found (Some m) e =
      let k = made_of (IsPreparedClass program) program.classes prepared.classes is.classes method.class c at in
      let b = made_of (IsPreparedMethod program method.class k.0) k.0.bodies c.methods k.2.methods method.method m.now (sym e) in
      record { linked = k.0; class_is = k.1; body = b.0; body_is = b.1; prepared = b.2 }

-- the target of the first where it passes, or else of another
target_first : {X : Type 0} (f : X → ℕ) (passes : Bool) (x : X) (rest : Option X) → option_map f (cond passes (Some x) rest) ≡ cond passes (Some (f x)) (option_map f rest)
target_first f true x rest = refl
target_first f false x rest = refl

module _ (program : Program) (method : Entry) (m : PreparedMethod) (is : IsMethodOf program method m) where
  pub body_is : body_of program method ≡ Some is.body
  body_is = ap (λ (o : Option Linked). option_and_then (λ (l : Linked). slice_get l.bodies method.method) o) is.class_is ∙ is.body_is

  located_is : (place : ℕ) → located program method place ≡ located_in_body method.class is.linked place is.body (slice_get is.body.code place)
  located_is place =
      ap (λ (o : Option Linked). option_and_then (λ (l : Linked). located_in_class method.class place l (slice_get l.bodies method.method)) o) is.class_is
      ∙ ap (λ (o : Option Body). located_in_class method.class place is.linked o) is.body_is

  tells_insn : (place : ℕ) (o : Option PreparedOperation) → slice_get m.operations place ≡ o
      → Tells program (located_in_body method.class is.linked place is.body (slice_get is.body.code place)) (prepared_at m.operations place)
  tells_insn place None e =
      let none = made_none (TellsInsn program method.class is.linked is.body) is.body.code m.operations is.prepared.operations place e in
      subst (λ (x : Option Insn). Tells program (located_in_body method.class is.linked place is.body x) (prepared_at m.operations place)) (sym none)
      (subst (λ (x : PreparedOperation). Tells program None x) (sym (past m.operations place e)) (record { shows = refl; locked = refl }))
    where
      past : (xs : List PreparedOperation) (i : ℕ) → slice_get xs i ≡ None → slice_index_or xs i (table.Plain shown.Outside) ≡ table.Plain shown.Outside
      past [] i g = refl
      past (x ∷ xs) zero g = absurd (cc)
      past (x ∷ xs) (suc i) g = past xs i g
  tells_insn place (Some x) e =
      let insn = made_of (TellsInsn program method.class is.linked is.body) is.body.code m.operations is.prepared.operations place x e in
      subst (λ (o : Option Insn). Tells program (located_in_body method.class is.linked place is.body o) (prepared_at m.operations place)) (sym insn.1)
      (subst (λ (o : PreparedOperation). TellsInsn program method.class is.linked is.body place insn.0 o)
      (sym (get_or_from_slice_get m.operations place x (table.Plain shown.Outside) e)) insn.2)

  -- what stands at a place of the method tells of the instruction there
  pub tells_at : (place : ℕ) → Tells program (located program method place) (prepared_at m.operations place)
  tells_at place =
      subst (λ o. Tells program o (prepared_at m.operations place)) (sym (located_is place)) (tells_insn place (slice_get m.operations place) refl)

  handled : (place : ℕ) (c : Thrown) (handlers : List Handler) (rows : List PreparedRow) → Correspond (IsRow is.body) handlers rows
      → handling rows place c ≡ option_map (λ (row : Handler). row.target) (find (handles is.body place c) handlers)
  handled place c [] [] made = refl
  handled place c [] (r ∷ rows) made = absurd (let e = made.length_is in omega (arith, e))
  handled place c (h ∷ handlers) [] made = absurd (let e = made.length_is in omega (arith, e))
  handled place c (h ∷ handlers) (r ∷ rows) made =
      let row : IsRow is.body 0 h r = made.each 0 h r refl refl in
      let others : Correspond (IsRow is.body) handlers rows = record {
        length_is = let e = made.length_is in omega (arith, e);
        each = λ i u v e g. let w = made.each (suc i) u v e g in record { start = w.start; end = w.end; target = w.target; catches = w.catches };
      } in
      let test : row_handles place c r ≡ handles is.body place c h =
      ap₂ (λ x y. nat_le x place && y) row.start (ap₂ (λ x y. nat_lt place x && y) row.end (row.catches c)) in
      target_first (λ (row : PreparedRow). row.target) (row_handles place c r) r (find (row_handles place c) rows)
      ∙ ap (λ (o : Option ℕ). cond (row_handles place c r) (Some r.target) o) (handled place c handlers rows others)
      ∙ ap₂ (λ (t : Bool) (n : ℕ). cond t (Some n) (option_map (λ (row : Handler). row.target) (find (handles is.body place c) handlers))) test row.target
      ∙ sym (target_first (λ (row : Handler). row.target) (handles is.body place c h) h (find (handles is.body place c) handlers))

  -- the first row that handles the throwable
  pub handler_at : (place : ℕ) (c : Thrown) (frame : Frame) → frame.method ≡ method → frame.place ≡ place
      → handling m.rows place c ≡ option_map (λ (row : Handler). row.target) (handler_of program c frame)
  handler_at place c frame e g =
      handled place c is.body.handlers m.rows is.prepared.rows
      ∙ sym (
      ap (λ (o : Option Body). option_map (λ (row : Handler). row.target) (option_and_then (handler_in frame.place c) o)) (ap (body_of program) e ∙ body_is)
      ∙ ap (λ (p : ℕ). option_map (λ (row : Handler). row.target) (handler_in p c is.body)) g)

-- ---- the classes

pub classes_are : (program : Program) (prepared : PreparedProgram) → IsPrepared program prepared → length prepared.classes ≡ length program.classes
classes_are program prepared is = is.classes.length_is

-- the values with which the static fields begin
pub statics_are : (program : Program) (prepared : PreparedProgram) → IsPrepared program prepared
    → map (λ (c : PreparedClass). map value_of c.statics) prepared.classes ≡ first_statics program
statics_are program prepared is =
    same_map (λ (c : Linked). map first_value c.statics) (λ (c : PreparedClass). map value_of c.statics) program.classes prepared.classes (record {
      length_is = is.classes.length_is;
      each = λ i c p at made. (is.classes.each i c p at made).statics;
    })
