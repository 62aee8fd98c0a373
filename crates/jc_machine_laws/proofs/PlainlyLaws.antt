-- Plain bodies and any reference: a typing that holds along the relation of the kind check, by which each program flows.
use Rattle.std.proofs.Common.{◌≡◌, inl, inr, ℕ, true, not, List, [], ◌∷◌, Option, Some, None, refl, sym, subst}
use Rattle.std.proofs.lemmas.Bool.{and_parts, false≢true}
use Rattle.jc_bytes.specs.Descriptor.{FieldType, Byte, Char, Double, Float, Int, Long, Short, Boolean, Object, Array}
use Rattle.jc_bytes.proofs.OptionLaws.{none_some}
use Rattle.jc_methods.specs.declared.body.Body.{Body}
use Rattle.jc_methods.specs.EntryState.{held_of, entry_of}
use Rattle.jc_methods.specs.VerificationTypes.{VerificationType, TypeState}
use Rattle.jc_methods.specs.VerificationTypes as verification
use Rattle.jc_programs.specs.declared.program.Program.{Program}
use Rattle.jc_programs.specs.declared.run_end.Thrown.{Thrown}
use Rattle.jc_kinds_after.specs.Wants.{is_anything, is_int, is_float, is_long, is_double, is_reference, accepts}
use Rattle.jc_kinds_after.specs.After.{want_of}
use Rattle.jc_kinds.specs.Fits.{IsObject, Fits, FitEach, FitsThere}
use Rattle.jc_kinds.specs.States.{state_of, after_at}
use Rattle.jc_kinds.specs.Checked.{at_handler}
use Rattle.jc_machine_model.specs.Methods.{is_plain, is_synchronized}
use Rattle.jc_machine_model.specs.Programs.{IsProgram, IsLinked, IsProgramBody}
use Rattle.jc_machine_model.specs.Values.{Value, object, memory_error}
use Rattle.jc_machine_model.specs.Heap.{HeapObject}
use Rattle.jc_machine_model.specs.Objects.{thrown_of}
use Rattle.jc_machine_model.specs.Fits.{IsReference, IsOfBy, any_reference, plainly}
use Rattle.jc_machine_model.proofs.BeginLaws.{all_at}
use Rattle.jc_kinds.specs.Flows.{EachBy, ThereBy, FlowsBy}
use Rattle.jc_machine_laws.specs.Typings.{IsHolding, IsFlowing}
use Rattle.jc_machine_laws.proofs.TypedLaws.{HoldingTyping}

-- ---- any reference

-- a type of references takes any reference
any_is : (v : Value) (k : VerificationType) → is_anything k ≡ true → IsReference v → IsOfBy any_reference v k
any_is v verification.null a r = r
any_is v verification.uninit_this a r = r
any_is v (verification.object name) a r = r
any_is v (verification.uninit at) a r = r
any_is v k a r = absurd (false≢true a)

object_is : (v : Value) (k : VerificationType) → IsObject k → IsReference v → IsOfBy any_reference v k
object_is v (verification.object name) o r = r
object_is v k o r = absurd o

on : (v : Value) (h k : VerificationType) → is_anything h ≡ true → IsReference v → Fits h k → IsOfBy any_reference v k
on v h k a r (inl e) = subst (λ x. IsOfBy any_reference v x) (sym e) tt
on v h k a r (inr (inl e)) = any_is v k (subst (λ x. is_anything x ≡ true) e a) r
on v h k a r (inr (inr p)) = object_is v k p.1 r

-- what is thrown is a reference
thrown_refers : (heap : List HeapObject) (v : Value) (c : Thrown) → thrown_of heap v ≡ Some c → IsReference v
thrown_refers heap (object k) c e = refl
thrown_refers heap memory_error c e = refl
thrown_refers heap v c e = absurd (none_some e)

pub any_holds : IsHolding plainly Fits
any_holds = record {
  reference = λ heap made v h p. p;
  on = λ heap made v h k a p s. on v h k a p s;
  anywhere = λ heap made others type v p. p;
  grows = λ heap more made v h g p. p;
  built = λ heap made v at p. p;
  built_this = λ heap made v name p. p;
  null_is = λ heap made. refl;
  null_held = λ heap made name. refl;
  stream = λ heap made. refl;
  of_text = λ heap made class. refl;
  of_probes = λ heap made class count. refl;
  of_constant = λ heap made class count. refl;
  new_array = λ heap made code element elements e. refl;
  new_throwable = λ heap made at c e. refl;
  caught_is = λ heap made b row c v e q. thrown_refers heap v c e;
}

abbrev pub plain : HoldingTyping
plain = record { typing = plainly; passes = Fits; holding = any_holds }

-- ---- bodies that pass the kind check

each_fits : (x y : List VerificationType) → FitEach x y → EachBy Fits x y
each_fits [] [] f = tt
each_fits [] (k ∷ y) f = absurd f
each_fits (h ∷ x) [] f = absurd f
each_fits (h ∷ x) (k ∷ y) f = (f.0, each_fits x y f.1)

there_fits : (s t : Option TypeState) → FitsThere s t → ThereBy Fits s t
there_fits (Some s) (Some t) f = record { locals = each_fits s.locals t.locals f.locals; stack = each_fits s.stack t.stack f.stack }
there_fits (Some s) None f = absurd f
there_fits None t f = absurd f

-- a type of the kind of a descriptor's type fits it
int_fits : (h : VerificationType) → is_int h ≡ true → Fits h verification.int
int_fits verification.int a = inr (inl refl)
int_fits h a = absurd (false≢true a)

float_fits : (h : VerificationType) → is_float h ≡ true → Fits h verification.float
float_fits verification.float a = inr (inl refl)
float_fits h a = absurd (false≢true a)

long_fits : (h : VerificationType) → is_long h ≡ true → Fits h verification.long
long_fits verification.long a = inr (inl refl)
long_fits h a = absurd (false≢true a)

double_fits : (h : VerificationType) → is_double h ≡ true → Fits h verification.double
double_fits verification.double a = inr (inl refl)
double_fits h a = absurd (false≢true a)

reference_fits : (h : VerificationType) (name : List ℕ) → is_reference h ≡ true → Fits h (verification.object name)
reference_fits verification.null name a = inr (inr (tt, tt))
reference_fits (verification.object other) name a = inr (inr (tt, tt))
reference_fits h name a = absurd (false≢true a)

pub accepted_fits : (type : FieldType) (h : VerificationType) → accepts (want_of type) h ≡ true → Fits h (held_of type)
accepted_fits Byte h a = int_fits h a
accepted_fits Char h a = int_fits h a
accepted_fits Int h a = int_fits h a
accepted_fits Short h a = int_fits h a
accepted_fits Boolean h a = int_fits h a
accepted_fits Float h a = float_fits h a
accepted_fits Double h a = double_fits h a
accepted_fits Long h a = long_fits h a
accepted_fits (Object name) h a = reference_fits h name a
accepted_fits (Array component) h a = reference_fits h _ a

body_flows : (program : Program) (b : Body) → IsProgramBody program.names b → FlowsBy Fits program.names b
body_flows program b w = record {
  entry = there_fits (Some (entry_of b)) (state_of program.names b 0) w.checked.entry;
  branches = λ i j l. there_fits (after_at program.names b i) (state_of program.names b j) (w.checked.branches i j l);
  handlers = λ h i g n. there_fits (at_handler b h (state_of program.names b i)) (state_of program.names b h.target) (w.checked.handlers h i g n);
}

pub plainly_flows : (program : Program) → IsProgram program → IsFlowing plainly Fits program
plainly_flows program p = record {
  fits = λ h k f. f;
  plain = λ c b e. e;
  enterable = λ c b e. (and_parts (is_plain c b) (not (is_synchronized b)) e).0;
  flows = λ method c b of e. body_flows program b
      (all_at (IsProgramBody program.names) c.bodies method.method b
      (all_at (IsLinked program.names) program.classes method.class c p.classes of.class_is).bodies of.body_is);
  operands = λ method c b i s of e g j type h q r a. accepted_fits type h a;
}
