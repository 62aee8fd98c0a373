-- References stay of a class that suits the type of their place.
use Rattle.std.proofs.Common.{◌≡◌, inl, inr, ⊎_elim, ℕ, Bool, true, false, cond, List, [], ◌∷◌, ◌++◌, length, Option, Some, None, codes, nat_eq, refl, sym, ◌∙◌, ap, subst, is_some}
use Rattle.std.proofs.lemmas.Bool.{eqb-true, false≢true}
use Rattle.std.proofs.lemmas.Option.{same_Some}
use Rattle.std.specs.Prelude.{slice_get, option_and_then, IsTrue}
use Rattle.jc_bytes.specs.Descriptor.{FieldType, Byte, Char, Int, Long, Short, Boolean, Object, Array, field_text}
use Rattle.jc_bytes.proofs.OptionLaws.{none_some}
use Rattle.jc_methods.specs.EntryState.{held_of}
use Rattle.jc_methods.specs.declared.body.Body.{Body}
use Rattle.jc_methods.specs.declared.body.Handler.{Handler}
use Rattle.jc_methods.specs.WellMade.{what_used}
use Rattle.jc_methods.specs.ProbeMembers.{data_type}
use Rattle.jc_methods.specs.VerificationTypes.{VerificationType}
use Rattle.jc_methods.specs.VerificationTypes as verification
use Rattle.jc_programs.specs.declared.run_end.Thrown.{Thrown}
use Rattle.jc_programs.specs.declared.run_end.Thrown.TheVariants as thrown
use Rattle.jc_programs.specs.Throwables.{name_of, is_named_in}
use Rattle.jc_kinds_after.specs.After.{class_in, element_letter}
use Rattle.jc_kinds_after.specs.Wants.{is_anything}
use Rattle.jc_kinds.specs.Checked.{caught}
use Rattle.jc_machine_model.specs.Values.{Value, int, long, null, object, memory_error}
use Rattle.jc_machine_model.specs.Heap.{HeapObject, array, throwable}
use Rattle.jc_machine_model.specs.Objects.{thrown_of, heap_object_thrown}
use Rattle.jc_machine_model.specs.Operations.{Operation, makes_array, outside}
use Rattle.jc_machine_model.specs.Profile.{array_operation, made_class}
use Rattle.jc_machine_model.specs.Step.{catches}
use Rattle.jc_machine_model.specs.Fits.{IsReference, IsOfBy}
use Rattle.jc_machine_laws.specs.Typings.{IsOfSameClass, KeepsObjects, IsHolding}
use Rattle.jc_refs_check.specs.Needs.{is_throwable}
use Rattle.jc_refs_check.specs.Suits.{object_class, class_suits, suits, Passes}
use Rattle.jc_refs_check.specs.Wrong.{class_of_object, class_of}
use Rattle.jc_refs_check.proofs.ThrownLaws.{bytes_are, named_is, made_named}
use Rattle.jc_refs_check.proofs.KnownLaws.{class_itself}
use Rattle.jc_refs_laws.specs.Classes.{IsFresh, IsOfClass, HoldsClass, by_class}
use Rattle.jc_refs_laws.proofs.ClassLaws.{object_suits, suits_on, line_suits, each_throwable}

-- ---- the class of a value

refers : (heap : List HeapObject) (v : Value) (name : List ℕ) → class_of heap v ≡ Some name → IsReference v
refers heap (int x) name e = absurd (none_some e)
refers heap (long x) name e = absurd (none_some e)
refers heap v name e = refl

null_refers : (v : Value) → v ≡ null → IsReference v
null_refers v e = subst IsReference (sym e) refl

reference : (heap : List HeapObject) (made : ℕ → List ℕ) (v : Value) (h : VerificationType) → HoldsClass heap made v h → IsReference v
reference heap made v verification.null p = null_refers v p
reference heap made v (verification.object name) p = ⊎_elim (null_refers v) (λ c. refers heap v c.class c.is) p
reference heap made v (verification.uninit at) p = refers heap v (made at) p.is
reference heap made v h p = absurd p

-- ---- objects that stay

thrown_class : (heap : List HeapObject) (v : Value) (c : Thrown) → thrown_of heap v ≡ Some c → class_of heap v ≡ Some (name_of c)
thrown_class heap (object k) c e = by (slice_get heap k) e
  where
    by : (o : Option HeapObject) → heap_object_thrown o ≡ Some c → option_and_then (λ x. Some (class_of_object x)) o ≡ Some (name_of c)
    by (Some (throwable d)) q = ap (λ x. Some (name_of x)) (same_Some d c q)
    by o q = absurd (none_some q)
thrown_class heap memory_error c e = ap (λ x. Some (name_of x)) (same_Some thrown.OutOfMemoryError c e)
thrown_class heap v c e = absurd (none_some e)

same_class : (x y : HeapObject) → IsOfSameClass x y → class_of_object y ≡ class_of_object x
same_class (array a elements) (array b others) e = ap (λ t. field_text (Array t)) (sym e)
same_class (throwable c) (throwable d) e = ap name_of (sym e)
same_class x y e = absurd e

stays : (heap more : List HeapObject) (v : Value) (name : List ℕ) → KeepsObjects heap more → class_of heap v ≡ Some name → class_of more v ≡ Some name
stays heap more (object k) name g e = by (slice_get heap k) refl e
  where
    by : (o : Option HeapObject) → slice_get heap k ≡ o → option_and_then (λ x. Some (class_of_object x)) o ≡ Some name
        → option_and_then (λ x. Some (class_of_object x)) (slice_get more k) ≡ Some name
    by None q r = absurd (none_some r)
    by (Some x) q r = let y = g k x q in ap (option_and_then (λ x. Some (class_of_object x))) y.1 ∙ ap (λ n. Some n) (same_class x y.0 y.2) ∙ r
stays heap more v name g e = e

class_stays : (heap more : List HeapObject) (v : Value) (name : List ℕ) → KeepsObjects heap more → IsOfClass heap v name → IsOfClass more v name
class_stays heap more v name g c = record { class = c.class; is = stays heap more v c.class g c.is; suits = c.suits }

grows : (heap more : List HeapObject) (made : ℕ → List ℕ) (v : Value) (h : VerificationType) → KeepsObjects heap more → HoldsClass heap made v h
    → HoldsClass more made v h
grows heap more made v verification.null g p = p
grows heap more made v (verification.object name) g p = ⊎_elim (λ e. inl e) (λ c. inr (class_stays heap more v name g c)) p
grows heap more made v (verification.uninit at) g p = record { is = stays heap more v (made at) g p.is; thrown = p.thrown }
grows heap more made v h g p = absurd p

last_is : (heap : List HeapObject) (x : HeapObject) → slice_get (heap ++ x ∷ []) (length heap) ≡ Some x
last_is [] x = refl
last_is (y ∷ heap) x = last_is heap x

new_class_is : (heap : List HeapObject) (x : HeapObject) → class_of (heap ++ x ∷ []) (object (length heap)) ≡ Some (class_of_object x)
new_class_is heap x = ap (option_and_then (λ y. Some (class_of_object y))) (last_is heap x)

-- ---- a reference goes where its type does

on_object : (heap : List HeapObject) (made : ℕ → List ℕ) (v : Value) (name : List ℕ) (k : VerificationType) → HoldsClass heap made v (verification.object name)
    → suits (verification.object name) k ≡ true → IsOfBy (HoldsClass heap made) v k
on_object heap made v name verification.top p s = tt
on_object heap made v name (verification.object other) p s =
    ⊎_elim (λ e. inl e) (λ c. inr (record { class = c.class; is = c.is; suits = suits_on c.class name other c.suits s })) p
on_object heap made v name k p s = absurd (false≢true s)

on_null : (heap : List HeapObject) (made : ℕ → List ℕ) (v : Value) (k : VerificationType) → v ≡ null → suits verification.null k ≡ true
    → IsOfBy (HoldsClass heap made) v k
on_null heap made v verification.top p s = tt
on_null heap made v verification.null p s = p
on_null heap made v (verification.object other) p s = inl p
on_null heap made v k p s = absurd (false≢true s)

on_uninit : (heap : List HeapObject) (made : ℕ → List ℕ) (v : Value) (at : ℕ) (k : VerificationType) → IsFresh heap v (made at)
    → suits (verification.uninit at) k ≡ true → IsOfBy (HoldsClass heap made) v k
on_uninit heap made v at verification.top p s = tt
on_uninit heap made v at (verification.uninit other) p s = subst (λ x. IsFresh heap v (made x)) (eqb-true at other s) p
on_uninit heap made v at (verification.object other) p s =
    inr (record { class = made at; is = p.is; suits = object_suits (made at) other (bytes_are other object_class s) })
on_uninit heap made v at k p s = absurd (false≢true s)

on : (heap : List HeapObject) (made : ℕ → List ℕ) (v : Value) (h k : VerificationType) → is_anything h ≡ true → HoldsClass heap made v h → Passes h k
    → IsOfBy (HoldsClass heap made) v k
on heap made v verification.null k a p s = on_null heap made v k p (s.suits a)
on heap made v (verification.object name) k a p s = on_object heap made v name k p (s.suits a)
on heap made v (verification.uninit at) k a p s = on_uninit heap made v at k p (s.suits a)
on heap made v h k a p s = absurd p

-- ---- what is made

anywhere : (heap : List HeapObject) (made others : ℕ → List ℕ) (type : FieldType) (v : Value) → HoldsClass heap made v (held_of type)
    → HoldsClass heap others v (held_of type)
anywhere heap made others (Object name) v p = p
anywhere heap made others (Array component) v p = p
anywhere heap made others type v p = absurd p

array_name : (code : ℕ) (element : FieldType) → array_operation code ≡ makes_array element → field_text (Array element) ≡ 91 ∷ element_letter code ∷ []
array_name code element e =
    one 4 Boolean _ refl (one 5 Char _ refl (one 8 Byte _ refl (one 9 Short _ refl (one 10 Int _ refl (one 11 Long outside refl (λ q. absurd (stuck q))))))) e
  where
    element_is : (x : FieldType) → makes_array x ≡ makes_array element → x ≡ element
    element_is x q = cc

    stuck : outside ≡ makes_array element → ⊥
    stuck q = cc

    one : (n : ℕ) (x : FieldType) (rest : Operation) → field_text (Array x) ≡ 91 ∷ element_letter n ∷ []
        → (rest ≡ makes_array element → field_text (Array element) ≡ 91 ∷ element_letter code ∷ [])
        → cond (nat_eq code n) (makes_array x) rest ≡ makes_array element → field_text (Array element) ≡ 91 ∷ element_letter code ∷ []
    one n x rest r others = by (nat_eq code n) refl
      where
        by : (z : Bool) → nat_eq code n ≡ z → cond z (makes_array x) rest ≡ makes_array element → field_text (Array element) ≡ 91 ∷ element_letter code ∷ []
        by true q s = ap (λ t. field_text (Array t)) (sym (element_is x s)) ∙ r ∙ ap (λ m. 91 ∷ element_letter m ∷ []) (sym (eqb-true code n q))
        by false q s = others s

made_thrown : (name : List ℕ) (c : Thrown) → made_class name ≡ Some c → is_throwable name ≡ true
unfolding is_throwable
made_thrown name c e = ap is_some (made_named name c e)

caught_is : (heap : List HeapObject) (made : ℕ → List ℕ) (b : Body) (row : Handler) (c : Thrown) (v : Value) → thrown_of heap v ≡ Some c
    → IsTrue (catches b row c) → HoldsClass heap made v (caught b row)
caught_is heap made b row c v e q = by (nat_eq row.class 0) q
  where
    held : (name : List ℕ) → is_named_in c name ≡ true → HoldsClass heap made v (verification.object name)
    held name s = inr (record { class = name_of c; is = thrown_class heap v c e; suits = line_suits c name s })

    by : (z : Bool) → IsTrue (cond z true (is_named_in c (class_in (what_used b.uses row.class))))
        → HoldsClass heap made v (cond z (verification.object (codes "java/lang/Throwable")) (verification.object (class_in (what_used b.uses row.class))))
    by true s = held (codes "java/lang/Throwable") (each_throwable c)
    by false s = held (class_in (what_used b.uses row.class)) s

pub holding : IsHolding by_class Passes
holding = record {
  reference = reference;
  on = on;
  anywhere = anywhere;
  grows = grows;
  built = λ heap made v at p. inr (record { class = made at; is = p.is; suits = class_itself (made at) });
  built_this = λ heap made v name p. absurd p;
  null_is = λ heap made. refl;
  null_held = λ heap made name. inl refl;
  stream = λ heap made. inr (record { class = codes "java/io/PrintStream"; is = refl; suits = class_itself (codes "java/io/PrintStream") });
  of_text = λ heap made class. inr (record { class = codes "java/lang/String"; is = refl; suits = class_itself (codes "java/lang/String") });
  of_probes = λ heap made class count. inr (record { class = data_type; is = refl; suits = class_itself data_type });
  of_constant = λ heap made class count. inr (record { class = data_type; is = refl; suits = object_suits data_type object_class refl });
  new_array = λ heap made code element elements e. inr (record {
    class = field_text (Array element);
    is = new_class_is heap (array element elements);
    suits = subst (λ x. class_suits (field_text (Array element)) x ≡ true) (array_name code element e) (class_itself (field_text (Array element)));
  });
  new_throwable = λ heap made at c e. record {
    is = new_class_is heap (throwable c) ∙ ap (λ n. Some n) (named_is (made at) c (made_named (made at) c e));
    thrown = made_thrown (made at) c e;
  };
  caught_is = caught_is;
}
