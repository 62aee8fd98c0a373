-- The throwables that names name.
use Rattle.std.proofs.Common.{◌≡◌, ℕ, Bool, true, false, ◌||◌, List, [], ◌∷◌, Option, Some, None, find, cond, codes, refl, sym, ◌∙◌, ap, subst}
use Rattle.std.specs.List.{list_any}
use Rattle.std.specs.Str.{bytes_eq}
use Rattle.std.proofs.lemmas.Slice.Eq.{bytes_eq-Decides}
use Rattle.jc_programs.specs.declared.run_end.Thrown.{Thrown}
use Rattle.jc_programs.specs.declared.run_end.Thrown.TheVariants as thrown
use Rattle.jc_machine_model.specs.Operations.{makes}
use Rattle.jc_machine_model.specs.Profile.{made_class, make_operation}
use Rattle.jc_machine_code.specs.declared.operation.Operation.{Operation as ShownOperation}
use Rattle.jc_machine_code.specs.declared.operation.Operation.TheVariants as shown
use Rattle.jc_machine_code.specs.Shown.{Shows}
use Rattle.jc_programs.specs.Throwables.{name_of, throwables, thrown_named, line_of, is_named_in}

pub same_bytes : (x : List ℕ) → bytes_eq x x ≡ true
same_bytes x = (bytes_eq-Decides x x).1 refl

pub bytes_are : (x y : List ℕ) → bytes_eq x y ≡ true → x ≡ y
bytes_are x y e = (bytes_eq-Decides x y).0 e

pub named_back : (c : Thrown) → thrown_named (name_of c) ≡ Some c
named_back thrown.Throwable = refl
named_back thrown.Exception = refl
named_back thrown.Error = refl
named_back thrown.RuntimeException = refl
named_back thrown.ArithmeticException = refl
named_back thrown.IllegalArgumentException = refl
named_back thrown.IllegalStateException = refl
named_back thrown.NullPointerException = refl
named_back thrown.NegativeArraySizeException = refl
named_back thrown.ArrayStoreException = refl
named_back thrown.IndexOutOfBoundsException = refl
named_back thrown.ArrayIndexOutOfBoundsException = refl
named_back thrown.VirtualMachineError = refl
named_back thrown.StackOverflowError = refl
named_back thrown.OutOfMemoryError = refl

-- ---- the class that a name names

found_passes : {X : Type 0} (p : X → Bool) (xs : List X) (x : X) → find p xs ≡ Some x → p x ≡ true
found_passes p [] x e = absurd cc
found_passes {X} p (y ∷ xs) x e = by (p y) refl e (found_passes p xs x)
  where
    by : (b : Bool) → p y ≡ b → cond b (Some y) (find p xs) ≡ Some x → (find p xs ≡ Some x → p x ≡ true) → p x ≡ true
    by true q g more = let same : y ≡ x = cc in ap p (sym same) ∙ q
    by false q g more = more g

pub named_is : (name : List ℕ) (c : Thrown) → thrown_named name ≡ Some c → name_of c ≡ name
named_is name c e = bytes_are (name_of c) name (found_passes (λ (x : Thrown). bytes_eq (name_of x) name) throwables c e)

-- ---- no class has a name that names none

any_named : (classes : List Thrown) (name : List ℕ) → thrown_named name ≡ None → list_any (λ (d : Thrown). bytes_eq (name_of d) name) classes ≡ false
any_named [] name e = refl
any_named (c ∷ classes) name e = by (bytes_eq (name_of c) name) refl (any_named classes name e)
  where
    by : (b : Bool) → bytes_eq (name_of c) name ≡ b → list_any (λ (d : Thrown). bytes_eq (name_of d) name) classes ≡ false
        → (b || list_any (λ (d : Thrown). bytes_eq (name_of d) name) classes) ≡ false
    by true q more = let there : Some c ≡ None = sym (named_back c) ∙ ap thrown_named (bytes_are (name_of c) name q) ∙ e in absurd cc
    by false q more = more

pub unnamed_above : (name : List ℕ) (c : Thrown) → thrown_named name ≡ None → is_named_in c name ≡ false
unnamed_above name c e = any_named (line_of c) name e

-- ---- a class of which there are objects

pub made_named : (name : List ℕ) (c : Thrown) → made_class name ≡ Some c → thrown_named name ≡ Some c
made_named name c e = by (thrown_named name) e
  where
    by : (o : Option Thrown) → elim o [ Some thrown.VirtualMachineError ↦ None | other ↦ other ] ≡ Some c → o ≡ Some c
    by None e = e
    by (Some thrown.VirtualMachineError) e = absurd cc
    by (Some d) e = e

-- what `new` of the name makes
pub makes_named : (name : List ℕ) (c : Thrown) → make_operation (made_class name) ≡ makes c → Some c ≡ thrown_named name
makes_named name c e = by (made_class name) refl e
  where
    by : (o : Option Thrown) → made_class name ≡ o → make_operation o ≡ makes c → Some c ≡ thrown_named name
    by None q g = absurd cc
    by (Some d) q g = let same : d ≡ c = cc in sym (made_named name d q ∙ ap Some same)

-- the name of the abstract one
pub abstract_named : (name : List ℕ) → bytes_eq name (codes "java/lang/VirtualMachineError") ≡ true → Some thrown.VirtualMachineError ≡ thrown_named name
abstract_named name e = sym (ap thrown_named (bytes_are name (codes "java/lang/VirtualMachineError") e) ∙ named_back thrown.VirtualMachineError)

-- only `new` of a class makes objects of it
pub is_made : (o : ShownOperation) (d : Thrown) → Shows o (makes d) → o ≡ shown.Makes d
is_made (shown.Makes d) c e = cc
is_made shown.Indexes c e = absurd (let f = e.3 in cc)
is_made shown.Matches c e = absurd (let f = e.2 in cc)
is_made (shown.Gets class field) c e = absurd (let f = e.1 in cc)
is_made (shown.Puts class field kind narrowing) c e = absurd (let f = e.1 in cc)
is_made (shown.Invokes callee) c e = absurd (let f = e.2 in cc)
is_made (shown.Returns kind narrowing) c e = absurd (let f = e.1 in cc)
is_made o c e = absurd cc

-- where it makes nothing, and the name is none of an abstract class, the name is none of a throwable's
pub none_named : (name : List ℕ) (r : ShownOperation) → Shows r (make_operation (made_class name)) → ((c : Thrown) → r ≡ shown.Makes c → ⊥)
    → bytes_eq name (codes "java/lang/VirtualMachineError") ≡ false → None ≡ thrown_named name
none_named name r shows other plain = by (thrown_named name) refl
  where
    found : (c : Thrown) → thrown_named name ≡ Some c → made_class name ≡ Some c → ⊥
    found c e m = other c (is_made r c (subst (λ (o : Option Thrown). Shows r (make_operation o)) m shows))

    abstract : thrown_named name ≡ Some thrown.VirtualMachineError → ⊥
    abstract e = let clash : false ≡ true = sym plain ∙ sym (ap (λ (n : List ℕ). bytes_eq n (codes "java/lang/VirtualMachineError")) (named_is name thrown.VirtualMachineError e)) in cc

    by : (o : Option Thrown) → thrown_named name ≡ o → None ≡ o
    by None e = refl
    by (Some thrown.VirtualMachineError) e = absurd (abstract e)
    by (Some c) e = absurd (found c e (ap (λ (o : Option Thrown). elim o [ Some thrown.VirtualMachineError ↦ None | other ↦ other ]) e))

pub flipped : (x y : List ℕ) → bytes_eq x y ≡ bytes_eq y x
flipped x y = by (bytes_eq x y) (bytes_eq y x) refl refl
  where
    by : (a b : Bool) → bytes_eq x y ≡ a → bytes_eq y x ≡ b → a ≡ b
    by true true p q = refl
    by false false p q = refl
    by true false p q = sym (same_bytes y) ∙ ap (bytes_eq y) (sym (bytes_are x y p)) ∙ q
    by false true p q = sym p ∙ ap (bytes_eq x) (bytes_are y x q) ∙ same_bytes x
