-- The classes of throwables that rows name.
use Rattle.std.proofs.Common.{◌≡◌, ℕ, zero, suc, Bool, true, false, ◌||◌, List, [], ◌∷◌, Option, Some, None, cond, refl, sym, ap, ap₂, ◌∙◌, find}
use Rattle.std.specs.List.{slice_get, list_any}
use Rattle.std.specs.Str.{bytes_eq}
use Rattle.std.proofs.lemmas.Slice.Eq.{bytes_eq-Decides}
use Rattle.jc_programs.specs.declared.run_end.Thrown.{Thrown}
use Rattle.jc_programs.specs.declared.run_end.Thrown.TheVariants.{Throwable, Exception, Error, RuntimeException, ArithmeticException, IllegalArgumentException, IllegalStateException, NullPointerException, NegativeArraySizeException, ArrayStoreException, IndexOutOfBoundsException, ArrayIndexOutOfBoundsException, VirtualMachineError, StackOverflowError, OutOfMemoryError}
use Rattle.jc_programs.specs.Throwables.{name_of, throwables, thrown_named, superclass, upward, line_of, is_named_in}

module _ {X : Type 0} (p : X → Bool) where
  passes : (b : Bool) (x y : X) (rest : Option X) → p y ≡ b → cond b (Some y) rest ≡ Some x → (rest ≡ Some x → p x ≡ true) → p x ≡ true
  passes true x y rest q g more = let same : y ≡ x = cc in ap p (sym same) ∙ q
  passes false x y rest q g more = more g

  found_passes : (xs : List X) (x : X) → find p xs ≡ Some x → p x ≡ true
  found_passes [] x e = absurd (cc)
  found_passes (y ∷ xs) x e = passes (p y) x y (find p xs) refl e (found_passes xs x)

  fails : (b : Bool) (y : X) (rest : Option X) → p y ≡ b → cond b (Some y) rest ≡ None → (p y ≡ false) × (rest ≡ None)
  fails true y rest q g = absurd (cc)
  fails false y rest q g = (q, g)

  none_passes : (xs : List X) (i : ℕ) (x : X) → find p xs ≡ None → slice_get xs i ≡ Some x → p x ≡ false
  none_passes [] i x e at = absurd (cc)
  none_passes (y ∷ xs) zero x e at = let same : y ≡ x = cc in ap p (sym same) ∙ (fails (p y) y (find p xs) refl e).0
  none_passes (y ∷ xs) (suc i) x e at = none_passes xs i x (fails (p y) y (find p xs) refl e).1 at

  none_any : (xs : List X) → ((x : X) → p x ≡ false) → list_any p xs ≡ false
  none_any [] each = refl
  none_any (x ∷ xs) each = ap₂ (λ a b. a || b) (each x) (none_any xs each)

-- the place of the class among all
place : Thrown → ℕ
place Throwable = 0
place Exception = 1
place Error = 2
place RuntimeException = 3
place ArithmeticException = 4
place IllegalArgumentException = 5
place IllegalStateException = 6
place NullPointerException = 7
place NegativeArraySizeException = 8
place ArrayStoreException = 9
place IndexOutOfBoundsException = 10
place ArrayIndexOutOfBoundsException = 11
place VirtualMachineError = 12
place StackOverflowError = 13
place OutOfMemoryError = 14

stands : (d : Thrown) → slice_get throwables (place d) ≡ Some d
unfolding place
stands Throwable = refl
stands Exception = refl
stands Error = refl
stands RuntimeException = refl
stands ArithmeticException = refl
stands IllegalArgumentException = refl
stands IllegalStateException = refl
stands NullPointerException = refl
stands NegativeArraySizeException = refl
stands ArrayStoreException = refl
stands IndexOutOfBoundsException = refl
stands ArrayIndexOutOfBoundsException = refl
stands VirtualMachineError = refl
stands StackOverflowError = refl
stands OutOfMemoryError = refl

-- the class with the name is caught where the name is
pub named_caught : (name : List ℕ) (d : Thrown) → thrown_named name ≡ Some d → (c : Thrown) → is_named_in c (name_of d) ≡ is_named_in c name
named_caught name d e c =
    ap (is_named_in c) ((bytes_eq-Decides (name_of d) name).0 (found_passes (λ (x : Thrown). bytes_eq (name_of x) name) throwables d e))

-- no class is caught where no class has the name
pub unnamed_caught : (name : List ℕ) → thrown_named name ≡ None → (c : Thrown) → is_named_in c name ≡ false
unnamed_caught name e c =
    none_any (λ (x : Thrown). bytes_eq (name_of x) name) (line_of c)
    (λ d. none_passes (λ (x : Thrown). bytes_eq (name_of x) name) throwables (place d) d e (stands d))

-- one of so many classes of the line is the other one
abbrev pub named_above : ℕ → Option Thrown → Thrown → Bool
named_above n line other = list_any (λ (d : Thrown). bytes_eq (name_of d) (name_of other)) (upward n line)

named_back : (d : Thrown) → thrown_named (name_of d) ≡ Some d
named_back Throwable = refl
named_back Exception = refl
named_back Error = refl
named_back RuntimeException = refl
named_back ArithmeticException = refl
named_back IllegalArgumentException = refl
named_back IllegalStateException = refl
named_back NullPointerException = refl
named_back NegativeArraySizeException = refl
named_back ArrayStoreException = refl
named_back IndexOutOfBoundsException = refl
named_back ArrayIndexOutOfBoundsException = refl
named_back VirtualMachineError = refl
named_back StackOverflowError = refl
named_back OutOfMemoryError = refl

same_name : (c d : Thrown) → bytes_eq (name_of c) (name_of d) ≡ true → c ≡ d
same_name c d e =
    let names : name_of c ≡ name_of d = (bytes_eq-Decides (name_of c) (name_of d)).0 e in
    let found : Some c ≡ Some d = sym (named_back c) ∙ ap thrown_named names ∙ named_back d in cc

pub above_same : (n left : ℕ) (line : Option Thrown) (c other : Thrown) → left ≡ suc n → line ≡ Some c → c ≡ other → named_above left line other ≡ true
above_same n left line c other e g same =
    ap (λ k. named_above k line other) e ∙ ap (λ l. named_above (suc n) l other) g
    ∙ ap (λ b. b || named_above n (superclass c) other) ((bytes_eq-Decides (name_of c) (name_of other)).1 (ap name_of same))

pub above_other : (n left : ℕ) (line : Option Thrown) (c other : Thrown) → left ≡ suc n → line ≡ Some c → (c ≡ other → ⊥) → named_above left line other ≡ named_above n (superclass c) other
above_other n left line c other e g differ =
    ap (λ k. named_above k line other) e ∙ ap (λ l. named_above (suc n) l other) g
    ∙ ap (λ b. b || named_above n (superclass c) other) (by (bytes_eq (name_of c) (name_of other)) refl)
  where
    by : (b : Bool) → bytes_eq (name_of c) (name_of other) ≡ b → bytes_eq (name_of c) (name_of other) ≡ false
    by false q = q
    by true q = absurd (differ (same_name c other q))
