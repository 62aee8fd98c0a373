-- Which classes suit which.
use Rattle.std.proofs.Common.{◌≡◌, ◌⊎◌, inl, inr, ⊎_elim, ℕ, zero, suc, Bool, true, false, ◌||◌, List, [], ◌∷◌, codes, Option, Some, None, refl, sym, ◌∙◌, ap, subst, is_some}
use Rattle.std.proofs.lemmas.Bool.{false≢true}
use Rattle.std.proofs.lemmas.Option.{same_Some}
use Rattle.std.specs.List.{list_any}
use Rattle.std.specs.Str.{bytes_eq}
use Rattle.jc_bytes.proofs.OptionLaws.{none_some}
use Rattle.jc_programs.specs.declared.run_end.Thrown.{Thrown}
use Rattle.jc_programs.specs.declared.run_end.Thrown.TheVariants as thrown
use Rattle.jc_programs.specs.Throwables.{name_of, thrown_named, superclass, upward, line_of, is_named_in, Among}
use Rattle.jc_refs_check.specs.Needs.{is_throwable}
use Rattle.jc_refs_check.specs.Suits.{object_class, is_throwable_below, class_suits}
use Rattle.jc_refs_check.proofs.ThrownLaws.{same_bytes, bytes_are, named_back}

pub or_last : (a b : Bool) → b ≡ true → (a || b) ≡ true
or_last true b e = refl
or_last false b e = e

pub three : (x y z : Bool) → (x || (y || z)) ≡ true → (x ≡ true) ⊎ ((y ≡ true) ⊎ (z ≡ true))
three true y z e = inl refl
three false true z e = inr (inl refl)
three false false z e = inr (inr e)

-- ---- what a superclass's line has, a class's has

module _ (test : Thrown → Bool) where
  from_above : (m d : Thrown) → Some m ≡ Some d → list_any test (line_of d) ≡ true → list_any test (line_of m) ≡ true
  from_above m d e h = subst (λ x. list_any test (line_of x) ≡ true) (sym (same_Some m d e)) h

  line_above : (c d : Thrown) → superclass c ≡ Some d → list_any test (line_of d) ≡ true → list_any test (line_of c) ≡ true
  line_above thrown.Throwable d e h = absurd (none_some e)
  line_above thrown.Exception d e h = or_last (test thrown.Exception) _ (from_above thrown.Throwable d e h)
  line_above thrown.Error d e h = or_last (test thrown.Error) _ (from_above thrown.Throwable d e h)
  line_above thrown.RuntimeException d e h = or_last (test thrown.RuntimeException) _ (from_above thrown.Exception d e h)
  line_above thrown.ArithmeticException d e h = or_last (test thrown.ArithmeticException) _ (from_above thrown.RuntimeException d e h)
  line_above thrown.IllegalArgumentException d e h = or_last (test thrown.IllegalArgumentException) _ (from_above thrown.RuntimeException d e h)
  line_above thrown.IllegalStateException d e h = or_last (test thrown.IllegalStateException) _ (from_above thrown.RuntimeException d e h)
  line_above thrown.NullPointerException d e h = or_last (test thrown.NullPointerException) _ (from_above thrown.RuntimeException d e h)
  line_above thrown.NegativeArraySizeException d e h = or_last (test thrown.NegativeArraySizeException) _ (from_above thrown.RuntimeException d e h)
  line_above thrown.ArrayStoreException d e h = or_last (test thrown.ArrayStoreException) _ (from_above thrown.RuntimeException d e h)
  line_above thrown.IndexOutOfBoundsException d e h = or_last (test thrown.IndexOutOfBoundsException) _ (from_above thrown.RuntimeException d e h)
  line_above thrown.ArrayIndexOutOfBoundsException d e h =
      or_last (test thrown.ArrayIndexOutOfBoundsException) _ (from_above thrown.IndexOutOfBoundsException d e h)
  line_above thrown.VirtualMachineError d e h = or_last (test thrown.VirtualMachineError) _ (from_above thrown.Error d e h)
  line_above thrown.StackOverflowError d e h = or_last (test thrown.StackOverflowError) _ (from_above thrown.VirtualMachineError d e h)
  line_above thrown.OutOfMemoryError d e h = or_last (test thrown.OutOfMemoryError) _ (from_above thrown.VirtualMachineError d e h)

  none_upward : (n : ℕ) (m : Thrown) → Among m (upward n None) → ⊥
  none_upward zero m a = a
  none_upward (suc n) m a = a

  upward_has : (n : ℕ) (c m : Thrown) → Among m (upward n (Some c)) → list_any test (line_of m) ≡ true → list_any test (line_of c) ≡ true
  upward_has zero c m a h = absurd a
  upward_has (suc n) c m (inl e) h = subst (λ x. list_any test (line_of x) ≡ true) e h
  upward_has (suc n) c m (inr a) h = by (superclass c) refl (λ d b. upward_has n d m b h) a
    where
      by : (o : Option Thrown) → superclass c ≡ o → ((d : Thrown) → Among m (upward n (Some d)) → list_any test (line_of d) ≡ true)
          → Among m (upward n o) → list_any test (line_of c) ≡ true
      by None q again b = absurd (none_upward n m b)
      by (Some d) q again b = line_above c d q (again d b)

  pub line_has : (c m : Thrown) → Among m (line_of c) → list_any test (line_of m) ≡ true → list_any test (line_of c) ≡ true
  line_has c m a h = upward_has 5 c m a h

-- a class of the list has the name
any_among : (l : List Thrown) (name : List ℕ) → list_any (λ d. bytes_eq (name_of d) name) l ≡ true → (d : Thrown) × Among d l × (name_of d ≡ name)
any_among [] name e = absurd (false≢true e)
any_among (d ∷ l) name e = by (bytes_eq (name_of d) name) refl e (any_among l name)
  where
    by : (z : Bool) → bytes_eq (name_of d) name ≡ z → (z || list_any (λ x. bytes_eq (name_of x) name) l) ≡ true
        → (list_any (λ x. bytes_eq (name_of x) name) l ≡ true → (x : Thrown) × Among x l × (name_of x ≡ name))
        → (x : Thrown) × Among x (d ∷ l) × (name_of x ≡ name)
    by true q r again = (d, inl refl, bytes_are (name_of d) name q)
    by false q r again = let m = again r in (m.0, inr m.1, m.2)

-- ---- throwables below others

-- the one names a throwable, and the other is the name of one in its line
pub record Below (a b : List ℕ) : Type 0 where
  pub low : Thrown
  pub low_is : thrown_named a ≡ Some low
  pub high : Thrown
  pub among : Among high (line_of low)
  pub high_is : name_of high ≡ b

pub below_is : (a b : List ℕ) → is_throwable_below a b ≡ true → Below a b
below_is a b e = by (thrown_named a) refl e
  where
    by : (o : Option Thrown) → thrown_named a ≡ o → elim o [ None ↦ false | Some c ↦ is_named_in c b ] ≡ true → Below a b
    by None q r = absurd (false≢true r)
    by (Some c) q r = let m = any_among (line_of c) b r in record { low = c; low_is = q; high = m.0; among = m.1; high_is = m.2 }

-- the class of the name is below those in whose line its own class stands
pub below_by : (a b : List ℕ) (c : Thrown) → thrown_named a ≡ Some c → is_named_in c b ≡ true → is_throwable_below a b ≡ true
below_by a b c e h = ap (λ o. elim o [ None ↦ false | Some d ↦ is_named_in d b ]) e ∙ h

-- a class has its own name
own_name : (c : Thrown) (name : List ℕ) → name_of c ≡ name → is_named_in c name ≡ true
own_name c name e =
    ap (λ b. b || list_any (λ d. bytes_eq (name_of d) name) (upward 4 (superclass c))) (ap (bytes_eq (name_of c)) (sym e) ∙ same_bytes (name_of c))

below_on : (a b c : List ℕ) → Below a b → Below b c → is_throwable_below a c ≡ true
below_on a b c m n =
    below_by a c m.low m.low_is
    (line_has (λ d. bytes_eq (name_of d) c) m.low m.high m.among
    (subst (λ x. is_named_in x c ≡ true) (sym same)
    (line_has (λ d. bytes_eq (name_of d) c) n.low n.high n.among (own_name n.high c n.high_is))))
  where
    same : m.high ≡ n.low
    same = same_Some m.high n.low (sym (ap thrown_named (sym m.high_is) ∙ named_back m.high) ∙ n.low_is)

-- ---- classes

-- the ways in which a class suits another
pub class_cases : (a b : List ℕ) → class_suits a b ≡ true → (a ≡ b) ⊎ ((b ≡ object_class) ⊎ Below a b)
unfolding class_suits
class_cases a b e = ⊎_elim (λ x. inl (bytes_are a b x))
    (λ r. inr (⊎_elim (λ o. inl (bytes_are b object_class o)) (λ t. inr (below_is a b t)) r))
    (three (bytes_eq a b) (bytes_eq b object_class) (is_throwable_below a b) e)

pub object_suits : (a c : List ℕ) → c ≡ object_class → class_suits a c ≡ true
unfolding class_suits
object_suits a c e = or_last (bytes_eq a c) _ (ap (λ x. bytes_eq x object_class || is_throwable_below a c) e)

pub throwable_suits : (a c : List ℕ) → is_throwable_below a c ≡ true → class_suits a c ≡ true
unfolding class_suits
throwable_suits a c e = or_last (bytes_eq a c) _ (or_last (bytes_eq c object_class) _ e)

no_object_below : (c : List ℕ) → Below object_class c → ⊥
no_object_below c m = none_some m.low_is

-- what `java/lang/Object` suits is itself
pub object_alone : (c : List ℕ) → class_suits object_class c ≡ true → c ≡ object_class
object_alone c e = by (class_cases object_class c e)
  where
    by : (object_class ≡ c) ⊎ ((c ≡ object_class) ⊎ Below object_class c) → c ≡ object_class
    by (inl same) = sym same
    by (inr (inl same)) = same
    by (inr (inr m)) = absurd (no_object_below c m)

pub suits_on : (a b c : List ℕ) → class_suits a b ≡ true → class_suits b c ≡ true → class_suits a c ≡ true
suits_on a b c p q = ⊎_elim
    (λ e. subst (λ y. class_suits y c ≡ true) (sym e) q)
    (λ r. ⊎_elim
    (λ o. object_suits a c (object_alone c (subst (λ y. class_suits y c ≡ true) o q)))
    (λ m. from m (class_cases b c q)) r)
    (class_cases a b p)
  where
    from : Below a b → (b ≡ c) ⊎ ((c ≡ object_class) ⊎ Below b c) → class_suits a c ≡ true
    from m (inl e) = subst (λ y. class_suits a y ≡ true) e p
    from m (inr (inl e)) = object_suits a c e
    from m (inr (inr n)) = throwable_suits a c (below_on a b c m n)

-- ---- by what classes are

-- a throwable suits the class of a row that catches it
pub line_suits : (c : Thrown) (name : List ℕ) → is_named_in c name ≡ true → class_suits (name_of c) name ≡ true
line_suits c name e = throwable_suits (name_of c) name (below_by (name_of c) name c (named_back c) e)

pub each_throwable : (c : Thrown) → is_named_in c (codes "java/lang/Throwable") ≡ true
each_throwable thrown.Throwable = refl
each_throwable thrown.Exception = refl
each_throwable thrown.Error = refl
each_throwable thrown.RuntimeException = refl
each_throwable thrown.ArithmeticException = refl
each_throwable thrown.IllegalArgumentException = refl
each_throwable thrown.IllegalStateException = refl
each_throwable thrown.NullPointerException = refl
each_throwable thrown.NegativeArraySizeException = refl
each_throwable thrown.ArrayStoreException = refl
each_throwable thrown.IndexOutOfBoundsException = refl
each_throwable thrown.ArrayIndexOutOfBoundsException = refl
each_throwable thrown.VirtualMachineError = refl
each_throwable thrown.StackOverflowError = refl
each_throwable thrown.OutOfMemoryError = refl

pub below_throwable : (a b : List ℕ) → Below a b → is_throwable a ≡ true
unfolding is_throwable
below_throwable a b m = ap is_some m.low_is
