-- What is read of a descriptor decides whether a method takes numbers.
use Rattle.std.proofs.Common.{◌≡◌, ◌≢◌, ◌∙◌, ℕ, zero, suc, ℤ, Bool, true, false, List, [], ◌∷◌, ◌++◌, nat_eq, ◌==◌, ◌⊎◌, inl, inr, length, refl, sym, ap, subst, arith}
use Rattle.std.proofs.lemmas.Bool.Decides.{nat_tests}
use Rattle.jc_bytes.specs.Descriptor.{FieldType, Object, Array}
use Rattle.jc_methods.specs.DescriptorTypes.{Standing, before, naming, behind, base_type, in_arrays, types_from}
use Rattle.jc_programs.specs.Entries.{is_argument, are_arguments}
use Rattle.jc_programs.specs.declared.arguments.Reading.{Reading}
use Rattle.jc_programs.specs.declared.arguments.Reading.TheVariants.{Nothing, Brackets, Name}

-- the letters that were read are the front of this
abbrev pub Stands : Reading → Standing → Type 0
Stands Nothing (before zero) = Unit {0}
Stands Brackets (before (suc n)) = Unit {0}
Stands Name (naming n name) = Unit {0}
Stands _ _ = ⊥

-- the letters and numbers that are left decide
pub record Decide (verdict : Bool) (reading : Reading) (letters : List ℕ) (numbers : List ℤ) : Type 0 where
  pub standing : Standing
  pub stands : Stands reading standing
  pub same : are_arguments (types_from standing letters) numbers ≡ verdict

differs : (b k : ℕ) → b ≢ k → nat_eq b k ≡ false
differs b k h = grind (arith, nat_tests)

-- ---- types that are no argument's

array_no : (n : ℕ) (type : FieldType) (x : ℤ) → is_argument (in_arrays n (Array type)) x ≡ false
array_no zero type x = refl
array_no (suc n) type x = array_no n (Array type) x

object_no : (n : ℕ) (name : List ℕ) (x : ℤ) → is_argument (in_arrays n (Object name)) x ≡ false
object_no zero name x = refl
object_no (suc n) name x = array_no n (Object name) x

none_take : (type : FieldType) (types : List FieldType) (numbers : List ℤ) → ((x : ℤ) → is_argument type x ≡ false) → are_arguments (type ∷ types) numbers ≡ false
none_take type types [] never = refl
none_take type types (x ∷ numbers) never = rw (never x) refl

-- ---- the end

behind_none : (letters : List ℕ) → types_from behind letters ≡ []
unfolding types_from
behind_none [] = refl
behind_none (b ∷ letters) = behind_none letters

some_left : (n : ℕ) → false ≡ (suc n == 0)
some_left n = grind (arith, nat_tests)

none_left : (numbers : List ℤ) → are_arguments [] numbers ≡ (length numbers == 0)
none_left [] = refl
none_left (x ∷ numbers) = some_left (length numbers)

module _ (verdict : Bool) (after : List ℕ) (numbers : List ℤ) where
  pub at_end : (reading : Reading) → Decide verdict reading [] numbers → (length numbers == 0) ≡ verdict
  unfolding types_from
  at_end reading d = sym (none_left numbers) ∙ d.same

  -- ---- letters in front of a type

  bracket_by : (reading : Reading) (standing : Standing) → reading ≢ Name → Stands reading standing
      → are_arguments (types_from standing (91 ∷ after)) numbers ≡ verdict → Decide verdict Brackets after numbers
  unfolding types_from
  bracket_by Nothing (before zero) ne s e = record { standing = before (suc zero); stands = tt; same = e }
  bracket_by Brackets (before (suc n)) ne s e = record { standing = before (suc (suc n)); stands = tt; same = e }
  bracket_by Name standing ne s e = absurd (ne refl)
  bracket_by Nothing (before (suc n)) ne s e = absurd s
  bracket_by Nothing (naming n name) ne s e = absurd s
  bracket_by Nothing behind ne s e = absurd s
  bracket_by Brackets (before zero) ne s e = absurd s
  bracket_by Brackets (naming n name) ne s e = absurd s
  bracket_by Brackets behind ne s e = absurd s

  pub bracket : (reading : Reading) → reading ≢ Name → Decide verdict reading (91 ∷ after) numbers → Decide verdict Brackets after numbers
  bracket reading ne d = bracket_by reading d.standing ne d.stands d.same

  class_by : (reading : Reading) (standing : Standing) → reading ≢ Name → Stands reading standing
      → are_arguments (types_from standing (76 ∷ after)) numbers ≡ verdict → Decide verdict Name after numbers
  unfolding types_from
  class_by Nothing (before zero) ne s e = record { standing = naming zero []; stands = tt; same = e }
  class_by Brackets (before (suc n)) ne s e = record { standing = naming (suc n) []; stands = tt; same = e }
  class_by Name standing ne s e = absurd (ne refl)
  class_by Nothing (before (suc n)) ne s e = absurd s
  class_by Nothing (naming n name) ne s e = absurd s
  class_by Nothing behind ne s e = absurd s
  class_by Brackets (before zero) ne s e = absurd s
  class_by Brackets (naming n name) ne s e = absurd s
  class_by Brackets behind ne s e = absurd s

  pub class : (reading : Reading) → reading ≢ Name → Decide verdict reading (76 ∷ after) numbers → Decide verdict Name after numbers
  class reading ne d = class_by reading d.standing ne d.stands d.same

  closing_by : (reading : Reading) (standing : Standing) → reading ≢ Name → Stands reading standing
      → are_arguments (types_from standing (41 ∷ after)) numbers ≡ verdict → (length numbers == 0) ≡ verdict
  unfolding types_from
  closing_by Nothing (before zero) ne s e = sym (ap (λ (types : List FieldType). are_arguments types numbers) (behind_none after) ∙ none_left numbers) ∙ e
  closing_by Brackets (before (suc n)) ne s e = sym (ap (λ (types : List FieldType). are_arguments types numbers) (behind_none after) ∙ none_left numbers) ∙ e
  closing_by Name standing ne s e = absurd (ne refl)
  closing_by Nothing (before (suc n)) ne s e = absurd s
  closing_by Nothing (naming n name) ne s e = absurd s
  closing_by Nothing behind ne s e = absurd s
  closing_by Brackets (before zero) ne s e = absurd s
  closing_by Brackets (naming n name) ne s e = absurd s
  closing_by Brackets behind ne s e = absurd s

  pub closing : (reading : Reading) → reading ≢ Name → Decide verdict reading (41 ∷ after) numbers → (length numbers == 0) ≡ verdict
  closing reading ne d = closing_by reading d.standing ne d.stands d.same

  -- ---- the name of a class

  name_by : (standing : Standing) → Stands Name standing → are_arguments (types_from standing (59 ∷ after)) numbers ≡ verdict → false ≡ verdict
  unfolding types_from
  name_by (naming n name) s e = sym (none_take (in_arrays n (Object name)) (types_from (before 0) after) numbers (object_no n name)) ∙ e
  name_by (before n) s e = absurd (by n s)
    where
      by : (n : ℕ) → Stands Name (before n) → ⊥
      by zero s = s
      by (suc n) s = s
  name_by behind s e = absurd s

  pub name_ends : Decide verdict Name (59 ∷ after) numbers → false ≡ verdict
  name_ends d = name_by d.standing d.stands d.same

  longer_by : (b : ℕ) (standing : Standing) → nat_eq b 59 ≡ false → Stands Name standing
      → are_arguments (types_from standing (b ∷ after)) numbers ≡ verdict → Decide verdict Name after numbers
  unfolding types_from
  longer_by b (naming n name) other s e = record { standing = naming n (name ++ b ∷ []); stands = tt; same = rw other at e }
  longer_by b (before n) other s e = absurd (by n s)
    where
      by : (n : ℕ) → Stands Name (before n) → ⊥
      by zero s = s
      by (suc n) s = s
  longer_by b behind other s e = absurd s

  pub name_goes_on : (b : ℕ) → b ≢ 59 → Decide verdict Name (b ∷ after) numbers → Decide verdict Name after numbers
  name_goes_on b ne d = longer_by b d.standing (differs b 59 ne) d.stands d.same

-- ---- base types

-- the letter is that of a base type
pub record IsBase (b : ℕ) : Type 0 where
  pub no_bracket : b ≢ 91
  pub no_class : b ≢ 76
  pub no_end : b ≢ 41

base_types : (b : ℕ) (n : ℕ) (after : List ℕ) → nat_eq b 91 ≡ false → nat_eq b 76 ≡ false → nat_eq b 41 ≡ false
    → types_from (before n) (b ∷ after) ≡ in_arrays n (base_type b) ∷ types_from (before 0) after
unfolding types_from
base_types b n after p q r = rw (p, q, r) refl

base_is : (b : ℕ) (n : ℕ) (after : List ℕ) → IsBase b → types_from (before n) (b ∷ after) ≡ in_arrays n (base_type b) ∷ types_from (before 0) after
base_is b n after is = base_types b n after (differs b 91 is.no_bracket) (differs b 76 is.no_class) (differs b 41 is.no_end)

module _ (verdict : Bool) (b : ℕ) (is : IsBase b) (after : List ℕ) where
  array_by : (standing : Standing) (numbers : List ℤ) → Stands Brackets standing → are_arguments (types_from standing (b ∷ after)) numbers ≡ verdict → false ≡ verdict
  array_by (before (suc n)) numbers s e =
      sym (ap (λ (types : List FieldType). are_arguments types numbers) (base_is b (suc n) after is)
      ∙ none_take (in_arrays n (Array (base_type b))) (types_from (before 0) after) numbers (array_no n (base_type b))) ∙ e
  array_by (before zero) numbers s e = absurd s
  array_by (naming n name) numbers s e = absurd s
  array_by behind numbers s e = absurd s

  pub array : (numbers : List ℤ) → Decide verdict Brackets (b ∷ after) numbers → false ≡ verdict
  array numbers d = array_by d.standing numbers d.stands d.same

  letter_by : (standing : Standing) (numbers : List ℤ) → Stands Nothing standing → are_arguments (types_from standing (b ∷ after)) numbers ≡ verdict
      → are_arguments (base_type b ∷ types_from (before 0) after) numbers ≡ verdict
  letter_by (before zero) numbers s e = sym (ap (λ (types : List FieldType). are_arguments types numbers) (base_is b zero after is)) ∙ e
  letter_by (before (suc n)) numbers s e = absurd s
  letter_by (naming n name) numbers s e = absurd s
  letter_by behind numbers s e = absurd s

  pub too_few : Decide verdict Nothing (b ∷ after) [] → false ≡ verdict
  too_few d = letter_by d.standing [] d.stands d.same

  pub no_value : (x : ℤ) (others : List ℤ) → is_argument (base_type b) x ≡ false → Decide verdict Nothing (b ∷ after) (x ∷ others) → false ≡ verdict
  no_value x others differs_there d = rw differs_there at (letter_by d.standing (x ∷ others) d.stands d.same)

  pub value : (x : ℤ) (others : List ℤ) → is_argument (base_type b) x ≡ true → Decide verdict Nothing (b ∷ after) (x ∷ others) → Decide verdict Nothing after others
  value x others fits d = record { standing = before zero; stands = tt; same = rw fits at (letter_by d.standing (x ∷ others) d.stands d.same) }

-- ---- as letters are taken from the front

-- no name of a class is read
abbrev pub Front : Reading → Type 0
Front reading = (reading ≡ Nothing) ⊎ (reading ≡ Brackets)

no_name : (reading : Reading) → Front reading → reading ≢ Name
no_name reading (inl p) q = cc
no_name reading (inr p) q = cc

only_brackets : (reading : Reading) → Front reading → (reading ≡ Brackets) ⊎ (reading ≡ Name) → reading ≡ Brackets
only_brackets reading f (inl p) = p
only_brackets reading f (inr p) = absurd (no_name reading f p)

module _ (verdict : Bool) (reading : Reading) (letters : List ℕ) (b : ℕ) (after : List ℕ) (numbers : List ℤ) (parts : letters ≡ b ∷ after) (d : Decide verdict reading letters numbers) where
  at_front : Decide verdict reading (b ∷ after) numbers
  at_front = subst (λ l. Decide verdict reading l numbers) parts d

  at_letter : (k : ℕ) → b ≡ k → Decide verdict reading (k ∷ after) numbers
  at_letter k p = subst (λ x. Decide verdict reading (x ∷ after) numbers) p at_front

  at_reading : (r : Reading) → reading ≡ r → Decide verdict r (b ∷ after) numbers
  at_reading r p = subst (λ x. Decide verdict x (b ∷ after) numbers) p at_front

  pub by_bracket : Front reading → b ≡ 91 → Decide verdict Brackets after numbers
  by_bracket f p = bracket verdict after numbers reading (no_name reading f) (at_letter 91 p)

  pub by_class : Front reading → b ≡ 76 → Decide verdict Name after numbers
  by_class f p = class verdict after numbers reading (no_name reading f) (at_letter 76 p)

  pub by_closing : Front reading → b ≡ 41 → (length numbers == 0) ≡ verdict
  by_closing f p = closing verdict after numbers reading (no_name reading f) (at_letter 41 p)

  pub by_name_end : reading ≡ Name → b ≡ 59 → false ≡ verdict
  by_name_end r p = name_ends verdict after numbers (subst (λ x. Decide verdict x (59 ∷ after) numbers) r (at_letter 59 p))

  pub by_name : reading ≡ Name → b ≢ 59 → Decide verdict reading after numbers
  by_name r p = subst (λ x. Decide verdict x after numbers) (sym r) (name_goes_on verdict after numbers b p (at_reading Name r))

  pub by_array : Front reading → (reading ≡ Brackets) ⊎ (reading ≡ Name) → IsBase b → false ≡ verdict
  by_array f r is = array verdict b is after numbers (at_reading Brackets (only_brackets reading f r))

  pub by_too_few : reading ≡ Nothing → IsBase b → length numbers ≡ 0 → false ≡ verdict
  by_too_few r is none = by numbers none (at_reading Nothing r)
    where
      by : (ns : List ℤ) → length ns ≡ 0 → Decide verdict Nothing (b ∷ after) ns → false ≡ verdict
      by [] e x = too_few verdict b is after x
      by (n ∷ ns) e x = absurd (omega (arith, e))

  pub by_no_value : reading ≡ Nothing → IsBase b → (n : ℤ) (others : List ℤ) → numbers ≡ n ∷ others → is_argument (base_type b) n ≡ false → false ≡ verdict
  by_no_value r is n others e unfit = no_value verdict b is after n others unfit (subst (λ ns. Decide verdict Nothing (b ∷ after) ns) e (at_reading Nothing r))

  pub by_value : reading ≡ Nothing → IsBase b → (n : ℤ) (others : List ℤ) → numbers ≡ n ∷ others → is_argument (base_type b) n ≡ true → Decide verdict reading after others
  by_value r is n others e fits = subst (λ x. Decide verdict x after others) (sym r)
      (value verdict b is after n others fits (subst (λ ns. Decide verdict Nothing (b ∷ after) ns) e (at_reading Nothing r)))

pub by_end : (verdict : Bool) (reading : Reading) (letters : List ℕ) (numbers : List ℤ) → length letters ≡ 0 → Decide verdict reading letters numbers → (length numbers == 0) ≡ verdict
by_end verdict reading [] numbers e d = at_end verdict [] numbers reading d
by_end verdict reading (b ∷ letters) numbers e d = absurd (omega (arith, e))
