-- What an instruction needs, an object has whose class suits one that will do.
use Rattle.std.proofs.Common.{◌≡◌, ◌⊎◌, inl, inr, ℕ, ◌<◌, ◌≤◌, Bool, true, false, ◌||◌, List, [], ◌∷◌, length, Some, None, codes, refl, sym, ◌∙◌, ap, subst, arith, slice_index_or}
use Rattle.std.proofs.lemmas.Bool.{false≢true, true≢false}
use Rattle.std.specs.List.{AllByRecursion}
use Rattle.std.specs.Str.{bytes_eq}
use Rattle.jc_bytes.proofs.EachLaws.{all_both}
use Rattle.jc_bytes.specs.Descriptor.{FieldType, Byte, Char, Int, Long, Short, Boolean, Array, field_text}
use Rattle.jc_methods.specs.EntryState.{held_of}
use Rattle.jc_methods.specs.VerificationTypes.{VerificationType}
use Rattle.jc_methods.specs.VerificationTypes as verification
use Rattle.jc_programs.specs.declared.run_end.Thrown.{Thrown}
use Rattle.jc_programs.specs.Throwables.{name_of}
use Rattle.jc_machine_model.specs.Operations.{Operation, Printed, an_empty_line, reads, writes, measures, puts, invokes, builds, prints, fetches, returns, throws_top}
use Rattle.jc_refs_check.specs.Suits.{object_class, class_suits}
use Rattle.jc_refs_check.specs.Needs.{Need, is_array_of, is_throwable, need, need_held, no_class, argument_needs, stream_need, printed_needs, needs_of}
use Rattle.jc_refs_check.proofs.ThrownLaws.{same_bytes, bytes_are}
use Rattle.jc_refs_laws.proofs.ClassLaws.{Below, class_cases, object_suits, suits_on, below_throwable}
use Rattle.jc_refs_laws.proofs.TakenLaws.{taken, is_building}

pub record IsClosed (building : Bool) (n : Need) : Type 0 where
  -- but for the object of a constructor, which is of just its class
  pub down : building ≡ false → (c d : List ℕ) → class_suits c d ≡ true → n.takes d ≡ true → n.takes c ≡ true
  -- an object before its constructor is a throwable
  pub fresh : (c : List ℕ) → n.fresh c ≡ true → is_throwable c ≡ true → n.takes c ≡ true

abbrev pub AreClosed : Bool → List Need → Type 0
AreClosed building needs = AllByRecursion (IsClosed building) needs

-- ---- names of no throwable, and not that of `java/lang/Object`

abbrev byte_at : ℕ → List ℕ → ℕ
byte_at k name = slice_index_or name k 0

array_no_throwable : (x : Thrown) (rest : List ℕ) → name_of x ≡ 91 ∷ rest → ⊥
array_no_throwable x rest e = let first : 106 ≡ 91 = ap (byte_at 0) e in omega (arith, first)

array_no_object : (rest : List ℕ) → 91 ∷ rest ≡ object_class → ⊥
array_no_object rest e = let first : 91 ≡ 106 = ap (byte_at 0) e in omega (arith, first)

abbrev stream_class : List ℕ
stream_class = codes "java/io/PrintStream"

stream_no_throwable : (x : Thrown) → name_of x ≡ stream_class → ⊥
stream_no_throwable x e = let sixth : 108 ≡ 105 = ap (byte_at 5) e in omega (arith, sixth)

stream_no_object : stream_class ≡ object_class → ⊥
stream_no_object e = let sixth : 105 ≡ 108 = ap (byte_at 5) e in omega (arith, sixth)

-- ---- arrays

-- an array's class is suited by itself alone
array_alone : (c rest : List ℕ) → class_suits c (91 ∷ rest) ≡ true → c ≡ 91 ∷ rest
array_alone c rest e = by (class_cases c (91 ∷ rest) e)
  where
    by : (c ≡ 91 ∷ rest) ⊎ ((91 ∷ rest ≡ object_class) ⊎ Below c (91 ∷ rest)) → c ≡ 91 ∷ rest
    by (inl same) = same
    by (inr (inl o)) = absurd (array_no_object rest o)
    by (inr (inr m)) = absurd (array_no_throwable m.high rest m.high_is)

array_named : (types : List FieldType) (d : List ℕ) → is_array_of types d ≡ true → (rest : List ℕ) × (d ≡ 91 ∷ rest)
array_named [] d e = absurd (false≢true e)
array_named (type ∷ types) d e = by (bytes_eq d (field_text (Array type))) refl e (array_named types d)
  where
    by : (z : Bool) → bytes_eq d (field_text (Array type)) ≡ z → (z || is_array_of types d) ≡ true
        → (is_array_of types d ≡ true → (rest : List ℕ) × (d ≡ 91 ∷ rest)) → (rest : List ℕ) × (d ≡ 91 ∷ rest)
    by true q r more = (field_text type, bytes_are d (field_text (Array type)) q)
    by false q r more = more r

array_closed : (types : List FieldType) (c d : List ℕ) → class_suits c d ≡ true → is_array_of types d ≡ true → is_array_of types c ≡ true
array_closed types c d s e =
    let m = array_named types d e in
    subst (λ x. is_array_of types x ≡ true) (m.1 ∙ sym (array_alone c m.0 (subst (λ x. class_suits c x ≡ true) m.1 s))) e

-- ---- throwables and the print stream

throwable_closed : (c d : List ℕ) → class_suits c d ≡ true → is_throwable d ≡ true → is_throwable c ≡ true
unfolding is_throwable
throwable_closed c d s e = by (class_cases c d s)
  where
    by : (c ≡ d) ⊎ ((d ≡ object_class) ⊎ Below c d) → is_throwable c ≡ true
    by (inl same) = subst (λ y. is_throwable y ≡ true) (sym same) e
    by (inr (inl o)) = absurd (false≢true (subst (λ y. is_throwable y ≡ true) o e))
    by (inr (inr m)) = below_throwable c d m

stream_closed : (c d : List ℕ) → class_suits c d ≡ true → bytes_eq stream_class d ≡ true → bytes_eq stream_class c ≡ true
stream_closed c d s e = subst (λ y. bytes_eq stream_class y ≡ true) (sym (by (class_cases c stream_class suits))) (same_bytes stream_class)
  where
    suits : class_suits c stream_class ≡ true
    suits = subst (λ y. class_suits c y ≡ true) (sym (bytes_are stream_class d e)) s

    by : (c ≡ stream_class) ⊎ ((stream_class ≡ object_class) ⊎ Below c stream_class) → c ≡ stream_class
    by (inl same) = same
    by (inr (inl o)) = absurd (stream_no_object o)
    by (inr (inr m)) = absurd (stream_no_throwable m.high m.high_is)

-- ---- needs

module _ (building : Bool) where
  of_arrays : (above : ℕ) (types : List FieldType) → AreClosed building (need above (is_array_of types) no_class)
  of_arrays above types = (record { down = λ b. array_closed types; fresh = λ c e t. absurd (false≢true e) }, tt)

  of_stream : (above : ℕ) → AreClosed building (stream_need above)
  of_stream above = (record { down = λ b. stream_closed; fresh = λ c e t. absurd (false≢true e) }, tt)

  of_printed : (printed : Printed) → AreClosed building (printed_needs printed)
  of_printed an_empty_line = of_stream 0
  of_printed printed = of_stream 1

  -- what is kept as a value of a type
  of_held : (above : ℕ) (h : VerificationType) → AreClosed building (need_held above h)
  of_held above (verification.object name) =
      (record { down = λ b c d s t. suits_on c d name s t; fresh = λ c e t. object_suits c name (bytes_are name object_class e) }, tt)
  of_held above h = tt

  of_arguments : (types : List FieldType) → AreClosed building (argument_needs types)
  of_arguments [] = tt
  of_arguments (type ∷ types) =
      all_both (IsClosed building) (need_held (length types) (held_of type)) (argument_needs types)
      (of_held (length types) (held_of type)) (of_arguments types)

pub needs_closed : (o : Operation) → AreClosed (is_building o) (needs_of o)
needs_closed (reads types) = of_arrays false 1 types
needs_closed (writes types) = of_arrays false 2 types
needs_closed measures = of_arrays false 0 (Boolean ∷ Char ∷ Byte ∷ Short ∷ Int ∷ Long ∷ [])
needs_closed throws_top = (record { down = λ b. throwable_closed; fresh = λ c e t. t }, tt)
needs_closed (prints printed) = of_printed false printed
needs_closed (puts at type) = of_held false 0 (held_of type)
needs_closed (invokes callee parameters max_locals) = of_arguments false parameters
needs_closed (fetches class init) = of_held false 1 (verification.object (codes "java/lang/String"))
needs_closed (returns computational (Some type)) = of_held false 0 (held_of type)
needs_closed (returns computational None) = tt
needs_closed (builds c) = (record { down = λ b. absurd (true≢false b); fresh = λ d e t. e }, tt)
needs_closed o = tt

-- ---- where they lie

abbrev AreBelow : ℕ → List Need → Type 0
AreBelow most needs = AllByRecursion (λ (n : Need). n.above < most) needs

held_below : (above most : ℕ) (h : VerificationType) → above < most → AreBelow most (need_held above h)
held_below above most (verification.object name) lt = (lt, tt)
held_below above most h lt = tt

arguments_below : (types : List FieldType) (most : ℕ) → length types ≤ most → AreBelow most (argument_needs types)
arguments_below [] most le = tt
arguments_below (type ∷ types) most le =
    all_both (λ (n : Need). n.above < most) (need_held (length types) (held_of type)) (argument_needs types)
    (held_below (length types) most (held_of type) (omega (arith, le))) (arguments_below types most (omega (arith, le)))

-- each is one of so many operands
pub needs_below : (o : Operation) → AreBelow (taken o) (needs_of o)
needs_below (reads types) = (omega arith, tt)
needs_below (writes types) = (omega arith, tt)
needs_below measures = (omega arith, tt)
needs_below throws_top = (omega arith, tt)
needs_below (prints an_empty_line) = (omega arith, tt)
needs_below (prints printed) = (omega arith, tt)
needs_below (puts at type) = held_below 0 1 (held_of type) (omega arith)
needs_below (invokes callee parameters max_locals) = arguments_below parameters (length parameters) (omega arith)
needs_below (fetches class init) = (omega arith, tt)
needs_below (returns computational (Some type)) = held_below 0 1 (held_of type) (omega arith)
needs_below (returns computational None) = tt
needs_below (builds c) = (omega arith, tt)
needs_below o = tt
