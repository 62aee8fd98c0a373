-- The refusals of a class that is instrumented, in their order, and what is answered.
use Rattle.std.proofs.Common.{◌≡◌, ◌⊎◌, inl, inr, ℕ, Bool, true, false, List, ◌++◌, Some, None, Result, Ok, Err, MatchResult, refl, sym, ap, subst}
use Rattle.std.specs.Bool.{⊤}
use Rattle.std.specs.Prelude.{IfErr, IfOk}
use Rattle.jc_bytes.specs.declared.fail.Fail.{Fail}
use Rattle.jc_bytes.specs.declared.fail.Fail.TheVariants as fails
use Rattle.jc_bytes.specs.declared.refusal.Refusal.{Refusal}
use Rattle.jc_pool.specs.Lookup.{class_name_of}
use Rattle.jc_class.specs.ClassId.{class_id}
use Rattle.jc_class.specs.ClassText.{ClassText}
use Rattle.jc_class.specs.declared.class_file.ClassFile.{ClassFile}
use Rattle.jc_bytes.specs.Failing.{Said}
use Rattle.jc_instrument.specs.Causes.{Cause, IsFirstCause, NoCause, unless}
use Rattle.jc_instrument.specs.Changing.{GetsProbes, changing_causes}
use Rattle.jc_instrument.specs.InstrumentedFile.{Becomes, IsAsGiven, IsInstrumentedFile}
use Rattle.jc_instrument.specs.LeftAlone.{is_left_alone}
use Rattle.jc_instrument.specs.Reasons.{class_causes, interface_causes, code_causes}
use Rattle.jc_instrument.specs.Refused.{probe_causes, Reason}
use Rattle.jc_instrument.specs.RoomCauses.{room_causes}
use Rattle.jc_instrument.specs.declared.whole.Instrumented.{Instrumented}
use Rattle.jc_instrument.proofs.CauseLaws.{first_behind, first_in_front, none_in_both}
use Rattle.jc_instrument.proofs.OneReasonLaws.{none_or_some}
use Rattle.jc_instrument.proofs.RoomCauseLaws.{one_reason}

-- ---- the causes, in their order

module _ (id : ℕ) (c : ClassFile) where
  -- the causes of the class, by whether it stays as it is
  abbrev causes_by : Bool → List Cause
  causes_by t = (class_causes c ++ unless t (interface_causes c ++ code_causes c)) ++ unless t (room_causes id c)

  pub class_first : (r : Refusal) → IsFirstCause (class_causes c) r → IsFirstCause (probe_causes id c) r
  class_first r first =
      first_in_front (class_causes c)
      (unless (is_left_alone c) (interface_causes c ++ code_causes c) ++ unless (is_left_alone c) (room_causes id c)) r first

  pub none_as_given : NoCause (class_causes c) → is_left_alone c ≡ true → NoCause (probe_causes id c)
  none_as_given none stays = subst (λ (t : Bool). NoCause (causes_by t)) (sym stays) none

  module _ (none : NoCause (class_causes c)) (changes : is_left_alone c ≡ false) where
    pub interface_first : (r : Refusal) → IsFirstCause (interface_causes c) r → IsFirstCause (probe_causes id c) r
    interface_first r first =
        subst (λ (t : Bool). IsFirstCause (causes_by t) r) (sym changes)
        (first_behind (class_causes c) (interface_causes c ++ changing_causes id c) r none
        (first_in_front (interface_causes c) (changing_causes id c) r first))

    pub changing_first : NoCause (interface_causes c) → (r : Refusal) → IsFirstCause (changing_causes id c) r → IsFirstCause (probe_causes id c) r
    changing_first no_interface r first =
        subst (λ (t : Bool). IsFirstCause (causes_by t) r) (sym changes)
        (first_behind (class_causes c) (interface_causes c ++ changing_causes id c) r none
        (first_behind (interface_causes c) (changing_causes id c) r no_interface first))

    pub none_changing : NoCause (interface_causes c) → NoCause (changing_causes id c) → NoCause (probe_causes id c)
    none_changing no_interface no_change =
        subst (λ (t : Bool). NoCause (causes_by t)) (sym changes)
        (none_in_both (class_causes c) (interface_causes c ++ changing_causes id c) none
        (none_in_both (interface_causes c) (changing_causes id c) no_interface no_change))

-- ---- what is made

module _ (bytes : List ℕ) (c : ClassFile) (text : ClassText bytes c) (none : NoCause (class_causes c)) where
  pub given_made : (a : Instrumented) → is_left_alone c ≡ true → IsAsGiven bytes a → a.id ≡ class_id bytes
      → class_name_of c.pool c.this_class ≡ Some a.name → IsInstrumentedFile bytes a
  given_made a stays given id name = record {
    file = c;
    text = text;
    no_cause = none_as_given (class_id bytes) c none stays;
    id = id;
    name = name;
    becomes = subst (λ (t : Bool). Becomes t bytes c a) (sym stays) given;
  }

  pub changed_made : (a : Instrumented) → is_left_alone c ≡ false → NoCause (interface_causes c) → GetsProbes (class_id bytes) c a
      → IsInstrumentedFile bytes a
  changed_made a changes no_interface is = record {
    file = c;
    text = text;
    no_cause = none_changing (class_id bytes) c none changes no_interface is.no_cause;
    id = is.id_is;
    name = is.name;
    becomes = subst (λ (t : Bool). Becomes t bytes c a) (sym changes) is.has;
  }

abbrev Answer : Type 0
Answer = Result Instrumented (Fail Refusal)

module _ (bytes : List ℕ) (c : ClassFile) (text : ClassText bytes c) (none : NoCause (class_causes c)) (changes : is_left_alone c ≡ false)
    (no_interface : NoCause (interface_causes c)) where
  pub made_from : (answer : Answer) → IfOk answer (GetsProbes (class_id bytes) c) → IfOk answer (IsInstrumentedFile bytes)
  made_from (Ok a) is = changed_made bytes c text none a changes no_interface is
  made_from (Err e) is = tt

  pub refused_from : (answer : Answer) → IfErr answer (λ e. Said e (IsFirstCause (changing_causes (class_id bytes) c)))
      → IfErr answer (λ e. Said e (λ r. Reason bytes (Some r)))
  refused_from (Ok a) is = tt
  refused_from (Err fails.Memory) is = tt
  refused_from (Err (fails.Said r)) is = inr (c, text, changing_first (class_id bytes) c none changes no_interface r is)

-- ---- what is so is answered

pub accepted_instrumented : (bytes : List ℕ) (answer : Answer) → IfErr answer (λ e. Said e (λ r. Reason bytes (Some r))) → Reason bytes None
    → MatchResult answer (λ _. ⊤) (λ e. e ≡ fails.Memory)
accepted_instrumented bytes (Ok a) is none = tt
accepted_instrumented bytes (Err fails.Memory) is none = refl
accepted_instrumented bytes (Err (fails.Said r)) is none = absurd (none_or_some (probe_causes (class_id bytes)) bytes r none is)

same_refusal : {r s : Refusal} → Some r ≡ Some s → r ≡ s
same_refusal e = cc

pub refused_for : (bytes : List ℕ) (answer : Answer) → IfOk answer (IsInstrumentedFile bytes) → IfErr answer (λ e. Said e (λ r. Reason bytes (Some r)))
    → (r : Refusal) → Reason bytes (Some r) → MatchResult answer (λ _. ⊥) (λ e. (e ≡ fails.Memory) ⊎ (e ≡ fails.Said r))
refused_for bytes (Ok a) made refused r some = none_or_some (probe_causes (class_id bytes)) bytes r (accepted a made) some
  where
    accepted : (a : Instrumented) → IsInstrumentedFile bytes a → Reason bytes None
    accepted a is = (is.file, is.text, is.no_cause)
refused_for bytes (Err fails.Memory) made refused r some = inl refl
refused_for bytes (Err (fails.Said s)) made refused r some = inr (ap fails.Said (same_refusal (one_reason bytes (Some s) (Some r) refused some)))
