-- A class file whose methods are read one after the other: what is refused of it, and its analysis.
use Rattle.std.proofs.Common.{◌≡◌, inl, inr, ℕ, ◌+◌, ◌<◌, ◌≤◌, Bool, true, false, cond, List, [], ◌∷◌, ◌++◌, length, get_or, Option, Some, None, Result, Ok, Err, IfErr, refl, sym, ◌∙◌, ap, subst, arith}
use Rattle.std.specs.Prelude.{All}
use Rattle.std.proofs.lemmas.Option.{slice_get-get_or}
use Rattle.jc_bytes.specs.ByteLists.{AreBytes}
use Rattle.jc_bytes.specs.Reader.{most_read}
use Rattle.jc_bytes.specs.Failing.{Said}
use Rattle.jc_bytes.specs.declared.fail.Fail.{Fail}
use Rattle.jc_bytes.specs.declared.refusal.Refusal.{Refusal}
use Rattle.jc_methods.specs.VerificationTypes.{Names}
use Rattle.jc_methods.specs.WellMade.{IsWellMade}
use Rattle.jc_methods.specs.declared.body.Body.{Body}
use Rattle.jc_methods.proofs.MetNamesLaws.{grows_none}
use Rattle.jc_class.specs.ClassText.{ClassText}
use Rattle.jc_class.specs.Sizes.{BodiesWithin}
use Rattle.jc_class.specs.Writable.{IsClassFile}
use Rattle.jc_class.specs.declared.class_file.ClassFile.{ClassFile}
use Rattle.jc_kinds.specs.Checked.{Checked}
use Rattle.jc_plan.specs.Analysed.{all_insns_and_arms, all_probes, plans_of}
use Rattle.jc_instrument.specs.Bodies.{AreBodies, AreBodiesBelow, AreBodiesOf, AreBodiesUnless, IsReadable}
use Rattle.jc_instrument.specs.Causes.{Cause, FirstCause, IsFirstCause, NoCause, unless}
use Rattle.jc_instrument.specs.ClassWalk.{Ends, IsWalk, WalksOn, front_causes, methods_read}
use Rattle.jc_instrument.specs.Found.{first_of}
use Rattle.jc_instrument.specs.Known.{IsFine, IsKnown, KnowsOn}
use Rattle.jc_instrument.specs.LeftAlone.{is_left_alone}
use Rattle.jc_instrument.specs.Reasons.{AnalysisReason, analysis_causes, class_causes, code_causes, frame_causes, interface_causes, method_causes}
use Rattle.jc_instrument.specs.Steps.{IsSubroutineAt}
use Rattle.jc_instrument.specs.declared.class_walk.ClassWalk.{ClassWalk}
use Rattle.jc_instrument.specs.declared.found.FrameRefusals.{FrameRefusals}
use Rattle.jc_instrument.specs.declared.known.PlannedMethod.{PlannedMethod}
use Rattle.jc_instrument.proofs.AnswerLaws.{said_more}
use Rattle.jc_instrument.proofs.CauseLaws.{first_behind, first_in_front, none_in_both}
use Rattle.jc_instrument.proofs.CheckingLaws.{all_checked, frame_found, frames_fine, some_is_none}
use Rattle.jc_instrument.proofs.KnownLaws.{bodies_read, handed_are, handed_made, none_handed}
use Rattle.jc_instrument.proofs.ReadingLaws.{bad_code_refused}
use Rattle.jc_instrument.proofs.SmallBodiesLaws.{few_below}
use Rattle.jc_instrument.proofs.WholeLaws.{check_refused, no_cause_checked}

-- ---- before methods are read

module _ (c : ClassFile) where
  -- the causes, by whether the class stays as it is
  abbrev front_by : Bool → List Cause
  front_by t = class_causes c ++ unless t (interface_causes c)

  abbrev causes_by : Bool → List Cause
  causes_by t = class_causes c ++ unless t (interface_causes c ++ code_causes c)

  pub class_first : (r : Refusal) → IsFirstCause (class_causes c) r → IsFirstCause (front_causes c) r
  class_first r first = first_in_front (class_causes c) (unless (is_left_alone c) (interface_causes c)) r first

  module _ (none : NoCause (class_causes c)) where
    pub none_alone : is_left_alone c ≡ true → NoCause (front_causes c)
    none_alone stays = subst (λ (t : Bool). NoCause (front_by t)) (sym stays) none

    pub front_decided : is_left_alone c ≡ false → (o : Option Refusal) → FirstCause (interface_causes c) o → FirstCause (front_causes c) o
    front_decided changes None no_interface =
        subst (λ (t : Bool). NoCause (front_by t)) (sym changes) (none_in_both (class_causes c) (interface_causes c) none no_interface)
    front_decided changes (Some r) first =
        subst (λ (t : Bool). IsFirstCause (front_by t) r) (sym changes) (first_behind (class_causes c) (interface_causes c) r none first)

  pub front_first : (r : Refusal) → IsFirstCause (front_causes c) r → IsFirstCause (analysis_causes c) r
  front_first r first = by (is_left_alone c) first
    where
      by : (t : Bool) → IsFirstCause (front_by t) r → IsFirstCause (causes_by t) r
      by true first = first
      by false first = first_in_front (class_causes c ++ interface_causes c) (code_causes c) r first

  no_class : NoCause (front_causes c) → NoCause (class_causes c)
  no_class none = (none.0, (none.1.0, tt))

  no_interface : NoCause (front_causes c) → is_left_alone c ≡ false → NoCause (interface_causes c)
  no_interface none changes = subst (λ (t : Bool). NoCause (unless t (interface_causes c))) changes none.1.1

module _ (bytes : List ℕ) (n : ℕ) (handed : List Body) (w : ClassWalk) (is : IsWalk bytes n handed w) where
  pub readable : IsReadable w.class
  readable = record { bytes = bytes; are = is.are_bytes; few = is.few; text = is.text }

  -- ---- what is refused

  pub class_refused : (r : Refusal) → IsFirstCause (analysis_causes w.class) r → AnalysisReason bytes (Some r)
  class_refused r first = inr (w.class, is.text, first)

  module _ (changes : is_left_alone w.class ≡ false) where
    pub code_refused : (r : Refusal) → IsFirstCause (code_causes w.class) r → AnalysisReason bytes (Some r)
    code_refused r first =
        class_refused r
        (subst (λ (t : Bool). IsFirstCause (causes_by w.class t) r) (sym changes)
        (first_behind (class_causes w.class) (interface_causes w.class ++ code_causes w.class) r (no_class w.class is.no_front_cause)
        (first_behind (interface_causes w.class) (code_causes w.class) r (no_interface w.class is.no_front_cause changes) first)))

    pub subroutine_refused : (r : Refusal) → IsSubroutineAt w.class n r → AnalysisReason bytes (Some r)
    subroutine_refused r here =
        code_refused r (first_in_front (method_causes w.class) (frame_causes w.class) r (inl (record {
          number = n;
          place = r.place;
          refusal = here.refusal;
          holds = here.faulty;
          none_before = λ before at less faulty. is.known.read.no_subroutine before at less faulty;
        })))

-- ---- one method more

not_true : {t : Bool} → t ≡ true → t ≡ false → ⊥
not_true one other = cc

module _ (bytes : List ℕ) (n : ℕ) (handed : List Body) (old new : ClassWalk) (is : IsWalk bytes n handed old) (class : new.class ≡ old.class)
    (changes : is_left_alone old.class ≡ false) where
  walked : (more : List Body) → IsKnown new.names old.class (n + 1) more new.known → IsWalk bytes (n + 1) more new
  walked more known = record {
    few = is.few;
    are_bytes = is.are_bytes;
    text = subst (ClassText bytes) (sym class) is.text;
    whole = subst IsClassFile (sym class) is.whole;
    sizes = subst (λ (c : ClassFile). All (λ m. BodiesWithin most_read m.attributes) c.methods) (sym class) is.sizes;
    no_front_cause = subst (λ (c : ClassFile). NoCause (front_causes c)) (sym class) is.no_front_cause;
    alone_fine = λ stays. absurd (not_true (sym (ap is_left_alone class) ∙ stays) changes);
    known = subst (λ (c : ClassFile). IsKnown new.names c (n + 1) more new.known) (sym class) known;
  }

  pub walks_on : (more : Option PlannedMethod) → KnowsOn new.names old.class (n + 1) handed new.known more → WalksOn bytes (n + 1) handed new more
  walks_on None known = walked handed known
  walks_on (Some m) one =
      let from = readable bytes n handed old is in
      let bodies = handed ++ m.body ∷ [] in
      let are = handed_are new.names old.class (n + 1) bodies new.known from one.known one.fine in (
        walked bodies one.known,
        record {
          well_made = handed_made new.names old.class (n + 1) bodies new.known from one.known one.fine;
          few = few_below new.names old.class (n + 1) bodies from are;
          plan = one.plan;
        },
      )

-- a method is read of a class that doesn't stay as it is alone
pub changes_of : (w : ClassWalk) (n : ℕ) → n < methods_read w → (is_left_alone w.class ≡ false) × (n < length w.class.methods)
changes_of w n less = by (is_left_alone w.class) refl less
  where
    by : (t : Bool) → is_left_alone w.class ≡ t → n < cond t 0 (length w.class.methods) → (is_left_alone w.class ≡ false) × (n < length w.class.methods)
    by true stays less = absurd (omega (arith, less))
    by false changes less = (changes, less)

-- ---- the end

none_below_zero : (names : Names) (c : ClassFile) (bodies : List Body) → AreBodiesBelow names c 0 bodies → bodies ≡ []
none_below_zero names c [] are = refl
none_below_zero names c (b ∷ bodies) are = let less = are.below 0 b refl in absurd (omega (arith, less))

module _ (bytes : List ℕ) (w : ClassWalk) (handed : List Body) (is : IsWalk bytes (methods_read w) handed w) where
  from : IsReadable w.class
  from = readable bytes (methods_read w) handed w is

  read_all : is_left_alone w.class ≡ false → methods_read w ≡ length w.class.methods
  read_all changes = ap (λ (t : Bool). cond t 0 (length w.class.methods)) changes

  read_none : is_left_alone w.class ≡ true → methods_read w ≡ 0
  read_none stays = ap (λ (t : Bool). cond t 0 (length w.class.methods)) stays

  -- what is refused at the end
  module _ (changes : is_left_alone w.class ≡ false) where
    known_all : IsKnown w.names w.class (length w.class.methods) handed w.known
    known_all = subst (λ (n : ℕ). IsKnown w.names w.class n handed w.known) (read_all changes) is.known

    code_found : (bad : Option Refusal) (r : Refusal) → w.known.bad ≡ bad → first_of bad (first_of w.known.frames.missing w.known.frames.clash) ≡ Some r
        → IsFirstCause (code_causes w.class) r
    code_found None r none found =
        let k = known_all in
        let are = bodies_read w.names w.class (length w.class.methods) (record { bodies = k.bodies; bad = w.known.bad }) k.read none in
        check_refused w.names w.names w.class k.bodies r (grows_none w.names) are
        (frame_found w.names k.bodies w.known.frames.missing w.known.frames.clash r (k.frames none) found)
    code_found (Some q) r bad found =
        let k = known_all in
        first_in_front (method_causes w.class) (frame_causes w.class) r
        (bad_code_refused w.names w.class (record { bodies = k.bodies; bad = w.known.bad }) r (bad ∙ found) k.read)

  pub end_refused : (r : Refusal) → first_of w.known.bad (first_of w.known.frames.missing w.known.frames.clash) ≡ Some r → AnalysisReason bytes (Some r)
  end_refused r found = by (is_left_alone w.class) refl
    where
      fine_none : IsFine w.known → first_of w.known.bad (first_of w.known.frames.missing w.known.frames.clash) ≡ None
      fine_none fine =
          ap (λ (o : Option Refusal). first_of o (first_of w.known.frames.missing w.known.frames.clash)) fine.0
          ∙ ap (λ (o : Option Refusal). first_of o w.known.frames.clash) fine.1.0 ∙ fine.1.1

      by : (t : Bool) → is_left_alone w.class ≡ t → AnalysisReason bytes (Some r)
      by true stays = absurd (some_is_none r (sym found ∙ fine_none (is.alone_fine stays)))
      by false changes =
          code_refused bytes (methods_read w) handed w is changes r (code_found changes w.known.bad r refl found)

  -- its analysis
  module _ (none : first_of w.known.bad (first_of w.known.frames.missing w.known.frames.clash) ≡ None) where
    fine : IsFine w.known
    fine =
        let two = frames_fine w.known.bad (first_of w.known.frames.missing w.known.frames.clash) none in
        (two.0, frames_fine w.known.frames.missing w.known.frames.clash two.1)

    are : AreBodiesBelow w.names w.class (methods_read w) handed
    are = handed_are w.names w.class (methods_read w) handed w.known from is.known fine

    checked : All (Checked w.names) handed
    checked =
        let sofar = is.known.frames fine.0 in
        let same = (is.known.handed_on fine).0 in
        subst (All (Checked w.names)) (sym same)
        (λ k d less.
        all_checked w.names is.known.bodies w.known.frames.missing w.known.frames.clash
        (frames_fine w.known.bad (first_of w.known.frames.missing w.known.frames.clash) none).1 sofar k (get_or is.known.bodies k d)
        (slice_get-get_or is.known.bodies k d less))

    under : is_left_alone w.class ≡ false → AreBodies w.names w.class handed
    under changes = subst (λ (n : ℕ). AreBodiesBelow w.names w.class n handed) (read_all changes) are

    bodies_unless : (t : Bool) → is_left_alone w.class ≡ t → AreBodiesUnless t w.names w.class handed
    bodies_unless true stays =
        none_below_zero w.names w.class handed (subst (λ (n : ℕ). AreBodiesBelow w.names w.class n handed) (read_none stays) are)
    bodies_unless false changes = under changes

    bodies_are : AreBodiesOf w.class handed
    bodies_are = record { names = w.names; are = bodies_unless (is_left_alone w.class) refl; checked = checked }

    no_cause : NoCause (analysis_causes w.class)
    no_cause = by (is_left_alone w.class) refl
      where
        by : (t : Bool) → is_left_alone w.class ≡ t → NoCause (analysis_causes w.class)
        by true stays =
            subst (λ (u : Bool). NoCause (causes_by w.class u)) (sym stays) (no_class w.class is.no_front_cause)
        by false changes =
            no_cause_checked w.class handed changes (no_class w.class is.no_front_cause) (no_interface w.class is.no_front_cause changes)
            (record { names = w.names; are = under changes; checked = checked })

    pub end_analysed : Ends bytes w.class handed w.known.probes
    end_analysed a described bodies plans probes = record {
      file = w.class;
      text = is.text;
      no_cause = no_cause;
      described = described;
      bodies = subst (AreBodiesOf w.class) (sym bodies) bodies_are;
      analysed = record {
        well_made = subst (All IsWellMade) (sym bodies) (handed_made w.names w.class (methods_read w) handed w.known from is.known fine);
        plans = plans ∙ ap plans_of (sym bodies);
        probes = probes ∙ (is.known.handed_on fine).1 ∙ ap all_probes (sym bodies);
        few = subst (λ (l : List Body). all_insns_and_arms l ≤ most_read) (sym bodies) (few_below w.names w.class (methods_read w) handed from are);
      };
    }

-- ---- the beginning

pub begun : (bytes : List ℕ) (w : ClassWalk) → length bytes ≤ most_read → AreBytes bytes → ClassText bytes w.class → IsClassFile w.class
    → All (λ m. BodiesWithin most_read m.attributes) w.class.methods → NoCause (front_causes w.class)
    → w.known.bad ≡ None → w.known.frames ≡ record { missing = None; clash = None } → w.known.probes ≡ 0 → IsWalk bytes 0 [] w
begun bytes w few are text whole sizes none bad frames probes = record {
  few = few;
  are_bytes = are;
  text = text;
  whole = whole;
  sizes = sizes;
  no_front_cause = none;
  alone_fine = λ stays. (bad, (ap (λ (f : FrameRefusals). f.missing) frames, ap (λ (f : FrameRefusals). f.clash) frames));
  known = none_handed w.names w.class w.known bad frames probes;
}

-- ---- what is answered

-- a subroutine instruction of the next method is refused
pub read_refused : {X : Type 0} (bytes : List ℕ) (n : ℕ) (handed : List Body) (w : ClassWalk) → IsWalk bytes n handed w → is_left_alone w.class ≡ false
    → (answer : Result X (Fail Refusal)) → IfErr answer (λ e. Said e (IsSubroutineAt w.class n)) → IfErr answer (λ e. Said e (λ r. AnalysisReason bytes (Some r)))
read_refused bytes n handed w is changes (Ok x) refused = tt
read_refused bytes n handed w is changes (Err e) refused =
    said_more (IsSubroutineAt w.class n) (λ r. AnalysisReason bytes (Some r)) e (subroutine_refused bytes n handed w is changes) refused
