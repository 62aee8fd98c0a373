-- The bodies of a class, ready for their code to be written, or why there is none.
use Rattle.std.proofs.Common.{◌≡◌, ◌⊎◌, inl, inr, ℕ, ◌<◌, ◌≤◌, Bool, false, List, [], ◌∷◌, ◌++◌, length, get_or, Option, Some, None, Result, Ok, Err, slice_get, refl, sym, ◌∙◌, ap, subst}
use Rattle.std.specs.Prelude.{All, IfErr, IfOk, IfSome}
use Rattle.std.specs.Option.{MatchOption}
use Rattle.std.proofs.lemmas.Bool.{cases_lt}
use Rattle.std.proofs.lemmas.List.{length-map}
use Rattle.std.proofs.lemmas.List.Elements.{All-nil}
use Rattle.std.proofs.lemmas.Option.{same_Some, slice_get-get_or}
use Rattle.jc_methods.specs.ProbeMembers.{most_probes}
use Rattle.jc_methods.specs.VerificationTypes.{Grows, Names}
use Rattle.jc_methods.specs.WellMade.{IsWellMade}
use Rattle.jc_methods.specs.declared.body.Body.{Body}
use Rattle.jc_methods.proofs.MetNamesLaws.{grows_none}
use Rattle.jc_bytes.specs.Failing.{Said}
use Rattle.jc_bytes.specs.declared.fail.Fail.{Fail}
use Rattle.jc_bytes.specs.declared.refusal.Refusal.{Refusal}
use Rattle.jc_bytes.specs.declared.refusal.RefusalKind.TheVariants as kinds
use Rattle.jc_class.specs.declared.class_file.ClassFile.{ClassFile}
use Rattle.jc_body.specs.BodyOf.{BodyOf}
use Rattle.jc_kinds.specs.Checked.{Checked}
use Rattle.jc_plan.specs.Analysed.{all_probes}
use Rattle.jc_plan.specs.Probed.{first_id}
use Rattle.jc_instrument_reread.proofs.SameBodyLaws.{grown_same, same_check}
use Rattle.jc_instrument.specs.Bodies.{AreBodiesUnless, AreBodiesOf}
use Rattle.jc_instrument.specs.BodiesWithStates.{AreBodiesWithStates, BodyWithStates, bodies_of}
use Rattle.jc_instrument.specs.Causes.{Cause, IsFirstCause, NoCause, InMethod}
use Rattle.jc_instrument.specs.Constants.{AreConstants}
use Rattle.jc_instrument.specs.Found.{first_of}
use Rattle.jc_instrument.specs.LeftAlone.{is_left_alone}
use Rattle.jc_instrument.specs.Looking.{HaveBodies, IsLooking, RoomSoFar}
use Rattle.jc_instrument.specs.Probing.{AreShortBelow, IsFirstTooLong}
use Rattle.jc_instrument.specs.Ready.{ArePlanned, IsPlannedBody}
use Rattle.jc_instrument.specs.ReadyClass.{IsReadyClass, making_causes}
use Rattle.jc_instrument.specs.Reasons.{IsFaulty, code_causes, frame_causes, method_causes}
use Rattle.jc_instrument.specs.RoomCauses.{HasTooLargeCode, early_room_causes}
use Rattle.jc_instrument.specs.Steps.{AreCheckedUnder}
use Rattle.jc_instrument.specs.Writing.{ArePlannedWorks, IsPlannedWork}
use Rattle.jc_instrument.specs.declared.constants.ProbeConstants.{ProbeConstants}
use Rattle.jc_instrument.specs.declared.looking.Looking.{Looking}
use Rattle.jc_instrument.specs.declared.ready.PlannedBody.{PlannedBody}
use Rattle.jc_instrument.specs.declared.ready_class.ReadyClass.{ReadyClass}
use Rattle.jc_instrument.proofs.AnswerLaws.{said_more}
use Rattle.jc_instrument.proofs.CauseLaws.{first_behind, first_in_front, none_in_both}
use Rattle.jc_instrument.proofs.CheckingLaws.{all_checked, frame_found, frames_fine}
use Rattle.jc_instrument.proofs.FrameCauseLaws.{each_at}
use Rattle.jc_instrument.proofs.ListedLaws.{body_at, grown_bodies}
use Rattle.jc_instrument.proofs.ReadingLaws.{bad_code_refused}
use Rattle.jc_instrument.proofs.SameWorksLaws.{zip_of_places}
use Rattle.jc_instrument.proofs.SomeWorksLaws.{works_under}
use Rattle.jc_instrument.proofs.TooLargeLaws.{none_too_large, too_large_found}
use Rattle.jc_instrument.proofs.WholeLaws.{check_refused, no_code_cause}

-- the causes behind those of code
abbrev pub room : ClassFile → List Cause
room c = early_room_causes c ++ (HasTooLargeCode c ∷ [])

module _ (names : Names) (c : ClassFile) (bodies : List Body) (changes : is_left_alone c ≡ false) (is : AreCheckedUnder names c bodies) where
  pub of_class : AreBodiesOf c bodies
  of_class = record {
    names = names;
    are = subst (λ (t : Bool). AreBodiesUnless t names c bodies) (sym changes) is.are;
    checked = is.checked;
  }

  no_code : NoCause (code_causes c)
  no_code = no_code_cause c bodies (record { names = names; are = is.are; checked = is.checked })

  pub room_refused : (r : Refusal) → IsFirstCause (room c) r → IsFirstCause (making_causes c) r
  room_refused r first = first_behind (code_causes c) (room c) r no_code first

  pub class_ready : (r : ReadyClass) → All IsWellMade bodies → ArePlanned names r.constants bodies r.bodies → r.probes ≡ all_probes bodies
      → AreConstants c r.probes r.bootstrap r.constants → NoCause (room c) → IsReadyClass names c r
  class_ready r made so count_is loads none = record {
    bodies = bodies;
    are = is;
    made = made;
    planned = so;
    probes = count_is;
    loads = loads;
    no_cause = none_in_both (code_causes c) (room c) no_code none;
  }

-- ---- room and layouts

-- a refusal of those that are looked for before layouts comes before that of a layout
pub early_first : (c : ClassFile) (r : Refusal) → IsFirstCause (early_room_causes c) r → IsFirstCause (room c) r
early_first c r first = first_in_front (early_room_causes c) (HasTooLargeCode c ∷ []) r first

module _ (c : ClassFile) (bodies : List Body) (are : AreBodiesOf c bodies) (none : NoCause (early_room_causes c)) (count bootstrap : ℕ) (constants : ProbeConstants)
    (count_is : count ≡ all_probes bodies) (loads : AreConstants c count bootstrap constants) where
  loads_all : AreConstants c (all_probes bodies) bootstrap constants
  loads_all = subst (λ (n : ℕ). AreConstants c n bootstrap constants) count_is loads

  pub large_first : (r : Refusal) → IsFirstTooLong constants bodies r → IsFirstCause (room c) r
  large_first r found =
      first_behind (early_room_causes c) (HasTooLargeCode c ∷ []) r none (inl (too_large_found c bodies are bootstrap constants loads_all r found))

  pub none_of_room : AreShortBelow constants bodies (length bodies) → NoCause (room c)
  none_of_room short =
      none_in_both (early_room_causes c) (HasTooLargeCode c ∷ []) none (none_too_large c bodies are bootstrap constants loads_all short, tt)

-- ---- what was found in all methods

-- Nothing refuses the code and the frames of these bodies.
pub record AreFine (names : Names) (c : ClassFile) (s : Looking) : Type 0 where
  pub bodies : List Body
  pub are : AreCheckedUnder names c bodies
  pub made : All IsWellMade bodies
  pub room : RoomSoFar names bodies s

module _ (names : Names) (c : ClassFile) (s : Looking) (so : IsLooking names c (length c.methods) s) where
  abbrev Have : Type 0
  Have = HaveBodies names c (length c.methods) s

  code_found : (bad : Option Refusal) (r : Refusal) → MatchOption bad Have (InMethod kinds.BadCode (IsFaulty c kinds.BadCode))
      → first_of bad (first_of s.frames.missing s.frames.clash) ≡ Some r → IsFirstCause (code_causes c) r
  code_found None r h is =
      check_refused names names c h.bodies r (grows_none names) h.are (frame_found names h.bodies s.frames.missing s.frames.clash r h.so.frames is)
  code_found (Some q) r first is =
      first_in_front (method_causes c) (frame_causes c) r
      (bad_code_refused names c (record { bodies = []; bad = Some q }) r is
      (record { no_subroutine = so.no_subroutine; well_made = All-nil IsWellMade; found = first }))

  pub code_refused : (r : Refusal) → first_of s.bad (first_of s.frames.missing s.frames.clash) ≡ Some r → IsFirstCause (making_causes c) r
  code_refused r is = first_in_front (code_causes c) (room c) r (code_found s.bad r so.found is)

  fine_of : (bad : Option Refusal) → MatchOption bad Have (InMethod kinds.BadCode (IsFaulty c kinds.BadCode))
      → first_of bad (first_of s.frames.missing s.frames.clash) ≡ None → AreFine names c s
  fine_of None h is =
      let fine = frames_fine s.frames.missing s.frames.clash is in
      let checked = all_checked names h.bodies s.frames.missing s.frames.clash is h.so.frames in
      record {
        bodies = h.bodies;
        are = record {
          are = h.are;
          checked = λ k d less. checked k (get_or h.bodies k d) (slice_get-get_or h.bodies k d less);
        };
        made = h.so.made;
        room = h.so.room fine;
      }
  fine_of (Some q) first is = absurd (some_is_none is)
    where
      some_is_none : Some q ≡ None → ⊥
      some_is_none e = cc

  pub are_fine : first_of s.bad (first_of s.frames.missing s.frames.clash) ≡ None → AreFine names c s
  are_fine is = fine_of s.bad so.found is

-- ---- what the layouts answer

checked_grown : (old new : Names) (c : ClassFile) (bodies : List Body) → Grows old new → AreCheckedUnder old c bodies → AreCheckedUnder new c bodies
checked_grown old new c bodies grows is = record {
  are = grown_bodies old new c (length c.methods) bodies grows is.are;
  checked = λ k d less.
      let b = get_or bodies k d in
      let numbers = (is.are.each k b (slice_get-get_or bodies k d less)).is.parts.numbers in
      same_check old new b b (grown_same old new b grows numbers) (is.checked k d less);
}

abbrev Answer : Type 0
Answer = Result ReadyClass (Fail Refusal)

module _ (old new : Names) (grows : Grows old new) (c : ClassFile) (changes : is_left_alone c ≡ false) (s : Looking) (fine : AreFine old c s) where
  pub ready_from : (answer : Answer) → IfOk answer (λ r. ArePlanned new r.constants fine.bodies r.bodies) → IfOk answer (λ r. r.probes ≡ s.probes)
      → IfOk answer (λ r. AreConstants c r.probes r.bootstrap r.constants) → IfOk answer (λ r. NoCause (room c)) → IfOk answer (IsReadyClass new c)
  ready_from (Ok r) planned probes loads none =
      class_ready new c fine.bodies changes (checked_grown old new c fine.bodies grows fine.are) r fine.made planned (probes ∙ fine.room.probes) loads none
  ready_from (Err e) planned probes loads none = tt

  pub refused_from : (answer : Answer) → IfErr answer (λ e. Said e (IsFirstCause (room c))) → IfErr answer (λ e. Said e (IsFirstCause (making_causes c)))
  refused_from (Ok r) refused = tt
  refused_from (Err e) refused =
      said_more (IsFirstCause (room c)) (IsFirstCause (making_causes c)) e (room_refused old c fine.bodies changes fine.are) refused

-- ---- works

-- The bodies of the class have works, under more names, which what is planned stands for.
pub record ReadyWorks (names : Names) (c : ClassFile) (r : ReadyClass) : Type 0 where
  pub others : Names
  pub array : ℕ
  pub works : List BodyWithStates
  pub are : AreBodiesWithStates others array c works
  pub of : (source : Option ClassFile) → IfSome source (λ s. s ≡ c) → ArePlannedWorks names others r.constants array source r.bodies works
  pub count : r.probes ≡ all_probes (bodies_of works)

from_source : (names : Names) (c : ClassFile) (source : Option ClassFile) (b : Body) → IfSome source (λ s. s ≡ c) → BodyOf names c b.method b
    → IfSome source (λ s. BodyOf names s b.method b)
from_source names c None b same body = tt
from_source names c (Some s) b same body = subst (λ (k : ClassFile). BodyOf names k b.method b) (sym same) body

pub ready_works : (names : Names) (c : ClassFile) (r : ReadyClass) → IsReadyClass names c r → ReadyWorks names c r
ready_works names c r is =
    let bodies = is.bodies in
    let some = works_under names c bodies is.are.are (λ i b at. each_at IsWellMade bodies is.made i b at)
    (λ i b at. each_at (Checked names) bodies is.are.checked i b at) in
    let works = some.works in
    let there : (i : ℕ) (w : BodyWithStates) → slice_get works i ≡ Some w → slice_get bodies i ≡ Some w.body = λ i w at.
    ap (λ (l : List Body). slice_get l i) (sym some.same) ∙ body_at works i w at in
    record {
      others = some.names;
      array = some.array;
      works = works;
      are = some.are;
      of = λ source same. zip_of_places (IsPlannedWork names some.names r.constants some.array source) r.bodies works
          (is.planned.count ∙ ap (λ (l : List Body). length l) (sym some.same) ∙ length-map works (λ (w : BodyWithStates). w.body))
          (λ i p w at stands.
          let one = is.planned.each i p at in
          let body = is.are.are.each i w.body (there i w stands) in
          let first : first_id bodies i ≡ w.first = ap (λ (l : List Body). first_id l i) (sym some.same) ∙ sym (some.are.each i w stands).first in
          record {
            planned = subst (λ (n : ℕ). IsPlannedBody names r.constants w.body n p) first
                (subst (λ (b : Body). IsPlannedBody names r.constants b (first_id bodies i) p) (same_Some one.body w.body (sym one.stands ∙ there i w stands)) one.is);
            body = from_source names c source w.body same body;
            numbered = body.is.parts.numbers;
            seen = (grown_same names some.names w.body some.grows body.is.parts.numbers).seen;
            states = (some.are.each i w stands).states;
            array_is = some.are.array_is;
          });
      count = is.probes ∙ ap all_probes (sym some.same);
    }
