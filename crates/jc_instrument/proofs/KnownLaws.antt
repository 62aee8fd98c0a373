-- Methods of a class, whose bodies are handed on one after the other.
use Rattle.std.proofs.Common.{◌≡◌, ℕ, ◌+◌, ◌≤◌, List, [], ◌∷◌, ◌++◌, Option, Some, None, refl, sym, ◌∙◌, ap, ap₂, subst, arith}
use Rattle.std.specs.Prelude.{All}
use Rattle.std.specs.Option.{MatchOption}
use Rattle.std.proofs.lemmas.List.Elements.{All-nil}
use Rattle.std.proofs.lemmas.List.Sums.{sum_by_push}
use Rattle.std.proofs.lemmas.Option.{none-some}
use Rattle.jc_methods.specs.VerificationTypes.{Names, Grows}
use Rattle.jc_methods.specs.WellMade.{IsWellMade}
use Rattle.jc_methods.specs.declared.body.Body.{Body}
use Rattle.jc_methods.specs.declared.plan.Plan.{Plan}
use Rattle.jc_bytes.specs.Failing.{Said}
use Rattle.jc_bytes.specs.declared.fail.Fail.{Fail}
use Rattle.jc_bytes.specs.declared.refusal.Refusal.{Refusal}
use Rattle.jc_bytes.specs.declared.refusal.RefusalKind.TheVariants as kinds
use Rattle.jc_class.specs.declared.class_file.ClassFile.{ClassFile}
use Rattle.jc_body.specs.BodyOf.{BodyOf, Bodiless, FaultOf}
use Rattle.jc_plan.specs.Analysed.{all_probes}
use Rattle.jc_plan.specs.Plan.{plan_of}
use Rattle.jc_plan.specs.Probed.{probe_count}
use Rattle.jc_instrument.specs.Bodies.{AreBodiesBelow, IsReadable}
use Rattle.jc_instrument.specs.Causes.{InMethod}
use Rattle.jc_instrument.specs.Found.{ChecksOn, FramesSoFar}
use Rattle.jc_instrument.specs.Known.{HandsOn, IsFine, IsHandedOn, IsKnown, IsOneMore, KnowsOn}
use Rattle.jc_instrument.specs.Reasons.{IsFaulty}
use Rattle.jc_instrument.specs.Steps.{IsKept, IsReading}
use Rattle.jc_instrument.specs.declared.bodies.Reading.{Reading}
use Rattle.jc_instrument.specs.declared.found.FrameRefusals.{FrameRefusals}
use Rattle.jc_instrument.specs.declared.known.Known.{Known}
use Rattle.jc_instrument.specs.declared.known.PlannedMethod.{PlannedMethod}
use Rattle.jc_instrument.proofs.CheckingLaws.{checked_on, fine_before, frames_grown, some_is_none}
use Rattle.jc_instrument.proofs.ListedLaws.{no_bodies}
use Rattle.jc_instrument.proofs.ReadingLaws.{body_read, fault_kept, none_read}
use Rattle.jc_instrument.proofs.SmallBodiesLaws.{probes_below}

-- the bodies that were read, where no code has a fault
pub bodies_read : (names : Names) (c : ClassFile) (n : ℕ) (reading : Reading) → IsReading names c n reading → reading.bad ≡ None
    → AreBodiesBelow names c n reading.bodies
bodies_read names c n reading is none =
    subst (λ (o : Option Refusal). MatchOption o (AreBodiesBelow names c n reading.bodies) (InMethod kinds.BadCode (IsFaulty c kinds.BadCode))) none is.found

-- ---- the steps

module _ (old new : Names) (c : ClassFile) (n : ℕ) (grows : Grows old new) (handed : List Body) (k : Known) (before : IsKnown old c n handed k) where
  grown : k.bad ≡ None → FramesSoFar new before.bodies k.frames.missing k.frames.clash
  grown none =
      let are = bodies_read old c n (record { bodies = before.bodies; bad = k.bad }) before.read none in
      frames_grown old new grows before.bodies (λ i x at. (are.each i x at).is.parts.numbers) k.frames.missing k.frames.clash (before.frames none)

  -- the method has no code
  pub none_known : Bodiless c n → IsKnown new c (n + 1) handed k
  none_known none = record {
    bodies = before.bodies;
    read = none_read old new c n grows (record { bodies = before.bodies; bad = k.bad }) before.read none;
    frames = grown;
    handed_on = before.handed_on;
  }

  -- it has a body
  module _ (b : Body) (body : BodyOf new c n b) (made : IsWellMade b) (t : Known) (bad : t.bad ≡ k.bad) (checks : k.bad ≡ None → ChecksOn new b k.frames t.frames) where
    read_on : IsReading new c (n + 1) (record { bodies = before.bodies ++ b ∷ []; bad = t.bad })
    read_on =
        body_read old new c n grows before.bodies (before.bodies ++ b ∷ []) t.bad b refl
        (subst (λ (o : Option Refusal). IsReading old c n (record { bodies = before.bodies; bad = o })) (sym bad) before.read) body made

    frames_on : t.bad ≡ None → FramesSoFar new (before.bodies ++ b ∷ []) t.frames.missing t.frames.clash
    frames_on none =
        let was = sym bad ∙ none in
        checked_on new before.bodies b k.frames t.frames (grown was) (checks was)

    fine_was : IsFine t → IsFine k
    fine_was fine = let was = sym bad ∙ fine.0 in (was, fine_before new b k.frames t.frames (checks was) fine.1)

    pub kept_back : (IsFine t → ⊥) → IsKnown new c (n + 1) handed t
    kept_back not_fine = record { bodies = before.bodies ++ b ∷ []; read = read_on; frames = frames_on; handed_on = λ fine. absurd (not_fine fine) }

    pub one_more : (m : PlannedMethod) → IsHandedOn b k t m → IsOneMore new c (n + 1) handed t m
    one_more m on =
        let was = before.handed_on (fine_was on.fine) in
        let plan : m.plan ≡ plan_of m.body (all_probes handed) = on.plan ∙ ap₂ plan_of (sym on.body) was.1 in
        let end : t.probes ≡ all_probes handed + probe_count m.body = on.next ∙ ap (λ (p : Plan). p.next) plan in
        record {
          known = record {
            bodies = before.bodies ++ b ∷ [];
            read = read_on;
            frames = frames_on;
            handed_on = λ fine. (
              ap₂ (λ (l : List Body) (x : Body). l ++ x ∷ []) was.0 on.body,
              end ∙ sym (sum_by_push probe_count handed m.body),
            );
          };
          fine = on.fine;
          plan = plan;
        }

    hands : (more : Option PlannedMethod) → MatchOption more (IsFine t → ⊥) (IsHandedOn b k t) → KnowsOn new c (n + 1) handed t more
    hands None none = kept_back none
    hands (Some m) on = one_more m on

  pub body_known : (b : Body) → BodyOf new c n b → IsWellMade b → (t : Known) (more : Option PlannedMethod) → HandsOn new b k t more
      → KnowsOn new c (n + 1) handed t more
  body_known b body made t more on = hands b body made t on.bad on.frames more on.handed_on

-- its code has a fault that is no subroutine instruction
pub fault_known : (old new : Names) (c : ClassFile) (n : ℕ) (handed : List Body) (k : Known) (kept : Option Refusal) (e : Fail Refusal) → Said e (FaultOf c n)
    → IsKept k.bad kinds.Subroutine e kept → IsKnown old c n handed k → IsKnown new c (n + 1) handed (record k { bad = kept })
fault_known old new c n handed k kept e said is before = record {
  bodies = before.bodies;
  read = fault_kept old new c n (record { bodies = before.bodies; bad = k.bad }) kept e said is before.read;
  frames = λ none. absurd (some_is_none _ (sym is.new_is ∙ none));
  handed_on = λ fine. absurd (some_is_none _ (sym is.new_is ∙ fine.0));
}

-- ---- the numbers so far

module _ (names : Names) (c : ClassFile) (n : ℕ) (handed : List Body) (k : Known) (from : IsReadable c) (is : IsKnown names c n handed k) (fine : IsFine k) where
  pub handed_are : AreBodiesBelow names c n handed
  handed_are =
      subst (AreBodiesBelow names c n) (sym (is.handed_on fine).0)
      (bodies_read names c n (record { bodies = is.bodies; bad = k.bad }) is.read fine.0)

  pub handed_made : All IsWellMade handed
  handed_made = subst (All IsWellMade) (sym (is.handed_on fine).0) is.read.well_made

  pub probes_few : k.probes ≤ 134217728
  probes_few =
      let count = (is.handed_on fine).1 in
      let few = probes_below names c n handed from handed_are in
      omega (arith, count, few)

-- ---- the beginning

pub none_handed : (names : Names) (c : ClassFile) (k : Known) → k.bad ≡ None → k.frames ≡ record { missing = None; clash = None } → k.probes ≡ 0
    → IsKnown names c 0 [] k
none_handed names c k bad frames probes = record {
  bodies = [];
  read = record {
    no_subroutine = λ before place less. absurd (omega (arith, less));
    well_made = All-nil IsWellMade;
    found = subst (λ (o : Option Refusal). MatchOption o (AreBodiesBelow names c 0 []) (InMethod kinds.BadCode (IsFaulty c kinds.BadCode))) (sym bad)
        (no_bodies names c [] refl);
  };
  frames = λ none. subst (λ (f : FrameRefusals). FramesSoFar names [] f.missing f.clash) (sym frames) (λ i b at. absurd (none-some b at));
  handed_on = λ fine. (refl, probes);
}
