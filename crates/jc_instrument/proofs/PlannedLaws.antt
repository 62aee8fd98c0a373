-- Bodies that were kept or are read again, under more names.
use Rattle.std.proofs.Common.{◌≡◌, ℕ, zero, suc, ◌+◌, ◌≤◌, Bool, true, false, List, [], ◌∷◌, ◌++◌, Option, Some, None, slice_get, length, map, refl, sym, ◌∙◌, ap, subst, if◌then◌else◌}
use Rattle.std.specs.Prelude.{IfSome}
use Rattle.std.specs.List.{list_any}
use Rattle.std.proofs.lemmas.Option.{none-some, same_Some}
use Rattle.jc_methods.specs.VerificationTypes.{Names, Grows, AreNumberedFrames, type_state_at}
use Rattle.jc_methods.specs.declared.body.Body.{Body}
use Rattle.jc_methods.proofs.NumberedLaws.{frames_numbered, grown_count}
use Rattle.jc_bytes.specs.declared.fail.Fail.TheVariants as fails
use Rattle.jc_class.specs.declared.class_file.ClassFile.{ClassFile}
use Rattle.jc_body.specs.BodyOf.{BodyOf}
use Rattle.jc_plan.specs.Plan.{plan_of}
use Rattle.jc_kinds.specs.Checked.{Checked}
use Rattle.jc_instrument_reread.proofs.SameBodyLaws.{grown_same, same_check}
use Rattle.jc_instrument.specs.Bodies.{AreBodies}
use Rattle.jc_instrument.specs.BodiesWithStates.{BodyWithStates}
use Rattle.jc_instrument.specs.Ready.{ArePlanned, AreReadyFrom, IsPlannedBody, IsReadAgain, IsReadyFrom, IsSource, TakesProbes, is_unread, method_of, source_of}
use Rattle.jc_instrument.specs.Writing.{IsPlannedWork, IsWorkOf}
use Rattle.jc_instrument.specs.declared.constants.ProbeConstants.{ProbeConstants}
use Rattle.jc_instrument.specs.declared.ready.PlannedBody.{PlannedBody}
use Rattle.jc_instrument.specs.declared.ready.PlannedBody.TheVariants.{Ready, Unread}
use Rattle.jc_instrument.specs.declared.ready.ReadyBody.{ReadyBody}
use Rattle.jc_instrument.specs.declared.ready.UnreadBody.{UnreadBody}
use Rattle.jc_instrument.proofs.OneBodyLaws.{grown_body}
use Rattle.jc_instrument.proofs.WritingLaws.{ready_grown}

-- the number of its method
pub planned_method : (names : Names) (constants : ProbeConstants) (b : Body) (first : ℕ) (p : PlannedBody) → IsPlannedBody names constants b first p → method_of p ≡ b.method
planned_method names constants b first (Ready r) is = ap (λ (x : Body). x.method) is.1
planned_method names constants b first (Unread u) is = is.0

-- what is said isn't want of memory
pub none_said : {E : Type 0} (e : E) → fails.Said e ≡ fails.Memory → ⊥
none_said e is = cc

-- a body that passes the kind check passes it under more names
pub check_grown : (old new : Names) (b : Body) → Grows old new → AreNumberedFrames (length old) b.frames → Checked old b → Checked new b
check_grown old new b grows numbered checked = same_check old new b b (grown_same old new b grows numbered) checked

module _ (constants : ProbeConstants) (old new : Names) (grows : Grows old new) where
  pub again_grown : (c : ClassFile) (u : UnreadBody) → IsReadAgain old constants c u → IsReadAgain new constants c u
  again_grown c u a = record {
    source = a.source;
    body = a.body;
    is = grown_body old new c u.method a.body grows a.is;
    checked = check_grown old new a.body grows a.is.is.parts.numbers a.checked;
    takes = a.takes;
  }

  pub ready_from_grown : (source : Option ClassFile) (p : PlannedBody) → IsReadyFrom old constants source p → IsReadyFrom new constants source p
  ready_from_grown source (Ready r) ready = ready_grown old new r grows ready
  ready_from_grown None (Unread u) ready = absurd ready
  ready_from_grown (Some c) (Unread u) ready = again_grown c u ready

  pub planned_grown : (b : Body) (first : ℕ) (p : PlannedBody) → IsPlannedBody old constants b first p → IsPlannedBody new constants b first p
  planned_grown b first (Ready r) is = (ready_grown old new r grows is.0, is.1, is.2)
  planned_grown b first (Unread u) is = is

  pub source_grown : (source : Option ClassFile) (b : Body) → IfSome source (λ c. BodyOf old c b.method b) → IfSome source (λ c. BodyOf new c b.method b)
  source_grown None b body = tt
  source_grown (Some c) b body = grown_body old new c b.method b grows body

  module _ (others : Names) (array : ℕ) (source : Option ClassFile) (p : PlannedBody) (w : BodyWithStates) (of : IsPlannedWork old others constants array source p w) where
    seen_now : map (type_state_at new) w.body.frames ≡ map (type_state_at others) w.body.frames
    seen_now = sym (grown_same old new w.body grows of.numbered).seen ∙ of.seen

    pub planned_work_on : IsPlannedWork new others constants array source p w
    planned_work_on = record {
      planned = planned_grown w.body w.first p of.planned;
      body = source_grown source w.body of.body;
      numbered = frames_numbered _ _ w.body.frames (grown_count old new grows) of.numbered;
      seen = seen_now;
      states = of.states;
      array_is = of.array_is;
    }

    -- the body that was made ready is that of the work
    pub work_of_ready : (r : ReadyBody) → r.body ≡ w.body → r.plan ≡ plan_of r.body w.first → IsWorkOf new others array r w
    work_of_ready r same plan = record {
      body = same;
      plan = plan;
      seen = subst (λ (b : Body). map (type_state_at new) b.frames ≡ map (type_state_at others) b.frames) (sym same) seen_now;
      states = of.states;
      array_is = of.array_is;
    }

-- ---- the class file from which bodies are read again

-- if there is one, it is the class
pub source_is : (planned : List PlannedBody) (c : ClassFile) (source : Option ClassFile) → source ≡ source_of planned c → IfSome source (λ s. s ≡ c)
source_is planned c source is = subst (λ (o : Option ClassFile). IfSome o (λ s. s ≡ c)) (sym is) (by (list_any is_unread planned))
  where
    by : (t : Bool) → IfSome (if t then Some c else None) (λ s. s ≡ c)
    by true = refl
    by false = tt

-- one of them is to be read again
is_some : (planned : List PlannedBody) (i : ℕ) (u : UnreadBody) → slice_get planned i ≡ Some (Unread u) → list_any is_unread planned ≡ true
is_some [] i u at = absurd (none-some (Unread u) at)
is_some (Unread v ∷ planned) i u at = refl
is_some (Ready r ∷ planned) zero u at = absurd (kept_or_unread (same_Some (Ready r) (Unread u) at))
  where
    kept_or_unread : Ready r ≡ Unread u → ⊥
    kept_or_unread e = cc
is_some (Ready r ∷ planned) (suc i) u at = is_some planned i u at

module _ (names : Names) (constants : ProbeConstants) (c : ClassFile) (bodies : List Body) (planned : List PlannedBody) (are : AreBodies names c bodies)
    (checked : (i : ℕ) (b : Body) → slice_get bodies i ≡ Some b → Checked names b) (so : ArePlanned names constants bodies planned) (from : IsSource c) where
  one_ready : (i : ℕ) (p : PlannedBody) → slice_get planned i ≡ Some p → IsReadyFrom names constants (source_of planned c) p
  one_ready i (Ready r) at = (so.each i (Ready r) at).is.0
  one_ready i (Unread u) at =
      let one = so.each i (Unread u) at in
      subst (λ (t : Bool). IsReadyFrom names constants (if t then Some c else None) (Unread u)) (sym (is_some planned i u at)) (record {
        source = from;
        body = one.body;
        is = subst (λ (n : ℕ). BodyOf names c n one.body) (sym one.is.0) (are.each i one.body one.stands);
        checked = checked i one.body one.stands;
        takes = subst (TakesProbes constants one.body) (sym one.is.1) one.is.2;
      })

  all_ready : (source : Option ClassFile) (rest : List PlannedBody) → ((i : ℕ) (p : PlannedBody) → slice_get rest i ≡ Some p → IsReadyFrom names constants source p)
      → AreReadyFrom names constants source rest
  all_ready source [] each = tt
  all_ready source (p ∷ rest) each = (each 0 p refl, all_ready source rest (λ i q at. each (suc i) q at))

  -- each that was kept is ready, and each other is read again from the class
  pub are_ready_from : (source : Option ClassFile) → source ≡ source_of planned c → AreReadyFrom names constants source planned
  are_ready_from source is = subst (λ (o : Option ClassFile). AreReadyFrom names constants o planned) (sym is) (all_ready (source_of planned c) planned one_ready)
