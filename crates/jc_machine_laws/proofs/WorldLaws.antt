-- Each turn keeps a world fitting.
use Rattle.std.proofs.Common.{◌≡◌, ℕ, List, Option, Some, None, refl, sym, ap, subst, ◌∙◌, [], ◌∷◌}
use Rattle.std.specs.List.{AllByRecursion}
use Rattle.std.specs.Prelude.{slice_get}
use Rattle.jc_bytes.proofs.ListLaws.{all_at as get_each}
use Rattle.jc_bytes.proofs.EachLaws.{all_both}
use Rattle.jc_methods.specs.declared.insn.Insn.{Insn}
use Rattle.jc_methods.specs.declared.body.Body.{Body}
use Rattle.jc_methods.specs.VerificationTypes.{VerificationType, TypeState}
use Rattle.jc_methods.specs.Insn.{IsWellFormed}
use Rattle.jc_methods.specs.declared.insn.Insn.TheVariants as insns
use Rattle.jc_programs.specs.declared.program.Program.{Program}
use Rattle.jc_programs.specs.declared.program.Linked.{Linked}
use Rattle.jc_programs.specs.declared.run_plan.Case.{Case}
use Rattle.jc_programs.specs.declared.run_plan.ThreadLine.{ThreadLine}
use Rattle.jc_programs.specs.declared.run_end.Entry.{Entry}
use Rattle.jc_programs.specs.Entries.{AreEntries}
use Rattle.jc_kinds_after.specs.After.{after_of}
use Rattle.jc_machine_model.specs.Programs.{IsProgram}
use Rattle.jc_machine_model.specs.World.{Frame, Thread, running, returned, threw, stuck, Shared, World}
use Rattle.jc_machine_model.specs.Results.{Result}
use Rattle.jc_machine_model.specs.Profile.{operation_of}
use Rattle.jc_machine_model.specs.Perform.{perform}
use Rattle.jc_machine_model.specs.Step.{located, operation_at, After, after_result, result_of, turn_of, with_after, step_of, step}
use Rattle.jc_machine_model.specs.Begin.{begin, entries_of}
use Rattle.jc_machine_model.specs.Run.{run_from, run}
use Rattle.jc_machine_model.specs.Fits.{Typing, IsProbe, FitsRunningBy, FitsThreadBy, FitsWorldBy, FitsWorld}
use Rattle.jc_machine_model.proofs.BeginLaws.{all_at, begin_fits}
use Rattle.jc_machine_laws.specs.Laws.{StepFitsBy, StepFits, StepHits, RunFits}
use Rattle.jc_machine_laws.specs.Typings.{IsFlowing, TakesBy, kept_types}
use Rattle.jc_machine_laws.proofs.TypedLaws.{HoldingTyping}
use Rattle.jc_machine_laws.proofs.PlainlyLaws.{plain, plainly_flows}
use Rattle.jc_machine_laws.proofs.OnwardLaws.{Here, here_by}
use Rattle.jc_machine_laws.proofs.GrowLaws.{same_heap, each_to, thread_on, SharedFits}
use Rattle.jc_machine_laws.proofs.StepLaws.{Turn, Fine}
use Rattle.jc_machine_laws.proofs.StaticLaws.{set_each}
use Rattle.jc_machine_laws.proofs.ReturnLaws.{at_of, located_is, after_is}
use Rattle.jc_machine_laws.proofs.ThreadLaws.{Lands, lands}
use Rattle.jc_machine_laws.proofs.SimpleLaws.{simple_at, push_at, local_at, inc_at, new_array_at, jump_at, table_at, lookup_at}
use Rattle.jc_machine_laws.proofs.PoolLaws.{constant_at, constant2_at, of_class_at, member_at}

-- what an instruction of the frame's method does
abbrev pub result_by : Program → Shared → Frame → Linked → Body → Insn → Result
result_by program s f c b insn = perform (operation_of program (at_of f c b) insn) s f

-- each instruction
module _ (ty : HoldingTyping) (program : Program) (s : Shared) (f : Frame) (c : Linked) (b : Body) (k t : TypeState) where
  pub performed : (insn : Insn) → IsProgram program → IsWellFormed insn → Turn ty program s f c b insn k t
      → TakesBy ty.passes (kept_types (operation_of program (at_of f c b) insn)) k.stack → Fine ty program s f b (result_by program s f c b insn)
  unfolding operation_of perform Fine
  performed (insns.Simple op) p w turn takes = simple_at op f.method.class turn takes
  performed (insns.Push op value) p w turn takes = push_at op value w turn
  performed (insns.Local op slot) p w turn takes = local_at op slot turn
  performed (insns.Inc slot by) p w turn takes = inc_at slot by turn
  performed (insns.Constant place) p w turn takes = constant_at place turn
  performed (insns.Constant2 place) p w turn takes = constant2_at place turn
  performed (insns.Member op place) p w turn takes = member_at op place p turn takes
  performed (insns.Interface place count) p w turn takes = tt
  performed (insns.Dynamic place) p w turn takes = tt
  performed (insns.OfClass op place) p w turn takes = of_class_at op place turn
  performed (insns.NewArray elem) p w turn takes = new_array_at elem turn
  performed (insns.Multi place dims) p w turn takes = tt
  performed (insns.Jump op to) p w turn takes = jump_at op to w turn
  performed (insns.Table low default arms) p w turn takes = table_at low default arms turn
  performed (insns.Lookup default arms) p w turn takes = lookup_at default arms turn

module _ (ty : HoldingTyping) (program : Program) (flowing : IsFlowing ty.typing ty.passes program) (p : IsProgram program) where
  -- a turn of a running thread
  pub running_lands : (s : Shared) (f : Frame) (waiting : List Frame) → SharedFits ty program s
      → FitsRunningBy ty.typing program s.heap f waiting → Lands ty program s (after_result program (result_of program s f) s f waiting)
  running_lands s f waiting w run =
      subst (λ r. Lands ty program s (after_result program r s f waiting)) (sym result_is)
      (lands flowing p h.1 w waiting run (result_by program s f run.top.stands.linked run.top.stands.body h.0) fine)
    where
      h : (insn : Insn) × Here program f run.top.stands.linked run.top.stands.body insn run.top.state
      h = here_by ty program flowing s.heap f run.top.state p run.top.stands

      next : (t : TypeState) × (after_of run.top.stands.body f.place run.top.state ≡ Some t)
      next = after_is program f run.top.stands.linked run.top.stands.body h.0 run.top.state h.1

      located_here : located program f.method f.place ≡ Some (record { at = at_of f run.top.stands.linked run.top.stands.body; insn = h.0 })
      located_here = located_is program f run.top.stands.linked run.top.stands.body h.0 run.top.state h.1

      result_is : result_of program s f ≡ result_by program s f run.top.stands.linked run.top.stands.body h.0
      result_is = ap (λ o. perform (operation_at program o) s f) located_here

      turn : Turn ty program s f run.top.stands.linked run.top.stands.body h.0 run.top.state next.0
      turn = record {
        flowing = flowing;
        here = h.1;
        entered = run.top.stands.entered;
        after = next.1;
        locals = run.top.locals;
        pairs = run.top.pairs;
        stack = run.top.stack;
        there = run.there.0;
        shared = w;
      }

      takes : TakesBy ty.passes (kept_types (operation_of program (at_of f run.top.stands.linked run.top.stands.body) h.0)) run.top.state.stack
      takes =
          subst (λ o. TakesBy ty.passes (kept_types (operation_at program o)) run.top.state.stack) located_here
          (flowing.operands f.method run.top.stands.linked run.top.stands.body f.place run.top.state
          (record { class_is = run.top.stands.class_is; body_is = run.top.stands.body_is }) run.top.stands.entered run.top.stands.state_is)

      fine : Fine ty program s f run.top.stands.body (result_by program s f run.top.stands.linked run.top.stands.body h.0)
      fine = performed ty program s f run.top.stands.linked run.top.stands.body run.top.state next.0 h.0 p
          (all_at IsWellFormed run.top.stands.body.code f.place h.0 (h.1).whole.well_made.of_any_size.code.well_formed (h.1).insn_is) turn takes

  -- a turn of any thread
  pub turn_lands : (s : Shared) (thread : Thread) → SharedFits ty program s
      → FitsThreadBy ty.typing program s.heap thread → Lands ty program s (turn_of program s thread)
  turn_lands s (running f waiting) w r = running_lands s f waiting w r
  turn_lands s (returned v) w r = record { thread = tt; shared = w; grows = same_heap s.heap; hits = tt }
  turn_lands s (threw c) w r = record { thread = tt; shared = w; grows = same_heap s.heap; hits = tt }
  turn_lands s (stuck method place) w r = record { thread = r; shared = w; grows = same_heap s.heap; hits = tt }

  -- the world with what a turn of one thread leaves
  pub world_lands : (w : World) (t : ℕ) (a : After) → FitsWorldBy ty.typing program w → Lands ty program w.shared a
      → FitsWorldBy ty.typing program (with_after t w a)
  world_lands w t a h l = record {
    statics = (l.shared).statics;
    threads = set_each (FitsThreadBy ty.typing program a.shared.heap) w.threads t a.thread
        (each_to (FitsThreadBy ty.typing program w.shared.heap) (FitsThreadBy ty.typing program a.shared.heap) w.threads
        (thread_on ty w.shared.heap a.shared.heap l.grows program) h.threads) l.thread;
    there = (l.shared).there;
  }

  -- what a turn of the world leaves
  pub world_turn : (w : World) (t : ℕ) (thread : Thread) → FitsWorldBy ty.typing program w
      → slice_get w.threads t ≡ Some thread → Lands ty program w.shared (turn_of program w.shared thread)
  world_turn w t thread h e =
      turn_lands w.shared thread (record { statics = h.statics; there = h.there })
      (get_each (FitsThreadBy ty.typing program w.shared.heap) w.threads t thread h.threads e)

  pub turn_fits : (w : World) (t : ℕ) → FitsWorldBy ty.typing program w → FitsWorldBy ty.typing program (step program w t)
  unfolding step
  turn_fits w t h = by (slice_get w.threads t) refl
    where
      by : (o : Option Thread) → slice_get w.threads t ≡ o → FitsWorldBy ty.typing program (step_of program w t o)
      by None e = h
      by (Some thread) e = world_lands w t (turn_of program w.shared thread) h (world_turn w t thread h e)

  pub turn_hits : (w : World) (t : ℕ) → FitsWorldBy ty.typing program w → AllByRecursion (IsProbe program) w.hits
      → AllByRecursion (IsProbe program) (step program w t).hits
  unfolding step
  turn_hits w t h g = by (slice_get w.threads t) refl
    where
      by : (o : Option Thread) → slice_get w.threads t ≡ o → AllByRecursion (IsProbe program) (step_of program w t o).hits
      by None e = g
      by (Some thread) e = all_both (IsProbe program) (turn_of program w.shared thread).hits w.hits (world_turn w t thread h e).hits g

pub step_fits_by : (T : Typing) (S : VerificationType → VerificationType → Type 0) → StepFitsBy T S
step_fits_by T S program w t holding p flowing h = turn_fits (record { typing = T; passes = S; holding = holding }) program flowing p w t h

pub step_fits : StepFits
step_fits program w t p h = turn_fits plain program (plainly_flows program p) p w t h

pub step_hits : StepHits
step_hits program w t p h g = turn_hits plain program (plainly_flows program p) p w t h g

-- ---- runs

-- the entries that threads are given are those that are looked up
pub entries_are : (program : Program) (threads : List ThreadLine) (entries : List Entry) → AreEntries program threads entries
    → entries_of program threads ≡ entries
entries_are program [] [] a = refl
entries_are program [] (entry ∷ entries) a = absurd a
entries_are program (thread ∷ threads) [] a = absurd a
entries_are program (thread ∷ threads) (entry ∷ entries) a =
    ap (λ o. elim o [ None ↦ entries_of program threads | Some x ↦ x ∷ entries_of program threads ]) a.0
    ∙ ap (λ l. entry ∷ l) (entries_are program threads entries a.1)

-- the world fits, and what was hit until then is probes
abbrev pub FitsWithHits : Program → World → Type 0
FitsWithHits program w = FitsWorld program w × AllByRecursion (IsProbe program) w.hits

-- from a world that fits on
pub from_fits : (program : Program) (w : World) (turns : List ℕ) → IsProgram program → FitsWorld program w → AllByRecursion (IsProbe program) w.hits
    → FitsWithHits program (run_from program w turns)
from_fits program w [] p h g = (h, g)
from_fits program w (t ∷ turns) p h g = from_fits program (step program w t) turns p (step_fits program w t p h) (step_hits program w t p h g)

begins_unhit : (program : Program) (case : Case) (entries : List Entry) → AllByRecursion (IsProbe program) (begin program case.threads entries).hits
unfolding begin
begins_unhit program case entries = tt

pub run_fits : RunFits
run_fits program case entries turns p a =
    subst (λ l. FitsWithHits program (run_from program (begin program case.threads l) turns)) (sym (entries_are program case.threads entries a))
    (from_fits program (begin program case.threads entries) turns p (begin_fits program case entries p a) (begins_unhit program case entries))
