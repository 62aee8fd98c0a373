-- The frames of a world that fits its program have room in so many cells.
use Rattle.std.proofs.Common.{◌≡◌, suc, ◌+◌, ◌≤◌, Bool, true, false, cond, List, [], ◌∷◌, length, reverse, not, nat_lt}
use Rattle.std.proofs.Common.{refl, ap, ◌∙◌, arith, length-append}
use Rattle.std.proofs.lemmas.Bool.Decides.{nat_tests}
use Rattle.std.proofs.lemmas.List.{length-reverse}
use Rattle.std.specs.List.{AllByRecursion}
use Rattle.std.proofs.lemmas.Bool.{and_parts, not-true}
use Rattle.jc_methods.specs.declared.body.Body.{Body}
use Rattle.jc_methods.specs.VerificationTypes.{VerificationType, TypeState}
use Rattle.jc_methods.specs.EntryState.{is_static}
use Rattle.jc_methods.proofs.PlacedInsnLaws.{few_insns}
use Rattle.jc_programs.specs.declared.program.Program.{Program}
use Rattle.jc_programs.specs.declared.program.Linked.{Linked}
use Rattle.jc_programs.specs.declared.run_end.Entry.{Entry}
use Rattle.jc_machine_model.specs.Programs.{IsProgram}
use Rattle.jc_machine_model.specs.Heap.{HeapObject}
use Rattle.jc_machine_model.specs.World.{Frame}
use Rattle.jc_machine_model.specs.Methods.{declares_init, most_frame_slots, is_plain, is_native}
use Rattle.jc_methods.proofs.WidthLaws.{as_many}
use Rattle.jc_machine_model.specs.Step.{counted_frames}
use Rattle.jc_machine_model.specs.Fits.{StandsIn, FitsTop, FitsWaiting, FitEachWaiting, FitsRunning}
use Rattle.jc_machine_model.proofs.BeginLaws.{slots_length}
use Rattle.jc_machine_laws.proofs.OnwardLaws.{here_of, counted_step, counted_more}
use Rattle.jc_machine_laws.proofs.StateLaws.{state_count}
use Rattle.jc_machine_laws.proofs.RoomLaws.{state_room, same_count}
use Rattle.jc_machine.specs.Room.{IsBounded, AreBounded}

-- ---- frames

-- a method that threads may enter is no wider than the limit
narrow : (c : Linked) (b : Body) → is_plain c b ≡ true → b.max_locals + b.max_stack ≤ 1004
narrow c b plain =
    let inside = and_parts (not (is_native b)) _ (and_parts (is_static b.flags) _ plain).1 in
    let slim : nat_lt (most_frame_slots c) (b.max_locals + b.max_stack) ≡ false = not-true _ (and_parts (not c.has_clinit) _ inside.1).1 in
    by (declares_init c) slim
  where
    by : (z : Bool) → nat_lt (cond z 1004 1000) (b.max_locals + b.max_stack) ≡ false → b.max_locals + b.max_stack ≤ 1004
    by true e = grind (arith, nat_tests)
    by false e = grind (arith, nat_tests)

-- a frame that has the local variables of its state, and not more operands than that
stands_bounded : (program : Program) (f : Frame) (s : TypeState) → IsProgram program → StandsIn program f s → length f.locals ≡ length s.locals
    → length f.stack ≤ length s.stack → IsBounded f
stands_bounded program f s p stands locals stack =
    let h = here_of program f s p stands in
    let made = (h.1).whole.well_made in
    let count = state_count program.names stands.body made.of_any_size f.place s stands.state_is in
    let room = state_room program.names stands.body made f.place s stands.state_is in
    let many = as_many s.stack in
    let most = narrow stands.linked stands.body stands.entered in
    let last = few_insns stands.body.code in
    let few = made.of_any_size.code.few in
    let within = stands.within in
    record { room = omega (arith, locals, stack, count, room, many, most); place = omega (arith, last, few, within) }

pub top_bounded : (program : Program) (f : Frame) → IsProgram program → FitsTop program f → IsBounded f
top_bounded program f p w =
    let stack : length f.stack ≡ length w.state.stack = same_count f.stack (reverse w.state.stack) w.stack ∙ length-reverse w.state.stack in
    stands_bounded program f w.state p w.stands (slots_length f.locals w.state.locals w.locals) (omega (arith, stack))

waits_bounded : (program : Program) (f : Frame) (callee : Entry) → IsProgram program → FitsWaiting program f callee → IsBounded f
waits_bounded program f callee p w =
    let stack : length f.stack ≡ length w.left = same_count f.stack (reverse w.left) w.stack ∙ length-reverse w.left in
    let all : length w.state.stack ≡ length w.left + length w.given = ap (λ (l : List VerificationType). length l) w.parts ∙ length-append w.left w.given in
    stands_bounded program f w.state p w.stands (slots_length f.locals w.state.locals w.locals) (omega (arith, stack, all))

waiting_bounded : (program : Program) (callee : Entry) (waiting : List Frame) → IsProgram program → FitEachWaiting program callee waiting
    → AllByRecursion IsBounded waiting
waiting_bounded program callee [] p w = tt
waiting_bounded program callee (f ∷ waiting) p w = (waits_bounded program f callee p w.0, waiting_bounded program f.method waiting p w.1)

-- ---- how many frames there are

-- each frame that waits counts
pub each_counts : (program : Program) (callee : Entry) (waiting : List Frame) → FitEachWaiting program callee waiting
    → counted_frames program waiting ≡ length waiting
each_counts program callee [] w = refl
each_counts program callee (f ∷ waiting) w = counted_step program f waiting w.0.no_init ∙ ap suc (each_counts program f.method waiting w.1)

pub running_bounded : (program : Program) (heap : List HeapObject) (f : Frame) (waiting : List Frame) → IsProgram program → FitsRunning program heap f waiting
    → AreBounded f waiting
running_bounded program heap f waiting p w =
    let count = each_counts program f.method waiting w.below in
    let more = counted_more program f waiting in
    let few = w.few in
    record { above = top_bounded program f p w.top; below = waiting_bounded program f.method waiting p w.below; few = omega (arith, count, more, few) }

-- ---- the frames of a thread that calls
