use Rattle.std.proofs.Common.{List, get_or, length, refl, sym, ◌∙◌, subst, arith}
use Rattle.std.proofs.lemmas.List.{take_all}
use Rattle.std.proofs.lemmas.Option.{none-some, slice_get-get_or, slice_get_read}
use Rattle.jc_methods.specs.declared.body.Body.{Body}
use Rattle.jc_methods.proofs.MetNamesLaws.{grows_both, grows_none}
use Rattle.jc_instrument.specs.Found.{FramesSoFar}
use Rattle.jc_instrument.proofs.CheckingLaws.{all_checked, all_states, checks_on, fine_before, frame_found, frames_fine, next_states}
use Rattle.jc_instrument.proofs.checks.check_bodies.Goals as goal

pub checking-init : goal.checking-init
checking-init c = record {
  grows = grows_none c.args.names.now;
  frames = λ i b at. absurd (none-some b at);
  states = λ numbers fine k b less. absurd (omega (arith, less));
}

pub checking-preserved : goal.checking-preserved
checking-preserved c =
    let bodies = c.args.bodies.now in
    let old = c.args.names.now in
    let names = c.checking.names in
    let more = c.check_next.new.names in
    let at = slice_get_read bodies (length bodies) c.checking.body-index c.body-item.result refl c.checking-test.true c.body-item.is in
    let next = c.in_ok-first.ensures in
    record {
      grows = grows_both old names more c.checking.invariant.grows next.grows;
      frames = checks_on old names more bodies c.requires.frames c.checking.invariant.grows next.grows c.checking.body-index c.body-item.result at
          c.checking.first c.in_ok-first.first c.checking.invariant.frames next.first;
      states = λ numbers fine.
          next_states old names more bodies c.checking.body-index c.body-item.result c.checking.invariant.grows next.grows c.requires.frames at
          (next.states numbers fine)
          (c.checking.invariant.states numbers (fine_before more c.body-item.result c.checking.first c.in_ok-first.first next.first fine));
    }

pub returns-in-Some-clause-refused : goal.returns-in-Some-clause-refused
returns-in-Some-clause-refused c =
    let bodies = c.args.bodies.now in
    let first = c.checking.first in
    let all = take_all c.checking.body-index bodies (omega arith) in
    frame_found c.checking.names bodies first.missing first.clash c.in-Some.refusal
    (subst (λ (l : List Body). FramesSoFar c.checking.names l first.missing first.clash) all c.checking.invariant.frames)
    (sym c.frame_refusal.ensures ∙ c.in-Some.is)

pub returns-in-None-clause-checked : goal.returns-in-None-clause-checked
returns-in-None-clause-checked c =
    let bodies = c.args.bodies.now in
    let first = c.checking.first in
    let all = take_all c.checking.body-index bodies (omega arith) in
    let each = all_checked c.checking.names bodies first.missing first.clash (sym c.frame_refusal.ensures ∙ c.in-None.is)
    (subst (λ (l : List Body). FramesSoFar c.checking.names l first.missing first.clash) all c.checking.invariant.frames) in
    λ k d less. each k (get_or bodies k d) (slice_get-get_or bodies k d less)

pub returns-in-None-clause-states : goal.returns-in-None-clause-states
returns-in-None-clause-states c = λ numbers.
    let first = c.checking.first in
    all_states c.checking.names c.args.bodies.now c.checking.body-index (omega arith)
    (c.checking.invariant.states numbers (frames_fine first.missing first.clash (sym c.frame_refusal.ensures ∙ c.in-None.is)))
