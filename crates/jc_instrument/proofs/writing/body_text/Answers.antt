use Rattle.std.proofs.Common.{List, length, map, sym, ◌∙◌, ap, subst}
use Rattle.std.specs.List.{AllByRecursion}
use Rattle.std.proofs.lemmas.Result.{err_from_is_err_and}
use Rattle.jc_methods.specs.VerificationTypes.{AreNumberedFrames, type_state_at}
use Rattle.jc_methods.specs.declared.body.FrameAt.{FrameAt}
use Rattle.jc_frames.specs.FullTable.{HasPlace, RefusesClasses, TakesClasses, named_by_all}
use Rattle.jc_frames.proofs.TakenLaws.{all_stand}
use Rattle.jc_instrument_code.specs.LaidText.{laid_text}
use Rattle.jc_instrument_code.specs.declared.code.CodePlaces.{CodePlaces}
use Rattle.jc_kinds.specs.Answers.{AreStates}
use Rattle.jc_instrument.specs.Taking.{RefusesEach}
use Rattle.jc_instrument.specs.Writing.{HasFramesName, frames_asked}
use Rattle.jc_instrument.proofs.FramesNameLaws.{classes_refused_behind}
use Rattle.jc_instrument.proofs.WritingLaws.{body_written, can_be_written, few_bytes, few_rows, frames_of, meant_refused, numbered_of, ready_grown}
use Rattle.jc_instrument.proofs.writing.body_text.Goals as goal

pub emit_parts-requires-clause-states : goal.emit_parts-requires-clause-states
emit_parts-requires-clause-states c =
    subst (AreStates c.args.names.now c.args.ready.body) (sym c.deref.ensures) c.requires.states

pub take_classes-requires : goal.take_classes-requires
take_classes-requires c =
    let k = c.args.constants.now in
    let now = c.emit_parts.new.names in
    let r = c.args.ready in
    let plan = c.requires.plan in
    let ready = ready_grown c.args.names.now now r c.in_ok-parts.ensures.names c.requires in
    subst (AreNumberedFrames (length now)) (sym c.deref-4.ensures)
    (numbered_of r.laid.starts (length now) c.in_ok-parts.parts.frames
    (can_be_written k now r ready c.in_ok-parts.parts.frames plan.0 plan.1
    (frames_of k c.args.names.now now r plan.0 c.in_ok-parts.parts.frames c.deref.result.now c.deref-2.result.now c.in_ok-parts.ensures.names c.requires
    c.deref.ensures c.deref-2.ensures (c.in_ok-parts.ensures.frames plan.0 plan.1))))

pub code_text-requires-clause-rows : goal.code_text-requires-clause-rows
code_text-requires-clause-rows c =
    let plan = c.requires.plan in
    few_rows c.args.constants.now.fetch c.args.ready plan.0 c.in_ok-parts.parts.tables c.requires.rows (c.in_ok-parts.ensures.tables plan.0 plan.1)

pub code_text-requires-clause-few : goal.code_text-requires-clause-few
code_text-requires-clause-few c = few_bytes c.args.constants.now c.args.names.now c.args.ready c.requires

pub code_text-requires-clause-frames : goal.code_text-requires-clause-frames
code_text-requires-clause-frames c =
    let k = c.args.constants.now in
    let now = c.emit_parts.new.names in
    let r = c.args.ready in
    let plan = c.requires.plan in
    let ready = ready_grown c.args.names.now now r c.in_ok-parts.ensures.names c.requires in
    can_be_written k now r ready c.in_ok-parts.parts.frames plan.0 plan.1
    (frames_of k c.args.names.now now r plan.0 c.in_ok-parts.parts.frames c.deref.result.now c.deref-2.result.now c.in_ok-parts.ensures.names c.requires
    c.deref.ensures c.deref-2.ensures (c.in_ok-parts.ensures.frames plan.0 plan.1))

pub code_text-requires-clause-classes : goal.code_text-requires-clause-classes
code_text-requires-clause-classes c =
    let now = c.emit_parts.new.names in
    subst (λ (fs : List FrameAt). AllByRecursion (HasPlace c.take_classes.new.pool) (named_by_all (map (type_state_at now) fs)))
    c.deref-4.ensures
    (all_stand c.named_places.new.pool c.take_classes.new.pool _ c.in_ok-take_classes.ensures.classes)

pub returns-in_err-parts-clause-refused : goal.returns-in_err-parts-clause-refused
returns-in_err-parts-clause-refused c = λ others array w of.
    let r = c.from_residual in
    let p = err_from_is_err_and r.result r.ensures.1 in
    rw (p.1, p.2) tt

pub returns-in_err-places-clause-refused : goal.returns-in_err-places-clause-refused
returns-in_err-places-clause-refused c = λ others array w of.
    let k = c.args.constants.now in
    let r = c.from_residual-in_err-places in
    let p = err_from_is_err_and r.result r.ensures.1 in
    let now = c.emit_parts.new.names in
    let e = c.in_err-places.field-0.0 in
    let refused = subst (λ (fs : List FrameAt). RefusesEach c.args.pool.now (frames_asked k.fetch (map (type_state_at now) fs)) e)
    c.deref-3.ensures (c.in_err-places.ensures.refused now) in
    rw (p.1, p.2)
    (meant_refused k c.args.names.now now others array c.args.ready w c.in_ok-parts.ensures.names c.requires of c.in_ok-parts.parts.frames
    (frames_of k c.args.names.now now c.args.ready w.first c.in_ok-parts.parts.frames c.deref.result.now c.deref-2.result.now c.in_ok-parts.ensures.names
    c.requires c.deref.ensures c.deref-2.ensures (c.in_ok-parts.ensures.frames w.first of.plan)) c.args.pool.now e refused)

pub returns-in_err-take_classes-clause-refused : goal.returns-in_err-take_classes-clause-refused
returns-in_err-take_classes-clause-refused c = λ others array w of.
    let k = c.args.constants.now in
    let r = c.from_residual-in_err-take_classes in
    let p = err_from_is_err_and r.result r.ensures.1 in
    let now = c.emit_parts.new.names in
    let named = c.named_places.new.pool in
    let e = c.in_err-take_classes.field-0.0 in
    let has = subst (λ (fs : List FrameAt). HasFramesName k.fetch c.args.pool.now (map (type_state_at now) fs) c.args.places.now.frames named c.in_ok-places.places.frames)
    c.deref-3.ensures (c.in_ok-places.ensures.takes now) in
    let refused = subst (λ (fs : List FrameAt). RefusesClasses named (named_by_all (map (type_state_at now) fs)) c.take_classes.new.pool e)
    c.deref-4.ensures c.in_err-take_classes.ensures.refused in
    rw (p.1, p.2)
    (meant_refused k c.args.names.now now others array c.args.ready w c.in_ok-parts.ensures.names c.requires of c.in_ok-parts.parts.frames
    (frames_of k c.args.names.now now c.args.ready w.first c.in_ok-parts.parts.frames c.deref.result.now c.deref-2.result.now c.in_ok-parts.ensures.names
    c.requires c.deref.ensures c.deref-2.ensures (c.in_ok-parts.ensures.frames w.first of.plan)) c.args.pool.now e
    (classes_refused_behind k.fetch c.args.pool.now named c.take_classes.new.pool (map (type_state_at now) c.in_ok-parts.parts.frames) c.args.places.now.frames
    c.in_ok-places.places.frames e has refused))

pub returns-in_err-code_text-clause-refused : goal.returns-in_err-code_text-clause-refused
returns-in_err-code_text-clause-refused c = λ others array w of.
    let r = c.from_residual-in_err-code_text in
    let p = err_from_is_err_and r.result r.ensures.1 in
    rw (p.1, p.2) tt

pub returns-clause-text : goal.returns-clause-text
returns-clause-text c = λ others array w of.
    let k = c.args.constants.now in
    let now = c.emit_parts.new.names in
    let named = c.named_places.new.pool in
    let taken = c.take_classes.new.pool in
    let has = subst (λ (fs : List FrameAt). HasFramesName k.fetch c.args.pool.now (map (type_state_at now) fs) c.args.places.now.frames named c.in_ok-places.places.frames)
    c.deref-3.ensures (c.in_ok-places.ensures.takes now) in
    let takes = subst (λ (fs : List FrameAt). TakesClasses named (named_by_all (map (type_state_at now) fs)) taken) c.deref-4.ensures
    c.in_ok-take_classes.ensures.classes in
    body_written k c.args.names.now now others array c.args.ready w c.in_ok-parts.ensures.names c.requires of c.in_ok-parts.parts.frames
    (frames_of k c.args.names.now now c.args.ready w.first c.in_ok-parts.parts.frames c.deref.result.now c.deref-2.result.now c.in_ok-parts.ensures.names
    c.requires c.deref.ensures c.deref-2.ensures (c.in_ok-parts.ensures.frames w.first of.plan))
    c.args.pool.now named taken c.args.places.now c.in_ok-places.places.frames has takes c.in_ok-parts.parts.tables c.in_ok-code_text.field-0
    (c.in_ok-parts.ensures.tables w.first of.plan)
    (c.in_ok-code_text.ensures
    ∙ ap (λ (p : CodePlaces). laid_text taken k.fetch p now c.in_ok-parts.parts.tables c.args.ready.laid c.in_ok-parts.parts.frames) c.in_ok-places.ensures.others)
