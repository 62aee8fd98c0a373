use Rattle.std.proofs.lemmas.Result.{IfErr-weaker, IfOk-weaker, err_from_is_err_and}
use Rattle.jc_pool.proofs.AddingLaws.{extends_more}
use Rattle.jc_kinds.specs.Checked.{Checked}
use Rattle.jc_instrument.specs.TwinText.{IsWrittenFor}
use Rattle.jc_instrument.specs.Writing.{IsFullFor}
use Rattle.jc_instrument.proofs.CodedLaws.{are_coded}
use Rattle.jc_instrument.proofs.FrameCauseLaws.{each_at}
use Rattle.jc_instrument.proofs.PlannedLaws.{are_ready_from, source_is}
use Rattle.jc_instrument.proofs.ReadyClassLaws.{ready_works}
use Rattle.jc_instrument.proofs.TwinFromLaws.{constants_refused, frames_refused, members_refused, next_kept, twin_written}
use Rattle.jc_instrument.proofs.twin.written_twin.Goals as goal

pub returns-in_err-take_constants-clause-refused : goal.returns-in_err-take_constants-clause-refused
returns-in_err-take_constants-clause-refused c =
    let p = err_from_is_err_and c.from_residual.result c.from_residual.ensures.1 in
    rw (p.1, p.2)
    (constants_refused c.args.identity.id c.args.class c.requires.class (ready_works c.args.names.now c.args.class c.args.ready c.requires.ready)
    c.requires.ready.loads c.in_err-take_constants.field-0.0 c.in_err-take_constants.ensures.refused)

pub returns-in_err-members-clause-refused : goal.returns-in_err-members-clause-refused
returns-in_err-members-clause-refused c =
    let p = err_from_is_err_and c.from_residual-in_err-members.result c.from_residual-in_err-members.ensures.1 in
    rw (p.1, p.2)
    (members_refused c.args.identity.id c.args.class c.requires.class (ready_works c.args.names.now c.args.class c.args.ready c.requires.ready)
    c.requires.ready.loads c.args.identity.name.now c.requires.name c.take_constants.new.pool c.in_ok-take_constants.ensures.ok.0 c.in_ok-take_constants.ensures.ok.1
    c.in_err-members.field-0.0 c.in_err-members.ensures.refused)

pub twin_class-requires-clause-coded : goal.twin_class-requires-clause-coded
twin_class-requires-clause-coded c =
    let r = c.requires.ready in
    are_coded c.args.names.now c.args.ready.constants c.args.class c.take_members.new.pool
    (extends_more c.args.class.pool c.take_constants.new.pool c.take_members.new.pool c.in_ok-take_constants.ensures.extends c.in_ok-members.ensures.extends)
    c.requires.class r.bodies c.args.ready.bodies r.are.are r.planned

pub twin_class-requires-clause-ready : goal.twin_class-requires-clause-ready
twin_class-requires-clause-ready c =
    let r = c.requires.ready in
    let names = c.args.names.now in
    are_ready_from names c.args.ready.constants c.args.class r.bodies c.args.ready.bodies r.are.are
    (λ i b at. each_at (Checked names) r.bodies r.are.checked i b at) r.planned
    (record { class = c.requires.class; sizes = c.requires.sizes }) c.args.source.now c.requires.source

pub twin_class-requires-clause-number : goal.twin_class-requires-clause-number
twin_class-requires-clause-number c =
    next_kept c.args.class.pool c.take_members.new.pool
    (extends_more c.args.class.pool c.take_constants.new.pool c.take_members.new.pool c.in_ok-take_constants.ensures.extends c.in_ok-members.ensures.extends)
    c.args.ready.constants.fetch c.args.ready.bootstrap c.args.class.attributes c.requires.class.attributes.each c.requires.ready.loads.gets.bootstrap_is

pub returns-clause-twin : goal.returns-clause-twin
returns-clause-twin c =
    let class = c.args.class in
    let w = ready_works c.args.names.now class c.args.ready c.requires.ready in
    IfOk-weaker c.twin_class.result _ (IsWrittenFor c.args.identity.id class)
    (λ twin from.
    twin_written c.args.identity.id class c.requires.class w c.requires.ready.loads c.args.identity.name.now c.requires.name c.take_constants.new.pool
    c.in_ok-take_constants.ensures.ok.0 c.in_ok-take_constants.ensures.ok.1 c.take_members.new.pool c.in_ok-members.members c.in_ok-members.ensures.ok
    (extends_more class.pool c.take_constants.new.pool c.take_members.new.pool c.in_ok-take_constants.ensures.extends c.in_ok-members.ensures.extends)
    c.code_places-codes.ensures.few c.code_places-codes.result c.code_places-codes.ensures.texts c.code_places-codes.ensures.frames twin from)
    (c.twin_class.ensures.twin w.others w.array w.works (w.of c.args.source.now (source_is c.args.ready.bodies class c.args.source.now c.requires.source), w.count))

pub returns-clause-refused : goal.returns-clause-refused
returns-clause-refused c =
    let class = c.args.class in
    let w = ready_works c.args.names.now class c.args.ready c.requires.ready in
    IfErr-weaker c.twin_class.result _ (IsFullFor c.args.identity.id class)
    (λ e refused.
    frames_refused c.args.identity.id class c.requires.class w c.requires.ready.loads c.args.identity.name.now c.requires.name c.take_constants.new.pool
    c.in_ok-take_constants.ensures.ok.0 c.in_ok-take_constants.ensures.ok.1 c.take_members.new.pool c.in_ok-members.members c.in_ok-members.ensures.ok e refused)
    (c.twin_class.ensures.refused w.others w.array w.works (w.of c.args.source.now (source_is c.args.ready.bodies class c.args.source.now c.requires.source), w.count))
