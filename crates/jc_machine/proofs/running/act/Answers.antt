use Rattle.std.proofs.Common.{ℕ, subst}
use Rattle.jc_programs.specs.declared.run_end.Entry.{Entry}
use Rattle.jc_machine_code.specs.Shown.{Shows}
use Rattle.jc_machine_model.specs.Step.{located, operation_at}
use Rattle.jc_machine.specs.Turned.{StandsBefore}
use Rattle.jc_machine.proofs.TurnLaws.{alone_bounded, stands_well, switched}
use Rattle.jc_machine.proofs.running.act.Goals as goal

pub perform-requires-clause-insn : goal.perform-requires-clause-insn
perform-requires-clause-insn c =
    let P : Entry → ℕ → Type 0 = λ method place. StandsBefore (located c.args.program.now method place) c.in-Some.insn.now in
    stands_well c.args.program.now c.args.shared.now.content c.args.frames.now c.requires.program c.requires.fits c.in-Some.insn.now
    (subst (P c.args.frames.now.top.method) c.place-place.ensures (subst (λ method. P method c.place-place.result) c.method-method.ensures c.in-Some.ensures))

pub perform-requires-clause-bounds : goal.perform-requires-clause-bounds
perform-requires-clause-bounds c = (alone_bounded c.args.program.now c.args.shared.now.content c.args.frames.now c.requires.program c.requires.fits).above

pub returns-clause-result : goal.returns-clause-result
returns-clause-result c =
    let program = c.args.program.now in
    let top = c.args.frames.now.top in
    let P : Entry → ℕ → Type 0 = λ method place. StandsBefore (located program method place) c.in-Some.insn.now in
    let before : P top.method top.place =
    subst (P top.method) c.place-place.ensures (subst (λ method. P method c.place-place.result) c.method-method.ensures c.in-Some.ensures) in
    let Q : Entry → ℕ → Type 0 = λ method place. Shows c.operation-operation.result (operation_at program (located program method place)) in
    let shows : Q top.method top.place =
    subst (Q top.method) c.place-place.ensures
    (subst (λ method. Q method c.place-place.result) c.method-method.ensures (c.operation-operation.ensures program c.requires.prepared)) in
    c.perform.ensures.result (operation_at program (located program top.method top.place)) shows
    (λ switch. switched program c.operation-operation.result (located program top.method top.place) c.in-Some.insn.now before shows switch c.args.shared.now.content
    top)
