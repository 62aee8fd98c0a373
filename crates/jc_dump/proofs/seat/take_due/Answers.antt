use Rattle.std.proofs.Common.{◌≡◌, ◌∙◌, ap, inr, arith}
use Rattle.jc_programs.specs.Probes.{counts_of}
use Rattle.jc_board.proofs.HitSetLaws.{counts_of-no_hits}
use Rattle.jc_dump.specs.HasRun.{IsDue}
use Rattle.jc_dump.proofs.TakeLaws.{takes}
use Rattle.jc_dump.proofs.seat.take_due.Goals as goal

pub take-requires-clause-into : goal.take-requires-clause-into
take-requires-clause-into c =
    let same : c.deref.result.now ≡ c.args.dumping.now.board.counts = cc (c.requires.board.1, c.deref.ensures.value) in
    ap counts_of c.in_ok-dump.ensures ∙ counts_of-no_hits c.deref.result.now ∙ same

pub returns-clause-taken : goal.returns-clause-taken
returns-clause-taken c =
    let due : IsDue c.args.dumping.now.every c.args.case = omega arith in
    let same : c.deref.result.now ≡ c.args.dumping.now.board.counts = cc (c.requires.board.1, c.deref.ensures.value) in
    let e = c.take.ensures in
    inr (
      due,
      (
        c.take.new.into,
        c.in_ok-push.ensures.items,
        takes c.args.dumping.now.board.counts c.args.seat.now c.take.new.self c.in_ok-dump.dump c.take.new.into c.deref.result.now c.in_ok-dump.ensures same
            e.hits e.part.1 e.counts e.gained e.pending e.settled e.alone,
      ),
    )
