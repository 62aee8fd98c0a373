use Rattle.std.proofs.Common.{◌≡◌, ◌∙◌, arith}
use Rattle.jc_frames.proofs.EntryValuesLaws.{shorter, ended}
use Rattle.jc_frames.proofs.running.end_of_values.Goals as goal
use Rattle.jc_frames.proofs.running.end_of_values.Goals.{in-Top, in_default}

pub trimming-preserved : goal.trimming-preserved
trimming-preserved c = elim c.match-matches.branch [
  | in-Top w ↦ record {
    within = omega arith;
    same = λ names. c.trimming.invariant.same names
        ∙ shorter names c.args.locals.now c.trimming.end c.trimming-test.true c.trimming.invariant.within w.in-Top.is;
  }
  | in_default w ↦ absurd cc
]

pub returns-else-matches-clause-trimmed : goal.returns-else-matches-clause-trimmed
returns-else-matches-clause-trimmed c names = elim c.match-matches.branch [
  | in-Top w ↦ absurd cc
  | in_default w ↦ c.trimming.invariant.same names ∙ ended names c.args.locals.now c.trimming.end c.trimming-test.true c.trimming.invariant.within w.in_default.not-Top
]

pub returns-after-trimming-clause-trimmed : goal.returns-after-trimming-clause-trimmed
returns-after-trimming-clause-trimmed c names = let none : c.trimming.end ≡ 0 = omega arith in rw none (let h = c.trimming.invariant.same names in rw none at h)
