use Rattle.std.proofs.Common.{sym, ◌∙◌, subst}
use Rattle.std.proofs.lemmas.Result.{err_from_is_err_and}
use Rattle.jc_exec.specs.Adding.{store_of}
use Rattle.jc_exec.specs.Union.{ReadsOn}
use Rattle.jc_exec.proofs.FinishLaws.{seen_as, finished_reads, finished_only, finished_not_refused, other_union}
use Rattle.jc_exec.proofs.GatherLaws.{refused_for}
use Rattle.jc_exec.proofs.packed_feed.PackedFeed.finish.Goals as goal

-- ---- what was refused

pub returns-in_err-added-clause-refused : goal.returns-in_err-added-clause-refused
returns-in_err-added-clause-refused c = λ before bytes f.
    let p = err_from_is_err_and c.from_residual.result c.from_residual.ensures.1 in
    rw (p.1, p.2) (c.in_err-added.ensures.refused before bytes (seen_as _ c.args.self c.self.view_is before bytes f))

pub returns-in_err-added-clause-taken : goal.returns-in_err-added-clause-taken
returns-in_err-added-clause-taken c = λ before bytes f read s blocks u.
    absurd (other_union before bytes c.in_err-added.field-0.0 c.in_err-added.ensures.said
    (c.in_err-added.ensures.refused before bytes (seen_as _ c.args.self c.self.view_is before bytes f)) (read, s, blocks, u))

pub returns-in_err-added-clause-refuses : goal.returns-in_err-added-clause-refuses
returns-in_err-added-clause-refuses c = λ before bytes f why first.
    let p = err_from_is_err_and c.from_residual.result c.from_residual.ensures.1 in
    rw (p.1, p.2) (refused_for c.in_err-added.field-0.0 before bytes
    (c.in_err-added.ensures.refused before bytes (seen_as _ c.args.self c.self.view_is before bytes f)) why first)

-- ---- what was read

pub returns-clause-union : goal.returns-clause-union
returns-clause-union c = λ before bytes f.
    let added = c.in_ok-added.added in
    subst (ReadsOn bytes before) (sym c.of_added.ensures)
    (finished_reads before bytes (store_of added.sessions added.records) (c.in_ok-added.ensures.finished before bytes (seen_as _ c.args.self c.self.view_is before bytes f)))

pub returns-clause-taken : goal.returns-clause-taken
returns-clause-taken c = λ before bytes f read s blocks u.
    let added = c.in_ok-added.added in
    c.of_added.ensures
    ∙ finished_only before bytes (store_of added.sessions added.records)
    (c.in_ok-added.ensures.finished before bytes (seen_as _ c.args.self c.self.view_is before bytes f)) read s blocks u

pub returns-clause-refuses : goal.returns-clause-refuses
returns-clause-refuses c = λ before bytes f why first.
    let added = c.in_ok-added.added in
    absurd (finished_not_refused before bytes (store_of added.sessions added.records)
    (c.in_ok-added.ensures.finished before bytes (seen_as _ c.args.self c.self.view_is before bytes f)) why first)
