use Rattle.std.proofs.Common.{rules, ℕ, List, [], Result, length, get_or, ◌∙◌, ap, arith}
use Rattle.std.proofs.lemmas.Iterator.Adapters.{YieldsList-from_vec}
use Rattle.std.proofs.lemmas.Iterator.Consumers.{YieldsList-from_enumerate, YieldsList-turn, YieldsList-end}
use Rattle.std.proofs.lemmas.List.{length_push}
use Rattle.std.proofs.lemmas.List.FromFn.{length-enumerate_from}
use Rattle.std.proofs.lemmas.Result.{err_from_is_err_and}
use Rattle.jc_command_classes.specs.declared.kept.Seen.{Seen}
use Rattle.jc_command_work.specs.declared.stop.Stop.{Stop}
use Rattle.jc_command_work.specs.Step.{Word}
use Rattle.jc_command_classes.proofs.EachLaws.{at_place}
use Rattle.jc_command_classes.proofs.KeptLaws.{nothing_kept, kept_more, stops_here, all_kept}
use Rattle.jc_command_classes.proofs.kept.keep_all.Goals as goal

-- pub keeping-init : goal.keeping-init
-- keeping-init g c = ?

pub returns-in_err-answer-clause-stop : goal.returns-in_err-answer-clause-stop
returns-in_err-answer-clause-stop g c =
    let answers = c.args.answers.items in
    let item : ℕ × Result (Seen g.row.X.Denot) Stop = (c.in-Some.index, c.in-Some.answer) in
    let turn = YieldsList-turn (YieldsList-from_enumerate (YieldsList-from_vec answers (cc) (search rules)) (cc))
    c.keeping.yielded c.keeping.index-iterator c.keeping.yielded_by c.next.result c.next.new.self item c.in-Some.is c.next.ensures.steps in
    let place = at_place answers (length c.keeping.yielded) c.in-Some.index c.in-Some.answer turn.0 turn.1 in
    let p = err_from_is_err_and c.from_residual.result c.from_residual.ensures.1 in
    rw (p.1, p.2)
    (stops_here c.args.inputs.now.paths answers (length c.keeping.yielded) c.keeping.kept c.requires.paths place.within c.keeping.invariant
    c.in-Some.answer c.in_err-answer.field-0.0 place.at c.in_err-answer.was)

pub keeping-preserved : goal.keeping-preserved
keeping-preserved g c =
    let answers = c.args.answers.items in
    let paths = c.args.inputs.now.paths in
    let n = length c.keeping.yielded in
    let item : ℕ × Result (Seen g.row.X.Denot) Stop = (c.in-Some.index, c.in-Some.answer) in
    let turn = YieldsList-turn (YieldsList-from_enumerate (YieldsList-from_vec answers (cc) (search rules)) (cc))
    c.keeping.yielded c.keeping.index-iterator c.keeping.yielded_by c.next.result c.next.new.self item c.in-Some.is c.next.ensures.steps in
    let place = at_place answers n c.in-Some.index c.in-Some.answer turn.0 turn.1 in
    rw (length_push c.keeping.yielded item)
    (kept_more paths answers n c.keeping.kept c.requires.paths place.within c.keeping.invariant c.in-Some.answer c.in_ok-answer.field-0
    c.path.result.now c.keep_seen.new.kept place.at c.in_ok-answer.was (c.path.ensures ∙ ap (λ (k : ℕ). let w : Word = get_or paths k [] in w) place.index_is) c.in_ok-keep_seen.ensures)

pub returns-clause-all : goal.returns-clause-all
returns-clause-all g c =
    let answers = c.args.answers.items in
    let end = YieldsList-end (YieldsList-from_enumerate (YieldsList-from_vec answers (cc) (search rules)) (cc))
    c.keeping.yielded c.keeping.index-iterator c.keeping.yielded_by c.next.result c.next.new.self c.in-None.is c.next.ensures.steps in
    all_kept c.args.inputs.now.paths answers (length c.keeping.yielded) c.keeping.kept c.requires.paths
    (omega (arith, end.1, length-enumerate_from 0 answers)) c.keeping.invariant
