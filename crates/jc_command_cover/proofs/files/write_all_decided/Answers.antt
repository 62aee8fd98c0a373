use Rattle.std.proofs.Common.{rules, ℕ, None, length, refl, arith}
use Rattle.std.proofs.lemmas.Iterator.Adapters.{YieldsList-from_vec}
use Rattle.std.proofs.lemmas.Iterator.Consumers.{YieldsList-from_enumerate, YieldsList-turn, YieldsList-end}
use Rattle.std.proofs.lemmas.List.{length_push}
use Rattle.std.proofs.lemmas.List.FromFn.{length-enumerate_from}
use Rattle.std.proofs.lemmas.Result.{err_from_is_err_and}
use Rattle.jc_command_work.proofs.References.{references_then}
use Rattle.jc_command_classes.specs.declared.instrument.Decided.{Decided}
use Rattle.jc_command_classes.specs.Instrument.{decision_seen}
use Rattle.jc_command_classes.proofs.EachLaws.{at_place}
use Rattle.jc_command_cover.proofs.FileLaws.{as_many_files, turn_file, files_start, turn_written, file_failed, file_lost, files_written}
use Rattle.jc_command_cover.proofs.files.write_all_decided.Goals as goal

pub writing-init : goal.writing-init
writing-init g c = ((refl, refl, refl), λ dest looked of. rw c.new-places.ensures.items (files_start g.F.Files.landed dest looked _ _))

pub writing-preserved : goal.writing-preserved
writing-preserved g c = (
  references_then c.writing.invariant.0 c.in_ok-write_decided.ensures.0,
  λ dest looked of.
      let all = c.args.all.items in
      let n = length c.writing.yielded in
      let d = c.in-Some.decided in
      let item : ℕ × Decided = (c.in-Some.index, d) in
      let turn = YieldsList-turn (YieldsList-from_enumerate (YieldsList-from_vec all (cc) (search rules)) (cc))
      c.writing.yielded c.writing.index-iterator c.writing.yielded_by c.next.result c.next.new.self item c.in-Some.is c.next.ensures.steps in
      let place = at_place all n c.in-Some.index d turn.0 turn.1 in
      let next = turn_file dest looked c.args.targeted.now.targets c.args.targeted.now.inputs.paths c.args.targeted.now.inputs.texts all of n c.in-Some.index
      c.text.result.now c.deref.result.now d c.target.result.now c.path.result.now place
      c.target.ensures c.path.ensures c.text.ensures c.deref.ensures in
      rw (length_push c.writing.yielded item)
      (turn_written g.F.Files.landed dest looked n c.in-Some.index _ _ _ _ _ _ c.writing.places.items c.keep_place.new.places.items
      c.target.result.now c.path.result.now c.deref.result.now (decision_seen d) next place.index_is (c.writing.invariant.1 dest looked of)
      c.in_ok-write_decided.ensures.1 c.in_ok-keep_place.ensures),
)

pub writing-preserved-in_ok-keep_place : goal.writing-preserved-in_ok-keep_place
writing-preserved-in_ok-keep_place g c = (
  references_then c.writing.invariant.0 c.in_ok-write_decided.ensures.0,
  λ dest looked of.
      let all = c.args.all.items in
      let n = length c.writing.yielded in
      let d = c.in-Some.decided in
      let item : ℕ × Decided = (c.in-Some.index, d) in
      let turn = YieldsList-turn (YieldsList-from_enumerate (YieldsList-from_vec all (cc) (search rules)) (cc))
      c.writing.yielded c.writing.index-iterator c.writing.yielded_by c.next.result c.next.new.self item c.in-Some.is c.next.ensures.steps in
      let place = at_place all n c.in-Some.index d turn.0 turn.1 in
      let next = turn_file dest looked c.args.targeted.now.targets c.args.targeted.now.inputs.paths c.args.targeted.now.inputs.texts all of n c.in-Some.index
      c.text.result.now c.deref.result.now d c.target.result.now c.path.result.now place
      c.target.ensures c.path.ensures c.text.ensures c.deref.ensures in
      rw (length_push c.writing.yielded item)
      (turn_written g.F.Files.landed dest looked n c.in-Some.index _ _ _ _ _ _ c.writing.places.items c.keep_place.new.places.items
      c.target.result.now c.path.result.now c.deref.result.now (decision_seen d) next place.index_is (c.writing.invariant.1 dest looked of)
      c.in_ok-write_decided.ensures.1 c.in_ok-keep_place.ensures),
)

pub returns-in_err-write_decided : goal.returns-in_err-write_decided
returns-in_err-write_decided g c =
    let p = err_from_is_err_and c.from_residual.result c.from_residual.ensures.1 in
    rw (p.1, p.2) (
      references_then c.writing.invariant.0 c.in_err-write_decided.ensures.0,
      λ dest looked of.
          let all = c.args.all.items in
          let n = length c.writing.yielded in
          let d = c.in-Some.decided in
          let item : ℕ × Decided = (c.in-Some.index, d) in
          let turn = YieldsList-turn (YieldsList-from_enumerate (YieldsList-from_vec all (cc) (search rules)) (cc))
          c.writing.yielded c.writing.index-iterator c.writing.yielded_by c.next.result c.next.new.self item c.in-Some.is c.next.ensures.steps in
          let place = at_place all n c.in-Some.index d turn.0 turn.1 in
          let next = turn_file dest looked c.args.targeted.now.targets c.args.targeted.now.inputs.paths c.args.targeted.now.inputs.texts all of n c.in-Some.index
          c.text.result.now c.deref.result.now d c.target.result.now c.path.result.now place
          c.target.ensures c.path.ensures c.text.ensures c.deref.ensures in
          file_failed g.F.Files.landed dest looked n _ _ _ _ _ _ c.writing.places.items (c.writing.invariant.1 dest looked of)
          c.target.result.now c.path.result.now c.deref.result.now (decision_seen d) next _ c.in_err-write_decided.ensures.1,
    )

pub returns-in_err-keep_place : goal.returns-in_err-keep_place
returns-in_err-keep_place g c =
    let p = err_from_is_err_and c.from_residual-in_err-keep_place.result c.from_residual-in_err-keep_place.ensures.1 in
    rw (p.1, p.2) (
      references_then c.writing.invariant.0 c.in_ok-write_decided.ensures.0,
      λ dest looked of.
          let all = c.args.all.items in
          let n = length c.writing.yielded in
          let d = c.in-Some.decided in
          let item : ℕ × Decided = (c.in-Some.index, d) in
          let turn = YieldsList-turn (YieldsList-from_enumerate (YieldsList-from_vec all (cc) (search rules)) (cc))
          c.writing.yielded c.writing.index-iterator c.writing.yielded_by c.next.result c.next.new.self item c.in-Some.is c.next.ensures.steps in
          let place = at_place all n c.in-Some.index d turn.0 turn.1 in
          let next = turn_file dest looked c.args.targeted.now.targets c.args.targeted.now.inputs.paths c.args.targeted.now.inputs.texts all of n c.in-Some.index
          c.text.result.now c.deref.result.now d c.target.result.now c.path.result.now place
          c.target.ensures c.path.ensures c.text.ensures c.deref.ensures in
          file_lost g.F.Files.landed dest looked n _ _ _ _ _ _ c.writing.places.items (c.writing.invariant.1 dest looked of)
          c.target.result.now c.path.result.now c.deref.result.now (decision_seen d) next None refl c.in_ok-write_decided.ensures.1,
    )

pub returns : goal.returns
returns g c = (
  c.writing.invariant.0,
  λ dest looked of.
      let all = c.args.all.items in
      let end = YieldsList-end (YieldsList-from_enumerate (YieldsList-from_vec all (cc) (search rules)) (cc))
      c.writing.yielded c.writing.index-iterator c.writing.yielded_by c.next.result c.next.new.self c.in-None.is c.next.ensures.steps in
      let many = as_many_files dest looked c.args.targeted.now.targets c.args.targeted.now.inputs.paths c.args.targeted.now.inputs.texts all of in
      files_written g.F.Files.landed dest looked (length c.writing.yielded) (omega (arith, end.1, length-enumerate_from 0 all, many)) _ _ _ _ c.writing.places.items
      (c.writing.invariant.1 dest looked of),
)
