use Rattle.std.proofs.Common.{◌++◌, ◌∷◌, [], List, OnOk, IsErrAnd, subst}
use Rattle.std.proofs.lemmas.Result.{on_ok_weaker}
use Rattle.jc_exec.specs.declared.hits.ClassHits.{ClassHits}
use Rattle.jc_exec.specs.Adding.{store_of}
use Rattle.jc_exec.specs.Answers.{IsConflict, SaysOnly, conflict_of}
use Rattle.jc_exec.specs.Format.{Block, class}
use Rattle.jc_exec.specs.Store.{Store}
use Rattle.jc_exec.specs.Union.{IsUnion}
use Rattle.jc_exec.proofs.GatherLaws.{put_adds}
use Rattle.jc_exec.proofs.RecordLaws.{put_refuses}
use Rattle.jc_exec.proofs.store.ExecStore.add.Goals as goal

pub returns-clause-union : goal.returns-clause-union
returns-clause-union c =
    let later = store_of c.self.inside.sessions.items c.put.new.records in
    subst (λ (s : Store). OnOk c.put.result ((blocks : List Block) → IsUnion blocks s → IsUnion (blocks ++ class c.args.hits.now ∷ []) later)) c.self.view_is
    (on_ok_weaker c.put.result (put_adds c.self.inside.sessions.items c.self.inside.records c.put.new.records c.args.hits.now) c.put.ensures.puts)

pub returns-clause-refuses : goal.returns-clause-refuses
returns-clause-refuses c =
    subst (λ (s : Store). (there : ClassHits) → IsConflict s.classes there c.args.hits.now → IsErrAnd c.put.result (SaysOnly (conflict_of there c.args.hits.now))) c.self.view_is
    (put_refuses c.put.result c.self.inside.records c.put.new.records c.args.hits.now c.self.invariant.1 c.put.ensures.puts c.put.ensures.refused)
