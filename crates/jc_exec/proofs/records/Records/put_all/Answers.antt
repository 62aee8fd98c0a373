use Rattle.std.proofs.Common.{◌≡◌, [], nat_eq, vec_len, sym, ◌∙◌, ap, arith}
use Rattle.indexmap.specs.IndexMap.{insert_all}
use Rattle.jc_exec.specs.Adding.{Entries}
use Rattle.jc_exec.specs.Store.{entries_of}
use Rattle.jc_exec.proofs.FinishLaws.{none_left}
use Rattle.jc_exec.proofs.RecordLaws.{insert_none}
use Rattle.jc_exec.proofs.records.Records.put_all.Goals as goal

pub returns-then-is_empty-clause-all : goal.returns-then-is_empty-clause-all
returns-then-is_empty-clause-all c =
    let none : c.self.inside.classes.items ≡ [] = none_left c.is_empty.result (vec_len c.self.inside.classes) c.self.inside.classes.items (omega arith) c.is_empty.ensures c.if-is_empty.true in
    c.gathered.view_is ∙ sym (insert_none c.args.gathered c.requires)
    ∙ ap (λ (es : Entries). insert_all nat_eq es c.args.gathered) (sym (ap entries_of none) ∙ c.self.view_is)
