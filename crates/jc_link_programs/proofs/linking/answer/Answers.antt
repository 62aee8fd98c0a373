use Rattle.std.proofs.Common.{List, Some, None, length, ap, subst, arith}
use Rattle.jc_programs.specs.declared.program.Linked.{Linked}
use Rattle.jc_link_programs.specs.Steps.{PairAnswer}
use Rattle.jc_link_programs.proofs.AnswerLaws.{pair_refused, program_is}
use Rattle.jc_link_programs.proofs.LinkingLaws.{linked_count}
use Rattle.jc_link_programs.proofs.linking.answer.Goals as goal

pub pair_clash-requires : goal.pair_clash-requires
pair_clash-requires c =
    let count = linked_count c.classes_of.new.names c.args.files.now c.in_ok-classes.classes c.in_ok-classes.ensures.classes in
    let same = ap (λ l. length l) c.deref.ensures in
    let few = c.requires.few in
    omega (arith, count, same, few)

pub returns-in-Some : goal.returns-in-Some
returns-in-Some c =
    let found = subst (λ (l : List Linked). PairAnswer l (Some c.in-Some.clash)) c.deref.ensures
    (subst (PairAnswer c.deref.result.now) c.in-Some.is c.in_ok-clash.ensures) in
    pair_refused c.classes_of.new.names c.args.files.now c.in_ok-classes.classes c.in-Some.clash c.in_ok-classes.ensures.classes found

pub returns-in-None : goal.returns-in-None
returns-in-None c =
    let found = subst (λ (l : List Linked). PairAnswer l None) c.deref.ensures (subst (PairAnswer c.deref.result.now) c.in-None.is c.in_ok-clash.ensures) in
    program_is c.args.files.now _ c.requires.few c.in_ok-classes.ensures.classes c.in_ok-classes.ensures.fit found
