use Rattle.std.proofs.Common.{refl, length, sym, subst}
use Rattle.std.proofs.lemmas.List.Elements.{All-get_or}
use Rattle.jc_methods.specs.InsnUse.{LeadsWithin}
use Rattle.jc_methods.specs.Flow.{targets_of}
use Rattle.jc_kinds.specs.Marking.{is_among}
use Rattle.jc_kinds.proofs.MarkLaws.{marks_none, marks_next, marks_all}
use Rattle.jc_kinds.proofs.missing.mark_targets.Goals as goal

pub marking-init : goal.marking-init
marking-init c = marks_none _ _ (λ j. refl)

pub mark_insn-requires : goal.mark_insn-requires
mark_insn-requires c =
    let s = c.marking.auto.marks in
    let leads : LeadsWithin (length c.args.marks.now) c.insn-item.result = subst (LeadsWithin (length c.args.marks.now)) (sym c.insn-item.is)
    (All-get_or (LeadsWithin (length c.args.marks.now)) c.args.code.now c.marking.insn-index c.insn-item.result c.marking-test.true c.requires) in
    subst (λ n. LeadsWithin n c.insn-item.result) (sym s) leads

pub marking-preserved : goal.marking-preserved
marking-preserved c =
    marks_next (λ j insn. is_among (targets_of insn) j) c.args.code.now c.marking.insn-index c.insn-item.result c.insn-item.result c.args.marks.now c.marking.marks c.mark_insn.new.marks
    c.marking-test.true c.insn-item.is c.marking.invariant c.in_ok-mark_insn.ensures

pub returns : goal.returns
returns c = marks_all (λ j insn. is_among (targets_of insn) j) c.args.code.now c.marking.insn-index c.args.marks.now c.marking.marks c.marking-test.false c.marking.invariant
