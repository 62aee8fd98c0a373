use Rattle.std.proofs.Common.{◌≡◌, ◌++◌, Bool, true, cond, List, [], ◌∷◌, sym, ap, ◌∙◌}
use Rattle.jc_methods.specs.declared.body.LineAt.{LineAt}
use Rattle.jc_cover.specs.Counters.{Method, is_counted}
use Rattle.jc_cover.specs.Lines.{insn_lines, covered_insn_lines, methods_lines, covered_methods_lines}
use Rattle.jc_cover.proofs.InsnLinesLaws.{method_lines, covered_method_lines}
use Rattle.jc_cover.proofs.counting.count_method.Goals as goal

pub returns-clause-all : goal.returns-clause-all
returns-clause-all c =
    let b = c.args.body.now in
    let insns = c.args.insns.now in
    let old = c.args.lines.now.all.items in
    let m : Method = record { body = b; insns = insns } in
    let counts : is_counted b ≡ true = sym c.is_counted.ensures ∙ c.if-not-is_counted.false in
    c.in_ok-put_lines.ensures.all ∙ ap (λ (l : List LineAt). old ++ insn_lines l insns) c.deref.ensures ∙ ap (λ l. old ++ l) (method_lines b insns)
    ∙ sym (ap (λ (t : Bool). old ++ methods_lines (cond t (m ∷ []) [])) counts)

pub returns-clause-covered : goal.returns-clause-covered
returns-clause-covered c =
    let b = c.args.body.now in
    let insns = c.args.insns.now in
    let old = c.args.lines.now.covered.items in
    let m : Method = record { body = b; insns = insns } in
    let counts : is_counted b ≡ true = sym c.is_counted.ensures ∙ c.if-not-is_counted.false in
    c.in_ok-put_lines.ensures.covered ∙ ap (λ (l : List LineAt). old ++ covered_insn_lines l insns) c.deref.ensures ∙ ap (λ l. old ++ l) (covered_method_lines b insns)
    ∙ sym (ap (λ (t : Bool). old ++ covered_methods_lines (cond t (m ∷ []) [])) counts)
