use Rattle.std.proofs.Common.{◌≡◌, ◌+◌, ◌++◌, ◌∷◌, [], ℕ, List, length, sym, ◌∙◌, ap, subst, arith, length-append}
use Rattle.jc_command_exec.specs.Lines.{lines_in, EndAt}
use Rattle.jc_command_exec.proofs.LinesLaws.{end_more, lines_more}
use Rattle.jc_command_exec.proofs.lines.Lines.push.Goals as goal

pub invariant_of-self-2 : goal.invariant_of-self-2
invariant_of-self-2 c =
    let text = c.self.inside.text.items in let ends = c.self.inside.ends.items in let line = c.args.line.now in
    let end : c.saturating_add-end.result ≡ length text + length line = omega (arith, c.saturating_add-end.ensures, c.len.ensures, c.if-end-gt4294967295.false) in
    let size : length c.extend_from_slice.new.self.items ≡ length text + length line = ap length c.in_ok-extend_from_slice.ensures.items ∙ length-append text line in
    let are : c.push.new.self.items ≡ ends ++ (length text + length line) ∷ [] =
    c.in_ok-push.ensures.items ∙ (λ i. c.in_ok-reserve.ensures.items i ++ end i ∷ []) in
    subst (λ (n : ℕ). EndAt n 0 c.push.new.self.items) (sym size)
    (subst (EndAt (length text + length line) 0) (sym are) (end_more text line 0 ends c.self.invariant))

pub returns : goal.returns
returns c =
    let text = c.self.inside.text.items in let ends = c.self.inside.ends.items in let line = c.args.line.now in
    let end : c.saturating_add-end.result ≡ length text + length line = omega (arith, c.saturating_add-end.ensures, c.len.ensures, c.if-end-gt4294967295.false) in
    let are : c.push.new.self.items ≡ ends ++ (length text + length line) ∷ [] =
    c.in_ok-push.ensures.items ∙ (λ i. c.in_ok-reserve.ensures.items i ++ end i ∷ []) in
    (λ i. lines_in (c.in_ok-extend_from_slice.ensures.items i) 0 (are i)) ∙ lines_more text line 0 ends c.self.invariant
    ∙ ap (λ (l : List (List ℕ)). l ++ line ∷ []) c.self.view_is
