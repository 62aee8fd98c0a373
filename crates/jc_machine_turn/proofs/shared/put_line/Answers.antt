use Rattle.std.proofs.Common.{◌≡◌, ◌+◌, ◌-◌, List, ℕ, ◌++◌, length, take, drop, slice_set, arith, ap, ◌∙◌}
use borrow.Rule.Slice.PartMut.{Post-is}
use Rattle.jc_machine_turn.proofs.OutputLaws.{line_put}
use Rattle.jc_machine_turn.proofs.shared.put_line.Goals as goal

pub returns : goal.returns
returns c =
    let old = c.args.output.now in
    let text = c.args.text.now in
    let at = c.args.at in
    let end = at + length text in
    let rest : drop (end - at) (drop at old) ≡ drop end old = Post-is at end old (omega arith) in
    ap (λ (xs : List ℕ). slice_set (take at old ++ (xs ++ drop (end - at) (drop at old))) end 10) c.copy_from_slice.ensures.after
    ∙ (ap (λ (xs : List ℕ). slice_set (take at old ++ (text ++ xs)) end 10) rest ∙ line_put old text at c.requires)
