use Rattle.std.proofs.Common.{◌<◌, ℕ, Bool, ◌&&◌, ◌||◌, nat_le, List, ◌∷◌, [], ◌++◌, length, get_or, sym, ap, ap₂, ◌∙◌, arith}
use Rattle.jc_methods.specs.declared.insn.Insn.{Insn}
use Rattle.jc_plan.specs.Entries.{entries, is_multi_target}
use Rattle.jc_plan.proofs.PlacesLaws.{puts_place, mapped_at, length_mapped}
use Rattle.jc_plan.proofs.NumberingLaws.{fallen_next}
use Rattle.jc_plan.proofs.entries.multi_targets.Goals as goal

pub index-requires : goal.index-requires
index-requires c =
    omega (arith, c.in_ok-counts.counts.ok.0, ap length c.in_ok-counts.ensures, length_mapped (entries c.args.body.now) 0 (length c.args.body.now.code), ap length c.deref-insn-items.ensures)

pub marking-preserved : goal.marking-preserved
marking-preserved c =
    let b = c.args.body.now in
    let at = c.marking.at in
    let lt : at < length b.code = omega (arith, ap length c.deref-insn-items.ensures) in
    let is = c.insn-item.is ∙ ap (λ (l : List Insn). get_or l at c.insn-item.result) c.deref-insn-items.ensures in
    let count = c.index.ensures ∙ ap (λ (l : List ℕ). get_or l at c.index.result.now) c.in_ok-counts.ensures ∙ mapped_at (entries b) (length b.code) at c.index.result.now lt in
    let test = c.is_multi_target.ensures ∙ ap₂ (λ (n : ℕ) (t : Bool). nat_le 2 n || (nat_le 1 n && t)) count c.marking.invariant.fallen in
    record {
      marked = puts_place (is_multi_target b) at c.marking.marks.items c.push.new.self.items c.marking.invariant.marked
          (c.in_ok-push.ensures.items ∙ ap (λ (t : Bool). c.marking.marks.items ++ t ∷ []) test);
      fallen = c.falls-fallen_into.ensures ∙ sym (fallen_next b.code at c.insn-item.result lt is);
    }
