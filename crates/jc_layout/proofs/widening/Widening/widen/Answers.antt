use Rattle.std.proofs.Common.{◌≡◌, ◌∙◌, ◌≤◌, List, Bool, length, All, ap, rules, subst, sym}
use Rattle.jc_methods.specs.Widened.{listed}
use Rattle.jc_layout.specs.Shift.{all_risen}
use Rattle.jc_layout.specs.declared.jumps.Ends.{Ends}
use Rattle.jc_layout.specs.declared.jumps.Jump.{Jump}
use Rattle.jc_layout.specs.declared.shift.Shift.{Shift}
use Rattle.jc_layout.proofs.KeptLaws.{all_few, kept_after, written_back}
use Rattle.jc_layout.proofs.widening.Widening.widen.Goals as goal

pub raise-requires-clause-ends : goal.raise-requires-clause-ends
raise-requires-clause-ends c =
    let self = c.args.self.now in
    subst (All (λ (e : Ends). (e.at ≤ 16000000) × (e.to ≤ 16000000))) (sym c.deref_mut.ensures.value)
    (all_few self.code.now self.jumps.items self.wide.items self.starts.items self.ends.items c.requires.layable.few c.requires.kept)

pub returns-clause-kept : goal.returns-clause-kept
returns-clause-kept c =
    let self = c.args.self.now in
    let j = c.args.jump in
    let narrow = sym (c.if-is_listed.ensures ∙ ap (λ (l : List Bool). listed l j.number) c.deref.ensures.value) in
    let kept_size : length c.raise.new.ends ≡ c.args.self.now.ends.len = search rules in
    let old_size : length c.args.self.now.ends.items ≡ c.args.self.now.ends.len = search rules in
    let s : Shift = record { jump = c.args.jump.number; switch = c.args.jump.switch; near = c.args.jump.more; behind = c.passed_on.result } in
    let risen = c.raise.ensures
    ∙ ap (λ (l : List Jump). all_risen s l c.deref_mut.result.now) c.deref-2.ensures.value
    ∙ ap (λ (l : List Ends). all_risen s self.jumps.items l) c.deref_mut.ensures.value in
    kept_after self.code.now self.jumps.items self.wide.items self.starts.items self.ends.items c.requires.kept j c.requires.jump narrow
    c.passed_on.result c.index.result.now c.index.ensures c.passed_on.ensures.passed _
    (written_back self.ends.len c.raise.new.ends self.ends.items kept_size old_size ∙ risen)
