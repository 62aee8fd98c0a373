use Rattle.std.proofs.Common.{◌++◌, List, sym, ◌∙◌, ap, arith}
use Rattle.std.proofs.lemmas.List.{map-append}
use Rattle.jc_frames.specs.declared.method.Value.{Value}
use Rattle.jc_frames.specs.Running.{held_value, held_values}
use Rattle.jc_frames.proofs.MethodLaws.{behind}
use Rattle.jc_frames.proofs.RunningLaws.{slots_bounded}
use Rattle.jc_frames.proofs.running.Running.append.Goals as goal

pub returns-in_default-clause-values : goal.returns-in_default-clause-values
returns-in_default-clause-values c names =
    let pool = c.args.method.now.pool in
    let said = c.in_ok-more.ensures.says names in
    let none = rw c.in_default.is at said in
    ap (behind (held_values pool names c.args.self.now.values.items)) none

pub overflow_add-self : goal.overflow_add-self
overflow_add-self c = omega (arith, slots_bounded c.args.self.now.values.items, c.requires.running.slots, c.requires.running.few, c.slots_of.ensures.few)

pub returns-clause-values : goal.returns-clause-values
returns-clause-values c names =
    let pool = c.args.method.now.pool in
    let said = c.in_ok-more.ensures.says names in
    let some = rw c.in-Some.is at said in
    ap (behind (held_values pool names c.args.self.now.values.items)) some
    ∙ sym (ap (λ (l : List Value). Rattle.std.proofs.Common.Some (held_values pool names l))
    (c.in_ok-extend_from_slice.ensures.items ∙ ap (λ (l : List Value). c.args.self.now.values.items ++ l) c.deref-2.ensures.value)
    ∙ ap Rattle.std.proofs.Common.Some (map-append (held_value pool names) c.args.self.now.values.items c.in-Some.more.items))
