use Rattle.std.proofs.Common.{ℕ, ◌-◌, ◌<◌, ◌≤◌, ◌++◌, List, length, get_or, sym, ◌∙◌, ap, subst, arith}
use Rattle.jc_methods.specs.declared.body.Body.{Body}
use Rattle.jc_methods.specs.declared.plan.Plan.{Plan}
use Rattle.jc_plan.specs.Probed.{probe_count}
use Rattle.jc_command_classes.proofs.MethodLaws.{as_many_plans, next_id, first_behind, method_put}
use Rattle.jc_command_classes.proofs.class_info.put_methods.Goals as goal

pub offset_bounds-deref-index : goal.offset_bounds-deref-index
offset_bounds-deref-index c =
    let many = ap length c.deref.ensures ∙ as_many_plans c.args.class.now c.requires in
    omega (arith, many, c.len-index-end.ensures, c.putting-test.true, c.deref.type_inv.1)

pub bounds-deref-index : goal.bounds-deref-index
bounds-deref-index c =
    let many = ap length c.deref.ensures ∙ as_many_plans c.args.class.now c.requires in
    omega (arith, many, c.len-index-end.ensures, c.putting-test.true)

pub bounds-deref-index-in-putting : goal.bounds-deref-index-in-putting
bounds-deref-index-in-putting c =
    let many = ap length c.deref.ensures ∙ as_many_plans c.args.class.now c.requires in
    omega (arith, many, c.len-index-end.ensures, c.putting-test.true)

pub overflow_sub-next : goal.overflow_sub-next
overflow_sub-next c =
    let d = c.index-deref-index-in-putting.result in
    let p = c.index-deref-index.result in
    let within : c.putting.index < length c.args.class.now.bodies = omega (arith, c.len-index-end.ensures, c.putting-test.true) in
    let next = ap (λ (ps : List Plan). (get_or ps c.putting.index p).next) c.deref.ensures ∙ next_id c.args.class.now c.requires c.putting.index d p within in
    subst (λ (n : ℕ). c.putting.first ≤ n) (sym next) (omega (arith, c.putting.invariant.1))

pub putting-preserved : goal.putting-preserved
putting-preserved c =
    let d = c.index-deref-index-in-putting.result in
    let p = c.index-deref-index.result in
    let bodies = c.args.class.now.bodies in
    let within : c.putting.index < length bodies = omega (arith, c.len-index-end.ensures, c.putting-test.true) in
    let next = ap (λ (ps : List Plan). (get_or ps c.putting.index p).next) c.deref.ensures ∙ next_id c.args.class.now c.requires c.putting.index d p within in
    let body = c.index-deref-index-in-putting.is ∙ ap (λ (bs : List Body). get_or bs c.putting.index d) c.deref-in-putting.ensures in
    let first = c.putting.invariant.1 in (
      method_put bodies c.args.text.now.items c.putting.text.items c.extend_from_slice.new.self.items c.putting.index
          ((get_or c.deref.result.now c.putting.index p).next - c.putting.first) d d within body
          (omega (arith, next, first) ∙ ap probe_count (sym body)) c.putting.invariant.0
          (c.in_ok-extend_from_slice.ensures.items ∙ ap (λ (l : List ℕ). c.putting.text.items ++ l) (c.deref-in-putting-2.ensures.value ∙ c.in_ok-line.ensures)),
      next ∙ sym (first_behind c.args.class.now c.requires c.putting.index d within),
    )
