use Rattle.std.proofs.Common.{◌≡◌, inl, inr, true, List, Some, sym, ap, ◌∙◌}
use Rattle.std.specs.List.{slice_get}
use Rattle.jc_methods.specs.declared.body.Body.{Body}
use Rattle.jc_methods.specs.DescriptorTypes.{method_type_in}
use Rattle.jc_programs.specs.declared.program.Linked.{Linked}
use Rattle.jc_machine_model.specs.Methods.{is_enterable, most_frame_slots}
use Rattle.jc_machine_model.specs.Profile.{may_name_method}
use Rattle.jc_machine_code.proofs.SiteLaws.{got, entered, not_entered}
use Rattle.jc_machine_code.proofs.site.Site.body_entered.Goals as goal
use Rattle.jc_machine_code.proofs.site.Site.body_entered.Goals.{else-is_enterable-via-then-is_enterable+else-may_name_method, else-is_enterable-via-else-is_enterable}

pub returns-then-may_name_method : goal.returns-then-may_name_method
returns-then-may_name_method c = λ program at i linked site place index.
    let b : Body = c.in-Some.body.now in
    let bodies : c.as_slice.result.now ≡ linked.bodies = c.as_slice.ensures ∙ ap (λ (l : Linked). l.bodies) index.linked in
    let there : slice_get linked.bodies c.args.callee.method ≡ Some b =
    sym (got c.as_slice.result.now c.args.callee.method (Some c.in-Some.body) c.in-Some.ensures.lookup ∙ ap (λ (l : List Body). slice_get l c.args.callee.method) bodies) in
    let enter : is_enterable linked b ≡ true =
    sym (c.is_enterable.ensures (ap most_frame_slots index.linked ∙ index.most) ∙ ap (λ (l : Linked). is_enterable l b) index.linked) ∙ c.if-is_enterable.true in (
      (method_type_in b.desc).parameters,
      b.max_locals,
      entered at c.args.callee linked (slice_get linked.bodies c.args.callee.method) b there enter
          (sym (c.may_name_method.ensures program at site place ∙ ap (may_name_method at c.args.callee.class) c.as_slice-then-is_enterable.ensures)
          ∙ c.if-may_name_method.true),
    )

pub returns-else-is_enterable : goal.returns-else-is_enterable
returns-else-is_enterable c = λ program at i linked site place index.
    let b : Body = c.in-Some.body.now in
    let bodies : c.as_slice.result.now ≡ linked.bodies = c.as_slice.ensures ∙ ap (λ (l : Linked). l.bodies) index.linked in
    let there : slice_get linked.bodies c.args.callee.method ≡ Some b =
    sym (got c.as_slice.result.now c.args.callee.method (Some c.in-Some.body) c.in-Some.ensures.lookup ∙ ap (λ (l : List Body). slice_get l c.args.callee.method) bodies) in
    let enter : c.is_enterable.result ≡ is_enterable linked b =
    c.is_enterable.ensures (ap most_frame_slots index.linked ∙ index.most) ∙ ap (λ (l : Linked). is_enterable l b) index.linked in
    not_entered at c.args.callee linked (slice_get linked.bodies c.args.callee.method) b there (elim c.else-is_enterable.branch [
      | else-is_enterable-via-then-is_enterable+else-may_name_method w ↦ inr
          (sym (w.may_name_method.ensures program at site place ∙ ap (may_name_method at c.args.callee.class) w.as_slice-then-is_enterable.ensures)
          ∙ w.if-may_name_method.false)
      | else-is_enterable-via-else-is_enterable w ↦ inl (sym enter ∙ w.if-is_enterable.false)
    ])
