use Rattle.std.proofs.Common.{[], ◌∷◌, length, length-append, ap, arith}
use Rattle.jc_machine_model.specs.Programs.{IsStatic}
use Rattle.jc_link_programs.proofs.FirstNumberLaws.{statics_more}
use Rattle.jc_link_programs.proofs.SingleLaws.{all_put}
use Rattle.jc_link_programs.proofs.statics.statics_of.Goals as goal

pub fields-preserved-in_ok-push : goal.fields-preserved-in_ok-push
fields-preserved-in_ok-push c =
    let before = c.fields.invariant in
    let put = c.in_ok-push.ensures.ok in
    let f = c.in_ok-static_field.field-0 in
    let size = ap (λ l. length l) put in
    let one = length-append c.fields.statics (f ∷ []) in
    let more = length-append c.fields.yielded (c.in-Some.field ∷ []) in
    let most = before.2 in (
      statics_more (λ b. b.now) c.args.class.now.pool c.fields.yielded c.in-Some.field c.fields.statics c.push.new.self f c.if-field-ne0.true
          c.in_ok-static_field.ensures.field before.0 put,
      all_put IsStatic c.fields.statics c.push.new.self f before.1 c.in_ok-static_field.ensures.fits put,
      omega (arith, size, one, more, most),
    )
