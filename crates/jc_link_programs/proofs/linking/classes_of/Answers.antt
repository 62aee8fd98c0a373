use Rattle.std.proofs.Common.{◌<◌, Some, length, refl, sym, subst, arith}
use Rattle.std.proofs.lemmas.Option.{slice_get_read}
use Rattle.jc_bytes.specs.Failing.{Said}
use Rattle.jc_link_programs.specs.Linking.{IsLinkRefusal, IsLinkedClass, LinkReason, refused}
use Rattle.jc_link_programs.specs.declared.link_refusal.LinkRefusal.TheVariants as refusals
use Rattle.jc_link_programs.proofs.LinkingLaws.{first_refused, next_fits, next_linked}
use Rattle.jc_link_programs.proofs.linking.classes_of.Goals as goal

pub returns-in-Err-Said-clause-refused : goal.returns-in-Err-Said-clause-refused
returns-in-Err-Said-clause-refused c =
    let files = c.args.files.now in
    let inside : c.linking.index < length files = omega arith in
    let at = slice_get_read files (length files) c.linking.index c.index-files-index.result refl inside c.index-files-index.is in
    let refusal = c.in-Err-Said.refusal in
    let said = subst (λ e. Said e (λ r. LinkReason c.deref.result.now (Some r))) c.in-Err-Said.field-0-is c.in-Err-Said.ensures.refused in
    let reason = subst (λ b. LinkReason b (Some refusal)) c.deref.ensures said in
    record {
      refusal = subst (λ r. IsLinkRefusal files (refusals.Class c.linking.index r)) (sym c.in-Err-Said.refusal-is)
          (refused (first_refused c.linking.names files c.linking.classes c.linking.index c.index-files-index.result refusal c.linking.invariant.0 at reason));
      common = tt;
    }

pub linking-preserved : goal.linking-preserved
linking-preserved c =
    let files = c.args.files.now in
    let inside : c.linking.index < length files = omega arith in
    let at = slice_get_read files (length files) c.linking.index c.index-files-index.result refl inside c.index-files-index.is in
    let new = c.linked.new.names in
    let grows = c.in-Ok.ensures.grows in
    let class = c.in-Ok.class in
    let put = c.in_ok-push-in-Ok.ensures.ok in (
      next_linked c.linking.names new files c.linking.classes c.push.new.self c.linking.index c.index-files-index.result class grows c.linking.invariant.0 at
          (subst (λ b. IsLinkedClass new b class) c.deref.ensures c.in-Ok.ensures.linked) put,
      next_fits c.linking.names new c.linking.classes c.push.new.self class grows c.linking.invariant.1 c.in-Ok.ensures.fits put,
    )
