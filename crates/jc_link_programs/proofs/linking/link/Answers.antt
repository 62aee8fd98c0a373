use Rattle.std.proofs.Common.{inr, sym, ◌∙◌, ap, subst}
use Rattle.jc_bytes.specs.Failing.{Said}
use Rattle.jc_bytes.specs.declared.fail.Fail.{Fail}
use Rattle.jc_bytes.specs.declared.fail.Fail.TheVariants as fails
use Rattle.jc_link_programs.specs.Linking.{IsLinkClash, IsLinkRefusal}
use Rattle.jc_link_programs.specs.declared.link_refusal.LinkClash.{LinkClash}
use Rattle.jc_link_programs.specs.declared.link_refusal.LinkRefusal.{LinkRefusal}
use Rattle.jc_link_programs.proofs.OneRefusalLaws.{one_refusal, program_or_refusal}
use Rattle.jc_link_programs.proofs.linking.link.Goals as goal

pub returns-in-Ok-clause-reason : goal.returns-in-Ok-clause-reason
returns-in-Ok-clause-reason c = λ r given. program_or_refusal c.args.files.now c.in-Ok.program r c.in-Ok.ensures.linked given

pub returns-in-Err-Said-clause-refused : goal.returns-in-Err-Said-clause-refused
returns-in-Err-Said-clause-refused c =
    let w = c.in-Err-Said in
    let is = subst (λ (e : Fail LinkClash). Said e (IsLinkClash c.args.files.now)) w.field-0-is w.ensures.refused in
    subst (IsLinkRefusal c.args.files.now) (sym c.plain.ensures) is.refusal

pub returns-in-Err-Said-clause-accepted : goal.returns-in-Err-Said-clause-accepted
returns-in-Err-Said-clause-accepted c = λ p program.
    let w = c.in-Err-Said in
    let is = subst (λ (e : Fail LinkClash). Said e (IsLinkClash c.args.files.now)) w.field-0-is w.ensures.refused in
    absurd (program_or_refusal c.args.files.now p _ program is.refusal)

pub returns-in-Err-Said-clause-reason : goal.returns-in-Err-Said-clause-reason
returns-in-Err-Said-clause-reason c = λ r given.
    let w = c.in-Err-Said in
    let is = subst (λ (e : Fail LinkClash). Said e (IsLinkClash c.args.files.now)) w.field-0-is w.ensures.refused in
    inr (ap (λ (s : LinkRefusal). fails.Said s) (c.plain.ensures ∙ one_refusal c.args.files.now _ r is.refusal given))
