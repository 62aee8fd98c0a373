use Rattle.std.proofs.Common.{◌≡◌, List, ℕ, None, Some, length, get_or, sym, ap, subst, arith}
use Rattle.std.specs.Prelude.{IsTrue}
use Rattle.jc_methods.specs.ProbeMembers.{bootstraps_name}
use Rattle.jc_class.specs.declared.class_file.Attribute.{Attribute}
use Rattle.jc_body.specs.Attributes.{has_name}
use Rattle.jc_body.specs.First.{FirstItem}
use Rattle.jc_instrument.specs.Bootstraps.{IsFirstBody}
use Rattle.jc_bootstraps.specs.Bootstraps.{bootstrap_bodies}
use Rattle.jc_instrument.proofs.BootstrapsDecidedLaws.{body_read, no_body_first, number_within}
use Rattle.jc_instrument.proofs.bootstraps.bootstraps_body.Goals as goal

pub returns-in_err-number : goal.returns-in_err-number
returns-in_err-number c =
    let class = c.args.class.now in
    rw c.from_residual.ensures
    (no_body_first class.pool class.attributes
    (subst (λ (l : List Attribute). FirstItem (λ number a. IsTrue (has_name class.pool bootstraps_name a)) l None) c.deref.ensures c.in_err-number.ensures))

pub returns-in_err-attribute : goal.returns-in_err-attribute
returns-in_err-attribute c =
    let class = c.args.class.now in
    let n = c.in_ok-number.number in
    let first = subst (λ (l : List Attribute). FirstItem (λ number a. IsTrue (has_name class.pool bootstraps_name a)) l (Some n)) c.deref.ensures c.in_ok-number.ensures in
    let within = number_within class.pool class.attributes n first in
    let past = c.in_err-attribute.ensures.lookup.3 in
    let same = ap (λ (l : List Attribute). length l) c.deref-2.ensures in
    absurd (omega (arith, within, past, same))

pub returns : goal.returns
returns c =
    let class = c.args.class.now in
    let n = c.in_ok-number.number in
    let first = subst (λ (l : List Attribute). FirstItem (λ number a. IsTrue (has_name class.pool bootstraps_name a)) l (Some n)) c.deref.ensures c.in_ok-number.ensures in
    let a = c.in_ok-attribute.attribute.now in
    subst (λ (body : List ℕ). IsFirstBody (bootstrap_bodies class.pool class.attributes) (Some body)) (sym c.deref-3.ensures)
    (body_read class.pool class.attributes n a first
    (subst (λ (l : List Attribute). a ≡ get_or l n a) c.deref-2.ensures c.in_ok-attribute.ensures.lookup.1))
