use Rattle.std.proofs.Common.{◌-◌, length, refl, subst, sym}
use Rattle.jc_layout.proofs.JumpListsLaws.{AreListedFrom, is_plain, listed_none, switch_is, takes_jump, takes_other, takes_switch}
use Rattle.jc_layout.proofs.jumps.jumps_of.Goals as goal

pub listing-init : goal.listing-init
listing-init c =
    let code = c.args.code.now in
    subst (AreListedFrom code (length code) (length code)) (sym c.new-jumps.ensures.items) (listed_none code)

pub listing-preserved-in-Jump-1 : goal.listing-preserved-in-Jump-1
listing-preserved-in-Jump-1 c =
    takes_jump c.args.code.now c.listing.number c.listing.switch c.listing.jumps.items c.index-code-number.result c.listing-test.true
    c.index-code-number.is c.listing.invariant c.requires.places c.in-Jump.op
    (record { number = c.listing.number - 1; to = c.in-Jump.to; switch = c.listing.switch; more = c.widening.result }) c.in-Jump.is refl refl
    c.widening.ensures c.push.new.self.items c.in_ok-push-in-Jump.ensures.items

pub listing-preserved-in-Simple-1 : goal.listing-preserved-in-Simple-1
listing-preserved-in-Simple-1 c =
    takes_other c.args.code.now c.listing.number c.listing.switch c.listing.jumps.items c.index-code-number.result c.listing-test.true
    c.index-code-number.is c.listing.invariant (is_plain c.index-code-number.result c.in_default.not-Table c.in_default.not-Lookup) c.in_default.not-Jump

pub listing-preserved-in-Table : goal.listing-preserved-in-Table
listing-preserved-in-Table c =
    takes_switch c.args.code.now c.listing.number c.listing.switch c.listing.jumps.items c.index-code-number.result c.listing-test.true
    c.index-code-number.is c.listing.invariant (switch_is c.index-code-number.result c.in-Table.is)

pub listing-preserved : goal.listing-preserved
listing-preserved c =
    takes_switch c.args.code.now c.listing.number c.listing.switch c.listing.jumps.items c.index-code-number.result c.listing-test.true
    c.index-code-number.is c.listing.invariant (switch_is c.index-code-number.result c.in-Table.is)
