use Rattle.std.proofs.Common.{length, refl, ap, ◌∙◌, arith}
use Rattle.jc_emit.specs.Sizes.{narrow}
use Rattle.jc_emit.specs.Items.{lead_of, land_of}
use Rattle.jc_emit.proofs.FramingLaws.{leads_long, table_read, lead_read, framed_read, all_put}
use Rattle.jc_emit.proofs.frames.Framing.put_at.Goals as goal

pub bounds-deref-at : goal.bounds-deref-at
bounds-deref-at c =
    let framing = c.requires.framing in
    omega (arith, ap length c.deref.ensures, leads_long framing.0 framing.1 c.args.self.now framing.2, c.requires.at)

pub returns : goal.returns
returns c = λ first given is.
    let f = c.args.self.now in
    let b = f.body.now in
    let at = c.args.at in
    let lt = c.requires.at in
    let leads = f.places.now.leads.items in
    let lands = f.places.now.lands.items in
    all_put first given f is at c.index.result.now c.index-3.result.now c.index-self-at.result c.has_inverse-inverse.result c.is_some-lead.result c.index-2.result.now
    c.is_led-led.result c.is_landed-landed.result c.args.frames.now.items c.put_if.new.frames.items c.put_if-2.new.frames.items c.put_arms_at.new.frames.items _ lt
    (table_read (lead_of b first (narrow given.fetch)) (length b.code) at c.index.result.now leads leads is.places.leads lt (λ k. leads) c.index.ensures)
    (table_read (land_of b first (narrow given.fetch)) (length b.code) at c.index-3.result.now lands lands is.places.lands lt (λ k. lands) c.index-3.ensures)
    (c.has_inverse-inverse.ensures first given is) (c.is_some-lead.ensures ∙ lead_read first given f is c.deref.result.now at _ c.deref.ensures lt)
    (framed_read first given f is at c.index-2.result.now lt c.index-2.ensures) c.is_led-led.ensures c.is_landed-landed.ensures
    (c.in_ok-put_if.ensures first given is) (c.in_ok-put_if-2.ensures first given is) (c.in_ok-put_arms_at.ensures first given is) refl
