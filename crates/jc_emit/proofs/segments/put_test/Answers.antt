use Rattle.std.proofs.Common.{◌≡◌, ◌<◌, ◌+◌, None, length, get_or, sym, ◌∙◌, subst, arith}
use Rattle.std.proofs.lemmas.Grind.{get_or_default_zero}
use Rattle.jc_emit.specs.Sizes.{narrow}
use Rattle.jc_emit.specs.Items.{hop_part, land_of, lead_of}
use Rattle.jc_emit.specs.Writing.{Grows}
use Rattle.jc_emit.specs.Written.{integer_in}
use Rattle.jc_emit.proofs.SegmentLaws.{table_is, test_image_is, test_within, grows_test}
use Rattle.jc_emit.proofs.segments.put_test.Goals as goal

pub returns : goal.returns
returns c = λ b first fetch are.
    let integer = integer_in c.args.probes.constants.now in
    let v = c.args.probes.slot in
    let lands = c.args.places.now.lands.items in
    let leads = c.args.places.now.leads.items in
    let insn = c.args.jump.insn.now in
    let at = c.args.at in
    let to = c.jump_target-to.result in
    let tells = table_is (land_of b first (narrow fetch)) (length b.code) lands are.lands in
    let next = are.leads.each (at + 1) (omega (arith, are.leads.size, c.requires.next)) in
    let image =
    c.in_ok-test_image.ensures
    ∙ test_image_is (land_of b first (narrow fetch)) lands (lead_of b first (narrow fetch) (at + 1)) (get_or leads (at + 1) 0) insn c.args.jump.late tells c.requires.within next in
    let lt : to < length lands = omega (arith, c.jump_target-to.ensures, test_within (length lands) insn c.requires.test c.requires.within) in
    let landing : land_of b first (narrow fetch) to ≡ c.index.result.now =
    sym (c.index.ensures ∙ get_or_default_zero lands to c.index.result.now lt ∙ tells to lt) in
    grows_test integer v b first fetch at insn c.in_ok-test_image.field-0 c.args.jump.late c.args.written.now c.put_image.new.self c.put_behind.new.self image
    (c.in_ok-put_image.ensures integer v None)
    (subst (λ k. Grows integer v c.put_image.new.self c.put_behind.new.self (hop_part (land_of b first (narrow fetch)) c.args.jump.late k)) c.jump_target-to.ensures
    (c.in_ok-put_behind.ensures (land_of b first (narrow fetch)) landing))
