use Rattle.std.proofs.Common.{[], codes, rules, refl, sym, ◌∙◌, ap, subst}
use Rattle.jc_methods.specs.EntryState.{entry_seen}
use Rattle.jc_body.specs.Answers.{AreFramesOf}
use Rattle.jc_body.specs.Attributes.{bodies_of}
use Rattle.jc_body.proofs.SizeLaws.{insns_short}
use Rattle.jc_body.proofs.StackMapLaws.{no_frames, several_tables}
use Rattle.jc_body.proofs.TablesLaws.{IsBounded, texts, each_body}
use Rattle.jc_body.proofs.stack_map.frames_of.Goals as goal

pub is_too_wide-requires : goal.is_too_wide-requires
is_too_wide-requires c = insns_short _ _ _ c.requires.coded

pub returns-in-empty-2-clause-frames : goal.returns-in-empty-2-clause-frames
returns-in-empty-2-clause-frames c =
    let method = c.args.method.now in
    let pool = method.class.now.pool in
    let entry = entry_seen method.owner.now c.requires.name.0 c.requires.desc.0 method.member.now.flags c.args.coded.now.items.max_locals in
    subst (AreFramesOf c.args.names.now pool method.owner.now method.member.now c.args.coded.now) (sym c.new.ensures)
    (no_frames pool method.owner.now method.member.now c.args.coded.now c.args.names.now entry c.as_slice.result.now
    (record { name = c.requires.name.0; desc = c.requires.desc.0; name_is = c.requires.name.1; desc_is = c.requires.desc.1; entry_is = refl })
    (ap texts c.as_slice.ensures.value ∙ (c.in_ok-tables.ensures ∙ ap (bodies_of pool (codes "StackMapTable")) c.deref.ensures))
    c.in-empty.len_below (search rules))

pub frames_of_table-requires-clause-short : goal.frames_of_table-requires-clause-short
frames_of_table-requires-clause-short c =
    let method = c.args.method.now in
    let pool = method.class.now.pool in
    each_body IsBounded pool (codes "StackMapTable") c.args.coded.now.items.attributes c.requires.sizes c.as_slice.result.now
    (ap texts c.as_slice.ensures.value ∙ (c.in_ok-tables.ensures ∙ ap (bodies_of pool (codes "StackMapTable")) c.deref.ensures)) 0
    (record { ref_ptr = (0, 0); now = [] }) (search rules)

pub returns-clause-refused : goal.returns-clause-refused
returns-clause-refused c =
    let method = c.args.method.now in
    let pool = method.class.now.pool in
    several_tables pool method.owner.now method.member.now c.args.coded.now method.number c.bad_code-in_default.result
    c.as_slice.result.now c.bad_code-in_default.ensures
    (ap texts c.as_slice.ensures.value ∙ (c.in_ok-tables.ensures ∙ ap (bodies_of pool (codes "StackMapTable")) c.deref.ensures))
    c.in_default.len_at_least
