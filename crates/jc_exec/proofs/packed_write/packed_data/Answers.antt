use Rattle.std.proofs.Common.{◌≡◌, ◌<◌, ◌++◌, All, length, filter, sym, ◌∙◌, ap, subst}
use Rattle.std.specs.List.{flat_map}
use Rattle.jc_exec.specs.declared.session.Session.{Session}
use Rattle.jc_exec.specs.Rows.{hits_of}
use Rattle.jc_exec.specs.Store.{IsSmall, classes_of}
use Rattle.jc_exec.specs.Writing.{session_text, class_text, is_hit}
use Rattle.jc_exec.proofs.EntriesLaws.{classes_are}
use Rattle.jc_exec.proofs.SessionLaws.{all_sorted}
use Rattle.jc_exec.proofs.packed_write.packed_data.Goals as goal

pub put_sessions-requires : goal.put_sessions-requires
put_sessions-requires c = subst (All (λ (s : Session). length s.id < 65536)) (sym c.in_ok-sort.ensures) (all_sorted (λ s. length s.id < 65536) c.args.sessions c.requires.sessions)

pub put_classes-requires-clause-small : goal.put_classes-requires-clause-small
put_classes-requires-clause-small c =
    let cs = hits_of c.records.inside.bytes.items c.records.inside.ids c.records.inside.rows.items in
    let ids = c.deref.ensures.value ∙ c.into_ids-ids.ensures in
    subst (All IsSmall)
    (sym ((λ i. hits_of (c.deref-3.ensures.value i) (ids i) (c.deref-2.ensures.value i)) ∙ sym (classes_are cs) ∙ ap classes_of c.records.view_is)) c.requires.classes

pub returns : goal.returns
returns c =
    let cs = hits_of c.records.inside.bytes.items c.records.inside.ids c.records.inside.rows.items in
    let ids = c.deref.ensures.value ∙ c.into_ids-ids.ensures in
    let whole : hits_of c.deref-3.result.now c.deref.result.now c.deref-2.result.now ≡ classes_of c.args.records =
    (λ i. hits_of (c.deref-3.ensures.value i) (ids i) (c.deref-2.ensures.value i)) ∙ sym (classes_are cs) ∙ ap classes_of c.records.view_is in
    let front = c.in_ok-put_sessions.ensures ∙ (λ i. c.in_ok-out.ensures.items i ++ flat_map session_text (c.in_ok-sort.ensures i)) in
    c.in_ok-put_classes.ensures ∙ (λ i. front i ++ flat_map class_text (filter is_hit (whole i)))
