use Rattle.std.proofs.Common.{◌≡◌, ◌≤◌, List, length, refl, sym, ap, subst, arith}
use Rattle.std.specs.Prelude.{All}
use Rattle.jc_methods.specs.InsnUse.{LeadsWithin}
use Rattle.jc_methods.specs.WellMade.{insns_and_arms}
use Rattle.jc_methods.specs.declared.insn.Insn.{Insn}
use Rattle.jc_plan.specs.Edges.{branches}
use Rattle.jc_plan.proofs.CountingLaws.{room_for_rows, room_for_branches, entries_counted}
use Rattle.jc_plan.proofs.entries.count_entries.Goals as goal

pub count_rows-requires-clause-room : goal.count_rows-requires-clause-room
count_rows-requires-clause-room c =
    room_for_rows c.args.body.now c.deref.result.now (branches c.args.body.now.code) c.deref.ensures refl c.args.counts.now c.count_entry.new.counts c.requires.none
    c.count_entry.ensures.each c.requires.made.sizes.handlers

pub count_code-requires-clause-few : goal.count_code-requires-clause-few
count_code-requires-clause-few c = subst (λ (code : List Insn). insns_and_arms code ≤ 65535) (sym c.deref-2.ensures) c.requires.made.code.few

pub count_code-requires-clause-within : goal.count_code-requires-clause-within
count_code-requires-clause-within c =
    let size : length c.args.body.now.code ≡ length c.count_rows.new.counts = omega arith in
    subst (λ (code : List Insn). All (LeadsWithin (length c.count_rows.new.counts)) code) (sym c.deref-2.ensures)
    (subst (λ n. All (LeadsWithin n) c.args.body.now.code) size c.requires.made.code.places)

pub count_code-requires-clause-room : goal.count_code-requires-clause-room
count_code-requires-clause-room c =
    room_for_branches c.args.body.now c.deref.result.now (branches c.deref-2.result.now) c.deref.ensures (ap branches c.deref-2.ensures) c.args.counts.now c.count_entry.new.counts
    c.requires.none c.count_entry.ensures.each c.count_rows.new.counts c.count_rows.ensures c.requires.made.sizes.handlers c.requires.made.code.few

pub returns : goal.returns
returns c =
    let size : length c.count_code.new.counts ≡ length c.args.body.now.code = omega arith in
    entries_counted c.args.body.now c.deref.result.now (branches c.deref-2.result.now) c.deref.ensures (ap branches c.deref-2.ensures) c.args.counts.now c.count_entry.new.counts
    c.requires.none c.count_entry.ensures.each c.count_rows.new.counts c.count_rows.ensures c.count_code.new.counts size c.in_ok-count_code.ensures
