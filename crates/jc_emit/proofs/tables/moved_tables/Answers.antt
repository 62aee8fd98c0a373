use Rattle.std.proofs.Common.{◌+◌, length, map, ◌∙◌}
use Rattle.std.specs.Prelude.{slice_index}
use Rattle.jc_emit.specs.Sizes.{narrow}
use Rattle.jc_emit.specs.TwinTables.{moved_row, moved_line, moved_var}
use Rattle.jc_emit.specs.Items.{lead_of, land_of}
use Rattle.jc_emit.proofs.TableLaws.{rows_moved, lines_moved, vars_moved}
use Rattle.jc_emit.proofs.tables.moved_tables.Goals as goal

pub returns : goal.returns
returns c = λ first fetch are.
    let b = c.args.body.now in
    let made = c.requires.body in
    let lead = lead_of b first (narrow fetch) in
    let land = land_of b first (narrow fetch) in
    let n = length b.code in
    let leads = c.args.places.now.leads.items in
    let lands = c.args.places.now.lands.items in
    let handlers = c.in_ok-handlers.ensures
    ∙ (λ k. map (moved_row (slice_index (c.as_slice-leads.ensures.value k)) (slice_index (c.as_slice-lands.ensures.value k))) (c.deref.ensures k))
    ∙ rows_moved lead land n leads lands are.leads are.lands b.handlers made.handlers in
    let lines = c.in_ok-lines.ensures ∙ (λ k. map (moved_line (slice_index (c.as_slice-lands.ensures.value k))) (c.deref-2.ensures k))
    ∙ lines_moved land n lands are.lands b.lines made.lines in
    let vars = c.in_ok-vars.ensures ∙ (λ k. map (moved_var b.arg_slots (slice_index (c.as_slice-lands.ensures.value k))) (c.deref-3.ensures k))
    ∙ vars_moved land n lands are.lands b.arg_slots b.max_locals b.vars made.vars in
    let kind_vars = c.in_ok-kind_vars.ensures
    ∙ (λ k. map (moved_var b.arg_slots (slice_index (c.as_slice-lands.ensures.value k))) (c.deref-4.ensures k))
    ∙ vars_moved land n lands are.lands b.arg_slots b.max_locals b.kind_vars made.kind_vars in
    λ k. record {
      handlers = handlers k;
      lines = lines k;
      vars = vars k;
      kind_vars = kind_vars k;
      max_stack = b.max_stack + 3;
      max_locals = b.max_locals + 1;
    }
