use Rattle.std.proofs.Common.{◌≡◌, ◌≤◌, List, ◌++◌, [], length, drop, sym, ap, ◌∙◌, subst, arith, length-append, append-nil}
use Rattle.std.proofs.lemmas.List.{length-take-le}
use Rattle.jc_bytes.specs.PlainLists.{pieces}
use Rattle.jc_emit.specs.Sizes.{narrow}
use Rattle.jc_emit.specs.Items.{Item, prelude, segment, twin_items}
use Rattle.jc_emit.specs.Written.{Shows, integer_in}
use Rattle.jc_emit.proofs.WritingLaws.{shows_more, shows_piece}
use Rattle.jc_emit.proofs.segments.write_code.Goals as goal

pub writing-init : goal.writing-init
writing-init c =
    let plan = c.requires.plan in
    record {
      table = ap length c.in_ok-table.ensures.items ∙ ap length c.deref.ensures.value ∙ (c.requires.places plan.0 plan.1).lands.size;
      shows = λ first is.
          let integer = integer_in c.args.source.constants.now in
          let v = c.args.source.body.now.arg_slots in
          let start = prelude c.args.source.fetch in
          subst (λ (l : List Item). Shows integer v l c.put_prelude.new.self) (sym (append-nil start))
          (shows_more integer v ([]) start c.in_ok-written.written c.put_prelude.new.self (c.in_ok-written.ensures integer v) (c.in_ok-put_prelude.ensures integer));
    }

pub writing-preserved : goal.writing-preserved
writing-preserved c =
    let table = c.put_segment.new.table in
    let items = c.writing.table.items in
    let len = c.writing.table.len in
    let le : len ≤ length (table ++ drop (length table) items) =
    omega (
      arith,
      length-append table (drop (length table) items),
      c.in_ok-put_segment.ensures.table,
      ap length c.deref_mut.ensures.value,
      c.writing.table.ok.0,
    ) in
    record {
      table = length-take-le len (table ++ drop (length table) items) le ∙ omega (arith, c.writing.table.ok.0, c.writing.invariant.table);
      shows = λ first is.
          shows_piece (integer_in c.args.source.constants.now) c.args.source.body.now.arg_slots (prelude c.args.source.fetch)
          (segment c.args.source.body.now first (narrow c.args.source.fetch)) c.writing.at c.writing.written c.put_segment.new.written
          (c.writing.invariant.shows first is) (c.in_ok-put_segment.ensures.code first is);
    }

pub returns : goal.returns
unfolding twin_items
returns c = λ first is.
    let all : c.writing.at ≡ length c.args.source.body.now.code = omega (arith, c.len-at-end.ensures) in
    let b = c.args.source.body.now in
    let fetch = c.args.source.fetch in
    subst (λ n. Shows (integer_in c.args.source.constants.now) b.arg_slots (prelude fetch ++ pieces (segment b first (narrow fetch)) n) c.writing.written) all
    (c.writing.invariant.shows first is)
