use Rattle.std.proofs.Common.{◌≡◌, ◌<◌, ◌++◌, List, length, filter, get_or, sym, ◌∙◌, ap, subst, arith}
use Rattle.std.specs.List.{flat_map}
use Rattle.std.proofs.lemmas.List.{take_all}
use Rattle.jc_exec.specs.declared.hits.ClassHits.{ClassHits}
use Rattle.jc_exec.specs.declared.packed_records.Row.{Row}
use Rattle.jc_exec.specs.Rows.{hits_of}
use Rattle.jc_exec.specs.Store.{IsSmall}
use Rattle.jc_exec.specs.Writing.{class_text, is_hit}
use Rattle.jc_exec.proofs.PackedWriteLaws.{hit_more, miss_more}
use Rattle.jc_exec.proofs.RowLaws.{laid_at, of_size, of_at}
use Rattle.jc_exec.proofs.packed_write.put_classes.Goals.{then-has_true+in_ok-put_class, else-has_true}
use Rattle.jc_exec.proofs.packed_write.put_classes.Goals as goal

-- a row of no bytes
abbrev none : Row
none = record { from = 0; name = 0; count = 0 }

pub hits_at-requires : goal.hits_at-requires
hits_at-requires c =
    (laid_at 0 (length c.args.bytes.now) c.writing.place c.args.rows.now none c.requires.packed.laid (omega (arith, c.writing-test.true))).1

pub put_class-requires : goal.put_class-requires
put_class-requires c =
    let lt : c.writing.place < length c.args.rows.now = omega (arith, c.writing-test.true) in
    let size = of_size c.args.bytes.now c.args.ids.now c.args.rows.now c.requires.packed.known in
    subst IsSmall
    (of_at c.args.bytes.now c.args.ids.now c.args.rows.now c.writing.place c.in_ok-hits.hits none lt c.requires.packed.known ∙ sym c.in_ok-hits.ensures)
    (c.requires.small c.writing.place c.in_ok-hits.hits (omega (arith, lt, size)))

pub writing-preserved : goal.writing-preserved
writing-preserved c =
    let cs = hits_of c.args.bytes.now c.args.ids.now c.args.rows.now in
    let lt : c.writing.place < length c.args.rows.now = omega (arith, c.writing-test.true) in
    let size = of_size c.args.bytes.now c.args.ids.now c.args.rows.now c.requires.packed.known in
    let below : c.writing.place < length cs = omega (arith, lt, size) in
    let item : c.in_ok-hits.hits ≡ get_or cs c.writing.place c.in_ok-hits.hits =
    c.in_ok-hits.ensures ∙ sym (of_at c.args.bytes.now c.args.ids.now c.args.rows.now c.writing.place c.in_ok-hits.hits none lt c.requires.packed.known) in
    elim c.if-has_true.branch [
      | then-has_true+in_ok-put_class w ↦
          rw w.out-is (w.in_ok-put_class.ensures
          ∙ hit_more cs c.writing.place c.in_ok-hits.hits c.args.out.now.items c.writing.out.items below item c.writing.invariant (sym c.has_true.ensures ∙ w.if-has_true.true))
      | else-has_true w ↦
          rw w.out-is
          (miss_more cs c.writing.place c.in_ok-hits.hits c.args.out.now.items c.writing.out.items below item c.writing.invariant (sym c.has_true.ensures ∙ w.if-has_true.false))
    ]

pub returns : goal.returns
returns c =
    let cs = hits_of c.args.bytes.now c.args.ids.now c.args.rows.now in
    let size = of_size c.args.bytes.now c.args.ids.now c.args.rows.now c.requires.packed.known in
    c.writing.invariant
    ∙ ap (λ (l : List ClassHits). c.args.out.now.items ++ flat_map class_text (filter is_hit l)) (take_all c.writing.place cs (omega (arith, size, c.writing-test.false)))
