use Rattle.std.proofs.Common.{length, sym, ◌∙◌}
use Rattle.jc_bytes.proofs.DecidingLaws.{Decides}
use Rattle.jc_body.specs.CodeForm.{code_form}
use Rattle.jc_body.specs.CodeReading.{code_at}
use Rattle.jc_body.proofs.FormLaws.{Fitting, code_agrees, read_whole, read_part, read_refused, some_code, no_code, unfit, sized, unsized}
use Rattle.jc_body.proofs.form.read_code.Goals as goal
use Rattle.jc_body.proofs.form.read_code.Goals.{then-size-ge1, else-size-ge1, then-whole+then-fits, else-whole, else-whole-via-then-whole+else-fits, else-whole-via-else-whole}

pub returns-in-Err-Said : goal.returns-in-Err-Said
returns-in-Err-Said c items is =
    let refused = rw c.in-Err-Said.field-0-is at c.in-Err-Said.ensures.gives in
    read_refused (code_form c.args.pool.now) (code_at c.args.pool.now) (code_agrees c.args.pool.now) c.args.bytes.now c.new-reader.result
    c.code_items.new.reader c.in-Err-Said.field-0-0 c.new-reader.ensures refused items is.text

pub returns-after-whole : goal.returns-after-whole
returns-after-whole c =
    let pool = c.args.pool.now in
    let bytes = c.args.bytes.now in
    let items = c.in-Ok.items in
    let whole = read_whole (code_form pool) (code_at pool) (code_agrees pool) bytes c.new-reader.result c.code_items.new.reader items c.new-reader.ensures c.in-Ok.ensures.end c.in-Ok.ensures.gives in
    let part = read_part (code_form pool) (code_at pool) (code_agrees pool) bytes c.new-reader.result c.code_items.new.reader items c.new-reader.ensures c.in-Ok.ensures.end c.in-Ok.ensures.gives in
    let fits : Decides c.if-size-ge1.fits (Fitting (length items.code)) = elim c.if-size-ge1.branch [
      | then-size-ge1 w ↦ some_code c.if-size-ge1.fits c.len-size.result (length items.code) c.len-size.ensures w.if-size-ge1.true w.fits-is
      | else-size-ge1 w ↦ no_code c.if-size-ge1.fits c.len-size.result (length items.code) c.len-size.ensures w.if-size-ge1.false w.fits-is
    ] in
    elim c.if-whole.branch [
      | then-whole+then-fits w ↦ rw w.result-is (sized pool bytes items (whole (sym c.place.ensures ∙ w.if-whole.true)) (fits.to w.if-fits.true))
      | else-whole w ↦ rw w.result-is (elim w.else-whole.branch [
        | else-whole-via-then-whole+else-fits v ↦ unsized pool bytes items (whole (sym c.place.ensures ∙ v.if-whole.true)) (unfit c.if-size-ge1.fits (length items.code) fits v.if-fits.false)
        | else-whole-via-else-whole v ↦ λ found is. part (λ same. v.if-whole.false (c.place.ensures ∙ same)) found is.text
      ])
    ]
