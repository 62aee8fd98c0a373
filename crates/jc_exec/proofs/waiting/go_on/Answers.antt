use Rattle.std.proofs.Common.{◌++◌, ◌-◌, ℕ, List, length, drop, sym, ◌∙◌, ap, subst, arith, length-append}
use Rattle.std.proofs.lemmas.List.{length-drop}
use Rattle.jc_exec.specs.Adding.{store_of}
use Rattle.jc_exec.specs.Feeding.{Waits}
use Rattle.jc_exec.proofs.FeedLaws.{waits_for_none}
use Rattle.jc_exec.proofs.PieceLaws.{adds_over_none, stops_over_none, other_refusal_lasts, unfit_stop, bad_refusal_lasts, front_waits, tail_is}
use Rattle.jc_exec.proofs.waiting.go_on.Goals as goal

pub returns-in-Ok-clause-stands : goal.returns-in-Ok-clause-stands
returns-in-Ok-clause-stands g c = λ before bytes w size.
    let start = g.T.Table.held c.args.waiting.table in
    let new = g.T.Table.held c.take_blocks.new.table in
    let adds = adds_over_none c.new-none.result c.args.offset c.deref.result.now (c.args.waiting.rest.items ++ c.args.piece.now) start new
    c.new-none.ensures (c.deref.ensures.value ∙ c.in_ok-extend_from_slice.ensures.items) c.in-Ok.ensures.adds in
    subst (λ (l : List ℕ). Waits before (bytes ++ c.args.piece.now) (store_of new.sessions new.records) l) (sym c.clear.ensures.items)
    (waits_for_none start c.args.offset c.args.waiting.rest.items c.args.piece.now c.requires.keyed before bytes w size new adds)

pub returns-in-None-clause-stands : goal.returns-in-None-clause-stands
returns-in-None-clause-stands g c = λ before bytes w size more.
    let start = g.T.Table.held c.args.waiting.table in
    let new = g.T.Table.held c.take_blocks.new.table in
    let stop = stops_over_none c.new-none.result c.args.offset c.deref.result.now (c.args.waiting.rest.items ++ c.args.piece.now) start new
    c.in-Err-Said.field-0 c.in-Err-Said.refusal c.new-none.ensures (c.deref.ensures.value ∙ c.in_ok-extend_from_slice.ensures.items)
    c.in-Err-Said.field-0-is c.in-Err-Said.ensures.stops in
    other_refusal_lasts start c.args.offset c.args.waiting.rest.items c.args.piece.now c.requires.keyed before bytes w size new c.in-Err-Said.refusal
    c.in-None.ensures.other stop more

pub returns-then-not-may_begin-clause-stands : goal.returns-then-not-may_begin-clause-stands
returns-then-not-may_begin-clause-stands g c = λ before bytes w size more.
    let start = g.T.Table.held c.args.waiting.table in
    let new = g.T.Table.held c.take_blocks.new.table in
    let stop = stops_over_none c.new-none.result c.args.offset c.deref.result.now (c.args.waiting.rest.items ++ c.args.piece.now) start new
    c.in-Err-Said.field-0 c.in-Err-Said.refusal c.new-none.ensures (c.deref.ensures.value ∙ c.in_ok-extend_from_slice.ensures.items)
    c.in-Err-Said.field-0-is c.in-Err-Said.ensures.stops in
    bad_refusal_lasts start c.args.offset c.args.waiting.rest.items c.args.piece.now c.requires.keyed before bytes w size new c.in-Err-Said.refusal c.in-Some.place
    c.in-Some.ensures.bad stop c.deref-in-Some.result.now (c.deref-in-Some.ensures.value ∙ c.in_ok-extend_from_slice.ensures.items)
    (c.may_begin.ensures.lasts c.if-not-may_begin.true) more

pub returns-else-not-may_begin-clause-stands : goal.returns-else-not-may_begin-clause-stands
returns-else-not-may_begin-clause-stands g c = λ before bytes w size.
    let start = g.T.Table.held c.args.waiting.table in
    let new = g.T.Table.held c.take_blocks.new.table in
    let stop = stops_over_none c.new-none.result c.args.offset c.deref.result.now (c.args.waiting.rest.items ++ c.args.piece.now) start new
    c.in-Err-Said.field-0 c.in-Err-Said.refusal c.new-none.ensures (c.deref.ensures.value ∙ c.in_ok-extend_from_slice.ensures.items)
    c.in-Err-Said.field-0-is c.in-Err-Said.ensures.stops in
    subst (Waits before (bytes ++ c.args.piece.now) (store_of new.sessions new.records))
    (ap (drop (c.in-Some.place - c.args.offset)) c.deref-in-Some.ensures.value ∙ sym c.drop_first.ensures)
    (front_waits start c.args.offset c.args.waiting.rest.items c.args.piece.now c.requires.keyed before bytes w size new c.in-Err-Said.refusal c.in-Some.place
    c.in-Some.ensures.bad stop c.deref-in-Some.result.now (c.deref-in-Some.ensures.value ∙ c.in_ok-extend_from_slice.ensures.items)
    (c.may_begin.ensures.waits c.if-not-may_begin.false))

pub returns-else-not-may_begin-clause-sound : goal.returns-else-not-may_begin-clause-sound
returns-else-not-may_begin-clause-sound g c =
    let stop = stops_over_none c.new-none.result c.args.offset c.deref.result.now (c.args.waiting.rest.items ++ c.args.piece.now) (g.T.Table.held c.args.waiting.table)
    (g.T.Table.held c.take_blocks.new.table) c.in-Err-Said.field-0 c.in-Err-Said.refusal c.new-none.ensures
    (c.deref.ensures.value ∙ c.in_ok-extend_from_slice.ensures.items) c.in-Err-Said.field-0-is c.in-Err-Said.ensures.stops in
    let s = unfit_stop (g.T.Table.held c.args.waiting.table) c.args.offset (c.args.waiting.rest.items ++ c.args.piece.now) (g.T.Table.held c.take_blocks.new.table)
    c.in-Err-Said.refusal c.in-Some.place c.in-Some.ensures.bad stop in
    let some = length-append c.args.waiting.rest.items c.args.piece.now in
    let less = length-drop (c.in-Some.place - c.args.offset) c.extend_from_slice.new.self.items in
    let tail = ap length (tail_is (c.in-Some.place - c.args.offset) c.deref-in-Some.result.now) in
    let same = ap (λ (l : List ℕ). length (drop (c.in-Some.place - c.args.offset) l)) c.deref-in-Some.ensures.value in
    let short = c.may_begin.ensures.short c.if-not-may_begin.false in (
      s.adds.writable c.requires.writable,
      s.adds.keyed,
      omega (arith, some, less, ap length c.drop_first.ensures, ap length c.in_ok-extend_from_slice.ensures.items),
      omega (arith, short, tail, same, ap length c.drop_first.ensures),
    )
