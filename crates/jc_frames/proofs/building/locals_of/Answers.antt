use Rattle.std.proofs.Common.{◌-◌, length, replicate, sym, ◌∙◌}
use Rattle.std.proofs.lemmas.List.Elements.{All-append}
use Rattle.jc_methods.specs.declared.kind.Kind.TheVariants as kinds
use Rattle.jc_methods.specs.VerificationTypes.{IsNumbered}
use Rattle.jc_frames.proofs.BuildingLaws.{one_at_end, one_slot, two_slots, tops_numbered, with_tops}
use Rattle.jc_frames.proofs.building.locals_of.Goals as goal
use Rattle.jc_frames.proofs.building.locals_of.Goals.{then-is_wide+in_ok-push-2, else-is_wide}

pub spreading-preserved : goal.spreading-preserved
spreading-preserved c =
    let inv = c.spreading.invariant in
    let ks = c.args.kinds.now in
    let i = c.spreading.kind-index in
    elim c.if-is_wide.branch [
      | then-is_wide+in_ok-push-2 w ↦ rw w.locals-is (record {
        seen = λ names. two_slots names ks c.spreading.locals c.push.new.self w.push-then-is_wide.new.self i kinds.Top c.spreading-test.true c.in_ok-push.ensures.ok
            w.in_ok-push-2.ensures.ok (sym (c.is_wide.ensures names) ∙ w.if-is_wide.true) (inv.seen names);
        numbered = λ count all. one_at_end (IsNumbered count) c.push.new.self w.push-then-is_wide.new.self kinds.Top w.in_ok-push-2.ensures.ok
            (one_at_end (IsNumbered count) c.spreading.locals c.push.new.self _ c.in_ok-push.ensures.ok (inv.numbered count all) (all i kinds.Top c.spreading-test.true)) tt;
      })
      | else-is_wide w ↦ rw w.locals-is (record {
        seen = λ names. one_slot names ks c.spreading.locals c.push.new.self i kinds.Top c.spreading-test.true c.in_ok-push.ensures.ok
            (sym (c.is_wide.ensures names) ∙ w.if-is_wide.false) (inv.seen names);
        numbered = λ count all. one_at_end (IsNumbered count) c.spreading.locals c.push.new.self _ c.in_ok-push.ensures.ok (inv.numbered count all) (all i kinds.Top c.spreading-test.true);
      })
    ]

pub returns-clause-seen : goal.returns-clause-seen
returns-clause-seen c names =
    with_tops names c.args.kinds.now c.spreading.locals c.put_tops.new.locals c.args.max_locals c.spreading.kind-index c.spreading-test.false c.in_ok-put_tops.ensures
    (c.spreading.invariant.seen names)

pub returns-clause-numbered : goal.returns-clause-numbered
returns-clause-numbered c count all =
    rw c.in_ok-put_tops.ensures (All-append (IsNumbered count) c.spreading.locals (replicate (c.args.max_locals - length c.spreading.locals) kinds.Top)
    (c.spreading.invariant.numbered count all) (tops_numbered count (c.args.max_locals - length c.spreading.locals)))
