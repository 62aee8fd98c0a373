use Rattle.std.proofs.Common.{◌∙◌, ap, arith, inl, length, List, [], subst}
use Rattle.std.specs.Prelude.{Option, None, Bool}
use Rattle.std.proofs.lemmas.List.{length-replicate, nil_from_length}
use Rattle.jc_workers.proofs.CaseLaws.{then_ok}
use Rattle.jc_dump.specs.HasRun.{Dumps}
use Rattle.jc_dump.proofs.OrderLaws.{ArePlaced, is_place, one_placed, all_placed}
use Rattle.jc_dump.proofs.in_order.in_order.Goals as goal
use Rattle.jc_dump.proofs.in_order.in_order.Goals.{After-drop-taken-2}

pub placing-init : goal.placing-init
placing-init c =
    let empty : Option (List (List Bool)) = None in
    record {
      len = ap length c.in_ok-places.ensures ∙ length-replicate c.args.count empty;
      once = λ d. omega (arith, c.requires.once d);
      each = λ d dump h. inl h;
    }

pub index_mut-requires : goal.index_mut-requires
index_mut-requires c =
    let low = is_place c.args.count c.args.taken.items c.placing.taken.items c.pop.new.self.items c.in-Some.number c.in-Some.dump c.in-Some.ensures.items
    c.placing.places.items c.placing.invariant in
    omega (arith, low, c.placing.invariant.len, c.placing.places.ok.0)

pub placing-preserved : goal.placing-preserved
placing-preserved c = one_placed c.args.count c.args.taken.items c.placing.taken.items c.pop.new.self.items c.in-Some.number c.in-Some.dump
    c.in-Some.ensures.items c.placing.places.items c.placing.invariant

pub placing-preserved-in-Some : goal.placing-preserved-in-Some
placing-preserved-in-Some c = one_placed c.args.count c.args.taken.items c.placing.taken.items c.pop.new.self.items c.in-Some.number c.in-Some.dump
    c.in-Some.ensures.items c.placing.places.items c.placing.invariant

-- none is left
placed : (c : After-drop-taken-2) → ArePlaced c.args.count c.args.taken.items [] c.placing.places.items
placed c = subst (λ (l : Dumps). ArePlaced c.args.count c.args.taken.items l c.placing.places.items)
    (nil_from_length c.placing.taken.items (omega (arith, c.in_default.ensures.cases.0, c.placing.taken.ok.0))) c.placing.invariant

pub returns-clause-len : goal.returns-clause-len
returns-clause-len c = then_ok c.all_ends.result _ _ c.all_ends.ensures
    (λ v h. (all_placed c.args.count c.args.taken.items c.placing.places.items c.requires.once (placed c) v.items h).0)

pub returns-clause-each : goal.returns-clause-each
returns-clause-each c = then_ok c.all_ends.result _ _ c.all_ends.ensures
    (λ v h. (all_placed c.args.count c.args.taken.items c.placing.places.items c.requires.once (placed c) v.items h).1)
