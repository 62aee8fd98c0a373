use Rattle.std.proofs.Common.{◌≡◌, None, nat_eq, sym, ◌∙◌, subst, arith}
use Rattle.std.specs.Map.{lookup}
use Rattle.indexmap.specs.IndexMap.{insert_entry}
use Rattle.jc_exec.specs.declared.hits.ClassHits.{ClassHits}
use Rattle.jc_exec.specs.Adding.{Entries}
use Rattle.jc_exec.specs.Store.{IsSmall}
use Rattle.jc_exec.proofs.RecordLaws.{puts_new, puts_known, known_refused, known_unchanged}
use Rattle.jc_exec.proofs.merge.put.Goals as goal

pub merge-requires-clause-hits : goal.merge-requires-clause-hits
merge-requires-clause-hits c = record { id = omega arith; name = omega (arith, c.requires.short); bits = omega (arith, c.requires.few) }

pub returns-in-Some-clause-puts : goal.returns-in-Some-clause-puts
returns-in-Some-clause-puts c =
    let s = c.in-Some.ensures.some in
    puts_known c.in-Some.merged c.args.records.now c.merge.new.self s.0 s.1 c.args.hits.now c.requires.keyed s.2 s.3 s.4

pub returns-in-Some-clause-refused : goal.returns-in-Some-clause-refused
returns-in-Some-clause-refused c =
    let s = c.in-Some.ensures.some in
    known_refused c.in-Some.merged c.args.records.now s.0 s.1 c.args.hits.now c.requires.keyed s.2 s.3

pub returns-in-Some-clause-unchanged : goal.returns-in-Some-clause-unchanged
returns-in-Some-clause-unchanged c =
    let s = c.in-Some.ensures.some in
    known_unchanged c.in-Some.merged c.args.records.now c.merge.new.self s.0 s.1 c.args.hits.now s.2 s.3 s.4

pub push-requires : goal.push-requires
push-requires c =
    subst (λ (h : ClassHits). lookup (nat_eq h.id) c.merge.new.self ≡ None) (sym c.in_ok-copy.ensures)
    (subst (λ (es : Entries). lookup (nat_eq c.args.hits.now.id) es ≡ None) (sym c.in_default.ensures.none.1) c.in_default.ensures.none.0)

pub returns-clause-puts : goal.returns-clause-puts
returns-clause-puts c =
    let small : IsSmall c.args.hits.now = record { id = omega arith; name = omega (arith, c.requires.short); bits = omega (arith, c.requires.few) } in
    puts_new c.args.records.now c.push.new.self c.args.hits.now c.requires.keyed small c.requires.text c.in_default.ensures.none.0
    (c.in_ok-push.ensures.ok ∙ (λ i. insert_entry nat_eq (c.in_default.ensures.none.1 i) (c.in_ok-copy.ensures i).id (c.in_ok-copy.ensures i)))
