use Rattle.std.proofs.Common.{◌≡◌, ℕ, None, length, map, take, nat_eq, sym, ◌∙◌, ap, subst, arith}
use Rattle.std.specs.Map.{lookup}
use Rattle.indexmap.specs.IndexMap.{insert_entry}
use Rattle.jc_exec.specs.declared.hits.ClassHits.{ClassHits}
use Rattle.jc_exec.specs.Adding.{Entries}
use Rattle.jc_exec.specs.Store.{entries_of}
use Rattle.jc_exec.proofs.EntriesLaws.{absent, push_entry}
use Rattle.jc_exec.proofs.records.Records.push.Goals as goal

pub push-requires : goal.push-requires
push-requires c =
    let cs = c.self.inside.classes.items in
    let count : c.len.result ≡ length cs = omega (arith, c.len.ensures) in
    let own : c.truncate.new.self ≡ map (λ (d : ClassHits). d.id) cs = c.truncate.ensures ∙ ap (λ (n : ℕ). take n c.self.inside.ids) count ∙ c.self.invariant in
    absent c.truncate.new.self cs c.args.hits.id own (subst (λ (es : Entries). lookup (nat_eq c.args.hits.id) es ≡ None) (sym c.self.view_is) c.requires)

pub returns-clause-ok : goal.returns-clause-ok
returns-clause-ok c =
    let cs = c.self.inside.classes.items in
    let none : lookup (nat_eq c.args.hits.id) (entries_of cs) ≡ None = subst (λ (es : Entries). lookup (nat_eq c.args.hits.id) es ≡ None) (sym c.self.view_is) c.requires in
    ap entries_of c.in_ok-push-2.ensures.items ∙ push_entry cs c.args.hits none ∙ ap (λ (es : Entries). insert_entry nat_eq es c.args.hits.id c.args.hits) c.self.view_is
