use Rattle.std.proofs.Common.{◌≡◌, ◌<◌, List, length, get_or, sym, ◌∙◌, ap, subst, arith}
use Rattle.jc_programs.specs.declared.program.Linked.{Linked}
use Rattle.jc_exec.specs.declared.hits.ClassHits.{ClassHits}
use Rattle.jc_exec.specs.Refusing.{OneOfEachId}
use Rattle.jc_exec.specs.Store.{IsNew}
use Rattle.jc_command_run.specs.HitStore.{set_record}
use Rattle.jc_command_run.proofs.HitStoreLaws.{count_at, is_new, none_put, record_put, one_more_hit}
use Rattle.jc_command_run.proofs.records.hit_store.Goals.{in-None, in-Some+in_ok-put_record-in-Some}
use Rattle.jc_command_run.proofs.records.hit_store.Goals as goal

pub put_record-requires-clause-count : goal.put_record-requires-clause-count
put_record-requires-clause-count c =
    let class = c.index-deref-number.result in
    let cs = c.args.program.now.classes in
    let is = c.index-deref-number.is ∙ ap (λ (l : List Linked). get_or l c.storing.number class) c.deref.ensures in
    count_at c.args.hits.now cs c.storing.number class c.in-Some.init c.requires.counts (omega (arith, c.len-number-end.ensures, c.storing-test.true)) is c.in-Some.is

pub storing-preserved : goal.storing-preserved
storing-preserved c =
    let class = c.index-deref-number.result in
    let cs = c.args.program.now.classes in
    let hits = c.args.hits.now in
    let i = c.storing.number in
    let within : i < length cs = omega (arith, c.len-number-end.ensures, c.storing-test.true) in
    let is : class ≡ get_or cs i class = c.index-deref-number.is ∙ ap (λ (l : List Linked). get_or l i class) c.deref.ensures in
    elim c.match-class.branch [
      | in-None w ↦ rw w.store-is (record {
        sessions = c.storing.invariant.sessions;
        classes = none_put hits cs i class within is c.requires.fits.ids c.storing.store.classes w.in-None.is c.storing.invariant.classes;
        one = c.storing.invariant.one;
      })
      | in-Some+in_ok-put_record-in-Some w ↦
          let init = w.in-Some.init in
          let fresh : IsNew init.id c.storing.store.classes = subst (λ (l : List ClassHits). IsNew init.id l) (sym c.storing.invariant.classes)
          (is_new hits cs i class within is c.requires.fits.ids init w.in-Some.is) in
          let adds = w.in_ok-put_record-in-Some.ensures c.storing.invariant.one fresh in
          rw w.store-is (record {
            sessions = adds.sessions ∙ c.storing.invariant.sessions;
            classes = record_put hits cs i class within is c.requires.fits.ids c.storing.store.classes w.put_record.new.store.classes init w.in-Some.is c.storing.invariant.classes adds.classes;
            one = subst OneOfEachId (sym adds.classes) (one_more_hit c.storing.store.classes (set_record hits i class init) c.storing.invariant.one fresh);
          })
    ]
