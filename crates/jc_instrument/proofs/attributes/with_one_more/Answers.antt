use Rattle.std.proofs.Common.{◌≡◌, List, [], ◌∷◌, ◌++◌, get_or, set, ◌∙◌, ap, subst}
use Rattle.std.specs.Prelude.{IsTrue}
use Rattle.jc_methods.specs.ProbeMembers.{bootstraps_name}
use Rattle.jc_class.specs.declared.class_file.Attribute.{Attribute}
use Rattle.jc_body.specs.First.{IsFirstItem, NoItem}
use Rattle.jc_bootstraps.specs.Bootstraps.{has_name}
use Rattle.jc_instrument_code.specs.CodeText.{attribute}
use Rattle.jc_instrument.proofs.AttributesLaws.{first_longer, none_longer}
use Rattle.jc_instrument.proofs.attributes.with_one_more.Goals.{in-Some+in_ok-all-in-Some, in-None+in_ok-push_bootstrap-in-None+in_ok-push-in-None}
use Rattle.jc_instrument.proofs.attributes.with_one_more.Goals as goal

pub returns : goal.returns
returns c =
    let pool = c.args.pool.now in
    let p = c.args.places.now in
    let l = c.args.attributes in
    let seen : c.deref.result.now ≡ l = c.deref.ensures.value ∙ c.into_vec-all.ensures in
    elim c.match-bootstraps_number.branch [
      | in-Some+in_ok-all-in-Some w ↦
          let n = w.in-Some.number in
          let new = w.in_ok-all-in-Some.field-0 in
          first_longer pool p.handle c.args.bootstrap p.bootstraps l n w.index.result.now new c.from_vec.result c.requires.number
          (subst (λ (k : List Attribute). IsFirstItem (λ n a. IsTrue (has_name pool bootstraps_name a)) k n) seen w.in-Some.ensures)
          (w.index.ensures ∙ ap (λ (k : List Attribute). get_or k n w.index.result.now) c.into_vec-all.ensures) w.in_ok-all-in-Some.ensures
          (c.from_vec.ensures ∙ (λ i. (w.all-is i).items) ∙ ap (λ (k : List Attribute). set k n new) c.into_vec-all.ensures)
      | in-None+in_ok-push_bootstrap-in-None+in_ok-push-in-None w ↦
          let new = attribute p.bootstraps w.in_ok-push_bootstrap-in-None.field-0 in
          none_longer pool p.handle c.args.bootstrap p.bootstraps l new c.from_vec.result
          (subst (NoItem (λ n a. IsTrue (has_name pool bootstraps_name a))) seen w.in-None.ensures)
          (ap (attribute p.bootstraps) w.in_ok-push_bootstrap-in-None.ensures.body)
          (c.from_vec.ensures ∙ (λ i. (w.all-is i).items) ∙ w.in_ok-push-in-None.ensures.items ∙ ap (λ (k : List Attribute). k ++ new ∷ []) c.into_vec-all.ensures)
    ]
