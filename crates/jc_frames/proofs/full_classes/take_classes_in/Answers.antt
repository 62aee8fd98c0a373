use Rattle.std.proofs.Common.{◌≡◌, List, ◌++◌, length, map, sym, ◌∙◌, ap, subst, All}
use Rattle.std.proofs.lemmas.List.Elements.{All-from_recursion}
use Rattle.std.proofs.lemmas.Result.{err_from_is_err_and}
use Rattle.jc_bytes.specs.declared.fail.Fail.{Fail}
use Rattle.jc_methods.specs.declared.kind.Kind.{Kind}
use Rattle.jc_methods.specs.VerificationTypes.{VerificationType, class_names, verification_type, IsNumbered}
use Rattle.jc_pool.specs.declared.add.PoolFull.{PoolFull}
use Rattle.jc_pool.proofs.AddingLaws.{extends_more}
use Rattle.jc_frames.specs.Frames.{values_in}
use Rattle.jc_frames.specs.FullTable.{RefusesClasses, TakesClasses}
use Rattle.jc_frames.proofs.ResultLaws.{err_then, ok_then}
use Rattle.jc_frames.proofs.TakenLaws.{refused_later, refused_sooner, takes_both}
use Rattle.jc_frames.proofs.full_classes.take_classes_in.Goals as goal

pub take_classes_of-requires-clause-numbers : goal.take_classes_of-requires-clause-numbers
take_classes_of-requires-clause-numbers c =
    let Each : List Kind → Type 0 = λ l. All (IsNumbered (length c.args.names.now)) l in
    let state = c.args.frame.now.state in
    subst Each (sym c.deref-2.ensures.value) (c.in_ok-locals.ensures.numbered (length c.args.names.now)
    (subst Each (sym c.deref.ensures) (All-from_recursion (IsNumbered (length c.args.names.now)) state.locals c.requires.numbers.locals)))

pub take_classes_of-requires-2-clause-numbers : goal.take_classes_of-requires-2-clause-numbers
take_classes_of-requires-2-clause-numbers c =
    let Each : List Kind → Type 0 = λ l. All (IsNumbered (length c.args.names.now)) l in
    subst Each (sym c.deref-3.ensures) (All-from_recursion (IsNumbered (length c.args.names.now)) c.args.frame.now.state.stack c.requires.numbers.stack)

pub returns-clause-classes : goal.returns-clause-classes
returns-clause-classes c =
    let names = c.args.names.now in
    let old = c.args.pool.now in
    let mid = c.take_classes_of.new.pool in
    let new = c.take_classes_of-2.new.pool in
    let front = class_names (values_in (map (verification_type names) c.args.frame.now.state.locals)) in
    let back = class_names (map (verification_type names) c.args.frame.now.state.stack) in
    let values : map (verification_type names) c.deref-2.result.now ≡ values_in (map (verification_type names) c.args.frame.now.state.locals) =
    ap (map (verification_type names)) c.deref-2.ensures.value ∙ c.in_ok-locals.ensures.values names ∙ ap (λ (l : List Kind). values_in (map (verification_type names) l)) c.deref.ensures in
    let first = subst (λ (l : List VerificationType). TakesClasses old (class_names l) mid) values c.in_ok-take_classes_of.ensures.classes in
    let Back : List Kind → Type 0 = λ l. TakesClasses mid (class_names (map (verification_type names) l)) new in
    ok_then (Back c.deref-3.result.now) (TakesClasses old (front ++ back) new) c.take_classes_of-2.result
    (λ q. takes_both old mid new front back first (subst Back c.deref-3.ensures q)) c.take_classes_of-2.ensures.classes

pub returns-clause-refused : goal.returns-clause-refused
returns-clause-refused c =
    let names = c.args.names.now in
    let old = c.args.pool.now in
    let mid = c.take_classes_of.new.pool in
    let new = c.take_classes_of-2.new.pool in
    let front = class_names (values_in (map (verification_type names) c.args.frame.now.state.locals)) in
    let back = class_names (map (verification_type names) c.args.frame.now.state.stack) in
    let values : map (verification_type names) c.deref-2.result.now ≡ values_in (map (verification_type names) c.args.frame.now.state.locals) =
    ap (map (verification_type names)) c.deref-2.ensures.value ∙ c.in_ok-locals.ensures.values names ∙ ap (λ (l : List Kind). values_in (map (verification_type names) l)) c.deref.ensures in
    let first = subst (λ (l : List VerificationType). TakesClasses old (class_names l) mid) values c.in_ok-take_classes_of.ensures.classes in
    let Back : Fail PoolFull → List Kind → Type 0 = λ e l. RefusesClasses mid (class_names (map (verification_type names) l)) new e in
    err_then (λ e. Back e c.deref-3.result.now) (RefusesClasses old (front ++ back) new) c.take_classes_of-2.result
    (λ e q. refused_later old mid new front back e first (subst (Back e) c.deref-3.ensures q)) c.take_classes_of-2.ensures.refused

pub returns-clause-extends : goal.returns-clause-extends
returns-clause-extends c = extends_more c.args.pool.now c.take_classes_of.new.pool c.take_classes_of-2.new.pool c.in_ok-take_classes_of.ensures.extends c.take_classes_of-2.ensures.extends

pub returns-in_err-take_classes_of-clause-refused : goal.returns-in_err-take_classes_of-clause-refused
returns-in_err-take_classes_of-clause-refused c =
    let names = c.args.names.now in
    let old = c.args.pool.now in
    let mid = c.take_classes_of.new.pool in
    let front = class_names (values_in (map (verification_type names) c.args.frame.now.state.locals)) in
    let back = class_names (map (verification_type names) c.args.frame.now.state.stack) in
    let values : map (verification_type names) c.deref-2.result.now ≡ values_in (map (verification_type names) c.args.frame.now.state.locals) =
    ap (map (verification_type names)) c.deref-2.ensures.value ∙ c.in_ok-locals.ensures.values names ∙ ap (λ (l : List Kind). values_in (map (verification_type names) l)) c.deref.ensures in
    let e = c.in_err-take_classes_of.field-0.0 in
    let p = err_from_is_err_and c.from_residual-in_err-take_classes_of.result c.from_residual-in_err-take_classes_of.ensures.1 in
    rw (p.1, p.2) (refused_sooner old mid front back e (subst (λ (l : List VerificationType). RefusesClasses old (class_names l) mid e) values c.in_err-take_classes_of.ensures.refused))
