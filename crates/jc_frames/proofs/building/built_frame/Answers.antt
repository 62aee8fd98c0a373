use Rattle.std.proofs.Common.{ℕ, List, length, map, All, sym, ◌∙◌, ap, ap₂, subst}
use Rattle.std.specs.List.{AllByRecursion}
use Rattle.std.proofs.lemmas.List.Elements.{recursion_from_All}
use Rattle.jc_methods.specs.declared.kind.Kind.{Kind}
use Rattle.jc_methods.specs.EntryState.{in_locals}
use Rattle.jc_methods.specs.VerificationTypes.{VerificationType, TypeStateAt, class_names, verification_type, IsNumbered}
use Rattle.jc_bytes.specs.Names.{met}
use Rattle.jc_pool.specs.Pool.{PoolValue}
use Rattle.jc_frames.specs.declared.method.Value.{Value}
use Rattle.jc_frames.specs.Running.{held_values, IsNumberedValue}
use Rattle.jc_methods.proofs.MetNamesLaws.{grows_both}
use Rattle.jc_frames.proofs.BuildingLaws.{kinds_numbered, values_numbered, all_unnumbered}
use Rattle.jc_frames.proofs.MetLaws.{frame_met}
use Rattle.jc_frames.proofs.building.built_frame.Goals as goal

pub returns-clause-seen : goal.returns-clause-seen
returns-clause-seen c later grows =
    let values = c.in_ok-values.ensures.kinds later (grows_both c.kinds_of.new.names c.kinds_of-2.new.names later c.in_ok-stack.ensures.grows grows)
    ∙ ap₂ (λ (p : PoolValue) (l : List Value). held_values p later l) c.pool.ensures c.deref.ensures.value in
    let locals = c.in_ok-locals.ensures.seen later ∙ ap (λ (l : List Kind). in_locals c.max_locals.result (map (verification_type later) l)) c.deref-2.ensures.value
    ∙ ap₂ (λ (n : ℕ) (l : List VerificationType). in_locals n l) c.max_locals.ensures values in
    let stack = ap (map (verification_type later)) c.from_vec.ensures ∙ c.in_ok-stack.ensures.kinds later grows
    ∙ ap₂ (λ (p : PoolValue) (l : List Value). held_values p later l) c.pool-2.ensures c.deref-3.ensures.value in
    ap₂ (λ (a b : List VerificationType). let f : TypeStateAt = record { at = c.args.frame.now.at; state = record { locals = a; stack = b } } in f) locals stack

pub returns-clause-numbered : goal.returns-clause-numbered
returns-clause-numbered c values stack =
    let old = c.args.names.now in
    let mid = c.kinds_of.new.names in
    let new = c.kinds_of-2.new.names in
    let Old : List Value → Type 0 = λ l. All (IsNumberedValue (length old)) l in
    let Mid : List Value → Type 0 = λ l. All (IsNumberedValue (length mid)) l in
    let New : List Kind → Type 0 = λ l. All (IsNumbered (length new)) l in
    let Each : List Kind → Type 0 = λ l. AllByRecursion (IsNumbered (length new)) l in
    let kinds = kinds_numbered mid new c.in_ok-values.values.items c.in_ok-stack.ensures.grows (c.in_ok-values.ensures.numbered (subst Old (sym c.deref.ensures.value) values)) in
    record {
      locals = recursion_from_All (IsNumbered (length new)) c.in_ok-locals.locals (c.in_ok-locals.ensures.numbered (length new) (subst New (sym c.deref-2.ensures.value) kinds));
      stack = subst Each (sym c.from_vec.ensures) (recursion_from_All (IsNumbered (length new)) c.in_ok-stack.stack.items
          (c.in_ok-stack.ensures.numbered (subst Mid (sym c.deref-3.ensures.value) (all_unnumbered (length mid) c.args.frame.now.stack.items stack))));
    }

pub returns-clause-met : goal.returns-clause-met
returns-clause-met c values stack =
    let old = c.args.names.now in
    let mid = c.kinds_of.new.names in
    let new = c.kinds_of-2.new.names in
    let Old : List Value → Type 0 = λ l. All (IsNumberedValue (length old)) l in
    let Mid : List Value → Type 0 = λ l. All (IsNumberedValue (length mid)) l in
    let first = c.in_ok-values.ensures.met (subst Old (sym c.deref.ensures.value) values)
    ∙ ap₂ (λ (p : PoolValue) (l : List Value). met old (class_names (held_values p mid l))) c.pool.ensures c.deref.ensures.value in
    let second = c.in_ok-stack.ensures.met (subst Mid (sym c.deref-3.ensures.value) (all_unnumbered (length mid) c.args.frame.now.stack.items stack))
    ∙ ap₂ (λ (p : PoolValue) (l : List Value). met mid (class_names (held_values p new l))) c.pool-2.ensures c.deref-3.ensures.value in
    frame_met c.args.method.now old mid new c.args.running.now c.args.frame.now c.in_ok-stack.ensures.grows
    (values_numbered old mid c.args.running.now.values.items c.in_ok-values.ensures.grows values) first second
