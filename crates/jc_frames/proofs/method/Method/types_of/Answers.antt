use Rattle.std.proofs.Common.{◌+◌, List, [], ◌∷◌, length, drop, sym, ◌∙◌, ap, arith, length-append}
use Rattle.std.proofs.lemmas.List.{drop_all, map-append}
use Rattle.std.proofs.lemmas.List.Elements.{All-append, All-cons, All-nil}
use Rattle.jc_frames.specs.declared.method.Value.{Value}
use Rattle.jc_methods.specs.VerificationTypes.{VerificationType}
use Rattle.jc_bytes.proofs.AppendingLaws.{drop_at}
use Rattle.jc_frames.specs.Frames.{types_of}
use Rattle.jc_frames.specs.Running.{held_value, held_values, IsUnnumbered}
use Rattle.jc_frames.proofs.MethodLaws.{behind, one_typed, none_typed, all_typed}
use Rattle.jc_frames.proofs.RunningLaws.{said_none, said_some}
use Rattle.jc_frames.proofs.method.Method.types_of.Goals as goal

pub returns-in-None-clause-says : goal.returns-in-None-clause-says
returns-in-None-clause-says c names =
    let items = c.args.items.now in
    let i = c.typing.item-index in
    let g = c.args.self.now in
    c.typing.invariant.says names
    ∙ none_typed g (held_values g.pool names c.typing.values.items) (drop i items) (drop (i + 1) items) _ (drop_at items i _ c.typing-test.true)
    (said_none (held_value g.pool names) _ c.type_of.result (c.type_of.ensures.says names) c.in-None.is)

pub typing-preserved : goal.typing-preserved
typing-preserved c =
    let items = c.args.items.now in
    let i = c.typing.item-index in
    let g = c.args.self.now in
    let pushed = c.in_ok-push-in-Some.ensures.items in
    record {
      says = λ names.
          c.typing.invariant.says names
          ∙ one_typed g (held_values g.pool names c.typing.values.items) (drop i items) (drop (i + 1) items) _ (held_value g.pool names c.in-Some.value)
          (drop_at items i _ c.typing-test.true) (said_some (held_value g.pool names) _ c.type_of.result c.in-Some.value (c.type_of.ensures.says names) c.in-Some.is)
          ∙ ap (λ (hs : List VerificationType). behind hs (types_of g (drop (i + 1) items)))
          (sym (ap (held_values g.pool names) pushed ∙ map-append (held_value g.pool names) c.typing.values.items (c.in-Some.value ∷ [])));
      unnumbered = rw pushed (All-append IsUnnumbered c.typing.values.items (c.in-Some.value ∷ []) c.typing.invariant.unnumbered
          (All-cons IsUnnumbered c.in-Some.value [] c.in-Some.ensures.unnumbered (All-nil IsUnnumbered)));
      as_many = let e = ap (λ (l : List Value). length l) pushed in omega (arith, e, length-append c.typing.values.items (c.in-Some.value ∷ []), c.typing.invariant.as_many);
    }

pub returns-clause-says : goal.returns-clause-says
returns-clause-says c names =
    let items = c.args.items.now in
    let i = c.typing.item-index in
    let g = c.args.self.now in
    c.typing.invariant.says names ∙ all_typed g (held_values g.pool names c.typing.values.items) (drop i items) (drop_all i items c.typing-test.false)
