use Rattle.std.proofs.Common.{List, map, refl, sym, ap, ◌∙◌}
use Rattle.jc_methods.specs.declared.kind.Kind.{Kind}
use Rattle.std.specs.List.{list_any}
use Rattle.jc_kinds_after.specs.Objects.{left_by, is_made_by}
use Rattle.jc_kinds_after.proofs.ObjectsLaws.{make_no, make_yes, make_none, some_put}
use Rattle.jc_kinds_after.proofs.objects.make.Goals as goal

pub returns-then-has_made : goal.returns-then-has_made
returns-then-has_made c =
    λ names. make_no names c.args.state c.deref.result.now c.args.place c.args.most c.deref.ensures (sym c.has_made.ensures ∙ c.if-has_made.true)

pub returns-in-Some : goal.returns-in-Some
returns-in-Some c = λ names.
    some_put names c.in_ok-stack.field-0 c.from_vec.result c.in-Some.stack c.args.state.stack c.in-Some.is
    ∙ make_yes names c.args.state c.args.state.stack c.from_vec.result c.args.place c.args.most c.in_ok-stack.field-0 refl
    (ap (λ (l : List Kind). list_any (is_made_by c.args.place) l) (sym c.deref.ensures) ∙ sym c.has_made.ensures ∙ c.if-has_made.false)
    (c.in_ok-stack.ensures names)
    (c.from_vec.ensures ∙ c.in_ok-all_left_by-in-Some.ensures ∙ ap (map (left_by c.args.place)) c.deref-in-Some.ensures)

pub returns : goal.returns
returns c = λ names.
    make_none names c.args.state c.args.state.stack c.args.place c.args.most c.in_ok-stack.field-0 c.in-None.is refl
    (ap (λ (l : List Kind). list_any (is_made_by c.args.place) l) (sym c.deref.ensures) ∙ sym c.has_made.ensures ∙ c.if-has_made.false)
    (c.in_ok-stack.ensures names)
