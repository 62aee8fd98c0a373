use Rattle.std.proofs.Common.{map, ap, ◌∙◌}
use Rattle.jc_kinds_after.specs.Objects.{built_in}
use Rattle.jc_kinds_after.specs.Shapes.{gives_of}
use Rattle.jc_kinds_after.proofs.ObjectsLaws.{build_there, build_none, some_put}
use Rattle.jc_kinds_after.proofs.objects.build_as.Goals as goal

pub returns-in_ok-all_built_in-in-Some : goal.returns-in_ok-all_built_in-in-Some
returns-in_ok-all_built_in-in-Some c = λ names name named.
    some_put names c.in_ok-stack.field-0 c.from_vec-in-Some.result c.in-Some.stack c.args.state.now.stack c.in-Some.is
    ∙ build_there names c.args.state.now c.args.built.old c.args.built.class c.args.rest.now c.from_vec.result c.from_vec-in-Some.result
    (map (gives_of names) c.args.gives.now) c.args.most c.in_ok-stack.field-0 name named
    (c.from_vec.ensures ∙ c.in_ok-rest.ensures) (c.in_ok-stack.ensures names)
    (c.from_vec-in-Some.ensures ∙ c.in_ok-all_built_in-in-Some.ensures ∙ ap (map (built_in c.args.built.old c.args.built.class)) c.deref.ensures)

pub returns-in-None : goal.returns-in-None
returns-in-None c = λ names name named.
    build_none names c.args.state.now c.args.built.old c.args.built.class c.args.rest.now c.from_vec.result
    (map (gives_of names) c.args.gives.now) c.args.most c.in_ok-stack.field-0 name named c.in-None.is
    (c.from_vec.ensures ∙ c.in_ok-rest.ensures) (c.in_ok-stack.ensures names)
