use Rattle.std.proofs.Common.{rules, ◌≡◌, List, get_or, sym, ◌∙◌, subst}
use Rattle.jc_methods.specs.declared.body.FrameAt.{FrameAt}
use Rattle.jc_refs_check.proofs.GuardLaws.{wanted_past, wanted_none, wanted_object, wanted_class}
use Rattle.jc_refs_check.proofs.guards.Guards.wanted.Goals as goal

pub returns-in_err-frame : goal.returns-in_err-frame
returns-in_err-frame c =
    let g = c.args.self.now in
    rw c.from_residual.ensures (wanted_past g.classes.now.names g.body.now.frames c.args.guard.frame c.args.slot (search rules))

pub returns-in_err-class : goal.returns-in_err-class
returns-in_err-class c =
    let g = c.args.self.now in let f = c.in_ok-frame.frame.now in
    rw c.from_residual-in_err-class.ensures (wanted_none g.classes.now.names g.body.now.frames c.args.guard.frame c.args.slot f (search rules)
    (subst (λ (l : List FrameAt). f ≡ get_or l c.args.guard.frame f) c.deref.ensures c.in_ok-frame.ensures.lookup.1) (search rules))

pub returns-then-is_object : goal.returns-then-is_object
returns-then-is_object c =
    let g = c.args.self.now in let f = c.in_ok-frame.frame.now in
    wanted_object g.classes.now.names g.body.now.frames c.args.guard.frame c.args.slot f (search rules)
    (subst (λ (l : List FrameAt). f ≡ get_or l c.args.guard.frame f) c.deref.ensures c.in_ok-frame.ensures.lookup.1)
    c.in_ok-class.class (search rules) (sym c.is_object.ensures ∙ c.if-is_object.true)

pub returns-else-is_object : goal.returns-else-is_object
returns-else-is_object c =
    let g = c.args.self.now in let f = c.in_ok-frame.frame.now in
    wanted_class g.classes.now.names g.body.now.frames c.args.guard.frame c.args.slot f (search rules)
    (subst (λ (l : List FrameAt). f ≡ get_or l c.args.guard.frame f) c.deref.ensures c.in_ok-frame.ensures.lookup.1)
    c.in_ok-class.class (search rules) (sym c.is_object.ensures ∙ c.if-is_object.false)
