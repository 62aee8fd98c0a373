use Rattle.std.proofs.Common.{◌≡◌, ℕ, List, [], Option, Some, None, IfSome, Result, Ok, IfOk, subst, arith}
use Rattle.jc_base.specs.WellMade.{AreFramesFrom}
use Rattle.jc_base.specs.declared.Insn.{Insn}
use Rattle.tests_bodies.proofs.tables.frames_of.Goals as goal

-- what is so of a value that was answered is so of it where it is handed on
handed_on : {A E : Type 0} (handed : Option A) (answered : Result A E) (Is : A → Type 0) → IfSome handed (λ v. answered ≡ Ok v)
    → IfOk answered Is → IfSome handed Is
handed_on None answered Is same held = tt
handed_on (Some v) answered Is same held = subst (λ r. IfOk r Is) same held

pub read_frames-requires-clause-locals : goal.read_frames-requires-clause-locals
read_frames-requires-clause-locals c = let locals = (c.in_ok-state.ensures.made [] 0).locals in omega (arith, locals, c.ranges.ground)

pub returns-clause-made : goal.returns-clause-made
returns-clause-made c =
    let state = c.in_ok-state.ensures.made c.deref.result.now 0 in
    let With : List Insn → ℕ → Type 0 = λ code locals. IfOk c.read_frames.result (λ frames. AreFramesFrom 0 code locals c.args.ground.method.max_stack frames.items) in
    handed_on c.accepted.result c.read_frames.result _ c.accepted.ensures
    (subst (λ (code : List Insn). With code c.args.ground.method.max_locals) c.deref.ensures
    (subst (With c.deref.result.now) state.locals (c.read_frames.ensures.well_made state.local_kinds)))
