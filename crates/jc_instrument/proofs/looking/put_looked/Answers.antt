use Rattle.std.proofs.Common.{List, Option, ◌∙◌, ◌++◌, ◌∷◌, [], ap, subst}
use Rattle.std.specs.Prelude.{IfSome}
use Rattle.jc_methods.specs.declared.kind.State.{State}
use Rattle.jc_kinds.specs.Answers.{AreStates}
use Rattle.jc_instrument.specs.declared.looked.LookedBody.{LookedBody}
use Rattle.jc_instrument.proofs.LookedBodiesLaws.{puts_kept, puts_unread}
use Rattle.jc_instrument.proofs.looking.put_looked.Goals.{in-Some, in-None}
use Rattle.jc_instrument.proofs.looking.put_looked.Goals as goal

pub returns-clause-put : goal.returns-clause-put
returns-clause-put c = λ names numbered has.
    let b = c.args.body in
    let old = c.args.bodies.now in
    let new = c.push.new.self in
    elim c.match-states.branch [
      | in-Some w ↦
          (puts_kept names b c.args.plan c.args.first c.requires.plan c.requires.made c.requires.next c.requires.taken c.requires.rows old new w.in-Some.states
          numbered (subst (λ (o : Option (List State)). IfSome o (AreStates names b)) w.in-Some.is has)
          (c.in_ok-push.ensures.ok ∙ ap (λ (p : LookedBody). old ++ p ∷ []) w.looked-is))
      | in-None w ↦
          (puts_unread names b c.args.plan c.args.first c.requires.plan c.requires.made c.requires.next c.requires.taken c.requires.rows old new
          (c.in_ok-push.ensures.ok ∙ ap (λ (p : LookedBody). old ++ p ∷ []) w.looked-is))
    ]
