use Rattle.std.proofs.Common.{List, map, ◌∙◌, ap}
use Rattle.jc_methods.specs.declared.kind.Kind.{Kind}
use Rattle.jc_methods.specs.VerificationTypes.{VerificationType, verification_type}
use Rattle.jc_frames.specs.Frames.{Before, values_in}
use Rattle.jc_frames.proofs.running.Running.first.Goals as goal

pub returns-clause-values : goal.returns-clause-values
returns-clause-values c pool names =
    let make : List VerificationType → Before = λ (values : List VerificationType). record { base = 0; values = values } in
    ap make (c.in_ok-values.ensures.values pool names ∙ ap (λ (l : List Kind). values_in (map (verification_type names) l)) c.deref.ensures)

pub returns-clause-numbered : goal.returns-clause-numbered
returns-clause-numbered c count all = c.in_ok-values.ensures.numbered count (rw c.deref.ensures all)
