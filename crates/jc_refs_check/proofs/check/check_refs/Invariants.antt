use Rattle.jc_refs_check.specs.MethodAnswers.{AreClassesOk}
use Rattle.jc_refs_check.specs.Checking.{IsMet, IsChecking}
use Rattle.jc_refs_check.proofs.check.check_refs.Given as goal

-- the classes so far pass
abbrev pub invariant-checking : goal.invariant-checking
invariant-checking l = record {
  ok : AreClassesOk l.program l.class;
  met : IsMet l.met;
  checking : IsChecking l.met.classes.names l.checking;
}
