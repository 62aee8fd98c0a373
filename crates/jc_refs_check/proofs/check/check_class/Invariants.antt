use Rattle.jc_methods.specs.VerificationTypes.{Grows}
use Rattle.jc_refs_check.specs.MethodAnswers.{AreMethodsOk}
use Rattle.jc_refs_check.specs.Checking.{IsMet}
use Rattle.jc_refs_check.proofs.check.check_class.Given as goal

-- the methods so far pass
abbrev pub invariant-checking : goal.invariant-checking
invariant-checking l = record {
  ok : AreMethodsOk l.checking.program.now l.class l.linked l.number;
  met : IsMet l.met;
  grown : Grows l.fn.met.classes.names l.met.classes.names;
}
