use Rattle.jc_body.proofs.AnswerLaws.{bodiless_or_body, bodiless_or_fault, body_or_fault, one_body, one_fault}
use Rattle.jc_body.proofs.EachMethodLaws.{each_answer}
use Rattle.jc_body.proofs.laws.each_method_has_one_answer.Goals as goal

pub returns : goal.returns
returns c = record {
  each = each_answer;
  bodiless_or_body = bodiless_or_body;
  bodiless_or_fault = bodiless_or_fault;
  body_or_fault = body_or_fault;
  one_body = one_body;
  one_fault = one_fault;
}
