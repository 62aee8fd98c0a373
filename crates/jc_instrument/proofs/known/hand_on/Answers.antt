use Rattle.std.proofs.Common.{refl, sym, ◌∙◌, arith}
use Rattle.std.proofs.lemmas.Bool.{true≢false}
use Rattle.jc_instrument.proofs.CheckingLaws.{fine_before, some_is_none}
use Rattle.jc_instrument.proofs.known.hand_on.Goals as goal

pub returns-in-Some-clause-hands : goal.returns-in-Some-clause-hands
returns-in-Some-clause-hands c = record {
  bad = refl;
  frames = λ none. absurd (some_is_none c.in-Some.field-0 (sym c.in-Some.is ∙ none));
  handed_on = λ fine. absurd (some_is_none c.in-Some.field-0 (sym c.in-Some.is ∙ fine.0));
}

pub returns-then-not-are_frames_fine-clause-hands : goal.returns-then-not-are_frames_fine-clause-hands
returns-then-not-are_frames_fine-clause-hands c = record {
  bad = refl;
  frames = λ none. c.in_ok-known.ensures.first;
  handed_on = λ fine. true≢false (sym (c.are_frames_fine.ensures.1 fine.1) ∙ c.if-not-are_frames_fine.true);
}

pub plan-requires-clause-first : goal.plan-requires-clause-first
plan-requires-clause-first c =
    let fine = fine_before c.check_next.new.names c.args.body c.args.known.now.frames c.in_ok-known.field-0 c.in_ok-known.ensures.first
    (c.are_frames_fine.ensures.0 c.if-not-are_frames_fine.false) in
    let few = c.requires.probes (c.in_default.is, fine) in
    omega (arith, few)

pub returns-clause-hands : goal.returns-clause-hands
returns-clause-hands c = record {
  bad = refl;
  frames = λ none. c.in_ok-known.ensures.first;
  handed_on = record {
    fine = (c.in_default.is, c.are_frames_fine.ensures.0 c.if-not-are_frames_fine.false);
    body = refl;
    plan = c.in_ok-plan.ensures;
    next = refl;
  };
}
