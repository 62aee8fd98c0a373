use Rattle.std.proofs.Common.{◌≤◌, inl, inr, sym, ◌∙◌, arith}
use Rattle.std.proofs.lemmas.Bool.{true≢false}
use Rattle.jc_methods.specs.ProbeMembers.{most_probes}
use Rattle.jc_plan.specs.Analysed.{all_probes}
use Rattle.jc_instrument.proofs.RoomLaws.{few_members, few_probes}
use Rattle.jc_instrument.proofs.room.count_refusal.Goals as goal

pub returns-then-is_full-clause-first : goal.returns-then-is_full-clause-first
returns-then-is_full-clause-first c = λ bodies are count.
    let few : all_probes bodies ≤ most_probes = omega (arith, count) in
    inr (
      few_probes c.args.class.now bodies are few,
      inl (record { full = c.is_full.ensures.0 c.if-is_full.true; refusal = c.of_class-then-is_full.ensures }),
    )

pub returns-clause-first : goal.returns-clause-first
returns-clause-first c = λ bodies are count.
    let few : all_probes bodies ≤ most_probes = omega (arith, count) in
    (few_probes c.args.class.now bodies are few, (few_members c.args.class.now (λ full. true≢false (sym (c.is_full.ensures.1 full) ∙ c.if-is_full.false)), tt))
