use Rattle.std.proofs.Common.{ℕ, length, ap, arith}
use Rattle.jc_methods.proofs.StartsLaws.{numbers_are}
use Rattle.jc_frames.proofs.MethodLaws.{all_within}
use Rattle.jc_frames.proofs.method.Method.new.Goals as goal

pub insn_numbers-requires-clause-within : goal.insn_numbers-requires-clause-within
insn_numbers-requires-clause-within c = all_within (length c.args.code.now) _ c.args.starts.now c.requires.offsets (omega arith)

pub invariant_of-result : goal.invariant_of-result
invariant_of-result c = record {
  few = omega (arith, c.in_ok-numbers.ensures.length);
  each = λ offset. ap (λ (f : ℕ → ℕ). f offset) (numbers_are c.args.starts.now c.in_ok-numbers.numbers.items _ (length c.args.code.now) c.in_ok-numbers.ensures.length
      c.in_ok-numbers.ensures.each (all_within (length c.args.code.now) _ c.args.starts.now c.requires.offsets (omega arith)) c.requires.offsets.count);
}
