use Rattle.std.proofs.Common.{◌≡◌, ℕ, suc, zero, ◌*◌, ◌%◌, ◌^◌, ◌-◌, ◌<◌, bit_and, ◌∙◌, ap, arith}
use Rattle.std.proofs.lemmas.Nat.{and_mask}
use Rattle.jc_exec.proofs.bits.low_bits.Goals as goal

shifted : (k : ℕ) → k < 8 → 1 * 2 ^ k % 256 ≡ 2 ^ k
shifted zero lt = omega arith
shifted (suc zero) lt = omega arith
shifted (suc (suc zero)) lt = omega arith
shifted (suc (suc (suc zero))) lt = omega arith
shifted (suc (suc (suc (suc zero)))) lt = omega arith
shifted (suc (suc (suc (suc (suc zero))))) lt = omega arith
shifted (suc (suc (suc (suc (suc (suc zero)))))) lt = omega arith
shifted (suc (suc (suc (suc (suc (suc (suc zero))))))) lt = omega arith
shifted (suc (suc (suc (suc (suc (suc (suc (suc k)))))))) lt = absurd (omega (arith, lt))

pub returns : goal.returns
returns c = ap (λ (n : ℕ). bit_and c.args.byte (n - 1)) (shifted c.args.count c.requires) ∙ and_mask c.args.byte c.args.count
