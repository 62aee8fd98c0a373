use Rattle.std.proofs.Common.{List, ℕ, length, ◌∙◌, ap, arith}
use Rattle.std.proofs.lemmas.Fmt.{length-decimal-le}
use Rattle.jc_command_sample.proofs.file.put_name.Goals as goal

pub put_utf8-requires : goal.put_utf8-requires
put_utf8-requires c =
    let k = c.args.number in
    let size = length-decimal-le 10 k (omega arith) (omega (arith, c.ranges.number)) (omega (arith, c.ranges.number)) in
    let whole = ap (λ (l : List ℕ). length l) (c.as_bytes.ensures.value ∙ c.in_ok-name.ensures) in
    omega (arith, size, whole)
