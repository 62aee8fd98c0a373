-- The body of each method of a sample passes the kind check, and has two probes.
use Rattle.std.proofs.Common.{◌≡◌, ℕ, zero, suc, ◌+◌, ◌*◌, map, refl, arith}
use Rattle.std.specs.List.{range_with_len}
use Rattle.std.proofs.lemmas.List.Sums.{sum_by-cons}
use Rattle.jc_methods.specs.DescriptorTypes.{types_from, rest_from}
use Rattle.jc_methods.specs.VerificationTypes.{Names}
use Rattle.jc_kinds_after.specs.After.{after_of}
use Rattle.jc_kinds_after.specs.Table.{table, forms_at}
use Rattle.jc_kinds.specs.Checked.{Checked}
use Rattle.jc_kinds.specs.Checking.{verdict_of, passes}
use Rattle.jc_kinds.specs.States.{state_of}
use Rattle.jc_kinds.proofs.CheckLaws.{passes_checked}
use Rattle.jc_plan.specs.Analysed.{all_probes}
use Rattle.jc_plan.specs.Probed.{probe_count}
use Rattle.jc_command_sample_laws.proofs.SampleBodyLaws.{sample_body}

verdict : (names : Names) (k : ℕ) → verdict_of names (sample_body k) ≡ passes
unfolding types_from rest_from table forms_at after_of state_of verdict_of
verdict names k = refl

pub is_checked : (names : Names) (k : ℕ) → Checked names (sample_body k)
is_checked names k = passes_checked names (sample_body k) (omega arith) (verdict names k)

-- those of the two returns
two_probes : (k : ℕ) → probe_count (sample_body k) ≡ 2
two_probes k = refl

pub probes_are : (a m : ℕ) → all_probes (map sample_body (range_with_len a m)) ≡ 2 * m
probes_are a zero = refl
probes_are a (suc m) =
    let one = sum_by-cons probe_count (sample_body a) (map sample_body (range_with_len (a + 1) m)) in
    let here = two_probes a in
    let rest = probes_are (a + 1) m in
    omega (arith, one, here, rest)
