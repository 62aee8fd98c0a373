-- The instrumented code of a method of a sample has few bytes.
use Rattle.std.proofs.Common.{◌≡◌, ℕ, suc, ◌+◌, ◌*◌, ◌≤◌, Bool, true, false, if◌then◌else◌, nat_le, List, [], ◌∷◌, length, refl, arith}
use Rattle.std.specs.Prelude.{pos, slice_index}
use Rattle.std.specs.List.{AllByRecursion}
use Rattle.std.proofs.lemmas.List.Sums.{sum_by-cons}
use Rattle.jc_bytes.specs.PlainLists.{total}
use Rattle.jc_methods.specs.Insn.{arm_count}
use Rattle.jc_methods.specs.Opcode as opcode
use Rattle.jc_methods.specs.ProbeMembers.{most_short}
use Rattle.jc_methods.specs.WellMade.{insns_and_arms}
use Rattle.jc_methods.specs.Widened.{WideSet}
use Rattle.jc_methods.specs.declared.insn.Insn.{Insn}
use Rattle.jc_methods.specs.declared.insn.Insn.TheVariants as insns
use Rattle.jc_methods.specs.declared.probe_members.Fetch.TheVariants as fetches
use Rattle.jc_plan.specs.Probed.{probe_of}
use Rattle.jc_insn.specs.Sizes.{size_of}
use Rattle.jc_emit.specs.Items.{twin_items}
use Rattle.jc_emit.specs.Marks.{push_by}
use Rattle.jc_emit.specs.Sizes.{arm_sizes, arms_at}
use Rattle.jc_emit.specs.Stages.{emitted_code}
use Rattle.jc_layout.specs.Layout.{starts_from, starts_of, chosen, chosen_starts, chosen_length}
use Rattle.jc_layout.proofs.OffsetLaws.{size_bound}
use Rattle.jc_command_sample_laws.proofs.SampleBodyLaws.{sample_body}

-- ---- how many instructions there are

abbrev HaveNoArms : List Insn → Type 0
HaveNoArms code = AllByRecursion (λ insn. arm_count insn ≡ 0) code

push_has_none : (integer : ℕ → ℕ) (id : ℕ) → arm_count (push_by integer id) ≡ 0
push_has_none integer id = by (nat_le id most_short) (nat_le id 5) (nat_le id 127)
  where
    by : (a b c : Bool)
        → arm_count (if a then (if b then insns.Simple (opcode.iconst_0 + id) else if c then insns.Push opcode.bipush (pos id) else insns.Push opcode.sipush (pos id))
        else insns.Constant (integer id)) ≡ 0
    by true true c = refl
    by true false true = refl
    by true false false = refl
    by false b c = refl

abbrev twin_insns : (number first : ℕ) → (integer : ℕ → ℕ) → List Insn
twin_insns k first integer = emitted_code (sample_body k) first fetches.Member integer

-- the prelude, and two probes of four instructions
twin_count : (k first : ℕ) (integer : ℕ → ℕ) → length (twin_insns k first integer) ≡ 18
unfolding twin_items
twin_count k first integer = refl

none_have : (k first : ℕ) (integer : ℕ → ℕ) → HaveNoArms (twin_insns k first integer)
unfolding twin_items
none_have k first integer = (
  refl,
  (
    refl,
    (
      refl,
      (
        refl,
        (
          refl,
          (
            refl,
            (
              refl,
              (
                refl,
                (
                  push_has_none integer (first + 0),
                  (
                    refl,
                    (
                      refl,
                      (
                        refl,
                        (
                          refl,
                          (refl, (push_has_none integer (first + 1), (refl, (refl, (refl, tt))))),
                        ),
                      ),
                    ),
                  ),
                ),
              ),
            ),
          ),
        ),
      ),
    ),
  ),
)

one_each : (code : List Insn) → HaveNoArms code → insns_and_arms code ≡ length code
one_each [] none = refl
one_each (insn ∷ code) none =
    let whole = sum_by-cons (λ (i : Insn). 1 + arm_count i) insn code in
    let here = none.0 in
    let rest = one_each code none.1 in
    omega (arith, whole, here, rest)

-- ---- how many bytes

size_most : (wide : WideSet) (n at : ℕ) (code : List Insn) → slice_index (starts_from wide n at code) (length code) ≤ at + 16 * insns_and_arms code
size_most wide n at [] = omega arith
size_most wide n at (insn ∷ code) =
    let one = size_bound at (wide n) insn in
    let rest = size_most wide (suc n) (at + size_of at (wide n) insn) code in
    let whole = sum_by-cons (λ (i : Insn). 1 + arm_count i) insn code in
    omega (arith, one, rest, whole)

pub code_most : (k first : ℕ) (integer : ℕ → ℕ) → chosen_length (emitted_code (sample_body k) first fetches.Member integer) ≤ 288
unfolding chosen_starts starts_of
code_most k first integer =
    let most = size_most (chosen (twin_insns k first integer)) 0 0 (twin_insns k first integer) in
    let few = one_each (twin_insns k first integer) (none_have k first integer) in
    let count = twin_count k first integer in
    omega (arith, most, few, count)

-- it has no switch
pub no_arms : (k first : ℕ) → total (λ i. arm_sizes (probe_of (sample_body k) first) (arms_at (sample_body k).code i)) 8 ≡ 0
no_arms k first = refl
