use Rattle.std.proofs.Common.{◌≡◌, ℕ, ◌+◌, ◌<◌, List, length, get_or, rules, subst}
use Rattle.jc_methods.specs.Starts.{insn_number}
use Rattle.jc_methods.proofs.StartsLaws.{numbers_are}
use Rattle.jc_body.proofs.places.numbers_of.Goals as goal

pub returns : goal.returns
returns c = λ offset.
    let starts : c.deref.result.now ≡ c.args.coded.now.starts = search rules in
    let each = subst (λ (l : List ℕ). (offset : ℕ) → offset < length c.args.coded.now.items.code + 1
    → get_or c.in_ok-insn_numbers.field-0.items offset 0 ≡ insn_number l offset) starts (search rules) in
    let are = numbers_are c.args.coded.now.starts c.in_ok-insn_numbers.field-0.items (length c.args.coded.now.items.code + 1)
    (length c.args.coded.now.insns) (search rules) each c.requires.within c.requires.starts.one_more in
    λ i. are i offset
