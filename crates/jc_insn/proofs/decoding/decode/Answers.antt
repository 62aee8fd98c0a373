use Rattle.std.proofs.Common.{rules, ◌≡◌, ◌∙◌, ◌+◌, sym, arith, List, ℕ, length, subst, map, ◌<◌, get_or, ap}
use Rattle.std.proofs.lemmas.Result.{err_from_is_err_and}
use Rattle.jc_methods.specs.Insn.{with_places}
use Rattle.jc_methods.specs.Starts.{insn_number}
use Rattle.jc_insn.specs.Spells.{Spells}
use Rattle.jc_insn.proofs.OneReadingLaws.{NumbersStarts, spells, one_list, spelled_or_memory, not_spelled, refused_or_memory}
use Rattle.jc_insn.proofs.DecodedInsnLaws.{all_among, are_starts}
use Rattle.jc_insn.proofs.decoding.decode.Goals as goal
use Rattle.jc_insn.proofs.decoding.decode.Goals.{After-drop-numbers-2}

pub returns-in_err-text-clause-only : goal.returns-in_err-text-clause-only
returns-in_err-text-clause-only c = λ list starts s.
    let p = err_from_is_err_and c.from_residual.result c.from_residual.ensures.1 in
    rw (p.1, p.2) (spelled_or_memory c.args.code.now list starts c.in_err-text.field-0.0 s c.in_err-text.ensures.refused)

pub returns-in_err-text-clause-fault : goal.returns-in_err-text-clause-fault
returns-in_err-text-clause-fault c = λ r why.
    let p = err_from_is_err_and c.from_residual.result c.from_residual.ensures.1 in
    rw (p.1, p.2) (refused_or_memory c.args.code.now r c.in_err-text.field-0.0 why c.in_err-text.ensures.refused)

spelled : (c : After-drop-numbers-2) → Spells c.args.code.now c.in_ok-code.code c.from_vec.result
spelled c =
    let t = c.in_ok-text.field-0 in
    let size = length c.args.code.now + 1 in
    let length_is : c.len.result ≡ length t.code.items = search rules in
    let each : (offset : ℕ) → offset < size → get_or c.in_ok-numbers.numbers.items offset 0 ≡ insn_number t.starts.items offset =
    subst (λ (l : List ℕ). (offset : ℕ) → offset < size → get_or c.in_ok-numbers.numbers.items offset 0
    ≡ insn_number l offset) c.deref.ensures.value c.in_ok-numbers.ensures.each in
    let numbered : c.in_ok-code.code ≡ map (with_places (λ offset. get_or c.in_ok-numbers.numbers.items offset c.len.result)) t.code.items =
    c.in_ok-code.ensures ∙ ap (λ (l : List ℕ). map (with_places (λ offset. get_or l offset c.len.result)) t.code.items) c.deref-2.ensures.value in
    let table : NumbersStarts t.starts.items c.in_ok-numbers.numbers.items c.len.result = record {
      size = size;
      long = c.in_ok-numbers.ensures.length;
      each = each;
      within = c.in_ok-text.ensures.within;
      one_more = omega (arith, c.in_ok-text.ensures.count, length_is);
    } in
    subst (λ (l : List ℕ). Spells c.args.code.now c.in_ok-code.code l) (sym c.from_vec.ensures)
    (spells c.args.code.now t.starts.items c.in_ok-numbers.numbers.items t.code.items c.in_ok-code.code c.len.result c.in_ok-text.ensures.ok
    table numbered)

pub returns-clause-spelled : goal.returns-clause-spelled
returns-clause-spelled c = spelled c

pub returns-clause-insns : goal.returns-clause-insns
returns-clause-insns c = all_among c.args.code.now c.in_ok-code.code c.from_vec.result c.requires (spelled c)

pub returns-clause-starts : goal.returns-clause-starts
returns-clause-starts c = are_starts c.args.code.now c.in_ok-code.code c.from_vec.result (spelled c)

pub returns-clause-only : goal.returns-clause-only
returns-clause-only c = λ list starts s. one_list c.args.code.now c.in_ok-code.code list c.from_vec.result starts (spelled c) s

pub returns-clause-fault : goal.returns-clause-fault
returns-clause-fault c = λ r why. not_spelled c.args.code.now c.in_ok-code.code c.from_vec.result r (spelled c) why
