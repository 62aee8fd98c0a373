use Rattle.std.proofs.Common.{rules, ◌≡◌, ◌∙◌, sym, ap, ℕ, ◌++◌, length, map}
use Rattle.std.proofs.lemmas.List.{length-map}
use Rattle.std.specs.Prelude.{slice_index}
use Rattle.std.specs.List.{flat_map}
use Rattle.std.specs.Int.{w32, cast_unsigned}
use Rattle.jc_bytes.specs.BigNumbers.{word}
use Rattle.jc_methods.specs.Opcode as opcode
use Rattle.jc_insn.specs.Writing.{last_key, difference, pad_text}
use Rattle.jc_insn.proofs.InsnWritingLaws.{six_pieces}
use Rattle.jc_insn.proofs.write.put_table.Goals as goal

pub returns : goal.returns
returns c =
    let arms = map (slice_index c.args.starts.now) c.args.arms.now in
    let default_is : c.difference.result ≡ difference c.args.at (slice_index c.args.starts.now c.args.default) = c.difference.ensures in
    let low_is : c.cast_unsigned.result ≡ cast_unsigned w32 c.args.low = search rules in
    let count_is : length arms ≡ length c.args.arms.now = length-map c.args.arms.now (slice_index c.args.starts.now) in
    let key_is : c.last_key.result ≡ cast_unsigned w32 (last_key c.args.low (length c.args.arms.now)) = search rules in
    let high_is : c.last_key.result ≡ cast_unsigned w32 (last_key c.args.low (length arms)) = key_is
    ∙ ap (λ (k : ℕ). cast_unsigned w32 (last_key c.args.low k)) (sym count_is) in
    six_pieces c.args.out.now.items c.push.new.self.items c.put_pad.new.out.items c.put_word.new.into.items c.put_word-2.new.into.items
    c.put_word-3.new.into.items c.put_offsets.new.out.items opcode.tableswitch
    (pad_text c.args.at) (word (difference c.args.at (slice_index c.args.starts.now c.args.default))) (word (cast_unsigned w32 c.args.low))
    (word (cast_unsigned w32 (last_key c.args.low (length arms)))) (flat_map (λ to. word (difference c.args.at to)) arms)
    c.in_ok-push.ensures.items c.in_ok-put_pad.ensures
    (c.in_ok-put_word.ensures ∙ ap (λ (k : ℕ). c.put_pad.new.out.items ++ word k) default_is)
    (c.in_ok-put_word-2.ensures ∙ ap (λ (k : ℕ). c.put_word.new.into.items ++ word k) low_is)
    (c.in_ok-put_word-3.ensures ∙ ap (λ (k : ℕ). c.put_word-2.new.into.items ++ word k) high_is)
    c.in_ok-put_offsets.ensures
