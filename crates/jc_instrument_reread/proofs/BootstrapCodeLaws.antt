-- The code of the bootstrap method is spelled as it was written (JVM Specification 6.5).
use Rattle.std.proofs.Common.{◌≡◌, ℕ, ◌+◌, ◌<◌, List, [], ◌∷◌, length, map, refl, sym, ◌∙◌, arith}
use Rattle.jc_bytes.specs.BigNumbers.{short}
use Rattle.jc_methods.specs.Insn.{with_places}
use Rattle.jc_methods.specs.Opcode as opcode
use Rattle.jc_methods.specs.Starts.{insn_number}
use Rattle.jc_methods.specs.declared.insn.Insn.TheVariants as insns
use Rattle.jc_insn.specs.Spells.{Spells, SpellsFrom}
use Rattle.jc_emit.specs.Added.{InitPlaces, bootstrap_code}
use Rattle.jc_emit.specs.Marks.{push_by}
use Rattle.jc_emit.proofs.PlacedLaws.{places_push_by}
use Rattle.jc_layout.proofs.CallLaws.{call_form}
use Rattle.jc_instrument_code.specs.InitText.{bootstrap_bytes, count_text}
use Rattle.jc_instrument_reread.specs.InitRead.{bootstrap_starts}
use Rattle.jc_instrument_reread.proofs.InitCodeLaws.{Rest, count_item, long_item, member_item, no_more, one_more, return_form, simple_item, text_item, three}

module _ (p : InitPlaces) (count : ℕ) (integer : p.count < 65536) (id : p.id < 65536) (name : p.name < 65536) (fetch : p.fetch < 65536) where
  abbrev pushed : List ℕ
  pushed = count_text p.count count

  abbrev k : ℕ
  k = length pushed

  whole : Rest 0
  whole =
      one_more 0 3 (opcode.ldc2_w ∷ short p.id) (insns.Constant2 p.id) (long_item 0 p.id id) (three 0 opcode.ldc2_w p.id)
      (one_more 3 6 (opcode.ldc_w ∷ short p.name) (insns.Constant p.name) (text_item 3 p.name name) (three 3 opcode.ldc_w p.name)
      (one_more 6 (6 + k) pushed (push_by (λ n. p.count) count) (count_item 6 p.count count (omega arith) integer) refl
      (one_more (6 + k) (9 + k) (opcode.invokestatic ∷ short p.fetch) (insns.Member opcode.invokestatic p.fetch)
      (member_item (6 + k) opcode.invokestatic p.fetch call_form fetch) (three (6 + k) opcode.invokestatic p.fetch ∙ omega arith)
      (one_more (9 + k) (10 + k) (opcode.areturn ∷ []) (insns.Simple opcode.areturn) (simple_item (9 + k) opcode.areturn return_form) (omega arith)
      (no_more (10 + k))))))

  bytes_spelled : SpellsFrom 0 (bootstrap_bytes p pushed) (bootstrap_code p count) (bootstrap_starts k)
  unfolding bootstrap_bytes whole one_more no_more
  bytes_spelled = whole.spelled

  abbrev number : ℕ → ℕ
  number = insn_number (bootstrap_starts k)

  code_named : bootstrap_code p count ≡ map (with_places number) (bootstrap_code p count)
  code_named =
      let same = sym (places_push_by number (λ n. p.count) count) in λ i.
      insns.Constant2 p.id ∷ insns.Constant p.name ∷ same i ∷ insns.Member opcode.invokestatic p.fetch ∷ insns.Simple opcode.areturn ∷ []

  pub bootstrap_spelled : Spells (bootstrap_bytes p pushed) (bootstrap_code p count) (bootstrap_starts k)
  bootstrap_spelled = record { spelled = bootstrap_code p count; text = bytes_spelled; places = code_named }
