-- The bootstrap method, byte by byte.
use Rattle.std.proofs.Common.{◌≡◌, ℕ, ◌+◌, List, [], ◌∷◌, ◌++◌, length, sym, ◌∙◌, ap, arith, length-append}
use Rattle.std.proofs.lemmas.List.{append-nil}
use Rattle.jc_bytes.proofs.AppendingLaws.{joined}
use Rattle.jc_bytes.specs.BigNumbers.{short, word}
use Rattle.jc_methods.specs.Opcode as opcode
use Rattle.jc_insn.proofs.ReadBackLaws.{short_size}
use Rattle.jc_emit.specs.Added.{InitPlaces, init_stack}
use Rattle.jc_instrument_code.specs.InitText.{count_text, bootstrap_bytes, bootstrap_text}
use Rattle.jc_instrument_code.proofs.CodeTextLaws.{code_text_parts}

pub bootstrap_parts : (p : InitPlaces) (pushed a b c d e f : List ℕ) → b ≡ a ++ opcode.ldc2_w ∷ short p.id → c ≡ b ++ opcode.ldc_w ∷ short p.name
    → d ≡ c ++ pushed → e ≡ d ++ opcode.invokestatic ∷ short p.fetch → f ≡ e ++ opcode.areturn ∷ [] → f ≡ a ++ bootstrap_bytes p pushed
unfolding bootstrap_bytes
bootstrap_parts p pushed a b c d e f p₁ p₂ p₃ p₄ p₅ =
    joined a b f (opcode.ldc2_w ∷ short p.id) _ p₁ (joined b c f (opcode.ldc_w ∷ short p.name) _ p₂ (joined c d f pushed _ p₃
    (joined d e f (opcode.invokestatic ∷ short p.fetch) (opcode.areturn ∷ []) p₄ p₅)))

pub bootstrap_size : (p : InitPlaces) (pushed : List ℕ) → length (bootstrap_bytes p pushed) ≡ 10 + length pushed
unfolding bootstrap_bytes
bootstrap_size p pushed =
    let last = (opcode.invokestatic ∷ short p.fetch) ++ (opcode.areturn ∷ []) in
    let rest = (opcode.ldc_w ∷ short p.name) ++ (pushed ++ last) in
    let l₁ = length-append (opcode.ldc2_w ∷ short p.id) rest in
    let l₂ = length-append (opcode.ldc_w ∷ short p.name) (pushed ++ last) in
    let l₃ = length-append pushed last in
    let l₄ = length-append (opcode.invokestatic ∷ short p.fetch) (opcode.areturn ∷ []) in
    let a = short_size p.id in
    let b = short_size p.name in
    let c = short_size p.fetch in
    omega (arith, l₁, l₂, l₃, l₄, a, b, c)

pub bootstrap_text_is : (p : InitPlaces) (count size : ℕ) (none sizes coded tabled new : List ℕ) → none ≡ []
    → sizes ≡ none ++ (short init_stack ++ (short 3 ++ word size)) → size ≡ 10 + length (count_text p.count count)
    → coded ≡ sizes ++ bootstrap_bytes p (count_text p.count count) → tabled ≡ coded ++ short 0 → new ≡ tabled ++ short 0
    → new ≡ bootstrap_text p count
bootstrap_text_is p count size none sizes coded tabled new empty head is coded_is tabled_is new_is =
    let pushed = count_text p.count count in
    code_text_parts init_stack 3 size (bootstrap_bytes p pushed) (short 0) [] none sizes coded tabled new empty head
    (is ∙ sym (bootstrap_size p pushed)) coded_is tabled_is (new_is ∙ ap (λ (l : List ℕ). tabled ++ l) (sym (append-nil (short 0))))
