-- The method that gives the probe array, byte by byte.
use Rattle.std.proofs.Common.{◌≡◌, inl, inr, ℕ, ◌+◌, ◌-◌, ◌%◌, ◌<◌, ◌≤◌, Bool, true, false, List, [], ◌∷◌, ◌++◌, length, nat_le, pos, if◌then◌else◌, sym, ◌∙◌, ap, ap₂, arith, length-append}
use Rattle.std.proofs.lemmas.Bool.{cases_lt, le-leb}
use Rattle.std.proofs.lemmas.Bool.Decides.{nat_tests}
use Rattle.std.proofs.lemmas.List.{append-nil}
use Rattle.std.proofs.Math.Nat.{sub-zero}
use Rattle.jc_bytes.proofs.AppendingLaws.{joined}
use Rattle.jc_bytes.specs.BigNumbers.{short, word}
use Rattle.jc_methods.specs.Opcode as opcode
use Rattle.jc_methods.specs.ProbeMembers.{most_short}
use Rattle.jc_methods.specs.InsnForm.{form_of}
use Rattle.jc_methods.specs.declared.insn.Insn.{Insn}
use Rattle.jc_methods.specs.declared.insn.Insn.TheVariants as insns
use Rattle.jc_frames.specs.FullFrames as frames
use Rattle.jc_insn.specs.Writing.{insn_text}
use Rattle.jc_insn.proofs.ReadBackLaws.{short_size}
use Rattle.jc_emit.specs.Added.{InitPlaces, end_place, init_frame, init_stack}
use Rattle.jc_instrument_code.specs.CodeText.{attribute, attribute_text}
use Rattle.jc_instrument_code.specs.InitText.{push_count, count_text, end_offset, init_bytes, init_frame_places, init_frames, init_text}
use Rattle.jc_instrument_code.proofs.CodeTextLaws.{code_text_parts, one_attribute}
use Rattle.jc_instrument_code.proofs.PartLaws.{text_of_attribute}

-- ---- the number of probes

not_most : (a b : ℕ) → a < b → nat_le b a ≡ false
not_most a b less = grind (arith, nat_tests)

abbrev longer : ℕ → Bool → Insn
longer n t = if t then insns.Push opcode.bipush (pos n) else insns.Push opcode.sipush (pos n)

abbrev pushes : ℕ → Bool → Bool → Insn
pushes n s t = if s then insns.Simple (opcode.iconst_0 + n) else longer n t

pub push_small : (n : ℕ) → n ≤ 5 → push_count n ≡ (opcode.iconst_0 + n) ∷ []
unfolding insn_text
push_small n le = ap (λ (s : Bool). insn_text 0 false (pushes n s (nat_le n 127))) (le-leb n 5 le)

pub push_byte : (n : ℕ) → 5 < n → n ≤ 127 → push_count n ≡ opcode.bipush ∷ n ∷ []
unfolding insn_text form_of
push_byte n more le =
    let same : n % 256 ≡ n = omega (arith, le) in
    ap₂ (λ (s t : Bool). insn_text 0 false (pushes n s t)) (not_most 5 n more) (le-leb n 127 le)
    ∙ ap (λ (k : ℕ). opcode.bipush ∷ k ∷ []) same

pub push_short : (n : ℕ) → 127 < n → push_count n ≡ opcode.sipush ∷ short n
unfolding insn_text form_of
push_short n more = ap₂ (λ (s t : Bool). insn_text 0 false (pushes n s t)) (not_most 5 n (omega (arith, more))) (not_most 127 n more)

pub push_few : (n : ℕ) → length (push_count n) ≤ 3
push_few n = elim (cases_lt 5 n) [
  | inl more ↦ elim (cases_lt 127 n) [
    | inl many ↦ let e = ap (λ (l : List ℕ). length l) (push_short n many) in let size = short_size n in omega (arith, e, size)
    | inr few ↦ let e = ap (λ (l : List ℕ). length l) (push_byte n more few) in omega (arith, e)
  ]
  | inr few ↦ let e = ap (λ (l : List ℕ). length l) (push_small n few) in omega (arith, e)
]

-- the number, or the place of its Integer
count_by : (integer n : ℕ) (small : Bool) → length (if small then push_count n else opcode.ldc_w ∷ short integer) ≤ 3
count_by integer n true = push_few n
count_by integer n false = let size = short_size integer in omega (arith, size)

pub count_few : (integer n : ℕ) → length (count_text integer n) ≤ 3
count_few integer n = count_by integer n (nat_le n most_short)

pub count_small : (integer n : ℕ) → n ≤ most_short → count_text integer n ≡ push_count n
count_small integer n le = ap (λ (small : Bool). if small then push_count n else opcode.ldc_w ∷ short integer) (le-leb n most_short le)

pub count_big : (integer n : ℕ) → most_short < n → count_text integer n ≡ opcode.ldc_w ∷ short integer
count_big integer n more = ap (λ (small : Bool). if small then push_count n else opcode.ldc_w ∷ short integer) (not_most most_short n more)

-- ---- the code

-- eight pieces, one behind the other
eight : (a b c d e f g h i x₁ x₂ x₃ x₄ x₅ x₆ x₇ x₈ : List ℕ) → b ≡ a ++ x₁ → c ≡ b ++ x₂ → d ≡ c ++ x₃ → e ≡ d ++ x₄ → f ≡ e ++ x₅
    → g ≡ f ++ x₆ → h ≡ g ++ x₇ → i ≡ h ++ x₈ → i ≡ a ++ (x₁ ++ (x₂ ++ (x₃ ++ (x₄ ++ (x₅ ++ (x₆ ++ (x₇ ++ x₈)))))))
eight a b c d e f g h i x₁ x₂ x₃ x₄ x₅ x₆ x₇ x₈ p₁ p₂ p₃ p₄ p₅ p₆ p₇ p₈ =
    joined a b i x₁ _ p₁ (joined b c i x₂ _ p₂ (joined c d i x₃ _ p₃ (joined d e i x₄ _ p₄ (joined e f i x₅ _ p₅ (joined f g i x₆ _ p₆ (joined g h i x₇ x₈ p₇ p₈))))))

pub init_parts : (p : InitPlaces) (pushed a b b' c c' d e f g g' h i : List ℕ) → b ≡ a ++ opcode.getstatic ∷ short p.field → b' ≡ b ++ opcode.dup ∷ []
    → c ≡ b' ++ opcode.ifnonnull ∷ short (17 + length pushed) → c' ≡ c ++ opcode.pop ∷ [] → d ≡ c' ++ opcode.ldc2_w ∷ short p.id
    → e ≡ d ++ opcode.ldc_w ∷ short p.name → f ≡ e ++ pushed → g ≡ f ++ opcode.invokestatic ∷ short p.fetch → g' ≡ g ++ opcode.dup ∷ []
    → h ≡ g' ++ opcode.putstatic ∷ short p.field → i ≡ h ++ opcode.areturn ∷ [] → i ≡ a ++ init_bytes p pushed
unfolding init_bytes
init_parts p pushed a b b' c c' d e f g g' h i p₁ q₂ p₂ q₃ p₃ p₄ p₅ p₆ q₇ p₇ p₈ =
    eight a b c d e f g h i (opcode.getstatic ∷ short p.field) (opcode.dup ∷ opcode.ifnonnull ∷ short (17 + length pushed))
    (opcode.pop ∷ opcode.ldc2_w ∷ short p.id) (opcode.ldc_w ∷ short p.name) pushed (opcode.invokestatic ∷ short p.fetch)
    (opcode.dup ∷ opcode.putstatic ∷ short p.field) (opcode.areturn ∷ []) p₁
    (joined b b' c (opcode.dup ∷ []) (opcode.ifnonnull ∷ short (17 + length pushed)) q₂ p₂)
    (joined c c' d (opcode.pop ∷ []) (opcode.ldc2_w ∷ short p.id) q₃ p₃) p₄ p₅ p₆
    (joined g g' h (opcode.dup ∷ []) (opcode.putstatic ∷ short p.field) q₇ p₇) p₈

pub init_size : (p : InitPlaces) (pushed : List ℕ) → length (init_bytes p pushed) ≡ 22 + length pushed
unfolding init_bytes
init_size p pushed =
    let x₇ = opcode.dup ∷ opcode.putstatic ∷ short p.field in
    let rest₇ = x₇ ++ (opcode.areturn ∷ []) in
    let rest₆ = (opcode.invokestatic ∷ short p.fetch) ++ rest₇ in
    let rest₅ = pushed ++ rest₆ in
    let rest₄ = (opcode.ldc_w ∷ short p.name) ++ rest₅ in
    let rest₃ = (opcode.pop ∷ opcode.ldc2_w ∷ short p.id) ++ rest₄ in
    let rest₂ = (opcode.dup ∷ opcode.ifnonnull ∷ short (17 + length pushed)) ++ rest₃ in
    let l₁ = length-append (opcode.getstatic ∷ short p.field) rest₂ in
    let l₂ = length-append (opcode.dup ∷ opcode.ifnonnull ∷ short (17 + length pushed)) rest₃ in
    let l₃ = length-append (opcode.pop ∷ opcode.ldc2_w ∷ short p.id) rest₄ in
    let l₄ = length-append (opcode.ldc_w ∷ short p.name) rest₅ in
    let l₅ = length-append pushed rest₆ in
    let l₆ = length-append (opcode.invokestatic ∷ short p.fetch) rest₇ in
    let l₇ = length-append x₇ (opcode.areturn ∷ []) in
    let a = short_size p.field in
    let b = short_size (17 + length pushed) in
    let c = short_size p.id in
    let d = short_size p.name in
    let e = short_size p.fetch in
    omega (arith, l₁, l₂, l₃, l₄, l₅, l₆, l₇, a, b, c, d, e)

-- ---- the frame

abbrev frame_bytes : (array : ℕ) → (pushed : List ℕ) → List ℕ
frame_bytes array pushed = short 1 ++ ((255 ∷ []) ++ (short (21 + length pushed) ++ (short 0 ++ (short 1 ++ (7 ∷ short array)))))

no_ends : (one offset none class : List ℕ)
    → one ++ ((255 ∷ (offset ++ ((none ++ []) ++ (one ++ (7 ∷ (class ++ [])))))) ++ [])
    ≡ one ++ ((255 ∷ []) ++ (offset ++ (none ++ (one ++ (7 ∷ class)))))
no_ends one offset none class =
    ap (λ (l : List ℕ). one ++ l) (append-nil (255 ∷ (offset ++ ((none ++ []) ++ (one ++ (7 ∷ (class ++ [])))))))
    ∙ ap₂ (λ (a b : List ℕ). one ++ (255 ∷ (offset ++ (a ++ (one ++ (7 ∷ b)))))) (append-nil none) (append-nil class)

frame_is : (array : ℕ) (pushed : List ℕ)
    → frames.table_text (init_frame_places array (end_offset pushed)) (record { at = end_place; state = init_frame } ∷ []) ≡ frame_bytes array pushed
unfolding short
frame_is array pushed =
    no_ends (short 1) (short (end_offset pushed - 0)) (short 0) (short array)
    ∙ ap (λ (n : ℕ). short 1 ++ ((255 ∷ []) ++ (short n ++ (short 0 ++ (short 1 ++ (7 ∷ short array)))))) (sub-zero (end_offset pushed))

frame_size : (array : ℕ) (pushed : List ℕ) → length (frame_bytes array pushed) ≡ 12
frame_size array pushed =
    let last = 7 ∷ short array in
    let rest₄ = short 1 ++ last in
    let rest₃ = short 0 ++ rest₄ in
    let rest₂ = short (21 + length pushed) ++ rest₃ in
    let l₁ = length-append (short 1) ((255 ∷ []) ++ rest₂) in
    let l₃ = length-append (short (21 + length pushed)) rest₃ in
    let l₄ = length-append (short 0) rest₄ in
    let l₅ = length-append (short 1) last in
    let a = short_size 1 in
    let b = short_size (21 + length pushed) in
    let c = short_size 0 in
    let d = short_size array in
    omega (arith, l₁, l₃, l₄, l₅, a, b, c, d)

pub frame_parts : (name array : ℕ) (pushed t₀ t₁ t₂ t₃ t₄ t₅ t₆ t₇ : List ℕ) → t₁ ≡ t₀ ++ (short name ++ word 12) → t₂ ≡ t₁ ++ short 1
    → t₃ ≡ t₂ ++ 255 ∷ [] → t₄ ≡ t₃ ++ short (21 + length pushed) → t₅ ≡ t₄ ++ short 0 → t₆ ≡ t₅ ++ short 1 → t₇ ≡ t₆ ++ 7 ∷ short array
    → t₇ ≡ t₀ ++ attribute_text (init_frames name array pushed)
frame_parts name array pushed t₀ t₁ t₂ t₃ t₄ t₅ t₆ t₇ p₁ p₂ p₃ p₄ p₅ p₆ p₇ =
    text_of_attribute name 12 (frame_bytes array pushed) t₀ t₁ t₇ p₁
    (joined t₁ t₂ t₇ (short 1) _ p₂ (joined t₂ t₃ t₇ (255 ∷ []) _ p₃ (joined t₃ t₄ t₇ (short (21 + length pushed)) _ p₄
    (joined t₄ t₅ t₇ (short 0) _ p₅ (joined t₅ t₆ t₇ (short 1) (7 ∷ short array) p₆ p₇)))))
    (frame_size array pushed)
    ∙ ap (λ (l : List ℕ). t₀ ++ attribute_text (attribute name l)) (sym (frame_is array pushed))

-- ---- the whole

pub pushed_is : (text none pushed : List ℕ) → none ≡ [] → pushed ≡ none ++ text → pushed ≡ text
pushed_is text none pushed empty is = is ∙ ap (λ (l : List ℕ). l ++ text) empty

pub init_text_is : (p : InitPlaces) (name array count size : ℕ) (none sizes coded tabled counted new : List ℕ) → none ≡ []
    → sizes ≡ none ++ (short init_stack ++ (short 0 ++ word size)) → size ≡ 22 + length (count_text p.count count)
    → coded ≡ sizes ++ init_bytes p (count_text p.count count) → tabled ≡ coded ++ short 0 → counted ≡ tabled ++ short 1
    → new ≡ counted ++ attribute_text (init_frames name array (count_text p.count count)) → new ≡ init_text p name array count
init_text_is p name array count size none sizes coded tabled counted new empty head is coded_is tabled_is counted_is new_is =
    let pushed = count_text p.count count in
    code_text_parts init_stack 0 size (init_bytes p pushed) (short 0) (init_frames name array pushed ∷ [])
    none sizes coded tabled new empty head (is ∙ sym (init_size p pushed)) coded_is tabled_is
    (one_attribute (init_frames name array pushed) tabled counted new counted_is new_is)
