-- Instructions that are written.
use Rattle.std.proofs.Common.{◌≡◌, ◌⊎◌, ℕ, zero, suc, ◌+◌, ◌<◌, ◌≤◌, Bool, true, false, ◌||◌, List, [], ◌∷◌, ◌++◌, length, map, take, drop, get_or, replicate, All, w32, add-one, nat_eq, refl, sym, ◌∙◌, ap, subst, arith, append_assoc}
use Rattle.std.specs.Prelude.{slice_index}
use Rattle.std.specs.List.{flat_map}
use Rattle.std.proofs.lemmas.Bool.{ne_eqb}
use Rattle.jc_methods.specs.Opcode as opcode
use Rattle.jc_methods.specs.declared.form.Form.TheVariants as forms
use Rattle.jc_methods.specs.InsnForm.{form_of}
use Rattle.std.specs.Prelude.{ℤ, FitsSigned}
use Rattle.std.proofs.lemmas.List.{length-map, get_or-map, append-nil, take_all, map-append}
use Rattle.std.proofs.lemmas.Grind.{flat_map-append}
use Rattle.std.proofs.Math.ListN.{drop_of_length-le}
use Rattle.jc_methods.specs.Flow.{is_conditional_branch, targets_of}
use Rattle.std.proofs.Math.Seq.{drop-cons, take-suc}
use Rattle.std.proofs.lemmas.List.Elements.{All-tail, All-more}
use Rattle.jc_methods.specs.Insn.{IsWellFormed, with_places, arm_with_place}
use Rattle.jc_methods.specs.Widened.{WideSet}
use Rattle.jc_insn.specs.Writing.{insn_text, code_text, arm_text, IsInRange}
use Rattle.jc_methods.specs.declared.insn.Insn.{Insn}
use Rattle.jc_methods.specs.declared.insn.Insn.TheVariants as insns
use Rattle.jc_methods.specs.declared.insn.Arm.{Arm}
use Rattle.jc_methods.proofs.InsnFormLaws.{jump_codes, local_codes}

-- a jump that isn't goto is a conditional one
pub jump_tests : (op : ℕ) → form_of op ≡ forms.Jump → (op ≡ opcode.goto → ⊥) → is_conditional_branch op ≡ true
jump_tests op is other = by (nat_eq op opcode.goto) (is_conditional_branch op) (ne_eqb op opcode.goto other) (jump_codes op is)
  where
    by : (a b : Bool) → a ≡ false → (a || b) ≡ true → b ≡ true
    by false b differs e = e
    by true b differs e = absurd cc

-- a few zeros
pub zeros : (n : ℕ) → n ≤ 3 → take n (let l : List ℕ = 0 ∷ 0 ∷ 0 ∷ [] in l) ≡ replicate n 0
zeros zero few = refl
zeros (suc zero) few = refl
zeros (suc (suc zero)) few = refl
zeros (suc (suc (suc zero))) few = refl
zeros (suc (suc (suc (suc n)))) few = absurd (omega (arith, few))

-- six pieces that were put one behind the other
pub six_pieces : (a b c d e f g : List ℕ) (x : ℕ) (p q r s t : List ℕ) → b ≡ a ++ x ∷ [] → c ≡ b ++ p → d ≡ c ++ q → e ≡ d ++ r → f ≡ e ++ s → g ≡ f ++ t
    → g ≡ a ++ x ∷ (p ++ (q ++ (r ++ (s ++ t))))
six_pieces a b c d e f g x p q r s t ab bc cd de ef fg = rw (fg, ef, de, cd, bc, ab) (simp append_assoc)

-- where the arms of a switch lead
pub table_places : (P : ℕ → Type 0) (insn : Insn) (low : ℤ) (default : ℕ) (arms seen : List ℕ) → insn ≡ insns.Table low default arms → seen ≡ arms
    → All P (targets_of insn) → All P seen
table_places P insn low default arms seen is seen_is all =
    subst (λ (l : List ℕ). All P l) (sym seen_is) (All-tail P default arms (subst (λ (i : Insn). All P (targets_of i)) is all))

pub lookup_places : (P : ℕ → Type 0) (insn : Insn) (default : ℕ) (arms seen : List Arm) → insn ≡ insns.Lookup default arms → seen ≡ arms
    → All P (targets_of insn) → All (λ arm. P arm.to) seen
lookup_places P insn default arms seen is seen_is all =
    subst (λ (l : List Arm). All (λ arm. P arm.to) l) (sym seen_is) (λ k d below. each k d below)
  where
    each : (k : ℕ) (d : Arm) → k < length arms → P (get_or arms k d).to
    each k d below =
        let behind : All P (map (λ (a : Arm). a.to) arms) = All-tail P default (map (λ (a : Arm). a.to) arms)
        (subst (λ (i : Insn). All P (targets_of i)) is all) in
        subst P (get_or-map (λ (a : Arm). a.to) arms k d d.to below) (behind k d.to (omega (arith, length-map arms (λ (a : Arm). a.to), below)))

pub local_of : (insn : Insn) (op slot : ℕ) → insn ≡ insns.Local op slot → IsWellFormed insn → ((opcode.iload ≤ op) × (op ≤ opcode.aload)) ⊎ ((opcode.istore ≤ op) × (op ≤ opcode.astore))
local_of insn op slot is well = local_codes op (subst IsWellFormed is well)

-- one instruction more
pub writes_on : (places : ℕ → ℕ) (wide : WideSet) (code : List Insn) (starts : List ℕ) (number : ℕ) (insn : Insn) (old new whole : List ℕ)
    → number < length code → number < length starts → insn ≡ get_or code number insn
    → old ++ code_text places wide number (drop number code) (drop number starts) ≡ whole
    → new ≡ old ++ insn_text (get_or starts number 0) (wide number) (with_places places insn)
    → new ++ code_text places wide (number + 1) (drop (number + 1) code) (drop (number + 1) starts) ≡ whole
writes_on places wide code starts number insn old new whole in_code in_starts insn_is so_far wrote =
    let next : number + 1 ≡ suc number = omega arith in
    let code_is : drop number code ≡ insn ∷ drop (suc number) code = drop-cons code number insn in_code
    ∙ ap (λ (i : Insn). i ∷ drop (suc number) code) (sym insn_is) in
    let starts_is : drop number starts ≡ get_or starts number 0 ∷ drop (suc number) starts = drop-cons starts number 0 in_starts in
    let front = insn_text (get_or starts number 0) (wide number) (with_places places insn) in
    let rest = code_text places wide (suc number) (drop (suc number) code) (drop (suc number) starts) in
    let unrolled : code_text places wide number (drop number code) (drop number starts) ≡ front ++ rest =
    λ i. code_text places wide number (code_is i) (starts_is i) in
    ap (λ (k : ℕ). new ++ code_text places wide k (drop k code) (drop k starts)) next
    ∙ ap (λ (l : List ℕ). l ++ rest) wrote
    ∙ append_assoc old front rest
    ∙ ap (λ (l : List ℕ). old ++ l) (sym unrolled)
    ∙ so_far

-- some arms were put, and their keys have room
pub record ArmsPut (at : ℕ) (starts : List ℕ) (arms : List Arm) (count : ℕ) (old new : List ℕ) : Type 0 where
  pub text : new ≡ old ++ flat_map (arm_text at) (map (arm_with_place (slice_index starts)) (take count arms))
  pub keys : All (λ arm. FitsSigned w32 arm.key) (take count arms)

-- what was put and what is left are the whole code, and the fields of what was put have room
pub record CodePut (starts : List ℕ) (wide : WideSet) (code : List Insn) (number : ℕ) (text : List ℕ) : Type 0 where
  pub whole : text ++ code_text (slice_index starts) wide number (drop number code) (drop number starts) ≡ code_text (slice_index starts) wide 0 code starts
  pub ranges : All IsInRange (take number code)

pub puts_insn : (starts : List ℕ) (wide : WideSet) (code : List Insn) (number : ℕ) (insn : Insn) (old new : List ℕ) → number < length code
    → number < length starts → insn ≡ get_or code number insn → CodePut starts wide code number old
    → new ≡ old ++ insn_text (get_or starts number 0) (wide number) (with_places (slice_index starts) insn) → IsInRange insn
    → CodePut starts wide code (number + 1) new
puts_insn starts wide code number insn old new in_code in_starts insn_is so_far wrote range = record {
  whole = writes_on (slice_index starts) wide code starts number insn old new
      (code_text (slice_index starts) wide 0 code starts) in_code in_starts insn_is so_far.whole wrote;
  ranges = All-more IsInRange code number insn in_code so_far.ranges (subst IsInRange insn_is range);
}

code_at_end : (places : ℕ → ℕ) (wide : WideSet) (code : List Insn) (starts : List ℕ) (number : ℕ) → length code ≤ number
    → code_text places wide number (drop number code) starts ≡ []
code_at_end places wide code starts number end = ap (λ (l : List Insn). code_text places wide number l starts) (drop_of_length-le code end)

pub all_put : (starts : List ℕ) (wide : WideSet) (code : List Insn) (number : ℕ) (text : List ℕ) → length code ≤ number
    → CodePut starts wide code number text → (text ≡ code_text (slice_index starts) wide 0 code starts) × All IsInRange code
all_put starts wide code number text end so_far = (
  sym (append-nil text) ∙ ap (λ (l : List ℕ). text ++ l) (sym (code_at_end (slice_index starts) wide code (drop number starts) number end)) ∙ so_far.whole,
  subst (λ (l : List Insn). All IsInRange l) (take_all number code end) so_far.ranges,
)

pub puts_arm : (at : ℕ) (starts : List ℕ) (arms : List Arm) (count : ℕ) (d : Arm) (old mid new : List ℕ) → count < length arms
    → ArmsPut at starts arms count old mid → new ≡ mid ++ arm_text at (arm_with_place (slice_index starts) (get_or arms count d))
    → FitsSigned w32 (get_or arms count d).key → ArmsPut at starts arms (count + 1) old new
puts_arm at starts arms count d old mid new below so_far wrote key =
    let g = arm_with_place (slice_index starts) in
    let arm = get_or arms count d in
    let before = flat_map (arm_text at) (map g (take count arms)) in
    let parts : take (count + 1) arms ≡ take count arms ++ arm ∷ [] = rw (add-one) (take-suc arms count d below) in
    let texts : flat_map (arm_text at) (map g (take (count + 1) arms)) ≡ before ++ arm_text at (g arm) =
    ap (λ (l : List Arm). flat_map (arm_text at) (map g l)) parts
    ∙ ap (flat_map (arm_text at)) (map-append g (take count arms) (arm ∷ []))
    ∙ flat_map-append (arm_text at) (map g (take count arms)) (g arm ∷ [])
    ∙ ap (λ (l : List ℕ). before ++ l) (append-nil (arm_text at (g arm))) in
    record {
      text = wrote ∙ ap (λ (l : List ℕ). l ++ arm_text at (g arm)) so_far.text ∙ append_assoc old before (arm_text at (g arm))
          ∙ ap (λ (l : List ℕ). old ++ l) (sym texts);
      keys = All-more (λ (a : Arm). FitsSigned w32 a.key) arms count d below so_far.keys key;
    }
