-- The instructions of instrumented code are well formed.
use Rattle.std.proofs.Common.{◌≡◌, ⊎_elim, inl, inr, ℕ, zero, suc, ◌+◌, ◌<◌, ◌≤◌, Bool, true, false, cond, nat_le, refl, sym, ap, ◌∙◌, arith}
use Rattle.std.specs.Prelude.{pos, negsuc, ◌≤ℤ◌, if◌then◌else◌}
use Rattle.std.proofs.lemmas.Int.{ints}
use Rattle.std.proofs.lemmas.Bool.{cases_lt, agree_below_at, cond-true, cond_both, leb-true, le-leb}
use Rattle.jc_methods.specs.InsnForm.{form_of}
use Rattle.jc_methods.proofs.InsnFormLaws.{unknown_beyond}
use Rattle.jc_methods.specs.Opcode as opcode
use Rattle.jc_methods.specs.declared.form.Form.{Form}
use Rattle.jc_methods.specs.declared.form.Form.TheVariants as forms
use Rattle.jc_methods.specs.declared.insn.Insn.{Insn}
use Rattle.jc_methods.specs.declared.insn.Insn.TheVariants as insns
use Rattle.jc_methods.specs.Flow.{inverse_of}
use Rattle.jc_methods.specs.Insn.{IsWellFormed}
use Rattle.jc_methods.specs.Widened.{inverted}
use Rattle.jc_kinds_after.specs.Shift.{with_slot}
use Rattle.jc_methods.specs.ProbeMembers.{most_short}
use Rattle.jc_methods.specs.declared.probe_members.Fetch.{Fetch}
use Rattle.jc_methods.specs.declared.probe_members.Fetch.TheVariants as fetches
use Rattle.jc_emit.specs.Marks.{TwinPlaces, aload, astore, invokestatic, iconst_1, bastore, push, push_by, prelude_insn}
use Rattle.jc_emit.proofs.ConditionalBranchLaws.{unknown_no_jump}

-- ---- inverses

abbrev is_jump : Form → Bool
is_jump forms.Jump = true
is_jump _ = false

jump_is : (form : Form) → is_jump form ≡ true → form ≡ forms.Jump
jump_is forms.Jump h = refl
jump_is form h = cc

-- where the opcode is a jump's, its inverse is
abbrev keeps_form : ℕ → Bool
keeps_form op = cond (is_jump (form_of op)) (is_jump (form_of (inverse_of op))) true

keeps_below : (op : ℕ) → op < 202 → keeps_form op ≡ true
unfolding form_of inverse_of
keeps_below op below = agree_below_at keeps_form (λ op. true) 202 op refl below

pub inverse_form : (op : ℕ) → form_of op ≡ forms.Jump → form_of (inverse_of op) ≡ forms.Jump
inverse_form op form =
    ⊎_elim
    (λ below. jump_is (form_of (inverse_of op))
    (sym (cond-true (is_jump (form_of op)) (is_jump (form_of (inverse_of op))) true (ap is_jump form)) ∙ keeps_below op below))
    (λ above. absurd (unknown_no_jump (sym (unknown_beyond op above) ∙ form)))
    (cases_lt op 202)

pub inverted_formed : (to : ℕ) (insn : Insn) → IsWellFormed insn → IsWellFormed (inverted to insn)
inverted_formed to (insns.Jump op other) h = inverse_form op h
inverted_formed to insn h = h

pub slot_formed : (v : ℕ) (insn : Insn) → IsWellFormed insn → IsWellFormed (with_slot v insn)
slot_formed v (insns.Local op slot) h = h
slot_formed v (insns.Inc slot by) h = h
slot_formed v insn h = h

-- ---- the prelude and probes

pub call_formed : (place : ℕ) → IsWellFormed (invokestatic place)
unfolding form_of
call_formed place = refl

pub store_formed : (v : ℕ) → IsWellFormed (astore v)
unfolding form_of
store_formed v = refl

pub load_formed : (v : ℕ) → IsWellFormed (aload v)
unfolding form_of
load_formed v = refl

pub one_formed : IsWellFormed iconst_1
unfolding form_of
one_formed = refl

pub put_formed : IsWellFormed bastore
unfolding form_of
put_formed = refl

pub goto_formed : (to : ℕ) → IsWellFormed (insns.Jump opcode.goto to)
unfolding form_of
goto_formed to = refl

low_form : (n : ℕ) → n ≤ 5 → form_of (opcode.iconst_0 + n) ≡ forms.Simple
unfolding form_of
low_form n le = cond-true (nat_le (opcode.iconst_0 + n) opcode.dconst_1) forms.Simple _ (le-leb (opcode.iconst_0 + n) opcode.dconst_1 (omega arith))

byte_form : form_of opcode.bipush ≡ forms.PushByte
unfolding form_of
byte_form = refl

short_form : form_of opcode.sipush ≡ forms.PushShort
unfolding form_of
short_form = refl

byte_low : (n : ℕ) → negsuc 127 ≤ℤ pos n
byte_low n = omega (arith, ints)

byte_high : (n : ℕ) → n ≤ 127 → pos n ≤ℤ pos 127
byte_high n le = omega (arith, ints)

pub push_formed : (n : ℕ) → IsWellFormed (push n)
push_formed n = by (nat_le n 5) refl (nat_le n 127) refl
  where
    by : (t : Bool) → nat_le n 5 ≡ t → (u : Bool) → nat_le n 127 ≡ u
        → IsWellFormed (if t then insns.Simple (opcode.iconst_0 + n) else if u then insns.Push opcode.bipush (pos n) else insns.Push opcode.sipush (pos n))
    by true e u f = low_form n (leb-true n 5 e)
    by false e true f = inl (byte_form, byte_low n, byte_high n (leb-true n 127 f))
    by false e false f = inr short_form

-- the same for each number
pub push_by_formed : (integer : ℕ → ℕ) (n : ℕ) → IsWellFormed (push_by integer n)
push_by_formed integer n =
    cond_both (nat_le n most_short) (push n) (insns.Constant (integer n)) (λ x. IsWellFormed x) (λ few. push_formed n) (λ many. tt)

none_formed : IsWellFormed (insns.Simple opcode.nop)
unfolding form_of
none_formed = refl

cast_formed : (place : ℕ) → IsWellFormed (insns.OfClass opcode.checkcast place)
unfolding form_of
cast_formed place = refl

pub prelude_formed : (fetch : Fetch) (p : TwinPlaces) (v k : ℕ) → IsWellFormed (prelude_insn fetch p v k)
prelude_formed fetches.Member p v zero = call_formed p.giver
prelude_formed fetches.Member p v (suc zero) = store_formed v
prelude_formed fetches.Member p v (suc (suc k)) = none_formed
prelude_formed fetches.Constant p v zero = tt
prelude_formed fetches.Constant p v (suc zero) = cast_formed p.array
prelude_formed fetches.Constant p v (suc (suc zero)) = store_formed v
prelude_formed fetches.Constant p v (suc (suc (suc k))) = none_formed
