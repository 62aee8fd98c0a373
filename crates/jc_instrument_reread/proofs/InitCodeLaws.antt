-- The code of the added method is spelled as it was written (JVM Specification 6.5).
use Rattle.std.proofs.Common.{◌≡◌, ◌⊎◌, inl, inr, ⊎_elim, ℕ, ◌+◌, ◌%◌, ◌<◌, ◌≤◌, Bool, true, false, List, [], ◌∷◌, ◌++◌, length, map, nat_le, pos, w16, if◌then◌else◌, refl, sym, ◌∙◌, ap, subst, arith}
use Rattle.std.specs.Prelude.{FitsSigned}
use Rattle.std.specs.Int.{cast_signed}
use Rattle.std.proofs.lemmas.Bool.{cases_lt, leb-true}
use Rattle.std.proofs.lemmas.Int.{fits_signed_from_abs}
use Rattle.std.proofs.lemmas.List.Elements.{All-nil}
use Rattle.jc_bytes.specs.BigNumbers.{short}
use Rattle.jc_methods.specs.Insn.{IsWellFormed, with_places}
use Rattle.jc_methods.specs.InsnForm.{form_of}
use Rattle.jc_methods.specs.Opcode as opcode
use Rattle.jc_methods.specs.ProbeMembers.{most_short}
use Rattle.jc_methods.specs.Starts.{insn_number}
use Rattle.jc_methods.specs.declared.form.Form.TheVariants as forms
use Rattle.jc_methods.specs.declared.insn.Insn.{Insn}
use Rattle.jc_methods.specs.declared.insn.Insn.TheVariants as insns
use Rattle.jc_insn.specs.declared.item.CodeItem.TheVariants as items
use Rattle.jc_insn.specs.Items.{IsItem, operands, target_of}
use Rattle.jc_insn.specs.Spells.{Spells, SpellsFrom}
use Rattle.jc_insn.specs.Writing.{IsNearJump, difference, insn_text}
use Rattle.jc_insn.proofs.OperandsSpelledLaws.{item_of, one_number}
use Rattle.jc_insn.proofs.ReadBackLaws.{big_short, short_size, short_target}
use Rattle.jc_insn.proofs.ShortestSpellingLaws.{Fits, near_text_is}
use Rattle.jc_emit.specs.Added.{InitPlaces, end_place, init_code}
use Rattle.jc_emit.specs.Marks.{push, push_by}
use Rattle.jc_emit.proofs.PlacedLaws.{places_push_by}
use Rattle.jc_layout.proofs.FormedLaws.{push_formed}
use Rattle.jc_layout.proofs.CallLaws.{call_form}
use Rattle.jc_instrument_code.specs.InitText.{count_text, init_bytes, push_count}
use Rattle.jc_instrument_code.proofs.InitLaws.{push_byte, push_short, push_small}
use Rattle.jc_instrument_reread.specs.InitRead.{init_starts}

-- ---- the number of probes

-- the instruction that pushes a number, by what tells how long it is
abbrev short_push : ℕ → Bool → Bool → Insn
short_push n small byte = if small then insns.Simple (opcode.iconst_0 + n) else if byte then insns.Push opcode.bipush (pos n) else insns.Push opcode.sipush (pos n)

same_text_by : (at n : ℕ) (s t : Bool) → insn_text at false (short_push n s t) ≡ insn_text 0 false (short_push n s t)
unfolding insn_text
same_text_by at n true t = refl
same_text_by at n false true = refl
same_text_by at n false false = refl

fits_short : (n : ℕ) → n ≤ most_short → FitsSigned w16 (pos n)
fits_short n le = fits_signed_from_abs w16 (pos n) (omega (arith, le))

fits_by : (at n : ℕ) (s t : Bool) → at < 4294967296 → n ≤ most_short → IsWellFormed (short_push n s t) → Fits at (short_push n s t)
fits_by at n true t lt le well = record { at_fits = lt; well_formed = well; in_range = tt; places = All-nil (λ to. to < 4294967296) }
fits_by at n false true lt le well = record { at_fits = lt; well_formed = well; in_range = fits_short n le; places = All-nil (λ to. to < 4294967296) }
fits_by at n false false lt le well = record { at_fits = lt; well_formed = well; in_range = fits_short n le; places = All-nil (λ to. to < 4294967296) }

near_by : (at n : ℕ) (s t : Bool) → IsNearJump at (short_push n s t)
near_by at n true t = tt
near_by at n false true = tt
near_by at n false false = tt

push_item : (at n : ℕ) → at < 4294967296 → n ≤ most_short → IsItem at (push_count n) (items.Insn (push n))
push_item at n lt le =
    let s = nat_le n 5 in
    let t = nat_le n 127 in
    subst (λ (l : List ℕ). IsItem at l (items.Insn (push n))) (same_text_by at n s t)
    (near_text_is at (push n) (fits_by at n s t lt le (push_formed n)) (near_by at n s t))

-- ---- items

pub simple_item : (at op : ℕ) → form_of op ≡ forms.Simple → IsItem at (op ∷ []) (items.Insn (insns.Simple op))
unfolding operands
simple_item at op form = item_of at op forms.Simple [] (items.Insn (insns.Simple op)) form (refl, refl)

pub member_item : (at op place : ℕ) → form_of op ≡ forms.Member → place < 65536 → IsItem at (op ∷ short place) (items.Insn (insns.Member op place))
unfolding operands
member_item at op place form lt =
    item_of at op forms.Member (short place) (items.Insn (insns.Member op place)) form
    (one_number 2 (λ v. items.Insn (insns.Member op v)) place (short place) (items.Insn (insns.Member op place)) (big_short place lt) refl)

pub long_item : (at place : ℕ) → place < 65536 → IsItem at (opcode.ldc2_w ∷ short place) (items.Insn (insns.Constant2 place))
unfolding operands form_of
long_item at place lt =
    item_of at opcode.ldc2_w forms.Constant2 (short place) (items.Insn (insns.Constant2 place)) refl
    (one_number 2 (λ v. items.Insn (insns.Constant2 v)) place (short place) (items.Insn (insns.Constant2 place)) (big_short place lt) refl)

pub text_item : (at place : ℕ) → place < 65536 → IsItem at (opcode.ldc_w ∷ short place) (items.Insn (insns.Constant place))
unfolding operands form_of
text_item at place lt =
    item_of at opcode.ldc_w forms.ConstantShort (short place) (items.Insn (insns.Constant place)) refl
    (one_number 2 (λ v. items.Insn (insns.Constant v)) place (short place) (items.Insn (insns.Constant place)) (big_short place lt) refl)

jump_item : (at op distance : ℕ) → form_of op ≡ forms.Jump → at < 65536 → distance < 32768
    → IsItem at (op ∷ short distance) (items.Insn (insns.Jump op (at + distance)))
unfolding operands
jump_item at op distance form low few =
    let back : difference at (at + distance) % 65536 ≡ distance = omega (arith, low, few) in
    let target : target_of at (cast_signed w16 distance) ≡ at + distance =
    ap (λ (d : ℕ). target_of at (cast_signed w16 d)) (sym back)
    ∙ short_target at (at + distance) (omega (arith, low)) (omega (arith, low, few)) (omega (arith, few), omega arith) in
    item_of at op forms.Jump (short distance) (items.Insn (insns.Jump op (at + distance))) form
    (one_number 2 (λ v. items.Insn (insns.Jump op (target_of at (cast_signed w16 v)))) distance (short distance)
    (items.Insn (insns.Jump op (at + distance))) (big_short distance (omega (arith, few))) (ap (λ (to : ℕ). items.Insn (insns.Jump op to)) (sym target)))

-- the push of the number of probes, or the load of its Integer
count_item_by : (at integer count : ℕ) (small : Bool) → nat_le count most_short ≡ small → at < 4294967296 → integer < 65536
    → IsItem at (if small then push_count count else opcode.ldc_w ∷ short integer) (items.Insn (if small then push count else insns.Constant integer))
count_item_by at integer count true is lt fits = push_item at count lt (leb-true count most_short is)
count_item_by at integer count false is lt fits = text_item at integer fits

pub count_item : (at integer count : ℕ) → at < 4294967296 → integer < 65536
    → IsItem at (count_text integer count) (items.Insn (push_by (λ n. integer) count))
count_item at integer count lt fits = count_item_by at integer count (nat_le count most_short) refl lt fits

-- ---- forms

get_form : form_of opcode.getstatic ≡ forms.Member
unfolding form_of
get_form = refl

put_form : form_of opcode.putstatic ≡ forms.Member
unfolding form_of
put_form = refl

dup_form : form_of opcode.dup ≡ forms.Simple
unfolding form_of
dup_form = refl

pop_form : form_of opcode.pop ≡ forms.Simple
unfolding form_of
pop_form = refl

pub return_form : form_of opcode.areturn ≡ forms.Simple
unfolding form_of
return_form = refl

test_form : form_of opcode.ifnonnull ≡ forms.Jump
unfolding form_of
test_form = refl

-- ---- one instruction in front of others

-- the instructions from an offset on
pub record Rest (at : ℕ) : Type 0 where
  pub bytes : List ℕ
  pub code : List Insn
  pub starts : List ℕ
  pub spelled : SpellsFrom at bytes code starts

unfoldable pub no_more : (at : ℕ) → Rest at
no_more at = record { bytes = []; code = []; starts = at ∷ []; spelled = (refl, refl) }

unfoldable pub one_more : (at next : ℕ) (text : List ℕ) (insn : Insn) → IsItem at text (items.Insn insn) → at + length text ≡ next → Rest next → Rest at
one_more at next text insn item is rest = record {
  bytes = text ++ rest.bytes;
  code = insn ∷ rest.code;
  starts = at ∷ rest.starts;
  spelled = (
    text,
    rest.bytes,
    rest.starts,
    refl,
    refl,
    item,
    subst (λ (n : ℕ). SpellsFrom n rest.bytes rest.code rest.starts) (sym is) rest.spelled,
  );
}

pub three : (at op place : ℕ) → at + length (op ∷ short place) ≡ 3 + at
three at op place = let size = short_size place in omega (arith, size)

-- ---- the length of the push

short_length : (n : ℕ) → (length (push_count n) ≡ 1) ⊎ ((length (push_count n) ≡ 2) ⊎ (length (push_count n) ≡ 3))
short_length n =
    ⊎_elim (λ more.
    ⊎_elim (λ many. inr (inr (let e = ap (λ (l : List ℕ). length l) (push_short n many) in let size = short_size n in omega (arith, e, size))))
    (λ few. inr (inl (ap (λ (l : List ℕ). length l) (push_byte n more few)))) (cases_lt 127 n))
    (λ few. inl (ap (λ (l : List ℕ). length l) (push_small n few))) (cases_lt 5 n)

length_by : (integer n : ℕ) (small : Bool) → let text = if small then push_count n else opcode.ldc_w ∷ short integer in
    (length text ≡ 1) ⊎ ((length text ≡ 2) ⊎ (length text ≡ 3))
length_by integer n true = short_length n
length_by integer n false = inr (inr (let size = short_size integer in omega (arith, size)))

pub pushed_length : (integer n : ℕ) → (length (count_text integer n) ≡ 1) ⊎ ((length (count_text integer n) ≡ 2) ⊎ (length (count_text integer n) ≡ 3))
pushed_length integer n = length_by integer n (nat_le n most_short)

-- the last instruction has its number
end_number : (k : ℕ) → (k ≡ 1) ⊎ ((k ≡ 2) ⊎ (k ≡ 3)) → insn_number (init_starts k) (21 + k) ≡ end_place
end_number k (inl is) = ap (λ (n : ℕ). insn_number (init_starts n) (21 + n)) is
end_number k (inr (inl is)) = ap (λ (n : ℕ). insn_number (init_starts n) (21 + n)) is
end_number k (inr (inr is)) = ap (λ (n : ℕ). insn_number (init_starts n) (21 + n)) is

-- ---- the code

module _ (p : InitPlaces) (count : ℕ) (integer : p.count < 65536) (field : p.field < 65536) (id : p.id < 65536)
    (name : p.name < 65536) (fetch : p.fetch < 65536) where
  abbrev pushed : List ℕ
  pushed = count_text p.count count

  abbrev k : ℕ
  k = length pushed

  -- the instructions, with the offset to which the jump leads
  abbrev spelled : List Insn
  spelled =
      insns.Member opcode.getstatic p.field
      ∷ insns.Simple opcode.dup
      ∷ insns.Jump opcode.ifnonnull (4 + (17 + k))
      ∷ insns.Simple opcode.pop
      ∷ insns.Constant2 p.id
      ∷ insns.Constant p.name
      ∷ push_by (λ n. p.count) count
      ∷ insns.Member opcode.invokestatic p.fetch
      ∷ insns.Simple opcode.dup
      ∷ insns.Member opcode.putstatic p.field
      ∷ insns.Simple opcode.areturn
      ∷ []

  k_few : k ≤ 3
  k_few = ⊎_elim (λ a. omega (arith, a)) (λ more. ⊎_elim (λ a. omega (arith, a)) (λ a. omega (arith, a)) more) (pushed_length p.count count)

  from_call : Rest (14 + k)
  from_call =
      one_more (14 + k) (17 + k) (opcode.invokestatic ∷ short p.fetch) (insns.Member opcode.invokestatic p.fetch)
      (member_item (14 + k) opcode.invokestatic p.fetch call_form fetch) (three (14 + k) opcode.invokestatic p.fetch ∙ omega arith)
      (one_more (17 + k) (18 + k) (opcode.dup ∷ []) (insns.Simple opcode.dup) (simple_item (17 + k) opcode.dup dup_form) (omega arith)
      (one_more (18 + k) (21 + k) (opcode.putstatic ∷ short p.field) (insns.Member opcode.putstatic p.field)
      (member_item (18 + k) opcode.putstatic p.field put_form field) (three (18 + k) opcode.putstatic p.field ∙ omega arith)
      (one_more (21 + k) (22 + k) (opcode.areturn ∷ []) (insns.Simple opcode.areturn) (simple_item (21 + k) opcode.areturn return_form) (omega arith)
      (no_more (22 + k)))))

  from_pop : Rest 7
  from_pop =
      one_more 7 8 (opcode.pop ∷ []) (insns.Simple opcode.pop) (simple_item 7 opcode.pop pop_form) refl
      (one_more 8 11 (opcode.ldc2_w ∷ short p.id) (insns.Constant2 p.id) (long_item 8 p.id id) (three 8 opcode.ldc2_w p.id)
      (one_more 11 14 (opcode.ldc_w ∷ short p.name) (insns.Constant p.name) (text_item 11 p.name name) (three 11 opcode.ldc_w p.name)
      (one_more 14 (14 + k) pushed (push_by (λ n. p.count) count) (count_item 14 p.count count (omega arith) integer) refl from_call)))

  whole : Rest 0
  whole =
      let few_bytes = k_few in
      one_more 0 3 (opcode.getstatic ∷ short p.field) (insns.Member opcode.getstatic p.field) (member_item 0 opcode.getstatic p.field get_form field)
      (three 0 opcode.getstatic p.field)
      (one_more 3 4 (opcode.dup ∷ []) (insns.Simple opcode.dup) (simple_item 3 opcode.dup dup_form) refl
      (one_more 4 7 (opcode.ifnonnull ∷ short (17 + k)) (insns.Jump opcode.ifnonnull (4 + (17 + k)))
      (jump_item 4 opcode.ifnonnull (17 + k) test_form (omega arith) (omega (arith, few_bytes))) (three 4 opcode.ifnonnull (17 + k)) from_pop))

  bytes_spelled : SpellsFrom 0 (init_bytes p pushed) spelled (init_starts k)
  unfolding init_bytes whole one_more from_pop from_call no_more
  bytes_spelled = whole.spelled

  abbrev number : ℕ → ℕ
  number = insn_number (init_starts k)

  code_named : init_code p count ≡ map (with_places number) spelled
  code_named =
      let target : end_place ≡ number (4 + (17 + k)) =
      sym (end_number k (pushed_length p.count count)) ∙ ap number (let e : 21 + k ≡ 4 + (17 + k) = omega arith in e) in
      let same = sym (places_push_by number (λ n. p.count) count) in λ i.
      insns.Member opcode.getstatic p.field
      ∷ insns.Simple opcode.dup
      ∷ insns.Jump opcode.ifnonnull (target i)
      ∷ insns.Simple opcode.pop
      ∷ insns.Constant2 p.id
      ∷ insns.Constant p.name
      ∷ same i
      ∷ insns.Member opcode.invokestatic p.fetch
      ∷ insns.Simple opcode.dup
      ∷ insns.Member opcode.putstatic p.field
      ∷ insns.Simple opcode.areturn
      ∷ []

  pub init_spelled : Spells (init_bytes p pushed) (init_code p count) (init_starts k)
  init_spelled = record { spelled = spelled; text = bytes_spelled; places = code_named }
