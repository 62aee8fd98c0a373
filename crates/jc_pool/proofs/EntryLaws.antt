-- An entry that is read is spelled so, and what is spelled so is read.
use Rattle.std.proofs.Common.{◌≡◌, ◌⊎◌, inl, inr, ⊎_elim, ℕ, ℤ, ◌<◌, Bool, true, false, cond, List, ◌∷◌, ◌++◌, length, take, Option, Some, None, nat_eq, refl, sym, ◌∙◌, ap, subst, arith, append_assoc, if◌then◌else◌}
use Rattle.std.specs.Int.{w32, w64, cast_signed}
use Rattle.std.proofs.lemmas.Bool.{eqb-true}
use Rattle.std.proofs.lemmas.Bool.Decides.{nat_tests}
use Rattle.std.proofs.lemmas.List.{take_at}
use Rattle.std.proofs.lemmas.Option.{none-some, same_Some}
use Rattle.byteorder.specs.Endian.{big_number}
use Rattle.jc_bytes.specs.Decoder.{IsBig, ◌>>=◌, first, byte_at, number_at}
use Rattle.jc_bytes.proofs.DecoderLaws.{bind_some, chosen, test_some, first_takes, first_again, number_takes, number_again, byte_takes, byte_again}
use Rattle.jc_pool.specs.declared.entry.Entry.{Entry}
use Rattle.jc_pool.specs.declared.entry.Entry.TheVariants as entry
use Rattle.jc_pool.specs.Pool.{is_wide}
use Rattle.jc_pool.specs.EntryFormat.{IsSigned, IsUtf8, ArePlaces, IsHandle, IsInfo, tag_of, IsEntry}
use Rattle.jc_pool.specs.EntryReading.{count_at, with_left, utf8_at, integer_at, float_at, long_at, double_at, of_place, naming_one_at, of_places, naming_two_at, handle_at, info_at, entry_at, narrow_only, narrow_at}

abbrev pub and_left : {A : Type 0} → A → List ℕ → Option (A × List ℕ)
and_left x left = Some (x, left)

pair_is : {A : Type 0} (x y : A) (left rest : List ℕ) → and_left x left ≡ and_left y rest → (x ≡ y) × (left ≡ rest)
pair_is {A} x y left rest e =
    let same = same_Some (x, left) (y, rest) e in
    (ap (λ (p : A × List ℕ). p.0) same, ap (λ (p : A × List ℕ). p.1) same)

-- ---- what is read is spelled so

-- the front of the bytes spells what stands behind the tag of the entry
pub record Found (tag : ℕ) (left : List ℕ) (e : Entry) (rest : List ℕ) : Type 0 where
  pub info : List ℕ
  pub parts : left ≡ info ++ rest
  pub tag_is : tag_of e ≡ tag
  pub spells : IsInfo info e

found_number : (n tag : ℕ) (make : ℕ → Entry) → ((bytes : List ℕ) (x : ℕ) → IsBig n bytes x → IsInfo bytes (make x)) → ((x : ℕ) → tag_of (make x) ≡ tag)
    → (left : List ℕ) (e : Entry) (rest : List ℕ) → (number_at n left >>= λ x. and_left (make x.0) x.1) ≡ Some (e, rest) → Found tag left e rest
found_number n tag make spelled tagged left e rest read =
    let b = bind_some (number_at n left) (λ x. and_left (make x.0) x.1) (e, rest) read in
    let same = pair_is {A = Entry} (make b.0.0) e b.0.1 rest b.2 in
    let t = number_takes n left b.0.0 b.0.1 b.1 in
    let at_rest : left ≡ t.0 ++ rest = t.1 ∙ ap (λ (l : List ℕ). t.0 ++ l) same.1 in
    subst (λ (f : Entry). Found tag left f rest) same.0 (record { info = t.0; parts = at_rest; tag_is = tagged b.0.0; spells = spelled t.0 b.0.0 t.2 })

signed : (n : ℕ) (bytes : List ℕ) (x : ℕ) → IsBig n bytes x → IsSigned w32 n bytes (cast_signed w32 x)
signed n bytes x big = record { size = big.size; value_is = ap (cast_signed w32) big.value }

signed_long : (n : ℕ) (bytes : List ℕ) (x : ℕ) → IsBig n bytes x → IsSigned w64 n bytes (cast_signed w64 x)
signed_long n bytes x big = record { size = big.size; value_is = ap (cast_signed w64) big.value }

found_integer : (left : List ℕ) (e : Entry) (rest : List ℕ) → integer_at left ≡ Some (e, rest) → Found 3 left e rest
unfolding integer_at
found_integer = found_number 4 3 (λ x. entry.Integer (cast_signed w32 x)) (signed 4) (λ x. refl)

found_float : (left : List ℕ) (e : Entry) (rest : List ℕ) → float_at left ≡ Some (e, rest) → Found 4 left e rest
unfolding float_at
found_float = found_number 4 4 (λ x. entry.Float x) (λ bytes x big. big) (λ x. refl)

found_long : (left : List ℕ) (e : Entry) (rest : List ℕ) → long_at left ≡ Some (e, rest) → Found 5 left e rest
unfolding long_at
found_long = found_number 8 5 (λ x. entry.Long (cast_signed w64 x)) (signed_long 8) (λ x. refl)

found_double : (left : List ℕ) (e : Entry) (rest : List ℕ) → double_at left ≡ Some (e, rest) → Found 6 left e rest
unfolding double_at
found_double = found_number 8 6 (λ x. entry.Double x) (λ bytes x big. big) (λ x. refl)

found_utf8 : (left : List ℕ) (e : Entry) (rest : List ℕ) → utf8_at left ≡ Some (e, rest) → Found 1 left e rest
unfolding utf8_at
found_utf8 left e rest read =
    let b = bind_some (number_at 2 left) _ (e, rest) read in
    let c = bind_some (first b.0.0 (take b.0.0) b.0.1) (λ text. and_left (entry.Utf8 text.0) text.1) (e, rest) b.2 in
    let same = pair_is {A = Entry} (entry.Utf8 c.0.0) e c.0.1 rest c.2 in
    let size = number_takes 2 left b.0.0 b.0.1 b.1 in
    let t = first_takes b.0.0 (take b.0.0) b.0.1 c.0.0 c.0.1 c.1 in
    let whole : t.text ≡ c.0.0 = sym (take_at t.text c.0.1 b.0.0 t.size) ∙ sym (ap (take b.0.0) t.parts) ∙ t.value in
    let long : b.0.0 ≡ length c.0.0 = sym t.size ∙ ap length whole in
    let behind : b.0.1 ≡ c.0.0 ++ rest = t.parts ∙ (λ i. whole i ++ same.1 i) in
    subst (λ (f : Entry). Found 1 left f rest) same.0 (record {
      info = size.0 ++ c.0.0;
      parts = size.1 ∙ ap (λ (l : List ℕ). size.0 ++ l) behind ∙ sym (append_assoc size.0 c.0.0 rest);
      tag_is = refl;
      spells = record { size = size.0; parts = refl; spells = record { size = size.2.size; value = size.2.value ∙ long } };
    })

found_handle : (left : List ℕ) (e : Entry) (rest : List ℕ) → handle_at left ≡ Some (e, rest) → Found 15 left e rest
unfolding handle_at
found_handle left e rest read =
    let b = bind_some (byte_at left) _ (e, rest) read in
    let c = bind_some (number_at 2 b.0.1) (λ reference. and_left (entry.MethodHandle b.0.0 reference.0) reference.1) (e, rest) b.2 in
    let same = pair_is {A = Entry} (entry.MethodHandle b.0.0 c.0.0) e c.0.1 rest c.2 in
    let kind = byte_takes left b.0.0 b.0.1 b.1 in
    let t = number_takes 2 b.0.1 c.0.0 c.0.1 c.1 in
    subst (λ (f : Entry). Found 15 left f rest) same.0 (record {
      info = b.0.0 ∷ t.0;
      parts = kind ∙ ap (λ (l : List ℕ). b.0.0 ∷ l) (t.1 ∙ ap (λ (l : List ℕ). t.0 ++ l) same.1);
      tag_is = refl;
      spells = record { back = t.0; parts = refl; right = t.2 };
    })

-- an entry was chosen by its tag
with_left_some : (left : List ℕ) (o : Option Entry) (e : Entry) (rest : List ℕ) → with_left left o ≡ Some (e, rest) → (o ≡ Some e) × (left ≡ rest)
with_left_some left (Some f) e rest read = let same = pair_is {A = Entry} f e left rest read in (ap (λ (g : Entry). Some g) same.0, same.1)
with_left_some left None e rest read = absurd cc

pub record Chosen (tag : ℕ) (Info : List ℕ → Type 0) (e : Entry) : Type 0 where
  pub tag_is : tag_of e ≡ tag
  pub spelled : (bytes : List ℕ) → Info bytes → IsInfo bytes e

by_tag : (k tag : ℕ) (Info : List ℕ → Type 0) (x : Entry) (other : Option Entry) (e : Entry) → tag_of x ≡ k → ((bytes : List ℕ) → Info bytes → IsInfo bytes x)
    → cond (nat_eq tag k) (Some x) other ≡ Some e → Chosen tag Info e ⊎ (other ≡ Some e)
by_tag k tag Info x other e tagged spelled read = elim (chosen (nat_eq tag k) (Some x) other (Some e) read) [
  | inl h ↦ inl (subst (Chosen tag Info) (same_Some x e h.1) (record { tag_is = tagged ∙ sym (eqb-true tag k h.0); spelled = spelled }))
  | inr h ↦ inr h.1
]

chosen_one : (tag a : ℕ) (e : Entry) → of_place tag a ≡ Some e → Chosen tag (λ bytes. IsBig 2 bytes a) e
chosen_one tag a e read =
    ⊎_elim (λ c. c) (λ h. ⊎_elim (λ c. c) (λ h. ⊎_elim (λ c. c) (λ h. ⊎_elim (λ c. c) (λ h. ⊎_elim (λ c. c) (λ h. absurd (none-some e h))
    (by_tag 20 tag Big (entry.Package a) _ e refl (λ bytes big. big) h))
    (by_tag 19 tag Big (entry.Module a) _ e refl (λ bytes big. big) h))
    (by_tag 16 tag Big (entry.MethodType a) _ e refl (λ bytes big. big) h))
    (by_tag 8 tag Big (entry.String a) _ e refl (λ bytes big. big) h))
    (by_tag 7 tag Big (entry.Class a) _ e refl (λ bytes big. big) read)
  where
    Big : List ℕ → Type 0
    Big = λ bytes. IsBig 2 bytes a

chosen_two : (tag a b : ℕ) (e : Entry) → of_places tag a b ≡ Some e → Chosen tag (λ bytes. ArePlaces bytes a b) e
chosen_two tag a b e read =
    ⊎_elim (λ c. c) (λ h. ⊎_elim (λ c. c) (λ h. ⊎_elim (λ c. c) (λ h. ⊎_elim (λ c. c) (λ h. ⊎_elim (λ c. c) (λ h. ⊎_elim (λ c. c) (λ h. absurd (none-some e h))
    (by_tag 18 tag Both (entry.InvokeDynamic a b) _ e refl (λ bytes both. both) h))
    (by_tag 17 tag Both (entry.Dynamic a b) _ e refl (λ bytes both. both) h))
    (by_tag 12 tag Both (entry.NameAndType a b) _ e refl (λ bytes both. both) h))
    (by_tag 11 tag Both (entry.InterfaceMethodref a b) _ e refl (λ bytes both. both) h))
    (by_tag 10 tag Both (entry.Methodref a b) _ e refl (λ bytes both. both) h))
    (by_tag 9 tag Both (entry.Fieldref a b) _ e refl (λ bytes both. both) read)
  where
    Both : List ℕ → Type 0
    Both = λ bytes. ArePlaces bytes a b

found_one : (tag : ℕ) (left : List ℕ) (e : Entry) (rest : List ℕ) → naming_one_at tag left ≡ Some (e, rest) → Found tag left e rest
unfolding naming_one_at
found_one tag left e rest read =
    let b = bind_some (number_at 2 left) (λ a. with_left a.1 (of_place tag a.0)) (e, rest) read in
    let t = number_takes 2 left b.0.0 b.0.1 b.1 in
    let w = with_left_some b.0.1 (of_place tag b.0.0) e rest b.2 in
    let c = chosen_one tag b.0.0 e w.0 in
    record { info = t.0; parts = t.1 ∙ ap (λ (l : List ℕ). t.0 ++ l) w.1; tag_is = c.tag_is; spells = c.spelled t.0 t.2 }

found_two : (tag : ℕ) (left : List ℕ) (e : Entry) (rest : List ℕ) → naming_two_at tag left ≡ Some (e, rest) → Found tag left e rest
unfolding naming_two_at
found_two tag left e rest read =
    let a = bind_some (number_at 2 left) _ (e, rest) read in
    let b = bind_some (number_at 2 a.0.1) (λ b. with_left b.1 (of_places tag a.0.0 b.0)) (e, rest) a.2 in
    let t = number_takes 2 left a.0.0 a.0.1 a.1 in
    let u = number_takes 2 a.0.1 b.0.0 b.0.1 b.1 in
    let w = with_left_some b.0.1 (of_places tag a.0.0 b.0.0) e rest b.2 in
    let c = chosen_two tag a.0.0 b.0.0 e w.0 in
    record {
      info = t.0 ++ u.0;
      parts = t.1 ∙ ap (λ (l : List ℕ). t.0 ++ l) (u.1 ∙ ap (λ (l : List ℕ). u.0 ++ l) w.1) ∙ sym (append_assoc t.0 u.0 rest);
      tag_is = c.tag_is;
      spells = c.spelled (t.0 ++ u.0) (record { front = t.0; back = u.0; parts = refl; left = t.2; right = u.2 });
    }

-- what was read where the tag is k
with_tag : (k tag : ℕ) (left : List ℕ) (e : Entry) (rest : List ℕ) → nat_eq tag k ≡ true → Found k left e rest → Found tag left e rest
with_tag k tag left e rest is f = subst (λ (n : ℕ). Found n left e rest) (sym (eqb-true tag k is)) f

found_info : (tag : ℕ) (left : List ℕ) (e : Entry) (rest : List ℕ) → info_at tag left ≡ Some (e, rest) → Found tag left e rest
unfolding info_at
found_info tag left e rest read =
    ⊎_elim (λ h. with_tag 1 tag left e rest h.0 (found_utf8 left e rest h.1)) (λ h.
    ⊎_elim (λ h. with_tag 3 tag left e rest h.0 (found_integer left e rest h.1)) (λ h.
    ⊎_elim (λ h. with_tag 4 tag left e rest h.0 (found_float left e rest h.1)) (λ h.
    ⊎_elim (λ h. with_tag 5 tag left e rest h.0 (found_long left e rest h.1)) (λ h.
    ⊎_elim (λ h. with_tag 6 tag left e rest h.0 (found_double left e rest h.1)) (λ h.
    ⊎_elim (λ h. with_tag 15 tag left e rest h.0 (found_handle left e rest h.1)) (λ h.
    ⊎_elim (λ h. found_one tag left e rest h.1) (λ h. found_two tag left e rest h.1)
    (chosen _ _ _ _ h.1))
    (chosen _ _ _ _ h.1))
    (chosen _ _ _ _ h.1))
    (chosen _ _ _ _ h.1))
    (chosen _ _ _ _ h.1))
    (chosen _ _ _ _ h.1))
    (chosen _ _ _ _ read)

-- the front of the bytes spells the entry
abbrev pub HasEntry : List ℕ → Entry → List ℕ → Type 0
HasEntry left e rest = (front : List ℕ) × (left ≡ front ++ rest) × IsEntry front e

pub entry_takes : (left : List ℕ) (e : Entry) (rest : List ℕ) → entry_at left ≡ Some (e, rest) → HasEntry left e rest
unfolding entry_at
entry_takes left e rest read =
    let b = bind_some (byte_at left) (λ tag. info_at tag.0 tag.1) (e, rest) read in
    let tag = byte_takes left b.0.0 b.0.1 b.1 in
    let f = found_info b.0.0 b.0.1 e rest b.2 in
    (b.0.0 ∷ f.info, tag ∙ ap (λ (l : List ℕ). b.0.0 ∷ l) f.parts, record { info = f.info; parts = ap (λ (n : ℕ). n ∷ f.info) (sym f.tag_is); spells = f.spells })

-- ---- what is spelled so is read

again_number : (n : ℕ) (make : ℕ → Entry) (info rest : List ℕ) (x : ℕ) → IsBig n info x → (number_at n (info ++ rest) >>= λ x. and_left (make x.0) x.1) ≡ Some (make x, rest)
again_number n make info rest x big = ap (λ (r : Option (ℕ × List ℕ)). r >>= λ x. and_left (make x.0) x.1) (number_again n info rest x big)

again_integer : (info rest : List ℕ) (value : ℤ) → IsSigned w32 4 info value → integer_at (info ++ rest) ≡ Some (entry.Integer value, rest)
unfolding integer_at
again_integer info rest value is =
    again_number 4 (λ x. entry.Integer (cast_signed w32 x)) info rest (big_number 4 info) (record { size = is.size; value = refl })
    ∙ ap (λ (z : ℤ). and_left (entry.Integer z) rest) is.value_is

again_long : (info rest : List ℕ) (value : ℤ) → IsSigned w64 8 info value → long_at (info ++ rest) ≡ Some (entry.Long value, rest)
unfolding long_at
again_long info rest value is =
    again_number 8 (λ x. entry.Long (cast_signed w64 x)) info rest (big_number 8 info) (record { size = is.size; value = refl })
    ∙ ap (λ (z : ℤ). and_left (entry.Long z) rest) is.value_is

again_float : (info rest : List ℕ) (bits : ℕ) → IsBig 4 info bits → float_at (info ++ rest) ≡ Some (entry.Float bits, rest)
unfolding float_at
again_float info rest bits big = again_number 4 (λ x. entry.Float x) info rest bits big

again_double : (info rest : List ℕ) (bits : ℕ) → IsBig 8 info bits → double_at (info ++ rest) ≡ Some (entry.Double bits, rest)
unfolding double_at
again_double info rest bits big = again_number 8 (λ x. entry.Double x) info rest bits big

again_utf8 : (info rest text : List ℕ) → IsUtf8 info text → utf8_at (info ++ rest) ≡ Some (entry.Utf8 text, rest)
unfolding utf8_at
again_utf8 info rest text is =
    ap utf8_at (ap (λ (l : List ℕ). l ++ rest) is.parts ∙ append_assoc is.size text rest)
    ∙ ap (λ (r : Option (ℕ × List ℕ)). r >>= λ size. first size.0 (take size.0) size.1 >>= λ text. and_left (entry.Utf8 text.0) text.1) (number_again 2 is.size (text ++ rest) (length text) is.spells)
    ∙ ap (λ (r : Option (List ℕ × List ℕ)). r >>= λ text. and_left (entry.Utf8 text.0) text.1)
    (first_again (length text) (take (length text)) text rest text refl (take_at text rest (length text) refl))

again_handle : (info rest : List ℕ) (kind reference : ℕ) → IsHandle info kind reference → handle_at (info ++ rest) ≡ Some (entry.MethodHandle kind reference, rest)
unfolding handle_at
again_handle info rest kind reference is =
    ap handle_at (ap (λ (l : List ℕ). l ++ rest) is.parts)
    ∙ ap (λ (r : Option (ℕ × List ℕ)). r >>= λ k. number_at 2 k.1 >>= λ reference. and_left (entry.MethodHandle k.0 reference.0) reference.1) (byte_again kind (is.back ++ rest))
    ∙ again_number 2 (λ x. entry.MethodHandle kind x) is.back rest reference is.right

again_one : (tag a : ℕ) (e : Entry) (info rest : List ℕ) → of_place tag a ≡ Some e → IsBig 2 info a → naming_one_at tag (info ++ rest) ≡ Some (e, rest)
unfolding naming_one_at
again_one tag a e info rest is big =
    ap (λ (r : Option (ℕ × List ℕ)). r >>= λ a. with_left a.1 (of_place tag a.0)) (number_again 2 info rest a big)
    ∙ ap (with_left rest) is

again_two : (tag a b : ℕ) (e : Entry) (info rest : List ℕ) → of_places tag a b ≡ Some e → ArePlaces info a b → naming_two_at tag (info ++ rest) ≡ Some (e, rest)
unfolding naming_two_at
again_two tag a b e info rest is two =
    ap (naming_two_at tag) (ap (λ (l : List ℕ). l ++ rest) two.parts ∙ append_assoc two.front two.back rest)
    ∙ ap (λ (r : Option (ℕ × List ℕ)). r >>= λ a. number_at 2 a.1 >>= λ b. with_left b.1 (of_places tag a.0 b.0)) (number_again 2 two.front (two.back ++ rest) a two.left)
    ∙ ap (λ (r : Option (ℕ × List ℕ)). r >>= λ b. with_left b.1 (of_places tag a b.0)) (number_again 2 two.back rest b two.right)
    ∙ ap (with_left rest) is

again_info : (e : Entry) (info rest : List ℕ) → IsInfo info e → info_at (tag_of e) (info ++ rest) ≡ Some (e, rest)
unfolding info_at
again_info (entry.Utf8 text) info rest is = again_utf8 info rest text is
again_info (entry.Integer value) info rest is = again_integer info rest value is
again_info (entry.Float bits) info rest is = again_float info rest bits is
again_info (entry.Long value) info rest is = again_long info rest value is
again_info (entry.Double bits) info rest is = again_double info rest bits is
again_info (entry.Class a) info rest is = again_one 7 a (entry.Class a) info rest refl is
again_info (entry.String a) info rest is = again_one 8 a (entry.String a) info rest refl is
again_info (entry.Fieldref a b) info rest is = again_two 9 a b (entry.Fieldref a b) info rest refl is
again_info (entry.Methodref a b) info rest is = again_two 10 a b (entry.Methodref a b) info rest refl is
again_info (entry.InterfaceMethodref a b) info rest is = again_two 11 a b (entry.InterfaceMethodref a b) info rest refl is
again_info (entry.NameAndType a b) info rest is = again_two 12 a b (entry.NameAndType a b) info rest refl is
again_info (entry.MethodHandle kind reference) info rest is = again_handle info rest kind reference is
again_info (entry.MethodType a) info rest is = again_one 16 a (entry.MethodType a) info rest refl is
again_info (entry.Dynamic a b) info rest is = again_two 17 a b (entry.Dynamic a b) info rest refl is
again_info (entry.InvokeDynamic a b) info rest is = again_two 18 a b (entry.InvokeDynamic a b) info rest refl is
again_info (entry.Module a) info rest is = again_one 19 a (entry.Module a) info rest refl is
again_info (entry.Package a) info rest is = again_one 20 a (entry.Package a) info rest refl is

pub entry_again : (front rest : List ℕ) (e : Entry) → IsEntry front e → entry_at (front ++ rest) ≡ Some (e, rest)
unfolding entry_at
entry_again front rest e is =
    ap entry_at (ap (λ (l : List ℕ). l ++ rest) is.parts)
    ∙ ap (λ (r : Option (ℕ × List ℕ)). r >>= λ tag. info_at tag.0 tag.1) (byte_again (tag_of e) (is.info ++ rest))
    ∙ again_info e is.info rest is.spells

-- ---- an entry that takes one place

pub narrow_takes : (left : List ℕ) (e : Entry) (rest : List ℕ) → narrow_at left ≡ Some (e, rest) → (front : List ℕ) × (left ≡ front ++ rest) × (IsEntry front e × (is_wide e ≡ false))
unfolding narrow_at
narrow_takes left e rest read =
    let b = bind_some (entry_at left) narrow_only (e, rest) read in
    let n = test_some (is_wide b.0.0) (Some b.0) (e, rest) b.2 in
    let same = pair_is b.0.0 e b.0.1 rest n.1 in
    let t = entry_takes left b.0.0 b.0.1 b.1 in
    subst (λ (f : Entry). (front : List ℕ) × (left ≡ front ++ rest) × (IsEntry front f × (is_wide f ≡ false))) same.0
    (t.0, t.1 ∙ ap (λ (l : List ℕ). t.0 ++ l) same.1, (t.2, n.0))

pub narrow_again : (front rest : List ℕ) (e : Entry) → IsEntry front e × (is_wide e ≡ false) → narrow_at (front ++ rest) ≡ Some (e, rest)
unfolding narrow_at
narrow_again front rest e is = ap (λ (r : Option (Entry × List ℕ)). r >>= narrow_only) (entry_again front rest e is.0) ∙ ap (λ (b : Bool). if b then None else and_left e rest) is.1

-- ---- the count

pub count_takes : (left : List ℕ) (n : ℕ) (rest : List ℕ) → count_at left ≡ Some (n, rest) → (front : List ℕ) × (left ≡ front ++ rest) × (IsBig 2 front n × (0 < n))
unfolding count_at
count_takes left n rest read =
    let b = bind_some (number_at 2 left) (λ n. if nat_eq n.0 0 then None else Some n) (n, rest) read in
    let t = test_some (nat_eq b.0.0 0) (Some b.0) (n, rest) b.2 in
    let same = pair_is b.0.0 n b.0.1 rest t.1 in
    let size = number_takes 2 left b.0.0 b.0.1 b.1 in
    subst (λ (k : ℕ). (front : List ℕ) × (left ≡ front ++ rest) × (IsBig 2 front k × (0 < k))) same.0
    (size.0, size.1 ∙ ap (λ (l : List ℕ). size.0 ++ l) same.1, (size.2, some b.0.0 t.0))
  where
    some : (k : ℕ) → nat_eq k 0 ≡ false → 0 < k
    some k e = grind (arith, nat_tests)

pub count_again : (front rest : List ℕ) (n : ℕ) → IsBig 2 front n × (0 < n) → count_at (front ++ rest) ≡ Some (n, rest)
unfolding count_at
count_again front rest n is =
    ap (λ (r : Option (ℕ × List ℕ)). r >>= λ n. if nat_eq n.0 0 then None else Some n) (number_again 2 front rest n is.0)
    ∙ ap (λ (b : Bool). if b then None else and_left n rest) (none n is.1)
  where
    none : (k : ℕ) → 0 < k → nat_eq k 0 ≡ false
    none k some = grind (arith, nat_tests)
