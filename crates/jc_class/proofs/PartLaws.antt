-- Each part of a class file is read exactly where its form spells one.
use Rattle.std.proofs.Common.{◌≡◌, ◌≢◌, ◌⊎◌, inl, inr, ⊎_elim, ℕ, Bool, true, false, cond, ◌&&◌, ◌||◌, nat_eq, List, [], ◌∷◌, ◌++◌, length, take, bit_and}
use Rattle.std.specs.Prelude.{codes, bytes_eq, not}
use Rattle.std.proofs.Common.{Option, Some, None, is_some, refl, sym, ◌∙◌, ap, subst}
use Rattle.std.proofs.lemmas.Bool.{eqb-true, eqb-false, ltb-true, lt-ltb, and_parts, and_from, true≢false}
use Rattle.std.proofs.lemmas.List.{take_at}
use Rattle.std.proofs.lemmas.Option.{same_Some}
use Rattle.jc_bytes.specs.Counted.{counted}
use Rattle.jc_bytes.specs.Decoder.{IsBig, first, number_at}
use Rattle.jc_bytes.specs.Deciding.{is_modified_text, is_field_text, is_method_text}
use Rattle.jc_bytes.specs.Grammar.{Grammar, Agrees}
use Rattle.jc_bytes.specs.ItemForms.{number_where}
use Rattle.jc_bytes.specs.Parsing.{Parsed, item}
use Rattle.jc_bytes.proofs.CountedLaws.{agrees_number, agrees_piece, agrees_counted}
use Rattle.jc_bytes.proofs.DecoderLaws.{bind_some, guard_some, first_takes, first_again, number_takes, number_again}
use Rattle.jc_bytes.proofs.DecidingLaws.{Decides, modified_decided, field_text_decided, method_text_decided}
use Rattle.jc_bytes.proofs.GrammarLaws.{agrees_nothing, agrees_item, agrees_followed}
use Rattle.jc_bytes.proofs.TextEqualLaws.{bytes_are, same_bytes}
use Rattle.jc_pool.specs.Lookup.{utf8_of, class_name_of}
use Rattle.jc_pool.specs.Pool.{PoolValue}
use Rattle.jc_class.specs.declared.class_file.Attribute.{Attribute}
use Rattle.jc_class.specs.declared.item.Named.{Named}
use Rattle.jc_class.specs.declared.item.Named.TheVariants as named
use Rattle.jc_class.specs.ClassFormat.{HasText, HasClass, HasSuper, HasFieldDescriptor, HasMethodDescriptor, IsConstant, NamesPlace}
use Rattle.jc_class.specs.ClassFormat.{attribute, member_of, member, field_piece, field_attribute, field}
use Rattle.jc_class.specs.ItemReading.{passes, has_class, names, number_if, names_place, is_constant, field_piece_at}
use Rattle.jc_class.specs.ClassReading.{named_at, attribute_at, attributes_at, member_at, field_attribute_at, field_at, method_at}

-- ---- what a place names

passes_decided : (test : List ℕ → Bool) (Fact : List ℕ → Type 0) → ((text : List ℕ) → Decides (test text) (Fact text))
    → (there : Option (List ℕ)) → Decides (passes test there) ((text : List ℕ) × (there ≡ Some text) × Fact text)
passes_decided test Fact d None = record { to = λ h. absurd cc; back = λ t. absurd (none_some t.1) }
  where
    none_some : {x : List ℕ} → None ≡ Some x → ⊥
    none_some e = cc
passes_decided test Fact d (Some text) = record {
  to = λ h. (text, refl, (d text).to h);
  back = λ t. (d text).back (subst Fact (sym (same_Some text t.0 t.1)) t.2);
}

text_decided : (there : Option (List ℕ)) → Decides (is_some there) ((text : List ℕ) × (there ≡ Some text))
text_decided None = record { to = λ h. absurd cc; back = λ t. absurd (none_some t.1) }
  where
    none_some : {x : List ℕ} → None ≡ Some x → ⊥
    none_some e = cc
text_decided (Some text) = record { to = λ h. (text, refl); back = λ t. refl }

class_decided : (pool : PoolValue) (place : ℕ) → Decides (has_class pool place) (HasClass pool place)
unfolding has_class
class_decided pool place = passes_decided is_modified_text _ modified_decided (class_name_of pool place)

-- what the place is to name
abbrev pub Names : PoolValue → Named → ℕ → Type 0
Names pool named.Text place = HasText pool place
Names pool named.Class place = HasClass pool place
Names pool named.ClassOrNone place = HasSuper pool place
Names pool named.FieldDescriptor place = HasFieldDescriptor pool place
Names pool named.MethodDescriptor place = HasMethodDescriptor pool place

super_decided : (test : Bool) (Fact : Type 0) (place : ℕ) → Decides test Fact → Decides (nat_eq place 0 || test) ((place ≡ 0) ⊎ Fact)
super_decided test Fact place d = by (nat_eq place 0) refl
  where
    by : (none : Bool) → nat_eq place 0 ≡ none → Decides (none || test) ((place ≡ 0) ⊎ Fact)
    by true is = record { to = λ h. inl (eqb-true place 0 is); back = λ h. refl }
    by false is = record { to = λ h. inr (d.to h); back = λ h. ⊎_elim (λ zero. absurd (eqb-false place 0 is zero)) (λ fact. d.back fact) h }

names_decided : (pool : PoolValue) (what : Named) (place : ℕ) → Decides (names pool what place) (Names pool what place)
unfolding names
names_decided pool named.Text place = text_decided (utf8_of pool place)
names_decided pool named.Class place = class_decided pool place
names_decided pool named.ClassOrNone place = super_decided (has_class pool place) (HasClass pool place) place (class_decided pool place)
names_decided pool named.FieldDescriptor place = passes_decided is_field_text _ field_text_decided (utf8_of pool place)
names_decided pool named.MethodDescriptor place = passes_decided is_method_text _ method_text_decided (utf8_of pool place)

-- ---- items

module _ (test : ℕ → Bool) (Fact : ℕ → Type 0) (d : (n : ℕ) → Decides (test n) (Fact n)) where
  if_takes : (bytes : List ℕ) (x : ℕ) (left : List ℕ) → number_if test bytes ≡ Some (x, left)
      → (front : List ℕ) × (bytes ≡ front ++ left) × (IsBig 2 front x × Fact x)
  unfolding number_if
  if_takes bytes x left e =
      let read = bind_some (number_at 2 bytes) (λ n. cond (test n.0) (Some n) None) (x, left) e in
      let kept = guard_some (test read.0.0) (Some read.0) (x, left) read.2 in
      let t = number_takes 2 bytes x left (read.1 ∙ kept.1) in
      let same = same_Some read.0 (x, left) kept.1 in
      (t.0, t.1, (t.2, subst Fact (ap (λ (p : ℕ × List ℕ). p.0) same) ((d read.0.0).to kept.0)))

  if_again : (front rest : List ℕ) (x : ℕ) → (IsBig 2 front x × Fact x) → number_if test (front ++ rest) ≡ Some (x, rest)
  unfolding number_if
  if_again front rest x is = rw (number_again 2 front rest x is.0, (d x).back is.1) refl

  agrees_number_where : Agrees (number_where Fact) (item (number_if test))
  agrees_number_where = agrees_item (λ bytes n. IsBig 2 bytes n × Fact n) (number_if test) if_takes if_again

pub agrees_named : (pool : PoolValue) (what : Named) → Agrees (number_where (Names pool what)) (named_at pool what)
agrees_named pool what = agrees_number_where (names pool what) (Names pool what) (names_decided pool what)

-- ---- the parts

pub agrees_attribute : (pool : PoolValue) → Agrees (attribute (HasText pool)) (attribute_at pool)
unfolding attribute_at
agrees_attribute pool =
    agrees_followed _ _ _ _ (agrees_named pool named.Text) (λ name.
    agrees_followed _ _ _ _ (agrees_number 4) (λ size.
    agrees_followed _ _ _ _ (agrees_piece size) (λ body.
    agrees_nothing (record { name = name; body = body }))))

pub agrees_attributes : (pool : PoolValue) → Agrees (counted (attribute (HasText pool))) (attributes_at pool)
agrees_attributes pool = agrees_counted (attribute (HasText pool)) (attribute_at pool) (agrees_attribute pool)

-- a field or a method, whose attributes are read as their form says
agrees_member : (pool : PoolValue) (what : Named) (of : ℕ → Grammar Attribute) (of_at : ℕ → List ℕ → Parsed Attribute)
    → ((flags : ℕ) → Agrees (of flags) (of_at flags)) → Agrees (member_of (HasText pool) (Names pool what) of) (member_at pool what of_at)
agrees_member pool what of of_at each =
    agrees_followed _ _ _ _ (agrees_number 2) (λ flags.
    agrees_followed _ _ _ _ (agrees_named pool named.Text) (λ name.
    agrees_followed _ _ _ _ (agrees_named pool what) (λ desc.
    agrees_followed _ _ _ _ (agrees_counted (of flags) (of_at flags) (each flags)) (λ attributes.
    agrees_nothing (record { flags = flags; name = name; desc = desc; attributes = attributes })))))

pub agrees_method : (pool : PoolValue) → Agrees (member (HasText pool) (HasMethodDescriptor pool)) (method_at pool)
unfolding method_at
agrees_method pool =
    agrees_member pool named.MethodDescriptor (λ flags. attribute (HasText pool)) (λ flags. attribute_at pool) (λ flags. agrees_attribute pool)

-- ---- the constant of a static field

place_decided : (pool : PoolValue) (bytes : List ℕ) → Decides (names_place pool bytes) (NamesPlace pool bytes)
unfolding names_place
place_decided pool [] = record { to = λ h. tt; back = λ h. refl }
place_decided pool (a ∷ []) = record { to = λ h. tt; back = λ h. refl }
place_decided pool (high ∷ low ∷ []) = record { to = λ h. ltb-true _ _ h; back = λ h. lt-ltb _ _ h }
place_decided pool (a ∷ b ∷ c ∷ bytes) = record { to = λ h. tt; back = λ h. refl }

text_is : (name : List ℕ) (there : Option (List ℕ)) → Decides (passes (λ text. bytes_eq text name) there) (there ≡ Some name)
text_is name None = record { to = λ h. absurd cc; back = λ h. absurd cc }
text_is name (Some text) = record { to = λ h. ap Some (bytes_are text name h); back = λ h. same_bytes text name (same_Some text name h) }

set_decided : (n : ℕ) → Decides (not (nat_eq n 0)) (n ≢ 0)
set_decided n = by (nat_eq n 0) refl
  where
    by : (none : Bool) → nat_eq n 0 ≡ none → Decides (not none) (n ≢ 0)
    by true is = record { to = λ h. absurd cc; back = λ h. absurd (h (eqb-true n 0 is)) }
    by false is = record { to = λ h. eqb-false n 0 is; back = λ h. refl }

both_decided : {P Q : Type 0} (a b : Bool) → Decides a P → Decides b Q → Decides (a && b) (P × Q)
both_decided a b p q = record {
  to = λ h. let both = and_parts a b h in (p.to both.0, q.to both.1);
  back = λ h. and_from a b (p.back h.0) (q.back h.1);
}

constant_decided : (pool : PoolValue) (flags name : ℕ) → Decides (is_constant pool flags name) (IsConstant pool flags name)
unfolding is_constant
constant_decided pool flags name =
    both_decided _ _ (set_decided (bit_and flags 0x0008)) (text_is (codes "ConstantValue") (utf8_of pool name))

-- a fact that is asked for where another one holds
asked_decided : {P Q : Type 0} (a b : Bool) → Decides a P → Decides b Q → Decides (b || not a) (P → Q)
asked_decided true true p q = record { to = λ h is. q.to refl; back = λ h. refl }
asked_decided true false p q = record { to = λ h. absurd cc; back = λ h. q.back (h (p.to refl)) }
asked_decided false true p q = record { to = λ h is. q.to refl; back = λ h. refl }
asked_decided false false p q = record { to = λ h is. absurd (true≢false (sym (p.back is))); back = λ h. refl }

module _ (pool : PoolValue) (flags name size : ℕ) where
  abbrev Fact : List ℕ → Type 0
  Fact body = IsConstant pool flags name → NamesPlace pool body

  test_decided : (body : List ℕ) → Decides (names_place pool body || not (is_constant pool flags name)) (Fact body)
  test_decided body = asked_decided _ _ (constant_decided pool flags name) (place_decided pool body)

  piece_takes : (bytes body left : List ℕ) → field_piece_at pool flags name size bytes ≡ Some (body, left)
      → (front : List ℕ) × (bytes ≡ front ++ left) × ((length front ≡ size) × (front ≡ body) × Fact body)
  unfolding field_piece_at
  piece_takes bytes body left e =
      let read = bind_some (first size (take size) bytes)
      (λ p. cond (names_place pool p.0 || not (is_constant pool flags name)) (Some p) None) (body, left) e in
      let kept = guard_some (names_place pool read.0.0 || not (is_constant pool flags name)) (Some read.0) (body, left) read.2 in
      let same = same_Some read.0 (body, left) kept.1 in
      let t = first_takes size (take size) bytes body left (read.1 ∙ kept.1) in
      let front_is = sym (take_at t.text left size t.size) ∙ ap (take size) (sym t.parts) ∙ t.value in
      (t.text, t.parts, (t.size, front_is, subst Fact (ap (λ (p : List ℕ × List ℕ). p.0) same) ((test_decided read.0.0).to kept.0)))

  piece_again : (front rest body : List ℕ) → ((length front ≡ size) × (front ≡ body) × Fact body)
      → field_piece_at pool flags name size (front ++ rest) ≡ Some (body, rest)
  unfolding field_piece_at
  piece_again front rest body is =
      rw (first_again size (take size) front rest body is.0 (take_at front rest size is.0 ∙ is.1), (test_decided body).back is.2) refl

  agrees_field_piece : Agrees (field_piece pool flags name size) (item (field_piece_at pool flags name size))
  agrees_field_piece = agrees_item (λ bytes body. (length bytes ≡ size) × (bytes ≡ body) × Fact body) (field_piece_at pool flags name size) piece_takes piece_again

agrees_field_attribute : (pool : PoolValue) (flags : ℕ) → Agrees (field_attribute pool flags) (field_attribute_at pool flags)
unfolding field_attribute_at
agrees_field_attribute pool flags =
    agrees_followed _ _ _ _ (agrees_named pool named.Text) (λ name.
    agrees_followed _ _ _ _ (agrees_number 4) (λ size.
    agrees_followed _ _ _ _ (agrees_field_piece pool flags name size) (λ body.
    agrees_nothing (record { name = name; body = body }))))

pub agrees_field : (pool : PoolValue) → Agrees (field pool) (field_at pool)
unfolding field_at
agrees_field pool = agrees_member pool named.FieldDescriptor (field_attribute pool) (field_attribute_at pool) (agrees_field_attribute pool)
