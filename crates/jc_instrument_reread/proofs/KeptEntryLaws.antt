-- What stands in a constant pool stands there still when the pool has grown.
use Rattle.std.specs.Prelude.{⊤}
use Rattle.std.proofs.Common.{◌≡◌, inl, inr, ℕ, zero, suc, ◌<◌, ℤ, pos, List, [], Option, Some, None, refl, sym, ◌∙◌, ap, subst, arith, option_and_then}
use Rattle.std.specs.Option.{option_map}
use Rattle.std.proofs.lemmas.Option.{none-some, same_Some}
use Rattle.jc_bytes.proofs.DecoderLaws.{bind_some}
use Rattle.jc_bytes.specs.Decoder.{◌>>=◌}
use Rattle.jc_bytes.specs.Descriptor.{Array, Boolean, IsFieldDescriptor, IsMethodDescriptor}
use Rattle.jc_methods.specs.InsnUse.{pool_place, IsOfTwoSlots}
use Rattle.jc_methods.specs.declared.body.What.{What}
use Rattle.jc_methods.specs.declared.body.What.TheVariants as whats
use Rattle.jc_methods.specs.declared.insn.Insn.{Insn}
use Rattle.jc_methods.specs.declared.insn.Insn.TheVariants as insns
use Rattle.jc_methods.specs.Opcode as opcode
use Rattle.jc_methods.specs.declared.probe_members.Fetch.{Fetch}
use Rattle.jc_methods.specs.declared.probe_members.Fetch.TheVariants as fetches
use Rattle.jc_pool.specs.declared.constant.ConstText.{ConstText}
use Rattle.jc_pool.specs.declared.constant.ConstText.TheVariants as constants
use Rattle.jc_pool.specs.declared.entry.Entry.{Entry}
use Rattle.jc_pool.specs.declared.entry.Entry.TheVariants as entry
use Rattle.jc_pool.specs.Adding.{Extends}
use Rattle.jc_pool.specs.Lookup.{entry_of, integer_in, integer_of, Computed, long_in, long_of, string_of, utf8_of, class_in, class_name_of, Signature, signature_of, Member, dynamic_of, ref_in, reference_of, member_in, member_of, computed_in, computed_of, where_named, const_in, const_of}
use Rattle.jc_pool.specs.Pool.{PoolValue}
use Rattle.jc_pool.specs.declared.index.Naming.TheVariants as naming
use Rattle.jc_pool.proofs.KeyPlaceLaws.{has_name}
use Rattle.jc_pool.proofs.AddedLaws.{entry_kept, utf8_kept}
use Rattle.jc_pool.proofs.AddedMemberLaws.{signature_kept, member_kept}
use Rattle.jc_body.proofs.ComputedLaws.{linked_by, computed_by, not_computed}
use Rattle.jc_body.specs.Standing.{Found, of_class, of_computed, of_member, of_constant, found_in, found_at, what_of, what_at, EntrySuits, PlaceSuits, HasRightEntry}
use Rattle.jc_methods.specs.ProbeMembers.{constant_type, data_type, init_type}
use Rattle.jc_emit.specs.Marks.{invokestatic, prelude_size, prelude_insn}
use Rattle.jc_emit.specs.Added.{giver_of}
use Rattle.jc_instrument_reread.specs.Written.{array_constant, init_method, HasGiver}
use Rattle.jc_instrument_reread.specs.ReadCode.{code_places}
use Rattle.jc_instrument_code.specs.declared.code.CodePlaces.{CodePlaces}
use Rattle.jc_bytes.proofs.DecidingLaws.{field_text_decided}
use Rattle.jc_bytes.specs.Deciding.{after_types}
use Rattle.jc_bytes.specs.DescriptorReading.{after_type, after_brackets, after_name}

-- ---- by entries

-- what an entry stands for
abbrev found_by : PoolValue → Entry → Option Found
found_by pool e = found_in (computed_in pool e) (member_in pool e) (class_in e >>= λ name. utf8_of pool name) (const_in pool e)

found_is : (pool : PoolValue) (place : ℕ) (e : Entry) → entry_of pool place ≡ Some e → found_at pool place ≡ found_by pool e
unfolding found_at computed_of member_of class_name_of const_of
found_is pool place e is =
    ap (λ (o : Option Entry). found_in (o >>= computed_in pool) (o >>= member_in pool) (o >>= λ x. class_in x >>= λ name. utf8_of pool name) (o >>= const_in pool)) is

found_none : (pool : PoolValue) (place : ℕ) → entry_of pool place ≡ None → found_at pool place ≡ None
unfolding found_at computed_of member_of class_name_of const_of
found_none pool place is =
    ap (λ (o : Option Entry). found_in (o >>= computed_in pool) (o >>= member_in pool) (o >>= λ x. class_in x >>= λ name. utf8_of pool name) (o >>= const_in pool)) is

member_is : (pool : PoolValue) (place : ℕ) (e : Entry) → entry_of pool place ≡ Some e → member_of pool place ≡ member_in pool e
unfolding member_of
member_is pool place e is = ap (λ (o : Option Entry). o >>= member_in pool) is

reference_is : (pool : PoolValue) (place : ℕ) (e : Entry) → entry_of pool place ≡ Some e → reference_of pool place ≡ ref_in pool e
unfolding reference_of
reference_is pool place e is = ap (λ (o : Option Entry). o >>= ref_in pool) is

reference_none : (pool : PoolValue) (place : ℕ) → entry_of pool place ≡ None → reference_of pool place ≡ None
unfolding reference_of
reference_none pool place is = ap (λ (o : Option Entry). o >>= ref_in pool) is

module _ (old new : PoolValue) (more : Extends old new) where
  -- ---- members and references

  in_kept : (e : Entry) (place : ℕ) (m : Member) → entry_of old place ≡ Some e → member_in old e ≡ Some m → member_in new e ≡ Some m
  in_kept e place m at is =
      sym (member_is new place e (entry_kept old new e place more at)) ∙ member_kept old new m place more (member_is old place e at ∙ is)

  ref_in_kept : (e : Entry) (place : ℕ) (m : Member) → entry_of old place ≡ Some e → ref_in old e ≡ Some m → ref_in new e ≡ Some m
  ref_in_kept (entry.Fieldref class sig) place m at is = in_kept (entry.Fieldref class sig) place m at is
  ref_in_kept (entry.Methodref class sig) place m at is = in_kept (entry.Methodref class sig) place m at is
  ref_in_kept (entry.InterfaceMethodref class sig) place m at is = in_kept (entry.InterfaceMethodref class sig) place m at is
  ref_in_kept e place m at is = absurd (none-some m is)

  reference_kept : (place : ℕ) (m : Member) → reference_of old place ≡ Some m → reference_of new place ≡ Some m
  reference_kept place m is = by (entry_of old place) refl
    where
      by : (o : Option Entry) → entry_of old place ≡ o → reference_of new place ≡ Some m
      by None at = absurd (none-some m (sym (reference_none old place at) ∙ is))
      by (Some e) at =
          reference_is new place e (entry_kept old new e place more at) ∙ ref_in_kept e place m at (sym (reference_is old place e at) ∙ is)

  -- ---- what is found

  member_found : (e : Entry) (place : ℕ) (found : Found) → entry_of old place ≡ Some e → found_in None (member_in old e) None None ≡ Some found
      → found_in None (member_in new e) None None ≡ Some found
  member_found e place found at is = by (member_in old e) refl is
    where
      by : (o : Option Member) → member_in old e ≡ o → found_in None o None None ≡ Some found → found_in None (member_in new e) None None ≡ Some found
      by None there h = absurd (none-some found h)
      by (Some m) there h = ap (λ (o : Option Member). found_in None o None None) (in_kept e place m at there) ∙ h

  text_found : (c : ConstText) (text : ℕ) (found : Found) → found_in None None None (where_named c (utf8_of old text)) ≡ Some found
      → found_in None None None (where_named c (utf8_of new text)) ≡ Some found
  text_found c text found is = by (utf8_of old text) refl is
    where
      by : (o : Option (List ℕ)) → utf8_of old text ≡ o → found_in None None None (where_named c o) ≡ Some found
          → found_in None None None (where_named c (utf8_of new text)) ≡ Some found
      by None there h = absurd (none-some found h)
      by (Some t) there h = ap (λ (o : Option (List ℕ)). found_in None None None (where_named c o)) (utf8_kept old new t text more there) ∙ h

  class_found : (name : ℕ) (found : Found) → found_in None None (utf8_of old name) (where_named constants.Class (utf8_of old name)) ≡ Some found
      → found_in None None (utf8_of new name) (where_named constants.Class (utf8_of new name)) ≡ Some found
  class_found name found is = by (utf8_of old name) refl is
    where
      by : (o : Option (List ℕ)) → utf8_of old name ≡ o → found_in None None o (where_named constants.Class o) ≡ Some found
          → found_in None None (utf8_of new name) (where_named constants.Class (utf8_of new name)) ≡ Some found
      by None there h = absurd (none-some found h)
      by (Some t) there h =
          ap (λ (o : Option (List ℕ)). found_in None None o (where_named constants.Class o)) (utf8_kept old new t name more there) ∙ h

  handle_found : (reference : ℕ) (found : Found) → found_in None None None (where_named constants.Handle (reference_of old reference)) ≡ Some found
      → found_in None None None (where_named constants.Handle (reference_of new reference)) ≡ Some found
  handle_found reference found is = by (reference_of old reference) refl is
    where
      by : (o : Option Member) → reference_of old reference ≡ o → found_in None None None (where_named constants.Handle o) ≡ Some found
          → found_in None None None (where_named constants.Handle (reference_of new reference)) ≡ Some found
      by None there h = absurd (none-some found h)
      by (Some m) there h = ap (λ (o : Option Member). found_in None None None (where_named constants.Handle o)) (reference_kept reference m there) ∙ h

  computed_found : (bootstrap sig : ℕ) (found : Found) → found_by old (entry.Dynamic bootstrap sig) ≡ Some found
      → found_by new (entry.Dynamic bootstrap sig) ≡ Some found
  unfolding dynamic_of
  computed_found bootstrap sig found is = by (signature_of old sig) refl is
    where
      by : (o : Option Signature) → signature_of old sig ≡ o
          → found_in (option_map (computed_by bootstrap) o) (o >>= λ s. Some (linked_by 17 s)) None (where_named constants.Computed o) ≡ Some found
          → found_by new (entry.Dynamic bootstrap sig) ≡ Some found
      by None there h = absurd (none-some found h)
      by (Some s) there h =
          ap (λ (o : Option Signature). found_in (option_map (computed_by bootstrap) o) (o >>= λ s. Some (linked_by 17 s)) None (where_named constants.Computed o))
          (signature_kept old new s sig more there)
          ∙ h

  entry_found : (e : Entry) (place : ℕ) (found : Found) → entry_of old place ≡ Some e → found_by old e ≡ Some found → found_by new e ≡ Some found
  entry_found (entry.Utf8 text) place found at is = absurd (none-some found is)
  entry_found (entry.Integer value) place found at is = is
  entry_found (entry.Float bits) place found at is = is
  entry_found (entry.Long value) place found at is = is
  entry_found (entry.Double bits) place found at is = is
  entry_found (entry.Class name) place found at is = class_found name found is
  entry_found (entry.String text) place found at is = text_found constants.Text text found is
  entry_found (entry.Fieldref class sig) place found at is = member_found (entry.Fieldref class sig) place found at is
  entry_found (entry.Methodref class sig) place found at is = member_found (entry.Methodref class sig) place found at is
  entry_found (entry.InterfaceMethodref class sig) place found at is = member_found (entry.InterfaceMethodref class sig) place found at is
  entry_found (entry.NameAndType name desc) place found at is = absurd (none-some found is)
  entry_found (entry.MethodHandle kind reference) place found at is = handle_found reference found is
  entry_found (entry.MethodType desc) place found at is = text_found constants.MethodKind desc found is
  entry_found (entry.Dynamic bootstrap sig) place found at is = computed_found bootstrap sig found is
  entry_found (entry.InvokeDynamic bootstrap sig) place found at is = member_found (entry.InvokeDynamic bootstrap sig) place found at is
  entry_found (entry.Module name) place found at is = absurd (none-some found is)
  entry_found (entry.Package name) place found at is = absurd (none-some found is)

  pub found_kept : (place : ℕ) (found : Found) → found_at old place ≡ Some found → found_at new place ≡ Some found
  found_kept place found is = by (entry_of old place) refl
    where
      by : (o : Option Entry) → entry_of old place ≡ o → found_at new place ≡ Some found
      by None at = absurd (none-some found (sym (found_none old place at) ∙ is))
      by (Some e) at =
          found_is new place e (entry_kept old new e place more at) ∙ entry_found e place found at (sym (found_is old place e at) ∙ is)

  -- ---- what is used

  pub what_kept : (place : ℕ) (what : What) → what_at old place ≡ Some what → what_at new place ≡ Some what
  what_kept place what is = by (found_at old place) refl is
    where
      by : (o : Option Found) → found_at old place ≡ o → option_and_then what_of o ≡ Some what → what_at new place ≡ Some what
      by None there h = absurd (none-some what h)
      by (Some found) there h = ap (option_and_then what_of) (found_kept place found there) ∙ h

  pub right_kept : (major : ℕ) (insn : Insn) → HasRightEntry major old insn → HasRightEntry major new insn
  right_kept major insn right = by (pool_place insn) right
    where
      there : (place : ℕ) (o : Option Found) → found_at old place ≡ o → EntrySuits major insn o → EntrySuits major insn (found_at new place)
      there place None is suits = absurd suits
      there place (Some found) is suits = subst (EntrySuits major insn) (sym (found_kept place found is)) suits

      by : (o : Option ℕ) → PlaceSuits major old insn o → PlaceSuits major new insn o
      by None suits = tt
      by (Some place) suits = there place (found_at old place) refl suits

-- ---- members and constants

pub member_found_at : (pool : PoolValue) (place : ℕ) (m : Member) → member_of pool place ≡ Some m → (m.tag ≡ 17 → ⊥)
    → found_at pool place ≡ Some (of_member m)
unfolding found_at
member_found_at pool place m is other =
    λ i. found_in (not_computed pool place m is other i) (is i) (class_name_of pool place) (const_of pool place)

long_entry : (e : Entry) (value : ℤ) → long_in e ≡ Some value → e ≡ entry.Long value
long_entry (entry.Long other) value is = ap entry.Long (same_Some other value is)
long_entry e value is = absurd (none-some value is)

pub long_found_at : (pool : PoolValue) (place : ℕ) (value : ℤ) → long_of pool place ≡ Some value → found_at pool place ≡ Some (of_constant (constants.Long value))
unfolding long_of
long_found_at pool place value is =
    let e = bind_some (entry_of pool place) long_in value is in
    found_is pool place (entry.Long value) (e.1 ∙ ap Some (long_entry e.0 value e.2))

pub string_found_at : (pool : PoolValue) (place : ℕ) (text : List ℕ) → string_of pool place ≡ Some text → found_at pool place ≡ Some (of_constant constants.Text)
string_found_at pool place text is =
    let n = has_name naming.String pool place text is in
    found_is pool place (entry.String n.0) n.1 ∙ ap (λ (o : Option (List ℕ)). found_in None None None (where_named constants.Text o)) n.2

integer_entry : (e : Entry) (value : ℤ) → integer_in e ≡ Some value → e ≡ entry.Integer value
integer_entry (entry.Integer other) value is = ap entry.Integer (same_Some other value is)
integer_entry e value is = absurd (none-some value is)

pub integer_found_at : (pool : PoolValue) (place : ℕ) (value : ℤ) → integer_of pool place ≡ Some value
    → found_at pool place ≡ Some (of_constant (constants.Int value))
unfolding integer_of
integer_found_at pool place value is =
    let e = bind_some (entry_of pool place) integer_in value is in
    found_is pool place (entry.Integer value) (e.1 ∙ ap Some (integer_entry e.0 value e.2))

pub class_found_at : (pool : PoolValue) (place : ℕ) (name : List ℕ) → class_name_of pool place ≡ Some name → found_at pool place ≡ Some (of_class name)
class_found_at pool place name is =
    let n = has_name naming.Class pool place name is in
    found_is pool place (entry.Class n.0) n.1
    ∙ ap (λ (o : Option (List ℕ)). found_in None None o (where_named constants.Class o)) n.2

pub computed_found_at : (pool : PoolValue) (place : ℕ) (c : Computed) → computed_of pool place ≡ Some c → found_at pool place ≡ Some (of_computed c)
unfolding found_at
computed_found_at pool place c is = λ i. found_in (is i) (member_of pool place) (class_name_of pool place) (const_of pool place)

-- ---- the method that the prelude calls

pub init_described : IsMethodDescriptor init_type
init_described = (
  record { parameters = []; returns = Some (Array Boolean) },
  record {
    parameters = tt;
    returns = record { named = tt; few = omega arith };
    spelled = refl;
  },
)

module _ (pool : PoolValue) (owner : List ℕ) (call : ℕ) (is : member_of pool call ≡ Some (init_method owner)) where
  call_found : found_at pool call ≡ Some (of_member (init_method owner))
  call_found = member_found_at pool call (init_method owner) is (λ e. omega (arith, e))

  call_what : what_at pool call ≡ Some (giver_of fetches.Member owner 0)
  call_what = ap (option_and_then what_of) call_found

  call_right : (major : ℕ) → HasRightEntry major pool (invokestatic call)
  call_right major = subst (EntrySuits major (invokestatic call)) (sym call_found) (record { kind = inr (omega arith, init_described); tag = λ e. absurd (omega (arith, e)) })

-- ---- the constant that the prelude loads, and the class to which it is cast

constant_described : IsFieldDescriptor constant_type
unfolding after_types after_type after_brackets after_name
constant_described = (field_text_decided constant_type).to refl

constant_small : IsOfTwoSlots constant_type → ⊥
constant_small (inl e) = cc
constant_small (inr e) = cc

-- the class of the array is used, where the prelude casts a constant to it
abbrev pub HasArray : Fetch → PoolValue → (place : ℕ) → Type 0
HasArray fetches.Member pool place = ⊤
HasArray fetches.Constant pool place = what_at pool place ≡ Some (whats.Class data_type)

module _ (pool : PoolValue) (owner : List ℕ) (bootstrap : ℕ) (places : CodePlaces) where
  -- what gives the array of probes
  pub giver_what : (fetch : Fetch) → HasGiver fetch pool owner bootstrap places → what_at pool places.giver ≡ Some (giver_of fetch owner bootstrap)
  giver_what fetches.Member is = call_what pool owner places.giver is
  giver_what fetches.Constant is = ap (option_and_then what_of) (computed_found_at pool places.giver (array_constant bootstrap) is.0)

  -- the class of the array, where it is named
  pub array_what : (fetch : Fetch) → HasGiver fetch pool owner bootstrap places → HasArray fetch pool places.array
  array_what fetches.Member is = tt
  array_what fetches.Constant is = ap (option_and_then what_of) (class_found_at pool places.array data_type is.1)

  -- each instruction of the prelude names an entry of the kind that it needs
  pub prelude_right : (fetch : Fetch) → HasGiver fetch pool owner bootstrap places → (integer : ℕ → ℕ) (major v k : ℕ) → k < prelude_size fetch
      → HasRightEntry major pool (prelude_insn fetch (code_places places integer) v k)
  prelude_right fetches.Member is integer major v zero lt = call_right pool owner places.giver is major
  prelude_right fetches.Member is integer major v (suc zero) lt = tt
  prelude_right fetches.Member is integer major v (suc (suc k)) lt = absurd (omega (arith, lt))
  prelude_right fetches.Constant is integer major v zero lt =
      subst (EntrySuits major (insns.Constant places.giver)) (sym (computed_found_at pool places.giver (array_constant bootstrap) is.0))
      (record { kind = (constant_described, constant_small); tag = tt })
  prelude_right fetches.Constant is integer major v (suc zero) lt =
      subst (EntrySuits major (insns.OfClass opcode.checkcast places.array)) (sym (class_found_at pool places.array data_type is.1))
      (record { kind = tt; tag = tt })
  prelude_right fetches.Constant is integer major v (suc (suc zero)) lt = tt
  prelude_right fetches.Constant is integer major v (suc (suc (suc k))) lt = absurd (omega (arith, lt))

-- ---- Integers

pub integer_what : (pool : PoolValue) (place n : ℕ) → integer_of pool place ≡ Some (pos n) → what_at pool place ≡ Some (whats.Int (pos n))
integer_what pool place n is = ap (option_and_then what_of) (integer_found_at pool place (pos n) is)

pub integer_right : (pool : PoolValue) (place n major : ℕ) → integer_of pool place ≡ Some (pos n) → HasRightEntry major pool (insns.Constant place)
integer_right pool place n major is =
    subst (EntrySuits major (insns.Constant place)) (sym (integer_found_at pool place (pos n) is)) (record { kind = tt; tag = tt })
