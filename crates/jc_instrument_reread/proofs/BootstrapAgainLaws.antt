-- The bootstrap method that is added to a class is read as the one that gives its probe array.
use Rattle.std.proofs.Common.{◌≡◌, ◌⊎◌, inl, inr, ℕ, ℤ, ◌+◌, ◌<◌, ◌≤◌, List, [], ◌∷◌, ◌++◌, length, get_or, Some, pos, codes, refl, sym, ◌∙◌, ap, subst, arith}
use Rattle.std.specs.Prelude.{◌≢◌, slice_get}
use Rattle.std.specs.Int.Bits.{bit_and}
use Rattle.std.specs.List.{AllByRecursion}
use Rattle.std.specs.Option.{option_and_then}
use Rattle.std.proofs.lemmas.Bool.{cases_lt}
use Rattle.std.proofs.lemmas.List.{append-nil}
use Rattle.std.proofs.lemmas.List.Sums.{sum_by-cons}
use Rattle.std.proofs.lemmas.Option.{none-some, same_Some, slice_get_within}
use Rattle.jc_bytes.proofs.BooleanLaws.{stands_in}
use Rattle.jc_bytes.proofs.DecidingLaws.{field_text_decided}
use Rattle.jc_bytes.specs.BigNumbers.{short}
use Rattle.jc_bytes.specs.Counted.{counted}
use Rattle.jc_bytes.specs.Deciding.{after_types}
use Rattle.jc_bytes.specs.Descriptor.{FieldType, Array, Boolean, Double, Long, MethodType, DescribesMethod, IsFieldDescriptor, field_text, parameter_slots, slots_of}
use Rattle.jc_bytes.specs.DescriptorReading.{after_type, after_brackets, after_name}
use Rattle.jc_methods.specs.EntryState.{entry_seen}
use Rattle.jc_methods.specs.Flow.{FallsThrough}
use Rattle.jc_methods.specs.InsnUse.{LeadsWithin, LocalsWithin, pool_place}
use Rattle.jc_methods.specs.Opcode as opcode
use Rattle.jc_methods.specs.ProbeMembers.{bootstrap_type, fetch_name, fetch_type, init_flags, init_name, runtime_class}
use Rattle.jc_methods.specs.WellMade.{TakeSlots, what_used}
use Rattle.jc_methods.specs.declared.body.Body.{Body}
use Rattle.jc_methods.specs.declared.body.Use.{Use}
use Rattle.jc_methods.specs.declared.body.What.{What}
use Rattle.jc_methods.specs.declared.body.What.TheVariants as whats
use Rattle.jc_methods.specs.declared.insn.Insn.{Insn}
use Rattle.jc_methods.specs.declared.insn.Insn.TheVariants as insns
use Rattle.jc_methods.specs.declared.probe_members.Fetch.TheVariants as fetches
use Rattle.jc_insn.proofs.ReadBackLaws.{big_short}
use Rattle.jc_pool.specs.Pool.{PoolValue}
use Rattle.jc_pool.specs.declared.constant.ConstText.TheVariants as constants
use Rattle.jc_class.specs.declared.class_file.ClassFile.{ClassFile}
use Rattle.jc_class.specs.declared.class_file.Member.{Member}
use Rattle.jc_body.specs.Attributes.{AreTables}
use Rattle.jc_body.specs.BodyOf.{places_used, AreUsesOf, IsBodyOfAnySize}
use Rattle.jc_body.specs.CodeForm.{code_form, row, IsCodeText}
use Rattle.jc_body.specs.Coded.{IsCoded, HasCode}
use Rattle.jc_body.specs.StackMap.{BeginsWith, HasFrames}
use Rattle.jc_body.specs.Standing.{Found, of_member, of_constant, what_of, found_at, FoundSuits, EntrySuits, HasRightEntry}
use Rattle.jc_body.specs.declared.coded.Coded.{Coded}
use Rattle.jc_body.specs.declared.items.Tables.{Tables}
use Rattle.jc_body.proofs.ArgumentLaws.{static_take}
use Rattle.jc_body.proofs.UsesLaws.{some_uses, insn_place_used}
use Rattle.jc_emit.specs.Added.{bootstrap_code, init_stack, IsBootstrapBody}
use Rattle.jc_emit.specs.Marks.{push_by}
use Rattle.jc_emit.proofs.PlacedLaws.{flow_push_by, no_targets}
use Rattle.jc_instrument_code.specs.InitText.{bootstrap_bytes, bootstrap_text, count_text, named_places}
use Rattle.jc_instrument_code.proofs.BootstrapLaws.{bootstrap_size}
use Rattle.jc_instrument_code.proofs.InitLaws.{count_few}
use Rattle.jc_instrument_code.specs.declared.init.AddedPlaces.{AddedPlaces}
use Rattle.jc_instrument_reread.specs.InitRead.{bootstrap_coded, bootstrap_items}
use Rattle.jc_instrument_reread.specs.Written.{fetch_method, IsAddedMethod}
use Rattle.jc_instrument_reread.proofs.BootstrapCodeLaws.{bootstrap_spelled}
use Rattle.jc_instrument_reread.proofs.CodedLaws.{form_text}
use Rattle.jc_instrument_reread.proofs.CountLaws.{count_named, count_used}
use Rattle.jc_instrument_reread.proofs.FreeLaws.{AreSound, HasSoundParts, no_subroutine, no_faults}
use Rattle.jc_instrument_reread.proofs.InitAgainLaws.{each_at, fetch_described}
use Rattle.jc_instrument_reread.proofs.KeptEntryLaws.{member_found_at, long_found_at, string_found_at}
use Rattle.jc_instrument_reread.proofs.PushLaws.{loaded_so}
use Rattle.jc_instrument_reread.proofs.TwinItemLaws.{push_by_locals}
use Rattle.jc_instrument_reread.proofs.UsedPlaceLaws.{stands_used}

-- ---- descriptors

-- a type whose descriptor begins with an L is a class
one_slot : (type : FieldType) (bytes : List ℕ) → 76 ∷ bytes ≡ field_text type → slots_of type ≡ 1
one_slot Double bytes e = let first = ap (λ (l : List ℕ). get_or l 0 0) e in absurd (omega (arith, first))
one_slot Long bytes e = let first = ap (λ (l : List ℕ). get_or l 0 0) e in absurd (omega (arith, first))
one_slot type bytes e = refl

lookup_type : IsFieldDescriptor (codes "Ljava/lang/invoke/MethodHandles$Lookup;")
unfolding after_types after_type after_brackets after_name
lookup_type = (field_text_decided (codes "Ljava/lang/invoke/MethodHandles$Lookup;")).to refl

string_type : IsFieldDescriptor (codes "Ljava/lang/String;")
unfolding after_types after_type after_brackets after_name
string_type = (field_text_decided (codes "Ljava/lang/String;")).to refl

class_type : IsFieldDescriptor (codes "Ljava/lang/Class;")
unfolding after_types after_type after_brackets after_name
class_type = (field_text_decided (codes "Ljava/lang/Class;")).to refl

bootstrap_method_type : MethodType
bootstrap_method_type = record { parameters = lookup_type.0 ∷ string_type.0 ∷ class_type.0 ∷ []; returns = Some (Array Boolean) }

bootstrap_described : DescribesMethod bootstrap_type bootstrap_method_type
unfolding bootstrap_method_type
bootstrap_described = record {
  parameters = (lookup_type.1.fits, (string_type.1.fits, (class_type.1.fits, tt)));
  returns = record { named = tt; few = omega arith };
  spelled = λ i. 40 ∷ ((lookup_type.1.spelled i ++ (string_type.1.spelled i ++ (class_type.1.spelled i ++ []))) ++ (41 ∷ 91 ∷ 90 ∷ []));
}

three_slots : parameter_slots bootstrap_method_type ≡ 3
unfolding bootstrap_method_type
three_slots =
    let a = one_slot lookup_type.0 _ lookup_type.1.spelled in
    let b = one_slot string_type.0 _ string_type.1.spelled in
    let c = one_slot class_type.0 _ class_type.1.spelled in
    let x = sum_by-cons slots_of lookup_type.0 (string_type.0 ∷ class_type.0 ∷ []) in
    let y = sum_by-cons slots_of string_type.0 (class_type.0 ∷ []) in
    let z = sum_by-cons slots_of class_type.0 [] in
    omega (arith, a, b, c, x, y, z)

bootstrap_takes : TakeSlots init_flags bootstrap_type 3
bootstrap_takes =
    subst (TakeSlots init_flags bootstrap_type) three_slots
    (static_take init_flags bootstrap_type bootstrap_method_type bootstrap_described (λ e. absurd (omega (arith, e))))

module _ (twin : ClassFile) (owner : List ℕ) (id : ℤ) (count : ℕ) (p : AddedPlaces) (method : Member)
    (w : IsAddedMethod fetches.Constant twin owner id count p method) where
  abbrev pool : PoolValue
  pool = twin.pool

  abbrev pushed : List ℕ
  pushed = count_text p.count count

  abbrev coded : Coded
  coded = bootstrap_coded p count

  -- ---- the attribute

  no_rows : (counted row).Text (short 0) []
  no_rows = (0, short 0, [], sym (append-nil (short 0)), big_short 0 (omega arith), (refl, refl))

  size_is : length (bootstrap_bytes (named_places p) pushed) ≡ 10 + length pushed
  size_is = bootstrap_size (named_places p) pushed

  items_read : (code_form twin.pool).Text (bootstrap_text (named_places p) count) (bootstrap_items p count)
  items_read =
      let size = size_is in
      let few = count_few p.count count in
      form_text twin.pool init_stack 3 (bootstrap_bytes (named_places p) pushed) (short 0) [] [] (omega arith) (omega arith)
      (omega (arith, size, few)) no_rows (omega arith) tt

  text_read : IsCodeText twin.pool (bootstrap_text (named_places p) count) (bootstrap_items p count)
  text_read = record {
    text = items_read;
    some = let size = size_is in omega (arith, size);
    few = let size = size_is in let few = count_few p.count count in omega (arith, size, few);
  }

  has_code : HasCode twin.pool method (bootstrap_text (named_places p) count)
  has_code = record {
    concrete = subst (λ (flags : ℕ). bit_and flags 0x0500 ≢ 0 → ⊥) (sym w.flags) (λ not. not refl);
    single = w.code_is;
  }

  is_coded : IsCoded twin.pool method (bootstrap_coded p count)
  is_coded = record {
    items = record { bytes = bootstrap_text (named_places p) count; code = has_code; text = text_read };
    spelled = bootstrap_spelled (named_places p) count w.code.count w.code.id w.code.name w.code.fetch_method;
  }

  -- ---- instructions

  abbrev Right : Insn → Type 0
  Right insn = HasRightEntry twin.major twin.pool insn

  right_where : (insn : Insn) (place : ℕ) (found : Found) → found_at twin.pool place ≡ Some found → FoundSuits twin.major insn found
      → EntrySuits twin.major insn (found_at twin.pool place)
  right_where insn place found is suits = subst (EntrySuits twin.major insn) (sym is) suits

  fetch_right : Right (insns.Member opcode.invokestatic p.fetch)
  fetch_right = right_where (insns.Member opcode.invokestatic p.fetch) p.fetch (of_member fetch_method) (member_found_at twin.pool p.fetch fetch_method w.fetch_is (λ e. omega (arith, e)))
      (record { kind = inr (omega arith, fetch_described); tag = λ e. absurd (omega (arith, e)) })

  id_right : Right (insns.Constant2 p.id)
  id_right = right_where (insns.Constant2 p.id) p.id (of_constant (constants.Long id)) (long_found_at twin.pool p.id id w.id_is) (record { kind = tt; tag = tt })

  name_right : Right (insns.Constant p.name)
  name_right = right_where (insns.Constant p.name) p.name (of_constant constants.Text) (string_found_at twin.pool p.name owner w.name_is) (record { kind = tt; tag = tt })

  all_right : AllByRecursion Right coded.insns
  all_right = (id_right, (name_right, (count_named twin.pool p.count count twin.major w.count_is, (fetch_right, (tt, tt)))))

  count_leads : LeadsWithin 5 (push_by (λ n. p.count) count)
  count_leads =
      subst (AllByRecursion (λ (to : ℕ). to < 5)) (sym (no_targets (push_by (λ n. p.count) count) (inl (flow_push_by (λ n. p.count) count)))) tt

  all_lead : AllByRecursion (LeadsWithin 5) coded.insns
  all_lead = (tt, (tt, (count_leads, (tt, (tt, tt)))))

  all_locals : AllByRecursion (LocalsWithin 3) coded.insns
  all_locals = (tt, (tt, (subst (AllByRecursion (λ (slot : ℕ). slot < 3)) (sym (push_by_locals (λ n. p.count) count)) tt, (tt, (tt, tt)))))

  goes_on_within : (i : ℕ) (insn : Insn) → slice_get coded.insns i ≡ Some insn → FallsThrough insn → i + 1 < length coded.insns
  goes_on_within i insn at through = by (cases_lt i 4)
    where
      stops : FallsThrough (insns.Simple opcode.areturn) → ⊥
      stops (inl e) = absurd cc
      stops (inr e) = absurd cc

      by : (i < 4) ⊎ (4 ≤ i) → i + 1 < length coded.insns
      by (inl below) = omega (arith, below)
      by (inr last) =
          let within = slice_get_within coded.insns i insn at in
          let same : i ≡ 4 = omega (arith, last, within) in
          let is : insns.Simple opcode.areturn ≡ insn = same_Some (insns.Simple opcode.areturn) insn (ap (slice_get coded.insns) (sym same) ∙ at) in
          absurd (stops (subst FallsThrough (sym is) through))

  sound : AreSound twin.major twin.pool coded
  sound = record {
    right = each_at Right coded.insns all_right;
    leads = each_at (LeadsWithin 5) coded.insns all_lead;
    falls = goes_on_within;
    locals = each_at (LocalsWithin 3) coded.insns all_locals;
  }

  begins : BeginsWith twin.pool owner method coded (entry_seen owner init_name bootstrap_type method.flags 3)
  begins = record { name = init_name; desc = bootstrap_type; name_is = w.name; desc_is = w.desc; entry_is = refl }

  has_frames : HasFrames twin.pool owner method coded []
  has_frames = record { entry = entry_seen owner init_name bootstrap_type method.flags 3; begins = begins; frames_are = inl (refl, refl) }

  takes : TakeSlots method.flags bootstrap_type 3
  takes = subst (λ (flags : ℕ). TakeSlots flags bootstrap_type 3) (sym w.flags) bootstrap_takes

  abbrev none : Tables
  none = record { lines = []; vars = []; kind_vars = [] }

  no_tables : AreTables twin.pool (bootstrap_items p count).attributes (record { lines = []; vars = []; kind_vars = [] })
  no_tables = record { lines = refl; vars = refl; kind_vars = refl }

  parts : HasSoundParts twin.pool owner method coded
  parts = record {
    desc = bootstrap_type;
    desc_is = w.desc;
    slots = 3;
    takes = takes;
    room = omega arith;
    rows = λ i row at. absurd (none-some row at);
    tables = none;
    are_tables = no_tables;
    frames = [];
    has_frames = has_frames;
  }

  -- ---- the body

  abbrev used : List ℕ
  used = places_used coded.insns coded.items.rows

  abbrev uses : List Use
  uses = (some_uses twin.pool (places_used (bootstrap_code (named_places p) count) [])).0

  uses_are : AreUsesOf twin.pool (places_used (bootstrap_code (named_places p) count) []) uses
  uses_are = (some_uses twin.pool (places_used (bootstrap_code (named_places p) count) [])).1

  use_there : (i place : ℕ) (insn : Insn) (found : Found) (what : What) → slice_get coded.insns i ≡ Some insn → pool_place insn ≡ Some place
      → found_at twin.pool place ≡ Some found → what_of found ≡ Some what → what_used uses place ≡ Some what
  use_there i place insn found what at names is says =
      stands_used twin.pool used uses place what uses_are
      (insn_place_used coded.insns coded.items.rows insn place (stands_in coded.insns i insn at) names)
      (ap (option_and_then what_of) is ∙ says)

  abbrev pub bootstrap_body : (number : ℕ) → Body
  bootstrap_body number = record {
    method = number;
    owner = owner;
    name = init_name;
    desc = bootstrap_type;
    flags = init_flags;
    arg_slots = 3;
    max_stack = init_stack;
    max_locals = 3;
    code = bootstrap_code (named_places p) count;
    handlers = [];
    lines = [];
    vars = [];
    kind_vars = [];
    frames = [];
    uses = (some_uses twin.pool (places_used (bootstrap_code (named_places p) count) [])).0;
  }

  -- under each list of names, since it has no frames
  pub bootstrap_is_body : (number : ℕ) → IsBodyOfAnySize [] twin number method (bootstrap_body number)
  bootstrap_is_body number = record {
    coded = coded;
    is = is_coded;
    no_subroutine = no_subroutine twin.major twin.pool owner method coded is_coded sound parts;
    no_fault = no_faults twin.major twin.pool owner method coded is_coded sound parts;
    tables = none;
    are_tables = no_tables;
    parts = record {
      number_is = refl;
      owner = w.owner_is;
      name = w.name;
      desc = w.desc;
      flags = sym w.flags;
      arg_slots = takes;
      max_stack = refl;
      max_locals = refl;
      code = refl;
      handlers = refl;
      lines = refl;
      vars = refl;
      kind_vars = refl;
      frames = has_frames;
      numbers = tt;
      uses = uses_are;
    };
  }

  pub bootstrap_is : (number : ℕ) → IsBootstrapBody owner id count (bootstrap_body number)
  bootstrap_is number = record {
    places = named_places p;
    method = record {
      owner = refl;
      name = refl;
      desc_is = refl;
      flags = refl;
      arguments = refl;
      max_stack = refl;
      max_locals_is = refl;
      code_is = refl;
      handlers = refl;
      lines = refl;
      vars = refl;
      kind_vars = refl;
    };
    frames = refl;
    names_count = record {
      id_is = use_there 0 p.id (insns.Constant2 p.id) (of_constant (constants.Long id)) (whats.Long id) refl refl (long_found_at twin.pool p.id id w.id_is) refl;
      name_is = use_there 1 p.name (insns.Constant p.name) (of_constant constants.Text) whats.Text refl refl (string_found_at twin.pool p.name owner w.name_is) refl;
      count_is = count_used twin.pool p.count count uses w.count_is
          (λ more there. use_there 2 p.count (insns.Constant p.count) (of_constant (constants.Int (pos count))) (whats.Int (pos count))
          (ap Some (loaded_so (λ n. p.count) count more)) refl there refl);
      fetch_is = use_there 3 p.fetch (insns.Member opcode.invokestatic p.fetch) (of_member fetch_method) (whats.Method runtime_class fetch_name fetch_type) refl refl
          (member_found_at twin.pool p.fetch fetch_method w.fetch_is (λ e. omega (arith, e))) refl;
    };
  }
