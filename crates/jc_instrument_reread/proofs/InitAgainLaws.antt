-- The method that is added to a class is read as the one that gives its probe array.
use Rattle.std.proofs.Common.{◌≡◌, ◌⊎◌, inl, inr, ℕ, ℤ, zero, suc, ◌+◌, ◌<◌, ◌≤◌, List, [], ◌∷◌, length, get_or, Some, pos, refl, sym, ◌∙◌, ap, subst, arith}
use Rattle.std.specs.Prelude.{◌≢◌, slice_get}
use Rattle.std.specs.Int.Bits.{bit_and}
use Rattle.std.specs.List.{AllByRecursion}
use Rattle.std.specs.Option.{option_and_then}
use Rattle.std.proofs.lemmas.Bool.{cases_lt}
use Rattle.std.proofs.lemmas.Option.{none-some, same_Some, slice_get_within}
use Rattle.jc_bytes.proofs.DecidingLaws.{method_text_decided}
use Rattle.jc_methods.proofs.StartsLaws.{number_at, rising}
use Rattle.jc_bytes.proofs.BooleanLaws.{stands_in}
use Rattle.jc_bytes.specs.Deciding.{after_types}
use Rattle.jc_bytes.specs.DescriptorReading.{after_type, after_brackets, after_name}
use Rattle.jc_bytes.specs.Descriptor.{Array, Boolean, MethodType, DescribesMethod, IsFieldDescriptor, IsMethodDescriptor}
use Rattle.jc_methods.specs.EntryState.{entry_seen}
use Rattle.jc_methods.specs.Flow.{FallsThrough}
use Rattle.jc_methods.specs.VerificationTypes.{Names, TypeStateAt}
use Rattle.jc_methods.specs.InsnUse.{LeadsWithin, LocalsWithin, pool_place}
use Rattle.jc_methods.specs.Starts.{AreStarts}
use Rattle.jc_methods.specs.WellMade.{TakeSlots, what_used}
use Rattle.jc_methods.specs.declared.body.Body.{Body}
use Rattle.jc_methods.specs.declared.body.Use.{Use}
use Rattle.jc_methods.specs.declared.body.What.{What}
use Rattle.jc_methods.specs.declared.body.What.TheVariants as whats
use Rattle.jc_methods.specs.declared.insn.Insn.{Insn}
use Rattle.jc_methods.specs.declared.insn.Insn.TheVariants as insns
use Rattle.jc_methods.specs.declared.kind.Kind.TheVariants as kinds
use Rattle.jc_methods.specs.declared.probe_members.Fetch.TheVariants as fetches
use Rattle.jc_methods.specs.Opcode as opcode
use Rattle.jc_insn.proofs.DecodedInsnLaws.{are_starts}
use Rattle.jc_pool.specs.declared.constant.ConstText.TheVariants as constants
use Rattle.jc_pool.specs.Pool.{PoolValue}
use Rattle.jc_pool.proofs.AddedLaws.{class_within}
use Rattle.jc_class.specs.declared.class_file.ClassFile.{ClassFile}
use Rattle.jc_class.specs.declared.class_file.Member.{Member}
use Rattle.jc_frames.specs.Frames.{Ground}
use Rattle.jc_frames.specs.FullFrames.{Places, AreWritable, table_text}
use Rattle.jc_frames.proofs.FullLaws.{read_back}
use Rattle.jc_body.specs.BodyOf.{places_used, AreUsesOf, IsBodyOfAnySize}
use Rattle.jc_body.specs.Coded.{IsCoded, HasCode}
use Rattle.jc_body.specs.StackMap.{ground_of, BeginsWith, HasFrames}
use Rattle.jc_body.specs.Standing.{Found, of_member, of_constant, what_of, found_at, FoundSuits, EntrySuits, HasRightEntry}
use Rattle.jc_body.specs.declared.coded.Coded.{Coded}
use Rattle.jc_body.specs.declared.items.Tables.{Tables}
use Rattle.jc_body.proofs.ArgumentLaws.{static_take}
use Rattle.jc_body.proofs.UsesLaws.{some_uses, insn_place_used}
use Rattle.jc_methods.specs.ProbeMembers.{data_name, data_type, fetch_name, fetch_type, init_flags, init_name, init_type, runtime_class}
use Rattle.jc_emit.specs.Added.{end_place, init_code, init_frame, init_stack, IsInitBody}
use Rattle.jc_emit.specs.Marks.{push_by}
use Rattle.jc_emit.proofs.PlacedLaws.{flow_push_by, no_targets}
use Rattle.jc_instrument_code.specs.InitText.{end_offset, init_frame_places, init_text, named_places, count_text}
use Rattle.jc_instrument_code.specs.declared.init.AddedPlaces.{AddedPlaces}
use Rattle.jc_instrument_reread.specs.InitRead.{init_coded, init_starts}
use Rattle.jc_instrument_reread.specs.Written.{data_field, fetch_method, IsAddedMethod}
use Rattle.jc_instrument_reread.proofs.FreeLaws.{AreSound, HasSoundParts, no_subroutine, no_faults}
use Rattle.jc_instrument_reread.proofs.InitTextLaws.{init_coded_back, init_tables_back, init_stack_maps}
use Rattle.jc_instrument_reread.proofs.KeptEntryLaws.{member_found_at, long_found_at, string_found_at}
use Rattle.jc_instrument_reread.proofs.CountLaws.{count_named, count_used}
use Rattle.jc_instrument_reread.proofs.PushLaws.{loaded_so}
use Rattle.jc_instrument_reread.proofs.TwinItemLaws.{push_by_locals}
use Rattle.jc_instrument_reread.proofs.UsedPlaceLaws.{stands_used}

-- ---- descriptors

pub data_described : IsFieldDescriptor data_type
data_described = (Array Boolean, record { fits = record { named = tt; few = omega arith }; spelled = refl })

init_method_type : MethodType
init_method_type = record { parameters = []; returns = Some (Array Boolean) }

init_described : DescribesMethod init_type (record { parameters = []; returns = Some (Array Boolean) })
init_described = record { parameters = tt; returns = record { named = tt; few = omega arith }; spelled = refl }

init_takes : TakeSlots init_flags init_type 0
init_takes = static_take init_flags init_type (record { parameters = []; returns = Some (Array Boolean) }) init_described (λ e. absurd (omega (arith, e)))

pub fetch_described : IsMethodDescriptor fetch_type
unfolding after_types after_type after_brackets after_name
fetch_described = (method_text_decided fetch_type).to refl

-- ---- lists

pub each_at : (Fact : Insn → Type 0) (xs : List Insn) → AllByRecursion Fact xs → (i : ℕ) (x : Insn) → slice_get xs i ≡ Some x → Fact x
each_at Fact [] all i x at = absurd (none-some x at)
each_at Fact (y ∷ xs) all zero x at = subst Fact (same_Some y x at) all.0
each_at Fact (y ∷ xs) all (suc i) x at = each_at Fact xs all.1 i x at

module _ (twin : ClassFile) (owner : List ℕ) (id : ℤ) (count : ℕ) (p : AddedPlaces) (method : Member)
    (w : IsAddedMethod fetches.Member twin owner id count p method) where
  abbrev pool : PoolValue
  pool = twin.pool

  abbrev coded : Coded
  coded = init_coded p count

  has_code : HasCode twin.pool method (init_text (named_places p) p.frames p.array count)
  has_code = record {
    concrete = subst (λ (flags : ℕ). bit_and flags 0x0500 ≢ 0 → ⊥) (sym w.flags) (λ not. not refl);
    single = w.code_is;
  }

  is_coded : IsCoded twin.pool method (init_coded p count)
  is_coded = init_coded_back twin.pool p count w.code method has_code

  starts : AreStarts (length coded.insns) (length coded.items.code) coded.starts
  starts = are_starts coded.items.code coded.insns coded.starts is_coded.spelled

  -- ---- instructions

  abbrev Right : Insn → Type 0
  Right insn = HasRightEntry twin.major twin.pool insn

  right_where : (insn : Insn) (place : ℕ) (found : Found) → found_at twin.pool place ≡ Some found → FoundSuits twin.major insn found
      → EntrySuits twin.major insn (found_at twin.pool place)
  right_where insn place found is suits = subst (EntrySuits twin.major insn) (sym is) suits

  field_right : (op : ℕ) → op ≤ 181 → Right (insns.Member op p.field)
  field_right op le = right_where (insns.Member op p.field) p.field (of_member (data_field owner)) (member_found_at twin.pool p.field (data_field owner) w.field_entries.0 (λ e. omega (arith, e)))
      (record { kind = inl (le, data_described); tag = λ e. absurd (omega (arith, e)) })

  fetch_right : Right (insns.Member opcode.invokestatic p.fetch)
  fetch_right = right_where (insns.Member opcode.invokestatic p.fetch) p.fetch (of_member fetch_method) (member_found_at twin.pool p.fetch fetch_method w.fetch_is (λ e. omega (arith, e)))
      (record { kind = inr (omega arith, fetch_described); tag = λ e. absurd (omega (arith, e)) })

  id_right : Right (insns.Constant2 p.id)
  id_right = right_where (insns.Constant2 p.id) p.id (of_constant (constants.Long id)) (long_found_at twin.pool p.id id w.id_is) (record { kind = tt; tag = tt })

  name_right : Right (insns.Constant p.name)
  name_right = right_where (insns.Constant p.name) p.name (of_constant constants.Text) (string_found_at twin.pool p.name owner w.name_is) (record { kind = tt; tag = tt })

  count_right : Right (push_by (λ n. p.count) count)
  count_right = count_named twin.pool p.count count twin.major w.count_is

  all_right : AllByRecursion Right coded.insns
  all_right = (
    field_right opcode.getstatic (omega arith),
    (tt, (tt, (tt, (id_right, (name_right, (count_right, (fetch_right, (tt, (field_right opcode.putstatic (omega arith), (tt, tt)))))))))),
  )

  count_leads : LeadsWithin 11 (push_by (λ n. p.count) count)
  count_leads =
      subst (AllByRecursion (λ (to : ℕ). to < 11)) (sym (no_targets (push_by (λ n. p.count) count) (inl (flow_push_by (λ n. p.count) count)))) tt

  all_lead : AllByRecursion (LeadsWithin 11) coded.insns
  all_lead = (
    tt,
    (tt, ((omega arith, tt), (tt, (tt, (tt, (count_leads, (tt, (tt, (tt, (tt, tt)))))))))),
  )

  all_locals : AllByRecursion (LocalsWithin 0) coded.insns
  all_locals = (
    tt,
    (tt, (tt, (tt, (tt, (tt, (subst (AllByRecursion (λ (slot : ℕ). slot < 0)) (sym (push_by_locals (λ n. p.count) count)) tt, (tt, (tt, (tt, (tt, tt)))))))))),
  )

  goes_on_within : (i : ℕ) (insn : Insn) → slice_get coded.insns i ≡ Some insn → FallsThrough insn → i + 1 < length coded.insns
  goes_on_within i insn at through = by (cases_lt i 10)
    where
      stops : FallsThrough (insns.Simple opcode.areturn) → ⊥
      stops (inl e) = absurd cc
      stops (inr e) = absurd cc

      by : (i < 10) ⊎ (10 ≤ i) → i + 1 < length coded.insns
      by (inl below) = omega (arith, below)
      by (inr last) =
          let within = slice_get_within coded.insns i insn at in
          let same : i ≡ 10 = omega (arith, last, within) in
          let is : insns.Simple opcode.areturn ≡ insn = same_Some (insns.Simple opcode.areturn) insn (ap (slice_get coded.insns) (sym same) ∙ at) in
          absurd (stops (subst FallsThrough (sym is) through))

  sound : AreSound twin.major twin.pool coded
  sound = record {
    right = each_at Right coded.insns all_right;
    leads = each_at (LeadsWithin 11) coded.insns all_lead;
    falls = goes_on_within;
    locals = each_at (LocalsWithin 0) coded.insns all_locals;
  }

  -- ---- the frame

  abbrev ground : Ground
  ground = ground_of twin.pool coded

  abbrev frame_places : Places
  frame_places = init_frame_places p.array (end_offset (count_text p.count count))

  abbrev frames : List TypeStateAt
  frames = record { at = end_place; state = init_frame } ∷ []

  frame_writable : AreWritable ground frame_places frames
  frame_writable =
      let few = is_coded.items.text.few in
      let array_few = class_within twin.pool p.array data_type w.field_entries.1 in
      let pool_few = w.code.pool_few in
      let up = starts.rising 10 (omega arith) in
      let end = starts.end in
      record {
        few = omega arith;
        rising = (omega arith, tt);
        each = (
          record {
            within = omega arith;
            starts = record {
              few = omega (arith, up, end, few);
              number = number_at coded.starts 11 10 starts.one_more rises_so (omega arith);
            };
            locals = refl;
            paired = tt;
            stack = omega arith;
            few_locals = omega arith;
            few_stack = omega arith;
            local_places = tt;
            stack_places = ((omega (arith, array_few, pool_few), w.field_entries.1), tt);
          },
          tt,
        );
      }
    where
      rises_so : (i j : ℕ) → i < j → j ≤ 11 → get_or (init_starts (length (count_text p.count count))) i 0 < get_or (init_starts (length (count_text p.count count))) j 0
      rises_so i j lt le = rising (length coded.insns) (length coded.items.code) coded.starts starts i j lt le

  begins : BeginsWith twin.pool owner method coded (entry_seen owner init_name init_type method.flags 0)
  begins = record { name = init_name; desc = init_type; name_is = w.name; desc_is = w.desc; entry_is = refl }

  has_frames : HasFrames twin.pool owner method coded frames
  has_frames = record {
    entry = entry_seen owner init_name init_type method.flags 0;
    begins = begins;
    frames_are = inr (
      table_text frame_places frames,
      init_stack_maps twin.pool p count w.code,
      read_back ground frame_places (entry_seen owner init_name init_type method.flags 0) frames frame_writable,
    );
  }

  takes : TakeSlots method.flags init_type 0
  takes = subst (λ (flags : ℕ). TakeSlots flags init_type 0) (sym w.flags) init_takes

  parts : HasSoundParts twin.pool owner method coded
  parts = record {
    desc = init_type;
    desc_is = w.desc;
    slots = 0;
    takes = takes;
    room = omega arith;
    rows = λ i row at. absurd (none-some row at);
    tables = record { lines = []; vars = []; kind_vars = [] };
    are_tables = init_tables_back twin.pool p count w.code;
    frames = frames;
    has_frames = has_frames;
  }

  -- ---- the body

  abbrev none : Tables
  none = record { lines = []; vars = []; kind_vars = [] }

  abbrev used : List ℕ
  used = places_used coded.insns coded.items.rows

  abbrev uses : List Use
  uses = (some_uses twin.pool (places_used (init_code (named_places p) count) [])).0

  uses_are : AreUsesOf twin.pool (places_used (init_code (named_places p) count) []) uses
  uses_are = (some_uses twin.pool (places_used (init_code (named_places p) count) [])).1

  use_there : (i place : ℕ) (insn : Insn) (found : Found) (what : What) → slice_get coded.insns i ≡ Some insn → pool_place insn ≡ Some place
      → found_at twin.pool place ≡ Some found → what_of found ≡ Some what → what_used uses place ≡ Some what
  use_there i place insn found what at names is says =
      stands_used twin.pool used uses place what uses_are
      (insn_place_used coded.insns coded.items.rows insn place (stands_in coded.insns i insn at) names)
      (ap (option_and_then what_of) is ∙ says)

  -- the class of the array has the number 0 in this list of names
  abbrev pub init_names : Names
  init_names = data_type ∷ []

  abbrev pub init_body : (number : ℕ) → Body
  init_body number = record {
    method = number;
    owner = owner;
    name = init_name;
    desc = init_type;
    flags = init_flags;
    arg_slots = 0;
    max_stack = init_stack;
    max_locals = 0;
    code = init_code (named_places p) count;
    handlers = [];
    lines = [];
    vars = [];
    kind_vars = [];
    frames = record { at = end_place; state = record { locals = []; stack = kinds.Object 0 ∷ [] } } ∷ [];
    uses = (some_uses twin.pool (places_used (init_code (named_places p) count) [])).0;
  }

  pub init_is_body : (number : ℕ) → IsBodyOfAnySize init_names twin number method (init_body number)
  init_is_body number = record {
    coded = coded;
    is = is_coded;
    no_subroutine = no_subroutine twin.major twin.pool owner method coded is_coded sound parts;
    no_fault = no_faults twin.major twin.pool owner method coded is_coded sound parts;
    tables = none;
    are_tables = init_tables_back twin.pool p count w.code;
    parts = record {
      number_is = refl;
      owner = w.owner_is;
      name = w.name;
      desc = w.desc;
      flags = sym w.flags;
      arg_slots = takes;
      max_stack = refl;
      max_locals = refl;
      code = refl;
      handlers = refl;
      lines = refl;
      vars = refl;
      kind_vars = refl;
      frames = has_frames;
      numbers = (record { locals = tt; stack = (omega arith, tt) }, tt);
      uses = uses_are;
    };
  }

  pub init_is : (number : ℕ) → IsInitBody init_names owner id count (init_body number)
  init_is number = record {
    places = named_places p;
    method = record {
      owner = refl;
      name = refl;
      desc_is = refl;
      flags = refl;
      arguments = refl;
      max_stack = refl;
      max_locals_is = refl;
      code_is = refl;
      handlers = refl;
      lines = refl;
      vars = refl;
      kind_vars = refl;
    };
    frames = record { frame = _; single = refl; at = refl; state = refl };
    field_is = use_there 0 p.field (insns.Member opcode.getstatic p.field) (of_member (data_field owner)) (whats.Field owner data_name data_type) refl refl
        (member_found_at twin.pool p.field (data_field owner) w.field_entries.0 (λ e. omega (arith, e))) refl;
    names_count = record {
      id_is = use_there 4 p.id (insns.Constant2 p.id) (of_constant (constants.Long id)) (whats.Long id) refl refl (long_found_at twin.pool p.id id w.id_is) refl;
      name_is = use_there 5 p.name (insns.Constant p.name) (of_constant constants.Text) whats.Text refl refl (string_found_at twin.pool p.name owner w.name_is) refl;
      count_is = count_used twin.pool p.count count uses w.count_is
          (λ more there. use_there 6 p.count (insns.Constant p.count) (of_constant (constants.Int (pos count))) (whats.Int (pos count))
          (ap Some (loaded_so (λ n. p.count) count more)) refl there refl);
      fetch_is = use_there 7 p.fetch (insns.Member opcode.invokestatic p.fetch) (of_member fetch_method) (whats.Method runtime_class fetch_name fetch_type) refl refl
          (member_found_at twin.pool p.fetch fetch_method w.fetch_is (λ e. omega (arith, e))) refl;
    };
  }
