-- The method that has its instrumented code is read as the body of the layout that is chosen.
use Rattle.std.proofs.Common.{◌≡◌, ◌⊎◌, inl, inr, ℕ, ◌+◌, ◌≤◌, Bool, List, [], ◌∷◌, length, map, Some, pos, refl, sym, ◌∙◌, ap, subst, arith}
use Rattle.std.specs.Prelude.{Contains, slice_get, slice_index, ◌≢◌}
use Rattle.std.specs.Int.Bits.{bit_and}
use Rattle.std.proofs.lemmas.List.{length-map}
use Rattle.jc_bytes.proofs.BooleanLaws.{stands_in, place_of}
use Rattle.jc_methods.specs.VerificationTypes.{Names, AreNumberedFrames, TypeState, TypeStateAt, type_state_at}
use Rattle.jc_methods.specs.EntryState.{entry_seen}
use Rattle.jc_methods.specs.InsnUse.{pool_place, LeadsWithin, LocalsWithin}
use Rattle.jc_methods.specs.Starts.{AreStarts}
use Rattle.jc_methods.specs.WellMade.{TakeSlots, what_used}
use Rattle.jc_methods.specs.declared.body.Body.{Body}
use Rattle.jc_methods.specs.declared.body.FrameAt.{FrameAt}
use Rattle.jc_methods.specs.declared.body.Use.{Use}
use Rattle.jc_methods.specs.declared.body.What.{What}
use Rattle.jc_methods.specs.declared.emitted.Emitted.{Emitted}
use Rattle.jc_methods.specs.declared.body.What.TheVariants as whats
use Rattle.jc_methods.specs.declared.insn.Insn.{Insn}
use Rattle.jc_methods.specs.declared.insn.Insn.TheVariants as insns
use Rattle.jc_methods.specs.Opcode as opcode
use Rattle.jc_methods.specs.ProbeMembers.{data_type}
use Rattle.jc_methods.specs.declared.kind.State.{State}
use Rattle.jc_methods.specs.declared.probe_members.Fetch.{Fetch}
use Rattle.jc_methods.specs.declared.probe_members.Fetch.TheVariants as fetches
use Rattle.jc_insn.proofs.DecodedInsnLaws.{are_starts}
use Rattle.jc_pool.specs.Lookup.{utf8_of, class_name_of}
use Rattle.jc_pool.specs.Pool.{PoolValue}
use Rattle.jc_pool.specs.declared.index.Naming.TheVariants as naming
use Rattle.jc_pool.proofs.AddedLaws.{naming_kept, utf8_kept}
use Rattle.jc_class.specs.declared.class_file.ClassFile.{ClassFile}
use Rattle.jc_class.specs.declared.class_file.Member.{Member}
use Rattle.jc_frames.specs.FullFrames.{Places, table_text}
use Rattle.jc_frames.specs.Frames.{Ground}
use Rattle.jc_frames.specs.Table.{StandsFor}
use Rattle.jc_frames.proofs.FullLaws.{read_back}
use Rattle.jc_body.specs.Attributes.{AreTables}
use Rattle.jc_body.specs.BodyOf.{places_used, AreUsesOf, IsBodyOfAnySize}
use Rattle.jc_body.specs.Coded.{IsCoded, HasCode}
use Rattle.jc_body.specs.Standing.{HasRightEntry, what_at}
use Rattle.jc_body.specs.StackMap.{stack_maps, ground_of, BeginsWith, HasFrames}
use Rattle.jc_body.specs.declared.coded.Coded.{Coded}
use Rattle.jc_body.proofs.UsesLaws.{some_uses, insn_place_used}
use Rattle.jc_kinds.specs.Checked.{Checked}
use Rattle.jc_plan.specs.Probed.{probe_count}
use Rattle.jc_emit.specs.Added.{giver_of}
use Rattle.jc_emit.specs.Emission.{Emitting, emission, widened_frame}
use Rattle.jc_emit.specs.Items.{insn_of, twin_items, image_of}
use Rattle.jc_emit.specs.Marks.{TwinPlaces, invokestatic}
use Rattle.jc_emit.specs.Sizes.{insn_at}
use Rattle.jc_emit.specs.Twin.{NamesArray, NamesIntegers, NamesProbes, Twin}
use Rattle.jc_emit.proofs.TwinCheckedLaws.{verified}
use Rattle.jc_layout.specs.LaidBody.{laid_body, laid_form, laid_frames, laid_place}
use Rattle.jc_layout.specs.Layout.{chosen_list}
use Rattle.jc_layout.proofs.LaidBodyLaws.{laid_twin}
use Rattle.jc_layout.proofs.LaidCodeLaws.{begins_by_constant, begins_so}
use Rattle.jc_layout.proofs.ReadyLaws.{ready_laid}
use Rattle.jc_instrument_code.specs.CodeText.{frame_attributes}
use Rattle.jc_instrument_code.specs.FirstPlaces.{class_place}
use Rattle.jc_instrument_code.specs.TwinCode.{written_frames, places_of, twin_code}
use Rattle.jc_instrument_code.proofs.FirstPlaceLaws.{class_found}
use Rattle.jc_instrument_code.specs.declared.code.CodePlaces.{CodePlaces}
use Rattle.jc_instrument_reread.specs.ReadCode.{code_places, written_items, written_coded, written_insns, written_starts, written_tables}
use Rattle.jc_instrument_reread.specs.Written.{IsWrittenMethod}
use Rattle.jc_instrument_reread.specs.WrittenCode.{ready_emission}
use Rattle.jc_instrument_reread.proofs.CodedLaws.{coded_back, code_size}
use Rattle.jc_instrument_reread.proofs.FreeLaws.{AreSound, HasSoundParts, no_subroutine, no_faults}
use Rattle.jc_instrument_reread.proofs.KeptEntryLaws.{HasArray, what_kept, giver_what, array_what, prelude_right, integer_what, integer_right}
use Rattle.jc_instrument_reread.proofs.LaidFrameLaws.{frames_of, laid_are, laid_numbered, insns_are, laid_writable}
use Rattle.jc_instrument_reread.proofs.NumberedLaws.{handlers_back, lines_back, vars_back, kind_vars_back, all_tables_back}
use Rattle.jc_instrument_reread.proofs.OffsetLaws.{offset_at}
use Rattle.jc_instrument_reread.proofs.PoolInsnLaws.{same_there}
use Rattle.jc_instrument_reread.proofs.RenamedLaws.{table_same}
use Rattle.jc_instrument_reread.proofs.PushLaws.{loaded_so}
use Rattle.jc_instrument_reread.proofs.IdPlaceLaws.{id_pushed}
use Rattle.jc_instrument_reread.proofs.RightEntryLaws.{names_right}
use Rattle.jc_instrument_reread.proofs.SourceLaws.{right_in, class_in, classes_kept}
use Rattle.jc_instrument_reread.proofs.TableLaws.{stack_maps_back}
use Rattle.jc_instrument_reread.proofs.TwinItemLaws.{leads, falls, uses_locals}
use Rattle.jc_instrument_reread.proofs.UsedPlaceLaws.{stands_used, uses_kept}
use Rattle.jc_instrument_reread.proofs.WrittenRowLaws.{rows_fine}

module _ (names : Names) (c twin : ClassFile) (bootstrap : ℕ) (places : CodePlaces) (given : Emitting) (method new : Member) (b : Body)
    (states : List State) (first : ℕ) (w : IsWrittenMethod names c twin bootstrap places given method new b states first) where
  abbrev e : Emitted
  e = ready_emission b first states given places.giver

  abbrev wide : List Bool
  wide = chosen_list (ready_emission b first states given places.giver).code

  abbrev p : TwinPlaces
  p = code_places places given.integer

  abbrev pool : PoolValue
  pool = twin.pool

  abbrev coded : Coded
  coded = written_coded twin.pool given.fetch places given.integer names (ready_emission b first states given places.giver)

  -- ---- the code

  has_code : HasCode twin.pool new (twin_code twin.pool given.fetch places.giver places.array places.frames names (ready_emission b first states given places.giver))
  has_code = record {
    concrete = subst (λ (flags : ℕ). bit_and flags 0x0500 ≢ 0 → ⊥) (sym w.written.flags) w.source.body.is.items.code.concrete;
    single = w.written.code_is;
  }

  is_coded : IsCoded twin.pool new (written_coded twin.pool given.fetch places given.integer names (ready_emission b first states given places.giver))
  is_coded = coded_back b first states given w.source.well_made twin.pool places names w.fits.code new has_code

  starts : AreStarts (length coded.insns) (length coded.items.code) coded.starts
  starts = are_starts coded.items.code coded.insns coded.starts is_coded.spelled

  few_bytes : length coded.items.code ≤ 65535
  few_bytes = is_coded.items.text.few

  -- the instructions are those of the twin
  insns_so : coded.insns ≡ map (insn_of p b.arg_slots) (twin_items b first (laid_form b first given.fetch (chosen_list (ready_emission b first states given places.giver).code)))
  insns_so = insns_are names b first states given places.giver w.source.well_made w.source.states_are w.source.frame_states w.source.none_straddles w.source.array_is
      (chosen_list (ready_emission b first states given places.giver).code) p refl

  insns_count : length coded.insns ≡ length (twin_items b first (laid_form b first given.fetch (chosen_list (ready_emission b first states given places.giver).code)))
  insns_count = ap (λ (l : List Insn). length l) insns_so ∙ length-map (twin_items b first (laid_form b first given.fetch wide)) (insn_of p b.arg_slots)

  twin_at : (i : ℕ) (insn : Insn) → slice_get coded.insns i ≡ Some insn
      → slice_get (map (insn_of p b.arg_slots)
      (twin_items b first (laid_form b first given.fetch (chosen_list (ready_emission b first states given places.giver).code)))) i ≡ Some insn
  twin_at i insn at = ap (λ (l : List Insn). slice_get l i) (sym insns_so) ∙ at

  locals_are : (ready_emission b first states given places.giver).max_locals ≡ b.max_locals + 1
  unfolding emission
  locals_are = refl

  stack_is : (ready_emission b first states given places.giver).max_stack ≡ b.max_stack + 3
  unfolding emission
  stack_is = refl

  sound : AreSound twin.major twin.pool coded
  sound = record {
    right = λ i insn at. names_right b first (laid_form b first given.fetch wide) p w.source.well_made.code twin.major twin.pool
        (λ k lt. subst (λ (m : ℕ). HasRight m k) (sym w.major) (right_in names c method b states given.array w.source twin.pool w.pool.extends k lt))
        (λ id more from below. integer_right twin.pool (given.integer id) id twin.major (w.pool.integers id more from below))
        (prelude_right twin.pool b.owner bootstrap places given.fetch w.pool.giver_is given.integer twin.major b.arg_slots) i insn (twin_at i insn at);
    leads = λ i insn at. subst (λ (n : ℕ). LeadsWithin n insn) (sym insns_count)
        (leads b first (laid_form b first given.fetch wide) p w.source.well_made.code i insn (twin_at i insn at));
    falls = λ i insn at through.
        let more = falls b first (laid_form b first given.fetch wide) p w.source.well_made.code i insn (twin_at i insn at) through in
        let count = insns_count in
        omega (arith, more, count);
    locals = λ i insn at. subst (λ (n : ℕ). LocalsWithin n insn) (sym locals_are)
        (uses_locals b first (laid_form b first given.fetch wide) p w.source.well_made.code w.source.well_made.locals w.source.well_made.arguments_fit i insn (twin_at i insn at));
  }
    where
      HasRight : ℕ → ℕ → Type 0
      HasRight major k = HasRightEntry major twin.pool (insn_at b.code k)

  -- ---- frames

  abbrev ground : Ground
  ground = ground_of twin.pool coded

  abbrev laid : List FrameAt
  laid = laid_frames (chosen_list (ready_emission b first states given places.giver).code) (ready_emission b first states given places.giver)

  -- the places of the layout
  abbrev laid_places : Places
  laid_places = record { class = class_place twin.pool; start = slice_index (written_starts (ready_emission b first states given places.giver)) }

  -- the state in which the method begins
  abbrev entry : TypeState
  entry = entry_seen b.owner b.name b.desc new.flags coded.items.max_locals

  name_is : utf8_of twin.pool new.name ≡ Some b.name
  name_is = ap (utf8_of twin.pool) w.written.name ∙ utf8_kept c.pool twin.pool b.name method.name w.pool.extends w.source.body.parts.name

  desc_is : utf8_of twin.pool new.desc ≡ Some b.desc
  desc_is = ap (utf8_of twin.pool) w.written.desc ∙ utf8_kept c.pool twin.pool b.desc method.desc w.pool.extends w.source.body.parts.desc

  begins : BeginsWith twin.pool b.owner new coded entry
  begins = record { name = b.name; desc = b.desc; name_is = name_is; desc_is = desc_is; entry_is = refl }

  text_same : table_text laid_places (map (type_state_at names) laid)
      ≡ table_text (places_of twin.pool (ready_emission b first states given places.giver)) (written_frames names (ready_emission b first states given places.giver))
  text_same =
      ap (λ (l : List FrameAt). table_text laid_places (map (type_state_at names) l)) (laid_are wide e)
      ∙ table_same (laid_place wide e.code) (places_of twin.pool e) laid_places (λ name. refl) (λ k. offset_at e.code k) names (frames_of wide e)

  stands_for : StandsFor ground entry
      (table_text (places_of twin.pool (ready_emission b first states given places.giver)) (written_frames names (ready_emission b first states given places.giver))) (map (type_state_at names) laid)
  stands_for =
      subst (λ (t : List ℕ). StandsFor ground entry t (map (type_state_at names) laid)) text_same
      (read_back ground laid_places entry (map (type_state_at names) laid)
      (laid_writable names b first states given places.giver w.source.well_made w.source.states_are w.source.frame_states w.source.none_straddles w.source.array_is
      wide p ground insns_so locals_are stack_is laid_places (length coded.items.code) starts few_bytes (λ k. refl)
      (λ name place first. class_found twin.pool name place first) w.fits.code.locals w.fits.code.stack w.fits.classes))

  no_frames : written_frames names (ready_emission b first states given places.giver) ≡ [] → map (type_state_at names) laid ≡ []
  no_frames none =
      ap (map (type_state_at names)) (laid_are wide e)
      ∙ by (frames_of wide e) none
    where
      by : (frames : List FrameAt) → map (type_state_at names) frames ≡ [] → map (type_state_at names) (map (widened_frame (laid_place wide e.code)) frames) ≡ []
      by [] is = refl
      by (f ∷ frames) is = absurd (some_none is)
        where
          some_none : {s : TypeStateAt} {ss : List TypeStateAt} → s ∷ ss ≡ [] → ⊥
          some_none e = cc

  has_frames : HasFrames twin.pool b.owner new coded (map (type_state_at names) laid)
  has_frames = record {
    entry = entry;
    begins = begins;
    frames_are = by (written_frames names e) refl;
  }
    where
      by : (frames : List TypeStateAt) → written_frames names (ready_emission b first states given places.giver) ≡ frames
          → ((stack_maps twin.pool coded ≡ []) × (map (type_state_at names) laid ≡ []))
          ⊎ ((table : List ℕ) × (stack_maps twin.pool coded ≡ table ∷ []) × StandsFor ground entry table (map (type_state_at names) laid))
      by [] is = inl (
        stack_maps_back twin.pool given.fetch places names e w.fits.code given.integer ∙ ap (λ (l : List TypeStateAt). map (λ a. a.body) (frame_attributes places.frames (places_of twin.pool e) l)) is,
        no_frames is,
      )
      by (f ∷ frames) is = inr (
        table_text (places_of twin.pool e) (written_frames names e),
        stack_maps_back twin.pool given.fetch places names e w.fits.code given.integer
            ∙ ap (λ (l : List TypeStateAt). map (λ a. a.body) (frame_attributes places.frames (places_of twin.pool e) l)) is
            ∙ ap (λ (l : List TypeStateAt). table_text (places_of twin.pool e) l ∷ []) (sym is),
        stands_for,
      )

  numbered : AreNumberedFrames (length names) laid
  numbered = laid_numbered wide (length names) (length e.code + 1) e w.fits.frames.each

  -- ---- uses

  abbrev used : List ℕ
  used = places_used coded.insns coded.items.rows

  abbrev uses : List Use
  uses = (some_uses twin.pool (places_used coded.insns coded.items.rows)).0

  uses_are : AreUsesOf twin.pool (places_used coded.insns coded.items.rows) uses
  uses_are = (some_uses twin.pool (places_used coded.insns coded.items.rows)).1

  -- what an instruction of the twin names is used
  used_at : (q place : ℕ) (insn : Insn) (what : What)
      → slice_get (map (insn_of p b.arg_slots) (twin_items b first (laid_form b first given.fetch wide))) q ≡ Some insn
      → pool_place insn ≡ Some place → what_at twin.pool place ≡ Some what → what_used uses place ≡ Some what
  used_at q place insn what at names is =
      stands_used twin.pool used uses place what uses_are
      (insn_place_used coded.insns coded.items.rows insn place (stands_in coded.insns q insn (ap (λ (l : List Insn). slice_get l q) insns_so ∙ at)) names) is

  giver_used : what_used uses places.giver ≡ Some (giver_of given.fetch b.owner bootstrap)
  giver_used = by given.fetch refl (giver_what twin.pool b.owner bootstrap places given.fetch w.pool.giver_is)
    where
      by : (fetch : Fetch) → given.fetch ≡ fetch → what_at twin.pool places.giver ≡ Some (giver_of given.fetch b.owner bootstrap)
          → what_used uses places.giver ≡ Some (giver_of given.fetch b.owner bootstrap)
      by fetches.Member is what =
          used_at 0 places.giver (invokestatic places.giver) (giver_of given.fetch b.owner bootstrap)
          (ap (λ (l : List Insn). slice_get l 0) (begins_so b first (laid_form b first given.fetch wide) is p)) refl what
      by fetches.Constant is what =
          used_at 0 places.giver (insns.Constant places.giver) (giver_of given.fetch b.owner bootstrap)
          (ap (λ (l : List Insn). slice_get l 0) (begins_by_constant b first (laid_form b first given.fetch wide) is p)) refl what

  array_used : NamesArray given.fetch uses places.array
  array_used = by given.fetch refl (array_what twin.pool b.owner bootstrap places given.fetch w.pool.giver_is)
    where
      by : (fetch : Fetch) → given.fetch ≡ fetch → HasArray fetch twin.pool places.array → NamesArray fetch uses places.array
      by fetches.Member is what = tt
      by fetches.Constant is what =
          used_at 1 places.array (insns.OfClass opcode.checkcast places.array) (whats.Class data_type)
          (ap (λ (l : List Insn). slice_get l 1) (begins_by_constant b first (laid_form b first given.fetch wide) is p)) refl what

  integers_used : NamesIntegers first (probe_count b) uses given.integer
  integers_used id more from below =
      let pushed = id_pushed b first (laid_form b first given.fetch wide) p w.source.well_made.code id from below in
      used_at pushed.0 (given.integer id) (insns.Constant (given.integer id)) (whats.Int (pos id))
      (pushed.1 ∙ ap Some (loaded_so given.integer id more)) refl
      (integer_what twin.pool (given.integer id) id (w.pool.integers id more from below))

  kept : (place : ℕ) (what : What) → what_used b.uses place ≡ Some what → what_used uses place ≡ Some what
  kept place what is =
      uses_kept c.pool twin.pool w.source.body.coded.insns coded.insns w.source.body.coded.items.rows coded.items.rows b.uses uses
      w.source.body.parts.uses uses_are (what_kept c.pool twin.pool w.pool.extends) there (classes_kept names c method b states given.array w.source first given places.giver) place what is
    where
      there : (insn : Insn) (place : ℕ) → Contains w.source.body.coded.insns insn → pool_place insn ≡ Some place → Contains coded.insns insn
      there insn place listed is =
          let old = place_of w.source.body.coded.insns insn listed in
          let at = ap (λ (l : List Insn). slice_get l old.0) w.source.body.parts.code ∙ old.1 in
          stands_in coded.insns (image_of b first (laid_form b first given.fetch wide) old.0) insn
          (ap (λ (l : List Insn). slice_get l (image_of b first (laid_form b first given.fetch wide) old.0)) insns_so
          ∙ same_there b first (laid_form b first given.fetch wide) p w.source.well_made.code old.0 place insn at is)

  -- ---- the body

  -- the body of the chosen layout, with what its instructions and rows use
  abbrev pub body_again : Body
  body_again =
      laid_body b (ready_emission b first states given places.giver) (chosen_list (ready_emission b first states given places.giver).code) given.fetch p
      (some_uses twin.pool (places_used (written_insns given.fetch p (ready_emission b first states given places.giver))
      (written_items twin.pool given.fetch places names (ready_emission b first states given places.giver)).rows)).0

  takes : TakeSlots new.flags b.desc b.arg_slots
  takes = subst (λ (flags : ℕ). TakeSlots flags b.desc b.arg_slots) (sym w.written.flags) w.source.body.parts.arg_slots

  are_tables : AreTables twin.pool coded.items.attributes (written_tables (ready_emission b first states given places.giver))
  are_tables = all_tables_back b first states given w.source.well_made twin.pool places names w.fits.code

  parts : HasSoundParts twin.pool b.owner new coded
  parts = record {
    desc = b.desc;
    desc_is = desc_is;
    slots = b.arg_slots;
    takes = takes;
    room = let fit = w.source.well_made.arguments_fit in let more = locals_are in omega (arith, fit, more);
    rows = rows_fine b first states given places.giver w.source.well_made p (length coded.items.code) starts (code_size twin.pool given.fetch places names e w.fits.code) twin.pool
        (class_in names c method b states given.array w.source twin.pool w.pool.extends);
    tables = written_tables e;
    are_tables = are_tables;
    frames = map (type_state_at names) laid;
    has_frames = has_frames;
  }

  pub is_body : IsBodyOfAnySize names twin b.method new body_again
  unfolding laid_body
  is_body = record {
    coded = coded;
    is = is_coded;
    no_subroutine = no_subroutine twin.major twin.pool b.owner new coded is_coded sound parts;
    no_fault = no_faults twin.major twin.pool b.owner new coded is_coded sound parts;
    tables = written_tables e;
    are_tables = are_tables;
    parts = record {
      number_is = refl;
      owner = ap (class_name_of twin.pool) w.this_class ∙ naming_kept naming.Class c.pool twin.pool b.owner c.this_class w.pool.extends w.source.body.parts.owner;
      name = name_is;
      desc = desc_is;
      flags = w.source.body.parts.flags ∙ sym w.written.flags;
      arg_slots = takes;
      max_stack = refl;
      max_locals = refl;
      code = refl;
      handlers = handlers_back b first states given w.source.well_made twin.pool places names w.fits.code uses;
      lines = lines_back b first states given w.source.well_made twin.pool places names w.fits.code uses;
      vars = vars_back b first states given w.source.well_made twin.pool places names w.fits.code uses;
      kind_vars = kind_vars_back b first states given w.source.well_made twin.pool places names w.fits.code uses;
      frames = has_frames;
      numbers = numbered;
      uses = uses_are;
    };
  }

  -- ---- the kind check

  names_probes : NamesProbes given.fetch (giver_of given.fetch b.owner bootstrap) first (probe_count b) uses p
  names_probes = record { giver_is = giver_used; array_is = array_used; integers = integers_used }

  pub is_twin : Twin names names states given.fetch (giver_of given.fetch b.owner bootstrap) first b body_again
  is_twin =
      subst (λ (body : Body). Twin names names states given.fetch (giver_of given.fetch b.owner bootstrap) first b body)
      (sym (ready_laid b first states given wide p uses places.giver))
      (laid_twin b first states given names w.source.well_made w.source.frame_states w.source.array_is wide p
      (giver_of given.fetch b.owner bootstrap) uses refl names_probes kept)

  pub is_checked : Checked names body_again
  is_checked =
      verified names names states given.fetch b.owner bootstrap first b body_again w.source.well_made w.source.checked w.source.states_are
      w.source.none_straddles is_twin
