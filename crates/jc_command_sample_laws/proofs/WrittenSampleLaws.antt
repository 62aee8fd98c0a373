-- The class file that a sample becomes isn't long, and its constant pool has room.
use Rattle.std.proofs.Common.{◌≡◌, ℕ, zero, suc, ◌+◌, ◌-◌, ◌*◌, ◌≤◌, Bool, true, false, if◌then◌else◌, nat_le, List, [], ◌∷◌, ◌++◌, length, map, codes, Option, Some, None, refl, sym, ◌∙◌, ap, subst, arith, length-append}
use Rattle.std.specs.Prelude.{ℤ, pos, slice_get, unwrap_or}
use Rattle.std.specs.List.{AllByRecursion, range_with_len, sum_by}
use Rattle.std.proofs.lemmas.List.Sums.{sum_by-cons, sum_by-append}
use Rattle.jc_bytes.specs.BigNumbers.{short, word}
use Rattle.jc_bytes.specs.PlainLists.{map_from, numbers_from}
use Rattle.jc_bytes.specs.Reader.{most_read}
use Rattle.jc_bytes.proofs.EachLaws.{all_both, all_weaker}
use Rattle.jc_methods.specs.ProbeMembers.{data_name, data_type, init_name, init_type, most_short, fetch_of}
use Rattle.jc_methods.specs.VerificationTypes.{Names, TypeStateAt}
use Rattle.jc_methods.specs.declared.body.Body.{Body}
use Rattle.jc_methods.specs.declared.emitted.Emitted.{Emitted}
use Rattle.jc_methods.specs.declared.kind.State.{State}
use Rattle.jc_methods.specs.declared.probe_members.Fetch.{Fetch}
use Rattle.jc_methods.specs.declared.probe_members.Fetch.TheVariants as fetches
use Rattle.jc_pool.specs.declared.entry.Entry.TheVariants as entry
use Rattle.jc_pool.specs.Pool.{PoolValue}
use Rattle.jc_class.specs.ClassId.{class_id}
use Rattle.jc_class.specs.declared.class_file.Attribute.{Attribute}
use Rattle.jc_class.specs.declared.class_file.ClassFile.{ClassFile}
use Rattle.jc_class.proofs.FirstBadLaws.{one_class_of}
use Rattle.jc_body.specs.Attributes.{has_name}
use Rattle.jc_frames.specs.FullFrames.{Places, table_text}
use Rattle.jc_frames.specs.FullTable.{named_by_all}
use Rattle.jc_insn.proofs.ReadBackLaws.{short_size, word_size}
use Rattle.jc_kinds.specs.Answers.{AreStates}
use Rattle.jc_layout.specs.Layout.{chosen_text}
use Rattle.jc_layout.specs.LaidBody.{with_place}
use Rattle.jc_layout.proofs.ChoiceLaws.{text_length}
use Rattle.jc_layout.proofs.SpelledLaws.{placed_size}
use Rattle.jc_plan.specs.Analysed.{all_probes}
use Rattle.jc_emit.specs.Added.{end_place, init_frame}
use Rattle.jc_emit.specs.Emission.{emission, IsArrayNumber}
use Rattle.jc_emit.specs.Written.{integer_in}
use Rattle.jc_instrument_code.specs.CodeText.{attribute_text, counted_text, row_text, frame_attributes}
use Rattle.jc_instrument_code.specs.InitText.{init_bytes, init_text, count_text, init_frame_places, end_offset, init_frames}
use Rattle.jc_instrument_code.specs.TwinCode.{offset_in, places_of, twin_code, written_frames}
use Rattle.jc_instrument_code.proofs.InitLaws.{count_few, init_size}
use Rattle.jc_instrument_laws.proofs.FrameSizesLaws.{attribute_count, counted_count, table_most}
use Rattle.jc_instrument_reread.specs.Written.{data_field, init_method, fetch_method}
use Rattle.jc_instrument_reread.specs.WrittenCode.{ready_emission}
use Rattle.jc_instrument.specs.BodiesWithStates.{BodyWithStates, bodies_of, AreBodiesWithStates, emitted_of, all_frames}
use Rattle.jc_instrument.specs.Causes.{Never}
use Rattle.jc_instrument.specs.Constants.{given_with, constants_at}
use Rattle.jc_instrument.specs.Constants as places
use Rattle.jc_instrument.specs.Contents.{Content, text_entry, class_entry, string_entry, integer_entry, long_entry, member_entry}
use Rattle.jc_instrument.specs.InstrumentedFile.{HasProbes, IsInstrumentedFile, Becomes}
use Rattle.jc_instrument.specs.LeftAlone.{is_left_alone}
use Rattle.jc_instrument.specs.Needed.{count_needs, early_needs, long_ids, member_needs, name_of, signed_id}
use Rattle.jc_instrument.specs.RoomCauses.{HasFullPool}
use Rattle.jc_instrument.specs.TwinText.{IsReadyFor, Writing, added_fields, code_with, constants_of, data_member, init_member, init_places, twin_attributes, twin_class, twin_method, work_of}
use Rattle.jc_instrument.specs.declared.constants.ProbeConstants.{ProbeConstants}
use Rattle.jc_instrument.specs.declared.needs.MemberPlaces.{MemberPlaces}
use Rattle.jc_instrument.specs.declared.whole.Instrumented.{Instrumented}
use Rattle.jc_instrument.proofs.ListedLaws.{body_at}
use Rattle.jc_instrument.proofs.TakenNeedsLaws.{takes_parts}
use Rattle.jc_instrument.proofs.WrittenAgainLaws.{work_found}
use Rattle.jc_command_sample_laws.specs.SampleClass.{sample_pool, sample_method, sample_class_file}
use Rattle.jc_command_sample.specs.SampleFile.{sample_class, method_name, code_body, sample_file}
use Rattle.jc_command_sample_laws.proofs.ClassSizesLaws.{attribute_weight, member_weight, class_weight, class_most}
use Rattle.jc_command_sample_laws.proofs.PoolWeightLaws.{slot_weight, pool_weight, places_most, need_weight, each_weight, once_weight}
use Rattle.jc_command_sample_laws.proofs.SampleTextLaws.{sample_named, name_size, body_size, sample_is_text}
use Rattle.jc_command_sample_laws.proofs.SampleBodyLaws.{sample_body}
use Rattle.jc_command_sample_laws.proofs.SampleCodeLaws.{code_most}
use Rattle.jc_command_sample_laws.proofs.SampleExactLaws.{exact, not_alone, probes_of}
use Rattle.jc_command_sample_laws.proofs.SampleFramesLaws.{IsData, IsFineFrame, frames_named, written_fine, written_few}

-- ---- a Code attribute

frames_most : (name : ℕ) (p : Places) (frames : List TypeStateAt) → length frames ≤ 24 → AllByRecursion IsFineFrame frames
    → length (counted_text attribute_text (frame_attributes name p frames)) ≤ 470
frames_most name p [] few all =
    let count = counted_count 0 attribute_text [] in
    omega (arith, count)
frames_most name p (f ∷ frames) few all =
    let a : Attribute = record { name = name; body = table_text p (f ∷ frames) } in
    let count = counted_count 0 attribute_text (a ∷ []) in
    let one = attribute_count a in
    let both = length-append (attribute_text a) [] in
    let table = table_most p 4 (f ∷ frames) (all_weaker IsFineFrame (λ (g : TypeStateAt). length g.state.locals + length g.state.stack ≤ 4) (λ g fine. fine.count) (f ∷ frames) all) in
    omega (arith, few, count, one, both, table)

module _ (names : Names) (k first array : ℕ) (states : List State) (are : AreStates names (sample_body k) states) (array_is : IsArrayNumber names array) where
  twin_code_most : (giver : ℕ) (integers : List ℕ) (pool : PoolValue) (called place frames_name : ℕ)
      → length (twin_code pool fetches.Member called place frames_name names
      (ready_emission (sample_body k) first states (given_with (record { fetch = fetches.Member; giver = giver; integers = integers }) array) giver)) ≤ 900
  unfolding twin_code emission
  twin_code_most giver integers pool called place frames_name =
      let constants : ProbeConstants = record { fetch = fetches.Member; giver = giver; integers = integers } in
      let e : Emitted = ready_emission (sample_body k) first states (given_with constants array) giver in
      let frames = written_frames names e in
      let code = with_place fetches.Member called place (chosen_text e.code) in
      let rows = counted_text (row_text (offset_in e)) [] in
      let rest = counted_text attribute_text (frame_attributes frames_name (places_of pool e) frames) in
      let stack_size = short_size 5 in
      let locals_size = short_size 2 in
      let code_size = word_size (length code) in
      let same = placed_size fetches.Member called place (chosen_text e.code) in
      let text = text_length e.code in
      let few = code_most k first (integer_in integers) in
      let rows_size = counted_count 0 (row_text (offset_in e)) [] in
      let few_frames = written_few names k first array states constants are array_is in
      let fine_frames = written_fine names k first array states constants are array_is in
      let rest_size = frames_most frames_name (places_of pool e) frames few_frames fine_frames in
      let one = length-append (short 5) (short 2 ++ (word (length code) ++ (code ++ (rows ++ rest)))) in
      let two = length-append (short 2) (word (length code) ++ (code ++ (rows ++ rest))) in
      let three = length-append (word (length code)) (code ++ (rows ++ rest)) in
      let four = length-append code (rows ++ rest) in
      let five = length-append rows rest in
      omega (arith, stack_size, locals_size, code_size, same, text, few, rows_size, rest_size, one, two, three, four, five)

-- the added method
init_most : (p : MemberPlaces) (count : ℕ) → member_weight (init_member fetches.Member p count) ≤ 100
init_most p count =
    let q = init_places p in
    let pushed = count_text q.count count in
    let few = count_few q.count count in
    let bytes = init_bytes q pushed in
    let size = init_size q pushed in
    let a = init_frames p.frames p.array pushed in
    let table = table_most (init_frame_places p.array (end_offset pushed)) 1 (record { at = end_place; state = init_frame } ∷ []) (omega arith, tt) in
    let one = attribute_count a in
    let counted = counted_count 0 attribute_text (a ∷ []) in
    let both = length-append (attribute_text a) [] in
    let rest = counted_text attribute_text (a ∷ []) in
    let stack_size = short_size 4 in
    let locals_size = short_size 0 in
    let code_size = word_size (length bytes) in
    let s1 = length-append (short 4) (short 0 ++ (word (length bytes) ++ (bytes ++ (short 0 ++ rest)))) in
    let s2 = length-append (short 0) (word (length bytes) ++ (bytes ++ (short 0 ++ rest))) in
    let s3 = length-append (word (length bytes)) (bytes ++ (short 0 ++ rest)) in
    let s4 = length-append bytes (short 0 ++ rest) in
    let s5 = length-append (short 0) rest in
    let whole = sum_by-cons attribute_weight (record { name = p.code; body = init_text q p.frames p.array count }) [] in
    omega (arith, few, size, table, one, counted, both, stack_size, locals_size, code_size, s1, s2, s3, s4, s5, whole)

-- ---- the pool

names_weight : (a m : ℕ) → a + m ≤ 1000 → sum_by slot_weight (map (λ k. Some (entry.Utf8 (method_name k))) (range_with_len a m)) ≤ 7 * m
names_weight a zero within = omega arith
names_weight a (suc m) within =
    let one = sum_by-cons slot_weight (Some (entry.Utf8 (method_name a))) (map (λ k. Some (entry.Utf8 (method_name k))) (range_with_len (a + 1) m)) in
    let size = name_size a (omega (arith, within)) in
    let rest = names_weight (a + 1) m (omega (arith, within)) in
    omega (arith, one, size, rest)

-- the places in front of the names
abbrev front_slots : PoolValue
front_slots =
    None
    ∷ Some (entry.Utf8 sample_class) ∷ Some (entry.Class 1)
    ∷ Some (entry.Utf8 (codes "java/lang/Object")) ∷ Some (entry.Class 3)
    ∷ Some (entry.Utf8 (codes "Code")) ∷ Some (entry.Utf8 (codes "StackMapTable")) ∷ Some (entry.Utf8 (codes "(I)I")) ∷ []

front_weight : pool_weight front_slots ≡ 77
front_weight = refl

old_weight : (n : ℕ) → n ≤ 1000 → pool_weight (sample_pool n) ≤ 77 + 7 * n
old_weight n within =
    let both = sum_by-append slot_weight front_slots (map (λ k. Some (entry.Utf8 (method_name k))) (range_with_len 0 n)) in
    let front = front_weight in
    let rest = names_weight 0 n (omega (arith, within)) in
    omega (arith, both, front, rest)

ids_weight : (ids : List ℕ) → sum_by need_weight (map (λ id. integer_entry (pos id)) ids) ≡ 10 * length ids
ids_weight [] = refl
ids_weight (id ∷ ids) =
    let one = sum_by-cons need_weight (integer_entry (pos id)) (map (λ x. integer_entry (pos x)) ids) in
    let rest = ids_weight ids in
    omega (arith, one, rest)

numbers_count : (i m : ℕ) → length (numbers_from i m) ≡ m
numbers_count i zero = refl
numbers_count i (suc m) = let rest = numbers_count (i + 1) m in omega (arith, rest)

early_weight : (bootstrap count : ℕ) → count ≤ 2000 → sum_by need_weight (early_needs fetches.Member bootstrap count) ≡ 0
early_weight bootstrap count few =
    let ids = ids_weight (long_ids count) in
    let many = numbers_count (most_short + 1) (count - (most_short + 1)) in
    omega (arith, few, ids, many)

-- those in front of the number of probes
abbrev member_list : ℤ → List Content
member_list id =
    text_entry data_name ∷ text_entry data_type
    ∷ text_entry init_name ∷ text_entry init_type
    ∷ member_entry (data_field sample_class) ∷ member_entry (init_method sample_class) ∷ member_entry fetch_method
    ∷ text_entry (codes "Code") ∷ text_entry (codes "StackMapTable")
    ∷ long_entry id ∷ string_entry sample_class
    ∷ class_entry data_type
    ∷ []

list_weight : (id : ℤ) → sum_by need_weight (member_list id) ≡ 350
list_weight id = refl

count_weight : (count : ℕ) → sum_by need_weight (count_needs count) ≤ 10
count_weight count = by (nat_le count most_short)
  where
    by : (t : Bool) → sum_by need_weight (if t then [] else integer_entry (pos count) ∷ []) ≤ 10
    by true = omega arith
    by false = let one = sum_by-cons need_weight (integer_entry (pos count)) [] in omega (arith, one)

members_weight : (id : ℤ) (count : ℕ) (frames : List TypeStateAt) → sum_by need_weight (member_needs fetches.Member sample_class id count frames) ≤ 360
members_weight id count frames =
    let both = sum_by-append need_weight (member_list id) (count_needs count) in
    let list = list_weight id in
    let last = count_weight count in
    omega (arith, both, list, last)

module _ (n : ℕ) (some : 1 ≤ n) (within : n ≤ 1000) where
  abbrev c : ClassFile
  c = sample_class_file n

  name_is : name_of c ≡ sample_class
  name_is = ap (λ (o : Option (List ℕ)). unwrap_or o []) (sample_named n)

  member_fetch : fetch_of 52 ≡ fetches.Member
  unfolding fetch_of
  member_fetch = refl

  module _ (names : Names) (array : ℕ) (works : List BodyWithStates) (are : AreBodiesWithStates names array c works) where
    -- the body of each work is that of its method
    body_is : (i : ℕ) (w : BodyWithStates) → slice_get works i ≡ Some w → w.body ≡ sample_body w.body.method
    body_is i w at = exact n within names w.body.method w.body (are.bodies.each i w.body (body_at works i w at))

    count_is : all_probes (bodies_of works) ≡ 2 * n
    count_is = probes_of n within names (bodies_of works) are.bodies

    module _ (constants : ProbeConstants) where
      work_fine : (i : ℕ) (w : BodyWithStates) → slice_get works i ≡ Some w → AllByRecursion IsFineFrame (written_frames names (emitted_of constants array w))
      work_fine i w at =
          subst (λ (b : Body). AreStates names b w.states → AllByRecursion IsFineFrame (written_frames names (ready_emission b w.first w.states (given_with constants array) constants.giver)))
          (sym (body_is i w at)) (λ states. written_fine names w.body.method w.first array w.states constants states are.array_is) (are.each i w at).states

      frames_fine : (ws : List BodyWithStates) → ((i : ℕ) (w : BodyWithStates) → slice_get ws i ≡ Some w → AllByRecursion IsFineFrame (written_frames names (emitted_of constants array w)))
          → AllByRecursion IsFineFrame (all_frames names constants array ws)
      frames_fine [] each = tt
      frames_fine (w ∷ ws) each =
          all_both IsFineFrame (written_frames names (emitted_of constants array w)) (all_frames names constants array ws) (each 0 w refl) (frames_fine ws (λ i x at. each (suc i) x at))

      all_named : AllByRecursion IsData (named_by_all (all_frames names constants array works))
      all_named = frames_named (all_frames names constants array works) (frames_fine works work_fine)

    -- ---- a class that is ready

    module _ (id : ℕ) (w : Writing) (ready : IsReadyFor id names array works c w) where
      fetch_is : w.fetch ≡ fetches.Member
      fetch_is = ready.gets.fetch_is ∙ member_fetch

      new_weight : pool_weight w.pool ≤ 8000
      new_weight =
          let frames = all_frames names (constants_of w) array works in
          let count = all_probes (bodies_of works) in
          let parts = takes_parts c.pool w.pool w.fetch w.bootstrap (name_of c) (signed_id id) count frames w.early w.places ready.takes in
          let old = old_weight n within in
          let first = each_weight (early_needs w.fetch w.bootstrap count) c.pool parts.mid _ parts.first in
          let members = each_weight (member_needs w.fetch (name_of c) (signed_id id) count frames) parts.mid parts.more _ parts.members in
          let last = once_weight data_type (named_by_all frames) (all_named (constants_of w)) parts.more w.pool _ parts.last in
          let probes = count_is in
          let early = subst (λ (f : Fetch). sum_by need_weight (early_needs f w.bootstrap count) ≡ 0) (sym fetch_is) (early_weight w.bootstrap count (omega (arith, probes, within))) in
          let list = subst (λ (f : Fetch). sum_by need_weight (member_needs f (name_of c) (signed_id id) count frames) ≤ 360) (sym fetch_is)
          (subst (λ (name : List ℕ). sum_by need_weight (member_needs fetches.Member name (signed_id id) count frames) ≤ 360) (sym name_is) (members_weight (signed_id id) count frames)) in
          omega (arith, old, first, members, last, early, list, within)

      -- ---- its text

      code_few : (i : ℕ) (x : BodyWithStates) → slice_get works i ≡ Some x → length (code_with names array w x) ≤ 900
      code_few i x at =
          subst (λ (f : Fetch). length (code_with names array (record w { fetch = f }) x) ≤ 900) (sym fetch_is)
          (subst (λ (b : Body). AreStates names b x.states → length (code_with names array (record w { fetch = fetches.Member }) (record x { body = b })) ≤ 900) (sym (body_is i x at))
          (λ states. twin_code_most names x.body.method x.first array x.states states are.array_is 0 (map places.within w.early.integers) w.pool w.places.method w.places.array
          w.places.frames) (are.each i x at).states)

      -- a method with its code
      with_code_most : (k : ℕ) (x : BodyWithStates) → length (code_with names array w x) ≤ 900 → member_weight (twin_method c.pool (code_with names array w) (sample_method k) (Some x)) ≤ 920
      with_code_most k x few = by (has_name c.pool (codes "Code") (record { name = 5; body = code_body k }))
        where
          by : (t : Bool) → 8 + sum_by attribute_weight ((if t then record { name = 5; body = code_with names array w x } else record { name = 5; body = code_body k }) ∷ []) ≤ 920
          by true = let one = sum_by-cons attribute_weight (record { name = 5; body = code_with names array w x }) [] in omega (arith, one, few)
          by false = let one = sum_by-cons attribute_weight (record { name = 5; body = code_body k }) [] in let size = body_size k in omega (arith, one, size)

      one_method : (number k : ℕ) → member_weight (twin_method c.pool (code_with names array w) (sample_method k) (work_of number works)) ≤ 920
      one_method number k = by (work_of number works) refl
        where
          by : (o : Option BodyWithStates) → work_of number works ≡ o → member_weight (twin_method c.pool (code_with names array w) (sample_method k) o) ≤ 920
          by None is =
              let one = sum_by-cons attribute_weight (record { name = 5; body = code_body k }) [] in
              let size = body_size k in
              omega (arith, one, size)
          by (Some x) is = let found = work_found number works x is in with_code_most k x (code_few found.index x found.stands)

      methods_most : (i a m : ℕ)
          → sum_by member_weight (map_from (λ number method. twin_method c.pool (code_with names array w) method (work_of number works)) i (map sample_method (range_with_len a m))) ≤ 920 * m
      methods_most i a zero = omega arith
      methods_most i a (suc m) =
          let one = one_method i a in
          let rest = methods_most (i + 1) (a + 1) m in
          let whole = sum_by-cons member_weight (twin_method c.pool (code_with names array w) (sample_method a) (work_of i works))
          (map_from (λ number method. twin_method c.pool (code_with names array w) method (work_of number works)) (i + 1) (map sample_method (range_with_len (a + 1) m))) in
          omega (arith, one, rest, whole)

      all_methods : sum_by member_weight (twin_class names array c works w).methods ≤ 920 * n + 100
      unfolding twin_class
      all_methods =
          subst (λ (f : Fetch). sum_by member_weight
          (map_from (λ number method. twin_method c.pool (code_with names array w) method (work_of number works)) 0 (map sample_method (range_with_len 0 n))
          ++ init_member f w.places (all_probes (bodies_of works)) ∷ []) ≤ 920 * n + 100) (sym fetch_is)
          (let front = map_from (λ number method. twin_method c.pool (code_with names array w) method (work_of number works)) 0 (map sample_method (range_with_len 0 n)) in
          let last = init_member fetches.Member w.places (all_probes (bodies_of works)) in
          let both = sum_by-append member_weight front (last ∷ []) in
          let one = sum_by-cons member_weight last [] in
          let few = methods_most 0 0 n in
          let most = init_most w.places (all_probes (bodies_of works)) in
          omega (arith, both, one, few, most))

      rest_most : sum_by (λ (place : ℕ). 2) (twin_class names array c works w).interfaces + sum_by member_weight (twin_class names array c works w).fields
          + sum_by attribute_weight (twin_class names array c works w).attributes ≤ 8
      unfolding twin_class
      rest_most =
          subst (λ (f : Fetch). sum_by (λ (place : ℕ). 2) [] + sum_by member_weight ([] ++ added_fields f w.places)
          + sum_by attribute_weight (twin_attributes f c.pool w.bootstrap w.places []) ≤ 8) (sym fetch_is)
          (let one = sum_by-cons member_weight (data_member w.places) [] in omega (arith, one))

      pool_is : (twin_class names array c works w).pool ≡ w.pool
      unfolding twin_class
      pool_is = refl

      text_most : class_weight (twin_class names array c works w) ≤ 1000000
      text_most =
          let same = ap pool_weight pool_is in
          let pool = new_weight in
          let methods = all_methods in
          let rest = rest_most in
          omega (arith, same, pool, methods, rest, within)

  -- ---- the pool has room

  pub has_pool_room : (id : ℕ) → Never (HasFullPool id c)
  has_pool_room id r f =
      let full = f.full in
      let many = full.many in
      let few = new_weight full.names full.array full.works full.ready.are id full.with full.ready in
      let places = places_most full.with.pool in
      omega (arith, many, few, places)

  -- ---- what the bytes become isn't long

  pub file_short : (a : Instrumented) → IsInstrumentedFile (sample_file n) a → length a.bytes ≤ most_read
  file_short a is = by (subst (λ (t : Bool). Becomes t (sample_file n) is.file a) stays is.becomes)
    where
      same : is.file ≡ c
      same = one_class_of (sample_file n) is.file c is.text (sample_is_text n some within)

      stays : is_left_alone is.file ≡ false
      stays = ap is_left_alone same ∙ not_alone n some

      probed : (file : ClassFile) → file ≡ c → (id : ℕ) → HasProbes id file a → length a.bytes ≤ most_read
      probed file file_is id has = of (subst (λ (x : ClassFile). HasProbes id x a) file_is has)
        where
          of : HasProbes id c a → length a.bytes ≤ most_read
          of h =
              let text = class_most a.bytes h.twin h.text in
              let twin = ap class_weight h.written.is in
              let most = text_most h.names h.array h.works h.written.ready.are id h.written.with h.written.ready in
              omega (arith, text, twin, most)

      by : HasProbes (class_id (sample_file n)) is.file a → length a.bytes ≤ most_read
      by has = probed is.file same (class_id (sample_file n)) has
