-- The text of an instrumented Code attribute is no longer than an attribute may be.
use Rattle.std.proofs.Common.{◌≡◌, ℕ, ◌+◌, ◌*◌, ◌-◌, ◌≤◌, List, [], ◌∷◌, ◌++◌, length, map, sym, ◌∙◌, ap, subst, arith, length-append}
use Rattle.std.specs.List.{flat_map, AllByRecursion}
use Rattle.std.proofs.Math.Nat.{add-mul, mul-add, mul_assoc, mul_comm, mul-le-mul, mul-le-mul_right}
use Rattle.std.proofs.lemmas.Grind.{flat_map-append}
use Rattle.std.proofs.lemmas.List.{length-map}
use Rattle.jc_methods.specs.declared.probe_members.Fetch.{Fetch}
use Rattle.jc_methods.specs.VerificationTypes.{Names, TypeStateAt, type_state_at}
use Rattle.jc_bytes.specs.Reader.{most_read}
use Rattle.jc_bytes.specs.PlainLists.{total}
use Rattle.jc_bytes.specs.BigNumbers.{short, word}
use Rattle.jc_methods.specs.WellMade.{IsBounded}
use Rattle.jc_methods.specs.declared.body.Body.{Body}
use Rattle.jc_methods.specs.declared.body.Handler.{Handler}
use Rattle.jc_methods.specs.declared.body.LineAt.{LineAt}
use Rattle.jc_methods.specs.declared.body.VarAt.{VarAt}
use Rattle.jc_methods.specs.declared.emitted.Emitted.{Emitted}
use Rattle.jc_methods.specs.declared.kind.State.{State}
use Rattle.jc_class.specs.declared.class_file.Attribute.{Attribute}
use Rattle.jc_frames.specs.FullFrames as full
use Rattle.jc_insn.proofs.ReadBackLaws.{short_size, word_size}
use Rattle.jc_pool.specs.Pool.{PoolValue}
use Rattle.jc_emit.specs.Sizes.{narrow}
use Rattle.jc_emit.specs.Emission.{emission}
use Rattle.jc_emit.specs.Items.{lead_of, land_of}
use Rattle.jc_emit.specs.TwinTables.{moved_row, moved_line, moved_var}
use Rattle.jc_layout.specs.LaidBody.{with_place}
use Rattle.jc_layout.specs.Layout.{chosen_length, chosen_text}
use Rattle.jc_layout.proofs.ChoiceLaws.{text_length}
use Rattle.jc_instrument_code.specs.CodeText.{attribute_text, counted_text, row_text, line_text, var_text, table_attributes, frame_attributes}
use Rattle.jc_instrument_code.specs.FirstPlaces.{text_place}
use Rattle.jc_instrument_code.specs.TwinCode.{chosen_frames, written_frames, offset_in, places_of, lines_name, vars_name, kind_vars_name, code_attributes, twin_code}
use Rattle.jc_layout.proofs.SpelledLaws.{placed_size}
use Rattle.jc_instrument_reread.specs.WrittenCode.{ready_emission}
use Rattle.jc_instrument.specs.Constants.{given_with, probed_code}
use Rattle.jc_instrument.specs.declared.constants.ProbeConstants.{ProbeConstants}
use Rattle.jc_instrument_laws.proofs.CodeWeightLaws.{code_least}
use Rattle.jc_instrument_laws.proofs.EmittedFramesLaws.{arms_size, written_most}
use Rattle.jc_instrument_laws.proofs.FrameSizesLaws.{attribute_count, counted_count, sized_most, table_most, tables_most}

-- ---- the entries of tables

row_count : (offset : ℕ → ℕ) (h : Handler) → length (row_text offset h) ≤ 8
row_count offset h =
    let a = short_size (offset h.start) in
    let b = short_size (offset h.end) in
    let c = short_size (offset h.target) in
    let d = short_size h.class in
    let one = length-append (short (offset h.start)) (short (offset h.end) ++ (short (offset h.target) ++ short h.class)) in
    let two = length-append (short (offset h.end)) (short (offset h.target) ++ short h.class) in
    let three = length-append (short (offset h.target)) (short h.class) in
    omega (arith, a, b, c, d, one, two, three)

line_count : (offset : ℕ → ℕ) (l : LineAt) → length (line_text offset l) ≤ 4
line_count offset l =
    let a = short_size (offset l.at) in
    let b = short_size l.line in
    let one = length-append (short (offset l.at)) (short l.line) in
    omega (arith, a, b, one)

var_count : (offset : ℕ → ℕ) (x : VarAt) → length (var_text offset x) ≤ 10
var_count offset x =
    let a = short_size (offset x.start) in
    let b = short_size (offset x.end - offset x.start) in
    let c = short_size x.name in
    let d = short_size x.desc in
    let e = short_size x.slot in
    let one = length-append (short (offset x.start)) (short (offset x.end - offset x.start) ++ (short x.name ++ (short x.desc ++ short x.slot))) in
    let two = length-append (short (offset x.end - offset x.start)) (short x.name ++ (short x.desc ++ short x.slot)) in
    let three = length-append (short x.name) (short x.desc ++ short x.slot) in
    let four = length-append (short x.desc) (short x.slot) in
    omega (arith, a, b, c, d, e, one, two, three, four)

-- a table of entries of so many bytes, of which a file holds no more than it may have
table_few : {X : Type 0} (name k : ℕ) (text : X → List ℕ) → ((x : X) → length (text x) ≤ k) → (xs : List X) → k * length xs ≤ 67108864 → length xs ≤ 67108864
    → length (flat_map attribute_text (table_attributes name text xs)) ≤ 67120000
table_few name k text each xs most few =
    let size = sized_most name text k each xs in
    let turned = mul_comm (length xs) k in
    let all = tables_most name text xs in
    omega (arith, size, turned, all, most, few)

-- the frames
frames_few : (name most size : ℕ) (p : full.Places) (frames : List TypeStateAt) → AllByRecursion (λ f. length f.state.locals + length f.state.stack ≤ most) frames
    → length frames * (7 + 3 * most) ≤ size → length (flat_map attribute_text (frame_attributes name p frames)) ≤ 8 + size
frames_few name most size p [] all few = omega arith
frames_few name most size p (f ∷ frames) all few =
    let one = attribute_count (record { name = name; body = full.table_text p (f ∷ frames) }) in
    let table = table_most p most (f ∷ frames) all in
    let both = length-append (attribute_text (record { name = name; body = full.table_text p (f ∷ frames) })) [] in
    omega (arith, one, table, both, few)

-- ---- one body

module _ (names : Names) (b : Body) (first : ℕ) (states : List State) (constants : ProbeConstants) (array : ℕ)
    (bound : IsBounded b) (locals : b.max_locals ≤ 65534)
    (stack : b.max_stack ≤ 65532)
    (short_code : chosen_length (probed_code constants b first) ≤ 65535)
    (small : AllByRecursion (λ f. length f.state.locals + length f.state.stack ≤ b.max_locals + 1 + b.max_stack)
    (written_frames names (ready_emission b first states (given_with constants array) constants.giver)))
    (handlers : 8 * length b.handlers ≤ most_read) (lines : 4 * length b.lines ≤ most_read) (vars : 10 * length b.vars ≤ most_read)
    (kind_vars : 10 * length b.kind_vars ≤ most_read) where
  abbrev e : Emitted
  e = ready_emission b first states (given_with constants array) constants.giver

  abbrev count : ℕ
  count = length b.code

  abbrev arms : ℕ
  arms = total (arms_size b first) count

  abbrev slots : ℕ
  slots = b.max_locals + b.max_stack

  -- how many bytes a frame has at most
  abbrev frame_size : ℕ
  frame_size = 7 + 3 * (b.max_locals + 1 + b.max_stack)

  frames_size : length (chosen_frames e) * frame_size ≤ 3990000000
  frames_size =
      let least = code_least constants b first in
      let few = written_most b first states (given_with constants array) constants.giver in
      let frames = length (chosen_frames e) in
      let five : (5 * frames) * frame_size ≤ (15 * count + arms) * frame_size = mul-le-mul_right frame_size few in
      let split = add-mul (15 * count) arms frame_size in
      let size_is : frame_size ≡ 10 + 3 * slots = omega arith in
      let few_arms : arms ≤ 46810 = omega (arith, least, short_code) in
      let few_bytes : frame_size ≤ 393208 = omega (arith, locals, stack) in
      let many : arms * frame_size ≤ 46810 * 393208 = mul-le-mul few_arms few_bytes in
      let insns : count * frame_size ≡ count * 10 + count * (3 * slots) = ap (λ (n : ℕ). count * n) size_is ∙ mul-add count 10 (3 * slots) in
      let three : count * (3 * slots) ≡ 3 * (count * slots) =
      sym (mul_assoc count 3 slots) ∙ ap (λ (n : ℕ). n * slots) (mul_comm count 3) ∙ mul_assoc 3 count slots in
      let fifteen = mul_assoc 15 count frame_size in
      let out = mul_assoc 5 frames frame_size in
      omega (arith, five, split, many, insns, three, fifteen, out, bound, least, short_code)

  code_count : length (chosen_text e.code) ≤ 65535
  unfolding emission
  code_count = let same = text_length (probed_code constants b first) in omega (arith, same, short_code)

  rows_few : length (counted_text (row_text (offset_in e)) e.handlers) ≤ 67110000
  unfolding emission
  rows_few =
      let rows = map (moved_row (lead_of b first (narrow constants.fetch)) (land_of b first (narrow constants.fetch))) b.handlers in
      let text = row_text (offset_in e) in
      let all = counted_count 0 text rows in
      let size = sized_most 0 text 8 (row_count (offset_in e)) rows in
      let same = length-map b.handlers (moved_row (lead_of b first (narrow constants.fetch)) (land_of b first (narrow constants.fetch))) in
      omega (arith, all, size, same, handlers)

  lines_few : (name : ℕ) (offset : ℕ → ℕ) → length (flat_map attribute_text (table_attributes name (line_text offset) e.lines)) ≤ 67120000
  unfolding emission
  lines_few name offset =
      let same = length-map b.lines (moved_line (land_of b first (narrow constants.fetch))) in
      table_few name 4 (line_text offset) (line_count offset) (map (moved_line (land_of b first (narrow constants.fetch))) b.lines) (omega (arith, same, lines))
      (omega (arith, same, lines))

  vars_few : (name : ℕ) (offset : ℕ → ℕ) → length (flat_map attribute_text (table_attributes name (var_text offset) e.vars)) ≤ 67120000
  unfolding emission
  vars_few name offset =
      let same = length-map b.vars (moved_var b.arg_slots (land_of b first (narrow constants.fetch))) in
      table_few name 10 (var_text offset) (var_count offset) (map (moved_var b.arg_slots (land_of b first (narrow constants.fetch))) b.vars) (omega (arith, same, vars))
      (omega (arith, same, vars))

  kind_vars_few : (name : ℕ) (offset : ℕ → ℕ) → length (flat_map attribute_text (table_attributes name (var_text offset) e.kind_vars)) ≤ 67120000
  unfolding emission
  kind_vars_few name offset =
      let same = length-map b.kind_vars (moved_var b.arg_slots (land_of b first (narrow constants.fetch))) in
      table_few name 10 (var_text offset) (var_count offset) (map (moved_var b.arg_slots (land_of b first (narrow constants.fetch))) b.kind_vars) (omega (arith, same, kind_vars))
      (omega (arith, same, kind_vars))

  module _ (pool : PoolValue) (fetch : Fetch) (giver place frames_name : ℕ) where
    abbrev offset : ℕ → ℕ
    offset = offset_in e

    abbrev line_attributes : List Attribute
    line_attributes = table_attributes (text_place pool lines_name) (line_text offset) e.lines

    abbrev var_attributes : List Attribute
    var_attributes = table_attributes (text_place pool vars_name) (var_text offset) e.vars

    abbrev kind_var_attributes : List Attribute
    kind_var_attributes = table_attributes (text_place pool kind_vars_name) (var_text offset) e.kind_vars

    abbrev map_attributes : List Attribute
    map_attributes = frame_attributes frames_name (places_of pool e) (written_frames names e)

    in_both : (xs ys : List Attribute) → length (flat_map attribute_text (xs ++ ys)) ≡ length (flat_map attribute_text xs) + length (flat_map attribute_text ys)
    in_both xs ys = ap (λ (l : List ℕ). length l) (flat_map-append attribute_text xs ys) ∙ length-append (flat_map attribute_text xs)
        (flat_map attribute_text ys)

    attributes_few : length (counted_text attribute_text (code_attributes pool frames_name e (written_frames names e))) ≤ 4191500000
    attributes_few =
        let all = counted_count 0 attribute_text (code_attributes pool frames_name e (written_frames names e)) in
        let one = in_both line_attributes (var_attributes ++ (kind_var_attributes ++ map_attributes)) in
        let two = in_both var_attributes (kind_var_attributes ++ map_attributes) in
        let three = in_both kind_var_attributes map_attributes in
        let l = lines_few (text_place pool lines_name) offset in
        let v = vars_few (text_place pool vars_name) offset in
        let k = kind_vars_few (text_place pool kind_vars_name) offset in
        let same = length-map (chosen_frames e) (type_state_at names) in
        let sized : length (written_frames names e) * frame_size ≤ 3990000000 =
        subst (λ (n : ℕ). n * frame_size ≤ 3990000000) (sym same) frames_size in
        let m = frames_few frames_name (b.max_locals + 1 + b.max_stack) 3990000000 (places_of pool e) (written_frames names e) small sized in
        omega (arith, all, one, two, three, l, v, k, m)

    -- the whole text
    pub written_few : length (twin_code pool fetch giver place frames_name names e) ≤ 4294967295
    unfolding twin_code
    written_few =
        let code = with_place fetch giver place (chosen_text e.code) in
        let rows = counted_text (row_text offset) e.handlers in
        let rest = counted_text attribute_text (code_attributes pool frames_name e (written_frames names e)) in
        let stack_size = short_size e.max_stack in
        let locals_size = short_size e.max_locals in
        let code_size = word_size (length code) in
        let same = placed_size fetch giver place (chosen_text e.code) in
        let few = code_count in
        let rows_size = rows_few in
        let attributes_size = attributes_few in
        let one = length-append (short e.max_stack) (short e.max_locals ++ (word (length code) ++ (code ++ (rows ++ rest)))) in
        let two = length-append (short e.max_locals) (word (length code) ++ (code ++ (rows ++ rest))) in
        let three = length-append (word (length code)) (code ++ (rows ++ rest)) in
        let four = length-append code (rows ++ rest) in
        let five = length-append rows rest in
        omega (arith, stack_size, locals_size, code_size, same, few, rows_size, attributes_size, one, two, three, four, five)
