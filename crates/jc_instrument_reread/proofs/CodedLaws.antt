-- A Code attribute is read as it was written (JVM Specification 4.7.3).
use Rattle.std.proofs.Common.{◌≡◌, ℕ, ◌<◌, ◌≤◌, List, [], ◌∷◌, ◌++◌, length, map, refl, sym, ◌∙◌, ap, subst, arith}
use Rattle.std.specs.List.{AllByRecursion, flat_map}
use Rattle.std.proofs.lemmas.List.{append-nil}
use Rattle.jc_bytes.proofs.EachLaws.{all_both, all_weaker}
use Rattle.jc_bytes.specs.Counted.{counted}
use Rattle.jc_bytes.specs.BigNumbers.{short, word}
use Rattle.jc_methods.specs.VerificationTypes.{Names, TypeStateAt}
use Rattle.jc_methods.specs.WellMade.{IsWellMadeOfAnySize}
use Rattle.jc_methods.specs.declared.body.Body.{Body}
use Rattle.jc_methods.specs.declared.emitted.Emitted.{Emitted}
use Rattle.jc_methods.specs.declared.kind.State.{State}
use Rattle.jc_methods.specs.declared.probe_members.Fetch.{Fetch}
use Rattle.jc_methods.specs.declared.probe_members.Fetch.TheVariants as fetches
use Rattle.jc_insn.specs.Spells.{Spells}
use Rattle.jc_insn.proofs.ReadBackLaws.{big_short, big_word}
use Rattle.jc_pool.specs.Pool.{PoolValue}
use Rattle.jc_class.specs.ClassFormat.{HasText}
use Rattle.jc_class.specs.declared.class_file.Attribute.{Attribute}
use Rattle.jc_class.specs.declared.class_file.Member.{Member}
use Rattle.jc_body.specs.CodeForm.{code_form, row, IsCodeText}
use Rattle.jc_body.specs.Coded.{HasCode, IsCoded}
use Rattle.jc_body.specs.declared.items.Row.{Row}
use Rattle.jc_emit.specs.Emission.{Emitting, emission}
use Rattle.jc_emit.specs.Marks.{TwinPlaces, prelude_size}
use Rattle.jc_layout.specs.LaidBody.{laid_body, with_place}
use Rattle.jc_layout.specs.Layout.{chosen_length, chosen_starts, chosen_text, chosen_list}
use Rattle.jc_layout.proofs.SpelledLaws.{laid_spells, placed_size}
use Rattle.jc_layout.proofs.LayableLaws.{ready_length}
use Rattle.jc_layout.proofs.ChoiceLaws.{text_length}
use Rattle.jc_instrument_code.specs.CodeText.{attribute_text, code_text, counted_text, frame_attributes, line_text, row_text, table_attributes, var_text}
use Rattle.jc_instrument_code.specs.TwinCode.{attributes_by, code_attributes, kind_vars_name, lines_name, offset_in, places_of, tables_in, twin_code, vars_name, written_frames}
use Rattle.jc_instrument_code.specs.declared.code.CodePlaces.{CodePlaces}
use Rattle.jc_instrument_code.proofs.FirstPlaceLaws.{text_within}
use Rattle.jc_instrument_code.proofs.NamedLaws.{are_named}
use Rattle.jc_instrument_reread.specs.ReadCode.{code_places, row_at, written_coded, written_insns, written_items, written_starts}
use Rattle.jc_instrument_reread.specs.WrittenCode.{ready_emission, IsWrittenCode, frames_name}
use Rattle.jc_instrument_reread.proofs.CodeSizeLaws.{attributes_few, attributes_in, bodies_short}
use Rattle.jc_instrument_reread.proofs.EntryTextLaws.{IsReadable, attributes_are, counted_is, rows_are}
use Rattle.jc_instrument_reread.proofs.LandLaws.{code_length}
use Rattle.jc_instrument_reread.proofs.NamedLaws.{IsNamed}
use Rattle.jc_instrument_reread.proofs.OffsetLaws.{most_offset, some_length}
use Rattle.jc_instrument_reread.proofs.PartTextLaws.{frames_named, table_named}

-- ---- preludes

some_prelude : (fetch : Fetch) → 1 ≤ prelude_size fetch
some_prelude fetches.Member = omega arith
some_prelude fetches.Constant = omega arith

-- ---- any text of code

-- numbers that fit, a list of rows and readable attributes are read as they stand
pub form_text : (pool : PoolValue) (max_stack max_locals : ℕ) (code rows_text : List ℕ) (rows : List Row) (attributes : List Attribute)
    → max_stack < 65536 → max_locals < 65536 → length code < 4294967296 → (counted row).Text rows_text rows
    → length attributes < 65536 → AllByRecursion (IsReadable pool) attributes
    → (code_form pool).Text (code_text max_stack max_locals code rows_text attributes)
    (record { max_stack = max_stack; max_locals = max_locals; code = code; rows = rows; attributes = attributes })
unfolding code_form
form_text pool max_stack max_locals code rows_text rows attributes stack locals short_code rows_are few readable =
    let last = counted_text attribute_text attributes in (
      max_stack,
      short max_stack,
      short max_locals ++ (word (length code) ++ (code ++ (rows_text ++ last))),
      refl,
      big_short max_stack stack,
      (
        max_locals,
        short max_locals,
        word (length code) ++ (code ++ (rows_text ++ last)),
        refl,
        big_short max_locals locals,
        (
          length code,
          word (length code),
          code ++ (rows_text ++ last),
          refl,
          big_word (length code) short_code,
          (
            code,
            code,
            rows_text ++ last,
            refl,
            (refl, refl),
            (
              rows,
              rows_text,
              last,
              refl,
              rows_are,
              (attributes, last, [], sym (append-nil last), attributes_are pool attributes few readable, (refl, refl)),
            ),
          ),
        ),
      ),
    )

-- ---- attributes

module _ (pool : PoolValue) (few : length pool ≤ 65535) where
  readable_one : (a : Attribute) → HasText pool a.name → length a.body ≤ 4294967295 → IsReadable pool a
  readable_one a (text, named) short = record {
    named = (text, named);
    place = let within = text_within pool a.name text named in omega (arith, within, few);
    size = omega (arith, short);
  }

  pub readable : (attributes : List Attribute) → AllByRecursion (λ a. HasText pool a.name) attributes
      → AllByRecursion (λ a. length a.body ≤ 4294967295) attributes → AllByRecursion (IsReadable pool) attributes
  readable [] named short = tt
  readable (a ∷ rest) named short = (readable_one a named.0 short.0, readable rest named.1 short.1)

-- ---- the written code

module _ (pool : PoolValue) (fetch : Fetch) (places : CodePlaces) (names : Names) (e : Emitted) (w : IsWrittenCode pool fetch places names e) where
  abbrev offset : ℕ → ℕ
  offset = offset_in e

  abbrev frames : List TypeStateAt
  frames = written_frames names e

  -- the attributes, with their names at the places that are given
  abbrev placed : List Attribute
  placed = attributes_by places.lines places.vars places.kind_vars places.frames (places_of pool e) (tables_in e) frames

  pub offsets_short : (k : ℕ) → offset k < 65536
  offsets_short k = let most = most_offset e.code k in let few = w.few in omega (arith, most, few)

  pub placed_are : placed ≡ code_attributes pool places.frames e frames
  placed_are = are_named pool e places places.frames frames w.named

  abbrev has_text : Attribute → Type 0
  has_text a = HasText pool a.name

  with_text : (name : List ℕ) (attributes : List Attribute) → AllByRecursion (IsNamed pool name) attributes → AllByRecursion has_text attributes
  with_text name attributes all = all_weaker (IsNamed pool name) has_text (λ a named. (name, named)) attributes all

  abbrev lines_written : List Attribute
  lines_written = table_attributes places.lines (line_text offset) e.lines

  abbrev vars_written : List Attribute
  vars_written = table_attributes places.vars (var_text offset) e.vars

  abbrev kind_vars_written : List Attribute
  kind_vars_written = table_attributes places.kind_vars (var_text offset) e.kind_vars

  abbrev frames_written : List Attribute
  frames_written = frame_attributes places.frames (places_of pool e) frames

  pub lines_named : AllByRecursion (IsNamed pool lines_name) lines_written
  lines_named = table_named pool lines_name places.lines (line_text offset) e.lines w.named.lines

  pub vars_named : AllByRecursion (IsNamed pool vars_name) vars_written
  vars_named = table_named pool vars_name places.vars (var_text offset) e.vars w.named.vars

  pub kind_vars_named : AllByRecursion (IsNamed pool kind_vars_name) kind_vars_written
  kind_vars_named = table_named pool kind_vars_name places.kind_vars (var_text offset) e.kind_vars w.named.kind_vars

  pub frames_are_named : AllByRecursion (IsNamed pool frames_name) frames_written
  frames_are_named = frames_named pool places.frames (places_of pool e) frames w.frames_named

  all_named : AllByRecursion has_text placed
  all_named =
      all_both has_text lines_written (vars_written ++ (kind_vars_written ++ frames_written)) (with_text lines_name lines_written lines_named)
      (all_both has_text vars_written (kind_vars_written ++ frames_written) (with_text vars_name vars_written vars_named)
      (all_both has_text kind_vars_written frames_written (with_text kind_vars_name kind_vars_written kind_vars_named)
      (with_text frames_name frames_written frames_are_named)))

  texts_short : length (flat_map attribute_text placed) ≤ 4294967295
  unfolding twin_code
  texts_short =
      let all = code_attributes pool places.frames e frames in
      let within = attributes_in e.max_stack e.max_locals (with_place fetch places.giver places.array (chosen_text e.code)) (counted_text (row_text offset) e.handlers) all in
      let same = ap (λ (l : List Attribute). length (flat_map attribute_text l)) placed_are in
      let size = w.size in
      omega (arith, within, same, size)

  attributes_count : length (code_attributes pool places.frames e frames) < 65536
  attributes_count =
      subst (λ (l : List Attribute). length l < 65536) placed_are
      (attributes_few offset places.lines places.vars places.kind_vars places.frames (places_of pool e) e.lines e.vars e.kind_vars frames texts_short)

  attributes_readable : AllByRecursion (IsReadable pool) (code_attributes pool places.frames e frames)
  attributes_readable =
      subst (AllByRecursion (IsReadable pool)) placed_are
      (readable pool w.pool_few placed all_named (bodies_short 4294967295 placed texts_short))

  pub code_size : length (with_place fetch places.giver places.array (chosen_text e.code)) ≡ chosen_length e.code
  code_size = placed_size fetch places.giver places.array (chosen_text e.code) ∙ text_length e.code

  -- the text is of the form of a Code attribute
  items_read : (code_form pool).Text (twin_code pool fetch places.giver places.array places.frames names e) (written_items pool fetch places names e)
  unfolding twin_code
  items_read =
      let stack = w.stack in
      let locals = w.locals in
      let rows = w.rows in
      let few = w.few in
      let size = code_size in
      form_text pool e.max_stack e.max_locals (with_place fetch places.giver places.array (chosen_text e.code)) (counted_text (row_text offset) e.handlers)
      (map (row_at offset) e.handlers) (code_attributes pool places.frames e frames) (omega (arith, stack)) (omega (arith, locals))
      (omega (arith, size, few))
      (counted_is row (row_text offset) (row_at offset) e.handlers (omega (arith, rows)) (rows_are offset offsets_short e.handlers w.numbers.classes))
      attributes_count attributes_readable

  pub code_text_read : 1 ≤ length e.code → IsCodeText pool (twin_code pool fetch places.giver places.array places.frames names e) (written_items pool fetch places names e)
  code_text_read some = record {
    text = items_read;
    some = let bytes = some_length e.code some in let size = code_size in omega (arith, bytes, size);
    few = let few = w.few in let size = code_size in omega (arith, few, size);
  }

-- ---- of a body

module _ (b : Body) (first : ℕ) (states : List State) (given : Emitting) (well : IsWellMadeOfAnySize b) (pool : PoolValue) (places : CodePlaces) (names : Names)
    (w : IsWrittenCode pool given.fetch places names (ready_emission b first states given places.giver)) where
  abbrev e : Emitted
  e = ready_emission b first states given places.giver

  abbrev p : TwinPlaces
  p = code_places places given.integer

  insns_spelled : Spells (with_place given.fetch places.giver places.array (chosen_text e.code)) (written_insns given.fetch p e) (written_starts e)
  unfolding laid_body
  insns_spelled =
      laid_spells b first states given (chosen_list e.code) p [] (chosen_text e.code) (chosen_starts e.code) well w.giver w.array refl w.spelled

  some_insns : 1 ≤ length e.code
  some_insns =
      let size = code_length b first states given well in
      let same = ready_length given.fetch places.giver (emission b first states given).code in
      let some = some_prelude given.fetch in
      omega (arith, size, same, some)

  -- the method that has this code is read so
  pub coded_back : (method : Member) → HasCode pool method (twin_code pool given.fetch places.giver places.array places.frames names e)
      → IsCoded pool method (written_coded pool given.fetch places given.integer names e)
  coded_back method code = record {
    items = record {
      bytes = twin_code pool given.fetch places.giver places.array places.frames names e;
      code = code;
      text = code_text_read pool given.fetch places names e w some_insns;
    };
    spelled = insns_spelled;
  }
