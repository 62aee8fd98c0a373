-- The Code attribute of the added method is read as it was written (JVM Specification 4.7.3).
use Rattle.std.proofs.Common.{◌≡◌, ℕ, ◌+◌, ◌-◌, ◌≤◌, false, List, [], ◌∷◌, ◌++◌, length, refl, sym, subst, arith, length-append}
use Rattle.std.proofs.lemmas.List.{append-nil}
use Rattle.std.specs.Str.{bytes_eq}
use Rattle.jc_bytes.specs.Counted.{counted}
use Rattle.jc_bytes.specs.Grammar.{Grammar}
use Rattle.jc_bytes.specs.BigNumbers.{short}
use Rattle.jc_methods.specs.declared.probe_members.Fetch.TheVariants as fetches
use Rattle.jc_frames.specs.FullFrames as frames
use Rattle.jc_insn.proofs.ReadBackLaws.{big_short, short_size}
use Rattle.jc_pool.specs.Pool.{PoolValue}
use Rattle.jc_class.specs.declared.class_file.Member.{Member}
use Rattle.jc_body.specs.Attributes.{AreEntries, AreTables, bodies_of}
use Rattle.jc_body.specs.CodeForm.{code_form, line_table, row, var_table, IsCodeText}
use Rattle.jc_body.specs.Coded.{HasCode, IsCoded}
use Rattle.jc_body.specs.StackMap.{stack_maps}
use Rattle.jc_emit.specs.Added.{end_place, init_frame, init_stack}
use Rattle.jc_instrument_code.specs.InitText.{end_offset, init_bytes, init_frame_places, init_frames, init_text, named_places, count_text}
use Rattle.jc_instrument_code.specs.TwinCode.{kind_vars_name, lines_name, vars_name}
use Rattle.jc_instrument_code.specs.declared.init.AddedPlaces.{AddedPlaces}
use Rattle.jc_instrument_code.proofs.InitLaws.{init_size, count_few}
use Rattle.jc_instrument_reread.specs.InitRead.{IsWrittenInit, init_coded, init_items}
use Rattle.jc_instrument_reread.specs.WrittenCode.{frames_name}
use Rattle.jc_instrument_reread.proofs.CodedLaws.{form_text, readable}
use Rattle.jc_instrument_reread.proofs.InitCodeLaws.{init_spelled}
use Rattle.jc_instrument_reread.proofs.NamedLaws.{all_bodies, no_bodies}

-- ---- the frame

-- its text has few bytes
frame_few : (array : ℕ) (pushed : List ℕ)
    → length (frames.table_text (init_frame_places array (end_offset pushed)) (record { at = end_place; state = init_frame } ∷ [])) ≤ 4294967295
unfolding short
frame_few array pushed =
    let last = (7 ∷ short array) ++ [] in
    let one = short 1 in
    let stack = one ++ last in
    let locals = short 0 ++ [] in
    let types = locals ++ stack in
    let offset = short (end_offset pushed - 0) in
    let frame = 255 ∷ (offset ++ types) in
    let l₁ = length-append one (frame ++ []) in
    let l₂ = length-append frame [] in
    let l₃ = length-append offset types in
    let l₄ = length-append locals stack in
    let l₅ = length-append (short 0) [] in
    let l₆ = length-append one last in
    let l₇ = length-append (7 ∷ short array) [] in
    let a = short_size 1 in
    let b = short_size (end_offset pushed - 0) in
    let c = short_size 0 in
    let d = short_size array in
    omega (arith, l₁, l₂, l₃, l₄, l₅, l₆, l₇, a, b, c, d)

-- ---- the attribute

module _ (pool : PoolValue) (p : AddedPlaces) (count : ℕ) (w : IsWrittenInit fetches.Member pool p) where
  abbrev pushed : List ℕ
  pushed = count_text p.count count

  no_rows : (counted row).Text (short 0) []
  no_rows = (0, short 0, [], sym (append-nil (short 0)), big_short 0 (omega arith), (refl, refl))

  size_is : length (init_bytes (named_places p) pushed) ≡ 22 + length pushed
  size_is = init_size (named_places p) pushed

  items_read : (code_form pool).Text (init_text (named_places p) p.frames p.array count) (init_items p count)
  items_read =
      let size = size_is in
      let few = count_few p.count count in
      form_text pool init_stack 0 (init_bytes (named_places p) pushed) (short 0) [] (init_frames p.frames p.array pushed ∷ []) (omega arith) (omega arith)
      (omega (arith, size, few)) no_rows (omega arith)
      (readable pool w.pool_few (init_frames p.frames p.array pushed ∷ []) ((frames_name, w.field.1), tt) (frame_few p.array pushed, tt))

  text_read : IsCodeText pool (init_text (named_places p) p.frames p.array count) (init_items p count)
  text_read = record {
    text = items_read;
    some = let size = size_is in omega (arith, size);
    few = let size = size_is in let few = count_few p.count count in omega (arith, size, few);
  }

  -- the method that has this code is read so
  pub init_coded_back : (method : Member) → HasCode pool method (init_text (named_places p) p.frames p.array count) → IsCoded pool method (init_coded p count)
  init_coded_back method code = record {
    items = record { bytes = init_text (named_places p) p.frames p.array count; code = code; text = text_read };
    spelled = init_spelled (named_places p) count w.count w.field.0 w.id w.name w.fetch_method;
  }

  no_entries : {X : Type 0} (table : Grammar (List X)) (name : List ℕ) → bytes_eq frames_name name ≡ false
      → AreEntries table (bodies_of pool name (init_items p count).attributes) []
  no_entries table name other =
      subst (λ (l : List (List ℕ)). AreEntries table l []) (sym (no_bodies pool name frames_name other (init_items p count).attributes (w.field.1, tt)))
      refl

  -- it has no other attribute than its frames'
  pub init_tables_back : AreTables pool (init_items p count).attributes (record { lines = []; vars = []; kind_vars = [] })
  init_tables_back = record {
    lines = no_entries line_table lines_name refl;
    vars = no_entries var_table vars_name refl;
    kind_vars = no_entries var_table kind_vars_name refl;
  }

  pub init_stack_maps : stack_maps pool (init_coded p count)
      ≡ frames.table_text (init_frame_places p.array (end_offset pushed)) (record { at = end_place; state = init_frame } ∷ []) ∷ []
  init_stack_maps = all_bodies pool frames_name (init_frames p.frames p.array pushed ∷ []) (w.field.1, tt)
