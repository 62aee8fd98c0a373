-- The tables of written code are read as they were written (JVM Specification 4.7.12 to 4.7.14).
use Rattle.std.proofs.Common.{◌≡◌, ℕ, ◌<◌, ◌≤◌, List, [], ◌∷◌, ◌++◌, map, refl, sym, ◌∙◌, ap, subst, arith}
use Rattle.std.specs.List.{AllByRecursion}
use Rattle.std.proofs.lemmas.List.{append-nil}
use Rattle.jc_methods.specs.VerificationTypes.{Names}
use Rattle.jc_methods.specs.WellMade.{IsVar}
use Rattle.jc_methods.specs.declared.body.VarAt.{VarAt}
use Rattle.jc_methods.specs.declared.emitted.Emitted.{Emitted}
use Rattle.jc_methods.specs.declared.probe_members.Fetch.{Fetch}
use Rattle.jc_pool.specs.Pool.{PoolValue}
use Rattle.jc_class.specs.declared.class_file.Attribute.{Attribute}
use Rattle.jc_body.specs.Attributes.{AreEntries, AreTables, bodies_of}
use Rattle.jc_body.specs.CodeForm.{line_entry, line_table, var_entry, var_table}
use Rattle.jc_body.specs.StackMap.{stack_maps}
use Rattle.jc_instrument_code.specs.CodeText.{frame_attributes, line_text, table_attributes, var_text}
use Rattle.jc_instrument_code.specs.TwinCode.{code_attributes, kind_vars_name, lines_name, offset_in, places_of, vars_name, written_frames}
use Rattle.jc_instrument_code.specs.declared.code.CodePlaces.{CodePlaces}
use Rattle.jc_instrument_reread.specs.ReadCode.{line_at, var_at, written_coded, written_tables}
use Rattle.jc_instrument_reread.specs.WrittenCode.{IsShortVar, IsWrittenCode, frames_name}
use Rattle.jc_instrument_reread.proofs.CodedLaws.{frames_are_named, kind_vars_named, lines_named, offsets_short, placed_are, vars_named}
use Rattle.jc_instrument_reread.proofs.EntryTextLaws.{IsShortEntry, lines_are, vars_are}
use Rattle.jc_instrument_reread.proofs.NamedLaws.{IsNamed, all_bodies, four_bodies, no_bodies}
use Rattle.jc_instrument_reread.proofs.PartTextLaws.{table_entries}

-- what attributes hold
abbrev pub held : List Attribute → List (List ℕ)
held attributes = map (λ a. a.body) attributes

-- the places in an entry are numbers of two bytes, and so is its local variable, which is one of so many
short_vars : (count most : ℕ) (vars : List VarAt) → most ≤ 65535 → AllByRecursion IsShortVar vars → AllByRecursion (IsVar count most) vars
    → AllByRecursion IsShortEntry vars
short_vars count most [] le short are = tt
short_vars count most (x ∷ vars) le short are = (
  record { name = short.0.name; desc = short.0.desc; slot = let slot = are.0.slot in omega (arith, slot, le) },
  short_vars count most vars le short.1 are.1,
)

module _ (pool : PoolValue) (fetch : Fetch) (places : CodePlaces) (names : Names) (e : Emitted) (w : IsWrittenCode pool fetch places names e) where
  abbrev at : ℕ → ℕ
  at = offset_in e

  abbrev lines_written : List Attribute
  lines_written = table_attributes places.lines (line_text at) e.lines

  abbrev vars_written : List Attribute
  vars_written = table_attributes places.vars (var_text at) e.vars

  abbrev kind_vars_written : List Attribute
  kind_vars_written = table_attributes places.kind_vars (var_text at) e.kind_vars

  abbrev frames_written : List Attribute
  frames_written = frame_attributes places.frames (places_of pool e) (written_frames names e)

  abbrev written : List Attribute
  written = code_attributes pool places.frames e (written_frames names e)

  lines_are_named : AllByRecursion (IsNamed pool lines_name) lines_written
  lines_are_named = lines_named pool fetch places names e w

  vars_are_named : AllByRecursion (IsNamed pool vars_name) vars_written
  vars_are_named = vars_named pool fetch places names e w

  kind_vars_are_named : AllByRecursion (IsNamed pool kind_vars_name) kind_vars_written
  kind_vars_are_named = kind_vars_named pool fetch places names e w

  all_frames_named : AllByRecursion (IsNamed pool frames_name) frames_written
  all_frames_named = frames_are_named pool fetch places names e w

  -- what stands under a name, by what stands there in each of the four lists
  bodies_by : (name : List ℕ) (k l m n : List (List ℕ)) → bodies_of pool name lines_written ≡ k → bodies_of pool name vars_written ≡ l
      → bodies_of pool name kind_vars_written ≡ m → bodies_of pool name frames_written ≡ n → bodies_of pool name written ≡ k ++ (l ++ (m ++ n))
  bodies_by name k l m n p q r s =
      ap (bodies_of pool name) (sym (placed_are pool fetch places names e w))
      ∙ four_bodies pool name lines_written vars_written kind_vars_written frames_written k l m n p q r s

  line_bodies : bodies_of pool lines_name written ≡ held lines_written
  line_bodies =
      bodies_by lines_name (held lines_written) [] [] [] (all_bodies pool lines_name lines_written lines_are_named)
      (no_bodies pool lines_name vars_name refl vars_written vars_are_named)
      (no_bodies pool lines_name kind_vars_name refl kind_vars_written kind_vars_are_named)
      (no_bodies pool lines_name frames_name refl frames_written all_frames_named)
      ∙ append-nil (held lines_written)

  var_bodies : bodies_of pool vars_name written ≡ held vars_written
  var_bodies =
      bodies_by vars_name [] (held vars_written) [] [] (no_bodies pool vars_name lines_name refl lines_written lines_are_named)
      (all_bodies pool vars_name vars_written vars_are_named)
      (no_bodies pool vars_name kind_vars_name refl kind_vars_written kind_vars_are_named)
      (no_bodies pool vars_name frames_name refl frames_written all_frames_named)
      ∙ append-nil (held vars_written)

  kind_var_bodies : bodies_of pool kind_vars_name written ≡ held kind_vars_written
  kind_var_bodies =
      bodies_by kind_vars_name [] [] (held kind_vars_written) [] (no_bodies pool kind_vars_name lines_name refl lines_written lines_are_named)
      (no_bodies pool kind_vars_name vars_name refl vars_written vars_are_named)
      (all_bodies pool kind_vars_name kind_vars_written kind_vars_are_named)
      (no_bodies pool kind_vars_name frames_name refl frames_written all_frames_named)
      ∙ append-nil (held kind_vars_written)

  -- what the StackMapTable attributes hold
  pub stack_maps_back : (integer : ℕ → ℕ) → stack_maps pool (written_coded pool fetch places integer names e) ≡ held frames_written
  stack_maps_back integer =
      bodies_by frames_name [] [] [] (held frames_written) (no_bodies pool frames_name lines_name refl lines_written lines_are_named)
      (no_bodies pool frames_name vars_name refl vars_written vars_are_named)
      (no_bodies pool frames_name kind_vars_name refl kind_vars_written kind_vars_are_named)
      (all_bodies pool frames_name frames_written all_frames_named)

  -- ---- entries

  few_offsets : (k : ℕ) → at k < 65536
  few_offsets = offsets_short pool fetch places names e w

  lines_back : AreEntries line_table (held lines_written) (map (line_at at) e.lines)
  unfolding line_table
  lines_back = table_entries line_entry (line_text at) (line_at at) places.lines e.lines (lines_are at few_offsets e.lines w.numbers.lines)

  vars_back : (place : ℕ) (vars : List VarAt) → AllByRecursion IsShortEntry vars
      → AreEntries var_table (held (table_attributes place (var_text at) vars)) (map (var_at at) vars)
  unfolding var_table
  vars_back place vars short = table_entries var_entry (var_text at) (var_at at) place vars (vars_are at few_offsets vars short)

  -- the entries of the tables are those that were written
  pub tables_back : (count : ℕ) → AllByRecursion (IsVar count e.max_locals) e.vars → AllByRecursion (IsVar count e.max_locals) e.kind_vars
      → AreTables pool written (written_tables e)
  tables_back count vars kind_vars = record {
    lines = subst (λ (l : List (List ℕ)). AreEntries line_table l (map (line_at at) e.lines)) (sym line_bodies) lines_back;
    vars = subst (λ (l : List (List ℕ)). AreEntries var_table l (map (var_at at) e.vars)) (sym var_bodies)
        (vars_back places.vars e.vars (short_vars count e.max_locals e.vars w.locals w.numbers.vars vars));
    kind_vars = subst (λ (l : List (List ℕ)). AreEntries var_table l (map (var_at at) e.kind_vars)) (sym kind_var_bodies)
        (vars_back places.kind_vars e.kind_vars (short_vars count e.max_locals e.kind_vars w.locals w.numbers.kind_vars kind_vars));
  }
