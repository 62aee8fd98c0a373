-- The entries of the tables of written code, by instruction numbers, are those of the body that stands in the layout.
use Rattle.std.proofs.Common.{◌≡◌, ◌⊎◌, inl, inr, ℕ, ◌+◌, ◌-◌, ◌<◌, ◌≤◌, Bool, true, ◌&&◌, ◌||◌, List, length, map, nat_eq, nat_lt, sym, ◌∙◌, ap, ap₂, subst, arith}
use Rattle.std.specs.List.{AllByRecursion}
use Rattle.std.specs.Prelude.{slice_index}
use Rattle.std.proofs.Math.Bool.{or-true}
use Rattle.std.proofs.lemmas.Bool.{cases_lt, eq-eqb, lt-ltb}
use Rattle.jc_bytes.proofs.EachLaws.{all_weaker}
use Rattle.jc_methods.specs.VerificationTypes.{Names}
use Rattle.jc_methods.specs.Starts.{insn_number}
use Rattle.jc_methods.specs.WellMade.{IsLine, IsVar, IsWellMadeOfAnySize}
use Rattle.jc_methods.specs.declared.body.Body.{Body}
use Rattle.jc_methods.specs.declared.body.Handler.{Handler}
use Rattle.jc_methods.specs.declared.body.LineAt.{LineAt}
use Rattle.jc_methods.specs.declared.body.Use.{Use}
use Rattle.jc_methods.specs.declared.body.VarAt.{VarAt}
use Rattle.jc_methods.specs.declared.emitted.Emitted.{Emitted}
use Rattle.jc_methods.specs.declared.insn.Insn.{Insn}
use Rattle.jc_methods.specs.declared.kind.State.{State}
use Rattle.jc_methods.specs.declared.probe_members.Fetch.{Fetch}
use Rattle.jc_pool.specs.Pool.{PoolValue}
use Rattle.jc_body.specs.Attributes.{AreTables}
use Rattle.jc_body.specs.BodyOf.{handler_of, is_start, keeps_line, keeps_var, line_of, lines_of, var_of, vars_in, vars_of}
use Rattle.jc_emit.specs.Sizes.{narrow}
use Rattle.jc_emit.specs.Emission.{Emitting, emission}
use Rattle.jc_emit.specs.Items.{lead_of}
use Rattle.jc_emit.specs.Marks.{TwinPlaces}
use Rattle.jc_emit.specs.TwinTables.{moved_line, moved_row}
use Rattle.jc_layout.specs.LaidBody.{laid_body, laid_place, placed_var, with_prelude, with_place}
use Rattle.jc_layout.specs.Layout.{laid_code, laid_starts, chosen_length, chosen_starts, chosen_text, chosen_list}
use Rattle.jc_layout.proofs.LayableLaws.{ready_length}
use Rattle.jc_instrument_code.specs.TwinCode.{code_attributes, offset_in, written_frames}
use Rattle.jc_instrument_code.specs.declared.code.CodePlaces.{CodePlaces}
use Rattle.jc_instrument_reread.specs.ReadCode.{code_places, line_at, row_at, var_at, written_coded, written_insns, written_starts, written_tables}
use Rattle.jc_instrument_reread.specs.WrittenCode.{ready_emission, IsWrittenCode}
use Rattle.jc_instrument_reread.proofs.CodedLaws.{code_size}
use Rattle.jc_instrument_reread.proofs.EntriesLaws.{IsKeptAs, same_items, same_kept}
use Rattle.jc_instrument_reread.proofs.LandLaws.{IsRowIn, code_length, kind_vars_stand, lines_stand, locals_are, rows_stand, vars_stand}
use Rattle.jc_instrument_reread.proofs.OffsetLaws.{number_at, offsets_grow, place_within}
use Rattle.jc_instrument_reread.proofs.TableLaws.{tables_back}

-- ---- entry by entry

module _ (code : List Insn) (fetch : Fetch) (p : TwinPlaces) where
  abbrev offset : ℕ → ℕ
  offset k = slice_index (chosen_starts code) k

  abbrev place : ℕ → ℕ
  place = laid_place (chosen_list code) code

  abbrev number : ℕ → ℕ
  number = insn_number (laid_starts (chosen_list code) code (chosen_starts code))

  abbrev count : ℕ
  count = length (with_prelude fetch p (laid_code (chosen_list code) code))

  row_same : (h : Handler) → IsRowIn (length code) h → handler_of number (row_at offset h) ≡ moved_row place place h
  row_same h is = λ i. record {
    start = number_at code h.start is.start i;
    end = number_at code h.end is.end i;
    target = number_at code h.target is.target i;
    class = h.class;
  }

  starts_there : (k : ℕ) → k < length code → is_start number count (offset k) ≡ true
  starts_there k lt =
      let there = number_at code k (omega (arith, lt)) in
      let within = place_within code fetch p k lt in
      lt-ltb (number (offset k)) count (omega (arith, there, within))

  line_same : (l : LineAt) → IsLine (length code) l → IsKeptAs (keeps_line number count) (line_of number) (line_at offset) (moved_line place) l
  line_same l lt = record {
    kept = starts_there l.at lt;
    same = λ i. record { at = number_at code l.at (omega (arith, lt)) i; line = l.line };
  }

  -- the end of a variable's range
  end_is : (x : VarAt) → x.start ≤ x.end → x.end ≤ length code → offset x.start + (offset x.end - offset x.start) ≡ offset x.end
  end_is x ordered within = let grow = offsets_grow code x.start x.end ordered within in omega (arith, grow)

  end_kept : (k size : ℕ) → k ≤ length code → size ≡ chosen_length code → (is_start number count (offset k) || nat_eq (offset k) size) ≡ true
  end_kept k size le size_is = by (cases_lt k (length code))
    where
      by : (k < length code) ⊎ (length code ≤ k) → (is_start number count (offset k) || nat_eq (offset k) size) ≡ true
      by (inl lt) = ap (λ (t : Bool). t || nat_eq (offset k) size) (starts_there k lt)
      by (inr past) =
          let last : k ≡ length code = omega (arith, le, past) in
          let is = ap offset last in
          ap (λ (t : Bool). is_start number count (offset k) || t) (eq-eqb (offset k) size (omega (arith, is, size_is)))
          ∙ or-true (is_start number count (offset k))

  var_same : (size most : ℕ) → size ≡ chosen_length code → (x : VarAt) → IsVar (length code) most x
      → IsKeptAs (keeps_var number count size most) (var_of number) (var_at offset) (placed_var place) x
  var_same size most size_is x is =
      let end = end_is x is.ordered is.end in
      let start = is.start in record {
        kept =
            ap (λ (t : Bool). t && ((is_start number count (offset x.start + (offset x.end - offset x.start))
            || nat_eq (offset x.start + (offset x.end - offset x.start)) size) && nat_lt x.slot most)) (starts_there x.start start)
            ∙ ap₂ (λ (t u : Bool). t && u)
            (ap (λ (k : ℕ). is_start number count k || nat_eq k size) end ∙ end_kept x.end size is.end size_is)
            (lt-ltb x.slot most is.slot);
        same = λ i. record {
          start = number_at code x.start (omega (arith, start)) i;
          end = (ap number end ∙ number_at code x.end is.end) i;
          name = x.name;
          desc = x.desc;
          slot = x.slot;
        };
      }

  rows_same : (rows : List Handler) → AllByRecursion (IsRowIn (length code)) rows
      → map (handler_of number) (map (row_at offset) rows) ≡ map (moved_row place place) rows
  rows_same rows all =
      same_items (handler_of number) (row_at offset) (moved_row place place) rows
      (all_weaker (IsRowIn (length code)) (λ h. handler_of number (row_at offset h) ≡ moved_row place place h) row_same rows all)

  lines_same : (lines : List LineAt) → AllByRecursion (IsLine (length code)) lines
      → lines_of number count (map (line_at offset) lines) ≡ map (moved_line place) lines
  lines_same lines all =
      same_kept (keeps_line number count) (line_of number) (line_at offset) (moved_line place) lines
      (all_weaker (IsLine (length code)) (IsKeptAs (keeps_line number count) (line_of number) (line_at offset) (moved_line place)) line_same lines all)

  vars_same : (size most : ℕ) → size ≡ chosen_length code → (vars : List VarAt) → AllByRecursion (IsVar (length code) most) vars
      → vars_of number count size most (map (var_at offset) vars) ≡ map (placed_var place) vars
  vars_same size most size_is vars all =
      same_kept (keeps_var number count size most) (var_of number) (var_at offset) (placed_var place) vars
      (all_weaker (IsVar (length code) most) (IsKeptAs (keeps_var number count size most) (var_of number) (var_at offset) (placed_var place))
      (var_same size most size_is) vars all)

-- ---- of a body

module _ (b : Body) (first : ℕ) (states : List State) (given : Emitting) (well : IsWellMadeOfAnySize b) (pool : PoolValue) (places : CodePlaces) (names : Names)
    (w : IsWrittenCode pool given.fetch places names (ready_emission b first states given places.giver)) where
  abbrev e : Emitted
  e = ready_emission b first states given places.giver

  abbrev p : TwinPlaces
  p = code_places places given.integer

  abbrev end : ℕ
  end = length e.code

  abbrev laid : List Use → Body
  laid uses = laid_body b e (chosen_list e.code) given.fetch p uses

  abbrev last : ℕ
  last = lead_of b first (narrow given.fetch) (length b.code)

  ends_there : end ≡ last
  ends_there = ready_length given.fetch places.giver (emission b first states given).code ∙ code_length b first states given well

  all_rows : AllByRecursion (IsRowIn end) e.handlers
  all_rows = subst (λ (n : ℕ). AllByRecursion (IsRowIn n) e.handlers) (sym ends_there) (rows_stand b first states given well)

  all_lines : AllByRecursion (IsLine end) e.lines
  all_lines = subst (λ (n : ℕ). AllByRecursion (IsLine n) e.lines) (sym ends_there) (lines_stand b first states given well)

  locals : e.max_locals ≡ b.max_locals + 1
  locals = locals_are b first states given well

  all_vars : AllByRecursion (IsVar end e.max_locals) e.vars
  all_vars =
      subst (λ (n : ℕ). AllByRecursion (IsVar n e.max_locals) e.vars) (sym ends_there)
      (subst (λ (n : ℕ). AllByRecursion (IsVar last n) e.vars) (sym locals) (vars_stand b first states given well))

  all_kind_vars : AllByRecursion (IsVar end e.max_locals) e.kind_vars
  all_kind_vars =
      subst (λ (n : ℕ). AllByRecursion (IsVar n e.max_locals) e.kind_vars) (sym ends_there)
      (subst (λ (n : ℕ). AllByRecursion (IsVar last n) e.kind_vars) (sym locals) (kind_vars_stand b first states given well))

  abbrev size : ℕ
  size = length (with_place given.fetch places.giver places.array (chosen_text e.code))

  size_is : size ≡ chosen_length e.code
  size_is = code_size pool given.fetch places names e w

  pub handlers_back : (uses : List Use) → (laid uses).handlers ≡ map (handler_of (insn_number (written_starts e))) (map (row_at (offset_in e)) e.handlers)
  unfolding laid_body
  handlers_back uses = sym (rows_same e.code given.fetch p e.handlers all_rows)

  pub lines_back : (uses : List Use)
      → (laid uses).lines ≡ lines_of (insn_number (written_starts e)) (length (written_insns given.fetch p e)) (written_tables e).lines
  unfolding laid_body
  lines_back uses = sym (lines_same e.code given.fetch p e.lines all_lines)

  pub vars_back : (uses : List Use) → (laid uses).vars ≡ vars_in (written_coded pool given.fetch places given.integer names e) (written_tables e).vars
  unfolding laid_body
  vars_back uses = sym (vars_same e.code given.fetch p size e.max_locals size_is e.vars all_vars)

  pub kind_vars_back : (uses : List Use) → (laid uses).kind_vars ≡ vars_in (written_coded pool given.fetch places given.integer names e) (written_tables e).kind_vars
  unfolding laid_body
  kind_vars_back uses = sym (vars_same e.code given.fetch p size e.max_locals size_is e.kind_vars all_kind_vars)

  -- the entries of all tables
  pub all_tables_back : AreTables pool (code_attributes pool places.frames e (written_frames names e)) (written_tables e)
  all_tables_back = tables_back pool given.fetch places names e w end all_vars all_kind_vars
