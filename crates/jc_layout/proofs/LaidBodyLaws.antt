-- The body that the bytes of a layout stand for is a twin.
use Rattle.std.proofs.Common.{◌≡◌, inl, inr, ⊎_elim, ℕ, Bool, List, [], ◌∷◌, map, refl, sym, ap, ap₂, ◌∙◌, subst}
use Rattle.std.specs.Prelude.{Contains, slice_index_or}
use Rattle.jc_methods.specs.WellMade.{IsWellMadeOfAnySize}
use Rattle.jc_methods.specs.Widened.{WideSet, listed, wide_place}
use Rattle.jc_methods.specs.declared.insn.Insn.{Insn}
use Rattle.jc_methods.specs.declared.kind.State.{State}
use Rattle.jc_methods.specs.declared.body.Body.{Body}
use Rattle.jc_methods.specs.declared.body.FrameAt.{FrameAt}
use Rattle.jc_methods.specs.declared.body.Handler.{Handler}
use Rattle.jc_methods.specs.declared.body.LineAt.{LineAt}
use Rattle.jc_methods.specs.declared.body.VarAt.{VarAt}
use Rattle.jc_methods.specs.declared.body.Use.{Use}
use Rattle.jc_methods.specs.declared.body.What.{What}
use Rattle.jc_methods.specs.declared.emitted.Emitted.{Emitted}
use Rattle.jc_bytes.proofs.BooleanLaws.{in_map, of_map}
use Rattle.jc_plan.specs.Probed.{probe_count}
use Rattle.jc_emit.specs.Sizes.{TwinForm, narrow}
use Rattle.jc_emit.specs.Shift.{probe_array_class}
use Rattle.jc_emit.specs.Marks.{TwinPlaces, unplaced, image_place, land_place, lead_place}
use Rattle.jc_emit.specs.TwinCode.{IsTwinCode}
use Rattle.jc_emit.specs.TwinTables.{AreMovedTables, moved_row, moved_line, moved_var}
use Rattle.jc_emit.specs.TwinFrames.{state_at, IsFrame, AreTwinFrames}
use Rattle.jc_emit.specs.Items.{insn_of, own_of, lead_of, land_of, image_of, marks_of_items, twin_items}
use Rattle.jc_emit.specs.Emission.{Emitting, emission, widened_frame, AreFramesInForm, AreWidened}
use Rattle.jc_emit.specs.Twin.{NamesProbes, KeepsUses, Twin}
use Rattle.jc_emit.proofs.EndsLaws.{images_are, lands_are, leads_are}
use Rattle.jc_emit.proofs.WholeLaws.{code_told}
use Rattle.jc_emit.proofs.WidenedLaws.{lead_is, land_is}
use Rattle.jc_emit.proofs.WideTwinLaws.{widened_frames}
use Rattle.jc_emit.proofs.WideFrameLaws.{emitted}
use Rattle.jc_layout.specs.Layout.{laid_code}
use Rattle.jc_layout.specs.Merged.{merged, used_frames}
use Rattle.jc_layout.specs.LaidBody.{with_prelude, laid_place, placed_var, laid_frames, laid_body, laid_form}
use Rattle.jc_layout.proofs.MergedLaws.{merged_cases, merged_left, merged_right, merged_rises, used_cases, used_in, used_rise, rising_widened}
use Rattle.jc_layout.proofs.LaidCodeLaws.{called, laid_is}
use Rattle.jc_layout.proofs.LayoutFramesLaws.{there_too}

-- ---- tables whose places are those of the layout

rows_twice : (p lead land : ℕ → ℕ) (rows : List Handler) → map (moved_row p p) (map (moved_row lead land) rows) ≡ map (moved_row (λ i. p (lead i)) (λ i. p (land i))) rows
rows_twice p lead land [] = refl
rows_twice p lead land (h ∷ rows) = ap (λ l. moved_row (λ i. p (lead i)) (λ i. p (land i)) h ∷ l) (rows_twice p lead land rows)

lines_twice : (p land : ℕ → ℕ) (lines : List LineAt) → map (moved_line p) (map (moved_line land) lines) ≡ map (moved_line (λ i. p (land i))) lines
lines_twice p land [] = refl
lines_twice p land (x ∷ lines) = ap (λ l. moved_line (λ i. p (land i)) x ∷ l) (lines_twice p land lines)

vars_twice : (v : ℕ) (p land : ℕ → ℕ) (vars : List VarAt) → map (placed_var p) (map (moved_var v land) vars) ≡ map (moved_var v (λ i. p (land i))) vars
vars_twice v p land [] = refl
vars_twice v p land (x ∷ vars) = ap (λ l. moved_var v (λ i. p (land i)) x ∷ l) (vars_twice v p land vars)

-- ---- where some jumps are wide

module _ (b : Body) (first : ℕ) (states : List State) (given : Emitting) (names : List (List ℕ)) (well : IsWellMadeOfAnySize b)
    (fit : (f : FrameAt) → Contains b.frames f → state_at states f.at ≡ f.state) (named : slice_index_or names given.array ([]) ≡ probe_array_class) (wide : List Bool) where
  abbrev e : Emitted
  e = emission b first states given

  abbrev set : WideSet
  set = listed wide

  abbrev narrow_form : TwinForm
  narrow_form = narrow given.fetch

  abbrev form : TwinForm
  form = laid_form b first given.fetch wide

  abbrev unnamed : TwinPlaces
  unnamed = unplaced given.integer

  abbrev code_in : List Insn
  code_in = map (insn_of (unplaced given.integer) b.arg_slots) (twin_items b first (narrow given.fetch))

  abbrev own : List Bool
  own = map own_of (twin_items b first (laid_form b first given.fetch wide))

  -- ---- frames

  abbrev used : List FrameAt
  used = used_frames (listed wide) (emission b first states given).wide_frames

  -- each frame behind a wide jump is among the merged ones, as the one at its place is the same
  wide_merged : (g : FrameAt) → Contains used g → Contains (merged e.frames used) g
  wide_merged g c =
      let told = emitted b first states given names well fit named in
      ⊎_elim (λ here. here)
      (λ there. merged_left e.frames used g (there_too b first states given names well fit named g (used_cases set e.wide_frames g c).0 there))
      (merged_right e.frames used 0 (used_rise set 0 e.wide_frames told.wide_frames.rising) g c)

  are_widened : AreWidened (listed wide) (emission b first states given) (laid_frames wide (emission b first states given))
  are_widened =
      let told = emitted b first states given names well fit named in record {
        rising = rising_widened set e.code (merged e.frames used) (merged_rises e.frames used told.frames.rising);
        each = λ f c.
            let from = of_map (widened_frame (wide_place set e.code)) (merged e.frames used) f c in (
              from.0,
              ⊎_elim (λ old. inl old) (λ more. inr (used_cases set e.wide_frames from.0 more)) (merged_cases e.frames used from.0 from.1),
              from.2,
            );
        every = λ g c.
            in_map (widened_frame (wide_place set e.code)) (merged e.frames used) g
            (⊎_elim (λ old. merged_left e.frames used g old) (λ more. wide_merged g (used_in set e.wide_frames g more.0 more.1)) c);
      }

  pub laid_told : AreFramesInForm names states first b (laid_form b first given.fetch wide) (laid_frames wide (emission b first states given))
  laid_told = widened_frames b first states given (listed wide) names well fit named _ are_widened

  -- ---- places

  -- where in the layout stands what stands for the instruction at a place of the emitted code
  abbrev placed : ℕ → ℕ
  placed i = laid_place wide code_in i

  lead_in : (i : ℕ) → placed (lead_of b first narrow_form i) ≡ lead_of b first form i
  unfolding twin_items
  lead_in i = lead_is b first given.fetch (listed wide) unnamed well.code i

  land_in : (i : ℕ) → placed (land_of b first narrow_form i) ≡ land_of b first form i
  unfolding twin_items
  land_in i = land_is b first given.fetch (listed wide) unnamed well.code i

  leads_in : (λ i. placed (lead_of b first narrow_form i)) ≡ lead_of b first form
  leads_in = λ k i. lead_in i k

  lands_in : (λ i. placed (land_of b first narrow_form i)) ≡ land_of b first form
  lands_in = λ k i. land_in i k

  -- where images, jumps and fall-throughs lead in a layout
  abbrev images : ℕ → ℕ
  images = image_of b first form

  abbrev lands : ℕ → ℕ
  lands = land_of b first form

  abbrev leads : ℕ → ℕ
  leads = lead_of b first form

  -- what holds of the function's places holds of those that the own instructions tell
  at_own : (P : (image land lead : ℕ → ℕ) → Type 0) → P images lands leads
      → P (image_place own) (land_place b first own) (lead_place b first own)
  at_own P h =
      subst (λ f. P (image_place own) (land_place b first own) f) (sym (leads_are b first form well.code))
      (subst (λ f. P (image_place own) f leads) (sym (lands_are b first form well.code))
      (subst (λ f. P f lands leads) (sym (images_are b first form well.code)) h))

  rows_laid : map (moved_row placed placed) (map (moved_row (lead_of b first narrow_form) (land_of b first narrow_form)) b.handlers)
      ≡ map (moved_row leads lands) b.handlers
  rows_laid =
      rows_twice placed (lead_of b first narrow_form) (land_of b first narrow_form) b.handlers
      ∙ ap₂ (λ lead land. map (moved_row lead land) b.handlers) leads_in lands_in

  lines_laid : map (moved_line placed) (map (moved_line (land_of b first narrow_form)) b.lines) ≡ map (moved_line lands) b.lines
  lines_laid =
      lines_twice placed (land_of b first narrow_form) b.lines
      ∙ ap (λ land. map (moved_line land) b.lines) lands_in

  vars_laid : (vars : List VarAt)
      → map (placed_var placed) (map (moved_var b.arg_slots (land_of b first narrow_form)) vars) ≡ map (moved_var b.arg_slots lands) vars
  vars_laid vars =
      vars_twice b.arg_slots placed (land_of b first narrow_form) vars
      ∙ ap (λ land. map (moved_var b.arg_slots land) vars) lands_in

  code_laid : (p : TwinPlaces) → p.integer ≡ given.integer
      → with_prelude given.fetch p (laid_code wide code_in) ≡ map (insn_of p b.arg_slots) (twin_items b first form)
  code_laid p e =
      ap (with_prelude given.fetch p) (laid_is b first given.fetch unnamed wide well.code) ∙ called b first form p unnamed e

  abbrev pub IsLaidTwin : TwinPlaces → (giver : What) → List Use → Type 0
  IsLaidTwin p giver uses =
      Twin names names states given.fetch giver first b (laid_body b (emission b first states given) wide given.fetch p uses)

  pub laid_twin : (p : TwinPlaces) (giver : What) (uses : List Use) → p.integer ≡ given.integer
      → NamesProbes given.fetch giver first (probe_count b) uses p → KeepsUses b (record b { uses = uses }) → IsLaidTwin p giver uses
  unfolding laid_body emission
  laid_twin p giver uses same names_probes keeps = record {
    marks = marks_of_items (twin_items b first form);
    form = laid_form b first given.fetch wide;
    fetch_is = refl;
    places = p;
    names_probes = names_probes;
    method = record { method = refl; owner = refl; name = refl; desc = refl; flags = refl; arg_slots = refl };
    uses = keeps;
    code =
        subst (λ code. IsTwinCode b first form p code (marks_of_items (twin_items b first form))) (sym (code_laid p same))
        (code_told b first form p well.code);
    tables =
        at_own
        (λ image land lead. AreMovedTables b lead land
        (map (moved_row placed placed) (map (moved_row (lead_of b first narrow_form) (land_of b first narrow_form)) b.handlers))
        (map (moved_line placed) (map (moved_line (land_of b first narrow_form)) b.lines))
        (map (placed_var placed) (map (moved_var b.arg_slots (land_of b first narrow_form)) b.vars))
        (map (placed_var placed) (map (moved_var b.arg_slots (land_of b first narrow_form)) b.kind_vars)))
        (record { handlers_are = rows_laid; lines_are = lines_laid; vars_are = vars_laid b.vars; kind_vars_are = vars_laid b.kind_vars });
    frames =
        at_own
        (λ image land lead. AreTwinFrames names names b.arg_slots image (IsFrame b first states image land lead form) (laid_frames wide (emission b first states given)))
        laid_told;
    max_stack = refl;
    max_locals = refl;
  }
