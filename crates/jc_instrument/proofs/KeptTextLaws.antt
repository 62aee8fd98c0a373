-- The text of a Code attribute over two pools in which the classes that its frames name have the same first places.
use Rattle.std.proofs.Common.{◌≡◌, ℕ, ◌-◌, ◌+◌, List, [], ◌∷◌, ◌++◌, length, map, refl, sym, ◌∙◌, ap, ap₂, subst}
use Rattle.std.specs.Prelude.{slice_index}
use Rattle.std.specs.List.{AllByRecursion, flat_map}
use Rattle.std.proofs.lemmas.List.Concat.{flat_map-cons}
use Rattle.jc_methods.specs.declared.probe_members.Fetch.{Fetch}
use Rattle.jc_bytes.specs.BigNumbers.{short}
use Rattle.jc_methods.specs.VerificationTypes.{Names, VerificationType, top, int, float, double, long, null, uninit_this, object, uninit, TypeStateAt, class_name, class_names, type_state_at}
use Rattle.jc_methods.specs.declared.body.FrameAt.{FrameAt}
use Rattle.jc_pool.specs.Pool.{PoolValue}
use Rattle.jc_class.specs.declared.class_file.Attribute.{Attribute}
use Rattle.jc_frames.specs.Frames.{values_in}
use Rattle.jc_frames.specs.FullFrames.{Places, full_text, full_texts, type_text, types_text}
use Rattle.jc_frames.specs.FullTable.{named_by, named_by_all}
use Rattle.jc_frames.proofs.FullTextLaws.{both_parts}
use Rattle.jc_emit.specs.declared.tables.MovedTables.{MovedTables}
use Rattle.jc_layout.specs.LaidBody.{with_place}
use Rattle.jc_layout.specs.declared.layouts.Laid.{Laid}
use Rattle.jc_instrument_code.specs.CodeText.{attribute, code_text, counted_text, frame_attributes, line_text, row_text, table_attributes, var_text}
use Rattle.jc_instrument_code.specs.FirstPlaces.{class_place}
use Rattle.jc_instrument_code.specs.LaidText.{laid_text}
use Rattle.jc_instrument_code.specs.TwinCode.{attributes_by}
use Rattle.jc_instrument_code.specs.declared.code.CodePlaces.{CodePlaces}

module _ (f g : List ℕ → ℕ) (start : ℕ → ℕ) where
  abbrev by_f : Places
  by_f = record { class = f; start = start }

  abbrev by_g : Places
  by_g = record { class = g; start = start }

  -- both have the class at one place
  abbrev IsSame : List ℕ → Type 0
  IsSame name = f name ≡ g name

  one_type : (h : VerificationType) → AllByRecursion IsSame (class_name h) → type_text by_f h ≡ type_text by_g h
  one_type (object name) same = ap (λ (n : ℕ). 7 ∷ short n) same.0
  one_type top same = refl
  one_type int same = refl
  one_type float same = refl
  one_type double same = refl
  one_type long same = refl
  one_type null same = refl
  one_type uninit_this same = refl
  one_type (uninit at) same = refl

  each_type : (hs : List VerificationType) → AllByRecursion IsSame (class_names hs) → flat_map (type_text by_f) hs ≡ flat_map (type_text by_g) hs
  each_type [] same = refl
  each_type (h ∷ hs) same =
      let both = both_parts IsSame (class_name h) (class_names hs) (subst (AllByRecursion IsSame) (flat_map-cons class_name h hs) same) in
      flat_map-cons (type_text by_f) h hs
      ∙ ap₂ (λ (a : List ℕ) (b : List ℕ). a ++ b) (one_type h both.0) (each_type hs both.1)
      ∙ sym (flat_map-cons (type_text by_g) h hs)

  all_types : (hs : List VerificationType) → AllByRecursion IsSame (class_names hs) → types_text by_f hs ≡ types_text by_g hs
  all_types hs same = ap (λ (l : List ℕ). short (length hs) ++ l) (each_type hs same)

  one_frame : (base : ℕ) (s : TypeStateAt) → AllByRecursion IsSame (named_by s) → full_text by_f base s ≡ full_text by_g base s
  one_frame base s same =
      let both = both_parts IsSame (class_names (values_in s.state.locals)) (class_names s.state.stack) same in
      ap₂ (λ (a : List ℕ) (b : List ℕ). 255 ∷ (short (start s.at - base) ++ (a ++ b))) (all_types (values_in s.state.locals) both.0)
      (all_types s.state.stack both.1)

  each_frame : (base : ℕ) (frames : List TypeStateAt) → AllByRecursion IsSame (named_by_all frames) → full_texts by_f base frames ≡ full_texts by_g base frames
  each_frame base [] same = refl
  each_frame base (s ∷ frames) same =
      let both = both_parts IsSame (named_by s) (named_by_all frames) (subst (AllByRecursion IsSame) (flat_map-cons named_by s frames) same) in
      ap₂ (λ (a : List ℕ) (b : List ℕ). a ++ b) (one_frame base s both.0) (each_frame (start s.at + 1) frames both.1)

  all_frames : (name : ℕ) (frames : List TypeStateAt) → AllByRecursion IsSame (named_by_all frames)
      → frame_attributes name by_f frames ≡ frame_attributes name by_g frames
  all_frames name [] same = refl
  all_frames name (s ∷ frames) same =
      ap (λ (l : List ℕ). attribute name (short (length (s ∷ frames)) ++ l) ∷ []) (each_frame 0 (s ∷ frames) same)

  same_attributes : (lines vars kind_vars name : ℕ) (t : MovedTables) (frames : List TypeStateAt) → AllByRecursion IsSame (named_by_all frames)
      → attributes_by lines vars kind_vars name by_f t frames ≡ attributes_by lines vars kind_vars name by_g t frames
  same_attributes lines vars kind_vars name t frames same =
      ap (λ (l : List Attribute). table_attributes lines (line_text start) t.lines
      ++ (table_attributes vars (var_text start) t.vars ++ (table_attributes kind_vars (var_text start) t.kind_vars ++ l)))
      (all_frames name frames same)

-- classes at the same places, and the rest is equal
pub same_laid_text : (old new : PoolValue) (fetch : Fetch) (places : CodePlaces) (names : Names) (t : MovedTables) (l : Laid) (frames : List FrameAt)
    → AllByRecursion (λ name. class_place old name ≡ class_place new name) (named_by_all (map (type_state_at names) frames))
    → laid_text old fetch places names t l frames ≡ laid_text new fetch places names t l frames
unfolding laid_text
same_laid_text old new fetch places names t l frames same =
    ap (λ (all : List Attribute). code_text t.max_stack t.max_locals (with_place fetch places.giver places.array l.code)
    (counted_text (row_text (slice_index l.starts)) t.handlers) all)
    (same_attributes (class_place old) (class_place new) (slice_index l.starts) places.lines places.vars places.kind_vars places.frames t
    (map (type_state_at names) frames) same)
