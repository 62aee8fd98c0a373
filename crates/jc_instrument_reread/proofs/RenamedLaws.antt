-- Types in which the objects that aren't initialized are named by other places.
use Rattle.std.proofs.Common.{◌≡◌, ℕ, ◌+◌, ◌-◌, Bool, true, false, List, [], ◌∷◌, ◌++◌, length, map, refl, sym, ◌∙◌, ap, ap₂}
use Rattle.std.specs.List.{flat_map}
use Rattle.std.proofs.lemmas.List.{length-map}
use Rattle.jc_bytes.specs.BigNumbers.{short}
use Rattle.jc_methods.specs.VerificationTypes.{Names, VerificationType, top, object, uninit, class_names, verification_type, type_state_at, is_pair}
use Rattle.jc_methods.specs.declared.body.FrameAt.{FrameAt}
use Rattle.jc_methods.specs.declared.kind.Kind.{Kind}
use Rattle.jc_methods.specs.declared.kind.Kind.TheVariants as kinds
use Rattle.jc_kinds_after.specs.Shift.{renamed}
use Rattle.jc_emit.specs.Emission.{widened_frame}
use Rattle.jc_emit.specs.Shift.{image_kind}
use Rattle.jc_frames.specs.Frames.{without_last_top, trimmed, values_from, values_in}
use Rattle.jc_frames.specs.FullFrames.{Places, type_text, types_text, full_text, full_texts, table_text}
use Rattle.jc_frames.specs.FullTable.{named_by, named_by_all}

module _ (f : ℕ → ℕ) where
  pub pair_renamed : (h : VerificationType) → is_pair (renamed f h) ≡ is_pair h
  pair_renamed top = refl
  pair_renamed h = refl

  last_renamed : (h : VerificationType) (hs : List VerificationType) → without_last_top (renamed f h) (map (renamed f) hs) ≡ map (renamed f) (without_last_top h hs)
  last_renamed top [] = refl
  last_renamed top (x ∷ hs) = refl
  last_renamed h hs = refl

  trimmed_renamed : (hs : List VerificationType) → trimmed (map (renamed f) hs) ≡ map (renamed f) (trimmed hs)
  trimmed_renamed [] = refl
  trimmed_renamed (h ∷ hs) = ap (without_last_top (renamed f h)) (trimmed_renamed hs) ∙ last_renamed h (trimmed hs)

  from_renamed : (skips : Bool) (hs : List VerificationType) → values_from skips (map (renamed f) hs) ≡ map (renamed f) (values_from skips hs)
  from_renamed skips [] = refl
  from_renamed true (h ∷ hs) = from_renamed false hs
  from_renamed false (h ∷ hs) =
      ap (λ (t : Bool). renamed f h ∷ values_from t (map (renamed f) hs)) (pair_renamed h)
      ∙ ap (λ (l : List VerificationType). renamed f h ∷ l) (from_renamed (is_pair h) hs)

  pub values_renamed : (hs : List VerificationType) → values_in (map (renamed f) hs) ≡ map (renamed f) (values_in hs)
  values_renamed hs = ap (values_from false) (trimmed_renamed hs) ∙ from_renamed false (trimmed hs)

  -- the names of classes stay
  names_renamed : (hs : List VerificationType) → class_names (map (renamed f) hs) ≡ class_names hs
  names_renamed [] = refl
  names_renamed (object name ∷ hs) = ap (λ (l : Names). name ∷ l) (names_renamed hs)
  names_renamed (h ∷ hs) = names_renamed hs

  -- ---- kinds

  held_renamed : (names : Names) (k : Kind) → verification_type names (image_kind f k) ≡ renamed f (verification_type names k)
  held_renamed names kinds.Top = refl
  held_renamed names k = refl

  pub all_renamed : (names : Names) (ks : List Kind) → map (verification_type names) (map (image_kind f) ks) ≡ map (renamed f) (map (verification_type names) ks)
  all_renamed names [] = refl
  all_renamed names (k ∷ ks) = ap₂ (λ (h : VerificationType) (hs : List VerificationType). h ∷ hs) (held_renamed names k) (all_renamed names ks)

  -- ---- frames

  pub named_renamed : (names : Names) (g : FrameAt) → named_by (type_state_at names (widened_frame f g)) ≡ named_by (type_state_at names g)
  named_renamed names g =
      ap₂ (λ (x y : Names). x ++ y)
      (ap (λ (l : List VerificationType). class_names (values_in l)) (all_renamed names g.state.locals)
      ∙ ap class_names (values_renamed (map (verification_type names) g.state.locals)) ∙ names_renamed (values_in (map (verification_type names) g.state.locals)))
      (ap class_names (all_renamed names g.state.stack) ∙ names_renamed (map (verification_type names) g.state.stack))

  pub all_named_renamed : (names : Names) (frames : List FrameAt)
      → named_by_all (map (type_state_at names) (map (widened_frame f) frames)) ≡ named_by_all (map (type_state_at names) frames)
  all_named_renamed names [] = refl
  all_named_renamed names (g ∷ frames) = ap₂ (λ (x y : Names). x ++ y) (named_renamed names g) (all_named_renamed names frames)

  -- ---- texts

  -- the other places have the offsets of the first ones
  module _ (p q : Places) (class : (name : List ℕ) → q.class name ≡ p.class name) (start : (at : ℕ) → q.start (f at) ≡ p.start at) where
    type_same : (h : VerificationType) → type_text q (renamed f h) ≡ type_text p h
    type_same (object name) = ap (λ (n : ℕ). 7 ∷ short n) (class name)
    type_same (uninit at) = ap (λ (n : ℕ). 8 ∷ short n) (start at)
    type_same h = refl

    texts_same : (hs : List VerificationType) → flat_map (type_text q) (map (renamed f) hs) ≡ flat_map (type_text p) hs
    texts_same [] = refl
    texts_same (h ∷ hs) = ap₂ (λ (x y : List ℕ). x ++ y) (type_same h) (texts_same hs)

    types_same : (hs : List VerificationType) → types_text q (map (renamed f) hs) ≡ types_text p hs
    types_same hs = ap₂ (λ (n : ℕ) (l : List ℕ). short n ++ l) (length-map hs (renamed f)) (texts_same hs)

    frame_same : (names : Names) (base : ℕ) (g : FrameAt) → full_text q base (type_state_at names (widened_frame f g)) ≡ full_text p base (type_state_at names g)
    frame_same names base g =
        let locals : types_text q (values_in (map (verification_type names) (map (image_kind f) g.state.locals))) ≡ types_text p (values_in (map (verification_type names) g.state.locals)) =
        ap (λ (l : List VerificationType). types_text q (values_in l)) (all_renamed names g.state.locals)
        ∙ ap (types_text q) (values_renamed (map (verification_type names) g.state.locals)) ∙ types_same (values_in (map (verification_type names) g.state.locals)) in
        let stack : types_text q (map (verification_type names) (map (image_kind f) g.state.stack)) ≡ types_text p (map (verification_type names) g.state.stack) =
        ap (types_text q) (all_renamed names g.state.stack) ∙ types_same (map (verification_type names) g.state.stack) in
        λ i. 255 ∷ (short (start g.at i - base) ++ (locals i ++ stack i))

    frames_same : (names : Names) (base : ℕ) (frames : List FrameAt)
        → full_texts q base (map (type_state_at names) (map (widened_frame f) frames)) ≡ full_texts p base (map (type_state_at names) frames)
    frames_same names base [] = refl
    frames_same names base (g ∷ frames) =
        ap₂ (λ (x y : List ℕ). x ++ y) (frame_same names base g)
        (ap (λ (n : ℕ). full_texts q (n + 1) (map (type_state_at names) (map (widened_frame f) frames))) (start g.at) ∙ frames_same names (p.start g.at + 1) frames)

    pub table_same : (names : Names) (frames : List FrameAt)
        → table_text q (map (type_state_at names) (map (widened_frame f) frames)) ≡ table_text p (map (type_state_at names) frames)
    table_same names frames =
        let count : length (map (type_state_at names) (map (widened_frame f) frames)) ≡ length (map (type_state_at names) frames) =
        length-map (map (widened_frame f) frames) (type_state_at names) ∙ length-map frames (widened_frame f) ∙ sym (length-map frames (type_state_at names)) in
        ap₂ (λ (n : ℕ) (l : List ℕ). short n ++ l) count (frames_same names 0 frames)
