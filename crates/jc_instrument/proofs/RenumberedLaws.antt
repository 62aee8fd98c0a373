-- A body under further names in front of its own: each class number rises by how many there are.
use Rattle.std.proofs.Common.{◌≡◌, ℕ, ◌+◌, List, [], ◌∷◌, ◌++◌, length, map, refl, ap, ap₂, arith, length-append}
use Rattle.std.specs.List.{AllByRecursion}
use Rattle.std.proofs.lemmas.List.{get_or-append-add}
use Rattle.jc_methods.specs.VerificationTypes.{Names, VerificationType, object, TypeStateAt, verification_type, type_state_at, IsNumbered, AreNumberedFrames}
use Rattle.jc_methods.specs.declared.body.Body.{Body}
use Rattle.jc_methods.specs.declared.body.FrameAt.{FrameAt}
use Rattle.jc_methods.specs.declared.kind.Kind.{Kind}
use Rattle.jc_methods.specs.declared.kind.Kind.TheVariants as kinds
use Rattle.jc_methods.specs.declared.kind.State.{State}
use Rattle.jc_class.specs.declared.class_file.ClassFile.{ClassFile}
use Rattle.jc_body.specs.BodyOf.{BodyOf}
use Rattle.jc_body.specs.Faults.{faults}
use Rattle.jc_instrument.proofs.OneBodyLaws.{reframed}

-- ---- raised numbers

abbrev raised : ℕ → Kind → Kind
raised count (kinds.Object n) = kinds.Object (count + n)
raised count kinds.Top = kinds.Top
raised count kinds.Int = kinds.Int
raised count kinds.Float = kinds.Float
raised count kinds.Double = kinds.Double
raised count kinds.Long = kinds.Long
raised count kinds.Null = kinds.Null
raised count kinds.UninitThis = kinds.UninitThis
raised count (kinds.Uninit at) = kinds.Uninit at

abbrev raised_state : ℕ → State → State
raised_state count s = record { locals = map (raised count) s.locals; stack = map (raised count) s.stack }

abbrev raised_frame : ℕ → FrameAt → FrameAt
raised_frame count f = record { at = f.at; state = raised_state count f.state }

abbrev pub raised_frames : ℕ → List FrameAt → List FrameAt
raised_frames count frames = map (raised_frame count) frames

module _ (front names : Names) where
  -- ---- they say the same

  held_raised : (k : Kind) → verification_type (front ++ names) (raised (length front) k) ≡ verification_type names k
  held_raised (kinds.Object n) = ap object (get_or-append-add front names n [])
  held_raised kinds.Top = refl
  held_raised kinds.Int = refl
  held_raised kinds.Float = refl
  held_raised kinds.Double = refl
  held_raised kinds.Long = refl
  held_raised kinds.Null = refl
  held_raised kinds.UninitThis = refl
  held_raised (kinds.Uninit at) = refl

  kinds_raised : (ks : List Kind) → map (verification_type (front ++ names)) (map (raised (length front)) ks) ≡ map (verification_type names) ks
  kinds_raised [] = refl
  kinds_raised (k ∷ ks) = ap₂ (λ (h : VerificationType) (hs : List VerificationType). h ∷ hs) (held_raised k) (kinds_raised ks)

  frame_raised : (f : FrameAt) → type_state_at (front ++ names) (raised_frame (length front) f) ≡ type_state_at names f
  frame_raised f = λ i. record {
    at =
        f.at;
    state = record { locals = kinds_raised f.state.locals i; stack = kinds_raised f.state.stack i };
  }

  frames_raised : (frames : List FrameAt)
      → map (type_state_at (front ++ names)) (raised_frames (length front) frames) ≡ map (type_state_at names) frames
  frames_raised [] = refl
  frames_raised (f ∷ frames) = ap₂ (λ (s : TypeStateAt) (others : List TypeStateAt). s ∷ others) (frame_raised f) (frames_raised frames)

  -- ---- they are numbers of the names

  number_raised : (k : Kind) → IsNumbered (length names) k → IsNumbered (length (front ++ names)) (raised (length front) k)
  number_raised (kinds.Object n) less = let both = length-append front names in omega (arith, less, both)
  number_raised kinds.Top is = tt
  number_raised kinds.Int is = tt
  number_raised kinds.Float is = tt
  number_raised kinds.Double is = tt
  number_raised kinds.Long is = tt
  number_raised kinds.Null is = tt
  number_raised kinds.UninitThis is = tt
  number_raised (kinds.Uninit at) is = tt

  numbers_raised : (ks : List Kind) → AllByRecursion (IsNumbered (length names)) ks
      → AllByRecursion (IsNumbered (length (front ++ names))) (map (raised (length front)) ks)
  numbers_raised [] all = tt
  numbers_raised (k ∷ ks) all = (number_raised k all.0, numbers_raised ks all.1)

  all_raised : (frames : List FrameAt) → AreNumberedFrames (length names) frames
      → AreNumberedFrames (length (front ++ names)) (raised_frames (length front) frames)
  all_raised [] all = tt
  all_raised (f ∷ frames) all = (
    record {
      locals = numbers_raised f.state.locals all.0.locals;
      stack =
          numbers_raised f.state.stack all.0.stack;
    },
    all_raised frames all.1,
  )

  -- ---- the body

  abbrev pub raised_body : Body → Body
  raised_body b = record b { frames = raised_frames (length front) b.frames }

  pub renumbered : (c : ClassFile) (number : ℕ) (b : Body) → BodyOf names c number b → BodyOf (front ++ names) c number (raised_body b)
  renumbered c number b body = record {
    method = body.method;
    at = body.at;
    is = reframed names (front ++ names) c number body.method (faults c.major c.pool b.owner body.method) b (raised_frames (length front) b.frames)
        (frames_raised b.frames) (all_raised b.frames body.is.parts.numbers) body.is;
  }
