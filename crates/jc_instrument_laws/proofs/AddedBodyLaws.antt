-- The body of the added method, under names that have a number for the class of the probe array.
use Rattle.std.proofs.Common.{◌≡◌, ℕ, ℤ, List, [], ◌∷◌, length, map, refl}
use Rattle.jc_methods.specs.declared.probe_members.Fetch.{Fetch}
use Rattle.jc_methods.specs.declared.probe_members.Fetch.TheVariants as fetches
use Rattle.jc_methods.specs.VerificationTypes.{AreNumberedFrames, Names, object, type_state_at}
use Rattle.jc_methods.specs.declared.body.Body.{Body}
use Rattle.jc_methods.specs.declared.body.FrameAt.{FrameAt}
use Rattle.jc_methods.specs.declared.kind.Kind.TheVariants as kinds
use Rattle.jc_class.specs.declared.class_file.ClassFile.{ClassFile}
use Rattle.jc_class.specs.declared.class_file.Member.{Member}
use Rattle.jc_body.specs.BodyOf.{IsBodyOfAnySize}
use Rattle.jc_body.specs.Faults.{faults_of_any_size}
use Rattle.jc_instrument_code.specs.declared.init.AddedPlaces.{AddedPlaces}
use Rattle.jc_emit.specs.Added.{end_place, IsAddedBody, IsInitBody}
use Rattle.jc_emit.specs.Emission.{IsArrayNumber}
use Rattle.jc_instrument_reread.specs.Written.{IsAddedMethod}
use Rattle.jc_instrument_reread.proofs.BootstrapAgainLaws.{bootstrap_body, bootstrap_is, bootstrap_is_body}
use Rattle.jc_instrument_reread.proofs.InitAgainLaws.{init_body, init_is, init_is_body, init_names}
use Rattle.jc_instrument.proofs.OneBodyLaws.{reframed}
use Rattle.jc_instrument.proofs.WritableLaws.{array_below}

module _ (names : Names) (array : ℕ) (array_is : IsArrayNumber names array) (twin : ClassFile) (owner : List ℕ) (id : ℤ) (count : ℕ) (p : AddedPlaces)
    (method : Member) (w : IsAddedMethod fetches.Member twin owner id count p method) (number : ℕ) where
  -- its one frame has the array on the stack
  abbrev frames : List FrameAt
  frames = record { at = end_place; state = record { locals = []; stack = kinds.Object array ∷ [] } } ∷ []

  abbrev old : Body
  old = init_body twin owner id count p method w number

  abbrev pub kept_body : Body
  kept_body = record (init_body twin owner id count p method w number) { frames = frames }

  frames_same : map (type_state_at names) frames ≡ map (type_state_at (init_names twin owner id count p method w)) old.frames
  frames_same = λ i. record { at = end_place; state = record { locals = []; stack = object (array_is i) ∷ [] } } ∷ []

  numbered : AreNumberedFrames (length names) frames
  numbered = (record { locals = tt; stack = (array_below names array array_is, tt) }, tt)

  kept_is_body : IsBodyOfAnySize names twin number method kept_body
  kept_is_body =
      reframed (init_names twin owner id count p method w) names twin number method (faults_of_any_size twin.major twin.pool owner method) old frames frames_same numbered
      (init_is_body twin owner id count p method w number)

  kept_init : IsInitBody names owner id count kept_body
  kept_init =
      let is = init_is twin owner id count p method w number in
      record {
        places = is.places;
        method = record {
          owner = is.method.owner;
          name = is.method.name;
          desc_is = is.method.desc_is;
          flags = is.method.flags;
          arguments = is.method.arguments;
          max_stack = is.method.max_stack;
          max_locals_is = is.method.max_locals_is;
          code_is = is.method.code_is;
          handlers = is.method.handlers;
          lines = is.method.lines;
          vars = is.method.vars;
          kind_vars = is.method.kind_vars;
        };
        frames = record { frame = _; single = refl; at = refl; state = λ i. record { locals = []; stack = object (array_is i) ∷ [] } };
        field_is = is.field_is;
        names_count = is.names_count;
      }

-- ---- the bootstrap method

module _ (names : Names) (twin : ClassFile) (owner : List ℕ) (id : ℤ) (count : ℕ) (p : AddedPlaces) (method : Member)
    (w : IsAddedMethod fetches.Constant twin owner id count p method) (number : ℕ) where
  abbrev pub called_body : Body
  called_body = bootstrap_body twin owner id count p method w number

  -- it has no frames
  called_is_body : IsBodyOfAnySize names twin number method called_body
  called_is_body =
      reframed [] names twin number method (faults_of_any_size twin.major twin.pool owner method) called_body [] refl tt
      (bootstrap_is_body twin owner id count p method w number)

-- ---- the method that is added

module _ (names : Names) (array : ℕ) (array_is : IsArrayNumber names array) (twin : ClassFile) (owner : List ℕ) (id : ℤ) (count : ℕ) (p : AddedPlaces)
    (method : Member) (number : ℕ) where
  abbrev pub added_body : (fetch : Fetch) → IsAddedMethod fetch twin owner id count p method → Body
  added_body fetches.Member w = kept_body names array array_is twin owner id count p method w number
  added_body fetches.Constant w = called_body names twin owner id count p method w number

  pub added_is_body : (fetch : Fetch) (w : IsAddedMethod fetch twin owner id count p method) → IsBodyOfAnySize names twin number method (added_body fetch w)
  added_is_body fetches.Member w = kept_is_body names array array_is twin owner id count p method w number
  added_is_body fetches.Constant w = called_is_body names twin owner id count p method w number

  pub added_number : (fetch : Fetch) (w : IsAddedMethod fetch twin owner id count p method) → (added_body fetch w).method ≡ number
  added_number fetches.Member w = refl
  added_number fetches.Constant w = refl

  pub added_init : (fetch : Fetch) (w : IsAddedMethod fetch twin owner id count p method) → IsAddedBody fetch names owner id count (added_body fetch w)
  added_init fetches.Member w = kept_init names array array_is twin owner id count p method w number
  added_init fetches.Constant w = bootstrap_is twin owner id count p method w number
