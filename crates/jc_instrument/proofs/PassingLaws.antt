-- Each method of an instrumented class file has no code, or is read again and passes the kind check.
use Rattle.std.proofs.Common.{◌≡◌, ℕ, ◌≤◌, Bool, false, List, [], ◌∷◌, ◌++◌, length, map, get_or, All, Some, refl, sym, ◌∙◌, ap, subst, arith}
use Rattle.std.specs.Prelude.{slice_get, sum_by}
use Rattle.std.proofs.lemmas.Option.{slice_get-get_or}
use Rattle.jc_bytes.specs.ByteLists.{AreBytes}
use Rattle.jc_methods.specs.VerificationTypes.{Names, TypeStateAt}
use Rattle.jc_bytes.specs.Reader.{most_read}
use Rattle.jc_methods.specs.WellMade.{IsWellMadeOfAnySize}
use Rattle.jc_methods.specs.declared.body.Body.{Body}
use Rattle.jc_class.specs.ClassText.{ClassText}
use Rattle.jc_class.specs.Writable.{IsClassFile}
use Rattle.jc_class.specs.declared.class_file.ClassFile.{ClassFile}
use Rattle.jc_class.proofs.ReadClassLaws.{class_read}
use Rattle.jc_class.proofs.WritableLaws.{class_holds}
use Rattle.jc_kinds.specs.Checked.{Checked}
use Rattle.jc_emit.specs.Straddling.{NoneStraddles}
use Rattle.jc_instrument_reread.specs.Again.{EachPassesAgain}
use Rattle.jc_instrument_reread.specs.WrittenCode.{IsWrittenCode}
use Rattle.jc_instrument_reread.proofs.AgainLaws.{each_passes}
use Rattle.jc_instrument.specs.Causes.{Cause, NoCause, unless}
use Rattle.jc_instrument.specs.LeftAlone.{is_left_alone}
use Rattle.jc_instrument.specs.Needed.{early_list, early_needs, frame_needs, member_needs, name_of, place_list, signed_id, TakesNeeded}
use Rattle.jc_instrument.specs.Reasons.{class_causes, code_causes, interface_causes}
use Rattle.jc_instrument.specs.Refused.{probe_causes}
use Rattle.jc_instrument.specs.RoomCauses.{room_causes}
use Rattle.jc_instrument.specs.TwinText.{constants_of, twin_class, work_of, IsReadyFor, IsWritten}
use Rattle.jc_instrument.specs.BodiesWithStates.{BodyWithStates, all_frames, bodies_of, emitted_of, AreBodiesWithStates}
use Rattle.jc_instrument.proofs.DecidedLaws.{none_behind}
use Rattle.jc_instrument.proofs.FramedStatesLaws.{framed_work, same_bodies, works_are, works_fit}
use Rattle.jc_instrument.proofs.OneTwinLaws.{one_twin}
use Rattle.jc_instrument.proofs.PoolTextLaws.{class_pool}
use Rattle.jc_instrument.proofs.ListedLaws.{body_at}
use Rattle.jc_instrument.proofs.SameWorksLaws.{same_frames}
use Rattle.jc_instrument.proofs.SomeBodiesLaws.{made_well, passes}
use Rattle.jc_instrument.proofs.TextSizesLaws.{class_size, method_size}
use Rattle.jc_instrument.proofs.WrittenAgainLaws.{AreSoundBodies, AreWrittenWorks, all_written, texts_short, work_found}
use Rattle.jc_instrument.proofs.WrittenCodeLaws.{HasRoom, code_places, written_code}
use Rattle.jc_plan.specs.Analysed.{all_probes}
use Rattle.jc_instrument.specs.Constants.{AreConstants, given_with}
use Rattle.jc_instrument.specs.declared.constants.ProbeConstants.{ProbeConstants}
use Rattle.jc_instrument.proofs.StandingLaws.{early_count, takes_split}

-- ---- causes

pub none_in_front : (Cs Ds : List Cause) → NoCause (Cs ++ Ds) → NoCause Cs
none_in_front [] Ds none = tt
none_in_front (C ∷ Cs) Ds none = (none.0, none_in_front Cs Ds none.1)

module _ (id : ℕ) (c : ClassFile) (none : NoCause (probe_causes id c)) (changes : is_left_alone c ≡ false) where
  abbrev causes_by : Bool → List Cause
  causes_by t = (class_causes c ++ unless t (interface_causes c ++ code_causes c)) ++ unless t (room_causes id c)

  none_so : NoCause ((class_causes c ++ (interface_causes c ++ code_causes c)) ++ room_causes id c)
  none_so = subst (λ (t : Bool). NoCause (causes_by t)) changes none

  pub no_room_cause : NoCause (room_causes id c)
  no_room_cause = none_behind (class_causes c ++ (interface_causes c ++ code_causes c)) (room_causes id c) none_so

  pub no_code_cause : NoCause (code_causes c)
  no_code_cause =
      none_behind (interface_causes c) (code_causes c)
      (none_behind (class_causes c) (interface_causes c ++ code_causes c)
      (none_in_front (class_causes c ++ (interface_causes c ++ code_causes c)) (room_causes id c) none_so))

-- ---- the class

module _ (bytes : List ℕ) (c : ClassFile) (text : ClassText bytes c) (are_bytes : AreBytes bytes) (size : length bytes ≤ most_read) (id : ℕ)
    (none : NoCause (code_causes c)) (names : Names) (array : ℕ) (works : List BodyWithStates) (twin : ClassFile) (w : IsWritten id names array works c twin) where
  abbrev pub constants : ProbeConstants
  constants = constants_of w.with

  is : IsClassFile c
  is = class_holds bytes c are_bytes text

  few : sum_by method_size c.methods ≤ most_read
  few = let less = class_size bytes c text in omega (arith, less, size)

  made : (i : ℕ) (b : Body) → slice_get (bodies_of works) i ≡ Some b → IsWellMadeOfAnySize b
  made i b at = (made_well c is (class_pool bytes c are_bytes text) few none names (bodies_of works) w.ready.are.bodies i b at).of_any_size

  pub all_checked : All (Checked names) (bodies_of works)
  all_checked k d less =
      passes c is (class_pool bytes c are_bytes text) few none names (bodies_of works) w.ready.are.bodies k (get_or (bodies_of works) k d)
      (slice_get-get_or (bodies_of works) k d less)

  -- the works with the states of the frames
  abbrev pub framed : List BodyWithStates
  framed = map framed_work works

  framed_are : AreBodiesWithStates names array c framed
  framed_are = works_are names array c works w.ready.are made

  bodies_same : bodies_of framed ≡ bodies_of works
  bodies_same = same_bodies works

  -- the pool takes so many probes' needs and these frames' ones
  abbrev Takes : List Body → List TypeStateAt → Type 0
  Takes bodies frames =
      TakesNeeded c.pool w.with.fetch w.with.bootstrap (name_of c) (signed_id id) (all_probes bodies) frames w.with.pool w.with.early w.with.places

  framed_ready : IsReadyFor id names array framed c w.with
  framed_ready = record {
    gets = w.ready.gets;
    are = framed_are;
    takes = subst (λ (bodies : List Body). Takes bodies (all_frames names constants array framed)) (sym bodies_same)
        (subst (Takes (bodies_of works)) (same_frames constants names names array array c works framed w.ready.are framed_are) w.ready.takes);
  }

  framed_written : IsWritten id names array framed c (twin_class names array c framed w.with)
  framed_written = record { with = w.with; ready = framed_ready; few = w.few; is = refl }

  pub twins : twin ≡ twin_class names array c framed w.with
  twins = one_twin id names names array array works framed c twin (twin_class names array c framed w.with) w framed_written

  -- the constants are those of the class
  pub class_loads : AreConstants c (all_probes (bodies_of works)) w.with.bootstrap constants
  class_loads =
      let count = all_probes (bodies_of works) in
      let taken = takes_split c.pool w.with.pool (early_needs w.with.fetch w.with.bootstrap count)
      (member_needs w.with.fetch (name_of c) (signed_id id) count (all_frames names constants array works) ++ frame_needs (all_frames names constants array works))
      (early_list w.with.fetch w.with.early)
      (place_list w.with.fetch count (all_frames names constants array works) w.with.places ++ w.ready.takes.class_places)
      (early_count w.with.fetch w.with.bootstrap count w.with.early w.ready.takes.integers) w.ready.takes.takes in
      record { gets = w.ready.gets; early = w.with.early; pool = taken.0; takes = taken.1; are = refl }

  module _ (new_bytes : List ℕ) (new_are : AreBytes new_bytes) (new_text : ClassText new_bytes twin) (room : HasRoom constants (bodies_of works))
      (free : (i : ℕ) (b : Body) → slice_get (bodies_of works) i ≡ Some b → NoneStraddles b) where
    stands : (i : ℕ) (b : Body) → slice_get (bodies_of framed) i ≡ Some b → slice_get (bodies_of works) i ≡ Some b
    stands i b at = ap (λ (l : List Body). slice_get l i) (sym bodies_same) ∙ at

    sound : AreSoundBodies names (bodies_of framed)
    sound = record {
      well_made = λ i b at. made i b (stands i b at);
      checked = λ i b at. passes c is (class_pool bytes c are_bytes text) few none names (bodies_of works) w.ready.are.bodies i b (stands i b at);
      none_straddles = λ i b at. free i b (stands i b at);
    }

    framed_room : HasRoom constants (bodies_of framed)
    framed_room = subst (HasRoom constants) (sym bodies_same) room

    twin_is : IsClassFile (twin_class names array c framed w.with)
    twin_is = class_holds new_bytes (twin_class names array c framed w.with) new_are (subst (ClassText new_bytes) twins new_text)

    coded : (number : ℕ) (x : BodyWithStates) → work_of number framed ≡ Some x
        → IsWrittenCode w.with.pool w.with.fetch (code_places w.with) names (emitted_of constants array x)
    coded number x found =
        let h = work_found number framed x found in
        written_code id names array c framed w.with framed_ready w.few (class_read bytes c are_bytes text).methods framed_room h.index x h.stands
        (sound.well_made h.index x.body (body_at framed h.index x h.stands))
        (texts_short names array framed c (twin_class names array c framed w.with) w.with framed_are refl twin_is number x found)

    pub works_written : AreWrittenWorks id names array framed c w.with
    works_written = record {
      is = is;
      ready = framed_ready;
      few = w.few;
      fits = works_fit names array c works w.ready.are made;
      sound = sound;
      probes = framed_room.probes;
      coded = coded;
    }

    pub class_passes : EachPassesAgain twin
    class_passes =
        subst EachPassesAgain (sym twins)
        (each_passes names c (twin_class names array c framed w.with) w.with.bootstrap (code_places w.with) (given_with constants array)
        (all_written id names array framed c w.with works_written))
