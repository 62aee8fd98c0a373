-- A changed file is the text of a twin of its class.
use Rattle.std.proofs.Common.{◌≡◌, ◌⊎◌, inl, inr, ℕ, ◌+◌, ◌<◌, ◌≤◌, Bool, true, false, List, [], ◌∷◌, ◌++◌, length, map, Option, Some, None, refl, sym, ◌∙◌, ap, subst, arith, true≢false}
use Rattle.std.specs.Prelude.{slice_get}
use Rattle.std.specs.List.{AllZip}
use Rattle.std.proofs.lemmas.List.{length-append}
use Rattle.std.proofs.lemmas.Option.{slice_get_within}
use Rattle.jc_bytes.specs.ByteLists.{AreBytes}
use Rattle.jc_methods.specs.VerificationTypes.{Names, TypeStateAt}
use Rattle.jc_bytes.specs.Reader.{most_read}
use Rattle.jc_methods.specs.declared.body.Body.{Body}
use Rattle.jc_bytes.proofs.ListLaws.{below_or_last, item_at, put_cases, put_last, put_stays}
use Rattle.jc_class.specs.ClassId.{class_id}
use Rattle.jc_class.specs.declared.class_file.ClassFile.{ClassFile}
use Rattle.jc_class.specs.declared.class_file.Member.{Member}
use Rattle.jc_pool.specs.Adding.{Extends}
use Rattle.jc_pool.specs.Pool.{PoolValue}
use Rattle.jc_body.specs.BodyOf.{Bodiless, BodyOfAnySize}
use Rattle.jc_body.specs.Coded.{HasNoCode}
use Rattle.jc_instrument_reread.specs.Written.{IsAddedMethod}
use Rattle.jc_emit.proofs.PlanReadsLaws.{length_map_from}
use Rattle.jc_plan.specs.Analysed.{all_probes}
use Rattle.jc_instrument.specs.Bodies.{IsListed}
use Rattle.jc_instrument.specs.Contents.{Content}
use Rattle.jc_instrument.specs.InstrumentedFile.{Becomes, IsInstrumentedFile}
use Rattle.jc_instrument.specs.LeftAlone.{is_left_alone}
use Rattle.jc_instrument.specs.Needed.{early_list, early_needs, frame_needs, member_needs, name_of, needed, place_list, signed_id}
use Rattle.jc_instrument.specs.SameOutside.{IsSameOutside}
use Rattle.jc_instrument.specs.TwinText.{Writing, code_with, constants_of, init_member, twin_class, twin_method, twin_methods, work_of}
use Rattle.jc_instrument.specs.BodiesWithStates.{BodyWithStates, all_frames, bodies_of}
use Rattle.jc_instrument.specs.declared.whole.Instrumented.{Instrumented}
use Rattle.jc_instrument.proofs.FramedStatesLaws.{framed_work}
use Rattle.jc_instrument.proofs.ListedLaws.{body_at}
use Rattle.jc_instrument.proofs.PassingFileLaws.{file_class, file_works}
use Rattle.jc_instrument.proofs.StandingLaws.{early_count, takes_split}
use Rattle.jc_instrument.proofs.TakingLaws.{each_extends}
use Rattle.jc_instrument.proofs.TwinLaws.{same_outside}
use Rattle.jc_instrument.proofs.WrittenAgainLaws.{AreWrittenWorks, added_method, added_places, method_there, methods_so, none_at, work_found}
use Rattle.jc_instrument_laws.specs.TwinClass.{AreBodiesOfAnySize, BeginsWith, frames_of, IsTwinFile, TwinClass}
use Rattle.jc_instrument_laws.proofs.AddedBodyLaws.{added_body, added_init, added_is_body, added_number}
use Rattle.jc_instrument_laws.proofs.TwinBodiesLaws.{IsTwinOf, all_twins, back, in_order, named_same, same_needs, some_same, there}

pool_so : (names : Names) (array : ℕ) (c : ClassFile) (works : List BodyWithStates) (w : Writing) → (twin_class names array c works w).pool ≡ w.pool
unfolding twin_class
pool_so names array c works w = refl

module _ (id : ℕ) (names : Names) (array : ℕ) (works : List BodyWithStates) (c : ClassFile) (w : Writing)
    (r : AreWrittenWorks id names array works c w) where
  abbrev twin : ClassFile
  twin = twin_class names array c works w

  abbrev count : ℕ
  count = all_probes (bodies_of works)

  abbrev code : BodyWithStates → List ℕ
  code x = code_with names array w x

  abbrev Zip : List Body → Type 0
  Zip ys = AllZip (IsTwinOf id names array works c w r) works ys

  -- ---- its methods

  kept_count : length (twin_methods c.pool code works c.methods) ≡ length c.methods
  kept_count = length_map_from (λ number method. twin_method c.pool code method (work_of number works)) 0 c.methods

  method_count : length twin.methods ≡ length c.methods + 1
  method_count =
      let all = ap (λ (l : List Member). length l) (methods_so names array c works w) in
      let both = length-append (twin_methods c.pool code works c.methods) (init_member w.fetch w.places count ∷ []) in
      let own = kept_count in
      omega (arith, all, both, own)

  added_there : slice_get twin.methods (length c.methods) ≡ Some (init_member w.fetch w.places count)
  added_there =
      ap (λ (l : List Member). slice_get l (length c.methods)) (methods_so names array c works w)
      ∙ ap (λ (n : ℕ). slice_get (twin_methods c.pool code works c.methods ++ init_member w.fetch w.places count ∷ []) n) (sym kept_count)
      ∙ put_last (twin_methods c.pool code works c.methods) (init_member w.fetch w.places count)

  -- ---- the added method's body

  own_method_is : IsAddedMethod w.fetch twin (name_of c) (signed_id id) count (added_places id names array works c w r) (init_member w.fetch w.places count)
  own_method_is = added_method id names array works c w r

  abbrev added : Body
  added =
      added_body names array r.ready.are.array_is twin (name_of c) (signed_id id) count (added_places id names array works c w r)
      (init_member w.fetch w.places count) (length c.methods) w.fetch own_method_is

  own_number : added.method ≡ length c.methods
  own_number =
      added_number names array r.ready.are.array_is twin (name_of c) (signed_id id) count (added_places id names array works c w r)
      (init_member w.fetch w.places count) (length c.methods) w.fetch own_method_is

  added_is : BodyOfAnySize names twin (length c.methods) added
  added_is = record {
    method = init_member w.fetch w.places count;
    at = added_there;
    is = added_is_body names array r.ready.are.array_is twin (name_of c) (signed_id id) count (added_places id names array works c w r)
        (init_member w.fetch w.places count) (length c.methods) w.fetch own_method_is;
  }

  -- ---- all bodies

  module _ (ys : List Body) (zip : Zip ys) where
    record IsTwinAt (i : ℕ) (y : Body) : Type 0 where
      work : BodyWithStates
      stands : slice_get works i ≡ Some work
      number_is : y.method ≡ work.body.method
      is : BodyOfAnySize names twin y.method y

    twin_at : (i : ℕ) (y : Body) → slice_get ys i ≡ Some y → IsTwinAt i y
    twin_at i y at =
        let x = back (IsTwinOf id names array works c w r) works ys zip i y at in
        let number = x.2.is.is.parts.number_is in
        record {
          work = x.0;
          stands = x.1;
          number_is = number;
          is = subst (λ (n : ℕ). BodyOfAnySize names twin n y) (sym number) x.2.is;
        }

    abbrev Stands : ℕ → Body → Type 0
    Stands i y = (slice_get ys i ≡ Some y) ⊎ ((i ≡ length ys) × (added ≡ y))

    each : (i : ℕ) (y : Body) → Stands i y → BodyOfAnySize names twin y.method y
    each i y (inl at) = (twin_at i y at).is
    each i y (inr last) = subst (λ (z : Body). BodyOfAnySize names twin z.method z) last.1 (subst (λ (n : ℕ). BodyOfAnySize names twin n added) (sym own_number) added_is)

    rising : (i j : ℕ) (y z : Body) → i < j → Stands i y → Stands j z → y.method < z.method
    rising i j y z less (inl at) (inl beyond) =
        let a = twin_at i y at in
        let b = twin_at j z beyond in
        let up = r.ready.are.bodies.rising i j a.work.body b.work.body less (body_at works i a.work a.stands) (body_at works j b.work b.stands) in
        let one = a.number_is in
        let two = b.number_is in
        omega (arith, up, one, two)
    rising i j y z less (inl at) (inr last) =
        let a = twin_at i y at in
        let low = r.ready.are.bodies.below i a.work.body (body_at works i a.work a.stands) in
        let one = a.number_is in
        let end : z.method ≡ length c.methods = sym (ap (λ (b : Body). b.method) last.1) ∙ own_number in
        omega (arith, low, one, end)
    rising i j y z less (inr last) (inl beyond) =
        let within = slice_get_within ys j z beyond in
        let end = last.0 in
        absurd (omega (arith, less, within, end))
    rising i j y z less (inr last) (inr beyond) =
        let one = last.0 in
        let two = beyond.0 in
        absurd (omega (arith, less, one, two))

    own_method : (number : ℕ) (m : Member) (o : Option BodyWithStates) → slice_get c.methods number ≡ Some m → work_of number works ≡ o
        → Bodiless twin number ⊎ IsListed (ys ++ added ∷ []) number
    own_method number m None at none = inl (record {
      method = m;
      at = method_there names array c works w number m at ∙ ap (λ (o : Option BodyWithStates). Some (twin_method c.pool code m o)) none;
      none = subst (λ (l : PoolValue). HasNoCode l m) (sym (pool_so names array c works w))
          (none_at id names array works c w r number m at none);
    })
    own_method number m (Some x) at found =
        let h = work_found number works x found in
        let y = there (IsTwinOf id names array works c w r) works ys zip h.index x h.stands in
        inr (record {
          index = h.index;
          body = y.0;
          stands = put_stays ys added y.0 h.index y.1;
          number_is = y.2.is.is.parts.number_is ∙ h.number_is;
        })

    all : (number : ℕ) → number < length twin.methods → Bodiless twin number ⊎ IsListed (ys ++ added ∷ []) number
    all number inside = let many = method_count in by (below_or_last (length c.methods) number (omega (arith, inside, many)))
      where
        by : (number < length c.methods) ⊎ (number ≡ length c.methods) → Bodiless twin number ⊎ IsListed (ys ++ added ∷ []) number
        by (inl less) = let m = item_at c.methods number less in own_method number m.0 (work_of number works) m.1 refl
        by (inr last) = inr (record { index = length ys; body = added; stands = put_last ys added; number_is = own_number ∙ sym last })

    are_read : AreBodiesOfAnySize names twin (ys ++ added ∷ [])
    are_read = record {
      each = λ i y at. each i y (put_cases ys added y i at);
      rising = λ i j y z less at beyond. rising i j y z less (put_cases ys added y i at) (put_cases ys added z j beyond);
      all = all;
    }

    -- ---- outside of code

    abbrev AllNeeds : List TypeStateAt → List Content
    AllNeeds frames = needed w.fetch w.bootstrap (name_of c) (signed_id id) count frames

    -- frames are needed by the names of their classes, and by whether there are any
    needs_same : AllNeeds (all_frames names (constants_of w) array works) ≡ AllNeeds (frames_of names ys)
    needs_same =
        same_needs w.fetch w.bootstrap (name_of c) (signed_id id) count (all_frames names (constants_of w) array works) (frames_of names ys)
        (sym (named_same id names array works c w r works ys zip)) (sym (some_same id names array works c w r works ys zip))

    outside : IsSameOutside id w.bootstrap (AllNeeds (frames_of names ys)) count c twin
    outside =
        subst (λ (needs : List Content). IsSameOutside id w.bootstrap needs count c twin) needs_same
        (same_outside id names array works c twin (record { with = w; ready = r.ready; few = r.few; is = refl }))

    begins : BeginsWith c.pool twin.pool (early_needs w.fetch w.bootstrap count)
    begins =
        let frames = all_frames names (constants_of w) array works in
        let rest = place_list w.fetch count frames w.places ++ r.ready.takes.class_places in
        let needs = member_needs w.fetch (name_of c) (signed_id id) count frames ++ frame_needs frames in
        let taken = takes_split c.pool w.pool (early_needs w.fetch w.bootstrap count) needs (early_list w.fetch w.early) rest
        (early_count w.fetch w.bootstrap count w.early r.ready.takes.integers) r.ready.takes.takes in
        record {
          mid = taken.0;
          places = early_list w.fetch w.early;
          takes = taken.1;
          extends = subst (Extends taken.0) (sym (pool_so names array c works w)) (each_extends taken.0 w.pool needs rest taken.2);
        }

    is_twin_class : TwinClass id c (twin_class names array c works w)
    is_twin_class = record {
      names = names;
      bodies = bodies_of works;
      are = r.ready.are.bodies;
      fetch = w.fetch;
      bootstrap = w.bootstrap;
      gets = r.ready.gets;
      new_names = names;
      twins = ys;
      added = added;
      read = are_read;
      each = in_order id names array works c w r added 0 works ys zip (λ i x at. let first = (r.ready.are.each i x at).first in omega (arith, first));
      added_is = added_init names array r.ready.are.array_is twin (name_of c) (signed_id id) count (added_places id names array works c w r)
          (init_member w.fetch w.places count) (length c.methods) w.fetch own_method_is;
      outside = outside;
      first = begins;
    }

  pub written_twin_class : TwinClass id c (twin_class names array c works w)
  written_twin_class =
      let all = all_twins id names array works c w r in
      is_twin_class all.0 all.1

-- ---- the file

pub changed_file : (bytes : List ℕ) (a : Instrumented) → AreBytes bytes → length bytes ≤ most_read → IsInstrumentedFile bytes a → a.changed ≡ true
    → IsTwinFile bytes a.bytes
changed_file bytes a are size is changed = by (is_left_alone is.file) refl is.becomes
  where
    by : (t : Bool) → is_left_alone is.file ≡ t → Becomes t bytes is.file a → IsTwinFile bytes a.bytes
    by true stays given = absurd (true≢false (sym changed ∙ given.changed))
    by false changes has = record {
      file = is.file;
      file_is = is.text;
      twin = has.twin;
      twin_is = has.text;
      is = subst (TwinClass (class_id bytes) is.file) (sym (file_class bytes a are size is changes has))
          (written_twin_class (class_id bytes) has.names has.array (map framed_work has.works) is.file has.written.with
          (file_works bytes a are size is changes has));
    }
