-- The bodies that are read of the twin class that is written: a twin of each body of the class, in order.
use Rattle.std.proofs.Common.{◌≡◌, ℕ, zero, suc, ◌+◌, ◌<◌, Bool, List, [], ◌∷◌, ◌++◌, length, map, Option, Some, None, refl, sym, ◌∙◌, ap, ap₂, subst, arith, if◌then◌else◌}
use Rattle.std.specs.Prelude.{◌≢◌, ℤ, codes, slice_get, take, unwrap_or, MatchOption}
use Rattle.std.specs.List.{AllZip}
use Rattle.std.specs.Option.{IsSomeAnd}
use Rattle.std.proofs.lemmas.Bool.{eq-eqb, ne_eqb}
use Rattle.std.proofs.lemmas.Grind.{flat_map-append}
use Rattle.std.proofs.lemmas.List.{length-append, length-map}
use Rattle.std.proofs.lemmas.List.Concat.{flat_map-cons}
use Rattle.std.proofs.lemmas.List.Sums.{sum_by-cons}
use Rattle.std.proofs.lemmas.Option.{none-some, same_Some}
use Rattle.std.proofs.lemmas.Slice.Zip.{AllZip-left, AllZip-right}
use Rattle.jc_methods.specs.VerificationTypes.{Names, TypeStateAt, type_state_at}
use Rattle.jc_methods.specs.ProbeMembers.{bootstrap_type, bootstraps_name, data_type, init_name}
use Rattle.jc_methods.specs.declared.body.Body.{Body}
use Rattle.jc_methods.specs.declared.body.FrameAt.{FrameAt}
use Rattle.jc_methods.specs.declared.body.Use.{Use}
use Rattle.jc_methods.specs.declared.body.What.{What}
use Rattle.jc_methods.specs.declared.emitted.Emitted.{Emitted}
use Rattle.jc_methods.specs.declared.probe_members.Fetch.{Fetch}
use Rattle.jc_methods.specs.declared.probe_members.Fetch.TheVariants as fetches
use Rattle.jc_class.specs.declared.class_file.ClassFile.{ClassFile}
use Rattle.jc_class.specs.declared.class_file.Member.{Member}
use Rattle.jc_frames.specs.FullTable.{named_by, named_by_all}
use Rattle.jc_body.specs.BodyOf.{BodyOf, BodyOfAnySize}
use Rattle.jc_kinds.specs.Answers.{AreStates}
use Rattle.jc_plan.specs.Probed.{first_id, probe_count}
use Rattle.jc_emit.specs.Added.{giver_of}
use Rattle.jc_emit.specs.Emission.{Emitting, widened_frame}
use Rattle.jc_emit.specs.Marks.{TwinPlaces}
use Rattle.jc_emit.specs.Twin.{Twin}
use Rattle.jc_emit.specs.TwinBodies.{AreTwinBodies}
use Rattle.jc_layout.specs.LaidBody.{laid_body, laid_frames, laid_place}
use Rattle.jc_layout.specs.Layout.{chosen_list}
use Rattle.jc_instrument_code.specs.TwinCode.{chosen_frames, written_frames}
use Rattle.jc_instrument_reread.specs.Written.{IsWrittenMethod, fetch_method}
use Rattle.jc_instrument_reread.specs.WrittenCode.{ready_emission}
use Rattle.jc_instrument_reread.proofs.LaidFrameLaws.{laid_named}
use Rattle.jc_instrument_reread.proofs.ReadAgainLaws.{body_again, is_body, is_twin}
use Rattle.jc_instrument.specs.Constants.{given_with}
use Rattle.jc_instrument.specs.TwinText.{Writing, code_with, constants_of, twin_class, twin_method, work_of}
use Rattle.jc_instrument.specs.BodiesWithStates.{BodyWithStates, all_frames, bodies_of, emitted_of}
use Rattle.jc_instrument.specs.Contents.{Content, class_entry, long_entry, handle_entry, member_entry, string_entry, text_entry}
use Rattle.jc_instrument.specs.Needed.{count_needs, early_needs, frames_needs, bootstrap_handle, member_needs, name_of, needed}
use Rattle.jc_instrument.proofs.ListedLaws.{body_at}
use Rattle.jc_instrument.proofs.WrittenAgainLaws.{AreWrittenWorks, method_there, written_at}
use Rattle.jc_instrument.proofs.WrittenCodeLaws.{code_places, ready_same}
use Rattle.jc_instrument_laws.specs.TwinClass.{frames_of}

-- ---- lists, item by item

from_some : {Y : Type 0} (P : Y → Type 0) (o : Option Y) → IsSomeAnd o P → (y : Y) × (o ≡ Some y) × P y
from_some P None none = absurd none
from_some P (Some y) is = (y, refl, is)

module _ {X Y : Type 0} (R : X → Y → Type 0) where
  -- the items of another list, one for each
  pub each_made : (xs : List X) → ((i : ℕ) (x : X) → slice_get xs i ≡ Some x → (y : Y) × R x y) → (ys : List Y) × AllZip R xs ys
  each_made [] each = ([], tt)
  each_made (x ∷ xs) each =
      let first = each 0 x refl in
      let rest = each_made xs (λ i z at. each (suc i) z at) in
      (first.0 ∷ rest.0, (first.1, rest.1))

  pub there : (xs : List X) (ys : List Y) → AllZip R xs ys → (i : ℕ) (x : X) → slice_get xs i ≡ Some x → (y : Y) × (slice_get ys i ≡ Some y) × R x y
  there xs ys zip i x at =
      from_some (R x) (slice_get ys i)
      (subst (λ (o : Option X). MatchOption o (Unit {0}) (λ z. IsSomeAnd (slice_get ys i) (R z))) at (AllZip-left R xs ys zip i))

  pub back : (xs : List X) (ys : List Y) → AllZip R xs ys → (i : ℕ) (y : Y) → slice_get ys i ≡ Some y → (x : X) × (slice_get xs i ≡ Some x) × R x y
  back xs ys zip i y at =
      from_some (λ x. R x y) (slice_get xs i)
      (subst (λ (o : Option Y). MatchOption o (Unit {0}) (λ z. IsSomeAnd (slice_get xs i) (λ x. R x z))) at (AllZip-right R xs ys zip i))

-- ---- what frames need

text_same : (frames others : List TypeStateAt) → length frames ≡ length others → frames_needs frames ≡ frames_needs others
text_same [] [] same = refl
text_same [] (y ∷ others) same = absurd (omega (arith, same))
text_same (x ∷ frames) [] same = absurd (omega (arith, same))
text_same (x ∷ frames) (y ∷ others) same = refl

members_same : (fetch : Fetch) (owner : List ℕ) (id : ℤ) (count : ℕ) (frames others : List TypeStateAt) → frames_needs frames ≡ frames_needs others
    → member_needs fetch owner id count frames ≡ member_needs fetch owner id count others
members_same fetches.Member owner id count frames others same = refl
members_same fetches.Constant owner id count frames others same = λ i.
    text_entry init_name ∷ text_entry bootstrap_type
    ∷ handle_entry (bootstrap_handle owner) ∷ member_entry fetch_method
    ∷ text_entry (codes "Code") ∷ text_entry bootstraps_name
    ∷ long_entry id ∷ string_entry owner
    ∷ class_entry data_type
    ∷ (count_needs count ++ same i)

-- frames need the same where they name the same classes, and there are as many
pub same_needs : (fetch : Fetch) (bootstrap : ℕ) (owner : List ℕ) (id : ℤ) (count : ℕ) (frames others : List TypeStateAt)
    → named_by_all frames ≡ named_by_all others → length frames ≡ length others
    → needed fetch bootstrap owner id count frames ≡ needed fetch bootstrap owner id count others
same_needs fetch bootstrap owner id count frames others named many =
    ap₂ (λ (members : List Content) (names : Names). early_needs fetch bootstrap count ++ (members ++ map class_entry names))
    (members_same fetch owner id count frames others (text_same frames others many)) named

-- ---- the work of a method

work_there : (works : List BodyWithStates)
    → ((i j : ℕ) (a b : Body) → i < j → slice_get (bodies_of works) i ≡ Some a → slice_get (bodies_of works) j ≡ Some b → a.method < b.method)
    → (i : ℕ) (x : BodyWithStates) → slice_get works i ≡ Some x → work_of x.body.method works ≡ Some x
work_there [] rising i x at = absurd (none-some x at)
work_there (y ∷ works) rising zero x at =
    let same = same_Some y x at in
    ap (λ (t : Bool). if t then Some y else work_of x.body.method works) (eq-eqb y.body.method x.body.method (ap (λ (z : BodyWithStates). z.body.method) same))
    ∙ ap Some same
work_there (y ∷ works) rising (suc i) x at =
    let less = rising 0 (suc i) y.body x.body (omega arith) refl (body_at works i x at) in
    let other : y.body.method ≢ x.body.method = omega (arith, less) in
    ap (λ (t : Bool). if t then Some y else work_of x.body.method works) (ne_eqb y.body.method x.body.method other)
    ∙ work_there works (λ j k a b lt p q. rising (suc j) (suc k) a b (omega (arith, lt)) p q) i x at

-- ---- the frames of a layout

laid_frames_are : (b : Body) (e : Emitted) (wide : List Bool) (fetch : Fetch) (p : TwinPlaces) (uses : List Use)
    → (laid_body b e wide fetch p uses).frames ≡ laid_frames wide e
unfolding laid_body
laid_frames_are b e wide fetch p uses = refl

module _ (id : ℕ) (names : Names) (array : ℕ) (works : List BodyWithStates) (c : ClassFile) (w : Writing) (so : AreWrittenWorks id names array works c w) where
  abbrev twin : ClassFile
  twin = twin_class names array c works w

  -- what gives the array of probes
  abbrev pub giver : What
  giver = giver_of w.fetch (name_of c) w.bootstrap

  abbrev given : Emitting
  given = given_with (constants_of w) array

  -- ---- one body

  -- The body is that of the method in the twin class, and is a twin of the work's body. Its frames name the classes that the written
  -- ones name.
  pub record IsTwinOf (x : BodyWithStates) (y : Body) : Type 0 where
    pub states : AreStates names x.body x.states
    pub is : BodyOfAnySize names twin x.body.method y
    pub twin_is : Twin names names x.states w.fetch giver x.first x.body y
    pub named : named_by_all (map (type_state_at names) y.frames) ≡ named_by_all (written_frames names (emitted_of (constants_of w) array x))
    pub counted : length (map (type_state_at names) y.frames) ≡ length (written_frames names (emitted_of (constants_of w) array x))

  module _ (i : ℕ) (x : BodyWithStates) (at : slice_get works i ≡ Some x) where
    body : BodyOf names c x.body.method x.body
    body = so.ready.are.bodies.each i x.body (body_at works i x at)

    owner_is : x.body.owner ≡ name_of c
    owner_is = sym (ap (λ (o : Option (List ℕ)). unwrap_or o []) body.is.parts.owner)

    found : work_of x.body.method works ≡ Some x
    found = work_there works so.ready.are.bodies.rising i x at

    abbrev new : Member
    new = twin_method c.pool (code_with names array w) body.method (Some x)

    written : IsWrittenMethod names c twin w.bootstrap (code_places w) given body.method new x.body x.states x.first
    written = written_at id names array works c w so i x at (so.coded x.body.method x found) body.method body.at

    new_there : slice_get twin.methods x.body.method ≡ Some new
    new_there =
        method_there names array c works w x.body.method body.method body.at
        ∙ ap (λ (o : Option BodyWithStates). Some (twin_method c.pool (code_with names array w) body.method o)) found

    abbrev emitted : Emitted
    emitted = ready_emission x.body x.first x.states given (code_places w).giver

    abbrev again : Body
    again = body_again names c twin w.bootstrap (code_places w) given body.method new x.body x.states x.first written

    its_twin : (y : Body) × IsTwinOf x y
    its_twin = (
      again,
      record {
        states = (so.ready.are.each i x at).states;
        is = record {
          method = new;
          at = new_there;
          is = is_body names c twin w.bootstrap (code_places w) given body.method new x.body x.states x.first written;
        };
        twin_is = subst (λ (o : List ℕ). Twin names names x.states w.fetch (giver_of w.fetch o w.bootstrap) x.first x.body again) owner_is
            (is_twin names c twin w.bootstrap (code_places w) given body.method new x.body x.states x.first written);
        named =
            ap (λ (l : List FrameAt). named_by_all (map (type_state_at names) l)) (laid_frames_are x.body emitted (chosen_list emitted.code) w.fetch _ _)
            ∙ laid_named (chosen_list emitted.code) names emitted
            ∙ ap (λ (e : Emitted). named_by_all (written_frames names e)) (ready_same w array x);
        counted =
            ap (λ (l : List FrameAt). length (map (type_state_at names) l)) (laid_frames_are x.body emitted (chosen_list emitted.code) w.fetch _ _)
            ∙ length-map (laid_frames (chosen_list emitted.code) emitted) (type_state_at names)
            ∙ length-map (chosen_frames emitted) (widened_frame (laid_place (chosen_list emitted.code) emitted.code))
            ∙ sym (length-map (chosen_frames emitted) (type_state_at names))
            ∙ ap (λ (e : Emitted). length (written_frames names e)) (ready_same w array x);
      },
    )

  -- ---- all of them

  pub all_twins : (ys : List Body) × AllZip IsTwinOf works ys
  all_twins = each_made IsTwinOf works its_twin

  pub in_order : (added : Body) (first : ℕ) (ws : List BodyWithStates) (ys : List Body) → AllZip IsTwinOf ws ys
      → ((i : ℕ) (x : BodyWithStates) → slice_get ws i ≡ Some x → x.first ≡ first + first_id (bodies_of ws) i)
      → AreTwinBodies names names w.fetch giver first (bodies_of ws) (ys ++ added ∷ []) added
  in_order added first [] [] zip firsts = refl
  in_order added first [] (y ∷ ys) zip firsts = absurd zip
  in_order added first (x ∷ ws) [] zip firsts = absurd zip
  in_order added first (x ∷ ws) (y ∷ ys) zip firsts =
      let own = firsts 0 x refl in
      let same : x.first ≡ first = omega (arith, own) in (
        record {
          states = x.states;
          are = zip.0.states;
          twin = subst (λ (n : ℕ). Twin names names x.states w.fetch giver n x.body y) same zip.0.twin_is;
        },
        in_order added (first + probe_count x.body) ws ys zip.1 (λ i z at.
            let e = firsts (suc i) z at in
            let more = sum_by-cons probe_count x.body (take i (bodies_of ws)) in
            omega (arith, e, more)),
      )

  -- how many frames they have
  pub some_same : (ws : List BodyWithStates) (ys : List Body) → AllZip IsTwinOf ws ys
      → length (frames_of names ys) ≡ length (all_frames names (constants_of w) array ws)
  some_same [] [] zip = refl
  some_same [] (y ∷ ys) zip = absurd zip
  some_same (x ∷ ws) [] zip = absurd zip
  some_same (x ∷ ws) (y ∷ ys) zip =
      let frames : BodyWithStates → List TypeStateAt = λ v. written_frames names (emitted_of (constants_of w) array v) in
      let rest = some_same ws ys zip.1 in
      let one = zip.0.counted in
      let left = ap (λ (l : List TypeStateAt). length l) (flat_map-cons (λ (b : Body). map (type_state_at names) b.frames) y ys)
      ∙ length-append (map (type_state_at names) y.frames) (frames_of names ys) in
      let right = ap (λ (l : List TypeStateAt). length l) (flat_map-cons frames x ws)
      ∙ length-append (frames x) (all_frames names (constants_of w) array ws) in
      omega (arith, rest, one, left, right)

  -- the classes that their frames name
  pub named_same : (ws : List BodyWithStates) (ys : List Body) → AllZip IsTwinOf ws ys
      → named_by_all (frames_of names ys) ≡ named_by_all (all_frames names (constants_of w) array ws)
  named_same [] [] zip = refl
  named_same [] (y ∷ ys) zip = absurd zip
  named_same (x ∷ ws) [] zip = absurd zip
  named_same (x ∷ ws) (y ∷ ys) zip =
      ap named_by_all (flat_map-cons (λ (b : Body). map (type_state_at names) b.frames) y ys)
      ∙ flat_map-append named_by (map (type_state_at names) y.frames) (frames_of names ys)
      ∙ ap₂ (λ (a : Names) (b : Names). a ++ b) zip.0.named (named_same ws ys zip.1)
      ∙ sym (flat_map-append named_by (written_frames names (emitted_of (constants_of w) array x)) (all_frames names (constants_of w) array ws))
      ∙ sym (ap named_by_all (flat_map-cons (λ (v : BodyWithStates). written_frames names (emitted_of (constants_of w) array v)) x ws))
