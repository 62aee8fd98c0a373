-- Each method of the twin class that is written has no code, or its instrumented code, or is the added one.
use Rattle.std.proofs.Common.{◌≡◌, ◌⊎◌, inl, inr, ℕ, ℤ, pos, zero, suc, ◌+◌, ◌<◌, ◌≤◌, Bool, true, false, List, [], ◌∷◌, ◌++◌, length, map, Option, Some, None, nat_eq, nat_le, refl, sym, ◌∙◌, ap, subst, arith, if◌then◌else◌}
use Rattle.std.specs.Prelude.{codes, filter, slice_get, unwrap_or}
use Rattle.std.specs.List.{AllByRecursion}
use Rattle.std.proofs.lemmas.Bool.{cases_lt, eq-eqb, eqb-true}
use Rattle.std.proofs.lemmas.Grind.{flat_map-append}
use Rattle.std.proofs.lemmas.List.Concat.{flat_map-cons}
use Rattle.std.proofs.lemmas.Option.{none-some, same_Some, slice_get_within}
use Rattle.jc_methods.specs.Opcode as opcode
use Rattle.jc_methods.specs.declared.emitted.Emitted.{Emitted}
use Rattle.jc_methods.specs.declared.probe_members.Fetch.{Fetch}
use Rattle.jc_methods.specs.declared.probe_members.Fetch.TheVariants as fetches
use Rattle.jc_methods.specs.VerificationTypes.{Names}
use Rattle.jc_bytes.specs.BigNumbers.{short}
use Rattle.jc_bytes.specs.PlainLists.{map_from}
use Rattle.jc_methods.specs.WellMade.{IsWellMadeOfAnySize}
use Rattle.jc_methods.specs.declared.body.Body.{Body}
use Rattle.jc_bytes.proofs.ListLaws.{put_stays, put_cases, all_at}
use Rattle.jc_pool.specs.Adding.{Extends}
use Rattle.jc_pool.specs.Lookup.{Member as MemberText, class_name_of, long_in, long_of, member_of, string_of, utf8_of}
use Rattle.jc_pool.specs.Pool.{PoolValue}
use Rattle.jc_pool.specs.declared.index.Naming.TheVariants as naming
use Rattle.jc_pool.proofs.AddedLaws.{naming_kept, utf8_kept}
use Rattle.jc_pool.proofs.AddedMemberLaws.{member_past}
use Rattle.jc_pool.proofs.KeyPlaceLaws.{naming_past}
use Rattle.jc_pool.proofs.OneMoreEntryLaws.{past}
use Rattle.jc_class.specs.ClassFormat.{HasMethodDescriptor, HasText}
use Rattle.jc_class.specs.Writable.{IsAttribute, IsClassFile, IsMember}
use Rattle.jc_class.specs.declared.class_file.Attribute.{Attribute}
use Rattle.jc_class.specs.declared.class_file.ClassFile.{ClassFile}
use Rattle.jc_class.specs.declared.class_file.Member.{Member}
use Rattle.jc_body.specs.Attributes.{bodies_of as texts_of, has_name, is_text}
use Rattle.jc_body.specs.BodyOf.{Bodiless, BodyOf, IsBody}
use Rattle.jc_body.specs.Coded.{HasNoCode, code_bodies}
use Rattle.jc_frames.specs.FullTable.{HasPlace, named_by, named_by_all}
use Rattle.jc_frames.proofs.FullTextLaws.{both_parts}
use Rattle.jc_kinds.specs.Answers.{AreStates}
use Rattle.jc_kinds.specs.Checked.{Checked}
use Rattle.jc_plan.specs.Probed.{probe_count}
use Rattle.jc_plan.proofs.PlanLaws.{mapped_at}
use Rattle.jc_emit.specs.Added.{init_stack}
use Rattle.jc_methods.specs.ProbeMembers.{data_type, most_probes}
use Rattle.jc_emit.specs.Emission.{HasFrameStates, IsArrayNumber}
use Rattle.jc_emit.specs.Straddling.{NoneStraddles}
use Rattle.jc_emit.proofs.WideFrameLaws.{emitted}
use Rattle.jc_layout.specs.Layout.{chosen_length, chosen_list, chosen_starts, chosen_text}
use Rattle.jc_layout.specs.declared.layouts.Laid.{Laid}
use Rattle.jc_layout.proofs.ChoiceLaws.{text_length}
use Rattle.jc_instrument_code.specs.CodeText.{attribute, code_text}
use Rattle.jc_instrument_code.specs.Given.{AreFrames, HaveClasses}
use Rattle.jc_instrument_code.specs.InitText.{added_text, bootstrap_bytes, count_text, init_bytes, init_frames, named_places, push_count}
use Rattle.jc_instrument_code.specs.TwinCode.{chosen_frames, twin_code, written_frames}
use Rattle.jc_instrument_code.specs.declared.init.AddedPlaces.{AddedPlaces}
use Rattle.jc_instrument_reread.specs.Again.{IsAddedAt, IsWrittenAt, AreWrittenMethods}
use Rattle.jc_instrument_reread.specs.Written.{HasCountEntry, HasFieldEntries, HasGiver, IsAddedMethod, IsFitting, IsGrownPool, IsWrittenMethod, data_field, fetch_method}
use Rattle.jc_instrument_reread.specs.InitRead.{HasFieldPlaces}
use Rattle.jc_instrument_reread.specs.WrittenCode.{IsWrittenCode}
use Rattle.jc_instrument.specs.Constants.{given_with}
use Rattle.jc_instrument.specs.declared.constants.ProbeConstants.{ProbeConstants}
use Rattle.jc_plan.specs.Analysed.{all_probes}
use Rattle.jc_instrument.specs.Bodies.{IsListed}
use Rattle.jc_instrument.specs.Needed.{early_list, name_of, place_list, signed_id}
use Rattle.jc_instrument.specs.TwinText.{IsReadyFor, Writing, code_with, constants_of, init_member, init_places, needs_of, twin_class, twin_method, twin_methods, with_code, work_of}
use Rattle.jc_instrument.specs.BodiesWithStates.{BodyWithStates, all_frames, bodies_of, emitted_of, AreBodiesWithStates}
use Rattle.jc_instrument.specs.declared.needs.MemberPlaces.{MemberPlaces}
use Rattle.jc_instrument.proofs.NamedWorksLaws.{all_placed}
use Rattle.jc_instrument.proofs.TakingLaws.{each_extends}
use Rattle.jc_instrument.proofs.StandingLaws.{NeedsStand, OwnStand, giver_has, integer_inside, integers_have, needs_stand}
use Rattle.jc_instrument.proofs.TwinMethodLaws.{same_code}
use Rattle.jc_instrument.proofs.WritableLaws.{has_frames}
use Rattle.jc_instrument.proofs.ListedLaws.{body_at}
use Rattle.jc_instrument.proofs.WrittenCodeLaws.{code_places, ids_among, ready_same}
use Rattle.jc_methods.specs.ProbeMembers.{most_short}

-- ---- lists

pub from_at : {X Y : Type 0} (f : ℕ → X → Y) (k : ℕ) (xs : List X) (i : ℕ) (y : Y) → slice_get (map_from f k xs) i ≡ Some y
    → (x : X) × (slice_get xs i ≡ Some x) × (f (k + i) x ≡ y)
from_at f k [] i y at = absurd (none-some y at)
from_at f k (x ∷ xs) zero y at = (x, refl, ap (λ n. f n x) (let e : k + 0 ≡ k = omega arith in e) ∙ same_Some (f k x) y at)
from_at f k (x ∷ xs) (suc i) y at =
    let rest = from_at f (k + 1) xs i y at in
    (rest.0, rest.1, ap (λ n. f n rest.0) (let e : k + suc i ≡ k + 1 + i = omega arith in e) ∙ rest.2)

-- ---- the work of a method

pub record IsWorkAt (works : List BodyWithStates) (number : ℕ) (x : BodyWithStates) : Type 0 where
  pub index : ℕ
  pub stands : slice_get works index ≡ Some x
  pub number_is : x.body.method ≡ number

pub work_found : (number : ℕ) (works : List BodyWithStates) (x : BodyWithStates) → work_of number works ≡ Some x → IsWorkAt works number x
work_found number [] x is = absurd (none-some x is)
work_found number (y ∷ works) x is = by (nat_eq y.body.method number) refl is (λ later. work_found number works x later)
  where
    by : (t : Bool) → nat_eq y.body.method number ≡ t → (if t then Some y else work_of number works) ≡ Some x
        → (work_of number works ≡ Some x → IsWorkAt works number x) → IsWorkAt (y ∷ works) number x
    by true same h more =
        let here = same_Some y x h in
        record { index = 0; stands = h; number_is = ap (λ (z : BodyWithStates). z.body.method) (sym here) ∙ eqb-true y.body.method number same }
    by false other h more = let m = more h in record { index = suc m.index; stands = m.stands; number_is = m.number_is }

none_found : (number : ℕ) (works : List BodyWithStates) → work_of number works ≡ None → IsListed (bodies_of works) number → ⊥
none_found number works none l = at works none l.index l.body l.stands l.number_is
  where
    at : (works : List BodyWithStates) → work_of number works ≡ None → (i : ℕ) (b : Body) → slice_get (bodies_of works) i ≡ Some b → b.method ≡ number → ⊥
    at [] none i b stands is = none-some b stands
    at (y ∷ works) none i b stands is = by (nat_eq y.body.method number) refl none (λ later j there. at works later j b there is)
      where
        no : (i : ℕ) → nat_eq y.body.method number ≡ false → slice_get (bodies_of (y ∷ works)) i ≡ Some b
            → ((j : ℕ) → slice_get (bodies_of works) j ≡ Some b → ⊥) → ⊥
        no zero other there more =
            let same : y.body.method ≡ number = ap (λ (z : Body). z.method) (same_Some y.body b there) ∙ is in
            differ (sym other ∙ eq-eqb y.body.method number same)
          where
            differ : false ≡ true → ⊥
            differ e = cc
        no (suc j) other there more = more j there

        by : (t : Bool) → nat_eq y.body.method number ≡ t → (if t then Some y else work_of number works) ≡ None
            → (work_of number works ≡ None → (j : ℕ) → slice_get (bodies_of works) j ≡ Some b → ⊥) → ⊥
        by true same h more = none-some y (sym h)
        by false other h more = no i other stands (more h)

-- ---- the code of a method

module _ (old new : PoolValue) (extends : Extends old new) (code : List ℕ) where
  same_name : (a : Attribute) → HasText old a.name → has_name new (codes "Code") a ≡ has_name old (codes "Code") a
  same_name a text = ap (is_text (codes "Code")) (utf8_kept old new text.0 a.name extends text.1 ∙ sym text.1)

  coded_texts : (l : List Attribute) → AllByRecursion (IsAttribute (HasText old)) l
      → texts_of new (codes "Code") (map (with_code old code) l) ≡ map (λ b. code) (texts_of old (codes "Code") l)
  coded_texts [] named = refl
  coded_texts (a ∷ l) named =
      by (has_name old (codes "Code") a) refl (same_name a named.0.name) (coded_texts l named.1)
    where
      by : (t : Bool) → has_name old (codes "Code") a ≡ t → has_name new (codes "Code") a ≡ has_name old (codes "Code") a
          → texts_of new (codes "Code") (map (with_code old code) l) ≡ map (λ b. code) (texts_of old (codes "Code") l)
          → texts_of new (codes "Code") ((if t then attribute a.name code else a) ∷ map (with_code old code) l)
          ≡ map (λ b. code) (map (λ x. x.body) (if t then a ∷ filter (has_name old (codes "Code")) l else filter (has_name old (codes "Code")) l))
      by true is same rest =
          ap (λ (s : Bool). map (λ x. x.body) (if s then attribute a.name code ∷ filter (has_name new (codes "Code")) (map (with_code old code) l)
          else filter (has_name new (codes "Code")) (map (with_code old code) l)))
          (same ∙ is) ∙ ap (λ (r : List (List ℕ)). code ∷ r) rest
      by false is same rest =
          ap (λ (s : Bool). map (λ x. x.body) (if s then a ∷ filter (has_name new (codes "Code")) (map (with_code old code) l) else filter (has_name new (codes "Code")) (map (with_code old code) l)))
          (same ∙ is) ∙ rest

-- ---- the classes of one body's frames

classes_of : (pool : PoolValue) (names : Names) (constants : ProbeConstants) (array : ℕ) (works : List BodyWithStates)
    → AllByRecursion (HasPlace pool) (named_by_all (all_frames names constants array works))
    → (i : ℕ) (x : BodyWithStates) → slice_get works i ≡ Some x → HaveClasses pool names (emitted_of constants array x)
classes_of pool names constants array [] all i x at = absurd (none-some x at)
classes_of pool names constants array (w ∷ works) all i x at = by i at (λ j there. classes_of pool names constants array works both.1 j x there)
  where
    split : named_by_all (all_frames names constants array (w ∷ works)) ≡ named_by_all (written_frames names (emitted_of constants array w)) ++ named_by_all (all_frames names constants array works)
    split =
        ap named_by_all (flat_map-cons (λ (y : BodyWithStates). written_frames names (emitted_of constants array y)) w works)
        ∙ flat_map-append named_by (written_frames names (emitted_of constants array w)) (all_frames names constants array works)

    both : AllByRecursion (HasPlace pool) (named_by_all (written_frames names (emitted_of constants array w))) × AllByRecursion (HasPlace pool) (named_by_all (all_frames names constants array works))
    both =
        both_parts (HasPlace pool) (named_by_all (written_frames names (emitted_of constants array w))) (named_by_all (all_frames names constants array works))
        (subst (AllByRecursion (HasPlace pool)) split all)

    by : (i : ℕ) → slice_get (w ∷ works) i ≡ Some x → ((j : ℕ) → slice_get works j ≡ Some x → HaveClasses pool names (emitted_of constants array x))
        → HaveClasses pool names (emitted_of constants array x)
    by zero there more = subst (λ (y : BodyWithStates). HaveClasses pool names (emitted_of constants array y)) (same_Some w x there) both.0
    by (suc j) there more = more j there

-- ---- the frames of one body

-- the layout of a work, whether or not it fits
abbrev laid_of : ProbeConstants → (array : ℕ) → BodyWithStates → Laid
laid_of constants array x = record {
  wide = chosen_list (emitted_of constants array x).code;
  starts = chosen_starts (emitted_of constants array x).code;
  code = chosen_text (emitted_of constants array x).code;
}

frames_are : (constants : ProbeConstants) (names : Names) (array : ℕ) (x : BodyWithStates) → AreStates names x.body x.states → IsArrayNumber names array → IsWellMadeOfAnySize x.body
    → HasFrameStates x.body x.states → chosen_length (emitted_of constants array x).code ≤ 65535 → (emitted_of constants array x).max_locals ≤ 65535
    → (emitted_of constants array x).max_stack ≤ 65535 → AreFrames (emitted_of constants array x) (length names) (chosen_frames (emitted_of constants array x))
frames_are constants names array x are array_is well fit short locals stack =
    has_frames constants names x.body x.first x.states array (laid_of constants array x) are array_is
    (record { wide = refl; starts = refl; text = refl; few = let size = text_length (emitted_of constants array x).code in omega (arith, size, short) })
    (emitted x.body x.first x.states (given_with constants array) names well fit array_is) locals stack

-- ---- what the added method names

pub member_below : (pool : PoolValue) → length pool ≤ 65535 → (place : ℕ) (m : MemberText) → member_of pool place ≡ Some m → place < 65536
member_below pool few place m there = by (cases_lt place (length pool))
  where
    by : (place < length pool) ⊎ (length pool ≤ place) → place < 65536
    by (inl less) = omega (arith, less, few)
    by (inr behind) = absurd (none-some m (sym (member_past pool place behind) ∙ there))

pub long_below : (pool : PoolValue) → length pool ≤ 65535 → (place : ℕ) (value : ℤ) → long_of pool place ≡ Some value → place < 65536
unfolding long_of
long_below pool few place value there = by (cases_lt place (length pool))
  where
    by : (place < length pool) ⊎ (length pool ≤ place) → place < 65536
    by (inl less) = omega (arith, less, few)
    by (inr behind) = absurd (none-some value (sym (past long_in pool place behind) ∙ there))

pub string_below : (pool : PoolValue) → length pool ≤ 65535 → (place : ℕ) (text : List ℕ) → string_of pool place ≡ Some text → place < 65536
string_below pool few place text there = by (cases_lt place (length pool))
  where
    by : (place < length pool) ⊎ (length pool ≤ place) → place < 65536
    by (inl less) = omega (arith, less, few)
    by (inr behind) = absurd (none-some text (sym (naming_past naming.String pool place behind) ∙ there))

pub count_below : (pool : PoolValue) → length pool ≤ 65535 → (count place : ℕ) (t : Bool) → HasCountEntry t pool count place → (if t then 0 else place) < 65536
count_below pool few count place true entry = omega arith
count_below pool few count place false entry = let there = integer_inside pool place (pos count) entry in omega (arith, there, few)

pub count_entry : (pool : PoolValue) (count place : ℕ) (t : Bool) → HasCountEntry t pool count place → HasCountEntry t pool count (if t then 0 else place)
count_entry pool count place true entry = tt
count_entry pool count place false entry = entry

field_placed : (fetch : Fetch) (pool : PoolValue) → length pool ≤ 65535 → (owner : List ℕ) (p : MemberPlaces) (a : AddedPlaces) → a.field ≡ p.field → a.frames ≡ p.frames
    → OwnStand fetch pool owner p → HasFieldPlaces fetch pool a
field_placed fetches.Member pool few owner p a field frames own = (
  member_below pool few a.field (data_field owner) (ap (member_of pool) field ∙ own.2),
  ap (utf8_of pool) frames ∙ own.4,
)
field_placed fetches.Constant pool few owner p a field frames own = tt

field_found : (fetch : Fetch) (pool : PoolValue) (owner : List ℕ) (p : MemberPlaces) (a : AddedPlaces) → a.field ≡ p.field → a.array ≡ p.array → OwnStand fetch pool owner p
    → class_name_of pool p.array ≡ Some data_type → HasFieldEntries fetch pool owner a
field_found fetches.Member pool owner p a field array own is = (ap (member_of pool) field ∙ own.2, ap (class_name_of pool) array ∙ is)
field_found fetches.Constant pool owner p a field array own is = tt

-- where no Integer is pushed its place is of no matter
pub pushed_same : (count place : ℕ) → count_text place count ≡ count_text (if nat_le count most_short then 0 else place) count
pushed_same count place = by (nat_le count most_short)
  where
    by : (t : Bool) → (if t then push_count count else opcode.ldc_w ∷ short place) ≡ (if t then push_count count else opcode.ldc_w ∷ short (if t then 0 else place))
    by true = refl
    by false = refl

placed_so : (fetch : Fetch) (p : MemberPlaces) (count frames array : ℕ)
    → added_text fetch (init_places p) frames array count
    ≡ added_text fetch (record { field = p.field; id = p.id; name = p.name; count = if nat_le count most_short then 0 else p.count; fetch = p.fetch }) frames array count
unfolding init_bytes bootstrap_bytes
placed_so fetches.Member p count frames array = λ k.
    code_text init_stack 0 (init_bytes (init_places p) (pushed_same count p.count k)) (short 0) (init_frames frames array (pushed_same count p.count k) ∷ [])
placed_so fetches.Constant p count frames array = λ k. code_text init_stack 3 (bootstrap_bytes (init_places p) (pushed_same count p.count k)) (short 0) []

-- ---- the class

-- each of the bodies is well made and passes the kind check, and no long or double straddles its arguments
pub record AreSoundBodies (names : Names) (bodies : List Body) : Type 0 where
  pub well_made : (i : ℕ) (b : Body) → slice_get bodies i ≡ Some b → IsWellMadeOfAnySize b
  pub checked : (i : ℕ) (b : Body) → slice_get bodies i ≡ Some b → Checked names b
  pub none_straddles : (i : ℕ) (b : Body) → slice_get bodies i ≡ Some b → NoneStraddles b

-- The works of a class, whose pool takes what the class needs: each body is sound and has the states of its frames, there are few
-- probes, and the code of each can be written.
pub record AreWrittenWorks (id : ℕ) (names : Names) (array : ℕ) (works : List BodyWithStates) (c : ClassFile) (w : Writing) : Type 0 where
  pub is : IsClassFile c
  pub ready : IsReadyFor id names array works c w
  pub few : length w.pool ≤ 65535
  pub fits : (i : ℕ) (x : BodyWithStates) → slice_get works i ≡ Some x → HasFrameStates x.body x.states
  pub sound : AreSoundBodies names (bodies_of works)
  pub probes : all_probes (bodies_of works) ≤ most_probes
  pub coded : (number : ℕ) (x : BodyWithStates) → work_of number works ≡ Some x
      → IsWrittenCode w.pool w.fetch (code_places w) names (emitted_of (constants_of w) array x)

module _ (id : ℕ) (names : Names) (array : ℕ) (works : List BodyWithStates) (c : ClassFile) (w : Writing) (so : AreWrittenWorks id names array works c w) where
  abbrev constants : ProbeConstants
  constants = constants_of w

  abbrev twin : ClassFile
  twin = twin_class names array c works w

  abbrev pub code : BodyWithStates → List ℕ
  code x = code_with names array w x

  abbrev count : ℕ
  count = all_probes (bodies_of works)

  stands : NeedsStand id c count (all_frames names constants array works) w so.ready.takes.class_places
  stands = needs_stand id names array c works w so.ready.takes

  extends : Extends c.pool w.pool
  extends =
      each_extends c.pool w.pool (needs_of id names array c works w)
      (early_list w.fetch w.early ++ (place_list w.fetch count (all_frames names constants array works) w.places ++ so.ready.takes.class_places))
      so.ready.takes.takes

  owner_is : class_name_of c.pool c.this_class ≡ Some (name_of c)
  owner_is = so.is.this_class.1 ∙ ap Some (sym (ap (λ (o : Option (List ℕ)). unwrap_or o []) so.is.this_class.1))

  pool_is : twin.pool ≡ w.pool
  unfolding twin_class
  pool_is = refl

  methods_are : twin.methods ≡ twin_methods c.pool code works c.methods ++ init_member w.fetch w.places count ∷ []
  unfolding twin_class
  methods_are = refl

  member_named : (number : ℕ) (m : Member) → slice_get c.methods number ≡ Some m → AllByRecursion (IsAttribute (HasText c.pool)) m.attributes
  member_named number m there = (all_at (IsMember (HasText c.pool) (HasMethodDescriptor c.pool)) c.methods number m so.is.methods.each there).attributes.each

  -- ---- a method with code

  module _ (i : ℕ) (x : BodyWithStates) (at : slice_get works i ≡ Some x)
      (own : IsWrittenCode w.pool w.fetch (code_places w) names (emitted_of constants array x)) where
    body : BodyOf names c x.body.method x.body
    body = so.ready.are.bodies.each i x.body (body_at works i x at)

    well : IsWellMadeOfAnySize x.body
    well = so.sound.well_made i x.body (body_at works i x at)

    fit : HasFrameStates x.body x.states
    fit = so.fits i x at

    same_owner : x.body.owner ≡ name_of c
    same_owner = same_Some x.body.owner (name_of c) (sym body.is.parts.owner ∙ owner_is)

    new_code : (m : Member) → slice_get c.methods x.body.method ≡ Some m → code_bodies w.pool (twin_method c.pool code m (Some x)) ≡ code x ∷ []
    new_code m there =
        let same = same_Some m body.method (sym there ∙ body.at) in
        coded_texts c.pool w.pool extends (code x) m.attributes (member_named x.body.method m there)
        ∙ ap (map (λ b. code x)) (ap (code_bodies c.pool) same ∙ body.is.is.items.code.single)

    -- the ids of the body are among those of all bodies
    ids_few : x.first + probe_count x.body ≤ count
    ids_few =
        let first = (so.ready.are.each i x at).first in
        let ids = ids_among (bodies_of works) i x.body (body_at works i x at) in
        omega (arith, first, ids)

    grown : IsGrownPool c.pool w.pool x.body.owner w.bootstrap x.first (probe_count x.body) (given_with constants array) (code_places w)
    grown = record {
      extends = extends;
      giver_is = subst (λ (o : List ℕ). HasGiver w.fetch w.pool o w.bootstrap (code_places w)) (sym same_owner)
          (giver_has w.fetch w.pool (name_of c) (signed_id id) w.bootstrap count (all_frames names constants array works) w.early w.places (code_places w)
          so.few stands.early stands.members refl refl);
      integers = integers_have w.pool count x.first (probe_count x.body) w.early.integers so.few stands.early.integers ids_few;
    }

    fitting : IsFitting names w.pool w.fetch (code_places w) (emitted_of constants array x)
    fitting = record {
      code = own;
      frames = frames_are constants names array x (so.ready.are.each i x at).states so.ready.are.array_is well fit own.few own.locals own.stack;
      classes = classes_of w.pool names constants array works (all_placed id names array c works w so.ready.takes so.few) i x at;
    }

    pub written_at : (m : Member) → slice_get c.methods x.body.method ≡ Some m
        → IsWrittenMethod names c twin w.bootstrap (code_places w) (given_with constants array) m (twin_method c.pool code m (Some x)) x.body x.states x.first
    unfolding twin_class
    written_at m there = record {
      major = refl;
      this_class = refl;
      pool = grown;
      source = record {
        body = subst (λ (k : Member). IsBody names c x.body.method k x.body) (sym (same_Some m body.method (sym there ∙ body.at))) body.is;
        well_made = well;
        checked = so.sound.checked i x.body (body_at works i x at);
        none_straddles = so.sound.none_straddles i x.body (body_at works i x at);
        states_are = (so.ready.are.each i x at).states;
        frame_states = fit;
        array_is = so.ready.are.array_is;
      };
      fits = subst (IsFitting names w.pool w.fetch (code_places w)) (sym (ready_same w array x)) fitting;
      written = record {
        flags = refl;
        name = refl;
        desc = refl;
        code_is = new_code m there
            ∙ ap (λ (e : Emitted). twin_code w.pool w.fetch (code_places w).giver w.places.array w.places.frames names e ∷ []) (sym (ready_same w array x));
      };
    }

  -- ---- a method without code

  pub none_at : (number : ℕ) (m : Member) → slice_get c.methods number ≡ Some m → work_of number works ≡ None → HasNoCode w.pool m
  none_at number m there none = by (so.ready.are.bodies.all number (slice_get_within c.methods number m there))
    where
      by : Bodiless c number ⊎ IsListed (bodies_of works) number → HasNoCode w.pool m
      by (inr listed) = absurd (none_found number works none listed)
      by (inl bodiless) =
          let same = same_Some m bodiless.method (sym there ∙ bodiless.at) in
          let old = subst (HasNoCode c.pool) (sym same) bodiless.none in
          record { bodiless = old.bodiless; none = same_code c.pool w.pool extends m (member_named number m there) ∙ old.none }

  -- ---- the added method

  -- the place of the number of probes, where it is pushed from there
  abbrev count_place : ℕ
  count_place = if nat_le count most_short then 0 else w.places.count

  abbrev pub added_places : AddedPlaces
  added_places = record {
    field = w.places.field;
    id = w.places.id;
    name = w.places.name;
    count = count_place;
    fetch = w.places.fetch;
    array = w.places.array;
    frames = w.places.frames;
  }

  added_text_same : added_text w.fetch (init_places w.places) w.places.frames w.places.array count
      ≡ added_text w.fetch (named_places added_places) w.places.frames w.places.array count
  added_text_same = placed_so w.fetch w.places count w.places.frames w.places.array

  init_code_is : code_bodies w.pool (init_member w.fetch w.places count)
      ≡ added_text w.fetch (named_places added_places) w.places.frames w.places.array count ∷ []
  init_code_is =
      ap (λ (t : Bool). map (λ (a : Attribute). a.body) (if t then own ∷ [] else []))
      (ap (is_text (codes "Code")) stands.members.code)
      ∙ ap (λ (text : List ℕ). text ∷ []) added_text_same
    where
      own : Attribute
      own = attribute w.places.code (added_text w.fetch (init_places w.places) w.places.frames w.places.array count)

  pub added_method : IsAddedMethod w.fetch twin (name_of c) (signed_id id) count added_places (init_member w.fetch w.places count)
  unfolding twin_class
  added_method = record {
    code = record {
      pool_few = so.few;
      field = field_placed w.fetch w.pool so.few (name_of c) w.places added_places refl refl stands.members.own;
      count = count_below w.pool so.few count w.places.count (nat_le count most_short) stands.members.count_is;
      id = long_below w.pool so.few w.places.id (signed_id id) stands.members.id_is;
      name = string_below w.pool so.few w.places.name (name_of c) stands.members.name_is;
      fetch_method = member_below w.pool so.few w.places.fetch fetch_method stands.members.fetch_is;
    };
    owner_is = naming_kept naming.Class c.pool w.pool (name_of c) c.this_class extends owner_is;
    flags = refl;
    name = stands.members.init_name;
    desc = stands.members.init_type;
    code_is = init_code_is;
    field_entries = field_found w.fetch w.pool (name_of c) w.places added_places refl refl stands.members.own stands.members.array_is;
    id_is = stands.members.id_is;
    name_is = stands.members.name_is;
    count_is = count_entry w.pool count w.places.count (nat_le count most_short) stands.members.count_is;
    fetch_is = stands.members.fetch_is;
  }

  -- ---- all of them

  abbrev Written : ℕ → Member → Type 0
  Written number new =
      HasNoCode twin.pool new
      ⊎ (IsWrittenAt names c twin w.bootstrap (code_places w) (given_with constants array) number new
      ⊎ IsAddedAt twin new)

  own_written : (number : ℕ) (m : Member) (o : Option BodyWithStates) → slice_get c.methods number ≡ Some m → work_of number works ≡ o
      → Written number (twin_method c.pool code m o)
  own_written number m None there none =
      inl (subst (λ (l : PoolValue). HasNoCode l m) (sym pool_is) (none_at number m there none))
  own_written number m (Some x) there found =
      let h = work_found number works x found in
      let same = ap (slice_get c.methods) h.number_is ∙ there in
      inr (inl (record {
        method = m;
        body = x.body;
        number_is = h.number_is;
        states = x.states;
        first = x.first;
        written = written_at h.index x h.stands (so.coded number x found) m same;
      }))

  pub all_written : AreWrittenMethods names c twin w.bootstrap (code_places w) (given_with constants array)
  all_written number new there =
      by (put_cases (twin_methods c.pool code works c.methods) (init_member w.fetch w.places count) new number
      (ap (λ (l : List Member). slice_get l number) (sym methods_are) ∙ there))
    where
      by : (slice_get (twin_methods c.pool code works c.methods) number ≡ Some new)
          ⊎ ((number ≡ length (twin_methods c.pool code works c.methods)) × (init_member w.fetch w.places (all_probes (bodies_of works)) ≡ new)) → Written number new
      by (inl own) =
          let h = from_at (λ number method. twin_method c.pool code method (work_of number works)) 0 c.methods number new own in
          let same : 0 + number ≡ number = omega arith in
          subst (Written number) (ap (λ (n : ℕ). twin_method c.pool code h.0 (work_of n works)) (sym same) ∙ h.2)
          (own_written number h.0 (work_of number works) h.1 refl)
      by (inr last) = inr (inr (record {
        fetch = w.fetch;
        owner = name_of c;
        id = signed_id id;
        count = count;
        places = added_places;
        added = subst (IsAddedMethod w.fetch twin (name_of c) (signed_id id) count added_places) last.1 added_method;
      }))

pub methods_so : (names : Names) (array : ℕ) (c : ClassFile) (works : List BodyWithStates) (w : Writing)
    → (twin_class names array c works w).methods
    ≡ twin_methods c.pool (code_with names array w) works c.methods ++ init_member w.fetch w.places (all_probes (bodies_of works)) ∷ []
unfolding twin_class
methods_so names array c works w = refl

-- the method with a number has its instrumented code, if it has any
pub method_there : (names : Names) (array : ℕ) (c : ClassFile) (works : List BodyWithStates) (w : Writing) (number : ℕ) (m : Member)
    → slice_get c.methods number ≡ Some m
    → slice_get (twin_class names array c works w).methods number ≡ Some (twin_method c.pool (code_with names array w) m (work_of number works))
method_there names array c works w number m there =
    let code : BodyWithStates → List ℕ = code_with names array w in
    let same : 0 + number ≡ number = omega arith in
    let own : slice_get (twin_methods c.pool code works c.methods) number ≡ Some (twin_method c.pool code m (work_of number works)) =
    mapped_at (λ n method. twin_method c.pool code method (work_of n works)) 0 number c.methods m there
    ∙ ap (λ (n : ℕ). Some (twin_method c.pool code m (work_of n works))) same in
    ap (λ (l : List Member). slice_get l number) (methods_so names array c works w)
    ∙ put_stays (twin_methods c.pool code works c.methods) (init_member w.fetch w.places (all_probes (bodies_of works)))
    (twin_method c.pool code m (work_of number works)) number own

-- ---- sizes

module _ (old : PoolValue) (HasName : ℕ → Type 0) (code : List ℕ) where
  code_short : (bytes : List ℕ) (l : List Attribute) → AllByRecursion (IsAttribute HasName) (map (with_code old code) l)
      → texts_of old (codes "Code") l ≡ bytes ∷ [] → length code ≤ 4294967295
  code_short bytes [] all single = absurd (no_text single)
    where
      no_text : {x : List ℕ} → [] ≡ x ∷ [] → ⊥
      no_text e = cc
  code_short bytes (a ∷ l) all single =
      by (has_name old (codes "Code") a) refl all.0 single (λ rest. code_short bytes l all.1 rest)
    where
      by : (t : Bool) → has_name old (codes "Code") a ≡ t → IsAttribute HasName (if t then attribute a.name code else a)
          → map (λ x. x.body) (if t then a ∷ filter (has_name old (codes "Code")) l else filter (has_name old (codes "Code")) l) ≡ bytes ∷ []
          → (texts_of old (codes "Code") l ≡ bytes ∷ [] → length code ≤ 4294967295) → length code ≤ 4294967295
      by true is own single more = own.size
      by false is own single more = more single

-- the text of each Code attribute is short, where the twin class is a class file
pub texts_short : (names : Names) (array : ℕ) (works : List BodyWithStates) (c twin : ClassFile) (w : Writing) → AreBodiesWithStates names array c works
    → twin ≡ twin_class names array c works w → IsClassFile twin → (number : ℕ) (x : BodyWithStates) → work_of number works ≡ Some x
    → length (code_with names array w x) ≤ 4294967295
texts_short names array works c twin w are twin_is is number x found =
    let code : BodyWithStates → List ℕ = code_with names array w in
    let h = work_found number works x found in
    let body = are.bodies.each h.index x.body (body_at works h.index x h.stands) in
    let m = body.method in
    let there : slice_get c.methods number ≡ Some m = ap (slice_get c.methods) (sym h.number_is) ∙ body.at in
    let among : slice_get twin.methods number ≡ Some (twin_method c.pool code m (Some x)) =
    ap (λ (t : ClassFile). slice_get t.methods number) twin_is
    ∙ method_there names array c works w number m there
    ∙ ap (λ (o : Option BodyWithStates). Some (twin_method c.pool code m o)) found in
    let member = all_at (IsMember (HasText twin.pool) (HasMethodDescriptor twin.pool)) twin.methods number (twin_method c.pool code m (Some x)) is.methods.each among in
    code_short c.pool (HasText twin.pool) (code x) body.is.is.items.bytes m.attributes member.attributes.each body.is.is.items.code.single
