-- What is given of the code that is written for a method, where it is read again.
use Rattle.std.proofs.Common.{◌≡◌, ◌≢◌, ◌⊎◌, inl, inr, ℕ, zero, suc, ◌+◌, ◌-◌, ◌<◌, ◌≤◌, Bool, true, false, true≢false, List, [], ◌∷◌, ◌++◌, length, take, Option, Some, slice_get, refl, sym, ◌∙◌, ap, subst, arith}
use Rattle.std.specs.List.{AllByRecursion}
use Rattle.std.proofs.lemmas.Bool.{cases_lt}
use Rattle.std.proofs.lemmas.List.Concat.{flat_map-cons}
use Rattle.std.proofs.lemmas.List.Sums.{sum_by-cons}
use Rattle.std.proofs.lemmas.Option.{none-some, same_Some, slice_get_within}
use Rattle.std.proofs.lemmas.Slice.Eq.{bytes_eq-Decides}
use Rattle.jc_methods.specs.ProbeMembers.{data_type, most_probes, most_short}
use Rattle.jc_methods.specs.VerificationTypes.{Names}
use Rattle.jc_methods.specs.WellMade.{IsWellMadeOfAnySize}
use Rattle.jc_methods.specs.declared.body.Body.{Body}
use Rattle.jc_methods.specs.declared.emitted.Emitted.{Emitted}
use Rattle.jc_methods.specs.declared.probe_members.Fetch.{Fetch}
use Rattle.jc_methods.specs.declared.probe_members.Fetch.TheVariants as fetches
use Rattle.jc_bytes.specs.declared.refusal.RefusalKind.TheVariants as kinds
use Rattle.jc_bytes.proofs.ListLaws.{all_at}
use Rattle.jc_pool.specs.Adding.{Extends, IsFirst}
use Rattle.jc_pool.specs.Lookup.{utf8_of}
use Rattle.jc_pool.specs.Pool.{PoolValue}
use Rattle.jc_class.specs.declared.class_file.ClassFile.{ClassFile}
use Rattle.jc_body.specs.Attributes.{is_text}
use Rattle.jc_body.specs.BodyOf.{BodyOf}
use Rattle.jc_body.specs.Faults.{faults}
use Rattle.jc_plan.specs.Probed.{first_id, probe_count}
use Rattle.jc_emit.specs.Emission.{emission}
use Rattle.jc_layout.specs.LaidBody.{readied}
use Rattle.jc_layout.specs.Layout.{chosen_length}
use Rattle.jc_instrument_code.specs.FirstPlaces.{text_place}
use Rattle.jc_instrument_code.specs.TwinCode.{kind_vars_name, lines_name, vars_name}
use Rattle.jc_instrument_code.specs.declared.code.CodePlaces.{CodePlaces}
use Rattle.jc_instrument_code.proofs.FirstPlaceLaws.{text_found}
use Rattle.jc_instrument_reread.specs.WrittenCode.{IsWrittenCode, ready_emission}
use Rattle.jc_instrument.specs.Constants.{given_with, probed_code}
use Rattle.jc_instrument.specs.declared.constants.ProbeConstants.{ProbeConstants}
use Rattle.jc_class.proofs.ReadClassLaws.{IsOfBytes}
use Rattle.jc_instrument_reread.proofs.ReadNumbersLaws.{body_short}
use Rattle.jc_instrument_reread.proofs.WrittenCodeLaws.{IsPlacedCode, written_code as code_written}
use Rattle.jc_instrument.proofs.ListedLaws.{body_at}
use Rattle.jc_plan.specs.Analysed.{all_probes}
use Rattle.jc_instrument.specs.Members.{AreTextPlaces, IsFirstIfAny}
use Rattle.jc_instrument.specs.Needed.{early_list, name_of, place_list}
use Rattle.jc_instrument.specs.Probing.{AreShortBelow}
use Rattle.jc_instrument.specs.Room.{NoneLacks}
use Rattle.jc_instrument.specs.TwinText.{IsReadyFor, Writing, code_with, constants_of, giver_by, giver_in, needs_of}
use Rattle.jc_instrument.specs.BodiesWithStates.{BodyWithStates, all_frames, bodies_of, emitted_of}
use Rattle.jc_instrument.proofs.NamedWorksLaws.{work_named}
use Rattle.jc_instrument.proofs.StandingLaws.{NeedsStand, any_frames, giver_below, integer_below, needs_stand}
use Rattle.jc_instrument.proofs.TakingLaws.{each_extends}
use Rattle.jc_instrument.proofs.TwinLaws.{text_is}
use Rattle.jc_instrument.proofs.ProbingLaws.{emission_code}
use Rattle.jc_instrument_reread.specs.WrittenCode.{IsFramesName}
use Rattle.jc_instrument_code.specs.TwinCode.{written_frames}
use Rattle.jc_methods.specs.VerificationTypes.{TypeStateAt}
use Rattle.jc_pool.proofs.AddedLaws.{class_within}

-- ---- places

-- where the pool has what the Code attributes name
abbrev pub code_places : Writing → CodePlaces
code_places w = record {
  giver = giver_in (constants_of w) w.places;
  array = w.places.array;
  lines = text_place w.pool lines_name;
  vars = text_place w.pool vars_name;
  kind_vars = text_place w.pool kind_vars_name;
  frames = w.places.frames;
}

-- a method's place isn't in the code
giver_same : (fetch : Fetch) (constant method : ℕ) (e : Emitted) → readied fetch (giver_by fetch constant method) e ≡ readied fetch constant e
giver_same fetches.Member constant method e = refl
giver_same fetches.Constant constant method e = refl

pub ready_same : (w : Writing) (array : ℕ) (x : BodyWithStates)
    → ready_emission x.body x.first x.states (given_with (constants_of w) array) (code_places w).giver ≡ emitted_of (constants_of w) array x
ready_same w array x = giver_same w.fetch (constants_of w).giver w.places.method (emission x.body x.first x.states (given_with (constants_of w) array))

other_text : (text : List ℕ) (o : Option (List ℕ)) → is_text text o ≡ false → o ≢ Some text
other_text text o other = λ is.
    true≢false (sym (ap (is_text text) is ∙ (bytes_eq-Decides text text).1 refl) ∙ other)

-- what stands somewhere stands somewhere first
first_there : (found : ℕ → Option (List ℕ)) (text : List ℕ) (more from : ℕ) → ((k : ℕ) → k < from → found k ≢ Some text)
    → found (from + more) ≡ Some text → (place : ℕ) × IsFirst found text place
first_there found text zero from none at =
    let here : from + 0 ≡ from = omega arith in (from, record { there = sym (ap found here) ∙ at; first = none })
first_there found text (suc more) from none at =
    by (is_text text (found from)) refl (λ here. first_there found text more (from + 1) (next here) (ap found again ∙ at))
  where
    again : from + 1 + more ≡ from + suc more
    again = omega arith

    next : found from ≢ Some text → (k : ℕ) → k < from + 1 → found k ≢ Some text
    next here k less = up (cases_lt k from)
      where
        up : (k < from) ⊎ (from ≤ k) → found k ≢ Some text
        up (inl below) = none k below
        up (inr above) = let same : k ≡ from = omega (arith, less, above) in subst (λ (n : ℕ). found n ≢ Some text) (sym same) here

    by : (t : Bool) → is_text text (found from) ≡ t → (found from ≢ Some text → (place : ℕ) × IsFirst found text place)
        → (place : ℕ) × IsFirst found text place
    by true is rest = (from, record { there = text_is text (found from) is; first = none })
    by false is rest = rest (other_text text (found from) is)

first_if_any : (pool : PoolValue) (text : List ℕ) → IsFirstIfAny pool text (text_place pool text)
first_if_any pool text = λ at there.
    let first = first_there (utf8_of pool) text at 0 (λ k less. absurd (omega (arith, less)))
    (let e : 0 + at ≡ at = omega arith in ap (utf8_of pool) e ∙ there) in
    subst (IsFirst (utf8_of pool) text) (sym (text_found pool text first.0 first.1)) first.1

text_places : (w : Writing) → AreTextPlaces w.pool (code_places w)
text_places w = record {
  lines = first_if_any w.pool lines_name;
  vars = first_if_any w.pool vars_name;
  kind_vars = first_if_any w.pool kind_vars_name;
}

-- ---- lists

-- the ids of a body are among those of all bodies
pub ids_among : (bodies : List Body) (i : ℕ) (b : Body) → slice_get bodies i ≡ Some b → first_id bodies i + probe_count b ≤ all_probes bodies
ids_among [] i b at = absurd cc
ids_among (x ∷ bodies) zero b at =
    let own = ap probe_count (same_Some x b at) in
    let all = sum_by-cons probe_count x bodies in
    omega (arith, own, all)
ids_among (x ∷ bodies) (suc i) b at =
    let rest = ids_among bodies i b at in
    let all = sum_by-cons probe_count x bodies in
    let front = sum_by-cons probe_count x (take i bodies) in
    omega (arith, rest, all, front)

-- ---- room

-- the bodies have room for their probes, and their code, which loads these constants, has few bytes
pub record HasRoom (constants : ProbeConstants) (bodies : List Body) : Type 0 where
  pub locals : NoneLacks kinds.LocalsFull bodies
  pub stack : NoneLacks kinds.StackFull bodies
  pub probes : all_probes bodies ≤ most_probes
  pub short : AreShortBelow constants bodies (length bodies)

module _ (constants : ProbeConstants) (bodies : List Body) (room : HasRoom constants bodies) (i : ℕ) (b : Body) (at : slice_get bodies i ≡ Some b) where
  stack_few : b.max_stack + 3 ≤ 65535
  stack_few = by (cases_lt 65532 b.max_stack)
    where
      by : (65532 < b.max_stack) ⊎ (b.max_stack ≤ 65532) → b.max_stack + 3 ≤ 65535
      by (inl many) = absurd (room.stack i (b.max_stack + 3) b at (many, refl))
      by (inr few) = omega (arith, few)

  locals_few : b.max_locals < 65536 → b.max_locals + 1 ≤ 65535
  locals_few small = by (cases_lt b.max_locals 65535)
    where
      by : (b.max_locals < 65535) ⊎ (65535 ≤ b.max_locals) → b.max_locals + 1 ≤ 65535
      by (inl few) = omega (arith, few)
      by (inr full) = let is : b.max_locals ≡ 65535 = omega (arith, full, small) in absurd (room.locals i 65536 b at (is, refl))

-- ---- the sizes of instrumented code

emitted_stack : (constants : ProbeConstants) (array : ℕ) (w : BodyWithStates) → (emitted_of constants array w).max_stack ≡ w.body.max_stack + 3
unfolding emission
emitted_stack constants array w = refl

emitted_locals : (constants : ProbeConstants) (array : ℕ) (w : BodyWithStates) → (emitted_of constants array w).max_locals ≡ w.body.max_locals + 1
unfolding emission
emitted_locals constants array w = refl

-- ---- the name of the attribute of frames

named_front : (pool : PoolValue) (front back : List TypeStateAt) (place : ℕ) → IsFramesName pool (front ++ back) place → IsFramesName pool front place
named_front pool [] back place named = tt
named_front pool (f ∷ front) back place named = named

named_back : (pool : PoolValue) (front back : List TypeStateAt) (place : ℕ) → IsFramesName pool (front ++ back) place → IsFramesName pool back place
named_back pool [] back place named = named
named_back pool (f ∷ front) back place named = any_frames pool back place named

-- it stands there for the frames of one of the works
frames_among : (pool : PoolValue) (place : ℕ) (names : Names) (constants : ProbeConstants) (array : ℕ) (works : List BodyWithStates)
    → IsFramesName pool (all_frames names constants array works) place → (i : ℕ) (x : BodyWithStates) → slice_get works i ≡ Some x
    → IsFramesName pool (written_frames names (emitted_of constants array x)) place
frames_among pool place names constants array [] named i x at = absurd (none-some x at)
frames_among pool place names constants array (w ∷ works) named i x at =
    by i at (λ j there. frames_among pool place names constants array works rest j x there)
  where
    split : IsFramesName pool (written_frames names (emitted_of constants array w) ++ all_frames names constants array works) place
    split = subst (λ (frames : List TypeStateAt). IsFramesName pool frames place)
        (flat_map-cons (λ (y : BodyWithStates). written_frames names (emitted_of constants array y)) w works) named

    rest : IsFramesName pool (all_frames names constants array works) place
    rest = named_back pool (written_frames names (emitted_of constants array w)) (all_frames names constants array works) place split

    own : IsFramesName pool (written_frames names (emitted_of constants array w)) place
    own = named_front pool (written_frames names (emitted_of constants array w)) (all_frames names constants array works) place split

    by : (i : ℕ) → slice_get (w ∷ works) i ≡ Some x
        → ((j : ℕ) → slice_get works j ≡ Some x → IsFramesName pool (written_frames names (emitted_of constants array x)) place)
        → IsFramesName pool (written_frames names (emitted_of constants array x)) place
    by zero there more =
        subst (λ (y : BodyWithStates). IsFramesName pool (written_frames names (emitted_of constants array y)) place) (same_Some w x there) own
    by (suc j) there more = more j there

-- ---- one method

module _ (id : ℕ) (names : Names) (array : ℕ) (c : ClassFile) (works : List BodyWithStates) (with : Writing) (ready : IsReadyFor id names array works c with)
    (pool_few : length with.pool ≤ 65535) (bytes : AllByRecursion IsOfBytes c.methods) (room : HasRoom (constants_of with) (bodies_of works)) where
  abbrev count : ℕ
  count = all_probes (bodies_of works)

  abbrev constants : ProbeConstants
  constants = constants_of with

  abbrev places : CodePlaces
  places = code_places with

  stands : NeedsStand id c count (all_frames names constants array works) with ready.takes.class_places
  stands = needs_stand id names array c works with ready.takes

  extends : Extends c.pool with.pool
  extends =
      each_extends c.pool with.pool (needs_of id names array c works with)
      (early_list with.fetch with.early ++ (place_list with.fetch count (all_frames names constants array works) with.places ++ ready.takes.class_places))
      ready.takes.takes

  pub written_code : (i : ℕ) (x : BodyWithStates) → slice_get works i ≡ Some x → IsWellMadeOfAnySize x.body
      → length (code_with names array with x) ≤ 4294967295
      → IsWrittenCode with.pool with.fetch places names (emitted_of constants array x)
  written_code i x at well size =
      let b = x.body in
      let there = body_at works i x at in
      let body : BodyOf names c b.method b = ready.are.bodies.each i b there in
      let only = (all_at IsOfBytes c.methods b.method body.method bytes body.at).attributes in
      let first = (ready.are.each i x at).first in
      let short = body_short (faults c.major c.pool b.owner body.method) names c b.method body.method b body.is only in
      let stack = stack_few constants (bodies_of works) room i b there in
      let locals = locals_few constants (bodies_of works) room i b there short.locals in
      let stack_is = emitted_stack constants array x in
      let locals_is = emitted_locals constants array x in
      let length_is = ap chosen_length (emission_code constants b x.first x.states array) ∙ ap (λ (n : ℕ). chosen_length (probed_code constants b n)) first in
      let room_is = room.short i b (slice_get_within (bodies_of works) i b there) there in
      let array_few = class_within with.pool with.places.array data_type stands.members.array_is in
      let same = ready_same with array x in
      subst (IsWrittenCode with.pool with.fetch places names) same
      (code_written (faults c.major c.pool b.owner body.method) names c b.method body.method b x.first x.states (given_with constants array) with.pool places
      body.is only well (λ id. integer_below with.early.integers (id - (most_short + 1)))
      (subst (IsPlacedCode with.pool with.fetch places names) (sym same) (record {
        named = work_named names c with.pool extends places (text_places with) constants array x body;
        frames_named = frames_among with.pool with.places.frames names constants array works stands.members.frames_is i x at;
        pool_few = pool_few;
        giver = giver_below with.fetch with.pool (name_of c) with.early with.places pool_few stands.members.own;
        array = omega (arith, array_few, pool_few);
        stack = omega (arith, stack, stack_is);
        locals = omega (arith, locals, locals_is);
        few = subst (λ (n : ℕ). n ≤ 65535) (sym length_is) room_is;
        size = size;
      })))
