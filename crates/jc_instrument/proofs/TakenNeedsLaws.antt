-- What the pool of a class takes, by the instrumented code of its bodies.
use Rattle.std.proofs.Common.{◌≡◌, ℕ, ℤ, pos, ◌+◌, ◌<◌, Bool, true, false, nat_le, if◌then◌else◌, List, [], ◌∷◌, ◌++◌, length, map, drop, get_or, refl, sym, ◌∙◌, ap, subst, arith}
use Rattle.std.proofs.lemmas.List.{length-map}
use Rattle.jc_methods.specs.VerificationTypes.{Names, TypeStateAt}
use Rattle.jc_methods.specs.ProbeMembers.{most_short}
use Rattle.jc_methods.specs.declared.probe_members.Fetch.{Fetch}
use Rattle.jc_methods.specs.declared.probe_members.Fetch.TheVariants as fetches
use Rattle.jc_class.specs.declared.class_file.ClassFile.{ClassFile}
use Rattle.jc_pool.specs.Pool.{PoolValue}
use Rattle.jc_plan.specs.Analysed.{all_probes}
use Rattle.jc_instrument.specs.Constants.{AreConstants, constants_at}
use Rattle.jc_instrument.specs.Contents.{Content, integer_entry, TakesEach}
use Rattle.jc_instrument.specs.Needed.{EarlyPlaces, GetsBy, TakesEarly, TakesNeeded, constant_needs, count_needs, count_places, early_list, early_needs, frame_needs, frames_list, frames_needs, integer_needs, long_ids, member_needs, name_of, needed, place_list, signed_id}
use Rattle.jc_instrument.specs.RoomCauses.{NeedsTooMuch}
use Rattle.jc_instrument.specs.Taking.{IsTooMuch, contents_of}
use Rattle.jc_instrument.specs.TwinText.{IsReadyFor, Writing, constants_of}
use Rattle.jc_instrument.specs.BodiesWithStates.{BodyWithStates, AreBodiesWithStates, all_frames, bodies_of}
use Rattle.jc_instrument.specs.declared.constants.ProbeConstants.{ProbeConstants}
use Rattle.jc_instrument.specs.declared.needs.MemberPlaces.{MemberPlaces}
use Rattle.jc_instrument.specs.declared.needs.TheConstants as constants
use Rattle.jc_instrument.proofs.GrownPoolLaws.{one_taking}
use Rattle.jc_instrument.proofs.StandingLaws.{early_count, member_count, takes_split}
use Rattle.jc_instrument.proofs.TakingLaws.{all_items, items_from, taken_count}

-- ---- one after the other

-- what takes two lists of contents takes the one and then the other
pub record TakesBoth (old new : PoolValue) (front back : List Content) (places : List ℕ) : Type 0 where
  pub mid : PoolValue
  pub fronts : List ℕ
  pub backs : List ℕ
  pub are : places ≡ fronts ++ backs
  pub first : TakesEach old front mid fronts
  pub last : TakesEach mid back new backs

pub takes_parted : (old new : PoolValue) (front back : List Content) (places : List ℕ) → TakesEach old (front ++ back) new places → TakesBoth old new front back places
takes_parted old new [] back places takes = record { mid = old; fronts = []; backs = places; are = refl; first = (refl, refl); last = takes }
takes_parted old new (c ∷ front) back places takes =
    let rest = takes_parted takes.0 new front back takes.2 takes.5 in
    record {
      mid = rest.mid;
      fronts = takes.1 ∷ rest.fronts;
      backs = rest.backs;
      are = takes.3 ∙ ap (λ (l : List ℕ). takes.1 ∷ l) rest.are;
      first = (takes.0, takes.1, rest.fronts, refl, takes.4, rest.first);
      last = rest.last;
    }

-- ---- the places of the first needs

record AreEarly (fetch : Fetch) (count : ℕ) (places : List ℕ) : Type 0 where
  early : EarlyPlaces
  many : length early.integers ≡ length (long_ids count)
  are : places ≡ early_list fetch early

integer_count : (old new : PoolValue) (count : ℕ) (places : List ℕ) → TakesEach old (integer_needs count) new places → length places ≡ length (long_ids count)
integer_count old new count places takes = taken_count old new (integer_needs count) places takes ∙ length-map (long_ids count) _

early_split : (old new : PoolValue) (fetch : Fetch) (bootstrap count : ℕ) (places : List ℕ) → TakesEach old (early_needs fetch bootstrap count) new places
    → AreEarly fetch count places
early_split old new fetches.Member bootstrap count places takes =
    record { early = record { giver = 0; integers = places }; many = integer_count old new count places takes; are = refl }
early_split old new fetches.Constant bootstrap count places takes =
    record {
      early = record { giver = takes.1; integers = takes.2 };
      many = integer_count takes.0 new count takes.2 takes.5;
      are = takes.3;
    }

-- there are such places, if the count of the pool has no limit
pub early_taken : (old new : PoolValue) (fetch : Fetch) (bootstrap count : ℕ) (places : List ℕ) → TakesEach old (early_needs fetch bootstrap count) new places
    → (early : EarlyPlaces) × TakesEarly old fetch bootstrap count new early
early_taken old new fetch bootstrap count places takes =
    let split = early_split old new fetch bootstrap count places takes in
    (split.early, subst (TakesEach old (early_needs fetch bootstrap count) new) split.are takes)

-- and no others
pub one_early : (old new other : PoolValue) (fetch : Fetch) (bootstrap count : ℕ) (early more : EarlyPlaces) → TakesEarly old fetch bootstrap count new early
    → TakesEarly old fetch bootstrap count other more → (new ≡ other) × (early_list fetch early ≡ early_list fetch more)
one_early old new other fetch bootstrap count early more p q =
    one_taking (early_needs fetch bootstrap count) old new other (early_list fetch early) (early_list fetch more) p q

-- the constants depend on these places alone
constants_by_places : (fetch : Fetch) (early more : EarlyPlaces) → early_list fetch early ≡ early_list fetch more → constants_at fetch early ≡ constants_at fetch more
constants_by_places fetches.Member early more same = ap (λ (l : List ℕ). constants_at fetches.Member (record { giver = 0; integers = l })) same
constants_by_places fetches.Constant early more same =
    ap (λ (l : List ℕ). constants_at fetches.Constant (record { giver = get_or l 0 0; integers = drop 1 l })) same

-- ---- the places of the members' needs

count_split : (old new : PoolValue) (count : ℕ) (places : List ℕ) → TakesEach old (count_needs count) new places → (place : ℕ) × (places ≡ count_places count place)
count_split old new count places takes = by (nat_le count most_short) takes
  where
    by : (t : Bool) → TakesEach old (if t then [] else integer_entry (pos count) ∷ []) new places → (place : ℕ) × (places ≡ (if t then [] else place ∷ []))
    by true takes = (0, takes.1)
    by false takes = (takes.1, takes.3 ∙ ap (λ (l : List ℕ). takes.1 ∷ l) takes.5.1)

frames_split : (old new : PoolValue) (frames : List TypeStateAt) (places : List ℕ) → TakesEach old (frames_needs frames) new places
    → (place : ℕ) × ((p : MemberPlaces) → p.frames ≡ place → places ≡ frames_list frames p)
frames_split old new [] places takes = (0, λ p is. takes.1)
frames_split old new (frame ∷ frames) places takes =
    (takes.1, λ p is. takes.3 ∙ ap (λ (l : List ℕ). takes.1 ∷ l) takes.5.1 ∙ ap (λ (n : ℕ). n ∷ []) (sym is))

members_split : (old new : PoolValue) (fetch : Fetch) (owner : List ℕ) (id : ℤ) (count : ℕ) (frames : List TypeStateAt) (places : List ℕ)
    → TakesEach old (member_needs fetch owner id count frames) new places → (members : MemberPlaces) × (places ≡ place_list fetch count frames members)
members_split old new fetches.Member owner id count frames places takes =
    let s = takes_parted old new (contents_of owner id constants.FIELD_NEEDS) (count_needs count) places takes in
    let l = s.fronts in
    let many : length l ≡ 12 = taken_count old s.mid (contents_of owner id constants.FIELD_NEEDS) l s.first in
    let number = count_split s.mid new count s.backs s.last in (
      record {
        data_name = get_or l 0 0;
        data_type = get_or l 1 0;
        init_name = get_or l 2 0;
        init_type = get_or l 3 0;
        field = get_or l 4 0;
        method = get_or l 5 0;
        handle = 0;
        fetch = get_or l 6 0;
        code = get_or l 7 0;
        frames = get_or l 8 0;
        bootstraps = 0;
        id = get_or l 9 0;
        name = get_or l 10 0;
        count = number.0;
        array = get_or l 11 0;
      },
      s.are
          ∙ ap (λ (r : List ℕ). r ++ s.backs) (sym (all_items l) ∙ ap (λ (n : ℕ). items_from n 0 l) many)
          ∙ ap (λ (r : List ℕ). items_from 12 0 l ++ r) number.1,
    )
members_split old new fetches.Constant owner id count frames places takes =
    let s = takes_parted old new (contents_of owner id constants.BOOTSTRAP_NEEDS) (count_needs count ++ frames_needs frames) places takes in
    let l = s.fronts in
    let many : length l ≡ 9 = taken_count old s.mid (contents_of owner id constants.BOOTSTRAP_NEEDS) l s.first in
    let t = takes_parted s.mid new (count_needs count) (frames_needs frames) s.backs s.last in
    let number = count_split s.mid t.mid count t.fronts t.first in
    let text = frames_split t.mid new frames t.backs t.last in
    let p : MemberPlaces = record {
      data_name = 0;
      data_type = 0;
      init_name = get_or l 0 0;
      init_type = get_or l 1 0;
      field = 0;
      method = 0;
      handle = get_or l 2 0;
      fetch = get_or l 3 0;
      code = get_or l 4 0;
      frames = text.0;
      bootstraps = get_or l 5 0;
      id = get_or l 6 0;
      name = get_or l 7 0;
      count = number.0;
      array = get_or l 8 0;
    } in (
      p,
      s.are
          ∙ ap (λ (r : List ℕ). r ++ s.backs) (sym (all_items l) ∙ ap (λ (n : ℕ). items_from n 0 l) many)
          ∙ ap (λ (r : List ℕ). items_from 9 0 l ++ r)
          (t.are ∙ ap (λ (r : List ℕ). r ++ t.backs) number.1 ∙ ap (λ (r : List ℕ). count_places count number.0 ++ r) (text.1 p refl)),
    )

-- ---- all needs

pub record AreTaken (old new : PoolValue) (fetch : Fetch) (bootstrap : ℕ) (owner : List ℕ) (id : ℤ) (count : ℕ) (frames : List TypeStateAt) : Type 0 where
  pub early : EarlyPlaces
  pub places : MemberPlaces
  pub takes : TakesNeeded old fetch bootstrap owner id count frames new early places
  -- the first of them alone
  pub mid : PoolValue
  pub first : TakesEarly old fetch bootstrap count mid early

pub takes_needed : (old new : PoolValue) (fetch : Fetch) (bootstrap : ℕ) (owner : List ℕ) (id : ℤ) (count : ℕ) (frames : List TypeStateAt) (places : List ℕ)
    → TakesEach old (needed fetch bootstrap owner id count frames) new places → AreTaken old new fetch bootstrap owner id count frames
takes_needed old new fetch bootstrap owner id count frames places takes =
    let s = takes_parted old new (early_needs fetch bootstrap count) (member_needs fetch owner id count frames ++ frame_needs frames) places takes in
    let t = takes_parted s.mid new (member_needs fetch owner id count frames) (frame_needs frames) s.backs s.last in
    let early = early_split old s.mid fetch bootstrap count s.fronts s.first in
    let members = members_split s.mid t.mid fetch owner id count frames t.fronts t.first in
    let are : places ≡ early_list fetch early.early ++ (place_list fetch count frames members.0 ++ t.backs) =
    s.are
    ∙ ap (λ (r : List ℕ). r ++ s.backs) early.are
    ∙ ap (λ (r : List ℕ). early_list fetch early.early ++ r) (t.are ∙ ap (λ (r : List ℕ). r ++ t.backs) members.1) in
    record {
      early = early.early;
      places = members.0;
      takes = record {
        class_places = t.backs;
        integers = early.many;
        takes = subst (TakesEach old (needed fetch bootstrap owner id count frames) new) are takes;
      };
      mid = s.mid;
      first = subst (TakesEach old (early_needs fetch bootstrap count) s.mid) early.are s.first;
    }

-- the needs one after the other
pub record TakesParts (old new : PoolValue) (fetch : Fetch) (bootstrap : ℕ) (owner : List ℕ) (id : ℤ) (count : ℕ) (frames : List TypeStateAt)
    (early : EarlyPlaces) (places : MemberPlaces) (classes : List ℕ) : Type 0 where
  pub mid : PoolValue
  pub more : PoolValue
  pub first : TakesEarly old fetch bootstrap count mid early
  pub members : TakesEach mid (member_needs fetch owner id count frames) more (place_list fetch count frames places)
  pub last : TakesEach more (frame_needs frames) new classes

pub takes_parts : (old new : PoolValue) (fetch : Fetch) (bootstrap : ℕ) (owner : List ℕ) (id : ℤ) (count : ℕ) (frames : List TypeStateAt)
    (early : EarlyPlaces) (places : MemberPlaces) → (takes : TakesNeeded old fetch bootstrap owner id count frames new early places)
    → TakesParts old new fetch bootstrap owner id count frames early places takes.class_places
takes_parts old new fetch bootstrap owner id count frames early places takes =
    let first = takes_split old new (early_needs fetch bootstrap count) (member_needs fetch owner id count frames ++ frame_needs frames) (early_list fetch early)
    (place_list fetch count frames places ++ takes.class_places) (early_count fetch bootstrap count early takes.integers) takes.takes in
    let rest = takes_split first.0 new (member_needs fetch owner id count frames) (frame_needs frames) (place_list fetch count frames places) takes.class_places
    (member_count fetch owner id count frames places) first.2 in
    record { mid = first.0; more = rest.0; first = first.1; members = rest.1; last = rest.2 }

-- the constants of a class that is ready
pub ready_constants : (id : ℕ) (names : Names) (array : ℕ) (works : List BodyWithStates) (c : ClassFile) (w : Writing) → IsReadyFor id names array works c w
    → AreConstants c (all_probes (bodies_of works)) w.bootstrap (constants_of w)
ready_constants id names array works c w ready =
    let parts = takes_parts c.pool w.pool w.fetch w.bootstrap (name_of c) (signed_id id) (all_probes (bodies_of works)) (all_frames names (constants_of w) array works)
    w.early w.places ready.takes in
    record { gets = ready.gets; early = w.early; pool = parts.mid; takes = parts.first; are = refl }

-- ---- of a class

module _ (id : ℕ) (names : Names) (array : ℕ) (c : ClassFile) (works : List BodyWithStates) (bootstrap : ℕ) (constants : ProbeConstants)
    (are : AreBodiesWithStates names array c works) (loads : AreConstants c (all_probes (bodies_of works)) bootstrap constants) where
  abbrev count : ℕ
  count = all_probes (bodies_of works)

  -- the needs, where code loads these constants
  abbrev pub AllNeeds : List Content
  AllNeeds = needed constants.fetch bootstrap (name_of c) (signed_id id) (all_probes (bodies_of works)) (all_frames names constants array works)

  -- what takes the needs is what the class is written with
  pub ready_found : (new : PoolValue) (places : List ℕ) → TakesEach c.pool AllNeeds new places → (w : Writing) × IsReadyFor id names array works c w × (w.pool ≡ new)
  ready_found new places takes =
      let fetch = constants.fetch in
      let taken = takes_needed c.pool new fetch bootstrap (name_of c) (signed_id id) count (all_frames names constants array works) places takes in
      let same : constants ≡ constants_at fetch taken.early =
      loads.are
      ∙ constants_by_places fetch loads.early taken.early (one_early c.pool loads.pool taken.mid fetch bootstrap count loads.early taken.early loads.takes taken.first).1 in
      let w : Writing = record { fetch = fetch; bootstrap = bootstrap; early = taken.early; places = taken.places; pool = new } in (
        w,
        record {
          gets = loads.gets;
          are = are;
          takes = subst (λ (k : ProbeConstants). TakesNeeded c.pool fetch bootstrap (name_of c) (signed_id id) count (all_frames names k array works)
              new taken.early taken.places) same taken.takes;
        },
        refl,
      )

  -- a pool for which the needs of its class are too much is full
  pub full_found : IsTooMuch c.pool AllNeeds → NeedsTooMuch id c
  full_found much =
      let found = ready_found much.new much.places much.takes in
      record {
        names = names;
        array = array;
        works = works;
        with = found.0;
        ready = found.1;
        many = subst (λ (pool : PoolValue). 65535 < length pool) (sym found.2) much.many;
      }
