-- Where the grown pool has what a class needs.
use Rattle.std.proofs.Common.{◌≡◌, ◌⊎◌, inl, inr, ℕ, ℤ, zero, suc, ◌+◌, ◌-◌, ◌<◌, ◌≤◌, Bool, true, false, pos, nat_le, List, [], ◌∷◌, ◌++◌, length, map, Option, Some, None, refl, sym, ◌∙◌, ap, subst, arith, if◌then◌else◌}
use Rattle.std.specs.Prelude.{codes, slice_index}
use Rattle.std.specs.Bool.{⊤}
use Rattle.std.specs.List.{AllByRecursion}
use Rattle.std.proofs.Math.Nat.{min-eq_left, min-le_right}
use Rattle.std.proofs.lemmas.Bool.{cases_lt}
use Rattle.std.proofs.lemmas.List.{length-append, length-map}
use Rattle.std.proofs.lemmas.Option.{none-some}
use Rattle.jc_bytes.specs.PlainLists.{numbers_from}
use Rattle.jc_methods.specs.VerificationTypes.{Names, TypeStateAt}
use Rattle.jc_methods.specs.declared.probe_members.Fetch.{Fetch}
use Rattle.jc_methods.specs.declared.probe_members.Fetch.TheVariants as fetches
use Rattle.jc_methods.specs.ProbeMembers.{bootstrap_type, bootstraps_name, data_name, data_type, init_name, init_type, most_short}
use Rattle.jc_pool.specs.Lookup.{class_name_of, computed_of, handle_of, integer_in, integer_of, long_of, member_of, string_of, utf8_of}
use Rattle.jc_pool.specs.Pool.{PoolValue}
use Rattle.jc_pool.proofs.AddedMemberLaws.{member_past}
use Rattle.jc_pool.proofs.LinkedKeyLaws.{computed_past}
use Rattle.jc_pool.proofs.OneMoreEntryLaws.{past}
use Rattle.jc_class.specs.declared.class_file.ClassFile.{ClassFile}
use Rattle.jc_frames.specs.FullTable.{named_by_all}
use Rattle.jc_plan.specs.Analysed.{all_probes}
use Rattle.jc_emit.specs.Written.{integer_in as integer_place}
use Rattle.jc_instrument_code.specs.declared.code.CodePlaces.{CodePlaces}
use Rattle.jc_instrument_reread.specs.Written.{HasCountEntry, HasGiver, HasIntegers, added_type, array_constant, data_field, fetch_method, init_method}
use Rattle.jc_instrument_reread.specs.WrittenCode.{IsFramesName}
use Rattle.jc_instrument.specs.BodiesWithStates.{BodyWithStates, all_frames, bodies_of}
use Rattle.jc_instrument.specs.Contents.{Content, IsOfClass, Takes, TakesEach, class_entry, computed_entry, handle_entry, integer_entry, long_entry, member_entry, string_entry, text_entry}
use Rattle.jc_instrument.specs.Needed.{EarlyPlaces, bootstrap_handle, count_needs, count_places, early_list, early_needs, frame_needs, frames_list, frames_needs, long_ids, member_needs, name_of, needed, place_list, signed_id}
use Rattle.jc_instrument.specs.Constants.{constant_place, within}
use Rattle.jc_instrument.specs.TwinText.{TakesNeeds, Writing, constants_of, giver_by, needs_of}
use Rattle.jc_instrument.specs.declared.needs.MemberPlaces.{MemberPlaces}
use Rattle.jc_instrument.proofs.ContentLaws.{of_content}
use Rattle.jc_instrument.proofs.GrownPoolLaws.{StandAt, stand_at}

-- ---- each is of a class, where it is a field or a method

both_listed : (front back : List Content) → AllByRecursion IsOfClass front → AllByRecursion IsOfClass back → AllByRecursion IsOfClass (front ++ back)
both_listed [] back p q = q
both_listed (c ∷ front) back p q = (p.0, both_listed front back p.1 q)

classes_listed : (names : Names) → AllByRecursion IsOfClass (map class_entry names)
classes_listed [] = tt
classes_listed (name ∷ names) = (tt, classes_listed names)

integers_listed : (ids : List ℕ) → AllByRecursion IsOfClass (map (λ id. integer_entry (pos id)) ids)
integers_listed [] = tt
integers_listed (id ∷ ids) = (tt, integers_listed ids)

early_listed : (fetch : Fetch) (bootstrap count : ℕ) → AllByRecursion IsOfClass (early_needs fetch bootstrap count)
early_listed fetches.Member bootstrap count = integers_listed (long_ids count)
early_listed fetches.Constant bootstrap count = (tt, integers_listed (long_ids count))

count_listed : (count : ℕ) → AllByRecursion IsOfClass (count_needs count)
count_listed count = by (nat_le count most_short)
  where
    by : (t : Bool) → AllByRecursion IsOfClass (if t then [] else integer_entry (pos count) ∷ [])
    by true = tt
    by false = (tt, tt)

name_listed : (frames : List TypeStateAt) → AllByRecursion IsOfClass (frames_needs frames)
name_listed [] = tt
name_listed (frame ∷ frames) = (tt, tt)

members_listed : (fetch : Fetch) (owner : List ℕ) (id : ℤ) (count : ℕ) (frames : List TypeStateAt) → AllByRecursion IsOfClass (member_needs fetch owner id count frames)
members_listed fetches.Member owner id count frames = (
  tt,
  (tt, (tt, (tt, ((omega arith, omega arith), ((omega arith, omega arith), ((omega arith, omega arith), (tt, (tt, (tt, (tt, (tt, count_listed count))))))))))),
)
members_listed fetches.Constant owner id count frames = (
  tt,
  (
    tt,
    (
      (omega arith, omega arith),
      ((omega arith, omega arith), (tt, (tt, (tt, (tt, (tt, both_listed (count_needs count) (frames_needs frames) (count_listed count) (name_listed frames))))))),
    ),
  ),
)

pub needed_listed : (fetch : Fetch) (bootstrap : ℕ) (owner : List ℕ) (id : ℤ) (count : ℕ) (frames : List TypeStateAt)
    → AllByRecursion IsOfClass (needed fetch bootstrap owner id count frames)
needed_listed fetch bootstrap owner id count frames =
    both_listed (early_needs fetch bootstrap count) (member_needs fetch owner id count frames ++ frame_needs frames) (early_listed fetch bootstrap count)
    (both_listed (member_needs fetch owner id count frames) (frame_needs frames) (members_listed fetch owner id count frames)
    (classes_listed (named_by_all frames)))

pub each_listed : (id : ℕ) (names : Names) (array : ℕ) (c : ClassFile) (works : List BodyWithStates) (w : Writing)
    → AllByRecursion IsOfClass (needs_of id names array c works w)
each_listed id names array c works w =
    needed_listed w.fetch w.bootstrap (name_of c) (signed_id id) (all_probes (bodies_of works)) (all_frames names (constants_of w) array works)

-- ---- each has one place

pub stand_both : (pool : PoolValue) (front back : List Content) (places others : List ℕ) → length places ≡ length front → StandAt pool (front ++ back) (places ++ others)
    → StandAt pool front places × StandAt pool back others
stand_both pool [] back [] others count at = (tt, at)
stand_both pool [] back (p ∷ places) others count at = absurd (omega (arith, count))
stand_both pool (c ∷ front) back [] others count at = absurd (omega (arith, count))
stand_both pool (c ∷ front) back (p ∷ places) others count at =
    let rest = stand_both pool front back places others (omega (arith, count)) at.1 in
    ((at.0, rest.0), rest.1)

-- the places behind the first
abbrev pub other_places : List ℕ → List ℕ
other_places [] = []
other_places (p ∷ l) = l

abbrev first_place : List ℕ → ℕ
first_place [] = 0
first_place (p ∷ l) = p

-- what is taken at so many places is taken first
pub takes_split : (old new : PoolValue) (front back : List Content) (places others : List ℕ) → length places ≡ length front
    → TakesEach old (front ++ back) new (places ++ others) → (mid : PoolValue) × TakesEach old front mid places × TakesEach mid back new others
takes_split old new [] back [] others count takes = (old, (refl, refl), takes)
takes_split old new [] back (p ∷ places) others count takes = absurd (omega (arith, count))
takes_split old new (c ∷ front) back [] others count takes = absurd (omega (arith, count))
takes_split old new (c ∷ front) back (p ∷ places) others count takes =
    let rest = takes_split takes.0 new front back places others (omega (arith, count))
    (subst (TakesEach takes.0 (front ++ back) new) (sym (ap other_places takes.3)) takes.5) in (
      rest.0,
      (takes.0, p, places, refl, subst (λ (place : ℕ). Takes old c takes.0 place) (sym (ap first_place takes.3)) takes.4, rest.1),
      rest.2,
    )

pub early_count : (fetch : Fetch) (bootstrap count : ℕ) (early : EarlyPlaces) → length early.integers ≡ length (long_ids count)
    → length (early_list fetch early) ≡ length (early_needs fetch bootstrap count)
early_count fetches.Member bootstrap count early many = many ∙ sym (length-map (long_ids count) (λ (id : ℕ). integer_entry (pos id)))
early_count fetches.Constant bootstrap count early many =
    let same = many ∙ sym (length-map (long_ids count) (λ (id : ℕ). integer_entry (pos id))) in
    omega (arith, same)

count_count : (count place : ℕ) → length (count_places count place) ≡ length (count_needs count)
count_count count place = by (nat_le count most_short)
  where
    by : (t : Bool) → length {A = ℕ} (if t then [] else place ∷ []) ≡ length {A = Content} (if t then [] else integer_entry (pos count) ∷ [])
    by true = refl
    by false = refl

name_count : (frames : List TypeStateAt) (p : MemberPlaces) → length (frames_list frames p) ≡ length (frames_needs frames)
name_count [] p = refl
name_count (frame ∷ frames) p = refl

pub member_count : (fetch : Fetch) (owner : List ℕ) (id : ℤ) (count : ℕ) (frames : List TypeStateAt) (p : MemberPlaces)
    → length (place_list fetch count frames p) ≡ length (member_needs fetch owner id count frames)
member_count fetches.Member owner id count frames p = let counts = count_count count p.count in omega (arith, counts)
member_count fetches.Constant owner id count frames p =
    let places = length-append (count_places count p.count) (frames_list frames p) in
    let needs = length-append (count_needs count) (frames_needs frames) in
    let counts = count_count count p.count in
    let names = name_count frames p in
    omega (arith, places, needs, counts, names)

-- ---- what the added members need

-- what belongs to one way of getting the array
abbrev pub OwnStand : Fetch → PoolValue → (owner : List ℕ) → MemberPlaces → Type 0
OwnStand fetches.Member pool owner p =
    (utf8_of pool p.data_name ≡ Some data_name)
    × (utf8_of pool p.data_type ≡ Some data_type)
    × (member_of pool p.field ≡ Some (data_field owner))
    × (member_of pool p.method ≡ Some (init_method owner))
    × (utf8_of pool p.frames ≡ Some (codes "StackMapTable"))
OwnStand fetches.Constant pool owner p =
    (handle_of pool p.handle ≡ Some (bootstrap_handle owner)) × (utf8_of pool p.bootstraps ≡ Some bootstraps_name)

-- the pool has at these places what the added members name
pub record MembersStand (fetch : Fetch) (pool : PoolValue) (owner : List ℕ) (id : ℤ) (count : ℕ) (frames : List TypeStateAt) (p : MemberPlaces) : Type 0 where
  pub own : OwnStand fetch pool owner p
  pub init_name : utf8_of pool p.init_name ≡ Some init_name
  pub init_type : utf8_of pool p.init_type ≡ Some (added_type fetch)
  pub fetch_is : member_of pool p.fetch ≡ Some fetch_method
  pub code : utf8_of pool p.code ≡ Some (codes "Code")
  pub id_is : long_of pool p.id ≡ Some id
  pub name_is : string_of pool p.name ≡ Some owner
  pub array_is : class_name_of pool p.array ≡ Some data_type
  pub count_is : HasCountEntry (nat_le count most_short) pool count p.count
  pub frames_is : IsFramesName pool frames p.frames

count_stands : (pool : PoolValue) (count place : ℕ) → StandAt pool (count_needs count) (count_places count place) → HasCountEntry (nat_le count most_short) pool count place
count_stands pool count place at = by (nat_le count most_short) at
  where
    by : (t : Bool) → StandAt pool (if t then [] else integer_entry (pos count) ∷ []) (if t then [] else place ∷ []) → HasCountEntry t pool count place
    by true at = tt
    by false at = of_content pool place (integer_entry (pos count)) at.0

pub any_frames : (pool : PoolValue) (frames : List TypeStateAt) (place : ℕ) → utf8_of pool place ≡ Some (codes "StackMapTable") → IsFramesName pool frames place
any_frames pool [] place is = tt
any_frames pool (frame ∷ frames) place is = is

name_stands : (pool : PoolValue) (frames : List TypeStateAt) (p : MemberPlaces) → StandAt pool (frames_needs frames) (frames_list frames p) → IsFramesName pool frames p.frames
name_stands pool [] p at = tt
name_stands pool (frame ∷ frames) p at = of_content pool p.frames (text_entry (codes "StackMapTable")) at.0

pub members_stand : (fetch : Fetch) (pool : PoolValue) (owner : List ℕ) (id : ℤ) (count : ℕ) (frames : List TypeStateAt) (p : MemberPlaces)
    → StandAt pool (member_needs fetch owner id count frames) (place_list fetch count frames p) → MembersStand fetch pool owner id count frames p
members_stand fetches.Member pool owner id count frames p at =
    let text = of_content pool p.frames (text_entry (codes "StackMapTable")) at.1.1.1.1.1.1.1.1.0 in
    record {
      own = (
        of_content pool p.data_name (text_entry data_name) at.0,
        of_content pool p.data_type (text_entry data_type) at.1.0,
        of_content pool p.field (member_entry (data_field owner)) at.1.1.1.1.0,
        of_content pool p.method (member_entry (init_method owner)) at.1.1.1.1.1.0,
        text,
      );
      init_name = of_content pool p.init_name (text_entry init_name) at.1.1.0;
      init_type = of_content pool p.init_type (text_entry init_type) at.1.1.1.0;
      fetch_is = of_content pool p.fetch (member_entry fetch_method) at.1.1.1.1.1.1.0;
      code = of_content pool p.code (text_entry (codes "Code")) at.1.1.1.1.1.1.1.0;
      id_is = of_content pool p.id (long_entry id) at.1.1.1.1.1.1.1.1.1.0;
      name_is = of_content pool p.name (string_entry owner) at.1.1.1.1.1.1.1.1.1.1.0;
      array_is = of_content pool p.array (class_entry data_type) at.1.1.1.1.1.1.1.1.1.1.1.0;
      count_is = count_stands pool count p.count at.1.1.1.1.1.1.1.1.1.1.1.1;
      frames_is = any_frames pool frames p.frames text;
    }
members_stand fetches.Constant pool owner id count frames p at =
    let last = stand_both pool (count_needs count) (frames_needs frames) (count_places count p.count) (frames_list frames p) (count_count count p.count)
    at.1.1.1.1.1.1.1.1.1 in
    record {
      own = (
        of_content pool p.handle (handle_entry (bootstrap_handle owner)) at.1.1.0,
        of_content pool p.bootstraps (text_entry bootstraps_name) at.1.1.1.1.1.0,
      );
      init_name = of_content pool p.init_name (text_entry init_name) at.0;
      init_type = of_content pool p.init_type (text_entry bootstrap_type) at.1.0;
      fetch_is = of_content pool p.fetch (member_entry fetch_method) at.1.1.1.0;
      code = of_content pool p.code (text_entry (codes "Code")) at.1.1.1.1.0;
      id_is = of_content pool p.id (long_entry id) at.1.1.1.1.1.1.0;
      name_is = of_content pool p.name (string_entry owner) at.1.1.1.1.1.1.1.0;
      array_is = of_content pool p.array (class_entry data_type) at.1.1.1.1.1.1.1.1.0;
      count_is = count_stands pool count p.count last.0;
      frames_is = name_stands pool frames p last.1;
    }

-- ---- what code loads

-- the constant stands at this place, where there is one
abbrev pub GiverStands : Fetch → PoolValue → (bootstrap place : ℕ) → Type 0
GiverStands fetches.Member pool bootstrap place = ⊤
GiverStands fetches.Constant pool bootstrap place = computed_of pool place ≡ Some (array_constant bootstrap)

-- each of the ids from this one on has its Integer at its place
abbrev pub IntegersStand : PoolValue → (first many : ℕ) → List ℕ → Type 0
IntegersStand pool first many places = (k : ℕ) → k < many → integer_of pool (slice_index places k) ≡ Some (pos (first + k))

integers_stand : (pool : PoolValue) (first many : ℕ) (places : List ℕ) → StandAt pool (map (λ id. integer_entry (pos id)) (numbers_from first many)) places
    → IntegersStand pool first many places
integers_stand pool first zero places at = λ k less. absurd (omega (arith, less))
integers_stand pool first (suc many) [] at = absurd at
integers_stand pool first (suc many) (p ∷ places) at = λ k less. by k less (integers_stand pool (first + 1) many places at.1)
  where
    by : (k : ℕ) → k < suc many → IntegersStand pool (first + 1) many places → integer_of pool (slice_index (p ∷ places) k) ≡ Some (pos (first + k))
    by zero less rest = of_content pool p (integer_entry (pos first)) at.0 ∙ ap (λ (n : ℕ). Some (pos n)) (let e : first ≡ first + 0 = omega arith in e)
    by (suc k) less rest = rest k (omega (arith, less)) ∙ ap (λ (n : ℕ). Some (pos n)) (let e : first + 1 + k ≡ first + suc k = omega arith in e)

-- the pool has at these places what code loads
pub record EarlyStands (fetch : Fetch) (pool : PoolValue) (bootstrap count : ℕ) (early : EarlyPlaces) : Type 0 where
  pub giver : GiverStands fetch pool bootstrap early.giver
  pub integers : IntegersStand pool (most_short + 1) (count - (most_short + 1)) early.integers

pub early_stands : (fetch : Fetch) (pool : PoolValue) (bootstrap count : ℕ) (early : EarlyPlaces)
    → StandAt pool (early_needs fetch bootstrap count) (early_list fetch early) → EarlyStands fetch pool bootstrap count early
early_stands fetches.Member pool bootstrap count early at =
    record { giver = tt; integers = integers_stand pool (most_short + 1) (count - (most_short + 1)) early.integers at }
early_stands fetches.Constant pool bootstrap count early at =
    record {
      giver = of_content pool early.giver (computed_entry (array_constant bootstrap)) at.0;
      integers = integers_stand pool (most_short + 1) (count - (most_short + 1)) early.integers at.1;
    }

-- ---- all that a class needs

-- the pool has what the class needs
pub record NeedsStand (id : ℕ) (c : ClassFile) (count : ℕ) (frames : List TypeStateAt) (w : Writing) (class_places : List ℕ) : Type 0 where
  pub early : EarlyStands w.fetch w.pool w.bootstrap count w.early
  pub members : MembersStand w.fetch w.pool (name_of c) (signed_id id) count frames w.places
  pub classes : StandAt w.pool (frame_needs frames) class_places

pub needs_stand : (id : ℕ) (names : Names) (array : ℕ) (c : ClassFile) (works : List BodyWithStates) (w : Writing)
    → (takes : TakesNeeds id names array c works w)
    → NeedsStand id c (all_probes (bodies_of works)) (all_frames names (constants_of w) array works) w takes.class_places
needs_stand id names array c works w takes =
    let count = all_probes (bodies_of works) in
    let frames = all_frames names (constants_of w) array works in
    let all = stand_at (needs_of id names array c works w) c.pool w.pool (early_list w.fetch w.early ++ (place_list w.fetch count frames w.places ++ takes.class_places))
    (each_listed id names array c works w) takes.takes in
    let front = stand_both w.pool (early_needs w.fetch w.bootstrap count) (member_needs w.fetch (name_of c) (signed_id id) count frames ++ frame_needs frames)
    (early_list w.fetch w.early) (place_list w.fetch count frames w.places ++ takes.class_places)
    (early_count w.fetch w.bootstrap count w.early takes.integers) all in
    let back = stand_both w.pool (member_needs w.fetch (name_of c) (signed_id id) count frames) (frame_needs frames) (place_list w.fetch count frames w.places)
    takes.class_places (member_count w.fetch (name_of c) (signed_id id) count frames w.places) front.1 in
    record {
      early = early_stands w.fetch w.pool w.bootstrap count w.early front.0;
      members = members_stand w.fetch w.pool (name_of c) (signed_id id) count frames w.places back.0;
      classes = back.1;
    }

-- ---- places in code

-- what stands somewhere stands in the pool
inside : {X : Type 0} (pool : PoolValue) (place : ℕ) (o : Option X) (x : X) → o ≡ Some x → (length pool ≤ place → o ≡ None) → place < length pool
inside pool place o x is none = by (cases_lt place (length pool))
  where
    by : (place < length pool) ⊎ (length pool ≤ place) → place < length pool
    by (inl less) = less
    by (inr past) = absurd (none-some x (sym (none past) ∙ is))

pub integer_inside : (pool : PoolValue) (place : ℕ) (value : ℤ) → integer_of pool place ≡ Some value → place < length pool
unfolding integer_of
integer_inside pool place value is = inside pool place (integer_of pool place) value is (λ behind. past integer_in pool place behind)

within_same : (pool : PoolValue) (place : ℕ) → length pool ≤ 65535 → place < length pool → within place ≡ place
within_same pool place few less = min-eq_left (omega (arith, few, less))

within_at : (places : List ℕ) (k : ℕ) → slice_index (map within places) k ≡ within (slice_index places k)
within_at [] k = refl
within_at (p ∷ places) zero = refl
within_at (p ∷ places) (suc k) = within_at places k

-- each place of an Integer is a number of two bytes
pub integer_below : (places : List ℕ) (k : ℕ) → slice_index (map within places) k < 65536
integer_below places k =
    let cut = within_at places k in
    let few = min-le_right (slice_index places k) 65535 in
    omega (arith, cut, few)

-- the Integers stand where code loads them
pub integers_have : (pool : PoolValue) (count first many : ℕ) (places : List ℕ) → length pool ≤ 65535
    → IntegersStand pool (most_short + 1) (count - (most_short + 1)) places → first + many ≤ count → HasIntegers pool first many (integer_place (map within places))
integers_have pool count first many places few stand among = λ id long from below.
    let k : ℕ = id - (most_short + 1) in
    let value : most_short + 1 + k ≡ id = omega (arith, long) in
    let is = stand k (omega (arith, long, below, among)) in
    let there = integer_inside pool (slice_index places k) (pos (most_short + 1 + k)) is in
    ap (integer_of pool) (within_at places k ∙ within_same pool (slice_index places k) few there) ∙ is ∙ ap (λ (n : ℕ). Some (pos n)) value

-- what the prelude names stands at its place
pub giver_has : (fetch : Fetch) (pool : PoolValue) (owner : List ℕ) (id : ℤ) (bootstrap count : ℕ) (frames : List TypeStateAt) (early : EarlyPlaces) (p : MemberPlaces)
    (places : CodePlaces) → length pool ≤ 65535 → EarlyStands fetch pool bootstrap count early → MembersStand fetch pool owner id count frames p
    → places.giver ≡ giver_by fetch (constant_place fetch early) p.method → places.array ≡ p.array → HasGiver fetch pool owner bootstrap places
giver_has fetches.Member pool owner id bootstrap count frames early p places few loads stand giver array =
    ap (member_of pool) giver ∙ stand.own.3
giver_has fetches.Constant pool owner id bootstrap count frames early p places few loads stand giver array =
    let there = inside pool early.giver (computed_of pool early.giver) (array_constant bootstrap) loads.giver (λ behind. computed_past pool early.giver behind) in (
      ap (computed_of pool) (giver ∙ within_same pool early.giver few there) ∙ loads.giver,
      ap (class_name_of pool) array ∙ stand.array_is,
    )

pub giver_below : (fetch : Fetch) (pool : PoolValue) (owner : List ℕ) (early : EarlyPlaces) (p : MemberPlaces) → length pool ≤ 65535 → OwnStand fetch pool owner p
    → giver_by fetch (constant_place fetch early) p.method < 65536
giver_below fetches.Member pool owner early p few own =
    let less = inside pool p.method (member_of pool p.method) (init_method owner) own.3 (λ behind. member_past pool p.method behind) in
    omega (arith, less, few)
giver_below fetches.Constant pool owner early p few own = let most = min-le_right early.giver 65535 in omega (arith, most)
