-- Bytes become an instrumented class file, or have a reason for which they don't.
use Rattle.std.proofs.Common.{◌≡◌, ◌⊎◌, inl, inr, ℕ, ◌<◌, ◌≤◌, Bool, true, false, List, [], ◌∷◌, ◌++◌, length, Some, refl, sym, subst, arith}
use Rattle.std.proofs.lemmas.Bool.{cases_lt}
use Rattle.jc_bytes.specs.ByteLists.{AreBytes}
use Rattle.jc_methods.specs.ProbeMembers.{fetch_of}
use Rattle.jc_methods.specs.declared.probe_members.Fetch.{Fetch}
use Rattle.jc_methods.specs.declared.probe_members.Fetch.TheVariants as fetches
use Rattle.jc_bytes.specs.Reader.{most_read}
use Rattle.jc_bytes.specs.declared.refusal.Refusal.{Refusal}
use Rattle.jc_bytes.specs.declared.refusal.RefusalKind.TheVariants as kinds
use Rattle.jc_methods.specs.declared.body.Body.{Body}
use Rattle.jc_bootstraps.specs.Bootstraps.{bootstrap_bodies}
use Rattle.jc_class.specs.ClassId.{class_id}
use Rattle.jc_class.specs.ClassText.{ClassText, FirstBad, not_a_class}
use Rattle.jc_class.specs.Writable.{IsClassFile}
use Rattle.jc_class.specs.declared.class_file.ClassFile.{ClassFile}
use Rattle.jc_class.proofs.FirstBadLaws.{each_text}
use Rattle.jc_class.proofs.WritableLaws.{class_holds}
use Rattle.jc_plan.specs.Analysed.{all_probes}
use Rattle.jc_instrument.specs.Bodies.{AreBodiesOf}
use Rattle.jc_instrument.specs.Causes.{Cause, Never, IsFirstCause, NoCause, unless, of_class}
use Rattle.jc_instrument.specs.InstrumentedFile.{Becomes, IsInstrumentedFile}
use Rattle.jc_instrument.specs.LeftAlone.{is_left_alone}
use Rattle.jc_instrument.specs.Bootstraps.{TakesNoBootstrap}
use Rattle.jc_instrument.specs.Needed.{GetsBy, IsNextBootstrap, name_of, needed, signed_id}
use Rattle.jc_instrument.specs.Reasons.{analysis_causes, code_causes, interface_causes, class_causes}
use Rattle.jc_instrument.specs.Refused.{Reason}
use Rattle.jc_instrument.specs.RoomCauses.{HasBadBootstraps, HasFullPool, HasTooLargeCode, early_room_causes, room_causes}
use Rattle.jc_instrument.specs.TwinText.{IsReadyFor, IsWritten, Writing, twin_class}
use Rattle.jc_instrument.specs.BodiesWithStates.{bodies_of, all_frames}
use Rattle.jc_instrument.specs.declared.whole.Instrumented.{Instrumented}
use Rattle.jc_instrument.proofs.CauseLaws.{first_behind, first_in_front, none_in_both}
use Rattle.jc_instrument.proofs.CausesDecidedLaws.{causes_decided}
use Rattle.jc_instrument.proofs.BootstrapsDecidedLaws.{next_or_none}
use Rattle.jc_instrument.proofs.DecidedLaws.{first_or_none, none_behind}
use Rattle.jc_instrument.proofs.EachAnalysisLaws.{bodies_checked}
use Rattle.jc_instrument.proofs.FullPoolLaws.{no_full_pool}
use Rattle.jc_instrument.proofs.PoolTextLaws.{class_pool}
use Rattle.jc_instrument.proofs.RoomDecidedLaws.{rooms_decided}
use Rattle.jc_instrument.proofs.SomeBodiesLaws.{AllBodies, all_bodies}
use Rattle.jc_instrument.proofs.SomeWorksLaws.{AllWorks, all_works}
use Rattle.jc_instrument.proofs.ConstantsLaws.{some_constants}
use Rattle.jc_instrument.proofs.TakenNeedsLaws.{ready_found}
use Rattle.jc_instrument.proofs.TakingLaws.{some_takings}
use Rattle.jc_instrument.proofs.TextSizesLaws.{class_size}
use Rattle.jc_instrument_laws.proofs.TwinSpellingLaws.{twin_text}

-- the causes for which there is no room, but for that of the pool
abbrev making : ClassFile → List Cause
making c = early_room_causes c ++ (HasTooLargeCode c ∷ [])

-- ---- how a class gets its array

-- there is room for one more behind those that attributes of the name hold
abbrev TakesOne : ClassFile → List (List ℕ) → Type 0
TakesOne c bodies = (place : ℕ) → TakesNoBootstrap c.pool (length c.attributes) bodies place → ⊥

abbrev HasNext : List (List ℕ) → Type 0
HasNext bodies = (bootstrap : ℕ) × IsNextBootstrap fetches.Constant bodies bootstrap

next_number : (c : ClassFile) (bodies : List (List ℕ)) → TakesOne c bodies → HasNext bodies
next_number c bodies none = by bodies none (next_or_none fetches.Constant bodies)
  where
    by : (bodies : List (List ℕ)) → TakesOne c bodies → HasNext bodies ⊎ ((bootstrap : ℕ) → IsNextBootstrap fetches.Constant bodies bootstrap → ⊥)
        → HasNext bodies
    by bodies none (inl next) = next
    by [] none (inr never) = (0, refl)
    by (body ∷ []) none (inr never) = absurd (none 0 (inl ((λ entries text. never (length entries) (entries, text, refl)), refl)))
    by (body ∷ other ∷ bodies) none (inr never) = absurd (none 0 refl)

-- where one more bootstrap method can be added, the class gets its array so
some_way : (c : ClassFile) → Never (HasBadBootstraps c) → (bootstrap : ℕ) × GetsBy c (fetch_of c.major) bootstrap
some_way c never =
    let next = by (fetch_of c.major) refl in
    (next.0, record { fetch_is = refl; bootstrap_is = next.1 })
  where
    by : (fetch : Fetch) → fetch_of c.major ≡ fetch → (bootstrap : ℕ) × IsNextBootstrap fetch (bootstrap_bodies c.pool c.attributes) bootstrap
    by fetches.Member same = (0, refl)
    by fetches.Constant same =
        next_number c (bootstrap_bodies c.pool c.attributes) (λ place none. never _ (record { by_constant = same; place = place; none = none; refusal = refl }))

-- what it is written with, whatever the count of its pool
some_writing : (id : ℕ) (c : ClassFile) (bodies : List Body) (w : AllWorks c bodies) (bootstrap : ℕ) → GetsBy c (fetch_of c.major) bootstrap
    → (v : Writing) × IsReadyFor id w.names w.array w.works c v
some_writing id c bodies w bootstrap gets =
    let count = all_probes (bodies_of w.works) in
    let some = some_constants c count bootstrap gets in
    let frames = all_frames w.names some.0 w.array w.works in
    let all = some_takings c.pool (needed some.0.fetch bootstrap (name_of c) (signed_id id) count frames) in
    let found = ready_found id w.names w.array c w.works bootstrap some.0 w.are some.1 all.0 all.1 all.2 in
    (found.0, found.1)

-- ---- a class that doesn't stay as it is, for which no cause of its analysis holds

module _ (bytes : List ℕ) (c : ClassFile) (text : ClassText bytes c) (is : IsClassFile c) (none : NoCause (analysis_causes c)) (are : AreBytes bytes)
    (short : length bytes ≤ most_read) where
  abbrev Found : Type 0
  Found = ((a : Instrumented) × IsInstrumentedFile bytes a) ⊎ ((r : Refusal) × Reason bytes (Some r))

  as_given : is_left_alone c ≡ true → Found
  as_given stays =
      let a : Instrumented = record { bytes = bytes; id = class_id bytes; name = is.this_class.0; probes = 0; changed = false } in
      inl (
        a,
        record {
          file = c;
          text = text;
          no_cause = none_in_both (analysis_causes c) (unless (is_left_alone c) (room_causes (class_id bytes) c)) none
              (subst (λ (t : Bool). NoCause (unless t (room_causes (class_id bytes) c))) (sym stays) tt);
          id = refl;
          name = is.this_class.1;
          becomes = subst (λ (t : Bool). Becomes t bytes c a) (sym stays) (record { same = refl; probes = refl; changed = refl });
        },
      )

  module _ (changes : is_left_alone c ≡ false) where
    abbrev id : ℕ
    id = class_id bytes

    refused : (r : Refusal) → IsFirstCause (room_causes id c) r → Found
    refused r first = inr (
      r,
      inr (
        c,
        text,
        first_behind (analysis_causes c) (unless (is_left_alone c) (room_causes id c)) r none
            (subst (λ (t : Bool). IsFirstCause (unless t (room_causes id c)) r) (sym changes) first),
      ),
    )

    no_code_cause : NoCause (code_causes c)
    no_code_cause =
        none_behind (interface_causes c) (code_causes c)
        (subst (λ (t : Bool). NoCause (unless t (interface_causes c ++ code_causes c))) changes
        (none_behind (class_causes c) (unless (is_left_alone c) (interface_causes c ++ code_causes c)) none))

    module _ (none_room : NoCause (making c)) (all : AllBodies c) (of_class_is : AreBodiesOf c all.bodies) (w : AllWorks c all.bodies) (v : Writing)
        (ready : IsReadyFor id w.names w.array w.works c v) where
      full : 65535 < length v.pool → Found
      full many = refused (of_class kinds.PoolFull 65536) (first_behind (making c) (HasFullPool id c ∷ []) _ none_room (inl (record {
        full = record {
          names = w.names;
          array = w.array;
          works = w.works;
          with = v;
          ready = ready;
          many = many;
        };
        refusal = refl;
      })))

      module _ (few : length v.pool ≤ 65535) where
        abbrev twin : ClassFile
        twin = twin_class w.names w.array c w.works v

        written : IsWritten id w.names w.array w.works c twin
        written = record { with = v; ready = ready; few = few; is = refl }

        not_full : Never (HasFullPool id c)
        not_full = no_full_pool id w.names w.array w.works c twin written

        made : Found
        made =
            let t = twin_text bytes c text is are short none_room all of_class_is w v ready few in
            let a : Instrumented =
            record { bytes = t.0; id = id; name = is.this_class.0; probes = all_probes (bodies_of w.works); changed = true } in
            inl (
              a,
              record {
                file = c;
                text = text;
                no_cause = none_in_both (analysis_causes c) (unless (is_left_alone c) (room_causes id c)) none
                    (subst (λ (t : Bool). NoCause (unless t (room_causes id c))) (sym changes)
                    (none_in_both (making c) (HasFullPool id c ∷ []) none_room (not_full, tt)));
                id = refl;
                name = is.this_class.1;
                becomes = subst (λ (t : Bool). Becomes t bytes c a) (sym changes) (record {
                  names = w.names;
                  array = w.array;
                  works = w.works;
                  twin = twin;
                  written = written;
                  are_bytes = t.2;
                  text = t.1;
                  probes = refl;
                  changed = refl;
                });
              },
            )

    with_works : NoCause (making c) → (all : AllBodies c) → AreBodiesOf c all.bodies → AllWorks c all.bodies → Found
    with_works none_room all are_bodies w =
        let way = some_way c none_room.1.1.1.0 in
        by (some_writing id c all.bodies w way.0 way.1)
      where
        by : (v : Writing) × IsReadyFor id w.names w.array w.works c v → Found
        by (v, ready) = by_count (cases_lt 65535 (length v.pool))
          where
            by_count : (65535 < length v.pool) ⊎ (length v.pool ≤ 65535) → Found
            by_count (inl many) = full none_room all are_bodies w v ready many
            by_count (inr few) = made none_room all are_bodies w v ready few

    with_bodies : AllBodies c → Found
    with_bodies all =
        let are_bodies : AreBodiesOf c all.bodies = bodies_checked c all.bodies changes (record { names = all.names; are = all.are; checked = all.checked }) in
        by (first_or_none (making c) (rooms_decided c all.bodies is are_bodies)) are_bodies
      where
        by : ((r : Refusal) × IsFirstCause (making c) r) ⊎ NoCause (making c) → AreBodiesOf c all.bodies → Found
        by (inl first) are_bodies = refused first.0 (first_in_front (making c) (HasFullPool id c ∷ []) first.0 first.1)
        by (inr none_room) are_bodies = with_works none_room all are_bodies (all_works c all)

    changed : Found
    changed =
        let size = class_size bytes c text in
        with_bodies (all_bodies c is (class_pool bytes c are text) (omega (arith, size, short)) no_code_cause)

  found : Found
  found = by (is_left_alone c) refl
    where
      by : (t : Bool) → is_left_alone c ≡ t → Found
      by true stays = as_given stays
      by false changes = changed changes

pub each_file : (bytes : List ℕ) → AreBytes bytes → length bytes ≤ most_read
    → ((a : Instrumented) × IsInstrumentedFile bytes a) ⊎ ((r : Refusal) × Reason bytes (Some r))
each_file bytes are short = by (each_text bytes)
  where
    with_class : (c : ClassFile) → ClassText bytes c → IsClassFile c
        → ((r : Refusal) × IsFirstCause (analysis_causes c) r) ⊎ NoCause (analysis_causes c)
        → ((a : Instrumented) × IsInstrumentedFile bytes a) ⊎ ((r : Refusal) × Reason bytes (Some r))
    with_class c text is (inl first) = inr (
      first.0,
      inr (c, text, first_in_front (analysis_causes c) (unless (is_left_alone c) (room_causes (class_id bytes) c)) first.0 first.1),
    )
    with_class c text is (inr none) = found bytes c text is none are short

    by : ((c : ClassFile) × ClassText bytes c) ⊎ ((offset : ℕ) × FirstBad bytes offset)
        → ((a : Instrumented) × IsInstrumentedFile bytes a) ⊎ ((r : Refusal) × Reason bytes (Some r))
    by (inl c) =
        let is = class_holds bytes c.0 are c.1 in
        with_class c.0 c.1 is (first_or_none (analysis_causes c.0) (causes_decided c.0 is))
    by (inr bad) = inr (not_a_class bad.0, inl (refl, bad.1))
