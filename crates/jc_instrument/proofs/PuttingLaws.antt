-- Methods that get their instrumented code, one after the other, while the pool takes the classes that frames name.
use Rattle.std.proofs.Common.{◌≡◌, ◌≢◌, ⊎_elim, ℕ, zero, suc, ◌+◌, ◌<◌, ◌≤◌, Bool, List, [], ◌∷◌, ◌++◌, length, map, drop, get_or, set, Option, Some, None, slice_get, refl, sym, ◌∙◌, ap, subst, arith, add-one, if◌then◌else◌}
use Rattle.std.proofs.Math.ListN.{drop_of_length-le}
use Rattle.std.specs.List.{AllByRecursion, AllZip}
use Rattle.std.proofs.lemmas.Bool.{eq-eqb, ne_eqb}
use Rattle.std.proofs.lemmas.List.Concat.{flat_map-cons}
use Rattle.std.proofs.lemmas.Option.{get_or_from_slice_get, slice_get_read, slice_get_within}
use Rattle.std.proofs.lemmas.Slice.Zip.{AllZip-long}
use Rattle.jc_methods.specs.VerificationTypes.{Grows, Names}
use Rattle.jc_methods.specs.declared.emitted.Emitted.{Emitted}
use Rattle.jc_methods.proofs.MetNamesLaws.{grows_both, grows_none}
use Rattle.jc_bytes.specs.declared.fail.Fail.{Fail}
use Rattle.jc_bytes.proofs.AppendingLaws.{drop_is}
use Rattle.jc_bytes.proofs.ListLaws.{all_at}
use Rattle.jc_pool.specs.Adding.{Extends}
use Rattle.jc_pool.specs.Pool.{PoolValue}
use Rattle.jc_pool.specs.declared.add.PoolFull.{PoolFull}
use Rattle.jc_pool.proofs.AddingLaws.{extends_more, same_extends}
use Rattle.jc_class.specs.declared.class_file.Attribute.{Attribute}
use Rattle.jc_class.specs.declared.class_file.ClassFile.{ClassFile}
use Rattle.jc_class.specs.declared.class_file.Member.{Member}
use Rattle.jc_instrument_code.specs.Given.{AreNamed}
use Rattle.jc_instrument_code.specs.TwinCode.{written_frames}
use Rattle.jc_instrument_code.specs.declared.code.CodePlaces.{CodePlaces}
use Rattle.jc_instrument.specs.BodiesWithStates.{BodyWithStates, all_frames, emitted_of}
use Rattle.jc_instrument.specs.Members.{AreCoded, HasOneCode, IsCoded}
use Rattle.jc_instrument.specs.Ready.{AreReadyFrom, IsReadyFrom, method_of}
use Rattle.jc_instrument.specs.TwinText.{twin_method, twin_methods, with_code, work_of}
use Rattle.jc_instrument.specs.Writing.{AreAllNamed, ArePlannedWorks, ArePut, IsPlannedWork, IsWrittenWork, KeepsClasses, RefusesWork, RefusesWorks, code_over}
use Rattle.jc_instrument.specs.declared.constants.ProbeConstants.{ProbeConstants}
use Rattle.jc_instrument.specs.declared.ready.PlannedBody.{PlannedBody}
use Rattle.jc_instrument.proofs.FramesAskedLaws.{FramesTaking, IsNameAt, frames_all, frames_begun, frames_extend, frames_here, frames_keep, frames_more, name_each, name_stays, one_name, without_frames}
use Rattle.jc_instrument.proofs.MemberLaws.{one_changed, other_kept, unchanged}
use Rattle.jc_instrument.proofs.PlannedLaws.{planned_method, planned_work_on, ready_from_grown}
use Rattle.jc_instrument.proofs.TwinMethodLaws.{same_attributes, same_code}

-- ---- lists

-- the item of the second list that belongs to the one at a place of the first
record IsNextOf {X Y : Type 0} (R : X → Y → Type 0) (ys : List Y) (n : ℕ) (x : X) : Type 0 where
  item : Y
  holds : R x item
  stands : slice_get ys n ≡ Some item
  split : drop n ys ≡ item ∷ drop (suc n) ys

next_of : {X Y : Type 0} (R : X → Y → Type 0) (xs : List X) (ys : List Y) (n : ℕ) (x : X) → AllZip R xs ys → n < length xs → x ≡ get_or xs n x
    → IsNextOf R ys n x
next_of R [] ys n x all less is = absurd (omega (arith, less))
next_of R (z ∷ xs) [] n x all less is = absurd all
next_of {X = X} R (z ∷ xs) (y ∷ ys) zero x all less is = record { item = y; holds = subst (λ (u : X). R u y) (sym is) all.0; stands = refl; split = refl }
next_of R (z ∷ xs) (y ∷ ys) (suc n) x all less is =
    let rest = next_of R xs ys n x all.1 (omega (arith, less)) is in
    record { item = rest.item; holds = rest.holds; stands = rest.stands; split = rest.split }

zip_dropped : {X Y : Type 0} (R : X → Y → Type 0) (n : ℕ) (xs : List X) (ys : List Y) → AllZip R xs ys → AllZip R (drop n xs) (drop n ys)
zip_dropped R zero xs ys all = all
zip_dropped R (suc n) [] [] all = tt
zip_dropped R (suc n) [] (y ∷ ys) all = absurd all
zip_dropped R (suc n) (x ∷ xs) [] all = absurd all
zip_dropped R (suc n) (x ∷ xs) (y ∷ ys) all = zip_dropped R n xs ys all.1

-- ---- one method

abbrev AreLater : ℕ → List PlannedBody → Type 0
AreLater number ready = AllByRecursion (λ q. number < method_of q) ready

none_later : (constants : ProbeConstants) (others : Names) (array : ℕ) (source : Option ClassFile) (first : Names) (number : ℕ) (ready : List PlannedBody) (works : List BodyWithStates)
    → AreLater number ready → ArePlannedWorks first others constants array source ready works → work_of number works ≡ None
none_later constants others array source first number [] [] later of = refl
none_later constants others array source first number [] (w ∷ works) later of = absurd of
none_later constants others array source first number (r ∷ ready) [] later of = absurd of
none_later constants others array source first number (r ∷ ready) (w ∷ works) later of =
    let less = later.0 in
    let same = planned_method first constants w.body w.first r of.0.planned in
    let ne : w.body.method ≢ number = omega (arith, less, same) in
    ap (λ (t : Bool). if t then Some w else work_of number works) (ne_eqb w.body.method number ne)
    ∙ none_later constants others array source first number ready works later.1 of.1

module _ (old : PoolValue) (code : BodyWithStates → List ℕ) where
  abbrev with : List BodyWithStates → ℕ → Member → Member
  with works number method = twin_method old code method (work_of number works)

  -- the first one, and then the others
  one_method : (w : BodyWithStates) (works : List BodyWithStates) (number : ℕ) (methods : List Member) (m : Member) → w.body.method ≡ number
      → slice_get methods number ≡ Some m → work_of number works ≡ None
      → twin_methods old code (w ∷ works) methods ≡ twin_methods old code works (set methods number (twin_method old code m (Some w)))
  one_method w works number methods m number_is at none =
      let new = twin_method old code m (Some w) in
      let here : with (w ∷ works) number m ≡ new =
      ap (λ (t : Bool). twin_method old code m (if t then Some w else work_of number works)) (eq-eqb w.body.method number number_is) in
      let left : with works number new ≡ new = ap (twin_method old code new) none in
      let others : (n : ℕ) (z : Member) → n ≢ number → with (w ∷ works) n z ≡ with works n z = λ n z ne.
      let off : w.body.method ≢ n = λ e. ne (sym e ∙ number_is) in
      ap (λ (t : Bool). twin_method old code z (if t then Some w else work_of n works)) (ne_eqb w.body.method n off) in
      one_changed (with (w ∷ works)) (with works) 0 number number methods m new (omega arith) at (here ∙ sym left) others

  no_method : (methods : List Member) → twin_methods old code [] methods ≡ methods
  no_method methods = unchanged 0 methods

coded_after : (pool : PoolValue) (number : ℕ) (m : Member) (methods : List Member) (ready : List PlannedBody) → AreLater number ready
    → AreCoded pool methods ready → AreCoded pool (set methods number m) ready
coded_after pool number m methods [] later coded = tt
coded_after pool number m methods (q ∷ ready) later coded =
    let less = later.0 in
    let ne : number ≢ (method_of q) = omega (arith, less) in
    let one = coded.0 in (
      record { method = one.method; at = other_kept methods number (method_of q) m ne ∙ one.at; one = one.one; named = one.named },
      coded.1,
      coded_after pool number m methods ready later.1 coded.2,
    )

-- the frames of the next work, and those behind them
frames_split : (constants : ProbeConstants) (others : Names) (array : ℕ) (works : List BodyWithStates) (n : ℕ) (w : BodyWithStates) → drop n works ≡ w ∷ drop (n + 1) works
    → all_frames others constants array (drop n works) ≡ written_frames others (emitted_of constants array w) ++ all_frames others constants array (drop (n + 1) works)
frames_split constants others array works n w split =
    ap (λ (l : List BodyWithStates). all_frames others constants array l) split
    ∙ flat_map-cons (λ v. written_frames others (emitted_of constants array v)) w (drop (n + 1) works)

-- ---- the methods so far

module _ (first : Names) (constants : ProbeConstants) (source : Option ClassFile) (old : PoolValue) (places : CodePlaces) (ready : List PlannedBody) (methods : List Member) where
  -- whatever is put of the works that are left completes all of them
  pub record ArePutting (others : Names) (array : ℕ) (works : List BodyWithStates) (n : ℕ) (pool : PoolValue) (now : List Member) : Type 0 where
    pub taking : FramesTaking constants.fetch old (all_frames others constants array works) places.frames pool (all_frames others constants array (drop n works))
    pub rest : (grown : PoolValue) → KeepsClasses pool grown → Extends pool grown → (frames : ℕ)
        → AllByRecursion (λ w. IsNameAt constants.fetch grown (written_frames others (emitted_of constants array w)) places.frames frames) works
        → AreAllNamed grown constants array works places
        → twin_methods old (code_over grown places frames others constants array) works methods
        ≡ twin_methods old (code_over grown places frames others constants array) (drop n works) now

  pub record IsPutting (n : ℕ) (names : Names) (pool : PoolValue) (now : List Member) : Type 0 where
    pub grows : Grows first names
    pub extends : Extends old pool
    pub coded : AreCoded old now (drop n ready)
    pub put : (others : Names) (array : ℕ) (works : List BodyWithStates) → ArePlannedWorks first others constants array source ready works
        → ArePutting others array works n pool now

  pub putting_begun : (now : List Member) → now ≡ methods → AreCoded old methods ready → IsPutting 0 first old now
  putting_begun now is coded = record {
    grows = grows_none first;
    extends = same_extends old old refl;
    coded = subst (λ (l : List Member). AreCoded old l ready) (sym is) coded;
    put = λ others array works of. record {
      taking = frames_begun constants.fetch old (all_frames others constants array works) places.frames;
      rest = λ grown keeps more frames names named. ap (twin_methods old (code_over grown places frames others constants array) works) (sym is);
    };
  }

  module _ (n : ℕ) (names : Names) (pool : PoolValue) (now : List Member) (r : PlannedBody) (less : n < length ready) (is : r ≡ get_or ready n r)
      (all : AreReadyFrom first constants source ready) (so : IsPutting n names pool now) where
    split : drop n ready ≡ r ∷ drop (n + 1) ready
    split = drop_is ready n r less is

    pub next_first : IsReadyFrom first constants source r
    next_first = all_at (IsReadyFrom first constants source) ready n r all (slice_get_read ready (length ready) n r refl less is)

    pub next_ready : IsReadyFrom names constants source r
    next_ready = ready_from_grown constants first names so.grows source r next_first

    coded_now : AreCoded old now (r ∷ drop (n + 1) ready)
    coded_now = subst (AreCoded old now) split so.coded

    abbrev here : IsCoded old now (method_of r)
    here = coded_now.0

    module _ (number : ℕ) (number_is : number ≡ method_of r) where
      pub number_within : number < length now
      number_within = let within = slice_get_within now (method_of r) here.method here.at in omega (arith, within, number_is)

      at_number : (x : Member) → x ≡ get_or now number x → x ≡ here.method
      at_number x read = read ∙ ap (λ k. get_or now k x) number_is ∙ get_or_from_slice_get now (method_of r) here.method x here.at

      module _ (next : PoolValue) (extends : Extends pool next) where
        abbrev grown_so_far : Extends old next
        grown_so_far = extends_more old pool next so.extends extends

        pub one_code : (x : Member) → x ≡ get_or now number x → HasOneCode next x
        one_code x read = subst (HasOneCode next) (sym (at_number x read)) (record {
          bytes = here.one.bytes;
          single = same_code old next grown_so_far here.method here.named ∙ here.one.single;
        })

        module _ (more : Names) (grows : Grows names more) (text : List ℕ) (x new : Member) (read : x ≡ get_or now number x)
            (new_is : new ≡ record x { attributes = map (with_code next text) x.attributes })
            (written : (others : Names) (array : ℕ) (w : BodyWithStates) → IsPlannedWork names others constants array source r w
            → IsWrittenWork pool constants places others array w next text) where
          put_is : new ≡ record (here.method) { attributes = map (with_code old text) here.method.attributes }
          put_is =
              new_is
              ∙ (λ k. record (at_number x read k) { attributes = map (with_code next text) (at_number x read k).attributes })
              ∙ ap (λ (l : List Attribute). record (here.method) { attributes = l })
              (same_attributes old next grown_so_far text here.method.attributes here.named)

          module _ (others : Names) (array : ℕ) (works : List BodyWithStates) (of : ArePlannedWorks first others constants array source ready works) where
            abbrev before : ArePutting others array works n pool now
            before = so.put others array works of

            abbrev belongs : IsNextOf (IsPlannedWork first others constants array source) works n r
            belongs = next_of (IsPlannedWork first others constants array source) ready works n r of less is

            abbrev w : BodyWithStates
            w = belongs.item

            abbrev left : List BodyWithStates
            left = drop (n + 1) works

            works_split : drop n works ≡ w ∷ left
            works_split = rw add-one belongs.split

            one : IsWrittenWork pool constants places others array w next text
            one = written others array w (planned_work_on constants first names so.grows others array source r w belongs.holds)

            abbrev e : Emitted
            e = emitted_of constants array w

            left_split : all_frames others constants array (drop n works) ≡ written_frames others e ++ all_frames others constants array left
            left_split = frames_split constants others array works n w works_split

            method_is : w.body.method ≡ number
            method_is = sym (planned_method first constants w.body w.first r belongs.holds.planned) ∙ sym number_is

            not_left : work_of number left ≡ None
            not_left =
                none_later constants others array source first number (drop (n + 1) ready) left (subst (λ k. AreLater k (drop (n + 1) ready)) (sym number_is) coded_now.1)
                (zip_dropped (IsPlannedWork first others constants array source) (n + 1) ready works of)

            at_there : slice_get now number ≡ Some here.method
            at_there = ap (slice_get now) number_is ∙ here.at

            -- with the name of the attribute at the place that all have
            text_so : (grown : PoolValue) → KeepsClasses next grown → Extends next grown → (frames : ℕ) → IsNameAt constants.fetch grown (written_frames others e) places.frames frames
                → AreNamed grown e places → text ≡ code_over grown places frames others constants array w
            text_so grown keeps more frames name named =
                one.text_is grown keeps named
                ∙ ⊎_elim (λ same. ap (λ (f : ℕ). code_over grown places f others constants array w) same)
                (λ none. without_frames grown constants.fetch places.giver places.array one.frames frames others e none)
                (one_name constants.fetch grown (written_frames others e) places.frames one.frames frames
                (name_stays constants.fetch pool next grown (written_frames others e) places.frames one.frames one.takes more) name)

            rest_on : (grown : PoolValue) → KeepsClasses next grown → Extends next grown → (frames : ℕ)
                → AllByRecursion (λ v. IsNameAt constants.fetch grown (written_frames others (emitted_of constants array v)) places.frames frames) works
                → AreAllNamed grown constants array works places
                → twin_methods old (code_over grown places frames others constants array) works methods
                ≡ twin_methods old (code_over grown places frames others constants array) left (set now number new)
            rest_on grown keeps more frames names named =
                let code = code_over grown places frames others constants array in
                let text_is = text_so grown keeps more frames
                (all_at (λ (v : BodyWithStates). IsNameAt constants.fetch grown (written_frames others (emitted_of constants array v)) places.frames frames) works n w names
                belongs.stands)
                (all_at (λ (v : BodyWithStates). AreNamed grown (emitted_of constants array v) places) works n w named belongs.stands) in
                let taken = written_frames others e in
                before.rest grown (λ name place first. keeps name place (frames_keep constants.fetch pool next taken places.frames one.frames one.takes name place first))
                (extends_more pool next grown (frames_extend constants.fetch pool next taken places.frames one.frames one.takes) more) frames names named
                ∙ ap (λ (l : List BodyWithStates). twin_methods old code l now) works_split
                ∙ one_method old code w left number now here.method method_is at_there not_left
                ∙ ap (λ (m : Member). twin_methods old code left (set now number m))
                (ap (λ (t : List ℕ). record (here.method) { attributes = map (with_code old t) here.method.attributes }) (sym text_is) ∙ sym put_is)

            put_on : ArePutting others array works (n + 1) next (set now number new)
            put_on = record {
              taking = frames_more constants.fetch old pool next (all_frames others constants array works) (written_frames others e) (all_frames others constants array left)
                  (all_frames others constants array (drop n works)) places.frames one.frames left_split one.takes before.taking;
              rest = rest_on;
            }

          pub putting_on : IsPutting (n + 1) more next (set now number new)
          putting_on = record {
            grows = grows_both first names more so.grows grows;
            extends = grown_so_far;
            coded = subst (λ k. AreCoded old (set now k new) (drop (n + 1) ready)) (sym number_is)
                (coded_after old (method_of r) new now (drop (n + 1) ready) coded_now.1 coded_now.2);
            put = put_on;
          }

    pub putting_refused : (others : Names) (array : ℕ) (works : List BodyWithStates) → ArePlannedWorks first others constants array source ready works → (fail : Fail PoolFull)
        → ((w : BodyWithStates) → IsPlannedWork names others constants array source r w → RefusesWork pool constants others array w fail)
        → RefusesWorks old constants others array works fail
    putting_refused others array works of fail refused =
        let belongs = next_of (IsPlannedWork first others constants array source) ready works n r of less is in
        let w = belongs.item in
        let works_split : drop n works ≡ w ∷ drop (n + 1) works = rw add-one belongs.split in
        frames_here constants.fetch old pool (all_frames others constants array works) (written_frames others (emitted_of constants array w))
        (all_frames others constants array (drop (n + 1) works)) (all_frames others constants array (drop n works)) places.frames fail
        (frames_split constants others array works n w works_split) (refused w (planned_work_on constants first names so.grows others array source r w belongs.holds))
        (so.put others array works of).taking

  pub all_put : (n : ℕ) (names : Names) (pool : PoolValue) (now : List Member) → length ready ≤ n → IsPutting n names pool now
      → (others : Names) (array : ℕ) (works : List BodyWithStates) → ArePlannedWorks first others constants array source ready works
      → ArePut old places others constants array works methods pool now
  all_put n names pool now end so others array works of =
      let p = so.put others array works of in
      let all = all_frames others constants array works in
      let count = AllZip-long (IsPlannedWork first others constants array source) ready works of in
      let none : drop n works ≡ [] = drop_of_length-le works (omega (arith, count, end)) in
      let taken = frames_all constants.fetch old pool all (all_frames others constants array (drop n works)) places.frames
      (ap (λ (l : List BodyWithStates). all_frames others constants array l) none) p.taking in
      let still = same_extends pool pool refl in
      let names = name_each others constants array constants.fetch pool places.frames taken.0 works
      (name_stays constants.fetch old pool pool all places.frames taken.0 taken.1 still) in
      record {
        frames = taken.0;
        takes = taken.1;
        methods_are = λ named.
            sym (p.rest pool (λ name place first. first) still taken.0 names named
            ∙ ap (λ (l : List BodyWithStates). twin_methods old (code_over pool places taken.0 others constants array) l now) none
            ∙ no_method old (code_over pool places taken.0 others constants array) now);
      }
