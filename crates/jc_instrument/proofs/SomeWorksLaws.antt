-- The bodies of a class have works, under more names.
use Rattle.std.proofs.Common.{◌≡◌, ◌⊎◌, inl, inr, ℕ, zero, suc, ◌+◌, ◌≤◌, List, [], ◌∷◌, ◌++◌, length, take, Some, slice_get, refl, sym, ◌∙◌, ap, ap₂, subst, arith}
use Rattle.std.proofs.lemmas.List.{length-map, length-take-le, map-append, take_all, take_more}
use Rattle.std.proofs.lemmas.Option.{slice_get_within, get_or_from_slice_get}
use Rattle.jc_methods.specs.VerificationTypes.{Names, AreNumberedFrames, Grows}
use Rattle.jc_methods.specs.WellMade.{IsWellMade}
use Rattle.jc_methods.specs.declared.body.Body.{Body}
use Rattle.jc_methods.proofs.MetNamesLaws.{grows_none, grows_both}
use Rattle.jc_methods.proofs.NumberedLaws.{grown_count, frames_numbered}
use Rattle.jc_bytes.proofs.ListLaws.{put_last, put_cases, item_at}
use Rattle.jc_class.specs.declared.class_file.ClassFile.{ClassFile}
use Rattle.jc_kinds.specs.Checked.{Checked}
use Rattle.jc_plan.specs.Probed.{first_id}
use Rattle.jc_emit.specs.Shift.{probe_array_class}
use Rattle.jc_instrument_reread.proofs.SameBodyLaws.{grown_same, same_check}
use Rattle.jc_instrument.specs.Bodies.{AreBodies}
use Rattle.jc_instrument.specs.Probing.{work}
use Rattle.jc_instrument.specs.BodiesWithStates.{BodyWithStates, bodies_of, IsBodyWithStates, AreBodiesWithStates}
use Rattle.jc_instrument.proofs.FrameCauseLaws.{each_at}
use Rattle.jc_instrument.proofs.ListedLaws.{grown_bodies}
use Rattle.jc_instrument.proofs.ProbingLaws.{nothing_at, work_grown}
use Rattle.jc_instrument.proofs.SomeBodiesLaws.{AllBodies}
use Rattle.jc_instrument.proofs.SomeStatesLaws.{AllStates, all_states}
use Rattle.jc_instrument.proofs.WholeLaws.{bodies_numbered}

-- works of the first n of these bodies, under more names
record SomeWorks (first : Names) (bodies : List Body) (n : ℕ) : Type 0 where
  names : Names
  grows : Grows first names
  works : List BodyWithStates
  bodies_are : bodies_of works ≡ take n bodies
  numbered : (i : ℕ) (w : BodyWithStates) → slice_get works i ≡ Some w → AreNumberedFrames (length first) w.body.frames
  each : (i : ℕ) (w : BodyWithStates) → slice_get works i ≡ Some w → IsBodyWithStates names bodies i w

module _ (first : Names) (bodies : List Body) (numbered : (i : ℕ) (b : Body) → slice_get bodies i ≡ Some b → AreNumberedFrames (length first) b.frames)
    (made : (i : ℕ) (b : Body) → slice_get bodies i ≡ Some b → IsWellMade b)
    (checked : (i : ℕ) (b : Body) → slice_get bodies i ≡ Some b → Checked first b) where
  -- one body more, with its states
  module _ (n : ℕ) (b : Body) (stands : slice_get bodies n ≡ Some b) (before : SomeWorks first bodies n) where
    still_numbered : AreNumberedFrames (length before.names) b.frames
    still_numbered = frames_numbered (length first) (length before.names) b.frames (grown_count first before.names before.grows) (numbered n b stands)

    still_checked : Checked before.names b
    still_checked = same_check first before.names b b (grown_same first before.names b before.grows (numbered n b stands)) (checked n b stands)

    module _ (next : AllStates before.names b (made n b stands) still_numbered still_checked) where
      abbrev own : BodyWithStates
      own = work b next.states (first_id bodies n)

      works_count : length before.works ≡ n
      works_count =
          let within = slice_get_within bodies n b stands in
          let size : length (take n bodies) ≡ n = length-take-le n bodies (omega (arith, within)) in
          sym (length-map before.works (λ (w : BodyWithStates). w.body)) ∙ ap (λ (l : List Body). length l) before.bodies_are ∙ size

      numbers : (i : ℕ) (w : BodyWithStates) → (slice_get before.works i ≡ Some w) ⊎ ((i ≡ length before.works) × (own ≡ w))
          → AreNumberedFrames (length first) w.body.frames
      numbers i w (inl there) = before.numbered i w there
      numbers i w (inr last) = subst (λ (x : BodyWithStates). AreNumberedFrames (length first) x.body.frames) last.1 (numbered n b stands)

      is_work : (i : ℕ) (w : BodyWithStates) → (slice_get before.works i ≡ Some w) ⊎ ((i ≡ length before.works) × (own ≡ w)) → IsBodyWithStates next.names bodies i w
      is_work i w (inl there) =
          work_grown before.names next.names bodies i w next.grows
          (frames_numbered (length first) (length before.names) w.body.frames (grown_count first before.names before.grows) (before.numbered i w there))
          (before.each i w there)
      is_work i w (inr last) = subst (IsBodyWithStates next.names bodies i) last.1 (record {
        first = ap (first_id bodies) (sym (last.0 ∙ works_count));
        states = next.are;
      })

      bodies_now : bodies_of (before.works ++ own ∷ []) ≡ take (n + 1) bodies
      bodies_now =
          let less = slice_get_within bodies n b stands in
          map-append (λ (w : BodyWithStates). w.body) before.works (own ∷ [])
          ∙ ap₂ (λ (l : List Body) (x : Body). l ++ x ∷ []) before.bodies_are (sym (get_or_from_slice_get bodies n b b stands))
          ∙ sym (take_more bodies n b less)

      with_next : SomeWorks first bodies (n + 1)
      with_next = record {
        names = next.names;
        grows = grows_both first before.names next.names before.grows next.grows;
        works = before.works ++ own ∷ [];
        bodies_are = bodies_now;
        numbered = λ i w at. numbers i w (put_cases before.works own w i at);
        each = λ i w at. is_work i w (put_cases before.works own w i at);
      }

    one_more : SomeWorks first bodies (n + 1)
    one_more = with_next (all_states before.names b (made n b stands) still_numbered still_checked)

  some_works : (n : ℕ) → n ≤ length bodies → SomeWorks first bodies n
  some_works zero inside = record {
    names = first;
    grows = grows_none first;
    works = [];
    bodies_are = refl;
    numbered = λ i w at. absurd (nothing_at i w at);
    each = λ i w at. absurd (nothing_at i w at);
  }
  some_works (suc n) inside =
      let b = item_at bodies n (omega (arith, inside)) in
      subst (SomeWorks first bodies) (let e : n + 1 ≡ suc n = omega arith in e) (one_more n b.0 b.1 (some_works n (omega (arith, inside))))

-- ---- all of them

pub record WorksUnder (first : Names) (c : ClassFile) (bodies : List Body) : Type 0 where
  pub names : Names
  pub grows : Grows first names
  pub array : ℕ
  pub works : List BodyWithStates
  pub are : AreBodiesWithStates names array c works
  pub same : bodies_of works ≡ bodies

pub works_under : (first : Names) (c : ClassFile) (bodies : List Body) → AreBodies first c bodies
    → ((i : ℕ) (b : Body) → slice_get bodies i ≡ Some b → IsWellMade b) → ((i : ℕ) (b : Body) → slice_get bodies i ≡ Some b → Checked first b)
    → WorksUnder first c bodies
works_under first c bodies bodies_are made checked =
    let some = some_works first bodies
    (λ i b at. each_at (λ (x : Body). AreNumberedFrames (length first) x.frames) bodies (bodies_numbered first c bodies bodies_are) i b at)
    made checked (length bodies) (omega arith) in
    let new = some.names ++ probe_array_class ∷ [] in
    let more : Grows some.names new = (probe_array_class ∷ [], refl) in
    let all = grows_both first some.names new some.grows more in
    let are : bodies_of some.works ≡ bodies = some.bodies_are ∙ take_all (length bodies) bodies (omega arith) in
    record {
      names = new;
      grows = all;
      array = length some.names;
      works = some.works;
      are = record {
        bodies = subst (AreBodies new c) (sym are) (grown_bodies first new c (length c.methods) bodies all bodies_are);
        array_is = get_or_from_slice_get new (length some.names) probe_array_class [] (put_last some.names probe_array_class);
        each = λ i w at. subst (λ (l : List Body). IsBodyWithStates new l i w) (sym are)
            (work_grown some.names new bodies i w more
            (frames_numbered (length first) (length some.names) w.body.frames (grown_count first some.names some.grows) (some.numbered i w at))
            (some.each i w at));
      };
      same = are;
    }

pub record AllWorks (c : ClassFile) (bodies : List Body) : Type 0 where
  pub names : Names
  pub array : ℕ
  pub works : List BodyWithStates
  pub are : AreBodiesWithStates names array c works
  pub same : bodies_of works ≡ bodies

pub all_works : (c : ClassFile) (all : AllBodies c) → AllWorks c all.bodies
all_works c all =
    let some = works_under all.names c all.bodies all.are (λ i b at. each_at IsWellMade all.bodies all.well_made i b at)
    (λ i b at. each_at (Checked all.names) all.bodies all.checked i b at) in
    record { names = some.names; array = some.array; works = some.works; are = some.are; same = some.same }
