-- The kind check of the bodies of a class, one after the other: the first refusals of the bodies so far.
use Rattle.std.proofs.Common.{◌≡◌, ◌⊎◌, inl, inr, ℕ, zero, suc, ◌+◌, ◌<◌, ◌≤◌, List, [], ◌∷◌, ◌++◌, length, get_or, take, Option, Some, None, slice_get, refl, sym, ◌∙◌, ap, subst, arith}
use Rattle.std.specs.Prelude.{All, unwrap_or}
use Rattle.std.proofs.lemmas.List.{take_more}
use Rattle.std.proofs.lemmas.Option.{get_or_from_slice_get, none-some, same_Some, slice_get-get_or, slice_get_within}
use Rattle.jc_methods.specs.VerificationTypes.{Names, AreNumberedFrames, Grows}
use Rattle.jc_methods.specs.declared.body.Body.{Body}
use Rattle.jc_methods.proofs.NumberedLaws.{grown_count, frames_numbered}
use Rattle.jc_bytes.specs.declared.refusal.Refusal.{Refusal}
use Rattle.jc_bytes.specs.declared.refusal.RefusalKind.{RefusalKind}
use Rattle.jc_bytes.specs.declared.refusal.RefusalKind.TheVariants as kinds
use Rattle.jc_bytes.proofs.ListLaws.{below_or_last, put_cases, put_last, put_stays}
use Rattle.jc_kinds.specs.Answers.{IsKindReason, IsKindRefusal}
use Rattle.jc_kinds.specs.Checked.{Checked, FirstMissing, FirstClash}
use Rattle.jc_kinds.proofs.CheckLaws.{checked_not_missing, checked_not_clash}
use Rattle.jc_instrument.specs.Causes.{of_method}
use Rattle.jc_instrument.specs.Found.{AreFramesFine, ChecksOn, FramesSoFar, first_of, noted}
use Rattle.jc_instrument.specs.Steps.{HasStates, InBodies, IsFrameRefusal}
use Rattle.jc_instrument.specs.declared.found.FrameRefusals.{FrameRefusals}
use Rattle.jc_instrument.proofs.FrameCauseLaws.{each_at}
use Rattle.jc_instrument.proofs.KeptStatesLaws.{states_grown}
use Rattle.jc_instrument_reread.proofs.SameBodyLaws.{AreSame, turned, grown_same, same_clash, same_check}

pub some_is_none : {X : Type 0} (x : X) → Some x ≡ None → ⊥
some_is_none x e = cc

-- ---- the first of which a fact holds, once one more body stands last

module _ (kind : RefusalKind) (Fact : Body → ℕ → Type 0) (bodies : List Body) (b : Body) where
  -- it stays
  pub first_stays : (r : Refusal) → InBodies kind Fact bodies r → InBodies kind Fact (bodies ++ b ∷ []) r
  first_stays r f = record {
    index = f.index;
    place = f.place;
    body = f.body;
    stands = put_stays bodies b f.body f.index f.stands;
    refusal = f.refusal;
    holds = f.holds;
    none_before = λ before at other less stands fact. earlier before at other less fact (put_cases bodies b other before stands);
  }
    where
      earlier : (before at : ℕ) (other : Body) → before < f.index → Fact other at
          → (slice_get bodies before ≡ Some other) ⊎ ((before ≡ length bodies) × (b ≡ other)) → ⊥
      earlier before at other less fact (inl there) = f.none_before before at other less there fact
      earlier before at other less fact (inr last) =
          let within = slice_get_within bodies f.index f.body f.stands in
          let end = last.0 in
          omega (arith, less, within, end)

  module _ (none : (i place : ℕ) (x : Body) → slice_get bodies i ≡ Some x → Fact x place → ⊥) where
    -- it holds of none of them, and not of the last
    pub none_on : ((place : ℕ) → Fact b place → ⊥) → (i place : ℕ) (x : Body) → slice_get (bodies ++ b ∷ []) i ≡ Some x → Fact x place → ⊥
    none_on here i place x stands fact = by (put_cases bodies b x i stands)
      where
        by : (slice_get bodies i ≡ Some x) ⊎ ((i ≡ length bodies) × (b ≡ x)) → ⊥
        by (inl there) = none i place x there fact
        by (inr last) = here place (subst (λ (y : Body). Fact y place) (sym last.1) fact)

    -- the last is the first
    pub last_first : (r : Refusal) (place : ℕ) → r ≡ of_method kind b.method place → Fact b place → InBodies kind Fact (bodies ++ b ∷ []) r
    last_first r place is holds = record {
      index = length bodies;
      place = place;
      body = b;
      stands = put_last bodies b;
      refusal = is;
      holds = holds;
      none_before = λ before at other less stands fact. earlier before at other less fact (put_cases bodies b other before stands);
    }
      where
        earlier : (before at : ℕ) (other : Body) → before < length bodies → Fact other at
            → (slice_get bodies before ≡ Some other) ⊎ ((before ≡ length bodies) × (b ≡ other)) → ⊥
        earlier before at other less fact (inl there) = none before at other there fact
        earlier before at other less fact (inr last) = let end = last.0 in omega (arith, less, end)

-- ---- the kind check, once one more body stands last

module _ (names : Names) (bodies : List Body) (b : Body) where
  not_missing : (place : ℕ) → FirstClash names b place → (at : ℕ) → FirstMissing b at → ⊥
  not_missing place clash at missing = clash.0 at missing.there

  none_missing : ((i : ℕ) (x : Body) → slice_get bodies i ≡ Some x → Checked names x) → (i place : ℕ) (x : Body) → slice_get bodies i ≡ Some x
      → FirstMissing x place → ⊥
  none_missing all i place x at missing = checked_not_missing names x place (all i x at) missing

  none_clashes : ((i : ℕ) (x : Body) → slice_get bodies i ≡ Some x → Checked names x) → (i place : ℕ) (x : Body) → slice_get bodies i ≡ Some x
      → FirstClash names x place → ⊥
  none_clashes all i place x at clash = checked_not_clash names x place (all i x at) clash

  pub frames_pass : (missing clash : Option Refusal) → FramesSoFar names bodies missing clash → Checked names b
      → FramesSoFar names (bodies ++ b ∷ []) missing clash
  frames_pass (Some r) clash found checked = first_stays kinds.FrameMissing FirstMissing bodies b r found
  frames_pass None (Some r) found checked = (
    none_on kinds.FrameMissing FirstMissing bodies b found.0 (λ place f. checked_not_missing names b place checked f),
    first_stays kinds.FrameClash (FirstClash names) bodies b r found.1,
  )
  frames_pass None None all checked = λ i x stands. by i x (put_cases bodies b x i stands)
    where
      by : (i : ℕ) (x : Body) → (slice_get bodies i ≡ Some x) ⊎ ((i ≡ length bodies) × (b ≡ x)) → Checked names x
      by i x (inl there) = all i x there
      by i x (inr last) = subst (Checked names) last.1 checked

  missing_noted : (missing clash : Option Refusal) (r : Refusal) → FramesSoFar names bodies missing clash → r ≡ of_method kinds.FrameMissing b.method r.place
      → FirstMissing b r.place → InBodies kinds.FrameMissing FirstMissing (bodies ++ b ∷ []) (unwrap_or missing r)
  missing_noted (Some s) clash r found is here = first_stays kinds.FrameMissing FirstMissing bodies b s found
  missing_noted None (Some s) r found is here = last_first kinds.FrameMissing FirstMissing bodies b found.0 r r.place is here
  missing_noted None None r all is here = last_first kinds.FrameMissing FirstMissing bodies b (none_missing all) r r.place is here

  clash_noted : (missing clash : Option Refusal) (r : Refusal) → FramesSoFar names bodies missing clash → r ≡ of_method kinds.FrameClash b.method r.place
      → FirstClash names b r.place → FramesSoFar names (bodies ++ b ∷ []) missing (Some (unwrap_or clash r))
  clash_noted (Some s) clash r found is here = first_stays kinds.FrameMissing FirstMissing bodies b s found
  clash_noted None (Some s) r found is here = (
    none_on kinds.FrameMissing FirstMissing bodies b found.0 (not_missing r.place here),
    first_stays kinds.FrameClash (FirstClash names) bodies b s found.1,
  )
  clash_noted None None r all is here = (
    none_on kinds.FrameMissing FirstMissing bodies b (none_missing all) (not_missing r.place here),
    last_first kinds.FrameClash (FirstClash names) bodies b (none_clashes all) r r.place is here,
  )

  pub frames_refused : (first : FrameRefusals) (r : Refusal) → FramesSoFar names bodies first.missing first.clash → IsKindRefusal names b r
      → FramesSoFar names (bodies ++ b ∷ []) (noted r.kind r first).missing (noted r.kind r first).clash
  frames_refused first r found refused = by r.kind refl refused.reason
    where
      is : (kind : RefusalKind) → r.kind ≡ kind → r ≡ of_method kind b.method r.place
      is kind same = λ i. record { kind = same i; method = refused.method_is i; place = r.place }

      by : (kind : RefusalKind) → r.kind ≡ kind → IsKindReason names b kind r.place
          → FramesSoFar names (bodies ++ b ∷ []) (noted kind r first).missing (noted kind r first).clash
      by kinds.FrameMissing same missing = missing_noted first.missing first.clash r found (is kinds.FrameMissing same) missing
      by kinds.FrameClash same clash = clash_noted first.missing first.clash r found (is kinds.FrameClash same) clash
      by kind same reason = absurd reason

  -- behind a missing frame nothing more is asked
  pub missing_kept : (r : Refusal) (missing clash : Option Refusal) → missing ≡ Some r → FramesSoFar names bodies missing clash
      → FramesSoFar names (bodies ++ b ∷ []) missing clash
  missing_kept r (Some q) clash is found = first_stays kinds.FrameMissing FirstMissing bodies b q found
  missing_kept r None clash is found = absurd (some_is_none r (sym is))

  pub checked_on : (old new : FrameRefusals) → FramesSoFar names bodies old.missing old.clash → ChecksOn names b old new
      → FramesSoFar names (bodies ++ b ∷ []) new.missing new.clash
  checked_on old new found (inl behind) =
      subst (λ (f : FrameRefusals). FramesSoFar names (bodies ++ b ∷ []) f.missing f.clash) (sym behind.2)
      (missing_kept behind.0 old.missing old.clash behind.1 found)
  checked_on old new found (inr (inl passes)) =
      subst (λ (f : FrameRefusals). FramesSoFar names (bodies ++ b ∷ []) f.missing f.clash) (sym passes.1)
      (frames_pass old.missing old.clash found passes.0)
  checked_on old new found (inr (inr refused)) =
      subst (λ (f : FrameRefusals). FramesSoFar names (bodies ++ b ∷ []) f.missing f.clash) (sym refused.2)
      (frames_refused old refused.0 found refused.1)

pub not_fine : (kind : RefusalKind) (r : Refusal) (first : FrameRefusals) → AreFramesFine (noted kind r first) → ⊥
not_fine kinds.FrameMissing r first fine = some_is_none (unwrap_or first.missing r) fine.0
not_fine kind r first fine = some_is_none (unwrap_or first.clash r) fine.1

-- where nothing is refused, nothing was
pub fine_before : (names : Names) (b : Body) (old new : FrameRefusals) → ChecksOn names b old new → AreFramesFine new → AreFramesFine old
fine_before names b old new (inl behind) fine = subst AreFramesFine behind.2 fine
fine_before names b old new (inr (inl passes)) fine = subst AreFramesFine passes.1 fine
fine_before names b old new (inr (inr refused)) fine = absurd (not_fine refused.0.kind refused.0 old (subst AreFramesFine refused.2 fine))

-- ---- more names

module _ (old new : Names) (grows : Grows old new) (bodies : List Body)
    (numbered : (i : ℕ) (x : Body) → slice_get bodies i ≡ Some x → AreNumberedFrames (length old) x.frames) where
  same_at : (i : ℕ) (x : Body) → slice_get bodies i ≡ Some x → AreSame old new x x
  same_at i x at = grown_same old new x grows (numbered i x at)

  pub frames_grown : (missing clash : Option Refusal) → FramesSoFar old bodies missing clash → FramesSoFar new bodies missing clash
  frames_grown (Some r) clash found = found
  frames_grown None (Some r) found =
      let f = found.1 in (
        found.0,
        record {
          index = f.index;
          place = f.place;
          body = f.body;
          stands = f.stands;
          refusal = f.refusal;
          holds = same_clash old new f.body f.body (same_at f.index f.body f.stands) f.place f.holds;
          none_before = λ before at other less stands clash.
              f.none_before before at other less stands
              (same_clash new old other other (turned old new other other (same_at before other stands)) at clash);
        },
      )
  frames_grown None None all = λ i x at. same_check old new x x (same_at i x at) (all i x at)

-- ---- bodies of a list, from the first on

in_front : {X : Type 0} (xs : List X) (n i : ℕ) (x : X) → slice_get (take n xs) i ≡ Some x → slice_get xs i ≡ Some x
in_front xs zero i x at = absurd (none-some x at)
in_front [] (suc n) i x at = absurd (none-some x at)
in_front (y ∷ xs) (suc n) zero x at = at
in_front (y ∷ xs) (suc n) (suc i) x at = in_front xs n i x at

module _ (first names more : Names) (bodies : List Body) (numbered : All (λ b. AreNumberedFrames (length first) b.frames) bodies)
    (since : Grows first names) (grows : Grows names more) (n : ℕ) (b : Body) (stands : slice_get bodies n ≡ Some b) where
  numbered_at : (i : ℕ) (x : Body) → slice_get (take n bodies) i ≡ Some x → AreNumberedFrames (length names) x.frames
  numbered_at i x at =
      frames_numbered _ _ x.frames (grown_count first names since)
      (each_at (λ y. AreNumberedFrames (length first) y.frames) bodies numbered i x (in_front bodies n i x at))

  one_more : take (n + 1) bodies ≡ take n bodies ++ b ∷ []
  one_more =
      take_more bodies n b (slice_get_within bodies n b stands)
      ∙ ap (λ (x : Body). take n bodies ++ x ∷ []) (get_or_from_slice_get bodies n b b stands)

  pub checks_on : (old new : FrameRefusals) → FramesSoFar names (take n bodies) old.missing old.clash → ChecksOn more b old new
      → FramesSoFar more (take (n + 1) bodies) new.missing new.clash
  checks_on old new so on =
      subst (λ (l : List Body). FramesSoFar more l new.missing new.clash) (sym one_more)
      (checked_on more (take n bodies) b old new (frames_grown names more grows (take n bodies) numbered_at old.missing old.clash so) on)

-- ---- the classes in states

-- those in the states of the first bodies have numbers
abbrev pub HaveStatesBelow : Names → List Body → ℕ → Type 0
HaveStatesBelow names bodies n = (k : ℕ) (b : Body) → k < n → slice_get bodies k ≡ Some b → HasStates names b

pub next_states : (first old new : Names) (bodies : List Body) (n : ℕ) (b : Body) → Grows first old → Grows old new
    → All (λ x. AreNumberedFrames (length first) x.frames) bodies → slice_get bodies n ≡ Some b → HasStates new b → HaveStatesBelow old bodies n
    → HaveStatesBelow new bodies (n + 1)
next_states first old new bodies n b from grows numbered at here before k x less there = by (below_or_last n k less)
  where
    in_old : AreNumberedFrames (length old) x.frames
    in_old = frames_numbered _ _ x.frames (grown_count first old from) (each_at (λ y. AreNumberedFrames (length first) y.frames) bodies numbered k x there)

    by : (k < n) ⊎ (k ≡ n) → HasStates new x
    by (inl below) = let s = before k x below there in (s.0, states_grown old new x s.0 grows in_old s.1)
    by (inr last) = subst (HasStates new) (same_Some b x (sym at ∙ ap (slice_get bodies) (sym last) ∙ there)) here

pub all_states : (names : Names) (bodies : List Body) (n : ℕ) → length bodies ≤ n → HaveStatesBelow names bodies n → All (HasStates names) bodies
all_states names bodies n most h = λ k d less. h k (get_or bodies k d) (omega (arith, most, less)) (slice_get-get_or bodies k d less)

-- ---- the end

pub frames_fine : (missing clash : Option Refusal) → first_of missing clash ≡ None → (missing ≡ None) × (clash ≡ None)
frames_fine (Some q) clash is = absurd (some_is_none q is)
frames_fine None clash is = (refl, is)

module _ (names : Names) (bodies : List Body) where
  pub frame_found : (missing clash : Option Refusal) (r : Refusal) → FramesSoFar names bodies missing clash → first_of missing clash ≡ Some r
      → IsFrameRefusal names bodies r
  frame_found (Some q) clash r found is = inl (subst (InBodies kinds.FrameMissing FirstMissing bodies) (same_Some q r is) found)
  frame_found None (Some q) r found is = inr (
    found.0,
    subst (InBodies kinds.FrameClash (FirstClash names) bodies) (same_Some q r is) found.1,
  )
  frame_found None None r all is = absurd (none-some r is)

  pub all_checked : (missing clash : Option Refusal) → first_of missing clash ≡ None → FramesSoFar names bodies missing clash
      → (i : ℕ) (b : Body) → slice_get bodies i ≡ Some b → Checked names b
  all_checked (Some q) clash is found = absurd (some_is_none q is)
  all_checked None (Some q) is found = absurd (some_is_none q is)
  all_checked None None is all = all
