-- Bodies of a class that are looked at, one after the other.
use Rattle.std.proofs.Common.{◌≡◌, ◌⊎◌, inl, inr, ℕ, ◌+◌, ◌<◌, ◌≤◌, List, [], ◌∷◌, ◌++◌, length, Option, Some, None, slice_get, refl, sym, ◌∙◌, ap, subst, arith, length-append}
use Rattle.std.proofs.lemmas.List.Elements.{All-push}
use Rattle.std.proofs.lemmas.List.Sums.{sum_by_push}
use Rattle.std.proofs.lemmas.Option.{slice_get_within}
use Rattle.jc_methods.specs.VerificationTypes.{Names, AreNumberedFrames, Grows}
use Rattle.jc_methods.specs.WellMade.{IsWellMade}
use Rattle.jc_methods.specs.declared.body.Body.{Body}
use Rattle.jc_bytes.specs.declared.refusal.Refusal.{Refusal}
use Rattle.jc_bytes.specs.declared.refusal.RefusalKind.{RefusalKind}
use Rattle.jc_bytes.specs.declared.refusal.RefusalKind.TheVariants as kinds
use Rattle.jc_emit.specs.Refusing.{IsTaken}
use Rattle.jc_emit.specs.Straddling.{IsEmitReason}
use Rattle.jc_plan.specs.Probed.{probe_count}
use Rattle.jc_instrument.specs.Found.{AreFramesFine, FramesSoFar, HasRoomSoFar, KeepsLack}
use Rattle.jc_instrument.specs.Looking.{AreLookedAt, LooksAtBody, LooksOn, PassesOn, RefusedOn, RoomSoFar}
use Rattle.jc_instrument.specs.Room.{IsFirstThatLacks, LacksRoom}
use Rattle.jc_instrument.specs.declared.found.FrameRefusals.{FrameRefusals}
use Rattle.jc_instrument.specs.declared.found.RoomRefusals.{RoomRefusals}
use Rattle.jc_instrument.specs.declared.looking.Looking.{Looking}
use Rattle.jc_instrument.proofs.CheckingLaws.{first_stays, frames_grown, frames_pass, frames_refused, last_first, missing_kept, none_on, not_fine, some_is_none}
use Rattle.jc_instrument.proofs.LookedBodiesLaws.{looked_bodies_grown, looked_put}

-- ---- lacks of room, once one more body stands last

pub lack_on : (kind : RefusalKind) (bodies : List Body) (b : Body) (first new : Option Refusal) → IsFirstThatLacks kind bodies first
    → KeepsLack kind b first new → IsFirstThatLacks kind (bodies ++ b ∷ []) new
lack_on kind bodies b (Some r) new found keeps =
    subst (IsFirstThatLacks kind (bodies ++ b ∷ [])) (sym keeps) (first_stays kind (LacksRoom kind) bodies b r found)
lack_on kind bodies b None None none here = none_on kind (LacksRoom kind) bodies b none here
lack_on kind bodies b None (Some r) none here = last_first kind (LacksRoom kind) bodies b none r here.0 here.1 here.2

kept_none : (kind : RefusalKind) (b : Body) (first new : Option Refusal) → KeepsLack kind b first new → new ≡ None → first ≡ None
kept_none kind b (Some r) new keeps none = absurd (some_is_none r (sym keeps ∙ none))
kept_none kind b None new keeps none = refl

none_lacks : (kind : RefusalKind) (b : Body) (first new : Option Refusal) → KeepsLack kind b first new → new ≡ None → (place : ℕ) → LacksRoom kind b place → ⊥
none_lacks kind b (Some r) new keeps none = absurd (some_is_none r (sym keeps ∙ none))
none_lacks kind b None None keeps none = keeps
none_lacks kind b None (Some r) keeps none = absurd (some_is_none r none)

-- where no body lacks room, the last is taken
pub has_taken : (b : Body) (first new : RoomRefusals) → KeepsLack kinds.StraddlingLocal b first.straddling new.straddling
    → KeepsLack kinds.LocalsFull b first.locals new.locals → KeepsLack kinds.StackFull b first.stack new.stack → HasRoomSoFar new → IsTaken b
has_taken b first new straddling locals stack has = by
  where
    by : (kind : RefusalKind) (place : ℕ) → IsEmitReason b kind place → ⊥
    by kinds.StraddlingLocal place reason = none_lacks kinds.StraddlingLocal b first.straddling new.straddling straddling has.0 place reason
    by kinds.LocalsFull place reason = none_lacks kinds.LocalsFull b first.locals new.locals locals has.1 place (reason.1, reason.2)
    by kinds.StackFull place reason = none_lacks kinds.StackFull b first.stack new.stack stack has.2 place (reason.2, reason.3)
    by kind place reason = absurd reason

-- ---- all that is known of room, once one more body stands last

module _ (names : Names) (bodies : List Body) (b : Body) where
  room_before : (old new : Looking) → LooksOn names b old new → HasRoomSoFar new.room → HasRoomSoFar old.room
  room_before old new on has = (
    kept_none kinds.StraddlingLocal b old.room.straddling new.room.straddling on.straddling has.0,
    kept_none kinds.LocalsFull b old.room.locals new.room.locals on.locals has.1,
    kept_none kinds.StackFull b old.room.stack new.room.stack on.stack has.2,
  )

  room_on : (old new : Looking) → RoomSoFar names bodies old → LooksOn names b old new → RoomSoFar names (bodies ++ b ∷ []) new
  room_on old new so on = record {
    lacks = record {
      straddling = lack_on kinds.StraddlingLocal bodies b old.room.straddling new.room.straddling so.lacks.straddling on.straddling;
      locals = lack_on kinds.LocalsFull bodies b old.room.locals new.room.locals so.lacks.locals on.locals;
      stack = lack_on kinds.StackFull bodies b old.room.stack new.room.stack so.lacks.stack on.stack;
    };
    probes = on.probes ∙ ap (λ (n : ℕ). n + probe_count b) so.probes ∙ sym (sum_by_push probe_count bodies b);
    looked = λ has few.
        let more = on.probes in
        looked_put names bodies b old.probes old.bodies new.bodies so.probes (so.looked (room_before old new on has) (omega (arith, few, more))) (on.looked has few);
  }

-- ---- all that is known, once one more body stands last

module _ (names : Names) (bodies : List Body) (b : Body) (made : IsWellMade b) (old new : Looking) (so : AreLookedAt names bodies old) where
  passed : PassesOn names b old new → AreLookedAt names (bodies ++ b ∷ []) new
  passed on = record {
    made = All-push IsWellMade bodies b so.made made;
    frames = subst (λ (f : FrameRefusals). FramesSoFar names (bodies ++ b ∷ []) f.missing f.clash) (sym on.frames)
        (frames_pass names bodies b old.frames.missing old.frames.clash so.frames on.checked);
    room = λ fine.
        let before = subst AreFramesFine on.frames fine in
        room_on names bodies b old new (so.room before) (on.on before);
  }

  was_refused : RefusedOn names b old new → AreLookedAt names (bodies ++ b ∷ []) new
  was_refused on = record {
    made = All-push IsWellMade bodies b so.made made;
    frames = subst (λ (f : FrameRefusals). FramesSoFar names (bodies ++ b ∷ []) f.missing f.clash) (sym on.frames)
        (frames_refused names bodies b old.frames on.refusal so.frames on.is);
    room = λ fine. absurd (not_fine on.refusal.kind on.refusal old.frames (subst AreFramesFine on.frames fine));
  }

  pub body_on : LooksAtBody names b old new → AreLookedAt names (bodies ++ b ∷ []) new
  body_on (inl on) = passed on
  body_on (inr on) = was_refused on

  -- behind a missing frame nothing more is asked
  pub missing_stays : (r : Refusal) → old.frames.missing ≡ Some r → AreLookedAt names (bodies ++ b ∷ []) old
  missing_stays r is = record {
    made = All-push IsWellMade bodies b so.made made;
    frames = missing_kept names bodies b r old.frames.missing old.frames.clash is so.frames;
    room = λ fine. absurd (some_is_none r (sym is ∙ fine.0));
  }

-- ---- more names

module _ (old new : Names) (grows : Grows old new) where
  module _ (bodies : List Body) (numbered : (i : ℕ) (x : Body) → slice_get bodies i ≡ Some x → AreNumberedFrames (length old) x.frames) where
    pub looked_grown : (s : Looking) → AreLookedAt old bodies s → AreLookedAt new bodies s
    looked_grown s so = record {
      made = so.made;
      frames = frames_grown old new grows bodies numbered s.frames.missing s.frames.clash so.frames;
      room = λ fine.
          let r = so.room fine in
          record { lacks = r.lacks; probes = r.probes; looked = λ has few. looked_bodies_grown old new grows bodies s.bodies (r.looked has few) };
    }
