-- Bodies that were looked at and have room for their probes: one more, and under more names.
use Rattle.std.proofs.Common.{◌≡◌, ◌⊎◌, inl, inr, ℕ, ◌+◌, ◌<◌, ◌≤◌, List, [], ◌∷◌, ◌++◌, length, Option, Some, None, slice_get, refl, sym, ◌∙◌, ap, subst, arith, length-append}
use Rattle.std.specs.List.{sum_by}
use Rattle.std.proofs.lemmas.List.{take-append-le, take_all}
use Rattle.std.proofs.lemmas.List.Sums.{sum_by_push}
use Rattle.std.proofs.lemmas.Option.{none-some, slice_get_within}
use Rattle.jc_methods.specs.ProbeMembers.{most_probes}
use Rattle.jc_methods.specs.VerificationTypes.{AreNumberedFrames, Grows, Names}
use Rattle.jc_methods.specs.WellMade.{IsWellMade}
use Rattle.jc_methods.specs.declared.body.Body.{Body}
use Rattle.jc_methods.specs.declared.kind.State.{State}
use Rattle.jc_methods.specs.declared.plan.Plan.{Plan}
use Rattle.jc_methods.proofs.NumberedLaws.{frames_numbered, grown_count}
use Rattle.jc_bytes.proofs.ListLaws.{put_cases, put_last, put_stays}
use Rattle.jc_kinds.specs.Answers.{AreStates}
use Rattle.jc_emit.specs.Refusing.{IsTaken}
use Rattle.jc_plan.specs.Analysed.{all_probes}
use Rattle.jc_plan.specs.Plan.{plan_of}
use Rattle.jc_plan.specs.Probed.{first_id, probe_count}
use Rattle.jc_instrument.specs.KeptStates.{looked_places, places_kept}
use Rattle.jc_instrument.specs.Looked.{AreLookedBodies, HasRoomFrom, IsKeptBody, IsLookedAt, IsLookedBody}
use Rattle.jc_instrument.specs.Looking.{PutsLooked}
use Rattle.jc_instrument.specs.declared.looked.LookedBody.{LookedBody}
use Rattle.jc_instrument.specs.declared.looked.LookedBody.TheVariants.{Kept, Unread}
use Rattle.jc_instrument.proofs.KeptStatesLaws.{states_grown}

-- ---- ids, once one more body stands last

module _ (bodies : List Body) (b : Body) where
  pub first_put : (i : ℕ) → i ≤ length bodies → first_id (bodies ++ b ∷ []) i ≡ first_id bodies i
  first_put i few = ap (sum_by probe_count) (take-append-le i bodies (b ∷ []) few)

  pub first_last : first_id (bodies ++ b ∷ []) (length bodies) ≡ all_probes bodies
  first_last = first_put (length bodies) (omega arith) ∙ ap (sum_by probe_count) (take_all (length bodies) bodies (omega arith))

  one_longer : length (bodies ++ b ∷ []) ≡ length bodies + 1
  one_longer = length-append bodies (b ∷ [])

-- ---- what was looked at, once one more body stands last

module _ (names : Names) (bodies : List Body) (b : Body) where
  looked_at : (i : ℕ) (p : LookedBody) → IsLookedAt names bodies i p → IsLookedAt names (bodies ++ b ∷ []) i p
  looked_at i p so =
      let within = slice_get_within bodies i so.body so.stands in
      record {
        body = so.body;
        stands = put_stays bodies b so.body i so.stands;
        is = subst (λ (first : ℕ). IsLookedBody names so.body first p) (sym (first_put bodies b i (omega (arith, within)))) so.is;
      }

  pub looked_put : (first : ℕ) (old new : List LookedBody) → first ≡ all_probes bodies → AreLookedBodies names bodies old
      → PutsLooked names b first old new → AreLookedBodies names (bodies ++ b ∷ []) new
  looked_put first old new first_is so puts = subst (AreLookedBodies names (bodies ++ b ∷ [])) (sym puts.put) (record {
    count = length-append old (puts.looked ∷ []) ∙ ap (λ (k : ℕ). k + 1) so.count ∙ sym (one_longer bodies b);
    each = λ i p stands. each i p (put_cases old puts.looked p i stands);
  })
    where
      each : (i : ℕ) (p : LookedBody) → (slice_get old i ≡ Some p) ⊎ ((i ≡ length old) × (puts.looked ≡ p)) → IsLookedAt names (bodies ++ b ∷ []) i p
      each i p (inl there) = looked_at i p (so.each i p there)
      each i p (inr last) = record {
        body = b;
        stands = ap (slice_get (bodies ++ b ∷ [])) (last.0 ∙ so.count) ∙ put_last bodies b;
        is = subst (IsLookedBody names b (first_id (bodies ++ b ∷ []) i)) last.1
            (subst (λ (k : ℕ). IsLookedBody names b k puts.looked)
            (first_is ∙ sym (first_last bodies b) ∙ ap (first_id (bodies ++ b ∷ [])) (sym (last.0 ∙ so.count))) puts.is);
      }

pub none_looked_at : (names : Names) → AreLookedBodies names [] []
none_looked_at names = record { count = refl; each = λ i p at. absurd (none-some p at) }

-- ---- more names

pub looked_body_grown : (old new : Names) → Grows old new → (b : Body) (first : ℕ) (p : LookedBody) → IsLookedBody old b first p → IsLookedBody new b first p
looked_body_grown old new grows b first (Kept k) is = (
  is.0,
  record {
    body = is.1.body;
    plan = is.1.plan;
    states = states_grown old new b k.states grows is.1.numbered is.1.states;
    numbered = frames_numbered (length old) (length new) b.frames (grown_count old new grows) is.1.numbered;
  },
)
looked_body_grown old new grows b first (Unread u) is = is

pub looked_bodies_grown : (old new : Names) → Grows old new → (bodies : List Body) (looked : List LookedBody) → AreLookedBodies old bodies looked → AreLookedBodies new bodies looked
looked_bodies_grown old new grows bodies looked so = record {
  count = so.count;
  each = λ i p stands.
      let one = so.each i p stands in
      record { body = one.body; stands = one.stands; is = looked_body_grown old new grows one.body (first_id bodies i) p one.is };
}

-- ---- one body

module _ (names : Names) (b : Body) (plan : Plan) (first : ℕ) (plan_is : plan ≡ plan_of b first) (made : IsWellMade b) (few : plan.next ≤ most_probes) (taken : IsTaken b)
    (rows : length b.handlers ≤ 65535) (old new : List LookedBody) where
  has_room : HasRoomFrom b first
  has_room = record { made = made; taken = taken; rows = rows; next = subst (λ (p : Plan). p.next ≤ most_probes) plan_is few }

  pub puts_kept : (states : List State) → AreNumberedFrames (length names) b.frames → AreStates names b states
      → new ≡ old ++ Kept (record { body = b; plan = plan; states = states }) ∷ [] → PutsLooked names b first old new
  puts_kept states numbered are put = record {
    looked = Kept (record { body = b; plan = plan; states = states });
    put = put;
    is = (has_room, record { body = refl; plan = plan_is; states = are; numbered = numbered });
  }

  pub puts_unread : new ≡ old ++ Unread (record { method = b.method; first = first }) ∷ [] → PutsLooked names b first old new
  puts_unread put = record { looked = Unread (record { method = b.method; first = first }); put = put; is = (has_room, refl, refl) }

-- the places of one more
pub places_put : (old new : List LookedBody) (p : LookedBody) → new ≡ old ++ p ∷ [] → places_kept new ≡ places_kept old + looked_places p
places_put old new p put = ap places_kept put ∙ sum_by_push looked_places old p
