-- The layouts of the instrumented code of bodies that were looked at.
use Rattle.std.proofs.Common.{◌≡◌, ◌⊎◌, inl, inr, ℕ, ◌+◌, ◌<◌, ◌≤◌, List, [], ◌∷◌, ◌++◌, length, get_or, Some, slice_get, refl, sym, ◌∙◌, ap, subst, arith, length-append}
use Rattle.std.proofs.lemmas.List.Sums.{sum_by-take-le}
use Rattle.std.proofs.lemmas.Option.{none-some, same_Some, slice_get_read, slice_get_within, slice_get-get_or}
use Rattle.jc_methods.specs.ProbeMembers.{most_probes, most_short}
use Rattle.jc_methods.specs.VerificationTypes.{Grows, Names}
use Rattle.jc_methods.specs.declared.body.Body.{Body}
use Rattle.jc_methods.specs.declared.plan.Plan.{Plan}
use Rattle.jc_methods.proofs.MetNamesLaws.{grows_both, grows_none}
use Rattle.jc_methods.proofs.NumberedLaws.{frames_numbered, grown_count}
use Rattle.jc_bytes.specs.declared.refusal.Refusal.{Refusal}
use Rattle.jc_bytes.proofs.ListLaws.{below_or_last, put_cases}
use Rattle.jc_class.specs.declared.class_file.ClassFile.{ClassFile}
use Rattle.jc_body.specs.BodyOf.{BodyOf}
use Rattle.jc_emit.specs.Placing.{ArePlacesFor}
use Rattle.jc_emit.specs.Refusing.{HasRoom}
use Rattle.jc_emit.specs.declared.places.Places.{Places}
use Rattle.jc_layout.specs.Layout.{chosen_length}
use Rattle.jc_layout.specs.declared.layouts.Laid.{Laid}
use Rattle.jc_plan.specs.Analysed.{all_probes}
use Rattle.jc_plan.specs.Plan.{plan_of}
use Rattle.jc_plan.specs.Probed.{first_id, probe_count}
use Rattle.jc_instrument.specs.Bodies.{AreBodies}
use Rattle.jc_instrument.specs.Constants.{probed_code}
use Rattle.jc_instrument.specs.Looked.{AreLookedBodies, HasRoomFrom, IsKeptBody, IsLookedBody}
use Rattle.jc_instrument.specs.Probing.{AreShortBelow, IsFirstTooLong, IsTooLong}
use Rattle.jc_instrument.specs.Ready.{ArePlanned, HasEnough, IsLaidFor, IsPlannedAt, IsPlannedBody, IsReady}
use Rattle.jc_instrument.specs.declared.constants.ProbeConstants.{ProbeConstants}
use Rattle.jc_instrument.specs.declared.looked.KeptBody.{KeptBody}
use Rattle.jc_instrument.specs.declared.looked.LookedBody.{LookedBody}
use Rattle.jc_instrument.specs.declared.looked.LookedBody.TheVariants.{Kept, Unread as Unkept}
use Rattle.jc_instrument.specs.declared.ready.PlannedBody.{PlannedBody}
use Rattle.jc_instrument.specs.declared.ready.PlannedBody.TheVariants.{Ready, Unread}
use Rattle.jc_instrument.specs.declared.ready.ReadyBody.{ReadyBody}
use Rattle.jc_instrument.specs.declared.ready.UnreadBody.{UnreadBody}
use Rattle.jc_instrument.proofs.KeptStatesLaws.{states_grown}
use Rattle.jc_instrument.proofs.LookedBodiesLaws.{looked_body_grown}
use Rattle.jc_instrument.proofs.OneBodyLaws.{grown_body}
use Rattle.jc_instrument.proofs.PlanningLaws.{first_more}

-- ---- one body

-- a body that was kept is ready, once it is laid out
pub kept_ready : (names : Names) (constants : ProbeConstants) (k : KeptBody) (first : ℕ) (l : Laid) (places : Places) → HasRoomFrom k.body first → k.plan ≡ plan_of k.body first
    → (other : ℕ) → IsKeptBody names k.body other k → IsLaidFor constants k.body k.plan l → ArePlacesFor k.body k.plan constants.fetch places → HasRoom k.body
    → IsReady names constants (record { body = k.body; plan = k.plan; laid = l; insn_places = places; states = k.states })
kept_ready names constants k first l places has plan other kept laid placed room = record {
  made = has.made;
  numbered = kept.numbered;
  plan = (first, plan);
  next = subst (λ (p : Plan). p.next ≤ most_probes) (sym plan) has.next;
  room = room;
  rows = has.rows;
  laid = laid;
  placed = placed;
  states = kept.states;
}

-- what is known of a body that was kept
pub kept_parts : (names : Names) (b : Body) (first : ℕ) (k : KeptBody) → IsLookedBody names b first (Kept k)
    → (k.plan ≡ plan_of k.body first) × HasRoomFrom k.body first × IsKeptBody names k.body first k
kept_parts names b first k is =
    subst (λ (x : Body). (k.plan ≡ plan_of x first) × HasRoomFrom x first × IsKeptBody names x first k) (sym is.1.body) (is.1.plan, is.0, is.1)

pub kept_enough : (names : Names) (constants : ProbeConstants) (b : Body) (first : ℕ) (k : KeptBody) → IsLookedBody names b first (Kept k)
    → HasEnough constants (plan_of b first).next → HasEnough constants k.plan.next
kept_enough names constants b first k is enough = subst (λ (p : Plan). HasEnough constants p.next) (sym is.1.plan) enough

pub kept_planned : (names : Names) (constants : ProbeConstants) (b : Body) (first : ℕ) (k : KeptBody) (r : ReadyBody) → IsLookedBody names b first (Kept k)
    → IsReady names constants r → r.body ≡ k.body → r.plan ≡ k.plan → IsPlannedBody names constants b first (Ready r)
kept_planned names constants b first k r is ready body plan = (ready, body ∙ is.1.body, plan ∙ is.1.plan)

-- of a body that was kept, what is said of its code is said of the code of the body
pub kept_said : (names : Names) (b : Body) (first : ℕ) (k : KeptBody) (Fact : Body → Type 0) → IsLookedBody names b first (Kept k) → Fact k.body → Fact b
kept_said names b first k Fact is fact = subst Fact is.1.body fact

-- of a body that isn't kept
pub unread_there : (names : Names) (c : ClassFile) (b : Body) (first : ℕ) (u : UnreadBody) → IsLookedBody names b first (Unkept u) → BodyOf names c b.method b
    → BodyOf names c u.method b
unread_there names c b first u is body = subst (λ (n : ℕ). BodyOf names c n b) (sym is.1) body

module _ (names : Names) (b : Body) (first : ℕ) (u : UnreadBody) (is : IsLookedBody names b first (Unkept u)) (read : Body) (read_is : read ≡ b) where
  -- of what was read again
  pub unread_said : (Fact : Body → ℕ → Type 0) → Fact read u.first → Fact b first
  unread_said Fact fact = subst (Fact b) is.2 (subst (λ (x : Body). Fact x u.first) read_is fact)

  pub unread_too : (Fact : Body → ℕ → Type 0) → Fact b first → Fact read u.first
  unread_too Fact fact = subst (λ (x : Body). Fact x u.first) (sym read_is) (subst (Fact b) (sym is.2) fact)

  pub unread_planned : (new : Names) (constants : ProbeConstants) → HasEnough constants (plan_of read u.first).next
      → chosen_length (probed_code constants read u.first) ≤ 65535 → IsPlannedBody new constants b first (Unread u)
  unread_planned new constants enough short = (
    is.1,
    is.2,
    record {
      room = is.0;
      enough = unread_said (λ x n. HasEnough constants (plan_of x n).next) enough;
      short = unread_said (λ x n. chosen_length (probed_code constants x n) ≤ 65535) short;
    },
  )

-- ---- the bodies so far

-- the first n bodies have their layouts, or are read again
pub record ArePlannedBelow (names : Names) (constants : ProbeConstants) (bodies : List Body) (n : ℕ) (planned : List PlannedBody) : Type 0 where
  pub count : length planned ≡ n
  pub each : (i : ℕ) (p : PlannedBody) → slice_get planned i ≡ Some p → IsPlannedAt names constants bodies i p
  pub short : AreShortBelow constants bodies n

planned_body_grown : (old new : Names) (constants : ProbeConstants) → Grows old new → (b : Body) (first : ℕ) (p : PlannedBody) → IsPlannedBody old constants b first p
    → IsPlannedBody new constants b first p
planned_body_grown old new constants grows b first (Ready r) is = (
  record {
    made = is.0.made;
    numbered = frames_numbered (length old) (length new) r.body.frames (grown_count old new grows) is.0.numbered;
    plan = is.0.plan;
    next = is.0.next;
    room = is.0.room;
    rows = is.0.rows;
    laid = is.0.laid;
    placed = is.0.placed;
    states = states_grown old new r.body r.states grows is.0.numbered is.0.states;
  },
  is.1,
  is.2,
)
planned_body_grown old new constants grows b first (Unread u) is = is

module _ (first : Names) (c : ClassFile) (constants : ProbeConstants) (looked : List LookedBody) where
  -- of all bodies of the class, whichever they are
  abbrev pub AllLaid : Names → (n : ℕ) → List PlannedBody → Type 0
  AllLaid names n planned =
      (all : List Body) → AreBodies first c all → AreLookedBodies first all looked → ArePlannedBelow names constants all n planned

  pub record IsLaying (names : Names) (n : ℕ) (planned : List PlannedBody) : Type 0 where
    pub grows : Grows first names
    pub laid : AllLaid names n planned

  pub laying_begun : (planned : List PlannedBody) → planned ≡ [] → IsLaying first 0 planned
  laying_begun planned none = record {
    grows = grows_none first;
    laid = λ all are so. record {
      count = ap (λ (l : List PlannedBody). length l) none;
      each = λ i p at. absurd (none-some p (sym (ap (λ (l : List PlannedBody). slice_get l i) none) ∙ at));
      short = λ i b less at. absurd (omega (arith, less));
    };
  }

  module _ (n : ℕ) (names : Names) (planned : List PlannedBody) (l : LookedBody) (less : n < length looked) (is : l ≡ get_or looked n l) (so : IsLaying names n planned) where
    at_n : slice_get looked n ≡ Some l
    at_n = slice_get_read looked (length looked) n l refl less is

    -- the body that it stands for
    pub record Standing (all : List Body) : Type 0 where
      pub body : Body
      pub stands : slice_get all n ≡ Some body
      pub of : BodyOf names c body.method body
      pub as_looked : IsLookedBody names body (first_id all n) l

    module _ (all : List Body) (are : AreBodies first c all) (are_looked : AreLookedBodies first all looked) where
      pub next_standing : Standing all
      next_standing =
          let one = are_looked.each n l at_n in
          record {
            body = one.body;
            stands = one.stands;
            of = grown_body first names c one.body.method one.body so.grows (are.each n one.body one.stands);
            as_looked = looked_body_grown first names so.grows one.body (first_id all n) l one.is;
          }

      pub next_enough : all_probes all ≤ most_short + 1 + length constants.integers → HasEnough constants (plan_of next_standing.body (first_id all n)).next
      next_enough enough =
          let s = next_standing in
          let within = slice_get_within all n s.body s.stands in
          let read : s.body ≡ get_or all n s.body = same_Some s.body (get_or all n s.body) (sym s.stands ∙ slice_get-get_or all n s.body within) in
          let more = first_more all n s.body within read in
          let most = sum_by-take-le probe_count all (n + 1) in
          omega (arith, enough, more, most)

      -- its code is too large
      pub next_too_long : (r : Refusal) → IsTooLong constants next_standing.body (first_id all n) r → IsFirstTooLong constants all r
      next_too_long r large = record {
        index = n;
        body = next_standing.body;
        stands = next_standing.stands;
        large = large;
        before = (so.laid all are are_looked).short;
      }

      module _ (new : Names) (grows : Grows names new) (p : PlannedBody) (planned_is : IsPlannedBody new constants next_standing.body (first_id all n) p)
          (short : chosen_length (probed_code constants next_standing.body (first_id all n)) ≤ 65535) where
        next_each : (i : ℕ) (q : PlannedBody) → (slice_get planned i ≡ Some q) ⊎ ((i ≡ length planned) × (p ≡ q)) → IsPlannedAt new constants all i q
        next_each i q (inl there) =
            let one = (so.laid all are are_looked).each i q there in
            record { body = one.body; stands = one.stands; is = planned_body_grown names new constants grows one.body (first_id all i) q one.is }
        next_each i q (inr last) =
            let here : n ≡ i = sym (last.0 ∙ (so.laid all are are_looked).count) in
            subst (λ (k : ℕ). IsPlannedAt new constants all k q) here
            (record { body = next_standing.body; stands = next_standing.stands; is = subst (IsPlannedBody new constants next_standing.body (first_id all n)) last.1 planned_is })

        next_short : (i : ℕ) (b : Body) → (i < n) ⊎ (i ≡ n) → slice_get all i ≡ Some b → chosen_length (probed_code constants b (first_id all i)) ≤ 65535
        next_short i b (inl before) at = (so.laid all are are_looked).short i b before at
        next_short i b (inr here) at =
            let same : next_standing.body ≡ b = same_Some next_standing.body b (sym next_standing.stands ∙ ap (slice_get all) (sym here) ∙ at) in
            subst (λ (k : ℕ). chosen_length (probed_code constants b (first_id all k)) ≤ 65535) (sym here)
            (subst (λ (x : Body). chosen_length (probed_code constants x (first_id all n)) ≤ 65535) same short)

        next_below : ArePlannedBelow new constants all (n + 1) (planned ++ p ∷ [])
        next_below = record {
          count = length-append planned (p ∷ []) ∙ ap (λ (k : ℕ). k + 1) (so.laid all are are_looked).count;
          each = λ i q at. next_each i q (put_cases planned p q i at);
          short = λ i b less at. next_short i b (below_or_last n i less) at;
        }

    pub laying_on : (new : Names) → Grows names new → (p : PlannedBody) (more : List PlannedBody) → more ≡ planned ++ p ∷ []
        → ((b : Body) (at : ℕ) → BodyOf names c b.method b → IsLookedBody names b at l → IsPlannedBody new constants b at p)
        → ((b : Body) (at : ℕ) → BodyOf names c b.method b → IsLookedBody names b at l → chosen_length (probed_code constants b at) ≤ 65535)
        → IsLaying new (n + 1) more
    laying_on new grows p more put is_planned is_short = record {
      grows = grows_both first names new so.grows grows;
      laid = λ all are are_looked.
          let s = next_standing all are are_looked in
          subst (ArePlannedBelow new constants all (n + 1)) (sym put)
          (next_below all are are_looked new grows p (is_planned s.body (first_id all n) s.of s.as_looked) (is_short s.body (first_id all n) s.of s.as_looked));
    }

  pub all_laid : (n : ℕ) (names : Names) (planned : List PlannedBody) → length looked ≡ n → IsLaying names n planned
      → (all : List Body) → AreBodies first c all → AreLookedBodies first all looked → ArePlanned names constants all planned
  all_laid n names planned end so all are are_looked =
      let below = so.laid all are are_looked in
      let whole : n ≡ length all = sym end ∙ are_looked.count in
      record { count = below.count ∙ whole; each = below.each; short = subst (AreShortBelow constants all) whole below.short }
