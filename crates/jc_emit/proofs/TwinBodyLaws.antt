-- Each well made body has a twin.
use Rattle.std.proofs.Common.{◌≡◌, ⊎_elim, ℕ, zero, suc, ◌+◌, ◌-◌, ◌<◌, Bool, true, false, List, [], ◌∷◌, ◌++◌, length, Some, None, nat_eq, if◌then◌else◌, refl, sym, ap, ◌∙◌, subst, arith, pos}
use Rattle.std.specs.Prelude.{Contains}
use Rattle.std.proofs.lemmas.Option.{none-some}
use Rattle.std.proofs.lemmas.Bool.{cases_lt, eq-eqb, eqb-true, both_ways}
use Rattle.std.proofs.lemmas.List.Elements.{Contains-append_left, Contains-append_right}
use Rattle.jc_bytes.specs.PlainLists.{pieces}
use Rattle.jc_bytes.proofs.BooleanLaws.{none_in, which_in, first_in, later_in}
use Rattle.jc_methods.specs.ProbeMembers.{data_type, most_short}
use Rattle.jc_methods.specs.VerificationTypes.{Names}
use Rattle.jc_methods.specs.WellMade.{IsWellMadeOfAnySize, what_used}
use Rattle.jc_methods.specs.declared.kind.State.{State}
use Rattle.jc_methods.specs.declared.body.Body.{Body}
use Rattle.jc_methods.specs.declared.body.Use.{Use}
use Rattle.jc_methods.specs.declared.body.What.{What}
use Rattle.jc_methods.specs.declared.body.What.TheVariants as whats
use Rattle.jc_methods.specs.declared.probe_members.Fetch.{Fetch}
use Rattle.jc_methods.specs.declared.probe_members.Fetch.TheVariants as fetches
use Rattle.jc_plan.specs.Probed.{probe_count}
use Rattle.jc_emit.specs.Marks.{TwinPlaces}
use Rattle.jc_emit.specs.Sizes.{narrow}
use Rattle.jc_emit.specs.TwinFrames.{IsFrame, AreTwinFrames}
use Rattle.jc_emit.specs.Items.{marks_of_items, twin_items}
use Rattle.jc_emit.specs.Emission.{Emitting, frames_at, emission, HasFrameStates, IsArrayNumber}
use Rattle.jc_emit.specs.Twin.{NamesArray, NamesProbes, Twin}
use Rattle.jc_emit.specs.TwinBody.{use_at, prelude_uses, integer_uses, twin_uses, HasFreePlaces, twin_body}
use Rattle.jc_emit.proofs.WholeLaws.{code_told}
use Rattle.jc_emit.proofs.FrameLaws.{layout_told}
use Rattle.jc_emit.proofs.WideFrameLaws.{at_own, tables}

-- ---- what is used

-- what is listed stands at its place, where nothing else in front of it does
used_in : (front rest : List Use) (u : Use) → Contains front u → ((v : Use) → Contains front v → v.place ≡ u.place → v ≡ u)
    → what_used (front ++ rest) u.place ≡ Some u.what
used_in [] rest u c one = absurd (none_in u c)
used_in (v ∷ front) rest u c one = by (nat_eq v.place u.place) refl (λ later. used_in front rest u later (λ w d e. one w (later_in v front w d) e))
  where
    by : (t : Bool) → nat_eq v.place u.place ≡ t → (Contains front u → what_used (front ++ rest) u.place ≡ Some u.what)
        → (if t then Some v.what else what_used (front ++ rest) u.place) ≡ Some u.what
    by true same more = ap (λ x. Some x.what) (one v (first_in v front) (eqb-true v.place u.place same))
    by false other more =
        ⊎_elim (λ here. absurd (both_ways (nat_eq v.place u.place) other (eq-eqb v.place u.place (ap (λ x. x.place) here)))) more (which_in v front u c)

-- what stands at a place stands there behind entries for other places
kept_behind : (front rest : List Use) (place : ℕ) (what : What) → ((u : Use) → Contains front u → what_used rest u.place ≡ None)
    → what_used rest place ≡ Some what → what_used (front ++ rest) place ≡ Some what
kept_behind [] rest place what unused used = used
kept_behind (u ∷ front) rest place what unused used =
    by (nat_eq u.place place) refl (kept_behind front rest place what (λ v c. unused v (later_in u front v c)) used)
  where
    by : (t : Bool) → nat_eq u.place place ≡ t → what_used (front ++ rest) place ≡ Some what
        → (if t then Some u.what else what_used (front ++ rest) place) ≡ Some what
    by true same more = absurd (none-some _ (sym (ap (what_used rest) (sym (eqb-true u.place place same)) ∙ unused u (first_in u front)) ∙ used))
    by false other more = more

giver_listed : (fetch : Fetch) (p : TwinPlaces) (giver : What) → Contains (prelude_uses fetch p giver) (use_at p.giver giver)
giver_listed fetches.Member p giver = first_in (use_at p.giver giver) ([])
giver_listed fetches.Constant p giver = first_in (use_at p.giver giver) (use_at p.array (whats.Class data_type) ∷ [])

-- the Integer with this number among those of ids
abbrev integer_at : (integer : ℕ → ℕ) → ℕ → Use
integer_at integer k = use_at (integer (most_short + 1 + k)) (whats.Int (pos (most_short + 1 + k)))

integer_listed : (integer : ℕ → ℕ) (count k : ℕ) → k < count → Contains (integer_uses integer count) (integer_at integer k)
integer_listed integer zero k lt = absurd (omega (arith, lt))
integer_listed integer (suc n) k lt =
    ⊎_elim (λ below. Contains-append_left (integer_uses integer n) (integer_at integer n ∷ []) (integer_at integer k) (integer_listed integer n k below))
    (λ above.
    let same : n ≡ k = omega (arith, lt, above) in
    Contains-append_right (integer_uses integer n) (integer_at integer n ∷ []) (integer_at integer k)
    (subst (λ m. Contains (integer_at integer n ∷ []) (integer_at integer m)) same (first_in (integer_at integer n) ([]))))
    (cases_lt k n)

module _ (b : Body) (first : ℕ) (fetch : Fetch) (p : TwinPlaces) (giver : What) (integers : ℕ) (free : HasFreePlaces b first fetch p giver integers) where
  abbrev added : List Use
  added = twin_uses fetch p giver integers

  abbrev uses : List Use
  uses = added ++ b.uses

  added_is : (u : Use) → Contains added u → what_used uses u.place ≡ Some u.what
  added_is u c = used_in added b.uses u c (λ v d e. free.apart v u d c e)

  prelude_is : (u : Use) → Contains (prelude_uses fetch p giver) u → what_used uses u.place ≡ Some u.what
  prelude_is u c = added_is u (Contains-append_left (prelude_uses fetch p giver) (integer_uses p.integer integers) u c)

  integer_is : (id : ℕ) → most_short < id → id < first + probe_count b → what_used uses (p.integer id) ≡ Some (whats.Int (pos id))
  integer_is id long below =
      let enough = free.enough in
      let k = id - (most_short + 1) in
      let lt : k < integers = omega (arith, long, below, enough) in
      let number : most_short + 1 + k ≡ id = omega (arith, long) in
      subst (λ m. what_used uses (p.integer m) ≡ Some (whats.Int (pos m))) number
      (added_is (integer_at p.integer k)
      (Contains-append_right (prelude_uses fetch p giver) (integer_uses p.integer integers) (integer_at p.integer k) (integer_listed p.integer integers k lt)))

  keeps : (place : ℕ) (what : What) → what_used b.uses place ≡ Some what → what_used uses place ≡ Some what
  keeps place what used = kept_behind added b.uses place what free.unused used

array_is : (b : Body) (first : ℕ) (fetch : Fetch) (p : TwinPlaces) (giver : What) (integers : ℕ) → HasFreePlaces b first fetch p giver integers
    → NamesArray fetch (twin_uses fetch p giver integers ++ b.uses) p.array
array_is b first fetches.Member p giver integers free = tt
array_is b first fetches.Constant p giver integers free =
    let array = use_at p.array (whats.Class data_type) in
    prelude_is b first fetches.Constant p giver integers free array (later_in (use_at p.giver giver) (array ∷ []) array (first_in array ([])))

names_probes : (b : Body) (first : ℕ) (fetch : Fetch) (p : TwinPlaces) (giver : What) (integers : ℕ) → HasFreePlaces b first fetch p giver integers
    → NamesProbes fetch giver first (probe_count b) (twin_uses fetch p giver integers ++ b.uses) p
names_probes b first fetch p giver integers free = record {
  giver_is = prelude_is b first fetch p giver integers free (use_at p.giver giver) (giver_listed fetch p giver);
  array_is = array_is b first fetch p giver integers free;
  integers = λ id long from below. integer_is b first fetch p giver integers free id long below;
}

-- ---- the twin

module _ (b : Body) (first : ℕ) (states : List State) (given : Emitting) (places : TwinPlaces) (giver : What) (integers : ℕ) (names : Names) where
  abbrev made : Body
  made = twin_body b first states given places giver integers

  pub has_twin : IsWellMadeOfAnySize b → HasFrameStates b states → IsArrayNumber names given.array
      → HasFreePlaces b first given.fetch places giver integers
      → Twin names names states given.fetch giver first b made
  unfolding twin_body emission
  has_twin well fit named free = record {
    marks = marks_of_items (twin_items b first (narrow given.fetch));
    form = narrow given.fetch;
    fetch_is = refl;
    places = places;
    names_probes = names_probes b first given.fetch places giver integers free;
    method = record { method = refl; owner = refl; name = refl; desc = refl; flags = refl; arg_slots = refl };
    uses = keeps b first given.fetch places giver integers free;
    code = code_told b first (narrow given.fetch) places well.code;
    tables = tables b first states given names well fit named;
    frames =
        at_own b first states given names well fit named
        (λ image land lead. AreTwinFrames names names b.arg_slots image (IsFrame b first states image land lead (narrow given.fetch))
        (pieces (frames_at b first states given) (length b.code)))
        (layout_told b first states given names well.code well.frames fit named);
    max_stack = refl;
    max_locals = refl;
  }
