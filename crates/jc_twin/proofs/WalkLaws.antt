-- Walks of one body.
use Rattle.std.proofs.Common.{◌≡◌, ◌⊎◌, inl, inr, ⊎_elim, ℕ, suc, ◌+◌, ◌<◌, false, List, [], ◌∷◌, ◌++◌, Option, Some, None, refl, sym, ap, ◌∙◌, subst, zero-add, arith}
use Rattle.std.specs.Prelude.{slice_get, option_map, Contains}
use Rattle.std.proofs.lemmas.Bool.{true≢false}
use Rattle.std.specs.List.{flat_map}
use Rattle.std.proofs.lemmas.List.Elements.{Contains-append_right, Contains-append_cases}
use Rattle.std.proofs.lemmas.Option.{same_Some, none-some}
use Rattle.jc_methods.specs.Flow.{flow_of, targets_of}
use Rattle.jc_methods.specs.declared.insn.Insn.{Insn}
use Rattle.jc_methods.specs.declared.insn.Flow.{Flow}
use Rattle.jc_methods.specs.declared.insn.Flow.TheVariants as flows
use Rattle.jc_methods.specs.declared.body.Body.{Body}
use Rattle.jc_plan.specs.declared.branch.Branch.{Branch}
use Rattle.jc_plan.specs.Edges.{exit, branches_by, branches_of, branches}
use Rattle.jc_plan.specs.Leading.{LeadsTo}
use Rattle.jc_plan.specs.Probed.{is_probed}
use Rattle.jc_bytes.proofs.FirstSeenLaws.{contains_one}
use Rattle.jc_bytes.proofs.BooleanLaws.{none_in, which_in, first_in, later_in}
use Rattle.jc_bytes.proofs.ListLaws.{flat_cases}
use Rattle.jc_plan.proofs.ListedLaws.{lists_from}
use Rattle.jc_plan.proofs.OneWayLaws.{begins_at}
use Rattle.jc_cover.specs.Followed.{CameTo, began, caught as came_caught, led}
use Rattle.jc_twin.specs.Walks.{Walk, cut, returns, throws, takes, caught, flow_at, IsWalkFrom, EndedByReturn, NeverThrown, thrown_by, thrown_edges, taken, stood, lone_by, lone_of, lone_edges, reached}

module _ (b : Body) where
  -- ---- exit edges

  exit_by : (flow : Flow) (i : ℕ) (ts : List ℕ) → (flow ≡ flows.Returns) ⊎ (flow ≡ flows.Throws) → branches_by flow i ts ≡ exit i ∷ []
  exit_by flow i ts (inl e) = ap (λ f. branches_by f i ts) e
  exit_by flow i ts (inr e) = ap (λ f. branches_by f i ts) e

  -- the exit edge of a return or athrow is one of the body
  exit_listed : (i : ℕ) (flow : Flow) → (flow ≡ flows.Returns) ⊎ (flow ≡ flows.Throws) → flow_at b.code i ≡ Some flow → Contains (branches b.code) (exit i)
  exit_listed i flow ends e = by (slice_get b.code i) refl e
    where
      by : (o : Option Insn) → slice_get b.code i ≡ o → option_map flow_of o ≡ Some flow → Contains (branches b.code) (exit i)
      by None stands f = absurd (none-some flow f)
      by (Some insn) stands f =
          let same : flow_of insn ≡ flow = same_Some (flow_of insn) flow f in
          let z : i ≡ 0 + i = sym (zero-add i) in
          let one : branches_of i insn ≡ exit i ∷ [] = ap (λ g. branches_by g i (targets_of insn)) same ∙ exit_by flow i (targets_of insn) ends in
          lists_from branches_of 0 b.code (exit i)
          (record {
            place = i;
            item = insn;
            stands = stands;
            listed = subst (λ k. Contains (branches_of k insn) (exit i)) z
                (subst (λ l. Contains l (exit i)) (sym one) (first_in (exit i) []));
          })

  thrown_is : (i : ℕ) (y : Branch) → Contains (thrown_edges b i) y → (exit i ≡ y) × (flow_at b.code i ≡ Some flows.Throws)
  thrown_is i y c = by (flow_at b.code i) refl c
    where
      by : (o : Option Flow) → flow_at b.code i ≡ o → Contains (thrown_by o i) y → (exit i ≡ y) × (o ≡ Some flows.Throws)
      by None e c = absurd (none_in y c)
      by (Some flows.Throws) e c = (contains_one (exit i) y c, refl)
      by other e c = absurd (none_in y c)

  -- ---- edges and instructions of a walk

  -- each edge that a walk took is one of the body
  pub taken_listed : (i : ℕ) (w : Walk) (y : Branch) → IsWalkFrom b i w → Contains (taken b i w) y → Contains (branches b.code) y
  taken_listed i cut y is c = absurd (none_in y c)
  taken_listed i returns y is c = subst (Contains (branches b.code)) (contains_one (exit i) y c) (exit_listed i flows.Returns (inl refl) is)
  taken_listed i throws y is c = let t = thrown_is i y c in subst (Contains (branches b.code)) t.0 (exit_listed i flows.Throws (inr refl) t.1)
  taken_listed i (takes x to rest) y is c =
      ⊎_elim
      (λ same. subst (Contains (branches b.code)) same is.0)
      (λ later. taken_listed to rest y is.3 later)
      (which_in x (taken b to rest) y c)
  taken_listed i (caught row rest) y is c =
      ⊎_elim
      (λ here. let t = thrown_is i y here in subst (Contains (branches b.code)) t.0 (exit_listed i flows.Throws (inr refl) t.1))
      (λ later. taken_listed row.target rest y is.4 later)
      (Contains-append_cases (thrown_edges b i) (taken b row.target rest) y c)

  -- it stood where the edge begins
  pub taken_stood : (i : ℕ) (w : Walk) (y : Branch) → IsWalkFrom b i w → Contains (taken b i w) y → Contains (stood i w) y.at
  taken_stood i cut y is c = absurd (none_in y c)
  taken_stood i returns y is c = subst (Contains (i ∷ [])) (ap (λ z. z.at) (contains_one (exit i) y c)) (first_in i [])
  taken_stood i throws y is c = subst (Contains (i ∷ [])) (ap (λ z. z.at) (thrown_is i y c).0) (first_in i [])
  taken_stood i (takes x to rest) y is c =
      ⊎_elim
      (λ same. subst (Contains (i ∷ stood to rest)) (sym is.1 ∙ ap (λ z. z.at) same) (first_in i (stood to rest)))
      (λ later. later_in i (stood to rest) y.at (taken_stood to rest y is.3 later))
      (which_in x (taken b to rest) y c)
  taken_stood i (caught row rest) y is c =
      ⊎_elim
      (λ here. subst (Contains (i ∷ stood row.target rest)) (ap (λ z. z.at) (thrown_is i y here).0) (first_in i (stood row.target rest)))
      (λ later. later_in i (stood row.target rest) y.at (taken_stood row.target rest y is.4 later))
      (Contains-append_cases (thrown_edges b i) (taken b row.target rest) y c)

  lone_at : (i : ℕ) (y : Branch) → Contains (lone_edges b i) y → i ≡ y.at
  lone_at i y c = by (slice_get b.code i) c
    where
      by_flow : (insn : Insn) (flow : Flow) → Contains (lone_by flow (branches_of i insn)) y → i ≡ y.at
      by_flow insn flows.Jumps c = begins_at insn i y c
      by_flow insn flows.Returns c = begins_at insn i y c
      by_flow insn flows.Throws c = begins_at insn i y c
      by_flow insn other c = absurd (none_in y c)

      by : (o : Option Insn) → Contains (lone_of i o) y → i ≡ y.at
      by None c = absurd (none_in y c)
      by (Some insn) c = by_flow insn (flow_of insn) c

  -- a walk that reached an edge stood where it begins
  pub reached_stood : (w : Walk) (y : Branch) → IsWalkFrom b 0 w → Contains (reached b 0 w) y → Contains (stood 0 w) y.at
  reached_stood w y is c =
      ⊎_elim
      (λ took. taken_stood 0 w y is took)
      (λ lone. let f = flat_cases (lone_edges b) (stood 0 w) y lone in subst (Contains (stood 0 w)) (lone_at f.0 y f.2) f.1)
      (Contains-append_cases (taken b 0 w) (flat_map (lone_edges b) (stood 0 w)) y c)

  -- ---- what came to an instruction

  pub came_more : (P Q : Branch → Type 0) → ((x : Branch) → P x → Q x) → (t : ℕ) → CameTo b P t → CameTo b Q t
  came_more P Q more t (began e) = began e
  came_more P Q more t (came_caught row c e) = came_caught row c e
  came_more P Q more t (led x c leads p) = led x c leads (more x p)

  -- a walk that stood there began there, or came there by an edge that it took or as a handler
  arrived : (t i : ℕ) (w : Walk) → IsWalkFrom b i w → Contains (stood i w) t → (i ≡ t) ⊎ CameTo b (λ x. Contains (taken b i w) x) t
  arrived t i cut is c = inl (contains_one i t c)
  arrived t i returns is c = inl (contains_one i t c)
  arrived t i throws is c = inl (contains_one i t c)
  arrived t i (takes y to rest) is c =
      ⊎_elim
      (λ here. inl here)
      (λ later.
      ⊎_elim
      (λ there. inr (led y is.0 (is.2 ∙ ap Some there) (first_in y (taken b to rest))))
      (λ came. inr (came_more (λ x. Contains (taken b to rest) x) (λ x. Contains (y ∷ taken b to rest) x) (λ x took. later_in y (taken b to rest) x took) t came))
      (arrived t to rest is.3 later))
      (which_in i (stood to rest) t c)
  arrived t i (caught row rest) is c =
      ⊎_elim
      (λ here. inl here)
      (λ later.
      ⊎_elim
      (λ there. inr (came_caught row is.1 there))
      (λ came. inr (came_more (λ x. Contains (taken b row.target rest) x) (λ x. Contains (thrown_edges b i ++ taken b row.target rest) x)
      (λ x took. Contains-append_right (thrown_edges b i) (taken b row.target rest) x took) t came))
      (arrived t row.target rest is.4 later))
      (which_in i (stood row.target rest) t c)

  pub came_there : (t : ℕ) (w : Walk) → IsWalkFrom b 0 w → Contains (stood 0 w) t → CameTo b (λ x. Contains (taken b 0 w) x) t
  came_there t w is c = ⊎_elim (λ here. began (sym here)) (λ came. came) (arrived t 0 w is c)

  -- ---- forward, where nothing was thrown

  -- how many edges a walk takes before it returns
  abbrev pub edges_left : Walk → ℕ
  edges_left (takes x to rest) = suc (edges_left rest)
  edges_left _ = 0

  -- the walk took the edge when it had so many edges more to take
  abbrev pub TookWith : ℕ → Walk → Branch → ℕ → Type 0
  TookWith i cut y left = ⊥
  TookWith i returns y left = (exit i ≡ y) × (left ≡ 0)
  TookWith i throws y left = ⊥
  TookWith i (takes x to rest) y left = ((x ≡ y) × (left ≡ suc (edges_left rest))) ⊎ TookWith to rest y left
  TookWith i (caught row rest) y left = ⊥

  pub took_with : (i : ℕ) (w : Walk) (y : Branch) → EndedByReturn w → NeverThrown w → Contains (taken b i w) y → (left : ℕ) × TookWith i w y left
  took_with i cut y ended never c = absurd ended
  took_with i returns y ended never c = (0, (contains_one (exit i) y c, refl))
  took_with i throws y ended never c = absurd ended
  took_with i (takes x to rest) y ended never c =
      ⊎_elim
      (λ same. (suc (edges_left rest), inl (same, refl)))
      (λ later. let more = took_with to rest y ended never later in (more.0, inr more.1))
      (which_in x (taken b to rest) y c)
  took_with i (caught row rest) y ended never c = absurd never

  pub with_took : (i : ℕ) (w : Walk) (y : Branch) (left : ℕ) → TookWith i w y left → Contains (taken b i w) y
  with_took i cut y left took = absurd took
  with_took i returns y left took = subst (Contains (exit i ∷ [])) took.0 (first_in (exit i) [])
  with_took i throws y left took = absurd took
  with_took i (takes x to rest) y left took =
      ⊎_elim
      (λ here. subst (Contains (x ∷ taken b to rest)) here.0 (first_in x (taken b to rest)))
      (λ later. later_in x (taken b to rest) y (with_took to rest y left later))
      took
  with_took i (caught row rest) y left took = absurd took

  -- the next edge that it took
  next_taken : (i : ℕ) (w : Walk) → IsWalkFrom b i w → EndedByReturn w → NeverThrown w → (y : Branch) × TookWith i w y (edges_left w) × (y.at ≡ i)
  next_taken i cut is ended never = absurd ended
  next_taken i returns is ended never = (exit i, (refl, refl), refl)
  next_taken i throws is ended never = absurd ended
  next_taken i (takes x to rest) is ended never = (x, inl (refl, refl), is.1)
  next_taken i (caught row rest) is ended never = absurd never

  pub followed : (i : ℕ) (w : Walk) (x : Branch) (left : ℕ) → IsWalkFrom b i w → EndedByReturn w → NeverThrown w → TookWith i w x left → is_probed b x ≡ false
      → (y : Branch) × (later : ℕ) × (later < left) × LeadsTo x y.at × TookWith i w y later
  followed i cut x left is ended never took none = absurd took
  followed i returns x left is ended never took none = absurd (true≢false (ap (is_probed b) took.0 ∙ none))
  followed i throws x left is ended never took none = absurd took
  followed i (takes z to rest) x left is ended never took none =
      ⊎_elim
      (λ here.
      let next = next_taken to rest is.3 ended never in
      let less : edges_left rest < left = let e = here.1 in omega (arith, e) in
      (next.0, edges_left rest, less, subst (λ (v : Branch). LeadsTo v next.0.at) here.0 (is.2 ∙ ap Some (sym next.2)), inr next.1))
      (λ there. let more = followed to rest x left is.3 ended never there none in (more.0, more.1, more.2, more.3, inr more.4))
      took
  followed i (caught row rest) x left is ended never took none = absurd took
