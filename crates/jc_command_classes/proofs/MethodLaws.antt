-- The lines of a class's bodies, which come with their plans.
use Rattle.std.proofs.Common.{◌≡◌, ℕ, zero, suc, ◌+◌, ◌<◌, List, [], ◌∷◌, ◌++◌, length, take, get_or, refl, sym, ◌∙◌, ap, ap₂, arith, append_assoc}
use Rattle.std.specs.List.{flat_map}
use Rattle.std.proofs.lemmas.Grind.{flat_map-append}
use Rattle.std.proofs.lemmas.List.{append-nil, take_more}
use Rattle.std.proofs.lemmas.List.Concat.{flat_map-cons}
use Rattle.std.proofs.lemmas.List.Sums.{sum_by_more}
use Rattle.jc_bytes.specs.PlainLists.{map_from}
use Rattle.jc_methods.specs.declared.analysed.Analysed.{Analysed}
use Rattle.jc_methods.specs.declared.body.Body.{Body}
use Rattle.jc_methods.specs.declared.plan.Plan.{Plan}
use Rattle.jc_plan.specs.Plan.{plan_of}
use Rattle.jc_plan.specs.Probed.{probe_count, first_id}
use Rattle.jc_plan.specs.Analysed.{IsAnalysed}
use Rattle.jc_command_classes.specs.ClassInfo.{method_text, method_line}

module _ {X Y : Type 0} (f : ℕ → X → Y) where
  map_from_length : (k : ℕ) (xs : List X) → length (map_from f k xs) ≡ length xs
  map_from_length k [] = refl
  map_from_length k (x ∷ xs) = let rest = map_from_length (k + 1) xs in omega (arith, rest)

  map_from_at : (k : ℕ) (xs : List X) (i : ℕ) (x : X) (y : Y) → i < length xs → get_or (map_from f k xs) i y ≡ f (k + i) (get_or xs i x)
  map_from_at k [] i x y less = absurd (omega (arith, less))
  map_from_at k (z ∷ xs) zero x y less = let here : k ≡ k + 0 = omega arith in ap (λ n. f n z) here
  map_from_at k (z ∷ xs) (suc i) x y less =
      let there : k + 1 + i ≡ k + suc i = omega arith in
      map_from_at (k + 1) xs i x y (omega (arith, less)) ∙ ap (λ n. f n (get_or xs i x)) there

module _ (a : Analysed) (planned : IsAnalysed a) where
  pub as_many_plans : length a.plans ≡ length a.bodies
  as_many_plans = ap length planned.plans ∙ map_from_length (λ i b. plan_of b (first_id a.bodies i)) 0 a.bodies

  -- the ids of a body end where those of the next one begin
  pub next_id : (i : ℕ) (d : Body) (p : Plan) → i < length a.bodies → (get_or a.plans i p).next ≡ first_id a.bodies i + probe_count (get_or a.bodies i d)
  next_id i d p less =
      let start : 0 + i ≡ i = omega arith in
      ap (λ (ps : List Plan). (get_or ps i p).next) planned.plans
      ∙ ap (λ (q : Plan). q.next) (map_from_at (λ k x. plan_of x (first_id a.bodies k)) 0 a.bodies i d p less ∙ ap (λ k. plan_of (get_or a.bodies i d) (first_id a.bodies k)) start)

  pub first_behind : (i : ℕ) (d : Body) → i < length a.bodies → first_id a.bodies (i + 1) ≡ first_id a.bodies i + probe_count (get_or a.bodies i d)
  first_behind i d less = sum_by_more probe_count a.bodies i d less

-- the line of one more body is put at the end
pub method_put : (bodies : List Body) (old now new : List ℕ) (i probes : ℕ) (b d : Body) → i < length bodies → b ≡ get_or bodies i d
    → probes ≡ probe_count b → now ≡ old ++ flat_map method_line (take i bodies) → new ≡ now ++ method_text b probes
    → new ≡ old ++ flat_map method_line (take (i + 1) bodies)
method_put bodies old now new i probes b d less body count so_far grows =
    let more : take (i + 1) bodies ≡ take i bodies ++ b ∷ [] = take_more bodies i d less ∙ ap (λ (x : Body). take i bodies ++ x ∷ []) (sym body) in
    let lines : flat_map method_line (take (i + 1) bodies) ≡ flat_map method_line (take i bodies) ++ method_line b =
    ap (flat_map method_line) more ∙ flat_map-append method_line (take i bodies) (b ∷ [])
    ∙ ap (λ (text : List ℕ). flat_map method_line (take i bodies) ++ text) (flat_map-cons method_line b [] ∙ append-nil (method_line b)) in
    grows ∙ ap₂ (λ (text : List ℕ) (n : ℕ). text ++ method_text b n) so_far count
    ∙ append_assoc old (flat_map method_line (take i bodies)) (method_line b) ∙ ap (λ (text : List ℕ). old ++ text) (sym lines)
