-- Where a switch of an instrumented method leads, and what stands at its arm places.
use Rattle.std.proofs.Common.{◌≡◌, ◌≢◌, ◌⊎◌, inl, inr, ⊎_elim, ℕ, zero, suc, ◌+◌, ◌<◌, ◌≤◌, Bool, cond, List, [], ◌∷◌, ◌++◌, length, take, drop, get_or, set, map, nat_eq, Option, None, refl, sym, ap, ap₂, ◌∙◌, subst, arith, append_assoc, append-nil}
use Rattle.std.specs.Prelude.{Contains}
use Rattle.std.specs.List.{sum_by, AllByRecursion}
use Rattle.std.proofs.lemmas.Bool.{eq-eqb, ne_eqb, cases_eq}
use Rattle.std.proofs.lemmas.List.{get_or-set_same, get_or-set_other, length-set, take_all}
use Rattle.std.proofs.lemmas.List.Sums.{sum_by_more}
use Rattle.std.proofs.Math.Seq.{drop-cons, drop-length}
use Rattle.jc_bytes.specs.PlainLists.{map_from, pieces}
use Rattle.jc_methods.specs.Flow.{targets_of}
use Rattle.jc_methods.specs.Insn.{with_places, arm_with_place}
use Rattle.jc_methods.specs.declared.insn.Arm.{Arm}
use Rattle.jc_methods.specs.declared.insn.Insn.{Insn}
use Rattle.jc_methods.specs.declared.insn.Insn.TheVariants as insns
use Rattle.jc_bytes.proofs.BooleanLaws.{none_in, which_in, first_in, later_in}
use Rattle.jc_plan.specs.declared.branch.Branch.{Branch}
use Rattle.jc_plan.specs.Edges.{arm}
use Rattle.jc_emit.specs.Sizes.{hop_size}
use Rattle.jc_emit.specs.TwinCode.{here_or, arm_place}
use Rattle.jc_emit.specs.Items.{Item, hop_part, arm_parts}
use Rattle.jc_emit.specs.Branching.{arm_place_in, arm_part_in}

-- ---- the table of a switch

-- from a number on the targets of a switch have their places in the table
pub record AreSet (land : ℕ → ℕ) (here : ℕ) (targets : List ℕ) (ids : List (Option ℕ)) (size number place : ℕ) (table : List ℕ) : Type 0 where
  pub size_is : length table ≡ size
  pub within : number ≤ length targets
  pub place_is : place ≡ here + sum_by hop_size (take number ids)
  pub each : (to : ℕ) → Contains (drop number targets) to → get_or table to 0 ≡ arm_place_in land place (drop number targets) (drop number ids) to

module _ (land : ℕ → ℕ) (here : ℕ) (targets : List ℕ) (ids : List (Option ℕ)) (size : ℕ) (same : length ids ≡ length targets) where
  pub sets_none : (number place : ℕ) (table : List ℕ) → number ≡ length targets → place ≡ here + sum_by hop_size ids → length table ≡ size
      → AreSet land here targets ids size number place table
  sets_none number place table all behind long = record {
    size_is = long;
    within = omega (arith, all);
    place_is = behind ∙ ap (λ (l : List (Option ℕ)). here + sum_by hop_size l) (sym (take_all number ids (omega (arith, all, same))));
    each = λ to has. absurd (none_in to (subst (λ (l : List ℕ). Contains l to) (ap (λ k. drop k targets) all ∙ drop-length targets) has));
  }

  -- what is taken back for one more target
  pub hop_before : (number new : ℕ) → number ≡ new + 1 → number ≤ length targets
      → sum_by hop_size (take number ids) ≡ sum_by hop_size (take new ids) + hop_size (get_or ids new None)
  hop_before number new step within =
      ap (λ k. sum_by hop_size (take k ids)) step ∙ sum_by_more hop_size ids new None (omega (arith, same, step, within))

  pub sets_one : (number new place place' : ℕ) (table table' : List ℕ) → AreSet land here targets ids size number place table → number ≡ new + 1
      → get_or targets new 0 < size → place ≡ place' + hop_size (get_or ids new None)
      → table' ≡ set table (get_or targets new 0) (here_or (get_or ids new None) place' (land (get_or targets new 0)))
      → AreSet land here targets ids size new place' table'
  sets_one number new place place' table table' so_far step inside down is = record {
    size_is = ap length is ∙ length-set table x value ∙ so_far.size_is;
    within = omega (arith, so_far.within, step);
    place_is = omega (arith, so_far.place_is, down, hop_before number new step so_far.within);
    each = λ to has. each to (subst (λ (l : List ℕ). Contains l to) front has) (cases_eq to x);
  }
    where
      x : ℕ
      x = get_or targets new 0

      id : Option ℕ
      id = get_or ids new None

      value : ℕ
      value = here_or id place' (land x)

      rest : List ℕ
      rest = drop (suc new) targets

      rest_ids : List (Option ℕ)
      rest_ids = drop (suc new) ids

      front : drop new targets ≡ x ∷ rest
      front = drop-cons targets new 0 (omega (arith, so_far.within, step))

      front_ids : drop new ids ≡ id ∷ rest_ids
      front_ids = drop-cons ids new None (omega (arith, so_far.within, step, same))

      up : number ≡ suc new
      up = omega (arith, step)

      both : (to : ℕ) → arm_place_in land place' (drop new targets) (drop new ids) to ≡ arm_place_in land place' (x ∷ rest) (id ∷ rest_ids) to
      both to = ap₂ (λ (l : List ℕ) (o : List (Option ℕ)). arm_place_in land place' l o to) front front_ids

      each : (to : ℕ) → Contains (x ∷ rest) to → (to ≡ x) ⊎ (to ≢ x)
          → get_or table' to 0 ≡ arm_place_in land place' (drop new targets) (drop new ids) to
      each to has (inl e) =
          ap (λ (l : List ℕ). get_or l to 0) is
          ∙ ap (λ k. get_or (set table x value) k 0) e
          ∙ get_or-set_same table x value 0 (omega (arith, so_far.size_is, inside))
          ∙ ap (λ k. here_or id place' (land k)) (sym e)
          ∙ sym (ap (λ (t : Bool). cond t (here_or id place' (land to)) (arm_place_in land (place' + hop_size id) rest rest_ids to)) (eq-eqb x to (sym e)))
          ∙ sym (both to)
      each to has (inr other) =
          let later : Contains rest to = ⊎_elim (λ (e : x ≡ to). absurd (other (sym e))) (λ (h : Contains rest to). h) (which_in x rest to has) in
          ap (λ (l : List ℕ). get_or l to 0) is
          ∙ get_or-set_other table x to value 0 other
          ∙ so_far.each to (subst (λ k. Contains (drop k targets) to) (sym up) later)
          ∙ ap₂ (λ k p. arm_place_in land p (drop k targets) (drop k ids) to) up down
          ∙ sym (ap (λ (t : Bool). cond t (here_or id place' (land to)) (arm_place_in land (place' + hop_size id) rest rest_ids to)) (ne_eqb x to (λ e. other (sym e))))
          ∙ sym (both to)

-- ---- the same by branches

module _ (ids : Branch → Option ℕ) (i : ℕ) where
  pub arms_agree : (land' land : ℕ → ℕ) (k here : ℕ) (xs : List ℕ) (to : ℕ) → land' to ≡ land to
      → arm_place_in land' here xs (map ids (map_from (arm i) k xs)) to ≡ arm_place ids land here (map_from (arm i) k xs) to
  arms_agree land' land k here [] to e = e
  arms_agree land' land k here (x ∷ xs) to e =
      let id = ids (arm i k x) in
      ap₂ (λ (l r : ℕ). cond (nat_eq x to) (here_or id here l) r) e (arms_agree land' land (k + 1) (here + hop_size id) xs to e)

  pub length_ids : (k : ℕ) (xs : List ℕ) → length (map ids (map_from (arm i) k xs)) ≡ length xs
  length_ids k [] = refl
  length_ids k (x ∷ xs) = let e = length_ids (k + 1) xs in omega (arith, e)

  pub arm_pieces : (land : ℕ → ℕ) (k : ℕ) (xs : List ℕ)
      → pieces (arm_part_in land xs (map ids (map_from (arm i) k xs))) (length xs) ≡ arm_parts land ids (map_from (arm i) k xs)
  arm_pieces land k [] = refl
  arm_pieces land k (x ∷ xs) =
      pieces_front (arm_part_in land (x ∷ xs) (map ids (map_from (arm i) k (x ∷ xs)))) (length xs)
      ∙ ap (λ (l : List Item). hop_part land (ids (arm i k x)) x ++ l) (arm_pieces land (k + 1) xs)
    where
      pieces_front : (g : ℕ → List Item) (n : ℕ) → pieces g (suc n) ≡ g 0 ++ pieces (λ m. g (suc m)) n
      pieces_front g zero = sym (append-nil (g 0))
      pieces_front g (suc n) = ap (λ (l : List Item). l ++ g (suc n)) (pieces_front g n) ∙ append_assoc (g 0) (pieces (λ m. g (suc m)) n) (g (suc n))

-- ---- places to which an instruction leads

pub each_contains : (P : ℕ → Type 0) (xs : List ℕ) → AllByRecursion P xs → (x : ℕ) → Contains xs x → P x
each_contains P [] each x has = absurd (none_in x has)
each_contains P (y ∷ xs) each x has =
    ⊎_elim (λ (e : y ≡ x). subst P e each.0) (λ (h : Contains xs x). each_contains P xs each.1 x h) (which_in y xs x has)

module _ (f g : ℕ → ℕ) where
  maps_agree : (xs : List ℕ) → ((x : ℕ) → Contains xs x → f x ≡ g x) → map f xs ≡ map g xs
  maps_agree [] h = refl
  maps_agree (x ∷ xs) h =
      ap₂ (λ (y : ℕ) (l : List ℕ). y ∷ l) (h x (first_in x xs)) (maps_agree xs (λ y has. h y (later_in x xs y has)))

  abbrev tos : List Arm → List ℕ
  tos arms = map (λ (a : Arm). a.to) arms

  arms_led_agree : (arms : List Arm) → ((x : ℕ) → Contains (tos arms) x → f x ≡ g x) → map (arm_with_place f) arms ≡ map (arm_with_place g) arms
  arms_led_agree [] h = refl
  arms_led_agree (a ∷ arms) h =
      ap₂ (λ (to : ℕ) (l : List Arm). (record { key = a.key; to = to }) ∷ l) (h a.to (first_in a.to (tos arms)))
      (arms_led_agree arms (λ y has. h y (later_in a.to (tos arms) y has)))

  pub places_agree : (insn : Insn) → ((to : ℕ) → Contains (targets_of insn) to → f to ≡ g to) → with_places f insn ≡ with_places g insn
  places_agree (insns.Jump op to) h = ap (insns.Jump op) (h to (first_in to ([])))
  places_agree (insns.Table low default arms) h =
      ap₂ (λ (d : ℕ) (l : List ℕ). insns.Table low d l) (h default (first_in default arms))
      (maps_agree arms (λ x has. h x (later_in default arms x has)))
  places_agree (insns.Lookup default arms) h =
      ap₂ (λ (d : ℕ) (l : List Arm). insns.Lookup d l) (h default (first_in default (tos arms)))
      (arms_led_agree arms (λ x has. h x (later_in default (tos arms) x has)))
  places_agree _ h = refl
