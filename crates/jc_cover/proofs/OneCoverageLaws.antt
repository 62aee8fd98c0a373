-- One coverage of each class and hits, and what its values say of instructions.
use Rattle.std.proofs.Common.{◌≡◌, ◌↔◌, ℕ, suc, ◌<◌, Bool, true, false, ◌||◌, List, [], ◌∷◌, map, length, Some, refl, sym, ap, ap₂, ◌∙◌, subst, arith}
use Rattle.std.specs.Prelude.{IsTrue, slice_get, option_map, option_and_then, Contains}
use Rattle.std.specs.List.{list_any}
use Rattle.std.proofs.lemmas.List.{length-map}
use Rattle.std.proofs.lemmas.Option.{same_Some, slice_get-map, slice_get_within}
use Rattle.jc_bytes.specs.PlainLists.{map_from}
use Rattle.jc_methods.specs.declared.insn.Insn.{Insn}
use Rattle.jc_methods.specs.declared.body.Body.{Body}
use Rattle.jc_bytes.proofs.ListLaws.{item_at}
use Rattle.jc_plan.specs.declared.branch.Branch.{Branch}
use Rattle.jc_plan.specs.Edges.{branches_of}
use Rattle.jc_plan.specs.Probed.{first_id}
use Rattle.jc_plan.proofs.MappedLaws.{made_of, length_made}
use Rattle.jc_plan.proofs.OneWayLaws.{standing, begins_at}
use Rattle.jc_cover.specs.declared.coverage.Coverage.{Coverage}
use Rattle.jc_cover.specs.Covered.{CoveredInsn, branch_count, body_shape, HasShape, value_at, values_of, TellsCovered}
use Rattle.jc_cover.specs.Marking.{marks_of, covers, insn_values, values_by, class_values, coverage_of}
use Rattle.jc_cover.specs.Counters.{is_covered, TellsInsn}
use Rattle.jc_cover.proofs.ChainLaws.{chain_listed}
use Rattle.jc_cover.proofs.MarkLaws.{one_passes, listed_at, marked_edge}
use Rattle.jc_cover.proofs.CoverageLaws.{tells}

-- lists of one length that agree at each place
same_by_places : {X : Type 0} (xs ys : List X) → length xs ≡ length ys → ((k : ℕ) (x y : X) → slice_get xs k ≡ Some x → slice_get ys k ≡ Some y → x ≡ y) → xs ≡ ys
same_by_places [] [] size agree = refl
same_by_places [] (y ∷ ys) size agree = absurd (omega (arith, size))
same_by_places (x ∷ xs) [] size agree = absurd (omega (arith, size))
same_by_places (x ∷ xs) (y ∷ ys) size agree = ap₂ (λ z zs. z ∷ zs) (agree 0 x y refl refl) (same_by_places xs ys (omega (arith, size)) (λ k u v h g. agree (suc k) u v h g))

both_same : (v w : Bool) {P : Type 0} → (IsTrue v ↔ P) → (IsTrue w ↔ P) → v ≡ w
both_same true true p q = refl
both_same true false p q = sym (q.1 (p.0 refl))
both_same false true p q = p.1 (q.0 refl)
both_same false false p q = refl

module _ (bodies : List Body) (hits : List Bool) where
  -- what the shape says of the values of an instruction
  record Shaped (c : Coverage) (n i : ℕ) (insns : List (List Bool)) (values : List Bool) : Type 0 where
    body : Body
    insn : Insn
    stands : slice_get bodies n ≡ Some body
    insn_stands : slice_get body.code i ≡ Some insn
    size : length values ≡ length (branches_of i insn)

  pub body_at : (c : Coverage) → HasShape bodies c → (n : ℕ) (insns : List (List Bool)) → slice_get c.edges n ≡ Some insns → (b : Body)
      × (slice_get bodies n ≡ Some b) × (map length insns ≡ body_shape b)
  body_at c shape n insns h =
      let here : slice_get (map (map length) c.edges) n ≡ Some (map length insns) = slice_get-map (map length) c.edges n ∙ ap (option_map (map length)) h in
      let sized : length (map (map length) c.edges) ≡ length (map body_shape bodies) = ap length shape in
      let lt = slice_get_within c.edges n insns h in
      let s = item_at bodies n (omega (arith, lt, sized, length-map c.edges (map length), length-map bodies body_shape)) in
      let there : slice_get (map body_shape bodies) n ≡ Some (body_shape s.0) = slice_get-map body_shape bodies n ∙ ap (option_map body_shape) s.1 in
      (s.0, s.1, same_Some (map length insns) (body_shape s.0) (sym here ∙ ap (λ l. slice_get l n) shape ∙ there))

  shaped_at : (c : Coverage) → HasShape bodies c → (n i : ℕ) (insns : List (List Bool)) (values : List Bool) → slice_get c.edges n ≡ Some insns
      → slice_get insns i ≡ Some values → Shaped c n i insns values
  shaped_at c shape n i insns values h g =
      let b = body_at c shape n insns h in
      let here : slice_get (map length insns) i ≡ Some (length values) = slice_get-map length insns i ∙ ap (option_map length) g in
      let sized : length (map length insns) ≡ length (body_shape b.0) = ap length b.2 in
      let lt = slice_get_within insns i values g in
      let s = item_at b.0.code i (omega (arith, lt, sized, length-map insns length, length_made branch_count 0 b.0.code)) in
      let there : slice_get (body_shape b.0) i ≡ Some (branch_count i s.0) = made_of branch_count b.0.code i s.0 s.1 in
      record {
        body = b.0;
        insn = s.0;
        stands = b.1;
        insn_stands = s.1;
        size = same_Some (length values) (branch_count i s.0) (sym here ∙ ap (λ l. slice_get l i) b.2 ∙ there);
      }

  module _ (c d : Coverage) (tc : TellsCovered bodies hits c) (td : TellsCovered bodies hits d) where
    values_same : (n i : ℕ) (insns others : List (List Bool)) (values more : List Bool) → slice_get c.edges n ≡ Some insns
        → slice_get d.edges n ≡ Some others → slice_get insns i ≡ Some values → slice_get others i ≡ Some more → values ≡ more
    values_same n i insns others values more h g k l =
        let s = shaped_at c tc.shape n i insns values h k in
        let r = shaped_at d td.shape n i others more g l in
        let body_same : s.body ≡ r.body = same_Some s.body r.body (sym s.stands ∙ r.stands) in
        let insn_same : s.insn ≡ r.insn = same_Some s.insn r.insn (sym s.insn_stands ∙ ap (λ b. slice_get b.code i) body_same ∙ r.insn_stands) in
        let sizes : length values ≡ length more = s.size ∙ ap (λ insn. length (branches_of i insn)) insn_same ∙ sym r.size in
        same_by_places values more sizes (λ j v w p q.
        let x = item_at (branches_of i s.insn) j (subst (λ m. j < m) s.size (slice_get_within values j v p)) in
        let vc = tc.values n i j s.body s.insn x.0 s.stands s.insn_stands x.1 in
        let wc = td.values n i j s.body s.insn x.0 s.stands s.insn_stands x.1 in
        let v_is : value_at c n i j ≡ Some v = ap (option_and_then (λ vs. slice_get vs j)) (ap (option_and_then (λ es. slice_get es i)) h ∙ k) ∙ p in
        let w_is : value_at d n i j ≡ Some w = ap (option_and_then (λ vs. slice_get vs j)) (ap (option_and_then (λ es. slice_get es i)) g ∙ l) ∙ q in
        same_Some v vc.0 (sym v_is ∙ vc.1) ∙ both_same vc.0 wc.0 vc.2 wc.2 ∙ sym (same_Some w wc.0 (sym w_is ∙ wc.1)))

    insns_same : (n : ℕ) (insns others : List (List Bool)) → slice_get c.edges n ≡ Some insns → slice_get d.edges n ≡ Some others → insns ≡ others
    insns_same n insns others h g =
        let s = body_at c tc.shape n insns h in
        let r = body_at d td.shape n others g in
        let same : s.0 ≡ r.0 = same_Some s.0 r.0 (sym s.1 ∙ r.1) in
        let sized : length (map length insns) ≡ length (map length others) = ap length (s.2 ∙ ap body_shape same ∙ sym r.2) in
        same_by_places insns others (omega (arith, sized, length-map insns length, length-map others length)) (λ i values more k l. values_same n i insns others values more h g k l)

    edges_same : c.edges ≡ d.edges
    edges_same =
        let sized : length (map (map length) c.edges) ≡ length (map (map length) d.edges) = ap length (tc.shape ∙ sym td.shape) in
        same_by_places c.edges d.edges (omega (arith, sized, length-map c.edges (map length), length-map d.edges (map length))) insns_same

  pub one_coverage : (c d : Coverage) → TellsCovered bodies hits c → TellsCovered bodies hits d → c ≡ d
  one_coverage c d tc td = λ i. record { edges = edges_same c d tc td i }

-- ---- instructions

any_of_map : {X : Type 0} (f : X → Bool) (xs : List X) → list_any (λ v. v) (map f xs) ≡ list_any f xs
any_of_map f [] = refl
any_of_map f (x ∷ xs) = ap (λ t. f x || t) (any_of_map f xs)

insn_flag : (b : Body) (first : ℕ) (hits : List Bool) (i : ℕ) (insn : Insn) → slice_get b.code i ≡ Some insn → TellsInsn b first hits i (insn_values b first hits (marks_of b first hits) i insn)
insn_flag b first hits i insn h = (to, from)
  where
    told : Branch → Bool
    told = covers b first hits (marks_of b first hits)

    to : is_covered (insn_values b first hits (marks_of b first hits) i insn) ≡ true → CoveredInsn b first hits i
    to e =
        let found = (one_passes told (branches_of i insn)).to (sym (any_of_map told (branches_of i insn)) ∙ e) in
        (found.0, sym (begins_at insn i found.0 found.1), (marked_edge b first hits found.0 (listed_at b first hits i insn found.0 h found.1)).0 found.2)

    from : CoveredInsn b first hits i → is_covered (insn_values b first hits (marks_of b first hits) i insn) ≡ true
    from c =
        let listed = chain_listed b first hits c.0 c.2.0 c.2.1 in
        let s = standing b.code c.0 listed in
        let same : s.insn ≡ insn = same_Some s.insn insn (sym s.stands ∙ ap (slice_get b.code) c.1 ∙ h) in
        let here : Contains (branches_of i insn) c.0 = subst (λ z. Contains (branches_of i z) c.0) same (subst (λ k. Contains (branches_of k s.insn) c.0) c.1 s.listed) in
        any_of_map told (branches_of i insn) ∙ (one_passes told (branches_of i insn)).back (c.0, here, (marked_edge b first hits c.0 listed).1 c.2)

module _ (bodies : List Body) (hits : List Bool) (c : Coverage) where
  pub insn_told : (n i : ℕ) (b : Body) (insn : Insn) (values : List Bool) → TellsCovered bodies hits c → slice_get bodies n ≡ Some b
      → slice_get b.code i ≡ Some insn → values_of c n i ≡ Some values → TellsInsn b (first_id bodies n) hits i values
  insn_told n i b insn values t h g v =
      let first = first_id bodies n in
      let marks = marks_of b first hits in
      let same = one_coverage bodies hits c (coverage_of bodies hits) t (tells bodies hits) in
      let body_is : slice_get (map_from (class_values bodies hits) 0 bodies) n ≡ Some (class_values bodies hits n b) = made_of (class_values bodies hits) bodies n b h in
      let insn_is : slice_get (values_by b first hits marks) i ≡ Some (insn_values b first hits marks i insn) = made_of (insn_values b first hits marks) b.code i insn g in
      let here : values_of (coverage_of bodies hits) n i ≡ Some (insn_values b first hits marks i insn) = ap (option_and_then (λ insns. slice_get insns i)) body_is ∙ insn_is in
      let is : insn_values b first hits marks i insn ≡ values = same_Some (insn_values b first hits marks i insn) values (sym here ∙ ap (λ k. values_of k n i) (sym same) ∙ v) in
      subst (TellsInsn b first hits i) is (insn_flag b first hits i insn g)
