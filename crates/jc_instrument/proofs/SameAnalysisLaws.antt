-- Two analyses of one class file differ at most in how the frames of their bodies number classes.
use Rattle.std.proofs.Common.{◌≡◌, ◌⊎◌, inl, inr, ℕ, zero, suc, ◌+◌, Bool, true, false, ◌&&◌, List, [], ◌∷◌, ◌++◌, map, take, Some, refl, sym, ◌∙◌, ap, ap₂, subst}
use Rattle.std.specs.List.{count_by}
use Rattle.std.proofs.lemmas.List.{map-append}
use Rattle.std.proofs.lemmas.List.Sums.{sum_by-cons}
use Rattle.std.proofs.lemmas.Option.{same_Some}
use Rattle.jc_methods.specs.VerificationTypes.{Names}
use Rattle.jc_bytes.specs.PlainLists.{map_from, places}
use Rattle.jc_methods.specs.declared.analysed.Analysed.{Analysed}
use Rattle.jc_methods.specs.declared.body.Body.{Body}
use Rattle.jc_methods.specs.declared.plan.Plan.{Plan}
use Rattle.jc_class.specs.declared.class_file.ClassFile.{ClassFile}
use Rattle.jc_class.proofs.FirstBadLaws.{one_class_of}
use Rattle.jc_body.specs.BodyOf.{Bodiless}
use Rattle.jc_body.proofs.AnswerLaws.{bodiless_or_body}
use Rattle.jc_plan.specs.Edges.{branches_of, branches}
use Rattle.jc_plan.specs.Plan.{lead_probe, out_by, out_probe, plan_of}
use Rattle.jc_plan.specs.Probed.{is_probed_way, Position, position_of, is_before, probes_before, probe_count, first_id, id_if}
use Rattle.jc_plan.specs.declared.branch.Branch.{Branch}
use Rattle.jc_plan.specs.declared.branch.Way.{Way}
use Rattle.jc_plan.specs.declared.branch.Way.TheVariants.{Falls, Jumps, Switches, Exits}
use Rattle.jc_plan.specs.Analysed.{plans_of, all_probes, IsAnalysed}
use Rattle.jc_instrument.specs.Analysis.{IsAnalysis, Describes}
use Rattle.jc_instrument.specs.Bodies.{AreBodiesBelow, AreBodiesUnless, AreBodiesOf}
use Rattle.jc_instrument.specs.LeftAlone.{is_left_alone}
use Rattle.jc_instrument.specs.SameAnalysis.{without_frames, IsSameAnalysis}
use Rattle.jc_instrument.proofs.LastBodyLaws.{EndsWith, last_or_none, none_below}
use Rattle.jc_instrument.proofs.OneBodyLaws.{same_body}
use Rattle.jc_instrument_reread.proofs.SameBodyLaws.{AreSame}

-- ---- the bodies

pub same_but_frames : (names others : Names) (a b : Body) → AreSame names others a b → without_frames a ≡ without_frames b
same_but_frames names others a b same = ap without_frames same.rest

module _ (names others : Names) (c : ClassFile) where
  abbrev pub AreSameBelow : ℕ → Type 0
  AreSameBelow n = (xs ys : List Body) → AreBodiesBelow names c n xs → AreBodiesBelow others c n ys
      → map without_frames xs ≡ map without_frames ys

  same_ends : (n : ℕ) (xs ys : List Body) → AreSameBelow n → EndsWith names c n xs → EndsWith others c n ys
      → map without_frames xs ≡ map without_frames ys
  same_ends n xs ys before a b =
      ap (map without_frames) a.parts
      ∙ map-append without_frames a.front (a.last ∷ [])
      ∙ ap₂ (λ (l : List Body) (x : Body). l ++ x ∷ []) (before a.front b.front a.before b.before)
      (same_but_frames names others a.last b.last (same_body names others c n a.last b.last a.body b.body))
      ∙ sym (map-append without_frames b.front (b.last ∷ []))
      ∙ ap (map without_frames) (sym b.parts)

  pub same_below : (n : ℕ) → AreSameBelow n
  same_below zero xs ys p q = ap (map without_frames) (none_below names c xs p ∙ sym (none_below others c ys q))
  same_below (suc n) xs ys p q = by (same_below n) (last_or_none names c n xs p) (last_or_none others c n ys q)
    where
      by : AreSameBelow n → (Bodiless c n × AreBodiesBelow names c n xs) ⊎ EndsWith names c n xs
          → (Bodiless c n × AreBodiesBelow others c n ys) ⊎ EndsWith others c n ys
          → map without_frames xs ≡ map without_frames ys
      by before (inl a) (inl b) = before xs ys a.1 b.1
      by before (inl a) (inr b) = absurd (bodiless_or_body others c n b.last a.0 b.body)
      by before (inr a) (inl b) = absurd (bodiless_or_body names c n a.last b.0 a.body)
      by before (inr a) (inr b) = same_ends n xs ys before a b

pub same_bodies : (c : ClassFile) (xs ys : List Body) → AreBodiesOf c xs → AreBodiesOf c ys → map without_frames xs ≡ map without_frames ys
same_bodies c xs ys p q = by (is_left_alone c) p.are q.are
  where
    by : (t : Bool) → AreBodiesUnless t p.names c xs → AreBodiesUnless t q.names c ys → map without_frames xs ≡ map without_frames ys
    by true none nothing = ap (map without_frames) (none ∙ sym nothing)
    by false are other = same_below p.names q.names c _ xs ys are other

-- ---- their probes don't depend on frames

pub same_way : (b : Body) (way : Way) → is_probed_way b way ≡ is_probed_way (without_frames b) way
same_way b (Falls n) = refl
same_way b (Jumps n) = refl
same_way b (Switches n) = refl
same_way b Exits = refl

pub same_count : (b : Body) → probe_count b ≡ probe_count (without_frames b)
same_count b = λ i. count_by (λ x. same_way b x.way i) (branches b.code)

pub same_before : (b : Body) (p : Position) → probes_before b p ≡ probes_before (without_frames b) p
same_before b p = λ i. count_by (λ x. same_way b x.way i && is_before (position_of x) p) (branches b.code)

pub same_lead : (b : Body) (first n : ℕ) → lead_probe b first n ≡ lead_probe (without_frames b) first n
same_lead b first n = λ i. id_if (same_way b (Falls n) i) (first + same_before b (record { at = n; number = 0 }) i)

same_out : (b : Body) (first : ℕ) (x : Branch) → out_probe b first x ≡ out_probe (without_frames b) first x
same_out b first x = λ i. out_by x.way (id_if (same_way b x.way i) (first + same_before b (position_of x) i))

same_plan : (b : Body) (first : ℕ) → plan_of b first ≡ plan_of (without_frames b) first
same_plan b first = λ i. record {
  lead = map (λ n. same_lead b first n i) (places b.code);
  out = map_from (λ n insn. map (λ x. same_out b first x i) (branches_of n insn)) 0 b.code;
  next = first + same_count b i;
}

pub same_probes : (bodies : List Body) → all_probes bodies ≡ all_probes (map without_frames bodies)
same_probes [] = refl
same_probes (b ∷ bodies) =
    sum_by-cons probe_count b bodies
    ∙ ap₂ (λ m n. m + n) (same_count b) (same_probes bodies)
    ∙ sym (sum_by-cons probe_count (without_frames b) (map without_frames bodies))

pub same_first : (bodies : List Body) (n : ℕ) → first_id bodies n ≡ first_id (map without_frames bodies) n
same_first [] n = refl
same_first (b ∷ bodies) zero = refl
same_first (b ∷ bodies) (suc n) =
    sum_by-cons probe_count b (take n bodies)
    ∙ ap₂ (λ m k. m + k) (same_count b) (same_first bodies n)
    ∙ sym (sum_by-cons probe_count (without_frames b) (take n (map without_frames bodies)))

-- plans by what the first id of each body is
plans_from : (first other : ℕ → ℕ) → ((n : ℕ) → first n ≡ other n) → (i : ℕ) (bodies : List Body)
    → map_from (λ n b. plan_of b (first n)) i bodies ≡ map_from (λ n b. plan_of b (other n)) i (map without_frames bodies)
plans_from first other same i [] = refl
plans_from first other same i (b ∷ bodies) =
    ap₂ (λ (p : Plan) (ps : List Plan). p ∷ ps) (same_plan b (first i) ∙ ap (plan_of (without_frames b)) (same i))
    (plans_from first other same (i + 1) bodies)

same_plans : (bodies : List Body) → plans_of bodies ≡ plans_of (map without_frames bodies)
same_plans bodies = plans_from (first_id bodies) (first_id (map without_frames bodies)) (same_first bodies) 0 bodies

-- ---- the class

same_texts : (xs ys : List (List ℕ)) → map Some xs ≡ map Some ys → xs ≡ ys
same_texts [] [] e = refl
same_texts [] (y ∷ ys) e = absurd (none e)
  where
    none : [] ≡ Some y ∷ map Some ys → ⊥
    none p = cc
same_texts (x ∷ xs) [] e = absurd (none e)
  where
    none : Some x ∷ map Some xs ≡ [] → ⊥
    none p = cc
same_texts (x ∷ xs) (y ∷ ys) e = ap₂ (λ (z : List ℕ) (zs : List (List ℕ)). z ∷ zs) (same_Some x y (head e)) (same_texts xs ys (tail e))
  where
    head : Some x ∷ map Some xs ≡ Some y ∷ map Some ys → Some x ≡ Some y
    head p = cc

    tail : Some x ∷ map Some xs ≡ Some y ∷ map Some ys → map Some xs ≡ map Some ys
    tail p = cc

same_analysed : (bytes : List ℕ) (c : ClassFile) (a b : Analysed) → Describes bytes c a → Describes bytes c b → a.plans ≡ b.plans
    → a.probes ≡ b.probes → record a { bodies = b.bodies } ≡ b
same_analysed bytes c a b p q plans probes =
    let id = p.id ∙ sym q.id in
    let name = same_Some a.name b.name (sym p.name ∙ q.name) in
    let version = p.version ∙ sym q.version in
    let flags = p.flags ∙ sym q.flags in
    let super_name = p.super_name ∙ sym q.super_name in
    let interfaces = same_texts a.interfaces b.interfaces (p.interfaces ∙ sym q.interfaces) in
    λ i. record {
      id = id i;
      name = name i;
      version = version i;
      flags = flags i;
      super_name = super_name i;
      interfaces = interfaces i;
      bodies = b.bodies;
      plans = plans i;
      probes = probes i;
    }

same_of_file : (bytes : List ℕ) (c : ClassFile) (a b : Analysed) → Describes bytes c a → AreBodiesOf c a.bodies → IsAnalysed a
    → Describes bytes c b → AreBodiesOf c b.bodies → IsAnalysed b → IsSameAnalysis a b
same_of_file bytes c a b p are one q others other =
    let bodies = same_bodies c a.bodies b.bodies are others in
    record {
      rest = same_analysed bytes c a b p q
          (one.plans ∙ same_plans a.bodies ∙ ap plans_of bodies ∙ sym (same_plans b.bodies) ∙ sym other.plans)
          (one.probes ∙ same_probes a.bodies ∙ ap all_probes bodies ∙ sym (same_probes b.bodies) ∙ sym other.probes);
      bodies = bodies;
    }

pub same_analysis : (bytes : List ℕ) (a b : Analysed) → IsAnalysis bytes a → IsAnalysis bytes b → IsSameAnalysis a b
same_analysis bytes a b p q =
    let same = one_class_of bytes p.file q.file p.text q.text in
    same_of_file bytes q.file a b (subst (λ (c : ClassFile). Describes bytes c a) same p.described)
    (subst (λ (c : ClassFile). AreBodiesOf c a.bodies) same p.bodies)
    p.analysed q.described q.bodies q.analysed
