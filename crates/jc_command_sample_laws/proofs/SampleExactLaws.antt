-- Whatever the names with which it is read, a method of a sample has one body.
use Rattle.std.proofs.Common.{◌≡◌, inr, ℕ, zero, suc, ◌+◌, ◌*◌, ◌<◌, ◌≤◌, Bool, false, List, [], ◌∷◌, length, map, Some, refl, sym, ◌∙◌, ap, subst, arith}
use Rattle.std.specs.Prelude.{slice_get}
use Rattle.std.specs.List.{AllByRecursion, range_with_len}
use Rattle.std.proofs.lemmas.List.FromFn.{length-map-range_with_len}
use Rattle.std.proofs.lemmas.Option.{same_Some, slice_get_within}
use Rattle.jc_bytes.proofs.ListLaws.{head_is}
use Rattle.jc_methods.specs.VerificationTypes.{Names, int, verification_type, TypeStateAt, type_state_at}
use Rattle.jc_methods.specs.declared.body.Body.{Body}
use Rattle.jc_methods.specs.declared.body.FrameAt.{FrameAt}
use Rattle.jc_methods.specs.declared.kind.Kind.{Kind}
use Rattle.jc_methods.specs.declared.kind.Kind.TheVariants as kinds
use Rattle.jc_pool.specs.Lookup.{utf8_of}
use Rattle.jc_class.specs.declared.class_file.Member.{Member}
use Rattle.jc_body.specs.BodyOf.{BodyOf}
use Rattle.jc_kinds.specs.Checked.{Checked}
use Rattle.jc_plan.specs.Analysed.{all_probes}
use Rattle.jc_instrument.specs.Bodies.{AreBodies, AreBodiesOf, AreBodiesUnless}
use Rattle.jc_instrument.specs.LeftAlone.{is_left_alone}
use Rattle.jc_instrument.proofs.OneBodyLaws.{same_body}
use Rattle.jc_instrument.proofs.SameAnalysisLaws.{same_below, same_probes}
use Rattle.jc_command_sample_laws.specs.SampleClass.{sample_method, sample_class_file}
use Rattle.jc_command_sample_laws.proofs.SampleBodyLaws.{sample_body, sample_frame, seen_frame, is_body, method_at}
use Rattle.jc_command_sample_laws.proofs.SampleCheckedLaws.{is_checked, probes_are}

-- ---- frames without classes

kind_int : (names : Names) (k : Kind) → verification_type names k ≡ int → k ≡ kinds.Int
kind_int names kinds.Int e = refl
kind_int names kinds.Top e = cc
kind_int names kinds.Float e = cc
kind_int names kinds.Double e = cc
kind_int names kinds.Long e = cc
kind_int names kinds.Null e = cc
kind_int names kinds.UninitThis e = cc
kind_int names (kinds.Object n) e = cc
kind_int names (kinds.Uninit at) e = cc

one_int : (names : Names) (ks : List Kind) → map (verification_type names) ks ≡ int ∷ [] → ks ≡ kinds.Int ∷ []
one_int names [] e = cc
one_int names (k ∷ []) e = ap (λ (x : Kind). x ∷ []) (kind_int names k (head_is e))
one_int names (k ∷ l ∷ ks) e = cc

no_kinds : (names : Names) (ks : List Kind) → map (verification_type names) ks ≡ [] → ks ≡ []
no_kinds names [] e = refl
no_kinds names (k ∷ ks) e = cc

one_frame : (names : Names) (fs : List FrameAt) → map (type_state_at names) fs ≡ seen_frame ∷ [] → fs ≡ sample_frame ∷ []
one_frame names [] e = cc
one_frame names (f ∷ []) e =
    let same : type_state_at names f ≡ seen_frame = head_is e in
    let at = ap (λ (s : TypeStateAt). s.at) same in
    let locals = one_int names f.state.locals (ap (λ (s : TypeStateAt). s.state.locals) same) in
    let stack = no_kinds names f.state.stack (ap (λ (s : TypeStateAt). s.state.stack) same) in
    λ i. record { at = at i; state = record { locals = locals i; stack = stack i } } ∷ []
one_frame names (f ∷ g ∷ fs) e = cc

-- ---- one body

module _ (n : ℕ) (within : n ≤ 1000) where
  -- a method of the class has a number below the count
  pub method_below : (number : ℕ) (method : Member) → slice_get (sample_class_file n).methods number ≡ Some method → (number < n) × (sample_method number ≡ method)
  method_below number method at =
      let count = length-map-range_with_len sample_method 0 n in
      let below = slice_get_within (map sample_method (range_with_len 0 n)) number method at in
      let less : number < n = omega (arith, count, below) in
      (less, same_Some (sample_method number) method (sym (method_at sample_method 0 n number less ∙ ap (λ j. Some (sample_method j)) (let e : 0 + number ≡ number = omega arith in e)) ∙ at))

  pub exact : (names : Names) (number : ℕ) (b : Body) → BodyOf names (sample_class_file n) number b → b ≡ sample_body number
  exact names number b body =
      let less = (method_below number body.method body.at).0 in
      let same = same_body names [] (sample_class_file n) number b (sample_body number) body (is_body [] n number within less) in
      let frames : b.frames ≡ sample_frame ∷ [] = one_frame names b.frames same.seen in
      same.rest ∙ ap (λ (fs : List FrameAt). record (sample_body number) { frames = fs }) frames

  pub passes : (names : Names) (number : ℕ) (b : Body) → BodyOf names (sample_class_file n) number b → Checked names b
  passes names number b body = subst (Checked names) (sym (exact names number b body)) (is_checked names number)

  -- ---- all bodies

  abbrev pub sample_bodies : List Body
  sample_bodies = map sample_body (range_with_len 0 n)

  sample_at : (i : ℕ) (b : Body) → slice_get sample_bodies i ≡ Some b → (i < n) × (sample_body i ≡ b)
  sample_at i b at =
      let count = length-map-range_with_len sample_body 0 n in
      let below = slice_get_within sample_bodies i b at in
      let less : i < n = omega (arith, count, below) in
      (less, same_Some (sample_body i) b (sym (method_at sample_body 0 n i less ∙ ap (λ j. Some (sample_body j)) (let e : 0 + i ≡ i = omega arith in e)) ∙ at))

  number_is : (i : ℕ) (b : Body) → slice_get sample_bodies i ≡ Some b → i ≡ b.method
  number_is i b at = ap (λ (x : Body). x.method) (sample_at i b at).1

  samples : (names : Names) → AreBodies names (sample_class_file n) sample_bodies
  samples names = record {
    each = λ i b at.
        let found = sample_at i b at in
        subst (λ (x : Body). BodyOf names (sample_class_file n) x.method x) found.1 (is_body names n i within found.0);
    below = λ i b at.
        let found = sample_at i b at in
        let less = found.0 in
        let number = number_is i b at in
        let count = length-map-range_with_len sample_method 0 n in
        omega (arith, less, number, count);
    rising = λ i j a b less p q. (let first = number_is i a p in let second = number_is j b q in omega (arith, less, first, second));
    all = λ number less.
        let count = length-map-range_with_len sample_method 0 n in
        let below : number < n = omega (arith, less, count) in
        inr (record {
          index = number;
          body = sample_body number;
          stands = method_at sample_body 0 n number below ∙ ap (λ j. Some (sample_body j)) (let e : 0 + number ≡ number = omega arith in e);
          number_is = refl;
        });
  }

  all_checked : (a m : ℕ) → AllByRecursion (Checked []) (map sample_body (range_with_len a m))
  all_checked a zero = tt
  all_checked a (suc m) = (is_checked [] a, all_checked (a + 1) m)

  -- however the bodies are numbered, they have two probes each
  pub probes_of : (names : Names) (bodies : List Body) → AreBodies names (sample_class_file n) bodies → all_probes bodies ≡ 2 * n
  probes_of names bodies are =
      same_probes bodies
      ∙ ap all_probes (same_below names names (sample_class_file n) (length (sample_class_file n).methods) bodies sample_bodies are (samples names))
      ∙ sym (same_probes sample_bodies) ∙ probes_are 0 n

-- ---- the class doesn't stay as it is

pub not_alone : (n : ℕ) → 1 ≤ n → is_left_alone (sample_class_file n) ≡ false
unfolding utf8_of
not_alone zero some = absurd (omega (arith, some))
not_alone (suc n) some = refl

pub class_probes : (n : ℕ) → 1 ≤ n → n ≤ 1000 → (bodies : List Body) → AreBodiesOf (sample_class_file n) bodies → all_probes bodies ≡ 2 * n
class_probes n some within bodies are =
    probes_of n within are.names bodies (subst (λ (t : Bool). AreBodiesUnless t are.names (sample_class_file n) bodies) (not_alone n some) are.are)
