-- Bodies that are listed in the order of their methods.
use Rattle.std.proofs.Common.{◌≡◌, ◌⊎◌, inl, inr, ℕ, zero, suc, ◌+◌, ◌-◌, ◌<◌, ◌≤◌, List, [], ◌∷◌, ◌++◌, length, option_map, Some, slice_get, sym, ◌∙◌, ap, subst, arith}
use Rattle.std.proofs.lemmas.Bool.{cases_order}
use Rattle.std.proofs.lemmas.Option.{slice_get_within, slice_get-map}
use Rattle.jc_methods.specs.VerificationTypes.{Names, Grows}
use Rattle.jc_methods.specs.declared.body.Body.{Body}
use Rattle.jc_bytes.proofs.ListLaws.{put_stays, put_last, put_cases, below_or_last, item_at}
use Rattle.jc_class.specs.declared.class_file.ClassFile.{ClassFile}
use Rattle.jc_body.specs.BodyOf.{BodyOf, Bodiless}
use Rattle.jc_instrument.specs.Bodies.{IsListed, AreBodiesBelow}
use Rattle.jc_instrument.specs.BodiesWithStates.{BodyWithStates, bodies_of}
use Rattle.jc_instrument.proofs.OneBodyLaws.{grown_body}

-- ---- an item

pub body_at : (works : List BodyWithStates) (i : ℕ) (w : BodyWithStates) → slice_get works i ≡ Some w → slice_get (bodies_of works) i ≡ Some w.body
body_at works i w stands = slice_get-map (λ (v : BodyWithStates). v.body) works i ∙ ap (option_map (λ (v : BodyWithStates). v.body)) stands

-- ---- bodies

pub no_bodies : (names : Names) (c : ClassFile) (bodies : List Body) → bodies ≡ [] → AreBodiesBelow names c 0 bodies
no_bodies names c bodies none = subst (AreBodiesBelow names c 0) (sym none) (record {
  each = λ i b stands. absurd (nothing i b stands);
  below = λ i b stands. absurd (nothing i b stands);
  rising = λ i j a b less at stands. absurd (nothing i a at);
  all = λ number less. absurd (omega (arith, less));
})
  where
    nothing : (i : ℕ) (b : Body) → slice_get [] i ≡ Some b → ⊥
    nothing i b e = cc

module _ (names : Names) (c : ClassFile) (n : ℕ) (bodies : List Body) (before : AreBodiesBelow names c n bodies) where
  -- the method with the next number has no code
  pub without_body : Bodiless c n → AreBodiesBelow names c (n + 1) bodies
  without_body none = record {
    each = before.each;
    below = λ i b stands. let less = before.below i b stands in omega (arith, less);
    rising = before.rising;
    all = λ number less. by number (below_or_last n number less);
  }
    where
      by : (number : ℕ) → (number < n) ⊎ (number ≡ n) → Bodiless c number ⊎ IsListed bodies number
      by number (inl less) = before.all number less
      by number (inr last) = inl (subst (Bodiless c) (sym last) none)

  -- it has this body
  pub with_body : (b : Body) → BodyOf names c n b → AreBodiesBelow names c (n + 1) (bodies ++ b ∷ [])
  with_body b body = record {
    each = λ i x stands. each i x (put_cases bodies b x i stands);
    below = λ i x stands. below i x (put_cases bodies b x i stands);
    rising = λ i j x y less at stands. rising i j x y less (put_cases bodies b x i at) (put_cases bodies b y j stands);
    all = λ number less. all number (below_or_last n number less);
  }
    where
      number_is : b.method ≡ n
      number_is = body.is.parts.number_is

      each : (i : ℕ) (x : Body) → (slice_get bodies i ≡ Some x) ⊎ ((i ≡ length bodies) × (b ≡ x)) → BodyOf names c x.method x
      each i x (inl there) = before.each i x there
      each i x (inr last) = subst (λ (y : Body). BodyOf names c y.method y) last.1 (subst (λ (m : ℕ). BodyOf names c m b) (sym number_is) body)

      below : (i : ℕ) (x : Body) → (slice_get bodies i ≡ Some x) ⊎ ((i ≡ length bodies) × (b ≡ x)) → x.method < n + 1
      below i x (inl there) = let less = before.below i x there in omega (arith, less)
      below i x (inr last) = let m : x.method ≡ n = sym (ap (λ (y : Body). y.method) last.1) ∙ number_is in omega (arith, m)

      rising : (i j : ℕ) (x y : Body) → i < j → (slice_get bodies i ≡ Some x) ⊎ ((i ≡ length bodies) × (b ≡ x)) → (slice_get bodies j ≡ Some y) ⊎ ((j ≡ length bodies) × (b ≡ y)) → x.method < y.method
      rising i j x y less (inl at) (inl there) = before.rising i j x y less at there
      rising i j x y less (inl at) (inr last) =
          let m : y.method ≡ n = sym (ap (λ (z : Body). z.method) last.1) ∙ number_is in
          let low = before.below i x at in
          omega (arith, m, low)
      rising i j x y less (inr at) (inl there) = let within = slice_get_within bodies j y there in let end = at.0 in absurd (omega (arith, less, within, end))
      rising i j x y less (inr at) (inr last) = let one = at.0 in let two = last.0 in absurd (omega (arith, less, one, two))

      all : (number : ℕ) → (number < n) ⊎ (number ≡ n) → Bodiless c number ⊎ IsListed (bodies ++ b ∷ []) number
      all number (inl less) = by (before.all number less)
        where
          by : Bodiless c number ⊎ IsListed bodies number → Bodiless c number ⊎ IsListed (bodies ++ b ∷ []) number
          by (inl none) = inl none
          by (inr l) = inr (record { index = l.index; body = l.body; stands = put_stays bodies b l.body l.index l.stands; number_is = l.number_is })
      all number (inr last) = inr (record { index = length bodies; body = b; stands = put_last bodies b; number_is = number_is ∙ sym last })

-- the same under more names
pub grown_bodies : (old new : Names) (c : ClassFile) (n : ℕ) (bodies : List Body) → Grows old new → AreBodiesBelow old c n bodies → AreBodiesBelow new c n bodies
grown_bodies old new c n bodies grows are = record {
  each = λ i b stands. grown_body old new c b.method b grows (are.each i b stands);
  below = are.below;
  rising = are.rising;
  all = are.all;
}

-- ---- how many there are

place_most : (names : Names) (c : ClassFile) (n : ℕ) (bodies : List Body) → AreBodiesBelow names c n bodies → (i : ℕ) (b : Body) → slice_get bodies i ≡ Some b → i ≤ b.method
place_most names c n bodies are zero b stands = omega arith
place_most names c n bodies are (suc i) b stands =
    let within = slice_get_within bodies (suc i) b stands in
    let before = item_at bodies i (omega (arith, within)) in
    let most = place_most names c n bodies are i before.0 before.1 in
    let less = are.rising i (suc i) before.0 b (omega arith) before.1 stands in
    omega (arith, most, less)

-- at most as many as methods
pub few_bodies : (names : Names) (c : ClassFile) (n : ℕ) (bodies : List Body) → AreBodiesBelow names c n bodies → length bodies ≤ n
few_bodies names c n bodies are = by (cases_order (length bodies) 0)
  where
    by : (length bodies ≡ 0) ⊎ ((length bodies < 0) ⊎ (0 < length bodies)) → length bodies ≤ n
    by (inl none) = omega (arith, none)
    by (inr (inl less)) = omega (arith, less)
    by (inr (inr some)) =
        let last = item_at bodies (length bodies - 1) (omega (arith, some)) in
        let most = place_most names c n bodies are (length bodies - 1) last.0 last.1 in
        let less = are.below (length bodies - 1) last.0 last.1 in
        omega (arith, some, most, less)
