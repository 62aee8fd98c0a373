-- Listed bodies, from the last one on.
use Rattle.std.proofs.Common.{◌≡◌, ◌⊎◌, inl, inr, ℕ, zero, suc, ◌<◌, List, [], ◌∷◌, ◌++◌, length, Some, slice_get, refl, sym, ◌∙◌, ap, subst, arith}
use Rattle.std.proofs.lemmas.Option.{none-some, same_Some, slice_get_within}
use Rattle.jc_methods.specs.VerificationTypes.{Names}
use Rattle.jc_methods.specs.declared.body.Body.{Body}
use Rattle.jc_bytes.proofs.ListLaws.{put_stays, put_last, put_cases, below_or_last}
use Rattle.jc_class.specs.declared.class_file.ClassFile.{ClassFile}
use Rattle.jc_body.specs.BodyOf.{BodyOf, Bodiless}
use Rattle.jc_body.proofs.AnswerLaws.{bodiless_or_body}
use Rattle.jc_instrument.specs.Bodies.{IsListed, AreBodiesBelow}

-- ---- the last item of a list

-- an item behind which none stands
ends_with : {X : Type 0} (xs : List X) (i : ℕ) (x : X) → slice_get xs i ≡ Some x
    → ((j : ℕ) (y : X) → i < j → slice_get xs j ≡ Some y → ⊥) → (front : List X) × (xs ≡ front ++ x ∷ [])
ends_with [] i x at none = absurd (none-some x at)
ends_with (z ∷ []) zero x at none = ([], ap (λ y. y ∷ []) (same_Some z x at))
ends_with (z ∷ (y ∷ ys)) zero x at none = absurd (none 1 y (omega arith) refl)
ends_with (z ∷ ys) (suc i) x at none =
    let rest = ends_with ys i x at (λ j y less there. none (suc j) y (omega (arith, less)) there) in
    (z ∷ rest.0, ap (λ l. z ∷ l) rest.1)

-- ---- bodies

-- the last body is that of the method with the number n, and in front of it stand those of the methods below
pub record EndsWith (names : Names) (c : ClassFile) (n : ℕ) (bodies : List Body) : Type 0 where
  pub front : List Body
  pub last : Body
  pub parts : bodies ≡ front ++ last ∷ []
  pub body : BodyOf names c n last
  pub before : AreBodiesBelow names c n front

pub less_or_last : (n m : ℕ) → m < suc n → (m < n) ⊎ (m ≡ n)
less_or_last n m less = below_or_last n m (omega (arith, less))

module _ (names : Names) (c : ClassFile) (n : ℕ) (bodies : List Body) (are : AreBodiesBelow names c (suc n) bodies) where
  without_last : Bodiless c n → AreBodiesBelow names c n bodies
  without_last none = record {
    each = are.each;
    below = λ i b stands. below i b stands (less_or_last n b.method (are.below i b stands));
    rising = are.rising;
    all = λ number less. are.all number (omega (arith, less));
  }
    where
      below : (i : ℕ) (b : Body) → slice_get bodies i ≡ Some b → (b.method < n) ⊎ (b.method ≡ n) → b.method < n
      below i b stands (inl less) = less
      below i b stands (inr last) = absurd
          (bodiless_or_body names c n b none (subst (λ (m : ℕ). BodyOf names c m b) last (are.each i b stands)))

  module _ (front : List Body) (last : Body) (parts : bodies ≡ front ++ last ∷ []) (number_is : last.method ≡ n) where
    stays : (i : ℕ) (b : Body) → slice_get front i ≡ Some b → slice_get bodies i ≡ Some b
    stays i b stands = ap (λ l. slice_get l i) parts ∙ put_stays front last b i stands

    at_end : slice_get bodies (length front) ≡ Some last
    at_end = ap (λ l. slice_get l (length front)) parts ∙ put_last front last

    in_front : (number : ℕ) → number < n → (l : IsListed bodies number)
        → (slice_get front l.index ≡ Some l.body) ⊎ ((l.index ≡ length front) × (last ≡ l.body)) → IsListed front number
    in_front number less l (inl there) = record { index = l.index; body = l.body; stands = there; number_is = l.number_is }
    in_front number less l (inr end) =
        let method : last.method ≡ l.body.method = ap (λ (x : Body). x.method) end.1 in
        let is = l.number_is in
        absurd (omega (arith, less, method, is, number_is))

    all_in_front : (number : ℕ) → number < n → Bodiless c number ⊎ IsListed bodies number → Bodiless c number ⊎ IsListed front number
    all_in_front number less (inl none) = inl none
    all_in_front number less (inr l) =
        inr (in_front number less l (put_cases front last l.body l.index (ap (λ k. slice_get k l.index) (sym parts) ∙ l.stands)))

    in_two : EndsWith names c n bodies
    in_two = record {
      front = front;
      last = last;
      parts = parts;
      body = subst (λ (m : ℕ). BodyOf names c m last) number_is (are.each (length front) last at_end);
      before = record {
        each = λ i b stands. are.each i b (stays i b stands);
        below = λ i b stands.
            let within = slice_get_within front i b stands in
            let less = are.rising i (length front) b last within (stays i b stands) at_end in
            omega (arith, less, number_is);
        rising = λ i j a b less at stands. are.rising i j a b less (stays i a at) (stays j b stands);
        all = λ number less. all_in_front number less (are.all number (omega (arith, less)));
      };
    }

  none_later : (l : IsListed bodies n) (j : ℕ) (y : Body) → l.index < j → slice_get bodies j ≡ Some y → ⊥
  none_later l j y less there =
      let more = are.rising l.index j l.body y less l.stands there in
      let low = are.below j y there in
      let is = l.number_is in
      omega (arith, more, low, is)

  with_last : IsListed bodies n → EndsWith names c n bodies
  with_last l =
      let found = ends_with bodies l.index l.body l.stands (none_later l) in
      in_two found.0 l.body found.1 l.number_is

  pub last_or_none : (Bodiless c n × AreBodiesBelow names c n bodies) ⊎ EndsWith names c n bodies
  last_or_none = by (are.all n (omega arith))
    where
      by : Bodiless c n ⊎ IsListed bodies n → (Bodiless c n × AreBodiesBelow names c n bodies) ⊎ EndsWith names c n bodies
      by (inl none) = inl (none, without_last none)
      by (inr l) = inr (with_last l)

-- below no method there is no body
pub none_below : (names : Names) (c : ClassFile) (bodies : List Body) → AreBodiesBelow names c 0 bodies → bodies ≡ []
none_below names c [] are = refl
none_below names c (b ∷ bodies) are = let less = are.below 0 b refl in absurd (omega (arith, less))
