-- Values on a stack against types.
use Rattle.std.proofs.Common.{◌≡◌, ℕ, ◌-◌, Bool, true, false, cond, List, [], ◌∷◌, ◌++◌, length, take, drop, reverse, map, Option}
use Rattle.std.proofs.Common.{Some, None, refl, sym, ◌∙◌, ap, subst, arith, append_assoc, append-nil, length-append}
use Rattle.std.proofs.lemmas.List.{map-append, reverse-append, reverse-reverse}
use Rattle.std.proofs.lemmas.Option.{same_Some}
use Rattle.std.proofs.lemmas.Bool.{false≢true}
use Rattle.jc_bytes.proofs.OptionLaws.{none_some}
use Rattle.jc_bytes.proofs.DecoderLaws.{guard_some}
use Rattle.jc_methods.specs.VerificationTypes.{VerificationType}
use Rattle.jc_methods.specs.VerificationTypes as verification
use Rattle.jc_kinds_after.specs.declared.want.Want.{Want}
use Rattle.jc_kinds_after.specs.declared.want.Want.TheVariants as wants
use Rattle.jc_kinds_after.specs.Wants.{accepts}
use Rattle.jc_kinds_after.specs.Step.{kind, StackEffect, below, upper, has_form, limited, moved as moved_kinds, moved_by}
use Rattle.jc_kinds_after.specs.Table.{form}
use Rattle.jc_machine_model.specs.Values.{Value, int, long, is_pair, is_reference}
use Rattle.jc_machine_model.specs.Fits.{IsInt, IsLong, IsOfBy, AreOfBy, IsStackBy}
use Rattle.jc_machine_laws.proofs.TypedLaws.{References}

pub reverse_map : {X Y : Type 0} (g : X → Y) (xs : List X) → reverse (map g xs) ≡ map g (reverse xs)
reverse_map g [] = refl
reverse_map g (x ∷ xs) =
    reverse-append (g x ∷ []) (map g xs) ∙ ap (λ l. l ++ g x ∷ []) (reverse_map g xs)
    ∙ sym (map-append g (reverse xs) (x ∷ [])) ∙ ap (map g) (sym (reverse-append (x ∷ []) xs))

-- ---- one value

-- a reference is no long
pub reference_single : (v : Value) → is_reference v ≡ true → is_pair v ≡ false
reference_single (long x) e = absurd (false≢true e)
reference_single v e = refl

pub int_single : (v : Value) → IsInt v → is_pair v ≡ false
int_single (int x) e = refl
int_single v e = absurd e

pub long_pair : (v : Value) → IsLong v → is_pair v ≡ true
long_pair (long x) e = refl
long_pair v e = absurd e

pub top_refused : (want : Want) → accepts want verification.top ≡ true → ⊥
top_refused wants.Int e = false≢true e
top_refused _ e = false≢true e

module _ (R : References) where
  -- a value takes as many slots as its type, where that is one for an operand
  pub pair_as_type : (want : Want) (v : Value) (h : VerificationType) → IsOfBy R.holds v h → accepts want h ≡ true
      → is_pair v ≡ verification.is_pair h
  pair_as_type want v verification.top k a = absurd (top_refused want a)
  pair_as_type want v verification.int k a = int_single v k
  pair_as_type want v verification.float k a = absurd k
  pair_as_type want v verification.double k a = absurd k
  pair_as_type want v verification.long k a = long_pair v k
  pair_as_type want v h k a = reference_single v (R.reference v h k)

  -- ---- pushing and popping

  pub pushed : (v : Value) (stack : List Value) (h : VerificationType) (ks : List VerificationType) → IsOfBy R.holds v h
      → IsStackBy R.holds stack ks → IsStackBy R.holds (v ∷ stack) (ks ++ h ∷ [])
  pushed v stack h ks p q = subst (λ l. AreOfBy R.holds (v ∷ stack) l) (sym (reverse-append ks (h ∷ []))) (p, q)

  -- the type of the value on top, and the types below it
  pub record Top (v : Value) (stack : List Value) (ks : List VerificationType) : Type 0 where
    pub low : List VerificationType
    pub kind : VerificationType
    pub parts : ks ≡ low ++ kind ∷ []
    pub is : IsOfBy R.holds v kind
    pub below : IsStackBy R.holds stack low

  pub top_by : (v : Value) (stack : List Value) (ks r : List VerificationType) → reverse ks ≡ r → AreOfBy R.holds (v ∷ stack) r → Top v stack ks
  top_by v stack ks [] e p = absurd p
  top_by v stack ks (h ∷ r) e p = record {
    low = reverse r;
    kind = h;
    parts = sym (reverse-reverse ks) ∙ ap reverse e ∙ reverse-append (h ∷ []) r;
    is = p.0;
    below = subst (λ l. AreOfBy R.holds stack l) (sym (reverse-reverse r)) p.1;
  }

  pub top_of : (v : Value) (stack : List Value) (ks : List VerificationType) → IsStackBy R.holds (v ∷ stack) ks → Top v stack ks
  top_of v stack ks p = top_by v stack ks (reverse ks) refl p

  -- the types of the values on top, the deepest first, and the types below them
  pub record Tops (vs stack : List Value) (ks : List VerificationType) : Type 0 where
    pub low : List VerificationType
    pub kinds : List VerificationType
    pub parts : ks ≡ low ++ kinds
    pub count : length kinds ≡ length vs
    pub are : AreOfBy R.holds vs (reverse kinds)
    pub below : IsStackBy R.holds stack low

  pub tops_of : (vs stack : List Value) (ks : List VerificationType) → IsStackBy R.holds (vs ++ stack) ks → Tops vs stack ks
  tops_of [] stack ks p = record { low = ks; kinds = []; parts = sym (append-nil ks); count = refl; are = tt; below = p }
  tops_of (v ∷ vs) stack ks p =
      let t = top_of v (vs ++ stack) ks p in
      let r = tops_of vs stack t.low t.below in
      let n = r.count in
      let m = length-append r.kinds (t.kind ∷ []) in
      record {
        low = r.low;
        kinds = r.kinds ++ t.kind ∷ [];
        parts = t.parts ∙ ap (λ l. l ++ t.kind ∷ []) r.parts ∙ append_assoc r.low r.kinds (t.kind ∷ []);
        count = grind (arith, n, m);
        are = subst (λ l. AreOfBy R.holds (v ∷ vs) l) (sym (reverse-append r.kinds (t.kind ∷ []))) (t.is, r.are);
        below = r.below;
      }

pub front_is : (low kinds : List VerificationType) → take (length low) (low ++ kinds) ≡ low
front_is [] kinds = refl
front_is (h ∷ low) kinds = ap (λ l. h ∷ l) (front_is low kinds)

pub back_is : (low kinds : List VerificationType) → drop (length low) (low ++ kinds) ≡ kinds
back_is [] kinds = refl
back_is (h ∷ low) kinds = back_is low kinds

pub low_length : (low kinds : List VerificationType) (n : ℕ) → length kinds ≡ n → length (low ++ kinds) - n ≡ length low
low_length low kinds n e = let m = length-append low kinds in omega (arith, e, m)

pub below_is : (low kinds : List VerificationType) (n : ℕ) → length kinds ≡ n → below n (low ++ kinds) ≡ low
below_is low kinds n e = ap (λ k. take k (low ++ kinds)) (low_length low kinds n e) ∙ front_is low kinds

pub upper_is : (low kinds : List VerificationType) (n : ℕ) → length kinds ≡ n → upper n (low ++ kinds) ≡ kinds
upper_is low kinds n e = ap (λ k. drop k (low ++ kinds)) (low_length low kinds n e) ∙ back_is low kinds

-- ---- one form

pub not_chosen : {X : Type 0} (b : Bool) (o : Option X) (y : X) → cond b None o ≡ Some y → o ≡ Some y
not_chosen true o y e = absurd (none_some e)
not_chosen false o y e = e

pub limited_is : (b : Bool) (ks t : List VerificationType) → cond b (Some ks) None ≡ Some t → ks ≡ t
limited_is true ks t e = same_Some ks t e
limited_is false ks t e = absurd (none_some e)

-- where the one form fits, the state after it is that of the form
pub one_moved : (most : ℕ) (f : StackEffect) (ks t : List VerificationType) → moved_by most (f ∷ []) ks ≡ Some t → moved_kinds f ks ≡ t
one_moved most f ks t e = let p = guard_some (has_form f ks) (limited most (moved_kinds f ks)) t e in limited_is _ (moved_kinds f ks) t p.1

module _ (R : References) where
  -- values that are taken from the top, and one that stands in their place
  pub leaf : (most : ℕ) (vs stack : List Value) (ks : List VerificationType) (wanted : List Want) (h : VerificationType) (v : Value)
      → length wanted ≡ length vs → IsStackBy R.holds (vs ++ stack) ks → IsOfBy R.holds v h
      → (t : List VerificationType) → moved_by most (form wanted (kind h ∷ []) ∷ []) ks ≡ Some t → IsStackBy R.holds (v ∷ stack) t
  leaf most vs stack ks wanted h v n p q t e =
      let r = tops_of R vs stack ks p in
      let b = ap (λ l. below (length wanted) l) r.parts ∙ below_is r.low r.kinds (length wanted) (r.count ∙ sym n) in
      subst (λ l. IsStackBy R.holds (v ∷ stack) l) (ap (λ l. l ++ h ∷ []) (sym b) ∙ one_moved most (form wanted (kind h ∷ [])) ks t e) (pushed R v stack h r.low q r.below)
