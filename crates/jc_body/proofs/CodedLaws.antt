-- A method has one code, and what stands in the way of it.
use Rattle.std.proofs.Common.{◌≡◌, ◌⊎◌, inl, inr, ℕ, List, [], ◌∷◌, map, sym, ◌∙◌, subst}
use Rattle.jc_bytes.specs.declared.refusal.RefusalKind.{RefusalKind}
use Rattle.jc_pool.specs.Pool.{PoolValue}
use Rattle.jc_class.specs.declared.class_file.Member.{Member}
use Rattle.jc_insn.specs.Spells.{Spells}
use Rattle.jc_insn.proofs.OneReadingLaws.{one_list, never_both}
use Rattle.jc_body.specs.declared.items.CodeItems.{CodeItems}
use Rattle.jc_body.specs.declared.coded.Coded.{Coded}
use Rattle.jc_body.specs.CodeForm.{IsCodeText}
use Rattle.jc_body.specs.Coded.{IsBodiless, HasNoCode, HasCode, HasItems, IsCoded, code_bodies}
use Rattle.jc_body.specs.Faults.{NoSingleCode, MalformedCode, IsStopped, OfCode}
use Rattle.jc_bytes.specs.Least.{IsNowhere, IsLeast}
use Rattle.jc_body.specs.First.{Fault, IsFirstFault, AreNowhere}
use Rattle.jc_body.proofs.FormLaws.{one_code_text}

one_of : {x y : List ℕ} (l : List (List ℕ)) → l ≡ x ∷ [] → l ≡ y ∷ [] → x ≡ y
one_of l p q = head (sym p ∙ q)
  where
    head : {x y : List ℕ} → x ∷ [] ≡ y ∷ [] → x ≡ y
    head e = cc

module _ (pool : PoolValue) (method : Member) where
  pub one_bytes : (a b : List ℕ) → HasCode pool method a → HasCode pool method b → a ≡ b
  one_bytes a b p q = one_of (code_bodies pool method) p.single q.single

  pub one_items : (a b : CodeItems) → HasItems pool method a → HasItems pool method b → a ≡ b
  one_items a b p q = one_code_text pool q.bytes a b (subst (λ (l : List ℕ). IsCodeText pool l a) (one_bytes p.bytes q.bytes p.code q.code) p.text) q.text

  pub one_coded : (a b : Coded) → IsCoded pool method a → IsCoded pool method b → a ≡ b
  one_coded a b p q =
      let items = one_items a.items b.items p.items q.items in
      let same = one_list b.items.code a.insns b.insns a.starts b.starts (subst (λ (c : CodeItems). Spells c.code a.insns a.starts) items p.spelled) q.spelled in
      λ i. record { items = items i; insns = same.0 i; starts = same.1 i }

  -- ---- a method without code

  pub no_items : HasNoCode pool method → (items : CodeItems) → HasItems pool method items → ⊥
  no_items none items has = has.code.concrete none.bodiless

  pub no_code : HasNoCode pool method → IsNowhere (NoSingleCode pool method)
  no_code none p fault = by fault.fault
    where
      by : (IsBodiless method × (code_bodies pool method ≡ [] → ⊥)) ⊎ ((IsBodiless method → ⊥) × ((bytes : List ℕ) → code_bodies pool method ≡ bytes ∷ [] → ⊥)) → ⊥
      by (inl f) = f.1 none.none
      by (inr f) = f.0 none.bodiless

  pub not_malformed : HasNoCode pool method → IsNowhere (MalformedCode pool method)
  not_malformed none p fault = fault.code.concrete none.bodiless

  pub not_stopped : HasNoCode pool method → (kind : RefusalKind) → IsNowhere (IsStopped kind pool method)
  not_stopped none kind p fault = no_items none fault.items fault.has

  pub none_of_code : HasNoCode pool method → (F : Coded → Fault) → IsNowhere (OfCode pool method F)
  none_of_code none F p fault = no_items none fault.coded.items fault.is.items

  -- ---- a method with one Code attribute

  pub is_single : (bytes : List ℕ) → HasCode pool method bytes → IsNowhere (NoSingleCode pool method)
  is_single bytes code p fault = by fault.fault
    where
      by : (IsBodiless method × (code_bodies pool method ≡ [] → ⊥)) ⊎ ((IsBodiless method → ⊥) × ((bytes : List ℕ) → code_bodies pool method ≡ bytes ∷ [] → ⊥)) → ⊥
      by (inl f) = code.concrete f.0
      by (inr f) = f.1 bytes code.single

  pub is_of_form : (items : CodeItems) → HasItems pool method items → IsNowhere (MalformedCode pool method)
  is_of_form items has p fault = fault.fault items (subst (λ (l : List ℕ). IsCodeText pool l items) (one_bytes has.bytes fault.bytes has.code fault.code) has.text)

  pub goes_on : (coded : Coded) → IsCoded pool method coded → (kind : RefusalKind) → IsNowhere (IsStopped kind pool method)
  goes_on coded is kind p fault =
      let items = one_items coded.items fault.items is.items fault.has in
      let spelled = subst (λ (c : CodeItems). Spells c.code coded.insns coded.starts) items is.spelled in
      never_both 0 fault.items.code spelled.spelled fault.fault.before coded.starts kind p spelled.text fault.fault.fault

  -- ---- faults of the code

  module _ (coded : Coded) (is : IsCoded pool method coded) where
    pub least_of_code : (F : Coded → Fault) (p : ℕ) → IsLeast (F coded) p → IsLeast (OfCode pool method F) p
    least_of_code F p least = record {
      there = record { coded = coded; is = is; fault = least.there };
      first = λ before less o. least.first before less (subst (λ (c : Coded). F c before) (one_coded o.coded coded o.is is) o.fault);
    }

    pub nowhere_of_code : (F : Coded → Fault) → IsNowhere (F coded) → IsNowhere (OfCode pool method F)
    nowhere_of_code F none p o = none p (subst (λ (c : Coded). F c p) (one_coded o.coded coded o.is is) o.fault)

    pub first_of_code : (Fs : List (Coded → Fault)) (p : ℕ) → IsFirstFault (map (λ F. F coded) Fs) p → IsFirstFault (map (OfCode pool method) Fs) p
    first_of_code [] p a = a
    first_of_code (F ∷ Fs) p (inl a) = inl (least_of_code F p a)
    first_of_code (F ∷ Fs) p (inr a) = inr (nowhere_of_code F a.0, first_of_code Fs p a.1)

    pub nowheres_of_code : (Fs : List (Coded → Fault)) → AreNowhere (map (λ F. F coded) Fs) → AreNowhere (map (OfCode pool method) Fs)
    nowheres_of_code [] none = tt
    nowheres_of_code (F ∷ Fs) none = (nowhere_of_code F none.0, nowheres_of_code Fs none.1)
