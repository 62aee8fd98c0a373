-- What the entries do to types, by their places.
use Rattle.std.proofs.Common.{◌≡◌, ℕ, Bool, true, false, cond, Bor, List, [], ◌∷◌, ◌++◌, Option, Some, None, option_map, is_some, nat_eq, refl, sym}
use Rattle.std.proofs.Common.{ap, subst, ◌∙◌}
use Rattle.std.specs.Prelude.{IsSome, option_copied}
use Rattle.std.specs.HashMap.{HashMap, get}
use Rattle.std.proofs.lemmas.Bool.{eqb-true, true≢false}
use Rattle.std.proofs.lemmas.Option.{none-some, same_Some}
use Rattle.jc_methods.specs.declared.body.Use.{Use}
use Rattle.jc_methods.specs.declared.body.What.{What}
use Rattle.jc_methods.specs.declared.value_type.ValueType.{ValueType}
use Rattle.jc_methods.specs.Opcode as opcode
use Rattle.jc_bytes.specs.Descriptor.{FieldType, MethodType, IsMethodDescriptor, DescribesMethod}
use Rattle.jc_methods.specs.DescriptorTypes.{method_type_in}
use Rattle.jc_methods.specs.EntryState.{held_of}
use Rattle.jc_methods.specs.ValueTypes.{held_by, SaysReturn}
use Rattle.jc_methods.proofs.DescriptorTypesLaws.{method_again}
use Rattle.jc_kinds_after.specs.After.{return_for, return_op}
use Rattle.jc_methods.specs.VerificationTypes.{Names, VerificationType, Grows}
use Rattle.jc_methods.specs.WellMade.{what_used}
use Rattle.jc_kinds_after.specs.declared.effect.Effect.{Effect}
use Rattle.jc_kinds_after.specs.Does.{Says, SaysThere, AllSay}
use Rattle.jc_kinds_after.proofs.DoesLaws.{there_later}

-- ---- one entry more

-- what stands at a place, with an entry behind the others: the first one says it
pub used_before : (uses : List Use) (u : Use) (place : ℕ) (what : What) → what_used uses place ≡ Some what → what_used (uses ++ u ∷ []) place ≡ Some what
used_before [] u place what e = absurd (none-some what e)
used_before (v ∷ uses) u place what e = by (nat_eq v.place place) (used_before uses u place what) e
  where
    by : (b : Bool) → (what_used uses place ≡ Some what → what_used (uses ++ u ∷ []) place ≡ Some what)
        → cond b (Some v.what) (what_used uses place) ≡ Some what
        → cond b (Some v.what) (what_used (uses ++ u ∷ []) place) ≡ Some what
    by true more e = e
    by false more e = more e

pub used_last : (uses : List Use) (u : Use) (place : ℕ) → what_used uses place ≡ None
    → what_used (uses ++ u ∷ []) place ≡ cond (nat_eq u.place place) (Some u.what) None
used_last [] u place e = refl
used_last (v ∷ uses) u place e = by (nat_eq v.place place) (used_last uses u place) e
  where
    by : (b : Bool) → (what_used uses place ≡ None → what_used (uses ++ u ∷ []) place ≡ cond (nat_eq u.place place) (Some u.what) None)
        → cond b (Some v.what) (what_used uses place) ≡ None
        → cond b (Some v.what) (what_used (uses ++ u ∷ []) place) ≡ cond (nat_eq u.place place) (Some u.what) None
    by true more e = absurd (none-some v.what (sym e))
    by false more e = more e

-- where something is said of a place, something stands there, and where nothing is, nothing does
said_some : (names : Names) (o : Option What) (p : Option Effect) → SaysThere names o p → is_some p ≡ true → (what : What) × (o ≡ Some what)
said_some names (Some what) p says is = (what, refl)
said_some names None (Some f) says is = elim says [ ]
said_some names None None says is = absurd (true≢false (sym is))

said_none : (names : Names) (o : Option What) (p : Option Effect) → SaysThere names o p → is_some p ≡ false → o ≡ None
said_none names None p says is = refl
said_none names (Some what) None says is = elim says [ ]
said_none names (Some what) (Some f) says is = absurd (true≢false is)

module _ {S : Type 0} where
  pub none_said : (names : Names) (effects : HashMap ℕ Effect S) → effects.entries ≡ [] → AllSay names [] effects
  none_said names effects empty = record { there = λ place. rw empty tt }

  pub all_say_later : (old new : Names) (uses : List Use) (effects : HashMap ℕ Effect S) → Grows old new → AllSay old uses effects → AllSay new uses effects
  all_say_later old new uses effects g all =
      record { there = λ place. there_later old new (what_used uses place) (get nat_eq effects place) g (all.there place) }

  -- an entry for a place of an earlier one
  pub said_before : (names : Names) (uses : List Use) (effects : HashMap ℕ Effect S) (u : Use) → AllSay names uses effects
      → is_some (get nat_eq effects u.place) ≡ true
      → AllSay names (uses ++ u ∷ []) effects
  said_before names uses effects u all is = record { there = λ place. by place (what_used uses place) refl (all.there place) }
    where
      by : (place : ℕ) (o : Option What) → what_used uses place ≡ o → SaysThere names o (get nat_eq effects place)
          → SaysThere names (what_used (uses ++ u ∷ []) place) (get nat_eq effects place)
      by place (Some what) used says = subst (λ (o : Option What). SaysThere names o (get nat_eq effects place)) (sym (used_before uses u place what used)) says
      by place None used says =
          subst (λ (o : Option What). SaysThere names o (get nat_eq effects place)) (sym (used_last uses u place used)) (at (nat_eq u.place place) refl)
        where
          at : (b : Bool) → nat_eq u.place place ≡ b → SaysThere names (cond b (Some u.what) None) (get nat_eq effects place)
          at false apart = says
          at true same =
              let there = said_some names (what_used uses u.place) (get nat_eq effects u.place) (all.there u.place) is in
              absurd (none-some there.0 (sym used ∙ ap (what_used uses) (sym (eqb-true u.place place same)) ∙ there.1))

  -- the first entry for its place
  pub said_more : (names : Names) (uses : List Use) (effects new : HashMap ℕ Effect S) (u : Use) (e : Effect) → AllSay names uses effects → Says names u.what e
      → is_some (get nat_eq effects u.place) ≡ false → ((q : ℕ) → get nat_eq new q ≡ cond (nat_eq u.place q) (Some e) (get nat_eq effects q))
      → AllSay names (uses ++ u ∷ []) new
  said_more names uses effects new u e all says none updates =
      record { there = λ place. subst (SaysThere names (what_used (uses ++ u ∷ []) place)) (sym (updates place)) (at place (nat_eq u.place place) refl) }
    where
      at : (place : ℕ) (b : Bool) → nat_eq u.place place ≡ b → SaysThere names (what_used (uses ++ u ∷ []) place) (cond b (Some e) (get nat_eq effects place))
      at place true same =
          let is = eqb-true u.place place same in
          let nothing = said_none names (what_used uses place) (get nat_eq effects place) (all.there place)
          (ap (λ (n : ℕ). is_some (get nat_eq effects n)) (sym is) ∙ none) in
          subst (λ (o : Option What). SaysThere names o (Some e))
          (sym (used_last uses u place nothing ∙ ap (λ (b : Bool). cond b (Some u.what) None) same)) says
      at place false apart = by (what_used uses place) refl (all.there place)
        where
          by : (o : Option What) → what_used uses place ≡ o → SaysThere names o (get nat_eq effects place)
              → SaysThere names (what_used (uses ++ u ∷ []) place) (get nat_eq effects place)
          by (Some what) used h = subst (λ (o : Option What). SaysThere names o (get nat_eq effects place)) (sym (used_before uses u place what used)) h
          by None used h =
              subst (λ (o : Option What). SaysThere names o (get nat_eq effects place))
              (sym (used_last uses u place used ∙ ap (λ (b : Bool). cond b (Some u.what) None) apart)) h

  -- what is said of a place where something stands
  pub said_there : (names : Names) (uses : List Use) (effects : HashMap ℕ Effect S) (place : ℕ) (what : What) → AllSay names uses effects
      → what_used uses place ≡ Some what
      → (e : Effect) × (get nat_eq effects place ≡ Some e) × Says names what e
  said_there names uses effects place what all used =
      by (get nat_eq effects place) refl (subst (λ (o : Option What). SaysThere names o (get nat_eq effects place)) used (all.there place))
    where
      by : (p : Option Effect) → get nat_eq effects place ≡ p → SaysThere names (Some what) p
          → (e : Effect) × (get nat_eq effects place ≡ Some e) × Says names what e
      by (Some e) is says = (e, is, says)
      by None is says = elim says [ ]

-- what a look finds that lends a value
pub lent_some : (r : Option (Bor Effect)) (e : Effect) → option_copied r ≡ Some e → IsSome r
lent_some (Some b) e is = refl
lent_some None e is = absurd (none-some e is)

pub lent_is : (r : Option (Bor Effect)) (b : Bor Effect) (e : Effect) → r ≡ Some b → option_copied r ≡ Some e → b.now ≡ e
lent_is r b e there is = same_Some b.now e (ap option_copied (sym there) ∙ is)

-- ---- returns

no_result : (h : VerificationType) → None ≡ Some h → ⊥
no_result h e = cc

pub return_some : (desc : List ℕ) (r : Option ValueType) (v : ValueType) (op : ℕ) → IsMethodDescriptor desc
    → ((type : MethodType) → DescribesMethod desc type → SaysReturn r type.returns) → r ≡ Some v
    → op ≡ return_for (held_by v) → op ≡ return_op (method_type_in desc).returns
return_some desc r v op d says is e =
    e ∙ by d.0.returns (ap (option_map held_by) (sym is) ∙ (says d.0 d.1).held_is)
    ∙ ap (λ (t : MethodType). return_op t.returns) (sym (method_again desc d.0 d.1))
  where
    by : (o : Option FieldType) → Some (held_by v) ≡ option_map held_of o → return_for (held_by v) ≡ return_op o
    by None f = absurd (no_result (held_by v) (sym f))
    by (Some t) f = ap return_for (same_Some (held_by v) (held_of t) f)

pub return_none : (desc : List ℕ) (r : Option ValueType) → IsMethodDescriptor desc
    → ((type : MethodType) → DescribesMethod desc type → SaysReturn r type.returns) → r ≡ None
    → opcode.return ≡ return_op (method_type_in desc).returns
return_none desc r d says is =
    by d.0.returns (ap (option_map held_by) (sym is) ∙ (says d.0 d.1).held_is) ∙ ap (λ (t : MethodType). return_op t.returns) (sym (method_again desc d.0 d.1))
  where
    by : (o : Option FieldType) → None ≡ option_map held_of o → opcode.return ≡ return_op o
    by None f = refl
    by (Some t) f = absurd (no_result (held_of t) f)
