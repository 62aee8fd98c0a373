-- The classes that a body uses, by their places in the pool.
use Rattle.std.proofs.Common.{◌≡◌, ℕ, ◌<◌, Bool, true, false, cond, List, [], ◌∷◌, ◌++◌, length, Option, Some, None, is_some, nat_eq, refl, sym, ◌∙◌, ap, subst, arith, length-append}
use Rattle.std.specs.HashMap.{HashMap, get}
use Rattle.std.specs.List.{slice_get}
use Rattle.std.proofs.lemmas.List.{get_or_append_left}
use Rattle.std.proofs.lemmas.Bool.{eqb-true, true≢false}
use Rattle.std.proofs.lemmas.Option.{none-some, slice_get_within, slice_get-get_or}
use Rattle.jc_bytes.specs.Names.{with_name}
use Rattle.jc_methods.specs.declared.body.Use.{Use}
use Rattle.jc_methods.specs.declared.body.What.{What}
use Rattle.jc_methods.specs.declared.body.What.TheVariants as whats
use Rattle.jc_methods.specs.VerificationTypes.{Names, Grows}
use Rattle.jc_methods.specs.WellMade.{what_used}
use Rattle.jc_methods.proofs.MetNamesLaws.{name_grows}
use Rattle.jc_kinds_after.proofs.UsesLaws.{used_before, used_last}
use Rattle.jc_refs_check.specs.Unguarded.{IsNumberOf, SaysClass, AreUsedClasses}

-- ---- what is said of a place

pub named_grows : (mid new : Names) (text : List ℕ) → new ≡ with_name mid text → Grows mid new
named_grows mid new text is = subst (Grows mid) (sym is) (name_grows mid text)

later_number : (old new : Names) (name : List ℕ) (class : ℕ) → Grows old new → IsNumberOf old name class → IsNumberOf new name class
later_number old new name class g is =
    let within : class < length old = slice_get_within old class name is.is in
    record {
      is = ap (λ (names : Names). slice_get names class) g.1
          ∙ slice_get-get_or (old ++ g.0) class [] (omega (arith, within, length-append old g.0))
          ∙ ap Some (get_or_append_left old g.0 [] class within)
          ∙ sym (slice_get-get_or old class [] within)
          ∙ is.is;
    }

said_later : (old new : Names) (o : Option What) (p : Option ℕ) → Grows old new → SaysClass old o p → SaysClass new o p
said_later old new (Some (whats.Class name)) (Some class) g says = later_number old new name class g says
said_later old new (Some (whats.Class name)) None g says = says
said_later old new (Some what) p g says = tt
said_later old new None (Some class) g says = says
said_later old new None None g says = tt

none_there : (names : Names) (p : Option ℕ) → SaysClass names None p → p ≡ None
none_there names None says = refl
none_there names (Some class) says = absurd says

module _ {S : Type 0} where
  pub used_later : (old new : Names) (uses : List Use) (used : HashMap ℕ ℕ S) → Grows old new → AreUsedClasses old uses used → AreUsedClasses new uses used
  used_later old new uses used g are = record { there = λ place. said_later old new (what_used uses place) (get nat_eq used place) g (are.there place) }

  module _ (names : Names) (uses : List Use) (used : HashMap ℕ ℕ S) (u : Use) (are : AreUsedClasses names uses used) where
    -- an entry for a place of an earlier one
    pub used_again : is_some (get nat_eq used u.place) ≡ true → AreUsedClasses names (uses ++ u ∷ []) used
    used_again some = record { there = λ place. by place (what_used uses place) refl (are.there place) }
      where
        by : (place : ℕ) (o : Option What) → what_used uses place ≡ o → SaysClass names o (get nat_eq used place) → SaysClass names (what_used (uses ++ u ∷ []) place) (get nat_eq used place)
        by place (Some what) e says = subst (λ (o : Option What). SaysClass names o (get nat_eq used place)) (sym (used_before uses u place what e)) says
        by place None e says = subst (λ (o : Option What). SaysClass names o (get nat_eq used place)) (sym (used_last uses u place e)) (at (nat_eq u.place place) refl)
          where
            at : (b : Bool) → nat_eq u.place place ≡ b → SaysClass names (cond b (Some u.what) None) (get nat_eq used place)
            at false apart = says
            at true same =
                let none : get nat_eq used place ≡ None = none_there names (get nat_eq used place) says in
                absurd (true≢false (sym some ∙ ap (λ (p : ℕ). is_some (get nat_eq used p)) (eqb-true u.place place same) ∙ ap is_some none))

    -- an entry for something else than a class
    pub used_other : ((name : _) → u.what ≡ whats.Class name → ⊥) → AreUsedClasses names (uses ++ u ∷ []) used
    used_other other = record { there = λ place. by place (what_used uses place) refl (are.there place) }
      where
        any : (what : What) (p : Option ℕ) → ((name : _) → what ≡ whats.Class name → ⊥) → SaysClass names (Some what) p
        any (whats.Class name) p none = absurd (none name refl)
        any what p none = tt

        by : (place : ℕ) (o : Option What) → what_used uses place ≡ o → SaysClass names o (get nat_eq used place) → SaysClass names (what_used (uses ++ u ∷ []) place) (get nat_eq used place)
        by place (Some what) e says = subst (λ (o : Option What). SaysClass names o (get nat_eq used place)) (sym (used_before uses u place what e)) says
        by place None e says = subst (λ (o : Option What). SaysClass names o (get nat_eq used place)) (sym (used_last uses u place e)) (at (nat_eq u.place place))
          where
            at : (b : Bool) → SaysClass names (cond b (Some u.what) None) (get nat_eq used place)
            at false = says
            at true = any u.what (get nat_eq used place) other

    -- the first entry for its place, of a class
    pub used_more : (name : List ℕ) (class : ℕ) (new : HashMap ℕ ℕ S) → is_some (get nat_eq used u.place) ≡ false → u.what ≡ whats.Class name → IsNumberOf names name class
        → ((q : ℕ) → get nat_eq new q ≡ cond (nat_eq u.place q) (Some class) (get nat_eq used q)) → AreUsedClasses names (uses ++ u ∷ []) new
    used_more name class new free is number updates =
        record {
          there = λ place. subst (SaysClass names (what_used (uses ++ u ∷ []) place)) (sym (updates place))
              (at place (nat_eq u.place place) refl (what_used uses place) refl (are.there place));
        }
      where
        here : SaysClass names (Some u.what) (Some class)
        here = subst (λ (w : What). SaysClass names (Some w) (Some class)) (sym is) number

        no_number : (p : Option ℕ) → is_some p ≡ false → p ≡ None
        no_number None e = refl
        no_number (Some x) e = absurd (true≢false e)

        first : (what : What) (p : Option ℕ) → p ≡ None → SaysClass names (Some what) p → SaysClass names (Some what) (Some class)
        first (whats.Class n) None e says = absurd says
        first (whats.Class n) (Some x) e says = absurd (none-some x (sym e))
        first what p e says = tt

        at : (place : ℕ) (b : Bool) → nat_eq u.place place ≡ b → (o : Option What) → what_used uses place ≡ o → SaysClass names o (get nat_eq used place)
            → SaysClass names (what_used (uses ++ u ∷ []) place) (cond b (Some class) (get nat_eq used place))
        at place true q (Some what) e says =
            subst (λ (o : Option What). SaysClass names o (Some class)) (sym (used_before uses u place what e)) (first what (get nat_eq used place)
            (no_number (get nat_eq used place) (ap (λ (p : ℕ). is_some (get nat_eq used p)) (sym (eqb-true u.place place q)) ∙ free)) says)
        at place false q (Some what) e says = subst (λ (o : Option What). SaysClass names o (get nat_eq used place)) (sym (used_before uses u place what e)) says
        at place true q None e says = subst (λ (o : Option What). SaysClass names o (Some class)) (sym (used_last uses u place e ∙ ap (λ (c : Bool). cond c (Some u.what) None) q)) here
        at place false q None e says =
            subst (λ (o : Option What). SaysClass names o (get nat_eq used place)) (sym (used_last uses u place e ∙ ap (λ (c : Bool). cond c (Some u.what) None) q)) says
