-- What pop, pop2, dup and its kin, and swap leave on the stack has the types of the kind check: its forms of each are the
-- moves of the machine, with the same places.
use Rattle.std.proofs.Common.{◌≡◌, ◌⊎◌, inl, inr, ℕ, ◌-◌, Bool, true, false, ◌&&◌, cond, if◌then◌else◌, List, [], ◌∷◌, ◌++◌, length}
use Rattle.std.proofs.Common.{drop, reverse, map, Some, nat_eq, refl, sym, ◌∙◌, ap, subst, arith, take-append-drop, ⊎_elim}
use Rattle.std.proofs.lemmas.Bool.{and_parts, and_from, eqb-true, false≢true}
use Rattle.std.proofs.lemmas.List.{reverse-append, reverse-reverse, length-reverse, length-map}
use mathlib.Core.List.{reverse_aux}
use Rattle.std.specs.List.{list_all}
use Rattle.jc_bytes.proofs.OptionLaws.{none_some}
use Rattle.jc_methods.specs.VerificationTypes.{VerificationType}
use Rattle.jc_methods.specs.VerificationTypes as verification
use Rattle.jc_methods.specs.Opcode as opcode
use Rattle.jc_kinds_after.specs.declared.want.Want.{Want}
use Rattle.jc_kinds_after.specs.declared.want.Want.TheVariants as wants
use Rattle.jc_kinds_after.specs.Wants.{accepts, accepts_all}
use Rattle.jc_kinds_after.specs.Step.{StackEffect, below, upper, has_form, limited, moved as moved_kinds, moved_by}
use Rattle.jc_kinds_after.specs.Table.{form, table, forms_at}
use Rattle.jc_machine_model.specs.Values.{Value, is_pair}
use Rattle.jc_machine_model.specs.Effects.{Effect, Category, category_1, category_2, Move, moves_of, moved, gives, has_category, stand_categories, results_at}
use Rattle.jc_machine_model.specs.Fits.{IsOfBy, AreOfBy, IsStackBy}
use Rattle.jc_machine_laws.specs.Laws.{LeavesBy}
use Rattle.jc_machine_laws.proofs.TypedLaws.{References}
use Rattle.jc_machine_laws.proofs.StackLaws.{pair_as_type, limited_is}
use Rattle.jc_machine_laws.proofs.PlaceLaws.{types_at, places_keep_types, items_at, are_below_count, types_given}
use Rattle.jc_machine_laws.proofs.NumberEffectLaws.{IsKept, unfit_kept}

-- ---- the operands of a move

-- what the kind check asks of an operand of a category
abbrev pub want_for : Category → Want
want_for category_1 = wants.Single
want_for category_2 = wants.Pair

pub single_type : (h : VerificationType) → accepts wants.Single h ≡ true → verification.is_pair h ≡ false
single_type verification.double a = absurd (false≢true a)
single_type verification.long a = absurd (false≢true a)
single_type h a = refl

module _ (R : References) where
  pub category_is : (category : Category) (v : Value) (h : VerificationType) → IsOfBy R.holds v h
      → accepts (want_for category) h ≡ true → has_category category v ≡ true
  category_is category_1 v h k a = ap (λ b. if b then false else true) (pair_as_type R wants.Single v h k a ∙ single_type h a)
  category_is category_2 v h k a = pair_as_type R wants.Pair v h k a ∙ a

  -- values are of these categories where their types are accepted for them
  pub categories_stand : (categories : List Category) (stack : List Value) (types low : List VerificationType)
      → AreOfBy R.holds stack (types ++ low) → accepts_all (map want_for categories) types ≡ true
      → stand_categories categories stack ≡ true
  categories_stand [] stack types low p a = refl
  categories_stand (category ∷ categories) stack [] low p a = absurd (false≢true a)
  categories_stand (category ∷ categories) [] (h ∷ types) low p a = absurd p
  categories_stand (category ∷ categories) (v ∷ stack) (h ∷ types) low p a =
      let b = and_parts (accepts (want_for category) h) _ a in
      and_from _ _ (category_is category v h p.0 b.0) (categories_stand categories stack types low p.1 b.1)

pub accepted_length : (ws : List Want) (ks : List VerificationType) → accepts_all ws ks ≡ true → length ks ≡ length ws
accepted_length [] [] e = refl
accepted_length [] (h ∷ ks) e = absurd (false≢true e)
accepted_length (w ∷ ws) [] e = absurd (false≢true e)
accepted_length (w ∷ ws) (h ∷ ks) e =
    let l = accepted_length ws ks (and_parts (accepts w h) (accepts_all ws ks) e).1 in grind (arith, l)

pub accepted_reverse : (ws vs : List Want) (ks hs : List VerificationType) → accepts_all ws ks ≡ true → accepts_all vs hs ≡ true
    → accepts_all (reverse_aux ws vs) (reverse_aux ks hs) ≡ true
accepted_reverse [] vs [] hs a b = b
accepted_reverse [] vs (h ∷ ks) hs a b = absurd (false≢true a)
accepted_reverse (w ∷ ws) vs [] hs a b = absurd (false≢true a)
accepted_reverse (w ∷ ws) vs (h ∷ ks) hs a b =
    let c = and_parts (accepts w h) (accepts_all ws ks) a in
    accepted_reverse ws (w ∷ vs) ks (h ∷ hs) c.1 (and_from _ _ c.0 b)

-- ---- a move as the kind check has it

abbrev pub stack_effect : Move → StackEffect
stack_effect m = form (reverse (map want_for m.categories)) (reverse (items_at (length m.categories) m.results))

module _ (R : References) where
  -- where the types fit a move, so do the values, and the values are of the types afterwards
  pub record MoveFits (m : Move) (stack : List Value) (ks : List VerificationType) : Type 0 where
    pub stand : stand_categories m.categories stack ≡ true
    pub are : IsStackBy R.holds (results_at m.results stack ++ drop (length m.categories) stack) (moved_kinds (stack_effect m) ks)

  pub move_fits : (m : Move) (stack : List Value) (ks : List VerificationType)
      → are_below_count (length m.categories) m.results ≡ true → IsStackBy R.holds stack ks → has_form (stack_effect m) ks ≡ true
      → MoveFits m stack ks
  move_fits m stack ks w p a =
      let ws = map want_for m.categories in
      let n = length (reverse ws) in
      let parts : below n ks ++ upper n ks ≡ ks = take-append-drop (length ks - n) ks in
      let count = length-reverse ws ∙ length-map m.categories want_for in
      let types = sym (reverse-append (below n ks) (upper n ks)) ∙ ap reverse parts in
      let length_is = accepted_length (reverse ws) (upper n ks) a ∙ count in
      let given = types_given m.results (length m.categories) (below n ks) (upper n ks) length_is w in
      record {
        stand = categories_stand R m.categories stack (reverse (upper n ks)) (reverse (below n ks))
            (subst (AreOfBy R.holds stack) (sym types) p)
            (subst (λ l. accepts_all l (reverse (upper n ks)) ≡ true) (reverse-reverse ws)
            (accepted_reverse (reverse ws) [] (upper n ks) [] a refl));
        are = places_keep_types R m.results (length m.categories) stack ks (moved_kinds (stack_effect m) ks) p
            (given ∙ ap (λ l. types_at m.results (reverse l) ++ drop (length m.categories) (reverse l)) parts);
      }

-- ---- the first move that fits

-- no stack has operands of both: at some place the categories differ
abbrev pub differ : List Category → List Category → Bool
differ (category_1 ∷ cs) (category_1 ∷ ds) = differ cs ds
differ (category_2 ∷ cs) (category_2 ∷ ds) = differ cs ds
differ (c ∷ cs) (d ∷ ds) = true
differ _ _ = false

pub not_single : (b : Bool) → (if b then false else true) ≡ true → b ≡ true → ⊥
not_single true e p = false≢true e
not_single false e p = false≢true p

pub not_both : (cs ds : List Category) (stack : List Value) → differ cs ds ≡ true → stand_categories cs stack ≡ true
    → stand_categories ds stack ≡ true → ⊥
not_both [] ds stack e p q = false≢true e
not_both (category_1 ∷ cs) [] stack e p q = false≢true e
not_both (category_2 ∷ cs) [] stack e p q = false≢true e
not_both (c ∷ cs) (d ∷ ds) [] e p q = false≢true p
not_both (category_1 ∷ cs) (category_1 ∷ ds) (v ∷ stack) e p q =
    not_both cs ds stack e (and_parts _ (stand_categories cs stack) p).1 (and_parts _ (stand_categories ds stack) q).1
not_both (category_2 ∷ cs) (category_2 ∷ ds) (v ∷ stack) e p q =
    not_both cs ds stack e (and_parts _ (stand_categories cs stack) p).1 (and_parts _ (stand_categories ds stack) q).1
not_both (category_1 ∷ cs) (category_2 ∷ ds) (v ∷ stack) e p q =
    not_single (is_pair v) (and_parts _ (stand_categories cs stack) p).0 (and_parts (is_pair v) (stand_categories ds stack) q).0
not_both (category_2 ∷ cs) (category_1 ∷ ds) (v ∷ stack) e p q =
    not_single (is_pair v) (and_parts _ (stand_categories ds stack) q).0 (and_parts (is_pair v) (stand_categories cs stack) p).0

-- each move leaves operands that it takes, and at most one of the moves fits a stack
abbrev pub are_forms : List Move → Bool
are_forms [] = true
are_forms (m ∷ moves) =
    are_below_count (length m.categories) m.results
    && (list_all (λ n. differ m.categories n.categories) moves && are_forms moves)

pub moved_cases : (most : ℕ) (f : StackEffect) (fs : List StackEffect) (ks t : List VerificationType)
    → moved_by most (f ∷ fs) ks ≡ Some t
    → ((has_form f ks ≡ true) × (moved_kinds f ks ≡ t)) ⊎ (moved_by most fs ks ≡ Some t)
moved_cases most f fs ks t e = by (has_form f ks) refl e
  where
    by : (b : Bool) → has_form f ks ≡ b → cond b (limited most (moved_kinds f ks)) (moved_by most fs ks) ≡ Some t
        → ((has_form f ks ≡ true) × (moved_kinds f ks ≡ t)) ⊎ (moved_by most fs ks ≡ Some t)
    by true h g = inl (h, limited_is _ (moved_kinds f ks) t g)
    by false h g = inr g

module _ (R : References) where
  -- where operands of these categories stand, no form of the kind check fits that is of other categories
  pub no_other : (most : ℕ) (cs : List Category) (moves : List Move) (stack : List Value) (ks t : List VerificationType)
      → list_all (λ n. differ cs n.categories) moves ≡ true → are_forms moves ≡ true → stand_categories cs stack ≡ true
      → IsStackBy R.holds stack ks → moved_by most (map stack_effect moves) ks ≡ Some t → ⊥
  no_other most cs [] stack ks t d w s p e = none_some e
  no_other most cs (m ∷ moves) stack ks t d w s p e =
      let others = and_parts (differ cs m.categories) (list_all (λ n. differ cs n.categories) moves) d in
      let forms = and_parts (are_below_count (length m.categories) m.results) _ w in
      let rest = and_parts _ (are_forms moves) forms.1 in
      ⊎_elim (λ c. not_both cs m.categories stack others.0 s (move_fits R m stack ks forms.0 p c.0).stand)
      (λ r. no_other most cs moves stack ks t others.1 rest.1 s p r)
      (moved_cases most (stack_effect m) (map stack_effect moves) ks t e)

-- how many operands an effect takes
abbrev pub taken_by : Effect → ℕ
taken_by (gives taken results) = taken
taken_by _ = 0

-- a move takes as many operands as it has categories
pub taken_is : (cs : List Category) (places : List ℕ) (stack : List Value) → stand_categories cs stack ≡ true
    → taken_by (moved (record { categories = cs; results = places } ∷ []) stack) ≡ length cs
taken_is [] places stack s = refl
taken_is (c ∷ cs) places [] s = absurd (false≢true s)
taken_is (c ∷ cs) places (v ∷ stack) s =
    let b = and_parts (has_category c v) (stand_categories cs stack) s in
    let l = rw b.1 at (taken_is cs places stack b.1) in
    rw (b.0, b.1) (grind (arith, l))

module _ (R : References) where
  -- What the first move that fits leaves has the types of the first form of the kind check that fits.
  pub moves_leave : (most : ℕ) (moves : List Move) (stack : List Value) (ks t : List VerificationType) → are_forms moves ≡ true
      → IsStackBy R.holds stack ks → moved_by most (map stack_effect moves) ks ≡ Some t → LeavesBy R.holds t stack (moved moves stack)
  moves_leave most [] stack ks t w p e = tt
  moves_leave most (m ∷ moves) stack ks t w p e =
      by (stand_categories m.categories stack) refl
      (moved_cases most (stack_effect m) (map stack_effect moves) ks t e) (moves_leave most moves stack ks t rest.1 p)
    where
      forms : (are_below_count (length m.categories) m.results ≡ true)
          × ((list_all (λ n. differ m.categories n.categories) moves && are_forms moves) ≡ true)
      forms = and_parts (are_below_count (length m.categories) m.results) _ w

      rest : (list_all (λ n. differ m.categories n.categories) moves ≡ true) × (are_forms moves ≡ true)
      rest = and_parts (list_all (λ n. differ m.categories n.categories) moves) (are_forms moves) forms.1

      fitting : (taken : ℕ) → taken ≡ length m.categories
          → (has_form (stack_effect m) ks ≡ true) × (moved_kinds (stack_effect m) ks ≡ t)
          → IsStackBy R.holds (results_at m.results stack ++ drop taken stack) t
      fitting taken n c =
          subst (λ l. IsStackBy R.holds (results_at m.results stack ++ drop l stack) t) (sym n)
          (subst (IsStackBy R.holds (results_at m.results stack ++ drop (length m.categories) stack)) c.1
          (move_fits R m stack ks forms.0 p c.0).are)

      by : (b : Bool) → stand_categories m.categories stack ≡ b
          → ((has_form (stack_effect m) ks ≡ true) × (moved_kinds (stack_effect m) ks ≡ t))
          ⊎ (moved_by most (map stack_effect moves) ks ≡ Some t)
          → (moved_by most (map stack_effect moves) ks ≡ Some t → LeavesBy R.holds t stack (moved moves stack))
          → LeavesBy R.holds t stack (moved (m ∷ moves) stack)
      by true s c others = rw s (⊎_elim (fitting _ (rw s at (taken_is m.categories m.results stack s)))
          (λ r. absurd (no_other R most m.categories moves stack ks t rest.0 rest.1 s p r)) c)
      by false s c others = rw s (⊎_elim (λ q. absurd (false≢true (sym s ∙ (move_fits R m stack ks forms.0 p q.0).stand))) others c)

  -- ---- the opcodes

  -- where the forms of the kind check are those of the moves, what the moves leave has the types that it gives the opcode
  pub forms_kept : (most op : ℕ) (stack : List Value) (ks : List VerificationType) → IsStackBy R.holds stack ks
      → forms_at op ≡ map stack_effect (moves_of op) → are_forms (moves_of op) ≡ true
      → IsKept R most op stack ks (moved (moves_of op) stack)
  unfolding IsKept
  forms_kept most op stack ks p f w t e =
      moves_leave most (moves_of op) stack ks t w p (ap (λ l. moved_by most l ks) (sym f) ∙ e)

  -- of two lists of moves, the first where the opcode is this one, and else the second
  pub move_by : (most op k : ℕ) (stack : List Value) (ks : List VerificationType) (a b : List Move) (t : Bool) → nat_eq op k ≡ t
      → IsKept R most k stack ks (moved a stack) → IsKept R most op stack ks (moved b stack)
      → IsKept R most op stack ks (moved (cond t a b) stack)
  move_by most op k stack ks a b true e p q = subst (λ n. IsKept R most n stack ks (moved a stack)) (sym (eqb-true op k e)) p
  move_by most op k stack ks a b false e p q = q

  pub moves_kept : (most op : ℕ) (stack : List Value) (ks : List VerificationType) → IsStackBy R.holds stack ks
      → IsKept R most op stack ks (moved (moves_of op) stack)
  unfolding moves_of table forms_at
  moves_kept most op stack ks p =
      move_by most op opcode.pop stack ks _ _ _ refl (forms_kept most opcode.pop stack ks p refl refl) (
      move_by most op opcode.pop2 stack ks _ _ _ refl (forms_kept most opcode.pop2 stack ks p refl refl) (
      move_by most op opcode.dup stack ks _ _ _ refl (forms_kept most opcode.dup stack ks p refl refl) (
      move_by most op opcode.dup_x1 stack ks _ _ _ refl (forms_kept most opcode.dup_x1 stack ks p refl refl) (
      move_by most op opcode.dup_x2 stack ks _ _ _ refl (forms_kept most opcode.dup_x2 stack ks p refl refl) (
      move_by most op opcode.dup2 stack ks _ _ _ refl (forms_kept most opcode.dup2 stack ks p refl refl) (
      move_by most op opcode.dup2_x1 stack ks _ _ _ refl (forms_kept most opcode.dup2_x1 stack ks p refl refl) (
      move_by most op opcode.dup2_x2 stack ks _ _ _ refl (forms_kept most opcode.dup2_x2 stack ks p refl refl) (
      move_by most op opcode.swap stack ks _ _ _ refl (forms_kept most opcode.swap stack ks p refl refl) (
      unfit_kept R most op stack ks)))))))))
