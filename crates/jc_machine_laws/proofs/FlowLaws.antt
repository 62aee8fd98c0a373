-- Each turn keeps a world fitting: effects, jumps and switches.
use Rattle.std.proofs.Common.{◌≡◌, ⊎_elim, ℕ, zero, suc, ◌+◌, ◌-◌, ◌<◌, ℤ, pos, Bool, true, false, ◌&&◌, cond, List, [], ◌∷◌, ◌++◌}
use Rattle.std.proofs.Common.{length, Option, Some, None, nat_eq, nat_le, nat_lt, refl, sym, ◌∙◌, ap, subst, arith}
use Rattle.std.proofs.Common.{slice_index_or, eq-or-lt_of_le, le_of_suc-le-suc, int_lt, int_le, unsigned_abs, ◌-ℤ◌}
use Rattle.std.proofs.lemmas.Bool.{eqb-true, eq-eqb, and_parts, false≢true}
use Rattle.std.specs.Prelude.{Contains}
use Rattle.std.specs.List.{AllByRecursion}
use Rattle.std.proofs.lemmas.Option.{same_Some}
use Rattle.jc_bytes.proofs.OptionLaws.{none_some}
use Rattle.jc_bytes.proofs.EachLaws.{all_behind}
use Rattle.jc_methods.specs.declared.insn.Insn.{Insn}
use Rattle.jc_methods.specs.declared.body.Body.{Body}
use Rattle.jc_methods.specs.Flow.{FallsThrough, is_conditional_branch, targets_of}
use Rattle.jc_methods.specs.VerificationTypes.{TypeState}
use Rattle.jc_methods.specs.Opcode as opcode
use Rattle.jc_programs.specs.declared.program.Program.{Program}
use Rattle.jc_programs.specs.declared.program.Linked.{Linked}
use Rattle.jc_programs.specs.declared.run_end.Thrown.TheVariants as thrown
use Rattle.jc_kinds_after.specs.declared.want.Want.{Want}
use Rattle.jc_kinds_after.specs.Step.{Gives, StackEffect}
use Rattle.jc_kinds_after.specs.Table.{form, table, forms_at}
use Rattle.jc_kinds_after.specs.After.{step_of, returns_of}
use Rattle.jc_kinds_after.specs.declared.want.Want.TheVariants as wants
use Rattle.jc_kinds_after.specs.Step as kinds
use Rattle.jc_kinds.specs.Checked.{LeadsTo}
use Rattle.jc_machine_model.specs.Values.{Value, int, long, null}
use Rattle.jc_machine_model.specs.Heap.{HeapObject}
use Rattle.jc_machine_model.specs.World.{Frame, Shared}
use Rattle.jc_machine_model.specs.Effects.{Effect, Move, gives, unfit, when, int_for, long_for, constant, moves_of, moved}
use Rattle.jc_machine_model.specs.Effects.{results_at, stand_categories, divided, int_bits, int_pair, long_pair, long_shift, int_single, long_single, single, pair, has_one_operand, effect}
use Rattle.jc_machine_model.specs.Results.{goes}
use Rattle.jc_machine_model.specs.Jumps.{Tested, zero_test, int_test, reference_test, null_test, test_of, by_test, by_switch}
use Rattle.jc_plan.specs.Chosen.{table_target}
use Rattle.jc_machine_model.specs.Fits.{IsThere}
use Rattle.jc_machine_model.specs.Effects as effects
use Rattle.jc_machine_laws.proofs.TypedLaws.{HoldingTyping}
use Rattle.jc_machine_laws.proofs.GrowLaws.{same_heap}
use Rattle.jc_machine_laws.proofs.StepLaws.{EffectThere, Turn, Fine, falls, leads, takes_fine}

-- ---- what effects give is there

module _ (program : Program) (heap : List HeapObject) where
  cond_there : (b : Bool) (e f : Effect) → EffectThere (IsThere program heap) e → EffectThere (IsThere program heap) f
      → EffectThere (IsThere program heap) (cond b e f)
  cond_there true e f p q = p
  cond_there false e f p q = q

  int_there : (n : ℕ) (z : ℤ) → EffectThere (IsThere program heap) (int_for n z)
  unfolding EffectThere
  int_there n z = (tt, tt)

  long_there : (n : ℕ) (z : ℤ) → EffectThere (IsThere program heap) (long_for n z)
  unfolding EffectThere
  long_there n z = (tt, tt)

  unfit_there : EffectThere (IsThere program heap) unfit
  unfolding EffectThere
  unfit_there = tt

  divided_there : (y : ℤ) (e : Effect) → EffectThere (IsThere program heap) e → EffectThere (IsThere program heap) (divided y e)
  unfolding EffectThere
  divided_there y e p = cond_there (int_le y (pos 0) && int_le (pos 0) y) (effects.raises thrown.ArithmeticException) e tt p

  when_there : (op j : ℕ) (e f : Effect) → EffectThere (IsThere program heap) e → EffectThere (IsThere program heap) f
      → EffectThere (IsThere program heap) (when op j e f)
  when_there op j e f p q = cond_there (nat_eq op j) e f p q

  int_bits_there : (op : ℕ) (x y : ℤ) → EffectThere (IsThere program heap) (int_bits op x y)
  unfolding int_bits
  int_bits_there op x y =
      when_there op 120 _ _ (int_there 2 _)
      (when_there op 122 _ _ (int_there 2 _)
      (when_there op 124 _ _ (int_there 2 _)
      (when_there op 126 _ _ (int_there 2 _) (when_there op 128 _ _ (int_there 2 _) (when_there op 130 _ _ (int_there 2 _) unfit_there)))))

  int_pair_there : (op : ℕ) (x y : ℤ) → EffectThere (IsThere program heap) (int_pair op x y)
  unfolding int_pair
  int_pair_there op x y =
      when_there op 96 _ _ (int_there 2 _)
      (when_there op 100 _ _ (int_there 2 _)
      (when_there op 104 _ _ (int_there 2 _)
      (when_there op 108 _ _ (divided_there y _ (int_there 2 _))
      (when_there op 112 _ _ (divided_there y _ (int_there 2 _)) (int_bits_there op x y)))))

  long_pair_there : (op : ℕ) (x y : ℤ) → EffectThere (IsThere program heap) (long_pair op x y)
  unfolding long_pair
  long_pair_there op x y =
      when_there op 97 _ _ (long_there 2 _)
      (when_there op 101 _ _ (long_there 2 _)
      (when_there op 105 _ _ (long_there 2 _)
      (when_there op 109 _ _ (divided_there y _ (long_there 2 _))
      (when_there op 113 _ _ (divided_there y _ (long_there 2 _))
      (when_there op 127 _ _ (long_there 2 _)
      (when_there op 129 _ _ (long_there 2 _)
      (when_there op 131 _ _ (long_there 2 _) (when_there op 148 _ _ (int_there 2 _) unfit_there))))))))

  long_shift_there : (op : ℕ) (x y : ℤ) → EffectThere (IsThere program heap) (long_shift op x y)
  unfolding long_shift
  long_shift_there op x y = when_there op 121 _ _ (long_there 2 _) (when_there op 123 _ _ (long_there 2 _) (when_there op 125 _ _ (long_there 2 _) unfit_there))

  int_single_there : (op : ℕ) (x : ℤ) → EffectThere (IsThere program heap) (int_single op x)
  unfolding int_single
  int_single_there op x =
      when_there op 116 _ _ (int_there 1 _)
      (when_there op 133 _ _ (long_there 1 _)
      (when_there op 145 _ _ (int_there 1 _) (when_there op 146 _ _ (int_there 1 _) (when_there op 147 _ _ (int_there 1 _) unfit_there))))

  long_single_there : (op : ℕ) (x : ℤ) → EffectThere (IsThere program heap) (long_single op x)
  unfolding long_single
  long_single_there op x = when_there op 117 _ _ (long_there 1 _) (when_there op 136 _ _ (int_there 1 _) unfit_there)

  single_there : (op : ℕ) (stack : List Value) → EffectThere (IsThere program heap) (single op stack)
  unfolding single
  single_there op (int x ∷ stack) = int_single_there op x
  single_there op (long x ∷ stack) = long_single_there op x
  single_there op stack = unfit_there

  pair_there : (op : ℕ) (stack : List Value) → EffectThere (IsThere program heap) (pair op stack)
  unfolding pair
  pair_there op (int y ∷ int x ∷ stack) = int_pair_there op x y
  pair_there op (long y ∷ long x ∷ stack) = long_pair_there op x y
  pair_there op (int y ∷ long x ∷ stack) = long_shift_there op x y
  pair_there op stack = unfit_there

  constant_there : (op : ℕ) → EffectThere (IsThere program heap) (constant op)
  unfolding constant EffectThere
  constant_there op =
      when_there op 0 (gives 0 []) _ tt
      (when_there op 1 (gives 0 (null ∷ [])) _ (tt, tt)
      (when_there op 9 (long_for 0 (pos 0)) _ (tt, tt)
      (when_there op 10 (long_for 0 (pos 1)) (int_for 0 (pos op -ℤ pos 3)) (tt, tt) (tt, tt))))

  read_there : (stack : List Value) (k : ℕ) → AllByRecursion (IsThere program heap) stack → IsThere program heap (slice_index_or stack k null)
  read_there [] k p = tt
  read_there (v ∷ stack) zero p = p.0
  read_there (v ∷ stack) (suc k) p = read_there stack k p.1

  results_there : (places : List ℕ) (stack : List Value) → AllByRecursion (IsThere program heap) stack
      → AllByRecursion (IsThere program heap) (results_at places stack)
  results_there [] stack p = tt
  results_there (k ∷ places) stack p = (read_there stack k p, results_there places stack p)

  moved_there : (moves : List Move) (stack : List Value) → AllByRecursion (IsThere program heap) stack → EffectThere (IsThere program heap) (moved moves stack)
  unfolding EffectThere
  moved_there [] stack p = tt
  moved_there (m ∷ moves) stack p =
      cond_there (stand_categories m.categories stack) (gives _ (results_at m.results stack)) (moved moves stack)
      (results_there m.results stack p) (moved_there moves stack p)

  pub effect_there : (op : ℕ) (stack : List Value) → AllByRecursion (IsThere program heap) stack → EffectThere (IsThere program heap) (effect op stack)
  unfolding effect
  effect_there op stack p =
      cond_there (nat_le op opcode.lconst_1) _ _ (constant_there op)
      (cond_there (nat_lt op opcode.iadd) _ _ (moved_there (moves_of op) stack p)
      (cond_there (has_one_operand op) _ _ (single_there op stack) (pair_there op stack)))

-- ---- facts of all opcodes, found by trying each

unfoldable pub each_below : (ℕ → Bool) → ℕ → Bool
each_below p zero = true
each_below p (suc n) = p n && each_below p n

pub each_at : (p : ℕ → Bool) (n k : ℕ) → each_below p n ≡ true → k < n → p k ≡ true
unfolding each_below
each_at p zero k e lt = let l = lt in absurd (omega (arith, l))
each_at p (suc n) k e lt = by (nat_eq k n) refl (λ l. each_at p n k (and_parts (p n) (each_below p n) e).1 l)
  where
    by : (b : Bool) → nat_eq k n ≡ b → (k < n → p k ≡ true) → p k ≡ true
    by true q again = subst (λ j. p j ≡ true) (sym (eqb-true k n q)) (and_parts (p n) (each_below p n) e).0
    by false q again = again (less (λ f. false≢true (sym q ∙ eq-eqb k n f)))
      where
        less : (k ≡ n → ⊥) → k < n
        less h = ⊎_elim (λ f. absurd (h f)) (λ l. l) (eq-or-lt_of_le (let l = lt in le_of_suc-le-suc l))

-- ---- conditional jumps

-- how many operands a conditional jump takes
operands_of : ℕ → ℕ
operands_of op = cond (nat_lt op opcode.if_icmpeq) 1 (cond (nat_lt op opcode.if_acmpeq) 2 (cond (nat_lt op opcode.goto) 2 1))

is_nothing : List Gives → Bool
is_nothing [] = true
is_nothing (g ∷ gs) = false

takes_so_many : ℕ → List StackEffect → Bool
takes_so_many n (f ∷ []) = is_nothing f.given && nat_eq (length f.wanted) n
takes_so_many n _ = false

test_takes : ℕ → Bool
test_takes op = cond (is_conditional_branch op) (takes_so_many (operands_of op) (forms_at op)) true

each_test_takes : each_below test_takes 202 ≡ true
unfolding each_below test_takes takes_so_many operands_of is_nothing table forms_at
each_test_takes = refl

-- the one form of a conditional jump
record Takes (op : ℕ) : Type 0 where
  wanted : List Want
  forms : forms_at op ≡ form wanted [] ∷ []
  count : length wanted ≡ operands_of op

nothing_is : (gs : List Gives) → is_nothing gs ≡ true → gs ≡ []
unfolding is_nothing
nothing_is [] e = refl
nothing_is (g ∷ gs) e = absurd (false≢true e)

takes_from : (op : ℕ) (forms : List StackEffect) → forms_at op ≡ forms → takes_so_many (operands_of op) forms ≡ true → Takes op
unfolding takes_so_many
takes_from op [] q e = absurd (false≢true e)
takes_from op (f ∷ g ∷ fs) q e = absurd (false≢true e)
takes_from op (f ∷ []) q e =
    let p = and_parts (is_nothing f.given) (nat_eq (length f.wanted) (operands_of op)) e in
    record { wanted = f.wanted; forms = q ∙ ap (λ gs. form f.wanted gs ∷ []) (nothing_is f.given p.0); count = eqb-true (length f.wanted) (operands_of op) p.1 }

takes_of : (op : ℕ) → is_conditional_branch op ≡ true → op < 202 → Takes op
unfolding test_takes
takes_of op e lt =
    takes_from op (forms_at op) refl
    (ap (λ b. cond b (takes_so_many (operands_of op) (forms_at op)) true) (sym e) ∙ each_at test_takes 202 op each_test_takes lt)

-- the operands of a condition stand on top of what it leaves
record VerificationType (op : ℕ) (stack left : List Value) : Type 0 where
  values : List Value
  parts : stack ≡ values ++ left
  count : length values ≡ operands_of op

one_held : (n : ℕ) (v : Value) (stack : List Value) → n ≡ 1 → (vs : List Value) × (v ∷ stack ≡ vs ++ stack) × (length vs ≡ n)
one_held n v stack e = (v ∷ [], refl, sym e)

two_held : (n : ℕ) (v w : Value) (stack : List Value) → n ≡ 2 → (vs : List Value) × (v ∷ w ∷ stack ≡ vs ++ stack) × (length vs ≡ n)
two_held n v w stack e = (v ∷ w ∷ [], refl, sym e)

left_is : (h : Bool) (stack : List Value) (t : Tested) → Some (record { jumps = h; stack = stack }) ≡ Some t → stack ≡ t.stack
left_is h stack t e = ap (λ (x : Tested). x.stack) (same_Some _ t e)

Parts : ℕ → List Value → Tested → Type 0
Parts n stack t = (vs : List Value) × (stack ≡ vs ++ t.stack) × (length vs ≡ n)

zero_parts : (j : ℕ) (stack : List Value) (t : Tested) → zero_test j stack ≡ Some t → Parts 1 stack t
unfolding Parts
zero_parts j (int x ∷ stack) t e = subst (λ l. (vs : List Value) × (int x ∷ stack ≡ vs ++ l) × (length vs ≡ 1)) (left_is _ stack t e) (int x ∷ [], refl, refl)
zero_parts j stack t e = absurd (none_some e)

int_parts : (j : ℕ) (stack : List Value) (t : Tested) → int_test j stack ≡ Some t → Parts 2 stack t
unfolding Parts
int_parts j (int y ∷ int x ∷ stack) t e =
    subst (λ l. (vs : List Value) × (int y ∷ int x ∷ stack ≡ vs ++ l) × (length vs ≡ 2)) (left_is _ stack t e)
    (int y ∷ int x ∷ [], refl, refl)
int_parts j stack t e = absurd (none_some e)

where_holds : {X : Type 0} (b : Bool) (o : Option X) (y : X) → cond b o None ≡ Some y → o ≡ Some y
where_holds true o y e = e
where_holds false o y e = absurd (none_some e)

reference_parts : (j : ℕ) (stack : List Value) (t : Tested) → reference_test j stack ≡ Some t → Parts 2 stack t
unfolding Parts
reference_parts j (b ∷ a ∷ stack) t e =
    subst (λ l. (vs : List Value) × (b ∷ a ∷ stack ≡ vs ++ l) × (length vs ≡ 2)) (left_is _ stack t (where_holds _ _ t e))
    (b ∷ a ∷ [], refl, refl)
reference_parts j (b ∷ []) t e = absurd (none_some e)
reference_parts j [] t e = absurd (none_some e)

null_parts : (j : ℕ) (stack : List Value) (t : Tested) → null_test j stack ≡ Some t → Parts 1 stack t
unfolding Parts
null_parts j (a ∷ stack) t e =
    subst (λ l. (vs : List Value) × (a ∷ stack ≡ vs ++ l) × (length vs ≡ 1)) (left_is _ stack t (where_holds _ _ t e)) (a ∷ [], refl, refl)
null_parts j [] t e = absurd (none_some e)

test_parts : (op : ℕ) (stack : List Value) (t : Tested) → test_of op stack ≡ Some t → Parts (operands_of op) stack t
unfolding test_of operands_of
test_parts op stack t e = by (nat_lt op opcode.if_icmpeq) (nat_lt op opcode.if_acmpeq) (nat_lt op opcode.goto) e
  where
    by : (x y z : Bool) → cond x (zero_test (op - opcode.ifeq) stack)
        (cond y (int_test (op - opcode.if_icmpeq) stack)
        (cond z (reference_test (op - opcode.if_acmpeq) stack) (null_test (op - opcode.ifnull) stack))) ≡ Some t
        → Parts (cond x 1 (cond y 2 (cond z 2 1))) stack t
    by true y z e = zero_parts (op - opcode.ifeq) stack t e
    by false true z e = int_parts (op - opcode.if_icmpeq) stack t e
    by false false true e = reference_parts (op - opcode.if_acmpeq) stack t e
    by false false false e = null_parts (op - opcode.ifnull) stack t e

-- ---- switches

arm_among : (arms : List ℕ) (default i : ℕ) → Contains (default ∷ arms) (slice_index_or arms i default)
arm_among [] default i = (0, omega arith, refl)
arm_among (a ∷ arms) default zero = (1, omega arith, refl)
arm_among (a ∷ arms) default (suc i) = by (arm_among arms default i)
  where
    by : Contains (default ∷ arms) (slice_index_or arms i default) → Contains (default ∷ a ∷ arms) (slice_index_or arms i default)
    by (zero, lt, e) = (0, omega arith, e)
    by (suc j, lt, e) = (suc (suc j), (let l = lt in omega (arith, l)), e)

pub table_among : (low : ℤ) (default : ℕ) (arms : List ℕ) (key : ℤ) → Contains (default ∷ arms) (table_target low default arms key)
table_among low default arms key = by (int_lt key low)
  where
    by : (b : Bool) → Contains (default ∷ arms) (cond b default (slice_index_or arms (unsigned_abs (key -ℤ low)) default))
    by true = (0, omega arith, refl)
    by false = arm_among arms default (unsigned_abs (key -ℤ low))

module _ {ty : HoldingTyping} {program : Program} {s : Shared} {f : Frame} {c : Linked} {b : Body} {insn : Insn} {k t : TypeState}
    (turn : Turn ty program s f c b insn k t) where
  pub tests_fine : (op to : ℕ) → step_of b.uses (returns_of b) insn ≡ kinds.moves (forms_at op) → is_conditional_branch op ≡ true
      → op < 202 → LeadsTo b f.place to → FallsThrough insn → (o : Option Tested) → test_of op f.stack ≡ o
      → Fine ty program s f b (by_test o to s f)
  unfolding Fine Parts
  tests_fine op to e i lt l h None q = tt
  tests_fine op to e i lt l h (Some tested) q =
      let w = takes_of op i lt in
      let p = test_parts op f.stack tested q in
      takes_fine turn p.0 tested.stack w.wanted (cond tested.jumps to (f.place + 1)) s (e ∙ ap kinds.moves w.forms)
      (chosen_leads tested.jumps) p.1 (w.count ∙ sym p.2)
      (all_behind (IsThere program s.heap) p.0 tested.stack
      (subst (AllByRecursion (IsThere program s.heap)) p.1 (turn.there).stack)) (turn.there).locals turn.shared
      (same_heap s.heap)
    where
      chosen_leads : (x : Bool) → LeadsTo b f.place (cond x to (f.place + 1))
      chosen_leads true = l
      chosen_leads false = falls turn h

  pub switches_fine : (leads_to : ℤ → ℕ) → step_of b.uses (returns_of b) insn ≡ kinds.moves (form (wants.Int ∷ []) [] ∷ [])
      → ((key : ℤ) → Contains (targets_of insn) (leads_to key)) → (stack : List Value) → f.stack ≡ stack
      → Fine ty program s f b (by_switch leads_to stack s f)
  unfolding Fine
  switches_fine leads_to e among (int key ∷ stack) q =
      takes_fine turn (int key ∷ []) stack (wants.Int ∷ []) (leads_to key) s e (leads turn (leads_to key) (among key)) q refl
      (subst (AllByRecursion (IsThere program s.heap)) q (turn.there).stack).1 (turn.there).locals turn.shared (same_heap s.heap)
  switches_fine leads_to e among stack q = tt

  pub jumps_fine : (to : ℕ) → step_of b.uses (returns_of b) insn ≡ kinds.moves (form [] [] ∷ []) → LeadsTo b f.place to
      → Fine ty program s f b (goes s (record { method = f.method; place = to; locals = f.locals; stack = f.stack }))
  jumps_fine to e l = takes_fine turn [] f.stack [] to s e l refl refl (turn.there).stack (turn.there).locals turn.shared (same_heap s.heap)
