-- What opcodes on numbers, and constants, leave on the stack has the types of the kind check.
use Rattle.std.proofs.Common.{◌≡◌, ℕ, zero, suc, ℤ, pos, Bool, true, false, cond, List, [], ◌∷◌, ◌++◌, Some, nat_eq, nat_le, refl}
use Rattle.std.proofs.Common.{sym, ◌∙◌, ap, subst, arith, append-nil}
use Rattle.std.proofs.lemmas.Bool.{eqb-true, leb-true}
use Rattle.jc_methods.specs.VerificationTypes.{VerificationType}
use Rattle.jc_methods.specs.VerificationTypes as verification
use Rattle.jc_methods.specs.Opcode as opcode
use Rattle.jc_programs.specs.declared.run_end.Thrown.TheVariants as thrown
use Rattle.jc_kinds_after.specs.declared.want.Want.{Want}
use Rattle.jc_kinds_after.specs.Step.{kind, below, moved_by}
use Rattle.jc_kinds_after.specs.Table.{form, table, forms_at}
use Rattle.jc_kinds_after.specs.declared.want.Want.TheVariants as wants
use Rattle.jc_machine_model.specs.Values.{Value, int, long, null}
use Rattle.jc_machine_model.specs.Effects.{Effect, gives, unfit, when, int_for, long_for, constant, divided, int_bits, int_pair, long_pair, long_shift, int_single, long_single, single, pair}
use Rattle.jc_machine_model.specs.Fits.{IsOfBy, IsStackBy}
use Rattle.jc_machine_model.specs.Effects as effects
use Rattle.jc_machine_laws.specs.Laws.{LeavesBy}
use Rattle.jc_machine_laws.proofs.TypedLaws.{References}
use Rattle.jc_machine_laws.proofs.StackLaws.{below_is, one_moved, leaf}

module _ (R : References) where
  -- ---- effects

  -- what an effect leaves has the types that the kind check gives the opcode
  unfoldable pub IsKept : ℕ → ℕ → List Value → List VerificationType → Effect → Type 0
  IsKept most op stack ks e = (t : List VerificationType) → moved_by most (forms_at op) ks ≡ Some t → LeavesBy R.holds t stack e

  pub when_by : (most op k : ℕ) (stack : List Value) (ks : List VerificationType) (e f : Effect) (b : Bool) → nat_eq op k ≡ b
      → IsKept most k stack ks e → IsKept most op stack ks f → IsKept most op stack ks (cond b e f)
  when_by most op k stack ks e f true d p q = subst (λ n. IsKept most n stack ks e) (sym (eqb-true op k d)) p
  when_by most op k stack ks e f false d p q = q

  pub when_kept : (most op k : ℕ) (stack : List Value) (ks : List VerificationType) (e f : Effect) → IsKept most k stack ks e
      → IsKept most op stack ks f → IsKept most op stack ks (when op k e f)
  when_kept most op k stack ks e f p q = when_by most op k stack ks e f (nat_eq op k) refl p q

  pub cond_kept : (most op : ℕ) (stack : List Value) (ks : List VerificationType) (b : Bool) (e f : Effect)
      → IsKept most op stack ks e → IsKept most op stack ks f → IsKept most op stack ks (cond b e f)
  cond_kept most op stack ks true e f p q = p
  cond_kept most op stack ks false e f p q = q

  -- two values become one of this type: the forms of the opcode compute
  pub two_values : (most k : ℕ) (v w r : Value) (lower upper : Want) (h : VerificationType) (stack : List Value)
      (ks : List VerificationType) → forms_at k ≡ form (lower ∷ upper ∷ []) (kind h ∷ []) ∷ [] → IsOfBy R.holds r h
      → IsStackBy R.holds (w ∷ v ∷ stack) ks → IsKept most k (w ∷ v ∷ stack) ks (gives 2 (r ∷ []))
  unfolding IsKept
  two_values most k v w r lower upper h stack ks f q p t e =
      leaf R most (w ∷ v ∷ []) stack ks (lower ∷ upper ∷ []) h r refl p q t (ap (λ l. moved_by most l ks) (sym f) ∙ e)

  pub int_from_ints : (most k : ℕ) (x y z : ℤ) (stack : List Value) (ks : List VerificationType)
      → forms_at k ≡ form (wants.Int ∷ wants.Int ∷ []) (kind verification.int ∷ []) ∷ [] → IsStackBy R.holds (int y ∷ int x ∷ stack) ks
      → IsKept most k (int y ∷ int x ∷ stack) ks (int_for 2 z)
  int_from_ints most k x y z stack ks f p =
      two_values most k (int x) (int y) (int z) wants.Int wants.Int verification.int stack ks f tt p

  pub long_from_longs : (most k : ℕ) (x y z : ℤ) (stack : List Value) (ks : List VerificationType)
      → forms_at k ≡ form (wants.Long ∷ wants.Long ∷ []) (kind verification.long ∷ []) ∷ [] → IsStackBy R.holds (long y ∷ long x ∷ stack) ks
      → IsKept most k (long y ∷ long x ∷ stack) ks (long_for 2 z)
  long_from_longs most k x y z stack ks f p =
      two_values most k (long x) (long y) (long z) wants.Long wants.Long verification.long stack ks f tt p

  pub int_from_longs : (most k : ℕ) (x y z : ℤ) (stack : List Value) (ks : List VerificationType)
      → forms_at k ≡ form (wants.Long ∷ wants.Long ∷ []) (kind verification.int ∷ []) ∷ [] → IsStackBy R.holds (long y ∷ long x ∷ stack) ks
      → IsKept most k (long y ∷ long x ∷ stack) ks (int_for 2 z)
  int_from_longs most k x y z stack ks f p =
      two_values most k (long x) (long y) (int z) wants.Long wants.Long verification.int stack ks f tt p

  pub long_shifted : (most k : ℕ) (x y z : ℤ) (stack : List Value) (ks : List VerificationType)
      → forms_at k ≡ form (wants.Long ∷ wants.Int ∷ []) (kind verification.long ∷ []) ∷ [] → IsStackBy R.holds (int y ∷ long x ∷ stack) ks
      → IsKept most k (int y ∷ long x ∷ stack) ks (long_for 2 z)
  long_shifted most k x y z stack ks f p =
      two_values most k (long x) (int y) (long z) wants.Long wants.Int verification.long stack ks f tt p

  pub one_value : (most k : ℕ) (v r : Value) (want : Want) (h : VerificationType) (stack : List Value) (ks : List VerificationType)
      → forms_at k ≡ form (want ∷ []) (kind h ∷ []) ∷ [] → IsOfBy R.holds r h → IsStackBy R.holds (v ∷ stack) ks
      → IsKept most k (v ∷ stack) ks (gives 1 (r ∷ []))
  unfolding IsKept
  one_value most k v r want h stack ks f q p t e = leaf R most (v ∷ []) stack ks (want ∷ []) h r refl p q t (ap (λ l. moved_by most l ks) (sym f) ∙ e)

  pub no_value : (most k : ℕ) (r : Value) (h : VerificationType) (stack : List Value) (ks : List VerificationType)
      → forms_at k ≡ form [] (kind h ∷ []) ∷ [] → IsOfBy R.holds r h → IsStackBy R.holds stack ks
      → IsKept most k stack ks (gives 0 (r ∷ []))
  unfolding IsKept
  no_value most k r h stack ks f q p t e = leaf R most [] stack ks [] h r refl p q t (ap (λ l. moved_by most l ks) (sym f) ∙ e)

  pub unfit_kept : (most op : ℕ) (stack : List Value) (ks : List VerificationType) → IsKept most op stack ks unfit
  unfolding IsKept
  unfit_kept most op stack ks t e = tt

  pub int_bits_kept : (most op : ℕ) (x y : ℤ) (stack : List Value) (ks : List VerificationType) → IsStackBy R.holds (int y ∷ int x ∷ stack) ks
      → IsKept most op (int y ∷ int x ∷ stack) ks (int_bits op x y)
  unfolding int_bits table forms_at
  int_bits_kept most op x y stack ks p =
      let s = int y ∷ int x ∷ stack in
      when_kept most op opcode.ishl s ks _ _ (int_from_ints most opcode.ishl x y _ stack ks refl p) (
      when_kept most op opcode.ishr s ks _ _ (int_from_ints most opcode.ishr x y _ stack ks refl p) (
      when_kept most op opcode.iushr s ks _ _ (int_from_ints most opcode.iushr x y _ stack ks refl p) (
      when_kept most op opcode.iand s ks _ _ (int_from_ints most opcode.iand x y _ stack ks refl p) (
      when_kept most op opcode.ior s ks _ _ (int_from_ints most opcode.ior x y _ stack ks refl p) (
      when_kept most op opcode.ixor s ks _ _ (int_from_ints most opcode.ixor x y _ stack ks refl p) (unfit_kept most op s ks))))))

  pub divided_kept : (most op : ℕ) (y : ℤ) (stack : List Value) (ks : List VerificationType) (e : Effect) → IsKept most op stack ks e
      → IsKept most op stack ks (divided y e)
  unfolding IsKept
  divided_kept most op y stack ks e p = cond_kept most op stack ks _ (effects.raises thrown.ArithmeticException) e (λ t q. tt) p

  pub int_pair_kept : (most op : ℕ) (x y : ℤ) (stack : List Value) (ks : List VerificationType) → IsStackBy R.holds (int y ∷ int x ∷ stack) ks
      → IsKept most op (int y ∷ int x ∷ stack) ks (int_pair op x y)
  unfolding int_pair table forms_at
  int_pair_kept most op x y stack ks p =
      let s = int y ∷ int x ∷ stack in
      when_kept most op opcode.iadd s ks _ _ (int_from_ints most opcode.iadd x y _ stack ks refl p) (
      when_kept most op opcode.isub s ks _ _ (int_from_ints most opcode.isub x y _ stack ks refl p) (
      when_kept most op opcode.imul s ks _ _ (int_from_ints most opcode.imul x y _ stack ks refl p) (
      when_kept most op opcode.idiv s ks _ _ (divided_kept most opcode.idiv y s ks _ (int_from_ints most opcode.idiv x y _ stack ks refl p)) (
      when_kept most op opcode.irem s ks _ _
      (divided_kept most opcode.irem y s ks _ (int_from_ints most opcode.irem x y _ stack ks refl p))
      (int_bits_kept most op x y stack ks p)))))

  pub long_pair_kept : (most op : ℕ) (x y : ℤ) (stack : List Value) (ks : List VerificationType)
      → IsStackBy R.holds (long y ∷ long x ∷ stack) ks → IsKept most op (long y ∷ long x ∷ stack) ks (long_pair op x y)
  unfolding long_pair table forms_at
  long_pair_kept most op x y stack ks p =
      let s = long y ∷ long x ∷ stack in
      when_kept most op opcode.ladd s ks _ _ (long_from_longs most opcode.ladd x y _ stack ks refl p) (
      when_kept most op opcode.lsub s ks _ _ (long_from_longs most opcode.lsub x y _ stack ks refl p) (
      when_kept most op opcode.lmul s ks _ _ (long_from_longs most opcode.lmul x y _ stack ks refl p) (
      when_kept most op opcode.ldiv s ks _ _ (divided_kept most opcode.ldiv y s ks _ (long_from_longs most opcode.ldiv x y _ stack ks refl p)) (
      when_kept most op opcode.lrem s ks _ _ (divided_kept most opcode.lrem y s ks _ (long_from_longs most opcode.lrem x y _ stack ks refl p)) (
      when_kept most op opcode.land s ks _ _ (long_from_longs most opcode.land x y _ stack ks refl p) (
      when_kept most op opcode.lor s ks _ _ (long_from_longs most opcode.lor x y _ stack ks refl p) (
      when_kept most op opcode.lxor s ks _ _ (long_from_longs most opcode.lxor x y _ stack ks refl p) (
      when_kept most op opcode.lcmp s ks _ _ (int_from_longs most opcode.lcmp x y _ stack ks refl p) (unfit_kept most op s ks)))))))))

  pub long_shift_kept : (most op : ℕ) (x y : ℤ) (stack : List Value) (ks : List VerificationType)
      → IsStackBy R.holds (int y ∷ long x ∷ stack) ks → IsKept most op (int y ∷ long x ∷ stack) ks (long_shift op x y)
  unfolding long_shift table forms_at
  long_shift_kept most op x y stack ks p =
      let s = int y ∷ long x ∷ stack in
      when_kept most op opcode.lshl s ks _ _ (long_shifted most opcode.lshl x y _ stack ks refl p) (
      when_kept most op opcode.lshr s ks _ _ (long_shifted most opcode.lshr x y _ stack ks refl p) (
      when_kept most op opcode.lushr s ks _ _ (long_shifted most opcode.lushr x y _ stack ks refl p) (unfit_kept most op s ks)))

  pub int_from_one : (most k : ℕ) (v : Value) (z : ℤ) (want : Want) (stack : List Value) (ks : List VerificationType)
      → forms_at k ≡ form (want ∷ []) (kind verification.int ∷ []) ∷ [] → IsStackBy R.holds (v ∷ stack) ks → IsKept most k (v ∷ stack) ks (int_for 1 z)
  int_from_one most k v z want stack ks f p = one_value most k v (int z) want verification.int stack ks f tt p

  pub long_from_one : (most k : ℕ) (v : Value) (z : ℤ) (want : Want) (stack : List Value) (ks : List VerificationType)
      → forms_at k ≡ form (want ∷ []) (kind verification.long ∷ []) ∷ [] → IsStackBy R.holds (v ∷ stack) ks
      → IsKept most k (v ∷ stack) ks (long_for 1 z)
  long_from_one most k v z want stack ks f p = one_value most k v (long z) want verification.long stack ks f tt p

  pub int_single_kept : (most op : ℕ) (x : ℤ) (stack : List Value) (ks : List VerificationType) → IsStackBy R.holds (int x ∷ stack) ks
      → IsKept most op (int x ∷ stack) ks (int_single op x)
  unfolding int_single table forms_at
  int_single_kept most op x stack ks p =
      let s = int x ∷ stack in
      when_kept most op opcode.ineg s ks _ _ (int_from_one most opcode.ineg (int x) _ wants.Int stack ks refl p) (
      when_kept most op opcode.i2l s ks _ _ (long_from_one most opcode.i2l (int x) _ wants.Int stack ks refl p) (
      when_kept most op opcode.i2b s ks _ _ (int_from_one most opcode.i2b (int x) _ wants.Int stack ks refl p) (
      when_kept most op opcode.i2c s ks _ _ (int_from_one most opcode.i2c (int x) _ wants.Int stack ks refl p) (
      when_kept most op opcode.i2s s ks _ _ (int_from_one most opcode.i2s (int x) _ wants.Int stack ks refl p) (unfit_kept most op s ks)))))

  pub long_single_kept : (most op : ℕ) (x : ℤ) (stack : List Value) (ks : List VerificationType) → IsStackBy R.holds (long x ∷ stack) ks
      → IsKept most op (long x ∷ stack) ks (long_single op x)
  unfolding long_single table forms_at
  long_single_kept most op x stack ks p =
      let s = long x ∷ stack in
      when_kept most op opcode.lneg s ks _ _ (long_from_one most opcode.lneg (long x) _ wants.Long stack ks refl p) (
      when_kept most op opcode.l2i s ks _ _ (int_from_one most opcode.l2i (long x) _ wants.Long stack ks refl p) (unfit_kept most op s ks))

  pub single_kept : (most op : ℕ) (stack : List Value) (ks : List VerificationType) → IsStackBy R.holds stack ks → IsKept most op stack ks (single op stack)
  unfolding single
  single_kept most op (int x ∷ stack) ks p = int_single_kept most op x stack ks p
  single_kept most op (long x ∷ stack) ks p = long_single_kept most op x stack ks p
  single_kept most op stack ks p = unfit_kept most op stack ks

  pub pair_kept : (most op : ℕ) (stack : List Value) (ks : List VerificationType) → IsStackBy R.holds stack ks → IsKept most op stack ks (pair op stack)
  unfolding pair
  pair_kept most op (int y ∷ int x ∷ stack) ks p = int_pair_kept most op x y stack ks p
  pair_kept most op (long y ∷ long x ∷ stack) ks p = long_pair_kept most op x y stack ks p
  pair_kept most op (int y ∷ long x ∷ stack) ks p = long_shift_kept most op x y stack ks p
  pair_kept most op stack ks p = unfit_kept most op stack ks

  -- ---- constants

  pub int_constant : (most k : ℕ) (z : ℤ) (stack : List Value) (ks : List VerificationType)
      → forms_at k ≡ form [] (kind verification.int ∷ []) ∷ [] → IsStackBy R.holds stack ks → IsKept most k stack ks (int_for 0 z)
  int_constant most k z stack ks f p = no_value most k (int z) verification.int stack ks f tt p

  pub nothing_kept : (most : ℕ) (stack : List Value) (ks : List VerificationType) → IsStackBy R.holds stack ks → IsKept most opcode.nop stack ks (gives 0 [])
  unfolding IsKept table forms_at
  nothing_kept most stack ks p t e =
      let b = ap (λ l. l ++ []) (ap (λ l. below 0 l) (sym (append-nil ks)) ∙ below_is ks [] 0 refl) ∙ append-nil ks in
      subst (λ l. IsStackBy R.holds stack l) (sym b ∙ one_moved most (form [] []) ks t e) p

  pub constant_kept : (most op : ℕ) (stack : List Value) (ks : List VerificationType) → nat_le op opcode.lconst_1 ≡ true
      → IsStackBy R.holds stack ks → IsKept most op stack ks (constant op)
  unfolding constant table forms_at
  constant_kept most zero stack ks l p = nothing_kept most stack ks p
  constant_kept most (suc zero) stack ks l p = no_value most opcode.aconst_null null verification.null stack ks refl R.null_is p
  constant_kept most (suc (suc zero)) stack ks l p = int_constant most opcode.iconst_m1 _ stack ks refl p
  constant_kept most (suc (suc (suc zero))) stack ks l p = int_constant most opcode.iconst_0 _ stack ks refl p
  constant_kept most (suc (suc (suc (suc zero)))) stack ks l p = int_constant most opcode.iconst_1 _ stack ks refl p
  constant_kept most (suc (suc (suc (suc (suc zero))))) stack ks l p = int_constant most opcode.iconst_2 _ stack ks refl p
  constant_kept most (suc (suc (suc (suc (suc (suc zero)))))) stack ks l p = int_constant most opcode.iconst_3 _ stack ks refl p
  constant_kept most (suc (suc (suc (suc (suc (suc (suc zero))))))) stack ks l p = int_constant most opcode.iconst_4 _ stack ks refl p
  constant_kept most (suc (suc (suc (suc (suc (suc (suc (suc zero)))))))) stack ks l p = int_constant most opcode.iconst_5 _ stack ks refl p
  constant_kept most (suc (suc (suc (suc (suc (suc (suc (suc (suc zero))))))))) stack ks l p =
      no_value most opcode.lconst_0 (long (pos 0)) verification.long stack ks refl tt p
  constant_kept most (suc (suc (suc (suc (suc (suc (suc (suc (suc (suc zero)))))))))) stack ks l p =
      no_value most opcode.lconst_1 (long (pos 1)) verification.long stack ks refl tt p
  constant_kept most (suc (suc (suc (suc (suc (suc (suc (suc (suc (suc (suc n))))))))))) stack ks l p = absurd (too_great n l)
    where
      too_great : (n : ℕ) → nat_le (suc (suc (suc (suc (suc (suc (suc (suc (suc (suc (suc n))))))))))) 10 ≡ true → ⊥
      too_great n e = let l = leb-true (suc (suc (suc (suc (suc (suc (suc (suc (suc (suc (suc n))))))))))) 10 e in omega (arith, l)
