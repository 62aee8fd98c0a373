-- Arguments of a call, on the caller's stack and in the callee's local variables.
use Rattle.std.proofs.Common.{◌≡◌, ℕ, zero, suc, ◌+◌, ◌-◌, ◌≤◌, ◌<◌, Bool, true, false, ◌&&◌, List, [], ◌∷◌, ◌++◌, Option, Some, None, length, take, drop, reverse, replicate, refl, arith, slice_get, slice_set, slice_index_or, is_some, option_map, if◌then◌else◌, ◌∙◌, ap, sym, subst}
use Rattle.std.proofs.lemmas.List.{length-map, length-append, append_assoc, set_at}
use Rattle.std.proofs.lemmas.Grind.{reverse_onto}
use Rattle.jc_bytes.specs.Descriptor.{FieldType}
use Rattle.jc_machine_model.specs.Values.{Value, long, ComputationalType, is_of, computational_type}
use Rattle.jc_machine_model.specs.Statics.{is_of_type}
use Rattle.jc_machine_model.specs.Calls.{Arguments, argument_before, taken_for, spread_value, spread_values, locals_for}
use Rattle.jc_machine_code.specs.declared.operation.ComputationalType as kinds
use Rattle.jc_machine_code.specs.Types.{computational}
use Rattle.jc_machine_turn.specs.Parameters.{AreParameters, is_argument, with_slots}

pub count_of_parameters : (types : List FieldType) (parameters : List (Option kinds.ComputationalType)) → AreParameters types parameters
    → length parameters ≡ length types
count_of_parameters types parameters are =
    sym (length-map parameters (option_map computational)) ∙ (ap length are ∙ length-map types computational_type)

-- ---- on the caller's stack

drop_none : (n : ℕ) → drop {A = Value} n [] ≡ []
drop_none zero = refl
drop_none (suc n) = refl

drop_next : (stack rest : List Value) (n : ℕ) (v : Value) → drop n stack ≡ v ∷ rest
    → (rest ≡ drop (suc n) stack) × (slice_get stack n ≡ Some v) × (reverse (take (suc n) stack) ≡ v ∷ reverse (take n stack)) × (suc n ≤ length stack)
drop_next [] rest n v is = absurd (cc (drop_none n))
drop_next (x ∷ stack) rest zero v is =
    let tail : rest ≡ stack = cc in
    let head : x ≡ v = cc in
    (tail, ap Some head, ap (λ y. y ∷ []) head, omega arith)
drop_next (x ∷ stack) rest (suc n) v is =
    let inner : (rest ≡ drop (suc n) stack) × (slice_get stack n ≡ Some v) × (reverse (take (suc n) stack) ≡ v ∷ reverse (take n stack))
    × (suc n ≤ length stack) = drop_next stack rest n v is in (
      inner.0,
      inner.1,
      reverse_onto (take (suc n) stack) x []
          ∙ (ap (λ vs. vs ++ x ∷ []) inner.2 ∙ ap (λ vs. v ∷ vs) (sym (reverse_onto (take n stack) x []))),
      omega (arith, inner.3),
    )

-- the argument in front of others, if what is left of the stack has one
abbrev front : FieldType → List Value → List Value → Option Arguments
front type values [] = None
front type values (v ∷ rest) = if is_of_type type v then Some (record { values = v ∷ values; rest = rest }) else None

-- the arguments for so many parameters are the values on top
pub record TakenFor (stack : List Value) (n : ℕ) (a : Arguments) : Type 0 where
  pub values : a.values ≡ reverse (take n stack)
  pub rest : a.rest ≡ drop n stack
  pub count : n ≤ length stack

-- one argument more, in front
taken_before : (type : FieldType) (stack : List Value) (a b : Arguments) (n : ℕ) (rest : List Value) → b.rest ≡ rest → TakenFor stack n b
    → argument_before type (Some b) ≡ Some a → TakenFor stack (suc n) a
taken_before type stack a b n [] left taken is = absurd (cc (ap (λ vs. front type b.values vs) left))
taken_before type stack a b n (v ∷ rest) left taken is = by (is_of_type type v) (ap (λ vs. front type b.values vs) (sym left) ∙ is)
  where
    next : (rest ≡ drop (suc n) stack) × (slice_get stack n ≡ Some v) × (reverse (take (suc n) stack) ≡ v ∷ reverse (take n stack)) × (suc n ≤ length stack)
    next = drop_next stack rest n v (sym taken.rest ∙ left)

    by : (fits : Bool) → (if fits then Some (record { values = v ∷ b.values; rest = rest }) else None) ≡ Some a → TakenFor stack (suc n) a
    by false there = absurd (cc)
    by true there =
        let same : record { values = v ∷ b.values; rest = rest } ≡ a = cc in
        let P : Arguments → Type 0 = λ d. TakenFor stack (suc n) d in
        subst P same (record { values = ap (λ vs. v ∷ vs) taken.values ∙ sym next.2; rest = next.0; count = next.3 })

taken_next : (type : FieldType) (stack : List Value) (a : Arguments) (n : ℕ) (others : Option Arguments)
    → ((b : Arguments) → others ≡ Some b → TakenFor stack n b) → argument_before type others ≡ Some a → TakenFor stack (suc n) a
taken_next type stack a n None each is = absurd (cc)
taken_next type stack a n (Some b) each is = taken_before type stack a b n b.rest refl (each b refl) is

pub taken_is : (types : List FieldType) (stack : List Value) (a : Arguments) → taken_for types stack ≡ Some a → TakenFor stack (length types) a
taken_is [] stack a is =
    let same : record { values = []; rest = stack } ≡ a = cc in
    let P : Arguments → Type 0 = λ b. TakenFor stack 0 b in
    let few : 0 ≤ length stack = omega arith in
    subst P same (record { values = refl; rest = refl; count = few })
taken_is (type ∷ types) stack a is = taken_next type stack a (length types) (taken_for types stack) (λ b there. taken_is types stack b there) is

argument_is : (type : FieldType) (p : Option ComputationalType) (v : Value) → p ≡ computational_type type → is_argument (Some v) p ≡ is_of_type type v
argument_is type p v kind = ap (is_argument (Some v)) kind ∙ by (computational_type type)
  where
    by : (k : Option ComputationalType) → is_argument (Some v) k ≡ elim k [ None ↦ false | Some computational ↦ is_of computational v ]
    by None = refl
    by (Some computational) = refl

some_if : (fits : Bool) (a : Arguments) → is_some (if fits then Some a else None) ≡ fits
some_if true a = refl
some_if false a = refl

some_front : (type : FieldType) (values rest : List Value) (v : Value) → is_some (front type values (v ∷ rest)) ≡ is_of_type type v
some_front type values rest v = some_if (is_of_type type v) (record { values = v ∷ values; rest = rest })

-- nothing stands below the last of the values
none_below : (stack : List Value) (n : ℕ) → drop n stack ≡ [] → slice_get stack n ≡ None
none_below [] n is = refl
none_below (x ∷ stack) zero is = absurd (cc)
none_below (x ∷ stack) (suc n) is = none_below stack n is

fit_front : (type : FieldType) (stack values rest : List Value) (p : Option ComputationalType) (n : ℕ) → p ≡ computational_type type
    → drop n stack ≡ rest → is_argument (slice_get stack n) p ≡ is_some (front type values rest)
fit_front type stack values [] p n kind left = ap (λ v. is_argument v p) (none_below stack n left)
fit_front type stack values (v ∷ rest) p n kind left =
    ap (λ o. is_argument o p) (drop_next stack rest n v left).1 ∙ (argument_is type p v kind ∙ sym (some_front type values rest v))

fit_before : (type : FieldType) (stack : List Value) (p : Option ComputationalType) (n : ℕ) (others : Option Arguments)
    → p ≡ computational_type type → ((b : Arguments) → others ≡ Some b → TakenFor stack n b)
    → (is_some others && is_argument (slice_get stack n) p) ≡ is_some (argument_before type others)
fit_before type stack p n None kind each = refl
fit_before type stack p n (Some b) kind each = fit_front type stack b.values b.rest p n kind (sym (each b refl).rest)

pub fit_step : (type : FieldType) (types : List FieldType) (stack : List Value) (p : Option ComputationalType) (n : ℕ)
    → p ≡ computational_type type → n ≡ length types
    → (is_some (taken_for types stack) && is_argument (slice_get stack n) p) ≡ is_some (taken_for (type ∷ types) stack)
fit_step type types stack p n kind count =
    fit_before type stack p n (taken_for types stack) kind (λ b there. subst (λ m. TakenFor stack m b) (sym count) (taken_is types stack b there))

-- the items behind the first one, as a pattern gives them
abbrev pub behind : {X : Type 0} → List X → List X
behind xs = take (length xs - 1) (drop 1 xs)

take_all : {X : Type 0} (xs : List X) → take (length xs) xs ≡ xs
take_all [] = refl
take_all (x ∷ xs) = ap (λ ys. x ∷ ys) (take_all xs)

pub behind-cons : {X : Type 0} (x : X) (xs : List X) → behind (x ∷ xs) ≡ xs
behind-cons x xs = let less : length (x ∷ xs) - 1 ≡ length xs = omega arith in ap (λ n. take n xs) less ∙ take_all xs

-- the operand for the first parameter, below those for the others
pub fit_first : (ps : List (Option kinds.ComputationalType)) (types : List FieldType) (stack : List Value) (peeked : Option Value)
    (others first : Bool) → 1 ≤ length ps
    → peeked ≡ slice_get stack (length (behind ps)) → ((ts : List FieldType) → AreParameters ts (behind ps) → others ≡ is_some (taken_for ts stack))
    → first ≡ is_argument peeked (option_map computational (slice_index_or ps 0 None)) → AreParameters types ps
    → (others && first) ≡ is_some (taken_for types stack)
fit_first [] types stack peeked others first some read each is are = absurd (omega arith)
fit_first (p ∷ ps) [] stack peeked others first some read each is are = absurd (cc)
fit_first (p ∷ ps) (type ∷ types) stack peeked others first some read each is are =
    let kind : option_map computational p ≡ computational_type type = cc in
    let rest : AreParameters types ps = cc in
    let rest' : AreParameters types (behind (p ∷ ps)) = subst (AreParameters types) (sym (behind-cons p ps)) rest in
    let count : length ps ≡ length types = count_of_parameters types ps rest in
    let got : peeked ≡ slice_get stack (length ps) = read ∙ ap (λ qs. slice_get stack (length qs)) (behind-cons p ps) in
    ap (λ b. b && first) (each types rest')
    ∙ (ap (λ b. is_some (taken_for types stack) && b) (is ∙ ap (λ v. is_argument v (option_map computational p)) got)
    ∙ fit_step type types stack (option_map computational p) (length ps) kind count)

-- ---- in the callee's local variables

pub got_some : (stack : List Value) (n : ℕ) → n < length stack → None ≡ slice_get stack n → ⊥
got_some [] n less none = absurd (omega arith)
got_some (x ∷ stack) zero less none = cc
got_some (x ∷ stack) (suc n) less none = got_some stack n (omega arith) none

one_more : (stack : List Value) (n : ℕ) (v : Value) → Some v ≡ slice_get stack n → reverse (take (suc n) stack) ≡ v ∷ reverse (take n stack)
one_more [] n v read = absurd (cc)
one_more (x ∷ stack) zero v read = let same : x ≡ v = cc in ap (λ y. y ∷ []) same
one_more (x ∷ stack) (suc n) v read =
    reverse_onto (take (suc n) stack) x [] ∙ (ap (λ vs. vs ++ x ∷ []) (one_more stack n v read) ∙ ap (λ vs. v ∷ vs) (sym (reverse_onto (take n stack) x [])))

pub next_value : (stack : List Value) (count : ℕ) (v : Value) → (count ≡ 0 → ⊥) → Some v ≡ slice_get stack (count - 1)
    → reverse (take count stack) ≡ v ∷ reverse (take (count - 1) stack)
next_value stack zero v some read = absurd (some refl)
next_value stack (suc n) v some read =
    let less : suc n - 1 ≡ n = omega arith in
    one_more stack n v (read ∙ ap (slice_get stack) less) ∙ ap (λ m. v ∷ reverse (take m stack)) (sym less)

some_slots : (v : Value) → 0 < length (spread_value v)
some_slots (long x) = omega arith
some_slots _ = omega arith

pub slots_left : (stack : List Value) (count slot : ℕ) (v : Value) → (count ≡ 0 → ⊥) → Some v ≡ slice_get stack (count - 1)
    → slot + length (spread_values (reverse (take count stack))) ≤ 1004
    → (slot < 1004) × (slot + length (spread_value v) + length (spread_values (reverse (take (count - 1) stack))) ≤ 1004)
slots_left stack count slot v some read room =
    let all : length (spread_values (reverse (take count stack))) ≡ length (spread_value v) + length (spread_values (reverse (take (count - 1) stack))) =
    ap (λ vs. length (spread_values vs)) (next_value stack count v some read)
    ∙ length-append (spread_value v) (spread_values (reverse (take (count - 1) stack))) in
    let first : slot < 1004 = omega (arith, all, some_slots v) in
    let rest : slot + length (spread_value v) + length (spread_values (reverse (take (count - 1) stack))) ≤ 1004 = omega (arith, all) in
    (first, rest)

pub with_slots-append : (xs ys locals : List (Option Value)) (from : ℕ)
    → with_slots locals from (xs ++ ys) ≡ with_slots (with_slots locals from xs) (from + length xs) ys
with_slots-append [] ys locals from = ap (λ n. with_slots locals n ys) (omega arith)
with_slots-append (x ∷ xs) ys locals from =
    with_slots-append xs ys (slice_set locals from x) (from + 1) ∙ ap (λ n. with_slots (with_slots (slice_set locals from x) (from + 1) xs) n ys) (omega arith)

pub slots_after : (stack : List Value) (count slot next : ℕ) (v : Value) (locals : List (Option Value)) → (count ≡ 0 → ⊥)
    → Some v ≡ slice_get stack (count - 1) → next ≡ slot + length (spread_value v)
    → with_slots (with_slots locals slot (spread_value v)) next (spread_values (reverse (take (count - 1) stack)))
    ≡ with_slots locals slot (spread_values (reverse (take count stack)))
slots_after stack count slot next v locals some read place =
    let others = spread_values (reverse (take (count - 1) stack)) in
    ap (λ n. with_slots (with_slots locals slot (spread_value v)) n others) place
    ∙ (sym (with_slots-append (spread_value v) others locals slot)
    ∙ ap (λ vs. with_slots locals slot (spread_values vs)) (sym (next_value stack count v some read)))

filled : (xs before : List (Option Value)) (n from : ℕ) → length before ≡ from → length xs ≤ n
    → with_slots (before ++ replicate n None) from xs ≡ before ++ (xs ++ replicate (n - length xs) None)
filled [] before n from at few = ap (λ m. before ++ replicate m None) (omega arith)
filled (x ∷ xs) before zero from at few = absurd (omega arith)
filled (x ∷ xs) before (suc n) from at few =
    let put : slice_set (before ++ (None ∷ replicate n None)) from x ≡ before ++ (x ∷ replicate n None) = set_at before None (replicate n None) x from at in
    let regroup : before ++ (x ∷ replicate n None) ≡ (before ++ x ∷ []) ++ replicate n None = sym (append_assoc before (x ∷ []) (replicate n None)) in
    let long : length (before ++ x ∷ []) ≡ from + 1 = omega (arith, length-append before (x ∷ []), at) in
    let fewer : length xs ≤ n = omega (arith, few) in
    let left : suc n - length (x ∷ xs) ≡ n - length xs = omega arith in
    ap (λ ls. with_slots ls (from + 1) xs) (put ∙ regroup)
    ∙ (filled xs (before ++ x ∷ []) n (from + 1) long fewer
    ∙ (append_assoc before (x ∷ []) (xs ++ replicate (n - length xs) None) ∙ ap (λ m. before ++ (x ∷ (xs ++ replicate m None))) (sym left)))

pub locals_are : (max_locals : ℕ) (values : List Value) → length (spread_values values) ≤ max_locals
    → with_slots (replicate max_locals None) 0 (spread_values values) ≡ locals_for max_locals values
locals_are max_locals values few = filled (spread_values values) [] max_locals 0 refl few
