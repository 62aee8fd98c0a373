-- No instruction pushes more than six operands.
use Rattle.std.proofs.Common.{rules, ◌≡◌, ℕ, ℤ, ◌≤◌, Bool, true, false, List, [], ◌∷◌, length, arith, nat_le, IsTrue, slice_index_or, if◌then◌else◌, sym, subst}
use Rattle.std.specs.Prelude.{⊤}
use Rattle.std.proofs.lemmas.List.{length-map}
use Rattle.std.proofs.lemmas.Bool.Decides.{nat_tests}
use Rattle.jc_programs.specs.declared.run_end.Thrown.{Thrown}
use Rattle.jc_machine_model.specs.Effects as effects
use Rattle.jc_machine_model.specs.Values.{Value, int, long, null}
use Rattle.jc_machine_model.specs.Effects.{Effect, gives, unfit, Move, stand_categories, results_at, moved, moves_of, constant, int_bits, int_pair, long_pair, long_shift, int_single, long_single, single, pair, effect}

abbrev pub Few : Effect → Type 0
Few (gives taken results) = length results ≤ 6
Few _ = ⊤

-- at most six operands are pushed
pub record GivesFew (e : Effect) : Type 0 where
  pub few : Few e

choose : (b : Bool) (e others : Effect) → GivesFew e → GivesFew others → GivesFew (if b then e else others)
choose true e others here there = here
choose false e others here there = there

one : (taken : ℕ) (v : Value) → GivesFew (gives taken (v ∷ []))
one taken v = record { few = omega arith }

none : (taken : ℕ) → GivesFew (gives taken [])
none taken = record { few = omega arith }

raised_few : (c : Thrown) → GivesFew (effects.raises c)
raised_few c = record { few = tt }

unfit_few : GivesFew unfit
unfit_few = record { few = tt }

constant_few : (op : ℕ) → GivesFew (constant op)
unfolding constant
constant_few op = search (choose, one, none) depth 14

-- ---- operands moved

abbrev FewResults : List Move → Type 0
FewResults [] = ⊤
FewResults (m ∷ moves) = (length m.results ≤ 6) × FewResults moves

record MoveFew (moves : List Move) : Type 0 where
  each : FewResults moves

pick : (b : Bool) (ms others : List Move) → MoveFew ms → MoveFew others → MoveFew (if b then ms else others)
pick true ms others here there = here
pick false ms others here there = there

no_move : MoveFew []
no_move = record { each = tt }

more_moves : (m : Move) (moves : List Move) → IsTrue (nat_le (length m.results) 6) → MoveFew moves → MoveFew (m ∷ moves)
more_moves m moves few rest = let short : length m.results ≤ 6 = grind (arith, nat_tests) in record { each = (short, rest.each) }

moves_few : (op : ℕ) → MoveFew (moves_of op)
unfolding moves_of
moves_few op = search (rules, pick, no_move, more_moves) depth 24

moved_few : (moves : List Move) (stack : List Value) → MoveFew moves → GivesFew (moved moves stack)
moved_few [] stack few = unfit_few
moved_few (m ∷ moves) stack few =
    let long : length (results_at m.results stack) ≤ 6 = omega (arith, length-map m.results (λ k. slice_index_or stack k null), few.each.0) in
    choose (stand_categories m.categories stack) _ (moved moves stack) (record { few = long }) (moved_few moves stack (record { each = few.each.1 }))

-- ---- numbers

int_bits_few : (op : ℕ) (x y : ℤ) → GivesFew (int_bits op x y)
unfolding int_bits
int_bits_few op x y = search (choose, one, unfit_few) depth 16

int_pair_few : (op : ℕ) (x y : ℤ) → GivesFew (int_pair op x y)
unfolding int_pair
int_pair_few op x y = search (choose, one, raised_few, int_bits_few) depth 16

long_pair_few : (op : ℕ) (x y : ℤ) → GivesFew (long_pair op x y)
unfolding long_pair
long_pair_few op x y = search (choose, one, raised_few, unfit_few) depth 24

long_shift_few : (op : ℕ) (x y : ℤ) → GivesFew (long_shift op x y)
unfolding long_shift
long_shift_few op x y = search (choose, one, unfit_few) depth 16

int_single_few : (op : ℕ) (x : ℤ) → GivesFew (int_single op x)
unfolding int_single
int_single_few op x = search (choose, one, unfit_few) depth 16

long_single_few : (op : ℕ) (x : ℤ) → GivesFew (long_single op x)
unfolding long_single
long_single_few op x = search (choose, one, unfit_few) depth 16

single_few : (op : ℕ) (stack : List Value) → GivesFew (single op stack)
unfolding single
single_few op (int x ∷ stack) = int_single_few op x
single_few op (long x ∷ stack) = long_single_few op x
single_few op _ = unfit_few

pair_few : (op : ℕ) (stack : List Value) → GivesFew (pair op stack)
unfolding pair
pair_few op (int y ∷ int x ∷ stack) = int_pair_few op x y
pair_few op (long y ∷ long x ∷ stack) = long_pair_few op x y
pair_few op (int y ∷ long x ∷ stack) = long_shift_few op x y
pair_few op _ = unfit_few

all_moved_few : (op : ℕ) (stack : List Value) → GivesFew (moved (moves_of op) stack)
all_moved_few op stack = moved_few (moves_of op) stack (moves_few op)

effect_few : (op : ℕ) (stack : List Value) → GivesFew (effect op stack)
unfolding effect
effect_few op stack = search (choose, constant_few, all_moved_few, single_few, pair_few) depth 12

-- what is moved is the effect's results
pub few_moved : (op taken : ℕ) (places : List ℕ) (stack : List Value) → gives taken (results_at places stack) ≡ effect op stack → length places ≤ 6
few_moved op taken places stack is =
    let few : length (results_at places stack) ≤ 6 = (subst GivesFew (sym is) (effect_few op stack)).few in
    omega (arith, few, length-map places (λ k. slice_index_or stack k null))
