-- The status that an instruction alone gives its line.
use Rattle.std.proofs.Common.{◌≡◌, ⊎_elim, Bool, true, false, cond, List, [], ◌∷◌, length, refl, arith}
use Rattle.std.specs.Prelude.{nat_le, Contains}
use Rattle.std.specs.List.{list_any, list_all}
use Rattle.std.proofs.lemmas.Bool.{le-leb}
use Rattle.jc_bytes.proofs.BooleanLaws.{first_in, later_in, which_in, none_in}
use Rattle.jc_rules.specs.Placed.{state_by, state_of, Says}
use Rattle.jc_rules.specs.Status.{items_of}

abbrev some_of : List Bool → Bool
some_of values = list_any (λ value. value) values

abbrev all_of : List Bool → Bool
all_of values = list_all (λ value. value) values

-- ---- values

true_some : (values : List Bool) → Contains values true → some_of values ≡ true
true_some [] there = absurd (none_in true there)
true_some (true ∷ values) there = refl
true_some (false ∷ values) there = ⊎_elim (λ same. cc) (λ later. true_some values later) (which_in false values true there)

false_all : (values : List Bool) → Contains values false → all_of values ≡ false
false_all [] there = absurd (none_in false there)
false_all (false ∷ values) there = refl
false_all (true ∷ values) there = ⊎_elim (λ same. cc) (λ later. false_all values later) (which_in true values false there)

all_false : (values : List Bool) → all_of values ≡ false → Contains values false
all_false [] e = absurd cc
all_false (false ∷ values) e = first_in false values
all_false (true ∷ values) e = later_in true values false (all_false values e)

-- one that is true and one that is false
at_least_two : (values : List Bool) → some_of values ≡ true → all_of values ≡ false → nat_le 2 (length values) ≡ true
at_least_two [] some all = absurd cc
at_least_two (true ∷ []) some all = absurd cc
at_least_two (false ∷ []) some all = absurd cc
at_least_two (v ∷ w ∷ values) some all = le-leb 2 (length (v ∷ w ∷ values)) (omega arith)

-- ---- the items of an instruction

items_said : (values : List Bool) (some all two : Bool) (c : Bool) → some_of values ≡ some → all_of values ≡ all → nat_le 2 (length values) ≡ two
    → Says (state_by some all) c → Contains (some ∷ cond two values []) c
items_said values false all two true e f g says = absurd says
items_said values false all two false e f g says = first_in false (cond two values [])
items_said values true all two true e f g says = first_in true (cond two values [])
items_said values true false false false e f g says = let more : nat_le 2 (length values) ≡ true = at_least_two values e f in absurd cc
items_said values true false true false e f g says = later_in true values false (all_false values f)
items_said values true true two false e f g says = absurd says

said_items : (values : List Bool) (some all two : Bool) (c : Bool) → some_of values ≡ some → all_of values ≡ all
    → Contains (some ∷ cond two values []) c → Says (state_by some all) c
said_items values true true two true e f there = tt
said_items values true false two c e f there = tt
said_items values false all two false e f there = tt
said_items values true true false false e f there = ⊎_elim (λ same. absurd cc) (λ later. absurd (none_in false later)) (which_in true [] false there)
said_items values true true true false e f there =
    ⊎_elim (λ same. absurd cc) (λ later. let no : all_of values ≡ false = false_all values later in absurd cc) (which_in true values false there)
said_items values false all false true e f there = ⊎_elim (λ same. absurd cc) (λ later. absurd (none_in true later)) (which_in false [] true there)
said_items values false all true true e f there =
    ⊎_elim (λ same. absurd cc) (λ later. let yes : some_of values ≡ true = true_some values later in absurd cc) (which_in false values true there)

module _ (values : List Bool) (c : Bool) where
  pub item_said : Says (state_of values) c → Contains (items_of values) c
  item_said says = items_said values (some_of values) (all_of values) (nat_le 2 (length values)) c refl refl refl says

  pub said_item : Contains (items_of values) c → Says (state_of values) c
  said_item there = said_items values (some_of values) (all_of values) (nat_le 2 (length values)) c refl refl there
