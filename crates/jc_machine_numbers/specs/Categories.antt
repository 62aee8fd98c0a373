-- Operands moved, by the categories of those on top.
use Rattle.std.specs.Prelude.{ℕ, ◌+◌, Bool, true, false, ◌&&◌, List, [], ◌∷◌, if◌then◌else◌}
use Rattle.jc_machine_model.specs.Values.{Value}
use Rattle.jc_machine_model.specs.Effects as effects
use Rattle.jc_machine_numbers.specs.declared.operand.Category.{Category}
use Rattle.jc_machine_numbers.specs.declared.operand.Category.TheVariants as categories

-- an operand of the category is there
abbrev pub is_of_category : effects.Category → Category → Bool
is_of_category effects.category_1 categories.One = true
is_of_category effects.category_2 categories.Two = true
is_of_category _ _ = false

-- operands of these categories stand on top
abbrev pub stand_on_top : List effects.Category → List Category → Bool
stand_on_top [] there = true
stand_on_top (category ∷ wanted) [] = false
stand_on_top (category ∷ wanted) (c ∷ there) = is_of_category category c && stand_on_top wanted there

-- how many operands there are
abbrev pub operand_count : List effects.Category → ℕ
operand_count [] = 0
operand_count (category ∷ wanted) = 1 + operand_count wanted

-- the first form that fits operands of these categories
abbrev pub moved_by : List effects.Move → List Category → List Value → effects.Effect
moved_by [] there stack = effects.unfit
moved_by (m ∷ moves) there stack =
    if stand_on_top m.categories there then effects.gives (operand_count m.categories) (effects.results_at m.results stack)
    else moved_by moves there stack
