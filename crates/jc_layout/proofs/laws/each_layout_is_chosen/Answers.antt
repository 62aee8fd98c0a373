use Rattle.jc_layout.proofs.LayoutLaws.{starts_stand, one_list, chosen_near, chosen_jumps}
use Rattle.jc_layout.proofs.RoundsLaws.{chosen_is, one_chosen}
use Rattle.jc_layout.specs.Layout.{chosen_list}
use Rattle.jc_layout.proofs.laws.each_layout_is_chosen.Goals as goal

pub returns : goal.returns
returns c = record {
  starts = starts_stand;
  one = one_list;
  chosen = chosen_is;
  one_choice = λ code wide is. one_chosen code wide (chosen_list code) is (chosen_is code);
  near = chosen_near;
  jumps = chosen_jumps;
}
