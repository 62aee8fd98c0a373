-- The added method that was written is read as the one that gives the probe array, and passes the kind check.
use Rattle.jc_instrument_reread.proofs.AgainLaws.{read_as_init, added_passes}
use Rattle.jc_instrument_reread.proofs.laws.the_added_method_is_read_back.Goals as goal

pub returns : goal.returns
returns c = record {
  init = λ fetch twin owner id count p method number w. read_as_init fetch twin owner id count p method w number;
  passes = λ fetch twin owner id count p method number w. added_passes fetch twin owner id count p method w number;
}
