use Rattle.jc_headline.proofs.HeadlineLaws.{each_headline}
use Rattle.jc_headline.proofs.laws.instrumented_classes_do_what_their_originals_do.Goals as goal

pub returns : goal.returns
returns c = each_headline
