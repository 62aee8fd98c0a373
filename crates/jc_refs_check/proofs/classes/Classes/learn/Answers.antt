use Rattle.jc_refs_check.proofs.NameLaws.{known_on}
use Rattle.jc_refs_check.proofs.classes.Classes.learn.Goals as goal

pub learning-preserved : goal.learning-preserved
learning-preserved c = record {
  names = c.learning.invariant.names;
  known = known_on c.learning.self.names c.learning.number c.learning.self.known.items c.push.new.self.items c.known_of-known.result c.text.result.now
      c.text.ensures.text c.learning.invariant.known c.known_of-known.ensures c.in_ok-push.ensures.items;
}
