use Rattle.std.specs.BTreeMap.{get}
use Rattle.std.specs.Ordering.{nat_cmp}
use Rattle.jc_link_programs.specs.Pairs.{id_of}
use Rattle.jc_link_programs.proofs.PairsLaws.{Knows, IsOwner}
use Rattle.jc_link_programs.proofs.pairs.first_of_one_id.Given as goal

-- the ids of the classes so far are known, each at its class
abbrev pub invariant-owning : goal.invariant-owning
invariant-owning l = Knows id_of l.classes (IsOwner (get nat_cmp l.owners)) l.second
