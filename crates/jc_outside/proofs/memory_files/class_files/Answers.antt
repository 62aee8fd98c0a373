use Rattle.std.proofs.lemmas.Map.Iter.{rest_all}
use Rattle.std.specs.Map.Iter.{deref}
use Rattle.jc_outside.specs.Folder.{is_class_file}
use Rattle.jc_outside.proofs.FolderLaws.{listed, listed_in_order}
use Rattle.jc_outside.proofs.memory_files.class_files.Goals as goal

pub returns-clause-told : goal.returns-clause-told
returns-clause-told c =
    listed (is_class_file c.args.front.now) c.args.files.now _ _ c.keys-path-items.ensures.ordered (rest_all deref _ _ _ c.in-None.is c.next.ensures.steps) c.listing.invariant

pub returns-clause-sorted : goal.returns-clause-sorted
returns-clause-sorted c =
    let ordered = c.keys-path-items.ensures.ordered in
    listed_in_order (is_class_file c.args.front.now) c.args.files.now _ ordered
    (listed (is_class_file c.args.front.now) c.args.files.now _ _ ordered (rest_all deref _ _ _ c.in-None.is c.next.ensures.steps) c.listing.invariant)
