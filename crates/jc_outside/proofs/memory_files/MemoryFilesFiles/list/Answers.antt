use Rattle.std.proofs.Common.{◌∙◌, ap, filter}
use Rattle.std.specs.FinMap.{keys}
use Rattle.jc_outside.specs.Folder.{is_class_file}
use Rattle.jc_outside.specs.InMemory.{MemoryState}
use Rattle.jc_outside.proofs.FolderLaws.{listing_given}
use Rattle.jc_outside.proofs.memory_files.MemoryFilesFiles.list.Goals as goal

pub returns-clause-gives : goal.returns-clause-gives
returns-clause-gives c =
    let listed = c.in_ok-class_files.ensures in
    listing_given c.args.self.now.files c.args.folder.now c.as_str.result.now _ (c.as_str.ensures.value ∙ c.in_ok-front.ensures)
    (listed.told ∙ ap (λ (s : MemoryState). filter (is_class_file c.as_str.result.now) (keys s.files)) c.self.view_is) listed.sorted
