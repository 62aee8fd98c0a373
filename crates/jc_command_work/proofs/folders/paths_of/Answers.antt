use Rattle.jc_command_work.proofs.folders.paths_of.Goals as goal

pub returns-in-Folder : goal.returns-in-Folder
returns-in-Folder g c = rw c.in-Folder.is c.list_folder.ensures
