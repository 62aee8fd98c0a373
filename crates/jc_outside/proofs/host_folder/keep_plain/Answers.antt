use Rattle.std.proofs.Common.{◌≡◌, ◌++◌, string_bytes}
use Rattle.jc_outside.proofs.FolderLaws.{class_file_put}
use Rattle.jc_outside.proofs.host_folder.keep_plain.Goals as goal

pub returns-in_ok-put_last : goal.returns-in_ok-put_last
returns-in_ok-put_last g c =
    let joined = c.in_ok-path.ensures in
    let text = c.in-Ok.ensures.cases in
    let path : string_bytes c.in_ok-path.path ≡ c.args.front.now ++ c.args.name.now = (cc) in
    class_file_put c.args.front.now c.args.name.now c.args.paths.now.items c.put_last.new.paths.items c.in_ok-path.path c.requires.class path c.in_ok-put_last.ensures c.requires.old
