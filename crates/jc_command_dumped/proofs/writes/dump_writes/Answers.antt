use Rattle.std.proofs.Common.{◌≡◌, ◌<◌, ◌≤◌, ◌++◌, List, [], ◌∷◌, map, length, take, get_or, string_bytes, sym, ◌∙◌, ap, arith}
use Rattle.std.proofs.lemmas.List.{map-append, length-map, get_or-map}
use Rattle.jc_command_work.specs.Seen.{words_of, write_seen}
use Rattle.jc_command_work.specs.Step.{Write}
use Rattle.jc_command_dumped.specs.DumpedAnswers.{dump_files}
use Rattle.jc_command_dumped.proofs.WriteLaws.{no_files, files_more}
use Rattle.jc_command_dumped.proofs.writes.dump_writes.Goals as goal

pub writing-init : goal.writing-init
writing-init c = ap (map write_seen) c.in_ok-writes.ensures.items ∙ sym (no_files c.args.program.now (words_of c.args.paths.now))

pub writing-preserved : goal.writing-preserved
writing-preserved c =
    let program = c.args.program.now in
    let paths = c.args.paths.now in
    let dumps = c.args.dumps.now in
    let i = c.writing.index in
    let write = c.in_ok-hits_write.field-0 in
    let within : i < length dumps = omega (arith, c.writing-test.true) in
    let there : i < length paths = omega (arith, within, c.requires.enough) in
    let enough : length dumps ≤ length (words_of paths) = (let l = length-map paths string_bytes in omega (arith, l, c.requires.enough)) in
    let path = c.as_str-path.result.now in
    let is_path : path ≡ get_or (words_of paths) i path =
    c.as_str-path.ensures.value ∙ ap string_bytes c.index-paths-index.is ∙ sym (get_or-map string_bytes paths i c.index-paths-index.result path there) in
    ap (map write_seen) c.in_ok-push.ensures.items ∙ map-append write_seen c.writing.writes.items (write ∷ [])
    ∙ ap (λ (ws : List Write). ws ++ write_seen write ∷ []) c.writing.invariant
    ∙ sym (files_more program (words_of paths) dumps i path c.index-dumps-index.result within enough is_path c.index-dumps-index.is
    ∙ ap (λ (w : Write). dump_files program (words_of paths) (take i dumps) ++ w ∷ []) (sym c.in_ok-hits_write.ensures))
