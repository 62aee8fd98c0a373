use Rattle.std.proofs.Common.{[], None, get_or, refl}
use Rattle.std.proofs.lemmas.Result.{err_from_is_err_and}
use Rattle.jc_paths.specs.declared.paths.FileWord.{FileWord}
use Rattle.jc_paths.specs.declared.paths.FileWord.TheVariants as file_words
use Rattle.jc_paths.specs.Looks.{file_view}
use Rattle.jc_command_work.specs.Seen.{words_of}
use Rattle.jc_command_work.proofs.FolderLaws.{word_failed, word_kept, word_lost, words_listed}
use Rattle.jc_command_work.proofs.folders.all_paths.Goals as goal

abbrev nothing : FileWord
nothing = file_words.Plain (record { ref_ptr = (0, 0); now = [] })

pub returns-in_err-more : goal.returns-in_err-more
returns-in_err-more g c out err outs errs =
    let p = err_from_is_err_and c.from_residual.result c.from_residual.ensures.1 in
    rw (p.1, p.2) (word_failed g.F.Files.landed file_view c.args.words.now c.listing.word-index nothing c.listing-test.true (file_view (get_or c.args.words.now c.listing.word-index nothing))
    refl _ _ _ _ _ _ _ (c.listing.invariant out err outs errs) _ (c.in_err-more.ensures out err outs errs))

pub returns-in_err-put_last : goal.returns-in_err-put_last
returns-in_err-put_last g c out err outs errs =
    let p = err_from_is_err_and c.from_residual-in_err-put_last.result c.from_residual-in_err-put_last.ensures.1 in
    rw (p.1, p.2) (word_lost g.F.Files.landed file_view c.args.words.now c.listing.word-index nothing c.listing-test.true (file_view (get_or c.args.words.now c.listing.word-index nothing))
    refl _ _ _ _ _ _ _ (c.listing.invariant out err outs errs) (words_of c.in_ok-more.more.items) None refl (c.in_ok-more.ensures out err outs errs))

pub listing-preserved : goal.listing-preserved
listing-preserved g c out err outs errs =
    word_kept g.F.Files.landed file_view c.args.words.now c.listing.word-index nothing c.listing-test.true (file_view (get_or c.args.words.now c.listing.word-index nothing))
    refl _ _ _ _ _ _ _ (c.listing.invariant out err outs errs) (words_of c.in_ok-more.more.items) _ c.in_ok-put_last.ensures (c.in_ok-more.ensures out err outs errs)

pub returns : goal.returns
returns g c out err outs errs =
    words_listed g.F.Files.landed file_view c.args.words.now c.listing.word-index c.listing-test.false _ _ _ _ _ (c.listing.invariant out err outs errs)
