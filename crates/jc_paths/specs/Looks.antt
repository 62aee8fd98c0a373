-- What a clause sees of a file or folder.
use Rattle.jc_paths.specs.declared.paths.FileWord.{FileWord}
use Rattle.jc_paths.specs.declared.paths.FileWord.TheVariants as file_words
use Rattle.jc_paths.specs.Paths.{FileText, plain, folder}

abbrev pub file_view : FileWord → FileText
file_view (file_words.Plain path) = plain path.now
file_view (file_words.Folder path) = folder path.now
