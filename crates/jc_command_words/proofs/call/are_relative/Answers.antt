use Rattle.std.proofs.Common.{◌∙◌, ap, sym, not, ◌||◌, string_bytes, String, List, ℕ, Bool}
use Rattle.std.specs.declared.alloc.Global.{Global}
use Rattle.std.specs.List.{list_all}
use Rattle.jc_command_words.specs.Words.{words_of}
use Rattle.jc_command_words.specs.Paths.{is_relative}
use Rattle.jc_command_words.proofs.FormLaws.{list_all-map}
use Rattle.jc_command_words.proofs.call.are_relative.Goals as goal

abbrev text_of_word : String Global → List ℕ
text_of_word = string_bytes

pub returns-else-not-wants_relative : goal.returns-else-not-wants_relative
returns-else-not-wants_relative c =
    c.all_relative.ensures ∙ list_all-map is_relative text_of_word c.args.files.now
    ∙ ap (λ (b : Bool). not b || list_all is_relative (words_of c.args.files.now)) (sym (sym c.wants_relative.ensures ∙ c.if-not-wants_relative.false))
