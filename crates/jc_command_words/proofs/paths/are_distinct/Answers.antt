use Rattle.std.proofs.Common.{◌∙◌, sym, refl, get_or, Bor, []}
use Rattle.std.proofs.lemmas.List.{get_or_default}
use Rattle.std.proofs.lemmas.Bool.{not-false, not-true}
use Rattle.jc_command_words.specs.Words.{Word}
use Rattle.jc_command_words.proofs.PathLaws.{seen_twice, seen_once}
use Rattle.jc_command_words.proofs.paths.are_distinct.Goals as goal

abbrev nothing : Bor Word
nothing = record { ref_ptr = (0, 0); now = [] }

pub returns-then-not-is_new : goal.returns-then-not-is_new
returns-then-not-is_new c =
    let texts = c.args.texts.now in
    let i = c.seeing.text-index in
    let text = get_or texts i nothing in
    seen_twice texts i text c.seeing.seen.keys c.seeing-test.true (get_or_default texts i nothing text c.seeing-test.true) c.seeing.invariant.kept
    (not-false _ (sym c.in_ok-is_new.ensures.added ∙ c.if-not-is_new.true))

pub seeing-preserved : goal.seeing-preserved
seeing-preserved c =
    let texts = c.args.texts.now in
    let i = c.seeing.text-index in
    let text = get_or texts i nothing in
    let other = not-true _ (sym c.in_ok-is_new.ensures.added ∙ c.if-not-is_new.false) in
    seen_once texts i text c.seeing.seen.keys c.insert_full.new.self.keys c.seeing-test.true (get_or_default texts i nothing text c.seeing-test.true) c.seeing.invariant other
    (c.in_ok-is_new.ensures.keys ∙ rw other refl)
