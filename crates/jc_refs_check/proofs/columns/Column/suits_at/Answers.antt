use Rattle.std.proofs.Common.{None, sym, ◌∙◌}
use Rattle.std.proofs.lemmas.List.{get_or_read}
use Rattle.jc_refs_check.specs.Unguarded.{class_before}
use Rattle.jc_refs_check.proofs.ColumnLaws.{suited_some, suited_none}
use Rattle.jc_refs_check.proofs.columns.Column.suits_at.Goals as goal

pub suits-requires-clause-class : goal.suits-requires-clause-class
suits-requires-clause-class c =
    c.requires.numbers c.args.at c.in-Some.class (sym (get_or_read c.args.self.now.classes.items c.args.at c.index.result.now c.requires.within c.index.ensures None) ∙ c.in-Some.is)

pub returns-in-Some : goal.returns-in-Some
returns-in-Some c =
    suited_some c.args.known.now.names (class_before c.args.self.now.classes.items c.args.at) c.in-Some.class c.args.want c.suits.result
    (sym (get_or_read c.args.self.now.classes.items c.args.at c.index.result.now c.requires.within c.index.ensures None) ∙ c.in-Some.is) c.suits.ensures

pub returns-in-None : goal.returns-in-None
returns-in-None c =
    suited_none c.args.known.now.names (class_before c.args.self.now.classes.items c.args.at) c.args.want
    (sym (get_or_read c.args.self.now.classes.items c.args.at c.index.result.now c.requires.within c.index.ensures None) ∙ c.in-None.is)
