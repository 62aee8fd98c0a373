use Rattle.std.proofs.Common.{◌≡◌, ◌∙◌, ap₂, sym, subst, true}
use Rattle.jc_refs_check.specs.Suits.{class_suits}
use Rattle.jc_refs_check.specs.KnownSuits.{is_above}
use Rattle.jc_refs_check.specs.Classes.{name_at}
use Rattle.jc_refs_check.proofs.KnownLaws.{class_itself, above_is}
use Rattle.jc_refs_check.proofs.NameLaws.{other_names, suits_apart}
use Rattle.jc_refs_check.proofs.classes.Classes.suits.Goals as goal

pub returns-then-class-other : goal.returns-then-class-other
returns-then-class-other c =
    let names = c.args.self.now.names in
    subst (λ n. true ≡ class_suits (name_at names c.args.class) (name_at names n)) c.if-class-other.true (sym (class_itself (name_at names c.args.class)))

pub returns : goal.returns
returns c =
    let names = c.args.self.now.names in
    let name = name_at names c.args.class in let other = name_at names c.args.other in
    suits_apart name other c.is_above.result
    (other_names names c.args.class c.args.other c.requires.known.names c.requires.class c.requires.other c.if-class-other.false)
    (c.is_above.ensures ∙ ap₂ is_above c.known_at.ensures c.known_at-2.ensures ∙ above_is name other)
