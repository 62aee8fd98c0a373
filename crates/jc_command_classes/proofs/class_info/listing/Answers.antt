use Rattle.std.proofs.Common.{ℕ, List, sym, subst}
use Rattle.std.proofs.lemmas.Result.{err_from_is_err_and}
use Rattle.jc_command_classes.specs.ClassInfo.{Lists, prints, analysed}
use Rattle.jc_command_classes.proofs.ListingLaws.{refused_listing}
use Rattle.jc_command_classes.proofs.class_info.listing.Goals as goal

pub returns-in_err-class : goal.returns-in_err-class
returns-in_err-class c =
    let p = err_from_is_err_and c.from_residual.result c.from_residual.ensures.1 in
    rw (p.1, p.2) (refused_listing c.args.bytes.now c.in_err-class.field-0.0 c.in_err-class.ensures.refused)

pub returns : goal.returns
returns c =
    subst (λ (text : List ℕ). Lists c.args.bytes.now (prints text)) (sym c.in_ok-class_text.ensures)
    (analysed c.in_ok-class.class c.in_ok-class.ensures.analysed)
