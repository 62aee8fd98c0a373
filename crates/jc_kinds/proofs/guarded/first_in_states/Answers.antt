use Rattle.std.proofs.Common.{rules, ◌≡◌, ◌<◌, true, length, sym, ap, ◌∙◌}
use Rattle.jc_methods.specs.declared.kind.Kind.{Kind}
use Rattle.jc_kinds.specs.KindFits.{kind_fits}
use Rattle.jc_kinds.proofs.GuardLaws.{fit_next}
use Rattle.jc_kinds.proofs.guarded.first_in_states.Goals as goal

pub looking-preserved : goal.looking-preserved
looking-preserved c =
    let inside : c.looking.at < length c.args.states.now = search rules in
    let yes : c.fits.result ≡ true = search rules in
    fit_next c.args.states.now c.args.slot c.args.start c.looking.at c.args.want c.index-states-at.result inside c.index-states-at.is
    (ap (λ (kind : Kind). kind_fits kind c.args.want) (sym c.local_at.ensures) ∙ sym c.fits.ensures ∙ yes) c.looking.invariant
