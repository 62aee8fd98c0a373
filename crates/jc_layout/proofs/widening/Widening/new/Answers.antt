use Rattle.std.proofs.Common.{◌∙◌, ◌<◌, List, ℕ, map, All, ap, subst, sym, length}
use Rattle.jc_methods.specs.Widened.{listed}
use Rattle.jc_layout.specs.Shift.{ends_in}
use Rattle.jc_layout.specs.declared.jumps.Jump.{Jump}
use Rattle.jc_layout.proofs.ChoiceLaws.{starts_count}
use Rattle.jc_layout.proofs.KeptLaws.{few_in, kept_first, places_in}
use Rattle.jc_layout.proofs.widening.Widening.new.Goals as goal

pub jumps_of-requires-clause-few : goal.jumps_of-requires-clause-few
jumps_of-requires-clause-few c = few_in c.args.code.now c.requires.layable

pub ends_of-requires : goal.ends_of-requires
ends_of-requires c =
    let code = c.args.code.now in
    let jumps = c.in_ok-jumps.jumps.items in
    let starts = c.args.starts.items in
    let size = ap length c.requires.starts ∙ starts_count (listed c.args.wide.items) code in
    subst (λ (l : List ℕ). All (λ (j : Jump). (j.number < length l) × (j.to < length l)) c.deref.result.now) (sym c.deref-2.ensures.value)
    (subst (λ (l : List Jump). All (λ (j : Jump). (j.number < length c.args.starts.items) × (j.to < length c.args.starts.items)) l) (sym c.deref.ensures.value)
    (places_in code jumps starts c.in_ok-jumps.ensures size))

pub returns-clause-kept : goal.returns-clause-kept
returns-clause-kept c =
    let code = c.args.code.now in
    let jumps = c.in_ok-jumps.jumps.items in
    let starts = c.args.starts.items in
    let same = ap (λ (l : List ℕ). map (ends_in l) c.deref.result.now) c.deref-2.ensures.value
    ∙ ap (λ (l : List Jump). map (ends_in starts) l) c.deref.ensures.value in
    kept_first code jumps c.args.wide.items starts c.in_ok-ends.ends.items c.in_ok-jumps.ensures c.requires.wide c.requires.starts
    (c.in_ok-ends.ensures ∙ same)
