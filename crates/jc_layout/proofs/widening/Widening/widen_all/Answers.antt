use Rattle.std.proofs.Common.{◌∙◌, ◌<◌, List, Bool, ℕ, map, length, All, ap, subst, sym}
use Rattle.jc_methods.specs.Widened.{listed}
use Rattle.jc_layout.specs.Layout.{starts_of}
use Rattle.jc_layout.specs.Shift.{ends_in}
use Rattle.jc_layout.specs.declared.jumps.Jump.{Jump}
use Rattle.jc_layout.proofs.ChoiceLaws.{starts_count}
use Rattle.jc_layout.proofs.KeptLaws.{kept_first, kept_jumps, places_in, same_size}
use Rattle.jc_layout.proofs.widening.Widening.widen_all.Goals as goal

pub ends_of-requires : goal.ends_of-requires
ends_of-requires c =
    let self = c.widening.self in
    let so = c.widening.invariant in
    let jumps = kept_jumps c.args.self.now self so.code_is so.jumps_are c.requires.kept in
    let starts = c.in_ok-self.field-0.items in
    let are = c.in_ok-self.ensures ∙ ap (λ (l : List Bool). starts_of (listed l) self.code.now) c.deref.ensures.value in
    let size = ap length are ∙ starts_count (listed self.wide.items) self.code.now in
    subst (λ (l : List ℕ). All (λ (j : Jump). (j.number < length l) × (j.to < length l)) c.deref-2.result.now) (sym c.deref-3.ensures.value)
    (subst (λ (l : List Jump). All (λ (j : Jump). (j.number < length c.in_ok-self.field-0.items) × (j.to < length c.in_ok-self.field-0.items)) l)
    (sym c.deref-2.ensures.value) (places_in self.code.now self.jumps.items starts jumps size))

pub returns-clause-kept : goal.returns-clause-kept
returns-clause-kept c =
    let self = c.widening.self in
    let so = c.widening.invariant in
    let jumps = kept_jumps c.args.self.now self so.code_is so.jumps_are c.requires.kept in
    let starts = c.in_ok-self.field-0.items in
    let are = c.in_ok-self.ensures ∙ ap (λ (l : List Bool). starts_of (listed l) self.code.now) c.deref.ensures.value in
    let same = ap (λ (l : List ℕ). map (ends_in l) c.deref-2.result.now) c.deref-3.ensures.value
    ∙ ap (λ (l : List Jump). map (ends_in starts) l) c.deref-2.ensures.value in
    kept_first self.code.now self.jumps.items self.wide.items starts c.in_ok-self-2.field-0.items jumps
    (so.size ∙ same_size c.args.self.now self so.code_is c.requires.kept) are (c.in_ok-self-2.ensures ∙ same)
