use Rattle.std.proofs.Common.{Some, length, refl, sym, ◌∙◌, ap, arith}
use Rattle.std.proofs.lemmas.Option.{slice_get_read, slice_get_within}
use Rattle.jc_programs.specs.declared.program.Linked.{Linked}
use Rattle.jc_link_programs.proofs.linking.name_clash.Goals as goal

pub bounds-classes-first : goal.bounds-classes-first
bounds-classes-first c =
    let pair = c.requires in
    let within = slice_get_within c.args.classes.now c.args.pair.first pair.there.a pair.there.first_is in
    omega (arith, within)

pub returns : goal.returns
returns c =
    let classes = c.args.classes.now in
    let pair = c.requires in
    let within = slice_get_within classes c.args.pair.first pair.there.a pair.there.first_is in (
      pair,
      record {
        linked = c.index-classes-first.result;
        stands = slice_get_read classes (length classes) c.args.pair.first c.index-classes-first.result refl within c.index-classes-first.is;
        is = ap (λ (l : Linked). Some l.name) c.index-classes-first.is ∙ ap Some (sym (c.in_ok-name.ensures ∙ c.deref.ensures));
      },
    )
