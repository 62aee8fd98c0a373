use Rattle.std.proofs.Common.{length, refl, sym, ◌∙◌, ap, arith}
use Rattle.std.specs.Option.{option_map}
use Rattle.std.proofs.lemmas.Option.{none-some, same_Some, slice_get_read, slice_get_within}
use Rattle.jc_programs.specs.declared.program.ProbeInit.{ProbeInit}
use Rattle.jc_link_programs.specs.Pairs.{id_of}
use Rattle.jc_link_programs.proofs.linking.id_clash.Goals as goal

pub bounds-classes-first : goal.bounds-classes-first
bounds-classes-first c =
    let pair = c.requires.pair in
    let within = slice_get_within c.args.classes.now c.args.pair.first pair.there.a pair.there.first_is in
    omega (arith, within)

pub unreachable-requires : goal.unreachable-requires
unreachable-requires c =
    let classes = c.args.classes.now in
    let pair = c.requires.pair in
    let class = c.index-classes-first.result in
    let within = slice_get_within classes c.args.pair.first pair.there.a pair.there.first_is in
    let at = slice_get_read classes (length classes) c.args.pair.first class refl within c.index-classes-first.is in
    let same = same_Some pair.there.a class (sym pair.there.first_is ∙ at) in
    none-some pair.there.shared (sym (ap (option_map (λ (p : ProbeInit). p.id)) c.in_default.is) ∙ ap id_of (sym same) ∙ pair.there.first_key)

pub returns : goal.returns
returns c =
    let classes = c.args.classes.now in
    let pair = c.requires.pair in
    let within = slice_get_within classes c.args.pair.first pair.there.a pair.there.first_is in (
      c.requires.names,
      pair,
      record {
        linked = c.index-classes-first.result;
        stands = slice_get_read classes (length classes) c.args.pair.first c.index-classes-first.result refl within c.index-classes-first.is;
        is = ap (option_map (λ (p : ProbeInit). p.id)) c.in-Some.is;
      },
    )
