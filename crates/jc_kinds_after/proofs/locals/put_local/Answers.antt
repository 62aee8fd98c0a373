use Rattle.std.proofs.Common.{List, length, map, ap, ◌∙◌, arith}
use Rattle.std.proofs.lemmas.List.{length-set}
use Rattle.jc_methods.specs.declared.kind.Kind.{Kind}
use Rattle.jc_methods.specs.VerificationTypes.{verification_type}
use Rattle.jc_kinds_after.specs.Step.{put_local}
use Rattle.jc_kinds_after.proofs.LocalsLaws.{put_there}
use Rattle.jc_kinds_after.proofs.locals.put_local.Goals as goal

pub index_mut-requires : goal.index_mut-requires
index_mut-requires c = let n = ap (λ (l : List Kind). length l) c.into_vec-after.ensures in let m = c.clear_before.ensures.count in
    omega (arith, n, m, c.requires, c.clear_before.new.locals.ok.0)

pub put_second-requires : goal.put_second-requires
put_second-requires c =
    let n = ap (λ (l : List Kind). length l) c.into_vec-after.ensures in let m = c.clear_before.ensures.count in
    let k = length-set c.clear_before.new.locals.items c.args.slot c.args.kind in omega (arith, n, m, k, c.requires)

pub returns : goal.returns
returns c = λ names.
    ap (map (verification_type names)) c.from_vec.ensures
    ∙ put_there names c.into_vec-after.result.items c.clear_before.new.locals.items c.put_second.new.locals.items c.args.slot c.args.kind
    (c.clear_before.ensures.locals names) (c.put_second.ensures names)
    ∙ ap (λ (l : List Kind). put_local c.args.slot (verification_type names c.args.kind) (map (verification_type names) l)) c.into_vec-after.ensures
