use Rattle.std.proofs.Common.{◌+◌, ◌++◌, map, drop, get_or, subst}
use Rattle.std.specs.List.{AllByRecursion, flat_map}
use Rattle.jc_methods.specs.VerificationTypes.{Names, class_name, class_names, verification_type}
use Rattle.jc_methods.specs.declared.kind.Kind.TheVariants as kinds
use Rattle.jc_frames.specs.FullFrames.{type_text}
use Rattle.jc_frames.specs.FullTable.{HasPlace}
use Rattle.jc_frames.proofs.FullTextLaws.{both_parts, kinds_more, kinds_written}
use Rattle.jc_frames.proofs.TakenLaws.{kinds_split}
use Rattle.jc_frames.proofs.full_frames.put_listed_kinds.Goals as goal

pub put_kind-requires-clause-stands : goal.put_kind-requires-clause-stands
put_kind-requires-clause-stands c =
    let names = c.args.refers.now.names.now in
    let ks = c.args.kinds.now in
    let i = c.writing.kind-index in
    let Stand : Names → Type 0 = λ l. AllByRecursion (HasPlace c.args.refers.now.pool.now) l in
    (both_parts (HasPlace c.args.refers.now.pool.now) (class_name (verification_type names (get_or ks i _))) (class_names (map (verification_type names) (drop (i + 1) ks)))
    (subst Stand (kinds_split names ks i _ c.writing-test.true) c.writing.invariant.stand)).0

pub writing-preserved : goal.writing-preserved
writing-preserved c =
    let names = c.args.refers.now.names.now in
    let ks = c.args.kinds.now in
    let i = c.writing.kind-index in
    let Stand : Names → Type 0 = λ l. AllByRecursion (HasPlace c.args.refers.now.pool.now) l in
    let rest = class_names (map (verification_type names) (drop (i + 1) ks)) in
    record {
      text = λ p are. kinds_more (type_text p) names ks i _ (c.args.into.now.items ++ flat_map (type_text p) (map (verification_type names) ks))
          c.writing.into.items c.put_kind.new.into.items c.writing-test.true
          (c.in_ok-put_kind.ensures.text p are) (c.writing.invariant.text p are);
      stand = (both_parts (HasPlace c.args.refers.now.pool.now) (class_name (verification_type names (get_or ks i kinds.Top))) rest
          (subst Stand (kinds_split names ks i kinds.Top c.writing-test.true) c.writing.invariant.stand)).1;
      known = c.in_ok-put_kind.ensures.known;
    }

pub returns-clause-text : goal.returns-clause-text
returns-clause-text c p are =
    kinds_written (type_text p) c.args.refers.now.names.now c.args.kinds.now c.writing.kind-index
    (c.args.into.now.items ++ flat_map (type_text p) (map (verification_type c.args.refers.now.names.now) c.args.kinds.now)) c.writing.into.items c.writing-test.false (c.writing.invariant.text p are)
