use Rattle.std.proofs.Common.{◌≡◌, [], ◌∷◌, codes, rules, sym, subst, arith}
use Rattle.jc_body.specs.declared.code.Presence.TheVariants as presences
use Rattle.jc_body.specs.Answers.{IsPresence}
use Rattle.jc_body.proofs.TablesLaws.{IsBounded, each_body}
use Rattle.jc_body.proofs.code.read_items.Goals as goal

pub read_code-requires : goal.read_code-requires
read_code-requires c =
    let there : c.in_ok-code_presence.field-0 ≡ presences.Single c.in-Single.bytes = search rules in
    let has = subst (IsPresence c.args.pool.now c.args.method.now) there c.in_ok-code_presence.ensures in
    each_body IsBounded c.args.pool.now (codes "Code") c.args.method.now.attributes c.requires.sizes (c.in-Single.bytes ∷ []) (sym has.single) 0 c.in-Single.bytes (omega arith)
