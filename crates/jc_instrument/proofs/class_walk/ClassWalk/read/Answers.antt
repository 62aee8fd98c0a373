use Rattle.std.proofs.Common.{refl, arith}
use Rattle.std.proofs.lemmas.Result.{IfOk-weaker}
use Rattle.jc_instrument.proofs.ClassWalkLaws.{changes_of, read_refused, readable, walks_on}
use Rattle.jc_instrument.proofs.class_walk.ClassWalk.read.Goals as goal

pub know_one_more-requires-clause-exists : goal.know_one_more-requires-clause-exists
know_one_more-requires-clause-exists c = (changes_of c.args.self.now c.args.number c.requires.exists).1

pub know_one_more-requires-clause-class : goal.know_one_more-requires-clause-class
know_one_more-requires-clause-class c = c.requires.before.2.whole

pub know_one_more-requires-clause-sizes : goal.know_one_more-requires-clause-sizes
know_one_more-requires-clause-sizes c = c.requires.before.2.sizes

pub know_one_more-requires-clause-text : goal.know_one_more-requires-clause-text
know_one_more-requires-clause-text c = readable c.requires.before.0 c.args.number c.requires.before.1 c.args.self.now c.requires.before.2

pub know_one_more-requires-clause-before : goal.know_one_more-requires-clause-before
know_one_more-requires-clause-before c = (c.requires.before.1, c.requires.before.2.known)

pub overflow_cast-number : goal.overflow_cast-number
overflow_cast-number c =
    let less = (changes_of c.args.self.now c.args.number c.requires.exists).1 in
    let most = c.requires.before.2.whole.methods.few in
    omega (arith, less, most)

pub returns-clause-walks : goal.returns-clause-walks
returns-clause-walks c = λ bytes handed before.
    let old = c.args.self.now in
    let changes = (changes_of old c.args.number c.requires.exists).0 in
    IfOk-weaker c.know_one_more.result _ _ (λ more known. walks_on bytes c.args.number handed old _ before refl changes more known)
    (c.know_one_more.ensures.knows handed before.known)

pub returns-clause-refused : goal.returns-clause-refused
returns-clause-refused c = λ bytes handed before.
    let old = c.args.self.now in
    let changes = (changes_of old c.args.number c.requires.exists).0 in
    read_refused bytes c.args.number handed old before changes c.know_one_more.result c.know_one_more.ensures.refused
