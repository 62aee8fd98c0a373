use Rattle.std.proofs.Common.{codes, rules, All}
use Rattle.jc_bytes.specs.Reader.{most_read}
use Rattle.jc_pool.specs.Pool.{PoolValue}
use Rattle.jc_class.specs.declared.class_file.Member.{Member}
use Rattle.jc_body.specs.declared.coded.Coded.{Coded}
use Rattle.jc_body.specs.Coded.{IsCoded}
use Rattle.jc_body.proofs.ReadingLaws.{front_refusal}
use Rattle.jc_body.proofs.SizeLaws.{AreShort, items_short, starts_of, insns_short, starts_within}
use Rattle.jc_body.proofs.TablesLaws.{IsBounded, each_text}
use Rattle.jc_body.proofs.reading.body_of.Goals as goal

-- what the Code attribute holds is as short as the attribute
short : (pool : PoolValue) (method : Member) (coded : Coded) → All (λ a. IsBounded a.body) method.attributes → IsCoded pool method coded
    → AreShort pool most_read coded.items
short pool method coded sizes is =
    let bytes = each_text IsBounded pool (codes "Code") method.attributes sizes is.items.bytes is.items.code.single in
    items_short pool most_read is.items.bytes coded.items bytes is.items.text.text

pub numbers_of-requires-clause-starts : goal.numbers_of-requires-clause-starts
numbers_of-requires-clause-starts c = starts_of _ _ _ c.requires.coded

pub numbers_of-requires-clause-within : goal.numbers_of-requires-clause-within
numbers_of-requires-clause-within c = starts_within _ _ _ c.requires.coded

pub numbers_of-requires-clause-few : goal.numbers_of-requires-clause-few
numbers_of-requires-clause-few c = insns_short _ _ _ c.requires.coded

pub offsets_of-offsets-requires-clause-few : goal.offsets_of-offsets-requires-clause-few
offsets_of-offsets-requires-clause-few c = insns_short _ _ _ c.requires.coded

pub first_fault-requires-clause-starts : goal.first_fault-requires-clause-starts
first_fault-requires-clause-starts c = starts_of _ _ _ c.requires.coded

pub first_fault-requires-clause-few : goal.first_fault-requires-clause-few
first_fault-requires-clause-few c = insns_short _ _ _ c.requires.coded

pub first_fault-requires-clause-rows : goal.first_fault-requires-clause-rows
first_fault-requires-clause-rows c = (short _ _ _ c.requires.sizes c.requires.coded).rows

pub with_tables-requires-clause-sizes : goal.with_tables-requires-clause-sizes
with_tables-requires-clause-sizes c = (short _ _ _ c.requires.sizes c.requires.coded).attributes

pub with_tables-requires-clause-few : goal.with_tables-requires-clause-few
with_tables-requires-clause-few c = insns_short _ _ _ c.requires.coded

pub returns-in-Some-clause-refused : goal.returns-in-Some-clause-refused
returns-in-Some-clause-refused c = λ owner owner_is.
    let method = c.args.method.now in
    front_refusal method.class.now.major method.class.now.pool owner method.member.now method.number c.args.coded c.requires.coded
    c.bad_code.result c.first_fault.result c.in-Some.place (search rules) c.bad_code.ensures c.first_fault.ensures
