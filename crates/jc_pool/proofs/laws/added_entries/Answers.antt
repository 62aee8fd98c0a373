use Rattle.jc_pool.specs.declared.entry.Entry.TheVariants as entry
use Rattle.jc_pool.specs.declared.index.Naming.TheVariants as naming
use Rattle.jc_pool.specs.Lookup.{integer_of, long_of}
use Rattle.jc_pool.proofs.AddedLaws.{utf8_there, naming_there, integer_there, long_there, utf8_kept, naming_kept, integer_kept, long_kept, class_keeps_first}
use Rattle.jc_pool.proofs.AddedLaws.{one_utf8, one_naming, one_alone, some_utf8, some_naming, some_integer, some_long}
use Rattle.jc_pool.proofs.AddedMemberLaws.{member_there, member_kept, one_member, some_member}
use Rattle.jc_pool.proofs.laws.added_entries.Goals as goal

pub returns-clause-utf8 : goal.returns-clause-utf8
returns-clause-utf8 c = utf8_there

pub returns-clause-class : goal.returns-clause-class
returns-clause-class c = naming_there naming.Class

pub returns-clause-string : goal.returns-clause-string
returns-clause-string c = naming_there naming.String

pub returns-clause-integer : goal.returns-clause-integer
returns-clause-integer c = integer_there

pub returns-clause-long : goal.returns-clause-long
returns-clause-long c = long_there

pub returns-clause-utf8_kept : goal.returns-clause-utf8_kept
returns-clause-utf8_kept c = λ old new more text place at. utf8_kept old new text place more at

pub returns-clause-class_kept : goal.returns-clause-class_kept
returns-clause-class_kept c = λ old new more name place at. naming_kept naming.Class old new name place more at

pub returns-clause-string_kept : goal.returns-clause-string_kept
returns-clause-string_kept c = λ old new more text place at. naming_kept naming.String old new text place more at

pub returns-clause-integer_kept : goal.returns-clause-integer_kept
returns-clause-integer_kept c = λ old new more value place at. integer_kept old new value place more at

pub returns-clause-long_kept : goal.returns-clause-long_kept
returns-clause-long_kept c = λ old new more value place at. long_kept old new value place more at

pub returns-clause-first_kept : goal.returns-clause-first_kept
returns-clause-first_kept c = λ old new other at has name place first. class_keeps_first old new other name at place has first

pub returns-clause-one_utf8 : goal.returns-clause-one_utf8
returns-clause-one_utf8 c = λ old text new other place at p q. let one = one_utf8 old new other text place at p q in (one.pool, one.place_is)

pub returns-clause-one_class : goal.returns-clause-one_class
returns-clause-one_class c = λ old name new other place at p q. let one = one_naming naming.Class old new other name place at p q in (one.pool, one.place_is)

pub returns-clause-one_string : goal.returns-clause-one_string
returns-clause-one_string c = λ old text new other place at p q. let one = one_naming naming.String old new other text place at p q in (one.pool, one.place_is)

pub returns-clause-one_integer : goal.returns-clause-one_integer
returns-clause-one_integer c = λ old value new other place at p q. let one = one_alone integer_of value old (entry.Integer value) new other place at p q in (one.pool, one.place_is)

pub returns-clause-one_long : goal.returns-clause-one_long
returns-clause-one_long c = λ old value new other place at p q. let one = one_alone long_of value old (entry.Long value) new other place at p q in (one.pool, one.place_is)

pub returns-clause-some_utf8 : goal.returns-clause-some_utf8
returns-clause-some_utf8 c = some_utf8

pub returns-clause-some_class : goal.returns-clause-some_class
returns-clause-some_class c = some_naming naming.Class

pub returns-clause-some_string : goal.returns-clause-some_string
returns-clause-some_string c = some_naming naming.String

pub returns-clause-some_integer : goal.returns-clause-some_integer
returns-clause-some_integer c = some_integer

pub returns-clause-some_long : goal.returns-clause-some_long
returns-clause-some_long c = some_long

pub returns-clause-member : goal.returns-clause-member
returns-clause-member c = λ old new m place is has. member_there old new m place is has

pub returns-clause-member_kept : goal.returns-clause-member_kept
returns-clause-member_kept c = λ old new more m place at. member_kept old new m place more at

pub returns-clause-one_member : goal.returns-clause-one_member
returns-clause-one_member c = λ old m new other place at p q. let one = one_member old new other m place at p q in (one.pool, one.place_is)

pub returns-clause-some_member : goal.returns-clause-some_member
returns-clause-some_member c = some_member
