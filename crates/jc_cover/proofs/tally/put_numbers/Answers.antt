use Rattle.std.proofs.Common.{◌∙◌, ap}
use Rattle.std.proofs.lemmas.List.{take_all}
use Rattle.jc_bytes.specs.FirstSeen.{seen_behind}
use Rattle.jc_bytes.proofs.FirstSeenLaws.{puts_one}
use Rattle.jc_cover.proofs.tally.put_numbers.Goals as goal

pub putting-preserved : goal.putting-preserved
putting-preserved c =
    puts_one c.args.numbers.now c.putting.number-index c.args.set.now.keys c.putting.set.keys c.insert.new.self.keys c.putting-test.true c.putting.invariant
    c.in_ok-insert.ensures.keys

pub returns : goal.returns
returns c = c.putting.invariant ∙ ap (seen_behind c.args.set.now.keys) (take_all c.putting.number-index c.args.numbers.now c.putting-test.false)
