use Rattle.std.proofs.Common.{◌-◌, ◌<◌, length, get_or, refl, arith}
use Rattle.std.proofs.lemmas.List.Elements.{Contains-get_or}
use Rattle.jc_rules.specs.declared.status.LineState.TheVariants.{Empty}
use Rattle.jc_rules.specs.declared.status.LineStatus.{LineStatus}
use Rattle.jc_rules.proofs.SaidLaws.{said_none, said_more, said_whole}
use Rattle.jc_rules.proofs.listing.put_lines.Goals as goal

abbrev none : LineStatus
none = record { line = 0; status = Empty }

pub putting-init : goal.putting-init
putting-init c = said_none c.args.least (length c.args.list.now) c.args.list.now c.requires.blank

pub put_line-requires : goal.put_line-requires
put_line-requires c =
    let placed = c.args.placed.now in
    let k = c.putting.placed-index in
    let p = get_or placed k none in
    let inside = c.requires.within p.line (p, Contains-get_or placed k none c.putting-test.true, refl) in
    let size = c.putting.auto.list in
    let lt = inside.1 in
    record { not_below = inside.0; within = omega (arith, lt, size) }

pub putting-preserved : goal.putting-preserved
putting-preserved c =
    let placed = c.args.placed.now in
    let k = c.putting.placed-index in
    let p = get_or placed k none in
    let inside = c.requires.within p.line (p, Contains-get_or placed k none c.putting-test.true, refl) in
    let size = c.putting.auto.list in
    let lt = inside.1 in
    let within : p.line - c.args.least < length c.putting.list = omega (arith, lt, size) in
    said_more c.args.least placed c.putting.list c.put_line.new.list k none c.putting-test.true inside.0 within c.put_line.ensures c.putting.invariant

pub returns : goal.returns
returns c = said_whole c.args.least c.args.placed.now c.putting.list c.putting.placed-index c.putting-test.false c.putting.invariant
