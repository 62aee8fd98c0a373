use Rattle.std.proofs.Common.{◌≡◌, ◌<◌, ◌≤◌, ◌∷◌, [], length, Some, length-append, refl, sym, ap, subst, arith}
use Rattle.std.proofs.lemmas.Option.{slice_get_read}
use Rattle.jc_link_programs.specs.Pairs.{name_of}
use Rattle.jc_link_programs.proofs.PairsLaws.{Knows, StandsAt, pair_found, none_shares, numbered_before, numbered_last, named_more}
use Rattle.jc_link_programs.proofs.pairs.first_of_one_name.Goals as goal

pub returns-then-first-second : goal.returns-then-first-second
returns-then-first-second c =
    let inside : c.naming.second < length c.args.classes.now = omega arith in
    let here = slice_get_read c.args.classes.now (length c.args.classes.now) c.naming.second c.index-classes-second.result refl inside c.index-classes-second.is in
    let n = c.naming.invariant.1 in
    let less : c.in_ok-first.first < length c.naming.names = omega (arith, n, c.if-first-second.true) in
    let name = c.deref.result.now in
    pair_found name_of c.args.classes.now (StandsAt c.naming.names) c.naming.second c.in_ok-first.first c.index-classes-second.result name c.naming.invariant.0 here (ap Some (sym c.deref.ensures))
    (numbered_before c.naming.names c.number.new.self name c.in_ok-first.first c.in_ok-first.ensures.names c.in_ok-first.ensures.place less)

pub naming-preserved : goal.naming-preserved
naming-preserved c =
    let inside : c.naming.second < length c.args.classes.now = omega arith in
    let here = slice_get_read c.args.classes.now (length c.args.classes.now) c.naming.second c.index-classes-second.result refl inside c.index-classes-second.is in
    let n = c.naming.invariant.1 in
    let name = c.deref.result.now in
    let le : length c.naming.names ≤ c.in_ok-first.first = omega (arith, n, c.if-first-second.false) in
    let last = numbered_last c.naming.names c.number.new.self name c.in_ok-first.first c.in_ok-first.ensures.names c.in_ok-first.ensures.place le in
    let size = ap length last in
    let one = length-append c.naming.names (name ∷ []) in (
      named_more name_of c.args.classes.now c.naming.names c.number.new.self c.naming.second c.index-classes-second.result name c.naming.invariant.0
          n here (ap Some (sym c.deref.ensures)) (c.in_ok-first.ensures.names_after).distinct last,
      omega (arith, size, one, n),
    )

pub returns : goal.returns
returns c =
    let end : c.naming.second ≡ length c.args.classes.now = omega arith in
    none_shares name_of c.args.classes.now (StandsAt c.naming.names) (subst (Knows name_of c.args.classes.now (StandsAt c.naming.names)) end c.naming.invariant.0)
