use Rattle.std.proofs.Common.{◌<◌, length, sym, subst, arith}
use Rattle.std.proofs.lemmas.List.{get_or_read}
use Rattle.jc_refs_check.specs.Unguarded.{class_before, IsNext, IsUnsuited}
use Rattle.jc_refs_check.proofs.ColumnLaws.{suited_true, suited_on}
use Rattle.jc_refs_check.proofs.columns.Column.first_unsuited.Goals as goal

pub looking-preserved : goal.looking-preserved
looking-preserved c =
    let column = c.args.self.now.classes.items in let places = c.args.self.now.next.items in let at = c.looking.at in let object = c.index-object.result.now in
    let inside : at < length column = omega (arith, c.looking-test.true, c.requires.end) in
    let listed : at < length places = omega (arith, inside, c.requires.next.size) in
    let next : IsNext column at object =
    subst (IsNext column at) (sym (get_or_read places at object listed c.index-object.ensures 0)) (c.requires.next.each at (omega arith) inside) in
    record {
      from = omega (arith, c.looking.invariant.from, next.from);
      within = omega (arith, c.if-object-end.false);
      suited = suited_on c.args.known.now.names column c.args.want c.args.start c.args.end at object c.requires.end next c.looking.invariant.suited
          (suited_true (IsUnsuited c.args.known.now.names (class_before column object) c.args.want) c.suits_at.result c.if-not-suits_at.false c.suits_at.ensures);
    }
