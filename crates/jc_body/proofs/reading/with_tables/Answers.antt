use Rattle.std.proofs.Common.{◌∙◌, List, ℕ, rules, subst, sym}
use Rattle.std.proofs.lemmas.Result.{err_from_is_err_and}
use Rattle.std.proofs.lemmas.Option.{same_Some}
use Rattle.jc_body.specs.Answers.{IsFrameRefusal}
use Rattle.jc_bytes.specs.Failing.{Said}
use Rattle.jc_body.specs.BodyOf.{HasParts}
use Rattle.jc_body.specs.First.{AreNowhere}
use Rattle.jc_body.specs.Faults.{faults}
use Rattle.jc_body.proofs.ReadingLaws.{table_refusal, frame_refusals, nothing_wrong, tables_are}
use Rattle.jc_body.proofs.reading.with_tables.Goals as goal

pub returns-in_default-clause-refused : goal.returns-in_default-clause-refused
returns-in_default-clause-refused c = λ owner owner_is.
    let method = c.args.method.now in
    table_refusal method.class.now.major method.class.now.pool owner method.member.now method.number c.args.coded c.requires.coded
    c.bad_code.result c.in_ok-tables.field-0 c.requires.before (search rules) c.bad_code.ensures (search rules)

pub returns-in_err-frames-clause-refused : goal.returns-in_err-frames-clause-refused
returns-in_err-frames-clause-refused c = λ owner owner_is.
    let method = c.args.method.now in
    let p = err_from_is_err_and c.from_residual-in_err-frames.result c.from_residual-in_err-frames.ensures.1 in
    let same = same_Some _ _ (sym method.named ∙ owner_is) in
    let said = subst (λ (o : List ℕ). Said c.in_err-frames.field-0.0 (IsFrameRefusal method.class.now.pool o method.member.now c.args.coded method.number))
    same c.in_err-frames.ensures.refused in
    rw (p.1, p.2) (frame_refusals method.class.now.major method.class.now.pool owner method.member.now method.number c.args.coded
    c.requires.coded c.in_err-frames.field-0.0 c.in_ok-tables.field-0 c.in-Some.tables c.requires.before (search rules) (search rules) said)

pub returns-clause-body : goal.returns-clause-body
returns-clause-body c =
    let method = c.args.method.now in
    let class = method.class.now in
    let found = c.in_ok-frames.ensures.frames in
    let none = nothing_wrong class.major class.pool method.owner.now method.member.now method.number c.args.coded c.requires.coded
    c.in_ok-tables.field-0 c.in-Some.tables c.requires.before (search rules) (search rules) found.no_fault found.narrow in
    let made = c.in_ok-body.ensures.parts c.frames_of.new.names c.in_ok-frames.frames (found.frames_are, found.numbers) in
    let same = sym c.in_ok-with_counted_lists.ensures.same in
    let parts = subst (HasParts c.frames_of.new.names class method.number method.member.now c.args.coded c.in-Some.tables) same made in
    record {
      coded = c.args.coded;
      is = c.requires.coded;
      no_subroutine = none.0;
      no_fault = subst (λ (o : List ℕ). AreNowhere (faults class.major class.pool o method.member.now)) (same_Some _ _ (sym method.named ∙ parts.owner)) none.1;
      tables = c.in-Some.tables;
      are_tables = tables_are class.major class.pool method.owner.now method.member.now method.number c.args.coded c.requires.coded
          c.in_ok-tables.field-0 c.in-Some.tables (search rules) (search rules);
      parts = parts;
    }
