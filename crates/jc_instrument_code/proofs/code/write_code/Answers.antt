use Rattle.std.proofs.Common.{◌≡◌, List, ℕ, length, map, sym, subst}
use Rattle.std.specs.Prelude.{IfOk}
use Rattle.std.specs.List.{AllByRecursion}
use Rattle.jc_methods.specs.VerificationTypes.{type_state_at}
use Rattle.jc_methods.specs.declared.body.FrameAt.{FrameAt}
use Rattle.jc_emit.specs.declared.tables.MovedTables.{MovedTables}
use Rattle.jc_frames.specs.FullTable.{HasPlace, named_by_all}
use Rattle.jc_instrument_code.specs.TwinCode.{tables_in}
use Rattle.jc_instrument_code.proofs.LaidLaws.{can_be_written}
use Rattle.jc_instrument_code.proofs.TwinCodeLaws.{laid_text_is}
use Rattle.jc_instrument_code.proofs.code.write_code.Goals as goal

pub write_laid-requires-clause-frames : goal.write_laid-requires-clause-frames
write_laid-requires-clause-frames c =
    can_be_written c.args.emitted.now c.args.laid.now c.requires.laid (length c.args.frames.names.now) c.args.frames.frames.now c.requires.frames

pub write_laid-requires-clause-classes : goal.write_laid-requires-clause-classes
write_laid-requires-clause-classes c =
    subst (λ (fs : List FrameAt). AllByRecursion (HasPlace c.args.pool.now) (named_by_all (map (type_state_at c.args.frames.names.now) fs)))
    (sym c.requires.frames.are) c.requires.classes

pub returns-clause-text : goal.returns-clause-text
returns-clause-text c =
    let e = c.args.emitted.now in
    let seen : MovedTables = record {
      handlers = c.deref.result.now;
      lines = c.deref-2.result.now;
      vars = c.deref-3.result.now;
      kind_vars = c.deref-4.result.now;
      max_stack = e.max_stack;
      max_locals = e.max_locals;
    } in
    let same : seen ≡ tables_in e = λ k. record {
      handlers = c.deref.ensures k;
      lines = c.deref-2.ensures k;
      vars = c.deref-3.ensures k;
      kind_vars = c.deref-4.ensures k;
      max_stack = e.max_stack;
      max_locals = e.max_locals;
    } in
    subst (λ (all : List ℕ). IfOk c.write_laid.result (λ text. text ≡ all))
    (laid_text_is c.args.pool.now c.args.fetch c.args.frames.names.now c.args.places.now e seen c.args.laid.now c.args.frames.frames.now same c.requires.laid
    c.requires.frames.are c.requires.names) c.write_laid.ensures.text
