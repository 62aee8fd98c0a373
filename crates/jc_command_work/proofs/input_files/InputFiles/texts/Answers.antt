use Rattle.std.proofs.Common.{sym, subst}
use Rattle.jc_command_work.specs.Seen.{texts_of}
use Rattle.jc_command_work.specs.Step.{AreTexts, FilesRead}
use Rattle.jc_command_work.proofs.AnsweredLaws.{as_many_texts, are_short}
use Rattle.jc_command_work.proofs.input_files.InputFiles.texts.Goals as goal

pub returns-clause-read : goal.returns-clause-read
returns-clause-read c =
    subst (λ (f : FilesRead). AreTexts f.paths c.deref.result.now) c.self.view_is
    (subst (AreTexts (texts_of c.self.inside.paths.items)) (sym c.deref.ensures.value) c.self.invariant)

pub returns-clause-each : goal.returns-clause-each
returns-clause-each c =
    let read = subst (λ (f : FilesRead). AreTexts f.paths c.deref.result.now) c.self.view_is
    (subst (AreTexts (texts_of c.self.inside.paths.items)) (sym c.deref.ensures.value) c.self.invariant) in
    sym (as_many_texts c.args.self.now.paths c.deref.result.now read)

pub returns-clause-short : goal.returns-clause-short
returns-clause-short c =
    let read = subst (λ (f : FilesRead). AreTexts f.paths c.deref.result.now) c.self.view_is
    (subst (AreTexts (texts_of c.self.inside.paths.items)) (sym c.deref.ensures.value) c.self.invariant) in
    are_short c.args.self.now.paths c.deref.result.now read
