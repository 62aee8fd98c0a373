use Rattle.std.proofs.Common.{ap, sym, ◌∙◌}
use Rattle.jc_programs.specs.declared.program.Program.{Program}
use Rattle.jc_programs.specs.Entries.{entry_of}
use Rattle.jc_machine_model.specs.CaseText.{case_texts}
use Rattle.jc_machine_model.specs.Run.{run, hits_of}
use Rattle.jc_machine_laws.proofs.FramelessLookupLaws.{same_entry}
use Rattle.jc_machine_laws.proofs.FramelessStepLaws.{same_run}
use Rattle.jc_machine_laws.proofs.FramelessTextLaws.{same_texts, same_hits}
use Rattle.jc_machine_laws.proofs.laws.equal_programs_run_alike.Goals as goal

pub returns-clause-entry : goal.returns-clause-entry
returns-clause-entry c p q thread same = sym (same_entry p thread) ∙ ap (λ (r : Program). entry_of r thread) same ∙ same_entry q thread

pub returns-clause-world : goal.returns-clause-world
returns-clause-world c p q case turns same = sym (same_run p case turns) ∙ ap (λ (r : Program). run r case turns) same ∙ same_run q case turns

pub returns-clause-text : goal.returns-clause-text
returns-clause-text c p q k cases same = sym (same_texts p k cases) ∙ ap (λ (r : Program). case_texts r k cases) same ∙ same_texts q k cases

pub returns-clause-hits : goal.returns-clause-hits
returns-clause-hits c p q plan same = sym (same_hits p plan) ∙ ap (λ (r : Program). hits_of r plan) same ∙ same_hits q plan
