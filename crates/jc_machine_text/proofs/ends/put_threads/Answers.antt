use Rattle.std.proofs.Common.{◌++◌, List, ℕ, get_or, ap, ◌∙◌}
use Rattle.std.proofs.lemmas.List.{get_or_default}
use Rattle.jc_programs.specs.declared.run_end.End.TheVariants as ends
use Rattle.jc_machine_text.proofs.LineLaws.{thread_put}
use Rattle.jc_machine_text.proofs.ends.put_threads.Goals as goal

pub putting-preserved : goal.putting-preserved
putting-preserved c =
    let end = get_or c.args.ends.now c.putting.number ends.Running in
    thread_put c.args.ends.now c.args.text.now.items c.putting.text.items c.extend_from_slice.new.self.items c.in_ok-line.line.items c.putting.number
    end c.putting-test.true (get_or_default c.args.ends.now c.putting.number ends.Running end c.putting-test.true) c.putting.invariant c.in_ok-line.ensures
    (c.in_ok-extend_from_slice.ensures.items ∙ ap (λ (l : List ℕ). c.putting.text.items ++ l) c.deref.ensures.value)
