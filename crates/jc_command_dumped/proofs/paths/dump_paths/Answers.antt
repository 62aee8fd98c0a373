use Rattle.std.proofs.Common.{◌≡◌, ℕ, map, ◌∙◌, ap, arith}
use Rattle.std.specs.List.{range_with_len}
use Rattle.jc_command_dumped.specs.DumpedAnswers.{dump_path}
use Rattle.jc_command_dumped.proofs.PathLaws.{path_put}
use Rattle.jc_command_dumped.proofs.paths.dump_paths.Goals as goal

pub naming-preserved : goal.naming-preserved
naming-preserved c =
    path_put c.args.dir.now c.naming.paths.items c.push.new.self.items c.in_ok-dump_path.field-0 c.naming.before c.naming.invariant c.in_ok-dump_path.ensures
    c.in_ok-push.ensures.items

pub returns : goal.returns
returns c =
    let all : c.naming.before ≡ 256 = omega (arith, c.naming-test.false, c.naming.auto.before-end) in
    c.naming.invariant ∙ ap (λ (n : ℕ). map (dump_path c.args.dir.now) (range_with_len 0 n)) all
