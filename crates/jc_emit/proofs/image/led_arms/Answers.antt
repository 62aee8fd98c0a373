use Rattle.std.proofs.Common.{◌<◌, length, pos}
use Rattle.std.proofs.lemmas.List.Elements.{All-get_or}
use Rattle.jc_methods.specs.declared.insn.Arm.{Arm}
use Rattle.jc_bytes.proofs.EachLaws.{all_of_each}
use Rattle.jc_emit.proofs.image.led_arms.Goals as goal

pub bounds-table-arm : goal.bounds-table-arm
bounds-table-arm c =
    All-get_or (λ (arm : Arm). arm.to < length c.args.table.now) c.args.arms.now c.leading.arm-index (record { key = pos 0; to = 0 }) c.leading-test.true
    (all_of_each (λ to. to < length c.args.table.now) (λ (arm : Arm). arm.to) c.args.arms.now c.requires)
