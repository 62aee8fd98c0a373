use Rattle.std.proofs.Common.{◌≡◌, drop, length}
use Rattle.jc_layout.specs.Widening.{widened_each}
use Rattle.jc_layout.proofs.widening.Widening.widen_all.Given as goal

-- those that are left complete the wide jumps
abbrev pub invariant-widening : goal.invariant-widening
invariant-widening l = record {
  code_is : l.self.code ≡ l.fn.self.code;
  jumps_are : l.self.jumps ≡ l.fn.self.jumps;
  wide_left : widened_each (drop l.jump-index l.far) l.self.wide.items ≡ widened_each l.far l.fn.self.wide.items;
  size : length l.self.wide.items ≡ length l.fn.self.wide.items;
}
