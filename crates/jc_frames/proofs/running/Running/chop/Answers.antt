use Rattle.std.proofs.Common.{◌-◌, length, sym, ◌∙◌, ap, arith, length-take}
use Rattle.std.specs.List.{sum_by}
use Rattle.jc_frames.specs.Running.{value_slots}
use Rattle.jc_frames.proofs.RunningLaws.{chopped, chopped_values}
use Rattle.jc_frames.proofs.running.Running.chop.Goals as goal

pub overflow_sub-self : goal.overflow_sub-self
overflow_sub-self c =
    (chopped c.args.self.now.values.items c.deref.result.now (c.len-2.result - c.args.count) c.args.self.now.slots c.slots_of.result c.deref.ensures.value
    (omega arith) c.slots_of.ensures.slots c.requires.slots).0

pub returns-clause-values : goal.returns-clause-values
returns-clause-values c pool names =
    chopped_values pool names c.args.self.now.values.items c.truncate.new.self.items c.args.count c.len-2.result (omega arith) (omega arith) c.truncate.ensures.items

pub returns-clause-running : goal.returns-clause-running
returns-clause-running c =
    let xs = c.args.self.now.values.items in
    let kept = c.len-2.result - c.args.count in
    let t = length-take kept xs in
    let e = ap length c.truncate.ensures.items in
    record {
      slots = (chopped xs c.deref.result.now kept c.args.self.now.slots c.slots_of.result c.deref.ensures.value (omega arith) c.slots_of.ensures.slots c.requires.slots).1
          ∙ sym (ap (sum_by value_slots) c.truncate.ensures.items);
      few = let many = c.requires.few in omega (arith, e, t, many);
      base = c.requires.base;
    }
