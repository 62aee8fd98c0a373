use Rattle.jc_body.proofs.StackMapLaws.{each_map, apart, one_list, one_fault}
use Rattle.jc_body.proofs.laws.each_stack_map_has_frames_or_a_fault.Goals as goal

pub returns : goal.returns
returns c = record {
  each = each_map;
  apart = apart;
  one_list = one_list;
  one_fault = one_fault;
}
