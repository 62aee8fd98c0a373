use Rattle.std.proofs.Common.{rules, ◌<◌, List, length, slice_set, ◌∙◌, ap}
use Rattle.std.specs.Vec.{with_items}
use Rattle.jc_region.specs.Memory.{Allocation}
use Rattle.jc_machine_model.specs.Statics.{with_static}
use Rattle.jc_machine_memory.specs.Values.{value_of}
use Rattle.jc_machine_turn.specs.Contents.{SharedSeen, memories_of, content_of, memory_of, shared_of}
use Rattle.jc_machine_turn.proofs.SharedLaws.{static_set, memory_set}
use Rattle.jc_machine_turn.proofs.shared.Shared.set_static.Goals as goal

pub returns-then-class-len : goal.returns-then-class-len
returns-then-class-len c =
    let inside = c.self.inside in
    let less : c.args.class < length inside.statics.items = search rules in
    let put = static_set inside.statics.items c.args.class c.args.field c.args.value c.index_mut.result.now c.set_value.new.values less
    (c.set_value.auto.values ∙ c.as_mut_slice.ensures.len) c.index_mut.ensures.value (c.set_value.ensures
    ∙ ap (λ vs. slice_set vs c.args.field c.args.value) c.as_mut_slice.ensures.value) in
    let memory = memory_set inside.statics.items c.args.class c.index_mut.result.now c.set_value.new.values less c.index_mut.ensures.value in
    ap (λ ss. record (shared_of inside) {
      content =
          record (content_of inside) { statics = ss };
      memory =
          record (memory_of inside) { statics = memories_of (slice_set inside.statics.items c.args.class (with_items c.index_mut.result.now c.set_value.new.values)) };
    }) put
    ∙ (ap (λ (ms : List Allocation). record (shared_of inside) {
      content =
          record (content_of inside) { statics = with_static (content_of inside).statics (record { class = c.args.class; field = c.args.field }) (value_of c.args.value) };
      memory = record (memory_of inside) { statics = ms };
    }) memory
    ∙ ap (λ (s : SharedSeen). record s {
      content =
          record s.content { statics = with_static s.content.statics (record { class = c.args.class; field = c.args.field }) (value_of c.args.value) };
    }) c.self.view_is)
