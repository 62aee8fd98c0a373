use Rattle.std.proofs.Common.{ℕ, Vec, ◌∙◌, ap}
use Rattle.std.specs.declared.alloc.Global.{Global}
use Rattle.jc_command_sample.proofs.LineTextLaws.{text_is}
use Rattle.jc_command_sample.proofs.line.sample_text.Goals as goal

pub returns : goal.returns
returns c =
    text_is c.args.methods c.args.probes c.args.cases c.args.counters c.into_bytes-text.result.items c.extend_from_slice.new.self.items
    c.extend_from_slice-2.new.self.items c.as_bytes.result.now c.as_bytes-2.result.now (ap (λ (v : Vec ℕ Global). v.items) c.into_bytes-text.ensures.value ∙ c.in_ok-sizes_text.ensures)
    (c.as_bytes.ensures.value ∙ c.in_ok-instructions.ensures) (c.as_bytes-2.ensures.value ∙ c.in_ok-branches.ensures)
    c.in_ok-extend_from_slice.ensures.items c.in_ok-extend_from_slice-2.ensures.items
