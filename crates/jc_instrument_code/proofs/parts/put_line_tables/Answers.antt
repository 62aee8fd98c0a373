use Rattle.std.specs.Prelude.{slice_index}
use Rattle.jc_instrument_code.specs.CodeText.{line_text}
use Rattle.jc_instrument_code.proofs.PartLaws.{parts_more}
use Rattle.jc_instrument_code.proofs.parts.put_line_tables.Goals as goal

pub parting-preserved : goal.parting-preserved
parting-preserved c =
    let end = c.part_end-end.ensures in
    record {
      within = end.within;
      text = parts_more c.args.name (line_text (slice_index c.args.starts.now)) c.args.lines.now c.parting.from c.part_end-end.result
          c.parting.into.items c.put_line_part.new.into.items _ end.some end.within end.few end.full c.parting.invariant.text
          c.in_ok-put_line_part.ensures;
    }
