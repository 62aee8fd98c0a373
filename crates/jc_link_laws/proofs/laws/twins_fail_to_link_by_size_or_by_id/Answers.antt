use Rattle.jc_link_laws.proofs.SecondLinkingLaws.{second_refusal}
use Rattle.jc_link_laws.proofs.laws.twins_fail_to_link_by_size_or_by_id.Goals as goal

pub returns : goal.returns
returns c = λ originals written p r files is refusal. second_refusal originals written p files.short files.are_bytes files.each is r refusal
