use Rattle.std.proofs.Common.{◌∙◌}
use Rattle.vx_page.proofs.Texts.{ok_where_text}
use Rattle.vx_page.proofs.reading.is_text.Goals as goal

pub returns : goal.returns
returns c = c.is_ok.ensures.value ∙ ok_where_text _ _ c.args.bytes.now c.from_utf8.result c.from_utf8.ensures.cases
