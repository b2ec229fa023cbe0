use Rattle.segment_bytes.proofs.Skips.{text_found, text_broken}
use Rattle.segment_bytes.proofs.heads.read_text.Goals as goal

pub returns-in-Ok : goal.returns-in-Ok
returns-in-Ok c = text_found _ _ _ _ _ c.in_ok-front.ensures c.in-Ok.ensures.cases.1 c.in-Ok.ensures.cases.0

pub returns-in-Err : goal.returns-in-Err
returns-in-Err c = text_broken _ _ _ _ c.in_ok-front.ensures c.in-Err.ensures.cases.0
