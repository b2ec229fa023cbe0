use Rattle.frame_read.proofs.WholeLemmas.{fetched_is_frame}
use Rattle.frame_read.proofs.laws.fetched_tiles_have_what_is_asked.Goals as goal

pub returns : goal.returns
returns c = fetched_is_frame
