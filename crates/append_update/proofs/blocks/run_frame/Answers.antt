use Rattle.append_update.proofs.BlockFrames.{read_as, tiles_are_from}
use Rattle.append_update.proofs.blocks.run_frame.Goals as goal

pub returns : goal.returns
returns c = read_as c.to_frame.result _ _ _ _ (tiles_are_from _ _ _ _ _ _ _ c.in_ok-copy.ensures.copy c.in-Some.ensures.range c.in_ok-moved.ensures c.first_row.ensures) c.to_frame.ensures
