use Rattle.segment_bytes.proofs.Getters.{end_at_place}
use Rattle.segment_bytes.proofs.column_view.end_in.Goals as goal

pub returns : goal.returns
returns c = λ all rest text lt small. end_at_place c.args.ends.now _ all rest _ c.args.place c.in-Ok.end text lt small c.split_at.ensures.back c.in-Ok.ensures
