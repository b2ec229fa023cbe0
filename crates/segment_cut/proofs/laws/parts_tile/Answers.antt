use Rattle.std.proofs.Common.{refl}
use Rattle.segment_cut.proofs.GridLemmas.{tiled-grid}
use Rattle.segment_cut.proofs.laws.parts_tile.Goals as goal

pub returns-clause-tiled : goal.returns-clause-tiled
returns-clause-tiled c = λ f. tiled-grid f _ c.rows-rows.ensures.limits

pub returns-clause-joined : goal.returns-clause-joined
returns-clause-joined c = λ f is. record { schema_is = refl; is_frame = is; tiled = tiled-grid f _ c.rows-rows.ensures.limits }
