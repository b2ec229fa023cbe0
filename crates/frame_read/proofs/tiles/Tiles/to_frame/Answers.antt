use Rattle.frame_read.proofs.FrameLemmas.{parts_spelled, types_are, made_whole, made_asked}
use Rattle.frame_read.proofs.tiles.Tiles.to_frame.Goals as goal

pub opened-requires : goal.opened-requires
opened-requires c = rw c.items.ensures (parts_spelled c.requires.frame c.args.self.now.tiles c.requires.tiles_of.parts)

pub gathered_columns-requires : goal.gathered_columns-requires
gathered_columns-requires c =
    rw (c.columns.ensures, c.deref-2.ensures.value) (types_are c.requires.frame c.requires.columns c.args.self.now c.sort.new.tiles.items c.requires.is_frame c.requires.tiles_of
    (record { made = c.in_ok-tiles.tiles.items; opened = rw (← c.items.ensures) c.in_ok-tiles.ensures; moved = c.sort.ensures.same; rising = c.sort.ensures.rising }))

pub from_columns-requires : goal.from_columns-requires
from_columns-requires c =
    made_whole c.requires.frame c.requires.columns c.args.self.now c.sort.new.tiles.items c.requires.is_frame c.requires.tiles_of
    (record { made = c.in_ok-tiles.tiles.items; opened = rw (← c.items.ensures) c.in_ok-tiles.ensures; moved = c.sort.ensures.same; rising = c.sort.ensures.rising })
    c.in_ok-schema.schema c.in_ok-stamps.stamps c.in_ok-columns.columns c.in_ok-schema.ensures.copy (rw (← c.deref.ensures.value) c.in_ok-stamps.ensures)
    (rw (← c.columns.ensures) c.in_ok-columns.ensures.kinds) (rw (← c.columns.ensures, ← c.deref-2.ensures.value) c.in_ok-columns.ensures.cells)

pub returns : goal.returns
returns c = λ f columns is of.
    made_asked f columns c.args.self.now c.sort.new.tiles.items is of
    (record { made = c.in_ok-tiles.tiles.items; opened = rw (← c.items.ensures) c.in_ok-tiles.ensures; moved = c.sort.ensures.same; rising = c.sort.ensures.rising })
    c.in_ok-schema.schema c.in_ok-stamps.stamps c.in_ok-columns.columns c.in_ok-schema.ensures.copy (rw (← c.deref.ensures.value) c.in_ok-stamps.ensures)
    (rw (← c.columns.ensures) c.in_ok-columns.ensures.kinds) (rw (← c.columns.ensures, ← c.deref-2.ensures.value) c.in_ok-columns.ensures.cells) c.from_columns.result c.from_columns.ensures
