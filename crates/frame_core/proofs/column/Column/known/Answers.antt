use Rattle.frame_core.proofs.WholeFrames.{known_ints, known_flags, known_texts, known_stamps}
use Rattle.frame_core.proofs.column.Column.known.Goals as goal

pub returns-in-Ints : goal.returns-in-Ints
returns-in-Ints c = known_ints _ _ _ c.in-Ints.is c.items.ensures c.read_all.ensures

pub returns-in-Flags : goal.returns-in-Flags
returns-in-Flags c = known_flags _ _ c.in-Flags.is

pub returns-in-Texts : goal.returns-in-Texts
returns-in-Texts c = known_texts _ _ c.in-Texts.is c.len-count.ensures.texts

pub returns-in-Stamps : goal.returns-in-Stamps
returns-in-Stamps c = known_stamps _ _ _ c.in-Stamps.is c.items-in-Stamps.ensures c.read_all-in-Stamps.ensures
