use Rattle.std.proofs.Common.{◌≡◌, take, option_copied}
use Rattle.frame_core.specs.Schemas.{Head}
use Rattle.index_tree.specs.Covering.{places_where}
use Rattle.reply_model.specs.ReadAnswers.{is_asked}
use Rattle.frame_read.proofs.fetching.asked_places.Given as goal

-- the columns so far were tested
abbrev pub invariant-loop-place : goal.invariant-loop-place
invariant-loop-place l = l.places ≡ places_where (λ (head : Head). is_asked (option_copied l.columns) head.0) (take l.place l.schema)
