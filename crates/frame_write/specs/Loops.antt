-- How far several puts and drops have come.
--     PutSoFar, DroppedSoFar      the first ones are made, and the others may be
use Rattle.std.specs.Prelude.{ℕ, Bool, List, map, take, drop}
use Rattle.key_kind.specs.declared.key.Key.{Key}
use Rattle.bucket_core.specs.History.{History, Bytes, puts_by}
use Rattle.store_model.specs.OwnPuts.{AreOwnPuts}
use Rattle.reply_model.specs.Tries.{put_of, drop_of}
use Rattle.version_chain.specs.Traces.{Went}
use Rattle.frame_write.specs.Plans.{ArePutsFrom}

-- so many are put, and the others may be put next
pub record PutSoFar (client : ℕ) (sole : Bool) (old now : History) (puts : List (Key × Bytes)) (count : ℕ) : Type 0 where
  pub went : Went client sole old now (map (put_of client) (take count puts))
  pub own : AreOwnPuts now client (take count puts)
  pub rest : ArePutsFrom client (puts_by client now) (drop count puts)

-- so many are dropped, and the others stand
pub record DroppedSoFar (client : ℕ) (sole : Bool) (old now : History) (puts : List (Key × Bytes)) (count : ℕ) : Type 0 where
  pub went : Went client sole old now (map (drop_of client) (take count puts))
  pub own : AreOwnPuts now client (drop count puts)
  pub serial : ℕ
  pub apart : ArePutsFrom client serial (drop count puts)
