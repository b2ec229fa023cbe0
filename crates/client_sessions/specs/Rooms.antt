-- Memory for replies.
--     counts              for how many replies each is
use Rattle.std.specs.Prelude.{ℕ, List, map}
use Rattle.client_sessions.specs.declared.room.Room.{Room}

-- for how many replies each of these is
abbrev pub counts : List Room → List ℕ
counts = map (λ (r : Room). r.count)
