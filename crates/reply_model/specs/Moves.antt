-- How the tries of a command were met by another's Refer of a symbol.
--     own_between          a client's events from one place to another
--     LeavesKeys           a met try put its keys, and dropped them again
--     IsMetTry             a try between two places met another's Refer
--     AreMetTries          so many tries did, one behind another
use Rattle.std.specs.Prelude.{◌≡◌, ◌⊎◌, ℕ, zero, suc, ◌<◌, ◌≤◌, Bool, List, [], map, filter, reverse, nat_eq}
use Rattle.key_kind.specs.declared.key.Key.{Key}
use Rattle.key_kind.specs.Names.{Name}
use Rattle.bucket_core.specs.declared.event.Event.{Event}
use Rattle.bucket_core.specs.History.{History, Bytes, author, history_at, events_within, referred_at}
use Rattle.reply_model.specs.Tries.{put_of, drop_of, IsTry}

-- the client's events from one place to another, in order
abbrev pub own_between : History → ℕ → ℕ → ℕ → List Event
own_between h client from to = reverse (filter (λ e. nat_eq (author e) client) (events_within h from to))

-- the keys of a try were put before the call that showed another's Refer, and dropped behind it; there is no other own event
pub record LeavesKeys (h : History) (client : ℕ) (symbol : Name) (makes : Bool) (start showed stop : ℕ) : Type 0 where
  pub puts : List (Key × Bytes)
  pub entry : Key
  pub is_try : IsTry symbol makes puts entry
  pub put : own_between h client start showed ≡ map (put_of client) puts
  pub dropped : own_between h client showed stop ≡ map (drop_of client) puts

-- a try looked at the reference; behind that look another set it, and a later call of the try showed this. The command had a change
-- to make where it looked, and the try left its keys; or it has no event, since something that it was to read was gone
pub record IsMetTry (h : History) (client : ℕ) (symbol : Name) (makes : Bool) (Wants : ℕ → Type 0) (Loses : ℕ → ℕ → Type 0) (start stop now : ℕ) : Type 0 where
  pub look : ℕ
  pub showed : ℕ
  pub begins : start ≤ look
  pub between : look < now
  pub shown : referred_at (history_at h showed) symbol ≡ now
  pub ends : showed ≤ stop
  pub own : (LeavesKeys h client symbol makes start showed stop × Wants look) ⊎ ((own_between h client start stop ≡ []) × Loses look showed)

-- so many tries were met, one behind another, the last one by the Refer of this place
abbrev pub AreMetTries : History → ℕ → Name → Bool → (ℕ → Type 0) → (ℕ → ℕ → Type 0) → ℕ → ℕ → ℕ → ℕ → Type 0
AreMetTries h client symbol makes Wants Loses zero start stop now = start ≡ stop
AreMetTries h client symbol makes Wants Loses (suc n) start stop now =
    (mid : ℕ) × (earlier : ℕ) × AreMetTries h client symbol makes Wants Loses n start mid earlier × IsMetTry h client symbol makes Wants Loses mid stop now
