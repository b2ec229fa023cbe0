-- What one try of an append or an update did.
--     DidGone             a try whose base was buried before the try made an event
--     DidMeetWanted       a try that was met, and had a change to make
--     DidAttempt          it committed what was asked, was met, failed, or the library refuses the command
use Rattle.std.specs.Prelude.{◌≡◌, ◌⊎◌, ℕ, ◌≤◌, ◌<◌, Bool, [], length, Result, Ok, Err}
use Rattle.frame_core.specs.declared.refusal.Refusal.{Refusal}
use Rattle.frame_core.specs.declared.refusal.Refusal.TheVariants as refusals
use Rattle.frame_core.specs.declared.refusal.Refused.{Refused}
use Rattle.key_kind.specs.Names.{Name}
use Rattle.bucket_core.specs.History.{History, history_at, referred_at}
use Rattle.store_model.specs.Library.{Version}
use Rattle.reply_model.specs.Losses.{LosesBase}
use Rattle.frame_write.specs.declared.options.Committed.{Committed}
use Rattle.version_chain.specs.Traces.{Went}
use Rattle.frame_write.specs.Tries.{Made, IsMet, DidCommit, DidMeet, DidEnd}

-- no event of its own, since a key of the base at a look is gone, behind which another's Refer stands at the place; the reference shows it
pub record DidGone (client : ℕ) (sole : Bool) (symbol : Name) (Fits : Version → Type 0) (old new : History) (refused : Refused) : Type 0 where
  pub went : Went client sole old new []
  pub met : IsMet client symbol (length old) new refused.place
  pub why : refused.why ≡ refusals.Moved refused.place
  pub shown : referred_at new symbol ≡ refused.place
  pub look : ℕ
  pub from : length old ≤ look
  pub between : look < refused.place
  pub lost : LosesBase new symbol Fits look (length new)

-- a try was met that had a change to make at its look
pub record DidMeetWanted (client : ℕ) (sole : Bool) (symbol : Name) (Wants : History → Type 0) (old new : History) (refused : Refused) : Type 0 where
  pub look : ℕ
  pub from : length old ≤ look
  pub wants : Wants (history_at new look)
  pub met : DidMeet client sole symbol look old new refused

-- what one try did of a command that asks for this, that the library refuses so, that has a change to make in these histories, and that fits these bases
abbrev pub DidAttempt : ℕ → Bool → Name → (Made → Type 0) → (History → Refusal → Type 0) → (History → Type 0) → (Version → Type 0) → ℕ → ℕ → ℕ → History → History → Result Committed Refused → Type 0
DidAttempt client sole symbol Asked Refuses Wants Fits limit before now old new (Ok done) = DidCommit client sole symbol Asked old new done
DidAttempt client sole symbol Asked Refuses Wants Fits limit before now old new (Err refused) =
    DidMeetWanted client sole symbol Wants old new refused ⊎ DidGone client sole symbol Fits old new refused ⊎ DidEnd client sole symbol Asked Refuses Wants limit before now old new refused
