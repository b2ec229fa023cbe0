-- What a command asks of the newest live version of its symbol.
--     answer_to           what the one-thread library answers
--     IsWish              when a command may ask so
--     MayStandBehind, HasColumnsOf, FitsBase      whether what is asked fits the base, as its index tells
--     IsAnswered, Declines, Wants, Loses      a commit that makes what is asked; a refusal; a history in which there is a version to make; a base that is lost
--     IsPlanOf            a plan of what is asked
--     IsAlone, why_missing, IsMissing     the plan where there is no live version; why there is none, and the refusal
use Rattle.std.specs.Prelude.{◌≡◌, ℕ, ℤ, Bool, true, false, if◌then◌else◌, [], ◌∷◌, Option, Some, None, Result, Ok, Err, is_some}
use Rattle.frame_core.specs.declared.refusal.Asked.TheVariants as asks
use Rattle.frame_core.specs.declared.refusal.Refusal.{Refusal}
use Rattle.frame_core.specs.declared.refusal.Refusal.TheVariants as refusals
use Rattle.frame_core.specs.declared.refusal.Refused.{Refused}
use Rattle.frame_core.specs.Ranges.{IsRange}
use Rattle.frame_core.specs.Frames.{Frame}
use Rattle.frame_core.specs.Limits.{IsStorable}
use Rattle.segment_cut.specs.Cuttings.{IsCutting}
use Rattle.key_kind.specs.Names.{Name}
use Rattle.bucket_core.specs.declared.event.Change.{Change}
use Rattle.bucket_core.specs.declared.event.Change.TheVariants as changes
use Rattle.bucket_core.specs.History.{History}
use Rattle.store_model.specs.Library.{State, Version, state_of, next_number}
use Rattle.reply_model.specs.Answering.{Answer, committed, pruned, fits_schema}
use Rattle.reply_model.specs.CommitAnswers.{append_answer, update_answer, clear_answer, outside}
use Rattle.reply_model.specs.Losses.{FitsBehind, LosesBase}
use Rattle.reply_model.specs.Standing.{parts_laid}
use Rattle.version_chain.specs.declared.tip.ChainTip.{ChainTip}
use Rattle.frame_write.specs.declared.options.Options.{Options}
use Rattle.frame_write.specs.declared.pieces.LinkPlan.{LinkPlan}
use Rattle.frame_write.specs.declared.pieces.Piece.TheVariants as pieces
use Rattle.frame_write.specs.Links.{FitsPlan}
use Rattle.frame_write.specs.Pieces.{laid}
use Rattle.frame_write.specs.Tries.{Made}
use Rattle.append_update.specs.declared.wish.Wish.{Wish}
use Rattle.append_update.specs.declared.wish.Wish.TheVariants as wishes
use Rattle.append_update.specs.Looking.{AnyBase}
use Rattle.append_update.specs.RowBlocks.{AreParts, KeepKeys, AreSmall, IsBuiltOn}
use Rattle.append_update.specs.Shares.{MakesSlots}
use Rattle.reply_model.specs.Blocks.{run_cutting}

-- the answer in a state of the symbol
abbrev pub answer_to : Wish → Bool → ℤ → State → Result Answer Refusal
answer_to (wishes.Append frame) prune at st = append_answer st prune at frame.now
answer_to (wishes.Replace frame range upsert) prune at st = update_answer st upsert prune at (Some range) frame.now
answer_to (wishes.Clear range) prune at st = clear_answer range prune at st

-- the frame may be written, and its rows lie in the range, which is in order
abbrev pub IsWish : Wish → Type 0
IsWish (wishes.Append frame) = IsStorable frame.now
IsWish (wishes.Replace frame range upsert) = IsStorable frame.now × IsRange range × (outside 1 range frame.now.rows ≡ None)
IsWish (wishes.Clear range) = IsRange range

-- the frame may be appended to the base, as far as its index tells
abbrev pub MayStandBehind : Frame → Version → Type 0
MayStandBehind frame v = FitsBehind v.frame frame

-- the frame has the base's columns
abbrev pub HasColumnsOf : Frame → Version → Type 0
HasColumnsOf frame v = fits_schema v.frame frame ≡ Ok frame

-- what is asked fits a base, as the base's index tells
abbrev pub FitsBase : Wish → Version → Type 0
FitsBase (wishes.Append frame) v = MayStandBehind frame.now v
FitsBase (wishes.Replace frame range upsert) v = HasColumnsOf frame.now v
FitsBase (wishes.Clear range) v = AnyBase v

-- the commit has one change, and what it buries; the library answers so just before it; its row blocks are those of the change
pub record IsAnswered (client : ℕ) (symbol : Name) (wish : Wish) (options : Options) (m : Made) : Type 0 where
  pub change : Change
  pub list : m.list ≡ change ∷ pruned (state_of m.before symbol) options.prune
  pub answered : answer_to wish options.prune options.at (state_of m.before symbol) ≡ Ok (committed (state_of m.before symbol) options.prune change)
  pub built : IsBuiltOn client options.cutting symbol change m

-- the library refuses so
abbrev pub Declines : Name → Wish → Options → History → Refusal → Type 0
Declines symbol wish options h why = answer_to wish options.prune options.at (state_of h symbol) ≡ Err why

-- the library makes a version
abbrev pub Wants : Name → Wish → Options → History → Type 0
Wants symbol wish options h = (c : Change) × (answer_to wish options.prune options.at (state_of h symbol) ≡ Ok (committed (state_of h symbol) options.prune c))

-- behind a look a key of its base is gone, which what is asked fits where the base's index was read
abbrev pub Loses : Name → Wish → History → ℕ → ℕ → Type 0
Loses symbol wish h look showed = LosesBase h symbol (FitsBase wish) look showed

-- the plan may be tried in this history, in which the library answers its change; its pieces have the row blocks of the change, with the keys
-- that those keep, and they are laid out as its slots
pub record IsPlanOf (h : History) (symbol : Name) (options : Options) (answer : State → Result Answer Refusal) (plan : LinkPlan) : Type 0 where
  pub fits : FitsPlan h symbol options.at plan
  pub answered : answer (state_of h symbol) ≡ Ok (committed (state_of h symbol) options.prune plan.change)
  pub blocks : IsCutting options.cutting → AreSmall (run_cutting options.cutting) h symbol → AreParts (run_cutting options.cutting) plan.pieces (parts_laid (run_cutting options.cutting) h symbol plan.change)
  pub keys : IsCutting options.cutting → AreSmall (run_cutting options.cutting) h symbol → KeepKeys (run_cutting options.cutting) h symbol plan.change plan.pieces
  pub slots : (client serial : ℕ) → MakesSlots plan.change symbol options.cutting client serial h (laid options.cutting client symbol (next_number (state_of h symbol)) 0 serial plan.pieces)

-- the plan where there is no live version; none where the command wants one
abbrev pub IsAlone : Wish → ℤ → Option LinkPlan → Type 0
IsAlone (wishes.Append frame) at plan = plan ≡ Some (record { schema = frame.now.schema; pieces = pieces.Fresh frame.now ∷ []; change = changes.Appended frame.now at })
IsAlone (wishes.Replace frame range upsert) at plan =
    plan ≡ (if upsert then Some (record { schema = frame.now.schema; pieces = pieces.Fresh frame.now ∷ []; change = changes.Updated frame.now range at }) else None)
IsAlone (wishes.Clear range) at plan = plan ≡ None

-- why there is no live version, where the symbol has a reference or not
abbrev pub why_missing : Bool → Refusal
why_missing true = refusals.NoSuchVersion (asks.Back 1)
why_missing false = refusals.NoSuchSymbol

-- there is no plan on this tip, and the refusal says why
pub record IsMissing (tip : ChainTip) (found : Option LinkPlan) (refused : Refused) : Type 0 where
  pub none : found ≡ None
  pub place : refused.place ≡ tip.place
  pub why : refused.why ≡ why_missing (is_some tip.was)
