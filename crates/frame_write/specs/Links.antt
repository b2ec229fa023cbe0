-- A new version on a walked tip.
--     IsInOrder           the range of an update is in order
--     FitsPlan            the plan of the version that a change makes of a symbol
--     IsLinkable          when the plan may be tried
--     IsLinkMade          what the commit of the plan made
use Rattle.std.specs.Prelude.{◌≡◌, ℕ, ◌+◌, ℤ, false, ◌∷◌, length, Some, ⊤}
use Rattle.std.specs.List.{list_any}
use Rattle.frame_core.specs.Ranges.{IsRange}
use Rattle.frame_core.specs.Limits.{IsStorable}
use Rattle.key_kind.specs.Names.{Name}
use Rattle.bucket_core.specs.declared.event.Change.{Change}
use Rattle.bucket_core.specs.declared.event.Change.TheVariants as changes
use Rattle.bucket_core.specs.History.{History}
use Rattle.store_model.specs.Library.{State, Version, state_of, new_version, next_number}
use Rattle.version_chain.specs.declared.tip.ChainTip.{ChainTip}
use Rattle.version_chain.specs.Tips.{IsTipAt}
use Rattle.version_chain.specs.Marking.{own_refers}
use Rattle.reply_model.specs.Answering.{pruned}
use Rattle.frame_write.specs.declared.options.Options.{Options}
use Rattle.frame_write.specs.declared.pieces.LinkPlan.{LinkPlan}
use Rattle.frame_write.specs.Pieces.{ArePieces, laid, new_tiles}
use Rattle.frame_write.specs.Plans.{IsUnmoved}
use Rattle.frame_write.specs.Tries.{Made}

-- the range of an update is in order
abbrev pub IsInOrder : Change → Type 0
IsInOrder (changes.Updated frame range at) = IsRange range
IsInOrder _ = ⊤

-- the change makes a version of this stamp, whose frame may be written and has the plan's schema and the rows of its pieces
pub record FitsPlan (h : History) (symbol : Name) (at : ℤ) (plan : LinkPlan) : Type 0 where
  pub version : Version
  pub makes : new_version (state_of h symbol) plan.change ≡ Some version
  pub stamp : version.stamp ≡ at
  pub in_order : IsInOrder plan.change
  pub storable : IsStorable version.frame
  pub schema : plan.schema ≡ version.frame.schema
  pub pieces : ArePieces h symbol version.frame plan.pieces

-- the tip is the symbol's at a place of the history, walked for what the options bury, above which the client has no Refer of it; the plan fits the history there
pub record IsLinkable (client : ℕ) (h : History) (symbol : Name) (tip : ChainTip) (options : Options) (plan : LinkPlan) : Type 0 where
  pub walked : IsTipAt h symbol options.prune tip
  pub none_own : list_any (own_refers client symbol) walked.later ≡ false
  pub fits : FitsPlan walked.before symbol options.at plan

-- the plan's change and what it buries, on a state that was left as it was walked; a put for each new tile, the index and the element;
-- and the index has the slots of the pieces, with keys from this serial on
pub record IsLinkMade (client serial : ℕ) (symbol : Name) (walked : State) (plan : LinkPlan) (options : Options) (m : Made) : Type 0 where
  pub list : m.list ≡ plan.change ∷ pruned (state_of m.before symbol) options.prune
  pub unmoved : IsUnmoved walked (state_of m.before symbol)
  pub puts : length m.puts ≡ new_tiles options.cutting plan.pieces + 2
  pub slots : m.index.slots ≡ laid options.cutting client symbol (next_number walked) 0 serial plan.pieces
