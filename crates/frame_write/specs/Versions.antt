-- The plan of a new version.
--     row_of, index_with      the row of the version's link, and its index
--     IsVersionPlan       how a plan is made of slots that are laid out, on a walked tip
--     IsLaidTable         the new tiles of a layout and their index, as they are put
--     AddsElement         an element put behind other puts
--     MayPlan             the walked tip is the symbol's, and the next serials are free
--     IsPlanOf            the plan of a change in pieces
use Rattle.std.specs.Prelude.{◌≡◌, ◌<◌, ◌≤◌, ◌^◌, ◌+◌, ℕ, suc, Bool, List, [], ◌∷◌, ◌++◌, map, length, Ok}
use Rattle.std.specs.Arc.{arc_value}
use Rattle.frame_core.specs.Schemas.{Schema}
use Rattle.index_tree.specs.declared.index.Index.{Index}
use Rattle.index_tree.specs.IndexText.{index_of}
use Rattle.key_kind.specs.Names.{Name, IsName}
use Rattle.key_kind.specs.KeyText.{key_text}
use Rattle.bucket_core.specs.declared.event.Change.{Change}
use Rattle.bucket_core.specs.History.{History, Bytes, puts_by}
use Rattle.store_model.specs.declared.chain.LinkRow.{LinkRow}
use Rattle.store_model.specs.declared.chain.ChainMark.TheVariants as marks
use Rattle.store_model.specs.ChainText.{entry_of}
use Rattle.store_model.specs.Library.{state_of, next_number}
use Rattle.store_model.specs.Law.{IsLawful}
use Rattle.version_chain.specs.declared.tip.ChainTip.{ChainTip}
use Rattle.version_chain.specs.Marking.{element_key}
use Rattle.version_chain.specs.Tips.{IsTipOf}
use Rattle.reply_model.specs.Answering.{removed, pruned}
use Rattle.frame_write.specs.declared.laying.Layout.{Layout}
use Rattle.frame_write.specs.declared.options.Options.{Options}
use Rattle.frame_write.specs.declared.pieces.Piece.{Piece}
use Rattle.frame_write.specs.declared.plan.Plan.{Plan}
use Rattle.frame_write.specs.declared.plan.Linked.{Linked}
use Rattle.frame_write.specs.declared.plan.Table.{Table}
use Rattle.frame_write.specs.declared.puts.Prepared.{Prepared}
use Rattle.frame_write.specs.Pieces.{laid, new_tiles}
use Rattle.frame_write.specs.Plans.{IsPlan, puts_seen}
use Rattle.frame_write.specs.SlotKeys.{slots_key}

-- the row of the version's link
abbrev pub row_of : ℕ → Name → ℕ → Layout → Options → LinkRow
row_of client symbol version layout options = record { version = version; stamp = options.at; rows = layout.rows; index = slots_key client symbol version layout.next layout.slots }

-- the index of the slots
abbrev pub index_with : Schema → Layout → Index
index_with schema layout = record { schema = schema; rows = layout.rows; slots = layout.slots }

-- the new tiles are put, then the index and an element, which stands on the walked reference, links the index and buries what is to be buried
pub record IsVersionPlan (client version : ℕ) (symbol : Name) (tip : ChainTip) (layout : Layout) (schema : Schema) (change : Change) (options : Options) (plan : Plan) : Type 0 where
  pub index : Bytes
  pub element : Bytes
  pub puts : puts_seen plan.puts ≡ puts_seen layout.puts ++ (slots_key client symbol version layout.next layout.slots, index) ∷ (element_key client symbol (suc layout.next), element) ∷ []
  pub index_spelled : index_of index ≡ Ok (index_with schema layout)
  pub element_spelled : entry_of element ≡ Ok (record { prev = tip.was; changes = marks.Link (row_of client symbol version layout options) ∷ map marks.Tomb tip.buried })
  pub was : plan.was ≡ tip.was
  pub number : plan.version ≡ version
  pub entry : plan.entry ≡ element_key client symbol (suc layout.next)
  pub mark : arc_value plan.mark ≡ key_text plan.entry
  pub changes : arc_value plan.changes ≡ change ∷ removed tip.buried
  pub is_name : IsName symbol
  pub serials_fit : suc layout.next < 2 ^ 64

-- the tiles of a layout, and behind them its index under the next serial
pub record IsLaidTable (client : ℕ) (symbol : Name) (version : ℕ) (schema : Schema) (layout : Layout) (table : Table) : Type 0 where
  pub put : Prepared
  pub puts_are : table.puts ≡ layout.puts ++ put ∷ []
  pub key_is : put.key ≡ slots_key client symbol version layout.next layout.slots
  pub spelled : index_of (arc_value put.body) ≡ Ok (index_with schema layout)
  pub key : table.index ≡ put.key
  pub next : table.next ≡ suc layout.next
  pub fits : suc layout.next < 2 ^ 64

-- an element is put behind these, which stands on the walked reference, has this link and buries what is to be buried
pub record AddsElement (client serial : ℕ) (symbol : Name) (tip : ChainTip) (row : LinkRow) (old : List Prepared) (linked : Linked) : Type 0 where
  pub element : Bytes
  pub puts_are : puts_seen linked.puts ≡ puts_seen old ++ (element_key client symbol serial, element) ∷ []
  pub spelled : entry_of element ≡ Ok (record { prev = tip.was; changes = marks.Link row ∷ map marks.Tomb tip.buried })
  pub was : linked.entered.was ≡ tip.was
  pub entry : linked.entered.entry ≡ element_key client symbol serial
  pub mark : arc_value linked.entered.mark ≡ key_text linked.entered.entry

-- the tip is the symbol's in the lawful history, walked for what it buries, and the client's next serial is no lower than it was there
pub record MayPlan (client serial : ℕ) (before : History) (symbol : Name) (prune : Bool) (tip : ChainTip) : Type 0 where
  pub lawful : ∥ IsLawful before ∥₁
  pub is_tip : IsTipOf before symbol prune tip
  pub serial_is : puts_by client before ≤ serial

-- a plan over the state in a history that makes this change, with what it buries, and whose index has the slots of these pieces
pub record IsPlanOf (client serial : ℕ) (before : History) (symbol : Name) (options : Options) (change : Change) (list : List Piece) (plan : Plan) : Type 0 where
  pub index : Index
  pub is_plan : IsPlan client serial before symbol index plan
  pub changes : arc_value plan.changes ≡ change ∷ pruned (state_of before symbol) options.prune
  pub puts : length (puts_seen plan.puts) ≡ new_tiles options.cutting list + 2
  pub slots : index.slots ≡ laid options.cutting client symbol (next_number (state_of before symbol)) 0 serial list
