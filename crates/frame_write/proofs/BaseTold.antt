-- A slot of the newest live version, where a history is only known to be lawful, and not why.
use Rattle.std.proofs.Common.{◌≡◌, ℕ, ◌+◌, ◌<◌, ◌≤◌, ◌^◌, false, List, ◌++◌, length, refl, sym, ap, ◌∙◌, subst, inr, Some, arith}
use Rattle.std.specs.Prelude.{Contains}
use Rattle.std.specs.List.{list_any}
use denote.Struct.Props.{props}
use mathlib.Core.Logic.{∥∥₁_elim}
use Rattle.frame_core.specs.Frames.{Row, Frame}
use Rattle.frame_core.specs.Schemas.{Schema}
use Rattle.segment_cut.specs.Tiles.{cut}
use Rattle.index_tree.specs.declared.index.Slot.{Slot}
use Rattle.index_tree.specs.IndexRules.{IsSlot}
use Rattle.key_kind.specs.declared.key.Key.{Key}
use Rattle.key_kind.specs.Names.{Name}
use Rattle.bucket_core.specs.History.{History}
use Rattle.bucket_core.specs.Laws.{refers}
use Rattle.store_model.specs.Library.{base_of}
use Rattle.store_model.specs.Links.{frame_put}
use Rattle.store_model.specs.Commits.{MayNameKey, HasSlotStamps}
use Rattle.store_model.specs.Law.{IsLawful}
use Rattle.store_model.specs.Links.{Linked}
use Rattle.store_model.proofs.Untouched.{as_it_was}
use Rattle.frame_write.specs.Pieces.{HasBase}
use Rattle.frame_write.proofs.SharedSlots.{base_storable, shared_stamps, shared_put, shared_lies, shared_reaches, shared_may_name}
use Rattle.frame_write.proofs.PlanLemmas.{small_rows}

-- the frame was put under the key, which a new link of any version may name
pub record IsSharedIn (h : History) (client : ℕ) (symbol : Name) (frame : Frame) (key : Key) : Type 0 where
  pub put : frame_put h key ≡ Some frame
  pub may_name : (version : ℕ) → MayNameKey h client version symbol key

module _ (h : History) (lawful : ∥ IsLawful h ∥₁) (symbol : Name) (schema : Schema) (rows : List Row) (slots : List Slot) (b : HasBase h symbol schema rows slots) (s : Slot) (there : Contains slots s) where
  -- a slot of the base has the stamps of its rows
  pub stamps_told : HasSlotStamps b.version.frame s
  stamps_told = record {
    first = ∥∥₁_elim lawful (hlevel props) (λ l. (shared_stamps h l symbol schema rows slots b s there).first);
    last = ∥∥₁_elim lawful (hlevel props) (λ l. (shared_stamps h l symbol schema rows slots b s there).last);
  }

  -- its rows are among the base's
  pub lies_told : s.part.first_row + s.part.rows ≤ length b.version.frame.rows
  lies_told = ∥∥₁_elim lawful (hlevel props) (λ l. (shared_lies h l symbol schema rows slots b s there).0)

  -- so its numbers are small
  pub small_told : s.part.first_row + s.part.rows < 2 ^ 32
  small_told = ∥∥₁_elim lawful (hlevel props) (λ l.
      let lies = (shared_lies h l symbol schema rows slots b s there).0 in
      let few = small_rows b.version.frame (base_storable h l symbol schema rows slots b) (length b.version.frame.rows) refl in
      omega (arith, lies, few))

  -- its tile stands, and its key may be named
  pub shared_told : (client columns : ℕ) → IsSlot columns s → IsSharedIn h client symbol (cut b.version.frame s.part) s.key
  shared_told client columns rule = record {
    put = ∥∥₁_elim lawful (hlevel props) (λ l. shared_put h l symbol schema rows slots b s there);
    may_name = λ version. record {
      kind = rule.is_tile;
      name = ∥∥₁_elim lawful (hlevel props) (λ l. (shared_may_name h l symbol schema rows slots b s there client version columns rule).name);
      stands = ∥∥₁_elim lawful (hlevel props) (λ l. (shared_may_name h l symbol schema rows slots b s there client version columns rule).stands);
      fresh_or_shared = inr (∥∥₁_elim lawful (hlevel props) (λ l. shared_reaches h l symbol schema rows slots b s there));
    };
  }

-- the newest live version is the same where no Refer of the symbol was added
pub base_later : (before more : History) (symbol : Name) (schema : Schema) (rows : List Row) (slots : List Slot) → list_any (refers symbol) more ≡ false → HasBase before symbol schema rows slots → HasBase (more ++ before) symbol schema rows slots
base_later before more symbol schema rows slots unreferred b =
    let same = as_it_was before more symbol unreferred in
    record {
      version = b.version;
      is = ap base_of same.state_is ∙ b.is;
      schema_is = b.schema_is;
      rows_are = b.rows_are;
      link = b.link;
      link_is = subst (λ (ls : List Linked). Contains ls b.link) (sym same.links_are) b.link_is;
      number = b.number;
      slots_are = b.slots_are;
    }
