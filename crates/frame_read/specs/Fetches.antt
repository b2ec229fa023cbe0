-- What a look at the objects of a target's version answers.
--     Reaches             a link of the version reaches the key
--     IsGone              a version that needs no more to be there, of which a key is gone
--     RefusesGet          the refusals of a get
--     LacksAt, LacksKey   the key that is gone of a version that is
--     IsReached, IsIndexKey, IsSlotKey      the key of a link, of an index, or of one of these slots of it
--     IsTargetIndex       the index of the target's link
use Rattle.std.specs.Prelude.{◌≡◌, ℕ, true, false, List, None, map, ⊤, Contains}
use Rattle.base_types.specs.Faults.{Rose}
use Rattle.frame_core.specs.declared.refusal.Refusal.{Refusal}
use Rattle.frame_core.specs.declared.refusal.Refusal.TheVariants as refusals
use Rattle.frame_core.specs.declared.refusal.Refused.{Refused}
use Rattle.index_tree.specs.declared.index.Slot.{Slot}
use Rattle.index_tree.specs.declared.index.Index.{Index}
use Rattle.key_kind.specs.declared.key.Key.{Key}
use Rattle.key_kind.specs.Names.{Name}
use Rattle.bucket_core.specs.History.{History, stored, history_at}
use Rattle.store_model.specs.Library.{state_of, is_buried, is_held}
use Rattle.store_model.specs.Links.{Linked, links, reached}
use Rattle.version_chain.specs.States.{IsWithin}
use Rattle.frame_read.specs.declared.target.Target.{Target}

-- a link of the symbol's version reaches the key
pub record Reaches (h : History) (symbol : Name) (version : ℕ) (key : Key) : Type 0 where
  pub link : Linked
  pub link_is : Contains (links h symbol) link
  pub number : link.row.version ≡ version
  pub reached_by : Contains (reached link) key

-- the version is buried and not held, and a key that a link of it reached is gone
pub record IsGone (h : History) (symbol : Name) (version : ℕ) : Type 0 where
  pub buried : is_buried (state_of h symbol) version ≡ true
  pub released : is_held (state_of h symbol) version ≡ false
  pub key : Key
  pub reaches : Reaches h symbol version key
  pub gone : stored h key ≡ None

-- a version is gone where it is so in the history; a fault comes only where the count of faults rose
abbrev pub IsGetRefusal : ℕ → ℕ → History → Name → ℕ → Refusal → Type 0
IsGetRefusal before now h symbol version refusals.StoreFault = Rose before now
IsGetRefusal before now h symbol version refusals.NoMemory = ⊤
IsGetRefusal before now h symbol version (refusals.VersionGone number) = (number ≡ version) × IsGone h symbol version
IsGetRefusal before now h symbol version _ = ⊥

-- the history is the one at the refusal's place, which is a place of the call
pub record RefusesGet (before now : ℕ) (old new : History) (symbol : Name) (version : ℕ) (refused : Refused) : Type 0 where
  pub why : IsGetRefusal before now (history_at new refused.place) symbol version refused.why
  pub place : IsWithin old new refused.place

-- where the version is gone, a key of this sort is, of a link of it, at the place
abbrev pub LacksAt : History → Name → ℕ → (Linked → Key → Type 0) → ℕ → Refusal → Type 0
LacksAt h symbol version IsSought place (refusals.VersionGone number) =
    (link : Linked) × Contains (links (history_at h place) symbol) link × (link.row.version ≡ version) × (key : Key) × IsSought link key × (stored (history_at h place) key ≡ None)
LacksAt h symbol version IsSought place _ = ⊤

-- so of a target's version, at the refusal's place
abbrev pub LacksKey : History → Target → (Linked → Key → Type 0) → Refused → Type 0
LacksKey h target IsSought refused = LacksAt h target.symbol target.version IsSought refused.place refused.why

-- the key is this one, of this link
abbrev pub IsReached : Linked → Key → Linked → Key → Type 0
IsReached of sought link key = (link ≡ of) × (key ≡ sought)

-- the key of the link's index
abbrev pub IsIndexKey : Linked → Key → Type 0
IsIndexKey link key = key ≡ link.row.index

-- the key of one of these slots, of the link that has this index
abbrev pub IsSlotKey : Index → List Slot → Linked → Key → Type 0
IsSlotKey index slots link key = (link.index ≡ index) × Contains (map (λ (s : Slot). s.key) slots) key

-- the index of a link of the target's version with the target's index key, as it was put
pub record IsTargetIndex (h : History) (target : Target) (index : Index) : Type 0 where
  pub link : Linked
  pub link_is : Contains (links h target.symbol) link
  pub number : link.row.version ≡ target.version
  pub key : link.row.index ≡ target.index
  pub is : link.index ≡ index
