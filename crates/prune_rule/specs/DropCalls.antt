-- What the drops of a reclaim did.
--     IsDroppable         a key that any client may drop
--     DidDrop             one drop, and the keys that were dropped so far
--     IsPartOf            some of the elements of a list, in their order
--     Dropped, StoppedDrops, DidDrops      the drops of a list of keys
use Rattle.std.specs.Prelude.{◌≡◌, ◌⊎◌, ℕ, Bool, true, List, [], ◌∷◌, ◌++◌, map, None, Result, Ok, Err, Contains, is_some}
use Rattle.frame_core.specs.declared.refusal.Refusal.TheVariants as refusals
use Rattle.frame_core.specs.declared.refusal.Refused.{Refused}
use Rattle.key_kind.specs.declared.key.Key.{Key}
use Rattle.bucket_core.specs.Calls.{drop_event}
use Rattle.bucket_core.specs.History.{History, stored, body_put}
use Rattle.bucket_core.specs.Laws.{Adds, Looks}
use Rattle.store_model.specs.Law.{IsClaimed}
use Rattle.store_model.specs.Links.{IsUnneeded, IsConsumedPiece}
use Rattle.version_chain.specs.Traces.{Went}
use Rattle.version_chain.specs.Stops.{StopsAt, HasCause}
use Rattle.version_chain.specs.StoreCalls.{StoppedCall}

-- a key that was put and that nobody needs
pub record IsDroppable (h : History) (key : Key) : Type 0 where
  pub dead : IsUnneeded h key ⊎ IsConsumedPiece h key
  pub put : is_some (body_put h key) ≡ true

-- ---- one drop

-- the key was there, and is dropped; or it was gone
abbrev pub DidDropOne : ℕ → Bool → History → History → Key → List Key → List Key → Type 0
DidDropOne client sole old new key before after =
    (Adds IsClaimed client sole old new (drop_event client key) × (after ≡ before ++ key ∷ []))
    ⊎ (Looks IsClaimed client sole old new × (stored new key ≡ None) × (after ≡ before))

-- the call was refused; the store was full only where the key is there
pub record StoppedDrop (client : ℕ) (sole : Bool) (limit before now : ℕ) (old new : History) (key : Key) (refused : Refused) : Type 0 where
  pub stopped : StoppedCall client sole limit before now old new (drop_event client key) refused
  pub full : (count : ℕ) → refused.why ≡ refusals.Spent count → is_some (stored new key) ≡ true

-- one drop, and the keys that were dropped before it and with it
abbrev pub DidDrop : ℕ → Bool → ℕ → ℕ → ℕ → History → History → Key → List Key → List Key → Result Unit Refused → Type 0
DidDrop client sole limit before now old new key so_far freed (Ok done) = DidDropOne client sole old new key so_far freed
DidDrop client sole limit before now old new key so_far freed (Err refused) = StoppedDrop client sole limit before now old new key refused

-- ---- all of them

-- some of the elements of a list, in their order
pub data IsPartOf {X : Type 0} : List X → List X → Type 0 where
  part_none : IsPartOf [] []
  part_with : (x : X) {xs ys : List X} → IsPartOf xs ys → IsPartOf (x ∷ xs) (x ∷ ys)
  part_without : (y : X) {xs ys : List X} → IsPartOf xs ys → IsPartOf xs (y ∷ ys)

-- of these keys those were dropped that were there, and none stands any more
pub record Dropped (client : ℕ) (sole : Bool) (old new : History) (keys freed : List Key) : Type 0 where
  pub went : Went client sole old new (map (drop_event client) freed)
  pub part : IsPartOf freed keys
  pub gone : (key : Key) → Contains keys key → stored new key ≡ None

-- a call failed behind some of the drops; the store was full only where a key was dropped or is there
pub record StoppedDrops (client : ℕ) (sole : Bool) (limit before now : ℕ) (old new : History) (keys : List Key) (refused : Refused) : Type 0 where
  pub freed : List Key
  pub went : Went client sole old new (map (drop_event client) freed)
  pub part : IsPartOf freed keys
  pub stops : StopsAt client old new refused
  pub cause : HasCause limit before now new refused refused.why
  pub busy : (count : ℕ) → refused.why ≡ refusals.Spent count → (key : Key) × Contains keys key × (is_some (stored new key) ≡ true)

-- the drops of a list of keys
abbrev pub DidDrops : ℕ → Bool → ℕ → ℕ → ℕ → History → History → List Key → Result (List Key) Refused → Type 0
DidDrops client sole limit before now old new keys (Ok freed) = Dropped client sole old new keys freed
DidDrops client sole limit before now old new keys (Err refused) = StoppedDrops client sole limit before now old new keys refused
