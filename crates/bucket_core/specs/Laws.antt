-- When an event may follow a history: what the store tests of it, and what its caller claims.
--     IsTested            the store's own test of an event
--     MayFollow, IsLawful      the test and the claim; each event may follow the events before it
--     IsUntouched         added events do not touch what an event stands on
--     ClaimsStay, TestsTell      what a law shows of its claims
--     Grown               how a bucket's seen history grows in a call
use Rattle.std.specs.Prelude.{◌≡◌, ℕ, Bool, true, false, [], ◌∷◌, ◌++◌, ⊤, is_some}
use Rattle.std.specs.List.{list_any}
use Rattle.key_kind.specs.Names.{Name, same_name}
use Rattle.key_kind.specs.Keys.{snapshot_key}
use Rattle.bucket_core.specs.declared.event.Event.{Event}
use Rattle.bucket_core.specs.declared.event.Event.TheVariants as events
use Rattle.bucket_core.specs.History.{History, author, stored, reference, AllByOthers, Lawful}

-- the reference is `was`; the name is free, or stands; the key is stored
abbrev pub IsTested : History → Event → Type 0
IsTested h (events.Put client key body) = ⊤
IsTested h (events.Refer client symbol was entry list) = reference h symbol ≡ was
IsTested h (events.Name client snap body) = is_some (stored h (snapshot_key snap)) ≡ false
IsTested h (events.Unname client snap) = is_some (stored h (snapshot_key snap)) ≡ true
IsTested h (events.Drop client key) = is_some (stored h key) ≡ true

-- the event may follow the history
abbrev pub MayFollow : (History → Event → Type 0) → History → Event → Type 0
MayFollow claimed h e = IsTested h e × claimed h e

-- each event of the history may follow the events before it
abbrev pub IsLawful : (History → Event → Type 0) → History → Type 0
IsLawful claimed = Lawful (MayFollow claimed)

-- a Refer of the symbol
abbrev pub refers : Name → Event → Bool
refers symbol (events.Refer client s was entry list) = same_name s symbol
refers symbol _ = false

-- a Refer of the event's symbol would touch what it stands on
abbrev pub IsUntouched : Event → History → Type 0
IsUntouched (events.Refer client symbol was entry list) more = list_any (refers symbol) more ≡ false
IsUntouched _ more = ⊤

-- what is claimed of an event stays so while others add lawful events that do not touch it
abbrev pub ClaimsStay : (History → Event → Type 0) → Type 0
ClaimsStay claimed = (h more : History) (e : Event) → IsLawful claimed (more ++ h) → AllByOthers (author e) more → IsUntouched e more → claimed h e → claimed (more ++ h) e

-- the store's test of an event shows that it is untouched
abbrev pub TestsTell : (History → Event → Type 0) → Type 0
TestsTell claimed = (h more : History) (e : Event) → IsLawful claimed (more ++ h) → IsTested h e → IsTested (more ++ h) e → IsUntouched e more

-- a seen history grows by lawful events of others, which a sole bucket has none of, and then by these own ones
pub record Grown (claimed : History → Event → Type 0) (client : ℕ) (sole : Bool) (old new own : History) : Type 0 where
  pub others : History
  pub is : new ≡ own ++ (others ++ old)
  pub by_others : AllByOthers client others
  pub alone : sole ≡ true → others ≡ []
  pub lawful : IsLawful claimed old → IsLawful claimed new

-- the event follows the seen history, with lawful events of others between
abbrev pub Adds : (History → Event → Type 0) → ℕ → Bool → History → History → Event → Type 0
Adds claimed client sole old new e = Grown claimed client sole old new (e ∷ [])

-- the seen history gets lawful events of others alone
abbrev pub Looks : (History → Event → Type 0) → ℕ → Bool → History → History → Type 0
Looks claimed client sole old new = Grown claimed client sole old new []
