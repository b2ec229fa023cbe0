-- The answers of snapshot and delete_snapshot, where no events of others come between.
--     Holding              what is held, and the changes of each symbol
--     snapshot_answer      the holds of a snapshot by a holder, whose name then stands over them
--     delete_snapshot_answer      the releases, after which the name stands no more
use Rattle.std.specs.Prelude.{ℕ, not, if◌then◌else◌, List, [], ◌∷◌, map, Some, None, Result, Ok, Err, is_some}
use Rattle.frame_core.specs.declared.refusal.Refusal.{Refusal}
use Rattle.frame_core.specs.declared.refusal.Refusal.TheVariants as refusals
use Rattle.key_kind.specs.declared.key.Holder.{Holder}
use Rattle.key_kind.specs.Names.{Name, name_before}
use Rattle.bucket_core.specs.declared.event.Change.{Change}
use Rattle.bucket_core.specs.declared.event.Change.TheVariants as changes
use Rattle.store_model.specs.Library.{base_of}
use Rattle.store_model.specs.Snapshots.{Library, snapshot_named}
use Rattle.expr_clause.specs.declared.command.Pick.{Pick}
use Rattle.reply_model.specs.Answering.{◌then◌, refuse_if, or_refuse}
use Rattle.reply_model.specs.Windows.{picked_version}
use Rattle.reply_model.specs.Causes.{asked_version}

-- what a snapshot changes: of each symbol in ascending order its changes, and then the standing names
pub record Holding : Type 0 where
  pub picks : List (Name × ℕ)
  pub marks : List (Name × Change)

-- a list of picks in order of their symbols, with one more in its place
abbrev pub insert_pick : Pick → List Pick → List Pick
insert_pick p [] = p ∷ []
insert_pick p (q ∷ qs) = if name_before p.symbol q.symbol then p ∷ q ∷ qs else q ∷ insert_pick p qs

-- picks in order of their symbols
abbrev pub in_name_order : List Pick → List Pick
in_name_order [] = []
in_name_order (p ∷ ps) = insert_pick p (in_name_order ps)

-- the version to hold of one symbol
abbrev pub pick_of : Library → Pick → Result (Name × ℕ) Refusal
pick_of l p = refuse_if (not (l.state p.symbol).has_reference) refusals.NoSuchSymbol
    (or_refuse (picked_version (l.state p.symbol) p.version) (refusals.NoSuchVersion (asked_version p.version)) then λ n. Ok (p.symbol, n))

-- the versions to hold of these symbols, or the first refusal
abbrev pub picks_of : Library → List Pick → Result (List (Name × ℕ)) Refusal
picks_of l [] = Ok []
picks_of l (p ∷ ps) = pick_of l p then λ x. picks_of l ps then λ xs. Ok (x ∷ xs)

-- the base of every symbol that has one
abbrev pub bases : Library → List Name → List (Name × ℕ)
bases l [] = []
bases l (s ∷ ss) = elim (base_of (l.state s)) [ None ↦ bases l ss | Some v ↦ (s, v.number) ∷ bases l ss ]

-- a snapshot that would hold nothing is refused
abbrev pub filled : List (Name × ℕ) → Result (List (Name × ℕ)) Refusal
filled [] = Err refusals.NoSuchSymbol
filled (x ∷ xs) = Ok (x ∷ xs)

-- the versions to hold: of all symbols, or of the asked ones
abbrev pub asked_picks : Library → List Pick → Result (List (Name × ℕ)) Refusal
asked_picks l [] = filled (bases l l.symbols)
asked_picks l (p ∷ ps) = picks_of l (in_name_order (p ∷ ps))

-- the holds of a snapshot by this holder, whose name then stands over the picks
abbrev pub snapshot_answer : Library → Holder → Name → List Pick → Result Holding Refusal
snapshot_answer l holder snap picks = refuse_if (is_some (snapshot_named l snap)) refusals.SnapshotExists
    (asked_picks l picks then λ held. Ok (record { picks = held; marks = map {B = Name × Change} (λ (x : Name × ℕ). (x.0, changes.Held holder x.1)) held }))

-- the releases of a delete_snapshot, whose name then stands no more
abbrev pub delete_snapshot_answer : Library → Name → Result Holding Refusal
delete_snapshot_answer l snap = or_refuse (snapshot_named l snap) refusals.NoSuchSnapshot then λ s.
    Ok (record { picks = []; marks = map {B = Name × Change} (λ (x : Name × ℕ). (x.0, changes.Released s.holder)) s.picks })
