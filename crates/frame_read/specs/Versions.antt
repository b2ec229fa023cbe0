-- The versions of a symbol, as they are listed.
--     count_in            how often a number occurs, by a list of numbers with counts
--     row_counted, row_in      the row of a link, by the counts of tombs and holds, and in a walked state
--     IsVersionList       the list of versions at a place of a call
--     RefusesVersions     the refusals
use Rattle.std.specs.Prelude.{◌≡◌, ℕ, List, [], unwrap_or, count_by, nat_eq, Ok, Err, ⊤}
use Rattle.std.specs.Map.{lookup}
use Rattle.std.specs.BTreeMap.{is_at}
use Rattle.std.specs.Ordering.{nat_cmp}
use Rattle.base_types.specs.Faults.{Rose}
use Rattle.frame_core.specs.declared.refusal.Refusal.{Refusal}
use Rattle.frame_core.specs.declared.refusal.Refusal.TheVariants as refusals
use Rattle.frame_core.specs.declared.refusal.Refused.{Refused}
use Rattle.key_kind.specs.Names.{Name}
use Rattle.bucket_core.specs.History.{History, history_at}
use Rattle.store_model.specs.declared.chain.LinkRow.{LinkRow}
use Rattle.store_model.specs.declared.hold.HoldRow.{HoldRow}
use Rattle.store_model.specs.Library.{state_of}
use Rattle.version_chain.specs.declared.state.SymbolState.{SymbolState}
use Rattle.version_chain.specs.States.{IsWithin}
use Rattle.reply_model.specs.declared.outcome.VersionRow.{VersionRow}
use Rattle.reply_model.specs.declared.outcome.Outcome.TheVariants as outcomes
use Rattle.reply_model.specs.ReadAnswers.{versions_answer}
use Rattle.frame_read.specs.declared.versions.VersionList.{VersionList}

-- how often the number occurs, where the list has the numbers that do, with their counts
abbrev pub count_in : List (ℕ × ℕ) → ℕ → ℕ
count_in counts n = unwrap_or (lookup (is_at (nat_cmp n)) counts) 0

-- the row of a link, where these are the counts of tombs and of holds
abbrev pub row_counted : List (ℕ × ℕ) → List (ℕ × ℕ) → LinkRow → VersionRow
row_counted tombs holds row = record { version = row.version; stamp = row.stamp; live = nat_eq (count_in tombs row.version) 0; holds = count_in holds row.version }

-- the row of a link: it is live where no tomb has its version
abbrev pub row_in : SymbolState → LinkRow → VersionRow
row_in state row = record {
  version = row.version;
  stamp = row.stamp;
  live = nat_eq (count_by (nat_eq row.version) state.tombs) 0;
  holds = count_by (λ (hold : HoldRow). nat_eq row.version hold.version) state.holds;
}

-- the rows that the one-thread library answers at the place, which is a place of the call
pub record IsVersionList (old new : History) (symbol : Name) (list : VersionList) : Type 0 where
  pub place : IsWithin old new list.place
  pub rows : versions_answer (state_of (history_at new list.place) symbol) ≡ Ok (record { outcome = outcomes.Versions list.rows; marks = [] })

-- a refusal as the library gives it; a fault comes only where the count of faults rose
abbrev pub IsVersionsRefusal : ℕ → ℕ → History → Name → Refusal → Type 0
IsVersionsRefusal before now h symbol refusals.StoreFault = Rose before now
IsVersionsRefusal before now h symbol refusals.NoMemory = ⊤
IsVersionsRefusal before now h symbol refusals.NoSuchSymbol = versions_answer (state_of h symbol) ≡ Err refusals.NoSuchSymbol
IsVersionsRefusal before now h symbol _ = ⊥

-- the library that refuses is the one at the refusal's place, which is a place of the call
pub record RefusesVersions (before now : ℕ) (old new : History) (symbol : Name) (refused : Refused) : Type 0 where
  pub why : IsVersionsRefusal before now (history_at new refused.place) symbol refused.why
  pub place : IsWithin old new refused.place
