-- The answers of reads and of versions.
--     versions_answer         every version ever linked
--     read_version            the version that a read takes
--     ask, version_answer     of a query: the rows in the range, and of these the asked columns; what a read answers of a version
--     is_asked, places_asked  whether a column is asked, and the places of those that are
use Rattle.std.specs.Prelude.{ℕ, zero, suc, Bool, true, not, if◌then◌else◌, List, [], map, reverse, find, slice_get, Option, Some, None, Result, Ok, Err, nat_eq, int_le, count_by, option_map}
use Rattle.std.specs.List.{list_any}
use Rattle.frame_core.specs.declared.refusal.Asked.TheVariants as asks
use Rattle.frame_core.specs.declared.refusal.Refusal.{Refusal}
use Rattle.frame_core.specs.declared.refusal.Refusal.TheVariants as refusals
use Rattle.frame_core.specs.Texts.{Text, same_text}
use Rattle.frame_core.specs.Schemas.{Head}
use Rattle.index_tree.specs.declared.index.Index.{Index}
use Rattle.index_tree.specs.Covering.{places_where}
use Rattle.key_kind.specs.Names.{Name, same_name}
use Rattle.store_model.specs.Library.{State, Version, is_buried, live_versions}
use Rattle.store_model.specs.Snapshots.{Snapshot, Library, snapshot_named}
use Rattle.expr_clause.specs.declared.command.AsOf.{AsOf}
use Rattle.expr_clause.specs.declared.command.AsOf.TheVariants as moments
use Rattle.expr_clause.specs.declared.clause.Clause.{Clause}
use Rattle.frame_core.specs.Ranges.{Range}
pub use Rattle.expr_clause.specs.Asking.{select_columns, ask, query}
use Rattle.reply_model.specs.declared.outcome.VersionRow.{VersionRow}
use Rattle.reply_model.specs.declared.outcome.Outcome.TheVariants as outcomes
use Rattle.reply_model.specs.Answering.{Answer, ◌then◌, refuse_if, or_refuse, version_or}

-- a version with its stamp, whether it is live, and its holds
abbrev pub version_row : State → Version → VersionRow
version_row st v = record { version = v.number; stamp = v.stamp; live = not (is_buried st v.number); holds = count_by (λ w. nat_eq v.number w.version) st.holds }

-- the answer of versions
abbrev pub versions_answer : State → Result Answer Refusal
versions_answer st = refuse_if (not st.has_reference) refusals.NoSuchSymbol (Ok (record { outcome = outcomes.Versions (reverse (map (version_row st) st.versions)); marks = [] }))

-- the version of a number, buried or not
abbrev pub numbered : State → ℕ → Option Version
numbered st n = find (λ v. nat_eq v.number n) st.versions

-- the k-th newest live version; there is no 0th
abbrev pub back : List Version → ℕ → Option Version
back live zero = None
back live (suc k) = slice_get live k

-- the version that a symbol has in a snapshot
abbrev pub picked : Snapshot → Name → Option ℕ
picked snap symbol = option_map (λ p. p.1) (find (λ p. same_name symbol p.0) snap.picks)

-- the version that a read takes. A buried version is read through a snapshot alone
abbrev pub read_version : Library → Name → AsOf → Result Version Refusal
read_version l symbol (moments.Back k) = version_or (l.state symbol) (asks.Back k) (back (live_versions (l.state symbol)) k)
read_version l symbol (moments.Number n) = version_or (l.state symbol) (asks.Number n) (find (λ v. nat_eq v.number n) (live_versions (l.state symbol)))
read_version l symbol (moments.Moment t) = version_or (l.state symbol) (asks.Moment t) (find (λ v. int_le v.stamp t) (live_versions (l.state symbol)))
read_version l symbol (moments.Snapshot snap) =
    or_refuse (snapshot_named l snap) refusals.NoSuchSnapshot then λ s.
    or_refuse (picked s symbol) refusals.NoSuchSymbol then λ n.
    or_refuse (numbered (l.state symbol) n) refusals.NoSuchSymbol

-- what a read answers of a version: the rows in the range, of these the asked columns, and what the clauses give of them
abbrev pub version_answer : Version → Range → Option (List Text) → List Clause → Result Answer Refusal
version_answer v range columns clauses = query v.frame range columns clauses then λ f. Ok (record { outcome = outcomes.Whole v.number f; marks = [] })

-- whether the column of a name is asked
abbrev pub is_asked : Option (List Text) → Text → Bool
is_asked None name = true
is_asked (Some names) name = list_any (same_text name) names

-- the places of the asked columns of an index
abbrev pub places_asked : Option (List Text) → Index → List ℕ
places_asked columns index = places_where (λ (head : Head). is_asked columns head.0) index.schema.columns
