-- The answers of finalize and discard.
--     taken                   the pieces that are taken: staged at the list, and not consumed
--     finalize_answer, discard_answer
use Rattle.std.specs.Prelude.{ℕ, ◌+◌, ℤ, pos, Bool, true, false, ◌||◌, ◌&&◌, if◌then◌else◌, List, [], ◌∷◌, ◌++◌, map, length, filter, Option, Some, None, Result, Ok, int_lt, int_le, unwrap_or, option_map}
use Rattle.std.specs.List.{list_any}
use Rattle.frame_core.specs.declared.refusal.Refusal.{Refusal}
use Rattle.frame_core.specs.declared.refusal.Refusal.TheVariants as refusals
use Rattle.frame_core.specs.Schemas.{Schema, schemas_differ}
use Rattle.frame_core.specs.Frames.{Row, Frame, first_stamp, last_stamp}
use Rattle.frame_core.specs.RawFrames.{unless}
use Rattle.bucket_core.specs.declared.event.Change.{Change}
use Rattle.bucket_core.specs.declared.event.Change.TheVariants as changes
use Rattle.store_model.specs.ChainText.{piece_before}
use Rattle.store_model.specs.Library.{State, Version, Piece, same_piece, base_of, next_number, open_pieces, first_of, on_base}
use Rattle.reply_model.specs.declared.outcome.Outcome.TheVariants as outcomes
use Rattle.reply_model.specs.Answering.{Answer, ◌then◌, or_refuse, pruned, within_limits, append_before, may_append}

-- the first stamp of a piece, 0 without rows
abbrev pub piece_first : Piece → ℤ
piece_first p = unwrap_or (first_stamp p.frame.rows) (pos 0)

-- the last stamp of a piece, 0 without rows
abbrev pub piece_last : Piece → ℤ
piece_last p = unwrap_or (last_stamp p.frame.rows) (pos 0)

-- the piece stands before the other, by first stamp, last stamp, client and serial
abbrev pub stands_before : Piece → Piece → Bool
stands_before p q =
    int_lt (piece_first p) (piece_first q) || (int_le (piece_first p) (piece_first q)
    && (int_lt (piece_last p) (piece_last q) || (int_le (piece_last p) (piece_last q) && piece_before p.name q.name)))

-- pieces in order, with one more behind those that it does not stand before
abbrev pub insert_piece : (Piece → Piece → Bool) → Piece → List Piece → List Piece
insert_piece before p [] = p ∷ []
insert_piece before p (q ∷ qs) = if before p q then p ∷ q ∷ qs else q ∷ insert_piece before p qs

-- pieces in order
abbrev pub in_piece_order : (Piece → Piece → Bool) → List Piece → List Piece
in_piece_order before [] = []
in_piece_order before (p ∷ ps) = insert_piece before p (in_piece_order before ps)

-- the pieces staged when the list was made and not consumed now
abbrev pub taken : State → State → List Piece
taken listed st = filter (λ p. list_any (λ (q : Piece). same_piece p.name q.name) listed.staged) (open_pieces st)

-- the least column in which the first piece differs that does not have this schema
abbrev pub odd_column : Schema → List Piece → Option ℕ
odd_column schema [] = None
odd_column schema (p ∷ ps) = elim (schemas_differ schema p.frame.schema) [ Some column ↦ Some column | None ↦ odd_column schema ps ]

-- the least piece, from n, whose first stamp lies below the last stamp before it; pieces without rows are passed over
abbrev pub overlap : ℕ → Option ℤ → List Piece → Option ℕ
overlap n last [] = None
overlap n last (p ∷ ps) = elim (append_before last (first_stamp p.frame.rows)) [ Some x ↦ Some n | None ↦ overlap (n + 1) (later (last_stamp p.frame.rows)) ps ]
  where
    later : Option ℤ → Option ℤ
    later None = last
    later (Some t) = Some t

-- the rows of all pieces
abbrev pub rows_of : List Piece → List Row
rows_of [] = []
rows_of (p ∷ ps) = p.frame.rows ++ rows_of ps

-- rows in order of their stamps, those of one stamp as they stood
abbrev pub insert_row : Row → List Row → List Row
insert_row r [] = r ∷ []
insert_row r (s ∷ rows) = if int_le r.stamp s.stamp then r ∷ s ∷ rows else s ∷ insert_row r rows

-- rows in order of their stamps
abbrev pub sort_rows : List Row → List Row
sort_rows [] = []
sort_rows (r ∷ rows) = insert_row r (sort_rows rows)

-- the change that consumes these pieces
abbrev pub discarded : List Piece → Change
discarded ps = changes.Discarded (map (λ p. p.name) (in_piece_order (λ p q. piece_before p.name q.name) ps))

-- the rows that a finalize writes
abbrev pub finalized_rows : Bool → List Piece → List Row
finalized_rows true ps = sort_rows (rows_of (in_piece_order (λ p q. piece_before p.name q.name) ps))
finalized_rows false ps = rows_of (in_piece_order stands_before ps)

-- the change of a finalize by its mode
abbrev pub finalize_change : Bool → Frame → ℤ → Change
finalize_change true frame at = changes.Appended frame at
finalize_change false frame at = changes.Wrote frame at

-- the base, where the mode asks for it
abbrev pub base_if : Bool → State → Option Version
base_if true st = base_of st
base_if false st = None

-- the schema of the first piece
abbrev pub first_schema : List Piece → Option Schema
first_schema ps = option_map (λ p. p.frame.schema) (first_of ps)

-- the answer of finalize
abbrev pub finalize_answer : State → State → Bool → Bool → Bool → ℤ → Result Answer Refusal
finalize_answer listed st append sorted prune at =
    or_refuse (first_schema ps) refusals.NoStaged then λ schema.
    unless (odd_column schema ps) refusals.SchemaDiffers (
    unless (if sorted then None else overlap 1 None ps) refusals.StagedOverlap (
    may_append (base_if append st) (record { schema = schema; rows = finalized_rows sorted ps }) then λ frame.
    within_limits (on_base (λ old new. old ++ new) (base_if append st) frame) then λ whole.
    Ok (record {
      outcome = outcomes.Finalized (next_number st) (length ps);
      marks = (finalize_change append frame at ∷ pruned st prune) ++ discarded ps ∷ [];
    })))
  where
    ps : List Piece
    ps = in_piece_order stands_before (taken listed st)

-- the answer of discard
abbrev pub discard_answer : State → State → Result Answer Refusal
discard_answer listed st =
    or_refuse (first_of (taken listed st)) refusals.NoStaged then λ p.
    Ok (record { outcome = outcomes.Discarded (length (taken listed st)); marks = discarded (taken listed st) ∷ [] })
