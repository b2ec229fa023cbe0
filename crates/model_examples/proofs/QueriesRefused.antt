-- Reads with clauses: replies that are refused, each named by its cheat, and honest ones that are legal though another client's commit came between.
use Rattle.std.proofs.Common.{◌≡◌, ℕ, pos, true, false, List, [], ◌∷◌, ◌++◌, map, Some, None, Ok, Err, refl, sym, ◌∙◌, ap, inl, inr, lit≤}
use Rattle.std.specs.Prelude.{◌^◌, ◌&&◌, ◌⊎◌, Bool, Option, Result, option_map, nat_eq, length}
use Rattle.std.proofs.lemmas.Bool.{true≢false}
use Rattle.frame_core.specs.declared.refusal.Refusal.{Refusal}
use Rattle.frame_core.specs.declared.refusal.Refusal.TheVariants as refusals
use Rattle.frame_core.specs.declared.cell.ColType.TheVariants as types
use Rattle.frame_core.specs.declared.cell.Cell.{Cell}
use Rattle.frame_core.specs.declared.cell.Cell.TheVariants as cells
use Rattle.frame_core.specs.Ranges.{Range}
use Rattle.frame_core.specs.Texts.{Text}
use Rattle.frame_core.specs.Frames.{Row, Frame}
use Rattle.bucket_core.specs.declared.event.Event.{Event}
use Rattle.bucket_core.specs.declared.event.Change.TheVariants as changes
use Rattle.bucket_core.specs.History.{History, history_at}
use Rattle.store_model.specs.Library.{Version}
use Rattle.expr_clause.specs.declared.command.AsOf.TheVariants as moments
use Rattle.expr_clause.specs.declared.command.Command.{Command}
use Rattle.expr_clause.specs.declared.command.Command.TheVariants as commands
use Rattle.expr_clause.specs.declared.expr.BinOp.TheVariants as binary
use Rattle.expr_clause.specs.declared.expr.Expr.{Expr}
use Rattle.expr_clause.specs.declared.expr.Expr.TheVariants as exprs
use Rattle.expr_clause.specs.declared.clause.Agg.TheVariants as aggs
use Rattle.expr_clause.specs.declared.clause.Clause.{Clause}
use Rattle.expr_clause.specs.declared.clause.Clause.TheVariants as clauses
use Rattle.expr_clause.specs.Exprs.{by_levels}
use Rattle.expr_clause.specs.Asking.{query}
use Rattle.reply_model.specs.declared.outcome.Outcome.{Outcome}
use Rattle.reply_model.specs.declared.outcome.Outcome.TheVariants as outcomes
use Rattle.reply_model.specs.Answering.{Answer, answered, ◌then◌}
use Rattle.reply_model.specs.Answers.{answer}
use Rattle.reply_model.specs.ReadAnswers.{read_version, version_answer}
use Rattle.reply_model.specs.OwnEvents.{IsBeginning}
use Rattle.reply_model.specs.Causes.{MarksAt}
use Rattle.reply_model.specs.Rows.{IsAnswer}
use Rattle.reply_model.specs.Windows.{Client, library_at, has_none}
use Rattle.reply_model.specs.Legal.{IsLegalReply, IsLegalSeen}
use Rattle.model_examples.proofs.SmallFrames.{S, frame}
use Rattle.model_examples.proofs.WorkedHistories.{commit, wrote}
use Rattle.model_examples.proofs.WorkedQueries.{a, x, y, col, both, out}
use Rattle.model_examples.proofs.HonestWrites.{client, everything, window, reply}

-- ---- histories

-- a write of four rows; and behind it another client's of one row, with prune
abbrev lines : List (ℕ × ℕ)
lines = (1, 1) ∷ (2, 2) ∷ (3, 3) ∷ (4, 1) ∷ []

abbrev written : History
written = commit 2 2 (wrote 7 lines ∷ []) ∷ []

abbrev pruned : History
pruned = commit 3 2 (wrote 8 ((5, 1) ∷ []) ∷ changes.Removed (0 ∷ []) ∷ []) ∷ written

abbrev reads : List Clause → Command
reads list = commands.Read S (moments.Back 1) everything None list

-- ---- what the reply of a read is held against

abbrev reader : Client
reader = client 1 1

-- it has no commit, so it is the answer at its place
is_the_answer : (h : History) (c : Command) (place : ℕ) (o : Outcome) → IsAnswer h reader c (reply place [] o)
    → answer reader.session (library_at h place) (library_at h place) place c ≡ Some (record { outcome = o; marks = [] })
is_the_answer h c place o (inl e) = e.0
is_the_answer h c place o (inr e) = absurd (no_commit place [] e.6)
  where
    no_commit : (n : ℕ) (ns : List ℕ) → [] ≡ n ∷ ns → ⊥
    no_commit n ns e = cc

-- an answer that a test accepts, and an outcome that it does not
told_apart : (test : Outcome → Bool) (given : Option Answer) (o : Outcome) → given ≡ Some (record { outcome = o; marks = [] })
    → option_map (λ (r : Answer). test r.outcome) given ≡ Some true → test o ≡ false → ⊥
told_apart test given o e accepts rejects = true≢false (same _ _ (sym accepts ∙ ap (option_map (λ (r : Answer). test r.outcome)) e) ∙ rejects)
  where
    same : (b c : Bool) → Some b ≡ Some c → b ≡ c
    same b c e = cc

-- the clause and the row of an overflow
abbrev overflows_at : ℕ → ℕ → Outcome → Bool
overflows_at clause row (outcomes.Refused (refusals.Overflow c r)) = nat_eq clause c && nat_eq row r
overflows_at clause row o = false

-- the version and how many rows it has
abbrev has_rows : ℕ → ℕ → Outcome → Bool
has_rows version count (outcomes.Whole n f) = nat_eq version n && nat_eq count (length f.rows)
has_rows version count o = false

-- the column and the position of one that is absent
abbrev lacks_at : ℕ → ℕ → Outcome → Bool
lacks_at clause position (outcomes.Refused (refusals.NoSuchColumn c p)) = nat_eq clause c && nat_eq position p
lacks_at clause position o = false

-- ---- overflow

-- 2 times, or 3 times, this number is outside i64
abbrev large : Expr
large = exprs.Int (pos (2 ^ 62))

abbrev times : List Clause
times = clauses.Apply x (both binary.Mul (col a) large) ∷ clauses.Apply y (both binary.Mul (col a) large) ∷ []

-- told at a later row
no_later_row : IsLegalReply written reader (reads times) (reply 1 [] (outcomes.Refused (refusals.Overflow 1 3))) (window 1 1) → ⊥
unfolding by_levels Rattle.expr_clause.specs.declared.expr.Expr.TheBlock.hidden-the_row-Expr-0 denote.Hole.Carrier.hidden
no_later_row l = told_apart (overflows_at 1 2) _ _ (is_the_answer written (reads times) 1 _ l.1.outcome) refl refl

-- told at a later clause
no_later_clause : IsLegalReply written reader (reads times) (reply 1 [] (outcomes.Refused (refusals.Overflow 2 2))) (window 1 1) → ⊥
unfolding by_levels Rattle.expr_clause.specs.declared.expr.Expr.TheBlock.hidden-the_row-Expr-0 denote.Hole.Carrier.hidden
no_later_clause l = told_apart (overflows_at 1 2) _ _ (is_the_answer written (reads times) 1 _ l.1.outcome) refl refl

-- told of a row that an earlier clause refuses: there is none in what is left
abbrev ones_times : List Clause
ones_times = clauses.Filter (both binary.Eq (col a) (exprs.Int (pos 1))) ∷ times

no_overflow_of_a_refused_row : IsLegalReply written reader (reads ones_times) (reply 1 [] (outcomes.Refused (refusals.Overflow 2 2))) (window 1 1) → ⊥
unfolding by_levels Rattle.expr_clause.specs.declared.expr.Expr.TheBlock.hidden-the_row-Expr-0 denote.Hole.Carrier.hidden
no_overflow_of_a_refused_row l = told_apart (has_rows 0 2) _ _ (is_the_answer written (reads ones_times) 1 _ l.1.outcome) refl refl

-- ---- rows

abbrev above_one : List Clause
above_one = clauses.Filter (both binary.Gt (col a) (exprs.Int (pos 1))) ∷ []

-- a filter that drops the last row that it is true of
no_dropped_row : IsLegalReply written reader (reads above_one) (reply 1 [] (outcomes.Whole 0 (frame ((2, 2) ∷ [])))) (window 1 1) → ⊥
unfolding by_levels Rattle.expr_clause.specs.declared.expr.Expr.TheBlock.hidden-the_row-Expr-0 denote.Hole.Carrier.hidden
no_dropped_row l = told_apart (has_rows 0 2) _ _ (is_the_answer written (reads above_one) 1 _ l.1.outcome) refl refl

-- clauses that are passed over
no_clause_is_passed_over : IsLegalReply written reader (reads above_one) (reply 1 [] (outcomes.Whole 0 (frame lines))) (window 1 1) → ⊥
unfolding by_levels Rattle.expr_clause.specs.declared.expr.Expr.TheBlock.hidden-the_row-Expr-0 denote.Hole.Carrier.hidden
no_clause_is_passed_over l = told_apart (has_rows 0 2) _ _ (is_the_answer written (reads above_one) 1 _ l.1.outcome) refl refl

-- the rows of the version before, told under the number of the one that is read
no_rows_of_another_version : IsLegalReply pruned reader (reads above_one) (reply 2 [] (outcomes.Whole 1 (frame ((2, 2) ∷ (3, 3) ∷ [])))) (window 2 2) → ⊥
unfolding by_levels Rattle.expr_clause.specs.declared.expr.Expr.TheBlock.hidden-the_row-Expr-0 denote.Hole.Carrier.hidden
no_rows_of_another_version l = told_apart (has_rows 1 0) _ _ (is_the_answer pruned (reads above_one) 2 _ l.1.outcome) refl refl

-- an empty answer that is told as a refusal
abbrev none_left : List Clause
none_left = clauses.Filter (both binary.Gt (col a) (exprs.Int (pos 9))) ∷ clauses.Group a (out x aggs.Sum a ∷ []) ∷ []

no_refusal_of_no_rows : IsLegalReply written reader (reads none_left) (reply 1 [] (outcomes.Refused (refusals.TypeMismatch 2))) (window 1 1) → ⊥
unfolding by_levels Rattle.expr_clause.specs.declared.expr.Expr.TheBlock.hidden-the_row-Expr-0 denote.Hole.Carrier.hidden
no_refusal_of_no_rows l = told_apart (has_rows 0 0) _ _ (is_the_answer written (reads none_left) 1 _ l.1.outcome) refl refl

-- ---- groups

abbrev counted : List Clause
counted = clauses.Group a (out x aggs.Count a ∷ []) ∷ []

-- a group of these keys, each with a number of rows
abbrev grouped : List (ℕ × ℕ) → Frame
grouped rows = record {
  schema = record { timed = false; columns = (a, types.Int) ∷ (x, types.Int) ∷ [] };
  rows = map {B = Row} (λ (r : ℕ × ℕ). record { stamp = pos 0; cells = cells.Int (pos r.0) ∷ cells.Int (pos r.1) ∷ [] }) rows;
}

-- the first cell of the first row is this number
abbrev is_number : ℕ → List Cell → Bool
is_number n (cells.Int (pos m) ∷ cs) = nat_eq n m
is_number n cs = false

abbrev is_first : ℕ → List Row → Bool
is_first n [] = false
is_first n (r ∷ rows) = is_number n r.cells

abbrev begins_with : ℕ → Outcome → Bool
begins_with n (outcomes.Whole v f) = is_first n f.rows
begins_with n o = false

-- keys that fall
no_falling_keys : IsLegalReply written reader (reads counted) (reply 1 [] (outcomes.Whole 0 (grouped ((3, 1) ∷ (2, 1) ∷ (1, 2) ∷ [])))) (window 1 1) → ⊥
no_falling_keys l = told_apart (begins_with 1) _ _ (is_the_answer written (reads counted) 1 _ l.1.outcome) refl refl

-- the two rows of the key 1, which are no neighbours, as two groups
no_key_twice : IsLegalReply written reader (reads counted) (reply 1 [] (outcomes.Whole 0 (grouped ((1, 1) ∷ (2, 1) ∷ (3, 1) ∷ (1, 1) ∷ [])))) (window 1 1) → ⊥
no_key_twice l = told_apart (has_rows 0 3) _ _ (is_the_answer written (reads counted) 1 _ l.1.outcome) refl refl

-- the sums of both groups are outside i64, and the later one is told
abbrev sums : List Clause
sums = clauses.Apply x large ∷ clauses.Apply y (both binary.Eq (col a) (exprs.Int (pos 1))) ∷ clauses.Group y (out a aggs.Sum x ∷ []) ∷ []

abbrev sum_overflows_at : ℕ → ℕ → Outcome → Bool
sum_overflows_at clause group (outcomes.Refused (refusals.GroupOverflow c g)) = nat_eq clause c && nat_eq group g
sum_overflows_at clause group o = false

no_later_group : IsLegalReply written reader (reads sums) (reply 1 [] (outcomes.Refused (refusals.GroupOverflow 3 2))) (window 1 1) → ⊥
unfolding by_levels Rattle.expr_clause.specs.declared.expr.Expr.TheBlock.hidden-the_row-Expr-0 denote.Hole.Carrier.hidden
no_later_group l = told_apart (sum_overflows_at 3 1) _ _ (is_the_answer written (reads sums) 1 _ l.1.outcome) refl refl

-- ---- the order of refusals

-- a type, where a column is absent in the same clause
abbrev absent_and_untyped : List Clause
absent_and_untyped = clauses.Filter (both binary.Add (col a) (both binary.And (exprs.Flag true) (col y))) ∷ []

no_type_before_a_column : IsLegalReply written reader (reads absent_and_untyped) (reply 1 [] (outcomes.Refused (refusals.TypeMismatch 1))) (window 1 1) → ⊥
unfolding by_levels Rattle.expr_clause.specs.declared.expr.Expr.TheBlock.hidden-the_row-Expr-0 denote.Hole.Carrier.hidden
no_type_before_a_column l = told_apart (lacks_at 1 2) _ _ (is_the_answer written (reads absent_and_untyped) 1 _ l.1.outcome) refl refl

-- a position that counts the column that is made
no_position_of_what_is_made : IsLegalReply written reader (reads (clauses.Apply x (col y) ∷ [])) (reply 1 [] (outcomes.Refused (refusals.NoSuchColumn 1 2))) (window 1 1) → ⊥
unfolding by_levels Rattle.expr_clause.specs.declared.expr.Expr.TheBlock.hidden-the_row-Expr-0 denote.Hole.Carrier.hidden
no_position_of_what_is_made l = told_apart (lacks_at 1 1) _ _ (is_the_answer written (reads (clauses.Apply x (col y) ∷ [])) 1 _ l.1.outcome) refl refl

-- ---- beside another client's commit

-- the old version's overflow, told where the new one is read, in which nothing overflows
no_overflow_of_the_version_before : IsLegalReply pruned reader (reads times) (reply 2 [] (outcomes.Refused (refusals.Overflow 1 2))) (window 1 2) → ⊥
unfolding by_levels Rattle.expr_clause.specs.declared.expr.Expr.TheBlock.hidden-the_row-Expr-0 denote.Hole.Carrier.hidden
no_overflow_of_the_version_before l = told_apart (has_rows 1 1) _ _ (is_the_answer pruned (reads times) 2 _ l.1.outcome) refl refl

-- told where the old one was read it is legal, also where that one was buried meanwhile
overflow_before_a_prune_is_legal : IsLegalSeen pruned reader (reads times) (reply 1 [] (outcomes.Refused (refusals.Overflow 1 2))) (window 1 2)
unfolding by_levels Rattle.expr_clause.specs.declared.expr.Expr.TheBlock.hidden-the_row-Expr-0 denote.Hole.Carrier.hidden
overflow_before_a_prune_is_legal = record {
  after = lit≤ tt;
  before = lit≤ tt;
  listed = refl;
  listed_within = tt;
  own = record { events = refl; commits = refl; short = λ e f. absurd cc; meant = tt; late = tt };
  left = record { left = refl; causes = tt };
  outcome = inl (refl, refl);
}

-- and so are the old version's rows
rows_before_a_prune_are_legal : IsLegalSeen pruned reader (reads above_one) (reply 1 [] (outcomes.Whole 0 (frame ((2, 2) ∷ (3, 3) ∷ [])))) (window 1 2)
unfolding by_levels Rattle.expr_clause.specs.declared.expr.Expr.TheBlock.hidden-the_row-Expr-0 denote.Hole.Carrier.hidden
rows_before_a_prune_are_legal = record {
  after = lit≤ tt;
  before = lit≤ tt;
  listed = refl;
  listed_within = tt;
  own = record { events = refl; commits = refl; short = λ e f. absurd cc; meant = tt; late = tt };
  left = record { left = refl; causes = tt };
  outcome = inl (refl, refl);
}

-- ---- for each read

-- the answer to a read makes no change, whatever its clauses are
no_marks : (r : Result Version Refusal) (range : Range) (columns : Option (List Text)) (list : List Clause) → MarksAt (Some (answered (r then λ v. version_answer v range columns list))) → ⊥
no_marks (Err why) range columns list (inl n) = n refl
no_marks (Err why) range columns list (inr e) = absurd cc
no_marks (Ok v) range columns list m = of_one v.number (query v.frame range columns list) m
  where
    of_one : (number : ℕ) (q : Result Frame Refusal) → MarksAt (Some (answered (q then λ g. Ok (record { outcome = outcomes.Whole number g; marks = [] })))) → ⊥
    of_one number (Err why) (inl n) = n refl
    of_one number (Err why) (inr e) = absurd cc
    of_one number (Ok g) (inl n) = n refl
    of_one number (Ok g) (inr e) = absurd cc

-- and a beginning of no events is none
nothing_begun : (es more : List Event) → es ++ more ≡ [] → has_none es ≡ true
nothing_begun [] more e = refl
nothing_begun (x ∷ es) more e = absurd cc

none_begun : (es : List Event) → IsBeginning (λ xs. xs ≡ []) es ⊎ IsBeginning (λ xs. xs ≡ []) es → has_none es ≡ true
none_begun es (inl b) = nothing_begun es b.more b.whole
none_begun es (inr b) = nothing_begun es b.more b.whole

not_busy : (es : List Event) (M : Type 0) → (M → ⊥) → has_none es ≡ true → (has_none es ≡ false) ⊎ M → ⊥
not_busy es M never none (inl e) = true≢false (sym none ∙ e)
not_busy es M never none (inr m) = never m

-- so no read answers that the store is full
no_read_is_spent : (h : History) (list : List Clause) (place start stop : ℕ) → IsLegalReply h reader (reads list) (reply place [] (outcomes.Refused (refusals.Spent place))) (window start stop) → ⊥
no_read_is_spent h list place start stop l = not_busy _ _ (λ m. no_marks (read_version (library_at (history_at h stop) m.0) S (moments.Back 1)) everything None list m.3) (none_begun _ l.1.own.events) l.1.outcome.busy
