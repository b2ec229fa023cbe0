-- The plan of an append makes the version that the one-thread library makes, and the library answers as the checks do.
use Rattle.std.proofs.Common.{◌≡◌, ℕ, ℤ, ◌≤ℤ◌, Bool, true, false, List, [], ◌∷◌, ◌++◌, length, refl, sym, ap, ◌∙◌, subst, inr, cond, arith, Option, Some, None, Ok, Err}
use Rattle.std.specs.Prelude.{Contains, int_lt, slice_range}
use Rattle.std.specs.List.{AllByRecursion}
use Rattle.std.proofs.lemmas.Bool.{true≢false}
use Rattle.std.proofs.lemmas.Int.{ints}
use Rattle.std.proofs.lemmas.List.{append-nil}
use Rattle.frame_core.specs.declared.refusal.Refusal.TheVariants as refusals
use Rattle.frame_core.specs.declared.refusal.Extent.{Extent}
use Rattle.frame_core.specs.Ranges.{InOrder}
use Rattle.frame_core.specs.Schemas.{Head, Schema, schemas_differ}
use Rattle.frame_core.specs.Frames.{Row, Frame, FitsColumns, NeverFall, stamps_of, first_stamp, last_stamp}
use Rattle.frame_core.specs.Limits.{IsStorable, frame_too_large, refuse_large}
use Rattle.frame_core.proofs.JoinLemmas.{same_columns}
use Rattle.index_tree.specs.declared.index.Slot.{Slot}
use Rattle.index_tree.specs.declared.index.Index.{Index}
use Rattle.index_tree.specs.IndexRules.{IsSlot, Cover}
use Rattle.key_kind.specs.Names.{Name}
use Rattle.bucket_core.specs.declared.event.Change.TheVariants as changes
use Rattle.bucket_core.specs.History.{History}
use Rattle.store_model.specs.Library.{State, Version, state_of, base_of, on_base, version_of}
use Rattle.store_model.proofs.Lists.{contains_first, contains_later}
use Rattle.reply_model.specs.Answering.{committed, append_before}
use Rattle.reply_model.specs.CommitAnswers.{append_answer}
use Rattle.frame_write.specs.Pieces.{begin_of, end_of, IsRun, HasBase, ArePieces}
use Rattle.frame_write.specs.Links.{FitsPlan}
use Rattle.append_update.specs.Bases.{IsIndexOf}
use Rattle.append_update.specs.Newest.{IsNewest}
use Rattle.append_update.specs.Replacing.{appended}
use Rattle.append_update.proofs.FrameLemmas.{all-both}
use Rattle.append_update.proofs.SlotLemmas.{rows_of_run, rows_of_all, cover_is_run}

-- ---- the columns

schema_same : (a b : Schema) → a.timed ≡ b.timed → a.columns ≡ b.columns → a ≡ b
schema_same a b t c = ap (λ (x : Bool). record { timed = x; columns = a.columns }) t ∙ ap (λ (x : List Head). record { timed = b.timed; columns = x }) c

-- frames that may be written and do not differ in their columns have one schema
pub one_schema : (base frame : Frame) → IsStorable base → IsStorable frame → schemas_differ base.schema frame.schema ≡ None → base.schema ≡ frame.schema
one_schema base frame b f same = schema_same base.schema frame.schema (b.timed ∙ sym f.timed) (same_columns 1 base.schema.columns frame.schema.columns same)

-- ---- the rows

rising_ends : (xs ys : List Row) → NeverFall (stamps_of xs) → NeverFall (stamps_of ys) → InOrder (last_stamp xs) (first_stamp ys) → NeverFall (stamps_of (xs ++ ys))
rising_ends [] ys first more order = more
rising_ends (x ∷ []) [] first more order = tt
rising_ends (x ∷ []) (y ∷ ys) first more order = (order, more)
rising_ends (x ∷ z ∷ xs) ys first more order = (first.0, rising_ends (z ∷ xs) ys first.1 more order)

in_order : (last first : Option ℤ) → append_before last first ≡ None → InOrder last first
in_order None first e = tt
in_order (Some last) None e = tt
in_order (Some last) (Some first) e = by (int_lt first last) refl
  where
    by : (b : Bool) → int_lt first last ≡ b → last ≤ℤ first
    by true less = absurd (clash (sym (ap (λ b. cond b (Some (last, first)) None) less) ∙ e))
      where
        clash : {x : ℤ × ℤ} → Some x ≡ None → ⊥
        clash e = cc
    by false less = grind (arith, ints)

-- the whole frame may be written
pub whole_storable : (base frame : Frame) → IsStorable base → IsStorable frame → base.schema ≡ frame.schema → append_before (last_stamp base.rows) (first_stamp frame.rows) ≡ None
    → frame_too_large (record frame { rows = base.rows ++ frame.rows }) ≡ None → IsStorable (record frame { rows = base.rows ++ frame.rows })
whole_storable base frame b f same order small = record {
  is_frame = record {
    columns = f.is_frame.columns;
    ascending = rising_ends base.rows frame.rows b.is_frame.ascending f.is_frame.ascending (in_order (last_stamp base.rows) (first_stamp frame.rows) order);
    fitting = all-both (FitsColumns frame.schema.columns) base.rows frame.rows (subst (λ (s : Schema). AllByRecursion (FitsColumns s.columns) base.rows) same b.is_frame.fitting) f.is_frame.fitting;
    untimed = λ e. absurd (true≢false (sym f.timed ∙ e));
  };
  timed = f.timed;
  within = small;
}

-- ---- the pieces

pub all_contained : (slots : List Slot) → AllByRecursion (λ s. Contains slots s) slots
all_contained slots = each slots (λ s there. there)
  where
    each : (xs : List Slot) → ((s : Slot) → Contains xs s → Contains slots s) → AllByRecursion (λ s. Contains slots s) xs
    each [] there = tt
    each (x ∷ xs) there = (there x (contains_first x xs), each xs (λ s in_xs. there s (contains_later s x xs in_xs)))

both_of : {X : Type 0} (P Q : X → Type 0) (xs : List X) → AllByRecursion P xs → AllByRecursion Q xs → AllByRecursion (λ x. P x × Q x) xs
both_of P Q [] one two = tt
both_of P Q (x ∷ xs) one two = ((one.0, two.0), both_of P Q xs one.1 two.1)

-- each slot of the base keeps the rules, in a frame of its columns
pub slots_keep : (frame : Frame) (index : Index) (schema : Schema) → IsIndexOf frame index → frame.schema ≡ schema → AllByRecursion (λ s. Contains index.slots s × IsSlot (length schema.columns) s) index.slots
slots_keep frame index schema of same =
    both_of (λ s. Contains index.slots s) (IsSlot (length schema.columns)) index.slots (all_contained index.slots)
    (subst (λ (s : Schema). AllByRecursion (IsSlot (length s.columns)) index.slots) (of.schema ∙ same) of.rules.each)

-- the newest live version is a base of pieces
pub has_base : (h : History) (symbol : Name) (v : Version) (index : Index) (schema : Schema) → IsNewest h symbol v index → v.frame.schema ≡ schema → HasBase h symbol schema v.frame.rows index.slots
has_base h symbol v index schema n same = record {
  version = v;
  is = n.is;
  schema_is = same;
  rows_are = refl;
  link = n.link;
  link_is = n.link_is;
  number = n.number;
  slots_are = ap (λ (i : Index). i.slots) n.index_is;
}

index_run : (frame : Frame) (index : Index) → IsIndexOf frame index → IsRun (length frame.schema.columns) index.slots
index_run frame index of =
    subst (λ (s : Schema). IsRun (length s.columns) index.slots) of.schema (cover_is_run index.rows (length index.schema.columns) index.slots of.rules.cover)

all_held : (frame : Frame) (index : Index) → IsIndexOf frame index → slice_range frame.rows (begin_of index.slots) (end_of index.slots) ≡ frame.rows
all_held frame index of =
    sym (rows_of_run frame (length index.schema.columns) index.slots of.rules.each (cover_is_run index.rows (length index.schema.columns) index.slots of.rules.cover))
    ∙ rows_of_all frame (length index.schema.columns) index.slots of.rules.each (subst (λ n. Cover n (length index.schema.columns) index.slots) of.rows of.rules.cover)

-- all rows of the base and behind them the frame's
pub appended_pieces : (h : History) (symbol : Name) (v : Version) (index : Index) (frame : Frame) → IsNewest h symbol v index → IsStorable frame → v.frame.schema ≡ frame.schema
    → ArePieces h symbol (record frame { rows = v.frame.rows ++ frame.rows }) (appended index.slots frame)
appended_pieces h symbol v index frame n f same = record {
  rows = v.frame.rows;
  slots = index.slots;
  base = inr (has_base h symbol v index frame.schema n same);
  each = ((slots_keep v.frame index frame.schema n.index_of same, subst (λ (s : Schema). IsRun (length s.columns) index.slots) same (index_run v.frame index n.index_of)), ((f, refl), tt));
  held = ap (λ rs. rs ++ frame.rows) (sym (all_held v.frame index n.index_of)) ∙ ap (λ rs. slice_range v.frame.rows (begin_of index.slots) (end_of index.slots) ++ rs) (sym (append-nil frame.rows));
}

-- what is checked of a frame that is appended to a base
pub record MayAppend (base frame : Frame) : Type 0 where
  pub same : schemas_differ base.schema frame.schema ≡ None
  pub order : append_before (last_stamp base.rows) (first_stamp frame.rows) ≡ None
  pub small : frame_too_large (record frame { rows = base.rows ++ frame.rows }) ≡ None

pub append_plan_fits : (h : History) (symbol : Name) (at : ℤ) (v : Version) (index : Index) (frame : Frame) → IsNewest h symbol v index → IsStorable frame → MayAppend v.frame frame
    → FitsPlan h symbol at (record { schema = frame.schema; pieces = appended index.slots frame; change = changes.Appended frame at })
append_plan_fits h symbol at v index frame n f may =
    let same = one_schema v.frame frame n.index_of.storable f may.same in
    record {
      version = version_of (state_of h symbol) at (record frame { rows = v.frame.rows ++ frame.rows });
      makes = ap (λ (o : Option Version). Some (version_of (state_of h symbol) at (on_base (λ old new. old ++ new) o frame))) n.is;
      stamp = refl;
      in_order = tt;
      storable = whole_storable v.frame frame n.index_of.storable f same may.order may.small;
      schema = refl;
      pieces = appended_pieces h symbol v index frame n f same;
    }

-- ---- the library's answers

module _ (st : State) (prune : Bool) (at : ℤ) (frame : Frame) where
  pub append_answers : (v : Version) → base_of st ≡ Some v → MayAppend v.frame frame → append_answer st prune at frame ≡ Ok (committed st prune (changes.Appended frame at))
  append_answers v is may = rw (is, may.same, may.order, may.small) refl

  pub append_alone : base_of st ≡ None → append_answer st prune at frame ≡ Ok (committed st prune (changes.Appended frame at))
  append_alone none = rw none refl

  pub append_differs : (v : Version) (column : ℕ) → base_of st ≡ Some v → schemas_differ v.frame.schema frame.schema ≡ Some column → append_answer st prune at frame ≡ Err (refusals.SchemaDiffers column)
  append_differs v column is e = rw (is, e) refl

  pub append_early : (v : Version) (last first : ℤ) → base_of st ≡ Some v → schemas_differ v.frame.schema frame.schema ≡ None → append_before (last_stamp v.frame.rows) (first_stamp frame.rows) ≡ Some (last, first)
      → append_answer st prune at frame ≡ Err (refusals.AppendBefore last first)
  append_early v last first is same e = rw (is, same, e) refl

  pub append_large : (v : Version) (x : Extent × ℕ) → base_of st ≡ Some v → schemas_differ v.frame.schema frame.schema ≡ None → append_before (last_stamp v.frame.rows) (first_stamp frame.rows) ≡ None
      → frame_too_large (record frame { rows = v.frame.rows ++ frame.rows }) ≡ Some x → append_answer st prune at frame ≡ Err (refuse_large x)
  append_large v x is same order e = rw (is, same, order, e) refl
