-- The library answers an update as the checks do, and the plan makes its version.
use Rattle.std.proofs.Common.{◌≡◌, ℕ, ℤ, Bool, true, false, refl, ap, Option, Some, None, Ok, Err}
use Rattle.std.specs.List.{AllByRecursion}
use Rattle.frame_core.specs.declared.refusal.Refusal.TheVariants as refusals
use Rattle.frame_core.specs.declared.refusal.Asked.TheVariants as asks
use Rattle.frame_core.specs.declared.refusal.Extent.{Extent}
use Rattle.frame_core.specs.Ranges.{Range, IsRange, is_within}
use Rattle.frame_core.specs.Schemas.{schemas_differ}
use Rattle.frame_core.specs.Frames.{Row, Frame, replace_range}
use Rattle.frame_core.specs.Limits.{IsStorable, frame_too_large, refuse_large}
use Rattle.index_tree.specs.declared.index.Index.{Index}
use Rattle.key_kind.specs.Names.{Name}
use Rattle.bucket_core.specs.declared.event.Change.TheVariants as changes
use Rattle.bucket_core.specs.History.{History}
use Rattle.store_model.specs.Library.{State, Version, state_of, base_of, on_base, version_of}
use Rattle.reply_model.specs.Answering.{committed}
use Rattle.reply_model.specs.CommitAnswers.{update_range, update_answer}
use Rattle.frame_write.specs.Links.{FitsPlan}
use Rattle.append_update.specs.declared.cuts.Cuts.{Cuts}
use Rattle.append_update.specs.declared.pieces.Edges.{Edges}
use Rattle.append_update.specs.Bases.{Divides}
use Rattle.append_update.specs.Newest.{IsNewest}
use Rattle.append_update.specs.Replacing.{replaced, AreEdges}
use Rattle.append_update.proofs.AppendLemmas.{one_schema}
use Rattle.append_update.proofs.UpdateLemmas.{replaced_storable}
use Rattle.append_update.proofs.UpdatePlans.{replaced_pieces}

-- what is checked of a frame whose rows replace a base's in a range
pub record MayReplace (range : Range) (base frame : Frame) : Type 0 where
  pub order : IsRange range
  pub within : AllByRecursion (λ (r : Row). is_within range r.stamp ≡ true) frame.rows
  pub same : schemas_differ base.schema frame.schema ≡ None
  pub small : frame_too_large (record frame { rows = replace_range range frame.rows base.rows }) ≡ None

pub update_plan_fits : (h : History) (symbol : Name) (at : ℤ) (v : Version) (index : Index) (range : Range) (cuts : Cuts) (edges : Edges) (frame : Frame) → IsNewest h symbol v index → Divides range index.slots cuts
    → AreEdges v.frame range index.slots cuts edges → IsStorable frame → MayReplace range v.frame frame
    → FitsPlan h symbol at (record { schema = frame.schema; pieces = replaced index.slots cuts edges frame; change = changes.Updated frame range at })
update_plan_fits h symbol at v index range cuts edges frame n divides are f may =
    let same = one_schema v.frame frame n.index_of.storable f may.same in
    record {
      version = version_of (state_of h symbol) at (record frame { rows = replace_range range frame.rows v.frame.rows });
      makes = ap (λ (o : Option Version). Some (version_of (state_of h symbol) at (on_base (λ old new. replace_range range new old) o frame))) n.is;
      stamp = refl;
      in_order = may.order;
      storable = replaced_storable range v.frame frame may.order n.index_of.storable f same may.within may.small;
      schema = refl;
      pieces = replaced_pieces h symbol v index range cuts edges frame n divides are f same;
    }

-- ---- the library's answers, where the range of the update is known

module _ (st : State) (upsert prune : Bool) (at : ℤ) (asked : Option Range) (frame : Frame) (range : Range) (range_is : update_range asked frame ≡ Ok range) where
  pub update_answers : (v : Version) → base_of st ≡ Some v → MayReplace range v.frame frame → update_answer st upsert prune at asked frame ≡ Ok (committed st prune (changes.Updated frame range at))
  update_answers v is may = rw (range_is, is, may.same, may.small) refl

  pub update_differs : (v : Version) (column : ℕ) → base_of st ≡ Some v → schemas_differ v.frame.schema frame.schema ≡ Some column → update_answer st upsert prune at asked frame ≡ Err (refusals.SchemaDiffers column)
  update_differs v column is e = rw (range_is, is, e) refl

  pub update_large : (v : Version) (x : Extent × ℕ) → base_of st ≡ Some v → schemas_differ v.frame.schema frame.schema ≡ None → frame_too_large (record frame { rows = replace_range range frame.rows v.frame.rows }) ≡ Some x
      → update_answer st upsert prune at asked frame ≡ Err (refuse_large x)
  update_large v x is same e = rw (range_is, is, same, e) refl

  pub upsert_alone : upsert ≡ true → base_of st ≡ None → update_answer st upsert prune at asked frame ≡ Ok (committed st prune (changes.Updated frame range at))
  upsert_alone on none = rw (range_is, none, on) refl

  pub update_unreferred : upsert ≡ false → base_of st ≡ None → st.has_reference ≡ false → update_answer st upsert prune at asked frame ≡ Err refusals.NoSuchSymbol
  update_unreferred off none e = rw (range_is, none, off, e) refl

  pub update_unlinked : upsert ≡ false → base_of st ≡ None → st.has_reference ≡ true → update_answer st upsert prune at asked frame ≡ Err (refusals.NoSuchVersion (asks.Back 1))
  update_unlinked off none e = rw (range_is, none, off, e) refl
