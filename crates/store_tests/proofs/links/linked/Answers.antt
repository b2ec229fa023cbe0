use Rattle.std.proofs.Common.{◌≡◌, ◌≤◌, ℤ, [], ◌∷◌, length, refl, ap, sym, subst, inl}
use Rattle.std.proofs.lemmas.List.{append-nil}
use Rattle.frame_core.specs.Frames.{Frame}
use Rattle.frame_core.specs.Limits.{IsStorable}
use Rattle.key_kind.specs.Names.{Name}
use Rattle.bucket_core.specs.declared.event.Change.TheVariants as changes
use Rattle.bucket_core.specs.History.{History, AllByOthers}
use Rattle.store_model.specs.Library.{state_of, new_version, version_of}
use Rattle.frame_write.specs.declared.pieces.LinkPlan.{LinkPlan}
use Rattle.frame_write.specs.declared.pieces.Piece.TheVariants as pieces
use Rattle.frame_write.specs.Links.{FitsPlan, IsInOrder}
use Rattle.frame_write.specs.Pieces.{ArePieces}
use Rattle.frame_write.proofs.MeetLemmas.{later_not_own}
use Rattle.store_tests.proofs.links.linked.Goals as goal

-- a write of a frame in one new piece fits every history
whole_fits : (h : History) (symbol : Name) (at : ℤ) (frame : Frame) (plan : LinkPlan) → IsStorable frame → plan.schema ≡ frame.schema → plan.pieces ≡ pieces.Fresh frame ∷ [] → plan.change ≡ changes.Wrote frame at
    → FitsPlan h symbol at plan
whole_fits h symbol at frame plan storable schema_is pieces_are change_is = record {
  version = version_of (state_of h symbol) at frame;
  makes = ap (new_version (state_of h symbol)) change_is;
  stamp = refl;
  in_order = subst IsInOrder (sym change_is) tt;
  storable = storable;
  schema = schema_is;
  pieces = subst (ArePieces h symbol frame) (sym pieces_are) (record { rows = []; slots = []; base = inl refl; each = ((storable, refl), tt); held = sym (append-nil frame.rows) });
}

pub link_on-requires : goal.link_on-requires
link_on-requires g c =
    let walked = c.in_ok-tip.ensures.tip in
    record {
      linkable = record {
        walked = walked;
        none_own = later_not_own (g.B.Bucket.number c.walk_tip.new.bucket) c.in_ok-symbol.symbol (g.B.Bucket.seen c.args.bucket.now) (g.B.Bucket.seen c.walk_tip.new.bucket) walked.later walked.before (sym walked.split) c.walk_tip.ensures.looks.others c.walk_tip.ensures.looks.is
            (subst (λ n. AllByOthers n c.walk_tip.ensures.looks.others) (sym c.walk_tip.ensures.steady.same_number) c.walk_tip.ensures.looks.by_others) (subst (λ n. length (g.B.Bucket.seen c.args.bucket.now) ≤ n) walked.place c.in_ok-tip.ensures.place.from);
        fits = whole_fits walked.before c.in_ok-symbol.symbol c.args.options.now.at c.in_ok-frame.frame c.in_ok-plan.plan c.in_ok-frame.ensures c.in_ok-plan.ensures.schema c.in_ok-plan.ensures.pieces c.in_ok-plan.ensures.change;
      };
    }
