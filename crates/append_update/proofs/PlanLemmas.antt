-- The plans of what is asked.
use Rattle.std.proofs.Common.{◌≡◌, ℕ, ◌+◌, ◌*◌, ◌<◌, ◌≤◌, ℤ, Bool, true, false, [], ◌∷◌, ◌++◌, length, refl, sym, ap, ◌∙◌, subst, inl, arith, Option, Some, None, Ok, Err, cond, length-append}
use Rattle.std.specs.Prelude.{is_some, nat_lt}
use Rattle.std.specs.List.{list_any}
use Rattle.std.proofs.lemmas.List.{append-nil, append_assoc}
use Rattle.frame_core.specs.declared.refusal.Extent.{Extent}
use Rattle.frame_core.specs.declared.refusal.Extent.TheVariants as extents
use Rattle.frame_core.specs.Ranges.{Range, IsRange}
use Rattle.frame_core.specs.Schemas.{schemas_differ}
use Rattle.frame_core.specs.Frames.{Frame, replace_range}
use Rattle.frame_core.specs.Limits.{IsStorable, too_large, frame_too_large}
use Rattle.key_kind.specs.Names.{Name}
use Rattle.bucket_core.specs.declared.event.Change.{Change}
use Rattle.bucket_core.specs.declared.event.Change.TheVariants as changes
use Rattle.bucket_core.specs.History.{History, AllByOthers, history_at}
use Rattle.store_model.specs.Library.{Version, state_of, base_of, version_of, new_version, on_base, is_buried}
use Rattle.version_chain.specs.declared.tip.ChainTip.{ChainTip}
use Rattle.version_chain.specs.Tips.{IsTipOf, IsTipAt}
use Rattle.version_chain.specs.Marking.{own_refers}
use Rattle.reply_model.specs.CommitAnswers.{append_answer, update_answer, update_range, outside}
use Rattle.frame_read.specs.Fetches.{IsTargetIndex}
use Rattle.frame_read.proofs.ChoosingLemmas.{has_reference_told}
use Rattle.frame_write.specs.declared.options.Options.{Options}
use Rattle.frame_write.specs.declared.pieces.LinkPlan.{LinkPlan}
use Rattle.frame_write.specs.declared.pieces.Piece.TheVariants as pieces
use Rattle.frame_write.specs.Pieces.{ArePieces}
use Rattle.frame_write.specs.Links.{IsInOrder, FitsPlan}
use Rattle.frame_write.proofs.MeetLemmas.{none_in_both, others_refer_not}
use Rattle.append_update.specs.declared.base.Base.{Base}
use Rattle.append_update.specs.declared.wish.Wish.{Wish}
use Rattle.append_update.specs.declared.wish.Wish.TheVariants as wishes
use Rattle.append_update.specs.Asking.{answer_to, IsWish, IsPlanOf, IsAlone, why_missing, HasColumnsOf}
use Rattle.append_update.specs.Newest.{IsNewest, IsBaseAt}
use Rattle.append_update.specs.Replacing.{appended}
use Rattle.reply_model.specs.Blocks.{run_cutting}
use Rattle.reply_model.specs.Losses.{FitsBehind}
use Rattle.append_update.specs.Sizes.{text_total}
use Rattle.append_update.proofs.FrameLemmas.{longest, longest-append, within_from, within_to, frame_within, text_total-append}
use Rattle.append_update.proofs.AppendLemmas.{MayAppend, append_plan_fits, append_answers, append_alone}
use Rattle.append_update.proofs.UpdateAnswers.{upsert_alone, update_unreferred, update_unlinked}
use Rattle.append_update.proofs.BaseLemmas.{walked_here}
use Rattle.append_update.proofs.RowSizes.{appended_parts, appended_alone, updated_alone}
use Rattle.append_update.proofs.PartKeys.{appended_keep, appended_alone_keep, updated_alone_keep}
use Rattle.append_update.proofs.ShareLemmas.{appends_over, appends_alone, replaces_alone}

-- ---- how large

-- rows, columns or cells that exceed a limit exceed it, whatever the texts
first_three : {X : Type 0} (a b c d e : Bool) (p q r s t : X) (x : X) → (cond a (Some p) (cond b (Some q) (cond c (Some r) None))) ≡ Some x → (cond a (Some p) (cond b (Some q) (cond c (Some r) (cond d (Some s) (cond e (Some t) None))))) ≡ Some x
first_three true b c d e p q r s t x is = is
first_three false true c d e p q r s t x is = is
first_three false false true d e p q r s t x is = is
first_three false false false d e p q r s t x is = absurd cc

pub large_anyway : (r c o a : ℕ) (x : Extent × ℕ) → too_large r c 0 0 ≡ Some x → too_large r c o a ≡ Some x
large_anyway r c o a x e = first_three (nat_lt 2000000 r) (nat_lt 4096 c) (nat_lt 8000000 (r * c)) (nat_lt 65535 o) (nat_lt 67108864 a) _ _ _ _ _ x e

-- the limits of equal numbers
pub same_limits : (r s m n c d : ℕ) (o : Option (Extent × ℕ)) → r ≡ s → m ≡ n → c ≡ d → o ≡ too_large (r + m) c 0 0 → too_large (s + n) d 0 0 ≡ o
same_limits r s m n c d o rs mn cd is = sym (is ∙ rw (rs, mn, cd) refl)

pub texts_only : (r c o a : ℕ) → r ≤ 2000000 → c ≤ 4096 → r * c ≤ 8000000 → o ≤ 65535 → 67108864 < a → too_large r c o a ≡ Some (extents.TextBytes, 67108864)
texts_only r c o a rs cs cells one all = grind arith

-- ---- behind the base

module _ (base frame : Frame) (b : IsStorable base) (f : IsStorable frame) where
  abbrev whole : Frame
  whole = record frame { rows = base.rows ++ frame.rows }

  one_text : longest (base.rows ++ frame.rows) ≤ 65535
  one_text = omega (arith, longest-append base.rows frame.rows, (frame_within base b.within).one_is, (frame_within frame f.within).one_is)

  pub behind_many : (x : Extent × ℕ) → too_large (length base.rows + length frame.rows) (length frame.schema.columns) 0 0 ≡ Some x → frame_too_large whole ≡ Some x
  behind_many x e =
      ap (λ n. too_large n (length frame.schema.columns) (longest (base.rows ++ frame.rows)) (text_total (base.rows ++ frame.rows))) (length-append base.rows frame.rows)
      ∙ large_anyway (length base.rows + length frame.rows) (length frame.schema.columns) (longest (base.rows ++ frame.rows)) (text_total (base.rows ++ frame.rows)) x e

  module _ (fits : FitsBehind base frame) where
    pub behind_texts : 67108864 < text_total base.rows + text_total frame.rows → frame_too_large whole ≡ Some (extents.TextBytes, 67108864)
    behind_texts many =
        let w = within_from (length base.rows + length frame.rows) (length frame.schema.columns) 0 0 fits.few in
        ap (λ n. too_large n (length frame.schema.columns) (longest (base.rows ++ frame.rows)) (text_total (base.rows ++ frame.rows))) (length-append base.rows frame.rows)
        ∙ texts_only (length base.rows + length frame.rows) (length frame.schema.columns) (longest (base.rows ++ frame.rows)) (text_total (base.rows ++ frame.rows)) w.rows_are w.columns_are w.cells_are one_text
        (omega (arith, many, text_total-append base.rows frame.rows))

    pub behind_fits : text_total base.rows + text_total frame.rows ≤ 67108864 → MayAppend base frame
    behind_fits few =
        let w = within_from (length base.rows + length frame.rows) (length frame.schema.columns) 0 0 fits.few in
        record {
          same = fits.same;
          order = fits.order;
          small = ap (λ n. too_large n (length frame.schema.columns) (longest (base.rows ++ frame.rows)) (text_total (base.rows ++ frame.rows))) (length-append base.rows frame.rows)
              ∙ within_to (length base.rows + length frame.rows) (length frame.schema.columns) (longest (base.rows ++ frame.rows)) (text_total (base.rows ++ frame.rows)) (record {
                rows_are = w.rows_are;
                columns_are = w.columns_are;
                cells_are = w.cells_are;
                one_is = one_text;
                all_are = omega (arith, few, text_total-append base.rows frame.rows);
              });
        }

-- ---- where there is no live version

alone_pieces : (h : History) (symbol : Name) (frame : Frame) → IsStorable frame → ArePieces h symbol frame (pieces.Fresh frame ∷ [])
alone_pieces h symbol frame f = record { rows = []; slots = []; base = inl refl; each = ((f, refl), tt); held = sym (append-nil frame.rows) }

pub alone_fits : (h : History) (symbol : Name) (at : ℤ) (frame : Frame) (c : Change) → new_version (state_of h symbol) c ≡ Some (version_of (state_of h symbol) at frame) → IsInOrder c → IsStorable frame
    → FitsPlan h symbol at (record { schema = frame.schema; pieces = pieces.Fresh frame ∷ []; change = c })
alone_fits h symbol at frame c makes order f = record {
  version = version_of (state_of h symbol) at frame;
  makes = makes;
  stamp = refl;
  in_order = order;
  storable = f;
  schema = refl;
  pieces = alone_pieces h symbol frame f;
}

pub append_alone_is : (h : History) (symbol : Name) (options : Options) (frame : Frame) → IsStorable frame → base_of (state_of h symbol) ≡ None
    → IsPlanOf h symbol options (λ st. append_answer st options.prune options.at frame) (record { schema = frame.schema; pieces = pieces.Fresh frame ∷ []; change = changes.Appended frame options.at })
append_alone_is h symbol options frame f none = record {
  fits = alone_fits h symbol options.at frame (changes.Appended frame options.at) (ap (λ (o : Option Version). Some (version_of (state_of h symbol) options.at (on_base (λ old new. old ++ new) o frame))) none) tt f;
  answered = append_alone (state_of h symbol) options.prune options.at frame none;
  blocks = λ cut small. appended_alone (run_cutting options.cutting) h symbol none frame options.at;
  keys = λ cut small. appended_alone_keep (run_cutting options.cutting) h symbol none frame options.at;
  slots = appends_alone options.cutting h symbol frame none;
}

-- ---- over the base

pub append_over_is : (h : History) (symbol : Name) (options : Options) (v : Version) (base : Base) (frame : Frame) (plan : LinkPlan) → IsNewest h symbol v base.index → IsStorable frame → MayAppend v.frame frame
    → plan ≡ record { schema = frame.schema; pieces = appended base.index.slots frame; change = changes.Appended frame options.at }
    → IsPlanOf h symbol options (λ st. append_answer st options.prune options.at frame) plan
append_over_is h symbol options v base frame plan n f may is =
    subst (IsPlanOf h symbol options (λ st. append_answer st options.prune options.at frame)) (sym is) (record {
      fits = append_plan_fits h symbol options.at v base.index frame n f may;
      answered = append_answers (state_of h symbol) options.prune options.at frame v n.is may;
      blocks = λ cut small. appended_parts (run_cutting options.cutting) h symbol base.index.slots frame options.at n.rows_are;
      keys = λ cut small. appended_keep (run_cutting options.cutting) h symbol base.index.slots frame options.at n.keys_are;
      slots = appends_over options.cutting h symbol v base.index frame n;
    })

-- ---- the base of a walked tip

abbrev pub base_found : (client : ℕ) (old new others : History) (symbol : Name) (prune : Bool) (tip : ChainTip) (base : Base) (at : IsTipAt old symbol prune tip) → list_any (own_refers client symbol) at.later ≡ false → new ≡ others ++ old → AllByOthers client others
    → (v : Version) × IsNewest (history_at old tip.place) symbol v base.index × (base.target.version ≡ v.number) → IsTargetIndex new base.target base.index → base.target.symbol ≡ symbol → base.target.place ≡ tip.place
    → is_buried (state_of (history_at old tip.place) symbol) base.target.version ≡ false → IsBaseAt client new symbol base
base_found client old new others symbol prune tip base at none is by_others found target symbol_is place live =
    let here = walked_here old symbol prune tip at in
    record {
      later = others ++ at.later;
      before = at.before;
      split = is ∙ (ap (λ h. others ++ h) at.split ∙ sym (append_assoc others at.later at.before));
      place = place ∙ at.place;
      none_own = none_in_both (own_refers client symbol) others at.later (others_refer_not client symbol others by_others) none;
      version = found.0;
      newest = subst (λ h. IsNewest h symbol found.0 base.index) here found.1;
      number_is = found.2;
      target = target;
      symbol_is = symbol_is;
      live = subst (λ h. is_buried (state_of h symbol) base.target.version ≡ false) here live;
    }

-- ---- what the index of a base tells

-- the frame has the base's columns
pub columns_fit : (v : Version) (frame : Frame) → schemas_differ v.frame.schema frame.schema ≡ None → HasColumnsOf frame v
columns_fit v frame e = rw e refl

-- ---- the plan of what is asked where there is no live version

none_some : {X : Type 0} (x : X) → None ≡ Some x → ⊥
none_some x e = cc

some_same : {X : Type 0} (x y : X) → Some x ≡ Some y → x ≡ y
some_same x y e = cc

pub inside_range : (range : Range) (frame : Frame) → outside 1 range frame.rows ≡ None → update_range (Some range) frame ≡ Ok range
inside_range range frame e = rw e refl

has_reference_is : (h : History) (symbol : Name) (prune : Bool) (tip : ChainTip) → IsTipOf h symbol prune tip → (state_of h symbol).has_reference ≡ is_some tip.was
has_reference_is h symbol prune tip is = has_reference_told h symbol ∙ ap is_some (sym is.was)

module _ (h : History) (symbol : Name) (prune : Bool) (tip : ChainTip) (walked : IsTipOf h symbol prune tip) (options : Options) (none : base_of (state_of h symbol) ≡ None) where
  -- an update without a live version
  module _ (frame : Frame) (range : Range) (f : IsStorable frame) (order : IsRange range) (inside : outside 1 range frame.rows ≡ None) where
    replaced_alone : (plan : LinkPlan) → Some plan ≡ Some (record { schema = frame.schema; pieces = pieces.Fresh frame ∷ []; change = changes.Updated frame range options.at })
        → IsPlanOf h symbol options (λ st. update_answer st true options.prune options.at (Some range) frame) plan
    replaced_alone plan is = subst (IsPlanOf h symbol options (λ st. update_answer st true options.prune options.at (Some range) frame)) (sym (some_same plan _ is)) (record {
      fits = alone_fits h symbol options.at frame (changes.Updated frame range options.at) (ap (λ (o : Option Version). Some (version_of (state_of h symbol) options.at (on_base (λ old new. replace_range range new old) o frame))) none) order f;
      answered = upsert_alone (state_of h symbol) true options.prune options.at (Some range) frame range (inside_range range frame inside) refl none;
      blocks = λ cut small. updated_alone (run_cutting options.cutting) h symbol none frame range options.at;
      keys = λ cut small. updated_alone_keep (run_cutting options.cutting) h symbol none frame range options.at;
      slots = replaces_alone options.cutting h symbol range frame none;
    })

    missing_alone : update_answer (state_of h symbol) false options.prune options.at (Some range) frame ≡ Err (why_missing (is_some tip.was))
    missing_alone = by (is_some tip.was) (has_reference_is h symbol prune tip walked)
      where
        by : (b : Bool) → (state_of h symbol).has_reference ≡ b → update_answer (state_of h symbol) false options.prune options.at (Some range) frame ≡ Err (why_missing b)
        by true e = update_unlinked (state_of h symbol) false options.prune options.at (Some range) frame range (inside_range range frame inside) refl none e
        by false e = update_unreferred (state_of h symbol) false options.prune options.at (Some range) frame range (inside_range range frame inside) refl none e

  clear_missing : (range : Range) → answer_to (wishes.Clear range) options.prune options.at (state_of h symbol) ≡ Err (why_missing (is_some tip.was))
  clear_missing range = by (is_some tip.was) (has_reference_is h symbol prune tip walked)
    where
      by : (b : Bool) → (state_of h symbol).has_reference ≡ b → answer_to (wishes.Clear range) options.prune options.at (state_of h symbol) ≡ Err (why_missing b)
      by true e = rw (e, none) refl
      by false e = rw e refl

  -- the plan makes what is asked
  pub alone_plan : (wish : Wish) (plan : LinkPlan) → IsWish wish → IsAlone wish options.at (Some plan) → IsPlanOf h symbol options (answer_to wish options.prune options.at) plan
  alone_plan (wishes.Append frame) plan f is = subst (IsPlanOf h symbol options (λ st. append_answer st options.prune options.at frame.now)) (sym (some_same plan _ is)) (append_alone_is h symbol options frame.now f none)
  alone_plan (wishes.Replace frame range true) plan f is = replaced_alone frame.now range f.0 f.1 f.2 plan is
  alone_plan (wishes.Replace frame range false) plan f is = absurd (none_some plan (sym is))
  alone_plan (wishes.Clear range) plan f is = absurd (none_some plan (sym is))

  -- where there is none the library refuses
  pub alone_refused : (wish : Wish) → IsWish wish → IsAlone wish options.at None → answer_to wish options.prune options.at (state_of h symbol) ≡ Err (why_missing (is_some tip.was))
  alone_refused (wishes.Append frame) f is = absurd (none_some _ is)
  alone_refused (wishes.Replace frame range true) f is = absurd (none_some _ is)
  alone_refused (wishes.Replace frame range false) f is = missing_alone frame.now range f.0 f.1 f.2
  alone_refused (wishes.Clear range) f is = clear_missing range
