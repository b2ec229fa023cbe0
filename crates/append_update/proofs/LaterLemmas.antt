-- A base that was found, after more looks.
use Rattle.std.proofs.Common.{◌≡◌, ℕ, ◌≤◌, ◌++◌, length, sym, ap, ◌∙◌, subst, inl, inr, arith, Some, Result, Ok, Err, false}
use Rattle.std.specs.Prelude.{Contains, IfErr}
use Rattle.std.specs.List.{list_any}
use Rattle.std.proofs.lemmas.List.{append_assoc}
use Rattle.frame_core.specs.declared.refusal.Refused.{Refused}
use Rattle.key_kind.specs.Names.{Name}
use Rattle.bucket_core.specs.History.{History, AllByOthers, stored, history_at}
use Rattle.version_chain.specs.Marking.{own_refers}
use Rattle.store_model.specs.Library.{Version, state_of, base_of}
use Rattle.store_model.specs.Links.{links}
use Rattle.reply_model.specs.Losses.{LosesBase}
use Rattle.reply_model.proofs.Later.{history_at_later}
use Rattle.reply_model.proofs.Places.{history_at_end}
use Rattle.frame_read.proofs.LoopLemmas.{index_later}
use Rattle.frame_write.proofs.MeetLemmas.{none_in_both, others_refer_not}
use Rattle.append_update.specs.declared.base.Base.{Base}
use Rattle.append_update.specs.Newest.{IsBaseAt}
use Rattle.append_update.specs.Looking.{RefusesBase}
use Rattle.append_update.proofs.BaseLemmas.{walk_wider}

-- what follows of each refusal
pub if_err : {A E : Type 0} (P Q : E → Type 0) (r : Result A E) → ((e : E) → P e → Q e) → IfErr r P → IfErr r Q
if_err P Q (Ok a) f p = tt
if_err P Q (Err e) f p = f e p

-- it is the same one
abbrev pub base_later : (client client' : ℕ) (old new others : History) (symbol : Name) (base : Base) → client' ≡ client → new ≡ others ++ old → AllByOthers client others → IsBaseAt client old symbol base → IsBaseAt client' new symbol base
base_later client client' old new others symbol base same is by_others b = record {
  later = others ++ b.later;
  before = b.before;
  split = is ∙ (ap (λ h. others ++ h) b.split ∙ sym (append_assoc others b.later b.before));
  place = b.place;
  none_own = subst (λ n. list_any (own_refers n symbol) (others ++ b.later) ≡ false) (sym same) (none_in_both (own_refers client symbol) others b.later (others_refer_not client symbol others by_others) b.none_own);
  version = b.version;
  newest = b.newest;
  number_is = b.number_is;
  target = index_later others old new base.target base.index is b.target;
  symbol_is = b.symbol_is;
  live = b.live;
}

-- a refusal of a later look is one of both
pub base_wider : (client client' : ℕ) (symbol : Name) (Fits : Version → Type 0) (from before mid now : ℕ) (others old between new : History) (refused : Refused) → client' ≡ client → before ≤ mid → between ≡ others ++ old
    → RefusesBase client' symbol Fits from mid now between new refused → RefusesBase client symbol Fits from before now old new refused
base_wider client client' symbol Fits from before mid now others old between new refused same le is r = elim (subst (λ n. RefusesBase n symbol Fits from mid now between new refused) same r) [
  | inl w ↦ inl (walk_wider before mid now others old between new refused le is w)
  | inr m ↦ inr m
]

-- the base that is lost fits, where the one there fits
lost_fits : (h : History) (symbol : Name) (Fits Others : Version → Type 0) (from to : ℕ) → ((v : Version) → base_of (state_of (history_at h from) symbol) ≡ Some v → Fits v → Others v) → LosesBase h symbol Fits from to → LosesBase h symbol Others from to
lost_fits h symbol Fits Others from to fits l = record {
  version = l.version;
  base = l.base;
  place = l.place;
  behind = l.behind;
  before = l.before;
  link = l.link;
  link_is = l.link_is;
  number = l.number;
  key = l.key;
  reached_by = l.reached_by;
  gone = l.gone;
  judged = elim l.judged [ inl is ↦ inl is | inr f ↦ inr (fits l.version l.base f) ];
}

-- so a refusal of a look
pub base_fits : (client : ℕ) (symbol : Name) (Fits Others : Version → Type 0) (from before now : ℕ) (old new : History) (refused : Refused) → ((v : Version) → base_of (state_of (history_at new from) symbol) ≡ Some v → Fits v → Others v)
    → RefusesBase client symbol Fits from before now old new refused → RefusesBase client symbol Others from before now old new refused
base_fits client symbol Fits Others from before now old new refused fits r = elim r [
  | inl w ↦ inl w
  | inr m ↦ inr (record { met = m.met; why = m.why; shown = m.shown; lost = lost_fits new symbol Fits Others from (length new) fits m.lost })
]

-- the base of what was seen before other events
pub base_before : (more later before new : History) (symbol : Name) (v w : Version) → new ≡ more ++ (later ++ before) → base_of (state_of before symbol) ≡ Some v → base_of (state_of (history_at new (length before)) symbol) ≡ Some w → v ≡ w
base_before more later before new symbol v w is e f =
    let there : history_at new (length before) ≡ before =
    ap (λ h. history_at h (length before)) (is ∙ sym (append_assoc more later before)) ∙ (history_at_later before (more ++ later) (length before) (omega arith) ∙ history_at_end before) in
    some_same (sym e ∙ (ap (λ h. base_of (state_of h symbol)) (sym there) ∙ f))
  where
    some_same : {x y : Version} → Some x ≡ Some y → x ≡ y
    some_same e = cc

-- a base that is lost stays so
pub lost_later : (symbol : Name) (Fits : Version → Type 0) (h more : History) (q z : ℕ) → q ≤ length h → z ≤ length h → LosesBase h symbol Fits q z → LosesBase (more ++ h) symbol Fits q z
lost_later symbol Fits h more q z first last l =
    let there : history_at (more ++ h) l.place ≡ history_at h l.place = history_at_later h more l.place (omega (arith, l.before, last)) in
    record {
      version = l.version;
      base = ap (λ g. base_of (state_of g symbol)) (history_at_later h more q first) ∙ l.base;
      place = l.place;
      behind = l.behind;
      before = l.before;
      link = l.link;
      link_is = subst (λ g. Contains (links g symbol) l.link) (sym there) l.link_is;
      number = l.number;
      key = l.key;
      reached_by = l.reached_by;
      gone = ap (λ g. stored g l.key) there ∙ l.gone;
      judged = l.judged;
    }
