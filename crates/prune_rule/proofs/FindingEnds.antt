-- How the tries of a reclaim end.
use Rattle.std.proofs.Common.{◌≡◌, ℕ, ◌≤◌, Bool, true, false, ◌++◌, length, refl, ap, sym, ◌∙◌, subst, inr, arith}
use Rattle.std.specs.Prelude.{is_some, Contains}
use Rattle.frame_core.specs.declared.refusal.Refusal.{Refusal}
use Rattle.frame_core.specs.declared.refusal.Refusal.TheVariants as refusals
use Rattle.frame_core.specs.declared.refusal.Refused.{Refused}
use Rattle.key_kind.specs.Names.{Name}
use Rattle.bucket_core.specs.History.{History, history_at, stored, referred_at}
use Rattle.bucket_core.specs.Laws.{Looks}
use Rattle.store_model.specs.Law.{IsClaimed}
use Rattle.store_model.specs.Links.{links, is_needed}
use Rattle.reply_model.specs.Losses.{LosesIndex}
use Rattle.reply_model.specs.Moves.{IsMetTry}
use Rattle.reply_model.proofs.Later.{history_at_later}
use Rattle.reply_model.proofs.Places.{history_at_end}
use Rattle.version_chain.proofs.TraceLemmas.{went_looks}
use Rattle.prune_rule.proofs.WindowLemmas.{own_in_window}
use Rattle.store_model.specs.Library.{state_of}
use Rattle.version_chain.specs.declared.state.SymbolState.{SymbolState}
use Rattle.version_chain.specs.States.{IsStateAt, IsWithin, IsLookRefusal, RefusesWalk}
use Rattle.version_chain.specs.Marking.{IsMet}
use Rattle.version_chain.proofs.SteadyLemmas.{rose_sooner}
use Rattle.version_chain.proofs.Walked.{looks_length}
use Rattle.prune_rule.specs.declared.finding.Dead.{Dead}
use Rattle.prune_rule.specs.DeadKeys.{FoundDead}
use Rattle.prune_rule.specs.Finding.{IsFindRefusal, RefusesFinding, MetAll, MetLooks, LooksLost}
use Rattle.frame_read.proofs.ChoosingLemmas.{has_reference_told}
use Rattle.prune_rule.proofs.LegalReclaims.{at_beginning}
use Rattle.prune_rule.proofs.ReachLemmas.{MetSoFar}

-- what one try found, all tries found
pub found_sooner : (client : ℕ) (sole : Bool) (symbol : Name) (count : ℕ) (old cur new : History) (dead : Dead) → MetSoFar client sole symbol count old cur → FoundDead cur new symbol dead → FoundDead old new symbol dead
found_sooner client sole symbol count old cur new dead s f = record {
  later = f.later;
  before = f.before;
  split = f.split;
  place = f.place;
  from = omega (arith, f.from, looks_length client sole old cur s.looks);
  referred = f.referred;
  each = f.each;
  no_index = f.no_index;
  no_tile = f.no_tile;
  no_piece = f.no_piece;
}

-- a refusal of a walk is one of a try
walk_cases : (before mid now : ℕ) (h : History) (symbol : Name) (why : Refusal) → before ≤ mid → IsLookRefusal mid now why → IsFindRefusal before now h symbol why
walk_cases before mid now h symbol refusals.NoMemory le r = tt
walk_cases before mid now h symbol refusals.StoreFault le r = rose_sooner before mid now le r
walk_cases before mid now h symbol why le r = absurd r

pub walk_finds : (before mid now : ℕ) (old cur new : History) (symbol : Name) (refused : Refused) → before ≤ mid → length old ≤ length cur → RefusesWalk mid now cur new refused → RefusesFinding before now old new symbol refused
walk_finds before mid now old cur new symbol refused le long r = record {
  place = record { from = omega (arith, long, r.place.from); to = r.place.to };
  why = walk_cases before mid now (history_at new refused.place) symbol refused.why le r.why;
}

-- the same behind looks before
find_cases : (before mid now : ℕ) (h : History) (symbol : Name) (why : Refusal) → before ≤ mid → IsFindRefusal mid now h symbol why → IsFindRefusal before now h symbol why
find_cases before mid now h symbol refusals.NoMemory le r = tt
find_cases before mid now h symbol refusals.StoreFault le r = rose_sooner before mid now le r
find_cases before mid now h symbol refusals.NoSuchSymbol le r = r
find_cases before mid now h symbol why le r = absurd r

pub refused_sooner : (before mid now : ℕ) (old cur new : History) (symbol : Name) (refused : Refused) → before ≤ mid → length old ≤ length cur → RefusesFinding mid now cur new symbol refused → RefusesFinding before now old new symbol refused
refused_sooner before mid now old cur new symbol refused le long r = record {
  place = record { from = omega (arith, long, r.place.from); to = r.place.to };
  why = find_cases before mid now (history_at new refused.place) symbol refused.why le r.why;
}

-- want of memory at a place of the tries
pub want_finds : (before now : ℕ) (old new : History) (symbol : Name) (place : ℕ) (refused : Refused) → place ≡ length new → length old ≤ length new → refused ≡ record { place = place; why = refusals.NoMemory } → RefusesFinding before now old new symbol refused
want_finds before now old new symbol place refused at long is = subst (RefusesFinding before now old new symbol) (sym is) (record { place = record { from = omega (arith, at, long); to = omega (arith, at) }; why = tt })

-- the symbol has no reference at the place of a walk
pub unknown_of : (before now : ℕ) (old new : History) (symbol : Name) (state : SymbolState) (at : IsStateAt new symbol state) → IsWithin old new state.place → is_some state.was ≡ false
    → RefusesFinding before now old new symbol (record { place = state.place; why = refusals.NoSuchSymbol })
unknown_of before now old new symbol state at w none = record {
  place = w;
  why = ap (λ g. (state_of g symbol).has_reference) (at_beginning new at.later at.before state.place at.split at.place) ∙ (has_reference_told at.before symbol ∙ (ap is_some (sym at.is.was) ∙ none));
}

-- all tries were met
pub all_met_at : (client : ℕ) (sole : Bool) (symbol : Name) (count tries : ℕ) (old cur : History) (place : ℕ) → MetSoFar client sole symbol count old cur → tries ≤ count → IsMet client symbol (length old) cur place → MetLooks client symbol tries old cur place
    → MetAll client sole symbol tries old cur (record { place = place; why = refusals.Moved place })
all_met_at client sole symbol count tries old cur place s enough m each = record { looks = s.looks; enough = omega (arith, enough, s.enough); each = each; why = refl; met = m }

-- an index that is lost stays so
pub lost_later : (symbol : Name) (h more : History) (q z : ℕ) → q ≤ length h → z ≤ length h → LosesIndex h symbol q z → LosesIndex (more ++ h) symbol q z
lost_later symbol h more q z first last l = record {
  link = l.link;
  link_is = subst (λ g. Contains (links g symbol) l.link) (sym (history_at_later h more q first)) l.link_is;
  needed = ap (λ g. is_needed (state_of g symbol) l.link) (history_at_later h more q first) ∙ l.needed;
  place = l.place;
  behind = l.behind;
  before = l.before;
  gone = ap (λ g. stored g l.link.row.index) (history_at_later h more l.place (omega (arith, l.before, last))) ∙ l.gone;
}

-- a try that was met, as the reader of the history sees it
pub look_seen : (client : ℕ) (sole : Bool) (symbol : Name) (old new : History) (place : ℕ) → Looks IsClaimed client sole old new → LooksLost symbol old new place
    → IsMetTry new client symbol false (λ q. ⊥) (LosesIndex new symbol) (length old) (length new) place
look_seen client sole symbol old new place looks l =
    let w = went_looks client sole old new looks in
    record {
      look = l.look;
      showed = length new;
      begins = l.begins;
      between = l.between;
      shown = ap (λ h. referred_at h symbol) (history_at_end new) ∙ l.shown;
      ends = omega arith;
      own = inr (own_in_window client old new w.more true w.is ∙ w.own_are, l.lost);
    }
