-- What is not legal: for each kind of cheating a small reply or history, and that it is refused.
use Rattle.byte_fields.specs.Reading.{signed_text}
use Rattle.std.proofs.Common.{◌≡◌, ◌<◌, ℕ, ◌≤◌, zero, suc, pos, Bool, true, false, List, [], ◌∷◌, ◌++◌, map, length, Some, None, Err, refl, sym, ◌∙◌, ap, subst, inl, inr, arith, lit≤, lit<}
use Rattle.std.specs.Prelude.{◌||◌, Option, is_some, MatchBool, Any, count_by}
use Rattle.std.specs.List.{list_any, flat_map, AllByRecursion}
use Rattle.std.proofs.lemmas.Bool.{true≢false}
use Rattle.frame_core.specs.Ranges.{Range, IsRange}
use Rattle.frame_core.specs.Schemas.{IsColName}
use Rattle.frame_core.specs.declared.refusal.Asked.TheVariants as asks
use Rattle.frame_core.specs.declared.refusal.Refusal.TheVariants as refusals
use Rattle.bucket_core.specs.declared.event.Event.{Event}
use Rattle.bucket_core.specs.declared.event.Event.TheVariants as events
use Rattle.bucket_core.specs.declared.event.Change.{Change}
use Rattle.bucket_core.specs.declared.event.Change.TheVariants as changes
use Rattle.bucket_core.specs.History.{History, Bytes, stored}
use Rattle.key_kind.specs.Names.{Name, same_name}
use Rattle.store_model.proofs.Lists.{all_weaker}
use Rattle.key_kind.specs.declared.key.Key.{Key}
use Rattle.key_kind.specs.declared.key.KeyKind.TheVariants as kinds
use Rattle.key_kind.specs.KeyText.{key_at, key_text}
use Rattle.model_examples.proofs.SmallFrames.{S, k, frame}
use Rattle.model_examples.proofs.WorkedHistories.{key, commit, snap, holder, after_snapshot}
use Rattle.model_examples.proofs.Witness as w
use Rattle.model_examples.proofs.WitnessKept as kept
use Rattle.model_examples.proofs.HonestSnapshots.{index_drops}
use Rattle.store_model.specs.ChainText.{entry_of, snap_of, snap_text}
use Rattle.store_model.specs.Law.{MayPut}
use Rattle.expr_clause.specs.declared.command.AsOf.TheVariants as moments
use Rattle.expr_clause.specs.declared.command.Pick.{Pick}
use Rattle.expr_clause.specs.declared.command.Command.TheVariants as commands
use Rattle.reply_model.specs.declared.outcome.Outcome.{Outcome}
use Rattle.reply_model.specs.declared.outcome.Outcome.TheVariants as outcomes
use Rattle.reply_model.specs.declared.reply.Reply.{Reply}
use Rattle.reply_model.specs.Answering.{Session, Answer}
use Rattle.reply_model.specs.Windows.{Window, Client, own_events}
use Rattle.reply_model.specs.Tries.{put_of, drop_of, IsRefused, IsAccepted, IsTry, Before, of_mark, of_version, index_linked, IsTurn, Turn, AreTurns, is_asked}
use Rattle.reply_model.specs.OwnEvents.{AnyMarks, IsHold, IsMeantAt}
use Rattle.reply_model.specs.Legal.{IsLegalReply, LegalFrom, Legal}
use Rattle.reply_model.proofs.Harmless.{tries_harm_nothing}
use Rattle.reply_model.specs.Runs.{Talk, AllCovered, Covers}

abbrev plain : Session
plain = record { frames = []; moment = pos 7; tries = 1; client = 1 }

abbrev client : Client
client = record { session = plain; limit = 1000 }

abbrev everything : Range
everything = record { from = None; to = None }

abbrev window : ℕ → ℕ → Window
window start stop = record { start = start; stop = stop; faulted = false }

abbrev reply : ℕ → List ℕ → Outcome → Reply
reply place commits outcome = record { place = place; listed = None; commits = commits; left = []; outcome = outcome }

-- ---- events that are no Refer, and events that are no Drop

abbrev is_refer : Event → Bool
is_refer (events.Refer c s was entry list) = true
is_refer e = false

abbrev is_drop : Event → Bool
is_drop (events.Drop c x) = true
is_drop e = false

none_of_both : (p : Event → Bool) (xs ys : List Event) → list_any p xs ≡ false → list_any p ys ≡ false → list_any p (xs ++ ys) ≡ false
none_of_both p [] ys e f = f
none_of_both p (x ∷ xs) ys e f =
    elim (p x) as (λ b. (b || list_any p xs) ≡ false → (b || list_any p (xs ++ ys)) ≡ false) [
      | true ↦ λ d. d
      | false ↦ λ d. none_of_both p xs ys d f
    ] e

any_of_first : (p : Event → Bool) (xs ys : List Event) → list_any p xs ≡ true → list_any p (xs ++ ys) ≡ true
any_of_first p [] ys e = absurd cc
any_of_first p (x ∷ xs) ys e =
    elim (p x) as (λ b. (b || list_any p xs) ≡ true → (b || list_any p (xs ++ ys)) ≡ true) [
      | true ↦ λ d. refl
      | false ↦ λ d. any_of_first p xs ys d
    ] e

puts_refer_nothing : (c : ℕ) (ps : List (Key × Bytes)) → list_any is_refer (map (put_of c) ps) ≡ false
puts_refer_nothing c [] = refl
puts_refer_nothing c (p ∷ ps) = puts_refer_nothing c ps

drops_refer_nothing : (c : ℕ) (ps : List (Key × Bytes)) → list_any is_refer (map (drop_of c) ps) ≡ false
drops_refer_nothing c [] = refl
drops_refer_nothing c (p ∷ ps) = drops_refer_nothing c ps

puts_drop_nothing : (c : ℕ) (ps : List (Key × Bytes)) → list_any is_drop (map (put_of c) ps) ≡ false
puts_drop_nothing c [] = refl
puts_drop_nothing c (p ∷ ps) = puts_drop_nothing c ps

tries_refer_nothing : (c : ℕ) (s : Name) (makes : Bool) (ts : List (List Event)) → AllByRecursion (IsRefused c s makes) ts → list_any is_refer (flat_map (λ t. t) ts) ≡ false
tries_refer_nothing c s makes [] a = refl
tries_refer_nothing c s makes (t ∷ ts) a = none_of_both is_refer t (flat_map (λ u. u) ts)
    (ap (list_any is_refer) a.0.3 ∙ none_of_both is_refer (map (put_of c) a.0.0) (map (drop_of c) a.0.0) (puts_refer_nothing c a.0.0) (drops_refer_nothing c a.0.0))
    (tries_refer_nothing c s makes ts a.1)

-- a turn that is not done has no Refer
pub undone_turns_refer_nothing : {told : Bool} (h : History) (s : Session) (w : Window) (symbol : Name) (makes : Bool) (es : List Event) → IsTurn h s w symbol makes false told AnyMarks es → list_any is_refer es ≡ false
undone_turns_refer_nothing h s w symbol makes es t = ap (list_any is_refer) t.is ∙ none_of_both is_refer (flat_map (λ u. u) t.tries) t.last
    (tries_refer_nothing s.client symbol makes t.tries t.refused) (ap (list_any is_refer) t.ends)

-- ---- commits

abbrev tile_key : Key
tile_key = key kinds.TableData 1 0

abbrev three_puts : History
three_puts = events.Put 1 (key kinds.Version 1 2) [] ∷ events.Put 1 (key kinds.TableIndex 1 1) [] ∷ events.Put 1 tile_key [] ∷ []

abbrev stealth : History
stealth = commit 1 2 (changes.Wrote (frame ((1, 100) ∷ [])) (pos 7) ∷ []) ∷ three_puts

-- a delete that writes a version and answers that there is no such symbol
pub no_commit_of_a_refused_command : IsLegalReply stealth client (commands.Delete S None) (reply 0 (4 ∷ []) (outcomes.Refused refusals.NoSuchSymbol)) (window 0 4) → ⊥
no_commit_of_a_refused_command l = true≢false (undone_turns_refer_nothing _ plain (window 0 4) S false _ l.1.own.events)

abbrev two_writes : History
two_writes = commit 1 0 (changes.Wrote (frame ((2, 2) ∷ [])) (pos 7) ∷ []) ∷ events.Put 1 (key kinds.Version 1 0) [] ∷ commit 2 2 (changes.Wrote (frame ((1, 1) ∷ [])) (pos 7) ∷ []) ∷ []

-- the changes of an answer
abbrev changes_of : Option Answer → List Change
changes_of None = []
changes_of (Some a) = a.marks

-- a prune that found nothing to bury, and wrote a version
pub no_commit_of_a_prune_of_nothing : IsLegalReply two_writes client (commands.Prune S) (reply 1 (3 ∷ []) (outcomes.Pruned 0)) (window 1 3) → ⊥
no_commit_of_a_prune_of_nothing l = elim l.1.outcome [
  | inl a ↦ no_places a.1
  | inr a ↦ no_changes a.0 a.1 (ap changes_of a.3)
]
  where
    no_places : {n : ℕ} → ◌≡◌ {A = List ℕ} (n ∷ []) [] → ⊥
    no_places e = absurd cc

    no_changes : (c : Change) (cs : List Change) → ◌≡◌ {A = List Change} [] (c ∷ cs) → ⊥
    no_changes c cs e = absurd cc

-- a write that commits and answers NoMemory
pub no_commit_behind_no_memory : IsLegalReply stealth client (commands.Write S 0 None false) (reply 4 (4 ∷ []) (outcomes.Refused refusals.NoMemory)) (window 0 4) → ⊥
no_commit_behind_no_memory l = true≢false (l.1.own.short refl refl)

-- a write whose keys are dropped after a refer that failed, with nobody else there
abbrev dropped : History
dropped = events.Drop 1 (key kinds.Version 1 2) ∷ events.Drop 1 (key kinds.TableIndex 1 1) ∷ events.Drop 1 tile_key ∷ three_puts

-- an accepted try drops nothing
accepted_drops_nothing : (c : ℕ) (symbol : Name) (makes : Bool) (es : List Event) → IsAccepted c symbol makes AnyMarks es → list_any is_drop es ≡ false
accepted_drops_nothing c symbol makes es a = ap (list_any is_drop) a.6 ∙ none_of_both is_drop (map (put_of c) a.0) _ (puts_drop_nothing c a.0) refl

-- a turn without refused tries drops nothing
turn_drops_nothing : (tries : List (List Event)) (last es : List Event) (symbol : Name) (makes done : Bool) → length tries ≤ 0 → es ≡ flat_map (λ t. t) tries ++ last
    → MatchBool done (IsAccepted 1 symbol makes AnyMarks last) (last ≡ []) → list_any is_drop es ≡ false
turn_drops_nothing (t ∷ tries) last es symbol makes done none is ends = absurd (omega (arith, none))
turn_drops_nothing [] last es symbol makes true none is ends = ap (list_any is_drop) is ∙ accepted_drops_nothing 1 symbol makes last ends
turn_drops_nothing [] last es symbol makes false none is ends = ap (list_any is_drop) is ∙ ap (list_any is_drop) ends

-- drops after a fault are no refused try
pub no_drops_after_a_fault : IsLegalReply dropped client (commands.Write S 0 None false) (reply 3 [] (outcomes.Refused refusals.StoreFault)) (record { start = 0; stop = 6; faulted = true }) → ⊥
no_drops_after_a_fault l = elim l.1.own.events [
  | inl b ↦ true≢false (sym (any_of_first is_drop own b.more refl) ∙ turn_drops_nothing b.whole.tries b.whole.last (own ++ b.more) S true true b.whole.met b.whole.is b.whole.ends)
  | inr b ↦ true≢false (sym (any_of_first is_drop own b.more refl) ∙ turn_drops_nothing b.whole.tries b.whole.last (own ++ b.more) S true false b.whole.met b.whole.is b.whole.ends)
]
  where
    own : List Event
    own = own_events dropped 1 (record { start = 0; stop = 6; faulted = true })

-- one try, and it met another's commit: a client that may make one has none left to walk again
abbrev one_refused : History
one_refused = events.Drop 1 (key kinds.Version 1 0) ∷ commit 2 0 (changes.Wrote (frame ((1, 1) ∷ [])) (pos 7) ∷ []) ∷ events.Put 1 (key kinds.Version 1 0) [] ∷ []

-- so it can't tell that the version is none of the symbol
pub no_answer_behind_the_last_try : IsLegalReply one_refused client (commands.Delete S (Some (5 ∷ []))) (reply 3 [] (outcomes.Refused (refusals.NoSuchVersion (asks.Number 5)))) (window 0 3) → ⊥
no_answer_behind_the_last_try l =
    let t = l.1.own.events in
    let none : length t.tries ≤ 0 = omega (arith, t.few) in
    true≢false (turn_drops_nothing t.tries t.last (own_events one_refused 1 (window 0 3)) S false false none t.is t.ends)

-- a refused try of a staged piece
pub no_try_of_a_piece : IsRefused 1 S true (events.Put 1 (key kinds.Staged 1 0) [] ∷ events.Drop 1 (key kinds.Staged 1 0) ∷ []) → ⊥
no_try_of_a_piece t = true≢false (tries_harm_nothing 1 S true ((events.Put 1 (key kinds.Staged 1 0) [] ∷ events.Drop 1 (key kinds.Staged 1 0) ∷ []) ∷ []) (t, tt))

-- a turn has at most one Refer: a command of one symbol commits at most once
pub a_turn_commits_once : {told : Bool} (h : History) (s : Session) (w : Window) (symbol : Name) (makes done : Bool) (es : List Event) → IsTurn h s w symbol makes done told AnyMarks es → count_by is_refer es ≤ 1
a_turn_commits_once h s w symbol makes done es t = subst (λ n. n ≤ 1) (sym (ap (count_by is_refer) t.is ∙ none_counted (flat_map (λ u. u) t.tries) t.last (tries_refer_nothing s.client symbol makes t.tries t.refused))) (last_once done t.last t.ends)
  where
    none_counted : (xs ys : List Event) → list_any is_refer xs ≡ false → count_by is_refer (xs ++ ys) ≡ count_by is_refer ys
    none_counted [] ys e = refl
    none_counted (events.Put c x body ∷ xs) ys e = none_counted xs ys e
    none_counted (events.Name c x body ∷ xs) ys e = none_counted xs ys e
    none_counted (events.Unname c x ∷ xs) ys e = none_counted xs ys e
    none_counted (events.Drop c x ∷ xs) ys e = none_counted xs ys e
    none_counted (events.Refer c x was entry list ∷ xs) ys e = absurd (true≢false e)

    last_once : (d : Bool) (last : List Event) → MatchBool d (IsAccepted s.client symbol makes AnyMarks last) (last ≡ []) → count_by is_refer last ≤ 1
    last_once false last e = subst (λ (l : List Event). count_by is_refer l ≤ 1) (sym e) (lit≤ tt)
    last_once true last a = subst (λ n. n ≤ 1) (sym (ap (count_by is_refer) a.6 ∙ none_counted (map (put_of s.client) a.0) _ (puts_refer_nothing s.client a.0))) (lit≤ tt)

-- a try that makes no version puts its element alone
pub no_tile_of_a_mark : (symbol : Name) (puts : List (Key × Bytes)) (entry : Key) → IsTry symbol false puts entry → (body : Bytes) × (puts ≡ (entry, body) ∷ [])
no_tile_of_a_mark symbol puts entry t = (t.body, t.is ∙ ap (λ (f : List (Key × Bytes)). f ++ (entry, t.body) ∷ []) (nothing (index_linked t.element.changes) t.first t.before t.of_kind))
  where
    nothing : (o : Option Key) (first : List (Key × Bytes)) → Before symbol o first → is_some o ≡ false → first ≡ []
    nothing None first of_mark e = refl
    nothing (Some of_index) first (of_version tiles own body index is tile_are spelled order) e = absurd (true≢false e)

-- the changes of the event of a place
abbrev changes_in : Option Event → List Change
changes_in (Some (events.Refer c s was entry list)) = list
changes_in e = []

-- a delete that writes a version, and answers StoreFault
pub no_other_commit_behind_a_fault : IsLegalReply stealth client (commands.Delete S None) (reply 3 [] (outcomes.Refused refusals.StoreFault)) (record { start = 0; stop = 4; faulted = true }) → ⊥
no_other_commit_behind_a_fault l = some_are_not_none (ap changes_of m.answered ∙ sym (ap changes_in m.event.2))
  where
    m : IsMeantAt stealth plain (commands.Delete S None) (reply 3 [] (outcomes.Refused refusals.StoreFault)) 4
    m = l.1.own.meant.0

    some_are_not_none : {c : Change} → ◌≡◌ {A = List Change} [] (c ∷ []) → ⊥
    some_are_not_none e = absurd cc

-- ---- faults, places, lists

-- StoreFault where no fault rose
pub no_fault_without_a_fault : Legal [] client 0 (commands.Delete S None ∷ []) (reply 0 [] (outcomes.Refused refusals.StoreFault) ∷ []) (false ∷ []) → ⊥
no_fault_without_a_fault l = shown l.0 l.1 l.2
  where
    shown : (ws : List Window) → map (λ (w : Window). w.faulted) ws ≡ false ∷ [] → LegalFrom [] client 0 (commands.Delete S None ∷ []) (reply 0 [] (outcomes.Refused refusals.StoreFault) ∷ []) ws → ⊥
    shown [] e l = absurd cc
    shown (w ∷ []) e l = true≢false (sym l.1.1.outcome ∙ first_is w.faulted [] e)
      where
        first_is : (b : Bool) (bs : List Bool) → b ∷ bs ≡ false ∷ [] → b ≡ false
        first_is b bs e = cc
    shown (w ∷ v ∷ ws) e l = absurd l.2

-- a read that answers Moved
pub no_read_is_moved : IsLegalReply (commit 2 0 (changes.Held (holder 2 0) 0 ∷ []) ∷ []) client (commands.Read S (moments.Back 1) everything None []) (reply 1 [] (outcomes.Refused (refusals.Moved 1))) (window 0 1) → ⊥
no_read_is_moved l = true≢false (sym l.1.outcome.1.0)

abbrev discarded : History
discarded = commit 1 1 (changes.Discarded (record { client = 1; serial = 0 } ∷ []) ∷ []) ∷ events.Put 1 (key kinds.Version 1 1) [] ∷ []

-- a discard that does not name its list
pub no_discard_without_its_list : IsLegalReply discarded client (commands.Discard S) (reply 2 (2 ∷ []) (outcomes.Discarded 1)) (window 0 2) → ⊥
no_discard_without_its_list l = true≢false (sym l.1.listed)

-- a snapshot of all symbols that finds none, and names no list
pub no_empty_snapshot_without_its_list : IsLegalReply [] client (commands.Snapshot k []) (reply 0 [] (outcomes.Refused refusals.NoSuchSymbol)) (window 0 0) → ⊥
no_empty_snapshot_without_its_list l = true≢false (sym l.1.listed)

-- a snapshot that finds its name at once, and names a list
pub no_taken_name_with_a_list : IsLegalReply after_snapshot client (commands.Snapshot k []) (record { place = 3; listed = Some 3; commits = []; left = []; outcome = outcomes.Refused refusals.SnapshotExists }) (window 3 3) → ⊥
no_taken_name_with_a_list l = true≢false l.1.listed

-- a write that names a list
pub no_list_of_a_write : IsLegalReply [] client (commands.Write S 0 None false) (record { place = 0; listed = Some 0; commits = []; left = []; outcome = outcomes.Refused refusals.NoMemory }) (window 0 0) → ⊥
no_list_of_a_write l = absurd (no_some 0 l.1.listed)
  where
    no_some : (n : ℕ) → Some n ≡ None → ⊥
    no_some n e = cc

-- a write that answers Moved, or Spent, where nothing came between and the limit is far
pub no_moved_without_a_refer : IsLegalReply [] client (commands.Write S 0 None false) (reply 0 [] (outcomes.Refused (refusals.Moved 0))) (window 0 0) → ⊥
no_moved_without_a_refer l = none_below l.1.outcome.2.inside
  where
    none_below : 0 < 0 → ⊥
    none_below e = omega (arith, e)

pub no_spent_below_the_limit : IsLegalReply [] client (commands.Write S 0 None false) (reply 0 [] (outcomes.Refused (refusals.Spent 0))) (window 0 0) → ⊥
no_spent_below_the_limit l = none_below l.1.outcome.full
  where
    none_below : 1000 ≤ 0 → ⊥
    none_below e = omega (arith, e)

-- a read of a live version that answers that it is gone
pub no_gone_version_that_is_live : IsLegalReply w.written client (commands.Read S (moments.Back 1) everything None []) (reply 4 [] (outcomes.Refused (refusals.VersionGone 0))) (window 4 4) → ⊥
no_gone_version_that_is_live l = true≢false (sym l.1.outcome.buried)

-- a read at a place before its window
pub no_read_before_its_window : IsLegalReply w.written client (commands.Read S (moments.Back 1) everything None []) (reply 0 [] (outcomes.Refused refusals.NoSuchSymbol)) (window 4 4) → ⊥
no_read_before_its_window l = none_below l.1.after
  where
    none_below : 4 ≤ 0 → ⊥
    none_below e = omega (arith, e)

-- a finalize by a list that is older than its window
pub no_list_before_its_window : IsLegalReply w.written client (commands.Finalize S false false None false) (record { place = 4; listed = Some 0; commits = []; left = []; outcome = outcomes.Refused refusals.NoStaged }) (window 4 4) → ⊥
no_list_before_its_window l = none_below l.1.listed_within.0
  where
    none_below : 4 ≤ 0 → ⊥
    none_below e = omega (arith, e)

-- ---- reclaim, snapshots

-- a reclaim that answers that there is no such symbol, and has dropped a key of it
pub no_drops_of_a_refused_reclaim : IsLegalReply (events.Drop 1 (key kinds.Version 1 0) ∷ events.Put 1 (key kinds.Version 1 0) [] ∷ []) client (commands.Reclaim S) (reply 2 [] (outcomes.Refused refusals.NoSuchSymbol)) (window 1 2) → ⊥
no_drops_of_a_refused_reclaim l = absurd (no_events _ _ l.1.own.events)
  where
    no_events : (e : Event) (es : List Event) → e ∷ es ≡ [] → ⊥
    no_events e es is = cc

-- a reclaim that drops nothing where keys are dead
pub no_reclaim_that_keeps_the_dead : IsLegalReply kept.released client (commands.Reclaim S) (reply 12 [] (outcomes.Freed 0 0 0)) (window 12 12) → ⊥
no_reclaim_that_keeps_the_dead l = stands (l.1.outcome.no_index (w.table_key kinds.TableIndex 1) index_drops)
  where
    stands : stored kept.released (w.table_key kinds.TableIndex 1) ≡ None → ⊥
    stands e = true≢false (ap (λ (o : Option Bytes). is_some o) e)

-- a delete_snapshot that took the name away, released nothing, and names nothing as left
pub no_left_that_hides : IsLegalReply (events.Unname 1 k ∷ after_snapshot) client (commands.DeleteSnapshot k) (reply 4 [] (outcomes.Refused refusals.NoMemory)) (window 3 4) → ⊥
unfolding snap_of key_at key_text signed_text
no_left_that_hides l = absurd (no_names S [] l.1.left.left)
  where
    no_names : (n : Name) (ns : List Name) → [] ≡ n ∷ ns → ⊥
    no_names n ns e = cc

-- a snapshot that fails behind its hold, and answers as if it stood before it, so that it names nothing as left
abbrev holding : History
holding = events.Put 1 (key kinds.Version 1 1) [] ∷ commit 1 0 (changes.Held (holder 1 0) 0 ∷ []) ∷ events.Put 1 (key kinds.Version 1 0) [] ∷ commit 2 2 (changes.Wrote (frame ((1, 1) ∷ [])) (pos 7) ∷ []) ∷ []

pub no_fault_before_its_events : IsLegalReply holding client (commands.Snapshot k []) (record { place = 1; listed = Some 1; commits = []; left = []; outcome = outcomes.Refused refusals.StoreFault }) (record { start = 1; stop = 4; faulted = true }) → ⊥
no_fault_before_its_events l = three_are_not_one l.1.own.late
  where
    three_are_not_one : 3 ≤ 1 → ⊥
    three_are_not_one e = omega (arith, e)

abbrev X : Name
X = 88 ∷ []

abbrev x_key : Key
x_key = record { kind = kinds.Version; name = X; client = 1; serial = 1; version = 0; first = pos 0; last = pos 0 }

-- a snapshot of S that buries a version of X on the way
abbrev burying : History
burying = events.Name 1 k (snap_text (snap 1 0)) ∷ events.Refer 1 X None x_key (changes.Removed (0 ∷ []) ∷ []) ∷ events.Put 1 x_key []
    ∷ commit 1 0 (changes.Held (holder 1 0) 0 ∷ []) ∷ events.Put 1 (key kinds.Version 1 0) [] ∷ commit 2 2 (changes.Wrote (frame ((1, 1) ∷ [])) (pos 7) ∷ []) ∷ []

abbrev one_pick : List Pick
one_pick = record { symbol = S; version = None } ∷ []

-- the commits of a snapshot that is kept are its holds
pub no_commit_beside_the_holds : IsLegalReply burying client (commands.Snapshot k one_pick) (reply 6 (3 ∷ 5 ∷ []) (outcomes.Kept (record { symbol = S; version = 0; place = 3 } ∷ []))) (window 1 6) → ⊥
no_commit_beside_the_holds l = two_are_not_one 3 5 l.1.outcome.counted
  where
    two_are_not_one : (a b : ℕ) → a ∷ b ∷ [] ≡ a ∷ [] → ⊥
    two_are_not_one a b e = absurd cc

-- a hold of a symbol that was not asked
pub no_turn_of_an_unasked_symbol : (h : History) (w : Window) (es : List Event) (t : AreTurns h plain w one_pick (IsHold (holder 1 0)) es) → AllByRecursion (λ (u : Turn h plain w (IsHold (holder 1 0))). same_name S u.symbol ≡ true) t.turns
no_turn_of_an_unasked_symbol h w es t = all_weaker (λ (u : Turn h plain w (IsHold (holder 1 0))). is_asked one_pick u.symbol ≡ true) (λ (u : Turn h plain w (IsHold (holder 1 0))). same_name S u.symbol ≡ true) (λ u e. first_or (same_name S u.symbol) e) t.turns t.asked
  where
    first_or : (b : Bool) → (b || false) ≡ true → b ≡ true
    first_or true e = refl
    first_or false e = e

-- ---- events outside all windows

-- no command, no reply, and an event
pub no_event_outside_all_windows : AllCovered (commit 1 0 [] ∷ []) 0 (record { client = client; commands = []; replies = []; windows = [] } ∷ []) → ⊥
no_event_outside_all_windows c = true≢false (sym (the_one (Covers 1 (commit 1 0 [])) talk (c 1 (commit 1 0 []) (lit< tt) (lit≤ tt) refl)).1)
  where
    talk : Talk
    talk = record { client = client; commands = []; replies = []; windows = [] }

    the_one : {X : Type 0} (P : X → Type 0) (x : X) → Any P (x ∷ []) → P x
    the_one P x (zero, y, below, is, p) = subst P (sym is) p
    the_one P x (suc n, y, below, is, p) = absurd (omega (arith, below))

-- ---- values that the store has no place for

-- a range that ends before it begins
pub no_range_backwards : IsRange (record { from = Some (pos 5); to = Some (pos 1) }) → ⊥
no_range_backwards r = omega (arith, r)

-- a column without a name
pub no_column_without_a_name : IsColName [] → ⊥
no_column_without_a_name n = omega (arith, n.some)

-- two keys of one spelling: the one is not put
abbrev wide : Key
wide = record (key kinds.TableData 1 0) { version = 18446744073709551616 }

pub no_wide_key : (body : Bytes) → MayPut [] 1 wide body → ⊥
no_wide_key body m = omega (arith, m.fits.version)

-- ---- offsets

-- an element whose key before has the kind 1: the fault is at the kind, 2 bytes before the end, and not at the name's length behind it
offset_of_a_wrong_kind : entry_of (65 ∷ 86 ∷ 69 ∷ 49 ∷ 1 ∷ 1 ∷ 0 ∷ []) ≡ Err 2
unfolding entry_of key_at key_text signed_text
offset_of_a_wrong_kind = refl

-- a snapshot of B and then A: the fault is at the name A, the last byte
offset_of_a_falling_name : snap_of (65 ∷ 83 ∷ 78 ∷ 49 ∷ 0 ∷ 0 ∷ 0 ∷ 1 ∷ 0 ∷ 0 ∷ 0 ∷ 0 ∷ 0 ∷ 0 ∷ 0 ∷ 0 ∷ 0 ∷ 0 ∷ 0 ∷ 0 ∷ 0 ∷ 0 ∷ 0 ∷ 2
    ∷ ((1 ∷ 66 ∷ 0 ∷ 0 ∷ 0 ∷ 0 ∷ 0 ∷ 0 ∷ 0 ∷ 0 ∷ []) ++ key_text (key kinds.TableIndex 1 1) ++ (1 ∷ 65 ∷ []))) ≡ Err 1
unfolding snap_of key_at key_text signed_text
offset_of_a_falling_name = refl
