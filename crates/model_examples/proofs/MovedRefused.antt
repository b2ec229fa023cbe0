-- What Moved does not excuse: counter-theorems, and small histories in which it is refused.
use Rattle.std.proofs.Common.{◌≡◌, ℕ, ℤ, zero, suc, ◌+◌, ◌-◌, ◌*◌, ◌≤◌, pos, Bool, true, false, List, [], ◌∷◌, ◌++◌, map, length, drop, Option, Some, None, Ok, refl, sym, ◌∙◌, ap, subst, inl, inr, arith, lit≤, length-append}
use Rattle.std.specs.Prelude.{Contains, nat_lt, if◌then◌else◌}
use Rattle.std.specs.List.{list_any, flat_map, AllByRecursion}
use Rattle.std.proofs.lemmas.Bool.{true≢false}
use Rattle.std.proofs.lemmas.List.{length-map}
use Rattle.frame_core.specs.declared.refusal.Refusal.TheVariants as refusals
use Rattle.frame_core.specs.declared.refusal.Extent.{Extent}
use Rattle.frame_core.specs.declared.refusal.Extent.TheVariants as extents
use Rattle.frame_core.specs.Frames.{Frame}
use Rattle.key_kind.specs.declared.key.Key.{Key}
use Rattle.key_kind.specs.Names.{Name, name_before}
use Rattle.key_kind.specs.declared.key.KeyKind.TheVariants as kinds
use Rattle.bucket_core.specs.declared.event.Event.{Event}
use Rattle.bucket_core.specs.declared.event.Event.TheVariants as events
use Rattle.bucket_core.specs.declared.event.Change.TheVariants as changes
use Rattle.bucket_core.specs.History.{History, Bytes, stored, history_at}
use Rattle.store_model.specs.Library.{Version, state_of, base_of}
use Rattle.store_model.specs.Links.{Linked, links}
use Rattle.store_model.specs.Snapshots.{snap_body}
use Rattle.expr_clause.specs.declared.command.Pick.{Pick}
use Rattle.expr_clause.specs.declared.command.Command.{Command}
use Rattle.expr_clause.specs.declared.command.Command.TheVariants as commands
use Rattle.reply_model.specs.declared.outcome.Outcome.TheVariants as outcomes
use Rattle.reply_model.specs.declared.reply.Reply.{Reply}
use Rattle.reply_model.specs.Answering.{frame_of}
use Rattle.reply_model.specs.Windows.{Window, Client, own_events, picked_version, asked_of}
use Rattle.reply_model.specs.Tries.{put_of, drop_of, IsRefused}
use Rattle.reply_model.specs.Moves.{own_between}
use Rattle.reply_model.specs.Losses.{FitsBehind, FindsGone}
use Rattle.reply_model.specs.Causes.{makes_version, MakesAt, IsMoved, refers_from}
use Rattle.reply_model.specs.Legal.{IsLegalReply}
use Rattle.reply_model.proofs.Moves.{tries_longer, own_parts, moved_tries, no_moved_without_a_try, no_moved_where_refused}

-- ---- all own events are those of the tries

module _ (h : History) (client : Client) (c : Command) (reply : Reply) (symbol : Name) (now : ℕ) (w : Window) (never : (q z : ℕ) → FindsGone h client c reply symbol q z → ⊥) (some : 1 ≤ client.session.tries) where
  pub moved_own_events : w.stop ≤ length h → (m : IsMoved h client c reply symbol now w) → own_between h client.session.client w.start m.start ≡ [] → own_between h client.session.client m.stop w.stop ≡ []
      → (tries : List (List Event)) × AllByRecursion (IsRefused client.session.client symbol (makes_version c)) tries × (length tries ≡ client.session.tries) × (own_events h client.session.client w ≡ flat_map (λ t. t) tries)
  moved_own_events le m before behind =
      let t = moved_tries h client c reply symbol now w never some le m in
      let longer = tries_longer client.session.client symbol (makes_version c) h (MakesAt h client c reply symbol) (FindsGone h client c reply symbol) client.session.tries m.start m.stop now m.tries in (
        t.0,
        t.1,
        t.2,
        own_parts h client.session.client w.start m.start w.stop m.from (omega (arith, longer, m.to)) le
            ∙ (both before (own_parts h client.session.client m.start m.stop w.stop longer m.to le ∙ both t.3 behind) ∙ append_none (flat_map (λ t. t) t.0)),
      )
    where
      both : {xs xs2 ys ys2 : List Event} → xs ≡ xs2 → ys ≡ ys2 → xs ++ ys ≡ xs2 ++ ys2
      both e f = λ i. e i ++ f i

      append_none : (xs : List Event) → xs ++ [] ≡ xs
      append_none [] = refl
      append_none (x ∷ xs) = ap (λ l. x ∷ l) (append_none xs)

-- ---- snapshots

module _ (h : History) (client : Client) (snap : Name) (picks : List Pick) (reply : Reply) (symbol : Name) (now : ℕ) (w : Window) (m : IsMoved h client (commands.Snapshot snap picks) reply symbol now w) where
  -- a snapshot is not Moved at a symbol that it held, nor at one before: a release that was met is none
  pub no_moved_snapshot_of_a_held_symbol : list_any (refers_from symbol) (own_events h client.session.client w) ≡ true → ⊥
  no_moved_snapshot_of_a_held_symbol e = true≢false (sym e ∙ m.beside.never)

  -- nor where its name stands all the time
  pub no_moved_snapshot_under_a_standing_name : ((q : ℕ) → w.start ≤ q → snap_body (history_at h q) snap ≡ None → ⊥) → ⊥
  no_moved_snapshot_under_a_standing_name stands = stands m.beside.looked m.beside.from m.beside.free

-- nor where a symbol before it has not the version that was asked, so that no hold of the client is one of it
pub no_moved_snapshot_behind_another_version : (h : History) (client : Client) (snap : Name) (p : Pick) (picks : List Pick) (reply : Reply) (symbol : Name) (now : ℕ) (w : Window)
    → name_before p.symbol symbol ≡ true → ((q : ℕ) → picked_version (state_of (history_at h q) p.symbol) (asked_of (p ∷ picks) p.symbol) ≡ None)
    → IsMoved h client (commands.Snapshot snap (p ∷ picks)) reply symbol now w → ⊥
no_moved_snapshot_behind_another_version h client snap p picks reply symbol now w before none m =
    let held = m.beside.held.0 before in
    apart held.0 (sym (none (held.1 - 1)) ∙ held.2.asked)
  where
    apart : (n : ℕ) → None ≡ Some n → ⊥
    apart n e = cc

-- ---- what is found gone

module _ (h : History) (client : Client) (reply : Reply) (symbol : Name) (now : ℕ) (w : Window) (some : 1 ≤ client.session.tries) (le : w.stop ≤ length h) (quiet : own_events h client.session.client w ≡ []) where
  -- an append without a try is not Moved by a tile that is gone, where the indexes stand and the frame does not fit the base, as its index tells
  pub no_moved_append_that_does_not_fit : (own : Name) (n : ℕ) (at : Option ℤ) (prune : Bool)
      → ((q : ℕ) (l : Linked) → Contains (links (history_at h q) symbol) l → stored (history_at h q) l.row.index ≡ None → ⊥)
      → ((q : ℕ) (f : Frame) (v : Version) → frame_of client.session n ≡ Some (Ok f) → base_of (state_of (history_at h q) symbol) ≡ Some v → FitsBehind v.frame f → ⊥)
      → IsMoved h client (commands.Append own n at prune) reply symbol now w → ⊥
  no_moved_append_that_does_not_fit own n at prune stands large =
      no_moved_without_a_try h client (commands.Append own n at prune) reply symbol now w (λ q z l. elim l.2.judged [
        | inl is ↦ stands l.2.place l.2.link l.2.link_is (subst (λ k. stored (history_at h l.2.place) k ≡ None) is l.2.gone)
        | inr fits ↦ large q l.0 l.2.version l.1 l.2.base fits
      ]) some le quiet

  -- nor is a reclaim, where each index of the symbol stands
  pub no_moved_reclaim_where_indexes_stand : (own : Name) → ((q z : ℕ) (l : Linked) → Contains (links (history_at h q) symbol) l → stored (history_at h z) l.row.index ≡ None → ⊥)
      → IsMoved h client (commands.Reclaim own) reply symbol now w → ⊥
  no_moved_reclaim_where_indexes_stand own stands =
      no_moved_without_a_try h client (commands.Reclaim own) reply symbol now w (λ q z l. stands q l.place l.link l.link_is l.gone) some le quiet

-- a frame over the limit of rows fits behind no base
pub too_many_rows_fit_nowhere : (base frame : Frame) → nat_lt 2000000 (length base.rows + length frame.rows) ≡ true → FitsBehind base frame → ⊥
too_many_rows_fit_nowhere base frame many fits =
    apart (sym (ap (λ b. if b then Some (extents.Rows, 2000000) else rest) many) ∙ fits.few)
  where
    rest : Option (Extent × ℕ)
    rest =
        if nat_lt 4096 (length frame.schema.columns) then Some (extents.Columns, 4096)
        else if nat_lt 8000000 ((length base.rows + length frame.rows) * length frame.schema.columns) then Some (extents.Cells, 8000000)
        else None

    apart : {x : Extent × ℕ} → Some x ≡ None → ⊥
    apart e = cc

-- ---- small histories

abbrev one : Client
one = record { session = record { frames = []; moment = pos 7; tries = 1; client = 1 }; limit = 1000 }

abbrev S : Name
S = 83 ∷ []

abbrev held_by_another : History
held_by_another = events.Refer 2 S None (record { kind = kinds.Version; name = S; client = 2; serial = 0; version = 0; first = pos 0; last = pos 0 })
    (changes.Held (record { client = 2; serial = 0 }) 0 ∷ []) ∷ []

abbrev first : Window
first = record { start = 0; stop = 1; faulted = false }

abbrev moved : Reply
moved = record { place = 1; listed = None; commits = []; left = []; outcome = outcomes.Refused (refusals.Moved 1) }

-- a write that made no try, though another's commit came
pub no_moved_write_without_a_try : IsLegalReply held_by_another one (commands.Write S 0 None false) moved first → ⊥
no_moved_write_without_a_try l =
    no_moved_without_a_try held_by_another one (commands.Write S 0 None false) moved l.1.outcome.0 1 first (λ q z gone. gone) (lit≤ tt) (lit≤ tt) refl l.1.outcome.2

-- a delete of a version that never was
pub no_moved_delete_of_no_version : IsLegalReply held_by_another one (commands.Delete S (Some (5 ∷ []))) moved first → ⊥
no_moved_delete_of_no_version l =
    no_moved_where_refused held_by_another one (commands.Delete S (Some (5 ∷ []))) moved l.1.outcome.0 1 first (λ q z gone. gone) (lit≤ tt) at l.1.outcome.2
  where
    at : (q : ℕ) → 0 ≤ q → q ≤ 1 → MakesAt held_by_another one (commands.Delete S (Some (5 ∷ []))) moved l.1.outcome.0 q → ⊥
    at zero from to (inl marks) = marks refl
    at zero from to (inr e) = absurd cc
    at (suc zero) from to (inl marks) = marks refl
    at (suc zero) from to (inr e) = absurd cc
    at (suc (suc q)) from to m = omega (arith, to)

-- an append where there is no live version has nothing to find gone
pub no_moved_append_without_a_base : IsMoved held_by_another one (commands.Append S 0 None false) moved S 1 first → ⊥
no_moved_append_without_a_base =
    no_moved_without_a_try held_by_another one (commands.Append S 0 None false) moved S 1 first (λ q z l. apart l.2.version (sym (absent q) ∙ l.2.base)) (lit≤ tt) (lit≤ tt) refl
  where
    absent : (q : ℕ) → base_of (state_of (history_at held_by_another q) S) ≡ None
    absent zero = refl
    absent (suc zero) = refl
    absent (suc (suc q)) = let size : 1 - suc (suc q) ≡ 0 = omega arith in ap (λ n. base_of (state_of (drop n held_by_another) S)) size

    apart : (v : Version) → None ≡ Some v → ⊥
    apart v e = cc

-- one event of its own that is no try: beside the met tries of a write there is none
abbrev beside : History
beside = held_by_another ++ events.Put 1 (record { kind = kinds.Version; name = S; client = 1; serial = 0; version = 0; first = pos 0; last = pos 0 }) [] ∷ []

pub no_moved_write_with_an_event_beside : IsMoved beside one (commands.Write S 0 None false) (record moved { place = 2 }) S 2 (record first { stop = 2 }) → ⊥
no_moved_write_with_an_event_beside m =
    let t = moved_own_events beside one (commands.Write S 0 None false) (record moved { place = 2 }) S 2 (record first { stop = 2 }) (λ q z gone. gone) (lit≤ tt) (lit≤ tt) m m.beside.0 m.beside.1 in
    odd t.0 t.1 (ap length t.3)
  where
    doubled : (c : ℕ) (ps qs : List (Key × Bytes)) → length (map (put_of c) ps ++ map (drop_of c) qs) ≡ length ps + length qs
    doubled c ps qs = omega (arith, length-append (map (put_of c) ps) (map (drop_of c) qs), length-map ps (put_of c), length-map qs (drop_of c))

    even : (ts : List (List Event)) → AllByRecursion (IsRefused 1 S true) ts → (n : ℕ) × (length (flat_map (λ t. t) ts) ≡ n + n)
    even [] all = (0, refl)
    even (t ∷ ts) all =
        let rest = even ts all.1 in
        let size : length t ≡ length all.0.0 + length all.0.0 = ap length all.0.3 ∙ doubled 1 all.0.0 all.0.0 in
        let whole : length (t ++ flat_map (λ u. u) ts) ≡ length t + length (flat_map (λ u. u) ts) = length-append t (flat_map (λ u. u) ts) in
        let last : length (flat_map (λ u. u) ts) ≡ rest.0 + rest.0 = rest.1 in
        (length all.0.0 + rest.0, omega (arith, size, whole, last))

    odd : (ts : List (List Event)) → AllByRecursion (IsRefused 1 S true) ts → 1 ≡ length (flat_map (λ t. t) ts) → ⊥
    odd ts all is = let n = even ts all in let two : length (flat_map (λ t. t) ts) ≡ n.0 + n.0 = n.1 in omega (arith, is, two)
