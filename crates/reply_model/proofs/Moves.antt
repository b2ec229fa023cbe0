-- What it shows that the tries of a command were met.
use Rattle.std.proofs.Common.{◌≡◌, ℕ, zero, suc, ◌+◌, ◌-◌, ◌≤◌, ◌<◌, Bool, true, false, List, [], ◌∷◌, ◌++◌, map, length, take, drop, ℤ, Option, Some, Result, Ok, Err, refl, sym, ◌∙◌, ap, subst, inl, inr, arith, append_assoc, length-append}
use Rattle.std.specs.Prelude.{filter, reverse, nat_eq, option_map}
use Rattle.std.specs.List.{flat_map, AllByRecursion}
use Rattle.std.proofs.lemmas.List.{take-append-drop, drop-take, reverse-append, length-drop}
use Rattle.std.proofs.lemmas.List.Elements.{filter-append}
use Rattle.key_kind.specs.declared.key.Key.{Key}
use Rattle.key_kind.specs.Names.{Name}
use Rattle.bucket_core.specs.declared.event.Event.{Event}
use Rattle.bucket_core.specs.History.{History, Bytes, author, history_at, events_within, referred_at}
use Rattle.bucket_core.proofs.ReferLemmas.{referred_at-le-length}
use Rattle.reply_model.specs.Tries.{put_of, drop_of, one_if, IsRefused}
use Rattle.frame_core.specs.Frames.{Frame}
use Rattle.frame_core.specs.declared.refusal.Refusal.{Refusal}
use Rattle.expr_clause.specs.declared.command.Command.{Command}
use Rattle.expr_clause.specs.declared.command.Command.TheVariants as commands
use Rattle.reply_model.specs.declared.reply.Reply.{Reply}
use Rattle.reply_model.specs.Answering.{Answer, frame_of, with_frame, answered, refused, ◌then◌}
use Rattle.reply_model.specs.Windows.{Window, Client, own_events}
use Rattle.reply_model.specs.Losses.{FindsGone}
use Rattle.reply_model.specs.Causes.{MarksAt, makes_version, MakesAt, IsMoved}
use Rattle.reply_model.specs.Moves.{own_between, IsMetTry, AreMetTries}
use Rattle.reply_model.proofs.Later.{history_at_later}

-- ---- places

-- the reference of a history at a place was set no later
pub referred_within : (h : History) (symbol : Name) (n : ℕ) → referred_at (history_at h n) symbol ≤ n
referred_within h symbol n = omega (arith, referred_at-le-length (history_at h n) symbol, length-drop (length h - n) h)

module _ (client : ℕ) (symbol : Name) (makes : Bool) where
  module _ (h : History) (Wants : ℕ → Type 0) (Loses : ℕ → ℕ → Type 0) where
    -- a met try goes on
    pub try_longer : (start stop now : ℕ) → IsMetTry h client symbol makes Wants Loses start stop now → start < stop
    try_longer start stop now t = let seen = referred_within h symbol t.showed in let same : referred_at (history_at h t.showed) symbol ≡ now = t.shown in omega (arith, t.begins, t.between, t.ends, seen, same)

    pub tries_longer : (n start stop now : ℕ) → AreMetTries h client symbol makes Wants Loses n start stop now → start ≤ stop
    tries_longer zero start stop now all = omega (arith, all)
    tries_longer (suc n) start stop now all = let before = tries_longer n start all.0 all.1 all.2 in let last = try_longer all.0 stop now all.3 in omega (arith, before, last)

-- one try more than these may be made
pub one_fewer : (told : Bool) (n most : ℕ) → n < most → n ≤ most - one_if told
one_fewer true n most few = omega (arith, few)
one_fewer false n most few = omega (arith, few)

-- ---- in a longer history

pub own_later : (h more : History) (client from to : ℕ) → to ≤ length h → own_between (more ++ h) client from to ≡ own_between h client from to
own_later h more client from to le = ap (λ g. reverse (filter (λ e. nat_eq (author e) client) (take (to - from) g))) (history_at_later h more to le)

module _ (client : ℕ) (symbol : Name) (makes : Bool) (h more : History) (Wants Wants2 : ℕ → Type 0) (Loses Loses2 : ℕ → ℕ → Type 0)
    (wants : (q : ℕ) → q ≤ length h → Wants q → Wants2 q) (loses : (q z : ℕ) → q ≤ length h → z ≤ length h → Loses q z → Loses2 q z) where
  pub try_later : (start stop now : ℕ) → stop ≤ length h → IsMetTry h client symbol makes Wants Loses start stop now → IsMetTry (more ++ h) client symbol makes Wants2 Loses2 start stop now
  try_later start stop now le t =
      let seen = referred_within h symbol t.showed in
      let same : referred_at (history_at h t.showed) symbol ≡ now = t.shown in
      let last : t.showed ≤ length h = omega (arith, t.ends, le) in
      let first : t.look ≤ length h = omega (arith, t.between, seen, same, last) in
      record {
        look = t.look;
        showed = t.showed;
        begins = t.begins;
        between = t.between;
        shown = ap (λ g. referred_at g symbol) (history_at_later h more t.showed last) ∙ t.shown;
        ends = t.ends;
        own = elim t.own [
          | inl left ↦ inl (
            record {
              puts = left.0.puts;
              entry = left.0.entry;
              is_try = left.0.is_try;
              put = own_later h more client start t.showed last ∙ left.0.put;
              dropped = own_later h more client t.showed stop le ∙ left.0.dropped;
            },
            wants t.look first left.1,
          )
          | inr quiet ↦ inr (own_later h more client start stop le ∙ quiet.0, loses t.look t.showed first last quiet.1)
        ];
      }

  pub tries_later : (n start stop now : ℕ) → stop ≤ length h → AreMetTries h client symbol makes Wants Loses n start stop now → AreMetTries (more ++ h) client symbol makes Wants2 Loses2 n start stop now
  tries_later zero start stop now le all = all
  tries_later (suc n) start stop now le all =
      let last = try_longer client symbol makes h Wants Loses all.0 stop now all.3 in
      (all.0, all.1, tries_later n start all.0 all.1 (omega (arith, last, le)) all.2, try_later all.0 stop now le all.3)

-- ---- own events of parts of a window

-- no event stands between a place and itself
pub own_nowhere : (h : History) (client p : ℕ) → own_between h client p p ≡ []
own_nowhere h client p = let size : p - p ≡ 0 = omega arith in ap (λ n. reverse (filter (λ e. nat_eq (author e) client) (take n (history_at h p)))) size

-- what stands between two places stands there in parts
within_parts : (h : History) (a b c : ℕ) → a ≤ b → b ≤ c → c ≤ length h → events_within h a c ≡ events_within h b c ++ events_within h a b
within_parts h a b c first last end =
    let at_c : History = history_at h c in
    let size : c - a ≡ (c - b) + (b - a) = omega (arith, first, last) in
    let less : length h - b ≡ (length h - c) + (c - b) = omega (arith, last, end) in
    ap (λ n. take n at_c) size
    ∙ (sym (take-append-drop (c - b) (take ((c - b) + (b - a)) at_c))
    ∙ ap2 (take_take (c - b) (b - a) at_c) (drop-take (c - b) (b - a) at_c ∙ ap (λ (g : History). take (b - a) g) (drop_drop (length h - c) (c - b) h ∙ ap (λ n. drop n h) (sym less))))
  where
    ap2 : {xs xs2 ys ys2 : History} → xs ≡ xs2 → ys ≡ ys2 → xs ++ ys ≡ xs2 ++ ys2
    ap2 e f = λ i. e i ++ f i

    take_none : (n : ℕ) → ◌≡◌ {A = History} (take n []) []
    take_none zero = refl
    take_none (suc n) = refl

    take_take : (n m : ℕ) (xs : History) → take n (take (n + m) xs) ≡ take n xs
    take_take zero m xs = refl
    take_take (suc n) m [] = ap (λ (l : History). take (suc n) l) (take_none (suc n + m))
    take_take (suc n) m (x ∷ xs) =
        let size : suc n + m ≡ suc (n + m) = omega arith in
        ap (λ k. take (suc n) (take k (x ∷ xs))) size ∙ ap (λ l. x ∷ l) (take_take n m xs)

    drop_none : (n : ℕ) → ◌≡◌ {A = History} (drop n []) []
    drop_none zero = refl
    drop_none (suc n) = refl

    drop_drop : (n m : ℕ) (xs : History) → drop m (drop n xs) ≡ drop (n + m) xs
    drop_drop zero m xs = let size : 0 + m ≡ m = omega arith in sym (ap (λ k. drop k xs) size)
    drop_drop (suc n) m [] = drop_none m ∙ sym (drop_none (suc n + m))
    drop_drop (suc n) m (x ∷ xs) =
        let size : suc n + m ≡ suc (n + m) = omega arith in
        drop_drop n m xs ∙ sym (ap (λ k. drop k (x ∷ xs)) size)

pub own_parts : (h : History) (client a b c : ℕ) → a ≤ b → b ≤ c → c ≤ length h → own_between h client a c ≡ own_between h client a b ++ own_between h client b c
own_parts h client a b c first last end =
    ap (λ g. reverse (filter (λ e. nat_eq (author e) client) g)) (within_parts h a b c first last end)
    ∙ (ap reverse (filter-append (λ e. nat_eq (author e) client) (events_within h b c) (events_within h a b))
    ∙ reverse-append (filter (λ e. nat_eq (author e) client) (events_within h b c)) (filter (λ e. nat_eq (author e) client) (events_within h a b)))

-- ---- the own events of met tries

module _ (h : History) (client : ℕ) (symbol : Name) (makes : Bool) (Wants : ℕ → Type 0) (Loses : ℕ → ℕ → Type 0) (never : (q z : ℕ) → Loses q z → ⊥) where
  -- where nothing can be found gone, each try left its keys
  pub tries_left : (n start stop now : ℕ) → stop ≤ length h → AreMetTries h client symbol makes Wants Loses n start stop now
      → (tries : List (List Event)) × AllByRecursion (IsRefused client symbol makes) tries × (length tries ≡ n) × (own_between h client start stop ≡ flat_map (λ t. t) tries)
  tries_left zero start stop now le all =
      ([], tt, refl, subst (λ q. own_between h client q stop ≡ []) (sym all) (own_nowhere h client stop))
  tries_left (suc n) start stop now le all =
      let last = try_longer client symbol makes h Wants Loses all.0 stop now all.3 in
      let longer = tries_longer client symbol makes h Wants Loses n start all.0 all.1 all.2 in
      let seen = referred_within h symbol all.3.showed in
      let same : referred_at (history_at h all.3.showed) symbol ≡ now = all.3.shown in
      let before = tries_left n start all.0 all.1 (omega (arith, last, le)) all.2 in
      elim all.3.own [
        | inl left ↦
            let keys = left.0 in
            let own : List Event = map (put_of client) keys.puts ++ map (drop_of client) keys.puts in
            let parts : own_between h client all.0 stop ≡ own =
            own_parts h client all.0 all.3.showed stop (omega (arith, all.3.begins, all.3.between, seen, same)) all.3.ends le ∙ both keys.put keys.dropped in (
              before.0 ++ own ∷ [],
              all_more before.0 own before.1 (keys.puts, keys.entry, keys.is_try, refl),
              omega (arith, length-append before.0 (own ∷ []), before.2),
              own_parts h client start all.0 stop longer (omega (arith, last)) le ∙ (both before.3 parts ∙ sym (flat_more before.0 own)),
            )
        | inr quiet ↦ absurd (never all.3.look all.3.showed quiet.1)
      ]
    where
      both : {xs xs2 ys ys2 : List Event} → xs ≡ xs2 → ys ≡ ys2 → xs ++ ys ≡ xs2 ++ ys2
      both e f = λ i. e i ++ f i

      all_more : (ts : List (List Event)) (t : List Event) → AllByRecursion (IsRefused client symbol makes) ts → IsRefused client symbol makes t → AllByRecursion (IsRefused client symbol makes) (ts ++ t ∷ [])
      all_more [] t all one = (one, tt)
      all_more (u ∷ ts) t all one = (all.0, all_more ts t all.1 one)

      flat_more : (ts : List (List Event)) (t : List Event) → flat_map (λ t. t) (ts ++ t ∷ []) ≡ flat_map (λ t. t) ts ++ t
      flat_more [] t = append_none t
        where
          append_none : (xs : List Event) → xs ++ [] ≡ xs
          append_none [] = refl
          append_none (x ∷ xs) = ap (λ l. x ∷ l) (append_none xs)
      flat_more (u ∷ ts) t = ap (λ l. u ++ l) (flat_more ts t) ∙ sym (append_assoc u (flat_map (λ t. t) ts) t)

-- ---- what Moved does not excuse

module _ (h : History) (client : Client) (c : Command) (reply : Reply) (symbol : Name) (now : ℕ) (w : Window) (never : (q z : ℕ) → FindsGone h client c reply symbol q z → ⊥) (some : 1 ≤ client.session.tries) where
  -- a command that cannot find anything gone made as many tries as it may, each with its puts and drops
  pub moved_tries : w.stop ≤ length h → (m : IsMoved h client c reply symbol now w)
      → (tries : List (List Event)) × AllByRecursion (IsRefused client.session.client symbol (makes_version c)) tries × (length tries ≡ client.session.tries)
      × (own_between h client.session.client m.start m.stop ≡ flat_map (λ t. t) tries)
  moved_tries le m = tries_left h client.session.client symbol (makes_version c) (MakesAt h client c reply symbol) (FindsGone h client c reply symbol) never client.session.tries m.start m.stop now (omega (arith, m.to, le)) m.tries

  -- so it has own events
  pub no_moved_without_a_try : w.stop ≤ length h → own_events h client.session.client w ≡ [] → IsMoved h client c reply symbol now w → ⊥
  no_moved_without_a_try le none m =
      let t = moved_tries le m in
      let longer = tries_longer client.session.client symbol (makes_version c) h (MakesAt h client c reply symbol) (FindsGone h client c reply symbol) client.session.tries m.start m.stop now m.tries in
      let behind = empty_parts _ _ (sym (own_parts h client.session.client w.start m.start w.stop m.from (omega (arith, longer, m.to)) le) ∙ none) in
      let inside = empty_parts _ _ (sym (own_parts h client.session.client m.start m.stop w.stop longer m.to le) ∙ behind.1) in
      tries_filled t.0 t.1 (omega (arith, some, t.2)) (sym t.3 ∙ inside.0)
    where
      empty_parts : (xs ys : List Event) → xs ++ ys ≡ [] → (xs ≡ []) × (ys ≡ [])
      empty_parts [] ys e = (refl, e)
      empty_parts (x ∷ xs) ys e = absurd cc

      put_first : (client : ℕ) (first : List (Key × Bytes)) (p : Key × Bytes) (more : List Event) → map (put_of client) (first ++ p ∷ []) ++ more ≡ [] → ⊥
      put_first client [] p more e = cc
      put_first client (x ∷ first) p more e = cc

      tries_filled : (ts : List (List Event)) → AllByRecursion (IsRefused client.session.client symbol (makes_version c)) ts → 1 ≤ length ts → flat_map (λ t. t) ts ≡ [] → ⊥
      tries_filled [] all one e = omega (arith, one)
      tries_filled (t ∷ ts) all one e =
          let own = (empty_parts t (flat_map (λ t. t) ts) e).0 in
          let is_try = all.0.2 in
          put_first client.session.client is_try.first (all.0.1, is_try.body) (map (drop_of client.session.client) all.0.0)
          (ap (λ ps. map (put_of client.session.client) ps ++ map (drop_of client.session.client) all.0.0) (sym is_try.is) ∙ (sym all.0.3 ∙ own))

  -- nor is a command Moved that had nothing to make at any place of the window
  pub no_moved_where_refused : ((q : ℕ) → w.start ≤ q → q ≤ w.stop → MakesAt h client c reply symbol q → ⊥) → IsMoved h client c reply symbol now w → ⊥
  no_moved_where_refused refused m = by client.session.tries some m.tries
    where
      by : (n : ℕ) → 1 ≤ n → AreMetTries h client.session.client symbol (makes_version c) (MakesAt h client c reply symbol) (FindsGone h client c reply symbol) n m.start m.stop now → ⊥
      by zero one all = omega (arith, one)
      by (suc n) one all =
          let longer = tries_longer client.session.client symbol (makes_version c) h (MakesAt h client c reply symbol) (FindsGone h client c reply symbol) n m.start all.0 all.1 all.2 in
          let seen = referred_within h symbol all.3.showed in
          let same : referred_at (history_at h all.3.showed) symbol ≡ now = all.3.shown in
          elim all.3.own [
            | inl left ↦ refused all.3.look (omega (arith, m.from, longer, all.3.begins)) (omega (arith, all.3.between, seen, same, all.3.ends, m.to)) left.1
            | inr quiet ↦ never all.3.look all.3.showed quiet.1
          ]

-- a frame that is never acceptable
module _ (h : History) (client : Client) (reply : Reply) (symbol : Name) (now : ℕ) (w : Window) (some : 1 ≤ client.session.tries) (n : ℕ) (why : Refusal) (bad : frame_of client.session n ≡ Some (Err why)) where
  no_frame : (f : Frame) → frame_of client.session n ≡ Some (Ok f) → ⊥
  no_frame f e = apart (sym bad ∙ e)
    where
      apart : ◌≡◌ {A = Option (Result Frame Refusal)} (Some (Err why)) (Some (Ok f)) → ⊥
      apart e = cc

  no_marks : (next : Frame → Result Answer Refusal) → MarksAt (with_frame client.session n next) → ⊥
  no_marks next m = apart (subst MarksAt (ap (option_map (λ frame. answered (frame then next))) bad) m)
    where
      apart : MarksAt (Some (refused why)) → ⊥
      apart (inl filled) = filled refl
      apart (inr e) = absurd cc

  pub no_moved_write_of_a_bad_frame : (own : Name) (at : Option ℤ) (prune : Bool) → IsMoved h client (commands.Write own n at prune) reply symbol now w → ⊥
  no_moved_write_of_a_bad_frame own at prune = no_moved_where_refused h client (commands.Write own n at prune) reply symbol now w (λ q z l. l) some (λ q from to m. no_marks _ m)

  pub no_moved_append_of_a_bad_frame : (own : Name) (at : Option ℤ) (prune : Bool) → IsMoved h client (commands.Append own n at prune) reply symbol now w → ⊥
  no_moved_append_of_a_bad_frame own at prune = no_moved_where_refused h client (commands.Append own n at prune) reply symbol now w (λ q z l. no_frame l.0 l.1) some (λ q from to m. no_marks _ m)
