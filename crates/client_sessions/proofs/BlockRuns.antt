-- Blocks that are carried out: none, one on the caller's thread before the others, and one on a thread of its own beside the others.
use Rattle.std.proofs.Common.{◌≡◌, ℕ, ◌<◌, ◌≤◌, ◌⊎◌, true, false, List, [], ◌∷◌, ◌++◌, length, Some, refl, sym, ap, ◌∙◌, subst, inl, inr, ⊎_elim, append_assoc, length-append, arith}
use Rattle.std.specs.Prelude.{Any}
use Rattle.std.specs.List.{AllByRecursion}
use Rattle.std.proofs.lemmas.Bool.{cases_lt}
use Rattle.turn_cell.specs.declared.badge.Badge.{Badge}
use Rattle.turn_cell.specs.declared.badge.Joined.{Joined}
use Rattle.turn_cell.specs.Badges.{Among, Has, Awaits, joined_at, joined_badge, new_badge}
use Rattle.turn_cell.proofs.Membership.{among_either}
use Rattle.turn_cell.proofs.Sole.{awaits_split, has_left}
use Rattle.bucket_core.specs.declared.event.Event.{Event}
use Rattle.bucket_core.specs.History.{History, author, event_at}
use Rattle.bucket_core.specs.Laws.{Looks}
use Rattle.store_model.specs.Law.{IsClaimed, IsLawful}
use Rattle.bucket_shared.specs.declared.pass.Pass.{Pass}
use Rattle.bucket_shared.specs.Passes.{store_of, badge_of, seen_of, number_of, limit_of, sole_of}
use Rattle.bucket_shared.specs.Splits.{IsSplit}
use Rattle.bucket_shared.specs.Sole.{is_sole}
use Rattle.expr_clause.specs.declared.command.Command.{Command}
use Rattle.reply_model.specs.declared.reply.Reply.{Reply}
use Rattle.reply_model.specs.Windows.{Client}
use Rattle.reply_model.specs.Blocks.{Cutting}
use Rattle.reply_model.specs.Runs.{Talk, IsLegalTalk, Covers, AreApart}
use Rattle.reply_model.specs.Standing.{RunsAlone}
use Rattle.client_sessions.specs.Sessions.{talk_of, AreNamed, AreUncut}
use Rattle.client_sessions.specs.Blocks.{IsSessionOf, AreRun, Knows, OneTalkEach}
use Rattle.client_sessions.proofs.Events.{event_within, event_at_more, others_above, others_at, any_here, any_there}
use Rattle.client_sessions.proofs.Windows.{stops_within, calm_windows}
use Rattle.client_sessions.proofs.OneBlock.{OneSession, head_is, tail_is, sole_kept, session_alone, more_own, ends_there}
use Rattle.client_sessions.proofs.Passes.{had_at, ended_at, within_at}
use Rattle.client_sessions.proofs.Talks.{calm, all_map, talk_later, talks_later, apart_before}

-- a history is at least as long as one that it goes on from
pub longer : (more old new : History) → new ≡ more ++ old → length old ≤ length new
longer more old new is = let size : length new ≡ length (more ++ old) = ap (λ (h : History). length h) is in omega (arith, size, length-append more old)

some_block : (block : List Command) (blocks : List (List Command)) → block ∷ blocks ≡ [] → ⊥
some_block block blocks none = absurd (omega (arith, ap length none))

-- no blocks
pub run_none : (cutting : Cutting) (client : ℕ → Client) (p : Pass) → AreRun cutting client [] [] p p
run_none cutting client p = record {
  store = refl;
  number = refl;
  limit = refl;
  first = λ h. h;
  awaits = λ ns a. a;
  more = [];
  goes_on = refl;
  lawful = λ l. l;
  without_blocks = λ none. refl;
  one_alone = λ block met is. absurd (some_block block [] (sym is));
  talks = [];
  talks_are = tt;
  legal = tt;
  apart = tt;
  no_fault = tt;
  above = tt;
  one_each = tt;
  own = λ n e lt at own. absurd (let le : n ≤ length (seen_of p) = event_within (seen_of p) n e at in omega (arith, le, lt));
  joined = λ m l a. inl a;
}

-- one block on the caller's thread, with the caller's pass, and then the others
module _ (cutting : Cutting) (client : ℕ → Client) (named : (n : ℕ) → (client n).session.client ≡ n) (one : OneSession client) (count : ℕ) (block : List Command) (ready : AreNamed count block) (replies : List Reply) (blocks : List (List Command)) (told : List (List Reply)) (p0 p p1 p2 : Pass)
    (store : store_of p ≡ store_of p0) (badge : badge_of p ≡ badge_of p0) (limit : limit_of p ≡ limit_of p0) (looks : Looks IsClaimed (number_of p0) (sole_of p0) (seen_of p0) (seen_of p))
    (s : IsSessionOf cutting client block replies p p1) (r : AreRun cutting client blocks told p1 p2) where
  abbrev here : Talk
  here = talk_of (client (number_of p)) block replies s.session.windows

  badge_here : badge_of p1 ≡ badge_of p0
  badge_here = s.badge ∙ badge

  own_here : (n : ℕ) (e : Event) → length (seen_of p0) < n → event_at (seen_of p2) n ≡ Some e → author e ≡ number_of p0 → Any (Covers n e) (here ∷ r.talks)
  own_here n e lt at own = elim (cases_lt (length (seen_of p1)) n) [
    | inl beyond ↦ any_there here r.talks (r.own n e beyond at (own ∙ sym (ap (λ (b : Badge). b.number) badge_here)))
    | inr within ↦
        let at1 : event_at (seen_of p1) n ≡ Some e = sym (event_at_more r.more (seen_of p1) n within) ∙ (ap (λ (h : History). event_at h n) (sym r.goes_on) ∙ at) in
        elim (cases_lt (length (seen_of p)) n) [
          | inl after ↦ any_here here r.talks (named (number_of p) ∙ (ap (λ (b : Badge). b.number) badge ∙ sym own), s.session.covered n after within)
          | inr before ↦
              let at0 : event_at (seen_of p) n ≡ Some e = sym (event_at_more s.session.more (seen_of p) n before) ∙ (ap (λ (h : History). event_at h n) (sym s.session.goes_on) ∙ at1) in
              absurd (others_above (number_of p0) looks.others (seen_of p0) n e looks.by_others lt (ap (λ (h : History). event_at h n) (sym looks.is) ∙ at0) own)
        ]
  ]

  -- the block is of the pass's own client
  each_here : (talks : List Talk) → AllByRecursion (λ (t : Talk). t.client.session.client ≡ here.client.session.client → here.client.session.client ≡ number_of p0) talks
  each_here [] = tt
  each_here (t ∷ talks) = (λ same. named (number_of p) ∙ ap (λ (b : Badge). b.number) badge, each_here talks)

  -- one block alone: no others made events before it, and none is behind it
  alone_here : (b : List Command) (met : List Reply) → block ∷ blocks ≡ b ∷ [] → replies ∷ told ≡ met ∷ [] → sole_of p0 ≡ true → IsLawful (seen_of p0) → AreUncut met
      → (n : ℕ) → RunsAlone cutting (client n).session b met (seen_of p0) (seen_of p2)
  alone_here b met one_block one_reply sole lawful uncut n =
      let from : seen_of p ≡ seen_of p0 = looks.is ∙ ap (λ (h : History). h ++ seen_of p0) (looks.alone sole) in
      let to : seen_of p1 ≡ seen_of p2 = sym (r.without_blocks (tail_is block b blocks [] one_block)) in
      let same_block = head_is block b blocks [] one_block in
      let same_reply = head_is replies met told [] one_reply in
      subst (λ (z : List Command × List Reply). RunsAlone cutting (client n).session z.0 z.1 (seen_of p0) (seen_of p2)) (λ i. (same_block i, same_reply i))
      (session_alone cutting client one count block ready replies (seen_of p0) (seen_of p2) p p1 s from to (s.session.own (ap is_sole badge ∙ sole)) lawful
      (subst (λ (rs : List Reply). AreUncut rs) (sym same_reply) uncut) n)

  pub run_here : AreRun cutting client (block ∷ blocks) (replies ∷ told) p0 p2
  run_here =
      let first_le : length (seen_of p0) ≤ length (seen_of p) = longer looks.others (seen_of p0) (seen_of p) looks.is in
      let next_le : length (seen_of p) ≤ length (seen_of p1) = longer s.session.more (seen_of p) (seen_of p1) s.session.goes_on in
      record {
        store = r.store ∙ (s.store ∙ store);
        number = r.number ∙ ap (λ (b : Badge). b.number) badge_here;
        limit = r.limit ∙ (s.limit ∙ limit);
        first = λ h. r.first (subst (λ (b : Badge). Has b b.first) (sym badge_here) h);
        awaits = λ ns a. r.awaits ns (subst (λ (b : Badge). Awaits b ns) (sym badge_here) a);
        more = r.more ++ (s.session.more ++ looks.others);
        goes_on = r.goes_on
            ∙ (ap (λ (h : History). r.more ++ h) (s.session.goes_on ∙ (ap (λ (h : History). s.session.more ++ h) looks.is ∙ sym (append_assoc s.session.more looks.others (seen_of p0))))
            ∙ sym (append_assoc r.more (s.session.more ++ looks.others) (seen_of p0)));
        lawful = λ l. r.lawful (s.session.lawful (looks.lawful l));
        without_blocks = λ none. absurd (some_block block blocks none);
        one_alone = alone_here;
        talks = here ∷ r.talks;
        talks_are = (ap (λ (n : ℕ). talk_of (client n) block replies s.session.windows) (sym (named (number_of p))), r.talks_are);
        legal = (
          subst (λ (h : History). IsLegalTalk h (length (seen_of p0)) here) (sym r.goes_on) (talk_later (seen_of p1) r.more (length (seen_of p0)) (length (seen_of p)) here first_le s.session.legal),
          talks_later (seen_of p2) [] (seen_of p2) (length (seen_of p0)) (length (seen_of p1)) r.talks refl (omega (arith, first_le, next_le)) r.legal,
        );
        apart = (apart_before (seen_of p2) (length (seen_of p1)) here r.talks (stops_within (seen_of p1) here.client (length (seen_of p)) block replies s.session.windows s.session.legal) r.legal, r.apart);
        no_fault = (calm_windows 0 0 s.session.windows calm s.session.faults, r.no_fault);
        above = (
          inl (named (number_of p) ∙ ap (λ (b : Badge). b.number) badge),
          subst (λ (b : Badge). AllByRecursion (λ (t : Talk). (t.client.session.client ≡ b.number) ⊎ ((m : ℕ) → Knows b m → m < t.client.session.client)) r.talks) badge_here r.above,
        );
        one_each = (each_here r.talks, subst (λ (n : ℕ). OneTalkEach n r.talks) (ap (λ (b : Badge). b.number) badge_here) r.one_each);
        own = own_here;
        joined = λ m l a. ⊎_elim (λ (x : Among (joined_at m l) (badge_of p1).joined). inl (subst (λ (b : Badge). Among (joined_at m l) b.joined) badge_here x))
            (λ (x : (l ≤ length (seen_of p2)) × ((n : ℕ) (e : Event) → n ≤ l → event_at (seen_of p2) n ≡ Some e → author e ≡ m → Any (Covers n e) r.talks)). inr (x.0, λ n e le at own. any_there here r.talks (x.1 n e le at own)))
            (r.joined m l a);
      }

-- one block on a thread of its own, with a pass that was split off, beside the others; its pass is joined behind all
module _ (cutting : Cutting) (client : ℕ → Client) (named : (n : ℕ) → (client n).session.client ≡ n) (one : OneSession client) (count : ℕ) (block : List Command) (ready : AreNamed count block) (replies : List Reply) (blocks : List (List Command)) (told : List (List Reply)) (p0 p1 o p2 o2 p3 : Pass)
    (store : store_of p1 ≡ store_of p0) (number : number_of p1 ≡ number_of p0) (limit : limit_of p1 ≡ limit_of p0) (looks : Looks IsClaimed (number_of p0) (sole_of p0) (seen_of p0) (seen_of p1)) (split : IsSplit p0.seated p1.seated o.seated)
    (r : AreRun cutting client blocks told p1 p2) (s : IsSessionOf cutting client block replies o o2)
    (store3 : store_of p3 ≡ store_of p2) (number3 : number_of p3 ≡ number_of p2) (limit3 : limit_of p3 ≡ limit_of p2) (badge3 : badge_of p3 ≡ joined_badge (badge_of p2) (badge_of o2) (length (seen_of o2)))
    (looks3 : Looks IsClaimed (number_of p2) false (seen_of p2) (seen_of p3)) (other : Looks IsClaimed (number_of o2) false (seen_of o2) (seen_of p3))
    (awaits3 : (ns : List ℕ) → Awaits (badge_of p2) (number_of o2 ∷ ns) → Awaits (badge_of o2) [] → Awaits (badge_of p3) ns) where
  abbrev beside : Talk
  beside = talk_of (client (number_of o)) block replies s.session.windows

  -- the other pass gave no number, and none was joined into it
  badge_other : badge_of o2 ≡ new_badge (badge_of p0) (number_of o)
  badge_other = s.badge ∙ split.badge

  number_other : number_of o2 ≡ number_of o
  number_other = ap (λ (b : Badge). b.number) s.badge

  -- an event of the history up to what the caller's pass had seen
  at_front : (n : ℕ) (e : Event) → n ≤ length (seen_of p2) → event_at (seen_of p3) n ≡ Some e → event_at (seen_of p2) n ≡ Some e
  at_front n e le at = sym (event_at_more looks3.others (seen_of p2) n le) ∙ (ap (λ (h : History). event_at h n) (sym looks3.is) ∙ at)

  own_beside : (n : ℕ) (e : Event) → length (seen_of p0) < n → event_at (seen_of p3) n ≡ Some e → author e ≡ number_of p0 → Any (Covers n e) (beside ∷ r.talks)
  own_beside n e lt at own = elim (cases_lt (length (seen_of p2)) n) [
    | inl beyond ↦ absurd (others_above (number_of p2) looks3.others (seen_of p2) n e looks3.by_others beyond (ap (λ (h : History). event_at h n) (sym looks3.is) ∙ at) (own ∙ sym (r.number ∙ number)))
    | inr within ↦ elim (cases_lt (length (seen_of p1)) n) [
      | inl after ↦ any_there beside r.talks (r.own n e after (at_front n e within at) (own ∙ sym number))
      | inr before ↦
          let at1 : event_at (seen_of p1) n ≡ Some e = sym (event_at_more r.more (seen_of p1) n before) ∙ (ap (λ (h : History). event_at h n) (sym r.goes_on) ∙ at_front n e within at) in
          absurd (others_above (number_of p0) looks.others (seen_of p0) n e looks.by_others lt (ap (λ (h : History). event_at h n) (sym looks.is) ∙ at1) own)
    ]
  ]

  -- each event of the other client lies in one of its windows
  other_covered : (n : ℕ) (e : Event) → n ≤ length (seen_of o2) → event_at (seen_of p3) n ≡ Some e → author e ≡ number_of o → Covers n e beside
  other_covered n e le at own =
      let at2 : event_at (seen_of o2) n ≡ Some e = sym (event_at_more other.others (seen_of o2) n le) ∙ (ap (λ (h : History). event_at h n) (sym other.is) ∙ at) in
      elim (cases_lt (length (seen_of o)) n) [
        | inl after ↦ (named (number_of o) ∙ sym own, s.session.covered n after le)
        | inr before ↦
            let at1 : event_at (seen_of o) n ≡ Some e = sym (event_at_more s.session.more (seen_of o) n before) ∙ (ap (λ (h : History). event_at h n) (sym s.session.goes_on) ∙ at2) in
            absurd (others_at (number_of o) (seen_of o) n e split.none_by at1 own)
      ]

  joined_beside : (m l : ℕ) → Among (joined_at m l) (badge_of p2).joined ⊎ Among (joined_at m l) (joined_at (number_of o2) (length (seen_of o2)) ∷ (badge_of o2).joined)
      → Among (joined_at m l) (badge_of p0).joined ⊎ ((l ≤ length (seen_of p3)) × ((n : ℕ) (e : Event) → n ≤ l → event_at (seen_of p3) n ≡ Some e → author e ≡ m → Any (Covers n e) (beside ∷ r.talks)))
  joined_beside m l (inl a) =
      let le : length (seen_of p2) ≤ length (seen_of p3) = longer looks3.others (seen_of p2) (seen_of p3) looks3.is in
      ⊎_elim (λ (x : Among (joined_at m l) (badge_of p1).joined). inl (subst (λ (b : Badge). Among (joined_at m l) b.joined) split.gave x))
      (λ (x : (l ≤ length (seen_of p2)) × ((n : ℕ) (e : Event) → n ≤ l → event_at (seen_of p2) n ≡ Some e → author e ≡ m → Any (Covers n e) r.talks)).
      inr (omega (arith, le, x.0), λ n e below at own. any_there beside r.talks (x.1 n e below (at_front n e (omega (arith, below, x.0)) at) own)))
      (r.joined m l a)
  joined_beside m l (inr (inl is)) =
      let who : m ≡ number_of o2 = ap (λ (j : Joined). j.number) is in
      let place : l ≡ length (seen_of o2) = ap (λ (j : Joined). j.length) is in
      let le : length (seen_of o2) ≤ length (seen_of p3) = longer other.others (seen_of o2) (seen_of p3) other.is in
      inr (omega (arith, le, place), λ n e below at own. any_here beside r.talks (other_covered n e (omega (arith, below, place)) at (own ∙ (who ∙ number_other))))
  joined_beside m l (inr (inr a)) = absurd (subst (λ (b : Badge). Among (joined_at m l) b.joined) badge_other a)

  -- the others' talks are of other clients
  gave : Among (number_of o) (badge_of p1).gave
  gave = subst (λ (b : Badge). Among (number_of o) b.gave) (sym split.gave) (inl refl)

  not_same : (t : Talk) → (t.client.session.client ≡ number_of p1) ⊎ ((m : ℕ) → Knows (badge_of p1) m → m < t.client.session.client) → number_of o ≡ t.client.session.client → ⊥
  not_same t (inl is) same = let less : number_of p0 < number_of o = split.above (number_of p0) (inl refl) in omega (arith, less, same, is, number)
  not_same t (inr less) same = let more : number_of o < t.client.session.client = less (number_of o) (inr gave) in omega (arith, more, same)

  apart_numbers : (talks : List Talk) → AllByRecursion (λ (t : Talk). (t.client.session.client ≡ number_of p1) ⊎ ((m : ℕ) → Knows (badge_of p1) m → m < t.client.session.client)) talks → AllByRecursion (AreApart beside) talks
  apart_numbers talks all = all_map (λ (t : Talk). (t.client.session.client ≡ number_of p1) ⊎ ((m : ℕ) → Knows (badge_of p1) m → m < t.client.session.client)) (AreApart beside) talks (λ t x. λ same. absurd (not_same t x (sym (named (number_of o)) ∙ same))) all

  each_beside : (talks : List Talk) → AllByRecursion (λ (t : Talk). (t.client.session.client ≡ number_of p1) ⊎ ((m : ℕ) → Knows (badge_of p1) m → m < t.client.session.client)) talks
      → AllByRecursion (λ (t : Talk). t.client.session.client ≡ beside.client.session.client → beside.client.session.client ≡ number_of p0) talks
  each_beside talks all = all_map (λ (t : Talk). (t.client.session.client ≡ number_of p1) ⊎ ((m : ℕ) → Knows (badge_of p1) m → m < t.client.session.client))
      (λ (t : Talk). t.client.session.client ≡ beside.client.session.client → beside.client.session.client ≡ number_of p0) talks (λ t x. λ same. absurd (not_same t x (sym (named (number_of o)) ∙ sym same))) all

  -- what the pass knew it knows after the split
  knows : (m : ℕ) → Knows (badge_of p0) m → Knows (badge_of p1) m
  knows m k = subst (λ (b : Badge). Knows b m) (sym split.gave) (⊎_elim (λ (e : m ≡ (badge_of p0).number). inl e) (λ (a : Among m (badge_of p0).gave). inr (inr a)) k)

  -- the pass has its numbers, and awaits no more than before
  first_beside : Has (badge_of p0) (badge_of p0).first → Has (badge_of p3) (badge_of p3).first
  first_beside h = subst (λ (b : Badge). Has b b.first) (sym badge3) (has_left (badge_of p2) (badge_of o2) (length (seen_of o2)) (badge_of p2).first (r.first (subst (λ (b : Badge). Has b b.first) (sym split.gave) h)))

  awaits_beside : (ns : List ℕ) → Awaits (badge_of p0) ns → Awaits (badge_of p3) ns
  awaits_beside ns all = awaits3 ns
      (subst (λ (m : ℕ). Awaits (badge_of p2) (m ∷ ns)) (sym number_other) (r.awaits (number_of o ∷ ns) (subst (λ (b : Badge). Awaits b (number_of o ∷ ns)) (sym split.gave) (awaits_split (badge_of p0) (number_of o) ns all))))
      (subst (λ (b : Badge). Awaits b []) (sym badge_other) (λ m a. absurd a))

  -- ---- one block alone

  -- the caller's pass had seen nothing new until it joined the other
  module _ (sole : sole_of p0 ≡ true) (none : blocks ≡ []) where
    before : seen_of p1 ≡ seen_of p0
    before = looks.is ∙ ap (λ (h : History). h ++ seen_of p0) (looks.alone sole)

    until : seen_of p2 ≡ seen_of p0
    until = r.without_blocks none ∙ before

    -- a joined client has no event behind its place, which lies in what was seen before, but for the other one
    by_joined : (n : ℕ) (e : Event) → length (seen_of p0) < n → event_at (seen_of p3) n ≡ Some e → (l : ℕ) → Among (joined_at (author e) l) (badge_of p3).joined
        → Among (joined_at (author e) l) (badge_of p2).joined ⊎ Among (joined_at (author e) l) (joined_at (number_of o2) (length (seen_of o2)) ∷ (badge_of o2).joined) → author e ≡ number_of o
    by_joined n e lt at l among (inl a) =
        let le : n ≤ l = ended_at p3 (author e) l n e among at refl in
        absurd (⊎_elim
        (λ (x : Among (joined_at (author e) l) (badge_of p1).joined). let low : l ≤ length (seen_of p0) = within_at p0 (author e) l (subst (λ (b : Badge). Among (joined_at (author e) l) b.joined) split.gave x) in omega (arith, low, le, lt))
        (λ (x : (l ≤ length (seen_of p2)) × ((k : ℕ) (d : Event) → k ≤ l → event_at (seen_of p2) k ≡ Some d → author d ≡ author e → Any (Covers k d) r.talks)). omega (arith, x.0, le, lt, ap (λ (h : History). length h) until))
        (r.joined (author e) l a))
    by_joined n e lt at l among (inr (inl is)) = ap (λ (j : Joined). j.number) is ∙ number_other
    by_joined n e lt at l among (inr (inr a)) = absurd (subst (λ (b : Badge). Among (joined_at (author e) l) b.joined) badge_other a)

    by_had : (n : ℕ) (e : Event) → length (seen_of p0) < n → event_at (seen_of p3) n ≡ Some e → Has (badge_of p3) (author e) → author e ≡ number_of o
    by_had n e lt at (inl own) = absurd (others_above (number_of p2) looks3.others (seen_of p2) n e looks3.by_others (subst (λ (h : History). length h < n) (sym until) lt) (ap (λ (h : History). event_at h n) (sym looks3.is) ∙ at) (own.1 ∙ number3))
    by_had n e lt at (inr t) = by_joined n e lt at t.0 t.1
        (among_either (joined_at (author e) t.0) (badge_of p2).joined (joined_at (number_of o2) (length (seen_of o2)) ∷ (badge_of o2).joined) (subst (λ (b : Badge). Among (joined_at (author e) t.0) b.joined) badge3 t.1))

    -- so each new event is of the other client
    by_other : (n : ℕ) (e : Event) → length (seen_of p0) < n → event_at (seen_of p3) n ≡ Some e → author e ≡ number_of o
    by_other n e lt at = by_had n e lt at (had_at p3 (sole_kept p0 p3 first_beside awaits_beside sole) n e at)

    pub alone_other : IsLawful (seen_of p0) → AreUncut replies → (n : ℕ) → RunsAlone cutting (client n).session block replies (seen_of p0) (seen_of p3)
    alone_other =
        let from : seen_of o ≡ seen_of p0 = split.seen ∙ before in
        session_alone cutting client one count block ready replies (seen_of p0) (seen_of p3) o o2 s from (ends_there cutting client block replies (seen_of p0) o o2 p3 s other from number_other by_other)
        (subst (λ (n : ℕ). AllByRecursion (λ e. author e ≡ n) s.session.more) (sym (named (number_of o))) (more_own cutting client block replies (seen_of p0) o o2 p3 s other from number_other by_other))

  alone_beside : (b : List Command) (met : List Reply) → block ∷ blocks ≡ b ∷ [] → replies ∷ told ≡ met ∷ [] → sole_of p0 ≡ true → IsLawful (seen_of p0) → AreUncut met
      → (n : ℕ) → RunsAlone cutting (client n).session b met (seen_of p0) (seen_of p3)
  alone_beside b met one_block one_reply sole lawful uncut n =
      let same_block = head_is block b blocks [] one_block in
      let same_reply = head_is replies met told [] one_reply in
      subst (λ (z : List Command × List Reply). RunsAlone cutting (client n).session z.0 z.1 (seen_of p0) (seen_of p3)) (λ i. (same_block i, same_reply i))
      (alone_other sole (tail_is block b blocks [] one_block) lawful
      (subst (λ (rs : List Reply). AreUncut rs) (sym same_reply) uncut) n)

  pub run_beside : AreRun cutting client (block ∷ blocks) (replies ∷ told) p0 p3
  run_beside =
      let first_le : length (seen_of p0) ≤ length (seen_of p1) = longer looks.others (seen_of p0) (seen_of p1) looks.is in
      let same : length (seen_of o) ≡ length (seen_of p1) = ap (λ (h : History). length h) split.seen in
      record {
        store = store3 ∙ (r.store ∙ store);
        number = number3 ∙ (r.number ∙ number);
        limit = limit3 ∙ (r.limit ∙ limit);
        first = first_beside;
        awaits = awaits_beside;
        more = looks3.others ++ (r.more ++ looks.others);
        goes_on = looks3.is
            ∙ (ap (λ (h : History). looks3.others ++ h) (r.goes_on ∙ (ap (λ (h : History). r.more ++ h) looks.is ∙ sym (append_assoc r.more looks.others (seen_of p0))))
            ∙ sym (append_assoc looks3.others (r.more ++ looks.others) (seen_of p0)));
        lawful = λ l. looks3.lawful (r.lawful (looks.lawful l));
        without_blocks = λ none. absurd (some_block block blocks none);
        one_alone = alone_beside;
        talks = beside ∷ r.talks;
        talks_are = (ap (λ (n : ℕ). talk_of (client n) block replies s.session.windows) (sym (named (number_of o))), r.talks_are);
        legal = (
          subst (λ (h : History). IsLegalTalk h (length (seen_of p0)) beside) (sym other.is) (talk_later (seen_of o2) other.others (length (seen_of p0)) (length (seen_of o)) beside (omega (arith, first_le, same)) s.session.legal),
          talks_later (seen_of p2) looks3.others (seen_of p3) (length (seen_of p0)) (length (seen_of p1)) r.talks looks3.is first_le r.legal,
        );
        apart = (apart_numbers r.talks r.above, r.apart);
        no_fault = (calm_windows 0 0 s.session.windows calm s.session.faults, r.no_fault);
        above = (
          inr (λ m k. subst (λ (z : ℕ). m < z) (sym (named (number_of o))) (split.above m k)),
          all_map (λ (t : Talk). (t.client.session.client ≡ number_of p1) ⊎ ((m : ℕ) → Knows (badge_of p1) m → m < t.client.session.client)) (λ (t : Talk). (t.client.session.client ≡ number_of p0) ⊎ ((m : ℕ) → Knows (badge_of p0) m → m < t.client.session.client)) r.talks
              (λ t x. ⊎_elim (λ (e : t.client.session.client ≡ number_of p1). inl (e ∙ number)) (λ (f : (m : ℕ) → Knows (badge_of p1) m → m < t.client.session.client). inr (λ m k. f m (knows m k))) x) r.above,
        );
        one_each = (each_beside r.talks r.above, subst (λ (n : ℕ). OneTalkEach n r.talks) number r.one_each);
        own = own_beside;
        joined = λ m l a. joined_beside m l (among_either (joined_at m l) (badge_of p2).joined (joined_at (number_of o2) (length (seen_of o2)) ∷ (badge_of o2).joined) (subst (λ (b : Badge). Among (joined_at m l) b.joined) badge3 a));
      }
