-- First commands, blocks and last commands make a run.
use Rattle.std.proofs.Common.{◌≡◌, ℕ, ◌<◌, ◌≤◌, ◌⊎◌, true, List, [], ◌∷◌, ◌++◌, length, Some, ℤ, refl, sym, ap, ◌∙◌, subst, inl, inr, append_assoc, arith}
use Rattle.std.specs.Prelude.{Any}
use Rattle.std.specs.List.{AllByRecursion}
use Rattle.std.proofs.lemmas.Bool.{cases_lt}
use Rattle.turn_cell.specs.declared.badge.Badge.{Badge}
use Rattle.turn_cell.specs.Badges.{Among, Has, IsSole, joined_at}
use Rattle.turn_cell.proofs.Sole.{awaits_none, sole_again}
use Rattle.bucket_core.specs.declared.event.Event.{Event}
use Rattle.bucket_core.specs.History.{History, author, event_at}
use Rattle.bucket_shared.specs.declared.pass.Pass.{Pass}
use Rattle.bucket_shared.specs.Passes.{badge_of, seen_of, number_of, sole_of}
use Rattle.bucket_shared.specs.Sole.{is_sole}
use Rattle.bucket_shared.proofs.Passes.{used_of}
use Rattle.bucket_shared.proofs.SoleSeats.{IsSole-found, is_sole-true}
use Rattle.expr_clause.specs.declared.command.Command.{Command}
use Rattle.reply_model.specs.declared.reply.Reply.{Reply}
use Rattle.reply_model.specs.Windows.{Client}
use Rattle.reply_model.specs.Blocks.{Cutting}
use Rattle.reply_model.specs.Runs.{Talk, IsLegalTalk, IsLegalRun, Covers, AllCovered, end_of, latest_end}
use Rattle.client_sessions.specs.declared.parts.PartReplies.{PartReplies}
use Rattle.client_sessions.specs.Sessions.{talk_of, AreNamed, IsSession}
use Rattle.client_sessions.specs.Blocks.{IsSessionOf, AreTalksOf, OneTalkEach, AreRun}
use Rattle.client_sessions.specs.Parts.{IsRun}
use Rattle.client_sessions.proofs.BlockRuns.{longer}
use Rattle.client_sessions.proofs.Events.{event_within, event_at_more, any_here, any_there}
use Rattle.client_sessions.proofs.OneBlock.{OneSession, session_alone}
use Rattle.client_sessions.proofs.Passes.{had_at, ended_at, within_at}
use Rattle.client_sessions.proofs.Talks.{calm, talk_later, talks_later, apart_before, apart_behind, latest_within}
use Rattle.client_sessions.proofs.Windows.{ends_within, starts_from, stops_within, calm_windows}

-- each talk of the blocks is at one moment
moments_are : (client : ℕ → Client) (moment : ℤ) (one : (n : ℕ) → (client n).session.moment ≡ moment) (blocks : List (List Command)) (told : List (List Reply)) (talks : List Talk) → AreTalksOf client blocks told talks → AllByRecursion (λ (t : Talk). t.client.session.moment ≡ moment) talks
moments_are client moment one [] [] [] all = tt
moments_are client moment one (b ∷ blocks) (r ∷ told) (t ∷ talks) all = (ap (λ (x : Talk). x.client.session.moment) all.0 ∙ one t.client.session.client, moments_are client moment one blocks told talks all.1)
moments_are client moment one [] [] (t ∷ talks) all = absurd all
moments_are client moment one [] (r ∷ told) talks all = absurd all
moments_are client moment one (b ∷ blocks) [] talks all = absurd all
moments_are client moment one (b ∷ blocks) (r ∷ told) [] all = absurd all

module _ (cutting : Cutting) (client : ℕ → Client) (named : (n : ℕ) → (client n).session.client ≡ n) (moment : ℤ) (one : (n : ℕ) → (client n).session.moment ≡ moment) (session : OneSession client) (count : ℕ) (first : List Command) (blocks : List (List Command)) (last : List Command) (first_ready : AreNamed count first) (last_ready : AreNamed count last) (replies : PartReplies) (p0 p1 p2 p3 : Pass) (sole : sole_of p0 ≡ true)
    (a : IsSessionOf cutting client first replies.first p0 p1) (r : AreRun cutting client blocks replies.blocks p1 p2) (b : IsSessionOf cutting client last replies.last p2 p3) where
  -- ---- the pass is sole again

  sole_behind : IsSole (badge_of p2)
  sole_behind =
      let was : IsSole (badge_of p1) = subst IsSole (sym a.badge) (IsSole-found (badge_of p0) sole) in
      sole_again (badge_of p2) (used_of p2) (r.first was.1) (r.awaits [] (awaits_none (badge_of p1) was))

  pub sole_last : sole_of p2 ≡ true
  sole_last = is_sole-true (badge_of p2) sole_behind

  pub sole_end : sole_of p3 ≡ true
  sole_end = ap is_sole b.badge ∙ sole_last

  -- ---- the talks

  number_last : number_of p2 ≡ number_of p0
  number_last = r.number ∙ ap (λ (x : Badge). x.number) a.badge

  -- the last commands are those of the same client
  end : IsSession cutting (client (number_of p0)) (sole_of p2) 0 0 last replies.last (seen_of p2) (seen_of p3)
  end = subst (λ (n : ℕ). IsSession cutting (client n) (sole_of p2) 0 0 last replies.last (seen_of p2) (seen_of p3)) number_last b.session

  abbrev begin_talk : Talk
  begin_talk = talk_of (client (number_of p0)) first replies.first a.session.windows

  abbrev end_talk : Talk
  end_talk = talk_of (client (number_of p0)) last replies.last end.windows

  le1 : length (seen_of p0) ≤ length (seen_of p1)
  le1 = longer a.session.more (seen_of p0) (seen_of p1) a.session.goes_on

  le2 : length (seen_of p1) ≤ length (seen_of p2)
  le2 = longer r.more (seen_of p1) (seen_of p2) r.goes_on

  -- the history goes on
  goes_on : seen_of p3 ≡ (end.more ++ (r.more ++ a.session.more)) ++ seen_of p0
  goes_on = end.goes_on
      ∙ (ap (λ (h : History). end.more ++ h) (r.goes_on ∙ (ap (λ (h : History). r.more ++ h) a.session.goes_on ∙ sym (append_assoc r.more a.session.more (seen_of p0))))
      ∙ sym (append_assoc end.more (r.more ++ a.session.more) (seen_of p0)))

  -- an event up to the last commands
  at_blocks : (n : ℕ) (e : Event) → n ≤ length (seen_of p2) → event_at (seen_of p3) n ≡ Some e → event_at (seen_of p2) n ≡ Some e
  at_blocks n e le at = sym (event_at_more end.more (seen_of p2) n le) ∙ (ap (λ (h : History). event_at h n) (sym end.goes_on) ∙ at)

  -- ---- each event is covered

  own_covered : (n : ℕ) (e : Event) → length (seen_of p0) < n → event_at (seen_of p3) n ≡ Some e → author e ≡ number_of p0 → Any (Covers n e) (begin_talk ∷ end_talk ∷ r.talks)
  own_covered n e lt at own = elim (cases_lt (length (seen_of p2)) n) [
    | inl beyond ↦ any_there begin_talk (end_talk ∷ r.talks) (any_here end_talk r.talks (named (number_of p0) ∙ sym own, end.covered n beyond (event_within (seen_of p3) n e at)))
    | inr within ↦ elim (cases_lt (length (seen_of p1)) n) [
      | inl after ↦ any_there begin_talk (end_talk ∷ r.talks) (any_there end_talk r.talks (r.own n e after (at_blocks n e within at) (own ∙ sym (ap (λ (x : Badge). x.number) a.badge))))
      | inr before ↦ any_here begin_talk (end_talk ∷ r.talks) (named (number_of p0) ∙ sym own, a.session.covered n lt before)
    ]
  ]

  joined_covered : (n m l : ℕ) (e : Event) → length (seen_of p0) < n → n ≤ l → event_at (seen_of p3) n ≡ Some e → author e ≡ m
      → Among (joined_at m l) (badge_of p1).joined ⊎ ((l ≤ length (seen_of p2)) × ((k : ℕ) (x : Event) → k ≤ l → event_at (seen_of p2) k ≡ Some x → author x ≡ m → Any (Covers k x) r.talks)) → Any (Covers n e) (begin_talk ∷ end_talk ∷ r.talks)
  joined_covered n m l e lt le at own (inl was) =
      let within : l ≤ length (seen_of p0) = within_at p0 m l (subst (λ (x : Badge). Among (joined_at m l) x.joined) a.badge was) in
      absurd (omega (arith, lt, le, within))
  joined_covered n m l e lt le at own (inr x) = any_there begin_talk (end_talk ∷ r.talks) (any_there end_talk r.talks (x.1 n e le (at_blocks n e (omega (arith, le, x.0)) at) own))

  covered_by : (n : ℕ) (e : Event) → length (seen_of p0) < n → event_at (seen_of p3) n ≡ Some e → Has (badge_of p3) (author e) → Any (Covers n e) (begin_talk ∷ end_talk ∷ r.talks)
  covered_by n e lt at (inl own) = own_covered n e lt at (own.1 ∙ (ap (λ (x : Badge). x.number) b.badge ∙ number_last))
  covered_by n e lt at (inr t) =
      joined_covered n (author e) t.0 e lt (ended_at p3 (author e) t.0 n e t.1 at refl) at refl (r.joined (author e) t.0 (subst (λ (x : Badge). Among (joined_at (author e) t.0) x.joined) b.badge t.1))

  covered : AllCovered (seen_of p3) (length (seen_of p0)) (begin_talk ∷ end_talk ∷ r.talks)
  covered n e after before at = covered_by n e after at (had_at p3 sole_end n e at)

  -- ---- the run

  begin_ends : end_of (length (seen_of p0)) a.session.windows ≤ length (seen_of p1)
  begin_ends = ends_within (seen_of p1) (client (number_of p0)) (length (seen_of p0)) first replies.first a.session.windows le1 a.session.legal

  from_first : AllByRecursion (IsLegalTalk (seen_of p3) (length (seen_of p1))) r.talks
  from_first = talks_later (seen_of p2) end.more (seen_of p3) (length (seen_of p1)) (length (seen_of p1)) r.talks end.goes_on (omega arith) r.legal

  legal_first : IsLegalTalk (seen_of p3) (length (seen_of p0)) begin_talk
  legal_first =
      let is : seen_of p3 ≡ (end.more ++ r.more) ++ seen_of p1 = end.goes_on ∙ (ap (λ (h : History). end.more ++ h) r.goes_on ∙ sym (append_assoc end.more r.more (seen_of p1))) in
      subst (λ (h : History). IsLegalTalk h (length (seen_of p0)) begin_talk) (sym is) (talk_later (seen_of p1) (end.more ++ r.more) (length (seen_of p0)) (length (seen_of p0)) begin_talk (omega arith) a.session.legal)

  legal_last : (low : ℕ) → low ≤ length (seen_of p2) → IsLegalTalk (seen_of p3) low end_talk
  legal_last low le = talk_later (seen_of p3) [] low (length (seen_of p2)) end_talk le end.legal

  clients_end : latest_end (end_of (length (seen_of p0)) a.session.windows) r.talks ≤ length (seen_of p2)
  clients_end = latest_within (seen_of p2) (end_of (length (seen_of p0)) a.session.windows) r.talks (omega (arith, begin_ends, le2))
      (talks_later (seen_of p2) [] (seen_of p2) (end_of (length (seen_of p0)) a.session.windows) (length (seen_of p1)) r.talks refl begin_ends r.legal)

  legal : IsLegalRun (seen_of p3) (length (seen_of p0)) begin_talk r.talks end_talk
  legal = record {
    first_legal = legal_first;
    clients_legal = talks_later (seen_of p3) [] (seen_of p3) (end_of (length (seen_of p0)) a.session.windows) (length (seen_of p1)) r.talks refl begin_ends from_first;
    last_legal = legal_last (latest_end (end_of (length (seen_of p0)) a.session.windows) r.talks) clients_end;
    same_pass = refl;
    covered = covered;
    apart = (
      apart_before (seen_of p3) (length (seen_of p1)) begin_talk (end_talk ∷ r.talks) (stops_within (seen_of p1) (client (number_of p0)) (length (seen_of p0)) first replies.first a.session.windows a.session.legal)
          (legal_last (length (seen_of p1)) le2, from_first),
      (apart_behind (seen_of p2) (length (seen_of p1)) end_talk r.talks (starts_from (seen_of p3) (client (number_of p0)) (length (seen_of p2)) (length (seen_of p2)) last replies.last end.windows (omega arith) end.legal) r.legal, r.apart),
    );
    no_fault = (calm_windows 0 0 a.session.windows calm a.session.faults, (calm_windows 0 0 end.windows calm end.faults, r.no_fault));
    one_moment = (refl, subst (λ (m : ℤ). AllByRecursion (λ (t : Talk). t.client.session.moment ≡ m) r.talks) (sym (one (number_of p0))) (moments_are client moment one blocks replies.blocks r.talks r.talks_are));
  }

  pub run_is : IsRun cutting client (number_of p0) (record { first = first; blocks = blocks; last = last }) replies (seen_of p0) (seen_of p3)
  run_is = record {
    more = end.more ++ (r.more ++ a.session.more);
    goes_on = goes_on;
    lawful = λ l. end.lawful (r.lawful (a.session.lawful l));
    first = a.session.windows;
    clients = r.talks;
    last = end.windows;
    clients_are = r.talks_are;
    legal = legal;
    one_each = subst (λ (n : ℕ). OneTalkEach n r.talks) (ap (λ (x : Badge). x.number) a.badge) r.one_each;
    behind_first = seen_of p1;
    before_last = seen_of p2;
    first_goes_on = record { more = a.session.more; is = a.session.goes_on };
    blocks_go_on = record { more = r.more; is = r.goes_on };
    last_goes_on = record { more = end.more; is = end.goes_on };
    first_within = a.session.legal;
    clients_within = r.legal;
    last_within = end.legal;
    without_blocks = r.without_blocks;
    first_alone = session_alone cutting client session count first first_ready replies.first (seen_of p0) (seen_of p1) p0 p1 a refl refl (a.session.own sole);
    block_alone = λ block met one_block one_reply l uncut n. r.one_alone block met one_block one_reply (ap is_sole a.badge ∙ sole) (a.session.lawful l) uncut n;
    last_alone = λ l. session_alone cutting client session count last last_ready replies.last (seen_of p2) (seen_of p3) p2 p3 b refl refl (b.session.own sole_last) (r.lawful (a.session.lawful l));
  }
