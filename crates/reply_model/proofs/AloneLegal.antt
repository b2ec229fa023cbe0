-- Each legal reply for a window without events of others is a step of the fold: commits, and commands that only look.
use Rattle.std.proofs.Common.{◌≡◌, ℕ, suc, ◌+◌, ◌-◌, ◌≤◌, Bool, true, false, List, [], ◌∷◌, ◌++◌, length, Option, Some, None, Ok, refl, sym, ◌∙◌, ap, subst, inl, inr, arith, length-append, cond}
use Rattle.std.specs.Prelude.{⊤, ℤ, nat_eq, nat_le, option_map, Result, Err}
use Rattle.std.proofs.lemmas.Bool.{eq-eqb, le-leb, and_from}
use Rattle.frame_core.specs.Frames.{Frame, replace_range}
use Rattle.frame_core.specs.declared.refusal.Refusal.{Refusal}
use Rattle.key_kind.specs.Names.{Name}
use Rattle.key_kind.specs.declared.key.Key.{Key}
use Rattle.bucket_core.specs.declared.event.Change.{Change}
use Rattle.bucket_core.specs.declared.event.Change.TheVariants as changes
use Rattle.bucket_core.specs.declared.event.Event.{Event}
use Rattle.bucket_core.specs.declared.event.Event.TheVariants as events
use Rattle.bucket_core.specs.History.{History, event_at, history_at}
use Rattle.store_model.specs.Library.{State, first_of, base_of}
use Rattle.store_model.specs.Snapshots.{Library, library_of}
use Rattle.store_model.specs.Law.{IsLawful}
use Rattle.expr_clause.specs.declared.command.Command.{Command}
use Rattle.expr_clause.specs.declared.command.Command.TheVariants as commands
use Rattle.reply_model.specs.declared.outcome.Outcome.{Outcome}
use Rattle.reply_model.specs.declared.reply.Reply.{Reply}
use Rattle.reply_model.specs.CommitAnswers.{append_answer, update_range, may_update, update_answer, bury_answer, buried_outcome, burial_answer}
use Rattle.reply_model.specs.Kinds.{Burial}
use Rattle.reply_model.specs.Answering.{Session, Answer, base_or, may_append, joined_within, ◌then◌, answered, refused, frame_of, stamp_of, committed, removed, pruned}
use Rattle.reply_model.specs.Answers.{made_answer, answer}
use Rattle.reply_model.specs.Windows.{Client, library_at, refer_places, symbol_of, listed_at}
use Rattle.store_model.specs.Links.{links}
use Rattle.store_model.specs.Commits.{is_version}
use Rattle.frame_core.specs.Ranges.{Range}
use Rattle.reply_model.specs.Rows.{IsAnswer}
use Rattle.reply_model.specs.Blocks.{Cutting, puts_of_version}
use Rattle.reply_model.specs.Sole.{Alone, events_of, step_alone}
use Rattle.reply_model.specs.Standing.{StandsAs, StepsTo}
use Rattle.reply_model.proofs.Later.{history_at_later}
use Rattle.reply_model.proofs.Places.{history_at_end}
use Rattle.reply_model.proofs.Covering.{event_at_end, some_is}
use Rattle.reply_model.proofs.Isolated.{some_answer}
use Rattle.reply_model.proofs.TryCounts.{PutsKeys}
use Rattle.reply_model.proofs.Makings.{Makes}
use Rattle.reply_model.proofs.AloneShapes.{shapes_behind, cut_behind}
use Rattle.reply_model.proofs.AloneWindows.{Commits}
use Rattle.reply_model.proofs.AloneSteps.{TellsSame, is_told, run_tells, told_step, commit_step}

-- ---- lists

first_is : {X : Type 0} (x y : X) (xs ys : List X) → x ∷ xs ≡ y ∷ ys → x ≡ y
first_is x y xs ys e = cc

not_none : {X : Type 0} (x : X) (xs : List X) → [] ≡ x ∷ xs → ⊥
not_none x xs e = cc

-- ---- how many events a commit is

-- an answer that makes a version first, if it commits
abbrev pub OnlyMakes : Result Answer Refusal → Type 0
OnlyMakes (Err why) = ⊤
OnlyMakes (Ok a) = (change : Change) × (rest : List Change) × (a.marks ≡ change ∷ rest) × (is_version change ≡ true)

makes_then : {A : Type 0} (x : Result A Refusal) (next : A → Result Answer Refusal) → ((a : A) → OnlyMakes (next a)) → OnlyMakes (x then next)
makes_then (Ok a) next f = f a
makes_then (Err why) next f = tt

commit_makes : (st : State) (prune : Bool) (change : Change) → is_version change ≡ true → OnlyMakes (Ok (committed st prune change))
commit_makes st prune change e = (change, pruned st prune, refl, e)

append_makes : (st : State) (prune : Bool) (at : ℤ) (frame : Frame) → OnlyMakes (append_answer st prune at frame)
append_makes st prune at frame = makes_then (may_append (base_of st) frame) (λ f. joined_within (λ old new. old ++ new) (base_of st) f then λ g. Ok (committed st prune (changes.Appended g at)))
    (λ f. makes_then (joined_within (λ old new. old ++ new) (base_of st) f) (λ g. Ok (committed st prune (changes.Appended g at))) (λ g. commit_makes st prune (changes.Appended g at) refl))

update_makes : (st : State) (upsert prune : Bool) (at : ℤ) (asked : Option Range) (frame : Frame) → OnlyMakes (update_answer st upsert prune at asked frame)
update_makes st upsert prune at asked frame = makes_then (update_range asked frame)
    (λ range. may_update st upsert (base_of st) frame then λ f. joined_within (λ old new. replace_range range new old) (base_of st) f then λ g. Ok (committed st prune (changes.Updated g range at)))
    (λ range. makes_then (may_update st upsert (base_of st) frame)
    (λ f. joined_within (λ old new. replace_range range new old) (base_of st) f then λ g. Ok (committed st prune (changes.Updated g range at)))
    (λ f. makes_then (joined_within (λ old new. replace_range range new old) (base_of st) f) (λ g. Ok (committed st prune (changes.Updated g range at))) (λ g. commit_makes st prune (changes.Updated g range at) refl)))

-- its first change makes a version
version_first : (x : Result Answer Refusal) (outcome : Outcome) (first : Change) (rest : List Change) → OnlyMakes x → Some (answered x) ≡ Some (record { outcome = outcome; marks = first ∷ rest }) → is_version first ≡ true
version_first (Err why) outcome first rest o e = absurd (not_none first rest (ap (λ (a : Answer). a.marks) (some_answer (refused why) (record { outcome = outcome; marks = first ∷ rest }) e)))
version_first (Ok a) outcome first rest o e =
    ap is_version (sym (first_is o.0 first o.1 rest (sym o.2 ∙ ap (λ (x : Answer). x.marks) (some_answer a (record { outcome = outcome; marks = first ∷ rest }) e)))) ∙ o.3

-- so it is of a frame of the session
frame_version_first : (o : Option (Result Frame Refusal)) (next : Frame → Result Answer Refusal) (outcome : Outcome) (first : Change) (rest : List Change) → ((f : Frame) → OnlyMakes (next f))
    → option_map (λ x. answered (x then next)) o ≡ Some (record { outcome = outcome; marks = first ∷ rest }) → is_version first ≡ true
frame_version_first None next outcome first rest makes e = absurd cc
frame_version_first (Some x) next outcome first rest makes e = version_first (x then next) outcome first rest (makes_then x next makes) e

-- so it is of each command that makes one
pub made_first : (s : Session) (st : State) (c : Command) (outcome : Outcome) (first : Change) (rest : List Change) → made_answer s st c ≡ Some (record { outcome = outcome; marks = first ∷ rest }) → is_version first ≡ true
made_first s st (commands.Write symbol frame at prune) outcome first rest e =
    frame_version_first (frame_of s frame) (λ f. Ok (committed st prune (changes.Wrote f (stamp_of s at)))) outcome first rest (λ f. commit_makes st prune (changes.Wrote f (stamp_of s at)) refl) e
made_first s st (commands.Append symbol frame at prune) outcome first rest e =
    frame_version_first (frame_of s frame) (λ f. append_answer st prune (stamp_of s at) f) outcome first rest (λ f. append_makes st prune (stamp_of s at) f) e
made_first s st (commands.Update symbol frame range upsert at prune) outcome first rest e =
    frame_version_first (frame_of s frame) (λ f. update_answer st upsert prune (stamp_of s at) range f) outcome first rest (λ f. update_makes st upsert prune (stamp_of s at) range f) e
made_first s st (commands.DeleteRange symbol range at prune) outcome first rest e =
    version_first (base_or st then λ v. update_answer st false prune (stamp_of s at) (Some range) (record v.frame { rows = [] })) outcome first rest
    (makes_then (base_or st) (λ v. update_answer st false prune (stamp_of s at) (Some range) (record v.frame { rows = [] }))
    (λ v. update_makes st false prune (stamp_of s at) (Some range) (record v.frame { rows = [] }))) e
made_first s st c outcome first rest e = absurd cc

-- an answer that only buries
abbrev pub OnlyBuries : Result Answer Refusal → Type 0
OnlyBuries (Err why) = ⊤
OnlyBuries (Ok a) = (numbers : List ℕ) × (a.marks ≡ removed numbers)

pub burial_buries : (burial : Burial) (st : State) → OnlyBuries (burial_answer burial st)
burial_buries burial st = by (bury_answer burial st)
  where
    by : (r : Result (List ℕ) Refusal) → OnlyBuries (r then λ numbers. Ok (record { outcome = buried_outcome burial (length numbers); marks = removed numbers }))
    by (Ok numbers) = (numbers, refl)
    by (Err why) = tt

-- its first change buries
pub buried_first : (x : Result Answer Refusal) (outcome : Outcome) (first : Change) (rest : List Change) → OnlyBuries x → Some (answered x) ≡ Some (record { outcome = outcome; marks = first ∷ rest })
    → (numbers : List ℕ) × (first ≡ changes.Removed numbers)
buried_first (Err why) outcome first rest o e = absurd (not_none first rest (ap (λ (a : Answer). a.marks) (some_answer (refused why) (record { outcome = outcome; marks = first ∷ rest }) e)))
buried_first (Ok a) outcome first rest o e = of_removed o.0 (sym o.1 ∙ ap (λ (x : Answer). x.marks) (some_answer a (record { outcome = outcome; marks = first ∷ rest }) e))
  where
    of_removed : (ns : List ℕ) → removed ns ≡ first ∷ rest → (numbers : List ℕ) × (first ≡ changes.Removed numbers)
    of_removed [] f = absurd (not_none first rest f)
    of_removed (n ∷ ns) f = (n ∷ ns, sym (first_is (changes.Removed (n ∷ ns)) first [] rest f))

-- ---- a reply to a command of one symbol

-- a commit has the events that the run gives it, and its puts are the blocks that the run makes
pub record IsCounted (c : Cutting) (r : Alone) (symbol : Name) (makes : Bool) (old new behind : History) (entry : Key) (puts : PutsKeys symbol makes entry behind) (first : Change) (rest : List Change) : Type 0 where
  pub events : suc (length (behind ++ old)) ≡ r.events + events_of c (r.library.state symbol) (r.shape symbol) (first ∷ rest)
  pub blocks : Makes c (r.library.state symbol) (r.shape symbol) makes (links old symbol) (first_of (links new symbol)) puts.tiles first rest

-- a commit's events are the puts of the blocks that it makes, its index, its element and its Refer
pub made_events : (c : Cutting) (r : Alone) (symbol : Name) (makes : Bool) (old new behind : History) (entry : Key) (puts : PutsKeys symbol makes entry behind) (first : Change) (rest : List Change) → StandsAs c old r
    → Makes c (r.library.state symbol) (r.shape symbol) makes (links old symbol) (first_of (links new symbol)) puts.tiles first rest → IsCounted c r symbol makes old new behind entry puts first rest
made_events c r symbol makes old new behind entry puts first rest stands made = record { events = by_blocks makes puts made; blocks = made }
  where
    by_blocks : (m : Bool) (p : PutsKeys symbol m entry behind) → Makes c (r.library.state symbol) (r.shape symbol) m (links old symbol) (first_of (links new symbol)) p.tiles first rest
        → suc (length (behind ++ old)) ≡ r.events + events_of c (r.library.state symbol) (r.shape symbol) (first ∷ rest)
    by_blocks true p m = omega (arith, stands.events, length-append behind old, p.size, p.with_index refl, m.counted, ap (λ o. puts_of_version o + 2) m.is)
    by_blocks false p m = omega (arith, stands.events, length-append behind old, p.size, (p.without refl).0, (p.without refl).1, ap (λ o. puts_of_version o + 2) m.is)

-- what is known of a reply without list and without holds that are left
pub record Plain (s : Session) (command : Command) (reply : Reply) (old new : History) : Type 0 where
  pub told : is_told command ≡ true
  pub unlisted : reply.listed ≡ None
  pub unleft : reply.left ≡ []
  pub after : length old ≤ reply.place
  pub before : reply.place ≤ length new
  pub commits : reply.commits ≡ refer_places s.client (length old) new

-- nothing was added, and the reply has no commit
pub looking : (c : Cutting) (client : Client) (command : Command) (r : Alone) (reply : Reply) (old : History) → StandsAs c old r → Plain client.session command reply old old
    → refer_places client.session.client (length old) old ≡ [] → IsAnswer old client command reply → StepsTo c (step_alone c client.session command r) reply old
looking c client command r reply old stands plain none is =
    let here : reply.place ≡ length old = omega (arith, plain.after, plain.before) in
    elim is [
      | inl told ↦ told_step c client.session command r reply old (library_at old (listed_at reply)) (library_at old reply.place) reply.place plain.told stands
          (subst (λ h. TellsSame r.library (library_of h)) (sym (ap (history_at old) here ∙ history_at_end old)) (run_tells c old r stands))
          here plain.unlisted told.1 plain.unleft told.0
      | inr made ↦ absurd (not_none reply.place [] (sym none ∙ (sym plain.commits ∙ made.6)))
    ]

-- the changes of a Refer
abbrev list_of : Event → List Change
list_of (events.Refer client symbol was entry list) = list
list_of e = []

-- a commit stands
pub committing_reply : (c : Cutting) (client : Client) (command : Command) (symbol : Name) (makes : Bool) (r : Alone) (reply : Reply) (old new : History) → StandsAs c old r → symbol_of command ≡ Some symbol
    → IsLawful new → Plain client.session command reply old new → (k : Commits client.session.client symbol makes old new) → IsAnswer new client command reply
    → ((list : Library) (q : ℕ) (first : Change) (rest : List Change) → answer client.session list (library_of (k.behind ++ old)) q command ≡ Some (record { outcome = reply.outcome; marks = first ∷ rest })
    → reply.place ≡ suc (length (k.behind ++ old)) → IsCounted c r symbol makes old new k.behind k.entry k.puts first rest)
    → StepsTo c (step_alone c client.session command r) reply new
committing_reply c client command symbol makes r reply old new stands named lawful plain k is counted =
    let own : ℕ = client.session.client in
    let before : History = k.behind ++ old in
    let places : refer_places own (length old) new ≡ suc (length before) ∷ [] =
    ap (refer_places own (length old)) k.is
    ∙ (ap (λ b. cond b (refer_places own (length old) before ++ suc (length before) ∷ []) (refer_places own (length old) before))
    (and_from (nat_eq own own) (nat_le (length old) (length before)) (eq-eqb own own refl) (le-leb (length old) (length before) k.kept.later))
    ∙ ap (λ ns. ns ++ suc (length before) ∷ []) k.kept.refers) in
    elim is [
      | inl told ↦ absurd (not_none (suc (length before)) [] (sym told.1 ∙ (plain.commits ∙ places)))
      | inr made ↦
          let here : reply.place ≡ suc (length before) = first_is reply.place (suc (length before)) [] [] (sym made.6 ∙ (plain.commits ∙ places)) in
          let before_is : history_at new (reply.place - 1) ≡ before =
          ap (λ h. history_at h (reply.place - 1)) k.is
          ∙ (ap (history_at (events.Refer own symbol k.was k.entry k.list ∷ before)) (omega (arith, here))
          ∙ (history_at_later before (events.Refer own symbol k.was k.entry k.list ∷ []) (length before) (omega arith) ∙ history_at_end before)) in
          let answered_is : answer client.session (library_at new (listed_at reply)) (library_of before) (reply.place - 1) command ≡ Some (record { outcome = reply.outcome; marks = made.0 ∷ made.1 }) =
          ap (λ h. answer client.session (library_at new (listed_at reply)) (library_of h) (reply.place - 1) command) (sym before_is) ∙ made.3 in
          let list_is : k.list ≡ made.0 ∷ made.1 =
          ap list_of (some_is (events.Refer own symbol k.was k.entry k.list) (events.Refer own made.2 made.5.0 made.5.1 (made.0 ∷ made.1))
          (sym (event_at_end (events.Refer own symbol k.was k.entry k.list) before) ∙ (ap (λ h. event_at h (suc (length before))) (sym k.is) ∙ (ap (event_at new) (sym here) ∙ made.5.2)))) in
          let new_is : new ≡ events.Refer own symbol k.was k.entry (made.0 ∷ made.1) ∷ before = k.is ∙ ap (λ list. events.Refer own symbol k.was k.entry list ∷ before) list_is in
          let count = counted (library_at new (listed_at reply)) (reply.place - 1) made.0 made.1 answered_is here in
          let lawful_is = subst (λ h. IsLawful h) new_is lawful in
          let makes_is = subst (λ h. Makes c (r.library.state symbol) (r.shape symbol) makes (links old symbol) (first_of (links h symbol)) k.puts.tiles made.0 made.1) new_is count.blocks in
          subst (λ h. StepsTo c (step_alone c client.session command r) reply h) (sym new_is)
          (commit_step c client.session command symbol r reply old before k.was k.entry made.0 made.1 (library_at new (listed_at reply)) (reply.place - 1) plain.told named stands k.kept
          here plain.unlisted made.6 plain.unleft answered_is count.events
          (shapes_behind c own symbol makes old k.behind k.was k.entry made.0 made.1 r stands k.kept k.puts lawful_is makes_is) (cut_behind c own symbol makes old k.behind k.was k.entry made.0 made.1 r stands k.kept k.puts lawful_is makes_is))
    ]
