-- The reply of an arm is the reply of the step.
use Rattle.std.proofs.Common.{◌≡◌, ℕ, ℤ, Bool, true, false, ◌⊎◌, inl, inr, Result, Ok, List, length, refl, ap, sym, ◌∙◌, subst, Option, Some, map}
use Rattle.std.specs.Prelude.{slice_get, unwrap_or, option_map}
use Rattle.std.proofs.lemmas.Bool.{true≢false}
use Rattle.std.proofs.lemmas.Option.{slice_get-map}
use Rattle.frame_core.specs.declared.raw.RawFrame.{RawFrame}
use Rattle.frame_core.specs.declared.refusal.Refusal.{Refusal}
use Rattle.frame_core.specs.Ranges.{Range}
use Rattle.frame_core.specs.Frames.{Frame}
use Rattle.frame_core.specs.RawFrames.{table_of, frame_of_table}
use Rattle.index_tree.specs.declared.index.Slot.{Slot}
use Rattle.index_tree.specs.declared.index.Index.{Index}
use Rattle.key_kind.specs.Names.{Name}
use Rattle.bucket_core.specs.declared.event.Change.TheVariants as changes
use Rattle.bucket_core.specs.History.{History}
use Rattle.store_model.specs.Library.{State, first_of}
use Rattle.store_model.specs.Snapshots.{Library}
use Rattle.store_model.specs.Links.{links}
use Rattle.expr_clause.specs.declared.command.Command.{Command}
use Rattle.expr_clause.specs.declared.command.Command.TheVariants as commands
use Rattle.reply_model.specs.declared.reply.Reply.{Reply}
use Rattle.reply_model.specs.Kinds.{kind_of, kind_makes}
use Rattle.reply_model.specs.Answering.{Session, Answer, ◌then◌, answered, frame_of, stamp_of}
use Rattle.reply_model.specs.Answers.{answer}
use Rattle.reply_model.specs.Windows.{Window, Client, symbol_of}
use Rattle.reply_model.specs.Legal.{IsLegalReply}
use Rattle.reply_model.specs.Runs.{IsIsolated, LegalIsIsolated}
use Rattle.reply_model.specs.Standing.{GrowsAlone, is_served, IsStep, IsLaid, LaysOut, LegalAloneSteps, LegalReclaimsAlone}
use Rattle.reply_model.proofs.Places.{history_at_end}
use Rattle.reply_model.proofs.GridCounts.{write_is_laid}
use Rattle.reply_model.proofs.LaidWrites.{link_with, write_lays_out, none_lays_out}
use Rattle.version_chain.specs.Traces.{GoesOn}
use Rattle.frame_write.specs.declared.options.Options.{Options}
use Rattle.reply_model.specs.CommitAnswers.{clear_answer}
use Rattle.reply_model.specs.Blocks.{run_cutting}
use Rattle.library_api.specs.declared.settings.Settings.{Settings}
use Rattle.library_api.specs.Steps.{is_carried_out, client_of, IsLegalIn, IsLegalForAll, IsLegalWithTries, IsIsolatedIn, LooksFirst, IsStepAlone}
use Rattle.library_api.specs.Frames.{IsLegalForTable, IsLegalWithStamp, IsWrittenAlone, StandsBehindPuts, LaysDone, LaysForTable}
use Rattle.library_api.proofs.LayLemmas.{IsDone, frame_lays, clear_lays}

-- how a frame is written by a command of these settings
abbrev pub options_of : Settings → Option ℤ → Bool → Options
options_of settings at prune = record { cutting = settings.cutting; tries = settings.tries; at = unwrap_or at settings.moment; prune = prune }

-- the frame of the number that a command names
frame_there : (frames : List RawFrame) (n : ℕ) (raw : RawFrame) → slice_get frames n ≡ Some raw → slice_get (map table_of frames) n ≡ Some (table_of raw)
frame_there frames n raw got = slice_get-map table_of frames n ∙ ap (option_map table_of) got

module _ (frames : List RawFrame) (settings : Settings) (number limit before now : ℕ) (old new : History) (command : Command) (reply : Reply) where
  -- a reply that is legal for all clients of the number is legal for the library's
  pub any_command : (c : Command) → command ≡ c → IsLegalForAll number before now old new c reply → IsLegalIn (client_of frames settings number limit) before now old new command reply
  any_command c is legal = subst (λ c. IsLegalIn (client_of frames settings number limit) before now old new c reply) (sym is) (legal (client_of frames settings number limit) refl)

  -- so is one that is legal whatever the session brings beside its tries
  pub tried_command : (c : Command) → command ≡ c → IsLegalWithTries limit number settings.tries before now old new c reply → IsLegalIn (client_of frames settings number limit) before now old new command reply
  tried_command c is legal = subst (λ c. IsLegalIn (client_of frames settings number limit) before now old new c reply) (sym is) (legal (client_of frames settings number limit).session refl refl)

  -- so is one that is legal for all sessions that bring the frame of its number
  pub table_command : (make : Options → ℕ → Option ℤ → Command) (n : ℕ) (at : Option ℤ) (prune : Bool) (options : Options) (raw : RawFrame) → command ≡ make (options_of settings at prune) n at
      → options ≡ options_of settings at prune → slice_get frames n ≡ Some raw
      → IsLegalForTable limit number options.tries (table_of raw) options.at (make options) before now old new reply → IsLegalIn (client_of frames settings number limit) before now old new command reply
  table_command make n at prune options raw is chosen got legal =
      let here : IsLegalForTable limit number settings.tries (table_of raw) (unwrap_or at settings.moment) (make (options_of settings at prune)) before now old new reply =
      subst (λ o. IsLegalForTable limit number o.tries (table_of raw) o.at (make o) before now old new reply) chosen legal in
      subst (λ c. IsLegalIn (client_of frames settings number limit) before now old new c reply) (sym is)
      (here (client_of frames settings number limit).session n at (record { client_is = refl; tries_are = refl; table_is = frame_there frames n raw got; stamp_is = refl }))

  -- and one that is legal for all sessions that give it its stamp
  pub stamped_command : (make : Options → Option ℤ → Command) (at : Option ℤ) (prune : Bool) (options : Options) → command ≡ make (options_of settings at prune) at → options ≡ options_of settings at prune
      → IsLegalWithStamp limit number options.tries options.at (make options) before now old new reply → IsLegalIn (client_of frames settings number limit) before now old new command reply
  stamped_command make at prune options is chosen legal =
      let here : IsLegalWithStamp limit number settings.tries (unwrap_or at settings.moment) (make (options_of settings at prune)) before now old new reply =
      subst (λ o. IsLegalWithStamp limit number o.tries o.at (make o) before now old new reply) chosen legal in
      subst (λ c. IsLegalIn (client_of frames settings number limit) before now old new c reply) (sym is)
      (here (client_of frames settings number limit).session at (record { client_is = refl; tries_are = refl; stamp_is = refl }))

-- ---- one client alone

-- a command that is carried out is served, or it is a reclaim
served_or_reclaim : (command : Command) → is_carried_out command ≡ true → (is_served command ≡ true) ⊎ ((symbol : Name) × (command ≡ commands.Reclaim symbol))
served_or_reclaim (commands.Reclaim symbol) out = inr (symbol, refl)
served_or_reclaim commands.Symbols out = inl refl
served_or_reclaim commands.Snapshots out = inl refl
served_or_reclaim (commands.Read symbol as_of range columns clauses) out = inl refl
served_or_reclaim command out = inl out

-- a command that is served is no reclaim
pub no_reclaim : {P : Type 0} (command c : Command) (symbol : Name) → command ≡ c → is_served c ≡ true → command ≡ commands.Reclaim symbol → P
no_reclaim command c symbol is served reclaim = absurd (true≢false (sym served ∙ ap is_served (sym is ∙ reclaim)))

-- a legal step without events of others is one of a run alone
pub step_alone : LegalAloneSteps → LegalReclaimsAlone → (client : Client) (settings : Settings) (before now : ℕ) (sole : Bool) (old new : History) (command : Command) (reply : Reply) → is_carried_out command ≡ true
    → GoesOn client.session.client sole old new → IsLegalIn client before now old new command reply
    → (GrowsAlone client.session.client old new → LaysOut (run_cutting settings.cutting) client.session command reply old new)
    → ((symbol : Name) → command ≡ commands.Reclaim symbol → LooksFirst client.session.client old new reply) → IsStepAlone settings client old new command reply
step_alone theorem reclaims client settings before now sole old new command reply out grown legal lays looked lawful own whole = by (served_or_reclaim command out)
  where
    window : Window
    window = record { start = length old; stop = length new; faulted = true }

    by : (is_served command ≡ true) ⊎ ((symbol : Name) × (command ≡ commands.Reclaim symbol)) → IsStep (run_cutting settings.cutting) client.session command reply old new
    by (inl served) = theorem old new (run_cutting settings.cutting) client command reply true (grown.lawful lawful) own (legal true (λ rose. refl)) served whole (lays own)
    by (inr found) =
        subst (λ (c : Command). IsStep (run_cutting settings.cutting) client.session c reply old new) (sym found.1)
        (reclaims old new (run_cutting settings.cutting) client found.0 reply true (grown.lawful lawful) own
        (subst (λ (c : Command). IsLegalReply new client c reply window) found.1 (legal true (λ rose. refl))) whole (looked found.0 found.1 own))

-- a legal step is isolated
pub step_isolated : LegalIsIsolated → (client : Client) (before now : ℕ) (old new : History) (command : Command) (reply : Reply) → IsLegalIn client before now old new command reply → IsIsolatedIn client old new command reply
step_isolated theorem client before now old new command reply legal =
    let window : Window = record { start = length old; stop = length new; faulted = true } in
    subst (λ (h : History). IsIsolated h client command reply window) (history_at_end new) (theorem new client command reply window (legal true (λ rose. refl)))

-- what is said of the one command is said of the other
lays_as : (settings : Settings) (s : Session) (old new : History) (command c : Command) (reply : Reply) → command ≡ c → LaysOut (run_cutting settings.cutting) s c reply old new → LaysOut (run_cutting settings.cutting) s command reply old new
lays_as settings s old new command c reply is lays = subst (λ c. LaysOut (run_cutting settings.cutting) s c reply old new) (sym is) lays

-- a command that makes no version leaves nothing open
pub none_lays : (settings : Settings) (s : Session) (old new : History) (command c : Command) (reply : Reply) → command ≡ c → kind_makes (kind_of c) ≡ false → LaysOut (run_cutting settings.cutting) s command reply old new
none_lays settings s old new command c reply is none = lays_as settings s old new command c reply is (none_lays_out (run_cutting settings.cutting) s c reply old new none)

-- how the write is laid out
pub write_lays : (frames : List RawFrame) (settings : Settings) (number limit : ℕ) (old new : History) (command : Command) (reply : Reply) (symbol : Name) (n : ℕ) (at : Option ℤ) (prune : Bool) (options : Options) (raw : RawFrame)
    → command ≡ commands.Write symbol n at prune → options ≡ options_of settings at prune → slice_get frames n ≡ Some raw
    → StandsBehindPuts symbol (table_of raw) options.cutting old new reply → LaysOut (run_cutting settings.cutting) (client_of frames settings number limit).session command reply old new
write_lays frames settings number limit old new command reply symbol n at prune options raw is chosen got stands =
    lays_as settings (client_of frames settings number limit).session old new command (commands.Write symbol n at prune) reply is
    (write_lays_out (run_cutting settings.cutting) (client_of frames settings number limit).session symbol n at prune reply old new (λ whole brought went.
    of_grid whole (subst (λ o. StandsBehindPuts symbol (table_of raw) o.cutting old new reply) chosen stands whole
    (made whole (frame_of_table (table_of raw)) (sym (ap (option_map frame_of_table) (frame_there frames n raw got)) ∙ brought)) went)))
  where
    made : (whole : Frame) (r : Result Frame Refusal) → Some r ≡ Some (Ok whole) → r ≡ Ok whole
    made whole r e = cc

    of_grid : (whole : Frame) → IsWrittenAlone symbol whole settings.cutting old new reply.place
        → IsLaid (run_cutting settings.cutting) symbol (changes.Wrote whole (stamp_of (client_of frames settings number limit).session at)) reply.place old new
    of_grid whole w =
        let newest = link_with (first_of (links new symbol)) w.linked.index w.linked.newest in
        write_is_laid (run_cutting settings.cutting) symbol whole (stamp_of (client_of frames settings number limit).session at) reply.place old new newest.0 w.linked.cutting_is.some_rows w.linked.cutting_is.some_cols newest.1
        (ap (λ (i : Index). map (λ (s : Slot). s.part) i.slots) newest.2 ∙ w.linked.parts_are) w.stands

-- how the version of a command that brings a frame and shares row blocks is laid out
pub table_lays : (frames : List RawFrame) (settings : Settings) (number limit : ℕ) (old new : History) (command : Command) (reply : Reply) (symbol : Name) (n : ℕ) (at : Option ℤ) (prune : Bool) (options : Options) (raw : RawFrame)
    → (c : Command) (next : Options → Frame → State → Result Answer Refusal) → symbol_of c ≡ Some symbol → command ≡ c → options ≡ options_of settings at prune → slice_get frames n ≡ Some raw
    → ((l : Library) (q : ℕ) → answer (client_of frames settings number limit).session l l q c ≡ option_map (λ f. answered (f then λ g. next (options_of settings at prune) g (l.state symbol))) (frame_of (client_of frames settings number limit).session n))
    → ((o : Options) (f : Frame) (st : State) → IsDone (next o f st)) → LaysForTable options.cutting symbol (table_of raw) (next options) old new reply
    → LaysOut (run_cutting settings.cutting) (client_of frames settings number limit).session command reply old new
table_lays frames settings number limit old new command reply symbol n at prune options raw c next named is chosen got answers done lays =
    let s = (client_of frames settings number limit).session in
    let o = options_of settings at prune in
    lays_as settings s old new command c reply is
    (frame_lays (run_cutting settings.cutting) s c symbol reply old new named n (next o) answers (done o)
    (λ whole brought. subst (λ x. LaysForTable x.cutting symbol (table_of raw) (next x) old new reply) chosen lays whole
    (made whole (frame_of_table (table_of raw)) (sym (ap (option_map frame_of_table) (frame_there frames n raw got)) ∙ brought))))
  where
    made : (whole : Frame) (r : Result Frame Refusal) → Some r ≡ Some (Ok whole) → r ≡ Ok whole
    made whole r e = cc

-- and that of a delete of a range
pub range_lays : (frames : List RawFrame) (settings : Settings) (number limit : ℕ) (old new : History) (command : Command) (reply : Reply) (symbol : Name) (range : Range) (at : Option ℤ) (prune : Bool) (options : Options)
    → command ≡ commands.DeleteRange symbol range at prune → options ≡ options_of settings at prune → LaysDone options.cutting symbol (clear_answer range options.prune options.at) old new reply
    → LaysOut (run_cutting settings.cutting) (client_of frames settings number limit).session command reply old new
range_lays frames settings number limit old new command reply symbol range at prune options is chosen lays =
    let s = (client_of frames settings number limit).session in
    lays_as settings s old new command (commands.DeleteRange symbol range at prune) reply is
    (clear_lays (run_cutting settings.cutting) s symbol range at prune reply old new (subst (λ o. LaysDone o.cutting symbol (clear_answer range o.prune o.at) old new reply) chosen lays))
