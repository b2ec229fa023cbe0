-- Where nobody else makes events, it is known how the versions of appends, updates and deletes of a range are laid out.
use Rattle.std.proofs.Common.{◌≡◌, ℕ, ℤ, Bool, List, [], ◌∷◌, ◌++◌, refl, sym, ap, ◌∙◌, subst, false, Option, Some, None, Result, Ok, Err, length}
use Rattle.std.specs.Prelude.{⊤, IfOk, option_map}
use Rattle.std.proofs.lemmas.Bool.{true≢false}
use Rattle.frame_core.specs.declared.refusal.Refusal.{Refusal}
use Rattle.frame_core.specs.declared.refusal.Refused.{Refused}
use Rattle.frame_core.specs.Ranges.{Range}
use Rattle.frame_core.specs.Frames.{Frame, replace_range}
use Rattle.frame_core.specs.RawFrames.{Table, frame_of_table}
use Rattle.segment_cut.specs.Cuttings.{Cutting as Sizes}
use Rattle.key_kind.specs.Names.{Name}
use Rattle.bucket_core.specs.declared.event.Change.{Change}
use Rattle.bucket_core.specs.History.{History}
use Rattle.store_model.specs.Library.{State, state_of, base_of}
use Rattle.store_model.specs.Snapshots.{Library, library_of}
use Rattle.expr_clause.specs.declared.command.Command.{Command}
use Rattle.expr_clause.specs.declared.command.Command.TheVariants as commands
use Rattle.reply_model.specs.declared.outcome.Outcome.{Outcome}
use Rattle.reply_model.specs.declared.reply.Reply.{Reply}
use Rattle.reply_model.specs.Answering.{Session, Answer, ◌then◌, answered, frame_of, stamp_of, base_or, may_append, joined_within}
use Rattle.reply_model.specs.Answers.{answer}
use Rattle.reply_model.specs.CommitAnswers.{append_answer, update_range, may_update, update_answer}
use Rattle.reply_model.specs.Windows.{symbol_of, is_refused}
use Rattle.reply_model.specs.Blocks.{Cutting}
use Rattle.reply_model.specs.Standing.{IsLaid, LaysOut}
use Rattle.reply_model.proofs.Isolated.{some_answer}
use Rattle.frame_write.specs.declared.options.Committed.{Committed}
use Rattle.frame_write.specs.Writes.{reply_to}
use Rattle.reply_model.specs.CommitAnswers.{clear_answer}
use Rattle.append_update.specs.RowBlocks.{LaysAs}
use Rattle.reply_model.specs.Blocks.{run_cutting}
use Rattle.append_update.proofs.AloneLemmas.{base_small}
use Rattle.library_api.specs.Steps.{refusal_reply}
use Rattle.library_api.specs.Frames.{LaysDone, LaysForTable}

-- ---- the reply of a call

same_frame : (a b : Frame) → ◌≡◌ {A = Result Frame Refusal} (Ok a) (Ok b) → a ≡ b
same_frame a b e = cc

module _ (cutting : Sizes) (symbol : Name) (old new : History) where
  pub refused_lays : (table : Table) (next : Frame → State → Result Answer Refusal) (refused : Refused) → LaysForTable cutting symbol table next old new (refusal_reply refused)
  refused_lays table next refused whole is done = absurd (true≢false done)

  pub refused_done : (next : State → Result Answer Refusal) (refused : Refused) → LaysDone cutting symbol next old new (refusal_reply refused)
  refused_done next refused done = absurd (true≢false done)

  pub result_done : (next : State → Result Answer Refusal) (result : Result Committed Refused) → IfOk result (λ done. LaysAs (run_cutting cutting) symbol next done.place old new) → LaysDone cutting symbol next old new (reply_to result)
  result_done next (Ok done) lays went = lays
  result_done next (Err refused) lays went = absurd (true≢false went)

  pub result_lays : (table : Table) (next : Frame → State → Result Answer Refusal) (frame : Frame) (result : Result Committed Refused) → frame_of_table table ≡ Ok frame
      → IfOk result (λ done. LaysAs (run_cutting cutting) symbol (next frame) done.place old new) → LaysForTable cutting symbol table next old new (reply_to result)
  result_lays table next frame result made lays whole is =
      subst (λ f. LaysDone cutting symbol (next f) old new (reply_to result)) (same_frame frame whole (sym made ∙ is)) (result_done (next frame) result lays)

-- ---- an answer that is not refused

-- the answer, if there is one, is no refusal
abbrev pub IsDone : Result Answer Refusal → Type 0
IsDone (Ok a) = is_refused a.outcome ≡ false
IsDone (Err why) = ⊤

done_then : {A : Type 0} (x : Result A Refusal) (next : A → Result Answer Refusal) → ((a : A) → IsDone (next a)) → IsDone (x then next)
done_then (Ok a) next f = f a
done_then (Err why) next f = tt

pub append_done : (st : State) (prune : Bool) (at : ℤ) (frame : Frame) → IsDone (append_answer st prune at frame)
append_done st prune at frame = done_then (may_append (base_of st) frame) _ (λ f. done_then (joined_within (λ old new. old ++ new) (base_of st) f) _ (λ g. refl))

pub update_done : (st : State) (upsert prune : Bool) (at : ℤ) (asked : Option Range) (frame : Frame) → IsDone (update_answer st upsert prune at asked frame)
update_done st upsert prune at asked frame =
    done_then (update_range asked frame) _ (λ range. done_then (may_update st upsert (base_of st) frame) _ (λ f. done_then (joined_within (λ old new. replace_range range new old) (base_of st) f) _ (λ g. refl)))

clear_done : (range : Range) (prune : Bool) (at : ℤ) (st : State) → IsDone (clear_answer range prune at st)
clear_done range prune at st = done_then (base_or st) _ (λ v. update_done st false prune at (Some range) (record v.frame { rows = [] }))

-- ---- the version of a command

none_first : (change : Change) (rest : List Change) → [] ≡ change ∷ rest → ⊥
none_first change rest e = cc

-- an answer with a change is no refusal
was_ok : (r : Result Answer Refusal) (outcome : Outcome) (change : Change) (rest : List Change) → answered r ≡ record { outcome = outcome; marks = change ∷ rest } → r ≡ Ok (record { outcome = outcome; marks = change ∷ rest })
was_ok (Ok a) outcome change rest e = ap (λ (x : Answer). Ok x) e
was_ok (Err why) outcome change rest e = absurd (none_first change rest (ap (λ (a : Answer). a.marks) e))

same_name : (a b : Name) → Some a ≡ Some b → a ≡ b
same_name a b e = cc

module _ (c : Cutting) (s : Session) (command : Command) (symbol : Name) (reply : Reply) (old new : History) (named : symbol_of command ≡ Some symbol) where
  -- what the library answers is laid out
  laid_as : (next : State → Result Answer Refusal) → IsDone (next (state_of old symbol)) → (is_refused reply.outcome ≡ false → LaysAs c symbol next reply.place old new) → (change : Change) (rest : List Change)
      → answered (next (state_of old symbol)) ≡ record { outcome = reply.outcome; marks = change ∷ rest } → LaysAs c symbol next reply.place old new × (next (state_of old symbol) ≡ Ok (record { outcome = reply.outcome; marks = change ∷ rest }))
  laid_as next done lays change rest e =
      let ok = was_ok (next (state_of old symbol)) reply.outcome change rest e in
      (lays (subst IsDone ok done), ok)

  -- of a command that brings a frame
  pub frame_lays : (n : ℕ) (next : Frame → State → Result Answer Refusal) → ((l : Library) (q : ℕ) → answer s l l q command ≡ option_map (λ f. answered (f then λ g. next g (l.state symbol))) (frame_of s n))
      → ((f : Frame) (st : State) → IsDone (next f st)) → ((whole : Frame) → frame_of s n ≡ Some (Ok whole) → is_refused reply.outcome ≡ false → LaysAs c symbol (next whole) reply.place old new) → LaysOut c s command reply old new
  frame_lays n next answers done lays cut other change rest other_named answered_is version =
      subst (λ x. IsLaid c x change reply.place old new) (same_name symbol other (sym named ∙ other_named)) (by (frame_of s n) refl (sym (answers (library_of old) (length old)) ∙ answered_is))
    where
      by : (o : Option (Result Frame Refusal)) → frame_of s n ≡ o → option_map (λ f. answered (f then λ g. next g (state_of old symbol))) o ≡ Some (record { outcome = reply.outcome; marks = change ∷ rest })
          → IsLaid c symbol change reply.place old new
      by None is e = absurd cc
      by (Some (Err why)) is e = absurd (none_first change rest (ap (λ (a : Answer). a.marks) (some_answer _ (record { outcome = reply.outcome; marks = change ∷ rest }) e)))
      by (Some (Ok whole)) is e =
          let laid = laid_as (next whole) (done whole (state_of old symbol)) (lays whole is) change rest (some_answer (answered (next whole (state_of old symbol))) (record { outcome = reply.outcome; marks = change ∷ rest }) e) in
          laid.0 (base_small c old symbol cut) change rest reply.outcome laid.1

  -- and of one without a frame
  pub done_lays : (next : State → Result Answer Refusal) → ((l : Library) (q : ℕ) → answer s l l q command ≡ Some (answered (next (l.state symbol)))) → ((st : State) → IsDone (next st))
      → (is_refused reply.outcome ≡ false → LaysAs c symbol next reply.place old new) → LaysOut c s command reply old new
  done_lays next answers done lays cut other change rest other_named answered_is version =
      let laid = laid_as next (done (state_of old symbol)) lays change rest
      (some_answer (answered (next (state_of old symbol))) (record { outcome = reply.outcome; marks = change ∷ rest }) (sym (answers (library_of old) (length old)) ∙ answered_is)) in
      subst (λ x. IsLaid c x change reply.place old new) (same_name symbol other (sym named ∙ other_named)) (laid.0 (base_small c old symbol cut) change rest reply.outcome laid.1)

-- a delete of a range
pub clear_lays : (c : Cutting) (s : Session) (symbol : Name) (range : Range) (at : Option ℤ) (prune : Bool) (reply : Reply) (old new : History)
    → (is_refused reply.outcome ≡ false → LaysAs c symbol (clear_answer range prune (stamp_of s at)) reply.place old new) → LaysOut c s (commands.DeleteRange symbol range at prune) reply old new
clear_lays c s symbol range at prune reply old new lays =
    done_lays c s (commands.DeleteRange symbol range at prune) symbol reply old new refl (clear_answer range prune (stamp_of s at)) (λ l q. refl) (clear_done range prune (stamp_of s at)) lays
