-- The replies to appends, updates and deletes of a range are legal.
use Rattle.std.proofs.Common.{◌≡◌, ℕ, ◌≤◌, ℤ, Bool, [], length, refl, sym, ap, ◌∙◌, subst, inr, arith, Option, Some, None, Result, Ok, Err}
use Rattle.std.specs.Prelude.{option_map}
use Rattle.frame_core.specs.declared.refusal.Refusal.{Refusal}
use Rattle.frame_core.specs.declared.refusal.Refused.{Refused}
use Rattle.frame_core.specs.Ranges.{Range}
use Rattle.frame_core.specs.Frames.{Frame}
use Rattle.key_kind.specs.Names.{Name}
use Rattle.bucket_core.specs.History.{History}
use Rattle.store_model.specs.Library.{State}
use Rattle.store_model.specs.Snapshots.{Library, library_of}
use Rattle.expr_clause.specs.declared.command.Command.{Command}
use Rattle.expr_clause.specs.declared.command.Command.TheVariants as commands
use Rattle.reply_model.specs.declared.reply.Reply.{Reply}
use Rattle.reply_model.specs.Losses.{LosesBase, FindsGone}
use Rattle.reply_model.specs.Answering.{Session, Answer, answered, refused, ◌then◌, frame_of, stamp_of}
use Rattle.reply_model.specs.CommitAnswers.{append_answer, update_answer, update_range, outside}
use Rattle.reply_model.specs.Answers.{answer}
use Rattle.frame_write.specs.declared.options.Committed.{Committed}
use Rattle.frame_write.specs.declared.options.Options.{Options}
use Rattle.frame_write.specs.Tries.{DidTries}
use Rattle.frame_write.specs.Writes.{IsLegalCall, Whole}
use Rattle.frame_write.proofs.CommandLemmas.{MakesVersion, of_append, of_update, of_delete_range}
use Rattle.frame_write.proofs.TriesLemmas.{tries_none}
use Rattle.frame_write.proofs.LegalWrites.{tries_are_legal}
use Rattle.append_update.specs.declared.wish.Wish.{Wish}
use Rattle.append_update.specs.declared.wish.Wish.TheVariants as wishes
use Rattle.append_update.specs.Asking.{answer_to, IsAnswered, Declines, Wants, FitsBase, Loses}
use Rattle.append_update.specs.Replies.{IsLegalAppend, IsLegalUpdate, IsLegalDelete}
use Rattle.append_update.proofs.AskedLemmas.{asked_by, good_range}

-- what all tries did of a wish
abbrev pub AllTries : ℕ → Bool → Name → Wish → Options → ℕ → ℕ → ℕ → ℕ → History → History → Result Committed Refused → Type 0
AllTries client sole symbol wish options most limit before now old new result =
    DidTries client sole symbol (IsAnswered client symbol wish options) (Declines symbol wish options) (Wants symbol wish options) (Loses symbol wish) most limit before now old new result

-- the tries of a command that asks so
wish_is_legal : (s : Session) (c : Command) (sole : Bool) (symbol : Name) (wish : Wish) (options : Options) (client most limit before now : ℕ) (old new : History) (result : Result Committed Refused) → MakesVersion c symbol
    → ((listed l : Library) (p : ℕ) → answer s listed l p c ≡ Some (answered (answer_to wish options.prune options.at (l.state symbol))))
    → ((h : History) (limit : ℕ) (reply : Reply) (look showed : ℕ) → Loses symbol wish h look showed → FindsGone h (record { session = s; limit = limit }) c reply symbol look showed)
    → s.client ≡ client → s.tries ≡ most → AllTries client sole symbol wish options most limit before now old new result → IsLegalCall s c limit before now old new result
wish_is_legal s c sole symbol wish options client most limit before now old new result makes is loses same_client same_tries d =
    tries_are_legal s limit c sole symbol (IsAnswered s.client symbol wish options) (Declines symbol wish options) (Wants symbol wish options) (Loses symbol wish) (asked_by s c symbol wish options makes is loses) before now old new result
    (subst (λ n. AllTries n sole symbol wish options s.tries limit before now old new result) (sym same_client)
    (subst (λ t. AllTries client sole symbol wish options t limit before now old new result) (sym same_tries) d))

-- the answer of a command that brings a frame
with_brought : (s : Session) (n : ℕ) (frame : Frame) (asked : Option ℤ) (at : ℤ) (next : ℤ → Frame → Result Answer Refusal) → frame_of s n ≡ Some (Ok frame) → stamp_of s asked ≡ at
    → option_map (λ f. answered (f then next (stamp_of s asked))) (frame_of s n) ≡ Some (answered (next at frame))
with_brought s n frame asked at next frame_is stamp_is =
    ap (option_map (λ f. answered (f then next (stamp_of s asked)))) frame_is ∙ ap (λ t. Some (answered (next t frame))) stamp_is

pub append_is_legal : (client : ℕ) (sole : Bool) (symbol : Name) (frame : _) (wish : Wish) (options : Options) (limit before now : ℕ) (old new : History) (result : Result Committed Refused)
    → wish ≡ wishes.Append frame → AllTries client sole symbol wish options options.tries limit before now old new result → IsLegalAppend limit client symbol frame.now options before now old new result
append_is_legal client sole symbol frame wish options limit before now old new result is d = λ s n asked b.
    wish_is_legal s (commands.Append symbol n asked options.prune) sole symbol wish options client options.tries limit before now old new result of_append
    (λ listed l p. with_brought s n frame.now asked options.at (λ at f. append_answer (l.state symbol) options.prune at f) b.frame_is b.stamp_is
    ∙ ap (λ w. Some (answered (answer_to w options.prune options.at (l.state symbol)))) (sym is))
    (λ h most reply look showed l. (frame.now, b.frame_is, subst (λ w. LosesBase h symbol (FitsBase w) look showed) is l))
    b.client_is b.tries_are d

-- an update whose range is known
pub same_range : (st : State) (upsert prune : Bool) (at : ℤ) (asked : Option Range) (range : Range) (frame : Frame) → update_range asked frame ≡ Ok range → outside 1 range frame.rows ≡ None
    → update_answer st upsert prune at asked frame ≡ update_answer st upsert prune at (Some range) frame
same_range st upsert prune at asked range frame e inside = rw (e, inside) refl

pub update_is_legal : (client : ℕ) (sole : Bool) (symbol : Name) (frame : _) (asked : Option Range) (range : Range) (upsert : Bool) (wish : Wish) (options : Options) (limit before now : ℕ) (old new : History) (result : Result Committed Refused)
    → wish ≡ wishes.Replace frame range upsert → update_range asked frame.now ≡ Ok range → outside 1 range frame.now.rows ≡ None → AllTries client sole symbol wish options options.tries limit before now old new result
    → IsLegalUpdate limit client symbol frame.now asked upsert options before now old new result
update_is_legal client sole symbol frame asked range upsert wish options limit before now old new result is range_is inside d = λ s n stamp b.
    wish_is_legal s (commands.Update symbol n asked upsert stamp options.prune) sole symbol wish options client options.tries limit before now old new result of_update
    (λ listed l p. with_brought s n frame.now stamp options.at (λ at f. update_answer (l.state symbol) upsert options.prune at asked f) b.frame_is b.stamp_is
    ∙ (ap (λ r. Some (answered r)) (same_range (l.state symbol) upsert options.prune options.at asked range frame.now range_is inside)
    ∙ ap (λ w. Some (answered (answer_to w options.prune options.at (l.state symbol)))) (sym is)))
    (λ h most reply look showed l. (frame.now, b.frame_is, range, range_is, subst (λ w. LosesBase h symbol (FitsBase w) look showed) is l))
    b.client_is b.tries_are d

pub delete_is_legal : (client : ℕ) (sole : Bool) (symbol : Name) (range : Range) (wish : Wish) (options : Options) (limit before now : ℕ) (old new : History) (result : Result Committed Refused)
    → wish ≡ wishes.Clear range → AllTries client sole symbol wish options options.tries limit before now old new result → IsLegalDelete limit client symbol range options before now old new result
delete_is_legal client sole symbol range wish options limit before now old new result is d = λ s stamp b.
    wish_is_legal s (commands.DeleteRange symbol range stamp options.prune) sole symbol wish options client options.tries limit before now old new result of_delete_range
    (λ listed l p. ap (λ t. Some (answered (answer_to (wishes.Clear range) options.prune t (l.state symbol)))) b.stamp_is
    ∙ ap (λ w. Some (answered (answer_to w options.prune options.at (l.state symbol)))) (sym is))
    (λ h most reply look showed l. subst (λ w. LosesBase h symbol (FitsBase w) look showed) is l)
    b.client_is b.tries_are d

-- an update that is refused before a try
pub unranged_is_legal : (client : ℕ) (sole : Bool) (symbol : Name) (frame : Frame) (asked : Option Range) (upsert : Bool) (options : Options) (limit before now place : ℕ) (old : History) (why : Refusal)
    → update_range asked frame ≡ Err why → 1 ≤ options.tries → place ≡ length old → IsLegalUpdate limit client symbol frame asked upsert options before now old old (Err (record { place = place; why = why }))
unranged_is_legal client sole symbol frame asked upsert options limit before now place old why range_is some at = λ s n stamp b.
    let c : Command = commands.Update symbol n asked upsert stamp options.prune in
    tries_are_legal s limit c sole symbol (λ m. ⊥) (λ h w. w ≡ why) (λ h. ⊥) Whole
    (record {
      makes = of_update;
      answers = λ m e. absurd e;
      filled = λ m e. absurd e;
      refuses = λ h w e. (
        good_range asked frame w (range_is ∙ ap Err (sym e)),
        λ l p. with_brought s n frame stamp options.at (λ at f. update_answer ((library_of h).state symbol) upsert options.prune at asked f) b.frame_is b.stamp_is ∙ (unranged ((library_of h).state symbol) ∙ ap (λ x. Some (refused x)) (sym e)),
      );
      wants = λ h e. absurd e;
      loses = λ h most reply look showed e. absurd e;
    })
    before now old old (Err (record { place = place; why = why }))
    (inr (record {
      count = 0;
      few = subst (λ t. 1 ≤ t) (sym b.tries_are) some;
      mid = old;
      refused = tries_none s.client sole symbol old;
      last = inr (record {
        went = record { more = []; is = refl; own_are = refl; alone = λ e. refl; lawful = λ l. l };
        place = record { from = omega (arith, at); to = omega (arith, at) };
        refuses = refl;
      });
    }))
  where
    unranged : (st : State) → Some (answered (update_answer st upsert options.prune options.at asked frame)) ≡ Some (refused why)
    unranged st = rw range_is refl
