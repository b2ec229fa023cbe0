-- The replies of commands that make a version are legal.
use Rattle.std.proofs.Common.{◌≡◌, ℕ, ℤ, Bool, true, [], refl, sym, ap, ◌∙◌, subst, inl, Option, Some, None, Result, Ok, Err, length, arith}
use Rattle.std.specs.Prelude.{option_map, IfOk}
use Rattle.frame_core.specs.declared.refusal.Extent.{Extent}
use Rattle.frame_core.specs.declared.refusal.Refusal.{Refusal}
use Rattle.frame_core.specs.declared.refusal.Refusal.TheVariants as refusals
use Rattle.frame_core.specs.declared.refusal.Refused.{Refused}
use Rattle.frame_core.specs.Refusals.{Answers}
use Rattle.frame_core.specs.Frames.{Frame}
use Rattle.frame_core.specs.Limits.{refuse_large}
use Rattle.frame_core.specs.RawFrames.{Table, frame_of_table, table_frame, table_too_large, bad_column, bad_row, unless}
use Rattle.key_kind.specs.Names.{Name}
use Rattle.frame_core.specs.Ranges.{Range}
use Rattle.bucket_core.specs.History.{History}
use Rattle.bucket_core.specs.declared.event.Change.TheVariants as changes
use Rattle.version_chain.proofs.Walked.{looks_none}
use Rattle.expr_clause.specs.declared.command.Command.{Command}
use Rattle.expr_clause.specs.declared.command.Command.TheVariants as commands
use Rattle.reply_model.specs.declared.outcome.Outcome.TheVariants as outcomes
use Rattle.reply_model.specs.declared.reply.Reply.{Reply}
use Rattle.reply_model.specs.Answering.{Session, Answer, ◌then◌, answered, refused, committed, stamp_of, frame_of, with_frame}
use Rattle.reply_model.specs.CommitAnswers.{append_answer, update_answer}
use Rattle.reply_model.specs.Windows.{Window, Client, library_at}
use Rattle.reply_model.specs.Rows.{IsAnswer}
use Rattle.reply_model.specs.Legal.{IsLegalRefusal}
use Rattle.frame_write.specs.declared.options.Committed.{Committed}
use Rattle.frame_write.specs.Writes.{Brings, StandsAlone, IsGridLinked, reply_to, IsLegalCall}
use Rattle.library_api.specs.Steps.{is_carried_out, plain_reply, refusal_reply}
use Rattle.segment_cut.specs.Cuttings.{Cutting}
use Rattle.segment_cut.specs.Grids.{parts, grid_of}
use Rattle.std.proofs.lemmas.Bool.{true≢false}
use Rattle.library_api.specs.Frames.{IsLegalForTable, IsLegalWithStamp, RefusesTable, IsWrittenAlone, StandsBehindPuts}
use Rattle.library_api.proofs.NoEvents.{carried_kind, served_has_none, legal_without_events, wants_memory}

-- ---- what a frame is refused for

same_refusal : (a b : Refusal) → ◌≡◌ {A = Result Frame Refusal} (Err a) (Err b) → a ≡ b
same_refusal a b e = cc

never_refused : (f : Frame) (why : Refusal) → ◌≡◌ {A = Result Frame Refusal} (Ok f) (Err why) → ⊥
never_refused f why e = absurd cc

first_refusal : (large : Option (Extent × ℕ)) (column row : Option ℕ) (frame : Frame) (why : Refusal) → unless large refuse_large (unless column refusals.SchemaDiffers (unless row refusals.Unsorted (Ok frame))) ≡ Err why
    → (P : Refusal → Type 0) → ((what : Extent) (limit : ℕ) → P (refusals.TooLarge what limit)) → ((n : ℕ) → P (refusals.SchemaDiffers n)) → ((n : ℕ) → P (refusals.Unsorted n)) → P why
first_refusal (Some x) column row frame why e P large differs falls = subst P (same_refusal (refuse_large x) why e) (large x.0 x.1)
first_refusal None (Some n) row frame why e P large differs falls = subst P (same_refusal (refusals.SchemaDiffers n) why e) (differs n)
first_refusal None None (Some n) frame why e P large differs falls = subst P (same_refusal (refusals.Unsorted n) why e) (falls n)
first_refusal None None None frame why e P large differs falls = absurd (never_refused frame why e)

-- a table is refused for its size, a column or a row
pub table_refusal : (t : Table) (why : Refusal) → frame_of_table t ≡ Err why
    → (P : Refusal → Type 0) → ((what : Extent) (limit : ℕ) → P (refusals.TooLarge what limit)) → ((n : ℕ) → P (refusals.SchemaDiffers n)) → ((n : ℕ) → P (refusals.Unsorted n)) → P why
table_refusal t why e = first_refusal (table_too_large t) (bad_column 1 (length t.stamps) [] t.names t.columns) (bad_row 1 t.stamps) (table_frame t) why e

-- ---- commands that bring a frame

-- a command that brings a frame answers as its frame is refused, and such a refusal is legal where it is the answer
pub record TakesFrame (command : ℕ → Option ℤ → Command) : Type 0 where
  pub carried : (n : ℕ) (asked : Option ℤ) → is_carried_out (command n asked) ≡ true
  pub answers : (h : History) (client : Client) (n : ℕ) (asked : Option ℤ) (place : ℕ) (why : Refusal) → frame_of client.session n ≡ Some (Err why) → IsAnswer h client (command n asked) (plain_reply place (outcomes.Refused why))
  pub large : (h : History) (client : Client) (n : ℕ) (asked : Option ℤ) (reply : Reply) (w : Window) (what : Extent) (most : ℕ) → IsAnswer h client (command n asked) reply → IsLegalRefusal h client (command n asked) reply w (refusals.TooLarge what most)
  pub differs : (h : History) (client : Client) (n : ℕ) (asked : Option ℤ) (reply : Reply) (w : Window) (column : ℕ) → IsAnswer h client (command n asked) reply → IsLegalRefusal h client (command n asked) reply w (refusals.SchemaDiffers column)
  pub falls : (h : History) (client : Client) (n : ℕ) (asked : Option ℤ) (reply : Reply) (w : Window) (row : ℕ) → IsAnswer h client (command n asked) reply → IsLegalRefusal h client (command n asked) reply w (refusals.Unsorted row)

-- what goes on with a frame is refused as the frame is
as_refused : (s : Session) (n : ℕ) (why : Refusal) (next : Frame → Result Answer Refusal) → frame_of s n ≡ Some (Err why) → with_frame s n next ≡ Some (refused why)
as_refused s n why next e = ap (option_map (λ (frame : Result Frame Refusal). answered (frame then next))) e

pub write_takes : (symbol : Name) (prune : Bool) → TakesFrame (λ n asked. commands.Write symbol n asked prune)
write_takes symbol prune = record {
  carried = λ n asked. refl;
  answers = λ h client n asked place why e. inl (as_refused client.session n why (λ f. Ok (committed ((library_at h place).state symbol) prune (changes.Wrote f (stamp_of client.session asked)))) e, refl);
  large = λ h client n asked reply w what most is. is;
  differs = λ h client n asked reply w column is. is;
  falls = λ h client n asked reply w row is. is;
}

pub append_takes : (symbol : Name) (prune : Bool) → TakesFrame (λ n asked. commands.Append symbol n asked prune)
append_takes symbol prune = record {
  carried = λ n asked. refl;
  answers = λ h client n asked place why e. inl (as_refused client.session n why (λ f. append_answer ((library_at h place).state symbol) prune (stamp_of client.session asked) f) e, refl);
  large = λ h client n asked reply w what most is. is;
  differs = λ h client n asked reply w column is. is;
  falls = λ h client n asked reply w row is. is;
}

pub update_takes : (symbol : Name) (range : Option Range) (upsert prune : Bool) → TakesFrame (λ n asked. commands.Update symbol n range upsert asked prune)
update_takes symbol range upsert prune = record {
  carried = λ n asked. refl;
  answers = λ h client n asked place why e. inl (as_refused client.session n why (λ f. update_answer ((library_at h place).state symbol) upsert prune (stamp_of client.session asked) range f) e, refl);
  large = λ h client n asked reply w what most is. is;
  differs = λ h client n asked reply w column is. is;
  falls = λ h client n asked reply w row is. is;
}

module _ (command : ℕ → Option ℤ → Command) (limit number tries : ℕ) (table : Table) (at : ℤ) (before now : ℕ) where
  -- ---- refused before any call

  module _ (takes : TakesFrame command) (old : History) (place : ℕ) (here : place ≡ length old) where
    untried : (why : Refusal) → ((client : Client) (w : Window) (n : ℕ) (asked : Option ℤ) → frame_of client.session n ≡ option_map frame_of_table (Some table)
        → IsLegalRefusal old client (command n asked) (plain_reply place (outcomes.Refused why)) w why)
        → IsLegalForTable limit number tries table at command before now old old (plain_reply place (outcomes.Refused why))
    untried why clause s n asked brings faulted rose =
        let has = served_has_none (command n asked) (carried_kind (command n asked) (takes.carried n asked)) in
        let w : Window = record { start = length old; stop = length old; faulted = faulted } in
        legal_without_events (record { session = s; limit = limit }) (command n asked) (plain_reply place (outcomes.Refused why)) old old faulted has true (looks_none s.client true old)
        refl refl refl (record { from = omega (arith, here); to = omega (arith, here) })
        (λ cut. has.own old s w (plain_reply place (outcomes.Refused why)))
        (clause (record { session = s; limit = limit }) w n asked (ap (option_map frame_of_table) brings.table_is))

    wants_room : IsLegalForTable limit number tries table at command before now old old (plain_reply place (outcomes.Refused refusals.NoMemory))
    wants_room = untried refusals.NoMemory (λ client w n asked brings. tt)

    refused_frame : (why : Refusal) → frame_of_table table ≡ Err why → IsLegalForTable limit number tries table at command before now old old (plain_reply place (outcomes.Refused why))
    refused_frame why refuses =
        table_refusal table why refuses (λ r. frame_of_table table ≡ Err r → IsLegalForTable limit number tries table at command before now old old (plain_reply place (outcomes.Refused r)))
        (λ what most e. untried (refusals.TooLarge what most) (λ client w n asked brings.
        takes.large old client n asked (plain_reply place (outcomes.Refused (refusals.TooLarge what most))) w what most (takes.answers old client n asked place (refusals.TooLarge what most) (brings ∙ ap Some e))))
        (λ column e. untried (refusals.SchemaDiffers column) (λ client w n asked brings.
        takes.differs old client n asked (plain_reply place (outcomes.Refused (refusals.SchemaDiffers column))) w column (takes.answers old client n asked place (refusals.SchemaDiffers column) (brings ∙ ap Some e))))
        (λ row e. untried (refusals.Unsorted row) (λ client w n asked brings.
        takes.falls old client n asked (plain_reply place (outcomes.Refused (refusals.Unsorted row))) w row (takes.answers old client n asked place (refusals.Unsorted row) (brings ∙ ap Some e))))
        refuses

    -- what the making of the frame answers
    unmade : (why : Refusal) → Answers (Err why) (frame_of_table table) → IsLegalForTable limit number tries table at command before now old old (plain_reply place (outcomes.Refused why))
    unmade refusals.NoMemory e = wants_room
    unmade refusals.StoreFault e = refused_frame refusals.StoreFault e
    unmade refusals.NoSuchSymbol e = refused_frame refusals.NoSuchSymbol e
    unmade (refusals.NoSuchVersion asked) e = refused_frame (refusals.NoSuchVersion asked) e
    unmade (refusals.VersionGone version) e = refused_frame (refusals.VersionGone version) e
    unmade (refusals.Moved at) e = refused_frame (refusals.Moved at) e
    unmade (refusals.Unsorted row) e = refused_frame (refusals.Unsorted row) e
    unmade (refusals.SchemaDiffers column) e = refused_frame (refusals.SchemaDiffers column) e
    unmade (refusals.AppendBefore last first) e = refused_frame (refusals.AppendBefore last first) e
    unmade (refusals.OutsideRange row) e = refused_frame (refusals.OutsideRange row) e
    unmade refusals.EmptyUpdate e = refused_frame refusals.EmptyUpdate e
    unmade (refusals.NoSuchColumn clause position) e = refused_frame (refusals.NoSuchColumn clause position) e
    unmade (refusals.TypeMismatch clause) e = refused_frame (refusals.TypeMismatch clause) e
    unmade (refusals.Overflow clause row) e = refused_frame (refusals.Overflow clause row) e
    unmade (refusals.GroupOverflow clause group) e = refused_frame (refusals.GroupOverflow clause group) e
    unmade (refusals.NotTimeIndexed clause) e = refused_frame (refusals.NotTimeIndexed clause) e
    unmade refusals.SnapshotExists e = refused_frame refusals.SnapshotExists e
    unmade refusals.NoSuchSnapshot e = refused_frame refusals.NoSuchSnapshot e
    unmade refusals.NoStaged e = refused_frame refusals.NoStaged e
    unmade (refusals.StagedOverlap piece) e = refused_frame (refusals.StagedOverlap piece) e
    unmade (refusals.Spent count) e = refused_frame (refusals.Spent count) e
    unmade (refusals.TooLarge what most) e = refused_frame (refusals.TooLarge what most) e

  -- ---- tried

  pub tried_legal : (old new : History) (frame : Frame) (result : Result Committed Refused) → frame_of_table table ≡ Ok frame
      → ((s : Session) (n : ℕ) (asked : Option ℤ) → Brings s number tries n frame asked at → IsLegalCall s (command n asked) limit before now old new result)
      → IsLegalForTable limit number tries table at command before now old new (reply_to result)
  tried_legal old new frame result is legal s n asked brings faulted rose =
      legal s n asked (record {
        client_is = brings.client_is;
        tries_are = brings.tries_are;
        frame_is = ap (option_map frame_of_table) brings.table_is ∙ ap Some is;
        stamp_is = brings.stamp_is;
      }) faulted rose

-- a refusal before any call
pub unmade_legal : (command : ℕ → Option ℤ → Command) → TakesFrame command → (limit number tries : ℕ) (table : Table) (at : ℤ) (faults : ℕ) (old : History) (place : ℕ) (refused : Refused) → place ≡ length old → RefusesTable table place refused
    → IsLegalForTable limit number tries table at command faults faults old old (refusal_reply refused)
unmade_legal command takes limit number tries table at faults old place refused here is =
    unmade command limit number tries table at faults faults takes old refused.place (is.place_is ∙ here) refused.why is.why

-- a command without a frame wants memory
pub stamp_wants_memory : (command : Option ℤ → Command) → ((asked : Option ℤ) → is_carried_out (command asked) ≡ true) → (limit number tries : ℕ) (at : ℤ) (faults : ℕ) (old : History) (place : ℕ) → place ≡ length old
    → IsLegalWithStamp limit number tries at command faults faults old old (plain_reply place (outcomes.Refused refusals.NoMemory))
stamp_wants_memory command carried limit number tries at faults old place here s asked runs = wants_memory (record { session = s; limit = limit }) (command asked) (carried asked) faults faults old place here

-- ---- the place, where nobody else makes events

same_frame : (a b : Frame) → ◌≡◌ {A = Result Frame Refusal} (Ok a) (Ok b) → a ≡ b
same_frame a b e = cc

pub refused_stands : (symbol : Name) (table : Table) (cutting : Cutting) (old new : History) (refused : Refused) → StandsBehindPuts symbol table cutting old new (refusal_reply refused)
refused_stands symbol table cutting old new refused whole is done = absurd (true≢false done)

pub result_stands : (symbol : Name) (table : Table) (cutting : Cutting) (old new : History) (frame : Frame) (result : Result Committed Refused) → frame_of_table table ≡ Ok frame
    → IfOk result (StandsAlone (length (parts (grid_of frame cutting))) old) → IfOk result (λ done. IsGridLinked new symbol frame cutting) → StandsBehindPuts symbol table cutting old new (reply_to result)
result_stands symbol table cutting old new frame (Ok done) made stands linked whole is went =
    subst (λ f. IsWrittenAlone symbol f cutting old new done.place) (same_frame frame whole (sym made ∙ is)) (record { stands = omega (arith, stands); linked = linked })
result_stands symbol table cutting old new frame (Err refused) made stands linked whole is went = refused_stands symbol table cutting old new refused whole is went
