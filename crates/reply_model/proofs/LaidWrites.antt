-- For callers: how a commit that is known by its puts is laid out.
--     newest_link         the newest link has the index that was put under its row's key
--     write_lays_out      a write is laid out where its frame is
--     none_lays_out       a command that makes no version leaves nothing open
use Rattle.std.proofs.Common.{◌≡◌, ℕ, Bool, true, false, List, [], ◌∷◌, ◌++◌, map, length, Option, Some, None, Ok, refl, sym, ◌∙◌, ap, subst, inl, inr, cond}
use Rattle.std.specs.Prelude.{ℤ, ⊤, Result, Err, IfSome, not, reverse, option_map}
use Rattle.std.specs.List.{cons_option}
use Rattle.std.proofs.lemmas.Bool.{true≢false}
use Rattle.frame_core.specs.Frames.{Frame}
use Rattle.frame_core.specs.declared.refusal.Refusal.{Refusal}
use Rattle.frame_core.specs.declared.refusal.Refusal.TheVariants as refusals
use Rattle.index_tree.specs.declared.index.Index.{Index}
use Rattle.key_kind.specs.Names.{Name}
use Rattle.key_kind.specs.declared.key.Key.{Key}
use Rattle.key_kind.proofs.KeyTests.{same_name_self}
use Rattle.bucket_core.specs.declared.event.Change.{Change}
use Rattle.bucket_core.specs.declared.event.Change.TheVariants as changes
use Rattle.bucket_core.specs.declared.event.Event.TheVariants as events
use Rattle.bucket_core.specs.History.{History}
use Rattle.store_model.specs.declared.chain.LinkRow.{LinkRow}
use Rattle.store_model.specs.Library.{State, Version, Piece, state_of, first_of, new_version}
use Rattle.store_model.specs.Snapshots.{Library, library_of}
use Rattle.store_model.specs.Law.{IsLawful}
use Rattle.store_model.specs.Links.{Linked, links, links_of, links_in, links_at, linked, index_put}
use Rattle.store_model.specs.Commits.{FitsLink, is_version, marks_of}
use Rattle.store_model.proofs.Linking.{refer_makes}
use Rattle.store_model.proofs.Plainly.{is_commit}
use Rattle.store_model.proofs.PlainLinks.{flat as flat_index}
use Rattle.expr_clause.specs.declared.command.Command.{Command}
use Rattle.expr_clause.specs.declared.command.Command.TheVariants as commands
use Rattle.reply_model.specs.declared.outcome.Outcome.{Outcome}
use Rattle.reply_model.specs.declared.outcome.Outcome.TheVariants as outcomes
use Rattle.reply_model.specs.declared.reply.Reply.{Reply}
use Rattle.reply_model.specs.Answering.{Session, Answer, ◌then◌, answered, refused, refuse_if, or_refuse, frame_of, stamp_of, committed, pruned}
use Rattle.reply_model.specs.CommitAnswers.{burial_answer}
use Rattle.reply_model.specs.PieceAnswers.{taken, discarded}
use Rattle.reply_model.specs.Kinds.{Kind, kind_of, kind_makes}
use Rattle.reply_model.specs.Kinds as does
use Rattle.reply_model.specs.Answers.{symbol_row, read_answer, list_answer, answer_of}
use Rattle.reply_model.specs.ReadAnswers.{version_answer, query, version_row, versions_answer, read_version}
use Rattle.reply_model.specs.Windows.{is_refused}
use Rattle.reply_model.specs.Blocks.{Cutting}
use Rattle.reply_model.specs.Standing.{LaysOut, IsLaid}
use Rattle.reply_model.proofs.Isolated.{some_answer}
use Rattle.reply_model.proofs.FreshKeys.{index_is}
use Rattle.reply_model.proofs.AloneLegal.{burial_buries, buried_first}

-- ---- the newest link

-- the link has this index
pub link_with : (o : Option Linked) (index : Index) → option_map (λ (l : Linked). l.index) o ≡ Some index → (link : Linked) × (o ≡ Some link) × (link.index ≡ index)
link_with None index e = absurd cc
link_with (Some link) index e = (link, refl, same link.index index e)
  where
    same : (a b : Index) → Some a ≡ Some b → a ≡ b
    same a b f = cc

-- a change that makes a version makes its link
version_links : (h : History) (client : ℕ) (symbol : Name) (row : LinkRow) (first : Change) (rest : List Change) → is_version first ≡ true
    → IfSome (new_version (state_of h symbol) first) (FitsLink h client symbol row) → links_in h (marks_of row (first ∷ rest)) ≡ [] → ⊥
version_links h client symbol row first rest version fits none = by first version fits none
  where
    linked_one : (v : Version) → FitsLink h client symbol row v → cons_option (linked h row) (links_in h (marks_of row rest)) ≡ [] → ⊥
    linked_one v f e = some_none f.link (links_in h (marks_of row rest)) (sym (ap (λ o. cons_option o (links_in h (marks_of row rest))) f.link_is) ∙ e)
      where
        some_none : (l : Linked) (ls : List Linked) → l ∷ ls ≡ [] → ⊥
        some_none l ls g = cc

    by : (c : Change) → is_version c ≡ true → IfSome (new_version (state_of h symbol) c) (FitsLink h client symbol row) → links_in h (marks_of row (c ∷ rest)) ≡ [] → ⊥
    by (changes.Wrote frame at) v f e = linked_one _ f e
    by (changes.Appended frame at) v f e = linked_one _ f e
    by (changes.Updated frame range at) v f e = linked_one _ f e
    by (changes.Removed versions) v f e = true≢false (sym v)
    by (changes.Held holder version) v f e = true≢false (sym v)
    by (changes.Released holder) v f e = true≢false (sym v)
    by (changes.Discarded pieces) v f e = true≢false (sym v)
    by changes.Restated v f e = true≢false (sym v)

-- the newest link of a lawful history whose last event refers to a new version
pub newest_link : (client : ℕ) (symbol : Name) (was : Option Key) (entry : Key) (first : Change) (rest : List Change) (before : History) (lawful : IsLawful (events.Refer client symbol was entry (first ∷ rest) ∷ before))
    → is_version first ≡ true → (index : Index) → index_put before (is_commit before client symbol was entry (first ∷ rest) lawful.0.1).row.index ≡ Some (flat_index index)
    → (link : Linked) × (first_of (links (events.Refer client symbol was entry (first ∷ rest) ∷ before) symbol) ≡ Some link) × (link.index ≡ index)
newest_link client symbol was entry first rest before lawful version index put =
    let may = is_commit before client symbol was entry (first ∷ rest) lawful.0.1 in
    let here : links (events.Refer client symbol was entry (first ∷ rest) ∷ before) symbol ≡ links_at before entry ++ links before symbol =
    ap (λ b. cond b (links_at before entry ++ links before symbol) (links before symbol)) (same_name_self symbol) in
    elim (refer_makes before client symbol may.row (first ∷ rest) may.form may.fits) [
      | inl none ↦ absurd (version_links before client symbol may.row first rest version may.fits.0.0 none.links)
      | inr one ↦ (
        one.fits.link,
        ap (λ (ls : List Linked). first_of ls) (here ∙ ap (λ ls. ls ++ links before symbol) (ap (links_of before) may.spelled ∙ one.links)),
        index_is before may.row one.fits.link index one.fits.link_is put,
      )
    ]

-- ---- a write

-- a write is laid out where the frame of the session is, if it is done
pub write_lays_out : (c : Cutting) (s : Session) (symbol : Name) (frame : ℕ) (at : Option ℤ) (prune : Bool) (reply : Reply) (old new : History)
    → ((whole : Frame) → frame_of s frame ≡ Some (Ok whole) → is_refused reply.outcome ≡ false → IsLaid c symbol (changes.Wrote whole (stamp_of s at)) reply.place old new)
    → LaysOut c s (commands.Write symbol frame at prune) reply old new
write_lays_out c s symbol frame at prune reply old new laid cut other change rest named answered_is version =
    subst (λ n. IsLaid c n change reply.place old new) (same_name_of symbol other named) (by_frame (frame_of s frame) refl answered_is)
  where
    st : State
    st = (library_of old).state symbol

    write : Frame → Change
    write f = changes.Wrote f (stamp_of s at)

    none_first : (xs : List Change) → [] ≡ change ∷ xs → ⊥
    none_first xs e = cc

    first_is : (x y : Change) (xs ys : List Change) → x ∷ xs ≡ y ∷ ys → x ≡ y
    first_is x y xs ys e = cc

    same_name_of : (a b : Name) → Some a ≡ Some b → a ≡ b
    same_name_of a b e = cc

    by_frame : (o : Option (Result Frame Refusal)) → frame_of s frame ≡ o
        → option_map (λ x. answered (x then λ f. Ok (committed st prune (write f)))) o ≡ Some (record { outcome = reply.outcome; marks = change ∷ rest }) → IsLaid c symbol change reply.place old new
    by_frame None is e = absurd cc
    by_frame (Some (Err why)) is e = absurd (none_first rest (ap (λ (a : Answer). a.marks) (some_answer (refused why) (record { outcome = reply.outcome; marks = change ∷ rest }) e)))
    by_frame (Some (Ok whole)) is e =
        let same = some_answer (committed st prune (write whole)) (record { outcome = reply.outcome; marks = change ∷ rest }) e in
        subst (λ x. IsLaid c symbol x reply.place old new) (first_is (write whole) change (pruned st prune) rest (ap (λ (a : Answer). a.marks) same))
        (laid whole is (sym (ap (λ (a : Answer). is_refused a.outcome) same)))

-- ---- commands that make no version

-- the answer has no changes
abbrev HasNoMarks : Result Answer Refusal → Type 0
HasNoMarks (Err why) = ⊤
HasNoMarks (Ok a) = a.marks ≡ []

no_marks_then : {A : Type 0} (x : Result A Refusal) (next : A → Result Answer Refusal) → ((a : A) → HasNoMarks (next a)) → HasNoMarks (x then next)
no_marks_then (Ok a) next f = f a
no_marks_then (Err why) next f = tt

no_marks_if : (b : Bool) (why : Refusal) (x : Result Answer Refusal) → HasNoMarks x → HasNoMarks (refuse_if b why x)
no_marks_if true why x o = tt
no_marks_if false why x o = o

no_change : (x : Result Answer Refusal) (outcome : Outcome) (change : Change) (rest : List Change) → HasNoMarks x → Some (answered x) ≡ Some (record { outcome = outcome; marks = change ∷ rest }) → ⊥
no_change x outcome change rest none e = not_none (sym (marks x none) ∙ ap (λ (a : Answer). a.marks) (some_answer (answered x) (record { outcome = outcome; marks = change ∷ rest }) e))
  where
    not_none : [] ≡ change ∷ rest → ⊥
    not_none f = cc

    marks : (y : Result Answer Refusal) → HasNoMarks y → (answered y).marks ≡ []
    marks (Err why) o = refl
    marks (Ok a) o = o

-- a read, a list and a staged piece have no changes
read_change : (l : Library) (c : Command) (outcome : Outcome) (change : Change) (rest : List Change) → read_answer l c ≡ Some (record { outcome = outcome; marks = change ∷ rest }) → ⊥
read_change l (commands.Versions a) outcome change rest e =
    let st : State = l.state a in
    no_change (versions_answer st) outcome change rest (no_marks_if (not st.has_reference) refusals.NoSuchSymbol (Ok (record { outcome = outcomes.Versions (reverse (map (version_row st) st.versions)); marks = [] })) refl) e
read_change l (commands.Read a as_of range columns clauses) outcome change rest e =
    no_change (read_version l a as_of then λ v. version_answer v range columns clauses) outcome change rest
    (no_marks_then (read_version l a as_of) (λ v. version_answer v range columns clauses)
    (λ v. no_marks_then (query v.frame range columns clauses) (λ f. Ok (record { outcome = outcomes.Whole v.number f; marks = [] })) (λ f. refl))) e
read_change l c outcome change rest e = absurd cc

list_change : (l : Library) (place : ℕ) (c : Command) (outcome : Outcome) (change : Change) (rest : List Change) → list_answer l place c ≡ Some (record { outcome = outcome; marks = change ∷ rest }) → ⊥
list_change l place commands.Symbols outcome change rest e = no_change (Ok (record { outcome = outcomes.Symbols (map (symbol_row l place) l.symbols); marks = [] })) outcome change rest refl e
list_change l place commands.Snapshots outcome change rest e = no_change (Ok (record { outcome = outcomes.Snapshots (map (λ y. y.0) l.snapshots); marks = [] })) outcome change rest refl e
list_change l place c outcome change rest e = absurd cc

staged_change : (o : Option (Result Frame Refusal)) (outcome : Outcome) (change : Change) (rest : List Change)
    → option_map (λ x. answered (x then λ f. Ok (record { outcome = outcomes.Staged; marks = [] }))) o ≡ Some (record { outcome = outcome; marks = change ∷ rest }) → ⊥
staged_change None outcome change rest e = absurd cc
staged_change (Some x) outcome change rest e =
    no_change (x then λ f. Ok (record { outcome = outcomes.Staged; marks = [] })) outcome change rest (no_marks_then x (λ f. Ok (record { outcome = outcomes.Staged; marks = [] })) (λ f. refl)) e

-- a discard makes no version
discards_none : (r : Option Piece) (n : ℕ) (ps : List Piece) (outcome : Outcome) (change : Change) (rest : List Change)
    → Some (answered (or_refuse r refusals.NoStaged then λ p. Ok (record { outcome = outcomes.Discarded n; marks = discarded ps ∷ [] }))) ≡ Some (record { outcome = outcome; marks = change ∷ rest }) → is_version change ≡ false
discards_none None n ps outcome change rest e = absurd (no_change (Err refusals.NoStaged) outcome change rest tt e)
discards_none (Some p) n ps outcome change rest e =
    sym (ap is_version (first_is (discarded ps) change [] rest (ap (λ (a : Answer). a.marks) (some_answer (record { outcome = outcomes.Discarded n; marks = discarded ps ∷ [] }) (record { outcome = outcome; marks = change ∷ rest }) e))))
  where
    first_is : (x y : Change) (xs ys : List Change) → x ∷ xs ≡ y ∷ ys → x ≡ y
    first_is x y xs ys e = cc

-- so they leave nothing open
pub none_lays_out : (c : Cutting) (s : Session) (command : Command) (reply : Reply) (old new : History) → kind_makes (kind_of command) ≡ false → LaysOut c s command reply old new
none_lays_out c s command reply old new is cut symbol change rest named answered_is version = absurd (true≢false (sym version ∙ by_kind (kind_of command) is answered_is))
  where
    l : Library
    l = library_of old

    by_kind : (k : Kind) → kind_makes k ≡ false → answer_of s l l (length old) command k ≡ Some (record { outcome = reply.outcome; marks = change ∷ rest }) → is_version change ≡ false
    by_kind (does.Makes a) none e = absurd (true≢false none)
    by_kind (does.Finalizes a) none e = absurd (true≢false none)
    by_kind (does.Buries a burial) none e = ap is_version (buried_first (burial_answer burial (l.state a)) reply.outcome change rest (burial_buries burial (l.state a)) e).1
    by_kind (does.Discards a) none e = discards_none (first_of (taken (l.state a) (l.state a))) (length (taken (l.state a) (l.state a))) (taken (l.state a) (l.state a)) reply.outcome change rest e
    by_kind (does.Stages a frame) none e = absurd (staged_change (frame_of s frame) reply.outcome change rest e)
    by_kind (does.Reads a) none e = absurd (read_change l command reply.outcome change rest e)
    by_kind does.Lists none e = absurd (list_change l (length old) command reply.outcome change rest e)
    by_kind k none e = absurd cc
