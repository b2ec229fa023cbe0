-- In each script the frame of a command is loaded.
use Rattle.std.proofs.Common.{◌≡◌, ℕ, ℤ, ◌+◌, ◌<◌, Bool, true, false, cond, List, [], ◌∷◌, ◌++◌, length, Option, Some, None, refl, sym, ap, subst, ◌∙◌, arith}
use Rattle.std.specs.Prelude.{option_map, unwrap_or, find}
use Rattle.std.specs.List.{AllByRecursion, position_from}
use Rattle.std.proofs.lemmas.List.{length-map}
use Rattle.frame_core.specs.Texts.{Text, same_text}
use Rattle.frame_core.specs.Ranges.{Range}
use Rattle.expr_clause.specs.declared.command.AsOf.TheVariants as moments
use Rattle.expr_clause.specs.declared.command.Command.{Command}
use Rattle.expr_clause.specs.declared.command.Command.TheVariants as commands
use Rattle.script_lang.specs.declared.command.Commit.{Commit}
use Rattle.script_lang.specs.declared.options.CommitOptions.{CommitOptions}
use Rattle.script_lang.specs.declared.options.UpdateOptions.{UpdateOptions}
use Rattle.script_lang.specs.declared.options.ReadOptions.{ReadOptions}
use Rattle.script_lang.specs.declared.client.ClientPart.{ClientPart}
use Rattle.script_lang.specs.declared.draft.Stage.{Stage}
use Rattle.script_lang.specs.declared.draft.Stage.TheVariants as stages
use Rattle.script_lang.specs.declared.load.Load.{Load}
use Rattle.script_lang.specs.declared.script.Script.{Script}
use Rattle.script_lang.specs.Fronts.{◌>>=◌, where_true}
use Rattle.script_lang.specs.Lines.{words_of}
use Rattle.script_lang.specs.Words.{under, symbol_of, frame_of}
use Rattle.script_lang.specs.Options.{commit_options, update_options, versions_given, read_options}
use Rattle.script_lang.specs.Commands.{Form, commit_of, commit_form, update_form, required_range, delete_range_form, delete_form, only_symbol, symbol_form, whole_range, read_form, forms, command_of}
use Rattle.script_lang.specs.Loads.{frame_names, load_of}
use Rattle.script_lang.specs.Clients.{new_client_of, in_last_client}
use Rattle.script_lang.specs.Scripts.{Draft, LineForm, no_lines, before_parts, before_last, after_load, after_first, after_client, after_last, in_part, after_form, after_words, after_line, line_forms, after_lines, finished, IsLoaded, AllLoaded, AreLoaded}
use Rattle.script_lang.proofs.Gathered.{bind-some}

abbrev some_in : {A : Type 0} → A → Option A → A
some_in d None = d
some_in d (Some a) = a

some-same : {A : Type 0} (x y : A) → Some x ≡ Some y → x ≡ y
some-same x y h = ap (some_in x) h

map-some : {A B : Type 0} (o : Option A) (f : A → B) (b : B) → option_map f o ≡ Some b → (a : A) × (o ≡ Some a) × (f a ≡ b)
map-some None f b h = absurd cc
map-some (Some a) f b h = (a, refl, some-same (f a) b h)

-- ---- tables

at_first : {A : Type 0} (P : A → Type 0) (b : Bool) (x : Text × A) (later : Option (Text × A)) (a : A) → P x.1 → (option_map (λ (y : Text × A). y.1) later ≡ Some a → P a) →
    option_map (λ (y : Text × A). y.1) (cond b (Some x) later) ≡ Some a → P a
at_first P true x later a here others h = subst P (some-same x.1 a h) here
at_first P false x later a here others h = others h

-- what holds of each value of a table holds of the one that stands under a name
under-keeps : {A : Type 0} (P : A → Type 0) (name : Text) (table : List (Text × A)) (a : A) → AllByRecursion (λ (x : Text × A). P x.1) table → under name table ≡ Some a → P a
under-keeps P name [] a all h = absurd cc
under-keeps P name (x ∷ table) a all h = at_first P (same_text name x.0) x (find (λ y. same_text name y.0) table) a all.0 (under-keeps P name table a all.1) h

-- ---- commands

here_or_later : (here : Bool) (i k n : ℕ) (later : Option ℕ) → (later ≡ Some k → k < (i + 1) + n) → cond here (Some i) later ≡ Some k → k < i + (1 + n)
here_or_later true i k n later below h = let same = some-same i k h in omega arith
here_or_later false i k n later below h = let b = below h in omega arith

position_from-below : (test : Text → Bool) (i k : ℕ) (texts : List Text) → position_from test i texts ≡ Some k → k < i + length texts
position_from-below test i k [] h = absurd cc
position_from-below test i k (t ∷ texts) h =
    let below = here_or_later (test t) i k (length texts) (position_from test (i + 1) texts) (position_from-below test (i + 1) k texts) h in
    omega arith

-- a form gives commands of loaded frames
abbrev IsForm : Form → Type 0
IsForm form = (frames words : List Text) (c : Command) → form frames words ≡ Some c → IsLoaded (length frames) c

target-below : (frames : List Text) (frame : Text) (k : ℕ) → frame_of frames frame ≡ Some k → k < length frames
target-below frames frame k h = let below = position_from-below (same_text frame) 0 k frames h in omega arith

abbrev commit_made : Text → ℕ → CommitOptions → Commit
commit_made s f o = record { symbol = s; frame = f; options = o }

-- a commit's frame is loaded
commit_of-loaded : (frames words : List Text) (commit : Commit) → commit_of frames words ≡ Some commit → commit.frame < length frames
commit_of-loaded frames [] commit h = absurd cc
commit_of-loaded frames (symbol ∷ []) commit h = absurd cc
commit_of-loaded frames (symbol ∷ frame ∷ more) commit h =
    let named = bind-some (symbol_of symbol) (λ s. frame_of frames frame >>= λ f. commit_options more >>= λ o. Some (commit_made s f o)) commit h in
    let placed = bind-some (frame_of frames frame) (λ f. commit_options more >>= λ o. Some (commit_made named.0 f o)) commit named.2 in
    let set = bind-some (commit_options more) (λ o. Some (commit_made named.0 placed.0 o)) commit placed.2 in
    subst (λ (c : Commit). c.frame < length frames) (some-same (commit_made named.0 placed.0 set.0) commit set.2) (target-below frames frame placed.0 placed.1)

-- a form of a commit gives commands of loaded frames, if the command's frame is the commit's
commit_form-loaded : (command : Text → ℕ → Option ℤ → Bool → Command) → ((loads : ℕ) (symbol : Text) (frame : ℕ) (at : Option ℤ) (prune : Bool) → frame < loads → IsLoaded loads (command symbol frame at prune)) → IsForm (commit_form command)
commit_form-loaded command loaded frames words c h =
    let commit = map-some (commit_of frames words) (λ (c : Commit). command c.symbol c.frame c.options.at c.options.prune) c h in
    subst (IsLoaded (length frames)) commit.2 (loaded (length frames) commit.0.symbol commit.0.frame commit.0.options.at commit.0.options.prune (commit_of-loaded frames words commit.0 commit.1))

abbrev update_made : Text → ℕ → UpdateOptions → Command
update_made s f o = commands.Update s f o.range o.upsert o.commit.at o.commit.prune

update_form-loaded : IsForm update_form
update_form-loaded frames [] c h = absurd cc
update_form-loaded frames (symbol ∷ []) c h = absurd cc
update_form-loaded frames (symbol ∷ frame ∷ more) c h =
    let named = bind-some (symbol_of symbol) (λ s. frame_of frames frame >>= λ f. update_options more >>= λ o. Some (update_made s f o)) c h in
    let placed = bind-some (frame_of frames frame) (λ f. update_options more >>= λ o. Some (update_made named.0 f o)) c named.2 in
    let set = bind-some (update_options more) (λ o. Some (update_made named.0 placed.0 o)) c placed.2 in
    subst (IsLoaded (length frames)) (some-same (update_made named.0 placed.0 set.0) c set.2) (target-below frames frame placed.0 placed.1)

-- ---- forms without a frame

abbrev range_made : Text → Range → CommitOptions → Command
range_made s r o = commands.DeleteRange s r o.at o.prune

delete_range_form-loaded : IsForm (λ frames. delete_range_form)
delete_range_form-loaded frames [] c h = absurd cc
delete_range_form-loaded frames (symbol ∷ []) c h = absurd cc
delete_range_form-loaded frames (symbol ∷ range ∷ more) c h =
    let named = bind-some (symbol_of symbol) (λ s. required_range range >>= λ r. commit_options more >>= λ o. Some (range_made s r o)) c h in
    let ranged = bind-some (required_range range) (λ r. commit_options more >>= λ o. Some (range_made named.0 r o)) c named.2 in
    let set = bind-some (commit_options more) (λ o. Some (range_made named.0 ranged.0 o)) c ranged.2 in
    subst (IsLoaded (length frames)) (some-same (range_made named.0 ranged.0 set.0) c set.2) tt

delete_form-loaded : IsForm (λ frames. delete_form)
delete_form-loaded frames [] c h = absurd cc
delete_form-loaded frames (symbol ∷ more) c h =
    let named = bind-some (symbol_of symbol) (λ s. versions_given more >>= λ v. Some (commands.Delete s v)) c h in
    let given = bind-some (versions_given more) (λ v. Some (commands.Delete named.0 v)) c named.2 in
    subst (IsLoaded (length frames)) (some-same (commands.Delete named.0 given.0) c given.2) tt

symbol_form-loaded : (command : Text → Command) → ((loads : ℕ) (symbol : Text) → IsLoaded loads (command symbol)) → IsForm (λ frames. symbol_form command)
symbol_form-loaded command loaded frames words c h =
    let named = map-some (only_symbol words) command c h in
    subst (IsLoaded (length frames)) named.2 (loaded (length frames) named.0)

abbrev read_made : Text → ReadOptions → Command
read_made s o = commands.Read s (unwrap_or o.as_of (moments.Back 1)) (unwrap_or o.range whole_range) o.columns []

read_form-loaded : IsForm (λ frames. read_form)
read_form-loaded frames [] c h = absurd cc
read_form-loaded frames (symbol ∷ more) c h =
    let named = bind-some (symbol_of symbol) (λ s. read_options more >>= λ o. Some (read_made s o)) c h in
    let set = bind-some (read_options more) (λ o. Some (read_made named.0 o)) c named.2 in
    subst (IsLoaded (length frames)) (some-same (read_made named.0 set.0) c set.2) tt

forms-loaded : AllByRecursion (λ (x : Text × Form). IsForm x.1) forms
forms-loaded = (
  commit_form-loaded commands.Write (λ loads symbol frame at prune below. below),
  (
    commit_form-loaded commands.Append (λ loads symbol frame at prune below. below),
    (
      update_form-loaded,
      (
        delete_range_form-loaded,
        (
          delete_form-loaded,
          (
            symbol_form-loaded _ (λ loads symbol. tt),
            (
              symbol_form-loaded _ (λ loads symbol. tt),
              (
                symbol_form-loaded _ (λ loads symbol. tt),
                (
                  symbol_form-loaded _ (λ loads symbol. tt),
                  (read_form-loaded, tt),
                ),
              ),
            ),
          ),
        ),
      ),
    ),
  ),
)

command_of-loaded : (frames : List Text) (verb : Text) (words : List Text) (c : Command) → command_of frames verb words ≡ Some c → IsLoaded (length frames) c
command_of-loaded frames verb words c h =
    let form = bind-some (under verb forms) (λ form. form frames words) c h in
    under-keeps IsForm verb forms form.0 forms-loaded form.1 frames words c form.2

-- ---- lines

-- no command came so far
record IsBare (d : Draft) : Type 0 where
  first : d.first ≡ []
  clients : d.clients ≡ []
  last : d.last ≡ []

-- the commands so far are of loaded frames, and there is none before a part begins
record IsSound (d : Draft) : Type 0 where
  loaded : AreLoaded (finished d)
  early : before_parts d.stage ≡ true → IsBare d

-- a form of lines keeps that
abbrev Keeps : LineForm → Type 0
Keeps form = (d next : Draft) (words : List Text) → IsSound d → form d words ≡ Some next → IsSound next

-- what held of all items holds of one more
all-push : {A : Type 0} (P : A → Type 0) (xs : List A) (x : A) → AllByRecursion P xs → P x → AllByRecursion P (xs ++ x ∷ [])
all-push P [] x all one = (one, tt)
all-push P (y ∷ xs) x all one = (all.0, all-push P xs x all.1 one)

-- a value was given where a test held
where-held : {A : Type 0} (test : Bool) (a b : A) → where_true test a ≡ Some b → (test ≡ true) × (a ≡ b)
where-held true a b h = (refl, some-same a b h)
where-held false a b h = absurd cc

-- a part that has begun is none before all parts
begun : (d next : Draft) → before_parts next.stage ≡ false → before_parts next.stage ≡ true → IsBare next
begun d next late early = absurd (never (sym late ∙ early))
  where
    never : false ≡ true → ⊥
    never h = cc

with_load : Draft → Load → Draft
with_load d load = record d { loads = d.loads ++ load ∷ [] }

after_load-keeps : Keeps after_load
unfolding with_load
after_load-keeps d next words sound h =
    let read = bind-some (where_true (before_parts d.stage) words >>= load_of d.loads) (λ load. Some (with_load d load)) next h in
    let given = bind-some (where_true (before_parts d.stage) words) (load_of d.loads) read.0 read.1 in
    let bare = sound.early (where-held (before_parts d.stage) words given.0 given.1).0 in
    let n = length (d.loads ++ read.0 ∷ []) in
    let none : AreLoaded (finished (with_load d read.0)) = record {
      first = subst (AllLoaded n) (sym bare.first) tt;
      clients = subst (AllByRecursion (λ (part : ClientPart). AllLoaded n part.commands)) (sym bare.clients) tt;
      last = subst (AllLoaded n) (sym bare.last) tt;
    } in
    let still : IsBare (with_load d read.0) = record { first = bare.first; clients = bare.clients; last = bare.last } in
    subst IsSound (some-same (with_load d read.0) next read.2) (record { loaded = none; early = λ early. still })

at_stage : Draft → Stage → Draft
at_stage d stage = record d { stage = stage }

after_first-keeps : Keeps after_first
unfolding at_stage
after_first-keeps d next [] sound h =
    let held = where-held (before_parts d.stage) (at_stage d stages.First) next h in
    let now : IsSound (at_stage d stages.First) = record { loaded = sound.loaded; early = begun d (at_stage d stages.First) refl } in
    subst IsSound held.1 now
after_first-keeps d next (word ∷ words) sound h = absurd cc

after_last-keeps : Keeps after_last
unfolding at_stage
after_last-keeps d next [] sound h =
    let held = where-held (before_last d.stage) (at_stage d stages.Last) next h in
    let now : IsSound (at_stage d stages.Last) = record { loaded = sound.loaded; early = begun d (at_stage d stages.Last) refl } in
    subst IsSound held.1 now
after_last-keeps d next (word ∷ words) sound h = absurd cc

client_added : Draft → Text → Draft
client_added d name = record d { clients = d.clients ++ record { name = name; commands = [] } ∷ []; stage = stages.Clients }

after_client-keeps : Keeps after_client
unfolding client_added
after_client-keeps d next [] sound h = absurd cc
after_client-keeps d next (word ∷ []) sound h =
    let read = bind-some (where_true (before_last d.stage) word >>= new_client_of d.clients) (λ name. Some (client_added d name)) next h in
    let part : ClientPart = record { name = read.0; commands = [] } in
    let loaded : AreLoaded (finished (client_added d read.0)) = record {
      first = sound.loaded.first;
      clients = all-push (λ (part : ClientPart). AllLoaded (length d.loads) part.commands) d.clients part sound.loaded.clients tt;
      last = sound.loaded.last;
    } in
    subst IsSound (some-same (client_added d read.0) next read.2) (record { loaded = loaded; early = begun d (client_added d read.0) refl })
after_client-keeps d next (word ∷ more ∷ words) sound h = absurd cc

-- ---- commands of parts

longer : ClientPart → Command → ClientPart
longer part c = record part { commands = part.commands ++ c ∷ [] }

in_last_client-keeps : (n : ℕ) (clients parts : List ClientPart) (c : Command) → AllByRecursion (λ (part : ClientPart). AllLoaded n part.commands) clients → IsLoaded n c →
    in_last_client clients c ≡ Some parts → AllByRecursion (λ (part : ClientPart). AllLoaded n part.commands) parts
unfolding longer
in_last_client-keeps n [] parts c all one h = absurd cc
in_last_client-keeps n (part ∷ []) parts c all one h =
    subst (AllByRecursion (λ (part : ClientPart). AllLoaded n part.commands)) (some-same (longer part c ∷ []) parts h) (all-push (IsLoaded n) part.commands c all.0 one, tt)
in_last_client-keeps n (part ∷ next ∷ clients) parts c all one h =
    let later = bind-some (in_last_client (next ∷ clients) c) (λ later. Some (part ∷ later)) parts h in
    subst (AllByRecursion (λ (part : ClientPart). AllLoaded n part.commands)) (some-same (part ∷ later.0) parts later.2)
    (all.0, in_last_client-keeps n (next ∷ clients) later.0 c all.1 one later.1)

in_first : Draft → Command → Draft
in_first d c = record d { first = d.first ++ c ∷ [] }

in_last : Draft → Command → Draft
in_last d c = record d { last = d.last ++ c ∷ [] }

client_addeds : Draft → List ClientPart → Draft
client_addeds d parts = record d { clients = parts }

in_part-keeps : (stage : Stage) (d next : Draft) (c : Command) → d.stage ≡ stage → IsSound d → IsLoaded (length d.loads) c → in_part stage d c ≡ Some next → IsSound next
unfolding in_first in_last client_addeds
in_part-keeps stages.Loads d next c is sound one h = absurd cc
in_part-keeps stages.First d next c is sound one h =
    let loaded : AreLoaded (finished (in_first d c)) = record { first = all-push (IsLoaded (length d.loads)) d.first c sound.loaded.first one; clients = sound.loaded.clients; last = sound.loaded.last } in
    subst IsSound (some-same (in_first d c) next h) (record { loaded = loaded; early = begun d (in_first d c) (ap before_parts is) })
in_part-keeps stages.Clients d next c is sound one h =
    let parts = bind-some (in_last_client d.clients c) (λ parts. Some (client_addeds d parts)) next h in
    let loaded : AreLoaded (finished (client_addeds d parts.0)) = record { first = sound.loaded.first; clients = in_last_client-keeps (length d.loads) d.clients parts.0 c sound.loaded.clients one parts.1; last = sound.loaded.last } in
    subst IsSound (some-same (client_addeds d parts.0) next parts.2) (record { loaded = loaded; early = begun d (client_addeds d parts.0) (ap before_parts is) })
in_part-keeps stages.Last d next c is sound one h =
    let loaded : AreLoaded (finished (in_last d c)) = record { first = sound.loaded.first; clients = sound.loaded.clients; last = all-push (IsLoaded (length d.loads)) d.last c sound.loaded.last one } in
    subst IsSound (some-same (in_last d c) next h) (record { loaded = loaded; early = begun d (in_last d c) (ap before_parts is) })

after_form-keeps : (d next : Draft) (verb : Text) (words : List Text) (form : Option LineForm) → IsSound d → under verb line_forms ≡ form → after_form form d verb words ≡ Some next → IsSound next
after_form-keeps d next verb words (Some form) sound is h =
    under-keeps Keeps verb line_forms form (after_load-keeps, (after_first-keeps, (after_client-keeps, (after_last-keeps, tt)))) is d next words sound h
after_form-keeps d next verb words None sound is h =
    let command = bind-some (command_of (frame_names d.loads) verb words) (in_part d.stage d) next h in
    let loaded = command_of-loaded (frame_names d.loads) verb words command.0 command.1 in
    let same : length (frame_names d.loads) ≡ length d.loads = length-map d.loads (λ (l : Load). l.name) in
    in_part-keeps d.stage d next command.0 refl sound (subst (λ n. IsLoaded n command.0) same loaded) command.2

after_words-keeps : (d next : Draft) (words : List Text) → IsSound d → after_words d words ≡ Some next → IsSound next
after_words-keeps d next [] sound h = absurd cc
after_words-keeps d next (verb ∷ words) sound h = after_form-keeps d next verb words (under verb line_forms) sound refl h

after_lines-keeps : (d next : Draft) (lines : List Text) → IsSound d → after_lines d lines ≡ Some next → IsSound next
after_lines-keeps d next [] sound h = subst IsSound (some-same d next h) sound
after_lines-keeps d next (line ∷ lines) sound h =
    let one = bind-some (after_line d line) (λ after. after_lines after lines) next h in
    after_lines-keeps one.0 next lines (after_words-keeps d one.0 (words_of line) sound one.1) one.2

-- ---- the script

no_lines-sound : IsSound no_lines
no_lines-sound = record { loaded = record { first = tt; clients = tt; last = tt }; early = λ early. record { first = refl; clients = refl; last = refl } }

-- the draft of these lines is of loaded frames
pub draft-loaded : (lines : List Text) (d : Draft) → after_lines no_lines lines ≡ Some d → AreLoaded (finished d)
draft-loaded lines d is = (after_lines-keeps no_lines d lines no_lines-sound is).loaded
