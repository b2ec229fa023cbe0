-- Steps make runs, and a run from the empty history is that of one client alone.
use Rattle.std.proofs.Common.{◌≡◌, ℕ, List, [], ◌∷◌, ◌++◌, length, Option, Some, None, refl, sym, ◌∙◌, ap, subst, append_assoc}
use Rattle.std.specs.Prelude.{ℤ, option_map, option_and_then}
use Rattle.std.specs.List.{AllByRecursion}
use Rattle.std.proofs.lemmas.List.{append_cancel_right}
use Rattle.frame_core.specs.RawFrames.{Table}
use Rattle.bucket_core.specs.History.{History, author}
use Rattle.expr_clause.specs.declared.command.Command.{Command}
use Rattle.expr_clause.specs.declared.command.Command.TheVariants as commands
use Rattle.reply_model.specs.declared.reply.Reply.{Reply}
use Rattle.reply_model.specs.Answering.{Session}
use Rattle.reply_model.specs.Blocks.{Cutting}
use Rattle.reply_model.specs.Sole.{Alone, SoleRun, beginning, step_alone, alone, session_of}
use Rattle.reply_model.proofs.KeyedShapes.{no_keys}
use Rattle.reply_model.specs.Standing.{StandsAs, StepsTo, IsStep, GrowsAlone, RunsTo, RunsAlone, RunsGrow, RunsAreSole, BlocksAreSole}

-- ---- one command more

-- the replies of these commands, and then those of a run that goes on behind them
abbrev behind : Option (List Reply × Alone) → (Alone → Option (List Reply × Alone)) → Option (List Reply × Alone)
behind run more = option_and_then {U = List Reply × Alone} (λ (x : List Reply × Alone). option_map {U = List Reply × Alone} (λ (y : List Reply × Alone). (x.0 ++ y.0, y.1)) (more x.1)) run

-- a run of two lists is that of the one and then of the other
alone-append : (c : Cutting) (s : Session) (xs ys : List Command) (r : Alone) → alone c s (xs ++ ys) r ≡ behind (alone c s xs r) (λ x. alone c s ys x)
alone-append c s [] ys r = of_none (alone c s ys r)
  where
    of_none : (o : Option (List Reply × Alone)) → o ≡ option_map {U = List Reply × Alone} (λ (y : List Reply × Alone). (y.0, y.1)) o
    of_none None = refl
    of_none (Some y) = refl
alone-append c s (command ∷ xs) ys r = of_step (λ x. alone-append c s xs ys x) (step_alone c s command r)
  where
    of_rest : (reply : Reply) (run : Option (List Reply × Alone))
        → option_map {U = List Reply × Alone} (λ (y : List Reply × Alone). (reply ∷ y.0, y.1)) (behind run (λ x. alone c s ys x))
        ≡ behind (option_map {U = List Reply × Alone} (λ (y : List Reply × Alone). (reply ∷ y.0, y.1)) run) (λ x. alone c s ys x)
    of_rest reply None = refl
    of_rest reply (Some x) = of_last (alone c s ys x.1)
      where
        of_last : (o : Option (List Reply × Alone))
            → option_map {U = List Reply × Alone} (λ (y : List Reply × Alone). (reply ∷ y.0, y.1)) (option_map {U = List Reply × Alone} (λ (y : List Reply × Alone). (x.0 ++ y.0, y.1)) o) ≡ option_map {U = List Reply × Alone} (λ (y : List Reply × Alone). (reply ∷ x.0 ++ y.0, y.1)) o
        of_last None = refl
        of_last (Some y) = refl

    of_step : ((x : Alone) → alone c s (xs ++ ys) x ≡ behind (alone c s xs x) (λ y. alone c s ys y)) → (o : Option (Reply × Alone))
        → option_and_then {U = List Reply × Alone} (λ (x : Reply × Alone). option_map {U = List Reply × Alone} (λ (y : List Reply × Alone). (x.0 ∷ y.0, y.1)) (alone c s (xs ++ ys) x.1)) o
        ≡ behind (option_and_then {U = List Reply × Alone} (λ (x : Reply × Alone). option_map {U = List Reply × Alone} (λ (y : List Reply × Alone). (x.0 ∷ y.0, y.1)) (alone c s xs x.1)) o) (λ x. alone c s ys x)
    of_step before None = refl
    of_step before (Some x) = ap (option_map {U = List Reply × Alone} (λ (y : List Reply × Alone). (x.0 ∷ y.0, y.1))) (before x.1) ∙ of_rest x.0 (alone c s xs x.1)

one_more : (c : Cutting) (s : Session) (list : List Command) (replies : List Reply) (command : Command) (reply : Reply) (first old new : History)
    → RunsAlone c s list replies first old → IsStep c s command reply old new → RunsAlone c s (list ++ command ∷ []) (replies ++ reply ∷ []) first new
one_more c s list replies command reply first old new runs step r stands =
    subst (λ o. RunsTo c o (replies ++ reply ∷ []) new) (sym (alone-append c s list (command ∷ []) r)) (of_run (alone c s list r) (runs r stands))
  where
    of_step : (x : List Reply × Alone) (o : Option (Reply × Alone)) → replies ≡ x.0 → StepsTo c o reply new
        → RunsTo c (option_map {U = List Reply × Alone} (λ (y : List Reply × Alone). (x.0 ++ y.0, y.1)) (option_and_then {U = List Reply × Alone} (λ (z : Reply × Alone). Some (z.0 ∷ [], z.1)) o)) (replies ++ reply ∷ []) new
    of_step x None is to = absurd to
    of_step x (Some z) is to = (ap (λ xs. xs ++ reply ∷ []) is ∙ ap (λ y. x.0 ++ y ∷ []) to.0, to.1)

    of_run : (o : Option (List Reply × Alone)) → RunsTo c o replies old → RunsTo c (behind o (λ x. alone c s (command ∷ []) x)) (replies ++ reply ∷ []) new
    of_run None to = absurd to
    of_run (Some x) to = of_step x (step_alone c s command x.1) to.0 (step x.1 to.1)

-- what grows by events of one client alone does so up to each history between
all_parts : (client : ℕ) (xs ys : History) → AllByRecursion (λ e. author e ≡ client) (xs ++ ys) → AllByRecursion (λ e. author e ≡ client) xs × AllByRecursion (λ e. author e ≡ client) ys
all_parts client [] ys all = (tt, all)
all_parts client (x ∷ xs) ys all = let parts = all_parts client xs ys all.1 in ((all.0, parts.0), parts.1)

pub grows_parts : (client : ℕ) (first old new before more : History) → old ≡ before ++ first → new ≡ more ++ old → GrowsAlone client first new → GrowsAlone client first old × GrowsAlone client old new
grows_parts client first old new before more old_is new_is grows =
    let whole : new ≡ (more ++ before) ++ first = new_is ∙ (ap (λ h. more ++ h) old_is ∙ sym (append_assoc more before first)) in
    let parts = all_parts client more before (subst (λ es. AllByRecursion (λ e. author e ≡ client) es) (append_cancel_right grows.more (more ++ before) first (sym grows.is ∙ whole)) grows.own) in
    (record { more = before; is = old_is; own = parts.1 }, record { more = more; is = new_is; own = parts.0 })

one_more_alone : (c : Cutting) (s : Session) (list : List Command) (replies : List Reply) (command : Command) (reply : Reply) (first old new before more : History)
    → old ≡ before ++ first → new ≡ more ++ old → (GrowsAlone s.client first old → RunsAlone c s list replies first old) → (GrowsAlone s.client old new → IsStep c s command reply old new)
    → GrowsAlone s.client first new → RunsAlone c s (list ++ command ∷ []) (replies ++ reply ∷ []) first new
one_more_alone c s list replies command reply first old new before more old_is new_is runs step grows =
    let parts = grows_parts s.client first old new before more old_is new_is grows in one_more c s list replies command reply first old new (runs parts.0) (step parts.1)

pub runs_grow : RunsGrow
runs_grow = record { none = λ c s h r stands. (refl, stands); one_more = one_more; one_more_alone = one_more_alone }

-- ---- from the empty history

-- the fold goes by a session's frames, moment and client alone
same_step : (c : Cutting) (s : Session) (client : ℕ) (command : Command) (r : Alone) → s.client ≡ client → step_alone c s command r ≡ step_alone c (session_of s.frames s.moment client) command r
same_step c s client command r is = of_tries command ∙ ap (λ n. step_alone c (session_of s.frames s.moment n) command r) is
  where
    of_tries : (x : Command) → step_alone c s x r ≡ step_alone c (session_of s.frames s.moment s.client) x r
    of_tries (commands.Stage a frame) = refl
    of_tries (commands.Snapshot name picks) = refl
    of_tries (commands.DeleteSnapshot name) = refl
    of_tries (commands.Write a frame at prune) = refl
    of_tries (commands.Append a frame at prune) = refl
    of_tries (commands.Update a frame range upsert at prune) = refl
    of_tries (commands.DeleteRange a range at prune) = refl
    of_tries (commands.Finalize a append sorted at prune) = refl
    of_tries x = refl

same_alone : (c : Cutting) (s : Session) (client : ℕ) (list : List Command) (r : Alone) → s.client ≡ client → alone c s list r ≡ alone c (session_of s.frames s.moment client) list r
same_alone c s client [] r is = refl
same_alone c s client (command ∷ list) r is =
    ap (option_and_then {U = List Reply × Alone} (λ (x : Reply × Alone). option_map {U = List Reply × Alone} (λ (y : List Reply × Alone). (x.0 ∷ y.0, y.1)) (alone c s list x.1))) (same_step c s client command r is)
    ∙ of_step (λ x. same_alone c s client list x is) (step_alone c (session_of s.frames s.moment client) command r)
  where
    of_step : ((x : Alone) → alone c s list x ≡ alone c (session_of s.frames s.moment client) list x) → (o : Option (Reply × Alone))
        → option_and_then {U = List Reply × Alone} (λ (x : Reply × Alone). option_map {U = List Reply × Alone} (λ (y : List Reply × Alone). (x.0 ∷ y.0, y.1)) (alone c s list x.1)) o
        ≡ option_and_then {U = List Reply × Alone} (λ (x : Reply × Alone). option_map {U = List Reply × Alone} (λ (y : List Reply × Alone). (x.0 ∷ y.0, y.1)) (alone c (session_of s.frames s.moment client) list x.1)) o
    of_step same None = refl
    of_step same (Some x) = ap (option_map {U = List Reply × Alone} (λ (y : List Reply × Alone). (x.0 ∷ y.0, y.1))) (same x.1)

-- the empty history
begins : (c : Cutting) → StandsAs c [] beginning
begins c = record {
  events = refl;
  symbols = refl;
  states = λ symbol. refl;
  snapshots = refl;
  shapes = λ symbol. record { tiles = refl; indexes = refl; elements = refl; references = refl; pieces = refl; made = tt; versions = tt; keys = no_keys symbol };
  cut = λ symbol. tt;
}

-- a run of a client of the frames and the moment
of_session : (c : Cutting) (s : Session) (frames : List Table) (moment : ℤ) (client : ℕ) (list : List Command) (replies : List Reply) (old new : History) → s.frames ≡ frames → s.moment ≡ moment → s.client ≡ client
    → RunsAlone c s list replies old new → (r : Alone) → StandsAs c old r → RunsTo c (alone c (session_of frames moment client) list r) replies new
of_session c s frames moment client list replies old new frames_are moment_is is runs r stands =
    subst (λ (x : List Table). RunsTo c (alone c (session_of x moment client) list r) replies new) frames_are
    (subst (λ (x : ℤ). RunsTo c (alone c (session_of s.frames x client) list r) replies new) moment_is
    (subst (λ o. RunsTo c o replies new) (same_alone c s client list r is) (runs r stands)))

pub blocks_are_sole : BlocksAreSole
blocks_are_sole c s t first block last begun met ended h g k is other frames_are moment_is runs_first runs_block runs_last =
    of_first (alone c (session_of s.frames s.moment 1) first beginning) (of_session c s s.frames s.moment 1 first begun [] h refl refl is runs_first beginning (begins c))
  where
    made : List Reply × Alone → List Reply × Alone → Option (List Reply × Alone) → Option SoleRun
    made x y o = option_map {U = SoleRun} (λ (z : List Reply × Alone). record { first = x.0; block = y.0; last = z.0; events = z.1.events }) o

    result : Option SoleRun
    result = Some (record { first = begun; block = met; last = ended; events = length k })

    of_last : (x y : List Reply × Alone) (o : Option (List Reply × Alone)) → begun ≡ x.0 → met ≡ y.0 → RunsTo c o ended k → made x y o ≡ result
    of_last x y None begun_is met_is to = absurd to
    of_last x y (Some z) begun_is met_is to =
        ap {B = Option SoleRun} (λ rs. Some (record { first = rs; block = y.0; last = z.0; events = z.1.events })) (sym begun_is)
        ∙ (ap {B = Option SoleRun} (λ rs. Some (record { first = begun; block = rs; last = z.0; events = z.1.events })) (sym met_is)
        ∙ (ap {B = Option SoleRun} (λ rs. Some (record { first = begun; block = met; last = rs; events = z.1.events })) (sym to.0)
        ∙ ap {B = Option SoleRun} (λ n. Some (record { first = begun; block = met; last = ended; events = n })) to.1.events))

    of_block : (x : List Reply × Alone) (o : Option (List Reply × Alone)) → begun ≡ x.0 → RunsTo c o met g
        → option_and_then {U = SoleRun} (λ (y : List Reply × Alone). made x y (alone c (session_of s.frames s.moment 1) last y.1)) o ≡ result
    of_block x None begun_is to = absurd to
    of_block x (Some y) begun_is to =
        of_last x y (alone c (session_of s.frames s.moment 1) last y.1) begun_is to.0 (of_session c s s.frames s.moment 1 last ended g k refl refl is runs_last y.1 to.1)

    of_first : (o : Option (List Reply × Alone)) → RunsTo c o begun h
        → option_and_then {U = SoleRun} (λ (x : List Reply × Alone).
        option_and_then {U = SoleRun} (λ (y : List Reply × Alone). made x y (alone c (session_of s.frames s.moment 1) last y.1)) (alone c (session_of s.frames s.moment 2) block x.1)) o ≡ result
    of_first None to = absurd to
    of_first (Some x) to =
        of_block x (alone c (session_of s.frames s.moment 2) block x.1) to.0 (of_session c t s.frames s.moment 2 block met h g frames_are moment_is other runs_block x.1 to.1)

pub runs_are_sole : RunsAreSole
runs_are_sole c s list replies h is runs =
    blocks_are_sole c s (record s { client = 2 }) list [] [] replies [] [] h h h is refl refl refl runs (runs_grow.none c (record s { client = 2 }) h) (runs_grow.none c s h)
