-- The replies of a read are legal.
use Rattle.std.proofs.Common.{◌≡◌, ℕ, ◌+◌, ◌-◌, ◌≤◌, Bool, true, false, List, [], ◌++◌, length, take, ◌&&◌, nat_eq, refl, ap, sym, ◌∙◌, subst, inl, inr, Option, Some, None, Result, Ok, Err, arith, length-append}
use Rattle.std.specs.Prelude.{Contains, IfErr}
use Rattle.std.specs.Result.{IsErr, IsErrAnd}
use Rattle.std.proofs.lemmas.List.{take-append-drop, length-drop}
use Rattle.base_types.specs.Faults.{Rose}
use Rattle.frame_core.specs.declared.refusal.Refusal.{Refusal}
use Rattle.frame_core.specs.declared.refusal.Refusal.TheVariants as refusals
use Rattle.frame_core.specs.declared.refusal.Refused.{Refused}
use Rattle.frame_core.specs.Refusals.{Answers}
use Rattle.frame_core.specs.Texts.{Text}
use Rattle.frame_core.specs.Ranges.{Range}
use Rattle.frame_core.specs.Frames.{Frame, IsFrame}
use Rattle.frame_core.specs.Selecting.{places_of, pick_columns}
use Rattle.key_kind.specs.Names.{Name}
use Rattle.key_kind.specs.Keys.{same_key}
use Rattle.bucket_core.specs.History.{History, history_at}
use Rattle.bucket_core.specs.Laws.{Looks}
use Rattle.store_model.specs.Library.{Version, state_of, is_held, is_buried}
use Rattle.store_model.specs.Links.{Linked, links}
use Rattle.store_model.specs.Holders.{has_index}
use Rattle.store_model.specs.Snapshots.{library_of}
use Rattle.store_model.specs.Law.{IsClaimed, IsLawful}
use Rattle.store_model.proofs.Lists.{one_passes, passes}
use Rattle.version_chain.specs.States.{IsWithin}
use Rattle.version_chain.proofs.Walked.{looks_length}
use Rattle.expr_clause.specs.Asking.{apply_clauses}
use Rattle.expr_clause.specs.declared.clause.Clause.{Clause}
use Rattle.expr_clause.specs.declared.command.AsOf.{AsOf}
use Rattle.expr_clause.specs.declared.command.Command.{Command}
use Rattle.expr_clause.specs.declared.command.Command.TheVariants as commands
use Rattle.reply_model.specs.declared.outcome.Outcome.{Outcome}
use Rattle.reply_model.specs.declared.outcome.Outcome.TheVariants as outcomes
use Rattle.reply_model.specs.Answering.{◌then◌, answered, Answer}
use Rattle.reply_model.specs.ReadAnswers.{read_version, version_answer, select_columns, ask, query}
use Rattle.reply_model.specs.Windows.{Client, library_at}
use Rattle.reply_model.specs.Kinds.{cause_of, Told}
use Rattle.reply_model.specs.Legal.{IsCaused, IsLegalOutcome}
use Rattle.reply_model.proofs.Later.{history_at_later}
use Rattle.key_kind.specs.declared.key.Key.{Key}
use Rattle.reply_model.specs.Causes.{IsReadKey}
use Rattle.frame_read.specs.declared.target.Target.{Target}
use Rattle.frame_read.specs.declared.tiles.Tiles.{Tiles}
use Rattle.frame_read.specs.Targets.{IsOfNumber, IsTarget, IsResolveRefusal, RefusesResolve}
use Rattle.frame_read.specs.Fetches.{IsGone, IsGetRefusal, LacksAt, LacksKey}
use Rattle.frame_read.specs.TileSets.{no_rows, IsAskedSchema, IsFetchKey, IsFetched, LacksColumn, RefusesFetch}
use Rattle.frame_read.specs.Wholes.{AreTilesOf, FetchedIsFrame}
use Rattle.frame_read.specs.Gathers.{AreOfFrame}
use Rattle.frame_read.proofs.FetchLemmas.{links_later}
use Rattle.frame_read.proofs.ResolvingLemmas.{lawful_at}
use Rattle.library_api.specs.Steps.{plain_reply, refusal_reply, IsLegalForAll}
use Rattle.library_api.proofs.NoEvents.{served_has_none, legal_without_events}
use Rattle.library_api.proofs.QueryLemmas.{query_told}
use Rattle.library_api.proofs.VersionLemmas.{version_later, read_is_version}
use Rattle.library_api.proofs.AskedLemmas.{refused_by_schema, answered_by_schema, index_schema, fetched_version}
use Rattle.library_api.proofs.GoneLemmas.{unnamed_up_to}

-- what holds of the error that comes back holds of the result
pub err_holds : {A E : Type 0} (P : E → Type 0) (r : Result A E) (x : E) → IsErr r → IsErrAnd r (λ y. y ≡ x) → P x → IfErr r P
err_holds P (Ok a) x is same p = absurd cc
err_holds P (Err y) x is same p = subst P (sym same) p

module _ (symbol : Name) (as_of : AsOf) (range : Range) (columns : Option (List Text)) (clauses : List Clause) where
  abbrev asks : Command
  asks = commands.Read symbol as_of range columns clauses

  -- what the one-thread library answers by what is read
  abbrev from_version : Result Version Refusal → Option Answer
  from_version r = Some (answered (r then λ v. version_answer v range columns clauses))

  abbrev from_frame : ℕ → Result Frame Refusal → Option Answer
  from_frame n r = Some (answered (r then λ f. Ok (record { outcome = outcomes.Whole n f; marks = [] })))

  abbrev from_asked : ℕ → Result Frame Refusal → Option Answer
  from_asked n r = from_frame n (r then apply_clauses clauses)

  module _ (number : ℕ) (sole : Bool) (before now : ℕ) (old new : History) (looks : Looks IsClaimed number sole old new) where
    -- a reply of a read is legal where its place lies in the window and its outcome has its clause
    pub read_legal : (place : ℕ) (outcome : Outcome) → IsWithin old new place
        → ((client : Client) (faulted : Bool) → client.session.client ≡ number → (Rose before now → faulted ≡ true)
        → IsLegalOutcome new client asks (plain_reply place outcome) (record { start = length old; stop = length new; faulted = faulted }) outcome)
        → IsLegalForAll number before now old new asks (plain_reply place outcome)
    read_legal place outcome within clause client own faulted rose =
        legal_without_events client asks (plain_reply place outcome) old new faulted (served_has_none asks refl) sole (subst (λ n. Looks IsClaimed n sole old new) (sym own) looks)
        refl refl refl within (λ cut. refl) (clause client faulted own rose)

    -- memory is wanting
    pub no_memory_legal : (place : ℕ) → IsWithin old new place → IsLegalForAll number before now old new asks (plain_reply place (outcomes.Refused refusals.NoMemory))
    no_memory_legal place within = read_legal place (outcomes.Refused refusals.NoMemory) within (λ client faulted own rose. tt)

    -- at the end of the call
    pub no_memory_at_end : (place : ℕ) → place ≡ length new → IsLegalForAll number before now old new asks (plain_reply place (outcomes.Refused refusals.NoMemory))
    no_memory_at_end place here = no_memory_legal place (record { from = omega (arith, here, looks_length number sole old new looks); to = omega (arith, here) })

    fault_legal : (place : ℕ) → IsWithin old new place → Rose before now → IsLegalForAll number before now old new asks (plain_reply place (outcomes.Refused refusals.StoreFault))
    fault_legal place within rose = read_legal place (outcomes.Refused refusals.StoreFault) within (λ client faulted own f. f rose)

    -- the version is refused
    resolve_legal_by : (place : ℕ) (why : Refusal) → IsWithin old new place → IsResolveRefusal before now (history_at new place) symbol as_of why → IsLegalForAll number before now old new asks (plain_reply place (outcomes.Refused why))
    resolve_legal_by place refusals.NoMemory within e = no_memory_legal place within
    resolve_legal_by place refusals.StoreFault within e = fault_legal place within e
    resolve_legal_by place refusals.NoSuchSymbol within e = read_legal place (outcomes.Refused refusals.NoSuchSymbol) within (λ client faulted own rose. inl (ap from_version e, refl))
    resolve_legal_by place (refusals.NoSuchVersion asked) within e = read_legal place (outcomes.Refused (refusals.NoSuchVersion asked)) within (λ client faulted own rose. inl (ap from_version e, refl))
    resolve_legal_by place refusals.NoSuchSnapshot within e = read_legal place (outcomes.Refused refusals.NoSuchSnapshot) within (λ client faulted own rose. inl (ap from_version e, refl))
    resolve_legal_by place why within e = absurd e

    pub resolve_refused_legal : (refused : Refused) → RefusesResolve before now old new symbol as_of refused → IsLegalForAll number before now old new asks (refusal_reply refused)
    resolve_refused_legal refused r = resolve_legal_by refused.place refused.why r.place r.why

  -- ---- behind the look that found the target

  -- the version that is read at the target's place, in the history that the call has seen at its end
  pub record HasVersion (new : History) (target : Target) : Type 0 where
    pub version : Version
    pub read : read_version (library_at new target.place) symbol as_of ≡ Ok version
    pub number : version.number ≡ target.version
    pub there : Contains (state_of new target.symbol).versions version

  module _ (old mid more new : History) (target : Target) (is_target : IsTarget old mid symbol as_of target) (is : new ≡ more ++ mid) where
    sizes : length new ≡ length more + length mid
    sizes = ap length is ∙ length-append more mid

    pub target_within : IsWithin old new target.place
    target_within = record { from = is_target.place.from; to = omega (arith, sizes, is_target.place.to) }

    same_history : history_at new target.place ≡ history_at mid target.place
    same_history = ap (λ h. history_at h target.place) is ∙ history_at_later mid more target.place is_target.place.to

    pub has_version : HasVersion new target
    has_version = by (read_version (library_of (history_at mid target.place)) symbol as_of) refl is_target.is.read
      where
        split : new ≡ take (length new - target.place) new ++ history_at new target.place
        split = sym (take-append-drop (length new - target.place) new)

        by : (r : Result Version Refusal) → read_version (library_of (history_at mid target.place)) symbol as_of ≡ r → IsOfNumber target.version r → HasVersion new target
        by (Ok v) e number =
            let read : read_version (library_at new target.place) symbol as_of ≡ Ok v = ap (λ h. read_version (library_of h) symbol as_of) same_history ∙ e in
            record {
              version = v;
              read = read;
              number = number;
              there = subst (λ n. Contains (state_of new n).versions v) (sym is_target.symbol_is)
                  (subst (λ h. Contains (state_of h symbol).versions v) (sym split) (version_later (take (length new - target.place) new) (history_at new target.place) symbol v (read_is_version (history_at new target.place) symbol as_of v read)));
            }
        by (Err why) e number = absurd number

  -- a link of a beginning is one of the whole
  pub index_there : (more h new : History) (name : Name) (version : ℕ) (index : _) → new ≡ more ++ h → has_index (links h name) version index ≡ true → has_index (links new name) version index ≡ true
  index_there more h new name version index is there =
      let found = one_passes (λ (l : Linked). nat_eq version l.row.version && same_key index l.row.index) (links h name) there in
      passes (λ (l : Linked). nat_eq version l.row.version && same_key index l.row.index) (links new name) found.0
      (subst (λ g. Contains (links g name) found.0) (sym is) (links_later more h name found.0 found.1)) found.2

  -- the target's link is there when the tiles are fetched
  pub target_linked : (old mid : History) (target : Target) → IsTarget old mid symbol as_of target → has_index (links mid target.symbol) target.version target.index ≡ true
  target_linked old mid target t =
      index_there (take (length mid - target.place) mid) (history_at mid target.place) mid target.symbol target.version target.index (sym (take-append-drop (length mid - target.place) mid))
      (subst (λ n. has_index (links (history_at mid target.place) n) target.version target.index ≡ true) (sym t.symbol_is) t.is.link)

  -- ---- the tiles are refused

  column_refused : (g : Frame) (why : Refusal) → select_columns columns g ≡ Err why → (n : ℕ) × (refusals.NoSuchColumn 0 n ≡ why)
  column_refused g why e = of columns e
    where
      clash : (g : Frame) (why : Refusal) → ◌≡◌ {A = Result Frame Refusal} (Ok g) (Err why) → ⊥
      clash g why e = absurd cc

      same : (a b : Refusal) → ◌≡◌ {A = Result Frame Refusal} (Err a) (Err b) → a ≡ b
      same a b e = cc

      chosen : (names : List Text) (ks : List ℕ) → places_of 1 [] names g.schema.columns ≡ Ok ks → select_columns (Some names) g ≡ Ok (pick_columns g ks)
      chosen names ks e = rw (select_columns, e) refl

      refused : (names : List Text) (n : ℕ) → places_of 1 [] names g.schema.columns ≡ Err n → select_columns (Some names) g ≡ Err (refusals.NoSuchColumn 0 n)
      refused names n e = rw (select_columns, e) refl

      by : (names : List Text) (r : Result (List ℕ) ℕ) → places_of 1 [] names g.schema.columns ≡ r → select_columns (Some names) g ≡ Err why → (n : ℕ) × (refusals.NoSuchColumn 0 n ≡ why)
      by names (Ok ks) is e = absurd (clash (pick_columns g ks) why (sym (chosen names ks is) ∙ e))
      by names (Err n) is e = (n, same (refusals.NoSuchColumn 0 n) why (sym (refused names n is) ∙ e))

      of : (o : Option (List Text)) → select_columns o g ≡ Err why → (n : ℕ) × (refusals.NoSuchColumn 0 n ≡ why)
      of None e = absurd (clash g why e)
      of (Some names) e = by names (places_of 1 [] names g.schema.columns) refl e

  module _ (number : ℕ) (sole : Bool) (before between now : ℕ) (old mid more new : History) (looks : Looks IsClaimed number sole old new) (less : before ≤ between)
      (target : Target) (is_target : IsTarget old mid symbol as_of target) (is : new ≡ more ++ mid) (lawful : ∥ IsLawful new ∥₁) where
    abbrev found : HasVersion new target
    found = has_version old mid more new target is_target is

    longer : length old ≤ length mid
    longer = omega (arith, is_target.place.from, is_target.place.to)

    lacks_legal : (refused : Refused) → LacksColumn new target columns refused → IsLegalForAll number before now old new asks (refusal_reply refused)
    lacks_legal refused lacks =
        let schema = index_schema new lawful target lacks.index lacks.index_is found.version found.there found.number in
        let refuses : select_columns columns (no_rows found.version.frame.schema) ≡ Err refused.why = subst (λ s. select_columns columns (no_rows s) ≡ Err refused.why) schema lacks.refuses in
        let asked : ask found.version.frame range columns ≡ Err refused.why = refused_by_schema found.version.frame range columns refused.why refuses in
        let which = column_refused (no_rows found.version.frame.schema) refused.why refuses in
        subst (λ why. IsLegalForAll number before now old new asks (plain_reply refused.place (outcomes.Refused why))) which.1
        (subst (λ place. IsLegalForAll number before now old new asks (plain_reply place (outcomes.Refused (refusals.NoSuchColumn 0 which.0)))) (sym lacks.place)
        (read_legal number sole before now old new looks target.place (outcomes.Refused (refusals.NoSuchColumn 0 which.0)) (target_within old mid more new target is_target is)
        (λ client faulted own rose. inl (ap from_version found.read ∙ (ap (from_asked found.version.number) (asked ∙ ap Err (sym which.1))), refl))))

    -- a key that the fetch gets is one that the read gets
    read_key_of : (place : ℕ) (link : Linked) (key : Key) → Contains (links (history_at new place) target.symbol) link → link.row.version ≡ target.version → IsFetchKey range columns link key → IsReadKey found.version.frame range columns link key
    read_key_of place link key there number sought = elim sought [
      | inl is ↦ inl is
      | inr x ↦
          let later : Contains (links new target.symbol) link =
          subst (λ h. Contains (links h target.symbol) link) (take-append-drop (length new - place) new) (links_later (take (length new - place) new) (history_at new place) target.symbol link there) in
          let schema = index_schema new lawful (record target { index = link.row.index }) link.index (record { link = link; link_is = later; number = number; key = refl; is = refl }) found.version found.there found.number in
          let given = answered_by_schema found.version.frame range columns x.0 (subst (λ s. IsAskedSchema s columns x.0) schema x.1) in
          inr (given.0, given.1, x.2)
    ]

    gone_legal : (place n : ℕ) → IsWithin mid new place → n ≡ target.version → IsGone (history_at new place) target.symbol target.version → LacksAt new target.symbol target.version (IsFetchKey range columns) place (refusals.VersionGone n)
        → IsLegalForAll number before now old new asks (plain_reply place (outcomes.Refused (refusals.VersionGone n)))
    gone_legal place n within same gone lacks =
        read_legal number sole before now old new looks place (outcomes.Refused (refusals.VersionGone n)) (record { from = omega (arith, longer, within.from); to = within.to })
        (λ client faulted own rose. record {
          read_at = target.place;
          from = is_target.place.from;
          to = omega (arith, is_target.place.to, within.from);
          version = found.version;
          read = found.read;
          number_is = found.number ∙ sym same;
          buried = is_n (λ m. is_buried (state_of (history_at new place) symbol) m ≡ true) (is_symbol (λ s. is_buried (state_of (history_at new place) s) target.version ≡ true) gone.buried);
          released = is_n (λ m. is_held (state_of (history_at new place) symbol) m ≡ false) released;
          link = lacks.0;
          link_is = is_symbol (λ s. Contains (links (history_at new place) s) lacks.0) lacks.1;
          link_number = lacks.2 ∙ sym same;
          key = lacks.3;
          read_key = read_key_of place lacks.0 lacks.3 lacks.1 lacks.2 lacks.4;
          gone = lacks.5;
          unnamed = unnamed_up_to new (history_at new place) symbol as_of found.version (length old) target.place place (lawful_at new place lawful) refl size is_target.place.from (omega (arith, is_target.place.to, within.from))
              (subst (λ h. read_version (library_of h) symbol as_of ≡ Ok found.version) (sym earlier) found.read)
              (subst (λ m. is_held (state_of (history_at new place) symbol) m ≡ false) (sym found.number) released);
        })
      where
        is_symbol : (P : Name → Type 0) → P target.symbol → P symbol
        is_symbol P p = subst P is_target.symbol_is p

        is_n : (P : ℕ → Type 0) → P target.version → P n
        is_n P p = subst P (sym same) p

        released : is_held (state_of (history_at new place) symbol) target.version ≡ false
        released = is_symbol (λ s. is_held (state_of (history_at new place) s) target.version ≡ false) gone.released

        size : length (history_at new place) ≡ place
        size = omega (arith, length-drop (length new - place) new, within.to)

        earlier : history_at (history_at new place) target.place ≡ history_at new target.place
        earlier = sym (ap (λ h. history_at h target.place) (sym (take-append-drop (length new - place) new))
            ∙ history_at_later (history_at new place) (take (length new - place) new) target.place (omega (arith, size, is_target.place.to, within.from)))

    get_legal_by : (place : ℕ) (why : Refusal) → IsWithin mid new place → IsGetRefusal between now (history_at new place) target.symbol target.version why → LacksAt new target.symbol target.version (IsFetchKey range columns) place why → IsLegalForAll number before now old new asks (plain_reply place (outcomes.Refused why))
    get_legal_by place refusals.NoMemory within e lacks = no_memory_legal number sole before now old new looks place (record { from = omega (arith, longer, within.from); to = within.to })
    get_legal_by place refusals.StoreFault within e lacks = fault_legal number sole before now old new looks place (record { from = omega (arith, longer, within.from); to = within.to }) (omega (arith, less, e))
    get_legal_by place (refusals.VersionGone version) within e lacks = gone_legal place version within e.0 e.1 lacks
    get_legal_by place why within e lacks = absurd e

    pub fetch_refused_legal : (refused : Refused) → RefusesFetch between now mid new target columns refused → LacksKey new target (IsFetchKey range columns) refused → IsLegalForAll number before now old new asks (refusal_reply refused)
    fetch_refused_legal refused r lacks = elim r [
      | inl get ↦ get_legal_by refused.place refused.why get.place get.why lacks
      | inr lacks ↦ lacks_legal refused lacks
    ]

    -- ---- the frame

    module _ (is_frame : FetchedIsFrame) (tiles : Tiles) (fetched : IsFetched new target range columns tiles) where
      abbrev whole : IsFrame found.version.frame × AreTilesOf found.version.frame range columns tiles
      whole = fetched_version is_frame new lawful target range columns tiles fetched found.version found.there found.number

      pub tiles_are_of_frame : AreOfFrame tiles
      tiles_are_of_frame = record {
        frame = found.version.frame;
        columns = columns;
        is_frame = whole.0;
        tiles_of = subst (λ r. AreTilesOf found.version.frame r columns tiles) (sym fetched.range_is) whole.1;
      }

      -- what the query gives of the tiles is what it gives of the version's frame
      asked_is : (given : Result Frame Refusal) → ((f : Frame) (names : Option (List Text)) → IsFrame f → AreTilesOf f tiles.range names tiles → query f tiles.range names clauses ≡ given)
          → query found.version.frame range columns clauses ≡ given
      asked_is given made =
          subst (λ r. query found.version.frame r columns clauses ≡ given) fetched.range_is (made found.version.frame columns whole.0 (subst (λ r. AreTilesOf found.version.frame r columns tiles) (sym fetched.range_is) whole.1))

      query_refused : (why : Refusal) → ((f : Frame) (names : Option (List Text)) → IsFrame f → AreTilesOf f tiles.range names tiles → query f tiles.range names clauses ≡ Err why)
          → IsLegalForAll number before now old new asks (plain_reply target.place (outcomes.Refused why))
      query_refused why made =
          let asked : query found.version.frame range columns clauses ≡ Err why = asked_is (Err why) made in
          let told : cause_of why ≡ Told = subst (λ r. IfErr r (λ w. cause_of w ≡ Told)) asked (query_told found.version.frame range columns clauses) in
          read_legal number sole before now old new looks target.place (outcomes.Refused why) (target_within old mid more new target is_target is)
          (λ client faulted own rose. subst (λ cause. IsCaused new client asks (plain_reply target.place (outcomes.Refused why)) (record { start = length old; stop = length new; faulted = faulted }) why cause) (sym told)
          (inl (ap from_version found.read ∙ ap (from_frame found.version.number) asked, refl)))

      -- the clauses are refused, or want memory
      pub query_refused_legal : (why : Refusal) → ((f : Frame) (names : Option (List Text)) → IsFrame f → AreTilesOf f tiles.range names tiles → Answers (Err why) (query f tiles.range names clauses))
          → IsLegalForAll number before now old new asks (plain_reply target.place (outcomes.Refused why))
      query_refused_legal refusals.NoMemory made = no_memory_legal number sole before now old new looks target.place (target_within old mid more new target is_target is)
      query_refused_legal why made = query_refused why made

      pub whole_legal : (frame : Frame) → ((f : Frame) (names : Option (List Text)) → IsFrame f → AreTilesOf f tiles.range names tiles → query f tiles.range names clauses ≡ Ok frame)
          → IsLegalForAll number before now old new asks (plain_reply target.place (outcomes.Whole target.version frame))
      whole_legal frame made =
          let asked : query found.version.frame range columns clauses ≡ Ok frame = asked_is (Ok frame) made in
          read_legal number sole before now old new looks target.place (outcomes.Whole target.version frame) (target_within old mid more new target is_target is)
          (λ client faulted own rose. inl (ap from_version found.read ∙ (ap (from_frame found.version.number) asked ∙ ap (λ n. Some (record { outcome = outcomes.Whole n frame; marks = [] })) found.number), refl))
