-- Between two places of a window in which others do not name a symbol: its keys, its links, and which of its keys are dropped.
use Rattle.std.proofs.Common.{◌≡◌, ℕ, zero, suc, ◌-◌, ◌≤◌, ◌<◌, Bool, true, false, List, [], ◌∷◌, ◌++◌, map, length, take, Some, refl, sym, ◌∙◌, ap, subst, inl, inr, arith, cond}
use Rattle.std.specs.Prelude.{◌&&◌, ◌||◌, not, filter, reverse, count_by, nat_eq, is_some}
use Rattle.std.specs.List.{list_any}
use Rattle.std.proofs.lemmas.Bool.{true≢false, or_cases, or_left, or_right, cases_lt, eqb-true}
use Rattle.segment_cut.proofs.Lists.{count_by-cons}
use Rattle.key_kind.specs.Names.{Name, same_name}
use Rattle.key_kind.specs.declared.key.Key.{Key}
use Rattle.key_kind.specs.declared.key.KeyKind.{KeyKind}
use Rattle.key_kind.specs.declared.key.KeyKind.TheVariants as kinds
use Rattle.key_kind.specs.Keys.{is_put, same_kind, same_key, reference_key, snapshot_key}
use Rattle.key_kind.proofs.KeyTests.{same_key_is, same_key_self, same_name_self, put_is_no_reference, put_is_no_snapshot}
use Rattle.bucket_core.specs.declared.event.Event.{Event}
use Rattle.bucket_core.specs.declared.event.Event.TheVariants as events
use Rattle.bucket_core.specs.Laws.{IsTested, refers}
use Rattle.bucket_core.specs.History.{History, author, key_of, body_of, stored, stored_keys, without_key, history_at, event_at, events_within}
use Rattle.store_model.specs.Law.{IsLawful}
use Rattle.store_model.specs.Library.{state_of}
use Rattle.store_model.specs.Links.{links, links_at}
use Rattle.reply_model.specs.declared.outcome.Outcome.TheVariants as outcomes
use Rattle.reply_model.specs.Windows.{Window, own_events}
use Rattle.reply_model.specs.Drops.{drops}
use Rattle.reply_model.specs.Rows.{keys_of, keys_outcome}
use Rattle.reply_model.specs.Runs.{names_symbol, IsAlone}
use Rattle.reply_model.proofs.Later.{history_at_later}
use Rattle.reply_model.proofs.Covering.{event_at_later, event_at_end, some_is}
use Rattle.reply_model.proofs.Places.{history_at_end, same_between, behind, within_is_behind, none_own_at}
use Rattle.reply_model.proofs.Quiet.{not_with, not_first, stages, Quiet, others_unnamed, state_kept}
use Rattle.reply_model.proofs.StoredCounts.{count_other, is_of}
use Rattle.reply_model.proofs.DropCounts.{is_among}
use Rattle.reply_model.proofs.ReachedKeys.{both_true, same_test, not_passing}
use Rattle.reply_model.proofs.TryCounts.{reversed_none}

-- ---- how many keys there are

-- a key that does not pass is not missed
count_fewer : (p : Key → Bool) (key : Key) (ks : List Key) → p key ≡ false → count_by p (without_key key ks) ≡ count_by p ks
count_fewer p key [] fails = refl
count_fewer p key (k ∷ ks) fails =
    elim (same_key key k) as (λ t. same_key key k ≡ t → count_by p (cond (not t) (k ∷ without_key key ks) (without_key key ks)) ≡ count_by p (k ∷ ks)) [
      | true ↦ λ e.
          let none : cond {A = ℕ} (p k) 1 0 ≡ 0 = ap (λ b. cond b 1 0) (ap p (sym (same_key_is key k e)) ∙ fails) in
          omega (arith, count_by-cons p k ks, none, count_fewer p key ks fails)
      | false ↦ λ e. omega (arith, count_by-cons p k (without_key key ks), count_by-cons p k ks, count_fewer p key ks fails)
    ] refl

-- an event that does not name the symbol leaves the number of its keys
unnamed_counts : (symbol : Name) (kind : KeyKind) → same_kind kinds.Snapshot kind ≡ false → (e : Event) (h : History) → names_symbol symbol e ≡ false → keys_of (e ∷ h) symbol kind ≡ keys_of h symbol kind
unnamed_counts symbol kind other (events.Put c key body) h u = count_other (is_of symbol kind) key (stored_keys h) (not_with (same_kind key.kind kind) (same_name key.name symbol) u)
unnamed_counts symbol kind other (events.Refer c s was entry list) h u = count_other (is_of symbol kind) (reference_key s) (stored_keys h) (not_with (same_kind kinds.VersionRef kind) (same_name s symbol) u)
unnamed_counts symbol kind other (events.Name c snap body) h u = count_other (is_of symbol kind) (snapshot_key snap) (stored_keys h) (not_first (same_kind kinds.Snapshot kind) (same_name snap symbol) other)
unnamed_counts symbol kind other (events.Unname c snap) h u = count_fewer (is_of symbol kind) (snapshot_key snap) (stored_keys h) (not_first (same_kind kinds.Snapshot kind) (same_name snap symbol) other)
unnamed_counts symbol kind other (events.Drop c key) h u = count_fewer (is_of symbol kind) key (stored_keys h) (not_with (same_kind key.kind kind) (same_name key.name symbol) u)

five : {a b c d e p q r s t : ℕ} → a ≡ p → b ≡ q → c ≡ r → d ≡ s → e ≡ t → outcomes.Keys a b c d e ≡ outcomes.Keys p q r s t
five f g h k l = λ i. outcomes.Keys (f i) (g i) (h i) (k i) (l i)

-- without own events the symbol's keys are as many as where the window begins
pub keys_kept : (h : History) (client : ℕ) (symbol : Name) (w : Window) (q : ℕ) → w.stop ≡ length h → IsAlone h client symbol w → own_events h client w ≡ [] → w.start ≤ q → q ≤ length h
    → keys_outcome (history_at h q) symbol ≡ keys_outcome (history_at h w.start) symbol
keys_kept h client symbol w q ends alone own first last = five (of kinds.TableData refl) (of kinds.TableIndex refl) (of kinds.Version refl) (of kinds.VersionRef refl) (of kinds.Staged refl)
  where
    of : (kind : KeyKind) → same_kind kinds.Snapshot kind ≡ false → keys_of (history_at h q) symbol kind ≡ keys_of (history_at h w.start) symbol kind
    of kind other = same_between (λ g. keys_of g symbol kind) (names_symbol symbol) (unnamed_counts symbol kind other) h w.start q first last (λ n e after before at.
        elim (nat_eq (author e) client) as (λ b. nat_eq (author e) client ≡ b → names_symbol symbol e ≡ false) [
          | true ↦ λ mine. absurd (true≢false (none_own_at (λ x. true) h client w n e ends (ap (list_any (λ x. true)) own) (eqb-true (author e) client mine) after (omega (arith, before, last)) at))
          | false ↦ λ others. others_unnamed h client symbol w ends alone n e after (omega (arith, before, last)) at others
        ] refl)

-- ---- what goes back from one place to another

-- what each event between two places tells of the history before it
pub carried_back : (P : History → Type 0) (changes : Event → Bool) → ((e : Event) (g : History) → changes e ≡ false → P (e ∷ g) → P g)
    → (h : History) (start q : ℕ) → start ≤ q → q ≤ length h → ((n : ℕ) (e : Event) → start < n → n ≤ q → event_at h n ≡ Some e → changes e ≡ false)
    → P (history_at h q) → P (history_at h start)
carried_back P changes step [] start q first last none p = let same : q ≡ start = omega (arith, first, last) in subst (λ m. P (history_at [] m)) same p
carried_back P changes step (x ∷ h) start q first last none p = elim (cases_lt (length h) q) [
  | inl beyond ↦
      let end : q ≡ suc (length h) = omega (arith, beyond, last) in
      elim (cases_lt (length h) start) [
        | inl late ↦ let same : q ≡ start = omega (arith, first, last, late, end) in subst (λ m. P (history_at (x ∷ h) m)) same p
        | inr early ↦
            let still : changes x ≡ false = none (suc (length h)) x (omega (arith, early)) (omega (arith, end)) (event_at_end x h) in
            let here : P (x ∷ h) = subst P (ap (λ m. history_at (x ∷ h) m) end ∙ history_at_end (x ∷ h)) p in
            subst P (sym (history_at_later h (x ∷ []) start early))
            (carried_back P changes step h start (length h) early (omega arith) (λ n e after before at. none n e after (omega (arith, before, end)) (event_at_later x h n before ∙ at))
            (subst P (sym (history_at_end h)) (step x h still here)))
      ]
  | inr within ↦
      let early : start ≤ length h = omega (arith, first, within) in
      subst P (sym (history_at_later h (x ∷ []) start early))
      (carried_back P changes step h start q first within (λ n e after before at. none n e after before (event_at_later x h n (omega (arith, before, within)) ∙ at))
      (subst P (history_at_later h (x ∷ []) q within) p))
]

-- ---- the place of an own event

none_taken : (p : Event → Bool) (n : ℕ) → list_any p (take n []) ≡ true → ⊥
none_taken p zero e = true≢false (sym e)
none_taken p (suc n) e = true≢false (sym e)

-- what some event behind a place passes has a place
pub one_behind : (p : Event → Bool) (h : History) (start : ℕ) → list_any p (behind start h) ≡ true
    → (n : ℕ) × (e : Event) × (start < n) × (n ≤ length h) × (event_at h n ≡ Some e) × (p e ≡ true)
one_behind p [] start some = absurd (none_taken p (0 - start) some)
one_behind p (x ∷ h) start some = elim (cases_lt (length h) start) [
  | inl late ↦
      let none : suc (length h) - start ≡ 0 = omega (arith, late) in
      absurd (true≢false (sym (subst (λ m. list_any p (take m (x ∷ h)) ≡ true) none some)))
  | inr early ↦
      let longer : suc (length h) - start ≡ suc (length h - start) = omega (arith, early) in
      elim (or_cases (p x) (list_any p (behind start h)) (subst (λ m. list_any p (take m (x ∷ h)) ≡ true) longer some)) [
        | inl here ↦ (suc (length h), x, omega (arith, early), omega arith, event_at_end x h, here)
        | inr later ↦ let r = one_behind p h start later in (r.0, r.1, r.2, omega (arith, r.3), event_at_later x h r.0 r.3 ∙ r.4, r.5)
      ]
]

some_filtered : (keep p : Event → Bool) (xs : List Event) → list_any p (filter keep xs) ≡ true → list_any (λ e. keep e && p e) xs ≡ true
some_filtered keep p [] some = some
some_filtered keep p (x ∷ xs) some =
    elim (keep x) as (λ b. list_any p (cond b (x ∷ filter keep xs) (filter keep xs)) ≡ true → ((b && p x) || list_any (λ e. keep e && p e) xs) ≡ true) [
      | true ↦ λ e. elim (or_cases (p x) (list_any p (filter keep xs)) e) [
        | inl here ↦ or_left (p x) (list_any (λ y. keep y && p y) xs) here
        | inr later ↦ or_right (p x) (list_any (λ y. keep y && p y) xs) (some_filtered keep p xs later)
      ]
      | false ↦ λ e. some_filtered keep p xs e
    ] some

-- ---- a window whose own events are drops

-- the window ends with the history, others do not name the symbol, and the own events are drops of these keys
pub record OnlyDrops (h : History) (client : ℕ) (symbol : Name) (w : Window) (keys : List Key) : Type 0 where
  pub ends : w.stop ≡ length h
  pub alone : IsAlone h client symbol w
  pub own : own_events h client w ≡ map (events.Drop client) keys

-- any event but a drop
abbrev is_no_drop : Event → Bool
is_no_drop (events.Drop client key) = false
is_no_drop e = true

drops_are_drops : (client : ℕ) (keys : List Key) → list_any is_no_drop (map (events.Drop client) keys) ≡ false
drops_are_drops client [] = refl
drops_are_drops client (k ∷ keys) = drops_are_drops client keys

drops_stage_nothing : (client : ℕ) (keys : List Key) → list_any stages (map (events.Drop client) keys) ≡ false
drops_stage_nothing client [] = refl
drops_stage_nothing client (k ∷ keys) = drops_stage_nothing client keys

same_key_turned : (a b : Key) → same_key a b ≡ same_key b a
same_key_turned a b = same_test (same_key a b) (same_key b a) (turned a b) (turned b a)
  where
    turned : (x y : Key) → same_key x y ≡ true → same_key y x ≡ true
    turned x y e = subst (λ z. same_key z x ≡ true) (same_key_is x y e) (same_key_self x)

drops_among : (client : ℕ) (keys : List Key) (key : Key) → list_any (drops key) (map (events.Drop client) keys) ≡ is_among keys key
drops_among client [] key = refl
drops_among client (k ∷ keys) key = ap (λ b. b || list_any (drops key) (map (events.Drop client) keys)) (same_key_turned k key) ∙ ap (λ b. same_key key k || b) (drops_among client keys key)

drop_refers_nothing : (symbol : Name) (e : Event) → is_no_drop e ≡ false → refers symbol e ≡ false
drop_refers_nothing symbol (events.Drop c key) n = refl
drop_refers_nothing symbol (events.Put c key body) n = absurd (true≢false n)
drop_refers_nothing symbol (events.Refer c s was entry list) n = absurd (true≢false n)
drop_refers_nothing symbol (events.Name c snap body) n = absurd (true≢false n)
drop_refers_nothing symbol (events.Unname c snap) n = absurd (true≢false n)

unnamed_unreferred : (symbol : Name) (e : Event) → names_symbol symbol e ≡ false → refers symbol e ≡ false
unnamed_unreferred symbol (events.Refer c s was entry list) u = u
unnamed_unreferred symbol (events.Drop c key) u = refl
unnamed_unreferred symbol (events.Put c key body) u = refl
unnamed_unreferred symbol (events.Name c snap body) u = refl
unnamed_unreferred symbol (events.Unname c snap) u = refl

links_unreferred : (symbol : Name) (e : Event) (g : History) → refers symbol e ≡ false → links (e ∷ g) symbol ≡ links g symbol
links_unreferred symbol (events.Refer c s was entry list) g r = choose_false s r
  where
    choose_false : (t : Name) → same_name t symbol ≡ false → links (events.Refer c t was entry list ∷ g) symbol ≡ links g symbol
    choose_false t r = ap (λ b. cond b (links_at g entry ++ links g symbol) (links g symbol)) r
links_unreferred symbol (events.Drop c key) g r = refl
links_unreferred symbol (events.Put c key body) g r = refl
links_unreferred symbol (events.Name c snap body) g r = refl
links_unreferred symbol (events.Unname c snap) g r = refl

-- ---- which keys are stored

-- the event sets the key
abbrev sets : Key → Event → Bool
sets key e = same_key (key_of e) key

-- the event sets the key to a body
abbrev fills : Key → Event → Bool
fills key e = same_key (key_of e) key && is_some (body_of e)

stored_unset : (key : Key) (e : Event) (g : History) → sets key e ≡ false → stored (e ∷ g) key ≡ stored g key
stored_unset key e g unset = ap (λ b. cond b (body_of e) (stored g key)) unset

stored_unfilled : (key : Key) (e : Event) (g : History) → fills key e ≡ false → is_some (stored (e ∷ g) key) ≡ true → is_some (stored g key) ≡ true
stored_unfilled key e g unfilled = elim (same_key (key_of e) key) as (λ b. (b && is_some (body_of e)) ≡ false → is_some (cond b (body_of e) (stored g key)) ≡ true → is_some (stored g key) ≡ true) [
  | true ↦ λ none some. absurd (true≢false (sym some ∙ none))
  | false ↦ λ none some. some
] unfilled

module _ (symbol : Name) (key : Key) (name : key.name ≡ symbol) (put : is_put key.kind ≡ true) where
  other_name : (k : Key) → same_name k.name symbol ≡ false → same_key k key ≡ false
  other_name k other = not_passing (same_key k key) (λ e.
      true≢false (sym (same_name_self symbol) ∙ (ap (λ n. same_name n symbol) (sym name) ∙ (ap (λ (x : Key). same_name x.name symbol) (sym (same_key_is k key e)) ∙ other))))

  unnamed_unset : (e : Event) → names_symbol symbol e ≡ false → sets key e ≡ false
  unnamed_unset (events.Put c k body) u = other_name k u
  unnamed_unset (events.Drop c k) u = other_name k u
  unnamed_unset (events.Refer c s was entry list) u = put_is_no_reference s key put
  unnamed_unset (events.Name c snap body) u = put_is_no_snapshot snap key put
  unnamed_unset (events.Unname c snap) u = put_is_no_snapshot snap key put

-- an own drop of another key does not set it, and no drop fills it
drop_unset : (key : Key) (e : Event) → is_no_drop e ≡ false → drops key e ≡ false → sets key e ≡ false
drop_unset key (events.Drop c k) n other = other
drop_unset key (events.Put c k body) n other = absurd (true≢false n)
drop_unset key (events.Refer c s was entry list) n other = absurd (true≢false n)
drop_unset key (events.Name c snap body) n other = absurd (true≢false n)
drop_unset key (events.Unname c snap) n other = absurd (true≢false n)

drop_unfilled : (key : Key) (e : Event) → is_no_drop e ≡ false → fills key e ≡ false
drop_unfilled key (events.Drop c k) n = not_with (same_key k key) false refl
drop_unfilled key (events.Put c k body) n = absurd (true≢false n)
drop_unfilled key (events.Refer c s was entry list) n = absurd (true≢false n)
drop_unfilled key (events.Name c snap body) n = absurd (true≢false n)
drop_unfilled key (events.Unname c snap) n = absurd (true≢false n)

-- just before a drop the key is stored
stored_before_drop : (h : History) (key : Key) (n : ℕ) (e : Event) → IsLawful h → 0 < n → n ≤ length h → event_at h n ≡ Some e → drops key e ≡ true → is_some (stored (history_at h (n - 1)) key) ≡ true
stored_before_drop [] key n e lawful after before at is = absurd (omega (arith, after, before))
stored_before_drop (x ∷ h) key n e lawful after before at is = elim (cases_lt (length h) n) [
  | inl beyond ↦
      let end : n ≡ suc (length h) = omega (arith, beyond, before) in
      let one_less : n - 1 ≡ length h = omega (arith, end) in
      let same : x ≡ e = some_is x e (sym (event_at_end x h) ∙ (ap (λ m. event_at (x ∷ h) m) (sym end) ∙ at)) in
      ap (λ g. is_some (stored g key)) (ap (λ m. history_at (x ∷ h) m) one_less ∙ (history_at_later h (x ∷ []) (length h) (omega arith) ∙ history_at_end h))
      ∙ dropped_there x lawful.0.0 (ap (drops key) same ∙ is)
  | inr within ↦
      ap (λ g. is_some (stored g key)) (history_at_later h (x ∷ []) (n - 1) (omega (arith, within)))
      ∙ stored_before_drop h key n e lawful.1 after within (sym (event_at_later x h n within) ∙ at) is
]
  where
    dropped_there : (y : Event) → IsTested h y → drops key y ≡ true → is_some (stored h key) ≡ true
    dropped_there (events.Drop c k) tested d = subst (λ z. is_some (stored h z) ≡ true) (same_key_is k key d) tested
    dropped_there (events.Put c k body) tested d = absurd (true≢false (sym d))
    dropped_there (events.Refer c s was entry list) tested d = absurd (true≢false (sym d))
    dropped_there (events.Name c snap body) tested d = absurd (true≢false (sym d))
    dropped_there (events.Unname c snap) tested d = absurd (true≢false (sym d))

module _ (h : History) (client : ℕ) (symbol : Name) (w : Window) (keys : List Key) (d : OnlyDrops h client symbol w keys) where
  own_is_drop : (n : ℕ) (e : Event) → w.start < n → n ≤ length h → event_at h n ≡ Some e → author e ≡ client → is_no_drop e ≡ false
  own_is_drop n e after before at mine = none_own_at is_no_drop h client w n e d.ends (ap (list_any is_no_drop) d.own ∙ drops_are_drops client keys) mine after before at

  -- what own drops do not pass, nor events that do not name the symbol
  none_within : (p : Event → Bool) → ((e : Event) → names_symbol symbol e ≡ false → p e ≡ false) → (n : ℕ) (e : Event) → w.start < n → n ≤ length h → event_at h n ≡ Some e
      → (is_no_drop e ≡ false → p e ≡ false) → p e ≡ false
  none_within p unnamed n e after before at own =
      elim (nat_eq (author e) client) as (λ b. nat_eq (author e) client ≡ b → p e ≡ false) [
        | true ↦ λ mine. own (own_is_drop n e after before at (eqb-true (author e) client mine))
        | false ↦ λ other. unnamed e (others_unnamed h client symbol w d.ends d.alone n e after before at other)
      ] refl

  quiet : Quiet h client symbol w
  quiet = record { ends = d.ends; alone = d.alone; own = ap (list_any stages) d.own ∙ drops_stage_nothing client keys }

  pub state_stays : (q : ℕ) → w.start ≤ q → q ≤ length h → state_of (history_at h q) symbol ≡ state_of (history_at h w.start) symbol
  state_stays q first last = state_kept h client symbol w q quiet first last (λ n e after before at mine. drop_refers_nothing symbol e (own_is_drop n e after (omega (arith, before, last)) at mine))

  pub links_stay : (q : ℕ) → w.start ≤ q → q ≤ length h → links (history_at h q) symbol ≡ links (history_at h w.start) symbol
  links_stay q first last = same_between (λ g. links g symbol) (refers symbol) (links_unreferred symbol) h w.start q first last (λ n e after before at.
      none_within (refers symbol) (unnamed_unreferred symbol) n e after (omega (arith, before, last)) at (drop_refers_nothing symbol e))

  -- a key of the symbol that is stored was so where the window begins
  pub stood_before : (key : Key) (q : ℕ) → key.name ≡ symbol → is_put key.kind ≡ true → w.start ≤ q → q ≤ length h → is_some (stored (history_at h q) key) ≡ true → is_some (stored (history_at h w.start) key) ≡ true
  stood_before key q name put first last = carried_back (λ g. is_some (stored g key) ≡ true) (fills key) (stored_unfilled key) h w.start q first last (λ n e after before at.
      none_within (fills key) (λ x u. not_first (same_key (key_of x) key) (is_some (body_of x)) (unnamed_unset symbol key name put x u)) n e after (omega (arith, before, last)) at (drop_unfilled key e))

  -- one that is not dropped is stored as there
  pub stored_as_before : (key : Key) (q : ℕ) → key.name ≡ symbol → is_put key.kind ≡ true → w.start ≤ q → q ≤ length h → is_among keys key ≡ false → stored (history_at h q) key ≡ stored (history_at h w.start) key
  stored_as_before key q name put first last out = same_between (λ g. stored g key) (sets key) (stored_unset key) h w.start q first last (λ n e after before at.
      elim (nat_eq (author e) client) as (λ b. nat_eq (author e) client ≡ b → sets key e ≡ false) [
        | true ↦ λ mine.
            let own = eqb-true (author e) client mine in
            drop_unset key e (own_is_drop n e after (omega (arith, before, last)) at own)
            (none_own_at (drops key) h client w n e d.ends (ap (list_any (drops key)) d.own ∙ (drops_among client keys key ∙ out)) own after (omega (arith, before, last)) at)
        | false ↦ λ other. unnamed_unset symbol key name put e (others_unnamed h client symbol w d.ends d.alone n e after (omega (arith, before, last)) at other)
      ] refl)

  -- one that is dropped is stored there
  pub dropped_stood : (key : Key) → IsLawful h → key.name ≡ symbol → is_put key.kind ≡ true → is_among keys key ≡ true → is_some (stored (history_at h w.start) key) ≡ true
  dropped_stood key lawful name put there =
      let own : list_any (drops key) (own_events h client w) ≡ true = ap (list_any (drops key)) d.own ∙ (drops_among client keys key ∙ there) in
      let all = subst (λ g. list_any (drops key) (reverse (filter (λ x. nat_eq (author x) client) g)) ≡ true) (ap (events_within h w.start) d.ends ∙ within_is_behind h w.start) own in
      let r = one_behind (λ x. nat_eq (author x) client && drops key x) h w.start
      (some_filtered (λ x. nat_eq (author x) client) (drops key) (behind w.start h) (some_of_reversed (filter (λ x. nat_eq (author x) client) (behind w.start h)) all)) in
      let is : drops key r.1 ≡ true = (both_true (nat_eq (author r.1) client) (drops key r.1) r.5).1 in
      stood_before key (r.0 - 1) name put (omega (arith, r.2)) (omega (arith, r.3)) (stored_before_drop h key r.0 r.1 lawful (omega (arith, r.2)) r.3 r.4 is)
    where
      some_of_reversed : (xs : List Event) → list_any (drops key) (reverse xs) ≡ true → list_any (drops key) xs ≡ true
      some_of_reversed xs some = elim (list_any (drops key) xs) as (λ b. list_any (drops key) xs ≡ b → b ≡ true) [
        | true ↦ λ e. refl
        | false ↦ λ e. absurd (true≢false (sym some ∙ reversed_none (drops key) xs e))
      ] refl

  -- and no event of others drops one
  pub dropped_by_own : (key : Key) (n : ℕ) (e : Event) → key.name ≡ symbol → w.start < n → n ≤ length h → event_at h n ≡ Some e → drops key e ≡ true → nat_eq (author e) client ≡ false → ⊥
  dropped_by_own key n e name after before at is other =
      true≢false (sym (named e is) ∙ others_unnamed h client symbol w d.ends d.alone n e after before at other)
    where
      named : (x : Event) → drops key x ≡ true → names_symbol symbol x ≡ true
      named (events.Drop c k) f = ap (λ (z : Key). same_name z.name symbol) (same_key_is k key f) ∙ (ap (λ m. same_name m symbol) name ∙ same_name_self symbol)
      named (events.Put c k body) f = absurd (true≢false (sym f))
      named (events.Refer c s was entry list) f = absurd (true≢false (sym f))
      named (events.Name c snap body) f = absurd (true≢false (sym f))
      named (events.Unname c snap) f = absurd (true≢false (sym f))
