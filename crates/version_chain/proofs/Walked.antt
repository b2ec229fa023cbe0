-- What a walk meets, where the history is only known to be lawful.
use Rattle.std.proofs.Common.{◌≡◌, ℕ, zero, suc, ◌+◌, ◌-◌, ◌<◌, ◌≤◌, Bool, true, false, List, [], ◌∷◌, ◌++◌, length, take, refl, ap, sym, ◌∙◌, subst, append_assoc, arith, Option, Some, None, Result, Ok, Err}
use Rattle.std.specs.Prelude.{⊤, Contains, slice_get, is_some, option_map, option_and_then, map, reverse, cond, IfSome, fold}
use mathlib.Core.List.{reverse_aux}
use Rattle.std.specs.Coded.{×_prop, Unit-prop, le_prop}
use Rattle.std.specs.List.{AllZip, cons_option}
use Rattle.std.proofs.lemmas.Bool.{true≢false}
use Rattle.std.proofs.lemmas.List.{length-append, append-nil, take_all, take_more, nil_from_length}
use Rattle.std.proofs.lemmas.Option.{get_or_from_slice_get, slice_get_within}
use Rattle.version_chain.specs.declared.state.SymbolState.{SymbolState}
use Rattle.version_chain.specs.States.{hold_of, IsStateOf, IsStateAt}
use Rattle.version_chain.specs.Elements.{entry_before, next_of, IsCollected}
use denote.Struct.Props.{props}
use mathlib.Core.Logic.{∥∥₁_elim}
use mathlib.Core.HLevel.{⊥_prop}
use Rattle.byte_fields.specs.Reading.{read_of, fault_at}
use Rattle.version_chain.specs.declared.fault.EntryFault.{EntryFault}
use Rattle.version_chain.specs.declared.fault.EntryFault.TheVariants as faults
use Rattle.version_chain.specs.ChainFaults.{IsFaultOf}
use Rattle.byte_fields.proofs.Steps.{ok_is}
use Rattle.key_kind.specs.declared.key.Key.{Key}
use Rattle.key_kind.specs.Names.{Name, same_name}
use Rattle.key_kind.specs.Keys.{is_put, reference_key}
use Rattle.key_kind.specs.KeyText.{key_text, key_at}
use Rattle.std.specs.Result.{is_err}
use Rattle.key_kind.specs.declared.key_bytes.KeyFault.{KeyFault}
use Rattle.key_kind.specs.declared.key_bytes.KeyFault.TheVariants as key_faults
use Rattle.key_kind.specs.KeyFaults.{IsKeyFault}
use Rattle.key_kind.proofs.KeyReading.{key_again}
use Rattle.bucket_core.specs.declared.event.Event.TheVariants as events
use Rattle.bucket_core.specs.declared.event.Change.{Change}
use Rattle.bucket_core.specs.declared.event.Change.TheVariants as changes
use Rattle.bucket_core.specs.History.{History, Bytes, stored, body_put, reference, StandsAsPut, AllByOthers}
use Rattle.bucket_core.specs.Laws.{Looks}
use Rattle.bucket_core.specs.Calls.{IsSteady}
use Rattle.store_model.specs.declared.chain.Entry.{Entry}
use Rattle.store_model.specs.ChainText.{entry_of}
use Rattle.store_model.specs.declared.chain.LinkRow.{LinkRow}
use Rattle.store_model.specs.Commits.{Rising}
use Rattle.store_model.specs.Intact.{IsLinkOf}
use Rattle.store_model.specs.Library.{State, Version, state_of, number_after, next_number, new_version, after_change, after_changes}
use Rattle.store_model.specs.Links.{Linked, links, entries, is_entry, element}
use Rattle.store_model.specs.PlainWalks.{chain, rows_in, tombs_in, holds_in, pieces_in}
use Rattle.store_model.specs.Law.{IsClaimed, IsLawful}
use Rattle.store_model.proofs.AsPut.{element_stays, elements_as_put}
use Rattle.store_model.proofs.Histories.{stands_was_put}
use Rattle.store_model.proofs.Lawful.{lawful_is_intact}
use Rattle.store_model.proofs.Standing.{lawful_is_shown}
use Rattle.store_model.proofs.PlainWalking.{has_elements, walk_is_state}
use Rattle.store_model.proofs.Plainly.{entries_stand}
use Rattle.store_model.proofs.PlainFollowing.{entries-first, chain-prev, chain-at}
use Rattle.store_model.proofs.Following.{puts_stay, entry_stays, entry_is_among, among_is_entry, at_is_among, put_key}

some_is : {A : Type 0} (a b : A) → Some a ≡ Some b → a ≡ b
some_is a b e = cc

not_both : {A : Type 0} (o : Option A) (a : A) → o ≡ Some a → o ≡ None → ⊥
not_both o a p q = cc

-- ---- looks, one after another

pub others_append : (client : ℕ) (a b : History) → AllByOthers client a → AllByOthers client b → AllByOthers client (a ++ b)
others_append client [] b p q = q
others_append client (e ∷ a) b p q = (p.0, others_append client a b p.1 q)

pub looks_then : (client : ℕ) (sole : Bool) (later : ℕ) (alone : Bool) (old mid new : History) → later ≡ client → (sole ≡ true → alone ≡ true) → Looks IsClaimed client sole old mid → Looks IsClaimed later alone mid new → Looks IsClaimed client sole old new
looks_then client sole later alone old mid new same stays a b = record {
  others = b.others ++ a.others;
  is = b.is ∙ (ap (λ (h : History). b.others ++ h) a.is ∙ sym (append_assoc b.others a.others old));
  by_others = others_append client b.others a.others (subst (λ n. AllByOthers n b.others) same b.by_others) a.by_others;
  alone = λ e. ap (λ (h : History). h ++ a.others) (b.alone (stays e)) ∙ a.alone e;
  lawful = λ l. b.lawful (a.lawful l);
}

-- and the bucket stays what it was
pub steady_then : {B : Type 0} (number limit faults : B → ℕ) (sole : B → Bool) (old mid new : B) → IsSteady number limit faults sole old mid → IsSteady number limit faults sole mid new → IsSteady number limit faults sole old new
steady_then number limit faults sole old mid new a b = record {
  same_number = b.same_number ∙ a.same_number;
  same_limit = b.same_limit ∙ a.same_limit;
  faults_rise = omega (arith, a.faults_rise, b.faults_rise);
  stays_sole = λ e. b.stays_sole (a.stays_sole e);
}

-- nothing happens between
pub looks_none : (client : ℕ) (sole : Bool) (h : History) → Looks IsClaimed client sole h h
looks_none client sole h = record { others = []; is = refl; by_others = tt; alone = λ e. refl; lawful = λ l. l }

-- a place before is a place within
pub looks_length : (client : ℕ) (sole : Bool) (old new : History) → Looks IsClaimed client sole old new → length old ≤ length new
looks_length client sole old new a = omega (arith, ap length a.is, length-append a.others old)

-- an entry is one later
pub entry_later : (client : ℕ) (sole : Bool) (old new : History) (symbol : Name) (key : Key) → Looks IsClaimed client sole old new → is_entry old symbol key ≡ true → is_entry new symbol key ≡ true
entry_later client sole old new symbol key a is = ap (λ (h : History). is_entry h symbol key) a.is ∙ entry_stays a.others old symbol key is

-- a fault of a reading
pub fault_told : {A : Type 0} (len : ℕ) (r : Result A ℕ) (fault : EntryFault) (at : ℕ) → IsFaultOf len r fault → fault ≡ faults.Bad at → ((left : ℕ) → r ≡ Err left → ⊥) → ⊥
fault_told {A} len r fault at f is none = by r refl (subst (IsFaultOf len r) is f)
  where
    by : (q : Result A ℕ) → r ≡ q → fault_at len q ≡ Some at → ⊥
    by (Ok x) e none_at = absurd cc
    by (Err left) e some_at = none left e

-- ---- the element under an entry

-- an entry stands as it was put
module _ (h : History) (lawful : IsLawful h) (symbol : Name) (key : Key) (is : is_entry h symbol key ≡ true) where
  among : Contains (entries h symbol) key
  among = entry_is_among h symbol key is

  pub entry_stands : StandsAsPut h key
  entry_stands = entries_stand h lawful symbol key among

  pub entry_is_put : is_put key.kind ≡ true
  entry_is_put = ap is_put ((lawful_is_intact h lawful).element_keys symbol key among).1

  pub entry_is_element : is_some (element h key) ≡ true
  entry_is_element = elements_as_put h lawful (lawful_is_intact h lawful).once symbol key among

-- something stands under it
pub stands_told : (h : History) (symbol : Name) (key : Key) → ∥ IsLawful h ∥₁ → is_entry h symbol key ≡ true → stored h key ≡ None → ⊥
stands_told h symbol key lawful is none = ∥∥₁_elim lawful ⊥_prop (λ l. let s = entry_stands h l symbol key is in not_both _ _ s.stands none)

-- it was put
pub put_told : (h : History) (symbol : Name) (key : Key) (body : Bytes) → ∥ IsLawful h ∥₁ → is_entry h symbol key ≡ true → stored h key ≡ Some body → body_put h key ≡ Some body
put_told h symbol key body lawful is stands = ∥∥₁_elim lawful prop (λ l. stands_was_put h key body (entry_is_put h l symbol key is) stands)
  where
    prop : IsProp (body_put h key ≡ Some body)
    prop = hlevel props

-- what it spells is the element
pub element_told : (h : History) (symbol : Name) (key : Key) (body : Bytes) (e : Entry) → ∥ IsLawful h ∥₁ → is_entry h symbol key ≡ true → stored h key ≡ Some body → entry_of body ≡ Ok e → element h key ≡ Some e
element_told h symbol key body e lawful is stands spelled =
    ap (option_and_then (λ b. read_of (entry_of b))) (put_told h symbol key body lawful is stands) ∙ ap read_of spelled

-- it spells an element
pub spelled_told : (h : History) (symbol : Name) (key : Key) (body : Bytes) (left : ℕ) → ∥ IsLawful h ∥₁ → is_entry h symbol key ≡ true → stored h key ≡ Some body → entry_of body ≡ Err left → ⊥
spelled_told h symbol key body left lawful is stands bad =
    ∥∥₁_elim lawful ⊥_prop (λ l. true≢false (sym (entry_is_element h l symbol key is) ∙ (ap (λ o. is_some (option_and_then (λ b. read_of (entry_of b)) o)) (put_told h symbol key body lawful is stands) ∙ ap (λ r. is_some (read_of r)) bad)))

-- ---- the reference

-- what stands under the reference's key is the spelling of the entry
reference_shown : (h : History) → IsLawful h → (symbol : Name) → stored h (reference_key symbol) ≡ option_map key_text (reference h symbol)
reference_shown h lawful symbol = (lawful_is_shown h lawful).references symbol

-- no body, no reference
pub no_reference_told : (h : History) (symbol : Name) → ∥ IsLawful h ∥₁ → stored h (reference_key symbol) ≡ None → reference h symbol ≡ None
no_reference_told h symbol lawful none = ∥∥₁_elim lawful prop (λ l. by (reference h symbol) refl (sym (reference_shown h l symbol) ∙ none))
  where
    prop : IsProp (reference h symbol ≡ None)
    prop = hlevel props

    by : (o : Option Key) → reference h symbol ≡ o → option_map key_text o ≡ None → o ≡ None
    by None is e = refl
    by (Some key) is e = absurd cc

-- a reference is an entry
reference_is_entry : (h : History) (symbol : Name) (key : Key) → reference h symbol ≡ Some key → is_entry h symbol key ≡ true
reference_is_entry h symbol key is = among_is_entry h symbol key (at_is_among (entries h symbol) 0 key (entries-first h symbol ∙ is))

-- the body reads as the entry
reference_reads : (h : History) (symbol : Name) (body : Bytes) → IsLawful h → stored h (reference_key symbol) ≡ Some body → (key : Key) × (reference h symbol ≡ Some key) × (key_at body ≡ Ok (key, []))
reference_reads h symbol body lawful is = by (reference h symbol) refl (sym (reference_shown h lawful symbol) ∙ is)
  where
    by : (o : Option Key) → reference h symbol ≡ o → option_map key_text o ≡ Some body → (key : Key) × (reference h symbol ≡ Some key) × (key_at body ≡ Ok (key, []))
    by None here e = absurd cc
    by (Some key) here e =
        let s = entry_stands h lawful symbol key (reference_is_entry h symbol key here) in
        let p = put_key h lawful key s.body s.put in
        (key, here, ap key_at (sym (some_is (key_text key) body e) ∙ sym (append-nil (key_text key))) ∙ key_again key [] p.is_key p.fits)

-- the key that was read is the entry
pub reference_told : (h : History) (symbol : Name) (body : Bytes) (key : Key) (rest : List ℕ) → ∥ IsLawful h ∥₁ → stored h (reference_key symbol) ≡ Some body → key_at body ≡ Ok (key, rest) → reference h symbol ≡ Some key
reference_told h symbol body key rest lawful is read = ∥∥₁_elim lawful prop (λ l.
    let r = reference_reads h symbol body l is in
    let same : (r.0, []) ≡ (key, rest) = ok_is (r.0, []) (key, rest) (sym r.2 ∙ read) in
    r.1 ∙ ap (λ (p : Key × List ℕ). Some p.0) same)
  where
    prop : IsProp (reference h symbol ≡ Some key)
    prop = hlevel props

-- a key is read there
pub reference_is_key_told : (h : History) (symbol : Name) (body : Bytes) → ∥ IsLawful h ∥₁ → stored h (reference_key symbol) ≡ Some body → ((k : Key × List ℕ) → key_at body ≡ Ok k → ⊥) → ⊥
reference_is_key_told h symbol body lawful is none = ∥∥₁_elim lawful ⊥_prop (λ l. let r = reference_reads h symbol body l is in none (r.0, []) r.2)

-- its name is the symbol
pub reference_name_told : (h : History) (symbol : Name) (key : Key) → ∥ IsLawful h ∥₁ → reference h symbol ≡ Some key → key.name ≡ symbol
reference_name_told h symbol key lawful is = ∥∥₁_elim lawful prop (λ l. ((lawful_is_intact h l).element_keys symbol key (at_is_among (entries h symbol) 0 key (entries-first h symbol ∙ is))).0)
  where
    prop : IsProp (key.name ≡ symbol)
    prop = hlevel props

-- a body that stands for the reference is no bad key
pub bad_key_told : (h : History) (symbol : Name) (body bytes : Bytes) (fault : KeyFault) → ∥ IsLawful h ∥₁ → stored h (reference_key symbol) ≡ Some body → bytes ≡ body → IsKeyFault bytes fault → fault ≡ key_faults.NotAKey → ⊥
bad_key_told h symbol body bytes fault lawful is same bad not_a_key =
    let no : is_err (key_at bytes) ≡ true = subst (IsKeyFault bytes) not_a_key bad in
    reference_is_key_told h symbol body lawful is (λ k e. true≢false (sym no ∙ ap is_err (ap key_at same ∙ e)))

-- ---- the elements, one after another

lawful_before : (more h : History) → IsLawful (more ++ h) → IsLawful h
lawful_before [] h l = l
lawful_before (e ∷ more) h l = lawful_before more h l.1

-- the elements so far are the newest of the chain, and the next entry is that behind them
pub record ReadSoFar (g : History) (newest : Key) (es : List Entry) : Type 0 where
  pub elements : es ≡ take (length es) (chain g newest.name)
  pub next : next_of newest es ≡ slice_get (entries g newest.name) (length es)

pub so_far_start : (g : History) (newest : Key) → reference g newest.name ≡ Some newest → ReadSoFar g newest []
so_far_start g newest is = record { elements = refl; next = sym (entries-first g newest.name ∙ is) }

pub so_far_within : (g : History) (newest : Key) (es : List Entry) (key : Key) → ReadSoFar g newest es → next_of newest es ≡ Some key → length es < length (entries g newest.name)
so_far_within g newest es key s is = slice_get_within (entries g newest.name) (length es) key (sym s.next ∙ is)

pub so_far_is_entry : (client : ℕ) (sole : Bool) (g h : History) (newest : Key) (es : List Entry) (key : Key) → Looks IsClaimed client sole g h → ∥ IsLawful h ∥₁ → ReadSoFar g newest es → next_of newest es ≡ Some key → is_entry h key.name key ≡ true
so_far_is_entry client sole g h newest es key a lawful s is =
    let here : is_entry g newest.name key ≡ true = among_is_entry g newest.name key (at_is_among (entries g newest.name) (length es) key (sym s.next ∙ is)) in
    let later = entry_later client sole g h newest.name key a here in
    ∥∥₁_elim lawful prop (λ l. subst (λ n. is_entry h n key ≡ true) (sym ((lawful_is_intact h l).element_keys newest.name key (entry_is_among h newest.name key later)).0) later)
  where
    prop : IsProp (is_entry h key.name key ≡ true)
    prop = hlevel props

-- one element more
module _ (client : ℕ) (sole : Bool) (g h : History) (newest : Key) (es : List Entry) (key : Key) (e : Entry) (a : Looks IsClaimed client sole g h) (s : ReadSoFar g newest es) (is : next_of newest es ≡ Some key) (read : element h key ≡ Some e) where
  at_place : slice_get (entries g newest.name) (length es) ≡ Some key
  at_place = sym s.next ∙ is

  lawful_first : IsLawful h → IsLawful g
  lawful_first l = lawful_before a.others g (subst IsLawful a.is l)

  here : IsLawful h → slice_get (chain g newest.name) (length es) ≡ Some e
  here l =
      let found = chain-at g newest.name (has_elements g (lawful_first l) newest.name) (length es) key at_place in
      let later : element h key ≡ Some found.0 = ap (λ (x : History). element x key) a.is ∙ element_stays g (a.others ++ g) (puts_stay a.others g (subst IsLawful a.is l)) key found.0 found.2 in
      found.1 ∙ (sym later ∙ read)

  pub so_far_more : ∥ IsLawful h ∥₁ → ReadSoFar g newest (es ++ e ∷ [])
  so_far_more lawful = record {
    elements = ∥∥₁_elim lawful prop_elements (λ l.
        ap (λ (xs : List Entry). xs ++ e ∷ []) s.elements ∙ (sym (take_found (chain g newest.name) (length es) e (here l)) ∙ ap (λ n. take n (chain g newest.name)) (sym count)));
    next = ∥∥₁_elim lawful prop_next (λ l. last_is es ∙ (chain-prev g (lawful_first l) newest.name (length es) e (here l) ∙ ap (λ n. slice_get (entries g newest.name) n) (sym count_suc)));
  }
    where
      count : length (es ++ e ∷ []) ≡ length es + 1
      count = omega (arith, length-append es (e ∷ []))

      count_suc : length (es ++ e ∷ []) ≡ suc (length es)
      count_suc = omega (arith, length-append es (e ∷ []))

      prop_elements : IsProp (es ++ e ∷ [] ≡ take (length (es ++ e ∷ [])) (chain g newest.name))
      prop_elements = hlevel props

      prop_next : IsProp (next_of newest (es ++ e ∷ []) ≡ slice_get (entries g newest.name) (length (es ++ e ∷ [])))
      prop_next = hlevel props

      take_found : (xs : List Entry) (n : ℕ) (x : Entry) → slice_get xs n ≡ Some x → take (n + 1) xs ≡ take n xs ++ x ∷ []
      take_found xs n x f = take_more xs n x (slice_get_within xs n x f) ∙ ap (λ y. take n xs ++ y ∷ []) (get_or_from_slice_get xs n x x f)

      last_is : (xs : List Entry) → next_of newest (xs ++ e ∷ []) ≡ e.prev
      last_is xs =
          let at : length (xs ++ e ∷ []) - 1 ≡ length xs = omega (arith, length-append xs (e ∷ [])) in
          ap (λ n. entry_before newest (slice_get (xs ++ e ∷ []) n)) at ∙ ap (entry_before newest) (found xs)
        where
          found : (ys : List Entry) → slice_get (ys ++ e ∷ []) (length ys) ≡ Some e
          found [] = refl
          found (y ∷ ys) = found ys

-- as many elements as entries
same_count : (g : History) (symbol : Name) → IsLawful g → length (chain g symbol) ≡ length (entries g symbol)
same_count g symbol l = by (entries g symbol) (chain g symbol) (has_elements g l symbol)
  where
    by : (keys : List Key) (es : List Entry) → AllZip (λ (k : Key) (e : Entry). element g k ≡ Some e) keys es → length es ≡ length keys
    by [] [] z = refl
    by [] (e ∷ es) z = absurd z
    by (k ∷ keys) [] z = absurd z
    by (k ∷ keys) (e ∷ es) z = ap suc (by keys es z.1)

past_end : {A : Type 0} (xs : List A) (n : ℕ) → slice_get xs n ≡ None → length xs ≤ n
past_end [] n e = omega arith
past_end (x ∷ xs) zero e = absurd cc
past_end (x ∷ xs) (suc n) e = omega (arith, past_end xs n e)

-- all elements
pub so_far_ends : (client : ℕ) (sole : Bool) (g h : History) (newest : Key) (es : List Entry) → Looks IsClaimed client sole g h → ∥ IsLawful h ∥₁ → ReadSoFar g newest es → next_of newest es ≡ None → es ≡ chain g newest.name
so_far_ends client sole g h newest es a lawful s none = ∥∥₁_elim lawful prop (λ l.
    let count = same_count g newest.name (lawful_before a.others g (subst IsLawful a.is l)) in
    let past = past_end (entries g newest.name) (length es) (sym s.next ∙ none) in
    s.elements ∙ take_all (length es) (chain g newest.name) (omega (arith, count, past)))
  where
    prop : IsProp (es ≡ chain g newest.name)
    prop = hlevel props

-- no reference, no elements
pub no_elements_told : (g : History) (symbol : Name) → ∥ IsLawful g ∥₁ → reference g symbol ≡ None → chain g symbol ≡ []
no_elements_told g symbol lawful none = ∥∥₁_elim lawful prop (λ l. nil_from_length (chain g symbol) (omega (arith, same_count g symbol l, past_end (entries g symbol) 0 (entries-first g symbol ∙ none))))
  where
    prop : IsProp (chain g symbol ≡ [])
    prop = hlevel props

-- ---- the state that the elements give

-- versions fall, the newest first
abbrev pub Falls : List ℕ → Type 0
Falls [] = ⊤
Falls (n ∷ []) = ⊤
Falls (n ∷ m ∷ more) = (m < n) × Falls (m ∷ more)

one_version : (st : State) (o : Option Version) → IfSome o (λ v. v.number ≡ next_number st) → Falls (map (λ (v : Version). v.number) st.versions) → Falls (map (λ (v : Version). v.number) (cons_option o st.versions))
one_version st None is falls = falls
one_version st (Some v) is falls = by st.versions is falls
  where
    by : (versions : List Version) → v.number ≡ number_after versions → Falls (map (λ (x : Version). x.number) versions) → Falls (v.number ∷ map (λ (x : Version). x.number) versions)
    by [] e f = tt
    by (w ∷ more) e f = (omega (arith, e), f)

new_is_next : (st : State) (c : Change) → IfSome (new_version st c) (λ v. v.number ≡ next_number st)
new_is_next st (changes.Wrote frame at) = refl
new_is_next st (changes.Appended frame at) = refl
new_is_next st (changes.Updated frame range at) = refl
new_is_next st (changes.Removed versions) = tt
new_is_next st (changes.Held holder version) = tt
new_is_next st (changes.Released holder) = tt
new_is_next st (changes.Discarded pieces) = tt
new_is_next st changes.Restated = tt

falls_after : (st : State) (list : List Change) → Falls (map (λ (v : Version). v.number) st.versions) → Falls (map (λ (v : Version). v.number) (fold after_change st list).versions)
falls_after st [] falls = falls
falls_after st (c ∷ list) falls = falls_after (after_change st c) list (one_version st (new_version st c) (new_is_next st c) falls)

-- the versions of a symbol fall
versions_fall : (h : History) (symbol : Name) → Falls (map (λ (v : Version). v.number) (state_of h symbol).versions)
versions_fall [] symbol = tt
versions_fall (events.Put c key body ∷ h) symbol = versions_fall h symbol
versions_fall (events.Refer c s was entry list ∷ h) symbol =
    elim (same_name s symbol) as (λ b. Falls (map (λ (v : Version). v.number) (cond b (after_changes (state_of h symbol) list) (state_of h symbol)).versions)) [
      | true ↦ falls_after (state_of h symbol) list (versions_fall h symbol)
      | false ↦ versions_fall h symbol
    ]
versions_fall (events.Name c snap body ∷ h) symbol = versions_fall h symbol
versions_fall (events.Unname c snap ∷ h) symbol = versions_fall h symbol
versions_fall (events.Drop c key ∷ h) symbol = versions_fall h symbol

-- so do those of its links
pub links_fall : (h : History) (symbol : Name) → IsLawful h → Falls (map (λ (l : Linked). l.row.version) (links h symbol))
links_fall h symbol l = subst Falls (sym (by (links h symbol) (state_of h symbol).versions ((lawful_is_intact h l).versions symbol))) (versions_fall h symbol)
  where
    by : (ls : List Linked) (vs : List Version) → AllZip IsLinkOf ls vs → map (λ (l : Linked). l.row.version) ls ≡ map (λ (v : Version). v.number) vs
    by [] [] z = refl
    by [] (v ∷ vs) z = absurd z
    by (k ∷ ls) [] z = absurd z
    by (k ∷ ls) (v ∷ vs) z = λ i. z.0.number i ∷ by ls vs z.1 i

rises_reversed : (ns : List ℕ) → Falls ns → Rising (reverse ns)
rises_reversed [] f = tt
rises_reversed (n ∷ ns) f = onto n ns [] f tt
  where
    onto : (n : ℕ) (ns more : List ℕ) → Falls (n ∷ ns) → Rising (n ∷ more) → Rising (reverse_aux ns (n ∷ more))
    onto n [] more f r = r
    onto n (m ∷ ns) more f r = onto m ns (n ∷ more) f.1 (f.0, r)

pub map_map : {A B C : Type 0} (f : A → B) (g : B → C) (xs : List A) → map g (map f xs) ≡ map (λ x. g (f x)) xs
map_map f g [] = refl
map_map f g (x ∷ xs) = ap (λ ys. g (f x) ∷ ys) (map_map f g xs)

map_reverse : {A B : Type 0} (f : A → B) (xs : List A) → map f (reverse xs) ≡ reverse (map f xs)
map_reverse {A} {B} f xs = onto xs []
  where
    onto : (xs more : List A) → map f (reverse_aux xs more) ≡ reverse_aux (map f xs) (map f more)
    onto [] more = refl
    onto (x ∷ xs) more = onto xs (x ∷ more)

-- the state of the elements of a chain is the symbol's
pub collected_told : (g : History) (symbol : Name) (was : Option Key) (es : List Entry) (place : ℕ) (state : SymbolState) → ∥ IsLawful g ∥₁ → was ≡ reference g symbol → es ≡ chain g symbol → IsCollected was es place state → IsStateOf g symbol state
collected_told g symbol was es place state lawful is_was is_chain c = record {
  was = c.was ∙ is_was;
  links = ∥∥₁_elim lawful prop_links (λ l. c.links ∙ ap reverse (ap rows_in is_chain ∙ (walk_is_state g l symbol).rows));
  tombs = ∥∥₁_elim lawful prop_tombs (λ l. c.tombs ∙ (ap tombs_in is_chain ∙ (walk_is_state g l symbol).tombs));
  holds = ∥∥₁_elim lawful prop_holds (λ l. c.holds ∙ (ap holds_in is_chain ∙ (walk_is_state g l symbol).holds));
  consumed = ∥∥₁_elim lawful prop_consumed (λ l. c.consumed ∙ (ap pieces_in is_chain ∙ (walk_is_state g l symbol).pieces));
}
  where
    prop_links : IsProp (state.links ≡ reverse (map (λ (l : Linked). l.row) (links g symbol)))
    prop_links = hlevel props

    prop_tombs : IsProp (state.tombs ≡ (state_of g symbol).buried)
    prop_tombs = hlevel props

    prop_holds : IsProp (map hold_of state.holds ≡ (state_of g symbol).holds)
    prop_holds = hlevel props

    prop_consumed : IsProp (state.consumed ≡ (state_of g symbol).consumed)
    prop_consumed = hlevel props

-- its links rise
pub rising_told : (g : History) (symbol : Name) (state : SymbolState) → ∥ IsLawful g ∥₁ → IsStateOf g symbol state → Rising (map (λ (row : LinkRow). row.version) state.links)
rising_told g symbol state lawful s = ∥∥₁_elim lawful (rising_prop (map (λ (row : LinkRow). row.version) state.links)) (λ l.
    subst Rising (sym (ap (map (λ (row : LinkRow). row.version)) s.links ∙ (map_reverse (λ (row : LinkRow). row.version) (map (λ (k : Linked). k.row) (links g symbol)) ∙ ap reverse (map_map (λ (k : Linked). k.row) (λ (row : LinkRow). row.version) (links g symbol)))))
    (rises_reversed (map (λ (k : Linked). k.row.version) (links g symbol)) (links_fall g symbol l)))
  where
    rising_prop : (ns : List ℕ) → IsProp (Rising ns)
    rising_prop [] = Unit-prop
    rising_prop (n ∷ []) = Unit-prop
    rising_prop (n ∷ m ∷ more) = ×_prop le_prop (rising_prop (m ∷ more))

-- the state at the place of the look at the reference
pub state_at : (client : ℕ) (sole : Bool) (g h : History) (symbol : Name) (was : Option Key) (es : List Entry) (place : ℕ) (state : SymbolState) → Looks IsClaimed client sole g h → place ≡ length g → ∥ IsLawful g ∥₁ → was ≡ reference g symbol → es ≡ chain g symbol → IsCollected was es place state → IsStateAt h symbol state
state_at client sole g h symbol was es place state a is_place lawful is_was is_chain c = record {
  later = a.others;
  before = g;
  split = a.is;
  place = c.place ∙ is_place;
  is = collected_told g symbol was es place state lawful is_was is_chain c;
}
