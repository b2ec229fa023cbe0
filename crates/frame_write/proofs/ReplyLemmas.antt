-- The reply made of the result of all tries is legal.
use Rattle.std.proofs.Common.{◌≡◌, ℕ, suc, ◌+◌, ◌≤◌, Bool, true, false, ◌&&◌, not, length, arith, length-append, List, [], ◌∷◌, ◌++◌, refl, ap, sym, ◌∙◌, subst, inl, inr, cond, nat_eq, Result, Ok, Err}
use Rattle.std.specs.Prelude.{map, filter, reverse}
use Rattle.std.specs.List.{AllByRecursion, flat_map}
use Rattle.std.proofs.lemmas.Bool.{eqb-true, eq-eqb}
use Rattle.std.proofs.lemmas.List.{reverse-reverse, reverse-append, length-map, length-reverse}
use Rattle.frame_core.specs.declared.refusal.Refusal.{Refusal}
use Rattle.frame_core.specs.declared.refusal.Refused.{Refused}
use Rattle.key_kind.specs.Names.{Name}
use Rattle.bucket_core.specs.declared.event.Event.{Event}
use Rattle.bucket_core.specs.declared.event.Event.TheVariants as events
use Rattle.bucket_core.specs.History.{History, author}
use Rattle.bucket_core.specs.Laws.{refers}
use Rattle.segment_cut.proofs.Lists.{count_by-cons}
use Rattle.reply_model.specs.Tries.{put_of}
use Rattle.frame_write.specs.declared.options.Committed.{Committed}
use Rattle.version_chain.specs.Traces.{own_of, met_in, Went}
use Rattle.frame_write.specs.Tries.{Made, DidCommit, DidTry, DidTries, DidRefused}
use Rattle.version_chain.specs.Traces.{GoesOn}
use Rattle.frame_write.specs.Writes.{StandsAlone}
use Rattle.reply_model.specs.Standing.{GrowsAlone}
use Rattle.frame_write.proofs.MeetLemmas.{met_went}
use Rattle.version_chain.proofs.TraceLemmas.{append_assoc, own_of-append, own_of-one, went_then, same_front}

-- ---- how the history went on

all_filtered : (client : ℕ) (more : History) → AllByRecursion (λ (e : Event). author e ≡ client) (filter (λ e. nat_eq (author e) client) more)
all_filtered client [] = tt
all_filtered client (e ∷ more) =
    elim (nat_eq (author e) client) as (λ b. nat_eq (author e) client ≡ b → AllByRecursion (λ (e : Event). author e ≡ client) (cond b (e ∷ filter (λ e. nat_eq (author e) client) more) (filter (λ e. nat_eq (author e) client) more))) [
      | true ↦ λ on. (eqb-true (author e) client on, all_filtered client more)
      | false ↦ λ off. all_filtered client more
    ] refl

pub went_goes_on : (client : ℕ) (sole : Bool) (old new : History) (own : List Event) → Went client sole old new own → GoesOn client sole old new
went_goes_on client sole old new own w = record {
  more = w.more;
  is = w.is;
  alone = λ s. subst (AllByRecursion (λ (e : Event). author e ≡ client)) (sym (w.alone s ∙ (ap reverse (sym w.own_are) ∙ reverse-reverse (filter (λ e. nat_eq (author e) client) w.more)))) (all_filtered client w.more);
  lawful = w.lawful;
}

-- a commit, with its Refer
pub commit_went : (client : ℕ) (sole : Bool) (symbol : Name) (Asked : Made → Type 0) (old new : History) (done : Committed) → (d : DidCommit client sole symbol Asked old new done)
    → Went client sole old new (map (put_of client) d.made.puts ++ events.Refer client symbol d.was d.entry d.made.list ∷ [])
commit_went client sole symbol Asked old new done d =
    let refer : Event = events.Refer client symbol d.was d.entry d.made.list in
    record {
      more = refer ∷ d.went.more;
      is = d.newest ∙ ap (λ h. refer ∷ h) d.went.is;
      own_are = own_of-append client (refer ∷ []) d.went.more ∙ (λ i. d.went.own_are i ++ own_of-one client refer refl i);
      alone = λ s. ap (λ l. refer ∷ l) (d.went.alone s) ∙ sym (reverse-append (map (put_of client) d.made.puts) (refer ∷ []));
      lawful = d.lawful;
    }

-- one try
pub try_goes_on : (client : ℕ) (sole : Bool) (symbol : Name) (Asked : Made → Type 0) (limit before now from : ℕ) (old new : History) (r : Result Committed Refused)
    → DidTry client sole symbol Asked limit before now from old new r → GoesOn client sole old new
try_goes_on client sole symbol Asked limit before now from old new (Ok done) d = went_goes_on client sole old new _ (commit_went client sole symbol Asked old new done d)
try_goes_on client sole symbol Asked limit before now from old new (Err refused) d = elim d [
  | inl m ↦ went_goes_on client sole old new _ (met_went client sole symbol from old new refused m)
  | inr f ↦ elim f [
    | inl s ↦ went_goes_on client sole old new s.own s.went
    | inr s ↦ went_goes_on client sole old new _ (commit_went client sole symbol Asked old new s.done s.commit)
  ]
]

-- all tries
pub goes_on : (client : ℕ) (sole : Bool) (symbol : Name) (Asked : Made → Type 0) (Refuses : History → Refusal → Type 0) (Wants : History → Type 0) (Loses : History → ℕ → ℕ → Type 0) (most limit before now : ℕ) (old new : History) (r : Result Committed Refused)
    → DidTries client sole symbol Asked Refuses Wants Loses most limit before now old new r → GoesOn client sole old new
goes_on client sole symbol Asked Refuses Wants Loses most limit before now old new (Ok done) d =
    went_goes_on client sole old new _ (went_then client sole old d.mid new _ _ d.refused.went (commit_went client sole symbol Asked d.mid new done d.last))
goes_on client sole symbol Asked Refuses Wants Loses most limit before now old new (Err refused) d = elim d [
  | inl all ↦ went_goes_on client sole old new _ all.all.went
  | inr t ↦ elim t.last [
    | inl failed ↦ elim failed.0 [
      | inl stop ↦ went_goes_on client sole old new _ (went_then client sole old t.mid new _ _ t.refused.went stop.went)
      | inr faulted ↦ went_goes_on client sole old new _ (went_then client sole old t.mid new _ _ t.refused.went (commit_went client sole symbol Asked t.mid new faulted.done faulted.commit))
    ]
    | inr e ↦ went_goes_on client sole old new _ (went_then client sole old t.mid new _ _ t.refused.went e.went)
  ]
]

-- ---- a window without events of others

-- all events of one client
abbrev AreOwn : ℕ → History → Type 0
AreOwn client more = AllByRecursion (λ (e : Event). author e ≡ client) more

all_parts : (client : ℕ) (xs ys : History) → AreOwn client (xs ++ ys) → AreOwn client xs × AreOwn client ys
all_parts client [] ys all = (tt, all)
all_parts client (x ∷ xs) ys all = let parts = all_parts client xs ys all.1 in ((all.0, parts.0), parts.1)

-- what was added without others are the own events
own_only : (client : ℕ) (more : History) (own : List Event) → AreOwn client more → own_of client more ≡ own → more ≡ reverse own
own_only client more own all is = sym (reverse-reverse more) ∙ ap reverse (ap reverse (sym (kept more all)) ∙ is)
  where
    kept : (es : History) → AreOwn client es → filter (λ e. nat_eq (author e) client) es ≡ es
    kept [] all = refl
    kept (e ∷ es) all = ap (λ b. cond b (e ∷ filter (λ x. nat_eq (author x) client) es) (filter (λ x. nat_eq (author x) client) es)) (eq-eqb (author e) client all.0) ∙ ap (λ l. e ∷ l) (kept es all.1)

-- own events are no Refers by others
own_not_met : (client : ℕ) (symbol : Name) (more : History) → AreOwn client more → met_in client symbol more ≡ 0
own_not_met client symbol [] own = refl
own_not_met client symbol (e ∷ more) own =
    let step : met_in client symbol (e ∷ more) ≡ cond (refers symbol e && not (nat_eq (author e) client)) 1 0 + met_in client symbol more = count_by-cons (λ x. refers symbol x && not (nat_eq (author x) client)) e more in
    let mine : (refers symbol e && not (nat_eq (author e) client)) ≡ false = (λ i. refers symbol e && not (eq-eqb (author e) client own.0 i)) ∙ and_false (refers symbol e) in
    step ∙ ((λ i. cond (mine i) 1 0 + own_not_met client symbol more own.1 i))
  where
    and_false : (b : Bool) → (b && false) ≡ false
    and_false true = refl
    and_false false = refl

-- none of the tries is met, so that a commit stands right behind its puts
pub stands_alone : (client : ℕ) (sole : Bool) (symbol : Name) (Asked : Made → Type 0) (most limit before now : ℕ) (Refuses : History → Refusal → Type 0) (Wants : History → Type 0) (Loses : History → ℕ → ℕ → Type 0) (old new : History) (done : Committed) (tiles : ℕ)
    → ((m : Made) → Asked m → length m.puts ≡ tiles + 2) → GrowsAlone client old new → DidTries client sole symbol Asked Refuses Wants Loses most limit before now old new (Ok done) → StandsAlone tiles old done
stands_alone client sole symbol Asked most limit before now Refuses Wants Loses old new done tiles counts grows d =
    let c = d.last in
    let refer : Event = events.Refer client symbol c.was c.entry c.made.list in
    let whole : new ≡ ((refer ∷ c.went.more) ++ d.refused.went.more) ++ old = c.newest ∙ ap (λ h. refer ∷ h) (c.went.is ∙ (ap (λ h. c.went.more ++ h) d.refused.went.is ∙ sym (append_assoc c.went.more d.refused.went.more old))) in
    let own = all_parts client (refer ∷ c.went.more) d.refused.went.more (subst (AreOwn client) (same_front grows.more ((refer ∷ c.went.more) ++ d.refused.went.more) old (sym grows.is ∙ whole)) grows.own) in
    let start : d.mid ≡ old = no_tries d.mid d.count d.refused own.1 in
    let puts_are : c.went.more ≡ reverse (map (put_of client) c.made.puts) = own_only client c.went.more (map (put_of client) c.made.puts) own.0.1 c.went.own_are in
    let size : length c.made.before ≡ length (map (put_of client) c.made.puts) + length d.mid = ap length (c.went.is ∙ ap (λ l. l ++ d.mid) puts_are) ∙ (length-append (reverse (map (put_of client) c.made.puts)) d.mid
    ∙ ap (λ n. n + length d.mid) (length-reverse (map (put_of client) c.made.puts))) in
    let puts : length (map (put_of client) c.made.puts) ≡ tiles + 2 = length-map c.made.puts (put_of client) ∙ counts c.made c.asked in
    let last : length new ≡ suc (length c.made.before) = ap length c.newest in
    omega (arith, c.place, last, size, puts, ap length start)
  where
    no_tries : (mid : History) (count : ℕ) → (r : DidRefused client sole symbol old mid count) → AreOwn client r.went.more → mid ≡ old
    no_tries mid count r own =
        let empty : r.tries ≡ [] = nothing r.tries (omega (arith, r.counted, r.met, own_not_met client symbol r.went.more own)) in
        r.went.is ∙ ap (λ l. l ++ old) (own_only client r.went.more (flat_map (λ t. t) r.tries) own r.went.own_are ∙ ap (λ ts. reverse (flat_map (λ t. t) ts)) empty)
      where
        nothing : (ts : List (List Event)) → length ts ≤ 0 → ts ≡ []
        nothing [] le = refl
        nothing (t ∷ ts) le = absurd (omega (arith, le))
