-- How a seen history goes on, call by call.
use Rattle.std.proofs.Common.{◌≡◌, ℕ, suc, ◌+◌, ◌≤◌, Bool, ◌&&◌, not, List, [], ◌∷◌, ◌++◌, length, refl, ap, sym, ◌∙◌, subst, inl, inr, cond, nat_eq, arith, length-append}
use Rattle.std.specs.Prelude.{filter, reverse}
use Rattle.std.proofs.lemmas.Bool.{eq-eqb, ne_eqb, cases_lt}
use Rattle.std.proofs.lemmas.List.{reverse-append, append_cancel_right}
use Rattle.std.proofs.lemmas.List.Elements.{filter-append}
use Rattle.std.proofs.lemmas.List.Sums.{sum_by-append}
use Rattle.key_kind.specs.Names.{Name}
use Rattle.bucket_core.specs.declared.event.Event.{Event}
use Rattle.bucket_core.specs.History.{History, author, AllByOthers}
use Rattle.bucket_core.specs.Laws.{refers, Adds, Looks}
use Rattle.store_model.specs.Law.{IsClaimed, IsLawful}
use Rattle.version_chain.specs.Traces.{own_of, met_in, Went}

pub append_assoc : {X : Type 0} (xs ys zs : List X) → (xs ++ ys) ++ zs ≡ xs ++ (ys ++ zs)
append_assoc [] ys zs = refl
append_assoc (x ∷ xs) ys zs = ap (λ l. x ∷ l) (append_assoc xs ys zs)

-- ---- own events

pub own_of-append : (client : ℕ) (later earlier : History) → own_of client (later ++ earlier) ≡ own_of client earlier ++ own_of client later
own_of-append client later earlier =
    ap reverse (filter-append (λ (e : Event). nat_eq (author e) client) later earlier)
    ∙ reverse-append (filter (λ (e : Event). nat_eq (author e) client) later) (filter (λ (e : Event). nat_eq (author e) client) earlier)

pub own_of-others : (client : ℕ) (more : History) → AllByOthers client more → own_of client more ≡ []
own_of-others client more others = ap reverse (none client more others)
  where
    none : (client : ℕ) (more : History) → AllByOthers client more → filter (λ (e : Event). nat_eq (author e) client) more ≡ []
    none client [] others = refl
    none client (e ∷ more) others = ap (λ b. cond b (e ∷ filter (λ (e : Event). nat_eq (author e) client) more) (filter (λ (e : Event). nat_eq (author e) client) more)) (ne_eqb (author e) client others.0) ∙ none client more others.1

pub own_of-one : (client : ℕ) (e : Event) → author e ≡ client → own_of client (e ∷ []) ≡ e ∷ []
own_of-one client e is = ap (λ b. reverse (cond b (e ∷ []) [])) (eq-eqb (author e) client is)

pub met_in-append : (client : ℕ) (symbol : Name) (later earlier : History) → met_in client symbol (later ++ earlier) ≡ met_in client symbol later + met_in client symbol earlier
met_in-append client symbol later earlier = sum_by-append (λ e. cond (refers symbol e && not (nat_eq (author e) client)) 1 0) later earlier

-- ---- histories that went on

pub went_none : (client : ℕ) (sole : Bool) (h : History) → Went client sole h h []
went_none client sole h = record { more = []; is = refl; own_are = refl; alone = λ e. refl; lawful = λ l. l }

pub went_looks : (client : ℕ) (sole : Bool) (old new : History) → Looks IsClaimed client sole old new → Went client sole old new []
went_looks client sole old new g = record { more = g.others; is = g.is; own_are = own_of-others client g.others g.by_others; alone = g.alone; lawful = g.lawful }

pub own_of-adds : (client : ℕ) (sole : Bool) (old new : History) (e : Event) → author e ≡ client → (g : Adds IsClaimed client sole old new e) → own_of client (e ∷ g.others) ≡ e ∷ []
own_of-adds client sole old new e own g =
    own_of-append client (e ∷ []) g.others ∙ (ap (λ es. es ++ own_of client (e ∷ [])) (own_of-others client g.others g.by_others) ∙ own_of-one client e own)

pub went_adds : (client : ℕ) (sole : Bool) (old new : History) (e : Event) → author e ≡ client → Adds IsClaimed client sole old new e → Went client sole old new (e ∷ [])
went_adds client sole old new e own g = record {
  more = e ∷ g.others;
  is = g.is;
  own_are = own_of-adds client sole old new e own g;
  alone = λ s. ap (λ others. e ∷ others) (g.alone s);
  lawful = g.lawful;
}

pub went_then : (client : ℕ) (sole : Bool) (old mid new : History) (first second : List Event) → Went client sole old mid first → Went client sole mid new second → Went client sole old new (first ++ second)
went_then client sole old mid new first second a b = record {
  more = b.more ++ a.more;
  is = b.is ∙ (ap (λ h. b.more ++ h) a.is ∙ sym (append_assoc b.more a.more old));
  own_are = own_of-append client b.more a.more ∙ (λ i. a.own_are i ++ b.own_are i);
  alone = λ s. (λ i. b.alone s i ++ a.alone s i) ∙ sym (reverse-append first second);
  lawful = λ l. b.lawful (a.lawful l);
}

-- the events may be named otherwise
pub went_as : (client : ℕ) (sole : Bool) (old new : History) (own other : List Event) → own ≡ other → Went client sole old new own → Went client sole old new other
went_as client sole old new own other is w = record { more = w.more; is = w.is; own_are = w.own_are ∙ is; alone = λ s. w.alone s ∙ ap reverse is; lawful = w.lawful }

pub went_longer : (client : ℕ) (sole : Bool) (old new : History) (own : List Event) → Went client sole old new own → length old ≤ length new
went_longer client sole old new own w =
    let is : length new ≡ length w.more + length old = ap length w.is ∙ length-append w.more old in
    omega (arith, is)

-- what others did in front of an own event
pub went_before : (client : ℕ) (sole : Bool) (old new : History) (e : Event) → (g : Adds IsClaimed client sole old new e) → Went client sole old (g.others ++ old) []
went_before client sole old new e g = record {
  more = g.others;
  is = refl;
  own_are = own_of-others client g.others g.by_others;
  alone = g.alone;
  lawful = λ l. (subst IsLawful g.is (g.lawful l)).1;
}

-- what was added is determined
pub same_front : (xs ys zs : History) → xs ++ zs ≡ ys ++ zs → xs ≡ ys
same_front xs ys zs e = append_cancel_right xs ys zs e

-- the events that a history has more than an earlier one, where a look found an earlier beginning of it
pub split_more : (later before others old : History) → later ++ before ≡ others ++ old → length old ≤ length before → (mid : History) × (before ≡ mid ++ old) × (others ≡ later ++ mid)
split_more [] before others old e le = (others, e, refl)
split_more (x ∷ later) before [] old e le =
    let size : suc (length (later ++ before)) ≡ length old = ap length e in
    absurd (omega (arith, size, length-append later before, le))
split_more (x ∷ later) before (y ∷ others) old e le =
    let r = split_more later before others old (tails e) le in (r.0, r.1, ap (λ z. z ∷ others) (sym (heads e)) ∙ ap (λ l. x ∷ l) r.2)
  where
    tails : x ∷ (later ++ before) ≡ y ∷ (others ++ old) → later ++ before ≡ others ++ old
    tails e = cc

    heads : x ∷ (later ++ before) ≡ y ∷ (others ++ old) → x ≡ y
    heads e = cc

pub others_first : (client : ℕ) (xs ys : History) → AllByOthers client (xs ++ ys) → AllByOthers client xs
others_first client [] ys all = tt
others_first client (x ∷ xs) ys all = (all.0, others_first client xs ys all.1)

-- a place among what others added
pub split_at : (client : ℕ) (others old : History) (place : ℕ) → AllByOthers client others → length old ≤ place → place ≤ length (others ++ old)
    → (after : History) × (before : History) × (others ++ old ≡ after ++ before) × (place ≡ length before) × AllByOthers client after
split_at client [] old place by low high = ([], old, refl, omega (arith, low, high), tt)
split_at client (e ∷ others) old place by low high = elim (cases_lt (length (others ++ old)) place) [
  | inl beyond ↦ ([], e ∷ (others ++ old), refl, omega (arith, beyond, high), tt)
  | inr within ↦ let r = split_at client others old place by.1 low within in (e ∷ r.0, r.1, ap (λ h. e ∷ h) r.2, r.3, (by.0, r.4))
]
