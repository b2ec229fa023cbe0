-- Looks one after another, and what was got stays so.
use Rattle.std.proofs.Common.{◌≡◌, ℕ, ◌+◌, ◌<◌, ◌≤◌, Bool, true, false, List, [], ◌∷◌, ◌++◌, map, take, length, get_or, sym, ap, ◌∙◌, subst, inl, inr, arith, Option, Some, Result, Ok, Err}
use Rattle.std.specs.Prelude.{Contains, OnOk, is_err}
use Rattle.std.specs.List.{AllZip, AllByRecursion}
use Rattle.std.specs.Arc.{arc_value}
use Rattle.std.proofs.lemmas.Bool.{true≢false}
use Rattle.std.proofs.lemmas.List.{length-append, append_assoc}
use mathlib.Core.Logic.{∥∥₁_elim}
use denote.Struct.Props.{props}
use Rattle.frame_core.specs.declared.refusal.Refusal.{Refusal}
use Rattle.frame_core.specs.declared.refusal.Refusal.TheVariants as refusals
use Rattle.frame_core.specs.declared.refusal.Refused.{Refused}
use Rattle.index_tree.specs.declared.index.Slot.{Slot}
use Rattle.index_tree.specs.declared.index.Index.{Index}
use Rattle.key_kind.specs.declared.key.Key.{Key}
use Rattle.key_kind.specs.Names.{Name}
use Rattle.bucket_core.specs.declared.event.Event.{Event}
use Rattle.bucket_core.specs.History.{History, Bytes, body_put, AllByOthers}
use Rattle.bucket_core.specs.Laws.{Looks}
use Rattle.bucket_core.specs.Calls.{IsSteady}
use Rattle.store_model.specs.Links.{links}
use Rattle.store_model.specs.Law.{IsLawful}
use Rattle.store_model.proofs.Lawful.{lawful_is_intact}
use Rattle.store_model.proofs.Histories.{put_stays}
use Rattle.store_model.proofs.Lists.{contains_first, contains_later, contains_cases, contains_none}
use Rattle.store_model.proofs.PlainLinks.{slot_in_reach}
use Rattle.frame_read.specs.declared.target.Target.{Target}
use Rattle.frame_read.specs.declared.tiles.FetchedTile.{FetchedTile}
use Rattle.frame_read.specs.Fetches.{Reaches, IsTargetIndex, IsGetRefusal, RefusesGet}
use Rattle.frame_read.specs.TileSets.{IsGot}
use Rattle.frame_read.proofs.FetchLemmas.{links_later}
use Rattle.frame_read.proofs.GatherSteps.{zip-step}

-- ---- looks

others_both : (client : ℕ) (xs ys : History) → AllByOthers client xs → AllByOthers client ys → AllByOthers client (xs ++ ys)
others_both client [] ys a b = b
others_both client (e ∷ xs) ys a b = (a.0, others_both client xs ys a.1 b)

-- one look behind another
pub looks_more : (claimed : History → Event → Type 0) (client : ℕ) (sole : Bool) (client' : ℕ) (sole' : Bool) (old mid new : History) → client' ≡ client → (sole ≡ true → sole' ≡ true)
    → Looks claimed client sole old mid → Looks claimed client' sole' mid new → Looks claimed client sole old new
looks_more claimed client sole client' sole' old mid new same stays one two = record {
  others = two.others ++ one.others;
  is = two.is ∙ (ap (λ h. two.others ++ h) one.is ∙ sym (append_assoc two.others one.others old));
  by_others = others_both client two.others one.others (subst (λ n. AllByOthers n two.others) same two.by_others) one.by_others;
  alone = λ s. ap (λ xs. xs ++ one.others) (two.alone (stays s)) ∙ one.alone s;
  lawful = λ l. two.lawful (one.lawful l);
}

pub steady_more : {B : Type 0} (number limit faults : B → ℕ) (sole : B → Bool) (old mid new : B) → IsSteady number limit faults sole old mid → IsSteady number limit faults sole mid new → IsSteady number limit faults sole old new
steady_more number limit faults sole old mid new one two = record {
  same_number = two.same_number ∙ one.same_number;
  same_limit = two.same_limit ∙ one.same_limit;
  faults_rise = omega (arith, one.faults_rise, two.faults_rise);
  stays_sole = λ s. two.stays_sole (one.stays_sole s);
}

-- ---- refusals

why_wider : (before mid now : ℕ) (h : History) (symbol : Name) (version : ℕ) (why : Refusal) → before ≤ mid → IsGetRefusal mid now h symbol version why → IsGetRefusal before now h symbol version why
why_wider before mid now h symbol version refusals.NoMemory le is = is
why_wider before mid now h symbol version refusals.StoreFault le is = omega (arith, le, is)
why_wider before mid now h symbol version (refusals.VersionGone number) le is = is
why_wider before mid now h symbol version why le is = absurd is

-- a get that refuses refuses the whole call
pub refuses_wider : (before mid now : ℕ) (others old between new : History) (symbol : Name) (version : ℕ) (refused : Refused) → before ≤ mid → between ≡ others ++ old
    → RefusesGet mid now between new symbol version refused → RefusesGet before now old new symbol version refused
refuses_wider before mid now others old between new symbol version refused le is r =
    let longer : length between ≡ length others + length old = ap length is ∙ length-append others old in
    record {
      why = why_wider before mid now _ symbol version refused.why le r.why;
      place = record { from = omega (arith, longer, r.place.from); to = r.place.to };
    }

-- ---- the index and its tiles

abbrev pub index_later : (more h new : History) (target : Target) (index : Index) → new ≡ more ++ h → IsTargetIndex h target index → IsTargetIndex new target index
index_later more h new target index is i = record {
  link = i.link;
  link_is = subst (λ g. Contains (links g target.symbol) i.link) (sym is) (links_later more h target.symbol i.link i.link_is);
  number = i.number;
  key = i.key;
  is = i.is;
}

pub key_in : (slots : List Slot) (slot : Slot) → Contains slots slot → Contains (map (λ (s : Slot). s.key) slots) slot.key
key_in [] slot there = absurd (contains_none slot there)
key_in (s ∷ slots) slot there = elim (contains_cases slot s slots there) [
  | inl is ↦ subst (λ (x : Slot). Contains (s.key ∷ map (λ (s : Slot). s.key) slots) x.key) is (contains_first s.key (map (λ (s : Slot). s.key) slots))
  | inr later ↦ contains_later slot.key s.key (map (λ (s : Slot). s.key) slots) (key_in slots slot later)
]

-- the key of some of the slots is one of all
pub key_of_all : (slots all : List Slot) (key : Key) → AllByRecursion (Contains all) slots → Contains (map (λ (s : Slot). s.key) slots) key → Contains (map (λ (s : Slot). s.key) all) key
key_of_all [] all key within there = absurd (contains_none key there)
key_of_all (s ∷ slots) all key within there = elim (contains_cases key s.key (map (λ (s : Slot). s.key) slots) there) [
  | inl is ↦ subst (λ (k : Key). Contains (map (λ (s : Slot). s.key) all) k) is (key_in all s within.0)
  | inr later ↦ key_of_all slots all key within.1 later
]

-- the target's link reaches the tile of each slot
abbrev pub slot_reached : (h : History) (target : Target) (index : Index) (slot : Slot) → IsTargetIndex h target index → Contains index.slots slot → Reaches h target.symbol target.version slot.key
slot_reached h target index slot i there = record {
  link = i.link;
  link_is = i.link_is;
  number = i.number;
  reached_by = slot_in_reach i.link slot.key
      (subst (λ (x : Index). Contains (map (λ (s : Slot). s.key) x.slots) slot.key) (sym i.is) (key_in index.slots slot there));
}

-- ---- what was put stays

stays_over : (more h : History) (key : Key) (body : Bytes) → IsLawful (more ++ h) → body_put h key ≡ Some body → body_put (more ++ h) key ≡ Some body
stays_over [] h key body lawful put = put
stays_over (e ∷ more) h key body lawful put = put_stays (more ++ h) e ((lawful_is_intact (e ∷ (more ++ h)) lawful).once) key body (stays_over more h key body lawful.1 put)

put_prop : (a b : Option Bytes) → IsProp (a ≡ b)
put_prop a b = hlevel props

stays_told : (more h new : History) (key : Key) (body : Bytes) → new ≡ more ++ h → ∥ IsLawful new ∥₁ → body_put h key ≡ Some body → body_put new key ≡ Some body
stays_told more h new key body is lawful put =
    ∥∥₁_elim lawful (put_prop (body_put new key) (Some body)) (λ l. ap (λ g. body_put g key) is ∙ stays_over more h key body (subst IsLawful is l) put)

got_later : (more h new : History) (slots : List Slot) (tiles : List FetchedTile) → new ≡ more ++ h → ∥ IsLawful new ∥₁ → AllZip (IsGot h) slots tiles → AllZip (IsGot new) slots tiles
got_later more h new [] [] is lawful z = tt
got_later more h new [] (t ∷ tiles) is lawful z = absurd z
got_later more h new (s ∷ slots) [] is lawful z = absurd z
got_later more h new (s ∷ slots) (t ∷ tiles) is lawful z =
    (record { part = z.0.part; body = stays_told more h new s.key (arc_value t.body) is lawful z.0.body }, got_later more h new slots tiles is lawful z.1)

-- one tile more
pub got_more : (more h new : History) (slots : List Slot) (slot : Slot) (i : ℕ) (old tiles : List FetchedTile) (tile : FetchedTile) → new ≡ more ++ h → ∥ IsLawful new ∥₁ → i < length slots → slot ≡ get_or slots i slot
    → AllZip (IsGot h) (take i slots) old → tiles ≡ old ++ tile ∷ [] → IsGot new slot tile → AllZip (IsGot new) (take (i + 1) slots) tiles
got_more more h new slots slot i old tiles tile is lawful below at before grown got = zip-step (IsGot new) slots slot i old tiles tile below at (got_later more h new (take i slots) old is lawful before) grown got

-- what is said of an answer that is no error
pub at_ok : {T E : Type 0} (r : Result T E) (P : Type 0) → is_err r ≡ false → OnOk r P → P
at_ok (Ok x) P e is = is
at_ok (Err why) P e is = absurd (true≢false e)
