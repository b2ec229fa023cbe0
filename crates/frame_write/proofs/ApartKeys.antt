-- The keys of a try's new tiles are apart from those that were put before, so they are the puts among the keys of its index.
use Rattle.std.proofs.Common.{◌≡◌, ℕ, suc, ◌<◌, ◌≤◌, Bool, true, false, ◌||◌, cond, List, [], ◌∷◌, map, refl, ap, sym, ◌∙◌, Option, Some, None, arith}
use Rattle.std.specs.Prelude.{⊤, Contains, filter, option_and_then}
use Rattle.std.specs.List.{AllByRecursion, list_any}
use denote.Struct.Props.{props}
use mathlib.Core.Logic.{∥∥₁_elim}
use Rattle.byte_fields.specs.Reading.{read_of}
use Rattle.frame_core.specs.Frames.{Frame}
use Rattle.segment_bytes.specs.Segments.{segment_of}
use Rattle.index_tree.specs.declared.index.Slot.{Slot}
use Rattle.key_kind.specs.declared.key.Key.{Key}
use Rattle.key_kind.specs.Keys.{same_key}
use Rattle.key_kind.proofs.KeyTests.{same_key_is, same_key_self}
use Rattle.bucket_core.specs.History.{History, Bytes, body_put, puts_by}
use Rattle.store_model.specs.Links.{frame_put}
use Rattle.store_model.specs.Law.{IsLawful}
use Rattle.store_model.proofs.Lawful.{lawful_is_intact}
use Rattle.store_model.proofs.Lists.{contains_first, contains_later, passes}
use Rattle.store_model.proofs.Stability.{is_false}
use Rattle.reply_model.specs.Tries.{keys_of_puts}
use Rattle.frame_write.specs.Laying.{Laid, slots_laid, puts_laid}
use Rattle.frame_write.specs.Plans.{ArePutsFrom}

or_none : (a b : Bool) → a ≡ false → b ≡ false → (a || b) ≡ false
or_none a b e f = ap (λ x. x || b) e ∙ f

-- a key whose serial lies below its client's next one is none of those that follow
apart_from : (h : History) (client n : ℕ) (key : Key) (puts : List (Key × Bytes)) → ArePutsFrom client n puts → puts_by client h ≤ n → key.serial < puts_by key.client h → list_any (same_key key) (keys_of_puts puts) ≡ false
apart_from h client n key [] from le less = refl
apart_from h client n key (p ∷ puts) from le less =
    or_none (same_key key p.0) (list_any (same_key key) (keys_of_puts puts))
    (is_false (same_key key p.0) (λ e.
    let same = same_key_is key p.0 e in
    let serial : key.serial ≡ p.0.serial = ap (λ (k : Key). k.serial) same in
    let owner : key.client ≡ client = ap (λ (k : Key). k.client) same ∙ from.0.own in
    let counted : puts_by key.client h ≡ puts_by client h = ap (λ c. puts_by c h) owner in
    omega (arith, serial, from.0.serial_is, counted, less, le)))
    (apart_from h client (suc n) key puts from.1 (omega (arith, le)) less)

-- a key with which a frame was put has such a serial
numbered : (h : History) → IsLawful h → (key : Key) (f : Frame) → frame_put h key ≡ Some f → key.serial < puts_by key.client h
numbered h l key f e = by (body_put h key) refl e
  where
    by : (o : Option Bytes) → body_put h key ≡ o → option_and_then (λ body. read_of (segment_of body)) o ≡ Some f → key.serial < puts_by key.client h
    by None is e = absurd cc
    by (Some body) is e = ((lawful_is_intact h l).numbered key body is).0

-- so it is apart from the puts of a try
pub put_apart : (h : History) → ∥ IsLawful h ∥₁ → (client n : ℕ) (key : Key) (f : Frame) (puts : List (Key × Bytes)) → ArePutsFrom client n puts → puts_by client h ≤ n → frame_put h key ≡ Some f
    → list_any (same_key key) (keys_of_puts puts) ≡ false
put_apart h lawful client n key f puts from le is = ∥∥₁_elim lawful (hlevel props) (λ l. apart_from h client n key puts from le (numbered h l key f is))

-- ---- the new keys among those of the slots

-- a shared slot's key is none of these
abbrev pub IsApart : List Key → Laid → Type 0
IsApart keys (s, None) = list_any (same_key s.key) keys ≡ false
IsApart keys (s, Some body) = ⊤

-- of these are the new slots' keys alone
abbrev IsTold : List Key → Laid → Type 0
IsTold keys (s, None) = list_any (same_key s.key) keys ≡ false
IsTold keys (s, Some body) = list_any (same_key s.key) keys ≡ true

-- the keys of laid slots
abbrev keys_laid : List Laid → List Key
keys_laid xs = map (λ (s : Slot). s.key) (slots_laid xs)

each_told : (keys : List Key) (xs : List Laid) → ((k : Key) → Contains (keys_of_puts (puts_laid xs)) k → Contains keys k) → AllByRecursion (IsApart keys) xs → AllByRecursion (IsTold keys) xs
each_told keys [] among apart = tt
each_told keys ((s, None) ∷ xs) among apart = (apart.0, each_told keys xs among apart.1)
each_told keys ((s, Some body) ∷ xs) among apart = (
  passes (same_key s.key) keys s.key (among s.key (contains_first s.key (keys_of_puts (puts_laid xs)))) (same_key_self s.key),
  each_told keys xs (λ k c. among k (contains_later k s.key (keys_of_puts (puts_laid xs)) c)) apart.1,
)

filtered : (keys : List Key) (xs : List Laid) → AllByRecursion (IsTold keys) xs → keys_of_puts (puts_laid xs) ≡ filter (λ k. list_any (same_key k) keys) (keys_laid xs)
filtered keys [] told = refl
filtered keys ((s, None) ∷ xs) told =
    let rest : List Key = filter (λ k. list_any (same_key k) keys) (keys_laid xs) in
    filtered keys xs told.1 ∙ sym (ap (λ b. cond b (s.key ∷ rest) rest) told.0)
filtered keys ((s, Some body) ∷ xs) told =
    let rest : List Key = filter (λ k. list_any (same_key k) keys) (keys_laid xs) in
    ap (λ ks. s.key ∷ ks) (filtered keys xs told.1) ∙ sym (ap (λ b. cond b (s.key ∷ rest) rest) told.0)

-- the puts of new tiles are those keys of the index that were put, in its order
pub new_keys : (xs : List Laid) → AllByRecursion (IsApart (keys_of_puts (puts_laid xs))) xs
    → keys_of_puts (puts_laid xs) ≡ filter (λ k. list_any (same_key k) (keys_of_puts (puts_laid xs))) (keys_laid xs)
new_keys xs apart = filtered (keys_of_puts (puts_laid xs)) xs (each_told (keys_of_puts (puts_laid xs)) xs (λ k c. c) apart)
