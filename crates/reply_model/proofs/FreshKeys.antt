-- The keys that a try puts are new, and those of a version are the ones of its new row blocks.
use Rattle.std.proofs.Common.{◌≡◌, ℕ, Bool, true, false, List, [], ◌∷◌, ◌++◌, map, length, Some, None, refl, sym, ◌∙◌, ap, subst, inl, inr, arith, cond, ◌≤◌, append_assoc, length-append}
use Rattle.std.specs.Prelude.{◌*◌, ⊤, Contains, filter, reverse, is_some}
use Rattle.std.specs.List.{AllByRecursion, AllZip, IsDistinct}
use Rattle.std.proofs.Math.Nat.{suc-mul}
use Rattle.std.proofs.lemmas.Bool.{true≢false}
use Rattle.std.proofs.lemmas.List.{reverse-append}
use Rattle.std.proofs.lemmas.List.Elements.{filter-append}
use Rattle.std.proofs.lemmas.List.Concat.{flat_map-cons}
use Rattle.index_tree.specs.declared.index.Index.{Index}
use Rattle.key_kind.specs.declared.key.Key.{Key}
use Rattle.key_kind.specs.Keys.{same_key}
use Rattle.key_kind.proofs.KeyTests.{same_key_is, same_key_self}
use Rattle.bucket_core.specs.declared.event.Event.TheVariants as events
use Rattle.bucket_core.specs.History.{History, Bytes, stored, body_put, PutOnce}
use Rattle.store_model.specs.declared.chain.LinkRow.{LinkRow}
use Rattle.store_model.specs.Links.{Linked, linked, index_put}
use Rattle.store_model.proofs.PlainLinks.{flat as flat_index, flat_index_is}
use Rattle.store_model.proofs.Lists.{contains_cases, contains_none}
use Rattle.store_model.proofs.Histories.{put_stays}
use Rattle.reply_model.specs.Tries.{put_of, keys_of_puts}
use Rattle.reply_model.specs.Blocks.{Block, Part, shared, fresh}
use Rattle.reply_model.specs.Keyed.{IsKeyedPart}
use Rattle.reply_model.specs.Standing.{fresh_in}
use Rattle.reply_model.proofs.StoredCounts.{no_body}
use Rattle.reply_model.proofs.DropCounts.{is_among}
use Rattle.reply_model.proofs.KeyedShapes.{flat}

-- ---- the index of a link

-- a link has the index that was put whole under its row's key
pub index_is : (h : History) (row : LinkRow) (link : Linked) (index : Index) → linked h row ≡ Some link → index_put h row.index ≡ Some (flat_index index) → link.index ≡ index
index_is h row link index is put = flat_index_is h row link index is put

-- ---- puts behind a history

-- the history behind these puts, the first one first
abbrev pub behind_puts : ℕ → List (Key × Bytes) → History → History
behind_puts client [] old = old
behind_puts client (p ∷ ps) old = behind_puts client ps (events.Put client p.0 p.1 ∷ old)

pub puts_reversed : (client : ℕ) (ps : List (Key × Bytes)) (old : History) → reverse (map (put_of client) ps) ++ old ≡ behind_puts client ps old
puts_reversed client [] old = refl
puts_reversed client (p ∷ ps) old =
    ap (λ es. es ++ old) (reverse-append (put_of client p ∷ []) (map (put_of client) ps))
    ∙ (append_assoc (reverse (map (put_of client) ps)) (put_of client p ∷ []) old ∙ puts_reversed client ps (put_of client p ∷ old))

once_behind : (client : ℕ) (ps : List (Key × Bytes)) (old : History) → PutOnce (behind_puts client ps old) → PutOnce old
once_behind client [] old once = once
once_behind client (p ∷ ps) old once = (once_behind client ps (events.Put client p.0 p.1 ∷ old) once).1

-- their keys were not put before
pub puts_new : (client : ℕ) (ps : List (Key × Bytes)) (old : History) → PutOnce (behind_puts client ps old) → AllByRecursion (λ key. body_put old key ≡ None) (keys_of_puts ps)
puts_new client [] old once = tt
puts_new client (p ∷ ps) old once =
    ((once_behind client ps (events.Put client p.0 p.1 ∷ old) once).0, before (keys_of_puts ps) (puts_new client ps (events.Put client p.0 p.1 ∷ old) once))
  where
    before : (ks : List Key) → AllByRecursion (λ key. body_put (events.Put client p.0 p.1 ∷ old) key ≡ None) ks → AllByRecursion (λ key. body_put old key ≡ None) ks
    before [] all = tt
    before (k ∷ ks) all = ((no_body (same_key p.0 k) p.1 (body_put old k) all.0).1, before ks all.1)

-- and are all other ones
pub puts_distinct : (client : ℕ) (ps : List (Key × Bytes)) (old : History) → PutOnce (behind_puts client ps old) → IsDistinct same_key (keys_of_puts ps)
unfolding IsDistinct
puts_distinct client [] old once = tt
puts_distinct client (p ∷ ps) old once =
    (others (keys_of_puts ps) (puts_new client ps (events.Put client p.0 p.1 ∷ old) once), puts_distinct client ps (events.Put client p.0 p.1 ∷ old) once)
  where
    others : (ks : List Key) → AllByRecursion (λ key. body_put (events.Put client p.0 p.1 ∷ old) key ≡ None) ks → AllByRecursion (λ key. same_key p.0 key ≡ false) ks
    others [] all = tt
    others (k ∷ ks) all = ((no_body (same_key p.0 k) p.1 (body_put old k) all.0).0, others ks all.1)

put_before : (client : ℕ) (ps : List (Key × Bytes)) (old : History) (key : Key) (body : Bytes) → PutOnce (behind_puts client ps old) → body_put old key ≡ Some body → body_put (behind_puts client ps old) key ≡ Some body
put_before client [] old key body once put = put
put_before client (p ∷ ps) old key body once put =
    put_before client ps (events.Put client p.0 p.1 ∷ old) key body once
    (put_stays old (events.Put client p.0 p.1) (once_behind client ps (events.Put client p.0 p.1 ∷ old) once) key body put)

-- each body is that of its key
pub puts_found : (client : ℕ) (ps : List (Key × Bytes)) (old : History) (p : Key × Bytes) → PutOnce (behind_puts client ps old) → Contains ps p → body_put (behind_puts client ps old) p.0 ≡ Some p.1
puts_found client [] old p once c = absurd (contains_none p c)
puts_found client (q ∷ ps) old p once c = elim (contains_cases p q ps c) [
  | inl same ↦ put_before client ps (events.Put client q.0 q.1 ∷ old) p.0 p.1 once
      (subst (λ (x : Key × Bytes). body_put (events.Put client q.0 q.1 ∷ old) x.0 ≡ Some x.1) same (ap (λ b. cond b (Some q.1) (body_put old q.0)) (same_key_self q.0)))
  | inr later ↦ puts_found client ps (events.Put client q.0 q.1 ∷ old) p once later
]

-- what was put before stands as before
pub stored_behind_puts : (client : ℕ) (ps : List (Key × Bytes)) (old : History) (key : Key) → PutOnce (behind_puts client ps old) → is_some (body_put old key) ≡ true
    → stored (behind_puts client ps old) key ≡ stored old key
stored_behind_puts client [] old key once put = refl
stored_behind_puts client (p ∷ ps) old key once put =
    let first = once_behind client ps (events.Put client p.0 p.1 ∷ old) once in
    elim (same_key p.0 key) as (λ b. same_key p.0 key ≡ b → stored (behind_puts client ps (events.Put client p.0 p.1 ∷ old)) key ≡ stored old key) [
      | true ↦ λ e. absurd (true≢false (sym put ∙ ap (λ o. is_some o) (subst (λ k. body_put old k ≡ None) (same_key_is p.0 key e) first.0)))
      | false ↦ λ e. stored_behind_puts client ps (events.Put client p.0 p.1 ∷ old) key once (ap (λ b. is_some (cond b (Some p.1) (body_put old key))) e ∙ put)
          ∙ ap (λ b. cond b (Some p.1) (stored old key)) e
    ] refl

-- ---- the keys of new row blocks

-- the keys of the new parts
abbrev pub fresh_keys : List Part → List (List Key) → List (List Key)
fresh_keys [] blocks = []
fresh_keys (p ∷ parts) [] = []
fresh_keys (shared x ∷ parts) (keys ∷ blocks) = fresh_keys parts blocks
fresh_keys (fresh rows ∷ parts) (keys ∷ blocks) = keys ∷ fresh_keys parts blocks

flat_cons : (keys : List Key) (blocks : List (List Key)) → flat (keys ∷ blocks) ≡ keys ++ flat blocks
flat_cons keys blocks = flat_map-cons (λ (ks : List Key). ks) keys blocks

fresh_counted : (names : Block → List Key) (slices : ℕ) (parts : List Part) (blocks : List (List Key)) → AllZip (IsKeyedPart names slices) parts blocks → length (flat (fresh_keys parts blocks)) ≡ fresh_in parts * slices
fresh_counted names slices [] [] zip = omega arith
fresh_counted names slices [] (keys ∷ blocks) zip = absurd zip
fresh_counted names slices (p ∷ parts) [] zip = absurd zip
fresh_counted names slices (shared x ∷ parts) (keys ∷ blocks) zip = fresh_counted names slices parts blocks zip.1
fresh_counted names slices (fresh rows ∷ parts) (keys ∷ blocks) zip =
    omega (
      arith,
      ap (λ (ks : List Key). length ks) (flat_cons keys (fresh_keys parts blocks)),
      length-append keys (flat (fresh_keys parts blocks)),
      zip.0,
      fresh_counted names slices parts blocks zip.1,
      suc-mul (fresh_in parts) slices,
    )

none_pass : (p : Key → Bool) (keys : List Key) → AllByRecursion (λ k. p k ≡ false) keys → filter p keys ≡ []
none_pass p [] all = refl
none_pass p (k ∷ keys) all = ap (λ b. cond b (k ∷ filter p keys) (filter p keys)) all.0 ∙ none_pass p keys all.1

-- the keys of a shared block do not pass
abbrev pub SharedFail : (Key → Bool) → (Block → List Key) → Part → Type 0
SharedFail p names (shared x) = AllByRecursion (λ k. p k ≡ false) (names x)
SharedFail p names (fresh rows) = ⊤

fresh_pass : (p : Key → Bool) (names : Block → List Key) (slices : ℕ) (parts : List Part) (blocks : List (List Key)) → AllZip (IsKeyedPart names slices) parts blocks → AllByRecursion (SharedFail p names) parts
    → filter p (flat blocks) ≡ filter p (flat (fresh_keys parts blocks))
fresh_pass p names slices [] [] zip fail = refl
fresh_pass p names slices [] (keys ∷ blocks) zip fail = absurd zip
fresh_pass p names slices (q ∷ parts) [] zip fail = absurd zip
fresh_pass p names slices (shared x ∷ parts) (keys ∷ blocks) zip fail =
    ap (filter p) (flat_cons keys blocks) ∙ (filter-append p keys (flat blocks)
    ∙ (ap (λ ks. ks ++ filter p (flat blocks)) (none_pass p keys (subst (λ ks. AllByRecursion (λ k. p k ≡ false) ks) (sym zip.0) fail.0)) ∙ fresh_pass p names slices parts blocks zip.1 fail.1))
fresh_pass p names slices (fresh rows ∷ parts) (keys ∷ blocks) zip fail =
    ap (filter p) (flat_cons keys blocks) ∙ (filter-append p keys (flat blocks)
    ∙ (ap (λ ks. filter p keys ++ ks) (fresh_pass p names slices parts blocks zip.1 fail.1)
    ∙ (sym (filter-append p keys (flat (fresh_keys parts blocks))) ∙ ap (filter p) (sym (flat_cons keys (fresh_keys parts blocks))))))

-- a test that as many pass as there are passes on all
fewer : (p : Key → Bool) (keys : List Key) → length (filter p keys) ≤ length keys
fewer p [] = omega arith
fewer p (k ∷ keys) = elim (p k) as (λ b. length (cond b (k ∷ filter p keys) (filter p keys)) ≤ length (k ∷ keys)) [ true ↦ omega (arith, fewer p keys) | false ↦ omega (arith, fewer p keys) ]

all_pass : (p : Key → Bool) (keys : List Key) → length (filter p keys) ≡ length keys → filter p keys ≡ keys
all_pass p [] same = refl
all_pass p (k ∷ keys) same = elim (p k) as (λ b. length (cond b (k ∷ filter p keys) (filter p keys)) ≡ length (k ∷ keys) → cond b (k ∷ filter p keys) (filter p keys) ≡ k ∷ keys) [
  | true ↦ λ e. ap (λ ks. k ∷ ks) (all_pass p keys (omega (arith, e)))
  | false ↦ λ e. absurd (omega (arith, e, fewer p keys))
] same

-- the keys that are put are those of the new parts, where no shared block has one of them
pub fresh_are_put : (names : Block → List Key) (slices : ℕ) (parts : List Part) (blocks : List (List Key)) (keys : List Key) → AllZip (IsKeyedPart names slices) parts blocks
    → AllByRecursion (SharedFail (is_among keys) names) parts → keys ≡ filter (is_among keys) (flat blocks) → length keys ≡ fresh_in parts * slices → flat (fresh_keys parts blocks) ≡ keys
fresh_are_put names slices parts blocks keys zip fail order counted =
    let some : keys ≡ filter (is_among keys) (flat (fresh_keys parts blocks)) = order ∙ fresh_pass (is_among keys) names slices parts blocks zip fail in
    sym (some ∙ all_pass (is_among keys) (flat (fresh_keys parts blocks)) (ap (λ (ks : List Key). length ks) (sym some) ∙ (counted ∙ sym (fresh_counted names slices parts blocks zip))))
