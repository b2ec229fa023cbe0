-- Where each client is clean and all is swept, nothing is left over.
use Rattle.std.proofs.Common.{◌≡◌, ℕ, true, false, ◌||◌, ◌&&◌, ◌∷◌, ◌++◌, [], refl, ap, sym, ◌∙◌, subst, inl, inr, not, Option, Some, None, cond, Ok, Err, Result}
use Rattle.std.specs.Prelude.{◌⊎◌, Contains, is_some, option_map}
use Rattle.std.proofs.lemmas.Bool.{true≢false, and_parts}
use Rattle.byte_fields.specs.Reading.{read_of}
use Rattle.frame_core.specs.Frames.{Frame}
use Rattle.segment_bytes.specs.Segments.{segment_of}
use Rattle.key_kind.specs.declared.key.KeyKind.{KeyKind}
use Rattle.key_kind.specs.declared.key.KeyKind.TheVariants as kinds
use Rattle.key_kind.specs.declared.key.Key.{Key}
use Rattle.key_kind.specs.Names.{Name, same_name}
use Rattle.key_kind.specs.Keys.{is_put, same_key, same_kind, reference_key, snapshot_key}
use Rattle.key_kind.specs.KeyText.{key_text}
use Rattle.key_kind.proofs.KeyTests.{same_key_is, same_name_self}
use Rattle.bucket_core.specs.declared.event.Event.TheVariants as events
use Rattle.bucket_core.specs.History.{History, Bytes, stored, body_put, reference, StandsAsPut}
use Rattle.store_model.specs.declared.snapshot.SnapBody.{SnapBody}
use Rattle.store_model.specs.ChainText.{snap_of}
use Rattle.store_model.specs.Library.{Piece, state_of, after_changes, is_consumed, staged_key, piece_staged, piece_of}
use Rattle.store_model.specs.Snapshots.{snap_body}
use Rattle.store_model.specs.Links.{links, reaches, is_needed, is_reached_by_needed, is_chained, chain_entries}
use Rattle.store_model.specs.OwnPuts.{IsTableKind}
use Rattle.store_model.specs.Law.{IsLawful, MayPut, SpellsKind, HasStamps}
use Rattle.store_model.specs.Collected.{IsClean, HasNoneDead, IsWanted, reached, chained, referred, named, staged, CollectsAll}
use Rattle.store_model.proofs.Lists.{one_passes, in_filter, contains_first, contains_right}
use Rattle.store_model.proofs.Histories.{stands_was_put}
use Rattle.store_model.proofs.Putting.{spelled_is_put, staged_key_is}
use Rattle.store_model.proofs.Dropping.{it_is_reached}
use Rattle.store_model.proofs.AsPut.{staged_same}
use Rattle.store_model.proofs.Lawful.{lawful_is_intact}
use Rattle.store_model.proofs.Standing.{lawful_is_shown}

-- ---- what is stored is needed

-- a stored key is one that clients put, a reference or a snapshot
pub stored_kinds : (h : History) → IsLawful h → (key : Key) → is_some (stored h key) ≡ true
    → (is_put key.kind ≡ true) ⊎ ((s : Name) × (key ≡ reference_key s)) ⊎ ((s : Name) × (key ≡ snapshot_key s))
stored_kinds [] lawful key e = absurd (true≢false (sym e))
stored_kinds (events.Put c k body ∷ h) lawful key e =
    elim (same_key k key) as (λ b. same_key k key ≡ b → is_some (cond b (Some body) (stored h key)) ≡ true → (is_put key.kind ≡ true) ⊎ ((s : Name) × (key ≡ reference_key s)) ⊎ ((s : Name) × (key ≡ snapshot_key s))) [
      | true ↦ λ same f. inl (subst (λ (x : Key). is_put x.kind ≡ true) (same_key_is k key same) (spelled_is_put k k.kind body lawful.0.1.spelled))
      | false ↦ λ same f. stored_kinds h lawful.1 key f
    ] refl e
stored_kinds (events.Refer c s was entry list ∷ h) lawful key e =
    elim (same_key (reference_key s) key) as (λ b. same_key (reference_key s) key ≡ b → is_some (cond b (Some (key_text entry)) (stored h key)) ≡ true
    → (is_put key.kind ≡ true) ⊎ ((s : Name) × (key ≡ reference_key s)) ⊎ ((s : Name) × (key ≡ snapshot_key s))) [
      | true ↦ λ same f. inr (inl (s, sym (same_key_is (reference_key s) key same)))
      | false ↦ λ same f. stored_kinds h lawful.1 key f
    ] refl e
stored_kinds (events.Name c snap body ∷ h) lawful key e =
    elim (same_key (snapshot_key snap) key) as (λ b. same_key (snapshot_key snap) key ≡ b → is_some (cond b (Some body) (stored h key)) ≡ true
    → (is_put key.kind ≡ true) ⊎ ((s : Name) × (key ≡ reference_key s)) ⊎ ((s : Name) × (key ≡ snapshot_key s))) [
      | true ↦ λ same f. inr (inr (snap, sym (same_key_is (snapshot_key snap) key same)))
      | false ↦ λ same f. stored_kinds h lawful.1 key f
    ] refl e
stored_kinds (events.Unname c snap ∷ h) lawful key e =
    elim (same_key (snapshot_key snap) key) as (λ b. is_some (cond b None (stored h key)) ≡ true → (is_put key.kind ≡ true) ⊎ ((s : Name) × (key ≡ reference_key s)) ⊎ ((s : Name) × (key ≡ snapshot_key s))) [
      | true ↦ λ f. absurd (true≢false (sym f))
      | false ↦ λ f. stored_kinds h lawful.1 key f
    ] e
stored_kinds (events.Drop c k ∷ h) lawful key e =
    elim (same_key k key) as (λ b. is_some (cond b None (stored h key)) ≡ true → (is_put key.kind ≡ true) ⊎ ((s : Name) × (key ≡ reference_key s)) ⊎ ((s : Name) × (key ≡ snapshot_key s))) [
      | true ↦ λ f. absurd (true≢false (sym f))
      | false ↦ λ f. stored_kinds h lawful.1 key f
    ] e

-- a staged key that was put is that of a piece
pub record HasPiece (h : History) (key : Key) : Type 0 where
  pub piece : Piece
  pub there : Contains (state_of h key.name).staged piece
  pub is : staged_key key.name piece ≡ key

new_piece : (h : History) (c : ℕ) (key : Key) (body : Bytes) → MayPut h c key body → key.kind ≡ kinds.Staged → HasPiece (events.Put c key body ∷ h) key
new_piece h c key body may kind = by (segment_of body) refl (subst (λ k. SpellsKind key k body) kind may.spelled)
  where
    by : (r : Result Frame ℕ) → segment_of body ≡ r → HasStamps key r → HasPiece (events.Put c key body ∷ h) key
    by (Err n) e stamps = absurd stamps
    by (Ok frame) e stamps =
        let p : Piece = record { name = record { client = key.client; serial = key.serial }; frame = frame } in
        let here : piece_staged key.name key body ≡ p ∷ [] =
        (λ i. cond ((ap (λ k. same_kind k kinds.Staged) kind ∙ refl) i && same_name_self key.name i) (piece_of key (read_of (e i))) []) in
        record {
          piece = p;
          there = subst (λ ps. Contains (ps ++ (state_of h key.name).staged) p) (sym here) (contains_first p (state_of h key.name).staged);
          is = staged_key_is key frame p may.key_is kind stamps refl;
        }

pub staged_has_piece : (h : History) → IsLawful h → (key : Key) (body : Bytes) → body_put h key ≡ Some body → key.kind ≡ kinds.Staged → HasPiece h key
staged_has_piece [] lawful key body put kind = absurd cc
staged_has_piece (events.Put c k b ∷ h) lawful key body put kind =
    elim (same_key k key) as (λ t. same_key k key ≡ t → cond t (Some b) (body_put h key) ≡ Some body → HasPiece (events.Put c k b ∷ h) key) [
      | true ↦ λ same f. subst (HasPiece (events.Put c k b ∷ h)) (same_key_is k key same) (new_piece h c k b lawful.0.1 (ap (λ (x : Key). x.kind) (same_key_is k key same) ∙ kind))
      | false ↦ λ same f. let old = staged_has_piece h lawful.1 key body f kind in
          record { piece = old.piece; there = contains_right (piece_staged key.name k b) (state_of h key.name).staged old.piece old.there; is = old.is }
    ] refl put
staged_has_piece (events.Refer c s was entry list ∷ h) lawful key body put kind =
    let old = staged_has_piece h lawful.1 key body put kind in
    record {
      piece = old.piece;
      there = elim (same_name s key.name) as (λ t. Contains (cond t (after_changes (state_of h key.name) list) (state_of h key.name)).staged old.piece) [
        | true ↦ subst (λ ps. Contains ps old.piece) (sym (staged_same (state_of h key.name) list)) old.there
        | false ↦ old.there
      ];
      is = old.is;
    }
staged_has_piece (events.Name c snap b ∷ h) lawful key body put kind = let old = staged_has_piece h lawful.1 key body put kind in record { piece = old.piece; there = old.there; is = old.is }
staged_has_piece (events.Unname c snap ∷ h) lawful key body put kind = let old = staged_has_piece h lawful.1 key body put kind in record { piece = old.piece; there = old.there; is = old.is }
staged_has_piece (events.Drop c k ∷ h) lawful key body put kind = let old = staged_has_piece h lawful.1 key body put kind in record { piece = old.piece; there = old.there; is = old.is }

some_body : (o : Option Bytes) → is_some o ≡ true → (body : Bytes) × (o ≡ Some body)
some_body None e = absurd (true≢false (sym e))
some_body (Some body) e = (body, refl)

module _ (h : History) (lawful : IsLawful h) (clean : (client : ℕ) → IsClean h client) (swept : HasNoneDead h) where
  -- a stored tile, index or element is needed
  table_wanted : (key : Key) → is_some (stored h key) ≡ true → IsTableKind key.kind → IsWanted h key
  table_wanted key e table = elim (clean key.client key e refl table) [
    | inl once ↦ elim (is_reached_by_needed h key) as (λ b. is_reached_by_needed h key ≡ b → IsWanted h key) [
      | true ↦ λ need. reached need
      | false ↦ λ no_more. absurd (swept key e (inl (record { once = once; no_more = no_more })))
    ] refl
    | inr once ↦ elim (is_chained h key.name key) as (λ b. is_chained h key.name key ≡ b → IsWanted h key) [
      | true ↦ λ there. chained there
      | false ↦ λ no_more. absurd (swept key e (inr (inr (record { once = once; no_more = no_more }))))
    ] refl
  ]

  -- a stored piece is not consumed
  piece_wanted : (key : Key) → is_some (stored h key) ≡ true → key.kind ≡ kinds.Staged → IsWanted h key
  piece_wanted key e kind =
      let body = some_body (stored h key) e in
      let has = staged_has_piece h lawful key body.0 (stands_was_put h key body.0 (ap is_put kind) body.1) kind in
      elim (is_consumed (state_of h key.name) has.piece.name) as (λ b. is_consumed (state_of h key.name) has.piece.name ≡ b → IsWanted h key) [
        | true ↦ λ gone. absurd (swept key e (inr (inl (record { staged = kind; consumed = subst (λ n. is_consumed (state_of h key.name) n ≡ true) (name_is has) gone }))))
        | false ↦ λ unused. staged key.name has.piece (sym has.is) (in_filter (λ (p : Piece). not (is_consumed (state_of h key.name) p.name)) (state_of h key.name).staged has.piece has.there (ap not unused))
      ] refl
    where
      name_is : (has : HasPiece h key) → has.piece.name ≡ record { client = key.client; serial = key.serial }
      name_is has = λ i. record { client = (has.is i).client; serial = (has.is i).serial }

  put_wanted : (key : Key) → is_some (stored h key) ≡ true → is_put key.kind ≡ true → IsWanted h key
  put_wanted key e put = by key.kind refl put
    where
      by : (kind : KeyKind) → key.kind ≡ kind → is_put kind ≡ true → IsWanted h key
      by kinds.TableData k p = table_wanted key e (ap (λ kind. same_kind kind kinds.TableData || same_kind kind kinds.TableIndex || same_kind kind kinds.Version) k)
      by kinds.TableIndex k p = table_wanted key e (ap (λ kind. same_kind kind kinds.TableData || same_kind kind kinds.TableIndex || same_kind kind kinds.Version) k)
      by kinds.Version k p = table_wanted key e (ap (λ kind. same_kind kind kinds.TableData || same_kind kind kinds.TableIndex || same_kind kind kinds.Version) k)
      by kinds.VersionRef k p = absurd (true≢false (sym p))
      by kinds.Snapshot k p = absurd (true≢false (sym p))
      by kinds.Staged k p = piece_wanted key e k

  stored_is_wanted : (key : Key) → is_some (stored h key) ≡ true → IsWanted h key
  stored_is_wanted key e = elim (stored_kinds h lawful key e) [
    | inl put ↦ put_wanted key e put
    | inr rest ↦ elim rest [
      | inl r ↦ referred r.0 r.1 (reference_there (reference h r.0) (ap is_some (sym ((lawful_is_shown h lawful).references r.0)) ∙ subst (λ k. is_some (stored h k) ≡ true) r.1 e))
      | inr s ↦ named s.0 s.1 (body_there (stored h (snapshot_key s.0)) (snap_body h s.0) ((lawful_is_shown h lawful).snapshots s.0) (subst (λ k. is_some (stored h k) ≡ true) s.1 e))
    ]
  ]
    where
      reference_there : (o : Option Key) → is_some (option_map key_text o) ≡ true → is_some o ≡ true
      reference_there None e = e
      reference_there (Some k) e = refl

      body_there : (o : Option Bytes) (b : Option SnapBody) → option_map (λ body. snap_of body) o ≡ option_map Ok b → is_some o ≡ true → is_some b ≡ true
      body_there None b e f = absurd (true≢false (sym f))
      body_there (Some x) None e f = absurd cc
      body_there (Some x) (Some y) e f = refl

-- ---- what is needed is stored

stands_is_stored : (h : History) (key : Key) → StandsAsPut h key → is_some (stored h key) ≡ true
stands_is_stored h key s = ap is_some s.stands

pub wanted_is_stored : (h : History) → IsLawful h → (key : Key) → IsWanted h key → is_some (stored h key) ≡ true
wanted_is_stored h lawful key (reached e) =
    let found = one_passes (λ l. is_needed (state_of h key.name) l && reaches l key) (links h key.name) e in
    let parts = and_parts (is_needed (state_of h key.name) found.0) (reaches found.0 key) found.2 in
    stands_is_stored h key ((lawful_is_intact h lawful).needed key.name found.0 key found.1 parts.0 (it_is_reached found.0 key parts.1))
wanted_is_stored h lawful key (chained e) =
    let found = one_passes (λ k. same_key k key) (chain_entries h key.name) e in
    stands_is_stored h key ((lawful_is_intact h lawful).elements key.name key (subst (λ k. Contains (chain_entries h key.name) k) (same_key_is found.0 key found.2) found.1))
wanted_is_stored h lawful key (referred symbol is there) =
    subst (λ k. is_some (stored h k) ≡ true) (sym is) (ap is_some ((lawful_is_shown h lawful).references symbol) ∙ spelled (reference h symbol) there)
  where
    spelled : (o : Option Key) → is_some o ≡ true → is_some (option_map key_text o) ≡ true
    spelled None e = e
    spelled (Some k) e = refl
wanted_is_stored h lawful key (named snap is there) =
    subst (λ k. is_some (stored h k) ≡ true) (sym is) (by (stored h (snapshot_key snap)) (snap_body h snap) ((lawful_is_shown h lawful).snapshots snap) there)
  where
    by : (o : Option Bytes) (b : Option SnapBody) → option_map (λ body. snap_of body) o ≡ option_map Ok b → is_some b ≡ true → is_some o ≡ true
    by o None e f = absurd (true≢false (sym f))
    by None (Some y) e f = absurd cc
    by (Some x) (Some y) e f = refl
wanted_is_stored h lawful key (staged symbol p is there) =
    subst (λ k. is_some (stored h k) ≡ true) (sym is) (stands_is_stored h (staged_key symbol p) ((lawful_is_intact h lawful).pieces symbol p there))

pub collects_all : CollectsAll
collects_all h lawful clean swept = record { needed = stored_is_wanted h lawful clean swept; stored = wanted_is_stored h lawful }
