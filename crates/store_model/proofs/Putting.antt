-- A Put keeps a history intact: its key is new, and a staged piece stands.
use Rattle.std.proofs.Common.{◌≡◌, ℕ, suc, ◌<◌, ◌≤◌, true, false, ◌&&◌, [], ◌∷◌, ◌++◌, refl, ap, sym, subst, inl, inr, Some, None, not, cond, nat_eq, arith, Result, Ok, Err}
use Rattle.std.specs.Prelude.{Contains}
use Rattle.std.proofs.lemmas.Bool.{and_parts, eq-eqb}
use Rattle.frame_core.specs.Frames.{Frame}
use Rattle.byte_fields.specs.Reading.{read_of}
use Rattle.store_model.proofs.Lists.{filter_in, in_filter, contains_append, contains_cases, contains_none}
use Rattle.segment_bytes.specs.Segments.{segment_of}
use Rattle.key_kind.specs.declared.key.KeyKind.{KeyKind}
use Rattle.key_kind.specs.declared.key.KeyKind.TheVariants as kinds
use Rattle.key_kind.specs.declared.key.Key.{Key}
use Rattle.key_kind.specs.Names.{Name, same_name}
use Rattle.key_kind.specs.Keys.{same_key, same_kind, is_put, has_version, IsKey}
use Rattle.key_kind.proofs.KeyTests.{same_key_is, same_key_self, same_kind_is, same_name_is}
use Rattle.bucket_core.specs.declared.event.Event.TheVariants as events
use Rattle.bucket_core.specs.History.{History, Bytes, body_put, puts_by, stored, StandsAsPut}
use Rattle.store_model.proofs.Histories.{stands_at_put, puts_more}
use Rattle.store_model.specs.Library.{Piece, state_of, is_consumed, open_pieces, staged_key, piece_of, piece_staged}
use Rattle.store_model.specs.Law.{MayPut, SpellsKind, HasStamps}
use Rattle.store_model.specs.Intact.{IsIntact, IsNumbered}

-- what is put is of a kind that clients put
pub spelled_is_put : (key : Key) (kind : KeyKind) (body : Bytes) → SpellsKind key kind body → is_put kind ≡ true
spelled_is_put key kinds.TableData body h = refl
spelled_is_put key kinds.TableIndex body h = refl
spelled_is_put key kinds.Version body h = refl
spelled_is_put key kinds.VersionRef body h = absurd h
spelled_is_put key kinds.Snapshot body h = absurd h
spelled_is_put key kinds.Staged body h = refl

-- the key was not put before
pub put_is_new : (h : History) (client : ℕ) (key : Key) (body : Bytes) → MayPut h client key body → IsIntact h → body_put h key ≡ None
put_is_new h client key body may i =
    elim (body_put h key) as (λ o. body_put h key ≡ o → o ≡ None) [
      | None ↦ λ e. refl
      | Some b ↦ λ e.
          let below : key.serial < puts_by key.client h = (i.numbered key b e).0 in
          let here : key.serial < puts_by client h = subst (λ c. key.serial < puts_by c h) may.own below in
          absurd (omega (arith, may.next))
    ] refl

-- the key that was put stands
pub put_stands : (h : History) (client : ℕ) (key : Key) (body : Bytes) → StandsAsPut (events.Put client key body ∷ h) key
put_stands h client key body = record {
  body = body;
  put = ap (λ b. cond b (Some body) (body_put h key)) (same_key_self key);
  stands = ap (λ b. cond b (Some body) (stored h key)) (same_key_self key);
}

-- what holds of the number of a key that was put
pub put_numbered : (h : History) (client : ℕ) (key : Key) (body : Bytes) → MayPut h client key body → IsNumbered (events.Put client key body ∷ h) key
put_numbered h client key body may =
    let e : nat_eq client key.client ≡ true = eq-eqb client key.client (sym may.own) in
    let n : puts_by key.client h ≡ puts_by client h = ap (λ c. puts_by c h) may.own in
    let more : key.serial < suc (puts_by key.client h) = omega (arith, may.next, n) in (
      subst (λ b. key.serial < cond b (suc (puts_by key.client h)) (puts_by key.client h)) (sym e) more,
      spelled_is_put key key.kind body may.spelled,
    )

-- ---- pieces

-- a piece that a Put stages is that of its key and of the frame that its body spells
pub piece_here : (key : Key) (read : Result Frame ℕ) (p : Piece) → Contains (piece_of key (read_of read)) p
    → (frame : Frame) × (read ≡ Ok frame) × (record { name = record { client = key.client; serial = key.serial }; frame = frame } ≡ p)
piece_here key (Ok frame) p c = elim (contains_cases p _ [] c) [ inl e ↦ (frame, refl, e) | inr d ↦ absurd (contains_none p d) ]
piece_here key (Err n) p c = absurd (contains_none p c)

pub staged_here : (symbol : Name) (key : Key) (body : Bytes) (p : Piece) → Contains (piece_staged symbol key body) p
    → (key.kind ≡ kinds.Staged) × (key.name ≡ symbol) × Contains (piece_of key (read_of (segment_of body))) p
staged_here symbol key body p c =
    elim (same_kind key.kind kinds.Staged && same_name key.name symbol) as (λ b. (same_kind key.kind kinds.Staged && same_name key.name symbol) ≡ b → Contains (cond b (piece_of key (read_of (segment_of body))) []) p
    → (key.kind ≡ kinds.Staged) × (key.name ≡ symbol) × Contains (piece_of key (read_of (segment_of body))) p) [
      | true ↦ λ e d. let r = and_parts (same_kind key.kind kinds.Staged) (same_name key.name symbol) e in (same_kind_is key.kind kinds.Staged r.0, same_name_is key.name symbol r.1, d)
      | false ↦ λ e d. absurd (contains_none p d)
    ] refl c

-- the key of a piece, from the rules of its own key
pub staged_key_is : (key : Key) (frame : Frame) (p : Piece) → IsKey key → key.kind ≡ kinds.Staged → HasStamps key (Ok frame)
    → record { name = record { client = key.client; serial = key.serial }; frame = frame } ≡ p → staged_key key.name p ≡ key
staged_key_is key frame p rules kind stamps is =
    let version : key.version ≡ 0 = rules.version (ap has_version kind) in
    let same : staged_key key.name (record { name = record { client = key.client; serial = key.serial }; frame = frame }) ≡ key =
    (λ i. record { kind = sym kind i; name = key.name; client = key.client; serial = key.serial; version = sym version i; first = sym stamps.0 i; last = sym stamps.1 i }) in
    subst (λ q. staged_key key.name q ≡ key) is same

pub piece_stands : (h : History) (client : ℕ) (key : Key) (body : Bytes) → MayPut h client key body → (symbol : Name) (p : Piece) → Contains (piece_staged symbol key body) p
    → StandsAsPut (events.Put client key body ∷ h) (staged_key symbol p)
piece_stands h client key body may symbol p c =
    let here = staged_here symbol key body p c in
    let read = piece_here key (segment_of body) p here.2 in
    let spelled : HasStamps key (segment_of body) = subst (λ kind. SpellsKind key kind body) here.0 may.spelled in
    let stamps : HasStamps key (Ok read.0) = subst (HasStamps key) read.1 spelled in
    let is : staged_key key.name p ≡ key = staged_key_is key read.0 p may.key_is here.0 stamps read.2 in
    subst (λ s. StandsAsPut (events.Put client key body ∷ h) (staged_key s p)) here.1
    (subst (StandsAsPut (events.Put client key body ∷ h)) (sym is) (put_stands h client key body))

pub put_keeps : (h : History) (client : ℕ) (key : Key) (body : Bytes) → MayPut h client key body → IsIntact h → IsIntact (events.Put client key body ∷ h)
put_keeps h client key body may i = record {
  once = (put_is_new h client key body may i, i.once);
  numbered = λ k b e. numbered k b e;
  table_keys = i.table_keys;
  needed = λ s l k there need reach. stands_at_put h client key body k (i.needed s l k there need reach);
  element_keys = i.element_keys;
  elements = λ s k there. stands_at_put h client key body k (i.elements s k there);
  pieces = λ s p there. pieces s p there;
  versions = i.versions;
  below = i.below;
  chain = λ s. let w = i.chain s in record { rows = w.rows; tombs = w.tombs; holds = w.holds; pieces = w.pieces };
  buried = i.buried;
  held = i.held;
  one_name = i.one_name;
  unnamed = i.unnamed;
}
  where
    numbered : (k : Key) (b : Bytes) → cond (same_key key k) (Some body) (body_put h k) ≡ Some b → IsNumbered (events.Put client key body ∷ h) k
    numbered k b =
        elim (same_key key k) as (λ t. same_key key k ≡ t → cond t (Some body) (body_put h k) ≡ Some b → IsNumbered (events.Put client key body ∷ h) k) [
          | true ↦ λ e f. subst (IsNumbered (events.Put client key body ∷ h)) (same_key_is key k e) (put_numbered h client key body may)
          | false ↦ λ e f.
              let old = i.numbered k b f in
              let more : puts_by k.client h ≤ puts_by k.client (events.Put client key body ∷ h) = puts_more h k.client (events.Put client key body) in
              (omega (arith, old.0), old.1)
        ] refl

    pieces : (s : Name) (p : Piece) → Contains (open_pieces (state_of (events.Put client key body ∷ h) s)) p → StandsAsPut (events.Put client key body ∷ h) (staged_key s p)
    pieces s p there =
        let r = filter_in (λ p. not (is_consumed (state_of h s) p.name)) (piece_staged s key body ++ (state_of h s).staged) p there in
        elim (contains_append (piece_staged s key body) (state_of h s).staged p r.0) [
          | inl c ↦ piece_stands h client key body may s p c
          | inr c ↦ stands_at_put h client key body (staged_key s p) (i.pieces s p (in_filter (λ p. not (is_consumed (state_of h s) p.name)) (state_of h s).staged p c r.1))
        ]
