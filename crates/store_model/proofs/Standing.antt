-- What stands under the keys of references and of snapshots.
use Rattle.std.proofs.Common.{◌≡◌, ℕ, true, false, ◌||◌, ◌&&◌, [], ◌∷◌, refl, ap, sym, ◌∙◌, subst, inl, inr, Some, None, cond, Ok}
use Rattle.std.specs.Prelude.{option_map}
use Rattle.std.proofs.lemmas.Bool.{true≢false}
use Rattle.byte_fields.specs.Reading.{read_of}
use Rattle.key_kind.specs.declared.key.KeyKind.{KeyKind}
use Rattle.key_kind.specs.declared.key.KeyKind.TheVariants as kinds
use Rattle.key_kind.specs.declared.key.Key.{Key}
use Rattle.key_kind.specs.Names.{Name, same_name}
use Rattle.key_kind.specs.Keys.{is_put, same_key, same_kind, reference_key, snapshot_key}
use Rattle.key_kind.specs.KeyText.{key_text}
use Rattle.key_kind.proofs.KeyTests.{same_key_is}
use Rattle.bucket_core.specs.declared.event.Event.TheVariants as events
use Rattle.bucket_core.specs.History.{History, stored, reference}
use Rattle.store_model.specs.ChainText.{snap_of}
use Rattle.store_model.specs.Snapshots.{snap_body}
use Rattle.store_model.specs.Law.{IsLawful, IsDead}
use Rattle.store_model.specs.Intact.{IsIntact, IsTableKey, IsShown}
use Rattle.store_model.proofs.Dropping.{reached_is_table, retold_is_version}
use Rattle.store_model.proofs.Putting.{spelled_is_put}
use Rattle.store_model.proofs.Lawful.{lawful_is_intact}
use Rattle.store_model.proofs.Stability.{is_false}

-- a key of a kind that clients put is neither a reference nor a snapshot
no_reference : (key : Key) (symbol : Name) → is_put key.kind ≡ true → same_key key (reference_key symbol) ≡ false
no_reference key symbol kind = is_false _ (λ e. true≢false (sym kind ∙ ap (λ (k : Key). is_put k.kind) (same_key_is key (reference_key symbol) e)))

no_snapshot : (key : Key) (snap : Name) → is_put key.kind ≡ true → same_key key (snapshot_key snap) ≡ false
no_snapshot key snap kind = is_false _ (λ e. true≢false (sym kind ∙ ap (λ (k : Key). is_put k.kind) (same_key_is key (snapshot_key snap) e)))

-- a dead key is of such a kind
table_is_put : (symbol : Name) (key : Key) → IsTableKey symbol key → is_put key.kind ≡ true
table_is_put symbol key t = elim t.kind [ inl d ↦ ap is_put d | inr d ↦ ap is_put d ]

own_is_put : (kind : KeyKind) → (same_kind kind kinds.TableData || same_kind kind kinds.TableIndex || same_kind kind kinds.Version) ≡ true → is_put kind ≡ true
own_is_put kinds.TableData e = refl
own_is_put kinds.TableIndex e = refl
own_is_put kinds.Version e = refl
own_is_put kinds.VersionRef e = absurd (true≢false (sym e))
own_is_put kinds.Snapshot e = absurd (true≢false (sym e))
own_is_put kinds.Staged e = refl

dead_is_put : (h : History) (key : Key) (client : ℕ) → IsIntact h → IsDead h key client → is_put key.kind ≡ true
dead_is_put h key client i dead = elim dead [
  | inl u ↦ table_is_put key.name key (reached_is_table h key i u.once)
  | inr rest ↦ elim rest [
    | inl p ↦ ap is_put p.staged
    | inr later ↦ elim later [ inl o ↦ own_is_put key.kind o.table | inr r ↦ ap is_put (retold_is_version h key i r) ]
  ]
]

-- keys of one kind that are no client's are the same where their names are
same_reference : (t s : Name) → same_key (reference_key t) (reference_key s) ≡ same_name t s
same_reference t s = elim (same_name t s) as (λ b. (b && true && true && true && true && true) ≡ b) [ true ↦ refl | false ↦ refl ]

same_snapshot : (t s : Name) → same_key (snapshot_key t) (snapshot_key s) ≡ same_name t s
same_snapshot t s = elim (same_name t s) as (λ b. (b && true && true && true && true && true) ≡ b) [ true ↦ refl | false ↦ refl ]

-- the reference stands as the spelling of its entry
pub reference_stands : (h : History) → IsLawful h → (symbol : Name) → stored h (reference_key symbol) ≡ option_map key_text (reference h symbol)
reference_stands [] lawful symbol = refl
reference_stands (events.Put c key body ∷ h) lawful symbol =
    subst (λ b. cond b (Some body) (stored h (reference_key symbol)) ≡ option_map key_text (reference h symbol))
    (sym (no_reference key symbol (spelled_is_put key key.kind body lawful.0.1.spelled))) (reference_stands h lawful.1 symbol)
reference_stands (events.Refer c t was entry list ∷ h) lawful symbol =
    subst (λ b. cond b (Some (key_text entry)) (stored h (reference_key symbol)) ≡ option_map key_text (cond (same_name t symbol) (Some entry) (reference h symbol)))
    (sym (same_reference t symbol))
    (elim (same_name t symbol) as (λ b. cond b (Some (key_text entry)) (stored h (reference_key symbol)) ≡ option_map key_text (cond b (Some entry) (reference h symbol))) [
      | true ↦ refl
      | false ↦ reference_stands h lawful.1 symbol
    ])
reference_stands (events.Name c snap body ∷ h) lawful symbol = reference_stands h lawful.1 symbol
reference_stands (events.Unname c snap ∷ h) lawful symbol = reference_stands h lawful.1 symbol
reference_stands (events.Drop c key ∷ h) lawful symbol =
    subst (λ b. cond b None (stored h (reference_key symbol)) ≡ option_map key_text (reference h symbol))
    (sym (no_reference key symbol (dead_is_put h key c (lawful_is_intact h lawful.1) lawful.0.1))) (reference_stands h lawful.1 symbol)

-- what stands under a snapshot's key spells the snapshot
pub snapshot_stands : (h : History) → IsLawful h → (snap : Name) → option_map (λ body. snap_of body) (stored h (snapshot_key snap)) ≡ option_map Ok (snap_body h snap)
snapshot_stands [] lawful snap = refl
snapshot_stands (events.Put c key body ∷ h) lawful snap =
    subst (λ b. option_map (λ body. snap_of body) (cond b (Some body) (stored h (snapshot_key snap))) ≡ option_map Ok (snap_body h snap))
    (sym (no_snapshot key snap (spelled_is_put key key.kind body lawful.0.1.spelled))) (snapshot_stands h lawful.1 snap)
snapshot_stands (events.Refer c t was entry list ∷ h) lawful snap = snapshot_stands h lawful.1 snap
snapshot_stands (events.Name c name body ∷ h) lawful snap =
    subst (λ b. option_map (λ body. snap_of body) (cond b (Some body) (stored h (snapshot_key snap))) ≡ option_map Ok (cond (same_name name snap) (read_of (snap_of body)) (snap_body h snap)))
    (sym (same_snapshot name snap))
    (elim (same_name name snap) as (λ b. option_map (λ body. snap_of body) (cond b (Some body) (stored h (snapshot_key snap))) ≡ option_map Ok (cond b (read_of (snap_of body)) (snap_body h snap))) [
      | true ↦ ap Some lawful.0.1.spelled ∙ sym (ap (λ r. option_map Ok (read_of r)) lawful.0.1.spelled)
      | false ↦ snapshot_stands h lawful.1 snap
    ])
snapshot_stands (events.Unname c name ∷ h) lawful snap =
    subst (λ b. option_map (λ body. snap_of body) (cond b None (stored h (snapshot_key snap))) ≡ option_map Ok (cond (same_name name snap) None (snap_body h snap)))
    (sym (same_snapshot name snap))
    (elim (same_name name snap) as (λ b. option_map (λ body. snap_of body) (cond b None (stored h (snapshot_key snap))) ≡ option_map Ok (cond b None (snap_body h snap))) [
      | true ↦ refl
      | false ↦ snapshot_stands h lawful.1 snap
    ])
snapshot_stands (events.Drop c key ∷ h) lawful snap =
    subst (λ b. option_map (λ body. snap_of body) (cond b None (stored h (snapshot_key snap))) ≡ option_map Ok (snap_body h snap))
    (sym (no_snapshot key snap (dead_is_put h key c (lawful_is_intact h lawful.1) lawful.0.1))) (snapshot_stands h lawful.1 snap)

pub lawful_is_shown : (h : History) → IsLawful h → IsShown h
lawful_is_shown h lawful = record { references = reference_stands h lawful; snapshots = snapshot_stands h lawful }
