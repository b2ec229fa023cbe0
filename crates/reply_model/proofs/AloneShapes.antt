-- The shapes of a run behind a commit count the keys that are then stored.
use Rattle.std.proofs.Common.{◌≡◌, ℕ, suc, ◌+◌, ◌≤◌, Bool, true, false, List, [], ◌∷◌, ◌++◌, length, Option, Some, refl, sym, ◌∙◌, ap, subst, inl, inr, arith, cond, fold}
use Rattle.std.specs.Prelude.{◌&&◌, not, is_some}
use Rattle.std.proofs.lemmas.Bool.{true≢false, or_parts}
use Rattle.std.specs.List.{list_any, AllByRecursion, AllZip}
use Rattle.std.proofs.lemmas.List.Sums.{sum_by-append}
use Rattle.key_kind.specs.Names.{Name, same_name}
use Rattle.key_kind.specs.declared.key.Key.{Key}
use Rattle.key_kind.specs.declared.key.KeyKind.{KeyKind}
use Rattle.key_kind.specs.declared.key.KeyKind.TheVariants as kinds
use Rattle.key_kind.specs.Keys.{is_put, same_kind}
use Rattle.key_kind.proofs.KeyTests.{same_name_is, same_name_self}
use Rattle.bucket_core.specs.declared.event.Change.{Change}
use Rattle.bucket_core.specs.declared.event.Event.TheVariants as events
use Rattle.bucket_core.specs.History.{History, stored, body_put}
use Rattle.store_model.specs.Library.{State, Version, state_of, first_of, number_after, next_number, after_change, after_changes}
use Rattle.store_model.specs.declared.chain.LinkRow.{LinkRow}
use Rattle.store_model.specs.Links.{Linked, links, links_of, links_in, links_at}
use Rattle.store_model.specs.Commits.{FitsLink, is_version, IsCommit, making, marking, marks_of, MayChange}
use Rattle.store_model.proofs.Linking.{MakesNone, marks_make_none, refer_makes}
use Rattle.store_model.proofs.Referring.{linked_row}
use Rattle.store_model.specs.Law.{IsLawful}
use Rattle.store_model.proofs.Lawful.{lawful_is_intact, beginning_lawful}
use Rattle.store_model.proofs.Plainly.{is_commit}
use Rattle.reply_model.specs.Rows.{keys_of}
use Rattle.reply_model.specs.Blocks.{Cutting, Block, made_for, blocks_made, with_version, shape_after}
use Rattle.reply_model.specs.Keyed.{HasKeys}
use Rattle.reply_model.specs.Sole.{Alone, committing}
use Rattle.reply_model.specs.Standing.{row_sizes, IsCutBy, HasBlocks, HasShape, StandsAs}
use Rattle.reply_model.proofs.Makings.{numbers_kept, AreMade, made_later, MakesVersion, Makes}
use Rattle.reply_model.proofs.StoredCounts.{keys_behind_refer, reference_behind}
use Rattle.reply_model.proofs.TryCounts.{is_no_put, keys_behind_puts, PutsVersion, PutsKeys}
use Rattle.reply_model.proofs.KeyedShapes.{keys_stay, counted_keys}
use Rattle.reply_model.proofs.NewKeys.{stored_behind_commit, keys_of_version_behind}
use Rattle.reply_model.proofs.AloneWindows.{IsKept}

-- ---- links

-- puts make no links
links_kept : (symbol : Name) (es old : History) → list_any is_no_put es ≡ false → links (es ++ old) symbol ≡ links old symbol
links_kept symbol [] old none = refl
links_kept symbol (events.Put c key body ∷ es) old none = links_kept symbol es old (or_parts (not (is_put key.kind)) (list_any is_no_put es) none).1
links_kept symbol (events.Refer c s was entry list ∷ es) old none = absurd (true≢false none)
links_kept symbol (events.Name c snap body ∷ es) old none = absurd (true≢false none)
links_kept symbol (events.Unname c snap ∷ es) old none = absurd (true≢false none)
links_kept symbol (events.Drop c key ∷ es) old none = absurd (true≢false none)

-- one change that is a mark makes no link
mark_makes_none : (h : History) (client : ℕ) (symbol : Name) (row : LinkRow) (first : Change) (rest : List Change) → is_version first ≡ false → IsCommit (first ∷ rest) → MakesNone h row (state_of h symbol) (first ∷ rest)
mark_makes_none h client symbol row first rest mark (making c version buries) = absurd (true≢false (sym version ∙ mark))
mark_makes_none h client symbol row first rest mark (marking c other) = marks_make_none h row (state_of h symbol) first mark

same_some : (a b : Linked) → Some a ≡ Some b → a ≡ b
same_some a b e = cc

module _ (c : Cutting) (client : ℕ) (symbol : Name) (makes : Bool) (old behind : History) (was : Option Key) (entry : Key) (first : Change) (rest : List Change) (r : Alone) (stands : StandsAs c old r)
    (kept : IsKept client old (behind ++ old)) (puts : PutsKeys symbol makes entry behind) (lawful : IsLawful (events.Refer client symbol was entry (first ∷ rest) ∷ (behind ++ old))) where
  abbrev before : History
  before = behind ++ old

  abbrev new : History
  new = events.Refer client symbol was entry (first ∷ rest) ∷ (behind ++ old)

  lawful_old : IsLawful old
  lawful_old = beginning_lawful behind old lawful.1

  -- what was put before stands as before
  stands_behind : (key : Key) → is_some (body_put old key) ≡ true → is_some (stored new key) ≡ is_some (stored old key)
  stands_behind key put = stored_behind_commit client puts.client symbol old behind was entry (first ∷ rest) puts.list key puts.is lawful_old lawful.1 put

  -- the keys of a kind other than references
  keys_are : (other : Name) (kind : KeyKind) → same_kind kinds.VersionRef kind ≡ false
      → keys_of new other kind ≡ cond (same_kind kinds.TableData kind && same_name symbol other) puts.tiles 0 + cond (same_kind kinds.TableIndex kind && same_name symbol other) puts.indexes 0
      + cond (same_kind kinds.Version kind && same_name symbol other) 1 0 + keys_of old other kind
  keys_are other kind plain = omega (
    arith,
    keys_behind_refer before client symbol was entry (first ∷ rest) other kind (ap (λ b. b && same_name symbol other) plain),
    keys_behind_puts other kind behind old puts.none (lawful_is_intact new lawful).once,
    puts.counted other kind,
  )

  -- the references of a symbol just before
  references_before : (other : Name) → keys_of before other kinds.VersionRef ≡ cond (state_of before other).has_reference 1 0
  references_before other = omega (arith, keys_behind_puts other kinds.VersionRef behind old puts.none (lawful_is_intact new lawful).once, puts.counted other kinds.VersionRef)
      ∙ ((stands.shapes other).references ∙ ap (λ (st : State). cond st.has_reference 1 0) (sym (kept.states other)))

  -- another symbol keeps its links
  other_links : (other : Name) → same_name symbol other ≡ false → links new other ≡ links old other
  other_links other differs = ap (λ b. cond b (links_at before entry ++ links before other) (links before other)) differs ∙ links_kept other behind old puts.none

  -- another symbol keeps its shape
  other_shape : (other : Name) → same_name symbol other ≡ false → HasShape new other (r.shape other)
  other_shape other differs =
      let was_shape = stands.shapes other in
      let none : (n : ℕ) → cond {A = ℕ} (same_name symbol other) n 0 ≡ 0 = λ n. ap (λ b. cond b n 0) differs in
      let same : state_of new other ≡ state_of old other = ap (λ b. cond b (after_changes (state_of before other) (first ∷ rest)) (state_of before other)) differs ∙ kept.states other in
      record {
        tiles = omega (arith, keys_are other kinds.TableData refl, none puts.tiles, was_shape.tiles);
        indexes = omega (arith, keys_are other kinds.TableIndex refl, none puts.indexes, was_shape.indexes);
        elements = omega (arith, keys_are other kinds.Version refl, none 1, was_shape.elements);
        references = keys_behind_refer before client symbol was entry (first ∷ rest) other kinds.VersionRef differs
            ∙ (references_before other ∙ ap (λ (st : State). cond st.has_reference 1 0) (kept.states other ∙ sym same));
        pieces = omega (arith, keys_are other kinds.Staged refl, was_shape.pieces);
        made = subst (λ (st : State). AllByRecursion (λ (x : ℕ × List Block). AreMade (next_number st) x.1) (r.shape other).versions) (sym same) was_shape.made;
        versions = subst (λ (ls : List Linked). AllZip HasBlocks ls (r.shape other).versions) (sym (other_links other differs)) was_shape.versions;
        keys = keys_stay old new other (r.shape other) lawful_old was_shape.keys (other_links other differs) (λ key name put. stands_behind key put);
      }

  -- what is told of the symbol behind the commit
  state_behind : state_of new symbol ≡ after_changes (r.library.state symbol) (first ∷ rest)
  state_behind = ap (λ b. cond b (after_changes (state_of before symbol) (first ∷ rest)) (state_of before symbol)) (same_name_self symbol)
      ∙ ap (λ (st : State). after_changes st (first ∷ rest)) (kept.states symbol ∙ sym (stands.states symbol))

  versions_made : AllByRecursion (λ (x : ℕ × List Block). AreMade (next_number (after_changes (r.library.state symbol) (first ∷ rest))) x.1) (r.shape symbol).versions
  versions_made = made_later (next_number (state_of old symbol)) (next_number (after_changes (r.library.state symbol) (first ∷ rest)))
      (subst (λ (st : State). next_number st ≤ next_number (after_changes (r.library.state symbol) (first ∷ rest))) (stands.states symbol) (numbers_kept (r.library.state symbol) (first ∷ rest)))
      (r.shape symbol).versions (stands.shapes symbol).made

  -- its links
  abbrev may : MayChange before client symbol was entry (first ∷ rest)
  may = is_commit before client symbol was entry (first ∷ rest) lawful.0.1

  links_behind : links new symbol ≡ links_in before (marks_of may.row (first ∷ rest)) ++ links old symbol
  links_behind = ap (λ b. cond b (links_at before entry ++ links before symbol) (links before symbol)) (same_name_self symbol)
      ∙ (ap (λ ls. ls ++ links before symbol) (ap (links_of before) may.spelled) ∙ ap (λ ls. links_in before (marks_of may.row (first ∷ rest)) ++ ls) (links_kept symbol behind old puts.none))

  -- the version that is made is that of the newest link
  links_made : (x : MakesVersion c (r.library.state symbol) (r.shape symbol) (links old symbol) (first_of (links new symbol)) puts.tiles first rest)
      → (links new symbol ≡ x.link ∷ links old symbol) × (x.link.row.version ≡ next_number (r.library.state symbol)) × (v : Version) × (fits : FitsLink before client symbol may.row v) × (fits.link ≡ x.link)
  links_made x = elim (refer_makes before client symbol may.row (first ∷ rest) may.form may.fits) [
    | inl none ↦
        let same : next_number (fold after_change (state_of before symbol) (first ∷ rest)) ≡ next_number (state_of before symbol) = ap number_after none.versions in
        let here : r.library.state symbol ≡ state_of before symbol = stands.states symbol ∙ sym (kept.states symbol) in
        absurd (omega (arith, same, subst (λ (st : State). suc (next_number st) ≤ next_number (after_changes st (first ∷ rest))) here x.more))
    | inr one ↦
        let list_is : links new symbol ≡ one.fits.link ∷ links old symbol = links_behind ∙ ap (λ ls. ls ++ links old symbol) one.links in
        let link_is : one.fits.link ≡ x.link = same_some one.fits.link x.link (sym (ap (λ (ls : List Linked). first_of ls) list_is) ∙ x.link_is) in
        let number : one.fits.link.row.version ≡ next_number (r.library.state symbol) =
        ap (λ (l : LinkRow). l.version) (linked_row before may.row one.fits.link one.fits.link_is)
        ∙ (one.fits.number ∙ (one.number ∙ ap (λ (st : State). next_number st) (kept.states symbol ∙ sym (stands.states symbol)))) in
        (list_is ∙ ap (λ l. l ∷ links old symbol) link_is, ap (λ (l : Linked). l.row.version) (sym link_is) ∙ number, one.made, one.fits, link_is)
  ]

  versions_behind : (x : MakesVersion c (r.library.state symbol) (r.shape symbol) (links old symbol) (first_of (links new symbol)) puts.tiles first rest)
      → AllZip HasBlocks (links new symbol) ((next_number (r.library.state symbol), x.blocks) ∷ (r.shape symbol).versions)
  versions_behind x =
      let made = links_made x in
      subst (λ (ls : List Linked). AllZip HasBlocks ls ((next_number (r.library.state symbol), x.blocks) ∷ (r.shape symbol).versions)) (sym made.0) ((made.1, x.rows), (stands.shapes symbol).versions)

  -- and a mark makes none
  links_stay : is_version first ≡ false → links new symbol ≡ links old symbol
  links_stay mark = let none = mark_makes_none before client symbol may.row first rest mark may.form in links_behind ∙ ap (λ ls. ls ++ links old symbol) none.links

  versions_stay : is_version first ≡ false → AllZip HasBlocks (links new symbol) (r.shape symbol).versions
  versions_stay mark = subst (λ (ls : List Linked). AllZip HasBlocks ls (r.shape symbol).versions) (sym (links_stay mark)) (stands.shapes symbol).versions

  all_own : (n : ℕ) → cond {A = ℕ} (same_name symbol symbol) n 0 ≡ n
  all_own n = ap (λ b. cond b n 0) (same_name_self symbol)

  referred_behind : keys_of new symbol kinds.VersionRef ≡ cond (state_of new symbol).has_reference 1 0
  referred_behind = reference_behind before client symbol was entry (first ∷ rest) lawful.1 (references_before symbol) ∙ ap (λ (st : State). cond st.has_reference 1 0) (sym state_behind)

  elements_behind : keys_of new symbol kinds.Version ≡ suc (r.shape symbol).elements
  elements_behind = omega (arith, keys_are symbol kinds.Version refl, all_own 1, (stands.shapes symbol).elements)

  pieces_behind : keys_of new symbol kinds.Staged ≡ length (r.shape symbol).pieces
  pieces_behind = omega (arith, keys_are symbol kinds.Staged refl, (stands.shapes symbol).pieces)

  -- the keys behind a version
  version_keys : PutsVersion entry puts.tiles puts.list → (x : MakesVersion c (r.library.state symbol) (r.shape symbol) (links old symbol) (first_of (links new symbol)) puts.tiles first rest)
      → HasKeys new symbol (record (r.shape symbol) {
        versions = (next_number (r.library.state symbol), x.blocks) ∷ (r.shape symbol).versions;
        indexes = next_number (r.library.state symbol) ∷ (r.shape symbol).indexes;
        blocks = made_for (next_number (r.library.state symbol)) x.blocks ++ (r.shape symbol).blocks;
        elements = suc (r.shape symbol).elements;
      })
  version_keys table x =
      let links_of_x = links_made x in
      subst (λ (st : State). (y : MakesVersion c st (r.shape symbol) (links old symbol) (first_of (links new symbol)) puts.tiles first rest)
      → links new symbol ≡ y.link ∷ links old symbol → y.link.row.version ≡ next_number st → (v : Version) → (fits : FitsLink before client symbol may.row v) → fits.link ≡ y.link
      → HasKeys new symbol (record (r.shape symbol) {
        versions = (next_number st, y.blocks) ∷ (r.shape symbol).versions;
        indexes = next_number st ∷ (r.shape symbol).indexes;
        blocks = made_for (next_number st) y.blocks ++ (r.shape symbol).blocks;
        elements = suc (r.shape symbol).elements;
      })) (sym (stands.states symbol))
      (λ y are number v fits link_is. keys_of_version_behind c client puts.client symbol old behind was entry first rest (r.shape symbol) (stands.shapes symbol) puts.tiles puts.list puts.is table lawful y v fits link_is
      (links_kept symbol behind old puts.none) are number) x links_of_x.0 links_of_x.1 links_of_x.2 links_of_x.3 links_of_x.4

  -- the symbol's own shape, by what was made
  own_shape : (m : Bool) → m ≡ makes → Makes c (r.library.state symbol) (r.shape symbol) m (links old symbol) (first_of (links new symbol)) puts.tiles first rest
      → HasShape new symbol (record (with_version (blocks_made c (r.library.state symbol) (r.shape symbol) first) (r.shape symbol)) { elements = suc (r.shape symbol).elements })
  own_shape true e made = subst (λ o. HasShape new symbol (record (with_version o (r.shape symbol)) { elements = suc (r.shape symbol).elements })) (sym made.is) (record {
    tiles = omega (
      arith,
      keys_are symbol kinds.TableData refl,
      all_own puts.tiles,
      (stands.shapes symbol).tiles,
      made.counted,
      sum_by-append (λ (b : Block). b.tiles) (made_for (next_number (r.library.state symbol)) made.blocks) (r.shape symbol).blocks,
    );
    indexes = omega (arith, keys_are symbol kinds.TableIndex refl, all_own puts.indexes, puts.with_index (sym e), (stands.shapes symbol).indexes);
    elements = elements_behind;
    references = referred_behind;
    pieces = pieces_behind;
    made = subst (λ (st : State). AllByRecursion (λ (x : ℕ × List Block). AreMade (next_number st) x.1) ((next_number (r.library.state symbol), made.blocks) ∷ (r.shape symbol).versions)) (sym state_behind)
        (made.made, versions_made);
    versions = versions_behind made;
    keys = version_keys (puts.version (sym e)) made;
  })
  own_shape false e made = subst (λ o. HasShape new symbol (record (with_version o (r.shape symbol)) { elements = suc (r.shape symbol).elements })) (sym made.is) (record {
    tiles = omega (arith, keys_are symbol kinds.TableData refl, all_own puts.tiles, (stands.shapes symbol).tiles, (puts.without (sym e)).0);
    indexes = omega (arith, keys_are symbol kinds.TableIndex refl, all_own puts.indexes, (puts.without (sym e)).1, (stands.shapes symbol).indexes);
    elements = elements_behind;
    references = referred_behind;
    pieces = pieces_behind;
    made = subst (λ (st : State). AllByRecursion (λ (x : ℕ × List Block). AreMade (next_number st) x.1) (r.shape symbol).versions) (sym state_behind) versions_made;
    versions = versions_stay made.mark;
    keys = counted_keys new symbol (r.shape symbol) (suc (r.shape symbol).elements)
        (keys_stay old new symbol (r.shape symbol) lawful_old (stands.shapes symbol).keys (links_stay made.mark) (λ key name put. stands_behind key put));
  })

  -- each symbol's shape
  pub shapes_behind : Makes c (r.library.state symbol) (r.shape symbol) makes (links old symbol) (first_of (links new symbol)) puts.tiles first rest → (other : Name) → HasShape new other ((committing c symbol (first ∷ rest) r).shape other)
  shapes_behind made other =
      elim (same_name symbol other) as (λ b. same_name symbol other ≡ b → HasShape new other (cond b (shape_after c (r.library.state symbol) (r.shape symbol) (first ∷ rest)) (r.shape other))) [
        | true ↦ λ e. subst (λ n. HasShape new n (shape_after c (r.library.state symbol) (r.shape symbol) (first ∷ rest))) (same_name_is symbol other e) (own_shape makes refl made)
        | false ↦ λ e. other_shape other e
      ] refl

  -- all versions are cut as before
  abbrev AreCut : List Linked → Type 0
  AreCut ls = AllByRecursion (λ (l : Linked). AllByRecursion (λ n. n ≤ c.rows) (row_sizes l.index.slots)) ls

  own_cut : (m : Bool) → Makes c (r.library.state symbol) (r.shape symbol) m (links old symbol) (first_of (links new symbol)) puts.tiles first rest → AreCut (links new symbol)
  own_cut true made = subst AreCut (sym (links_made made).0) (made.within, stands.cut symbol)
  own_cut false made = subst AreCut (sym (links_stay made.mark)) (stands.cut symbol)

  pub cut_behind : Makes c (r.library.state symbol) (r.shape symbol) makes (links old symbol) (first_of (links new symbol)) puts.tiles first rest → IsCutBy c new
  cut_behind made other =
      elim (same_name symbol other) as (λ b. same_name symbol other ≡ b → AreCut (links new other)) [
        | true ↦ λ e. subst (λ n. AreCut (links new n)) (same_name_is symbol other e) (own_cut makes made)
        | false ↦ λ e. subst AreCut (sym (other_links other e)) (stands.cut other)
      ] refl
