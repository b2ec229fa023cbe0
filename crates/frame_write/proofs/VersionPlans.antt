-- The plan of a version in pieces: its puts are such as a try makes, and once they stand its Refer may follow.
use Rattle.std.proofs.Common.{Bool, ◌≡◌, ℕ, suc, ◌+◌, ◌<◌, ◌≤◌, ◌^◌, ℤ, false, true, List, [], ◌∷◌, ◌++◌, length, map, refl, ap, sym, ◌∙◌, subst, arith, inl, inr, Option, Some, None, Result, Ok, Err, append_assoc, length-append}
use Rattle.std.specs.Prelude.{◌⊎◌, is_some, IsOk, IfOk, FitsSigned, filter}
use Rattle.std.specs.Int.{w64}
use Rattle.std.specs.Arc.{arc_value}
use Rattle.std.specs.List.{AllByRecursion, list_any}
use Rattle.byte_fields.specs.Reading.{read_of}
use Rattle.frame_core.specs.Frames.{Frame}
use Rattle.frame_core.specs.Schemas.{Schema}
use Rattle.frame_core.specs.Limits.{IsStorable}
use Rattle.segment_bytes.specs.Segments.{segment_of}
use Rattle.segment_cut.specs.Cuttings.{Cutting}
use Rattle.segment_cut.specs.Tiles.{Tiled, cut}
use Rattle.index_tree.specs.declared.index.Slot.{Slot}
use Rattle.index_tree.specs.IndexText.{index_of}
use Rattle.index_tree.specs.IndexRules.{IsSlot, Cover, IsIndex}
use Rattle.key_kind.specs.declared.key.KeyKind.TheVariants as kinds
use Rattle.key_kind.specs.declared.key.Key.{Key}
use Rattle.key_kind.specs.Names.{Name}
use Rattle.key_kind.specs.Keys.{IsKey, same_key}
use Rattle.bucket_core.specs.declared.event.Change.{Change}
use Rattle.bucket_core.specs.declared.event.Change.TheVariants as changes
use Rattle.bucket_core.specs.History.{History, Bytes, body_put, puts_by, reference}
use Rattle.bucket_core.specs.Laws.{refers}
use Rattle.store_model.specs.declared.chain.LinkRow.{LinkRow}
use Rattle.store_model.specs.declared.chain.ChainMark.{ChainMark}
use Rattle.store_model.specs.declared.chain.ChainMark.TheVariants as marks
use Rattle.store_model.specs.ChainText.{entry_of}
use Rattle.store_model.specs.Library.{State, Version, state_of, new_version, next_number}
use Rattle.store_model.specs.Links.{frame_put}
use Rattle.store_model.specs.Commits.{MayRefer, MayNameKey, HasFrameStamps, HasSlotStamps, is_version, marks_of}
use Rattle.store_model.specs.Law.{IsLawful}
use Rattle.store_model.specs.OwnPuts.{IsOwnPut, AreOwnPuts, IsPutEntry, BuriesLive}
use Rattle.store_model.proofs.Untouched.{as_it_was}
use Rattle.version_chain.specs.declared.tip.ChainTip.{ChainTip}
use Rattle.version_chain.specs.Marking.{element_key}
use Rattle.reply_model.specs.Answering.{removed, pruned}
use Rattle.reply_model.specs.Tries.{IsTry, Before, of_version, IsKeyOf, keys_of_puts}
use Rattle.frame_write.specs.declared.laying.Layout.{Layout}
use Rattle.frame_write.specs.declared.options.Options.{Options}
use Rattle.frame_write.specs.declared.pieces.LinkPlan.{LinkPlan}
use Rattle.frame_write.specs.declared.pieces.Piece.{Piece}
use Rattle.frame_write.specs.declared.plan.Plan.{Plan}
use Rattle.frame_write.specs.Links.{FitsPlan}
use Rattle.frame_write.specs.Pieces.{ArePieces, HasBase, laid}
use Rattle.frame_write.specs.Plans.{ArePutsFrom, puts_seen}
use Rattle.frame_write.specs.Laying.{Laid, slots_laid, puts_laid, laid_pieces, tiles_in, rows_in, MayLay}
use Rattle.frame_write.specs.Layouts.{IsLaid}
use Rattle.frame_write.specs.SlotKeys.{first_of, last_of, slots_key}
use Rattle.frame_write.specs.Versions.{row_of, index_with, IsVersionPlan, MayPlan, IsPlanOf}
use Rattle.frame_write.proofs.PlanLemmas.{FitsTry, ok_is_ok, marks_are, pruned_is, buries_pruned, buries_staging}
use Rattle.frame_write.proofs.Stretches.{IsLaidSlot, AreStretches, stretches_slots}
use Rattle.frame_write.proofs.BaseTold.{IsSharedIn, base_later}
use Rattle.frame_write.proofs.LaidPieces.{pieces_may_lay, pieces_rows, pieces_laid, laid_index, laid_tiled}
use Rattle.frame_write.proofs.CutLimits.{frame_within}
use Rattle.frame_write.proofs.IndexStamps.{slots_have_stamps}
use Rattle.frame_write.proofs.LaidPuts.{puts_counted, pieces_of_symbol, pieces_of_version, pieces_from, slots_are_laid}
use Rattle.frame_write.proofs.ApartKeys.{IsApart, put_apart, new_keys}
use Rattle.frame_write.proofs.VersionRefers.{makes_version, read_put, tiles_at, IsLinkIn, link_fits, version_may_follow, staged_version}

-- what follows from a fact of an Ok holds of it too
pub if_ok_weaker : {T E : Type 0} (P Q : T → Type 0) (r : Result T E) → ((t : T) → P t → Q t) → IfOk r P → IfOk r Q
if_ok_weaker P Q (Ok t) f p = f t p
if_ok_weaker P Q (Err e) f p = tt

-- ---- the version

some_number : (x v : Version) → Some x ≡ Some v → v.number ≡ x.number
some_number x v e = let same : x ≡ v = cc in sym (ap (λ (w : Version). w.number) same)

version_number : (st : State) (c : Change) (v : Version) → new_version st c ≡ Some v → v.number ≡ next_number st
version_number st (changes.Wrote frame at) v e = some_number _ v e
version_number st (changes.Appended frame at) v e = some_number _ v e
version_number st (changes.Updated frame range at) v e = some_number _ v e
version_number st (changes.Removed versions) v e = absurd cc
version_number st (changes.Held holder version) v e = absurd cc
version_number st (changes.Released holder) v e = absurd cc
version_number st (changes.Discarded pieces) v e = absurd cc
version_number st changes.Restated v e = absurd cc

marks_made : (st : State) (c : Change) (v : Version) (row : LinkRow) (numbers : List ℕ) → new_version st c ≡ Some v → marks.Link row ∷ map marks.Tomb numbers ≡ marks_of row (c ∷ removed numbers)
marks_made st (changes.Wrote frame at) v row numbers e = marks_are row frame at numbers
marks_made st (changes.Appended frame at) v row numbers e = marks_are row frame at numbers
marks_made st (changes.Updated frame range at) v row numbers e = marks_are row frame at numbers
marks_made st (changes.Removed versions) v row numbers e = absurd cc
marks_made st (changes.Held holder version) v row numbers e = absurd cc
marks_made st (changes.Released holder) v row numbers e = absurd cc
marks_made st (changes.Discarded pieces) v row numbers e = absurd cc
marks_made st changes.Restated v row numbers e = absurd cc

-- ---- the index's key

first_fits : (columns : ℕ) (slots : List Slot) → AllByRecursion (IsSlot columns) slots → FitsSigned w64 (first_of slots)
first_fits columns [] each = search arith
first_fits columns (s ∷ more) each = subst (FitsSigned w64) each.0.first each.0.fields.first

last_fits : (columns : ℕ) (slots : List Slot) → AllByRecursion (IsSlot columns) slots → FitsSigned w64 (last_of slots)
last_fits columns [] each = search arith
last_fits columns (s ∷ []) each = subst (FitsSigned w64) each.0.last each.0.fields.last
last_fits columns (s ∷ t ∷ more) each = last_fits columns (t ∷ more) each.1

-- ---- lists of puts

from_front : (client n : ℕ) (xs ys : List (Key × Bytes)) → ArePutsFrom client n (xs ++ ys) → ArePutsFrom client n xs
from_front client n [] ys from = tt
from_front client n (x ∷ xs) ys from = (from.0, from_front client (suc n) xs ys from.1)

own_split : (h : History) (client : ℕ) (xs ys : List (Key × Bytes)) → AreOwnPuts h client (xs ++ ys) → AreOwnPuts h client xs × AreOwnPuts h client ys
own_split h client [] ys own = (tt, own)
own_split h client (x ∷ xs) ys own = let rest = own_split h client xs ys own.1 in ((own.0, rest.0), rest.1)

-- ---- once they stand

-- each slot's tile stands, and its key may be named
frames_stand : (h : History) (client : ℕ) (symbol : Name) (f : Frame) (xs : List Laid) → AllByRecursion (IsLaidSlot (IsSharedIn h client symbol) f) xs → AreOwnPuts h client (puts_laid xs)
    → AllByRecursion (λ (s : Slot). frame_put h s.key ≡ Some (cut f s.part)) (slots_laid xs)
frames_stand h client symbol f [] each own = tt
frames_stand h client symbol f ((s, None) ∷ xs) each own = (each.0.holds.put, frames_stand h client symbol f xs each.1 own)
frames_stand h client symbol f ((s, Some body) ∷ xs) each own = (
  read_put (λ b. read_of (segment_of b)) (body_put h s.key) body (cut f s.part) own.0.put (ap read_of each.0.holds),
  frames_stand h client symbol f xs each.1 own.1,
)

may_be_named : (h : History) (client version : ℕ) (symbol : Name) (f : Frame) (xs : List Laid) → AllByRecursion (IsLaidSlot (IsSharedIn h client symbol) f) xs → AreOwnPuts h client (puts_laid xs)
    → AllByRecursion (λ (p : Key × Bytes). IsKeyOf kinds.TableData symbol p.0) (puts_laid xs) → AllByRecursion (λ (p : Key × Bytes). p.0.version ≡ version) (puts_laid xs)
    → AllByRecursion (λ (s : Slot). MayNameKey h client version symbol s.key) (slots_laid xs)
may_be_named h client version symbol f [] each own named made = tt
may_be_named h client version symbol f ((s, None) ∷ xs) each own named made = (each.0.holds.may_name version, may_be_named h client version symbol f xs each.1 own named made)
may_be_named h client version symbol f ((s, Some body) ∷ xs) each own named made = (
  record {
    kind = named.0.0;
    name = named.0.1;
    stands = ap is_some own.0.stands;
    fresh_or_shared = inl (record { own = own.0.unlinked.own; made_for = made.0; unreached = own.0.unlinked.unreached });
  },
  may_be_named h client version symbol f xs each.1 own.1 named.1 made.1,
)

stamps_in : (Shares : Frame → Key → Type 0) (f : Frame) (xs : List Laid) → AllByRecursion (IsLaidSlot Shares f) xs → AllByRecursion (HasSlotStamps f) (slots_laid xs)
stamps_in Shares f [] each = tt
stamps_in Shares f (x ∷ xs) each = (each.0.stamps, stamps_in Shares f xs each.1)

-- the shared keys are apart from the new ones
shared_apart : (h : History) → ∥ IsLawful h ∥₁ → (client n : ℕ) (symbol : Name) (f : Frame) (puts : List (Key × Bytes)) → ArePutsFrom client n puts → puts_by client h ≤ n
    → (xs : List Laid) → AllByRecursion (IsLaidSlot (IsSharedIn h client symbol) f) xs → AllByRecursion (IsApart (keys_of_puts puts)) xs
shared_apart h lawful client n symbol f puts from le [] each = tt
shared_apart h lawful client n symbol f puts from le ((s, None) ∷ xs) each = (put_apart h lawful client n s.key (cut f s.part) puts from le each.0.holds.put, shared_apart h lawful client n symbol f puts from le xs each.1)
shared_apart h lawful client n symbol f puts from le ((s, Some body) ∷ xs) each = (tt, shared_apart h lawful client n symbol f puts from le xs each.1)

-- ---- the pieces, before they are laid out

module _ (before : History) (lawful : ∥ IsLawful before ∥₁) (symbol : Name) (at : ℤ) (link : LinkPlan) (fit : FitsPlan before symbol at link) where
  -- each piece may be laid out
  pub may_lay : AllByRecursion MayLay link.pieces
  may_lay = pieces_may_lay before lawful symbol fit.version.frame fit.pieces.rows fit.pieces.slots fit.pieces.base link.pieces fit.pieces.each

  -- their rows are few
  pub few_rows : rows_in link.pieces ≤ 2000000
  few_rows =
      let rows = pieces_rows before lawful symbol fit.version.frame fit.pieces.rows fit.pieces.slots fit.pieces.base link.pieces fit.pieces.each in
      let held = ap length fit.pieces.held in
      omega (arith, rows, held, (frame_within fit.version.frame fit.storable.within).rows_are)

  -- the change makes a version
  pub is_made : is_version link.change ≡ true
  is_made = makes_version (state_of before symbol) link.change fit.version fit.makes

-- ---- the pieces, as they are laid out

-- what is known before the puts: the version's frame in pieces, and how they are laid out
pub record IsReady (client serial : ℕ) (symbol : Name) (version : ℕ) (before : History) (v : Version) (cutting : Cutting) (list : List Piece) (layout : Layout) : Type 0 where
  pub fits : FitsTry client symbol version
  pub lawful : ∥ IsLawful before ∥₁
  pub serial_is : puts_by client before ≤ serial
  pub storable : IsStorable v.frame
  pub pieces : ArePieces before symbol v.frame list
  pub laid : IsLaid client symbol version cutting serial list layout

module _ (client serial : ℕ) (symbol : Name) (version : ℕ) (before : History) (v : Version) (cutting : Cutting) (list : List Piece) (layout : Layout) (r : IsReady client serial symbol version before v cutting list layout) where
  abbrev xs : List Laid
  xs = laid_pieces client symbol version 0 serial list r.laid.tiles

  below : serial + tiles_in r.laid.tiles < 2 ^ 64
  below = omega (arith, r.laid.fits, r.laid.next)

  base_in : (more : History) → list_any (refers symbol) more ≡ false → (r.pieces.slots ≡ []) ⊎ HasBase (more ++ before) symbol v.frame.schema r.pieces.rows r.pieces.slots
  base_in more e = elim r.pieces.base [ inl none ↦ inl none | inr b ↦ inr (base_later before more symbol v.frame.schema r.pieces.rows r.pieces.slots e b) ]

  -- the slots are the whole frame, at each place up to the next Refer of the symbol
  whole : (more : History) → list_any (refers symbol) more ≡ false → ∥ IsLawful (more ++ before) ∥₁ → AreStretches (IsSharedIn (more ++ before) client symbol) v.frame 0 xs × (0 + rows_in list ≡ length v.frame.rows)
  whole more e l = pieces_laid (more ++ before) l client symbol version cutting v.frame r.pieces.rows r.pieces.slots (base_in more e) r.fits list r.laid.tiles 0 serial r.pieces.each r.laid.tiled below (omega arith) r.pieces.held

  here : AreStretches (IsSharedIn before client symbol) v.frame 0 xs × (0 + rows_in list ≡ length v.frame.rows)
  here = whole [] refl r.lawful

  -- the layout has the version's rows
  pub rows_are : layout.rows ≡ length v.frame.rows
  rows_are = omega (arith, r.laid.rows, here.1)

  -- its slots keep the rules of an index
  pub index_is : IsIndex (index_with v.frame.schema layout)
  index_is =
      subst (λ n. IsIndex (record { schema = v.frame.schema; rows = n; slots = layout.slots })) (sym rows_are)
      (subst (λ (ss : List Slot). IsIndex (record { schema = v.frame.schema; rows = length v.frame.rows; slots = ss })) (sym r.laid.slots) (laid_index (IsSharedIn before client symbol) v.frame xs r.storable here.0))

  abbrev index_at : Key
  index_at = slots_key client symbol version layout.next layout.slots

  abbrev entry_at : Key
  entry_at = element_key client symbol (suc layout.next)

  module _ (next_small : suc layout.next < 2 ^ 64) (index_body entry_body : Bytes) (index_spelled : index_of index_body ≡ Ok (index_with v.frame.schema layout)) where
    abbrev puts : List (Key × Bytes)
    puts = puts_laid xs ++ (index_at, index_body) ∷ (entry_at, entry_body) ∷ []

    index_key_is : IsKey index_at
    index_key_is = record { name = r.fits.is_name; made = λ e. cc; version = λ e. cc; stamps = λ e. cc }

    entry_key_is : IsKey entry_at
    entry_key_is = record { name = r.fits.is_name; made = λ e. cc; version = λ e. refl; stamps = λ e. (refl, refl) }

    pub puts_from : IsOk (entry_of entry_body) → ArePutsFrom client serial puts
    puts_from spelled = pieces_from client symbol version r.fits cutting list r.laid.tiles 0 serial ((index_at, index_body) ∷ (entry_at, entry_body) ∷ []) r.laid.tiled below (
      record {
        key_is = index_key_is;
        fits = record {
          client = r.fits.client_fits;
          serial = r.laid.fits;
          version = r.fits.version_fits;
          first = first_fits (length v.frame.schema.columns) layout.slots index_is.each;
          last = last_fits (length v.frame.schema.columns) layout.slots index_is.each;
        };
        own = refl;
        serial_is = r.laid.next;
        table = refl;
        spelled = ok_is_ok (index_of index_body) _ index_spelled;
      },
      (
        record {
          key_is = entry_key_is;
          fits = record { client = r.fits.client_fits; serial = next_small; version = search arith; first = search arith; last = search arith };
          own = refl;
          serial_is = ap suc r.laid.next;
          table = refl;
          spelled = spelled;
        },
        tt,
      ),
    )

    pub try_is : (row : LinkRow) (prev : Option Key) (others : List ChainMark) → row.index ≡ index_at → entry_of entry_body ≡ Ok (record { prev = prev; changes = marks.Link row ∷ others }) → IsTry symbol true puts entry_at
    try_is row prev others is spelled = record {
      first = puts_laid xs ++ (index_at, index_body) ∷ [];
      body = entry_body;
      element = record { prev = prev; changes = marks.Link row ∷ others };
      is = sym (append_assoc (puts_laid xs) ((index_at, index_body) ∷ []) ((entry_at, entry_body) ∷ []));
      entry_is = (refl, refl);
      spelled = spelled;
      before = subst (λ k. Before symbol (Some k) (puts_laid xs ++ (index_at, index_body) ∷ [])) (sym is)
          (of_version (puts_laid xs) index_at index_body (index_with v.frame.schema layout) (refl, refl) (pieces_of_symbol client symbol version list r.laid.tiles 0 serial) index_spelled new);
      of_kind = refl;
    }
      where
        from : ArePutsFrom client serial (puts_laid xs)
        from = from_front client serial (puts_laid xs) ((index_at, index_body) ∷ (entry_at, entry_body) ∷ []) (puts_from (ok_is_ok (entry_of entry_body) _ spelled))

        new : keys_of_puts (puts_laid xs) ≡ filter (λ k. list_any (same_key k) (keys_of_puts (puts_laid xs))) (map (λ (s : Slot). s.key) layout.slots)
        new =
            new_keys xs (shared_apart before r.lawful client serial symbol v.frame (puts_laid xs) from r.serial_is xs (stretches_slots (IsSharedIn before client symbol) v.frame 0 xs here.0))
            ∙ ap (λ (ss : List Slot). filter (λ k. list_any (same_key k) (keys_of_puts (puts_laid xs))) (map (λ (s : Slot). s.key) ss)) (sym r.laid.slots)

    -- once all stand, the link and the element are there
    pub link_in : (more : History) → list_any (refers symbol) more ≡ false → ∥ IsLawful (more ++ before) ∥₁ → AreOwnPuts (more ++ before) client puts → (row : LinkRow) → row.version ≡ version → row.index ≡ index_at → IsLinkIn (more ++ before) client symbol v.frame row
    link_in more e l own row number is =
        let all = (whole more e l).0 in
        let each = stretches_slots (IsSharedIn (more ++ before) client symbol) v.frame 0 xs all in
        let parts = own_split (more ++ before) client (puts_laid xs) ((index_at, index_body) ∷ (entry_at, entry_body) ∷ []) own in
        let stamps = subst (AllByRecursion (HasSlotStamps v.frame)) (sym r.laid.slots) (stamps_in (IsSharedIn (more ++ before) client symbol) v.frame xs each) in
        record {
          kind = ap (λ (k : Key). k.kind) is;
          name = ap (λ (k : Key). k.name) is;
          made_for = ap (λ (k : Key). k.version) is ∙ sym number;
          index_stamps = subst (HasFrameStamps v.frame) (sym is) (slots_have_stamps v.frame (length v.frame.schema.columns) layout.slots index_is.each stamps
              (subst (λ n. Cover n (length v.frame.schema.columns) layout.slots) rows_are index_is.cover));
          body = index_body;
          own = subst (λ k. IsOwnPut (more ++ before) client k index_body) (sym is) parts.1.0;
          index = index_with v.frame.schema layout;
          spelled = index_spelled;
          schema = refl;
          index_rows = rows_are;
          puts = subst (AllByRecursion (λ (s : Slot). frame_put (more ++ before) s.key ≡ Some (cut v.frame s.part))) (sym r.laid.slots) (frames_stand (more ++ before) client symbol v.frame xs each parts.0);
          keys = subst (λ n. AllByRecursion (λ (s : Slot). MayNameKey (more ++ before) client n symbol s.key) layout.slots) (sym number)
              (subst (AllByRecursion (λ (s : Slot). MayNameKey (more ++ before) client version symbol s.key)) (sym r.laid.slots)
              (may_be_named (more ++ before) client version symbol v.frame xs each parts.0 (pieces_of_symbol client symbol version list r.laid.tiles 0 serial) (pieces_of_version client symbol version list r.laid.tiles 0 serial)));
          stamps = stamps;
          tiled = subst (λ (ss : List Slot). Tiled v.frame (tiles_at v.frame ss)) (sym r.laid.slots) (laid_tiled (IsSharedIn (more ++ before) client symbol) v.frame xs r.storable all);
        }

    pub entry_in : (h : History) (prev : Option Key) (list : List ChainMark) → entry_of entry_body ≡ Ok (record { prev = prev; changes = list }) → AreOwnPuts h client puts → IsPutEntry h client symbol entry_at (record { prev = prev; changes = list })
    entry_in h prev list spelled own =
        let parts = own_split h client (puts_laid xs) ((index_at, index_body) ∷ (entry_at, entry_body) ∷ []) own in
        record { kind = refl; name = refl; body = entry_body; own = parts.1.1.0; spelled = spelled }

-- the slots are an index with the plan's schema
pub link_index : (client serial : ℕ) (symbol : Name) (version : ℕ) (before : History) (prune : Bool) (tip : ChainTip) (at : ℤ) (link : LinkPlan) (cutting : Cutting) (layout : Layout) → FitsTry client symbol version
    → MayPlan client serial before symbol prune tip → (fit : FitsPlan before symbol at link) → IsLaid client symbol version cutting serial link.pieces layout → IsIndex (index_with link.schema layout)
link_index client serial symbol version before prune tip at link cutting layout fits may fit laid_is =
    subst (λ (schema : Schema). IsIndex (index_with schema layout)) (sym fit.schema)
    (index_is client serial symbol version before fit.version cutting link.pieces layout (record { fits = fits; lawful = may.lawful; serial_is = may.serial_is; storable = fit.storable; pieces = fit.pieces; laid = laid_is }))

-- ---- the plan

module _ (client serial : ℕ) (symbol : Name) (version : ℕ) (before : History) (tip : ChainTip) (link : LinkPlan) (options : Options) (layout : Layout) (plan : Plan)
    (client_fits : client < 2 ^ 32) (version_fits : version < 2 ^ 64) (version_is : version ≡ tip.next) (may : MayPlan client serial before symbol options.prune tip) (fit : FitsPlan before symbol options.at link)
    (laid_is : IsLaid client symbol version options.cutting serial link.pieces layout) (p : IsVersionPlan client version symbol tip layout link.schema link.change options plan) where
  abbrev ready : IsReady client serial symbol version before fit.version options.cutting link.pieces layout
  ready = record {
    fits = record { client_fits = client_fits; is_name = p.is_name; version_fits = version_fits };
    lawful = may.lawful;
    serial_is = may.serial_is;
    storable = fit.storable;
    pieces = fit.pieces;
    laid = laid_is;
  }

  abbrev row : LinkRow
  row = row_of client symbol version layout options

  spelled : index_of p.index ≡ Ok (index_with fit.version.frame.schema layout)
  spelled = p.index_spelled ∙ ap (λ s. Ok (index_with s layout)) fit.schema

  abbrev tiles_put : List (Key × Bytes)
  tiles_put = puts_laid (laid_pieces client symbol version 0 serial link.pieces laid_is.tiles)

  abbrev index_under : Key
  index_under = slots_key client symbol version layout.next layout.slots

  abbrev entry_under : Key
  entry_under = element_key client symbol (suc layout.next)

  puts_are : puts_seen plan.puts ≡ tiles_put ++ (index_under, p.index) ∷ (entry_under, p.element) ∷ []
  puts_are = p.puts ∙ ap (λ ps. ps ++ (index_under, p.index) ∷ (entry_under, p.element) ∷ []) laid_is.puts

  removed_are : removed tip.buried ≡ pruned (state_of before symbol) options.prune
  removed_are = pruned_is (state_of before symbol) options.prune tip.buried may.is_tip.buried

  changes_are : arc_value plan.changes ≡ link.change ∷ pruned (state_of before symbol) options.prune
  changes_are = p.changes ∙ ap (λ rest. link.change ∷ rest) removed_are

  element_spells : entry_of p.element ≡ Ok (record { prev = reference before symbol; changes = marks_of row (link.change ∷ pruned (state_of before symbol) options.prune) })
  element_spells = p.element_spelled ∙ (ap (λ was. Ok (record { prev = was; changes = marks.Link row ∷ map marks.Tomb tip.buried })) may.is_tip.was
      ∙ ap (λ ms. Ok (record { prev = reference before symbol; changes = ms }))
      (marks_made (state_of before symbol) link.change fit.version row tip.buried fit.makes ∙ ap (λ rest. marks_of row (link.change ∷ rest)) removed_are))

  number : version ≡ next_number (state_of before symbol)
  number = version_is ∙ may.is_tip.next

  may_follow : (more : History) → list_any (refers symbol) more ≡ false → ∥ IsLawful (more ++ before) ∥₁ → AreOwnPuts (more ++ before) client (puts_seen plan.puts)
      → MayRefer (more ++ before) client symbol (reference before symbol) plan.entry (arc_value plan.changes)
  may_follow more e l own =
      let same = as_it_was before more symbol e in
      let standing = subst (AreOwnPuts (more ++ before) client) puts_are own in
      let makes : new_version (state_of (more ++ before) symbol) link.change ≡ Some fit.version = ap (λ st. new_version st link.change) same.state_is ∙ (staged_version (state_of before symbol) same.more link.change ∙ fit.makes) in
      let fits_link = link_fits (more ++ before) client symbol row fit.version (number ∙ sym (version_number (state_of before symbol) link.change fit.version fit.makes)) (sym fit.stamp)
      (rows_are client serial symbol version before fit.version options.cutting link.pieces layout ready) fit.storable
      (link_in client serial symbol version before fit.version options.cutting link.pieces layout ready p.serials_fit p.index p.element spelled more e l standing row refl refl) in
      let burying = subst (λ st. BuriesLive st (pruned (state_of before symbol) options.prune)) (sym same.state_is)
      (buries_staging (state_of before symbol) same.more (pruned (state_of before symbol) options.prune) (buries_pruned (state_of before symbol) options.prune)) in
      let entry = entry_in client serial symbol version before fit.version options.cutting link.pieces layout ready p.serials_fit p.index p.element spelled (more ++ before) (reference before symbol)
      (marks_of row (link.change ∷ pruned (state_of before symbol) options.prune)) element_spells standing in
      subst (MayRefer (more ++ before) client symbol (reference before symbol) plan.entry) (sym changes_are)
      (subst (λ k. MayRefer (more ++ before) client symbol (reference before symbol) k (link.change ∷ pruned (state_of before symbol) options.prune)) (sym p.entry)
      (version_may_follow (more ++ before) client symbol link.change fit.version (reference before symbol) entry_under (pruned (state_of before symbol) options.prune) row makes fit.in_order fits_link burying entry))

  -- the plan makes the change, with an index of the pieces' slots
  pub plan_of : IsPlanOf client serial before symbol options link.change link.pieces plan
  plan_of = record {
    index = index_with fit.version.frame.schema layout;
    is_plan = record {
      was = p.was ∙ may.is_tip.was;
      version = p.number ∙ number;
      mark = p.mark;
      is_try = subst (λ ps. IsTry symbol true ps plan.entry) (sym puts_are) (subst (IsTry symbol true _) (sym p.entry)
          (try_is client serial symbol version before fit.version options.cutting link.pieces layout ready p.serials_fit p.index p.element spelled row tip.was (map marks.Tomb tip.buried) refl p.element_spelled));
      index_put = record {
        tiles = tiles_put;
        key = index_under;
        body = p.index;
        element = (entry_under, p.element);
        is = puts_are;
        spelled = spelled;
      };
      puts = subst (ArePutsFrom client serial) (sym puts_are)
          (puts_from client serial symbol version before fit.version options.cutting link.pieces layout ready p.serials_fit p.index p.element spelled (ok_is_ok (entry_of p.element) _ p.element_spelled));
      may_refer = may_follow;
    };
    changes = changes_are;
    puts = ap length puts_are ∙ (length-append tiles_put ((index_under, p.index) ∷ (entry_under, p.element) ∷ []) ∙ ap (λ n. n + 2) (puts_counted client symbol version options.cutting link.pieces laid_is.tiles 0 serial laid_is.tiled));
    slots = laid_is.slots ∙ (slots_are_laid client symbol version options.cutting link.pieces laid_is.tiles 0 serial laid_is.tiled ∙ ap (λ n. laid options.cutting client symbol n 0 serial link.pieces) number);
  }
