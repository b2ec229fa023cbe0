-- The newest live version, by the tip of a symbol's chain: the choice is that in the symbol's whole state.
use Rattle.std.proofs.Common.{◌≡◌, Bool, true, false, not, List, [], ◌∷◌, map, reverse, refl, sym, ap, ◌∙◌, subst, cond, Some, None, Err}
use Rattle.std.specs.Prelude.{filter, find, slice_get, is_some}
use Rattle.std.proofs.lemmas.List.{reverse-reverse}
use Rattle.frame_core.specs.declared.refusal.Asked.TheVariants as asks
use Rattle.frame_core.specs.declared.refusal.Refusal.TheVariants as refusals
use Rattle.key_kind.specs.Names.{Name}
use Rattle.bucket_core.specs.History.{History, reference, history_at}
use Rattle.store_model.specs.declared.chain.LinkRow.{LinkRow}
use Rattle.store_model.specs.declared.hold.HoldRow.{HoldRow}
use Rattle.store_model.specs.Library.{Hold, state_of}
use Rattle.store_model.specs.Snapshots.{library_of}
use Rattle.store_model.specs.Law.{IsLawful}
use Rattle.version_chain.specs.declared.state.SymbolState.{SymbolState}
use Rattle.version_chain.specs.declared.tip.ChainTip.{ChainTip}
use Rattle.version_chain.specs.States.{is_tomb, hold_of, IsStateOf}
use Rattle.version_chain.specs.Tips.{newest_live, IsTipOf, IsTipAt}
use Rattle.expr_clause.specs.declared.command.AsOf.TheVariants as moments
use Rattle.reply_model.specs.ReadAnswers.{read_version}
use Rattle.frame_read.specs.Targets.{row_asked, IsChosen}
use Rattle.frame_read.proofs.ChoosingLemmas.{rows_of, unreferred_refuses, unlinked_refuses, linked_is_chosen}
use Rattle.frame_read.proofs.ResolvingLemmas.{place_at}

-- ---- the symbol's state, as a whole walk would find it

-- a hold, as an element has it
abbrev hold_row : Hold → HoldRow
hold_row w = record { holder = w.holder; version = w.version }

holds_again : (holds : List Hold) → map hold_of (map hold_row holds) ≡ holds
holds_again [] = refl
holds_again (w ∷ holds) = ap (λ (ws : List Hold). w ∷ ws) (holds_again holds)

abbrev whole_state : History → Name → SymbolState
whole_state h symbol = record {
  was = reference h symbol;
  links = reverse (rows_of h symbol);
  tombs = (state_of h symbol).buried;
  holds = map hold_row (state_of h symbol).holds;
  consumed = (state_of h symbol).consumed;
  place = 0;
}

whole_is : (h : History) (symbol : Name) → IsStateOf h symbol (whole_state h symbol)
whole_is h symbol = record { was = refl; links = refl; tombs = refl; holds = holds_again (state_of h symbol).holds; consumed = refl }

-- the first that passes is the first of those that pass
first_passing : (p : LinkRow → Bool) (rows : List LinkRow) → slice_get (filter p rows) 0 ≡ find p rows
first_passing p [] = refl
first_passing p (row ∷ rows) =
    elim (p row) as (λ b. slice_get (cond b (row ∷ filter p rows) (filter p rows)) 0 ≡ cond b (Some row) (find p rows)) [
      | true ↦ refl
      | false ↦ first_passing p rows
    ]

-- the link that is asked there is the newest live one
newest_asked : (h : History) (symbol : Name) → row_asked (whole_state h symbol) (asks.Back 1) ≡ newest_live h symbol
newest_asked h symbol =
    let live : LinkRow → Bool = λ row. not (is_tomb (state_of h symbol).buried row.version) in
    ap (λ rows. slice_get (filter live rows) 0) (reverse-reverse (rows_of h symbol)) ∙ first_passing live (rows_of h symbol)

-- ---- what the tip tells

module _ (h : History) (symbol : Name) (tip : ChainTip) (is : IsTipOf h symbol false tip) where
  -- without a reference
  pub tipless_refuses : is_some tip.was ≡ false → read_version (library_of h) symbol (moments.Back 1) ≡ Err refusals.NoSuchSymbol
  tipless_refuses none = unreferred_refuses h symbol (whole_state h symbol) (asks.Back 1) (whole_is h symbol) (ap is_some (sym is.was) ∙ none)

  -- where no version is live
  pub liveless_refuses : ∥ IsLawful h ∥₁ → is_some tip.was ≡ true → tip.newest ≡ None → read_version (library_of h) symbol (moments.Back 1) ≡ Err (refusals.NoSuchVersion (asks.Back 1))
  liveless_refuses lawful some none =
      unlinked_refuses h symbol (whole_state h symbol) (asks.Back 1) lawful (whole_is h symbol) (ap is_some (sym is.was) ∙ some) (newest_asked h symbol ∙ (sym is.newest ∙ none))

  -- where one is
  pub newest_is_chosen : (row : LinkRow) → ∥ IsLawful h ∥₁ → is_some tip.was ≡ true → tip.newest ≡ Some row → IsChosen h symbol (moments.Back 1) row.version row.index
  newest_is_chosen row lawful some found =
      linked_is_chosen h symbol (whole_state h symbol) (asks.Back 1) row lawful (whole_is h symbol) (ap is_some (sym is.was) ∙ some) (newest_asked h symbol ∙ (sym is.newest ∙ found))

-- the tip is that of the history at its place
pub tip_at : (h : History) (symbol : Name) (tip : ChainTip) → IsTipAt h symbol false tip → IsTipOf (history_at h tip.place) symbol false tip
tip_at h symbol tip at = subst (λ g. IsTipOf g symbol false tip) (sym (place_at h at.later at.before tip.place at.split at.place)) at.is
