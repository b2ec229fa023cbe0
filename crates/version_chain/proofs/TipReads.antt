-- Elements that are read back from the newest, as far as one that links a live version.
use Rattle.std.proofs.Common.{◌≡◌, ℕ, Bool, true, false, ◌||◌, List, [], ◌∷◌, ◌++◌, length, take, drop, refl, ap, sym, ◌∙◌, inl, inr}
use Rattle.std.specs.Prelude.{filter_map}
use Rattle.std.specs.List.{list_any}
use Rattle.std.proofs.lemmas.Bool.{or_right}
use Rattle.std.proofs.lemmas.List.{append-nil, take-append-drop}
use Rattle.std.proofs.lemmas.List.Folds.{list_any-append}
use Rattle.store_model.specs.declared.chain.ChainMark.{ChainMark}
use Rattle.store_model.specs.declared.chain.ChainMark.TheVariants as marks
use Rattle.store_model.specs.declared.chain.Entry.{Entry}
use Rattle.store_model.specs.ChainText.{tomb_of}
use Rattle.store_model.specs.PlainWalks.{row_of, tombs_in, rows_in}
use Rattle.version_chain.specs.Tips.{links_live, is_unburied, has_live, IsNewestPart}
use Rattle.version_chain.proofs.Collected.{rows_in-push, tombs_in-push}

-- the Tombs of one element more
pub tombs_more : (tombs tombs' : List ℕ) (es es' : List Entry) (e : Entry) → tombs ≡ tombs_in es → tombs' ≡ tombs ++ filter_map tomb_of e.changes → es' ≡ es ++ e ∷ [] → tombs' ≡ tombs_in es'
tombs_more tombs tombs' es es' e is more last = more ∙ (ap (λ (ts : List ℕ). ts ++ filter_map tomb_of e.changes) is ∙ (sym (tombs_in-push es e) ∙ ap tombs_in (sym last)))

-- a mark links a live version where a row of the marks does
marks_live : (tombs : List ℕ) (ms : List ChainMark) → list_any (links_live tombs) ms ≡ list_any (is_unburied tombs) (filter_map row_of ms)
marks_live tombs [] = refl
marks_live tombs (marks.Link row ∷ ms) = ap (λ b. is_unburied tombs row || b) (marks_live tombs ms)
marks_live tombs (marks.Tomb version ∷ ms) = marks_live tombs ms
marks_live tombs (marks.Hold holder version ∷ ms) = marks_live tombs ms
marks_live tombs (marks.Release holder ∷ ms) = marks_live tombs ms
marks_live tombs (marks.Discard pieces ∷ ms) = marks_live tombs ms
marks_live tombs (marks.Compact told ∷ ms) = marks_live tombs ms

-- the last element links a live version
pub live_last : (tombs : List ℕ) (es es' : List Entry) (e : Entry) → tombs ≡ tombs_in es' → es' ≡ es ++ e ∷ [] → list_any (links_live tombs) e.changes ≡ true → has_live es' ≡ true
live_last tombs es es' e is last live =
    ap (λ (ts : List ℕ). list_any (is_unburied ts) (rows_in es')) (sym is)
    ∙ (ap (λ xs. list_any (is_unburied tombs) (rows_in xs)) last
    ∙ (ap (list_any (is_unburied tombs)) (rows_in-push es e)
    ∙ (list_any-append (is_unburied tombs) (rows_in es) (filter_map row_of e.changes)
    ∙ or_right (list_any (is_unburied tombs) (rows_in es)) (list_any (is_unburied tombs) (filter_map row_of e.changes)) (sym (marks_live tombs e.changes) ∙ live))))

-- the elements so far are such a part of the chain
pub part_read : (chain es : List Entry) → es ≡ take (length es) chain → has_live es ≡ true → IsNewestPart chain false es
part_read chain es so_far live = record {
  older = drop (length es) chain;
  is = sym (take-append-drop (length es) chain) ∙ ap (λ (xs : List Entry). xs ++ drop (length es) chain) (sym so_far);
  ends = inr (refl, live);
}

-- the whole chain is a part of it
pub whole_read : (chain es : List Entry) (whole : Bool) → es ≡ chain → IsNewestPart chain whole es
whole_read chain es whole is = record { older = []; is = sym (append-nil es ∙ is); ends = inl refl }
