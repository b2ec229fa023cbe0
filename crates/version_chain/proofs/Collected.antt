-- The links and Tombs of elements one behind another, and links that are taken from the end of a list.
use Rattle.std.proofs.Common.{◌≡◌, ℕ, List, [], ◌∷◌, ◌++◌, reverse, refl, sym, ap, ◌∙◌, append_assoc}
use Rattle.std.specs.Prelude.{filter_map}
use Rattle.std.proofs.lemmas.List.{reverse-append, append-nil}
use Rattle.std.proofs.lemmas.List.Elements.{filter_map-append}
use Rattle.store_model.specs.declared.chain.LinkRow.{LinkRow}
use Rattle.store_model.specs.declared.chain.ChainMark.{ChainMark}
use Rattle.store_model.specs.declared.chain.ChainMark.TheVariants as marks
use Rattle.store_model.specs.declared.chain.Entry.{Entry}
use Rattle.store_model.specs.ChainText.{tomb_of}
use Rattle.store_model.specs.PlainWalks.{row_of, rows_in, tombs_in}

-- one mark has at most one row
one_row : (m : ChainMark) → reverse (filter_map row_of (m ∷ [])) ≡ filter_map row_of (m ∷ [])
one_row (marks.Link row) = refl
one_row (marks.Tomb version) = refl
one_row (marks.Hold holder version) = refl
one_row (marks.Release holder) = refl
one_row (marks.Discard pieces) = refl
one_row (marks.Compact told) = refl

-- the last part of what is left is behind the links so far
moved : (links links' part left all total : List LinkRow) → links' ≡ links ++ part → all ≡ part ++ left → links ++ all ≡ total → links' ++ left ≡ total
moved links links' part left all total is parts so_far =
    ap (λ (xs : List LinkRow). xs ++ left) is ∙ (append_assoc links part left ∙ (ap (λ (xs : List LinkRow). links ++ xs) (sym parts) ∙ so_far))

pub links_more : (links links' : List LinkRow) (ms rest : List ChainMark) (m : ChainMark) (total : List LinkRow) → links' ≡ links ++ filter_map row_of (m ∷ []) → ms ≡ rest ++ m ∷ [] → links ++ reverse (filter_map row_of ms) ≡ total
    → links' ++ reverse (filter_map row_of rest) ≡ total
links_more links links' ms rest m total is popped so_far =
    moved links links' (filter_map row_of (m ∷ [])) (reverse (filter_map row_of rest)) (reverse (filter_map row_of ms)) total is
    (ap (λ (xs : List ChainMark). reverse (filter_map row_of xs)) popped ∙ (ap reverse (filter_map-append row_of rest (m ∷ []))
    ∙ (reverse-append (filter_map row_of rest) (filter_map row_of (m ∷ [])) ∙ ap (λ (xs : List LinkRow). xs ++ reverse (filter_map row_of rest)) (one_row m)))) so_far

-- the rows and the Tombs of elements, and of others behind them
pub rows_in-append : (xs ys : List Entry) → rows_in (xs ++ ys) ≡ rows_in xs ++ rows_in ys
rows_in-append [] ys = refl
rows_in-append (x ∷ xs) ys = ap (λ (rs : List LinkRow). filter_map row_of x.changes ++ rs) (rows_in-append xs ys) ∙ sym (append_assoc (filter_map row_of x.changes) (rows_in xs) (rows_in ys))

pub tombs_in-append : (xs ys : List Entry) → tombs_in (xs ++ ys) ≡ tombs_in xs ++ tombs_in ys
tombs_in-append [] ys = refl
tombs_in-append (x ∷ xs) ys = ap (λ (ts : List ℕ). filter_map tomb_of x.changes ++ ts) (tombs_in-append xs ys) ∙ sym (append_assoc (filter_map tomb_of x.changes) (tombs_in xs) (tombs_in ys))

-- and of one behind them
pub rows_in-push : (es : List Entry) (e : Entry) → rows_in (es ++ e ∷ []) ≡ rows_in es ++ filter_map row_of e.changes
rows_in-push es e = rows_in-append es (e ∷ []) ∙ ap (λ (rs : List LinkRow). rows_in es ++ rs) (append-nil (filter_map row_of e.changes))

pub tombs_in-push : (es : List Entry) (e : Entry) → tombs_in (es ++ e ∷ []) ≡ tombs_in es ++ filter_map tomb_of e.changes
tombs_in-push es e = tombs_in-append es (e ∷ []) ∙ ap (λ (ts : List ℕ). tombs_in es ++ ts) (append-nil (filter_map tomb_of e.changes))

pub elements_more : (links links' : List LinkRow) (es rest : List Entry) (e : Entry) (total : List LinkRow) → links' ≡ links ++ reverse (filter_map row_of e.changes) → es ≡ rest ++ e ∷ [] → links ++ reverse (rows_in es) ≡ total
    → links' ++ reverse (rows_in rest) ≡ total
elements_more links links' es rest e total is popped so_far =
    moved links links' (reverse (filter_map row_of e.changes)) (reverse (rows_in rest)) (reverse (rows_in es)) total is
    (ap (λ (xs : List Entry). reverse (rows_in xs)) popped ∙ (ap reverse (rows_in-push rest e) ∙ reverse-append (rows_in rest) (filter_map row_of e.changes))) so_far
