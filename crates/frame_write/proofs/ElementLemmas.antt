-- The element of a new version keeps the rules of elements.
use Rattle.std.proofs.Common.{ℕ, List, [], ◌∷◌, map, Option, Some, None}
use Rattle.std.specs.Prelude.{IfSome}
use Rattle.std.specs.List.{AllByRecursion}
use Rattle.key_kind.specs.declared.key.Key.{Key}
use Rattle.key_kind.specs.Names.{Name, IsName}
use Rattle.store_model.specs.declared.chain.LinkRow.{LinkRow}
use Rattle.store_model.specs.declared.chain.ChainMark.TheVariants as marks
use Rattle.store_model.specs.Commits.{Rising}
use Rattle.version_chain.specs.Entries.{IsLink, IsMark, IsAbove, AreTombsAndDiscard, IsEntry}
use Rattle.version_chain.specs.MarkPlans.{IsElementKey}
use Rattle.version_chain.proofs.ElementForms.{prev_is}

tombs_rise : (before : Option ℕ) (n : ℕ) (ns : List ℕ) → IsAbove before n → Rising (n ∷ ns) → AreTombsAndDiscard before (map marks.Tomb (n ∷ ns))
tombs_rise before n [] above r = (above, tt)
tombs_rise before n (m ∷ ns) above r = (above, tombs_rise (Some n) m ns r.0 r.1)

form_is : (ns : List ℕ) → Rising ns → AreTombsAndDiscard None (map marks.Tomb ns)
form_is [] r = tt
form_is (n ∷ ns) r = tombs_rise None n ns tt r

marks_keep : (ns : List ℕ) → AllByRecursion IsMark (map marks.Tomb ns)
marks_keep [] = tt
marks_keep (n ∷ ns) = (tt, marks_keep ns)

pub entry_is : (symbol : Name) (was : Option Key) (row : LinkRow) (numbers : List ℕ) → IsName symbol → IfSome was (IsElementKey symbol) → IsLink row → Rising numbers
    → IsEntry (record { prev = was; changes = marks.Link row ∷ map marks.Tomb numbers })
entry_is symbol was row numbers name prev link rising = record { prev = prev_is symbol was name prev; marks = (link, marks_keep numbers); form = form_is numbers rising }
