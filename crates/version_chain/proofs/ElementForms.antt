-- The element of a change keeps the rules of elements, and the reference of a lawful history is an element.
use Rattle.std.proofs.Common.{◌≡◌, ℕ, ◌<◌, pos, true, List, [], ◌∷◌, ◌++◌, map, refl, ap, sym, ◌∙◌, subst, Option, Some, None}
use Rattle.std.specs.Prelude.{IfSome, false}
use Rattle.std.specs.List.{AllByRecursion}
use Rattle.std.proofs.lemmas.Bool.{true≢false}
use denote.Struct.Props.{props}
use mathlib.Core.Logic.{∥∥₁_elim, ∥∥₁_map}
use Rattle.key_kind.specs.declared.key.KeyKind.TheVariants as kinds
use Rattle.key_kind.specs.declared.key.Key.{Key}
use Rattle.key_kind.specs.Names.{Name, IsName}
use Rattle.key_kind.specs.Keys.{IsKey, is_put, has_version, has_stamps}
use Rattle.bucket_core.specs.declared.event.Change.{Change}
use Rattle.bucket_core.specs.declared.event.Change.TheVariants as changes
use Rattle.bucket_core.specs.History.{History, reference}
use Rattle.store_model.specs.declared.chain.LinkRow.{LinkRow}
use Rattle.store_model.specs.declared.chain.ChainMark.{ChainMark}
use Rattle.store_model.specs.declared.chain.ChainMark.TheVariants as marks
use Rattle.store_model.specs.Library.{State}
use Rattle.store_model.specs.Links.{entries}
use Rattle.store_model.specs.Commits.{Rising, is_version, change_marks, marks_of}
use Rattle.store_model.specs.Law.{IsLawful}
use Rattle.store_model.proofs.Lawful.{lawful_is_intact, beginning_lawful}
use Rattle.store_model.proofs.PlainFollowing.{entries-first}
use Rattle.store_model.proofs.Plainly.{entries_stand}
use Rattle.store_model.proofs.Following.{at_is_among, put_key}
use Rattle.version_chain.specs.declared.state.SymbolState.{SymbolState}
use Rattle.version_chain.specs.Entries.{IsKeyOf, IsMark, IsAbove, AreTombs, IsEntry}
use Rattle.version_chain.specs.States.{IsStateOf}
use Rattle.version_chain.specs.Marking.{FitsOn, element_key}
use Rattle.version_chain.specs.MarkPlans.{IsElementKey, IsFormed}

-- ---- the reference

element_key_is : (h : History) (symbol : Name) (key : Key) → IsLawful h → reference h symbol ≡ Some key → IsElementKey symbol key
element_key_is h symbol key l is =
    let among = at_is_among (entries h symbol) 0 key (entries-first h symbol ∙ is) in
    let named = (lawful_is_intact h l).element_keys symbol key among in
    let stands = entries_stand h l symbol key among in
    let rules : IsKey key = (put_key h l key stands.body stands.put).is_key in
    record {
      kind = named.1;
      name = named.0;
      version = rules.version (ap has_version named.1);
      first = (rules.stamps (ap has_stamps named.1)).0;
      last = (rules.stamps (ap has_stamps named.1)).1;
    }

-- the reference is the key of an element
pub reference_told : (h : History) (symbol : Name) (o : Option Key) → ∥ IsLawful h ∥₁ → o ≡ reference h symbol → IfSome o (IsElementKey symbol)
reference_told h symbol None lawful e = tt
reference_told h symbol (Some key) lawful e = record {
  kind = ∥∥₁_elim lawful (hlevel props) (λ l. (element_key_is h symbol key l (sym e)).kind);
  name = ∥∥₁_elim lawful (hlevel props) (λ l. (element_key_is h symbol key l (sym e)).name);
  version = ∥∥₁_elim lawful (hlevel props) (λ l. (element_key_is h symbol key l (sym e)).version);
  first = ∥∥₁_elim lawful (hlevel props) (λ l. (element_key_is h symbol key l (sym e)).first);
  last = ∥∥₁_elim lawful (hlevel props) (λ l. (element_key_is h symbol key l (sym e)).last);
}

pub was_told : (h : History) (symbol : Name) (state : SymbolState) → ∥ IsLawful h ∥₁ → IsStateOf h symbol state → IfSome state.was (IsElementKey symbol)
was_told h symbol state lawful s = reference_told h symbol state.was lawful s.was

-- ---- the element

pub prev_is : (symbol : Name) (o : Option Key) → IsName symbol → IfSome o (IsElementKey symbol) → IfSome o (IsKeyOf kinds.Version)
prev_is symbol None name e = tt
prev_is symbol (Some key) name e = record {
  kind_is = e.kind;
  is_key = record {
    name = subst IsName (sym e.name) name;
    made = λ x. absurd (true≢false (sym (ap is_put e.kind) ∙ x));
    version = λ x. e.version;
    stamps = λ x. (e.first, e.last);
  };
}

-- the key of an element keeps its rules
pub element_key_rules : (client serial : ℕ) (symbol : Name) → IsName symbol → IsKey (element_key client symbol serial)
element_key_rules client serial symbol name = record { name = name; made = λ e. cc; version = λ e. refl; stamps = λ e. (refl, refl) }

tombs_rise : (n : ℕ) (ns : List ℕ) → Rising (n ∷ ns) → AreTombs (Some n) (map marks.Tomb ns)
tombs_rise n [] r = tt
tombs_rise n (m ∷ ns) r = (r.0, tombs_rise m ns r.1)

marks_keep : (ns : List ℕ) → AllByRecursion IsMark (map marks.Tomb ns)
marks_keep [] = tt
marks_keep (n ∷ ns) = (tt, marks_keep ns)

pub entry_is : (symbol : Name) (was : Option Key) (row : LinkRow) (c : Change) → IsName symbol → IfSome was (IsElementKey symbol) → IsFormed c → IsEntry (record { prev = was; changes = change_marks row c })
entry_is symbol was row (changes.Removed []) name prev f = absurd f.0
entry_is symbol was row (changes.Removed (n ∷ ns)) name prev f = record { prev = prev_is symbol was name prev; marks = marks_keep (n ∷ ns); form = tombs_rise n ns f.1 }
entry_is symbol was row (changes.Held holder version) name prev f = record { prev = prev_is symbol was name prev; marks = (tt, tt); form = tt }
entry_is symbol was row (changes.Released holder) name prev f = record { prev = prev_is symbol was name prev; marks = (tt, tt); form = tt }
entry_is symbol was row (changes.Discarded pieces) name prev f = record { prev = prev_is symbol was name prev; marks = (f, tt); form = tt }
entry_is symbol was row (changes.Wrote frame at) name prev f = absurd f
entry_is symbol was row (changes.Appended frame at) name prev f = absurd f
entry_is symbol was row (changes.Updated frame range at) name prev f = absurd f
entry_is symbol was row changes.Restated name prev f = absurd f

pub formed_makes_none : (c : Change) → IsFormed c → is_version c ≡ false
formed_makes_none (changes.Removed versions) f = refl
formed_makes_none (changes.Held holder version) f = refl
formed_makes_none (changes.Released holder) f = refl
formed_makes_none (changes.Discarded pieces) f = refl
formed_makes_none (changes.Wrote frame at) f = absurd f
formed_makes_none (changes.Appended frame at) f = absurd f
formed_makes_none (changes.Updated frame range at) f = absurd f
formed_makes_none changes.Restated f = absurd f

pub fits_is_formed : (st : State) (seen : History) (client : ℕ) (symbol : Name) (c : Change) → FitsOn st seen client symbol c → IsFormed c
fits_is_formed st seen client symbol (changes.Removed versions) f = (f.some, f.rising)
fits_is_formed st seen client symbol (changes.Held holder version) f = tt
fits_is_formed st seen client symbol (changes.Released holder) f = tt
fits_is_formed st seen client symbol (changes.Discarded pieces) f = (f.some, f.rising)
fits_is_formed st seen client symbol (changes.Wrote frame at) f = absurd f
fits_is_formed st seen client symbol (changes.Appended frame at) f = absurd f
fits_is_formed st seen client symbol (changes.Updated frame range at) f = absurd f
fits_is_formed st seen client symbol changes.Restated f = absurd f

-- the marks of one change alone
pub marks_of-one : (row : LinkRow) (c : Change) → marks_of row (c ∷ []) ≡ change_marks row c
marks_of-one row c = append_nothing (change_marks row c)
  where
    append_nothing : (xs : List ChainMark) → xs ++ [] ≡ xs
    append_nothing [] = refl
    append_nothing (x ∷ xs) = ap (λ l. x ∷ l) (append_nothing xs)

-- a walk's place is one of a lawful history
pub walked_lawful : (h later before : History) → h ≡ later ++ before → ∥ IsLawful h ∥₁ → ∥ IsLawful before ∥₁
walked_lawful h later before split lawful = ∥∥₁_map lawful (λ (l : IsLawful h). beginning_lawful later before (subst IsLawful split l))
