-- Parts between separators, from the front and from the end.
use Rattle.std.proofs.Common.{◌≡◌, ℕ, Bool, true, false, cond, eqb, List, [], ◌∷◌, ◌++◌, length, take, drop, Option, Some, refl, sym, ap, ◌∙◌, append_assoc, arith}
use Rattle.std.specs.Prelude.{not, nat_eq}
use Rattle.std.specs.List.{onto_first}
use Rattle.std.proofs.lemmas.List.Folds.{length-prefix_len}
use Rattle.std.proofs.lemmas.List.Sums.{take_while-cons}
use Rattle.frame_core.specs.Texts.{Text}
use Rattle.script_lang.specs.Fronts.{◌>>=◌, where_true}
use Rattle.script_lang.specs.Lines.{part_at, between, ended, lines_of}

-- the parts behind the first
abbrev pub later_parts : ℕ → Text → List Text
later_parts c [] = []
later_parts c (b ∷ rest) = between c rest

between-cons : (c b : ℕ) (rest : Text) (stop : Bool) → between c rest ≡ part_at c rest ∷ later_parts c (drop (length (part_at c rest)) rest) →
    cond stop ([] ∷ between c rest) (onto_first b (between c rest)) ≡ cond (not stop) (b ∷ part_at c rest) [] ∷ cond stop (between c rest) (later_parts c (drop (length (part_at c rest)) rest))
between-cons c b rest true parts = refl
between-cons c b rest false parts = rw parts refl

later-cons : (c b : ℕ) (rest : Text) (stop : Bool) → cond stop (between c rest) (later_parts c (drop (length (part_at c rest)) rest)) ≡ later_parts c (drop (length (cond (not stop) (b ∷ part_at c rest) [])) (b ∷ rest))
later-cons c b rest true = refl
later-cons c b rest false = refl

-- the first part, and the others
pub between-first : (c : ℕ) (text : Text) → between c text ≡ part_at c text ∷ later_parts c (drop (length (part_at c text)) text)
between-first c [] = refl
between-first c (b ∷ rest) =
    rw (take_while-cons (λ x. not (eqb x c)) b rest)
    (between-cons c b rest (eqb b c) (between-first c rest) ∙ ap (λ others. cond (not (eqb b c)) (b ∷ part_at c rest) [] ∷ others) (later-cons c b rest (eqb b c)))

nothing : (text : Text) → length text ≡ 0 → text ≡ []
nothing [] none = refl
nothing (b ∷ text) none = absurd (omega arith)

take-part : (c n : ℕ) (text part : Text) → n ≡ length (part_at c text) → part ≡ take n text → part ≡ part_at c text
take-part c n text part len is = is ∙ ap (λ k. take k text) (len ∙ length-prefix_len (λ b. not (eqb b c)) text)

-- the last part
pub parts-end : (c n : ℕ) (text part after : Text) (front total : List Text) → n ≡ length (part_at c text) → part ≡ take n text → after ≡ drop n text → length after ≡ 0 →
    front ++ between c text ≡ total → front ++ part ∷ [] ≡ total
parts-end c n text part after front total len part_is after_is none so_far =
    let rest : drop (length (part_at c text)) text ≡ [] = ap (λ k. drop k text) (sym len) ∙ sym after_is ∙ nothing after none in
    let one : between c text ≡ part_at c text ∷ [] = between-first c text ∙ ap (λ after. part_at c text ∷ later_parts c after) rest in
    ap (λ p. front ++ p ∷ []) (take-part c n text part len part_is) ∙ ap (λ parts. front ++ parts) (sym one) ∙ so_far

-- a part, and what stands behind its separator
pub parts-on : (c n b : ℕ) (text part after next : Text) (front total : List Text) → n ≡ length (part_at c text) → part ≡ take n text → after ≡ drop n text → after ≡ b ∷ next →
    front ++ between c text ≡ total → (front ++ part ∷ []) ++ between c next ≡ total
parts-on c n b text part after next front total len part_is after_is more so_far =
    let rest : drop (length (part_at c text)) text ≡ b ∷ next = ap (λ k. drop k text) (sym len) ∙ sym after_is ∙ more in
    let one : between c text ≡ part_at c text ∷ between c next = between-first c text ∙ ap (λ after. part_at c text ∷ later_parts c after) rest in
    ap (λ p. (front ++ p ∷ []) ++ between c next) (take-part c n text part len part_is) ∙ append_assoc front (part_at c text ∷ []) (between c next) ∙ ap (λ parts. front ++ parts) (sym one) ∙ so_far

-- ---- lines

ended-cons : (part : Text) (parts : List Text) (last : Text) → ended (parts ++ last ∷ []) ≡ where_true (nat_eq (length last) 0) parts → ended (part ∷ (parts ++ last ∷ [])) ≡ where_true (nat_eq (length last) 0) (part ∷ parts)
ended-cons part [] last h = ended_two (nat_eq (length last) 0)
  where
    ended_two : (b : Bool) → (where_true {A = List Text} b [] >>= λ lines. Some (part ∷ lines)) ≡ where_true b (part ∷ [])
    ended_two true = refl
    ended_two false = refl
ended-cons part (p ∷ parts) last h = ap (λ (o : Option (List Text)). o >>= λ lines. Some (part ∷ lines)) h ∙ ended_more (nat_eq (length last) 0)
  where
    ended_more : (b : Bool) → (where_true b (p ∷ parts) >>= λ lines. Some (part ∷ lines)) ≡ where_true b (part ∷ p ∷ parts)
    ended_more true = refl
    ended_more false = refl

-- the last part has to be empty, and the others are the lines
pub ended-append : (parts : List Text) (last : Text) → ended (parts ++ last ∷ []) ≡ where_true (nat_eq (length last) 0) parts
ended-append [] last = refl
ended-append (part ∷ parts) last = ended-cons part parts last (ended-append parts last)

-- the lines of a text by its parts between LF
pub lines_of-parts : (text last : Text) (parts all : List Text) (empty : Bool) → all ≡ between 10 text → all ≡ parts ++ last ∷ [] → empty ≡ nat_eq (length last) 0 → lines_of text ≡ where_true empty parts
lines_of-parts text last parts all empty is cut none = ap ended (sym is ∙ cut) ∙ ended-append parts last ∙ ap (λ b. where_true {A = List Text} b parts) (sym none)
