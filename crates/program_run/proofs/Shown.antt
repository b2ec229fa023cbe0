-- Replies as texts in a row.
use Rattle.std.proofs.Common.{◌≡◌, ℕ, zero, suc, ◌+◌, List, [], ◌∷◌, ◌++◌, length, map, Option, Some, refl, sym, ap, ◌∙◌, append_assoc, arith}
use Rattle.std.specs.Prelude.{slice_get, option_map, codes}
use Rattle.std.specs.List.{concat}
use Rattle.std.proofs.lemmas.List.{append-nil}
use Rattle.std.proofs.lemmas.List.Folds.{concat-append}
use Rattle.frame_core.specs.Texts.{Text}
use Rattle.reply_model.specs.declared.reply.Reply.{Reply}
use Rattle.client_sessions.specs.declared.parts.PartReplies.{PartReplies}
use Rattle.reply_text.specs.Replies.{reply_lines, part_lines, clients_lines, end_line}
use Rattle.program_run.specs.Transcript.{transcript}

-- the value of a place
pub slice_get-map : {A B : Type 0} (f : A → B) (xs : List A) (i : ℕ) (x : A) → slice_get xs i ≡ Some x → slice_get (map f xs) i ≡ Some (f x)
slice_get-map f [] i x is = absurd cc
slice_get-map f (y ∷ xs) zero x is = ap (λ o. option_map f o) is
slice_get-map f (y ∷ xs) (suc i) x is = slice_get-map f xs i x is

-- the text of each reply
abbrev pub reply_texts : Text → ℕ → List Reply → List Text
reply_texts who k [] = []
reply_texts who k (r ∷ replies) = concat (reply_lines who k r) ∷ reply_texts who (suc k) replies

-- the lines of replies are these texts
pub part-texts : (who : Text) (k : ℕ) (replies : List Reply) → concat (part_lines who k replies) ≡ concat (reply_texts who k replies)
part-texts who k [] = refl
part-texts who k (r ∷ replies) = concat-append (reply_lines who k r) (part_lines who (suc k) replies) ∙ ap (λ (t : Text). concat (reply_lines who k r) ++ t) (part-texts who (suc k) replies)

-- the text of the reply at a place
pub reply-text-at : (who : Text) (k : ℕ) (replies : List Reply) (i : ℕ) (r : Reply) → slice_get replies i ≡ Some r → slice_get (reply_texts who k replies) i ≡ Some (concat (reply_lines who (k + i) r))
reply-text-at who k [] i r is = absurd cc
reply-text-at who k (q ∷ replies) zero r is =
    let same : q ≡ r = cc in
    let number : k ≡ k + 0 = omega arith in
    ap (λ (x : Reply). text_of k x) same ∙ ap (λ (n : ℕ). text_of n r) number
  where
    text_of : ℕ → Reply → Option Text
    text_of n x = Some (concat (reply_lines who n x))
reply-text-at who k (q ∷ replies) (suc i) r is =
    let number : suc k + i ≡ k + suc i = omega arith in
    reply-text-at who (suc k) replies i r is ∙ ap (λ (n : ℕ). text_of n) number
  where
    text_of : ℕ → Option Text
    text_of n = Some (concat (reply_lines who n r))

pub length-reply_texts : (who : Text) (k : ℕ) (replies : List Reply) → length (reply_texts who k replies) ≡ length replies
length-reply_texts who k [] = refl
length-reply_texts who k (r ∷ replies) = omega (arith, length-reply_texts who (suc k) replies)

-- ---- the transcript

-- the text of the clients' replies is that of the first client's and of the others'
clients-text : (name : Text) (names : List Text) (replies : List Reply) (blocks : List (List Reply)) →
    concat (clients_lines (name ∷ names) (replies ∷ blocks)) ≡ concat (part_lines name 1 replies) ++ concat (clients_lines names blocks)
clients-text name names replies blocks = concat-append (part_lines name 1 replies) (clients_lines names blocks)

-- the same of lists that have a first client
pub clients-cons : (names more : List Text) (blocks others : List (List Reply)) (name : Text) (replies : List Reply) → names ≡ name ∷ more → blocks ≡ replies ∷ others →
    concat (clients_lines names blocks) ≡ concat (part_lines name 1 replies) ++ concat (clients_lines more others)
clients-cons names more blocks others name replies names_are blocks_are =
    ap (λ (n : List Text). concat (clients_lines n blocks)) names_are ∙ ap (λ (b : List (List Reply)). concat (clients_lines (name ∷ more) b)) blocks_are ∙ clients-text name more replies others

-- the text of the last replies and of the end
abbrev pub end_text : List Reply → ℕ → Text
end_text last end = concat (part_lines (codes "last") 1 last) ++ end_line end

-- the text of a transcript is that of the first replies and of the clients' replies, and that of the last replies and the end
pub transcript-text : (names : List Text) (r : PartReplies) (end : ℕ) →
    concat (transcript names r end) ≡ (concat (part_lines (codes "first") 1 r.first) ++ concat (clients_lines names r.blocks)) ++ end_text r.last end
transcript-text names r end =
    let first = part_lines (codes "first") 1 r.first in
    let clients = clients_lines names r.blocks in
    let last = part_lines (codes "last") 1 r.last in
    concat-append ((first ++ clients) ++ last) (end_line end ∷ [])
    ∙ ap (λ (t : Text). concat ((first ++ clients) ++ last) ++ t) (append-nil (end_line end))
    ∙ ap (λ (t : Text). t ++ end_line end) (concat-append (first ++ clients) last ∙ ap (λ (t : Text). t ++ concat last) (concat-append first clients))
    ∙ append_assoc (concat first ++ concat clients) (concat last) (end_line end)
