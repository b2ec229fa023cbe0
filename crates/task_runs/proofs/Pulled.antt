-- What pullers have taken, and the results of it.
use Rattle.std.proofs.Common.{◌≡◌, ℕ, List, [], ◌∷◌, ◌++◌, length, get_or, map, replicate, sym, refl, ap, ◌∙◌, subst, append-nil, length-append, arith}
use Rattle.std.specs.Prelude.{All}
use Rattle.std.specs.List.{flat_map}
use Rattle.std.specs.List.Sorted.{IsPermutation}
use Rattle.std.proofs.lemmas.List.{map-append, get_or-map, length-map, get_or_append_left, get_or-replicate, length-replicate}
use Rattle.std.proofs.lemmas.List.Concat.{flat_map-append}
use Rattle.std.proofs.lemmas.List.Elements.{All-map}
use Rattle.task_queue.specs.declared.puller.Puller.{Puller}
use Rattle.task_queue.specs.Tasks.{taken}
use Rattle.task_runs.specs.declared.given.Given.{Given}
use Rattle.task_runs.specs.Results.{result_of, results_of, tasks_of, IsRight}
use Rattle.task_runs.proofs.Places.{at_middle}

-- no puller has taken a number
no_numbers : (ps : List Puller) (n : ℕ) → map taken ps ≡ replicate n [] → All (λ p. taken p ≡ []) ps
no_numbers ps n none k d lt = let none_at : get_or (map taken ps) k [] ≡ get_or (replicate n []) k [] = ap (λ (l : List (List ℕ)). get_or l k []) none in
    sym (get_or-map taken ps k d [] lt) ∙ none_at ∙ get_or-replicate n k [] [] (omega (arith, lt, length-map ps taken, ap length none, length-replicate {A = List ℕ} n []))

module _ {T : Type 0} (gives : ℕ → T) where
  -- the results of one puller more
  pub one_more : (all : List (Given T)) (ps : List Puller) (p : Puller) (qs : List Puller) → all ≡ results_of gives (flat_map taken ps) ++ results_of gives (taken p) → qs ≡ ps ++ p ∷ [] → all ≡ results_of gives (flat_map taken qs)
  one_more all ps p qs is more = is ∙ sym (map-append (result_of gives) (flat_map taken ps) (taken p))
      ∙ ap (results_of gives) (ap (λ l. flat_map taken ps ++ l) (sym (append-nil (taken p))) ∙ sym (flat_map-append taken ps (p ∷ [])) ∙ ap (flat_map taken) (sym more))

  -- each result beside its task is right
  pub are_right : (all : List (Given T)) (tasks : List ℕ) → all ≡ results_of gives tasks → All (IsRight gives) all
  are_right all tasks is = subst (All (IsRight gives)) (sym is) (All-map (IsRight gives) (result_of gives) tasks (λ k d lt. refl))

  same_tasks : (tasks : List ℕ) → tasks_of (results_of gives tasks) ≡ tasks
  same_tasks [] = refl
  same_tasks (x ∷ xs) = ap (λ l. x ∷ l) (same_tasks xs)

  -- each task has one
  pub whole : (n : List ℕ) (all : List (Given T)) (tasks : List ℕ) → all ≡ results_of gives tasks → IsPermutation n tasks → IsPermutation n (tasks_of all)
  whole n all tasks is each = subst (IsPermutation n) (sym (same_tasks tasks) ∙ sym (ap tasks_of is)) each

front_of : (ps qs : List Puller) → All (λ q. taken q ≡ []) (ps ++ qs) → All (λ q. taken q ≡ []) ps
front_of ps qs each k d lt = subst (λ (q : Puller). taken q ≡ []) (get_or_append_left ps qs d k lt) (each k d (omega (arith, lt, length-append ps qs)))

-- where no puller has taken a number, neither the last nor the others have
pub first_taken : (all ps : List Puller) (p : Puller) (n : ℕ) → map taken all ≡ replicate n [] → all ≡ ps ++ p ∷ [] → (taken p ≡ []) × All (λ q. taken q ≡ []) ps
first_taken all ps p n none is = let each = subst (All (λ q. taken q ≡ [])) is (no_numbers all n none) in
    (at_middle (λ q. taken q ≡ []) ps p [] each, front_of ps (p ∷ []) each)
