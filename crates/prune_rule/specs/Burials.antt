-- Which versions a burial buries in a walked state.
--     burial_of           a wish, as a burial
--     live_among, without_last      the numbers of the links that are not buried; all of a list but its last
--     chosen_in, state_answer      what a walked state answers: the versions, or the version that is asked and not live; where the symbol has a reference
--     Declines            want of memory, or the refusal of an answer
use Rattle.std.specs.Prelude.{◌≡◌, ◌⊎◌, ℕ, not, List, [], ◌∷◌, map, filter, find, is_some, Some, None, Result, Ok, Err}
use Rattle.frame_core.specs.declared.refusal.Asked.TheVariants as asks
use Rattle.frame_core.specs.declared.refusal.Refusal.{Refusal}
use Rattle.frame_core.specs.declared.refusal.Refusal.TheVariants as refusals
use Rattle.frame_core.specs.RawFrames.{unless}
use Rattle.store_model.specs.declared.chain.LinkRow.{LinkRow}
use Rattle.version_chain.specs.declared.state.SymbolState.{SymbolState}
use Rattle.version_chain.specs.States.{is_tomb, live_link}
use Rattle.reply_model.specs.Answering.{refuse_if}
use Rattle.reply_model.specs.CommitAnswers.{ascending}
use Rattle.reply_model.specs.Kinds.{Burial, Listed, Older}
use Rattle.prune_rule.specs.declared.choosing.Wish.{Wish}
use Rattle.prune_rule.specs.declared.choosing.Wish.TheVariants as wishes

-- what a wish of a command buries
abbrev pub burial_of : Wish → Burial
burial_of wishes.All = Listed None
burial_of (wishes.These numbers) = Listed (Some numbers.now)
burial_of wishes.ButNewest = Older

-- ---- of a walked state

-- the numbers of those links that are not buried
abbrev pub live_among : List ℕ → List LinkRow → List ℕ
live_among tombs rows = map (λ (row : LinkRow). row.version) (filter (λ (row : LinkRow). not (is_tomb tombs row.version)) rows)

-- all but the last
abbrev pub without_last : List ℕ → List ℕ
without_last [] = []
without_last (n ∷ []) = []
without_last (n ∷ m ∷ ns) = n ∷ without_last (m ∷ ns)

-- what is buried
abbrev pub chosen_in : Wish → SymbolState → Result (List ℕ) Refusal
chosen_in wishes.All state = Ok (live_among state.tombs state.links)
chosen_in (wishes.These numbers) state = unless (find (λ n. not (is_some (live_link state n))) numbers.now) (λ n. refusals.NoSuchVersion (asks.Number n)) (Ok (ascending numbers.now))
chosen_in wishes.ButNewest state = Ok (without_last (live_among state.tombs state.links))

-- the same, where the symbol has a reference
abbrev pub state_answer : Wish → SymbolState → Result (List ℕ) Refusal
state_answer wish state = refuse_if (not (is_some state.was)) refusals.NoSuchSymbol (chosen_in wish state)

-- want of memory, or the refusal of the answer
abbrev pub Declines : Result (List ℕ) Refusal → Refusal → Type 0
Declines answer why = (why ≡ refusals.NoMemory) ⊎ (answer ≡ Err why)
