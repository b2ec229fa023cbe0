-- What contents show after one event more.
use Rattle.std.proofs.Common.{◌≡◌, ℕ, suc, List, [], ◌∷◌, ◌++◌, length, map, reverse, subst, Option, Some, None, ap, sym, ◌∙◌}
use Rattle.std.specs.Prelude.{Result, Ok, Err, OnErr}
use Rattle.std.specs.Arc.{arc_value}
use Rattle.std.specs.Map.{keys_of, remove_entry}
use Rattle.std.specs.BTreeMap.{insert_entry, is_at}
use Rattle.std.specs.List.Sorted.{IsStrictlySortedBy}
use Rattle.key_kind.specs.declared.key.Key.{Key}
use Rattle.key_kind.specs.Names.{Name}
use Rattle.key_kind.specs.Keys.{key_cmp}
use Rattle.bucket_core.specs.declared.entry.Entry.{Entry}
use Rattle.bucket_core.specs.declared.contents.Contents.{Contents}
use Rattle.bucket_core.specs.declared.event.Event.{Event}
use Rattle.bucket_core.specs.History.{History, Bytes, key_of, body_of}
use Rattle.bucket_core.specs.Contents.{Shown, shown, with_event, contents_of}
use Rattle.bucket_core.specs.Heads.{head_in, head_of}
use Rattle.bucket_core.specs.Showing.{Shows, ShowsSame, Sets, SetsReference}
use Rattle.bucket_core.specs.Calls.{refer_event}
use Rattle.bucket_core.specs.declared.event.Change.{Change}
use Rattle.key_kind.specs.Keys.{reference_key}
use Rattle.key_kind.specs.KeyText.{key_text}
use Rattle.bucket_core.proofs.ContentsLemmas.{shown-insert_entry}
use Rattle.bucket_core.proofs.AfterEvents.{shown-remove_entry, history_after}

-- an entry was set by an event
pub Shows-body : (old new : Contents) (key : Key) (entry : Entry) (h : History) (e : Event) → Shows old h → new.entries.entries ≡ insert_entry key_cmp old.entries.entries key entry → entry.since ≡ suc old.count → new.count ≡ suc old.count → key_of e ≡ key → body_of e ≡ Some (arc_value entry.body) → ((s : Name) → head_in new.heads s ≡ head_of (e ∷ h) s) → Shows new (e ∷ h)
Shows-body old new key entry h e shows added place count is body heads = record {
  count = count ∙ ap suc shows.count;
  entries = ap (map shown) added
      ∙ (shown-insert_entry old.entries.entries key entry
      ∙ (ap (λ (es : List Shown). insert_entry key_cmp es key (arc_value entry.body, entry.since)) shows.entries
      ∙ (λ i. with_event (sym is i) (sym body i) ((place ∙ ap suc shows.count) i) (contents_of h))));
  heads = heads;
}

-- an entry was set, by an event that is no Refer
pub Sets-body : (old new : Contents) (key : Key) (entry : Entry) → new.entries.entries ≡ insert_entry key_cmp old.entries.entries key entry → entry.since ≡ suc old.count → new.count ≡ suc old.count → ((s : Name) → head_in new.heads s ≡ head_in old.heads s) → Sets old new key (Some (arc_value entry.body))
Sets-body old new key entry added place count heads = λ h e shows is body same.
    Shows-body old new key entry h e shows added place count is body (λ s. heads s ∙ (shows.heads s ∙ sym (same s)))

-- what stood under a key was taken away
pub Sets-none : (old new : Contents) (key : Key) → IsStrictlySortedBy key_cmp (keys_of old.entries.entries) → new.entries.entries ≡ remove_entry (is_at (key_cmp key)) old.entries.entries → new.count ≡ suc old.count → ((s : Name) → head_in new.heads s ≡ head_in old.heads s) → Sets old new key None
Sets-none old new key sorted removed count heads = λ h e shows is body same. record {
  count = count ∙ ap suc shows.count;
  entries = ap (map shown) removed
      ∙ (shown-remove_entry key old.entries.entries sorted
      ∙ (ap (λ (es : List Shown). with_event key None 0 es) shows.entries
      ∙ (λ i. with_event (sym is i) (sym body i) (suc (length h)) (contents_of h))));
  heads = λ s. heads s ∙ (shows.heads s ∙ sym (same s));
}

-- what holds anyway holds of an error
pub OnErr_anyway : {T E P : Type 0} (r : Result T E) → P → OnErr r P
OnErr_anyway (Ok x) p = tt
OnErr_anyway (Err x) p = p

-- ---- a list of events, the oldest first

-- after an event that is no Refer
pub Shows-added : (events later : List Event) (event : Event) (old new : Contents) (key : Key) (body : Option Bytes) → Shows old (reverse events) → later ≡ events ++ event ∷ [] → Sets old new key body → key_of event ≡ key → body_of event ≡ body → ((s : Name) → head_of (event ∷ reverse events) s ≡ head_of (reverse events) s) → Shows new (reverse later)
Shows-added events later event old new key body shows more sets is set same =
    subst (λ (h : History). Shows new h) (sym (history_after events later event more)) (sets (reverse events) event shows is set same)

-- after a Refer
pub Shows-referred : (events later : List Event) (client : ℕ) (symbol : Name) (was : Option Key) (entry : Key) (list : List Change) (old new : Contents) (key : Key) (mark : Bytes) → Shows old (reverse events) → later ≡ events ++ refer_event client symbol was entry list ∷ [] → SetsReference old new symbol key entry mark → key ≡ reference_key symbol → mark ≡ key_text entry → Shows new (reverse later)
Shows-referred events later client symbol was entry list old new key mark shows more sets is spelled =
    subst (λ (h : History). Shows new h) (sym (history_after events later (refer_event client symbol was entry list) more)) (sets (reverse events) client was list shows is spelled)

-- where no event was added
pub Shows-kept : (events later : List Event) (old new : Contents) → Shows old (reverse events) → later ≡ events → ShowsSame old new → Shows new (reverse later)
Shows-kept events later old new shows same kept = subst (λ (es : List Event). Shows new (reverse es)) (sym same) (kept (reverse events) shows)
