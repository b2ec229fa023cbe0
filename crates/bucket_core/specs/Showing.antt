-- What contents without their events show of a history.
--     Shows          the contents are what the history leaves
--     events_of      how many events the contents stand for
--     ShowsSame      contents that show what others do
--     Sets, SetsReference      contents after one event more: one that is no Refer, and a Refer
use Rattle.std.specs.Prelude.{◌≡◌, ℕ, ◌∷◌, map, length, List, Option}
use Rattle.key_kind.specs.Names.{Name}
use Rattle.key_kind.specs.declared.key.Key.{Key}
use Rattle.key_kind.specs.Keys.{reference_key}
use Rattle.key_kind.specs.KeyText.{key_text}
use Rattle.bucket_core.specs.declared.event.Change.{Change}
use Rattle.bucket_core.specs.Calls.{refer_event}
use Rattle.bucket_core.specs.declared.contents.Contents.{Contents}
use Rattle.bucket_core.specs.declared.event.Event.{Event}
use Rattle.bucket_core.specs.History.{History, Bytes, key_of, body_of}
use Rattle.bucket_core.specs.Contents.{shown, contents_of}
use Rattle.bucket_core.specs.Heads.{head_in, head_of}

-- the contents are what the history leaves
pub record Shows (c : Contents) (h : History) : Type 0 where
  pub count : c.count ≡ length h
  pub entries : map shown c.entries.entries ≡ contents_of h
  pub heads : (symbol : Name) → head_in c.heads symbol ≡ head_of h symbol

-- how many events the contents stand for
abbrev pub events_of : Contents → ℕ
events_of c = c.count

-- whatever history the old contents show, the new ones show it with one event more, which sets this under the key and is no Refer
abbrev pub Sets : Contents → Contents → Key → Option Bytes → Type 0
Sets old new key body = (h : History) (e : Event) → Shows old h → key_of e ≡ key → body_of e ≡ body → ((symbol : Name) → head_of (e ∷ h) symbol ≡ head_of h symbol) → Shows new (e ∷ h)

-- whatever history the old contents show, the new ones show it with a Refer more, which sets the symbol's reference to this entry
abbrev pub SetsReference : Contents → Contents → Name → Key → Key → Bytes → Type 0
SetsReference old new symbol key entry mark = (h : History) (client : ℕ) (was : Option Key) (list : List Change) → Shows old h → key ≡ reference_key symbol → mark ≡ key_text entry → Shows new (refer_event client symbol was entry list ∷ h)

-- whatever history the old contents show, the new ones show it too
abbrev pub ShowsSame : Contents → Contents → Type 0
ShowsSame old new = (h : History) → Shows old h → Shows new h
